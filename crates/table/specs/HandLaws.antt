-- A part of lent bytes that a call hands back, where an answer x says which part: laws of `HandsSpan`.
use Rattle.std.specs.Prelude.{ℕ, ◌+◌, ◌-◌, ◌≡◌, List, [], take, drop}
use Rattle.std.proofs.Common.{sym, ap, ◌∙◌}
use Rattle.std.proofs.Math.Nat.{add-sub_cancel_left}
use Rattle.word.specs.PartLaws.{hands_part, hands_none}
use Rattle.walk.specs.Listing.{Reply, gave}
use Rattle.refusal.specs.Told.{Told}
use Rattle.find.specs.Find.{Span, held_span}

-- what is handed back points to block b, offset q, and has the bytes y; what it is a part of points to a and p and has s
module _ {D : Type 0} (a b : D) (p q : ℕ) (s y : List ℕ) (x : Reply Span Told) where
  abbrev Handed : Type 0
  Handed = (b ≡ a) × (q ≡ p + (held_span x).start) × (y ≡ take (held_span x).len (drop (held_span x).start s))

  -- the part, lent from its start on
  pub hands_at : (c : Span) → gave c ≡ x → b ≡ a → q ≡ p + c.start → y ≡ take (c.start + c.len - c.start) (drop c.start s) → Handed
  hands_at c e block place bytes =
      hands_part a b p q s y (held_span x).start (held_span x).len block c.start (c.start + c.len - c.start) (ap (λ (z : Reply Span Told). (held_span z).start) e)
      (add-sub_cancel_left c.start c.len ∙ ap (λ (z : Reply Span Told). (held_span z).len) e) place bytes

  -- an answer z without one
  pub hands_empty : (z : Reply Span Told) → z ≡ x → held_span z ≡ record { start = 0; len = 0 } → b ≡ a → q ≡ p → y ≡ [] → Handed
  hands_empty z e h block place bytes =
      let g : record { start = 0; len = 0 } ≡ held_span x = sym h ∙ ap held_span e in
      hands_none a b p q s y (held_span x).start (held_span x).len block (ap (λ (c : Span). c.start) g) (ap (λ (c : Span). c.len) g) place bytes
