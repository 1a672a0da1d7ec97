-- A call that adds an entry to the last subsection: what is known where its step goes on, and what the call answers and leaves. The five calls
-- differ in the entry and its length alone, so each proof says only these.
use Rattle.std.specs.Prelude.{ℕ, ◌+◌, ◌-◌, ◌≤◌, ◌≡◌, List, false, length, Result, Ok, Err}
use Rattle.std.proofs.Common.{sym, ap, ◌∙◌, arith}
use borrow.Rule.Slice.PartMut.{put_mid}
use Rattle.word.specs.PartLaws.{lent}
use Rattle.word.specs.Word.{le32, store}
use Rattle.refusal.specs.Told.{told}
use Rattle.walk.specs.Listing.{refused}
use Rattle.refusal.specs.declared.Refusal.{Refusal}
use Rattle.reading.specs.Reading.{Item, opens}
use Rattle.writer_decides.specs.declared.Go.{Go}
use Rattle.writer_decides.specs.Calls.{item_kind, bytes_for, obeys, needs, act, patch, answered, buffer_after, grow_act}
use Rattle.writer_decides.specs.Told.{told_act}
use Rattle.writer_decides.specs.CallLaws.{needs_is, patch_is, act_is, kind_some, Grows, grow_goes, kept_go, kept_stop}
use Rattle.writer.specs.Told.{told_wrote}
use Rattle.writer.specs.LentLaws.{over, lent_room, lent_grown}

-- a call for an entry of `need` bytes, and the answer s of its step
pub record Adds (it : Item) (need : ℕ → ℕ) (b : List ℕ) (w : ℕ) (s : Result Go Refusal) : Type 0 where
  pub entry : opens it ≡ false
  pub size : (m : ℕ) → needs m it ≡ need m
  pub says : told_act s ≡ grow_act (item_kind it) (λ m. obeys m it) need b w

-- the step says what the call does
acts : {it : Item} {need : ℕ → ℕ} {b : List ℕ} {w : ℕ} {s : Result Go Refusal} → Adds it need b w s → told_act s ≡ act it b w
acts {it} {need} {b} {w} d = d.says ∙ sym (λ i. grow_act (item_kind it) (λ m. obeys m it) (λ m. d.size m i) b w) ∙ sym (act_is it d.entry b w)

-- it goes on
module _ {it : Item} {need : ℕ → ℕ} {b : List ℕ} {w : ℕ} {s : Result Go Refusal} {g : Go} (d : Adds it need b w s) (e : s ≡ Ok g) where
  pub adds_known : Grows (item_kind it) (λ k. obeys k it) need b w g.header g.mark g.next
  adds_known = grow_goes (item_kind it) (λ k. obeys k it) need b w g.header g.mark g.next (kind_some it d.entry) (sym d.says ∙ ap told_act e)

  -- what the writer of the entry and the writer of the last length ask
  pub adds_room : need g.mark ≤ length (lent w b)
  adds_room = lent_room w (need g.mark) b (omega (arith, adds_known))

  pub adds_length : (g.header + 8 ≤ g.next) × (g.next ≤ 16777216)
  adds_length = (omega (arith, adds_known), omega (arith, adds_known))

  pub adds_goes : {y z : List ℕ} {r : Result ℕ Refusal} → y ≡ over (bytes_for g.mark it) (lent w b)
      → (r ≡ Ok g.next) × (z ≡ store (put_mid w (length b - w) b y) (g.header + 4) (le32 (g.next - g.header - 8))) → (told_wrote r ≡ answered it b w) × (z ≡ buffer_after it b w)
  adds_goes {y} {z} {r} ey er =
      let k = adds_known in
      let bs = bytes_for g.mark it in
      let l : length bs ≡ need g.mark = sym (needs_is it d.entry g.mark) ∙ d.size g.mark in
      kept_go (act it b w) (patch it b w) b z g.header g.mark g.next (told_wrote r) (ap told_act (sym e) ∙ acts d) (ap told_wrote er.0)
      (lent_grown w b bs y z g.header g.next (omega arith) (omega arith) ey (omega arith) er.1 ∙ sym (patch_is it d.entry b w g.header g.mark))

-- it stops, and nothing changes
pub adds_stops : {it : Item} {need : ℕ → ℕ} {b : List ℕ} {w : ℕ} {s : Result Go Refusal} {t : Refusal} → Adds it need b w s → s ≡ Err t
    → (refused (told t) ≡ answered it b w) × (b ≡ buffer_after it b w)
adds_stops {it} {need} {b} {w} {s} {t} d e = kept_stop (act it b w) (patch it b w) b (told t) (ap told_act (sym e) ∙ acts d)
