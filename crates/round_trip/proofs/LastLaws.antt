-- What `plain_of` says of the last subsection of a plain area, by what the area lists and by its bytes: crate `plain`, `Last`.
use Rattle.std.specs.Prelude.{ℕ, ◌+◌, ◌≤◌, ◌≡◌, ◌⊎◌, List, [], ◌∷◌, ◌++◌, length, take, drop}
use Rattle.std.proofs.Common.{sym, ap, ◌∙◌, subst, inl, inr, ⊎_elim, arith, take_at, drop_at}
use Rattle.std.proofs.Math.Option.{some}
use Rattle.word.specs.Word.{Bytes}
use Rattle.walk.specs.Listing.{more, ends, before}
use Rattle.refusal.specs.Told.{longest}
use Rattle.area.specs.Parts.{Raw, parts}
use Rattle.kinds.specs.Kind.{crate_rule}
use Rattle.area.specs.Join.{join}
use Rattle.area.specs.JoinLaws.{parts_whole, join_append}
use Rattle.reading.specs.Reading.{Item, reading}
use Rattle.plain.specs.Plain.{Last, nothing_yet, plain_of}
use Rattle.round_trip.specs.Secs.{Sec, kind_sec, body_sec, raw_sec, mark_sec, raws_of, calls_of, last_of}
use Rattle.round_trip.proofs.SecLaws.{plain_join, reads_join}
use Rattle.round_trip.proofs.HoldLaws.{raws_snoc, last_snoc, Snoc, snoc_view}
use Rattle.round_trip.proofs.BackLaws.{plain_back}
use Rattle.round_trip.specs.Listed.{kind_after, mark_after}
use Rattle.round_trip.proofs.ExactLaws.{last_after}
use Rattle.round_trip.proofs.DemandHolds.{crate_knows, plain_short}

-- the last subsection of s begins at a place, before which whole subsections stand, and is of a kind
abbrev pub LastAt : List ℕ → ℕ → ℕ → Type 0
LastAt s p k = ((rs : List Raw) × (parts (take p s) ≡ before rs ends)) × ((b : List ℕ) × (parts (drop p s) ≡ more (record { kind = k; body = b }) ends))

pub record LastIs (s : List ℕ) (l : Last) : Type 0 where
  pub calls : List Item
  pub read : reading crate_rule s ≡ before calls ends
  pub kind : l.kind ≡ kind_after 0 calls
  pub mark : l.mark ≡ mark_after 0 calls
  pub header : (l ≡ nothing_yet) ⊎ LastAt s l.header l.kind

last_at_lem : (ss : List Sec) → Snoc ss → LastAt (join (raws_of ss)) (last_of 0 nothing_yet ss).header (last_of 0 nothing_yet ss).kind
last_at_lem ss v =
    let J : List ℕ = join (raws_of v.init) in
    let l : last_of 0 nothing_yet ss ≡ record { header = 0 + length J; kind = kind_sec v.last; mark = mark_sec v.last } =
    ap (last_of 0 nothing_yet) v.is ∙ last_snoc v.init v.last 0 nothing_yet in
    let e : join (raws_of ss) ≡ J ++ join (raw_sec v.last ∷ []) =
    ap (λ (x : List Sec). join (raws_of x)) v.is ∙ ap join (raws_snoc v.init v.last) ∙ join_append (raws_of v.init) (raw_sec v.last ∷ []) in
    let d : drop (last_of 0 nothing_yet ss).header (join (raws_of ss)) ≡ join (raw_sec v.last ∷ []) =
    ap (λ (x : List ℕ). drop (last_of 0 nothing_yet ss).header x) e
    ∙ drop_at J (join (raw_sec v.last ∷ [])) (last_of 0 nothing_yet ss).header
    (let x : (last_of 0 nothing_yet ss).header ≡ 0 + length J = ap (λ (x : Last). x.header) l in omega arith) in
    let f : take (last_of 0 nothing_yet ss).header (join (raws_of ss)) ≡ J =
    ap (λ (x : List ℕ). take (last_of 0 nothing_yet ss).header x) e
    ∙ take_at J (join (raw_sec v.last ∷ [])) (last_of 0 nothing_yet ss).header
    (let x : (last_of 0 nothing_yet ss).header ≡ 0 + length J = ap (λ (x : Last). x.header) l in omega arith) in (
      (raws_of v.init, ap parts f ∙ parts_whole (raws_of v.init)),
      (
        body_sec v.last,
        ap parts d ∙ parts_whole (raw_sec v.last ∷ [])
            ∙ ap (λ (k : ℕ). more (record { kind = k; body = body_sec v.last }) ends) (sym (ap (λ (x : Last). x.kind) l)),
      ),
    )

moved_at : (s t : List ℕ) (l m : Last) → t ≡ s → l ≡ m → LastAt t m.header m.kind → LastAt s l.header l.kind
moved_at s t l m e f = subst (λ (x : List ℕ). LastAt t m.header m.kind → LastAt x l.header l.kind) e
    (subst (λ (x : Last). LastAt t x.header x.kind → LastAt t l.header l.kind) f (λ z. z))

-- THE THEOREM
pub last_is : (s : List ℕ) (l : Last) → Bytes s → plain_of s ≡ some l → LastIs s l
last_is s l h q =
    let B = plain_back s l h q in
    let ss = B.0 in
    let short : length (join (raws_of ss)) ≤ longest = rw B.1 (plain_short s l q) in
    let same : l ≡ last_of 0 nothing_yet ss = let z = sym q ∙ ap plain_of (sym B.1) ∙ plain_join ss B.2 short in cc in
    let a = last_after ss 0 nothing_yet in
    record {
      calls = calls_of ss;
      read = ap (reading crate_rule) (sym B.1) ∙ reads_join crate_rule crate_knows ss B.2 short;
      kind = ap (λ (x : Last). x.kind) same ∙ a.0;
      mark = ap (λ (x : Last). x.mark) same ∙ a.1;
      header =
          ⊎_elim (λ e. inl (same ∙ ap (last_of 0 nothing_yet) e))
          (λ v. inr (moved_at s (join (raws_of ss)) l (last_of 0 nothing_yet ss) B.1 same (last_at_lem ss v))) (snoc_view ss);
    }
