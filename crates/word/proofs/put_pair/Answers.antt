-- As many stores as the number has bytes are its bytes, put.
use Rattle.std.proofs.Common.{arith, ap, ◌∙◌, ◌≡◌, ◌/◌, ◌%◌, ℕ, [], ◌∷◌}
use Rattle.word.specs.Word.{le16, put}
use Rattle.word.specs.WordLaws.{stores2}
use Rattle.word.proofs.put_pair.Goals as goal

pub returns : goal.returns
unfolding le16
returns c =
    let top : c.args.v / 256 % 256 ≡ c.args.v / 256 = omega arith in
    stores2 c.args.s.now c.args.at _ _ c.requires
    ∙ rw c.to_le_bytes.ensures (ap (λ (x : ℕ). put c.args.s.now c.args.at (c.args.v % 256 ∷ x ∷ [])) top)
