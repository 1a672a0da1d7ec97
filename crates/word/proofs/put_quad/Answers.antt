-- As many stores as the number has bytes are its bytes, put.
use Rattle.std.proofs.Common.{arith, ap, ◌∙◌, ◌≡◌, ◌/◌, ◌%◌, ℕ, [], ◌∷◌}
use Rattle.word.specs.Word.{le32, put}
use Rattle.word.specs.WordLaws.{stores4}
use Rattle.word.proofs.put_quad.Goals as goal

pub returns : goal.returns
unfolding le32
returns c =
    let top : c.args.v / 16777216 % 256 ≡ c.args.v / 16777216 = omega arith in
    stores4 c.args.s.now c.args.at _ _ _ _ c.requires
    ∙ rw c.to_le_bytes.ensures (ap (λ (x : ℕ). put c.args.s.now c.args.at (c.args.v % 256 ∷ c.args.v / 256 % 256 ∷ c.args.v / 65536 % 256 ∷ x ∷ [])) top)
