-- What an area's bytes are: whole subsections, kind and body, one after the other, and how they end. Reader and writer share this. No kind is
-- judged here. Source: cvinfo.h, `CV_DebugSSubsectionHeader_t` (type, then the number of bytes behind the header), and document 01, "Area and
-- subsections": header whole, then body whole.
-- Definitions only; a reader must believe them.
use Rattle.std.specs.Prelude.{ℕ, ◌+◌, ◌-◌, List, cond, length, take, drop, ltb, eqb}
use Rattle.word.specs.Word.{u32_at}
use Rattle.walk.specs.Listing.{Move, item, over, fail, Listing, all}

pub record Raw : Type 0 where
  pub kind : ℕ
  pub body : List ℕ

-- what is missing where the bytes end too early
pub data Lack : Type 0 where
  noHead noBody : Lack

-- `more r l`: a whole subsection, then l. `ends`: the bytes are used up. `fails c`: what is left is cut
abbrev pub Parts : Type 0
Parts = Listing Raw Lack

-- the front of the bytes: nothing; too few for a header; too few for the body; or a subsection, and the bytes behind it
unfoldable pub bite : List ℕ → Move (List ℕ) Raw Lack
bite s =
    cond (eqb (length s) 0) over
    (cond (ltb (length s) 8) (fail noHead)
    (cond (ltb (length s - 8) (u32_at s 4)) (fail noBody)
    (item (record { kind = u32_at s 0; body = take (u32_at s 4) (drop 8 s) }) (drop (8 + u32_at s 4) s))))

-- all parts of the bytes: a bite, and the parts of what is behind it (`parts_step`)
unfoldable pub parts : List ℕ → Parts
parts = all bite length
