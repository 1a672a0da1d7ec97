-- What the steps of a text tell of its lines: how many there are, few enough to be counted in a machine word, and how long the last one is, by which a
-- refusal is known.
use Rattle.std.specs.Prelude.{ℕ, zero, suc, ◌*◌, ◌≤◌, ◌<◌, ◌≡◌, List, Bool, cond, length, Option, Result}
use Rattle.std.proofs.Math.Path.{refl, ap}
use Rattle.std.proofs.Common.{sym, ◌∙◌}
use Rattle.std.proofs.Math.Bool.{true, false}
use native.Mathlib.Omega.{arith}
use Rattle.std.proofs.Math.Nat.{mul-le-mul}
use Rattle.std.proofs.Math.Dec.{ltb}
use borrow.Author.Tests.{ltb-false, lt-ltb, le-ltb}
use Rattle.walk.specs.Listing.{Listing, more, ends, fails, Answer, gives, none, refuses, Reply, gave, nothing, refused, on_move, moved}
use Rattle.refusal.specs.Told.{Told, told}
use Rattle.refusal.specs.declared.Refusal.{Refusal}
use Rattle.refusal.specs.declared.Refusal.TheVariants as why
use Rattle.kinds.specs.Kind.{Sort}
use Rattle.lines.specs.Lines.{count_lines}
use Rattle.line_walk.specs.Next.{turn_bound, counting}
use Rattle.text.specs.Text.{ascii, joined}
use Rattle.printed.specs.Printed.{Pieces, longest_line, head_line}
use Rattle.order.specs.Order.{slots_after}
use Rattle.listing.specs.Dump.{most_bytes, refusal, closing, sheet_rows, sheet_lines, ends_refused, sheet_refused, sheet_size}
use Rattle.listing.specs.Step.{Line, head_step, step_of, Both, both, line_shown, text_step}
use Rattle.listing.specs.Told.{told_text}
use Rattle.listing.specs.RoomLaws.{room_taken}
use Rattle.listing.specs.LessLaws.{text_left, text_less}
use Rattle.listing.specs.DumpLaws.{lines_from, text_right, lines_new, slots_suffice}
use Rattle.listing.specs.declared.TextWalk.{TextWalk}
use Rattle.listing.specs.declared.TextWalk.TheVariants.{Head, Subs, Done}

-- the size of a listing's last line, or k if it has no line
unfoldable pub last_size : ℕ → Listing Pieces Told → ℕ
last_size k (more x l) = last_size (length (joined x)) l
last_size k ends = k
last_size k (fails t) = k

-- a step as `next_text` answers it: the line by its size
abbrev sized : Line → Answer TextWalk ℕ Told
sized (gives x t) = gives (length (joined x)) t
sized none = none
sized (refuses e) = refuses e

module _ (rule : ℕ → Sort) (s v : List ℕ) where
  abbrev size_from : TextWalk → ℕ
  size_from w = sheet_size (lines_from rule s v w)

  abbrev last_from : ℕ → TextWalk → ℕ
  last_from k w = last_size k (lines_from rule s v w)

  -- the lines that an answer leaves, its own among them, and the size of the last of them, or k
  abbrev pub counted : {B : Type 0} → Answer TextWalk B Told → ℕ
  counted (gives x t) = suc (size_from t)
  counted none = 0
  counted (refuses e) = 0

  abbrev pub lasting : ℕ → Answer TextWalk ℕ Told → ℕ
  lasting k (gives n t) = last_from n t
  lasting k none = k
  lasting k (refuses e) = k

  size_step : (w : TextWalk) → size_from w ≡ counted (sized (step_of rule s v w))
  unfolding sheet_size
  size_step w = ap sheet_size (text_right rule s v w) ∙ by (step_of rule s v w)
    where
      by : (a : Line) → sheet_size (on_move (lines_from rule s v) (moved a)) ≡ counted (sized a)
      by (gives x t) = refl
      by none = refl
      by (refuses e) = refl

  last_step : (k : ℕ) (w : TextWalk) → last_from k w ≡ lasting k (sized (step_of rule s v w))
  unfolding last_size
  last_step k w = ap (last_size k) (text_right rule s v w) ∙ by (step_of rule s v w)
    where
      by : (a : Line) → last_size k (on_move (lines_from rule s v) (moved a)) ≡ lasting k (sized a)
      by (gives x t) = refl
      by none = refl
      by (refuses e) = refl

  -- ---- what `next_text` answers where it has the room says both

  text_sized : (r q : Result (Option (ℕ × TextWalk)) Refusal)
      (b y : List ℕ) (w : TextWalk) → r ≡ q → both (told_text r) y ≡ text_step b (step_of rule s v w) → longest_line ≤ length b
      → sized (step_of rule s v w) ≡ told_text q
  unfolding text_step line_shown
  text_sized r q b y w er e h = by (step_of rule s v w) (e ∙ rw (le-ltb (length b) longest_line h)) ∙ ap told_text er
    where
      by : (a : Line) → both (told_text r) y ≡ line_shown b a → sized a ≡ told_text r
      by (gives x t) z = ap (λ (k : Both). k.answer) (sym z)
      by none z = ap (λ (k : Both). k.answer) (sym z)
      by (refuses t) z = ap (λ (k : Both). k.answer) (sym z)

  pub text_counts : (r q : Result (Option (ℕ × TextWalk)) Refusal)
      (b y : List ℕ) (w : TextWalk) → r ≡ q → both (told_text r) y ≡ text_step b (step_of rule s v w) → longest_line ≤ length b
      → size_from w ≡ counted (told_text q)
  text_counts r q b y w er e h = size_step w ∙ ap counted (text_sized r q b y w er e h)

  pub text_lasts : (r q : Result (Option (ℕ × TextWalk)) Refusal)
      (b y : List ℕ) (k : ℕ) (w : TextWalk) → r ≡ q → both (told_text r) y ≡ text_step b (step_of rule s v w) → longest_line ≤ length b
      → last_from k w ≡ lasting k (told_text q)
  text_lasts r q b y k w er e h = last_step k w ∙ ap (lasting k) (text_sized r q b y w er e h)

  -- ---- no more lines than there is to do

  size_under : (k : ℕ) (w : TextWalk) → text_left rule s w < k → size_from w < k
  size_under zero w h = absurd (omega arith)
  size_under (suc k) w h = by (step_of rule s v w) (λ t x e. size_under k t (omega (arith, text_less rule s v w t x e))) (size_step w)
    where
      by : (a : Line) → ((t : TextWalk) (x : Pieces) → gives x t ≡ a → size_from t < k) → size_from w ≡ counted (sized a) → size_from w < suc k
      by (gives x t) f e = omega (arith, f t x refl)
      by none f e = omega arith
      by (refuses t) f e = omega arith

  counting_few : length s ≤ most_bytes → (x : Reply ℕ Told) → x ≡ count_lines rule s → counting s x ≤ 3276 * 65537
  unfolding turn_bound
  counting_few h (gave n) e = let t = room_taken rule s n e in mul-le-mul {n₂ = 3276} {m₂ = 65537} (omega arith) (omega arith)
  counting_few h nothing e = omega arith
  counting_few h (refused t) e = omega arith

  -- the text of every area can be counted in 32 bits
  pub lines_few : size_from Head < 4294967296
  unfolding head_step
  lines_few = by (ltb most_bytes (length s)) refl (size_step Head)
    where
      by : (t : Bool) → ltb most_bytes (length s) ≡ t
          → size_from Head ≡ counted (sized (cond t (gives (refusal (told why.TooLong)) Done) (gives (head_line (length s)) (Subs 0)))) → size_from Head < 4294967296
      by true q e = omega (arith, size_step Done)
      by false q e = size_under 4294967296 Head (omega (arith, ltb-false most_bytes (length s) q, counting_few (ltb-false most_bytes (length s) q) (count_lines rule s) refl))

-- 3,277 slots suffice for the text of every area: above 65,536 bytes none is read
pub enough : (rule : ℕ → Sort) (s xs v : List ℕ) → v ≡ slots_after rule s xs → 3277 ≡ length xs → lines_from rule s v Head ≡ sheet_lines rule s
unfolding sheet_lines head_step
enough rule s xs v e h = by (ltb most_bytes (length s)) refl
  where
    by : (t : Bool) → ltb most_bytes (length s) ≡ t → lines_from rule s v Head ≡ sheet_lines rule s
    by true q = text_right rule s v Head ∙ rw q (ap (more (refusal (told why.TooLong))) (text_right rule s v Done))
    by false q =
        ap (λ (k : List ℕ). lines_from rule s k Head) e
        ∙ lines_new rule s xs (slots_suffice rule s xs (omega (arith, ltb-false most_bytes (length s) q)) (omega arith))

-- ---- the last line is `end`, of 4 bytes, or a refusal, of more

refusal_long : (t : Told) → ltb 4 (length (joined (refusal t))) ≡ true
unfolding ascii
refusal_long t = lt-ltb 4 (length (joined (refusal t))) (omega arith)

closing_last : (l : Listing Pieces Told) (k : ℕ) → ltb 4 (last_size k (closing l)) ≡ ends_refused l
unfolding closing last_size ascii
closing_last (more x l) k = closing_last l (length (joined x))
closing_last ends k = refl
closing_last (fails t) k = refusal_long t

pub last_tells : (rule : ℕ → Sort) (s : List ℕ) → ltb 4 (last_size 0 (sheet_lines rule s)) ≡ sheet_refused rule s
unfolding sheet_lines sheet_refused last_size
last_tells rule s = by (ltb most_bytes (length s))
  where
    by : (t : Bool) → ltb 4 (last_size 0 (cond t (more (refusal (told why.TooLong)) ends) (more (head_line (length s)) (closing (sheet_rows rule s)))))
        ≡ cond t true (ends_refused (sheet_rows rule s))
    by true = refusal_long (told why.TooLong)
    by false = closing_last (sheet_rows rule s) (length (joined (head_line (length s))))
