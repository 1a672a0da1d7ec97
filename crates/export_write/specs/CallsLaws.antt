-- Laws of the writer calls: with room and without, and that only an answer changes the buffer; and of the test whether an area is plain: the two ways out.
use Rattle.std.specs.Prelude.{ℕ, ◌≤◌, ◌<◌, ◌≡◌, List, length}
use Rattle.std.proofs.Math.Path.{refl}
use Rattle.walk.specs.Listing.{Reply}
use Rattle.walk.specs.Cases.{tests}
use Rattle.refusal.specs.Told.{Told, told, longest}
use Rattle.refusal.specs.declared.Refusal.TheVariants as why
use Rattle.reading.specs.Reading.{Item}
use Rattle.plain.specs.Plain.{plain_of}
use Rattle.writer_decides.specs.Calls.{Act, goes, stops, act, patch, wrote, kept, answered, buffer_after}
use Rattle.answer_words.specs.Given.{Gives, refusal_size, refusal_given, one, reply_given}
use Rattle.answer_words.specs.GivenLaws.{gives_as, room_changes, room_keeps, Still, room_careful}
use Rattle.export_write.specs.Calls.{wrote_given, buffer_left, last_given, plain_given}

module _ (s : List ℕ) where
  pub plain_long : longest < length s → refusal_given 0 (told why.TooLong) ≡ plain_given s
  unfolding plain_given
  plain_long h = simp tests

  pub plain_short : length s ≤ longest → last_given (plain_of s) ≡ plain_given s
  unfolding plain_given
  plain_short h = simp tests

module _ (it : Item) (b : List ℕ) (w : ℕ) (o : List ℕ) where
  pub writer_keeps : length o < refusal_size → Gives o (wrote_given it b w o) 3 o × (b ≡ buffer_left it b w o)
  unfolding wrote_given buffer_left
  writer_keeps h = room_keeps refusal_size o (reply_given one (answered it b w)) b (buffer_after it b w) h

  pub writer_goes : {x : Reply ℕ Told} {y left : List ℕ} {r : ℕ} → refusal_size ≤ length o → (x ≡ answered it b w) × (y ≡ buffer_after it b w) → Gives o (reply_given one x) r left
      → Gives o (wrote_given it b w o) r left × (y ≡ buffer_left it b w o)
  unfolding wrote_given buffer_left
  writer_goes h e g = room_changes refusal_size o (reply_given one (answered it b w)) b (buffer_after it b w) h (gives_as (reply_given one) e.0 g) e.1

  -- THE LAW: with any status but 1 the buffer is as it was
  pub writer_careful : {r : ℕ} {left : List ℕ} → Gives o (wrote_given it b w o) r left → (r ≡ 1 → ⊥) → buffer_left it b w o ≡ b
  unfolding wrote_given buffer_left
  writer_careful g z = room_careful o (answered it b w) b (buffer_after it b w) (still (act it b w)) g z
    where
      still : (a : Act) → Still (wrote a) b (kept a (patch it b w) b)
      still (goes h m n) = tt
      still (stops t) = refl
