-- The part of the line that was made is put.
use Rattle.std.proofs.Common.{sym, ap}
use lib.Seq.{length-take-le}
use Rattle.text.specs.Told.{told_place}
use Rattle.printed.proofs.put_line.Goals as goal

pub slice_bounds-put_bytes-end : goal.slice_bounds-put_bytes-end
slice_bounds-put_bytes-end c = sym (length-take-le _ _ (c.requires _ (ap told_place c.in_ok-n.was)))
