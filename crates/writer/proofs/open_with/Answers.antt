-- Where the step goes on the subsection is put behind what is written, else nothing changes.
use Rattle.std.proofs.Common.{arith, sym, ◌+◌, length}
use Rattle.writer_decides.specs.CallLaws.{open_goes}
use Rattle.writer.specs.LentLaws.{lent_room}
use Rattle.writer.proofs.open_with.Goals as goal

pub slice_bounds-put_raw-count : goal.slice_bounds-put_raw-count
slice_bounds-put_raw-count c = omega (arith, open_goes c.args.fine _ c.args.buf.now _ _ _ _ (sym c.in_ok-go.ensures))

pub slice_bounds-put_raw-start : goal.slice_bounds-put_raw-start
slice_bounds-put_raw-start c = omega (arith, open_goes c.args.fine _ c.args.buf.now _ _ _ _ (sym c.in_ok-go.ensures))

pub put_raw-requires : goal.put_raw-requires
put_raw-requires c =
    let a = c.args in
    let g = open_goes a.fine (8 + length a.head.now) a.buf.now a.written _ _ _ (sym c.in_ok-go.ensures) in
    (lent_room a.written (8 + length a.head.now) a.buf.now (omega (arith, g)), omega (arith, g))
