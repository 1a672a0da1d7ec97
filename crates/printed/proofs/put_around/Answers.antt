-- Its pieces one after the other, where all of them have the room.
use Rattle.text.specs.Text.{ascii}
use Rattle.text.specs.PageLaws.{just, and_one, pieces_whole, written_none}
use Rattle.printed.specs.PrintedLaws.{around_size}
use Rattle.printed.proofs.put_around.Goals as goal

pub returns-in-Err : goal.returns-in-Err
returns-in-Err c =
    let a = c.args in
    written_none _ _ _ _ (around_size a.head.now a.bytes.now) _ c.in-Err.ensures

pub returns-in-Ok : goal.returns-in-Ok
unfolding ascii
returns-in-Ok c =
    let a = c.args in
    pieces_whole _ _ _ _ _ _ _ (around_size a.head.now a.bytes.now) c.in-Ok.ensures
    (and_one _ _ _ _ _ (and_one _ _ _ _ _ (just _ _ _ c.put_bytes-a.ensures) c.put_sum-b.ensures) c.put_bytes.ensures)
