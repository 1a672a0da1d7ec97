-- Each way out is a case of the list of the body's places.
use Rattle.std.proofs.Common.{arith}
use Rattle.std.proofs.lemmas.Result.{err_from_is_err_and}
use Rattle.imports.specs.ListedLaws.{places_number, list_refused, list_short, list_room}
use Rattle.imports.proofs.list_in.Goals as goal

pub returns-in_err-n-clause-result_value : goal.returns-in_err-n-clause-result_value
returns-in_err-n-clause-result_value c =
    let p = err_from_is_err_and c.from_residual.result c.from_residual.ensures.1 in
    rw (p.1, p.2) (list_refused c.args.start _ c.args.places.now _ c.in_err-n.ensures).0

pub returns-in_err-n-clause-places_after : goal.returns-in_err-n-clause-places_after
returns-in_err-n-clause-places_after c = (list_refused c.args.start _ c.args.places.now _ c.in_err-n.ensures).1

pub returns-then-places-n-clause-result_value : goal.returns-then-places-n-clause-result_value
returns-then-places-n-clause-result_value c = (list_short c.args.start _ c.args.places.now _ c.in_ok-n.ensures c.if-places-n.true).0

pub returns-then-places-n-clause-places_after : goal.returns-then-places-n-clause-places_after
returns-then-places-n-clause-places_after c = (list_short c.args.start _ c.args.places.now _ c.in_ok-n.ensures c.if-places-n.true).1

pub put_places-requires-clause-body_in_bounds : goal.put_places-requires-clause-body_in_bounds
put_places-requires-clause-body_in_bounds c = omega (arith, places_number c.args.start _ c.args.places.now _ c.in_ok-n.ensures)

pub returns-clause-result_value : goal.returns-clause-result_value
returns-clause-result_value c = (list_room c.args.start _ c.args.places.now _ c.in_ok-n.ensures c.if-places-n.false _ c.put_places.ensures).0

pub returns-clause-places_after : goal.returns-clause-places_after
returns-clause-places_after c = (list_room c.args.start _ c.args.places.now _ c.in_ok-n.ensures c.if-places-n.false _ c.put_places.ensures).1
