-- The tests come first.
use Rattle.std.proofs.lemmas.Result.{err_from_is_err_and}
use Rattle.symbol_lines.specs.SymbolLaws.{symbol_refused}
use Rattle.symbol_lines.proofs.lines_for_symbol.Goals as goal

pub returns-in_err-n : goal.returns-in_err-n
returns-in_err-n c =
    let p = err_from_is_err_and c.from_residual.result c.from_residual.ensures.1 in
    rw (p.1, p.2) (symbol_refused _ _ _ _ _ _ _ c.in_err-n.ensures)
