-- Nothing is lost in what the answer of a search tells: no second one tells the same.
use Rattle.std.specs.Prelude.{◌≡◌, Result}
use Rattle.std.proofs.Common.{ap}
use Rattle.refusal.specs.declared.Refusal.{Refusal}
use Rattle.find.specs.declared.Span.{Span}
use Rattle.lines.specs.Untold.{untold_named, untold_named_lem}
use Rattle.body_list.specs.Search.{FoundBody}
use Rattle.body_list.specs.Told.{told_located}
use Rattle.body_list.specs.declared.Located.{Located}

abbrev pub untold_located : FoundBody → Located
untold_located x = record { named = untold_named x.reply; known = x.known }

pub untold_located_lem : (x : Located) → untold_located (told_located x) ≡ x
untold_located_lem x = ap (λ (n : Result Span Refusal). record { named = n; known = x.known }) (untold_named_lem x.named)
