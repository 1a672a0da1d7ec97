-- What the answer of a search tells. Source: document 01, "Refusal numbers", and the values that it names for each.
-- Definitions only; contracts of inner calls alone cite them.
use Rattle.lines.specs.Told.{told_named}
use Rattle.body_list.specs.Search.{FoundBody}
use Rattle.body_list.specs.declared.Located.{Located}

abbrev pub told_located : Located → FoundBody
told_located x = record { reply = told_named x.named; known = x.known }
