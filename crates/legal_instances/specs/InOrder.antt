-- Units that stand in the order of the text, as files are read and numbered.
use Rattle.std.specs.Prelude.{◌≡◌, true, List, [], ◌∷◌}
use Rattle.cov_base.specs.Lists.{Everywhere}
use Rattle.cov_base.specs.TextOrder.{precedes}
use Rattle.ada_syntax.specs.declared.unit.Unit.{Unit as LibraryUnit}

-- the first token of each unit behind its `with` clauses stands before those of all units that follow
abbrev pub UnitsRise : List LibraryUnit → Type 0
UnitsRise [] = Unit {0}
UnitsRise (u ∷ us) = Everywhere (λ v. precedes u.item_pos v.item_pos ≡ true) us × UnitsRise us
