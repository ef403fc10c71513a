-- The evaluations that are under way, as the program keeps them.
use Rattle.std.specs.Prelude.{◌≡◌, nat_eq, Bool, ◌&&◌, Option, Some, None, if◌then◌else◌}
use Rattle.std.specs.HashMap.{get}
use Rattle.vector_rebuild.specs.declared.visit.Key.{Key}
use Rattle.vector_rebuild.specs.declared.half.Half.{Half}
use Rattle.vector_rebuild.specs.declared.halves.Latest.{Latest}
use Rattle.vector_rebuild.specs.declared.halves.Halves.{Halves}

-- whether two keys are the same
abbrev pub same : Key → Key → Bool
same k l = nat_eq k.decision l.decision && (nat_eq k.instance l.instance && nat_eq k.x8 l.x8)

-- what was kept last goes before what the table has
abbrev pub found_in : Option Latest → Key → Option Half → Option Half
found_in None key rest = rest
found_in (Some l) key rest = if same l.key key then l.half else rest

-- the evaluation of a key
abbrev pub half_in : Halves → Key → Option Half
half_in h key = found_in h.latest key (get same h.table key)

-- of each key the same is under way
abbrev pub AreAlike : (old new : Halves) → Type 0
AreAlike old new = (k : Key) → half_in new k ≡ half_in old k
