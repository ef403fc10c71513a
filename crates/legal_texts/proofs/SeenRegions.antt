-- What holds of each entity that a unit may see of the library holds of all that it sees.
use Rattle.std.proofs.Common.{ℕ, Bool, true, false, if◌then◌else◌, List, [], ◌∷◌, Option, Some, None, option_map, IfSome}
use Rattle.cov_base.specs.Lists.{Everywhere}
use Rattle.ada_syntax.specs.declared.name.Identifier.{Identifier}
use Rattle.ada_rules.specs.Entities.{key, same_name, Entity, test_io, Region}
use Rattle.ada_rules.specs.Environment.{World, entity_of_unit}
use Rattle.ada_rules.specs.Library.{Library, unit_named, is_test_io, denoted_in_with, seen_too, with_seen, seen_more}

module _ (Q : Entity → Type 0) (io : Q test_io) (w : World) (units : (n : ℕ) → Q (entity_of_unit w n)) where
  abbrev Regions : Region → Type 0
  Regions region = Everywhere (λ e. Q e.1) region

  either_region : (b : Bool) (r o : Region) → Regions r → Regions o → Regions (if b then r else o)
  either_region true r o h k = h
  either_region false r o h k = k

  seen_too_so : (name : List ℕ) (x : Entity) (region : Region) → Q x → Regions region → Regions (seen_too name x region)
  seen_too_so name x [] h all = (h, tt)
  seen_too_so name x (e ∷ es) h all =
      (all.0, either_region (same_name name e.0) es (seen_too name x es) all.1 (seen_too_so name x es h all.1))

  with_seen_so : (name : List ℕ) (o : Option Entity) (region : Region) → IfSome o Q → Regions region → Regions (with_seen name o region)
  with_seen_so name None region h all = all
  with_seen_so name (Some x) region h all = seen_too_so name x region h all

  denoted_so : (l : Library) (i : Identifier) → IfSome (denoted_in_with w l i) Q
  denoted_so l i = if_io (is_test_io i) (unit_named l.names (key i))
    where
      if_io : (b : Bool) (o : Option ℕ) → IfSome (if b then Some test_io else option_map (entity_of_unit w) o) Q
      if_io true o = io
      if_io false None = tt
      if_io false (Some n) = units n

  pub seen_more_so : (l : Library) (is : List Identifier) (region : Region) → Regions region → Regions (seen_more w l is region)
  seen_more_so l [] region all = all
  seen_more_so l (i ∷ is) region all =
      seen_more_so l is (with_seen (key i) (denoted_in_with w l i) region) (with_seen_so (key i) (denoted_in_with w l i) region (denoted_so l i) all)
