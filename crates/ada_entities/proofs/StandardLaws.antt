-- The names that are there before any unit.
use Rattle.std.proofs.Common.{◌≡◌, ℕ, Bool, true, false, cond, List, [], ◌∷◌, codes, map, Option, Some, option_map, slice_get, unwrap_or, refl, ap, ◌∙◌}
use Rattle.std.specs.Borrow.{Bor}
use Rattle.std.specs.Map.{lookup}
use Rattle.ada_rules.specs.Entities as rules
use Rattle.ada_rules.specs.Entities.{Region, Routine, same_name}
use Rattle.ada_rules.specs.ada_meaning.specs.Resolved.{end_error}
use Rattle.ada_rules.specs.ada_meaning.specs.Tree.{predefined}
use Rattle.ada_entities.specs.declared.entity.Entity.{Entity}
use Rattle.ada_entities.specs.EntityViews.{Tables, no_routine, awaiting, entity_of}
use Rattle.ada_entities.specs.StandardCode.{declared_in, row_of, table_region, HasTestIo}
use Rattle.ada_entities.proofs.RegionLaws.{lookup_seen}

found_first : (b : Bool) (e : Bor (List ℕ) × Entity) (o : Option (Bor (List ℕ) × Entity)) (p : Option Entity) → option_map (λ y. y.1) o ≡ p
    → option_map (λ y. y.1) (cond b (Some e) o) ≡ cond b (Some e.1) p
found_first true e o p rest = refl
found_first false e o p rest = rest

declared_lookup : (table : List (Bor (List ℕ) × Entity)) (name : List ℕ) → declared_in table name ≡ lookup (same_name name) (map row_of table)
unfolding declared_in
declared_lookup [] name = refl
declared_lookup (e ∷ es) name = found_first (same_name name e.0.now) e _ _ (declared_lookup es name)

-- a look-up in a table is one in what the table stands for
pub table_found : (k : Tables) (table : List (Bor (List ℕ) × Entity)) (name : List ℕ)
    → option_map (entity_of k) (declared_in table name) ≡ rules.entity_of name (table_region k table)
table_found k table name = ap (option_map (entity_of k)) (declared_lookup table name) ∙ lookup_seen k name (map row_of table)

-- the declarations of Test_IO, where these are its subprograms
abbrev pub test_io_with : (get put : Option Routine) → Region
test_io_with g p =
    (codes "end_error", rules.raisable (predefined end_error)) ∷ (codes "get", rules.routine (awaiting false (unwrap_or g no_routine)))
    ∷ (codes "put", rules.routine (awaiting false (unwrap_or p no_routine))) ∷ []

pub test_io_is : (k : Tables) → HasTestIo k → test_io_with (slice_get k.routines 0) (slice_get k.routines 1) ≡ rules.test_io_region
test_io_is k h = λ z. test_io_with (h.get z) (h.put z)
