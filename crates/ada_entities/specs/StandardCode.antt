-- How the code's tables of names are read.
use Rattle.std.specs.Prelude.{◌≡◌, ℕ, false, List, [], ◌∷◌, map, Option, Some, None, option_map, slice_get, find}
use Rattle.std.specs.Borrow.{Bor}
use Rattle.ada_rules.specs.ada_meaning.specs.Program.{in_mode, out_mode}
use Rattle.ada_rules.specs.ada_meaning.specs.Tree.{Callee, test_get, test_put}
use Rattle.ada_rules.specs.ada_meaning.specs.Program.{Mode}
use Rattle.ada_rules.specs.Types.{integer_subtype, range_in}
use Rattle.ada_rules.specs.Statics.{within}
use Rattle.ada_rules.specs.Entities.{Region, Routine, same_name, item_parameter}
use Rattle.ada_entities.specs.declared.entity.Entity.{Entity}
use Rattle.ada_entities.specs.EntityViews.{Tables, region_of}

unfoldable pub declared_in : List (Bor (List ℕ) × Entity) → List ℕ → Option Entity
declared_in table name = option_map (λ entry. entry.1) (find (λ entry. same_name name entry.0.now) table)

abbrev pub row_of : Bor (List ℕ) × Entity → List ℕ × Entity
row_of entry = (entry.0.now, entry.1)

abbrev pub table_region : Tables → List (Bor (List ℕ) × Entity) → Region
table_region k table = region_of k (map row_of table)

-- the subprograms of Test_IO
abbrev pub test_routine : Callee → Mode → Routine
test_routine c m = record {
  callee = c;
  parameters = item_parameter m ∷ [];
  result = None;
  values = within (range_in integer_subtype);
  awaits_body = false;
}

-- they have the first two numbers
pub record HasTestIo (k : Tables) : Type 0 where
  pub get : slice_get k.routines 0 ≡ Some (test_routine test_get out_mode)
  pub put : slice_get k.routines 1 ≡ Some (test_routine test_put in_mode)
