-- The instances of a legal program are such as an object has: they have names, and places in its files.
use Rattle.std.proofs.Common.{◌≡◌, ℕ, ◌≤◌, ◌<◌, ◌&&◌, Bool, true, nat_lt, nat_le, List, [], ◌∷◌, length, map, refl, subst, sym, arith, lit≤}
use Rattle.std.specs.List.{AllByRecursion, list_all}
use Rattle.std.specs.Str.{is_utf8}
use Rattle.std.proofs.lemmas.Bool.Decides.{nat_tests}
use Rattle.std.proofs.lemmas.List.{length-map}
use Rattle.std.proofs.lemmas.List.Elements.{All-from_recursion}
use Rattle.std.proofs.lemmas.Str.{IsUtf8-from_ascii, is_utf8-from_IsUtf8}
use Rattle.ada_meaning.specs.Obligations.{instance_entry, no_instance}
use Rattle.ada_meaning.specs.Program.{Instance}
use Rattle.ada_syntax.specs.declared.unit.Unit.{Unit as LibraryUnit}
use Rattle.cov_base.specs.Lists.{Everywhere}
use Rattle.object_format.specs.Counts.{AreCountable, InstanceFits}
use Rattle.object_format.specs.Fields.{are_instances, is_counted, is_instance}
use Rattle.parsed_texts.specs.Places.{IsInFiles}
use Rattle.parsed_texts.specs.legal_names.specs.Named.{IsOfUnits}
use Rattle.program_objects.proofs.TextsOf.{met}

both_hold : (a b : Bool) → a ≡ true → b ≡ true → (a && b) ≡ true
both_hold a b p q = rw (p, q) refl

below : (a b : ℕ) → a < b → nat_lt a b ≡ true
below a b less = grind (arith, nat_tests)

within : (a b : ℕ) → a ≤ b → nat_le a b ≡ true
within a b few = grind (arith, nat_tests)

module _ (files : ℕ) (units : List LibraryUnit) (items : Everywhere (λ (u : LibraryUnit). IsInFiles files u.item_pos) units) where
  in_files : (i : Instance) → IsOfUnits units i → IsInFiles files i.place
  in_files i of_units =
      let at = met (λ (u : LibraryUnit). IsInFiles files u.item_pos) (λ u. i.place ≡ u.item_pos) units items of_units.place in
      subst (IsInFiles files) (sym at.some) at.each

  entry_stands : (i : Instance) → IsOfUnits units i → is_instance files (instance_entry i) ≡ true
  entry_stands i of_units =
      let place = in_files i of_units in
      both_hold (is_utf8 i.name && nat_lt i.place.file files) (is_counted i.place.line i.place.col)
      (both_hold (is_utf8 i.name) (nat_lt i.place.file files) (is_utf8-from_IsUtf8 i.name (IsUtf8-from_ascii i.name of_units.name.ascii)) (below i.place.file files place.0))
      (both_hold (nat_lt 0 i.place.line) (nat_lt 0 i.place.col) (below 0 i.place.line place.1) (below 0 i.place.col place.2))

  entries_stand : (is : List Instance) → Everywhere (IsOfUnits units) is → list_all (is_instance files) (map instance_entry is) ≡ true
  entries_stand [] h = refl
  entries_stand (i ∷ is) h =
      both_hold (is_instance files (instance_entry i)) (list_all (is_instance files) (map instance_entry is)) (entry_stands i h.0) (entries_stand is h.1)

  pub instances_stand : (is : List Instance) → Everywhere (IsOfUnits units) is → length is ≤ 64 → are_instances files (no_instance ∷ map instance_entry is) ≡ true
  instances_stand is h few =
      both_hold (nat_le (length (map instance_entry is)) 64) (list_all (is_instance files) (map instance_entry is))
      (within (length (map instance_entry is)) 64 (omega (arith, few, length-map is instance_entry))) (entries_stand is h)

entries_fit : (units : List LibraryUnit) (is : List Instance) → Everywhere (IsOfUnits units) is → AllByRecursion InstanceFits (map instance_entry is)
entries_fit units [] h = tt
entries_fit units (i ∷ is) h = (let short = h.0.name.short in omega (arith, short), entries_fit units is h.1)

pub instances_fit : (units : List LibraryUnit) (is : List Instance) → Everywhere (IsOfUnits units) is → length is ≤ 64
    → AreCountable InstanceFits (no_instance ∷ map instance_entry is)
instances_fit units is h few = (
  omega (arith, few, length-map is instance_entry),
  All-from_recursion InstanceFits (no_instance ∷ map instance_entry is) (lit≤ tt, entries_fit units is h),
)
