-- What units see of the library.
use Rattle.std.proofs.Common.{◌≡◌, ℕ, Bool, true, false, List, [], ◌∷◌, codes, Option, Some, None, option_map, if◌then◌else◌, Result, Ok, Err, OnOk, sym, ap, ◌∙◌}
use Rattle.ada_syntax.specs.declared.name.Identifier.{Identifier}
use Rattle.ada_rules.specs.Entities.{key, same_name, test_io}
use Rattle.ada_rules.specs.Environment.{World, entity_of_unit}
use Rattle.ada_rules.specs.Library as language
use Rattle.ada_rules.specs.Library.{unit_named, denoted_in_with, with_seen, seen_more}
use Rattle.ada_entities.specs.declared.entity.Entity.{Entity}
use Rattle.ada_entities.specs.declared.units.Interface.{Interface}
use Rattle.ada_entities.specs.EntityViews.{region_of}
use Rattle.ada_entities.specs.RegionCode.{Sees}
use Rattle.ada_library.specs.declared.library.Library.{Library}
use Rattle.ada_library.specs.Seeing.{IsDenoted, SeesNames}

-- what a name denotes in `with`
module _ (w : World) (l : language.Library) (i : Identifier) (name : List ℕ) (e : key i ≡ name) where
  by_io : (b : Bool) → same_name name (codes "test_io") ≡ b
      → denoted_in_with w l i ≡ (if b then Some test_io else option_map (entity_of_unit w) (unit_named l.names (key i)))
  by_io b h =
      ap (λ c. if c then Some test_io else option_map (entity_of_unit w) (unit_named l.names (key i))) (ap (λ n. same_name n (codes "test_io")) e ∙ h)

  pub denotes_io : same_name name (codes "test_io") ≡ true → Some test_io ≡ denoted_in_with w l i
  denotes_io h = sym (by_io true h)

  pub denotes_unit : (o : Option ℕ) → same_name name (codes "test_io") ≡ false → o ≡ unit_named l.names name
      → option_map (entity_of_unit w) o ≡ denoted_in_with w l i
  denotes_unit o h found =
      ap (option_map (entity_of_unit w)) (found ∙ ap (unit_named l.names) (sym e)) ∙ sym (by_io false h)

-- a name that is seen too, and one that denotes nothing
module _ (x : Library) (units : List Interface) (i : Identifier) (lower : List ℕ) (e : lower ≡ key i) (old : List (List ℕ × Entity)) where
  pub see_one : {E : Type 0} (entity : Entity) (new : List (List ℕ × Entity)) (result : Result (Unit {0}) E)
      → IsDenoted x units lower (Some entity) → OnOk result (Sees old lower entity new) → OnOk result (SeesNames x units old (i ∷ []) new)
  see_one entity new (Err f) d h = tt
  see_one entity new (Ok u) d h =
      λ all k w l s more.
      ap (seen_more w l more) (h k ∙ (λ z. with_seen (e z) (d all k w l s i (sym e) z) (region_of k old)))

  pub see_none : IsDenoted x units lower None → SeesNames x units old (i ∷ []) old
  see_none d all k w l s more =
      ap (λ o. seen_more w l more (with_seen (key i) o (region_of k old))) (d all k w l s i (sym e))
