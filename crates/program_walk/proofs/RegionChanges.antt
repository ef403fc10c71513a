-- Regions and units that change, and lead only to what is there as before.
use Rattle.std.proofs.Common.{◌≡◌, ℕ, zero, suc, true, List, [], ◌∷◌, set, replicate, Result, Ok, refl, sym, ap, ◌∙◌}
use Rattle.std.proofs.lemmas.List.{map-set}
use Rattle.ada_syntax.specs.declared.name.Identifier.{Identifier}
use Rattle.ada_rules.specs.Entities as rules
use Rattle.ada_rules.specs.Entities.{Actual, redefined}
use Rattle.ada_rules.specs.Environment as environment
use Rattle.ada_rules.specs.Environment.{package_interface, generic_interface, instance_interface, subprogram_interface}
use Rattle.ada_entities.specs.declared.entity.Entity.{Entity}
use Rattle.ada_entities.specs.declared.units.Interface.{Interface}
use Rattle.ada_entities.specs.declared.units.Interface.TheVariants as interface
use Rattle.ada_entities.specs.EntityViews.{Tables, entity_of, region_of}
use Rattle.ada_entities.specs.RegionCode.{declaration, Declares, Redefines, regions_of, innermost, enclosing}
use Rattle.ada_entities.specs.UnitViews.{interface_of}
use Rattle.program_walk.specs.declared.extent.Extent.{Extent}
use Rattle.program_walk.specs.Known.{knows_entity, knows_interface}
use Rattle.program_walk.specs.Alike.{IsKnownRegion, AreKnownRegions, IsKnownInterface, AreKnownInterfaces}
use Rattle.program_walk.specs.Changes.{ShowsKnown}
use Rattle.program_walk.proofs.AlikeLaws.{entity_same, routine_same}

-- the innermost region, and those round it, as they are seen
abbrev pub first : List rules.Region → rules.Region
first [] = []
first (r ∷ rs) = r

abbrev pub rest : List rules.Region → List rules.Region
rest [] = []
rest (r ∷ rs) = rs

pub first_of : (k : Tables) (rs : List (List (List ℕ × Entity))) → region_of k (innermost rs) ≡ first (regions_of k rs)
first_of k [] = refl
first_of k (r ∷ rs) = refl

pub rest_of : (k : Tables) (rs : List (List (List ℕ × Entity))) → regions_of k (enclosing rs) ≡ rest (regions_of k rs)
rest_of k [] = refl
rest_of k (r ∷ rs) = refl

pub innermost_known : (e : Extent) (rs : List (List (List ℕ × Entity))) → AreKnownRegions e rs → IsKnownRegion e (innermost rs)
innermost_known e rs h k l a = first_of k rs ∙ (ap first (h k l a) ∙ sym (first_of l rs))

pub enclosing_known : (e : Extent) (rs : List (List (List ℕ × Entity))) → AreKnownRegions e rs → AreKnownRegions e (enclosing rs)
enclosing_known e rs h k l a = rest_of k rs ∙ (ap rest (h k l a) ∙ sym (rest_of l rs))

pub opened_known : (e : Extent) (rs : List (List (List ℕ × Entity))) → AreKnownRegions e rs → AreKnownRegions e ([] ∷ rs)
opened_known e rs h k l a = ap (λ xs. [] ∷ xs) (h k l a)

pub with_known : (e : Extent) (r : List (List ℕ × Entity)) (rs : List (List (List ℕ × Entity))) → IsKnownRegion e r → AreKnownRegions e rs
    → AreKnownRegions e (r ∷ rs)
with_known e r rs g h k l a = λ z. g k l a z ∷ h k l a z

-- a declaration, and one that changes
ok_same : {A E : Type 0} (x y : A) (r s : Result A E) → r ≡ Ok x → s ≡ Ok y → r ≡ s → x ≡ y
ok_same x y r s e f g = cc

pub declared_known : (e : Extent) (old new : List (List ℕ × Entity)) (i : Identifier) (x : Entity) → IsKnownRegion e old → knows_entity e x ≡ true
    → Declares old i x new → IsKnownRegion e new
declared_known e old new i x known h d k l a =
    ok_same (region_of k new) (region_of l new) (declaration (region_of k old) i (entity_of k x)) (declaration (region_of l old) i (entity_of l x)) (d k) (d l)
    (λ z. declaration (known k l a z) i (entity_same a x h z))

pub redefined_known : (e : Extent) (old new : List (List ℕ × Entity)) (name : List ℕ) (x : Entity) → IsKnownRegion e old → knows_entity e x ≡ true
    → Redefines old name x new → IsKnownRegion e new
redefined_known e old new name x known h d k l a = d k ∙ ((λ z. redefined name (entity_same a x h z) (known k l a z)) ∙ sym (d l))

-- units
pub unknown_known : (e : Extent) (n : ℕ) → AreKnownInterfaces e (replicate n interface.Unknown)
unknown_known e zero k l xs ys a g = refl
unknown_known e (suc n) k l xs ys a g = ap (λ is. environment.no_interface ∷ is) (unknown_known e n k l xs ys a g)

pub interface_known : (e : Extent) (i : Interface) → knows_interface e i ≡ true → ShowsKnown e i → IsKnownInterface e i
interface_known e interface.Unknown h s k l xs ys a g = refl
interface_known e (interface.Package r) h s k l xs ys a g = ap package_interface (s k l a)
interface_known e (interface.Generic formals r) h s k l xs ys a g = λ z. generic_interface (s.0 k l a z) (s.1 k l a z)
interface_known e (interface.Instance o n) h s k l xs ys a g = ap (instance_interface o n) (g n h)
interface_known e (interface.Subprogram r) h s k l xs ys a g = ap subprogram_interface (routine_same a r h)

pub set_known : (e : Extent) (is : List Interface) (n : ℕ) (i : Interface) → AreKnownInterfaces e is → IsKnownInterface e i
    → AreKnownInterfaces e (set is n i)
set_known e is n i h s k l xs ys a g =
    map-set (interface_of k xs) is n i
    ∙ ((λ z. set (h k l xs ys a g z) n (s k l xs ys a g z)) ∙ sym (map-set (interface_of l ys) is n i))
