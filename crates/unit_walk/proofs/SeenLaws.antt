-- What units see of the library leads only to what is there.
use Rattle.std.proofs.Common.{ℕ, List, [], map, refl, sym, ap, ◌∙◌}
use Rattle.ada_syntax.specs.declared.unit.Unit.{Unit as LibraryUnit}
use Rattle.ada_rules.specs.Entities.{Actual, whole_standard}
use Rattle.ada_rules.specs.Environment as environment
use Rattle.ada_rules.specs.Environment.{World}
use Rattle.ada_rules.specs.Library.{Library as RulesLibrary}
use Rattle.ada_rules.specs.Units.{seen_in, seen_in_body}
use Rattle.ada_entities.specs.declared.entity.Entity.{Entity}
use Rattle.ada_entities.specs.declared.units.Interface.{Interface}
use Rattle.ada_entities.specs.EntityViews.{Tables, entity_of}
use Rattle.ada_entities.specs.UnitViews.{interface_of}
use Rattle.ada_library.specs.declared.library.Library.{Library}
use Rattle.ada_library.specs.LibraryView.{IsLibrary}
use Rattle.ada_library.specs.Seeing.{Stands, IsSeen, IsSeenInBody}
use Rattle.program_walk.specs.declared.symbols.Symbols.{Symbols}
use Rattle.program_walk.specs.Alike.{IsKnownRegion}
use Rattle.program_walk.specs.SymbolViews.{IsKnown}
use Rattle.program_walk.specs.Standing.{IsKnownEntity}

-- a world of these units alone
abbrev world_with : List environment.Interface → World
world_with is = record { standard = whole_standard; names = []; interfaces = is; instances = []; bodies = [] }

abbrev nothing : ℕ → List Actual
nothing n = []

abbrev world_of : Tables → List Interface → World
world_of k units = world_with (map (interface_of k nothing) units)

stands : (x : Library) (units : List Interface) (all : List LibraryUnit) (k : Tables) (l : RulesLibrary) → IsLibrary x all l
    → Stands x units all k (world_of k units) l
stands x units all k l h = record { library = h; actuals = nothing; interfaces = refl }

pub seen_known : (x : Library) (all : List LibraryUnit) (l : RulesLibrary) (symbols : Symbols) (u : LibraryUnit) (own : Entity)
    (region : List (List ℕ × Entity)) → IsLibrary x all l → IsKnown symbols → IsKnownEntity symbols.extent own
    → IsSeen x symbols.units u own region → IsKnownRegion symbols.extent region
seen_known x all l symbols u own region h known same seen k m alike =
    seen all k (world_of k symbols.units) l (stands x symbols.units all k l h)
    ∙ (ap (λ is. seen_in (world_with is) l u (entity_of k own)) (known.interfaces k m nothing nothing alike (λ n b. refl))
    ∙ (ap (seen_in (world_of m symbols.units) l u) (same k m alike)
    ∙ sym (seen all m (world_of m symbols.units) l (stands x symbols.units all m l h))))

pub seen_in_body_known : (x : Library) (all : List LibraryUnit) (l : RulesLibrary) (symbols : Symbols) (n : ℕ) (u : LibraryUnit)
    (region : List (List ℕ × Entity)) → IsLibrary x all l → IsKnown symbols → IsSeenInBody x symbols.units all n u region
    → IsKnownRegion symbols.extent region
seen_in_body_known x all l symbols n u region h known seen k m alike =
    seen k (world_of k symbols.units) l (stands x symbols.units all k l h)
    ∙ (ap (λ is. seen_in_body (world_with is) l n u) (known.interfaces k m nothing nothing alike (λ j b. refl))
    ∙ sym (seen m (world_of m symbols.units) l (stands x symbols.units all m l h)))
