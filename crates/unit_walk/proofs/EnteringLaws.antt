-- What opens at the beginning of a unit, and closes at its end.
use Rattle.std.proofs.Common.{◌≡◌, ℕ, Option, List, [], ◌∷◌, map, reverse, refl, sym, ap, ◌∙◌}
use Rattle.std.specs.declared.vec.Vec.{Vec}
use Rattle.std.specs.declared.alloc.Global.{Global}
use Rattle.ada_tree.specs.declared.types.Subtype.{Subtype}
use Rattle.ada_rules.specs.Units.{at_unit}
use Rattle.ada_entities.specs.declared.entity.Entity.{Entity}
use Rattle.ada_entities.specs.declared.units.Interface.{Interface}
use Rattle.ada_entities.specs.RegionCode.{enclosing}
use Rattle.program_walk.specs.declared.symbols.Symbols.{Symbols}
use Rattle.program_walk.specs.Alike.{IsKnownRegion}
use Rattle.program_walk.specs.Changes.{Becomes, Reopens, Closes}
use Rattle.program_walk.proofs.PlaceLaws.{region_stays}
use Rattle.program_walk.specs.declared.walk.Walk.{Walk}
use Rattle.program_walk.specs.declared.found.Found.{Found}
use Rattle.program_walk.specs.Finding.{FindsUnitWords}
use Rattle.program_walk.specs.States.{state_of, with_found, subtype_there}
use Rattle.unit_walk.specs.Entering.{Enters, Leaves, LeavesWords}

-- one change after another, as what both come to
joined : (old middle new : Symbols) (rs ss ts : List (List (List ℕ × Entity))) (is js us : List Interface) → Becomes old middle rs is
    → Becomes middle new ss js → ss ≡ ts → js ≡ us → Becomes old new ts us
joined old middle new rs ss ts is js us a b open_now seen_now = record {
  known = λ h. b.known (a.known h);
  stays = λ h k l alike. a.stays h k l (b.stays (a.known h) k l alike);
  begins = λ k h. a.begins k (b.begins k h);
  regions = b.regions ∙ open_now;
  units = b.units ∙ seen_now;
}

pub entered : (old : Walk) (middle new : Symbols) (seen text : List (List ℕ × Entity)) (words : Vec Subtype Global) → words.items ≡ []
    → (IsKnownRegion old.symbols.extent seen → Reopens old.symbols middle seen) → (IsKnownRegion middle.extent text → Reopens middle new text)
    → Enters old seen text (record old {
      symbols = new;
      counts = record old.counts { types = 0 };
      found = record old.found { library_words = words };
    })
entered old middle new seen text words empty opens_seen opens_text none seen_known text_known known =
    let a = opens_seen seen_known in
    let b = opens_text (region_stays old.symbols middle (seen ∷ old.symbols.regions) old.symbols.units text a known text_known) in
    record {
      symbols = joined old.symbols middle new (seen ∷ old.symbols.regions) (text ∷ middle.regions) (text ∷ seen ∷ []) old.symbols.units
          middle.units old.symbols.units a b (ap (λ rs. text ∷ rs) (a.regions ∙ ap (λ rs. seen ∷ rs) none)) a.units;
      spans = refl;
      state = λ k.
          ap (λ (xs : List Subtype). record (at_unit (state_of k old)) { library_words = reverse (map (subtype_there k) xs) }) empty;
    }

pub left : (old middle new : Symbols) → Closes old middle → Closes middle new → Leaves old new
left old middle new a b =
    joined old middle new (enclosing old.regions) (enclosing middle.regions) (enclosing (enclosing old.regions)) old.units middle.units old.units
    a b (ap enclosing a.regions) a.units

-- what a unit has declared is noted
pub words_left : (old new : Found) (none words : Vec Subtype Global) (n own : ℕ) (g : Option ℕ) → none.items ≡ [] → words ≡ old.library_words
    → FindsUnitWords (record old { library_words = none }) new (record { unit = n; package_unit = own; generic = g; words = words })
    → LeavesWords old n own g new
words_left old new none words n own g empty taken finds k env s unit generic =
    finds k s
    ∙ (λ z. record (with_found k old s) {
      library_words = reverse (map (subtype_there k) (empty z));
      unit_words = record {
        unit = sym unit z;
        package_unit = own;
        generic = sym generic z;
        words = reverse (map (subtype_there k) (ap (λ (v : Vec Subtype Global). v.items) taken z));
      } ∷ (with_found k old s).unit_words;
    })
