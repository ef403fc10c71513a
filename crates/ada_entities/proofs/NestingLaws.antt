-- Regions that stand one in the other, as the code keeps them: the innermost last.
use Rattle.std.proofs.Common.{◌≡◌, ℕ, List, [], ◌∷◌, ◌++◌, reverse, Option, Some, None, option_map, refl, sym, ap, ◌∙◌}
use Rattle.std.specs.Option.{option_or}
use Rattle.std.proofs.lemmas.List.{reverse-append, map-append}
use Rattle.ada_rules.specs.Entities as rules
use Rattle.ada_rules.specs.Entities.{found}
use Rattle.ada_entities.specs.declared.entity.Entity.{Entity}
use Rattle.ada_entities.specs.EntityViews.{Tables, entity_of, region_of}
use Rattle.ada_entities.specs.RegionCode.{regions_of, found_behind}

or_assoc : (p q o : Option rules.Entity) → option_or p (option_or q o) ≡ option_or (option_or p q) o
or_assoc None q o = refl
or_assoc (Some x) q o = refl

or_none : (p : Option rules.Entity) → p ≡ option_or p None
or_none None = refl
or_none (Some x) = refl

-- what stands inside other regions is looked at first
found_append : (name : List ℕ) (rs ss : List rules.Region) → found name (rs ++ ss) ≡ option_or (found name rs) (found name ss)
found_append name [] ss = refl
found_append name (r ∷ rs) ss =
    ap (λ o. option_or (rules.entity_of name r) o) (found_append name rs ss) ∙ or_assoc (rules.entity_of name r) (found name rs) (found name ss)

-- a look-up that goes through the regions from the outermost
found_from_outside : (k : Tables) (name : List ℕ) (rs : List (List (List ℕ × Entity))) (o : Option rules.Entity)
    → found_behind k name o rs ≡ option_or (found name (regions_of k (reverse rs))) o
found_from_outside k name [] o = refl
found_from_outside k name (r ∷ rs) o =
    let x = rules.entity_of name (region_of k r) in
    let inside = found name (regions_of k (reverse rs)) in
    let all = ap (λ q. found name (regions_of k q)) (reverse-append (r ∷ []) rs)
    ∙ (ap (found name) (map-append (region_of k) (reverse rs) (r ∷ [])) ∙ found_append name (regions_of k (reverse rs)) (region_of k r ∷ [])) in
    found_from_outside k name rs (option_or x o)
    ∙ (or_assoc inside x o ∙ (ap (λ p. option_or (option_or inside p) o) (or_none x) ∙ ap (λ p. option_or p o) (sym all)))

pub found_from_nothing : (k : Tables) (name : List ℕ) (rs : List (List (List ℕ × Entity))) → found_behind k name None rs ≡ found name (regions_of k (reverse rs))
found_from_nothing k name rs = found_from_outside k name rs None ∙ sym (or_none (found name (regions_of k (reverse rs))))

pub or_seen : (k : Tables) (o p : Option Entity) → option_map (entity_of k) (option_or o p) ≡ option_or (option_map (entity_of k) o) (option_map (entity_of k) p)
or_seen k None p = refl
or_seen k (Some x) p = refl

-- a name that no region declares is looked up in the predefined ones
pub found_or : (name : List ℕ) (rs : List rules.Region) (r : rules.Region) → option_or (found name rs) (rules.entity_of name r) ≡ found name (rs ++ r ∷ [])
found_or name rs r = ap (λ o. option_or (found name rs) o) (or_none (rules.entity_of name r)) ∙ sym (found_append name rs (r ∷ []))
