-- Places that change with the symbol table: what the rules look at a construct in has what it keeps, before and after.
use Rattle.std.proofs.Common.{◌≡◌, ℕ, ◌<◌, nat_eq, Bool, true, false, List, [], ◌∷◌, length, map, reverse, set, Option, Some, None, slice_get, unwrap_or, if◌then◌else◌, refl, sym, ap, ◌∙◌, subst, arith, Ok, true≢false}
use Rattle.std.proofs.lemmas.Bool.{eqb-true, eq-eqb}
use Rattle.std.proofs.lemmas.List.{reverse-append, length-reverse, map-set}
use Rattle.cov_base.specs.declared.failure.Failure.{Failure}
use Rattle.ada_syntax.specs.declared.name.Identifier.{Identifier}
use Rattle.ada_rules.specs.Entities as rules
use Rattle.ada_rules.specs.Entities.{Standard, Actual, redefined}
use Rattle.ada_rules.specs.Environment.{World, instance_interface, Env, regions_of, with_local, opened, hide}
use Rattle.ada_rules.specs.Units.{env_of, in_package, with_interface}
use Rattle.ada_entities.specs.declared.entity.Entity.{Entity}
use Rattle.ada_entities.specs.declared.entity.Entity.TheVariants as entity
use Rattle.ada_entities.specs.declared.fault.Refusal.{Refusal}
use Rattle.ada_entities.specs.declared.units.Interface.{Interface}
use Rattle.ada_entities.specs.declared.units.Interface.TheVariants as interface
use Rattle.ada_entities.specs.Views.{actuals_of}
use Rattle.ada_entities.specs.Answers.{Refuses}
use Rattle.ada_entities.specs.EntityViews.{Tables, entity_of, region_of}
use Rattle.ada_entities.specs.RegionCode.{declaration, Declares, RefusesName, Redefines, in_standard, innermost, enclosing, region_at}
use Rattle.ada_entities.specs.UnitViews.{interface_of, GiveSame}
use Rattle.ada_phrases.specs.declared.scope.Step.{Step}
use Rattle.ada_phrases.specs.Scopes.{step_of, text_depth}
use Rattle.program_walk.specs.declared.symbols.Symbols.{Symbols}
use Rattle.program_walk.specs.declared.extent.Extent.{Extent}
use Rattle.program_walk.specs.Known.{knows_instance}
use Rattle.program_walk.specs.Alike.{AreAllAlike, GiveAlike, IsKnownRegion}
use Rattle.program_walk.specs.SymbolViews.{Begins, IsKnown}
use Rattle.program_walk.specs.Sites.{IsAtDepth, StandsInText, HoldsUnits, Holds}
use Rattle.program_walk.specs.Changes.{Becomes, Grows, ChangesInside, Opens, Reopens}
use Rattle.program_walk.proofs.Fronts.{front_get}
use Rattle.program_walk.proofs.RegionChanges.{first, rest}

-- one change after another
pub then_becomes : (old middle new : Symbols) (rs ss : List (List (List ℕ × Entity))) (is js : List Interface) → Becomes old middle rs is
    → Becomes middle new ss js → Becomes old new ss js
then_becomes old middle new rs ss is js a b = record {
  known = λ h. b.known (a.known h);
  stays = λ h k l alike. a.stays h k l (b.stays (a.known h) k l alike);
  begins = λ k h. a.begins k (b.begins k h);
  regions = b.regions;
  units = b.units;
}

-- a region that was taken out leads where it led
pub region_stays : (old new : Symbols) (rs : List (List (List ℕ × Entity))) (is : List Interface) (r : List (List ℕ × Entity)) → Becomes old new rs is
    → IsKnown old → IsKnownRegion old.extent r → IsKnownRegion new.extent r
region_stays old new rs is r b h known k l a = known k l (b.stays h k l a)

-- the regions of a place
first_in : (k : Tables) (rs : List (List (List ℕ × Entity))) → 0 < length rs → first (in_standard k rs) ≡ region_of k (innermost rs)
first_in k [] h = absurd (omega arith)
first_in k (r ∷ rs) h = refl

rest_in : (k : Tables) (rs : List (List (List ℕ × Entity))) → 0 < length rs → rest (in_standard k rs) ≡ in_standard k (enclosing rs)
rest_in k [] h = absurd (omega arith)
rest_in k (r ∷ rs) h = refl

-- the text of a package stays in its place while regions inside it open and change
deeper : (r : List (List ℕ × Entity)) (rs : List (List (List ℕ × Entity))) → 1 < length rs → region_at text_depth (r ∷ rs) ≡ region_at text_depth rs
deeper r rs h =
    ap (λ xs. unwrap_or (slice_get xs 1) []) (reverse-append (r ∷ []) rs)
    ∙ ap (λ o. unwrap_or o []) (sym (front_get (reverse rs) (r ∷ []) [] 1 (omega (arith, h, length-reverse rs))))

depth_inside : (b : Bool) (n : ℕ) → IsAtDepth b n → 1 < n
depth_inside true n h = omega arith
depth_inside false n h = omega arith

outermost_two : (k : Tables) (r : List (List ℕ × Entity)) (rs : List (List (List ℕ × Entity))) → length rs ≡ 2
    → region_of k r ≡ region_of k (region_at text_depth (r ∷ enclosing rs))
outermost_two k r [] h = absurd (omega arith)
outermost_two k r (s ∷ []) h = absurd (omega arith)
outermost_two k r (s ∷ t ∷ []) h = refl
outermost_two k r (s ∷ t ∷ u ∷ rs) h = absurd (omega arith)

text_inside : (k : Tables) (own : rules.Region) (r : List (List ℕ × Entity)) (rs : List (List (List ℕ × Entity))) → 2 < length rs
    → own ≡ region_of k (region_at text_depth rs) → own ≡ region_of k (region_at text_depth (r ∷ enclosing rs))
text_inside k own r [] h t = absurd (omega arith)
text_inside k own r (s ∷ rs) h t =
    t ∙ (ap (region_of k) (deeper s rs (omega (arith, h))) ∙ ap (region_of k) (sym (deeper r rs (omega (arith, h)))))

text_with : (k : Tables) (b : Bool) (own : rules.Region) (r : List (List ℕ × Entity)) (rs : List (List (List ℕ × Entity))) → IsAtDepth b (length rs)
    → own ≡ region_of k (region_at text_depth rs)
    → (if b then region_of k r else own) ≡ region_of k (region_at text_depth (r ∷ enclosing rs))
text_with k true own r rs h t = outermost_two k r rs h
text_with k false own r rs h t = text_inside k own r rs h t

as_long : (r : List (List ℕ × Entity)) (rs : List (List (List ℕ × Entity))) → 0 < length rs → length (r ∷ enclosing rs) ≡ length rs
as_long r [] h = absurd (omega arith)
as_long r (s ∷ rs) h = refl

opened_text : (own : Option ℕ) (rs : List (List (List ℕ × Entity))) (k : Tables) (env : Env) → StandsInText own rs k env
    → StandsInText own ([] ∷ rs) k (opened env)
opened_text None rs k env t = t
opened_text (Some own) rs k env t =
    let inside = depth_inside env.is_library (length rs) t.depth in
    record {
      package_number = t.package_number;
      depth = omega (arith, inside);
      text = t.text ∙ ap (region_of k) (sym (deeper [] rs inside));
    }

local_text : (own : Option ℕ) (r : List (List ℕ × Entity)) (rs : List (List (List ℕ × Entity))) (k : Tables) (env : Env) → 0 < length rs
    → StandsInText own rs k env → StandsInText own (r ∷ enclosing rs) k (with_local env (region_of k r))
local_text None r rs k env h t = t
local_text (Some own) r rs k env h t = record {
  package_number = t.package_number;
  depth = subst (IsAtDepth env.is_library) (sym (as_long r rs h)) t.depth;
  text = text_with k env.is_library env.own r rs t.depth t.text;
}

in_text : (k : Tables) (rs : List (List (List ℕ × Entity))) (b : Bool) → b ≡ true → 0 < length rs → IsAtDepth b (length rs)
    → region_of k (innermost rs) ≡ region_of k (region_at text_depth rs)
in_text k rs false e h d = absurd (true≢false (sym e))
in_text k [] true e h d = absurd (omega arith)
in_text k (r ∷ rs) true e h d = outermost_two k r (r ∷ rs) d

-- what instances have for formals, and one of them this
abbrev with_actuals : (ℕ → List Actual) → ℕ → List Actual → ℕ → List Actual
with_actuals actuals j xs i = if nat_eq i j then xs else actuals i

own_actuals : (actuals : ℕ → List Actual) (j : ℕ) (xs : List Actual) → with_actuals actuals j xs j ≡ xs
own_actuals actuals j xs = ap (λ b. if b then xs else actuals j) (eq-eqb j j refl)

before : (e : Extent) (actuals : ℕ → List Actual) (j : ℕ) (xs : List Actual) → knows_instance e j ≡ false
    → GiveAlike e actuals (with_actuals actuals j xs)
before e actuals j xs fresh i h = by_test (nat_eq i j) refl where
  by_test : (b : Bool) → nat_eq i j ≡ b → actuals i ≡ (if b then xs else actuals i)
  by_test true same = absurd (true≢false (sym h ∙ (ap (knows_instance e) (eqb-true i j same) ∙ fresh)))
  by_test false same = refl

with_given : (actuals : ℕ → List Actual) (j : ℕ) (xs : List Actual) (k : Tables) → ((i : ℕ) → GiveSame (actuals i) (actuals_of k.types i))
    → GiveSame xs (actuals_of k.types j) → (i : ℕ) → GiveSame (with_actuals actuals j xs i) (actuals_of k.types i)
with_given actuals j xs k given same i = by_test (nat_eq i j) refl where
  by_test : (b : Bool) → nat_eq i j ≡ b → GiveSame (if b then xs else actuals i) (actuals_of k.types i)
  by_test true e = subst (λ n. GiveSame xs (actuals_of k.types n)) (sym (eqb-true i j e)) same
  by_test false e = given i

alike_itself : (e : Extent) (k : Tables) → AreAllAlike e k k
alike_itself e k = record {
  typed = record { shapes = λ j h. refl; instances = λ i h. refl; spans = refl };
  routines = λ j h. refl;
}

-- the units of a world, where the table grows, and where another unit is seen
pub units_stay : (old new : Symbols) (rs : List (List (List ℕ × Entity))) (k : Tables) (w : World) → Becomes old new rs old.units → Begins new k
    → HoldsUnits old k w → HoldsUnits new k w
units_stay old new rs k w g begins u = record {
  known = g.known u.known;
  begins = begins;
  actuals = u.actuals;
  given_types = u.given_types;
  interfaces = u.interfaces ∙ ap (map (interface_of k u.actuals)) (sym g.units);
  standard = u.standard;
}

pub units_shown : (old new : Symbols) (rs : List (List (List ℕ × Entity))) (k : Tables) (w : World) (n : ℕ) (i : Interface)
    → Becomes old new rs (set old.units n i) → Begins new k → (u : HoldsUnits old k w) → HoldsUnits new k (with_interface w n (interface_of k u.actuals i))
units_shown old new rs k w n i g begins u = record {
  known = g.known u.known;
  begins = begins;
  actuals = u.actuals;
  given_types = u.given_types;
  interfaces = ap (λ is. set is n (interface_of k u.actuals i)) u.interfaces
      ∙ (sym (map-set (interface_of k u.actuals) old.units n i) ∙ ap (map (interface_of k u.actuals)) (sym g.units));
  standard = u.standard;
}

-- an instance is seen that was not there before, with what it has for the formals of its generic
pub units_instance : (old new : Symbols) (rs : List (List (List ℕ × Entity))) (k : Tables) (w : World) (n : ℕ) (g : Option ℕ) (j : ℕ) (xs : List Actual)
    → Becomes old new rs (set old.units n (interface.Instance g j)) → Begins new k → knows_instance old.extent j ≡ false → GiveSame xs (actuals_of k.types j)
    → HoldsUnits old k w → HoldsUnits new k (with_interface w n (instance_interface g j xs))
units_instance old new rs k w n g j xs b begins fresh same u = record {
  known = b.known u.known;
  begins = begins;
  actuals = with_actuals u.actuals j xs;
  given_types = with_given u.actuals j xs k u.given_types same;
  interfaces = ap (λ is. set is n (instance_interface g j xs))
      (u.interfaces
      ∙ u.known.interfaces k k u.actuals (with_actuals u.actuals j xs) (alike_itself old.extent k) (before old.extent u.actuals j xs fresh))
      ∙ (ap (λ ys. set (map (interface_of k (with_actuals u.actuals j xs)) old.units) n (instance_interface g j ys)) (sym (own_actuals u.actuals j xs))
      ∙ (sym (map-set (interface_of k (with_actuals u.actuals j xs)) old.units n (interface.Instance g j))
      ∙ ap (map (interface_of k (with_actuals u.actuals j xs))) (sym b.units)));
  standard = u.standard;
}

-- a unit that sees this of the library, and the text of a package
pub holds_unit : (now : Step) (symbols : Symbols) (k : Tables) (w : World) (n : ℕ) (name : List ℕ) (seen : List (List ℕ × Entity))
    → HoldsUnits symbols k w → symbols.regions ≡ [] ∷ seen ∷ [] → Holds now None symbols k (env_of (step_of now) w n name (region_of k seen))
holds_unit now symbols k w n name seen u e = record {
  units = u;
  step = refl;
  inside = subst (λ rs. 0 < length rs) (sym e) (omega arith);
  regions = ap (λ (x : Standard). [] ∷ region_of k seen ∷ x.predefined ∷ []) u.standard ∙ ap (in_standard k) (sym e);
  text = refl;
}

pub holds_package : (now : Step) (symbols : Symbols) (k : Tables) (w : World) (n : ℕ) (name : List ℕ) (seen text : List (List ℕ × Entity)) (g : Option ℕ) (own : ℕ)
    → HoldsUnits symbols k w → symbols.regions ≡ text ∷ seen ∷ []
    → Holds now (Some own) symbols k (in_package (env_of (step_of now) w n name (region_of k seen)) g own (region_of k text))
holds_package now symbols k w n name seen text g own u e = record {
  units = u;
  step = refl;
  inside = subst (λ rs. 0 < length rs) (sym e) (omega arith);
  regions = ap (λ (x : Standard). region_of k text ∷ region_of k seen ∷ x.predefined ∷ []) u.standard ∙ ap (in_standard k) (sym e);
  text = record {
    package_number = refl;
    depth = ap length e;
    text = ap (λ rs. region_of k (region_at text_depth rs)) (sym e);
  };
}

-- what else an environment has does not count
text_alike : (own : Option ℕ) (rs : List (List (List ℕ × Entity))) (k : Tables) (env other : Env) → other.own_package ≡ env.own_package
    → other.own ≡ env.own → other.is_library ≡ env.is_library → StandsInText own rs k env → StandsInText own rs k other
text_alike None rs k env other p o l t = p ∙ t
text_alike (Some own) rs k env other p o l t = record {
  package_number = p ∙ t.package_number;
  depth = subst (λ b. IsAtDepth b (length rs)) (sym l) t.depth;
  text = o ∙ t.text;
}

pub holds_alike : (now : Step) (own : Option ℕ) (symbols : Symbols) (k : Tables) (env other : Env) → other.world ≡ env.world → other.step ≡ env.step
    → regions_of other ≡ regions_of env → other.own_package ≡ env.own_package → other.own ≡ env.own → other.is_library ≡ env.is_library
    → Holds now own symbols k env → Holds now own symbols k other
holds_alike now own symbols k env other w s r p o l h = record {
  units = subst (λ x. HoldsUnits symbols k x) (sym w) h.units;
  step = s ∙ h.step;
  inside = h.inside;
  regions = r ∙ h.regions;
  text = text_alike own symbols.regions k env other p o l h.text;
}

module _ (now : Step) (own : Option ℕ) (old new : Symbols) (k : Tables) (env : Env) (h : Holds now own old k env) (begins : Begins new k) where
  -- the innermost region, and those round it
  pub local_is : env.local ≡ region_of k (innermost old.regions)
  local_is = ap first h.regions ∙ first_in k old.regions h.inside

  pub outer_is : env.outer ≡ in_standard k (enclosing old.regions)
  outer_is = ap rest h.regions ∙ rest_in k old.regions h.inside

  -- in declarations of the library level the text of the package is the innermost
  pub text_is : (n : ℕ) → own ≡ Some n → env.is_library ≡ true → env.local ≡ region_of k (region_at text_depth old.regions)
  text_is n is top =
      local_is ∙ in_text k old.regions env.is_library top h.inside (subst (λ o. StandsInText o old.regions k env) is h.text).depth

  -- what is declared, hidden and changed in the innermost region
  pub hide_passes : (i : Identifier) → Declares (innermost old.regions) i entity.Hidden (innermost new.regions)
      → (hide env.local i).answer ≡ Ok (region_of k (innermost new.regions))
  hide_passes i d = ap (λ r. declaration r i rules.hidden) local_is ∙ d k

  pub hide_refused : (i : Identifier) (f : Failure Refusal) → RefusesName (innermost old.regions) i entity.Hidden f
      → Refuses (hide env.local i).answer f
  hide_refused i f d = subst (λ r. Refuses (declaration r i rules.hidden) f) (sym local_is) (d k)

  pub redefined_is : (name : List ℕ) (x : Entity) → Redefines (innermost old.regions) name x (innermost new.regions)
      → region_of k (innermost new.regions) ≡ redefined name (entity_of k x) env.local
  redefined_is name x d = d k ∙ ap (redefined name (entity_of k x)) (sym local_is)

  -- more types, instances and subprograms
  pub holds_grown : Grows old new → Holds now own new k env
  holds_grown g = record {
    units = units_stay old new old.regions k env.world g begins h.units;
    step = h.step;
    inside = subst (λ rs. 0 < length rs) (sym g.regions) h.inside;
    regions = h.regions ∙ ap (in_standard k) (sym g.regions);
    text = subst (λ rs. StandsInText own rs k env) (sym g.regions) h.text;
  }

  -- a new region inside
  pub holds_opened : Opens old new → Holds now own new k (opened env)
  holds_opened g = record {
    units = units_stay old new ([] ∷ old.regions) k env.world g begins h.units;
    step = h.step;
    inside = subst (λ rs. 0 < length rs) (sym g.regions) (omega arith);
    regions = ap (λ rs. [] ∷ rs) h.regions ∙ ap (in_standard k) (sym g.regions);
    text = subst (λ rs. StandsInText own rs k (opened env)) (sym g.regions) (opened_text own old.regions k env h.text);
  }

  -- another innermost region
  pub holds_inside : ChangesInside old new → Holds now own new k (with_local env (region_of k (innermost new.regions)))
  holds_inside g =
      let r = innermost new.regions in
      record {
        units = units_stay old new (r ∷ enclosing old.regions) k env.world g begins h.units;
        step = h.step;
        inside = subst (λ rs. 0 < length rs) (sym g.regions) (omega arith);
        regions = ap (λ rs. region_of k r ∷ rs) outer_is ∙ ap (in_standard k) (sym g.regions);
        text = subst (λ rs. StandsInText own rs k (with_local env (region_of k r))) (sym g.regions)
            (local_text own r old.regions k env h.inside h.text);
      }

  -- a region inside that has declarations already
  pub holds_reopened : (r : List (List ℕ × Entity)) → Reopens old new r → Holds now own new k (with_local (opened env) (region_of k r))
  holds_reopened r g = record {
    units = units_stay old new (r ∷ old.regions) k env.world g begins h.units;
    step = h.step;
    inside = subst (λ rs. 0 < length rs) (sym g.regions) (omega arith);
    regions = ap (λ rs. region_of k r ∷ rs) h.regions ∙ ap (in_standard k) (sym g.regions);
    text = subst (λ rs. StandsInText own rs k (with_local (opened env) (region_of k r))) (sym g.regions)
        (local_text own r ([] ∷ old.regions) k (opened env) (omega arith) (opened_text own old.regions k env h.text));
  }
