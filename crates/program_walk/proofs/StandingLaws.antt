-- Where tables begin with what a symbol table keeps, those that have just this are like them; and there the walk over
-- names and expressions stands.
use Rattle.std.proofs.Common.{◌≡◌, ℕ, ◌<◌, ◌≤◌, Bool, true, false, is_some, true≢false, List, [], ◌∷◌, ◌++◌, length, map, reverse, Option, Some, None, option_map, slice_get, unwrap_or, if◌then◌else◌, refl, sym, ap, ◌∙◌, subst, arith}
use Rattle.std.proofs.lemmas.List.{length-map}
use Rattle.std.proofs.lemmas.Option.{slice_get-map}
use Rattle.ada_rules.specs.Types.{no_field}
use Rattle.ada_rules.specs.Statics.{Spans}
use Rattle.ada_rules.specs.Entities as rules
use Rattle.ada_rules.specs.Entities.{Standard, Actual, given_type}
use Rattle.ada_rules.specs.Environment.{Env}
use Rattle.ada_entities.specs.declared.entity.Entity.{Entity}
use Rattle.ada_entities.specs.declared.routines.Routine.{Routine}
use Rattle.ada_entities.specs.Views.{record_shape, TypeTables, made_at, is_made, actuals_of}
use Rattle.ada_entities.specs.TypeTable.{tables}
use Rattle.ada_entities.specs.EntityViews.{Tables, no_routine, region_of}
use Rattle.ada_entities.specs.RegionCode.{regions_of, in_standard, region_at}
use Rattle.ada_entities.specs.RoutineViews.{routine_in}
use Rattle.ada_entities.specs.UnitViews.{GiveSame, AreUnits}
use Rattle.ada_phrases.specs.declared.scope.Scope.{Scope}
use Rattle.ada_phrases.specs.Scopes.{text_depth, step_of, IsText, StandsIn}
use Rattle.ada_phrases.specs.declared.scope.Step.{Step}
use Rattle.program_walk.specs.declared.extent.Extent.{Extent}
use Rattle.program_walk.specs.declared.symbols.Symbols.{Symbols}
use Rattle.program_walk.specs.Known.{knows_instance}
use Rattle.program_walk.specs.Alike.{AreAlike, AreAllAlike, GiveAlike, AreKnownRoutines}
use Rattle.program_walk.specs.SymbolViews.{HasFront, Begins, IsKnown}
use Rattle.program_walk.specs.Sites.{StandsInText, Holds}
use Rattle.program_walk.specs.Exact.{only_types, exactly, exact}
use Rattle.program_walk.proofs.Fronts.{front_get, map_reverse}
use Rattle.program_walk.proofs.RoutineTables.{all_with}

-- tables of just this much have their own subprograms
pub own_routines : (t : TypeTables) (rs : List Routine) (spans : List Spans) → (exactly t rs spans).routines ≡ map (routine_in (exactly t rs spans)) rs
own_routines t rs spans = all_with (only_types t spans) (map (routine_in (only_types t spans)) rs) rs

-- tables of just this much, and those that begin with it
module _ (e : Extent) (t : TypeTables) (rs : List Routine) (k : Tables) (b : HasFront t rs k) where
  types_alike : e.types ≡ length t.shapes → ((i : ℕ) → knows_instance e i ≡ is_made t.instances i) → AreAlike e (exactly t rs k.spans) k
  types_alike n m = record {
    shapes = λ j h.
        ap (λ o. unwrap_or o (record_shape no_field))
        (front_get t.shapes b.shapes.behind (record_shape no_field) j (subst (λ x. j < x) n h)
        ∙ ap (λ xs. slice_get xs j) (sym b.shapes.joined));
    instances = λ i h. b.instances i (sym (m i) ∙ h);
    spans = refl;
  }

  pub exact_alike : e.types ≡ length t.shapes → ((i : ℕ) → knows_instance e i ≡ is_made t.instances i) → e.routines ≤ length rs → AreKnownRoutines e rs
      → AreAllAlike e (exactly t rs k.spans) k
  exact_alike n m r known = record {
    typed = types_alike n m;
    routines = λ j h.
        ap (λ xs. slice_get xs j) (own_routines t rs k.spans)
        ∙ (known (exactly t rs k.spans) k (types_alike n m) j h
        ∙ (front_get (map (routine_in k) rs) b.subprograms.behind no_routine j
        (omega (arith, h, r, length-map rs (routine_in k)))
        ∙ ap (λ xs. slice_get xs j) (sym b.subprograms.joined)));
  }

pub known_alike : (symbols : Symbols) → IsKnown symbols → (k : Tables) → Begins symbols k
    → AreAllAlike symbols.extent (exact symbols k.spans) k
known_alike symbols is k b =
    exact_alike symbols.extent (tables symbols.types) symbols.routines k b is.types is.instances is.routines is.subprograms

-- what instances have for formals, where they were made
abbrev pub cut : Extent → (ℕ → List Actual) → ℕ → List Actual
cut e actuals n = if knows_instance e n then actuals n else []

pub cut_same : (e : Extent) (actuals : ℕ → List Actual) → GiveAlike e (cut e actuals) actuals
cut_same e actuals n h = ap (λ b. if b then actuals n else []) h

module _ (e : Extent) (t u : TypeTables) (m : (i : ℕ) → knows_instance e i ≡ is_made t.instances i)
    (alike : (i : ℕ) → knows_instance e i ≡ true → actuals_of t i ≡ actuals_of u i) (actuals : ℕ → List Actual)
    (given : (n : ℕ) → GiveSame (actuals n) (actuals_of u n)) where
  given_by : (n : ℕ) (b : Bool) → knows_instance e n ≡ b → GiveSame (if b then actuals n else []) (actuals_of t n)
  given_by n true h = λ place. given n place ∙ ap (λ xs. given_type (slice_get xs place)) (sym (alike n h))
  given_by n false h = λ place. ap (λ xs. given_type (slice_get xs place)) (sym (not_made (made_at t.instances n) (sym (m n) ∙ h))) where
    not_made : (o : Option (List Actual)) → is_some o ≡ false → unwrap_or o [] ≡ []
    not_made None h = refl
    not_made (Some xs) h = absurd (true≢false h)

  pub given_cut : (n : ℕ) → GiveSame (cut e actuals n) (actuals_of t n)
  given_cut n = given_by n (knows_instance e n) refl

-- the text of a package is one of the regions
region_or : (k : Tables) (o : Option (List (List ℕ × Entity))) → region_of k (unwrap_or o []) ≡ unwrap_or (option_map (region_of k) o) []
region_or k None = refl
region_or k (Some r) = refl

abbrev at_depth : ℕ → List rules.Region → rules.Region
at_depth d rs = unwrap_or (slice_get (reverse rs) d) []

pub text_among : (k : Tables) (d : ℕ) (rs : List (List (List ℕ × Entity))) → region_of k (region_at d rs) ≡ at_depth d (regions_of k rs)
text_among k d rs =
    region_or k (slice_get (reverse rs) d)
    ∙ (ap (λ o. unwrap_or o []) (sym (slice_get-map (region_of k) (reverse rs) d))
    ∙ ap (λ xs. unwrap_or (slice_get xs d) []) (map_reverse (region_of k) rs))

pub text_same : (k l : Tables) (rs : List (List (List ℕ × Entity))) → regions_of k rs ≡ regions_of l rs
    → region_of k (region_at text_depth rs) ≡ region_of l (region_at text_depth rs)
text_same k l rs h = text_among k text_depth rs ∙ (ap (at_depth text_depth) h ∙ sym (text_among l text_depth rs))

text_stands : (own : Option ℕ) (k l : Tables) (rs : List (List (List ℕ × Entity))) (env : Env) → regions_of k rs ≡ regions_of l rs
    → StandsInText own rs k env → IsText l rs env own
text_stands None k l rs env h t = t
text_stands (Some own) k l rs env h t = (t.package_number, t.text ∙ text_same k l rs h)

-- The heart: what the walk over names and expressions asks of a place holds at the tables of just what there is.
module _ (now : Step) (own : Option ℕ) (symbols : Symbols) (k : Tables) (env : Env) (h : Holds now own symbols k env) where
  pub units_stand : AreUnits (tables symbols.types) symbols.units (exact symbols k.spans) (cut symbols.extent h.units.actuals) env.world
  units_stand =
      let a = known_alike symbols h.units.known k h.units.begins in
      record {
        typed = refl;
        given = given_cut symbols.extent (tables symbols.types) k.types h.units.known.instances a.typed.instances h.units.actuals h.units.given_types;
        interfaces = h.units.interfaces
            ∙ sym (h.units.known.interfaces (exact symbols k.spans) k (cut symbols.extent h.units.actuals) h.units.actuals a (cut_same symbols.extent h.units.actuals));
      }

  pub regions_stand : regions_of k symbols.regions ≡ regions_of (exact symbols k.spans) symbols.regions
  regions_stand = sym (h.units.known.regions (exact symbols k.spans) k (known_alike symbols h.units.known k h.units.begins))

  pub stands : (scope : Scope) → scope.step ≡ now → scope.types.now ≡ symbols.types → scope.routines.now ≡ symbols.routines
      → scope.units.now ≡ symbols.units → scope.regions.now ≡ symbols.regions → scope.own_package ≡ own
      → StandsIn scope (exact symbols k.spans) env
  stands scope st ty ro un re ow = record {
    step = h.step ∙ ap step_of (sym st);
    regions = h.regions
        ∙ (ap (λ rs. rs ++ rules.predefined_region ∷ []) regions_stand
        ∙ ap (λ rs. in_standard (exact symbols k.spans) rs) (sym re));
    text = subst (λ o. IsText (exact symbols k.spans) scope.regions.now env o) (sym ow)
        (subst (λ rs. IsText (exact symbols k.spans) rs env own) (sym re)
        (text_stands own k (exact symbols k.spans) symbols.regions env regions_stand h.text));
    actuals = cut symbols.extent h.units.actuals;
    units = subst (λ us. AreUnits (tables scope.types.now) us (exact symbols k.spans) (cut symbols.extent h.units.actuals) env.world) (sym un)
        (subst (λ t. AreUnits (tables t) symbols.units (exact symbols k.spans) (cut symbols.extent h.units.actuals) env.world) (sym ty) units_stand);
    routines = own_routines (tables symbols.types) symbols.routines k.spans ∙ ap (map (routine_in (exact symbols k.spans))) (sym ro);
    test_io = h.units.known.test_io (exact symbols k.spans) (own_routines (tables symbols.types) symbols.routines k.spans);
    standard = ap (λ (x : Standard). x.test_io_declarations) h.units.standard;
  }
