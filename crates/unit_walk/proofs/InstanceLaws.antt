-- Instances, as other units see them, of the rules' definitions.
use Rattle.std.proofs.Common.{◌≡◌, ℕ, List, [], Option, Result, Ok, refl, sym, ap, ◌∙◌, subst}
use Rattle.cov_base.specs.declared.position.Pos.{Pos}
use Rattle.cov_base.specs.declared.failure.Failure.{Failure}
use Rattle.cov_base.specs.declared.failure.Failure.TheVariants.{Fault, WantOfMemory}
use Rattle.ada_syntax.specs.declared.unit.Instance.{Instance}
use Rattle.ada_rules.specs.Entities.{Actual}
use Rattle.ada_rules.specs.Environment.{World, State, Given, given, Env}
use Rattle.ada_rules.specs.Statics.{Facts}
use Rattle.ada_rules.specs.Units.{env_of, instance_judged, with_instance}
use Rattle.ada_entities.specs.Answers.{Refuses, refused_at, no_memory}
use Rattle.ada_entities.specs.declared.entity.Entity.{Entity}
use Rattle.ada_entities.specs.declared.fault.Refusal.{Refusal}
use Rattle.ada_entities.specs.EntityViews.{Tables, region_of}
use Rattle.ada_library.specs.declared.library.Library.{Library}
use Rattle.ada_demands.specs.SpanViews as spans
use Rattle.ada_demands.specs.SpanViews.{listed}
use Rattle.ada_phrases.specs.declared.scope.Step.{Step}
use Rattle.ada_phrases.specs.Scopes.{step_of}
use Rattle.ada_phrases.proofs.Parts.{refused_as}
use Rattle.program_walk.specs.declared.place.Notes.{Notes}
use Rattle.program_walk.specs.declared.place.Place.{Place}
use Rattle.program_walk.specs.Places as places
use Rattle.program_walk.specs.declared.symbols.Symbols.{Symbols}
use Rattle.program_walk.specs.SymbolViews as symbols
use Rattle.program_walk.specs.Sites.{HoldsUnits}
use Rattle.program_walk.proofs.PlaceLaws.{units_stay}
use Rattle.program_walk.specs.declared.context.Context.{Context}
use Rattle.program_walk.specs.declared.walk.Walk.{Walk}
use Rattle.program_walk.specs.States.{kept_state, state_of}
use Rattle.program_walk.specs.Walks.{Begins, IsPlaceOf}
use Rattle.specifications.specs.Actuals.{actuals_in}
use Rattle.program_walk.specs.Going.{Stays}
use Rattle.unit_walk.specs.declared.instantiation.Instantiated.{Instantiated}
use Rattle.program_walk.specs.Standing.{StandsBefore}
use Rattle.unit_walk.specs.Entering.{IsUnitContext, IsEntered, Leaves}
use Rattle.unit_walk.specs.Instantiating.{instantiated_of, instance_part, judged_from, behind_instance, Makes, KeepsSymbols, SeesInstance}
use Rattle.unit_walk.proofs.InstantiatingLaws.{judged}
use Rattle.unit_walk.specs.Walked.{IsWalked}
use Rattle.unit_walk.proofs.BetweenLaws.{left_becomes, as_entered, stands_in_unit}

-- an instance is refused where its generic or its actuals are
judged_refused : (w : World) (p : Pos) (n number : ℕ) (i : Instance) (r : Result (Given (Option ℕ × List Actual)) Pos) (f : Failure Refusal)
    → Refuses r f → Refuses (judged_from w p n number i r) f
judged_refused w p n number i r f (refused_at h) = refused_at (ap (judged_from w p n number i) h)
judged_refused w p n number i r f no_memory = no_memory

-- where an instance is refused, the walk goes on from before
pub notes_stay : (old first : Walk) (seen : List (List ℕ × Entity)) → IsEntered old seen [] first → (new : Notes) (f : Failure Refusal)
    → Stays old (record first { notes = new }) f
notes_stay old first seen e new (Fault x) = λ k b. record {
  symbols = e.symbols.begins k b.symbols;
  spans = subst (λ s. spans.Begins s k) e.spans b.spans;
}
notes_stay old first seen e new WantOfMemory = tt

-- the unit was entered, and its generic and its actuals were looked at
module _ (step : Step) (x : Library) (facts : List Facts) (n : ℕ) (name : List ℕ) (c : Context) (in_unit : IsUnitContext step x facts n name c)
    (old first : Walk) (seen : List (List ℕ × Entity)) (e : IsEntered old seen [] first)
    (place : Place) (placed : IsPlaceOf c first.symbols place) (p : Pos) (number : ℕ) (i : Instance)
    (k : Tables) (world : World) (b : StandsBefore x facts old k world) (begins : Begins first k) where
  abbrev pub env : Env
  env = env_of (step_of step) world n name (region_of k seen)

  at_place : places.StandsAt place k env
  at_place =
      let s = stands_in_unit step x facts n name c in_unit old first seen e k world b begins in
      placed k env s.symbols s.instances s.generic

  abbrev pub part_in : State → Result (Given (Option ℕ × List Actual)) Pos
  part_in s = (instance_part env s p number i).answer

  whole : (instance_judged env (state_of k old) p n number i).answer ≡ judged_from world p n number i (part_in (state_of k first))
  whole = judged env (state_of k old) p n number i ∙ ap (λ s. judged_from world p n number i (part_in s)) (sym (e.state k))

  pub instance_refused : (new : Notes) (f : Failure Refusal)
      → ((k : Tables) (env : Env) (s : State) → places.StandsAt place k env
      → Refuses (instance_part env (places.with_notes k first.notes s) p number i).answer f)
      → Refuses (instance_judged env (state_of k old) p n number i).answer f
  instance_refused new f h =
      refused_as _ _ f whole
      (judged_refused world p n number i (part_in (state_of k first)) f (h k env (kept_state k first.counts first.found) at_place))

  module _ (made : Instantiated) (second : Walk)
      (comes : (k : Tables) (env : Env) (s : State) → places.StandsAt place k env
      → (instance_part env (places.with_notes k first.notes s) p number i).answer
      ≡ Ok (given (instantiated_of k made) (places.with_notes k second.notes s)))
      (same : state_of k second ≡ places.with_notes k second.notes (kept_state k first.counts first.found)) where
    instance_comes : (instance_judged env (state_of k old) p n number i).answer
        ≡ Ok (with_instance world p n number i made.generic (actuals_in k made.actuals) (state_of k second))
    instance_comes =
        whole
        ∙ (ap (judged_from world p n number i) (comes k env (kept_state k first.counts first.found) at_place)
        ∙ ap (λ s. Ok (with_instance world p n number i made.generic (actuals_in k made.actuals) s)) (sym same))

    -- it was left, made and is seen
    module _ (left : Leaves first.symbols second.symbols) (spans_kept : listed second.spans ≡ listed first.spans)
        (third : Walk) (after : List Facts) (makes : Makes p number i.name made second facts third after) (kept : KeepsSymbols second third)
        (last : Symbols) (sees : SeesInstance third.symbols last n made number) (b_last : Begins (record third { symbols = last }) k)
        (b_third : Begins third k) where
      held : HoldsUnits second.symbols k world
      held =
          units_stay old.symbols second.symbols [] k world (left_becomes old first first.symbols second.symbols seen [] [] e (as_entered old first seen [] e) left)
          (subst (λ s. symbols.Begins s k) kept.symbols b_third.symbols) b.units

      held_behind : HoldsUnits third.symbols k world
      held_behind = subst (λ s. HoldsUnits s k world) (sym kept.symbols) held

      is_made : with_instance world p n number i made.generic (actuals_in k made.actuals) (state_of k second)
          ≡ behind_instance world n number made.generic (actuals_in k made.actuals) after (state_of k third)
      is_made = makes k world n i held (subst (λ s. spans.Begins s k) kept.spans b_third.spans) b.instances refl

      pub instance_walked : IsWalked x after (record third { symbols = last }) k (instance_judged env (state_of k old) p n number i).answer
      instance_walked =
          let now = sees k world held_behind b_last.symbols in
          let made_now = behind_instance world n number made.generic (actuals_in k made.actuals) after (state_of k third) in
          record {
            world = made_now.world;
            comes = instance_comes ∙ ap (λ y. Ok y) is_made;
            stands = record {
              units = record {
                known = now.known;
                begins = now.begins;
                actuals = now.actuals;
                given_types = now.given_types;
                interfaces = now.interfaces;
                standard = now.standard;
              };
              spans = b_last.spans;
              instances = refl;
              library = record {
                units = b.library.units;
                library = b.library.library;
                is = b.library.is;
                bodies = b.library.bodies;
              };
            };
          }
