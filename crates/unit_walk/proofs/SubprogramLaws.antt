-- Library subprograms, as other units see them, of the rules' definitions.
use Rattle.std.proofs.Common.{◌≡◌, ℕ, List, [], Some, None, Result, Ok, unwrap_or, refl, sym, ap, ◌∙◌, subst}
use Rattle.cov_base.specs.declared.position.Pos.{Pos}
use Rattle.cov_base.specs.declared.failure.Failure.{Failure}
use Rattle.ada_syntax.specs.declared.unit.SubprogramBody.{SubprogramBody}
use Rattle.ada_rules.specs.Plan.{Plan, rule, outcome_after, answer_at}
use Rattle.ada_rules.specs.Entities.{key}
use Rattle.ada_rules.specs.Environment.{World, State, Given, Env, subprogram_interface}
use Rattle.ada_rules.specs.Statics.{Facts}
use Rattle.ada_rules.specs.Subprograms.{Profile, specified, body_number, declared_only}
use Rattle.ada_rules.specs.Units.{Walked, env_of, with_subprogram, library_routine, library_subprogram}
use Rattle.ada_entities.specs.Answers.{Refuses}
use Rattle.ada_entities.specs.declared.entity.Completion.TheVariants as completion
use Rattle.ada_entities.specs.declared.entity.Entity.{Entity}
use Rattle.ada_entities.specs.declared.entity.RoutineName.{RoutineName}
use Rattle.ada_entities.specs.declared.fault.Refusal.{Refusal}
use Rattle.ada_entities.specs.declared.units.Interface.TheVariants as interface
use Rattle.ada_entities.specs.EntityViews.{Tables, region_of}
use Rattle.ada_library.specs.declared.library.Library.{Library}
use Rattle.ada_phrases.specs.declared.scope.Step.{Step}
use Rattle.ada_phrases.specs.Scopes.{step_of}
use Rattle.ada_phrases.proofs.Parts.{passes_on, in_part, refused_as}
use Rattle.program_walk.specs.declared.symbols.Symbols.{Symbols}
use Rattle.program_walk.specs.Changes.{Becomes, ShowsUnit}
use Rattle.specifications.specs.declared.conformance.Profile.{Profile as CodeProfile}
use Rattle.program_walk.specs.declared.context.Context.{Context}
use Rattle.program_walk.specs.declared.walk.Walk.{Walk}
use Rattle.program_walk.specs.States.{state_of}
use Rattle.program_walk.specs.Walks.{Begins, HasLibrary, StandsAt}
use Rattle.specifications.specs.Alone.{HasProfile}
use Rattle.specifications.specs.Routines.{IsRoutineOf}
use Rattle.program_walk.specs.Standing.{StandsBefore}
use Rattle.unit_walk.specs.Entering.{IsUnitContext, IsEntered}
use Rattle.unit_walk.proofs.StandingLaws.{grown, shown}
use Rattle.unit_walk.specs.Subprograms.{IsBodyOrFirst}
use Rattle.unit_walk.specs.Walked.{IsWalked}
use Rattle.unit_walk.proofs.BetweenLaws.{stands_in_unit}

abbrev with_profile : Env → State → ℕ → SubprogramBody → Given Profile → Plan Walked
with_profile env s n b q = rule (Some (with_subprogram env.world n (library_routine env b q.value) (declared_only s q.next)))

-- the unit was entered, and its specification was looked at
module _ (step : Step) (x : Library) (facts : List Facts) (n : ℕ) (name : List ℕ) (c : Context) (in_unit : IsUnitContext step x facts n name c)
    (old first : Walk) (seen : List (List ℕ × Entity)) (e : IsEntered old seen [] first) (b : SubprogramBody)
    (k : Tables) (world : World) (before : StandsBefore x facts old k world) where
  abbrev pub env : Env
  env = env_of (step_of step) world n name (region_of k seen)

  pub stands_there : Begins first k → StandsAt c first k env
  stands_there begins = stands_in_unit step x facts n name c in_unit old first seen e k world before begins

  abbrev pub profile_in : State → Result (Given Profile) Pos
  profile_in s = (specified env s b.specification).answer

  whole : (library_subprogram env (state_of k old) n b).answer
      ≡ answer_at b.specification.pos (outcome_after (profile_in (state_of k first)) (with_profile env (state_of k old) n b))
  whole = ap (λ s. answer_at b.specification.pos (outcome_after (profile_in s) (with_profile env (state_of k old) n b))) (sym (e.state k))

  pub subprogram_refused : (f : Failure Refusal) → Refuses (profile_in (state_of k first)) f
      → Refuses (library_subprogram env (state_of k old) n b).answer f
  subprogram_refused f h = refused_as _ _ f whole (in_part b.specification.pos (profile_in (state_of k first)) (with_profile env (state_of k old) n b) f h)

  -- it was left, and others see it
  module _ (second : Walk) (q : CodeProfile) (has : HasProfile k env first second b.specification q) (body : ℕ)
      (numbered : IsBodyOrFirst c b.specification.name body) (third last : Symbols) (r : RoutineName)
      (routine : IsRoutineOf third None q body completion.Complete r) (grew : Becomes old.symbols third [] old.symbols.units)
      (shows : ShowsUnit third last n (interface.Subprogram r)) (begins : Begins (record second { symbols = last }) k) where
    begun : Begins (record second { symbols = third }) k
    begun = record { symbols = shows.begins k begins.symbols; spans = begins.spans }

    number_is : unwrap_or (body_number env.world env.unit_name (key b.specification.name)) 0 ≡ body
    number_is = sym (numbered env (subst (λ y. HasLibrary y world) (sym in_unit.library) before.library) (sym in_unit.unit_name))

    pub subprogram_walked : IsWalked x facts (record second { symbols = last }) k (library_subprogram env (state_of k old) n b).answer
    subprogram_walked =
        let middle = record second { symbols = third } in
        let stood = grown old middle [] grew x facts k world before begun in
        let same = routine k env (key b.specification.name) has.region begun.symbols refl number_is in
        let now = shown middle (record second { symbols = last }) n (interface.Subprogram r) shows x facts k world stood begins in
        let kept : declared_only (state_of k old) has.next ≡ state_of k second =
        ap (λ s. declared_only s has.next) (sym (e.state k)) ∙ sym has.state in
        record {
          world = _;
          comes = whole
              ∙ (passes_on b.specification.pos (profile_in (state_of k first)) (with_profile env (state_of k old) n b) _ has.comes
              ∙ (λ z. Ok (with_subprogram world n (subprogram_interface (sym same z)) (kept z))));
          stands = now;
        }
