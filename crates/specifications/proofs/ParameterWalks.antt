-- Parameters of a specification, as the walk goes on over them.
use Rattle.std.proofs.Common.{◌≡◌, ℕ, ◌+◌, ◌<◌, ◌≤◌, List, [], ◌∷◌, length, drop, get_or, None, Ok, sym, ap, ◌∙◌}
use Rattle.std.proofs.lemmas.List.{at_drop_all, at_drop_more, append-nil}
use Rattle.cov_base.specs.declared.position.Pos.{Pos}
use Rattle.cov_base.specs.declared.failure.Failure.{Failure}
use Rattle.ada_syntax.specs.declared.unit.Parameter.{Parameter as Source}
use Rattle.ada_meaning.specs.Types.{here}
use Rattle.ada_rules.specs.Environment.{given, Env}
use Rattle.ada_rules.specs.Subprograms.{parameters_judged}
use Rattle.ada_entities.specs.Answers.{Refuses}
use Rattle.ada_entities.specs.declared.fault.Refusal.{Refusal}
use Rattle.ada_entities.specs.declared.routines.Parameter.{Parameter}
use Rattle.ada_entities.specs.EntityViews.{Tables}
use Rattle.ada_phrases.proofs.Parts.{refused_as}
use Rattle.specifications.specs.Profiles.{parameters_of}
use Rattle.program_walk.specs.declared.context.Context.{Context}
use Rattle.program_walk.specs.declared.walk.Walk.{Walk}
use Rattle.program_walk.specs.States.{state_of}
use Rattle.program_walk.specs.Walks.{Begins, StandsAt, with_innermost}
use Rattle.program_walk.specs.Going.{region_in, GoesInside}
use Rattle.program_walk.proofs.GoingLaws.{region_is, stands_then}
use Rattle.specifications.specs.Parameters.{behind_parameters}
use Rattle.specifications.proofs.ParameterLaws.{none_behind, behind_refused}

-- where the walk stands behind some parameters, from which the rest comes to what all of them come to
pub record Reaches (c : Context) (old new : Walk) (k : Tables) (env : Env) (all rest : List Source) (done : List Parameter) : Type 0 where
  pub here_now : Env
  pub stands : StandsAt c new k here_now
  pub comes : (p : Pos) → (parameters_judged env (state_of k old) p all).answer
      ≡ behind_parameters k done (parameters_judged here_now (state_of k new) p rest).answer

pub reaches_first : (c : Context) (w : Walk) (k : Tables) (env : Env) (all : List Source) → StandsAt c w k env → Reaches c w w k env all all []
reaches_first c w k env all h = record { here_now = env; stands = h; comes = λ p. none_behind k env (state_of k w) p all }

module _ (c : Context) (old middle : Walk) (k : Tables) (env : Env) (all : List Source) (i : ℕ) (before : List Parameter)
    (r : Reaches c old middle k env all (drop i all) before) where
  rest_at : (x : Source) (p : Pos) → i < length all → x ≡ get_or all i x
      → (parameters_judged env (state_of k old) p all).answer
      ≡ behind_parameters k before (parameters_judged r.here_now (state_of k middle) p (x ∷ drop (i + 1) all)).answer
  rest_at x p less e =
      r.comes p
      ∙ (at_drop_more (λ xs. behind_parameters k before (parameters_judged r.here_now (state_of k middle) p xs).answer) all i x less
      ∙ ap (λ y. behind_parameters k before (parameters_judged r.here_now (state_of k middle) p (y ∷ drop (i + 1) all)).answer) (sym e))

  pub reaches_next : (x : Source) (new : Walk) (after : List Parameter) → i < length all → x ≡ get_or all i x → GoesInside middle new → Begins new k
      → ((p : Pos) (qs : List Source)
      → behind_parameters k before (parameters_judged r.here_now (state_of k middle) p (x ∷ qs)).answer
      ≡ behind_parameters k after (parameters_judged (with_innermost new k r.here_now) (state_of k new) p qs).answer)
      → Reaches c old new k env all (drop (i + 1) all) after
  reaches_next x new after less e goes b has = record {
    here_now = with_innermost new k r.here_now;
    stands = stands_then c middle k r.here_now r.stands new goes b;
    comes = λ p. rest_at x p less e ∙ has p (drop (i + 1) all);
  }

  pub refuses_next : (x : Source) (f : Failure Refusal) (p : Pos) → i < length all → x ≡ get_or all i x
      → ((q : Pos) (qs : List Source) → Refuses (parameters_judged r.here_now (state_of k middle) q (x ∷ qs)).answer f)
      → Refuses (parameters_judged env (state_of k old) p all).answer f
  refuses_next x f p less e h =
      refused_as _ _ f (rest_at x p less e)
      (behind_refused k before (parameters_judged r.here_now (state_of k middle) p (x ∷ drop (i + 1) all)).answer f (h p (drop (i + 1) all)))

  pub reaches_last : (p : Pos) → length all ≤ i
      → (parameters_judged env (state_of k old) p all).answer
      ≡ Ok (given (record { parameters = parameters_of k here before; result = None; region = region_in k middle }) (state_of k middle))
  reaches_last p none =
      r.comes p
      ∙ (at_drop_all (λ xs. behind_parameters k before (parameters_judged r.here_now (state_of k middle) p xs).answer) all i none
      ∙ (λ z. Ok (given (record {
        parameters = append-nil (parameters_of k here before) z;
        result = None;
        region = region_is c middle k r.here_now r.stands z;
      }) (state_of k middle))))
