-- Parameters of a specification, one group behind the other, of the rules' definitions.
use Rattle.std.proofs.Common.{◌≡◌, List, [], ◌∷◌, ◌++◌, None, Some, Result, Ok, Err, refl, sym, ap, ◌∙◌}
use Rattle.std.proofs.lemmas.List.{append_assoc}
use Rattle.cov_base.specs.declared.position.Pos.{Pos}
use Rattle.cov_base.specs.declared.failure.Failure.{Failure}
use Rattle.ada_syntax.specs.declared.unit.Parameter.{Parameter as Source}
use Rattle.ada_meaning.specs.Types.{here}
use Rattle.ada_rules.specs.Plan.{Plan, ◌>>=◌, rule, outcome_after, answer_at}
use Rattle.ada_rules.specs.Entities.{Region}
use Rattle.ada_rules.specs.Environment.{State, Given, given, Env, with_local, hide_all}
use Rattle.ada_rules.specs.Expressions.{Marked, mark_part}
use Rattle.ada_rules.specs.Declarations.{with_objects}
use Rattle.ada_rules.specs.Subprograms.{mode_of, Profile, parameters_for, parameter_objects, limited, parameters_judged}
use Rattle.ada_entities.specs.Answers.{Refuses, refused_at, no_memory}
use Rattle.ada_entities.specs.declared.fault.Refusal.{Refusal}
use Rattle.ada_entities.specs.declared.routines.Parameter.{Parameter}
use Rattle.ada_entities.specs.EntityViews.{Tables}
use Rattle.ada_phrases.proofs.Parts.{passes_on, in_part, refused_as}
use Rattle.specifications.specs.Profiles.{parameters_of}
use Rattle.specifications.specs.Parameters.{behind_parameters}

-- where a group of parameters is declared, and the state behind it
abbrev pub group_region : Source → Region → Given Marked → Region
group_region q names t = parameter_objects (mode_of q.mode) t.value.subtype t.next.objects names q.names

abbrev pub group_state : Source → Given Marked → State
group_state q t = with_objects t.value.subtype q.names (limited t.next.objects q.names t.next)

abbrev at_end : Source → Given Marked → Given Profile → Plan (Given Profile)
at_end q t rest = rule (Some (given (record {
  parameters = parameters_for (mode_of q.mode) t.value q.names ++ rest.value.parameters;
  result = None;
  region = rest.value.region;
}) rest.next))

abbrev then_rest : Env → Region → Source → Pos → List Source → Given Marked → Plan (Given Profile)
then_rest env names q p qs t =
    parameters_judged (with_local env (group_region q names t)) (group_state q t) p qs >>= at_end q t

abbrev then_mark : Env → State → Source → Pos → List Source → Region → Plan (Given Profile)
then_mark env s q p qs names = mark_part (with_local env names) s q.mark >>= then_rest env names q p qs

module _ (env : Env) (s : State) (q : Source) (p : Pos) (qs : List Source) where
  pub names_refused : (f : Failure Refusal) → Refuses (hide_all p env.local q.names).answer f
      → Refuses (parameters_judged env s p (q ∷ qs)).answer f
  names_refused f h = in_part p (hide_all p env.local q.names).answer (then_mark env s q p qs) f h

  -- a profile of parameters has no result
  rest_bare : (k : Tables) (t : Given Marked) (r : Result (Given Profile) Pos)
      → answer_at p (outcome_after r (at_end q t)) ≡ behind_parameters k [] (answer_at p (outcome_after r (at_end q t)))
  rest_bare k t (Ok g) = refl
  rest_bare k t (Err x) = refl

  mark_bare : (k : Tables) (names : Region) (r : Result (Given Marked) Pos)
      → answer_at p (outcome_after r (then_rest env names q p qs))
      ≡ behind_parameters k [] (answer_at p (outcome_after r (then_rest env names q p qs)))
  mark_bare k names (Ok t) =
      rest_bare k t (parameters_judged (with_local env (group_region q names t)) (group_state q t) p qs).answer
  mark_bare k names (Err x) = refl

  pub names_bare : (k : Tables) (r : Result Region Pos)
      → answer_at p (outcome_after r (then_mark env s q p qs))
      ≡ behind_parameters k [] (answer_at p (outcome_after r (then_mark env s q p qs)))
  names_bare k (Ok names) = mark_bare k names (mark_part (with_local env names) s q.mark).answer
  names_bare k (Err x) = refl

  module _ (names : Region) (hidden : (hide_all p env.local q.names).answer ≡ Ok names) where
    pub mark_refused : (f : Failure Refusal) → Refuses (mark_part (with_local env names) s q.mark).answer f
        → Refuses (parameters_judged env s p (q ∷ qs)).answer f
    mark_refused f h =
        refused_as _ _ f (passes_on p (hide_all p env.local q.names).answer (then_mark env s q p qs) names hidden)
        (in_part p (mark_part (with_local env names) s q.mark).answer (then_rest env names q p qs) f h)

    rest_behind : (k : Tables) (done new : List Parameter) (t : Given Marked) (r : Result (Given Profile) Pos)
        → parameters_of k here new ≡ parameters_of k here done ++ parameters_for (mode_of q.mode) t.value q.names
        → behind_parameters k done (answer_at p (outcome_after r (at_end q t))) ≡ behind_parameters k new r
    rest_behind k done new t (Ok g) h =
        let own = parameters_for (mode_of q.mode) t.value q.names in
        let e = sym (append_assoc (parameters_of k here done) own g.value.parameters) ∙ ap (λ xs. xs ++ g.value.parameters) (sym h) in
        λ z. Ok (given (record { parameters = e z; result = None; region = g.value.region }) g.next)
    rest_behind k done new t (Err x) h = refl

    pub parameters_pass : (k : Tables) (done new : List Parameter) (t : Given Marked) (region : Region) (n : State)
        → (mark_part (with_local env names) s q.mark).answer ≡ Ok t → region ≡ group_region q names t → n ≡ group_state q t
        → parameters_of k here new ≡ parameters_of k here done ++ parameters_for (mode_of q.mode) t.value q.names
        → behind_parameters k done (parameters_judged env s p (q ∷ qs)).answer
        ≡ behind_parameters k new (parameters_judged (with_local env region) n p qs).answer
    parameters_pass k done new t region n ok is_region is_next named =
        ap (behind_parameters k done)
        (passes_on p (hide_all p env.local q.names).answer (then_mark env s q p qs) names hidden
        ∙ passes_on p (mark_part (with_local env names) s q.mark).answer (then_rest env names q p qs) t ok)
        ∙ (rest_behind k done new t (parameters_judged (with_local env (group_region q names t)) (group_state q t) p qs).answer named
        ∙ (λ z. behind_parameters k new (parameters_judged (with_local env (sym is_region z)) (sym is_next z) p qs).answer))

pub none_behind : (k : Tables) (env : Env) (s : State) (p : Pos) (qs : List Source)
    → (parameters_judged env s p qs).answer ≡ behind_parameters k [] (parameters_judged env s p qs).answer
none_behind k env s p [] = refl
none_behind k env s p (q ∷ qs) = names_bare env s q p qs k (hide_all p env.local q.names).answer

pub behind_refused : (k : Tables) (done : List Parameter) (r : Result (Given Profile) Pos) (f : Failure Refusal) → Refuses r f
    → Refuses (behind_parameters k done r) f
behind_refused k done r f (refused_at h) = refused_at (ap (behind_parameters k done) h)
behind_refused k done r f no_memory = no_memory
