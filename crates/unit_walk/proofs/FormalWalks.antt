-- Formals of a generic, as the walk goes on over them.
use Rattle.std.proofs.Common.{◌≡◌, ℕ, ◌+◌, ◌<◌, ◌≤◌, List, ◌∷◌, length, drop, get_or, Some, Result, Ok, Err, refl, sym, ap, ◌∙◌}
use Rattle.std.proofs.lemmas.List.{at_drop_all, at_drop_more}
use Rattle.cov_base.specs.declared.position.Pos.{Pos}
use Rattle.cov_base.specs.declared.failure.Failure.{Failure}
use Rattle.ada_syntax.specs.declared.unit.Formal.{Formal}
use Rattle.ada_rules.specs.Plan.{Plan, ◌>>=◌, rule, outcome_after, answer_at}
use Rattle.ada_rules.specs.Entities.{Region}
use Rattle.ada_rules.specs.Environment.{State, Given, given, Env, with_local}
use Rattle.ada_rules.specs.Instances.{formal_declared, formals_declared}
use Rattle.ada_entities.specs.Answers.{Refuses}
use Rattle.ada_entities.specs.declared.fault.Refusal.{Refusal}
use Rattle.ada_entities.specs.EntityViews.{Tables}
use Rattle.ada_phrases.proofs.Parts.{passes_on, in_part, refused_as}
use Rattle.program_walk.specs.declared.context.Context.{Context}
use Rattle.program_walk.specs.declared.walk.Walk.{Walk}
use Rattle.program_walk.specs.States.{state_of}
use Rattle.program_walk.specs.Walks.{Begins, StandsAt, with_innermost}
use Rattle.program_walk.specs.Going.{region_in, GoesInside}
use Rattle.program_walk.proofs.GoingLaws.{region_is, stands_then}

-- what a part comes to, and nothing behind it
handed : {A : Type 0} (p : Pos) (r : Result A Pos) → answer_at p (outcome_after r (λ x. rule (Some x))) ≡ r
handed p (Ok x) = refl
handed p (Err q) = refl

-- the rest behind a formal
abbrev pub the_others : Env → Pos → ℕ → List Formal → Given Region → Plan (Given Region)
the_others env p n fs r = formals_declared (with_local env r.value) r.next p (n + 1) fs >>= (λ rest. rule (Some rest))

module _ (env : Env) (s : State) (p : Pos) (n : ℕ) (f : Formal) (fs : List Formal) where
  pub first_refused : (fault : Failure Refusal) → Refuses (answer_at f.pos (formal_declared env s n f.kind).outcome) fault
      → Refuses (formals_declared env s p n (f ∷ fs)).answer fault
  first_refused fault h = in_part p (answer_at f.pos (formal_declared env s n f.kind).outcome) (the_others env p n fs) fault h

  only_others : (r : Given Region) → answer_at p (the_others env p n fs r).outcome ≡ (formals_declared (with_local env r.value) r.next p (n + 1) fs).answer
  only_others r = handed p (formals_declared (with_local env r.value) r.next p (n + 1) fs).answer

  pub first_passes : (r : Given Region) → answer_at f.pos (formal_declared env s n f.kind).outcome ≡ Ok r
      → (formals_declared env s p n (f ∷ fs)).answer ≡ (formals_declared (with_local env r.value) r.next p (n + 1) fs).answer
  first_passes r h = passes_on p (answer_at f.pos (formal_declared env s n f.kind).outcome) (the_others env p n fs) r h ∙ only_others r

-- where the walk stands behind some formals, from which the rest comes to what all of them come to
pub record Reaches (c : Context) (old new : Walk) (k : Tables) (env : Env) (all rest : List Formal) (n : ℕ) : Type 0 where
  pub here_now : Env
  pub stands : StandsAt c new k here_now
  pub comes : (p : Pos) → (formals_declared env (state_of k old) p 0 all).answer ≡ (formals_declared here_now (state_of k new) p n rest).answer

pub reaches_first : (c : Context) (w : Walk) (k : Tables) (env : Env) (all : List Formal) → StandsAt c w k env → Reaches c w w k env all all 0
reaches_first c w k env all h = record { here_now = env; stands = h; comes = λ p. refl }

module _ (c : Context) (old middle : Walk) (k : Tables) (env : Env) (all : List Formal) (i n : ℕ) (r : Reaches c old middle k env all (drop i all) n) where
  rest_at : (x : Formal) (p : Pos) → i < length all → x ≡ get_or all i x
      → (formals_declared env (state_of k old) p 0 all).answer ≡ (formals_declared r.here_now (state_of k middle) p n (x ∷ drop (i + 1) all)).answer
  rest_at x p less e =
      r.comes p
      ∙ (at_drop_more (λ xs. (formals_declared r.here_now (state_of k middle) p n xs).answer) all i x less
      ∙ ap (λ y. (formals_declared r.here_now (state_of k middle) p n (y ∷ drop (i + 1) all)).answer) (sym e))

  pub reaches_next : (x : Formal) (new : Walk) (m : ℕ) → i < length all → x ≡ get_or all i x → m ≡ n + 1 → GoesInside middle new → Begins new k
      → answer_at x.pos (formal_declared r.here_now (state_of k middle) n x.kind).outcome ≡ Ok (given (region_in k new) (state_of k new))
      → Reaches c old new k env all (drop (i + 1) all) m
  reaches_next x new m less e more goes b has = record {
    here_now = with_innermost new k r.here_now;
    stands = stands_then c middle k r.here_now r.stands new goes b;
    comes = λ p.
        rest_at x p less e
        ∙ (first_passes r.here_now (state_of k middle) p n x (drop (i + 1) all) (given (region_in k new) (state_of k new)) has
        ∙ (λ z. (formals_declared (with_innermost new k r.here_now) (state_of k new) p (sym more z) (drop (i + 1) all)).answer));
  }

  pub refuses_next : (x : Formal) (f : Failure Refusal) (p : Pos) → i < length all → x ≡ get_or all i x
      → Refuses (answer_at x.pos (formal_declared r.here_now (state_of k middle) n x.kind).outcome) f
      → Refuses (formals_declared env (state_of k old) p 0 all).answer f
  refuses_next x f p less e h = refused_as _ _ f (rest_at x p less e) (first_refused r.here_now (state_of k middle) p n x (drop (i + 1) all) f h)

  pub reaches_last : (p : Pos) → length all ≤ i
      → (formals_declared env (state_of k old) p 0 all).answer ≡ Ok (given (region_in k middle) (state_of k middle))
  reaches_last p none =
      r.comes p
      ∙ (at_drop_all (λ xs. (formals_declared r.here_now (state_of k middle) p n xs).answer) all i none
      ∙ (λ z. Ok (given (region_is c middle k r.here_now r.stands z) (state_of k middle))))
