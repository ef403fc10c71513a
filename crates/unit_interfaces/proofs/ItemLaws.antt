-- Items of packages and of their bodies in order: what is left of them comes to what all of them come to, where the walk
-- stands.
use Rattle.std.proofs.Common.{◌≡◌, ℕ, ◌+◌, ◌<◌, ◌≤◌, List, [], ◌∷◌, length, drop, get_or, Some, Result, Ok, Err, refl, sym, ap, ◌∙◌}
use Rattle.std.proofs.lemmas.List.{at_drop_all, at_drop_more}
use Rattle.cov_base.specs.declared.position.Pos.{Pos}
use Rattle.cov_base.specs.declared.failure.Failure.{Failure}
use Rattle.ada_syntax.specs.declared.declaration.Declaration.{Declaration as Source}
use Rattle.ada_tree.specs.declared.statement.Declaration.{Declaration}
use Rattle.ada_rules.specs.Declarations.{Declared, declared}
use Rattle.ada_rules.specs.Plan.{Plan, Judgement, ◌>>=◌, rule, outcome_after, answer_at}
use Rattle.ada_rules.specs.Entities.{Region}
use Rattle.ada_rules.specs.Environment.{State, Given, given, Env, with_local}
use Rattle.ada_entities.specs.Answers.{Refuses, refused_at, no_memory, Answers}
use Rattle.ada_entities.specs.declared.fault.Refusal.{Refusal}
use Rattle.ada_entities.specs.EntityViews.{Tables}
use Rattle.ada_phrases.proofs.Parts.{passes_on, in_part, refused_as}
use Rattle.program_walk.specs.declared.context.Context.{Context}
use Rattle.program_walk.specs.declared.walk.Walk.{Walk}
use Rattle.program_walk.specs.States.{state_of}
use Rattle.program_walk.specs.Walks.{Begins, StandsAt, with_innermost}
use Rattle.program_walk.specs.Going.{region_in}
use Rattle.declarations.specs.Locals.{made_of}
use Rattle.declarations.specs.Made.{behind_made, behind}
use Rattle.declarations.specs.Values.{declared_in}
use Rattle.program_walk.proofs.GoingLaws.{region_is}
use Rattle.unit_walk.specs.specifications.specs.Going.{Advances}
use Rattle.unit_interfaces.proofs.GoingLaws.{stands_advanced}

-- what a part comes to, and nothing behind it
handed : {A : Type 0} (p : Pos) (r : Result A Pos) → answer_at p (outcome_after r (λ x. rule (Some x))) ≡ r
handed p (Ok x) = refl
handed p (Err q) = refl

-- where the walk stands behind some items, from which the rest comes to what all of them come to
pub record Reaches {X : Type 0} (items : Env → State → Pos → List X → Judgement (Given Region)) (c : Context) (old new : Walk) (k : Tables)
    (env : Env) (all rest : List X) : Type 0 where
  pub here_now : Env
  pub stands : StandsAt c new k here_now
  pub comes : (p : Pos) → (items env (state_of k old) p all).answer ≡ (items here_now (state_of k new) p rest).answer

module _ {X : Type 0} (item : Env → State → X → Plan (Given Region)) (items : Env → State → Pos → List X → Judgement (Given Region)) where
  -- the rest behind an item
  abbrev pub the_others : Env → Pos → List X → Given Region → Plan (Given Region)
  the_others env p xs r = items (with_local env r.value) r.next p xs >>= (λ rest. rule (Some rest))

  -- each item stands in the region that those before it leave
  abbrev pub AreInOrder : Type 0
  AreInOrder =
      (env : Env) (s : State) (p : Pos) (x : X) (xs : List X)
      → (items env s p (x ∷ xs)).answer ≡ answer_at p (outcome_after (answer_at p (item env s x).outcome) (the_others env p xs))

  abbrev pub EndThere : Type 0
  EndThere = (env : Env) (s : State) (p : Pos) → (items env s p []).answer ≡ Ok (given env.local s)

  pub reaches_first : (c : Context) (w : Walk) (k : Tables) (env : Env) (all : List X) → StandsAt c w k env → Reaches items c w w k env all all
  reaches_first c w k env all h = record { here_now = env; stands = h; comes = λ p. refl }

  module _ (in_order : AreInOrder) (c : Context) (old middle : Walk) (k : Tables) (env : Env) (all : List X) (i : ℕ)
      (r : Reaches items c old middle k env all (drop i all)) where
    rest_at : (x : X) (p : Pos) → i < length all → x ≡ get_or all i x
        → (items env (state_of k old) p all).answer
        ≡ answer_at p (outcome_after (answer_at p (item r.here_now (state_of k middle) x).outcome) (the_others r.here_now p (drop (i + 1) all)))
    rest_at x p less e =
        r.comes p
        ∙ (at_drop_more (λ xs. (items r.here_now (state_of k middle) p xs).answer) all i x less
        ∙ (ap (λ y. (items r.here_now (state_of k middle) p (y ∷ drop (i + 1) all)).answer) (sym e)
        ∙ in_order r.here_now (state_of k middle) p x (drop (i + 1) all)))

    pub reaches_next : (x : X) (new : Walk) → i < length all → x ≡ get_or all i x → Advances middle new → Begins new k
        → ((p : Pos) → answer_at p (item r.here_now (state_of k middle) x).outcome ≡ Ok (given (region_in k new) (state_of k new)))
        → Reaches items c old new k env all (drop (i + 1) all)
    reaches_next x new less e goes b has = record {
      here_now = with_innermost new k r.here_now;
      stands = stands_advanced c middle new k r.here_now r.stands goes b;
      comes = λ p.
          rest_at x p less e
          ∙ (passes_on p (answer_at p (item r.here_now (state_of k middle) x).outcome) (the_others r.here_now p (drop (i + 1) all))
          (given (region_in k new) (state_of k new)) (has p)
          ∙ handed p (items (with_innermost new k r.here_now) (state_of k new) p (drop (i + 1) all)).answer);
    }

    pub refuses_next : (x : X) (f : Failure Refusal) (p : Pos) → i < length all → x ≡ get_or all i x
        → Refuses (answer_at p (item r.here_now (state_of k middle) x).outcome) f → Refuses (items env (state_of k old) p all).answer f
    refuses_next x f p less e h =
        refused_as _ _ f (rest_at x p less e)
        (in_part p (answer_at p (item r.here_now (state_of k middle) x).outcome) (the_others r.here_now p (drop (i + 1) all)) f h)

  pub reaches_last : EndThere → (c : Context) (old middle : Walk) (k : Tables) (env : Env) (all : List X) (i : ℕ)
      → Reaches items c old middle k env all (drop i all) → (p : Pos) → length all ≤ i
      → (items env (state_of k old) p all).answer ≡ Ok (given (region_in k middle) (state_of k middle))
  reaches_last end c old middle k env all i r p none =
      r.comes p
      ∙ (at_drop_all (λ xs. (items r.here_now (state_of k middle) p xs).answer) all i none
      ∙ (end r.here_now (state_of k middle) p
      ∙ (λ z. Ok (given (region_is c middle k r.here_now r.stands z) (state_of k middle)))))

-- a declaration, whatever it makes
module _ (env : Env) (p : Pos) (old new : Walk) (k : Tables) (d : Source) (before after : List Declaration) where
  abbrev only_region : Declared → Plan (Given Region)
  only_region x = rule (Some (given x.region x.next))

  region_from : (a : Result Declared Pos) → behind (made_of k before) a ≡ Ok (declared_in k new after)
      → answer_at p (outcome_after a only_region) ≡ Ok (given (region_in k new) (state_of k new))
  region_from (Ok x) h =
      let same : behind_made (made_of k before) x ≡ declared_in k new after = cc in
      ap (λ (y : Declared). Ok (given y.region y.next)) same
  region_from (Err q) h = absurd cc

  only_refused : (a : Result Declared Pos) (f : Failure Refusal) → Refuses (behind (made_of k before) a) f
      → Refuses (answer_at p (outcome_after a only_region)) f
  only_refused (Ok x) f (refused_at h) = absurd cc
  only_refused (Ok x) f no_memory = no_memory
  only_refused (Err q) f (refused_at {p = r} h) =
      let same : q ≡ r = cc in
      refused_at (ap (λ x. Err x) same)
  only_refused (Err q) f no_memory = no_memory

  pub declared_alone : {A : Type 0} (r : Result A (Failure Refusal))
      → Answers (λ u. declared_in k new after) (behind (made_of k before) (declared env (state_of k old) d).answer) r
      → Answers (λ u. given (region_in k new) (state_of k new))
      (answer_at p (outcome_after (declared env (state_of k old) d).answer only_region)) r
  declared_alone (Ok u) h = region_from (declared env (state_of k old) d).answer h
  declared_alone (Err f) h = only_refused (declared env (state_of k old) d).answer f h
