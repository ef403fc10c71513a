-- Declarations in order, as the walk goes on over them.
use Rattle.std.proofs.Common.{◌≡◌, ℕ, ◌+◌, ◌<◌, ◌≤◌, List, [], ◌∷◌, length, drop, get_or, Result, Ok, Err, refl, sym, ap, ◌∙◌}
use Rattle.std.proofs.lemmas.List.{at_drop_all, at_drop_more, append-nil}
use Rattle.cov_base.specs.declared.position.Pos.{Pos}
use Rattle.cov_base.specs.declared.failure.Failure.{Failure}
use Rattle.ada_syntax.specs.declared.declaration.Declaration.{Declaration as Source}
use Rattle.ada_tree.specs.declared.statement.Declaration.{Declaration}
use Rattle.ada_rules.specs.Environment.{Env}
use Rattle.ada_rules.specs.Declarations.{Declared, declared, all_declared}
use Rattle.ada_entities.specs.Answers.{Refuses}
use Rattle.ada_entities.specs.declared.fault.Refusal.{Refusal}
use Rattle.ada_entities.specs.EntityViews.{Tables}
use Rattle.ada_phrases.proofs.Parts.{refused_as}
use Rattle.program_walk.specs.declared.context.Context.{Context}
use Rattle.program_walk.specs.declared.walk.Walk.{Walk}
use Rattle.program_walk.specs.States.{state_of}
use Rattle.program_walk.specs.Walks.{Begins, StandsAt, with_innermost}
use Rattle.program_walk.specs.Going.{GoesInside}
use Rattle.declarations.specs.Locals.{made_of}
use Rattle.declarations.specs.Made.{behind}
use Rattle.declarations.specs.Values.{declared_in}
use Rattle.program_walk.proofs.GoingLaws.{region_is, stands_then}
use Rattle.declarations.proofs.KindLaws.{next_declared, next_refused}

-- where the walk stands behind some declarations, from which the rest comes to what all of them come to
pub record Reaches (c : Context) (old new : Walk) (k : Tables) (env : Env) (all rest : List Source) (made : List Declaration) : Type 0 where
  pub here : Env
  pub stands : StandsAt c new k here
  pub comes : (p : Pos) → (all_declared env (state_of k old) p all).answer ≡ behind (made_of k made) (all_declared here (state_of k new) p rest).answer

none_behind : (r : Result Declared Pos) → r ≡ behind [] r
none_behind (Ok d) = refl
none_behind (Err p) = refl

pub reaches_first : (c : Context) (w : Walk) (k : Tables) (env : Env) (all : List Source) → StandsAt c w k env → Reaches c w w k env all all []
reaches_first c w k env all h = record { here = env; stands = h; comes = λ p. none_behind (all_declared env (state_of k w) p all).answer }

module _ (c : Context) (old middle : Walk) (k : Tables) (env : Env) (all : List Source) (i : ℕ) (before : List Declaration)
    (r : Reaches c old middle k env all (drop i all) before) where
  rest_at : (x : Source) (p : Pos) → i < length all → x ≡ get_or all i x
      → (all_declared env (state_of k old) p all).answer
      ≡ behind (made_of k before) (all_declared r.here (state_of k middle) p (x ∷ drop (i + 1) all)).answer
  rest_at x p less e =
      r.comes p
      ∙ (at_drop_more (λ xs. behind (made_of k before) (all_declared r.here (state_of k middle) p xs).answer) all i x less
      ∙ ap (λ y. behind (made_of k before) (all_declared r.here (state_of k middle) p (y ∷ drop (i + 1) all)).answer) (sym e))

  pub reaches_next : (x : Source) (new : Walk) (after : List Declaration) → i < length all → x ≡ get_or all i x → GoesInside middle new → Begins new k
      → behind (made_of k before) (declared r.here (state_of k middle) x).answer ≡ Ok (declared_in k new after)
      → Reaches c old new k env all (drop (i + 1) all) after
  reaches_next x new after less e goes b has = record {
    here = with_innermost new k r.here;
    stands = stands_then c middle k r.here r.stands new goes b;
    comes = λ p.
        rest_at x p less e
        ∙ next_declared r.here p (drop (i + 1) all) (made_of k before) (state_of k middle) x (declared_in k new after) has;
  }

  pub refuses_next : (x : Source) (f : Failure Refusal) (p : Pos) → i < length all → x ≡ get_or all i x
      → Refuses (behind (made_of k before) (declared r.here (state_of k middle) x).answer) f
      → Refuses (all_declared env (state_of k old) p all).answer f
  refuses_next x f p less e h =
      refused_as _ _ f (rest_at x p less e) (next_refused r.here p (drop (i + 1) all) (made_of k before) (state_of k middle) x f h)

  pub reaches_last : (p : Pos) → length all ≤ i → (all_declared env (state_of k old) p all).answer ≡ Ok (declared_in k middle before)
  reaches_last p none =
      r.comes p
      ∙ (at_drop_all (λ xs. behind (made_of k before) (all_declared r.here (state_of k middle) p xs).answer) all i none
      ∙ (λ z. Ok (record { region = region_is c middle k r.here r.stands z; next = state_of k middle; made = append-nil (made_of k before) z })))
