-- Constructs in a row, as the walk goes on over them one by one.
use Rattle.std.proofs.Common.{◌≡◌, ℕ, ◌+◌, ◌<◌, ◌≤◌, List, [], ◌++◌, length, drop, get_or, Result, Ok, sym, ap, ◌∙◌}
use Rattle.cov_base.specs.declared.position.Pos.{Pos}
use Rattle.cov_base.specs.declared.failure.Failure.{Failure}
use Rattle.ada_rules.specs.Environment.{State, Given, given, Env}
use Rattle.ada_entities.specs.declared.fault.Refusal.{Refusal}
use Rattle.ada_entities.specs.Answers.{Refuses}
use Rattle.ada_entities.specs.EntityViews.{Tables}
use Rattle.ada_phrases.specs.Answers.{before}
use Rattle.ada_phrases.proofs.Parts.{refused_as}
use Rattle.statement_parts.proofs.Walks.{IsWalk, none_before, item_passes, item_refused, items_end}
use Rattle.program_walk.specs.Changes.{Grows, UnlessMemory}
use Rattle.program_walk.specs.declared.context.Context.{Context}
use Rattle.program_walk.specs.declared.walk.Walk.{Walk}
use Rattle.program_walk.specs.States.{state_of}
use Rattle.program_walk.specs.Walks.{Begins, Continues, StandsAt}
use Rattle.program_walk.proofs.Following.{grown}
use Rattle.statements.proofs.SimpleLaws.{same_symbols}
use Rattle.statements.proofs.Steps.{fails, then_grows, refused_behind}

-- What is left of a row, behind what was made so far, comes to what the whole row comes to.
pub record Reaches {X B : Type 0} (all : Tables → Env → Pos → State → List X → Result (Given (List B)) Pos) (c : Context) (old new : Walk)
    (whole rest : List X) (done : Tables → List B) : Type 0 where
  pub comes : (p : Pos) (k : Tables) (env : Env) → StandsAt c old k env → Begins new k
      → all k env p (state_of k old) whole ≡ before (done k) (all k env p (state_of k new) rest)
  pub continues : Continues old new
  pub grows : Grows old.symbols new.symbols

pub reaches_first : {X B : Type 0} (all : Tables → Env → Pos → State → List X → Result (Given (List B)) Pos) (c : Context) (w : Walk) (whole : List X)
    → Reaches all c w w whole whole (λ k. [])
reaches_first all c w whole = record {
  comes = λ p k env h b. none_before (all k env p (state_of k w) whole);
  continues = λ k b. b;
  grows = same_symbols w.symbols;
}

module _ {X Y B : Type 0} (one : Tables → Env → Pos → State → X → Result (Given Y) Pos) (list : Y → List B)
    (all : Tables → Env → Pos → State → List X → Result (Given (List B)) Pos) (walks : (k : Tables) (env : Env) (p : Pos) → IsWalk (one k env p) list (all k env p))
    (c : Context) (old middle : Walk) (whole xs : List X) (i : ℕ) (done : Tables → List B) (r : Reaches all c old middle whole (drop i xs) done) where
  pub reaches_next : (new : Walk) (x : X) (y : Tables → Y) (after : Tables → List B) → i < length xs → x ≡ get_or xs i x → Continues middle new
      → Grows middle.symbols new.symbols
      → ((p : Pos) (k : Tables) (env : Env) → StandsAt c middle k env → Begins new k → one k env p (state_of k middle) x ≡ Ok (given (y k) (state_of k new)))
      → ((k : Tables) → after k ≡ done k ++ list (y k)) → Reaches all c old new whole (drop (i + 1) xs) after
  reaches_next new x y after less is goes grows passes more = record {
    comes = λ p k env h b.
        let begins = goes k b in
        r.comes p k env h begins
        ∙ (item_passes (one k env p) list (all k env p) (walks k env p) (state_of k middle) (done k) xs i x (given (y k) (state_of k new)) less is
        (passes p k env (grown c old middle r.grows k env h begins) b)
        ∙ ap (λ d. before d (all k env p (state_of k new) (drop (i + 1) xs))) (sym (more k)));
    continues = λ k b. r.continues k (goes k b);
    grows = then_grows _ _ _ r.grows grows;
  }

  pub refuses_next : (new : Walk) (x : X) (f : Failure Refusal) → i < length xs → x ≡ get_or xs i x
      → UnlessMemory (Continues middle new) (fails f)
      → ((p : Pos) (k : Tables) (env : Env) → StandsAt c middle k env → Begins new k → Refuses (one k env p (state_of k middle) x) f)
      → (p : Pos) (k : Tables) (env : Env) → StandsAt c old k env → Begins new k → Refuses (all k env p (state_of k old) whole) f
  refuses_next new x f less is goes refuses p k env h b =
      refused_behind middle new k f _ goes b (λ begins.
      refused_as _ _ f (r.comes p k env h begins)
      (item_refused (one k env p) list (all k env p) (walks k env p) (state_of k middle) (done k) xs i x f less is
      (refuses p k env (grown c old middle r.grows k env h begins) b)))

  pub reaches_last : length xs ≤ i → (p : Pos) (k : Tables) (env : Env) → StandsAt c old k env → Begins middle k
      → all k env p (state_of k old) whole ≡ Ok (given (done k) (state_of k middle))
  reaches_last none p k env h b =
      r.comes p k env h b ∙ items_end (one k env p) list (all k env p) (walks k env p) (state_of k middle) (done k) xs i none
