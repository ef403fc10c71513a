-- Statements without others in them, behind the label that was taken for them.
use Rattle.std.proofs.Common.{◌≡◌, List, refl, sym, ap}
use Rattle.cov_base.specs.declared.position.Pos.{Pos}
use Rattle.ada_meaning.specs.Tree as tree
use Rattle.ada_syntax.specs.Tree.{Expr}
use Rattle.ada_rules.specs.Plan.{Plan, ◌>>=◌, answer_at}
use Rattle.ada_rules.specs.Environment.{State, Given, Env, statement_label, started, beginning_state}
use Rattle.ada_rules.specs.Expressions.{decision}
use Rattle.ada_rules.specs.Statements.{where_allowed, typed_stmt}
use Rattle.ada_entities.specs.Answers.{no_memory}
use Rattle.ada_entities.specs.EntityViews.{Tables}
use Rattle.program_walk.specs.declared.symbols.Symbols.{Symbols}
use Rattle.program_walk.specs.Changes.{Grows}
use Rattle.program_walk.specs.Places.{with_notes}
use Rattle.program_walk.specs.declared.counts.Counts.{Counts}
use Rattle.program_walk.specs.declared.walk.Walk.{Walk}
use Rattle.program_walk.specs.Counting.{Starts}
use Rattle.program_walk.specs.States.{with_found, state_of}

pub same_symbols : (x : Symbols) → Grows x x
same_symbols x = record { known = λ h. h; stays = λ h k l a. a; begins = λ k b. b; regions = refl; units = refl }

-- the state behind a label
pub behind_label : (k : Tables) (w : Walk) (c : Counts) → Starts w.counts c → state_of k (record w { counts = c }) ≡ started (state_of k w)
behind_label k w c h = ap (λ s. with_notes k w.notes (with_found k w.found s)) (h beginning_state)

abbrev Statements : Type 0
Statements = Given (List tree.Stmt)

module _ (plan : tree.Label → Env → State → Plan Statements) (env : Env) (p : Pos) (s t : State) (l : tree.Label) where
  pub labelled : l ≡ statement_label s p → t ≡ started s
      → answer_at p (plan (statement_label s p) env (started s)).outcome ≡ answer_at l.place (plan l env t).outcome
  labelled e f = λ z. answer_at (sym e z).place (plan (sym e z) env (sym f z)).outcome

-- `exit when` behind its label
abbrev pub then_exit : tree.Label → Env → Given (tree.Label × tree.Test) → Plan Statements
then_exit l env t = typed_stmt env l t.next (where_allowed env.is_looping (tree.exit_when l t.value.0 t.value.1))

abbrev pub exiting : tree.Label → Env → State → Expr → Plan Statements
exiting l env s e = decision env s l.place e >>= then_exit l env

pub ruleset parts = (no_memory, same_symbols)
