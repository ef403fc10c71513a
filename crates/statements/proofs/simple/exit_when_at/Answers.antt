use Rattle.std.proofs.Common.{rules, [], ◌∷◌, sym, ap, ◌∙◌}
use Rattle.ada_meaning.specs.Tree.{null_statement, exit_when}
use Rattle.ada_tree.specs.View.{label_of}
use Rattle.ada_rules.specs.Environment.{given, beginning_state}
use Rattle.ada_rules.specs.Expressions.{decision}
use Rattle.ada_rules.specs.Statements.{where_allowed}
use Rattle.ada_phrases.specs.Answers.{counted}
use Rattle.ada_phrases.specs.DecisionView.{decision_of}
use Rattle.ada_phrases.proofs.Parts.{passes_on, in_part, refused_as, answers_as}
use Rattle.statement_parts.specs.Simple.{in_tree, alone, in_program}
use Rattle.statement_parts.proofs.Ends.{gives_as}
use Rattle.program_walk.specs.States.{state_of}
use Rattle.statements.specs.Words.{undecided}
use Rattle.statements.proofs.SimpleLaws.{behind_label, labelled, then_exit, exiting}
use Rattle.statements.proofs.simple.exit_when_at.Goals as goal

pub returns-in_err-decision-clause-comes : goal.returns-in_err-decision-clause-comes
returns-in_err-decision-clause-comes c k env h b =
    let w = c.args.walk.now in
    let v = record w { counts = c.statement.new.self } in
    let l = label_of c.in_ok-label.label in
    let f = c.in_err-decision.field-0.0 in
    let r = refused_as _ _ f
    (labelled (λ l e s. exiting l e s c.args.expr.now) env c.args.pos (state_of k w) (state_of k v) l
    (c.in_ok-label.ensures.label beginning_state) (behind_label k w c.statement.new.self c.in_ok-label.ensures.taken))
    (in_part c.in_ok-label.label.place (decision env (state_of k v) c.in_ok-label.label.place c.args.expr.now).answer (then_exit l env) f
    (c.in_err-decision.ensures k env (undecided k v) (c.place.ensures k env h.symbols h.instances h.generic).site)) in
    search (rules, r)

pub returns-clause-comes : goal.returns-clause-comes
returns-clause-comes c k env h b =
    let w = c.args.walk.now in
    let v = record w { counts = c.statement.new.self } in
    let l = label_of c.in_ok-label.label in
    let d = decision_of k c.in_ok-decision.decision in
    let n = counted c.decision.new.decisions (undecided k v) in
    answers_as (λ x. given (in_program k x) n) _ _ c.typed.result
    (labelled (λ l e s. exiting l e s c.args.expr.now) env c.args.pos (state_of k w) (state_of k v) l
    (c.in_ok-label.ensures.label beginning_state) (behind_label k w c.statement.new.self c.in_ok-label.ensures.taken)
    ∙ passes_on c.in_ok-label.label.place (decision env (state_of k v) c.in_ok-label.label.place c.args.expr.now).answer (then_exit l env) (given d n)
    (c.in_ok-decision.ensures k env (undecided k v) (c.place.ensures k env h.symbols h.instances h.generic).site))
    (gives_as (in_tree k) alone n c.in_ok-label.label.place env.step c.args.context.now.step c.null_statement.result c.where_allowed-found.result
    (null_statement l ∷ []) (where_allowed env.is_looping (exit_when l d.0 d.1)) c.typed.result h.symbols.step (ap (in_program k) c.null_statement.ensures)
    (c.where_allowed-found.ensures k ∙ ap (λ b. where_allowed b (exit_when l d.0 d.1)) (sym h.looping)) c.typed.ensures)
