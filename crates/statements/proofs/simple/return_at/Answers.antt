use Rattle.std.proofs.Common.{sym, ◌∙◌}
use Rattle.ada_tree.specs.View.{label_of}
use Rattle.ada_rules.specs.Environment.{given, beginning_state}
use Rattle.ada_rules.specs.Statements.{returned, typed_stmt}
use Rattle.ada_phrases.proofs.Parts.{answers_as}
use Rattle.statement_parts.specs.Simple.{in_program}
use Rattle.program_walk.specs.States.{state_of}
use Rattle.statements.proofs.SimpleLaws.{behind_label, labelled}
use Rattle.statements.proofs.simple.return_at.Goals as goal

pub returns-clause-comes : goal.returns-clause-comes
returns-clause-comes c k env h b =
    let w = c.args.walk.now in
    let v = record w { counts = c.statement.new.self } in
    answers_as (λ x. given (in_program k x) (state_of k v)) _ _ c.return_nothing.result
    (labelled (λ l e s. typed_stmt e l s (returned l e.returning)) env c.args.pos (state_of k w) (state_of k v) (label_of c.in_ok-label.label)
    (c.in_ok-label.ensures.label beginning_state) (behind_label k w c.statement.new.self c.in_ok-label.ensures.taken))
    (c.return_nothing.ensures k env (state_of k v) h.symbols.step (h.returning ∙ sym (c.given_by.ensures k)))
