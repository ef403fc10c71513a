use Rattle.ada_tree.specs.View.{label_of}
use Rattle.ada_rules.specs.Environment.{given, beginning_state}
use Rattle.ada_phrases.specs.Answers.{counted}
use Rattle.ada_phrases.proofs.Parts.{answers_as}
use Rattle.statement_parts.specs.Simple.{in_program, assigning}
use Rattle.program_walk.specs.States.{state_of}
use Rattle.statements.specs.Words.{undecided}
use Rattle.statements.proofs.SimpleLaws.{behind_label, labelled}
use Rattle.statements.proofs.simple.assignment_at.Goals as goal

pub returns-clause-comes : goal.returns-clause-comes
returns-clause-comes c k env h b =
    let w = c.args.walk.now in
    let v = record w { counts = c.statement.new.self } in
    answers_as (λ x. given (in_program k x) (counted c.assignment.new.decisions (undecided k v))) _ _ c.assignment.result
    (labelled (λ l e s. assigning l e s c.args.name.now c.args.initial.now) env c.args.pos (state_of k w) (state_of k v) (label_of c.in_ok-label.label)
    (c.in_ok-label.ensures.label beginning_state) (behind_label k w c.statement.new.self c.in_ok-label.ensures.taken))
    (c.assignment.ensures k env (undecided k v) (c.place.ensures k env h.symbols h.instances h.generic).site)
