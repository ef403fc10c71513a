use Rattle.std.proofs.Common.{[], ◌∷◌, Ok, sym, ap, ◌∙◌}
use Rattle.ada_meaning.specs.Tree.{null_statement}
use Rattle.ada_rules.specs.Environment.{given, beginning_state}
use Rattle.statement_parts.specs.Simple.{in_program}
use Rattle.program_walk.specs.States.{state_of}
use Rattle.statements.proofs.SimpleLaws.{behind_label}
use Rattle.statements.proofs.simple.null_at.Goals as goal

pub returns-clause-comes : goal.returns-clause-comes
returns-clause-comes c k env h b =
    let w = c.args.walk.now in
    let v = record w { counts = c.statement.new.self } in
    (λ z. Ok (given (null_statement (sym (c.in_ok-label.ensures.label beginning_state) z) ∷ []) (sym (behind_label k w c.statement.new.self c.in_ok-label.ensures.taken) z)))
    ∙ ap (λ x. Ok (given (in_program k x) (state_of k v))) (sym c.null_statement.ensures)
