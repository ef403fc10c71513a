use Rattle.std.proofs.Common.{[], ◌∷◌, sym, ap, ◌∙◌}
use Rattle.ada_meaning.specs.Tree.{null_statement, raise_again}
use Rattle.ada_tree.specs.View.{label_of}
use Rattle.ada_rules.specs.Environment.{given, beginning_state}
use Rattle.ada_rules.specs.Statements.{where_allowed, typed_stmt}
use Rattle.ada_phrases.proofs.Parts.{answers_as}
use Rattle.statement_parts.specs.Simple.{in_tree, alone, in_program}
use Rattle.program_walk.specs.States.{state_of}
use Rattle.statement_parts.proofs.Ends.{gives_as}
use Rattle.statements.proofs.SimpleLaws.{behind_label, labelled}
use Rattle.statements.proofs.simple.raise_again_at.Goals as goal

pub returns-clause-comes : goal.returns-clause-comes
returns-clause-comes c k env h b =
    let w = c.args.walk.now in
    let v = record w { counts = c.statement.new.self } in
    let l = label_of c.in_ok-label.label in
    answers_as (λ x. given (in_program k x) (state_of k v)) _ _ c.typed.result
    (labelled (λ l e s. typed_stmt e l s (where_allowed e.is_handling (raise_again l))) env c.args.pos (state_of k w) (state_of k v) l
    (c.in_ok-label.ensures.label beginning_state) (behind_label k w c.statement.new.self c.in_ok-label.ensures.taken))
    (gives_as (in_tree k) alone (state_of k v) c.in_ok-label.label.place env.step c.args.context.now.step c.null_statement.result c.where_allowed-found.result
    (null_statement l ∷ []) (where_allowed env.is_handling (raise_again l)) c.typed.result h.symbols.step (ap (in_program k) c.null_statement.ensures)
    (c.where_allowed-found.ensures k ∙ ap (λ b. where_allowed b (raise_again l)) (sym h.handling)) c.typed.ensures)
