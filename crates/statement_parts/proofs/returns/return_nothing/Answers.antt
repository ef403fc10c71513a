use Rattle.std.proofs.Common.{[], ◌∷◌, sym, ap, ◌∙◌}
use Rattle.ada_meaning.specs.Tree.{null_statement}
use Rattle.ada_tree.specs.View.{label_of}
use Rattle.ada_rules.specs.Statements.{returned}
use Rattle.statement_parts.specs.Simple.{in_tree, alone, in_program}
use Rattle.statement_parts.proofs.Ends.{gives_as}
use Rattle.statement_parts.proofs.returns.return_nothing.Goals as goal

pub returns : goal.returns
returns c k env s e g =
    let l = label_of c.args.label in
    gives_as (in_tree k) alone s c.args.label.place env.step c.args.step c.null_statement.result c.returned.result (null_statement l ∷ [])
    (returned l env.returning) c.typed.result e (ap (in_program k) c.null_statement.ensures) (c.returned.ensures k ∙ ap (returned l) (sym g)) c.typed.ensures
