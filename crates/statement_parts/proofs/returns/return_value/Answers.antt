use Rattle.std.proofs.Common.{rules, [], ◌∷◌, sym, ap, ◌∙◌}
use Rattle.ada_meaning.specs.Tree.{null_statement}
use Rattle.ada_tree.specs.View.{label_of}
use Rattle.ada_rules.specs.Environment.{given}
use Rattle.ada_rules.specs.Statements.{returned_value}
use Rattle.ada_judged.specs.JudgedView.{judged_of}
use Rattle.ada_phrases.specs.Answers.{counted}
use Rattle.ada_phrases.proofs.Parts.{answers_as}
use Rattle.statement_parts.specs.Simple.{in_tree, alone, in_program}
use Rattle.statement_parts.proofs.Ends.{gives_as}
use Rattle.statement_parts.proofs.Plans.{return_refused, return_passes}
use Rattle.statement_parts.proofs.ReturnLaws.{returned_is}
use Rattle.statement_parts.proofs.returns.return_value.Goals as goal

pub returns-in_err-value : goal.returns-in_err-value
returns-in_err-value c k env s h g =
    let r = return_refused env (counted c.args.decisions.now s) c.args.expr.now (label_of c.args.label) c.args.label.place c.in_err-value.field-0.0
    (c.in_err-value.ensures k env s h) in
    search (rules, r)

pub returns : goal.returns
returns c k env s h g =
    let v = c.in_ok-value.value in
    let x = given (judged_of k v) (counted c.judged.new.decisions s) in
    let l = label_of c.args.label in
    let p = c.args.label.place in
    answers_as (λ y. given (in_program k y) x.next) _ _ c.typed.result
    (return_passes env (counted c.args.decisions.now s) c.args.expr.now l p x (c.in_ok-value.ensures k env s h))
    (gives_as (in_tree k) alone x.next p env.step c.args.site.now.step c.null_statement.result c.value_returned-found.result (null_statement l ∷ [])
    (returned_value l x.value env.returning) c.typed.result h.step (ap (in_program k) c.null_statement.ensures)
    (c.value_returned-found.ensures k ∙ (returned_is k c.args.label c.args.given v ∙ ap (returned_value l x.value) (sym g))) c.typed.ensures)
