use Rattle.std.proofs.Common.{Ok, sym, ap, ◌∙◌}
use Rattle.ada_meaning.specs.Tree.{null_statement}
use Rattle.ada_tree.specs.View.{label_of}
use Rattle.ada_rules.specs.Plan.{answer_at}
use Rattle.ada_rules.specs.Environment.{typed_rule, given}
use Rattle.ada_rules.specs.Statements.{one}
use Rattle.ada_demands.specs.StaticsViews.{noted}
use Rattle.ada_phrases.specs.Scopes.{step_of}
use Rattle.ada_phrases.proofs.Parts.{answers_as}
use Rattle.statement_parts.specs.Simple.{in_program}
use Rattle.statement_parts.specs.Cases.{case_there}
use Rattle.statement_parts.proofs.cases.case_statement.Goals as goal

pub returns-in-Naming : goal.returns-in-Naming
returns-in-Naming c k env before s e g number =
    let p = c.args.label.place in
    let l = label_of c.args.label in
    let n = noted k c.args.statics.now s in
    let o = case_there k env before c.args.label c.args.selector c.args.alternatives.items n in
    ap (λ st. answer_at p (typed_rule st (one (null_statement l) n) o).outcome) (e ∙ ap step_of c.in-Naming.is)
    ∙ ap (λ y. Ok (given (in_program k y) n)) (sym c.null_statement.ensures)

pub returns-in-Typing : goal.returns-in-Typing
returns-in-Typing c k env before s e g number =
    let p = c.args.label.place in
    let l = label_of c.args.label in
    let n = noted k c.args.statics.now s in
    let o = case_there k env before c.args.label c.args.selector c.args.alternatives.items n in
    answers_as (λ y. given (in_program k y) (noted k c.case_of.new.statics s)) _ _ c.case_of.result
    (ap (λ st. answer_at p (typed_rule st (one (null_statement l) n) o).outcome) (e ∙ ap step_of c.in-Typing.is))
    (c.case_of.ensures k env before s g number)
