use Rattle.std.proofs.Common.{rules, [], ◌∷◌, option_map, ap, ◌∙◌}
use Rattle.ada_meaning.specs.Tree.{null_statement, raise_statement}
use Rattle.ada_tree.specs.View.{label_of}
use Rattle.ada_rules.specs.Environment.{given}
use Rattle.ada_rules.specs.Statements.{exception_of}
use Rattle.ada_phrases.specs.Answers.{counted}
use Rattle.ada_phrases.specs.DenotedView.{denotes}
use Rattle.ada_phrases.proofs.Parts.{answers_as}
use Rattle.statement_parts.specs.Simple.{in_tree, alone, in_program}
use Rattle.statement_parts.proofs.Ends.{gives_as}
use Rattle.statement_parts.proofs.Plans.{raise_refused, raise_passes}
use Rattle.statement_parts.proofs.exceptions.raise.Goals as goal

pub returns-in_err-denoted : goal.returns-in_err-denoted
returns-in_err-denoted c k env s h =
    let r = raise_refused env (counted c.args.decisions.now s) c.args.name.now (label_of c.args.label) c.args.label.place c.in_err-denoted.field-0.0
    (c.in_err-denoted.ensures k env s h) in
    search (rules, r)

pub returns : goal.returns
returns c k env s h =
    let d = given (denotes k c.in_ok-denoted.denoted) (counted c.denoted.new.decisions s) in
    let l = label_of c.args.label in
    let p = c.args.label.place in
    answers_as (λ x. given (in_program k x) d.next) _ _ c.typed.result
    (raise_passes env (counted c.args.decisions.now s) c.args.name.now l p d (c.in_ok-denoted.ensures k env s h))
    (gives_as (in_tree k) alone d.next p env.step c.args.site.now.step c.null_statement.result c.raised-found.result (null_statement l ∷ [])
    (option_map (raise_statement l) (exception_of d.value)) c.typed.result h.step (ap (in_program k) c.null_statement.ensures)
    (c.raised-found.ensures k ∙ ap (option_map (raise_statement l)) (c.exception_of.ensures k)) c.typed.ensures)
