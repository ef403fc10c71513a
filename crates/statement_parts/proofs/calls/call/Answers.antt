use Rattle.std.proofs.Common.{rules, [], ◌∷◌, ap}
use Rattle.ada_meaning.specs.Tree.{null_statement}
use Rattle.ada_tree.specs.View.{label_of}
use Rattle.ada_rules.specs.Environment.{given}
use Rattle.ada_rules.specs.Expressions.{denoted}
use Rattle.ada_rules.specs.Statements.{call_of}
use Rattle.ada_phrases.specs.Answers.{counted}
use Rattle.ada_phrases.specs.DenotedView.{denotes}
use Rattle.ada_phrases.proofs.Parts.{answers_as}
use Rattle.object_values.specs.program_walk.proofs.AloneLaws.{comes_alike}
use Rattle.statement_parts.specs.Simple.{in_tree, alone, in_program}
use Rattle.statement_parts.proofs.Ends.{gives_as}
use Rattle.statement_parts.proofs.Plans.{call_refused, call_passes}
use Rattle.statement_parts.proofs.calls.call.Goals as goal

pub returns-in_err-denoted : goal.returns-in_err-denoted
returns-in_err-denoted c k env s h =
    let r = call_refused env (counted c.args.decisions.now s) c.args.name.now (label_of c.args.label) c.args.label.place c.in_err-denoted.field-0.0
    (c.in_err-denoted.ensures k env s h) in
    search (rules, r)

pub returns : goal.returns
returns c k env s h =
    let d = given (denotes k c.in_ok-denoted.denoted) (counted c.denoted.new.decisions s) in
    let l = label_of c.args.label in
    let p = c.args.label.place in
    let alike = comes_alike denotes c.args.site.now c.args.decisions.now c.denoted.new.decisions (λ e t. (denoted e t c.args.name.now).answer)
    c.in_ok-denoted.denoted c.in_ok-denoted.ensures k env s h in
    answers_as (λ x. given (in_program k x) d.next) _ _ c.typed.result
    (call_passes env (counted c.args.decisions.now s) c.args.name.now l p d (c.in_ok-denoted.ensures k env s h))
    (gives_as (in_tree k) alone d.next p env.step c.args.site.now.step c.null_statement.result c.call_of-found.result (null_statement l ∷ []) (call_of l d.value)
    c.typed.result h.step (ap (in_program k) c.null_statement.ensures) (c.call_of-found.ensures k alike) c.typed.ensures)
