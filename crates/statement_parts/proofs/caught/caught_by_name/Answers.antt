use Rattle.std.proofs.Common.{rules, option_map, refl, sym, ap, ◌∙◌}
use Rattle.ada_meaning.specs.Tree.{other_exceptions, named_exception}
use Rattle.ada_rules.specs.Plan.{answer_at}
use Rattle.ada_rules.specs.Environment.{given}
use Rattle.ada_rules.specs.Statements.{exception_of}
use Rattle.ada_tree.specs.declared.statement.ExceptionChoice.TheVariants as choice
use Rattle.ada_phrases.specs.Answers.{counted}
use Rattle.ada_phrases.specs.DenotedView.{denotes}
use Rattle.ada_phrases.proofs.Parts.{answers_as}
use Rattle.statement_parts.specs.Handlers.{may_be_others, caught_in}
use Rattle.statement_parts.proofs.Ends.{gives_as}
use Rattle.statement_parts.proofs.HandlerLaws.{choice_rule, name_refused, name_passes}
use Rattle.statement_parts.proofs.caught.caught_by_name.Goals as goal

pub returns-in_err-denoted : goal.returns-in_err-denoted
returns-in_err-denoted c k env s h =
    let r = name_refused env (may_be_others c.args.place) (counted c.args.decisions.now s) c.args.name.now c.in_err-denoted.field-0.0
    (c.in_err-denoted.ensures k env s h) in
    search (rules, r)

pub returns : goal.returns
returns c k env s h =
    let d = given (denotes k c.in_ok-denoted.denoted) (counted c.denoted.new.decisions s) in
    let o = option_map named_exception (exception_of d.value) in
    answers_as (λ x. given (caught_in k x) d.next) _ _ c.typed.result
    (name_passes env (may_be_others c.args.place) (counted c.args.decisions.now s) c.args.name.now d (c.in_ok-denoted.ensures k env s h)
    ∙ ap (λ p. answer_at p (choice_rule env d.next o).outcome) (sym c.pos.ensures))
    (gives_as (caught_in k) (λ x. x) d.next c.pos.result env.step c.args.site.now.step choice.Others c.named-found.result other_exceptions o
    c.typed.result h.step refl (c.named-found.ensures ∙ ap (option_map named_exception) (c.exception_of.ensures k)) c.typed.ensures)
