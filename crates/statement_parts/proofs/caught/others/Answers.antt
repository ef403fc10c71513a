use Rattle.std.proofs.Common.{refl}
use Rattle.ada_meaning.specs.Tree.{other_exceptions}
use Rattle.ada_rules.specs.Environment.{given}
use Rattle.ada_tree.specs.declared.statement.ExceptionChoice.TheVariants as choice
use Rattle.ada_phrases.proofs.Parts.{answers_as}
use Rattle.statement_parts.specs.Handlers.{may_be_others, others_choice, caught_in}
use Rattle.statement_parts.proofs.Ends.{gives_as}
use Rattle.statement_parts.proofs.HandlerLaws.{others_is}
use Rattle.statement_parts.proofs.caught.others.Goals as goal

pub returns : goal.returns
returns c k env s e =
    answers_as (λ x. given (caught_in k x) s) _ _ c.typed.result
    (others_is env (may_be_others c.args.place) s c.args.pos)
    (gives_as (caught_in k) (λ x. x) s c.args.pos env.step c.args.step choice.Others c.others.result other_exceptions (others_choice (may_be_others c.args.place))
    c.typed.result e refl c.others.ensures c.typed.ensures)
