use Rattle.std.proofs.Common.{◌+◌, map, length, sym, ap, ◌∙◌, arith}
use Rattle.ada_tree.specs.View.{exception_choice_of}
use Rattle.kernel_ir.specs.Sequence.{joined}
use Rattle.kernel_ir.specs.Tree.{choose, no_op}
use Rattle.statement_code.specs.Values.{single}
use Rattle.lower.specs.Choosing.{exception_choice_for, exception_choices_for}
use Rattle.lower.proofs.Building.{then_put}
use Rattle.lower.proofs.Pieces.{in_words}
use Rattle.lower.proofs.choosing.+put_exception_choices.Goals as goal

pub put_exception_choices-requires : goal.put_exception_choices-requires
put_exception_choices-requires t c = (omega (arith, c.decreases, ap length c.in-Some.ensures.cases.0), tt)

pub returns : goal.returns
returns t c =
    let k = c.args.slot in
    let rest = exception_choices_for c.args.context.now k (map exception_choice_of c.in-Some.others.now) in
    in_words c.put_else.result c.args.code.now c.put_else.new.code _ _ (ap (λ xs. exception_choices_for c.args.context.now k (map exception_choice_of xs)) (sym c.in-Some.ensures.cases.0))
    (then_put c.put_else.result c.args.code.now c.put_exception_choice.new.code c.put_else.new.code (exception_choice_for c.args.context.now k (exception_choice_of c.in-Some.choice.now)) (single (choose (k + 1) no_op rest))
    c.in_ok-put_exception_choice.ensures
    (in_words c.put_else.result c.put_exception_choice.new.code c.put_else.new.code _ _
    (λ s. single (choose (c.in_ok-to.ensures.number s) no_op ((c.in_ok-put_exception_choices.ensures ∙ ap (λ z. joined z rest) c.new-rest.ensures) s))) c.put_else.ensures))
