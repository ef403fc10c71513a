use Rattle.std.proofs.Common.{option_map, sym, ap, ◌∙◌}
use Rattle.ada_meaning.specs.Tree as tree
use Rattle.ada_tree.specs.Programs.{bounds_of}
use Rattle.kernel_ir.specs.declared.simple.Simple.TheVariants as op
use Rattle.kernel_ir.specs.Sequence.{joined}
use Rattle.statement_code.specs.Statements.{keep_on}
use Rattle.statement_code.specs.Values.{address_on, one}
use Rattle.lower.specs.Context.{home_for, layout_for}
use Rattle.lower.specs.Stated.{first_by}
use Rattle.lower.proofs.Building.{then_put}
use Rattle.lower.proofs.Pieces.{in_words}
use Rattle.lower.proofs.simple.put_first.Goals as goal

pub returns-in_ok-push_simple-in-Some : goal.returns-in_ok-push_simple-in-Some
returns-in_ok-push_simple-in-Some c =
    let k = c.args.slot in
    let l = layout_for c.args.context.now c.args.number in
    let h = home_for c.args.context.now (tree.local_object c.args.number) in
    in_words c.push_simple-in-Some.result c.args.code.now c.push_simple-in-Some.new.self _ _
    (ap (λ o. first_by k l h (option_map bounds_of o)) (sym c.in-Some.is) ∙ c.scalar.ensures k l h)
    (then_put c.push_simple-in-Some.result c.args.code.now c.push_simple.new.self c.push_simple-in-Some.new.self (one (op.Number k (bounds_of c.in-Some.range).low)) (one (keep_on k h))
    (rw c.first_number.ensures at c.in_ok-push_simple-in-Some.ensures.ok)
    (in_words c.push_simple-in-Some.result c.push_simple.new.self c.push_simple-in-Some.new.self _ _ (ap one c.keep.ensures ∙ ap (λ x. one (keep_on k x)) c.home-home.ensures)
    c.push_simple-in-Some.ensures.ok))

pub returns-in_ok-layout-in-None : goal.returns-in_ok-layout-in-None
returns-in_ok-layout-in-None c =
    let k = c.args.slot in
    let l = layout_for c.args.context.now c.args.number in
    let h = home_for c.args.context.now (tree.local_object c.args.number) in
    in_words c.push_simple-in-None-2.result c.args.code.now c.push_simple-in-None-2.new.self _ _
    (ap (λ o. first_by k l h (option_map bounds_of o)) (sym c.in-None.is) ∙ c.scalar.ensures k l h)
    (then_put c.push_simple-in-None-2.result c.args.code.now c.push_simple-in-None.new.self c.push_simple-in-None-2.new.self (one (address_on k h)) (one (op.Fill k l))
    (c.in_ok-push_simple-in-None.ensures.ok ∙ ap (joined c.args.code.now) (ap one c.address.ensures ∙ ap (λ x. one (address_on k x)) c.home-home.ensures))
    (in_words c.push_simple-in-None-2.result c.push_simple-in-None.new.self c.push_simple-in-None-2.new.self _ _ (ap (λ n. one (op.Fill k n)) c.in_ok-layout-in-None.ensures)
    c.push_simple-in-None-2.ensures.ok))
