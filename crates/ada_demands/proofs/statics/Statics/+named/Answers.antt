use Rattle.std.proofs.Common.{ap, sym, ◌∙◌, arith}
use Rattle.std.proofs.lemmas.List.{at_drop_all}
use Rattle.std.proofs.lemmas.Result.{IfOk-weaker}
use Rattle.ada_meaning.specs.Types.{static_sign}
use Rattle.ada_tree.specs.View.{sign_of, static_value_of}
use Rattle.ada_judged.specs.declared.static_tree.StaticOperand.{StaticOperand}
use Rattle.ada_judged.specs.StaticView.{static_at, static_size}
use Rattle.ada_rules.specs.Types.{base}
use Rattle.ada_rules.specs.Environment.{given}
use Rattle.ada_rules.specs.Expressions.{entered_constant, value_named}
use Rattle.ada_demands.specs.StaticsViews.{noted, chain_named}
use Rattle.ada_demands.proofs.NamedLaws.{chain_is, named_step}
use Rattle.ada_demands.proofs.TreeLaws.{operands_size, chain_size, operand_within, static_positive}
use Rattle.ada_demands.proofs.statics.Statics.+named.Goals as goal

pub chain_named-value_named-requires : goal.chain_named-value_named-requires
chain_named-value_named-requires t c = (
  omega (
    arith,
    c.decreases,
    operand_within c.args.others.now c.loop-other.other-index c.other-item.result (omega arith),
    ap (λ (x : StaticOperand). static_size x.operand) c.other-item.is,
  ),
  tt,
)

pub chain_named-loop-other-preserved : goal.chain_named-loop-other-preserved
chain_named-loop-other-preserved t c k s =
    named_step c.args.generic c.args.others.now c.loop-other.other-index c.other-item.result (static_value_of c.loop-other.value)
    (static_value_of c.in_ok-operand.operand) (static_value_of c.in_ok-value.value) (noted k c.loop-other.self s) (noted k c.value_named.new.self s)
    (noted k c.enter_value.new.self s) (omega arith) c.other-item.is (c.in_ok-operand.ensures k s) (c.in_ok-value.ensures k s)
    ∙ c.loop-other.invariant k s

pub chain_named-returns : goal.chain_named-returns
chain_named-returns t c k s =
    sym (c.loop-other.invariant k s)
    ∙ at_drop_all (chain_named c.args.generic (given (static_value_of c.loop-other.value) (noted k c.loop-other.self s))) c.args.others.now
    c.loop-other.other-index (omega arith)

pub value_named-chain_named-requires : goal.value_named-chain_named-requires
value_named-chain_named-requires t c =
    let first = c.in-Operations.first.value in
    let others = c.in-Operations.others.items in
    let is = ap static_size (sym c.tree.view_is ∙ ap static_at c.in-Operations.is) in
    (omega (arith, c.decreases, is, chain_size first others, static_positive first, ap operands_size c.as_slice.ensures.value), tt)

pub value_named-returns-in-Value : goal.value_named-returns-in-Value
value_named-returns-in-Value t c =
    IfOk-weaker c.expression_named.result _ _
    (λ v h k s. ap (λ e. value_named c.args.generic e (noted k c.args.self.now s)) (sym c.tree.view_is ∙ ap static_at c.in-Value.is) ∙ h k s)
    c.expression_named.ensures

pub value_named-returns-in-Constant : goal.value_named-returns-in-Constant
value_named-returns-in-Constant t c =
    IfOk-weaker c.constant_named.result _ _
    (λ v h k s. ap (λ e. value_named c.args.generic e (noted k c.args.self.now s)) (sym c.tree.view_is ∙ ap static_at c.in-Constant.is) ∙ h k s)
    c.constant_named.ensures

pub value_named-returns-in_ok-operand-in-Signed : goal.value_named-returns-in_ok-operand-in-Signed
value_named-returns-in_ok-operand-in-Signed t c =
    let g = c.args.generic in
    IfOk-weaker c.enter_value.result _ _
    (λ v h k s.
    let before = noted k c.args.self.now s in
    ap (λ e. value_named g e before) (sym c.tree.view_is ∙ ap static_at c.in-Signed.is)
    ∙ (ap (λ x. entered_constant g base (static_sign (sign_of c.in-Signed.sign) x.value) x.next)
    (ap (λ e. value_named g e before) (sym c.deref.ensures) ∙ c.in_ok-operand-in-Signed.ensures k s)
    ∙ h k s))
    c.enter_value.ensures

pub value_named-returns-in_ok-first-in-Operations : goal.value_named-returns-in_ok-first-in-Operations
value_named-returns-in_ok-first-in-Operations t c =
    let g = c.args.generic in
    let first = c.in-Operations.first.value in
    let others = c.in-Operations.others.items in
    IfOk-weaker c.chain_named.result _ _
    (λ v h k s.
    let before = noted k c.args.self.now s in
    ap (λ e. value_named g e before) (sym c.tree.view_is ∙ ap static_at c.in-Operations.is)
    ∙ (chain_is g first others before
    ∙ (ap (λ x. chain_named g x others) (ap (λ e. value_named g e before) (sym c.deref-in-Operations.ensures) ∙ c.in_ok-first-in-Operations.ensures k s)
    ∙ (ap (λ os. chain_named g (given (static_value_of c.in_ok-first-in-Operations.first) (noted k c.value_named-in-Operations.new.self s)) os)
    (sym c.as_slice.ensures.value)
    ∙ h k s))))
    c.chain_named.ensures
