use Rattle.std.proofs.Common.{◌+◌, refl, sym, ap, ◌∙◌, arith, drop}
use Rattle.std.proofs.lemmas.Grind.{common_steps}
use Rattle.ada_tree.proofs.Chains.{chain_size, operands_size, operand_within, expr_positive, tests_size, forms_size, test_positive, actual_size, actual_within, selector_size, selector_within}
use Rattle.ada_tree.specs.declared.expr.Operand.{Operand}
use Rattle.ada_tree.specs.Programs.{mode_of, bounds_of, target_of}
use Rattle.ada_tree.specs.Sizes.{expr_size, test_size}
use Rattle.ada_tree.specs.View.{is_filled, expr_at, test_at, sign_of, operator_of, relation_of, neutral_of, parts_of, actuals_of, object_of, callee_of, scalar_range_of, static_of}
use Rattle.kernel_ir.specs.declared.simple.Simple.TheVariants as op
use Rattle.kernel_ir.specs.Sequence.{joined}
use Rattle.kernel_ir.specs.Tree.{decide, no_node}
use Rattle.statement_code.specs.Values.{single, one, within, sign_on, operator_on, relation_on, complement_on, address_on, moves_code}
use Rattle.lower.specs.Context.{names_for, home_for, shape_named, text, parameters_for}
use Rattle.lower.specs.Pieces.{loaded_on, expr_for, parts_for, actuals_for, located_for, operand_for, operands_for, call_for}
use Rattle.lower.proofs.Building.{two_put, then_put, one_more, none_left}
use Rattle.lower.proofs.Forms.{condition_put, decision_put}
use Rattle.lower.proofs.Pieces.{chain_for, call_value, component_put, element_put, form_put, in_words, one_actual, part_read, part_taken, three_then, whenever}
use Rattle.lower.proofs.+evaluation.Goals as goal

pub calls::put_actual-returns-in_ok-put_value-in-Expression :
    goal.calls::put_actual-returns-in_ok-put_value-in-Expression
calls::put_actual-returns-in_ok-put_value-in-Expression t c =
    rw (c.in-Expression.is)
    (then_put c.push_simple.result c.args.code.now c.put_value.new.code c.push_simple.new.self (expr_for c.args.context.now c.args.to c.in-Expression.expr) (one (within c.args.to (bounds_of c.args.taken.bounds)))
    c.in_ok-put_value-in-Expression.ensures (rw c.within.ensures at c.push_simple.ensures.ok))

pub calls::put_actual-returns-in_ok-put_located-in-Part :
    goal.calls::put_actual-returns-in_ok-put_located-in-Part
calls::put_actual-returns-in_ok-put_located-in-Part t c =
    let k = c.args.to in
    let o = c.in-Part.object in
    let ss = c.in-Part.selectors.items in
    rw (c.in-Part.is, part_taken c.args.context.now k (mode_of c.args.taken.mode) (bounds_of c.args.taken.bounds) o ss (sym (c.has_parts.ensures ∙ ap is_filled c.deref.ensures.value) ∙ c.if-not-has_parts.false))
    (then_put c.put_loaded.result c.args.code.now c.put_located.new.code c.put_loaded.new.code (located_for c.args.context.now k (object_of o) (parts_of ss)) (loaded_on k (mode_of c.args.taken.mode) (bounds_of c.args.taken.bounds))
    (rw c.deref-in-Part.ensures.value at c.in_ok-put_located-in-Part.ensures) c.put_loaded.ensures)

pub calls::put_call-put_actual-requires :
    goal.calls::put_call-put_actual-requires
calls::put_call-put_actual-requires t c =
    (omega (arith, c.decreases, actual_within c.args.actuals.now c.loop-place.place c.index-actuals-place.result (omega arith), ap actual_size c.index-actuals-place.is), tt)

pub calls::put_call-loop-place-preserved :
    goal.calls::put_call-loop-place-preserved
calls::put_call-loop-place-preserved t c =
    let ctx = c.args.context.now in
    one_actual ctx c.loop-place.slot c.in_ok-slot.slot c.loop-place.place (parameters_for ctx (target_of c.args.target)) _ c.args.actuals.now c.index-actuals-place.result c.index-actuals-place.result
    _ _ c.loop-place.code c.put_actual.new.code c.loop-place-test.true c.index-actuals-place.is c.signature-signature.ensures c.taken.ensures.mode c.taken.ensures.bounds
    c.in_ok-put_actual.ensures (c.in_ok-slot.ensures.number ∙ ap (λ n. c.loop-place.slot + n) c.slots_of.ensures)
    ∙ c.loop-place.invariant

pub calls::put_call-returns :
    goal.calls::put_call-returns
calls::put_call-returns t c =
    let ctx = c.args.context.now in
    let k = c.args.to in
    let qs = parameters_for ctx (target_of c.args.target) in
    let xs = c.args.actuals.now in
    three_then c.push.result c.args.code.now c.loop-place.code c.put_moves.new.code c.push.new.self
    (actuals_for ctx k qs (actuals_of xs)) (moves_code ctx.width k 0 (actuals_of xs)) _
    (none_left (λ ys. actuals_for ctx c.loop-place.slot (drop c.loop-place.place qs) (actuals_of ys)) refl xs c.loop-place.place _ _ (omega (arith, c.loop-place-test.false)) c.loop-place.invariant)
    c.in_ok-put_moves.ensures (rw c.in_ok-body.ensures at c.push.ensures.ok)

pub nodes::put_decision-returns :
    goal.nodes::put_decision-returns
nodes::put_decision-returns t c =
    in_words c.push.result c.args.code.now c.push.new.self _ _
    (ap (λ ns. single (decide (record { 0 = c.args.label.number }) (record { 0 = c.args.context.now.instance }) c.args.slot ns))
    (decision_put c.put_nodes.new.nodes.items _ _ c.new-nodes.ensures.items (c.in_ok-put_nodes.ensures no_node)))
    c.push.ensures.ok

pub nodes::put_nodes-put_operand_nodes-requires :
    goal.nodes::put_nodes-put_operand_nodes-requires
nodes::put_nodes-put_operand_nodes-requires t c =
    let first = c.in-ShortCircuit.first.value in
    let others = c.in-ShortCircuit.others.items in
    let is = ap test_size (sym c.test.view_is ∙ ap test_at c.in-ShortCircuit.is) in
    (omega (arith, is, forms_size (neutral_of c.in-ShortCircuit.form) first others, test_positive first, ap tests_size c.deref-in-ShortCircuit-3.ensures.value), tt)

pub nodes::put_nodes-returns-in_ok-push-in-Condition :
    goal.nodes::put_nodes-returns-in_ok-push-in-Condition
nodes::put_nodes-returns-in_ok-push-in-Condition t c =
    λ rest. rw (← c.test.view_is, c.in-Condition.is)
    (condition_put c.args.nodes.now.items _ _ _ (expr_for c.args.context.now c.args.slot c.in-Condition.expr) rest
    c.in_ok-push-in-Condition.ensures.items c.in_ok-put_value-in-Condition.ensures c.new-operand.ensures)

pub nodes::put_nodes-returns-in_ok-put_nodes-in-ShortCircuit :
    goal.nodes::put_nodes-returns-in_ok-put_nodes-in-ShortCircuit
nodes::put_nodes-returns-in_ok-put_nodes-in-ShortCircuit t c =
    let first = c.in-ShortCircuit.first.value in
    let others = c.in-ShortCircuit.others.items in
    let edges = c.args.edges in
    rw (← c.test.view_is, c.in-ShortCircuit.is)
    (whenever c.put_operand_nodes.result c.put_operand_nodes.ensures (λ put rest.
    form_put c.args.context.now c.args.nodes.now.items c.put_nodes-in-ShortCircuit.new.nodes.items c.put_operand_nodes.new.nodes.items c.args.slot (neutral_of c.in-ShortCircuit.form) first _ others _ _
    edges.on_true edges.on_false _ _ rest
    c.deref-in-ShortCircuit-2.ensures c.deref-in-ShortCircuit.ensures.value c.deref-in-ShortCircuit-3.ensures.value
    c.in_ok-left-in-ShortCircuit.ensures.on_true c.in_ok-left-in-ShortCircuit.ensures.on_false
    c.in_ok-put_nodes-in-ShortCircuit.ensures (put rest)))

pub parts::put_located-loop-selector-init :
    goal.parts::put_located-loop-selector-init
parts::put_located-loop-selector-init t c =
    let k = c.args.to in
    two_put c.args.code.now c.push_simple.new.self _ (one (address_on k (home_for c.args.context.now (object_of c.args.object)))) _
    (rw (c.address.ensures, c.home.ensures) at c.in_ok-push_simple.ensures.ok)
    (ap (λ q. joined c.push_simple.new.self (parts_for c.args.context.now k (shape_named (text c.args.context.now) q) (parts_of c.args.selectors.now))) c.type_of-of.ensures)

pub parts::put_located-put_selector-requires :
    goal.parts::put_located-put_selector-requires
parts::put_located-put_selector-requires t c =
    (omega (arith, c.decreases, selector_within c.args.selectors.now c.loop-selector.selector-index c.selector-item.result (omega arith), ap selector_size c.selector-item.is), tt)

pub parts::put_located-loop-selector-preserved :
    goal.parts::put_located-loop-selector-preserved
parts::put_located-loop-selector-preserved t c = grind (arith, common_steps)

pub parts::put_located-returns :
    goal.parts::put_located-returns
parts::put_located-returns t c =
    none_left (λ ss. parts_for c.args.context.now c.args.to (shape_named (text c.args.context.now) c.loop-selector.of) (parts_of ss)) refl c.args.selectors.now c.loop-selector.selector-index _ _
    (omega (arith, c.loop-selector-test.false)) c.loop-selector.invariant

pub parts::put_selector-returns-in_ok-push_simple-in-Record-Component :
    goal.parts::put_selector-returns-in_ok-push_simple-in-Record-Component
parts::put_selector-returns-in_ok-push_simple-in-Record-Component t c =
    let r = c.in-Record-Component.record in
    λ rest. rw (c.in-Record-Component.is-1, c.in-Some.is)
    (component_put c.args.context.now c.args.to c.in-Record-Component.place c.words_before.result _ r.sizes.now.program.now r.instance r.below r.components.now c.component.result
    c.args.code.now c.push_simple.new.self rest c.in-Record-Component.ensures.shape c.in-Record-Component.ensures.program c.words_before.ensures.words c.component.ensures
    (rw c.further.ensures at c.in_ok-push_simple-in-Record-Component.ensures.ok))

pub parts::put_selector-returns-in_ok-push_simple-in-Array-Element-2 :
    goal.parts::put_selector-returns-in_ok-push_simple-in-Array-Element-2
parts::put_selector-returns-in_ok-push_simple-in-Array-Element-2 t c =
    let b = bounds_of c.in-Array-Element.range in
    λ rest. rw (c.in-Array-Element.is-1, c.in-Some.is)
    (element_put c.args.context.now c.args.to c.words.result _ _ b (scalar_range_of c.in-Array-Element.field-0-1) c.in-Array-Element.index
    c.args.code.now c.put_value.new.code c.push_simple-in-Array-Element.new.self c.push_simple-in-Array-Element-2.new.self rest
    c.in-Array-Element.ensures.shape c.words.ensures.words (rw c.in_ok-behind-in-Array-Element.ensures.number at c.in_ok-put_value-in-Array-Element.ensures)
    (rw (c.index_on.ensures, c.in_ok-behind-in-Array-Element.ensures.number) at c.in_ok-push_simple-in-Array-Element.ensures.ok)
    (rw c.in_ok-behind-in-Array-Element.ensures.number at c.in_ok-push_simple-in-Array-Element-2.ensures.ok))

pub value::put_operands-put_value-requires :
    goal.value::put_operands-put_value-requires
value::put_operands-put_value-requires t c =
    (omega (arith, c.decreases, operand_within c.args.operands.now c.loop-operand.operand-index c.operand-item.result (omega arith), ap (λ (x : Operand). expr_size x.operand) c.operand-item.is), tt)

pub value::put_operands-loop-operand-preserved :
    goal.value::put_operands-loop-operand-preserved
value::put_operands-loop-operand-preserved t c =
    let h = c.loop-operand.invariant in
    let k = c.args.to in
    let o = c.operand-item.result in
    let put = two_put _ _ _ (expr_for c.args.context.now (k + 1) o.operand) (one (operator_on k (operator_of o.operator)))
    (rw h.1 at c.in_ok-put_value.ensures) (rw (c.operator_for.ensures, h.1) at c.in_ok-push_simple.ensures.ok) in
    (one_more (operands_for c.args.context.now k) (operand_for c.args.context.now k) (λ x xs. refl) c.args.operands.now c.loop-operand.operand-index o o _ _ c.loop-operand-test.true c.operand-item.is put ∙ h.0, h.1)

pub value::put_operands-returns :
    goal.value::put_operands-returns
value::put_operands-returns t c =
    none_left (operands_for c.args.context.now c.args.to) refl c.args.operands.now c.loop-operand.operand-index _ _ (omega (arith, c.loop-operand-test.false)) c.loop-operand.invariant.0

pub value::put_relation-returns :
    goal.value::put_relation-returns
value::put_relation-returns t c =
    let k = c.args.to in
    three_then c.push_simple.result c.args.code.now c.put_value.new.code c.put_value-2.new.code c.push_simple.new.self
    (expr_for c.args.context.now k c.args.left.now) (expr_for c.args.context.now (k + 1) c.args.right.now) (one (relation_on k (relation_of c.args.relation)))
    c.in_ok-put_value.ensures (rw c.in_ok-behind.ensures.number at c.in_ok-put_value-2.ensures) (rw (c.relation_for.ensures, c.in_ok-behind.ensures.number) at c.push_simple.ensures.ok)

pub value::put_value-put_operands-requires :
    goal.value::put_value-put_operands-requires
value::put_value-put_operands-requires t c =
    let first = c.in-Operations.first.value in
    let others = c.in-Operations.others.items in
    let is = ap expr_size (sym c.expr.view_is ∙ ap expr_at c.in-Operations.is) in
    (omega (arith, is, chain_size first others, expr_positive first, ap operands_size c.deref-in-Operations-2.ensures.value), tt)

pub value::put_value-returns-in_ok-put_located-in-Part :
    goal.value::put_value-returns-in_ok-put_located-in-Part
value::put_value-returns-in_ok-put_located-in-Part t c =
    let k = c.args.to in
    let o = c.in-Part.object in
    let ss = c.in-Part.selectors.items in
    rw (← c.expr.view_is, c.in-Part.is, part_read c.args.context.now k o ss (sym (c.has_parts.ensures ∙ ap is_filled c.deref.ensures.value) ∙ c.if-not-has_parts.false))
    (then_put c.push_simple-in-Part.result c.args.code.now c.put_located.new.code c.push_simple-in-Part.new.self (located_for c.args.context.now k (object_of o) (parts_of ss)) (one (op.Load k k))
    (rw c.deref-in-Part.ensures.value at c.in_ok-put_located-in-Part.ensures) c.push_simple-in-Part.ensures.ok)

pub value::put_value-returns-in_ok-put_located-in-Attribute :
    goal.value::put_value-returns-in_ok-put_located-in-Attribute
value::put_value-returns-in_ok-put_located-in-Attribute t c =
    let k = c.args.to in
    let o = c.in-Attribute.object in
    let ss = c.in-Attribute.selectors.items in
    rw (← c.expr.view_is, c.in-Attribute.is)
    (then_put c.put_static-in-Attribute.result c.args.code.now c.put_located-in-Attribute.new.code c.put_static-in-Attribute.new.code (located_for c.args.context.now k (object_of o) (parts_of ss))
    (one (op.Number k ((names_for c.args.context.now).number (static_of c.in-Attribute.value))))
    (rw c.deref-in-Attribute.ensures.value at c.in_ok-put_located-in-Attribute.ensures) c.put_static-in-Attribute.ensures)

pub value::put_value-returns-in_ok-put_value-in-Signed :
    goal.value::put_value-returns-in_ok-put_value-in-Signed
value::put_value-returns-in_ok-put_value-in-Signed t c =
    rw (← c.expr.view_is, c.in-Signed.is)
    (then_put c.push_simple-in-Signed.result c.args.code.now c.put_value.new.code c.push_simple-in-Signed.new.self
    (expr_for c.args.context.now c.args.to c.in-Signed.operand.value) (one (sign_on c.args.to (sign_of c.in-Signed.sign)))
    (rw c.deref-in-Signed.ensures at c.in_ok-put_value-in-Signed.ensures) (rw c.sign_on.ensures at c.push_simple-in-Signed.ensures.ok))

pub value::put_value-returns-in_ok-put_value-in-Operations :
    goal.value::put_value-returns-in_ok-put_value-in-Operations
value::put_value-returns-in_ok-put_value-in-Operations t c =
    let first = c.in-Operations.first.value in
    let others = c.in-Operations.others.items in
    rw (← c.expr.view_is, c.in-Operations.is, chain_for c.args.context.now c.args.to first others)
    (then_put c.put_operands.result c.args.code.now c.put_value-in-Operations.new.code c.put_operands.new.code (expr_for c.args.context.now c.args.to first) (operands_for c.args.context.now c.args.to others)
    (rw c.deref-in-Operations.ensures at c.in_ok-put_value-in-Operations.ensures) (rw c.deref-in-Operations-2.ensures.value at c.put_operands.ensures))

pub value::put_value-returns-in_ok-put_value-in-Complement :
    goal.value::put_value-returns-in_ok-put_value-in-Complement
value::put_value-returns-in_ok-put_value-in-Complement t c =
    rw (← c.expr.view_is, c.in-Complement.is)
    (then_put c.push_simple-in-Complement.result c.args.code.now c.put_value-in-Complement.new.code c.push_simple-in-Complement.new.self
    (expr_for c.args.context.now c.args.to c.in-Complement.operand.value) (one (complement_on c.args.to))
    (rw c.deref-in-Complement.ensures at c.in_ok-put_value-in-Complement.ensures) c.push_simple-in-Complement.ensures.ok)

pub value::put_value-returns-in_ok-put_value-in-Conversion :
    goal.value::put_value-returns-in_ok-put_value-in-Conversion
value::put_value-returns-in_ok-put_value-in-Conversion t c =
    rw (← c.expr.view_is, c.in-Conversion.is)
    (then_put c.push_simple-in-Conversion.result c.args.code.now c.put_value-in-Conversion.new.code c.push_simple-in-Conversion.new.self
    (expr_for c.args.context.now c.args.to c.in-Conversion.operand.value) (one (within c.args.to ((names_for c.args.context.now).bounds (scalar_range_of c.in-Conversion.range))))
    (rw c.deref-in-Conversion.ensures at c.in_ok-put_value-in-Conversion.ensures) (in_words c.push_simple-in-Conversion.result c.put_value-in-Conversion.new.code c.push_simple-in-Conversion.new.self _ _
    (ap one c.within.ensures ∙ ap (λ b. one (within c.args.to b)) c.bounds.ensures) c.push_simple-in-Conversion.ensures.ok))

pub value::put_value-returns-in_ok-put_call-in-Call :
    goal.value::put_value-returns-in_ok-put_call-in-Call
value::put_value-returns-in_ok-put_call-in-Call t c =
    let actuals = actuals_of c.in-Call.actuals.items in
    rw (← c.expr.view_is, c.in-Call.is, call_value c.args.context.now c.args.to (callee_of c.in-Call.callee) actuals)
    (then_put c.push_simple-in-Call.result c.args.code.now c.put_call.new.code c.push_simple-in-Call.new.self
    (call_for c.args.context.now c.args.to ((names_for c.args.context.now).target (callee_of c.in-Call.callee)) actuals) (one (op.Move c.args.to c.args.context.now.width))
    (rw (c.deref-in-Call.ensures.value, c.target.ensures) at c.in_ok-put_call-in-Call.ensures) c.push_simple-in-Call.ensures.ok)

pub value::put_value-returns-then-not-has_parts : goal.value::put_value-returns-then-not-has_parts
value::put_value-returns-then-not-has_parts t c = grind (arith, common_steps)

pub parts::put_selector-returns-in_default-2-3 : goal.parts::put_selector-returns-in_default-2-3
parts::put_selector-returns-in_default-2-3 t c = grind (arith, common_steps)

pub parts::put_selector-returns-in_default-2 : goal.parts::put_selector-returns-in_default-2
parts::put_selector-returns-in_default-2 t c = grind (arith, common_steps)

pub parts::put_selector-returns-in_default : goal.parts::put_selector-returns-in_default
parts::put_selector-returns-in_default t c = grind (arith, common_steps)

pub nodes::put_operand_nodes-loop-operand-preserved : goal.nodes::put_operand_nodes-loop-operand-preserved
nodes::put_operand_nodes-loop-operand-preserved t c = grind (arith, common_steps)

pub value::put_value-returns-in-Relation : goal.value::put_value-returns-in-Relation
value::put_value-returns-in-Relation t c = grind (arith, common_steps)

pub parts::put_selector-returns-in_default-2-2 : goal.parts::put_selector-returns-in_default-2-2
parts::put_selector-returns-in_default-2-2 t c = grind (arith, common_steps)

pub value::put_value-returns-in-Decision : goal.value::put_value-returns-in-Decision
value::put_value-returns-in-Decision t c = grind (arith, common_steps)

pub value::put_value-returns-in-Read : goal.value::put_value-returns-in-Read
value::put_value-returns-in-Read t c = grind (arith, common_steps)

pub value::put_value-returns-in-Constant : goal.value::put_value-returns-in-Constant
value::put_value-returns-in-Constant t c = grind (arith, common_steps)

pub parts::put_selector-put_value-requires : goal.parts::put_selector-put_value-requires
parts::put_selector-put_value-requires t c = grind (arith, common_steps)

pub calls::put_actual-returns-then-not-has_parts : goal.calls::put_actual-returns-then-not-has_parts
calls::put_actual-returns-then-not-has_parts t c = grind (arith, common_steps)

pub value::put_value-put_located-requires : goal.value::put_value-put_located-requires
value::put_value-put_located-requires t c = grind (arith, common_steps)

pub nodes::put_operand_nodes-returns : goal.nodes::put_operand_nodes-returns
nodes::put_operand_nodes-returns t c = grind (arith, common_steps)

pub value::put_value-put_call-requires : goal.value::put_value-put_call-requires
value::put_value-put_call-requires t c = grind (arith, common_steps)

pub value::put_value-put_relation-requires : goal.value::put_value-put_relation-requires
value::put_value-put_relation-requires t c = grind (arith, common_steps)

pub nodes::put_nodes-returns-in-Negation : goal.nodes::put_nodes-returns-in-Negation
nodes::put_nodes-returns-in-Negation t c = grind (arith, common_steps)

pub value::put_value-returns-in-Literal : goal.value::put_value-returns-in-Literal
value::put_value-returns-in-Literal t c = grind (arith, common_steps)

pub calls::put_actual-returns-in-Composite : goal.calls::put_actual-returns-in-Composite
calls::put_actual-returns-in-Composite t c = grind (arith, common_steps)
