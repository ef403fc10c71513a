use Rattle.std.specs.declared.alloc.Global.{Global}
use Rattle.std.specs.declared.vec.Vec.{Vec}
use Rattle.std.proofs.Common.{◌≡◌, ⊎_elim, true, Ok, Err, option_map, drop, map, sum_by, is_some, rules, arith, refl, sym, ap, ◌∙◌, subst, ◌+◌, ◌∷◌, []}
use Rattle.std.proofs.lemmas.List.{map-append}
use Rattle.std.proofs.lemmas.List.Sums.{get_or-le-sum_by}
use Rattle.ada_syntax.specs.Tree as source
use Rattle.ada_syntax.specs.Tree.{expr_size, name_size}
use Rattle.ada_syntax.specs.TreeView.{exprs_of, expr_at, with_operands, joined, is_filled, has_operators}
use Rattle.ada_syntax.proofs.SizeLaws.{operand_size, suffix_size, name_size-with_suffixes}
use Rattle.ada_tree.specs.View.{label_of}
use Rattle.ada_rules.specs.Plan.{outcome_after, answer_at}
use Rattle.ada_rules.specs.Environment.{given}
use Rattle.ada_rules.specs.Denoted as language
use Rattle.ada_rules.specs.Denoted.{any_judged, a_thing, enclosed, numeral_of, standing_at, value_of, unary_of, binary_of, related, applied_to, neutral_of}
use Rattle.ada_rules.specs.Expressions.{itself, operand, opens, entered, is_circuit, is_circuit_under, role_under, typed_as, judged, denoted, all_judged}
use Rattle.ada_entities.specs.Answers.{Refuses, Answers}
use Rattle.ada_judged.specs.declared.judged.Judged.{Judged}
use Rattle.ada_judged.specs.JudgedView.{judged_of}
use Rattle.ada_phrases.specs.declared.names.Denoted.{Denoted}
use Rattle.ada_phrases.specs.declared.names.Denoted.TheVariants as denoted_as
use Rattle.ada_phrases.specs.Answers.{counted, along, before}
use Rattle.ada_phrases.specs.Closing.{role_of, label_if, closing, closing_in, IsClosable}
use Rattle.ada_phrases.specs.DenotedView.{denotes}
use Rattle.ada_phrases.specs.Steps.{operand_in, joined_in, applied_in, suffix_in, all_judged_of, finished}
use Rattle.ada_phrases.proofs.Parts.{in_part, refused_as, answers_as, gives_typed, gives_found, ok_then, pair_first, pair_passes, pair_refuses, turn_passes, turn_refuses, all_turned}
use Rattle.ada_phrases.proofs.Walks.{operands_along, operands_alone}
use Rattle.ada_phrases.proofs.Closed.{NoObject, along_none, unary_none, circuit_none, closable, opens_circuit}
use Rattle.ada_phrases.proofs.Turns as law
use Rattle.ada_phrases.proofs.Ends.{along_refuses, name_along, expr_passes, expr_refused, exprs_end, filled_size, filled_joined}
use Rattle.ada_phrases.proofs.phrases.+phrases.Goals as goal

pub value_of_name-returns-in_err-denoted : goal.value_of_name-returns-in_err-denoted
value_of_name-returns-in_err-denoted t c k env s h =
    let r = law.name_refused env (counted c.args.decisions.now s) c.args.pos c.args.name.now c.in_err-denoted.field-0.0 (c.in_err-denoted.ensures k env s h) in
    search (rules, r)

pub value_of_name-returns : goal.value_of_name-returns
value_of_name-returns t c k env s h =
    let d = given (denotes k c.in_ok-denoted.denoted) (counted c.denoted.new.decisions s) in
    answers_as (λ x. given (judged_of k x) d.next) _ _ c.typed.result
    (law.name_passes env (counted c.args.decisions.now s) c.args.pos c.args.name.now d (c.in_ok-denoted.ensures k env s h))
    (gives_typed (judged_of k) d.next env.step c.args.scope.now.step c.args.pos c.any_judged.result c.value.result any_judged (option_map (standing_at c.args.pos) (value_of d.value))
    c.typed.result h.step (c.any_judged.ensures k) (c.value.ensures k env h) c.typed.ensures)

pub operated-returns-in_err-left : goal.operated-returns-in_err-left
operated-returns-in_err-left t c k env s h =
    let s0 = counted c.args.decisions.now s in
    let f = c.in_err-left.field-0.0 in
    let r = law.operand_refused env s0 c.args.pos (judged_of k c.args.left) c.args.right.now f
    (pair_refuses c.args.left (λ x. given (judged_of k x) (counted c.judged-value.new.decisions s)) (judged env itself s0 c.args.right.now.operand).answer c.judged-value.result f c.in_err-left.ensures
    (c.judged-value.ensures k env s h)) in
    search (rules, r)

pub operated-returns : goal.operated-returns
operated-returns t c k env s h =
    let p = c.args.pos in
    let s0 = counted c.args.decisions.now s in
    let z : Judged × Judged = (c.in_ok-left.left, c.in_ok-left.value) in
    let o = c.args.right.now in
    let y = given (judged_of k z.1) (counted c.judged-value.new.decisions s) in
    let passed = pair_passes c.args.left (λ x. given (judged_of k x) y.next) (judged env itself s0 o.operand).answer c.judged-value.result z c.in_ok-left.ensures (c.judged-value.ensures k env s h) in
    answers_as (λ x. given (judged_of k x) y.next) _ _ c.typed_found.result
    (ap (λ l. answer_at p (operand_in env p (given (judged_of k l) s0) o).outcome) (sym (pair_first c.args.left c.judged-value.result z c.in_ok-left.ensures))
    ∙ law.operand_passes env s0 p (judged_of k z.0) o y passed)
    (gives_found (judged_of k) y.next env.step c.args.scope.now.step p c.any_judged.result c.binary-found.result any_judged
    (binary_of p o.operator (judged_of k z.0) y.value) c.typed_found.result h.step (c.any_judged.ensures k)
    (ok_then _ _ c.binary-found.result (λ x f. f k) c.binary-found.ensures) c.typed_found.ensures)

pub joined_with-returns-in_err-left : goal.joined_with-returns-in_err-left
joined_with-returns-in_err-left t c k env s h =
    let s0 = counted c.args.decisions.now s in
    let f = c.in_err-left.field-0.0 in
    let r = law.joined_refused env s0 c.args.pos c.args.operator (judged_of k c.args.left) c.args.right.now f
    (pair_refuses c.args.left (λ x. given (judged_of k x) (counted c.judged-value.new.decisions s)) (judged env operand s0 c.args.right.now).answer c.judged-value.result f c.in_err-left.ensures
    (c.judged-value.ensures k env s h)) in
    search (rules, r)

pub joined_with-returns : goal.joined_with-returns
joined_with-returns t c k env s h =
    let p = c.args.pos in
    let op = c.args.operator in
    let e = c.args.right.now in
    let s0 = counted c.args.decisions.now s in
    let z : Judged × Judged = (c.in_ok-left.left, c.in_ok-left.value) in
    let y = given (judged_of k z.1) (counted c.judged-value.new.decisions s) in
    let passed = pair_passes c.args.left (λ x. given (judged_of k x) y.next) (judged env operand s0 e).answer c.judged-value.result z c.in_ok-left.ensures (c.judged-value.ensures k env s h) in
    answers_as (λ x. given (judged_of k x) y.next) _ _ c.typed_found.result
    (ap (λ l. answer_at p (joined_in env p op (given (judged_of k l) s0) e).outcome) (sym (pair_first c.args.left c.judged-value.result z c.in_ok-left.ensures))
    ∙ law.joined_passes env s0 p op (judged_of k z.0) e y passed)
    (gives_found (judged_of k) y.next env.step c.args.scope.now.step p c.any_judged.result c.joined-found.result any_judged
    (language.joined p op (judged_of k z.0) y.value) c.typed_found.result h.step (c.any_judged.ensures k)
    (ok_then _ _ c.joined-found.result (λ x f. f k) c.joined-found.ensures) c.typed_found.ensures)

pub relation-returns-in_err-left : goal.relation-returns-in_err-left
relation-returns-in_err-left t c k env s h =
    let r = law.left_refused env (counted c.args.decisions.now s) c.args.pos c.args.left.now c.args.operator c.args.right.now c.in_err-left.field-0.0
    (c.in_err-left.ensures k env s h) in
    search (rules, r)

pub relation-returns-in_err-left-2 : goal.relation-returns-in_err-left-2
relation-returns-in_err-left-2 t c k env s h =
    let x = given (judged_of k c.in_ok-left.left) (counted c.judged.new.decisions s) in
    let f = c.in_err-left-2.field-0.0 in
    let r = law.right_refused env (counted c.args.decisions.now s) c.args.pos c.args.left.now c.args.operator c.args.right.now x f (c.in_ok-left.ensures k env s h)
    (pair_refuses c.in_ok-left.left (λ x. given (judged_of k x) (counted c.judged-right.new.decisions s)) (judged env itself x.next c.args.right.now).answer c.judged-right.result f c.in_err-left-2.ensures
    (c.judged-right.ensures k env s h)) in
    search (rules, r)

pub relation-returns : goal.relation-returns
relation-returns t c k env s h =
    let p = c.args.pos in
    let z : Judged × Judged = (c.in_ok-left-2.left, c.in_ok-left-2.right) in
    let first = c.in_ok-left.left in
    let x = given (judged_of k first) (counted c.judged.new.decisions s) in
    let y = given (judged_of k z.1) (counted c.judged-right.new.decisions s) in
    let passed = pair_passes first (λ x. given (judged_of k x) y.next) (judged env itself x.next c.args.right.now).answer c.judged-right.result z c.in_ok-left-2.ensures (c.judged-right.ensures k env s h) in
    answers_as (λ x. given (judged_of k x) y.next) _ _ c.typed_found.result
    (law.relation_passes env (counted c.args.decisions.now s) p c.args.left.now c.args.operator c.args.right.now x y (c.in_ok-left.ensures k env s h) passed)
    (gives_found (judged_of k) y.next env.step c.args.scope.now.step p c.any_judged.result c.related-found.result any_judged
    (related p c.args.operator x.value y.value) c.typed_found.result h.step (c.any_judged.ensures k)
    (ok_then _ _ c.related-found.result (λ o f. f k ∙ ap (λ l. related p c.args.operator (judged_of k l) y.value) (pair_first first c.judged-right.result z c.in_ok-left-2.ensures)) c.related-found.ensures)
    c.typed_found.ensures)

pub applied-returns-in_err-prefix : goal.applied-returns-in_err-prefix
applied-returns-in_err-prefix t c k env s h =
    let s0 = counted c.args.decisions.now s in
    let es = exprs_of c.args.exprs.now in
    let f = c.in_err-prefix.field-0.0 in
    let r = law.applied_refused env s0 c.args.pos (denotes k c.args.prefix) es f
    (pair_refuses c.args.prefix (λ xs. given (all_judged_of k xs) (counted c.all_judged-values.new.decisions s)) (all_judged env s0 c.args.pos es).answer c.all_judged-values.result f c.in_err-prefix.ensures
    (c.all_judged-values.ensures c.args.pos k env s h)) in
    search (rules, r)

pub applied-returns : goal.applied-returns
applied-returns t c k env s h =
    let p = c.args.pos in
    let s0 = counted c.args.decisions.now s in
    let es = exprs_of c.args.exprs.now in
    let z : Denoted × Vec Judged Global = (c.in_ok-prefix.prefix, c.in_ok-prefix.values) in
    let xs = given (all_judged_of k z.1) (counted c.all_judged-values.new.decisions s) in
    let passed = pair_passes c.args.prefix (λ xs. given (all_judged_of k xs) (counted c.all_judged-values.new.decisions s)) (all_judged env s0 p es).answer c.all_judged-values.result z c.in_ok-prefix.ensures
    (c.all_judged-values.ensures p k env s h) in
    answers_as (λ x. given (denotes k x) xs.next) _ _ c.typed_found.result
    (ap (λ d. answer_at p (applied_in env p (given (denotes k d) s0) es).outcome) (sym (pair_first c.args.prefix c.all_judged-values.result z c.in_ok-prefix.ensures))
    ∙ law.applied_passes env s0 p (denotes k z.0) es xs passed)
    (gives_found (denotes k) xs.next env.step c.args.scope.now.step p denoted_as.Thing c.applied-found.result a_thing
    (applied_to (denotes k z.0) xs.value) c.typed_found.result h.step refl
    (ok_then _ _ c.applied-found.result (λ x f. f k env h) c.applied-found.ensures) c.typed_found.ensures)

pub suffixed-returns-in-Selected : goal.suffixed-returns-in-Selected
suffixed-returns-in-Selected t c k env s h =
    let at = counted c.args.decisions.now s in
    answers_as (λ x. given (denotes k x) at) _ _ c.selected.result
    (ap (λ x. answer_at c.args.pos (suffix_in env c.args.pos (given (denotes k c.args.prefix) at) x).outcome) c.in-Selected.is)
    (c.selected.ensures k env at h)

pub suffixed-returns-in-Attribute : goal.suffixed-returns-in-Attribute
suffixed-returns-in-Attribute t c k env s h =
    let at = counted c.args.decisions.now s in
    answers_as (λ x. given (denotes k x) at) _ _ c.attributed.result
    (ap (λ x. answer_at c.args.pos (suffix_in env c.args.pos (given (denotes k c.args.prefix) at) x).outcome) c.in-Attribute.is)
    (c.attributed.ensures k env at h)

pub suffixed-returns-in-Applied : goal.suffixed-returns-in-Applied
suffixed-returns-in-Applied t c k env s h =
    let at = given (denotes k c.args.prefix) (counted c.args.decisions.now s) in
    answers_as (λ x. given (denotes k x) (counted c.applied.new.decisions s)) _ _ c.applied.result
    (ap (λ x. answer_at c.args.pos (suffix_in env c.args.pos at x).outcome) c.in-Applied.is
    ∙ ap (λ es. answer_at c.args.pos (applied_in env c.args.pos at (exprs_of es)).outcome) (sym c.deref.ensures.value))
    (c.applied.ensures k env s h)

pub all_judged-returns-in_err-value : goal.all_judged-returns-in_err-value
all_judged-returns-in_err-value t c p k env s h =
    let r = refused_as _ _ c.in_err-value.field-0.0 (c.loop-expr.invariant p k env s h)
    (expr_refused env p (counted c.loop-expr.decisions s) c.args.exprs.now c.loop-expr.expr-index c.expr-item.result
    (map (judged_of k) c.loop-expr.values.items) c.in_err-value.field-0.0 (omega arith) c.expr-item.is (c.in_err-value.ensures k env s h)) in
    search (rules, r)

pub all_judged-loop-expr-preserved : goal.all_judged-loop-expr-preserved
all_judged-loop-expr-preserved t c p k env s h =
    let x = given (judged_of k c.in_ok-value.value) (counted c.judged.new.decisions s) in
    let done = c.loop-expr.values.items in
    let i = c.loop-expr.expr-index in
    c.loop-expr.invariant p k env s h
    ∙ (expr_passes env p (counted c.loop-expr.decisions s) c.args.exprs.now i c.expr-item.result (map (judged_of k) done) x (omega arith) c.expr-item.is
    (c.in_ok-value.ensures k env s h)
    ∙ ap (λ xs. before xs (all_judged env x.next p (exprs_of (drop (i + 1) c.args.exprs.now))).answer)
    (sym (ap (map (judged_of k)) c.in_ok-push.ensures.items ∙ map-append (judged_of k) done (c.in_ok-value.value ∷ []))))

pub all_judged-returns : goal.all_judged-returns
all_judged-returns t c p k env s h =
    c.loop-expr.invariant p k env s h
    ∙ exprs_end env p (counted c.loop-expr.decisions s) c.args.exprs.now c.loop-expr.expr-index (map (judged_of k) c.loop-expr.values.items) (omega arith)

pub operations-returns-in_err-value : goal.operations-returns-in_err-value
operations-returns-in_err-value t c k env s h =
    let p = c.args.pos in
    let s0 = counted c.args.decisions.now s in
    let r = refused_as _ _ c.in_err-value.field-0.0 (operands_along env s0 p c.args.first.now c.args.others.now)
    (along_refuses p (operand_in env p) (judged env itself s0 c.args.first.now).answer c.args.others.now c.in_err-value.field-0.0 (c.in_err-value.ensures k env s h)) in
    search (rules, r)

pub operations-loop-other-init : goal.operations-loop-other-init
operations-loop-other-init t c k env s h =
    operands_along env (counted c.args.decisions.now s) c.args.pos c.args.first.now c.args.others.now
    ∙ ap (λ r. along c.args.pos (operand_in env c.args.pos) r c.args.others.now) (c.in_ok-value.ensures k env s h)

pub operations-returns-in_err-value-2 : goal.operations-returns-in_err-value-2
operations-returns-in_err-value-2 t c k env s h =
    let p = c.args.pos in
    let r = refused_as _ _ c.in_err-value-2.field-0.0 (c.loop-other.invariant k env s h)
    (turn_refuses p (operand_in env p) (given (judged_of k c.loop-other.value) (counted c.loop-other.decisions s)) c.args.others.now c.loop-other.other-index c.other-item.result
    c.in_err-value-2.field-0.0 (omega arith) c.other-item.is (c.in_err-value-2.ensures k env s h)) in
    search (rules, r)

pub operations-loop-other-preserved : goal.operations-loop-other-preserved
operations-loop-other-preserved t c k env s h =
    let p = c.args.pos in
    c.loop-other.invariant k env s h
    ∙ turn_passes p (operand_in env p) (given (judged_of k c.loop-other.value) (counted c.loop-other.decisions s)) c.args.others.now c.loop-other.other-index c.other-item.result
    _ (omega arith) c.other-item.is (c.in_ok-value-2.ensures k env s h)

pub chained-returns-in_err-value : goal.chained-returns-in_err-value
chained-returns-in_err-value t c k env s h =
    let p = c.args.pos in
    let s0 = counted c.args.decisions.now s in
    let r = along_refuses p (joined_in env p c.args.operator) (judged env operand s0 c.args.first.now).answer c.args.others.now c.in_err-value.field-0.0
    (c.in_err-value.ensures k env s h) in
    search (rules, r)

pub chained-returns-in_err-value-2 : goal.chained-returns-in_err-value-2
chained-returns-in_err-value-2 t c k env s h =
    let p = c.args.pos in
    let r = refused_as _ _ c.in_err-value-2.field-0.0 (c.loop-other.invariant k env s h)
    (turn_refuses p (joined_in env p c.args.operator) (given (judged_of k c.loop-other.value) (counted c.loop-other.decisions s)) c.args.others.now c.loop-other.other-index c.other-item.result
    c.in_err-value-2.field-0.0 (omega arith) c.other-item.is (c.in_err-value-2.ensures k env s h)) in
    search (rules, r)

pub chained-loop-other-preserved : goal.chained-loop-other-preserved
chained-loop-other-preserved t c k env s h =
    let p = c.args.pos in
    c.loop-other.invariant k env s h
    ∙ turn_passes p (joined_in env p c.args.operator) (given (judged_of k c.loop-other.value) (counted c.loop-other.decisions s)) c.args.others.now c.loop-other.other-index c.other-item.result
    _ (omega arith) c.other-item.is (c.in_ok-value-2.ensures k env s h)

pub denoted-returns-in_err-denoted : goal.denoted-returns-in_err-denoted
denoted-returns-in_err-denoted t c k env s h =
    let n = c.name.inside in
    let s0 = counted c.args.decisions.now s in
    let r = refused_as _ _ c.in_err-denoted.field-0.0
    (ap (λ n. (denoted env s0 n).answer) (sym c.name.view_is) ∙ name_along env s0 n.prefix n.suffixes.items _ (c.in_ok-entity.ensures k env h))
    (along_refuses n.prefix.pos (suffix_in env n.prefix.pos) _ n.suffixes.items c.in_err-denoted.field-0.0 (c.in_err-denoted.ensures k s0)) in
    search (rules, r)

pub denoted-loop-suffix-init : goal.denoted-loop-suffix-init
denoted-loop-suffix-init t c k env s h =
    let n = c.name.inside in
    let s0 = counted c.args.decisions.now s in
    let p = n.prefix.pos in
    ap (λ n. (denoted env s0 n).answer) (sym c.name.view_is)
    ∙ (name_along env s0 n.prefix n.suffixes.items _ (c.in_ok-entity.ensures k env h)
    ∙ (ap (λ r. along p (suffix_in env p) r n.suffixes.items) (c.in_ok-denoted.ensures k s0)
    ∙ ap (λ ss. along p (suffix_in env p) (Ok (given (denotes k c.in_ok-denoted.denoted) s0)) ss) (sym c.as_slice-suffix-items.ensures.value)))

pub denoted-suffixed-requires : goal.denoted-suffixed-requires
denoted-suffixed-requires t c =
    let n = c.name.inside in
    let all = name_size-with_suffixes (source.simple n.prefix) n.suffixes.items in
    let one = get_or-le-sum_by suffix_size c.as_slice-suffix-items.result.now c.loop-suffix.suffix-index c.suffix-item.result (omega arith) in
    (omega (arith, c.decreases, all, one, ap suffix_size c.suffix-item.is, ap name_size c.name.view_is, ap (λ xs. sum_by suffix_size xs) c.as_slice-suffix-items.ensures.value), tt)

pub denoted-returns-in_err-denoted-2 : goal.denoted-returns-in_err-denoted-2
denoted-returns-in_err-denoted-2 t c k env s h =
    let p = c.name.inside.prefix.pos in
    let r = refused_as _ _ c.in_err-denoted-2.field-0.0 (c.loop-suffix.invariant k env s h)
    (turn_refuses p (suffix_in env p) (given (denotes k c.loop-suffix.denoted) (counted c.loop-suffix.decisions s)) c.as_slice-suffix-items.result.now
    c.loop-suffix.suffix-index c.suffix-item.result c.in_err-denoted-2.field-0.0 (omega arith) c.suffix-item.is (c.in_err-denoted-2.ensures k env s h)) in
    search (rules, r)

pub denoted-loop-suffix-preserved : goal.denoted-loop-suffix-preserved
denoted-loop-suffix-preserved t c k env s h =
    let p = c.name.inside.prefix.pos in
    c.loop-suffix.invariant k env s h
    ∙ turn_passes p (suffix_in env p) (given (denotes k c.loop-suffix.denoted) (counted c.loop-suffix.decisions s)) c.as_slice-suffix-items.result.now
    c.loop-suffix.suffix-index c.suffix-item.result _ (omega arith) c.suffix-item.is (c.in_ok-denoted-2.ensures k env s h)

pub denoted-returns : goal.denoted-returns
denoted-returns t c k env s h =
    let p = c.name.inside.prefix.pos in
    c.loop-suffix.invariant k env s h
    ∙ all_turned p (suffix_in env p) (given (denotes k c.loop-suffix.denoted) (counted c.loop-suffix.decisions s)) c.as_slice-suffix-items.result.now
    c.loop-suffix.suffix-index (omega arith)

pub judged-operations-requires : goal.judged-operations-requires
judged-operations-requires t c =
    let p = c.expr.inside.pos in
    let a = c.in-Product.first.value in
    let os = c.in-Product.others.items in
    let filled : is_filled os ≡ true = ⊎_elim
    (λ h. subst (λ k. has_operators k ≡ true) h c.expr.invariant) (λ h. subst (λ k. has_operators k ≡ true) h c.expr.invariant) c.in-Product.is in
    let same : expr_size (expr_at p c.expr.inside.kind) ≡ expr_size (with_operands p a os) = ⊎_elim
    (λ h. ap (λ k. expr_size (expr_at p k)) h) (λ h. ap (λ k. expr_size (expr_at p k)) h) c.in-Product.is in (
      omega (
        arith,
        c.decreases,
        filled_size p a os filled,
        same,
        ap expr_size c.expr.view_is,
        ap expr_size c.deref-in-Product.ensures,
        ap (λ xs. sum_by operand_size xs) c.deref-in-Product-2.ensures.value,
      ),
      tt,
    )

pub judged-logical-requires : goal.judged-logical-requires
judged-logical-requires t c =
    let p = c.expr.inside.pos in
    let a = c.in-Logical.first.value in
    let bs = c.in-Logical.others.items in
    let filled : is_filled bs ≡ true = subst (λ k. has_operators k ≡ true) c.in-Logical.is c.expr.invariant in (
      omega (
        arith,
        c.decreases,
        filled_joined p c.in-Logical.operator a bs filled,
        ap (λ k. expr_size (expr_at p k)) c.in-Logical.is,
        ap expr_size c.expr.view_is,
        ap expr_size c.deref-in-Logical.ensures,
        ap (λ xs. sum_by expr_size xs) c.deref-in-Logical-2.ensures.value,
      ),
      tt,
    )

pub judged-returns-in-Numeral : goal.judged-returns-in-Numeral
judged-returns-in-Numeral t c k env s h =
    let p = c.expr.inside.pos in
    let s0 = counted c.args.decisions.now s in
    subst (λ e. Answers (λ x. given (judged_of k x) s0) (judged env (role_of c.args.role) s0 e).answer c.typed.result)
    (ap (λ x. expr_at p x) (sym c.in-Numeral.is) ∙ c.expr.view_is)
    (gives_typed (judged_of k) s0 env.step c.args.scope.now.step p c.any_judged.result c.numeral.result any_judged (numeral_of p c.in-Numeral.value) c.typed.result
    h.step (c.any_judged.ensures k) (c.numeral.ensures k) c.typed.ensures)

pub judged-returns-in-Name : goal.judged-returns-in-Name
judged-returns-in-Name t c k env s h =
    let p = c.expr.inside.pos in
    subst (λ e. Answers (λ x. given (judged_of k x) (counted c.value_of_name.new.decisions s)) (judged env (role_of c.args.role) (counted c.args.decisions.now s) e).answer c.value_of_name.result)
    (ap (λ x. expr_at p x) (sym c.in-Name.is) ∙ c.expr.view_is)
    (c.value_of_name.ensures k env s h)

pub judged-returns-in-Parenthesized : goal.judged-returns-in-Parenthesized
judged-returns-in-Parenthesized t c k env s h =
    let p = c.expr.inside.pos in
    subst (λ e. Answers (λ x. given (judged_of k x) (counted c.parenthesized.new.decisions s)) (judged env (role_of c.args.role) (counted c.args.decisions.now s) e).answer c.parenthesized.result)
    (ap (λ x. source.parenthesized p x) c.deref.ensures ∙ (ap (λ x. expr_at p x) (sym c.in-Parenthesized.is) ∙ c.expr.view_is))
    (c.parenthesized.ensures k env s h)

pub judged-returns-in-Unary : goal.judged-returns-in-Unary
judged-returns-in-Unary t c k env s h =
    let p = c.expr.inside.pos in
    subst (λ e. Answers (λ x. given (judged_of k x) (counted c.unary.new.decisions s)) (judged env (role_of c.args.role) (counted c.args.decisions.now s) e).answer c.unary.result)
    (ap (λ x. source.unary p c.in-Unary.operator x) c.deref-in-Unary.ensures ∙ (ap (λ x. expr_at p x) (sym c.in-Unary.is) ∙ c.expr.view_is))
    (c.unary.ensures k env s h)

pub judged-returns-in-Relation : goal.judged-returns-in-Relation
judged-returns-in-Relation t c k env s h =
    let p = c.expr.inside.pos in
    subst (λ e. Answers (λ x. given (judged_of k x) (counted c.relation.new.decisions s)) (judged env (role_of c.args.role) (counted c.args.decisions.now s) e).answer c.relation.result)
    ((ap (λ x. source.relation p x c.in-Relation.operator c.deref-in-Relation-2.result.now) c.deref-in-Relation.ensures ∙ ap (λ x. source.relation p c.in-Relation.left.value c.in-Relation.operator x) c.deref-in-Relation-2.ensures) ∙ (ap (λ x. expr_at p x) (sym c.in-Relation.is) ∙ c.expr.view_is))
    (c.relation.ensures k env s h)

pub judged-returns-in-Logical : goal.judged-returns-in-Logical
judged-returns-in-Logical t c k env s h =
    let p = c.expr.inside.pos in
    let op = c.in-Logical.operator in
    let a = c.in-Logical.first.value in
    let bs = c.in-Logical.others.items in
    let filled : is_filled bs ≡ true = subst (λ k. has_operators k ≡ true) c.in-Logical.is c.expr.invariant in
    subst (λ e. Answers (λ x. given (judged_of k x) (counted c.logical.new.decisions s)) (judged env (role_of c.args.role) (counted c.args.decisions.now s) e).answer c.logical.result)
    (ap (λ x. joined p op x c.deref-in-Logical-2.result.now) c.deref-in-Logical.ensures ∙ (ap (λ xs. joined p op a xs) c.deref-in-Logical-2.ensures.value
    ∙ (ap (λ x. expr_at p x) (sym c.in-Logical.is) ∙ c.expr.view_is)))
    (c.logical.ensures (ap (λ xs. is_filled xs) c.deref-in-Logical-2.ensures.value ∙ filled) k env s h)

pub judged-returns-in-Product : goal.judged-returns-in-Product
judged-returns-in-Product t c k env s h =
    let p = c.expr.inside.pos in
    let a = c.in-Product.first.value in
    let os = c.in-Product.others.items in
    let s0 = counted c.args.decisions.now s in
    let filled : is_filled os ≡ true = ⊎_elim
    (λ h. subst (λ k. has_operators k ≡ true) h c.expr.invariant) (λ h. subst (λ k. has_operators k ≡ true) h c.expr.invariant) c.in-Product.is in
    let whole : expr_at p c.expr.inside.kind ≡ with_operands p a os = ⊎_elim (λ h. ap (λ k. expr_at p k) h) (λ h. ap (λ k. expr_at p k) h) c.in-Product.is in
    subst (λ e. Answers (λ x. given (judged_of k x) (counted c.operations.new.decisions s)) (judged env (role_of c.args.role) s0 e).answer c.operations.result)
    (ap (λ x. with_operands p x c.deref-in-Product-2.result.now) c.deref-in-Product.ensures ∙ (ap (λ os. with_operands p a os) c.deref-in-Product-2.ensures.value ∙ (sym whole ∙ c.expr.view_is)))
    (answers_as (λ x. given (judged_of k x) (counted c.operations.new.decisions s)) _ _ c.operations.result
    (operands_alone env (role_of c.args.role) s0 p c.deref-in-Product.result.now c.deref-in-Product-2.result.now (ap (λ xs. is_filled xs) c.deref-in-Product-2.ensures.value ∙ filled))
    (c.operations.ensures k env s h))

pub logical-returns-in_err-value : goal.logical-returns-in_err-value
logical-returns-in_err-value t c filled k env s h =
    let p = c.args.pos in
    let op = c.args.operator in
    let r = role_of c.args.role in
    let s0 = counted c.args.decisions.now s in
    let f = c.in_err-value.field-0.0 in
    let b = c.opens.ensures ∙ ap (opens r) c.is_form.ensures in
    let x = refused_as _ _ f
    (law.logical_is env s0 p r op c.args.first.now c.args.others.now (counted c.enter.new.self s) (option_map label_of c.in_ok-label.label)
    (c.in_ok-label.ensures.entered s ∙ ap (λ b. entered b s0) b) (c.in_ok-label.ensures.label s ∙ ap (λ b. label_if b s0 p) b) filled)
    (law.finished_refused env.step (option_map label_of c.in_ok-label.label) p _ f (c.in_err-value.ensures k env s h)) in
    search (rules, x)

pub logical-returns : goal.logical-returns
logical-returns t c filled k env s h =
    let p = c.args.pos in
    let op = c.args.operator in
    let r = role_of c.args.role in
    let s0 = counted c.args.decisions.now s in
    let b = c.opens.ensures ∙ ap (opens r) c.is_form.ensures in
    let l = option_map label_of c.in_ok-label.label in
    let inner = counted c.enter.new.self s in
    let g = given (judged_of k c.in_ok-value.value) (counted c.chained.new.decisions s) in
    let j = c.in_ok-label.ensures.label s ∙ ap (λ b. label_if b s0 p) b in
    let free = subst NoObject (c.in_ok-value.ensures k env s h)
    (along_none env p op (judged env operand inner c.args.first.now).answer c.args.others.now filled) in
    let may : IsClosable l g.value = subst (λ m. IsClosable m g.value) (sym j) (closable (opens r (is_some (neutral_of op))) s0 p g.value (λ o. free)) in
    law.logical_is env s0 p r op c.args.first.now c.args.others.now inner l (c.in_ok-label.ensures.entered s ∙ ap (λ b. entered b s0) b) j filled
    ∙ (ap (finished env.step l p) (c.in_ok-value.ensures k env s h)
    ∙ (ap (λ st. Ok (closing_in st l p g)) h.step ∙ ap (λ x. Ok x) (sym (c.in_ok-closed_in.ensures k s may))))

pub unary-returns-in_err-value : goal.unary-returns-in_err-value
unary-returns-in_err-value t c k env s h =
    let p = c.args.pos in
    let op = c.args.operator in
    let e = c.args.operand.now in
    let r = role_of c.args.role in
    let s0 = counted c.args.decisions.now s in
    let f = c.in_err-value.field-0.0 in
    let l = option_map label_of c.in_ok-label.label in
    let inner = counted c.enter.new.self s in
    let b = c.opens.ensures ∙ ap (opens r) c.is_circuit_under.ensures in
    let x = refused_as _ _ f
    (law.unary_is env s0 p r op e inner l (c.in_ok-label.ensures.entered s ∙ ap (λ b. entered b s0) b) (c.in_ok-label.ensures.label s ∙ ap (λ b. label_if b s0 p) b))
    (law.finished_refused env.step l p _ f (in_part p (judged env (role_under op) inner e).answer (λ x. typed_as env x.next (unary_of p op x.value)) f
    (subst (λ ro. Refuses (judged env ro inner e).answer f) c.under.ensures (c.in_err-value.ensures k env s h)))) in
    search (rules, x)

pub unary-returns-in_err-value-2 : goal.unary-returns-in_err-value-2
unary-returns-in_err-value-2 t c k env s h =
    let p = c.args.pos in
    let op = c.args.operator in
    let e = c.args.operand.now in
    let r = role_of c.args.role in
    let s0 = counted c.args.decisions.now s in
    let f = c.in_err-value-2.field-0.0 in
    let l = option_map label_of c.in_ok-label.label in
    let inner = counted c.enter.new.self s in
    let g = given (judged_of k c.in_ok-value.value) (counted c.judged.new.decisions s) in
    let b = c.opens.ensures ∙ ap (opens r) c.is_circuit_under.ensures in
    let passed = ap (λ ro. (judged env ro inner e).answer) (sym c.under.ensures) ∙ c.in_ok-value.ensures k env s h in
    let x = refused_as _ _ f
    (law.unary_is env s0 p r op e inner l (c.in_ok-label.ensures.entered s ∙ ap (λ b. entered b s0) b) (c.in_ok-label.ensures.label s ∙ ap (λ b. label_if b s0 p) b)
    ∙ ap (λ y. finished env.step l p (answer_at p (outcome_after y (λ x. typed_as env x.next (unary_of p op x.value))))) passed)
    (law.finished_refused env.step l p _ f
    (gives_found (judged_of k) g.next env.step c.args.scope.now.step p c.any_judged.result c.unary-found.result any_judged (unary_of p op g.value) (Err f)
    h.step (c.any_judged.ensures k) (ok_then _ _ c.unary-found.result (λ x f. f k) c.unary-found.ensures) c.in_err-value-2.ensures)) in
    search (rules, x)

pub unary-returns : goal.unary-returns
unary-returns t c k env s h =
    let p = c.args.pos in
    let op = c.args.operator in
    let e = c.args.operand.now in
    let r = role_of c.args.role in
    let s0 = counted c.args.decisions.now s in
    let l = option_map label_of c.in_ok-label.label in
    let inner = counted c.enter.new.self s in
    let g = given (judged_of k c.in_ok-value.value) (counted c.judged.new.decisions s) in
    let v = given (judged_of k c.in_ok-value-2.value) (counted c.judged.new.decisions s) in
    let b = c.opens.ensures ∙ ap (opens r) c.is_circuit_under.ensures in
    let j = c.in_ok-label.ensures.label s ∙ ap (λ b. label_if b s0 p) b in
    let passed = ap (λ ro. (judged env ro inner e).answer) (sym c.under.ensures) ∙ c.in_ok-value.ensures k env s h in
    let found = gives_found (judged_of k) g.next env.step c.args.scope.now.step p c.any_judged.result c.unary-found.result any_judged (unary_of p op g.value)
    (Ok c.in_ok-value-2.value) h.step (c.any_judged.ensures k) (ok_then _ _ c.unary-found.result (λ x f. f k) c.unary-found.ensures) c.in_ok-value-2.ensures in
    let all = ap (λ y. answer_at p (outcome_after y (λ x. typed_as env x.next (unary_of p op x.value)))) passed ∙ found in
    let may : IsClosable l v.value = subst (λ m. IsClosable m v.value) (sym j) (closable (opens r (is_circuit_under op e)) s0 p v.value
    (λ o. subst NoObject all (unary_none env p op e (judged env (role_under op) inner e).answer (opens_circuit r (is_circuit_under op e) o)))) in
    law.unary_is env s0 p r op e inner l (c.in_ok-label.ensures.entered s ∙ ap (λ b. entered b s0) b) j
    ∙ (ap (finished env.step l p) all
    ∙ (ap (λ st. Ok (closing_in st l p v)) h.step ∙ ap (λ x. Ok x) (sym (c.in_ok-closed_in.ensures k s may))))

pub parenthesized-returns-in_err-value : goal.parenthesized-returns-in_err-value
parenthesized-returns-in_err-value t c k env s h =
    let r = role_of c.args.role in
    let s0 = counted c.args.decisions.now s in
    let b = c.opens.ensures ∙ ap (opens r) c.is_circuit.ensures in
    let x = law.enclosed_refused env s0 c.args.pos r c.args.inner.now (counted c.enter.new.self s) c.in_err-value.field-0.0
    (c.in_ok-label.ensures.entered s ∙ ap (λ b. entered b s0) b) (c.in_err-value.ensures k env s h) in
    search (rules, x)

pub parenthesized-returns : goal.parenthesized-returns
parenthesized-returns t c k env s h =
    let p = c.args.pos in
    let e = c.args.inner.now in
    let r = role_of c.args.role in
    let s0 = counted c.args.decisions.now s in
    let l = option_map label_of c.in_ok-label.label in
    let inner = counted c.enter.new.self s in
    let g = given (judged_of k c.in_ok-value.value) (counted c.judged.new.decisions s) in
    let b = c.opens.ensures ∙ ap (opens r) c.is_circuit.ensures in
    let j = c.in_ok-label.ensures.label s ∙ ap (λ b. label_if b s0 p) b in
    let may : IsClosable l (enclosed g.value) = subst (λ m. IsClosable m (enclosed g.value)) (sym j) (closable (opens r (is_circuit e)) s0 p (enclosed g.value)
    (λ o. subst NoObject (c.in_ok-value.ensures k env s h) (circuit_none env operand inner e (opens_circuit r (is_circuit e) o)))) in
    let own = subst (λ y. IsClosable l y) (sym (c.enclosed.ensures k)) may in
    law.enclosed_passes env s0 p r e inner l g (c.in_ok-label.ensures.entered s ∙ ap (λ b. entered b s0) b) j (c.in_ok-value.ensures k env s h)
    ∙ ap (λ x. Ok x) (sym (c.in_ok-closed.ensures k s own ∙ ap (λ y. closing l p (given y g.next)) (c.enclosed.ensures k)))
