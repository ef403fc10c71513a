-- Handlers, and the statements of a body or a block, as the walk goes on over them.
use Rattle.std.proofs.Common.{◌≡◌, nat_eq, ◌&&◌, ◌+◌, map, length, Ok, refl, sym, ap, ◌∙◌, subst, arith}
use Rattle.std.proofs.lemmas.Result.{err_from_is_err_and}
use Rattle.ada_syntax.specs.StatementView.{statements_of, handlers_of}
use Rattle.ada_tree.specs.View as view
use Rattle.ada_rules.specs.Environment.{given, in_handler}
use Rattle.ada_rules.specs.Statements as rules
use Rattle.ada_rules.specs.Statements.{all_stated, all_handled}
use Rattle.ada_entities.specs.Answers.{Refuses}
use Rattle.ada_phrases.proofs.Parts.{refused_as}
use Rattle.program_walk.specs.declared.walk.Walk.{Walk}
use Rattle.program_walk.specs.States.{state_of}
use Rattle.program_walk.proofs.Following.{grown}
use Rattle.statements.proofs.HandlerRows.{names_refused, statements_refused, one_passes, body_refused, handlers_refused, handled_passes, handlers_next, handlers_refuse}
use Rattle.statements.specs.Words.{undecided}
use Rattle.statements.specs.Made.{handlers_in}
use Rattle.statements.specs.Nested.{all_in_tree}
use Rattle.statements.proofs.SimpleLaws.{same_symbols}
use Rattle.statements.proofs.Steps.{failure_continues, refused_behind}
use Rattle.statements.proofs.nested.+statements.Goals as goal

pub handler-returns-in_err-choices-clause-comes : goal.handler-returns-in_err-choices-clause-comes
handler-returns-in_err-choices-clause-comes t c p k env h b =
    let e = err_from_is_err_and c.from_residual.result c.from_residual.ensures.1 in
    rw (e.1, e.2) (let w = c.args.walk.now in
    let x = c.args.source.now in
    let ss = statements_of x.statements.items in
    let t = c.args.is_last && nat_eq (length x.choices) 1 in
    let may = c.others_place-others.ensures ∙ ap (λ cs. c.args.is_last && nat_eq (length cs) 1) c.as_slice-named.ensures in
    let f = c.in_err-choices.field-0.0 in
    names_refused env p (state_of k w) t x.choices ss f
    (refused_as _ _ f (λ z. (rules.all_caught env (state_of k w) (sym may z) p (sym c.as_slice-named.ensures z)).answer)
    (c.in_err-choices.ensures p k env (undecided k w) (c.place.ensures k env h.symbols h.instances h.generic).site)))

pub handler-returns-in_err-statements-clause-comes : goal.handler-returns-in_err-statements-clause-comes
handler-returns-in_err-statements-clause-comes t c p k env h b =
    let e = err_from_is_err_and c.from_residual-in_err-statements.result c.from_residual-in_err-statements.ensures.1 in
    rw (e.1, e.2) (let w = c.args.walk.now in
    let v : Walk = record w { notes = record w.notes { decisions = c.all_caught.new.decisions } } in
    let x = c.args.source.now in
    let ss = statements_of x.statements.items in
    let t = c.args.is_last && nat_eq (length x.choices) 1 in
    let may = c.others_place-others.ensures ∙ ap (λ cs. c.args.is_last && nat_eq (length cs) 1) c.as_slice-named.ensures in
    let d = given (map view.exception_choice_of c.in_ok-choices.choices) (state_of k v) in
    let dt = (λ z. (rules.all_caught env (state_of k w) (sym may z) p (sym c.as_slice-named.ensures z)).answer)
    ∙ c.in_ok-choices.ensures p k env (undecided k w) (c.place.ensures k env h.symbols h.instances h.generic).site in
    let f = c.in_err-statements.field-0.0 in
    refused_behind v c.all_stated.new.walk k f _ c.in_err-statements.ensures.continues b (λ begins.
    statements_refused env p (state_of k w) t x.choices ss d dt f
    (subst (λ xs. Refuses (all_stated (in_handler env) (state_of k v) p (statements_of xs)).answer f) c.as_slice.ensures.value
    (c.in_err-statements.ensures.comes p k (in_handler env) (c.in_handler.ensures v k env (grown c.args.context.now w v (same_symbols w.symbols) k
    env h (record { symbols = begins.symbols; spans = begins.spans }))) b))))

pub handler-returns-in_err-statements-clause-continues : goal.handler-returns-in_err-statements-clause-continues
handler-returns-in_err-statements-clause-continues t c =
    let e = err_from_is_err_and c.from_residual-in_err-statements.result c.from_residual-in_err-statements.ensures.1 in
    rw (e.1, e.2) (let w = c.args.walk.now in
    let v : Walk = record w { notes = record w.notes { decisions = c.all_caught.new.decisions } } in
    failure_continues w v c.all_stated.new.walk c.in_err-statements.field-0.0 (λ k b. record { symbols = b.symbols; spans = b.spans })
    c.in_err-statements.ensures.continues)

pub handler-returns-clause-comes : goal.handler-returns-clause-comes
handler-returns-clause-comes t c p k env h b =
    let w = c.args.walk.now in
    let v : Walk = record w { notes = record w.notes { decisions = c.all_caught.new.decisions } } in
    let x = c.args.source.now in
    let ss = statements_of x.statements.items in
    let t = c.args.is_last && nat_eq (length x.choices) 1 in
    let may = c.others_place-others.ensures ∙ ap (λ cs. c.args.is_last && nat_eq (length cs) 1) c.as_slice-named.ensures in
    let d = given (map view.exception_choice_of c.in_ok-choices.choices) (state_of k v) in
    let dt = (λ z. (rules.all_caught env (state_of k w) (sym may z) p (sym c.as_slice-named.ensures z)).answer)
    ∙ c.in_ok-choices.ensures p k env (undecided k w) (c.place.ensures k env h.symbols h.instances h.generic).site in
    let made = c.in_ok-statements.statements.items in
    let xs = given (all_in_tree k made) (state_of k c.all_stated.new.walk) in
    let begins = c.in_ok-statements.ensures.continues k b in
    one_passes env p (state_of k w) t x.choices ss d dt xs
    (subst (λ ys. (all_stated (in_handler env) (state_of k v) p (statements_of ys)).answer ≡ Ok xs) c.as_slice.ensures.value
    (c.in_ok-statements.ensures.comes p k (in_handler env) (c.in_handler.ensures v k env (grown c.args.context.now w v (same_symbols w.symbols) k env
    h (record { symbols = begins.symbols; spans = begins.spans }))) b))

pub all_handlers-returns-in_err-next-clause-comes : goal.all_handlers-returns-in_err-next-clause-comes
all_handlers-returns-in_err-next-clause-comes t c p k env h b =
    let e = err_from_is_err_and c.from_residual.result c.from_residual.ensures.1 in
    rw (e.1, e.2) (
    handlers_refuse c.args.context.now c.args.walk.now c.loop-place.walk c.args.handlers.now c.loop-place.place c.loop-place.made.items
    c.loop-place.invariant c.index-handlers-place.result (nat_eq (c.loop-place.place + 1) (length c.args.handlers.now)) (omega arith)
    c.index-handlers-place.is refl c.handler.new.walk c.in_err-next.field-0.0 c.in_err-next.ensures.continues
    c.in_err-next.ensures.comes p k env h b)

pub all_handlers-loop-place-preserved : goal.all_handlers-loop-place-preserved
all_handlers-loop-place-preserved t c =
    handlers_next c.args.context.now c.args.walk.now c.loop-place.walk c.args.handlers.now c.loop-place.place c.loop-place.made.items
    c.loop-place.invariant c.index-handlers-place.result (nat_eq (c.loop-place.place + 1) (length c.args.handlers.now)) (omega arith)
    c.index-handlers-place.is refl c.handler.new.walk c.in_ok-next.next c.push.new.self.items
    c.in_ok-next.ensures.continues c.in_ok-next.ensures.grown c.in_ok-next.ensures.comes c.in_ok-push.ensures.items

pub all_handled-returns-in_err-statements-clause-comes : goal.all_handled-returns-in_err-statements-clause-comes
all_handled-returns-in_err-statements-clause-comes t c p k env h b =
    let e = err_from_is_err_and c.from_residual.result c.from_residual.ensures.1 in
    rw (e.1, e.2) (let w = c.args.walk.now in
    let inner = c.handled.inside in
    let ss = statements_of inner.statements.items in
    let hs = handlers_of inner.handlers.items in
    let f = c.in_err-statements.field-0.0 in
    subst (λ t. Refuses (all_handled env (state_of k w) p t).answer f) c.handled.view_is (body_refused env p (state_of k w) ss hs f
    (subst (λ xs. Refuses (all_stated env (state_of k w) p (statements_of xs)).answer f) c.as_slice.ensures.value
    (c.in_err-statements.ensures.comes p k env h b))))

pub all_handled-returns-in_err-handlers-clause-comes : goal.all_handled-returns-in_err-handlers-clause-comes
all_handled-returns-in_err-handlers-clause-comes t c p k env h b =
    let e = err_from_is_err_and c.from_residual-in_err-handlers.result c.from_residual-in_err-handlers.ensures.1 in
    rw (e.1, e.2) (let w = c.args.walk.now in
    let inner = c.handled.inside in
    let ss = statements_of inner.statements.items in
    let hs = handlers_of inner.handlers.items in
    let u = c.all_stated.new.walk in
    let f = c.in_err-handlers.field-0.0 in
    refused_behind u c.all_handlers.new.walk k f _ c.in_err-handlers.ensures.continues b (λ later.
    let begins = c.in_ok-statements.ensures.continues k later in
    let xs = given (all_in_tree k c.in_ok-statements.statements.items) (state_of k u) in
    let passed = subst (λ ys. (all_stated env (state_of k w) p (statements_of ys)).answer ≡ Ok xs) c.as_slice.ensures.value
    (c.in_ok-statements.ensures.comes p k env h later) in
    let behind = grown c.args.context.now w u c.in_ok-statements.ensures.grown k env h later in
    subst (λ t. Refuses (all_handled env (state_of k w) p t).answer f) c.handled.view_is (handlers_refused env p (state_of k w) ss hs xs passed f
    (subst (λ ys. Refuses (rules.all_handlers env (state_of k u) p (handlers_of ys)).answer f) c.as_slice-2.ensures.value
    (c.in_err-handlers.ensures.comes p k env behind b)))))

pub all_handled-returns-in_err-handlers-clause-continues : goal.all_handled-returns-in_err-handlers-clause-continues
all_handled-returns-in_err-handlers-clause-continues t c =
    let e = err_from_is_err_and c.from_residual-in_err-handlers.result c.from_residual-in_err-handlers.ensures.1 in
    rw (e.1, e.2) (failure_continues c.args.walk.now c.all_stated.new.walk c.all_handlers.new.walk c.in_err-handlers.field-0.0
    c.in_ok-statements.ensures.continues
    c.in_err-handlers.ensures.continues)

pub all_handled-returns-clause-comes : goal.all_handled-returns-clause-comes
all_handled-returns-clause-comes t c p k env h b =
    let w = c.args.walk.now in
    let inner = c.handled.inside in
    let ss = statements_of inner.statements.items in
    let hs = handlers_of inner.handlers.items in
    let u = c.all_stated.new.walk in
    let later = c.in_ok-handlers.ensures.continues k b in
    let begins = c.in_ok-statements.ensures.continues k later in
    let xs = given (all_in_tree k c.in_ok-statements.statements.items) (state_of k u) in
    let passed = subst (λ ys. (all_stated env (state_of k w) p (statements_of ys)).answer ≡ Ok xs) c.as_slice.ensures.value
    (c.in_ok-statements.ensures.comes p k env h later) in
    let behind = grown c.args.context.now w u c.in_ok-statements.ensures.grown k env h later in
    let ys = given (handlers_in k c.in_ok-handlers.handlers.items) (state_of k c.all_handlers.new.walk) in
    subst (λ t. (all_handled env (state_of k w) p t).answer ≡ Ok (given (record { statements = xs.value; handlers = ys.value }) ys.next))
    c.handled.view_is
    (handled_passes env p (state_of k w) ss hs xs passed ys
    (subst (λ zs. (rules.all_handlers env (state_of k u) p (handlers_of zs)).answer ≡ Ok ys) c.as_slice-2.ensures.value
    (c.in_ok-handlers.ensures.comes p k env behind b)))
