-- Case statements and their alternatives, as the walk goes on over them.
use Rattle.std.proofs.Common.{◌≡◌, [], ◌∷◌, map, Ok, sym, ap, ◌∙◌, subst}
use Rattle.std.proofs.lemmas.List.{map-append}
use Rattle.std.proofs.lemmas.Result.{err_from_is_err_and}
use Rattle.ada_syntax.specs.StatementView.{statements_of, alternatives_of}
use Rattle.ada_tree.specs.View as view
use Rattle.ada_tree.specs.View.{label_of}
use Rattle.ada_meaning.specs.Tree as tree
use Rattle.ada_rules.specs.Plan.{answer_at}
use Rattle.ada_rules.specs.Environment.{given, typed_rule, beginning_state}
use Rattle.ada_rules.specs.Statements as rules
use Rattle.ada_rules.specs.Statements.{one, all_stated}
use Rattle.ada_entities.specs.Answers.{Refuses}
use Rattle.ada_phrases.specs.Answers.{counted}
use Rattle.ada_phrases.proofs.Parts.{refused_as, answers_as}
use Rattle.statement_parts.specs.Cases.{arm_in, arms_in}
use Rattle.statement_parts.specs.Simple.{in_program}
use Rattle.statement_parts.specs.Selectors.{selector_in}
use Rattle.program_walk.specs.declared.walk.Walk.{Walk}
use Rattle.program_walk.specs.States.{kept_state, state_of}
use Rattle.program_walk.proofs.Following.{grown}
use Rattle.program_walk.specs.Walks.{Begins}
use Rattle.statements.specs.Words.{undecided}
use Rattle.statements.specs.Nested.{all_in_tree}
use Rattle.statements.proofs.SimpleLaws.{same_symbols}
use Rattle.statements.proofs.Steps.{goes, failure_continues, refused_behind, behind_at}
use Rattle.statements.proofs.NestedLaws.{selector_refused, arms_refused, arms_pass, case_made, choices_refused, arm_refused, arm_passes}
use Rattle.statements.proofs.Rows.{reaches_next, refuses_next}
use Rattle.statements.proofs.RowsOf.{arm_by, arms_by, rows_of_arms}
use Rattle.statements.proofs.nested.+statements.Goals as goal

pub arm-returns-in_err-choices-clause-comes : goal.arm-returns-in_err-choices-clause-comes
arm-returns-in_err-choices-clause-comes t c p k env h b =
    let e = err_from_is_err_and c.from_residual.result c.from_residual.ensures.1 in
    rw (e.1, e.2) (let w = c.args.walk.now in
    let y = selector_in k c.args.selector.now in
    let x = c.args.source.now in
    let ss = statements_of x.statements.items in
    let f = c.in_err-choices.field-0.0 in
    choices_refused env p y (state_of k w) x.choices ss f
    (subst (λ cs. Refuses (rules.all_chosen env (state_of k w) y p cs).answer f) c.as_slice-named.ensures
    (c.in_err-choices.ensures p k env (kept_state k w.counts w.found) (c.place-place.ensures k env h.symbols h.instances h.generic))))

pub arm-returns-in_err-statements-clause-comes : goal.arm-returns-in_err-statements-clause-comes
arm-returns-in_err-statements-clause-comes t c p k env h b =
    let e = err_from_is_err_and c.from_residual-in_err-statements.result c.from_residual-in_err-statements.ensures.1 in
    rw (e.1, e.2) (let w = c.args.walk.now in
    let v : Walk = record w { notes = c.all_chosen.new.notes } in
    let y = selector_in k c.args.selector.now in
    let x = c.args.source.now in
    let ss = statements_of x.statements.items in
    let d = given (map view.choice_of c.in_ok-choices.choices) (state_of k v) in
    let dt = subst (λ cs. (rules.all_chosen env (state_of k w) y p cs).answer ≡ Ok d) c.as_slice-named.ensures
    (c.in_ok-choices.ensures p k env (kept_state k w.counts w.found) (c.place-place.ensures k env h.symbols h.instances h.generic)) in
    let f = c.in_err-statements.field-0.0 in
    refused_behind v c.all_stated.new.walk k f _ c.in_err-statements.ensures.continues b (λ begins.
    arm_refused env p y (state_of k w) x.choices ss d dt f
    (subst (λ xs. Refuses (all_stated env (state_of k v) p (statements_of xs)).answer f) c.as_slice.ensures.value
    (c.in_err-statements.ensures.comes p k env (grown c.args.context.now w v (same_symbols w.symbols) k env h (record {
      symbols = begins.symbols;
      spans = begins.spans;
    })) b))))

pub arm-returns-in_err-statements-clause-continues : goal.arm-returns-in_err-statements-clause-continues
arm-returns-in_err-statements-clause-continues t c =
    let e = err_from_is_err_and c.from_residual-in_err-statements.result c.from_residual-in_err-statements.ensures.1 in
    rw (e.1, e.2) (let w = c.args.walk.now in
    let v : Walk = record w { notes = c.all_chosen.new.notes } in
    failure_continues w v c.all_stated.new.walk c.in_err-statements.field-0.0 (λ k b. record { symbols = b.symbols; spans = b.spans })
    c.in_err-statements.ensures.continues)

pub arm-returns-clause-comes : goal.arm-returns-clause-comes
arm-returns-clause-comes t c p k env h b =
    let w = c.args.walk.now in
    let v : Walk = record w { notes = c.all_chosen.new.notes } in
    let y = selector_in k c.args.selector.now in
    let x = c.args.source.now in
    let ss = statements_of x.statements.items in
    let d = given (map view.choice_of c.in_ok-choices.choices) (state_of k v) in
    let dt = subst (λ cs. (rules.all_chosen env (state_of k w) y p cs).answer ≡ Ok d) c.as_slice-named.ensures
    (c.in_ok-choices.ensures p k env (kept_state k w.counts w.found) (c.place-place.ensures k env h.symbols h.instances h.generic)) in
    let begins = c.in_ok-statements.ensures.continues k b in
    arm_passes env p y (state_of k w) x.choices ss d dt (given (all_in_tree k c.in_ok-statements.statements.items) (state_of k c.all_stated.new.walk))
    (subst (λ xs. (all_stated env (state_of k v) p (statements_of xs)).answer ≡ Ok (given (all_in_tree k c.in_ok-statements.statements.items)
    (state_of k c.all_stated.new.walk)))
    c.as_slice.ensures.value
    (c.in_ok-statements.ensures.comes p k env (grown c.args.context.now w v (same_symbols w.symbols) k env h (record {
      symbols = begins.symbols;
      spans = begins.spans;
    })) b))

pub all_arms-returns-in_err-next-clause-comes : goal.all_arms-returns-in_err-next-clause-comes
all_arms-returns-in_err-next-clause-comes t c p k env h b =
    let e = err_from_is_err_and c.from_residual.result c.from_residual.ensures.1 in
    rw (e.1, e.2) (
    refuses_next (arm_by c.args.selector.now) (λ y. y ∷ []) (arms_by c.args.selector.now) (rows_of_arms c.args.selector.now) c.args.context.now
    c.args.walk.now c.loop-alternative.walk c.args.alternatives.now c.args.alternatives.now c.loop-alternative.alternative-index (λ k. map (arm_in k)
    c.loop-alternative.arms.items) c.loop-alternative.invariant c.arm.new.walk c.alternative-item.result c.in_err-next.field-0.0
    c.loop-alternative-test.true c.alternative-item.is
    c.in_err-next.ensures.continues c.in_err-next.ensures.comes p k env h b)

pub all_arms-returns-in_err-next-clause-continues : goal.all_arms-returns-in_err-next-clause-continues
all_arms-returns-in_err-next-clause-continues t c =
    let e = err_from_is_err_and c.from_residual.result c.from_residual.ensures.1 in
    rw (e.1, e.2) (failure_continues c.args.walk.now c.loop-alternative.walk c.arm.new.walk c.in_err-next.field-0.0
    c.loop-alternative.invariant.continues
    c.in_err-next.ensures.continues)

pub all_arms-loop-alternative-preserved : goal.all_arms-loop-alternative-preserved
all_arms-loop-alternative-preserved t c =
    reaches_next (arm_by c.args.selector.now) (λ y. y ∷ []) (arms_by c.args.selector.now) (rows_of_arms c.args.selector.now) c.args.context.now
    c.args.walk.now c.loop-alternative.walk c.args.alternatives.now c.args.alternatives.now c.loop-alternative.alternative-index (λ k. map (arm_in k)
    c.loop-alternative.arms.items) c.loop-alternative.invariant c.arm.new.walk c.alternative-item.result (λ k. arm_in k c.in_ok-next.next) (λ k. map
    (arm_in k) c.push.new.self.items)
    c.loop-alternative-test.true c.alternative-item.is c.in_ok-next.ensures.continues c.in_ok-next.ensures.grown c.in_ok-next.ensures.comes
    (λ k. ap (map (arm_in k)) c.in_ok-push.ensures.items ∙ map-append (arm_in k) c.loop-alternative.arms.items (c.in_ok-next.next ∷ []))

pub case_at-returns-in_err-selector-clause-comes : goal.case_at-returns-in_err-selector-clause-comes
case_at-returns-in_err-selector-clause-comes t c k env h b =
    let e = err_from_is_err_and c.from_residual-in_err-selector.result c.from_residual-in_err-selector.ensures.1 in
    rw (e.1, e.2) (let w = c.args.walk.now in
    let v : Walk = record w { counts = c.statement.new.self } in
    let pos = c.args.pos in
    let l = label_of c.in_ok-label.label in
    let x = c.args.expr.now in
    let rest = alternatives_of c.args.alternatives.now in
    let law = behind_at (λ l e s. case_made e pos l (state_of k w) s x rest) env pos k w c.statement.new.self c.in_ok-label.label
    c.in_ok-label.ensures.label c.in_ok-label.ensures.taken in
    let f = c.in_err-selector.field-0.0 in
    refused_as _ _ f law (selector_refused env pos l (state_of k w) (state_of k v) x rest f (c.in_err-selector.ensures k env (undecided k v)
    (c.place-place.ensures k env h.symbols h.instances h.generic).site)))

pub case_at-returns-in_err-selector-clause-continues : goal.case_at-returns-in_err-selector-clause-continues
case_at-returns-in_err-selector-clause-continues t c =
    let w = c.args.walk.now in
    let v : Walk = record w { counts = c.statement.new.self } in
    let u : Walk = record v { notes = record w.notes { decisions = c.find_selector.new.decisions } } in
    goes w u _ (λ k b. record { symbols = b.symbols; spans = b.spans })

pub case_at-returns-in_err-arms-clause-comes : goal.case_at-returns-in_err-arms-clause-comes
case_at-returns-in_err-arms-clause-comes t c k env h b =
    let e = err_from_is_err_and c.from_residual-in_err-arms.result c.from_residual-in_err-arms.ensures.1 in
    rw (e.1, e.2) (let w = c.args.walk.now in
    let v : Walk = record w { counts = c.statement.new.self } in
    let pos = c.args.pos in
    let l = label_of c.in_ok-label.label in
    let x = c.args.expr.now in
    let rest = alternatives_of c.args.alternatives.now in
    let law = behind_at (λ l e s. case_made e pos l (state_of k w) s x rest) env pos k w c.statement.new.self c.in_ok-label.label
    c.in_ok-label.ensures.label c.in_ok-label.ensures.taken in
    let u : Walk = record v { notes = record w.notes { decisions = c.find_selector.new.decisions } } in
    let y = given (selector_in k c.in_ok-selector.selector) (state_of k u) in
    let yt = c.in_ok-selector.ensures k env (undecided k v) (c.place-place.ensures k env h.symbols h.instances h.generic).site in
    let f = c.in_err-arms.field-0.0 in
    refused_behind u c.all_arms.new.walk k f _ c.in_err-arms.ensures.continues b (λ begins.
    refused_as _ _ f law (arms_refused env pos l (state_of k w) (state_of k v) x rest y yt f (c.in_err-arms.ensures.comes pos k env (grown
    c.args.context.now w u (same_symbols w.symbols) k env h (record { symbols = begins.symbols; spans = begins.spans })) b))))

pub case_at-returns-in_err-arms-clause-continues : goal.case_at-returns-in_err-arms-clause-continues
case_at-returns-in_err-arms-clause-continues t c =
    let e = err_from_is_err_and c.from_residual-in_err-arms.result c.from_residual-in_err-arms.ensures.1 in
    rw (e.1, e.2) (let w = c.args.walk.now in
    let v : Walk = record w { counts = c.statement.new.self } in
    let u : Walk = record v { notes = record w.notes { decisions = c.find_selector.new.decisions } } in
    failure_continues w u c.all_arms.new.walk c.in_err-arms.field-0.0 (λ k b. record { symbols = b.symbols; spans = b.spans })
    c.in_err-arms.ensures.continues)

pub case_at-returns-clause-comes : goal.case_at-returns-clause-comes
case_at-returns-clause-comes t c k env h b =
    let w = c.args.walk.now in
    let v : Walk = record w { counts = c.statement.new.self } in
    let pos = c.args.pos in
    let l = label_of c.in_ok-label.label in
    let x = c.args.expr.now in
    let rest = alternatives_of c.args.alternatives.now in
    let law = behind_at (λ l e s. case_made e pos l (state_of k w) s x rest) env pos k w c.statement.new.self c.in_ok-label.label
    c.in_ok-label.ensures.label c.in_ok-label.ensures.taken in
    let u : Walk = record v { notes = record w.notes { decisions = c.find_selector.new.decisions } } in
    let y = given (selector_in k c.in_ok-selector.selector) (state_of k u) in
    let yt = c.in_ok-selector.ensures k env (undecided k v) (c.place-place.ensures k env h.symbols h.instances h.generic).site in
    let n = c.all_arms.new.walk in
    let m : Walk = record n { notes = record n.notes { statics = c.case_statement.new.statics } } in
    let later : Begins n k = record { symbols = b.symbols; spans = b.spans } in
    let begins = c.in_ok-arms.ensures.continues k later in
    let stands = (grown c.args.context.now w u (same_symbols w.symbols) k env h (record { symbols = begins.symbols; spans = begins.spans })) in
    let arms = given (arms_in k c.in_ok-arms.arms.items) (state_of k n) in
    let behind = grown c.args.context.now u n c.in_ok-arms.ensures.grown k env stands later in
    let place = c.place-place-2.ensures k env behind.symbols behind.instances behind.generic in
    let is = c.in_ok-label.ensures.label beginning_state in
    answers_as (λ t. given (in_program k t) (state_of k m)) _ _ c.case_statement.result
    (law
    ∙ (arms_pass env pos l (state_of k w) (state_of k v) x rest y yt arms (c.in_ok-arms.ensures.comes pos k env stands later)
    ∙ (λ z. answer_at (sym (ap (λ (t : tree.Label). t.place) is) z) (typed_rule env.step (one (tree.null_statement l) arms.next)
    (rules.case_of env (state_of k w) (sym (ap (λ (t : tree.Label). t.place) is) z) y.value arms)).outcome)))
    (c.case_statement.ensures k env (state_of k w) (counted n.notes.decisions (kept_state k n.counts n.found)) place.site.step place.generic
    (sym (ap (λ (t : tree.Label). t.number) is)))

pub case_at-returns-clause-continues : goal.case_at-returns-clause-continues
case_at-returns-clause-continues t c =
    let w = c.args.walk.now in
    let v : Walk = record w { counts = c.statement.new.self } in
    let u : Walk = record v { notes = record w.notes { decisions = c.find_selector.new.decisions } } in
    let n = c.all_arms.new.walk in
    let m : Walk = record n { notes = record n.notes { statics = c.case_statement.new.statics } } in
    goes w m _ (λ k b. let q = c.in_ok-arms.ensures.continues k (record { symbols = b.symbols; spans = b.spans }) in record {
      symbols = q.symbols;
      spans = q.spans;
    })
