-- If statements and their branches, as the walk goes on over them.
use Rattle.std.proofs.Common.{◌≡◌, [], ◌∷◌, map, Some, Ok, sym, ap, ◌∙◌, subst}
use Rattle.std.proofs.lemmas.List.{map-append}
use Rattle.std.proofs.lemmas.Result.{err_from_is_err_and}
use Rattle.ada_syntax.specs.StatementView.{statements_of}
use Rattle.ada_tree.specs.View.{label_of}
use Rattle.ada_meaning.specs.Tree as tree
use Rattle.ada_rules.specs.Plan.{rule}
use Rattle.ada_rules.specs.Environment.{given}
use Rattle.ada_rules.specs.Statements as rules
use Rattle.ada_rules.specs.Statements.{one, all_stated}
use Rattle.ada_entities.specs.Answers.{Refuses}
use Rattle.ada_phrases.specs.DecisionView.{decision_of}
use Rattle.ada_phrases.proofs.Parts.{passes_on, in_part, refused_as}
use Rattle.program_walk.specs.declared.walk.Walk.{Walk}
use Rattle.program_walk.specs.States.{state_of}
use Rattle.program_walk.proofs.Following.{grown}
use Rattle.statements.specs.Words.{undecided}
use Rattle.statements.specs.Nested.{all_in_tree, branch_in}
use Rattle.statements.proofs.SimpleLaws.{same_symbols}
use Rattle.statements.proofs.Steps.{failure_continues, refused_behind, behind_at}
use Rattle.statements.proofs.NestedLaws.{condition_refused, branch_refused, branch_passes, conditional_plan, conditional_is, then_else, branches_in, the_branches}
use Rattle.statements.proofs.Rows.{reaches_next, refuses_next}
use Rattle.statements.proofs.RowsOf.{branch_by, branches_by, rows_of_branches, first_branch_refused}
use Rattle.statements.proofs.nested.+statements.Goals as goal

pub branch-returns-in_err-decision-clause-comes : goal.branch-returns-in_err-decision-clause-comes
branch-returns-in_err-decision-clause-comes t c k env h b =
    let e = err_from_is_err_and c.from_residual.result c.from_residual.ensures.1 in
    rw (e.1, e.2) (let w = c.args.walk.now in
    let x = c.args.source.now in
    let ss = statements_of x.statements.items in
    condition_refused env c.args.pos (state_of k w) x.condition ss c.in_err-decision.field-0.0
    (c.in_err-decision.ensures k env (undecided k w) (c.place.ensures k env h.symbols h.instances h.generic).site))

pub branch-returns-in_err-statements-clause-comes : goal.branch-returns-in_err-statements-clause-comes
branch-returns-in_err-statements-clause-comes t c k env h b =
    let e = err_from_is_err_and c.from_residual-in_err-statements.result c.from_residual-in_err-statements.ensures.1 in
    rw (e.1, e.2) (let w = c.args.walk.now in
    let v : Walk = record w { notes = record w.notes { decisions = c.decision.new.decisions } } in
    let x = c.args.source.now in
    let ss = statements_of x.statements.items in
    let d = given (decision_of k c.in_ok-decision.decision) (state_of k v) in
    let dt = c.in_ok-decision.ensures k env (undecided k w) (c.place.ensures k env h.symbols h.instances h.generic).site in
    let f = c.in_err-statements.field-0.0 in
    refused_behind v c.all_stated.new.walk k f _ c.in_err-statements.ensures.continues b (λ begins.
    branch_refused env c.args.pos (state_of k w) x.condition ss d dt f
    (subst (λ xs. Refuses (all_stated env (state_of k v) c.args.pos (statements_of xs)).answer f) c.as_slice.ensures.value
    (c.in_err-statements.ensures.comes c.args.pos k env (grown c.args.context.now w v (same_symbols w.symbols) k env h (record {
      symbols = begins.symbols;
      spans = begins.spans;
    })) b))))

pub branch-returns-in_err-statements-clause-continues : goal.branch-returns-in_err-statements-clause-continues
branch-returns-in_err-statements-clause-continues t c =
    let e = err_from_is_err_and c.from_residual-in_err-statements.result c.from_residual-in_err-statements.ensures.1 in
    rw (e.1, e.2) (let w = c.args.walk.now in
    let v : Walk = record w { notes = record w.notes { decisions = c.decision.new.decisions } } in
    failure_continues w v c.all_stated.new.walk c.in_err-statements.field-0.0 (λ k b. record { symbols = b.symbols; spans = b.spans })
    c.in_err-statements.ensures.continues)

pub branch-returns-clause-comes : goal.branch-returns-clause-comes
branch-returns-clause-comes t c k env h b =
    let w = c.args.walk.now in
    let v : Walk = record w { notes = record w.notes { decisions = c.decision.new.decisions } } in
    let x = c.args.source.now in
    let ss = statements_of x.statements.items in
    let d = given (decision_of k c.in_ok-decision.decision) (state_of k v) in
    let dt = c.in_ok-decision.ensures k env (undecided k w) (c.place.ensures k env h.symbols h.instances h.generic).site in
    let begins = c.in_ok-statements.ensures.continues k b in
    branch_passes env c.args.pos (state_of k w) x.condition ss d dt (given (all_in_tree k c.in_ok-statements.statements.items) (state_of k
    c.all_stated.new.walk))
    (subst (λ xs. (all_stated env (state_of k v) c.args.pos (statements_of xs)).answer ≡ Ok (given (all_in_tree k c.in_ok-statements.statements.items)
    (state_of k c.all_stated.new.walk)))
    c.as_slice.ensures.value
    (c.in_ok-statements.ensures.comes c.args.pos k env (grown c.args.context.now w v (same_symbols w.symbols) k env h (record {
      symbols = begins.symbols;
      spans = begins.spans;
    })) b))

pub all_branches-returns-in_err-next-clause-comes : goal.all_branches-returns-in_err-next-clause-comes
all_branches-returns-in_err-next-clause-comes t c k env h b =
    let e = err_from_is_err_and c.from_residual-in_err-next.result c.from_residual-in_err-next.ensures.1 in
    rw (e.1, e.2) (
    refuses_next (branch_by c.args.pos) (λ y. y ∷ []) (branches_by c.args.pos) (rows_of_branches c.args.pos)
    c.args.context.now c.args.walk.now c.loop-other.walk (c.args.first.now ∷
    c.args.others.now) c.args.others.now c.loop-other.other-index (λ k. map (branch_in k) c.loop-other.branches.items) c.loop-other.invariant
    c.branch-alloc-in-loop-other.new.walk c.other-item.result c.in_err-next.field-0.0 c.loop-other-test.true c.other-item.is
    c.in_err-next.ensures.continues (λ p. c.in_err-next.ensures.comes) c.args.pos k env h b)

pub all_branches-returns-in_err-next-clause-continues : goal.all_branches-returns-in_err-next-clause-continues
all_branches-returns-in_err-next-clause-continues t c =
    let e = err_from_is_err_and c.from_residual-in_err-next.result c.from_residual-in_err-next.ensures.1 in
    rw (e.1, e.2) (failure_continues c.args.walk.now c.loop-other.walk c.branch-alloc-in-loop-other.new.walk c.in_err-next.field-0.0
    c.loop-other.invariant.continues
    c.in_err-next.ensures.continues)

pub all_branches-returns-in_err-first-clause-comes : goal.all_branches-returns-in_err-first-clause-comes
all_branches-returns-in_err-first-clause-comes t c k env h b =
    let e = err_from_is_err_and c.from_residual.result c.from_residual.ensures.1 in
    rw (e.1, e.2) (
    first_branch_refused env c.args.pos (state_of k c.args.walk.now) c.args.first.now c.args.others.now c.in_err-first.field-0.0
    (c.in_err-first.ensures.comes k env h b))

pub all_branches-loop-other-preserved : goal.all_branches-loop-other-preserved
all_branches-loop-other-preserved t c =
    reaches_next (branch_by c.args.pos) (λ y. y ∷ []) (branches_by c.args.pos) (rows_of_branches c.args.pos)
    c.args.context.now c.args.walk.now c.loop-other.walk (c.args.first.now ∷
    c.args.others.now) c.args.others.now c.loop-other.other-index (λ k. map (branch_in k) c.loop-other.branches.items) c.loop-other.invariant
    c.branch-alloc-in-loop-other.new.walk c.other-item.result (λ k. branch_in k c.in_ok-next.next) (λ k. map (branch_in k)
    c.push-in-loop-other.new.self.items)
    c.loop-other-test.true c.other-item.is c.in_ok-next.ensures.continues c.in_ok-next.ensures.grown
    (λ p. c.in_ok-next.ensures.comes)
    (λ k. ap (map (branch_in k)) c.in_ok-push-2.ensures.items ∙ map-append (branch_in k) c.loop-other.branches.items (c.in_ok-next.next ∷ []))

pub if_at-returns-in_err-branches-clause-comes : goal.if_at-returns-in_err-branches-clause-comes
if_at-returns-in_err-branches-clause-comes t c k env h b =
    let e = err_from_is_err_and c.from_residual-in_err-branches.result c.from_residual-in_err-branches.ensures.1 in
    rw (e.1, e.2) (let w = c.args.walk.now in
    let v : Walk = record w { counts = c.statement.new.self } in
    let pos = c.args.pos in
    let l = label_of c.in_ok-label.label in
    let x = c.args.first.now in
    let bs = c.args.others.now in
    let es = statements_of c.args.otherwise.now in
    let law = behind_at (λ l e s. conditional_plan e pos l es s x bs) env pos k w c.statement.new.self c.in_ok-label.label
    c.in_ok-label.ensures.label c.in_ok-label.ensures.taken in
    let whole = law ∙ conditional_is env pos l es (state_of k v) x bs in
    let f = c.in_err-branches.field-0.0 in
    refused_behind v c.all_branches.new.walk k f _ c.in_err-branches.ensures.continues b (λ begins.
    refused_as _ _ f whole (in_part pos (the_branches env pos (state_of k v) (x ∷ bs)) (then_else env pos l es) f
    (c.in_err-branches.ensures.comes k env (grown c.args.context.now w v (same_symbols w.symbols) k env h (record {
      symbols = begins.symbols;
      spans = begins.spans;
    })) b))))

pub if_at-returns-in_err-branches-clause-continues : goal.if_at-returns-in_err-branches-clause-continues
if_at-returns-in_err-branches-clause-continues t c =
    let e = err_from_is_err_and c.from_residual-in_err-branches.result c.from_residual-in_err-branches.ensures.1 in
    rw (e.1, e.2) (let w = c.args.walk.now in
    let v : Walk = record w { counts = c.statement.new.self } in
    failure_continues w v c.all_branches.new.walk c.in_err-branches.field-0.0 (λ k b. record { symbols = b.symbols; spans = b.spans })
    c.in_err-branches.ensures.continues)

pub if_at-returns-in_err-otherwise-clause-comes : goal.if_at-returns-in_err-otherwise-clause-comes
if_at-returns-in_err-otherwise-clause-comes t c k env h b =
    let e = err_from_is_err_and c.from_residual-in_err-otherwise.result c.from_residual-in_err-otherwise.ensures.1 in
    rw (e.1, e.2) (let w = c.args.walk.now in
    let v : Walk = record w { counts = c.statement.new.self } in
    let pos = c.args.pos in
    let l = label_of c.in_ok-label.label in
    let x = c.args.first.now in
    let bs = c.args.others.now in
    let es = statements_of c.args.otherwise.now in
    let law = behind_at (λ l e s. conditional_plan e pos l es s x bs) env pos k w c.statement.new.self c.in_ok-label.label
    c.in_ok-label.ensures.label c.in_ok-label.ensures.taken in
    let whole = law ∙ conditional_is env pos l es (state_of k v) x bs in
    let u = c.all_branches.new.walk in
    let chosen = map (branch_in k) c.in_ok-branches.branches.items in
    let f = c.in_err-otherwise.field-0.0 in
    refused_behind u c.all_stated.new.walk k f _ c.in_err-otherwise.ensures.continues b (λ later.
    let begins = c.in_ok-branches.ensures.continues k later in
    let stands = (grown c.args.context.now w v (same_symbols w.symbols) k env h (record { symbols = begins.symbols; spans = begins.spans })) in
    let passed = c.in_ok-branches.ensures.comes k env stands later in
    let behind = grown c.args.context.now v u c.in_ok-branches.ensures.grown k env stands later in
    refused_as _ _ f (whole ∙ passes_on pos (the_branches env pos (state_of k v) (x ∷ bs)) (then_else env pos l es) (given chosen (state_of k u))
    passed)
    (in_part pos (all_stated env (state_of k u) pos es).answer (λ zs. rule (Some (one (tree.if_statement l (rules.branches_of chosen zs.value))
    zs.next))) f (c.in_err-otherwise.ensures.comes pos k env behind b))))

pub if_at-returns-in_err-otherwise-clause-continues : goal.if_at-returns-in_err-otherwise-clause-continues
if_at-returns-in_err-otherwise-clause-continues t c =
    let e = err_from_is_err_and c.from_residual-in_err-otherwise.result c.from_residual-in_err-otherwise.ensures.1 in
    rw (e.1, e.2) (let w = c.args.walk.now in
    let v : Walk = record w { counts = c.statement.new.self } in
    failure_continues w c.all_branches.new.walk c.all_stated.new.walk c.in_err-otherwise.field-0.0
    (λ k b. let m = c.in_ok-branches.ensures.continues k b in record { symbols = m.symbols; spans = m.spans }) c.in_err-otherwise.ensures.continues)

pub if_at-returns-clause-comes : goal.if_at-returns-clause-comes
if_at-returns-clause-comes t c k env h b =
    let w = c.args.walk.now in
    let v : Walk = record w { counts = c.statement.new.self } in
    let pos = c.args.pos in
    let l = label_of c.in_ok-label.label in
    let x = c.args.first.now in
    let bs = c.args.others.now in
    let es = statements_of c.args.otherwise.now in
    let law = behind_at (λ l e s. conditional_plan e pos l es s x bs) env pos k w c.statement.new.self c.in_ok-label.label
    c.in_ok-label.ensures.label c.in_ok-label.ensures.taken in
    let whole = law ∙ conditional_is env pos l es (state_of k v) x bs in
    let u = c.all_branches.new.walk in
    let chosen = map (branch_in k) c.in_ok-branches.branches.items in
    let later = c.in_ok-otherwise.ensures.continues k b in
    let begins = c.in_ok-branches.ensures.continues k later in
    let stands = (grown c.args.context.now w v (same_symbols w.symbols) k env h (record { symbols = begins.symbols; spans = begins.spans })) in
    let passed = c.in_ok-branches.ensures.comes k env stands later in
    let behind = grown c.args.context.now v u c.in_ok-branches.ensures.grown k env stands later in
    let made = c.in_ok-otherwise.otherwise.items in
    let zs = given (all_in_tree k made) (state_of k c.all_stated.new.walk) in
    whole
    ∙ (passes_on pos (the_branches env pos (state_of k v) (x ∷ bs)) (then_else env pos l es) (given chosen (state_of k u)) passed
    ∙ (passes_on pos (all_stated env (state_of k u) pos es).answer (λ zs. rule (Some (one (tree.if_statement l (rules.branches_of chosen zs.value))
    zs.next))) zs (c.in_ok-otherwise.ensures.comes pos k env behind b)
    ∙ (λ z. Ok (one (tree.if_statement l (sym (branches_in k c.in_ok-branches.branches.items made) z)) (state_of k c.all_stated.new.walk)))))
