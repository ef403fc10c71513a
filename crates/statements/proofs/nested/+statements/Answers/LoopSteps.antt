-- Loops, as the walk goes on over them.
use Rattle.std.proofs.Common.{Some, Ok, sym, ◌∙◌}
use Rattle.std.proofs.lemmas.Result.{err_from_is_err_and}
use Rattle.ada_syntax.specs.StatementView.{statements_of}
use Rattle.ada_tree.specs.View.{label_of}
use Rattle.ada_meaning.specs.Tree as tree
use Rattle.ada_rules.specs.Plan.{rule, answer_at}
use Rattle.ada_rules.specs.Environment.{given, in_loop}
use Rattle.ada_rules.specs.Statements.{one, is_reverse, all_stated}
use Rattle.ada_phrases.specs.DecisionView.{decision_of}
use Rattle.ada_phrases.proofs.Parts.{passes_on, in_part, refused_as}
use Rattle.ada_entities.specs.Trees.{shapes_in_tree}
use Rattle.statement_parts.proofs.CaseLaws.{statements_in}
use Rattle.program_walk.specs.declared.walk.Walk.{Walk}
use Rattle.program_walk.specs.States.{state_of}
use Rattle.program_walk.proofs.Following.{grown}
use Rattle.program_walk.specs.Walks.{Begins}
use Rattle.statements.specs.Begun.{begun_in}
use Rattle.statements.specs.Loops.{begun_plan, in_turn}
use Rattle.statements.proofs.LoopLaws.{stands_in_turn}
use Rattle.statements.specs.Words.{undecided}
use Rattle.statements.specs.Nested.{all_in_tree}
use Rattle.statements.proofs.SimpleLaws.{same_symbols}
use Rattle.statements.proofs.Steps.{goes, failure_continues, refused_behind, behind_at}
use Rattle.statements.proofs.NestedLaws.{for_plan, for_is, then_for, as_for, forever_plan, forever_refused, forever_passes, while_plan, while_refused, turns_refused, while_passes}
use Rattle.statements.proofs.nested.+statements.Goals as goal

pub forever_at-returns-in_err-statements-clause-comes : goal.forever_at-returns-in_err-statements-clause-comes
forever_at-returns-in_err-statements-clause-comes t c k env h b =
    let e = err_from_is_err_and c.from_residual-in_err-statements.result c.from_residual-in_err-statements.ensures.1 in
    rw (e.1, e.2) (let w = c.args.walk.now in
    let v : Walk = record w { counts = c.statement.new.self } in
    let pos = c.args.pos in
    let l = label_of c.in_ok-label.label in
    let ss = statements_of c.args.statements.now in
    let law = behind_at (λ l e s. forever_plan e pos l s ss) env pos k w c.statement.new.self c.in_ok-label.label c.in_ok-label.ensures.label
    c.in_ok-label.ensures.taken in
    let f = c.in_err-statements.field-0.0 in
    refused_behind v c.all_stated.new.walk k f _ c.in_err-statements.ensures.continues b (λ begins.
    refused_as _ _ f law (forever_refused env pos l (state_of k v) ss f (c.in_err-statements.ensures.comes pos k (in_loop env) (c.in_loop.ensures v k
    env (grown c.args.context.now w v (same_symbols w.symbols) k env h (record { symbols = begins.symbols; spans = begins.spans }))) b))))

pub forever_at-returns-in_err-statements-clause-continues : goal.forever_at-returns-in_err-statements-clause-continues
forever_at-returns-in_err-statements-clause-continues t c =
    let e = err_from_is_err_and c.from_residual-in_err-statements.result c.from_residual-in_err-statements.ensures.1 in
    rw (e.1, e.2) (let w = c.args.walk.now in
    let v : Walk = record w { counts = c.statement.new.self } in
    failure_continues w v c.all_stated.new.walk c.in_err-statements.field-0.0 (λ k b. record { symbols = b.symbols; spans = b.spans })
    c.in_err-statements.ensures.continues)

pub forever_at-returns-clause-comes : goal.forever_at-returns-clause-comes
forever_at-returns-clause-comes t c k env h b =
    let w = c.args.walk.now in
    let v : Walk = record w { counts = c.statement.new.self } in
    let pos = c.args.pos in
    let l = label_of c.in_ok-label.label in
    let ss = statements_of c.args.statements.now in
    let law = behind_at (λ l e s. forever_plan e pos l s ss) env pos k w c.statement.new.self c.in_ok-label.label c.in_ok-label.ensures.label
    c.in_ok-label.ensures.taken in
    let made = c.in_ok-statements.statements.items in
    let xs = given (all_in_tree k made) (state_of k c.all_stated.new.walk) in
    let begins = c.in_ok-statements.ensures.continues k b in
    law ∙ (forever_passes env pos l (state_of k v) ss xs (c.in_ok-statements.ensures.comes pos k (in_loop env) (c.in_loop.ensures v k env (grown
    c.args.context.now w v (same_symbols w.symbols) k env h (record { symbols = begins.symbols; spans = begins.spans }))) b)
    ∙ (λ z. Ok (one (tree.bare_loop l (sym (statements_in k (shapes_in_tree k.types) made) z)) (state_of k c.all_stated.new.walk))))

pub while_at-returns-in_err-decision-clause-comes : goal.while_at-returns-in_err-decision-clause-comes
while_at-returns-in_err-decision-clause-comes t c k env h b =
    let e = err_from_is_err_and c.from_residual-in_err-decision.result c.from_residual-in_err-decision.ensures.1 in
    rw (e.1, e.2) (let w = c.args.walk.now in
    let v : Walk = record w { counts = c.statement.new.self } in
    let pos = c.args.pos in
    let l = label_of c.in_ok-label.label in
    let ss = statements_of c.args.statements.now in
    let x = c.args.expr.now in
    let law = behind_at (λ l e s. while_plan e pos l s ss x) env pos k w c.statement.new.self c.in_ok-label.label c.in_ok-label.ensures.label
    c.in_ok-label.ensures.taken in
    let f = c.in_err-decision.field-0.0 in
    refused_as _ _ f law (while_refused env pos l (state_of k v) ss x f (c.in_err-decision.ensures k env (undecided k v) (c.place.ensures k env
    h.symbols h.instances h.generic).site)))

pub while_at-returns-in_err-decision-clause-continues : goal.while_at-returns-in_err-decision-clause-continues
while_at-returns-in_err-decision-clause-continues t c =
    let w = c.args.walk.now in
    let v : Walk = record w { counts = c.statement.new.self } in
    let u : Walk = record v { notes = record w.notes { decisions = c.decision.new.decisions } } in
    goes w u _ (λ k b. record { symbols = b.symbols; spans = b.spans })

pub while_at-returns-in_err-statements-clause-comes : goal.while_at-returns-in_err-statements-clause-comes
while_at-returns-in_err-statements-clause-comes t c k env h b =
    let e = err_from_is_err_and c.from_residual-in_err-statements.result c.from_residual-in_err-statements.ensures.1 in
    rw (e.1, e.2) (let w = c.args.walk.now in
    let v : Walk = record w { counts = c.statement.new.self } in
    let pos = c.args.pos in
    let l = label_of c.in_ok-label.label in
    let ss = statements_of c.args.statements.now in
    let x = c.args.expr.now in
    let law = behind_at (λ l e s. while_plan e pos l s ss x) env pos k w c.statement.new.self c.in_ok-label.label c.in_ok-label.ensures.label
    c.in_ok-label.ensures.taken in
    let u : Walk = record v { notes = record w.notes { decisions = c.decision.new.decisions } } in
    let d = given (decision_of k c.in_ok-decision.decision) (state_of k u) in
    let dt = c.in_ok-decision.ensures k env (undecided k v) (c.place.ensures k env h.symbols h.instances h.generic).site in
    let f = c.in_err-statements.field-0.0 in
    refused_behind u c.all_stated.new.walk k f _ c.in_err-statements.ensures.continues b (λ begins.
    refused_as _ _ f law (turns_refused env pos l (state_of k v) ss x d dt f (c.in_err-statements.ensures.comes pos k (in_loop env)
    (c.in_loop.ensures u k env (grown c.args.context.now w u (same_symbols w.symbols) k env h (record {
      symbols = begins.symbols;
      spans
          = begins.spans;
    }))) b))))

pub while_at-returns-in_err-statements-clause-continues : goal.while_at-returns-in_err-statements-clause-continues
while_at-returns-in_err-statements-clause-continues t c =
    let e = err_from_is_err_and c.from_residual-in_err-statements.result c.from_residual-in_err-statements.ensures.1 in
    rw (e.1, e.2) (let w = c.args.walk.now in
    let v : Walk = record w { counts = c.statement.new.self } in
    let u : Walk = record v { notes = record w.notes { decisions = c.decision.new.decisions } } in
    failure_continues w u c.all_stated.new.walk c.in_err-statements.field-0.0 (λ k b. record { symbols = b.symbols; spans = b.spans })
    c.in_err-statements.ensures.continues)

pub while_at-returns-clause-comes : goal.while_at-returns-clause-comes
while_at-returns-clause-comes t c k env h b =
    let w = c.args.walk.now in
    let v : Walk = record w { counts = c.statement.new.self } in
    let pos = c.args.pos in
    let l = label_of c.in_ok-label.label in
    let ss = statements_of c.args.statements.now in
    let x = c.args.expr.now in
    let law = behind_at (λ l e s. while_plan e pos l s ss x) env pos k w c.statement.new.self c.in_ok-label.label c.in_ok-label.ensures.label
    c.in_ok-label.ensures.taken in
    let u : Walk = record v { notes = record w.notes { decisions = c.decision.new.decisions } } in
    let d = given (decision_of k c.in_ok-decision.decision) (state_of k u) in
    let dt = c.in_ok-decision.ensures k env (undecided k v) (c.place.ensures k env h.symbols h.instances h.generic).site in
    let made = c.in_ok-statements.statements.items in
    let xs = given (all_in_tree k made) (state_of k c.all_stated.new.walk) in
    let begins = c.in_ok-statements.ensures.continues k b in
    law ∙ (while_passes env pos l (state_of k v) ss x d dt xs (c.in_ok-statements.ensures.comes pos k (in_loop env) (c.in_loop.ensures u k env (grown
    c.args.context.now w u (same_symbols w.symbols) k env h (record { symbols = begins.symbols; spans = begins.spans }))) b)
    ∙ (λ z. Ok (one (tree.while_loop l d.value.0 d.value.1 (sym (statements_in k (shapes_in_tree k.types) made) z)) (state_of k
    c.all_stated.new.walk))))

pub for_at-returns-in_err-begun-clause-comes : goal.for_at-returns-in_err-begun-clause-comes
for_at-returns-in_err-begun-clause-comes t c k env h b =
    let e = err_from_is_err_and c.from_residual-in_err-begun.result c.from_residual-in_err-begun.ensures.1 in
    rw (e.1, e.2) (let w = c.args.walk.now in
    let v : Walk = record w { counts = c.statement.new.self } in
    let pos = c.args.pos in
    let l = label_of c.in_ok-label.label in
    let i = c.args.name.now in
    let d = is_reverse c.args.order in
    let r = c.args.range.now in
    let ss = statements_of c.args.statements.now in
    let law = behind_at (λ l e s. for_plan e pos l i d r ss s) env pos k w c.statement.new.self c.in_ok-label.label c.in_ok-label.ensures.label
    c.in_ok-label.ensures.taken in
    let whole = law ∙ for_is env pos l i d r ss (state_of k v) in
    let begun = answer_at pos (begun_plan env (state_of k v) pos i r).outcome in
    let f = c.in_err-begun.field-0.0 in
    refused_behind v c.begin_for.new.walk k f _ c.in_err-begun.ensures.continues b (λ begins.
    refused_as _ _ f whole (in_part pos begun (then_for env pos l i d r ss) f (c.in_err-begun.ensures.comes k env (grown c.args.context.now w v
    (same_symbols w.symbols) k env h (record { symbols = begins.symbols; spans = begins.spans })) b))))

pub for_at-returns-in_err-begun-clause-continues : goal.for_at-returns-in_err-begun-clause-continues
for_at-returns-in_err-begun-clause-continues t c =
    let e = err_from_is_err_and c.from_residual-in_err-begun.result c.from_residual-in_err-begun.ensures.1 in
    rw (e.1, e.2) (let w = c.args.walk.now in
    let v : Walk = record w { counts = c.statement.new.self } in
    failure_continues w v c.begin_for.new.walk c.in_err-begun.field-0.0 (λ k b. record { symbols = b.symbols; spans = b.spans })
    c.in_err-begun.ensures.continues)

pub for_at-returns-in_err-statements-clause-comes : goal.for_at-returns-in_err-statements-clause-comes
for_at-returns-in_err-statements-clause-comes t c k env h b =
    let e = err_from_is_err_and c.from_residual-in_err-statements.result c.from_residual-in_err-statements.ensures.1 in
    rw (e.1, e.2) (let w = c.args.walk.now in
    let v : Walk = record w { counts = c.statement.new.self } in
    let pos = c.args.pos in
    let l = label_of c.in_ok-label.label in
    let i = c.args.name.now in
    let d = is_reverse c.args.order in
    let r = c.args.range.now in
    let ss = statements_of c.args.statements.now in
    let law = behind_at (λ l e s. for_plan e pos l i d r ss s) env pos k w c.statement.new.self c.in_ok-label.label c.in_ok-label.ensures.label
    c.in_ok-label.ensures.taken in
    let whole = law ∙ for_is env pos l i d r ss (state_of k v) in
    let begun = answer_at pos (begun_plan env (state_of k v) pos i r).outcome in
    let u = c.begin_for.new.walk in
    let f = c.in_err-statements.field-0.0 in
    refused_behind u c.all_stated.new.walk k f _ c.in_err-statements.ensures.continues b (λ later.
    let begins = c.in_ok-begun.ensures.continues k later in
    let stands = (grown c.args.context.now w v (same_symbols w.symbols) k env h (record { symbols = begins.symbols; spans = begins.spans })) in
    let g = given (begun_in k c.in_ok-begun.begun) (state_of k u) in
    let passed = c.in_ok-begun.ensures.comes k env stands later in
    let inside = c.in_loop-inside.ensures u k _ (stands_in_turn c.args.context.now c.inside.result v u i c.in_ok-begun.begun c.inside.ensures
    c.in_ok-begun.ensures.opened c.in_ok-begun.ensures.parameter k env stands later) in
    refused_as _ _ f (whole ∙ passes_on pos begun (then_for env pos l i d r ss) g passed)
    (in_part pos (all_stated (in_turn env i g.value) (state_of k u) pos ss).answer (λ xs. rule (Some (as_for env pos l i d r ss g xs))) f
    (c.in_err-statements.ensures.comes pos k (in_turn env i g.value) inside b))))

pub for_at-returns-in_err-statements-clause-continues : goal.for_at-returns-in_err-statements-clause-continues
for_at-returns-in_err-statements-clause-continues t c =
    let e = err_from_is_err_and c.from_residual-in_err-statements.result c.from_residual-in_err-statements.ensures.1 in
    rw (e.1, e.2) (let w = c.args.walk.now in
    let v : Walk = record w { counts = c.statement.new.self } in
    failure_continues w c.begin_for.new.walk c.all_stated.new.walk c.in_err-statements.field-0.0
    (λ k b. let m = c.in_ok-begun.ensures.continues k b in record { symbols = m.symbols; spans = m.spans }) c.in_err-statements.ensures.continues)

pub for_at-returns-clause-comes : goal.for_at-returns-clause-comes
for_at-returns-clause-comes t c k env h b =
    let w = c.args.walk.now in
    let v : Walk = record w { counts = c.statement.new.self } in
    let pos = c.args.pos in
    let l = label_of c.in_ok-label.label in
    let i = c.args.name.now in
    let d = is_reverse c.args.order in
    let r = c.args.range.now in
    let ss = statements_of c.args.statements.now in
    let law = behind_at (λ l e s. for_plan e pos l i d r ss s) env pos k w c.statement.new.self c.in_ok-label.label c.in_ok-label.ensures.label
    c.in_ok-label.ensures.taken in
    let whole = law ∙ for_is env pos l i d r ss (state_of k v) in
    let begun = answer_at pos (begun_plan env (state_of k v) pos i r).outcome in
    let u = c.begin_for.new.walk in
    let n = c.all_stated.new.walk in
    let last : Begins n k = record { symbols = c.close.ensures.closed.begins k b.symbols; spans = b.spans } in
    let later = c.in_ok-statements.ensures.continues k last in
    let begins = c.in_ok-begun.ensures.continues k later in
    let stands = (grown c.args.context.now w v (same_symbols w.symbols) k env h (record { symbols = begins.symbols; spans = begins.spans })) in
    let g = given (begun_in k c.in_ok-begun.begun) (state_of k u) in
    let passed = c.in_ok-begun.ensures.comes k env stands later in
    let inside = c.in_loop-inside.ensures u k _ (stands_in_turn c.args.context.now c.inside.result v u i c.in_ok-begun.begun c.inside.ensures
    c.in_ok-begun.ensures.opened c.in_ok-begun.ensures.parameter k env stands later) in
    let made = c.in_ok-statements.statements.items in
    let xs = given (all_in_tree k made) (state_of k n) in
    let scheme = c.scheme.ensures in
    whole
    ∙ (passes_on pos begun (then_for env pos l i d r ss) g passed
    ∙ (passes_on pos (all_stated (in_turn env i g.value) (state_of k u) pos ss).answer (λ xs. rule (Some (as_for env pos l i d r ss g xs))) xs
    (c.in_ok-statements.ensures.comes pos k (in_turn env i g.value) inside last)
    ∙ (λ z. Ok (one (tree.for_loop l (sym scheme.parameter z) (sym scheme.direction z) (sym scheme.values z)
    (sym (statements_in k (shapes_in_tree k.types) made) z)) (state_of k n)))))

pub for_at-returns-clause-continues : goal.for_at-returns-clause-continues
for_at-returns-clause-continues t c k b =
    let n = c.all_stated.new.walk in
    let last : Begins n k = record { symbols = c.close.ensures.closed.begins k b.symbols; spans = b.spans } in
    let m = c.in_ok-begun.ensures.continues k (c.in_ok-statements.ensures.continues k last) in
    record { symbols = m.symbols; spans = m.spans }
