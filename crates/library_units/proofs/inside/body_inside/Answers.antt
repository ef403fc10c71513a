use Rattle.std.proofs.Common.{map, Ok, sym, ap, ◌∙◌}
use Rattle.std.proofs.lemmas.Result.{err_from_is_err_and}
use Rattle.ada_meaning.specs.Tree as tree
use Rattle.ada_tree.specs.Programs.{unfolded_block}
use Rattle.ada_tree.specs.View as view
use Rattle.ada_rules.specs.Plan.{answer_at}
use Rattle.ada_rules.specs.Environment.{given}
use Rattle.ada_rules.specs.Statements.{block_of}
use Rattle.ada_rules.specs.Subprograms.{inside_body, body_made}
use Rattle.ada_phrases.proofs.Parts.{refused_as}
use Rattle.program_walk.specs.declared.walk.Walk.{Walk}
use Rattle.program_walk.specs.States.{types_in, state_of}
use Rattle.program_walk.specs.Walks.{Begins}
use Rattle.statements.specs.Locals.{made_of}
use Rattle.statements.specs.Values.{declared_in}
use Rattle.program_walk.proofs.GoingLaws.{stands_then, stays_behind, inside_continues, refused_behind}
use Rattle.program_walk.proofs.HidingLaws.{stays_there}
use Rattle.program_walk.proofs.InsideLaws.{stays_open}
use Rattle.statements.specs.Made.{frame_there}
use Rattle.statements.specs.declared.nested.Frame.{Frame}
use Rattle.library_units.specs.Inside.{ending}
use Rattle.unit_interfaces.proofs.GoingLaws.{inside_advances, then_advances, grows_advances, memory_stays}
use Rattle.library_units.proofs.InsideLaws.{declarations_refused, statements_refused, statements_pass, block_is}
use Rattle.unit_interfaces.specs.unit_walk.proofs.RecordingLaws.{body_is_made}
use Rattle.library_units.proofs.inside.body_inside.Goals as goal

pub returns-in_err-made-clause-comes : goal.returns-in_err-made-clause-comes
returns-in_err-made-clause-comes c k env before region name q h b ps =
    let e = err_from_is_err_and c.from_residual.result c.from_residual.ensures.1 in
    rw (e.1, e.2) (let x = c.args.body.now in
    declarations_refused env before x region name q (state_of k c.args.walk.now) c.in_err-made.field-0.0
    (rw (sym c.as_slice.ensures) (c.in_err-made.ensures.comes x.specification.pos k (inside_body env region name q) h b)))

pub returns-in_err-frame-clause-comes : goal.returns-in_err-frame-clause-comes
returns-in_err-frame-clause-comes c k env before region name q h b ps =
    let e = err_from_is_err_and c.from_residual-in_err-frame.result c.from_residual-in_err-frame.ensures.1 in
    rw (e.1, e.2) (let w = c.args.walk.now in
    let x = c.args.body.now in
    let second = c.all_declared.new.walk in
    let third = c.all_handled.new.walk in
    let f = c.in_err-frame.field-0.0 in
    let goes = c.in_ok-made.ensures.goes h.symbols.inside in
    refused_behind second third k f _ (memory_stays Frame second third f c.in_err-frame.ensures.continues) b (λ middle.
    statements_refused env before x region name q (state_of k w) (declared_in k second c.in_ok-made.made.items)
    (rw (sym c.as_slice.ensures) (c.in_ok-made.ensures.comes x.specification.pos k (inside_body env region name q) h middle)) f
    (c.in_err-frame.ensures.comes x.specification.pos k _ (stands_then c.args.context.now w k (inside_body env region name q) h second goes middle) b)))

pub returns-in_err-ended-clause-comes : goal.returns-in_err-ended-clause-comes
returns-in_err-ended-clause-comes c k env before region name q h b ps =
    let e = err_from_is_err_and c.from_residual-in_err-ended.result c.from_residual-in_err-ended.ensures.1 in
    rw (e.1, e.2) (let w = c.args.walk.now in
    let x = c.args.body.now in
    let second = c.all_declared.new.walk in
    let third = c.all_handled.new.walk in
    let goes = c.in_ok-made.ensures.goes h.symbols.inside in
    let middle = c.in_ok-frame.ensures.continues k b in
    let made = body_made env before q (block_of (made_of k c.in_ok-made.made.items) (frame_there k c.in_ok-frame.frame)) (state_of k third) in
    refused_as _ _ c.in_err-ended.field-0.0
    (statements_pass env before x region name q (state_of k w) (declared_in k second c.in_ok-made.made.items)
    (rw (sym c.as_slice.ensures) (c.in_ok-made.ensures.comes x.specification.pos k (inside_body env region name q) h middle))
    (given (frame_there k c.in_ok-frame.frame) (state_of k third))
    (c.in_ok-frame.ensures.comes x.specification.pos k _ (stands_then c.args.context.now w k (inside_body env region name q) h second goes middle) b)
    ∙ ap (λ st. answer_at x.specification.pos (ending st x q.result made).outcome) h.symbols.step)
    (c.in_err-ended.ensures k q.result made h.returning))

pub returns-in_err-frame-clause-goes : goal.returns-in_err-frame-clause-goes
returns-in_err-frame-clause-goes c open_now =
    let e = err_from_is_err_and c.from_residual-in_err-frame.result c.from_residual-in_err-frame.ensures.1 in
    rw (e.1, e.2) (let w = c.args.walk.now in
    let second = c.all_declared.new.walk in
    let third = c.all_handled.new.walk in
    let f = c.in_err-frame.field-0.0 in
    stays_behind w second third f (inside_continues w second (c.in_ok-made.ensures.goes open_now)) (memory_stays Frame second third f c.in_err-frame.ensures.continues))

pub returns-in_err-ended-clause-goes : goal.returns-in_err-ended-clause-goes
returns-in_err-ended-clause-goes c open_now =
    let e = err_from_is_err_and c.from_residual-in_err-ended.result c.from_residual-in_err-ended.ensures.1 in
    rw (e.1, e.2) (let w = c.args.walk.now in
    let second = c.all_declared.new.walk in
    let third = c.all_handled.new.walk in
    stays_there w third c.in_err-ended.field-0.0 (λ k b. inside_continues w second (c.in_ok-made.ensures.goes open_now) k (c.in_ok-frame.ensures.continues k b)))

pub returns-clause-comes : goal.returns-clause-comes
returns-clause-comes c k env before region name q h b ps =
    let w = c.args.walk.now in
    let x = c.args.body.now in
    let second = c.all_declared.new.walk in
    let third = c.all_handled.new.walk in
    let goes = c.in_ok-made.ensures.goes h.symbols.inside in
    let later : Begins third k = record { symbols = b.symbols; spans = b.spans } in
    let middle = c.in_ok-frame.ensures.continues k later in
    let block = block_of (made_of k c.in_ok-made.made.items) (frame_there k c.in_ok-frame.frame) in
    let made = body_made env before q block (state_of k third) in
    let same = ap (λ ds. unfolded_block (types_in k) (tree.block (map view.declaration_of ds) (view.statements_of c.in_ok-frame.frame.statements.items)
    (view.handlers_of c.in_ok-frame.frame.handlers.items))) c.from.ensures in
    statements_pass env before x region name q (state_of k w) (declared_in k second c.in_ok-made.made.items)
    (rw (sym c.as_slice.ensures) (c.in_ok-made.ensures.comes x.specification.pos k (inside_body env region name q) h middle))
    (given (frame_there k c.in_ok-frame.frame) (state_of k third))
    (c.in_ok-frame.ensures.comes x.specification.pos k _ (stands_then c.args.context.now w k (inside_body env region name q) h second goes middle) later)
    ∙ (ap (λ st. answer_at x.specification.pos (ending st x q.result made).outcome) h.symbols.step
    ∙ (c.in_ok-ended.ensures k q.result made h.returning
    ∙ ap Ok (sym (body_is_made k third.notes third.counts third.found c.record_body.new.found c.args.context.now.generic c.args.parameters.items
    (tree.block (map view.declaration_of c.from.result) (view.statements_of c.in_ok-frame.frame.statements.items)
    (view.handlers_of c.in_ok-frame.frame.handlers.items)) block
    env before q c.in_ok-record_body.ensures h.generic ps (same ∙ block_is k c.in_ok-made.made.items c.in_ok-frame.frame)))))

pub returns-clause-goes : goal.returns-clause-goes
returns-clause-goes c open_now =
    let w = c.args.walk.now in
    let second = c.all_declared.new.walk in
    let third = c.all_handled.new.walk in
    let goes = c.in_ok-made.ensures.goes open_now in
    let last : Walk = record third { found = c.record_body.new.found } in
    then_advances w second last (inside_advances w second goes)
    (grows_advances second last (stays_open w.symbols second.symbols goes.symbols) c.in_ok-frame.ensures.grown
    (λ k b. c.in_ok-frame.ensures.continues k (record { symbols = b.symbols; spans = b.spans })))
