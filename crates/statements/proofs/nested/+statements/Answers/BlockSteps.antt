-- Blocks, as the walk goes on over them.
use Rattle.std.proofs.Common.{◌≡◌, ◌<◌, length, Ok, sym, ap, ◌∙◌, subst, arith}
use Rattle.std.proofs.lemmas.Result.{err_from_is_err_and}
use Rattle.ada_meaning.specs.Tree as tree
use Rattle.ada_rules.specs.Environment.{given, opened}
use Rattle.ada_rules.specs.Declarations.{all_declared}
use Rattle.ada_rules.specs.Statements.{one, declarations_in}
use Rattle.ada_entities.specs.Answers.{Refuses}
use Rattle.ada_entities.specs.Trees.{shapes_in_tree}
use Rattle.statement_parts.proofs.CaseLaws.{statements_in}
use Rattle.program_walk.specs.declared.walk.Walk.{Walk}
use Rattle.program_walk.specs.States.{state_of}
use Rattle.program_walk.proofs.Following.{opened_inside}
use Rattle.program_walk.specs.Walks.{Begins}
use Rattle.ada_entities.specs.RegionCode.{innermost}
use Rattle.ada_tree.specs.Programs.{unfolded_block}
use Rattle.declarations.specs.Locals.{made_of}
use Rattle.declarations.specs.Values.{declared_in}
use Rattle.program_walk.proofs.GoingLaws.{inside_continues, stands_then}
use Rattle.program_walk.proofs.GoingLaws as going
use Rattle.statements.proofs.LoopLaws.{opened_changed}
use Rattle.statements.specs.Made.{frame_there, handlers_in}
use Rattle.statements.proofs.Steps.{stays_continue, failure_continues, refused_behind, region_gone}
use Rattle.statements.proofs.NestedLaws.{declared_refused, frame_refused, block_passes}
use Rattle.statements.proofs.nested.+statements.Goals as goal

pub block_at-returns-in_err-made-clause-comes : goal.block_at-returns-in_err-made-clause-comes
block_at-returns-in_err-made-clause-comes t c p k env h b =
    let e = err_from_is_err_and c.from_residual-in_err-made.result c.from_residual-in_err-made.ensures.1 in
    rw (e.1, e.2) (let w = c.args.walk.now in
    let first : Walk = record w { symbols = c.open.new.self } in
    let open_then = subst (λ rs. 0 < length rs) (sym c.in_ok-open.ensures.regions) (omega arith) in
    let ds = declarations_in c.args.declarations.now in
    let hd = c.args.handled.now in
    let f = c.in_err-made.field-0.0 in
    going.refused_behind first c.all_declared.new.walk k f _ (c.in_err-made.ensures.goes open_then) b (λ begins.
    declared_refused env p (state_of k w) ds hd f
    (subst (λ xs. Refuses (all_declared (opened env) (state_of k w) p xs).answer f) c.declared.ensures
    (c.in_err-made.ensures.comes p k (opened env) (opened_inside c.args.context.now c.inside-inside.result w first c.inside-inside.ensures
    c.in_ok-open.ensures k env h begins) b))))

pub block_at-returns-in_err-made-clause-continues : goal.block_at-returns-in_err-made-clause-continues
block_at-returns-in_err-made-clause-continues t c =
    let e = err_from_is_err_and c.from_residual-in_err-made.result c.from_residual-in_err-made.ensures.1 in
    rw (e.1, e.2) (let w = c.args.walk.now in
    let first : Walk = record w { symbols = c.open.new.self } in
    let open_then = subst (λ rs. 0 < length rs) (sym c.in_ok-open.ensures.regions) (omega arith) in
    stays_continue w first c.all_declared.new.walk c.in_err-made.field-0.0
    (λ k b. record { symbols = c.in_ok-open.ensures.begins k b.symbols; spans = b.spans }) (c.in_err-made.ensures.goes open_then))

pub block_at-returns-in_err-frame-clause-comes : goal.block_at-returns-in_err-frame-clause-comes
block_at-returns-in_err-frame-clause-comes t c p k env h b =
    let e = err_from_is_err_and c.from_residual-in_err-frame.result c.from_residual-in_err-frame.ensures.1 in
    rw (e.1, e.2) (let w = c.args.walk.now in
    let first : Walk = record w { symbols = c.open.new.self } in
    let open_then = subst (λ rs. 0 < length rs) (sym c.in_ok-open.ensures.regions) (omega arith) in
    let ds = declarations_in c.args.declarations.now in
    let hd = c.args.handled.now in
    let middle = c.all_declared.new.walk in
    let goes_on = c.in_ok-made.ensures.goes open_then in
    let f = c.in_err-frame.field-0.0 in
    refused_behind middle c.all_handled.new.walk k f _ c.in_err-frame.ensures.continues b (λ later.
    let begins = inside_continues first middle goes_on k later in
    let stands = (opened_inside c.args.context.now c.inside-inside.result w first c.inside-inside.ensures c.in_ok-open.ensures k env h begins) in
    let x = declared_in k middle c.in_ok-made.made.items in
    let passed = subst (λ xs. (all_declared (opened env) (state_of k w) p xs).answer ≡ Ok x) c.declared.ensures
    (c.in_ok-made.ensures.comes p k (opened env) stands later) in
    let behind = stands_then c.inside-inside.result first k (opened env) stands middle goes_on later in
    frame_refused env p (state_of k w) ds hd x passed f (c.in_err-frame.ensures.comes p k _ behind b)))

pub block_at-returns-in_err-frame-clause-continues : goal.block_at-returns-in_err-frame-clause-continues
block_at-returns-in_err-frame-clause-continues t c =
    let e = err_from_is_err_and c.from_residual-in_err-frame.result c.from_residual-in_err-frame.ensures.1 in
    rw (e.1, e.2) (let w = c.args.walk.now in
    let first : Walk = record w { symbols = c.open.new.self } in
    let open_then = subst (λ rs. 0 < length rs) (sym c.in_ok-open.ensures.regions) (omega arith) in
    let middle = c.all_declared.new.walk in
    let goes_on = c.in_ok-made.ensures.goes open_then in
    failure_continues w middle c.all_handled.new.walk c.in_err-frame.field-0.0
    (λ k b. let m = inside_continues first middle goes_on k b in record { symbols = c.in_ok-open.ensures.begins k m.symbols; spans = m.spans })
    c.in_err-frame.ensures.continues)

pub block_at-returns-clause-comes : goal.block_at-returns-clause-comes
block_at-returns-clause-comes t c p k env h b =
    let w = c.args.walk.now in
    let first : Walk = record w { symbols = c.open.new.self } in
    let open_then = subst (λ rs. 0 < length rs) (sym c.in_ok-open.ensures.regions) (omega arith) in
    let ds = declarations_in c.args.declarations.now in
    let hd = c.args.handled.now in
    let middle = c.all_declared.new.walk in
    let goes_on = c.in_ok-made.ensures.goes open_then in
    let n = c.all_handled.new.walk in
    let last : Begins n k = record { symbols = c.close.ensures.closed.begins k b.symbols; spans = b.spans } in
    let later = c.in_ok-frame.ensures.continues k last in
    let begins = inside_continues first middle goes_on k later in
    let stands = (opened_inside c.args.context.now c.inside-inside.result w first c.inside-inside.ensures c.in_ok-open.ensures k env h begins) in
    let x = declared_in k middle c.in_ok-made.made.items in
    let passed = subst (λ xs. (all_declared (opened env) (state_of k w) p xs).answer ≡ Ok x) c.declared.ensures
    (c.in_ok-made.ensures.comes p k (opened env) stands later) in
    let behind = stands_then c.inside-inside.result first k (opened env) stands middle goes_on later in
    let frame = c.in_ok-frame.frame in
    let types = shapes_in_tree k.types in
    block_passes env p (state_of k w) ds hd x passed (given (frame_there k frame) (state_of k n)) (c.in_ok-frame.ensures.comes p k _ behind last)
    ∙ ((λ z. Ok (one (tree.block_statement (tree.block (made_of k c.in_ok-made.made.items) (sym (statements_in k types frame.statements.items) z)
    (handlers_in k frame.handlers.items))) (state_of k n)))
    ∙ ap (λ t. Ok (one (tree.block_statement (unfolded_block types t)) (state_of k n))) (sym c.block_of.ensures))

pub block_at-returns-clause-continues : goal.block_at-returns-clause-continues
block_at-returns-clause-continues t c k b =
    let w = c.args.walk.now in
    let first : Walk = record w { symbols = c.open.new.self } in
    let open_then = subst (λ rs. 0 < length rs) (sym c.in_ok-open.ensures.regions) (omega arith) in
    let middle = c.all_declared.new.walk in
    let goes_on = c.in_ok-made.ensures.goes open_then in
    let n = c.all_handled.new.walk in
    let last : Begins n k = record { symbols = c.close.ensures.closed.begins k b.symbols; spans = b.spans } in
    let m = inside_continues first middle goes_on k (c.in_ok-frame.ensures.continues k last) in
    record { symbols = c.in_ok-open.ensures.begins k m.symbols; spans = m.spans }

pub block_at-returns-clause-grown : goal.block_at-returns-clause-grown
block_at-returns-clause-grown t c =
    let w = c.args.walk.now in
    let first : Walk = record w { symbols = c.open.new.self } in
    let open_then = subst (λ rs. 0 < length rs) (sym c.in_ok-open.ensures.regions) (omega arith) in
    let middle = c.all_declared.new.walk in
    let goes_on = c.in_ok-made.ensures.goes open_then in
    region_gone w.symbols middle.symbols c.all_handled.new.walk.symbols c.close.new.self (innermost middle.symbols.regions)
    (opened_changed w.symbols c.open.new.self middle.symbols c.in_ok-open.ensures goes_on.symbols) c.in_ok-frame.ensures.grown c.close.ensures.closed
