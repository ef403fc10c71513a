use Rattle.std.proofs.lemmas.Grind.{common_steps}
use Rattle.std.proofs.Common.{◌≡◌, ◌<◌, true, deque_len, length, get_or, remove, IfSome, OnSome, arith, sym, ap, ◌∙◌, subst}
use Rattle.ada_rules.specs.Library.{is_ready}
use Rattle.ada_library.proofs.OrderLaws.{found_ready, removed}
use Rattle.ada_library.proofs.ordering.pick.Goals as goal

pub returns-then-is_ready : goal.returns-then-is_ready
returns-then-is_ready c order marked =
    let g = c.args.graph.now in
    let old = c.args.rest.now in
    let new = c.remove.new.self.items in
    let i = c.loop-index.index in
    let n = c.index.result.now in
    let kept = c.loop-index.invariant.kept in
    let inside : i < length old.items = omega (arith, c.loop-index-test.true, c.len-index-end.ensures, old.ok.0) in
    let own : n ≡ get_or old.items i n = c.index.ensures ∙ ap (λ q. get_or q.items i n) kept in
    let ready : is_ready g order n ≡ true = sym (c.is_ready.ensures order marked) ∙ c.if-is_ready.true in
    let value = subst (λ q. IfSome c.remove.result (λ y. y ≡ get_or q.items i y)) kept c.remove.ensures.value in
    let left = subst (λ q. OnSome c.remove.result (new ≡ remove q.items i)) kept c.remove.ensures.items in
    c.loop-index.invariant.first order marked
    ∙ (found_ready g order old.items i n inside own ready
    ∙ removed old.items new i c.remove.result inside (λ h. c.remove.ensures.variant.1 (omega (arith, h, ap deque_len kept, old.ok.0))) value left n own)

pub loop-index-preserved : goal.loop-index-preserved
loop-index-preserved c = grind (arith, common_steps)
