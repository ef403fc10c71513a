use Rattle.std.proofs.lemmas.Grind.{common_steps}
use Rattle.std.proofs.Common.{◌≡◌, [], ◌∷◌, ◌+◌, suc, arith, sym, ap, ◌∙◌, subst}
use Rattle.ada_rules.specs.Library.{reached, joined, next_ones}
use Rattle.ada_library.specs.Marking.{AreMarked, MarksNew, IsSearched}
use Rattle.ada_library.proofs.SearchLaws.{reached_more, step_marked, step_searched}
use Rattle.ada_library.proofs.search.reached.Goals as goal

pub loop-preserved : goal.loop-preserved
loop-preserved c =
    let g = c.args.graph.now in
    let i = c.loop.index in
    let from = c.args.from ∷ [] in
    let ns = reached g i from in
    let latest = c.loop.latest.items in
    let old = c.loop.marks in
    let new = c.step.new.marks in
    let found = c.in_ok-latest.latest.items in
    let next : i + 1 ≡ suc i = omega arith in
    let more : reached g (i + 1) from ≡ joined (next_ones g ns) ns = ap (λ k. reached g k from) next ∙ reached_more g i from in
    let step : MarksNew (next_ones g latest) old new [] found =
    subst (λ us. MarksNew (next_ones g us) old new [] found) c.as_slice.ensures.value c.in_ok-latest.ensures in
    let marked = step_marked g ns latest c.loop.invariant.searched old new found c.loop.invariant.marked step in
    let searched = step_searched g ns latest c.loop.invariant.searched old new found c.loop.invariant.marked step in
    record {
      marked = subst (λ ms. AreMarked ms new) (sym more) marked;
      searched = subst (λ ms. IsSearched g ms found) (sym more) searched;
    }

pub returns : goal.returns
returns c = grind (arith, common_steps)
