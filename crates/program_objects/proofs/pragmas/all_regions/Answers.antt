use Rattle.std.proofs.Common.{drop, ◌+◌}
use Rattle.std.proofs.lemmas.List.{drop_all}
use Rattle.std.proofs.lemmas.Result.{err_from_is_err_and}
use Rattle.program_objects.proofs.Pairing.{paired_more, unpaired_there, paired_all}
use Rattle.program_objects.proofs.UnitLaws.{next_of}
use Rattle.program_objects.proofs.pragmas.all_regions.Goals as goal

pub returns-in_err-more-clause-fault : goal.returns-in_err-more-clause-fault
returns-in_err-more-clause-fault c =
    let p = err_from_is_err_and c.from_residual.result c.from_residual.ensures.1 in
    let lists = c.args.lists.now in
    let i = c.loop-tokens.tokens-index in
    let next = next_of lists i c.tokens-item.result c.loop-tokens-test.true c.tokens-item.is in
    rw (p.1, p.2)
    (unpaired_there _ c.loop-tokens.all.items c.tokens-item.result (drop i lists) (drop (i + 1) lists) lists next
    (rw c.as_slice.ensures at c.in_err-more.ensures.fault) c.loop-tokens.invariant)

pub loop-tokens-preserved : goal.loop-tokens-preserved
loop-tokens-preserved c =
    let lists = c.args.lists.now in
    let i = c.loop-tokens.tokens-index in
    let next = next_of lists i c.tokens-item.result c.loop-tokens-test.true c.tokens-item.is in
    rw c.in_ok-append.ensures.items
    (paired_more c.loop-tokens.all.items c.in_ok-more.more.items c.tokens-item.result (drop i lists) (drop (i + 1) lists) lists next
    (rw c.as_slice.ensures at c.in_ok-more.ensures.regions) c.loop-tokens.invariant)

pub returns-clause-regions : goal.returns-clause-regions
returns-clause-regions c =
    let lists = c.args.lists.now in
    paired_all c.loop-tokens.all.items (drop c.loop-tokens.tokens-index lists) lists (drop_all c.loop-tokens.tokens-index lists c.loop-tokens-test.false) c.loop-tokens.invariant
