use Rattle.std.proofs.Common.{arith}
use Rattle.std.proofs.lemmas.Grind.{common_steps}
use Rattle.std.proofs.Common.{refl, subst}
use Rattle.std.proofs.lemmas.Result.{on_ok_weaker}
use Rattle.object_format.specs.declared.object.Object.{Object}
use Rattle.coverage_set.proofs.FoundSeen.{block_found}
use Rattle.coverage_set.proofs.RowsSeen.{AddsStarts}
use Rattle.coverage_set.proofs.found.Found.see_block.Goals as goal

pub returns : goal.returns
returns c =
    on_ok_weaker c.add_flagged.result (λ flagged blocks history so_far.
    block_found c.args.map.now c.args.self.now _ c.args.block blocks history
    (subst (λ (o : Object). AddsStarts o c.args.self.now.starts c.see.new.self c.args.block) c.object.ensures c.in_ok-see.ensures)
    flagged refl so_far) c.add_flagged.ensures

pub see-requires : goal.see-requires
see-requires c = grind (arith, common_steps)
