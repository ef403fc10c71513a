use Rattle.std.proofs.Common.{◌≡◌, true, false, not, sym, ap, arith, option_map}
use Rattle.std.proofs.lemmas.Option.{IfSome_then}
use Rattle.trace_format.specs.declared.trace.Block.{Block}
use Rattle.decision_map.specs.declared.fault.FitFault.TheVariants.{NotABlock}
use Rattle.decision_map.specs.Blocks.{is_block}
use Rattle.decision_map.proofs.Inside.{starts_rise, start_aligned}
use Rattle.decision_map.proofs.Steps.{find_passed, find_here}
use Rattle.decision_map.proofs.fit.check_blocks.Goals as goal

pub is_block-requires-clause-before : goal.is_block-requires-clause-before
is_block-requires-clause-before c =
    IfSome_then c.loop-at.before c.loop-at.invariant.before (λ known there.
    (there.block, starts_rise c.args.view.now.blocks c.requires.ordered there.place c.loop-at.at known c.block-block.result there.below there.is c.block-block.ensures))

pub is_block-requires-clause-aligned : goal.is_block-requires-clause-aligned
is_block-requires-clause-aligned c =
    start_aligned c.args.view.now.blocks c.requires.ordered c.loop-at.at c.block-block.result c.block-block.ensures

pub returns-then-not-is_block : goal.returns-then-not-is_block
returns-then-not-is_block c =
    let fails : is_block c.args.kinds.now c.block-block.result ≡ false = sym c.if-not-is_block.ensures in
    ap (option_map (λ (b : Block). NotABlock b.start))
    (find_here (λ (b : Block). not (is_block c.args.kinds.now b)) c.args.view.now.blocks c.loop-at.at c.block-block.result _ c.block-block.ensures
    (ap not fails) c.loop-at.invariant.left)

pub loop-at-preserved : goal.loop-at-preserved
loop-at-preserved c =
    let passes : is_block c.args.kinds.now c.block-block.result ≡ true = sym c.if-not-is_block.ensures in
    record {
      left = find_passed (λ (b : Block). not (is_block c.args.kinds.now b)) c.args.view.now.blocks c.loop-at.at c.block-block.result _ c.block-block.ensures
          (ap not passes) c.loop-at.invariant.left;
      before = record { place = c.loop-at.at; below = omega arith; is = c.block-block.ensures; block = passes };
    }
