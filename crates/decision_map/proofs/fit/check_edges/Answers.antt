use Rattle.std.proofs.Common.{◌≤◌, true, false, not, take, Some, sym, ap, subst, arith, option_map, IfSome, eqb}
use Rattle.std.proofs.lemmas.Bool.{and_parts}
use Rattle.std.proofs.lemmas.Option.{IfSome_then}
use Rattle.cov_base.specs.Marks.{same}
use Rattle.trace_format.specs.declared.trace.Block.{Block}
use Rattle.decision_map.specs.declared.fault.FitFault.TheVariants.{Edge}
use Rattle.decision_map.specs.Blocks.{agrees}
use Rattle.decision_map.specs.Kinds.{has_edges, kind_in}
use Rattle.decision_map.proofs.Inside.{are_blocks, lasts_rise}
use Rattle.decision_map.specs.Seen.{Closes}
use Rattle.decision_map.proofs.Flags.{closes_more, tested, unlike_here, unlike_passed}
use Rattle.decision_map.proofs.Steps.{passed_step}
use Rattle.decision_map.proofs.fit.check_edges.Goals as goal

pub returns-then-not-has_its_flags : goal.returns-then-not-has_its_flags
returns-then-not-has_its_flags c =
    let bs = c.args.view.now.blocks in
    let at = c.loop-at.at in
    let block = c.block-block.result in
    let rises : IfSome c.loop-at.before (λ (k : Block). k.last ≤ block.last) =
    IfSome_then c.loop-at.before c.loop-at.invariant.before (λ known there.
    lasts_rise c.args.kinds.now bs c.requires.ordered c.requires.blocks there.place at known block there.below there.is c.block-block.ensures) in
    let fails = tested c.args.kinds.now c.loop-at.before (take at bs) block c.loop-at.invariant.closes rises false c.if-not-has_its_flags.ensures in
    ap (option_map (λ (b : Block). Edge b.start)) (unlike_here c.args.kinds.now bs at block _ c.block-block.ensures fails c.loop-at.invariant.left)

pub loop-at-preserved : goal.loop-at-preserved
loop-at-preserved c =
    let bs = c.args.view.now.blocks in
    let at = c.loop-at.at in
    let block = c.block-block.result in
    let rises : IfSome c.loop-at.before (λ (k : Block). k.last ≤ block.last) =
    IfSome_then c.loop-at.before c.loop-at.invariant.before (λ known there.
    lasts_rise c.args.kinds.now bs c.requires.ordered c.requires.blocks there.place at known block there.below there.is c.block-block.ensures) in
    let passes = tested c.args.kinds.now c.loop-at.before (take at bs) block c.loop-at.invariant.closes rises true c.if-not-has_its_flags.ensures in
    let agreed = (and_parts (same (not (eqb block.flags 0)) (has_edges (kind_in c.args.kinds.now block.last))) (agrees c.loop-at.before block) (sym c.if-not-has_its_flags.ensures)).1 in
    record {
      left = unlike_passed c.args.kinds.now bs at block _ c.block-block.ensures passes c.loop-at.invariant.left;
      before = record { place = at; below = omega arith; is = c.block-block.ensures; block = are_blocks c.args.kinds.now bs c.requires.blocks at block c.block-block.ensures };
      closes = subst (Closes (Some block)) (sym (passed_step bs at block c.block-block.ensures))
          (closes_more c.loop-at.before (take at bs) block c.loop-at.invariant.closes rises agreed);
    }
