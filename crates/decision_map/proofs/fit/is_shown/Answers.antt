use Rattle.std.proofs.Common.{◌+◌, ◌-◌, ◌/◌, sym, ◌∙◌, arith, inl, inr}
use Rattle.std.proofs.lemmas.Bool.Decides.{leb_tells}
use Rattle.decision_map.proofs.Shown.{none_shows, one_shows, all_below, all_above}
use Rattle.decision_map.proofs.fit.is_shown.Goals as goal

pub returns-then-block-entry : goal.returns-then-block-entry
returns-then-block-entry c =
    c.shows_edge.ensures ∙ one_shows c.args.view.now.blocks c.requires c.args.entry (c.loop-low.low + (c.loop-low.high - c.loop-low.low) / 2) c.block-block.result c.block-block.ensures c.if-block-entry.true

pub loop-low-preserved-then-block-entry-2 : goal.loop-low-preserved-then-block-entry-2
loop-low-preserved-then-block-entry-2 c = record {
  within = c.loop-low.invariant.within;
  below = all_below c.args.view.now.blocks c.requires (c.loop-low.low + (c.loop-low.high - c.loop-low.low) / 2) c.block-block.result c.args.entry.address c.block-block.ensures c.if-block-entry-2.true;
  above = c.loop-low.invariant.above;
}

pub loop-low-preserved : goal.loop-low-preserved
loop-low-preserved c =
    let not_at = c.if-block-entry.false in
    let not_below = c.if-block-entry-2.false in
    record {
      within = omega (arith, c.loop-low.invariant.within);
      below = c.loop-low.invariant.below;
      above = all_above c.args.view.now.blocks c.requires (c.loop-low.low + (c.loop-low.high - c.loop-low.low) / 2) c.block-block.result c.args.entry.address c.block-block.ensures (omega arith);
    }

pub returns : goal.returns
returns c =
    sym (none_shows c.args.view.now.blocks c.args.entry (λ i d within same. elim (leb_tells c.loop-low.high i) [
      | inl past ↦ absurd (omega (arith, c.loop-low.invariant.above i d past.1 within))
      | inr low ↦ let ended = c.loop-low-test.false in absurd (omega (arith, c.loop-low.invariant.below i d (omega (arith, low.1))))
    ]))
