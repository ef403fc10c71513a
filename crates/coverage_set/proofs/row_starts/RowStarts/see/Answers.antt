use Rattle.std.proofs.Common.{◌≡◌, ◌≤◌, length, ap, arith, refl}
use Rattle.coverage_set.proofs.RowsSeen.{row_more, rows_past, no_rows}
use Rattle.coverage_set.proofs.Starts.{row_there}
use Rattle.coverage_set.proofs.row_starts.RowStarts.see.Goals as goal

pub loop-place-init : goal.loop-place-init
loop-place-init c = λ later above. refl

pub returns-then-block-row : goal.returns-then-block-row
returns-then-block-row c = λ later above.
    rows_past c.args.block later c.args.object.now.rows c.loop-place.place _ c.loop-place.self.events.items _ c.requires.row.rising
    (row_there c.args.object.now.rows c.as_slice-rows.result.now c.loop-place.place _ c.as_slice-rows.ensures c.loop-place-test.true)
    c.if-block-row.true (c.loop-place.invariant later above)

pub loop-place-preserved : goal.loop-place-preserved
loop-place-preserved c = λ later above.
    row_more c.args.block later c.args.object.now.rows c.loop-place.place _ c.covers.result c.loop-place.self.events.items c.add_start.new.events.items _ c.requires.row.rising
    (row_there c.args.object.now.rows c.as_slice-rows.result.now c.loop-place.place _ c.as_slice-rows.ensures c.loop-place-test.true)
    (omega (arith, c.if-block-row.false)) above c.covers.ensures c.in_ok-add_start.ensures (c.loop-place.invariant later above)

pub returns : goal.returns
returns c = λ later above.
    let same : length c.as_slice-rows.result.now ≡ length c.args.object.now.rows = ap length c.as_slice-rows.ensures in
    let none : length c.args.object.now.rows ≤ c.loop-place.place = omega (arith, same, c.loop-place-test.false) in
    let behind : length c.args.object.now.rows ≤ c.max-self.result = omega (arith, same, c.max-self.ensures) in
    no_rows c.args.block later c.args.object.now.rows c.loop-place.place c.max-self.result c.loop-place.self.events.items _ none behind
    (c.loop-place.invariant later above)
