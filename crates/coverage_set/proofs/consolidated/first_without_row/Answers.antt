use Rattle.std.proofs.Common.{◌≡◌, true, arith}
use Rattle.coverage_set.specs.Consolidated.{HasRow}
use Rattle.coverage_set.proofs.Turns.{one_more_is, is_not}
use Rattle.coverage_set.proofs.consolidated.first_without_row.Goals as goal

pub returns-then-not-has : goal.returns-then-not-has
returns-then-not-has c =
    let starts = c.args.view.now.starts in (
      c.loop-at.invariant,
      omega (arith, c.starts-at-end.ensures, c.loop-at-test.true),
      is_not (HasRow c.args.object.now) starts c.loop-at.at c.start-start.result c.start-start.ensures (λ row.
          let here : c.has.result ≡ true = c.has.ensures.1 ((c.in_ok-starts.ensures _).1 row) in
          let no = c.if-not-has.true in
          absurd cc),
    )

pub loop-at-preserved : goal.loop-at-preserved
loop-at-preserved c =
    one_more_is (HasRow c.args.object.now) c.args.view.now.starts c.loop-at.at c.start-start.result c.start-start.ensures ((c.in_ok-starts.ensures _).0 (c.has.ensures.0 c.if-not-has.false)) c.loop-at.invariant
