use Rattle.std.proofs.Common.{refl}
use Rattle.std.proofs.lemmas.Result.{on_ok_weaker}
use Rattle.calls_made.proofs.WayLaws.{way_told}
use Rattle.calls_made.proofs.covered.Goals as goal

pub returns : goal.returns
returns g c =
    on_ok_weaker c.done-3.result
    (λ covers way asks held told numbers input. record {
      last = _;
      before = refl;
      after = refl;
      told = way_told way _ _ _ c.made.ensures c.made-2.ensures c.made-3.ensures refl refl (c.in_ok-done.ensures {u = tt}) (c.in_ok-done-2.ensures {u = tt}) covers
          asks.compiled asks.ran asks.covered asks.input_apart asks.trace_apart held told numbers input;
    })
    c.done-3.ensures
