use Rattle.std.proofs.lemmas.Grind.{common_steps}
use Rattle.std.proofs.Common.{arith, rules}
use Rattle.trace_format.proofs.stream.Stream.fill.Goals as goal

pub returns-then-take_ahead : goal.returns-then-take_ahead
returns-then-take_ahead g c = record { takes = grind (arith, common_steps); count = search rules; len = search rules; name = search rules; same = search rules; failed = search rules; stays = search rules; later = search rules; writes = search rules }
