use Rattle.std.proofs.Common.{◌≡◌, ◌-◌}
use Rattle.spelling.specs.Format.{read_many}
use Rattle.spelling.proofs.Loop.{with_front}
use Rattle.spelling.proofs.list.read_many.Given as goal

abbrev pub invariant-loop : goal.invariant-loop
invariant-loop g l = with_front l.values.items (read_many g.T.Formatted.format.read (l.count - l.counter) l.rest) ≡ read_many g.T.Formatted.format.read l.count l.bytes
