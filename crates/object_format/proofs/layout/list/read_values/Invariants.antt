use Rattle.std.proofs.Common.{◌≡◌, ◌-◌}
use Rattle.spelling.specs.Format.{read_many}
use Rattle.spelling.proofs.Loop.{with_front}
use Rattle.object_format.proofs.layout.list.read_values.Given as goal

-- what was read so far, and what is still read, are all
abbrev pub invariant-loop : goal.invariant-loop
invariant-loop g l =
    let read = g.T.Stored.format.read in
    with_front l.values.items (read_many read (l.count - l.counter) l.rest) ≡ read_many read l.count l.bytes
