use Rattle.std.proofs.Common.{◌≡◌, ◌≤◌, length, map, take}
use Rattle.commands.specs.Reading.{WereAdded}
use Rattle.commands.proofs.ready.traces.add_traces.Given as goal

-- the traces so far were read and added
abbrev pub invariant-loop-place : goal.invariant-loop-place
invariant-loop-place g l = record {
  within : l.place ≤ length l.names;
  object : l.coverage.object ≡ l.fn.coverage.object;
  held : g.F.Files.held l.files ≡ g.F.Files.held l.fn.files;
  reads : g.F.Files.reads_failed l.files ≡ g.F.Files.reads_failed l.fn.files;
  writes : g.F.Files.writes_failed l.files ≡ g.F.Files.writes_failed l.fn.files;
  added : WereAdded (g.F.Files.held l.fn.files) l.decisions (map (λ name. name.now) (take l.place l.names)) l.fn.coverage l.coverage;
}
