use Rattle.std.proofs.Common.{◌≡◌, ◌<◌, ◌≤◌, length}
use Rattle.commands.proofs.PieceLaws.{IsFront}
use Rattle.commands.proofs.ready.traces.front_of.Given as goal

-- what was read of the front so far
abbrev pub invariant-loop : goal.invariant-loop
invariant-loop g l = record {
  short : length l.front.items < 8;
  grown : l.counter ≤ length l.front.items;
  front : IsFront (g.F.Files.held l.fn.files) l.name l.front.items;
  held : g.F.Files.held l.files ≡ g.F.Files.held l.fn.files;
  reads : g.F.Files.reads_failed l.files ≡ g.F.Files.reads_failed l.fn.files;
  writes : g.F.Files.writes_failed l.files ≡ g.F.Files.writes_failed l.fn.files;
}
