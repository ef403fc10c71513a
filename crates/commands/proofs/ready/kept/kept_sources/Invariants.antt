use Rattle.std.proofs.Common.{◌≡◌, ◌≤◌, length, take}
use Rattle.commands.specs.Reading.{WereKept}
use Rattle.commands.proofs.ready.kept.kept_sources.Given as goal

-- the sources so far were read
abbrev pub invariant-loop-number : goal.invariant-loop-number
invariant-loop-number g l = record {
  within : l.number ≤ length l.entries;
  held : g.F.Files.held l.files ≡ g.F.Files.held l.fn.files;
  reads : g.F.Files.reads_failed l.files ≡ g.F.Files.reads_failed l.fn.files;
  writes : g.F.Files.writes_failed l.files ≡ g.F.Files.writes_failed l.fn.files;
  read : WereKept (take l.number l.entries) (g.F.Files.held l.fn.files) l.sources.items;
}
