use Rattle.std.proofs.Common.{◌≡◌, ◌≤◌, All, length, map, take}
use Rattle.commands.specs.Reading.{WereSources}
use Rattle.program_objects.specs.Built.{HasPlainName}
use Rattle.commands.proofs.ready.sources.read_sources.Given as goal

-- the sources so far were read
abbrev pub invariant-loop-place : goal.invariant-loop-place
invariant-loop-place g l = record {
  within : l.place ≤ length l.names;
  count : length l.sources.items ≡ l.place;
  held : g.F.Files.held l.files ≡ g.F.Files.held l.fn.files;
  reads : g.F.Files.reads_failed l.files ≡ g.F.Files.reads_failed l.fn.files;
  writes : g.F.Files.writes_failed l.files ≡ g.F.Files.writes_failed l.fn.files;
  plain : All HasPlainName l.sources.items;
  read : WereSources (map (λ name. name.now) (take l.place l.names)) (g.F.Files.held l.fn.files) l.sources.items;
}
