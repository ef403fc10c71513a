use Rattle.std.proofs.Common.{◌≡◌}
use Rattle.trace_format.specs.Reader.{file_name}
use Rattle.coverage_set.proofs.ReadLaws.{IsUnderWay}
use Rattle.coverage_set.proofs.reading.Reading.read.Given as goal

-- what was read so far, and that nothing else has changed
abbrev pub invariant-loop : goal.invariant-loop
invariant-loop g l = record {
  so_far : IsUnderWay l.map (g.F.Files.held l.fn.files) l.reader l.self l.counter;
  name : file_name l.reader ≡ file_name l.fn.reader;
  held : g.F.Files.held l.files ≡ g.F.Files.held l.fn.files;
  reads : g.F.Files.reads_failed l.files ≡ g.F.Files.reads_failed l.fn.files;
  writes : g.F.Files.writes_failed l.files ≡ g.F.Files.writes_failed l.fn.files;
}
