use Rattle.std.proofs.Common.{refl}
use Rattle.commands.proofs.ReportLaws.{kept_shown, names_shown}
use Rattle.commands.proofs.ready.report.shown_sources.Goals as goal

pub returns-in_ok-named_files-in-Report : goal.returns-in_ok-named_files-in-Report
returns-in_ok-named_files-in-Report g c = record {
  shown = names_shown c.args.annotate c.args.entries.now (g.F.Files.held c.args.files.now) c.in_ok-named_files-in-Report.field-0.items c.in-Report.is c.in_ok-named_files-in-Report.ensures;
  reads = refl;
  stopped = tt;
  told = tt;
  same = refl;
  writes = refl;
}
