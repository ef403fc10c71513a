use Rattle.std.proofs.Common.{List, IsUtf8, None, sym, subst, refl}
use Rattle.std.specs.List.{AllByRecursion}
use Rattle.commands.specs.Content.{IsReport}
use Rattle.commands.specs.Reading.{WereShown}
use Rattle.commands.specs.Ready.{output_view}
use Rattle.coverage_set.specs.Covered.{Has, HasRun}
use Rattle.cov_base.specs.declared.obligations.SourceFile.{SourceFile}
use Rattle.object_format.specs.declared.object.FileEntry.{FileEntry}
use Rattle.commands.proofs.DecisionLaws.{few_listed, listed_in_utf8}
use Rattle.commands.proofs.ReportLaws.{report_of_held}
use Rattle.commands.proofs.ready.report.reported.Goals as goal

pub shown_sources-requires-clause-named : goal.shown_sources-requires-clause-named
shown_sources-requires-clause-named g c =
    subst (λ (es : List FileEntry). AllByRecursion (λ entry. IsUtf8 entry.name) es) (sym c.as_slice.ensures) (listed_in_utf8 c.args.object.now c.requires.sound)

pub returns-clause-made : goal.returns-clause-made
returns-clause-made g c = (
  c.in_ok-sources.ensures.reads,
  refl,
  report_of_held c.args.level c.args.annotate c.args.object.now c.args.coverage.now (g.F.Files.held c.args.files.now) c.in_ok-sources.sources.items
      (output_view (record { file = None; text = c.in_ok-text.text }))
      (subst (λ (es : List FileEntry). WereShown c.args.annotate es (g.F.Files.held c.args.files.now) c.in_ok-sources.sources.items) c.as_slice.ensures c.in_ok-sources.ensures.shown)
      (subst (λ (ss : List SourceFile). IsReport c.args.level c.args.annotate c.args.object.now ss (Has c.args.coverage.now) (HasRun c.args.coverage.now) c.in_ok-text.text.items)
      c.as_slice-2.ensures.value c.in_ok-text.ensures),
)
