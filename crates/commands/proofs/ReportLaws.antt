-- The sources that a report shows, and what is made of them.
use Rattle.std.proofs.Common.{◌≡◌, ◌⊎◌, inl, inr, ℕ, List, length, map, Option, None, Some, IfSome, refl, sym, ◌∙◌, subst}
use Rattle.cov_base.specs.declared.level.Annotation.{Annotation}
use Rattle.cov_base.specs.declared.level.Annotation.TheVariants.{Report, Xcov, Json}
use Rattle.cov_base.specs.declared.level.Level.{Level}
use Rattle.cov_base.specs.declared.obligations.SourceFile.{SourceFile}
use Rattle.cov_io.specs.Outside.{Held}
use Rattle.coverage_set.specs.Covered.{Covered, Has, HasRun}
use Rattle.commands.specs.Content.{IsReport}
use Rattle.commands.specs.Products.{IsReportOver}
use Rattle.commands.specs.Reading.{AreKept, WereKept, WereShown}
use Rattle.commands.specs.TaskFiles.{entry_names, held_under, read_for}
use Rattle.commands.specs.Texts.{names_of, ShowSame}
use Rattle.commands.specs.Verdict.{Output}
use Rattle.object_format.specs.declared.object.FileEntry.{FileEntry}
use Rattle.object_format.specs.declared.object.Object.{Object}
use Rattle.commands.proofs.CoveringLaws.{report_over}
use Rattle.commands.proofs.TextLaws.{named_under}

-- sources that were read are shown
pub kept_shown : (entries : List FileEntry) (held : Option Held) (sources : List SourceFile) → WereKept entries held sources → WereShown Xcov entries held sources
kept_shown entries held sources were = record { named = were.named; read = were.read }

-- of the others the names are
shows_names : (annotation : Annotation) (entries : List FileEntry) (held : Option Held) (sources : List SourceFile)
    → ((told : Held) → AreKept told (read_for annotation entries)) → ((others : List SourceFile) → names_of sources ≡ names_of others → ShowSame annotation sources others)
    → names_of sources ≡ entry_names entries → WereShown annotation entries held sources
shows_names annotation entries held sources kept same named = record { named = named; read = by_held held }
  where
    by_held : (h : Option Held) → IfSome h (λ told. AreKept told (read_for annotation entries) × ShowSame annotation sources (held_under told (entry_names entries)))
    by_held None = tt
    by_held (Some told) = (kept told, same (held_under told (entry_names entries)) (named ∙ sym (named_under told (entry_names entries))))

pub names_shown : (annotation : Annotation) (entries : List FileEntry) (held : Option Held) (sources : List SourceFile) → (annotation ≡ Report) ⊎ (annotation ≡ Json)
    → names_of sources ≡ entry_names entries → WereShown annotation entries held sources
names_shown annotation entries held sources (inl is) named =
    subst (λ (a : Annotation). WereShown a entries held sources) (sym is) (shows_names Report entries held sources (λ told. tt) (λ others same. same) named)
names_shown annotation entries held sources (inr is) named =
    subst (λ (a : Annotation). WereShown a entries held sources) (sym is) (shows_names Json entries held sources (λ told. tt) (λ others same. same) named)

-- the report of these sources is that of what is held
pub report_of_held : (level : Level) (annotation : Annotation) (o : Object) (c : Covered) (held : Option Held) (sources : List SourceFile) (output : Output)
    → WereShown annotation o.files held sources → IsReport level annotation o sources (Has c) (HasRun c) output.text
    → IfSome held (IsReportOver level annotation o c output)
report_of_held level annotation o c held sources output shown report = by_held held shown.read
  where
    by_held : (h : Option Held) → IfSome h (λ told. AreKept told (read_for annotation o.files) × ShowSame annotation sources (held_under told (entry_names o.files)))
        → IfSome h (IsReportOver level annotation o c output)
    by_held None read = tt
    by_held (Some told) read = (read.0, report_over level annotation o sources (held_under told (entry_names o.files)) c output.text read.1 report)
