-- What coverage prints in each of its forms depends on the set of events, and on what the form shows of files.
use Rattle.std.proofs.Common.{◌≡◌, ℕ, List, [], ◌∷◌, map, refl, ap, unwrap_or}
use Rattle.std.specs.FinMap as finmap
use Rattle.annotated_report.proofs.Alike as reports
use Rattle.annotated_report.specs.Members.{AreAlike}
use Rattle.annotated_report.specs.Report.{report_text}
use Rattle.cov_base.specs.declared.event.Event.{Event}
use Rattle.cov_base.specs.declared.level.Annotation.{Annotation}
use Rattle.cov_base.specs.declared.level.Annotation.TheVariants.{Report, Xcov, Json}
use Rattle.cov_base.specs.declared.level.Level.{Level}
use Rattle.cov_base.specs.declared.obligations.Obligations.{Obligations}
use Rattle.cov_base.specs.declared.obligations.SourceFile.{SourceFile}
use Rattle.cov_io.specs.Outside.{Held}
use Rattle.commands.specs.TaskFiles.{held_under}
use Rattle.commands.specs.Texts.{coverage_text, names_of, ShowSame}
use Rattle.json_report.proofs.AlikeEvents as objects
use Rattle.json_report.specs.Text.{json_text}
use Rattle.xcov_report.proofs.Alike as listings
use Rattle.xcov_report.specs.Listing.{xcov_text}

-- the text depends on which events there are
pub same_events : (annotation : Annotation) (level : Level) (obligations : Obligations) (traces : ℕ) (xs ys : List Event) (files : List SourceFile) → AreAlike xs ys
    → coverage_text annotation level obligations traces xs files ≡ coverage_text annotation level obligations traces ys files
same_events Report level obligations traces xs ys files alike = reports.same_text level obligations traces xs ys (names_of files) alike
same_events Xcov level obligations traces xs ys files alike = listings.same_text level obligations traces xs ys files alike
same_events Json level obligations traces xs ys files alike = objects.same_text level obligations traces xs ys (names_of files) alike

-- and on what is shown of files
pub same_shown : (annotation : Annotation) (level : Level) (obligations : Obligations) (traces : ℕ) (events : List Event) (files others : List SourceFile)
    → ShowSame annotation files others
    → coverage_text annotation level obligations traces events files ≡ coverage_text annotation level obligations traces events others
same_shown Report level obligations traces events files others same = ap (λ (names : List (List ℕ)). report_text level obligations traces events names) same
same_shown Xcov level obligations traces events files others same = ap (λ (fs : List SourceFile). xcov_text level obligations traces events fs) same
same_shown Json level obligations traces events files others same = ap (λ (names : List (List ℕ)). json_text level obligations traces events names) same

-- files that are held under names have these names
pub named_under : (told : Held) (names : List (List ℕ)) → names_of (held_under told names) ≡ names
named_under told [] = refl
named_under told (name ∷ names) = ap (λ (ns : List (List ℕ)). name ∷ ns) (named_under told names)
