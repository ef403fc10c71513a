-- The text depends on which events there are alone.
use Rattle.std.proofs.Common.{◌≡◌, ℕ, List, [], ◌∷◌, ◌++◌, ap, ◌∙◌, if◌then◌else◌}
use Rattle.cov_base.specs.declared.event.Event.{Event}
use Rattle.cov_base.specs.declared.event.Vector.{Vector}
use Rattle.cov_base.specs.declared.level.Level.{Level}
use Rattle.cov_base.specs.declared.obligations.DecEntry.{DecEntry}
use Rattle.cov_base.specs.declared.obligations.Obligations.{Obligations}
use Rattle.cov_base.specs.declared.obligations.SourceFile.{SourceFile}
use Rattle.annotated_report.specs.Findings.{asks_outcomes, asks_pairs, expr_of, findings}
use Rattle.annotated_report.specs.Members.{AreAlike}
use Rattle.annotated_report.specs.Verdicts.{is_started, vectors_of, is_covered}
use Rattle.annotated_report.proofs.Alike.{same_covered, same_started, same_all, vectors_alike}
use Rattle.annotated_report.proofs.Numbering.{same_found}
use Rattle.xcov_report.specs.declared.told.Stretch.{Stretch}
use Rattle.xcov_report.specs.Listing.{xcov_text}
use Rattle.xcov_report.specs.Obliged.{of_line, statement_stretches, conditions_stretches, decision_stretches, decisions_stretches, region_stretches, all_stretches}
use Rattle.xcov_report.specs.Text.{head_text, files_text}
use Rattle.xcov_report.proofs.Telling.{same_conditions}

same_decision : (level : Level) (vs ws : List Vector) (entry : DecEntry) → AreAlike vs ws
    → decision_stretches level vs entry ≡ decision_stretches level ws entry
same_decision level vs ws entry h =
    ap (λ b. of_line entry.file entry.line b ∷ (if asks_pairs level then conditions_stretches level vs entry else [])) (same_covered (expr_of entry) vs ws h)
    ∙ ap (λ l. of_line entry.file entry.line (is_covered (expr_of entry) ws) ∷ (if asks_pairs level then l else [])) (same_conditions level vs ws entry h)

same_decisions : (level : Level) (xs ys : List Event) (decisions : List DecEntry) → AreAlike xs ys
    → decisions_stretches level (vectors_of xs) decisions ≡ decisions_stretches level (vectors_of ys) decisions
same_decisions level xs ys decisions h =
    same_found (λ d entry. decision_stretches level (vectors_of xs d) entry) (λ d entry. decision_stretches level (vectors_of ys d) entry) 0 decisions
    (λ i d entry e at. same_decision level (vectors_of xs d) (vectors_of ys d) entry (vectors_alike d xs ys h))

same_stretches : (level : Level) (obligations : Obligations) (xs ys : List Event) → AreAlike xs ys
    → all_stretches level obligations xs ≡ all_stretches level obligations ys
same_stretches level obligations xs ys h =
    let regions = obligations.regions in
    let decided : List Stretch → List Stretch = λ l. if asks_outcomes level then l else [] in
    ap (λ s. (statement_stretches s obligations.statements ++ decided (decisions_stretches level (vectors_of xs) obligations.decisions))
    ++ region_stretches regions (findings level obligations xs)) (same_started xs ys h)
    ∙ ap (λ l. (statement_stretches (is_started ys) obligations.statements ++ decided l) ++ region_stretches regions (findings level obligations xs))
    (same_decisions level xs ys obligations.decisions h)
    ∙ ap (λ f. (statement_stretches (is_started ys) obligations.statements
    ++ decided (decisions_stretches level (vectors_of ys) obligations.decisions)) ++ region_stretches regions f) (same_all level obligations xs ys h)

pub same_text : (level : Level) (obligations : Obligations) (traces : ℕ) (xs ys : List Event) (files : List SourceFile) → AreAlike xs ys
    → xcov_text level obligations traces xs files ≡ xcov_text level obligations traces ys files
same_text level obligations traces xs ys files h =
    ap (λ s. head_text level traces ++ files_text s files) (same_stretches level obligations xs ys h)
