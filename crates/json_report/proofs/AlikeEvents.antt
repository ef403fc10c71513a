-- The text depends on which events there are alone.
use Rattle.std.proofs.Common.{◌≡◌, ℕ, Bool, true, false, List, [], ◌∷◌, ap, ◌∙◌, if◌then◌else◌}
use Rattle.serde_json.specs.Data.{Data}
use Rattle.cov_base.specs.declared.event.Event.{Event}
use Rattle.cov_base.specs.declared.event.Vector.{Vector}
use Rattle.cov_base.specs.declared.level.Level.{Level}
use Rattle.cov_base.specs.declared.obligations.DecEntry.{DecEntry}
use Rattle.cov_base.specs.declared.obligations.Obligations.{Obligations}
use Rattle.cov_base.specs.declared.obligations.Place.{Place}
use Rattle.cov_base.specs.Expr.{Expr, size}
use Rattle.annotated_report.specs.declared.finding.Finding.{Finding}
use Rattle.annotated_report.specs.Findings.{asks_outcomes, asks_pairs, expr_of, findings}
use Rattle.annotated_report.specs.LeastPair.{kind_of, shown_pair}
use Rattle.annotated_report.specs.Members.{AreAlike}
use Rattle.annotated_report.specs.Verdicts.{is_started, vectors_of, gives}
use Rattle.annotated_report.proofs.Alike.{shown_texts, same_gives, same_started, same_all, vectors_alike}
use Rattle.annotated_report.proofs.LeastPairs.{least_pair_is}
use Rattle.annotated_report.proofs.Numbering.{same_found}
use Rattle.json_report.specs.Objects.{condition_object, asked_conditions, vector_values, decision_object, asked_decisions, region_objects, statement_objects}
use Rattle.json_report.specs.Text.{told_report, text_of, json_text}
use Rattle.json_report.proofs.Distinctness.{same_vectors}
use Rattle.json_report.proofs.Shown.{same_object, same_told}

same_conditions : (level : Level) (e : Expr) (vs ws : List Vector) (places : List Place) → AreAlike vs ws
    → asked_conditions level e vs places ≡ asked_conditions level e ws places
same_conditions level e vs ws places h =
    ap (λ (items : List Data). if asks_pairs level then items else [])
    (same_found (λ c place. condition_object (size e) place (shown_pair level e vs c) ∷ []) (λ c place. condition_object (size e) place (shown_pair level e ws c) ∷ []) 0 places
    (λ i c place eq at. ap (λ (d : Data). d ∷ [])
    (same_object (size e) place (shown_pair level e vs c) (shown_pair level e ws c)
    (shown_texts level e vs ws c (shown_pair level e vs c) h (least_pair_is (size e) (kind_of level e c) vs)))))

pub same_decision : (level : Level) (vs ws : List Vector) (entry : DecEntry) → AreAlike vs ws → decision_object level vs entry ≡ decision_object level ws entry
same_decision level vs ws entry h =
    let e = expr_of entry in
    same_told entry (gives e false vs) (gives e false ws) (gives e true vs) (gives e true ws)
    (asked_conditions level e vs entry.conditions) (asked_conditions level e ws entry.conditions) (vector_values (size e) vs) (vector_values (size e) ws)
    (same_gives e false vs ws h) (same_gives e true vs ws h) (same_conditions level e vs ws entry.conditions h) (same_vectors (size e) vs ws h)

same_decisions : (level : Level) (xs ys : List Event) (entries : List DecEntry) → AreAlike xs ys
    → asked_decisions level (vectors_of xs) entries ≡ asked_decisions level (vectors_of ys) entries
same_decisions level xs ys entries h =
    ap (λ (items : List Data). if asks_outcomes level then items else [])
    (same_found (λ d entry. decision_object level (vectors_of xs d) entry ∷ []) (λ d entry. decision_object level (vectors_of ys d) entry ∷ []) 0 entries
    (λ i d entry eq at. ap (λ (x : Data). x ∷ []) (same_decision level (vectors_of xs d) (vectors_of ys d) entry (vectors_alike d xs ys h))))

pub same_text : (level : Level) (obligations : Obligations) (traces : ℕ) (xs ys : List Event) (names : List (List ℕ)) → AreAlike xs ys
    → json_text level obligations traces xs names ≡ json_text level obligations traces ys names
same_text level obligations traces xs ys names h =
    ap (λ (d : List Data). text_of (told_report level traces names d (region_objects (findings level obligations xs) obligations.regions)
    (statement_objects (is_started xs) obligations.statements))) (same_decisions level xs ys obligations.decisions h)
    ∙ ap (λ (found : List Finding). text_of (told_report level traces names (asked_decisions level (vectors_of ys) obligations.decisions)
    (region_objects found obligations.regions) (statement_objects (is_started xs) obligations.statements))) (same_all level obligations xs ys h)
    ∙ ap (λ (started : ℕ → Bool). text_of (told_report level traces names (asked_decisions level (vectors_of ys) obligations.decisions)
    (region_objects (findings level obligations ys) obligations.regions) (statement_objects started obligations.statements))) (same_started xs ys h)
