-- Files that tell the same give the same output, and a consolidated file tells what the files do of which it was made.
use Rattle.std.proofs.Common.{◌≡◌, ◌↔◌, inl, ⊎_elim, ℕ, List, [], ◌∷◌, length, sym, ap, ◌∙◌}
use Rattle.cov_base.specs.declared.event.Event.{Event}
use Rattle.cov_base.specs.declared.level.Annotation.{Annotation}
use Rattle.cov_base.specs.declared.level.Level.{Level}
use Rattle.cov_base.specs.declared.obligations.SourceFile.{SourceFile}
use Rattle.cov_base.specs.Lists.{Somewhere}
use Rattle.coverage_set.proofs.OneFile.{one}
use Rattle.coverage_set.specs.Covered.{AreSame}
use Rattle.commands.specs.Content.{Made, IsTraceFor, Shows, Counts, Reports, ConsolidatesTo, file_lines}
use Rattle.commands.specs.Grouping.{TellSame}
use Rattle.commands.specs.Texts.{coverage_text}
use Rattle.commands.proofs.TextLaws.{same_events}
use Rattle.commands.proofs.CoveringLaws.{as_consolidated}
use Rattle.commands.proofs.FileLaws.{file_fits, file_kind, file_lists, file_shows, shown_possible}
use Rattle.commands.proofs.RunsLaw.{back, same_count, through}
use Rattle.object_format.specs.Checked.{IsSound}
use Rattle.object_format.specs.declared.object.Object.{Object}

-- the coverages that both are files of stand for the same
same_covered : (o : Object) (xs ys : List (List ℕ)) (a b : Made) → TellSame o xs ys → (f : ConsolidatesTo o xs a) → (g : ConsolidatesTo o ys b)
    → AreSame f.covered g.covered
same_covered o xs ys a b same f g = record {
  object = f.stands.object ∙ sym g.stands.object;
  runs = λ d. through (f.stands.runs d) (through (same.runs d) (back (g.stands.runs d)));
  events = λ e. through (f.stands.events e) (through (same.events e) (back (g.stands.events e)));
}

pub one_consolidation : (o : Object) (xs ys : List (List ℕ)) (a b : Made) → TellSame o xs ys → ConsolidatesTo o xs a → ConsolidatesTo o ys b → a ≡ b
one_consolidation o xs ys a b same f g =
    let covered = same_covered o xs ys a b same f g in
    let file : a.file ≡ b.file = one f.covered g.covered a.file b.file covered f.tells.file g.tells.file in
    let digests : (d : List ℕ) → Somewhere (λ x. x ≡ d) f.tells.counted.digests ↔ Somewhere (λ x. x ≡ d) g.tells.counted.digests =
    λ d. through (f.tells.counted.all d) (through (covered.runs d) (back (g.tells.counted.all d))) in
    let count : f.tells.count ≡ g.tells.count =
    f.tells.counted.long
    ∙ same_count f.tells.counted.digests g.tells.counted.digests f.tells.counted.each_once g.tells.counted.each_once digests
    ∙ sym g.tells.counted.long in
    let text : a.text ≡ b.text =
    f.tells.told ∙ ap (λ (n : ℕ). file_lines n a.file) count ∙ ap (λ (bytes : List ℕ). file_lines g.tells.count bytes) file ∙ sym g.tells.told in
    λ k. record { file = file k; text = text k }

pub one_report : (level : Level) (annotation : Annotation) (o : Object) (xs ys : List (List ℕ)) (sources : List SourceFile) (a b : List ℕ) → TellSame o xs ys
    → Reports level annotation o sources xs a → Reports level annotation o sources ys b → a ≡ b
one_report level annotation o xs ys sources a b same f g =
    let p = f.report in
    let q = g.report in
    let shown : (e : Event) → Somewhere (λ x. x ≡ e) p.events ↔ Somewhere (λ x. x ≡ e) q.events =
    λ e. through (p.all_events e) (through (same.events e) (back (q.all_events e))) in
    let counted : (d : List ℕ) → Somewhere (λ x. x ≡ d) p.digests ↔ Somewhere (λ x. x ≡ d) q.digests =
    λ d. through (p.all_digests d) (through (same.runs d) (back (q.all_digests d))) in
    p.told
    ∙ same_events annotation level o.obligations (length p.digests) p.events q.events sources (λ e there. (shown e).0 there, λ e there. (shown e).1 there)
    ∙ ap (λ (n : ℕ). coverage_text annotation level o.obligations n q.events sources) (same_count p.digests q.digests p.each_once q.each_once counted)
    ∙ sym q.told

-- one of a list of one
alone : {X : Type 0} (P : X → Type 0) (x : X) → P x ↔ Somewhere P (x ∷ [])
alone P x = (λ p. inl p, λ s. ⊎_elim (λ p. p) (λ none. absurd none) s)

pub it_stands : (o : Object) (xs : List (List ℕ)) (made : Made) → ConsolidatesTo o xs made → TellSame o xs (made.file ∷ [])
it_stands o xs made f = record {
  events = λ e.
      through (back (f.stands.events e)) (through (back (file_shows o f.covered made.file e f.tells.file)) (alone (λ bytes. Shows o bytes e) made.file));
  runs = λ d. through (back (f.stands.runs d)) (through (back (file_lists f.covered made.file d f.tells.file)) (alone (Counts d) made.file));
}

pub it_is_taken : (o : Object) (xs : List (List ℕ)) (made : Made) → IsSound o → ConsolidatesTo o xs made → IsTraceFor o made.file
it_is_taken o xs made sound f =
    as_consolidated made.file (file_kind f.covered made.file f.tells.file)
    (file_fits o f.covered made.file f.stands.object (λ e has. shown_possible o xs e sound f.fit ((f.stands.events e).0 has)) f.tells.file)
