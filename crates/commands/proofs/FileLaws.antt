-- What a consolidated file shows, and that it can be one of the object's runs.
use Rattle.std.proofs.Common.{◌≡◌, ◌↔◌, inl, inr, ⊎_elim, ℕ, suc, zero, Bool, true, false, arith, List, [], ◌∷◌, length, Ok, refl, sym, ap, subst, ◌∙◌}
use Rattle.std.specs.List.{AllByRecursion}
use Rattle.cov_base.specs.declared.event.Event.{Event}
use Rattle.cov_base.specs.Lists.{Somewhere}
use Rattle.coverage_set.proofs.OneFile.{listed_file, says_one}
use Rattle.coverage_set.proofs.Possible.{listed_possible, said_possible}
use Rattle.coverage_set.specs.Consolidated.{start_of, done_of, events_in, HasRow, IsPossible, IsPossibleEvent, AreBefore}
use Rattle.coverage_set.specs.Covered.{Covered, Has, HasRun, AreSame}
use Rattle.coverage_set.specs.Written.{IsFileOf}
use Rattle.commands.specs.Content.{is_consolidated, IsConsolidatedFor, IsTraceFor, Shows, Counts}
use Rattle.commands.proofs.CoveringLaws.{as_consolidated, listed_is}
use Rattle.object_format.specs.Checked.{IsSound}
use Rattle.object_format.specs.declared.object.Object.{Object}
use Rattle.trace_format.proofs.ConsolidatedLaws.{consolidated_again}
use Rattle.trace_format.specs.Consolidated.{Consolidated, ConsolidatedFile, consolidated_in}
use Rattle.trace_format.specs.ConsolidatedChecks.{consolidated_of}
use Rattle.trace_format.specs.ConsolidatedFormats.{consolidated_spelling}

-- the bytes of a consolidated file begin as one does
kind_of_spelling : (bytes : List ℕ) (f : Consolidated) → bytes ≡ consolidated_spelling f → is_consolidated bytes ≡ true
kind_of_spelling bytes f is = ap is_consolidated is ∙ such
  where
    such : is_consolidated (consolidated_spelling f) ≡ true
    such = refl

pub file_kind : (c : Covered) (bytes : List ℕ) → IsFileOf c bytes → is_consolidated bytes ≡ true
file_kind c bytes is = kind_of_spelling bytes (consolidated_in is.file) is.spelled

-- what the file of a coverage is read as
pub file_read : (c : Covered) (bytes : List ℕ) → (is : IsFileOf c bytes) → consolidated_of bytes ≡ Ok is.file
file_read c bytes is = ap consolidated_of is.spelled ∙ consolidated_again is.file is.sealed

-- what its lists say
abbrev as_listed : (c : Covered) → ConsolidatedFile → Covered
as_listed c f = record { object = c.object; runs = f.runs; events = events_in f }

same_as_listed : (c : Covered) (bytes : List ℕ) → (is : IsFileOf c bytes) → AreSame c (as_listed c is.file)
same_as_listed c bytes is =
    says_one c (as_listed c is.file) bytes refl is
    (listed_file is.file (as_listed c is.file) bytes is.sealed is.spelled is.object (λ d. (λ x. x, λ x. x)) (λ e. (λ x. x, λ x. x)))

-- the file of a coverage shows what it has
pub file_shows : (o : Object) (c : Covered) (bytes : List ℕ) (e : Event) → IsFileOf c bytes → Shows o bytes e ↔ Has c e
file_shows o c bytes e is =
    let kind = file_kind c bytes is in
    let read = file_read c bytes is in
    let same = (same_as_listed c bytes is).events e in (
      λ s. let shown = s.consolidated kind in
          same.1 (subst (λ (f : ConsolidatedFile). Somewhere (λ x. x ≡ e) (events_in f)) (listed_is shown.0 is.file (sym shown.1 ∙ read)) shown.2),
      λ has. as_consolidated bytes kind (is.file, read, same.0 has),
    )

pub file_lists : (c : Covered) (bytes digest : List ℕ) → IsFileOf c bytes → Counts digest bytes ↔ HasRun c digest
file_lists c bytes digest is =
    let kind = file_kind c bytes is in
    let read = file_read c bytes is in
    let same = is.runs digest in (
      λ s. let shown = s.consolidated kind in
          same.0 (subst (λ (f : ConsolidatedFile). Somewhere (λ x. x ≡ digest) f.runs) (listed_is shown.0 is.file (sym shown.1 ∙ read)) shown.2),
      λ has. as_consolidated bytes kind (is.file, read, same.1 has),
    )

-- each of them is so, where each that is among them is so
before_by : {X : Type 0} (P : X → Type 0) (xs : List X) → ((x : X) → Somewhere (λ y. y ≡ x) xs → P x) → (n : ℕ) → AreBefore P xs n
before_by P [] so n i below = tt
before_by P (x ∷ xs) so n zero below = so x (inl refl)
before_by P (x ∷ xs) so n (suc i) below = before_by P xs (λ y there. so y (inr there)) n i (omega (arith, below))

-- the file of a coverage passes all checks, where runs of the object can have its events
pub file_fits : (o : Object) (c : Covered) (bytes : List ℕ) → c.object ≡ o → ((e : Event) → Has c e → IsPossibleEvent o e) → IsFileOf c bytes
    → IsConsolidatedFor o bytes
file_fits o c bytes own possible is = record {
  file = is.file;
  read = file_read c bytes is;
  fits = record {
    own = is.object ∙ ap (λ (x : Object). x.closing) own;
    starts = before_by (HasRow o) is.file.starts (λ s there. possible (start_of s) ((is.starts s).0 there)) (length is.file.starts);
    vectors = before_by (IsPossible o) is.file.vectors (λ v there. possible (done_of v) ((is.vectors v).0 there)) (length is.file.vectors);
  };
}

-- runs of the object can have what a file shows that passes all checks
one_possible : (o : Object) (bytes : List ℕ) (e : Event) → IsSound o → IsTraceFor o bytes → Shows o bytes e → IsPossibleEvent o e
one_possible o bytes e sound fit shows = by_kind (is_consolidated bytes) refl
  where
    by_kind : (b : Bool) → is_consolidated bytes ≡ b → IsPossibleEvent o e
    by_kind true kind =
        let shown = shows.consolidated kind in
        let is = fit.consolidated kind in
        listed_possible o is.file is.fits e
        (subst (λ (f : ConsolidatedFile). Somewhere (λ x. x ≡ e) (events_in f)) (listed_is shown.0 is.file (sym shown.1 ∙ is.read)) shown.2)
    by_kind false kind = let shown = shows.trace kind in said_possible o sound shown.0 e shown.2

pub shown_possible : (o : Object) (files : List (List ℕ)) (e : Event) → IsSound o → AllByRecursion (IsTraceFor o) files
    → Somewhere (λ bytes. Shows o bytes e) files → IsPossibleEvent o e
shown_possible o [] e sound fit some = absurd some
shown_possible o (bytes ∷ files) e sound fit some =
    ⊎_elim (λ here. one_possible o bytes e sound fit.0 here) (λ there. shown_possible o files e sound fit.1 there) some
