-- The final program of a legal library serves each state of its walk.
use Rattle.std.proofs.Common.{◌≡◌, ℕ, List, [], map, Option, None, refl, sym, ap, subst}
use Rattle.cov_base.specs.Lists.{Somewhere}
use Rattle.ada_meaning.specs.Bodies.{StandsIn}
use Rattle.ada_meaning.specs.Obligations.{ordered_exceptions}
use Rattle.ada_meaning.specs.Program.{ExceptionDeclaration, Program}
use Rattle.ada_rules.specs.Environment.{World, State}
use Rattle.ada_rules.specs.Library.{Library}
use Rattle.ada_rules.specs.Legal.{program_of}
use Rattle.ada_rules.specs.Limits.{first_declared, first_place, first_unit, first_excess, earlier_of, most_words_of_type, most_words_of_subprogram}
use Rattle.ada_syntax.specs.declared.unit.Unit.{Unit as LibraryUnit}
use Rattle.legal_laws.specs.Served.{HaveOwnValues}
use Rattle.legal_programs.specs.Final.{IsServed}
use Rattle.legal_programs.specs.Growing.{Extends}
use Rattle.legal_programs.specs.Looked.{IsLookedAt}
use Rattle.legal_programs.specs.Walked.{IsLegal}
use Rattle.legal_programs.proofs.Limited.{both_none, no_place}
use Rattle.legal_programs.proofs.Serving.{serves_before, listed_before, final_serves, are_listed, somewhere_reversed}

-- the counts that pass no limit
pub record NoneExceeded (w : World) (s : State) : Type 0 where
  pub places : s.excesses ≡ []
  pub types : first_declared w.instances most_words_of_type s.types_declared ≡ None
  pub subprograms : first_declared w.instances most_words_of_subprogram s.subprogram_words ≡ None

pub none_exceeded : (w : World) (s : State) (units : List LibraryUnit) → first_excess w s units ≡ None → NoneExceeded w s
none_exceeded w s units h =
    let words = earlier_of (first_declared w.instances most_words_of_subprogram s.subprogram_words) (first_unit w s.unit_words 0 0 units) in
    let types = earlier_of (first_declared w.instances most_words_of_type s.types_declared) words in
    let first = both_none (first_place s.excesses) types h in
    let second = both_none (first_declared w.instances most_words_of_type s.types_declared) words first.1 in
    let third = both_none (first_declared w.instances most_words_of_subprogram s.subprogram_words) (first_unit w s.unit_words 0 0 units) second.1 in
    record { places = no_place s.excesses first.0; types = second.0; subprograms = third.0 }

module _ (l : Library) (main : List ℕ) (p : Program) (is : IsLegal l main p) (o : Option ℕ) (inst : ℕ) where
  abbrev last : State
  last = is.walked.next

  all_declared : (e : ExceptionDeclaration) → Somewhere (λ d. d ≡ e) last.exceptions_declared → Somewhere (λ d. d ≡ e) p.declared
  all_declared e h = subst (λ ds. Somewhere (λ d. d ≡ e) ds) (sym (ap (λ q. q.declared) is.made)) (somewhere_reversed (λ d. d ≡ e) last.exceptions_declared h)

  pub final_served : IsLookedAt is.walked.world.instances last.demands o inst → StandsIn p o inst
      → HaveOwnValues is.walked.world.instances inst o last.constants_declared → (s : State) → Extends s last → IsServed is.walked.world.instances p o inst s
  final_served looked stands values s more =
      let limits = none_exceeded is.walked.world last l.units is.limited in (
        serves_before is.walked.world.instances inst o s last more (final_serves is.walked.world.instances inst o last is.met limits.types looked values),
        λ shape_of. listed_before is.walked.world.instances inst p shape_of o s last more
            (are_listed is.walked.world.instances p shape_of (exceptions_are is.made) o inst stands last.exceptions_declared all_declared),
      )
    where
      exceptions_are : p ≡ program_of is.walked.world last main → p.exceptions ≡ map (λ x. x.entry) (ordered_exceptions p)
      exceptions_are e = subst (λ q. q.exceptions ≡ map (λ x. x.entry) (ordered_exceptions q)) (sym e) refl
