-- A subprogram stands at the number of those that were made before it.
use Rattle.std.proofs.Common.{◌≡◌, ℕ, List, reverse, length, Option, Some, slice_get, ap, ◌∙◌, arith}
use Rattle.ada_meaning.specs.Program.{Program}
use Rattle.ada_rules.specs.Environment.{State}
use Rattle.ada_rules.specs.Library.{Library, all_bodies}
use Rattle.ada_rules.specs.Subprograms.{Profile}
use Rattle.legal_laws.proofs.KnownBodies.{reversed_length}
use Rattle.legal_programs.specs.Growing.{Extends}
use Rattle.legal_programs.specs.Made.{Makes}
use Rattle.legal_programs.specs.Walked.{IsLegal}
use Rattle.legal_programs.proofs.Counted.{states_of}
use Rattle.legal_programs.proofs.MainUnit.{made_stays, made_last}

module _ (l : Library) (main : List ℕ) (p : Program) (is : IsLegal l main p) where
  pub at_its_place : (generic : Option ℕ) (q : Profile) (before t : State) (h : Makes generic q before t) → Extends t is.walked.next
      → slice_get p.subprograms (length before.subprograms) ≡ Some h.made
  at_its_place generic q before t h more =
      ap (λ r. slice_get r.subprograms (length before.subprograms)) is.made
      ∙ made_stays t.subprograms is.walked.next.subprograms (length before.subprograms) h.made more.subprograms
      (ap (λ ss. slice_get (reverse ss) (length before.subprograms)) h.is_made ∙ made_last h.made before.subprograms)

  pub one_for_each : length p.subprograms ≡ length (all_bodies l.units)
  one_for_each =
      let states = states_of l main p is in
      let none = ap length states.seen.subprograms in
      let count = states.bodies.subprograms in
      ap (λ r. length r.subprograms) is.made ∙ (reversed_length is.walked.next.subprograms ∙ omega (arith, none, count))
