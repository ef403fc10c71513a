-- A legal program stands in the text of its units.
use Rattle.std.proofs.Common.{◌≡◌, ℕ, if◌then◌else◌, length, List, [], ◌∷◌, map, refl, sym, ap, ◌∙◌, subst}
use Rattle.cov_base.specs.TextOrder.{precedes}
use Rattle.cov_base.specs.declared.position.Pos.{Pos}
use Rattle.ada_syntax.specs.declared.unit.Unit.{Unit as LibraryUnit}
use Rattle.ada_meaning.specs.Tree.{Label}
use Rattle.ada_meaning.specs.Collected.{Decision, labels_of, decisions_of}
use Rattle.ada_meaning.specs.Obligations.{inserted, in_order, ordered_labels, ordered_decisions, numbers}
use Rattle.ada_meaning.specs.Program.{Program}
use Rattle.parsed_texts.specs.legal_counts.proofs.ConditionUnits.{conditions_placed}
use Rattle.parsed_texts.specs.legal_counts.proofs.HeldDecisions.{all_held}
use Rattle.parsed_texts.specs.legal_counts.proofs.NodesOfUnits.{few_nodes}
use Rattle.parsed_texts.specs.legal_names.proofs.Programs.{names_of}
use Rattle.legal_programs.specs.DecisionPlaces.{units_decisions}
use Rattle.legal_programs.specs.InText.{IsBehind, Rise}
use Rattle.legal_programs.specs.TextPlaces.{units_places}
use Rattle.legal_programs.specs.Walked.{IsLegal}
use Rattle.legal_programs.proofs.DecidedPrograms.{numbered, whole_is_whole, decisions_narrow}
use Rattle.legal_programs.proofs.Passed.{is_legal}
use Rattle.legal_programs.proofs.PlacedDecisionUnits.{decisions_placed}
use Rattle.parsed_texts.proofs.Choices.{texts_have_choices}
use Rattle.parsed_texts.proofs.Decisions.{decisions_rise}
use Rattle.parsed_texts.proofs.Spelling.{spelled_of}
use Rattle.parsed_texts.proofs.Statements.{statements_rise_weakly}
use Rattle.parsed_texts.proofs.Texts.{texts_of}
use Rattle.ada_parser.specs.Opening.{open_extent}
use Rattle.program_weights.specs.Wholes.{whole_library}
use Rattle.program_objects.specs.Texts.{AreUnitsOf, IsOfText}
use Rattle.program_objects.proofs.ExceptionNames.{names_law}

-- what stands in order stays in order
first_stays : {X : Type 0} (place : X → Pos) (x : X) (ys : List X) → IsBehind (place x) (map place ys)
    → inserted (λ a b. precedes (place a) (place b)) x ys ≡ (x ∷ ys)
first_stays place x [] k = refl
first_stays place x (y ∷ ys) k = ap (λ b. if b then y ∷ inserted (λ a c. precedes (place a) (place c)) x ys else x ∷ y ∷ ys) k

rise_stays : {X : Type 0} (place : X → Pos) (xs : List X) → Rise (map place xs) → in_order (λ a b. precedes (place a) (place b)) xs ≡ xs
rise_stays place [] h = refl
rise_stays place (x ∷ xs) h =
    ap (inserted (λ a b. precedes (place a) (place b)) x) (rise_stays place xs h.1) ∙ first_stays place x xs h.0

module _ (files : ℕ) (units : List LibraryUnit) (main : List ℕ) (p : Program) (h : AreUnitsOf files units main p) where
  is : IsLegal (whole_library units) main p
  is = is_legal (whole_library units) main p h.program.legal

  rises : Rise (units_places units)
  rises = statements_rise_weakly open_extent files units h.read

  decisions_rise_so : Rise (units_decisions units)
  decisions_rise_so = decisions_rise open_extent files units h.read

  at_places : map (λ d. d.label.place) (decisions_of p.subprograms) ≡ units_decisions units
  at_places = decisions_placed (whole_library units) main p is whole_is_whole

  decisions_stay : ordered_decisions p ≡ decisions_of p.subprograms
  decisions_stay = rise_stays (λ (d : Decision). d.label.place) (decisions_of p.subprograms) (subst Rise (sym at_places) decisions_rise_so)

  -- with the places of its statements, and their numbers
  module _ (placed : map (λ l. l.place) (labels_of p.subprograms) ≡ units_places units)
      (labelled : map (λ l. l.number) (labels_of p.subprograms) ≡ numbers 0 (length (labels_of p.subprograms))) where
    stay : ordered_labels p ≡ labels_of p.subprograms
    stay = rise_stays (λ (l : Label). l.place) (labels_of p.subprograms) (subst Rise (sym placed) rises)

    pub text_law : IsOfText units p
    text_law =
        let conditions = conditions_placed (whole_library units) main p is whole_is_whole in
        let names = names_of (whole_library units) main p is (spelled_of open_extent files units h.read) in
        record {
          numbered = numbered (whole_library units) main p is whole_is_whole (record { statements = rises; decisions = subst Rise (sym at_places) decisions_rise_so });
          statements = placed;
          statements_in_order = stay;
          decisions = at_places;
          decisions_in_order = decisions_stay;
          conditions = conditions.0;
          few_conditions = decisions_narrow (whole_library units) main p is whole_is_whole;
          once = conditions.1;
          held = all_held p.subprograms labelled;
          nodes = few_nodes (whole_library units) main p is whole_is_whole (texts_have_choices units (texts_of open_extent files units h.read));
          instances = names.instances;
          exceptions = names_law units p names;
        }
