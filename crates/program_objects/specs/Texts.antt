-- What the grammar and the rules ensure of programs, by the text of their units.
use Rattle.std.specs.Prelude.{◌≡◌, ◌<◌, ◌≤◌, ℕ, true, List, length, map, sum_by, slice_get, Some}
use Rattle.ada_meaning.specs.Bodies.{StandsIn}
use Rattle.ada_meaning.specs.Collected.{condition_places, labels_of, decisions_of}
use Rattle.ada_meaning.specs.Obligations.{IsNumbered, ordered_labels, ordered_decisions}
use Rattle.ada_meaning.specs.Program.{Program, Subprogram}
use Rattle.ada_meaning.specs.Statics.{values_of}
use Rattle.ada_meaning.specs.Tree.{shape_of, conditions_of}
use Rattle.ada_meaning.specs.WellFormed.{IsWellFormed}
use Rattle.ada_parser.specs.Opening.{open_extent}
use Rattle.ada_resolved.specs.Library.{program_size}
use Rattle.ada_resolved.specs.Sizes.{type_size}
use Rattle.ada_syntax.specs.Nodes.{unit_nodes}
use Rattle.ada_syntax.specs.declared.unit.Unit.{Unit as LibraryUnit}
use Rattle.cov_base.specs.Expr.{negates_once}
use Rattle.cov_base.specs.Lists.{Everywhere}
use Rattle.parsed_texts.specs.legal_counts.specs.ObjectWords.{words_of_objects}
use Rattle.parsed_texts.specs.legal_counts.specs.ConditionPlaces.{units_conditions}
use Rattle.legal_programs.specs.DecisionPlaces.{units_decisions}
use Rattle.legal_programs.specs.TextPlaces.{units_places}
use Rattle.lower.specs.Standing.{IsSized, most_declared_words}
use Rattle.parsed_texts.specs.Parsed.{AreOfFiles}
use Rattle.parsed_texts.specs.legal_names.specs.Named.{IsOfUnits}
use Rattle.statement_code.specs.Sizes.{subprogram_nodes}
use Rattle.program_objects.specs.Legal.{AreProgram}
use Rattle.program_objects.specs.Made.{IsExceptionName, exceptions_in}

-- units of so many files, and the program that they are; the main procedure's name is in lower case
pub record AreUnitsOf (files : ℕ) (units : List LibraryUnit) (main : List ℕ) (p : Program) : Type 0 where
  pub read : AreOfFiles open_extent files units
  pub program : AreProgram units main p

-- The program stands in the text of its units. Its statements and its decisions stand at the places of the text, in its order, and are
-- numbered so; each decision has the conditions of its text, of which there are at most 32, no `not` stands directly in another, and one of the
-- statements holds it; each node has a token that counts; each instance has a name, and stands where the item of a unit does; and each exception
-- has a name.
pub record IsOfText (units : List LibraryUnit) (p : Program) : Type 0 where
  pub numbered : IsNumbered p
  pub statements : map (λ l. l.place) (labels_of p.subprograms) ≡ units_places units
  pub statements_in_order : ordered_labels p ≡ labels_of p.subprograms
  pub decisions : map (λ h. h.label.place) (decisions_of p.subprograms) ≡ units_decisions units
  pub decisions_in_order : ordered_decisions p ≡ decisions_of p.subprograms
  pub conditions : map (λ h. condition_places h.test) (decisions_of p.subprograms) ≡ units_conditions units
  pub few_conditions : Everywhere (λ h. conditions_of h.test ≤ 32) (decisions_of p.subprograms)
  pub once : Everywhere (λ h. negates_once (shape_of h.test) ≡ true) (decisions_of p.subprograms)
  pub held : Everywhere (λ h. h.statement < length (labels_of p.subprograms)) (decisions_of p.subprograms)
  pub nodes : sum_by subprogram_nodes p.subprograms ≤ sum_by unit_nodes units
  pub instances : Everywhere (IsOfUnits units) p.instances
  pub exceptions : Everywhere IsExceptionName (exceptions_in p)

-- The limits on instances and on nodes hold of the program's copies: it has at most 64 instances; a body has at most 4,096 nodes, if there is a
-- copy of it; and there are no more exceptions than that, those of a generic counted in each of its instances.
pub record HasFewCopies (p : Program) : Type 0 where
  pub instances : length p.instances ≤ 64
  pub bodies : (m inst : ℕ) (s : Subprogram) → slice_get p.subprograms m ≡ Some s → StandsIn p s.generic inst → subprogram_nodes s ≤ 4096
  pub exceptions : length (exceptions_in p) ≤ 4096

-- The program is well-formed; the objects of each subprogram have sizes, in each instance in which it stands, and take few words; and the
-- library level has a size.
pub record HasSizes (p : Program) : Type 0 where
  pub well : IsWellFormed p
  pub sized : (m inst : ℕ) (s : Subprogram) → slice_get p.subprograms m ≡ Some s → StandsIn p s.generic inst
      → Everywhere (λ t. IsSized (type_size (values_of p) inst t)) s.objects
  pub declared : (m inst : ℕ) (s : Subprogram) → slice_get p.subprograms m ≡ Some s → StandsIn p s.generic inst
      → words_of_objects p inst s.objects ≤ most_declared_words
  pub library : IsSized (program_size p)
