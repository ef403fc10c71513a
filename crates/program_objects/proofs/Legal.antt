-- Legal units can be compiled, and their object passes the checks and behaves.
use Rattle.std.proofs.Common.{◌≡◌, ◌≤◌, ◌*◌, ℕ, ◌<◌, length, map, List, sum_by, sym, ap, subst, ◌∙◌, arith}
use Rattle.std.proofs.lemmas.List.{length-map}
use Rattle.ada_meaning.specs.Collected.{labels_of, decisions_of}
use Rattle.ada_meaning.specs.Obligations.{ordered_labels, statement_entry, decision_entry}
use Rattle.ada_meaning.specs.Program.{Program}
use Rattle.ada_parser.specs.Opening.{open_extent}
use Rattle.ada_syntax.specs.Nodes.{unit_nodes}
use Rattle.ada_syntax.specs.declared.unit.Unit.{Unit as LibraryUnit}
use Rattle.legal_programs.specs.TextPlaces.{units_places}
use Rattle.parsed_texts.proofs.Decisions.{decisions_rise}
use Rattle.parsed_texts.proofs.Statements.{statements_rise}
use Rattle.program_objects.proofs.Images.{image_behaves, image_ends_in_time}
use Rattle.program_objects.proofs.Sound.{made_law}
use Rattle.program_objects.proofs.Statements.{entries_at, places_are_statements, decisions_stand}
use Rattle.program_objects.specs.Behaves.{Behaves, EndsInTime}
use Rattle.program_objects.specs.Compiled.{IsCompiled}
use Rattle.program_objects.specs.Made.{IsCompilable, IsMadeOf}
use Rattle.program_objects.specs.Texts.{AreUnitsOf, HasFewCopies, IsOfText}
use Rattle.program_objects.proofs.InstanceEntries.{instances_fit, instances_stand}
use Rattle.parsed_texts.specs.Parsed.{most_nodes_of_file}
use Rattle.program_objects.proofs.DecisionCounts.{decisions_few}
use Rattle.program_objects.proofs.LabelCounts.{labels_few}
use Rattle.cov_base.specs.Lists.{Everywhere}
use Rattle.program_objects.specs.Listed.{entry_at}
use Rattle.object_format.specs.Counts.{InstanceFits, AreCountable}
use Rattle.object_format.specs.Fields.{are_instances, are_statements, are_decisions}
use Rattle.object_format.specs.Read.{HasObject}
use Rattle.object_format.specs.declared.object.Object.{Object}

pub compilable_law : (files : ℕ) (units : List LibraryUnit) (p : Program) → IsOfText units p → HasFewCopies p → files ≤ 64
    → sum_by unit_nodes units ≤ files * most_nodes_of_file → IsCompilable p
compilable_law files units p text copies few counted =
    let nodes = text.nodes in
    let labelled = labels_few p.subprograms in
    let decided = decisions_few p.subprograms in
    record {
      numbered = text.numbered;
      in_order = text.statements_in_order;
      decisions_in_order = text.decisions_in_order;
      few_conditions = text.few_conditions;
      once = text.once;
      few_statements = omega (arith, labelled, few, nodes, counted);
      few_decisions = omega (arith, decided, few, nodes, counted);
      exceptions = text.exceptions;
      few_exceptions = copies.exceptions;
    }

-- the entries of its statements are those of the places of the text
entries_of : (units : List LibraryUnit) (p : Program) → IsOfText units p → map statement_entry (ordered_labels p) ≡ map entry_at (units_places units)
entries_of units p text =
    ap (map statement_entry) text.statements_in_order ∙ (entries_at (labels_of p.subprograms) ∙ ap (map entry_at) text.statements)

pub made_of : (files : ℕ) (units : List LibraryUnit) (main : List ℕ) (p : Program) (o : Object) → AreUnitsOf files units main p → IsOfText units p → HasFewCopies p
    → IsCompiled units p o → IsMadeOf p o
made_of files units main p o h text copies compiled =
    let hs = decisions_of p.subprograms in
    let count : length (labels_of p.subprograms) ≡ length (map entry_at (units_places units)) =
    sym (length-map (labels_of p.subprograms) (λ l. l.place)) ∙ (ap length text.statements ∙ sym (length-map (units_places units) entry_at)) in
    record {
      kernel = compiled.kernel;
      nodes = compiled.nodes;
      is_kernel = compiled.is_kernel;
      holds = compiled.holds;
      obligations = compiled.obligations;
      files = compiled.files;
      names = compiled.names;
      regions = compiled.regions;
      instances = ap (λ ob. are_instances (length o.files) ob.instances) compiled.obligations
          ∙ instances_stand (length o.files) units compiled.items p.instances text.instances copies.instances;
      instance_names = subst (λ ob. AreCountable InstanceFits ob.instances) (sym compiled.obligations)
          (instances_fit units p.instances text.instances copies.instances);
      statements = ap (λ ob. are_statements (length o.files) ob.statements) compiled.obligations
          ∙ (ap (are_statements (length o.files)) (entries_of units p text)
          ∙ places_are_statements (length o.files) (units_places units) (statements_rise open_extent files units h.read) compiled.places);
      decisions = ap (λ ob. are_decisions (length o.files) (length ob.statements) ob.decisions) compiled.obligations
          ∙ ((λ i. are_decisions (length o.files) (length (entries_of units p text i)) (map decision_entry (text.decisions_in_order i)))
          ∙ decisions_stand (length o.files) (length (map entry_at (units_places units))) hs _ _ text.decisions text.conditions text.few_conditions
          (subst (λ n. Everywhere (λ h. h.statement < n) hs) count text.held) (decisions_rise open_extent files units h.read) compiled.decisions compiled.conditions);
    }

module _ (files : ℕ) (units : List LibraryUnit) (main : List ℕ) (p : Program) (o : Object) (h : AreUnitsOf files units main p) (text : IsOfText units p)
    (copies : HasFewCopies p) (few : files ≤ 64) (counted : sum_by unit_nodes units ≤ files * most_nodes_of_file) (compiled : IsCompiled units p o) where
  able : IsCompilable p
  able = compilable_law files units p text copies few counted

  made : IsMadeOf p o
  made = made_of files units main p o h text copies compiled

  pub passes_law : HasObject o
  passes_law = made_law p o able made

  pub behaves_law : Behaves p o
  behaves_law = image_behaves p o able made passes_law.sound

  pub in_time_law : EndsInTime p o
  in_time_law = image_ends_in_time p o able made passes_law.sound
