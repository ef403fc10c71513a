-- Legal programs have sizes, and can be laid out.
use Rattle.std.proofs.Common.{◌≡◌, ℕ, ◌+◌, ◌≤◌, List, [], ◌∷◌, length, map, Some, slice_get, refl, sym, ap, ◌∙◌, subst, arith}
use Rattle.std.specs.Prelude.{option_map}
use Rattle.std.proofs.lemmas.List.{length-map}
use Rattle.std.proofs.lemmas.Option.{slice_get-map}
use Rattle.cov_base.specs.Lists.{Everywhere}
use Rattle.ada_syntax.specs.declared.unit.Unit.{Unit as LibraryUnit}
use Rattle.ada_meaning.specs.Bodies.{StandsIn}
use Rattle.ada_meaning.specs.Obligations.{ListedException, ordered_exceptions}
use Rattle.ada_meaning.specs.Program as meaning
use Rattle.ada_meaning.specs.Statics.{InstanceValues, values_of}
use Rattle.ada_meaning.specs.Types as type
use Rattle.ada_meaning.specs.WellFormed.{IsWellFormed}
use Rattle.ada_parser.specs.Opening.{open_extent}
use Rattle.ada_resolved.specs.Library.{program_size}
use Rattle.ada_resolved.specs.Sizes.{type_size, words}
use Rattle.ada_tree.specs.declared.program.Program.{Program}
use Rattle.ada_tree.specs.declared.program.Subprogram.{Subprogram}
use Rattle.ada_tree.specs.declared.types.Subtype.{Subtype}
use Rattle.ada_tree.specs.Programs.{program_of, raisable_of, subprogram_of, types_of, unfolded}
use Rattle.ada_tree.specs.View as view
use Rattle.generic_expand.proofs.Weighing.{few_nodes}
use Rattle.generic_expand.specs.Limits.{node_count}
use Rattle.parsed_texts.specs.legal_counts.specs.ObjectWords as text
use Rattle.parsed_texts.specs.legal_instances.specs.InOrder.{UnitsRise}
use Rattle.legal_laws.specs.Bounded.{IsBounded, AreObjectsBounded}
use Rattle.legal_programs.specs.DecisionPlaces.{units_decisions}
use Rattle.legal_programs.specs.InText.{Rise}
use Rattle.legal_programs.specs.TextPlaces.{units_places}
use Rattle.parsed_texts.specs.legal_texts.specs.UnitTexts.{AreUnitTexts}
use Rattle.lower.specs.Standing.{AreTypesNamed, IsSized, IsWithinLimits, most_declared_words, size_of, words_of_objects}
use Rattle.lower.proofs.LaidObjects.{named_known}
use Rattle.parsed_texts.proofs.Decisions.{decisions_rise}
use Rattle.parsed_texts.proofs.Statements.{statements_rise_weakly, units_rise}
use Rattle.parsed_texts.proofs.Texts.{texts_of}
use Rattle.program_objects.specs.Kernels.{CanBeLaid, nodes_of}
use Rattle.program_objects.specs.Made.{exceptions_in}
use Rattle.program_objects.specs.Legal.{entries_for}
use Rattle.program_objects.specs.Texts.{AreUnitsOf, HasFewCopies, HasSizes}
use Rattle.program_objects.proofs.UnfoldedSizes.{block_alike}

-- where types have the sizes that the rules count, they have sizes
sized_by : (v : InstanceValues) (inst : ℕ) (counts : type.Subtype → ℕ) (ts : List type.Subtype) → Everywhere (λ t. type_size v inst t ≡ Some (counts t)) ts
    → Everywhere (λ t. IsSized (type_size v inst t)) ts
sized_by v inst counts [] h = tt
sized_by v inst counts (t ∷ ts) h = (subst IsSized (sym h.0) tt, sized_by v inst counts ts h.1)

-- what laws on the text of such programs say of this one
pub record Laws (units : List LibraryUnit) (main : List ℕ) (p : meaning.Program) : Type 0 where
  pub well : UnitsRise units → Rise (units_places units) → Rise (units_decisions units) → AreUnitTexts units → IsWellFormed p
  pub bounded : UnitsRise units → AreUnitTexts units → AreObjectsBounded p
  pub sized : UnitsRise units → (m inst : ℕ) (s : meaning.Subprogram) → slice_get p.subprograms m ≡ Some s → StandsIn p s.generic inst
      → Everywhere (IsBounded p inst) s.objects → (counts : type.Subtype → ℕ) × Everywhere (λ t. type_size (values_of p) inst t ≡ Some (counts t)) s.objects
  pub declared : UnitsRise units → (m inst : ℕ) (s : meaning.Subprogram) → slice_get p.subprograms m ≡ Some s → StandsIn p s.generic inst
      → Everywhere (IsBounded p inst) s.objects → text.words_of_objects p inst s.objects ≤ most_declared_words
  pub library : UnitsRise units → AreUnitTexts units → IsSized (program_size p)

pub sizes_law : (files : ℕ) (units : List LibraryUnit) (main : List ℕ) (p : meaning.Program) → AreUnitsOf files units main p → Laws units main p → HasSizes p
sizes_law files units main p h laws =
    let statements = statements_rise_weakly open_extent files units h.read in
    let decisions = decisions_rise open_extent files units h.read in
    let texts = texts_of open_extent files units h.read in
    let rise = units_rise open_extent files units h.read in
    let well = laws.well rise statements decisions texts in
    let bounded = laws.bounded rise texts in
    record {
      well = well;
      sized = λ m inst s at stands.
          let counted = laws.sized rise m inst s at stands (bounded m inst s at stands) in
          sized_by (values_of p) inst counted.0 s.objects counted.1;
      declared = λ m inst s at stands. laws.declared rise m inst s at stands (bounded m inst s at stands);
      library = laws.library rise texts;
    }

module _ (t : Program) (known : HasSizes (program_of t)) where
  seen_at : (m : ℕ) (s : Subprogram) → slice_get t.subprograms m ≡ Some s → slice_get (program_of t).subprograms m ≡ Some (subprogram_of (types_of t.types) s)
  seen_at m s at = slice_get-map (subprogram_of (types_of t.types)) t.subprograms m ∙ ap (option_map (subprogram_of (types_of t.types))) at

  abbrev meant : Subtype → type.Subtype
  meant o = unfolded (types_of t.types) (view.subtype_of o)

  objects_sized : (inst : ℕ) (os : List Subtype) → Everywhere (λ o. IsSized (type_size (values_of (program_of t)) inst o)) (map meant os)
      → Everywhere (λ o. IsSized (size_of t inst o)) os
  objects_sized inst [] h = tt
  objects_sized inst (o ∷ os) h = (h.0, objects_sized inst os h.1)

  objects_words : (inst : ℕ) (os : List Subtype) → words_of_objects t inst os ≡ text.words_of_objects (program_of t) inst (map meant os)
  objects_words inst [] = refl
  objects_words inst (o ∷ os) = λ i. words (named_known t inst o i) + objects_words inst os i

  pub limits_law : HasFewCopies (program_of t) → IsWithinLimits t
  limits_law copies = record {
    sized = λ m inst s at stands. objects_sized inst s.objects (known.sized m inst (subprogram_of (types_of t.types) s) (seen_at m s at) stands);
    declared = λ m inst s at stands.
        subst (λ n. n ≤ most_declared_words) (sym (objects_words inst s.objects)) (known.declared m inst (subprogram_of (types_of t.types) s) (seen_at m s at) stands);
    library = known.library;
    nodes = λ m inst s at stands.
        let few = copies.bodies m inst (subprogram_of (types_of t.types) s) (seen_at m s at) stands in
        omega (arith, few, block_alike (types_of t.types) s.body);
    exceptions = let few = copies.exceptions in omega (arith, counted, few);
  }
    where
      counted : length t.exceptions ≡ length (exceptions_in (program_of t))
      counted =
          sym (length-map t.exceptions raisable_of)
          ∙ (ap (λ (xs : List meaning.Raisable). length xs) known.well.numbered.exceptions
          ∙ (length-map (ordered_exceptions (program_of t)) (λ (x : ListedException). x.entry)
          ∙ sym (length-map (ordered_exceptions (program_of t)) (λ (x : ListedException). x.name))))

pub laid_law : (files : ℕ) (units : List LibraryUnit) (main : List ℕ) (t : Program) → AreUnitsOf files units main (program_of t) → HasFewCopies (program_of t)
    → HasSizes (program_of t) → AreTypesNamed t → nodes_of t ≤ node_count (entries_for units main) → CanBeLaid t
laid_law files units main t h copies known named light = record {
  well = known.well;
  named = named;
  limits = limits_law t known copies;
  light = omega (arith, few_nodes (entries_for units main) h.program.few, light);
}
