-- What an object begins with: the shape of its type, and the type's layout, by the subtype that a text names.
use Rattle.std.proofs.Common.{◌≡◌, ℕ, ◌+◌, ◌<◌, ◌≤◌, List, [], ◌∷◌, ◌++◌, length, Option, Some, None, refl, sym, ap, subst, ◌∙◌, arith, length-append}
use Rattle.std.proofs.lemmas.List.{take_all}
use Rattle.ada_meaning.specs.Program.{Bounds}
use Rattle.ada_meaning.specs.Resolved.{owner_in, bounds_in, shape_in}
use Rattle.ada_meaning.specs.Shape.{Shape, word, row, group}
use Rattle.ada_meaning.specs.Types as type
use Rattle.ada_meaning.specs.WellFormed.{IsType}
use Rattle.ada_tree.specs.declared.program.Program.{Program}
use Rattle.ada_tree.specs.declared.types.ScalarRange.{ScalarRange}
use Rattle.ada_tree.specs.declared.types.Subtype.{Subtype}
use Rattle.ada_tree.specs.declared.types.Subtype.TheVariants as subtype
use Rattle.ada_tree.specs.declared.types.TypeDeclaration.{TypeDeclaration}
use Rattle.ada_tree.specs.Programs.{program_of, types_behind, types_of, unfolded}
use Rattle.ada_tree.specs.View.{composite_of, owner_of, scalar_range_of}
use Rattle.ada_tree.specs.View as view
use Rattle.ada_resolved.specs.Forms.{known_shape, named_type, shape_of, sized}
use Rattle.ada_resolved.specs.Sizes.{words}
use Rattle.kernel_ir.specs.Layouts.{Content, content_in}
use Rattle.kernel_ir.specs.Limits.{most_words}
use Rattle.statement_code.specs.Statements.{HasLayout}
use Rattle.statement_code.specs.Stores.{first_content}
use Rattle.statement_code.specs.Values.{IsComposite}
use Rattle.storage_layout.specs.Layouts.{layouts_before, layouts_of}
use Rattle.lower.specs.Standing.{IsNamed, AreTypesBuilt, IsSized, size_of}
use Rattle.lower.proofs.LaidProgram.{number_law, content_law}
use Rattle.lower.proofs.LaidTypes.{known_small}

-- there are as many types as declarations
types_many : (types : List type.Subtype) (ts : List TypeDeclaration) → length (types_behind types ts) ≡ length types + length ts
types_many types [] = omega arith
types_many types (t ∷ ts) =
    let e = length-append types (unfolded types (composite_of t.definition) ∷ []) in
    omega (arith, e, types_many (types ++ unfolded types (composite_of t.definition) ∷ []) ts)

-- what content is a shape's, as a content of its own
same_content : (s : Shape) (c : Content) → c ≡ first_content s → HasLayout s c
same_content (word b) c is = tt
same_content (row b s) c is = is
same_content (group ss) c is = is

module _ (p : Program) (inst : ℕ) where
  -- the number of the layout of a subtype; of a scalar one nothing is asked
  abbrev pub layout_number : Subtype → ℕ
  layout_number (subtype.Scalar r) = 0
  layout_number (subtype.Composite o n) = layouts_before (owner_in inst (owner_of o)) n (layouts_of p).laid

  -- a named type is that of the whole table, and where it has a size that of its subtype
  abbrev meant : Subtype → type.Subtype
  meant t = unfolded (types_of p.types) (view.subtype_of t)

  pub named_known : (t : Subtype) → shape_of p (named_type p inst t) ≡ known_shape (program_of p) inst (meant t)
  named_known t =
      ap (λ types. known_shape (program_of p) inst (unfolded types (view.subtype_of t)))
      (take_all (length p.types) (types_of p.types) (omega (arith, types_many [] p.types)))

  pub named_shape : (t : Subtype) → IsSized (size_of p inst t) → shape_of p (named_type p inst t) ≡ shape_in (program_of p) inst (meant t)
  named_shape t is = named_known t ∙ by_size (size_of p inst t) is
    where
      by_size : (o : Option ℕ) → IsSized o → sized o (shape_in (program_of p) inst (meant t)) ≡ shape_in (program_of p) inst (meant t)
      by_size None is = absurd is
      by_size (Some n) is = refl

  pub named_small : (t : Subtype) → words (shape_of p (named_type p inst t)) ≤ most_words
  named_small t = subst (λ s. words s ≤ most_words) (sym (named_known t)) (known_small p inst (meant t))

  -- a scalar subtype that is a type has the shape of a word
  abbrev bounds_at : ScalarRange → Bounds
  bounds_at r = bounds_in (program_of p) inst (scalar_range_of r)

  scalar_is : (r : ScalarRange) → IsType (shape_of p (named_type p inst (subtype.Scalar r))) → shape_of p (named_type p inst (subtype.Scalar r)) ≡ word (bounds_at r)
  scalar_is r typed = named_known (subtype.Scalar r) ∙ by_size (size_of p inst (subtype.Scalar r)) (subst IsType (named_known (subtype.Scalar r)) typed)
    where
      by_size : (o : Option ℕ) → IsType (sized o (word (bounds_at r))) → sized o (word (bounds_at r)) ≡ word (bounds_at r)
      by_size None typed = absurd typed
      by_size (Some n) typed = refl

  module _ (built : AreTypesBuilt p) where
    pub has_layout : (t : Subtype) → IsNamed p inst (length p.types) t → IsType (shape_of p (named_type p inst t))
        → HasLayout (shape_of p (named_type p inst t)) (content_in (layouts_of p).layouts (layout_number t))
    has_layout (subtype.Scalar r) named typed =
        subst (λ s. HasLayout s (content_in (layouts_of p).layouts 0)) (sym (scalar_is r typed)) tt
    has_layout (subtype.Composite o n) named typed =
        same_content (shape_of p (named_type p inst (subtype.Composite o n))) (content_in (layouts_of p).layouts (layout_number (subtype.Composite o n)))
        (content_law p built inst n o named typed)

    pub is_filled : (t : Subtype) → IsNamed p inst (length p.types) t → IsType (shape_of p (named_type p inst t))
        → IsComposite (shape_of p (named_type p inst t)) → layout_number t < length (layouts_of p).layouts
    is_filled (subtype.Scalar r) named typed composite = absurd (subst IsComposite (scalar_is r typed) composite)
    is_filled (subtype.Composite o n) named typed composite = number_law p built inst n o named
