use Rattle.std.proofs.Common.{sym, ap, subst, ◌∙◌, ◌≤◌, slice_get, option_map}
use Rattle.std.specs.Option.{option_copied}
use Rattle.std.specs.Prelude.{unwrap_or}
use Rattle.ada_tree.specs.Programs.{bounds_of}
use Rattle.ada_resolved.proofs.TypeForms.{undefined, unsized, array_form, no_array_form, record_form, record_small}
use Rattle.ada_tree.specs.Programs.{types_of}
use Rattle.ada_tree.specs.View.{numbered}
use Rattle.ada_meaning.specs.Shape.{group}
use Rattle.ada_resolved.specs.Forms.{shapes_of}
use Rattle.ada_resolved.specs.Sizes.{all_words, word_limit}
use Rattle.ada_resolved.proofs.sizes.TypeSizes.numbered_form.Goals as goal

pub returns-in_default-clause-shape : goal.returns-in_default-clause-shape
returns-in_default-clause-shape c =
    c.nothing.ensures.shape
    ∙ undefined c.args.self.now.program.now c.args.instance c.args.number
    (ap (λ xs. slice_get xs c.args.number) (sym c.as_slice.ensures) ∙ sym c.declaration_at.ensures ∙ ap option_copied c.in_default.is)

pub returns-in_default-size_in-clause-shape : goal.returns-in_default-size_in-clause-shape
returns-in_default-size_in-clause-shape c =
    c.nothing-in_default-size_in.ensures.shape
    ∙ unsized c.args.self.now.program.now c.args.instance
    (unwrap_or (slice_get (types_of c.args.self.now.program.now.types) c.args.number) (numbered c.args.number))
    (sym c.size_in.ensures ∙ c.in_default-size_in.is)

pub returns-in_default-bounds_in-clause-shape : goal.returns-in_default-bounds_in-clause-shape
returns-in_default-bounds_in-clause-shape c =
    c.nothing-in_default-bounds_in.ensures.shape
    ∙ no_array_form c.args.self.now.program.now c.args.instance c.args.number 0 c.in-Some.declaration.now c.in-Array.range c.in-Array.component
    (ap (λ xs. slice_get xs c.args.number) (sym c.as_slice.ensures) ∙ sym c.declaration_at.ensures ∙ ap option_copied c.in-Some.is)
    c.in-Array.is
    (sym c.bounds_in.ensures ∙ ap (option_map bounds_of) c.in_default-bounds_in.is)

pub returns-in-Some-bounds_in-clause-shape : goal.returns-in-Some-bounds_in-clause-shape
returns-in-Some-bounds_in-clause-shape c =
    array_form c.args.self.now.program.now c.args.instance c.args.number c.in-Some-size_in.field-0 c.in-Some.declaration.now c.in-Array.range c.in-Array.component
    c.in-Some-bounds_in.range
    (ap (λ xs. slice_get xs c.args.number) (sym c.as_slice.ensures) ∙ sym c.declaration_at.ensures ∙ ap option_copied c.in-Some.is)
    c.in-Array.is
    (sym c.size_in.ensures ∙ c.in-Some-size_in.is)
    (sym c.bounds_in.ensures ∙ ap (option_map bounds_of) c.in-Some-bounds_in.is)

pub invariant_of-result : goal.invariant_of-result
invariant_of-result c = record {
  small = subst (λ ts. all_words (shapes_of c.args.self.now.program.now c.args.instance c.args.number ts) ≤ word_limit)
      (sym c.as_slice-in-Record.ensures)
      (record_small c.args.self.now.program.now c.args.instance c.args.number c.in-Some-size_in.field-0 c.in-Some.declaration.now c.in-Record.components
      (ap (λ xs. slice_get xs c.args.number) (sym c.as_slice.ensures) ∙ sym c.declaration_at.ensures ∙ ap option_copied c.in-Some.is)
      c.in-Record.is
      (sym c.size_in.ensures ∙ c.in-Some-size_in.is));
}

pub returns-in-Record-clause-shape : goal.returns-in-Record-clause-shape
returns-in-Record-clause-shape c =
    ap (λ ts. group (shapes_of c.args.self.now.program.now c.args.instance c.args.number ts)) c.as_slice-in-Record.ensures
    ∙ record_form c.args.self.now.program.now c.args.instance c.args.number c.in-Some-size_in.field-0 c.in-Some.declaration.now c.in-Record.components
    (ap (λ xs. slice_get xs c.args.number) (sym c.as_slice.ensures) ∙ sym c.declaration_at.ensures ∙ ap option_copied c.in-Some.is)
    c.in-Record.is
    (sym c.size_in.ensures ∙ c.in-Some-size_in.is)
