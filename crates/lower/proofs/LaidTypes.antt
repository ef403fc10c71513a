-- Each type of a program has a layout in each instance in which it stands, and the layout is that of its shape.
use Rattle.std.proofs.Common.{◌≡◌, ℕ, zero, suc, ◌*◌, ◌≤◌, nat_eq, Bool, true, false, List, [], length, Option, None, Some, IfSome, slice_get, refl, sym, ap, subst, ◌∙◌, arith}
use Rattle.std.specs.Prelude.{pos, unwrap_or, if◌then◌else◌}
use Rattle.std.proofs.lemmas.Bool.{eqb-true}
use Rattle.std.proofs.lemmas.Bool.Decides.{nat_tests}
use Rattle.std.proofs.lemmas.Option.{slice_get_within}
use Rattle.cov_base.specs.Lists.{Everywhere}
use Rattle.ada_meaning.specs.Arithmetic.{count_between}
use Rattle.ada_meaning.specs.Program.{Bounds}
use Rattle.ada_meaning.specs.Resolved.{shape_in}
use Rattle.ada_meaning.specs.Shape.{Shape, row}
use Rattle.ada_meaning.specs.Statics.{static_bounds, values_of}
use Rattle.ada_meaning.specs.Types as type
use Rattle.ada_tree.specs.declared.program.Program.{Program}
use Rattle.ada_tree.specs.declared.types.CompositeType.{CompositeType}
use Rattle.ada_tree.specs.declared.types.CompositeType.TheVariants as composite
use Rattle.ada_tree.specs.declared.types.Owner.TheVariants as owner
use Rattle.ada_tree.specs.declared.types.ScalarRange.{ScalarRange}
use Rattle.ada_tree.specs.declared.types.Subtype.{Subtype}
use Rattle.ada_tree.specs.declared.types.Subtype.TheVariants as subtype
use Rattle.ada_tree.specs.declared.types.TypeDeclaration.{TypeDeclaration}
use Rattle.ada_tree.specs.Objects.{capped}
use Rattle.ada_tree.specs.Programs.{program_of, types_of}
use Rattle.ada_tree.specs.View.{numbered, scalar_range_of}
use Rattle.ada_resolved.specs.Forms.{sized, known_shape, named_type, shape_of, shapes_of, type_of}
use Rattle.ada_resolved.specs.Sizes.{word_limit, words, type_size}
use Rattle.ada_resolved.proofs.SizeLaws.{size_exact, size_small}
use Rattle.ada_resolved.proofs.TypeForms.{named_before, array_form, no_array_form, record_form, record_size}
use Rattle.kernel_ir.specs.declared.kernel.Layout.{Layout}
use Rattle.kernel_ir.specs.declared.kernel.Layout.TheVariants as layout
use Rattle.kernel_ir.specs.Layouts.{composite as composite_content, repeated, joined, content_in, content_of, contents_after}
use Rattle.kernel_ir.specs.Limits.{most_words}
use Rattle.storage_layout.specs.declared.layouts.LaidType.TheVariants.{Composite}
use Rattle.storage_layout.specs.Layouts.{Layouts, with_layout, bounds, with_component, with_components, component_number, component_numbers, with_parts, definition_layout, with_definition}
use Rattle.statement_code.proofs.Formed.{type_words}
use Rattle.lower.specs.Standing.{IsNamed, components_of}
use Rattle.lower.proofs.Contents.{Meets, row_met, group_met}
use Rattle.lower.proofs.LaidLists.{get_last}
use Rattle.lower.proofs.LaidParts.{Stays, IsLaid, range_with, shape_at, AreLaid, laid_behind, AreEarlier, laid_as, layout_stays, component_stays, components_stay, component_laid, components_laid, part, component_found, found_within, component_meets, components_meet}

-- what takes words has a size
sized_if : (o : Option ℕ) (s : Shape) → 1 ≤ words (sized o s) → (m : ℕ) × (o ≡ Some m)
sized_if None s some = absurd (omega (arith, some))
sized_if (Some m) s some = (m, refl)

-- a product that is no more than a limit, and its factors
first_factor : (n k limit : ℕ) → 1 ≤ n * k → n * k ≤ limit → n ≤ limit
first_factor n zero limit some few = absurd (grind (arith, some))
first_factor n (suc k) limit some few = grind (arith, few)

second_factor : (n k : ℕ) → 1 ≤ n * k → 1 ≤ k
second_factor n zero some = absurd (grind (arith, some))
second_factor n (suc k) some = omega arith

uncapped : (n : ℕ) → n ≤ most_words → capped n ≡ n
uncapped n few = grind (arith, few)

module _ (p : Program) where
  -- no type takes more words than a type may have
  pub known_small : (i : ℕ) (t : type.Subtype) → words (known_shape (program_of p) i t) ≤ most_words
  known_small i t = by_size (type_size (values_of (program_of p)) i t) (size_exact (program_of p) i t) (size_small (values_of (program_of p)) i t)
    where
      by_size : (o : Option ℕ) → IfSome o (λ n. words (shape_in (program_of p) i t) ≡ n) → IfSome o (λ n. n ≤ word_limit)
          → words (sized o (shape_in (program_of p) i t)) ≤ most_words
      by_size None exact small = omega arith
      by_size (Some n) exact small = omega (arith, exact, small)

  shape_small : (i n : ℕ) → words (shape_at p i n) ≤ most_words
  shape_small i n = known_small i (unwrap_or (slice_get (types_of p.types) n) (numbered n))

  -- a type in an instance
  module _ (i n : ℕ) (d : TypeDeclaration) (there : slice_get p.types n ≡ Some d)
      (named : Everywhere (IsNamed p i n) (components_of d.definition)) (ls : Layouts) (are : AreLaid p ls) (earlier : AreEarlier p ls n) where
    known : n ≤ length p.types
    known = let less = slice_get_within p.types n d there in omega (arith, less)

    -- a layout of its shape
    met_behind : (ms : Layouts) (l : Layout) → AreLaid p ms → Meets (shape_at p i n) (content_of (contents_after [] ms.layouts) l)
        → length (content_of (contents_after [] ms.layouts) l).words ≤ most_words
    met_behind ms l laid meets = let e = meets.long in omega (arith, e, shape_small i n)

    size : 1 ≤ words (shape_at p i n) → (m : ℕ) × (type_size (values_of (program_of p)) i (unwrap_or (slice_get (types_of p.types) n) (numbered n)) ≡ Some m)
    size some =
        sized_if (type_size (values_of (program_of p)) i (unwrap_or (slice_get (types_of p.types) n) (numbered n)))
        (shape_in (program_of p) i (unwrap_or (slice_get (types_of p.types) n) (numbered n))) some

    -- an array
    module _ (r : ScalarRange) (t : Subtype) (is : d.definition ≡ composite.Array r t) (some : 1 ≤ words (shape_at p i n)) where
      array_named : IsNamed p i n t
      array_named = (subst (λ e. Everywhere (IsNamed p i n) (components_of e)) is named).0

      abbrev after : Layouts
      after = with_component p i t ls

      abbrev number : ℕ
      number = component_number i ls.laid t

      array_laid : AreLaid p (with_layout (Composite i n) (definition_layout p i ls (composite.Array r t)) (with_parts p i (composite.Array r t) ls))
      array_laid = by_bounds (static_bounds (values_of (program_of p)) i (scalar_range_of r)) refl
        where
          laid : AreLaid p after
          laid = component_laid p i t ls are

          at : slice_get after.laid number ≡ Some (laid_as p i t)
          at = component_found p i n known after laid t ls earlier array_named (λ x u h. h)

          by_bounds : (o : Option Bounds) → static_bounds (values_of (program_of p)) i (scalar_range_of r) ≡ o
              → AreLaid p (with_layout (Composite i n) (definition_layout p i ls (composite.Array r t)) (with_parts p i (composite.Array r t) ls))
          by_bounds None none = absurd (omega (arith, some, ap words (no_array_form p i n (size some).0 d r t there is none)))
          by_bounds (Some b) has =
              let form : row b (shape_of p (part i n t)) ≡ shape_at p i n = array_form p i n (size some).0 d r t (range_with b) there is (size some).1 has in
              let many : count_between b.low b.high * words (shape_of p (part i n t)) ≡ words (shape_at p i n) = ap words form in
              let few : count_between b.low b.high * words (shape_of p (part i n t)) ≤ most_words = omega (arith, many, shape_small i n) in
              let any : 1 ≤ count_between b.low b.high * words (shape_of p (part i n t)) = omega (arith, many, some) in
              let limit : count_between b.low b.high ≤ most_words = first_factor (count_between b.low b.high) (words (shape_of p (part i n t))) most_words any few in
              let bound : bounds p i (scalar_range_of r) ≡ b = ap (λ o. unwrap_or {T = Bounds} o (record { low = pos 0; high = pos 0 })) has in
              let count : capped (count_between (bounds p i (scalar_range_of r)).low (bounds p i (scalar_range_of r)).high) ≡ count_between b.low b.high =
              ap (λ (c : Bounds). capped (count_between c.low c.high)) bound ∙ uncapped (count_between b.low b.high) limit in
              let sized = sized_if (type_size (values_of (program_of p)) i (type_of p (part i n t))) (shape_in (program_of p) i (type_of p (part i n t)))
              (second_factor (count_between b.low b.high) (words (shape_of p (part i n t))) any) in
              let component = component_meets p i n known after laid t number sized.0 sized.1 array_named at in
              let meets : Meets (shape_at p i n) (content_of (contents_after [] after.layouts) (definition_layout p i ls (composite.Array r t))) =
              subst (λ s. Meets s (content_of (contents_after [] after.layouts) (definition_layout p i ls (composite.Array r t)))) form
              (subst (λ k. Meets (row b (shape_of p (part i n t))) (composite_content (repeated k (content_in after.layouts number)))) (sym count)
              (row_met b (shape_of p (part i n t)) (content_in after.layouts number) component)) in
              laid_behind p after (Composite i n) (definition_layout p i ls (composite.Array r t)) laid meets
              (λ word. (found_within p i n known after laid number (laid_as p i t) at, subst (λ k. k ≤ most_words) (sym count) limit))
              (met_behind after (definition_layout p i ls (composite.Array r t)) laid meets)

    -- a record
    module _ (ts : List Subtype) (is : d.definition ≡ composite.Record ts) (some : 1 ≤ words (shape_at p i n)) where
      abbrev behind : Layouts
      behind = with_components p i ts ls

      record_laid : AreLaid p (with_layout (Composite i n) (definition_layout p i ls (composite.Record ts)) (with_parts p i (composite.Record ts) ls))
      record_laid =
          let laid : AreLaid p behind = components_laid p i ts ls are in
          let parts = components_meet p i n known behind laid ts ls (size some).0 earlier
          (subst (λ e. Everywhere (IsNamed p i n) (components_of e)) is named) (λ x u h. h) (record_size p i n (size some).0 d ts there is (size some).1) in
          let meets : Meets (shape_at p i n) (content_of (contents_after [] behind.layouts) (definition_layout p i ls (composite.Record ts))) =
          subst (λ s. Meets s (content_of (contents_after [] behind.layouts) (definition_layout p i ls (composite.Record ts))))
          (record_form p i n (size some).0 d ts there is (size some).1)
          (group_met (shapes_of p i n ts) (joined (contents_after [] behind.layouts) (component_numbers p i ls ts)) parts.0) in
          laid_behind p behind (Composite i n) (definition_layout p i ls (composite.Record ts)) laid meets (λ word. parts.1)
          (met_behind behind (definition_layout p i ls (composite.Record ts)) laid meets)

    -- its definition, or a record without components where its objects take no words
    definition_laid : (e : CompositeType) → d.definition ≡ e → 1 ≤ words (shape_at p i n)
        → AreLaid p (with_layout (Composite i n) (definition_layout p i ls e) (with_parts p i e ls))
    definition_laid (composite.Array r t) is some = array_laid r t is some
    definition_laid (composite.Record ts) is some = record_laid ts is some

    empty_laid : words (shape_at p i n) ≡ 0 → AreLaid p (with_layout (Composite i n) (layout.Record []) ls)
    empty_laid none =
        laid_behind p ls (Composite i n) (layout.Record []) are
        (record { long = sym none; same = λ typed. absurd (omega (arith, none, type_words (shape_at p i n) typed)) }) (λ word. tt) (omega arith)

    abbrev own : Layouts → Layouts
    own ms = with_definition p i n d.definition ms

    words_are : words (shape_at p i n) ≡ words (shape_of p (named_type p i (subtype.Composite owner.Here n)))
    words_are = ap words (named_before p i (length p.types) owner.Here n (slice_get_within p.types n d there))

    abbrev chosen : Bool → Layouts
    chosen b =
        if b then with_layout (Composite i n) (layout.Record []) ls
        else with_layout (Composite i n) (definition_layout p i ls d.definition) (with_parts p i d.definition ls)

    abbrev is_empty : Bool
    is_empty = nat_eq (words (shape_of p (named_type p i (subtype.Composite owner.Here n)))) 0

    pub with_definition_laid : AreLaid p (own ls)
    with_definition_laid = by_test is_empty refl
      where
        by_test : (b : Bool) → is_empty ≡ b → AreLaid p (chosen b)
        by_test true e = empty_laid (words_are ∙ eqb-true (words (shape_of p (named_type p i (subtype.Composite owner.Here n)))) 0 e)
        by_test false e = definition_laid d.definition refl (let m = words_are in grind (arith, nat_tests, m))

-- what it adds
module _ (p : Program) (i n : ℕ) where
  pub parts_stay : (e : CompositeType) (ls : Layouts) → Stays ls (with_parts p i e ls)
  parts_stay (composite.Array r t) ls x u there = component_stays p i t ls x u there
  parts_stay (composite.Record ts) ls x u there = components_stay p i ts ls x u there

  pub definition_stays : (e : CompositeType) (ls : Layouts) → Stays ls (with_definition p i n e ls)
  definition_stays e ls x u there = by_test (nat_eq (words (shape_of p (named_type p i (subtype.Composite owner.Here n)))) 0)
    where
      by_test : (b : Bool)
          → slice_get (if b then with_layout (Composite i n) (layout.Record []) ls else with_layout (Composite i n) (definition_layout p i ls e) (with_parts p i e ls)).laid x ≡ Some u
      by_test true = layout_stays p i (Composite i n) (layout.Record []) ls x u there
      by_test false = layout_stays p i (Composite i n) (definition_layout p i ls e) (with_parts p i e ls) x u (parts_stay e ls x u there)

  pub definition_there : (e : CompositeType) (ls : Layouts) → IsLaid (with_definition p i n e ls) i n
  definition_there e ls = by_test (nat_eq (words (shape_of p (named_type p i (subtype.Composite owner.Here n)))) 0)
    where
      by_test : (b : Bool)
          → IsLaid (if b then with_layout (Composite i n) (layout.Record []) ls else with_layout (Composite i n) (definition_layout p i ls e) (with_parts p i e ls)) i n
      by_test true = (length ls.laid, get_last ls.laid (Composite i n))
      by_test false = (length (with_parts p i e ls).laid, get_last (with_parts p i e ls).laid (Composite i n))
