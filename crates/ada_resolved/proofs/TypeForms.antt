-- What types are built of: a type of the table is its definition, by the types before it.
use Rattle.std.proofs.Common.{◌≡◌, ℕ, zero, suc, ◌+◌, ◌≤◌, ◌<◌, List, [], ◌∷◌, ◌++◌, length, take, drop, get_or, Option, Some, None, IfSome, option_map, option_and_then, slice_get, refl, sym, ap, subst, ◌∙◌, arith}
use Rattle.std.specs.Prelude.{unwrap_or}
use Rattle.std.proofs.lemmas.Option.{none-some}
use Rattle.std.proofs.lemmas.List.{append_assoc, at_drop_more}
use Rattle.std.proofs.lemmas.Option.{slice_get_past}
use Rattle.ada_meaning.specs.Program.{Bounds}
use Rattle.ada_meaning.specs.Program as meaning
use Rattle.ada_meaning.specs.Resolved.{bounds_in, owner_in, shape_in, shapes_in}
use Rattle.ada_meaning.specs.Seen.{subtype_seen}
use Rattle.ada_meaning.specs.Shape.{Shape, word, row, group, no_shape, and_shape}
use Rattle.ada_meaning.specs.Statics.{static_bounds, values_of}
use Rattle.ada_meaning.specs.Types as type
use Rattle.ada_meaning.proofs.SeenShapes.{seen_shape}
use Rattle.ada_meaning.proofs.StaticValues.{bounds_exact}
use Rattle.ada_tree.specs.declared.program.Program.{Program}
use Rattle.ada_tree.specs.declared.types.CompositeType.TheVariants as composite
use Rattle.ada_tree.specs.declared.types.Owner.{Owner}
use Rattle.ada_tree.specs.declared.types.Owner.TheVariants.{Here, Instance}
use Rattle.ada_tree.specs.declared.types.Range.{Range}
use Rattle.ada_tree.specs.declared.types.ScalarRange.{ScalarRange}
use Rattle.ada_tree.specs.declared.types.Subtype.{Subtype}
use Rattle.ada_tree.specs.declared.types.Subtype.TheVariants as subtype
use Rattle.ada_tree.specs.declared.types.TypeDeclaration.{TypeDeclaration}
use Rattle.ada_tree.specs.Programs.{bounds_of, program_of, types_behind, types_of, unfolded, unfolded_components}
use Rattle.ada_tree.specs.View.{numbered, owner_of, components_of, composite_of, scalar_range_of}
use Rattle.ada_tree.specs.View as view
use Rattle.ada_resolved.specs.declared.forms.TypeIn.{TypeIn}
use Rattle.ada_resolved.specs.Forms.{sized, known_shape, shape_of, shapes_of}
use Rattle.ada_resolved.specs.Sizes.{all_words, array_size, limited, with_component, word_limit, words, type_size, components_size}
use Rattle.ada_resolved.proofs.Rows.{seen_size}
use Rattle.ada_resolved.proofs.SizeLaws.{size_exact, size_small}

-- an item of the first ones of a list
taken : {X : Type 0} (xs : List X) (m n : ℕ) → n < m → slice_get (take m xs) n ≡ slice_get xs n
taken [] zero n less = absurd (omega (arith, less))
taken [] (suc m) n less = refl
taken (x ∷ xs) zero n less = absurd (omega (arith, less))
taken (x ∷ xs) (suc m) zero less = refl
taken (x ∷ xs) (suc m) (suc n) less = taken xs m n (omega (arith, less))

past_taken : {X : Type 0} (xs : List X) (m n : ℕ) → m ≤ n → slice_get (take m xs) n ≡ None
past_taken [] zero n more = refl
past_taken [] (suc m) n more = refl
past_taken (x ∷ xs) zero n more = refl
past_taken (x ∷ xs) (suc m) zero more = absurd (omega (arith, more))
past_taken (x ∷ xs) (suc m) (suc n) more = past_taken xs m n (omega (arith, more))

-- the first items of a list, and the item behind them
item_behind : {X : Type 0} (xs ys : List X) (x : X) (n : ℕ) → n ≡ length xs → slice_get (xs ++ x ∷ ys) n ≡ Some x
item_behind [] ys x zero e = refl
item_behind [] ys x (suc n) e = absurd (omega (arith, e))
item_behind (y ∷ xs) ys x zero e = absurd (omega (arith, e))
item_behind (y ∷ xs) ys x (suc n) e = item_behind xs ys x n (omega (arith, e))

first_ones : {X : Type 0} (xs ys : List X) (n : ℕ) → n ≡ length xs → take n (xs ++ ys) ≡ xs
first_ones [] [] zero e = refl
first_ones [] (y ∷ ys) zero e = refl
first_ones [] ys (suc n) e = absurd (omega (arith, e))
first_ones (x ∷ xs) ys zero e = absurd (omega (arith, e))
first_ones (x ∷ xs) ys (suc n) e = ap (λ zs. x ∷ zs) (first_ones xs ys n (omega (arith, e)))

-- a table begins with the types that it grew from
grown : (types : List type.Subtype) (ts : List TypeDeclaration) → (more : List type.Subtype) × (types_behind types ts ≡ types ++ more)
grown types [] = ([], sym (append_nil types))
  where
    append_nil : (xs : List type.Subtype) → xs ++ [] ≡ xs
    append_nil [] = refl
    append_nil (x ∷ xs) = ap (λ zs. x ∷ zs) (append_nil xs)
grown types (t ∷ ts) =
    let (more, is) = grown (types ++ unfolded types (composite_of t.definition) ∷ []) ts in
    (unfolded types (composite_of t.definition) ∷ more, is ∙ append_assoc types (unfolded types (composite_of t.definition) ∷ []) more)

abbrev Defines : List type.Subtype → ℕ → Option TypeDeclaration → Type 0
Defines types n o = slice_get types n ≡ option_map (λ d. unfolded (take n types) (composite_of d.definition)) o

defined_behind : (types : List type.Subtype) (ts : List TypeDeclaration) (n : ℕ) → Defines (types_behind types ts) (length types + n) (slice_get ts n)
defined_behind types [] n = slice_get_past types (length types + n) (omega arith)
defined_behind types (t ∷ ts) zero =
    ap (λ xs. slice_get xs (length types + 0)) is ∙ item_behind types more u (length types + 0) (omega arith)
    ∙ ap (λ xs. Some (unfolded xs (composite_of t.definition))) (sym (ap (take (length types + 0)) is ∙ first_ones types (u ∷ more) (length types + 0) (omega arith)))
  where
    u : type.Subtype
    u = unfolded types (composite_of t.definition)

    more : List type.Subtype
    more = (grown (types ++ u ∷ []) ts).0

    is : types_behind (types ++ u ∷ []) ts ≡ types ++ u ∷ more
    is = (grown (types ++ u ∷ []) ts).1 ∙ append_assoc types (u ∷ []) more
defined_behind types (t ∷ ts) (suc n) =
    subst (λ k. Defines (types_behind (types ++ u ∷ []) ts) k (slice_get ts n)) (length_is types) (defined_behind (types ++ u ∷ []) ts n)
  where
    u : type.Subtype
    u = unfolded types (composite_of t.definition)

    length_is : (xs : List type.Subtype) → length (xs ++ u ∷ []) + n ≡ length xs + suc n
    length_is [] = omega arith
    length_is (x ∷ xs) = omega (arith, length_is xs)

module _ (p : Program) where
  abbrev Table : List type.Subtype
  Table = types_of p.types

  abbrev Meant : meaning.Program
  Meant = program_of p

  -- a type of the table, in an instance
  abbrev pub numbered_shape : ℕ → ℕ → Option type.Subtype → Shape
  numbered_shape i n o = known_shape Meant i (unwrap_or o (numbered n))

  defined : (n : ℕ) → Defines Table n (slice_get p.types n)
  defined n = subst (λ k. Defines Table k (slice_get p.types n)) (let e : 0 + n ≡ n = omega arith in e) (defined_behind [] p.types n)

  seen : (inst i : ℕ) (t : type.Subtype) → known_shape Meant inst (subtype_seen i t) ≡ known_shape Meant i t
  seen inst i t = λ s. sized (seen_size (values_of Meant) inst i t s) (seen_shape Meant inst i t s)

  -- a type by its number is that of the table
  named : (types : List type.Subtype) (inst : ℕ) (o : Owner) (n : ℕ)
      → known_shape Meant inst (unfolded types (view.subtype_of (subtype.Composite o n))) ≡ numbered_shape (owner_in inst (owner_of o)) n (slice_get types n)
  named types inst Here n = refl
  named types inst (Instance i) n = by_case (slice_get types n)
    where
      by_case : (o : Option type.Subtype)
          → known_shape Meant inst (unwrap_or (option_map (subtype_seen i) o) (type.subtype_of i (numbered n))) ≡ numbered_shape i n o
      by_case None = refl
      by_case (Some t) = seen inst i t

  -- where it stands before what names it
  pub named_before : (inst below : ℕ) (o : Owner) (n : ℕ) → n < below
      → numbered_shape (owner_in inst (owner_of o)) n (slice_get Table n) ≡ shape_of p (record { instance = inst; subtype = subtype.Composite o n; below = below })
  named_before inst below o n less =
      ap (numbered_shape (owner_in inst (owner_of o)) n) (sym (taken Table below n less)) ∙ sym (named (take below Table) inst o n)

  pub named_behind : (inst below : ℕ) (o : Owner) (n : ℕ) → below ≤ n
      → group no_shape ≡ shape_of p (record { instance = inst; subtype = subtype.Composite o n; below = below })
  named_behind inst below o n more =
      ap (numbered_shape (owner_in inst (owner_of o)) n) (sym (past_taken Table below n more)) ∙ sym (named (take below Table) inst o n)

  -- without a definition or a size it is as nothing
  pub undefined : (i n : ℕ) → slice_get p.types n ≡ None → group no_shape ≡ numbered_shape i n (slice_get Table n)
  undefined i n none = ap (numbered_shape i n) (sym (defined n ∙ ap (option_map _) none))

  pub unsized : (i : ℕ) (t : type.Subtype) → type_size (values_of Meant) i t ≡ None → group no_shape ≡ known_shape Meant i t
  unsized i t none = ap (λ o. sized o (shape_in Meant i t)) (sym none)

  -- what has a size has its shape
  with_size : (i : ℕ) (t : type.Subtype) (m : ℕ) → type_size (values_of Meant) i t ≡ Some m → known_shape Meant i t ≡ shape_in Meant i t
  with_size i t m has = ap (λ o. sized o (shape_in Meant i t)) has

  pub bounds_are : (i : ℕ) (r : type.Range) (b : Bounds) → static_bounds (values_of Meant) i r ≡ Some b → b ≡ bounds_in Meant i r
  bounds_are i r b is = sym (subst (λ o. IfSome o (λ c. bounds_in Meant i r ≡ c)) is (bounds_exact Meant i r))

  -- a scalar type
  pub scalar_form : (inst below : ℕ) (r : ScalarRange) (b : Range) → static_bounds (values_of Meant) inst (scalar_range_of r) ≡ Some (bounds_of b)
      → word (bounds_of b) ≡ shape_of p (record { instance = inst; subtype = subtype.Scalar r; below = below })
  scalar_form inst below r b is =
      ap word (bounds_are inst (scalar_range_of r) (bounds_of b) is)
      ∙ ap (λ (o : Option Bounds). sized (option_map (λ c. 1) o) (word (bounds_in Meant inst (scalar_range_of r)))) (sym is)

  pub no_scalar_form : (inst below : ℕ) (r : ScalarRange) → static_bounds (values_of Meant) inst (scalar_range_of r) ≡ None
      → group no_shape ≡ shape_of p (record { instance = inst; subtype = subtype.Scalar r; below = below })
  no_scalar_form inst below r none = ap (λ (o : Option Bounds). sized (option_map (λ c. 1) o) (word (bounds_in Meant inst (scalar_range_of r)))) (sym none)

  -- the parts of what has a size have one
  array_parts : (index : Option Bounds) (size : Option ℕ) (m : ℕ) → array_size index size ≡ Some m → (n : ℕ) × (size ≡ Some n)
  array_parts index None m is = absurd (none-some m is)
  array_parts index (Some n) m is = (n, refl)

  module _ (i n : ℕ) (m : ℕ) where
    pub array_form : (d : TypeDeclaration) (r : ScalarRange) (t : Subtype) (b : Range)
        → slice_get p.types n ≡ Some d → d.definition ≡ composite.Array r t
        → type_size (values_of Meant) i (unwrap_or (slice_get Table n) (numbered n)) ≡ Some m
        → static_bounds (values_of Meant) i (scalar_range_of r) ≡ Some (bounds_of b)
        → row (bounds_of b) (shape_of p (record { instance = i; subtype = t; below = n })) ≡ numbered_shape i n (slice_get Table n)
    array_form d r t b there is has bounds =
        (λ s. row (bounds_are i (scalar_range_of r) (bounds_of b) bounds s) (with_size i component part.0 part.1 s))
        ∙ sym (with_size i (type.array (scalar_range_of r) component) m size)
        ∙ ap (known_shape Meant i) (sym type_is)
      where
        component : type.Subtype
        component = unfolded (take n Table) (view.subtype_of t)

        type_is : unwrap_or (slice_get Table n) (numbered n) ≡ type.array (scalar_range_of r) component
        type_is =
            ap (λ o. unwrap_or o (numbered n)) (defined n ∙ ap (option_map (λ e. unfolded (take n Table) (composite_of e.definition))) there)
            ∙ ap (λ e. unfolded (take n Table) (composite_of e)) is

        size : type_size (values_of Meant) i (type.array (scalar_range_of r) component) ≡ Some m
        size = ap (type_size (values_of Meant) i) (sym type_is) ∙ has

        part : (k : ℕ) × (type_size (values_of Meant) i component ≡ Some k)
        part = array_parts (static_bounds (values_of Meant) i (scalar_range_of r)) (type_size (values_of Meant) i component) m size

    pub no_array_form : (d : TypeDeclaration) (r : ScalarRange) (t : Subtype)
        → slice_get p.types n ≡ Some d → d.definition ≡ composite.Array r t → static_bounds (values_of Meant) i (scalar_range_of r) ≡ None
        → group no_shape ≡ numbered_shape i n (slice_get Table n)
    no_array_form d r t there is none =
        unsized i (type.array (scalar_range_of r) component) (by_size (type_size (values_of Meant) i component))
        ∙ ap (known_shape Meant i) (sym type_is)
      where
        component : type.Subtype
        component = unfolded (take n Table) (view.subtype_of t)

        type_is : unwrap_or (slice_get Table n) (numbered n) ≡ type.array (scalar_range_of r) component
        type_is =
            ap (λ o. unwrap_or o (numbered n)) (defined n ∙ ap (option_map (λ e. unfolded (take n Table) (composite_of e.definition))) there)
            ∙ ap (λ e. unfolded (take n Table) (composite_of e)) is

        by_size : (o : Option ℕ) → array_size (static_bounds (values_of Meant) i (scalar_range_of r)) o ≡ None
        by_size None = refl
        by_size (Some k) = ap (λ b. array_size b (Some k)) none

    -- the components of a record that has a size
    components : (ts : List Subtype) (k : ℕ) → components_size (values_of Meant) i (unfolded_components (take n Table) (components_of ts)) ≡ Some k
        → shapes_of p i n ts ≡ shapes_in Meant i (unfolded_components (take n Table) (components_of ts))
    components [] k is = refl
    components (t ∷ ts) k is = by_size (λ j e. components ts j e) (type_size (values_of Meant) i (unfolded (take n Table) (view.subtype_of t))) refl is
      where
        rest : type.Components
        rest = unfolded_components (take n Table) (components_of ts)

        Rest : Type 0
        Rest = (j : ℕ) → components_size (values_of Meant) i rest ≡ Some j → shapes_of p i n ts ≡ shapes_in Meant i rest

        by_rest : Rest → (o : Option ℕ) → components_size (values_of Meant) i rest ≡ o → (l : ℕ) → option_and_then (λ j. limited (l + j)) o ≡ Some k
            → shapes_of p i n ts ≡ shapes_in Meant i rest
        by_rest ih None e l has = absurd (none-some k has)
        by_rest ih (Some j) e l has = ih j e

        by_size : Rest → (o : Option ℕ) → type_size (values_of Meant) i (unfolded (take n Table) (view.subtype_of t)) ≡ o
            → option_and_then (λ l. with_component l (components_size (values_of Meant) i rest)) o ≡ Some k
            → shapes_of p i n (t ∷ ts) ≡ shapes_in Meant i (unfolded_components (take n Table) (components_of (t ∷ ts)))
        by_size ih None e has = absurd (none-some k has)
        by_size ih (Some l) e has =
            λ s. and_shape (with_size i (unfolded (take n Table) (view.subtype_of t)) l e s) (by_rest ih (components_size (values_of Meant) i rest) refl l has s)

    module _ (d : TypeDeclaration) (ts : List Subtype) (there : slice_get p.types n ≡ Some d) (is : d.definition ≡ composite.Record ts)
        (has : type_size (values_of Meant) i (unwrap_or (slice_get Table n) (numbered n)) ≡ Some m) where
      record_is : unwrap_or (slice_get Table n) (numbered n) ≡ type.fields (unfolded_components (take n Table) (components_of ts))
      record_is =
          ap (λ o. unwrap_or o (numbered n)) (defined n ∙ ap (option_map (λ e. unfolded (take n Table) (composite_of e.definition))) there)
          ∙ ap (λ e. unfolded (take n Table) (composite_of e)) is

      pub record_size : components_size (values_of Meant) i (unfolded_components (take n Table) (components_of ts)) ≡ Some m
      record_size = ap (type_size (values_of Meant) i) (sym record_is) ∙ has

      pub record_form : group (shapes_of p i n ts) ≡ numbered_shape i n (slice_get Table n)
      record_form =
          ap group (components ts m record_size) ∙ sym (with_size i (type.fields (unfolded_components (take n Table) (components_of ts))) m record_size)
          ∙ ap (known_shape Meant i) (sym record_is)

      -- and it is within the limit
      pub record_small : all_words (shapes_of p i n ts) ≤ word_limit
      record_small =
          let exact : all_words (shapes_in Meant i (unfolded_components (take n Table) (components_of ts))) ≡ m =
          subst (λ o. IfSome o (λ k. all_words (shapes_in Meant i (unfolded_components (take n Table) (components_of ts))) ≡ k)) record_size
          (size_exact Meant i (type.fields (unfolded_components (take n Table) (components_of ts)))) in
          let small : m ≤ word_limit = subst (λ o. IfSome o (λ k. k ≤ word_limit)) record_size
          (size_small (values_of Meant) i (type.fields (unfolded_components (take n Table) (components_of ts)))) in
          omega (arith, ap all_words (components ts m record_size), exact, small)

  -- the words of a type
  words_are : (i : ℕ) (t : type.Subtype) → unwrap_or (type_size (values_of Meant) i t) 0 ≡ words (known_shape Meant i t)
  words_are i t = by_size (type_size (values_of Meant) i t) (size_exact Meant i t)
    where
      by_size : (o : Option ℕ) → IfSome o (λ n. words (shape_in Meant i t) ≡ n) → unwrap_or o 0 ≡ words (sized o (shape_in Meant i t))
      by_size None is = refl
      by_size (Some n) is = sym is

  words_small : (i : ℕ) (t : type.Subtype) → unwrap_or (type_size (values_of Meant) i t) 0 ≤ word_limit
  words_small i t = by_size (type_size (values_of Meant) i t) (size_small (values_of Meant) i t)
    where
      by_size : (o : Option ℕ) → IfSome o (λ n. n ≤ word_limit) → unwrap_or o 0 ≤ word_limit
      by_size None small = omega arith
      by_size (Some n) small = small

  -- the size of a type, by what names it
  abbrev size_of : TypeIn → Option ℕ
  size_of t = type_size (values_of Meant) t.instance (unfolded Table (view.subtype_of t.subtype))

  abbrev HasWords : TypeIn → Type 0
  HasWords t = unwrap_or (size_of t) 0 ≡ words (shape_of p t)

  abbrev pub naming : TypeIn → Subtype → TypeIn
  naming t s = record { instance = t.instance; subtype = s; below = t.below }

  pub scalar_words : (t : TypeIn) (r : ScalarRange) (o : Option ℕ) → t.subtype ≡ subtype.Scalar r → o ≡ size_of t → unwrap_or o 0 ≡ words (shape_of p t)
  scalar_words t r o named_by is =
      ap (λ x. unwrap_or x 0) is
      ∙ subst (λ s. HasWords (naming t s)) (sym named_by) (words_are t.instance (type.scalar (scalar_range_of r)))

  pub named_words : (t : TypeIn) (w : Owner) (n : ℕ) (o : Option ℕ) → t.subtype ≡ subtype.Composite w n → n < t.below → o ≡ size_of t
      → unwrap_or o 0 ≡ words (shape_of p t)
  named_words t w n o named_by less is =
      ap (λ x. unwrap_or x 0) is
      ∙ subst (λ s. HasWords (naming t s)) (sym named_by)
      (words_are t.instance (unfolded Table (view.subtype_of (subtype.Composite w n)))
      ∙ ap words (named Table t.instance w n ∙ named_before t.instance t.below w n less))

  pub nothing_words : (t : TypeIn) (w : Owner) (n : ℕ) → t.subtype ≡ subtype.Composite w n → t.below ≤ n → 0 ≡ words (shape_of p t)
  nothing_words t w n named_by more =
      subst (λ s. 0 ≡ words (shape_of p (naming t s))) (sym named_by) (ap words (named_behind t.instance t.below w n more))

  pub size_is_small : (t : TypeIn) (o : Option ℕ) → o ≡ size_of t → unwrap_or o 0 ≤ word_limit
  size_is_small t o is =
      subst (λ x. unwrap_or x 0 ≤ word_limit) (sym is) (words_small t.instance (unfolded Table (view.subtype_of t.subtype)))

  -- the first ones of some components
  pub part_small : (i below k : ℕ) (ts : List Subtype) → all_words (shapes_of p i below (take k ts)) ≤ all_words (shapes_of p i below ts)
  part_small i below zero [] = omega arith
  part_small i below (suc k) [] = omega arith
  part_small i below zero (t ∷ ts) = omega arith
  part_small i below (suc k) (t ∷ ts) = omega (arith, part_small i below k ts)

  -- the words of the first ones of components are within the limit, where those of all are
  pub within_limit : (i below place k : ℕ) (all first rest : List Subtype) → first ≡ take place all → all_words (shapes_of p i below all) ≤ word_limit
      → k + all_words (shapes_of p i below rest) ≡ all_words (shapes_of p i below first) → k + all_words (shapes_of p i below rest) ≤ word_limit
  within_limit i below place k all first rest is small sum =
      omega (arith, part_small i below place all, ap (λ ts. all_words (shapes_of p i below ts)) is, small, sum)

  pub next_within : (i below k m j : ℕ) (first : List Subtype) (d : Subtype) → j < length first
      → m ≡ words (shape_of p (record { instance = i; subtype = get_or first j d; below = below }))
      → k + all_words (shapes_of p i below (drop j first)) ≤ word_limit → k + m ≤ word_limit
  next_within i below k m j first d less is small =
      omega (arith, at_drop_more (λ ts. all_words (shapes_of p i below ts)) first j d less, is, small)
