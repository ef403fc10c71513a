-- Layouts with what they lay out: what holds of each, and stays when a component's layout comes behind them.
use Rattle.std.proofs.Common.{◌≡◌, ◌⊎◌, inl, inr, ℕ, ◌<◌, ◌≤◌, ℤ, List, [], ◌∷◌, ◌++◌, length, take, Option, None, Some, IfSome, option_map, option_and_then, slice_get, refl, sym, ap, subst, ◌∙◌, arith, length-append}
use Rattle.std.specs.Prelude.{pos, unwrap_or}
use Rattle.std.proofs.lemmas.Option.{none-some, slice_get_within}
use Rattle.cov_base.specs.Lists.{Everywhere}
use Rattle.ada_meaning.specs.Bodies.{StandsIn}
use Rattle.ada_meaning.specs.Program.{Bounds}
use Rattle.ada_meaning.specs.Resolved.{owner_in}
use Rattle.ada_meaning.specs.Shape.{Shape, word}
use Rattle.ada_meaning.specs.Statics.{static_bounds, values_of}
use Rattle.ada_tree.specs.declared.program.Program.{Program}
use Rattle.ada_tree.specs.declared.types.Range.{Range}
use Rattle.ada_tree.specs.declared.types.ScalarRange.{ScalarRange}
use Rattle.ada_tree.specs.declared.types.Subtype.{Subtype}
use Rattle.ada_tree.specs.declared.types.Subtype.TheVariants as subtype
use Rattle.ada_tree.specs.declared.types.TypeDeclaration.{TypeDeclaration}
use Rattle.ada_tree.specs.Programs.{program_of, types_of, unfolded_components}
use Rattle.ada_tree.specs.View.{owner_of, scalar_range_of}
use Rattle.ada_tree.specs.View as view
use Rattle.ada_resolved.specs.declared.forms.TypeIn.{TypeIn}
use Rattle.ada_resolved.specs.Forms.{shape_of, shapes_of, type_of}
use Rattle.ada_resolved.specs.Sizes.{type_size, components_size, with_component as sum_with}
use Rattle.ada_resolved.proofs.TypeForms.{numbered_shape, named_before, scalar_form}
use Rattle.kernel_ir.specs.declared.kernel.Layout.{Layout}
use Rattle.kernel_ir.specs.declared.kernel.Layout.TheVariants as layout
use Rattle.kernel_ir.specs.Layouts.{Content, content_of, contents_after, content_in, joined}
use Rattle.kernel_ir.specs.Limits.{LayoutFits, LayoutsFit, most_words}
use Rattle.kernel_ir.proofs.LayoutLaws.{content_stays, content_behind}
use Rattle.storage_layout.specs.declared.layouts.LaidType.{LaidType}
use Rattle.storage_layout.specs.declared.layouts.LaidType.TheVariants.{First, Composite}
use Rattle.storage_layout.specs.Layouts.{HasWord, Layouts, layouts_before, with_layout, bounds, with_component, with_components, component_number, component_numbers}
use Rattle.lower.specs.Standing.{IsNamed}
use Rattle.lower.proofs.Contents.{Meets, MeetAll, word_met, none_met, more_met}
use Rattle.lower.proofs.LaidLists.{get_front, get_last, get_either, none_within, everywhere_last, first_ones, fit_last, contents_last, found}

-- what stays where it is as layouts come behind
abbrev pub Stays : Layouts → Layouts → Type 0
Stays ls ms = (x : ℕ) (t : LaidType) → slice_get ls.laid x ≡ Some t → slice_get ms.laid x ≡ Some t

abbrev pub IsLaid : Layouts → (i n : ℕ) → Type 0
IsLaid ls i n = (x : ℕ) × (slice_get ls.laid x ≡ Some (Composite i n))

pub laid_stays : (ls ms : Layouts) (i n : ℕ) → Stays ls ms → IsLaid ls i n → IsLaid ms i n
laid_stays ls ms i n stays laid = (laid.0, stays laid.0 (Composite i n) laid.1)

-- a component of the type with a number in an instance
abbrev pub part : (i n : ℕ) → Subtype → TypeIn
part i n t = record { instance = i; subtype = t; below = n }

-- a range with these bounds
abbrev pub range_with : Bounds → Range
range_with b = record { first = b.low; last = b.high }

abbrev IsFew : Content → Type 0
IsFew c = length c.words ≤ most_words

module _ (p : Program) where
  -- the shape of a type by its number
  abbrev pub shape_at : (i n : ℕ) → Shape
  shape_at i n = numbered_shape p i n (slice_get (types_of p.types) n)

  -- the content of what is laid out
  abbrev pub HasContent : LaidType → Content → Type 0
  HasContent (First x) c = c ≡ record { words = x ∷ []; cost = 1 }
  HasContent (Composite i n) c = Meets (shape_at i n) c

  pub record AreLaid (ls : Layouts) : Type 0 where
    pub many : length ls.laid ≡ length ls.layouts
    pub fit : Everywhere HasWord ls.layouts → LayoutsFit 0 ls.layouts
    pub small : Everywhere IsFew (contents_after [] ls.layouts)
    pub right : (x : ℕ) (t : LaidType) → slice_get ls.laid x ≡ Some t → HasContent t (content_in ls.layouts x)

  pub none_laid : AreLaid (record { laid = []; layouts = [] })
  none_laid = record { many = refl; fit = λ all. tt; small = tt; right = λ x t there. absurd (none-some t there) }

  -- one more layout
  module _ (ls : Layouts) (t : LaidType) (l : Layout) (are : AreLaid ls) (has : HasContent t (content_of (contents_after [] ls.layouts) l)) where
    right_behind : (x : ℕ) (u : LaidType) → slice_get (ls.laid ++ t ∷ []) x ≡ Some u → HasContent u (content_in (ls.layouts ++ l ∷ []) x)
    right_behind x u there = by_place (get_either ls.laid t x u there)
      where
        by_place : (slice_get ls.laid x ≡ Some u) ⊎ ((x ≡ length ls.laid) × (t ≡ u)) → HasContent u (content_in (ls.layouts ++ l ∷ []) x)
        by_place (inl before) =
            let less : x < length ls.laid = slice_get_within ls.laid x u before in
            subst (HasContent u) (sym (content_stays ls.layouts (l ∷ []) x (let m = are.many in omega (arith, less, m)))) (are.right x u before)
        by_place (inr last) =
            subst (λ v. HasContent v (content_in (ls.layouts ++ l ∷ []) x)) last.1
            (subst (HasContent t) (sym (ap (content_in (ls.layouts ++ l ∷ [])) (last.0 ∙ are.many) ∙ content_behind ls.layouts l)) has)

    pub laid_behind : (HasWord l → LayoutFits (length ls.layouts) l) → length (content_of (contents_after [] ls.layouts) l).words ≤ most_words → AreLaid (with_layout t l ls)
    laid_behind fits few = record {
      many = let m = are.many in omega (arith, m, length-append ls.laid (t ∷ []), length-append ls.layouts (l ∷ []));
      fit = λ all. (let parts = first_ones HasWord ls.layouts l all in fit_last 0 (length ls.layouts) ls.layouts l (omega arith) (are.fit parts.0) (fits parts.1));
      small = subst (Everywhere IsFew) (sym (contents_last [] ls.layouts l)) (everywhere_last IsFew (contents_after [] ls.layouts) (content_of (contents_after [] ls.layouts) l) are.small few);
      right = right_behind;
    }

  -- those of the types before one, in each instance in which they stand
  abbrev pub AreEarlier : Layouts → (n : ℕ) → Type 0
  AreEarlier ls n = (m j : ℕ) (d : TypeDeclaration) → m < n → slice_get p.types m ≡ Some d → StandsIn (program_of p) d.generic j → IsLaid ls j m

  pub earlier_stays : (ls ms : Layouts) (n : ℕ) → Stays ls ms → AreEarlier ls n → AreEarlier ms n
  earlier_stays ls ms n stays earlier m j d less there stands = laid_stays ls ms j m stays (earlier m j d less there stands)

  pub named_laid : (ls : Layouts) (below m j : ℕ) → below ≤ length p.types → AreEarlier ls below → m < below
      → IfSome (slice_get p.types m) (λ d. StandsIn (program_of p) d.generic j) → IsLaid ls j m
  named_laid ls below m j known earlier less stands = by_type (slice_get p.types m) refl stands
    where
      by_type : (o : Option TypeDeclaration) → slice_get p.types m ≡ o → IfSome o (λ d. StandsIn (program_of p) d.generic j) → IsLaid ls j m
      by_type None none stands = absurd (none_within p.types m (omega (arith, known, less)) none)
      by_type (Some d) there stands = earlier m j d less there stands

  -- the components of types in an instance
  module _ (i : ℕ) where
    abbrev low : ScalarRange → ℤ
    low r = (bounds p i (scalar_range_of r)).low

    abbrev pub laid_as : Subtype → LaidType
    laid_as (subtype.Scalar r) = First (low r)
    laid_as (subtype.Composite o m) = Composite (owner_in i (owner_of o)) m

    pub layout_stays : (t : LaidType) (l : Layout) (ls : Layouts) → Stays ls (with_layout t l ls)
    layout_stays t l ls x u there = get_front ls.laid (t ∷ []) x u there

    pub component_stays : (t : Subtype) (ls : Layouts) → Stays ls (with_component p i t ls)
    component_stays (subtype.Scalar r) ls x u there = get_front ls.laid (First (low r) ∷ []) x u there
    component_stays (subtype.Composite o m) ls x u there = there

    pub components_stay : (ts : List Subtype) (ls : Layouts) → Stays ls (with_components p i ts ls)
    components_stay [] ls x u there = there
    components_stay (t ∷ ts) ls x u there = components_stay ts (with_component p i t ls) x u (component_stays t ls x u there)

    pub component_laid : (t : Subtype) (ls : Layouts) → AreLaid ls → AreLaid (with_component p i t ls)
    component_laid (subtype.Scalar r) ls are = laid_behind ls (First (low r)) (layout.Word (low r)) are refl (λ fits. fits) (omega arith)
    component_laid (subtype.Composite o m) ls are = are

    pub components_laid : (ts : List Subtype) (ls : Layouts) → AreLaid ls → AreLaid (with_components p i ts ls)
    components_laid [] ls are = are
    components_laid (t ∷ ts) ls are = components_laid ts (with_component p i t ls) (component_laid t ls are)

    -- a component of the type with a number, whose layout stays as others come behind it
    module _ (n : ℕ) (known : n ≤ length p.types) (ms : Layouts) (are : AreLaid ms) where
      pub component_found : (t : Subtype) (ls : Layouts) → AreEarlier ls n → IsNamed p i n t → Stays (with_component p i t ls) ms
          → slice_get ms.laid (component_number i ls.laid t) ≡ Some (laid_as t)
      component_found (subtype.Scalar r) ls earlier named stays = stays (length ls.laid) (First (low r)) (get_last ls.laid (First (low r)))
      component_found (subtype.Composite o m) ls earlier named stays =
          let j : ℕ = owner_in i (owner_of o) in
          let laid = named_laid ls n m j known earlier named.0 named.1 in
          stays (layouts_before j m ls.laid) (Composite j m) (found ls.laid j m laid.0 laid.1)

      pub found_within : (x : ℕ) (t : LaidType) → slice_get ms.laid x ≡ Some t → x < length ms.layouts
      found_within x t there = let m = are.many in omega (arith, m, slice_get_within ms.laid x t there)

      scalar_meets : (r : ScalarRange) (x k : ℕ) → type_size (values_of (program_of p)) i (type_of p (part i n (subtype.Scalar r))) ≡ Some k
          → slice_get ms.laid x ≡ Some (First (low r)) → Meets (shape_of p (part i n (subtype.Scalar r))) (content_in ms.layouts x)
      scalar_meets r x k has there = by_bounds (static_bounds (values_of (program_of p)) i (scalar_range_of r)) refl has
        where
          by_bounds : (o : Option Bounds) → static_bounds (values_of (program_of p)) i (scalar_range_of r) ≡ o → option_map (λ b. 1) o ≡ Some k
              → Meets (shape_of p (part i n (subtype.Scalar r))) (content_in ms.layouts x)
          by_bounds None is sized = absurd (none-some k sized)
          by_bounds (Some b) is sized =
              let lowest : low r ≡ b.low = ap (λ o. (unwrap_or {T = Bounds} o (record { low = pos 0; high = pos 0 })).low) is in
              let content = are.right x (First (low r)) there ∙ ap (λ y. record { words = y ∷ []; cost = 1 }) lowest in
              subst (λ s. Meets s (content_in ms.layouts x)) (scalar_form p i n r (range_with b) is) (subst (Meets (word b)) (sym content) (word_met b))

      pub component_meets : (t : Subtype) (x k : ℕ) → type_size (values_of (program_of p)) i (type_of p (part i n t)) ≡ Some k → IsNamed p i n t
          → slice_get ms.laid x ≡ Some (laid_as t) → Meets (shape_of p (part i n t)) (content_in ms.layouts x)
      component_meets (subtype.Scalar r) x k has named there = scalar_meets r x k has there
      component_meets (subtype.Composite o m) x k has named there =
          subst (λ s. Meets s (content_in ms.layouts x)) (named_before p i n o m named.0) (are.right x (Composite (owner_in i (owner_of o)) m) there)

      -- what has a size has parts with sizes
      both_sized : (a b : Option ℕ) (k : ℕ) → option_and_then (λ l. sum_with l b) a ≡ Some k → ((l : ℕ) × (a ≡ Some l)) × ((l : ℕ) × (b ≡ Some l))
      both_sized None b k has = absurd (none-some k has)
      both_sized (Some l) None k has = absurd (none-some k has)
      both_sized (Some l) (Some m) k has = ((l, refl), (m, refl))

      -- the components of a record
      pub components_meet : (ts : List Subtype) (ls : Layouts) (k : ℕ) → AreEarlier ls n → Everywhere (IsNamed p i n) ts → Stays (with_components p i ts ls) ms
          → components_size (values_of (program_of p)) i (unfolded_components (take n (types_of p.types)) (view.components_of ts)) ≡ Some k
          → MeetAll (shapes_of p i n ts) (joined (contents_after [] ms.layouts) (component_numbers p i ls ts))
          × Everywhere (λ l. l < length ms.layouts) (component_numbers p i ls ts)
      components_meet [] ls k earlier named stays has = (none_met, tt)
      components_meet (t ∷ ts) ls k earlier named stays has =
          let next : Layouts = with_component p i t ls in
          let sizes = both_sized (type_size (values_of (program_of p)) i (type_of p (part i n t)))
          (components_size (values_of (program_of p)) i (unfolded_components (take n (types_of p.types)) (view.components_of ts))) k has in
          let there = component_found t ls earlier named.0 (λ x u at. stays x u (components_stay ts next x u at)) in
          let rest = components_meet ts next sizes.1.0 (earlier_stays ls next n (component_stays t ls) earlier) named.1 stays sizes.1.1 in (
            more_met (shape_of p (part i n t)) (shapes_of p i n ts) (content_in ms.layouts (component_number i ls.laid t))
                (joined (contents_after [] ms.layouts) (component_numbers p i next ts))
                (component_meets t (component_number i ls.laid t) sizes.0.0 sizes.0.1 named.0 there) rest.0,
            (found_within (component_number i ls.laid t) (laid_as t) there, rest.1),
          )
