-- The body of a subprogram is laid out in its frame.
use Rattle.std.proofs.Common.{◌≡◌, ℕ, zero, suc, ◌+◌, ◌<◌, ◌≤◌, ◌⊎◌, inl, inr, true, false, List, [], ◌∷◌, length, map, Option, Some, option_map, slice_get, refl, sym, ap, ◌∙◌, subst, arith}
use Rattle.std.specs.Prelude.{unwrap_or}
use Rattle.std.proofs.lemmas.Option.{slice_get-map}
use Rattle.std.proofs.lemmas.List.{length-map}
use Rattle.cov_base.specs.Lists.{Everywhere}
use Rattle.ada_meaning.specs.Arithmetic.{base_range}
use Rattle.ada_meaning.specs.Bodies.{StandsIn}
use Rattle.ada_meaning.specs.Declared.{object_shape, object_shapes}
use Rattle.ada_meaning.specs.Objects.{block_objects, objects_of}
use Rattle.ada_meaning.specs.Obligations.{numbers}
use Rattle.ada_meaning.specs.Program as meaning
use Rattle.ada_meaning.specs.Resolved.{ResolvedParameter, parameter_in, shape_in}
use Rattle.ada_meaning.specs.Shape.{Shape, word, row, group}
use Rattle.ada_meaning.specs.Tree as tree
use Rattle.ada_meaning.specs.WellFormed.{IsType, IsSubprogram}
use Rattle.ada_tree.specs.declared.program.Parameter.{Parameter}
use Rattle.ada_tree.specs.declared.program.Program.{Program}
use Rattle.ada_tree.specs.declared.program.Subprogram.{Subprogram}
use Rattle.ada_tree.specs.declared.types.Subtype.{Subtype}
use Rattle.ada_tree.specs.declared.types.Subtype.TheVariants as subtype
use Rattle.ada_tree.specs.Objects.{capped}
use Rattle.ada_tree.specs.Programs.{mode_of, parameter_of, program_of, subprogram_of, types_of}
use Rattle.ada_resolved.specs.Forms.{named_type, shape_of}
use Rattle.ada_resolved.specs.Sizes.{words}
use Rattle.frame_widths.specs.Ends.{end_of_block, end_of_declarations}
use Rattle.kernel_ir.specs.Layouts.{content_in}
use Rattle.kernel_ir.specs.Limits.{most_words, widest}
use Rattle.statement_code.specs.Programs.{Plan, slot_in_plan, size_in_plan, AreLaid}
use Rattle.statement_code.specs.Sizes.{block_nodes}
use Rattle.statement_code.specs.Statements.{HasLayout}
use Rattle.statement_code.specs.Laid.{IsParameterPlaced, AreParametersPlaced}
use Rattle.statement_code.specs.Values.{arguments, in_frame, IsComposite, IsWord}
use Rattle.statement_code.proofs.Formed.{type_words}
use Rattle.statement_code.proofs.Narrow.{frame_narrow}
use Rattle.storage_layout.specs.declared.frames.LocalObject.{LocalObject}
use Rattle.storage_layout.specs.Frames.{is_scalar, objects_of_frame, base_of_frame}
use Rattle.storage_layout.specs.Layouts.{layouts_of}
use Rattle.storage_layout.specs.Library.{library_places}
use Rattle.generic_expand.specs.declared.copies.BodyCopy.{BodyCopy}
use Rattle.lower.specs.Context.{Surroundings, layout_at, layout_by, layout_named, shape_by, shape_named}
use Rattle.lower.specs.Kernel.{surroundings_in}
use Rattle.lower.specs.Schemes.{plan_in}
use Rattle.lower.specs.Standing.{AreTypesNamed, IsNamed, IsSized, IsWithinLimits, size_of, words_of_objects}
use Rattle.lower.proofs.Frames.{AllPlaced, ArePlanned, AreSome, IsNone, StandsAt, all_placed, bare_law, composite_at, final_high, final_is, frame_law, parameters_stand, size, total, true_is_no_false}
use Rattle.lower.proofs.Numbered.{before_at, each_below, everywhere_at, everywhere_from, everywhere_map, found_within, item_at, number_at, subtypes_are, taken_at}
use Rattle.lower.proofs.LaidObjects.{has_layout, is_filled, layout_number}
use Rattle.lower.proofs.Types.{composite_shape, meant, named_shape}
use Rattle.lower.proofs.Unfolded.{block_ends}

-- a frame has a slot behind the objects
declarations_above : (k : ℕ) (ds : List tree.Declaration) → k < end_of_declarations k ds
declarations_above k [] = omega arith
declarations_above k (d ∷ ds) = omega (arith, declarations_above k ds)

block_above : (k : ℕ) (b : tree.Block) → k < end_of_block k b
block_above k (tree.block ds ss hs) = omega (arith, declarations_above k ds)

same_item : {X : Type 0} (o : Option X) (x y : X) → o ≡ Some x → o ≡ Some y → x ≡ y
same_item o x y is also = ap (λ o. unwrap_or o x) (sym is ∙ also)

module _ (p : Program) (copies : List BodyCopy) (inst : ℕ) (s : Subprogram) where
  abbrev P : meaning.Program
  P = program_of p

  abbrev declared : meaning.Subprogram
  declared = subprogram_of (types_of p.types) s

  abbrev c : Surroundings
  c = surroundings_in p (library_places p) copies (layouts_of p).laid inst s

  abbrev plan : Plan
  plan = plan_in p copies inst s

  abbrev count : ℕ
  count = length s.parameters

  abbrev objects : List LocalObject
  objects = objects_of_frame p inst count s.objects

  -- an object by its number: its subtype, and where it stands
  record At (i : ℕ) : Type 0 where
    subtype : Subtype
    of : slice_get s.objects i ≡ Some subtype
    object : LocalObject
    at : slice_get objects i ≡ Some object
    same : object.subtype ≡ subtype

  object_at : (i : ℕ) → i < length s.objects → At i
  object_at i less =
      let subtypes : map (λ (o : LocalObject). o.subtype) objects ≡ s.objects = subtypes_are p inst count 0 (capped count) s.objects in
      let long : length objects ≡ length s.objects = sym (length-map objects (λ (o : LocalObject). o.subtype)) ∙ ap length subtypes in
      let one = item_at s.objects i less in
      let other = item_at objects i (omega (arith, less, long)) in
      let seen : slice_get s.objects i ≡ Some other.item.subtype =
      ap (λ (ts : List Subtype). slice_get ts i) (sym subtypes) ∙ slice_get-map (λ (o : LocalObject). o.subtype) objects i ∙ ap (option_map (λ (o : LocalObject). o.subtype)) other.at in
      record { subtype = one.item; of = one.at; object = other.item; at = other.at; same = same_item (slice_get s.objects i) other.item.subtype one.item seen one.at }

  -- its shape in the frame
  shape_at : (i : ℕ) (a : At i) → shape_by c (tree.local_object i) ≡ shape_of p (named_type p inst a.subtype)
  shape_at i a =
      ap (λ (o : Option LocalObject). shape_named p (option_map (λ x. named_type p inst x.subtype) o)) a.at
      ∙ ap (λ (t : Subtype). shape_of p (named_type p inst t)) a.same

  module _ (limits : IsWithinLimits p) (m : ℕ) (at : slice_get p.subprograms m ≡ Some s) (stands : StandsIn P s.generic inst) (formed : IsSubprogram P inst declared) where
    -- an object's subtype has a size, and objects of it the shape that they are meant to have
    sized_at : (i : ℕ) (t : Subtype) → slice_get s.objects i ≡ Some t → IsSized (size_of p inst t)
    sized_at i t of = everywhere_at (λ t. IsSized (size_of p inst t)) s.objects i t (limits.sized m inst s at stands) of

    meant_at : (i : ℕ) (t : Subtype) → slice_get s.objects i ≡ Some t → slice_get (object_shapes P inst declared) i ≡ Some (shape_of p (named_type p inst t))
    meant_at i t of =
        slice_get-map (shape_in P inst) declared.objects i
        ∙ (ap (option_map (shape_in P inst)) (slice_get-map (meant p) s.objects i ∙ ap (option_map (meant p)) of)
        ∙ ap Some (sym (named_shape p inst t (sized_at i t of))))

    typed_at : (i : ℕ) (t : Subtype) → slice_get s.objects i ≡ Some t → IsType (shape_of p (named_type p inst t))
    typed_at i t of = everywhere_at IsType (object_shapes P inst declared) i (shape_of p (named_type p inst t)) formed.types (meant_at i t of)

    some_at : (i : ℕ) (t : Subtype) → slice_get s.objects i ≡ Some t → 1 ≤ size p inst t
    some_at i t of = type_words (shape_of p (named_type p inst t)) (typed_at i t of)

    one_at : (i : ℕ) (t : Subtype) → slice_get s.objects i ≡ Some t → is_scalar t ≡ true → size p inst t ≡ 1
    one_at i (subtype.Scalar r) of is = ap words (named_shape p inst (subtype.Scalar r) (sized_at i (subtype.Scalar r) of))
    one_at i (subtype.Composite o n) of is = absurd (true_is_no_false (sym is))

    shapes_same : (i : ℕ) (a : At i) → object_shape P inst declared (tree.local_object i) ≡ shape_by c (tree.local_object i)
    shapes_same i a = ap (λ (o : Option Shape). unwrap_or o (word base_range)) (meant_at i a.subtype a.of) ∙ sym (shape_at i a)

    -- the objects are placed
    few_parameters : count ≤ 16
    few_parameters = let long : length declared.parameters ≡ count = length-map s.parameters (parameter_of (types_of p.types)) in omega (arith, formed.few, long)

    few_objects : (ts : List Subtype) → Everywhere (λ t. 1 ≤ size p inst t) ts → length ts ≤ total p inst ts
    few_objects [] some = omega arith
    few_objects (t ∷ ts) some = omega (arith, some.0, few_objects ts some.1)

    all_words : (ts : List Subtype) → words_of_objects p inst ts ≡ total p inst ts
    all_words [] = refl
    all_words (t ∷ ts) = ap (λ n. size p inst t + n) (all_words ts)

    small : total p inst s.objects ≤ 2048
    small = let e = all_words s.objects in let l = limits.declared m inst s at stands in omega (arith, e, l)

    some : Everywhere (λ t. 1 ≤ size p inst t) s.objects
    some = everywhere_from (λ t. 1 ≤ size p inst t) s.objects some_at

    all : AllPlaced p inst count 0 (capped count) objects (base_of_frame p inst count s.objects)
    all = all_placed p inst count 0 (capped count) s.objects (omega (arith, few_parameters, small)) (omega (arith, small, few_objects s.objects some)) some
        (everywhere_from (λ t. is_scalar t ≡ true → size p inst t ≡ 1) s.objects one_at)

    subtypes : map (λ (o : LocalObject). o.subtype) objects ≡ s.objects
    subtypes = subtypes_are p inst count 0 (capped count) s.objects

    long : length objects ≡ length s.objects
    long = sym (length-map objects (λ (o : LocalObject). o.subtype)) ∙ ap length subtypes

    object_some : AreSome p inst objects
    object_some = everywhere_map (λ t. 1 ≤ size p inst t) (λ (o : LocalObject). o.subtype) objects (subst (λ (ts : List Subtype). Everywhere (λ t. 1 ≤ size p inst t) ts) (sym subtypes) some)

    base_low : base_of_frame p inst count s.objects ≤ 2064
    base_low =
        let up = final_high p inst objects all in
        let e : total p inst (map (λ (o : LocalObject). o.subtype) objects) ≡ total p inst s.objects = ap (total p inst) subtypes in
        omega (arith, up, e, small, few_parameters)

    planned_from : (k : ℕ) (os : List LocalObject) → ((i : ℕ) → slice_get objects (k + i) ≡ slice_get os i) → ArePlanned p inst plan k os
    planned_from k [] same = tt
    planned_from k (o ∷ os) same =
        let here : slice_get objects k ≡ Some o = ap (slice_get objects) (omega arith) ∙ same 0 in (
          record {
            framed = tt;
            slot = ap (λ (x : Option LocalObject). unwrap_or (option_map (λ y. y.slot) x) 0) here;
            size = ap (λ (x : Option LocalObject). words (shape_named p (option_map (λ y. named_type p inst y.subtype) x))) here;
          },
          planned_from (suc k) os (λ i. ap (slice_get objects) (omega arith) ∙ same (suc i)),
        )

    planned : ArePlanned p inst plan 0 objects
    planned = planned_from 0 objects (λ i. let same : 0 + i ≡ i = omega arith in ap (slice_get objects) same)

    all_numbers : numbers 0 (length objects) ≡ numbers 0 (length s.objects)
    all_numbers = ap (numbers 0) long

    low_count : count ≤ capped count
    low_count = omega (arith, few_parameters)

    pub laid : AreLaid plan plan.locals
    laid = subst (AreLaid plan) all_numbers (frame_law p inst plan count 0 (capped count) (base_of_frame p inst count s.objects) objects low_count (omega arith) object_some planned all)

    -- the frame is no wider than a frame may be
    nodes : block_nodes s.body ≤ 4096
    nodes = limits.nodes m inst s at stands

    narrow_end : end_of_block plan.base s.body + 16 ≤ widest
    narrow_end = frame_narrow plan.base s.body (omega (arith, base_low)) nodes

    pub narrow : plan.width + arguments ≤ widest
    narrow = omega (arith, narrow_end)

    pub small_base : plan.base < plan.width
    small_base = omega (arith, block_above plan.base s.body, base_low)

    pub ends : end_of_block plan.base declared.body ≤ plan.width
    ends = let e = block_ends (types_of p.types) plan.base s.body in omega (arith, e, narrow_end)

    pub few : length declared.parameters ≤ plan.base
    few =
        let e : length declared.parameters ≡ count = length-map s.parameters (parameter_of (types_of p.types)) in
        let up = final_is p inst objects object_some all in
        omega (arith, e, up, low_count)

    pub shapes : Everywhere (λ d. object_shape P inst declared (tree.local_object d) ≡ shape_by c (tree.local_object d)) plan.locals
    shapes = each_below (λ d. object_shape P inst declared (tree.local_object d) ≡ shape_by c (tree.local_object d)) (length s.objects) (λ i less. shapes_same i (object_at i less))

    part_small : (ts : List Subtype) (i : ℕ) (t : Subtype) → slice_get ts i ≡ Some t → size p inst t ≤ total p inst ts
    part_small [] i t of = absurd (subst (λ (x : Option Subtype). IsNone x) of tt)
    part_small (u ∷ ts) zero t of = let e = ap (λ (x : Option Subtype). size p inst (unwrap_or x u)) of in omega (arith, e)
    part_small (u ∷ ts) (suc i) t of = omega (arith, part_small ts i t of)

    pub sizes : Everywhere (λ d. size_in_plan plan d ≤ most_words) plan.locals
    sizes = each_below (λ d. size_in_plan plan d ≤ most_words) (length s.objects) size_small
      where
        size_small : (i : ℕ) → i < length s.objects → size_in_plan plan i ≤ most_words
        size_small i less =
            let a = object_at i less in
            let e = ap words (shape_at i a) in
            let l = part_small s.objects i a.subtype a.of in
            omega (arith, e, l, small)

    -- the layouts of its objects are those of their shapes
    module _ (named : AreTypesNamed p) where
      named_at : (i : ℕ) (t : Subtype) → slice_get s.objects i ≡ Some t → IsNamed p inst (length p.types) t
      named_at i t of = everywhere_at (IsNamed p inst (length p.types)) s.objects i t (named.objects m inst s at stands) of

      layout_at_object : (i : ℕ) (a : At i) → layout_by c i ≡ layout_number p inst a.subtype
      layout_at_object i a = ap (λ (o : Option LocalObject). layout_at c o) a.at ∙ ap (λ (t : Subtype). layout_named c t) a.same ∙ layout_same a.subtype
        where
          layout_same : (t : Subtype) → layout_named c t ≡ layout_number p inst t
          layout_same (subtype.Scalar r) = refl
          layout_same (subtype.Composite o n) = refl

      pub layouts : Everywhere (λ d. HasLayout (shape_by c (tree.local_object d)) (content_in (layouts_of p).layouts (layout_by c d))) plan.locals
      layouts = each_below (λ d. HasLayout (shape_by c (tree.local_object d)) (content_in (layouts_of p).layouts (layout_by c d))) (length s.objects) each
        where
          each : (i : ℕ) → i < length s.objects → HasLayout (shape_by c (tree.local_object i)) (content_in (layouts_of p).layouts (layout_by c i))
          each i less =
              let a = object_at i less in
              subst (λ (x : Shape × ℕ). HasLayout x.0 (content_in (layouts_of p).layouts x.1)) (λ j. (sym (shape_at i a) j, sym (layout_at_object i a) j))
              (has_layout p inst named.types a.subtype (named_at i a.subtype a.of) (typed_at i a.subtype a.of))

      pub filled : Everywhere (λ d. IsComposite (shape_by c (tree.local_object d)) → layout_by c d < length (layouts_of p).layouts) plan.locals
      filled = each_below (λ d. IsComposite (shape_by c (tree.local_object d)) → layout_by c d < length (layouts_of p).layouts) (length s.objects) each
        where
          each : (i : ℕ) → i < length s.objects → IsComposite (shape_by c (tree.local_object i)) → layout_by c i < length (layouts_of p).layouts
          each i less =
              let a = object_at i less in
              subst (λ (x : Shape × ℕ). IsComposite x.0 → x.1 < length (layouts_of p).layouts) (λ j. (sym (shape_at i a) j, sym (layout_at_object i a) j))
              (is_filled p inst named.types a.subtype (named_at i a.subtype a.of) (typed_at i a.subtype a.of))

      -- parameters stand where calls leave them
      abbrev resolved : (declaration : ℕ) → Parameter → ResolvedParameter
      resolved d q = record { declaration = d; mode = mode_of q.mode; shape = shape_in P inst (meant p q.subtype) }

      abbrev many : ℕ
      many = length declared.parameters

      subtype_at : (i : ℕ) (q : Parameter) → slice_get s.parameters i ≡ Some q → slice_get s.objects i ≡ Some q.subtype
      subtype_at i q of =
          sym (taken_at s.objects count i (found_within s.parameters i q of))
          ∙ (ap (λ (ts : List Subtype). slice_get ts i) (sym (named.parameters m s at))
          ∙ (slice_get-map (λ (x : Parameter). x.subtype) s.parameters i ∙ ap (option_map (λ (x : Parameter). x.subtype)) of))

      number_of : (i : ℕ) (q : Parameter) → slice_get s.parameters i ≡ Some q → i ≡ q.number
      number_of i q of =
          let less = found_within s.parameters i q of in
          let of_objects = found_within s.objects i q.subtype (subtype_at i q of) in
          let declarations : List ℕ = map (λ (x : meaning.Parameter). x.declaration) declared.parameters in
          let long : length declarations ≡ count = length-map declared.parameters (λ (x : meaning.Parameter). x.declaration) ∙ length-map s.parameters (parameter_of (types_of p.types)) in
          let all_long : length declared.objects ≡ length s.objects = length-map s.objects (meant p) in
          let first : slice_get (objects_of declared) i ≡ Some q.number =
          before_at declarations (block_objects declared.body) i (omega (arith, less, long))
          ∙ (slice_get-map (λ (x : meaning.Parameter). x.declaration) declared.parameters i
          ∙ ap (option_map (λ (x : meaning.Parameter). x.declaration)) (slice_get-map (parameter_of (types_of p.types)) s.parameters i ∙ ap (option_map (parameter_of (types_of p.types))) of)) in
          let second : slice_get (objects_of declared) i ≡ Some (0 + i) =
          ap (λ (xs : List ℕ). slice_get xs i) formed.numbered ∙ number_at 0 (length declared.objects) i (omega (arith, of_objects, all_long)) in
          (let e : i ≡ 0 + i = omega arith in e) ∙ same_item (slice_get (objects_of declared) i) (0 + i) q.number second first

      -- a scalar subtype has the shape of a word, and another one has none
      no_word : (q : Parameter) (i : ℕ) → slice_get s.parameters i ≡ Some q → is_scalar q.subtype ≡ false → IsWord (shape_in P inst (meant p q.subtype)) → ⊥
      no_word q i of not is =
          by_kind q.subtype not (named_at i q.subtype (subtype_at i q of)) (subst IsWord (sym (named_shape p inst q.subtype (sized_at i q.subtype (subtype_at i q of)))) is)
        where
          no_both : (x : Shape) → IsComposite x → IsWord x → ⊥
          no_both (word b) composite is = absurd composite
          no_both (row b x) composite is = absurd is
          no_both (group xs) composite is = absurd is

          by_kind : (t : Subtype) → is_scalar t ≡ false → IsNamed p inst (length p.types) t → IsWord (shape_of p (named_type p inst t)) → ⊥
          by_kind (subtype.Scalar r) not here is = absurd (true_is_no_false not)
          by_kind (subtype.Composite o n) not here is = no_both (shape_of p (named_type p inst (subtype.Composite o n))) (composite_shape p inst o n here.0) is

      no_composite : (t : Subtype) → is_scalar t ≡ true → IsComposite (shape_in P inst (meant p t)) → ⊥
      no_composite (subtype.Scalar r) is composite = absurd composite
      no_composite (subtype.Composite o n) is composite = absurd (true_is_no_false (sym is))

      parameter_at : (i : ℕ) (q : Parameter) → slice_get s.parameters i ≡ Some q → IsParameterPlaced plan many (resolved i q) i
      parameter_at i q of =
          let less : i < count = found_within s.parameters i q of in
          let of_object = subtype_at i q of in
          let a = object_at i (found_within s.objects i q.subtype of_object) in
          let subtype_is : a.object.subtype ≡ q.subtype = a.same ∙ same_item (slice_get s.objects i) a.subtype q.subtype a.of of_object in
          let many_is : many ≡ count = length-map s.parameters (parameter_of (types_of p.types)) in
          let stand = parameters_stand p inst count 0 (capped count) (base_of_frame p inst count s.objects) i objects a.object object_some all a.at (omega (arith, less)) low_count in
          let slot_is : slot_in_plan plan i ≡ a.object.slot = ap (λ (x : Option LocalObject). unwrap_or (option_map (λ y. y.slot) x) 0) a.at in
          let words_are : size p inst a.object.subtype ≡ words (shape_in P inst (meant p q.subtype)) = ap (size p inst) subtype_is ∙ ap words (named_shape p inst q.subtype (sized_at i q.subtype of_object)) in
          record { scalar = scalar a.object subtype_is slot_is stand; composite = composite a.object subtype_is slot_is many_is words_are stand; bare = bare a.object a.at subtype_is less }
        where
          scalar : (o : LocalObject) → o.subtype ≡ q.subtype → slot_in_plan plan i ≡ o.slot → StandsAt p inst count (0 + i) o
              → IsWord (shape_in P inst (meant p q.subtype)) → plan.home_of (tree.local_object i) ≡ in_frame i
          scalar o same slot (inl stands) is = ap in_frame (let l = stands.1 in omega (arith, slot, l))
          scalar o same slot (inr stands) is = absurd (no_word q i of (ap is_scalar (sym same) ∙ stands.0) is)

          composite : (o : LocalObject) → o.subtype ≡ q.subtype → slot_in_plan plan i ≡ o.slot → many ≡ count → size p inst o.subtype ≡ words (shape_in P inst (meant p q.subtype))
              → StandsAt p inst count (0 + i) o → IsComposite (shape_in P inst (meant p q.subtype)) → many + words (shape_in P inst (meant p q.subtype)) ≤ slot_in_plan plan i + 1
          composite o same slot so_many so_large (inl stands) is = absurd (no_composite q.subtype (ap is_scalar (sym same) ∙ stands.0) is)
          composite o same slot so_many so_large (inr stands) is = let l = stands.1 in omega (arith, slot, so_many, so_large, l)

          not_scalar : (t : Subtype) → IsComposite (shape_in P inst (meant p t)) → is_scalar t ≡ false
          not_scalar (subtype.Scalar r) is = absurd is
          not_scalar (subtype.Composite o n) is = refl

          bare : (o : LocalObject) → slice_get objects i ≡ Some o → o.subtype ≡ q.subtype → i < count → IsComposite (shape_in P inst (meant p q.subtype))
              → Everywhere (λ d. (slot_in_plan plan d < i) ⊎ (i + size_in_plan plan d ≤ slot_in_plan plan d)) plan.locals
          bare o here same less is =
              let at_i = composite_at p inst plan i 0 i objects o (omega arith) here (ap is_scalar same ∙ not_scalar q.subtype is) in
              subst (Everywhere (λ d. (slot_in_plan plan d < i) ⊎ (i + size_in_plan plan d ≤ slot_in_plan plan d))) all_numbers
              (bare_law p inst plan count 0 (capped count) (base_of_frame p inst count s.objects) i objects low_count less object_some planned all at_i)

      placed_from : (k : ℕ) (qs : List Parameter) → ((i : ℕ) (q : Parameter) → slice_get qs i ≡ Some q → IsParameterPlaced plan many (resolved q.number q) (k + i))
          → AreParametersPlaced plan many (map (parameter_in P inst) (map (parameter_of (types_of p.types)) qs)) k
      placed_from k [] each = tt
      placed_from k (q ∷ qs) each = (
        subst (IsParameterPlaced plan many (resolved q.number q)) (omega arith) (each 0 q refl),
        placed_from (k + 1) qs (λ i x of. subst (IsParameterPlaced plan many (resolved x.number x)) (omega arith) (each (suc i) x of)),
      )

      pub parameters : AreParametersPlaced plan many (map (parameter_in P inst) declared.parameters) 0
      parameters =
          placed_from 0 s.parameters (λ i q of. subst (λ (x : ℕ × ℕ). IsParameterPlaced plan many (resolved x.0 q) x.1) (λ j. (number_of i q of j, zero_and i j)) (parameter_at i q of))
        where
          zero_and : (i : ℕ) → i ≡ 0 + i
          zero_and i = omega arith
