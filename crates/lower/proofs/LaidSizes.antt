-- The layouts of a program's types are no more, and their routines no longer, than the weight of the types' declarations allows.
use Rattle.std.proofs.Common.{◌≡◌, ℕ, zero, suc, ◌+◌, ◌*◌, ◌≤◌, nat_eq, ℤ, Bool, true, false, List, [], ◌∷◌, ◌++◌, length, map, sum_by, Option, None, Some, slice_get, refl, sym, ap, subst, ◌∙◌, arith, length-append}
use Rattle.std.specs.Prelude.{pos, if◌then◌else◌}
use Rattle.std.proofs.lemmas.List.{length-map}
use Rattle.std.proofs.lemmas.List.Sums.{sum_by-cons, sum_by_push}
use Rattle.ada_meaning.specs.Arithmetic.{count_between}
use Rattle.ada_meaning.specs.Bodies.{instances_from, instances_of}
use Rattle.ada_meaning.specs.Program as meaning
use Rattle.ada_tree.specs.declared.program.Program.{Program}
use Rattle.ada_tree.specs.declared.types.CompositeType.{CompositeType}
use Rattle.ada_tree.specs.declared.types.CompositeType.TheVariants as composite
use Rattle.ada_tree.specs.declared.types.Owner.TheVariants as owner
use Rattle.ada_tree.specs.declared.types.Subtype.{Subtype}
use Rattle.ada_tree.specs.declared.types.Subtype.TheVariants as subtype
use Rattle.ada_tree.specs.declared.types.TypeDeclaration.{TypeDeclaration}
use Rattle.ada_tree.specs.Objects.{capped}
use Rattle.ada_tree.specs.Programs.{instance_of}
use Rattle.ada_tree.specs.View.{scalar_range_of}
use Rattle.ada_tree.specs.Weights.{definition_nodes, type_nodes}
use Rattle.ada_resolved.specs.Forms.{named_type, shape_of}
use Rattle.ada_resolved.specs.Library.{stands_in, has_text}
use Rattle.ada_resolved.specs.Sizes.{words}
use Rattle.generic_expand.specs.Limits.{declared_copies, types_weight}
use Rattle.kernel_ir.specs.declared.kernel.Layout.{Layout}
use Rattle.kernel_ir.specs.declared.kernel.Layout.TheVariants as layout
use Rattle.kernel_ir.specs.Limits.{layout_instructions}
use Rattle.statement_code.specs.Copies.{AreCovered}
use Rattle.statement_code.specs.Sizes.{node_instructions}
use Rattle.storage_layout.specs.declared.layouts.LaidType.TheVariants.{Composite}
use Rattle.storage_layout.specs.Layouts.{Layouts, no_layouts, bounds, with_layout, with_component, with_components, component_number, component_numbers, with_parts, definition_layout, with_definition, with_type_in, with_type_in_all, with_types, layouts_of}

-- in how many of so many instances from one on what is declared in a generic, or in none, stands
abbrev standing : List meaning.Instance → Option ℕ → (count i : ℕ) → ℕ
standing is g zero i = 0
standing is g (suc count) i = (if stands_in is g i then 1 else 0) + standing is g count (i + 1)

in_none : (is : List meaning.Instance) (count i k : ℕ) → i ≡ suc k → standing is None count i ≡ 0
in_none is zero i k at = refl
in_none is (suc count) i k at =
    omega (arith, ap {B = ℕ} (λ j. if stands_in is None j then 1 else 0) at, in_none is count (i + 1) i (omega arith))

one_longer : {X : Type 0} (b : Bool) (x : X) (xs : List X) → length (if b then x ∷ xs else xs) ≡ (if b then 1 else 0) + length xs
one_longer true x xs = omega arith
one_longer false x xs = omega arith

in_some : (is xs : List meaning.Instance) (g i k n : ℕ) → i ≡ suc k → ((m : ℕ) → slice_get is (k + m) ≡ slice_get xs m)
    → standing is (Some g) (length xs) i ≡ length (instances_from g n xs)
in_some is [] g i k n at behind = refl
in_some is (x ∷ xs) g i k n at behind =
    let here : slice_get is k ≡ Some x = ap (slice_get is) (let e : k ≡ k + 0 = omega arith in e) ∙ behind 0 in
    let tested : stands_in is (Some g) i ≡ nat_eq x.generic g = ap (stands_in is (Some g)) at ∙ ap (has_text g) here in
    let rest = in_some is xs g (i + 1) (k + 1) (n + 1) (omega (arith, at))
    (λ m. ap (slice_get is) (let e : k + 1 + m ≡ k + suc m = omega arith in e) ∙ behind (suc m)) in
    ap (λ b. (if b then 1 else 0) + standing is (Some g) (length xs) (i + 1)) tested
    ∙ ap (λ m. (if nat_eq x.generic g then 1 else 0) + m) rest ∙ sym (one_longer (nat_eq x.generic g) n (instances_from g (n + 1) xs))

copies_are : (is : List meaning.Instance) (g : Option ℕ) (count : ℕ) → count ≡ suc (length is) → standing is g count 0 ≡ length (instances_of g is)
copies_are is g zero e = absurd (omega (arith, e))
copies_are is None (suc count) e = let rest = in_none is count 1 0 refl in omega (arith, rest)
copies_are is (Some g) (suc count) e =
    let same : count ≡ length is = omega (arith, e) in
    let first : 0 + standing is (Some g) count 1 ≡ standing is (Some g) count 1 = omega arith in
    first ∙ ap (λ c. standing is (Some g) c 1) same ∙ in_some is is g 1 0 1 refl (λ m. ap (slice_get is) (let k : 0 + m ≡ m = omega arith in k))

numbers_many : (p : Program) (i : ℕ) (ts : List Subtype) (ls : Layouts) → length (component_numbers p i ls ts) ≡ length ts
numbers_many p i [] ls = refl
numbers_many p i (t ∷ ts) ls = ap suc (numbers_many p i ts (with_component p i t ls))

times_one_more : (n k : ℕ) → n * (1 + k) ≡ n + n * k
times_one_more n k = grind arith

-- What layouts come to by a measure of each, where nodes allow so much: one for a scalar component, and six beside for an array or a record.
module _ (p : Program) (G : List Layout → ℕ) (F : Layout → ℕ) (W E : ℕ → ℕ)
    (push : (ls : List Layout) (l : Layout) → G (ls ++ l ∷ []) ≡ G ls + F l)
    (sum : (a b : ℕ) → W (a + b) ≡ W a + W b) (none : E 0 ≡ 0) (next : (n : ℕ) → E (suc n) ≡ E 1 + E n)
    (word : (x : ℤ) → F (layout.Word x) + E 1 ≤ W 1) (array : (k l : ℕ) → F (layout.Array k l) ≤ W 6)
    (fields : (ns : List ℕ) → F (layout.Record ns) ≤ W 6 + E (length ns)) where
  more : (n : ℕ) → W (suc n) ≡ W 1 + W n
  more n = ap W (let e : suc n ≡ 1 + n = omega arith in e) ∙ sum 1 n

  module _ (i : ℕ) where
    component_covered : (t : Subtype) (ls : Layouts) → G (with_component p i t ls).layouts + E 1 ≤ G ls.layouts + W 1
    component_covered (subtype.Scalar r) ls =
        let low : ℤ = (bounds p i (scalar_range_of r)).low in omega (arith, push ls.layouts (layout.Word low), word low)
    component_covered (subtype.Composite o m) ls = omega (arith, word (pos 0))

    components_covered : (ts : List Subtype) (ls : Layouts) → G (with_components p i ts ls).layouts + E (length ts) ≤ G ls.layouts + W (length ts)
    components_covered [] ls = omega (arith, none)
    components_covered (t ∷ ts) ls =
        omega (arith, next (length ts), more (length ts), component_covered t ls, components_covered ts (with_component p i t ls))

    behind_covered : (n : ℕ) (e : CompositeType) (ls : Layouts)
        → G (with_layout (Composite i n) (definition_layout p i ls e) (with_parts p i e ls)).layouts ≤ G ls.layouts + W (definition_nodes e)
    behind_covered n (composite.Array r t) ls =
        omega (
          arith,
          push (with_component p i t ls).layouts (definition_layout p i ls (composite.Array r t)),
          array (capped (count_between (bounds p i (scalar_range_of r)).low (bounds p i (scalar_range_of r)).high)) (component_number i ls.laid t),
          component_covered t ls,
          sum 6 1,
        )
    behind_covered n (composite.Record ts) ls =
        omega (
          arith,
          push (with_components p i ts ls).layouts (layout.Record (component_numbers p i ls ts)),
          fields (component_numbers p i ls ts),
          ap E (numbers_many p i ts ls),
          components_covered ts ls,
          sum 6 (length ts),
        )

    least : (e : CompositeType) → W 6 ≤ W (definition_nodes e)
    least (composite.Array r t) = omega (arith, sum 6 1)
    least (composite.Record ts) = omega (arith, sum 6 (length ts))

    definition_covered : (n : ℕ) (e : CompositeType) (ls : Layouts) → G (with_definition p i n e ls).layouts ≤ G ls.layouts + W (definition_nodes e)
    definition_covered n e ls = by_test (nat_eq (words (shape_of p (named_type p i (subtype.Composite owner.Here n)))) 0)
      where
        by_test : (b : Bool)
            → G (if b then with_layout (Composite i n) (layout.Record []) ls else with_layout (Composite i n) (definition_layout p i ls e) (with_parts p i e ls)).layouts
            ≤ G ls.layouts + W (definition_nodes e)
        by_test true = omega (arith, push ls.layouts (layout.Record []), fields [], none, least e)
        by_test false = behind_covered n e ls

  abbrev stands : TypeDeclaration → ℕ → Bool
  stands d i = stands_in (map instance_of p.instances) d.generic i

  one_covered : (i n : ℕ) (d : TypeDeclaration) (ls : Layouts) → G (with_type_in p i n d ls).layouts ≤ G ls.layouts + W (type_nodes d * (if stands d i then 1 else 0))
  one_covered i n d ls = by_test (stands d i)
    where
      by_test : (b : Bool) → G (if b then with_definition p i n d.definition ls else ls).layouts ≤ G ls.layouts + W (type_nodes d * (if b then 1 else 0))
      by_test true =
          subst (λ k. G (with_definition p i n d.definition ls).layouts ≤ G ls.layouts + W k)
          (let e : type_nodes d ≡ type_nodes d * 1 = omega arith in e) (definition_covered i n d.definition ls)
      by_test false = omega arith

  instances_covered : (count i n : ℕ) (d : TypeDeclaration) (ls : Layouts)
      → G (with_type_in_all p count i n d ls).layouts ≤ G ls.layouts + W (type_nodes d * standing (map instance_of p.instances) d.generic count i)
  instances_covered zero i n d ls = omega arith
  instances_covered (suc count) i n d ls =
      omega (
        arith,
        one_covered i n d ls,
        instances_covered count (i + 1) n d (with_type_in p i n d ls),
        sum (type_nodes d * (if stands d i then 1 else 0)) (type_nodes d * standing (map instance_of p.instances) d.generic count (i + 1)),
        ap W (spread (type_nodes d) (if stands d i then 1 else 0) (standing (map instance_of p.instances) d.generic count (i + 1))),
      )
    where
      spread : (n a b : ℕ) → n * (a + b) ≡ n * a + n * b
      spread n a b = grind arith

  types_covered : (ts : List TypeDeclaration) (n : ℕ) (ls : Layouts)
      → G (with_types p n ts ls).layouts ≤ G ls.layouts + W (sum_by (λ t. type_nodes t * declared_copies p t.generic) ts)
  types_covered [] n ls = omega arith
  types_covered (d ∷ ts) n ls =
      let copies : standing (map instance_of p.instances) d.generic (length p.instances + 1) 0 ≡ declared_copies p d.generic =
      copies_are (map instance_of p.instances) d.generic (length p.instances + 1) (let e = length-map p.instances instance_of in omega (arith, e)) in
      omega (
        arith,
        instances_covered (length p.instances + 1) 0 n d ls,
        ap (λ k. W (type_nodes d * k)) copies,
        types_covered ts (n + 1) (with_type_in_all p (length p.instances + 1) 0 n d ls),
        ap W (sum_by-cons (λ t. type_nodes t * declared_copies p t.generic) d ts),
        sum (type_nodes d * declared_copies p d.generic) (sum_by (λ t. type_nodes t * declared_copies p t.generic) ts),
      )

  all_covered : G [] ≡ 0 → G (layouts_of p).layouts ≤ W (types_weight p)
  all_covered empty = let all = types_covered p.types 0 no_layouts in omega (arith, all, empty)

pub covered_law : (p : Program) → AreCovered (layouts_of p).layouts (types_weight p)
covered_law p = record {
  few = all_covered p length (λ l. 1) (λ n. n) (λ n. 0) (λ ls l. length-append ls (l ∷ [])) (λ a b. refl) refl (λ n. refl)
      (λ x. omega arith) (λ k l. omega arith) (λ ns. omega arith) refl;
  short = all_covered p (sum_by layout_instructions) layout_instructions (λ n. node_instructions * n) (λ n. 2 * n) (sum_by_push layout_instructions)
      (λ a b. spread a b) refl (λ n. omega arith) (λ x. omega arith) (λ k l. omega arith) (λ ns. omega arith) refl;
}
  where
    spread : (a b : ℕ) → 60 * (a + b) ≡ 60 * a + 60 * b
    spread a b = omega arith
