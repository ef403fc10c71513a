-- What the types of the typed program weigh: what the declarations of the walk come to, in order.
use Rattle.std.proofs.Common.{◌≡◌, ℕ, suc, ◌+◌, ◌≤◌, ◌<◌, arith, List, [], ◌∷◌, ◌++◌, length, map, drop, get_or, reverse, slice_get, Option, None, unwrap_or, sum_by, if◌then◌else◌, Bool, true, false, refl, sym, ap, ◌∙◌}
use Rattle.std.proofs.lemmas.List.{append-nil, append_assoc, map-append, length-map, at_drop_more, at_drop_all}
use mathlib.Core.List.{reverse-cons}
use Rattle.std.proofs.lemmas.List.Sums.{sum_by-cons}
use Rattle.std.proofs.lemmas.Option.{unwrap_or-slice_get}
use Rattle.ada_meaning.specs.Types as meaning
use Rattle.ada_tree.specs.declared.types.CompositeType.{CompositeType}
use Rattle.ada_tree.specs.declared.types.CompositeType.TheVariants as composite
use Rattle.ada_tree.specs.declared.types.Owner.TheVariants as owner
use Rattle.ada_tree.specs.declared.types.Subtype.{Subtype}
use Rattle.ada_tree.specs.declared.types.Subtype.TheVariants as subtype
use Rattle.ada_tree.specs.declared.types.TypeDeclaration.{TypeDeclaration}
use Rattle.ada_tree.specs.Programs.{unfolded, unfolded_components, types_behind, types_of}
use Rattle.ada_tree.specs.View.{numbered, components_of, composite_of}
use Rattle.ada_tree.specs.Weights.{definition_nodes, type_nodes, stands_in}
use Rattle.ada_rules.specs.Environment.{Declares}
use Rattle.ada_entities.specs.EntityViews.{Tables}
use Rattle.ada_entities.specs.Trees.{shape_in_tree, AreIn}
use Rattle.typed_program.specs.program_walk.specs.declared.found.DeclaredType.{DeclaredType}
use Rattle.typed_program.specs.program_walk.specs.States.{types_in, subtype_there, declared_type_of}
use Rattle.program_weights.specs.TypeWeights.{component_count, shape_weight, words_weight, types_weight}
use Rattle.typed_program.specs.TypeTexts.{with_text, texts_of, IsNumbered, number_behind, AreNumbered, AreAllTexts}
use Rattle.program_weights.specs.TypeWeights.{types_weight_in, AreDeclared}

-- A definition weighs what it does unfolded.
components_unfold : (types : List meaning.Subtype) (ts : List Subtype)
    → component_count (unfolded_components types (components_of ts)) ≡ length ts
components_unfold types [] = refl
components_unfold types (t ∷ ts) = ap suc (components_unfold types ts)

definition_weight : (types : List meaning.Subtype) (d : CompositeType) → shape_weight (unfolded types (composite_of d)) ≡ definition_nodes d
definition_weight types (composite.Array r t) = refl
definition_weight types (composite.Record ts) = ap (λ n. 6 + n) (components_unfold types ts)

weights_behind : (types : List meaning.Subtype) (ts : List TypeDeclaration)
    → map shape_weight (types_behind types ts) ≡ map shape_weight types ++ map type_nodes ts
weights_behind types [] = sym (append-nil (map shape_weight types))
weights_behind types (t ∷ ts) =
    weights_behind (types ++ unfolded types (composite_of t.definition) ∷ []) ts
    ∙ (ap (λ ws. ws ++ map type_nodes ts)
    (map-append shape_weight types (unfolded types (composite_of t.definition) ∷ [])
    ∙ ap (λ w. map shape_weight types ++ w ∷ []) (definition_weight types t.definition))
    ∙ append_assoc (map shape_weight types) (type_nodes t ∷ []) (map type_nodes ts))

pub weights_of : (ts : List TypeDeclaration) → map shape_weight (types_of ts) ≡ map type_nodes ts
weights_of ts = weights_behind [] ts

-- weights by the generics in which they stand, where no weight counts nothing
module _ (F : Option ℕ → ℕ → ℕ) (nothing : (g : Option ℕ) → F g 0 ≡ 0) where
  abbrev pub paired : List (Option ℕ) → List ℕ → ℕ
  paired [] ws = 0
  paired (g ∷ gs) [] = 0
  paired (g ∷ gs) (w ∷ ws) = F g w + paired gs ws

  abbrev pub declared_by : List Declares → ℕ
  declared_by [] = 0
  declared_by (d ∷ ds) = F d.generic (words_weight d.words) + declared_by ds

  -- in whatever order
  declared_append : (ds es : List Declares) → declared_by (ds ++ es) ≡ declared_by ds + declared_by es
  declared_append [] es = omega arith
  declared_append (d ∷ ds) es = let rest = declared_append ds es in omega (arith, rest)

  declared_reverse : (ds : List Declares) → declared_by (reverse ds) ≡ declared_by ds
  declared_reverse [] = refl
  declared_reverse (d ∷ ds) =
      ap declared_by (reverse-cons d ds)
      ∙ (declared_append (reverse ds) (d ∷ [])
      ∙ (let rest = declared_reverse ds in omega (arith, rest)))

  module _ (k : Tables) where
    abbrev weight_there : Subtype → ℕ
    weight_there t = shape_weight (subtype_there k t)

    abbrev pub found_by : List DeclaredType → ℕ
    found_by [] = 0
    found_by (d ∷ ds) = F d.generic (weight_there d.word.subtype) + found_by ds

    found_is : (ds : List DeclaredType) → declared_by (map (declared_type_of k) ds) ≡ found_by ds
    found_is [] = refl
    found_is (d ∷ ds) =
        let alone : weight_there d.word.subtype + 0 ≡ weight_there d.word.subtype = omega arith in
        let one : F d.generic (weight_there d.word.subtype + 0) ≡ F d.generic (weight_there d.word.subtype) = ap (F d.generic) alone in
        let rest = found_is ds in
        omega (arith, one, rest)

    -- the types in the table from a number on, and the declarations whose numbers go on there
    abbrev left_at : ℕ → List ℕ
    left_at n = map shape_weight (drop n (types_in k))

    one_found : (t : Subtype) (g : Option ℕ) (gs : List (Option ℕ)) (n rest : ℕ) → IsNumbered n t
        → n + length (with_text t g gs) ≤ length (types_in k) → rest ≡ paired gs (left_at (number_behind n t))
        → F g (weight_there t) + rest ≡ paired (with_text t g gs) (left_at n)
    one_found (subtype.Scalar r) g gs n rest h within e = let none = nothing g in omega (arith, none, e)
    one_found (subtype.Composite (owner.Instance i) m) g gs n rest h within e = absurd h
    one_found (subtype.Composite owner.Here m) g gs n rest h within e =
        let less : n < length (types_in k) = omega (arith, within) in
        let own = ap shape_weight (ap (λ i. unwrap_or (slice_get (types_in k) i) (numbered i)) h ∙ unwrap_or-slice_get (types_in k) n (numbered n)) in
        ap (λ w. F g w + rest) own
        ∙ (ap (λ r. F g (shape_weight (get_or (types_in k) n (numbered n))) + r) e
        ∙ sym (at_drop_more (λ xs. paired (g ∷ gs) (map shape_weight xs)) (types_in k) n (numbered n) less))

    behind_within : (t : Subtype) (g : Option ℕ) (gs : List (Option ℕ)) (n count : ℕ) → n + length (with_text t g gs) ≤ count
        → number_behind n t + length gs ≤ count
    behind_within (subtype.Scalar r) g gs n count h = h
    behind_within (subtype.Composite o m) g gs n count h = omega (arith, h)

    all_found : (ds : List DeclaredType) (n : ℕ) → AreNumbered n ds → n + length (texts_of ds) ≤ length (types_in k)
        → found_by ds ≡ paired (texts_of ds) (left_at n)
    all_found [] n h within = refl
    all_found (d ∷ ds) n h within =
        one_found d.word.subtype d.generic (texts_of ds) n (found_by ds) h.0 within
        (all_found ds (number_behind n d.word.subtype) h.1 (behind_within d.word.subtype d.generic (texts_of ds) n (length (types_in k)) within))

  -- the declarations of the typed program, with the generics at their places
  abbrev nodes_by : TypeDeclaration → ℕ
  nodes_by t = F t.generic (type_nodes t)

  all_listed : (ts : List TypeDeclaration) (gs : List (Option ℕ)) (n : ℕ) → AreIn gs n ts → length gs ≡ n + length ts
      → paired (drop n gs) (map type_nodes ts) ≡ sum_by nodes_by ts
  all_listed [] gs n are complete =
      let none : length gs ≤ n = omega (arith, complete) in at_drop_all (λ hs. paired hs []) gs n none
  all_listed (t ∷ ts) gs n are complete =
      let less : n < length gs = omega (arith, complete) in
      let behind : length gs ≡ (n + 1) + length ts = omega (arith, complete) in
      let own : F (get_or gs n None) (type_nodes t) ≡ nodes_by t
      = ap (λ g. F g (type_nodes t)) (sym (are.0 ∙ unwrap_or-slice_get gs n None)) in
      at_drop_more (λ hs. paired hs (map type_nodes (t ∷ ts))) gs n None less
      ∙ (ap (λ m. m + paired (drop (n + 1) gs) (map type_nodes ts)) own
      ∙ (ap (λ m. nodes_by t + m) (all_listed ts gs (n + 1) are.1 behind)
      ∙ sym (sum_by-cons nodes_by t ts)))

  -- both are one
  module _ (k : Tables) (ds : List DeclaredType) (gs : List (Option ℕ)) (ts : List TypeDeclaration)
      (texts : AreAllTexts (length k.types.shapes) ds gs) (types : types_of ts ≡ types_in k) (are : AreIn gs 0 ts) where
    as_many_types : length (types_in k) ≡ length gs
    as_many_types = length-map k.types.shapes shape_in_tree ∙ sym texts.complete

    as_many_nodes : length gs ≡ length ts
    as_many_nodes =
        sym as_many_types
        ∙ (ap length (sym types)
        ∙ (sym (length-map (types_of ts) shape_weight) ∙ (ap length (weights_of ts) ∙ length-map ts type_nodes)))

    pub weighed : sum_by nodes_by ts ≡ declared_by (reverse (map (declared_type_of k) ds))
    weighed =
        let complete : length gs ≡ 0 + length ts = as_many_nodes ∙ omega arith in
        let all = ap length texts.are.texts in
        let many = as_many_types in
        let within : 0 + length (texts_of ds) ≤ length (types_in k) = omega (arith, all, many) in
        sym (all_listed ts gs 0 are complete)
        ∙ (ap (paired gs) (sym (weights_of ts) ∙ ap (map shape_weight) types)
        ∙ (ap (λ hs. paired hs (map shape_weight (types_in k))) texts.are.texts
        ∙ (sym (all_found k ds 0 texts.are.numbered within)
        ∙ (sym (found_is k ds) ∙ sym (declared_reverse (map (declared_type_of k) ds))))))

-- all of them, and those of one generic
all_of : (ds : List Declares) → declared_by (λ g n. n) (λ g. refl) ds ≡ types_weight ds
all_of [] = refl
all_of (d ∷ ds) = ap (λ n. words_weight d.words + n) (all_of ds)

abbrev only : Bool → ℕ → ℕ
only b n = if b then n else 0

abbrev in_one : Option ℕ → Option ℕ → ℕ → ℕ
in_one g h n = only (stands_in g h) n

nothing_in : (b : Bool) → only b 0 ≡ 0
nothing_in true = refl
nothing_in false = refl

one_of : (g : Option ℕ) (ds : List Declares) → declared_by (in_one g) (λ h. nothing_in (stands_in g h)) ds ≡ types_weight_in g ds
one_of g [] = refl
one_of g (d ∷ ds) = ap (λ n. in_one g d.generic (words_weight d.words) + n) (one_of g ds)

pub are_declared : (k : Tables) (ds : List DeclaredType) (gs : List (Option ℕ)) (ts : List TypeDeclaration)
    → AreAllTexts (length k.types.shapes) ds gs → types_of ts ≡ types_in k → AreIn gs 0 ts
    → AreDeclared ts (reverse (map (declared_type_of k) ds))
are_declared k ds gs ts texts types are = record {
  all =
      let e = weighed (λ g n. n) (λ g. refl) k ds gs ts texts types are ∙ all_of (reverse (map (declared_type_of k) ds)) in
      omega (arith, e);
  each = λ g.
      let e = weighed (in_one g) (λ h. nothing_in (stands_in g h)) k ds gs ts texts types are ∙ one_of g (reverse (map (declared_type_of k) ds)) in
      omega (arith, e);
}
