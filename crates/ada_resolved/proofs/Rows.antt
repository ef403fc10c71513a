-- What the table of sizes says.
use Rattle.std.proofs.Common.{◌≡◌, ℕ, zero, suc, ◌+◌, ◌*◌, ◌≤◌, ◌<◌, Bool, true, false, pos, List, [], ◌∷◌, ◌++◌, map, length, Option, Some, None, IfSome, option_map, option_and_then, slice_get, if◌then◌else◌, refl, sym, ap, ◌∙◌, arith, nat_lt}
use Rattle.std.specs.Prelude.{unwrap_or, nat_le}
use Rattle.std.proofs.lemmas.Bool.Decides.{nat_tests}
use Rattle.std.proofs.lemmas.Option.{slice_get-map, slice_get_past}
use Rattle.std.proofs.lemmas.List.{map-append, append_assoc}
use Rattle.ada_meaning.specs.Arithmetic.{sign_of, count_between}
use Rattle.ada_meaning.proofs.SeenShapes.{seen_bounds}
use Rattle.ada_meaning.specs.Resolved.{formal_among, constant_among}
use Rattle.ada_meaning.specs.Seen.{subtype_seen, components_seen}
use Rattle.ada_meaning.specs.Statics.{InstanceValues, in_base, computed, bounds_between, static_value, static_bounds, value_of_formal, bounds_of_formal, values_of}
use Rattle.ada_meaning.specs.Types as type
use Rattle.ada_meaning.specs.Types.{Static, static_number, static_formal, static_constant, static_first, static_last, static_length, static_sign, static_operation, static_of, Range, between, formal_range, range_of, scalar, array, fields, subtype_of, Components, no_component, and_component}
use Rattle.ada_tree.specs.declared.program.Program.{Program}
use Rattle.ada_tree.specs.declared.types.CompositeType.{CompositeType}
use Rattle.ada_tree.specs.declared.types.CompositeType.TheVariants as composite
use Rattle.ada_tree.specs.declared.types.TypeDeclaration.{TypeDeclaration}
use Rattle.ada_tree.specs.declared.types.Owner.TheVariants.{Here, Instance}
use Rattle.ada_tree.specs.declared.types.Subtype.{Subtype}
use Rattle.ada_tree.specs.declared.types.Subtype.TheVariants as subtype
use Rattle.ada_tree.specs.Programs.{instance_of, program_of, types_behind, unfolded, unfolded_components}
use Rattle.ada_tree.specs.View.{numbered, owner_of, components_of, composite_of}
use Rattle.ada_tree.specs.View as view
use Rattle.ada_resolved.specs.Sizes.{array_size, with_component, word_limit, limited, type_size, components_size}
use Rattle.ada_resolved.specs.Table.{sizes_from, row_of, table_of, entry_of, numbered_size, subtype_size, sum_behind, composite_size, entries_from, rows_behind}
use Rattle.ada_resolved.proofs.SizeLaws.{components_small}

-- two instances with the same values
record Alike (v : InstanceValues) (i j : ℕ) : Type 0 where
  object : (k : ℕ) → v.object i k ≡ v.object j k
  type : (k : ℕ) → v.type i k ≡ v.type j k
  constant : (k : ℕ) → v.constant i k ≡ v.constant j k

module _ (v : InstanceValues) (i j : ℕ) (a : Alike v i j) where
  mutual
    same_value : (e : Static) → static_value v i e ≡ static_value v j e
    same_value (static_number x) = refl
    same_value (static_formal k) = a.object k
    same_value (static_constant k) = a.constant k
    same_value (static_first r) = ap (option_map (λ b. b.low)) (same_bounds r)
    same_value (static_last r) = ap (option_map (λ b. b.high)) (same_bounds r)
    same_value (static_length r) = ap (option_and_then (λ b. in_base (pos (count_between b.low b.high)))) (same_bounds r)
    same_value (static_sign s e) = ap (option_and_then (λ x. in_base (sign_of s x))) (same_value e)
    same_value (static_operation o e f) = λ t. option_and_then (λ x. option_and_then (computed o x) (same_value f t)) (same_value e t)
    same_value (static_of n e) = refl

    same_bounds : (r : Range) → static_bounds v i r ≡ static_bounds v j r
    same_bounds (between e f) = λ t. bounds_between (same_value e t) (same_value f t)
    same_bounds (formal_range k) = a.type k
    same_bounds (range_of n r) = refl

  mutual
    same_size : (t : type.Subtype) → type_size v i t ≡ type_size v j t
    same_size (scalar r) = ap (option_map (λ b. 1)) (same_bounds r)
    same_size (array r t) =
        λ s. option_and_then (λ n. option_and_then (λ b. limited (count_between b.low b.high * n)) (same_bounds r s)) (same_size t s)
    same_size (fields cs) = same_sizes cs
    same_size (subtype_of n t) = refl

    same_sizes : (cs : Components) → components_size v i cs ≡ components_size v j cs
    same_sizes no_component = refl
    same_sizes (and_component t cs) =
        λ s. option_and_then (λ n. option_and_then (λ m. limited (n + m)) (same_sizes cs s)) (same_size t s)

-- an instance beyond the last has nothing, as instance 0
beyond : (p : Program) (n : ℕ) → length p.instances ≤ n → Alike (values_of (program_of p)) (suc n) 0
beyond p n past = record {
  object = λ k. ap (λ o. value_of_formal (formal_among o k)) none;
  type = λ k. ap (λ o. bounds_of_formal (formal_among o k)) none;
  constant = λ k. ap (λ o. constant_among o k) none;
}
  where
    none : slice_get (map instance_of p.instances) n ≡ None
    none = slice_get-map instance_of p.instances n ∙ ap (option_map instance_of) (slice_get_past p.instances n past)

-- the entries of a row
inside : (v : InstanceValues) (t : type.Subtype) (n i k j : ℕ) → k < n → i + k ≡ j → slice_get (sizes_from v t n i) k ≡ Some (type_size v j t)
inside v t zero i k j less is = absurd (omega (arith, less))
inside v t (suc n) i zero j less is = ap (λ m. Some (type_size v m t)) (omega (arith, is))
inside v t (suc n) i (suc k) j less is = inside v t n (i + 1) k j (omega (arith, less)) (omega (arith, is))

outside : (v : InstanceValues) (t : type.Subtype) (n i k : ℕ) → n ≤ k → slice_get (sizes_from v t n i) k ≡ None
outside v t zero i k more = refl
outside v t (suc n) i zero more = absurd (omega (arith, more))
outside v t (suc n) i (suc k) more = outside v t n (i + 1) k (omega (arith, more))

entry_is : (p : Program) (t : type.Subtype) (i : ℕ) → entry_of (row_of p t) i ≡ type_size (values_of (program_of p)) i t
entry_is p t i = by_test (nat_lt i (length p.instances + 1)) refl
  where
    first : slice_get (row_of p t) 0 ≡ Some (type_size (values_of (program_of p)) 0 t)
    first = inside (values_of (program_of p)) t (length p.instances + 1) 0 0 0 (omega arith) refl

    far : (m : ℕ) → i ≡ m → length p.instances + 1 ≤ m → type_size (values_of (program_of p)) 0 t ≡ type_size (values_of (program_of p)) i t
    far zero e more = absurd (omega (arith, more))
    far (suc m) e more =
        sym (same_size (values_of (program_of p)) (suc m) 0 (beyond p m (omega (arith, more))) t) ∙ ap (λ n. type_size (values_of (program_of p)) n t) (sym e)

    by_test : (b : Bool) → nat_lt i (length p.instances + 1) ≡ b → entry_of (row_of p t) i ≡ type_size (values_of (program_of p)) i t
    by_test true e =
        ap (λ o. unwrap_or o (unwrap_or (slice_get (row_of p t) 0) None))
        (inside (values_of (program_of p)) t (length p.instances + 1) 0 i i (grind (arith, nat_tests)) (omega arith))
    by_test false e =
        let more : length p.instances + 1 ≤ i = grind (arith, nat_tests) in
        (λ s. unwrap_or (outside (values_of (program_of p)) t (length p.instances + 1) 0 i more s) (unwrap_or (first s) None))
        ∙ far i refl more

-- numbers within the limit, and past it
abbrev when : Bool → ℕ → Option ℕ
when b n = if b then Some n else None

within : (n k : ℕ) → n ≡ k → k ≤ word_limit → limited n ≡ Some k
within n k e small = ap (λ b. when b n) (let t : nat_le n word_limit ≡ true = grind (arith, nat_tests) in t) ∙ ap Some e

beyond_limit : (n : ℕ) → word_limit < n → limited n ≡ None
beyond_limit n more = ap (λ b. when b n) (let t : nat_le n word_limit ≡ false = grind (arith, nat_tests) in t)

joined : (words n m : ℕ) (b : Bool) → nat_le (n + m) word_limit ≡ b → limited (words + n + m) ≡ option_and_then (λ k. limited (words + k)) (when b (n + m))
joined words n m true e = ap limited (omega arith)
joined words n m false e = beyond_limit (words + n + m) (grind (arith, nat_tests))

past : (words n m : ℕ) → word_limit < words + n → (b : Bool) → nat_le (n + m) word_limit ≡ b → option_and_then (λ k. limited (words + k)) (when b (n + m)) ≡ None
past words n m more true e = beyond_limit (words + (n + m)) (omega (arith, more))
past words n m more false e = refl

-- a type that is seen through an instance has its size there
module _ (v : InstanceValues) (inst i : ℕ) where
  mutual
    pub seen_size : (t : type.Subtype) → type_size v inst (subtype_seen i t) ≡ type_size v i t
    seen_size (type.scalar r) = ap (option_map (λ b. 1)) (seen_bounds v inst i r)
    seen_size (type.array r t) = λ s. array_size (seen_bounds v inst i r s) (seen_size t s)
    seen_size (type.fields cs) = seen_components cs
    seen_size (type.subtype_of j t) = refl

    seen_components : (cs : type.Components) → components_size v inst (components_seen i cs) ≡ components_size v i cs
    seen_components type.no_component = refl
    seen_components (type.and_component t cs) =
        λ s. option_and_then (λ n. with_component n (seen_components cs s)) (seen_size t s)

module _ (p : Program) (types : List type.Subtype) where
  numbered_is : (i n : ℕ) → numbered_size (table_of p types) i n ≡ type_size (values_of (program_of p)) i (unwrap_or (slice_get types n) (numbered n))
  numbered_is i n = ap (λ o. unwrap_or (option_map (λ row. entry_of row i) o) (Some 0)) (slice_get-map (row_of p) types n) ∙ by_case (slice_get types n)
    where
      by_case : (o : Option type.Subtype) → unwrap_or (option_map (λ row. entry_of row i) (option_map (row_of p) o)) (Some 0)
          ≡ type_size (values_of (program_of p)) i (unwrap_or o (numbered n))
      by_case None = refl
      by_case (Some t) = entry_is p t i

  module _ (inst : ℕ) where
    pub subtype_is : (t : Subtype) → subtype_size p (table_of p types) inst t ≡ type_size (values_of (program_of p)) inst (unfolded types (view.subtype_of t))
    subtype_is (subtype.Scalar r) = refl
    subtype_is (subtype.Composite Here n) = numbered_is inst n
    subtype_is (subtype.Composite (Instance i) n) = numbered_is i n ∙ by_case (slice_get types n)
      where
        by_case : (o : Option type.Subtype) → type_size (values_of (program_of p)) i (unwrap_or o (numbered n))
            ≡ type_size (values_of (program_of p)) inst (unwrap_or (option_map (subtype_seen i) o) (type.subtype_of i (numbered n)))
        by_case None = refl
        by_case (Some t) = sym (seen_size (values_of (program_of p)) inst i t)

    -- sums from the left are sums from the right
    abbrev Behind : ℕ → Option ℕ → Option ℕ
    Behind words o = option_and_then (λ m. limited (words + m)) o

    after : (words n : ℕ) (o : Option ℕ) (b : Bool) → nat_le (words + n) word_limit ≡ b → option_and_then (λ m. Behind m o) (when b (words + n)) ≡ Behind words (Behind n o)
    after words n None true e = refl
    after words n None false e = refl
    after words n (Some m) true e = joined words n m (nat_le (n + m) word_limit) refl
    after words n (Some m) false e = sym (past words n m (grind (arith, nat_tests)) (nat_le (n + m) word_limit) refl)

    sum_is : (words : ℕ) (ts : List Subtype) → words ≤ word_limit
        → sum_behind p (table_of p types) inst words ts ≡ Behind words (components_size (values_of (program_of p)) inst (unfolded_components types (components_of ts)))
    sum_is words [] small = sym (within (words + 0) words (omega arith) small)
    sum_is words (t ∷ ts) small =
        ap (λ o. option_and_then (λ m. sum_behind p (table_of p types) inst m ts) (with_component words o)) (subtype_is t)
        ∙ by_size (λ n less. sum_is (words + n) ts less) (type_size (values_of (program_of p)) inst (unfolded types (view.subtype_of t)))
      where
        rest : Option ℕ
        rest = components_size (values_of (program_of p)) inst (unfolded_components types (components_of ts))

        by_test : ((n : ℕ) → words + n ≤ word_limit → sum_behind p (table_of p types) inst (words + n) ts ≡ Behind (words + n) rest)
            → (n : ℕ) (b : Bool) → nat_le (words + n) word_limit ≡ b
            → option_and_then (λ m. sum_behind p (table_of p types) inst m ts) (when b (words + n)) ≡ option_and_then (λ m. Behind m rest) (when b (words + n))
        by_test ih n true e = ih n (grind (arith, nat_tests))
        by_test ih n false e = refl

        by_size : ((n : ℕ) → words + n ≤ word_limit → sum_behind p (table_of p types) inst (words + n) ts ≡ Behind (words + n) rest)
            → (o : Option ℕ) → option_and_then (λ m. sum_behind p (table_of p types) inst m ts) (with_component words o)
            ≡ Behind words (option_and_then (λ n. Behind n rest) o)
        by_size ih None = refl
        by_size ih (Some n) = by_test ih n (nat_le (words + n) word_limit) refl ∙ after words n rest (nat_le (words + n) word_limit) refl

    pub composite_is : (t : CompositeType) → composite_size p (table_of p types) inst t ≡ type_size (values_of (program_of p)) inst (unfolded types (composite_of t))
    composite_is (composite.Array r t) =
        ap (λ o. option_and_then (λ n. option_and_then (λ b. limited (count_between b.low b.high * n)) (static_bounds (values_of (program_of p)) inst (view.scalar_range_of r))) o) (subtype_is t)
    composite_is (composite.Record ts) = sum_is 0 ts (omega arith) ∙ by_case (components_size (values_of (program_of p)) inst (unfolded_components types (components_of ts))) (components_small (values_of (program_of p)) inst (unfolded_components types (components_of ts)))
      where
        by_case : (o : Option ℕ) → IfSome o (λ n. n ≤ word_limit) → Behind 0 o ≡ o
        by_case None small = refl
        by_case (Some n) small = within (0 + n) n (omega arith) small

entries_are : (p : Program) (types : List type.Subtype) (t : CompositeType) (n i : ℕ)
    → entries_from p (table_of p types) t n i ≡ sizes_from (values_of (program_of p)) (unfolded types (composite_of t)) n i
entries_are p types t zero i = refl
entries_are p types t (suc n) i = λ s. composite_is p types i t s ∷ entries_are p types t n (i + 1) s

pub rows_are : (p : Program) (types : List type.Subtype) (ts : List TypeDeclaration) → rows_behind p (table_of p types) ts ≡ table_of p (types_behind types ts)
rows_are p types [] = refl
rows_are p types (t ∷ ts) =
    ap (λ row. rows_behind p (table_of p types ++ row ∷ []) ts) (entries_are p types t.definition (length p.instances + 1) 0)
    ∙ ap (λ rows. rows_behind p rows ts) (sym (map-append (row_of p) types (unfolded types (composite_of t.definition) ∷ [])))
    ∙ rows_are p (types ++ unfolded types (composite_of t.definition) ∷ []) ts

-- one more entry of a row
next_entry : (p : Program) (rows : List (List (Option ℕ))) (t : CompositeType) (n m i : ℕ) → n ≡ m + 1
    → composite_size p rows i t ∷ entries_from p rows t m (i + 1) ≡ entries_from p rows t n i
next_entry p rows t zero m i e = absurd (omega (arith, e))
next_entry p rows t (suc n) m i e = ap (λ k. composite_size p rows i t ∷ entries_from p rows t k (i + 1)) (omega (arith, e))

pub one_entry : (p : Program) (rows : List (List (Option ℕ))) (t : CompositeType) (n m i : ℕ) (xs ys : List (Option ℕ)) (x : Option ℕ)
    → n ≡ m + 1 → x ≡ composite_size p rows i t → ys ≡ xs ++ x ∷ []
    → ys ++ entries_from p rows t m (i + 1) ≡ xs ++ entries_from p rows t n i
one_entry p rows t n m i xs ys x e is grown =
    ap (λ zs. zs ++ entries_from p rows t m (i + 1)) (grown ∙ ap (λ y. xs ++ y ∷ []) is)
    ∙ append_assoc xs (composite_size p rows i t ∷ []) (entries_from p rows t m (i + 1))
    ∙ ap (λ zs. xs ++ zs) (next_entry p rows t n m i e)
