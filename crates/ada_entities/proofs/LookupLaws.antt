-- What the numbers of a table lead to, and how it is seen.
use Rattle.std.proofs.Common.{◌≡◌, ℕ, ◌+◌, ◌<◌, ◌≤◌, IfSome, MatchOption, get_or, Bool, true, false, if◌then◌else◌, List, [], ◌∷◌, ◌++◌, length, map, drop, slice_get, unwrap_or, Option, Some, None, option_map, refl, sym, ap, ◌∙◌, subst, arith, length-append}
use Rattle.std.specs.Borrow.{Bor}
use Rattle.std.specs.List.{HoldsAt}
use Rattle.std.specs.Option.{option_copied}
use Rattle.std.proofs.lemmas.Bool.{and_parts}
use Rattle.std.proofs.lemmas.List.{append_assoc, at_drop_more}
use Rattle.std.proofs.lemmas.Option.{slice_get-map, slice_get_past, slice_get-get_or}
use Rattle.ada_rules.specs.ada_meaning.specs.Types.{Owner, here, of_instance}
use Rattle.ada_rules.specs.Types.{Identity, AdaSubtype, Fields, no_field, and_field}
use Rattle.ada_rules.specs.Denoted.{field_among}
use Rattle.ada_rules.specs.Entities.{Actual, same_name, subtype_seen, fields_seen}
use Rattle.ada_entities.specs.declared.composite.Component.{Component}
use Rattle.ada_entities.specs.declared.composite.Definition.{Definition}
use Rattle.ada_entities.specs.declared.types.ScalarType.{ScalarType}
use Rattle.ada_entities.specs.declared.types.Subtype.{Subtype}
use Rattle.ada_entities.specs.Views.{Shape, array_shape, record_shape, shaped, shape_at, is_made, actuals_of, type_by, subtype_of, TypeTables}
use Rattle.ada_entities.specs.Tables.{fields_of, shape_of, tables_with, shapes_behind, instances_of, tables_of, array_parts, parts_of, field_in, shape_from, shape_parts, shape_fields, seen_parts, seen_field, is_earlier, are_earlier}
use Rattle.ada_entities.proofs.Agreement.{shape_agrees, more_shapes}

-- each composite type of a table is its definition, by the whole table
append_nothing : {A : Type 0} (xs : List A) → xs ≡ xs ++ []
append_nothing [] = refl
append_nothing (x ∷ xs) = ap (λ ys. x ∷ ys) (append_nothing xs)

shapes_all : (actuals : List (Option (List Actual))) (ss : List Shape) (ds : List Definition) (m : ℕ → Bool) (n : ℕ) → n ≡ length ss → are_earlier m n ds ≡ true
    → (whole : List Shape) → whole ≡ shapes_behind actuals ss ds → whole ≡ ss ++ map (shape_of (tables_with actuals whole)) ds
shapes_all actuals ss [] m n e h whole is = is ∙ append_nothing ss
shapes_all actuals ss (d ∷ ds) m n e h whole is =
    let s = shape_of (tables_with actuals ss) d in
    let f : Definition → Shape = shape_of (tables_with actuals whole) in
    let p = and_parts (is_earlier m n d) (are_earlier m (n + 1) ds) h in
    let known : is_earlier m (length ss) d ≡ true = subst (λ x. is_earlier m x d ≡ true) e p.0 in
    let next : n + 1 ≡ length (ss ++ s ∷ []) = omega (arith, e, length-append ss (s ∷ [])) in
    let rest = shapes_all actuals (ss ++ s ∷ []) ds m (n + 1) next p.1 whole is ∙ append_assoc ss (s ∷ []) (map f ds) in
    let same : s ≡ f d =
    shape_agrees (more_shapes actuals m ss (s ∷ map f ds)) d known ∙ ap (λ xs. shape_of (tables_with actuals xs) d) (sym rest) in
    rest ∙ ap (λ x. ss ++ (x ∷ map f ds)) same

-- what a slice answers at an index
pub copied_get : {A : Type 0} (xs : List A) (n : ℕ) (o : Option (Bor A)) → IfSome o (λ x. x.now ≡ get_or xs n x.now)
    → MatchOption o (length xs ≤ n) (λ x. (n < length xs) × HoldsAt (λ y. x.now ≡ y) xs n) → option_copied o ≡ slice_get xs n
copied_get xs n None a b = sym (slice_get_past xs n b)
copied_get xs n (Some x) a b = ap (λ y. Some y) a ∙ sym (slice_get-get_or xs n x.now b.0)

-- what stands at a place of the table, where there may be nothing
pub shape_found : (given : List (Option (List (Option ScalarType)))) (ds : List Definition) → are_earlier (is_made given) 0 ds ≡ true
    → (n : ℕ) (o : Option (Bor Definition)) → option_copied o ≡ slice_get ds n → shape_at (tables_of given ds) n ≡ shape_from (tables_of given ds) o
shape_found given ds h n o e =
    let k = tables_of given ds in
    let all = shapes_all (instances_of given) [] ds (is_made given) 0 refl h k.shapes refl in
    ap (λ xs. unwrap_or (slice_get xs n) (record_shape no_field)) all
    ∙ (ap (λ x. unwrap_or x (record_shape no_field)) (slice_get-map (shape_of k) ds n)
    ∙ (ap (λ x. unwrap_or (option_map (shape_of k) x) (record_shape no_field)) (sym e) ∙ copied k o)) where
      copied : (k : TypeTables) (o : Option (Bor Definition)) → unwrap_or (option_map (shape_of k) (option_copied o)) (record_shape no_field) ≡ shape_from k o
      copied k None = refl
      copied k (Some d) = refl

abbrev field_through : ℕ → List Actual → ℕ × AdaSubtype → ℕ × AdaSubtype
field_through n actuals f = (f.0, subtype_seen n actuals f.1)

-- the parts of a composite type, as it is seen
pub array_seen : (k : TypeTables) (o : Owner) (i : Identity) (s : Shape) (p : Option (Subtype × Subtype)) → option_map (parts_of k) p ≡ shape_parts s
    → option_map (seen_parts k o) (option_map (parts_of k) p) ≡ array_parts (type_by k o (shaped i s))
array_seen k o i s p e = ap (λ x. option_map (seen_parts k o) x) e ∙ parts_seen k o i s where
  parts_seen : (k : TypeTables) (o : Owner) (i : Identity) (s : Shape) → option_map (seen_parts k o) (shape_parts s) ≡ array_parts (type_by k o (shaped i s))
  parts_seen k here i (array_shape x c) = refl
  parts_seen k here i (record_shape fs) = refl
  parts_seen k (of_instance n) i (array_shape x c) = refl
  parts_seen k (of_instance n) i (record_shape fs) = refl

field_by : (n : ℕ) (actuals : List Actual) (b : Bool) (f : ℕ × AdaSubtype) (o p : Option (ℕ × AdaSubtype)) → option_map (field_through n actuals) o ≡ p
    → option_map (field_through n actuals) (if b then Some f else o) ≡ (if b then Some (field_through n actuals f) else p)
field_by n actuals true f o p e = refl
field_by n actuals false f o p e = e

fields_among : (n : ℕ) (actuals : List Actual) (name : List ℕ) (at : ℕ) (fs : Fields)
    → option_map (field_through n actuals) (field_among name at fs) ≡ field_among name at (fields_seen n actuals fs)
fields_among n actuals name at no_field = refl
fields_among n actuals name at (and_field other t fs) =
    field_by n actuals (same_name name other) (at, t) (field_among name (at + 1) fs) (field_among name (at + 1) (fields_seen n actuals fs))
    (fields_among n actuals name (at + 1) fs)

same_field : (o : Option (ℕ × AdaSubtype)) → option_map (λ f. (f.0, f.1)) o ≡ o
same_field None = refl
same_field (Some f) = refl

pub field_seen : (k : TypeTables) (o : Owner) (i : Identity) (name : List ℕ) (s : Shape)
    → option_map (seen_field k o) (field_among name 0 (shape_fields s)) ≡ field_in name (type_by k o (shaped i s))
field_seen k here i name (array_shape x c) = refl
field_seen k here i name (record_shape fs) = same_field (field_among name 0 fs)
field_seen k (of_instance n) i name (array_shape x c) = refl
field_seen k (of_instance n) i name (record_shape fs) = fields_among n (actuals_of k n) name 0 fs

-- one turn over the components of a record
turn : (k : TypeTables) (name : List ℕ) (cs : List Component) (i : ℕ) (c : Component) → i < length cs → c ≡ get_or cs i c
    → field_among name i (fields_of k (drop i cs))
    ≡ (if same_name name c.name then Some (i, subtype_of k c.subtype) else field_among name (i + 1) (fields_of k (drop (i + 1) cs)))
turn k name cs i c h e =
    let F : List Component → Option (ℕ × AdaSubtype) = λ rest. field_among name i (fields_of k rest) in
    at_drop_more F cs i c h ∙ ap (λ d. F (d ∷ drop (i + 1) cs)) (sym e)

pub turn_found : (k : TypeTables) (name : List ℕ) (cs : List Component) (i : ℕ) (c : Component) (whole : Option (ℕ × AdaSubtype))
    → i < length cs → c ≡ get_or cs i c → same_name name c.name ≡ true → field_among name i (fields_of k (drop i cs)) ≡ whole
    → Some (i, subtype_of k c.subtype) ≡ whole
turn_found k name cs i c whole h e s so_far =
    let own = Some (i, subtype_of k c.subtype) in
    let rest = field_among name (i + 1) (fields_of k (drop (i + 1) cs)) in
    sym (turn k name cs i c h e ∙ ap (λ b. if b then own else rest) s) ∙ so_far

pub turn_passed : (k : TypeTables) (name : List ℕ) (cs : List Component) (i : ℕ) (c : Component) (whole : Option (ℕ × AdaSubtype))
    → i < length cs → c ≡ get_or cs i c → same_name name c.name ≡ false → field_among name i (fields_of k (drop i cs)) ≡ whole
    → field_among name (i + 1) (fields_of k (drop (i + 1) cs)) ≡ whole
turn_passed k name cs i c whole h e s so_far =
    let own = Some (i, subtype_of k c.subtype) in
    let rest = field_among name (i + 1) (fields_of k (drop (i + 1) cs)) in
    sym (turn k name cs i c h e ∙ ap (λ b. if b then own else rest) s) ∙ so_far
