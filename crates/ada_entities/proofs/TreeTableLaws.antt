-- The table of the typed program grows as the checker's.
use Rattle.std.proofs.Common.{◌≡◌, ℕ, ◌+◌, ◌<◌, nat_lt, Bool, true, List, [], ◌∷◌, ◌++◌, length, take, drop, get_or, Option, refl, sym, ap, ◌∙◌, subst, arith}
use Rattle.std.proofs.lemmas.Bool.{and_parts, and_from, ltb-true}
use Rattle.std.proofs.lemmas.List.{map-append, take_more, take-append-drop}
use Rattle.cov_base.specs.Lists.{Everywhere}
use Rattle.ada_rules.specs.ada_meaning.specs.Types as meaning
use Rattle.ada_tree.specs.declared.types.TypeDeclaration.{TypeDeclaration}
use Rattle.ada_tree.specs.Programs.{unfolded, types_behind, types_of}
use Rattle.ada_tree.specs.View.{owner_of, composite_of}
use Rattle.ada_entities.specs.declared.types.ScalarType.{ScalarType}
use Rattle.ada_entities.specs.declared.types.AdaType.{AdaType}
use Rattle.ada_entities.specs.declared.types.AdaType.TheVariants as type
use Rattle.ada_entities.specs.declared.composite.Component.{Component}
use Rattle.ada_entities.specs.declared.composite.Definition.{Definition}
use Rattle.ada_entities.specs.declared.composite.Definition.TheVariants as definition
use Rattle.ada_entities.specs.Views.{TypeTables, is_made, is_known, is_known_owner}
use Rattle.ada_entities.specs.Tables.{shape_of, instances_of, tables_of, are_known, is_earlier, are_earlier}
use Rattle.ada_entities.proofs.TableLaws.{shapes_length, added}
use Rattle.ada_entities.specs.Trees.{shape_in_tree, shapes_in_tree, IsThere, IsSubtypeThere, IsBuiltThere, IsDefinedInTree, generic_at, AreIn}

-- one more declaration
push : (ss : List meaning.Subtype) (ds : List TypeDeclaration) (d : TypeDeclaration)
    → types_behind ss (ds ++ d ∷ []) ≡ types_behind ss ds ++ unfolded (types_behind ss ds) (composite_of d.definition) ∷ []
push ss [] d = refl
push ss (e ∷ ds) d = push (ss ++ unfolded ss (composite_of e.definition) ∷ []) ds d

-- what is earlier is there
there : (k : TypeTables) (n : ℕ) (m : ℕ → Bool) (t : AdaType) → n ≡ length k.shapes → is_known n m t ≡ true → IsThere k t
there k n m (type.Scalar t) e h = tt
there k n m (type.Composite c) e h =
    subst (λ x. c.number < x) e (ltb-true c.number n (and_parts (nat_lt c.number n) (is_known_owner m (owner_of c.seen)) h).0)

all_there : (k : TypeTables) (n : ℕ) (m : ℕ → Bool) (cs : List Component) → n ≡ length k.shapes → are_known n m cs ≡ true
    → Everywhere (λ (c : Component). IsSubtypeThere k c.subtype) cs
all_there k n m [] e h = tt
all_there k n m (c ∷ cs) e h =
    let p = and_parts (is_known n m c.subtype.of) (are_known n m cs) h in
    (there k n m c.subtype.of e p.0, all_there k n m cs e p.1)

built : (k : TypeTables) (n : ℕ) (m : ℕ → Bool) (d : Definition) → n ≡ length k.shapes → is_earlier m n d ≡ true → IsBuiltThere k d
built k n m (definition.Array x c) e h =
    let p = and_parts (is_known n m x.of) (is_known n m c.of) h in
    (there k n m x.of e p.0, there k n m c.of e p.1)
built k n m (definition.Record cs) e h = all_there k n m cs e h

-- of definitions the last, and those before it
last_earlier : (m : ℕ → Bool) (n : ℕ) (ds : List Definition) (d : Definition) → are_earlier m n (ds ++ d ∷ []) ≡ true → is_earlier m (n + length ds) d ≡ true
last_earlier m n [] d h =
    let same : n ≡ n + 0 = omega arith in
    subst (λ x. is_earlier m x d ≡ true) same (and_parts (is_earlier m n d) true h).0
last_earlier m n (x ∷ ds) d h =
    let p = and_parts (is_earlier m n x) (are_earlier m (n + 1) (ds ++ d ∷ [])) h in
    let same : n + 1 + length ds ≡ n + length (x ∷ ds) = omega arith in
    subst (λ y. is_earlier m y d ≡ true) same (last_earlier m (n + 1) ds d p.1)

pub front_earlier : (m : ℕ → Bool) (n : ℕ) (ds es : List Definition) → are_earlier m n (ds ++ es) ≡ true → are_earlier m n ds ≡ true
front_earlier m n [] es h = refl
front_earlier m n (d ∷ ds) es h =
    let p = and_parts (is_earlier m n d) (are_earlier m (n + 1) (ds ++ es)) h in
    and_from (is_earlier m n d) (are_earlier m (n + 1) ds) p.0 (front_earlier m (n + 1) ds es p.1)

-- both tables with one more type
pub grown : (given : List (Option (List (Option ScalarType)))) (ds : List Definition) (d : Definition) (xs : List TypeDeclaration) (x : TypeDeclaration)
    → are_earlier (is_made given) 0 (ds ++ d ∷ []) ≡ true → types_of xs ≡ shapes_in_tree (tables_of given ds) → IsDefinedInTree d x.definition
    → types_of (xs ++ x ∷ []) ≡ shapes_in_tree (tables_of given (ds ++ d ∷ []))
grown given ds d xs x h e is =
    let k = tables_of given ds in
    let size : 0 + length ds ≡ length k.shapes = sym (shapes_length (instances_of given) [] ds) in
    let there : IsBuiltThere k d = built k (0 + length ds) (is_made given) d size (last_earlier (is_made given) 0 ds d h) in
    let new : unfolded (types_of xs) (composite_of x.definition) ≡ shape_in_tree (shape_of k d) =
    ap (λ ts. unfolded ts (composite_of x.definition)) e ∙ is k there in
    push [] xs x ∙ (λ z. e z ++ new z ∷ []) ∙ sym (map-append shape_in_tree k.shapes (shape_of k d ∷ [])) ∙ ap shapes_in_tree (sym (added given ds d))

pub table_step : (given : List (Option (List (Option ScalarType)))) (items : List Definition) (place : ℕ) (d : Definition) (xs : List TypeDeclaration) (x : TypeDeclaration)
    → place < length items → d ≡ get_or items place d → are_earlier (is_made given) 0 items ≡ true
    → types_of xs ≡ shapes_in_tree (tables_of given (take place items)) → IsDefinedInTree d x.definition
    → types_of (xs ++ x ∷ []) ≡ shapes_in_tree (tables_of given (take (place + 1) items))
table_step given items place d xs x within at h e is =
    let more : take (place + 1) items ≡ take place items ++ d ∷ [] = take_more items place d within ∙ ap (λ y. take place items ++ y ∷ []) (sym at) in
    let parted : items ≡ (take place items ++ d ∷ []) ++ drop (place + 1) items =
    sym (take-append-drop (place + 1) items) ∙ ap (λ ys. ys ++ drop (place + 1) items) more in
    let front = front_earlier (is_made given) 0 (take place items ++ d ∷ []) (drop (place + 1) items)
    (subst (λ ds. are_earlier (is_made given) 0 ds ≡ true) parted h) in
    grown given (take place items) d xs x front e is ∙ ap (λ ds. shapes_in_tree (tables_of given ds)) (sym more)

-- generics of declarations
pub in_push : (gs : List (Option ℕ)) (n at : ℕ) (xs : List TypeDeclaration) (x : TypeDeclaration) → at ≡ n + length xs → AreIn gs n xs
    → x.generic ≡ generic_at gs at → AreIn gs n (xs ++ x ∷ [])
in_push gs n at [] x e h g =
    let same : at ≡ n = omega (arith, e) in
    (g ∙ ap (generic_at gs) same, tt)
in_push gs n at (y ∷ xs) x e h g =
    let same : at ≡ n + 1 + length xs = omega (arith, e) in
    (h.0, in_push gs (n + 1) at xs x same h.1 g)
