-- What a stable sort by places leaves is in the order of the rules.
use Rattle.std.proofs.Common.{◌≡◌, Bool, true, false, not, ◌&&◌, ◌||◌, List, [], ◌∷◌, map, if◌then◌else◌, refl, sym, ap, ◌∙◌}
use Rattle.std.specs.declared.cmp.Ordering.{Ordering}
use Rattle.std.specs.declared.cmp.Ordering.TheVariants.{Less, Equal, Greater}
use Rattle.std.specs.Ordering.{is_lt, ordering_then, ordering_reverse}
use Rattle.std.specs.List.Sorted.{IsSortedByKey, IsStableByKey}
use Rattle.std.specs.Cmp.{IsTotalOrder}
use Rattle.std.proofs.lemmas.Cmp.{nat_cmp_total, on_total, then_total}
use Rattle.cov_base.specs.TextOrder.{precedes}
use Rattle.cov_base.specs.declared.position.Pos.{Pos}
use Rattle.ada_meaning.specs.Obligations.{inserted, in_order, ListedException, is_listed_before}
use Rattle.ada_tree.specs.declared.program.Instance.{Instance}
use Rattle.ada_tree.specs.declared.program.Raisable.{Raisable}
use Rattle.ada_tree.specs.Programs.{instance_of, raisable_of}
use Rattle.obligations.proofs.Places.{pos_cmp, precedes_is}
use Rattle.obligations.proofs.Sorting.{sorted_is}
use Rattle.typed_program.specs.declared.exceptions.Listed.{Listed}
use Rattle.typed_program.specs.Exceptions.{entry_of, is_before}
use Rattle.typed_program.specs.Instances.{stands_before}

-- an order of lists that is the same at each two items, and one that is carried over
insert_mapped : {X Y : Type 0} (f : X → Y) (p : X → X → Bool) (q : Y → Y → Bool) → ((x y : X) → q (f x) (f y) ≡ p x y)
    → (x : X) (ys : List X) → map f (inserted p x ys) ≡ inserted q (f x) (map f ys)
insert_mapped f p q same x [] = refl
insert_mapped f p q same x (y ∷ ys) =
    by_test (p y x) (ap (λ zs. f y ∷ zs) (insert_mapped f p q same x ys))
    ∙ ap (λ b. if b then f y ∷ inserted q (f x) (map f ys) else f x ∷ f y ∷ map f ys) (sym (same y x))
  where
    by_test : (b : Bool) → f y ∷ map f (inserted p x ys) ≡ f y ∷ inserted q (f x) (map f ys)
        → map f (if b then y ∷ inserted p x ys else x ∷ y ∷ ys) ≡ (if b then f y ∷ inserted q (f x) (map f ys) else f x ∷ f y ∷ map f ys)
    by_test true h = h
    by_test false h = refl

pub order_mapped : {X Y : Type 0} (f : X → Y) (p : X → X → Bool) (q : Y → Y → Bool) → ((x y : X) → q (f x) (f y) ≡ p x y)
    → (xs : List X) → map f (in_order p xs) ≡ in_order q (map f xs)
order_mapped f p q same [] = refl
order_mapped f p q same (x ∷ xs) = insert_mapped f p q same x (in_order p xs) ∙ ap (inserted q (f x)) (order_mapped f p q same xs)

pos_total : IsTotalOrder pos_cmp
pos_total =
    then_total (on_total (λ p. p.file) nat_cmp_total)
    (then_total (on_total (λ p. p.line) nat_cmp_total) (on_total (λ p. p.col) nat_cmp_total))

-- by two places, one after the other
abbrev pub two_cmp : Pos × Pos → Pos × Pos → Ordering
two_cmp a b = ordering_then (pos_cmp a.0 b.0) (pos_cmp a.1 b.1)

two_total : IsTotalOrder two_cmp
two_total = then_total (on_total (λ p. p.0) pos_total) (on_total (λ p. p.1) pos_total)

first_then : (r q s : Ordering) → q ≡ ordering_reverse r → is_lt (ordering_then r s) ≡ (is_lt r || not (is_lt q) && is_lt s)
first_then Less q s e = refl
first_then Equal q s e = ap (λ x. not (is_lt x) && is_lt s) (sym e)
first_then Greater q s e = ap (λ x. not (is_lt x) && is_lt s) (sym e)

abbrev key_of : Listed → Pos × Pos
key_of x = (x.outer, x.inner)

before_is : (a b : Listed) → is_lt (two_cmp (key_of a) (key_of b)) ≡ is_before a b
before_is a b =
    first_then (pos_cmp a.outer b.outer) (pos_cmp b.outer a.outer) (pos_cmp a.inner b.inner) (pos_total.antisymm b.outer a.outer)
    ∙ (λ i. precedes_is a.outer b.outer i || not (precedes_is b.outer a.outer i) && precedes_is a.inner b.inner i)

pub sorted_listed : (xs ys : List Listed) → IsSortedByKey key_of two_cmp ys → IsStableByKey key_of two_cmp xs ys → ys ≡ in_order is_before xs
sorted_listed xs ys sorted stable =
    sorted_is key_of two_cmp two_total xs ys sorted stable ∙ (λ i. in_order (λ x y. before_is x y i) xs)

numbers_are : (xs : List ListedException) → map raisable_of (map (λ (x : Listed). x.entry) (map entry_of xs)) ≡ map (λ x. x.entry) xs
numbers_are [] = refl
numbers_are (x ∷ xs) = ap (λ ys. x.entry ∷ ys) (numbers_are xs)

-- the numbers of exceptions that were put in order are those of the exceptions in order
pub raised_in_order : (xs : List ListedException) (es : List Raisable) (ys : List Listed) → ys ≡ in_order is_before (map entry_of xs)
    → es ≡ map (λ (x : Listed). x.entry) ys → map raisable_of es ≡ map (λ x. x.entry) (in_order is_listed_before xs)
raised_in_order xs es ys ordered numbered =
    ap (map raisable_of) (numbered ∙ ap (map (λ (x : Listed). x.entry)) (ordered ∙ sym (order_mapped entry_of is_listed_before is_before (λ x y. refl) xs)))
    ∙ numbers_are (in_order is_listed_before xs)

pub instances_in_order : (xs : List Instance) → map instance_of (in_order stands_before xs) ≡ in_order (λ a b. precedes a.place b.place) (map instance_of xs)
instances_in_order xs = order_mapped instance_of stands_before (λ a b. precedes a.place b.place) (λ x y. refl) xs
