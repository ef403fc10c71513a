-- The order of places as a total one, and what a stable sort by places leaves.
use Rattle.std.proofs.Common.{◌≡◌, Bool, true, false, not, cond, ◌&&◌, ◌||◌, List, refl, sym, ap, ◌∙◌}
use Rattle.std.specs.declared.cmp.Ordering.{Ordering}
use Rattle.std.specs.declared.cmp.Ordering.TheVariants.{Less, Equal, Greater}
use Rattle.std.specs.Ordering.{nat_cmp, is_lt, ordering_then, ordering_reverse}
use Rattle.std.specs.Prelude.{nat_eq, nat_lt}
use Rattle.std.specs.Cmp.{IsTotalOrder}
use Rattle.std.specs.List.Sorted.{IsSortedByKey, IsStableByKey}
use Rattle.std.proofs.lemmas.Cmp.{nat_cmp_total, on_total, then_total}
use Rattle.cov_base.specs.TextOrder.{precedes}
use Rattle.cov_base.specs.contracts.position.PosOrd.TheImpl as ThePlaces
use Rattle.cov_base.specs.declared.position.Pos.{Pos}
use Rattle.ada_meaning.specs.Obligations.{in_order}
use Rattle.obligations.specs.contracts.exceptions.ExceptionPlaceOrd.TheImpl as TheExceptions
use Rattle.obligations.specs.declared.exceptions.ExceptionPlace.{ExceptionPlace}
use Rattle.obligations.specs.declared.exceptions.NamedException.{NamedException}
use Rattle.obligations.specs.Exceptions.{comes_before, is_before}
use Rattle.obligations.proofs.Sorting.{sorted_is}

-- by file, line and column
abbrev pub pos_cmp : Pos → Pos → Ordering
pos_cmp a b = ordering_then (nat_cmp a.file b.file) (ordering_then (nat_cmp a.line b.line) (nat_cmp a.col b.col))

pos_total : IsTotalOrder pos_cmp
pos_total =
    then_total (on_total (λ p. p.file) nat_cmp_total)
    (then_total (on_total (λ p. p.line) nat_cmp_total) (on_total (λ p. p.col) nat_cmp_total))

-- numbers first, and then the rest
by_tests : (lt eq : Bool) (r : Ordering) → is_lt (ordering_then (cond lt Less (cond eq Equal Greater)) r) ≡ (lt || eq && is_lt r)
by_tests true eq r = refl
by_tests false true r = refl
by_tests false false r = refl

at_last : (lt eq : Bool) → is_lt (cond lt Less (cond eq Equal Greater)) ≡ lt
at_last true eq = refl
at_last false true = refl
at_last false false = refl

pub precedes_is : (a b : Pos) → is_lt (pos_cmp a b) ≡ precedes a b
precedes_is a b =
    by_tests (nat_lt a.file b.file) (nat_eq a.file b.file) (ordering_then (nat_cmp a.line b.line) (nat_cmp a.col b.col))
    ∙ ap (λ x. nat_lt a.file b.file || nat_eq a.file b.file && x)
    (by_tests (nat_lt a.line b.line) (nat_eq a.line b.line) (nat_cmp a.col b.col)
    ∙ ap (λ x. nat_lt a.line b.line || nat_eq a.line b.line && x) (at_last (nat_lt a.col b.col) (nat_eq a.col b.col)))

-- the order by a test that is another one at each two
same_order : {X : Type 0} (f g : X → X → Bool) → ((x y : X) → f x y ≡ g x y) → (xs : List X) → in_order f xs ≡ in_order g xs
same_order f g same xs = λ i. in_order (λ x y. same x y i) xs

pub sorted_by_place : {X : Type 0} (place : X → Pos) (xs ys : List X)
    → IsSortedByKey place ThePlaces.ghosts.cmp ys → IsStableByKey place ThePlaces.ghosts.cmp xs ys → ys ≡ in_order (λ a b. precedes (place a) (place b)) xs
sorted_by_place place xs ys sorted stable =
    sorted_is place pos_cmp pos_total xs ys sorted stable ∙ same_order _ _ (λ a b. precedes_is (place a) (place b)) xs

abbrev exception_cmp : ExceptionPlace → ExceptionPlace → Ordering
exception_cmp a b = ordering_then (pos_cmp a.outer b.outer) (pos_cmp a.inner b.inner)

exception_total : IsTotalOrder exception_cmp
exception_total = then_total (on_total (λ p. p.outer) pos_total) (on_total (λ p. p.inner) pos_total)

first_then : (r q s : Ordering) → q ≡ ordering_reverse r → is_lt (ordering_then r s) ≡ (is_lt r || not (is_lt q) && is_lt s)
first_then Less q s e = refl
first_then Equal q s e = ap (λ x. not (is_lt x) && is_lt s) (sym e)
first_then Greater q s e = ap (λ x. not (is_lt x) && is_lt s) (sym e)

comes_before_is : (a b : ExceptionPlace) → is_lt (exception_cmp a b) ≡ comes_before a b
comes_before_is a b =
    first_then (pos_cmp a.outer b.outer) (pos_cmp b.outer a.outer) (pos_cmp a.inner b.inner) (pos_total.antisymm b.outer a.outer)
    ∙ (λ i. precedes_is a.outer b.outer i || not (precedes_is b.outer a.outer i) && precedes_is a.inner b.inner i)

pub sorted_exceptions : (xs ys : List NamedException)
    → IsSortedByKey (λ x. x.place) TheExceptions.ghosts.cmp ys → IsStableByKey (λ x. x.place) TheExceptions.ghosts.cmp xs ys → ys ≡ in_order is_before xs
sorted_exceptions xs ys sorted stable =
    sorted_is (λ x. x.place) exception_cmp exception_total xs ys sorted stable
    ∙ same_order _ _ (λ (a b : NamedException). comes_before_is a.place b.place) xs
