-- The typed program has its instances in order, and its exceptions as the obligations list them.
use Rattle.std.proofs.Common.{◌≡◌, ℕ, nat_eq, nat_lt, Bool, true, false, if◌then◌else◌, List, [], ◌∷◌, map, reverse, refl, ap, ◌∙◌, arith}
use Rattle.std.specs.Prelude.{◌&&◌, ◌||◌}
use Rattle.std.proofs.lemmas.Bool.{false≢true}
use Rattle.std.proofs.lemmas.Bool.Decides.{nat_tests}
use Rattle.cov_base.specs.TextOrder.{precedes}
use Rattle.cov_base.specs.declared.position.Pos.{Pos}
use Rattle.ada_meaning.specs.Obligations.{inserted, in_order, ordered_exceptions}
use Rattle.ada_meaning.specs.Program.{Instance}
use Rattle.ada_rules.specs.Environment.{World, State}
use Rattle.ada_rules.specs.Legal.{with_values, program_of}
use Rattle.ada_rules.specs.Statics.{Facts}

-- of two numbers, with what decides where they are equal, at most one comes first
greater : (a b : ℕ) → nat_lt a b ≡ true → (nat_lt b a ≡ false) × (nat_eq b a ≡ false)
greater a b h = (grind (arith, nat_tests, h), grind (arith, nat_tests, h))

equal : (a b : ℕ) → nat_lt a b ≡ false → nat_eq a b ≡ true → (nat_lt b a ≡ false)
equal a b h e = grind (arith, nat_tests, h, e)

abbrev comes_first : ℕ → ℕ → Bool → Bool
comes_first a b rest = nat_lt a b || nat_eq a b && rest

after_less : (r s y : Bool) → r ≡ false → s ≡ false → (r || s && y) ≡ false
after_less r s y g h = (λ i. g i || h i && y)

and_nothing : (s y : Bool) → y ≡ false → (s && y) ≡ false
and_nothing true y h = h
and_nothing false y h = refl

one_way : (a b : ℕ) (x y : Bool) → (x ≡ true → y ≡ false) → comes_first a b x ≡ true → comes_first b a y ≡ false
one_way a b x y less h = by_less (nat_lt a b) refl h
  where
    by_equal : (q : Bool) → nat_lt a b ≡ false → nat_eq a b ≡ q → (q && x) ≡ true → comes_first b a y ≡ false
    by_equal true e f k = (λ i. equal a b e f i || nat_eq b a && y) ∙ and_nothing (nat_eq b a) y (less k)
    by_equal false e f k = absurd (false≢true k)

    by_less : (p : Bool) → nat_lt a b ≡ p → (p || nat_eq a b && x) ≡ true → comes_first b a y ≡ false
    by_less true e k = after_less (nat_lt b a) (nat_eq b a) y (greater a b e).0 (greater a b e).1
    by_less false e k = by_equal (nat_eq a b) e refl k

pub one_before : (a b : Pos) → precedes a b ≡ true → precedes b a ≡ false
one_before a b h =
    one_way a.file b.file (comes_first a.line b.line (nat_lt a.col b.col)) (comes_first b.line a.line (nat_lt b.col a.col))
    (λ k. one_way a.line b.line (nat_lt a.col b.col) (nat_lt b.col a.col) (λ l. (greater a.col b.col l).0) k) h

-- none comes before the one that stands in front of it
abbrev stands_before : Instance → Instance → Bool
stands_before a b = precedes a.place b.place

abbrev IsBehind : Pos → List Instance → Type 0
IsBehind q [] = Unit {0}
IsBehind q (y ∷ ys) = precedes y.place q ≡ false

abbrev AreInOrder : List Instance → Type 0
AreInOrder [] = Unit {0}
AreInOrder (x ∷ xs) = IsBehind x.place xs × AreInOrder xs

-- what is inserted stands behind what everything there, and it, stand behind
behind_insert : (q : Pos) (x : Instance) (ys : List Instance) → precedes x.place q ≡ false → IsBehind q ys → IsBehind q (inserted stands_before x ys)
behind_insert q x [] e h = e
behind_insert q x (y ∷ ys) e h = by_first (stands_before y x)
  where
    by_first : (b : Bool) → IsBehind q (if b then y ∷ inserted stands_before x ys else x ∷ (y ∷ ys))
    by_first true = h
    by_first false = e

insert_if : (b : Bool) (x y : Instance) (ys : List Instance) → stands_before y x ≡ b → AreInOrder (y ∷ ys) → AreInOrder (inserted stands_before x ys)
    → AreInOrder (if b then y ∷ inserted stands_before x ys else x ∷ (y ∷ ys))
insert_if true x y ys e h rest = (behind_insert y.place x ys (one_before y.place x.place e) h.0, rest)
insert_if false x y ys e h rest = (e, h)

ordered_insert : (x : Instance) (ys : List Instance) → AreInOrder ys → AreInOrder (inserted stands_before x ys)
ordered_insert x [] h = (tt, tt)
ordered_insert x (y ∷ ys) h = insert_if (stands_before y x) x y ys refl h (ordered_insert x ys h.1)

all_ordered : (xs : List Instance) → AreInOrder (in_order stands_before xs)
all_ordered [] = tt
all_ordered (x ∷ xs) = ordered_insert x (in_order stands_before xs) (all_ordered xs)

-- what is in order stays so
insert_first : (x : Instance) (ys : List Instance) → IsBehind x.place ys → inserted stands_before x ys ≡ (x ∷ ys)
insert_first x [] h = refl
insert_first x (y ∷ ys) h = ap (λ b. if b then y ∷ inserted stands_before x ys else x ∷ (y ∷ ys)) h

order_stays : (xs : List Instance) → AreInOrder xs → in_order stands_before xs ≡ xs
order_stays [] h = refl
order_stays (x ∷ xs) h = ap (inserted stands_before x) (order_stays xs h.1) ∙ insert_first x xs h.0

-- constants of instances change no places
behind_values : (q : Pos) (is : List Instance) (fs : List Facts) → IsBehind q is → IsBehind q (with_values is fs)
behind_values q [] fs h = tt
behind_values q (i ∷ is) [] h = h
behind_values q (i ∷ is) (f ∷ fs) h = h

ordered_values : (is : List Instance) (fs : List Facts) → AreInOrder is → AreInOrder (with_values is fs)
ordered_values [] fs h = tt
ordered_values (i ∷ is) [] h = h
ordered_values (i ∷ is) (f ∷ fs) h = (behind_values i.place is fs h.0, ordered_values is fs h.1)

pub instances_in_order : (w : World) (s : State) (main : List ℕ)
    → in_order (λ a b. precedes a.place b.place) (program_of w s main).instances ≡ (program_of w s main).instances
instances_in_order w s main =
    order_stays (program_of w s main).instances
    (ordered_values (in_order stands_before (reverse s.instances_declared)) w.instances (all_ordered (reverse s.instances_declared)))

pub exceptions_listed : (w : World) (s : State) (main : List ℕ)
    → (program_of w s main).exceptions ≡ map (λ x. x.entry) (ordered_exceptions (program_of w s main))
exceptions_listed w s main = refl
