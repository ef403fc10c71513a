-- In a whole order of dependence each unit stands once.
use Rattle.std.proofs.Common.{◌≡◌, ◌≤◌, ◌<◌, ◌+◌, ℕ, nat_eq, Bool, true, false, if◌then◌else◌, List, [], ◌∷◌, refl, sym, ap, ◌∙◌, arith, inl, inr}
use Rattle.std.specs.List.{sum_by}
use Rattle.std.proofs.lemmas.Bool.{eqb-true, eq-eqb, false≢true}
use Rattle.std.proofs.lemmas.List.Sums.{sum_by-cons}
use Rattle.ada_syntax.specs.declared.unit.Unit.{Unit as LibraryUnit}
use Rattle.ada_rules.specs.Library.{is_package_body, units_but_bodies}
use Rattle.legal_instances.specs.Ordered.{HaveSameItems}
use Rattle.legal_texts.proofs.InterfaceWalk.{In, StandOnce}

abbrev pub one_if : Bool → ℕ
one_if true = 1
one_if false = 0

abbrev pub weight : ℕ → ℕ → ℕ
weight m k = one_if (nat_eq k m)

pub count : ℕ → List ℕ → ℕ
count m ns = sum_by (weight m) ns

weight_of : (m n : ℕ) → n ≡ m → weight m n ≡ 1
weight_of m n e = ap one_if (eq-eqb n m e)

weight_if : (b : Bool) → one_if b ≤ 1
weight_if true = omega (arith)
weight_if false = omega (arith)

pub weight_other : (m n : ℕ) → (n ≡ m → ⊥) → weight m n ≡ 0
weight_other m n other = by_test (nat_eq n m) refl
  where
    by_test : (b : Bool) → nat_eq n m ≡ b → one_if b ≡ 0
    by_test true e = absurd (other (eqb-true n m e))
    by_test false e = refl

pub count_cons : (m n : ℕ) (ns : List ℕ) → count m (n ∷ ns) ≡ weight m n + count m ns
unfolding count
count_cons m n ns = sum_by-cons (weight m) n ns

pub count_none : (m : ℕ) → count m [] ≡ 0
unfolding count
count_none m = refl

pub same_count : (xs ys : List ℕ) → HaveSameItems xs ys → (m : ℕ) → count m xs ≡ count m ys
unfolding count
same_count xs ys h m = h (weight m)

pub counted_in : (m : ℕ) (ns : List ℕ) → In ns m → 1 ≤ count m ns
counted_in m [] h = absurd h
counted_in m (n ∷ ns) (inl e) = let all = count_cons m n ns in let one = weight_of m n e in omega (arith, all, one)
counted_in m (n ∷ ns) (inr h) = let all = count_cons m n ns in let rest = counted_in m ns h in omega (arith, all, rest)

once_of : (ns : List ℕ) → ((m : ℕ) → count m ns ≤ 1) → StandOnce ns
once_of [] h = tt
once_of (n ∷ ns) h = (
  λ there.
      let all = count_cons n n ns in
      let one = weight_of n n refl in
      let more = counted_in n ns there in
      let most = h n in
      omega (arith, all, one, more, most),
  once_of ns (λ m. let all = count_cons m n ns in let most = h m in omega (arith, all, most)),
)

-- units are numbered in turn
module _ (m : ℕ) where
  of_test : (P : ℕ → Type 0) (b : Bool) (n : ℕ) (rest : List ℕ) → P (count m rest) → P (count m (n ∷ rest)) → P (count m (if b then rest else n ∷ rest))
  of_test P true n rest h k = h
  of_test P false n rest h k = k

  none_before : (n : ℕ) (us : List LibraryUnit) → m < n → count m (units_but_bodies n us) ≡ 0
  none_before n [] less = count_none m
  none_before n (u ∷ us) less =
      let rest = none_before (n + 1) us (omega (arith, less)) in
      let all = count_cons m n (units_but_bodies (n + 1) us) in
      let own = weight_other m n (λ e. omega (arith, less, e)) in
      of_test (λ c. c ≡ 0) (is_package_body u.item) n (units_but_bodies (n + 1) us) rest (omega (arith, rest, all, own))

  most_once : (n : ℕ) (us : List LibraryUnit) → count m (units_but_bodies n us) ≤ 1
  most_once n [] = let none = count_none m in omega (arith, none)
  most_once n (u ∷ us) =
      let rest = most_once (n + 1) us in
      of_test (λ c. c ≤ 1) (is_package_body u.item) n (units_but_bodies (n + 1) us) rest (by_number (nat_eq n m) refl rest)
    where
      by_number : (b : Bool) → nat_eq n m ≡ b → count m (units_but_bodies (n + 1) us) ≤ 1 → count m (n ∷ units_but_bodies (n + 1) us) ≤ 1
      by_number true e rest =
          let same = eqb-true n m e in
          let none = none_before (n + 1) us (omega (arith, same)) in
          let all = count_cons m n (units_but_bodies (n + 1) us) in
          let most = weight_if (nat_eq n m) in
          omega (arith, none, all, most)
      by_number false e rest =
          let all = count_cons m n (units_but_bodies (n + 1) us) in
          let none = weight_other m n (λ same. false≢true (sym e ∙ eq-eqb n m same)) in
          omega (arith, rest, all, none)

pub ordered_once : (us : List LibraryUnit) (order : List ℕ) → HaveSameItems (units_but_bodies 0 us) order → StandOnce order
ordered_once us order h =
    once_of order (λ m. let same = same_count (units_but_bodies 0 us) order h m in let most = most_once m 0 us in omega (arith, same, most))
