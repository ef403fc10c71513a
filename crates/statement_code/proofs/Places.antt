-- The places of the bodies of a program, each of which comes once.
use Rattle.std.proofs.Common.{◌≡◌, ◌≢◌, ℕ, zero, suc, ◌+◌, ◌<◌, ◌≤◌, ◌⊎◌, inl, inr, nat_eq, Bool, true, false, ◌&&◌, List, [], ◌∷◌, map, sum_by, Some, slice_get, refl, sym, ap, ◌∙◌, arith}
use Rattle.std.specs.Prelude.{if◌then◌else◌}
use Rattle.std.proofs.lemmas.Bool.Decides.{eqb_tells, nat_tests}
use Rattle.std.proofs.lemmas.List.Sums.{sum_by-cons, sum_by-append}
use Rattle.cov_base.specs.Lists.{Somewhere}
use Rattle.ada_meaning.specs.Bodies.{Body, instances_of, bodies_from, bodies_of, IsBody}
use Rattle.ada_meaning.proofs.BodyLaws.{bodies_law}
use Rattle.ada_meaning.specs.Program.{Subprogram, Instance, Program}
use Rattle.statement_code.specs.Kernels.{is_body_at, place_of}
use Rattle.statement_code.specs.Own.{one_if}
use Rattle.statement_code.proofs.Own.{instances_once, sum_map, times}

module _ (j m : ℕ) where
  abbrev this : Body
  this = record { instance = j; subprogram = m }

  -- how often it is among bodies
  abbrev body_times : List Body → ℕ
  body_times bs = sum_by (λ b. one_if (is_body_at j m b)) bs

  -- among those of one subprogram
  bodies_here : (n : ℕ) (is : List ℕ) → body_times (map (λ i. record { instance = i; subprogram = n }) is) ≡ (if nat_eq n m then times j is else 0)
  bodies_here n is = sum_map (λ b. one_if (is_body_at j m b)) (λ i. record { instance = i; subprogram = n }) is ∙ by_test (nat_eq n m) is
    where
      by_test : (e : Bool) (is : List ℕ) → sum_by (λ i. one_if (e && nat_eq i j)) is ≡ (if e then times j is else 0)
      by_test true is = refl
      by_test false [] = refl
      by_test false (i ∷ is) = omega (arith, sum_by-cons (λ (k : ℕ). one_if (false && nat_eq k j)) i is, by_test false is)

  -- among those of subprograms with higher numbers
  bodies_low : (n : ℕ) (ss : List Subprogram) (is : List Instance) → m < n → body_times (bodies_from n ss is) ≡ 0
  bodies_low n [] is lt = refl
  bodies_low n (s ∷ ss) is lt =
      omega (
        arith,
        sum_by-append (λ b. one_if (is_body_at j m b)) (map (λ i. record { instance = i; subprogram = n }) (instances_of s.generic is)) (bodies_from (n + 1) ss is),
        bodies_here n (instances_of s.generic is),
        ap (λ e. if e then times j (instances_of s.generic is) else 0) (other lt),
        bodies_low (n + 1) ss is (omega (arith, lt)),
      )
    where
      other : m < n → nat_eq n m ≡ false
      other l = grind (arith, nat_tests, l)

  bodies_few : (n : ℕ) (ss : List Subprogram) (is : List Instance) → body_times (bodies_from n ss is) ≤ 1
  bodies_few n [] is = omega arith
  bodies_few n (s ∷ ss) is = by_test (eqb_tells n m) (bodies_few (n + 1) ss is)
    where
      all : body_times (bodies_from n (s ∷ ss) is) ≡ (if nat_eq n m then times j (instances_of s.generic is) else 0) + body_times (bodies_from (n + 1) ss is)
      all =
          omega (
            arith,
            sum_by-append (λ b. one_if (is_body_at j m b)) (map (λ i. record { instance = i; subprogram = n }) (instances_of s.generic is)) (bodies_from (n + 1) ss is),
            bodies_here n (instances_of s.generic is),
          )

      by_test : ((nat_eq n m ≡ true) × (n ≡ m)) ⊎ ((nat_eq n m ≡ false) × (n ≢ m)) → body_times (bodies_from (n + 1) ss is) ≤ 1 → body_times (bodies_from n (s ∷ ss) is) ≤ 1
      by_test (inl same) later =
          omega (
            arith,
            all,
            ap (λ e. if e then times j (instances_of s.generic is) else 0) same.0,
            instances_once s.generic j is,
            bodies_low (n + 1) ss is (omega (arith, same.1)),
          )
      by_test (inr not) later = omega (arith, all, ap (λ e. if e then times j (instances_of s.generic is) else 0) not.0, later)

  -- the test tells it
  told : (b : Body) → is_body_at j m b ≡ true → b ≡ this
  told b is = by_tests (eqb_tells b.subprogram m) (eqb_tells b.instance j) is
    where
      by_tests : ((nat_eq b.subprogram m ≡ true) × (b.subprogram ≡ m)) ⊎ ((nat_eq b.subprogram m ≡ false) × (b.subprogram ≢ m))
          → ((nat_eq b.instance j ≡ true) × (b.instance ≡ j)) ⊎ ((nat_eq b.instance j ≡ false) × (b.instance ≢ j)) → is_body_at j m b ≡ true → b ≡ this
      by_tests (inl e) (inl f) is = λ i. record { instance = f.1 i; subprogram = e.1 i }
      by_tests (inr e) f is = absurd (let x : ⊥ = cc (sym is ∙ ap (λ c. c && nat_eq b.instance j) e.0) in x)
      by_tests (inl e) (inr f) is = absurd (let x : ⊥ = cc (sym is ∙ ap (λ c. c && nat_eq b.instance j) e.0 ∙ f.0) in x)

  tells : (b : Body) → b ≡ this → is_body_at j m b ≡ true
  tells b is = ap (is_body_at j m) is ∙ ap (λ c. c && nat_eq j j) (itself m) ∙ itself j
    where
      itself : (n : ℕ) → nat_eq n n ≡ true
      itself n = grind (arith, nat_tests)

  -- it stands at its place
  at_place : (bs : List Body) → Somewhere (λ c. c ≡ this) bs → slice_get bs (place_of j m bs) ≡ Some this
  at_place [] there = absurd there
  at_place (b ∷ bs) there = by_test (is_body_at j m b) refl there (at_place bs)
    where
      by_test : (e : Bool) → is_body_at j m b ≡ e → (b ≡ this) ⊎ Somewhere (λ c. c ≡ this) bs → (Somewhere (λ c. c ≡ this) bs → slice_get bs (place_of j m bs) ≡ Some this)
          → slice_get (b ∷ bs) (if e then 0 else suc (place_of j m bs)) ≡ Some this
      by_test true is there later = ap Some (told b is)
      by_test false is (inl here) later = absurd (let x : ⊥ = cc (sym is ∙ tells b here) in x)
      by_test false is (inr there) later = later there

  -- and nowhere else
  counted : (bs : List Body) (n : ℕ) → slice_get bs n ≡ Some this → 1 ≤ body_times bs
  counted [] n there = absurd (let x : ⊥ = cc there in x)
  counted (b ∷ bs) zero there =
      let is : b ≡ this = cc there in omega (arith, sum_by-cons (λ (c : Body). one_if (is_body_at j m c)) b bs, ap one_if (tells b is))
  counted (b ∷ bs) (suc n) there = omega (arith, sum_by-cons (λ (c : Body). one_if (is_body_at j m c)) b bs, counted bs n there)

  only_place : (bs : List Body) (n : ℕ) → body_times bs ≤ 1 → slice_get bs n ≡ Some this → place_of j m bs ≡ n
  only_place [] n few there = absurd (let x : ⊥ = cc there in x)
  only_place (b ∷ bs) zero few there = let is : b ≡ this = cc there in ap (λ e. if e then 0 else suc (place_of j m bs)) (tells b is)
  only_place (b ∷ bs) (suc n) few there = by_test (is_body_at j m b) refl (only_place bs n)
    where
      by_test : (e : Bool) → is_body_at j m b ≡ e → (body_times bs ≤ 1 → slice_get bs n ≡ Some this → place_of j m bs ≡ n) → (if e then 0 else suc (place_of j m bs)) ≡ suc n
      by_test true is later = absurd (omega (arith, few, sum_by-cons (λ (c : Body). one_if (is_body_at j m c)) b bs, ap one_if is, counted bs n there))
      by_test false is later = ap suc (later (omega (arith, few, sum_by-cons (λ (c : Body). one_if (is_body_at j m c)) b bs)) there)

-- a body of a program stands at its place, and each body that stands at a place has that one
pub body_at_place : (p : Program) (j m : ℕ) → IsBody p (record { instance = j; subprogram = m })
    → slice_get (bodies_of p) (place_of j m (bodies_of p)) ≡ Some (record { instance = j; subprogram = m })
body_at_place p j m is = at_place j m (bodies_of p) ((bodies_law p (record { instance = j; subprogram = m })).1 is)

pub place_is : (p : Program) (n : ℕ) (b : Body) → slice_get (bodies_of p) n ≡ Some b → place_of b.instance b.subprogram (bodies_of p) ≡ n
place_is p n b there = only_place b.instance b.subprogram (bodies_of p) n (bodies_few b.instance b.subprogram 0 p.subprograms p.instances) there
