-- Lists by number, as seen by what they hold: a number past their end has nothing.
use Rattle.std.proofs.Common.{◌≡◌, ◌≢◌, ℕ, zero, suc, ◌<◌, Bool, true, false, List, [], ◌∷◌, map, length, get_or, set, nat_eq, if◌then◌else◌, refl, sym, ap, ◌∙◌, arith}
use Rattle.std.proofs.lemmas.Bool.{cond-false}
use Rattle.std.proofs.lemmas.Bool.Decides.{nat_tests, Decides-eqb}
use Rattle.std.proofs.lemmas.List.{get_or-map}

differ : (m n : ℕ) → m ≢ n → nat_eq m n ≡ false
differ m n h = grind (arith, nat_tests)

one_less : (m n : ℕ) → nat_eq m n ≡ nat_eq (suc m) (suc n)
one_less m n = grind (arith, nat_tests)

chosen : {B : Type 0} (b : Bool) (x y : B) → b ≡ false → y ≡ (if b then x else y)
chosen b x y e = sym (cond-false b x y e)

module _ {A B : Type 0} (f : A → B) (d : B) where
  -- one that is changed
  pub at_changed : (xs : List A) (i : ℕ) (x : A) (g : ℕ) → i < length xs
      → get_or (map f (set xs i x)) g d ≡ (if nat_eq i g then f x else get_or (map f xs) g d)
  at_changed [] i x g less = absurd (omega arith)
  at_changed (y ∷ xs) zero x zero less = refl
  at_changed (y ∷ xs) zero x (suc g) less = chosen (nat_eq 0 (suc g)) (f x) (get_or (map f xs) g d) (differ 0 (suc g) (omega arith))
  at_changed (y ∷ xs) (suc i) x zero less = chosen (nat_eq (suc i) 0) (f x) (f y) (differ (suc i) 0 (omega arith))
  at_changed (y ∷ xs) (suc i) x (suc g) less =
      at_changed xs i x g (omega arith) ∙ ap (λ (b : Bool). if b then f x else get_or (map f xs) g d) (one_less i g)

  -- what is seen at a place
  pub at_place : (xs : List A) (i : ℕ) (x : A) → i < length xs → x ≡ get_or xs i x → get_or (map f xs) i d ≡ f x
  at_place xs i x less e = get_or-map f xs i x d less ∙ ap f (sym e)

  -- one that is changed by a function of what was there
  pub at_grown : (xs : List A) (i : ℕ) (x : A) (g : B → B) (old : ℕ → B) → i < length xs → ((j : ℕ) → get_or (map f xs) j d ≡ old j)
      → f x ≡ g (get_or (map f xs) i d) → (j : ℕ) → get_or (map f (set xs i x)) j d ≡ (if nat_eq i j then g (old j) else old j)
  at_grown xs i x g old less same e j = at_changed xs i x j less ∙ one (nat_eq i j) (Decides-eqb i j).0
    where
      one : (b : Bool) → (b ≡ true → i ≡ j) → (if b then f x else get_or (map f xs) j d) ≡ (if b then g (old j) else old j)
      one true h = e ∙ ap g (same i ∙ ap old (h refl))
      one false h = same j
