-- Lists of events and of digests that runs give.
use Rattle.std.proofs.Common.{◌≡◌, ◌≢◌, ◌↔◌, ◌⊎◌, inl, inr, ⊎_elim, ℕ, zero, suc, ℤ, List, [], ◌∷◌, ◌++◌, map, AllPairs, refl, sym, ap, subst, ◌∙◌, arith}
use Rattle.std.specs.List.{AllByRecursion}
use Rattle.std.proofs.lemmas.List.Elements.{All-from_recursion}
use Rattle.std.proofs.lemmas.List.Kept.{AllPairs-cons}
use Rattle.cov_base.specs.Lists.{Everywhere, Somewhere}

-- ---- texts are equal or not

same_number : (m n : ℕ) → (m ≡ n) ⊎ (m ≢ n)
same_number zero zero = inl refl
same_number zero (suc n) = inr (λ same. absurd (omega (arith, same)))
same_number (suc m) zero = inr (λ same. absurd (omega (arith, same)))
same_number (suc m) (suc n) =
    ⊎_elim (λ same. inl (ap (λ (k : ℕ). suc k) same)) (λ differ. inr (λ same. differ (omega (arith, same)))) (same_number m n)

heads : (x y : ℕ) (xs ys : List ℕ) → (x ∷ xs) ≡ (y ∷ ys) → x ≡ y
heads x y xs ys same = cc same

tails : (x y : ℕ) (xs ys : List ℕ) → (x ∷ xs) ≡ (y ∷ ys) → xs ≡ ys
tails x y xs ys same = cc same

both_same : (x y : ℕ) (xs ys : List ℕ) → (x ≡ y) ⊎ (x ≢ y) → (xs ≡ ys) ⊎ (xs ≢ ys) → ((x ∷ xs) ≡ (y ∷ ys)) ⊎ ((x ∷ xs) ≢ (y ∷ ys))
both_same x y xs ys (inl one) (inl rest) = inl (ap (λ (n : ℕ). n ∷ xs) one ∙ ap (λ (ns : List ℕ). y ∷ ns) rest)
both_same x y xs ys (inl one) (inr differ) = inr (λ same. differ (tails x y xs ys same))
both_same x y xs ys (inr differ) rest = inr (λ same. differ (heads x y xs ys same))

same_text : (xs ys : List ℕ) → (xs ≡ ys) ⊎ (xs ≢ ys)
same_text [] [] = inl refl
same_text [] (y ∷ ys) = inr (λ same. let x : ⊥ = cc same in x)
same_text (x ∷ xs) [] = inr (λ same. let y : ⊥ = cc same in y)
same_text (x ∷ xs) (y ∷ ys) = both_same x y xs ys (same_number x y) (same_text xs ys)

-- ---- a list of texts of which each stands once

either_place : (d x : List ℕ) (xs : List (List ℕ)) → (x ≡ d) ⊎ (x ≢ d) → Somewhere (λ y. y ≡ d) xs ⊎ (Somewhere (λ y. y ≡ d) xs → ⊥)
    → Somewhere (λ y. y ≡ d) (x ∷ xs) ⊎ (Somewhere (λ y. y ≡ d) (x ∷ xs) → ⊥)
either_place d x xs (inl here) later = inl (inl here)
either_place d x xs (inr not_here) (inl there) = inl (inr there)
either_place d x xs (inr not_here) (inr not_there) = inr (λ s. ⊎_elim (λ here. not_here here) (λ there. not_there there) s)

in_or_out : (d : List ℕ) (xs : List (List ℕ)) → Somewhere (λ y. y ≡ d) xs ⊎ (Somewhere (λ y. y ≡ d) xs → ⊥)
in_or_out d [] = inr (λ none. none)
in_or_out d (x ∷ xs) = either_place d x xs (same_text x d) (in_or_out d xs)

none_of : (d : List ℕ) (xs : List (List ℕ)) → (Somewhere (λ y. y ≡ d) xs → ⊥) → AllByRecursion (λ y. d ≢ y) xs
none_of d [] out = tt
none_of d (x ∷ xs) out = (λ same. out (inl (sym same)), none_of d xs (λ there. out (inr there)))

-- these texts, each once, and just these
pub record AreOnce (IsThere : List ℕ → Type 0) : Type 0 where
  pub texts : List (List ℕ)
  pub all : (d : List ℕ) → Somewhere (λ x. x ≡ d) texts ↔ IsThere d
  pub once : AllPairs (λ x y. x ≢ y) texts

one_once : (IsThere : List ℕ → Type 0) (d : List ℕ) → (so_far : AreOnce IsThere)
    → Somewhere (λ y. y ≡ d) so_far.texts ⊎ (Somewhere (λ y. y ≡ d) so_far.texts → ⊥) → AreOnce (λ x. (d ≡ x) ⊎ IsThere x)
one_once IsThere d so_far (inl there) = record {
  texts = so_far.texts;
  all = λ x. (
    λ s. inr ((so_far.all x).0 s),
    λ either. ⊎_elim (λ same. subst (λ (z : List ℕ). Somewhere (λ y. y ≡ z) so_far.texts) same there) (λ is. (so_far.all x).1 is) either,
  );
  once = so_far.once;
}
one_once IsThere d so_far (inr out) = record {
  texts = d ∷ so_far.texts;
  all = λ x. (
    λ s. ⊎_elim (λ here. inl here) (λ there. inr ((so_far.all x).0 there)) s,
    λ either. ⊎_elim (λ here. inl here) (λ is. inr ((so_far.all x).1 is)) either,
  );
  once =
      AllPairs-cons (λ x y. x ≢ y) d so_far.texts (All-from_recursion (λ y. d ≢ y) so_far.texts (none_of d so_far.texts out)) so_far.once;
}

pub all_once : {X : Type 0} (f : X → List ℕ) (xs : List X) → AreOnce (λ d. Somewhere (λ x. f x ≡ d) xs)
all_once f [] = record { texts = []; all = λ d. (λ none. none, λ none. none); once = λ i j d before within. absurd (omega arith) }
all_once f (x ∷ xs) =
    let later = all_once f xs in
    one_once (λ d. Somewhere (λ x. f x ≡ d) xs) (f x) later (in_or_out (f x) later.texts)
