-- What holds of items of joined, numbered and ordered lists.
use Rattle.std.proofs.Common.{◌≡◌, ◌≢◌, ◌≤◌, inl, inr, ⊎_elim, ℕ, zero, suc, ◌+◌, Bool, true, false, cond, List, [], ◌∷◌, ◌++◌, Some, refl, sym, ap, subst, slice_get, arith, AllPairs}
use Rattle.std.specs.List.{AllByRecursion}
use Rattle.std.proofs.lemmas.List.Elements.{All-from_recursion}
use Rattle.std.proofs.lemmas.List.Kept.{AllPairs-cons}
use Rattle.cov_base.specs.Lists.{Everywhere, Somewhere}
use Rattle.mcdc_verdicts.proofs.Lists.{everywhere-map}
use Rattle.annotated_report.specs.declared.finding.Key.{Key}
use Rattle.annotated_report.specs.declared.finding.PairLine.{PairLine}
use Rattle.annotated_report.specs.Numbered.{each_numbered}
use Rattle.annotated_report.specs.Order.{comes_before, placed, in_order}

-- ---- what holds of each item

pub everywhere_joined : {X : Type 0} (P : X → Type 0) (xs ys : List X) → Everywhere P xs → Everywhere P ys → Everywhere P (xs ++ ys)
everywhere_joined P [] ys all rest = rest
everywhere_joined P (x ∷ xs) ys all rest = (all.0, everywhere_joined P xs ys all.1 rest)

pub everywhere_numbered : {X Y : Type 0} (P : Y → Type 0) (found : ℕ → X → List Y) (n : ℕ) (xs : List X)
    → ((k : ℕ) (x : X) → slice_get xs k ≡ Some x → Everywhere P (found (n + k) x)) → Everywhere P (each_numbered found n xs)
everywhere_numbered P found n [] each = tt
everywhere_numbered P found n (x ∷ xs) each =
    let first : n + 0 ≡ n = omega arith in
    everywhere_joined P (found n x) (each_numbered found (n + 1) xs) (subst (λ m. Everywhere P (found m x)) first (each 0 x refl))
    (everywhere_numbered P found (n + 1) xs (λ k y there.
    let next : n + suc k ≡ n + 1 + k = omega arith in
    subst (λ m. Everywhere P (found m y)) next (each (suc k) y there)))

everywhere_placed : {X : Type 0} (P : X → Type 0) (key : X → Key) (x : X) (ys : List X) → P x → Everywhere P ys → Everywhere P (placed key x ys)
everywhere_placed P key x [] one all = (one, tt)
everywhere_placed P key x (y ∷ ys) one all = by_order (comes_before (key y) (key x)) (everywhere_placed P key x ys one all.1)
  where
    by_order : (b : Bool) → Everywhere P (placed key x ys) → Everywhere P (cond b (y ∷ placed key x ys) (x ∷ y ∷ ys))
    by_order true later = (all.0, later)
    by_order false later = (one, all)

pub everywhere_ordered : {X : Type 0} (P : X → Type 0) (key : X → Key) (xs : List X) → Everywhere P xs → Everywhere P (in_order key xs)
everywhere_ordered P key [] all = tt
everywhere_ordered P key (x ∷ xs) all = everywhere_placed P key x (in_order key xs) all.0 (everywhere_ordered P key xs all.1)

-- ---- what holds of some item

somewhere_left : {X : Type 0} (P : X → Type 0) (xs ys : List X) → Somewhere P xs → Somewhere P (xs ++ ys)
somewhere_left P [] ys some = absurd some
somewhere_left P (x ∷ xs) ys some = ⊎_elim (λ here. inl here) (λ there. inr (somewhere_left P xs ys there)) some

somewhere_right : {X : Type 0} (P : X → Type 0) (xs ys : List X) → Somewhere P ys → Somewhere P (xs ++ ys)
somewhere_right P [] ys some = some
somewhere_right P (x ∷ xs) ys some = inr (somewhere_right P xs ys some)

pub somewhere_numbered : {X Y : Type 0} (P : Y → Type 0) (found : ℕ → X → List Y) (n : ℕ) (xs : List X) (k m : ℕ) (x : X)
    → m ≡ n + k → slice_get xs k ≡ Some x → Somewhere P (found m x) → Somewhere P (each_numbered found n xs)
somewhere_numbered P found n [] k m x is there some = absurd (cc there)
somewhere_numbered P found n (y ∷ xs) zero m x is there some =
    let same : y ≡ x = cc there in
    let first : m ≡ n = omega (arith, is) in
    somewhere_left P (found n y) (each_numbered found (n + 1) xs)
    (subst (λ z. Somewhere P (found n z)) (sym same) (subst (λ i. Somewhere P (found i x)) first some))
somewhere_numbered P found n (y ∷ xs) (suc k) m x is there some =
    somewhere_right P (found n y) (each_numbered found (n + 1) xs)
    (somewhere_numbered P found (n + 1) xs k m x (omega (arith, is)) there some)

somewhere_placed : {X : Type 0} (P : X → Type 0) (key : X → Key) (x : X) (ys : List X) → Somewhere P (x ∷ ys) → Somewhere P (placed key x ys)
somewhere_placed P key x [] some = some
somewhere_placed P key x (y ∷ ys) some =
    by_order (comes_before (key y) (key x))
    (⊎_elim (λ here. inr (somewhere_placed P key x ys (inl here)))
    (λ later. ⊎_elim (λ here. inl here) (λ there. inr (somewhere_placed P key x ys (inr there))) later) some)
  where
    by_order : (b : Bool) → Somewhere P (y ∷ placed key x ys) → Somewhere P (cond b (y ∷ placed key x ys) (x ∷ y ∷ ys))
    by_order true later = later
    by_order false later = some

pub somewhere_ordered : {X : Type 0} (P : X → Type 0) (key : X → Key) (xs : List X) → Somewhere P xs → Somewhere P (in_order key xs)
somewhere_ordered P key [] some = some
somewhere_ordered P key (x ∷ xs) some =
    somewhere_placed P key x (in_order key xs) (⊎_elim (λ here. inl here) (λ there. inr (somewhere_ordered P key xs there)) some)

-- ---- lines that stand once

abbrev Differ : PairLine → PairLine → Type 0
Differ a b = a.key ≢ b.key

abbrev pub AreOnce : List PairLine → Type 0
AreOnce [] = Unit {0}
AreOnce (x ∷ xs) = Everywhere (λ y. Differ x y) xs × AreOnce xs

by_recursion : {X : Type 0} (P : X → Type 0) (xs : List X) → Everywhere P xs → AllByRecursion P xs
by_recursion P [] all = tt
by_recursion P (x ∷ xs) all = (all.0, by_recursion P xs all.1)

pub once_pairs : (xs : List PairLine) → AreOnce xs → AllPairs Differ xs
once_pairs [] once = λ i j d before within. absurd (let bad : ⊥ = omega arith in bad)
once_pairs (x ∷ xs) once =
    AllPairs-cons Differ x xs (All-from_recursion (λ y. Differ x y) xs (by_recursion (λ y. Differ x y) xs once.0)) (once_pairs xs once.1)

once_placed : (x : PairLine) (ys : List PairLine) → Everywhere (λ y. Differ x y) ys → AreOnce ys → AreOnce (placed (λ line. line.key) x ys)
once_placed x [] new once = (tt, tt)
once_placed x (y ∷ ys) new once =
    by_order (comes_before y.key x.key)
    (everywhere_placed (λ z. Differ y z) (λ line. line.key) x ys (λ same. new.0 (sym same)) once.0, once_placed x ys new.1 once.1)
  where
    by_order : (b : Bool) → AreOnce (y ∷ placed (λ line. line.key) x ys) → AreOnce (cond b (y ∷ placed (λ line. line.key) x ys) (x ∷ y ∷ ys))
    by_order true later = later
    by_order false later = (new, once)

pub once_ordered : (xs : List PairLine) → AreOnce xs → AreOnce (in_order (λ line. line.key) xs)
once_ordered [] once = tt
once_ordered (x ∷ xs) once =
    once_placed x (in_order (λ line. line.key) xs) (everywhere_ordered (λ y. Differ x y) (λ line. line.key) xs once.0) (once_ordered xs once.1)

once_joined : (xs ys : List PairLine) → AreOnce xs → AreOnce ys → Everywhere (λ x. Everywhere (λ y. Differ x y) ys) xs → AreOnce (xs ++ ys)
once_joined [] ys once also differ = also
once_joined (x ∷ xs) ys once also differ =
    (everywhere_joined (λ y. Differ x y) xs ys once.0 differ.0, once_joined xs ys once.1 also differ.1)

-- a line that was found of an item with the number n or a later one
abbrev IsFrom : (Key → ℕ) → ℕ → PairLine → Type 0
IsFrom number n line = n ≤ number line.key

numbers_rise : {X : Type 0} (number : Key → ℕ) (found : ℕ → X → List PairLine) → ((m : ℕ) (x : X) → Everywhere (λ line. number line.key ≡ m) (found m x))
    → (low n : ℕ) (xs : List X) → low ≤ n → Everywhere (IsFrom number low) (each_numbered found n xs)
numbers_rise number found numbered low n [] le = tt
numbers_rise number found numbered low n (x ∷ xs) le =
    everywhere_joined (IsFrom number low) (found n x) (each_numbered found (n + 1) xs)
    (everywhere-map (λ (line : PairLine). number line.key ≡ n) (IsFrom number low) (λ line is. omega (arith, is)) (found n x) (numbered n x))
    (numbers_rise number found numbered low (n + 1) xs (omega arith))

-- lines that are numbered by the items of which they were found stand once, where those of each item do
pub once_numbered : {X : Type 0} (number : Key → ℕ) (found : ℕ → X → List PairLine) → ((m : ℕ) (x : X) → Everywhere (λ line. number line.key ≡ m) (found m x))
    → ((m : ℕ) (x : X) → AreOnce (found m x)) → (n : ℕ) (xs : List X) → AreOnce (each_numbered found n xs)
once_numbered number found numbered once n [] = tt
once_numbered number found numbered once n (x ∷ xs) =
    once_joined (found n x) (each_numbered found (n + 1) xs) (once n x) (once_numbered number found numbered once (n + 1) xs)
    (everywhere-map (λ (line : PairLine). number line.key ≡ n) (λ a. Everywhere (λ b. Differ a b) (each_numbered found (n + 1) xs))
    (λ a is. everywhere-map (IsFrom number (n + 1)) (λ b. Differ a b)
    (λ b from same. let equal : number a.key ≡ number b.key = ap number same in omega (arith, is, equal, from))
    (each_numbered found (n + 1) xs) (numbers_rise number found numbered (n + 1) (n + 1) xs (omega arith)))
    (found n x) (numbered n x))
