-- Instances in the order of their places have the units of their instances in order.
use Rattle.std.proofs.Common.{◌≡◌, ◌≤◌, ℕ, Bool, true, false, if◌then◌else◌, List, [], ◌∷◌, ◌++◌, reverse, refl, sym, ap, ◌∙◌, subst, arith, inl, inr}
use Rattle.std.specs.List.{sum_by}
use Rattle.std.proofs.lemmas.List.Sums.{sum_by-cons, sum_by-append}
use mathlib.Core.List.{reverse-cons}
use Rattle.ada_meaning.specs.Obligations.{inserted, in_order}
use Rattle.legal_instances.specs.Ordered.{HaveSameItems}
use Rattle.legal_instances.proofs.Cycles.{In}
use Rattle.legal_instances.proofs.Sums.{there_too, same_behind, same_both, same_back, swapped}

-- items with a key each
abbrev pub AreKeyed : {X : Type 0} → (X → ℕ → Type 0) → List X → List ℕ → Type 0
AreKeyed R [] [] = Unit {0}
AreKeyed R (x ∷ xs) (n ∷ ns) = R x n × AreKeyed R xs ns
AreKeyed R xs ns = ⊥

-- none is less than the one in front
abbrev IsLow : ℕ → List ℕ → Type 0
IsLow n [] = Unit {0}
IsLow n (m ∷ ms) = n ≤ m

abbrev pub Ascend : List ℕ → Type 0
Ascend [] = Unit {0}
Ascend (n ∷ ns) = IsLow n ns × Ascend ns

-- the first of keys in order is the least
least : (n m : ℕ) (ns : List ℕ) → IsLow n ns → Ascend ns → In ns m → n ≤ m
least n m [] low up h = absurd h
least n m (k ∷ ns) low up (inl e) = omega (arith, low, e)
least n m (k ∷ ns) low up (inr h) = let rest = least k m ns up.0 up.1 h in omega (arith, low, rest)

no_fewer : (n : ℕ) (ns : List ℕ) → HaveSameItems [] (n ∷ ns) → ⊥
no_fewer n ns h = absurd (there_too n (n ∷ ns) [] (same_back [] (n ∷ ns) h) (inl refl))

same_rest : (n m : ℕ) (ns ms : List ℕ) → n ≡ m → HaveSameItems (n ∷ ns) (m ∷ ms) → HaveSameItems ns ms
same_rest n m ns ms e h weight =
    let a = sum_by-cons weight n ns in
    let b = sum_by-cons weight m ms in
    let c = h weight in
    let d = ap weight e in
    omega (arith, a, b, c, d)

-- two lists in order with the same items are one
pub one_order : (ns ms : List ℕ) → Ascend ns → Ascend ms → HaveSameItems ns ms → ns ≡ ms
one_order [] [] up rise h = refl
one_order [] (m ∷ ms) up rise h = absurd (no_fewer m ms h)
one_order (n ∷ ns) [] up rise h = absurd (no_fewer n ns (same_back (n ∷ ns) [] h))
one_order (n ∷ ns) (m ∷ ms) up rise h =
    let there = there_too n (n ∷ ns) (m ∷ ms) h (inl refl) in
    let back = there_too m (m ∷ ms) (n ∷ ns) (same_back (n ∷ ns) (m ∷ ms) h) (inl refl) in
    let same = equal n m (low_in m n ms rise.0 rise.1 there) (low_in n m ns up.0 up.1 back) in
    (λ i. same i ∷ one_order ns ms up.1 rise.1 (same_rest n m ns ms same h) i)
  where
    low_in : (a b : ℕ) (xs : List ℕ) → IsLow a xs → Ascend xs → In (a ∷ xs) b → a ≤ b
    low_in a b xs low rising (inl e) = omega (arith, e)
    low_in a b xs low rising (inr k) = least a b xs low rising k

    equal : (a b : ℕ) → b ≤ a → a ≤ b → a ≡ b
    equal a b k l = omega (arith, k, l)

-- sorting, where a test on items is the order of their keys
module _ {X : Type 0} (R : X → ℕ → Type 0) (before : X → X → Bool)
    (less : (x y : X) (n m : ℕ) → R x n → R y m → before y x ≡ true → m ≤ n)
    (not_less : (x y : X) (n m : ℕ) → R x n → R y m → before y x ≡ false → n ≤ m) where
  pub record IsKeyedInOrder (xs : List X) (ns : List ℕ) : Type 0 where
    pub keys : List ℕ
    pub keyed : AreKeyed R xs keys
    pub same : HaveSameItems keys ns
    pub up : Ascend keys

  record IsInserted (n : ℕ) (ns : List ℕ) (xs : List X) : Type 0 where
    keys : List ℕ
    keyed : AreKeyed R xs keys
    same : HaveSameItems keys (n ∷ ns)
    up : Ascend keys
    low : (k : ℕ) → k ≤ n → IsLow k ns → IsLow k keys

  insert_keyed : (x : X) (n : ℕ) (ys : List X) (ms : List ℕ) → R x n → AreKeyed R ys ms → Ascend ms → IsInserted n ms (inserted before x ys)
  insert_keyed x n [] [] r h up = record { keys = n ∷ []; keyed = (r, tt); same = λ weight. refl; up = (tt, tt); low = λ k e l. e }
  insert_keyed x n [] (m ∷ ms) r h up = absurd h
  insert_keyed x n (y ∷ ys) [] r h up = absurd h
  insert_keyed x n (y ∷ ys) (m ∷ ms) r h up =
      by_test (before y x) refl (insert_keyed x n ys ms r h.1 up.1)
    where
      by_test : (b : Bool) → before y x ≡ b → IsInserted n ms (inserted before x ys)
          → IsInserted n (m ∷ ms) (if b then y ∷ inserted before x ys else x ∷ (y ∷ ys))
      by_test true e rest =
          let first = less x y n m r h.0 e in record {
            keys = m ∷ rest.keys;
            keyed = (h.0, rest.keyed);
            same = same_both (m ∷ rest.keys) (m ∷ (n ∷ ms)) (n ∷ (m ∷ ms)) (same_behind m rest.keys (n ∷ ms) rest.same) (swapped m n ms);
            up = (rest.low m first up.0, rest.up);
            low = λ k f l. l;
          }
      by_test false e rest = record {
        keys = n ∷ (m ∷ ms);
        keyed = (r, h);
        same = λ weight. refl;
        up = (not_less x y n m r h.0 e, up);
        low = λ k f l. f;
      }

  pub sorted_keys : (xs : List X) (ns : List ℕ) → AreKeyed R xs ns → IsKeyedInOrder (in_order before xs) ns
  sorted_keys [] [] h = record { keys = []; keyed = tt; same = λ weight. refl; up = tt }
  sorted_keys [] (n ∷ ns) h = absurd h
  sorted_keys (x ∷ xs) [] h = absurd h
  sorted_keys (x ∷ xs) (n ∷ ns) h =
      let rest = sorted_keys xs ns h.1 in
      let first = insert_keyed x n (in_order before xs) rest.keys h.0 rest.keyed rest.up in
      record {
        keys = first.keys;
        keyed = first.keyed;
        same = same_both first.keys (n ∷ rest.keys) (n ∷ ns) first.same (same_behind n rest.keys ns rest.same);
        up = first.up;
      }

-- keyed items may be turned round
keyed_end : {X : Type 0} (R : X → ℕ → Type 0) (xs : List X) (ns : List ℕ) (x : X) (n : ℕ) → AreKeyed R xs ns → R x n → AreKeyed R (xs ++ x ∷ []) (ns ++ n ∷ [])
keyed_end R [] [] x n h r = (r, tt)
keyed_end R [] (m ∷ ns) x n h r = absurd h
keyed_end R (y ∷ xs) [] x n h r = absurd h
keyed_end R (y ∷ xs) (m ∷ ns) x n h r = (h.0, keyed_end R xs ns x n h.1 r)

pub keyed_reversed : {X : Type 0} (R : X → ℕ → Type 0) (xs : List X) (ns : List ℕ) → AreKeyed R xs ns → AreKeyed R (reverse xs) (reverse ns)
keyed_reversed R [] [] h = tt
keyed_reversed R [] (n ∷ ns) h = absurd h
keyed_reversed R (x ∷ xs) [] h = absurd h
keyed_reversed R (x ∷ xs) (n ∷ ns) h =
    subst (λ ys. AreKeyed R ys (reverse (n ∷ ns))) (sym (reverse-cons x xs))
    (subst (AreKeyed R (reverse xs ++ x ∷ [])) (sym (reverse-cons n ns))
    (keyed_end R (reverse xs) (reverse ns) x n (keyed_reversed R xs ns h.1) h.0))

pub same_reversed : (ns : List ℕ) → HaveSameItems (reverse ns) ns
same_reversed [] = λ weight. refl
same_reversed (n ∷ ns) = λ weight.
    ap (sum_by weight) (reverse-cons n ns)
    ∙ (back_to_front (reverse ns) n weight ∙ same_behind n (reverse ns) ns (same_reversed ns) weight)
  where
    back_to_front : (xs : List ℕ) (x : ℕ) → HaveSameItems (xs ++ x ∷ []) (x ∷ xs)
    back_to_front xs x = λ weight.
        let a = sum_by-append weight xs (x ∷ []) in
        let b = sum_by-cons weight x [] in
        let c = sum_by-cons weight x xs in
        let d : sum_by weight [] ≡ 0 = refl in
        omega (arith, a, b, c, d)
