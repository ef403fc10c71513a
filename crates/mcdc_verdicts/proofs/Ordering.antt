-- The order of vectors is that of numbers, and so is that of pairs.
use Rattle.std.proofs.Common.{◌≡◌, ℕ, zero, suc, ◌<◌, ◌≤◌, ◌+◌, ◌*◌, ◌^◌, Bool, true, false, not, ◌&&◌, ◌||◌, ◌⊎◌, inl, inr, nat_lt, nat_eq, refl, ap, subst, sym, ◌∙◌, arith, if◌then◌else◌}
use Rattle.std.proofs.lemmas.Bool.Decides.{nat_tests, eqb_tells}
use Rattle.std.proofs.Math.Nat.{pow-suc, mul-le-mul_right}
use Rattle.std.proofs.lemmas.Nat.Bits.{bit_at-zero, bit_at-trailing_zeros}
use Rattle.std.specs.Int.{bit_at, w32, trailing_zeros}
use Rattle.cov_base.specs.Marks.{Marks, bit, rank, precedes_from, precedes}
use Rattle.mcdc_verdicts.specs.Search.{widest}
use Rattle.decision_meaning.specs.Pair.{pair_precedes}

-- the number that the marks spell in base 3
abbrev pub key_from : ℕ → ℕ → Marks → ℕ
key_from c zero v = 0
key_from c (suc k) v = rank v c * 3 ^ k + key_from (suc c) k v

rank-le : (v : Marks) (c : ℕ) → rank v c ≤ 2
rank-le v c = elim (v.seen c) as (λ s. (if s then (if v.value c then 1 else 0) else 2) ≤ 2) [
  | true ↦ elim (v.value c) as (λ b. (if b then 1 else 0) ≤ 2) [ true ↦ omega arith | false ↦ omega arith ]
  | false ↦ omega arith
]

digit-lt : (a m x : ℕ) → a ≤ 2 → x < m → a * m + x < 3 * m
digit-lt a m x h l = grind arith

pub key-lt : (c k : ℕ) (v : Marks) → key_from c k v < 3 ^ k
key-lt c zero v = omega arith
key-lt c (suc k) v =
    let h = digit-lt (rank v c) (3 ^ k) (key_from (suc c) k v) (rank-le v c) (key-lt (suc c) k v) in
    let e : 3 * 3 ^ k ≡ 3 ^ suc k = rw (pow-suc 3 k) (omega arith) in
    subst (λ n. rank v c * 3 ^ k + key_from (suc c) k v < n) e h

lesser_digit : (a b m x y : ℕ) → x < m → a < b → a * m + x < b * m + y
lesser_digit a b m x y p h =
    let more : suc a * m ≤ b * m = mul-le-mul_right m h in
    omega arith

digits-lt : (a b m x y : ℕ) → x < m → y < m →
    (nat_lt a b || nat_eq a b && nat_lt x y) ≡ nat_lt (a * m + x) (b * m + y)
digits-lt a b m x y p q =
    let less : a < b → a * m + x < b * m + y = λ h. lesser_digit a b m x y p h in
    let more : b < a → b * m + y < a * m + x = λ h. lesser_digit b a m y x q h in
    grind (arith, nat_tests)

pub by_keys : (c k : ℕ) (v w : Marks) → precedes_from c k v w ≡ nat_lt (key_from c k v) (key_from c k w)
by_keys c zero v w = refl
by_keys c (suc k) v w =
    ap (λ rest. nat_lt (rank v c) (rank w c) || nat_eq (rank v c) (rank w c) && rest) (by_keys (suc c) k v w)
    ∙ digits-lt (rank v c) (rank w c) (3 ^ k) (key_from (suc c) k v) (key_from (suc c) k w) (key-lt (suc c) k v) (key-lt (suc c) k w)

lexicographic : (a b c d p q : ℕ) →
    (nat_lt a c || not (nat_lt c a) && nat_lt b d) ≡ true →
    (nat_lt c p || not (nat_lt p c) && nat_lt d q) ≡ true →
    (nat_lt a p || not (nat_lt p a) && nat_lt b q) ≡ true
lexicographic a b c d p q h l = grind (arith, nat_tests)

lexicographic-self : (a b : ℕ) → (nat_lt a a || not (nat_lt a a) && nat_lt b b) ≡ false
lexicographic-self a b = grind (arith, nat_tests)

-- the order of pairs by keys
pub pairs_by_keys : (n : ℕ) (v w f s : Marks) →
    pair_precedes n v w f s ≡
    (nat_lt (key_from 0 n v) (key_from 0 n f) || not (nat_lt (key_from 0 n f) (key_from 0 n v)) && nat_lt (key_from 0 n w) (key_from 0 n s))
pairs_by_keys n v w f s =
    ap (λ b. b || not (precedes n f v) && precedes n w s) (by_keys 0 n v f)
    ∙ ap (λ b. nat_lt (key_from 0 n v) (key_from 0 n f) || not b && precedes n w s) (by_keys 0 n f v)
    ∙ ap (λ b. nat_lt (key_from 0 n v) (key_from 0 n f) || not (nat_lt (key_from 0 n f) (key_from 0 n v)) && b) (by_keys 0 n w s)

pub pair-transitive : (n : ℕ) (v w f s p q : Marks) →
    pair_precedes n v w f s ≡ true → pair_precedes n f s p q ≡ true → pair_precedes n v w p q ≡ true
pair-transitive n v w f s p q h l =
    pairs_by_keys n v w p q
    ∙ lexicographic (key_from 0 n v) (key_from 0 n w) (key_from 0 n f) (key_from 0 n s) (key_from 0 n p) (key_from 0 n q)
    (sym (pairs_by_keys n v w f s) ∙ h) (sym (pairs_by_keys n f s p q) ∙ l)

pub pair-irreflexive : (n : ℕ) (v w : Marks) → pair_precedes n v w v w ≡ false
pair-irreflexive n v w = pairs_by_keys n v w v w ∙ lexicographic-self (key_from 0 n v) (key_from 0 n w)

same_or_not : (a b : ℕ) → (a ≡ b) ⊎ (a ≡ b → ⊥)
same_or_not a b = elim (eqb_tells a b) [ inl t ↦ inl t.1 | inr t ↦ inr t.1 ]

decided : (a b : ℕ) (rest : Bool) → (a ≡ b → ⊥) → (nat_lt a b || nat_eq a b && rest) ≡ nat_lt a b
decided a b rest ne = grind (arith, nat_tests)

passed : (a b : ℕ) (rest : Bool) → a ≡ b → (nat_lt a b || nat_eq a b && rest) ≡ rest
passed a b rest e = grind (arith, nat_tests)

-- the first mark that differs decides
pub by_first : (k c m : ℕ) (v w : Marks) → c ≤ m → m < c + k → ((i : ℕ) → i < m → rank v i ≡ rank w i) →
    (rank v m ≡ rank w m → ⊥) → precedes_from c k v w ≡ nat_lt (rank v m) (rank w m)
by_first zero c m v w low high below ne = absurd (let bad : ⊥ = omega arith in bad)
by_first (suc k) c m v w low high below ne =
    elim (same_or_not c m) [
      | inl e ↦ subst (λ n. (nat_lt (rank v n) (rank w n) || nat_eq (rank v n) (rank w n) && precedes_from (suc c) k v w) ≡ nat_lt (rank v m) (rank w m))
          (sym e) (decided (rank v m) (rank w m) (precedes_from (suc c) k v w) ne)
      | inr other ↦
          let here : rank v c ≡ rank w c = below c (omega arith) in
          passed (rank v c) (rank w c) (precedes_from (suc c) k v w) here
          ∙ by_first k (suc c) m v w (omega arith) (omega arith) below ne
    ]

-- vectors of the same marks don't come before one another
pub by_none : (k c : ℕ) (v w : Marks) → ((i : ℕ) → c ≤ i → i < c + k → rank v i ≡ rank w i) → precedes_from c k v w ≡ false
by_none zero c v w all = refl
by_none (suc k) c v w all =
    let here : rank v c ≡ rank w c = all c (omega arith) (omega arith) in
    let rest : precedes_from (suc c) k v w ≡ false = by_none k (suc c) v w (λ i l h. all i (omega arith) (omega arith)) in
    grind (arith, nat_tests)

-- conditions that neither vector has seen don't decide
pub narrowed : (k c j : ℕ) (v w : Marks) → ((i : ℕ) → c + k ≤ i → rank v i ≡ rank w i) → precedes_from c (k + j) v w ≡ precedes_from c k v w
narrowed zero c j v w all =
    let e : zero + j ≡ j = omega arith in
    subst (λ n. precedes_from c n v w ≡ false) (sym e) (by_none j c v w (λ i l h. all i (omega arith)))
narrowed (suc k) c j v w all =
    let e : suc k + j ≡ suc (k + j) = omega arith in
    subst (λ n. precedes_from c n v w ≡ precedes_from c (suc k) v w) (sym e)
    (ap (λ rest. nat_lt (rank v c) (rank w c) || nat_eq (rank v c) (rank w c) && rest)
    (narrowed k (suc c) j v w (λ i l. all i (omega arith))))

same_rank : (a b : ℕ) → not (nat_eq a b) ≡ false → a ≡ b
same_rank a b h = grind (arith, nat_tests)

other_rank : (a b : ℕ) → not (nat_eq a b) ≡ true → a ≡ b → ⊥
other_rank a b h e = grind (arith, nat_tests)

-- the word of the conditions whose marks differ
abbrev pub IsDifference : ℕ → (v w : Marks) → Type 0
IsDifference word v w = (c : ℕ) → bit word c ≡ not (nat_eq (rank v c) (rank w c))

same_where_unset : (word : ℕ) (v w : Marks) → IsDifference word v w → (c : ℕ) → bit_at word c ≡ 0 → rank v c ≡ rank w c
same_where_unset word v w marked c h = same_rank (rank v c) (rank w c) (sym (marked c) ∙ ap (λ n. nat_eq n 1) h)

pub no_difference : (word : ℕ) (v w : Marks) → IsDifference word v w → word ≡ 0 → precedes widest v w ≡ false
no_difference word v w marked h =
    by_none widest 0 v w (λ i _ _. same_where_unset word v w marked i (ap (λ n. bit_at n i) h ∙ bit_at-zero i))

pub first_difference : (word : ℕ) (v w : Marks) → IsDifference word v w → 0 < word → word < 2 ^ 32 →
    precedes widest v w ≡ nat_lt (rank v (trailing_zeros w32 word)) (rank w (trailing_zeros w32 word))
unfolding widest
first_difference word v w marked low high =
    let first = bit_at-trailing_zeros w32 word low high in
    let inside : trailing_zeros w32 word < 32 = first.0 in
    by_first 32 0 (trailing_zeros w32 word) v w (omega arith) (omega arith)
    (λ i h. same_where_unset word v w marked i (first.2 i h))
    (other_rank (rank v (trailing_zeros w32 word)) (rank w (trailing_zeros w32 word))
    (sym (marked (trailing_zeros w32 word)) ∙ ap (λ n. nat_eq n 1) first.1))

-- what neither vector has seen has the same mark in both
pub unseen_alike : (v w : Marks) (i : ℕ) → v.seen i ≡ false → w.seen i ≡ false → rank v i ≡ rank w i
unseen_alike v w i off_v off_w =
    ap (λ b. if b then (if v.value i then 1 else 0) else 2) off_v ∙ ap (λ b. if b then (if w.value i then 1 else 0) else 2) (sym off_w)
