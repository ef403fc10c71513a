-- Unions of the sets that values stand for, whatever the values are: has v p says that p is in the set of v.
use Rattle.std.specs.Prelude.{◌↔◌, ◌⊎◌}
use Rattle.std.proofs.Common.{inl, inr}

-- the third stands for what either of the others stands for
abbrev pub IsUnionBy : {V P : Type 0} → (V → P → Type 0) → V → V → V → Type 0
IsUnionBy {V} {P} has a b both = (p : P) → has both p ↔ (has a p ⊎ has b p)

-- both stand for the same
abbrev pub AreSameBy : {V P : Type 0} → (V → P → Type 0) → V → V → Type 0
AreSameBy {V} {P} has a b = (p : P) → has a p ↔ has b p

-- which values are alike: each is like itself, and this may be turned and chained
pub record IsEquivalenceRelation {V : Type 0} (alike : V → V → Type 0) : Type 0 where
  pub reflexive : (a : V) → alike a a
  pub symmetric : (a b : V) → alike a b → alike b a
  pub transitive : (a b c : V) → alike a b → alike b c → alike a c

-- ---- unions as sums: C is A or B

abbrev pub Or : (A B C : Type 0) → Type 0
Or A B C = C ↔ (A ⊎ B)

pub swapped : (A B C D : Type 0) → Or A B C → Or B A D → C ↔ D
swapped A B C D c d = (
  λ x. d.1 (elim (c.0 x) [ inl a ↦ inr a | inr b ↦ inl b ]),
  λ x. c.1 (elim (d.0 x) [ inl b ↦ inr b | inr a ↦ inl a ]),
)

pub regrouped : (A B C AB BC L R : Type 0) → Or A B AB → Or AB C L → Or B C BC → Or A BC R → L ↔ R
regrouped A B C AB BC L R ab l bc r = (
  λ x. elim (l.0 x) [
    | inl left ↦ elim (ab.0 left) [ inl a ↦ r.1 (inl a) | inr b ↦ r.1 (inr (bc.1 (inl b))) ]
    | inr c ↦ r.1 (inr (bc.1 (inr c)))
  ],
  λ x. elim (r.0 x) [
    | inl a ↦ l.1 (inl (ab.1 (inl a)))
    | inr right ↦ elim (bc.0 right) [ inl b ↦ l.1 (inl (ab.1 (inr b))) | inr c ↦ l.1 (inr c) ]
  ],
)

pub doubled : (A C : Type 0) → Or A A C → A ↔ C
doubled A C c = (λ x. c.1 (inl x), λ x. elim (c.0 x) [ inl a ↦ a | inr a ↦ a ])

-- ---- whatever values stand for, their unions don't ask for an order or a grouping, nor how often a value comes

module _ {V P : Type 0} (has : V → P → Type 0) where
  pub union_is_commutative : (a b ab ba : V) → IsUnionBy has a b ab → IsUnionBy has b a ba → AreSameBy has ab ba
  union_is_commutative a b ab ba one other = λ p. swapped (has a p) (has b p) (has ab p) (has ba p) (one p) (other p)

  pub union_is_associative : (a b c ab bc left right : V) → IsUnionBy has a b ab → IsUnionBy has ab c left → IsUnionBy has b c bc → IsUnionBy has a bc right
      → AreSameBy has left right
  union_is_associative a b c ab bc left right u v w x =
      λ p. regrouped (has a p) (has b p) (has c p) (has ab p) (has bc p) (has left p) (has right p) (u p) (v p) (w p) (x p)

  pub union_is_idempotent : (a both : V) → IsUnionBy has a a both → AreSameBy has a both
  union_is_idempotent a both u = λ p. doubled (has a p) (has both p) (u p)
