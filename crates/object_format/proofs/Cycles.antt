-- The conditions of a decision, one after another and round again.
use Rattle.std.proofs.Common.{◌≡◌, ◌↔◌, ◌&&◌, IsTrue, nat_eq, length, slice_index_or, ℕ, zero, suc, ◌+◌, ◌-◌, ◌<◌, Bool, true, false, cond, List, Contains, nat_lt, ap, sym, subst, ◌∙◌, slice_get, arith, inl, inr}
use Rattle.std.specs.BTreeSet.{BTreeSet, btree_set_len, contains, IsFromIterResult}
use Rattle.std.specs.List.{list_all}
use Rattle.std.proofs.lemmas.Bool.{cases_lt, lt-ltb, le-ltb, ltb-true, and_parts, and_from}
use Rattle.std.proofs.lemmas.List.Elements.{All-contains, Contains-get_or}
use Rattle.std.proofs.lemmas.List.Sums.{AllPass-from_list_all, list_all-from_AllPass}
use Rattle.std.proofs.lemmas.Map.Views.{btree_set_contains_from_list}
use Rattle.cov_base.specs.declared.obligations.DecEntry.{DecEntry}
use Rattle.object_format.specs.Fields.{condition_count}
use Rattle.object_format.specs.RoleCheck.{is_known, AreSingle, AreWhole}
use Rattle.object_format.specs.Keys.{triple_cmp}
use Rattle.object_format.proofs.Sets.{counts_agree, triples_total, triples_exact}

-- the number after c of n numbers, and 0 after the last
abbrev pub turned : (n c : ℕ) → ℕ
turned n c = cond (nat_lt (c + 1) n) (c + 1) 0

-- the condition after this one in its decision, and the first after the last
abbrev pub following : List DecEntry → (ℕ × ℕ) × ℕ → (ℕ × ℕ) × ℕ
following decisions one = (one.0, turned (condition_count (slice_get decisions one.0.0)) one.1)

-- after each of the conditions the following one is among them too
abbrev pub AreTurned : List DecEntry → List ((ℕ × ℕ) × ℕ) → Type 0
AreTurned decisions all = (one : (ℕ × ℕ) × ℕ) → Contains all one → Contains all (following decisions one)

-- each condition is one of its decision's
abbrev pub AreKnown : List DecEntry → List ((ℕ × ℕ) × ℕ) → Type 0
AreKnown decisions all = (one : (ℕ × ℕ) × ℕ) → Contains all one → one.1 < condition_count (slice_get decisions one.0.0)

module _ (decisions : List DecEntry) (all : List ((ℕ × ℕ) × ℕ)) (turns : AreTurned decisions all) where
  -- from one to those behind it
  climb : (at : ℕ × ℕ) (c more : ℕ) → Contains all (at, c) → c + more < condition_count (slice_get decisions at.0) → Contains all (at, c + more)
  climb at c zero there less = subst (λ n. Contains all (at, n)) (omega arith) there
  climb at c (suc more) there less =
      let before = climb at c more there (omega arith) in
      let next = turns (at, c + more) before in
      subst (λ n. Contains all (at, n))
      (let one : nat_lt (c + more + 1) (condition_count (slice_get decisions at.0)) ≡ true = lt-ltb _ _ (omega arith) in
      ap (λ b. cond b (c + more + 1) 0) one ∙ omega arith)
      next

  -- from one round to the first
  round : (at : ℕ × ℕ) (c : ℕ) → Contains all (at, c) → c < condition_count (slice_get decisions at.0) → Contains all (at, 0)
  round at c there less =
      let n = condition_count (slice_get decisions at.0) in
      let last = climb at c (n - suc c) there (omega arith) in
      let none : nat_lt (c + (n - suc c) + 1) n ≡ false = le-ltb _ _ (omega arith) in
      subst (λ m. Contains all (at, m)) (ap (λ b. cond b (c + (n - suc c) + 1) 0) none) (turns (at, c + (n - suc c)) last)

-- what is turned is whole
pub whole_from_turned : (decisions : List DecEntry) (all : List ((ℕ × ℕ) × ℕ)) → AreKnown decisions all → AreTurned decisions all → AreWhole decisions all
whole_from_turned decisions all known turns one there c less =
    subst (λ n. Contains all (one.0, n)) (omega arith)
    (climb decisions all turns one.0 0 c (round decisions all turns one.0 one.1 there (known one there)) (omega arith))

-- what is whole is turned
pub turned_from_whole : (decisions : List DecEntry) (all : List ((ℕ × ℕ) × ℕ)) → AreKnown decisions all → AreWhole decisions all → AreTurned decisions all
turned_from_whole decisions all known whole one there =
    whole one there (turned n one.1) (elim (cases_lt (one.1 + 1) n) [
      | inl less ↦ let yes = lt-ltb (one.1 + 1) n less in subst (λ b. cond b (one.1 + 1) 0 < n) (sym yes) less
      | inr past ↦ let no = le-ltb (one.1 + 1) n past in subst (λ b. cond b (one.1 + 1) 0 < n) (sym no) (let h = known one there in omega arith)
    ])
  where
    n : ℕ
    n = condition_count (slice_get decisions one.0.0)

-- a test that each item passes
pub each_passes : {X : Type 0} (p : X → Bool) (xs : List X) → (list_all p xs ≡ true) ↔ ((x : X) → Contains xs x → p x ≡ true)
each_passes p xs = (
  λ h x there. All-contains (λ y. p y ≡ true) xs x (AllPass-from_list_all p xs h) there,
  λ h. list_all-from_AllPass p xs (λ i d less. h (slice_index_or xs i d) (Contains-get_or xs i d less)),
)

-- what the set of the conditions tells
pub complete : (decisions : List DecEntry) (all : List ((ℕ × ℕ) × ℕ)) (present : BTreeSet ((ℕ × ℕ) × ℕ)) (found wanted : ℕ) (followed : Bool)
    → IsFromIterResult triple_cmp all present → found ≡ btree_set_len present → wanted ≡ length all
    → followed ≡ list_all (λ one. contains triple_cmp present (following decisions one)) all
    → list_all (is_known decisions) all ≡ true
    → IsTrue (nat_eq found wanted && followed) ↔ (AreSingle all × AreWhole decisions all)
complete decisions all present found wanted followed made one two is known = (
  λ yes.
      let parts = and_parts (nat_eq found wanted) followed yes in
      (sizes.0 parts.0, whole_from_turned decisions all knows (λ c there. (has (following decisions c)).0 ((each_passes test all).0 (sym is ∙ parts.1) c there))),
  λ both. and_from (nat_eq found wanted) followed (sizes.1 both.0)
      (is ∙ (each_passes test all).1 (λ c there. (has (following decisions c)).1 (turned_from_whole decisions all knows both.1 c there))),
)
  where
    test : (ℕ × ℕ) × ℕ → Bool
    test one = contains triple_cmp present (following decisions one)

    sizes : IsTrue (nat_eq found wanted) ↔ AreSingle all
    sizes = counts_agree triples_total triples_exact all present found wanted made one two

    knows : AreKnown decisions all
    knows one there = ltb-true _ _ ((each_passes (is_known decisions) all).0 known one there)

    has : (q : (ℕ × ℕ) × ℕ) → IsTrue (contains triple_cmp present q) ↔ Contains all q
    has q = btree_set_contains_from_list triples_total triples_exact all present made q
