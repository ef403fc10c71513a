-- The order of units: the first that is ready, and those that are left.
use Rattle.std.proofs.Common.{◌≡◌, ℕ, suc, ◌+◌, ◌<◌, nat_eq, Bool, true, false, ◌||◌, List, [], ◌∷◌, ◌++◌, length, take, drop, get_or, remove, Option, Some, None, is_some, option_map, IfSome, OnSome, refl, sym, ap, ◌∙◌, arith, true≢false}
use Rattle.std.proofs.lemmas.List.{get_or_read}
use Rattle.std.proofs.lemmas.List.Folds.{list_any-append}
use Rattle.ada_rules.specs.Library.{Picked, is_among, is_ready, picked_if, picked, ordered_on, ordered_from}
use Rattle.ada_library.specs.Marking.{AreMarked, IsMarkedToo}
use Rattle.ada_library.specs.Depending.{taken}
use Rattle.ada_library.proofs.NameLaws.{drop_item}

-- the first that is ready, behind others
abbrev pub behind : List ℕ → Picked → Picked
behind ns p = record { first = p.first; others = ns ++ p.others }

module _ (graph : List (List ℕ)) (order ns : List ℕ) (i n : ℕ) (h : i < length ns) (e : n ≡ get_or ns i n) where
  at_item : option_map (behind (take i ns)) (picked graph order (drop i ns))
      ≡ option_map (behind (take i ns)) (picked_if n (drop (i + 1) ns) (is_ready graph order n) (λ u. picked graph order (drop (i + 1) ns)))
  at_item = drop_item (λ xs. option_map (behind (take i ns)) (picked graph order xs)) ns i n h e

  pub found_ready : is_ready graph order n ≡ true
      → option_map (behind (take i ns)) (picked graph order (drop i ns)) ≡ Some (taken (remove ns i) n)
  found_ready t =
      let past : i + 1 ≡ suc i = omega arith in
      at_item
      ∙ (ap (λ b. option_map (behind (take i ns)) (picked_if n (drop (i + 1) ns) b (λ u. picked graph order (drop (i + 1) ns)))) t
      ∙ ap (λ k. Some (record { first = n; others = take i ns ++ drop k ns })) past)

pub removed : (old new : List ℕ) (i : ℕ) (o : Option ℕ) → i < length old → (i < length old → is_some o ≡ true)
    → IfSome o (λ y. y ≡ get_or old i y) → OnSome o (new ≡ remove old i) → (n : ℕ) → n ≡ get_or old i n
    → Some (taken (remove old i) n) ≡ option_map (taken new) o
removed old new i None h some at rest n e = absurd (true≢false (sym (some h)))
removed old new i (Some y) h some at rest n e =
    let same : n ≡ y = get_or_read old i n h e y ∙ sym at in
    λ z. Some (taken (sym rest z) (same z))

-- units that are marked as they come into the order
pub marked_last : (order : List ℕ) (unit : ℕ) (old new : List Bool) → AreMarked order old → IsMarkedToo unit old new → AreMarked (order ++ unit ∷ []) new
marked_last order unit old new marked too n =
    too n ∙ (ap (λ b. nat_eq n unit || b) (marked n) ∙ (turned (nat_eq n unit) (is_among order n) ∙ sym (list_any-append (nat_eq n) order (unit ∷ [])))) where
      turned : (a b : Bool) → (a || b) ≡ (b || (a || false))
      turned true true = refl
      turned true false = refl
      turned false true = refl
      turned false false = refl

-- what is picked leaves fewer
abbrev others_of : List ℕ → Option Picked → List ℕ
others_of d None = d
others_of d (Some q) = q.others

shorter_by : (b : Bool) (n : ℕ) (ns : List ℕ) (o : Option Picked) (p : Picked) → ((q : Picked) → o ≡ Some q → length ns ≡ suc (length q.others))
    → picked_if n ns b (λ u. o) ≡ Some p → suc (length ns) ≡ suc (length p.others)
shorter_by true n ns o p rest h = ap (λ x. suc (length (others_of ns x))) h
shorter_by false n ns None p rest h = absurd (true≢false (sym (ap is_some h)))
shorter_by false n ns (Some q) p rest h = ap suc (rest q refl) ∙ ap (λ x. suc (length (others_of ns x))) h

pub picked_shorter : (graph : List (List ℕ)) (order ns : List ℕ) (p : Picked) → picked graph order ns ≡ Some p → length ns ≡ suc (length p.others)
picked_shorter graph order [] p h = absurd (true≢false (sym (ap is_some h)))
picked_shorter graph order (n ∷ ns) p h =
    shorter_by (is_ready graph order n) n ns (picked graph order ns) p (picked_shorter graph order ns) h

module _ (graph : List (List ℕ)) (order rest : List ℕ) where
  pub ordered_more : (p : Picked) → picked graph order rest ≡ Some p
      → ordered_from graph (length rest) order rest ≡ ordered_from graph (length p.others) (order ++ p.first ∷ []) p.others
  ordered_more p h =
      let later : Picked → List ℕ = λ q. ordered_from graph (length p.others) (order ++ q.first ∷ []) q.others in
      ap (λ k. ordered_from graph k order rest) (picked_shorter graph order rest p h) ∙ ap (λ o. ordered_on order o later) h
