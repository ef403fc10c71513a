-- Blocks that end at one place have the same flags, where each has those of the block before it that ends there.
use Rattle.std.proofs.Common.{◌≡◌, ℕ, suc, zero, ◌+◌, ◌<◌, ◌≤◌, Bool, true, false, not, ◌&&◌, ◌||◌, cond, List, [], ◌∷◌, ◌++◌, length, get_or, take, drop, Option, Some, None, refl, sym, ap, subst, ◌∙◌, eq-eqb, eqb-true, eqb, arith, inl, inr, option_map, slice_get, IfSome, append_assoc, append-nil}
use Rattle.std.specs.List.{list_all}
use Rattle.std.proofs.lemmas.Bool.{and_parts, both_ways}
use Rattle.std.proofs.lemmas.Bool.Decides.{eqb_tells}
use Rattle.std.proofs.lemmas.List.{get_or-take, length-take}
use Rattle.std.proofs.lemmas.List.Folds.{list_all_at}
use Rattle.std.proofs.lemmas.Option.{slice_get-get_or}
use Rattle.cov_base.specs.Marks.{same}
use Rattle.cov_base.specs.Lists.{Everywhere, Somewhere}
use Rattle.trace_format.specs.declared.trace.Block.{Block}
use Rattle.decision_map.specs.declared.kind.WordKind.{WordKind}
use Rattle.decision_map.specs.declared.fault.FitFault.TheVariants.{Edge}
use Rattle.decision_map.specs.Blocks.{agrees, has_its_flags, first_unlike, AreOrdered, AreFlat}
use Rattle.decision_map.specs.Fits.{not_a_block, wrong_edge}
use Rattle.decision_map.specs.Kinds.{has_edges, kind_in}
use Rattle.decision_map.specs.Seen.{Agree, IsClosed, Closes}
use Rattle.decision_map.proofs.Inside.{lasts_rise}
use Rattle.decision_map.proofs.Steps.{left_step, passed_step}

abbrev pub agree : Block → Block → Bool
agree b e = not (eqb e.last b.last) || eqb e.flags b.flags

agree_from : (e b : Block) → Agree e b → agree b e ≡ true
agree_from e b f =
    elim (eqb_tells e.last b.last) [
      | inl there ↦ ap (λ (t : Bool). not t || eqb e.flags b.flags) there.0 ∙ eq-eqb e.flags b.flags (f there.1)
      | inr other ↦ ap (λ (t : Bool). not t || eqb e.flags b.flags) other.0
    ]

agree_to : (e b : Block) → agree b e ≡ true → Agree e b
agree_to e b is there =
    eqb-true e.flags b.flags (sym (ap (λ (t : Bool). not t || eqb e.flags b.flags) (eq-eqb e.last b.last there)) ∙ is)

all_agree : (k b : Block) (earlier : List Block) → Everywhere (IsClosed k) earlier → k.last ≤ b.last → Agree k b → list_all (agree b) earlier ≡ true
all_agree k b [] closed rises agrees = refl
all_agree k b (e ∷ earlier) closed rises agrees =
    let here : Agree e b = λ there.
    let end : e.last ≡ k.last = omega (arith, closed.0.0) in
    closed.0.1 end ∙ agrees (sym end ∙ there) in
    ap (λ (t : Bool). t && list_all (agree b) earlier) (agree_from e b here) ∙ all_agree k b earlier closed.1 rises agrees

one_differs : (k b : Block) (earlier : List Block) → Somewhere (λ e. e ≡ k) earlier → agree b k ≡ false → list_all (agree b) earlier ≡ false
one_differs k b [] there differs = elim there [ ]
one_differs k b (e ∷ earlier) there differs =
    elim there [
      | inl here ↦ ap (λ (x : Block). agree b x && list_all (agree b) earlier) here ∙ ap (λ (t : Bool). t && list_all (agree b) earlier) differs
      | inr later ↦ and_false (agree b e) (list_all (agree b) earlier) (one_differs k b earlier later differs)
    ]
  where
    and_false : (s t : Bool) → t ≡ false → (s && t) ≡ false
    and_false true t is = is
    and_false false t is = refl

by_latest : (k b : Block) (earlier : List Block) → Closes (Some k) earlier → k.last ≤ b.last → (t : Bool) → agree b k ≡ t → t ≡ list_all (agree b) earlier
by_latest k b earlier closes rises true is = sym (all_agree k b earlier closes.0 rises (agree_to k b is))
by_latest k b earlier closes rises false is = sym (one_differs k b earlier closes.1 is)

-- so a block agrees with all earlier ones where it agrees with that one
pub latest_tells : (before : Option Block) (earlier : List Block) (b : Block) → Closes before earlier → IfSome before (λ (k : Block). k.last ≤ b.last)
    → agrees before b ≡ list_all (agree b) earlier
latest_tells None earlier b closes rises = sym (ap (list_all (agree b)) closes)
latest_tells (Some k) earlier b closes rises = by_latest k b earlier closes rises (agree b k) refl

closed_by : (k b : Block) (earlier : List Block) → Everywhere (IsClosed k) earlier → k.last ≤ b.last → Agree k b
    → Everywhere (IsClosed b) (earlier ++ b ∷ [])
closed_by k b [] closed rises agrees = ((omega arith, λ there. refl), tt)
closed_by k b (e ∷ earlier) closed rises agrees =
    let ends : e.last ≤ b.last = omega (arith, closed.0.0) in
    let here : Agree e b = λ there.
    let end : e.last ≡ k.last = omega (arith, closed.0.0) in
    closed.0.1 end ∙ agrees (sym end ∙ there) in
    ((ends, here), closed_by k b earlier closed.1 rises agrees)

stands_last : (b : Block) (earlier : List Block) → Somewhere (λ e. e ≡ b) (earlier ++ b ∷ [])
stands_last b [] = inl refl
stands_last b (e ∷ earlier) = inr (stands_last b earlier)

-- and then it is the one that ends last
pub closes_more : (before : Option Block) (earlier : List Block) (b : Block) → Closes before earlier → IfSome before (λ (k : Block). k.last ≤ b.last)
    → agrees before b ≡ true → Closes (Some b) (earlier ++ b ∷ [])
closes_more None earlier b closes rises is =
    subst (λ (es : List Block). Closes (Some b) (es ++ b ∷ [])) (sym closes) (((omega arith, λ there. refl), tt), inl refl)
closes_more (Some k) earlier b closes rises is =
    (closed_by k b earlier closes.0 rises (agree_to k b is), stands_last b earlier)

-- the test of a block by all earlier ones
pub tested : (kinds : List WordKind) (before : Option Block) (earlier : List Block) (b : Block) → Closes before earlier
    → IfSome before (λ (k : Block). k.last ≤ b.last) → (answer : Bool)
    → answer ≡ (same (not (eqb b.flags 0)) (has_edges (kind_in kinds b.last)) && agrees before b)
    → has_its_flags kinds earlier b ≡ answer
tested kinds before earlier b closes rises answer is =
    ap (λ (t : Bool). same (not (eqb b.flags 0)) (has_edges (kind_in kinds b.last)) && t) (sym (latest_tells before earlier b closes rises)) ∙ sym is

pub unlike_here : (kinds : List WordKind) (bs : List Block) (i : ℕ) (b : Block) (found : Option Block) → slice_get bs i ≡ Some b
    → has_its_flags kinds (take i bs) b ≡ false → first_unlike kinds (take i bs) (drop i bs) ≡ found → Some b ≡ found
unlike_here kinds bs i b found is fails left =
    sym (ap (first_unlike kinds (take i bs)) (left_step bs i b is)
    ∙ ap (λ (t : Bool). cond t (first_unlike kinds (take i bs ++ b ∷ []) (drop (i + 1) bs)) (Some b)) fails) ∙ left

pub unlike_passed : (kinds : List WordKind) (bs : List Block) (i : ℕ) (b : Block) (found : Option Block) → slice_get bs i ≡ Some b
    → has_its_flags kinds (take i bs) b ≡ true → first_unlike kinds (take i bs) (drop i bs) ≡ found
    → first_unlike kinds (take (i + 1) bs) (drop (i + 1) bs) ≡ found
unlike_passed kinds bs i b found is passes left =
    ap (λ (es : List Block). first_unlike kinds es (drop (i + 1) bs)) (passed_step bs i b is)
    ∙ sym (ap (first_unlike kinds (take i bs)) (left_step bs i b is)
    ∙ ap (λ (t : Bool). cond t (first_unlike kinds (take i bs ++ b ∷ []) (drop (i + 1) bs)) (Some b)) passes) ∙ left

-- where no block fails, each passes
unlike_by : (kinds : List WordKind) (earlier : List Block) (b : Block) (bs : List Block) (t : Bool) → has_its_flags kinds earlier b ≡ t
    → cond t (first_unlike kinds (earlier ++ b ∷ []) bs) (Some b) ≡ None
    → (has_its_flags kinds earlier b ≡ true) × (first_unlike kinds (earlier ++ b ∷ []) bs ≡ None)
unlike_by kinds earlier b bs true is none = (is, none)
unlike_by kinds earlier b bs false is none = cc

each_passes : (kinds : List WordKind) (bs earlier : List Block) → first_unlike kinds earlier bs ≡ None
    → (j : ℕ) (b : Block) → slice_get bs j ≡ Some b → has_its_flags kinds (earlier ++ take j bs) b ≡ true
each_passes kinds [] earlier none j b is = cc
each_passes kinds (x ∷ bs) earlier none zero b is =
    let this : x ≡ b = cc in
    let first = unlike_by kinds earlier x bs (has_its_flags kinds earlier x) refl none in
    subst (λ (es : List Block). has_its_flags kinds es b ≡ true) (sym (append-nil earlier))
    (subst (λ (y : Block). has_its_flags kinds earlier y ≡ true) this first.0)
each_passes kinds (x ∷ bs) earlier none (suc j) b is =
    let first = unlike_by kinds earlier x bs (has_its_flags kinds earlier x) refl none in
    subst (λ (es : List Block). has_its_flags kinds es b ≡ true) (append_assoc earlier (x ∷ []) (take j bs))
    (each_passes kinds bs (earlier ++ x ∷ []) first.1 j b is)

item_passes : (p : Block → Bool) (xs : List Block) (i : ℕ) (d : Block) → i < length xs → list_all p xs ≡ true → (t : Bool) → p (get_or xs i d) ≡ t → p (get_or xs i d) ≡ true
item_passes p xs i d within all true is = is
item_passes p xs i d within all false is = absurd (both_ways (list_all p xs) (list_all_at p xs i d within is) all)

no_edge_fault : (found : Option Block) → option_map (λ (b : Block). Edge b.start) found ≡ None → found ≡ None
no_edge_fault None none = refl
no_edge_fault (Some b) none = cc

-- blocks of a text, with the flags of their ends
pub flat_law : (kinds : List WordKind) (bs : List Block) → AreOrdered bs → not_a_block kinds bs ≡ None → wrong_edge kinds bs ≡ None → AreFlat bs
flat_law kinds bs ordered blocks edges = record {
  rise = λ i j d before within.
      lasts_rise kinds bs ordered blocks i j (get_or bs i d) (get_or bs j d) before
      (slice_get-get_or bs i d (omega arith)) (slice_get-get_or bs j d within);
  agree = λ i j d before within.
      let next : Block = get_or bs j d in
      let passes = each_passes kinds bs [] (no_edge_fault (first_unlike kinds [] bs) edges) j next (slice_get-get_or bs j d within) in
      let all = (and_parts (same (not (eqb next.flags 0)) (has_edges (kind_in kinds next.last))) (list_all (agree next) (take j bs)) passes).1 in
      let inside : i < length (take j bs) = omega (arith, length-take j bs) in
      let one = item_passes (agree next) (take j bs) i d inside all (agree next (get_or (take j bs) i d)) refl in
      agree_to (get_or bs i d) next (subst (λ (x : Block). agree next x ≡ true) (get_or-take j bs i d before) one);
}
