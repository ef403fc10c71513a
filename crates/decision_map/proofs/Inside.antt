-- A block that starts inside another ends with that one, and ends of blocks don't fall.
use Rattle.std.proofs.Common.{◌≡◌, ℕ, suc, zero, ◌+◌, ◌-◌, ◌*◌, ◌/◌, ◌%◌, ◌<◌, ◌≤◌, Bool, true, false, not, cond, List, [], ◌∷◌, get_or, drop, find, Option, Some, None, refl, sym, ap, subst, ◌∙◌, eq-eqb, ne_eqb, eqb-true, eqb, arith, inl, inr, option_and_then, option_map, slice_get}
use Rattle.std.proofs.lemmas.Bool.Decides.{leb_tells, eqb_tells}
use Rattle.std.proofs.lemmas.List.{drop-drop}
use Rattle.std.proofs.lemmas.Option.{slice_get_within, get_or_from_slice_get}
use Rattle.trace_format.specs.declared.trace.Block.{Block}
use Rattle.decision_map.specs.declared.kind.WordKind.{WordKind}
use Rattle.decision_map.specs.declared.kind.WordKind.TheVariants.{GoesOn, Transfer, Branch, HistoryBranch, Stop}
use Rattle.decision_map.specs.declared.fault.FitFault.TheVariants.{NotABlock}
use Rattle.decision_map.specs.Blocks.{first_transfer, block_end, is_number, is_block, AreOrdered}
use Rattle.decision_map.specs.Fits.{not_a_block}
use Rattle.decision_map.specs.Kinds.{address_of, place_of}
use Rattle.decision_map.proofs.Standing.{address_of_place, place_of_address}

-- a transfer comes at the first word or behind it
transfer_ahead : (pc : ℕ) (kinds : List WordKind) (end : ℕ) → first_transfer pc kinds ≡ Some end → pc ≤ end
transfer_ahead pc [] end is = cc
transfer_ahead pc (GoesOn ∷ kinds) end is = omega (arith, transfer_ahead (pc + 4) kinds end is)
transfer_ahead pc (Transfer ∷ kinds) end is = let same : pc ≡ end = cc in omega arith
transfer_ahead pc (Branch ∷ kinds) end is = let same : pc ≡ end = cc in omega arith
transfer_ahead pc (HistoryBranch ∷ kinds) end is = let same : pc ≡ end = cc in omega arith
transfer_ahead pc (Stop ∷ kinds) end is = cc

-- the words up to the transfer go on, so from each of them it is the same transfer that comes first
transfer_inside : (kinds : List WordKind) (n pc at end : ℕ) → first_transfer pc kinds ≡ Some end → at ≡ pc + 4 * n → at ≤ end
    → first_transfer at (drop n kinds) ≡ Some end
transfer_inside kinds zero pc at end is from before =
    let same : at ≡ pc = omega arith in
    ap (λ (p : ℕ). first_transfer p kinds) same ∙ is
transfer_inside [] (suc n) pc at end is from before = cc
transfer_inside (GoesOn ∷ kinds) (suc n) pc at end is from before = transfer_inside kinds n (pc + 4) at end is (omega arith) before
transfer_inside (Transfer ∷ kinds) (suc n) pc at end is from before = let same : pc ≡ end = cc in absurd (omega arith)
transfer_inside (Branch ∷ kinds) (suc n) pc at end is from before = let same : pc ≡ end = cc in absurd (omega arith)
transfer_inside (HistoryBranch ∷ kinds) (suc n) pc at end is from before = let same : pc ≡ end = cc in absurd (omega arith)
transfer_inside (Stop ∷ kinds) (suc n) pc at end is from before = cc

-- a block: where it starts in the text, and its transfer
pub record Runs (kinds : List WordKind) (start last : ℕ) : Type 0 where
  pub place : ℕ
  pub address : start ≡ address_of place
  pub ends : first_transfer start (drop place kinds) ≡ Some last

runs_by : (kinds : List WordKind) (start last : ℕ) (found : Option ℕ) → place_of start ≡ found
    → option_and_then (λ (place : ℕ). first_transfer start (drop place kinds)) found ≡ Some last → Runs kinds start last
runs_by kinds start last None at is = cc
runs_by kinds start last (Some place) at is = record { place = place; address = address_of_place start place at; ends = is }

runs : (kinds : List WordKind) (start last : ℕ) → block_end kinds start ≡ Some last → Runs kinds start last
runs kinds start last is = runs_by kinds start last (place_of start) refl is

end_by_runs : (kinds : List WordKind) (start last place : ℕ) → start ≡ address_of place → first_transfer start (drop place kinds) ≡ Some last
    → block_end kinds start ≡ Some last
end_by_runs kinds start last place address ends =
    ap (option_and_then (λ (p : ℕ). first_transfer start (drop p kinds))) (ap place_of address ∙ place_of_address place) ∙ ends

number_is : (found : Option ℕ) (n : ℕ) → is_number found n ≡ true → found ≡ Some n
number_is None n is = cc
number_is (Some m) n is = ap Some (eqb-true m n is)

pub ends_there : (kinds : List WordKind) (b : Block) → is_block kinds b ≡ true → block_end kinds b.start ≡ Some b.last
ends_there kinds b is = number_is (block_end kinds b.start) b.last is

pub inside : (kinds : List WordKind) (known : Block) (at : ℕ) → is_block kinds known ≡ true → known.start < at → at ≤ known.last → at % 4 ≡ 0
    → block_end kinds at ≡ Some known.last
inside kinds known at is above below aligned =
    let whole = runs kinds known.start known.last (ends_there kinds known is) in
    let n : ℕ = (at - known.start) / 4 in
    let there : at ≡ address_of (whole.place + n) = omega (arith, whole.address) in
    end_by_runs kinds at known.last (whole.place + n) there
    (ap (first_transfer at) (sym (drop-drop n whole.place kinds))
    ∙ transfer_inside (drop whole.place kinds) n known.start at known.last whole.ends (omega (arith, whole.address)) below)

pub last_ahead : (kinds : List WordKind) (b : Block) → is_block kinds b ≡ true → b.start ≤ b.last
last_ahead kinds b is =
    let whole = runs kinds b.start b.last (ends_there kinds b is) in
    transfer_ahead b.start (drop whole.place kinds) b.last whole.ends

eqb_turned : (a b : ℕ) → eqb a b ≡ eqb b a
eqb_turned a b = elim (eqb_tells a b) [
  | inl same ↦ same.0 ∙ sym (eq-eqb b a (sym same.1))
  | inr other ↦ other.0 ∙ sym (ne_eqb b a (λ same. other.1 (sym same)))
]

-- whether a block that starts inside another is one is told by where it ends
pub inside_is_block : (kinds : List WordKind) (known b : Block) → is_block kinds known ≡ true → known.start < b.start → b.start ≤ known.last → b.start % 4 ≡ 0
    → eqb b.last known.last ≡ is_block kinds b
inside_is_block kinds known b is above below aligned =
    eqb_turned b.last known.last ∙ ap (λ (found : Option ℕ). is_number found b.last) (sym (inside kinds known b.start is above below aligned))

-- ends of blocks don't fall
pub ends_rise : (kinds : List WordKind) (first next : Block) → is_block kinds first ≡ true → is_block kinds next ≡ true → first.start < next.start → next.start % 4 ≡ 0
    → first.last ≤ next.last
ends_rise kinds first next is_first is_next above aligned =
    elim (leb_tells next.start first.last) [
      | inl within ↦
          let same : next.last ≡ first.last = eqb-true next.last first.last (inside_is_block kinds first next is_first above within.1 aligned ∙ is_next) in
          omega arith
      | inr past ↦ omega (arith, past.1, last_ahead kinds next is_next)
    ]

-- where no block fails, each passes
find_by : (kinds : List WordKind) (b : Block) (bs : List Block) (t : Bool) → is_block kinds b ≡ t
    → cond (not t) (Some b) (find (λ (x : Block). not (is_block kinds x)) bs) ≡ None
    → (is_block kinds b ≡ true) × (find (λ (x : Block). not (is_block kinds x)) bs ≡ None)
find_by kinds b bs true is none = (is, none)
find_by kinds b bs false is none = cc

no_fault : (found : Option Block) → option_map (λ (b : Block). NotABlock b.start) found ≡ None → found ≡ None
no_fault None none = refl
no_fault (Some b) none = cc

pub each_is_block : (kinds : List WordKind) (bs : List Block) → find (λ (x : Block). not (is_block kinds x)) bs ≡ None
    → (i : ℕ) (b : Block) → slice_get bs i ≡ Some b → is_block kinds b ≡ true
each_is_block kinds [] none i b is = cc
each_is_block kinds (x ∷ bs) none zero b is =
    let this : x ≡ b = cc in
    subst (λ (y : Block). is_block kinds y ≡ true) this (find_by kinds x bs (is_block kinds x) refl none).0
each_is_block kinds (x ∷ bs) none (suc i) b is =
    each_is_block kinds bs (find_by kinds x bs (is_block kinds x) refl none).1 i b is

pub are_blocks : (kinds : List WordKind) (bs : List Block) → not_a_block kinds bs ≡ None → (i : ℕ) (b : Block) → slice_get bs i ≡ Some b → is_block kinds b ≡ true
are_blocks kinds bs none = each_is_block kinds bs (no_fault (find (λ (x : Block). not (is_block kinds x)) bs) none)

-- starts of ordered blocks by place
pub starts_rise : (bs : List Block) → AreOrdered bs → (i j : ℕ) (first next : Block) → i < j → slice_get bs i ≡ Some first → slice_get bs j ≡ Some next → first.start < next.start
starts_rise bs ordered i j first next before is_first is_next =
    let one : get_or bs i first ≡ first = get_or_from_slice_get bs i first first is_first in
    let other : get_or bs j first ≡ next = get_or_from_slice_get bs j next first is_next in
    let rises = ordered.rise i j first before (slice_get_within bs j next is_next) in
    subst (λ (b : Block). first.start < b.start) other (subst (λ (b : Block). b.start < (get_or bs j first).start) one rises)

pub start_aligned : (bs : List Block) → AreOrdered bs → (i : ℕ) (b : Block) → slice_get bs i ≡ Some b → b.start % 4 ≡ 0
start_aligned bs ordered i b is =
    subst (λ (x : Block). x.start % 4 ≡ 0) (get_or_from_slice_get bs i b b is) (ordered.aligned i b (slice_get_within bs i b is))

pub lasts_rise : (kinds : List WordKind) (bs : List Block) → AreOrdered bs → not_a_block kinds bs ≡ None
    → (i j : ℕ) (first next : Block) → i < j → slice_get bs i ≡ Some first → slice_get bs j ≡ Some next → first.last ≤ next.last
lasts_rise kinds bs ordered none i j first next before is_first is_next =
    ends_rise kinds first next (are_blocks kinds bs none i first is_first) (are_blocks kinds bs none j next is_next)
    (starts_rise bs ordered i j first next before is_first is_next) (start_aligned bs ordered j next is_next)

-- a block of a list before a place
pub record IsBlockBefore (kinds : List WordKind) (bs : List Block) (at : ℕ) (known : Block) : Type 0 where
  pub place : ℕ
  pub below : place < at
  pub is : slice_get bs place ≡ Some known
  pub block : is_block kinds known ≡ true
