-- Which block shows an entry of the history, among blocks whose ends don't fall.
use Rattle.std.proofs.Common.{◌≡◌, ◌≢◌, ℕ, suc, ◌+◌, ◌<◌, ◌≤◌, Bool, true, false, ◌&&◌, List, length, get_or, Some, refl, sym, ap, ◌∙◌, eq-eqb, ne_eqb, eqb-true, eqb, arith, inl, inr, slice_get}
use Rattle.std.specs.List.{list_any}
use Rattle.std.proofs.lemmas.Bool.Decides.{eqb_tells, leb_tells}
use Rattle.std.proofs.lemmas.List.{get_or_default}
use Rattle.std.proofs.lemmas.List.Folds.{list_any_at, list_any_none}
use Rattle.std.proofs.lemmas.Option.{slice_get_within, get_or_from_slice_get}
use Rattle.trace_format.specs.declared.trace.Block.{Block}
use Rattle.trace_format.specs.declared.trace.HistoryEntry.{HistoryEntry}
use Rattle.decision_map.specs.Blocks.{shows_edge, shows_entry, AreFlat}

-- no block shows it where none ends at its branch
pub none_shows : (bs : List Block) (h : HistoryEntry) → ((i : ℕ) (d : Block) → i < length bs → (get_or bs i d).last ≢ h.address)
    → list_any (shows_entry h) bs ≡ false
none_shows bs h other =
    list_any_none (shows_entry h) bs (λ i d within. ap (λ (b : Bool). b && shows_edge (get_or bs i d).flags h.edge) (ne_eqb (get_or bs i d).last h.address (other i d within)))

-- blocks at one end have one set of flags
pub same_flags : (bs : List Block) → AreFlat bs → (i j : ℕ) (d : Block) → i < length bs → j < length bs → (get_or bs i d).last ≡ (get_or bs j d).last
    → (get_or bs i d).flags ≡ (get_or bs j d).flags
same_flags bs flat i j d in_i in_j same =
    elim (leb_tells (suc i) j) [
      | inl before ↦ flat.agree i j d (omega (arith, before.1)) in_j same
      | inr past ↦ elim (eqb_tells i j) [
        | inl here ↦ ap (λ (k : ℕ). (get_or bs k d).flags) here.1
        | inr other ↦ sym (flat.agree j i d (let differ = other.1 in omega (arith, past.1)) in_i (sym same))
      ]
    ]

shown_by : (bs : List Block) → AreFlat bs → (h : HistoryEntry) (m : ℕ) (b : Block) → m < length bs → get_or bs m b ≡ b → b.last ≡ h.address
    → (t : Bool) → shows_edge b.flags h.edge ≡ t → t ≡ list_any (shows_entry h) bs
shown_by bs flat h m b within is here true shows =
    let passes : shows_entry h b ≡ true = ap (λ (x : Bool). x && shows_edge b.flags h.edge) (eq-eqb b.last h.address here) ∙ shows in
    sym (list_any_at (shows_entry h) bs m b within (ap (shows_entry h) is ∙ passes))
shown_by bs flat h m b within is here false shows =
    sym (list_any_none (shows_entry h) bs (λ i d inside. by_end i d inside (eqb (get_or bs i d).last h.address) refl))
  where
    by_end : (i : ℕ) (d : Block) → i < length bs → (t : Bool) → eqb (get_or bs i d).last h.address ≡ t → (eqb (get_or bs i d).last h.address && shows_edge (get_or bs i d).flags h.edge) ≡ false
    by_end i d inside false at = ap (λ (x : Bool). x && shows_edge (get_or bs i d).flags h.edge) at
    by_end i d inside true at =
        let at_d : get_or bs m d ≡ b = get_or_default bs m d b within ∙ is in
        let end : (get_or bs i d).last ≡ (get_or bs m d).last = eqb-true (get_or bs i d).last h.address at ∙ sym here ∙ ap (λ (x : Block). x.last) (sym at_d) in
        let flags : (get_or bs i d).flags ≡ b.flags = same_flags bs flat i m d inside within end ∙ ap (λ (x : Block). x.flags) at_d in
        ap (λ (x : Bool). x && shows_edge (get_or bs i d).flags h.edge) at ∙ ap (λ (f : ℕ). shows_edge f h.edge) flags ∙ shows

-- the block that is found tells
pub one_shows : (bs : List Block) → AreFlat bs → (h : HistoryEntry) (m : ℕ) (b : Block) → slice_get bs m ≡ Some b → b.last ≡ h.address
    → shows_edge b.flags h.edge ≡ list_any (shows_entry h) bs
one_shows bs flat h m b is here =
    shown_by bs flat h m b (slice_get_within bs m b is) (get_or_from_slice_get bs m b b is) here (shows_edge b.flags h.edge) refl

-- a block that ends before an address has all blocks before it do so
pub all_below : (bs : List Block) → AreFlat bs → (m : ℕ) (b : Block) (address : ℕ) → slice_get bs m ≡ Some b → b.last < address
    → (i : ℕ) (d : Block) → i < m + 1 → (get_or bs i d).last < address
all_below bs flat m b address is before i d low =
    let within = slice_get_within bs m b is in
    let here : (get_or bs m d).last ≡ b.last = ap (λ (x : Block). x.last) (get_or_from_slice_get bs m b d is) in
    elim (eqb_tells i m) [
      | inl same ↦ let at : (get_or bs i d).last ≡ (get_or bs m d).last = ap (λ (k : ℕ). (get_or bs k d).last) same.1 in omega arith
      | inr other ↦ let differ = other.1 in let rises = flat.rise i m d (omega arith) within in omega arith
    ]

-- one that ends behind it has all blocks behind it do so
pub all_above : (bs : List Block) → AreFlat bs → (m : ℕ) (b : Block) (address : ℕ) → slice_get bs m ≡ Some b → address < b.last
    → (i : ℕ) (d : Block) → m ≤ i → i < length bs → address < (get_or bs i d).last
all_above bs flat m b address is behind i d high within =
    let here : (get_or bs m d).last ≡ b.last = ap (λ (x : Block). x.last) (get_or_from_slice_get bs m b d is) in
    elim (eqb_tells m i) [
      | inl same ↦ let at : (get_or bs m d).last ≡ (get_or bs i d).last = ap (λ (k : ℕ). (get_or bs k d).last) same.1 in omega arith
      | inr other ↦ let differ = other.1 in let rises = flat.rise m i d (omega arith) within in omega arith
    ]
