-- The last of the entries that were given of a trace.
use Rattle.std.proofs.Common.{◌≡◌, ◌⊎◌, ℕ, suc, ◌+◌, ◌<◌, ◌^◌, List, [], ◌∷◌, ◌++◌, map, length, refl, sym, ap, subst, ◌∙◌, inl, inr, arith, append_assoc, append-nil}
use Rattle.std.proofs.lemmas.List.{map-append, length-append, length-map}
use Rattle.cov_base.specs.declared.failure.Failure.{Failure}
use Rattle.trace_format.specs.declared.entry.Entry.{Entry}
use Rattle.trace_format.specs.declared.entry.Entry.TheVariants as entries
use Rattle.trace_format.specs.declared.entry.ReaderFault.{ReaderFault}
use Rattle.trace_format.specs.declared.reader.Stage.{Stage}
use Rattle.trace_format.specs.declared.reader.Stage.TheVariants as stages
use Rattle.trace_format.specs.declared.reader.TraceReader.{TraceReader}
use Rattle.trace_format.specs.declared.trace.Block.{Block}
use Rattle.trace_format.specs.declared.trace.HistoryEntry.{HistoryEntry}
use Rattle.trace_format.specs.Reader.{block_given, history_given, entries_to, Gave, GaveIn}
use Rattle.coverage_set.specs.Read.{IsFew}

-- ---- lists by their last items

-- a list with a last item
pub record Ends {X : Type 0} (xs : List X) : Type 0 where
  pub front : List X
  pub last : X
  pub is : xs ≡ front ++ last ∷ []

ends_behind : {X : Type 0} (x : X) (xs : List X) → ((xs ≡ []) ⊎ Ends xs) → Ends (x ∷ xs)
ends_behind x xs rest = elim rest [
  | inl none ↦ record { front = []; last = x; is = ap (λ (ys : List _). x ∷ ys) none }
  | inr end ↦ record { front = x ∷ end.front; last = end.last; is = ap (λ (ys : List _). x ∷ ys) end.is }
]

pub ends : {X : Type 0} (xs : List X) → (xs ≡ []) ⊎ Ends xs
ends [] = inl refl
ends (x ∷ xs) = inr (ends_behind x xs (ends xs))

pub not_empty : {X : Type 0} (ys : List X) (y : X) → [] ≡ ys ++ y ∷ [] → ⊥
not_empty [] y e = cc e
not_empty (z ∷ ys) y e = cc e

-- two lists with a last item are one list where their fronts and their last items are
pub same_ends : {X : Type 0} (xs ys : List X) (x y : X) → xs ++ x ∷ [] ≡ ys ++ y ∷ [] → (xs ≡ ys) × (x ≡ y)
same_ends [] [] x y e = (refl, cc e)
same_ends [] (z ∷ ys) x y e = let behind : [] ≡ ys ++ y ∷ [] = cc e in absurd (not_empty ys y behind)
same_ends (w ∷ xs) [] x y e = let behind : [] ≡ xs ++ x ∷ [] = sym (cc e) in absurd (not_empty xs x behind)
same_ends (w ∷ xs) (z ∷ ys) x y e =
    let first : w ≡ z = cc e in
    let behind : xs ++ x ∷ [] ≡ ys ++ y ∷ [] = cc e in
    let rest = same_ends xs ys x y behind in
    (λ i. first i ∷ rest.0 i, rest.1)

-- ---- entries by the last of them

block_added : (object : List ℕ) (ending : ℕ) (bs : List Block) (b : Block) → entries_to object ending bs [] ++ block_given b ∷ [] ≡ entries_to object ending (bs ++ b ∷ []) []
block_added object ending bs b =
    ap (λ (xs : List Entry). entries.Head object ending ∷ xs)
    (ap (λ (xs : List Entry). xs ++ block_given b ∷ []) (append-nil (map block_given bs)) ∙ sym (map-append block_given bs (b ∷ [])) ∙ sym (append-nil (map block_given (bs ++ b ∷ []))))

history_added : (object : List ℕ) (ending : ℕ) (bs : List Block) (hs : List HistoryEntry) (h : HistoryEntry)
    → entries_to object ending bs hs ++ history_given h ∷ [] ≡ entries_to object ending bs (hs ++ h ∷ [])
history_added object ending bs hs h =
    ap (λ (xs : List Entry). entries.Head object ending ∷ xs)
    (append_assoc (map block_given bs) (map history_given hs) (history_given h ∷ []) ∙ ap (λ (xs : List Entry). map block_given bs ++ xs) (sym (map-append history_given hs (h ∷ []))))

-- the last entry is one of the history
pub record IsOfHistory (given : List Entry) (x : Entry) (object : List ℕ) (ending : ℕ) (blocks : List Block) (history : List HistoryEntry) : Type 0 where
  pub earlier : List HistoryEntry
  pub entry : HistoryEntry
  pub whole : history ≡ earlier ++ entry ∷ []
  pub is : x ≡ history_given entry
  pub front : given ≡ entries_to object ending blocks earlier

-- or a block
pub record IsOfBlocks (given : List Entry) (x : Entry) (object : List ℕ) (ending : ℕ) (blocks : List Block) (history : List HistoryEntry) : Type 0 where
  pub earlier : List Block
  pub block : Block
  pub whole : blocks ≡ earlier ++ block ∷ []
  pub none : history ≡ []
  pub is : x ≡ block_given block
  pub front : given ≡ entries_to object ending earlier []

-- or the head
pub record IsHead (given : List Entry) (x : Entry) (object : List ℕ) (ending : ℕ) (blocks : List Block) (history : List HistoryEntry) : Type 0 where
  pub unblocked : blocks ≡ []
  pub none : history ≡ []
  pub is : x ≡ entries.Head object ending
  pub front : given ≡ []

abbrev pub Lasts : List Entry → Entry → List ℕ → ℕ → List Block → List HistoryEntry → Type 0
Lasts given x object ending blocks history =
    IsOfHistory given x object ending blocks history ⊎ (IsOfBlocks given x object ending blocks history ⊎ IsHead given x object ending blocks history)

by_blocks : (given : List Entry) (x : Entry) (object : List ℕ) (ending : ℕ) (blocks : List Block) (history : List HistoryEntry) → history ≡ []
    → given ++ x ∷ [] ≡ entries_to object ending blocks [] → ((blocks ≡ []) ⊎ Ends blocks) → Lasts given x object ending blocks history
by_blocks given x object ending blocks history none e found = elim found [
  | inl empty ↦
      let s = same_ends given [] x (entries.Head object ending) (e ∙ ap (λ (bs : List Block). entries_to object ending bs []) empty) in
      inr (inr (record { unblocked = empty; none = none; is = s.1; front = s.0 }))
  | inr end ↦
      let s = same_ends given (entries_to object ending end.front []) x (block_given end.last)
      (e ∙ ap (λ (bs : List Block). entries_to object ending bs []) end.is ∙ sym (block_added object ending end.front end.last)) in
      inr (inl (record { earlier = end.front; block = end.last; whole = end.is; none = none; is = s.1; front = s.0 }))
]

pub last_of : (given : List Entry) (x : Entry) (object : List ℕ) (ending : ℕ) (blocks : List Block) (history : List HistoryEntry)
    → given ++ x ∷ [] ≡ entries_to object ending blocks history → Lasts given x object ending blocks history
last_of given x object ending blocks history e = elim (ends history) [
  | inl none ↦ by_blocks given x object ending blocks history none (e ∙ ap (λ (hs : List HistoryEntry). entries_to object ending blocks hs) none) (ends blocks)
  | inr end ↦
      let s = same_ends given (entries_to object ending blocks end.front) x (history_given end.last)
      (e ∙ ap (λ (hs : List HistoryEntry). entries_to object ending blocks hs) end.is ∙ sym (history_added object ending blocks end.front end.last)) in
      inl (record { earlier = end.front; entry = end.last; whole = end.is; is = s.1; front = s.0 })
]

-- ---- how many entries a reader gave

-- the history among entries
history_in : List Entry → List HistoryEntry
history_in [] = []
history_in (entries.Head object ending ∷ es) = history_in es
history_in (entries.Block start last flags ∷ es) = history_in es
history_in (entries.History address x8 edge ∷ es) = (record { address = address; x8 = x8; edge = edge }) ∷ history_in es
history_in (entries.Close digest ∷ es) = history_in es

in_both : (xs ys : List Entry) → history_in (xs ++ ys) ≡ history_in xs ++ history_in ys
unfolding history_in
in_both [] ys = refl
in_both (entries.Head object ending ∷ es) ys = in_both es ys
in_both (entries.Block start last flags ∷ es) ys = in_both es ys
in_both (entries.History address x8 edge ∷ es) ys = ap (λ (hs : List HistoryEntry). (record { address = address; x8 = x8; edge = edge }) ∷ hs) (in_both es ys)
in_both (entries.Close digest ∷ es) ys = in_both es ys

in_blocks : (bs : List Block) → history_in (map block_given bs) ≡ []
unfolding history_in
in_blocks [] = refl
in_blocks (b ∷ bs) = in_blocks bs

in_history : (hs : List HistoryEntry) → history_in (map history_given hs) ≡ hs
unfolding history_in
in_history [] = refl
in_history (h ∷ hs) = ap (λ (rest : List HistoryEntry). h ∷ rest) (in_history hs)

in_entries : (object : List ℕ) (ending : ℕ) (blocks : List Block) (history : List HistoryEntry) → history_in (entries_to object ending blocks history) ≡ history
unfolding history_in
in_entries object ending blocks history =
    in_both (map block_given blocks) (map history_given history)
    ∙ ap (λ (hs : List HistoryEntry). hs ++ history_in (map history_given history)) (in_blocks blocks) ∙ in_history history

in_closed : (object : List ℕ) (ending : ℕ) (blocks : List Block) (history : List HistoryEntry) (closing : List ℕ)
    → history_in (entries_to object ending blocks history ++ entries.Close closing ∷ []) ≡ history
unfolding history_in
in_closed object ending blocks history closing =
    in_both (entries_to object ending blocks history) (entries.Close closing ∷ []) ∙ append-nil (history_in (entries_to object ending blocks history)) ∙ in_entries object ending blocks history

-- a history of which there are few
few_as : (given : List Entry) (known : List HistoryEntry) → history_in given ≡ known → length known < 2 ^ 32 → IsFew given
few_as given known is few object ending blocks history e =
    let same : known ≡ history = sym is ∙ ap history_in e ∙ in_entries object ending blocks history in
    subst (λ (hs : List HistoryEntry). length hs < 2 ^ 32) same few

few_by : (stage : Stage) (count : ℕ) (given : List Entry) → GaveIn stage count given → IsFew given
unfolding history_in
few_by stages.Head count given gave = few_as given [] (ap history_in gave.0) (omega arith)
few_by (stages.Blocks left) count given gave =
    few_as given [] (ap history_in gave.gave ∙ in_entries gave.object gave.ending gave.blocks []) (omega arith)
few_by (stages.History left) count given gave =
    few_as given gave.history (ap history_in gave.gave ∙ in_entries gave.object gave.ending gave.blocks gave.history) (omega (arith, gave.short))
few_by stages.Closed count given gave =
    few_as given gave.history (ap history_in gave.gave ∙ in_closed gave.object gave.ending gave.blocks gave.history gave.closing) gave.short
few_by (stages.Failed failure) count given gave = elim gave [
  | inl none ↦ few_as given [] (ap history_in none) (omega arith)
  | inr began ↦ few_as given began.history (ap history_in began.gave ∙ in_entries began.object began.ending began.blocks began.history) (omega (arith, began.short))
]

pub few_given : (r : TraceReader) (given : List Entry) → Gave r given → IsFew given
few_given r given gave = few_by r.stage r.head.blocks given gave

entries_long : (object : List ℕ) (ending : ℕ) (blocks : List Block) (history : List HistoryEntry)
    → length (entries_to object ending blocks history) ≡ suc (length blocks + length history)
entries_long object ending blocks history =
    ap suc (length-append (map block_given blocks) (map history_given history)
    ∙ (λ i. length-map blocks block_given i + length-map history history_given i))

long_by : (stage : Stage) (count : ℕ) (given : List Entry) → GaveIn stage count given → (stage ≡ stages.Closed → ⊥)
    → ((failure : Failure ReaderFault) → stage ≡ stages.Failed failure → ⊥) → length given < 2 ^ 33
long_by stages.Head count given gave unclosed unfailed = let long = ap (λ (es : List Entry). length es) gave.0 in omega (arith, long)
long_by (stages.Blocks left) count given gave unclosed unfailed =
    let long = ap (λ (es : List Entry). length es) gave.gave ∙ entries_long gave.object gave.ending gave.blocks [] in omega (arith, long, gave.few)
long_by (stages.History left) count given gave unclosed unfailed =
    let long = ap (λ (es : List Entry). length es) gave.gave ∙ entries_long gave.object gave.ending gave.blocks gave.history in omega (arith, long, gave.few, gave.short)
long_by stages.Closed count given gave unclosed unfailed = absurd (unclosed refl)
long_by (stages.Failed failure) count given gave unclosed unfailed = absurd (unfailed failure refl)

pub long_given : (r : TraceReader) (given : List Entry) → Gave r given → (r.stage ≡ stages.Closed → ⊥)
    → ((failure : Failure ReaderFault) → r.stage ≡ stages.Failed failure → ⊥) → length given < 2 ^ 33
long_given r given gave unclosed unfailed = long_by r.stage r.head.blocks given gave unclosed unfailed
