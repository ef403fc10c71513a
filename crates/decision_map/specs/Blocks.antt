-- Blocks of a text, by the kinds of its words.
use Rattle.std.specs.Prelude.{◌≡◌, ℕ, ◌+◌, ◌%◌, ◌<◌, ◌≤◌, Bool, true, false, not, ◌==◌, ◌&&◌, ◌||◌, List, [], ◌∷◌, ◌++◌, drop, All, AllPairs, bit_and, Option, Some, None, option_and_then, if◌then◌else◌}
use Rattle.std.specs.List.{list_all}
use Rattle.cov_base.specs.Marks.{same}
use Rattle.trace_format.specs.declared.trace.Block.{Block}
use Rattle.trace_format.specs.declared.trace.HistoryEntry.{HistoryEntry}
use Rattle.decision_map.specs.declared.kind.WordKind.{WordKind}
use Rattle.decision_map.specs.declared.kind.WordKind.TheVariants.{GoesOn, Transfer, Branch, HistoryBranch, Stop}
use Rattle.decision_map.specs.Kinds.{has_edges, place_of, kind_in}

-- the first control transfer of words of these kinds, which stand from an address on; none where something stops before it
abbrev pub first_transfer : ℕ → List WordKind → Option ℕ
first_transfer pc [] = None
first_transfer pc (GoesOn ∷ kinds) = first_transfer (pc + 4) kinds
first_transfer pc (Transfer ∷ kinds) = Some pc
first_transfer pc (Branch ∷ kinds) = Some pc
first_transfer pc (HistoryBranch ∷ kinds) = Some pc
first_transfer pc (Stop ∷ kinds) = None

-- where the block ends that starts at an address
abbrev pub block_end : List WordKind → ℕ → Option ℕ
block_end kinds start = option_and_then (λ place. first_transfer start (drop place kinds)) (place_of start)

-- whether an option is this number
abbrev pub is_number : Option ℕ → ℕ → Bool
is_number None n = false
is_number (Some m) n = m == n

-- whether a block of the text starts and ends so
abbrev pub is_block : List WordKind → Block → Bool
is_block kinds b = is_number (block_end kinds b.start) b.last

-- whether a block has flags exactly where it ends with a conditional branch, and the flags of each earlier block that ends there
abbrev pub has_its_flags : List WordKind → List Block → Block → Bool
has_its_flags kinds earlier b =
    same (not (b.flags == 0)) (has_edges (kind_in kinds b.last))
    && list_all (λ (e : Block). not (e.last == b.last) || (e.flags == b.flags)) earlier

-- the first block that hasn't
abbrev pub first_unlike : List WordKind → List Block → List Block → Option Block
first_unlike kinds earlier [] = None
first_unlike kinds earlier (b ∷ bs) =
    if has_its_flags kinds earlier b then first_unlike kinds (earlier ++ b ∷ []) bs else Some b

-- the flag of an edge: 1 for the one that is taken, 2 for the other
abbrev pub flag_of_edge : ℕ → ℕ
flag_of_edge edge = if edge == 0 then 2 else 1

-- whether flags have an edge
abbrev pub shows_edge : ℕ → ℕ → Bool
shows_edge flags edge = not (bit_and flags (flag_of_edge edge) == 0)

-- whether a block ends at an entry's branch, and shows its edge
abbrev pub shows_entry : HistoryEntry → Block → Bool
shows_entry entry b = (b.last == entry.address) && shows_edge b.flags entry.edge

-- whether a block that ends where the one before it ends has its flags too
abbrev pub agrees : Option Block → Block → Bool
agrees None b = true
agrees (Some before) b = not (before.last == b.last) || (before.flags == b.flags)

-- starts rise strictly, and are multiples of 4
pub record AreOrdered (blocks : List Block) : Type 0 where
  pub rise : AllPairs (λ (first next : Block). first.start < next.start) blocks
  pub aligned : All (λ (b : Block). b.start % 4 ≡ 0) blocks

-- ends don't fall, and blocks that end at one place have the same flags
pub record AreFlat (blocks : List Block) : Type 0 where
  pub rise : AllPairs (λ (first next : Block). first.last ≤ next.last) blocks
  pub agree : AllPairs (λ (first next : Block). first.last ≡ next.last → first.flags ≡ next.flags) blocks
