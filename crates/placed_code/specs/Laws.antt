-- The laws of placed code: where code stands, how stretches compose, and what an address comes to.
use Rattle.std.specs.Prelude.{◌≡◌, ℕ, suc, reverse, ◌+◌, ◌-◌, ◌*◌, ◌/◌, ◌%◌, ◌^◌, ◌≤◌, ◌<◌, ℤ, List, [], ◌∷◌, ◌++◌, length, map, slice_get, Some}
use Rattle.std.specs.List.{AllByRecursion}
use Rattle.rv_isa.specs.declared.instr.Instr.{Instr}
use Rattle.rv_isa.specs.Rows.{word, IsInstr}
use Rattle.rv_isa.specs.Immediates.{sign_12, branch_offset, jump_offset, upper_value}
use Rattle.rv_semantics.specs.declared.stepped.Seen.{Seen}
use Rattle.rv_semantics.specs.Layout.{memory_bytes, text_start}
use Rattle.rv_semantics.specs.Arithmetic.{sum_32}
use Rattle.rv_semantics.specs.State.{Image, State}
use Rattle.rv_semantics.specs.Step.{step, act}
use Rattle.rv_semantics.specs.Run.{runs}
use Rattle.rv_semantics.specs.Run.Outcome.{Ended}
use Rattle.rv_semantics.specs.Past.{exec, over}
use Rattle.placed_code.specs.Code.{StandsAt, HasAt, text_end}
use Rattle.placed_code.specs.Reach.{BranchReaches, JumpReaches, branch_halves, jump_halves}
use Rattle.placed_code.specs.Stretch.{config, Leads, Ends}

-- code of two parts stands where the first part does, with the second part behind it
abbrev pub StandsInParts : Type 0
StandsInParts =
    (image : Image) (address : ℕ) (xs ys : List Instr)
    → HasAt image address (xs ++ ys) → HasAt image address xs × HasAt image (address + 4 * length xs) ys

abbrev pub PartsStand : Type 0
PartsStand =
    (image : Image) (address : ℕ) (xs ys : List Instr)
    → HasAt image address xs → HasAt image (address + 4 * length xs) ys → HasAt image address (xs ++ ys)

-- each instruction of code that stands at an address has its own address
abbrev pub EachStands : Type 0
EachStands =
    (image : Image) (address : ℕ) (is : List Instr) (k : ℕ) (i : Instr)
    → HasAt image address is → slice_get is k ≡ Some i → StandsAt image (address + 4 * k) i

-- the words of instructions, in a text that ends within memory, are code at their address
abbrev pub TextStands : Type 0
TextStands =
    (image : Image) (xs is ys : List Instr)
    → image.text ≡ map word (xs ++ (is ++ ys)) → AllByRecursion IsInstr is → text_end image ≤ memory_bytes
    → HasAt image (text_start + 4 * length xs) is

-- an instruction that stands at the program counter is what is executed
abbrev pub IsExecuted : Type 0
IsExecuted = (image : Image) (s : State) (i : Instr) → StandsAt image s.pc i → step image s ≡ act image s i

-- nothing leads nowhere else, and stretches come one after the other
abbrev pub NothingLeads : Type 0
NothingLeads = (image : Image) (s : State) (input : List ℤ) → Leads image s input [] [] s input

abbrev pub StretchesCompose : Type 0
StretchesCompose =
    (image : Image) (s s' s'' : State) (input input' input'' : List ℤ) (es es' : List Seen) (os os' : List ℤ)
    → Leads image s input es os s' input' → Leads image s' input' es' os' s'' input''
    → Leads image s input (es ++ es') (os ++ os') s'' input''

-- a stretch that comes to the end of the run is the whole run
abbrev pub StretchesEnd : Type 0
StretchesEnd =
    (image : Image) (s s' : State) (input input' : List ℤ) (es : List Seen) (os : List ℤ) (entry : Seen) (number : ℕ)
    → Leads image s input es os s' input' → Ends image s' input' entry number → (k : ℕ)
    → (runs image (suc k + length es) s input ≡ record { entries = es ++ entry ∷ []; output = os; outcome = Ended number })
    × ((put : List ℤ) (past : List Seen)
    → exec image (suc k + length es) (config s input put past)
    ≡ over number (config s' input' (put ++ os) (entry ∷ (reverse es ++ past))))

-- word k of a frame lies below its end, whose address is a multiple of 4
abbrev pub FrameWordsLie : Type 0
FrameWordsLie =
    (fp k : ℕ) → fp % 4 ≡ 0 → fp < 2 ^ 32 → 4 * k ≤ fp → 0 < k → k ≤ 2 ^ 9
    → (sum_32 fp (sign_12 (2 ^ 12 - 4 * k)) ≡ fp - 4 * k) × ((fp - 4 * k) % 4 ≡ 0) × ((fp - 4 * k) / 4 ≡ fp / 4 - k)

-- any constant is the sum of the value of an upper immediate and of a signed immediate: 2 ^ 11 makes
-- good that the lower 12 bits are signed
abbrev pub ConstantsSplit : Type 0
ConstantsSplit =
    (n from : ℕ) → n < 2 ^ 32 → from < 2 ^ 32
    → sum_32 (sum_32 (upper_value ((n + 2 ^ 11) / 2 ^ 12 % 2 ^ 20)) from) (sign_12 (n % 2 ^ 12)) ≡ sum_32 from n

-- a branch and a jump in reach lead exactly where they are to
abbrev pub BranchesLand : Type 0
BranchesLand =
    (from to : ℕ) → from < memory_bytes → to < memory_bytes → from % 4 ≡ 0 → to % 4 ≡ 0 → BranchReaches from to
    → (sum_32 from (branch_offset (branch_halves from to)) ≡ to) × (branch_halves from to < 2 ^ 12)

abbrev pub JumpsLand : Type 0
JumpsLand =
    (from to : ℕ) → from < memory_bytes → to < memory_bytes → from % 4 ≡ 0 → to % 4 ≡ 0 → JumpReaches from to
    → (sum_32 from (jump_offset (jump_halves from to)) ≡ to) × (jump_halves from to < 2 ^ 20)
