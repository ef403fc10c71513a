-- What a call is handed, and what it leaves.
use Rattle.std.specs.Prelude.{◌≡◌, ℕ, ◌+◌, ◌-◌, ◌≤◌, ◌<◌, ◌⊎◌, ℤ, pos, List, [], ◌∷◌, drop, length, Bool, true, false, suc, Option}
use Rattle.std.specs.Int.{w32}
use Rattle.std.specs.Int.RustNames.{FitsSigned}
use Rattle.ada_meaning.specs.Calls.{Argument, of_value, of_variable, of_both, of_composite, Calls, next_parameter, result_of, copy_all_back}
use Rattle.ada_meaning.specs.Program.{Mode, in_mode, out_mode, in_out_mode, body_target, Program}
use Rattle.ada_meaning.specs.Resolved.{ResolvedParameter, parameters_of, local_place}
use Rattle.ada_meaning.specs.Shape.{Shape}
use Rattle.ada_meaning.specs.State.{Place, Store, World, Outcome, give, goes_to, ◌>>=◌}
use Rattle.ada_resolved.specs.Sizes.{words}
use Rattle.kernel_ir.specs.Meaning as code
use Rattle.kernel_ir.specs.World.{Memory, data_word, area_end, slot_in}
use Rattle.kernel_ir.specs.World as kernel
use Rattle.statement_code.specs.Cells.{Cells, Lies, Agree}
use Rattle.statement_code.specs.Frames.{Observed, Frame, Runs}
use Rattle.statement_code.specs.Values.{Site, arguments, IsWord, IsComposite}

-- the cells of an activation: those of the library level, which all share, and its own, which stand in its frame, as what it keeps does or above
pub record Calling (Cell Library : Cells) (Keep : ℕ → Type 0) (fr : Frame) : Type 0 where
  pub shared : (q : Place) (a : ℕ) → Cell q a → q.frame ≡ 0 → Library q a
  pub library : (q : Place) (a : ℕ) → Library q a → Cell q a × (q.frame ≡ 0)
  pub local : (q : Place) (a : ℕ) → Cell q a → q.frame ≡ fr.depth → fr.fp ≤ a + fr.width
  pub above : (a : ℕ) → Keep a → fr.fp ≤ a + fr.width
  pub deep : 1 ≤ fr.depth

-- What a call leaves: the same depth and unread input; the words of the library level hold what the store has; those from the end of the
-- callee's frame on, and the places of this activation and of lower ones, are as they were.
pub record Called (Library : Cells) (end spare : ℕ) (start : World) (begun : kernel.World) (w : World) (v : kernel.World) : Type 0 where
  pub depth_is : w.depth ≡ start.depth
  pub input : v.input ≡ w.input
  pub library : Agree Library w.store v.memory
  pub words : (a : ℕ) → end ≤ a → v.memory a ≡ begun.memory a
  pub kept : (q : Place) → 1 ≤ q.frame → q.frame ≤ start.depth → w.store q ≡ start.store q
  pub seen : Observed spare w.seen v.seen

-- cells that a callee only reads: of the library level, or of an activation up to a depth, from a word on; memory holds what the store has
abbrev pub Outside : (Library : Cells) → (end depth : ℕ) → Store → Memory → Cells
Outside Library end depth store memory r c =
    ((memory c ≡ store r) × FitsSigned w32 (store r)) × (Library r c ⊎ ((1 ≤ r.frame) × ((r.frame ≤ depth) × (end ≤ c))))

-- an object outside, whose address stands in a slot
pub record Handed (Library : Cells) (end depth slot : ℕ) (s : Shape) (q : Place) (w : World) (v : kernel.World) : Type 0 where
  pub address : ℕ
  pub holds : slot_in end slot v ≡ pos address
  pub lies : Lies (Outside Library end depth w.store v.memory) s q address
  pub low : data_word ≤ address
  pub high : address + words s ≤ area_end

-- the arguments for these parameters stand in the first slots of a frame, from number j on
abbrev pub ArgumentsStand : (Library : Cells) → (end depth j : ℕ) → List ResolvedParameter → List Argument → World → kernel.World → Type 0
ArgumentsStand Library end depth j qs [] w v = Unit {0}
ArgumentsStand Library end depth j qs (of_value x ∷ xs) w v =
    ((slot_in end j v ≡ x) × FitsSigned w32 x) × ArgumentsStand Library end depth (j + 1) (drop 1 qs) xs w v
ArgumentsStand Library end depth j qs (of_both q b x ∷ xs) w v =
    ((slot_in end j v ≡ x) × FitsSigned w32 x) × ArgumentsStand Library end depth (j + 1) (drop 1 qs) xs w v
ArgumentsStand Library end depth j qs (of_variable q b ∷ xs) w v = ArgumentsStand Library end depth (j + 1) (drop 1 qs) xs w v
ArgumentsStand Library end depth j qs (of_composite q ∷ xs) w v =
    Handed Library end depth j (next_parameter qs).shape q w v × ArgumentsStand Library end depth (j + 1) (drop 1 qs) xs w v

-- an argument for a parameter, by the parameter's mode and type
abbrev pub IsFor : ResolvedParameter → Argument → Type 0
IsFor f (of_value x) = IsWord f.shape × (f.mode ≡ in_mode)
IsFor f (of_variable q b) = IsWord f.shape × (f.mode ≡ out_mode)
IsFor f (of_both q b x) = IsWord f.shape × (f.mode ≡ in_out_mode)
IsFor f (of_composite q) = IsComposite f.shape

abbrev pub AreFor : List ResolvedParameter → List Argument → Type 0
AreFor qs [] = qs ≡ []
AreFor qs (x ∷ xs) = (1 ≤ length qs) × (IsFor (next_parameter qs) x × AreFor (drop 1 qs) xs)

-- What calls of functions do, from a frame of this width: both give a result, which stands in the first slot of the callee's frame, both raise
-- an exception, or both are cut off.
abbrev pub FunctionsDo : (p : Program) → Calls → code.Calls → (Library : Cells) → (site : Site) → (Bodies : Bool → ℕ → ℕ → Type 0) → (top width fp left : ℕ) → Type 0
FunctionsDo p calls kcalls Library site Bodies top width fp left =
    (j m : ℕ) → Bodies true j m → (xs : List Argument) → AreFor (parameters_of p (body_target j m)) xs → length xs ≤ arguments → (spare : ℕ) (w : World) (v : kernel.World)
    → ArgumentsStand Library (fp - width) w.depth 0 (parameters_of p (body_target j m)) xs w v → Agree Library w.store v.memory → Observed (spare + 2) w.seen v.seen
    → v.input ≡ w.input → w.depth + left ≡ 512
    → Runs (λ x u t. ((1 ≤ x) × (x ≤ top)) × Called Library (fp - width) spare w v u t)
    (λ x u t. Called Library (fp - width) spare w v u t × ((slot_in (fp - width) 0 t ≡ x) × FitsSigned w32 x))
    (goes_to (calls j m xs w) (λ r. result_of r)) (code.called kcalls width fp left (site.body j m) v)

-- cells of a callee that ended: they stand below its frame's end, and are none of the library level's words
abbrev pub Inner : (Library : Cells) → (end depth : ℕ) → Store → Memory → Cells
Inner Library end depth store memory r c =
    ((memory c ≡ store r) × FitsSigned w32 (store r)) × ((r.frame ≡ depth) × ((c < end) × ((z : Place) → Library z c → ⊥)))

-- a composite parameter of a callee that ended: its address stands in a slot
pub record Returned (Library : Cells) (end depth slot : ℕ) (s : Shape) (q : Place) (w : World) (v : kernel.World) : Type 0 where
  pub address : ℕ
  pub holds : slot_in end slot v ≡ pos address
  pub lies : Lies (Inner Library end depth w.store v.memory) s q address
  pub low : data_word ≤ address
  pub high : address + words s ≤ area_end

-- what is copied back from a composite parameter, by its mode
abbrev pub IsBack : Mode → Type 0 → Type 0
IsBack in_mode P = Unit {0}
IsBack out_mode P = P
IsBack in_out_mode P = P

-- The parameters of a callee that ended, in an instance and at a depth: scalars that are copied back stand in the first slots of its frame,
-- from number i on, and the addresses of composite ones do.
abbrev pub Results : (Library : Cells) → (end inst depth i : ℕ) → List ResolvedParameter → List Argument → World → kernel.World → Type 0
Results Library end inst depth i qs [] w v = Unit {0}
Results Library end inst depth i qs (of_value x ∷ xs) w v = Results Library end inst depth (i + 1) (drop 1 qs) xs w v
Results Library end inst depth i qs (of_variable q b ∷ xs) w v =
    ((slot_in end i v ≡ w.store (local_place inst depth (next_parameter qs).declaration)) × FitsSigned w32 (w.store (local_place inst depth (next_parameter qs).declaration)))
    × Results Library end inst depth (i + 1) (drop 1 qs) xs w v
Results Library end inst depth i qs (of_both q b x ∷ xs) w v =
    ((slot_in end i v ≡ w.store (local_place inst depth (next_parameter qs).declaration)) × FitsSigned w32 (w.store (local_place inst depth (next_parameter qs).declaration)))
    × Results Library end inst depth (i + 1) (drop 1 qs) xs w v
Results Library end inst depth i qs (of_composite q ∷ xs) w v =
    IsBack (next_parameter qs).mode (Returned Library end depth i (next_parameter qs).shape (local_place inst depth (next_parameter qs).declaration) w v)
    × Results Library end inst depth (i + 1) (drop 1 qs) xs w v

-- What a call of a procedure does. The source copies parameters back within the call, and the kernel behind it; so the two are held against
-- each other at the return.
pub record ProcedureDoes (p : Program) (calls : Calls) (kcalls : code.Calls) (Library : Cells) (top width fp left body : ℕ) (j m : ℕ) (xs : List Argument) (spare : ℕ) (w : World)
    (v : kernel.World) : Type 0 where
  pub outcome : Outcome (Option ℤ)
  pub is : calls j m xs w ≡ goes_to outcome (λ r. copy_all_back j (suc w.depth) (parameters_of p (body_target j m)) xs >>= λ u. give r)
  pub runs : Runs (λ x u t. ((1 ≤ x) × (x ≤ top)) × Called Library (fp - width) spare w v u t)
      (λ r u t. Called Library (fp - width) spare w v u t × Results Library (fp - width) j (suc w.depth) 0 (parameters_of p (body_target j m)) xs u t)
      outcome (code.called kcalls width fp left body v)

abbrev pub ProceduresDo : (p : Program) → Calls → code.Calls → (Library : Cells) → (site : Site) → (Bodies : Bool → ℕ → ℕ → Type 0) → (top width fp left : ℕ) → Type 0
ProceduresDo p calls kcalls Library site Bodies top width fp left =
    (j m : ℕ) → Bodies false j m → (xs : List Argument) → AreFor (parameters_of p (body_target j m)) xs → length xs ≤ arguments → (spare : ℕ) (w : World) (v : kernel.World)
    → ArgumentsStand Library (fp - width) w.depth 0 (parameters_of p (body_target j m)) xs w v → Agree Library w.store v.memory → Observed (spare + 1) w.seen v.seen
    → v.input ≡ w.input → w.depth + left ≡ 512
    → ProcedureDoes p calls kcalls Library top width fp left (site.body j m) j m xs spare w v

-- an activation from which calls may be made
pub record MayCall (p : Program) (calls : Calls) (kcalls : code.Calls) (Library : Cells) (site : Site) (Bodies : Bool → ℕ → ℕ → Type 0) (Cell : Cells) (Keep : ℕ → Type 0) (fr : Frame)
    : Type 0 where
  pub calling : Calling Cell Library Keep fr
  pub functions : FunctionsDo p calls kcalls Library site Bodies fr.top fr.width fr.fp fr.calls
  pub procedures : ProceduresDo p calls kcalls Library site Bodies fr.top fr.width fr.fp fr.calls
  pub full : fr.depth + fr.calls ≡ 512
  pub width_is : site.width ≡ fr.width
