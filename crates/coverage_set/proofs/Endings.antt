-- A run ends with 0, or with the number of an exception of its image.
use Rattle.std.proofs.Common.{◌≡◌, ℕ, zero, suc, ◌+◌, ◌/◌, ◌%◌, ◌≤◌, Bool, true, false, cond, not, ◌&&◌, nat_le, nat_lt, nat_eq, List, slice_get, drop, Option, Some, None, ℤ, refl, subst}
use Rattle.std.proofs.lemmas.Bool.{and_parts, leb-true}
use Rattle.rv_isa.specs.declared.instr.Instr.{Instr}
use Rattle.rv_isa.specs.declared.instr.Instr.TheVariants.{Upper, Jal, Jalr, Branch, Load, Store as StoreTo, Immediate, Shift, Register, Fence, Ecall, Ebreak}
use Rattle.rv_isa.specs.declared.ops.LoadOp.{LoadOp}
use Rattle.rv_isa.specs.declared.ops.StoreOp.{StoreOp}
use Rattle.rv_isa.specs.Decoding.{instr_of}
use Rattle.rv_semantics.specs.declared.stepped.Stepped.TheVariants.{Went, Get, Put, End, Trap}
use Rattle.rv_semantics.specs.Bytes.{load_size, store_size}
use Rattle.rv_semantics.specs.Layout.{memory_bytes, text_word, in_text}
use Rattle.rv_semantics.specs.State.{Image, State, given}
use Rattle.rv_semantics.specs.Step.{Answer, writes, puts, jumps, branches, loads, stores, calls, act, decoded, fetched, step}
use Rattle.rv_semantics.specs.Run.{Run, after, runs}
use Rattle.rv_semantics.specs.Run.Outcome.{Ended}

-- a step that ends a run does so with a number that is at most this one
abbrev EndsWithin : (most : ℕ) → Answer → Type 0
EndsWithin most (Went seen, s) = Unit {0}
EndsWithin most (Get seen, s) = Unit {0}
EndsWithin most (Put seen word, s) = Unit {0}
EndsWithin most (End seen number, s) = number ≤ most
EndsWithin most (Trap pc why, s) = Unit {0}

-- of a choice
either : (most : ℕ) (b : Bool) (x y : Answer) → EndsWithin most x → EndsWithin most y → EndsWithin most (cond b x y)
either most true x y first second = first
either most false x y first second = second

-- of a choice whose first way is taken only where its test holds
guarded : (most : ℕ) (b : Bool) (x y : Answer) → (b ≡ true → EndsWithin most x) → EndsWithin most y → EndsWithin most (cond b x y)
guarded most true x y first second = first refl
guarded most false x y first second = second

on_writes : (most : ℕ) (s : State) (rd value : ℕ) → EndsWithin most (writes s rd value)
unfolding writes
on_writes most s rd value = tt

on_puts : (most : ℕ) (s : State) (place word : ℕ) → EndsWithin most (puts s place word)
unfolding puts
on_puts most s place word = tt

on_jumps : (most : ℕ) (s : State) (rd target : ℕ) → EndsWithin most (jumps s rd target)
unfolding jumps
on_jumps most s rd target = either most (nat_eq (target % 4) 0) _ _ tt tt

on_branches : (most : ℕ) (s : State) (taken : Bool) (target : ℕ) → EndsWithin most (branches s taken target)
unfolding branches
on_branches most s taken target = either most (not taken) _ _ tt (either most (nat_eq (target % 4) 0) _ _ tt tt)

on_loads : (most : ℕ) (s : State) (op : LoadOp) (rd address : ℕ) → EndsWithin most (loads s op rd address)
unfolding loads
on_loads most s op rd address =
    either most (not (nat_eq (address % load_size op) 0)) _ _ tt
    (either most (nat_lt memory_bytes (address + load_size op)) _ _ tt (on_writes most s rd _))

on_stores : (image : Image) (s : State) (op : StoreOp) (address value : ℕ) → EndsWithin image.exceptions (stores image s op address value)
unfolding stores
on_stores image s op address value =
    either image.exceptions (not (nat_eq (address % store_size op) 0)) _ _ tt
    (either image.exceptions (nat_lt memory_bytes (address + store_size op)) _ _ tt
    (either image.exceptions (in_text image.text address) _ _ tt (on_puts image.exceptions s (address / 4) _)))

on_calls : (image : Image) (s : State) → EndsWithin image.exceptions (calls image s)
unfolding calls
on_calls image s =
    either image.exceptions (nat_eq (s.reg 17) 1) _ _ tt
    (either image.exceptions (nat_eq (s.reg 17) 2) _ _ tt
    (guarded image.exceptions (nat_eq (s.reg 17) 3 && nat_le (s.reg 10) image.exceptions) _ _
    (λ both. leb-true (s.reg 10) image.exceptions (and_parts (nat_eq (s.reg 17) 3) (nat_le (s.reg 10) image.exceptions) both).1) tt))

acts_within : (image : Image) (s : State) (i : Instr) → EndsWithin image.exceptions (act image s i)
unfolding act
acts_within image s (Upper op rd imm) = on_writes image.exceptions s rd _
acts_within image s (Jal rd halves) = on_jumps image.exceptions s rd _
acts_within image s (Jalr rd rs1 imm) = on_jumps image.exceptions s rd _
acts_within image s (Branch op rs1 rs2 halves) = on_branches image.exceptions s _ _
acts_within image s (Load op rd rs1 imm) = on_loads image.exceptions s op rd _
acts_within image s (StoreTo op rs1 rs2 imm) = on_stores image s op _ _
acts_within image s (Immediate op rd rs1 imm) = on_writes image.exceptions s rd _
acts_within image s (Shift op rd rs1 by) = on_writes image.exceptions s rd _
acts_within image s (Register op rd rs1 rs2) = on_writes image.exceptions s rd _
acts_within image s (Fence rd rs1 imm) = tt
acts_within image s Ecall = on_calls image s
acts_within image s Ebreak = tt

-- a step before runs whose endings are at most this number
after_within : (most : ℕ) (next : State → List ℤ → Run) (input : List ℤ) (number : ℕ)
    → ((s : State) (rest : List ℤ) → (next s rest).outcome ≡ Ended number → number ≤ most)
    → (answer : Answer) → EndsWithin most answer → (after next answer input).outcome ≡ Ended number → number ≤ most
after_within most next input number later (Went seen, s) here is = later s input is
after_within most next input number later (Get seen, s) here is = later (given s (slice_get input 0)) (drop 1 input) is
after_within most next input number later (Put seen word, s) here is = later s input is
after_within most next input number later (End seen other, s) here is =
    let same : other ≡ number = cc is in
    subst (λ (n : ℕ). n ≤ most) same here
after_within most next input number later (Trap pc why, s) here is = absurd (cc is)

decoded_within : (image : Image) (s : State) (found : Option Instr) → EndsWithin image.exceptions (decoded image s found)
decoded_within image s None = tt
decoded_within image s (Some i) = acts_within image s i

fetched_within : (image : Image) (s : State) (found : Option ℕ) → EndsWithin image.exceptions (fetched image s found)
fetched_within image s None = tt
fetched_within image s (Some word) = decoded_within image s (instr_of word)

pub ends_within : (image : Image) (budget : ℕ) (s : State) (input : List ℤ) (number : ℕ)
    → (runs image budget s input).outcome ≡ Ended number → number ≤ image.exceptions
unfolding runs step
ends_within image zero s input number is = absurd (cc is)
ends_within image (suc budget) s input number is =
    after_within image.exceptions (runs image budget) input number (λ later rest ended. ends_within image budget later rest number ended)
    (step image s) (fetched_within image s (text_word image.text s.pc)) is
