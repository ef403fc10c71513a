-- What one step shows, and where the machine stands after it.
use Rattle.std.proofs.Common.{◌≡◌, ℕ, ◌+◌, ◌%◌, ◌/◌, Bool, true, false, cond, not, ◌&&◌, nat_lt, nat_le, nat_eq, is_some, refl}
use Rattle.rv_isa.specs.declared.instr.Instr.{Instr}
use Rattle.rv_isa.specs.declared.instr.Instr.TheVariants.{Upper, Jal, Jalr, Branch, Load, Store as StoreTo, Immediate, Shift, Register, Fence, Ecall, Ebreak}
use Rattle.rv_isa.specs.declared.ops.LoadOp.{LoadOp}
use Rattle.rv_isa.specs.declared.ops.StoreOp.{StoreOp}
use Rattle.rv_semantics.specs.declared.stepped.Seen.{Seen}
use Rattle.rv_semantics.specs.declared.stepped.Stepped.TheVariants.{Went, Get, Put, End, Trap}
use Rattle.rv_semantics.specs.State.{Image, State}
use Rattle.rv_semantics.specs.Bytes.{load_size, store_size, loaded, stored}
use Rattle.rv_semantics.specs.Layout.{memory_bytes, in_text}
use Rattle.rv_semantics.specs.Step.{Answer, next_pc, writes, puts, jumps, branches, loads, stores, calls, act}
use Rattle.rv_isa.specs.Control.{is_branch, is_transfer}

-- the instruction was seen where it stands, with an edge just if it is a branch, and the next one follows unless it is a transfer
pub record GoesOn (transfer branch : Bool) (s after : State) (seen : Seen) : Type 0 where
  pub stands : seen.pc ≡ s.pc
  pub edge : is_some seen.edge ≡ branch
  pub next : transfer ≡ false → after.pc ≡ next_pc s

-- the same of what a step came to
abbrev pub Shows : (transfer branch : Bool) → State → Answer → Type 0
Shows transfer branch s (Went seen, after) = GoesOn transfer branch s after seen
Shows transfer branch s (Get seen, after) = GoesOn transfer branch s after seen
Shows transfer branch s (Put seen word, after) = GoesOn transfer branch s after seen
Shows transfer branch s (End seen number, after) = (seen.pc ≡ s.pc) × (is_some seen.edge ≡ branch) × (transfer ≡ true)
Shows transfer branch s (Trap pc why, after) = Unit {0}

-- of a choice
either : (transfer branch : Bool) (s : State) (b : Bool) (x y : Answer) → Shows transfer branch s x → Shows transfer branch s y → Shows transfer branch s (cond b x y)
either transfer branch s true x y first second = first
either transfer branch s false x y first second = second

on_writes : (s : State) (rd value : ℕ) → Shows false false s (writes s rd value)
unfolding writes
on_writes s rd value = record { stands = refl; edge = refl; next = λ _. refl }

on_puts : (s : State) (place word : ℕ) → Shows false false s (puts s place word)
unfolding puts
on_puts s place word = record { stands = refl; edge = refl; next = λ _. refl }

on_jumps : (s : State) (rd target : ℕ) → Shows true false s (jumps s rd target)
unfolding jumps
on_jumps s rd target = either true false s (nat_eq (target % 4) 0) _ _ (record { stands = refl; edge = refl; next = λ off. absurd (cc off) }) tt

on_branches : (s : State) (taken : Bool) (target : ℕ) → Shows true true s (branches s taken target)
unfolding branches
on_branches s taken target =
    either true true s (not taken) _ _ (record { stands = refl; edge = refl; next = λ _. refl })
    (either true true s (nat_eq (target % 4) 0) _ _ (record { stands = refl; edge = refl; next = λ off. absurd (cc off) }) tt)

on_loads : (s : State) (op : LoadOp) (rd address : ℕ) → Shows false false s (loads s op rd address)
unfolding loads
on_loads s op rd address =
    either false false s (not (nat_eq (address % load_size op) 0)) _ _ tt
    (either false false s (nat_lt memory_bytes (address + load_size op)) _ _ tt (on_writes s rd (loaded op (s.mem (address / 4)) address)))

on_stores : (image : Image) (s : State) (op : StoreOp) (address value : ℕ) → Shows false false s (stores image s op address value)
unfolding stores
on_stores image s op address value =
    either false false s (not (nat_eq (address % store_size op) 0)) _ _ tt
    (either false false s (nat_lt memory_bytes (address + store_size op)) _ _ tt
    (either false false s (in_text image.text address) _ _ tt
    (on_puts s (address / 4) (stored op (s.mem (address / 4)) address value))))

on_calls : (image : Image) (s : State) → Shows true false s (calls image s)
unfolding calls
on_calls image s =
    either true false s (nat_eq (s.reg 17) 1) _ _ (record { stands = refl; edge = refl; next = λ _. refl })
    (either true false s (nat_eq (s.reg 17) 2) _ _ (record { stands = refl; edge = refl; next = λ _. refl })
    (either true false s (nat_eq (s.reg 17) 3 && nat_le (s.reg 10) image.exceptions) _ _ (refl, refl, refl) tt))

-- of each instruction
pub acts_so : (image : Image) (s : State) (i : Instr) → Shows (is_transfer i) (is_branch i) s (act image s i)
unfolding act
acts_so image s (Upper op rd imm) = on_writes s rd _
acts_so image s (Jal rd halves) = on_jumps s rd _
acts_so image s (Jalr rd rs1 imm) = on_jumps s rd _
acts_so image s (Branch op rs1 rs2 halves) = on_branches s _ _
acts_so image s (Load op rd rs1 imm) = on_loads s op rd _
acts_so image s (StoreTo op rs1 rs2 imm) = on_stores image s op _ _
acts_so image s (Immediate op rd rs1 imm) = on_writes s rd _
acts_so image s (Shift op rd rs1 by) = on_writes s rd _
acts_so image s (Register op rd rs1 rs2) = on_writes s rd _
acts_so image s (Fence rd rs1 imm) = record { stands = refl; edge = refl; next = λ _. refl }
acts_so image s Ecall = on_calls image s
acts_so image s Ebreak = tt
