-- What each kind of instruction does where it stands.
use Rattle.std.proofs.Common.{◌≡◌, ℕ, ◌+◌, ◌/◌, ◌%◌, ◌==◌, not, nat_lt, ◌≤◌, Bool, true, false, Some, None, refl, ap, ◌∙◌, arith}
use Rattle.std.proofs.lemmas.Bool.Decides.{nat_tests}
use Rattle.rv_isa.specs.declared.ops.LoadOp.{LoadOp}
use Rattle.rv_isa.specs.declared.ops.StoreOp.{StoreOp}
use Rattle.rv_isa.specs.declared.instr.Instr.{Instr}
use Rattle.rv_isa.specs.declared.instr.Instr.TheVariants.{Upper, Jal, Jalr, Branch, Load, Store, Immediate, Shift, Register}
use Rattle.rv_isa.specs.Immediates.{sign_12, branch_offset, upper_value}
use Rattle.rv_semantics.specs.declared.stepped.Stepped.TheVariants.{Went}
use Rattle.rv_semantics.specs.Layout.{memory_bytes, in_text}
use Rattle.rv_semantics.specs.Arithmetic.{sum_32, is_taken, immediate_result, shift_result, register_result}
use Rattle.rv_semantics.specs.Bytes.{load_size, store_size, loaded, stored}
use Rattle.rv_semantics.specs.State.{Image, State, at, with_reg}
use Rattle.rv_semantics.specs.Step.{seen, act, writes, puts, jumps, branches, loads, stores, upper_result, without_bit_0}
use Rattle.placed_code.specs.Code.{StandsAt, text_end}
use Rattle.placed_code.specs.Instructions.{written, UpperGoes, ImmediateGoes, ShiftGoes, RegisterGoes, LoadGoes, StoreGoes, BranchGoes, BranchGoesOn, JumpGoes, RegisterJumpGoes}
use Rattle.placed_code.proofs.StretchLaws.{is_executed, leads_went}

-- the next address
pub next_is : (image : Image) (s : State) (i : Instr) (next : ℕ) → StandsAt image s.pc i → s.pc + 4 ≡ next → sum_32 s.pc 4 ≡ next
next_is image s i next stands is_next = let within = stands.within in omega arith

-- a register is written

writes_is : (s : State) (rd value x next : ℕ) → value ≡ x → sum_32 s.pc 4 ≡ next → writes s rd value ≡ (Went (seen s None), written s rd x next)
unfolding writes
writes_is s rd value x next is_x is_next =
    λ i. (Went (seen s None), record { pc = is_next i; reg = with_reg s.reg rd (is_x i); mem = s.mem })

pub upper_goes : UpperGoes
unfolding act
upper_goes image s input op rd imm value next stands is_value is_next =
    leads_went image s input (seen s None) (written s rd value next)
    (is_executed image s (Upper op rd imm) stands
    ∙ writes_is s rd (upper_result op s.pc (upper_value imm)) value next is_value (next_is image s _ next stands is_next))

pub immediate_goes : ImmediateGoes
unfolding act
immediate_goes image s input op rd rs1 imm a value next stands is_a is_value is_next =
    leads_went image s input (seen s None) (written s rd value next)
    (is_executed image s (Immediate op rd rs1 imm) stands
    ∙ writes_is s rd (immediate_result op (s.reg rs1) (sign_12 imm)) value next (ap (λ x. immediate_result op x (sign_12 imm)) is_a ∙ is_value) (next_is image s _ next stands is_next))

pub shift_goes : ShiftGoes
unfolding act
shift_goes image s input op rd rs1 amount a value next stands is_a is_value is_next =
    leads_went image s input (seen s None) (written s rd value next)
    (is_executed image s (Shift op rd rs1 amount) stands
    ∙ writes_is s rd (shift_result op (s.reg rs1) amount) value next (ap (λ x. shift_result op x amount) is_a ∙ is_value) (next_is image s _ next stands is_next))

pub register_goes : RegisterGoes
unfolding act
register_goes image s input op rd rs1 rs2 a b value next stands is_a is_b is_value is_next =
    leads_went image s input (seen s None) (written s rd value next)
    (is_executed image s (Register op rd rs1 rs2) stands
    ∙ writes_is s rd (register_result op (s.reg rs1) (s.reg rs2)) value next ((λ i. register_result op (is_a i) (is_b i)) ∙ is_value) (next_is image s _ next stands is_next))

-- memory is read and written

-- the tests of a load and of a store

is_aligned : (address size : ℕ) → address % size ≡ 0 → not (address % size == 0) ≡ false
is_aligned address size aligned = rw aligned refl

is_inside : (address size : ℕ) → address + size ≤ memory_bytes → nat_lt memory_bytes (address + size) ≡ false
is_inside address size inside = grind (arith, nat_tests)

is_behind : (image : Image) (address : ℕ) → text_end image ≤ address → in_text image.text address ≡ false
is_behind image address behind = grind (arith, nat_tests)

loads_is : (s : State) (op : LoadOp) (rd address : ℕ) → address % load_size op ≡ 0 → address + load_size op ≤ memory_bytes → loads s op rd address ≡ writes s rd (loaded op (s.mem (address / 4)) address)
unfolding loads
loads_is s op rd address aligned inside =
    rw (is_aligned address (load_size op) aligned, is_inside address (load_size op) inside) refl

pub load_goes : LoadGoes
unfolding act
load_goes image s input op rd rs1 imm a address value next stands is_a is_address aligned inside is_value is_next =
    leads_went image s input (seen s None) (written s rd value next)
    (is_executed image s (Load op rd rs1 imm) stands
    ∙ (ap (λ x. loads s op rd x) (ap (λ x. sum_32 x (sign_12 imm)) is_a ∙ is_address)
    ∙ (loads_is s op rd address aligned inside
    ∙ writes_is s rd (loaded op (s.mem (address / 4)) address) value next is_value (next_is image s _ next stands is_next))))

stores_is : (image : Image) (s : State) (op : StoreOp) (address b : ℕ) → address % store_size op ≡ 0 → address + store_size op ≤ memory_bytes → text_end image ≤ address → stores image s op address b ≡ puts s (address / 4) (stored op (s.mem (address / 4)) address b)
unfolding stores
stores_is image s op address b aligned inside behind =
    rw (is_aligned address (store_size op) aligned, is_inside address (store_size op) inside, is_behind image address behind) refl

puts_is : (s : State) (place value word next : ℕ) → value ≡ word → sum_32 s.pc 4 ≡ next → puts s place value ≡ (Went (seen s None), record { pc = next; reg = s.reg; mem = at s.mem place word })
unfolding puts
puts_is s place value word next is_word is_next =
    λ i. (Went (seen s None), record { pc = is_next i; reg = s.reg; mem = at s.mem place (is_word i) })

pub store_goes : StoreGoes
unfolding act
store_goes image s input op rs1 rs2 imm a b address word next stands is_a is_b is_address aligned inside behind is_word is_next =
    leads_went image s input (seen s None) _
    (is_executed image s (Store op rs1 rs2 imm) stands
    ∙ ((λ i. stores image s op ((ap (λ x. sum_32 x (sign_12 imm)) is_a ∙ is_address) i) (is_b i))
    ∙ (stores_is image s op address b aligned inside behind
    ∙ puts_is s (address / 4) (stored op (s.mem (address / 4)) address b) word next is_word (next_is image s _ next stands is_next))))

-- branches and jumps

aligned_test : (target : ℕ) → target % 4 ≡ 0 → (target % 4 == 0) ≡ true
aligned_test target aligned = grind (arith, nat_tests)

branches_is : (s : State) (taken : Bool) (target : ℕ) → taken ≡ true → target % 4 ≡ 0 → branches s taken target ≡ (Went (seen s (Some true)), record { pc = target; reg = s.reg; mem = s.mem })
unfolding branches
branches_is s taken target is_taken aligned = rw (is_taken, aligned_test target aligned) refl

goes_on_is : (s : State) (taken : Bool) (target next : ℕ) → taken ≡ false → sum_32 s.pc 4 ≡ next → branches s taken target ≡ (Went (seen s (Some false)), record { pc = next; reg = s.reg; mem = s.mem })
unfolding branches
goes_on_is s taken target next is_not is_next =
    rw is_not (λ i. (Went (seen s (Some false)), record { pc = is_next i; reg = s.reg; mem = s.mem }))

pub branch_goes : BranchGoes
unfolding act
branch_goes image s input op rs1 rs2 halves a b target stands is_a is_b taken is_target aligned =
    leads_went image s input (seen s (Some true)) _
    (is_executed image s (Branch op rs1 rs2 halves) stands
    ∙ (ap (λ x. branches s (is_taken op (s.reg rs1) (s.reg rs2)) x) is_target
    ∙ branches_is s (is_taken op (s.reg rs1) (s.reg rs2)) target ((λ i. is_taken op (is_a i) (is_b i)) ∙ taken) aligned))

pub branch_goes_on : BranchGoesOn
unfolding act
branch_goes_on image s input op rs1 rs2 halves a b next stands is_a is_b not_taken is_next =
    leads_went image s input (seen s (Some false)) _
    (is_executed image s (Branch op rs1 rs2 halves) stands
    ∙ goes_on_is s (is_taken op (s.reg rs1) (s.reg rs2)) (sum_32 s.pc (branch_offset halves)) next ((λ i. is_taken op (is_a i) (is_b i)) ∙ not_taken) (next_is image s _ next stands is_next))

jumps_is : (s : State) (rd target next : ℕ) → target % 4 ≡ 0 → sum_32 s.pc 4 ≡ next → jumps s rd target ≡ (Went (seen s None), written s rd next target)
unfolding jumps
jumps_is s rd target next aligned is_next =
    rw (aligned_test target aligned) (λ i. (Went (seen s None), written s rd (is_next i) target))

pub jump_goes : JumpGoes
unfolding act
jump_goes image s input rd halves target next stands is_target aligned is_next =
    leads_went image s input (seen s None) (written s rd next target)
    (is_executed image s (Jal rd halves) stands
    ∙ (ap (λ x. jumps s rd x) is_target ∙ jumps_is s rd target next aligned (next_is image s _ next stands is_next)))

even_stays : (target : ℕ) → target % 4 ≡ 0 → without_bit_0 target ≡ target
even_stays target aligned = omega arith

pub register_jump_goes : RegisterJumpGoes
unfolding act
register_jump_goes image s input rd rs1 imm a target next stands is_a is_target aligned is_next =
    leads_went image s input (seen s None) (written s rd next target)
    (is_executed image s (Jalr rd rs1 imm) stands
    ∙ (ap (λ x. jumps s rd (without_bit_0 x)) (ap (λ x. sum_32 x (sign_12 imm)) is_a ∙ is_target)
    ∙ (ap (λ x. jumps s rd x) (even_stays target aligned)
    ∙ jumps_is s rd target next aligned (next_is image s _ next stands is_next))))
