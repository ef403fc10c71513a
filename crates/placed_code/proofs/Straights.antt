-- Straight code, by induction on its instructions.
use Rattle.std.proofs.Common.{◌≡◌, ◌+◌, ℤ, List, [], ◌∷◌, None, refl, sym, subst, arith}
use Rattle.rv_isa.specs.declared.instr.Instr.{Instr}
use Rattle.rv_isa.specs.declared.instr.Instr.TheVariants.{Upper, Jal, Jalr, Branch, Load, Store, Immediate, Shift, Register, Fence, Ecall, Ebreak}
use Rattle.rv_semantics.specs.State.{Image, State}
use Rattle.rv_semantics.specs.Step.{seen}
use Rattle.placed_code.specs.Code.{StandsAt, HasAt}
use Rattle.placed_code.specs.Stretch.{Leads}
use Rattle.placed_code.specs.Straight.{IsStraight, after_one, after_all, entries_of, address_of, StraightGoes, StraightArrives}
use Rattle.placed_code.proofs.StretchLaws.{nothing_leads, leads_on}
use Rattle.placed_code.proofs.Steps.{upper_goes, immediate_goes, shift_goes, register_goes, load_goes, store_goes}

one_goes : (image : Image) (s : State) (input : List ℤ) (i : Instr) → StandsAt image s.pc i → IsStraight image s i → Leads image s input (seen s None ∷ []) [] (after_one s i) input
one_goes image s input (Upper op rd imm) stands straight = upper_goes image s input op rd imm _ _ stands refl refl
one_goes image s input (Load op rd rs1 imm) stands (aligned, inside) =
    load_goes image s input op rd rs1 imm _ (address_of s rs1 imm) _ _ stands refl refl aligned inside refl refl
one_goes image s input (Store op rs1 rs2 imm) stands ((aligned, inside), behind) =
    store_goes image s input op rs1 rs2 imm _ _ (address_of s rs1 imm) _ _ stands refl refl refl aligned inside behind refl refl
one_goes image s input (Immediate op rd rs1 imm) stands straight = immediate_goes image s input op rd rs1 imm _ _ _ stands refl refl refl
one_goes image s input (Shift op rd rs1 amount) stands straight = shift_goes image s input op rd rs1 amount _ _ _ stands refl refl refl
one_goes image s input (Register op rd rs1 rs2) stands straight = register_goes image s input op rd rs1 rs2 _ _ _ _ stands refl refl refl refl
one_goes image s input (Jal rd halves) stands straight = absurd straight
one_goes image s input (Jalr rd rs1 imm) stands straight = absurd straight
one_goes image s input (Branch op rs1 rs2 halves) stands straight = absurd straight
one_goes image s input (Fence rd rs1 imm) stands straight = absurd straight
one_goes image s input Ecall stands straight = absurd straight
one_goes image s input Ebreak stands straight = absurd straight

pub one_further : (image : Image) (s : State) (i : Instr) → IsStraight image s i → (after_one s i).pc ≡ s.pc + 4
one_further image s (Upper op rd imm) straight = refl
one_further image s (Load op rd rs1 imm) straight = refl
one_further image s (Store op rs1 rs2 imm) straight = refl
one_further image s (Immediate op rd rs1 imm) straight = refl
one_further image s (Shift op rd rs1 amount) straight = refl
one_further image s (Register op rd rs1 rs2) straight = refl
one_further image s (Jal rd halves) straight = absurd straight
one_further image s (Jalr rd rs1 imm) straight = absurd straight
one_further image s (Branch op rs1 rs2 halves) straight = absurd straight
one_further image s (Fence rd rs1 imm) straight = absurd straight
one_further image s Ecall straight = absurd straight
one_further image s Ebreak straight = absurd straight

pub straight_goes : StraightGoes
straight_goes image s input [] has straight = nothing_leads image s input
straight_goes image s input (i ∷ is) has straight =
    let has_rest : HasAt image (after_one s i).pc is = subst (λ a. HasAt image a is) (sym (one_further image s i straight.0)) has.1 in
    leads_on image s (after_one s i) (after_all (after_one s i) is) input input input (seen s None ∷ []) (entries_of (after_one s i) is) [] []
    (one_goes image s input i has.0 straight.0)
    (straight_goes image (after_one s i) input is has_rest straight.1)

pub straight_arrives : StraightArrives
straight_arrives image s [] straight = (omega arith, refl)
straight_arrives image s (i ∷ is) straight =
    let (arrives, count) = straight_arrives image (after_one s i) is straight.1 in
    let one = one_further image s i straight.0 in
    (omega arith, omega arith)
