-- What stands at an address, by the kind of its word and by its instruction.
use Rattle.std.proofs.Common.{◌≡◌, ℕ, ◌-◌, ◌/◌, ◌%◌, Bool, true, false, cond, not, ◌==◌, ◌&&◌, ◌||◌, nat_lt, nat_le, List, map, Option, Some, None, refl, ap, ◌∙◌, arith, option_and_then, option_map, unwrap_or, slice_get}
use Rattle.std.proofs.lemmas.Bool.Decides.{nat_tests}
use Rattle.std.proofs.lemmas.Option.{slice_get-map}
use Rattle.rv_isa.specs.declared.instr.Instr.{Instr}
use Rattle.rv_isa.specs.declared.instr.Instr.TheVariants.{Upper, Jal, Jalr, Branch as ConditionalBranch, Load, Store, Immediate, Shift, Register, Fence, Ecall, Ebreak}
use Rattle.rv_isa.specs.Decoding.{instr_of}
use Rattle.rv_semantics.specs.Layout.{text_place, text_word}
use Rattle.rv_isa.specs.Control.{is_branch, is_transfer, holds}
use Rattle.decision_map.specs.declared.kind.WordKind.{WordKind}
use Rattle.decision_map.specs.declared.kind.WordKind.TheVariants.{Stop}
use Rattle.decision_map.specs.Kinds.{kind_of_instr, kind_of_word, has_edges, place_of, kind_in, kinds_of_text}
use Rattle.object_facts.specs.Kinds.{ends_piece}

pub branch_kind : (i : Option Instr) → holds is_branch i ≡ has_edges (kind_of_instr i)
branch_kind None = refl
branch_kind (Some (Upper op rd imm)) = refl
branch_kind (Some (Jal rd halves)) = refl
branch_kind (Some (Jalr rd rs1 imm)) = refl
branch_kind (Some (ConditionalBranch op rs1 rs2 halves)) = refl
branch_kind (Some (Load op rd rs1 imm)) = refl
branch_kind (Some (Store op rs1 rs2 imm)) = refl
branch_kind (Some (Immediate op rd rs1 imm)) = refl
branch_kind (Some (Shift op rd rs1 by)) = refl
branch_kind (Some (Register op rd rs1 rs2)) = refl
branch_kind (Some (Fence rd rs1 imm)) = refl
branch_kind (Some Ecall) = refl
branch_kind (Some Ebreak) = refl

pub transfer_kind : (i : Option Instr) → holds is_transfer i ≡ ends_piece (kind_of_instr i)
transfer_kind None = refl
transfer_kind (Some (Upper op rd imm)) = refl
transfer_kind (Some (Jal rd halves)) = refl
transfer_kind (Some (Jalr rd rs1 imm)) = refl
transfer_kind (Some (ConditionalBranch op rs1 rs2 halves)) = refl
transfer_kind (Some (Load op rd rs1 imm)) = refl
transfer_kind (Some (Store op rs1 rs2 imm)) = refl
transfer_kind (Some (Immediate op rd rs1 imm)) = refl
transfer_kind (Some (Shift op rd rs1 by)) = refl
transfer_kind (Some (Register op rd rs1 rs2)) = refl
transfer_kind (Some (Fence rd rs1 imm)) = refl
transfer_kind (Some Ecall) = refl
transfer_kind (Some Ebreak) = refl

pub branch_transfers : (i : Option Instr) → holds is_branch i ≡ true → holds is_transfer i ≡ true
branch_transfers None is = absurd (cc is)
branch_transfers (Some (Upper op rd imm)) is = absurd (cc is)
branch_transfers (Some (Jal rd halves)) is = refl
branch_transfers (Some (Jalr rd rs1 imm)) is = refl
branch_transfers (Some (ConditionalBranch op rs1 rs2 halves)) is = refl
branch_transfers (Some (Load op rd rs1 imm)) is = absurd (cc is)
branch_transfers (Some (Store op rs1 rs2 imm)) is = absurd (cc is)
branch_transfers (Some (Immediate op rd rs1 imm)) is = absurd (cc is)
branch_transfers (Some (Shift op rd rs1 by)) is = absurd (cc is)
branch_transfers (Some (Register op rd rs1 rs2)) is = absurd (cc is)
branch_transfers (Some (Fence rd rs1 imm)) is = absurd (cc is)
branch_transfers (Some Ecall) is = refl
branch_transfers (Some Ebreak) is = absurd (cc is)

-- one place, whichever way it is found
pub one_place : (pc : ℕ) → place_of pc ≡ text_place pc
one_place pc = by_tests (nat_le 65536 pc) (nat_lt pc 65536) (pc % 4 == 0) (grind (arith, nat_tests))
  where
    by_tests : (from before multiple : Bool) → from ≡ not before
        → cond (from && multiple) (Some ((pc - 65536) / 4)) None ≡ cond (before || not multiple) None (Some ((pc - 65536) / 4))
    by_tests true true multiple is = absurd (cc is)
    by_tests true false true is = refl
    by_tests true false false is = refl
    by_tests false true multiple is = refl
    by_tests false false multiple is = absurd (cc is)

kind_of_found : (found : Option ℕ) → unwrap_or (option_map kind_of_word found) Stop ≡ kind_of_instr (option_and_then instr_of found)
unfolding kind_of_word
kind_of_found None = refl
kind_of_found (Some word) = refl

-- the kind at an address is that of the instruction there
pub kind_there : (text : List ℕ) (pc : ℕ) → kind_in (kinds_of_text text) pc ≡ kind_of_instr (option_and_then instr_of (text_word text pc))
kind_there text pc =
    ap (λ (found : Option ℕ). unwrap_or (option_and_then (slice_get (map kind_of_word text)) found) Stop) (one_place pc)
    ∙ by_place (text_place pc)
  where
    by_place : (found : Option ℕ) → unwrap_or (option_and_then (slice_get (map kind_of_word text)) found) Stop
        ≡ kind_of_instr (option_and_then instr_of (option_and_then (λ (place : ℕ). slice_get text place) found))
    by_place None = refl
    by_place (Some place) =
        ap (λ (found : Option WordKind). unwrap_or found Stop) (slice_get-map kind_of_word text place)
        ∙ kind_of_found (slice_get text place)
