-- Worked examples: the words of an operation, and the lines of a decision.
use Rattle.std.proofs.Common.{◌≡◌, [], ◌∷◌, ◌++◌, map, true, false, refl}
use Rattle.rv_isa.specs.declared.ops.BranchOp.TheVariants.{Bne}
use Rattle.rv_isa.specs.Rows.{word}
use Rattle.kernel_ir.specs.declared.code.Edge.TheVariants.{Leaf, NodeAfter}
use Rattle.kernel_ir.specs.Tree.{call, no_op, and_op, no_node, and_node}
use Rattle.kernel_code.specs.Line.{plain, jump, decides}
use Rattle.kernel_code.specs.Words.{load_slot, store_slot}
use Rattle.kernel_code.specs.SimpleCode.{Setting, branch}
use Rattle.kernel_code.specs.Code.{code_length, nodes_lines, load_truth}

-- `lui x5, 0; add x5, x5, x8; lw x10, -4(x5)` loads slot 0, and `lui x5, 0xffffe; add x5, x5, x8;
-- sw x10, -4(x5)` stores slot 2048
loads_slot_0 : map word (load_slot 10 0 []) ≡ 0x000002b7 ∷ 0x008282b3 ∷ 0xffc2a503 ∷ []
loads_slot_0 = refl

stores_slot_2048 : map word (store_slot 10 2048 []) ≡ 0xffffe2b7 ∷ 0x008282b3 ∷ 0xfea2ae23 ∷ []
stores_slot_2048 = refl

-- a call has 13 lines, and a decision 8 for each node beside its operand, and 9 for its outcomes
lines_of_a_call : code_length (and_op (call 3) no_op) ≡ 13
lines_of_a_call = refl

abbrev setting : Setting
setting = record { width = 4; exceptions = 4; layouts = []; first_layout = 2 }

-- `A and then B` with A in slot 0 and B in slot 1, from place 0 on: the outcomes are at 16 and 21
and_then : nodes_lines setting (record { raise_to = 90; exit_to = 91; return_to = 92 }) 16 21 (record { 0 = 7 }) (record { 0 = 0 }) 0 0
    (and_node no_op 0 (NodeAfter 0) (Leaf false) (and_node no_op 1 (Leaf true) (Leaf false) no_node))
    ≡ map plain (load_truth 0) ++ (branch (decides (record { 0 = 7 }) 0 (record { 0 = 0 })) Bne 10 0 7 ∷ jump 21 ∷ jump 8
    ∷ (map plain (load_truth 1) ++ (branch (decides (record { 0 = 7 }) 1 (record { 0 = 0 })) Bne 10 0 15 ∷ jump 21 ∷ jump 16 ∷ [])))
and_then = refl
