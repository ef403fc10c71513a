-- A worked example: two pieces that put 3, 2 and 1, with a branch back and one on, placed and run.
use Rattle.std.proofs.Common.{◌≡◌, ℕ, pos, List, [], ◌∷◌, length, refl}
use Rattle.rv_isa.specs.declared.ops.BranchOp.TheVariants.{Beq, Bne}
use Rattle.rv_isa.specs.declared.ops.ImmediateOp.TheVariants.{Addi}
use Rattle.rv_isa.specs.declared.instr.Instr.TheVariants.{Immediate, Jalr, Ecall, Ebreak}
use Rattle.rv_semantics.specs.State.{Image, start}
use Rattle.rv_semantics.specs.Step.{writes, jumps, branches, calls, act, step}
use Rattle.rv_semantics.specs.Run.{Run, runs}
use Rattle.rv_semantics.specs.Run.Outcome.{Ended}
use Rattle.assembler.specs.declared.piece.Item.TheVariants.{Plain, Branch, Call}
use Rattle.assembler.specs.declared.piece.Piece.{Piece}
use Rattle.assembler.specs.Placed.{placed}

abbrev main : Piece
main = record {
  items =
      Plain (Immediate Addi 10 0 3) ∷
      Call 1 (record { 0 = 1 }) (record { 0 = 0 }) ∷
      Plain (Immediate Addi 17 0 3) ∷
      Plain Ecall ∷
      [];
  marks = [];
}

abbrev count : Piece
count = record {
  items =
      Plain (Immediate Addi 17 0 2) ∷
      Plain Ecall ∷
      Plain (Immediate Addi 10 10 0xfff) ∷
      Branch Bne 10 0 (record { 0 = 0 }) ∷
      Branch Beq 0 0 (record { 0 = 6 }) ∷
      Plain Ebreak ∷
      Plain (Jalr 0 1 0) ∷
      [];
  marks = [];
}

-- the words that GNU's assembler writes
abbrev words : List ℕ
words =
    0x00300513 ∷ 0x00c000ef ∷ 0x00300893 ∷ 0x00000073 ∷ 0x00200893 ∷ 0x00000073 ∷ 0xfff50513 ∷ 0xfe051ae3 ∷
    0x00000463 ∷ 0x00100073 ∷ 0x00008067 ∷ []

are_placed : (placed (main ∷ count ∷ [])).text ≡ words
are_placed = refl

labels_are : (placed (main ∷ count ∷ [])).labels
    ≡ (0x10000 ∷ 0x10004 ∷ 0x10008 ∷ 0x1000c ∷ 0x10010 ∷ [])
    ∷ (0x10010 ∷ 0x10014 ∷ 0x10018 ∷ 0x1001c ∷ 0x10020 ∷ 0x10024 ∷ 0x10028 ∷ 0x1002c ∷ []) ∷ []
labels_are = refl

abbrev image : Image
image = record { text = words; exceptions = 4 }

abbrev run : Run
run = runs image 40 (start image 0x10000 0x01000000 []) []

puts_three : run.output ≡ pos 3 ∷ pos 2 ∷ pos 1 ∷ []
unfolding runs step act writes jumps branches calls start
puts_three = refl

ends : run.outcome ≡ Ended 0
unfolding runs step act writes jumps branches calls start
ends = refl

-- 2 instructions, 4 in each of three turns, 2 to come back, and 2 to end
is_short : length run.entries ≡ 18
unfolding runs step act writes jumps branches calls start
is_short = refl
