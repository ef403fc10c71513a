-- What addresses come to, by arithmetic.
use Rattle.std.proofs.Common.{arith}
use Rattle.std.proofs.lemmas.Bool.Decides.{nat_tests}
use Rattle.placed_code.specs.Laws.{FrameWordsLie, ConstantsSplit, BranchesLand, JumpsLand}

pub frame_words_lie : FrameWordsLie
frame_words_lie fp k aligned within below some few = (grind (arith, nat_tests), omega arith, omega arith)

pub branches_land : BranchesLand
branches_land from to in_from in_to aligned_from aligned_to (back, on) = (grind (arith, nat_tests), omega arith)

pub jumps_land : JumpsLand
jumps_land from to in_from in_to aligned_from aligned_to (back, on) = (grind (arith, nat_tests), omega arith)

pub constants_split : ConstantsSplit
constants_split n from in_n in_from = grind (arith, nat_tests)
