-- Worked examples: `addi x10,x0,5`, `addi x17,x0,2`, `ecall` puts 5, by the laws and by computation.
use Rattle.std.proofs.Common.{◌≡◌, ℕ, ◌+◌, ◌%◌, ◌^◌, ℤ, pos, List, [], ◌∷◌, ◌++◌, None, refl, ap, arith, lit<, lit≤}
use Rattle.rv_isa.specs.declared.ops.ImmediateOp.TheVariants.{Addi}
use Rattle.rv_isa.specs.declared.instr.Instr.{Instr}
use Rattle.rv_isa.specs.declared.instr.Instr.TheVariants.{Immediate, Ecall}
use Rattle.rv_semantics.specs.Arithmetic.{signed}
use Rattle.rv_semantics.specs.State.{Image, State}
use Rattle.rv_semantics.specs.Step.{seen}
use Rattle.placed_code.specs.Code.{HasAt}
use Rattle.placed_code.specs.Reach.{branch_halves, jump_halves}
use Rattle.placed_code.specs.Stretch.{Leads}
use Rattle.placed_code.specs.Straight.{after_all, entries_of}
use Rattle.placed_code.proofs.CodeLaws.{text_stands}
use Rattle.placed_code.proofs.StretchLaws.{leads_on}
use Rattle.placed_code.proofs.Straights.{straight_goes}
use Rattle.placed_code.proofs.Calls.{put_goes}

abbrev sums : List Instr
sums = Immediate Addi 10 0 5 ∷ Immediate Addi 17 0 2 ∷ []

abbrev puts_five : Image
puts_five = record { text = 0x00500513 ∷ 0x00200893 ∷ 0x00000073 ∷ []; exceptions = 4 }

five_stands : HasAt puts_five 0x10000 (sums ++ Ecall ∷ [])
five_stands =
    text_stands puts_five [] (sums ++ Ecall ∷ []) [] refl
    ((lit< tt, lit< tt, lit< tt), ((lit< tt, lit< tt, lit< tt), (tt, tt))) (omega arith)

-- a state with 0 in x0
five_is_put : (reg mem : ℕ → ℕ) (input : List ℤ) → reg 0 ≡ 0 →
    let s : State = record { pc = 0x10000; reg = reg; mem = mem } in
    let s' = after_all s sums in
    Leads puts_five s input (entries_of s sums ++ seen s' None ∷ []) (pos 5 ∷ []) (record s' { pc = 0x1000c }) input
five_is_put reg mem input zeroth =
    let s : State = record { pc = 0x10000; reg = reg; mem = mem } in
    let s' = after_all s sums in
    let five : s'.reg 10 ≡ 5 = ap (λ x. (x + 5) % 2 ^ 32) zeroth in
    let two : s'.reg 17 ≡ 2 = ap (λ x. (x + 2) % 2 ^ 32) zeroth in
    leads_on puts_five s s' _ input input input (entries_of s sums) (seen s' None ∷ []) [] (pos 5 ∷ [])
    (straight_goes puts_five s input sums (five_stands.0, (five_stands.1.0, lit≤ tt)) (tt, (tt, tt)))
    (put_goes puts_five s' input (pos 5) 0x1000c five_stands.1.1.0 two (ap signed five) refl)

-- the half-words of `jal x1, 2048`, `beq x0, x0, 8` and of branches and jumps back
halves_on : branch_halves 0x10000 0x10008 ≡ 4
halves_on = refl

halves_back : branch_halves 0x10008 0x10000 ≡ 0xffc
halves_back = refl

jump_on : jump_halves 0x10000 0x10800 ≡ 0x400
jump_on = refl

jump_back : jump_halves 0x10800 0x10000 ≡ 0xffc00
jump_back = refl
