-- A loop that counts a register down, by induction on the count.
use Rattle.std.proofs.Common.{◌≡◌, ◌≢◌, ℕ, zero, suc, ◌+◌, ◌-◌, ◌%◌, ◌^◌, ◌<◌, true, false, ℤ, List, [], ◌∷◌, Some, None, refl, sym, ◌∙◌, arith}
use Rattle.std.proofs.lemmas.Bool.Decides.{nat_tests}
use Rattle.rv_isa.specs.declared.ops.ImmediateOp.TheVariants.{Addi}
use Rattle.rv_isa.specs.declared.ops.BranchOp.TheVariants.{Bne}
use Rattle.rv_isa.specs.declared.instr.Instr.TheVariants.{Immediate, Branch}
use Rattle.rv_isa.specs.Immediates.{branch_offset}
use Rattle.rv_semantics.specs.Arithmetic.{sum_32, is_taken}
use Rattle.rv_semantics.specs.State.{Image, State, with_reg}
use Rattle.rv_semantics.specs.Step.{seen}
use Rattle.placed_code.specs.Code.{StandsAt}
use Rattle.placed_code.specs.Stretch.{Leads}
use Rattle.placed_code.specs.Instructions.{written, LoopCounts}
use Rattle.placed_code.proofs.StretchLaws.{leads_on}
use Rattle.placed_code.proofs.Steps.{immediate_goes, branch_goes, branch_goes_on}

-- a register that was written, and the others
pub written_reads : (reg : ℕ → ℕ) (r v : ℕ) → r ≢ 0 → with_reg reg r v r ≡ v
written_reads reg r v some = grind (arith, nat_tests)

pub others_stay : (reg : ℕ → ℕ) (r v q : ℕ) → q ≢ r → with_reg reg r v q ≡ reg q
others_stay reg r v q other = grind (arith, nat_tests)

-- the state after the sum and the branch back
abbrev turned : State → (r n : ℕ) → State
turned s r n = written s r n s.pc

module _ (image : Image) (input : List ℤ) (r : ℕ) (some : r ≢ 0) where
  -- one less in the register
  sum_goes : (n : ℕ) (s : State) → StandsAt image s.pc (Immediate Addi r r 0xfff) → s.reg r ≡ n + 1 → n + 1 < 2 ^ 32 → Leads image s input (seen s None ∷ []) [] (written s r n (s.pc + 4)) input
  sum_goes n s stands count few =
      immediate_goes image s input Addi r r 0xfff (n + 1) n (s.pc + 4) stands count (let less : (n + 1 + (2 ^ 32 - 1)) % 2 ^ 32 ≡ n = omega arith in less) refl

  turn_goes : (n : ℕ) (s : State) → StandsAt image s.pc (Immediate Addi r r 0xfff) → StandsAt image (s.pc + 4) (Branch Bne r 0 0xffe) → s.pc % 4 ≡ 0 → s.reg 0 ≡ 0 → s.reg r ≡ n + 1 → n + 1 < 2 ^ 32 → 0 < n → Leads image s input (seen s None ∷ seen (written s r n (s.pc + 4)) (Some true) ∷ []) [] (turned s r n) input
  turn_goes n s sum branch aligned zeroth count few more =
      let s1 = written s r n (s.pc + 4) in
      let zero_stays : s1.reg 0 ≡ 0 = others_stay s.reg r n 0 (λ e. some (sym e)) ∙ zeroth in
      let taken : is_taken Bne n 0 ≡ true = grind (arith, nat_tests) in
      let back : sum_32 (s.pc + 4) (branch_offset 0xffe) ≡ s.pc = (let within = sum.within in omega arith) in
      leads_on image s s1 (turned s r n) input input input (seen s None ∷ []) (seen s1 (Some true) ∷ []) [] []
      (sum_goes n s sum count few)
      (branch_goes image s1 input Bne r 0 0xffe n 0 s.pc branch (written_reads s.reg r n some) zero_stays taken back aligned)

  last_goes : (s : State) → StandsAt image s.pc (Immediate Addi r r 0xfff) → StandsAt image (s.pc + 4) (Branch Bne r 0 0xffe) → s.reg 0 ≡ 0 → s.reg r ≡ 0 + 1 → Leads image s input (seen s None ∷ seen (written s r 0 (s.pc + 4)) (Some false) ∷ []) [] (written s r 0 (s.pc + 8)) input
  last_goes s sum branch zeroth count =
      let s1 = written s r 0 (s.pc + 4) in
      let zero_stays : s1.reg 0 ≡ 0 = others_stay s.reg r 0 0 (λ e. some (sym e)) ∙ zeroth in
      let behind : s.pc + 4 + 4 ≡ s.pc + 8 = omega arith in
      leads_on image s s1 (written s r 0 (s.pc + 8)) input input input (seen s None ∷ []) (seen s1 (Some false) ∷ []) [] []
      (sum_goes 0 s sum count (omega arith))
      (branch_goes_on image s1 input Bne r 0 0xffe 0 0 (s.pc + 8) branch (written_reads s.reg r 0 some) zero_stays refl behind)

pub loop_counts : LoopCounts
loop_counts image input r zero s sum branch some aligned zeroth count few = record {
  end = written s r 0 (s.pc + 8);
  entries = seen s None ∷ seen (written s r 0 (s.pc + 4)) (Some false) ∷ [];
  leads = last_goes image input r some s sum branch zeroth count;
  count = refl;
  pc = refl;
  zeroed = written_reads s.reg r 0 some;
  others = λ q other. others_stay s.reg r 0 q other;
  mem = refl;
}
loop_counts image input r (suc n) s sum branch some aligned zeroth count few =
    let s' = turned s r (suc n) in
    let zero_stays : s'.reg 0 ≡ 0 = others_stay s.reg r (suc n) 0 (λ e. some (sym e)) ∙ zeroth in
    let counted : s'.reg r ≡ n + 1 = written_reads s.reg r (suc n) some ∙ (omega arith) in
    let rest = loop_counts image input r n s' sum branch some aligned zero_stays counted (omega arith) in
    record {
      end = rest.end;
      entries = seen s None ∷ seen (written s r (suc n) (s.pc + 4)) (Some true) ∷ rest.entries;
      leads =
          leads_on image s s' rest.end input input input (seen s None ∷ seen (written s r (suc n) (s.pc + 4)) (Some true) ∷ []) rest.entries [] []
          (turn_goes image input r some (suc n) s sum branch aligned zeroth count few (omega arith)) rest.leads;
      count = (let c = rest.count in omega arith);
      pc = rest.pc;
      zeroed = rest.zeroed;
      others = λ q other. rest.others q other ∙ others_stay s.reg r (suc n) q other;
      mem = rest.mem;
    }
