-- Single lines: branches, jumps and calls; and straight code with a check in it.
use Rattle.std.proofs.Common.{◌≡◌, ℕ, ◌+◌, Bool, true, false, List, [], ◌∷◌, ◌++◌, map, length, Option, Some, None, refl, sym, ap, subst, ◌∙◌, arith}
use Rattle.std.proofs.lemmas.List.{append-nil, length-map}
use Rattle.rv_isa.specs.declared.ops.BranchOp.{BranchOp}
use Rattle.rv_isa.specs.declared.instr.Instr.{Instr}
use Rattle.rv_semantics.specs.declared.stepped.Seen.{Seen}
use Rattle.rv_semantics.specs.Arithmetic.{is_taken}
use Rattle.rv_semantics.specs.State.{Image, State}
use Rattle.rv_semantics.specs.Step.{seen}
use Rattle.rv_semantics.specs.Past.{Config}
use Rattle.placed_code.specs.Stretch.{config}
use Rattle.placed_code.specs.Straight.{AreStraight}
use Rattle.placed_code.proofs.Steps.{branch_goes, branch_goes_on, jump_goes}
use Rattle.kernel_code.specs.Line.{Line, Site, Said, plain, jump, checks, LineStands, HasLines, BranchStands, JumpStands, row_said, condition_said}
use Rattle.kernel_code.specs.Goes.{Reaches, Silent, gone}
use Rattle.kernel_code.specs.SimpleCode.{branch, checked}
use Rattle.kernel_code.proofs.Goes.{reaches_on, reaches_as, reaches_by, silent_one, silent_on, no_condition, no_visit, straight_lines_go, has_front, has_back}

-- the machine elsewhere, after an instruction that only goes there
abbrev pub moved : Config → (edge : Option Bool) → (pc : ℕ) → Config
moved c edge pc = config (record { pc = pc; reg = c.state.reg; mem = c.state.mem }) c.input c.output (seen c.state edge ∷ c.past)

put_nothing : (image : Image) (n : ℕ) (c : Config) (s : State) (past : List Seen) → Reaches image n c (config s c.input (c.output ++ []) past) → Reaches image n c (config s c.input c.output past)
put_nothing image n c s past reaches = subst (λ put. Reaches image n c (config s c.input put past)) (append-nil c.output) reaches

pub branch_taken : (site : Site) (own p : ℕ) (said : Said) (op : BranchOp) (rs1 rs2 to : ℕ) (c : Config)
    → LineStands site own p (branch said op rs1 rs2 to) → c.state.pc ≡ site.address own p → is_taken op (c.state.reg rs1) (c.state.reg rs2) ≡ true
    → Reaches site.image 1 c (moved c (Some true) (site.address own to))
branch_taken site own p said op rs1 rs2 to c stands at taken =
    let there : BranchStands site.image c.state.pc op rs1 rs2 (site.address own to) = subst (λ a. BranchStands site.image a op rs1 rs2 (site.address own to)) (sym at) stands.item in
    put_nothing site.image 1 c (record { pc = site.address own to; reg = c.state.reg; mem = c.state.mem }) (seen c.state (Some true) ∷ c.past)
    (reaches_by site.image c.state c.input (seen c.state (Some true) ∷ []) [] (record { pc = site.address own to; reg = c.state.reg; mem = c.state.mem }) c.input c.output c.past
    (branch_goes site.image c.state c.input op rs1 rs2 there.halves (c.state.reg rs1) (c.state.reg rs2) (site.address own to) there.stands refl refl taken there.lands there.aligned))

pub branch_passed : (site : Site) (own p : ℕ) (said : Said) (op : BranchOp) (rs1 rs2 to : ℕ) (c : Config)
    → LineStands site own p (branch said op rs1 rs2 to) → c.state.pc ≡ site.address own p → is_taken op (c.state.reg rs1) (c.state.reg rs2) ≡ false
    → Reaches site.image 1 c (moved c (Some false) (site.address own (p + 1)))
branch_passed site own p said op rs1 rs2 to c stands at passed =
    let there : BranchStands site.image c.state.pc op rs1 rs2 (site.address own to) = subst (λ a. BranchStands site.image a op rs1 rs2 (site.address own to)) (sym at) stands.item in
    put_nothing site.image 1 c (record { pc = site.address own (p + 1); reg = c.state.reg; mem = c.state.mem }) (seen c.state (Some false) ∷ c.past)
    (reaches_by site.image c.state c.input (seen c.state (Some false) ∷ []) [] (record { pc = site.address own (p + 1); reg = c.state.reg; mem = c.state.mem }) c.input c.output c.past
    (branch_goes_on site.image c.state c.input op rs1 rs2 there.halves (c.state.reg rs1) (c.state.reg rs2) (site.address own (p + 1)) there.stands refl refl passed (ap (λ a. a + 4) at ∙ sym stands.next)))

pub jumps_to : (site : Site) (own p to : ℕ) (c : Config)
    → LineStands site own p (jump to) → c.state.pc ≡ site.address own p
    → Reaches site.image 1 c (moved c None (site.address own to))
jumps_to site own p to c stands at =
    let there : JumpStands site.image c.state.pc 0 (site.address own to) = subst (λ a. JumpStands site.image a 0 (site.address own to)) (sym at) stands.item in
    put_nothing site.image 1 c (record { pc = site.address own to; reg = c.state.reg; mem = c.state.mem }) (seen c.state None ∷ c.past)
    (reaches_by site.image c.state c.input (seen c.state None ∷ []) [] (record { pc = site.address own to; reg = c.state.reg; mem = c.state.mem }) c.input c.output c.past
    (jump_goes site.image c.state c.input 0 there.halves (site.address own to) (c.state.pc + 4) there.stands there.lands there.aligned refl))

-- a line of which neither a row nor a condition is said tells nothing
pub line_silent : (site : Site) (own p : ℕ) (line : Line) (c : Config) (edge : Option Bool) (pc : ℕ)
    → LineStands site own p line → c.state.pc ≡ site.address own p → row_said line.said ≡ None → condition_said line.said ≡ None
    → Silent site.facts c.past (moved c edge pc).past
line_silent site own p line c edge pc stands at no_row none =
    silent_one site.facts (seen c.state edge) c.past
    (subst (λ a. site.facts.row a ≡ None) (sym at) (stands.row ∙ no_row))
    (no_condition site.facts (seen c.state edge) (subst (λ a. site.facts.condition a ≡ None) (sym at) (stands.condition ∙ none)))

-- where straight code with a check goes on: behind its branch
abbrev pub passed : Site → (own place : ℕ) → Config → List Instr → Config
passed site own p c front = moved (gone c front) (Some true) (site.address own (p + (length front + 2)))

-- and where it fails: the branch was not taken, and the jump leads to where exceptions do
abbrev pub failed : Site → (own place raise_to : ℕ) → Config → List Instr → Config
failed site own p r c front = moved (moved (gone c front) (Some false) (site.address own (p + (length front + 1)))) None (site.address own r)

pub record Passed (site : Site) (own p : ℕ) (c : Config) (front back : List Instr) : Type 0 where
  pub reaches : Reaches site.image (length front + length back + 1) c (gone (passed site own p c front) back)
  pub there : (gone (passed site own p c front) back).state.pc ≡ site.address own (p + (length front + 2 + length back))
  pub silent : Silent site.facts c.past (gone (passed site own p c front) back).past

pub record Failed (site : Site) (own p r : ℕ) (c : Config) (front : List Instr) : Type 0 where
  pub reaches : Reaches site.image (length front + 2) c (failed site own p r c front)
  pub silent : Silent site.facts c.past (failed site own p r c front).past

plain_length : (is : List Instr) → length (map plain is) ≡ length is
plain_length is = length-map is plain

pub check_stands : (site : Site) (own p r : ℕ) (front : List Instr) (op : BranchOp) (rs1 rs2 : ℕ) (rest : List Line)
    → HasLines site own p (map plain front ++ (branch checks op rs1 rs2 (p + (length front + 2)) ∷ (jump r ∷ rest)))
    → LineStands site own (p + length front) (branch checks op rs1 rs2 (p + (length front + 2))) × LineStands site own (p + (length front + 1)) (jump r)
    × HasLines site own (p + (length front + 2)) rest
check_stands site own p r front op rs1 rs2 back has =
    let rest = has_back site own p (p + length front) (map plain front) _ (ap (λ n. p + n) (plain_length front)) has in
    (rest.0, subst (λ m. LineStands site own m (jump r)) (let e : p + length front + 1 ≡ p + (length front + 1) = omega arith in e) rest.1.0, Rattle.kernel_code.proofs.Goes.has_at site own (p + length front + 1 + 1) (p + (length front + 2)) back (omega arith) rest.1.1)

pub check_passes : (site : Site) (own p r : ℕ) (front : List Instr) (op : BranchOp) (rs1 rs2 : ℕ) (back : List Instr) (c : Config)
    → HasLines site own p (checked r p front op rs1 rs2 back) → c.state.pc ≡ site.address own p → AreStraight site.image c.state front
    → is_taken op ((gone c front).state.reg rs1) ((gone c front).state.reg rs2) ≡ true
    → AreStraight site.image (passed site own p c front).state back → Passed site own p c front back
check_passes site own p r front op rs1 rs2 back c has at straight taken straight_back =
    let stands = check_stands site own p r front op rs1 rs2 (map plain back) has in
    let first = straight_lines_go site own p c front (has_front site own p (map plain front) _ has) at straight in
    let turn = branch_taken site own (p + length front) checks op rs1 rs2 (p + (length front + 2)) (gone c front) stands.0 first.arrives taken in
    let last = straight_lines_go site own (p + (length front + 2)) (passed site own p c front) back stands.2 refl straight_back in
    record {
      reaches = reaches_as site.image (length front + (1 + length back)) (length front + length back + 1) c (gone (passed site own p c front) back) (omega arith)
          (reaches_on site.image (length front) (1 + length back) c (gone c front) (gone (passed site own p c front) back) first.reaches
          (reaches_on site.image 1 (length back) (gone c front) (passed site own p c front) (gone (passed site own p c front) back) turn last.reaches));
      there = last.arrives ∙ ap (λ m. site.address own m) (let e : p + (length front + 2) + length back ≡ p + (length front + 2 + length back) = omega arith in e);
      silent = silent_on site.facts c.past (gone c front).past (gone (passed site own p c front) back).past first.silent
          (silent_on site.facts (gone c front).past (passed site own p c front).past (gone (passed site own p c front) back).past
          (line_silent site own (p + length front) (branch checks op rs1 rs2 (p + (length front + 2))) (gone c front) (Some true) (site.address own (p + (length front + 2))) stands.0 first.arrives refl refl)
          last.silent);
    }

pub check_fails : (site : Site) (own p r : ℕ) (front : List Instr) (op : BranchOp) (rs1 rs2 : ℕ) (rest : List Line) (c : Config)
    → HasLines site own p (map plain front ++ (branch checks op rs1 rs2 (p + (length front + 2)) ∷ (jump r ∷ rest))) → c.state.pc ≡ site.address own p → AreStraight site.image c.state front
    → is_taken op ((gone c front).state.reg rs1) ((gone c front).state.reg rs2) ≡ false → Failed site own p r c front
check_fails site own p r front op rs1 rs2 back c has at straight fails =
    let stands = check_stands site own p r front op rs1 rs2 back has in
    let first = straight_lines_go site own p c front (has_front site own p (map plain front) _ has) at straight in
    let c1 : Config = moved (gone c front) (Some false) (site.address own (p + (length front + 1))) in
    let turn : Reaches site.image 1 (gone c front) c1 = subst (λ m. Reaches site.image 1 (gone c front) (moved (gone c front) (Some false) (site.address own m))) (let e : p + length front + 1 ≡ p + (length front + 1) = omega arith in e)
    (branch_passed site own (p + length front) checks op rs1 rs2 (p + (length front + 2)) (gone c front) stands.0 first.arrives fails) in
    let last = jumps_to site own (p + (length front + 1)) r c1 stands.1 refl in
    record {
      reaches = reaches_on site.image (length front) 2 c (gone c front) (failed site own p r c front) first.reaches
          (reaches_on site.image 1 1 (gone c front) c1 (failed site own p r c front) turn last);
      silent = silent_on site.facts c.past (gone c front).past (failed site own p r c front).past first.silent
          (silent_on site.facts (gone c front).past c1.past (failed site own p r c front).past
          (line_silent site own (p + length front) (branch checks op rs1 rs2 (p + (length front + 2))) (gone c front) (Some false) (site.address own (p + (length front + 1))) stands.0 first.arrives refl refl)
          (line_silent site own (p + (length front + 1)) (jump r) c1 None (site.address own r) stands.1 refl refl refl));
    }
