-- Straight code with a check: it sets a slot, or raises a number.
use Rattle.std.proofs.Common.{◌≡◌, ℕ, ◌+◌, ◌*◌, ◌/◌, ◌^◌, ◌≤◌, ◌<◌, Bool, true, false, cond, ℤ, List, map, length, refl, arith}
use Rattle.cov_base.specs.declared.position.DecId.{DecId}
use Rattle.rv_isa.specs.declared.ops.BranchOp.{BranchOp}
use Rattle.rv_isa.specs.declared.instr.Instr.{Instr}
use Rattle.rv_semantics.specs.Arithmetic.{signed, is_taken}
use Rattle.rv_semantics.specs.State.{at}
use Rattle.rv_semantics.specs.Past.{Config}
use Rattle.placed_code.specs.Straight.{AreStraight}
use Rattle.kernel_ir.specs.World.{World, Ends, Raises, slot_word, with_slot, paid, area_end}
use Rattle.kernel_code.specs.Line.{Site, plain, HasLines}
use Rattle.kernel_code.specs.Goes.{Silent, gone}
use Rattle.kernel_code.specs.SimpleCode.{Targets, checked}
use Rattle.kernel_code.specs.Does.{pace, IsFair, HasRoom, Like, Quiet, Does}
use Rattle.kernel_code.proofs.Steps.{passed, check_passes}
use Rattle.kernel_code.proofs.Slots.{far, SlotAt, slot_at, like_set, quiet_set, like_kept, quiet_kept}
use Rattle.kernel_code.proofs.CallLines.{fails_does}

-- registers that code keeps
abbrev pub KeepsRegisters : (c d : Config) → Type 0
KeepsRegisters c d = (d.state.reg 0 ≡ c.state.reg 0) × (d.state.reg 2 ≡ c.state.reg 2) × (d.state.reg 8 ≡ c.state.reg 8)

module _ (site : Site) (exceptions own fp left bound : ℕ) (fair : IsFair site exceptions) (room : HasRoom fp bound) (predefined : 4 ≤ exceptions) (Out : DecId → Type 0) (fuel : ℕ) (t : Targets) (p : ℕ) where
  module _ (front : List Instr) (op : BranchOp) (rs1 rs2 : ℕ) (back : List Instr) (e : ℕ) (some : 0 < e) (known : e ≤ 4) (w : World) (c : Config) where
    abbrev pub behind_check : Config
    behind_check = gone (passed site own p c front) back

    -- what straight code behind the check comes to
    pub record Good (u : World) : Type 0 where
      pub straight : AreStraight site.image (passed site own p c front).state back
      pub like : Silent site.facts c.past behind_check.past → Like site fp left u behind_check
      pub quiet : Silent site.facts c.past behind_check.past → Quiet site.facts fp left Out c behind_check
      pub cost : u.seen.cost ≡ w.seen.cost + 1

    pub checked_does : (valid : Bool) (u : World) → HasLines site own p (checked t.raise_to p front op rs1 rs2 back) → Like site fp left w c → c.state.pc ≡ site.address own p
        → AreStraight site.image c.state front → KeepsRegisters c (gone c front) → (gone c front).state.mem ≡ c.state.mem → (gone c front).state.reg 12 ≡ e
        → is_taken op ((gone c front).state.reg rs1) ((gone c front).state.reg rs2) ≡ valid → length front + length back + 2 ≤ pace
        → (valid ≡ true → Good u) → Does site exceptions own fp left fuel Out 0 w c t (p + (length front + 2 + length back)) (cond valid (Ends u) (Raises e (paid 1 w)))
    checked_does true u has like there straight regs mem number test short good =
        let well = good refl in
        let pass = check_passes site own p t.raise_to front op rs1 rs2 back c has there straight test well.straight in
        let cost = well.cost in
        record {
          end = behind_check;
          steps = length front + length back + 1;
          reaches = pass.reaches;
          there = pass.there;
          like = well.like pass.silent;
          quiet = well.quiet pass.silent;
          spent = (let x : length front + length back + 1 + 0 + 32 * w.seen.cost ≤ 32 * u.seen.cost = omega arith in x);
          also = tt;
        }
    checked_does false u has like there straight regs mem number test short good =
        fails_does site exceptions own fp left Out p t.raise_to e front op rs1 rs2 (map plain back) w c has like there straight regs mem test number some (omega arith) (omega arith)

    -- a slot is set
    pub good_slot : (k v : ℕ) (x : ℤ) → k < bound → Like site fp left w c → AreStraight site.image (passed site own p c front).state back → KeepsRegisters c behind_check
        → behind_check.state.mem ≡ at c.state.mem (far (c.state.reg 8) k / 4) v → signed v ≡ x → v < 2 ^ 32 → Good (with_slot fp k x (paid 1 w))
    good_slot k v x in_k like straight regs mem value small =
        let slot : SlotAt site fp w c k = slot_at site exceptions fp left bound w c k fair room like in_k in
        let below = room.below in
        let above = room.above in
        let inside : far (c.state.reg 8) k / 4 < area_end = omega (arith, slot.word) in
        record {
          straight = straight;
          like = λ silent. like_set site fp left 1 w c behind_check (slot_word fp k) (far (c.state.reg 8) k / 4) v x like
              (record { zeroth = regs.0; stack = regs.1; frame = regs.2; input = refl; output = refl; silent = silent }) mem slot.word value small;
          quiet = λ silent. quiet_set site fp left Out c behind_check (far (c.state.reg 8) k / 4) v silent mem inside;
          cost = refl;
        }

    -- nothing is set
    pub good_nothing : Like site fp left w c → AreStraight site.image (passed site own p c front).state back → KeepsRegisters c behind_check → behind_check.state.mem ≡ c.state.mem → Good (paid 1 w)
    good_nothing like straight regs mem = record {
      straight = straight;
      like = λ silent. like_kept site fp left 1 w c behind_check like (record { zeroth = regs.0; stack = regs.1; frame = regs.2; input = refl; output = refl; silent = silent }) mem;
      quiet = λ silent. quiet_kept site fp left Out c behind_check silent mem;
      cost = refl;
    }
