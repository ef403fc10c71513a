use Rattle.std.proofs.Common.{[], ◌∷◌, map}
use Rattle.std.proofs.lemmas.Result.{on_ok_weaker}
use Rattle.rv_isa.specs.declared.ops.ImmediateOp.TheVariants.{Addi}
use Rattle.rv_isa.specs.declared.ops.RegisterOp.TheVariants as registers
use Rattle.rv_isa.specs.declared.instr.Instr.TheVariants.{Immediate, Register}
use Rattle.kernel_code.specs.Line.{plain}
use Rattle.kernel_code.specs.Words.{store_slot}
use Rattle.kernel_code.proofs.Lines.{behind_load}
use Rattle.kernel_code.proofs.emitter.Emitter.complement.Goals as goal

pub returns : goal.returns
returns c =
    on_ok_weaker c.invert.result
    (behind_load _ _ _ c.a0.result 10 c.args.from
    (map plain (Immediate Addi 10 10 0xfff ∷ Register registers.Sltu 10 0 10 ∷ store_slot 10 c.args.to [])) c.a0.ensures
    c.in_ok-load_slot.ensures)
    c.invert.ensures
