use Rattle.std.proofs.Common.{◌+◌, ◌++◌, [], ◌∷◌, map}
use Rattle.std.proofs.lemmas.Result.{on_ok_weaker}
use Rattle.rv_isa.specs.declared.ops.BranchOp.TheVariants.{Bltu}
use Rattle.kernel_code.specs.Line.{plain, jump, checks}
use Rattle.kernel_code.specs.SimpleCode.{branch, measure}
use Rattle.kernel_code.proofs.Lines.{behind_load}
use Rattle.kernel_code.proofs.emitter.Emitter.check_words.Goals as goal

pub returns : goal.returns
returns c =
    on_ok_weaker c.check_area.result
    (behind_load _ _ _ c.a0.result 10 c.args.address
    (map plain (measure c.args.words) ++ (branch checks Bltu 11 13 (c.args.place + 10) ∷ jump c.args.raise_to ∷ [])) c.a0.ensures
    c.in_ok-load_slot.ensures)
    c.check_area.ensures
