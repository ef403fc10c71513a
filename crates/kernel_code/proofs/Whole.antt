-- The machine follows the kernel.
use Rattle.std.proofs.Common.{ℕ, suc, ◌+◌, ◌≤◌, refl, arith}
use Rattle.cov_base.specs.declared.position.DecId.{DecId}
use Rattle.kernel_ir.specs.declared.kernel.Kernel.{Kernel}
use Rattle.kernel_ir.specs.declared.simple.Simple.{Simple}
use Rattle.kernel_ir.specs.Limits.{most_arguments, widest, IsWellFormed, IsWithin}
use Rattle.kernel_code.specs.Line.{Site}
use Rattle.kernel_code.specs.SimpleCode.{Targets}
use Rattle.kernel_code.specs.Does.{HasRoom}
use Rattle.kernel_code.specs.Calls.{IsDeep, setting, Holds}
use Rattle.kernel_code.specs.Parts.{SimpleDoes}
use Rattle.kernel_code.specs.Whole.{CodeFollows}
use Rattle.kernel_code.proofs.Simples.{simple_does}
use Rattle.kernel_code.proofs.Layouts.{fill_does}
use Rattle.kernel_code.proofs.Top.{calls_do}
use Rattle.kernel_code.proofs.Starts.{code_follows}

module _ (site : Site) (k : Kernel) (holds : Holds site k) (formed : IsWellFormed site.facts.graph k) (within : IsWithin k) where
  room : (fp left width : ℕ) → IsDeep fp left → width + most_arguments ≤ widest → HasRoom fp (width + most_arguments)
  room fp left width deep narrow = let above = deep.above in let below = deep.below in record { above = omega arith; below = below }

  each_does : (own fp left width n : ℕ) → IsDeep fp left → width + most_arguments ≤ widest → (Out : DecId → Type 0) (t : Targets) (p : ℕ) (s : Simple)
      → SimpleDoes site k own fp left (width + most_arguments) (suc n) Out (setting k width) t p s
  each_does own fp left width n deep narrow Out t p s =
      let enough = room fp left width deep narrow in
      let few = deep.few in
      simple_does site k own fp left (width + most_arguments) n holds.fair enough formed.predefined formed.exceptions within.library Out (setting k width) refl t p
      (fill_does site k holds formed within own fp left (width + most_arguments) n enough Out (setting k width) refl refl (omega arith) t p) s

pub code_follows_law : CodeFollows
code_follows_law site k holds formed within input numbers fuel = code_follows site k holds formed within input numbers fuel (calls_do site k holds formed within (each_does site k holds formed within) fuel)
