use Rattle.ada_tree.specs.Programs.{program_of}
use Rattle.generic_expand.specs.Expanded.{copies_of}
use Rattle.statement_code.proofs.Laid.{whole_law}
use Rattle.lower.specs.Kernel.{kernel_for}
use Rattle.lower.specs.Schemes.{scheme_for}
use Rattle.lower.proofs.LaidKernel.{kernel_law}
use Rattle.lower.proofs.LaidSizes.{covered_law}
use Rattle.lower.proofs.laws.kernels_are_laid.Goals as goal

pub returns : goal.returns
returns c = record {
  laid = λ p well named limits words. kernel_law p well named limits words;
  whole = λ p well named limits words.
      whole_law (program_of p) (kernel_for p (copies_of (program_of p))) (scheme_for p (copies_of (program_of p))) well (kernel_law p well named limits words);
  covered = covered_law;
}
