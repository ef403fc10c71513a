use Rattle.kernel_ir.proofs.Joining.{joined_fits, joined_lacks, joined_rows, joined_conditions, joined_instructions, joined_assoc}
use Rattle.kernel_ir.proofs.laws.joined_code_holds_both.Goals as goal

pub returns : goal.returns
returns c = record {
  fits = joined_fits;
  lacks = joined_lacks;
  rows = joined_rows;
  conditions = joined_conditions;
  instructions = joined_instructions;
  associative = joined_assoc;
}
