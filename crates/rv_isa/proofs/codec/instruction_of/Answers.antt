use Rattle.std.proofs.Common.{rules}
use Rattle.rv_isa.proofs.codec.instruction_of.Goals as goal

pub returns-in_err-of-in-99 : goal.returns-in_err-of-in-99
returns-in_err-of-in-99 c = search rules

pub returns-in_err-of-in-3 : goal.returns-in_err-of-in-3
returns-in_err-of-in-3 c = search rules

pub returns-in_err-of-in-35 : goal.returns-in_err-of-in-35
returns-in_err-of-in-35 c = search rules

pub returns-in_err-op-in-19 : goal.returns-in_err-op-in-19
returns-in_err-op-in-19 c = search rules

pub returns-in_err-of-in-19-2 : goal.returns-in_err-of-in-19-2
returns-in_err-of-in-19-2 c = search rules

pub returns-in_err-op-in-51 : goal.returns-in_err-op-in-51
returns-in_err-op-in-51 c = search rules

pub returns-in_default-3 : goal.returns-in_default-3
returns-in_default-3 c = search rules
