use Rattle.std.specs.Str.{str_to_ascii_lowercase}
use Rattle.ada_tree.specs.Programs.{program_of}
use Rattle.compiler.proofs.Checked.{illegal_units, unpaired_units}
use Rattle.compiler.proofs.checking.checked_program.Goals as goal

pub returns-in-Some-clause-refused : goal.returns-in-Some-clause-refused
returns-in-Some-clause-refused c =
    rw c.fault_at.ensures
    (unpaired_units c.args.units.now (str_to_ascii_lowercase c.args.main.now) c.args.unpaired (program_of c.in-Ok.program) c.in-Some.pos c.in-Ok.ensures.legal c.in-Some.is)

pub returns-in-Err-clause-refused : goal.returns-in-Err-clause-refused
returns-in-Err-clause-refused c =
    rw c.illegal.ensures
    (illegal_units c.args.units.now (str_to_ascii_lowercase c.args.main.now) c.args.unpaired c.a_refusal_is_of_a_broken_rule.ensures c.in-Err.failure c.in-Err.ensures.refused)
