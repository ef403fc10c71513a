use Rattle.std.specs.Str.{str_to_ascii_lowercase}
use Rattle.compiler.proofs.Checked.{program_law, units_past_limit}
use Rattle.compiler.proofs.checking.small_program.Goals as goal

pub returns-in-Ok-clause-legal : goal.returns-in-Ok-clause-legal
returns-in-Ok-clause-legal c =
    program_law c.args.units.now (str_to_ascii_lowercase c.args.main.now) c.in_ok-program.program c.in_ok-program.ensures.legal c.in_ok-program.ensures.entries c.in-Ok.ensures.few

pub returns-in-Err-clause-refused : goal.returns-in-Err-clause-refused
returns-in-Err-clause-refused c =
    units_past_limit c.args.units.now (str_to_ascii_lowercase c.args.main.now) c.args.exemptions.unpaired c.in_ok-program.program c.in_ok-program.ensures.legal c.in_ok-program.ensures.entries
    c.in_ok-program.ensures.paired c.in-Err.failure c.in-Err.ensures.refused
