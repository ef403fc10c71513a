use Rattle.std.proofs.Common.{sym, ◌∙◌}
use Rattle.rv32_emulator.proofs.Numbers.{number_parsed, number_no_text, not_plus}
use Rattle.rv32_emulator.proofs.input_file.number_of.Goals as goal

pub returns-in-Ok : goal.returns-in-Ok
returns-in-Ok c =
    let value = rw c.in-Ok.ensures.cases.0 at c.parse.ensures.value.0 in
    c.ok.ensures.value ∙ number_parsed c.args.line.now c.parse.result value (not_plus c.args.line.now (sym c.if-starts_with.ensures.value))

pub returns-in-Err : goal.returns-in-Err
returns-in-Err c = sym (number_no_text c.args.line.now c.in-Err.ensures.cases.0)
