use Rattle.std.proofs.lemmas.Result.{IfErr-weaker}
use Rattle.compiler.proofs.Checked.{sources_failed, sources_refused, passed_on}
use Rattle.compiler.proofs.Typed.{typed_answer}
use Rattle.program_objects.specs.Legal.{RefusesFor}
use Rattle.compiler.proofs.checking.legal_program.Goals as goal

pub returns-in_err-units-clause-refused : goal.returns-in_err-units-clause-refused
returns-in_err-units-clause-refused c =
    passed_on (RefusesFor c.args.files.now c.args.main.now) c.from_residual.result _ c.from_residual.ensures.1 (sources_failed c.args.files.now c.args.main.now _ c.in_err-units.ensures.refused)

pub returns-clause-refused : goal.returns-clause-refused
returns-clause-refused c =
    IfErr-weaker c.small_program-answer.result _ _
    (λ f h. sources_refused c.args.files.now c.in_ok-units.field-0.units.items c.as_slice.result.now c.args.main.now c.in_ok-units.field-0.exemptions.unpaired f c.in_ok-units.ensures.units c.as_slice.ensures.value
    c.in_ok-units.ensures.unpaired h)
    c.small_program-answer.ensures.refused

pub returns-clause-typed : goal.returns-clause-typed
returns-clause-typed c =
    typed_answer c.args.files.now c.in_ok-units.field-0.units.items c.as_slice.result.now c.args.main.now c.in_ok-units.field-0.exemptions.unpaired c.small_program-answer.result c.in_ok-units.ensures.units
    c.in_ok-units.ensures.read c.as_slice.ensures.value c.small_program-answer.ensures.legal c.small_program-answer.ensures.types
    c.in_ok-units.ensures.unpaired c.small_program-answer.ensures.paired c.in_ok-units.ensures.in_files
