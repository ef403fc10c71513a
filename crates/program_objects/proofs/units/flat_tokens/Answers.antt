use Rattle.std.proofs.Common.{◌∙◌, sym}
use Rattle.program_objects.specs.Units.{too_large, without_tokens, too_deep}
use Rattle.program_objects.proofs.units.flat_tokens.Goals as goal

pub returns-in-Some-clause-refused : goal.returns-in-Some-clause-refused
returns-in-Some-clause-refused c = rw c.fault_in.ensures (too_large (sym c.first_too_large.ensures ∙ c.in-Some.is))

pub returns-in-Err-Fault-clause-refused : goal.returns-in-Err-Fault-clause-refused
returns-in-Err-Fault-clause-refused c =
    rw c.fault_at.ensures (without_tokens (sym c.first_too_large.ensures ∙ c.in_default.is) (rw c.in-Err-Fault.field-0-is at c.in-Err-Fault.ensures.fault))

pub returns-in-Some-first_nested-clause-refused : goal.returns-in-Some-first_nested-clause-refused
returns-in-Some-first_nested-clause-refused c =
    rw c.fault_at-in-Some-first_nested.ensures
    (too_deep (sym c.first_too_large.ensures ∙ c.in_default.is) c.in-Ok.ensures.tokens (rw c.as_slice.ensures.value at (sym c.first_nested.ensures ∙ c.in-Some-first_nested.is)))
