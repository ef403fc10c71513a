use Rattle.std.proofs.Common.{◌∙◌, List, subst}
use Rattle.decision_map.proofs.Sound.{mappable}
use Rattle.workload.specs.declared.inputs.Triple.{Triple}
use Rattle.workload_runs.specs.Runs.{TellsTotals}
use Rattle.workload_runs.proofs.Added.{told_by_runs}
use Rattle.workload_runs.proofs.telling.covered_by_runs.Goals as goal

pub of-requires : goal.of-requires
of-requires c = mappable c.args.object.now c.requires.sound.field c.requires.sound.decision c.requires.sound.role

pub returns-clause-told : goal.returns-clause-told
returns-clause-told c =
    subst (λ (inputs : List Triple). TellsTotals c.args.object.now inputs c.in_ok-told.field-0.items) (c.as_slice.ensures.value ∙ c.in_ok-inputs.ensures)
    (told_by_runs c.args.object.now c.as_slice.result.now c.new-coverage.result c.add_runs.new.coverage c.in_ok-told.field-0.items c.new-coverage.ensures.events
    c.in_ok-add_runs.ensures.ended c.in_ok-add_runs.ensures.added c.in_ok-told.ensures)
