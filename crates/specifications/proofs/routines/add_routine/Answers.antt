use Rattle.std.proofs.Common.{ap, ◌∙◌}
use Rattle.std.proofs.lemmas.Result.{on_ok_weaker}
use Rattle.ada_rules.specs.Entities.{key, routine, redefined}
use Rattle.ada_entities.specs.EntityViews.{region_of}
use Rattle.ada_entities.specs.RegionCode.{innermost}
use Rattle.specifications.proofs.routines.add_routine.Goals as goal

pub returns-clause-added : goal.returns-clause-added
returns-clause-added c =
    on_ok_weaker c.enter_routine.result (λ entered k env region b generic body.
    entered k b
    ∙ ap (λ r. redefined (key c.args.name.now) (routine r) (region_of k (innermost c.args.symbols.now.regions)))
    (c.routine_with-routine.ensures k env (key c.args.name.now) region c.args.completion generic body))
    c.enter_routine.ensures.entered
