use Rattle.std.proofs.Common.{◌≡◌, IfOk, map, sym, subst}
use Rattle.std.specs.Prelude.{reverse}
use Rattle.ada_rules.specs.Limits as rules
use Rattle.ada_tree.specs.Programs.{types_of}
use Rattle.ada_entities.specs.UnitViews.{interface_of}
use Rattle.word_limits.specs.Capped.{capped}
use Rattle.word_limits.specs.Counting.{unit_by}
use Rattle.word_limits.proofs.units.words_by.Goals as goal

pub returns-in-Instance : goal.returns-in-Instance
returns-in-Instance c k actuals =
    subst (λ i. IfOk c.words_of_instance.result (λ w. w ≡ capped (rules.words_by c.args.table.now.instances.now c.args.number (interface_of k actuals i)
    (reverse (map (unit_by (types_of c.args.table.now.types.now)) c.args.units.now))))) (sym c.in-Instance.is)
    (c.words_of_instance.ensures (actuals c.in-Instance.instance))
