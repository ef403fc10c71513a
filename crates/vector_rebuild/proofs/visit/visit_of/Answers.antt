use Rattle.std.proofs.Common.{arith, sym, ◌∙◌}
use Rattle.vector_rebuild.proofs.Known.{known}
use Rattle.vector_rebuild.proofs.visit.visit_of.Goals as goal

pub returns-clause-decision : goal.returns-clause-decision
returns-clause-decision c =
    (known c.args.map.now c.args.entry.address c.in-Some.condition c.requires.sound (sym c.condition_by.ensures ∙ c.in-Some.is)).decision

pub returns-clause-node : goal.returns-clause-node
returns-clause-node c =
    (known c.args.map.now c.args.entry.address c.in-Some.condition c.requires.sound (sym c.condition_by.ensures ∙ c.in-Some.is)).node

pub returns-clause-few : goal.returns-clause-few
returns-clause-few c =
    let found = known c.args.map.now c.args.entry.address c.in-Some.condition c.requires.sound (sym c.condition_by.ensures ∙ c.in-Some.is) in
    omega (arith, found.node, found.few)
