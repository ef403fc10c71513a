use Rattle.std.proofs.Common.{sym, ap, ◌∙◌}
use Rattle.ada_rules.specs.Entities as rules
use Rattle.ada_phrases.proofs.ScopeLaws.{own_part, outer_part}
use Rattle.ada_phrases.proofs.scope.Scope.part_of_unit.Goals as goal

pub returns-then-is_own : goal.returns-then-is_own
returns-then-is_own c k env h =
    c.shown.ensures k
    ∙ (ap rules.shown (c.find_at.ensures k)
    ∙ own_part k c.args.self.now.regions.now env c.args.self.now.own_package c.args.unit c.args.name.now h.text (sym c.is_own.ensures ∙ c.if-is_own.true))

pub returns : goal.returns
returns c k env h =
    c.part_of.ensures k h.actuals env.world h.units
    ∙ outer_part k c.args.self.now.regions.now env c.args.self.now.own_package c.args.unit c.args.name.now h.text (sym c.is_own.ensures ∙ c.if-is_own.false)
