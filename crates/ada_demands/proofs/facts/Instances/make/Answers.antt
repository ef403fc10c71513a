use Rattle.std.proofs.Common.{map, option_map, sym, ap, ◌∙◌}
use Rattle.std.specs.Option.{option_copied}
use Rattle.ada_tree.specs.Programs.{constant_of}
use Rattle.ada_demands.specs.FactViews.{facts_of}
use Rattle.ada_demands.proofs.ComputingLaws.{made_there, made_nowhere}
use Rattle.ada_demands.proofs.facts.Instances.make.Goals as goal

pub returns : goal.returns
returns c =
    made_there c.args.self.now c.set.new.self c.set-2.new.self (map constant_of c.args.constants.now) c.args.number (facts_of c.args.facts)
    (facts_of c.in-Some.made.now) (facts_of c.in_ok-complete.complete) c.set.ensures
    (sym c.placed.ensures ∙ ap (λ o. option_map facts_of (option_copied o)) c.in-Some.is) c.in_ok-complete.ensures c.set-2.ensures

pub returns-in_default : goal.returns-in_default
returns-in_default c =
    made_nowhere c.args.self.now c.set.new.self (map constant_of c.args.constants.now) c.args.number (facts_of c.args.facts) c.set.ensures
    (sym c.placed.ensures ∙ ap (λ o. option_map facts_of (option_copied o)) c.in_default.is)
