use Rattle.std.proofs.Common.{ap, ◌∙◌}
use Rattle.ada_rules.specs.Instances.{facts_made, instance_made}
use Rattle.ada_demands.specs.FactViews.{facts_of}
use Rattle.specifications.specs.Actuals.{actuals_in, actuals_of}
use Rattle.program_walk.proofs.ChangeLaws.{on_ok}
use Rattle.unit_walk.proofs.InstantiatingLaws.{instance_is_made}
use Rattle.unit_walk.proofs.instantiation.make_instance.Goals as goal

pub returns-clause-made : goal.returns-clause-made
returns-clause-made c =
    let made = c.args.made.now in
    on_ok c.note_made.result _ _
    (λ notes k w n i units spans same named.
    instance_is_made k w n c.args.number c.args.pos i made.generic (actuals_in k made.actuals) c.args.walk.now
    (facts_of c.in_ok-facts.facts) c.args.instances.now c.make.new.self c.add_instance.new.self c.note_made.new.statics
    c.in_ok-instance.instance same
    (c.in_ok-facts.ensures k w (record { units = units; spans = spans; instances = same })
    ∙ ap (λ xs. facts_made w made.generic (actuals_of k xs)) c.as_slice-actuals.ensures.value)
    c.in_ok-make.ensures
    (c.in_ok-instance.ensures k w i (record { units = units; spans = spans; instances = same }) named
    ∙ ap (λ xs. instance_made w c.args.pos i made.generic (actuals_of k xs)) c.as_slice-actuals.ensures.value)
    c.in_ok-add_instance.ensures notes)
    c.note_made.ensures
