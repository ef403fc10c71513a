use Rattle.std.proofs.Common.{map, refl, sym, ◌∙◌}
use Rattle.ada_entities.specs.Views.{given_of}
use Rattle.program_walk.proofs.ChangeLaws.{instance_grows, instance_found, instance_fresh}
use Rattle.program_walk.proofs.symbols.Symbols.add_instance.Goals as goal

pub returns-clause-made : goal.returns-clause-made
returns-clause-made c =
    let old = c.args.self.now in
    let new = record old { types = c.add_instance.new.self; extent = c.make.new.self } in
    let awaited = sym c.awaits.ensures ∙ c.if-not-awaits.false in
    let vacant = c.in_ok-add_instance.ensures.vacant in
    let added = c.in_ok-add_instance.ensures.made in
    record {
      fresh = instance_fresh old new (map given_of c.args.given) c.args.number awaited vacant added c.make.ensures.made;
      given = λ h k b. instance_found old new (map given_of c.args.given) c.args.number awaited vacant added c.make.ensures.made k b;
    }

pub returns-clause-added : goal.returns-clause-added
returns-clause-added c =
    instance_grows c.args.self.now _ (map given_of c.args.given) c.args.number (sym c.awaits.ensures ∙ c.if-not-awaits.false)
    c.in_ok-add_instance.ensures.vacant c.in_ok-add_instance.ensures.made c.make.ensures.made
    c.make.ensures.types c.make.ensures.routines refl refl refl
