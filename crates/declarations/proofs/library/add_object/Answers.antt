use Rattle.std.proofs.Common.{refl, ap, ◌∙◌}
use Rattle.ada_meaning.specs.Tree as tree
use Rattle.ada_rules.specs.Entities.{key, redefined}
use Rattle.program_walk.specs.Going.{region_in}
use Rattle.declarations.specs.Locals.{subtype_in_form, entity_in_form}
use Rattle.program_walk.proofs.StateLaws.{object_state}
use Rattle.program_walk.proofs.OwnerLaws.{owner_is}
use Rattle.declarations.proofs.library.add_object.Goals as goal

pub returns-clause-added : goal.returns-clause-added
returns-clause-added c k env is has =
    let old = c.args.walk.now in
    let owned = owner_is env c.args.context.now.generic c.owner.result is.generic c.owner.ensures in
    let named = c.entity-entity.ensures k ∙ (λ z. entity_in_form k c.args.form (tree.library_object (owned z) (c.in_ok-number.ensures.number z))) in
    record {
      region = c.in_ok-redefine.ensures.redefined k ∙ ap (λ x. redefined (key c.args.name.now) x (region_in k old)) named;
      number = ap (λ x. x.library_objects) c.in_ok-number.ensures.taken;
      state = object_state k old.notes old.counts c.library_object.new.self old.found c.add_object.new.self c.add_library_word.new.self
          (subtype_in_form k c.args.form) _ env c.in_ok-number.ensures.taken c.in_ok-add_object.ensures c.in_ok-add_library_word.ensures
          c.in_ok-number.ensures.number is.generic has;
    }

pub returns-clause-inside : goal.returns-clause-inside
returns-clause-inside c = record { symbols = c.in_ok-redefine.ensures.inside; spans = refl }
