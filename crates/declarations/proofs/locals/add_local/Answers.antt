use Rattle.std.proofs.Common.{refl, ap, ◌∙◌}
use Rattle.ada_meaning.specs.Tree as tree
use Rattle.ada_rules.specs.Entities.{key, redefined}
use Rattle.program_walk.specs.Going.{region_in}
use Rattle.declarations.specs.Locals.{subtype_in_form, entity_in_form}
use Rattle.program_walk.proofs.StateLaws.{local_state}
use Rattle.declarations.proofs.locals.add_local.Goals as goal

pub returns-clause-added : goal.returns-clause-added
returns-clause-added c k has =
    let old = c.args.walk.now in
    let named = c.entity-entity.ensures k ∙ ap (λ n. entity_in_form k c.args.form (tree.local_object n)) c.in_ok-number.ensures.number in
    record {
      region = c.in_ok-redefine.ensures.redefined k ∙ ap (λ x. redefined (key c.args.name.now) x (region_in k old)) named;
      number = ap (λ x. x.objects) c.in_ok-number.ensures.taken;
      state = local_state k old.notes old.counts c.object.new.self old.found c.add_word.new.self (subtype_in_form k c.args.form) c.args.form.tree
          c.args.name.now c.in_ok-number.ensures.taken c.in_ok-add_word.ensures has;
    }

pub returns-clause-inside : goal.returns-clause-inside
returns-clause-inside c = record { symbols = c.in_ok-redefine.ensures.inside; spans = refl }
