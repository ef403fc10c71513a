use Rattle.std.proofs.Common.{refl, sym, ◌∙◌}
use Rattle.ada_meaning.specs.Tree as tree
use Rattle.ada_rules.specs.Entities.{key, raisable, redefined}
use Rattle.program_walk.specs.Going.{region_in}
use Rattle.program_walk.proofs.StateLaws.{exception_state}
use Rattle.program_walk.proofs.OwnerLaws.{owner_is}
use Rattle.declarations.proofs.exceptions.add_exception.Goals as goal

pub returns-clause-added : goal.returns-clause-added
returns-clause-added c k env is =
    let old = c.args.walk.now in
    let i = c.args.identifier.now in
    let owned = owner_is env c.args.context.now.generic c.owner.result is.generic c.owner.ensures in
    record {
      region = c.in_ok-redefine.ensures.redefined k
          ∙ (λ z. redefined (key i) (raisable (tree.declared (owned z) (c.in_ok-number.ensures.number z))) (region_in k old));
      state = exception_state k old.notes old.counts c.exception.new.self old.found c.add_exception.new.self _ i env
          c.in_ok-number.ensures.taken c.in_ok-add_exception.ensures c.in_ok-number.ensures.number refl is.generic
          (is.unit_name ∙ (sym c.in_ok-unit.ensures.items ∙ sym c.from.ensures)) (c.in_ok-name.ensures env is.subprogram_name);
    }

pub returns-clause-inside : goal.returns-clause-inside
returns-clause-inside c = record { symbols = c.in_ok-redefine.ensures.inside; spans = refl }
