use Rattle.std.proofs.Common.{[], sym, ap, ◌∙◌}
use Rattle.ada_rules.specs.Library.{names_from}
use Rattle.ada_library.specs.NameTable.{named_in, bodies_from}
use Rattle.ada_library.specs.UnitNaming.{AreNames}
use Rattle.ada_library.proofs.NameLaws.{bodies_first, or_nothing, kept}
use Rattle.ada_library.proofs.unit_names.UnitNames.new.Goals as goal

pub returns : goal.returns
returns c =
    let us = c.args.units.now in
    let names = c.add_all-added.new.self in
    kept (AreNames us) c.add_all-added.result names c.and.result c.and.ensures c.add_all-added.ensures
    (λ adds. record {
      named = λ name. sym (or_nothing _) ∙ (adds.named name ∙ ap (λ xs. named_in xs (names_from 0 us) name) c.new.ensures);
      bodies = λ name. sym (or_nothing _) ∙ (adds.bodies name ∙ (ap (λ xs. named_in xs (bodies_from 0 us) name) c.new-2.ensures ∙ bodies_first name 0 us));
    })
