use Rattle.std.proofs.Common.{arith, sym, ◌∙◌}
use Rattle.std.proofs.lemmas.List.{at_drop_all}
use Rattle.ada_rules.specs.Library.{names_from}
use Rattle.ada_library.specs.NameTable.{named_in, bodies_from}
use Rattle.ada_library.proofs.unit_names.UnitNames.add_all.Goals as goal

pub returns : goal.returns
returns c =
    let us = c.args.units.now in
    let i = c.loop-index.index in
    let names = c.loop-index.self in
    record {
      named = λ name. sym (at_drop_all (λ vs. named_in names.units (names_from i vs) name) us i (omega arith)) ∙ c.loop-index.invariant.named name;
      bodies = λ name.
          sym (at_drop_all (λ vs. named_in names.package_bodies (bodies_from i vs) name) us i (omega arith)) ∙ c.loop-index.invariant.bodies name;
    }
