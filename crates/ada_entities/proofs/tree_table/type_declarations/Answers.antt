use Rattle.std.proofs.Common.{ap, sym, ◌∙◌, arith, rules}
use Rattle.std.proofs.lemmas.List.{take_all}
use Rattle.ada_entities.specs.Tables.{tables_of}
use Rattle.ada_entities.specs.Trees.{shapes_in_tree}
use Rattle.ada_entities.proofs.TreeTableLaws.{table_step, in_push}
use Rattle.ada_entities.proofs.tree_table.type_declarations.Goals as goal

pub loop-place-preserved : goal.loop-place-preserved
loop-place-preserved c =
    let i = c.loop-place.invariant in
    let items = c.definitions-definition-items.result.now in
    let declared = c.in_ok-push.ensures.items in (
      λ a. rw declared (table_step a.given items c.loop-place.place c.definition-item.result c.loop-place.declarations.items _
          (search rules) c.definition-item.is a.earlier (i.0 a) c.in_ok-definition_in_tree.ensures),
      rw declared (in_push c.args.generics.now 0 c.loop-place.place c.loop-place.declarations.items _ (omega (arith, i.2)) i.1 (search rules)),
      (search rules),
    )

pub returns-clause-types : goal.returns-clause-types
returns-clause-types c =
    let a = c.definitions-definition-items.ensures in
    let items = c.definitions-definition-items.result.now in
    rw c.from.ensures (c.loop-place.invariant.0 a
    ∙ ap (λ ds. shapes_in_tree (tables_of a.given ds)) (take_all c.loop-place.place items c.loop-place-test.false) ∙ ap shapes_in_tree (sym a.are))

pub returns-clause-generics : goal.returns-clause-generics
returns-clause-generics c = rw c.from.ensures c.loop-place.invariant.1
