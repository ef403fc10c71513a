use Rattle.std.proofs.Common.{map, ap, ◌∙◌}
use Rattle.std.proofs.lemmas.List.{take_all}
use Rattle.ada_meaning.specs.Obligations.{in_order, listed}
use Rattle.ada_tree.specs.Programs.{exception_declaration_of, instance_of}
use Rattle.typed_program.specs.declared.exceptions.Listed.{Listed}
use Rattle.typed_program.specs.Exceptions.{is_before}
use Rattle.typed_program.proofs.Orders.{raised_in_order}
use Rattle.typed_program.proofs.exceptions.ordered.Goals as goal

pub returns : goal.returns
returns c =
    let items = c.as_slice-exception-items.result.now in
    raised_in_order (listed (map exception_declaration_of c.args.declared.now) (map instance_of c.args.instances.now)) c.from.result items
    (c.as_slice-exception-items.ensures.value ∙ (c.in_ok-sort.ensures ∙ ap (in_order is_before) c.in_ok-listed.ensures))
    (c.from.ensures ∙ (c.loop-exception.invariant
    ∙ ap (map (λ (x : Listed). x.entry)) (take_all c.loop-exception.exception-index items c.loop-exception-test.false)))
