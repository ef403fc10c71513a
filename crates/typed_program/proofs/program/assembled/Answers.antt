use Rattle.std.proofs.Common.{map, ap, ◌∙◌}
use Rattle.ada_tree.specs.Programs.{types_of, subprogram_of, library_object_of, constant_of, instance_of, exception_declaration_of}
use Rattle.ada_rules.specs.Legal.{with_values}
use Rattle.typed_program.specs.Exceptions.{raised}
use Rattle.typed_program.proofs.Orders.{instances_in_order}
use Rattle.typed_program.proofs.program.assembled.Goals as goal

pub returns-clause-program : goal.returns-clause-program
returns-clause-program c =
    let types = types_of c.args.outline.types in
    let made = c.in_ok-made.ensures ∙ ap (λ is. with_values is c.args.instances.now) (instances_in_order c.args.found.instances.items) in
    let exceptions = c.in_ok-raised.ensures
    ∙ ((λ i. raised (map exception_declaration_of (c.as_slice.ensures.value i)) (map instance_of (c.as_slice-2.ensures i)))
    ∙ ap (raised (map exception_declaration_of c.args.found.exceptions.items)) made) in
    λ i. record {
      subprograms = map (subprogram_of types) (c.from.ensures i);
      main = c.args.outline.main;
      objects = map (library_object_of types) (c.from-2.ensures i);
      constants = map constant_of (c.from-3.ensures i);
      instances = made i;
      declared = map exception_declaration_of (c.from-4.ensures i);
      exceptions = exceptions i;
    }
