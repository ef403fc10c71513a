use Rattle.std.proofs.Common.{ap, ◌∙◌, slice_get}
use Rattle.ada_entities.proofs.LookupLaws.{shape_found, copied_get}
use Rattle.ada_entities.proofs.composite.Types.definition.Goals as goal

pub returns : goal.returns
returns c =
    let t = c.args.self.now in
    shape_found t.instances.items t.definitions.items t.earlier c.args.number c.get.result
    (copied_get c.deref.result.now c.args.number c.get.result c.get.ensures.lookup.1 c.get.ensures.lookup.3 ∙ ap (λ xs. slice_get xs c.args.number) c.deref.ensures.value)
