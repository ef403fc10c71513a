use Rattle.std.proofs.Common.{map}
use Rattle.ada_entities.specs.Views.{given_of}
use Rattle.ada_entities.proofs.TableLaws.{found_vacant, vacant_of, earlier_made, instance_added}
use Rattle.ada_entities.proofs.composite.Types.add_instance.Goals as goal

pub invariant_of-self-2 : goal.invariant_of-self-2
invariant_of-self-2 c =
    let old = c.args.self.now in
    let n = c.args.number in
    let vacant = found_vacant old.instances.items c.as_slice.result.now n c.is_vacant.result c.as_slice.ensures.value c.is_vacant.ensures
    c.if-not-is_vacant.false in
    record { earlier = earlier_made old.instances.items n c.args.given old.definitions.items vacant old.earlier }

pub returns-clause-vacant : goal.returns-clause-vacant
returns-clause-vacant c =
    let old = c.args.self.now in
    let n = c.args.number in
    vacant_of (map given_of) old.instances.items n
    (found_vacant old.instances.items c.as_slice.result.now n c.is_vacant.result c.as_slice.ensures.value c.is_vacant.ensures
    c.if-not-is_vacant.false)

pub returns-clause-made : goal.returns-clause-made
returns-clause-made c =
    let old = c.args.self.now in
    let n = c.args.number in
    let vacant = found_vacant old.instances.items c.as_slice.result.now n c.is_vacant.result c.as_slice.ensures.value c.is_vacant.ensures
    c.if-not-is_vacant.false in
    instance_added old.instances.items n c.args.given old.definitions.items vacant old.earlier
