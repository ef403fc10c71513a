use Rattle.std.proofs.Common.{sym}
use Rattle.ada_entities.specs.Views.{subtype_of}
use Rattle.declarations.proofs.values.make_bare_locals.Goals as goal

pub returns-clause-made : goal.returns-clause-made
returns-clause-made c k known b =
    let tree = c.in_ok-tree.ensures known k b in
    let a = c.in_ok-add_locals.ensures.added k tree in
    let made = c.in_ok-make_bare.ensures k (subtype_of k.types c.args.subtype) tree in
    λ z. record { region = sym a.region z; next = sym a.state z; made = sym made z }
