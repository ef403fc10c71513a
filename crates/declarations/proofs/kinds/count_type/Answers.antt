use Rattle.std.proofs.Common.{refl}
use Rattle.ada_entities.specs.Views.{subtype_of}
use Rattle.program_walk.proofs.StateLaws.{type_state}
use Rattle.declarations.proofs.kinds.count_type.Goals as goal

pub returns : goal.returns
returns c known k env n counts b g =
    type_state k n counts c.args.found.now c.add_type.new.self _ c.args.pos (subtype_of k.types c.args.subtype) env c.in_ok-add_type.ensures g refl
    (c.in_ok-tree.ensures known k b)
