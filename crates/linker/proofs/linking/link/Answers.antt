use Rattle.std.proofs.Common.{arith}
use Rattle.linker.proofs.Places.{labels_count}
use Rattle.linker.proofs.Places.{entry_is}
use Rattle.linker.proofs.linking.link.Goals as goal

pub roles-requires : goal.roles-requires
roles-requires c = grind (arith, labels_count, entry_is)

pub rows-requires : goal.rows-requires
rows-requires c = grind (arith, labels_count, entry_is)
