use Rattle.std.proofs.Common.{arith}
use Rattle.object_format.proofs.ReadLaws.{found, read_as, delivered}
use Rattle.object_format.proofs.read.read_object.Goals as goal

pub returns-clause-found : goal.returns-clause-found
returns-clause-found c = found c.args.bytes.now c.checked.result (λ i. omega (arith, c.type_inv.bytes i)) c.checked.ensures.read

pub returns-clause-only : goal.returns-clause-only
returns-clause-only c = λ o is e.
    delivered c.args.bytes.now c.checked.result (read_as c.args.bytes.now c.checked.result c.checked.ensures.read) c.checked.ensures.fault o is e
