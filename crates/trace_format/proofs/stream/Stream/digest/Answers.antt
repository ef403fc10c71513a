use Rattle.std.proofs.Common.{take, subst, arith, rules}
use Rattle.sha2.specs.Hashers.{Holds256}
use Rattle.trace_format.proofs.StreamLaws.{taken_part}
use Rattle.trace_format.proofs.stream.Stream.digest.Goals as goal

pub returns : goal.returns
returns c = λ bytes taken stands.
    let held : Holds256 c.in_ok-hasher.hasher (take stands.start bytes) = search rules in
    let all = taken_part c.args.self.now bytes taken c.deref.result.now c.min.result stands c.deref.ensures.value (omega (arith, c.min.ensures, c.len.ensures)) in
    c.finalize.ensures (take taken bytes) (subst (λ m. Holds256 c.update.new.self m) all (c.update.ensures (take stands.start bytes) held))
