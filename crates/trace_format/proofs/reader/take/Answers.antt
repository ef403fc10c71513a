use Rattle.std.proofs.Common.{◌≡◌, length, refl, arith, rules, Ok}
use Rattle.trace_format.proofs.ReaderLaws.{took_short, took_all}
use Rattle.trace_format.proofs.reader.take.Goals as goal

pub returns-then-got-room-clause-takes : goal.returns-then-got-room-clause-takes
returns-then-got-room-clause-takes g c = λ bytes taken told stands small room.
    let ok : c.fill.result ≡ Ok c.in_ok-got.got = search rules in
    let t = c.fill.ensures.takes bytes taken told stands small room in
    let within = c.fill.ensures.count in
    rw c.refused.ensures (refl, took_short c.fill.new.into bytes taken (length c.args.into.now) c.in_ok-got.got (rw ok at t).0 (omega (arith, c.if-got-room.true)) (omega (arith, (rw ok at within), c.fill.ensures.len)))

pub returns-clause-takes : goal.returns-clause-takes
returns-clause-takes g c = λ bytes taken told stands small room.
    let ok : c.fill.result ≡ Ok c.in_ok-got.got = search rules in
    let t = c.fill.ensures.takes bytes taken told stands small room in
    let within = c.fill.ensures.count in
    took_all c.fill.new.self c.fill.new.into bytes taken (length c.args.into.now) c.in_ok-got.got (rw ok at t).1 (rw ok at t).0 (omega (arith, c.if-got-room.false)) (omega (arith, (rw ok at within), c.fill.ensures.len)) c.fill.ensures.len
