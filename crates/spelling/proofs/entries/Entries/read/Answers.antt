use Rattle.std.proofs.Common.{◌≡◌, ◌<◌, ◌*◌, length, arith}
use Rattle.spelling.proofs.EntryLists.{many_front, many_short, length-values}
use Rattle.spelling.proofs.entries.Entries.read.Goals as goal

pub returns-in_default-clause-gives : goal.returns-in_default-clause-gives
returns-in_default-clause-gives g c =
    let small : length c.args.bytes.now < 18446744073709551616 = omega arith in
    many_short g.T.Formatted.format g.T.Fixed.SIZE g.T.Fixed.value g.met.T.Fixed.is_fixed c.args.count c.args.bytes.now (rw (← c.SIZE-size.ensures) (omega (arith, c.in_default.ensures)))

pub returns-then-room-len-clause-gives : goal.returns-then-room-len-clause-gives
returns-then-room-len-clause-gives g c =
    many_short g.T.Formatted.format g.T.Fixed.SIZE g.T.Fixed.value g.met.T.Fixed.is_fixed c.args.count c.args.bytes.now (rw (← c.SIZE-size.ensures) (omega (arith, c.in-Some.ensures)))

pub returns-clause-gives : goal.returns-clause-gives
returns-clause-gives g c =
    let len : c.in-Some.len ≡ g.T.Fixed.SIZE * c.args.count = rw (← c.SIZE-size.ensures) (c.in-Some.ensures.1) in
    rw (c.split_at.ensures.front, c.split_at.ensures.back, len) (many_front g.T.Formatted.format g.T.Fixed.SIZE g.T.Fixed.value g.met.T.Fixed.is_fixed c.args.count c.args.bytes.now (omega (arith, len)))

pub returns-clause-count : goal.returns-clause-count
returns-clause-count g c = length-values g.T.Fixed.value g.T.Fixed.SIZE c.args.count c.split_at.result.0.now
