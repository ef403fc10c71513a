use Rattle.std.proofs.Common.{arith}
use Rattle.spelling.proofs.EntryLists.{piece_within, value_at}
use Rattle.spelling.proofs.entries.Entries.get.Goals as goal

pub overflow_mul-start : goal.overflow_mul-start
overflow_mul-start g c =
    let within = piece_within g.T.Fixed.value g.T.Fixed.SIZE c.self.inside.count c.args.at c.SIZE-size.result c.self.inside.bytes.now c.args.self.now c.self.view_is c.requires c.self.invariant c.SIZE-size.ensures in
    omega (arith, within, c.self.told.0)

pub split_at-requires : goal.split_at-requires
split_at-requires g c =
    let within = piece_within g.T.Fixed.value g.T.Fixed.SIZE c.self.inside.count c.args.at c.SIZE-size.result c.self.inside.bytes.now c.args.self.now c.self.view_is c.requires c.self.invariant c.SIZE-size.ensures in
    omega (arith, within)

pub split_at-requires-2 : goal.split_at-requires-2
split_at-requires-2 g c =
    let within = piece_within g.T.Fixed.value g.T.Fixed.SIZE c.self.inside.count c.args.at c.SIZE-size.result c.self.inside.bytes.now c.args.self.now c.self.view_is c.requires c.self.invariant c.SIZE-size.ensures in
    omega (arith, within, c.split_at.ensures.back_len)

pub returns : goal.returns
returns g c =
    value_at g.T.Fixed.value g.T.Fixed.SIZE c.self.inside.count c.args.at c.SIZE-size.result c.self.inside.bytes.now c.split_at-2.result.0.now c.split_at.result.1.now c.args.self.now c.at.result
    c.self.view_is c.requires c.SIZE-size.ensures c.split_at.ensures.back c.split_at-2.ensures.front c.at.ensures
