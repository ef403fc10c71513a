use Rattle.std.proofs.Common.{length, sym, ap, ◌∙◌}
use Rattle.spelling.proofs.EntryLists.{length-values}
use Rattle.spelling.proofs.entries.Entries.len.Goals as goal

pub returns : goal.returns
returns g c = sym (length-values g.T.Fixed.value g.T.Fixed.SIZE c.self.inside.count c.self.inside.bytes.now) ∙ ap length c.self.view_is
