use Rattle.std.proofs.Common.{rules, refl}
use Rattle.cov_io.proofs.EntryLemmas.{Replaces-set, Replaces-append}
use Rattle.cov_io.proofs.contents.Contents.insert.Goals as goal

pub returns-in-Some-clause-ok : goal.returns-in-Some-clause-ok
returns-in-Some-clause-ok c =
    rw (← c.self.view_is, ← c.in_ok-bytes.ensures.items)
    (Replaces-set c.self.inside.entries.items c.args.name.now c.in-Some.place c.index_mut.result.now (record { name = c.index_mut.result.now.name; bytes = c.in_ok-bytes.bytes }) (search rules) c.index_mut.ensures.value refl)

pub returns-clause-ok : goal.returns-clause-ok
returns-clause-ok c =
    rw (← c.self.view_is, ← c.in_ok-bytes.ensures.items, c.in_ok-push.ensures.items)
    (Replaces-append c.self.inside.entries.items c.args.name.now (record { name = c.in_ok-name.name; bytes = c.in_ok-bytes.bytes }) (search rules) (search rules))
