use Rattle.std.proofs.Common.{rules}
use Rattle.std.proofs.lemmas.Grind.{common_steps}
use Rattle.std.proofs.Common.{refl, arith}
use Rattle.trace_format.proofs.StreamLaws.{told_part, fetched_next}
use Rattle.trace_format.proofs.stream.Stream.fetch.Goals as goal

pub returns-clause-fetches : goal.returns-clause-fetches
returns-clause-fetches g c = λ bytes taken told stands small.
    fetched_next c.args.self.now _ bytes taken stands (omega (arith, c.if-self-len.false, c.len.ensures)) small
    (λ m holds. rw (← c.as_slice.ensures.value) (c.update.ensures m holds))
    (told_part (g.F.Files.held c.args.files.now) c.as_str.result.now c.args.self.now.fetched c.read_part.new.into.items bytes (rw c.as_str.ensures.value told) c.in_ok-read_part.ensures.ok)
    c.read_part.ensures.few refl (omega (arith, c.saturating_add-self.ensures, c.len-2.ensures))

pub returns-then-self-len : goal.returns-then-self-len
returns-then-self-len g = search rules

pub returns-in_err-read_part : goal.returns-in_err-read_part
returns-in_err-read_part g = search rules

pub returns-clause-stays : goal.returns-clause-stays
returns-clause-stays g = grind (arith, common_steps)
