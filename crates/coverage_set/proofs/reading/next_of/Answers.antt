use Rattle.std.proofs.Common.{rules}
use Rattle.coverage_set.proofs.reading.next_of.Goals as goal

pub returns-in-Ok-Some-clause-gives : goal.returns-in-Ok-Some-clause-gives
returns-in-Ok-Some-clause-gives g c = record {
  gave = rw c.in-Ok-Some.field-0-is at c.in-Ok-Some.ensures.gave;
  closes = rw c.in-Ok-Some.field-0-is at c.in-Ok-Some.ensures.closes;
  unfailed = λ failure is. cc ((c.in-Ok-Some.ensures.fails failure).0 is);
  reads = rw c.in-Ok-Some.field-0-is at c.in-Ok-Some.ensures.answers;
  name = c.in-Ok-Some.ensures.name;
}

pub returns-in-Err : goal.returns-in-Err
returns-in-Err g = search rules
