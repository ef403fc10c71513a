use Rattle.std.proofs.Common.{[]}
use Rattle.transcript.proofs.Told.{completed_among, among_completed}
use Rattle.transcript.proofs.Broken.{replay_follows, whole_law, broken_law}
use Rattle.transcript.proofs.a_replay_gives_the_events_or_breaks.Goals as goal

pub returns : goal.returns
returns c = record {
  events = replay_follows;
  told = λ o vs d i vector fair. (completed_among o fair vs [] d i vector, among_completed o vs [] d i vector);
  whole = whole_law;
  broken = broken_law;
}
