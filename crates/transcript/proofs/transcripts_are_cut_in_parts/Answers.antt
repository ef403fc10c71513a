use Rattle.transcript.proofs.Joined.{runs_append, closed_append, open_append, ended_by, took_append, history_append}
use Rattle.transcript.proofs.transcripts_are_cut_in_parts.Goals as goal

pub returns : goal.returns
returns c = record {
  runs = runs_append;
  closed = closed_append;
  open_piece = open_append;
  ended = ended_by;
  edges = took_append;
  history = history_append;
}
