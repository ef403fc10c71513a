use Rattle.cov_base.proofs.Edges.{edges_rise}
use Rattle.cov_base.proofs.decision.edges_lead_ahead.Goals as goal

pub returns : goal.returns
returns c = record {
  later = λ e j k b leads. (edges_rise e j b k leads).0;
  within = λ e j k b leads. (edges_rise e j b k leads).1;
}
