-- Visits: the executed branches of conditions, and the steps that they are on a graph.
use Rattle.std.specs.Prelude.{ℕ, nat_eq, Bool, not, ◌&&◌, List, [], ◌∷◌, filter_map, Option, Some, None, if◌then◌else◌}
use Rattle.cov_base.specs.declared.position.DecId.{DecId}
use Rattle.cov_base.specs.declared.position.InstId.{InstId}
use Rattle.rv_semantics.specs.declared.stepped.Seen.{Seen}
use Rattle.cov_base.specs.Path.{Step}
use Rattle.transcript.specs.Facts.{Facts, Condition}

-- what tells one evaluation from others that are under way: the decision, the instance, and the frame pointer of the activation
pub record Key : Type 0 where
  pub decision : DecId
  pub instance : InstId
  pub x8 : ℕ

-- an executed branch of a condition: whose it was, and the step that it took on the decision's graph
pub record Visit : Type 0 where
  pub key : Key
  pub step : Step

-- the visit that a condition's branch makes under a frame pointer, where it takes the edge or not
abbrev pub visit_by : Condition → ℕ → Bool → Visit
visit_by c x8 taken = record {
  key = record { decision = c.decision; instance = c.instance; x8 = x8 };
  step = record { at_node = c.at_node; value = if taken then c.when_taken else not c.when_taken };
}

-- the visit made at an address that has this condition, under a frame pointer, by the edge of a branch: none without a condition or an edge
abbrev pub visit_at : Option Condition → ℕ → Option Bool → Option Visit
visit_at None x8 edge = None
visit_at (Some c) x8 None = None
visit_at (Some c) x8 (Some taken) = Some (visit_by c x8 taken)

-- the visit that an executed instruction made, if it was a condition's branch
abbrev pub visit_of : Facts → Seen → Option Visit
visit_of o s = visit_at (o.condition s.pc) s.x8 s.edge

-- the visits of a transcript, in order
abbrev pub visits : Facts → List Seen → List Visit
visits o ss = filter_map (visit_of o) ss

-- whether two keys are the same
abbrev pub same_key : Key → Key → Bool
same_key k l = nat_eq k.decision.0 l.decision.0 && (nat_eq k.instance.0 l.instance.0 && nat_eq k.x8 l.x8)

-- the steps of one key among the visits of the past; both are listed with the latest first
abbrev pub steps : Key → List Visit → List Step
steps k [] = []
steps k (v ∷ past) = if same_key k v.key then v.step ∷ steps k past else steps k past

-- the past with one more visit, if there was one
abbrev pub visited : Option Visit → List Visit → List Visit
visited None past = past
visited (Some v) past = v ∷ past

-- the past after these visits, which come in order
abbrev pub onto : List Visit → List Visit → List Visit
onto [] past = past
onto (v ∷ vs) past = onto vs (v ∷ past)
