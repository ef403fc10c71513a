-- What the flags of a trace's blocks say.
use Rattle.std.specs.Prelude.{◌≡◌, Bool, true, false, not, ◌⊎◌, Some, if◌then◌else◌}
use Rattle.cov_base.specs.declared.position.DecId.{DecId}
use Rattle.cov_base.specs.declared.position.InstId.{InstId}
use Rattle.cov_base.specs.declared.event.Event.{Event}
use Rattle.cov_base.specs.declared.event.Event.TheVariants.{Start, Done}
use Rattle.cov_base.specs.declared.event.Vector.{Vector}
use Rattle.cov_base.specs.Path.{IsVectorOfLeaf}
use Rattle.transcript.specs.Facts.{Facts, Condition}
use Rattle.transcript.specs.Trace.{Block, Trace, flag, IsFlagged}

-- what the flags say: that an evaluation of a tree decision was completed, where they show the edge that ends it
abbrev pub FlagsSay : Facts → Trace → Event → Type 0
FlagsSay o t (Start s i) = ⊥
FlagsSay o t (Done d i vector) = IsFlagged o t d i vector

-- ---- the same, block by block

-- the edge of a condition's branch ends an evaluation of a tree decision in an instance, and this is the vector of the one path that ends
-- with that edge
pub record EndsTree (o : Facts) (c : Condition) (taken : Bool) (d : DecId) (i : InstId) (vector : Vector) : Type 0 where
  pub of_decision : c.decision ≡ d
  pub of_instance : c.instance ≡ i
  pub of_tree : o.tree d ≡ true
  pub ends : IsVectorOfLeaf (o.graph d) c.at_node (if taken then c.when_taken else not c.when_taken) vector

abbrev pub EndsWith : Facts → Condition → Bool → Event → Type 0
EndsWith o c taken (Start s i) = ⊥
EndsWith o c taken (Done d i vector) = EndsTree o c taken d i vector

-- a block has the flag of an edge of its last branch, which ends such an evaluation
pub record EdgeSays (o : Facts) (b : Block) (taken : Bool) (e : Event) : Type 0 where
  pub condition : Condition
  pub role : o.condition b.last ≡ Some condition
  pub flagged : flag taken b ≡ true
  pub ended : EndsWith o condition taken e

abbrev pub BlockSays : Facts → Block → Event → Type 0
BlockSays o b e = EdgeSays o b true e ⊎ EdgeSays o b false e
