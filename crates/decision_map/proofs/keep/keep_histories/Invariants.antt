use Rattle.std.proofs.Common.{◌≡◌, take}
use Rattle.decision_map.proofs.Keeping.{AreKindsBy}
use Rattle.decision_map.proofs.keep.keep_histories.Given as goal

-- the branches of the roles so far are marked
abbrev pub invariant-loop-role : goal.invariant-loop-role
invariant-loop-role l = record {
  items : l.role-items ≡ l.object.roles;
  kinds : AreKindsBy l.object (take l.role-index l.object.roles) l.kinds;
}
