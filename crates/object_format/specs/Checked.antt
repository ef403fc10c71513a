-- The checks of an object's parts, in their order.
use Rattle.std.specs.Prelude.{◌≡◌, Bool, true, false}
use Rattle.cov_base.specs.declared.failure.Failure.{Failure}
use Rattle.cov_base.specs.declared.failure.Failure.TheVariants.{Fault, WantOfMemory}
use Rattle.object_format.specs.declared.fault.ObjectFault.{ObjectFault}
use Rattle.object_format.specs.declared.fault.ObjectFault.TheVariants.{Short, Magic, Version, Long, Damaged, Field, Decision, Row, Role}
use Rattle.object_format.specs.declared.object.Object.{Object}
use Rattle.object_format.specs.Decisions.{PassesDecision}
use Rattle.object_format.specs.Fields.{passes_field}
use Rattle.object_format.specs.RoleCheck.{PassesRole}
use Rattle.object_format.specs.RowCheck.{PassesRow}

-- the object's parts pass all four checks
pub record IsSound (o : Object) : Type 0 where
  pub field : passes_field o ≡ true
  pub decision : PassesDecision o
  pub row : PassesRow o
  pub role : PassesRole o

-- of the four checks this is the first that the object fails, where the check `field` answers so
abbrev pub FailsFirst : Bool → Object → ObjectFault → Type 0
FailsFirst field o Field = field ≡ false
FailsFirst field o Decision = (field ≡ true) × (PassesDecision o → ⊥)
FailsFirst field o Row = (field ≡ true) × PassesDecision o × (PassesRow o → ⊥)
FailsFirst field o Role = (field ≡ true) × PassesDecision o × PassesRow o × (PassesRole o → ⊥)
FailsFirst field o Short = ⊥
FailsFirst field o Magic = ⊥
FailsFirst field o Version = ⊥
FailsFirst field o Long = ⊥
FailsFirst field o Damaged = ⊥

-- what the checks answered: the first that fails, where memory wasn't refused
abbrev pub IsRefusal : Object → Failure ObjectFault → Type 0
IsRefusal o (Fault fault) = FailsFirst (passes_field o) o fault
IsRefusal o WantOfMemory = Unit {0}
