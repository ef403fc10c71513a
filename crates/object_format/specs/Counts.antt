-- Which objects have a file: each count and length in them fits the bytes that stand for it there.
use Rattle.std.specs.Prelude.{◌<◌, ◌^◌, List, length}
use Rattle.std.specs.List.{All}
use Rattle.cov_base.specs.declared.obligations.DecEntry.{DecEntry}
use Rattle.cov_base.specs.declared.obligations.InstanceEntry.{InstanceEntry}
use Rattle.cov_base.specs.declared.obligations.Obligations.{Obligations}
use Rattle.cov_base.specs.declared.obligations.Region.{Region}
use Rattle.object_format.specs.declared.object.FileEntry.{FileEntry}
use Rattle.object_format.specs.declared.object.Object.{Object}

-- four bytes can hold the count of a list, or the length of a text
abbrev pub IsCountable : {X : Type 0} → List X → Type 0
IsCountable xs = length xs < 2 ^ 32

-- a list whose count four bytes can hold, of entries that fit too
abbrev pub AreCountable : {X : Type 0} → (X → Type 0) → List X → Type 0
AreCountable Fits xs = IsCountable xs × All Fits xs

-- nothing in the value is counted
abbrev pub Uncounted : {X : Type 0} → X → Type 0
Uncounted x = Unit {0}

abbrev pub FileFits : FileEntry → Type 0
FileFits f = IsCountable f.name

abbrev pub InstanceFits : InstanceEntry → Type 0
InstanceFits i = IsCountable i.name

-- one byte can hold the length of the expression, and one the number of conditions
abbrev pub DecisionFits : DecEntry → Type 0
DecisionFits d = (length d.expression.postfix < 256) × (length d.conditions < 256)

abbrev pub RegionFits : Region → Type 0
RegionFits r = IsCountable r.why

pub record ObligationsFit (o : Obligations) : Type 0 where
  pub instances : AreCountable InstanceFits o.instances
  pub exceptions : AreCountable IsCountable o.exceptions
  pub statements : IsCountable o.statements
  pub decisions : AreCountable DecisionFits o.decisions
  pub regions : AreCountable RegionFits o.regions

pub record HasFile (o : Object) : Type 0 where
  pub text : IsCountable o.text
  pub init : IsCountable o.init
  pub files : AreCountable FileFits o.files
  pub obligations : ObligationsFit o.obligations
  pub rows : IsCountable o.rows
  pub roles : IsCountable o.roles

-- each count of a list and each length of a text is below 2 ^ 32
pub record IsCounted (o : Object) : Type 0 where
  pub text : IsCountable o.text
  pub init : IsCountable o.init
  pub files : AreCountable FileFits o.files
  pub instances : AreCountable InstanceFits o.obligations.instances
  pub exceptions : AreCountable IsCountable o.obligations.exceptions
  pub statements : IsCountable o.obligations.statements
  pub decisions : IsCountable o.obligations.decisions
  pub regions : AreCountable RegionFits o.obligations.regions
  pub rows : IsCountable o.rows
  pub roles : IsCountable o.roles
