-- What a consolidated file says of an object, and why it can't be one of its.
use Rattle.std.specs.Prelude.{◌≡◌, ◌≢◌, ◌↔◌, ◌⊎◌, ℕ, ◌<◌, List, [], ◌∷◌, ◌++◌, map, length, slice_get, if◌then◌else◌, Option, Some, None, IfSome, Ok, Err}
use Rattle.cov_base.specs.declared.event.Event.{Event}
use Rattle.cov_base.specs.declared.event.Event.TheVariants.{Start, Done}
use Rattle.cov_base.specs.declared.failure.Failure.{Failure}
use Rattle.cov_base.specs.declared.failure.Failure.TheVariants.{Fault, WantOfMemory}
use Rattle.cov_base.specs.Lists.{Somewhere}
use Rattle.decision_map.specs.Decisions.{graph_at}
use Rattle.cov_base.specs.Path.{IsPathVector}
use Rattle.line_table.specs.declared.roles.Role.{Role}
use Rattle.object_format.specs.declared.object.Object.{Object}
use Rattle.object_format.specs.RoleCheck.{is_condition}
use Rattle.trace_format.specs.declared.consolidated.StartEntry.{StartEntry}
use Rattle.trace_format.specs.declared.consolidated.VectorEntry.{VectorEntry}
use Rattle.trace_format.specs.declared.consolidated.fault.ConsFault.{ConsFault}
use Rattle.trace_format.specs.declared.consolidated.fault.ConsFault.TheVariants as faults
use Rattle.trace_format.specs.Consolidated.{ConsolidatedFile}
use Rattle.trace_format.specs.ConsolidatedChecks.{consolidated_of}
use Rattle.coverage_set.specs.declared.consolidated.Decided.{Decided}
use Rattle.coverage_set.specs.Covered.{Covered, HasRun, Has}

-- the events that entries tell
abbrev pub start_of : StartEntry → Event
start_of s = Start s.statement s.instance

abbrev pub done_of : VectorEntry → Event
done_of v = Done v.decision v.instance v.vector

abbrev pub events_in : ConsolidatedFile → List Event
events_in f = map start_of f.starts ++ map done_of f.vectors

-- the starts that the rows of an object give
abbrev pub starts_of : Object → List Event
starts_of o = map (λ row. Start row.statement row.instance) o.rows

-- the decisions whose conditions branches of an object decide, with their instances
abbrev pub decided_by : List Role → List Decided
decided_by [] = []
decided_by (role ∷ roles) = if is_condition role then record { decision = role.decision; instance = role.instance } ∷ decided_by roles else decided_by roles

abbrev pub decided_in : Object → List Decided
decided_in o = decided_by o.roles

-- a row of the object gives this start
abbrev pub HasRow : Object → StartEntry → Type 0
HasRow o s = Somewhere (λ e. e ≡ start_of s) (starts_of o)

-- there is such a decision, also in that instance, and a path of its graph from the root to a leaf gives this vector
pub record IsPossible (o : Object) (v : VectorEntry) : Type 0 where
  pub known : v.decision.0 < length o.obligations.decisions
  pub decided : Somewhere (λ d. d ≡ record { decision = v.decision; instance = v.instance }) (decided_in o)
  pub path : IsPathVector (graph_at o v.decision.0) v.vector

-- runs of the object can have this event: a row starts the statement, or the evaluation is possible
abbrev pub IsPossibleEvent : Object → Event → Type 0
IsPossibleEvent o (Start s i) = HasRow o (record { statement = s; instance = i })
IsPossibleEvent o (Done d i v) = IsPossible o (record { decision = d; instance = i; vector = v })

-- they can have each of these events
abbrev pub ArePossible : Object → List Event → Type 0
ArePossible o events = (e : Event) → Somewhere (λ x. x ≡ e) events → IsPossibleEvent o e

-- each of the first so many entries is so
abbrev pub AreBefore : {X : Type 0} → (X → Type 0) → List X → ℕ → Type 0
AreBefore P xs n = (i : ℕ) → i < n → IfSome (slice_get xs i) P

-- the place of the first entry that is not so; none where each is
abbrev pub IsFirstBeyond : {X : Type 0} → (X → Type 0) → List X → Option ℕ → Type 0
IsFirstBeyond P xs None = AreBefore P xs (length xs)
IsFirstBeyond P xs (Some at) = AreBefore P xs at × (at < length xs) × IfSome (slice_get xs at) (λ x. P x → ⊥)

-- a file that passes the checks of the format is one of the object's runs, as far as can be seen: it keeps the object's digest, each start
-- has a row, and each evaluation is possible
pub record FitsObject (o : Object) (f : ConsolidatedFile) : Type 0 where
  pub own : f.object ≡ o.closing
  pub starts : IsFirstBeyond (HasRow o) f.starts None
  pub vectors : IsFirstBeyond (IsPossible o) f.vectors None

-- the first of these checks that it fails, and where
abbrev pub IsRefusedBeside : Object → ConsolidatedFile → ConsFault → Type 0
IsRefusedBeside o f (faults.Foreign kept object) = (kept ≡ f.object) × (object ≡ o.closing) × (f.object ≢ o.closing)
IsRefusedBeside o f (faults.Start at) = (f.object ≡ o.closing) × IsFirstBeyond (HasRow o) f.starts (Some at)
IsRefusedBeside o f (faults.Vector at) =
    (f.object ≡ o.closing) × IsFirstBeyond (HasRow o) f.starts None × IsFirstBeyond (IsPossible o) f.vectors (Some at)
IsRefusedBeside o f faults.Short = ⊥
IsRefusedBeside o f faults.Magic = ⊥
IsRefusedBeside o f faults.Version = ⊥
IsRefusedBeside o f faults.Long = ⊥
IsRefusedBeside o f faults.Damaged = ⊥
IsRefusedBeside o f (faults.Order at) = ⊥
IsRefusedBeside o f (faults.Flag at) = ⊥

-- why such a file is not taken: the first of these checks that fails, where memory wasn't refused
abbrev pub IsRefusedFor : Object → ConsolidatedFile → Failure ConsFault → Type 0
IsRefusedFor o f (Fault fault) = IsRefusedBeside o f fault
IsRefusedFor o f WantOfMemory = Unit {0}

-- a coverage of an object that says what these bytes say, which pass all checks
pub record IsReadOf (o : Object) (bytes : List ℕ) (c : Covered) : Type 0 where
  pub file : ConsolidatedFile
  pub is : consolidated_of bytes ≡ Ok file
  pub fits : FitsObject o file
  pub object : c.object ≡ o
  pub runs : (digest : List ℕ) → HasRun c digest ↔ Somewhere (λ d. d ≡ digest) file.runs
  pub events : (e : Event) → Has c e ↔ Somewhere (λ x. x ≡ e) (events_in file)

-- bytes that pass the checks of the format, and fail this one beside the object
pub record IsBeside (o : Object) (bytes : List ℕ) (fault : ConsFault) : Type 0 where
  pub file : ConsolidatedFile
  pub is : consolidated_of bytes ≡ Ok file
  pub refused : IsRefusedBeside o file fault

-- why bytes are not read: the first check that fails, where memory wasn't refused
abbrev pub IsRefused : Object → List ℕ → Failure ConsFault → Type 0
IsRefused o bytes (Fault fault) = (consolidated_of bytes ≡ Err fault) ⊎ IsBeside o bytes fault
IsRefused o bytes WantOfMemory = Unit {0}
