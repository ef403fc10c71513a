-- What a rebuild holds of a history.
use Rattle.std.specs.Prelude.{◌≡◌, ℕ, List, [], map, length, option_and_then, option_to_list, Option, Some, None}
use Rattle.std.specs.Option.{option_map}
use Rattle.std.specs.HashMap.{spare}
use Rattle.cov_base.specs.declared.event.Event.{Event}
use Rattle.cov_base.specs.declared.event.Event.TheVariants.{Done}
use Rattle.cov_base.specs.declared.event.Vector.{Vector}
use Rattle.cov_base.specs.declared.failure.Failure.{Failure}
use Rattle.cov_base.specs.declared.failure.Failure.TheVariants.{Fault, WantOfMemory}
use Rattle.cov_base.specs.Graph.{Next}
use Rattle.cov_base.specs.Path.{Step as PathStep}
use Rattle.transcript.specs.Facts.{Facts}
use Rattle.transcript.specs.Replay.{Half as Open, Keeps, with_step, half_by, over_by}
use Rattle.transcript.specs.Reading.{Follows, AllFollow, AreDoneAt}
use Rattle.transcript.specs.Trace.{visit_in, visits_in}
use Rattle.transcript.specs.Visit.{Key as Activation, Visit as Visited, onto}
use Rattle.trace_format.specs.declared.trace.HistoryEntry.{HistoryEntry}
use Rattle.vector_rebuild.specs.declared.fault.BrokenHistory.{BrokenHistory}
use Rattle.vector_rebuild.specs.declared.visit.Key.{Key}
use Rattle.vector_rebuild.specs.declared.visit.Step.{Step}
use Rattle.vector_rebuild.specs.declared.visit.Visit.{Visit}
use Rattle.vector_rebuild.specs.declared.half.Half.{Half}
use Rattle.vector_rebuild.specs.declared.rebuild.Rebuild.{Rebuild}
use Rattle.vector_rebuild.specs.Entries.{branched_of}
use Rattle.vector_rebuild.specs.Kept.{half_in}

-- ---- the program's values as what they stand for

abbrev pub key_as : Key → Activation
key_as k = record { decision = record { 0 = k.decision }; instance = record { 0 = k.instance }; x8 = k.x8 }

abbrev pub step_as : Step → PathStep
step_as s = record { at_node = s.node.0; value = s.value }

abbrev pub visit_as : Visit → Visited
visit_as v = record {
  key = record { decision = v.decision; instance = v.instance; x8 = v.x8 };
  step = step_as v.step;
}

abbrev pub half_as : Half → Open
half_as h = record { vector = h.vector; next = h.next.0 }

-- the key as the program keeps it
abbrev pub key_in : Activation → Key
key_in k = record { decision = k.decision.0; instance = k.instance.0; x8 = k.x8 }

-- ---- what is held

-- the evaluation of a key that is under way
abbrev pub kept_of : Rebuild → Activation → Option Open
kept_of r k = option_map half_as (half_in r.halves (key_in k))

-- how many entries were fed
abbrev pub count_of : Rebuild → ℕ
count_of r = r.fed

-- for how many entries there is room
abbrev pub room_of : Rebuild → ℕ
room_of r = spare r.halves.table

-- of each key the same is under way, and as many entries were fed
pub record IsAsBefore (old new : Rebuild) : Type 0 where
  pub kept : (k : Activation) → kept_of new k ≡ kept_of old k
  pub count : count_of new ≡ count_of old

-- the visits of a history, in order
abbrev pub visits_of : Facts → List HistoryEntry → List Visited
visits_of o fed = visits_in o (map branched_of fed)

-- A rebuild holds what these entries of a history leave, which all follow those before them: of each key the evaluation that is under
-- way, and how many they are.
pub record Rebuilds (o : Facts) (r : Rebuild) (fed : List HistoryEntry) : Type 0 where
  pub follow : AllFollow o [] (visits_of o fed)
  pub kept : Keeps o (kept_of r) (onto (visits_of o fed) [])
  pub count : count_of r ≡ length fed

-- ---- one step

-- the event of a visit that completes an evaluation with this vector, if it completes one
abbrev pub event_by : Visited → Option Vector → Option Event
event_by v completed = option_map (λ (vector : Vector). Done v.key.decision v.key.instance vector) completed

-- the evaluation that an entry which comes with this vector to its node completes, if it completes one; none, where none comes there
abbrev pub taken_by : Next → PathStep → Option Vector → Option (Option Vector)
taken_by next step coming = option_map (λ vector. over_by next (with_step vector step)) coming

-- what is under way after it
abbrev pub under_way : Next → PathStep → Option Vector → Option Open
under_way next step coming = option_and_then (λ vector. half_by next (with_step vector step)) coming

-- why a step isn't taken: no evaluation comes to its node, and `at` entries were fed before
abbrev pub IsOff : ℕ → Option Vector → Failure BrokenHistory → Type 0
IsOff fed coming (Fault broken) = (broken.at ≡ fed) × (coming ≡ None)
IsOff fed coming WantOfMemory = Unit {0}

-- the events of the entry that comes after these ones, by the relation that says which evaluations are completed
abbrev pub IsEventOf : Facts → List HistoryEntry → HistoryEntry → Option Event → Type 0
IsEventOf o fed entry event = AreDoneAt o (onto (visits_of o fed) []) (visit_in o (branched_of entry)) (option_to_list event)

-- why an entry isn't fed after these ones: it follows none of them, and `at` is how many they are
abbrev pub IsRefusedAfter : Facts → List HistoryEntry → HistoryEntry → Failure BrokenHistory → Type 0
IsRefusedAfter o fed entry (Fault broken) =
    (broken.at ≡ length fed)
    × ((v : Visited) → visit_in o (branched_of entry) ≡ Some v → Follows o (onto (visits_of o fed) []) v → ⊥)
IsRefusedAfter o fed entry WantOfMemory = Unit {0}
