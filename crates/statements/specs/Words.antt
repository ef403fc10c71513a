-- Where the notes of a walk stand, in the state of the rules.
use Rattle.ada_rules.specs.Environment.{State}
use Rattle.ada_entities.specs.EntityViews.{Tables}
use Rattle.program_walk.specs.ada_demands.specs.StaticsViews.{noted}
use Rattle.program_walk.specs.declared.walk.Walk.{Walk}
use Rattle.program_walk.specs.States.{kept_state}

-- the state of a walk without its decisions
abbrev pub undecided : Tables → Walk → State
undecided k w = noted k w.notes.statics (kept_state k w.counts w.found)
