-- How the counters of the walk go on.
use Rattle.std.specs.Prelude.{◌≡◌, ◌+◌}
use Rattle.cov_base.specs.declared.position.Pos.{Pos}
use Rattle.ada_tree.specs.declared.label.Label.{Label}
use Rattle.ada_tree.specs.View.{label_of}
use Rattle.ada_rules.specs.Environment.{State, statement_label, started, one_type_more}
use Rattle.program_walk.specs.declared.counts.Counts.{Counts}
use Rattle.program_walk.specs.States.{with_counts}

-- the label of a statement obligation, whose number is taken
abbrev pub IsLabel : Counts → Pos → Label → Type 0
IsLabel old p l = (s : State) → label_of l ≡ statement_label (with_counts old s) p

abbrev pub Starts : (old new : Counts) → Type 0
Starts old new = (s : State) → with_counts new s ≡ started (with_counts old s)

-- one object more of the subprogram or of the library level, one exception, one type
abbrev pub CountsObject : (old new : Counts) → Type 0
CountsObject old new = new ≡ record old { objects = old.objects + 1 }

abbrev pub CountsLibraryObject : (old new : Counts) → Type 0
CountsLibraryObject old new = new ≡ record old { library_objects = old.library_objects + 1 }

abbrev pub CountsException : (old new : Counts) → Type 0
CountsException old new = new ≡ record old { exceptions = old.exceptions + 1 }

abbrev pub CountsType : (old new : Counts) → Type 0
CountsType old new = (s : State) → with_counts new s ≡ one_type_more (with_counts old s)
