-- What the events of an execution name.
use Rattle.std.specs.Prelude.{◌≡◌, ℕ, Bool, List, ◌∷◌}
use Rattle.cov_base.specs.declared.event.Event.{Event}
use Rattle.cov_base.specs.declared.event.Event.TheVariants.{Start, Done}
use Rattle.cov_base.specs.declared.event.Vector.{Vector}
use Rattle.cov_base.specs.Graph.{graph}
use Rattle.cov_base.specs.Marks.{marks, outcome}
use Rattle.cov_base.specs.Path.{IsPathVector}
use Rattle.cov_base.specs.Lists.{Somewhere}
use Rattle.ada_meaning.specs.Tree.{Label, Test, shape_of}
use Rattle.ada_meaning.specs.Program.{Program}
use Rattle.ada_meaning.specs.State.{World}
use Rattle.ada_meaning.specs.Collected.{labels_of, decisions_of}

-- an event names a statement obligation of the program, or a decision of it with the vector of a path of its graph
abbrev pub IsEventOf : Program → Event → Type 0
IsEventOf p (Start s i) = Somewhere (λ l. l.number ≡ s.0) (labels_of p.subprograms)
IsEventOf p (Done d i v) =
    Somewhere (λ h. (h.label.number ≡ d.0) × IsPathVector (graph (shape_of h.test)) v) (decisions_of p.subprograms)

-- in this state an evaluation of a decision that gave b was just noted: by the vector of a path of its graph, with that outcome
pub record IsNoted (d : Label) (inst : ℕ) (t : Test) (b : Bool) (w : World) : Type 0 where
  pub vector : Vector
  pub before : List Event
  pub events : w.seen.events ≡ Done (record { 0 = d.number }) (record { 0 = inst }) vector ∷ before
  pub path : IsPathVector (graph (shape_of t)) vector
  pub outcome : outcome (shape_of t) (marks vector) ≡ b
