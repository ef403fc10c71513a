-- Statements without others in them, as plans behind their labels.
use Rattle.std.specs.Prelude.{List, [], ◌∷◌, Some, option_map, Result}
use Rattle.cov_base.specs.declared.failure.Failure.{Failure}
use Rattle.ada_syntax.specs.Tree.{Name}
use Rattle.ada_syntax.specs.declared.declaration.Initial.{Initial}
use Rattle.ada_meaning.specs.Tree as tree
use Rattle.ada_tree.specs.declared.label.Label.{Label}
use Rattle.ada_tree.specs.Programs.{unfolded_statement}
use Rattle.ada_tree.specs.View.{label_of}
use Rattle.ada_rules.specs.Plan.{Plan, ◌>>=◌, rule, answer_at}
use Rattle.ada_rules.specs.Environment.{State, Given, Env}
use Rattle.ada_rules.specs.Expressions.{denoted}
use Rattle.ada_rules.specs.Declarations.{new_value}
use Rattle.ada_rules.specs.Statements.{one, target, call_of, exception_of, typed_stmt}
use Rattle.ada_entities.specs.declared.fault.Refusal.{Refusal}
use Rattle.ada_entities.specs.EntityViews.{Tables}
use Rattle.ada_phrases.specs.declared.decisions.Decisions.{Decisions}
use Rattle.object_values.specs.program_walk.specs.declared.site.Site.{Site}
use Rattle.object_values.specs.program_walk.specs.Sites.{ComesTo}
use Rattle.ada_entities.specs.Trees.{shapes_in_tree}

-- a statement of the typed program, whose composite types are unfolded from the checker's table
abbrev pub in_tree : Tables → tree.Stmt → tree.Stmt
in_tree k x = unfolded_statement (shapes_in_tree k.types) x

-- alone in a list
abbrev pub alone : tree.Stmt → List tree.Stmt
alone x = x ∷ []

abbrev pub in_program : Tables → tree.Stmt → List tree.Stmt
in_program k x = alone (in_tree k x)

-- an assignment (RM 5.2)
abbrev pub assigning : tree.Label → Env → State → Name → Initial → Plan (Given (List tree.Stmt))
assigning l env s n i = do
  v ← target env s n
  x ← new_value env v.next l.place v.value.subtype i
  rule (Some (one (tree.assignment l v.value.object v.value.parts x.value.value) x.next))

-- a call of a procedure (RM 6.4)
abbrev pub calling : tree.Label → Env → State → Name → Plan (Given (List tree.Stmt))
calling l env s n = do
  d ← denoted env s n
  typed_stmt env l d.next (call_of l d.value)

-- a raise statement with a name (RM 11.3)
abbrev pub raising : tree.Label → Env → State → Name → Plan (Given (List tree.Stmt))
raising l env s n = do
  d ← denoted env s n
  typed_stmt env l d.next (option_map (tree.raise_statement l) (exception_of d.value))

-- A statement behind this label, which is looked at there, from these decisions to those, comes to what the rules say.
abbrev pub States : Site → (old new : Decisions) → Label → (tree.Label → Env → State → Plan (Given (List tree.Stmt)))
    → Result tree.Stmt (Failure Refusal) → Type 0
States site old new l plan result =
    ComesTo in_program site old new (λ env s. answer_at l.place (plan (label_of l) env s).outcome) result
