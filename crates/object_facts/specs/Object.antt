-- What an object says of its addresses and decisions, and what runs of it show.
use Rattle.std.specs.Prelude.{◌≡◌, ℕ, true, ◌==◌, List, find, option_map}
use Rattle.decision_map.specs.Decisions.{graph_at, is_tree_at}
use Rattle.decision_map.specs.Kinds.{kind_in, kinds_of_text}
use Rattle.decision_map.specs.Roles.{condition_at}
use Rattle.decision_map.specs.declared.condition.Condition.{Condition as Decided}
use Rattle.cov_base.specs.Lists.{Everywhere}
use Rattle.line_table.specs.declared.rows.Row.{Row as Line}
use Rattle.object_format.specs.declared.object.Object.{Object}
use Rattle.rv_isa.specs.Control.{is_branch, is_transfer, holds}
use Rattle.object_facts.specs.Held.{instruction_at}
use Rattle.rv_semantics.specs.declared.stepped.Seen.{Seen}
use Rattle.rv_machine.specs.Objects.{object_image}
use Rattle.transcript.specs.Facts.{Facts, Row, Condition}
use Rattle.transcript.specs.Pieces.{RunsOn}
use Rattle.transcript.specs.Trace.{HasEdges}
use Rattle.object_facts.specs.Kinds.{is_executable}

-- what a row says of its address
abbrev pub row_of : Line → Row
row_of line = record { statement = line.statement; instance = line.instance }

-- what the role of a condition says of its branch
abbrev pub condition_of : Decided → Condition
condition_of c = record { decision = c.decision; at_node = c.condition.0; when_taken = c.when_taken; instance = c.instance }

-- the facts of an object: its text by the instructions that stand there, its rows and roles by their addresses, and the graph of each
-- decision's expression
abbrev pub facts_of : Object → Facts
facts_of o = record {
  transfers = λ pc. holds is_transfer (instruction_at (object_image o) pc);
  branches = λ pc. holds is_branch (instruction_at (object_image o) pc);
  row = λ pc. option_map row_of (find (λ (line : Line). line.address == pc) o.rows);
  condition = λ pc. option_map condition_of (condition_at o pc);
  graph = λ d. graph_at o d.0;
  tree = λ d. is_tree_at o d.0;
}

-- each executed instruction stands in a text, at a word that can be executed
abbrev pub ArePlaced : (text : List ℕ) → List Seen → Type 0
ArePlaced text ss = Everywhere (λ s. is_executable (kind_in (kinds_of_text text) s.pc) ≡ true) ss

-- what holds of the instructions that a run of an object executes: they go on from word to word inside a piece, just the conditional
-- branches have an edge, and each stands in the text, at a word that can be executed
pub record IsTranscript (o : Object) (ss : List Seen) : Type 0 where
  pub runs_on : RunsOn (facts_of o) ss
  pub edges : HasEdges (facts_of o) ss
  pub placed : ArePlaced o.text ss
