-- A subprogram of the typed program has no more nodes than the text of its body has tokens that count.
use Rattle.std.specs.Prelude.{◌≤◌, ◌+◌, List, [], ◌∷◌, length, sum_by}
use Rattle.ada_syntax.specs.Nodes.{declaration_nodes, handled_nodes, parameter_nodes}
use Rattle.ada_syntax.specs.declared.unit.SubprogramBody.{SubprogramBody}
use Rattle.ada_meaning.specs.Program.{Subprogram}
use Rattle.statement_code.specs.Sizes.{block_nodes}

-- a parameter is a token of the specification, and a node of the body one of its declarations, statements and handlers
pub record IsWithin (s : Subprogram) (b : SubprogramBody) : Type 0 where
  pub parameters : length s.parameters ≤ sum_by parameter_nodes b.specification.parameters
  pub block : block_nodes s.body ≤ sum_by declaration_nodes b.declarations + handled_nodes b.statements

-- subprograms are those of these bodies, in their order
abbrev pub AreWithin : List Subprogram → List SubprogramBody → Type 0
AreWithin [] [] = Unit {0}
AreWithin (s ∷ ss) (b ∷ bs) = IsWithin s b × AreWithin ss bs
AreWithin ss bs = ⊥
