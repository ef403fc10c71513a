-- Exceptions in their order, without their names.
use Rattle.std.specs.Prelude.{ℕ, nat_eq, Bool, not, ◌&&◌, ◌||◌, List, [], ◌∷◌, map, if◌then◌else◌}
use Rattle.cov_base.specs.TextOrder.{precedes}
use Rattle.ada_meaning.specs.Obligations.{ListedException, in_order, is_listed_before}
use Rattle.ada_meaning.specs.Obligations as meaning
use Rattle.ada_meaning.specs.Program as program
use Rattle.ada_tree.specs.declared.program.ExceptionDeclaration.{ExceptionDeclaration}
use Rattle.ada_tree.specs.declared.program.Instance.{Instance}
use Rattle.typed_program.specs.declared.exceptions.Listed.{Listed}

-- an exception by its places and its number
abbrev pub entry_of : ListedException → Listed
entry_of x = record {
  outer = x.outer;
  inner = x.inner;
  entry = record { instance = x.entry.instance; declaration = x.entry.declaration };
}

abbrev pub is_before : Listed → Listed → Bool
is_before a b = precedes a.outer b.outer || not (precedes b.outer a.outer) && precedes a.inner b.inner

-- one of a generic with this number, in an instance that may be one of it
abbrev pub in_one : ExceptionDeclaration → ℕ → ℕ → Instance → List Listed
in_one d g n i =
    if nat_eq i.generic g
    then record { outer = i.place; inner = d.place; entry = record { instance = n; declaration = d.declaration } } ∷ []
    else []

-- the exceptions of a program
abbrev pub raised : List program.ExceptionDeclaration → List program.Instance → List program.Raisable
raised ds is = map (λ x. x.entry) (in_order is_listed_before (meaning.listed ds is))
