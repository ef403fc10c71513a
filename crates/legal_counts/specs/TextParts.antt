-- The tokens of the units of a program by the generics in whose text they stand.
use Rattle.std.specs.Prelude.{◌≡◌, ℕ, ◌+◌, List, [], ◌∷◌, sum_by, Option}
use Rattle.cov_base.specs.Lists.{Everywhere}
use Rattle.ada_syntax.specs.Nodes.{capped, unit_nodes}
use Rattle.ada_syntax.specs.declared.unit.Unit.{Unit as LibraryUnit}
use Rattle.ada_meaning.specs.Program.{Subprogram, ExceptionDeclaration}
use Rattle.ada_rules.specs.Environment.{World}
use Rattle.ada_rules.specs.Library.{Library}
use Rattle.ada_tree.specs.Weights.{unit_nodes_in}
use Rattle.program_weights.specs.Entries.{role_of}
use Rattle.statement_code.specs.Sizes.{subprogram_nodes}
use Rattle.legal_types.specs.TextGenerics.{text_generic, part_in}

-- those of units that are numbered from n on
abbrev pub text_nodes_in : Option ℕ → World → Library → ℕ → List LibraryUnit → ℕ
text_nodes_in g w l n [] = 0
text_nodes_in g w l n (u ∷ us) = part_in g (text_generic w l n u.item) (unit_nodes u) + text_nodes_in g w l (n + 1) us

-- the same by the roles that the units have
abbrev pub role_nodes_in : Option ℕ → World → Library → ℕ → List LibraryUnit → ℕ
role_nodes_in g w l n [] = 0
role_nodes_in g w l n (u ∷ us) = unit_nodes_in g (role_of w l n u.item) (unit_nodes u) + role_nodes_in g w l (n + 1) us

-- the nodes of the bodies that stand in a generic, or in none, and the exceptions that are declared there
abbrev pub nodes_in : Option ℕ → List Subprogram → ℕ
nodes_in g ss = sum_by (λ s. part_in g s.generic (subprogram_nodes s)) ss

abbrev pub exceptions_in : Option ℕ → List ExceptionDeclaration → ℕ
exceptions_in g ds = sum_by (λ d. part_in g d.generic 1) ds

-- no unit has more tokens than are counted
abbrev pub AreCounted : List LibraryUnit → Type 0
AreCounted us = Everywhere (λ u. capped (unit_nodes u) ≡ unit_nodes u) us
