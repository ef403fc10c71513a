-- Exceptions that are listed one by one.
use Rattle.std.proofs.Common.{ℕ, List, map}
use Rattle.ada_meaning.specs.Obligations.{listed_for, listed}
use Rattle.ada_tree.specs.declared.program.ExceptionDeclaration.{ExceptionDeclaration}
use Rattle.ada_tree.specs.declared.program.Instance.{Instance}
use Rattle.ada_tree.specs.Programs.{exception_declaration_of, instance_of}
use Rattle.typed_program.specs.declared.exceptions.Listed.{Listed}
use Rattle.typed_program.specs.Exceptions.{entry_of}

module _ (d : ExceptionDeclaration) (g : ℕ) where
  -- those of the instances that are left, numbered from n on
  abbrev pub left_in : ℕ → List Instance → List Listed
  left_in n is = map entry_of (listed_for (exception_declaration_of d) g n (map instance_of is))

-- those of the declarations that are left
abbrev pub all_left : List Instance → List ExceptionDeclaration → List Listed
all_left is ds = map entry_of (listed (map exception_declaration_of ds) (map instance_of is))
