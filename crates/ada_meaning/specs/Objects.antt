-- The declarations of objects in a program, by their numbers.
use Rattle.std.specs.Prelude.{◌≡◌, ℕ, List, [], ◌∷◌, ◌++◌, map}
use Rattle.cov_base.specs.Lists.{Everywhere}
use Rattle.ada_meaning.specs.Tree.{Declaration, initialized, without_value, Stmt, null_statement, assignment, procedure_call, if_statement, case_statement, bare_loop, while_loop, for_loop, exit_statement, exit_when, return_statement, return_value, raise_statement, raise_again, block_statement, Stmts, no_statement, and_statement, Branches, else_part, branch, Alternatives, no_alternative, alternative, Handlers, no_handler, handler, Block, block}
use Rattle.ada_meaning.specs.Program.{Subprogram, Program}

-- the number of a declaration
abbrev pub number_of : Declaration → ℕ
number_of (initialized l d v) = d
number_of (without_value d t) = d

abbrev mutual
  -- the objects that a statement declares: those of blocks, and loop parameters
  pub objects : Stmt → List ℕ
  objects (null_statement l) = []
  objects (assignment l o parts v) = []
  objects (procedure_call l c actuals) = []
  objects (if_statement l bs) = branch_objects bs
  objects (case_statement l e choices) = alternative_objects choices
  objects (bare_loop l ss) = all_objects ss
  objects (while_loop l d t ss) = all_objects ss
  objects (for_loop l d reversed r ss) = d ∷ all_objects ss
  objects (exit_statement l) = []
  objects (exit_when l d t) = []
  objects (return_statement l) = []
  objects (return_value l r e) = []
  objects (raise_statement l x) = []
  objects (raise_again l) = []
  objects (block_statement b) = block_objects b

  -- those of statements
  pub all_objects : Stmts → List ℕ
  all_objects no_statement = []
  all_objects (and_statement s ss) = objects s ++ all_objects ss

  -- those of the branches of an if statement
  pub branch_objects : Branches → List ℕ
  branch_objects (else_part ss) = all_objects ss
  branch_objects (branch d t ss bs) = all_objects ss ++ branch_objects bs

  -- those of the alternatives of a case statement
  pub alternative_objects : Alternatives → List ℕ
  alternative_objects no_alternative = []
  alternative_objects (alternative cs ss rest) = all_objects ss ++ alternative_objects rest

  -- those of handlers
  pub handler_objects : Handlers → List ℕ
  handler_objects no_handler = []
  handler_objects (handler cs ss hs) = all_objects ss ++ handler_objects hs

  -- those of a block or a body
  pub block_objects : Block → List ℕ
  block_objects (block ds ss hs) = map number_of ds ++ (all_objects ss ++ handler_objects hs)

-- the objects of a subprogram: its parameters, and what its body declares
abbrev pub objects_of : Subprogram → List ℕ
objects_of s = map (λ q. q.declaration) s.parameters ++ block_objects s.body

-- no number comes twice
abbrev pub AreDistinct : List ℕ → Type 0
AreDistinct [] = Unit {0}
AreDistinct (x ∷ xs) = Everywhere (λ y. x ≡ y → ⊥) xs × AreDistinct xs

-- Declarations have numbers of their own: the objects of each subprogram, those of the library level, and exceptions. An exception of two
-- instances is one declaration.
pub record IsDeclaredOnce (p : Program) : Type 0 where
  pub locals : Everywhere (λ s. AreDistinct (objects_of s)) p.subprograms
  pub library : AreDistinct (map (λ o. o.declaration) p.objects)
  pub exceptions : AreDistinct (map (λ d. d.declaration) p.declared)
