-- What a subprogram declares: its objects with their shapes in an instance, by their numbers, and whether it gives a result.
use Rattle.std.specs.Prelude.{ℕ, nat_eq, Bool, true, false, ◌||◌, List, [], ◌∷◌, map, slice_get, unwrap_or, if◌then◌else◌}
use Rattle.ada_meaning.specs.Arithmetic.{base_range}
use Rattle.ada_meaning.specs.Program.{LibraryObject, Subprogram, Program}
use Rattle.ada_meaning.specs.Resolved.{owner_in, shape_in}
use Rattle.ada_meaning.specs.Shape.{Shape, word}
use Rattle.ada_meaning.specs.Tree.{Object, library_object, local_object, Stmt, null_statement, assignment, procedure_call, if_statement, case_statement, bare_loop, while_loop, for_loop, exit_statement, exit_when, return_statement, return_value, raise_statement, raise_again, block_statement, Stmts, no_statement, and_statement, Branches, else_part, branch, Alternatives, no_alternative, alternative, Handlers, no_handler, handler, Block, block}

-- the shapes of the objects of a subprogram, by their numbers
abbrev pub object_shapes : Program → (inst : ℕ) → Subprogram → List Shape
object_shapes p inst s = map (shape_in p inst) s.objects

-- the shape of the library-level object with this number, in an instance
abbrev pub library_shape : Program → (inst declaration : ℕ) → List LibraryObject → Shape
library_shape p inst d [] = word base_range
library_shape p inst d (o ∷ os) = if nat_eq o.declaration d then shape_in p inst o.subtype else library_shape p inst d os

-- the shape of an object, as a subprogram names it in an instance
abbrev pub object_shape : Program → (inst : ℕ) → Subprogram → Object → Shape
object_shape p inst s (library_object o d) = library_shape p (owner_in inst o) d p.objects
object_shape p inst s (local_object d) = unwrap_or (slice_get (object_shapes p inst s) d) (word base_range)

abbrev mutual
  -- whether a statement returns a value, or one in it (RM 6.5)
  pub gives : Stmt → Bool
  gives (null_statement l) = false
  gives (assignment l o parts v) = false
  gives (procedure_call l c actuals) = false
  gives (if_statement l bs) = branch_gives bs
  gives (case_statement l e choices) = alternative_gives choices
  gives (bare_loop l ss) = some_gives ss
  gives (while_loop l d t ss) = some_gives ss
  gives (for_loop l d reversed ts ss) = some_gives ss
  gives (exit_statement l) = false
  gives (exit_when l d t) = false
  gives (return_statement l) = false
  gives (return_value l r e) = true
  gives (raise_statement l x) = false
  gives (raise_again l) = false
  gives (block_statement b) = block_gives b

  pub some_gives : Stmts → Bool
  some_gives no_statement = false
  some_gives (and_statement s ss) = gives s || some_gives ss

  pub branch_gives : Branches → Bool
  branch_gives (else_part ss) = some_gives ss
  branch_gives (branch d t ss bs) = some_gives ss || branch_gives bs

  pub alternative_gives : Alternatives → Bool
  alternative_gives no_alternative = false
  alternative_gives (alternative cs ss rest) = some_gives ss || alternative_gives rest

  pub handler_gives : Handlers → Bool
  handler_gives no_handler = false
  handler_gives (handler cs ss hs) = some_gives ss || handler_gives hs

  pub block_gives : Block → Bool
  block_gives (block ds ss hs) = some_gives ss || handler_gives hs

-- a function has a return statement with a value, and a procedure has none (RM 6.5)
abbrev pub is_function : Subprogram → Bool
is_function s = block_gives s.body
