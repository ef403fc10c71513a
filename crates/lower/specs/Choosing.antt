-- The pieces that code which chooses what comes next is put together of, by what the code of a body is made by.
use Rattle.std.specs.Prelude.{ℕ, List}
use Rattle.ada_meaning.specs.Tree as tree
use Rattle.kernel_ir.specs.Tree.{Code}
use Rattle.statement_code.specs.Flows.{decided_code, choice_code, choices_code}
use Rattle.statement_code.specs.Statements.{exception_choice_code, exception_choices_code, bounds_code}
use Rattle.lower.specs.declared.context.BodyContext.{BodyContext}
use Rattle.lower.specs.Context.{names_for, shape_for, home_for, site_for}

module _ (c : BodyContext) where
  -- evaluates a decision into the slot k, and goes on by its outcome
  abbrev pub decided_for : (k : ℕ) → tree.Label → tree.Test → (if_true if_false : Code) → Code
  decided_for k d t a b = decided_code (names_for c) (shape_for c) (home_for c) (site_for c) k d t a b

  -- whether the value in the slot k is among those of a choice, and of choices (RM 5.4)
  abbrev pub choice_for : (k : ℕ) → tree.Choice → Code
  choice_for k x = choice_code (names_for c) (shape_for c) (home_for c) (site_for c) k x

  abbrev pub choices_for : (k : ℕ) → List tree.Choice → Code
  choices_for k xs = choices_code (names_for c) (shape_for c) (home_for c) (site_for c) k xs

  -- whether the exception in the slot k is one of a choice, and of choices (RM 11.4)
  abbrev pub exception_choice_for : (k : ℕ) → tree.ExceptionChoice → Code
  exception_choice_for k x = exception_choice_code (names_for c) (shape_for c) (home_for c) (site_for c) k x

  abbrev pub exception_choices_for : (k : ℕ) → List tree.ExceptionChoice → Code
  exception_choices_for k xs = exception_choices_code (names_for c) (shape_for c) (home_for c) (site_for c) k xs

  -- the bounds of a loop, into the slot k and the one behind it (RM 5.5)
  abbrev pub bounds_for : (k : ℕ) → tree.LoopRange → Code
  bounds_for k turns = bounds_code (names_for c) (shape_for c) (home_for c) (site_for c) k turns
