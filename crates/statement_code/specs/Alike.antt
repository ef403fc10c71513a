-- What names of a text come to where they are worked out in another way than by the meaning of programs.
use Rattle.std.specs.Prelude.{◌≡◌, ℕ, Bool}
use Rattle.ada_meaning.specs.Program.{Target, Program}
use Rattle.ada_meaning.specs.Resolved.{number_in, bounds_in, target_in, exception_in, parameters_of}
use Rattle.ada_meaning.specs.Shape.{Shape}
use Rattle.ada_meaning.specs.Tree as tree
use Rattle.ada_meaning.specs.Types as type
use Rattle.ada_meaning.specs.WellFormed.{IsNumber, IsRange, IsException, IsCallable}
use Rattle.statement_code.specs.Names.{Names}

-- names that come to the same as those of an instance of a program, in each well-formed text
pub record AreNamesIn (p : Program) (inst : ℕ) (shape_of : tree.Object → Shape) (names : Names) : Type 0 where
  pub instance : names.instance ≡ inst
  pub numbers : (e : type.Static) → IsNumber p inst shape_of e → names.number e ≡ number_in p inst e
  pub bounds : (r : type.Range) → IsRange p inst shape_of r → names.bounds r ≡ bounds_in p inst r
  pub targets : (c : tree.Callee) → names.target c ≡ target_in p inst c
  pub parameters : (f : Bool) (t : Target) → IsCallable p f t → names.parameters t ≡ parameters_of p t
  pub exceptions : (x : tree.ExceptionName) → IsException p inst shape_of x → names.exception x ≡ exception_in p inst x
