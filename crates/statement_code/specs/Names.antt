-- What names of a text come to, as its code has them.
use Rattle.std.specs.Prelude.{ℕ, ℤ, List}
use Rattle.ada_meaning.specs.Program.{Bounds, Target, Program}
use Rattle.ada_meaning.specs.Resolved.{ResolvedParameter, number_in, bounds_in, target_in, parameters_of, exception_in}
use Rattle.ada_meaning.specs.Tree as tree
use Rattle.ada_meaning.specs.Types as type

-- the instance that a text is read in; the values of static expressions and the bounds of ranges; what calls come to, with the parameters of
-- what is called; the numbers of exceptions
pub record Names : Type 0 where
  pub instance : ℕ
  pub number : type.Static → ℤ
  pub bounds : type.Range → Bounds
  pub target : tree.Callee → Target
  pub parameters : Target → List ResolvedParameter
  pub exception : tree.ExceptionName → ℕ

-- what they are in an instance of a program
abbrev pub names_in : Program → ℕ → Names
names_in p inst = record {
  instance = inst;
  number = number_in p inst;
  bounds = bounds_in p inst;
  target = target_in p inst;
  parameters = parameters_of p;
  exception = exception_in p inst;
}
