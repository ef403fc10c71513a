-- What taking the words at the end of a statement answers.
use Rattle.std.specs.Prelude.{◌≡◌, ◌<◌, length, Result, Ok, Err, ⊤}
use Rattle.std.specs.Borrow.{Bor}
use Rattle.ada_syntax.specs.StatementTree.{Statement}
use Rattle.expression_parser.specs.declared.fault.Fault.{Fault}
use Rattle.expression_parser.specs.declared.fault.Fault.TheVariants.{Syntax, Memory}
use Rattle.expression_parser.specs.declared.symbol.Symbol.{Symbol}
use Rattle.expression_parser.specs.Reading.{Tokens, Got, Stuck}
use Rattle.ada_parser.specs.Lists.{closing, ending}

-- END, a word and a semicolon were taken
pub record Closed (s : Symbol) (ts rest : Tokens) : Type 0 where
  pub by : (a : Statement) → closing s a ts ≡ Got a rest
  pub shorter : length rest < length ts

-- they do not stand there
pub record NotClosed (s : Symbol) (ts rest : Tokens) : Type 0 where
  pub by : (a : Statement) → closing s a ts ≡ Stuck rest

abbrev pub TakesClosing : Symbol → Tokens → Result (Bor Tokens) Fault → Type 0
TakesClosing s ts (Ok rest) = Closed s ts rest.now
TakesClosing s ts (Err (Syntax rest)) = NotClosed s ts rest.now
TakesClosing s ts (Err Memory) = ⊤

pub record Ended (ts rest : Tokens) : Type 0 where
  pub by : (a : Statement) → ending a ts ≡ Got a rest
  pub shorter : length rest < length ts

pub record NotEnded (ts rest : Tokens) : Type 0 where
  pub by : (a : Statement) → ending a ts ≡ Stuck rest

abbrev pub TakesEnd : Tokens → Result (Bor Tokens) Fault → Type 0
TakesEnd ts (Ok rest) = Ended ts rest.now
TakesEnd ts (Err (Syntax rest)) = NotEnded ts rest.now
TakesEnd ts (Err Memory) = ⊤
