-- What was read, with a given word behind it.
use Rattle.std.specs.Prelude.{◌≡◌, Result, Ok, Err, ⊤}
use Rattle.std.specs.Borrow.{Bor}
use Rattle.expression_parser.specs.declared.fault.Fault.{Fault}
use Rattle.expression_parser.specs.declared.fault.Fault.TheVariants.{Syntax, Memory}
use Rattle.expression_parser.specs.declared.symbol.Symbol.{Symbol}
use Rattle.expression_parser.specs.Reading.{Tokens, Stuck, expect}
use Rattle.expression_parser.specs.Shows.{Skipped}

-- a part was read, and a given word is taken behind it
abbrev pub Closes : {A : Type 0} → Symbol → Result (A × Bor Tokens) Fault → Result (A × Bor Tokens) Fault → Type 0
Closes s (Ok x) (Ok y) = (y.0 ≡ x.0) × Skipped s x.1.now y.1.now
Closes s (Ok x) (Err (Syntax rest)) = expect s x.1.now ≡ Stuck rest.now
Closes s (Ok x) (Err Memory) = ⊤
Closes s (Err f) (Ok y) = ⊥
Closes s (Err f) (Err g) = g ≡ f
