-- Token lists that begin alike.
use Rattle.std.specs.Prelude.{◌∷◌}
use Rattle.ada_lexer.specs.declared.token.Token.{Token}
use Rattle.expression_parser.specs.Reading.{Tokens}

-- two token lists are the same up to the first token of their ends `at` and `at'`, that one too
pub data Agree : Tokens → Tokens → Tokens → Tokens → Type 0 where
  here : {t : Token} {us us' : Tokens} → Agree (t ∷ us) (t ∷ us) (t ∷ us') (t ∷ us')
  later : {t : Token} {ts at ts' at' : Tokens} → Agree ts at ts' at' → Agree (t ∷ ts) at (t ∷ ts') at'

-- the first list is the end of the second
pub data Suffix : Tokens → Tokens → Type 0 where
  all : {ts : Tokens} → Suffix ts ts
  after : {t : Token} {at ts : Tokens} → Suffix at ts → Suffix at (t ∷ ts)
