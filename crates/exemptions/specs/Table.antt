-- How the code's lists of spellings are read.
use Rattle.std.specs.Prelude.{ℕ, List, [], ◌∷◌, Option, Some, None, if◌then◌else◌}
use Rattle.std.specs.Borrow.{Bor}
use Rattle.std.specs.Str.{str_eq_ignore_ascii_case}
use Rattle.ada_lexer.specs.declared.token.Token.{Token}

-- the tokens behind those that begin with these spellings, case ignored; none where they begin otherwise
unfoldable pub behind_in : List (Bor (List ℕ)) → List Token → Option (List Token)
behind_in [] tokens = Some tokens
behind_in (spelling ∷ spellings) [] = None
behind_in (spelling ∷ spellings) (token ∷ tokens) =
    if str_eq_ignore_ascii_case spelling.now token.text then behind_in spellings tokens else None
