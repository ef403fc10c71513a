-- How a source is cut, a turn at a time.
use Rattle.std.proofs.Common.{◌≡◌, ◌∙◌, ℕ, suc, zero, ◌+◌, ◌-◌, ◌<◌, ◌≤◌, List, [], ◌∷◌, ◌++◌, Option, Some, None, Ok, Err, length, drop, refl, ap, arith, append_assoc, append-nil, sym, take, length-drop, All, AllPairs, get_or, IsAscii}
use Rattle.std.specs.List.{AllByRecursion}
use Rattle.std.proofs.lemmas.List.Elements.{All-push, All-from_recursion}
use Rattle.std.proofs.lemmas.List.Quantifiers.{all_pairs_push}
use Rattle.std.proofs.lemmas.List.{drop-drop}
use Rattle.cov_base.specs.declared.position.Pos.{Pos}
use Rattle.ada_lexer.specs.declared.token.Lexeme.{Lexeme}
use Rattle.ada_lexer.specs.declared.token.Token.{Token}
use Rattle.ada_lexer.specs.declared.cut.Cut.{Cut}
use Rattle.ada_lexer.specs.declared.cut.Cut.TheVariants as cut
use Rattle.ada_lexer.specs.Cut.{cut_of}
use Rattle.ada_lexer.specs.Tokens.{Tokens, tokens_at, tokens_from, with_token, token_of, token_at, tokens_of, place_at, place_after, IsTokenOf, StandBetween, IsBefore}
use Rattle.ada_lexer.proofs.Places.{place_at-more, place_at-before, file-place_at, counted-place_at}
use Rattle.ada_lexer.proofs.AsciiTexts.{token_ascii}

-- tokens before others
abbrev pub with_tokens : List Token → Tokens → Tokens
with_tokens done (Ok tokens) = Ok (done ++ tokens)
with_tokens done (Err fault) = Err fault

-- what was cut off before is passed over
pub tokens_from-within : (file : ℕ) (source : List ℕ) (within from : ℕ) (left : List ℕ) → tokens_from file source from within left ≡ tokens_from file source (from + within) 0 (drop within left)
tokens_from-within file source zero from left =
    let e : from + 0 ≡ from = omega arith in rw e refl
tokens_from-within file source (suc within) from [] = refl
tokens_from-within file source (suc within) from (byte ∷ left) =
    let e : from + suc within ≡ from + 1 + within = omega arith in
    rw e (tokens_from-within file source within (from + 1) left)

-- a turn looks at what is cut off
turn : (file : ℕ) (source : List ℕ) (from byte : ℕ) (left : List ℕ) (o : Option Cut) → cut_of (byte ∷ left) ≡ o → tokens_from file source from 0 (byte ∷ left) ≡ tokens_at file source from o (λ length. tokens_from file source (from + 1) (length - 1) left)
turn file source from byte left o e =
    ap (λ (p : Option Cut). tokens_at file source from p (λ length. tokens_from file source (from + 1) (length - 1) left)) e

-- and goes on behind it
goes_on : (file : ℕ) (source : List ℕ) (from byte : ℕ) (left : List ℕ) (n : ℕ) → 0 < n → tokens_from file source (from + 1) (n - 1) left ≡ tokens_from file source (from + n) 0 (drop n (byte ∷ left))
goes_on file source from byte left zero some = absurd (omega arith)
goes_on file source from byte left (suc n) some =
    let less : suc n - 1 ≡ n = omega arith in
    let more : from + suc n ≡ from + 1 + n = omega arith in
    rw (less, more) (tokens_from-within file source n (from + 1) left)

-- a turn at a separator or a comment
pub tokens_from-blank : (file : ℕ) (source : List ℕ) (from n : ℕ) (left : List ℕ) → cut_of left ≡ Some (cut.Blank n) → 0 < n → tokens_from file source from 0 left ≡ tokens_from file source (from + n) 0 (drop n left)
tokens_from-blank file source from n [] e some = cc
tokens_from-blank file source from n (byte ∷ left) e some =
    turn file source from byte left _ e ∙ goes_on file source from byte left n some

-- a turn at a token
pub tokens_from-token : (file : ℕ) (source : List ℕ) (from n : ℕ) (lexeme : Lexeme) (left : List ℕ) → cut_of left ≡ Some (cut.Token lexeme n) → 0 < n → tokens_from file source from 0 left ≡ with_token (token_at file source lexeme from (from + n)) (tokens_from file source (from + n) 0 (drop n left))
tokens_from-token file source from n lexeme [] e some = cc
tokens_from-token file source from n lexeme (byte ∷ left) e some =
    turn file source from byte left _ e
    ∙ ap (with_token (token_at file source lexeme from (from + n))) (goes_on file source from byte left n some)

-- a turn where nothing is cut off
pub tokens_from-none : (file : ℕ) (source : List ℕ) (from : ℕ) (left : List ℕ) → cut_of left ≡ None → 0 < length left → tokens_from file source from 0 left ≡ Err (record { pos = place_at file source from })
tokens_from-none file source from [] e some = absurd (omega arith)
tokens_from-none file source from (byte ∷ left) e some = turn file source from byte left None e

-- a token behind others, before the rest
pub with_tokens-push : (done : List Token) (token : Token) (rest : Tokens) → with_tokens (done ++ token ∷ []) rest ≡ with_tokens done (with_token token rest)
with_tokens-push done token (Ok tokens) = rw append_assoc refl
with_tokens-push done token (Err fault) = refl

-- tokens that stand between two offsets stand so up to a later one
pub StandBetween-later : (from : ℕ) (tokens : List Token) (to later : ℕ) → StandBetween from tokens to → to ≤ later → StandBetween from tokens later
StandBetween-later from [] to later stand h = omega arith
StandBetween-later from (token ∷ tokens) to later stand h =
    (stand.0, stand.1, StandBetween-later token.to tokens to later stand.2 h)

-- one more token
StandBetween-push : (from : ℕ) (tokens : List Token) (to : ℕ) (token : Token) → StandBetween from tokens to → to ≤ token.from → token.from < token.to → StandBetween from (tokens ++ token ∷ []) token.to
StandBetween-push from [] to token stand h some = (omega arith, some, omega arith)
StandBetween-push from (t ∷ tokens) to token stand h some =
    (stand.0, stand.1, StandBetween-push t.to tokens to token stand.2 h some)

-- the last offset is no less than the first
StandBetween-le : (from : ℕ) (tokens : List Token) (to : ℕ) → StandBetween from tokens to → from ≤ to
StandBetween-le from [] to stand = stand
StandBetween-le from (token ∷ tokens) to stand = omega (arith, stand.0, stand.1, StandBetween-le token.to tokens to stand.2)

-- each begins before the last offset
each_before : (from : ℕ) (tokens : List Token) (to : ℕ) → StandBetween from tokens to → AllByRecursion (λ (t : Token). t.from < to) tokens
each_before from [] to stand = tt
each_before from (token ∷ tokens) to stand =
    (omega (arith, stand.1, StandBetween-le token.to tokens to stand.2), each_before token.to tokens to stand.2)

-- a token that begins at the last offset stands behind each
pub places_push : (file : ℕ) (source : List ℕ) (tokens : List Token) (token : Token) → All (IsTokenOf file source) tokens → StandBetween 0 tokens token.from → AllPairs (λ (a b : Token). IsBefore a.pos b.pos) tokens → token.pos ≡ place_at file source token.from → token.from ≤ length source → AllPairs (λ (a b : Token). IsBefore a.pos b.pos) (tokens ++ token ∷ [])
places_push file source tokens token slices stand places place within =
    all_pairs_push (λ (a b : Token). IsBefore a.pos b.pos) tokens token places
    (λ k d h.
    let earlier = get_or tokens k d in
    let slice : IsTokenOf file source earlier = slices k d h in
    let begins : earlier.from < token.from = All-from_recursion (λ (t : Token). t.from < token.from) tokens (each_before 0 tokens token.from stand) k d h in
    rw (slice.place, place) (place_at-before file source earlier.from token.from begins within))

-- the state of the lexer: the tokens so far, and the place, the offset and the bytes of what is left
pub record IsAt (file : ℕ) (source : List ℕ) (tokens : List Token) (pos : Pos) (from : ℕ) (rest : List ℕ) : Type 0 where
  pub within : from ≤ length source
  pub left : rest ≡ drop from source
  pub place : pos ≡ place_at file source from
  pub all : with_tokens tokens (tokens_from file source from 0 rest) ≡ tokens_of file source
  pub each : All (IsTokenOf file source) tokens
  pub stand : StandBetween 0 tokens from
  pub places : AllPairs (λ (a b : Token). IsBefore a.pos b.pos) tokens

-- what is left has as many bytes as follow the offset
pub IsAt-within : {file : ℕ} {source : List ℕ} {tokens : List Token} {pos : Pos} {from : ℕ} {rest : List ℕ} → IsAt file source tokens pos from rest → (n : ℕ) → n ≤ length rest → from + n ≤ length source
IsAt-within {file} {source} {tokens} {pos} {from} {rest} is n fits =
    omega (arith, is.within, ap length is.left, length-drop from source)

-- an offset further on
further : (source : List ℕ) (from n : ℕ) (rest : List ℕ) → rest ≡ drop from source → drop n rest ≡ drop (from + n) source
further source from n rest left = rw left (drop-drop n from source)

-- a place further on
placed : (file : ℕ) (source : List ℕ) (from n : ℕ) (rest : List ℕ) (pos : Pos) → pos ≡ place_at file source from → rest ≡ drop from source → place_after pos (take n rest) ≡ place_at file source (from + n)
placed file source from n rest pos place left = rw (place, left) (sym (place_at-more file source from n))

-- the token that the lexer makes is the slice
made : (file : ℕ) (source : List ℕ) (from n : ℕ) (rest : List ℕ) (pos : Pos) (lexeme : Lexeme) → pos ≡ place_at file source from → rest ≡ drop from source → token_of lexeme pos from (from + n) (take n rest) ≡ token_at file source lexeme from (from + n)
made file source from n rest pos lexeme place left =
    let less : from + n - from ≡ n = omega arith in rw (place, left, less) refl

-- and a token of the source
token_made : (file : ℕ) (source : List ℕ) (from n : ℕ) (rest : List ℕ) (pos : Pos) (lexeme : Lexeme) → pos ≡ place_at file source from → rest ≡ drop from source → IsAscii (take n rest) → IsTokenOf file source (token_of lexeme pos from (from + n) (take n rest))
token_made file source from n rest pos lexeme place left ascii =
    let less : from + n - from ≡ n = omega arith in
    let file_at : pos.file ≡ file = rw place (file-place_at file source from) in
    let line_at : 0 < pos.line = rw place (counted-place_at file source from).0 in
    let col_at : 0 < pos.col = rw place (counted-place_at file source from).1 in
    record { text = rw (left, less) refl; ascii = ascii; place = place; in_file = file_at; line = line_at; column = col_at }

-- a separator or a comment leads on
pub blank_step : {file : ℕ} {source : List ℕ} {tokens : List Token} {pos : Pos} {from : ℕ} {rest : List ℕ} → IsAt file source tokens pos from rest → (n : ℕ) → cut_of rest ≡ Some (cut.Blank n) → 0 < n → n ≤ length rest → IsAt file source tokens (place_after pos (take n rest)) (from + n) (drop n rest)
blank_step {file} {source} {tokens} {pos} {from} {rest} is n e some fits = record {
  within = IsAt-within is n fits;
  left = further source from n rest is.left;
  place = placed file source from n rest pos is.place is.left;
  all = ap (with_tokens tokens) (sym (tokens_from-blank file source from n rest e some)) ∙ is.all;
  each = is.each;
  stand = StandBetween-later 0 tokens from (from + n) is.stand (omega arith);
  places = is.places;
}

-- so does a token, which is added
pub token_step : {file : ℕ} {source : List ℕ} {tokens : List Token} {pos : Pos} {from : ℕ} {rest : List ℕ} → IsAt file source tokens pos from rest → (n : ℕ) (lexeme : Lexeme) → cut_of rest ≡ Some (cut.Token lexeme n) → 0 < n → n ≤ length rest → IsAt file source (tokens ++ token_of lexeme pos from (from + n) (take n rest) ∷ []) (place_after pos (take n rest)) (from + n) (drop n rest)
token_step {file} {source} {tokens} {pos} {from} {rest} is n lexeme e some fits = record {
  within = IsAt-within is n fits;
  left = further source from n rest is.left;
  place = placed file source from n rest pos is.place is.left;
  all =
      with_tokens-push tokens (token_of lexeme pos from (from + n) (take n rest)) (tokens_from file source (from + n) 0 (drop n rest))
      ∙ ap (λ (t : Token). with_tokens tokens (with_token t (tokens_from file source (from + n) 0 (drop n rest)))) (made file source from n rest pos lexeme is.place is.left)
      ∙ ap (with_tokens tokens) (sym (tokens_from-token file source from n lexeme rest e some))
      ∙ is.all;
  each = All-push (IsTokenOf file source) tokens (token_of lexeme pos from (from + n) (take n rest)) is.each (token_made file source from n rest pos lexeme is.place is.left (token_ascii rest lexeme n e));
  stand = StandBetween-push 0 tokens from (token_of lexeme pos from (from + n) (take n rest)) is.stand (omega arith) (omega arith);
  places = places_push file source tokens (token_of lexeme pos from (from + n) (take n rest)) is.each is.stand is.places is.place is.within;
}

-- at nothing of the language the source has that fault
pub none_step : {file : ℕ} {source : List ℕ} {tokens : List Token} {pos : Pos} {from : ℕ} {rest : List ℕ} → IsAt file source tokens pos from rest → cut_of rest ≡ None → 0 < length rest → tokens_of file source ≡ Err (record { pos = pos })
none_step {file} {source} {tokens} {pos} {from} {rest} is e some =
    sym is.all ∙ ap (with_tokens tokens) (tokens_from-none file source from rest e some) ∙ rw (sym is.place) refl

-- where nothing is left the tokens are all
pub all_done : {file : ℕ} {source : List ℕ} {tokens : List Token} {pos : Pos} {from : ℕ} {rest : List ℕ} → IsAt file source tokens pos from rest → rest ≡ [] → tokens_of file source ≡ Ok tokens
all_done {file} {source} {tokens} {pos} {from} {rest} is e =
    sym is.all ∙ ap (λ (r : List ℕ). with_tokens tokens (tokens_from file source from 0 r)) e ∙ rw append-nil refl

pub stand_done : {file : ℕ} {source : List ℕ} {tokens : List Token} {pos : Pos} {from : ℕ} {rest : List ℕ} → IsAt file source tokens pos from rest → StandBetween 0 tokens (length source)
stand_done {file} {source} {tokens} {pos} {from} {rest} is = StandBetween-later 0 tokens from (length source) is.stand is.within
