-- Look-ups in tables.
use Rattle.std.proofs.Common.{◌≡◌, Bool, true, false, List, [], ◌∷◌, Option, Some, map, cond, find, option_map, refl, ap, ◌∙◌, ℕ, Bor, nat_eq, length}
use Rattle.std.specs.List.{starts_with}
use Rattle.std.specs.Str.{str_eq_ignore_ascii_case}
use Rattle.ada_lexer.specs.declared.token.Lexeme.{Lexeme}
use Rattle.ada_lexer.specs.Lexeme.{reserved_words, delimiters}
use Rattle.ada_lexer.specs.Word.{reserved_word_of}
use Rattle.ada_lexer.specs.Table.{spelled_in, begun_in}
use Rattle.ada_lexer.specs.Cut.{longest_delimiter_of}

cond_found : {X Y Z : Type 0} (stands : X → Y) (part : Y → Z) (b : Bool) (x : X) (o : Option X) (p : Option Y) → option_map (λ y. part (stands y)) o ≡ option_map part p → option_map (λ y. part (stands y)) (cond b (Some x) o) ≡ option_map part (cond b (Some (stands x)) p)
cond_found stands part true x o p same = refl
cond_found stands part false x o p same = same

-- a look-up in a table is one in what the table stands for
pub option_map-find-map : {X Y Z : Type 0} (stands : X → Y) (test : Y → Bool) (part : Y → Z) (xs : List X) → option_map (λ x. part (stands x)) (find (λ x. test (stands x)) xs) ≡ option_map part (find test (map stands xs))
option_map-find-map stands test part [] = refl
option_map-find-map stands test part (x ∷ xs) =
    cond_found stands part (test (stands x)) x _ _ (option_map-find-map stands test part xs)

-- what an entry of the code's tables stands for
abbrev pub entry_of : {X : Type 0} → Bor (List ℕ) × X → List ℕ × X
entry_of entry = (entry.0.now, entry.1)

-- a look-up in a table that stands for the language's reserved words
pub spelled_in-reserved_words : (table : List (Bor (List ℕ) × Lexeme)) (word : List ℕ) → map entry_of table ≡ reserved_words → spelled_in table word ≡ reserved_word_of word
unfolding spelled_in
spelled_in-reserved_words table word same =
    let test = λ (entry : List ℕ × Lexeme). str_eq_ignore_ascii_case entry.0 word in
    let part = λ (entry : List ℕ × Lexeme). entry.1 in
    option_map-find-map entry_of test part table ∙ ap (λ (t : List (List ℕ × Lexeme)). option_map part (find test t)) same

-- a look-up in a table that stands for the language's delimiters
pub begun_in-delimiters : (table : List (Bor (List ℕ) × Option Lexeme)) (text : List ℕ) → map entry_of table ≡ delimiters → begun_in table text ≡ longest_delimiter_of text
unfolding begun_in
begun_in-delimiters table text same =
    let test = λ (entry : List ℕ × Option Lexeme). starts_with nat_eq text entry.0 in
    let part : List ℕ × Option Lexeme → Option Lexeme × ℕ = λ entry. (entry.1, length entry.0) in
    option_map-find-map entry_of test part table ∙ ap (λ (t : List (List ℕ × Option Lexeme)). option_map part (find test t)) same
