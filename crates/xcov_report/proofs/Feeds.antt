-- The lines of bytes, split at their first line feed.
use Rattle.std.proofs.Common.{◌≡◌, ℕ, ◌+◌, ◌<◌, ◌==◌, Bool, true, false, cond, List, [], ◌∷◌, length, take, drop, nat_lt, Some, None, refl, ap, ◌∙◌, subst, arith}
use Rattle.std.specs.List.{slice_split, onto_first, position, position_or_len}
use Rattle.std.specs.Str.Lines.{lines, lines_of_parts, strip_carriage_return}
use Rattle.std.proofs.lemmas.Bool.{ltb-true, ltb-false}
use Rattle.std.proofs.lemmas.Bool.Decides.{nat_tests}
use Rattle.std.proofs.lemmas.List.Elements.{All-from_get_or}
use Rattle.std.proofs.lemmas.List.Splits.{slice_split_first, slice_split_none}
use Rattle.std.proofs.lemmas.List.Sums.{fails_before_first}
use Rattle.std.proofs.lemmas.Option.{cond_some}

abbrev pub is_feed : ℕ → Bool
is_feed byte = byte == 10

before_parts : (line : List ℕ) (b : Bool) (y : ℕ) (parts : List (List ℕ))
    → lines_of_parts (line ∷ cond b ([] ∷ parts) (onto_first y parts)) ≡ strip_carriage_return line ∷ lines_of_parts (cond b ([] ∷ parts) (onto_first y parts))
before_parts line true y parts = refl
before_parts line false y [] = refl
before_parts line false y (part ∷ parts) = refl

-- a part that others follow is a line without its carriage return
before_others : (line rest : List ℕ) → lines_of_parts (line ∷ slice_split is_feed rest) ≡ strip_carriage_return line ∷ lines rest
before_others line [] = refl
before_others line (y ∷ ys) = before_parts line (is_feed y) y (slice_split is_feed ys)

at_place : (bytes : List ℕ) (end : ℕ) → position_or_len is_feed bytes ≡ end → end < length bytes
    → slice_split is_feed bytes ≡ take end bytes ∷ slice_split is_feed (drop (end + 1) bytes)
at_place bytes end e h =
    let P : ℕ → Type 0 = λ n. n < length bytes → slice_split is_feed bytes ≡ take n bytes ∷ slice_split is_feed (drop (n + 1) bytes) in
    subst P e (slice_split_first is_feed bytes 0) h

pub lines_found : (bytes : List ℕ) (end : ℕ) → position is_feed bytes ≡ Some end
    → lines bytes ≡ strip_carriage_return (take end bytes) ∷ lines (drop (end + 1) bytes)
lines_found bytes end e =
    let p = cond_some _ _ _ e in
    let within : position_or_len is_feed bytes < length bytes = ltb-true _ _ p.0 in
    ap lines_of_parts (at_place bytes end p.1 (subst (λ n. n < length bytes) p.1 within)) ∙ before_others (take end bytes) (drop (end + 1) bytes)

one_part : (bytes : List ℕ) → 0 < length bytes → lines_of_parts (bytes ∷ []) ≡ bytes ∷ []
one_part [] h = absurd (omega arith)
one_part (b ∷ bytes) h = let e : (length (b ∷ bytes) == 0) ≡ false = grind (arith, nat_tests) in rw e refl

is_no : (b : Bool) (n : ℕ) → cond b (Some n) None ≡ None → b ≡ false
is_no true n e = cc
is_no false n e = refl

no_place : (n all i : ℕ) → cond (nat_lt n all) (Some n) None ≡ None → i < all → i < n
no_place n all i e h = omega (arith, ltb-false n all (is_no _ _ e))

pub lines_none : (bytes : List ℕ) → position is_feed bytes ≡ None → 0 < length bytes → lines bytes ≡ bytes ∷ []
lines_none bytes e h =
    ap lines_of_parts (slice_split_none is_feed bytes (All-from_get_or (λ x. is_feed x ≡ false) bytes 0 (λ i within. fails_before_first is_feed bytes i 0 (no_place _ _ i e within)))) ∙ one_part bytes h
