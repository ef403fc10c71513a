-- A file has no more regions than tokens, and none of them says more than the file does.
use Rattle.std.proofs.Common.{◌≡◌, ℕ, ◌+◌, ◌-◌, ◌≤◌, ◌<◌, ◌==◌, Bool, true, false, List, [], ◌∷◌, Option, Some, None, Ok, Err, if◌then◌else◌, is_some, option_map, option_and_then, length, drop, IfOk, ap, arith, length-drop}
use Rattle.std.specs.List.{AllByRecursion, slice_range}
use Rattle.std.proofs.lemmas.List.{length-take}
use Rattle.cov_base.specs.declared.obligations.Region.{Region}
use Rattle.cov_base.specs.declared.position.Pos.{Pos}
use Rattle.ada_lexer.specs.declared.token.Lexeme.{Lexeme}
use Rattle.ada_lexer.specs.declared.token.Lexeme.TheVariants as lexeme
use Rattle.ada_lexer.specs.declared.token.Token.{Token}
use Rattle.ada_lexer.specs.Tokens.{IsTokenOf}
use Rattle.exemptions.specs.declared.mark.Mark.{Mark}
use Rattle.exemptions.specs.declared.mark.Mark.TheVariants as mark
use Rattle.exemptions.specs.Marks.{behind, exempt_off, exempt_on, pragma_end, said_behind, said_by, justification_of, on_of, mark_of, before, marks_of}
use Rattle.exemptions.specs.Regions.{Paired, paired, region_of, with_region, regions_of}

-- ---- how many regions

marks_with : (o : Option Mark) (marks : List Mark) → length (before o marks) ≤ length marks + 1
marks_with None marks = omega arith
marks_with (Some first) marks = omega arith

marks_few : (tokens : List Token) → length (marks_of tokens) ≤ length tokens
marks_few [] = omega arith
marks_few (first ∷ tokens) = omega (arith, marks_with (mark_of (first ∷ tokens)) (marks_of tokens), marks_few tokens)

abbrev AreAtMost : ℕ → List Region → Type 0
AreAtMost n regions = length regions ≤ n

one_more : (region : Region) (p : Paired) (n m : ℕ) → n < m → IfOk p (AreAtMost n) → IfOk (with_region region p) (AreAtMost m)
one_more region (Ok regions) n m less few = let few' : length regions ≤ n = few in omega (arith, less, few')
one_more region (Err unpaired) n m less few = tt

paired_few : (marks : List Mark) → IfOk (paired marks) (AreAtMost (length marks))
paired_few [] = omega arith
paired_few (mark.Off to ∷ marks) = tt
paired_few (mark.On from why ∷ []) = tt
paired_few (mark.On from why ∷ mark.Off to ∷ marks) =
    one_more (region_of from why to) (paired marks) (length marks) (length (mark.On from why ∷ mark.Off to ∷ marks)) (omega arith) (paired_few marks)
paired_few (mark.On from why ∷ mark.On inner because ∷ marks) = tt

wider : (p : Paired) (n m : ℕ) → n ≤ m → IfOk p (AreAtMost n) → IfOk p (AreAtMost m)
wider (Ok regions) n m less few = let few' : length regions ≤ n = few in omega (arith, less, few')
wider (Err unpaired) n m less few = tt

-- no more than tokens
pub regions_few : (tokens : List Token) (most : ℕ) → length tokens ≤ most → IfOk (regions_of tokens) (λ (regions : List Region). length regions ≤ most)
regions_few tokens most few =
    wider (regions_of tokens) (length (marks_of tokens)) most (omega (arith, marks_few tokens, few)) (paired_few (marks_of tokens))

-- ---- what they say

if_short : (b : Bool) (xs ys : List ℕ) (n : ℕ) → length xs ≤ n → length ys ≤ n → length (if b then xs else ys) ≤ n
if_short true xs ys n f g = f
if_short false xs ys n f g = g

said_behind_short : (bytes : List ℕ) → length (said_behind bytes) ≤ length bytes
said_behind_short [] = omega arith
said_behind_short (byte ∷ []) = omega arith
said_behind_short (byte ∷ next ∷ bytes) =
    if_short (byte == 34) (byte ∷ said_behind bytes) (byte ∷ said_behind (next ∷ bytes)) (length (byte ∷ next ∷ bytes))
    (omega (arith, said_behind_short bytes)) (omega (arith, said_behind_short (next ∷ bytes)))

said_short : (text : List ℕ) → length (said_by text) ≤ length text
said_short [] = omega arith
said_short (quote ∷ bytes) = omega (arith, said_behind_short bytes)

-- a mark says at most so many bytes
abbrev SaysWithin : ℕ → Mark → Type 0
SaysWithin n (mark.On pos why) = length why ≤ n
SaysWithin n (mark.Off pos) = Unit {0}

abbrev MarksWithin : ℕ → Option Mark → Type 0
MarksWithin n None = Unit {0}
MarksWithin n (Some m) = SaysWithin n m

abbrev TextsWithin : ℕ → List Token → Type 0
TextsWithin n tokens = AllByRecursion (λ (t : Token). length t.text ≤ n) tokens

justified : (n : ℕ) (pos : Pos) (l : Lexeme) (text : List ℕ) → length text ≤ n → MarksWithin n (option_map (mark.On pos) (justification_of l text))
justified n pos lexeme.Text text h = omega (arith, said_short text, h)
justified n pos _ text h = tt

marks_if : (n : ℕ) (b : Bool) (o : Option Mark) → MarksWithin n o → MarksWithin n (if b then o else None)
marks_if n true o h = h
marks_if n false o h = tt

on_within : (n : ℕ) (pos : Pos) (tokens : List Token) → TextsWithin n tokens → MarksWithin n (on_of pos tokens)
on_within n pos [] h = tt
on_within n pos (why ∷ tokens) h =
    marks_if n (is_some (behind pragma_end tokens)) (option_map (mark.On pos) (justification_of why.lexeme why.text)) (justified n pos why.lexeme why.text h.0)

abbrev RestWithin : ℕ → Option (List Token) → Type 0
RestWithin n None = Unit {0}
RestWithin n (Some rest) = TextsWithin n rest

rest_if : (n : ℕ) (b : Bool) (o : Option (List Token)) → RestWithin n o → RestWithin n (if b then o else None)
rest_if n true o h = h
rest_if n false o h = tt

rest_within : (n : ℕ) (spellings : List (List ℕ)) (tokens : List Token) → TextsWithin n tokens → RestWithin n (behind spellings tokens)
rest_within n [] tokens h = h
rest_within n (spelling ∷ spellings) [] h = tt
rest_within n (spelling ∷ spellings) (token ∷ tokens) h = rest_if n _ (behind spellings tokens) (rest_within n spellings tokens h.1)

on_rest : (n : ℕ) (pos : Pos) (o : Option (List Token)) → RestWithin n o → MarksWithin n (option_and_then (on_of pos) o)
on_rest n pos None h = tt
on_rest n pos (Some rest) h = on_within n pos rest h

off_or : (n : ℕ) (pos : Pos) (b : Bool) (o : Option Mark) → MarksWithin n o → MarksWithin n (if b then Some (mark.Off pos) else o)
off_or n pos true o h = tt
off_or n pos false o h = h

mark_within : (n : ℕ) (first : Token) (tokens : List Token) → TextsWithin n (first ∷ tokens) → MarksWithin n (mark_of (first ∷ tokens))
mark_within n first tokens h =
    off_or n first.pos (is_some (behind exempt_off (first ∷ tokens))) (option_and_then (on_of first.pos) (behind exempt_on (first ∷ tokens)))
    (on_rest n first.pos (behind exempt_on (first ∷ tokens)) (rest_within n exempt_on (first ∷ tokens) h))

first_within : (n : ℕ) (o : Option Mark) (marks : List Mark) → MarksWithin n o → AllByRecursion (SaysWithin n) marks → AllByRecursion (SaysWithin n) (before o marks)
first_within n None marks h rest = rest
first_within n (Some m) marks h rest = (h, rest)

marks_within : (n : ℕ) (tokens : List Token) → TextsWithin n tokens → AllByRecursion (SaysWithin n) (marks_of tokens)
marks_within n [] h = tt
marks_within n (first ∷ tokens) h =
    first_within n (mark_of (first ∷ tokens)) (marks_of tokens) (mark_within n first tokens h) (marks_within n tokens h.1)

-- a region says at most so many bytes
abbrev pub IsShort : ℕ → Region → Type 0
IsShort n region = length region.why ≤ n

hold_with : (F : Region → Type 0) (region : Region) (p : Paired) → F region → IfOk p (AllByRecursion F) → IfOk (with_region region p) (AllByRecursion F)
hold_with F region (Ok regions) f h = (f, h)
hold_with F region (Err unpaired) f h = tt

paired_within : (n : ℕ) (marks : List Mark) → AllByRecursion (SaysWithin n) marks → IfOk (paired marks) (AllByRecursion (IsShort n))
paired_within n [] h = tt
paired_within n (mark.Off to ∷ marks) h = tt
paired_within n (mark.On from why ∷ []) h = tt
paired_within n (mark.On from why ∷ mark.Off to ∷ marks) h = hold_with (IsShort n) (region_of from why to) (paired marks) h.0 (paired_within n marks h.1.1)
paired_within n (mark.On from why ∷ mark.On inner because ∷ marks) h = tt

-- the text of a token is a part of its source
part_short : (source text : List ℕ) (from to : ℕ) → text ≡ slice_range source from to → length text ≤ length source
part_short source text from to is =
    omega (arith, ap length is, length-take (to - from) (drop from source), length-drop from source)

texts_within : (file : ℕ) (source : List ℕ) (tokens : List Token) → AllByRecursion (IsTokenOf file source) tokens → TextsWithin (length source) tokens
texts_within file source [] each = tt
texts_within file source (t ∷ tokens) each = (part_short source t.text t.from t.to each.0.text, texts_within file source tokens each.1)

-- no more than the source
pub regions_short : (file : ℕ) (source : List ℕ) (tokens : List Token) → AllByRecursion (IsTokenOf file source) tokens
    → IfOk (regions_of tokens) (AllByRecursion (IsShort (length source)))
regions_short file source tokens each = paired_within (length source) (marks_of tokens) (marks_within (length source) tokens (texts_within file source tokens each))
