-- Where regions stand, from where tokens do.
use Rattle.std.proofs.Common.{◌≡◌, ℕ, zero, suc, ◌<◌, ◌==◌, Bool, true, false, List, [], ◌∷◌, Option, Some, None, Ok, Err, if◌then◌else◌, is_some, option_map, option_and_then, get_or, AllPairs, IfOk, IsAscii, refl, sym, subst, arith}
use Rattle.std.specs.List.{AllByRecursion}
use Rattle.std.proofs.lemmas.List.Elements.{All-from_recursion, recursion_from_All}
use Rattle.cov_base.specs.declared.obligations.Region.{Region}
use Rattle.cov_base.specs.declared.position.Pos.{Pos}
use Rattle.ada_lexer.specs.declared.token.Lexeme.{Lexeme}
use Rattle.ada_lexer.specs.declared.token.Lexeme.TheVariants as lexeme
use Rattle.ada_lexer.specs.declared.token.Token.{Token}
use Rattle.ada_lexer.specs.Tokens.{IsTokenOf, IsBefore, AreTokensOf}
use Rattle.exemptions.specs.declared.mark.Mark.{Mark}
use Rattle.exemptions.specs.declared.mark.Mark.TheVariants as mark
use Rattle.exemptions.specs.Marks.{behind, exempt_off, exempt_on, pragma_end, said_behind, said_by, justification_of, on_of, mark_of, before, marks_of}
use Rattle.exemptions.specs.Regions.{Paired, paired, region_of, with_region, regions_of, start_of, end_of, IsRegionOf, AreRegionsOf}

-- pairs of a list, by recursion
abbrev PairsByRecursion : {X : Type 0} → (X → X → Type 0) → List X → Type 0
PairsByRecursion R [] = Unit {0}
PairsByRecursion R (x ∷ xs) = AllByRecursion (R x) xs × PairsByRecursion R xs

pairs_from_all : {X : Type 0} (R : X → X → Type 0) (xs : List X) → AllPairs R xs → PairsByRecursion R xs
pairs_from_all R [] pairs = tt
pairs_from_all R (x ∷ xs) pairs = (
  recursion_from_All (R x) xs (λ k d h. pairs 0 (suc k) d (omega arith) (omega arith)),
  pairs_from_all R xs (λ i j d h k. pairs (suc i) (suc j) d (omega arith) (omega arith)),
)

all_from_pairs : {X : Type 0} (R : X → X → Type 0) (xs : List X) → PairsByRecursion R xs → AllPairs R xs
all_from_pairs R [] pairs i j d h k = absurd (omega arith)
all_from_pairs R (x ∷ xs) pairs i zero d h k = absurd (omega arith)
all_from_pairs R (x ∷ xs) pairs zero (suc j) d h k = All-from_recursion (R x) xs pairs.0 j d (omega arith)
all_from_pairs R (x ∷ xs) pairs (suc i) (suc j) d h k = all_from_pairs R xs pairs.1 i j d (omega arith) (omega arith)

-- ASCII
ascii_nil : IsAscii []
ascii_nil i = omega arith

ascii_cons : (byte : ℕ) (bytes : List ℕ) → byte < 128 → IsAscii bytes → IsAscii (byte ∷ bytes)
ascii_cons byte bytes low rest zero = low
ascii_cons byte bytes low rest (suc i) = rest i

ascii_tail : (byte : ℕ) (bytes : List ℕ) → IsAscii (byte ∷ bytes) → IsAscii bytes
ascii_tail byte bytes h i = h (suc i)

ascii_if : (b : Bool) (xs ys : List ℕ) → IsAscii xs → IsAscii ys → IsAscii (if b then xs else ys)
ascii_if true xs ys f g = f
ascii_if false xs ys f g = g

said_behind_ascii : (bytes : List ℕ) → IsAscii bytes → IsAscii (said_behind bytes)
said_behind_ascii [] h = ascii_nil
said_behind_ascii (byte ∷ []) h = ascii_nil
said_behind_ascii (byte ∷ next ∷ bytes) h =
    let rest = ascii_tail byte (next ∷ bytes) h in
    ascii_if (byte == 34) (byte ∷ said_behind bytes) (byte ∷ said_behind (next ∷ bytes))
    (ascii_cons byte (said_behind bytes) (h 0) (said_behind_ascii bytes (ascii_tail next bytes rest)))
    (ascii_cons byte (said_behind (next ∷ bytes)) (h 0) (said_behind_ascii (next ∷ bytes) rest))

said_ascii : (text : List ℕ) → IsAscii text → IsAscii (said_by text)
said_ascii [] h = ascii_nil
said_ascii (quote ∷ bytes) h = said_behind_ascii bytes (ascii_tail quote bytes h)

-- a mark stands at its pragma, and says why in ASCII
abbrev place_of : Mark → Pos
place_of (mark.On pos why) = pos
place_of (mark.Off pos) = pos

abbrev SaysAscii : Mark → Type 0
SaysAscii (mark.On pos why) = IsAscii why
SaysAscii (mark.Off pos) = Unit {0}

abbrev MarksAt : Pos → Option Mark → Type 0
MarksAt pos None = Unit {0}
MarksAt pos (Some m) = (place_of m ≡ pos) × SaysAscii m

justified : (pos : Pos) (l : Lexeme) (text : List ℕ) → IsAscii text → MarksAt pos (option_map (mark.On pos) (justification_of l text))
justified pos lexeme.Text text h = (refl, said_ascii text h)
justified pos _ text h = tt

marks_if : (pos : Pos) (b : Bool) (o : Option Mark) → MarksAt pos o → MarksAt pos (if b then o else None)
marks_if pos true o h = h
marks_if pos false o h = tt

on_marks : (pos : Pos) (tokens : List Token) → AllByRecursion (λ t. IsAscii t.text) tokens → MarksAt pos (on_of pos tokens)
on_marks pos [] h = tt
on_marks pos (why ∷ tokens) h =
    marks_if pos (is_some (behind pragma_end tokens)) (option_map (mark.On pos) (justification_of why.lexeme why.text)) (justified pos why.lexeme why.text h.0)

abbrev AllRest : Option (List Token) → Type 0
AllRest None = Unit {0}
AllRest (Some rest) = AllByRecursion (λ t. IsAscii t.text) rest

rest_if : (b : Bool) (o : Option (List Token)) → AllRest o → AllRest (if b then o else None)
rest_if true o h = h
rest_if false o h = tt

rest_ascii : (spellings : List (List ℕ)) (tokens : List Token) → AllByRecursion (λ t. IsAscii t.text) tokens → AllRest (behind spellings tokens)
rest_ascii [] tokens h = h
rest_ascii (spelling ∷ spellings) [] h = tt
rest_ascii (spelling ∷ spellings) (token ∷ tokens) h = rest_if _ (behind spellings tokens) (rest_ascii spellings tokens h.1)

on_rest : (pos : Pos) (o : Option (List Token)) → AllRest o → MarksAt pos (option_and_then (on_of pos) o)
on_rest pos None h = tt
on_rest pos (Some rest) h = on_marks pos rest h

off_or : (pos : Pos) (b : Bool) (o : Option Mark) → MarksAt pos o → MarksAt pos (if b then Some (mark.Off pos) else o)
off_or pos true o h = (refl, tt)
off_or pos false o h = h

mark_place : (first : Token) (tokens : List Token) → AllByRecursion (λ t. IsAscii t.text) (first ∷ tokens) → MarksAt first.pos (mark_of (first ∷ tokens))
mark_place first tokens h =
    off_or first.pos (is_some (behind exempt_off (first ∷ tokens))) (option_and_then (on_of first.pos) (behind exempt_on (first ∷ tokens)))
    (on_rest first.pos (behind exempt_on (first ∷ tokens)) (rest_ascii exempt_on (first ∷ tokens) h))

-- what holds of the places of all tokens holds of those of all marks
abbrev AtMark : (Pos → Type 0) → Mark → Type 0
AtMark Q m = Q (place_of m) × SaysAscii m

first_mark : (Q : Pos → Type 0) (pos : Pos) (o : Option Mark) (marks : List Mark) → Q pos → MarksAt pos o → AllByRecursion (AtMark Q) marks → AllByRecursion (AtMark Q) (before o marks)
first_mark Q pos None marks q h rest = rest
first_mark Q pos (Some m) marks q h rest = ((subst Q (sym h.0) q, h.1), rest)

marks_hold : (Q : Pos → Type 0) (tokens : List Token) → AllByRecursion (λ t. IsAscii t.text) tokens → AllByRecursion (λ t. Q t.pos) tokens → AllByRecursion (AtMark Q) (marks_of tokens)
marks_hold Q [] ascii q = tt
marks_hold Q (first ∷ tokens) ascii q =
    first_mark Q first.pos (mark_of (first ∷ tokens)) (marks_of tokens) q.0 (mark_place first tokens ascii) (marks_hold Q tokens ascii.1 q.1)

-- marks rise as tokens do
abbrev MarksRise : List Mark → Type 0
MarksRise marks = PairsByRecursion (λ m n. AtMark (IsBefore (place_of m)) n) marks

first_rises : (pos : Pos) (o : Option Mark) (marks : List Mark) → MarksAt pos o → AllByRecursion (AtMark (IsBefore pos)) marks → MarksRise marks → MarksRise (before o marks)
first_rises pos None marks h later rest = rest
first_rises pos (Some m) marks h later rest =
    (let P : Pos → Type 0 = λ p. AllByRecursion (AtMark (IsBefore p)) marks in subst P (sym h.0) later, rest)

marks_rise : (tokens : List Token) → AllByRecursion (λ t. IsAscii t.text) tokens → PairsByRecursion (λ a b. IsBefore a.pos b.pos) tokens → MarksRise (marks_of tokens)
marks_rise [] ascii rise = tt
marks_rise (first ∷ tokens) ascii rise =
    first_rises first.pos (mark_of (first ∷ tokens)) (marks_of tokens) (mark_place first tokens ascii) (marks_hold (IsBefore first.pos) tokens ascii.1 rise.0) (marks_rise tokens ascii.1 rise.1)

-- a place of a file, with line and column from 1
abbrev IsCountedIn : ℕ → Pos → Type 0
IsCountedIn file pos = (pos.file ≡ file) × (0 < pos.line) × (0 < pos.col)

hold_with : (F : Region → Type 0) (region : Region) (p : Paired) → F region → IfOk p (AllByRecursion F) → IfOk (with_region region p) (AllByRecursion F)
hold_with F region (Ok regions) f h = (f, h)
hold_with F region (Err unpaired) f h = tt

-- regions begin behind what stands before all marks
regions_after : (pos : Pos) (marks : List Mark) → AllByRecursion (AtMark (IsBefore pos)) marks → IfOk (paired marks) (AllByRecursion (λ r. IsBefore pos (start_of r)))
regions_after pos [] h = tt
regions_after pos (mark.Off to ∷ marks) h = tt
regions_after pos (mark.On from why ∷ []) h = tt
regions_after pos (mark.On from why ∷ mark.Off to ∷ marks) h =
    hold_with (λ (r : Region). IsBefore pos (start_of r)) (region_of from why to) (paired marks) h.0.0 (regions_after pos marks h.1.1)
regions_after pos (mark.On from why ∷ mark.On inner because ∷ marks) h = tt

regions_each : (file : ℕ) (marks : List Mark) → AllByRecursion (AtMark (IsCountedIn file)) marks → MarksRise marks → IfOk (paired marks) (AllByRecursion (IsRegionOf file))
regions_each file [] h rise = tt
regions_each file (mark.Off to ∷ marks) h rise = tt
regions_each file (mark.On from why ∷ []) h rise = tt
regions_each file (mark.On from why ∷ mark.Off to ∷ marks) h rise =
    hold_with (IsRegionOf file) (region_of from why to) (paired marks)
    (record {
      in_file = h.0.0.0;
      from_line = h.0.0.1;
      from_column = h.0.0.2;
      to_line = h.1.0.0.1;
      to_column = h.1.0.0.2;
      ordered = rise.0.0.0;
      ascii = h.0.1;
    })
    (regions_each file marks h.1.1 rise.1.1)
regions_each file (mark.On from why ∷ mark.On inner because ∷ marks) h rise = tt

abbrev AreApart : List Region → Type 0
AreApart regions = PairsByRecursion (λ a b. IsBefore (end_of a) (start_of b)) regions

apart_with : (region : Region) (p : Paired) → IfOk p (AllByRecursion (λ r. IsBefore (end_of region) (start_of r))) → IfOk p AreApart → IfOk (with_region region p) AreApart
apart_with region (Ok regions) later h = (later, h)
apart_with region (Err unpaired) later h = tt

regions_apart : (marks : List Mark) → MarksRise marks → IfOk (paired marks) AreApart
regions_apart [] rise = tt
regions_apart (mark.Off to ∷ marks) rise = tt
regions_apart (mark.On from why ∷ []) rise = tt
regions_apart (mark.On from why ∷ mark.Off to ∷ marks) rise =
    apart_with (region_of from why to) (paired marks) (regions_after to marks rise.1.0) (regions_apart marks rise.1.1)
regions_apart (mark.On from why ∷ mark.On inner because ∷ marks) rise = tt

-- the regions of a file's tokens are regions of the file, in order
pub regions_of-placed : (tokens : List Token) (regions : List Region) → regions_of tokens ≡ Ok regions → (file : ℕ) (source : List ℕ) → AreTokensOf file source tokens → AreRegionsOf file regions
regions_of-placed tokens regions e file source of =
    let ascii : AllByRecursion (λ (t : Token). IsAscii t.text) tokens = recursion_from_All (λ (t : Token). IsAscii t.text) tokens (λ k d h. (of.each k d h).ascii) in
    let counted : AllByRecursion (λ (t : Token). IsCountedIn file t.pos) tokens =
    recursion_from_All (λ (t : Token). IsCountedIn file t.pos) tokens (λ k d h. let t : IsTokenOf file source (get_or tokens k d) = of.each k d h in (t.in_file, t.line, t.column)) in
    let rise = marks_rise tokens ascii (pairs_from_all (λ (a b : Token). IsBefore a.pos b.pos) tokens of.places) in
    let each : AllByRecursion (IsRegionOf file) regions = rw e at (regions_each file (marks_of tokens) (marks_hold (IsCountedIn file) tokens ascii counted) rise) in
    let apart : AreApart regions = rw e at (regions_apart (marks_of tokens) rise) in
    record {
      each = All-from_recursion (IsRegionOf file) regions each;
      apart = all_from_pairs (λ (a b : Region). IsBefore (end_of a) (start_of b)) regions apart;
    }
