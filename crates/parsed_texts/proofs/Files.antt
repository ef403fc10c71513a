-- What is read from the units of files one by one stands in them, in their order.
use Rattle.std.proofs.Common.{◌≡◌, ℕ, suc, ◌+◌, ◌<◌, inl, inr, Bool, true, List, [], ◌∷◌, ◌++◌, sym, ◌∙◌, subst, arith}
use Rattle.std.specs.List.{All, AllPairs, AllByRecursion}
use Rattle.std.proofs.lemmas.List.Elements.{recursion_from_All}
use Rattle.cov_base.specs.Lists.{Everywhere}
use Rattle.cov_base.specs.TextOrder.{precedes}
use Rattle.cov_base.specs.declared.position.Pos.{Pos}
use Rattle.ada_lexer.specs.declared.token.Token.{Token}
use Rattle.ada_lexer.specs.Tokens.{IsTokenOf, IsBefore}
use Rattle.ada_syntax.specs.declared.unit.Unit.{Unit as LibraryUnit}
use Rattle.expression_parser.specs.declared.extent.Extent.{Extent}
use Rattle.expression_parser.specs.Reading.{Tokens}
use Rattle.ada_parser.specs.Grammar.{AreUnits}
use Rattle.parsed_texts.specs.Places.{IsInFiles}
use Rattle.parsed_texts.specs.Parsed.{AreOfFiles, no_file, and_file}
use Rattle.parsed_texts.proofs.Places.{earlier_precedes}

pub everywhere_joined : {X : Type 0} (P : X → Type 0) (xs ys : List X) → Everywhere P xs → Everywhere P ys → Everywhere P (xs ++ ys)
everywhere_joined P [] ys h k = k
everywhere_joined P (x ∷ xs) ys h k = (h.0, everywhere_joined P xs ys h.1 k)

pub everywhere_so : {X : Type 0} (P Q : X → Type 0) → ((x : X) → P x → Q x) → (xs : List X) → Everywhere P xs → Everywhere Q xs
everywhere_so P Q f [] h = tt
everywhere_so P Q f (x ∷ xs) h = (f x h.0, everywhere_so P Q f xs h.1)

-- items of which each comes before all later ones
abbrev pub Ordered : {X : Type 0} → (X → X → Bool) → List X → Type 0
Ordered before [] = Unit {0}
Ordered before (x ∷ xs) = Everywhere (λ y. before x y ≡ true) xs × Ordered before xs

-- tokens of which each stands before all later ones
abbrev pub InOrder : Tokens → Type 0
InOrder [] = Unit {0}
InOrder (t ∷ ts) = Everywhere (λ (u : Token). precedes t.pos u.pos ≡ true) ts × InOrder ts

-- ---- the tokens of one file

in_one_file : (n : ℕ) (a b : Pos) → a.file ≡ n → b.file ≡ n → IsBefore a b → precedes a b ≡ true
in_one_file n a b first second h = earlier_precedes a b (inr (first ∙ sym second, h))

module _ (n : ℕ) (source : List ℕ) where
  from_first : (t : Token) (us : Tokens) → IsTokenOf n source t → AllByRecursion (IsTokenOf n source) us → AllByRecursion (λ (u : Token). IsBefore t.pos u.pos) us → Everywhere (λ (u : Token). precedes t.pos u.pos ≡ true) us
  from_first t [] is each h = tt
  from_first t (u ∷ us) is each h = (in_one_file n t.pos u.pos is.in_file each.0.in_file h.0, from_first t us is each.1 h.1)

  pub all_behind : (t : Token) (ts : Tokens) → AllPairs (λ (a b : Token). IsBefore a.pos b.pos) (t ∷ ts) → All (λ (u : Token). IsBefore t.pos u.pos) ts
  all_behind t ts h i d lt = h 0 (suc i) d (omega arith) (omega (arith, lt))

  pub pairs_behind : (t : Token) (ts : Tokens) → AllPairs (λ (a b : Token). IsBefore a.pos b.pos) (t ∷ ts) → AllPairs (λ (a b : Token). IsBefore a.pos b.pos) ts
  pairs_behind t ts h i j d less lt = h (suc i) (suc j) d (omega (arith, less)) (omega (arith, lt))

  tokens_ordered : (ts : Tokens) → AllByRecursion (IsTokenOf n source) ts → AllPairs (λ (a b : Token). IsBefore a.pos b.pos) ts → InOrder ts
  tokens_ordered [] each h = tt
  tokens_ordered (t ∷ ts) each h =
      (from_first t ts each.0 each.1 (recursion_from_All (λ (u : Token). IsBefore t.pos u.pos) ts (all_behind t ts h)), tokens_ordered ts each.1 (pairs_behind t ts h))

  each_in_file : (ts : Tokens) → AllByRecursion (IsTokenOf n source) ts → Everywhere (λ (t : Token). t.pos.file ≡ n) ts
  each_in_file [] each = tt
  each_in_file (t ∷ ts) each = (each.0.in_file, each_in_file ts each.1)

  each_within : (ts : Tokens) → AllByRecursion (IsTokenOf n source) ts → Everywhere (λ (t : Token). IsInFiles (n + 1) t.pos) ts
  each_within [] each = tt
  each_within (t ∷ ts) each = ((omega (arith, each.0.in_file), each.0.line, each.0.column), each_within ts each.1)

-- ---- files in a row

-- what is gathered from units is read from their tokens: `R` relates it to those between two lists
pub record IsRead {X : Type 0} (R : List X → Tokens → Tokens → Type 0) (of : List LibraryUnit → List X) : Type 0 where
  pub none : of [] ≡ []
  pub joined : (us vs : List LibraryUnit) → of (us ++ vs) ≡ of us ++ of vs
  pub read : {x : Extent} {us : List LibraryUnit} {ts rest : Tokens} → AreUnits x us ts rest → R (of us) ts rest

across : (n : ℕ) (p q : Pos) → p.file < n → q.file ≡ n → precedes p q ≡ true
across n p q less is = earlier_precedes p q (inl (subst (λ m. p.file < m) (sym is) less))

record Stand {X : Type 0} (place : X → Pos) (before : X → X → Bool) (n : ℕ) (xs : List X) : Type 0 where
  pub ordered : Ordered before xs
  pub below : Everywhere (λ x. (place x).file < n) xs

module _ {X : Type 0} {R : List X → Tokens → Tokens → Type 0} {of : List LibraryUnit → List X} (k : IsRead R of) (place : X → Pos) (before : X → X → Bool) (at_once : (x y : X) → precedes (place x) (place y) ≡ true → before x y ≡ true)
    (in_order : (xs : List X) (ts rest : Tokens) → R xs ts rest → InOrder ts → Ordered before xs)
    (in_file : (n : ℕ) (xs : List X) (ts rest : Tokens) → R xs ts rest → Everywhere (λ (t : Token). t.pos.file ≡ n) ts → Everywhere (λ x. (place x).file ≡ n) xs) where
  ordered_joined : (n : ℕ) (xs ys : List X) → Ordered before xs → Everywhere (λ x. (place x).file < n) xs → Ordered before ys → Everywhere (λ y. (place y).file ≡ n) ys → Ordered before (xs ++ ys)
  ordered_joined n [] ys h below l same = l
  ordered_joined n (x ∷ xs) ys h below l same =
      (everywhere_joined (λ y. before x y ≡ true) xs ys h.0 (everywhere_so (λ y. (place y).file ≡ n) (λ y. before x y ≡ true) (λ y is. at_once x y (across n (place x) (place y) below.0 is)) ys same), ordered_joined n xs ys h.1 below.1 l same)

  files_stand : {x : Extent} {n : ℕ} {us : List LibraryUnit} → AreOfFiles x n us → Stand place before n (of us)
  files_stand no_file = subst (Stand place before 0) (sym k.none) (record { ordered = tt; below = tt })
  files_stand (and_file {n = n} {units = us} {more = vs} {source = source} {tokens = tokens} earlier small lexed parsed) =
      let first = files_stand earlier in
      let picked = k.read parsed in
      let each = recursion_from_All (IsTokenOf n source) tokens lexed.each in
      let same = in_file n (of vs) tokens [] picked (each_in_file n source tokens each) in
      subst (Stand place before (n + 1)) (sym (k.joined us vs))
      (record {
        ordered = ordered_joined n (of us) (of vs) first.ordered first.below (in_order (of vs) tokens [] picked (tokens_ordered n source tokens each lexed.places)) same;
        below = everywhere_joined (λ x. (place x).file < n + 1) (of us) (of vs)
            (everywhere_so (λ x. (place x).file < n) (λ x. (place x).file < n + 1) (λ x less. omega (arith, less)) (of us) first.below)
            (everywhere_so (λ x. (place x).file ≡ n) (λ x. (place x).file < n + 1) (λ x is. omega (arith, is)) (of vs) same);
      })

  pub files_ordered : {x : Extent} {n : ℕ} {us : List LibraryUnit} → AreOfFiles x n us → Ordered before (of us)
  files_ordered h = (files_stand h).ordered

-- what is so of each item that is read from tokens in these files
module _ {X : Type 0} {R : List X → Tokens → Tokens → Type 0} {of : List LibraryUnit → List X} (k : IsRead R of) (Q : ℕ → X → Type 0) (wider : (n : ℕ) (x : X) → Q n x → Q (n + 1) x)
    (each : (n : ℕ) (xs : List X) (ts rest : Tokens) → R xs ts rest → Everywhere (λ (t : Token). IsInFiles n t.pos) ts → Everywhere (Q n) xs) where
  pub files_within : {x : Extent} {n : ℕ} {us : List LibraryUnit} → AreOfFiles x n us → Everywhere (Q n) (of us)
  files_within no_file = subst (Everywhere (Q 0)) (sym k.none) tt
  files_within (and_file {n = n} {units = us} {more = vs} {source = source} {tokens = tokens} before small lexed parsed) =
      subst (Everywhere (Q (n + 1))) (sym (k.joined us vs))
      (everywhere_joined (Q (n + 1)) (of us) (of vs) (everywhere_so (Q n) (Q (n + 1)) (wider n) (of us) (files_within before))
      (each (n + 1) (of vs) tokens [] (k.read parsed) (each_within n source tokens (recursion_from_All (IsTokenOf n source) tokens lexed.each))))

pub more_files : (n : ℕ) (p : Pos) → IsInFiles n p → IsInFiles (n + 1) p
more_files n p h = let less = h.0 in (omega (arith, less), h.1, h.2)
