-- The steps from source files to their units, file by file.
use Rattle.std.proofs.Common.{◌≡◌, ℕ, suc, ◌+◌, ◌<◌, ◌≤◌, List, [], ◌∷◌, ◌++◌, length, nat_le, Bool, true, false, Option, Some, None, Ok, Err, if◌then◌else◌, refl, sym, ap, ◌∙◌, subst, arith, append-nil, drop, get_or}
use Rattle.std.proofs.lemmas.Bool.Decides.{nat_tests}
use Rattle.std.proofs.lemmas.List.{append_assoc, drop_more}
use Rattle.ada_lexer.specs.declared.lexer.LexFault.{LexFault}
use Rattle.ada_lexer.specs.declared.token.Token.{Token}
use Rattle.ada_lexer.specs.Tokens.{tokens_of, AreTokensOf}
use Rattle.ada_parser.specs.Grammar.{IsFile}
use Rattle.ada_parser.specs.Refusal.{IsOnlyFile}
use Rattle.ada_syntax.specs.declared.unit.Unit.{Unit as LibraryUnit}
use Rattle.cov_base.specs.declared.failure.Failure.{Failure}
use Rattle.cov_base.specs.declared.failure.Failure.TheVariants.{Fault, WantOfMemory}
use Rattle.cov_base.specs.declared.obligations.SourceFile.{SourceFile}
use Rattle.program_objects.specs.declared.fault.SourceFault.{SourceFault}
use Rattle.parsed_texts.specs.Parsed.{AreOfFiles, no_file, and_file, AreTokensOfFiles, no_file_behind, tokens_then}
use Rattle.program_objects.specs.Units as sources
use Rattle.ada_parser.specs.Opening.{open_extent}
use Rattle.program_objects.specs.Units.{size_limit, first_too_large, all_tokens, lexed, before, AreUnits, BreaksGrammar, HaveTokens, HaveUnits, HaveOnlyUnits, HaveNoUnits, without_units, FailsFor, first_nested}
use Rattle.program_objects.specs.Steps.{FailsToParse, AreOnlyUnits}

-- ---- tokens

-- the tokens of some files so far, where those of the files behind are all that is missing: the next file has number n
pub record LexedSoFar (files : List SourceFile) (n : ℕ) (behind : List SourceFile) (lists : List (List Token)) : Type 0 where
  pub small : first_too_large n behind ≡ None
  pub tokens : (more : List (List Token)) → all_tokens n behind ≡ Ok more → all_tokens 0 files ≡ Ok (lists ++ more)
  pub fault : (fault : LexFault) → all_tokens n behind ≡ Err fault → all_tokens 0 files ≡ Err fault
  pub each : (more : List (List Token)) → AreTokensOfFiles n behind more → AreTokensOfFiles 0 files (lists ++ more)

-- where no file is too large, the first one isn't
small_by : (b : Bool) (n : ℕ) (size : ℕ) (behind : Option ℕ) → nat_le size size_limit ≡ b → (if b then behind else Some n) ≡ None → (size ≤ size_limit) × (behind ≡ None)
small_by true n size behind e h = (grind (arith, nat_tests), h)
small_by false n size behind e h = cc

small_first : (n : ℕ) (f : SourceFile) (fs : List SourceFile) → first_too_large n (f ∷ fs) ≡ None → (length f.bytes ≤ size_limit) × (first_too_large (n + 1) fs ≡ None)
small_first n f fs h = small_by (nat_le (length f.bytes) size_limit) n (length f.bytes) (first_too_large (n + 1) fs) refl h

-- the next file has tokens
pub lexed_more : {files : List SourceFile} {n : ℕ} {f : SourceFile} {behind : List SourceFile} {lists : List (List Token)} {tokens : List Token} → LexedSoFar files n (f ∷ behind) lists
    → tokens_of n f.bytes ≡ Ok tokens → AreTokensOf n f.bytes tokens → LexedSoFar files (n + 1) behind (lists ++ tokens ∷ [])
lexed_more {files} {n} {f} {behind} {lists} {tokens} so gives each = record {
  small = (small_first n f behind so.small).1;
  tokens = λ more e. so.tokens (tokens ∷ more) (ap (λ own. lexed own (all_tokens (n + 1) behind)) gives ∙ ap (before tokens) e) ∙ ap Ok (sym (append_assoc lists (tokens ∷ []) more));
  fault = λ fault e. so.fault fault (ap (λ own. lexed own (all_tokens (n + 1) behind)) gives ∙ ap (before tokens) e);
  each = λ more h. subst (AreTokensOfFiles 0 files) (sym (append_assoc lists (tokens ∷ []) more)) (so.each (tokens ∷ more) (tokens_then (small_first n f behind so.small).0 each h));
}

-- no file is left
pub lexed_all : {files : List SourceFile} {n : ℕ} {lists : List (List Token)} → LexedSoFar files n [] lists → all_tokens 0 files ≡ Ok lists
lexed_all {lists = lists} so = so.tokens [] refl ∙ ap Ok (append-nil lists)

pub each_lexed : {files : List SourceFile} {n : ℕ} {lists : List (List Token)} → LexedSoFar files n [] lists → AreTokensOfFiles 0 files lists
each_lexed {files = files} {lists = lists} so = subst (AreTokensOfFiles 0 files) (append-nil lists) (so.each [] no_file_behind)

-- ---- units

-- the units of some files so far, where those of the files behind are all that is missing: the next file has number n
pub record ParsedSoFar (lists : List (List Token)) (n : ℕ) (behind : List (List Token)) (so_far : List LibraryUnit) : Type 0 where
  pub units : (more : List LibraryUnit) → AreUnits behind more → AreUnits lists (so_far ++ more)
  pub only : (more : List LibraryUnit) → AreOnlyUnits behind more → AreOnlyUnits lists (so_far ++ more)
  pub fault : (fault : SourceFault) → BreaksGrammar n behind fault → BreaksGrammar 0 lists fault

-- a file before others has no other units, where neither it nor those have
only_more : {tokens : List Token} {behind : List (List Token)} {units more : List LibraryUnit} → IsOnlyFile open_extent tokens units → AreOnlyUnits behind more
    → AreOnlyUnits (tokens ∷ behind) (units ++ more)
only_more {units = units} {more = more} first later others (sources.file_then {units = us} {more = vs} h k) = ap (λ ws. ws ++ vs) (first us h) ∙ ap (λ ws. units ++ ws) (later vs k)

only_none : AreOnlyUnits [] []
only_none others sources.no_file = refl

-- the next file has units
pub parsed_more : {lists : List (List Token)} {n : ℕ} {tokens : List Token} {behind : List (List Token)} {units more : List LibraryUnit} → ParsedSoFar lists n (tokens ∷ behind) units
    → IsFile open_extent more tokens → IsOnlyFile open_extent tokens more → ParsedSoFar lists (n + 1) behind (units ++ more)
parsed_more {lists} {n} {tokens} {behind} {units} {more} so h only = record {
  units = λ rest k. subst (AreUnits lists) (sym (append_assoc units more rest)) (so.units (more ++ rest) (sources.file_then h k));
  only = λ rest k. subst (AreOnlyUnits lists) (sym (append_assoc units more rest)) (so.only (more ++ rest) (only_more only k));
  fault = λ fault k. so.fault fault (sources.behind h k);
}

-- the next file is refused, whatever stands behind it
alone_or_first : {n : ℕ} {tokens : List Token} {more : List (List Token)} {fault : SourceFault} → BreaksGrammar n (tokens ∷ []) fault → BreaksGrammar n (tokens ∷ more) fault
alone_or_first (sources.here refused) = sources.here refused
alone_or_first (sources.behind parsed none) = elim none [ ]

pub parsed_fault : {lists : List (List Token)} {n : ℕ} {tokens : List Token} {behind : List (List Token)} {units : List LibraryUnit} (failure : Failure SourceFault)
    → ParsedSoFar lists n (tokens ∷ behind) units → FailsToParse n (tokens ∷ []) failure → FailsToParse 0 lists failure
parsed_fault (Fault fault) so h = so.fault fault (alone_or_first h)
parsed_fault WantOfMemory so h = tt

-- no file is left
pub parsed_all : {lists : List (List Token)} {n : ℕ} {units : List LibraryUnit} → ParsedSoFar lists n [] units → AreUnits lists units
parsed_all {lists = lists} {units = units} so = subst (AreUnits lists) (append-nil units) (so.units [] sources.no_file)

pub only_all : {lists : List (List Token)} {n : ℕ} {units : List LibraryUnit} → ParsedSoFar lists n [] units → AreOnlyUnits lists units
only_all {lists = lists} {units = units} so = subst (AreOnlyUnits lists) (append-nil units) (so.only [] only_none)

-- ---- files

-- files that are lexed and parsed, behind others
files_joined : {n : ℕ} {before : List LibraryUnit} {files : List SourceFile} {lists : List (List Token)} {units : List LibraryUnit}
    → AreOfFiles open_extent n before → AreTokensOfFiles n files lists → AreUnits lists units → AreOfFiles open_extent (n + length files) (before ++ units)
files_joined {n} {before} first no_file_behind sources.no_file =
    let count : n ≡ n + length {A = SourceFile} [] = omega arith in
    subst (λ m. AreOfFiles open_extent m (before ++ [])) count (subst (AreOfFiles open_extent n) (sym (append-nil before)) first)
files_joined {n} {before} first (tokens_then {files = files} size each lexed) (sources.file_then {units = units} {more = more} parsed others) =
    let count : (n + 1) + length files ≡ n + suc (length files) = omega arith in
    subst (λ m. AreOfFiles open_extent m (before ++ (units ++ more))) count
    (subst (AreOfFiles open_extent ((n + 1) + length files)) (append_assoc before units more) (files_joined (and_file first size each parsed) lexed others))

pub are_of_files : (files : List SourceFile) (lists : List (List Token)) (units : List LibraryUnit) → AreTokensOfFiles 0 files lists → AreUnits lists units
    → AreOfFiles open_extent (length files) units
are_of_files files lists units lexed parsed =
    let count : 0 + length files ≡ length files = omega arith in
    subst (λ m. AreOfFiles open_extent m units) count (files_joined no_file lexed parsed)

-- one list of tokens for each file
pub lists_of_files : {n : ℕ} {files : List SourceFile} {lists : List (List Token)} → AreTokensOfFiles n files lists → length lists ≡ length files
lists_of_files no_file_behind = refl
lists_of_files (tokens_then size each lexed) = ap suc (lists_of_files lexed)

-- sources with these tokens have no other units than those of the tokens
pub only_of_files : (files : List SourceFile) (lists : List (List Token)) (units : List LibraryUnit) → HaveTokens files lists → AreOnlyUnits lists units → HaveOnlyUnits files units
only_of_files files lists units have only others h =
    let same = sym h.flat.tokens ∙ have.tokens in
    let one : h.tokens ≡ lists = cc in
    only others (subst (λ ts. AreUnits ts others) one h.parsed)

-- tokens that derive no units are those of sources without units
pub parsed_refused : (files : List SourceFile) (lists : List (List Token)) (failure : Failure SourceFault) → HaveTokens files lists → FailsToParse 0 lists failure → FailsFor files failure
parsed_refused files lists (Fault fault) have h = without_units have h
parsed_refused files lists WantOfMemory have h = tt

-- ---- what a loop has left, at an index

-- the next one, and those behind it
pub next_of : {X : Type 0} (xs : List X) (n : ℕ) (x : X) → n < length xs → x ≡ get_or xs n x → drop n xs ≡ x ∷ drop (n + 1) xs
next_of xs n x within is = drop_more xs n x within ∙ ap (λ y. y ∷ drop (n + 1) xs) (sym is)

-- ---- refused sources

-- tokens that break the grammar derive no units
breaks_no_units : {n : ℕ} {lists : List (List Token)} {fault : SourceFault} {units : List LibraryUnit} → BreaksGrammar n lists fault → AreUnits lists units → ⊥
breaks_no_units (sources.here refused) (sources.file_then {units = units} h k) = refused.none units h
breaks_no_units (sources.behind first breaks) (sources.file_then h k) = breaks_no_units breaks k

pub no_units : (files : List SourceFile) (fault : SourceFault) (units : List LibraryUnit) → HaveNoUnits files fault → HaveUnits files units → ⊥
no_units files _ units (sources.too_large large) h = let p = sym large ∙ h.flat.sizes in cc
no_units files _ units (sources.without_tokens sizes none) h = let p = sym none ∙ h.flat.tokens in cc
no_units files _ units (sources.too_deep {tokens = lists} sizes gives deep) h =
    let same = sym gives ∙ h.flat.tokens in
    let one : lists ≡ h.tokens = cc in
    let p = sym deep ∙ (ap first_nested one ∙ h.flat.flat) in
    cc
no_units files fault units (sources.without_units {tokens = lists} have breaks) h =
    let same = sym have.tokens ∙ h.flat.tokens in
    let one : h.tokens ≡ lists = cc in
    breaks_no_units breaks (subst (λ ts. AreUnits ts units) one h.parsed)
