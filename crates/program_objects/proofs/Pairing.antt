-- How the exemption pragmas of files pair, a file at a time.
use Rattle.std.proofs.Common.{◌≡◌, ℕ, List, [], ◌∷◌, ◌++◌, Some, None, Ok, Err, ap, refl, sym, ◌∙◌, subst, append_assoc, append-nil}
use Rattle.std.specs.Str.{str_to_ascii_lowercase}
use Rattle.ada_lexer.specs.declared.token.Token.{Token}
use Rattle.ada_syntax.specs.declared.unit.Unit.{Unit as LibraryUnit}
use Rattle.cov_base.specs.declared.failure.Failure.{Failure}
use Rattle.cov_base.specs.declared.failure.Failure.TheVariants.{Fault, WantOfMemory}
use Rattle.cov_base.specs.declared.obligations.Region.{Region}
use Rattle.cov_base.specs.declared.obligations.SourceFile.{SourceFile}
use Rattle.cov_base.specs.declared.position.Pos.{Pos}
use Rattle.exemptions.specs.Regions.{Paired, regions_of, Fails}
use Rattle.exemptions.specs.declared.pairing.Unpaired.{Unpaired}
use Rattle.program_objects.specs.Exemptions.{with_regions, paired_with, regions_of_lists, paired_of, pragmas_of, regions_in, unpaired_in}
use Rattle.program_objects.specs.Legal.{PassRules, AreRefused, unpaired_pragma}
use Rattle.program_objects.specs.Units.{all_tokens, fault_at, HaveUnits}
use Rattle.program_objects.specs.declared.fault.Why.TheVariants.{Exemption}

-- ---- the regions so far, and those of the files that are left

with_more : (done more : List Region) (rest : Paired) → with_regions done (with_regions more rest) ≡ with_regions (done ++ more) rest
with_more done more (Ok rest) = ap Ok (sym (append_assoc done more rest))
with_more done more (Err unpaired) = refl

-- the pragmas of the next file pair
pub paired_more : (done more : List Region) (tokens : List Token) (left behind lists : List (List Token)) → left ≡ tokens ∷ behind → regions_of tokens ≡ Ok more
    → with_regions done (regions_of_lists left) ≡ regions_of_lists lists → with_regions (done ++ more) (regions_of_lists behind) ≡ regions_of_lists lists
paired_more done more tokens left behind lists front pairs so_far =
    sym (with_more done more (regions_of_lists behind))
    ∙ (ap (λ (own : Paired). with_regions done (paired_with own (regions_of_lists behind))) (sym pairs)
    ∙ (ap (λ (ls : List (List Token)). with_regions done (regions_of_lists ls)) (sym front) ∙ so_far))

-- or one of them pairs with none
unpaired_first : (done : List Region) (unpaired : Unpaired) (tokens : List Token) (left behind lists : List (List Token)) → left ≡ tokens ∷ behind → regions_of tokens ≡ Err unpaired
    → with_regions done (regions_of_lists left) ≡ regions_of_lists lists → regions_of_lists lists ≡ Err unpaired
unpaired_first done unpaired tokens left behind lists front pairs so_far =
    sym so_far
    ∙ (ap (λ (ls : List (List Token)). with_regions done (regions_of_lists ls)) front
    ∙ ap (λ (own : Paired). with_regions done (paired_with own (regions_of_lists behind))) pairs)

pub unpaired_there : (failure : Failure Unpaired) (done : List Region) (tokens : List Token) (left behind lists : List (List Token)) → left ≡ tokens ∷ behind
    → Fails failure (regions_of tokens) → with_regions done (regions_of_lists left) ≡ regions_of_lists lists → Fails failure (regions_of_lists lists)
unpaired_there (Fault unpaired) done tokens left behind lists front pairs so_far = unpaired_first done unpaired tokens left behind lists front pairs so_far
unpaired_there WantOfMemory done tokens left behind lists front pairs so_far = tt

-- no file is left
pub paired_all : (done : List Region) (left lists : List (List Token)) → left ≡ [] → with_regions done (regions_of_lists left) ≡ regions_of_lists lists → regions_of_lists lists ≡ Ok done
paired_all done left lists none so_far =
    sym so_far ∙ (ap (λ (ls : List (List Token)). with_regions done (regions_of_lists ls)) none ∙ ap Ok (append-nil done))

-- ---- sources with these tokens

pub pragmas_are : (files : List SourceFile) (lists : List (List Token)) → all_tokens 0 files ≡ Ok lists → pragmas_of files ≡ regions_of_lists lists
pragmas_are files lists have = ap paired_of have

-- pragmas of which none pairs with none pair into regions
pub all_paired : (p : Paired) → unpaired_in p ≡ None → p ≡ Ok (regions_in p)
all_paired (Ok regions) none = refl
all_paired (Err unpaired) none = absurd (let x : ⊥ = cc none in x)

-- sources are refused at the first that pairs with none
pub refused_at : (files : List SourceFile) (units : List LibraryUnit) (main : List ℕ) (pos : Pos) → HaveUnits files units → PassRules units (str_to_ascii_lowercase main)
    → unpaired_in (pragmas_of files) ≡ Some pos → AreRefused files main (fault_at pos Exemption)
refused_at files units main pos have passed there = by (pragmas_of files) refl there
  where
    by : (p : Paired) → pragmas_of files ≡ p → unpaired_in p ≡ Some pos → AreRefused files main (fault_at pos Exemption)
    by (Ok regions) is none = absurd (let x : ⊥ = cc none in x)
    by (Err unpaired) is found =
        subst (λ (place : Pos). AreRefused files main (fault_at place Exemption)) (let same : unpaired.pos ≡ pos = cc found in same) (unpaired_pragma have passed is)
