-- The regions of sources that are exempt from coverage.
use Rattle.std.specs.Prelude.{◌≡◌, ◌≤◌, ◌*◌, ℕ, true, List, [], ◌∷◌, ◌++◌, length, Option, Some, None, Result, Ok, Err}
use Rattle.std.specs.List.{All}
use Rattle.ada_lexer.specs.declared.lexer.LexFault.{LexFault}
use Rattle.ada_lexer.specs.declared.token.Token.{Token}
use Rattle.cov_base.specs.declared.obligations.Region.{Region}
use Rattle.cov_base.specs.declared.obligations.SourceFile.{SourceFile}
use Rattle.cov_base.specs.declared.position.Pos.{Pos}
use Rattle.exemptions.specs.Regions.{Paired, regions_of}
use Rattle.object_format.specs.Counts.{RegionFits}
use Rattle.object_format.specs.Fields.{are_regions}
use Rattle.program_objects.specs.Units.{all_tokens}

-- these regions before those of others
abbrev pub with_regions : List Region → Paired → Paired
with_regions regions (Ok more) = Ok (regions ++ more)
with_regions regions (Err unpaired) = Err unpaired

-- the regions of a file before those of the files behind it; or the file's first pragma that pairs with none
abbrev pub paired_with : Paired → Paired → Paired
paired_with (Ok regions) more = with_regions regions more
paired_with (Err unpaired) more = Err unpaired

-- how the exemption pragmas of files with these tokens pair: the regions, in the order of the files; or the first
-- pragma that pairs with none
abbrev pub regions_of_lists : List (List Token) → Paired
regions_of_lists [] = Ok []
regions_of_lists (tokens ∷ files) = paired_with (regions_of tokens) (regions_of_lists files)

-- where sources have no tokens there is none to pair
abbrev pub paired_of : Result (List (List Token)) LexFault → Paired
paired_of (Ok lists) = regions_of_lists lists
paired_of (Err fault) = Ok []

-- how the exemption pragmas of sources pair
abbrev pub pragmas_of : List SourceFile → Paired
pragmas_of files = paired_of (all_tokens 0 files)

-- the regions into which pragmas pair: none where one pairs with none
abbrev pub regions_in : Paired → List Region
regions_in (Ok regions) = regions
regions_in (Err unpaired) = []

-- where the first pragma stands that pairs with none
abbrev pub unpaired_in : Paired → Option Pos
unpaired_in (Ok regions) = None
unpaired_in (Err unpaired) = Some unpaired.pos

-- the regions of sources
abbrev pub exempt_regions : List SourceFile → List Region
exempt_regions files = regions_in (pragmas_of files)

-- the most tokens of a file, and so the most regions: one more than it has bytes
abbrev pub most_tokens_of_file : ℕ
most_tokens_of_file = 1048577

-- regions stand in so many files as an object has them: in the order of the text, none of which meets another, and each
-- says why in few bytes
pub record AreRegionsIn (files : ℕ) (regions : List Region) : Type 0 where
  pub placed : are_regions files regions ≡ true
  pub few : length regions ≤ files * most_tokens_of_file
  pub short : All RegionFits regions
