-- The regions of a source that are exempt from coverage.
use Rattle.std.specs.Prelude.{◌≡◌, ℕ, List, [], ◌∷◌, ◌==◌, ◌&&◌, ◌||◌, Bool, true, false, Result, Ok, Err, if◌then◌else◌, nat_lt, ◌<◌, All, AllPairs, IsAscii}
use Rattle.std.specs.List.{list_any}
use Rattle.cov_base.specs.declared.failure.Failure.{Failure}
use Rattle.cov_base.specs.declared.failure.Failure.TheVariants.{Fault, WantOfMemory}
use Rattle.cov_base.specs.declared.obligations.Region.{Region}
use Rattle.cov_base.specs.declared.position.Pos.{Pos}
use Rattle.ada_lexer.specs.declared.token.Token.{Token}
use Rattle.exemptions.specs.declared.mark.Mark.{Mark}
use Rattle.exemptions.specs.declared.mark.Mark.TheVariants as mark
use Rattle.exemptions.specs.declared.pairing.Unpaired.{Unpaired}
use Rattle.ada_lexer.specs.Tokens.{IsBefore, AreTokensOf}
use Rattle.exemptions.specs.Marks.{marks_of}

-- regions, or the pragma that pairs with none
abbrev pub Paired : Type 0
Paired = Result (List Region) Unpaired

-- the region from an On pragma to an Off pragma
abbrev pub region_of : Pos → List ℕ → Pos → Region
region_of from why to =
    record { file = from.file; from_line = from.line; from_column = from.col; to_line = to.line; to_column = to.col; why = why }

-- a region before others
abbrev pub with_region : Region → Paired → Paired
with_region region (Ok regions) = Ok (region ∷ regions)
with_region region (Err unpaired) = Err unpaired

-- a pragma at this place pairs with none
abbrev pub unpaired_at : Pos → Paired
unpaired_at pos = Err (record { pos = pos })

-- whether a mark ends a region
abbrev pub is_off : Mark → Bool
is_off (mark.On pos why) = false
is_off (mark.Off pos) = true

-- each On pairs with the Off that follows it. The first pragma is refused that is an Off outside a region, an On inside one, or an On that no Off follows
abbrev pub paired : List Mark → Paired
paired [] = Ok []
paired (mark.Off pos ∷ marks) = unpaired_at pos
paired (mark.On pos why ∷ []) = unpaired_at pos
paired (mark.On pos why ∷ mark.Off to ∷ marks) = with_region (region_of pos why to) (paired marks)
paired (mark.On pos why ∷ mark.On inner because ∷ marks) = unpaired_at (if list_any is_off marks then inner else pos)

-- the regions of a source
abbrev pub regions_of : List Token → Paired
regions_of tokens = paired (marks_of tokens)

-- whether a line and column stand before others
abbrev pub is_before : ℕ → ℕ → ℕ → ℕ → Bool
is_before line column later_line later_column = nat_lt line later_line || ((line == later_line) && nat_lt column later_column)

-- whether a place is strictly between the ends of a region
abbrev pub is_inside : Pos → Region → Bool
is_inside pos region =
    (region.file == pos.file)
    && is_before region.from_line region.from_column pos.line pos.col
    && is_before pos.line pos.col region.to_line region.to_column

-- whether one of the regions holds a place
abbrev pub is_exempt : List Region → Pos → Bool
is_exempt regions pos = list_any (is_inside pos) regions

-- where a region begins, and where it ends
abbrev pub start_of : Region → Pos
start_of region = record { file = region.file; line = region.from_line; col = region.from_column }

abbrev pub end_of : Region → Pos
end_of region = record { file = region.file; line = region.to_line; col = region.to_column }

-- a region of a file ends behind its beginning, counts lines and columns from 1, and says why in ASCII
pub record IsRegionOf (file : ℕ) (region : Region) : Type 0 where
  pub in_file : region.file ≡ file
  pub from_line : 0 < region.from_line
  pub from_column : 0 < region.from_column
  pub to_line : 0 < region.to_line
  pub to_column : 0 < region.to_column
  pub ordered : IsBefore (start_of region) (end_of region)
  pub ascii : IsAscii region.why

-- regions of a file, each of which begins behind the end of those before it
pub record AreRegionsOf (file : ℕ) (regions : List Region) : Type 0 where
  pub each : All (IsRegionOf file) regions
  pub apart : AllPairs (λ a b. IsBefore (end_of a) (start_of b)) regions

-- where tokens are those of a file, these regions are regions of the file
abbrev pub ArePlaced : List Token → List Region → Type 0
ArePlaced tokens regions = (file : ℕ) (source : List ℕ) → AreTokensOf file source tokens → AreRegionsOf file regions

-- a failed call met this fault, where memory wasn't refused
abbrev pub Fails : Failure Unpaired → Paired → Type 0
Fails (Fault unpaired) regions = regions ≡ Err unpaired
Fails WantOfMemory regions = Unit {0}
