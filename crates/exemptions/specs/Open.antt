-- What is open behind some pragmas, against how the rest pairs.
use Rattle.std.specs.Prelude.{◌≡◌, List, [], ◌∷◌, Result, Ok, Err, if◌then◌else◌}
use Rattle.std.specs.List.{list_any}
use Rattle.cov_base.specs.declared.obligations.Region.{Region}
use Rattle.exemptions.specs.declared.mark.Mark.{Mark}
use Rattle.exemptions.specs.declared.mark.Mark.TheVariants as mark
use Rattle.exemptions.specs.declared.pairing.Open.{Open}
use Rattle.exemptions.specs.declared.pairing.Open.TheVariants as opened
use Rattle.exemptions.specs.declared.pairing.Unpaired.{Unpaired}
use Rattle.exemptions.specs.Regions.{Paired, paired, with_region, unpaired_at, is_off}

-- how marks pair where this is open before them
abbrev pub paired_behind : Open → List Mark → Paired
paired_behind opened.Nothing marks = paired marks
paired_behind (opened.One from why) marks = paired (mark.On from why ∷ marks)
paired_behind (opened.Two from inner) marks = unpaired_at (if list_any is_off marks then inner else from)

-- an Off gives a region before those of the rest, or pairs with none
abbrev pub IsEndOf : Paired → Result Region Unpaired → List Mark → Type 0
IsEndOf whole (Ok region) marks = whole ≡ with_region region (paired marks)
IsEndOf whole (Err unpaired) marks = whole ≡ Err unpaired

-- at the end nothing is open, or what is pairs with none
abbrev pub IsClosed : {A : Type 0} → Paired → Result A Unpaired → Type 0
IsClosed whole (Ok done) = whole ≡ Ok []
IsClosed whole (Err unpaired) = whole ≡ Err unpaired
