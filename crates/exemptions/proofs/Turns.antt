-- How marks pair, a turn at a time.
use Rattle.std.proofs.Common.{◌≡◌, List, [], ◌∷◌, ◌++◌, Ok, Err, Option, Some, ap, refl, sym, ◌∙◌, append_assoc, append-nil, length, arith}
use Rattle.cov_base.specs.declared.obligations.Region.{Region}
use Rattle.ada_lexer.specs.declared.token.Token.{Token}
use Rattle.exemptions.specs.declared.mark.Mark.{Mark}
use Rattle.exemptions.specs.Marks.{mark_of, marks_of, before}
use Rattle.exemptions.specs.Regions.{Paired, with_region, regions_of}
use Rattle.exemptions.specs.declared.pairing.Open.{Open}
use Rattle.exemptions.specs.Open.{paired_behind}

-- regions before others
abbrev pub with_regions : List Region → Paired → Paired
with_regions done (Ok regions) = Ok (done ++ regions)
with_regions done (Err unpaired) = Err unpaired

-- a region behind others, before the rest
pub with_regions-push : (done : List Region) (region : Region) (rest : Paired) → with_regions (done ++ region ∷ []) rest ≡ with_regions done (with_region region rest)
with_regions-push done region (Ok regions) = rw append_assoc refl
with_regions-push done region (Err unpaired) = refl

-- a mark at the front is the first
pub marks_of-front : (first : Token) (after tokens : List Token) (m : Mark) → tokens ≡ first ∷ after → mark_of tokens ≡ Some m → marks_of tokens ≡ m ∷ marks_of after
marks_of-front first after tokens m front e =
    let e' = rw front at e in rw front (ap (λ (o : Option Mark). before o (marks_of after)) e')

-- where no token is left and nothing is open the regions are all
pub all_done : (done : List Region) (opened : Open) (rest tokens : List Token) → with_regions done (paired_behind opened (marks_of rest)) ≡ regions_of tokens → length rest ≡ 0 → paired_behind opened [] ≡ Ok [] → regions_of tokens ≡ Ok done
all_done done opened [] tokens all none closed =
    sym all ∙ ap (with_regions done) closed ∙ rw append-nil refl
all_done done opened (token ∷ rest) tokens all none closed = absurd (omega arith)
