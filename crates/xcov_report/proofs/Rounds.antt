-- The regions in which findings stand: found region by region, and finding by finding.
use Rattle.std.proofs.Common.{◌≡◌, ℕ, Bool, true, false, not, cond, ◌&&◌, ◌||◌, List, [], ◌∷◌, Option, Some, filter, refl, sym, ap, ◌∙◌, if◌then◌else◌}
use Rattle.std.specs.List.{list_any}
use Rattle.cov_base.specs.declared.obligations.Region.{Region}
use Rattle.exemptions.specs.Regions.{is_inside}
use Rattle.annotated_report.specs.declared.finding.Finding.{Finding}
use Rattle.annotated_report.specs.Lines.{region_round}
use Rattle.xcov_report.specs.declared.told.Told.TheVariants as told
use Rattle.xcov_report.specs.Obliged.{is_of_some, of_region, region_stretches}
use Rattle.xcov_report.specs.Told.{tells}

-- one more item, by whether it is in the region
one_item : (here gives all left rest any : Bool) → any ≡ ((left && all) || rest)
    → ((if here then all else gives) || any) ≡ (((here || left) && all) || (if here then rest else (gives || rest)))
one_item true gives true left rest any e = refl
one_item true gives false true rest any e = e
one_item true gives false false rest any e = e
one_item false true true true rest any e = refl
one_item false true true false rest any e = refl
one_item false true false true rest any e = refl
one_item false true false false rest any e = refl
one_item false false all left rest any e = e

any_kept : {X : Type 0} (here : Bool) (g : X → Bool) (x : X) (xs : List X)
    → (if here then list_any g xs else (g x || list_any g xs)) ≡ list_any g (cond (not here) (x ∷ xs) xs)
any_kept true g x xs = refl
any_kept false g x xs = refl

-- a test that says one thing of the items which pass another, of which the rest is left
split_any : {X : Type 0} (p g h q : X → Bool) (all : Bool) (xs : List X)
    → ((x : X) → h x ≡ (if p x then all else g x)) → ((x : X) → q x ≡ not (p x))
    → list_any h xs ≡ ((list_any p xs && all) || list_any g (filter q xs))
split_any p g h q all [] e f = refl
split_any p g h q all (x ∷ xs) e f =
    ap (λ b. b || list_any h xs) (e x)
    ∙ one_item (p x) (g x) all (list_any p xs) (list_any g (filter q xs)) (list_any h xs) (split_any p g h q all xs e f)
    ∙ ap (λ b. ((p x || list_any p xs) && all) || b)
    (any_kept (p x) g x (filter q xs) ∙ ap (λ b. list_any g (cond b (x ∷ filter q xs) (filter q xs))) (sym (f x)))

never : {X : Type 0} (xs : List X) → false ≡ list_any (λ x. false) xs
never [] = refl
never (x ∷ xs) = never xs

chosen : (here : Bool) (file line : ℕ) (region : Region) (rest : Option Region)
    → is_of_some file line (if here then Some region else rest)
    ≡ (if here then is_of_some file line (Some region) else is_of_some file line rest)
chosen true file line region rest = refl
chosen false file line region rest = refl

exempted_tells : (b : Bool) (file line : ℕ) (region : Region)
    → tells told.Exempted file line (of_region b region) ≡ (b && is_of_some file line (Some region))
exempted_tells true file line region = refl
exempted_tells false file line region = refl

pub told_by_findings : (regions : List Region) (found : List Finding) (file line : ℕ)
    → list_any (tells told.Exempted file line) (region_stretches regions found)
    ≡ list_any (λ (f : Finding). is_of_some file line (region_round f.key.pos regions)) found
told_by_findings [] found file line = never found
told_by_findings (region ∷ regions) found file line =
    let inside : Finding → Bool = λ f. is_inside f.key.pos region in
    let less = filter (λ (f : Finding). not (is_inside f.key.pos region)) found in
    let later : Finding → Bool = λ f. is_of_some file line (region_round f.key.pos regions) in
    ap (λ b. b || list_any (tells told.Exempted file line) (region_stretches regions less))
    (exempted_tells (list_any inside found) file line region)
    ∙ ap (λ b. (list_any inside found && is_of_some file line (Some region)) || b) (told_by_findings regions less file line)
    ∙ sym (split_any inside later (λ f. is_of_some file line (region_round f.key.pos (region ∷ regions)))
    (λ f. not (is_inside f.key.pos region)) (is_of_some file line (Some region)) found
    (λ f. chosen (is_inside f.key.pos region) file line region (region_round f.key.pos regions))
    (λ f. refl))
