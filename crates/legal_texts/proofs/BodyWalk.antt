-- The walk over the bodies of units, unit by unit.
use Rattle.std.proofs.Common.{◌≡◌, ◌+◌, ℕ, suc, List, [], ◌∷◌, length, Some, Ok, slice_get, ap, ◌∙◌, subst, arith}
use Rattle.cov_base.specs.Lists.{Everywhere}
use Rattle.ada_syntax.specs.declared.unit.Unit.{Unit as LibraryUnit}
use Rattle.ada_rules.specs.Denoted.{nowhere}
use Rattle.ada_rules.specs.Environment.{typing, World, State}
use Rattle.ada_rules.specs.Library.{Library, all_bodies}
use Rattle.ada_rules.specs.Plan.{◌>>=◌, rule, construct}
use Rattle.ada_rules.specs.Units.{bodies_judged, all_bodies_judged}
use Rattle.legal_programs.specs.Growing.{Extends, AddsBodies}
use Rattle.legal_programs.specs.Homes.{HasHome}
use Rattle.legal_programs.proofs.Extending.{extends_both}
use Rattle.legal_programs.proofs.ExtendingUnits.{all_bodies_add}
use Rattle.legal_programs.proofs.Passed.{of_ok, passed_part, passed_rule}
use Rattle.legal_texts.proofs.InterfaceWalk.{same_some}
use Rattle.legal_texts.proofs.Kept.{IsKept}
use Rattle.legal_texts.proofs.KeptUnits.{has_package_body, all_bodies_keep}

module _ (l : Library) (w : World) (last : State) where
  -- a unit at its place in the text, before a final state in which no limit is passed
  pub record IsAtBody (s : State) (n : ℕ) (u : LibraryUnit) (t : State) : Type 0 where
    pub there : slice_get l.units n ≡ Some u
    pub judged : (bodies_judged typing l w s n u u.item).answer ≡ Ok t
    pub few : t.excesses ≡ []
    pub extends : Extends t last

  -- these are the units of the library from n on
  abbrev pub AreFrom : ℕ → List LibraryUnit → Type 0
  AreFrom n us = (k : ℕ) → slice_get l.units (n + k) ≡ slice_get us k

  from_next : (n : ℕ) (u : LibraryUnit) (us : List LibraryUnit) → AreFrom n (u ∷ us) → AreFrom (n + 1) us
  from_next n u us h k = let count : (n + 1) + k ≡ n + suc k = omega (arith) in ap (slice_get l.units) count ∙ h (suc k)

  from_here : (n : ℕ) (u : LibraryUnit) (us : List LibraryUnit) → AreFrom n (u ∷ us) → slice_get l.units n ≡ Some u
  from_here n u us h = let none : n ≡ n + 0 = omega (arith) in ap (slice_get l.units) none ∙ h 0

  module _ (K : ℕ → State → Type 0) (keep : (s : State) (n : ℕ) (u : LibraryUnit) (t : State) → IsAtBody s n u t → K n s → K (n + 1) t) where
    pub bodies_known : (s : State) (n : ℕ) (us : List LibraryUnit) (z : State) → (all_bodies_judged typing l w s n us).answer ≡ Ok z → AreFrom n us
        → Everywhere (λ u. HasHome l u.item) us → z.excesses ≡ [] → Extends z last → K n s → K (n + length us) z
    bodies_known s n [] z h from homes few more k =
        let none : n ≡ n + 0 = omega (arith) in
        subst (λ m. K m z) none (subst (K n) (same_some (passed_rule nowhere (Some s) z h)) k)
    bodies_known s n (u ∷ us) z h from homes few more k =
        let part = passed_part nowhere (construct u.pos (bodies_judged typing l w s n u u.item >>= (λ y. rule (Some y)))).answer
        (λ x. all_bodies_judged typing l w x (n + 1) us >>= (λ rest. rule (Some rest))) z h in
        let x = part.value in
        let own = passed_part u.pos (bodies_judged typing l w s n u u.item).answer (λ y. rule (Some y)) x part.is in
        let judged : (bodies_judged typing l w s n u u.item).answer ≡ Ok x = own.is ∙ ap (λ y. Ok y) (same_some (passed_rule u.pos (Some own.value) x own.rest)) in
        let rest = passed_part nowhere (all_bodies_judged typing l w x (n + 1) us).answer (λ r. rule (Some r)) z part.rest in
        let last_is : (all_bodies_judged typing l w x (n + 1) us).answer ≡ Ok z = rest.is ∙ ap (λ r. Ok r) (same_some (passed_rule nowhere (Some rest.value) z rest.rest)) in
        let adds = of_ok (AddsBodies (length (all_bodies us)) x) (all_bodies_judged typing l w x (n + 1) us).answer z last_is (all_bodies_add typing l w x (n + 1) us homes.1) in
        let kept = of_ok (IsKept (has_package_body us) x) (all_bodies_judged typing l w x (n + 1) us).answer z last_is (all_bodies_keep l w x (n + 1) us) in
        let count : (n + 1) + length us ≡ n + length (u ∷ us) = omega (arith) in
        subst (λ m. K m z) count
        (bodies_known x (n + 1) us z last_is (from_next n u us from) homes.1 few more
        (keep s n u x (record {
          there = from_here n u us from;
          judged = judged;
          few = kept.few few;
          extends = extends_both x z last adds.extends more;
        }) k))
