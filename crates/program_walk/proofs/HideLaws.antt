-- Names of a list that are hidden one by one.
use Rattle.std.proofs.Common.{◌≡◌, ℕ, ◌+◌, ◌<◌, List, ◌∷◌, get_or, length, drop, Some, Result, Ok, Err, refl, sym, ap, ◌∙◌, subst}
use Rattle.std.proofs.lemmas.List.{at_drop_more}
use Rattle.cov_base.specs.declared.failure.Failure.{Failure}
use Rattle.cov_base.specs.declared.position.Pos.{Pos}
use Rattle.ada_syntax.specs.declared.name.Identifier.{Identifier}
use Rattle.ada_rules.specs.Plan.{◌>>=◌, rule, outcome_after, answer_at}
use Rattle.ada_rules.specs.Entities.{Region}
use Rattle.ada_rules.specs.Environment.{hide, hide_all}
use Rattle.ada_entities.specs.declared.fault.Refusal.{Refusal}
use Rattle.ada_entities.specs.Answers.{Refuses}
use Rattle.ada_entities.specs.RegionCode.{innermost, enclosing}
use Rattle.ada_phrases.proofs.Parts.{in_part}
use Rattle.program_walk.specs.declared.symbols.Symbols.{Symbols}
use Rattle.program_walk.specs.Changes.{ChangesInside}

-- what ends with its last part is what that part is
handed_on : {A : Type 0} (p : Pos) (r : Result A Pos) → answer_at p (outcome_after r (λ x. rule (Some x))) ≡ r
handed_on p (Ok x) = refl
handed_on p (Err q) = refl

module _ (p : Pos) (r : Region) (is : List Identifier) (n : ℕ) where
  rest_is : (i : Identifier) → n < length is → i ≡ get_or is n i → (hide_all p r (drop n is)).answer ≡ (hide_all p r (i ∷ drop (n + 1) is)).answer
  rest_is i h e =
      at_drop_more (λ xs. (hide_all p r xs).answer) is n i h ∙ ap (λ x. (hide_all p r (x ∷ drop (n + 1) is)).answer) (sym e)

  pub rest_passes : (s : Region) (i : Identifier) → n < length is → i ≡ get_or is n i → (hide r i).answer ≡ Ok s
      → (hide_all p r (drop n is)).answer ≡ (hide_all p s (drop (n + 1) is)).answer
  rest_passes s i h e ok =
      rest_is i h e
      ∙ (ap (λ a. answer_at p (outcome_after a (λ x. hide_all p x (drop (n + 1) is) >>= (λ xs. rule (Some xs))))) ok
      ∙ handed_on p (hide_all p s (drop (n + 1) is)).answer)

  pub rest_refused : (i : Identifier) (f : Failure Refusal) → n < length is → i ≡ get_or is n i → Refuses (hide r i).answer f
      → Refuses (hide_all p r (drop n is)).answer f
  rest_refused i f h e refused =
      subst (λ a. Refuses a f) (sym (rest_is i h e))
      (in_part p (hide r i).answer (λ x. hide_all p x (drop (n + 1) is) >>= (λ xs. rule (Some xs))) f refused)

-- changes of the innermost region, one after another
pub then_inside : (old middle new : Symbols) → ChangesInside old middle → ChangesInside middle new → ChangesInside old new
then_inside old middle new a b = record {
  known = λ h. b.known (a.known h);
  stays = λ h k l alike. a.stays h k l (b.stays (a.known h) k l alike);
  begins = λ k h. a.begins k (b.begins k h);
  regions = b.regions ∙ ap (λ rs. innermost new.regions ∷ enclosing rs) a.regions;
  units = b.units ∙ a.units;
}
