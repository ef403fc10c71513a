-- What a part and the answer behind it come to.
use Rattle.std.proofs.Common.{◌≡◌, Result, Ok, Err, IfOk, sym, ap, ◌∙◌, subst}
use Rattle.cov_base.specs.declared.position.Pos.{Pos}
use Rattle.cov_base.specs.declared.failure.Failure.{Failure}
use Rattle.ada_entities.specs.declared.fault.Refusal.{Refusal}
use Rattle.ada_entities.specs.Answers.{Refuses, Answers}
use Rattle.statement_parts.specs.Pairs.{Pairs}

module _ {A B E : Type 0} (a : A) where
  pub pair_second : (P : B → Type 0) (r : Result B E) (z : A × B) → Pairs a r (Ok z) → IfOk r P → P z.1
  pair_second P (Ok b) z is h = subst P (sym (ap (λ z. z.1) is)) h
  pair_second P (Err f) z is h = absurd is

  pub pair_first : (r : Result B E) (z : A × B) → Pairs a r (Ok z) → z.0 ≡ a
  pair_first (Ok b) z is = ap (λ z. z.0) is
  pair_first (Err f) z is = absurd is

-- what stands to what the rules say of that part
module _ {A B C : Type 0} (a : A) (view : B → C) (s : Result C Pos) where
  pub pair_passes : (r : Result B (Failure Refusal)) (z : A × B) → Pairs a r (Ok z) → Answers view s r → s ≡ Ok (view z.1)
  pair_passes (Ok b) z is h = h ∙ ap (λ z. Ok (view z.1)) (sym is)
  pair_passes (Err f) z is h = absurd is

  pub pair_refuses : (r : Result B (Failure Refusal)) (g : Failure Refusal) → Pairs a r (Err g) → Answers view s r → Refuses s g
  pair_refuses (Ok b) g is h = absurd is
  pair_refuses (Err f) g is h = subst (λ f. Refuses s f) (sym is) h
