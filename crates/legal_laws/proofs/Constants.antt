-- A static value that is named by constants of its generic is what it was before.
use Rattle.std.proofs.Common.{◌≡◌, ℕ, ℤ, pos, true, List, Option, Some, None, IfSome, if◌then◌else◌, refl, sym, ap, ◌∙◌, subst, inl, inr}
use Rattle.std.specs.Prelude.{unwrap_or}
use Rattle.std.specs.Option.{option_and_then}
use Rattle.std.proofs.lemmas.Bool.{eq-eqb}
use Rattle.cov_base.specs.declared.position.Pos.{Pos}
use Rattle.cov_base.specs.Lists.{Everywhere}
use Rattle.ada_meaning.specs.Arithmetic.{base_range, sign_of}
use Rattle.ada_meaning.specs.Program.{GenericConstant, Program}
use Rattle.ada_meaning.specs.Shape.{Shape}
use Rattle.ada_meaning.specs.Tree as tree
use Rattle.ada_meaning.specs.Statics.{in_base, computed, static_value, values_of, within}
use Rattle.ada_meaning.specs.Types.{Static, static_number, static_formal, static_constant, static_first, static_last, static_length, static_sign, static_operation, static_of, Range}
use Rattle.ada_meaning.specs.WellFormed.{IsInBase, HasNumber}
use Rattle.ada_rules.specs.Types.{base}
use Rattle.ada_rules.specs.Environment.{State, Env, demanded}
use Rattle.ada_rules.specs.Declarations.{numbered}
use Rattle.ada_rules.specs.Expressions.{entered_constant, value_named, static_known}
use Rattle.ada_rules.specs.Statics.{Test, Facts, instance_values, value_in, holds}
use Rattle.legal_laws.specs.Demanded.{IsDemanded}
use Rattle.legal_laws.specs.Kept.{OnlyDecides, OnlyStatics}
use Rattle.legal_laws.specs.Served.{HaveValues, HaveOwnValues, AreLimited, Serves, AreShaped, AreListed, IsFinal}
use Rattle.legal_laws.specs.Valued.{AreFactsInBase, HaveFacts}
use Rattle.legal_laws.proofs.KeptStatics.{named_only}
use Rattle.legal_laws.proofs.Values.{value_alike, value_in_base, facts_in_base}

within_base : (o : Option ℤ) → IfSome o IsInBase → within o (Some base_range) ≡ o
within_base None h = refl
within_base (Some x) h = ap (λ b. if b then Some x else None) h

-- a number of the base range, or 0 for what is none
number_or_zero : (o : Option ℤ) → IfSome o IsInBase → HasNumber (in_base (unwrap_or o (pos 0)))
number_or_zero None h = refl
number_or_zero (Some x) h = subst (λ b. HasNumber (if b then Some x else None)) (sym h) h

module _ (facts : List Facts) (are : Everywhere AreFactsInBase facts) (inst : ℕ) where
  abbrev Valued : ℕ → List GenericConstant → Type 0
  Valued g cs = HaveValues facts inst g cs

  -- a constant whose range is the base range has the value of its expression
  entered_alike : (g : ℕ) (e : Static) (s : State) → Valued g (entered_constant g base e s).next.constants_declared
      → value_in facts inst (entered_constant g base e s).value ≡ value_in facts inst e
  entered_alike g e s all =
      all.0 (eq-eqb g g refl) ∙ within_base (value_in facts inst e) (value_in_base (instance_values facts) (facts_in_base facts are) inst e)

  named_before : (g : ℕ) (e : Static) (s : State) → Valued g (value_named g e s).next.constants_declared → Valued g s.constants_declared
  named_before g (static_number x) s all = all
  named_before g (static_formal k) s all = all
  named_before g (static_constant k) s all = all
  named_before g (static_first r) s all = all.1
  named_before g (static_last r) s all = all.1
  named_before g (static_length r) s all = all.1
  named_before g (static_sign op e) s all = named_before g e s all.1
  named_before g (static_operation op e f) s all = named_before g e s (named_before g f (value_named g e s).next all.1)
  named_before g (static_of i e) s all = all.1

  pub named_alike : (g : ℕ) (e : Static) (s : State) → Valued g (value_named g e s).next.constants_declared
      → value_in facts inst (value_named g e s).value ≡ value_in facts inst e
  named_alike g (static_number x) s all = refl
  named_alike g (static_formal k) s all = refl
  named_alike g (static_constant k) s all = refl
  named_alike g (static_first r) s all = entered_alike g (static_first r) s all
  named_alike g (static_last r) s all = entered_alike g (static_last r) s all
  named_alike g (static_length r) s all = entered_alike g (static_length r) s all
  named_alike g (static_sign op e) s all =
      entered_alike g (static_sign op (value_named g e s).value) (value_named g e s).next all
      ∙ ap (option_and_then (λ x. in_base (sign_of op x))) (named_alike g e s all.1)
  named_alike g (static_operation op e f) s all =
      let x = value_named g e s in
      let y = value_named g f x.next in
      entered_alike g (static_operation op x.value y.value) y.next all
      ∙ (ap (λ o. option_and_then (λ a. option_and_then (computed op a) (value_in facts inst y.value)) o)
      (named_alike g e s (named_before g f x.next all.1))
      ∙ ap (λ o. option_and_then (λ a. option_and_then (computed op a) o) (value_in facts inst e)) (named_alike g f x.next all.1))
  named_alike g (static_of i e) s all = entered_alike g (static_of i e) s all

  -- of states in turn
  pub serves_demanded : (o : Option ℕ) (env : Env) (p : Pos) (t : Test) (s : State) → Serves facts inst o (demanded env p t s) → Serves facts inst o s
  serves_demanded o env p t s all = record { met = λ d h g. all.met d (inr h) g; constants = all.constants; limits = all.limits }

  pub demand_met : (o : Option ℕ) (env : Env) (p : Pos) (t : Test) (s : State) → env.generic ≡ o → Serves facts inst o (demanded env p t s)
      → holds facts inst t ≡ true
  demand_met o env p t s at all = all.met (record { place = p; generic = env.generic; test = t }) (inl refl) at

  pub serves_decided : (o : Option ℕ) (s t : State) → OnlyDecides s t → Serves facts inst o t → Serves facts inst o s
  serves_decided o s t only all = record {
    met = λ d h g. all.met d (subst (IsDemanded d) (sym (ap (λ x. x.demands) only)) h) g;
    constants = subst (HaveOwnValues facts inst o) (ap (λ x. x.constants_declared) only) all.constants;
    limits = subst (AreLimited facts inst o) (ap (λ x. x.types_declared) only) all.limits;
  }

  abbrev in_generic : Env → Option ℕ → Env
  in_generic env o = record env { generic = o }

  known_before : (o : Option ℕ) (env : Env) (e : Static) (s : State) → Serves facts inst o (static_known (in_generic env o) e s).next → Serves facts inst o s
  known_before None env e s all = all
  known_before (Some g) env e s all = record {
    met = λ d h k. all.met d (subst (IsDemanded d) (sym (ap (λ x. x.demands) (named_only g e s))) h) k;
    constants = named_before g e s all.constants;
    limits = subst (AreLimited facts inst (Some g)) (ap (λ x. x.types_declared) (named_only g e s)) all.limits;
  }

  known_number : (p : Program) (o : Option ℕ) (env : Env) (e : Static) (s : State) → HaveFacts p.instances facts → Everywhere AreFactsInBase env.world.instances
      → Serves facts inst o (static_known (in_generic env o) e s).next → HasNumber (static_value (values_of p) inst e)
      → HasNumber (static_value (values_of p) inst (static_known (in_generic env o) e s).value)
  known_number p None env e s has world all there =
      number_or_zero (value_in env.world.instances 0 e) (value_in_base (instance_values env.world.instances) (facts_in_base env.world.instances world) 0 e)
  known_number p (Some g) env e s has world all there =
      subst HasNumber
      (value_alike p facts has inst e ∙ sym (named_alike g e s all.constants) ∙ sym (value_alike p facts has inst (value_named g e s).value)) there

  env_is : (env : Env) (o : Option ℕ) → env.generic ≡ o → in_generic env o ≡ env
  env_is env o at = λ i. record env { generic = sym at i }

  pub static_before : (o : Option ℕ) (env : Env) (e : Static) (s : State) → env.generic ≡ o → Serves facts inst o (static_known env e s).next → Serves facts inst o s
  static_before o env e s at =
      subst (λ x. Serves facts inst o (static_known x e s).next → Serves facts inst o s) (env_is env o at) (known_before o env e s)

  pub static_number_there : (p : Program) (o : Option ℕ) (env : Env) (e : Static) (s : State) → env.generic ≡ o → HaveFacts p.instances facts
      → Everywhere AreFactsInBase env.world.instances → Serves facts inst o (static_known env e s).next → HasNumber (static_value (values_of p) inst e)
      → HasNumber (static_value (values_of p) inst (static_known env e s).value)
  static_number_there p o env e s at has world =
      subst (λ x. Serves facts inst o (static_known x e s).next → HasNumber (static_value (values_of p) inst e)
      → HasNumber (static_value (values_of p) inst (static_known x e s).value)) (env_is env o at) (known_number p o env e s has world)

  pub final_before : (p : Program) (shape_of : tree.Object → Shape) (o : Option ℕ) (s t : State) → OnlyStatics s t
      → (Serves facts inst o t → Serves facts inst o s) → IsFinal facts inst p shape_of o t → IsFinal facts inst p shape_of o s
  final_before p shape_of o s t only back all = record {
    serves = back all.serves;
    shaped = subst (AreShaped facts inst p shape_of) (ap (λ x. x.words) only) all.shaped;
    listed = subst (AreListed facts inst p shape_of o) (ap (λ x. x.exceptions_declared) only) all.listed;
  }

  -- a declared constant of a generic is known by its number
  pub numbered_before : (o : Option ℕ) (r : Range) (e : Static) (f : Option Static) (s : State) → Serves facts inst o (numbered o r e f s).next → Serves facts inst o s
  numbered_before None r e f s all = all
  numbered_before (Some g) r e f s all = record {
    met = λ d h k. all.met d (subst (IsDemanded d) (sym (ap (λ x. x.demands) (named_only g e s))) h) k;
    constants = named_before g e s all.constants.1;
    limits = subst (AreLimited facts inst (Some g)) (ap (λ x. x.types_declared) (named_only g e s)) all.limits;
  }
