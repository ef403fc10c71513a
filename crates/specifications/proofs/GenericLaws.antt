-- The generic that a name names.
use Rattle.std.proofs.Common.{◌≡◌, ℕ, Option, Some, None, option_map, refl, sym, ap, ◌∙◌}
use Rattle.std.specs.Option.{option_and_then}
use Rattle.ada_syntax.specs.declared.name.Identifier.{Identifier}
use Rattle.ada_rules.specs.Plan.{ruled, answer_at}
use Rattle.ada_rules.specs.Entities as rules
use Rattle.ada_rules.specs.Entities.{Region, visible, key}
use Rattle.ada_rules.specs.Environment.{Interface, no_interface, package_interface, generic_interface, instance_interface, subprogram_interface, World, Env, regions_of}
use Rattle.ada_rules.specs.Instances.{generic_number, generic_of, generic_or_any, generic_named}
use Rattle.ada_entities.specs.Answers.{Refuses, refusal, refused_at}
use Rattle.program_walk.specs.Generics.{formals_shown}

-- what has formals is a generic
generic_by : (w : World) (n : ℕ) (i : Interface) → option_map (λ f. n) (formals_shown i) ≡ generic_number w n i
generic_by w n no_interface = refl
generic_by w n (package_interface r) = refl
generic_by w n (generic_interface f r) = refl
generic_by w n (instance_interface g i xs) = refl
generic_by w n (subprogram_interface r) = refl

pub generic_there : {A : Type 0} (w : World) (n : ℕ) (i : Interface) (f : A → Region) (o : Option A) → option_map f o ≡ formals_shown i
    → option_map (λ x. n) o ≡ generic_number w n i
generic_there {A = A} w n i f o h = kept o ∙ ap (option_map (λ x. n)) h ∙ generic_by w n i where
  kept : (o : Option A) → option_map (λ x. n) o ≡ option_map (λ x. n) (option_map f o)
  kept None = refl
  kept (Some x) = refl

-- a name that denotes nothing, and one that denotes this
module _ (env : Env) (i : Identifier) where
  pub unseen : visible (key i) (regions_of env) ≡ None → Refuses (generic_named env i).answer (refusal i.pos)
  unseen h = refused_at (ap (λ o. answer_at i.pos (ruled (option_and_then (λ x. generic_or_any env (generic_of env.world x)) o))) h)

  pub seen_as : (x : rules.Entity) (g : Option ℕ) → visible (key i) (regions_of env) ≡ Some x → g ≡ generic_of env.world x
      → (generic_named env i).answer ≡ answer_at i.pos (ruled (generic_or_any env g))
  seen_as x g h e =
      ap (λ o. answer_at i.pos (ruled (option_and_then (λ y. generic_or_any env (generic_of env.world y)) o))) h
      ∙ ap (λ y. answer_at i.pos (ruled (generic_or_any env y))) (sym e)
