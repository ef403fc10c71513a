-- In the step of types an instance names a generic that was looked at.
use Rattle.std.proofs.Common.{◌≡◌, ℕ, Option, Some, None, Ok, refl, sym, ap, ◌∙◌, subst}
use Rattle.std.specs.Option.{option_and_then}
use Rattle.ada_syntax.specs.declared.name.Identifier.{Identifier}
use Rattle.ada_rules.specs.Entities.{key, Entity, unit, Region, visible}
use Rattle.ada_rules.specs.Environment.{typing, Interface, generic_interface, World, interface_of, Env, regions_of}
use Rattle.ada_rules.specs.Instances.{generic_number, generic_of, generic_or_any, generic_named}
use Rattle.legal_programs.proofs.Passed.{passed_rule}
use Rattle.legal_texts.proofs.InterfaceWalk.{same_some}

none_is_some : {X : Type 0} {x : X} → None ≡ Some x → ⊥
none_is_some e = cc

pub record IsNamedGeneric (w : World) (o : Option ℕ) : Type 0 where
  pub number : ℕ
  pub is : o ≡ Some number
  pub formals : Region
  pub region : Region
  pub there : interface_of w number ≡ generic_interface formals region

module _ (w : World) where
  number_there : (n : ℕ) (i : Interface) → interface_of w n ≡ i → (m : ℕ) → generic_number w n i ≡ Some m → IsNamedGeneric w (Some m)
  number_there n (generic_interface formals region) there m e =
      record { number = m; is = refl; formals = formals; region = region; there = ap (interface_of w) (sym (same_some e)) ∙ there }
  number_there n i there m e = absurd (none_is_some e)

  entity_there : (x : Entity) (m : ℕ) → generic_of w x ≡ Some m → IsNamedGeneric w (Some m)
  entity_there (unit n) m e = number_there n (interface_of w n) refl m e
  entity_there x m e = absurd (none_is_some e)

module _ (env : Env) (step : env.step ≡ typing) where
  any_there : (p : Option ℕ) → ((m : ℕ) → p ≡ Some m → IsNamedGeneric env.world (Some m)) → (o : Option ℕ) → generic_or_any env p ≡ Some o → IsNamedGeneric env.world o
  any_there None named o e = absurd (none_is_some (subst (λ s. generic_or_any (record env { step = s }) None ≡ Some o) step e))
  any_there (Some n) named o e = subst (IsNamedGeneric env.world) (same_some e) (named n refl)

  visible_there : (x : Option Entity) (o : Option ℕ) → option_and_then (λ y. generic_or_any env (generic_of env.world y)) x ≡ Some o → IsNamedGeneric env.world o
  visible_there None o e = absurd (none_is_some e)
  visible_there (Some y) o e = any_there (generic_of env.world y) (entity_there env.world y) o e

  pub generic_there : (i : Identifier) (o : Option ℕ) → (generic_named env i).answer ≡ Ok o → IsNamedGeneric env.world o
  generic_there i o h =
      visible_there (visible (key i) (regions_of env)) o
      (passed_rule i.pos (option_and_then (λ y. generic_or_any env (generic_of env.world y)) (visible (key i) (regions_of env))) o h)
