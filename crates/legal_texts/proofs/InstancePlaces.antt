-- Which instance of the program a unit is: the one with its number, which has what its actuals come to.
use Rattle.std.proofs.Common.{◌≡◌, ℕ, suc, List, [], ◌∷◌, ◌++◌, map, Option, Some, None, option_map, IfSome, Ok, IfOk, slice_get, refl, sym, ap, ◌∙◌, subst, inl, inr}
use Rattle.std.specs.Option.{option_and_then}
use Rattle.cov_base.specs.Lists.{Somewhere}
use Rattle.cov_base.specs.declared.position.Pos.{Pos}
use Rattle.ada_syntax.specs.declared.name.Identifier.{Identifier}
use Rattle.ada_syntax.specs.declared.unit.Instance.{Instance as SourceInstance}
use Rattle.ada_syntax.specs.declared.unit.LibraryItem.TheVariants as library
use Rattle.ada_syntax.specs.declared.unit.Unit.{Unit as LibraryUnit}
use Rattle.ada_meaning.specs.Bodies.{StandsIn}
use Rattle.ada_meaning.specs.Program.{Instance, Program}
use Rattle.ada_rules.specs.Entities.{Standard, key, Entity, hidden, mark, literal, object, formal_object, routine, raisable, component, test_io, unit, Region, Actual, visible}
use Rattle.ada_rules.specs.Environment.{typing, Interface, no_interface, package_interface, generic_interface, instance_interface, subprogram_interface, World, interface_of, State, Given, Env, regions_of}
use Rattle.ada_rules.specs.Instances.{generic_number, generic_of, generic_or_any, generic_named, formals_of_interface, formals_of, actuals_judged, typed_actual, instance_made}
use Rattle.ada_rules.specs.Library.{instance_number, library_of}
use Rattle.ada_rules.specs.Plan.{◌>>=◌, rule, answer_at}
use Rattle.ada_rules.specs.Units.{env_of, Walked, at_unit, with_instance, instance_judged, seen_in, interface_judged}
use Rattle.legal_laws.proofs.Passing.{answered, ruled_so, if_then}
use Rattle.legal_programs.specs.Growing.{Extends}
use Rattle.legal_programs.specs.Walked.{IsLegal}
use Rattle.legal_programs.proofs.Passed.{of_ok, passed_part, passed_rule}
use Rattle.legal_instances.specs.InOrder.{UnitsRise}
use Rattle.legal_instances.proofs.NumberedInstances.{made_numbered}
use Rattle.legal_texts.proofs.InterfaceWalk.{same_some, IsAtUnit}

-- the generic that an instance names
pub record IsGenericThere (w : World) (g : ℕ) : Type 0 where
  pub formals : Region
  pub region : Region
  pub is : interface_of w g ≡ generic_interface formals region

abbrev IsGeneric : World → Option ℕ → Type 0
IsGeneric w None = ⊥
IsGeneric w (Some g) = IsGenericThere w g

abbrev in_typing : Env → Env
in_typing env = record env { step = typing }

typed_env : (env : Env) → env.step ≡ typing → in_typing env ≡ env
typed_env env step = λ i. record env { step = sym step i }

-- in the step of types it is one
generic_is : (env : Env) (i : Identifier) → env.step ≡ typing → IfOk (generic_named env i).answer (IsGeneric env.world)
generic_is env i step =
    answered (IsGeneric env.world) i.pos (rule (option_and_then (λ x. generic_or_any env (generic_of env.world x)) (visible (key i) (regions_of env)))).outcome
    (ruled_so (IsGeneric env.world) _
    (if_then (λ x. Unit {0}) (IsGeneric env.world) (λ x. generic_or_any env (generic_of env.world x)) (visible (key i) (regions_of env))
    (any_some (visible (key i) (regions_of env))) (λ x u. of_entity x)))
  where
    any_some : (o : Option Entity) → IfSome o (λ x. Unit {0})
    any_some None = tt
    any_some (Some x) = tt

    none_named : IfSome (generic_or_any env None) (IsGeneric env.world)
    none_named = subst (λ e. IfSome (generic_or_any e None) (IsGeneric env.world)) (typed_env env step) tt

    of_interface : (g : ℕ) (j : Interface) → interface_of env.world g ≡ j → IfSome (generic_or_any env (generic_number env.world g j)) (IsGeneric env.world)
    of_interface g no_interface e = none_named
    of_interface g (package_interface r) e = none_named
    of_interface g (generic_interface f r) e = record { formals = f; region = r; is = e }
    of_interface g (instance_interface o k actuals) e = none_named
    of_interface g (subprogram_interface r) e = none_named

    of_entity : (x : Entity) → IfSome (generic_or_any env (generic_of env.world x)) (IsGeneric env.world)
    of_entity hidden = none_named
    of_entity (mark j t) = none_named
    of_entity (literal t x) = none_named
    of_entity (object v) = none_named
    of_entity (formal_object t e) = none_named
    of_entity (routine r) = none_named
    of_entity (raisable e) = none_named
    of_entity component = none_named
    of_entity test_io = none_named
    of_entity (unit g) = of_interface g (interface_of env.world g) refl

-- what the walk over a unit that is an instance comes to, behind that over its actuals
pub record IsInstanceWalked (env : Env) (s : State) (q : Pos) (n k : ℕ) (i : SourceInstance) (y : Walked) : Type 0 where
  pub generic : ℕ
  pub named : (generic_named env i.generic_name).answer ≡ Ok (Some generic)
  pub there : IsGenericThere env.world generic
  pub given : Given (List Actual)
  pub judged : (actuals_judged env (at_unit s) q k [] there.formals i.actuals).answer ≡ Ok given
  pub is : with_instance env.world q n k i (Some generic) given.value given.next ≡ y

module _ (env : Env) (s : State) (q : Pos) (n k : ℕ) (i : SourceInstance) (y : Walked) (step : env.step ≡ typing) where
  behind_name : (o : Option ℕ) → (generic_named env i.generic_name).answer ≡ Ok o → IsGeneric env.world o
      → answer_at q (actuals_judged env (at_unit s) q k [] (formals_of env.world o) i.actuals
      >>= (λ actuals. rule (Some (with_instance env.world q n k i o actuals.value actuals.next)))).outcome ≡ Ok y
      → IsInstanceWalked env s q n k i y
  behind_name None named is rest = absurd is
  behind_name (Some g) named is rest =
      let given = passed_part q (actuals_judged env (at_unit s) q k [] (formals_of env.world (Some g)) i.actuals).answer
      (λ actuals. rule (Some (with_instance env.world q n k i (Some g) actuals.value actuals.next))) y rest in
      record {
        generic = g;
        named = named;
        there = is;
        given = given.value;
        judged = subst (λ fs. (actuals_judged env (at_unit s) q k [] fs i.actuals).answer ≡ Ok given.value) (ap formals_of_interface is.is) given.is;
        is = same_some (passed_rule q (Some (with_instance env.world q n k i (Some g) given.value.value given.value.next)) y given.rest);
      }

  pub instance_walked : (instance_judged env s q n k i).answer ≡ Ok y → IsInstanceWalked env s q n k i y
  instance_walked h =
      let name = passed_part q (generic_named env i.generic_name).answer
      (λ g. actuals_judged env (at_unit s) q k [] (formals_of env.world g) i.actuals
      >>= (λ actuals. rule (Some (with_instance env.world q n k i g actuals.value actuals.next)))) y h in
      behind_name name.value name.is (of_ok (IsGeneric env.world) (generic_named env i.generic_name).answer name.value name.is (generic_is env i.generic_name step)) name.rest

-- the instance of the program with this number is one of this generic with these actuals, which were looked at where other instances had these facts
pub record IsInstanceOf (p : Program) (k g : ℕ) (w : World) (actuals : List Actual) : Type 0 where
  pub place : ℕ
  pub number : k ≡ suc place
  pub made : Instance
  pub there : slice_get p.instances place ≡ Some made
  pub generic : made.generic ≡ g
  pub actuals_are : made.actuals ≡ map (typed_actual w.instances) actuals

pub instance_stands : (p : Program) (k g : ℕ) (w : World) (actuals : List Actual) → IsInstanceOf p k g w actuals → StandsIn p (Some g) k
instance_stands p k g w actuals is =
    subst (StandsIn p (Some g)) (sym is.number) (ap (option_map (λ x. x.generic)) is.there ∙ ap (λ m. Some m) is.generic)

somewhere_behind : (P : Instance → Type 0) (more xs : List Instance) → Somewhere P xs → Somewhere P (more ++ xs)
somewhere_behind P [] xs h = h
somewhere_behind P (x ∷ more) xs h = inr (somewhere_behind P more xs h)

module _ (standard : Standard) (us : List LibraryUnit) (main : List ℕ) (p : Program) (legal : IsLegal (library_of standard us) main p) (rise : UnitsRise us) where
  -- a unit that is an instance is the one with its number
  pub instance_there : (env : Env) (s : State) (n : ℕ) (u : LibraryUnit) (i : SourceInstance) (y : Walked) → slice_get us n ≡ Some u
      → (walked : IsInstanceWalked env s u.item_pos n (instance_number n us) i y) → Extends y.next legal.walked.next
      → IsInstanceOf p (instance_number n us) walked.generic env.world walked.given.value
  instance_there env s n u i y is walked more =
      let made : Instance = instance_made env.world u.item_pos i (Some walked.generic) walked.given.value in
      let behind : y.next.instances_declared ≡ (made ∷ walked.given.next.instances_declared) = ap (λ w. w.next.instances_declared) (sym walked.is) in
      let declared = subst (Somewhere (λ x. x ≡ made)) (sym more.instances.is)
      (somewhere_behind (λ x. x ≡ made) more.instances.more y.next.instances_declared (subst (Somewhere (λ x. x ≡ made)) (sym behind) (inl refl))) in
      let numbered = made_numbered standard us main p legal rise n u made is refl declared in
      record {
        place = numbered.place;
        number = numbered.number;
        made = numbered.made;
        there = numbered.there;
        generic = numbered.generic;
        actuals_are = numbered.actuals;
      }

  abbrev pub env_at : World → ℕ → LibraryUnit → SourceInstance → Env
  env_at w n u i = env_of typing w n (key i.name) (seen_in w (library_of standard us) u hidden)

  -- at its place in the order of dependence
  pub record IsAtInstance (x : Walked) (n : ℕ) (u : LibraryUnit) (i : SourceInstance) (y : Walked) : Type 0 where
    pub walked : IsInstanceWalked (env_at x.world n u i) x.next u.item_pos n (instance_number n us) i y
    pub instance : IsInstanceOf p (instance_number n us) walked.generic x.world walked.given.value
    pub stands : StandsIn p (Some walked.generic) (instance_number n us)

  pub at_instance : (final : World) (x : Walked) (n : ℕ) (u : LibraryUnit) (i : SourceInstance) (y : Walked)
      → IsAtUnit (library_of standard us) final legal.walked.next x n u y → u.item ≡ library.Instance i → IsAtInstance x n u i y
  at_instance final x n u i y at item =
      let walked = instance_walked (env_at x.world n u i) x.next u.item_pos n (instance_number n us) i y refl
      (subst (λ c. (interface_judged typing (library_of standard us) x.world x.next n u c).answer ≡ Ok y) item at.judged) in
      let there = instance_there (env_at x.world n u i) x.next n u i y at.there walked at.extends in
      record { walked = walked; instance = there; stands = instance_stands p (instance_number n us) walked.generic x.world walked.given.value there }
