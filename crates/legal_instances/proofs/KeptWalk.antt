-- The walk over what other units see keeps each instance that was made beside its facts.
use Rattle.std.proofs.Common.{◌≡◌, ◌≤◌, ◌<◌, ℕ, zero, suc, pred, Bool, false, if◌then◌else◌, List, [], ◌∷◌, reverse, length, Option, Some, None, IfSome, IfOk, set, slice_get, refl, sym, ap, ◌∙◌, subst, arith, inl}
use Rattle.std.specs.Option.{option_and_then}
use Rattle.cov_base.specs.declared.position.Pos.{Pos}
use Rattle.ada_syntax.specs.declared.name.Identifier.{Identifier}
use Rattle.ada_syntax.specs.declared.unit.Instance.{Instance as SourceInstance}
use Rattle.ada_syntax.specs.declared.unit.PackageSpecification.{PackageSpecification}
use Rattle.ada_syntax.specs.declared.unit.SubprogramBody.{SubprogramBody}
use Rattle.ada_syntax.specs.declared.unit.Unit.{Unit as LibraryUnit}
use Rattle.ada_meaning.specs.Program.{GenericConstant}
use Rattle.ada_rules.specs.Entities.{key, Entity, visible, Actual}
use Rattle.ada_rules.specs.Environment.{Step, naming, typing, World, State, Env, regions_of}
use Rattle.ada_rules.specs.Instances.{formals_declared, generic_of, generic_or_any, generic_named, formals_of, actuals_judged, facts_made}
use Rattle.ada_rules.specs.Library.{is_instance, count_instances, instance_number}
use Rattle.ada_rules.specs.Plan.{◌>>=◌, rule}
use Rattle.ada_rules.specs.Statics.{instantiated, Facts, with_constants}
use Rattle.ada_rules.specs.Subprograms.{specified, declared_only, closed_by}
use Rattle.ada_rules.specs.Units.{package_items, Walked, at_unit, formals_in, in_specification, with_package, package_judged, with_instance, instance_judged, with_subprogram, library_routine, library_subprogram}
use Rattle.legal_laws.proofs.Passing.{answered, part_so, any_answer, ruled_so, if_then, steps_apart}
use Rattle.legal_programs.specs.Growing.{IsLonger, Adds}
use Rattle.legal_programs.specs.Homes.{IsThere}
use Rattle.legal_programs.proofs.Adding.{Add, adds_both}
use Rattle.legal_programs.proofs.Extending.{specified_adds, items_add, formals_add}
use Rattle.legal_programs.proofs.ExtendingUnits.{actuals_add, adds_at_unit}
use Rattle.legal_programs.proofs.Lists.{longer_by, longer_both}
use Rattle.legal_instances.proofs.Cycles.{In}
use Rattle.legal_instances.proofs.InstanceNumbers.{IsInstanceAt, number_positive, number_counted, set_here}
use Rattle.legal_instances.proofs.KeptInstances.{actuals_alike, AreKept, kept_longer, kept_set}

-- which of these units are instances
abbrev pub is_instance_there : Option LibraryUnit → Bool
is_instance_there None = false
is_instance_there (Some u) = is_instance u.item

abbrev pub with_instance_unit : ℕ → Bool → List ℕ → List ℕ
with_instance_unit n b ns = if b then n ∷ ns else ns

abbrev pub instances_among : List LibraryUnit → List ℕ → List ℕ
instances_among us [] = []
instances_among us (n ∷ ns) = with_instance_unit n (is_instance_there (slice_get us n)) (instances_among us ns)

-- the instances that were made so far are those of these units
pub record AreMadeSo (us : List LibraryUnit) (ks : List ℕ) (x : Walked) : Type 0 where
  pub kept : AreKept us x.world.instances x.next.demands x.next.instances_declared ks
  pub counted : length x.world.instances ≡ count_instances us

-- what makes no instance
pub record IsQuiet (w : World) (s : State) (y : Walked) : Type 0 where
  pub facts : y.world.instances ≡ w.instances
  pub demands : IsLonger s.demands y.next.demands
  pub declared : y.next.instances_declared ≡ s.instances_declared

pub quiet_so : (us : List LibraryUnit) (ks : List ℕ) (w : World) (s : State) (y : Walked) → IsQuiet w s y → AreMadeSo us ks (record { world = w; next = s })
    → AreMadeSo us ks y
quiet_so us ks w s y q h = record {
  kept = subst (λ fs. AreKept us fs y.next.demands y.next.instances_declared ks) (sym q.facts)
      (subst (λ is. AreKept us w.instances y.next.demands is ks) (sym q.declared)
      (kept_longer us w.instances s.demands y.next.demands q.demands s.instances_declared ks h.kept));
  counted = ap length q.facts ∙ h.counted;
}

pub quiet_adds : (w : World) (s : State) (y : Walked) (t : State) → y.world.instances ≡ w.instances → Adds s t → y.next.demands ≡ t.demands
    → y.next.instances_declared ≡ t.instances_declared → IsQuiet w s y
quiet_adds w s y t facts all demands declared =
    record { facts = facts; demands = subst (IsLonger s.demands) (sym demands) all.demands; declared = declared ∙ all.instances }

pub package_quiet : (env : Env) (s : State) (p : Pos) (n : ℕ) (x : PackageSpecification) → IfOk (package_judged env s p n x).answer (IsQuiet env.world s)
package_quiet env s p n x =
    answered (IsQuiet env.world s) p _
    (part_so (Add (at_unit s)) (IsQuiet env.world s) (formals_declared (in_specification env n x []) (at_unit s) p 0 (formals_in x.formals)).answer
    (λ formals. package_items (in_specification env n x formals.value) formals.next p x.items
    >>= (λ region. closed_by p x.name x.end_name >>= (λ end. rule (Some (with_package env n x formals.value region)))))
    (formals_add (in_specification env n x []) (at_unit s) p 0 (formals_in x.formals))
    (λ formals h. part_so (Add formals.next) (IsQuiet env.world s) (package_items (in_specification env n x formals.value) formals.next p x.items).answer
    (λ region. closed_by p x.name x.end_name >>= (λ end. rule (Some (with_package env n x formals.value region))))
    (items_add (in_specification env n x formals.value) formals.next p x.items)
    (λ region k. part_so (λ u. Unit {0}) (IsQuiet env.world s) (closed_by p x.name x.end_name).answer
    (λ end. rule (Some (with_package env n x formals.value region))) (any_answer (closed_by p x.name x.end_name).answer)
    (λ end u. quiet_adds env.world s (with_package env n x formals.value region) region.next refl
    (adds_both s (at_unit s) region.next (adds_at_unit s) (adds_both (at_unit s) formals.next region.next h k)) refl refl))))

pub library_quiet : (env : Env) (s : State) (n : ℕ) (b : SubprogramBody) → IfOk (library_subprogram env s n b).answer (IsQuiet env.world s)
library_quiet env s n b =
    answered (IsQuiet env.world s) b.specification.pos _
    (part_so (Add (at_unit s)) (IsQuiet env.world s) (specified env (at_unit s) b.specification).answer
    (λ q. rule (Some (with_subprogram env.world n (library_routine env b q.value) (declared_only s q.next))))
    (specified_adds env (at_unit s) b.specification)
    (λ q h. quiet_adds env.world s (with_subprogram env.world n (library_routine env b q.value) (declared_only s q.next)) q.next refl
    (adds_both s (at_unit s) q.next (adds_at_unit s) h) refl refl))

-- the generic of an instance
generic_there : (env : Env) (i : Identifier) → env.step ≡ typing → IfOk (generic_named env i).answer IsThere
generic_there env i step =
    answered IsThere i.pos (rule (option_and_then (λ x. generic_or_any env (generic_of env.world x)) (visible (key i) (regions_of env)))).outcome
    (ruled_so IsThere _ (if_then (λ x. Unit {0}) IsThere (λ x. generic_or_any env (generic_of env.world x)) (visible (key i) (regions_of env))
    (any_some (visible (key i) (regions_of env))) (λ x u. some_generic (generic_of env.world x))))
  where
    any_some : (o : Option Entity) → IfSome o (λ x. Unit {0})
    any_some None = tt
    any_some (Some x) = tt

    some_generic : (o : Option ℕ) → IfSome (generic_or_any env o) IsThere
    some_generic None = none_typed env.step refl
      where
        none_named : (s : Step) → env.step ≡ s → s ≡ typing → IfSome (generic_or_any (record env { step = s }) None) IsThere
        none_named naming e f = absurd (steps_apart f)
        none_named typing e f = tt

        none_typed : (s : Step) → env.step ≡ s → IfSome (generic_or_any (record env { step = env.step }) None) IsThere
        none_typed s e = subst (λ t. IfSome (generic_or_any (record env { step = t }) None) IsThere) (sym step) (none_named typing step refl)
    some_generic (Some n) = tt

module _ (us : List LibraryUnit) (ks : List ℕ) where
  -- an instance
  pub instance_so : (w : World) (p : Pos) (n m : ℕ) (i : SourceInstance) (g : Option ℕ) (actuals : List Actual) (s t : State) (at : IsInstanceAt us m) → p ≡ at.unit.item_pos
      → IsThere g → Add s (record { value = actuals; next = t }) → (In ks m → ⊥) → AreMadeSo us ks (record { world = w; next = s })
      → AreMadeSo us (m ∷ ks) (with_instance w p n (instance_number m us) i g actuals t)
  instance_so w p n m i None actuals s t at place there all new h = absurd there
  instance_so w p n m i (Some g) actuals s t at place there all new h = record {
    kept = (
      record {
        at = at;
        place = place;
        has = with_constants (set w.instances (pred k) made) cs k made;
        there = set_here w.instances (pred k) (with_constants (set w.instances (pred k) made) cs k made) within;
        matches = record { generic = refl; alike = actuals_alike w.instances actuals };
        made = inl (refl, refl);
      },
      kept_set us w.instances (instantiated g k ∷ t.demands) m (with_constants (set w.instances (pred k) made) cs k made) at t.instances_declared ks new
          (kept_longer us w.instances s.demands (instantiated g k ∷ t.demands)
          (longer_both s.demands t.demands (instantiated g k ∷ t.demands) all.demands (longer_by (instantiated g k) t.demands)) t.instances_declared ks
          (subst (λ is. AreKept us w.instances s.demands is ks) (sym all.instances) h.kept)),
    );
    counted = set_length w.instances (pred k) (with_constants (set w.instances (pred k) made) cs k made) ∙ h.counted;
  }
    where
      k : ℕ
      k = instance_number m us

      made : Facts
      made = facts_made w (Some g) actuals

      cs : List GenericConstant
      cs = reverse t.constants_declared

      below : (a b c : ℕ) → 1 ≤ a → a ≤ b → c ≡ b → pred a < c
      below zero b c e f g = absurd (none e)
        where
          none : 1 ≤ 0 → ⊥
          none l = omega (arith, l)
      below (suc a) b c e f g = omega (arith, f, g)

      within : pred k < length w.instances
      within = below k (count_instances us) (length w.instances) (number_positive m us) (number_counted us m at) h.counted

      set_length : {X : Type 0} (xs : List X) (j : ℕ) (x : X) → length (set xs j x) ≡ length xs
      set_length [] zero x = refl
      set_length [] (suc j) x = refl
      set_length (y ∷ xs) zero x = refl
      set_length (y ∷ xs) (suc j) x = ap suc (set_length xs j x)

  pub instance_made_so : (env : Env) (s : State) (p : Pos) (n m : ℕ) (i : SourceInstance) (at : IsInstanceAt us m) → p ≡ at.unit.item_pos → env.step ≡ typing
      → (In ks m → ⊥) → AreMadeSo us ks (record { world = env.world; next = s })
      → IfOk (instance_judged env s p n (instance_number m us) i).answer (AreMadeSo us (m ∷ ks))
  instance_made_so env s p n m i at place step new h =
      answered (AreMadeSo us (m ∷ ks)) p _
      (part_so IsThere (AreMadeSo us (m ∷ ks)) (generic_named env i.generic_name).answer
      (λ g. actuals_judged env (at_unit s) p (instance_number m us) [] (formals_of env.world g) i.actuals
      >>= (λ actuals. rule (Some (with_instance env.world p n (instance_number m us) i g actuals.value actuals.next))))
      (generic_there env i.generic_name step)
      (λ g there. part_so (Add (at_unit s)) (AreMadeSo us (m ∷ ks)) (actuals_judged env (at_unit s) p (instance_number m us) [] (formals_of env.world g) i.actuals).answer
      (λ actuals. rule (Some (with_instance env.world p n (instance_number m us) i g actuals.value actuals.next)))
      (actuals_add env (at_unit s) p (instance_number m us) [] (formals_of env.world g) i.actuals)
      (λ actuals all. instance_so env.world p n m i g actuals.value s actuals.next at place there
      (adds_both s (at_unit s) actuals.next (adds_at_unit s) all) new h)))
