-- The walk over what units see of each other, unit by unit: each sets its own interface, which stays.
use Rattle.std.proofs.Common.{◌≡◌, ℕ, nat_eq, Bool, true, false, List, [], ◌∷◌, Option, Some, None, Ok, IfOk, slice_get, set, refl, sym, ap, ◌∙◌, subst, inl, inr}
use Rattle.std.specs.Prelude.{◌⊎◌, unwrap_or}
use Rattle.std.proofs.lemmas.Bool.{eqb-true, eq-eqb, false≢true}
use Rattle.cov_base.specs.Lists.{Somewhere}
use Rattle.cov_base.specs.declared.position.Pos.{Pos}
use Rattle.ada_syntax.specs.declared.unit.Instance.{Instance}
use Rattle.ada_syntax.specs.declared.unit.LibraryItem.{LibraryItem}
use Rattle.ada_syntax.specs.declared.unit.LibraryItem.TheVariants as library
use Rattle.ada_syntax.specs.declared.unit.PackageSpecification.{PackageSpecification}
use Rattle.ada_syntax.specs.declared.unit.SubprogramBody.{SubprogramBody}
use Rattle.ada_syntax.specs.declared.unit.Unit.{Unit as LibraryUnit}
use Rattle.ada_rules.specs.Denoted.{nowhere}
use Rattle.ada_rules.specs.Entities.{key, hidden, unit}
use Rattle.ada_rules.specs.Environment.{typing, Interface, no_interface, World, interface_of, State, Env}
use Rattle.ada_rules.specs.Instances.{formals_declared, generic_named, formals_of, actuals_judged}
use Rattle.ada_rules.specs.Library.{Library, instance_number}
use Rattle.ada_rules.specs.Plan.{◌>>=◌, rule}
use Rattle.ada_rules.specs.Subprograms.{specified, declared_only, closed_by}
use Rattle.ada_rules.specs.Units.{env_of, package_items, Walked, at_unit, formals_in, in_specification, with_package, package_judged, with_instance, instance_judged, with_subprogram, library_routine, library_subprogram, seen_in, interface_judged, interface_at, all_interfaces}
use Rattle.legal_laws.proofs.Passing.{answered, part_so, any_answer}
use Rattle.legal_programs.specs.Growing.{Extends, AddsInterfaces}
use Rattle.legal_programs.specs.Homes.{instances_at}
use Rattle.legal_programs.proofs.Extending.{extends_both}
use Rattle.legal_programs.proofs.ExtendingUnits.{interfaces_add}
use Rattle.legal_programs.proofs.Passed.{of_ok, passed_part, passed_rule}
use Rattle.legal_programs.proofs.Worlds.{IsSameWorld}
use Rattle.legal_texts.proofs.GrownWorlds.{IsGrown, set_others}

abbrev or_else : {A : Type 0} → A → Option A → A
or_else x None = x
or_else x (Some y) = y

pub same_some : {A : Type 0} {x y : A} → Some x ≡ Some y → x ≡ y
same_some {x = x} e = ap (or_else x) e

abbrev pub In : List ℕ → ℕ → Type 0
In ns m = Somewhere (λ k. k ≡ m) ns

-- each number of a list stands in it once
abbrev pub StandOnce : List ℕ → Type 0
StandOnce [] = Unit {0}
StandOnce (n ∷ ns) = (In ns n → ⊥) × StandOnce ns

pub is_in : (ns : List ℕ) (m : ℕ) → In ns m ⊎ (In ns m → ⊥)
is_in [] m = inr (λ h. h)
is_in (n ∷ ns) m = by_number (nat_eq n m) refl (is_in ns m)
  where
    by_number : (b : Bool) → nat_eq n m ≡ b → In ns m ⊎ (In ns m → ⊥) → In (n ∷ ns) m ⊎ (In (n ∷ ns) m → ⊥)
    by_number true e rest = inl (inl (eqb-true n m e))
    by_number false e (inl there) = inl (inr there)
    by_number false e (inr not) = inr (neither e not)
      where
        neither : nat_eq n m ≡ false → (In ns m → ⊥) → In (n ∷ ns) m → ⊥
        neither f none (inl same) = false≢true (sym f ∙ eq-eqb n m same)
        neither f none (inr there) = none there

-- what a unit sets
pub record StepsTo (w : World) (n : ℕ) (y : Walked) : Type 0 where
  pub others : (m : ℕ) → (n ≡ m → ⊥) → interface_of y.world m ≡ interface_of w m
  pub same : IsSameWorld w y.world

same_world : (w : World) → IsSameWorld w w
same_world w = record { standard = refl; names = refl; bodies = refl }

both_worlds : (w v u : World) → IsSameWorld w v → IsSameWorld v u → IsSameWorld w u
both_worlds w v u h k = record { standard = k.standard ∙ h.standard; names = k.names ∙ h.names; bodies = k.bodies ∙ h.bodies }

other_interface : (w : World) (n m : ℕ) (i : Interface) → (n ≡ m → ⊥) → unwrap_or (slice_get (set w.interfaces n i) m) no_interface ≡ interface_of w m
other_interface w n m i other = ap (λ o. unwrap_or o no_interface) (set_others w.interfaces n m i other)

package_steps : (env : Env) (s : State) (p : Pos) (n : ℕ) (x : PackageSpecification) → IfOk (package_judged env s p n x).answer (StepsTo env.world n)
package_steps env s p n x =
    answered (StepsTo env.world n) p _
    (part_so (λ f. Unit {0}) (StepsTo env.world n) (formals_declared (in_specification env n x []) (at_unit s) p 0 (formals_in x.formals)).answer
    (λ formals. package_items (in_specification env n x formals.value) formals.next p x.items
    >>= (λ region. closed_by p x.name x.end_name >>= (λ end. rule (Some (with_package env n x formals.value region)))))
    (any_answer (formals_declared (in_specification env n x []) (at_unit s) p 0 (formals_in x.formals)).answer)
    (λ formals h. part_so (λ f. Unit {0}) (StepsTo env.world n) (package_items (in_specification env n x formals.value) formals.next p x.items).answer
    (λ region. closed_by p x.name x.end_name >>= (λ end. rule (Some (with_package env n x formals.value region))))
    (any_answer (package_items (in_specification env n x formals.value) formals.next p x.items).answer)
    (λ region k. part_so (λ u. Unit {0}) (StepsTo env.world n) (closed_by p x.name x.end_name).answer
    (λ end. rule (Some (with_package env n x formals.value region))) (any_answer (closed_by p x.name x.end_name).answer)
    (λ end u. record { others = λ m other. other_interface env.world n m _ other; same = record { standard = refl; names = refl; bodies = refl } }))))

instance_steps : (env : Env) (s : State) (p : Pos) (n k : ℕ) (i : Instance) → IfOk (instance_judged env s p n k i).answer (StepsTo env.world n)
instance_steps env s p n k i =
    answered (StepsTo env.world n) p _
    (part_so (λ g. Unit {0}) (StepsTo env.world n) (generic_named env i.generic_name).answer
    (λ g. actuals_judged env (at_unit s) p k [] (formals_of env.world g) i.actuals
    >>= (λ actuals. rule (Some (with_instance env.world p n k i g actuals.value actuals.next))))
    (any_answer (generic_named env i.generic_name).answer)
    (λ g u. part_so (λ f. Unit {0}) (StepsTo env.world n) (actuals_judged env (at_unit s) p k [] (formals_of env.world g) i.actuals).answer
    (λ actuals. rule (Some (with_instance env.world p n k i g actuals.value actuals.next)))
    (any_answer (actuals_judged env (at_unit s) p k [] (formals_of env.world g) i.actuals).answer)
    (λ actuals h. record { others = λ m other. other_interface env.world n m _ other; same = record { standard = refl; names = refl; bodies = refl } })))

library_steps : (env : Env) (s : State) (n : ℕ) (b : SubprogramBody) → IfOk (library_subprogram env s n b).answer (StepsTo env.world n)
library_steps env s n b =
    answered (StepsTo env.world n) b.specification.pos _
    (part_so (λ q. Unit {0}) (StepsTo env.world n) (specified env (at_unit s) b.specification).answer
    (λ q. rule (Some (with_subprogram env.world n (library_routine env b q.value) (declared_only s q.next))))
    (any_answer (specified env (at_unit s) b.specification).answer)
    (λ q h. record { others = λ m other. other_interface env.world n m _ other; same = record { standard = refl; names = refl; bodies = refl } }))

-- what a list of units leaves
pub record IsStaying (w : World) (ns : List ℕ) (v : World) : Type 0 where
  pub others : (m : ℕ) → (In ns m → ⊥) → interface_of v m ≡ interface_of w m
  pub same : IsSameWorld w v

pub grown_of : (w v : World) (ns : List ℕ) → IsStaying w ns v → ((m : ℕ) → In ns m → interface_of w m ≡ no_interface) → IsGrown w v
grown_of w v ns stays fresh m = of_either (is_in ns m)
  where
    of_either : In ns m ⊎ (In ns m → ⊥) → (interface_of w m ≡ no_interface) ⊎ (interface_of v m ≡ interface_of w m)
    of_either (inl there) = inl (fresh m there)
    of_either (inr none) = inr (stays.others m none)

module _ (l : Library) where
  pub interface_steps : (w : World) (s : State) (n : ℕ) (u : LibraryUnit) (i : LibraryItem) → IfOk (interface_judged typing l w s n u i).answer (StepsTo w n)
  interface_steps w s n u (library.Package x) = package_steps (env_of typing w n (key x.name) (seen_in w l u (unit n))) s u.item_pos n x
  interface_steps w s n u (library.Instance i) =
      instance_steps (env_of typing w n (key i.name) (seen_in w l u hidden)) s u.item_pos n (instance_number n l.units) i
  interface_steps w s n u (library.Subprogram b) = library_steps (env_of typing w n (key b.specification.name) (seen_in w l u hidden)) s n b
  interface_steps w s n u (library.PackageBody b) = record { others = λ m other. refl; same = same_world w }

  pub at_steps : (x : Walked) (n : ℕ) (o : Option LibraryUnit) → IfOk (interface_at typing l x n o).answer (StepsTo x.world n)
  at_steps x n None = record { others = λ m other. refl; same = same_world x.world }
  at_steps x n (Some u) =
      answered (StepsTo x.world n) u.pos _
      (part_so (StepsTo x.world n) (StepsTo x.world n) (interface_judged typing l x.world x.next n u u.item).answer
      (λ y. rule (Some y)) (interface_steps x.world x.next n u u.item) (λ y h. h))

  pub interfaces_stay : (x : Walked) (ns : List ℕ) → IfOk (all_interfaces typing l x ns).answer (λ y. IsStaying x.world ns y.world)
  interfaces_stay x [] = record { others = λ m none. refl; same = same_world x.world }
  interfaces_stay x (n ∷ ns) =
      answered (λ (y : Walked). IsStaying x.world (n ∷ ns) y.world) nowhere _
      (part_so (StepsTo x.world n) (λ (y : Walked). IsStaying x.world (n ∷ ns) y.world) (interface_at typing l x n (slice_get l.units n)).answer
      (λ y. all_interfaces typing l y ns >>= (λ rest. rule (Some rest)))
      (at_steps x n (slice_get l.units n))
      (λ y h. part_so (λ (z : Walked). IsStaying y.world ns z.world) (λ (z : Walked). IsStaying x.world (n ∷ ns) z.world) (all_interfaces typing l y ns).answer
      (λ rest. rule (Some rest)) (interfaces_stay y ns)
      (λ rest k. record {
        others = λ m none. k.others m (λ there. none (inr there)) ∙ h.others m (λ same. none (inl same));
        same = both_worlds x.world y.world rest.world h.same k.same;
      })))

  -- a unit at its place in the order, before a final world and a final state
  pub record IsAtUnit (final : World) (last : State) (x : Walked) (n : ℕ) (u : LibraryUnit) (y : Walked) : Type 0 where
    pub there : slice_get l.units n ≡ Some u
    pub judged : (interface_judged typing l x.world x.next n u u.item).answer ≡ Ok y
    pub fresh : interface_of x.world n ≡ no_interface
    pub grown : IsGrown x.world final
    pub same : IsSameWorld x.world final
    pub set : interface_of final n ≡ interface_of y.world n
    pub steps : StepsTo x.world n y
    pub extends : Extends y.next last

  abbrev pub IsFresh : Walked → List ℕ → Type 0
  IsFresh x ns = (m : ℕ) → In ns m → interface_of x.world m ≡ no_interface

  module _ (final : World) (last : State) (K : Walked → Type 0)
      (keep : (x : Walked) (n : ℕ) (u : LibraryUnit) (y : Walked) → IsAtUnit final last x n u y → K x → K y) where
    pub unit_known : (x : Walked) (n : ℕ) (o : Option LibraryUnit) (y : Walked) → slice_get l.units n ≡ o → (interface_at typing l x n o).answer ≡ Ok y
        → interface_of x.world n ≡ no_interface → IsGrown x.world final → IsSameWorld x.world final → interface_of final n ≡ interface_of y.world n
        → Extends y.next last → K x → K y
    unit_known x n None y there h fresh grown same set more k = subst K (same_some (passed_rule nowhere (Some x) y h)) k
    unit_known x n (Some u) y there h fresh grown same set more k =
        let part = passed_part u.pos (interface_judged typing l x.world x.next n u u.item).answer (λ z. rule (Some z)) y h in
        let judged : (interface_judged typing l x.world x.next n u u.item).answer ≡ Ok y =
        part.is ∙ ap (λ z. Ok z) (same_some (passed_rule u.pos (Some part.value) y part.rest)) in
        keep x n u y (record {
          there = there;
          judged = judged;
          fresh = fresh;
          grown = grown;
          same = same;
          set = set;
          steps = of_ok (StepsTo x.world n) (interface_judged typing l x.world x.next n u u.item).answer y judged (interface_steps x.world x.next n u u.item);
          extends = more;
        }) k

    pub walk_known : (x : Walked) (ns : List ℕ) (z : Walked) → (all_interfaces typing l x ns).answer ≡ Ok z → z.world ≡ final → Extends z.next last
        → StandOnce ns → IsFresh x ns → K x → K z
    walk_known x [] z h end more once fresh k = subst K (same_some (passed_rule nowhere (Some x) z h)) k
    walk_known x (n ∷ ns) z h end more once fresh k =
        let part = passed_part nowhere (interface_at typing l x n (slice_get l.units n)).answer (λ y. all_interfaces typing l y ns >>= (λ rest. rule (Some rest))) z h in
        let y = part.value in
        let rest = passed_part nowhere (all_interfaces typing l y ns).answer (λ r. rule (Some r)) z part.rest in
        let last_is : (all_interfaces typing l y ns).answer ≡ Ok z = rest.is ∙ ap (λ r. Ok r) (same_some (passed_rule nowhere (Some rest.value) z rest.rest)) in
        let whole = of_ok (λ (r : Walked). IsStaying x.world (n ∷ ns) r.world) (all_interfaces typing l x (n ∷ ns)).answer z h (interfaces_stay x (n ∷ ns)) in
        let later = of_ok (λ (r : Walked). IsStaying y.world ns r.world) (all_interfaces typing l y ns).answer z last_is (interfaces_stay y ns) in
        let adds = of_ok (λ (r : Walked). AddsInterfaces (instances_at l ns) y.next r.next) (all_interfaces typing l y ns).answer z last_is (interfaces_add typing l y ns) in
        let steps = of_ok (StepsTo x.world n) (interface_at typing l x n (slice_get l.units n)).answer y part.is (at_steps x n (slice_get l.units n)) in
        walk_known y ns z last_is end more once.1
        (λ m there. steps.others m (λ e. once.0 (subst (In ns) (sym e) there)) ∙ fresh m (inr there))
        (unit_known x n (slice_get l.units n) y refl part.is (fresh n (inl refl))
        (subst (IsGrown x.world) end (grown_of x.world z.world (n ∷ ns) whole fresh))
        (subst (IsSameWorld x.world) end whole.same)
        (ap (λ w. interface_of w n) (sym end) ∙ later.others n once.0)
        (extends_both y.next z.next last adds.extends more) k)
