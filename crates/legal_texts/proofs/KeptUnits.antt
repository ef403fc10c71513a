-- Bodies of units: where no limit is passed behind them, none was passed before them; and units without bodies of packages declare no object of the
-- library level.
use Rattle.std.proofs.Common.{◌≡◌, ◌+◌, ℕ, Bool, true, false, List, [], ◌∷◌, Option, Some, None, option_map, IfSome, IfOk, refl}
use Rattle.std.specs.Prelude.{◌||◌}
use Rattle.cov_base.specs.declared.position.Pos.{Pos}
use Rattle.ada_syntax.specs.declared.unit.BodyItem.{BodyItem}
use Rattle.ada_syntax.specs.declared.unit.BodyItem.TheVariants as item
use Rattle.ada_syntax.specs.declared.unit.LibraryItem.{LibraryItem}
use Rattle.ada_syntax.specs.declared.unit.LibraryItem.TheVariants as library
use Rattle.ada_syntax.specs.declared.unit.PackageBody.{PackageBody}
use Rattle.ada_syntax.specs.declared.unit.PackageItem.{PackageItem}
use Rattle.ada_syntax.specs.declared.unit.PackageItem.TheVariants as part
use Rattle.ada_syntax.specs.declared.unit.Specification.{Specification}
use Rattle.ada_syntax.specs.declared.unit.SubprogramBody.{SubprogramBody}
use Rattle.ada_syntax.specs.declared.unit.Unit.{Unit as LibraryUnit}
use Rattle.ada_rules.specs.Denoted.{nowhere}
use Rattle.ada_rules.specs.Entities.{key, routine, Region, redefined}
use Rattle.ada_rules.specs.Environment.{typing, World, interface_of, State, Given, given, Env, with_local, hide}
use Rattle.ada_rules.specs.Declarations.{declared}
use Rattle.ada_rules.specs.Library.{Library, is_package_body, unit_named}
use Rattle.ada_rules.specs.Plan.{Plan, ◌>>=◌, rule}
use Rattle.ada_rules.specs.Subprograms.{Profile, specified, declared_only, body_number, routine_of, subprogram_declared, completed, conforming, closed_by, body_judged, with_routine, packaged_body}
use Rattle.ada_rules.specs.Units.{env_of, package_item, body_item, body_items, at_unit, behind_unit, seen_in, region_of, seen_in_body, in_body, package_body, package_body_of, subprogram_body, routine_entity, bodies_judged, all_bodies_judged}
use Rattle.legal_laws.proofs.Passing.{IfPassed, if_map, answered, ruled_so, part_so, any_answer}
use Rattle.legal_texts.proofs.Kept.{IsKept, kept_same, kept_none, kept_both, kept_inside}
use Rattle.legal_texts.proofs.KeptBodies.{IsShort, specified_short, judged_kept}
use Rattle.legal_texts.proofs.KeptDeclarations.{KeepOn, declaration_keeps}

abbrev pub KeptBy : {A : Type 0} → Bool → State → Given A → Type 0
KeptBy b s g = IsKept b s g.next

pub kept_weaker : (a b : Bool) (s t : State) → (b ≡ false → a ≡ false) → IsKept a s t → IsKept b s t
kept_weaker a b s t so h = record { few = h.few; objects = λ e. h.objects (so e) }

any_some : {X : Type 0} (o : Option X) → IfSome o (λ n. Unit {0})
any_some None = tt
any_some (Some n) = tt

pub subprogram_keeps : (env : Env) (s : State) (x : Specification) → IfOk (subprogram_declared env s x).answer (KeptBy false s)
subprogram_keeps env s x =
    answered (KeptBy false s) x.pos _
    (part_so (λ r. Unit {0}) (KeptBy false s) (hide env.local x.name).answer
    (λ region. specified (with_local env region) s x
    >>= (λ q. rule (option_map (λ n. given (redefined (key x.name) (routine (routine_of env (key x.name) true q.value)) region) (declared_only s q.next))
    (body_number env.world env.unit_name (key x.name)))))
    (any_answer (hide env.local x.name).answer)
    (λ region u. part_so (IsShort s) (KeptBy false s) (specified (with_local env region) s x).answer
    (λ q. rule (option_map (λ n. given (redefined (key x.name) (routine (routine_of env (key x.name) true q.value)) region) (declared_only s q.next))
    (body_number env.world env.unit_name (key x.name))))
    (specified_short (with_local env region) s x)
    (λ q h. ruled_so (KeptBy false s) _
    (if_map (λ n. Unit {0}) (KeptBy false s) (λ n. given (redefined (key x.name) (routine (routine_of env (key x.name) true q.value)) region) (declared_only s q.next))
    (body_number env.world env.unit_name (key x.name)) (any_some (body_number env.world env.unit_name (key x.name)))
    (λ n v. kept_both false s q.next (declared_only s q.next) h.kept (kept_none false q.next (declared_only s q.next) refl refl))))))

pub item_keeps : (env : Env) (s : State) (i : PackageItem) → IfPassed (package_item env s i).outcome (KeptBy env.is_library s)
item_keeps env s (part.Declaration d) =
    part_so (KeepOn env s) (KeptBy env.is_library s) (declared env s d).answer (λ x. rule (Some (given x.region x.next))) (declaration_keeps env s d) (λ x h. h)
item_keeps env s (part.Subprogram x) =
    part_so (KeptBy false s) (KeptBy env.is_library s) (subprogram_declared env s x).answer (λ r. rule (Some r)) (subprogram_keeps env s x)
    (λ r h. kept_inside env.is_library s r.next h)

module _ (env : Env) (s : State) (b : SubprogramBody) where
  abbrev after_conforming : Region → Given Profile → Plan (Given Region)
  after_conforming region q =
      body_judged env s b (with_routine env region b.specification.name q.value) (key b.specification.name) q
      >>= (λ next. rule (Some (given (with_routine env region b.specification.name q.value) next)))

  abbrev after_specified : Region → Given Profile → Plan (Given Region)
  after_specified region q = conforming b.specification.pos region b.specification.name q.value >>= (λ fit. after_conforming region q)

  abbrev after_completed : Region → Plan (Given Region)
  after_completed region = specified (with_local env region) s b.specification >>= after_specified region

  pub packaged_keeps : IfOk (packaged_body env s b).answer (KeptBy false s)
  packaged_keeps =
      answered (KeptBy false s) b.specification.pos _
      (part_so (λ r. Unit {0}) (KeptBy false s) (completed env.local b.specification.name).answer after_completed
      (any_answer (completed env.local b.specification.name).answer)
      (λ region u. part_so (IsShort s) (KeptBy false s) (specified (with_local env region) s b.specification).answer (after_specified region)
      (specified_short (with_local env region) s b.specification)
      (λ q h. part_so (λ v. Unit {0}) (KeptBy false s) (conforming b.specification.pos region b.specification.name q.value).answer
      (λ fit. after_conforming region q) (any_answer (conforming b.specification.pos region b.specification.name q.value).answer)
      (λ fit v. part_so (IsKept false q.next) (KeptBy false s)
      (body_judged env s b (with_routine env region b.specification.name q.value) (key b.specification.name) q).answer
      (λ next. rule (Some (given (with_routine env region b.specification.name q.value) next)))
      (judged_kept env s b (with_routine env region b.specification.name q.value) (key b.specification.name) q)
      (λ next k. kept_both false s q.next next h.kept k)))))

body_item_keeps : (env : Env) (s : State) (i : BodyItem) → IfPassed (body_item env s i).outcome (KeptBy env.is_library s)
body_item_keeps env s (item.Declared i) = item_keeps env s i
body_item_keeps env s (item.Body b) =
    part_so (KeptBy false s) (KeptBy env.is_library s) (packaged_body env s b).answer (λ r. rule (Some r)) (packaged_keeps env s b)
    (λ r h. kept_inside env.is_library s r.next h)

pub body_items_keep : (env : Env) (s : State) (p : Pos) (is : List BodyItem) → IfOk (body_items env s p is).answer (KeptBy env.is_library s)
body_items_keep env s p [] = kept_same env.is_library s
body_items_keep env s p (i ∷ is) =
    answered (KeptBy env.is_library s) p _
    (part_so (KeptBy env.is_library s) (KeptBy env.is_library s) _ (λ r. body_items (with_local env r.value) r.next p is >>= (λ rest. rule (Some rest)))
    (answered (KeptBy env.is_library s) p (body_item env s i).outcome (body_item_keeps env s i))
    (λ r h. part_so (KeptBy env.is_library r.next) (KeptBy env.is_library s) (body_items (with_local env r.value) r.next p is).answer (λ rest. rule (Some rest))
    (body_items_keep (with_local env r.value) r.next p is) (λ rest k. kept_both env.is_library s r.next rest.next h k)))

package_body_keeps : (env : Env) (s : State) (p : Pos) (n : ℕ) (b : PackageBody) → IfOk (package_body env s p n b).answer (IsKept env.is_library s)
package_body_keeps env s p n b =
    answered (IsKept env.is_library s) p _
    (part_so (KeptBy env.is_library (at_unit s)) (IsKept env.is_library s)
    (body_items (in_body env n (interface_of env.world n) (region_of (interface_of env.world n))) (at_unit s) p b.items).answer
    (λ region. closed_by p b.name b.end_name >>= (λ end. rule (Some (behind_unit (in_body env n (interface_of env.world n) []) n region.next))))
    (body_items_keep (in_body env n (interface_of env.world n) (region_of (interface_of env.world n))) (at_unit s) p b.items)
    (λ region h. part_so (λ u. Unit {0}) (IsKept env.is_library s) (closed_by p b.name b.end_name).answer
    (λ end. rule (Some (behind_unit (in_body env n (interface_of env.world n) []) n region.next))) (any_answer (closed_by p b.name b.end_name).answer)
    (λ end u. kept_both env.is_library s (at_unit s) _ (kept_none env.is_library s (at_unit s) refl refl)
    (kept_both env.is_library (at_unit s) region.next _ h (kept_none env.is_library region.next _ refl refl)))))

pub subprogram_body_keeps : (env : Env) (s : State) (b : SubprogramBody) → IfOk (subprogram_body env s b).answer (IsKept false s)
subprogram_body_keeps env s b =
    answered (IsKept false s) b.specification.pos _
    (part_so (IsShort (at_unit s)) (IsKept false s) (specified env (at_unit s) b.specification).answer
    (λ q. body_judged env s b [] [] q >>= (λ next. rule (Some next)))
    (specified_short env (at_unit s) b.specification)
    (λ q h. part_so (IsKept false q.next) (IsKept false s) (body_judged env s b [] [] q).answer (λ next. rule (Some next)) (judged_kept env s b [] [] q)
    (λ next k. kept_both false s (at_unit s) next (kept_none false s (at_unit s) refl refl) (kept_both false (at_unit s) q.next next h.kept k))))

-- whether a body of a package is among these units
abbrev pub has_package_body : List LibraryUnit → Bool
has_package_body [] = false
has_package_body (u ∷ us) = is_package_body u.item || has_package_body us

module _ (l : Library) (w : World) where
  body_of_keeps : (s : State) (m : ℕ) (u : LibraryUnit) (b : PackageBody) (o : Option ℕ) → IfOk (package_body_of typing l w s m u b o).answer (IsKept true s)
  body_of_keeps s m u b None = kept_same true s
  body_of_keeps s m u b (Some n) = package_body_keeps (env_of typing w m (key b.name) (seen_in_body w l n u)) s u.item_pos n b

  pub bodies_keep : (s : State) (n : ℕ) (u : LibraryUnit) (i : LibraryItem) → IfOk (bodies_judged typing l w s n u i).answer (IsKept (is_package_body i) s)
  bodies_keep s n u (library.PackageBody b) = body_of_keeps s n u b (unit_named l.names (key b.name))
  bodies_keep s n u (library.Subprogram b) =
      subprogram_body_keeps (record (env_of typing w n (key b.specification.name) (seen_in w l u (routine_entity (interface_of w n)))) { is_library = false }) s b
  bodies_keep s n u (library.Package x) = kept_same false s
  bodies_keep s n u (library.Instance i) = kept_same false s

  or_false : (a b : Bool) → (a || b) ≡ false → (a ≡ false) × (b ≡ false)
  or_false true b h = absurd (cc h)
  or_false false b h = (refl, h)

  pub all_bodies_keep : (s : State) (n : ℕ) (us : List LibraryUnit) → IfOk (all_bodies_judged typing l w s n us).answer (IsKept (has_package_body us) s)
  all_bodies_keep s n [] = kept_same false s
  all_bodies_keep s n (u ∷ us) =
      answered (IsKept (has_package_body (u ∷ us)) s) nowhere _
      (part_so (IsKept (is_package_body u.item) s) (IsKept (has_package_body (u ∷ us)) s) _ (λ x. all_bodies_judged typing l w x (n + 1) us >>= (λ rest. rule (Some rest)))
      (answered (IsKept (is_package_body u.item) s) u.pos _
      (part_so (IsKept (is_package_body u.item) s) (IsKept (is_package_body u.item) s) (bodies_judged typing l w s n u u.item).answer (λ y. rule (Some y))
      (bodies_keep s n u u.item) (λ y k. k)))
      (λ x k. part_so (IsKept (has_package_body us) x) (IsKept (has_package_body (u ∷ us)) s) (all_bodies_judged typing l w x (n + 1) us).answer (λ rest. rule (Some rest))
      (all_bodies_keep x (n + 1) us)
      (λ rest r. kept_both (has_package_body (u ∷ us)) s x rest
      (kept_weaker (is_package_body u.item) (has_package_body (u ∷ us)) s x (λ e. (or_false (is_package_body u.item) (has_package_body us) e).0) k)
      (kept_weaker (has_package_body us) (has_package_body (u ∷ us)) x rest (λ e. (or_false (is_package_body u.item) (has_package_body us) e).1) r))))
