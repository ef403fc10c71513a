-- The bodies of a package have names of their own: one that has its body is not completed again.
use Rattle.std.proofs.Common.{◌≡◌, ℕ, Bool, true, false, if◌then◌else◌, List, [], ◌∷◌, ◌++◌, Option, Some, None, option_map, IfSome, IfOk, refl, sym, ap, ◌∙◌}
use Rattle.std.proofs.lemmas.Bool.{false≢true}
use Rattle.cov_base.specs.Lists.{Everywhere}
use Rattle.cov_base.specs.declared.position.Pos.{Pos}
use Rattle.ada_syntax.specs.declared.name.Identifier.{Identifier}
use Rattle.ada_syntax.specs.declared.unit.BodyItem.{BodyItem}
use Rattle.ada_syntax.specs.declared.unit.BodyItem.TheVariants as item
use Rattle.ada_syntax.specs.declared.unit.PackageItem.{PackageItem}
use Rattle.ada_syntax.specs.declared.unit.PackageItem.TheVariants as part
use Rattle.ada_syntax.specs.declared.unit.Specification.{Specification}
use Rattle.ada_syntax.specs.declared.unit.SubprogramBody.{SubprogramBody}
use Rattle.ada_rules.specs.Declarations.{declared}
use Rattle.ada_rules.specs.Entities.{key, same_name, Entity, hidden, routine, Routine, Region, entity_of, is_new, redefined}
use Rattle.ada_rules.specs.Environment.{State, Given, given, Env, with_local, hide}
use Rattle.ada_rules.specs.Library.{body_names}
use Rattle.ada_rules.specs.Plan.{Plan, ◌>>=◌, rule}
use Rattle.ada_rules.specs.Subprograms.{Profile, specified, declared_only, body_number, routine_of, subprogram_declared, to_complete, completed, conforming, body_judged, with_routine, packaged_body}
use Rattle.ada_rules.specs.Units.{package_item, body_item, body_items}
use Rattle.legal_laws.proofs.Passing.{IfPassed, if_map, if_test, both_ok, answered, ruled_so, part_so, any_answer}
use Rattle.legal_programs.specs.Homes.{IsOtherName, AreNamedApart}
use Rattle.legal_programs.proofs.KeptNames.{Has, Apart, in_front, not_same, hidden_has, redefined_has, declared_has, RegionHas}
use Rattle.legal_programs.proofs.MainUnit.{name_is, name_same}

any_some : {X : Type 0} (o : Option X) → IfSome o (λ n. Unit {0})
any_some None = tt
any_some (Some n) = tt

-- behind the items of a package a subprogram with its body is there, and none of these bodies has its name
module _ (m : List ℕ) (k : Routine) (done : k.awaits_body ≡ false) where
  abbrev Keeps : Region → Type 0
  Keeps region = Has m (routine k) region

  abbrev Other : Identifier → Type 0
  Other i = Apart m (routine k) i

  none_is_some : {X : Type 0} {x : X} → None ≡ Some x → ⊥
  none_is_some e = cc

  abbrev routine_or : Routine → Option Entity → Routine
  routine_or r (Some (routine s)) = s
  routine_or r o = r

  subprogram_keeps : (env : Env) (s : State) (x : Specification) → Keeps env.local → IfOk (subprogram_declared env s x).answer (λ g. Keeps g.value)
  subprogram_keeps env s x h =
      answered (λ (g : Given Region). Keeps g.value) x.pos _
      (part_so (λ r. Keeps r × Other x.name) (λ (g : Given Region). Keeps g.value) (hide env.local x.name).answer
      (λ region. specified (with_local env region) s x
      >>= (λ q. rule (option_map (λ n. given (redefined (key x.name) (routine (routine_of env (key x.name) true q.value)) region) (declared_only s q.next))
      (body_number env.world env.unit_name (key x.name)))))
      (hidden_has m (routine k) env.local x.name h)
      (λ region u. part_so (λ q. Unit {0}) (λ (g : Given Region). Keeps g.value) (specified (with_local env region) s x).answer
      (λ q. rule (option_map (λ n. given (redefined (key x.name) (routine (routine_of env (key x.name) true q.value)) region) (declared_only s q.next))
      (body_number env.world env.unit_name (key x.name))))
      (any_answer (specified (with_local env region) s x).answer)
      (λ q v. ruled_so (λ (g : Given Region). Keeps g.value) _
      (if_map (λ n. Unit {0}) (λ (g : Given Region). Keeps g.value) (λ n. given (redefined (key x.name) (routine (routine_of env (key x.name) true q.value)) region) (declared_only s q.next))
      (body_number env.world env.unit_name (key x.name)) (any_some (body_number env.world env.unit_name (key x.name)))
      (λ n w. redefined_has m (routine k) x.name (routine (routine_of env (key x.name) true q.value)) region u.1 u.0)))))

  other_if : (region : Region) (i : Identifier) (o : Option Entity) → entity_of (key i) region ≡ o → Keeps region → (o ≡ Some (routine k) → ⊥) → Other i
  other_if region i o e h none =
      not_same m (routine k) (same_name m (key i)) (λ same. none (sym e ∙ (ap (λ n. entity_of n region) (sym (name_is m (key i) same)) ∙ h)))

  completed_if : (region : Region) (i : Identifier) (o : Option Entity) → entity_of (key i) region ≡ o → Keeps region
      → IfSome (to_complete region i o) (λ r. Keeps r × Other i)
  completed_if region i None e h =
      if_test (λ r. Keeps r × Other i) (is_new region i) (Some (region ++ (key i, hidden) ∷ []))
      (λ b. (in_front m (routine k) region ((key i, hidden) ∷ []) h, other_if region i None e h none_is_some))
  completed_if region i (Some (routine r)) e h =
      if_test (λ r. Keeps r × Other i) r.awaits_body (Some region)
      (λ b. (
        h,
        other_if region i (Some (routine r)) e h
            (λ same. false≢true (sym done ∙ (sym (ap (λ o. (routine_or r o).awaits_body) same) ∙ b))),
      ))
  completed_if region i (Some x) e h = tt

  completed_keeps : (region : Region) (i : Identifier) → Keeps region → IfOk (completed region i).answer (λ r. Keeps r × Other i)
  completed_keeps region i h =
      answered (λ r. Keeps r × Other i) i.pos (rule (to_complete region i (entity_of (key i) region))).outcome
      (ruled_so (λ r. Keeps r × Other i) (to_complete region i (entity_of (key i) region)) (completed_if region i (entity_of (key i) region) refl h))

  module _ (env : Env) (s : State) (b : SubprogramBody) where
    abbrev Behind : Given Region → Type 0
    Behind g = Keeps g.value × Other b.specification.name

    abbrev after_conforming : Region → Given Profile → Plan (Given Region)
    after_conforming region q =
        body_judged env s b (with_routine env region b.specification.name q.value) (key b.specification.name) q
        >>= (λ next. rule (Some (given (with_routine env region b.specification.name q.value) next)))

    abbrev after_specified : Region → Given Profile → Plan (Given Region)
    after_specified region q = conforming b.specification.pos region b.specification.name q.value >>= (λ fit. after_conforming region q)

    abbrev after_completed : Region → Plan (Given Region)
    after_completed region = specified (with_local env region) s b.specification >>= after_specified region

    packaged_keeps : Keeps env.local → IfOk (packaged_body env s b).answer Behind
    packaged_keeps h =
        answered Behind b.specification.pos _
        (part_so (λ r. Keeps r × Other b.specification.name) Behind (completed env.local b.specification.name).answer after_completed
        (completed_keeps env.local b.specification.name h)
        (λ region u. part_so (λ q. Unit {0}) Behind (specified (with_local env region) s b.specification).answer (after_specified region)
        (any_answer (specified (with_local env region) s b.specification).answer)
        (λ q w. part_so (λ v. Unit {0}) Behind (conforming b.specification.pos region b.specification.name q.value).answer
        (λ fit. after_conforming region q) (any_answer (conforming b.specification.pos region b.specification.name q.value).answer)
        (λ fit v. part_so (λ n. Unit {0}) Behind
        (body_judged env s b (with_routine env region b.specification.name q.value) (key b.specification.name) q).answer
        (λ next. rule (Some (given (with_routine env region b.specification.name q.value) next)))
        (any_answer (body_judged env s b (with_routine env region b.specification.name q.value) (key b.specification.name) q).answer)
        (λ next n. (redefined_has m (routine k) b.specification.name (routine (routine_of env (key b.specification.name) false q.value)) region u.1 u.0, u.1))))))

  item_keeps : (env : Env) (s : State) (i : PackageItem) → Keeps env.local → IfPassed (package_item env s i).outcome (λ g. Keeps g.value)
  item_keeps env s (part.Declaration d) h =
      part_so (RegionHas m (routine k)) (λ (g : Given Region). Keeps g.value) (declared env s d).answer (λ x. rule (Some (given x.region x.next)))
      (declared_has m (routine k) env s d h) (λ x l. l)
  item_keeps env s (part.Subprogram x) h =
      part_so (λ g. Keeps g.value) (λ (g : Given Region). Keeps g.value) (subprogram_declared env s x).answer (λ r. rule (Some r)) (subprogram_keeps env s x h) (λ r l. l)

  abbrev Others : List ℕ → List BodyItem → Type 0
  Others unit_name is = Everywhere (IsOtherName m) (body_names unit_name is)

  others_in : (unit_name : List ℕ) (env : Env) (s : State) (p : Pos) (is : List BodyItem) → Keeps env.local → IfOk (body_items env s p is).answer (λ g. Others unit_name is)
  others_in unit_name env s p [] h = tt
  others_in unit_name env s p (item.Declared i ∷ is) h =
      answered (λ g. Others unit_name is) p _
      (part_so (λ (r : Given Region). Keeps r.value) (λ g. Others unit_name is) _ (λ r. body_items (with_local env r.value) r.next p is >>= (λ rest. rule (Some rest)))
      (answered (λ (r : Given Region). Keeps r.value) p (package_item env s i).outcome (item_keeps env s i h))
      (λ r l. part_so (λ g. Others unit_name is) (λ g. Others unit_name is) (body_items (with_local env r.value) r.next p is).answer (λ rest. rule (Some rest))
      (others_in unit_name (with_local env r.value) r.next p is l) (λ rest o. o)))
  others_in unit_name env s p (item.Body b ∷ is) h =
      answered (λ g. Others unit_name (item.Body b ∷ is)) p _
      (part_so (Behind env s b) (λ g. Others unit_name (item.Body b ∷ is)) _ (λ r. body_items (with_local env r.value) r.next p is >>= (λ rest. rule (Some rest)))
      (answered (Behind env s b) p (body_item env s (item.Body b)).outcome
      (part_so (Behind env s b) (Behind env s b) (packaged_body env s b).answer (λ r. rule (Some r)) (packaged_keeps env s b h) (λ r l. l)))
      (λ r l. part_so (λ g. Others unit_name is) (λ g. Others unit_name (item.Body b ∷ is)) (body_items (with_local env r.value) r.next p is).answer (λ rest. rule (Some rest))
      (others_in unit_name (with_local env r.value) r.next p is l.0) (λ rest o. (l.1, o))))

-- behind a body its subprogram is there
pub record IsDone (name : List ℕ) (region : Region) : Type 0 where
  pub made : Routine
  pub done : made.awaits_body ≡ false
  pub is : entity_of name region ≡ Some (routine made)

redefined_there : (name : List ℕ) (x y : Entity) (region : Region) → entity_of name region ≡ Some x → entity_of name (redefined name y region) ≡ Some y
redefined_there name x y [] h = absurd (none_is_some h)
  where
    none_is_some : None ≡ Some x → ⊥
    none_is_some e = cc
redefined_there name x y (e ∷ es) h = by_name (same_name name e.0) refl h (redefined_there name x y es)
  where
    by_name : (b : Bool) → same_name name e.0 ≡ b → (if b then Some e.1 else entity_of name es) ≡ Some x → (entity_of name es ≡ Some x → entity_of name (redefined name y es) ≡ Some y)
        → entity_of name (if b then (e.0, y) ∷ es else e ∷ redefined name y es) ≡ Some y
    by_name true f g rest = ap (λ c. if c then Some y else entity_of name es) f
    by_name false f g rest = ap (λ c. if c then Some e.1 else entity_of name (redefined name y es)) f ∙ rest g

record IsThereIn (name : List ℕ) (region : Region) : Type 0 where
  entity : Entity
  is : entity_of name region ≡ Some entity

at_end : (name : List ℕ) (x : Entity) (region : Region) → entity_of name region ≡ None → entity_of name (region ++ (name, x) ∷ []) ≡ Some x
at_end name x [] h = ap (λ b. if b then Some x else None) (name_same name)
at_end name x (e ∷ es) h = by_name (same_name name e.0) h (at_end name x es)
  where
    by_name : (b : Bool) → (if b then Some e.1 else entity_of name es) ≡ None → (entity_of name es ≡ None → entity_of name (es ++ (name, x) ∷ []) ≡ Some x)
        → (if b then Some e.1 else entity_of name (es ++ (name, x) ∷ [])) ≡ Some x
    by_name true g rest = absurd (cc g)
    by_name false g rest = rest g

there_if : (region : Region) (i : Identifier) (o : Option Entity) → entity_of (key i) region ≡ o → IfSome (to_complete region i o) (IsThereIn (key i))
there_if region i None e =
    if_test (IsThereIn (key i)) (is_new region i) (Some (region ++ (key i, hidden) ∷ [])) (λ b. record { entity = hidden; is = at_end (key i) hidden region e })
there_if region i (Some (routine r)) e = if_test (IsThereIn (key i)) r.awaits_body (Some region) (λ b. record { entity = routine r; is = e })
there_if region i (Some x) e = tt

module _ (env : Env) (s : State) (b : SubprogramBody) where
  abbrev Made : Given Region → Type 0
  Made g = IsDone (key b.specification.name) g.value

  packaged_done : IfOk (packaged_body env s b).answer Made
  packaged_done =
      answered Made b.specification.pos _
      (part_so (IsThereIn (key b.specification.name)) Made (completed env.local b.specification.name).answer (after_completed [] hidden_routine refl env s b)
      (answered (IsThereIn (key b.specification.name)) b.specification.name.pos _
      (ruled_so (IsThereIn (key b.specification.name)) _ (there_if env.local b.specification.name (entity_of (key b.specification.name) env.local) refl)))
      (λ region u. part_so (λ q. Unit {0}) Made (specified (with_local env region) s b.specification).answer (after_specified [] hidden_routine refl env s b region)
      (any_answer (specified (with_local env region) s b.specification).answer)
      (λ q w. part_so (λ v. Unit {0}) Made (conforming b.specification.pos region b.specification.name q.value).answer
      (λ fit. after_conforming [] hidden_routine refl env s b region q) (any_answer (conforming b.specification.pos region b.specification.name q.value).answer)
      (λ fit v. part_so (λ n. Unit {0}) Made
      (body_judged env s b (with_routine env region b.specification.name q.value) (key b.specification.name) q).answer
      (λ next. rule (Some (given (with_routine env region b.specification.name q.value) next)))
      (any_answer (body_judged env s b (with_routine env region b.specification.name q.value) (key b.specification.name) q).answer)
      (λ next n. record {
        made = routine_of env (key b.specification.name) false q.value;
        done = refl;
        is = redefined_there (key b.specification.name) u.entity (routine (routine_of env (key b.specification.name) false q.value)) region u.is;
      })))))
    where
      hidden_routine : Routine
      hidden_routine = routine_of env [] false (record { parameters = []; result = None; region = [] })

-- the bodies of a package
pub named_apart : (unit_name : List ℕ) (env : Env) (s : State) (p : Pos) (is : List BodyItem) → IfOk (body_items env s p is).answer (λ g. AreNamedApart (body_names unit_name is))
named_apart unit_name env s p [] = tt
named_apart unit_name env s p (item.Declared i ∷ is) =
    answered (λ g. AreNamedApart (body_names unit_name is)) p _
    (part_so (λ (r : Given Region). Unit {0}) (λ g. AreNamedApart (body_names unit_name is)) _ (λ r. body_items (with_local env r.value) r.next p is >>= (λ rest. rule (Some rest)))
    (any_answer _)
    (λ r l. part_so (λ g. AreNamedApart (body_names unit_name is)) (λ g. AreNamedApart (body_names unit_name is)) (body_items (with_local env r.value) r.next p is).answer
    (λ rest. rule (Some rest)) (named_apart unit_name (with_local env r.value) r.next p is) (λ rest o. o)))
named_apart unit_name env s p (item.Body b ∷ is) =
    answered (λ g. AreNamedApart (body_names unit_name (item.Body b ∷ is))) p _
    (part_so (Made env s b) (λ g. AreNamedApart (body_names unit_name (item.Body b ∷ is))) _ (λ r. body_items (with_local env r.value) r.next p is >>= (λ rest. rule (Some rest)))
    (answered (Made env s b) p (body_item env s (item.Body b)).outcome
    (part_so (Made env s b) (Made env s b) (packaged_body env s b).answer (λ r. rule (Some r)) (packaged_done env s b) (λ r l. l)))
    (λ r l. part_so (λ g. Everywhere (IsOtherName (key b.specification.name)) (body_names unit_name is) × AreNamedApart (body_names unit_name is))
    (λ g. AreNamedApart (body_names unit_name (item.Body b ∷ is))) (body_items (with_local env r.value) r.next p is).answer
    (λ rest. rule (Some rest))
    (both_ok (λ g. Everywhere (IsOtherName (key b.specification.name)) (body_names unit_name is)) (λ g. AreNamedApart (body_names unit_name is))
    (body_items (with_local env r.value) r.next p is).answer
    (others_in (key b.specification.name) l.made l.done unit_name (with_local env r.value) r.next p is l.is)
    (named_apart unit_name (with_local env r.value) r.next p is)) (λ rest o. o)))
