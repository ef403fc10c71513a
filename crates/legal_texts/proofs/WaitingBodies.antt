-- Each body of a package that is to come has a name that is declared already, or stands among the items that follow.
use Rattle.std.proofs.Common.{◌≡◌, ℕ, zero, suc, Bool, true, false, List, [], ◌∷◌, ◌++◌, Option, Some, None, Ok, slice_get, refl, sym, ap, ◌∙◌, subst, inl, inr}
use Rattle.std.specs.Prelude.{◌⊎◌, is_none}
use Rattle.cov_base.specs.declared.position.Pos.{Pos}
use Rattle.ada_syntax.specs.declared.name.Identifier.{Identifier}
use Rattle.ada_syntax.specs.declared.unit.BodyItem.{BodyItem}
use Rattle.ada_syntax.specs.declared.unit.BodyItem.TheVariants as item
use Rattle.ada_syntax.specs.declared.unit.PackageItem.{PackageItem}
use Rattle.ada_syntax.specs.declared.unit.SubprogramBody.{SubprogramBody}
use Rattle.std.proofs.lemmas.Bool.{false≢true}
use Rattle.ada_rules.specs.Plan.{construct}
use Rattle.ada_rules.specs.Entities.{key, same_name, Entity, hidden, routine, Region, entity_of, is_new}
use Rattle.ada_rules.specs.Environment.{BodyName, State, Given, Env, with_local, with_name, hide}
use Rattle.ada_rules.specs.Library.{body_names}
use Rattle.ada_rules.specs.Subprograms.{body_number, to_complete, routine_of}
use Rattle.ada_rules.specs.Units.{package_item}
use Rattle.legal_programs.proofs.MainUnit.{name_is}
use Rattle.legal_programs.proofs.Passed.{passed_rule, passed_test}
use Rattle.legal_texts.proofs.BackedRoutines.{item_has, packaged_has}
use Rattle.legal_texts.proofs.PackageParts.{IsPackaged, completes_to}
use Rattle.legal_texts.proofs.NamesThere.{redefined_there, at_end}

-- a name that is declared
pub record IsNamed (name : List ℕ) (region : Region) : Type 0 where
  pub entity : Entity
  pub is : entity_of name region ≡ Some entity

-- a body that is to come
pub record IsToCome (unit_name name : List ℕ) (items : List BodyItem) : Type 0 where
  pub index : ℕ
  pub one : BodyName
  pub at : slice_get (body_names unit_name items) index ≡ Some one
  pub same : one.name ≡ name

abbrev pub AreExpected : Env → List BodyItem → Type 0
AreExpected env items =
    (name : List ℕ) (k : ℕ) → body_number env.world env.unit_name name ≡ Some k → IsToCome env.unit_name name items ⊎ IsNamed name env.local

-- behind a declaration
pub expected_next : (env : Env) (s : State) (at : Pos) (i : PackageItem) (items : List BodyItem) (g : Given Region) → (construct at (package_item env s i)).answer ≡ Ok g
    → AreExpected env (item.Declared i ∷ items) → AreExpected (with_local env g.value) items
expected_next env s at i items g h all name k number = of_either (all name k number)
  where
    of_either : IsToCome env.unit_name name (item.Declared i ∷ items) ⊎ IsNamed name env.local → IsToCome env.unit_name name items ⊎ IsNamed name g.value
    of_either (inl come) = inl (record { index = come.index; one = come.one; at = come.at; same = come.same })
    of_either (inr named) = inr (record { entity = named.entity; is = item_has name named.entity env s at i g h named.is })

-- behind a body
completed_named : (region : Region) (i : Identifier) (after : Region) (o : Option Entity) → entity_of (key i) region ≡ o → to_complete region i o ≡ Some after → IsNamed (key i) after
completed_named region i after None e h =
    let test = passed_test (is_new region i) (region ++ (key i, hidden) ∷ []) after h in
    record { entity = hidden; is = ap (entity_of (key i)) (sym test.1) ∙ at_end (key i) hidden region (ap is_none e) }
completed_named region i after (Some (routine r)) e h =
    record { entity = routine r; is = ap (entity_of (key i)) (sym (passed_test r.awaits_body region after h).1) ∙ e }
completed_named region i after (Some x) e h = absurd (none_is_some h)
  where
    none_is_some : None ≡ Some after → ⊥
    none_is_some f = cc

packaged_named : (env : Env) (s : State) (b : SubprogramBody) (g : Given Region) → IsPackaged env s b g → IsNamed (key b.specification.name) g.value
packaged_named env s b g h =
    let x = routine (routine_of env (key b.specification.name) false h.profile.value) in
    let named = completed_named env.local b.specification.name h.region (entity_of (key b.specification.name) env.local) refl
    (completes_to env.local b.specification.name h.region h.completes) in
    record {
      entity = x;
      is = subst (λ (f : Given Region). entity_of (key b.specification.name) f.value ≡ Some x) h.is
          (redefined_there (key b.specification.name) named.entity x h.region named.is);
    }

pub expected_behind : (env : Env) (s : State) (b : SubprogramBody) (items : List BodyItem) (g : Given Region) → IsPackaged env s b g
    → AreExpected env (item.Body b ∷ items) → AreExpected (with_local env g.value) items
expected_behind env s b items g h all name k number = of_either (all name k number)
  where
    there_now : name ≡ key b.specification.name → IsNamed name g.value
    there_now same = subst (λ n. IsNamed n g.value) (sym same) (packaged_named env s b g h)

    by_name : (x : Entity) → entity_of name env.local ≡ Some x → (c : Bool) → same_name name (key b.specification.name) ≡ c → IsNamed name g.value
    by_name x e true same = there_now (name_is name (key b.specification.name) same)
    by_name x e false same = record { entity = x; is = packaged_has name x env s b g h same e }

    by_index : (j : ℕ) (one : BodyName) → slice_get (body_names env.unit_name (item.Body b ∷ items)) j ≡ Some one → one.name ≡ name
        → IsToCome env.unit_name name items ⊎ IsNamed name g.value
    by_index zero one at same = inr (there_now (sym (ap name_or at ∙ same)))
      where
        name_or : Option BodyName → List ℕ
        name_or None = []
        name_or (Some x) = x.name
    by_index (suc j) one at same = inl (record { index = j; one = one; at = at; same = same })

    of_either : IsToCome env.unit_name name (item.Body b ∷ items) ⊎ IsNamed name env.local → IsToCome env.unit_name name items ⊎ IsNamed name g.value
    of_either (inl come) = by_index come.index come.one come.at come.same
    of_either (inr named) = inr (by_name named.entity named.is (same_name name (key b.specification.name)) refl)

-- a subprogram that is declared anew has its body still to come
pub new_to_come : (env : Env) (i : Identifier) (region : Region) (items : List BodyItem) (k : ℕ) → (hide env.local i).answer ≡ Ok region
    → body_number env.world env.unit_name (key i) ≡ Some k → AreExpected env items → IsToCome env.unit_name (key i) items
new_to_come env i region items k h number all = of_either (all (key i) k number)
  where
    new : is_new env.local i ≡ true
    new = (passed_test (is_new env.local i) (env.local ++ (key i, hidden) ∷ []) region (passed_rule i.pos (with_name env.local i hidden) region h)).0

    of_either : IsToCome env.unit_name (key i) items ⊎ IsNamed (key i) env.local → IsToCome env.unit_name (key i) items
    of_either (inl come) = come
    of_either (inr named) = absurd (false≢true (sym (ap is_none named.is) ∙ new))
