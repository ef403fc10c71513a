-- A subprogram that a package or a generic declares is backed by the subprogram that its body makes: this has its parameters, and gives a result where it
-- has one.
use Rattle.std.proofs.Common.{◌≡◌, ◌+◌, ℕ, zero, suc, Bool, true, false, if◌then◌else◌, List, [], ◌∷◌, ◌++◌, length, reverse, Option, Some, None, option_map, IfSome, Ok, slice_get, refl, sym, ap, ◌∙◌, subst, arith}
use Rattle.std.proofs.lemmas.Bool.{false≢true}
use Rattle.cov_base.specs.Lists.{Everywhere}
use Rattle.cov_base.specs.declared.position.Pos.{Pos}
use Rattle.ada_syntax.specs.declared.name.Identifier.{Identifier}
use Rattle.ada_syntax.specs.declared.unit.BodyItem.{BodyItem}
use Rattle.ada_syntax.specs.declared.unit.BodyItem.TheVariants as item
use Rattle.ada_syntax.specs.declared.unit.PackageItem.{PackageItem}
use Rattle.ada_syntax.specs.declared.unit.PackageItem.TheVariants as part
use Rattle.ada_syntax.specs.declared.unit.Specification.{Specification}
use Rattle.ada_syntax.specs.declared.unit.SubprogramBody.{SubprogramBody}
use Rattle.ada_meaning.specs.Declared.{is_function}
use Rattle.ada_meaning.specs.Program.{Subprogram, Program}
use Rattle.ada_rules.specs.Plan.{construct}
use Rattle.ada_rules.specs.Types.{AdaSubtype}
use Rattle.ada_rules.specs.Entities.{key, same_name, Parameter, Routine, Entity, hidden, routine, Region, entity_of, is_new}
use Rattle.ada_rules.specs.Environment.{typing, BodyName, Returning, no_result, result_of, State, Given, Env, with_local, hide}
use Rattle.ada_rules.specs.Declarations.{declared}
use Rattle.ada_rules.specs.Library.{body_names}
use Rattle.ada_rules.specs.Library.{Library}
use Rattle.ada_rules.specs.Subprograms.{Profile, specified, returning_of, typed_parameters, subprogram_declared, to_complete, conforms, routine_of, packaged_body}
use Rattle.ada_rules.specs.Units.{package_item, body_items}
use Rattle.legal_laws.proofs.Giving.{returns_value}
use Rattle.legal_laws.proofs.Passing.{answered}
use Rattle.legal_programs.specs.Growing.{Adds, Extends, AddsBodies}
use Rattle.legal_programs.specs.Homes.{IsOtherName, AreNamedApart}
use Rattle.legal_programs.specs.Walked.{IsLegal}
use Rattle.legal_programs.proofs.Adding.{Add, AddsOn, declaration_adds}
use Rattle.legal_programs.proofs.DecidedUnits.{every_at}
use Rattle.legal_programs.proofs.Extending.{subprogram_adds, extends_both, packaged_adds, body_items_add}
use Rattle.legal_programs.proofs.KeptNames.{Has, Apart, RegionHas, in_front, not_same, hidden_has, redefined_has, declared_has}
use Rattle.legal_programs.proofs.MainUnit.{name_is, name_same, made_stays, made_last}
use Rattle.legal_programs.proofs.NamedBodies.{named_apart}
use Rattle.legal_programs.proofs.Passed.{of_ok, passed_test}
use Rattle.legal_texts.specs.Told.{Table, IsToldEntity, IsToldRegion, TellsBehind, IsToldPlace, IsAsDeclared}
use Rattle.legal_texts.proofs.MadeBodies.{IsMade}
use Rattle.legal_texts.proofs.OfText.{packaged_makes}
use Rattle.legal_texts.proofs.PackageNumbers.{nothing_at}
use Rattle.legal_texts.proofs.PackageParts.{IsDeclaredThere, declared_there, IsPackaged, packaged_there, completes_to, body_step_of, declaration_step, subprogram_step, body_step}
use Rattle.legal_texts.proofs.ToldDeclarations.{conforming_is}
use Rattle.legal_texts.proofs.ToldItems.{Specified, specified_so, profile_told, next_place, item_tells, packaged_tells}

-- by a subprogram that stands in this generic, or in none
pub record IsBackedAt (p : Program) (o : Option ℕ) (n : ℕ) (r : Routine) : Type 0 where
  pub sub : Subprogram
  pub here : slice_get p.subprograms n ≡ Some sub
  pub stands : sub.generic ≡ o
  pub parameters : typed_parameters 0 r.parameters ≡ sub.parameters
  pub gives : is_function sub ≡ returns_value (returning_of r.result)

-- a result that has the same subtype
abbrev returning_from : Option AdaSubtype → Returning
returning_from None = no_result
returning_from (Some t) = result_of t

returning_is : (o : Option Parameter) → returning_of o ≡ returning_from (option_map (λ x. x.subtype) o)
returning_is None = refl
returning_is (Some q) = refl

returning_same : (a b : Option Parameter) → option_map (λ x. x.subtype) a ≡ option_map (λ x. x.subtype) b → returning_of a ≡ returning_of b
returning_same a b e = returning_is a ∙ (ap returning_from e ∙ sym (returning_is b))

-- what a name is in a region
either_so : (P : Entity → Type 0) (b : Bool) (x y : Entity) (o : Option Entity) → P y → (o ≡ Some x → P x) → (if b then Some y else o) ≡ Some x → P x
either_so P true x y o h rest e = subst P (ap (some_or y) e) h
  where
    some_or : Entity → Option Entity → Entity
    some_or z None = z
    some_or z (Some v) = v
either_so P false x y o h rest e = rest e

pub found_so : (P : Entity → Type 0) (name : List ℕ) (region : Region) (x : Entity) → Everywhere (λ e. P e.1) region → entity_of name region ≡ Some x → P x
found_so P name [] x all e = absurd (none_is_some e)
  where
    none_is_some : None ≡ Some x → ⊥
    none_is_some f = cc
found_so P name (y ∷ es) x all e = either_so P (same_name name y.0) x y.1 (entity_of name es) all.0 (found_so P name es x all.1) e

-- an item keeps what a name is
module _ (m : List ℕ) (kept : Entity) where
  pub subprogram_has : (env : Env) (s : State) (x : Specification) (g : Given Region) → (h : IsDeclaredThere env s x g) → Has m kept env.local → Has m kept g.value
  subprogram_has env s x g h has =
      let hid = of_ok (λ r. Has m kept r × Apart m kept x.name) (hide env.local x.name).answer h.region h.hides (hidden_has m kept env.local x.name has) in
      subst (λ (r : Given Region). Has m kept r.value) h.is (redefined_has m kept x.name (routine (routine_of env (key x.name) true h.profile.value)) h.region hid.1 hid.0)

  completed_has : (region : Region) (i : Identifier) (after : Region) (o : Option Entity) → to_complete region i o ≡ Some after → Has m kept region → Has m kept after
  completed_has region i after None e has =
      subst (Has m kept) (passed_test (is_new region i) (region ++ (key i, hidden) ∷ []) after e).1 (in_front m kept region ((key i, hidden) ∷ []) has)
  completed_has region i after (Some (routine r)) e has = subst (Has m kept) (passed_test r.awaits_body region after e).1 has
  completed_has region i after (Some x) e has = absurd (none_is_some e)
    where
      none_is_some : None ≡ Some after → ⊥
      none_is_some f = cc

  pub packaged_has : (env : Env) (s : State) (b : SubprogramBody) (g : Given Region) → (h : IsPackaged env s b g) → Apart m kept b.specification.name → Has m kept env.local
      → Has m kept g.value
  packaged_has env s b g h apart has =
      let region_has = completed_has env.local b.specification.name h.region (entity_of (key b.specification.name) env.local)
      (completes_to env.local b.specification.name h.region h.completes) has in
      subst (λ (r : Given Region). Has m kept r.value) h.is
      (redefined_has m kept b.specification.name (routine (routine_of env (key b.specification.name) false h.profile.value)) h.region apart region_has)

  pub item_has : (env : Env) (s : State) (q : Pos) (i : PackageItem) (g : Given Region) → (construct q (package_item env s i)).answer ≡ Ok g → Has m kept env.local → Has m kept g.value
  item_has env s q (part.Declaration d) g h has =
      let one = declaration_step env s q d g h in
      subst (λ (r : Given Region). Has m kept r.value) one.same
      (of_ok (RegionHas m kept) (declared env s d).answer one.made one.is (declared_has m kept env s d has))
  item_has env s q (part.Subprogram x) g h has = subprogram_has env s x g (declared_there env s x g (subprogram_step env s q x g h)) has

pub item_adds : (env : Env) (s : State) (q : Pos) (i : PackageItem) (g : Given Region) → (construct q (package_item env s i)).answer ≡ Ok g → Adds s g.next
item_adds env s q (part.Declaration d) g h =
    let one = declaration_step env s q d g h in
    subst (λ (r : Given Region). Adds s r.next) one.same (of_ok (AddsOn s) (declared env s d).answer one.made one.is (declaration_adds env s d))
item_adds env s q (part.Subprogram x) g h = of_ok (Add s) (subprogram_declared env s x).answer g (subprogram_step env s q x g h) (subprogram_adds env s x)

module _ (l : Library) (main : List ℕ) (p : Program) (legal : IsLegal l main p) where
  abbrev last : State
  last = legal.walked.next

  pub made_here : (k : ℕ) (s t : State) (made : Subprogram) → t.subprograms ≡ made ∷ s.subprograms → Extends t last → length s.subprograms ≡ k
      → slice_get p.subprograms k ≡ Some made
  made_here k s t made same more count =
      subst (λ n. slice_get p.subprograms n ≡ Some made) count
      (ap (λ r. slice_get r.subprograms (length s.subprograms)) legal.made
      ∙ made_stays t.subprograms last.subprograms (length s.subprograms) made more.subprograms
      (ap (λ ss. slice_get (reverse ss) (length s.subprograms)) same ∙ made_last made s.subprograms))

  -- a body in a package
  pub packaged_made : (env : Env) → env.step ≡ typing → (s : State) (b : SubprogramBody) (g : Given Region) (h : IsPackaged env s b g)
      → IsMade env.generic h.profile.value s g.next
  packaged_made env step s b g h = packaged_makes env step s b g h

  module _ (name : List ℕ) (r : Routine) where
    abbrev Kept : Region → Type 0
    Kept region = Has name (routine r) region

    -- the body of this name conforms to the declaration
    conforms_to : (table : Table) (env : Env) (s : State) (b : SubprogramBody) (g : Given Region) → IsToldPlace table env s → (h : IsPackaged env s b g)
        → key b.specification.name ≡ name → Kept env.local → IsAsDeclared r h.profile.value
    conforms_to table env s b g is h same has =
        let there : entity_of (key b.specification.name) env.local ≡ Some (routine r) = ap (λ n. entity_of n env.local) same ∙ has in
        let completes : to_complete env.local b.specification.name (Some (routine r)) ≡ Some h.region =
        sym (ap (to_complete env.local b.specification.name) there) ∙ completes_to env.local b.specification.name h.region h.completes in
        let region_is : env.local ≡ h.region = (passed_test r.awaits_body env.local h.region completes).1 in
        let fits : conforms h.profile.value (Some (routine r)) ≡ true =
        sym (ap (conforms h.profile.value) (ap (entity_of (key b.specification.name)) (sym region_is) ∙ there)) ∙ h.fits in
        let region_told : IsToldRegion table h.region = subst (IsToldRegion table) region_is is.local in
        let marked = of_ok (Specified table env s is) (specified (with_local env h.region) s b.specification).answer h.profile h.specifies
        (specified_so table env s is h.region region_told b.specification) in
        let told = profile_told table h.profile.value marked.0 in
        conforming_is table r h.profile.value (found_so (IsToldEntity table) name env.local (routine r) is.local has) told.0 told.1 fits

    backed_by : (env : Env) (q : Profile) (s t : State) → (made : IsMade env.generic q s t) → Extends t last → IsAsDeclared r q
        → IsBackedAt p env.generic (length s.subprograms) r
    backed_by env q s t made more same = record {
      sub = made.made;
      here = made_here (length s.subprograms) s t made.made made.is_made more refl;
      stands = made.stands;
      parameters = same.parameters 0 ∙ made.parameters;
      gives = made.gives ∙ ap returns_value (sym (returning_same r.result q.result same.result));
    }

    apart_of : (i : Identifier) (one : BodyName) → one.name ≡ name → IsOtherName (key i) one → Apart name (routine r) i
    apart_of i one same other =
        not_same name (routine r) (same_name name (key i))
        (λ e. false≢true (sym other ∙ (ap (same_name (key i)) (same ∙ name_is name (key i) e) ∙ name_same (key i))))

    pub body_backed : (table : Table) (unit_name : List ℕ) (env : Env) (s : State) (q : Pos) (items : List BodyItem) (g : Given Region) → (body_items env s q items).answer ≡ Ok g
        → Extends g.next last → IsToldPlace table env s → Kept env.local → (j : ℕ) (one : BodyName)
        → slice_get (body_names unit_name items) j ≡ Some one → one.name ≡ name → IsBackedAt p env.generic (length s.subprograms + j) r
    body_backed table unit_name env s q [] g h more is has j one at same = absurd (nothing_at j one at)
    body_backed table unit_name env s q (item.Declared i ∷ items) g h more is has j one at same =
        let step = body_step_of env s q (item.Declared i) items g h in
        let first = step.first in
        let tells = of_ok (TellsBehind table env) (construct q (package_item env s i)).answer first step.is
        (answered (TellsBehind table env) q (package_item env s i).outcome (item_tells table env s is i)) in
        let count : length first.next.subprograms ≡ length s.subprograms = ap length (item_adds env s q i first step.is).subprograms in
        subst (λ k. IsBackedAt p env.generic (k + j) r) count
        (body_backed tells.table unit_name (with_local env first.value) first.next q items g step.rest more (next_place table env s first is tells)
        (item_has name (routine r) env s q i first step.is has) j one at same)
    body_backed table unit_name env s q (item.Body b ∷ items) g h more is has zero one at same =
        let step = body_step_of env s q (item.Body b) items g h in
        let first = step.first in
        let there = packaged_there env s b first (body_step env s q b first step.is) in
        let adds = of_ok (λ (x : Given Region). AddsBodies (length (body_names unit_name items)) first.next x.next) (body_items (with_local env first.value) first.next q items).answer g step.rest
        (body_items_add unit_name (with_local env first.value) first.next q items) in
        let name_of : key b.specification.name ≡ name = ap (λ (o : Option BodyName). name_or o) at ∙ same in
        let count : length s.subprograms + 0 ≡ length s.subprograms = omega (arith) in
        subst (λ k. IsBackedAt p env.generic k r) (sym count)
        (backed_by env there.profile.value s first.next (packaged_made env is.place.step s b first there) (extends_both first.next g.next last adds.extends more)
        (conforms_to table env s b first is there name_of has))
      where
        name_or : Option BodyName → List ℕ
        name_or None = []
        name_or (Some x) = x.name
    body_backed table unit_name env s q (item.Body b ∷ items) g h more is has (suc j) one at same =
        let step = body_step_of env s q (item.Body b) items g h in
        let first = step.first in
        let passes = body_step env s q b first step.is in
        let there = packaged_there env s b first passes in
        let tells = of_ok (TellsBehind table env) (packaged_body env s b).answer first passes (packaged_tells table env s is b) in
        let adds = of_ok (λ (x : Given Region). AddsBodies 1 s x.next) (packaged_body env s b).answer first passes (packaged_adds env s b) in
        let apart = of_ok (λ (x : Given Region). AreNamedApart (body_names unit_name (item.Body b ∷ items))) (body_items env s q (item.Body b ∷ items)).answer g h
        (named_apart unit_name env s q (item.Body b ∷ items)) in
        let other : IsOtherName (key b.specification.name) one =
        subst (λ o. IfSome o (IsOtherName (key b.specification.name))) at
        (every_at (IsOtherName (key b.specification.name)) (body_names unit_name items) j apart.0) in
        let more_now = adds.subprograms in
        let count : length first.next.subprograms + j ≡ length s.subprograms + suc j = omega (arith, more_now) in
        subst (λ k. IsBackedAt p env.generic k r) count
        (body_backed tells.table unit_name (with_local env first.value) first.next q items g step.rest more (next_place table env s first is tells)
        (packaged_has name (routine r) env s b first there (apart_of b.specification.name one same other) has) j one at same)
