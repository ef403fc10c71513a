-- The declarations of a package are known behind it, in an instance in which its text stands: types, objects, exceptions, and subprograms that bodies back.
use Rattle.std.proofs.Common.{◌≡◌, ◌<◌, ℕ, Bool, true, List, [], ◌∷◌, Option, Some, None, IfSome, Ok, refl, sym, ap, ◌∙◌, subst}
use Rattle.std.specs.Prelude.{unwrap_or}
use Rattle.cov_base.specs.Lists.{Everywhere}
use Rattle.cov_base.specs.declared.position.Pos.{Pos}
use Rattle.ada_syntax.specs.declared.declaration.Declaration.{Declaration}
use Rattle.ada_syntax.specs.declared.unit.PackageItem.{PackageItem}
use Rattle.ada_syntax.specs.declared.unit.PackageItem.TheVariants as part
use Rattle.ada_syntax.specs.declared.unit.Specification.{Specification}
use Rattle.ada_meaning.specs.Bodies.{StandsIn}
use Rattle.ada_meaning.specs.Declared.{object_shape}
use Rattle.ada_meaning.specs.Program.{Program}
use Rattle.ada_meaning.specs.WellFormed.{StartSees}
use Rattle.ada_rules.specs.Types.{Identity, AdaType, AdaSubtype, type_in, is_scalar}
use Rattle.ada_rules.specs.Entities.{key, Parameter, Routine, Entity, hidden, routine, Region, entity_of, redefined}
use Rattle.ada_rules.specs.Environment.{State, Given, given, Env, with_local, hide}
use Rattle.ada_rules.specs.Declarations.{Declared, declared}
use Rattle.ada_rules.specs.Library.{Library}
use Rattle.ada_rules.specs.Subprograms.{Profile, specified, declared_only, returning_of, body_number, routine_of}
use Rattle.ada_rules.specs.Plan.{construct}
use Rattle.ada_rules.specs.Units.{package_item, package_items}
use Rattle.legal_laws.specs.Known.{IsKnownSubtype, IsRoutine}
use Rattle.legal_laws.specs.Standing.{with_types, ReturnsAs}
use Rattle.legal_laws.specs.Valued.{AreFactsOf}
use Rattle.legal_laws.proofs.Giving.{returns_value}
use Rattle.legal_laws.proofs.KnownRegions.{hidden_known, redefined_known, local_known}
use Rattle.legal_laws.proofs.OwnRoutines.{own_known}
use Rattle.legal_laws.proofs.Passing.{every_so}
use Rattle.legal_programs.specs.Final.{IsServed}
use Rattle.legal_programs.specs.Growing.{Extends}
use Rattle.legal_programs.specs.Walked.{IsLegal}
use Rattle.legal_programs.proofs.Adding.{Add}
use Rattle.legal_programs.proofs.Extending.{items_add, extends_of, extends_both}
use Rattle.legal_programs.proofs.KeptNames.{Has}
use Rattle.legal_programs.proofs.Passed.{of_ok, passed_rule}
use Rattle.legal_texts.specs.UnitTexts.{IsPackageItemText}
use Rattle.legal_texts.proofs.KnownObjects.{ObjectsAt, AreKnownObjects, text_known, objects_at}
use Rattle.legal_texts.proofs.BackedRoutines.{IsBackedAt, item_has}
use Rattle.legal_texts.proofs.InterfaceWalk.{same_some}
use Rattle.legal_texts.proofs.KeptBodies.{IsShort, specified_short}
use Rattle.legal_texts.proofs.KnownMarks.{IsKnown, known_place}
use Rattle.legal_texts.proofs.LibraryItems.{IsOfUnit, Made, library_known}
use Rattle.legal_texts.proofs.LibraryWords.{KeepsOn, declared_keeps}
use Rattle.legal_texts.proofs.MarkedNames.{IsMarkedAs, IsMarkedProfile, specified_marked}
use Rattle.legal_texts.proofs.NamesThere.{IsShownIn, redefined_there, hidden_there, all_shown_still}
use Rattle.legal_texts.proofs.PackageItems.{no_subprogram, Standing, Regions, Formed, kept_there, objects_there, AreKnown, known_joined}
use Rattle.legal_texts.proofs.PackageParts.{IsDeclaredThere, declared_there, step_of, declaration_step, subprogram_step}

pub declared_there_has : (env : Env) (s : State) (x : Specification) (g : Given Region) (h : IsDeclaredThere env s x g)
    → Has (key x.name) (routine (routine_of env (key x.name) true h.profile.value)) g.value
declared_there_has env s x g h =
    let r = routine (routine_of env (key x.name) true h.profile.value) in
    subst (λ (f : Given Region). Has (key x.name) r f.value) h.is
    (redefined_there (key x.name) hidden r h.region (hidden_there env.local x.name h.region h.hides))

pub items_have : (m : List ℕ) (kept : Entity) (env : Env) (s : State) (q : Pos) (items : List PackageItem) (g : Given Region) → (package_items env s q items).answer ≡ Ok g
    → Has m kept env.local → Has m kept g.value
items_have m kept env s q [] g h has = subst (λ (f : Given Region). Has m kept f.value) (same_some (passed_rule q (Some (given env.local s)) g h)) has
items_have m kept env s q (i ∷ items) g h has =
    let step = step_of env s q i items g h in
    items_have m kept (with_local env step.first.value) step.first.next q items g step.rest (item_has m kept env s q i step.first step.is has)

module _ (l : Library) (main : List ℕ) (p : Program) (legal : IsLegal l main p) (of_facts : AreFactsOf p legal.walked.world.instances) (generic : Option ℕ) (inst : ℕ)
    (standing : StandsIn p generic inst) (served : (s : State) → Extends s legal.walked.next → IsServed legal.walked.world.instances p generic inst s) where
  abbrev last : State
  last = legal.walked.next

  abbrev Place : (AdaType → Type 0) → Env → State → Type 0
  Place types env s = Standing l main p legal of_facts generic inst standing served types env s

  abbrev Shows : (AdaType → Type 0) → Region → Type 0
  Shows types region = Regions l main p legal of_facts generic inst standing served types region

  abbrev Keeps : State → Type 0
  Keeps s = Formed l main p legal of_facts generic inst standing served s

  abbrev Known : (AdaType → Type 0) → Env → Given Region → Type 0
  Known types env g = AreKnown l main p legal of_facts generic inst standing served types env g

  abbrev Marks : (AdaType → Type 0) → Identity → AdaSubtype → Type 0
  Marks types i t = IsKnown p inst types (object_shape p inst no_subprogram) (StartSees p inst no_subprogram) i t

  -- bodies back the subprograms of a region
  abbrev pub AreBacked : Env → Region → Type 0
  AreBacked env region =
      (name : List ℕ) (r : Routine) (k : ℕ) → entity_of name region ≡ Some (routine r) → body_number env.world env.unit_name name ≡ Some k → IsBackedAt p env.generic k r

  -- what a specification with known marks says
  marks_known : (types : AdaType → Type 0) (q : Profile) → IsMarkedProfile (Marks types) q
      → Everywhere (λ r. IsKnownSubtype p inst types r.subtype) q.parameters × ReturnsAs p inst types (returns_value (returning_of q.result)) (returning_of q.result)
  marks_known types q h = (
    every_so (IsMarkedAs (Marks types)) (λ r. IsKnownSubtype p inst types r.subtype) q.parameters (λ r k. k.so) h.parameters,
    returns_known q.result h.result,
  )
    where
      returns_known : (o : Option Parameter) → IfSome o (λ r. IsMarkedAs (Marks types) r × (is_scalar (type_in r.subtype) ≡ true))
          → ReturnsAs p inst types (returns_value (returning_of o)) (returning_of o)
      returns_known None k = refl
      returns_known (Some r) k = (refl, (k.1, k.0.so))

  -- a subprogram whose specification was looked at is the one with its number
  pub routine_known : (types : AdaType → Type 0) (env : Env) (s : State) (region : Region) (x : Specification) (q : Given Profile) (awaits : Bool) (k : ℕ) → env.generic ≡ generic
      → Place types env s → Shows types region → (specified (with_local env region) s x).answer ≡ Ok q → body_number env.world env.unit_name (key x.name) ≡ Some k
      → IsBackedAt p env.generic k (routine_of env (key x.name) awaits q.value) → IsRoutine p inst types (routine_of env (key x.name) awaits q.value)
  routine_known types env s region x q awaits k here st known specifies number backed =
      let place = local_known p inst types (object_shape p inst no_subprogram) (StartSees p inst no_subprogram) env region st.place known in
      let marked = of_ok (λ (f : Given Profile). IsMarkedProfile (Marks types) f.value) (specified (with_local env region) s x).answer q specifies
      (specified_marked (Marks types) (with_local env region) s x
      (known_place p inst types (object_shape p inst no_subprogram) (StartSees p inst no_subprogram) (with_local env region) place)) in
      let says = marks_known types q.value marked in
      own_known p inst types st.apart backed.sub k backed.here (subst (λ g. StandsIn p g inst) (sym (backed.stands ∙ here)) standing) env (key x.name) awaits q.value st.alone
      (ap (λ o. unwrap_or o 0) number) backed.gives backed.parameters says.0 says.1

  stands_declared : (types : AdaType → Type 0) (env : Env) (s : State) (q : Given Profile) → q.next.types ≡ s.types → Place types env s
      → (region : Region) → Shows types region → Place types (with_local env region) (declared_only s q.next)
  stands_declared types env s q same st region known = record {
    place = local_known p inst types (object_shape p inst no_subprogram) (StartSees p inst no_subprogram) env region st.place known;
    world = st.world;
    apart = st.apart;
    older = λ t n there e. subst (λ m. n < m) (sym same) (st.older t n there e);
    counted = st.counted;
    alone = st.alone;
  }

  -- a declaration
  module _ (types : AdaType → Type 0) (env : Env) (s : State) (library : env.is_library ≡ true) (here : env.generic ≡ generic) (no_words : s.words ≡ [])
      (st : Place types env s) (formed_before : Keeps s) where
    pub record IsKnownThere (g : Given Region) : Type 0 where
      pub new : List AdaType
      pub own : Everywhere (IsOfUnit env) new
      pub shown : Everywhere (λ u. IsShownIn u g.value) new
      pub stands : Place (with_types types new) (with_local env g.value) g.next
      pub formed : Keeps g.next
      pub words : g.next.words ≡ []

    pub declaration_known : (d : Declaration) (x : Declared) → (declared env s d).answer ≡ Ok x → IsPackageItemText (part.Declaration d) → Extends x.next last
        → IsKnownThere (given x.region x.next)
    declaration_known d x is text on =
        let still : x.next.words ≡ [] = of_ok (KeepsOn s) (declared env s d).answer x is (declared_keeps env library s d) ∙ no_words in
        let made = of_ok (Made p legal.walked.world.instances of_facts.0 of_facts.1 inst (object_shape p inst no_subprogram) types (StartSees p inst no_subprogram) env s st)
        (declared env s d).answer x is
        (library_known p legal.walked.world.instances of_facts.0 of_facts.1 inst (object_shape p inst no_subprogram) types (StartSees p inst no_subprogram) env s st library d text)
        (kept_there l main p legal of_facts generic inst standing served env x.next here on still)
        (objects_there l main p legal of_facts generic inst standing served env x.next here on) in
        let before = text_known p inst generic standing s.objects_declared formed_before in
        record {
          new = made.new;
          own = made.own;
          shown = made.shown;
          stands = made.stands;
          formed = objects_at p inst generic standing x.next.objects_declared
              (subst (λ g. AreKnownObjects p inst g x.next.objects_declared) here
              (made.formed (subst (λ g. AreKnownObjects p inst g s.objects_declared) (sym here) before)));
          words = still;
        }

    pub subprogram_known : (x : Specification) (g : Given Region) (h : IsDeclaredThere env s x g)
        → IsBackedAt p env.generic h.number (routine_of env (key x.name) true h.profile.value) → IsKnownThere g
    subprogram_known x g h backed =
        let q = h.profile in
        let hid = of_ok (Shows types) (hide env.local x.name).answer h.region h.hides
        (hidden_known p inst types (object_shape p inst no_subprogram) (StartSees p inst no_subprogram) env.local x.name st.place.regions.0) in
        let short = of_ok (IsShort s) (specified (with_local env h.region) s x).answer q h.specifies (specified_short (with_local env h.region) s x) in
        let known = redefined_known p inst types (object_shape p inst no_subprogram) (StartSees p inst no_subprogram) (key x.name)
        (routine (routine_of env (key x.name) true q.value)) h.region (routine_known types env s h.region x q true h.number here st hid h.specifies h.numbered backed) hid in
        subst IsKnownThere h.is (record {
          new = [];
          own = tt;
          shown = tt;
          stands = stands_declared types env s q short.types st (redefined (key x.name) (routine (routine_of env (key x.name) true q.value)) h.region) known;
          formed = subst (ObjectsAt p inst) (sym (short.kept.objects refl)) formed_before;
          words = no_words;
        })

  own_there : (env : Env) (region : Region) (ts : List AdaType) → Everywhere (IsOfUnit (with_local env region)) ts → Everywhere (IsOfUnit env) ts
  own_there env region ts all = every_so (IsOfUnit (with_local env region)) (IsOfUnit env) ts (λ t k. record { number = k.number; is = k.is }) all

  pub package_known : (types : AdaType → Type 0) (env : Env) (s : State) (q : Pos) (items : List PackageItem) (g : Given Region)
      → Everywhere IsPackageItemText items → (package_items env s q items).answer ≡ Ok g → Extends g.next last → env.is_library ≡ true → env.generic ≡ generic
      → s.words ≡ [] → Place types env s → Keeps s → AreBacked env g.value → Known types env g
  package_known types env s q [] g texts h more library here words st formed backed =
      subst (Known types env) (same_some (passed_rule q (Some (given env.local s)) g h))
      (record { new = []; own = tt; shown = tt; region = st.place.regions.0; apart = st.apart; formed = formed; words = words; counted = st.counted })
  package_known types env s q (i ∷ items) g texts h more library here words st formed backed =
      let step = step_of env s q i items g h in
      let first = step.first in
      let adds = of_ok (Add first.next) (package_items (with_local env first.value) first.next q items).answer g step.rest (items_add (with_local env first.value) first.next q items) in
      let on = extends_both first.next g.next last (extends_of first.next g.next adds) more in
      let keeps = λ (m : List ℕ) (kept : Entity) (has : Has m kept first.value). items_have m kept (with_local env first.value) first.next q items g step.rest has in
      let made = item_known i first step.is texts.0 on keeps in
      known_joined l main p legal of_facts generic inst standing served types env (with_local env first.value) made.new g made.own
      (all_shown_still first.value g.value keeps made.new made.shown)
      (own_there env first.value)
      (package_known (with_types types made.new) (with_local env first.value) first.next q items g texts.1 step.rest more library here made.words made.stands made.formed backed)
    where
      item_known : (i : PackageItem) (first : Given Region) → (construct q (package_item env s i)).answer ≡ Ok first → IsPackageItemText i → Extends first.next last
          → ((m : List ℕ) (kept : Entity) → Has m kept first.value → Has m kept g.value) → IsKnownThere types env s library here words st formed first
      item_known (part.Declaration d) first is text on keeps =
          let one = declaration_step env s q d first is in
          subst (IsKnownThere types env s library here words st formed) one.same
          (declaration_known types env s library here words st formed d one.made one.is text (subst (λ (f : Given Region). Extends f.next last) (sym one.same) on))
      item_known (part.Subprogram x) first is text on keeps =
          let there = declared_there env s x first (subprogram_step env s q x first is) in
          let r = routine_of env (key x.name) true there.profile.value in
          subprogram_known types env s library here words st formed x first there
          (backed (key x.name) r there.number (keeps (key x.name) (routine r) (declared_there_has env s x first there)) there.numbered)
