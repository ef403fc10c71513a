-- In each instance in which the text of a package stands the bodies in it are well-formed subprograms, and the objects that its body declares are well-formed.
use Rattle.std.proofs.Common.{◌≡◌, ◌≤◌, ◌+◌, ℕ, suc, true, false, List, [], ◌∷◌, ◌++◌, length, Option, Some, None, Ok, slice_get, refl, sym, ap, ◌∙◌, subst, arith, inl, inr}
use Rattle.std.specs.Prelude.{◌⊎◌, unwrap_or}
use Rattle.cov_base.specs.Lists.{Everywhere}
use Rattle.cov_base.specs.declared.position.Pos.{Pos}
use Rattle.ada_syntax.specs.declared.name.Identifier.{Identifier}
use Rattle.ada_syntax.specs.declared.unit.BodyItem.{BodyItem}
use Rattle.ada_syntax.specs.declared.unit.BodyItem.TheVariants as item
use Rattle.ada_syntax.specs.declared.unit.PackageItem.{PackageItem}
use Rattle.ada_syntax.specs.declared.unit.PackageItem.TheVariants as part
use Rattle.ada_syntax.specs.declared.unit.SubprogramBody.{SubprogramBody}
use Rattle.ada_meaning.specs.Bodies.{StandsIn}
use Rattle.ada_meaning.specs.Declared.{object_shape}
use Rattle.ada_meaning.specs.Program.{Program}
use Rattle.ada_meaning.specs.WellFormed.{StartSees, most_parameters}
use Rattle.ada_rules.specs.Plan.{construct}
use Rattle.ada_rules.specs.Types.{AdaType}
use Rattle.ada_rules.specs.Entities.{key, Routine, Entity, hidden, routine, Region, entity_of, is_new}
use Rattle.ada_rules.specs.Environment.{BodyName, State, Given, given, Env, with_local}
use Rattle.ada_rules.specs.Library.{Library, body_names}
use Rattle.ada_rules.specs.Statics.{Facts}
use Rattle.ada_rules.specs.Subprograms.{Profile, specified, to_complete, body_number, routine_of, body_judged, with_routine, packaged_body}
use Rattle.ada_rules.specs.Units.{package_item, body_item, body_items}
use Rattle.legal_laws.specs.Known.{IsEntity}
use Rattle.legal_laws.specs.Served.{Serves, AreListed, IsFormed}
use Rattle.legal_laws.specs.Standing.{with_types}
use Rattle.legal_laws.specs.Valued.{AreFactsOf}
use Rattle.legal_laws.proofs.KnownRegions.{redefined_known, local_known}
use Rattle.legal_laws.proofs.Passing.{answered, every_end}
use Rattle.legal_laws.proofs.UnitBodies.{LastIsFormed, packaged_known}
use Rattle.legal_programs.specs.Deciding.{IsWholeEnv}
use Rattle.legal_programs.specs.Final.{IsServed}
use Rattle.legal_programs.specs.Growing.{Extends, AddsBodies}
use Rattle.legal_programs.specs.Walked.{IsLegal}
use Rattle.legal_programs.proofs.DecidedBodies.{Bodies, body_item_turn}
use Rattle.legal_programs.proofs.Extending.{extends_both, body_items_add}
use Rattle.legal_programs.proofs.KeptNames.{Has}
use Rattle.legal_programs.proofs.Passed.{of_ok, passed_rule, passed_test}
use Rattle.legal_programs.proofs.WholeRegions.{local_whole}
use Rattle.legal_texts.specs.Told.{Table, TellsBehind, IsToldPlace}
use Rattle.legal_texts.specs.UnitTexts.{IsBodyItemText}
use Rattle.legal_texts.proofs.KnownObjects.{ObjectsAt, FormedAt}
use Rattle.legal_texts.proofs.BackedRoutines.{IsBackedAt, item_adds, body_backed, made_here, packaged_made}
use Rattle.legal_texts.proofs.EntitiesThere.{opened_there}
use Rattle.legal_texts.proofs.InterfaceWalk.{same_some}
use Rattle.legal_texts.proofs.Kept.{IsKept}
use Rattle.legal_texts.proofs.KeptBodies.{IsShort, specified_short, judged_kept}
use Rattle.legal_texts.proofs.KeptUnits.{KeptBy, body_items_keep, packaged_keeps}
use Rattle.legal_texts.proofs.MadeBodies.{IsMade}
use Rattle.legal_texts.proofs.PackageItems.{no_subprogram, Standing, Regions}
use Rattle.legal_texts.proofs.PackageParts.{declared_there, IsPackaged, packaged_there, completes_to, body_step_of, declaration_step, subprogram_step, body_step}
use Rattle.legal_texts.proofs.FormedPrograms.{typed_count}
use Rattle.legal_texts.proofs.SubprogramItems.{IsKnownThere, declaration_known, subprogram_known, declared_there_has, routine_known}
use Rattle.legal_texts.proofs.ToldItems.{judged_rises, next_place, item_tells, packaged_tells}
use Rattle.legal_texts.proofs.WaitingBodies.{IsNamed, IsToCome, AreExpected, expected_next, expected_behind, new_to_come}

module _ (l : Library) (main : List ℕ) (p : Program) (legal : IsLegal l main p) (of_facts : AreFactsOf p legal.walked.world.instances) (generic : Option ℕ) (inst : ℕ)
    (standing : StandsIn p generic inst) (served : (s : State) → Extends s legal.walked.next → IsServed legal.walked.world.instances p generic inst s) where
  abbrev last : State
  last = legal.walked.next

  abbrev facts : List Facts
  facts = legal.walked.world.instances

  abbrev Place : (AdaType → Type 0) → Env → State → Type 0
  Place types env s = Standing l main p legal of_facts generic inst standing served types env s

  -- what a walk leaves: the subprograms and the objects that were made are well-formed
  pub record IsLeft (s : State) : Type 0 where
    pub words : s.words ≡ []
    pub counted : s.objects ≡ length s.words
    pub formed : FormedAt p inst s.subprograms
    pub objects : ObjectsAt p inst s.objects_declared

  -- the bodies of these items have the numbers from here on
  abbrev pub ArePlaced : Env → State → List BodyItem → Type 0
  ArePlaced env s items =
      (j : ℕ) (one : BodyName) → slice_get (body_names env.unit_name items) j ≡ Some one → body_number env.world env.unit_name one.name ≡ Some (length s.subprograms + j)

  module _ (types : AdaType → Type 0) where
    abbrev Known : Region → Type 0
    Known region = Regions l main p legal of_facts generic inst standing served types region

    completed_known : (region : Region) (i : Identifier) (after : Region) (o : Option Entity) → to_complete region i o ≡ Some after → Known region → Known after
    completed_known region i after None e all =
        subst Known (passed_test (is_new region i) (region ++ (key i, hidden) ∷ []) after e).1
        (every_end (λ f. IsEntity p inst types (object_shape p inst no_subprogram) (StartSees p inst no_subprogram) f.1) region (key i, hidden) all tt)
    completed_known region i after (Some (routine r)) e all = subst Known (passed_test r.awaits_body region after e).1 all
    completed_known region i after (Some x) e all = absurd (none_is_some e)
      where
        none_is_some : None ≡ Some after → ⊥
        none_is_some f = cc

    -- a body
    module _ (env : Env) (library : env.is_library ≡ true) (here : env.generic ≡ generic) (s : State) (st : Place types env s) (whole : IsWholeEnv env)
        (left : IsLeft s) (b : SubprogramBody) (text : IsBodyItemText (item.Body b)) (g : Given Region) (is : (packaged_body env s b).answer ≡ Ok g) (on : Extends g.next last)
        (few : g.next.excesses ≡ []) (number : body_number env.world env.unit_name (key b.specification.name) ≡ Some (length s.subprograms)) where
      abbrev there : IsPackaged env s b g
      there = packaged_there env s b g is

      abbrev q : Given Profile
      q = there.profile

      abbrev made : IsMade env.generic q.value s g.next
      made = packaged_made l main p legal env st.place.step s b g there

      at_number : slice_get p.subprograms (length s.subprograms) ≡ Some made.made
      at_number = made_here l main p legal (length s.subprograms) s g.next made.made made.is_made on refl

      backed : IsBackedAt p env.generic (length s.subprograms) (routine_of env (key b.specification.name) false q.value)
      backed = record { sub = made.made; here = at_number; stands = made.stands; parameters = made.parameters; gives = made.gives }

      short : IsShort s q
      short = of_ok (IsShort s) (specified (with_local env there.region) s b.specification).answer q there.specifies (specified_short (with_local env there.region) s b.specification)

      kept : IsKept false q.next there.next
      kept =
          of_ok (IsKept false q.next) (body_judged env s b (with_routine env there.region b.specification.name q.value) (key b.specification.name) q).answer there.next there.judged
          (judged_kept env s b (with_routine env there.region b.specification.name q.value) (key b.specification.name) q)

      few_parameters : length made.made.parameters ≤ most_parameters
      few_parameters =
          let count : length made.made.parameters ≡ length q.value.parameters = sym (ap length made.parameters) ∙ typed_count 0 q.value.parameters in
          let none_there : there.next.excesses ≡ [] = ap (λ (f : Given Region). f.next.excesses) there.is ∙ few in
          subst (λ k. k ≤ most_parameters) (sym count) (short.few (kept.few none_there))

      body_formed : IsFormed p inst made.made
      body_formed =
          let keeps = served g.next on in
          of_ok (λ (f : Given Region). LastIsFormed p facts of_facts.0 of_facts.1 inst made.made types env.generic f.next) (packaged_body env s b).answer g is
          (packaged_known p facts of_facts.0 of_facts.1 inst made.made types env s b text few_parameters (length s.subprograms) (opened_there p inst types made.made env s whole st) at_number
          (subst (λ o. StandsIn p o inst) (sym (made.stands ∙ here)) standing) (ap (λ o. unwrap_or o 0) number))
          s.subprograms made.is_made (subst (λ o. Serves facts inst o g.next) (sym here) keeps.0)
          (subst (λ o. AreListed facts inst p (object_shape p inst made.made) o g.next.exceptions_declared) (sym here) (keeps.1 (object_shape p inst made.made)))

      pub body_left : IsLeft g.next
      body_left =
          let same = (of_ok (KeptBy false s) (packaged_body env s b).answer g is (packaged_keeps env s b)).objects refl in
          record {
            words = made.words ∙ left.words;
            counted = made.objects ∙ (left.counted ∙ ap length (sym made.words));
            formed = subst (FormedAt p inst) (sym made.is_made) ((λ stands. body_formed), left.formed);
            objects = subst (ObjectsAt p inst) (sym same) left.objects;
          }

      region_known : Known g.value
      region_known =
          let region = completed_known env.local b.specification.name there.region (entity_of (key b.specification.name) env.local)
          (completes_to env.local b.specification.name there.region there.completes) st.place.regions.0 in
          subst (λ (f : Given Region). Known f.value) there.is
          (redefined_known p inst types (object_shape p inst no_subprogram) (StartSees p inst no_subprogram) (key b.specification.name)
          (routine (routine_of env (key b.specification.name) false q.value)) there.region
          (routine_known l main p legal of_facts generic inst standing served types env s there.region b.specification q false (length s.subprograms) here st region there.specifies number backed)
          region)

      rises : s.types ≤ g.next.types
      rises =
          let later = of_ok (λ (t : State). q.next.types ≤ t.types)
          (body_judged env s b (with_routine env there.region b.specification.name q.value) (key b.specification.name) q).answer there.next there.judged
          (judged_rises env st.place.step s b (with_routine env there.region b.specification.name q.value) (key b.specification.name) q) in
          let same = short.types in
          let last_is = ap (λ (f : Given Region). f.next.types) there.is in
          omega (arith, later, same, last_is)

      pub body_stands : Place types (with_local env g.value) g.next
      body_stands = record {
        place = local_known p inst types (object_shape p inst no_subprogram) (StartSees p inst no_subprogram) env g.value st.place region_known;
        world = st.world;
        apart = st.apart;
        older = λ t n known e. let less = st.older t n known e in let rise = rises in omega (arith, less, rise);
        counted = body_left.counted;
        alone = st.alone;
      }

  -- items in order
  pub items_left : (types : AdaType → Type 0) (table : Table) (env : Env) (s : State) (at : Pos) (items : List BodyItem) (g : Given Region) → IsToldPlace table env s
      → AreExpected env items → Everywhere IsBodyItemText items → (body_items env s at items).answer ≡ Ok g → Extends g.next last → g.next.excesses ≡ [] → env.is_library ≡ true → env.generic ≡ generic
      → IsWholeEnv env → Place types env s → ArePlaced env s items → IsLeft s → IsLeft g.next
  items_left types table env s at [] g told expected texts h more few library here whole st placed left =
      subst (λ (f : Given Region). IsLeft f.next) (same_some (passed_rule at (Some (given env.local s)) g h)) left
  items_left types table env s at (item.Declared i ∷ items) g told expected texts h more few library here whole st placed left =
      let step = body_step_of env s at (item.Declared i) items g h in
      let first = step.first in
      let adds = of_ok (λ (x : Given Region). AddsBodies (length (body_names env.unit_name items)) first.next x.next) (body_items (with_local env first.value) first.next at items).answer g
      step.rest (body_items_add env.unit_name (with_local env first.value) first.next at items) in
      let on = extends_both first.next g.next last adds.extends more in
      let tells = of_ok (TellsBehind table env) (construct at (package_item env s i)).answer first step.is
      (answered (TellsBehind table env) at (package_item env s i).outcome (item_tells table env s told i)) in
      let told_next = next_place table env s first told tells in
      let same = (item_adds env s at i first step.is).subprograms in
      let k = item_known i first step.is texts.0 on (λ j one there. placed j one there ∙ ap (λ ss. Some (length ss + j)) (sym same))
      (λ name r has j one there is_name. body_backed l main p legal name r tells.table env.unit_name (with_local env first.value) first.next at items g step.rest more told_next has
      j one there is_name) in
      let region_whole = (of_ok (Bodies s) (construct at (body_item env s (item.Declared i))).answer first step.is
      (answered (Bodies s) at (body_item env s (item.Declared i)).outcome (body_item_turn env s (item.Declared i) st.place.step whole library))).1 in
      items_left (with_types types k.new) tells.table (with_local env first.value) first.next at items g told_next (expected_next env s at i items first step.is expected) texts.1 step.rest
      more few library here (local_whole env first.value whole region_whole) k.stands (λ j one there. placed j one there ∙ ap (λ ss. Some (length ss + j)) (sym same))
      (record {
        words = k.words;
        counted = k.stands.counted;
        formed = subst (FormedAt p inst) (sym same) left.formed;
        objects = k.formed;
      })
    where
      item_known : (i : PackageItem) (first : Given Region) → (construct at (package_item env s i)).answer ≡ Ok first → IsBodyItemText (item.Declared i) → Extends first.next last
          → ((j : ℕ) (one : BodyName) → slice_get (body_names env.unit_name items) j ≡ Some one
          → body_number env.world env.unit_name one.name ≡ Some (length first.next.subprograms + j))
          → ((name : List ℕ) (r : Routine) → Has name (routine r) first.value → (j : ℕ) (one : BodyName) → slice_get (body_names env.unit_name items) j ≡ Some one → one.name ≡ name
          → IsBackedAt p env.generic (length first.next.subprograms + j) r)
          → IsKnownThere l main p legal of_facts generic inst standing served types env s library here left.words st left.objects first
      item_known (part.Declaration d) first is text on numbers backs =
          let one = declaration_step env s at d first is in
          subst (IsKnownThere l main p legal of_facts generic inst standing served types env s library here left.words st left.objects) one.same
          (declaration_known l main p legal of_facts generic inst standing served types env s library here left.words st left.objects d one.made one.is text
          (subst (λ (f : Given Region). Extends f.next last) (sym one.same) on))
      item_known (part.Subprogram x) first is text on numbers backs =
          let there = declared_there env s x first (subprogram_step env s at x first is) in
          let come = new_to_come env x.name there.region items there.number there.hides there.numbered
          (λ name k number. of_rest (expected name k number)) in
          let backed = backs (key x.name) (routine_of env (key x.name) true there.profile.value) (declared_there_has env s x first there) come.index come.one come.at come.same in
          let number : length first.next.subprograms + come.index ≡ there.number =
          same_some (sym (numbers come.index come.one come.at) ∙ (ap (body_number env.world env.unit_name) come.same ∙ there.numbered)) in
          subprogram_known l main p legal of_facts generic inst standing served types env s library here left.words st left.objects x first there
          (subst (λ m. IsBackedAt p env.generic m (routine_of env (key x.name) true there.profile.value)) number backed)
        where
          of_rest : {name : List ℕ} → IsToCome env.unit_name name (item.Declared i ∷ items) ⊎ IsNamed name env.local → IsToCome env.unit_name name items ⊎ IsNamed name env.local
          of_rest (inl come) = inl (record { index = come.index; one = come.one; at = come.at; same = come.same })
          of_rest (inr named) = inr named
  items_left types table env s at (item.Body b ∷ items) g told expected texts h more few library here whole st placed left =
      let step = body_step_of env s at (item.Body b) items g h in
      let first = step.first in
      let adds = of_ok (λ (x : Given Region). AddsBodies (length (body_names env.unit_name items)) first.next x.next) (body_items (with_local env first.value) first.next at items).answer g
      step.rest (body_items_add env.unit_name (with_local env first.value) first.next at items) in
      let on = extends_both first.next g.next last adds.extends more in
      let kept = of_ok (KeptBy env.is_library first.next) (body_items (with_local env first.value) first.next at items).answer g step.rest
      (body_items_keep (with_local env first.value) first.next at items) in
      let few_here = kept.few few in
      let passes = body_step env s at b first step.is in
      let zero_more : length s.subprograms + 0 ≡ length s.subprograms = omega (arith) in
      let number : body_number env.world env.unit_name (key b.specification.name) ≡ Some (length s.subprograms) = placed 0 (name_of env b) refl ∙ ap Some zero_more in
      let made = packaged_made l main p legal env st.place.step s b first (packaged_there env s b first passes) in
      let count = ap length made.is_made in
      let region_whole = (of_ok (Bodies s) (construct at (body_item env s (item.Body b))).answer first step.is
      (answered (Bodies s) at (body_item env s (item.Body b)).outcome (body_item_turn env s (item.Body b) st.place.step whole library))).1 in
      let tells = of_ok (TellsBehind table env) (packaged_body env s b).answer first passes (packaged_tells table env s told b) in
      items_left types tells.table (with_local env first.value) first.next at items g (next_place table env s first told tells)
      (expected_behind env s b items first (packaged_there env s b first passes) expected) texts.1 step.rest more few library here (local_whole env first.value whole region_whole)
      (body_stands types env library here s st whole left b texts.0 first passes on few_here number)
      (λ j name there. let next : length s.subprograms + suc j ≡ length first.next.subprograms + j = omega (arith, count) in placed (suc j) name there ∙ ap Some next)
      (body_left types env library here s st whole left b texts.0 first passes on few_here number)
    where
      name_of : Env → SubprogramBody → BodyName
      name_of e c = record { package_name = e.unit_name; name = key c.specification.name }
