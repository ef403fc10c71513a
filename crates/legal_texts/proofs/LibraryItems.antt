-- Declarations of the library level declare types of their own unit; what they declare is known behind them, and has a type and an initial value.
use Rattle.std.proofs.Common.{◌≡◌, ◌≤◌, ◌<◌, ◌+◌, ℕ, Bool, true, false, if◌then◌else◌, List, [], ◌∷◌, length, Option, Some, None, option_map, IfSome, IfOk, refl, sym, ap, ◌∙◌, subst, arith, inl}
use Rattle.std.proofs.lemmas.Bool.{false≢true}
use Rattle.cov_base.specs.declared.position.Pos.{Pos}
use Rattle.cov_base.specs.Lists.{Everywhere}
use Rattle.ada_syntax.specs.declared.declaration.Constancy.{Constancy}
use Rattle.ada_syntax.specs.declared.declaration.Declaration.{Declaration}
use Rattle.ada_syntax.specs.declared.declaration.DeclarationKind.{DeclarationKind}
use Rattle.ada_syntax.specs.declared.declaration.DeclarationKind.TheVariants as declares
use Rattle.ada_syntax.specs.declared.declaration.Initial.{Initial}
use Rattle.ada_syntax.specs.declared.name.Identifier.{Identifier}
use Rattle.ada_meaning.specs.Program.{LibraryObject, ExceptionDeclaration, Program}
use Rattle.ada_meaning.specs.Program as program
use Rattle.ada_meaning.specs.Resolved.{shape_in, rank_of}
use Rattle.ada_meaning.specs.Shape.{Shape}
use Rattle.ada_meaning.specs.Statics.{static_value, values_of}
use Rattle.ada_meaning.specs.Tree as tree
use Rattle.ada_meaning.specs.Types.{Static}
use Rattle.ada_meaning.specs.WellFormed.{HasNumber, IsType, IsInitial, IsException}
use Rattle.ada_rules.specs.Plan.{Plan, ◌>>=◌, rule}
use Rattle.ada_rules.specs.Types.{declared_in, identity_of, type_in, AdaType, integer_type, enumeration, formal_type, array_type, record_type, AdaSubtype, of_type, range_in, fits, subtype_in_tree}
use Rattle.ada_rules.specs.Entities.{key, hidden, mark, raisable, Region, redefined}
use Rattle.ada_rules.specs.Environment.{typed_rule, State, Given, given, Env, with_local, owner_of, new_identity, one_type_more, hide, hide_all}
use Rattle.ada_rules.specs.Expressions.{Valued, static_part}
use Rattle.ada_rules.specs.Declarations.{Defined, type_counted, in_range, indicated, defined, innermost, initial_for, LibraryValue, known_value, library_value, Declared, may_be_bare, one_name, known_constant, object_entity, library_entities, library_objects, library_declared, no_library_value, local_bare, local_set, new_value, objects_declared, exception_declared, exceptions_from, type_declared, subtype_declared, kind_declared, declared}
use Rattle.ada_rules.specs.Statics.{Facts}
use Rattle.legal_laws.specs.Bounded.{IsBounded}
use Rattle.legal_laws.specs.Known.{IsKnownSubtype, IsRegion}
use Rattle.legal_laws.specs.LibraryLevel.{AreObjects}
use Rattle.legal_laws.specs.Served.{AreListed, IsFinal}
use Rattle.legal_laws.specs.Standing.{with_type, with_types, Stands}
use Rattle.legal_laws.specs.Valued.{AreFactsInBase, HaveFacts}
use Rattle.legal_laws.specs.Written.{IsWritten}
use Rattle.legal_laws.proofs.Passing.{IfPassed, if_map, if_test, if_each, answered, part_so, typed_so, both_ok}
use Rattle.legal_laws.proofs.Values.{value_demanded}
use Rattle.legal_laws.proofs.KnownDeclarations.{own_instance, Indicated, stands_local, stands_statics, stands_led}
use Rattle.legal_laws.proofs.Identities.{apart_with, older_with}
use Rattle.legal_laws.proofs.Wider.{env_wider}
use Rattle.legal_laws.proofs.KnownRegions.{hidden_known, all_hidden_known, redefined_known, local_known}
use Rattle.legal_laws.proofs.KnownStatics.{IsStaticPart, static_part_known, indicated_known}
use Rattle.legal_laws.proofs.KnownBounds.{known_bounded}
use Rattle.legal_laws.proofs.KnownTypes.{subtype_is_type}
use Rattle.legal_laws.proofs.DefinedTypes.{IsDefined, defined_known}
use Rattle.legal_laws.proofs.Leading.{Leads, leads_both, leads_statics, library_leads}
use Rattle.legal_laws.proofs.NumberedObjects.{mapped_any}
use Rattle.legal_laws.proofs.KnownObjects.{constant_keeps}
use Rattle.legal_programs.proofs.KeptNames.{Has, defined_has}
use Rattle.legal_texts.proofs.KnownObjects.{AreKnownObjects}
use Rattle.legal_texts.proofs.NamesThere.{IsShownIn, redefined_there, hides_there, shown_as}

at_library : {B : Type 0} (P : B → Type 0) (b : Bool) (o r : Plan B) → b ≡ true → IfPassed o.outcome P → IfPassed (if b then o else r).outcome P
at_library P true o r e h = h
at_library P false o r e h = absurd (false≢true e)

-- a type of this unit
pub record IsOfUnit (env : Env) (t : AdaType) : Type 0 where
  pub number : ℕ
  pub is : identity_of t ≡ declared_in (owner_of env) env.unit_number number

module _ (p : Program) (facts : List Facts) (has : HaveFacts p.instances facts) (are : Everywhere AreFactsInBase facts) (inst : ℕ) (shape_of : tree.Object → Shape) where
  abbrev Final : Option ℕ → State → Type 0
  Final o s = IsFinal facts inst p shape_of o s

  final_counted : (o : Option ℕ) (env : Env) (q : Pos) (t : AdaSubtype) (s : State) → Final o (type_counted env q t s) → Final o s
  final_counted o env q t s all = record {
    serves = record { met = all.serves.met; constants = all.serves.constants; limits = all.serves.limits.1 };
    shaped = all.shaped;
    listed = all.listed;
  }

  -- exceptions
  module _ (types : AdaType → Type 0) (Sees : tree.Object → Type 0) (env : Env) (alone : env.generic ≡ None → inst ≡ 0) where
    abbrev Raised : State → Region → List Identifier → Declared
    Raised s region is = exceptions_from env s region is

    exceptions_listed : (s : State) (region : Region) (is : List Identifier)
        → AreListed facts inst p shape_of env.generic (Raised s region is).next.exceptions_declared
        → AreListed facts inst p shape_of env.generic s.exceptions_declared
    exceptions_listed s region [] all = all
    exceptions_listed s region (i ∷ is) all =
        (exceptions_listed (exception_declared env i s) (redefined (key i) (raisable (tree.declared (owner_of env) s.exceptions)) region) is all).1

    name_there : (n : ℕ) → rank_of inst n p.exceptions < length p.exceptions → IsException p inst shape_of (tree.declared (owner_of env) n)
    name_there n less =
        subst (λ i. (1 ≤ 5 + rank_of i n p.exceptions) × (5 + rank_of i n p.exceptions ≤ 4 + length p.exceptions))
        (sym (own_instance inst env.generic alone)) (omega (arith), omega (arith, less))

    exceptions_region : (s : State) (region : Region) (is : List Identifier)
        → AreListed facts inst p shape_of env.generic (Raised s region is).next.exceptions_declared
        → IsRegion p inst types shape_of Sees region → IsRegion p inst types shape_of Sees (Raised s region is).region
    exceptions_region s region [] all h = h
    exceptions_region s region (i ∷ is) all h =
        let more = redefined (key i) (raisable (tree.declared (owner_of env) s.exceptions)) region in
        exceptions_region (exception_declared env i s) more is all
        (redefined_known p inst types shape_of Sees (key i) (raisable (tree.declared (owner_of env) s.exceptions)) region
        (name_there s.exceptions ((exceptions_listed (exception_declared env i s) more is all).0 refl)) h)

    abbrev with_exceptions : State → ℕ → List ExceptionDeclaration → State
    with_exceptions s n es = record s { exceptions = n; exceptions_declared = es }

    exceptions_next : (s : State) (region : Region) (is : List Identifier)
        → (Raised s region is).next ≡ with_exceptions s (Raised s region is).next.exceptions (Raised s region is).next.exceptions_declared
    exceptions_next s region [] = refl
    exceptions_next s region (i ∷ is) =
        exceptions_next (exception_declared env i s) (redefined (key i) (raisable (tree.declared (owner_of env) s.exceptions)) region) is

    stands_raised : (s t : State) → Stands p inst shape_of types Sees env s → t ≡ with_exceptions s t.exceptions t.exceptions_declared → Stands p inst shape_of types Sees env t
    stands_raised s t st only =
        subst (Stands p inst shape_of types Sees env) (sym only)
        (record { place = st.place; world = st.world; apart = st.apart; older = st.older; counted = st.counted; alone = st.alone })

  abbrev ShapeOf : AdaSubtype → Shape
  ShapeOf t = shape_in p inst (subtype_in_tree t)

  -- the initial value that a static part gives
  plain_initial : (t : AdaSubtype) (e : Valued) → HasNumber (static_value (values_of p) inst e.value) → IfSome (initial_for t [] e) (IsInitial p inst)
  plain_initial (of_type (integer_type i) r) e h = if_test (IsInitial p inst) (fits (integer_type i) e.kind) _ (λ f. h)
  plain_initial (of_type (enumeration i n) r) e h = if_test (IsInitial p inst) (fits (enumeration i n) e.kind) _ (λ f. h)
  plain_initial (of_type (formal_type i k b) r) e h = if_test (IsInitial p inst) (fits (formal_type i k b) e.kind) _ (λ f. h)
  plain_initial (of_type (array_type i x c) r) e h = if_test (IsInitial p inst) (fits (array_type i x c) e.kind) _ (λ f. h)
  plain_initial (of_type (record_type i fs) r) e h = if_test (IsInitial p inst) (fits (record_type i fs) e.kind) _ (λ f. h)

  initial_known : (t : AdaSubtype) (ps : List Pos) (e : Valued) → HasNumber (static_value (values_of p) inst e.value) → IfSome (initial_for t ps e) (IsInitial p inst)
  initial_known t [] e h = plain_initial t e h
  initial_known (of_type (integer_type i) r) (q ∷ ps) e h = tt
  initial_known (of_type (enumeration i n) r) (q ∷ ps) e h = tt
  initial_known (of_type (formal_type i k b) r) (q ∷ ps) e h = tt
  initial_known (of_type (array_type i x c) r) (q ∷ ps) e h =
      if_map (IsInitial p inst) (IsInitial p inst) program.others_initial (initial_for c ps e) (initial_known c ps e h) (λ v k. k)
  initial_known (of_type (record_type i fs) r) (q ∷ ps) e h = tt

  module _ (types : AdaType → Type 0) (Sees : tree.Object → Type 0) (env : Env) (s : State) (st : Stands p inst shape_of types Sees env s) where
    abbrev Objects : List LibraryObject → Type 0
    Objects os = AreObjects p inst env.generic shape_of Sees (owner_of env) os

    abbrev Formed : List LibraryObject → Type 0
    Formed os = AreKnownObjects p inst env.generic os

    -- what a declaration of the library level comes to
    pub record AreLibraryMade (x : Declared) : Type 0 where
      pub new : List AdaType
      pub own : Everywhere (IsOfUnit env) new
      pub stands : Stands p inst shape_of (with_types types new) Sees (with_local env x.region) x.next
      pub formed : Formed s.objects_declared → Formed x.next.objects_declared
      pub shown : Everywhere (λ u. IsShownIn u x.region) new

    abbrev pub Made : Declared → Type 0
    Made x = Final env.generic x.next → Objects x.next.objects_declared → AreLibraryMade x

    abbrev Here : AdaSubtype → ℕ → Type 0
    Here t n = (shape_of (tree.library_object (owner_of env) n) ≡ ShapeOf t) × Sees (tree.library_object (owner_of env) n)

    abbrev AreHere : AdaSubtype → ℕ → List Identifier → Type 0
    AreHere t n [] = Unit {0}
    AreHere t n (i ∷ is) = Here t n × AreHere t (n + 1) is

    here_of : (t : AdaSubtype) (v : program.Initial) (n : ℕ) (is : List Identifier) (os : List LibraryObject) → Objects (library_objects env t v n is os)
        → Objects os × AreHere t n is
    here_of t v n [] os h = (h, tt)
    here_of t v n (i ∷ is) os h =
        let rest = here_of t v (n + 1) is _ h in (rest.0.1, (rest.0.0 refl, rest.1))

    formed_more : (t : AdaSubtype) (v : program.Initial) (n : ℕ) (is : List Identifier) (os : List LibraryObject) → IsType (ShapeOf t) → IsInitial p inst v
        → IsBounded p inst (subtype_in_tree t) → Formed os → Formed (library_objects env t v n is os)
    formed_more t v n [] os type initial bounded h = h
    formed_more t v n (i ∷ is) os type initial bounded h =
        formed_more t v (n + 1) is _ type initial bounded (((λ e. (type, initial)), h.0), ((λ e. bounded), h.1))

    entities_known : (c : Constancy) (t : AdaSubtype) (k : Option Static) (n : ℕ) (region : Region) (is : List Identifier) → IsKnownSubtype p inst types t
        → AreHere t n is → IsRegion p inst types shape_of Sees region → IsRegion p inst types shape_of Sees (library_entities env c t k n region is)
    entities_known c t k n region [] known here all = all
    entities_known c t k n region (i ∷ is) known here all =
        entities_known c t k (n + 1) (redefined (key i) (object_entity (tree.library_object (owner_of env) n) c t k) region) is known here.1
        (redefined_known p inst types shape_of Sees (key i) (object_entity (tree.library_object (owner_of env) n) c t k) region
        (record { visible = here.0.1; parts = tt; shape = here.0.0; subtype = known }) all)

    -- objects that are set to this
    objects_made : (c : Constancy) (region : Region) (h : IsRegion p inst types shape_of Sees region) (is : List Identifier) (t : AdaSubtype) (v : LibraryValue)
        (u : State) → Leads p facts are inst shape_of env.generic s u → u.objects_declared ≡ s.objects_declared
        → (Final env.generic u → IsKnownSubtype p inst types t × IsInitial p inst v.initial) → Made (library_declared env c region is t v u)
    objects_made c region h is t v u go same known all objects =
        let k = known_constant env c t (λ e. Some e) v.known u in
        let more = library_leads p facts are inst shape_of env c region is t v u in
        let now = stands_led p facts has are inst shape_of types Sees env env.generic s u st go in
        let at_u = known (more.back (go.counted st.counted) all) in
        let kept : k.next.objects_declared ≡ u.objects_declared = ap (λ x. x.objects_declared) (constant_keeps env c t (λ e. Some e) v.known u) in
        let here = here_of t v.initial k.next.library_objects is k.next.objects_declared objects in
        record {
          new = [];
          own = tt;
          stands = stands_local p facts has are inst shape_of types Sees env _ _
              (stands_led p facts has are inst shape_of types Sees env env.generic u _ now more)
              (entities_known c t k.value k.next.library_objects region is at_u.0 here.1 h);
          formed = λ f. formed_more t v.initial k.next.library_objects is k.next.objects_declared
              (subtype_is_type p inst types st.apart t at_u.0) at_u.1 (known_bounded p inst types t at_u.0) (subst Formed (sym (kept ∙ same)) f);
          shown = tt;
        }

    abbrev Marked : (region : Region) → IsRegion p inst types shape_of Sees region → Given AdaSubtype → Type 0
    Marked region h x = Indicated p facts has are inst shape_of types Sees env s st region h s x

    -- the initial value
    pub record IsLibraryValue (t : State) (g : Given LibraryValue) : Type 0 where
      pub leads : Leads p facts are inst shape_of env.generic t g.next
      pub only : g.next.objects_declared ≡ t.objects_declared
      pub initial : Final env.generic g.next → IsInitial p inst g.value.initial

    value_made : (region : Region) (h : IsRegion p inst types shape_of Sees region) (t : State) (q : Pos) (a : AdaSubtype) (i : Initial)
        → IfOk (library_value (with_local env region) t q a i).answer (IsLibraryValue t)
    value_made region h t q a i =
        answered (IsLibraryValue t) _ _
        (part_so (IsStaticPart p facts has are inst types st.apart shape_of Sees (with_local env region) (local_known p inst types shape_of Sees env region st.place h) st.world
        t (λ k. true))
        (IsLibraryValue t) (static_part (with_local env region) t (λ k. true) (in_range (range_in (innermost a i.others))) i.value).answer
        (λ x. typed_rule env.step (given (record { initial = program.no_initial; known = None }) x.next)
        (option_map (λ v. given (record { initial = v; known = known_value i.others x.value }) x.next) (initial_for a i.others x.value)))
        (static_part_known p facts has are inst types st.apart shape_of Sees (with_local env region) (local_known p inst types shape_of Sees env region st.place h) st.world
        t (λ k. true) (in_range (range_in (innermost a i.others))) i.value
        (λ e g. value_demanded p facts has are inst (record { value = e; range = range_in (innermost a i.others) }) g))
        (λ x k. typed_so (IsLibraryValue t) env.step _ _ st.place.step
        (if_map (λ v. Final env.generic x.next → IsInitial p inst v) (IsLibraryValue t)
        (λ v. given (record { initial = v; known = known_value i.others x.value }) x.next) (initial_for a i.others x.value)
        (if_each (λ (f : Final env.generic x.next) v. IsInitial p inst v) (initial_for a i.others x.value)
        (λ f. initial_known a i.others x.value (k.number f.serves)))
        (λ v l. record {
          leads = leads_statics p facts are inst shape_of env.generic t x.next k.only k.before;
          only = ap (λ y. y.objects_declared) k.only;
          initial = l;
        }))))

    module _ (library : env.is_library ≡ true) where
      objects_known : (q : Pos) (c : Constancy) (region : Region) (h : IsRegion p inst types shape_of Sees region) (is : List Identifier) (x : Given AdaSubtype)
          (i : Option Initial) → Marked region h x → IfPassed (objects_declared env q c region is x i).outcome Made
      objects_known q c region h is x None k =
          at_library Made env.is_library _ (typed_rule env.step (local_bare c region is x) (option_map (λ u. local_bare c region is x) (may_be_bare c))) library
          (typed_so Made env.step (library_declared env c region is x.value no_library_value x.next)
          (option_map (λ u. library_declared env c region is x.value no_library_value x.next) (may_be_bare c)) st.place.step
          (mapped_any Made (may_be_bare c) (library_declared env c region is x.value no_library_value x.next)
          (objects_made c region h is x.value no_library_value x.next (leads_statics p facts are inst shape_of env.generic s x.next k.only k.before)
          (ap (λ y. y.objects_declared) k.only) (λ f. (k.subtype f.serves, tt)))))
      objects_known q c region h is x (Some i) k =
          at_library Made env.is_library _
          (new_value (with_local env region) x.next q x.value i >>= (λ v. typed_rule env.step (local_set env q c region is x.value v)
          (option_map (λ u. local_set env q c region is x.value v) (one_name is)))) library
          (part_so (IsLibraryValue x.next) Made (library_value (with_local env region) x.next q x.value i).answer
          (λ v. typed_rule env.step (library_declared env c region is x.value v.value v.next)
          (option_map (λ u. library_declared env c region is x.value v.value v.next) (one_name is)))
          (value_made region h x.next q x.value i)
          (λ v g. typed_so Made env.step _ _ st.place.step
          (mapped_any Made (one_name is) (library_declared env c region is x.value v.value v.next)
          (objects_made c region h is x.value v.value v.next
          (leads_both p facts are inst shape_of env.generic s x.next v.next (leads_statics p facts are inst shape_of env.generic s x.next k.only k.before) g.leads)
          (g.only ∙ ap (λ y. y.objects_declared) k.only)
          (λ f. (k.subtype (g.leads.back (ap (λ y. y.objects) k.only ∙ st.counted ∙ sym (ap (λ y. length y.words) k.only)) f).serves, g.initial f))))))

      exceptions_objects : (u : State) (region : Region) (is : List Identifier) → (exceptions_from env u region is).next.objects_declared ≡ u.objects_declared
      exceptions_objects u region [] = refl
      exceptions_objects u region (i ∷ is) =
          exceptions_objects (exception_declared env i u) (redefined (key i) (raisable (tree.declared (owner_of env) u.exceptions)) region) is

      -- a type, a subtype and exceptions declare no object
      type_library : (q : Pos) (i : Identifier) (x : Given Defined)
          → IsDefined p facts has are inst shape_of types st.apart Sees env.generic (one_type_more s) (new_identity env s) x
          → Has (key i) hidden x.value.region → Made (type_declared env q i (new_identity env s) x)
      type_library q i x h there all objects =
          let u = type_in x.value.subtype in
          let named = mark (new_identity env s) x.value.subtype in
          let more = ap (λ y. y.types) h.only in
          let behind = final_counted env.generic env q x.value.subtype x.next all in
          record {
            new = u ∷ [];
            own = (record { number = s.types; is = h.identity }, tt);
            stands = record {
              place = local_known p inst (with_type types u) shape_of Sees env _
                  (env_wider p inst types (with_type types u) (λ t k. inl k) shape_of Sees Sees (λ o k. k) env st.place)
                  (redefined_known p inst (with_type types u) shape_of Sees (key i) (mark (new_identity env s) x.value.subtype) x.value.region
                  (h.known behind.serves (all.serves.limits.0 refl).0) h.region);
              world = st.world;
              apart = apart_with types env s u h.identity st.older p st.apart;
              older = older_with types env s u h.identity st.older (type_counted env q x.value.subtype x.next) more;
              counted = ap (λ y. y.objects) h.only ∙ st.counted ∙ sym (ap (λ y. length y.words) h.only);
              alone = st.alone;
            };
            formed = λ f. subst Formed (sym (ap (λ y. y.objects_declared) h.only)) f;
            shown = (
              shown_as x.value.subtype (key i) (new_identity env s) (redefined (key i) named x.value.region)
                  (redefined_there (key i) hidden named x.value.region there),
              tt,
            );
          }

      stands_type : Stands p inst shape_of types Sees env (one_type_more s)
      stands_type = record {
        place = st.place;
        world = st.world;
        apart = st.apart;
        older = λ u n h e. let few = st.older u n h e in omega (arith, few);
        counted = st.counted;
        alone = st.alone;
      }

      subtype_library : (i : Identifier) (region : Region) (h : IsRegion p inst types shape_of Sees region) (x : Given AdaSubtype)
          → Indicated p facts has are inst shape_of types Sees env s st region h (one_type_more s) x → Made (subtype_declared i region (new_identity env s) x)
      subtype_library i region h x k all objects = record {
        new = [];
        own = tt;
        stands = stands_local p facts has are inst shape_of types Sees env x.next (redefined (key i) (mark (new_identity env s) x.value) region)
            (stands_statics p facts has are inst shape_of types Sees env (one_type_more s) x.next stands_type k.only)
            (redefined_known p inst types shape_of Sees (key i) (mark (new_identity env s) x.value) region (k.subtype all.serves) h);
        formed = λ f. subst Formed (sym (ap (λ y. y.objects_declared) k.only)) f;
        shown = tt;
      }

      exceptions_library : (region : Region) (is : List Identifier) → IsRegion p inst types shape_of Sees region → Made (exceptions_from env s region is)
      exceptions_library region is h all objects = record {
        new = [];
        own = tt;
        stands = stands_local p facts has are inst shape_of types Sees env (exceptions_from env s region is).next (exceptions_from env s region is).region
            (stands_raised types Sees env st.alone s (exceptions_from env s region is).next st (exceptions_next types Sees env st.alone s region is))
            (exceptions_region types Sees env st.alone s region is all.listed h);
        formed = λ f. subst Formed (sym (exceptions_objects s region is)) f;
        shown = tt;
      }

      abbrev Definition : Given Defined → Type 0
      Definition x = IsDefined p facts has are inst shape_of types st.apart Sees env.generic (one_type_more s) (new_identity env s) x

      kind_library : (q : Pos) (d : DeclarationKind) → IsWritten d → IfPassed (kind_declared env s q d).outcome Made
      kind_library q (declares.Type i d) written =
          part_so (λ region. IsRegion p inst types shape_of Sees region × Has (key i) hidden region) Made (hide env.local i).answer
          (λ region. defined (with_local env region) (one_type_more s) q (new_identity env s) d >>= (λ x. rule (Some (type_declared env q i (new_identity env s) x))))
          (both_ok (IsRegion p inst types shape_of Sees) (Has (key i) hidden) (hide env.local i).answer
          (hidden_known p inst types shape_of Sees env.local i st.place.regions.0) (hides_there env.local i))
          (λ region h. part_so (λ x. Definition x × Has (key i) hidden x.value.region) Made
          (defined (with_local env region) (one_type_more s) q (new_identity env s) d).answer
          (λ x. rule (Some (type_declared env q i (new_identity env s) x)))
          (both_ok Definition (λ x. Has (key i) hidden x.value.region) (defined (with_local env region) (one_type_more s) q (new_identity env s) d).answer
          (defined_known p facts has are inst shape_of types st.apart Sees (with_local env region)
          (local_known p inst types shape_of Sees env region st.place h.0) st.world (one_type_more s) q (new_identity env s) d written)
          (defined_has (key i) hidden (with_local env region) (one_type_more s) q (new_identity env s) d h.1))
          (λ x k. type_library q i x k.0 k.1))
      kind_library q (declares.Subtype i t) written =
          part_so (IsRegion p inst types shape_of Sees) Made (hide env.local i).answer
          (λ region. indicated (with_local env region) (one_type_more s) t >>= (λ x. rule (Some (subtype_declared i region (new_identity env s) x))))
          (hidden_known p inst types shape_of Sees env.local i st.place.regions.0)
          (λ region h. part_so (Indicated p facts has are inst shape_of types Sees env s st region h (one_type_more s)) Made
          (indicated (with_local env region) (one_type_more s) t).answer (λ x. rule (Some (subtype_declared i region (new_identity env s) x)))
          (indicated_known p facts has are inst types st.apart shape_of Sees (with_local env region)
          (local_known p inst types shape_of Sees env region st.place h) st.world (one_type_more s) t)
          (λ x k. subtype_library i region h x k))
      kind_library q (declares.Object is c t i) written =
          part_so (IsRegion p inst types shape_of Sees) Made (hide_all q env.local is).answer
          (λ region. indicated (with_local env region) s t >>= (λ x. objects_declared env q c region is x i))
          (all_hidden_known p inst types shape_of Sees q env.local is st.place.regions.0)
          (λ region h. part_so (Marked region h) Made (indicated (with_local env region) s t).answer (λ x. objects_declared env q c region is x i)
          (indicated_known p facts has are inst types st.apart shape_of Sees (with_local env region)
          (local_known p inst types shape_of Sees env region st.place h) st.world s t)
          (λ x k. objects_known q c region h is x i k))
      kind_library q (declares.Exception is) written =
          part_so (IsRegion p inst types shape_of Sees) Made (hide_all q env.local is).answer (λ region. rule (Some (exceptions_from env s region is)))
          (all_hidden_known p inst types shape_of Sees q env.local is st.place.regions.0)
          (λ region h. exceptions_library region is h)
      kind_library q (declares.Pragma a) written = λ all objects. record {
        new = [];
        own = tt;
        stands = stands_local p facts has are inst shape_of types Sees env s env.local st st.place.regions.0;
        formed = λ f. f;
        shown = tt;
      }

      -- a declaration of the library level
      pub library_known : (d : Declaration) → IsWritten d.kind → IfOk (declared env s d).answer Made
      library_known d written = answered Made d.pos (kind_declared env s d.pos d.kind).outcome (kind_library d.pos d.kind written)
