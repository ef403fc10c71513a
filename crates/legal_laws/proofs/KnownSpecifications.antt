-- Specifications of subprograms in the step of types: parameters have the shapes of their subtypes, and a function its result.
use Rattle.std.proofs.Common.{◌≡◌, ◌+◌, ℕ, suc, nat_eq, true, if◌then◌else◌, List, [], ◌∷◌, ◌++◌, length, Option, Some, None, IfOk, refl, sym, ap, subst, arith, length-append}
use Rattle.std.specs.List.{list_all}
use Rattle.std.proofs.lemmas.Bool.{false≢true}
use Rattle.cov_base.specs.declared.position.Pos.{Pos}
use Rattle.cov_base.specs.Lists.{Everywhere}
use Rattle.ada_syntax.specs.Tree.{Name}
use Rattle.ada_syntax.specs.declared.name.Identifier.{Identifier}
use Rattle.ada_syntax.specs.declared.unit.Parameter.{Parameter as SourceParameter}
use Rattle.ada_syntax.specs.declared.unit.Specification.{Specification}
use Rattle.ada_meaning.specs.Declared.{object_shape}
use Rattle.ada_meaning.specs.Program.{Mode, in_mode, out_mode, in_out_mode, Subprogram, Program}
use Rattle.ada_meaning.specs.Shape.{Shape}
use Rattle.ada_meaning.specs.Tree as tree
use Rattle.ada_meaning.specs.WellFormed.{StartSees}
use Rattle.ada_rules.specs.Plan.{◌>>=◌, rule, outcome_after}
use Rattle.ada_rules.specs.Types.{AdaType, AdaSubtype, type_in, is_scalar}
use Rattle.ada_rules.specs.Entities.{key, Parameter, Region, redefined}
use Rattle.ada_rules.specs.Environment.{typed_rule, State, Given, given, Env, with_local, opened, exceeded, hide_all}
use Rattle.ada_rules.specs.Expressions.{Marked, mark_part}
use Rattle.ada_rules.specs.Declarations.{with_objects}
use Rattle.ada_rules.specs.Statics.{Facts}
use Rattle.ada_rules.specs.Subprograms.{mode_of, is_in, Profile, parameter_entity, parameters_for, parameter_objects, most_parameters, limited, parameters_judged, is_function_profile, with_result, result_judged, fresh, specified, returning_of}
use Rattle.legal_laws.specs.Kept.{OnlyDecides}
use Rattle.legal_laws.specs.Known.{AreApart, IsKnownSubtype, IsRegion, IsEnv}
use Rattle.legal_laws.specs.Served.{IsFinal}
use Rattle.legal_laws.specs.Standing.{ReturnsAs}
use Rattle.legal_laws.specs.Valued.{AreFactsInBase, HaveFacts}
use Rattle.legal_laws.proofs.Passing.{IfPassed, both_true, if_test, answered, part_so, typed_so, both_ok, each_ok, any_answer}
use Rattle.legal_laws.proofs.Giving.{returns_value}
use Rattle.legal_laws.proofs.KeptExpressions.{only_both, only_exceeded, mark_part_behind}
use Rattle.legal_laws.proofs.KnownBodies.{AreOfShape}
use Rattle.legal_laws.proofs.KnownExpressions.{mark_part_known}
use Rattle.legal_laws.proofs.KnownObjects.{HaveShape, AreSeen, counted_shapes}
use Rattle.legal_laws.proofs.KnownRegions.{all_hidden_known, redefined_known, local_known, opened_known}
use Rattle.legal_laws.proofs.KnownBounds.{known_bounded}
use Rattle.legal_laws.proofs.KnownTypes.{subtype_is_type}
use Rattle.legal_laws.proofs.Leading.{Leads, leads_same, leads_both, leads_decides, leads_objects}
use Rattle.legal_laws.proofs.TypedObjects.{AreTyped, Typed, counted_typed}

pub limited_decides : (n : ℕ) (is : List Identifier) (s : State) → OnlyDecides s (limited n is s)
limited_decides n [] s = refl
limited_decides n (i ∷ is) s =
    only_both s (exceeded (nat_eq n most_parameters) i.pos s) (limited (n + 1) is (exceeded (nat_eq n most_parameters) i.pos s)) (only_exceeded s (nat_eq n most_parameters) i.pos)
    (limited_decides (n + 1) is (exceeded (nat_eq n most_parameters) i.pos s))

pub named_count : (m : Mode) (t : Marked) (is : List Identifier) → length (parameters_for m t is) ≡ length is
named_count m t [] = refl
named_count m t (i ∷ is) = ap suc (named_count m t is)

is_in_mode : (m : Mode) → is_in m ≡ true → m ≡ in_mode
is_in_mode in_mode h = refl
is_in_mode out_mode h = absurd (false≢true h)
is_in_mode in_out_mode h = absurd (false≢true h)

all_in_mode : (qs : List Parameter) → list_all (λ q. is_in q.mode) qs ≡ true → Everywhere (λ q. q.mode ≡ in_mode) qs
all_in_mode [] h = tt
all_in_mode (q ∷ qs) h =
    let both = both_true (is_in q.mode) (list_all (λ q. is_in q.mode) qs) h in
    (is_in_mode q.mode both.0, all_in_mode qs both.1)

module _ (p : Program) (facts : List Facts) (has : HaveFacts p.instances facts) (are : Everywhere AreFactsInBase facts) (inst : ℕ) (sub : Subprogram) where
  abbrev shapes : tree.Object → Shape
  shapes o = object_shape p inst sub o

  abbrev Starts : tree.Object → Type 0
  Starts o = StartSees p inst sub o

  abbrev Go : Option ℕ → State → State → Type 0
  Go o s t = Leads p facts are inst shapes o s t

  abbrev Final : Option ℕ → State → Type 0
  Final o s = IsFinal facts inst p shapes o s

  abbrev OfShape : ℕ → List Parameter → Type 0
  OfShape n qs = AreOfShape p facts has are inst sub n qs

  abbrev pub AreVisible : ℕ → List Parameter → Type 0
  AreVisible n [] = Unit {0}
  AreVisible n (q ∷ qs) = Starts (tree.local_object n) × AreVisible (n + 1) qs

  -- parameters count as objects, in any step
  pub record AreCountedOn (o : Option ℕ) (s : State) (g : Given Profile) : Type 0 where
    pub leads : Go o s g.next
    pub numbered : g.next.objects ≡ s.objects + length g.value.parameters
    pub bare : g.value.result ≡ None

  -- with the objects of parameters that are declared together
  abbrev with_parameters : SourceParameter → Given Marked → State
  with_parameters q t = with_objects t.value.subtype q.names (limited t.next.objects q.names t.next)

  together : (o : Option ℕ) (s : State) (q : SourceParameter) (t : Given Marked) → OnlyDecides s t.next → Go o s (with_parameters q t)
  together o s q t only =
      leads_both p facts are inst shapes o s (limited t.next.objects q.names t.next) (with_parameters q t)
      (leads_decides p facts are inst shapes o s (limited t.next.objects q.names t.next)
      (only_both s t.next (limited t.next.objects q.names t.next) only (limited_decides t.next.objects q.names t.next)))
      (leads_objects p facts are inst shapes o t.value.subtype q.names (limited t.next.objects q.names t.next))

  counted_on : (o : Option ℕ) (s : State) (q : SourceParameter) (t : Given Marked) (rest : Given Profile) → OnlyDecides s t.next
      → AreCountedOn o (with_parameters q t) rest
      → AreCountedOn o s (given (record { parameters = parameters_for (mode_of q.mode) t.value q.names ++ rest.value.parameters; result = None; region = rest.value.region }) rest.next)
  counted_on o s q t rest only h =
      let first = ap (λ x. x.objects) only in
      let kept = ap (λ x. x.objects) (limited_decides t.next.objects q.names t.next) in
      let more = h.numbered in
      let both = length-append (parameters_for (mode_of q.mode) t.value q.names) rest.value.parameters in
      let named = named_count (mode_of q.mode) t.value q.names in
      record {
        leads = leads_both p facts are inst shapes o s (with_parameters q t) rest.next (together o s q t only) h.leads;
        numbered = omega (arith, first, kept, more, both, named);
        bare = refl;
      }

  pub parameters_counted : (env : Env) (s : State) (at : Pos) (qs : List SourceParameter) → IfOk (parameters_judged env s at qs).answer (AreCountedOn env.generic s)
  parameters_counted env s at [] = record { leads = leads_same p facts are inst shapes env.generic s; numbered = omega (arith); bare = refl }
  parameters_counted env s at (q ∷ qs) =
      answered (AreCountedOn env.generic s) at _
      (part_so (λ x. Unit {0}) (AreCountedOn env.generic s) (hide_all at env.local q.names).answer
      (λ names. mark_part (with_local env names) s q.mark
      >>= (λ t. parameters_judged (with_local env (parameter_objects (mode_of q.mode) t.value.subtype t.next.objects names q.names)) (with_parameters q t) at qs
      >>= (λ rest. rule (Some (given (record { parameters = parameters_for (mode_of q.mode) t.value q.names ++ rest.value.parameters; result = None; region = rest.value.region }) rest.next)))))
      (any_answer (hide_all at env.local q.names).answer)
      (λ names u. part_so (λ t. OnlyDecides s t.next) (AreCountedOn env.generic s) (mark_part (with_local env names) s q.mark).answer
      (λ t. parameters_judged (with_local env (parameter_objects (mode_of q.mode) t.value.subtype t.next.objects names q.names)) (with_parameters q t) at qs
      >>= (λ rest. rule (Some (given (record { parameters = parameters_for (mode_of q.mode) t.value q.names ++ rest.value.parameters; result = None; region = rest.value.region }) rest.next))))
      (mark_part_behind (with_local env names) s q.mark)
      (λ t only. part_so (AreCountedOn env.generic (with_parameters q t)) (AreCountedOn env.generic s)
      (parameters_judged (with_local env (parameter_objects (mode_of q.mode) t.value.subtype t.next.objects names q.names)) (with_parameters q t) at qs).answer
      (λ rest. rule (Some (given (record { parameters = parameters_for (mode_of q.mode) t.value q.names ++ rest.value.parameters; result = None; region = rest.value.region }) rest.next)))
      (parameters_counted (with_local env (parameter_objects (mode_of q.mode) t.value.subtype t.next.objects names q.names)) (with_parameters q t) at qs)
      (λ rest h. counted_on env.generic s q t rest only h))))

  module _ (types : AdaType → Type 0) (apart : AreApart p types) where
    abbrev Places : Env → Type 0
    Places env = IsEnv p inst types shapes Starts env

    abbrev Regions : Region → Type 0
    Regions region = IsRegion p inst types shapes Starts region

    abbrev KnownSubtype : AdaSubtype → Type 0
    KnownSubtype t = IsKnownSubtype p inst types t

    -- the region of parameters
    parameter_region : (m : Mode) (t : AdaSubtype) (n : ℕ) (region : Region) (is : List Identifier) → KnownSubtype t → AreSeen p inst shapes facts Starts n is
        → HaveShape p inst shapes facts t n is → Regions region → Regions (parameter_objects m t n region is)
    parameter_region m t n region [] known seen shape all = all
    parameter_region m t n region (i ∷ is) known seen shape all =
        parameter_region m t (n + 1) (redefined (key i) (parameter_entity n m t) region) is known seen.1 shape.1
        (redefined_known p inst types shapes Starts (key i) (parameter_entity n m t) region
        (record { visible = seen.0; parts = tt; shape = shape.0; subtype = known }) all)

    seen_of : (m : Mode) (t : Marked) (n k : ℕ) (is : List Identifier) (rest : List Parameter) → n + length is ≡ k → AreVisible n (parameters_for m t is ++ rest)
        → AreSeen p inst shapes facts Starts n is × AreVisible k rest
    seen_of m t n k [] rest e h = let same : n ≡ k = omega (arith, e) in (tt, subst (λ j. AreVisible j rest) same h)
    seen_of m t n k (i ∷ is) rest e h =
        let later = seen_of m t (n + 1) k is rest (omega (arith, e)) h.1 in
        ((h.0, later.0), later.1)

    shapes_joined : (m : Mode) (t : Marked) (n k : ℕ) (is : List Identifier) (rest : List Parameter) → n + length is ≡ k
        → HaveShape p inst shapes facts t.subtype n is → OfShape k rest → OfShape n (parameters_for m t is ++ rest)
    shapes_joined m t n k [] rest e h more = let same : k ≡ n = omega (arith, e) in subst (λ j. OfShape j rest) same more
    shapes_joined m t n k (i ∷ is) rest e h more = (h.0, shapes_joined m t (n + 1) k is rest (omega (arith, e)) h.1 more)

    subtypes_joined : (m : Mode) (t : Marked) (is : List Identifier) (rest : List Parameter) → KnownSubtype t.subtype → Everywhere (λ r. KnownSubtype r.subtype) rest
        → Everywhere (λ r. KnownSubtype r.subtype) (parameters_for m t is ++ rest)
    subtypes_joined m t [] rest known all = all
    subtypes_joined m t (i ∷ is) rest known all = (known, subtypes_joined m t is rest known all)

    pub record AreParametersOf (s : State) (g : Given Profile) : Type 0 where
      pub typed : Typed p facts has are inst shapes s g.next
      pub shapes_are : OfShape s.objects g.value.parameters
      pub region : Regions g.value.region
      pub subtypes : Everywhere (λ r. KnownSubtype r.subtype) g.value.parameters

    abbrev Knows : Option ℕ → State → Given Profile → Type 0
    Knows o s g = Final o g.next → AreVisible s.objects g.value.parameters → AreParametersOf s g

    abbrev First : SourceParameter → Given Marked → Type 0
    First q t = AreSeen p inst shapes facts Starts t.next.objects q.names × HaveShape p inst shapes facts t.value.subtype t.next.objects q.names

    parameters_joined : (o : Option ℕ) (s : State) (q : SourceParameter) (t : Given Marked) (rest : Given Profile) → s.objects ≡ length s.words → OnlyDecides s t.next
        → KnownSubtype t.value.subtype → AreCountedOn o (with_parameters q t) rest → (First q t → Knows o (with_parameters q t) rest)
        → Knows o s (given (record { parameters = parameters_for (mode_of q.mode) t.value q.names ++ rest.value.parameters; result = None; region = rest.value.region }) rest.next)
    parameters_joined o s q t rest counted only known later knows all visible =
        let go = together o s q t only in
        let marked = limited t.next.objects q.names t.next in
        let kept = only_both s t.next marked only (limited_decides t.next.objects q.names t.next) in
        let same = ap (λ x. x.objects) only in
        let still = ap (λ x. x.objects) (limited_decides t.next.objects q.names t.next) in
        let words = ap (λ x. length x.words) kept in
        let at_these = later.leads.back (go.counted counted) all in
        let count : t.next.objects ≡ length marked.words = omega (arith, counted, same, words) in
        let ends : s.objects + length q.names ≡ (with_parameters q t).objects = omega (arith, same, still) in
        let seen = seen_of (mode_of q.mode) t.value s.objects (with_parameters q t).objects q.names rest.value.parameters ends visible in
        let first = subst (λ n. AreSeen p inst shapes facts Starts n q.names) (sym same) seen.0 in
        let shape = (counted_shapes p inst shapes facts t.value.subtype q.names marked.words t.next.objects count at_these.shaped).shapes in
        let more = knows (first, shape) all seen.1 in
        record {
          typed = λ ws. more.typed (counted_typed p facts has are inst shapes t.value.subtype q.names marked.words
              (subtype_is_type p inst types apart t.value.subtype known, known_bounded p inst types t.value.subtype known)
              (subst (AreTyped p facts has are inst shapes) (sym (ap (λ x. x.words) kept)) ws));
          shapes_are = shapes_joined (mode_of q.mode) t.value s.objects (with_parameters q t).objects q.names rest.value.parameters ends
              (subst (λ n. HaveShape p inst shapes facts t.value.subtype n q.names) same shape) more.shapes_are;
          region = more.region;
          subtypes = subtypes_joined (mode_of q.mode) t.value q.names rest.value.parameters known more.subtypes;
        }

    pub parameters_known : (env : Env) (s : State) (at : Pos) (qs : List SourceParameter) → Places env → s.objects ≡ length s.words
        → IfOk (parameters_judged env s at qs).answer (Knows env.generic s)
    parameters_known env s at [] is counted = λ all visible. record { typed = λ ws. ws; shapes_are = tt; region = is.regions.0; subtypes = tt }
    parameters_known env s at (q ∷ qs) is counted =
        answered (Knows env.generic s) at _
        (part_so Regions (Knows env.generic s) (hide_all at env.local q.names).answer
        (λ names. mark_part (with_local env names) s q.mark
        >>= (λ t. parameters_judged (with_local env (parameter_objects (mode_of q.mode) t.value.subtype t.next.objects names q.names)) (with_parameters q t) at qs
        >>= (λ rest. rule (Some (given (record { parameters = parameters_for (mode_of q.mode) t.value q.names ++ rest.value.parameters; result = None; region = rest.value.region }) rest.next)))))
        (all_hidden_known p inst types shapes Starts at env.local q.names is.regions.0)
        (λ names u. part_so (λ t. OnlyDecides s t.next × KnownSubtype t.value.subtype) (Knows env.generic s) (mark_part (with_local env names) s q.mark).answer
        (λ t. parameters_judged (with_local env (parameter_objects (mode_of q.mode) t.value.subtype t.next.objects names q.names)) (with_parameters q t) at qs
        >>= (λ rest. rule (Some (given (record { parameters = parameters_for (mode_of q.mode) t.value q.names ++ rest.value.parameters; result = None; region = rest.value.region }) rest.next))))
        (both_ok (λ t. OnlyDecides s t.next) (λ t. KnownSubtype t.value.subtype) (mark_part (with_local env names) s q.mark).answer
        (mark_part_behind (with_local env names) s q.mark)
        (mark_part_known p inst types apart shapes Starts (with_local env names) (local_known p inst types shapes Starts env names is u) s q.mark))
        (λ t h. part_so (λ rest. AreCountedOn env.generic (with_parameters q t) rest × (First q t → Knows env.generic (with_parameters q t) rest)) (Knows env.generic s)
        (parameters_judged (with_local env (parameter_objects (mode_of q.mode) t.value.subtype t.next.objects names q.names)) (with_parameters q t) at qs).answer
        (λ rest. rule (Some (given (record { parameters = parameters_for (mode_of q.mode) t.value q.names ++ rest.value.parameters; result = None; region = rest.value.region }) rest.next)))
        (both_ok (AreCountedOn env.generic (with_parameters q t)) (λ rest. First q t → Knows env.generic (with_parameters q t) rest)
        (parameters_judged (with_local env (parameter_objects (mode_of q.mode) t.value.subtype t.next.objects names q.names)) (with_parameters q t) at qs).answer
        (parameters_counted (with_local env (parameter_objects (mode_of q.mode) t.value.subtype t.next.objects names q.names)) (with_parameters q t) at qs)
        (each_ok (λ (f : First q t) rest. Knows env.generic (with_parameters q t) rest)
        (parameters_judged (with_local env (parameter_objects (mode_of q.mode) t.value.subtype t.next.objects names q.names)) (with_parameters q t) at qs).answer
        (λ f. parameters_known (with_local env (parameter_objects (mode_of q.mode) t.value.subtype t.next.objects names q.names)) (with_parameters q t) at qs
        (local_known p inst types shapes Starts env _ is (parameter_region (mode_of q.mode) t.value.subtype t.next.objects names q.names h.1 f.0 f.1 u))
        ((together env.generic s q t h.0).counted counted))))
        (λ rest k. parameters_joined env.generic s q t rest counted h.0 h.1 k.0 k.1))))

    -- a whole specification, with its result
    pub record IsCountedProfile (o : Option ℕ) (s : State) (g : Given Profile) : Type 0 where
      pub leads : Go o (fresh s) g.next
      pub numbered : g.next.objects ≡ length g.value.parameters

    pub record IsProfileOf (g : Given Profile) : Type 0 where
      pub typed : AreTyped p facts has are inst shapes g.next.words
      pub shapes_are : OfShape 0 g.value.parameters
      pub region : Regions g.value.region
      pub subtypes : Everywhere (λ r. KnownSubtype r.subtype) g.value.parameters
      pub returns : ReturnsAs p inst types (returns_value (returning_of g.value.result)) (returning_of g.value.result)
      pub given : returns_value (returning_of g.value.result) ≡ true → Everywhere (λ r. r.mode ≡ in_mode) g.value.parameters

    abbrev pub Specifies : Option ℕ → State → Given Profile → Type 0
    Specifies o s g = IsCountedProfile o s g × (Final o g.next → AreVisible 0 g.value.parameters → IsProfileOf g)

    bare_returns : (o : Option Parameter) → o ≡ None → ReturnsAs p inst types (returns_value (returning_of o)) (returning_of o)
    bare_returns None e = refl
    bare_returns (Some r) e = absurd (cc e)

    bare_gives : {P : Type 0} (o : Option Parameter) → o ≡ None → returns_value (returning_of o) ≡ true → P
    bare_gives None e h = absurd (false≢true h)
    bare_gives (Some r) e h = absurd (cc e)

    abbrev Read : Option ℕ → State → Given Profile → Type 0
    Read o s q = AreCountedOn o (fresh s) q × Knows o (fresh s) q

    procedure_specified : (o : Option ℕ) (s : State) (q : Given Profile) → Read o s q → Specifies o s q
    procedure_specified o s q h =
        let count = h.0.numbered in (
          record { leads = h.0.leads; numbered = omega (arith, count) },
          λ all visible. let known = h.1 all visible in record {
            typed = known.typed tt;
            shapes_are = known.shapes_are;
            region = known.region;
            subtypes = known.subtypes;
            returns = bare_returns q.value.result h.0.bare;
            given = bare_gives q.value.result h.0.bare;
          },
        )

    function_specified : (o : Option ℕ) (s : State) (q : Given Profile) (t : Given Marked) → Read o s q → OnlyDecides q.next t.next
        → (Final o q.next × AreVisible 0 q.value.parameters → KnownSubtype t.value.subtype) → is_function_profile q.value.parameters t.value ≡ true
        → Specifies o s (with_result q t)
    function_specified o s q t h only known is =
        let go = leads_decides p facts are inst shapes o q.next t.next only in
        let same = ap (λ x. x.objects) only in
        let count = h.0.numbered in
        let both = both_true (list_all (λ r. is_in r.mode) q.value.parameters) (is_scalar (type_in t.value.subtype)) is in (
          record {
            leads = leads_both p facts are inst shapes o (fresh s) q.next t.next h.0.leads go;
            numbered = omega (arith, same, count);
          },
          λ all visible.
              let before = go.back (h.0.leads.counted refl) all in
              let these = h.1 before visible in
              record {
                typed = subst (AreTyped p facts has are inst shapes) (sym (ap (λ x. x.words) only)) (these.typed tt);
                shapes_are = these.shapes_are;
                region = these.region;
                subtypes = these.subtypes;
                returns = (refl, (both.1, known (before, visible)));
                given = λ g. all_in_mode q.value.parameters both.0;
              },
        )

    result_known : (env : Env) (s : State) (q : Given Profile) (n : Option Name) → Places env → Read env.generic s q
        → IfPassed (result_judged env q n).outcome (Specifies env.generic s)
    result_known env s q None is h = procedure_specified env.generic s q h
    result_known env s q (Some n) is h =
        part_so (λ t. OnlyDecides q.next t.next × (Final env.generic q.next × AreVisible 0 q.value.parameters → KnownSubtype t.value.subtype))
        (Specifies env.generic s) (mark_part (with_local env q.value.region) q.next n).answer
        (λ t. typed_rule env.step (with_result q t) (if is_function_profile q.value.parameters t.value then Some (with_result q t) else None))
        (both_ok (λ t. OnlyDecides q.next t.next) (λ t. Final env.generic q.next × AreVisible 0 q.value.parameters → KnownSubtype t.value.subtype)
        (mark_part (with_local env q.value.region) q.next n).answer (mark_part_behind (with_local env q.value.region) q.next n)
        (each_ok (λ (f : Final env.generic q.next × AreVisible 0 q.value.parameters) t. KnownSubtype t.value.subtype)
        (mark_part (with_local env q.value.region) q.next n).answer
        (λ f. mark_part_known p inst types apart shapes Starts (with_local env q.value.region)
        (local_known p inst types shapes Starts env q.value.region is (h.1 f.0 f.1).region) q.next n)))
        (λ t k. typed_so (Specifies env.generic s) env.step (with_result q t)
        (if is_function_profile q.value.parameters t.value then Some (with_result q t) else None) is.step
        (if_test (Specifies env.generic s) (is_function_profile q.value.parameters t.value) (Some (with_result q t))
        (λ e. function_specified env.generic s q t h k.0 k.1 e)))

    pub specified_known : (env : Env) (s : State) (x : Specification) → Places env → IfOk (specified env s x).answer (Specifies env.generic s)
    specified_known env s x is =
        answered (Specifies env.generic s) x.pos
        (outcome_after (parameters_judged (opened env) (fresh s) x.pos x.parameters).answer (λ q. result_judged (opened env) q x.result_mark))
        (part_so (Read env.generic s) (Specifies env.generic s) (parameters_judged (opened env) (fresh s) x.pos x.parameters).answer
        (λ q. result_judged (opened env) q x.result_mark)
        (both_ok (AreCountedOn env.generic (fresh s)) (Knows env.generic (fresh s)) (parameters_judged (opened env) (fresh s) x.pos x.parameters).answer
        (parameters_counted (opened env) (fresh s) x.pos x.parameters)
        (parameters_known (opened env) (fresh s) x.pos x.parameters (opened_known p inst types shapes Starts env is) refl))
        (λ q h. result_known (opened env) s q x.result_mark (opened_known p inst types shapes Starts env is) h))
