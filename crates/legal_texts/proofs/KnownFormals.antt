-- The formals of a generic are known in an instance by what the actuals of the instance give them.
use Rattle.std.proofs.Common.{◌≡◌, ◌<◌, ◌+◌, ℕ, Bool, true, false, if◌then◌else◌, List, [], ◌∷◌, ◌++◌, map, length, Option, Some, None, option_map, IfSome, Ok, IfOk, slice_get, refl, sym, ap, ◌∙◌, subst, arith, append_assoc, append-nil, length-append, inl, inr}
use Rattle.std.specs.Prelude.{◌⊎◌, is_none}
use Rattle.std.proofs.lemmas.Bool.{false≢true}
use Rattle.cov_base.specs.Lists.{Everywhere}
use Rattle.cov_base.specs.declared.position.Pos.{Pos}
use Rattle.ada_syntax.specs.Tree as source
use Rattle.ada_syntax.specs.declared.name.Identifier.{Identifier}
use Rattle.ada_syntax.specs.declared.unit.Formal.{Formal}
use Rattle.ada_syntax.specs.declared.unit.FormalKind.{FormalKind}
use Rattle.ada_syntax.specs.declared.unit.FormalKind.TheVariants as formal
use Rattle.ada_syntax.specs.declared.unit.Specification.{Specification}
use Rattle.ada_meaning.specs.Program.{Mode, in_mode, out_mode, in_out_mode, Target, Program}
use Rattle.ada_meaning.specs.Resolved.{ResolvedParameter, shape_in, target_in, parameters_of}
use Rattle.ada_meaning.specs.Seen.{range_seen}
use Rattle.ada_meaning.specs.Shape.{Shape}
use Rattle.ada_meaning.specs.Statics.{static_value, static_bounds, values_of}
use Rattle.ada_meaning.specs.Tree as tree
use Rattle.ada_meaning.specs.Types.{static_formal, formal_range}
use Rattle.ada_meaning.specs.WellFormed.{HasNumber}
use Rattle.ada_meaning.proofs.SeenShapes.{seen_shape}
use Rattle.ada_rules.specs.Entities.{key, same_name, Parameter, Routine, Entity, hidden, mark, formal_object, routine, Region, entity_of, is_new, redefined, Actual, object_actual, type_actual, routine_actual, given_type, type_seen, subtype_seen, parameter_seen}
use Rattle.ada_rules.specs.Environment.{State, Given, given, Env, owner_of, with_local, new_identity, one_type_more, with_name, hide}
use Rattle.ada_rules.specs.Expressions.{Marked, scalar_mark}
use Rattle.ada_rules.specs.Instances.{formal_mark, formal_type_declared, formal_routine, formal_declared, formals_declared, same_kind, same_kinds, same_results}
use Rattle.ada_rules.specs.Plan.{◌>>=◌, rule, construct, answer_at}
use Rattle.ada_rules.specs.Statics.{result_values}
use Rattle.ada_rules.specs.Subprograms.{Profile, same_mode, specified, declared_only}
use Rattle.ada_rules.specs.Types.{Identity, declared_in, AdaType, integer_type, enumeration, formal_type, array_type, record_type, AdaSubtype, of_type, identity_of, type_in, same_type, is_scalar, subtype_in_tree}
use Rattle.ada_rules.proofs.Seen.{subtype_in_instance}
use Rattle.legal_laws.specs.Kept.{OnlyDecides}
use Rattle.legal_laws.specs.Known.{AreAlikeTypes, IsKnownType, IsKnownSubtype, IsOfType, IsParameter, AreParameters, IsResult, IsRoutine, IsRegion}
use Rattle.legal_laws.specs.Standing.{with_type, with_types, Stands}
use Rattle.legal_laws.specs.Valued.{AreOrdered}
use Rattle.legal_laws.proofs.Identities.{apart_with, older_with, types_joined}
use Rattle.legal_laws.proofs.KeptExpressions.{scalar_mark_behind}
use Rattle.legal_laws.proofs.KnownExpressions.{scalar_mark_known}
use Rattle.legal_laws.proofs.KnownRegions.{hidden_known, redefined_known, local_known}
use Rattle.legal_laws.proofs.Passing.{IfPassed, both_true, if_test, answered, ruled_so, part_so, every_so, some_so, every_both, any_answer}
use Rattle.legal_laws.proofs.SeenEntities.{scalar_seen}
use Rattle.legal_laws.proofs.Wider.{region_wider, env_wider}
use Rattle.legal_programs.proofs.MainUnit.{name_same}
use Rattle.legal_programs.proofs.Passed.{of_ok, passed_part, passed_rule}
use Rattle.legal_texts.proofs.DeclaredTypes.{either_type}
use Rattle.legal_texts.proofs.GivenActuals.{IsGivenRoutine, Gives, GivesAt}
use Rattle.legal_texts.proofs.InterfaceWalk.{same_some}
use Rattle.legal_texts.proofs.KeptBodies.{IsShort, specified_short}
use Rattle.legal_texts.proofs.KnownMarks.{IsKnown, known_place}
use Rattle.legal_texts.proofs.LibraryItems.{IsOfUnit}
use Rattle.legal_texts.proofs.MarkedNames.{IsMarkedAs, IsMarkedProfile, specified_marked}

-- the formal with this place
abbrev pub IsFormal : ℕ → Entity → Type 0
IsFormal j (mark i (of_type (formal_type h m b) r)) = (m ≡ j) × (r ≡ formal_range j)
IsFormal j (formal_object t e) = e ≡ static_formal j
IsFormal j (routine r) = r.callee ≡ tree.formal_subprogram j
IsFormal j x = ⊥

-- the formals from a place on
abbrev pub AreFormals : ℕ → Region → Type 0
AreFormals j [] = Unit {0}
AreFormals j (e ∷ es) = IsFormal j e.1 × AreFormals (j + 1) es

-- a formal type of the text of a generic
pub record IsFormalType (env : Env) (t : AdaType) : Type 0 where
  pub number : ℕ
  pub place : ℕ
  pub integral : Bool
  pub is : t ≡ formal_type (declared_in (owner_of env) env.unit_number number) place integral

pub formal_of_unit : (env : Env) (t : AdaType) → IsFormalType env t → IsOfUnit env t
formal_of_unit env t h = record { number = h.number; is = ap identity_of h.is }

-- a name at the end of a region
pub redefined_last : (name : List ℕ) (x y : Entity) (region : Region) → is_none (entity_of name region) ≡ true
    → redefined name y (region ++ (name, x) ∷ []) ≡ (region ++ (name, y) ∷ [])
redefined_last name x y [] h = ap (λ b. if b then (name, y) ∷ [] else (name, x) ∷ []) (name_same name)
redefined_last name x y (e ∷ es) h = by_name (same_name name e.0) h (redefined_last name x y es)
  where
    by_name : (b : Bool) → is_none (if b then Some e.1 else entity_of name es) ≡ true
        → (is_none (entity_of name es) ≡ true → redefined name y (es ++ (name, x) ∷ []) ≡ (es ++ (name, y) ∷ []))
        → (if b then (e.0, y) ∷ (es ++ (name, x) ∷ []) else e ∷ redefined name y (es ++ (name, x) ∷ [])) ≡ (e ∷ (es ++ (name, y) ∷ []))
    by_name true g rest = absurd (cc g)
    by_name false g rest = ap (λ r. e ∷ r) (rest g)

-- a hidden name stands there
abbrev IsLast : Region → Identifier → Region → Type 0
IsLast region i after = (y : Entity) → redefined (key i) y after ≡ (region ++ (key i, y) ∷ [])

hidden_last : (region : Region) (i : Identifier) → IfOk (hide region i).answer (IsLast region i)
hidden_last region i =
    answered (IsLast region i) i.pos (rule (with_name region i hidden)).outcome
    (ruled_so (IsLast region i) (with_name region i hidden)
    (if_test (IsLast region i) (is_new region i) (Some (region ++ (key i, hidden) ∷ [])) (λ e y. redefined_last (key i) hidden y region e)))

-- a region with one entry more, and with several
record HasEntry (before after : Region) : Type 0 where
  entry : List ℕ × Entity
  is : after ≡ (before ++ entry ∷ [])

record IsFront (before after : Region) : Type 0 where
  more : Region
  is : after ≡ (before ++ more)

front_more : (before middle after : Region) → HasEntry before middle → IsFront middle after → IsFront before after
front_more before middle after h k = record {
  more = h.entry ∷ k.more;
  is = k.is ∙ (ap (λ r. r ++ k.more) h.is ∙ append_assoc before (h.entry ∷ []) k.more);
}

abbrev Enters : Region → Given Region → Type 0
Enters before g = HasEntry before g.value

abbrev Fronts : Region → Given Region → Type 0
Fronts before g = IsFront before g.value

type_entry : (env : Env) (s : State) (i : Identifier) (j : ℕ) (b : Bool) → IfPassed (formal_type_declared env s i j b).outcome (Enters env.local)
type_entry env s i j b =
    part_so (IsLast env.local i) (Enters env.local) (hide env.local i).answer
    (λ region. rule (Some (given (redefined (key i) (formal_mark (new_identity env s) j b) region) (one_type_more s)))) (hidden_last env.local i)
    (λ region h. record { entry = (key i, formal_mark (new_identity env s) j b); is = h (formal_mark (new_identity env s) j b) })

formal_entry : (env : Env) (s : State) (j : ℕ) (f : FormalKind) → IfPassed (formal_declared env s j f).outcome (Enters env.local)
formal_entry env s j (formal.DiscreteType i) = type_entry env s i j false
formal_entry env s j (formal.IntegerType i) = type_entry env s i j true
formal_entry env s j (formal.Object i m n) =
    part_so (IsLast env.local i) (Enters env.local) (hide env.local i).answer
    (λ region. scalar_mark (with_local env region) s n
    >>= (λ t. rule (Some (given (redefined (key i) (formal_object t.value.subtype (static_formal j)) region) t.next))))
    (hidden_last env.local i)
    (λ region h. part_so (λ t. Unit {0}) (Enters env.local) (scalar_mark (with_local env region) s n).answer
    (λ t. rule (Some (given (redefined (key i) (formal_object t.value.subtype (static_formal j)) region) t.next)))
    (any_answer (scalar_mark (with_local env region) s n).answer)
    (λ t u. record { entry = (key i, formal_object t.value.subtype (static_formal j)); is = h (formal_object t.value.subtype (static_formal j)) }))
formal_entry env s j (formal.Subprogram x) =
    part_so (IsLast env.local x.name) (Enters env.local) (hide env.local x.name).answer
    (λ region. specified (with_local env region) s x
    >>= (λ q. rule (Some (given (redefined (key x.name) (formal_routine j q.value) region) (declared_only s q.next)))))
    (hidden_last env.local x.name)
    (λ region h. part_so (λ q. Unit {0}) (Enters env.local) (specified (with_local env region) s x).answer
    (λ q. rule (Some (given (redefined (key x.name) (formal_routine j q.value) region) (declared_only s q.next))))
    (any_answer (specified (with_local env region) s x).answer)
    (λ q u. record { entry = (key x.name, formal_routine j q.value); is = h (formal_routine j q.value) }))

formals_front : (env : Env) (s : State) (q : Pos) (j : ℕ) (fs : List Formal) → IfOk (formals_declared env s q j fs).answer (Fronts env.local)
formals_front env s q j [] = record { more = []; is = sym (append-nil env.local) }
formals_front env s q j (f ∷ fs) =
    answered (Fronts env.local) q _
    (part_so (Enters env.local) (Fronts env.local) _ (λ region. formals_declared (with_local env region.value) region.next q (j + 1) fs >>= (λ rest. rule (Some rest)))
    (answered (Enters env.local) f.pos (formal_declared env s j f.kind).outcome (formal_entry env s j f.kind))
    (λ region h. part_so (Fronts region.value) (Fronts env.local) (formals_declared (with_local env region.value) region.next q (j + 1) fs).answer
    (λ rest. rule (Some rest)) (formals_front (with_local env region.value) region.next q (j + 1) fs)
    (λ rest k. front_more env.local region.value rest.value h k)))

-- the entry behind those before
entry_at : (before : Region) (e : List ℕ × Entity) (more : Region) → slice_get ((before ++ e ∷ []) ++ more) (length before) ≡ Some e
entry_at [] e more = refl
entry_at (d ∷ before) e more = entry_at before e more

-- the first of several formals
record IsFormalStep (env : Env) (s : State) (q : Pos) (j : ℕ) (f : Formal) (fs : List Formal) (g : Given Region) : Type 0 where
  first : Given Region
  is : answer_at f.pos (formal_declared env s j f.kind).outcome ≡ Ok first
  rest : (formals_declared (with_local env first.value) first.next q (j + 1) fs).answer ≡ Ok g

formal_step : (env : Env) (s : State) (q : Pos) (j : ℕ) (f : Formal) (fs : List Formal) (g : Given Region) → (formals_declared env s q j (f ∷ fs)).answer ≡ Ok g
    → IsFormalStep env s q j f fs g
formal_step env s q j f fs g h =
    let first = passed_part q (construct f.pos (formal_declared env s j f.kind)).answer
    (λ region. formals_declared (with_local env region.value) region.next q (j + 1) fs >>= (λ rest. rule (Some rest))) g h in
    let rest = passed_part q (formals_declared (with_local env first.value.value) first.value.next q (j + 1) fs).answer (λ r. rule (Some r)) g first.rest in
    record { first = first.value; is = first.is; rest = rest.is ∙ ap (λ r. Ok r) (same_some (passed_rule q (Some rest.value) g rest.rest)) }

same_modes : (a b : Mode) → same_mode a b ≡ true → a ≡ b
same_modes in_mode in_mode h = refl
same_modes out_mode out_mode h = refl
same_modes in_out_mode in_out_mode h = refl
same_modes a b h = absurd (false≢true h)

known_declared : (p : Program) (inst : ℕ) (types : AdaType → Type 0) (t : AdaType) → IsKnownType p inst types t → types t
known_declared p inst types (integer_type i) h = h
known_declared p inst types (enumeration i n) h = h
known_declared p inst types (formal_type i m b) h = h
known_declared p inst types (array_type i x c) h = h.0
known_declared p inst types (record_type i fs) h = h.0

-- what a formal subprogram is in the text of the generic
abbrev formal_called : ℕ → Profile → Routine
formal_called j q = record {
  callee = tree.formal_subprogram j;
  parameters = q.parameters;
  result = q.result;
  values = result_values j;
  awaits_body = false;
}

module _ (p : Program) (k : ℕ) (outside : AdaType → Type 0) (actuals : List Actual) where
  -- types of the generic's text, as they are seen behind some of the actuals, are alike with types outside where their identities are the same
  abbrev pub AreSeenAlike : (AdaType → Type 0) → Type 0
  AreSeenAlike types =
      (before after : List Actual) → actuals ≡ (before ++ after) → (t u : AdaType) → types t → outside u → same_type (type_seen k before t) u ≡ true
      → AreAlikeTypes p (type_seen k before t) u

  -- and so are the types that are given for formal ones
  abbrev pub AreGivenAlike : Type 0
  AreGivenAlike =
      (before after : List Actual) → actuals ≡ (before ++ after) → (m : ℕ) (u : AdaType) → outside u → same_type (given_type (slice_get before m)) u ≡ true
      → AreAlikeTypes p (given_type (slice_get before m)) u

  alike_more : (types : AdaType → Type 0) (env : Env) (new : List AdaType) → AreGivenAlike → AreSeenAlike types → Everywhere (IsFormalType env) new
      → AreSeenAlike (with_types types new)
  alike_more types env new of_given alike all before after is t u h out same = of_either (either_type types (IsFormalType env) new all t h)
    where
      of_either : types t ⊎ IsFormalType env t → AreAlikeTypes p (type_seen k before t) u
      of_either (inl old) = alike before after is t u old out same
      of_either (inr one) =
          subst (λ x. same_type (type_seen k before x) u ≡ true → AreAlikeTypes p (type_seen k before x) u) (sym one.is)
          (λ e. of_given before after is one.place u out e) same

  -- what actuals give
  ordered_given : (before : List Actual) (j : ℕ) (i : Identity) (t : AdaSubtype) (a : Actual) → Gives p outside k before j (mark i t) a
      → AreOrdered (static_bounds (values_of p) k (formal_range j))
  ordered_given before j i t (type_actual u) h = h.0
  ordered_given before j i t (object_actual x) h = absurd h
  ordered_given before j i t (routine_actual r) h = absurd h

  number_given : (before : List Actual) (j : ℕ) (t : AdaSubtype) (a : Actual) → Gives p outside k before j (formal_object t (static_formal j)) a
      → HasNumber (static_value (values_of p) k (static_formal j))
  number_given before j t (object_actual x) h = h
  number_given before j t (type_actual u) h = absurd h
  number_given before j t (routine_actual r) h = absurd h

  -- a subprogram that stands for a formal one, of types that are alike
  module _ (types : AdaType → Type 0) (before after : List Actual) (is : actuals ≡ (before ++ after)) (alike : AreSeenAlike types) where
    shape_through : (t : AdaSubtype) → shape_in p 0 (subtype_in_tree (subtype_seen k before t)) ≡ shape_in p k (subtype_in_tree t)
    shape_through t = ap (shape_in p 0) (subtype_in_instance k before t) ∙ seen_shape p 0 k (subtype_in_tree t)

    type_given : (s : Shape) (t u : AdaSubtype) → IsKnownSubtype p k types t → IsKnownSubtype p 0 outside u
        → same_type (type_in (subtype_seen k before t)) (type_in u) ≡ true → IsOfType p 0 outside s u → IsOfType p k types s t
    type_given s (of_type t r) (of_type u v) h g same fit =
        let like = alike before after is t u (known_declared p k types t h.1) (known_declared p 0 outside u g.1) same in (
          λ e. fit.0 (sym like.scalar ∙ (scalar_seen k before t ∙ e)),
          λ e.
              let shape = fit.1 (sym like.scalar ∙ (scalar_seen k before t ∙ e)) in
              (shape.0, shape.1 ∙ (sym (like.shape (scalar_seen k before t ∙ e) 0 (range_seen k r) v) ∙ shape_through (of_type t r))),
        )

    parameter_given : (q : ResolvedParameter) (t u : Parameter) → IsKnownSubtype p k types t.subtype → same_kind (parameter_seen k before t) u ≡ true
        → IsParameter p 0 outside q u → IsParameter p k types q t
    parameter_given q t u h same fit =
        let both = both_true (same_mode t.mode u.mode) (same_type (type_in (subtype_seen k before t.subtype)) (type_in u.subtype)) same in
        record {
          mode = fit.mode ∙ sym (same_modes t.mode u.mode both.0);
          type = type_given q.shape t.subtype u.subtype h fit.subtype both.1 fit.type;
          subtype = h;
        }

    parameters_given : (qs : List ResolvedParameter) (ts us : List Parameter) → Everywhere (λ t. IsKnownSubtype p k types t.subtype) ts
        → same_kinds (map (parameter_seen k before) ts) us ≡ true → AreParameters p 0 outside qs us → AreParameters p k types qs ts
    parameters_given [] [] [] h same fit = tt
    parameters_given [] [] (u ∷ us) h same fit = absurd fit
    parameters_given [] (t ∷ ts) [] h same fit = absurd (false≢true same)
    parameters_given [] (t ∷ ts) (u ∷ us) h same fit = absurd fit
    parameters_given (q ∷ qs) [] [] h same fit = absurd fit
    parameters_given (q ∷ qs) [] (u ∷ us) h same fit = absurd (false≢true same)
    parameters_given (q ∷ qs) (t ∷ ts) [] h same fit = absurd fit
    parameters_given (q ∷ qs) (t ∷ ts) (u ∷ us) h same fit =
        let both = both_true (same_kind (parameter_seen k before t) u) (same_kinds (map (parameter_seen k before) ts) us) same in
        (parameter_given q t u h.0 both.0 fit.0, parameters_given qs ts us h.1 both.1 fit.1)

    result_given : (t : Target) (o r : Option Parameter) → IfSome o (λ q. IsKnownSubtype p k types q.subtype)
        → same_results (option_map (parameter_seen k before) o) r ≡ true → IsResult p 0 outside t r → IsResult p k types t o
    result_given t None None h same fit = fit
    result_given t None (Some r) h same fit = absurd (false≢true same)
    result_given t (Some q) None h same fit = absurd (false≢true same)
    result_given t (Some q) (Some r) h same fit = (fit.0, h)

    called_given : (f r : Routine) → target_in p k f.callee ≡ target_in p 0 r.callee → IsGivenRoutine p outside k before f r
        → Everywhere (λ t. IsKnownSubtype p k types t.subtype) f.parameters → IfSome f.result (λ t. IsKnownSubtype p k types t.subtype) → IsRoutine p k types f
    called_given f r target has parameters result =
        let both = both_true (same_kinds (map (parameter_seen k before) f.parameters) r.parameters)
        (same_results (option_map (parameter_seen k before) f.result) r.result) has.same in
        record {
          parameters = subst (λ t. AreParameters p k types (parameters_of p t) f.parameters) (sym target)
              (parameters_given (parameters_of p (target_in p 0 r.callee)) f.parameters r.parameters parameters both.0 has.known.parameters);
          result = subst (λ t. IsResult p k types t f.result) (sym target) (result_given (target_in p 0 r.callee) f.result r.result result both.1 has.known.result);
        }

    routine_given : (j : ℕ) (q : Profile) (a : Actual) → Gives p outside k before j (formal_routine j q) a
        → Everywhere (λ t. IsKnownSubtype p k types t.subtype) q.parameters → IfSome q.result (λ t. IsKnownSubtype p k types t.subtype)
        → IsRoutine p k types (formal_called j q)
    routine_given j q (routine_actual r) h parameters result = called_given (formal_called j q) r h.0 h.1 parameters result
    routine_given j q (object_actual x) h parameters result = absurd h
    routine_given j q (type_actual u) h parameters result = absurd h

  module _ (shape_of : tree.Object → Shape) (Sees : tree.Object → Type 0) where
    abbrev Standing : (AdaType → Type 0) → Env → State → Type 0
    Standing types env s = Stands p k shape_of types Sees env s

    abbrev Regions : (AdaType → Type 0) → Region → Type 0
    Regions types region = IsRegion p k types shape_of Sees region

    -- one formal
    module _ (types : AdaType → Type 0) (env : Env) (s : State) (j : ℕ) (st : Standing types env s) where
      record IsFormalKnown (g : Given Region) : Type 0 where
        new : List AdaType
        own : Everywhere (IsFormalType env) new
        entry : List ℕ × Entity
        value : g.value ≡ (env.local ++ entry ∷ [])
        place : IsFormal j entry.1
        stands : Standing (with_types types new) (with_local env g.value) g.next
        words : g.next.words ≡ s.words
        objects : g.next.objects_declared ≡ s.objects_declared

      -- what is given for the entry that a region has more
      abbrev GivesEntry : Region → Type 0
      GivesEntry after = (e : List ℕ × Entity) → after ≡ (env.local ++ e ∷ []) → GivesAt p outside k actuals j e.1

      type_known : (q : Pos) (i : Identifier) (b : Bool) (g : Given Region) → answer_at q (formal_type_declared env s i j b).outcome ≡ Ok g → GivesEntry g.value
          → IsFormalKnown g
      type_known q i b g h gives =
          let entity = formal_mark (new_identity env s) j b in
          let u = formal_type (new_identity env s) j b in
          let hid = passed_part q (hide env.local i).answer (λ region. rule (Some (given (redefined (key i) entity region) (one_type_more s)))) g h in
          let region = hid.value in
          let is : given (redefined (key i) entity region) (one_type_more s) ≡ g =
          same_some (passed_rule q (Some (given (redefined (key i) entity region) (one_type_more s))) g hid.rest) in
          let there = of_ok (IsLast env.local i) (hide env.local i).answer region hid.is (hidden_last env.local i) entity in
          let known = of_ok (Regions types) (hide env.local i).answer region hid.is (hidden_known p k types shape_of Sees env.local i st.place.regions.0) in
          let given_here = gives (key i, entity) (ap (λ x. x.value) (sym is) ∙ there) in
          let ordered = ordered_given given_here.before j (new_identity env s) (of_type u (formal_range j)) given_here.actual given_here.gives in
          subst IsFormalKnown is (record {
            new = u ∷ [];
            own = (record { number = s.types; place = j; integral = b; is = refl }, tt);
            entry = (key i, entity);
            value = there;
            place = (refl, refl);
            stands = record {
              place = local_known p k (with_type types u) shape_of Sees env (redefined (key i) entity region)
                  (env_wider p k types (with_type types u) (λ t e. inl e) shape_of Sees Sees (λ o e. e) env st.place)
                  (redefined_known p k (with_type types u) shape_of Sees (key i) entity region (ordered, inr refl)
                  (region_wider p k types (with_type types u) (λ t e. inl e) shape_of Sees Sees (λ o e. e) region known));
              world = st.world;
              apart = apart_with types env s u refl st.older p st.apart;
              older = older_with types env s u refl st.older (one_type_more s) refl;
              counted = st.counted;
              alone = st.alone;
            };
            words = refl;
            objects = refl;
          })

      object_known : (q : Pos) (i : Identifier) (n : source.Name) (g : Given Region)
          → answer_at q (hide env.local i >>= (λ region. scalar_mark (with_local env region) s n
          >>= (λ t. rule (Some (given (redefined (key i) (formal_object t.value.subtype (static_formal j)) region) t.next))))).outcome ≡ Ok g
          → GivesEntry g.value → IsFormalKnown g
      object_known q i n g h gives =
          let hid = passed_part q (hide env.local i).answer
          (λ region. scalar_mark (with_local env region) s n
          >>= (λ t. rule (Some (given (redefined (key i) (formal_object t.value.subtype (static_formal j)) region) t.next)))) g h in
          let region = hid.value in
          let named = passed_part q (scalar_mark (with_local env region) s n).answer
          (λ t. rule (Some (given (redefined (key i) (formal_object t.value.subtype (static_formal j)) region) t.next))) g hid.rest in
          let t = named.value in
          let entity = formal_object t.value.subtype (static_formal j) in
          let is : given (redefined (key i) entity region) t.next ≡ g = same_some (passed_rule q (Some (given (redefined (key i) entity region) t.next)) g named.rest) in
          let there = of_ok (IsLast env.local i) (hide env.local i).answer region hid.is (hidden_last env.local i) entity in
          let known = of_ok (Regions types) (hide env.local i).answer region hid.is (hidden_known p k types shape_of Sees env.local i st.place.regions.0) in
          let place = local_known p k types shape_of Sees env region st.place known in
          let scalar = of_ok (λ (m : Given Marked). IsKnownSubtype p k types m.value.subtype × (is_scalar (type_in m.value.subtype) ≡ true))
          (scalar_mark (with_local env region) s n).answer t named.is (scalar_mark_known p k types st.apart shape_of Sees (with_local env region) place s n) in
          let only = of_ok (λ (m : Given Marked). OnlyDecides s m.next) (scalar_mark (with_local env region) s n).answer t named.is
          (scalar_mark_behind (with_local env region) s n) in
          let given_here = gives (key i, entity) (ap (λ x. x.value) (sym is) ∙ there) in
          let number = number_given given_here.before j t.value.subtype given_here.actual given_here.gives in
          subst IsFormalKnown is (record {
            new = [];
            own = tt;
            entry = (key i, entity);
            value = there;
            place = refl;
            stands = record {
              place = local_known p k types shape_of Sees env (redefined (key i) entity region) st.place
                  (redefined_known p k types shape_of Sees (key i) entity region (scalar.0, number) known);
              world = st.world;
              apart = st.apart;
              older = λ u m e f. subst (λ c. m < c) (sym (ap (λ x. x.types) only)) (st.older u m e f);
              counted = ap (λ x. x.objects) only ∙ st.counted ∙ sym (ap (λ x. length x.words) only);
              alone = st.alone;
            };
            words = ap (λ x. x.words) only;
            objects = ap (λ x. x.objects_declared) only;
          })

      routine_known : AreSeenAlike types → (q : Pos) (x : Specification) (g : Given Region)
          → answer_at q (hide env.local x.name >>= (λ region. specified (with_local env region) s x
          >>= (λ y. rule (Some (given (redefined (key x.name) (formal_routine j y.value) region) (declared_only s y.next)))))).outcome ≡ Ok g
          → GivesEntry g.value → IsFormalKnown g
      routine_known alike q x g h gives =
          let hid = passed_part q (hide env.local x.name).answer
          (λ region. specified (with_local env region) s x
          >>= (λ y. rule (Some (given (redefined (key x.name) (formal_routine j y.value) region) (declared_only s y.next))))) g h in
          let region = hid.value in
          let said = passed_part q (specified (with_local env region) s x).answer
          (λ y. rule (Some (given (redefined (key x.name) (formal_routine j y.value) region) (declared_only s y.next)))) g hid.rest in
          let y = said.value in
          let entity = formal_routine j y.value in
          let is : given (redefined (key x.name) entity region) (declared_only s y.next) ≡ g =
          same_some (passed_rule q (Some (given (redefined (key x.name) entity region) (declared_only s y.next))) g said.rest) in
          let there = of_ok (IsLast env.local x.name) (hide env.local x.name).answer region hid.is (hidden_last env.local x.name) entity in
          let known = of_ok (Regions types) (hide env.local x.name).answer region hid.is (hidden_known p k types shape_of Sees env.local x.name st.place.regions.0) in
          let place = local_known p k types shape_of Sees env region st.place known in
          let marked = of_ok (λ (f : Given Profile). IsMarkedProfile (IsKnown p k types shape_of Sees) f.value) (specified (with_local env region) s x).answer y said.is
          (specified_marked (IsKnown p k types shape_of Sees) (with_local env region) s x (known_place p k types shape_of Sees (with_local env region) place)) in
          let short = of_ok (IsShort s) (specified (with_local env region) s x).answer y said.is (specified_short (with_local env region) s x) in
          let given_here = gives (key x.name, entity) (ap (λ z. z.value) (sym is) ∙ there) in
          let callable = routine_given types given_here.before (given_here.actual ∷ given_here.after) given_here.is alike j y.value given_here.actual given_here.gives
          (every_so (IsMarkedAs (IsKnown p k types shape_of Sees)) (λ r. IsKnownSubtype p k types r.subtype) y.value.parameters (λ r m. m.so) marked.parameters)
          (some_so (λ r. IsMarkedAs (IsKnown p k types shape_of Sees) r × (is_scalar (type_in r.subtype) ≡ true)) (λ r. IsKnownSubtype p k types r.subtype) y.value.result
          (λ r m. m.0.so) marked.result) in
          subst IsFormalKnown is (record {
            new = [];
            own = tt;
            entry = (key x.name, entity);
            value = there;
            place = refl;
            stands = record {
              place = local_known p k types shape_of Sees env (redefined (key x.name) entity region) st.place
                  (redefined_known p k types shape_of Sees (key x.name) entity region callable known);
              world = st.world;
              apart = st.apart;
              older = λ u m e f. subst (λ c. m < c) (sym short.types) (st.older u m e f);
              counted = st.counted;
              alone = st.alone;
            };
            words = refl;
            objects = short.kept.objects refl;
          })

      formal_known : AreSeenAlike types → (q : Pos) (f : FormalKind) (g : Given Region) → answer_at q (formal_declared env s j f).outcome ≡ Ok g → GivesEntry g.value
          → IsFormalKnown g
      formal_known alike q (formal.DiscreteType i) g h gives = type_known q i false g h gives
      formal_known alike q (formal.IntegerType i) g h gives = type_known q i true g h gives
      formal_known alike q (formal.Object i m n) g h gives = object_known q i n g h gives
      formal_known alike q (formal.Subprogram x) g h gives = routine_known alike q x g h gives

    -- the region of the last formal is that of the first, too
    own_again : (b : Bool) (types : AdaType → Type 0) (first last own : Region) → Regions types (if b then last else (if b then first else own))
        → Regions types (if b then last else own)
    own_again true types first last own h = h
    own_again false types first last own h = h

    stands_again : (types : AdaType → Type 0) (env : Env) (first last : Region) (s : State) → Standing types (with_local (with_local env first) last) s
        → Standing types (with_local env last) s
    stands_again types env first last s st = record {
      place = record {
        step = st.place.step;
        integers = st.place.integers;
        booleans = st.place.booleans;
        regions = st.place.regions;
        own = own_again env.is_library types first last env.own st.place.own;
        units = st.place.units;
        test_io = st.place.test_io;
      };
      world = st.world;
      apart = st.apart;
      older = st.older;
      counted = st.counted;
      alone = st.alone;
    }

    -- formals from a place on
    pub record AreFormalsKnown (types : AdaType → Type 0) (env : Env) (s : State) (j : ℕ) (g : Given Region) : Type 0 where
      pub new : List AdaType
      pub own : Everywhere (IsFormalType env) new
      pub formals : Region
      pub value : g.value ≡ (env.local ++ formals)
      pub places : AreFormals j formals
      pub stands : Standing (with_types types new) (with_local env g.value) g.next
      pub words : g.next.words ≡ s.words
      pub objects : g.next.objects_declared ≡ s.objects_declared

    formals_joined : (types : AdaType → Type 0) (env : Env) (s : State) (j : ℕ) (st : Standing types env s) (first g : Given Region)
        → (h : IsFormalKnown types env s j st first) → AreFormalsKnown (with_types types h.new) (with_local env first.value) first.next (j + 1) g
        → AreFormalsKnown types env s j g
    formals_joined types env s j st first g h rest = record {
      new = h.new ++ rest.new;
      own = every_both (IsFormalType env) h.new rest.new h.own
          (every_so (IsFormalType (with_local env first.value)) (IsFormalType env) rest.new
          (λ t f. record { number = f.number; place = f.place; integral = f.integral; is = f.is }) rest.own);
      formals = h.entry ∷ rest.formals;
      value = rest.value ∙ (ap (λ r. r ++ rest.formals) h.value ∙ append_assoc env.local (h.entry ∷ []) rest.formals);
      places = (h.place, rest.places);
      stands = subst (λ ts. Standing ts (with_local env g.value) g.next) (sym (types_joined types h.new rest.new))
          (stands_again (with_types (with_types types h.new) rest.new) env first.value g.value g.next rest.stands);
      words = rest.words ∙ h.words;
      objects = rest.objects ∙ h.objects;
    }

    pub formals_known : AreGivenAlike → (types : AdaType → Type 0) (env : Env) (s : State) (q : Pos) (j : ℕ) (fs : List Formal) (g : Given Region)
        → (formals_declared env s q j fs).answer ≡ Ok g → AreSeenAlike types → Standing types env s → j ≡ length env.local
        → ((m : ℕ) (e : List ℕ × Entity) → slice_get g.value m ≡ Some e → GivesAt p outside k actuals m e.1) → AreFormalsKnown types env s j g
    formals_known of_given types env s q j [] g h alike st at gives =
        subst (AreFormalsKnown types env s j) (same_some (passed_rule q (Some (given env.local s)) g h))
        (record {
          new = [];
          own = tt;
          formals = [];
          value = sym (append-nil env.local);
          places = tt;
          stands = record {
            place = local_known p k types shape_of Sees env env.local st.place st.place.regions.0;
            world = st.world;
            apart = st.apart;
            older = st.older;
            counted = st.counted;
            alone = st.alone;
          };
          words = refl;
          objects = refl;
        })
    formals_known of_given types env s q j (f ∷ fs) g h alike st at gives =
        let step = formal_step env s q j f fs g h in
        let first = step.first in
        let front = of_ok (Fronts first.value) (formals_declared (with_local env first.value) first.next q (j + 1) fs).answer g step.rest
        (formals_front (with_local env first.value) first.next q (j + 1) fs) in
        let one = formal_known types env s j st alike f.pos f.kind first step.is
        (λ e is. gives j e (ap (λ r. slice_get r j) (front.is ∙ ap (λ r. r ++ front.more) is)
        ∙ (ap (slice_get ((env.local ++ e ∷ []) ++ front.more)) at ∙ entry_at env.local e front.more))) in
        let more : length first.value ≡ length env.local + 1 = ap length one.value ∙ length-append env.local (one.entry ∷ []) in
        formals_joined types env s j st first g one
        (formals_known of_given (with_types types one.new) (with_local env first.value) first.next q (j + 1) fs g step.rest
        (alike_more types env one.new of_given alike one.own) one.stands (omega (arith, at, more)) gives)
