-- Specifications and declarations of packages decide nothing, and bodies number their decisions in turn.
use Rattle.std.proofs.Common.{◌≡◌, ◌+◌, ℕ, nat_eq, Bool, true, false, if◌then◌else◌, List, [], ◌∷◌, ◌++◌, map, reverse, Option, Some, None, option_map, IfSome, IfOk, refl, sym, ap, ◌∙◌, append-nil, append_assoc}
use mathlib.Core.List.{reverse-cons}
use Rattle.std.proofs.lemmas.Bool.{false≢true}
use Rattle.cov_base.specs.declared.position.Pos.{Pos}
use Rattle.ada_syntax.specs.Tree.{Name}
use Rattle.ada_syntax.specs.declared.declaration.Constancy.{Constancy}
use Rattle.ada_syntax.specs.declared.declaration.Declaration.{Declaration}
use Rattle.ada_syntax.specs.declared.declaration.DeclarationKind.{DeclarationKind}
use Rattle.ada_syntax.specs.declared.declaration.DeclarationKind.TheVariants as declares
use Rattle.ada_syntax.specs.declared.declaration.Initial.{Initial}
use Rattle.ada_syntax.specs.declared.name.Identifier.{Identifier}
use Rattle.ada_syntax.specs.declared.unit.BodyItem.{BodyItem}
use Rattle.ada_syntax.specs.declared.unit.BodyItem.TheVariants as item
use Rattle.ada_syntax.specs.declared.unit.PackageItem.{PackageItem}
use Rattle.ada_syntax.specs.declared.unit.PackageItem.TheVariants as part
use Rattle.ada_syntax.specs.declared.unit.Parameter.{Parameter as SourceParameter}
use Rattle.ada_syntax.specs.declared.unit.Specification.{Specification}
use Rattle.ada_syntax.specs.declared.unit.SubprogramBody.{SubprogramBody}
use Rattle.ada_meaning.specs.Collected.{in_block, decisions_of}
use Rattle.ada_meaning.specs.Program.{Mode, Subprogram}
use Rattle.ada_rules.specs.Plan.{Plan, Outcome, refused_in, broken, passed, ◌>>=◌, rule}
use Rattle.ada_rules.specs.Types.{AdaSubtype, range_in}
use Rattle.ada_rules.specs.Entities.{key, Entity, hidden, routine, Region, entity_of, redefined}
use Rattle.ada_rules.specs.Environment.{typing, typed_rule, State, beginning_state, Given, given, Env, with_local, opened, new_identity, one_type_more, exceeded, hide, hide_all}
use Rattle.ada_rules.specs.Expressions.{static_part, Marked, mark_part}
use Rattle.ada_rules.specs.Declarations.{in_range, innermost, initial_for, LibraryValue, known_value, library_value, indicated, defined, new_value, Declared, may_be_bare, one_name, known_constant, with_objects, local_bare, local_set, library_declared, no_library_value, objects_declared, exception_declared, exceptions_from, type_declared, subtype_declared, kind_declared, declared, all_declared}
use Rattle.ada_rules.specs.Statements.{Frame, block_of, all_handled}
use Rattle.ada_rules.specs.Subprograms.{mode_of, Profile, parameter_entity, parameters_for, parameter_objects, most_parameters, limited, parameters_judged, is_function_profile, with_result, result_judged, fresh, specified, declared_only, body_number, routine_of, subprogram_declared, to_complete, completed, conforming, closed_by, may_end, typed_parameters, body_made, inside_body, body_judged, with_routine, packaged_body}
use Rattle.ada_rules.specs.Units.{package_item, package_items, body_item, body_items}
use Rattle.legal_laws.proofs.Passing.{IfPassed, if_map, if_test, answered, ruled_so, part_so, both_ok, typed_either, any_answer}
use Rattle.legal_programs.specs.Deciding.{Decides, IsWholeRegion, IsWholeEnv}
use Rattle.legal_programs.specs.WholeWorld.{AreDecidedInTurn}
use Rattle.legal_programs.proofs.Adding.{Add, AddsOn, declarations_add, declaration_adds}
use Rattle.legal_programs.proofs.AddingStatements.{handled_add}
use Rattle.legal_programs.proofs.Deciding.{decides_none, decides_same, decides_joined, decides_as, decides_behind, decides_before}
use Rattle.legal_programs.proofs.DecidedParts.{Calm, constant_calm, static_calm, mark_calm, indicated_calm, defined_calm}
use Rattle.legal_programs.proofs.DecidedStatements.{DeclaresIn, declarations_decide, FrameAs, handled_decide, block_decided}
use Rattle.legal_programs.proofs.Extending.{specified_adds, subprogram_adds}
use Rattle.legal_programs.proofs.WholeRegions.{local_whole, opened_whole, hidden_whole, all_hidden_whole, redefined_whole, name_added, RegionWhole, declared_whole}

pub calm_both : (s t u : State) → Decides s [] t → Decides t [] u → Decides s [] u
calm_both s t u h k = decides_behind s t u [] h k

pub calm_same : (s t : State) → t.decisions ≡ s.decisions → t.excesses ≡ s.excesses → Decides s [] t
calm_same s t e f = decides_none s t e f

-- specifications: parameters are whole objects; where one is beyond the limit, a place is noted
pub calm_exceeded : (b : Bool) (p : Pos) (s : State) → Decides s [] (exceeded b p s)
calm_exceeded true p s = record { numbered = refl; next = (decides_same s).next; few = λ h. absurd (no_place p s.excesses h) }
  where
    no_place : (q : Pos) (ps : List Pos) → (q ∷ ps) ≡ [] → ⊥
    no_place q ps e = cc
calm_exceeded false p s = decides_same s

pub calm_limited : (n : ℕ) (is : List Identifier) (s : State) → Decides s [] (limited n is s)
calm_limited n [] s = decides_same s
calm_limited n (i ∷ is) s =
    calm_both s (exceeded (nat_eq n most_parameters) i.pos s) _ (calm_exceeded (nat_eq n most_parameters) i.pos s)
    (calm_limited (n + 1) is (exceeded (nat_eq n most_parameters) i.pos s))

pub parameter_objects_whole : (m : Mode) (t : AdaSubtype) (n : ℕ) (region : Region) (is : List Identifier) → IsWholeRegion region → IsWholeRegion (parameter_objects m t n region is)
parameter_objects_whole m t n region [] all = all
parameter_objects_whole m t n region (i ∷ is) all =
    parameter_objects_whole m t (n + 1) _ is (redefined_whole (key i) (parameter_entity n m t) region refl all)

abbrev pub with_parameters : SourceParameter → Given Marked → State
with_parameters q t = with_objects t.value.subtype q.names (limited t.next.objects q.names t.next)

-- nothing is decided, and the region is whole
abbrev pub Profiled : State → Given Profile → Type 0
Profiled s g = Decides s [] g.next × IsWholeRegion g.value.region

pub parameters_calm : (env : Env) → env.step ≡ typing → IsWholeEnv env → (s : State) (at : Pos) (qs : List SourceParameter)
    → IfOk (parameters_judged env s at qs).answer (Profiled s)
parameters_calm env step is s at [] = (decides_same s, is.regions.0)
parameters_calm env step is s at (q ∷ qs) =
    answered (Profiled s) at _
    (part_so IsWholeRegion (Profiled s) (hide_all at env.local q.names).answer
    (λ names. mark_part (with_local env names) s q.mark
    >>= (λ t. parameters_judged (with_local env (parameter_objects (mode_of q.mode) t.value.subtype t.next.objects names q.names)) (with_parameters q t) at qs
    >>= (λ rest. rule (Some (given (record { parameters = parameters_for (mode_of q.mode) t.value q.names ++ rest.value.parameters; result = None; region = rest.value.region }) rest.next)))))
    (all_hidden_whole at env.local q.names is.regions.0)
    (λ names u. part_so (Calm s) (Profiled s) (mark_part (with_local env names) s q.mark).answer
    (λ t. parameters_judged (with_local env (parameter_objects (mode_of q.mode) t.value.subtype t.next.objects names q.names)) (with_parameters q t) at qs
    >>= (λ rest. rule (Some (given (record { parameters = parameters_for (mode_of q.mode) t.value q.names ++ rest.value.parameters; result = None; region = rest.value.region }) rest.next))))
    (mark_calm (with_local env names) step (local_whole env names is u) s q.mark)
    (λ t h. part_so (Profiled (with_parameters q t)) (Profiled s)
    (parameters_judged (with_local env (parameter_objects (mode_of q.mode) t.value.subtype t.next.objects names q.names)) (with_parameters q t) at qs).answer
    (λ rest. rule (Some (given (record { parameters = parameters_for (mode_of q.mode) t.value q.names ++ rest.value.parameters; result = None; region = rest.value.region }) rest.next)))
    (parameters_calm (with_local env (parameter_objects (mode_of q.mode) t.value.subtype t.next.objects names q.names)) step
    (local_whole env _ is (parameter_objects_whole (mode_of q.mode) t.value.subtype t.next.objects names q.names u)) (with_parameters q t) at qs)
    (λ rest k. (
      calm_both s t.next rest.next h
          (calm_both t.next (limited t.next.objects q.names t.next) rest.next (calm_limited t.next.objects q.names t.next)
          (calm_both (limited t.next.objects q.names t.next) (with_parameters q t) rest.next
          (calm_same (limited t.next.objects q.names t.next) (with_parameters q t) refl refl) k.0)),
      k.1,
    )))))

pub result_calm : (env : Env) → env.step ≡ typing → IsWholeEnv env → (s : State) (q : Given Profile) (n : Option Name) → Profiled s q
    → IfPassed (result_judged env q n).outcome (Profiled s)
result_calm env step is s q None h = h
result_calm env step is s q (Some n) h =
    part_so (Calm q.next) (Profiled s) (mark_part (with_local env q.value.region) q.next n).answer
    (λ t. typed_rule env.step (with_result q t) (if is_function_profile q.value.parameters t.value then Some (with_result q t) else None))
    (mark_calm (with_local env q.value.region) step (local_whole env q.value.region is h.1) q.next n)
    (λ t k. let all : Profiled s (with_result q t) = (calm_both s q.next t.next h.0 k, h.1) in
    typed_either (Profiled s) env.step (with_result q t) _ all (if_test (Profiled s) (is_function_profile q.value.parameters t.value) _ (λ b. all)))

pub specified_calm : (env : Env) → env.step ≡ typing → IsWholeEnv env → (s : State) (x : Specification) → IfOk (specified env s x).answer (Profiled s)
specified_calm env step is s x =
    answered (Profiled s) x.pos _
    (part_so (Profiled (fresh s)) (Profiled s) (parameters_judged (opened env) (fresh s) x.pos x.parameters).answer
    (λ q. result_judged (opened env) q x.result_mark) (parameters_calm (opened env) step (opened_whole env is) (fresh s) x.pos x.parameters)
    (λ q h. result_calm (opened env) step (opened_whole env is) s q x.result_mark (calm_both s (fresh s) q.next (calm_same s (fresh s) refl refl) h.0, h.1)))

-- a region behind a construct that decides nothing
abbrev pub Quietly : State → Given Region → Type 0
Quietly s g = Decides s [] g.next × IsWholeRegion g.value

pub any_some : {X : Type 0} (o : Option X) → IfSome o (λ n. Unit {0})
any_some None = tt
any_some (Some n) = tt

pub subprogram_calm : (env : Env) → env.step ≡ typing → IsWholeEnv env → (s : State) (x : Specification) → IfOk (subprogram_declared env s x).answer (Quietly s)
subprogram_calm env step is s x =
    answered (Quietly s) x.pos _
    (part_so IsWholeRegion (Quietly s) (hide env.local x.name).answer
    (λ region. specified (with_local env region) s x
    >>= (λ q. rule (option_map (λ n. given (redefined (key x.name) (routine (routine_of env (key x.name) true q.value)) region) (declared_only s q.next))
    (body_number env.world env.unit_name (key x.name)))))
    (hidden_whole env.local x.name is.regions.0)
    (λ region u. part_so (Profiled s) (Quietly s) (specified (with_local env region) s x).answer
    (λ q. rule (option_map (λ n. given (redefined (key x.name) (routine (routine_of env (key x.name) true q.value)) region) (declared_only s q.next))
    (body_number env.world env.unit_name (key x.name))))
    (specified_calm (with_local env region) step (local_whole env region is u) s x)
    (λ q h. ruled_so (Quietly s) _
    (if_map (λ n. Unit {0}) (Quietly s) (λ n. given (redefined (key x.name) (routine (routine_of env (key x.name) true q.value)) region) (declared_only s q.next))
    (body_number env.world env.unit_name (key x.name)) (any_some (body_number env.world env.unit_name (key x.name)))
    (λ n v. (calm_both s q.next (declared_only s q.next) h.0 (calm_same q.next (declared_only s q.next) refl refl), redefined_whole (key x.name) _ region tt u))))))

-- declarations of the library level
pub at_library : {B : Type 0} (P : B → Type 0) (b : Bool) (o r : Plan B) → b ≡ true → IfPassed o.outcome P → IfPassed (if b then o else r).outcome P
at_library P true o r e h = h
at_library P false o r e h = absurd (false≢true e)

pub mapped_any : {A B : Type 0} (P : B → Type 0) (x : Option A) (y : B) → P y → IfSome (option_map (λ u. y) x) P
mapped_any P None y h = tt
mapped_any P (Some u) y h = h

abbrev pub CalmOn : State → Declared → Type 0
CalmOn s x = Decides s [] x.next

pub exceptions_calm : (env : Env) (s : State) (region : Region) (is : List Identifier) → CalmOn s (exceptions_from env s region is)
exceptions_calm env s region [] = decides_same s
exceptions_calm env s region (i ∷ is) =
    calm_both s (exception_declared env i s) _ (calm_same s (exception_declared env i s) refl refl) (exceptions_calm env (exception_declared env i s) _ is)

pub library_calm : (env : Env) (c : Constancy) (region : Region) (is : List Identifier) (t : AdaSubtype) (v : LibraryValue) (s u : State) → Decides s [] u
    → CalmOn s (library_declared env c region is t v u)
library_calm env c region is t v s u h =
    let k = known_constant env c t (λ e. Some e) v.known u in
    calm_both s u _ h (decides_before u k.next _ [] (constant_calm env c t (λ e. Some e) v.known u) refl refl)

module _ (env : Env) (step : env.step ≡ typing) (is : IsWholeEnv env) (library : env.is_library ≡ true) where
  value_calm : (region : Region) → IsWholeRegion region → (s : State) (q : Pos) (t : AdaSubtype) (i : Initial) → IfOk (library_value (with_local env region) s q t i).answer (Calm s)
  value_calm region h s q t i =
      answered (Calm s) _ _
      (part_so (Calm s) (Calm s) (static_part (with_local env region) s (λ k. true) (in_range (range_in (innermost t i.others))) i.value).answer
      (λ x. typed_rule env.step (given (record { initial = _; known = None }) x.next)
      (option_map (λ v. given (record { initial = v; known = known_value i.others x.value }) x.next) (initial_for t i.others x.value)))
      (static_calm (with_local env region) step (local_whole env region is h) s (λ k. true) (in_range (range_in (innermost t i.others))) i.value)
      (λ x k. typed_either (Calm s) env.step _ _ k
      (if_map (λ v. Unit {0}) (Calm s) (λ v. given (record { initial = v; known = known_value i.others x.value }) x.next) (initial_for t i.others x.value)
      (any_some (initial_for t i.others x.value)) (λ v u. k))))

  objects_calm : (q : Pos) (c : Constancy) (region : Region) (h : IsWholeRegion region) (names : List Identifier) (s : State) (t : Given AdaSubtype) (i : Option Initial)
      → Decides s [] t.next → IfPassed (objects_declared env q c region names t i).outcome (CalmOn s)
  objects_calm q c region h names s t None k =
      let all = library_calm env c region names t.value no_library_value s t.next k in
      at_library (CalmOn s) env.is_library
      (typed_rule env.step (library_declared env c region names t.value no_library_value t.next)
      (option_map (λ u. library_declared env c region names t.value no_library_value t.next) (may_be_bare c)))
      (typed_rule env.step (local_bare c region names t) (option_map (λ u. local_bare c region names t) (may_be_bare c))) library
      (typed_either (CalmOn s) env.step _ _ all (mapped_any (CalmOn s) (may_be_bare c) _ all))
  objects_calm q c region h names s t (Some i) k =
      at_library (CalmOn s) env.is_library
      (library_value (with_local env region) t.next q t.value i >>= (λ v. typed_rule env.step (library_declared env c region names t.value v.value v.next)
      (option_map (λ u. library_declared env c region names t.value v.value v.next) (one_name names))))
      (new_value (with_local env region) t.next q t.value i >>= (λ v. typed_rule env.step (local_set env q c region names t.value v)
      (option_map (λ u. local_set env q c region names t.value v) (one_name names)))) library
      (part_so (Calm t.next) (CalmOn s) (library_value (with_local env region) t.next q t.value i).answer
      (λ v. typed_rule env.step (library_declared env c region names t.value v.value v.next)
      (option_map (λ u. library_declared env c region names t.value v.value v.next) (one_name names)))
      (value_calm region h t.next q t.value i)
      (λ v l. let all = library_calm env c region names t.value v.value s v.next (calm_both s t.next v.next k l) in
      typed_either (CalmOn s) env.step _ _ all (mapped_any (CalmOn s) (one_name names) _ all)))

  kind_calm : (s : State) (q : Pos) (d : DeclarationKind) → IfPassed (kind_declared env s q d).outcome (CalmOn s)
  kind_calm s q (declares.Type i d) =
      part_so IsWholeRegion (CalmOn s) (hide env.local i).answer
      (λ region. defined (with_local env region) (one_type_more s) q (new_identity env s) d >>= (λ x. rule (Some (type_declared env q i (new_identity env s) x))))
      (hidden_whole env.local i is.regions.0)
      (λ region h. part_so (Calm (one_type_more s)) (CalmOn s) (defined (with_local env region) (one_type_more s) q (new_identity env s) d).answer
      (λ x. rule (Some (type_declared env q i (new_identity env s) x)))
      (defined_calm (with_local env region) step (local_whole env region is h) (one_type_more s) q (new_identity env s) d)
      (λ x k. decides_before s x.next _ [] (calm_both s (one_type_more s) x.next (calm_same s (one_type_more s) refl refl) k) refl refl))
  kind_calm s q (declares.Subtype i t) =
      part_so IsWholeRegion (CalmOn s) (hide env.local i).answer
      (λ region. indicated (with_local env region) (one_type_more s) t >>= (λ x. rule (Some (subtype_declared i region (new_identity env s) x))))
      (hidden_whole env.local i is.regions.0)
      (λ region h. part_so (Calm (one_type_more s)) (CalmOn s) (indicated (with_local env region) (one_type_more s) t).answer
      (λ x. rule (Some (subtype_declared i region (new_identity env s) x))) (indicated_calm (with_local env region) step (local_whole env region is h) (one_type_more s) t)
      (λ x k. calm_both s (one_type_more s) x.next (calm_same s (one_type_more s) refl refl) k))
  kind_calm s q (declares.Object names c t i) =
      part_so IsWholeRegion (CalmOn s) (hide_all q env.local names).answer
      (λ region. indicated (with_local env region) s t >>= (λ x. objects_declared env q c region names x i)) (all_hidden_whole q env.local names is.regions.0)
      (λ region h. part_so (Calm s) (CalmOn s) (indicated (with_local env region) s t).answer (λ x. objects_declared env q c region names x i)
      (indicated_calm (with_local env region) step (local_whole env region is h) s t) (λ x k. objects_calm q c region h names s x i k))
  kind_calm s q (declares.Exception names) =
      part_so (λ x. Unit {0}) (CalmOn s) (hide_all q env.local names).answer (λ region. rule (Some (exceptions_from env s region names)))
      (any_answer (hide_all q env.local names).answer) (λ region u. exceptions_calm env s region names)
  kind_calm s q (declares.Pragma a) = decides_same s

  declared_calm : (s : State) (d : Declaration) → IfOk (declared env s d).answer (CalmOn s)
  declared_calm s d = answered (CalmOn s) d.pos (kind_declared env s d.pos d.kind).outcome (kind_calm s d.pos d.kind)

-- items: subprograms stay what they are
abbrev pub Items : State → Given Region → Type 0
Items s g = (Decides s [] g.next × (g.next.subprograms ≡ s.subprograms)) × IsWholeRegion g.value

pub item_calm : (env : Env) (s : State) (i : PackageItem) → env.step ≡ typing → IsWholeEnv env → env.is_library ≡ true → IfPassed (package_item env s i).outcome (Items s)
item_calm env s (part.Declaration d) step is library =
    part_so (λ x. (CalmOn s x × AddsOn s x) × RegionWhole x) (Items s) (declared env s d).answer (λ x. rule (Some (given x.region x.next)))
    (both_ok (λ x. CalmOn s x × AddsOn s x) RegionWhole (declared env s d).answer
    (both_ok (CalmOn s) (AddsOn s) (declared env s d).answer (declared_calm env step is library s d) (declaration_adds env s d)) (declared_whole env s d is.regions.0))
    (λ x h. ((h.0.0, h.0.1.subprograms), h.1))
item_calm env s (part.Subprogram x) step is library =
    part_so (λ r. Quietly s r × Add s r) (Items s) (subprogram_declared env s x).answer (λ r. rule (Some r))
    (both_ok (Quietly s) (Add s) (subprogram_declared env s x).answer (subprogram_calm env step is s x) (subprogram_adds env s x))
    (λ r h. ((h.0.0, h.1.subprograms), h.0.1))

pub items_calm : (env : Env) (s : State) (p : Pos) (is : List PackageItem) → env.step ≡ typing → IsWholeEnv env → env.is_library ≡ true
    → IfOk (package_items env s p is).answer (Items s)
items_calm env s p [] step whole library = ((decides_same s, refl), whole.regions.0)
items_calm env s p (i ∷ is) step whole library =
    answered (Items s) p _
    (part_so (Items s) (Items s) _ (λ r. package_items (with_local env r.value) r.next p is >>= (λ rest. rule (Some rest)))
    (answered (Items s) p (package_item env s i).outcome (item_calm env s i step whole library))
    (λ r h. part_so (Items r.next) (Items s) (package_items (with_local env r.value) r.next p is).answer (λ rest. rule (Some rest))
    (items_calm (with_local env r.value) r.next p is step (local_whole env r.value whole h.1) library)
    (λ rest k. ((calm_both s r.next rest.next h.0.0 k.0.0, k.0.1 ∙ h.0.1), k.1))))

-- a body: its decisions follow those before
pub decisions_joined : (ss ts : List Subprogram) → decisions_of (ss ++ ts) ≡ (decisions_of ss ++ decisions_of ts)
decisions_joined [] ts = refl
decisions_joined (s ∷ ss) ts =
    ap (λ ds. in_block s.body ++ ds) (decisions_joined ss ts) ∙ sym (append_assoc (in_block s.body) (decisions_of ss) (decisions_of ts))

pub decisions_last : (s : Subprogram) (ss : List Subprogram) → decisions_of (reverse (s ∷ ss)) ≡ (decisions_of (reverse ss) ++ in_block s.body)
decisions_last s ss =
    ap decisions_of (reverse-cons s ss)
    ∙ (decisions_joined (reverse ss) (s ∷ []) ∙ ap (λ ds. decisions_of (reverse ss) ++ ds) (append-nil (in_block s.body)))

abbrev pub Turn : State → State → Type 0
Turn s t = AreDecidedInTurn s → AreDecidedInTurn t

pub turn_calm : (s t : State) → Decides s [] t → t.subprograms ≡ s.subprograms → Turn s t
turn_calm s t h e before =
    decides_as beginning_state t (decisions_of (reverse s.subprograms) ++ []) (decisions_of (reverse t.subprograms))
    (append-nil (decisions_of (reverse s.subprograms)) ∙ ap (λ ss. decisions_of (reverse ss)) (sym e))
    (decides_joined beginning_state s t (decisions_of (reverse s.subprograms)) [] before h)

pub turn_made : (s t : State) (m : Subprogram) → t.subprograms ≡ (m ∷ s.subprograms) → Decides s (in_block m.body) t → Turn s t
turn_made s t m e h before =
    decides_as beginning_state t (decisions_of (reverse s.subprograms) ++ in_block m.body) (decisions_of (reverse t.subprograms))
    (sym (ap (λ ss. decisions_of (reverse ss)) e ∙ decisions_last m s.subprograms))
    (decides_joined beginning_state s t (decisions_of (reverse s.subprograms)) (in_block m.body) before h)

module _ (env : Env) (step : env.step ≡ typing) (whole : IsWholeEnv env) (before : State) (b : SubprogramBody) (region : Region) (of_region : IsWholeRegion region) (name : List ℕ)
    (q : Given Profile) (calm : Profiled before q) (adds : Add before q) where
  abbrev inside : Env
  inside = inside_body env region name q.value

  abbrev made : Declared → Given Frame → State
  made x f = body_made env before q.value (block_of x.made f.value) f.next

  inside_whole : IsWholeEnv inside
  inside_whole =
      let outer = local_whole env region whole of_region in
      record { regions = (calm.1, outer.regions); own = outer.own; units = outer.units; test_io = outer.test_io }

  abbrev one_made : Declared → Given Frame → Subprogram
  one_made x f = record {
    generic = env.generic;
    parameters = typed_parameters 0 q.value.parameters;
    objects = map (λ w. w.subtype) (reverse f.next.words);
    body = block_of x.made f.value;
  }

  made_turn : (x : Declared) (f : Given Frame) → DeclaresIn q.next x × AddsOn q.next x → FrameAs x.next f × Add x.next f → Turn before (made x f)
  made_turn x f h k =
      turn_made before (made x f) (one_made x f) (ap (λ ss. one_made x f ∷ ss) (k.1.subprograms ∙ (h.1.subprograms ∙ adds.subprograms)))
      (decides_before before f.next (made x f) (in_block (block_of x.made f.value))
      (decides_behind before q.next f.next (in_block (block_of x.made f.value)) calm.0 (block_decided q.next x.next f.next x.made f.value h.0.0 k.0)) refl refl)

  pub judged_turn : IfOk (body_judged env before b region name q).answer (Turn before)
  judged_turn =
      answered (Turn before) b.specification.pos _
      (part_so (λ x. DeclaresIn q.next x × AddsOn q.next x) (Turn before) (all_declared inside q.next b.specification.pos b.declarations).answer
      (λ x. all_handled (with_local inside x.region) x.next b.specification.pos b.statements
      >>= (λ f. closed_by b.specification.pos b.specification.name b.end_name
      >>= (λ u. typed_rule env.step (made x f) (if may_end b q.value.result then Some (made x f) else None))))
      (both_ok (DeclaresIn q.next) (AddsOn q.next) (all_declared inside q.next b.specification.pos b.declarations).answer
      (declarations_decide inside q.next b.specification.pos b.declarations step inside_whole refl)
      (declarations_add inside q.next b.specification.pos b.declarations))
      (λ x h. part_so (λ f. FrameAs x.next f × Add x.next f) (Turn before) (all_handled (with_local inside x.region) x.next b.specification.pos b.statements).answer
      (λ f. closed_by b.specification.pos b.specification.name b.end_name
      >>= (λ u. typed_rule env.step (made x f) (if may_end b q.value.result then Some (made x f) else None)))
      (both_ok (FrameAs x.next) (Add x.next) (all_handled (with_local inside x.region) x.next b.specification.pos b.statements).answer
      (handled_decide (with_local inside x.region) x.next b.specification.pos b.statements step (local_whole inside x.region inside_whole h.0.1))
      (handled_add (with_local inside x.region) x.next b.specification.pos b.statements))
      (λ f k. part_so (λ u. Unit {0}) (Turn before) (closed_by b.specification.pos b.specification.name b.end_name).answer
      (λ u. typed_rule env.step (made x f) (if may_end b q.value.result then Some (made x f) else None))
      (any_answer (closed_by b.specification.pos b.specification.name b.end_name).answer)
      (λ u v. let all = made_turn x f h k in
      typed_either (Turn before) env.step (made x f) _ all (if_test (Turn before) (may_end b q.value.result) (Some (made x f)) (λ e. all))))))

-- a body in a package, and the region behind it
abbrev pub Bodies : State → Given Region → Type 0
Bodies s g = Turn s g.next × IsWholeRegion g.value

pub completed_whole : (region : Region) (i : Identifier) → IsWholeRegion region → IfOk (completed region i).answer IsWholeRegion
completed_whole region i all =
    answered IsWholeRegion i.pos (rule (to_complete region i (entity_of (key i) region))).outcome
    (ruled_so IsWholeRegion (to_complete region i (entity_of (key i) region)) (if_completed (entity_of (key i) region)))
  where
    if_completed : (o : Option Entity) → IfSome (to_complete region i o) IsWholeRegion
    if_completed None = name_added region i hidden all tt
    if_completed (Some (routine r)) = if_test IsWholeRegion r.awaits_body (Some region) (λ b. all)
    if_completed (Some x) = tt

module _ (env : Env) (step : env.step ≡ typing) (whole : IsWholeEnv env) (s : State) (b : SubprogramBody) where
  abbrev after_conforming : Region → Given Profile → Plan (Given Region)
  after_conforming region q =
      body_judged env s b (with_routine env region b.specification.name q.value) (key b.specification.name) q
      >>= (λ next. rule (Some (given (with_routine env region b.specification.name q.value) next)))

  abbrev after_specified : Region → Given Profile → Plan (Given Region)
  after_specified region q = conforming b.specification.pos region b.specification.name q.value >>= (λ fit. after_conforming region q)

  abbrev after_completed : Region → Plan (Given Region)
  after_completed region = specified (with_local env region) s b.specification >>= after_specified region

  pub packaged_turn : IfOk (packaged_body env s b).answer (Bodies s)
  packaged_turn =
      answered (Bodies s) b.specification.pos _
      (part_so IsWholeRegion (Bodies s) (completed env.local b.specification.name).answer after_completed
      (completed_whole env.local b.specification.name whole.regions.0)
      (λ region u. part_so (λ q. Profiled s q × Add s q) (Bodies s) (specified (with_local env region) s b.specification).answer (after_specified region)
      (both_ok (Profiled s) (Add s) (specified (with_local env region) s b.specification).answer
      (specified_calm (with_local env region) step (local_whole env region whole u) s b.specification) (specified_adds (with_local env region) s b.specification))
      (λ q h. part_so (λ v. Unit {0}) (Bodies s) (conforming b.specification.pos region b.specification.name q.value).answer
      (λ fit. after_conforming region q) (any_answer (conforming b.specification.pos region b.specification.name q.value).answer)
      (λ fit v. part_so (Turn s) (Bodies s)
      (body_judged env s b (with_routine env region b.specification.name q.value) (key b.specification.name) q).answer
      (λ next. rule (Some (given (with_routine env region b.specification.name q.value) next)))
      (judged_turn env step whole s b (with_routine env region b.specification.name q.value) (redefined_whole (key b.specification.name) _ region tt u)
      (key b.specification.name) q h.0 h.1)
      (λ next k. (k, redefined_whole (key b.specification.name) _ region tt u))))))

pub passed_weaker : {A : Type 0} (P Q : A → Type 0) (o : Outcome A) → IfPassed o P → ((x : A) → P x → Q x) → IfPassed o Q
passed_weaker P Q (refused_in p) h f = tt
passed_weaker P Q broken h f = tt
passed_weaker P Q (passed x) h f = f x h

pub body_item_turn : (env : Env) (s : State) (i : BodyItem) → env.step ≡ typing → IsWholeEnv env → env.is_library ≡ true → IfPassed (body_item env s i).outcome (Bodies s)
body_item_turn env s (item.Declared i) step whole library =
    passed_weaker (Items s) (Bodies s) (package_item env s i).outcome (item_calm env s i step whole library) (λ r h. (turn_calm s r.next h.0.0 h.0.1, h.1))
body_item_turn env s (item.Body b) step whole library =
    part_so (Bodies s) (Bodies s) (packaged_body env s b).answer (λ r. rule (Some r)) (packaged_turn env step whole s b) (λ r h. h)

pub body_items_turn : (env : Env) (s : State) (p : Pos) (is : List BodyItem) → env.step ≡ typing → IsWholeEnv env → env.is_library ≡ true
    → IfOk (body_items env s p is).answer (Bodies s)
body_items_turn env s p [] step whole library = (λ h. h, whole.regions.0)
body_items_turn env s p (i ∷ is) step whole library =
    answered (Bodies s) p _
    (part_so (Bodies s) (Bodies s) _ (λ r. body_items (with_local env r.value) r.next p is >>= (λ rest. rule (Some rest)))
    (answered (Bodies s) p (body_item env s i).outcome (body_item_turn env s i step whole library))
    (λ r h. part_so (Bodies r.next) (Bodies s) (body_items (with_local env r.value) r.next p is).answer (λ rest. rule (Some rest))
    (body_items_turn (with_local env r.value) r.next p is step (local_whole env r.value whole h.1) library)
    (λ rest k. (λ before. k.0 (h.0 before), k.1))))
