-- Marks that names lead to are marks of the regions round them: what holds of those holds of the parameters and the result of a specification.
use Rattle.std.proofs.Common.{◌≡◌, ◌+◌, ℕ, Bool, true, false, if◌then◌else◌, List, [], ◌∷◌, ◌++◌, Option, Some, None, IfSome, Result, Ok, Err, IfOk, refl, sym, ap, subst}
use Rattle.std.specs.Option.{option_or, option_and_then}
use Rattle.cov_base.specs.Lists.{Everywhere}
use Rattle.cov_base.specs.declared.position.Pos.{Pos}
use Rattle.ada_syntax.specs.Tree as source
use Rattle.ada_syntax.specs.Tree.{Name}
use Rattle.ada_syntax.specs.declared.name.Identifier.{Identifier}
use Rattle.ada_syntax.specs.declared.unit.Parameter.{Parameter as SourceParameter}
use Rattle.ada_syntax.specs.declared.unit.Specification.{Specification}
use Rattle.ada_meaning.specs.Program.{Mode}
use Rattle.ada_rules.specs.Plan.{◌>>=◌, rule}
use Rattle.ada_rules.specs.Types.{Identity, AdaSubtype, type_in, is_scalar}
use Rattle.ada_rules.specs.Entities.{key, same_name, Parameter, Entity, hidden, Region, entity_of, found, shown, is_new, redefined}
use Rattle.ada_rules.specs.Environment.{typed_rule, State, Given, given, Env, interface_of, with_local, opened, regions_of, with_name, hide, hide_all}
use Rattle.ada_rules.specs.Denoted.{Denoted, a_mark, a_value, a_variable, a_routine, a_call, an_exception, a_unit, the_test_io, a_thing}
use Rattle.ada_rules.specs.Expressions.{is_own, part_of_interface, part_of_unit, Marked, marked, mark_part}
use Rattle.ada_rules.specs.Declarations.{with_objects}
use Rattle.ada_rules.specs.Subprograms.{mode_of, Profile, parameter_entity, parameters_for, parameter_objects, limited, parameters_judged, is_function_profile, with_result, result_judged, fresh, specified}
use Rattle.std.specs.List.{list_all}
use Rattle.ada_rules.specs.Subprograms.{is_in}
use Rattle.legal_laws.proofs.Passing.{IfPassed, if_test, answered, ruled_so, part_so, typed_so, every_end, every_both, both_true}
use Rattle.legal_texts.specs.Marked as marks
use Rattle.legal_texts.specs.Leading.{lead_of, part_lead, lead}
use Rattle.legal_texts.proofs.Leads.{IsMarkOf, mark_leads}

module _ (P : Identity → AdaSubtype → Type 0) where
  abbrev pub IsMarked : Option Denoted → Type 0
  IsMarked o = marks.IsMarked P o

  abbrev pub IsMarkedEntity : Entity → Type 0
  IsMarkedEntity x = marks.IsMarkedEntity P x

  abbrev pub IsMarkedRegion : Region → Type 0
  IsMarkedRegion region = marks.IsMarkedRegion P region

  abbrev pub IsMarkedPlace : Env → Type 0
  IsMarkedPlace env = marks.IsMarkedPlace P env

  -- a parameter or a result that has such a mark
  pub record IsMarkedAs (r : Parameter) : Type 0 where
    pub identity : Identity
    pub is : r.mark ≡ Some identity
    pub so : P identity r.subtype

  abbrev IfMarked : Option Entity → Type 0
  IfMarked o = IsMarked (lead_of (shown o))

  entity_if : (b : Bool) (x : Entity) (o : Option Entity) → IsMarkedEntity x → IfMarked o → IfMarked (if b then Some x else o)
  entity_if true x o h k = h
  entity_if false x o h k = k

  pub entity_marked : (name : List ℕ) (region : Region) → IsMarkedRegion region → IfMarked (entity_of name region)
  entity_marked name [] all = tt
  entity_marked name (e ∷ es) all = entity_if (same_name name e.0) e.1 (entity_of name es) all.0 (entity_marked name es all.1)

  shown_lead : (o : Option Entity) → lead_of (shown o) ≡ lead_of o
  shown_lead None = refl
  shown_lead (Some hidden) = refl
  shown_lead (Some x) = refl

  pub declared_marked : (name : List ℕ) (region : Region) → IsMarkedRegion region → IsMarked (lead_of (entity_of name region))
  declared_marked name region all = subst IsMarked (shown_lead (entity_of name region)) (entity_marked name region all)

  or_marked : (o r : Option Entity) → IfMarked o → IfMarked r → IfMarked (option_or o r)
  or_marked None r h k = k
  or_marked (Some x) r h k = h

  found_marked : (name : List ℕ) (regions : List Region) → Everywhere IsMarkedRegion regions → IfMarked (found name regions)
  found_marked name [] all = tt
  found_marked name (r ∷ rs) all = or_marked (entity_of name r) (found name rs) (entity_marked name r all.0) (found_marked name rs all.1)

  -- a mark that is named
  pub record IsNamed (g : Given Marked) : Type 0 where
    pub identity : Identity
    pub is : g.value.identity ≡ Some identity
    pub so : P identity g.value.subtype

  module _ (env : Env) (shows : IsMarkedPlace env) where
    unit_marked : (n : ℕ) (name : List ℕ) → IsMarked (lead_of (part_of_unit env n name))
    unit_marked n name = either_way (is_own env.own_package n) (entity_of name env.own) (part_of_interface env.world name (interface_of env.world n))
        (entity_marked name env.own shows.own) (shows.units n name)
      where
        either_way : (b : Bool) (o r : Option Entity) → IfMarked o → IsMarked (lead_of r) → IsMarked (lead_of (if b then shown o else r))
        either_way true o r h k = h
        either_way false o r h k = k

    part_marked : (name : List ℕ) (d : Denoted) → IsMarked (part_lead env name d)
    part_marked name (a_unit n) = unit_marked n name
    part_marked name the_test_io = shows.test_io name
    part_marked name (a_mark i t) = tt
    part_marked name (a_value x) = tt
    part_marked name (a_variable v) = tt
    part_marked name (a_routine r) = tt
    part_marked name (a_call r actuals) = tt
    part_marked name (an_exception e) = tt
    part_marked name a_thing = tt

    lead_marked : (n : source.Name) → IsMarked (lead env n)
    lead_marked (source.simple i) = found_marked (key i) (regions_of env) shows.regions
    lead_marked (source.selected n i) = of_lead (lead env n)
      where
        of_lead : (o : Option Denoted) → IsMarked (option_and_then (part_lead env (key i)) o)
        of_lead None = tt
        of_lead (Some d) = part_marked (key i) d
    lead_marked (source.attribute n i) = tt
    lead_marked (source.applied n es) = tt

    of_mark : (o : Option Denoted) (g : Given Marked) → IsMarked o → option_and_then marked o ≡ Some g.value → IsNamed g
    of_mark None g h e = absurd (cc e)
    of_mark (Some (a_mark i t)) g h e =
        let same = ap (or_mark g.value) e in
        record { identity = i; is = ap (λ m. m.identity) (sym same); so = subst (P i) (ap (λ m. m.subtype) same) h }
      where
        or_mark : Marked → Option Marked → Marked
        or_mark m None = m
        or_mark m (Some k) = k
    of_mark (Some (a_value x)) g h e = absurd (cc e)
    of_mark (Some (a_variable v)) g h e = absurd (cc e)
    of_mark (Some (a_routine r)) g h e = absurd (cc e)
    of_mark (Some (a_call r actuals)) g h e = absurd (cc e)
    of_mark (Some (an_exception x)) g h e = absurd (cc e)
    of_mark (Some (a_unit n)) g h e = absurd (cc e)
    of_mark (Some the_test_io) g h e = absurd (cc e)
    of_mark (Some a_thing) g h e = absurd (cc e)

    pub mark_named : (s : State) (n : source.Name) → IfOk (mark_part env s n).answer IsNamed
    mark_named s n =
        weaker (mark_part env s n).answer (mark_leads env shows.step s n)
      where
        weaker : (r : Result (Given Marked) Pos) → IfOk r (IsMarkOf env shows.step n) → IfOk r IsNamed
        weaker (Ok g) h = of_mark (lead env n) g (lead_marked n) h
        weaker (Err p) h = tt

  -- regions
  named_marked : (region : Region) (i : Identifier) (x : Entity) → IsMarkedRegion region → IsMarkedEntity x → IfSome (with_name region i x) IsMarkedRegion
  named_marked region i x all h =
      if_test IsMarkedRegion (is_new region i) (Some (region ++ (key i, x) ∷ [])) (λ b. every_end (λ e. IsMarkedEntity e.1) region (key i, x) all h)

  pub hidden_marked : (region : Region) (i : Identifier) → IsMarkedRegion region → IfOk (hide region i).answer IsMarkedRegion
  hidden_marked region i all =
      answered IsMarkedRegion i.pos (rule (with_name region i hidden)).outcome (ruled_so IsMarkedRegion (with_name region i hidden) (named_marked region i hidden all tt))

  pub all_hidden_marked : (q : Pos) (region : Region) (is : List Identifier) → IsMarkedRegion region → IfOk (hide_all q region is).answer IsMarkedRegion
  all_hidden_marked q region [] all = all
  all_hidden_marked q region (i ∷ is) all =
      answered IsMarkedRegion q _
      (part_so IsMarkedRegion IsMarkedRegion (hide region i).answer (λ r. hide_all q r is >>= (λ rs. rule (Some rs))) (hidden_marked region i all)
      (λ r h. part_so IsMarkedRegion IsMarkedRegion (hide_all q r is).answer (λ rs. rule (Some rs)) (all_hidden_marked q r is h) (λ rs k. k)))

  redefined_if : (b : Bool) (e : List ℕ × Entity) (x : Entity) (es more : Region) → IsMarkedEntity x → IsMarkedRegion (e ∷ es) → IsMarkedRegion more
      → IsMarkedRegion (if b then (e.0, x) ∷ es else e ∷ more)
  redefined_if true e x es more h all rest = (h, all.1)
  redefined_if false e x es more h all rest = (all.0, rest)

  pub redefined_marked : (name : List ℕ) (x : Entity) (region : Region) → IsMarkedEntity x → IsMarkedRegion region → IsMarkedRegion (redefined name x region)
  redefined_marked name x [] h all = tt
  redefined_marked name x (e ∷ es) h all =
      redefined_if (same_name name e.0) e x es (redefined name x es) h all (redefined_marked name x es h all.1)

  parameters_marked : (m : Mode) (t : AdaSubtype) (n : ℕ) (region : Region) (is : List Identifier) → IsMarkedRegion region → IsMarkedRegion (parameter_objects m t n region is)
  parameters_marked m t n region [] all = all
  parameters_marked m t n region (i ∷ is) all =
      parameters_marked m t (n + 1) (redefined (key i) (parameter_entity n m t) region) is (redefined_marked (key i) (parameter_entity n m t) region tt all)

  own_if : (b : Bool) (region own : Region) → IsMarkedRegion region → IsMarkedRegion own → IsMarkedRegion (if b then region else own)
  own_if true region own h k = h
  own_if false region own h k = k

  pub local_marked : (env : Env) (region : Region) → IsMarkedPlace env → IsMarkedRegion region → IsMarkedPlace (with_local env region)
  local_marked env region is h = record {
    step = is.step;
    regions = (h, is.regions.1);
    own = own_if env.is_library region env.own h is.own;
    units = is.units;
    test_io = is.test_io;
  }

  pub opened_marked : (env : Env) → IsMarkedPlace env → IsMarkedPlace (opened env)
  opened_marked env is = record { step = is.step; regions = (tt, is.regions); own = is.own; units = is.units; test_io = is.test_io }

  -- parameters that are declared together
  named_all : (m : Mode) (t : Marked) (i : Identity) → t.identity ≡ Some i → P i t.subtype → (is : List Identifier) → Everywhere IsMarkedAs (parameters_for m t is)
  named_all m t i e h [] = tt
  named_all m t i e h (j ∷ is) = (record { identity = i; is = e; so = h }, named_all m t i e h is)

  abbrev with_parameters : SourceParameter → Given Marked → State
  with_parameters q t = with_objects t.value.subtype q.names (limited t.next.objects q.names t.next)

  pub record AreMarked (g : Given Profile) : Type 0 where
    pub parameters : Everywhere IsMarkedAs g.value.parameters
    pub bare : g.value.result ≡ None
    pub region : IsMarkedRegion g.value.region

  parameters_so : (env : Env) (s : State) (at : Pos) (qs : List SourceParameter) → IsMarkedPlace env → IfOk (parameters_judged env s at qs).answer AreMarked
  parameters_so env s at [] is = record { parameters = tt; bare = refl; region = is.regions.0 }
  parameters_so env s at (q ∷ qs) is =
      answered AreMarked at _
      (part_so IsMarkedRegion AreMarked (hide_all at env.local q.names).answer
      (λ names. mark_part (with_local env names) s q.mark
      >>= (λ t. parameters_judged (with_local env (parameter_objects (mode_of q.mode) t.value.subtype t.next.objects names q.names)) (with_parameters q t) at qs
      >>= (λ rest. rule (Some (given (record { parameters = parameters_for (mode_of q.mode) t.value q.names ++ rest.value.parameters; result = None; region = rest.value.region }) rest.next)))))
      (all_hidden_marked at env.local q.names is.regions.0)
      (λ names u. part_so IsNamed AreMarked (mark_part (with_local env names) s q.mark).answer
      (λ t. parameters_judged (with_local env (parameter_objects (mode_of q.mode) t.value.subtype t.next.objects names q.names)) (with_parameters q t) at qs
      >>= (λ rest. rule (Some (given (record { parameters = parameters_for (mode_of q.mode) t.value q.names ++ rest.value.parameters; result = None; region = rest.value.region }) rest.next))))
      (mark_named (with_local env names) (local_marked env names is u) s q.mark)
      (λ t h. part_so AreMarked AreMarked
      (parameters_judged (with_local env (parameter_objects (mode_of q.mode) t.value.subtype t.next.objects names q.names)) (with_parameters q t) at qs).answer
      (λ rest. rule (Some (given (record { parameters = parameters_for (mode_of q.mode) t.value q.names ++ rest.value.parameters; result = None; region = rest.value.region }) rest.next)))
      (parameters_so (with_local env (parameter_objects (mode_of q.mode) t.value.subtype t.next.objects names q.names)) (with_parameters q t) at qs
      (local_marked env _ is (parameters_marked (mode_of q.mode) t.value.subtype t.next.objects names q.names u)))
      (λ rest k. record {
        parameters = every_both IsMarkedAs (parameters_for (mode_of q.mode) t.value q.names) rest.value.parameters
            (named_all (mode_of q.mode) t.value h.identity h.is h.so q.names) k.parameters;
        bare = refl;
        region = k.region;
      }))))

  -- a function has a scalar result
  pub record IsMarkedProfile (q : Profile) : Type 0 where
    pub parameters : Everywhere IsMarkedAs q.parameters
    pub result : IfSome q.result (λ r. IsMarkedAs r × (is_scalar (type_in r.subtype) ≡ true))

  bare_result : (o : Option Parameter) → o ≡ None → IfSome o (λ r. IsMarkedAs r × (is_scalar (type_in r.subtype) ≡ true))
  bare_result None e = tt
  bare_result (Some r) e = absurd (cc e)

  abbrev Profiled : Given Profile → Type 0
  Profiled g = IsMarkedProfile g.value

  result_so : (env : Env) (q : Given Profile) (n : Option Name) → IsMarkedPlace env → AreMarked q → IfPassed (result_judged env q n).outcome Profiled
  result_so env q None is h = record { parameters = h.parameters; result = bare_result q.value.result h.bare }
  result_so env q (Some n) is h =
      part_so IsNamed Profiled (mark_part (with_local env q.value.region) q.next n).answer
      (λ t. typed_rule env.step (with_result q t) (if is_function_profile q.value.parameters t.value then Some (with_result q t) else None))
      (mark_named (with_local env q.value.region) (local_marked env q.value.region is h.region) q.next n)
      (λ t k. typed_so Profiled env.step (with_result q t) _ is.step
      (if_test Profiled (is_function_profile q.value.parameters t.value) (Some (with_result q t))
      (λ e. record {
        parameters = h.parameters;
        result = (
          record { identity = k.identity; is = k.is; so = k.so },
          (both_true (list_all (λ r. is_in r.mode) q.value.parameters) (is_scalar (type_in t.value.subtype)) e).1,
        );
      })))

  pub specified_marked : (env : Env) (s : State) (x : Specification) → IsMarkedPlace env → IfOk (specified env s x).answer Profiled
  specified_marked env s x is =
      answered Profiled x.pos _
      (part_so AreMarked Profiled (parameters_judged (opened env) (fresh s) x.pos x.parameters).answer (λ q. result_judged (opened env) q x.result_mark)
      (parameters_so (opened env) (fresh s) x.pos x.parameters (opened_marked env is))
      (λ q h. result_so (opened env) q x.result_mark (opened_marked env is) h))
