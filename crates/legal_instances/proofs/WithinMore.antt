-- What looks no further than some constants looks no further than more.
use Rattle.std.proofs.Common.{◌≡◌, ◌≤◌, ℕ, Bool, true, false, List, [], ◌∷◌, Option, Some, is_some, sym, subst, if◌then◌else◌, arith}
use Rattle.ada_meaning.specs.Program.{GenericConstant}
use Rattle.ada_meaning.specs.Types.{Static, static_number, static_formal, static_constant, static_first, static_last, static_length, static_sign, static_operation, static_of, Range, between, formal_range, range_of}
use Rattle.ada_rules.specs.Entities.{Variable, Routine, Entity, hidden, mark, literal, object, formal_object, routine, raisable, component, test_io, unit, Region}
use Rattle.ada_rules.specs.Environment.{State, Env, regions_of, interface_of, with_local, opened, in_loop, in_handler}
use Rattle.ada_rules.specs.Expressions.{part_of_interface}
use Rattle.ada_rules.specs.Types.{AdaType, integer_type, enumeration, formal_type, array_type, record_type, AdaSubtype, of_type, Fields, no_field, and_field}
use Rattle.legal_laws.proofs.Passing.{every_so, some_so}
use Rattle.legal_instances.specs.Within.{Made, IsWithin, IsRangeWithin, AreConstantsWithin, IsTypeWithin, IsSubtypeWithin, AreFieldsWithin, IsVariableWithin, IsRoutineWithin, IsEntityWithin, IsRegionWithin, IsEnvWithin, IsHere, Goes, own_of}

-- no fewer instances, with no fewer constants
pub record IsMore (had more : Made) : Type 0 where
  pub made : (i : ℕ) → had.is_made i ≡ true → more.is_made i ≡ true
  pub counts : (i : ℕ) → had.count i ≤ more.count i

module _ (had more : Made) (grown : IsMore had more) where
  mutual
    pub within_more : (b c : Bool) → (b ≡ true → c ≡ true) → (n m : ℕ) → n ≤ m → (e : Static) → IsWithin had b n e → IsWithin more c m e
    within_more b c into n m less (static_number x) h = tt
    within_more b c into n m less (static_formal k) h = into h
    within_more b c into n m less (static_constant k) h = omega (arith, less, h)
    within_more b c into n m less (static_first r) h = range_more b c into n m less r h
    within_more b c into n m less (static_last r) h = range_more b c into n m less r h
    within_more b c into n m less (static_length r) h = range_more b c into n m less r h
    within_more b c into n m less (static_sign s e) h = within_more b c into n m less e h
    within_more b c into n m less (static_operation o e f) h = (within_more b c into n m less e h.0, within_more b c into n m less f h.1)
    within_more b c into n m less (static_of i e) h =
        (grown.made i h.0, within_more true true (λ t. t) (had.count i) (more.count i) (grown.counts i) e h.1)

    pub range_more : (b c : Bool) → (b ≡ true → c ≡ true) → (n m : ℕ) → n ≤ m → (r : Range) → IsRangeWithin had b n r → IsRangeWithin more c m r
    range_more b c into n m less (between e f) h = (within_more b c into n m less e h.0, within_more b c into n m less f h.1)
    range_more b c into n m less (formal_range k) h = into h
    range_more b c into n m less (range_of i r) h =
        (grown.made i h.0, range_more true true (λ t. t) (had.count i) (more.count i) (grown.counts i) r h.1)

  same_less : (n : ℕ) → n ≤ n
  same_less n = omega (arith)

  pub constants_more : (cs : List GenericConstant) → AreConstantsWithin had cs → AreConstantsWithin more cs
  constants_more [] h = tt
  constants_more (c ∷ cs) h = (
    (
      within_more true true (λ t. t) (own_of (Some c.generic) cs) (own_of (Some c.generic) cs) (same_less (own_of (Some c.generic) cs)) c.value h.0.0,
      range_more true true (λ t. t) (own_of (Some c.generic) cs) (own_of (Some c.generic) cs) (same_less (own_of (Some c.generic) cs)) c.range h.0.1,
    ),
    constants_more cs h.1,
  )

  module _ (b c : Bool) (into : b ≡ true → c ≡ true) (n m : ℕ) (less : n ≤ m) where
    mutual
      type_more : (t : AdaType) → IsTypeWithin had b n t → IsTypeWithin more c m t
      type_more (integer_type i) h = tt
      type_more (enumeration i k) h = tt
      type_more (formal_type i k x) h = into h
      type_more (array_type i x y) h = (subtype_more x h.0, subtype_more y h.1)
      type_more (record_type i fs) h = fields_more fs h

      pub subtype_more : (t : AdaSubtype) → IsSubtypeWithin had b n t → IsSubtypeWithin more c m t
      subtype_more (of_type t r) h = (range_more b c into n m less r h.0, type_more t h.1)

      fields_more : (fs : Fields) → AreFieldsWithin had b n fs → AreFieldsWithin more c m fs
      fields_more no_field h = tt
      fields_more (and_field name t fs) h = (subtype_more t h.0, fields_more fs h.1)

    pub variable_more : (v : Variable) → IsVariableWithin had b n v → IsVariableWithin more c m v
    variable_more v h = record {
      subtype = subtype_more v.subtype h.subtype;
      known = some_so (IsWithin had b n) (IsWithin more c m) v.known (λ e k. within_more b c into n m less e k) h.known;
    }

    pub routine_more : (r : Routine) → IsRoutineWithin had b n r → IsRoutineWithin more c m r
    routine_more r h = record {
      parameters = every_so (λ q. IsSubtypeWithin had b n q.subtype) (λ q. IsSubtypeWithin more c m q.subtype) r.parameters (λ q k. subtype_more q.subtype k) h.parameters;
      result = some_so (λ q. IsSubtypeWithin had b n q.subtype) (λ q. IsSubtypeWithin more c m q.subtype) r.result (λ q k. subtype_more q.subtype k) h.result;
    }

    pub entity_more : (x : Entity) → IsEntityWithin had b n x → IsEntityWithin more c m x
    entity_more hidden h = tt
    entity_more (mark i t) h = subtype_more t h
    entity_more (literal t x) h = type_more t h
    entity_more (object v) h = variable_more v h
    entity_more (formal_object t e) h = (subtype_more t h.0, within_more b c into n m less e h.1)
    entity_more (routine r) h = routine_more r h
    entity_more (raisable e) h = tt
    entity_more component h = tt
    entity_more test_io h = tt
    entity_more (unit k) h = tt

    pub region_more : (region : Region) → IsRegionWithin had b n region → IsRegionWithin more c m region
    region_more region h = every_so (λ e. IsEntityWithin had b n e.1) (λ e. IsEntityWithin more c m e.1) region (λ e k. entity_more e.1 k) h

    pub env_more : (env : Env) → IsEnvWithin had b n env → IsEnvWithin more c m env
    env_more env h = record {
      step = h.step;
      regions = every_so (λ r. IsRegionWithin had b n r) (λ r. IsRegionWithin more c m r) (regions_of env) (λ r k. region_more r k) h.regions;
      own_region = region_more env.own h.own_region;
      units = λ k name. some_so (IsEntityWithin had b n) (IsEntityWithin more c m) (part_of_interface env.world name (interface_of env.world k)) (λ x l. entity_more x l) (h.units k name);
      test_io = region_more env.world.standard.test_io_declarations h.test_io;
    }

-- the same constants that instances had
module _ (had : Made) where
  pub own_grown : IsMore had had
  own_grown = record { made = λ i h. h; counts = λ i. omega (arith) }

  pub subtype_on : (b : Bool) (n m : ℕ) → n ≤ m → (t : AdaSubtype) → IsSubtypeWithin had b n t → IsSubtypeWithin had b m t
  subtype_on b n m less t h = subtype_more had had own_grown b b (λ e. e) n m less t h

  pub within_on : (b : Bool) (n m : ℕ) → n ≤ m → (e : Static) → IsWithin had b n e → IsWithin had b m e
  within_on b n m less e h = within_more had had own_grown b b (λ f. f) n m less e h

  pub range_on : (b : Bool) (n m : ℕ) → n ≤ m → (r : Range) → IsRangeWithin had b n r → IsRangeWithin had b m r
  range_on b n m less r h = range_more had had own_grown b b (λ f. f) n m less r h

  pub region_on : (b : Bool) (n m : ℕ) → n ≤ m → (region : Region) → IsRegionWithin had b n region → IsRegionWithin had b m region
  region_on b n m less region h = region_more had had own_grown b b (λ e. e) n m less region h

  -- behind a construct
  pub goes_same : (o : Option ℕ) (s t : State) → t.constants_declared ≡ s.constants_declared → AreConstantsWithin had s.constants_declared → Goes had o s t
  goes_same o s t e h = record { constants = subst (AreConstantsWithin had) (sym e) h; more = subst (λ cs. own_of o s.constants_declared ≤ own_of o cs) (sym e) (omega (arith)) }

  pub goes_both : (o : Option ℕ) (s t u : State) → Goes had o s t → Goes had o t u → Goes had o s u
  goes_both o s t u h k = let first = h.more in let second = k.more in record { constants = k.constants; more = omega (arith, first, second) }

  pub here_next : (env : Env) (s t : State) → IsHere had env s → Goes had env.generic s t → IsHere had env t
  here_next env s t h k = record {
    place = env_more had had own_grown (is_some env.generic) (is_some env.generic) (λ e. e)
        (own_of env.generic s.constants_declared) (own_of env.generic t.constants_declared) k.more env h.place;
    constants = k.constants;
  }

  pub here_local : (env : Env) (s : State) (region : Region) → IsHere had env s
      → IsRegionWithin had (is_some env.generic) (own_of env.generic s.constants_declared) region → IsHere had (with_local env region) s
  here_local env s region h k = record {
    place = record {
      step = h.place.step;
      regions = (k, h.place.regions.1);
      own_region = either_region env.is_library;
      units = h.place.units;
      test_io = h.place.test_io;
    };
    constants = h.constants;
  }
    where
      either_region : (b : Bool) → IsRegionWithin had (is_some env.generic) (own_of env.generic s.constants_declared) (if b then region else env.own)
      either_region true = k
      either_region false = h.place.own_region

  pub here_opened : (env : Env) (s : State) → IsHere had env s → IsHere had (opened env) s
  here_opened env s h = record {
    place = record {
      step = h.place.step;
      regions = (tt, h.place.regions);
      own_region = h.place.own_region;
      units = h.place.units;
      test_io = h.place.test_io;
    };
    constants = h.constants;
  }

  pub here_loop : (env : Env) (s : State) → IsHere had env s → IsHere had (in_loop env) s
  here_loop env s h = record {
    place = record { step = h.place.step; regions = h.place.regions; own_region = h.place.own_region; units = h.place.units; test_io = h.place.test_io };
    constants = h.constants;
  }

  pub here_handler : (env : Env) (s : State) → IsHere had env s → IsHere had (in_handler env) s
  here_handler env s h = record {
    place = record { step = h.place.step; regions = h.place.regions; own_region = h.place.own_region; units = h.place.units; test_io = h.place.test_io };
    constants = h.constants;
  }
