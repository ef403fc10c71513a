-- Declarations declare what looks statically no further than what was declared before.
use Rattle.std.proofs.Common.{◌≡◌, ◌+◌, ℕ, ℤ, Bool, true, false, if◌then◌else◌, List, [], ◌∷◌, ◌++◌, Option, Some, None, option_map, IfSome, IfOk, is_some, refl, subst}
use Rattle.std.specs.Prelude.{unwrap_or}
use Rattle.cov_base.specs.declared.position.Pos.{Pos}
use Rattle.ada_syntax.specs.declared.declaration.Constancy.{Constancy}
use Rattle.ada_syntax.specs.declared.declaration.Constancy.TheVariants as constancy
use Rattle.ada_syntax.specs.declared.declaration.Declaration.{Declaration}
use Rattle.ada_syntax.specs.declared.declaration.DeclarationKind.{DeclarationKind}
use Rattle.ada_syntax.specs.declared.declaration.DeclarationKind.TheVariants as declares
use Rattle.ada_syntax.specs.declared.declaration.Initial.{Initial}
use Rattle.ada_syntax.specs.declared.name.Identifier.{Identifier}
use Rattle.ada_meaning.specs.Tree as tree
use Rattle.ada_meaning.specs.Types.{Static, static_number, Range}
use Rattle.ada_rules.specs.Plan.{◌>>=◌, rule}
use Rattle.ada_rules.specs.Types.{AdaSubtype, range_in}
use Rattle.ada_rules.specs.Entities.{key, mark, raisable, Region, redefined}
use Rattle.ada_rules.specs.Environment.{typed_rule, State, Given, given, Env, with_local, owner_of, new_identity, one_type_more, hide, hide_all}
use Rattle.ada_rules.specs.Denoted.{Judged}
use Rattle.ada_rules.specs.Expressions.{itself, judged, Valued, value_named, entered_constant, static_part}
use Rattle.ada_rules.specs.Declarations.{in_range, indicated, defined, value_for, any_value, NewValue, known_of, value_place, new_value, innermost, initial_for, LibraryValue, known_value, library_value, Declared, may_be_bare, one_name, numbered, known_constant, without_value, lying_in, object_entity, local_objects, local_bare, local_set, library_entities, library_declared, no_library_value, objects_declared, exception_declared, exceptions_from, type_declared, subtype_declared, kind_declared, declared, all_declared}
use Rattle.legal_laws.proofs.Passing.{if_map, IfPassed, answered, part_so, typed_so}
use Rattle.legal_instances.specs.Within.{Made, IsWithin, IsRangeWithin, AreConstantsWithin, IsSubtypeWithin, IsEntityWithin, IsRegionWithin, IsHere, Goes, own_of}
use Rattle.legal_instances.proofs.WithinMore.{subtype_on, range_on, region_on, goes_same, goes_both, here_next, here_local}
use Rattle.legal_instances.proofs.WithinNames.{range_of_subtype}
use Rattle.legal_instances.proofs.WithinStatics.{GivesSo, gives_same, named_so, entered_so, Within, ValuedSo, SubtypeSo, JudgedSo, judged_so, static_so, indicated_so, hidden_so, all_hidden_so, redefined_so, DefinedSo, defined_so}

module _ (had : Made) where
  -- values of objects
  abbrev pub KnownSo : Option ℕ → ℕ → Option Static → Type 0
  KnownSo o n k = IfSome k (Within had o n)

  abbrev pub NewSo : Option ℕ → ℕ → NewValue → Type 0
  NewSo o n v = KnownSo o n v.known

  abbrev pub LibrarySo : Option ℕ → ℕ → LibraryValue → Type 0
  LibrarySo o n v = KnownSo o n v.known

  known_of_so : (o : Option ℕ) (n : ℕ) (ps : List Pos) (x : Judged) → JudgedSo had o n x → KnownSo o n (known_of ps x)
  known_of_so o n [] x h = h.known
  known_of_so o n (p ∷ ps) x h = tt

  any_of : {X : Type 0} (o : Option X) → IfSome o (λ x. Unit {0})
  any_of None = tt
  any_of (Some x) = tt

  pub new_value_so : (env : Env) (s : State) (q : Pos) (t : AdaSubtype) (i : Initial) → IsHere had env s → IfOk (new_value env s q t i).answer (GivesSo had env.generic (NewSo env.generic) s)
  new_value_so env s q t i here =
      answered (GivesSo had env.generic (NewSo env.generic) s) (value_place q t i.others) _
      (part_so (GivesSo had env.generic (JudgedSo had env.generic) s) (GivesSo had env.generic (NewSo env.generic) s) (judged env itself s i.value).answer
      (λ x. typed_rule env.step (given (record { value = any_value; known = None }) x.next)
      (option_map (λ v. given (record { value = v; known = known_of i.others x.value }) x.next) (value_for t i.others x.value)))
      (judged_so had env s i.value here)
      (λ x h. typed_so (GivesSo had env.generic (NewSo env.generic) s) env.step _ _ here.place.step
      (if_map (λ v. Unit {0}) (GivesSo had env.generic (NewSo env.generic) s) (λ v. given (record { value = v; known = known_of i.others x.value }) x.next) (value_for t i.others x.value)
      (any_of (value_for t i.others x.value))
      (λ v u. record { goes = h.goes; value = known_of_so env.generic (own_of env.generic x.next.constants_declared) i.others x.value h.value }))))

  known_value_so : (o : Option ℕ) (n : ℕ) (ps : List Pos) (v : Valued) → ValuedSo had o n v → KnownSo o n (known_value ps v)
  known_value_so o n [] v h = h.0
  known_value_so o n (p ∷ ps) v h = tt

  pub library_value_so : (env : Env) (s : State) (q : Pos) (t : AdaSubtype) (i : Initial) → IsHere had env s
      → IfOk (library_value env s q t i).answer (GivesSo had env.generic (LibrarySo env.generic) s)
  library_value_so env s q t i here =
      answered (GivesSo had env.generic (LibrarySo env.generic) s) (value_place q t i.others) _
      (part_so (GivesSo had env.generic (ValuedSo had env.generic) s) (GivesSo had env.generic (LibrarySo env.generic) s)
      (static_part env s (λ k. true) (in_range (range_in (innermost t i.others))) i.value).answer
      (λ x. typed_rule env.step (given no_library_value x.next)
      (option_map (λ v. given (record { initial = v; known = known_value i.others x.value }) x.next) (initial_for t i.others x.value)))
      (static_so had env s (λ k. true) (in_range (range_in (innermost t i.others))) i.value here)
      (λ x h. typed_so (GivesSo had env.generic (LibrarySo env.generic) s) env.step _ _ here.place.step
      (if_map (λ v. Unit {0}) (GivesSo had env.generic (LibrarySo env.generic) s) (λ v. given (record { initial = v; known = known_value i.others x.value }) x.next) (initial_for t i.others x.value)
      (any_of (initial_for t i.others x.value))
      (λ v u. record { goes = h.goes; value = known_value_so env.generic (own_of env.generic x.next.constants_declared) i.others x.value h.value }))))

  -- constants
  numbered_so : (o : Option ℕ) (r : Range) (e : Static) (f : Option Static) (s : State) → AreConstantsWithin had s.constants_declared
      → Within had o (own_of o s.constants_declared) e → IsRangeWithin had (is_some o) (own_of o s.constants_declared) r → (o ≡ None → KnownSo None 0 f)
      → GivesSo had o (KnownSo o) s (numbered o r e f s)
  numbered_so None r e f s all h k elsewhere = gives_same had None (KnownSo None) s (given f s) refl all (elsewhere refl)
  numbered_so (Some g) r e f s all h k elsewhere =
      let x = value_named g e s in
      let first = named_so had g e s all h in
      let c = entered_constant g r x.value x.next in
      let second = entered_so had g r x.value x.next first.goes.constants first.value
      (range_on had true (own_of (Some g) s.constants_declared) (own_of (Some g) x.next.constants_declared) first.goes.more r k) in
      record { goes = goes_both had (Some g) s x.next c.next first.goes second.goes; value = second.value }

  constant_so : (env : Env) (c : Constancy) (t : AdaSubtype) (f : Static → Option Static) (k : Option Static) (s : State) → AreConstantsWithin had s.constants_declared
      → KnownSo env.generic (own_of env.generic s.constants_declared) k → SubtypeSo had env.generic (own_of env.generic s.constants_declared) t
      → ((e : Static) → k ≡ Some e → env.generic ≡ None → KnownSo None 0 (f e))
      → GivesSo had env.generic (KnownSo env.generic) s (known_constant env c t f k s)
  constant_so env constancy.Constant t f (Some e) s all h known elsewhere =
      numbered_so env.generic (range_in t) e (f e) s all h (range_of_subtype had (is_some env.generic) (own_of env.generic s.constants_declared) t known) (elsewhere e refl)
  constant_so env constancy.Constant t f None s all h known elsewhere = gives_same had env.generic (KnownSo env.generic) s (given None s) refl all tt
  constant_so env constancy.Variable t f k s all h known elsewhere = gives_same had env.generic (KnownSo env.generic) s (given None s) refl all tt

  lying_so : (o : Option ℤ) → IsWithin had false 0 (unwrap_or (option_map static_number o) without_value)
  lying_so None = (tt, tt)
  lying_so (Some x) = tt

  -- objects
  entity_so : (b : Bool) (n : ℕ) (x : tree.Object) (c : Constancy) (t : AdaSubtype) (k : Option Static) → IsSubtypeWithin had b n t → IfSome k (IsWithin had b n)
      → IsEntityWithin had b n (object_entity x c t k)
  entity_so b n x c t k h g = record { subtype = h; known = g }

  locals_so : (b : Bool) (n : ℕ) (c : Constancy) (t : AdaSubtype) (k : Option Static) (m : ℕ) (region : Region) (is : List Identifier) → IsSubtypeWithin had b n t
      → IfSome k (IsWithin had b n) → IsRegionWithin had b n region → IsRegionWithin had b n (local_objects c t k m region is)
  locals_so b n c t k m region [] h g l = l
  locals_so b n c t k m region (i ∷ is) h g l =
      locals_so b n c t k (m + 1) (redefined (key i) (object_entity (tree.local_object m) c t k) region) is h g
      (redefined_so had b n (key i) (object_entity (tree.local_object m) c t k) region (entity_so b n (tree.local_object m) c t k h g) l)

  library_so : (b : Bool) (n : ℕ) (env : Env) (c : Constancy) (t : AdaSubtype) (k : Option Static) (m : ℕ) (region : Region) (is : List Identifier) → IsSubtypeWithin had b n t
      → IfSome k (IsWithin had b n) → IsRegionWithin had b n region → IsRegionWithin had b n (library_entities env c t k m region is)
  library_so b n env c t k m region [] h g l = l
  library_so b n env c t k m region (i ∷ is) h g l =
      library_so b n env c t k (m + 1) (redefined (key i) (object_entity (tree.library_object (owner_of env) m) c t k) region) is h g
      (redefined_so had b n (key i) (object_entity (tree.library_object (owner_of env) m) c t k) region (entity_so b n (tree.library_object (owner_of env) m) c t k h g) l)

  -- a declaration's result
  pub record DeclaredSo (o : Option ℕ) (s : State) (x : Declared) : Type 0 where
    pub goes : Goes had o s x.next
    pub region : IsRegionWithin had (is_some o) (own_of o x.next.constants_declared) x.region

  module _ (env : Env) where
    abbrev o : Option ℕ
    o = env.generic

    abbrev own : State → ℕ
    own s = own_of env.generic s.constants_declared

    abbrev RegionSo : State → Region → Type 0
    RegionSo s region = IsRegionWithin had (is_some env.generic) (own s) region

    region_later : (s t : State) (region : Region) → Goes had o s t → RegionSo s region → RegionSo t region
    region_later s t region h k = region_on had (is_some o) (own s) (own t) h.more region k

    bare_so : (s : State) (c : Constancy) (region : Region) (is : List Identifier) (t : Given AdaSubtype) → RegionSo s region → GivesSo had o (SubtypeSo had o) s t
        → DeclaredSo o s (local_bare c region is t)
    bare_so s c region is t h k = record {
      goes = record { constants = k.goes.constants; more = k.goes.more };
      region = locals_so (is_some o) (own t.next) c t.value None t.next.objects region is k.value tt (region_later s t.next region k.goes h);
    }

    set_so : (s : State) (q : Pos) (c : Constancy) (region : Region) (is : List Identifier) (t : Given AdaSubtype) (v : Given NewValue) → RegionSo s region
        → GivesSo had o (SubtypeSo had o) s t → GivesSo had o (NewSo o) t.next v → DeclaredSo o s (local_set env q c region is t.value v)
    set_so s q c region is t v h k l =
        let known = known_constant env c t.value (lying_in env t.value) v.value.known v.next in
        let type_there = subtype_on had (is_some o) (own t.next) (own v.next) l.goes.more t.value k.value in
        let so = constant_so env c t.value (lying_in env t.value) v.value.known v.next l.goes.constants l.value type_there (λ e same none. lying_so _) in
        let before = goes_both had o s t.next v.next k.goes l.goes in
        let all = goes_both had o s v.next known.next before so.goes in
        record {
          goes = record { constants = all.constants; more = all.more };
          region = locals_so (is_some o) (own known.next) c t.value known.value known.next.objects region is
              (subtype_on had (is_some o) (own v.next) (own known.next) so.goes.more t.value type_there) so.value (region_later s known.next region all h);
        }

    set_library_so : (s : State) (c : Constancy) (region : Region) (is : List Identifier) (t : Given AdaSubtype) (v : Given LibraryValue) → RegionSo s region
        → GivesSo had o (SubtypeSo had o) s t → GivesSo had o (LibrarySo o) t.next v → DeclaredSo o s (library_declared env c region is t.value v.value v.next)
    set_library_so s c region is t v h k l =
        let known = known_constant env c t.value (λ e. Some e) v.value.known v.next in
        let type_there = subtype_on had (is_some o) (own t.next) (own v.next) l.goes.more t.value k.value in
        let so = constant_so env c t.value (λ e. Some e) v.value.known v.next l.goes.constants l.value type_there
        (λ e same none. closed_there e none (subst (λ x. KnownSo o (own v.next) x) same l.value)) in
        let before = goes_both had o s t.next v.next k.goes l.goes in
        let all = goes_both had o s v.next known.next before so.goes in
        record {
          goes = record { constants = all.constants; more = all.more };
          region = library_so (is_some o) (own known.next) env c t.value known.value known.next.library_objects region is
              (subtype_on had (is_some o) (own v.next) (own known.next) so.goes.more t.value type_there) so.value (region_later s known.next region all h);
        }
      where
        closed_there : (e : Static) → env.generic ≡ None → Within had env.generic (own_of env.generic v.next.constants_declared) e → IsWithin had false 0 e
        closed_there e none k = subst (λ g. Within had g (own_of g v.next.constants_declared) e) none k

    may_so : {X : Type 0} (P : X → Type 0) (x : X) (u : Option Unit) → P x → IfSome (option_map (λ v. x) u) P
    may_so P x None h = tt
    may_so P x (Some v) h = h

    objects_so : (s : State) (q : Pos) (c : Constancy) (region : Region) (is : List Identifier) (t : Given AdaSubtype) (i : Option Initial) → IsHere had env s → RegionSo s region
        → GivesSo had o (SubtypeSo had o) s t → IfPassed (objects_declared env q c region is t i).outcome (DeclaredSo o s)
    objects_so s q c region is t None here h k = by_level env.is_library
      where
        library_none : DeclaredSo o s (library_declared env c region is t.value no_library_value t.next)
        library_none =
            set_library_so s c region is t (given no_library_value t.next) h k
            (gives_same had o (LibrarySo o) t.next (given no_library_value t.next) refl k.goes.constants tt)

        by_level : (b : Bool) → IfPassed (if b
            then typed_rule env.step (library_declared env c region is t.value no_library_value t.next)
            (option_map (λ u. library_declared env c region is t.value no_library_value t.next) (may_be_bare c))
            else typed_rule env.step (local_bare c region is t) (option_map (λ u. local_bare c region is t) (may_be_bare c))).outcome (DeclaredSo o s)
        by_level true =
            typed_so (DeclaredSo o s) env.step _ _ here.place.step
            (may_so (DeclaredSo o s) (library_declared env c region is t.value no_library_value t.next) (may_be_bare c) library_none)
        by_level false =
            typed_so (DeclaredSo o s) env.step _ _ here.place.step (may_so (DeclaredSo o s) (local_bare c region is t) (may_be_bare c) (bare_so s c region is t h k))
    objects_so s q c region is t (Some i) here h k = by_level env.is_library
      where
        here_then : IsHere had (with_local env region) t.next
        here_then = here_local had env t.next region (here_next had env s t.next here k.goes) (region_later s t.next region k.goes h)

        by_level : (b : Bool) → IfPassed (if b
            then library_value (with_local env region) t.next q t.value i >>= (λ v.
            typed_rule env.step (library_declared env c region is t.value v.value v.next)
            (option_map (λ u. library_declared env c region is t.value v.value v.next) (one_name is)))
            else new_value (with_local env region) t.next q t.value i >>= (λ v.
            typed_rule env.step (local_set env q c region is t.value v) (option_map (λ u. local_set env q c region is t.value v) (one_name is)))).outcome (DeclaredSo o s)
        by_level true =
            part_so (GivesSo had o (LibrarySo o) t.next) (DeclaredSo o s) (library_value (with_local env region) t.next q t.value i).answer
            (λ v. typed_rule env.step (library_declared env c region is t.value v.value v.next)
            (option_map (λ u. library_declared env c region is t.value v.value v.next) (one_name is)))
            (library_value_so (with_local env region) t.next q t.value i here_then)
            (λ v l. typed_so (DeclaredSo o s) env.step _ _ here.place.step
            (may_so (DeclaredSo o s) (library_declared env c region is t.value v.value v.next) (one_name is) (set_library_so s c region is t v h k l)))
        by_level false =
            part_so (GivesSo had o (NewSo o) t.next) (DeclaredSo o s) (new_value (with_local env region) t.next q t.value i).answer
            (λ v. typed_rule env.step (local_set env q c region is t.value v) (option_map (λ u. local_set env q c region is t.value v) (one_name is)))
            (new_value_so (with_local env region) t.next q t.value i here_then)
            (λ v l. typed_so (DeclaredSo o s) env.step _ _ here.place.step
            (may_so (DeclaredSo o s) (local_set env q c region is t.value v) (one_name is) (set_so s q c region is t v h k l)))

    exceptions_so : (s : State) (region : Region) (is : List Identifier) → AreConstantsWithin had s.constants_declared → RegionSo s region
        → DeclaredSo o s (exceptions_from env s region is)
    exceptions_so s region [] all h = record { goes = goes_same had o s s refl all; region = h }
    exceptions_so s region (i ∷ is) all h =
        let rest = exceptions_so (exception_declared env i s) (redefined (key i) (raisable (tree.declared (owner_of env) s.exceptions)) region) is all
        (redefined_so had (is_some o) (own s) (key i) (raisable (tree.declared (owner_of env) s.exceptions)) region tt h) in
        record { goes = record { constants = rest.goes.constants; more = rest.goes.more }; region = rest.region }

    kind_so : (s : State) (q : Pos) (d : DeclarationKind) → IsHere had env s → IfPassed (kind_declared env s q d).outcome (DeclaredSo o s)
    kind_so s q (declares.Type i d) here =
        part_so (RegionSo s) (DeclaredSo o s) (hide env.local i).answer
        (λ region. defined (with_local env region) (one_type_more s) q (new_identity env s) d >>= (λ x. rule (Some (type_declared env q i (new_identity env s) x))))
        (hidden_so had (is_some o) (own s) env.local i here.place.regions.0)
        (λ region h. part_so (GivesSo had o (DefinedSo had o) (one_type_more s)) (DeclaredSo o s) (defined (with_local env region) (one_type_more s) q (new_identity env s) d).answer
        (λ x. rule (Some (type_declared env q i (new_identity env s) x)))
        (defined_so had (with_local env region) (one_type_more s) q (new_identity env s) d
        (here_next had (with_local env region) s (one_type_more s) (here_local had env s region here h) (goes_same had o s (one_type_more s) refl here.constants)))
        (λ x k. record {
          goes = record { constants = k.goes.constants; more = k.goes.more };
          region = redefined_so had (is_some o) (own x.next) (key i) (mark (new_identity env s) x.value.subtype) x.value.region k.value.0 k.value.1;
        }))
    kind_so s q (declares.Subtype i t) here =
        part_so (RegionSo s) (DeclaredSo o s) (hide env.local i).answer
        (λ region. indicated (with_local env region) (one_type_more s) t >>= (λ x. rule (Some (subtype_declared i region (new_identity env s) x))))
        (hidden_so had (is_some o) (own s) env.local i here.place.regions.0)
        (λ region h. part_so (GivesSo had o (SubtypeSo had o) (one_type_more s)) (DeclaredSo o s) (indicated (with_local env region) (one_type_more s) t).answer
        (λ x. rule (Some (subtype_declared i region (new_identity env s) x)))
        (indicated_so had (with_local env region) (one_type_more s) t
        (here_next had (with_local env region) s (one_type_more s) (here_local had env s region here h) (goes_same had o s (one_type_more s) refl here.constants)))
        (λ x k. record {
          goes = record { constants = k.goes.constants; more = k.goes.more };
          region = redefined_so had (is_some o) (own x.next) (key i) (mark (new_identity env s) x.value) region k.value
              (region_on had (is_some o) (own s) (own x.next) k.goes.more region h);
        }))
    kind_so s q (declares.Object is c t i) here =
        part_so (RegionSo s) (DeclaredSo o s) (hide_all q env.local is).answer
        (λ region. indicated (with_local env region) s t >>= (λ x. objects_declared env q c region is x i))
        (all_hidden_so had (is_some o) (own s) q env.local is here.place.regions.0)
        (λ region h. part_so (GivesSo had o (SubtypeSo had o) s) (DeclaredSo o s) (indicated (with_local env region) s t).answer
        (λ x. objects_declared env q c region is x i)
        (indicated_so had (with_local env region) s t (here_local had env s region here h))
        (λ x k. objects_so s q c region is x i here h k))
    kind_so s q (declares.Exception is) here =
        part_so (RegionSo s) (DeclaredSo o s) (hide_all q env.local is).answer (λ region. rule (Some (exceptions_from env s region is)))
        (all_hidden_so had (is_some o) (own s) q env.local is here.place.regions.0)
        (λ region h. exceptions_so s region is here.constants h)
    kind_so s q (declares.Pragma a) here = record { goes = goes_same had o s s refl here.constants; region = here.place.regions.0 }

    pub declared_so : (s : State) (d : Declaration) → IsHere had env s → IfOk (declared env s d).answer (DeclaredSo o s)
    declared_so s d here = answered (DeclaredSo o s) d.pos (kind_declared env s d.pos d.kind).outcome (kind_so s d.pos d.kind here)

  pub all_declared_so : (env : Env) (s : State) (q : Pos) (ds : List Declaration) → IsHere had env s → IfOk (all_declared env s q ds).answer (DeclaredSo env.generic s)
  all_declared_so env s q [] here = record { goes = goes_same had env.generic s s refl here.constants; region = here.place.regions.0 }
  all_declared_so env s q (d ∷ ds) here =
      answered (DeclaredSo env.generic s) q _
      (part_so (DeclaredSo env.generic s) (DeclaredSo env.generic s) (declared env s d).answer
      (λ x. all_declared (with_local env x.region) x.next q ds >>= (λ xs. rule (Some (record { region = xs.region; next = xs.next; made = x.made ++ xs.made }))))
      (declared_so env s d here)
      (λ x h. part_so (DeclaredSo env.generic x.next) (DeclaredSo env.generic s) (all_declared (with_local env x.region) x.next q ds).answer
      (λ xs. rule (Some (record { region = xs.region; next = xs.next; made = x.made ++ xs.made })))
      (all_declared_so (with_local env x.region) x.next q ds
      (here_local had env x.next x.region (here_next had env s x.next here h.goes) h.region))
      (λ xs k. record { goes = goes_both had env.generic s x.next xs.next h.goes k.goes; region = k.region })))
