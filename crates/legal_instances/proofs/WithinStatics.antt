-- Static expressions name constants that look no further than at those before them.
use Rattle.std.proofs.Common.{◌≡◌, ◌≤◌, ◌+◌, ℕ, pos, Bool, true, false, if◌then◌else◌, List, [], ◌∷◌, length, Option, Some, None, option_map, IfSome, IfOk, is_some, refl, sym, ap, ◌∙◌, subst, arith}
use Rattle.std.specs.Option.{option_and_then}
use Rattle.std.proofs.lemmas.Bool.{eq-eqb}
use Rattle.cov_base.specs.declared.position.Pos.{Pos}
use Rattle.ada_syntax.specs.Tree as source
use Rattle.ada_syntax.specs.Tree.{expr_pos, name_pos}
use Rattle.ada_syntax.specs.declared.declaration.Bounds.{Bounds}
use Rattle.ada_syntax.specs.declared.declaration.Component.{Component}
use Rattle.ada_syntax.specs.declared.declaration.DiscreteRange.{DiscreteRange}
use Rattle.ada_syntax.specs.declared.declaration.DiscreteRange.TheVariants as discrete
use Rattle.ada_syntax.specs.declared.declaration.SubtypeIndication.{SubtypeIndication}
use Rattle.ada_syntax.specs.declared.declaration.TypeDefinition.{TypeDefinition}
use Rattle.ada_syntax.specs.declared.declaration.TypeDefinition.TheVariants as definition
use Rattle.ada_syntax.specs.declared.name.Identifier.{Identifier}
use Rattle.ada_meaning.specs.Program.{GenericConstant}
use Rattle.ada_meaning.specs.Statics.{constants_of}
use Rattle.ada_meaning.specs.Types.{Static, static_number, static_formal, static_constant, static_first, static_last, static_length, static_sign, static_operation, static_of, Range}
use Rattle.ada_rules.specs.Plan.{◌>>=◌, rule}
use Rattle.ada_rules.specs.Types.{Identity, integer_type, enumeration, array_type, record_type, AdaSubtype, of_type, Fields, no_field, type_in, range_in, base, integer_subtype, Kind, universal, kind_of, is_scalar, is_integral, is_discrete, fits, common, settled}
use Rattle.ada_rules.specs.Statics.{Test}
use Rattle.ada_rules.specs.Entities.{key, same_name, Entity, hidden, literal, component, Region, redefined, is_new}
use Rattle.ada_rules.specs.Environment.{typed_rule, State, Given, given, map_given, Env, with_local, opened, demanded, with_name, hide, hide_all}
use Rattle.ada_rules.specs.Denoted.{Judged}
use Rattle.ada_rules.specs.Expressions.{itself, judged, Valued, any_valued, value_named, entered_constant, static_known, accepted, static_part, Marked, mark_part, scalar_mark}
use Rattle.ada_rules.specs.Declarations.{in_range, ordered, bounded, constrained, constraint_of, indicated, index_between, index_of, with_fields, all_as, fields_of, Defined, literals, enumerated, unchanged, defined}
use Rattle.legal_laws.specs.Kept.{OnlyDecides}
use Rattle.legal_laws.proofs.KeptExpressions.{judged_behind, mark_part_behind, scalar_mark_behind}
use Rattle.legal_laws.proofs.Passing.{if_map, if_test, IfPassed, answered, ruled_so, part_so, typed_so, both_ok, weaker_ok, every_end}
use Rattle.legal_instances.specs.Within.{Made, IsWithin, IsRangeWithin, AreConstantsWithin, IsTypeWithin, IsSubtypeWithin, AreFieldsWithin, IsKindWithin, IsEntityWithin, IsRegionWithin, IsValueWithin, IsHere, Goes, own_of}
use Rattle.legal_instances.proofs.WithinMore.{subtype_on, within_on, region_on, goes_same, goes_both, here_next, here_local, here_opened}
use Rattle.legal_instances.proofs.WithinNames.{type_of_subtype, common_within, judged_within, mark_part_within, scalar_mark_within}

module _ (had : Made) where
  -- a value with the state behind it
  pub record GivesSo {X : Type 0} (o : Option ℕ) (P : ℕ → X → Type 0) (s : State) (g : Given X) : Type 0 where
    pub goes : Goes had o s g.next
    pub value : P (own_of o g.next.constants_declared) g.value

  pub gives_same : {X : Type 0} (o : Option ℕ) (P : ℕ → X → Type 0) (s : State) (g : Given X) → g.next.constants_declared ≡ s.constants_declared
      → AreConstantsWithin had s.constants_declared → P (own_of o s.constants_declared) g.value → GivesSo o P s g
  gives_same o P s g e h k = record { goes = goes_same had o s g.next e h; value = subst (λ cs. P (own_of o cs) g.value) (sym e) k }

  pub gives_behind : {X : Type 0} (o : Option ℕ) (P : ℕ → X → Type 0) (s t : State) (g : Given X) → Goes had o s t → GivesSo o P t g → GivesSo o P s g
  gives_behind o P s t g h k = record { goes = goes_both had o s t g.next h k.goes; value = k.value }

  -- a constant of a generic
  abbrev pub Named : ℕ → Static → Type 0
  Named n e = IsWithin had true n e

  own_more : (g : ℕ) (c : GenericConstant) (cs : List GenericConstant) → c.generic ≡ g → own_of (Some g) (c ∷ cs) ≡ own_of (Some g) cs + 1
  own_more g c cs e =
      let more = ap (λ b. length (if b then c ∷ constants_of g cs else constants_of g cs)) (eq-eqb c.generic g e) in
      let count : length (c ∷ constants_of g cs) ≡ length (constants_of g cs) + 1 = omega (arith) in
      more ∙ count

  pub entered_so : (g : ℕ) (r : Range) (e : Static) (s : State) → AreConstantsWithin had s.constants_declared → IsWithin had true (own_of (Some g) s.constants_declared) e
      → IsRangeWithin had true (own_of (Some g) s.constants_declared) r → GivesSo (Some g) Named s (entered_constant g r e s)
  entered_so g r e s all h k =
      let count = own_more g (record { generic = g; value = e; range = r }) s.constants_declared refl in
      record {
        goes = record { constants = ((h, k), all); more = omega (arith, count) };
        value = omega (arith, count);
      }

  pub named_so : (g : ℕ) (e : Static) (s : State) → AreConstantsWithin had s.constants_declared → IsWithin had true (own_of (Some g) s.constants_declared) e
      → GivesSo (Some g) Named s (value_named g e s)
  named_so g (static_number x) s all h = gives_same (Some g) Named s (given (static_number x) s) refl all tt
  named_so g (static_formal k) s all h = gives_same (Some g) Named s (given (static_formal k) s) refl all refl
  named_so g (static_constant k) s all h = gives_same (Some g) Named s (given (static_constant k) s) refl all h
  named_so g (static_first r) s all h = entered_so g base (static_first r) s all h (tt, tt)
  named_so g (static_last r) s all h = entered_so g base (static_last r) s all h (tt, tt)
  named_so g (static_length r) s all h = entered_so g base (static_length r) s all h (tt, tt)
  named_so g (static_sign op e) s all h =
      let x = value_named g e s in
      let first = named_so g e s all h in
      gives_behind (Some g) Named s x.next (entered_constant g base (static_sign op x.value) x.next) first.goes
      (entered_so g base (static_sign op x.value) x.next first.goes.constants first.value (tt, tt))
  named_so g (static_operation op e f) s all h =
      let x = value_named g e s in
      let first = named_so g e s all h.0 in
      let y = value_named g f x.next in
      let second = named_so g f x.next first.goes.constants
      (within_on had true (own_of (Some g) s.constants_declared) (own_of (Some g) x.next.constants_declared) first.goes.more f h.1) in
      gives_behind (Some g) Named s y.next (entered_constant g base (static_operation op x.value y.value) y.next)
      (goes_both had (Some g) s x.next y.next first.goes second.goes)
      (entered_so g base (static_operation op x.value y.value) y.next second.goes.constants
      (within_on had true (own_of (Some g) x.next.constants_declared) (own_of (Some g) y.next.constants_declared) second.goes.more x.value first.value, second.value) (tt, tt))
  named_so g (static_of i e) s all h = entered_so g base (static_of i e) s all h (tt, tt)

  abbrev pub Within : Option ℕ → ℕ → Static → Type 0
  Within o n e = IsWithin had (is_some o) n e

  known_by : (o : Option ℕ) (env : Env) (e : Static) (s : State) → AreConstantsWithin had s.constants_declared → Within o (own_of o s.constants_declared) e
      → GivesSo o (Within o) s (static_known (record env { generic = o }) e s)
  known_by None env e s all h = gives_same None (Within None) s (static_known (record env { generic = None }) e s) refl all tt
  known_by (Some g) env e s all h = named_so g e s all h

  known_so : (env : Env) (e : Static) (s : State) → AreConstantsWithin had s.constants_declared → Within env.generic (own_of env.generic s.constants_declared) e
      → GivesSo env.generic (Within env.generic) s (static_known env e s)
  known_so env e s all h = known_by env.generic env e s all h

  -- static parts
  abbrev pub ValuedSo : Option ℕ → ℕ → Valued → Type 0
  ValuedSo o n v = Within o n v.value × IsKindWithin had (is_some o) n v.kind

  abbrev pub SubtypeSo : Option ℕ → ℕ → AdaSubtype → Type 0
  SubtypeSo o n t = IsSubtypeWithin had (is_some o) n t

  abbrev pub MarkSo : Option ℕ → ℕ → Marked → Type 0
  MarkSo o n m = IsSubtypeWithin had (is_some o) n m.subtype

  abbrev pub JudgedSo : Option ℕ → ℕ → Judged → Type 0
  JudgedSo o n x = IsValueWithin had (is_some o) n x

  abbrev pub RangeSo : Option ℕ → ℕ → Range → Type 0
  RangeSo o n r = IsRangeWithin had (is_some o) n r

  pub kind_on : (o : Option ℕ) (n m : ℕ) → n ≤ m → (k : Kind) → IsKindWithin had (is_some o) n k → IsKindWithin had (is_some o) m k
  kind_on o n m less universal h = tt
  kind_on o n m less (kind_of t) h = type_of_subtype had (is_some o) m (of_type t base) (subtype_on had (is_some o) n m less (of_type t base) ((tt, tt), h))

  module _ (env : Env) where
    abbrev o : Option ℕ
    o = env.generic

    abbrev own : State → ℕ
    own s = own_of env.generic s.constants_declared

    only_constants : (s t : State) → OnlyDecides s t → t.constants_declared ≡ s.constants_declared
    only_constants s t h = ap (λ x. x.constants_declared) h

    pub judged_so : (s : State) (e : source.Expr) → IsHere had env s → IfOk (judged env itself s e).answer (GivesSo o (JudgedSo o) s)
    judged_so s e here =
        weaker_ok (λ g. OnlyDecides s g.next × IsValueWithin had (is_some o) (own s) g.value) (GivesSo o (JudgedSo o) s) (judged env itself s e).answer
        (both_ok (λ g. OnlyDecides s g.next) (λ g. IsValueWithin had (is_some o) (own s) g.value) (judged env itself s e).answer
        (judged_behind env itself s e) (judged_within had (is_some o) (own s) env here.place itself s e))
        (λ g h. gives_same o (JudgedSo o) s g (only_constants s g.next h.0) here.constants h.1)

    pub mark_so : (s : State) (n : source.Name) → IsHere had env s → IfOk (mark_part env s n).answer (GivesSo o (MarkSo o) s)
    mark_so s n here =
        weaker_ok (λ g. OnlyDecides s g.next × MarkSo o (own s) g.value) (GivesSo o (MarkSo o) s) (mark_part env s n).answer
        (both_ok (λ g. OnlyDecides s g.next) (λ g. MarkSo o (own s) g.value) (mark_part env s n).answer
        (mark_part_behind env s n) (mark_part_within had (is_some o) (own s) env here.place s n))
        (λ g h. gives_same o (MarkSo o) s g (only_constants s g.next h.0) here.constants h.1)

    pub scalar_so : (s : State) (n : source.Name) → IsHere had env s → IfOk (scalar_mark env s n).answer (GivesSo o (MarkSo o) s)
    scalar_so s n here =
        weaker_ok (λ g. OnlyDecides s g.next × MarkSo o (own s) g.value) (GivesSo o (MarkSo o) s) (scalar_mark env s n).answer
        (both_ok (λ g. OnlyDecides s g.next) (λ g. MarkSo o (own s) g.value) (scalar_mark env s n).answer
        (scalar_mark_behind env s n) (scalar_mark_within had (is_some o) (own s) env here.place s n))
        (λ g h. gives_same o (MarkSo o) s g (only_constants s g.next h.0) here.constants h.1)

    accepted_so : (s : State) (x : Given Judged) (q : Pos) (accepts : Kind → Bool) (test : Static → Test) → GivesSo o (JudgedSo o) s x → (known : Option Static)
        → IfSome known (Within o (own x.next)) → IfSome (option_and_then (accepted env x.next q accepts test x.value) known) (GivesSo o (ValuedSo o) s)
    accepted_so s x q accepts test h None k = tt
    accepted_so s x q accepts test h (Some e) k =
        let asked = demanded env q (test e) x.next in
        let known = static_known env e asked in
        let so = known_so env e asked h.goes.constants k in
        if_test (GivesSo o (ValuedSo o) s) (accepts x.value.kind) (Some (map_given (λ v. record { value = v; kind = x.value.kind }) known))
        (λ b. record {
          goes = goes_both had o s asked known.next (record { constants = h.goes.constants; more = h.goes.more }) so.goes;
          value = (so.value, kind_on o (own x.next) (own known.next) so.goes.more x.value.kind h.value.kind);
        })

    pub static_so : (s : State) (accepts : Kind → Bool) (test : Static → Test) (e : source.Expr) → IsHere had env s
        → IfOk (static_part env s accepts test e).answer (GivesSo o (ValuedSo o) s)
    static_so s accepts test e here =
        answered (GivesSo o (ValuedSo o) s) (expr_pos e) _
        (part_so (GivesSo o (JudgedSo o) s) (GivesSo o (ValuedSo o) s) (judged env itself s e).answer
        (λ x. typed_rule env.step (given any_valued x.next) (option_and_then (accepted env x.next (expr_pos e) accepts test x.value) x.value.known))
        (judged_so s e here)
        (λ x h. typed_so (GivesSo o (ValuedSo o) s) env.step (given any_valued x.next) _ here.place.step
        (accepted_so s x (expr_pos e) accepts test h x.value.known h.value.known)))

    pub bounded_so : (s : State) (accepts : Kind → Bool) (r : Range) (b : Bounds) → IsHere had env s → IfOk (bounded env s accepts r b).answer (GivesSo o (RangeSo o) s)
    bounded_so s accepts r b here =
        answered (GivesSo o (RangeSo o) s) (expr_pos b.low) _
        (part_so (GivesSo o (ValuedSo o) s) (GivesSo o (RangeSo o) s) (static_part env s accepts (in_range r) b.low).answer
        (λ low. static_part env low.next accepts (in_range r) b.high
        >>= (λ high. rule (Some (ordered env (expr_pos b.low) low.value.value high.value.value high.next))))
        (static_so s accepts (in_range r) b.low here)
        (λ low h. part_so (GivesSo o (ValuedSo o) low.next) (GivesSo o (RangeSo o) s) (static_part env low.next accepts (in_range r) b.high).answer
        (λ high. rule (Some (ordered env (expr_pos b.low) low.value.value high.value.value high.next)))
        (static_so low.next accepts (in_range r) b.high (here_next had env s low.next here h.goes))
        (λ high k. let all = goes_both had o s low.next high.next h.goes k.goes in record {
          goes = record { constants = all.constants; more = all.more };
          value = (within_on had (is_some o) (own low.next) (own high.next) k.goes.more low.value.value h.value.0, k.value.0);
        })))

    constrained_so : (s : State) (m : Given Marked) (r : Given Range) → GivesSo o (MarkSo o) s m → GivesSo o (RangeSo o) m.next r
        → IfSome (constrained m.value r) (GivesSo o (SubtypeSo o) s)
    constrained_so s m r h k =
        if_test (GivesSo o (SubtypeSo o) s) (is_scalar (type_in m.value.subtype)) _
        (λ b. record {
          goes = goes_both had o s m.next r.next h.goes k.goes;
          value = (k.value, type_of_subtype had (is_some o) (own r.next) m.value.subtype (subtype_on had (is_some o) (own m.next) (own r.next) k.goes.more m.value.subtype h.value));
        })

    constraint_so : (s : State) (m : Given Marked) (c : Option Bounds) → IsHere had env s → GivesSo o (MarkSo o) s m
        → IfPassed (constraint_of env m c).outcome (GivesSo o (SubtypeSo o) s)
    constraint_so s m None here h = record { goes = h.goes; value = h.value }
    constraint_so s m (Some b) here h =
        part_so (GivesSo o (RangeSo o) m.next) (GivesSo o (SubtypeSo o) s)
        (bounded env m.next (fits (type_in m.value.subtype)) (range_in m.value.subtype) b).answer
        (λ r. typed_rule env.step (given m.value.subtype r.next) (constrained m.value r))
        (bounded_so m.next (fits (type_in m.value.subtype)) (range_in m.value.subtype) b (here_next had env s m.next here h.goes))
        (λ r k. typed_so (GivesSo o (SubtypeSo o) s) env.step (given m.value.subtype r.next) (constrained m.value r) here.place.step (constrained_so s m r h k))

    pub indicated_so : (s : State) (i : SubtypeIndication) → IsHere had env s → IfOk (indicated env s i).answer (GivesSo o (SubtypeSo o) s)
    indicated_so s i here =
        answered (GivesSo o (SubtypeSo o) s) (name_pos i.mark) _
        (part_so (GivesSo o (MarkSo o) s) (GivesSo o (SubtypeSo o) s) (mark_part env s i.mark).answer (λ m. constraint_of env m i.constraint)
        (mark_so s i.mark here) (λ m h. constraint_so s m i.constraint here h))

    -- indices
    pub settled_so : (n : ℕ) (k : Kind) → IsKindWithin had (is_some o) n k → IsTypeWithin had (is_some o) n (settled k)
    settled_so n universal h = tt
    settled_so n (kind_of t) h = h

    index_so : (s : State) (q : Pos) (low high : Given Valued) → GivesSo o (ValuedSo o) s low → GivesSo o (ValuedSo o) low.next high
        → IfSome (option_map (index_between env q low high) (common low.value.kind high.value.kind)) (GivesSo o (SubtypeSo o) s)
    index_so s q low high h k =
        let all = goes_both had o s low.next high.next h.goes k.goes in
        if_map (IsKindWithin had (is_some o) (own high.next)) (GivesSo o (SubtypeSo o) s) (index_between env q low high) (common low.value.kind high.value.kind)
        (common_within had (is_some o) (own high.next) low.value.kind high.value.kind
        (kind_on o (own low.next) (own high.next) k.goes.more low.value.kind h.value.1) k.value.1)
        (λ c l. record {
          goes = record { constants = all.constants; more = all.more };
          value = ((within_on had (is_some o) (own low.next) (own high.next) k.goes.more low.value.value h.value.0, k.value.0), settled_so (own high.next) c l);
        })

    pub index_of_so : (s : State) (r : DiscreteRange) → IsHere had env s → IfOk (index_of env s r).answer (GivesSo o (SubtypeSo o) s)
    index_of_so s (discrete.Mark n) here =
        answered (GivesSo o (SubtypeSo o) s) (name_pos n) _
        (part_so (GivesSo o (MarkSo o) s) (GivesSo o (SubtypeSo o) s) (scalar_mark env s n).answer (λ m. rule (Some (given m.value.subtype m.next)))
        (scalar_so s n here) (λ m h. record { goes = h.goes; value = h.value }))
    index_of_so s (discrete.Bounds b) here =
        answered (GivesSo o (SubtypeSo o) s) (expr_pos b.low) _
        (part_so (GivesSo o (ValuedSo o) s) (GivesSo o (SubtypeSo o) s) (static_part env s is_discrete (in_range base) b.low).answer
        (λ low. static_part env low.next is_discrete (in_range base) b.high
        >>= (λ high. typed_rule env.step (given integer_subtype high.next) (option_map (index_between env (expr_pos b.low) low high) (common low.value.kind high.value.kind))))
        (static_so s is_discrete (in_range base) b.low here)
        (λ low h. part_so (GivesSo o (ValuedSo o) low.next) (GivesSo o (SubtypeSo o) s) (static_part env low.next is_discrete (in_range base) b.high).answer
        (λ high. typed_rule env.step (given integer_subtype high.next) (option_map (index_between env (expr_pos b.low) low high) (common low.value.kind high.value.kind)))
        (static_so low.next is_discrete (in_range base) b.high (here_next had env s low.next here h.goes))
        (λ high k. typed_so (GivesSo o (SubtypeSo o) s) env.step _ _ here.place.step (index_so s (expr_pos b.low) low high h k))))

  -- regions that grow
  module _ (inside : Bool) (n : ℕ) where
    abbrev Regions : Region → Type 0
    Regions region = IsRegionWithin had inside n region

    pub name_so : (region : Region) (i : Identifier) (x : Entity) → Regions region → IsEntityWithin had inside n x → IfSome (with_name region i x) Regions
    name_so region i x h k =
        if_test Regions (is_new region i) _ (λ b. every_end (λ e. IsEntityWithin had inside n e.1) region (key i, x) h k)

    pub hidden_so : (region : Region) (i : Identifier) → Regions region → IfOk (hide region i).answer Regions
    hidden_so region i h = answered Regions i.pos (rule (with_name region i hidden)).outcome (ruled_so Regions (with_name region i hidden) (name_so region i hidden h tt))

    pub all_hidden_so : (q : Pos) (region : Region) (is : List Identifier) → Regions region → IfOk (hide_all q region is).answer Regions
    all_hidden_so q region [] h = h
    all_hidden_so q region (i ∷ is) h =
        answered Regions q _
        (part_so Regions Regions (hide region i).answer (λ r. hide_all q r is >>= (λ rs. rule (Some rs))) (hidden_so region i h)
        (λ r k. part_so Regions Regions (hide_all q r is).answer (λ rs. rule (Some rs)) (all_hidden_so q r is k) (λ rs l. l)))

    pub redefined_so : (name : List ℕ) (x : Entity) (region : Region) → IsEntityWithin had inside n x → Regions region → Regions (redefined name x region)
    redefined_so name x [] h k = tt
    redefined_so name x (e ∷ region) h k = by_name (same_name name e.0) (redefined_so name x region h k.1)
      where
        by_name : (b : Bool) → Regions (redefined name x region) → Regions (if b then (e.0, x) ∷ region else e ∷ redefined name x region)
        by_name true l = (h, k.1)
        by_name false l = (k.0, l)

    pub all_as_so : (region : Region) (is : List Identifier) → Regions region → Regions (all_as component region is)
    all_as_so region [] h = h
    all_as_so region (i ∷ is) h = all_as_so (redefined (key i) component region) is (redefined_so (key i) component region tt h)

    pub literals_so : (i : Identity) (count k : ℕ) (region : Region) (is : List Identifier) → Regions region → Regions (literals (enumeration i count) k region is)
    literals_so i count k region [] h = h
    literals_so i count k region (x ∷ is) h =
        literals_so i count (k + 1) (redefined (key x) (literal (enumeration i count) (pos k)) region) is
        (redefined_so (key x) (literal (enumeration i count) (pos k)) region tt h)

  abbrev FieldsSo : Option ℕ → ℕ → Fields → Type 0
  FieldsSo o n fs = AreFieldsWithin had (is_some o) n fs

  with_fields_so : (o : Option ℕ) (n : ℕ) (is : List Identifier) (t : AdaSubtype) (fs : Fields) → SubtypeSo o n t → FieldsSo o n fs → FieldsSo o n (with_fields is t fs)
  with_fields_so o n [] t fs h k = k
  with_fields_so o n (i ∷ is) t fs h k = (h, with_fields_so o n is t fs h k)

  pub fields_so : (env : Env) (s : State) (q : Pos) (cs : List Component) → IsHere had env s → IfOk (fields_of env s q cs).answer (GivesSo env.generic (FieldsSo env.generic) s)
  fields_so env s q [] here = gives_same env.generic (FieldsSo env.generic) s (given no_field s) refl here.constants tt
  fields_so env s q (c ∷ cs) here =
      answered (GivesSo env.generic (FieldsSo env.generic) s) q _
      (part_so (IsRegionWithin had (is_some env.generic) (own_of env.generic s.constants_declared)) (GivesSo env.generic (FieldsSo env.generic) s) (hide_all q env.local c.names).answer
      (λ names. indicated (with_local env names) s c.indication
      >>= (λ t. fields_of (with_local env (all_as component names c.names)) t.next q cs >>= (λ fs. rule (Some (given (with_fields c.names t.value fs.value) fs.next)))))
      (all_hidden_so (is_some env.generic) (own_of env.generic s.constants_declared) q env.local c.names here.place.regions.0)
      (λ names h. part_so (GivesSo env.generic (SubtypeSo env.generic) s) (GivesSo env.generic (FieldsSo env.generic) s) (indicated (with_local env names) s c.indication).answer
      (λ t. fields_of (with_local env (all_as component names c.names)) t.next q cs >>= (λ fs. rule (Some (given (with_fields c.names t.value fs.value) fs.next))))
      (indicated_so (with_local env names) s c.indication (here_local had env s names here h))
      (λ t k. part_so (GivesSo env.generic (FieldsSo env.generic) t.next) (GivesSo env.generic (FieldsSo env.generic) s)
      (fields_of (with_local env (all_as component names c.names)) t.next q cs).answer
      (λ fs. rule (Some (given (with_fields c.names t.value fs.value) fs.next)))
      (fields_so (with_local env (all_as component names c.names)) t.next q cs
      (here_local had env t.next (all_as component names c.names) (here_next had env s t.next here k.goes)
      (region_on had (is_some env.generic) (own_of env.generic s.constants_declared) (own_of env.generic t.next.constants_declared) k.goes.more (all_as component names c.names)
      (all_as_so (is_some env.generic) (own_of env.generic s.constants_declared) names c.names h))))
      (λ fs l. record {
        goes = goes_both had env.generic s t.next fs.next k.goes l.goes;
        value = with_fields_so env.generic (own_of env.generic fs.next.constants_declared) c.names t.value fs.value
            (subtype_on had (is_some env.generic) (own_of env.generic t.next.constants_declared) (own_of env.generic fs.next.constants_declared) l.goes.more t.value k.value) l.value;
      }))))

  abbrev pub DefinedSo : Option ℕ → ℕ → Defined → Type 0
  DefinedSo o n d = SubtypeSo o n d.subtype × IsRegionWithin had (is_some o) n d.region

  pub defined_so : (env : Env) (s : State) (q : Pos) (i : Identity) (d : TypeDefinition) → IsHere had env s → IfOk (defined env s q i d).answer (GivesSo env.generic (DefinedSo env.generic) s)
  defined_so env s q i (definition.Integer b) here =
      answered (GivesSo env.generic (DefinedSo env.generic) s) q _
      (part_so (GivesSo env.generic (RangeSo env.generic) s) (GivesSo env.generic (DefinedSo env.generic) s) (bounded env s is_integral base b).answer
      (λ r. rule (Some (unchanged env.local (of_type (integer_type i) r.value) r.next))) (bounded_so env s is_integral base b here)
      (λ r h. record {
        goes = h.goes;
        value = (
          (h.value, tt),
          region_on had (is_some env.generic) (own_of env.generic s.constants_declared) (own_of env.generic r.next.constants_declared) h.goes.more env.local here.place.regions.0,
        );
      }))
  defined_so env s q i (definition.Enumeration names) here =
      answered (GivesSo env.generic (DefinedSo env.generic) s) q _
      (part_so (IsRegionWithin had (is_some env.generic) (own_of env.generic s.constants_declared)) (GivesSo env.generic (DefinedSo env.generic) s) (hide_all q env.local names).answer
      (λ region. rule (Some (given (enumerated i region names) s)))
      (all_hidden_so (is_some env.generic) (own_of env.generic s.constants_declared) q env.local names here.place.regions.0)
      (λ region h. gives_same env.generic (DefinedSo env.generic) s (given (enumerated i region names) s) refl here.constants
      (((tt, tt), tt), literals_so (is_some env.generic) (own_of env.generic s.constants_declared) i (length names) 0 region names h)))
  defined_so env s q i (definition.Array r c) here =
      answered (GivesSo env.generic (DefinedSo env.generic) s) q _
      (part_so (GivesSo env.generic (SubtypeSo env.generic) s) (GivesSo env.generic (DefinedSo env.generic) s) (index_of env s r).answer
      (λ x. indicated env x.next c >>= (λ t. rule (Some (unchanged env.local (of_type (array_type i x.value t.value) base) t.next))))
      (index_of_so env s r here)
      (λ x h. part_so (GivesSo env.generic (SubtypeSo env.generic) x.next) (GivesSo env.generic (DefinedSo env.generic) s) (indicated env x.next c).answer
      (λ t. rule (Some (unchanged env.local (of_type (array_type i x.value t.value) base) t.next)))
      (indicated_so env x.next c (here_next had env s x.next here h.goes))
      (λ t k. let all = goes_both had env.generic s x.next t.next h.goes k.goes in record {
        goes = all;
        value = (
          ((tt, tt), (subtype_on had (is_some env.generic) (own_of env.generic x.next.constants_declared) (own_of env.generic t.next.constants_declared) k.goes.more x.value h.value, k.value)),
          region_on had (is_some env.generic) (own_of env.generic s.constants_declared) (own_of env.generic t.next.constants_declared) all.more env.local here.place.regions.0,
        );
      })))
  defined_so env s q i (definition.Record cs) here =
      answered (GivesSo env.generic (DefinedSo env.generic) s) q _
      (part_so (GivesSo env.generic (FieldsSo env.generic) s) (GivesSo env.generic (DefinedSo env.generic) s) (fields_of (opened env) s q cs).answer
      (λ fs. rule (Some (unchanged env.local (of_type (record_type i fs.value) base) fs.next)))
      (fields_so (opened env) s q cs (here_opened had env s here))
      (λ fs h. record {
        goes = h.goes;
        value = (
          ((tt, tt), h.value),
          region_on had (is_some env.generic) (own_of env.generic s.constants_declared) (own_of env.generic fs.next.constants_declared) h.goes.more env.local here.place.regions.0,
        );
      }))
