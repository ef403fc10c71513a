-- Static parts, bounds, subtype indications and indices in the step of types: what they give has values in the instances that the final facts know.
use Rattle.std.proofs.Common.{◌≡◌, ℕ, Bool, true, List, Option, Some, None, option_map, IfSome, IfOk, refl}
use Rattle.std.specs.Option.{option_and_then}
use Rattle.cov_base.specs.declared.position.Pos.{Pos}
use Rattle.cov_base.specs.Lists.{Everywhere}
use Rattle.ada_syntax.specs.Tree as source
use Rattle.ada_syntax.specs.Tree.{expr_pos, name_pos}
use Rattle.ada_syntax.specs.declared.declaration.Bounds.{Bounds}
use Rattle.ada_syntax.specs.declared.declaration.DiscreteRange.{DiscreteRange}
use Rattle.ada_syntax.specs.declared.declaration.DiscreteRange.TheVariants as discrete
use Rattle.ada_syntax.specs.declared.declaration.SubtypeIndication.{SubtypeIndication}
use Rattle.ada_meaning.specs.Program.{Program}
use Rattle.ada_meaning.specs.Shape.{Shape}
use Rattle.ada_meaning.specs.Statics.{static_value, values_of}
use Rattle.ada_meaning.specs.Tree as tree
use Rattle.ada_meaning.specs.Types.{Static, Range}
use Rattle.ada_meaning.specs.WellFormed.{HasNumber}
use Rattle.ada_rules.specs.Plan.{◌>>=◌, rule}
use Rattle.ada_rules.specs.Types.{AdaType, AdaSubtype, of_type, type_in, range_in, base, integer_subtype, Kind, universal, kind_of, is_scalar, is_discrete, fits, common, settled}
use Rattle.ada_rules.specs.Statics.{Test, Facts, in_order, holds}
use Rattle.ada_rules.specs.Environment.{typed_rule, State, Given, given, map_given, Env, demanded}
use Rattle.ada_rules.specs.Denoted.{Judged}
use Rattle.ada_rules.specs.Expressions.{itself, judged, Valued, any_valued, static_known, accepted, static_part, Marked, mark_part, scalar_mark}
use Rattle.ada_rules.specs.Declarations.{in_range, ordered, bounded, constrained, constraint_of, indicated, index_between, index_of}
use Rattle.legal_laws.specs.Kept.{OnlyDecides, OnlyStatics}
use Rattle.legal_laws.specs.Known.{AreApart, IsOrdered, IsKnownType, IsKnownSubtype, IsKnownKind, IsJudged, IsEnv}
use Rattle.legal_laws.specs.Served.{Serves}
use Rattle.legal_laws.specs.Valued.{AreFactsInBase, HaveFacts}
use Rattle.legal_laws.proofs.Passing.{IfPassed, if_test, answered, part_so, typed_so, both_ok}
use Rattle.legal_laws.proofs.Values.{value_demanded, order_demanded}
use Rattle.legal_laws.proofs.Constants.{serves_demanded, demand_met, serves_decided, static_before, static_number_there}
use Rattle.legal_laws.proofs.KeptStatics.{decides_statics, statics_both, static_only}
use Rattle.legal_laws.proofs.KnownTypes.{type_known, IsCommon, common_known}
use Rattle.legal_laws.proofs.KnownExpressions.{judged_known, mark_part_known, scalar_mark_known}
use Rattle.legal_laws.proofs.KeptExpressions.{judged_behind, mark_part_behind, scalar_mark_behind}

module _ (p : Program) (facts : List Facts) (has : HaveFacts p.instances facts) (are : Everywhere AreFactsInBase facts) (inst : ℕ)
    (declared : AdaType → Type 0) (apart : AreApart p declared) (shape_of : tree.Object → Shape) (Sees : tree.Object → Type 0)
    (env : Env) (is : IsEnv p inst declared shape_of Sees env) (world : Everywhere AreFactsInBase env.world.instances) where
  -- in short
  abbrev Final : State → Type 0
  Final s = Serves facts inst env.generic s

  abbrev KnownSubtype : AdaSubtype → Type 0
  KnownSubtype t = IsKnownSubtype p inst declared t

  -- a test that says that a static expression has a value
  abbrev Numbers : (Static → Test) → Type 0
  Numbers test = (e : Static) → holds facts inst (test e) ≡ true → HasNumber (static_value (values_of p) inst e)

  pub record IsStaticPart (s : State) (accepts : Kind → Bool) (g : Given Valued) : Type 0 where
    pub accepted : accepts g.value.kind ≡ true
    pub kind : IsKnownKind p inst declared g.value.kind
    pub only : OnlyStatics s g.next
    pub before : Final g.next → Final s
    pub number : Final g.next → HasNumber (static_value (values_of p) inst g.value.value)

  accepted_known : (s t : State) (q : Pos) (accepts : Kind → Bool) (test : Static → Test) (x : Judged) (e : Static) → Numbers test
      → IsJudged p inst declared shape_of Sees x → OnlyDecides s t → IfSome (accepted env t q accepts test x e) (IsStaticPart s accepts)
  accepted_known s t q accepts test x e numbers judged only =
      let asked = demanded env q (test e) t in
      let back = static_before facts are inst env.generic env e asked refl in
      if_test (IsStaticPart s accepts) (accepts x.kind) (Some (map_given (λ v. record { value = v; kind = x.kind }) (static_known env e asked))) (λ h. record {
        accepted = h;
        kind = judged.kind;
        only = statics_both s t (static_known env e asked).next (decides_statics s t only)
            (statics_both t asked (static_known env e asked).next refl (static_only env e asked));
        before = λ all. serves_decided facts are inst env.generic s t only (serves_demanded facts are inst env.generic env q (test e) t (back all));
        number = λ all. static_number_there facts are inst p env.generic env e asked refl has world all
            (numbers e (demand_met facts are inst env.generic env q (test e) t refl (back all)));
      })

  pub static_part_known : (s : State) (accepts : Kind → Bool) (test : Static → Test) (e : source.Expr) → Numbers test
      → IfOk (static_part env s accepts test e).answer (IsStaticPart s accepts)
  static_part_known s accepts test e numbers =
      answered (IsStaticPart s accepts) (expr_pos e) _
      (part_so (λ x. IsJudged p inst declared shape_of Sees x.value × OnlyDecides s x.next) (IsStaticPart s accepts) (judged env itself s e).answer
      (λ x. typed_rule env.step (given any_valued x.next) (option_and_then (accepted env x.next (expr_pos e) accepts test x.value) x.value.known))
      (both_ok (λ x. IsJudged p inst declared shape_of Sees x.value) (λ x. OnlyDecides s x.next) (judged env itself s e).answer
      (judged_known p inst declared apart shape_of Sees env is itself s e) (judged_behind env itself s e))
      (λ x h. typed_so (IsStaticPart s accepts) env.step (given any_valued x.next) _ is.step
      (static_if s x accepts test e numbers h.0 h.1 x.value.known)))
    where
      static_if : (s : State) (x : Given Judged) (accepts : Kind → Bool) (test : Static → Test) (e : source.Expr) → Numbers test
          → IsJudged p inst declared shape_of Sees x.value → OnlyDecides s x.next → (o : Option Static)
          → IfSome (option_and_then (accepted env x.next (expr_pos e) accepts test x.value) o) (IsStaticPart s accepts)
      static_if s x accepts test e numbers judged only None = tt
      static_if s x accepts test e numbers judged only (Some v) = accepted_known s x.next (expr_pos e) accepts test x.value v numbers judged only

  -- bounds
  in_range_numbers : (r : Range) → Numbers (in_range r)
  in_range_numbers r e h = value_demanded p facts has are inst (record { value = e; range = r }) h

  pub record IsBounded (s : State) (g : Given Range) : Type 0 where
    pub only : OnlyStatics s g.next
    pub before : Final g.next → Final s
    pub ordered : Final g.next → IsOrdered p inst declared g.value

  pub bounded_known : (s : State) (accepts : Kind → Bool) (r : Range) (b : Bounds) → IfOk (bounded env s accepts r b).answer (IsBounded s)
  bounded_known s accepts r b =
      answered (IsBounded s) (expr_pos b.low) _
      (part_so (IsStaticPart s accepts) (IsBounded s) (static_part env s accepts (in_range r) b.low).answer
      (λ low. static_part env low.next accepts (in_range r) b.high >>= (λ high. rule (Some (ordered env (expr_pos b.low) low.value.value high.value.value high.next))))
      (static_part_known s accepts (in_range r) b.low (in_range_numbers r))
      (λ low h. part_so (IsStaticPart low.next accepts) (IsBounded s) (static_part env low.next accepts (in_range r) b.high).answer
      (λ high. rule (Some (ordered env (expr_pos b.low) low.value.value high.value.value high.next)))
      (static_part_known low.next accepts (in_range r) b.high (in_range_numbers r))
      (λ high k. record {
        only = statics_both s low.next (demanded env (expr_pos b.low) (in_order low.value.value high.value.value) high.next) h.only
            (statics_both low.next high.next (demanded env (expr_pos b.low) (in_order low.value.value high.value.value) high.next) k.only refl);
        before = λ all. h.before (k.before (serves_demanded facts are inst env.generic env (expr_pos b.low) (in_order low.value.value high.value.value) high.next all));
        ordered = λ all. order_demanded p facts has are inst low.value.value high.value.value
            (demand_met facts are inst env.generic env (expr_pos b.low) (in_order low.value.value high.value.value) high.next refl all);
      })))

  -- subtype indications
  pub record IsIndicated (s : State) (g : Given AdaSubtype) : Type 0 where
    pub only : OnlyStatics s g.next
    pub before : Final g.next → Final s
    pub subtype : Final g.next → KnownSubtype g.value

  constraint_known : (s : State) (m : Given Marked) (o : Option Bounds) → KnownSubtype m.value.subtype → OnlyDecides s m.next
      → IfPassed (constraint_of env m o).outcome (IsIndicated s)
  constraint_known s m None known only =
      record {
        only = decides_statics s m.next only;
        before = λ all. serves_decided facts are inst env.generic s m.next only all;
        subtype = λ all. known;
      }
  constraint_known s m (Some b) known only =
      part_so (IsBounded m.next) (IsIndicated s) (bounded env m.next (fits (type_in m.value.subtype)) (range_in m.value.subtype) b).answer
      (λ r. typed_rule env.step (given m.value.subtype r.next) (constrained m.value r))
      (bounded_known m.next (fits (type_in m.value.subtype)) (range_in m.value.subtype) b)
      (λ r h. typed_so (IsIndicated s) env.step (given m.value.subtype r.next) (constrained m.value r) is.step
      (if_test (IsIndicated s) (is_scalar (type_in m.value.subtype)) (Some (given (of_type (type_in m.value.subtype) r.value) r.next)) (λ scalar. record {
        only = statics_both s m.next r.next (decides_statics s m.next only) h.only;
        before = λ all. serves_decided facts are inst env.generic s m.next only (h.before all);
        subtype = λ all. (h.ordered all, type_known p inst declared apart m.value.subtype known);
      })))

  pub indicated_known : (s : State) (i : SubtypeIndication) → IfOk (indicated env s i).answer (IsIndicated s)
  indicated_known s i =
      answered (IsIndicated s) (name_pos i.mark) _
      (part_so (λ m. KnownSubtype m.value.subtype × OnlyDecides s m.next) (IsIndicated s) (mark_part env s i.mark).answer
      (λ m. constraint_of env m i.constraint)
      (both_ok (λ m. KnownSubtype m.value.subtype) (λ m. OnlyDecides s m.next) (mark_part env s i.mark).answer
      (mark_part_known p inst declared apart shape_of Sees env is s i.mark) (mark_part_behind env s i.mark))
      (λ m h. constraint_known s m i.constraint h.0 h.1))

  -- the range of an index
  pub record IsIndex (s : State) (g : Given AdaSubtype) : Type 0 where
    pub only : OnlyStatics s g.next
    pub before : Final g.next → Final s
    pub subtype : Final g.next → KnownSubtype g.value
    pub scalar : is_scalar (type_in g.value) ≡ true

  pub record IsSettled (t : AdaType) : Type 0 where
    pub known : IsKnownType p inst declared t
    pub scalar : is_scalar t ≡ true

  pub settled_known : (k : Kind) → IsKnownKind p inst declared k → is_discrete k ≡ true → IsSettled (settled k)
  settled_known universal known d = record { known = is.integers; scalar = refl }
  settled_known (kind_of t) known d = record { known = known; scalar = d }

  between_known : (s : State) (q : Pos) (low high : Given Valued) (o : Option Kind) → IsStaticPart s is_discrete low → IsStaticPart low.next is_discrete high
      → IfSome o (IsCommon p inst declared apart low.value.kind high.value.kind)
      → IfSome (option_map (index_between env q low high) o) (IsIndex s)
  between_known s q low high None h k all = tt
  between_known s q low high (Some c) h k all =
      let type = settled_known c all.known (all.both h.accepted k.accepted) in
      let asked = in_order low.value.value high.value.value in
      record {
        only = statics_both s low.next (demanded env q asked high.next) h.only
            (statics_both low.next high.next (demanded env q asked high.next) k.only refl);
        before = λ final. h.before (k.before (serves_demanded facts are inst env.generic env q asked high.next final));
        subtype = λ final. (
          order_demanded p facts has are inst low.value.value high.value.value (demand_met facts are inst env.generic env q asked high.next refl final),
          type.known,
        );
        scalar = type.scalar;
      }

  pub index_known : (s : State) (r : DiscreteRange) → IfOk (index_of env s r).answer (IsIndex s)
  index_known s (discrete.Mark n) =
      answered (IsIndex s) (name_pos n) _
      (part_so (λ m. (KnownSubtype m.value.subtype × (is_scalar (type_in m.value.subtype) ≡ true)) × OnlyDecides s m.next) (IsIndex s)
      (scalar_mark env s n).answer (λ m. rule (Some (given m.value.subtype m.next)))
      (both_ok (λ m. KnownSubtype m.value.subtype × (is_scalar (type_in m.value.subtype) ≡ true)) (λ m. OnlyDecides s m.next) (scalar_mark env s n).answer
      (scalar_mark_known p inst declared apart shape_of Sees env is s n) (scalar_mark_behind env s n))
      (λ m h. record {
        only = decides_statics s m.next h.1;
        before = λ all. serves_decided facts are inst env.generic s m.next h.1 all;
        subtype = λ all. h.0.0;
        scalar = h.0.1;
      }))
  index_known s (discrete.Bounds b) =
      answered (IsIndex s) (expr_pos b.low) _
      (part_so (IsStaticPart s is_discrete) (IsIndex s) (static_part env s is_discrete (in_range base) b.low).answer
      (λ low. static_part env low.next is_discrete (in_range base) b.high >>= (λ high. typed_rule env.step (given integer_subtype high.next)
      (option_map (index_between env (expr_pos b.low) low high) (common low.value.kind high.value.kind))))
      (static_part_known s is_discrete (in_range base) b.low (in_range_numbers base))
      (λ low h. part_so (IsStaticPart low.next is_discrete) (IsIndex s) (static_part env low.next is_discrete (in_range base) b.high).answer
      (λ high. typed_rule env.step (given integer_subtype high.next)
      (option_map (index_between env (expr_pos b.low) low high) (common low.value.kind high.value.kind)))
      (static_part_known low.next is_discrete (in_range base) b.high (in_range_numbers base))
      (λ high k. typed_so (IsIndex s) env.step (given integer_subtype high.next) _ is.step
      (between_known s (expr_pos b.low) low high (common low.value.kind high.value.kind) h k
      (common_known p inst declared apart low.value.kind high.value.kind h.kind k.kind)))))
