-- Formals look at nothing but formals, and actuals at what may be named.
use Rattle.std.proofs.Common.{◌≡◌, ◌+◌, ℕ, Bool, true, false, List, [], ◌∷◌, ◌++◌, Some, None, option_map, IfOk, is_some, refl}
use Rattle.cov_base.specs.declared.position.Pos.{Pos}
use Rattle.ada_syntax.specs.Tree as source
use Rattle.ada_syntax.specs.Tree.{expr_pos}
use Rattle.ada_syntax.specs.declared.name.Identifier.{Identifier}
use Rattle.ada_syntax.specs.declared.unit.Formal.{Formal}
use Rattle.ada_syntax.specs.declared.unit.FormalKind.{FormalKind}
use Rattle.ada_syntax.specs.declared.unit.FormalKind.TheVariants as formal
use Rattle.ada_meaning.specs.Types.{static_formal}
use Rattle.ada_rules.specs.Plan.{◌>>=◌, rule}
use Rattle.ada_rules.specs.Types.{type_in, range_in, fits}
use Rattle.ada_rules.specs.Entities.{key, Entity, formal_object, Region, redefined, Actual, object_actual, subtype_seen}
use Rattle.ada_rules.specs.Environment.{typed_rule, State, given, Env, with_local, new_identity, one_type_more, hide}
use Rattle.ada_rules.specs.Expressions.{itself, denoted, judged, static_part, scalar_mark}
use Rattle.ada_rules.specs.Declarations.{in_range}
use Rattle.ada_rules.specs.Subprograms.{specified, declared_only}
use Rattle.ada_rules.specs.Instances.{formal_mark, formal_type_declared, formal_routine, formal_declared, formals_declared, actual_for_name, any_actual, actual_plan, any_plan, actuals_judged}
use Rattle.legal_laws.proofs.Passing.{IfPassed, answered, part_so, typed_so}
use Rattle.legal_instances.specs.Within.{Made, IsHere, own_of}
use Rattle.legal_instances.proofs.WithinMore.{region_on, goes_same, goes_both, here_next, here_local}
use Rattle.legal_instances.proofs.WithinStatics.{GivesSo, ValuedSo, MarkSo, static_so, scalar_so, hidden_so, redefined_so}
use Rattle.legal_instances.proofs.WithinStatements.{Go, name_goes, judged_goes, mapped_goes}
use Rattle.legal_instances.proofs.WithinBodies.{RegionSo, ProfileSo, specified_so}

module _ (had : Made) where
  formal_type_so : (env : Env) (s : State) (i : Identifier) (k : ℕ) (integral : Bool) → is_some env.generic ≡ true → IsHere had env s
      → IfPassed (formal_type_declared env s i k integral).outcome (GivesSo had env.generic (RegionSo had env.generic) s)
  formal_type_so env s i k integral inside here =
      part_so (RegionSo had env.generic (own_of env.generic s.constants_declared)) (GivesSo had env.generic (RegionSo had env.generic) s) (hide env.local i).answer _
      (hidden_so had (is_some env.generic) (own_of env.generic s.constants_declared) env.local i here.place.regions.0)
      (λ region h. record {
        goes = goes_same had env.generic s (one_type_more s) refl here.constants;
        value = redefined_so had (is_some env.generic) (own_of env.generic s.constants_declared) (key i) (formal_mark (new_identity env s) k integral) region (inside, inside) h;
      })

  formal_so : (env : Env) (s : State) (k : ℕ) (f : FormalKind) → is_some env.generic ≡ true → IsHere had env s
      → IfPassed (formal_declared env s k f).outcome (GivesSo had env.generic (RegionSo had env.generic) s)
  formal_so env s k (formal.DiscreteType i) inside here = formal_type_so env s i k false inside here
  formal_so env s k (formal.IntegerType i) inside here = formal_type_so env s i k true inside here
  formal_so env s k (formal.Object i m n) inside here =
      part_so (RegionSo had env.generic (own_of env.generic s.constants_declared)) (GivesSo had env.generic (RegionSo had env.generic) s) (hide env.local i).answer
      (λ region. scalar_mark (with_local env region) s n
      >>= (λ t. rule (Some (given (redefined (key i) (formal_object t.value.subtype (static_formal k)) region) t.next))))
      (hidden_so had (is_some env.generic) (own_of env.generic s.constants_declared) env.local i here.place.regions.0)
      (λ region h. part_so (GivesSo had env.generic (MarkSo had env.generic) s) (GivesSo had env.generic (RegionSo had env.generic) s) (scalar_mark (with_local env region) s n).answer
      (λ t. rule (Some (given (redefined (key i) (formal_object t.value.subtype (static_formal k)) region) t.next)))
      (scalar_so had (with_local env region) s n (here_local had env s region here h))
      (λ t u. record {
        goes = u.goes;
        value = redefined_so had (is_some env.generic) (own_of env.generic t.next.constants_declared) (key i) (formal_object t.value.subtype (static_formal k)) region
            (u.value, inside) (region_on had (is_some env.generic) (own_of env.generic s.constants_declared) (own_of env.generic t.next.constants_declared) u.goes.more region h);
      }))
  formal_so env s k (formal.Subprogram x) inside here =
      part_so (RegionSo had env.generic (own_of env.generic s.constants_declared)) (GivesSo had env.generic (RegionSo had env.generic) s) (hide env.local x.name).answer
      (λ region. specified (with_local env region) s x
      >>= (λ q. rule (Some (given (redefined (key x.name) (formal_routine k q.value) region) (declared_only s q.next)))))
      (hidden_so had (is_some env.generic) (own_of env.generic s.constants_declared) env.local x.name here.place.regions.0)
      (λ region h. part_so (GivesSo had env.generic (ProfileSo had env.generic) s) (GivesSo had env.generic (RegionSo had env.generic) s) (specified (with_local env region) s x).answer
      (λ q. rule (Some (given (redefined (key x.name) (formal_routine k q.value) region) (declared_only s q.next))))
      (specified_so had (with_local env region) s x (here_local had env s region here h))
      (λ q u. record {
        goes = record { constants = u.goes.constants; more = u.goes.more };
        value = redefined_so had (is_some env.generic) (own_of env.generic q.next.constants_declared) (key x.name) (formal_routine k q.value) region
            (record { parameters = u.value.parameters; result = u.value.result })
            (region_on had (is_some env.generic) (own_of env.generic s.constants_declared) (own_of env.generic q.next.constants_declared) u.goes.more region h);
      }))

  pub formals_so : (env : Env) (s : State) (p : Pos) (k : ℕ) (fs : List Formal) → is_some env.generic ≡ true → IsHere had env s
      → IfOk (formals_declared env s p k fs).answer (GivesSo had env.generic (RegionSo had env.generic) s)
  formals_so env s p k [] inside here = record { goes = goes_same had env.generic s s refl here.constants; value = here.place.regions.0 }
  formals_so env s p k (f ∷ fs) inside here =
      answered (GivesSo had env.generic (RegionSo had env.generic) s) p _
      (part_so (GivesSo had env.generic (RegionSo had env.generic) s) (GivesSo had env.generic (RegionSo had env.generic) s) _
      (λ region. formals_declared (with_local env region.value) region.next p (k + 1) fs >>= (λ rest. rule (Some rest)))
      (answered (GivesSo had env.generic (RegionSo had env.generic) s) f.pos (formal_declared env s k f.kind).outcome (formal_so env s k f.kind inside here))
      (λ region h. part_so (GivesSo had env.generic (RegionSo had env.generic) region.next) (GivesSo had env.generic (RegionSo had env.generic) s)
      (formals_declared (with_local env region.value) region.next p (k + 1) fs).answer (λ rest. rule (Some rest))
      (formals_so (with_local env region.value) region.next p (k + 1) fs inside (here_local had env region.next region.value (here_next had env s region.next here h.goes) h.value))
      (λ rest u. record { goes = goes_both had env.generic s region.next rest.next h.goes u.goes; value = u.value })))

  -- actuals
  pub actual_goes : (env : Env) (s : State) (n : ℕ) (before : List Actual) (f : Entity) (x : source.Expr) → IsHere had env s
      → IfPassed (actual_plan env s n before f x).outcome (Go had env.generic s)
  actual_goes env s n before (formal_object t e) x here =
      part_so (GivesSo had env.generic (ValuedSo had env.generic) s) (Go had env.generic s)
      (static_part env s (fits (type_in (subtype_seen n before t))) (in_range (range_in (subtype_seen n before t))) x).answer
      (λ v. rule (Some (given (object_actual v.value.value) v.next)))
      (static_so had env s (fits (type_in (subtype_seen n before t))) (in_range (range_in (subtype_seen n before t))) x here) (λ v h. h.goes)
  actual_goes env s n before f (source.named p x) here =
      part_so (Go had env.generic s) (Go had env.generic s) (denoted env s x).answer
      (λ d. typed_rule env.step (given any_actual d.next) (option_map (λ a. given a d.next) (actual_for_name n before f d.value))) (name_goes had env s x here)
      (λ d h. typed_so (Go had env.generic s) env.step (given any_actual d.next) _ here.place.step (mapped_goes had env s d.next (λ a. a) (actual_for_name n before f d.value) h))
  actual_goes env s n before f x here =
      part_so (Go had env.generic s) (Go had env.generic s) (judged env itself s x).answer (λ y. typed_rule env.step (given any_actual y.next) None) (judged_goes had env s x here)
      (λ y h. typed_so (Go had env.generic s) env.step (given any_actual y.next) None here.place.step tt)

  any_goes : (env : Env) (s : State) (x : source.Expr) → IsHere had env s → IfPassed (any_plan env s x).outcome (Go had env.generic s)
  any_goes env s (source.named p x) here =
      part_so (Go had env.generic s) (Go had env.generic s) (denoted env s x).answer (λ d. rule (Some (given any_actual d.next))) (name_goes had env s x here) (λ d h. h)
  any_goes env s x here =
      part_so (Go had env.generic s) (Go had env.generic s) (judged env itself s x).answer (λ y. rule (Some (given any_actual y.next))) (judged_goes had env s x here) (λ y h. h)

  pub actuals_go : (env : Env) (s : State) (p : Pos) (n : ℕ) (before : List Actual) (fs : Region) (xs : List source.Expr) → IsHere had env s
      → IfOk (actuals_judged env s p n before fs xs).answer (Go had env.generic s)
  actuals_go env s p n before [] [] here = goes_same had env.generic s s refl here.constants
  actuals_go env s p n before (f ∷ fs) [] here =
      answered (Go had env.generic s) p _ (typed_so (Go had env.generic s) env.step (given before s) None here.place.step tt)
  actuals_go env s p n before [] (x ∷ xs) here =
      answered (Go had env.generic s) p _
      (part_so (Go had env.generic s) (Go had env.generic s) _ (λ a. actuals_judged env a.next p n before [] xs >>= (λ rest. typed_rule env.step rest None))
      (answered (Go had env.generic s) (expr_pos x) (any_plan env s x).outcome (any_goes env s x here))
      (λ a h. part_so (Go had env.generic a.next) (Go had env.generic s) (actuals_judged env a.next p n before [] xs).answer (λ rest. typed_rule env.step rest None)
      (actuals_go env a.next p n before [] xs (here_next had env s a.next here h))
      (λ rest k. typed_so (Go had env.generic s) env.step rest None here.place.step tt)))
  actuals_go env s p n before (f ∷ fs) (x ∷ xs) here =
      answered (Go had env.generic s) p _
      (part_so (Go had env.generic s) (Go had env.generic s) _ (λ a. actuals_judged env a.next p n (before ++ a.value ∷ []) fs xs >>= (λ rest. rule (Some rest)))
      (answered (Go had env.generic s) (expr_pos x) (actual_plan env s n before f.1 x).outcome (actual_goes env s n before f.1 x here))
      (λ a h. part_so (Go had env.generic a.next) (Go had env.generic s) (actuals_judged env a.next p n (before ++ a.value ∷ []) fs xs).answer (λ rest. rule (Some rest))
      (actuals_go env a.next p n (before ++ a.value ∷ []) fs xs (here_next had env s a.next here h)) (λ rest k. goes_both had env.generic s a.next rest.next h k)))
