-- The formals of a generic keep marks told by their identities, in the step of types: a formal type is a new mark.
use Rattle.std.proofs.Common.{◌+◌, ℕ, Bool, true, false, List, [], ◌∷◌, Some, IfOk, refl, ap, arith}
use Rattle.cov_base.specs.declared.position.Pos.{Pos}
use Rattle.ada_syntax.specs.declared.name.Identifier.{Identifier}
use Rattle.ada_syntax.specs.declared.unit.Formal.{Formal}
use Rattle.ada_syntax.specs.declared.unit.FormalKind.{FormalKind}
use Rattle.ada_syntax.specs.declared.unit.FormalKind.TheVariants as formal
use Rattle.ada_meaning.specs.Types.{static_formal, formal_range}
use Rattle.ada_rules.specs.Plan.{◌>>=◌, rule}
use Rattle.ada_rules.specs.Types.{formal_type, of_type}
use Rattle.ada_rules.specs.Entities.{key, formal_object, Region, redefined}
use Rattle.ada_rules.specs.Environment.{State, Given, given, Env, with_local, new_identity, one_type_more, hide}
use Rattle.ada_rules.specs.Expressions.{scalar_mark}
use Rattle.ada_rules.specs.Instances.{formal_mark, formal_type_declared, formal_routine, formal_declared, formals_declared}
use Rattle.ada_rules.specs.Subprograms.{specified, declared_only}
use Rattle.legal_laws.proofs.KeptStatics.{scalar_mark_keeps}
use Rattle.legal_laws.proofs.KeptStatics as statics
use Rattle.legal_laws.proofs.Passing.{IfPassed, answered, part_so}
use Rattle.legal_texts.specs.Told.{Table, IsToldRegion, TellsBehind, IsToldPlace}
use Rattle.legal_texts.proofs.ToldDeclarations.{redefined_told, mark_told}
use Rattle.legal_texts.proofs.ToldItems.{hidden_told, same_table, Specified, specified_so, profile_told, next_place, behind_both}

module _ (table : Table) (env : Env) (s : State) (is : IsToldPlace table env s) where
  abbrev Behind : Given Region → Type 0
  Behind g = TellsBehind table env g

  type_tells : (i : Identifier) (k : ℕ) (integral : Bool) → IfPassed (formal_type_declared env s i k integral).outcome Behind
  type_tells i k integral =
      part_so (IsToldRegion table) Behind (hide env.local i).answer
      (λ region. rule (Some (given (redefined (key i) (formal_mark (new_identity env s) k integral) region) (one_type_more s))))
      (hidden_told table env.local i is.local)
      (λ region u. let told = mark_told table env s is.is_open i (of_type (formal_type (new_identity env s) k integral) (formal_range k)) region (one_type_more s) refl u in
      record { table = told.table; more = told.more; others = told.others; region = told.region; is_open = told.is_open })

  formal_tells : (k : ℕ) (f : FormalKind) → IfPassed (formal_declared env s k f).outcome Behind
  formal_tells k (formal.DiscreteType i) = type_tells i k false
  formal_tells k (formal.IntegerType i) = type_tells i k true
  formal_tells k (formal.Object i m n) =
      part_so (IsToldRegion table) Behind (hide env.local i).answer
      (λ region. scalar_mark (with_local env region) s n
      >>= (λ t. rule (Some (given (redefined (key i) (formal_object t.value.subtype (static_formal k)) region) t.next))))
      (hidden_told table env.local i is.local)
      (λ region u. part_so (statics.Behind s) Behind (scalar_mark (with_local env region) s n).answer
      (λ t. rule (Some (given (redefined (key i) (formal_object t.value.subtype (static_formal k)) region) t.next)))
      (scalar_mark_keeps (with_local env region) s n)
      (λ t only. let same = ap (λ x. x.types) only in
      same_table table env s is (given (redefined (key i) (formal_object t.value.subtype (static_formal k)) region) t.next) (omega (arith, same))
      (redefined_told table (key i) (formal_object t.value.subtype (static_formal k)) region tt u)))
  formal_tells k (formal.Subprogram x) =
      part_so (IsToldRegion table) Behind (hide env.local x.name).answer
      (λ region. specified (with_local env region) s x
      >>= (λ q. rule (Some (given (redefined (key x.name) (formal_routine k q.value) region) (declared_only s q.next)))))
      (hidden_told table env.local x.name is.local)
      (λ region u. part_so (Specified table env s is) Behind (specified (with_local env region) s x).answer
      (λ q. rule (Some (given (redefined (key x.name) (formal_routine k q.value) region) (declared_only s q.next))))
      (specified_so table env s is region u x)
      (λ q h. let same = h.1.types in
      same_table table env s is (given (redefined (key x.name) (formal_routine k q.value) region) (declared_only s q.next)) (omega (arith, same))
      (redefined_told table (key x.name) (formal_routine k q.value) region (profile_told table q.value h.0) u)))

pub formals_tell : (table : Table) (env : Env) (s : State) (p : Pos) (k : ℕ) (fs : List Formal) → IsToldPlace table env s
    → IfOk (formals_declared env s p k fs).answer (TellsBehind table env)
formals_tell table env s p k [] is = record { table = table; more = λ i t h. h; others = λ i other. refl; region = is.local; is_open = is.is_open }
formals_tell table env s p k (f ∷ fs) is =
    answered (TellsBehind table env) p _
    (part_so (TellsBehind table env) (TellsBehind table env) _ (λ r. formals_declared (with_local env r.value) r.next p (k + 1) fs >>= (λ rest. rule (Some rest)))
    (answered (TellsBehind table env) f.pos (formal_declared env s k f.kind).outcome (formal_tells table env s is k f.kind))
    (λ r h. part_so (TellsBehind h.table (with_local env r.value)) (TellsBehind table env) (formals_declared (with_local env r.value) r.next p (k + 1) fs).answer
    (λ rest. rule (Some rest)) (formals_tell h.table (with_local env r.value) r.next p (k + 1) fs (next_place table env s r is h))
    (λ rest l. behind_both table env (with_local env r.value) r rest h (λ t o. o) (λ t u o. o) l)))
