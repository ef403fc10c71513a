-- What a package declares takes no word of a subprogram, in the step of types: formals, declarations of the library level, and specifications of subprograms.
use Rattle.std.proofs.Common.{◌≡◌, ◌+◌, ℕ, true, false, List, [], ◌∷◌, length, Option, Some, None, option_map, IfSome, IfOk, refl, sym, ap, ◌∙◌}
use Rattle.cov_base.specs.declared.position.Pos.{Pos}
use Rattle.ada_syntax.specs.declared.name.Identifier.{Identifier}
use Rattle.ada_syntax.specs.declared.unit.Formal.{Formal}
use Rattle.ada_syntax.specs.declared.unit.FormalKind.{FormalKind}
use Rattle.ada_syntax.specs.declared.unit.FormalKind.TheVariants as formal
use Rattle.ada_syntax.specs.declared.unit.PackageItem.{PackageItem}
use Rattle.ada_syntax.specs.declared.unit.PackageItem.TheVariants as part
use Rattle.ada_syntax.specs.declared.unit.Specification.{Specification}
use Rattle.ada_meaning.specs.Shape.{group, no_shape}
use Rattle.ada_meaning.specs.Types.{static_formal}
use Rattle.ada_rules.specs.Plan.{◌>>=◌, rule}
use Rattle.ada_rules.specs.Declarations.{Declared, declared}
use Rattle.ada_rules.specs.Entities.{key, formal_object, routine, redefined}
use Rattle.ada_rules.specs.Environment.{State, Given, given, Env, with_local, hide, new_identity, one_type_more}
use Rattle.ada_rules.specs.Expressions.{scalar_mark}
use Rattle.ada_rules.specs.Instances.{formal_mark, formal_type_declared, formal_routine, formal_declared, formals_declared}
use Rattle.ada_rules.specs.Subprograms.{specified, declared_only, subprogram_declared, body_number, routine_of}
use Rattle.ada_rules.specs.Units.{package_item, package_items}
use Rattle.legal_laws.specs.Kept.{OnlyDecides}
use Rattle.legal_laws.proofs.KeptExpressions.{scalar_mark_behind}
use Rattle.legal_laws.proofs.Leading.{LeadsOn, declaration_leads}
use Rattle.legal_laws.proofs.Passing.{IfPassed, if_map, answered, ruled_so, part_so, both_ok, any_answer}
use Rattle.legal_texts.proofs.LibraryWords.{KeepsOn, declared_keeps}
use Rattle.legal_texts.proofs.ToldDeclarations.{no_program}

-- no word more, and as many objects as words, if there were as many
abbrev pub Counts : State → State → Type 0
Counts s t = (t.words ≡ s.words) × (s.objects ≡ length s.words → t.objects ≡ length t.words)

abbrev pub Count : {A : Type 0} → State → Given A → Type 0
Count s g = Counts s g.next

pub counts_same : (s t : State) → t.words ≡ s.words → t.objects ≡ s.objects → Counts s t
counts_same s t e f = (e, λ counted. f ∙ (counted ∙ ap length (sym e)))

pub counts_both : (s t u : State) → Counts s t → Counts t u → Counts s u
counts_both s t u h k = (k.0 ∙ h.0, λ counted. k.1 (h.1 counted))

any_number : {X : Type 0} (o : Option X) → IfSome o (λ n. Unit {0})
any_number None = tt
any_number (Some n) = tt

subprogram_counts : (env : Env) (s : State) (x : Specification) → IfOk (subprogram_declared env s x).answer (Count s)
subprogram_counts env s x =
    answered (Count s) x.pos _
    (part_so (λ r. Unit {0}) (Count s) (hide env.local x.name).answer
    (λ region. specified (with_local env region) s x
    >>= (λ q. rule (option_map (λ n. given (redefined (key x.name) (routine (routine_of env (key x.name) true q.value)) region) (declared_only s q.next))
    (body_number env.world env.unit_name (key x.name)))))
    (any_answer (hide env.local x.name).answer)
    (λ region u. part_so (λ q. Unit {0}) (Count s) (specified (with_local env region) s x).answer
    (λ q. rule (option_map (λ n. given (redefined (key x.name) (routine (routine_of env (key x.name) true q.value)) region) (declared_only s q.next))
    (body_number env.world env.unit_name (key x.name))))
    (any_answer (specified (with_local env region) s x).answer)
    (λ q v. ruled_so (Count s) _
    (if_map (λ n. Unit {0}) (Count s) (λ n. given (redefined (key x.name) (routine (routine_of env (key x.name) true q.value)) region) (declared_only s q.next))
    (body_number env.world env.unit_name (key x.name)) (any_number (body_number env.world env.unit_name (key x.name)))
    (λ n w. counts_same s (declared_only s q.next) refl refl)))))

pub item_counts : (env : Env) → env.is_library ≡ true → (s : State) (i : PackageItem) → IfPassed (package_item env s i).outcome (Count s)
item_counts env library s (part.Declaration d) =
    part_so (λ (x : Declared). KeepsOn s x × LeadsOn no_program [] tt 0 (λ o. group no_shape) env.generic s x) (Count s) (declared env s d).answer
    (λ x. rule (Some (given x.region x.next)))
    (both_ok (KeepsOn s) (LeadsOn no_program [] tt 0 (λ o. group no_shape) env.generic s) (declared env s d).answer (declared_keeps env library s d)
    (declaration_leads no_program [] tt 0 (λ o. group no_shape) env s d))
    (λ x h. (h.0, λ counted. h.1.counted counted))
item_counts env library s (part.Subprogram x) =
    part_so (Count s) (Count s) (subprogram_declared env s x).answer (λ r. rule (Some r)) (subprogram_counts env s x) (λ r h. h)

pub items_count : (env : Env) → env.is_library ≡ true → (s : State) (p : Pos) (items : List PackageItem) → IfOk (package_items env s p items).answer (Count s)
items_count env library s p [] = counts_same s s refl refl
items_count env library s p (i ∷ items) =
    answered (Count s) p _
    (part_so (Count s) (Count s) _ (λ r. package_items (with_local env r.value) r.next p items >>= (λ rest. rule (Some rest)))
    (answered (Count s) p (package_item env s i).outcome (item_counts env library s i))
    (λ r h. part_so (Count r.next) (Count s) (package_items (with_local env r.value) r.next p items).answer (λ rest. rule (Some rest))
    (items_count (with_local env r.value) library r.next p items) (λ rest k. counts_both s r.next rest.next h k)))

-- formals
formal_type_counts : (env : Env) (s : State) (i : Identifier) (k : ℕ) (integral : _) → IfPassed (formal_type_declared env s i k integral).outcome (Count s)
formal_type_counts env s i k integral =
    part_so (λ r. Unit {0}) (Count s) (hide env.local i).answer
    (λ region. rule (Some (given (redefined (key i) (formal_mark (new_identity env s) k integral) region) (one_type_more s)))) (any_answer (hide env.local i).answer)
    (λ region u. counts_same s (one_type_more s) refl refl)

formal_counts : (env : Env) (s : State) (k : ℕ) (f : FormalKind) → IfPassed (formal_declared env s k f).outcome (Count s)
formal_counts env s k (formal.DiscreteType i) = formal_type_counts env s i k false
formal_counts env s k (formal.IntegerType i) = formal_type_counts env s i k true
formal_counts env s k (formal.Object i m n) =
    part_so (λ r. Unit {0}) (Count s) (hide env.local i).answer
    (λ region. scalar_mark (with_local env region) s n
    >>= (λ t. rule (Some (given (redefined (key i) (formal_object t.value.subtype (static_formal k)) region) t.next)))) (any_answer (hide env.local i).answer)
    (λ region u. part_so (λ t. OnlyDecides s t.next) (Count s) (scalar_mark (with_local env region) s n).answer
    (λ t. rule (Some (given (redefined (key i) (formal_object t.value.subtype (static_formal k)) region) t.next))) (scalar_mark_behind (with_local env region) s n)
    (λ t h. counts_same s t.next (ap (λ y. y.words) h) (ap (λ y. y.objects) h)))
formal_counts env s k (formal.Subprogram x) =
    part_so (λ r. Unit {0}) (Count s) (hide env.local x.name).answer
    (λ region. specified (with_local env region) s x >>= (λ q. rule (Some (given (redefined (key x.name) (formal_routine k q.value) region) (declared_only s q.next)))))
    (any_answer (hide env.local x.name).answer)
    (λ region u. part_so (λ q. Unit {0}) (Count s) (specified (with_local env region) s x).answer
    (λ q. rule (Some (given (redefined (key x.name) (formal_routine k q.value) region) (declared_only s q.next))))
    (any_answer (specified (with_local env region) s x).answer) (λ q v. counts_same s (declared_only s q.next) refl refl))

pub formals_count : (env : Env) (s : State) (p : Pos) (k : ℕ) (fs : List Formal) → IfOk (formals_declared env s p k fs).answer (Count s)
formals_count env s p k [] = counts_same s s refl refl
formals_count env s p k (f ∷ fs) =
    answered (Count s) p _
    (part_so (Count s) (Count s) _ (λ region. formals_declared (with_local env region.value) region.next p (k + 1) fs >>= (λ rest. rule (Some rest)))
    (answered (Count s) f.pos (formal_declared env s k f.kind).outcome (formal_counts env s k f.kind))
    (λ region h. part_so (Count region.next) (Count s) (formals_declared (with_local env region.value) region.next p (k + 1) fs).answer (λ rest. rule (Some rest))
    (formals_count (with_local env region.value) region.next p (k + 1) fs) (λ rest l. counts_both s region.next rest.next h l)))
