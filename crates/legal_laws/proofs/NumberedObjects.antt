-- Objects of a subprogram are numbered in the order of the text.
use Rattle.std.proofs.Common.{◌≡◌, ◌+◌, ℕ, zero, suc, nat_eq, Bool, true, false, if◌then◌else◌, List, [], ◌∷◌, ◌++◌, map, length, Option, Some, None, option_map, IfSome, IfOk, refl, sym, ap, ◌∙◌, subst, arith, append-nil, append_assoc, length-append}
use Rattle.std.specs.Prelude.{◌&&◌, is_none}
use Rattle.std.proofs.lemmas.Bool.{false≢true}
use Rattle.cov_base.specs.declared.position.Pos.{Pos}
use Rattle.ada_syntax.specs.StatementTree as text
use Rattle.ada_syntax.specs.declared.declaration.Constancy.{Constancy}
use Rattle.ada_syntax.specs.declared.declaration.Declaration.{Declaration}
use Rattle.ada_syntax.specs.declared.declaration.DeclarationKind.{DeclarationKind}
use Rattle.ada_syntax.specs.declared.declaration.DeclarationKind.TheVariants as declares
use Rattle.ada_syntax.specs.declared.declaration.Initial.{Initial}
use Rattle.ada_syntax.specs.declared.name.Identifier.{Identifier}
use Rattle.ada_syntax.specs.declared.statement.LoopScheme.TheVariants as scheme
use Rattle.ada_meaning.specs.Objects.{number_of, objects, all_objects, branch_objects, alternative_objects, handler_objects}
use Rattle.ada_meaning.specs.Obligations.{numbers}
use Rattle.ada_meaning.specs.Tree as tree
use Rattle.ada_rules.specs.Plan.{Plan, ◌>>=◌, rule}
use Rattle.ada_rules.specs.Types.{AdaSubtype, type_in, fits}
use Rattle.ada_rules.specs.Entities.{key, Parameter, raisable, Region, redefined}
use Rattle.ada_rules.specs.Environment.{typing, Returning, no_result, result_of, typed_rule, State, Given, given, Env, owner_of, with_local, opened, in_loop, in_handler, new_identity, one_type_more, hide, hide_all, statement_label, started}
use Rattle.ada_rules.specs.Denoted.{Judged, Denoted, a_mark, a_value, a_variable, a_routine, a_call, an_exception, a_unit, the_test_io, a_thing}
use Rattle.ada_rules.specs.Expressions.{itself, denoted, judged, decision}
use Rattle.ada_rules.specs.Declarations.{indicated, defined, NewValue, new_value, Declared, may_be_bare, one_name, known_constant, lying_in, with_objects, bare_declarations, local_bare, local_set, objects_declared, exception_declared, exceptions_from, type_declared, subtype_declared, kind_declared, declared, all_declared}
use Rattle.ada_rules.specs.Statements.{stmts_of, one, target, call_of, Chosen, branches_of, Selector, selector, all_chosen, Arm, alternatives_of, ends_with_others, case_of, turned, loop_parameter, one_object_more, is_reverse, returned, returned_value, exception_of, where_allowed, all_caught, is_last, declarations_in, Frame, block_of, typed_stmt, stated, all_stated, branched, all_arms, all_handlers, all_handled}
use Rattle.legal_laws.specs.Kept.{OnlyStatics}
use Rattle.legal_laws.proofs.Passing.{IfPassed, if_map, if_test, answered, part_so, typed_so, typed_either, any_answer}
use Rattle.legal_laws.proofs.KeptStatics.{Behind, expression_keeps, indicated_keeps, new_value_keeps, defined_keeps, name_keeps, decision_keeps, target_keeps, selector_keeps, turned_keeps, all_chosen_keep, all_caught_keep}
use Rattle.legal_laws.proofs.KnownObjects.{of_one, constant_keeps}

pub numbers_joined : (n a b : ℕ) → numbers n (a + b) ≡ (numbers n a ++ numbers (n + a) b)
numbers_joined n zero b =
    let none : zero + b ≡ b = omega (arith) in
    let start : n ≡ n + zero = omega (arith) in
    ap (numbers n) none ∙ ap (λ m. numbers m b) start
numbers_joined n (suc a) b =
    let count : suc a + b ≡ suc (a + b) = omega (arith) in
    let start : suc n + a ≡ n + suc a = omega (arith) in
    ap (numbers n) count ∙ (ap (λ xs. n ∷ xs) (numbers_joined (suc n) a b) ∙ ap (λ m. n ∷ (numbers (suc n) a ++ numbers m b)) start)

-- the objects that are declared between two states
pub record Counts (s : State) (xs : List ℕ) (t : State) : Type 0 where
  pub numbered : xs ≡ numbers s.objects (length xs)
  pub next : t.objects ≡ s.objects + length xs

pub counts_none : (s t : State) → t.objects ≡ s.objects → Counts s [] t
counts_none s t e = record { numbered = refl; next = omega (arith, e) }

pub counts_statics : (s t : State) → OnlyStatics s t → Counts s [] t
counts_statics s t only = counts_none s t (ap (λ x. x.objects) only)

pub counts_joined : (s t u : State) (xs ys : List ℕ) → Counts s xs t → Counts t ys u → Counts s (xs ++ ys) u
counts_joined s t u xs ys h k = record {
  numbered =
      (λ i. h.numbered i ++ k.numbered i)
      ∙ (ap (λ n. numbers s.objects (length xs) ++ numbers n (length ys)) h.next
      ∙ (sym (numbers_joined s.objects (length xs) (length ys)) ∙ ap (numbers s.objects) (sym (length-append xs ys))));
  next = let count = length-append xs ys in let first = h.next in let second = k.next in omega (arith, count, first, second);
}

-- nothing is declared before, or behind
pub counts_behind : (s t u : State) (xs : List ℕ) → Counts s [] t → Counts t xs u → Counts s xs u
counts_behind s t u xs h k = counts_joined s t u [] xs h k

pub counts_before : (s t u : State) (xs : List ℕ) → Counts s xs t → u.objects ≡ t.objects → Counts s xs u
counts_before s t u xs h e = record { numbered = h.numbered; next = e ∙ h.next }

counts_as : (s t : State) (xs ys : List ℕ) → xs ≡ ys → Counts s xs t → Counts s ys t
counts_as s t xs ys e h = subst (λ zs. Counts s zs t) e h

-- declarations
bare_numbers : (t : AdaSubtype) (n : ℕ) (is : List Identifier) → map number_of (bare_declarations t n is) ≡ numbers n (length is)
bare_numbers t n [] = refl
bare_numbers t n (i ∷ is) =
    let next : n + 1 ≡ suc n = omega (arith) in
    ap (λ xs. n ∷ xs) (bare_numbers t (n + 1) is ∙ ap (λ m. numbers m (length is)) next)

pub numbers_length : (n k : ℕ) → length (numbers n k) ≡ k
numbers_length n zero = refl
numbers_length n (suc k) = let rest = numbers_length (suc n) k in omega (arith, rest)

counts_bare : (s t : State) (a : AdaSubtype) (is : List Identifier) → t.objects ≡ s.objects + length is
    → Counts s (map number_of (bare_declarations a s.objects is)) t
counts_bare s t a is e =
    counts_as s t (numbers s.objects (length is)) (map number_of (bare_declarations a s.objects is)) (sym (bare_numbers a s.objects is))
    (record {
      numbered = ap (numbers s.objects) (sym (numbers_length s.objects (length is)));
      next = let count = numbers_length s.objects (length is) in omega (arith, e, count);
    })

abbrev pub Declares : State → Declared → Type 0
Declares s x = Counts s (map number_of x.made) x.next

exceptions_objects : (env : Env) (s : State) (region : Region) (is : List Identifier) → (exceptions_from env s region is).next.objects ≡ s.objects
exceptions_objects env s region [] = refl
exceptions_objects env s region (i ∷ is) = exceptions_objects env (exception_declared env i s) (redefined (key i) (raisable (tree.declared (owner_of env) s.exceptions)) region) is

pub exceptions_made : (env : Env) (s : State) (region : Region) (is : List Identifier) → (exceptions_from env s region is).made ≡ []
exceptions_made env s region [] = refl
exceptions_made env s region (i ∷ is) = exceptions_made env (exception_declared env i s) (redefined (key i) (raisable (tree.declared (owner_of env) s.exceptions)) region) is

exceptions_count : (env : Env) (s : State) (region : Region) (is : List Identifier) → Declares s (exceptions_from env s region is)
exceptions_count env s region is =
    subst (λ ds. Counts s (map number_of ds) (exceptions_from env s region is).next) (sym (exceptions_made env s region is))
    (counts_none s (exceptions_from env s region is).next (exceptions_objects env s region is))

pub inside_only : {B : Type 0} (P : B → Type 0) (b : Bool) (o r : Plan B) → b ≡ false → IfPassed r.outcome P → IfPassed (if b then o else r).outcome P
inside_only P true o r e h = absurd (false≢true (sym e))
inside_only P false o r e h = h

pub mapped_any : {A B : Type 0} (P : B → Type 0) (x : Option A) (y : B) → P y → IfSome (option_map (λ u. y) x) P
mapped_any P None y h = tt
mapped_any P (Some u) y h = h

module _ (env : Env) (step : env.step ≡ typing) (inside : env.is_library ≡ false) where
  set_counts : (q : Pos) (c : Constancy) (region : Region) (i : Identifier) (a : AdaSubtype) (v : Given NewValue) (s : State) → Counts s [] v.next
      → Declares s (local_set env q c region (i ∷ []) a v)
  set_counts q c region i a v s h =
      let k = known_constant env c a (lying_in env a) v.value.known v.next in
      let same = counts_statics v.next k.next (constant_keeps env c a (lying_in env a) v.value.known v.next) in
      counts_behind s k.next _ _ (counts_behind s v.next k.next [] h same) (record { numbered = refl; next = refl })

  objects_count : (q : Pos) (c : Constancy) (region : Region) (is : List Identifier) (s : State) (t : Given AdaSubtype) (i : Option Initial) → Counts s [] t.next
      → IfPassed (objects_declared env q c region is t i).outcome (Declares s)
  objects_count q c region is s t None h =
      let made = counts_behind s t.next (with_objects t.value is t.next) _ h (counts_bare t.next (with_objects t.value is t.next) t.value is refl) in
      inside_only (Declares s) env.is_library _ _ inside
      (typed_so (Declares s) env.step (local_bare c region is t) (option_map (λ u. local_bare c region is t) (may_be_bare c)) step
      (mapped_any (Declares s) (may_be_bare c) (local_bare c region is t) made))
  objects_count q c region is s t (Some i) h =
      inside_only (Declares s) env.is_library _ _ inside
      (part_so (Behind t.next) (Declares s) (new_value (with_local env region) t.next q t.value i).answer
      (λ v. typed_rule env.step (local_set env q c region is t.value v) (option_map (λ u. local_set env q c region is t.value v) (one_name is)))
      (new_value_keeps (with_local env region) t.next q t.value i)
      (λ v k. typed_so (Declares s) env.step _ _ step
      (of_one (Declares s) is (λ js. local_set env q c region js t.value v) tt
      (λ j same. subst (λ js. Declares s (local_set env q c region js t.value v)) (sym same)
      (set_counts q c region j t.value v s (counts_behind s t.next v.next [] h (counts_statics t.next v.next k)))))))

  kind_counts : (s : State) (q : Pos) (d : DeclarationKind) → IfPassed (kind_declared env s q d).outcome (Declares s)
  kind_counts s q (declares.Type i d) =
      part_so (λ x. Unit {0}) (Declares s) (hide env.local i).answer
      (λ region. defined (with_local env region) (one_type_more s) q (new_identity env s) d >>= (λ x. rule (Some (type_declared env q i (new_identity env s) x))))
      (any_answer (hide env.local i).answer)
      (λ region u. part_so (Behind (one_type_more s)) (Declares s) (defined (with_local env region) (one_type_more s) q (new_identity env s) d).answer
      (λ x. rule (Some (type_declared env q i (new_identity env s) x))) (defined_keeps (with_local env region) (one_type_more s) q (new_identity env s) d)
      (λ x h. counts_none s _ (ap (λ y. y.objects) h)))
  kind_counts s q (declares.Subtype i t) =
      part_so (λ x. Unit {0}) (Declares s) (hide env.local i).answer
      (λ region. indicated (with_local env region) (one_type_more s) t >>= (λ x. rule (Some (subtype_declared i region (new_identity env s) x))))
      (any_answer (hide env.local i).answer)
      (λ region u. part_so (Behind (one_type_more s)) (Declares s) (indicated (with_local env region) (one_type_more s) t).answer
      (λ x. rule (Some (subtype_declared i region (new_identity env s) x))) (indicated_keeps (with_local env region) (one_type_more s) t)
      (λ x h. counts_none s x.next (ap (λ y. y.objects) h)))
  kind_counts s q (declares.Object is c t i) =
      part_so (λ x. Unit {0}) (Declares s) (hide_all q env.local is).answer
      (λ region. indicated (with_local env region) s t >>= (λ x. objects_declared env q c region is x i)) (any_answer (hide_all q env.local is).answer)
      (λ region u. part_so (Behind s) (Declares s) (indicated (with_local env region) s t).answer (λ x. objects_declared env q c region is x i)
      (indicated_keeps (with_local env region) s t) (λ x h. objects_count q c region is s x i (counts_statics s x.next h)))
  kind_counts s q (declares.Exception is) =
      part_so (λ x. Unit {0}) (Declares s) (hide_all q env.local is).answer (λ region. rule (Some (exceptions_from env s region is)))
      (any_answer (hide_all q env.local is).answer) (λ region u. exceptions_count env s region is)
  kind_counts s q (declares.Pragma a) = counts_none s s refl

  declaration_counts : (s : State) (d : Declaration) → IfOk (declared env s d).answer (Declares s)
  declaration_counts s d = answered (Declares s) d.pos (kind_declared env s d.pos d.kind).outcome (kind_counts s d.pos d.kind)

numbers_of_both : (ds es : List tree.Declaration) → map number_of (ds ++ es) ≡ (map number_of ds ++ map number_of es)
numbers_of_both [] es = refl
numbers_of_both (d ∷ ds) es = ap (λ xs. number_of d ∷ xs) (numbers_of_both ds es)

pub declarations_count : (env : Env) (s : State) (q : Pos) (ds : List Declaration) → env.step ≡ typing → env.is_library ≡ false
    → IfOk (all_declared env s q ds).answer (Declares s)
declarations_count env s q [] step inside = counts_none s s refl
declarations_count env s q (d ∷ ds) step inside =
    answered (Declares s) q _
    (part_so (Declares s) (Declares s) (declared env s d).answer
    (λ x. all_declared (with_local env x.region) x.next q ds >>= (λ xs. rule (Some (record { region = xs.region; next = xs.next; made = x.made ++ xs.made }))))
    (declaration_counts env step inside s d)
    (λ x h. part_so (Declares x.next) (Declares s) (all_declared (with_local env x.region) x.next q ds).answer
    (λ xs. rule (Some (record { region = xs.region; next = xs.next; made = x.made ++ xs.made })))
    (declarations_count (with_local env x.region) x.next q ds step inside)
    (λ xs k. counts_as s xs.next _ _ (sym (numbers_of_both x.made xs.made)) (counts_joined s x.next xs.next _ _ h k))))

-- statements
joined_objects : (xs ys : List tree.Stmt) → all_objects (stmts_of (xs ++ ys)) ≡ (all_objects (stmts_of xs) ++ all_objects (stmts_of ys))
joined_objects [] ys = refl
joined_objects (x ∷ xs) ys =
    ap (λ zs. objects x ++ zs) (joined_objects xs ys) ∙ sym (append_assoc (objects x) (all_objects (stmts_of xs)) (all_objects (stmts_of ys)))

abbrev chosen_objects : List Chosen → List ℕ
chosen_objects [] = []
chosen_objects (c ∷ cs) = all_objects (stmts_of c.statements) ++ chosen_objects cs

branches_objects : (cs : List Chosen) (other : List tree.Stmt) → branch_objects (branches_of cs other) ≡ (chosen_objects cs ++ all_objects (stmts_of other))
branches_objects [] other = refl
branches_objects (c ∷ cs) other =
    ap (λ zs. all_objects (stmts_of c.statements) ++ zs) (branches_objects cs other)
    ∙ sym (append_assoc (all_objects (stmts_of c.statements)) (chosen_objects cs) (all_objects (stmts_of other)))

abbrev arm_objects : List Arm → List ℕ
arm_objects [] = []
arm_objects (a ∷ rest) = all_objects (stmts_of a.statements) ++ arm_objects rest

alternatives_objects : (arms : List Arm) → alternative_objects (alternatives_of arms) ≡ arm_objects arms
alternatives_objects [] = refl
alternatives_objects (a ∷ rest) = ap (λ zs. all_objects (stmts_of a.statements) ++ zs) (alternatives_objects rest)

-- what statements declare
abbrev pub As : State → Given (List tree.Stmt) → Type 0
As s g = Counts s (all_objects (stmts_of g.value)) g.next

abbrev BranchesAs : State → Given (List Chosen) → Type 0
BranchesAs s g = Counts s (chosen_objects g.value) g.next

abbrev ArmsAs : State → Given (List Arm) → Type 0
ArmsAs s g = Counts s (arm_objects g.value) g.next

abbrev HandlersAs : State → Given tree.Handlers → Type 0
HandlersAs s g = Counts s (handler_objects g.value) g.next

abbrev pub FrameAs : State → Given Frame → Type 0
FrameAs s f = Counts s (all_objects (stmts_of f.value.statements) ++ handler_objects f.value.handlers) f.next

-- one statement
one_counts : (s t : State) (x : tree.Stmt) → Counts s (objects x) t → Counts s (all_objects (stmts_of (x ∷ []))) t
one_counts s t x h = counts_as s t (objects x) (objects x ++ []) (sym (append-nil (objects x))) h

abbrev IsPlain : tree.Stmt → Type 0
IsPlain x = objects x ≡ []

plain_counts : (s t : State) (x : tree.Stmt) → IsPlain x → t.objects ≡ s.objects → Counts s (all_objects (stmts_of (x ∷ []))) t
plain_counts s t x h e = one_counts s t x (counts_as s t [] (objects x) (sym h) (counts_none s t e))

stmt_plain : (env : Env) (s t : State) (l : tree.Label) (x : Option tree.Stmt) → t.objects ≡ s.objects → IfSome x IsPlain
    → IfPassed (typed_stmt env l t x).outcome (As s)
stmt_plain env s t l x e h =
    typed_either (As s) env.step (one (tree.null_statement l) t) (option_map (λ y. one y t) x) (counts_none s t e)
    (if_map IsPlain (As s) (λ y. one y t) x h (λ y k. plain_counts s t y k e))

call_plain : (l : tree.Label) (d : Denoted) → IfSome (call_of l d) IsPlain
call_plain l (a_mark i t) = tt
call_plain l (a_value x) = tt
call_plain l (a_variable v) = tt
call_plain l (a_routine r) = if_test IsPlain (nat_eq (length r.parameters) 0) _ (if_none r.result)
  where
    if_none : (o : Option Parameter) → (nat_eq (length r.parameters) 0 ≡ true)
        → IfSome (if is_none o then Some (tree.procedure_call l r.callee tree.no_actual) else None) IsPlain
    if_none None e = refl
    if_none (Some q) e = tt
call_plain l (a_call r actuals) = if_none r.result
  where
    if_none : (o : Option Parameter)
        → IfSome (if is_none o then Some (tree.procedure_call l r.callee actuals) else None) IsPlain
    if_none None = refl
    if_none (Some q) = tt
call_plain l (an_exception e) = tt
call_plain l (a_unit n) = tt
call_plain l the_test_io = tt
call_plain l a_thing = tt

allowed_plain : (b : Bool) (x : tree.Stmt) → IsPlain x → IfSome (where_allowed b x) IsPlain
allowed_plain b x h = if_test IsPlain b (Some x) (λ e. h)

returned_plain : (l : tree.Label) (r : Returning) → IfSome (returned l r) IsPlain
returned_plain l no_result = refl
returned_plain l (result_of t) = tt

value_plain : (l : tree.Label) (x : Judged) (r : Returning) → IfSome (returned_value l x r) IsPlain
value_plain l x no_result = tt
value_plain l x (result_of t) = if_test IsPlain (fits (type_in t) x.kind) _ (λ e. refl)

raised_plain : (l : tree.Label) (o : Option tree.ExceptionName) → IfSome (option_map (tree.raise_statement l) o) IsPlain
raised_plain l None = tt
raised_plain l (Some e) = refl

pub same_objects : (s t : State) → OnlyStatics s t → t.objects ≡ s.objects
same_objects s t only = ap (λ x. x.objects) only

mutual
  pub stated_counts : (env : Env) (s : State) (x : text.Statement) → env.step ≡ typing → IfOk (stated env s x).answer (As s)
  stated_counts env s (text.null q) step = counts_none s (started s) refl
  stated_counts env s (text.assignment q n i) step =
      answered (As s) q _
      (part_so (Behind (started s)) (As s) (target env (started s) n).answer
      (λ v. new_value env v.next q v.value.subtype i >>= (λ x. rule (Some (one (tree.assignment (statement_label s q) v.value.object v.value.parts x.value.value) x.next))))
      (target_keeps env (started s) n)
      (λ v h. part_so (Behind v.next) (As s) (new_value env v.next q v.value.subtype i).answer
      (λ x. rule (Some (one (tree.assignment (statement_label s q) v.value.object v.value.parts x.value.value) x.next)))
      (new_value_keeps env v.next q v.value.subtype i)
      (λ x k. counts_none s x.next (same_objects v.next x.next k ∙ same_objects (started s) v.next h))))
  stated_counts env s (text.call q n) step =
      answered (As s) q _
      (part_so (Behind (started s)) (As s) (denoted env (started s) n).answer
      (λ d. typed_stmt env (statement_label s q) d.next (call_of (statement_label s q) d.value)) (name_keeps env (started s) n)
      (λ d h. stmt_plain env s d.next (statement_label s q) (call_of (statement_label s q) d.value) (same_objects (started s) d.next h)
      (call_plain (statement_label s q) d.value)))
  stated_counts env s (text.exemption q a) step = counts_none s s refl
  stated_counts env s (text.conditional q e ss bs es) step =
      answered (As s) q _
      (part_so (Behind (started s)) (As s) (decision env (started s) q e).answer
      (λ t. all_stated env t.next q ss >>= (λ xs. branched env xs.next q bs >>= (λ ys. all_stated env ys.next q es
      >>= (λ zs. rule (Some (one (tree.if_statement (statement_label s q) (tree.branch t.value.0 t.value.1 (stmts_of xs.value) (branches_of ys.value zs.value))) zs.next))))))
      (decision_keeps env (started s) q e)
      (λ t u. part_so (As t.next) (As s) (all_stated env t.next q ss).answer
      (λ xs. branched env xs.next q bs >>= (λ ys. all_stated env ys.next q es
      >>= (λ zs. rule (Some (one (tree.if_statement (statement_label s q) (tree.branch t.value.0 t.value.1 (stmts_of xs.value) (branches_of ys.value zs.value))) zs.next)))))
      (all_count env t.next q ss step)
      (λ xs h. part_so (BranchesAs xs.next) (As s) (branched env xs.next q bs).answer
      (λ ys. all_stated env ys.next q es
      >>= (λ zs. rule (Some (one (tree.if_statement (statement_label s q) (tree.branch t.value.0 t.value.1 (stmts_of xs.value) (branches_of ys.value zs.value))) zs.next))))
      (branched_count env xs.next q bs step)
      (λ ys k. part_so (As ys.next) (As s) (all_stated env ys.next q es).answer
      (λ zs. rule (Some (one (tree.if_statement (statement_label s q) (tree.branch t.value.0 t.value.1 (stmts_of xs.value) (branches_of ys.value zs.value))) zs.next)))
      (all_count env ys.next q es step)
      (λ zs l. one_counts s zs.next (tree.if_statement (statement_label s q) (tree.branch t.value.0 t.value.1 (stmts_of xs.value) (branches_of ys.value zs.value)))
      (counts_behind s t.next zs.next _ (counts_none s t.next (same_objects (started s) t.next u))
      (counts_joined t.next xs.next zs.next (all_objects (stmts_of xs.value)) (branch_objects (branches_of ys.value zs.value)) h
      (counts_as xs.next zs.next (chosen_objects ys.value ++ all_objects (stmts_of zs.value)) (branch_objects (branches_of ys.value zs.value))
      (sym (branches_objects ys.value zs.value))
      (counts_joined xs.next ys.next zs.next (chosen_objects ys.value) (all_objects (stmts_of zs.value)) k l)))))))))
  stated_counts env s (text.case_of q e alternatives) step =
      answered (As s) q _
      (part_so (Behind (started s)) (As s) (selector env (started s) e).answer
      (λ x. all_arms env x.next x.value q alternatives
      >>= (λ arms. typed_rule env.step (one (tree.null_statement (statement_label s q)) arms.next) (case_of env s q x.value arms)))
      (selector_keeps env (started s) e)
      (λ x u. part_so (ArmsAs x.next) (As s) (all_arms env x.next x.value q alternatives).answer
      (λ arms. typed_rule env.step (one (tree.null_statement (statement_label s q)) arms.next) (case_of env s q x.value arms))
      (arms_all_count env x.next x.value q alternatives step)
      (λ arms h. typed_so (As s) env.step (one (tree.null_statement (statement_label s q)) arms.next) (case_of env s q x.value arms) step
      (if_test (As s) (ends_with_others arms.value) _
      (λ b. one_counts s _ (tree.case_statement (statement_label s q) x.value.expr (alternatives_of arms.value))
      (counts_before s arms.next _ _
      (counts_as s arms.next (arm_objects arms.value) (alternative_objects (alternatives_of arms.value)) (sym (alternatives_objects arms.value))
      (counts_behind s x.next arms.next (arm_objects arms.value) (counts_none s x.next (same_objects (started s) x.next u)) h)) refl))))))
  stated_counts env s (text.repeat q scheme.Forever ss) step =
      answered (As s) q _
      (part_so (As (started s)) (As s) (all_stated (in_loop env) (started s) q ss).answer
      (λ xs. rule (Some (one (tree.bare_loop (statement_label s q) (stmts_of xs.value)) xs.next)))
      (all_count (in_loop env) (started s) q ss step)
      (λ xs h. one_counts s xs.next (tree.bare_loop (statement_label s q) (stmts_of xs.value))
      (counts_behind s (started s) xs.next _ (counts_none s (started s) refl) h)))
  stated_counts env s (text.repeat q (scheme.While e) ss) step =
      answered (As s) q _
      (part_so (Behind (started s)) (As s) (decision env (started s) q e).answer
      (λ t. all_stated (in_loop env) t.next q ss >>= (λ xs. rule (Some (one (tree.while_loop (statement_label s q) t.value.0 t.value.1 (stmts_of xs.value)) xs.next))))
      (decision_keeps env (started s) q e)
      (λ t u. part_so (As t.next) (As s) (all_stated (in_loop env) t.next q ss).answer
      (λ xs. rule (Some (one (tree.while_loop (statement_label s q) t.value.0 t.value.1 (stmts_of xs.value)) xs.next)))
      (all_count (in_loop env) t.next q ss step)
      (λ xs h. one_counts s xs.next (tree.while_loop (statement_label s q) t.value.0 t.value.1 (stmts_of xs.value))
      (counts_behind s t.next xs.next _ (counts_none s t.next (same_objects (started s) t.next u)) h))))
  stated_counts env s (text.repeat q (scheme.For i d r) ss) step =
      answered (As s) q _
      (part_so (λ x. Unit {0}) (As s) (hide [] i).answer
      (λ region. turned (with_local (opened env) region) (started s) r
      >>= (λ t. all_stated (in_loop (with_local (opened env) ((key i, loop_parameter t.next.objects t.value) ∷ []))) (one_object_more q t.value.subtype t.next) q ss
      >>= (λ xs. rule (Some (one (tree.for_loop (statement_label s q) t.next.objects (is_reverse d) t.value.over (stmts_of xs.value)) xs.next)))))
      (any_answer (hide [] i).answer)
      (λ region v. part_so (Behind (started s)) (As s) (turned (with_local (opened env) region) (started s) r).answer
      (λ t. all_stated (in_loop (with_local (opened env) ((key i, loop_parameter t.next.objects t.value) ∷ []))) (one_object_more q t.value.subtype t.next) q ss
      >>= (λ xs. rule (Some (one (tree.for_loop (statement_label s q) t.next.objects (is_reverse d) t.value.over (stmts_of xs.value)) xs.next))))
      (turned_keeps (with_local (opened env) region) (started s) r)
      (λ t u. part_so (As (one_object_more q t.value.subtype t.next)) (As s)
      (all_stated (in_loop (with_local (opened env) ((key i, loop_parameter t.next.objects t.value) ∷ []))) (one_object_more q t.value.subtype t.next) q ss).answer
      (λ xs. rule (Some (one (tree.for_loop (statement_label s q) t.next.objects (is_reverse d) t.value.over (stmts_of xs.value)) xs.next)))
      (all_count (in_loop (with_local (opened env) ((key i, loop_parameter t.next.objects t.value) ∷ []))) (one_object_more q t.value.subtype t.next) q ss step)
      (λ xs h. one_counts s xs.next (tree.for_loop (statement_label s q) t.next.objects (is_reverse d) t.value.over (stmts_of xs.value))
      (counts_behind s t.next xs.next _ (counts_none s t.next (same_objects (started s) t.next u))
      (counts_joined t.next (one_object_more q t.value.subtype t.next) xs.next (t.next.objects ∷ []) (all_objects (stmts_of xs.value))
      (record { numbered = refl; next = refl }) h))))))
  stated_counts env s (text.exit q None) step =
      answered (As s) q _
      (stmt_plain env s (started s) (statement_label s q) (where_allowed env.is_looping (tree.exit_statement (statement_label s q))) refl
      (allowed_plain env.is_looping (tree.exit_statement (statement_label s q)) refl))
  stated_counts env s (text.exit q (Some e)) step =
      answered (As s) q _
      (part_so (Behind (started s)) (As s) (decision env (started s) q e).answer
      (λ t. typed_stmt env (statement_label s q) t.next (where_allowed env.is_looping (tree.exit_when (statement_label s q) t.value.0 t.value.1)))
      (decision_keeps env (started s) q e)
      (λ t u. stmt_plain env s t.next (statement_label s q) (where_allowed env.is_looping (tree.exit_when (statement_label s q) t.value.0 t.value.1))
      (same_objects (started s) t.next u) (allowed_plain env.is_looping (tree.exit_when (statement_label s q) t.value.0 t.value.1) refl)))
  stated_counts env s (text.returns q None) step =
      answered (As s) q _
      (stmt_plain env s (started s) (statement_label s q) (returned (statement_label s q) env.returning) refl (returned_plain (statement_label s q) env.returning))
  stated_counts env s (text.returns q (Some e)) step =
      answered (As s) q _
      (part_so (Behind (started s)) (As s) (judged env itself (started s) e).answer
      (λ x. typed_stmt env (statement_label s q) x.next (returned_value (statement_label s q) x.value env.returning)) (expression_keeps env (started s) e)
      (λ x u. stmt_plain env s x.next (statement_label s q) (returned_value (statement_label s q) x.value env.returning) (same_objects (started s) x.next u)
      (value_plain (statement_label s q) x.value env.returning)))
  stated_counts env s (text.raise q None) step =
      answered (As s) q _
      (stmt_plain env s (started s) (statement_label s q) (where_allowed env.is_handling (tree.raise_again (statement_label s q))) refl
      (allowed_plain env.is_handling (tree.raise_again (statement_label s q)) refl))
  stated_counts env s (text.raise q (Some n)) step =
      answered (As s) q _
      (part_so (Behind (started s)) (As s) (denoted env (started s) n).answer
      (λ d. typed_stmt env (statement_label s q) d.next (option_map (tree.raise_statement (statement_label s q)) (exception_of d.value)))
      (name_keeps env (started s) n)
      (λ d u. stmt_plain env s d.next (statement_label s q) (option_map (tree.raise_statement (statement_label s q)) (exception_of d.value))
      (same_objects (started s) d.next u) (raised_plain (statement_label s q) (exception_of d.value))))
  stated_counts env s (text.block q ds h) step =
      answered (As s) q _
      (part_so (Declares s) (As s) (all_declared (opened env) s q (declarations_in ds)).answer
      (λ x. all_handled (with_local (opened env) x.region) x.next q h >>= (λ f. rule (Some (one (tree.block_statement (block_of x.made f.value)) f.next))))
      (declarations_count (opened env) s q (declarations_in ds) step refl)
      (λ x u. part_so (FrameAs x.next) (As s) (all_handled (with_local (opened env) x.region) x.next q h).answer
      (λ f. rule (Some (one (tree.block_statement (block_of x.made f.value)) f.next)))
      (handled_count (with_local (opened env) x.region) x.next q h step)
      (λ f k. one_counts s f.next (tree.block_statement (block_of x.made f.value))
      (counts_joined s x.next f.next (map number_of x.made) (all_objects (stmts_of f.value.statements) ++ handler_objects f.value.handlers) u k))))

  pub all_count : (env : Env) (s : State) (q : Pos) (xs : text.Statements) → env.step ≡ typing → IfOk (all_stated env s q xs).answer (As s)
  all_count env s q text.no_statements step = counts_none s s refl
  all_count env s q (text.then_also x xs) step =
      answered (As s) q _
      (part_so (As s) (As s) (stated env s x).answer
      (λ y. all_stated env y.next q xs >>= (λ ys. rule (Some (given (y.value ++ ys.value) ys.next)))) (stated_counts env s x step)
      (λ y h. part_so (As y.next) (As s) (all_stated env y.next q xs).answer (λ ys. rule (Some (given (y.value ++ ys.value) ys.next)))
      (all_count env y.next q xs step)
      (λ ys k. counts_as s ys.next _ _ (sym (joined_objects y.value ys.value))
      (counts_joined s y.next ys.next (all_objects (stmts_of y.value)) (all_objects (stmts_of ys.value)) h k))))

  pub branched_count : (env : Env) (s : State) (q : Pos) (bs : text.Branches) → env.step ≡ typing → IfOk (branched env s q bs).answer (BranchesAs s)
  branched_count env s q text.no_branches step = counts_none s s refl
  branched_count env s q (text.branch e ss bs) step =
      answered (BranchesAs s) q _
      (part_so (Behind s) (BranchesAs s) (decision env s q e).answer
      (λ t. all_stated env t.next q ss >>= (λ xs. branched env xs.next q bs
      >>= (λ ys. rule (Some (given (record { label = t.value.0; test = t.value.1; statements = xs.value } ∷ ys.value) ys.next)))))
      (decision_keeps env s q e)
      (λ t u. part_so (As t.next) (BranchesAs s) (all_stated env t.next q ss).answer
      (λ xs. branched env xs.next q bs >>= (λ ys. rule (Some (given (record { label = t.value.0; test = t.value.1; statements = xs.value } ∷ ys.value) ys.next))))
      (all_count env t.next q ss step)
      (λ xs h. part_so (BranchesAs xs.next) (BranchesAs s) (branched env xs.next q bs).answer
      (λ ys. rule (Some (given (record { label = t.value.0; test = t.value.1; statements = xs.value } ∷ ys.value) ys.next)))
      (branched_count env xs.next q bs step)
      (λ ys k. counts_behind s t.next ys.next _ (counts_none s t.next (same_objects s t.next u))
      (counts_joined t.next xs.next ys.next (all_objects (stmts_of xs.value)) (chosen_objects ys.value) h k)))))

  pub arms_all_count : (env : Env) (s : State) (x : Selector) (q : Pos) (rest : text.Alternatives) → env.step ≡ typing → IfOk (all_arms env s x q rest).answer (ArmsAs s)
  arms_all_count env s x q text.no_alternatives step = counts_none s s refl
  arms_all_count env s x q (text.alternative cs ss rest) step =
      answered (ArmsAs s) q _
      (part_so (Behind s) (ArmsAs s) (all_chosen env s x q cs).answer
      (λ ds. all_stated env ds.next q ss >>= (λ xs. all_arms env xs.next x q rest
      >>= (λ ys. rule (Some (given (record { choices = ds.value; statements = xs.value } ∷ ys.value) ys.next)))))
      (all_chosen_keep env s x q cs)
      (λ ds u. part_so (As ds.next) (ArmsAs s) (all_stated env ds.next q ss).answer
      (λ xs. all_arms env xs.next x q rest >>= (λ ys. rule (Some (given (record { choices = ds.value; statements = xs.value } ∷ ys.value) ys.next))))
      (all_count env ds.next q ss step)
      (λ xs h. part_so (ArmsAs xs.next) (ArmsAs s) (all_arms env xs.next x q rest).answer
      (λ ys. rule (Some (given (record { choices = ds.value; statements = xs.value } ∷ ys.value) ys.next)))
      (arms_all_count env xs.next x q rest step)
      (λ ys k. counts_behind s ds.next ys.next _ (counts_none s ds.next (same_objects s ds.next u))
      (counts_joined ds.next xs.next ys.next (all_objects (stmts_of xs.value)) (arm_objects ys.value) h k)))))

  pub handlers_count : (env : Env) (s : State) (q : Pos) (hs : text.Handlers) → env.step ≡ typing → IfOk (all_handlers env s q hs).answer (HandlersAs s)
  handlers_count env s q text.no_handlers step = counts_none s s refl
  handlers_count env s q (text.handler cs ss hs) step =
      answered (HandlersAs s) q _
      (part_so (Behind s) (HandlersAs s) (all_caught env s (is_last hs && nat_eq (length cs) 1) q cs).answer
      (λ ds. all_stated (in_handler env) ds.next q ss >>= (λ xs. all_handlers env xs.next q hs
      >>= (λ ys. rule (Some (given (tree.handler ds.value (stmts_of xs.value) ys.value) ys.next)))))
      (all_caught_keep env s (is_last hs && nat_eq (length cs) 1) q cs)
      (λ ds u. part_so (As ds.next) (HandlersAs s) (all_stated (in_handler env) ds.next q ss).answer
      (λ xs. all_handlers env xs.next q hs >>= (λ ys. rule (Some (given (tree.handler ds.value (stmts_of xs.value) ys.value) ys.next))))
      (all_count (in_handler env) ds.next q ss step)
      (λ xs h. part_so (HandlersAs xs.next) (HandlersAs s) (all_handlers env xs.next q hs).answer
      (λ ys. rule (Some (given (tree.handler ds.value (stmts_of xs.value) ys.value) ys.next)))
      (handlers_count env xs.next q hs step)
      (λ ys k. counts_behind s ds.next ys.next _ (counts_none s ds.next (same_objects s ds.next u))
      (counts_joined ds.next xs.next ys.next (all_objects (stmts_of xs.value)) (handler_objects ys.value) h k)))))

  pub handled_count : (env : Env) (s : State) (q : Pos) (h : text.Handled) → env.step ≡ typing → IfOk (all_handled env s q h).answer (FrameAs s)
  handled_count env s q (text.handled ss hs) step =
      answered (FrameAs s) q _
      (part_so (As s) (FrameAs s) (all_stated env s q ss).answer
      (λ xs. all_handlers env xs.next q hs >>= (λ ys. rule (Some (given (record { statements = xs.value; handlers = ys.value }) ys.next))))
      (all_count env s q ss step)
      (λ xs h. part_so (HandlersAs xs.next) (FrameAs s) (all_handlers env xs.next q hs).answer
      (λ ys. rule (Some (given (record { statements = xs.value; handlers = ys.value }) ys.next)))
      (handlers_count env xs.next q hs step)
      (λ ys k. counts_joined s xs.next ys.next (all_objects (stmts_of xs.value)) (handler_objects ys.value) h k)))
