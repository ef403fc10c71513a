-- Statement obligations are numbered in the order of the text.
use Rattle.std.proofs.Common.{◌≡◌, ◌+◌, ℕ, nat_eq, Bool, true, false, if◌then◌else◌, List, [], ◌∷◌, ◌++◌, length, Option, Some, None, option_map, IfSome, IfOk, refl, sym, ap, ◌∙◌, subst, arith, append-nil, append_assoc, length-append}
use Rattle.std.specs.Prelude.{◌&&◌, is_none}
use Rattle.cov_base.specs.declared.position.Pos.{Pos}
use Rattle.ada_syntax.specs.StatementTree as text
use Rattle.ada_syntax.specs.declared.declaration.Constancy.{Constancy}
use Rattle.ada_syntax.specs.declared.declaration.Declaration.{Declaration}
use Rattle.ada_syntax.specs.declared.declaration.DeclarationKind.{DeclarationKind}
use Rattle.ada_syntax.specs.declared.declaration.DeclarationKind.TheVariants as declares
use Rattle.ada_syntax.specs.declared.declaration.Initial.{Initial}
use Rattle.ada_syntax.specs.declared.name.Identifier.{Identifier}
use Rattle.ada_syntax.specs.declared.statement.LoopScheme.TheVariants as scheme
use Rattle.ada_meaning.specs.Collected.{declaration_labels, labels, all_labels, branch_labels, alternative_labels, handler_labels, block_labels}
use Rattle.ada_meaning.specs.Obligations.{numbers}
use Rattle.ada_meaning.specs.Tree as tree
use Rattle.ada_rules.specs.Plan.{◌>>=◌, rule}
use Rattle.ada_rules.specs.Types.{AdaSubtype, type_in, fits}
use Rattle.ada_rules.specs.Entities.{key, Parameter, raisable, Region, redefined}
use Rattle.ada_rules.specs.Environment.{typing, Returning, no_result, result_of, typed_rule, State, Given, given, Env, owner_of, with_local, opened, in_loop, in_handler, new_identity, one_type_more, hide, hide_all, statement_label, started}
use Rattle.ada_rules.specs.Denoted.{Judged, Denoted, a_mark, a_value, a_variable, a_routine, a_call, an_exception, a_unit, the_test_io, a_thing}
use Rattle.ada_rules.specs.Expressions.{itself, denoted, judged, decision}
use Rattle.ada_rules.specs.Declarations.{indicated, defined, NewValue, new_value, Declared, may_be_bare, one_name, known_constant, lying_in, with_objects, bare_declarations, local_bare, local_set, objects_declared, exception_declared, exceptions_from, type_declared, subtype_declared, kind_declared, declared, all_declared}
use Rattle.ada_rules.specs.Statements.{stmts_of, one, target, call_of, Chosen, branches_of, Selector, selector, all_chosen, Arm, alternatives_of, ends_with_others, case_of, turned, loop_parameter, one_object_more, is_reverse, returned, returned_value, exception_of, where_allowed, all_caught, is_last, declarations_in, Frame, block_of, typed_stmt, stated, all_stated, branched, all_arms, all_handlers, all_handled}
use Rattle.legal_laws.specs.Kept.{OnlyStatics}
use Rattle.legal_laws.proofs.Passing.{IfPassed, if_map, if_test, answered, part_so, typed_so, typed_either, any_answer}
use Rattle.legal_laws.proofs.KeptStatics.{Behind, expression_keeps, indicated_keeps, new_value_keeps, defined_keeps, name_keeps, decision_keeps, target_keeps, selector_keeps, turned_keeps, all_chosen_keep, all_caught_keep}
use Rattle.legal_laws.proofs.KnownObjects.{of_one, constant_keeps}
use Rattle.legal_laws.proofs.NumberedObjects.{numbers_joined, exceptions_made, inside_only, mapped_any}
use Rattle.legal_programs.specs.Labelled.{Labels}
use Rattle.legal_programs.proofs.Lists.{map_joined}

pub labels_none : (s t : State) → t.statements ≡ s.statements → Labels s [] t
labels_none s t e = record { numbered = refl; next = omega (arith, e) }

labels_statics : (s t : State) → OnlyStatics s t → Labels s [] t
labels_statics s t only = labels_none s t (ap (λ x. x.statements) only)

pub labels_joined : (s t u : State) (xs ys : List tree.Label) → Labels s xs t → Labels t ys u → Labels s (xs ++ ys) u
labels_joined s t u xs ys h k = record {
  numbered =
      map_joined (λ l. l.number) xs ys
      ∙ ((λ i. h.numbered i ++ k.numbered i)
      ∙ (ap (λ n. numbers s.statements (length xs) ++ numbers n (length ys)) h.next
      ∙ (sym (numbers_joined s.statements (length xs) (length ys)) ∙ ap (numbers s.statements) (sym (length-append xs ys)))));
  next = let count = length-append xs ys in let first = h.next in let second = k.next in omega (arith, count, first, second);
}

labels_behind : (s t u : State) (xs : List tree.Label) → Labels s [] t → Labels t xs u → Labels s xs u
labels_behind s t u xs h k = labels_joined s t u [] xs h k

labels_before : (s t u : State) (xs : List tree.Label) → Labels s xs t → u.statements ≡ t.statements → Labels s xs u
labels_before s t u xs h e = record { numbered = h.numbered; next = e ∙ h.next }

pub labels_as : (s t : State) (xs ys : List tree.Label) → xs ≡ ys → Labels s xs t → Labels s ys t
labels_as s t xs ys e h = subst (λ zs. Labels s zs t) e h

-- the label of a statement, whose number is taken
first_label : (s : State) (q : Pos) (t : State) → t.statements ≡ (started s).statements → Labels s (statement_label s q ∷ []) t
first_label s q t e = record { numbered = refl; next = e }

abbrev pub Declares : State → Declared → Type 0
Declares s x = Labels s (declaration_labels x.made) x.next

exceptions_statements : (env : Env) (s : State) (region : Region) (is : List Identifier) → (exceptions_from env s region is).next.statements ≡ s.statements
exceptions_statements env s region [] = refl
exceptions_statements env s region (i ∷ is) =
    exceptions_statements env (exception_declared env i s) (redefined (key i) (raisable (tree.declared (owner_of env) s.exceptions)) region) is

pub bare_labels : (t : AdaSubtype) (n : ℕ) (is : List Identifier) → declaration_labels (bare_declarations t n is) ≡ []
bare_labels t n [] = refl
bare_labels t n (i ∷ is) = bare_labels t (n + 1) is

exceptions_labelled : (env : Env) (s : State) (region : Region) (is : List Identifier) → Declares s (exceptions_from env s region is)
exceptions_labelled env s region is =
    subst (λ ds. Labels s (declaration_labels ds) (exceptions_from env s region is).next) (sym (exceptions_made env s region is))
    (labels_none s (exceptions_from env s region is).next (exceptions_statements env s region is))

module _ (env : Env) (step : env.step ≡ typing) (inside : env.is_library ≡ false) where
  set_labelled : (q : Pos) (c : Constancy) (region : Region) (i : Identifier) (a : AdaSubtype) (v : Given NewValue) (s : State) → Labels s [] v.next
      → Declares s (local_set env q c region (i ∷ []) a v)
  set_labelled q c region i a v s h =
      let k = known_constant env c a (lying_in env a) v.value.known v.next in
      let same = labels_statics v.next k.next (constant_keeps env c a (lying_in env a) v.value.known v.next) in
      labels_behind s k.next _ _ (labels_behind s v.next k.next [] h same) (record { numbered = refl; next = refl })

  objects_labelled : (q : Pos) (c : Constancy) (region : Region) (is : List Identifier) (s : State) (t : Given AdaSubtype) (i : Option Initial) → Labels s [] t.next
      → IfPassed (objects_declared env q c region is t i).outcome (Declares s)
  objects_labelled q c region is s t None h =
      let made = labels_as s (with_objects t.value is t.next) [] _ (sym (bare_labels t.value t.next.objects is)) (labels_before s t.next (with_objects t.value is t.next) [] h refl) in
      inside_only (Declares s) env.is_library _ _ inside
      (typed_so (Declares s) env.step (local_bare c region is t) (option_map (λ u. local_bare c region is t) (may_be_bare c)) step
      (mapped_any (Declares s) (may_be_bare c) (local_bare c region is t) made))
  objects_labelled q c region is s t (Some i) h =
      inside_only (Declares s) env.is_library _ _ inside
      (part_so (Behind t.next) (Declares s) (new_value (with_local env region) t.next q t.value i).answer
      (λ v. typed_rule env.step (local_set env q c region is t.value v) (option_map (λ u. local_set env q c region is t.value v) (one_name is)))
      (new_value_keeps (with_local env region) t.next q t.value i)
      (λ v k. typed_so (Declares s) env.step _ _ step
      (of_one (Declares s) is (λ js. local_set env q c region js t.value v) tt
      (λ j same. subst (λ js. Declares s (local_set env q c region js t.value v)) (sym same)
      (set_labelled q c region j t.value v s (labels_behind s t.next v.next [] h (labels_statics t.next v.next k)))))))

  kind_labelled : (s : State) (q : Pos) (d : DeclarationKind) → IfPassed (kind_declared env s q d).outcome (Declares s)
  kind_labelled s q (declares.Type i d) =
      part_so (λ x. Unit {0}) (Declares s) (hide env.local i).answer
      (λ region. defined (with_local env region) (one_type_more s) q (new_identity env s) d >>= (λ x. rule (Some (type_declared env q i (new_identity env s) x))))
      (any_answer (hide env.local i).answer)
      (λ region u. part_so (Behind (one_type_more s)) (Declares s) (defined (with_local env region) (one_type_more s) q (new_identity env s) d).answer
      (λ x. rule (Some (type_declared env q i (new_identity env s) x))) (defined_keeps (with_local env region) (one_type_more s) q (new_identity env s) d)
      (λ x h. labels_none s _ (ap (λ y. y.statements) h)))
  kind_labelled s q (declares.Subtype i t) =
      part_so (λ x. Unit {0}) (Declares s) (hide env.local i).answer
      (λ region. indicated (with_local env region) (one_type_more s) t >>= (λ x. rule (Some (subtype_declared i region (new_identity env s) x))))
      (any_answer (hide env.local i).answer)
      (λ region u. part_so (Behind (one_type_more s)) (Declares s) (indicated (with_local env region) (one_type_more s) t).answer
      (λ x. rule (Some (subtype_declared i region (new_identity env s) x))) (indicated_keeps (with_local env region) (one_type_more s) t)
      (λ x h. labels_none s x.next (ap (λ y. y.statements) h)))
  kind_labelled s q (declares.Object is c t i) =
      part_so (λ x. Unit {0}) (Declares s) (hide_all q env.local is).answer
      (λ region. indicated (with_local env region) s t >>= (λ x. objects_declared env q c region is x i)) (any_answer (hide_all q env.local is).answer)
      (λ region u. part_so (Behind s) (Declares s) (indicated (with_local env region) s t).answer (λ x. objects_declared env q c region is x i)
      (indicated_keeps (with_local env region) s t) (λ x h. objects_labelled q c region is s x i (labels_statics s x.next h)))
  kind_labelled s q (declares.Exception is) =
      part_so (λ x. Unit {0}) (Declares s) (hide_all q env.local is).answer (λ region. rule (Some (exceptions_from env s region is)))
      (any_answer (hide_all q env.local is).answer) (λ region u. exceptions_labelled env s region is)
  kind_labelled s q (declares.Pragma a) = labels_none s s refl

  declaration_labelled : (s : State) (d : Declaration) → IfOk (declared env s d).answer (Declares s)
  declaration_labelled s d = answered (Declares s) d.pos (kind_declared env s d.pos d.kind).outcome (kind_labelled s d.pos d.kind)

pub labels_of_both : (ds es : List tree.Declaration) → declaration_labels (ds ++ es) ≡ (declaration_labels ds ++ declaration_labels es)
labels_of_both [] es = refl
labels_of_both (tree.initialized l d v ∷ ds) es = ap (λ xs. l ∷ xs) (labels_of_both ds es)
labels_of_both (tree.without_value d t ∷ ds) es = labels_of_both ds es

pub declarations_labelled : (env : Env) (s : State) (q : Pos) (ds : List Declaration) → env.step ≡ typing → env.is_library ≡ false
    → IfOk (all_declared env s q ds).answer (Declares s)
declarations_labelled env s q [] step inside = labels_none s s refl
declarations_labelled env s q (d ∷ ds) step inside =
    answered (Declares s) q _
    (part_so (Declares s) (Declares s) (declared env s d).answer
    (λ x. all_declared (with_local env x.region) x.next q ds >>= (λ xs. rule (Some (record { region = xs.region; next = xs.next; made = x.made ++ xs.made }))))
    (declaration_labelled env step inside s d)
    (λ x h. part_so (Declares x.next) (Declares s) (all_declared (with_local env x.region) x.next q ds).answer
    (λ xs. rule (Some (record { region = xs.region; next = xs.next; made = x.made ++ xs.made })))
    (declarations_labelled (with_local env x.region) x.next q ds step inside)
    (λ xs k. labels_as s xs.next _ _ (sym (labels_of_both x.made xs.made)) (labels_joined s x.next xs.next _ _ h k))))

-- statements
pub joined_labels : (xs ys : List tree.Stmt) → all_labels (stmts_of (xs ++ ys)) ≡ (all_labels (stmts_of xs) ++ all_labels (stmts_of ys))
joined_labels [] ys = refl
joined_labels (x ∷ xs) ys =
    ap (λ zs. labels x ++ zs) (joined_labels xs ys) ∙ sym (append_assoc (labels x) (all_labels (stmts_of xs)) (all_labels (stmts_of ys)))

abbrev pub chosen_labels : List Chosen → List tree.Label
chosen_labels [] = []
chosen_labels (c ∷ cs) = all_labels (stmts_of c.statements) ++ chosen_labels cs

pub branches_labels : (cs : List Chosen) (other : List tree.Stmt) → branch_labels (branches_of cs other) ≡ (chosen_labels cs ++ all_labels (stmts_of other))
branches_labels [] other = refl
branches_labels (c ∷ cs) other =
    ap (λ zs. all_labels (stmts_of c.statements) ++ zs) (branches_labels cs other)
    ∙ sym (append_assoc (all_labels (stmts_of c.statements)) (chosen_labels cs) (all_labels (stmts_of other)))

abbrev pub arm_labels : List Arm → List tree.Label
arm_labels [] = []
arm_labels (a ∷ rest) = all_labels (stmts_of a.statements) ++ arm_labels rest

pub alternatives_labels : (arms : List Arm) → alternative_labels (alternatives_of arms) ≡ arm_labels arms
alternatives_labels [] = refl
alternatives_labels (a ∷ rest) = ap (λ zs. all_labels (stmts_of a.statements) ++ zs) (alternatives_labels rest)

-- what statements declare
abbrev pub As : State → Given (List tree.Stmt) → Type 0
As s g = Labels s (all_labels (stmts_of g.value)) g.next

abbrev BranchesAs : State → Given (List Chosen) → Type 0
BranchesAs s g = Labels s (chosen_labels g.value) g.next

abbrev ArmsAs : State → Given (List Arm) → Type 0
ArmsAs s g = Labels s (arm_labels g.value) g.next

abbrev HandlersAs : State → Given tree.Handlers → Type 0
HandlersAs s g = Labels s (handler_labels g.value) g.next

abbrev pub FrameAs : State → Given Frame → Type 0
FrameAs s f = Labels s (all_labels (stmts_of f.value.statements) ++ handler_labels f.value.handlers) f.next

-- one statement
one_labelled : (s t : State) (x : tree.Stmt) → Labels s (labels x) t → Labels s (all_labels (stmts_of (x ∷ []))) t
one_labelled s t x h = labels_as s t (labels x) (labels x ++ []) (sym (append-nil (labels x))) h

-- a statement that is one obligation
abbrev pub IsPlain : tree.Label → tree.Stmt → Type 0
IsPlain l x = labels x ≡ (l ∷ [])

plain_labelled : (s t : State) (q : Pos) (x : tree.Stmt) → IsPlain (statement_label s q) x → t.statements ≡ (started s).statements
    → Labels s (all_labels (stmts_of (x ∷ []))) t
plain_labelled s t q x h e = one_labelled s t x (labels_as s t (statement_label s q ∷ []) (labels x) (sym h) (first_label s q t e))

stmt_plain : (env : Env) (s t : State) (q : Pos) (x : Option tree.Stmt) → t.statements ≡ (started s).statements → IfSome x (IsPlain (statement_label s q))
    → IfPassed (typed_stmt env (statement_label s q) t x).outcome (As s)
stmt_plain env s t q x e h =
    typed_either (As s) env.step (one (tree.null_statement (statement_label s q)) t) (option_map (λ y. one y t) x)
    (plain_labelled s t q (tree.null_statement (statement_label s q)) refl e)
    (if_map (IsPlain (statement_label s q)) (As s) (λ y. one y t) x h (λ y k. plain_labelled s t q y k e))

pub call_plain : (l : tree.Label) (d : Denoted) → IfSome (call_of l d) (IsPlain l)
call_plain l (a_mark i t) = tt
call_plain l (a_value x) = tt
call_plain l (a_variable v) = tt
call_plain l (a_routine r) = if_test (IsPlain l) (nat_eq (length r.parameters) 0) _ (if_none r.result)
  where
    if_none : (o : Option Parameter) → (nat_eq (length r.parameters) 0 ≡ true)
        → IfSome (if is_none o then Some (tree.procedure_call l r.callee tree.no_actual) else None) (IsPlain l)
    if_none None e = refl
    if_none (Some q) e = tt
call_plain l (a_call r actuals) = if_none r.result
  where
    if_none : (o : Option Parameter)
        → IfSome (if is_none o then Some (tree.procedure_call l r.callee actuals) else None) (IsPlain l)
    if_none None = refl
    if_none (Some q) = tt
call_plain l (an_exception e) = tt
call_plain l (a_unit n) = tt
call_plain l the_test_io = tt
call_plain l a_thing = tt

pub allowed_plain : (l : tree.Label) (b : Bool) (x : tree.Stmt) → IsPlain l x → IfSome (where_allowed b x) (IsPlain l)
allowed_plain l b x h = if_test (IsPlain l) b (Some x) (λ e. h)

pub returned_plain : (l : tree.Label) (r : Returning) → IfSome (returned l r) (IsPlain l)
returned_plain l no_result = refl
returned_plain l (result_of t) = tt

pub value_plain : (l : tree.Label) (x : Judged) (r : Returning) → IfSome (returned_value l x r) (IsPlain l)
value_plain l x no_result = tt
value_plain l x (result_of t) = if_test (IsPlain l) (fits (type_in t) x.kind) _ (λ e. refl)

pub raised_plain : (l : tree.Label) (o : Option tree.ExceptionName) → IfSome (option_map (tree.raise_statement l) o) (IsPlain l)
raised_plain l None = tt
raised_plain l (Some e) = refl

pub same_statements : (s t : State) → OnlyStatics s t → t.statements ≡ s.statements
same_statements s t only = ap (λ x. x.statements) only

-- a block or a body
pub block_labelled : (s t u : State) (ds : List tree.Declaration) (f : Frame) → Labels s (declaration_labels ds) t
    → Labels t (all_labels (stmts_of f.statements) ++ handler_labels f.handlers) u → Labels s (block_labels (block_of ds f)) u
block_labelled s t u ds f h k =
    labels_as s u (declaration_labels ds ++ (all_labels (stmts_of f.statements) ++ handler_labels f.handlers)) (block_labels (block_of ds f))
    (sym (append_assoc (declaration_labels ds) (all_labels (stmts_of f.statements)) (handler_labels f.handlers)))
    (labels_joined s t u (declaration_labels ds) (all_labels (stmts_of f.statements) ++ handler_labels f.handlers) h k)

mutual
  pub stated_labelled : (env : Env) (s : State) (x : text.Statement) → env.step ≡ typing → IfOk (stated env s x).answer (As s)
  stated_labelled env s (text.null q) step = plain_labelled s (started s) q (tree.null_statement (statement_label s q)) refl refl
  stated_labelled env s (text.assignment q n i) step =
      answered (As s) q _
      (part_so (Behind (started s)) (As s) (target env (started s) n).answer
      (λ v. new_value env v.next q v.value.subtype i >>= (λ x. rule (Some (one (tree.assignment (statement_label s q) v.value.object v.value.parts x.value.value) x.next))))
      (target_keeps env (started s) n)
      (λ v h. part_so (Behind v.next) (As s) (new_value env v.next q v.value.subtype i).answer
      (λ x. rule (Some (one (tree.assignment (statement_label s q) v.value.object v.value.parts x.value.value) x.next)))
      (new_value_keeps env v.next q v.value.subtype i)
      (λ x k. plain_labelled s x.next q (tree.assignment (statement_label s q) v.value.object v.value.parts x.value.value) refl
      (same_statements v.next x.next k ∙ same_statements (started s) v.next h))))
  stated_labelled env s (text.call q n) step =
      answered (As s) q _
      (part_so (Behind (started s)) (As s) (denoted env (started s) n).answer
      (λ d. typed_stmt env (statement_label s q) d.next (call_of (statement_label s q) d.value)) (name_keeps env (started s) n)
      (λ d h. stmt_plain env s d.next q (call_of (statement_label s q) d.value) (same_statements (started s) d.next h)
      (call_plain (statement_label s q) d.value)))
  stated_labelled env s (text.exemption q a) step = labels_none s s refl
  stated_labelled env s (text.conditional q e ss bs es) step =
      answered (As s) q _
      (part_so (Behind (started s)) (As s) (decision env (started s) q e).answer
      (λ t. all_stated env t.next q ss >>= (λ xs. branched env xs.next q bs >>= (λ ys. all_stated env ys.next q es
      >>= (λ zs. rule (Some (one (tree.if_statement (statement_label s q) (tree.branch t.value.0 t.value.1 (stmts_of xs.value) (branches_of ys.value zs.value))) zs.next))))))
      (decision_keeps env (started s) q e)
      (λ t u. part_so (As t.next) (As s) (all_stated env t.next q ss).answer
      (λ xs. branched env xs.next q bs >>= (λ ys. all_stated env ys.next q es
      >>= (λ zs. rule (Some (one (tree.if_statement (statement_label s q) (tree.branch t.value.0 t.value.1 (stmts_of xs.value) (branches_of ys.value zs.value))) zs.next)))))
      (all_labelled env t.next q ss step)
      (λ xs h. part_so (BranchesAs xs.next) (As s) (branched env xs.next q bs).answer
      (λ ys. all_stated env ys.next q es
      >>= (λ zs. rule (Some (one (tree.if_statement (statement_label s q) (tree.branch t.value.0 t.value.1 (stmts_of xs.value) (branches_of ys.value zs.value))) zs.next))))
      (branched_labelled env xs.next q bs step)
      (λ ys k. part_so (As ys.next) (As s) (all_stated env ys.next q es).answer
      (λ zs. rule (Some (one (tree.if_statement (statement_label s q) (tree.branch t.value.0 t.value.1 (stmts_of xs.value) (branches_of ys.value zs.value))) zs.next)))
      (all_labelled env ys.next q es step)
      (λ zs l. one_labelled s zs.next (tree.if_statement (statement_label s q) (tree.branch t.value.0 t.value.1 (stmts_of xs.value) (branches_of ys.value zs.value)))
      (labels_joined s t.next zs.next (statement_label s q ∷ []) _ (first_label s q t.next (same_statements (started s) t.next u))
      (labels_joined t.next xs.next zs.next (all_labels (stmts_of xs.value)) (branch_labels (branches_of ys.value zs.value)) h
      (labels_as xs.next zs.next (chosen_labels ys.value ++ all_labels (stmts_of zs.value)) (branch_labels (branches_of ys.value zs.value))
      (sym (branches_labels ys.value zs.value))
      (labels_joined xs.next ys.next zs.next (chosen_labels ys.value) (all_labels (stmts_of zs.value)) k l)))))))))
  stated_labelled env s (text.case_of q e alternatives) step =
      answered (As s) q _
      (part_so (Behind (started s)) (As s) (selector env (started s) e).answer
      (λ x. all_arms env x.next x.value q alternatives
      >>= (λ arms. typed_rule env.step (one (tree.null_statement (statement_label s q)) arms.next) (case_of env s q x.value arms)))
      (selector_keeps env (started s) e)
      (λ x u. part_so (ArmsAs x.next) (As s) (all_arms env x.next x.value q alternatives).answer
      (λ arms. typed_rule env.step (one (tree.null_statement (statement_label s q)) arms.next) (case_of env s q x.value arms))
      (arms_all_labelled env x.next x.value q alternatives step)
      (λ arms h. typed_so (As s) env.step (one (tree.null_statement (statement_label s q)) arms.next) (case_of env s q x.value arms) step
      (if_test (As s) (ends_with_others arms.value) _
      (λ b. one_labelled s _ (tree.case_statement (statement_label s q) x.value.expr (alternatives_of arms.value))
      (labels_before s arms.next _ _
      (labels_joined s x.next arms.next (statement_label s q ∷ []) (alternative_labels (alternatives_of arms.value))
      (first_label s q x.next (same_statements (started s) x.next u))
      (labels_as x.next arms.next (arm_labels arms.value) (alternative_labels (alternatives_of arms.value)) (sym (alternatives_labels arms.value)) h)) refl))))))
  stated_labelled env s (text.repeat q scheme.Forever ss) step =
      answered (As s) q _
      (part_so (As (started s)) (As s) (all_stated (in_loop env) (started s) q ss).answer
      (λ xs. rule (Some (one (tree.bare_loop (statement_label s q) (stmts_of xs.value)) xs.next)))
      (all_labelled (in_loop env) (started s) q ss step)
      (λ xs h. one_labelled s xs.next (tree.bare_loop (statement_label s q) (stmts_of xs.value))
      (labels_joined s (started s) xs.next (statement_label s q ∷ []) _ (first_label s q (started s) refl) h)))
  stated_labelled env s (text.repeat q (scheme.While e) ss) step =
      answered (As s) q _
      (part_so (Behind (started s)) (As s) (decision env (started s) q e).answer
      (λ t. all_stated (in_loop env) t.next q ss >>= (λ xs. rule (Some (one (tree.while_loop (statement_label s q) t.value.0 t.value.1 (stmts_of xs.value)) xs.next))))
      (decision_keeps env (started s) q e)
      (λ t u. part_so (As t.next) (As s) (all_stated (in_loop env) t.next q ss).answer
      (λ xs. rule (Some (one (tree.while_loop (statement_label s q) t.value.0 t.value.1 (stmts_of xs.value)) xs.next)))
      (all_labelled (in_loop env) t.next q ss step)
      (λ xs h. one_labelled s xs.next (tree.while_loop (statement_label s q) t.value.0 t.value.1 (stmts_of xs.value))
      (labels_joined s t.next xs.next (statement_label s q ∷ []) _ (first_label s q t.next (same_statements (started s) t.next u)) h))))
  stated_labelled env s (text.repeat q (scheme.For i d r) ss) step =
      answered (As s) q _
      (part_so (λ x. Unit {0}) (As s) (hide [] i).answer
      (λ region. turned (with_local (opened env) region) (started s) r
      >>= (λ t. all_stated (in_loop (with_local (opened env) ((key i, loop_parameter t.next.objects t.value) ∷ []))) (one_object_more q t.value.subtype t.next) q ss
      >>= (λ xs. rule (Some (one (tree.for_loop (statement_label s q) t.next.objects (is_reverse d) t.value.over (stmts_of xs.value)) xs.next)))))
      (any_answer (hide [] i).answer)
      (λ region v. part_so (Behind (started s)) (As s) (turned (with_local (opened env) region) (started s) r).answer
      (λ t. all_stated (in_loop (with_local (opened env) ((key i, loop_parameter t.next.objects t.value) ∷ []))) (one_object_more q t.value.subtype t.next) q ss
      >>= (λ xs. rule (Some (one (tree.for_loop (statement_label s q) t.next.objects (is_reverse d) t.value.over (stmts_of xs.value)) xs.next))))
      (turned_keeps (with_local (opened env) region) (started s) r)
      (λ t u. part_so (As (one_object_more q t.value.subtype t.next)) (As s)
      (all_stated (in_loop (with_local (opened env) ((key i, loop_parameter t.next.objects t.value) ∷ []))) (one_object_more q t.value.subtype t.next) q ss).answer
      (λ xs. rule (Some (one (tree.for_loop (statement_label s q) t.next.objects (is_reverse d) t.value.over (stmts_of xs.value)) xs.next)))
      (all_labelled (in_loop (with_local (opened env) ((key i, loop_parameter t.next.objects t.value) ∷ []))) (one_object_more q t.value.subtype t.next) q ss step)
      (λ xs h. one_labelled s xs.next (tree.for_loop (statement_label s q) t.next.objects (is_reverse d) t.value.over (stmts_of xs.value))
      (labels_joined s t.next xs.next (statement_label s q ∷ []) _ (first_label s q t.next (same_statements (started s) t.next u))
      (labels_behind t.next (one_object_more q t.value.subtype t.next) xs.next _ (labels_none t.next (one_object_more q t.value.subtype t.next) refl) h))))))
  stated_labelled env s (text.exit q None) step =
      answered (As s) q _
      (stmt_plain env s (started s) q (where_allowed env.is_looping (tree.exit_statement (statement_label s q))) refl
      (allowed_plain (statement_label s q) env.is_looping (tree.exit_statement (statement_label s q)) refl))
  stated_labelled env s (text.exit q (Some e)) step =
      answered (As s) q _
      (part_so (Behind (started s)) (As s) (decision env (started s) q e).answer
      (λ t. typed_stmt env (statement_label s q) t.next (where_allowed env.is_looping (tree.exit_when (statement_label s q) t.value.0 t.value.1)))
      (decision_keeps env (started s) q e)
      (λ t u. stmt_plain env s t.next q (where_allowed env.is_looping (tree.exit_when (statement_label s q) t.value.0 t.value.1))
      (same_statements (started s) t.next u) (allowed_plain (statement_label s q) env.is_looping (tree.exit_when (statement_label s q) t.value.0 t.value.1) refl)))
  stated_labelled env s (text.returns q None) step =
      answered (As s) q _
      (stmt_plain env s (started s) q (returned (statement_label s q) env.returning) refl (returned_plain (statement_label s q) env.returning))
  stated_labelled env s (text.returns q (Some e)) step =
      answered (As s) q _
      (part_so (Behind (started s)) (As s) (judged env itself (started s) e).answer
      (λ x. typed_stmt env (statement_label s q) x.next (returned_value (statement_label s q) x.value env.returning)) (expression_keeps env (started s) e)
      (λ x u. stmt_plain env s x.next q (returned_value (statement_label s q) x.value env.returning) (same_statements (started s) x.next u)
      (value_plain (statement_label s q) x.value env.returning)))
  stated_labelled env s (text.raise q None) step =
      answered (As s) q _
      (stmt_plain env s (started s) q (where_allowed env.is_handling (tree.raise_again (statement_label s q))) refl
      (allowed_plain (statement_label s q) env.is_handling (tree.raise_again (statement_label s q)) refl))
  stated_labelled env s (text.raise q (Some n)) step =
      answered (As s) q _
      (part_so (Behind (started s)) (As s) (denoted env (started s) n).answer
      (λ d. typed_stmt env (statement_label s q) d.next (option_map (tree.raise_statement (statement_label s q)) (exception_of d.value)))
      (name_keeps env (started s) n)
      (λ d u. stmt_plain env s d.next q (option_map (tree.raise_statement (statement_label s q)) (exception_of d.value))
      (same_statements (started s) d.next u) (raised_plain (statement_label s q) (exception_of d.value))))
  stated_labelled env s (text.block q ds h) step =
      answered (As s) q _
      (part_so (Declares s) (As s) (all_declared (opened env) s q (declarations_in ds)).answer
      (λ x. all_handled (with_local (opened env) x.region) x.next q h >>= (λ f. rule (Some (one (tree.block_statement (block_of x.made f.value)) f.next))))
      (declarations_labelled (opened env) s q (declarations_in ds) step refl)
      (λ x u. part_so (FrameAs x.next) (As s) (all_handled (with_local (opened env) x.region) x.next q h).answer
      (λ f. rule (Some (one (tree.block_statement (block_of x.made f.value)) f.next)))
      (handled_labelled (with_local (opened env) x.region) x.next q h step)
      (λ f k. one_labelled s f.next (tree.block_statement (block_of x.made f.value))
      (block_labelled s x.next f.next x.made f.value u k))))

  pub all_labelled : (env : Env) (s : State) (q : Pos) (xs : text.Statements) → env.step ≡ typing → IfOk (all_stated env s q xs).answer (As s)
  all_labelled env s q text.no_statements step = labels_none s s refl
  all_labelled env s q (text.then_also x xs) step =
      answered (As s) q _
      (part_so (As s) (As s) (stated env s x).answer
      (λ y. all_stated env y.next q xs >>= (λ ys. rule (Some (given (y.value ++ ys.value) ys.next)))) (stated_labelled env s x step)
      (λ y h. part_so (As y.next) (As s) (all_stated env y.next q xs).answer (λ ys. rule (Some (given (y.value ++ ys.value) ys.next)))
      (all_labelled env y.next q xs step)
      (λ ys k. labels_as s ys.next _ _ (sym (joined_labels y.value ys.value))
      (labels_joined s y.next ys.next (all_labels (stmts_of y.value)) (all_labels (stmts_of ys.value)) h k))))

  pub branched_labelled : (env : Env) (s : State) (q : Pos) (bs : text.Branches) → env.step ≡ typing → IfOk (branched env s q bs).answer (BranchesAs s)
  branched_labelled env s q text.no_branches step = labels_none s s refl
  branched_labelled env s q (text.branch e ss bs) step =
      answered (BranchesAs s) q _
      (part_so (Behind s) (BranchesAs s) (decision env s q e).answer
      (λ t. all_stated env t.next q ss >>= (λ xs. branched env xs.next q bs
      >>= (λ ys. rule (Some (given (record { label = t.value.0; test = t.value.1; statements = xs.value } ∷ ys.value) ys.next)))))
      (decision_keeps env s q e)
      (λ t u. part_so (As t.next) (BranchesAs s) (all_stated env t.next q ss).answer
      (λ xs. branched env xs.next q bs >>= (λ ys. rule (Some (given (record { label = t.value.0; test = t.value.1; statements = xs.value } ∷ ys.value) ys.next))))
      (all_labelled env t.next q ss step)
      (λ xs h. part_so (BranchesAs xs.next) (BranchesAs s) (branched env xs.next q bs).answer
      (λ ys. rule (Some (given (record { label = t.value.0; test = t.value.1; statements = xs.value } ∷ ys.value) ys.next)))
      (branched_labelled env xs.next q bs step)
      (λ ys k. labels_behind s t.next ys.next _ (labels_none s t.next (same_statements s t.next u))
      (labels_joined t.next xs.next ys.next (all_labels (stmts_of xs.value)) (chosen_labels ys.value) h k)))))

  pub arms_all_labelled : (env : Env) (s : State) (x : Selector) (q : Pos) (rest : text.Alternatives) → env.step ≡ typing → IfOk (all_arms env s x q rest).answer (ArmsAs s)
  arms_all_labelled env s x q text.no_alternatives step = labels_none s s refl
  arms_all_labelled env s x q (text.alternative cs ss rest) step =
      answered (ArmsAs s) q _
      (part_so (Behind s) (ArmsAs s) (all_chosen env s x q cs).answer
      (λ ds. all_stated env ds.next q ss >>= (λ xs. all_arms env xs.next x q rest
      >>= (λ ys. rule (Some (given (record { choices = ds.value; statements = xs.value } ∷ ys.value) ys.next)))))
      (all_chosen_keep env s x q cs)
      (λ ds u. part_so (As ds.next) (ArmsAs s) (all_stated env ds.next q ss).answer
      (λ xs. all_arms env xs.next x q rest >>= (λ ys. rule (Some (given (record { choices = ds.value; statements = xs.value } ∷ ys.value) ys.next))))
      (all_labelled env ds.next q ss step)
      (λ xs h. part_so (ArmsAs xs.next) (ArmsAs s) (all_arms env xs.next x q rest).answer
      (λ ys. rule (Some (given (record { choices = ds.value; statements = xs.value } ∷ ys.value) ys.next)))
      (arms_all_labelled env xs.next x q rest step)
      (λ ys k. labels_behind s ds.next ys.next _ (labels_none s ds.next (same_statements s ds.next u))
      (labels_joined ds.next xs.next ys.next (all_labels (stmts_of xs.value)) (arm_labels ys.value) h k)))))

  pub handlers_labelled : (env : Env) (s : State) (q : Pos) (hs : text.Handlers) → env.step ≡ typing → IfOk (all_handlers env s q hs).answer (HandlersAs s)
  handlers_labelled env s q text.no_handlers step = labels_none s s refl
  handlers_labelled env s q (text.handler cs ss hs) step =
      answered (HandlersAs s) q _
      (part_so (Behind s) (HandlersAs s) (all_caught env s (is_last hs && nat_eq (length cs) 1) q cs).answer
      (λ ds. all_stated (in_handler env) ds.next q ss >>= (λ xs. all_handlers env xs.next q hs
      >>= (λ ys. rule (Some (given (tree.handler ds.value (stmts_of xs.value) ys.value) ys.next)))))
      (all_caught_keep env s (is_last hs && nat_eq (length cs) 1) q cs)
      (λ ds u. part_so (As ds.next) (HandlersAs s) (all_stated (in_handler env) ds.next q ss).answer
      (λ xs. all_handlers env xs.next q hs >>= (λ ys. rule (Some (given (tree.handler ds.value (stmts_of xs.value) ys.value) ys.next))))
      (all_labelled (in_handler env) ds.next q ss step)
      (λ xs h. part_so (HandlersAs xs.next) (HandlersAs s) (all_handlers env xs.next q hs).answer
      (λ ys. rule (Some (given (tree.handler ds.value (stmts_of xs.value) ys.value) ys.next)))
      (handlers_labelled env xs.next q hs step)
      (λ ys k. labels_behind s ds.next ys.next _ (labels_none s ds.next (same_statements s ds.next u))
      (labels_joined ds.next xs.next ys.next (all_labels (stmts_of xs.value)) (handler_labels ys.value) h k)))))

  pub handled_labelled : (env : Env) (s : State) (q : Pos) (h : text.Handled) → env.step ≡ typing → IfOk (all_handled env s q h).answer (FrameAs s)
  handled_labelled env s q (text.handled ss hs) step =
      answered (FrameAs s) q _
      (part_so (As s) (FrameAs s) (all_stated env s q ss).answer
      (λ xs. all_handlers env xs.next q hs >>= (λ ys. rule (Some (given (record { statements = xs.value; handlers = ys.value }) ys.next))))
      (all_labelled env s q ss step)
      (λ xs h. part_so (HandlersAs xs.next) (FrameAs s) (all_handlers env xs.next q hs).answer
      (λ ys. rule (Some (given (record { statements = xs.value; handlers = ys.value }) ys.next)))
      (handlers_labelled env xs.next q hs step)
      (λ ys k. labels_joined s xs.next ys.next (all_labels (stmts_of xs.value)) (handler_labels ys.value) h k)))
