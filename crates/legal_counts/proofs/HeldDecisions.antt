-- Each decision is held by a statement obligation: below a number that bounds those of the statement obligations of a
-- program, the numbers of the statements that hold decisions lie too.
use Rattle.std.proofs.Common.{◌≡◌, ◌<◌, ◌+◌, ℕ, zero, suc, List, [], ◌∷◌, ◌++◌, map, length, sym, subst, arith}
use Rattle.cov_base.specs.Lists.{Everywhere}
use Rattle.ada_meaning.specs.Collected.{Standing, Decision, in_expr, in_parts, in_actuals, in_test, in_value, in_turns, in_decision, in_declarations, in_stmt, in_stmts, in_branches, in_alternatives, in_handlers, in_block, declaration_labels, labels, all_labels, branch_labels, alternative_labels, handler_labels, block_labels, labels_of, decisions_of}
use Rattle.ada_meaning.specs.Obligations.{numbers}
use Rattle.ada_meaning.specs.Program.{Subprogram}
use Rattle.ada_meaning.specs.Tree.{Label, Expr, literal, constant, attribute, read, signed, operation, relation, complement, conversion, call, decision, Parts, whole, component, element, Actuals, no_actual, by_expression, by_variable, by_composite, Test, condition, negation, operator, NewValue, scalar_value, composite_value, others_value, LoopRange, over_subtype, over_bounds, Declaration, initialized, without_value, Stmt, null_statement, assignment, procedure_call, if_statement, case_statement, bare_loop, while_loop, for_loop, exit_statement, exit_when, return_statement, return_value, raise_statement, raise_again, block_statement, Stmts, no_statement, and_statement, Branches, else_part, branch, Alternatives, no_alternative, alternative, Handlers, no_handler, handler, Block, block}
use Rattle.legal_laws.proofs.Passing.{every_both}
use Rattle.legal_counts.proofs.Lists.{every_parts}

module _ (bound : ℕ) where
  abbrev IsHeld : Decision → Type 0
  IsHeld h = h.statement < bound

  abbrev pub AreHeld : List Decision → Type 0
  AreHeld ds = Everywhere IsHeld ds

  abbrev IsBelow : Label → Type 0
  IsBelow l = l.number < bound

  abbrev pub AreBelow : List Label → Type 0
  AreBelow ls = Everywhere IsBelow ls

  both : (xs ys : List Decision) → AreHeld xs → AreHeld ys → AreHeld (xs ++ ys)
  both xs ys h k = every_both IsHeld xs ys h k

  module _ (k : ℕ) (is : k < bound) where
    mutual
      in_an_expr : (e : Expr) → AreHeld (in_expr k e)
      in_an_expr (literal x) = tt
      in_an_expr (constant e) = tt
      in_an_expr (attribute o parts e) = in_some_parts parts
      in_an_expr (read o parts) = in_some_parts parts
      in_an_expr (signed s e) = in_an_expr e
      in_an_expr (operation o e f) = both (in_expr k e) (in_expr k f) (in_an_expr e) (in_an_expr f)
      in_an_expr (relation r e f) = both (in_expr k e) (in_expr k f) (in_an_expr e) (in_an_expr f)
      in_an_expr (complement e) = in_an_expr e
      in_an_expr (conversion r e) = in_an_expr e
      in_an_expr (call c actuals) = in_some_actuals actuals
      in_an_expr (decision d t) = (is, in_a_test t)

      in_some_parts : (parts : Parts) → AreHeld (in_parts k parts)
      in_some_parts whole = tt
      in_some_parts (component n parts) = in_some_parts parts
      in_some_parts (element r e parts) = both (in_expr k e) (in_parts k parts) (in_an_expr e) (in_some_parts parts)

      in_some_actuals : (actuals : Actuals) → AreHeld (in_actuals k actuals)
      in_some_actuals no_actual = tt
      in_some_actuals (by_expression e actuals) = both (in_expr k e) (in_actuals k actuals) (in_an_expr e) (in_some_actuals actuals)
      in_some_actuals (by_variable o parts r actuals) = both (in_parts k parts) (in_actuals k actuals) (in_some_parts parts) (in_some_actuals actuals)
      in_some_actuals (by_composite o parts actuals) = both (in_parts k parts) (in_actuals k actuals) (in_some_parts parts) (in_some_actuals actuals)

      in_a_test : (t : Test) → AreHeld (in_test k t)
      in_a_test (condition at e) = in_an_expr e
      in_a_test (negation t) = in_a_test t
      in_a_test (operator neutral t u) = both (in_test k t) (in_test k u) (in_a_test t) (in_a_test u)

    in_a_value : (v : NewValue) → AreHeld (in_value k v)
    in_a_value (scalar_value r e) = in_an_expr e
    in_a_value (composite_value t o parts) = in_some_parts parts
    in_a_value (others_value r v) = in_a_value v

    in_a_range : (ts : LoopRange) → AreHeld (in_turns k ts)
    in_a_range (over_subtype r) = tt
    in_a_range (over_bounds e f) = both (in_expr k e) (in_expr k f) (in_an_expr e) (in_an_expr f)

    in_a_decision : (standing : Standing) (d : Label) (t : Test) → AreHeld (in_decision k standing d t)
    in_a_decision standing d t = (is, in_a_test t)

  in_some_declarations : (ds : List Declaration) → AreBelow (declaration_labels ds) → AreHeld (in_declarations ds)
  in_some_declarations [] h = tt
  in_some_declarations (initialized l d v ∷ ds) h =
      both (in_value l.number v) (in_declarations ds) (in_a_value l.number h.0 v) (in_some_declarations ds h.1)
  in_some_declarations (without_value d t ∷ ds) h = in_some_declarations ds h

  mutual
    in_a_statement : (s : Stmt) → AreBelow (labels s) → AreHeld (in_stmt s)
    in_a_statement (null_statement l) h = tt
    in_a_statement (assignment l o parts v) h =
        both (in_parts l.number parts) (in_value l.number v) (in_some_parts l.number h.0 parts) (in_a_value l.number h.0 v)
    in_a_statement (procedure_call l c actuals) h = in_some_actuals l.number h.0 actuals
    in_a_statement (if_statement l bs) h = in_some_branches l.number h.0 bs h.1
    in_a_statement (case_statement l e choices) h =
        both (in_expr l.number e) (in_alternatives choices) (in_an_expr l.number h.0 e) (in_some_alternatives choices h.1)
    in_a_statement (bare_loop l ss) h = in_statements ss h.1
    in_a_statement (while_loop l d t ss) h = (h.0, both (in_test l.number t) (in_stmts ss) (in_a_test l.number h.0 t) (in_statements ss h.1))
    in_a_statement (for_loop l d reversed ts ss) h =
        both (in_turns l.number ts) (in_stmts ss) (in_a_range l.number h.0 ts) (in_statements ss h.1)
    in_a_statement (exit_statement l) h = tt
    in_a_statement (exit_when l d t) h = (h.0, in_a_test l.number h.0 t)
    in_a_statement (return_statement l) h = tt
    in_a_statement (return_value l r e) h = in_an_expr l.number h.0 e
    in_a_statement (raise_statement l x) h = tt
    in_a_statement (raise_again l) h = tt
    in_a_statement (block_statement b) h = in_a_block b h

    in_statements : (ss : Stmts) → AreBelow (all_labels ss) → AreHeld (in_stmts ss)
    in_statements no_statement h = tt
    in_statements (and_statement s ss) h =
        let parts = every_parts IsBelow (labels s) (all_labels ss) h in
        both (in_stmt s) (in_stmts ss) (in_a_statement s parts.0) (in_statements ss parts.1)

    in_some_branches : (k : ℕ) → k < bound → (bs : Branches) → AreBelow (branch_labels bs) → AreHeld (in_branches k bs)
    in_some_branches k is (else_part ss) h = in_statements ss h
    in_some_branches k is (branch d t ss bs) h =
        let parts = every_parts IsBelow (all_labels ss) (branch_labels bs) h in
        (is, both (in_test k t ++ in_stmts ss) (in_branches k bs) (both (in_test k t) (in_stmts ss) (in_a_test k is t) (in_statements ss parts.0)) (in_some_branches k is bs parts.1))

    in_some_alternatives : (rest : Alternatives) → AreBelow (alternative_labels rest) → AreHeld (in_alternatives rest)
    in_some_alternatives no_alternative h = tt
    in_some_alternatives (alternative cs ss rest) h =
        let parts = every_parts IsBelow (all_labels ss) (alternative_labels rest) h in
        both (in_stmts ss) (in_alternatives rest) (in_statements ss parts.0) (in_some_alternatives rest parts.1)

    in_some_handlers : (hs : Handlers) → AreBelow (handler_labels hs) → AreHeld (in_handlers hs)
    in_some_handlers no_handler h = tt
    in_some_handlers (handler cs ss hs) h =
        let parts = every_parts IsBelow (all_labels ss) (handler_labels hs) h in
        both (in_stmts ss) (in_handlers hs) (in_statements ss parts.0) (in_some_handlers hs parts.1)

    in_a_block : (b : Block) → AreBelow (block_labels b) → AreHeld (in_block b)
    in_a_block (block ds ss hs) h =
        let front = every_parts IsBelow (declaration_labels ds ++ all_labels ss) (handler_labels hs) h in
        let parts = every_parts IsBelow (declaration_labels ds) (all_labels ss) front.0 in
        both (in_declarations ds ++ in_stmts ss) (in_handlers hs)
        (both (in_declarations ds) (in_stmts ss) (in_some_declarations ds parts.0) (in_statements ss parts.1)) (in_some_handlers hs front.1)

  in_subprograms : (ss : List Subprogram) → AreBelow (labels_of ss) → AreHeld (decisions_of ss)
  in_subprograms [] h = tt
  in_subprograms (s ∷ ss) h =
      let parts = every_parts IsBelow (block_labels s.body) (labels_of ss) h in
      both (in_block s.body) (decisions_of ss) (in_a_block s.body parts.0) (in_subprograms ss parts.1)

-- numbers in turn lie below their end
numbers_below : (end n count : ℕ) → n + count ≡ end → Everywhere (λ k. k < end) (numbers n count)
numbers_below end n zero e = tt
numbers_below end n (suc count) e =
    let here : n < end = omega (arith, e) in
    let next : suc n + count ≡ end = omega (arith, e) in
    (here, numbers_below end (suc n) count next)

of_mapped : {X Y : Type 0} (P : Y → Type 0) (f : X → Y) (xs : List X) → Everywhere P (map f xs) → Everywhere (λ x. P (f x)) xs
of_mapped P f [] h = tt
of_mapped P f (x ∷ xs) h = (h.0, of_mapped P f xs h.1)

pub all_held : (ss : List Subprogram) → map (λ l. l.number) (labels_of ss) ≡ numbers 0 (length (labels_of ss)) → AreHeld (length (labels_of ss)) (decisions_of ss)
all_held ss numbered =
    let count = length (labels_of ss) in
    let all : 0 + count ≡ count = omega (arith) in
    in_subprograms count ss
    (of_mapped (λ k. k < count) (λ l. l.number) (labels_of ss) (subst (Everywhere (λ k. k < count)) (sym numbered) (numbers_below count 0 count all)))
