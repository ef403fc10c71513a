-- Code of a well-formed text is the same by names that come to the same.
use Rattle.std.proofs.Common.{◌≡◌, ℕ, ◌+◌, pos, Bool, true, false, List, [], ◌∷◌, drop, refl, ap, ◌∙◌}
use Rattle.cov_base.specs.Lists.{Everywhere}
use Rattle.ada_meaning.specs.Arithmetic.{base_range}
use Rattle.ada_meaning.specs.Calls.{word_bounds, next_parameter}
use Rattle.ada_meaning.specs.Program.{Target, get_target, put_target, body_target, Program}
use Rattle.ada_meaning.specs.Resolved.{ResolvedParameter, target_in, parameters_of}
use Rattle.ada_meaning.specs.Shape.{Shape, word, row, group}
use Rattle.ada_meaning.specs.Tree as tree
use Rattle.ada_meaning.specs.Types as type
use Rattle.ada_meaning.specs.WellFormed as formed
use Rattle.ada_resolved.specs.Sizes.{words}
use Rattle.kernel_ir.specs.declared.code.Edge.{Edge}
use Rattle.kernel_ir.specs.declared.code.Edge.TheVariants as edge
use Rattle.kernel_ir.specs.declared.simple.Relation.TheVariants as relation
use Rattle.kernel_ir.specs.declared.simple.Simple.TheVariants as op
use Rattle.kernel_ir.specs.Sequence.{joined}
use Rattle.kernel_ir.specs.Tree.{simple, choose, forever, for_loop, exit, returns, catch, decide, call, Code, no_op, and_op, Nodes, no_node, and_node}
use Rattle.statement_code.specs.Alike.{AreNamesIn}
use Rattle.statement_code.specs.Bodies.{parameters_code, ending_code, body_code}
use Rattle.statement_code.specs.Flows.{range_code, decided_code, choice_code, choices_code}
use Rattle.statement_code.specs.Names.{Names, names_in}
use Rattle.statement_code.specs.Objects.{component_of, words_before}
use Rattle.statement_code.specs.Sets.{turn_code, next_code, set_code}
use Rattle.statement_code.specs.Statements.{keep_on, slot_of, copied_back, start_of, guarded_code, assign_at, assign_code, get_at, get_code, backs_code, call_code, exception_choice_code, exception_choices_code, bounds_code, declaration_code, declarations_code, statement_code, statements_code, branches_code, alternatives_code, block_code, handlers_code}
use Rattle.statement_code.specs.Values.{single, one, within, Home, Site, address_on, fetch_on, sign_on, operator_on, relation_on, complement_on, past, part_shape, unless_out, moves_code, body_number, expr_code, actuals_code, parts_code, nodes_code}

module _ (p : Program) (inst : ℕ) (shape shape_of : tree.Object → Shape) (home_of : tree.Object → Home) (site : Site) (N : Names) (are : AreNamesIn p inst shape N) where
  abbrev M : Names
  M = names_in p inst

  module _ (Sees : tree.Object → Type 0) where
    mutual
      expr_alike : (e : tree.Expr) (k : ℕ) → formed.IsExpr p inst shape Sees e → expr_code N shape_of home_of site k e ≡ expr_code M shape_of home_of site k e
      expr_alike (tree.literal x) k is = refl
      expr_alike (tree.constant e) k is = λ i. one (op.Number k (are.numbers e is i))
      expr_alike (tree.attribute o parts e) k is =
          λ i. and_op (simple (address_on k (home_of o))) (joined (parts_alike parts k (shape o) (shape_of o) is.1.0 i) (one (op.Number k (are.numbers e is.1.1 i))))
      expr_alike (tree.read o tree.whole) k is = refl
      expr_alike (tree.read o (tree.component n parts)) k is =
          λ i. and_op (simple (address_on k (home_of o))) (joined (parts_alike (tree.component n parts) k (shape o) (shape_of o) is.1.0 i) (one (op.Load k k)))
      expr_alike (tree.read o (tree.element r e parts)) k is =
          λ i. and_op (simple (address_on k (home_of o))) (joined (parts_alike (tree.element r e parts) k (shape o) (shape_of o) is.1.0 i) (one (op.Load k k)))
      expr_alike (tree.signed s e) k is = λ i. joined (expr_alike e k is i) (one (sign_on k s))
      expr_alike (tree.operation o e f) k is = λ i. joined (expr_alike e k is.0 i) (joined (expr_alike f (k + 1) is.1 i) (one (operator_on k o)))
      expr_alike (tree.relation r e f) k is = λ i. joined (expr_alike e k is.0 i) (joined (expr_alike f (k + 1) is.1 i) (one (relation_on k r)))
      expr_alike (tree.complement e) k is = λ i. joined (expr_alike e k is i) (one (complement_on k))
      expr_alike (tree.conversion r e) k is = λ i. joined (expr_alike e k is.1 i) (one (within k (are.bounds r is.0 i)))
      expr_alike (tree.call c actuals) k is =
          ap (λ t. joined (actuals_code N shape_of home_of site k (N.parameters t) actuals) (joined (moves_code site.width k 0 actuals) (and_op (call (body_number site t)) (one (op.Move k site.width)))))
          (are.targets c)
          ∙ (λ i. joined (actuals_code N shape_of home_of site k (are.parameters true (target_in p inst c) is.0 i) actuals)
          (joined (moves_code site.width k 0 actuals) (and_op (call (body_number site (target_in p inst c))) (one (op.Move k site.width)))))
          ∙ (λ i. joined (actuals_alike actuals k (parameters_of p (target_in p inst c)) is.1 i)
          (joined (moves_code site.width k 0 actuals) (and_op (call (body_number site (target_in p inst c))) (one (op.Move k site.width)))))
      expr_alike (tree.decision d t) k is =
          λ i. single (decide (record { 0 = d.number }) (record { 0 = are.instance i }) k (nodes_alike t k (edge.Leaf true) (edge.Leaf false) no_node is i))

      -- whatever shape the code is made for
      parts_alike : (parts : tree.Parts) (k : ℕ) (s a : Shape) → formed.AreParts p inst shape Sees s parts → parts_code N shape_of home_of site k a parts ≡ parts_code M shape_of home_of site k a parts
      parts_alike tree.whole k s a is = refl
      parts_alike (tree.component n parts) k (word b) a is = absurd is
      parts_alike (tree.component n parts) k (row b s) a is = absurd is
      parts_alike (tree.component n parts) k (group ss) (word b) is = refl
      parts_alike (tree.component n parts) k (group ss) (row b a) is = refl
      parts_alike (tree.component n parts) k (group ss) (group as_made) is =
          λ i. and_op (simple (op.Advance k k (pos (words_before as_made n)))) (parts_alike parts k (formed.component_shape ss n) (component_of as_made n) is.1 i)
      parts_alike (tree.element r e parts) k (word b) a is = absurd is
      parts_alike (tree.element r e parts) k (group ss) a is = absurd is
      parts_alike (tree.element r e parts) k (row b s) (word c) is = refl
      parts_alike (tree.element r e parts) k (row b s) (group as_made) is = refl
      parts_alike (tree.element r e parts) k (row b s) (row c a) is =
          λ i. joined (expr_alike e (k + 1) is.1.0 i)
          (and_op (simple (op.Index (k + 1) (k + 1) c.low c.high (words a))) (and_op (simple (op.Offset k k (k + 1))) (parts_alike parts k s a is.1.1 i)))

      actuals_alike : (actuals : tree.Actuals) (k : ℕ) (qs : List ResolvedParameter) → formed.AreActuals p inst shape Sees qs actuals
          → actuals_code N shape_of home_of site k qs actuals ≡ actuals_code M shape_of home_of site k qs actuals
      actuals_alike tree.no_actual k qs is = refl
      actuals_alike (tree.by_expression e rest) k qs is =
          λ i. joined (expr_alike e k is.1.1.1.0 i) (and_op (simple (within k (word_bounds (next_parameter qs).shape))) (actuals_alike rest (k + 1) (drop 1 qs) is.1.1.1.1 i))
      actuals_alike (tree.by_variable o tree.whole r rest) k qs is =
          λ i. joined (unless_out (next_parameter qs).mode (and_op (simple (fetch_on k (home_of o))) (one (within k (word_bounds (next_parameter qs).shape)))))
          (actuals_alike rest (k + 1) (drop 1 qs) is.1.1.1.1.1.1.1 i)
      actuals_alike (tree.by_variable o (tree.component n parts) r rest) k qs is =
          λ i. and_op (simple (address_on k (home_of o))) (joined (parts_alike (tree.component n parts) k (shape o) (shape_of o) is.1.1.1.1.0 i)
          (joined (unless_out (next_parameter qs).mode (and_op (simple (op.Load (k + 1) k)) (one (within (k + 1) (word_bounds (next_parameter qs).shape)))))
          (actuals_alike rest (k + 2) (drop 1 qs) is.1.1.1.1.1.1.1 i)))
      actuals_alike (tree.by_variable o (tree.element s e parts) r rest) k qs is =
          λ i. and_op (simple (address_on k (home_of o))) (joined (parts_alike (tree.element s e parts) k (shape o) (shape_of o) is.1.1.1.1.0 i)
          (joined (unless_out (next_parameter qs).mode (and_op (simple (op.Load (k + 1) k)) (one (within (k + 1) (word_bounds (next_parameter qs).shape)))))
          (actuals_alike rest (k + 2) (drop 1 qs) is.1.1.1.1.1.1.1 i)))
      actuals_alike (tree.by_composite o parts rest) k qs is =
          λ i. and_op (simple (address_on k (home_of o))) (joined (parts_alike parts k (shape o) (shape_of o) is.1.1.1.0 i) (actuals_alike rest (k + 1) (drop 1 qs) is.1.1.1.1.1 i))

      nodes_alike : (t : tree.Test) (k : ℕ) (e f : Edge) (rest : Nodes) → formed.IsTest p inst shape Sees t
          → nodes_code N shape_of home_of site k t e f rest ≡ nodes_code M shape_of home_of site k t e f rest
      nodes_alike (tree.condition place x) k e f rest is = λ i. and_node (expr_alike x k is i) k e f rest
      nodes_alike (tree.negation t) k e f rest is = nodes_alike t k f e rest is
      nodes_alike (tree.operator true t u) k e f rest is =
          nodes_alike t k (edge.NodeAfter 0) (past (tree.conditions_of u) f) (nodes_code N shape_of home_of site k u e f rest) is.0
          ∙ ap (λ ns. nodes_code M shape_of home_of site k t (edge.NodeAfter 0) (past (tree.conditions_of u) f) ns) (nodes_alike u k e f rest is.1)
      nodes_alike (tree.operator false t u) k e f rest is =
          nodes_alike t k (past (tree.conditions_of u) e) (edge.NodeAfter 0) (nodes_code N shape_of home_of site k u e f rest) is.0
          ∙ ap (λ ns. nodes_code M shape_of home_of site k t (past (tree.conditions_of u) e) (edge.NodeAfter 0) ns) (nodes_alike u k e f rest is.1)

    set_alike : (v : tree.NewValue) (k j : ℕ) (s a : Shape) → formed.IsValue p inst shape Sees s v → set_code N shape_of home_of site k j a v ≡ set_code M shape_of home_of site k j a v
    set_alike (tree.scalar_value r e) k j s a is = λ i. joined (expr_alike e j is.1.1 i) (and_op (simple (within j (are.bounds r is.1.0 i))) (one (op.Store k j)))
    set_alike (tree.composite_value t o parts) k j s a is =
        λ i. and_op (simple (address_on j (home_of o))) (joined (parts_alike parts j (shape o) (shape_of o) is.1.0 i) (one (op.Copy k j (words a))))
    set_alike (tree.others_value r v) k j (word b) a is = absurd is
    set_alike (tree.others_value r v) k j (group ss) a is = absurd is
    set_alike (tree.others_value r v) k j (row b s) (word c) is = refl
    set_alike (tree.others_value r v) k j (row b s) (group ss) is = refl
    set_alike (tree.others_value r v) k j (row b s) (row c a) is =
        λ i. and_op (simple (op.Advance j k (pos (words (row c a))))) (single (for_loop (turn_code k j (joined (set_alike v k (j + 1) s a is.1 i) (next_code k a v)))))

    assign_at_alike : (o : tree.Object) (parts : tree.Parts) (v : tree.NewValue) (k : ℕ) (s : Shape) → formed.AreParts p inst shape Sees (shape o) parts → formed.IsValue p inst shape Sees s v
        → assign_at N shape_of home_of site k o parts v ≡ assign_at M shape_of home_of site k o parts v
    assign_at_alike o parts v k s are_parts is =
        λ i. and_op (simple (address_on k (home_of o))) (joined (parts_alike parts k (shape o) (shape_of o) are_parts i) (set_alike v k (k + 1) s (part_shape (shape_of o) parts) is i))

    assign_alike : (o : tree.Object) (parts : tree.Parts) (v : tree.NewValue) (k : ℕ) (s : Shape) → formed.AreParts p inst shape Sees (shape o) parts → formed.IsValue p inst shape Sees s v
        → assign_code N shape_of home_of site k o parts v ≡ assign_code M shape_of home_of site k o parts v
    assign_alike o tree.whole (tree.scalar_value r e) k s are_parts is =
        λ i. joined (expr_alike e k is.1.1 i) (and_op (simple (within k (are.bounds r is.1.0 i))) (one (keep_on k (home_of o))))
    assign_alike o tree.whole (tree.composite_value t q parts) k s are_parts is = assign_at_alike o tree.whole (tree.composite_value t q parts) k s are_parts is
    assign_alike o tree.whole (tree.others_value r v) k s are_parts is = assign_at_alike o tree.whole (tree.others_value r v) k s are_parts is
    assign_alike o (tree.component n parts) v k s are_parts is = assign_at_alike o (tree.component n parts) v k s are_parts is
    assign_alike o (tree.element r e parts) v k s are_parts is = assign_at_alike o (tree.element r e parts) v k s are_parts is

    get_at_alike : (o : tree.Object) (parts : tree.Parts) (r : type.Range) (k : ℕ) → formed.AreParts p inst shape Sees (shape o) parts → formed.IsRange p inst shape r
        → get_at N shape_of home_of site k o parts r ≡ get_at M shape_of home_of site k o parts r
    get_at_alike o parts r k are_parts is =
        λ i. and_op (simple (address_on k (home_of o))) (joined (parts_alike parts k (shape o) (shape_of o) are_parts i)
        (and_op (simple (op.Get (k + 1))) (and_op (simple (within (k + 1) (are.bounds r is i))) (one (op.Store k (k + 1))))))

    get_alike : (o : tree.Object) (parts : tree.Parts) (r : type.Range) (k : ℕ) → formed.AreParts p inst shape Sees (shape o) parts → formed.IsRange p inst shape r
        → get_code N shape_of home_of site k o parts r ≡ get_code M shape_of home_of site k o parts r
    get_alike o tree.whole r k are_parts is = λ i. and_op (simple (op.Get k)) (and_op (simple (within k (are.bounds r is i))) (one (keep_on k (home_of o))))
    get_alike o (tree.component n parts) r k are_parts is = get_at_alike o (tree.component n parts) r k are_parts is
    get_alike o (tree.element q e parts) r k are_parts is = get_at_alike o (tree.element q e parts) r k are_parts is

    backs_alike : (actuals : tree.Actuals) (k j : ℕ) (qs rs : List ResolvedParameter) → formed.AreActuals p inst shape Sees rs actuals
        → backs_code N shape_of home_of site k j qs actuals ≡ backs_code M shape_of home_of site k j qs actuals
    backs_alike tree.no_actual k j qs rs is = refl
    backs_alike (tree.by_expression e rest) k j qs rs is = backs_alike rest (k + 1) (j + 1) (drop 1 qs) (drop 1 rs) is.1.1.1.1
    backs_alike (tree.by_variable o tree.whole r rest) k j qs rs is =
        λ i. and_op (simple (within (site.width + j) (are.bounds r is.1.1.1.1.1.1.0 i)))
        (and_op (simple (keep_on (site.width + j) (home_of o))) (backs_alike rest (k + 1) (j + 1) (drop 1 qs) (drop 1 rs) is.1.1.1.1.1.1.1 i))
    backs_alike (tree.by_variable o (tree.component n parts) r rest) k j qs rs is =
        λ i. and_op (simple (within (site.width + j) (are.bounds r is.1.1.1.1.1.1.0 i)))
        (and_op (simple (op.Store k (site.width + j))) (backs_alike rest (k + 2) (j + 1) (drop 1 qs) (drop 1 rs) is.1.1.1.1.1.1.1 i))
    backs_alike (tree.by_variable o (tree.element t e parts) r rest) k j qs rs is =
        λ i. and_op (simple (within (site.width + j) (are.bounds r is.1.1.1.1.1.1.0 i)))
        (and_op (simple (op.Store k (site.width + j))) (backs_alike rest (k + 2) (j + 1) (drop 1 qs) (drop 1 rs) is.1.1.1.1.1.1.1 i))
    backs_alike (tree.by_composite o parts rest) k j qs rs is =
        λ i. joined (copied_back (next_parameter qs).mode (one (op.Copy k (site.width + j) (words (next_parameter qs).shape))))
        (backs_alike rest (k + 1) (j + 1) (drop 1 qs) (drop 1 rs) is.1.1.1.1.1 i)

    call_alike : (t : Target) (actuals : tree.Actuals) (k : ℕ) → formed.IsCall p inst shape Sees t actuals → call_code N shape_of home_of site k t actuals ≡ call_code M shape_of home_of site k t actuals
    call_alike put_target (tree.by_expression e tree.no_actual) k is = λ i. joined (expr_alike e k is i) (and_op (simple (within k base_range)) (one (op.Put k)))
    call_alike put_target tree.no_actual k is = absurd is
    call_alike put_target (tree.by_expression e (tree.by_expression f rest)) k is = absurd is
    call_alike put_target (tree.by_expression e (tree.by_variable o parts r rest)) k is = absurd is
    call_alike put_target (tree.by_expression e (tree.by_composite o parts rest)) k is = absurd is
    call_alike put_target (tree.by_variable o parts r rest) k is = absurd is
    call_alike put_target (tree.by_composite o parts rest) k is = absurd is
    call_alike get_target (tree.by_variable o parts r tree.no_actual) k is = get_alike o parts r k is.1.0 is.1.1.1
    call_alike get_target tree.no_actual k is = absurd is
    call_alike get_target (tree.by_expression e rest) k is = absurd is
    call_alike get_target (tree.by_variable o parts r (tree.by_expression e rest)) k is = absurd is
    call_alike get_target (tree.by_variable o parts r (tree.by_variable q others s rest)) k is = absurd is
    call_alike get_target (tree.by_variable o parts r (tree.by_composite q others rest)) k is = absurd is
    call_alike get_target (tree.by_composite o parts rest) k is = absurd is
    call_alike (body_target j m) actuals k is =
        (λ i. joined (actuals_code N shape_of home_of site k (are.parameters false (body_target j m) is.0 i) actuals)
        (joined (moves_code site.width k 0 actuals) (and_op (call (site.body j m)) (backs_code N shape_of home_of site k 0 (are.parameters false (body_target j m) is.0 i) actuals))))
        ∙ (λ i. joined (actuals_alike actuals k (parameters_of p (body_target j m)) is.1 i)
        (joined (moves_code site.width k 0 actuals)
        (and_op (call (site.body j m)) (backs_alike actuals k 0 (parameters_of p (body_target j m)) (parameters_of p (body_target j m)) is.1 i))))

    turns_alike : (ts : tree.LoopRange) (k : ℕ) → formed.IsTurns p inst shape Sees ts → bounds_code N shape_of home_of site k ts ≡ bounds_code M shape_of home_of site k ts
    turns_alike (tree.over_subtype r) k is = λ i. and_op (simple (op.Number k (are.bounds r is i).low)) (one (op.Number (k + 1) (are.bounds r is i).high))
    turns_alike (tree.over_bounds e f) k is = λ i. joined (expr_alike e k is.0 i) (expr_alike f (k + 1) is.1 i)

    decided_alike : (d : tree.Label) (t : tree.Test) (k : ℕ) (a b : Code) → formed.IsTest p inst shape Sees t
        → decided_code N shape_of home_of site k d t a b ≡ decided_code M shape_of home_of site k d t a b
    decided_alike d t k a b is =
        λ i. and_op (decide (record { 0 = d.number }) (record { 0 = are.instance i }) k (nodes_alike t k (edge.Leaf true) (edge.Leaf false) no_node is i)) (single (choose k a b))

  choice_alike : (c : tree.Choice) (k : ℕ) → formed.IsChoice p inst shape c → choice_code N shape_of home_of site k c ≡ choice_code M shape_of home_of site k c
  choice_alike (tree.value_choice e) k is = λ i. and_op (simple (op.Number (k + 2) (are.numbers e is i))) (one (op.Compare relation.Equal (k + 1) k (k + 2)))
  choice_alike (tree.range_choice e f) k is =
      λ i. and_op (simple (op.Number (k + 2) (are.numbers e is.0 i))) (and_op (simple (op.Compare relation.AtMost (k + 1) (k + 2) k))
      (single (choose (k + 1) (and_op (simple (op.Number (k + 2) (are.numbers f is.1 i))) (one (op.Compare relation.AtMost (k + 1) k (k + 2)))) no_op)))
  choice_alike tree.other_values k is = refl

  choices_alike : (cs : List tree.Choice) (k : ℕ) → Everywhere (formed.IsChoice p inst shape) cs → choices_code N shape_of home_of site k cs ≡ choices_code M shape_of home_of site k cs
  choices_alike [] k is = refl
  choices_alike (c ∷ cs) k is = λ i. joined (choice_alike c k is.0 i) (single (choose (k + 1) no_op (choices_alike cs k is.1 i)))

  exception_alike : (c : tree.ExceptionChoice) (k : ℕ) → formed.IsExceptionChoice p inst shape c → exception_choice_code N shape_of home_of site k c ≡ exception_choice_code M shape_of home_of site k c
  exception_alike (tree.named_exception x) k is = λ i. and_op (simple (op.Number (k + 2) (pos (are.exceptions x is i)))) (one (op.Compare relation.Equal (k + 1) k (k + 2)))
  exception_alike tree.other_exceptions k is = refl

  exceptions_alike : (cs : List tree.ExceptionChoice) (k : ℕ) → Everywhere (formed.IsExceptionChoice p inst shape) cs
      → exception_choices_code N shape_of home_of site k cs ≡ exception_choices_code M shape_of home_of site k cs
  exceptions_alike [] k is = refl
  exceptions_alike (c ∷ cs) k is = λ i. joined (exception_alike c k is.0 i) (single (choose (k + 1) no_op (exceptions_alike cs k is.1 i)))

  module _ (layout_of : ℕ → ℕ) (gives : Bool) where
    declarations_alike : (ds : List tree.Declaration) (Sees : tree.Object → Type 0) (k : ℕ) → formed.AreDeclarations p inst shape Sees ds
        → declarations_code N shape_of home_of site layout_of k ds ≡ declarations_code M shape_of home_of site layout_of k ds
    declarations_alike [] Sees k is = refl
    declarations_alike (tree.initialized l d v ∷ ds) Sees k is =
        λ i. joined (and_op (simple (start_of (are.instance i) l)) (assign_alike Sees (tree.local_object d) tree.whole v k (shape (tree.local_object d)) tt is.0.0 i))
        (declarations_alike ds (formed.behind Sees d) k is.1 i)
    declarations_alike (tree.without_value d t ∷ ds) Sees k is =
        λ i. joined (declaration_code N shape_of home_of site layout_of k (tree.without_value d t)) (declarations_alike ds (formed.behind Sees d) k is.1 i)

    guarded_alike : (hs : tree.Handlers) (k : ℕ) {a b c d : Code} → a ≡ b → c ≡ d → guarded_code hs a k c ≡ guarded_code hs b k d
    guarded_alike tree.no_handler k same also = same
    guarded_alike (tree.handler cs ss hs) k same also = λ i. single (catch (same i) k (also i))

    mutual
      statement_alike : (s : tree.Stmt) (Sees : tree.Object → Type 0) (k t : ℕ) (x handling : Bool) → formed.IsStatement p inst shape gives Sees x handling s
          → statement_code N shape_of home_of site layout_of k t s ≡ statement_code M shape_of home_of site layout_of k t s
      statement_alike (tree.null_statement l) Sees k t x handling is = λ i. one (start_of (are.instance i) l)
      statement_alike (tree.assignment l o parts v) Sees k t x handling is =
          λ i. and_op (simple (start_of (are.instance i) l)) (assign_alike Sees o parts v k (formed.part_shape (shape o) parts) is.1.0 is.1.1 i)
      statement_alike (tree.procedure_call l c actuals) Sees k t x handling is =
          (λ i. and_op (simple (start_of (are.instance i) l)) (call_code N shape_of home_of site k (are.targets c i) actuals))
          ∙ (λ i. and_op (simple (start_of inst l)) (call_alike Sees (target_in p inst c) actuals k is i))
      statement_alike (tree.if_statement l bs) Sees k t x handling is = λ i. and_op (simple (start_of (are.instance i) l)) (branches_alike bs Sees k t x handling is i)
      statement_alike (tree.case_statement l e choices) Sees k t x handling is =
          λ i. and_op (simple (start_of (are.instance i) l)) (joined (expr_alike Sees e k is.0 i) (alternatives_alike choices Sees k t x handling is.1 i))
      statement_alike (tree.bare_loop l ss) Sees k t x handling is =
          λ i. and_op (simple (start_of (are.instance i) l)) (single (forever (statements_alike ss Sees k t true handling is i)))
      statement_alike (tree.while_loop l d u ss) Sees k t x handling is =
          (λ i. and_op (simple (start_of (are.instance i) l)) (single (forever (decided_code N shape_of home_of site k d u (statements_alike ss Sees k t true handling is.1 i) (single exit)))))
          ∙ (λ i. and_op (simple (start_of inst l))
          (single (forever (decided_alike Sees d u k (statements_code M shape_of home_of site layout_of k t ss) (single exit) is.0 i))))
      statement_alike (tree.for_loop l d reversed ts ss) Sees k t x handling is =
          λ i. and_op (simple (start_of (are.instance i) l)) (joined (turns_alike Sees ts k is.1.0 i)
          (range_code k (k + 2) (slot_of (home_of (tree.local_object d))) reversed (statements_alike ss (formed.behind Sees d) (k + 2) t true handling is.1.1 i)))
      statement_alike (tree.exit_statement l) Sees k t x handling is = λ i. and_op (simple (start_of (are.instance i) l)) (single exit)
      statement_alike (tree.exit_when l d u) Sees k t x handling is =
          λ i. and_op (simple (start_of (are.instance i) l)) (decided_alike Sees d u k (single exit) no_op is.1 i)
      statement_alike (tree.return_statement l) Sees k t x handling is = λ i. and_op (simple (start_of (are.instance i) l)) (single returns)
      statement_alike (tree.return_value l r e) Sees k t x handling is =
          λ i. and_op (simple (start_of (are.instance i) l))
          (joined (expr_alike Sees e k is.1.1 i) (and_op (simple (within k (are.bounds r is.1.0 i))) (and_op (simple (op.Move 0 k)) (single returns))))
      statement_alike (tree.raise_statement l e) Sees k t x handling is = λ i. and_op (simple (start_of (are.instance i) l)) (one (op.Raise (are.exceptions e is i)))
      statement_alike (tree.raise_again l) Sees k t x handling is = λ i. and_op (simple (start_of (are.instance i) l)) (one (op.RaiseSlot t))
      statement_alike (tree.block_statement b) Sees k t x handling is = block_alike b Sees k t x handling is

      statements_alike : (ss : tree.Stmts) (Sees : tree.Object → Type 0) (k t : ℕ) (x handling : Bool) → formed.AreStatements p inst shape gives Sees x handling ss
          → statements_code N shape_of home_of site layout_of k t ss ≡ statements_code M shape_of home_of site layout_of k t ss
      statements_alike tree.no_statement Sees k t x handling is = refl
      statements_alike (tree.and_statement s ss) Sees k t x handling is =
          λ i. joined (statement_alike s Sees k t x handling is.0 i) (statements_alike ss Sees k t x handling is.1 i)

      branches_alike : (bs : tree.Branches) (Sees : tree.Object → Type 0) (k t : ℕ) (x handling : Bool) → formed.AreBranches p inst shape gives Sees x handling bs
          → branches_code N shape_of home_of site layout_of k t bs ≡ branches_code M shape_of home_of site layout_of k t bs
      branches_alike (tree.else_part ss) Sees k t x handling is = statements_alike ss Sees k t x handling is
      branches_alike (tree.branch d u ss bs) Sees k t x handling is =
          (λ i. decided_code N shape_of home_of site k d u (statements_alike ss Sees k t x handling is.1.0 i) (branches_alike bs Sees k t x handling is.1.1 i))
          ∙ decided_alike Sees d u k (statements_code M shape_of home_of site layout_of k t ss) (branches_code M shape_of home_of site layout_of k t bs) is.0

      alternatives_alike : (choices : tree.Alternatives) (Sees : tree.Object → Type 0) (k t : ℕ) (x handling : Bool) → formed.AreAlternatives p inst shape gives Sees x handling choices
          → alternatives_code N shape_of home_of site layout_of k t choices ≡ alternatives_code M shape_of home_of site layout_of k t choices
      alternatives_alike tree.no_alternative Sees k t x handling is = refl
      alternatives_alike (tree.alternative cs ss rest) Sees k t x handling is =
          λ i. joined (choices_alike cs k is.0.1 i) (single (choose (k + 1) (statements_alike ss Sees k t x handling is.1.0 i) (alternatives_alike rest Sees k t x handling is.1.1 i)))

      pub block_alike : (b : tree.Block) (Sees : tree.Object → Type 0) (k t : ℕ) (x handling : Bool) → formed.IsFrame p inst shape gives Sees x handling b
          → block_code N shape_of home_of site layout_of k t b ≡ block_code M shape_of home_of site layout_of k t b
      block_alike (tree.block ds ss hs) Sees k t x handling is =
          λ i. joined (declarations_alike ds Sees k is.0 i)
          (guarded_alike hs k (statements_alike ss (formed.behind_all Sees ds) k t x handling is.1.0) (handlers_alike hs (formed.behind_all Sees ds) k x is.1.1) i)

      handlers_alike : (hs : tree.Handlers) (Sees : tree.Object → Type 0) (k : ℕ) (x : Bool) → formed.AreHandlers p inst shape gives Sees x hs
          → handlers_code N shape_of home_of site layout_of k hs ≡ handlers_code M shape_of home_of site layout_of k hs
      handlers_alike tree.no_handler Sees k x is = refl
      handlers_alike (tree.handler cs ss hs) Sees k x is =
          λ i. joined (exceptions_alike cs k is.0.1 i) (single (choose (k + 1) (statements_alike ss Sees (k + 1) k x true is.1.0 i) (handlers_alike hs Sees k x is.1.1 i)))

    -- a body
    pub body_alike : (b : tree.Block) (Sees : tree.Object → Type 0) (k : ℕ) (qs : List ResolvedParameter) → formed.IsFrame p inst shape gives Sees false false b
        → body_code N shape_of home_of site layout_of k gives qs b ≡ body_code M shape_of home_of site layout_of k gives qs b
    body_alike b Sees k qs is =
        λ i. joined (parameters_code home_of layout_of k 0 qs) (joined (block_alike b Sees k 0 false false is i) (ending_code gives))
