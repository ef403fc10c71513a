-- How the code of expressions is put together of its pieces.
use Rattle.std.proofs.Common.{◌≡◌, ℕ, zero, suc, ◌+◌, ◌<◌, ◌≤◌, pos, take, drop, get_or, map, Bool, true, false, List, [], ◌∷◌, length, slice_get, option_map, Some, None, Result, Ok, Err, OnOk, refl, sym, ap, subst, ◌∙◌, arith}
use Rattle.std.proofs.lemmas.List.{at_drop_more}
use Rattle.std.proofs.lemmas.Option.{none-some}
use Rattle.std.specs.Prelude.{unwrap_or}
use Rattle.ada_meaning.specs.Calls.{next_parameter, word_bounds}
use Rattle.ada_meaning.specs.Program.{Bounds}
use Rattle.ada_meaning.specs.Program as meaning
use Rattle.ada_meaning.specs.Resolved.{ResolvedParameter}
use Rattle.ada_meaning.specs.Shape.{Shape, word, row, group}
use Rattle.ada_meaning.specs.Tree as tree
use Rattle.ada_meaning.specs.Types as type
use Rattle.ada_tree.specs.declared.expr.Actual.{Actual}
use Rattle.ada_tree.specs.declared.expr.Actual.TheVariants as actual
use Rattle.ada_tree.specs.declared.expr.Operand.{Operand}
use Rattle.ada_tree.specs.declared.expr.Selector.{Selector}
use Rattle.ada_tree.specs.declared.expr.Selector.TheVariants as selector
use Rattle.ada_tree.specs.declared.expr.Object.{Object}
use Rattle.ada_tree.specs.declared.program.Mode.{Mode}
use Rattle.ada_tree.specs.declared.program.Mode.TheVariants as mode
use Rattle.ada_tree.specs.declared.program.Program.{Program}
use Rattle.ada_tree.specs.declared.types.Owner.TheVariants.{Here}
use Rattle.ada_tree.specs.declared.types.Subtype.{Subtype}
use Rattle.ada_tree.specs.declared.types.Subtype.TheVariants as subtype
use Rattle.ada_tree.specs.Programs.{mode_of}
use Rattle.ada_tree.specs.View.{is_filled, object_of, operator_of, with_operands, with_tests, parts_of, with_actual, actuals_of, scalar_range_of}
use Rattle.ada_resolved.specs.declared.forms.TypeIn.{TypeIn}
use Rattle.ada_resolved.specs.Forms.{shape_of, shapes_of}
use Rattle.ada_resolved.specs.Sizes.{words, all_words}
use Rattle.ada_resolved.proofs.TypeForms.{named_behind}
use Rattle.kernel_ir.proofs.Joining.{joined_nothing, joined_assoc}
use Rattle.kernel_ir.specs.declared.code.Edge.{Edge}
use Rattle.kernel_ir.specs.declared.code.Edge.TheVariants as edge
use Rattle.kernel_ir.specs.declared.code.Node.{Node}
use Rattle.kernel_ir.specs.declared.simple.Simple.TheVariants as op
use Rattle.kernel_ir.specs.Sequence.{joined}
use Rattle.kernel_ir.specs.Tree.{simple, call, Code, no_op, and_op, Nodes}
use Rattle.statement_code.specs.Objects.{component_of, words_before}
use Rattle.statement_code.specs.Values.{single, one, within, unless_out, body_number, moves_code}
use Rattle.frame_widths.specs.Chains.{part_slots, slots_of}
use Rattle.lower.specs.declared.context.BodyContext.{BodyContext}
use Rattle.lower.specs.Context.{names_for, parameters_for, site_for, text}
use Rattle.lower.specs.Forms.{with_nodes, true_before, false_before}
use Rattle.lower.specs.Pieces.{part_for, loaded_on, expr_for, parts_for, actuals_for, nodes_for, located_for, operand_for, operands_for, operand_nodes_for, actual_for, call_for}
use Rattle.lower.proofs.Building.{two_put, three_put}
use Rattle.lower.proofs.Forms.{past_twice}

pub false_is_not : false ≡ true → ⊥
false_is_not e = grind arith

-- without one more of the first ones
pub drop_one : {X : Type 0} (i : ℕ) (xs : List X) → drop (suc i) xs ≡ drop 1 (drop i xs)
drop_one zero [] = refl
drop_one zero (x ∷ xs) = refl
drop_one (suc i) [] = refl
drop_one (suc i) (x ∷ xs) = drop_one i xs

-- a record without a component, as a type
abbrev pub nothing : TypeIn
nothing = record { instance = 0; subtype = subtype.Composite Here 0; below = 0 }

module _ (p : Program) (i n : ℕ) where
  -- the component of a record with this place, and the words before it
  pub component_is : (ts : List Subtype) (k : ℕ)
      → shape_of p (unwrap_or (option_map (λ t. record { instance = i; subtype = t; below = n }) (slice_get ts k)) nothing) ≡ component_of (shapes_of p i n ts) k
  component_is [] k = sym (named_behind p 0 0 Here 0 (omega arith))
  component_is (t ∷ ts) zero = refl
  component_is (t ∷ ts) (suc k) = component_is ts k

  pub words_are : (ts : List Subtype) (k : ℕ) → all_words (shapes_of p i n (take k ts)) ≡ words_before (shapes_of p i n ts) k
  words_are [] zero = refl
  words_are [] (suc k) = refl
  words_are (t ∷ ts) zero = refl
  words_are (t ∷ ts) (suc k) = ap (λ m. words (shape_of p (record { instance = i; subtype = t; below = n })) + m) (words_are ts k)

pub at_least_one : (a : Actual) → 1 ≤ slots_of a
at_least_one (actual.Expression e) = omega arith
at_least_one (actual.Variable o r) = omega arith
at_least_one (actual.Part o ss r) = by_selectors ss.items
  where
    by_selectors : (xs : List Selector) → 1 ≤ part_slots xs
    by_selectors [] = omega arith
    by_selectors (x ∷ xs) = omega arith
at_least_one (actual.Composite o ss) = omega arith

-- the values and addresses of an actual, and of those behind it, go into the callee's frame
pub moves_then : (w k j from : ℕ) (a : Actual) (rest : tree.Actuals) → from + 1 ≡ k + slots_of a
    → moves_code w k j (with_actual a rest) ≡ and_op (simple (op.Move (w + j) from)) (moves_code w (k + slots_of a) (j + 1) rest)
moves_then w k j from (actual.Expression e) rest is =
    ap (λ m. and_op (simple (op.Move (w + j) m)) (moves_code w (k + 1) (j + 1) rest)) (let e : k ≡ from = omega (arith, is) in e)
moves_then w k j from (actual.Variable o r) rest is =
    ap (λ m. and_op (simple (op.Move (w + j) m)) (moves_code w (k + 1) (j + 1) rest)) (let e : k ≡ from = omega (arith, is) in e)
moves_then w k j from (actual.Part o ss r) rest is = by_selectors ss.items is
  where
    by_selectors : (xs : List Selector) → from + 1 ≡ k + part_slots xs
        → moves_code w k j (tree.by_variable (object_of o) (parts_of xs) (scalar_range_of r) rest)
        ≡ and_op (simple (op.Move (w + j) from)) (moves_code w (k + part_slots xs) (j + 1) rest)
    by_selectors [] at = ap (λ m. and_op (simple (op.Move (w + j) m)) (moves_code w (k + 1) (j + 1) rest)) (let e : k ≡ from = omega (arith, at) in e)
    by_selectors (selector.Component n ∷ xs) at =
        ap (λ m. and_op (simple (op.Move (w + j) m)) (moves_code w (k + 2) (j + 1) rest)) (let e : k + 1 ≡ from = omega (arith, at) in e)
    by_selectors (selector.Element q e ∷ xs) at =
        ap (λ m. and_op (simple (op.Move (w + j) m)) (moves_code w (k + 2) (j + 1) rest)) (let e : k + 1 ≡ from = omega (arith, at) in e)
moves_then w k j from (actual.Composite o ss) rest is =
    ap (λ m. and_op (simple (op.Move (w + j) m)) (moves_code w (k + 1) (j + 1) rest)) (let e : k ≡ from = omega (arith, is) in e)

module _ (c : BodyContext) where
  -- the code of a chain is that of its first operand, and then that of the others
  pub chain_for : (k : ℕ) (e : tree.Expr) (os : List Operand) → expr_for c k (with_operands e os) ≡ joined (expr_for c k e) (operands_for c k os)
  chain_for k e [] = sym (joined_nothing (expr_for c k e))
  chain_for k e (o ∷ os) =
      chain_for k (tree.operation (operator_of o.operator) e o.operand) os
      ∙ ap (λ a. joined a (operands_for c k os)) refl
      ∙ joined_assoc (expr_for c k e) (operand_for c k o) (operands_for c k os)

  -- an actual, and those behind it
  pub actual_then : (k : ℕ) (qs : List ResolvedParameter) (a : Actual) (rest : tree.Actuals)
      → actuals_for c k qs (with_actual a rest)
      ≡ joined (actual_for c k (next_parameter qs).mode (word_bounds (next_parameter qs).shape) a) (actuals_for c (k + slots_of a) (drop 1 qs) rest)
  actual_then k qs (actual.Expression e) rest =
      sym (joined_assoc (expr_for c k e) (one (within k (word_bounds (next_parameter qs).shape))) (actuals_for c (k + 1) (drop 1 qs) rest))
  actual_then k qs (actual.Variable o r) rest = refl
  actual_then k qs (actual.Part o ss r) rest = by_selectors ss.items
    where
      by_selectors : (xs : List Selector)
          → actuals_for c k qs (tree.by_variable (object_of o) (parts_of xs) (scalar_range_of r) rest)
          ≡ joined (part_for c k (next_parameter qs).mode (word_bounds (next_parameter qs).shape) o xs) (actuals_for c (k + part_slots xs) (drop 1 qs) rest)
      by_selectors [] = refl
      by_selectors (selector.Component n ∷ xs) =
          sym (joined_assoc (located_for c k (object_of o) (parts_of (selector.Component n ∷ xs)))
          (loaded_on k (next_parameter qs).mode (word_bounds (next_parameter qs).shape)) (actuals_for c (k + 2) (drop 1 qs) rest))
      by_selectors (selector.Element q e ∷ xs) =
          sym (joined_assoc (located_for c k (object_of o) (parts_of (selector.Element q e ∷ xs)))
          (loaded_on k (next_parameter qs).mode (word_bounds (next_parameter qs).shape)) (actuals_for c (k + 2) (drop 1 qs) rest))
  actual_then k qs (actual.Composite o ss) rest = refl

  -- what has no parts
  pub no_parts : (k : ℕ) (b : Bounds) (parts : tree.Parts) → parts_for c k (word b) parts ≡ no_op
  no_parts k b tree.whole = refl
  no_parts k b (tree.component n parts) = refl
  no_parts k b (tree.element r e parts) = refl

  -- a component of a record
  pub component_put : (k place m : ℕ) (of : Shape) (q : Program) (i n : ℕ) (ts : List Subtype) (part : TypeIn) (a b : Code) (rest : tree.Parts)
      → group (shapes_of (text c) i n ts) ≡ of → q ≡ text c → m ≡ all_words (shapes_of q i n (take place ts))
      → shape_of q part ≡ component_of (shapes_of q i n ts) place → b ≡ joined a (one (op.Advance k k (pos m)))
      → joined b (parts_for c k (shape_of (text c) part) rest) ≡ joined a (parts_for c k of (tree.component place rest))
  component_put k place m of q i n ts part a b rest is same before at put =
      ap (λ x. joined x (parts_for c k (shape_of (text c) part) rest)) put
      ∙ joined_assoc a (one (op.Advance k k (pos m))) (parts_for c k (shape_of (text c) part) rest)
      ∙ (λ s. joined a (and_op (simple (op.Advance k k (pos (first s)))) (parts_for c k (second s) rest)))
      ∙ ap (λ x. joined a (parts_for c k x (tree.component place rest))) is
    where
      first : m ≡ words_before (shapes_of (text c) i n ts) place
      first = before ∙ ap (λ x. all_words (shapes_of x i n (take place ts))) same ∙ words_are (text c) i n ts place

      second : shape_of (text c) part ≡ component_of (shapes_of (text c) i n ts) place
      second = subst (λ x. shape_of x part ≡ component_of (shapes_of x i n ts) place) same at

  -- a component of an array
  pub element_put : (k size : ℕ) (of s : Shape) (b : Bounds) (r : type.Range) (e : tree.Expr) (w x y z : Code) (rest : tree.Parts)
      → row b s ≡ of → size ≡ words s → x ≡ joined w (expr_for c (k + 1) e)
      → y ≡ joined x (one (op.Index (k + 1) (k + 1) b.low b.high size)) → z ≡ joined y (one (op.Offset k k (k + 1)))
      → joined z (parts_for c k s rest) ≡ joined w (parts_for c k of (tree.element r e rest))
  element_put k size of s b r e w x y z rest is sized first second third =
      two_put w z (joined z (parts_for c k s rest)) (joined (expr_for c (k + 1) e) (joined (one (op.Index (k + 1) (k + 1) b.low b.high size)) (one (op.Offset k k (k + 1)))))
      (parts_for c k s rest) (three_put w x y z (expr_for c (k + 1) e) (one (op.Index (k + 1) (k + 1) b.low b.high size)) (one (op.Offset k k (k + 1))) first second third) refl
      ∙ ap (joined w) (joined_assoc (expr_for c (k + 1) e) (and_op (simple (op.Index (k + 1) (k + 1) b.low b.high size)) (one (op.Offset k k (k + 1)))) (parts_for c k s rest))
      ∙ ap (λ m. joined w (joined (expr_for c (k + 1) e) (and_op (simple (op.Index (k + 1) (k + 1) b.low b.high m)) (and_op (simple (op.Offset k k (k + 1))) (parts_for c k s rest))))) sized
      ∙ ap (λ u. joined w (parts_for c k u (tree.element r e rest))) is

  -- the nodes of a form are those of its first operand, and then those of the others
  form_nodes : (k : ℕ) (neutral : Bool) (t : tree.Test) (us : List tree.Test) (on_true on_false : Edge) (rest : Nodes)
      → nodes_for c k (with_tests neutral t us) on_true on_false rest
      ≡ nodes_for c k t (true_before neutral us on_true) (false_before neutral us on_false) (operand_nodes_for c k neutral us on_true on_false rest)
  form_nodes k true t [] on_true on_false rest = refl
  form_nodes k false t [] on_true on_false rest = refl
  form_nodes k true t (u ∷ us) on_true on_false rest =
      form_nodes k true (tree.operator true t u) us on_true on_false rest
      ∙ ap (λ e. nodes_for c k t (edge.NodeAfter 0) e (operand_nodes_for c k true (u ∷ us) on_true on_false rest)) (past_twice (tree.conditions_of u) us on_false)
  form_nodes k false t (u ∷ us) on_true on_false rest =
      form_nodes k false (tree.operator false t u) us on_true on_false rest
      ∙ ap (λ e. nodes_for c k t e (edge.NodeAfter 0) (operand_nodes_for c k false (u ∷ us) on_true on_false rest)) (past_twice (tree.conditions_of u) us on_true)

  pub form_put : (old middle new : List Node) (k : ℕ) (neutral : Bool) (t first : tree.Test) (us right others : List tree.Test) (on_true on_false left_true left_false : Edge)
      (rest : Nodes) → first ≡ t → right ≡ us → others ≡ us → left_true ≡ true_before neutral right on_true → left_false ≡ false_before neutral right on_false
      → ((x : Nodes) → with_nodes middle x ≡ with_nodes old (nodes_for c k first left_true left_false x))
      → with_nodes new rest ≡ with_nodes middle (operand_nodes_for c k neutral others on_true on_false rest)
      → with_nodes new rest ≡ with_nodes old (nodes_for c k (with_tests neutral t us) on_true on_false rest)
  form_put old middle new k neutral t first us right others on_true on_false left_true left_false rest is_first is_right are at_true at_false put then_put =
      then_put ∙ put (operand_nodes_for c k neutral others on_true on_false rest)
      ∙ (λ i. with_nodes old (nodes_for c k (is_first i) (to_true i) (to_false i) (operand_nodes_for c k neutral (are i) on_true on_false rest)))
      ∙ ap (with_nodes old) (sym (form_nodes k neutral t us on_true on_false rest))
    where
      to_true : left_true ≡ true_before neutral us on_true
      to_true = at_true ∙ ap (λ xs. true_before neutral xs on_true) is_right

      to_false : left_false ≡ false_before neutral us on_false
      to_false = at_false ∙ ap (λ xs. false_before neutral xs on_false) is_right

  -- the nodes of one more operand, and of all
  pub operand_put : (old new : List Node) (k : ℕ) (neutral : Bool) (u : tree.Test) (us right : List tree.Test) (on_true on_false own_true own_false : Edge)
      (whole : Nodes) (rest : Nodes) → us ≡ u ∷ right → own_true ≡ true_before neutral right on_true → own_false ≡ false_before neutral right on_false
      → ((x : Nodes) → with_nodes new x ≡ with_nodes old (nodes_for c k u own_true own_false x))
      → with_nodes old (operand_nodes_for c k neutral us on_true on_false rest) ≡ whole
      → with_nodes new (operand_nodes_for c k neutral right on_true on_false rest) ≡ whole
  operand_put old new k neutral u us right on_true on_false own_true own_false whole rest is at_true at_false put all =
      put (operand_nodes_for c k neutral right on_true on_false rest)
      ∙ (λ i. with_nodes old (nodes_for c k u (at_true i) (at_false i) (operand_nodes_for c k neutral right on_true on_false rest)))
      ∙ ap (λ xs. with_nodes old (operand_nodes_for c k neutral xs on_true on_false rest)) (sym is) ∙ all

  pub operands_put : (k : ℕ) (neutral : Bool) (us : List tree.Test) (on_true on_false : Edge) (rest : Nodes) → length us ≡ 0
      → operand_nodes_for c k neutral us on_true on_false rest ≡ rest
  operands_put k neutral [] on_true on_false rest none = refl
  operands_put k neutral (u ∷ us) on_true on_false rest none = absurd (omega (arith, none))

  -- the value of a part, and its use for a parameter
  pub part_read : (k : ℕ) (o : Object) (ss : List Selector) → is_filled ss ≡ true
      → expr_for c k (tree.read (object_of o) (parts_of ss)) ≡ joined (located_for c k (object_of o) (parts_of ss)) (one (op.Load k k))
  part_read k o [] some = absurd (false_is_not some)
  part_read k o (selector.Component n ∷ ss) some = refl
  part_read k o (selector.Element r e ∷ ss) some = refl

  pub part_taken : (k : ℕ) (m : meaning.Mode) (b : Bounds) (o : Object) (ss : List Selector) → is_filled ss ≡ true
      → part_for c k m b o ss ≡ joined (located_for c k (object_of o) (parts_of ss)) (loaded_on k m b)
  part_taken k m b o [] some = absurd (false_is_not some)
  part_taken k m b o (s ∷ ss) some = refl

  -- a call, and its result
  pub call_value : (k : ℕ) (f : tree.Callee) (actuals : tree.Actuals)
      → expr_for c k (tree.call f actuals) ≡ joined (call_for c k ((names_for c).target f) actuals) (one (op.Move k c.width))
  call_value k f actuals =
      let t = (names_for c).target f in
      let a = actuals_for c k (parameters_for c t) actuals in
      let m = moves_code c.width k 0 actuals in
      let b = single (call (body_number (site_for c) t)) in
      sym (joined_assoc a (joined m b) (one (op.Move k c.width)) ∙ ap (joined a) (joined_assoc m b (one (op.Move k c.width))))

  -- one more actual, and none
  pub one_actual : (k next i : ℕ) (qs rs : List ResolvedParameter) (xs : List Actual) (d x : Actual) (m : meaning.Mode) (b : Bounds) (old new : Code)
      → i < length xs → x ≡ get_or xs i d → rs ≡ qs → m ≡ (next_parameter (drop i rs)).mode → b ≡ word_bounds (next_parameter (drop i rs)).shape
      → new ≡ joined old (actual_for c k m b x) → next ≡ k + slots_of x
      → joined new (actuals_for c next (drop (i + 1) qs) (actuals_of (drop (i + 1) xs))) ≡ joined old (actuals_for c k (drop i qs) (actuals_of (drop i xs)))
  one_actual k next i qs rs xs d x m b old new less is same mode bounds put behind =
      (λ s. joined (put s) (actuals_for c (behind s) (fewer s) (actuals_of (drop (i + 1) xs))))
      ∙ joined_assoc old (actual_for c k m b x) (actuals_for c (k + slots_of x) (drop 1 (drop i qs)) (actuals_of (drop (i + 1) xs)))
      ∙ (λ s. joined old (joined (actual_for c k (at_mode s) (at_bounds s) x) (actuals_for c (k + slots_of x) (drop 1 (drop i qs)) (actuals_of (drop (i + 1) xs)))))
      ∙ ap (joined old) (sym (actual_then k (drop i qs) x (actuals_of (drop (i + 1) xs))))
      ∙ ap (λ y. joined old (actuals_for c k (drop i qs) (with_actual y (actuals_of (drop (i + 1) xs))))) is
      ∙ ap (joined old) (sym (at_drop_more (λ ys. actuals_for c k (drop i qs) (actuals_of ys)) xs i d less))
    where
      fewer : drop (i + 1) qs ≡ drop 1 (drop i qs)
      fewer = ap (λ n. drop n qs) (let e : i + 1 ≡ suc i = omega arith in e) ∙ drop_one i qs

      at_mode : m ≡ (next_parameter (drop i qs)).mode
      at_mode = mode ∙ ap (λ ys. (next_parameter (drop i ys)).mode) same

      at_bounds : b ≡ word_bounds (next_parameter (drop i qs)).shape
      at_bounds = bounds ∙ ap (λ ys. word_bounds (next_parameter (drop i ys)).shape) same

-- the values and addresses of one more actual, and of none
pub one_moved : (w k next i to : ℕ) (xs : List Actual) (d x : Actual) (from : ℕ) (old new : Code)
    → i < length xs → x ≡ get_or xs i d → to ≡ w + i → next ≡ k + slots_of x → from + 1 ≡ next → new ≡ joined old (one (op.Move to from))
    → joined new (moves_code w next (i + 1) (actuals_of (drop (i + 1) xs))) ≡ joined old (moves_code w k i (actuals_of (drop i xs)))
one_moved w k next i to xs d x from old new less is at behind before put =
    ap (λ y. joined y (moves_code w next (i + 1) (actuals_of (drop (i + 1) xs)))) put
    ∙ joined_assoc old (one (op.Move to from)) (moves_code w next (i + 1) (actuals_of (drop (i + 1) xs)))
    ∙ (λ s. joined old (and_op (simple (op.Move (at s) from)) (moves_code w (behind s) (i + 1) (actuals_of (drop (i + 1) xs)))))
    ∙ ap (joined old) (sym (moves_then w k i from x (actuals_of (drop (i + 1) xs)) (before ∙ behind)))
    ∙ ap (λ y. joined old (moves_code w k i (with_actual y (actuals_of (drop (i + 1) xs))))) is
    ∙ ap (joined old) (sym (at_drop_more (λ ys. moves_code w k i (actuals_of ys)) xs i d less))

-- what is not of mode out has a value
pub with_value : (m : Mode) (a : Code) → (m ≡ mode.Out → ⊥) → unless_out (mode_of m) a ≡ a
with_value mode.In a other = refl
with_value mode.Out a other = absurd (other refl)
with_value mode.InOut a other = refl

-- the first of the parameters that are left
pub no_next : {X : Type 0} (f : X → ResolvedParameter) (xs : List X) (i : ℕ) → slice_get xs i ≡ None → next_parameter (drop i (map f xs)) ≡ next_parameter []
no_next f [] zero none = refl
no_next f [] (suc i) none = refl
no_next f (x ∷ xs) zero none = absurd (none-some x (sym none))
no_next f (x ∷ xs) (suc i) none = no_next f xs i none

pub next_is : {X : Type 0} (f : X → ResolvedParameter) (xs : List X) (i : ℕ) (x : X) → slice_get xs i ≡ Some x → next_parameter (drop i (map f xs)) ≡ f x
next_is f [] i x there = absurd (none-some x there)
next_is f (y ∷ xs) zero x there = ap (λ o. f (unwrap_or o y)) there
next_is f (y ∷ xs) (suc i) x there = next_is f xs i x there

-- three pieces, where the last one may not fit in memory
pub three_then : {A E : Type 0} (r : Result A E) (a b c d x y z : Code) → b ≡ joined a x → c ≡ joined b y → OnOk r (d ≡ joined c z)
    → OnOk r (d ≡ joined a (joined x (joined y z)))
three_then (Ok u) a b c d x y z first second third = three_put a b c d x y z first second third
three_then (Err e) a b c d x y z first second third = tt

-- a piece in other words
pub in_words : {A E : Type 0} (r : Result A E) (a b x y : Code) → x ≡ y → OnOk r (b ≡ joined a x) → OnOk r (b ≡ joined a y)
in_words r a b x y same put = subst (λ z. OnOk r (b ≡ joined a z)) same put

-- what holds where all fitted in memory
pub whenever : {A E : Type 0} (r : Result A E) {P Q : Type 0} → OnOk r P → (P → Q) → OnOk r Q
whenever (Ok u) p f = f p
whenever (Err e) p f = tt
