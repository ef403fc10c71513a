-- How the code of procedure calls is put together of its pieces.
use Rattle.std.proofs.Common.{◌≡◌, ℕ, suc, ◌+◌, ◌<◌, drop, get_or, true, List, [], ◌∷◌, length, refl, sym, ap, ◌∙◌, arith}
use Rattle.std.proofs.lemmas.List.{at_drop_more}
use Rattle.ada_meaning.specs.Calls.{next_parameter}
use Rattle.ada_meaning.specs.Program as meaning
use Rattle.ada_meaning.specs.Resolved.{ResolvedParameter}
use Rattle.ada_meaning.specs.Tree as tree
use Rattle.ada_tree.specs.declared.expr.Actual.{Actual}
use Rattle.ada_tree.specs.declared.expr.Actual.TheVariants as actual
use Rattle.ada_tree.specs.declared.expr.Object.{Object}
use Rattle.ada_tree.specs.declared.expr.Selector.{Selector}
use Rattle.ada_tree.specs.declared.expr.Selector.TheVariants as selector
use Rattle.ada_tree.specs.declared.types.ScalarRange.{ScalarRange}
use Rattle.ada_tree.specs.View.{is_filled, object_of, parts_of, scalar_range_of, with_actual, actuals_of}
use Rattle.ada_resolved.specs.Sizes.{words}
use Rattle.kernel_ir.proofs.Joining.{joined_assoc}
use Rattle.kernel_ir.specs.declared.simple.Simple.TheVariants as op
use Rattle.kernel_ir.specs.Sequence.{joined}
use Rattle.kernel_ir.specs.Tree.{call, Code}
use Rattle.statement_code.specs.Values.{single, one, body_number, moves_code}
use Rattle.frame_widths.specs.Chains.{part_slots, slots_of}
use Rattle.lower.specs.declared.context.BodyContext.{BodyContext}
use Rattle.lower.specs.Context.{parameters_for, site_for}
use Rattle.lower.specs.Pieces.{actuals_for, call_for, located_for}
use Rattle.lower.specs.Procedures.{back_for, backs_for, get_for, part_back_for, procedure_for, stored_for}
use Rattle.lower.proofs.Pieces.{drop_one, false_is_not}

module _ (c : BodyContext) where
  -- a part that gets a word of the input
  pub part_gotten : (k : ℕ) (o : Object) (ss : List Selector) (r : ScalarRange) → is_filled ss ≡ true
      → get_for c k (object_of o) (parts_of ss) (scalar_range_of r) ≡ joined (located_for c k (object_of o) (parts_of ss)) (joined (one (op.Get (k + 1))) (stored_for c k (k + 1) r))
  part_gotten k o [] r filled = absurd (false_is_not filled)
  part_gotten k o (selector.Component n ∷ ss) r filled = refl
  part_gotten k o (selector.Element q e ∷ ss) r filled = refl

  -- one parameter, and those behind it
  backs_then : (k i : ℕ) (qs : List ResolvedParameter) (a : Actual) (rest : tree.Actuals)
      → backs_for c k i qs (with_actual a rest)
      ≡ joined (back_for c k (c.width + i) (next_parameter qs).mode (words (next_parameter qs).shape) a) (backs_for c (k + slots_of a) (i + 1) (drop 1 qs) rest)
  backs_then k i qs (actual.Expression e) rest = refl
  backs_then k i qs (actual.Variable o r) rest = refl
  backs_then k i qs (actual.Part o ss r) rest = by_selectors ss.items
    where
      by_selectors : (xs : List Selector)
          → backs_for c k i qs (tree.by_variable (object_of o) (parts_of xs) (scalar_range_of r) rest)
          ≡ joined (part_back_for c k (c.width + i) o xs r) (backs_for c (k + part_slots xs) (i + 1) (drop 1 qs) rest)
      by_selectors [] = refl
      by_selectors (selector.Component n ∷ xs) = refl
      by_selectors (selector.Element q e ∷ xs) = refl
  backs_then k i qs (actual.Composite o ss) rest = refl

  -- one more parameter
  pub one_back : (k next i from : ℕ) (qs rs : List ResolvedParameter) (xs : List Actual) (d x : Actual) (m : meaning.Mode) (size : ℕ) (old new : Code)
      → i < length xs → x ≡ get_or xs i d → rs ≡ qs → m ≡ (next_parameter (drop i rs)).mode → size ≡ words (next_parameter (drop i rs)).shape
      → from ≡ c.width + i → new ≡ joined old (back_for c k from m size x) → next ≡ k + slots_of x
      → joined new (backs_for c next (i + 1) (drop (i + 1) qs) (actuals_of (drop (i + 1) xs))) ≡ joined old (backs_for c k i (drop i qs) (actuals_of (drop i xs)))
  one_back k next i from qs rs xs d x m size old new less is same mode sized at put behind =
      (λ s. joined (put s) (backs_for c (behind s) (i + 1) (fewer s) (actuals_of (drop (i + 1) xs))))
      ∙ joined_assoc old (back_for c k from m size x) (backs_for c (k + slots_of x) (i + 1) (drop 1 (drop i qs)) (actuals_of (drop (i + 1) xs)))
      ∙ (λ s. joined old (joined (back_for c k (at s) (at_mode s) (at_size s) x) (backs_for c (k + slots_of x) (i + 1) (drop 1 (drop i qs)) (actuals_of (drop (i + 1) xs)))))
      ∙ ap (joined old) (sym (backs_then k i (drop i qs) x (actuals_of (drop (i + 1) xs))))
      ∙ ap (λ y. joined old (backs_for c k i (drop i qs) (with_actual y (actuals_of (drop (i + 1) xs))))) is
      ∙ ap (joined old) (sym (at_drop_more (λ ys. backs_for c k i (drop i qs) (actuals_of ys)) xs i d less))
    where
      fewer : drop (i + 1) qs ≡ drop 1 (drop i qs)
      fewer = ap (λ n. drop n qs) (let e : i + 1 ≡ suc i = omega arith in e) ∙ drop_one i qs

      at_mode : m ≡ (next_parameter (drop i qs)).mode
      at_mode = mode ∙ ap (λ ys. (next_parameter (drop i ys)).mode) same

      at_size : size ≡ words (next_parameter (drop i qs)).shape
      at_size = sized ∙ ap (λ ys. words (next_parameter (drop i ys)).shape) same

  -- a call of the program's own, and what is copied back behind it
  pub body_called : (k j m : ℕ) (actuals : tree.Actuals)
      → joined (call_for c k (meaning.body_target j m) actuals) (backs_for c k 0 (parameters_for c (meaning.body_target j m)) actuals)
      ≡ procedure_for c k (meaning.body_target j m) actuals
  body_called k j m actuals =
      let qs = parameters_for c (meaning.body_target j m) in
      let a = actuals_for c k qs actuals in
      let v = moves_code c.width k 0 actuals in
      let b = single (call (body_number (site_for c) (meaning.body_target j m))) in
      joined_assoc a (joined v b) (backs_for c k 0 qs actuals) ∙ ap (joined a) (joined_assoc v b (backs_for c k 0 qs actuals))
