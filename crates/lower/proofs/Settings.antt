-- How code that sets objects is put together of its pieces.
use Rattle.std.proofs.Common.{◌≡◌, ℕ, ◌+◌, pos, true, false, List, [], ◌∷◌, Result, Some, OnOk, refl, sym, ap, subst, ◌∙◌}
use Rattle.ada_meaning.specs.Shape.{Shape, word, row, group}
use Rattle.ada_meaning.specs.Tree as tree
use Rattle.ada_meaning.specs.Types as type
use Rattle.ada_tree.specs.declared.expr.Selector.{Selector}
use Rattle.ada_tree.specs.declared.expr.Selector.TheVariants as selector
use Rattle.ada_tree.specs.declared.types.ScalarRange.{ScalarRange}
use Rattle.ada_tree.specs.declared.types.Subtype.{Subtype}
use Rattle.ada_tree.specs.declared.program.Program.{Program}
use Rattle.ada_tree.specs.View.{is_filled, others_of, parts_of}
use Rattle.ada_resolved.specs.declared.forms.TypeIn.{TypeIn}
use Rattle.ada_resolved.specs.Forms.{shape_of, shapes_of}
use Rattle.ada_resolved.specs.Sizes.{words}
use Rattle.kernel_ir.specs.declared.simple.Simple.TheVariants as op
use Rattle.kernel_ir.specs.Sequence.{joined}
use Rattle.kernel_ir.specs.Tree.{for_loop, Code, no_op}
use Rattle.statement_code.specs.Objects.{component_of}
use Rattle.statement_code.specs.Sets.{turn_code, next_code}
use Rattle.statement_code.specs.Values.{single, one, part_shape}
use Rattle.lower.specs.declared.context.BodyContext.{BodyContext}
use Rattle.lower.specs.declared.sets.Setting.{Setting}
use Rattle.lower.specs.declared.sets.Setting.TheVariants as setting
use Rattle.lower.specs.Context.{text}
use Rattle.lower.specs.Settings.{setting_of, set_for, others_for, others_with, assign_for, assign_at_for}
use Rattle.lower.proofs.Building.{then_put}
use Rattle.lower.proofs.Pieces.{false_is_not, in_words}

-- the part of a record
pub component_selected : (p q : Program) (i n place : ℕ) (ts : List Subtype) (part : TypeIn) (of : Shape) (rest : tree.Parts)
    → group (shapes_of p i n ts) ≡ of → q ≡ p → shape_of q part ≡ component_of (shapes_of q i n ts) place
    → part_shape (shape_of p part) rest ≡ part_shape of (tree.component place rest)
component_selected p q i n place ts part of rest is same at =
    ap (λ s. part_shape s rest) (subst (λ x. shape_of x part ≡ component_of (shapes_of x i n ts) place) same at)
    ∙ ap (λ s. part_shape s (tree.component place rest)) is

-- how code goes on behind a component
pub next_inner : (k : ℕ) (s : Shape) (rs : List ScalarRange) (v : tree.NewValue) → is_filled rs ≡ true → next_code k s (others_of rs v) ≡ no_op
next_inner k s [] v filled = absurd (false_is_not filled)
next_inner k s (r ∷ rs) v filled = refl

pub next_last : (k n : ℕ) (s : Shape) (rs : List ScalarRange) (v : Setting) → is_filled rs ≡ false → n ≡ words s
    → one (op.Advance k k (pos n)) ≡ next_code k s (others_of rs (setting_of v))
next_last k n s [] (setting.Scalar r e) bare is = ap (λ m. one (op.Advance k k (pos m))) is
next_last k n s [] (setting.Composite w m o ss) bare is = ap (λ m. one (op.Advance k k (pos m))) is
next_last k n s (r ∷ rs) v bare is = absurd (false_is_not (sym bare))

module _ (c : BodyContext) where
  -- an array is set component by component
  pub others_set : (k j : ℕ) (s : Shape) (r : type.Range) (v : tree.NewValue) → others_for c k j s v ≡ set_for c k j s (tree.others_value r v)
  others_set k j (word b) r v = refl
  others_set k j (row b s) r v = refl
  others_set k j (group ss) r v = refl

  pub others_put : {A E : Type 0} (r : Result A E) (k j size : ℕ) (s : Shape) (t : TypeIn) (v : tree.NewValue) (old advanced new empty first next turn : Code)
      → empty ≡ no_op → first ≡ joined empty (set_for c k (j + 1) (shape_of (text c) t) v) → next ≡ joined first (next_code k (shape_of (text c) t) v)
      → advanced ≡ joined old (one (op.Advance j k (pos size))) → turn ≡ turn_code k j next → others_with c k j size (Some t) v ≡ others_for c k j s v
      → OnOk r (new ≡ joined advanced (single (for_loop turn))) → OnOk r (new ≡ joined old (others_for c k j s v))
  others_put r k j size s t v old advanced new empty first next turn none one_set gone at is all put =
      in_words r old new _ _
      (ap (λ x. joined (one (op.Advance j k (pos size))) (single (for_loop x))) (is ∙ ap (turn_code k j) (gone ∙ ap (λ x. joined x (next_code k (shape_of (text c) t) v)) (one_set ∙ ap (λ x. joined x (set_for c k (j + 1) (shape_of (text c) t) v)) none)))
      ∙ all)
      (then_put r old advanced new (one (op.Advance j k (pos size))) (single (for_loop turn)) at put)

  -- what is no scalar object of its own is set by its address
  pub by_address : (k : ℕ) (o : tree.Object) (ss : List Selector) (v : tree.NewValue) → is_filled ss ≡ true
      → assign_for c k o (parts_of ss) v ≡ assign_at_for c k o (parts_of ss) v
  by_address k o [] v filled = absurd (false_is_not filled)
  by_address k o (selector.Component n ∷ ss) v filled = refl
  by_address k o (selector.Element r e ∷ ss) v filled = refl

  pub composite_by_address : (k : ℕ) (o : tree.Object) (ss : List Selector) (t : type.Subtype) (q : tree.Object) (parts : tree.Parts)
      → assign_for c k o (parts_of ss) (tree.composite_value t q parts) ≡ assign_at_for c k o (parts_of ss) (tree.composite_value t q parts)
  composite_by_address k o [] t q parts = refl
  composite_by_address k o (selector.Component n ∷ ss) t q parts = refl
  composite_by_address k o (selector.Element r e ∷ ss) t q parts = refl

  pub others_by_address : (k : ℕ) (o : tree.Object) (ss : List Selector) (r : type.Range) (v : tree.NewValue)
      → assign_for c k o (parts_of ss) (tree.others_value r v) ≡ assign_at_for c k o (parts_of ss) (tree.others_value r v)
  others_by_address k o [] r v = refl
  others_by_address k o (selector.Component n ∷ ss) r v = refl
  others_by_address k o (selector.Element q e ∷ ss) r v = refl

-- an object without selectors is whole
pub bare_parts : (ss : List Selector) → is_filled ss ≡ false → parts_of ss ≡ tree.whole
bare_parts [] bare = refl
bare_parts (s ∷ ss) bare = absurd (false_is_not (sym bare))
