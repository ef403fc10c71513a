-- Ranges of loop parameters.
use Rattle.std.proofs.Common.{◌≡◌, true, false, Some, None, option_map, if◌then◌else◌, Ok, refl, sym, ap, ◌∙◌}
use Rattle.std.specs.Option.{option_and_then}
use Rattle.cov_base.specs.declared.failure.Failure.{Failure}
use Rattle.ada_syntax.specs.Tree.{Name, name_pos, expr_pos}
use Rattle.ada_syntax.specs.declared.declaration.Bounds.{Bounds}
use Rattle.ada_syntax.specs.declared.declaration.DiscreteRange.TheVariants as discrete
use Rattle.ada_meaning.specs.Types.{Owner, here, of_instance}
use Rattle.ada_tree.specs.View.{owner_of}
use Rattle.ada_rules.specs.Plan.{Plan, ◌>>=◌, rule, answer_at}
use Rattle.ada_meaning.specs.Tree.{LoopRange, over_bounds}
use Rattle.ada_rules.specs.Statics.{Spans}
use Rattle.ada_rules.specs.Types.{Identity, AdaSubtype, of_type, base, universal, kind_of, is_scalar, is_discrete, settled, Kind, common}
use Rattle.ada_rules.specs.Environment.{State, Given, given, Env, typed_rule}
use Rattle.ada_rules.specs.Denoted.{Judged, expr_of}
use Rattle.ada_rules.specs.Expressions.{itself, judged, Marked, scalar_mark}
use Rattle.ada_rules.specs.Statements.{Turns, any_turns, values_between, turns_between, turns_over, turned}
use Rattle.ada_entities.specs.declared.fault.Refusal.{Refusal}
use Rattle.ada_entities.specs.declared.types.AdaType.TheVariants as type
use Rattle.ada_entities.specs.declared.types.AdaType.{AdaType as CodeType}
use Rattle.ada_entities.specs.declared.types.ScalarType.{ScalarType}
use Rattle.ada_entities.specs.declared.types.ScalarType.TheVariants as scalar
use Rattle.ada_entities.specs.Answers.{Refuses}
use Rattle.ada_entities.specs.Views.{Shape, array_shape, record_shape, shaped, TypeTables, shape_at, identity_of, scalar_type_of, type_by, type_of}
use Rattle.ada_phrases.proofs.Parts.{passes_on, in_part, refused_as}
use Rattle.statement_parts.specs.Turns.{range_between}

-- a discrete type is scalar
scalar_types : (s : ScalarType) → is_scalar (scalar_type_of s) ≡ true
scalar_types (scalar.Integer i) = refl
scalar_types (scalar.Enumeration i n) = refl
scalar_types (scalar.Formal i place kind) = refl

shaped_types : (k : TypeTables) (o : Owner) (i : Identity) (s : Shape) → is_scalar (type_by k o (shaped i s)) ≡ false
shaped_types k here i (array_shape x c) = refl
shaped_types k here i (record_shape fs) = refl
shaped_types k (of_instance n) i (array_shape x c) = refl
shaped_types k (of_instance n) i (record_shape fs) = refl

discrete_settled : (x : Kind) → is_discrete x ≡ is_scalar (settled x)
discrete_settled universal = refl
discrete_settled (kind_of t) = refl

pub discrete_kind : (k : TypeTables) (x : Kind) (t : CodeType) (s : ScalarType) → type_of k t ≡ settled x → t ≡ type.Scalar s → is_discrete x ≡ true
discrete_kind k x t s is e = discrete_settled x ∙ (ap is_scalar (sym is) ∙ (ap (λ u. is_scalar (type_of k u)) e ∙ scalar_types s))

not_scalar : (k : TypeTables) (t : CodeType) → ((s : ScalarType) → t ≡ type.Scalar s → ⊥) → is_scalar (type_of k t) ≡ false
not_scalar k (type.Scalar s) h = absurd (h s refl)
not_scalar k (type.Composite c) h = shaped_types k (owner_of c.seen) (identity_of c.identity) (shape_at k c.number)

pub other_kind : (k : TypeTables) (x : Kind) (t : CodeType) → type_of k t ≡ settled x → ((s : ScalarType) → t ≡ type.Scalar s → ⊥) → is_discrete x ≡ false
other_kind k x t is h = discrete_settled x ∙ (ap is_scalar (sym is) ∙ not_scalar k t h)

-- the range between two bounds of a type
pub no_common : (x y : Judged) → common x.kind y.kind ≡ None → None ≡ range_between x y
no_common x y h = sym (ap (option_and_then (turns_between x y)) h)

pub no_range : (x y : Judged) (k : Kind) → common x.kind y.kind ≡ Some k → is_discrete k ≡ false → None ≡ range_between x y
no_range x y k h other = sym (ap (option_and_then (turns_between x y)) h ∙ rw other refl)

pub some_range : (x y : Judged) (k : Kind) (over : LoopRange) (t : AdaSubtype) (v : Spans) → common x.kind y.kind ≡ Some k → is_discrete k ≡ true
    → over ≡ over_bounds (expr_of x) (expr_of y) → t ≡ of_type (settled k) base → v ≡ values_between x.known y.known (settled k)
    → Some (record { over = over; subtype = t; values = v }) ≡ range_between x y
some_range x y k over t v h own e f g =
    (λ z. Some (record { over = e z; subtype = f z; values = g z }))
    ∙ sym (ap (option_and_then (turns_between x y)) h
    ∙ ap (λ b. if b
    then Some (record {
      over = over_bounds (expr_of x) (expr_of y);
      subtype = of_type (settled k) base;
      values = values_between x.known y.known (settled k);
    })
    else None) own)

-- the range of a loop, in both steps
abbrev by_mark : Given Marked → Plan (Given Turns)
by_mark m = rule (Some (given (turns_over m.value.subtype) m.next))

module _ (env : Env) (s : State) where
  module _ (n : Name) where
    pub mark_refused : (f : Failure Refusal) → Refuses (scalar_mark env s n).answer f → Refuses (turned env s (discrete.Mark n)).answer f
    mark_refused f h = in_part (name_pos n) (scalar_mark env s n).answer by_mark f h

    pub mark_passes : (x : Given Marked) → (scalar_mark env s n).answer ≡ Ok x
        → (turned env s (discrete.Mark n)).answer ≡ Ok (given (turns_over x.value.subtype) x.next)
    mark_passes x h = passes_on (name_pos n) (scalar_mark env s n).answer by_mark x h

  abbrev pub then_turned : Given Judged → Given Judged → Plan (Given Turns)
  then_turned x y = typed_rule env.step (given any_turns y.next) (option_map (λ t. given t y.next) (range_between x.value y.value))

  module _ (b : Bounds) where
    abbrev then_high : Given Judged → Plan (Given Turns)
    then_high x = judged env itself x.next b.high >>= then_turned x

    pub low_refused : (f : Failure Refusal) → Refuses (judged env itself s b.low).answer f → Refuses (turned env s (discrete.Bounds b)).answer f
    low_refused f h = in_part (expr_pos b.low) (judged env itself s b.low).answer then_high f h

    module _ (x : Given Judged) (h : (judged env itself s b.low).answer ≡ Ok x) where
      pub high_refused : (f : Failure Refusal) → Refuses (judged env itself x.next b.high).answer f → Refuses (turned env s (discrete.Bounds b)).answer f
      high_refused f g =
          refused_as _ _ f (passes_on (expr_pos b.low) (judged env itself s b.low).answer then_high x h)
          (in_part (expr_pos b.low) (judged env itself x.next b.high).answer (then_turned x) f g)

      pub both_pass : (y : Given Judged) → (judged env itself x.next b.high).answer ≡ Ok y
          → (turned env s (discrete.Bounds b)).answer ≡ answer_at (expr_pos b.low) (then_turned x y).outcome
      both_pass y g =
          passes_on (expr_pos b.low) (judged env itself s b.low).answer then_high x h
          ∙ passes_on (expr_pos b.low) (judged env itself x.next b.high).answer (then_turned x) y g
