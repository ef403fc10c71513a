use Rattle.std.proofs.Common.{option_map, sym, ap, ◌∙◌}
use Rattle.ada_meaning.specs.Tree.{over_bounds}
use Rattle.ada_tree.specs.declared.statement.LoopRange.{LoopRange}
use Rattle.ada_tree.specs.View.{turns_of}
use Rattle.ada_rules.specs.Types.{of_type, range_in}
use Rattle.ada_rules.specs.Statements.{values_between}
use Rattle.ada_entities.specs.declared.entity.Values.{Values}
use Rattle.ada_entities.specs.Views.{type_of}
use Rattle.ada_judged.specs.Views.{kind_of}
use Rattle.ada_judged.specs.JudgedView.{judged_of}
use Rattle.statement_parts.proofs.Handed.{pair_first, pair_second}
use Rattle.statement_parts.proofs.TurnLaws.{discrete_kind, some_range}
use Rattle.statement_parts.proofs.turns.turns_between.Goals as goal

pub returns-clause-turns : goal.returns-clause-turns
returns-clause-turns c k b =
    let x = judged_of k c.args.low in
    let y = judged_of k c.args.high in
    let both : LoopRange × Values = (c.in_ok-over.over, c.in_ok-over.values) in
    let kind = kind_of k.types c.in-Some.kind in
    let is = sym (ap (type_of k.types) c.in-Scalar.is) ∙ c.settled-of.ensures k.types in
    some_range x y kind _ _ _ (sym (c.common.ensures k.types) ∙ ap (option_map (kind_of k.types)) c.in-Some.is)
    (discrete_kind k.types kind _ c.in-Scalar.scalar (c.settled-of.ensures k.types) c.in-Scalar.is)
    (ap turns_of (pair_first _ c.values_between-values.result both c.in_ok-over.ensures) ∙ (λ z. over_bounds (c.into_expr.ensures z) (c.into_expr-2.ensures z)))
    (λ z. of_type (is z) (range_in (c.integer-range.ensures k.types z)))
    (pair_second _ _ c.values_between-values.result both c.in_ok-over.ensures c.values_between-values.ensures.values k b ∙ ap (values_between x.known y.known) is)
