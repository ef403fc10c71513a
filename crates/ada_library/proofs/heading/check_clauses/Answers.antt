use Rattle.std.proofs.Common.{◌+◌, ◌++◌, drop, rules, arith, sym, ap, ◌∙◌, append_assoc}
use Rattle.ada_rules.specs.Library.{clause_names, all_named_in_with}
use Rattle.ada_library.proofs.HeadingLaws.{refused_as}
use Rattle.ada_library.proofs.NameLaws.{drop_item}
use Rattle.ada_library.proofs.heading.check_clauses.Goals as goal

pub returns-in_err-check_names : goal.returns-in_err-check_names
returns-in_err-check_names c all l more is =
    let n = c.args.number in
    let u = c.args.unit.now in
    let clauses = c.as_slice-clause-items.result.now in
    let i = c.loop-clause.clause-index in
    let clause = c.clause-item.result in
    let others = clause_names (drop (i + 1) clauses) in
    let so_far =
    c.loop-clause.invariant all l more is
    ∙ (drop_item (λ ys. (all_named_in_with l n u (clause_names ys ++ more)).answer) clauses i clause (omega arith) c.clause-item.is
    ∙ (ap (λ ns. (all_named_in_with l n u ns).answer) (append_assoc clause.names others more)
    ∙ ap (λ ns. (all_named_in_with l n u (ns ++ (others ++ more))).answer) (sym c.as_slice.ensures))) in
    let r = refused_as _ _ c.in_err-check_names.field-0.0 so_far (c.in_err-check_names.ensures all l (others ++ more) is) in
    search (rules, r)

pub loop-clause-preserved : goal.loop-clause-preserved
loop-clause-preserved c all l more is =
    let n = c.args.number in
    let u = c.args.unit.now in
    let clauses = c.as_slice-clause-items.result.now in
    let i = c.loop-clause.clause-index in
    let clause = c.clause-item.result in
    let others = clause_names (drop (i + 1) clauses) in
    c.loop-clause.invariant all l more is
    ∙ (drop_item (λ ys. (all_named_in_with l n u (clause_names ys ++ more)).answer) clauses i clause (omega arith) c.clause-item.is
    ∙ (ap (λ ns. (all_named_in_with l n u ns).answer) (append_assoc clause.names others more)
    ∙ (ap (λ ns. (all_named_in_with l n u (ns ++ (others ++ more))).answer) (sym c.as_slice.ensures)
    ∙ c.in_ok-check_names.ensures all l (others ++ more) is)))
