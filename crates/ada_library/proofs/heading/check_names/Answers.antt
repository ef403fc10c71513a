use Rattle.std.proofs.Common.{◌+◌, ◌++◌, drop, rules, arith, ◌∙◌}
use Rattle.ada_rules.specs.Library.{all_named_in_with}
use Rattle.ada_library.proofs.HeadingLaws.{refused_as}
use Rattle.ada_library.proofs.NameLaws.{drop_item}
use Rattle.ada_library.proofs.heading.check_names.Goals as goal

pub returns-in_err-check_name : goal.returns-in_err-check_name
returns-in_err-check_name c all l more is =
    let names = c.args.names.now in
    let i = c.loop-name.name-index in
    let name = c.name-item.result in
    let so_far = c.loop-name.invariant all l more is
    ∙ drop_item (λ ys. (all_named_in_with l c.args.number c.args.unit.now (ys ++ more)).answer) names i name (omega arith) c.name-item.is in
    let r = refused_as _ _ c.in_err-check_name.field-0.0 so_far (c.in_err-check_name.ensures all l (drop (i + 1) names ++ more) is) in
    search (rules, r)

pub loop-name-preserved : goal.loop-name-preserved
loop-name-preserved c all l more is =
    let names = c.args.names.now in
    let i = c.loop-name.name-index in
    let name = c.name-item.result in
    c.loop-name.invariant all l more is
    ∙ (drop_item (λ ys. (all_named_in_with l c.args.number c.args.unit.now (ys ++ more)).answer) names i name (omega arith) c.name-item.is
    ∙ c.in_ok-check_name.ensures all l (drop (i + 1) names ++ more) is)
