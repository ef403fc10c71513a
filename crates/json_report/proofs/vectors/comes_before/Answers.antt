use Rattle.std.proofs.Common.{◌∙◌, arith}
use Rattle.mcdc_verdicts.specs.Search.{IsWord}
use Rattle.json_report.proofs.Added.{path_order}
use Rattle.json_report.proofs.vectors.comes_before.Goals as goal

pub returns : goal.returns
returns c = λ e is.
    let first : IsWord c.args.v = omega arith in
    let second : IsWord c.args.w = omega arith in
    c.is_lt.ensures ∙ c.compare.ensures.less ∙ path_order e c.args.dec.now c.args.v c.args.w is c.requires.first c.requires.second first second
