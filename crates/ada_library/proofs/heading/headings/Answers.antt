use Rattle.std.proofs.lemmas.Grind.{common_steps}
use Rattle.std.proofs.Common.{◌+◌, drop, rules, arith, ◌∙◌, subst}
use Rattle.std.proofs.lemmas.Result.{err_from_is_err_and}
use Rattle.ada_rules.specs.Library.{heading}
use Rattle.ada_rules.specs.Units.{all_headings}
use Rattle.ada_entities.specs.Answers.{Refuses, no_memory}
use Rattle.ada_library.proofs.HeadingLaws.{refused_as, unit_refused}
use Rattle.ada_library.proofs.NameLaws.{drop_item}
use Rattle.ada_library.proofs.heading.headings.Goals as goal

pub returns-in_err-numbered : goal.returns-in_err-numbered
returns-in_err-numbered c =
    let p = err_from_is_err_and c.from_residual.result c.from_residual.ensures.1 in
    rw (p.1, p.2) (λ l is. no_memory)

pub returns-in_err-heading : goal.returns-in_err-heading
returns-in_err-heading c l is =
    let us = c.args.units.now in
    let i = c.loop-index.index in
    let u = c.index-units-index.result in
    let f = c.in_err-heading.field-0.0 in
    let so_far = c.loop-index.invariant l is ∙ drop_item (λ ys. (all_headings l i ys).answer) us i u (omega arith) c.index-units-index.is in
    let own = subst (λ n. Refuses (heading l n u).answer f) c.in_ok-numbered.ensures.number (c.in_err-heading.ensures l is) in
    let r = refused_as _ _ f so_far (unit_refused l i u (drop (i + 1) us) f own) in
    search (rules, r)

pub loop-index-preserved : goal.loop-index-preserved
loop-index-preserved c = grind (arith, common_steps)
