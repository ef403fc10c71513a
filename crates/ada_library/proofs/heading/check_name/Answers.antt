use Rattle.std.proofs.Common.{◌≡◌, ◌∷◌, false, sym, ◌∙◌, subst}
use Rattle.std.proofs.lemmas.Result.{err_from_is_err_and}
use Rattle.ada_rules.specs.Library.{all_named_in_with}
use Rattle.ada_entities.specs.Answers.{Refuses, refused_at, no_memory}
use Rattle.ada_library.proofs.HeadingLaws.{is_known, name_refused}
use Rattle.ada_library.proofs.heading.check_name.Goals as goal

pub returns-in_err-is_known : goal.returns-in_err-is_known
returns-in_err-is_known c =
    let p = err_from_is_err_and c.from_residual.result c.from_residual.ensures.1 in
    rw (p.1, p.2) (λ all l more is. no_memory)

pub returns-else-branch : goal.returns-else-branch
returns-else-branch c all l more is =
    let n = c.args.number in
    let u = c.args.unit.now in
    let i = c.args.name.now in
    let unknown : is_known l n u i more ≡ false = sym (c.in_ok-is_known.ensures all l is) ∙ c.if-branch.false in
    subst (λ f. Refuses (all_named_in_with l n u (i ∷ more)).answer f) (sym c.refused.ensures) (refused_at (name_refused l n u i more unknown))
