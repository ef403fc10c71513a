use Rattle.std.proofs.Common.{◌∷◌, refl, ap, ◌∙◌, subst}
use Rattle.std.proofs.lemmas.Result.{err_from_is_err_and}
use Rattle.ada_entities.specs.Answers.{no_memory}
use Rattle.ada_entities.specs.declared.entity.Entity.TheVariants as entity
use Rattle.ada_entities.specs.RegionCode.{Declares, innermost}
use Rattle.program_walk.proofs.ChangeLaws.{changed_inside}
use Rattle.program_walk.proofs.RegionChanges.{declared_known}
use Rattle.program_walk.proofs.symbols.Symbols.declare.Goals as goal

pub returns-in_err-open-clause-refused : goal.returns-in_err-open-clause-refused
returns-in_err-open-clause-refused c =
    let p = err_from_is_err_and c.from_residual-in_err-open.result c.from_residual-in_err-open.ensures.1 in
    rw (p.1, p.2) (λ k. no_memory)

pub returns-clause-inside : goal.returns-clause-inside
returns-clause-inside c =
    let old = c.args.self.now in
    let i = c.args.name.now in
    let r = c.declare.new.self in
    changed_inside old r c.open.new.self (c.in_ok-open.ensures ∙ ap (λ rs. r ∷ rs) c.close-region.ensures.others)
    (λ h. declared_known old.extent (innermost old.regions) r i entity.Hidden h refl
    (subst (λ before. Declares before i entity.Hidden r) c.close-region.ensures.region c.in_ok-declare.ensures.declared))
