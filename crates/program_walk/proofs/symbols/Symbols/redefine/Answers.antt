use Rattle.std.proofs.Common.{◌∷◌, sym, ap, ◌∙◌, subst}
use Rattle.ada_rules.specs.Entities.{key}
use Rattle.ada_entities.specs.RegionCode.{Redefines, innermost}
use Rattle.program_walk.proofs.ChangeLaws.{changed_inside, on_ok}
use Rattle.program_walk.proofs.RegionChanges.{redefined_known}
use Rattle.program_walk.proofs.symbols.Symbols.redefine.Goals as goal

pub returns-clause-inside : goal.returns-clause-inside
returns-clause-inside c =
    let old = c.args.self.now in
    let name = key c.args.name.now in
    let x = c.args.entity in
    let r = c.redefine.new.self in
    on_ok c.open.result _ _
    (λ e. changed_inside old r c.open.new.self (e ∙ ap (λ rs. r ∷ rs) c.close-region.ensures.others)
    (λ h. redefined_known old.extent (innermost old.regions) r name x h (sym c.knows_entity.ensures ∙ c.if-not-knows_entity.false)
    (subst (λ before. Redefines before name x r) c.close-region.ensures.region c.in_ok-redefine.ensures)))
    c.open.ensures
