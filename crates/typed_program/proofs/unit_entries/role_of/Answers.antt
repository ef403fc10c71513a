use Rattle.std.proofs.Common.{⊎_elim, ap}
use Rattle.std.proofs.lemmas.Result.{IfOk-weaker}
use Rattle.ada_rules.specs.Library.{is_package_body}
use Rattle.typed_program.proofs.EntryLaws.{role_of_body, role_of_other}
use Rattle.typed_program.proofs.unit_entries.role_of.Goals as goal

pub returns-in-PackageBody : goal.returns-in-PackageBody
returns-in-PackageBody c =
    IfOk-weaker c.body_role.result _ _
    (λ r own. role_of_body c.args.library.now c.args.symbols.now.units c.args.unit c.args.item.now c.in-PackageBody.body r c.in-PackageBody.is own)
    c.body_role.ensures

pub returns-in-Package : goal.returns-in-Package
returns-in-Package c =
    role_of_other c.args.library.now c.args.symbols.now.units c.args.unit c.args.item.now c.own_role.result
    (⊎_elim (λ p. ap is_package_body p.1) (λ o. ⊎_elim (λ i. ap is_package_body i.1) (λ b. ap is_package_body b.1) o) c.in-Package.is)
    c.own_role.ensures
