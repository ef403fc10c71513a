use Rattle.std.proofs.Common.{◌≡◌, ◌↔◌, true, IsTrue, IfOk, subst, sym, ◌∙◌, ap, rules}
use Rattle.std.specs.List.{list_all}
use Rattle.object_format.specs.RoleCheck.{conditions_of, is_known, AreSingle, AreWhole}
use Rattle.object_format.proofs.RoleLaws.{known_by_field, roles_pass}
use Rattle.object_format.proofs.checks.role.passes_role.Goals as goal

pub are_complete-requires : goal.are_complete-requires
are_complete-requires c =
    let found = c.as_slice-2.ensures.value ∙ (c.in_ok-conditions.ensures ∙ ap conditions_of c.as_slice-roles.ensures) in
    subst (λ decisions. list_all (is_known decisions) c.as_slice-2.result.now ≡ true) (sym c.as_slice-3.ensures)
    (subst (λ all. list_all (is_known c.args.value.now.obligations.decisions) all ≡ true) (sym found) (known_by_field c.args.value.now c.requires))

pub returns : goal.returns
returns c =
    let found = c.as_slice-2.ensures.value ∙ (c.in_ok-conditions.ensures ∙ ap conditions_of c.as_slice-roles.ensures) in
    roles_pass c.args.value.now c.are_complete.result (search rules)
    (subst (λ decisions. IfOk c.are_complete.result (λ complete. IsTrue complete ↔ (AreSingle (conditions_of c.args.value.now.roles) × AreWhole decisions (conditions_of c.args.value.now.roles)))) c.as_slice-3.ensures
    (subst (λ all. IfOk c.are_complete.result (λ complete. IsTrue complete ↔ (AreSingle all × AreWhole c.as_slice-3.result.now all))) found c.are_complete.ensures))
