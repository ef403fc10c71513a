use Rattle.std.proofs.Common.{sym, ◌∙◌}
use Rattle.ada_rules.specs.Types.{declared_in}
use Rattle.program_walk.proofs.OwnerLaws.{owner_is}
use Rattle.declarations.proofs.owners.new_identity.Goals as goal

pub returns-clause-identity : goal.returns-clause-identity
returns-clause-identity c env s is e =
    let owned = owner_is env c.args.context.now.generic c.owner.result is.generic c.owner.ensures in
    λ z. declared_in (owned z) (sym is.unit_number z) ((c.in_ok-number.ensures.number ∙ sym e) z)
