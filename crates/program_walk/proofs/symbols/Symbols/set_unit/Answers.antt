use Rattle.std.proofs.Common.{set, refl, sym, ◌∙◌}
use Rattle.program_walk.proofs.ChangeLaws.{moves}
use Rattle.program_walk.proofs.RegionChanges.{interface_known, set_known}
use Rattle.program_walk.proofs.symbols.Symbols.set_unit.Goals as goal

pub returns : goal.returns
returns c s =
    let old = c.args.self.now in
    let i = c.args.interface in
    moves old _ old.regions (set old.units c.args.unit i) refl refl refl refl c.set.ensures (λ h. h)
    (λ h. set_known old.extent old.units c.args.unit i h (interface_known old.extent i (sym c.knows_interface.ensures ∙ c.if-not-knows_interface.false) s))
