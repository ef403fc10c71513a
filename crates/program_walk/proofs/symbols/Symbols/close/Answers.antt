use Rattle.std.proofs.Common.{refl}
use Rattle.ada_entities.specs.RegionCode.{enclosing}
use Rattle.program_walk.proofs.ChangeLaws.{moves}
use Rattle.program_walk.proofs.RegionChanges.{enclosing_known}
use Rattle.program_walk.proofs.symbols.Symbols.close.Goals as goal

pub returns-clause-closed : goal.returns-clause-closed
returns-clause-closed c =
    let old = c.args.self.now in
    moves old _ (enclosing old.regions) old.units refl refl refl c.close.ensures.others refl (enclosing_known old.extent old.regions) (λ h. h)
