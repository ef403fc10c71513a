use Rattle.std.proofs.Common.{refl}
use Rattle.program_walk.proofs.StandingLaws.{stands}
use Rattle.program_walk.proofs.site.Site.scope.Goals as goal

pub returns : goal.returns
returns c k env h =
    let site = c.args.self.now in
    stands site.step site.own_package site.symbols.now k env h _ refl refl refl refl refl refl
