use Rattle.ada_entities.specs.TypeTable.{tables}
use Rattle.program_walk.specs.Exact.{exact}
use Rattle.program_walk.proofs.StandingLaws.{own_routines}
use Rattle.program_walk.proofs.symbols.Symbols.routine.Goals as goal

pub returns : goal.returns
returns c spans =
    let symbols = c.args.self.now in
    c.get.ensures (exact symbols spans) (own_routines (tables symbols.types) symbols.routines spans)
