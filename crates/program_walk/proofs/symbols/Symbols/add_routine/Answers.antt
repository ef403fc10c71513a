use Rattle.std.proofs.Common.{◌≡◌, refl, sym, ◌∙◌, arith}
use Rattle.program_walk.proofs.ChangeLaws.{routine_grows, routine_found}
use Rattle.program_walk.proofs.symbols.Symbols.add_routine.Goals as goal

pub returns-clause-number : goal.returns-clause-number
returns-clause-number c =
    routine_found c.args.self.now (record c.args.self.now { routines = c.add.new.self }) c.args.routine c.in_ok-number.number
    c.in_ok-number.ensures.number c.in_ok-number.ensures.added

pub returns-clause-added : goal.returns-clause-added
returns-clause-added c =
    let same : c.in_ok-number.number ≡ c.args.self.now.extent.routines = omega arith in
    routine_grows c.args.self.now _ c.args.routine c.in_ok-number.number c.in_ok-number.ensures.number c.in_ok-number.ensures.added
    same refl refl refl (sym c.knows_subprogram.ensures ∙ c.if-not-knows_subprogram.false) refl refl refl
