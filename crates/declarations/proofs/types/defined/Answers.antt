use Rattle.std.proofs.Common.{sym, ◌∙◌}
use Rattle.ada_rules.specs.Plan.{answer_at}
use Rattle.ada_entities.specs.Views.{identity_of}
use Rattle.ada_phrases.proofs.Parts.{answers_as}
use Rattle.ada_rules.specs.Environment.{given}
use Rattle.program_walk.specs.States.{state_of}
use Rattle.declarations.specs.Types.{defined_with, enumerating}
use Rattle.program_walk.proofs.GoingLaws.{region_is, keeps_goes}
use Rattle.declarations.proofs.SymbolLaws.{goes_as_symbols}
use Rattle.declarations.proofs.TypeLaws.{with_state, enumeration_is, answers_given}
use Rattle.declarations.proofs.types.defined.Goals as goal

pub returns-in-Integer-clause-comes : goal.returns-in-Integer-clause-comes
returns-in-Integer-clause-comes c p k env h b = rw c.in-Integer.is (c.integer_type.ensures.comes p k env h b)

pub returns-in-Integer-clause-goes : goal.returns-in-Integer-clause-goes
returns-in-Integer-clause-goes c open_now = keeps_goes _ _ c.integer_type.result open_now c.integer_type.ensures.keeps

pub returns-in-Enumeration-clause-comes : goal.returns-in-Enumeration-clause-comes
returns-in-Enumeration-clause-comes c p k env h b =
    let w = c.args.walk.now in
    let s = state_of k w in
    let i = identity_of c.args.identity in
    let e = c.enumerated in
    rw c.in-Enumeration.is
    (answers_as (λ t. given (defined_with e.new.symbols.regions k t) s) _ _ e.result
    (enumeration_is env s p i c.in-Enumeration.names
    ∙ (λ z. with_state s (answer_at p (enumerating i p (region_is c.args.context.now w k env h z) (sym c.as_slice.ensures z)).outcome)))
    (answers_given (defined_with e.new.symbols.regions k) s _ e.result (e.ensures.comes k p)))

pub returns-in-Enumeration-clause-goes : goal.returns-in-Enumeration-clause-goes
returns-in-Enumeration-clause-goes c open_now = goes_as_symbols c.args.walk.now c.enumerated.new.symbols c.enumerated.result open_now c.enumerated.ensures.goes

pub returns-in-Array-clause-comes : goal.returns-in-Array-clause-comes
returns-in-Array-clause-comes c p k env h b = rw c.in-Array.is (c.array_type.ensures.comes p k env h b)

pub returns-in-Array-clause-goes : goal.returns-in-Array-clause-goes
returns-in-Array-clause-goes c open_now = keeps_goes _ _ c.array_type.result open_now c.array_type.ensures.keeps

pub returns-in-Record-clause-comes : goal.returns-in-Record-clause-comes
returns-in-Record-clause-comes c p k env h b = rw (c.in-Record.is, sym c.as_slice-in-Record.ensures) (c.record_type.ensures.comes p k env h b)

pub returns-in-Record-clause-goes : goal.returns-in-Record-clause-goes
returns-in-Record-clause-goes c open_now = keeps_goes _ _ c.record_type.result open_now c.record_type.ensures.keeps
