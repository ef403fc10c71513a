use Rattle.std.proofs.Common.{[], Ok, refl, sym, ap, ◌∙◌}
use Rattle.program_walk.specs.States.{state_of}
use Rattle.declarations.specs.Locals.{made_of}
use Rattle.declarations.specs.Values.{declared_in}
use Rattle.program_walk.proofs.GoingLaws.{goes_nowhere, region_is}
use Rattle.declarations.proofs.KindLaws.{answers_behind, made_alone}
use Rattle.declarations.proofs.kinds.kind_declared.Goals as goal

pub returns-in-Type-clause-comes : goal.returns-in-Type-clause-comes
returns-in-Type-clause-comes c k env h b =
    let x = c.type_declared in
    rw c.in-Type.is
    (answers_behind (made_of k c.args.made.now.items) (declared_in k x.new.walk []) _ x.result refl (x.ensures.comes k env h b))

pub returns-in-Type-clause-goes : goal.returns-in-Type-clause-goes
returns-in-Type-clause-goes c = c.type_declared.ensures.goes

pub returns-in-Subtype-clause-comes : goal.returns-in-Subtype-clause-comes
returns-in-Subtype-clause-comes c k env h b =
    let x = c.subtype_declared in
    rw c.in-Subtype.is
    (answers_behind (made_of k c.args.made.now.items) (declared_in k x.new.walk []) _ x.result refl (x.ensures.comes k env h b))

pub returns-in-Subtype-clause-goes : goal.returns-in-Subtype-clause-goes
returns-in-Subtype-clause-goes c = c.subtype_declared.ensures.goes

pub returns-in-Object-clause-comes : goal.returns-in-Object-clause-comes
returns-in-Object-clause-comes c k env h b = rw (c.in-Object.is, sym c.as_slice.ensures) (c.objects_declared.ensures.comes k env h b)

pub returns-in-Object-clause-goes : goal.returns-in-Object-clause-goes
returns-in-Object-clause-goes c = c.objects_declared.ensures.goes

pub returns-in-Exception-clause-comes : goal.returns-in-Exception-clause-comes
returns-in-Exception-clause-comes c k env h b =
    let x = c.exceptions_declared in
    rw (c.in-Exception.is, sym c.as_slice-in-Exception.ensures)
    (answers_behind (made_of k c.args.made.now.items) (declared_in k x.new.walk []) _ x.result refl (x.ensures.comes k env h b))

pub returns-in-Exception-clause-goes : goal.returns-in-Exception-clause-goes
returns-in-Exception-clause-goes c = c.exceptions_declared.ensures.goes

pub returns-in-Pragma-clause-comes : goal.returns-in-Pragma-clause-comes
returns-in-Pragma-clause-comes c k env h b =
    let w = c.args.walk.now in
    let before = made_of k c.args.made.now.items in
    rw c.in-Pragma.is
    (ap Ok (made_alone before (record { region = env.local; next = state_of k w; made = [] }) refl)
    ∙ ap (λ r. Ok (record { region = r; next = state_of k w; made = before })) (region_is c.args.context.now w k env h))

pub returns-in-Pragma-clause-goes : goal.returns-in-Pragma-clause-goes
returns-in-Pragma-clause-goes c = goes_nowhere c.args.walk.now
