use Rattle.std.proofs.Common.{[], refl, ap, ◌∙◌}
use Rattle.ada_rules.specs.Environment.{given}
use Rattle.ada_entities.specs.Views.{subtype_of}
use Rattle.ada_phrases.proofs.Parts.{answers_as}
use Rattle.program_walk.specs.States.{state_of}
use Rattle.program_walk.specs.Walks.{is_library}
use Rattle.program_walk.specs.Going.{region_in}
use Rattle.declarations.specs.Locals.{made_of}
use Rattle.declarations.specs.Made.{behind}
use Rattle.declarations.specs.Values.{declared_in}
use Rattle.declarations.proofs.KindLaws.{answers_behind}
use Rattle.declarations.proofs.ValueLaws.{set_at_library, set_inside}
use Rattle.declarations.proofs.kinds.set_objects.Goals as goal

pub returns-in-Library-clause-comes : goal.returns-in-Library-clause-comes
returns-in-Library-clause-comes c k env h b =
    let w = c.args.walk.now in
    let t = given (subtype_of k.types c.args.subtype) (state_of k w) in
    let before = made_of k c.args.made.now.items in
    let x = c.set_library_objects in
    answers_as (λ u. declared_in k x.new.walk c.args.made.now.items) _ _ x.result
    (ap (behind before) (set_at_library env c.args.pos c.args.constancy (region_in k w) c.args.names.now t c.args.initial.now
    (h.level ∙ ap is_library c.in-Library.is)))
    (answers_behind before (declared_in k x.new.walk []) _ x.result refl (x.ensures.comes k env h b))

pub returns-in-Library-clause-goes : goal.returns-in-Library-clause-goes
returns-in-Library-clause-goes c = c.set_library_objects.ensures.goes

pub returns-in-Inside-clause-comes : goal.returns-in-Inside-clause-comes
returns-in-Inside-clause-comes c k env h b =
    let w = c.args.walk.now in
    let t = given (subtype_of k.types c.args.subtype) (state_of k w) in
    let before = made_of k c.args.made.now.items in
    let x = c.set_locals in
    answers_as (λ u. declared_in k x.new.walk x.new.made.items) _ _ x.result
    (ap (behind before) (set_inside env c.args.pos c.args.constancy (region_in k w) c.args.names.now t c.args.initial.now
    (h.level ∙ ap is_library c.in-Inside.is)))
    (x.ensures.comes k env h b)

pub returns-in-Inside-clause-goes : goal.returns-in-Inside-clause-goes
returns-in-Inside-clause-goes c = c.set_locals.ensures.goes
