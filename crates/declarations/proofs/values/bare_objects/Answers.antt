use Rattle.std.proofs.Common.{Ok, refl, sym, ap, ◌∙◌}
use Rattle.std.proofs.lemmas.Result.{err_from_is_err_and}
use Rattle.ada_rules.specs.Environment.{given, with_local}
use Rattle.ada_rules.specs.Declarations.{may_be_bare, local_bare, library_declared, no_library_value}
use Rattle.ada_entities.specs.Views.{subtype_of}
use Rattle.ada_phrases.specs.Scopes.{step_of}
use Rattle.ada_phrases.proofs.Parts.{refused_as}
use Rattle.program_walk.specs.States.{state_of}
use Rattle.program_walk.specs.Walks.{is_library}
use Rattle.program_walk.specs.Going.{region_in}
use Rattle.declarations.specs.Locals.{made_of}
use Rattle.declarations.specs.Made.{behind, behind_made}
use Rattle.program_walk.proofs.HidingLaws.{stays_there}
use Rattle.program_walk.proofs.GoingLaws.{is_in, is_in_local}
use Rattle.declarations.proofs.KindLaws.{behind_refused, made_alone}
use Rattle.declarations.proofs.ValueLaws.{at_level, broken_at, bare_at_library, bare_inside}
use Rattle.declarations.proofs.values.bare_objects.Goals as goal

pub returns-in_err-may_be_bare-clause-comes : goal.returns-in_err-may_be_bare-clause-comes
returns-in_err-may_be_bare-clause-comes c k env h b =
    let e = err_from_is_err_and c.from_residual.result c.from_residual.ensures.1 in
    rw (e.1, e.2) (let w = c.args.walk.now in
    let t = given (subtype_of k.types c.args.subtype) (state_of k w) in
    let region = region_in k w in
    let is = c.args.names.now in
    let kind = c.args.constancy in
    let f = c.in_err-may_be_bare.field-0.0 in
    let library = library_declared env kind region is t.value no_library_value t.next in
    behind_refused (made_of k c.args.made.now.items) _ f
    (refused_as _ _ f (λ z. at_level (h.symbols.step z) c.args.pos library (local_bare kind region is t) (may_be_bare kind) env.is_library)
    (broken_at (step_of c.args.context.now.step) c.args.pos library (local_bare kind region is t) (may_be_bare kind) f c.in_err-may_be_bare.ensures
    env.is_library)))

pub returns-in_err-may_be_bare-clause-goes : goal.returns-in_err-may_be_bare-clause-goes
returns-in_err-may_be_bare-clause-goes c open_now =
    let e = err_from_is_err_and c.from_residual.result c.from_residual.ensures.1 in
    rw (e.1, e.2) (stays_there c.args.walk.now c.args.walk.now c.in_err-may_be_bare.field-0.0 (λ k b. b))

pub returns-in_ok-make_library_objects-in-Library-clause-comes : goal.returns-in_ok-make_library_objects-in-Library-clause-comes
returns-in_ok-make_library_objects-in-Library-clause-comes c k env h b =
    let w = c.args.walk.now in
    let t = given (subtype_of k.types c.args.subtype) (state_of k w) in
    let region = region_in k w in
    let is = c.args.names.now in
    let kind = c.args.constancy in
    let before = made_of k c.args.made.now.items in
    let library = library_declared env kind region is t.value no_library_value t.next in
    let made = ap (λ v. library_declared env kind region is t.value v t.next) (sym (c.none-none.ensures k))
    ∙ c.in_ok-make_library_objects-in-Library.ensures.made k env (is_in_local c.args.context.now env region (is_in c.args.context.now w k (with_local env region) h)) h.symbols.units.known h.symbols.units.begins in
    ap (behind before)
    (bare_at_library env c.args.pos kind region is t (step_of c.args.context.now.step) h.symbols.step (h.level ∙ ap is_library c.in-Library.is)
    ∙ c.in_ok-may_be_bare.ensures library)
    ∙ (ap (λ d. Ok (behind_made before d)) made ∙ ap Ok (made_alone before _ refl))

pub returns-in_ok-make_bare_locals-in-Inside-clause-comes : goal.returns-in_ok-make_bare_locals-in-Inside-clause-comes
returns-in_ok-make_bare_locals-in-Inside-clause-comes c k env h b =
    let w = c.args.walk.now in
    let t = given (subtype_of k.types c.args.subtype) (state_of k w) in
    let region = region_in k w in
    let is = c.args.names.now in
    let kind = c.args.constancy in
    let before = made_of k c.args.made.now.items in
    ap (behind before)
    (bare_inside env c.args.pos kind region is t (step_of c.args.context.now.step) h.symbols.step (h.level ∙ ap is_library c.in-Inside.is)
    ∙ c.in_ok-may_be_bare.ensures (local_bare kind region is t))
    ∙ ap Ok (c.in_ok-make_bare_locals-in-Inside.ensures.made k h.symbols.units.known h.symbols.units.begins)
