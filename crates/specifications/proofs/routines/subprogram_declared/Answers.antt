use Rattle.std.proofs.Common.{unwrap_or, Ok, refl, sym, ap, ◌∙◌, true}
use Rattle.std.proofs.lemmas.Result.{err_from_is_err_and}
use Rattle.ada_rules.specs.Entities.{key, routine, redefined}
use Rattle.ada_rules.specs.Environment.{given}
use Rattle.ada_rules.specs.Subprograms.{routine_of}
use Rattle.ada_entities.specs.EntityViews.{region_of}
use Rattle.ada_entities.specs.RegionCode.{innermost}
use Rattle.specifications.specs.Profiles.{profile_of}
use Rattle.program_walk.specs.declared.walk.Walk.{Walk}
use Rattle.program_walk.specs.Walks.{Begins}
use Rattle.program_walk.specs.States.{state_of}
use Rattle.program_walk.proofs.GoingLaws.{then_goes, keeps_inside, stays_behind, inside_continues, refused_behind}
use Rattle.program_walk.proofs.InsideLaws.{stays_open}
use Rattle.program_walk.proofs.HidingLaws as hiding
use Rattle.program_walk.proofs.HidingLaws.{symbols_stay, name_hidden, stands_behind}
use Rattle.specifications.proofs.DeclaredLaws.{name_refused, profile_refused, no_body, declared_passes}
use Rattle.specifications.proofs.routines.subprogram_declared.Goals as goal

pub returns-in_err-declare-clause-comes : goal.returns-in_err-declare-clause-comes
returns-in_err-declare-clause-comes c k env h b =
    let e = err_from_is_err_and c.from_residual.result c.from_residual.ensures.1 in
    rw (e.1, e.2) (name_refused env (state_of k c.args.walk.now) c.args.specification.now c.in_err-declare.field-0.0
    (hiding.name_refused c.args.context.now c.args.walk.now k env h c.args.specification.now.name c.in_err-declare.field-0.0 c.in_err-declare.ensures.refused))

pub returns-in_err-declare-clause-goes : goal.returns-in_err-declare-clause-goes
returns-in_err-declare-clause-goes c open_now =
    let e = err_from_is_err_and c.from_residual.result c.from_residual.ensures.1 in
    rw (e.1, e.2) (symbols_stay c.args.walk.now _ c.in_err-declare.field-0.0 c.declare.ensures.continues refl)

pub returns-in_err-profile-clause-comes : goal.returns-in_err-profile-clause-comes
returns-in_err-profile-clause-comes c k env h b =
    let e = err_from_is_err_and c.from_residual-in_err-profile.result c.from_residual-in_err-profile.ensures.1 in
    rw (e.1, e.2) (let w = c.args.walk.now in
    let x = c.args.specification.now in
    let s = c.declare.new.self in
    let f = c.in_err-profile.field-0.0 in
    let first : Walk = record w { symbols = s } in
    refused_behind first c.profile_alone.new.walk k f _ c.in_err-profile.ensures.keeps b (λ before.
    let stands = stands_behind c.args.context.now w k env h s c.in_ok-declare.ensures.inside before in
    profile_refused env (state_of k w) x (region_of k (innermost s.regions))
    (name_hidden c.args.context.now w k env h s x.name c.in_ok-declare.ensures.declared) f (c.in_err-profile.ensures.comes k _ stands b)))

pub returns-in_err-profile-clause-goes : goal.returns-in_err-profile-clause-goes
returns-in_err-profile-clause-goes c open_now =
    let e = err_from_is_err_and c.from_residual-in_err-profile.result c.from_residual-in_err-profile.ensures.1 in
    rw (e.1, e.2) (let w = c.args.walk.now in
    let first : Walk = record w { symbols = c.declare.new.self } in
    stays_behind w first c.profile_alone.new.walk c.in_err-profile.field-0.0
    (inside_continues w first (record { symbols = c.in_ok-declare.ensures.inside; spans = refl })) c.in_err-profile.ensures.keeps)

pub returns-in_default-clause-comes : goal.returns-in_default-clause-comes
returns-in_default-clause-comes c k env h b =
    let w = c.args.walk.now in
    let x = c.args.specification.now in
    let s = c.declare.new.self in
    let first : Walk = record w { symbols = s } in
    let second = c.profile_alone.new.walk in
    let g = c.in_ok-declare.ensures.inside in
    let kept = keeps_inside first second (stays_open w.symbols first.symbols g) c.in_ok-profile.ensures.keeps in
    let stands = stands_behind c.args.context.now w k env h s g (inside_continues first second kept k b) in
    let has = c.in_ok-profile.ensures.comes k _ stands b in
    rw c.refused.ensures (no_body env (state_of k w) x (region_of k (innermost s.regions))
    (name_hidden c.args.context.now w k env h s x.name c.in_ok-declare.ensures.declared)
    (given (profile_of k has.region c.in_ok-profile.profile) has.next) has.comes
    (sym (c.in_ok-body.ensures env h.library h.unit_name) ∙ c.in_default.is))

pub returns-clause-comes : goal.returns-clause-comes
returns-clause-comes c k env h b =
    let w = c.args.walk.now in
    let x = c.args.specification.now in
    let s = c.declare.new.self in
    let first : Walk = record w { symbols = s } in
    let second = c.profile_alone.new.walk in
    let g = c.in_ok-declare.ensures.inside in
    let kept = keeps_inside first second (stays_open w.symbols first.symbols g) c.in_ok-profile.ensures.keeps in
    let more = c.in_ok-add_routine.ensures.inside (stays_open first.symbols second.symbols kept.symbols) in
    let behind : Begins second k = record { symbols = more.begins k b.symbols; spans = b.spans } in
    let stands = stands_behind c.args.context.now w k env h s g (inside_continues first second kept k behind) in
    let has = c.in_ok-profile.ensures.comes k _ stands behind in
    let body = sym (c.in_ok-body.ensures env h.library h.unit_name) ∙ c.in-Some.is in
    let region = c.in_ok-add_routine.ensures.added k env has.region b.symbols h.generic (ap (λ o. unwrap_or o 0) body)
    ∙ ap (λ rs. redefined (key x.name) (routine (routine_of env (key x.name) true (profile_of k has.region c.in_ok-profile.profile))) (region_of k (innermost rs)))
    c.in_ok-profile.ensures.keeps.symbols.regions in
    declared_passes env (state_of k w) x (region_of k (innermost s.regions))
    (name_hidden c.args.context.now w k env h s x.name c.in_ok-declare.ensures.declared)
    (given (profile_of k has.region c.in_ok-profile.profile) has.next) has.comes c.in-Some.body body
    ∙ (λ z. Ok (given (sym region z) (sym has.state z)))

pub returns-clause-goes : goal.returns-clause-goes
returns-clause-goes c open_now =
    let w = c.args.walk.now in
    let first : Walk = record w { symbols = c.declare.new.self } in
    let second = c.profile_alone.new.walk in
    let g = c.in_ok-declare.ensures.inside in
    let kept = keeps_inside first second (stays_open w.symbols first.symbols g) c.in_ok-profile.ensures.keeps in
    then_goes w first _ (record { symbols = g; spans = refl })
    (then_goes first second _ kept (record { symbols = c.in_ok-add_routine.ensures.inside (stays_open first.symbols second.symbols kept.symbols); spans = refl }))
