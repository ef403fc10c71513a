use Rattle.std.proofs.Common.{[], Ok, refl, sym, ap, ◌∙◌, subst}
use Rattle.std.proofs.lemmas.Result.{err_from_is_err_and}
use Rattle.ada_rules.specs.Environment.{given, opened, with_local}
use Rattle.ada_rules.specs.Subprograms.{fresh, declared_only}
use Rattle.ada_rules.specs.Units.{at_unit}
use Rattle.ada_phrases.proofs.Parts.{refused_as}
use Rattle.program_walk.specs.declared.context.Level.TheVariants as level
use Rattle.program_walk.specs.States.{state_of}
use Rattle.program_walk.specs.Walks.{Begins, StandsAt}
use Rattle.program_walk.proofs.Following.{grown, reopened_inside}
use Rattle.program_walk.specs.Going.{region_in}
use Rattle.program_walk.proofs.GoingLaws.{stays_behind, refused_behind}
use Rattle.program_walk.proofs.InsideLaws.{grows_itself}
use Rattle.ada_entities.specs.RegionCode.{innermost}
use Rattle.unit_interfaces.specs.specifications.specs.Profiles.{profile_of}
use Rattle.unit_interfaces.specs.specifications.proofs.AloneLaws.{emptied_walk, emptied_continues, enters_continues, restored}
use Rattle.unit_interfaces.specs.specifications.specs.Contexts.{IsBodyContext}
use Rattle.unit_interfaces.specs.specifications.proofs.ContextLaws.{in_subprogram, stands_in_body}
use Rattle.unit_interfaces.proofs.GoingLaws.{region_left, into_open}
use Rattle.unit_interfaces.specs.specifications.proofs.HeadLaws.{specified_alike}
use Rattle.library_units.proofs.LibraryLaws.{profile_refused, body_refused, body_passes, bare, opens_into}
use Rattle.library_units.proofs.library.library_body.Goals as goal

pub returns-in_err-profile-clause-comes : goal.returns-in_err-profile-clause-comes
returns-in_err-profile-clause-comes c k env before h b local inside at =
    let e = err_from_is_err_and c.from_residual.result c.from_residual.ensures.1 in
    rw (e.1, e.2) (let w = c.args.walk.now in
    let x = c.args.body.now in
    let emptied = emptied_walk w c.replace-words.new.dest in
    let f = c.in_err-profile.field-0.0 in
    refused_behind emptied c.specified.new.walk k f _ c.in_err-profile.ensures.enters b (λ middle.
    profile_refused env before x f
    (refused_as _ _ f (specified_alike env (at_unit before) (state_of k emptied) x.specification (ap fresh (sym at)))
    (c.in_err-profile.ensures.comes k env (grown c.args.context.now w emptied (grows_itself w.symbols) k env h middle) b))))

pub returns-in_err-profile-clause-goes : goal.returns-in_err-profile-clause-goes
returns-in_err-profile-clause-goes c s =
    let e = err_from_is_err_and c.from_residual.result c.from_residual.ensures.1 in
    rw (e.1, e.2) (let w = c.args.walk.now in
    stays_behind w (emptied_walk w c.replace-words.new.dest) c.specified.new.walk c.in_err-profile.field-0.0
    (emptied_continues w c.replace-words.new.dest) c.in_err-profile.ensures.enters)

pub returns-in_err-body_inside-clause-comes : goal.returns-in_err-body_inside-clause-comes
returns-in_err-body_inside-clause-comes c k env before h b local inside at =
    let e = err_from_is_err_and c.from_residual-in_err-body_inside.result c.from_residual-in_err-body_inside.ensures.1 in
    rw (e.1, e.2) (let w = c.args.walk.now in
    let x = c.args.body.now in
    let own = c.args.context.now in
    let emptied = emptied_walk w c.replace-words.new.dest in
    let second = c.specified.new.walk in
    let third = c.body_inside.new.walk in
    let f = c.in_err-body_inside.field-0.0 in
    let enters = c.in_ok-profile.ensures.enters in
    let q = profile_of k (region_in k second) c.in_ok-profile.profile in
    refused_behind second third k f _ (c.in_err-body_inside.ensures.goes (into_open w.symbols second.symbols _ _ enters.symbols)) b (λ middle.
    let stands = grown own w emptied (grows_itself w.symbols) k env h (enters_continues emptied second enters k middle) in
    let head = c.in_ok-head.ensures (enters.symbols.known h.symbols.units.known) k middle.symbols in
    let inner = reopened_inside own (record own { level = level.Inside }) emptied second (innermost second.symbols.regions) refl enters.symbols k env stands middle in
    let is = subst (λ n. IsBodyContext own n c.in_ok-head.head.returning c.body_context-inside.result) refl c.body_context-inside.ensures in
    let there = subst (λ v. StandsAt c.body_context-inside.result second k (in_subprogram (with_local (opened v) (region_in k second)) [] q.result))
    (bare env local inside) (stands_in_body own _ second k _ [] c.in_ok-head.head.returning q.result inner is head.returning) in
    body_refused env before x (given q (state_of k second))
    (specified_alike env (at_unit before) (state_of k emptied) x.specification (ap fresh (sym at)) ∙ c.in_ok-profile.ensures.comes k env stands middle) f
    (c.in_err-body_inside.ensures.comes k env before [] [] q there b head.parameters)))

pub returns-in_err-body_inside-clause-goes : goal.returns-in_err-body_inside-clause-goes
returns-in_err-body_inside-clause-goes c s =
    let e = err_from_is_err_and c.from_residual-in_err-body_inside.result c.from_residual-in_err-body_inside.ensures.1 in
    rw (e.1, e.2) (let w = c.args.walk.now in
    let emptied = emptied_walk w c.replace-words.new.dest in
    let second = c.specified.new.walk in
    let enters = c.in_ok-profile.ensures.enters in
    stays_behind w second c.body_inside.new.walk c.in_err-body_inside.field-0.0
    (λ k b. emptied_continues w c.replace-words.new.dest k (enters_continues emptied second enters k b))
    (c.in_err-body_inside.ensures.goes (into_open w.symbols second.symbols _ _ enters.symbols)))

pub returns-clause-comes : goal.returns-clause-comes
returns-clause-comes c k env before h b local inside at =
    let w = c.args.walk.now in
    let x = c.args.body.now in
    let own = c.args.context.now in
    let emptied = emptied_walk w c.replace-words.new.dest in
    let second = c.specified.new.walk in
    let third = c.body_inside.new.walk in
    let enters = c.in_ok-profile.ensures.enters in
    let q = profile_of k (region_in k second) c.in_ok-profile.profile in
    let advances = c.in_ok-body_inside.ensures.goes (into_open w.symbols second.symbols _ _ enters.symbols) in
    let behind : Begins third k = record { symbols = c.close.ensures.closed.begins k b.symbols; spans = b.spans } in
    let middle = advances.continues k behind in
    let stands = grown own w emptied (grows_itself w.symbols) k env h (enters_continues emptied second enters k middle) in
    let head = c.in_ok-head.ensures (enters.symbols.known h.symbols.units.known) k middle.symbols in
    let inner = reopened_inside own (record own { level = level.Inside }) emptied second (innermost second.symbols.regions) refl enters.symbols k env stands middle in
    let is = subst (λ n. IsBodyContext own n c.in_ok-head.head.returning c.body_context-inside.result) refl c.body_context-inside.ensures in
    let there = subst (λ v. StandsAt c.body_context-inside.result second k (in_subprogram (with_local (opened v) (region_in k second)) [] q.result))
    (bare env local inside) (stands_in_body own _ second k _ [] c.in_ok-head.head.returning q.result inner is head.returning) in
    body_passes env before x (given q (state_of k second))
    (specified_alike env (at_unit before) (state_of k emptied) x.specification (ap fresh (sym at)) ∙ c.in_ok-profile.ensures.comes k env stands middle)
    (declared_only before (state_of k third)) (c.in_ok-body_inside.ensures.comes k env before [] [] q there behind head.parameters)
    ∙ ap Ok (sym (restored k w third c.close.new.self c.replace-words.result c.replace-words.ensures.value
    ∙ ap (λ s. declared_only s (state_of k third)) at))

pub returns-clause-goes : goal.returns-clause-goes
returns-clause-goes c s =
    let w = c.args.walk.now in
    let emptied = emptied_walk w c.replace-words.new.dest in
    let second = c.specified.new.walk in
    let third = c.body_inside.new.walk in
    let enters = c.in_ok-profile.ensures.enters in
    let advances = c.in_ok-body_inside.ensures.goes (into_open w.symbols second.symbols _ _ enters.symbols) in
    record {
      symbols =
          region_left w.symbols second.symbols third.symbols c.close.new.self (opens_into w.symbols second.symbols s.open_now enters.symbols) advances.symbols
          c.close.ensures.closed;
      continues = λ k b.
          emptied_continues w c.replace-words.new.dest k
          (enters_continues emptied second enters k
          (advances.continues k (record { symbols = c.close.ensures.closed.begins k b.symbols; spans = b.spans })));
    }
