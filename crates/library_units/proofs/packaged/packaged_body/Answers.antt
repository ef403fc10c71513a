use Rattle.std.proofs.Common.{Ok, refl, sym, ap, ◌∙◌, subst}
use Rattle.std.proofs.lemmas.Result.{err_from_is_err_and}
use Rattle.ada_rules.specs.Entities.{key}
use Rattle.ada_rules.specs.Environment.{given}
use Rattle.ada_rules.specs.Subprograms.{with_routine, declared_only}
use Rattle.ada_entities.specs.EntityViews.{region_of}
use Rattle.ada_entities.specs.RegionCode.{innermost, enclosing}
use Rattle.program_walk.specs.States.{state_of}
use Rattle.program_walk.specs.Walks.{Begins}
use Rattle.program_walk.proofs.Following.{grown}
use Rattle.program_walk.proofs.GoingLaws.{stays_behind, refused_behind}
use Rattle.program_walk.proofs.InsideLaws.{grows_itself}
use Rattle.unit_interfaces.specs.specifications.proofs.AloneLaws.{emptied_walk, emptied_continues, restored}
use Rattle.unit_interfaces.specs.specifications.specs.Contexts.{IsBodyContext}
use Rattle.unit_interfaces.specs.specifications.specs.Going.{IsSound}
use Rattle.unit_interfaces.proofs.GoingLaws.{region_left, into_open}
use Rattle.unit_interfaces.specs.specifications.proofs.HeadLaws.{body_refused, body_passes}
use Rattle.library_units.proofs.packaged.packaged_body.Goals as goal

pub returns-in_err-head-clause-comes : goal.returns-in_err-head-clause-comes
returns-in_err-head-clause-comes c k env h b =
    let e = err_from_is_err_and c.from_residual.result c.from_residual.ensures.1 in
    rw (e.1, e.2) (let w = c.args.walk.now in
    let emptied = emptied_walk w c.replace-words.new.dest in
    let sound : IsSound emptied = record { known = h.symbols.units.known; open_now = h.symbols.inside } in
    refused_behind emptied c.packaged_head.new.walk k c.in_err-head.field-0.0 _ (c.in_err-head.ensures.goes sound) b (λ before.
    c.in_err-head.ensures.comes k env (grown c.args.context.now w emptied (grows_itself w.symbols) k env h before) b (state_of k w) refl))

pub returns-in_err-head-clause-goes : goal.returns-in_err-head-clause-goes
returns-in_err-head-clause-goes c s =
    let e = err_from_is_err_and c.from_residual.result c.from_residual.ensures.1 in
    rw (e.1, e.2) (let w = c.args.walk.now in
    let emptied = emptied_walk w c.replace-words.new.dest in
    let sound : IsSound emptied = record { known = s.known; open_now = s.open_now } in
    stays_behind w emptied c.packaged_head.new.walk c.in_err-head.field-0.0 (emptied_continues w c.replace-words.new.dest) (c.in_err-head.ensures.goes sound))

pub returns-in_err-body_inside-clause-comes : goal.returns-in_err-body_inside-clause-comes
returns-in_err-body_inside-clause-comes c k env h b =
    let e = err_from_is_err_and c.from_residual-in_err-body_inside.result c.from_residual-in_err-body_inside.ensures.1 in
    rw (e.1, e.2) (let w = c.args.walk.now in
    let x = c.args.body.now in
    let i = x.specification.name in
    let emptied = emptied_walk w c.replace-words.new.dest in
    let second = c.packaged_head.new.walk in
    let third = c.body_inside.new.walk in
    let f = c.in_err-body_inside.field-0.0 in
    let sound : IsSound emptied = record { known = h.symbols.units.known; open_now = h.symbols.inside } in
    let into = c.in_ok-head.ensures.goes sound in
    refused_behind second third k f _ (c.in_err-body_inside.ensures.goes (into_open w.symbols second.symbols _ _ into.symbols)) b (λ middle.
    let has = c.in_ok-head.ensures.comes k env (grown c.args.context.now w emptied (grows_itself w.symbols) k env h (into.continues k middle)) middle in
    let is = subst (λ n. IsBodyContext c.args.context.now n c.in_ok-head.head.returning c.body_context-inside.result) (c.as_slice.ensures.value ∙ c.in_ok-name.ensures) c.body_context-inside.ensures in
    body_refused env (state_of k w) x has.region has.is_completed (given has.profile (state_of k second)) has.is_specified has.is_conforming f
    (c.in_err-body_inside.ensures.comes k env (state_of k w) (with_routine env has.region i has.profile) (key i) has.profile (has.stands _ is) b
    has.head.parameters)))

pub returns-in_err-body_inside-clause-goes : goal.returns-in_err-body_inside-clause-goes
returns-in_err-body_inside-clause-goes c s =
    let e = err_from_is_err_and c.from_residual-in_err-body_inside.result c.from_residual-in_err-body_inside.ensures.1 in
    rw (e.1, e.2) (let w = c.args.walk.now in
    let emptied = emptied_walk w c.replace-words.new.dest in
    let second = c.packaged_head.new.walk in
    let sound : IsSound emptied = record { known = s.known; open_now = s.open_now } in
    let into = c.in_ok-head.ensures.goes sound in
    stays_behind w second c.body_inside.new.walk c.in_err-body_inside.field-0.0
    (λ k b. emptied_continues w c.replace-words.new.dest k (into.continues k b))
    (c.in_err-body_inside.ensures.goes (into_open w.symbols second.symbols _ _ into.symbols)))

pub returns-clause-comes : goal.returns-clause-comes
returns-clause-comes c k env h b =
    let w = c.args.walk.now in
    let x = c.args.body.now in
    let i = x.specification.name in
    let emptied = emptied_walk w c.replace-words.new.dest in
    let second = c.packaged_head.new.walk in
    let third = c.body_inside.new.walk in
    let sound : IsSound emptied = record { known = h.symbols.units.known; open_now = h.symbols.inside } in
    let into = c.in_ok-head.ensures.goes sound in
    let advances = c.in_ok-body_inside.ensures.goes (into_open w.symbols second.symbols _ _ into.symbols) in
    let behind : Begins third k = record { symbols = c.close.ensures.closed.begins k b.symbols; spans = b.spans } in
    let middle = advances.continues k behind in
    let has = c.in_ok-head.ensures.comes k env (grown c.args.context.now w emptied (grows_itself w.symbols) k env h (into.continues k middle)) middle in
    let is = subst (λ n. IsBodyContext c.args.context.now n c.in_ok-head.head.returning c.body_context-inside.result) (c.as_slice.ensures.value ∙ c.in_ok-name.ensures) c.body_context-inside.ensures in
    let outside =
    ap (λ rs. region_of k (innermost rs)) (c.close.ensures.closed.regions ∙ ap enclosing advances.symbols.regions) ∙ has.outside in
    let counted = restored k w third c.close.new.self c.replace-words.result c.replace-words.ensures.value in
    body_passes env (state_of k w) x has.region has.is_completed (given has.profile (state_of k second)) has.is_specified has.is_conforming
    (declared_only (state_of k w) (state_of k third))
    (c.in_ok-body_inside.ensures.comes k env (state_of k w) (with_routine env has.region i has.profile) (key i) has.profile (has.stands _ is) behind
    has.head.parameters)
    ∙ (λ z. Ok (given (sym outside z) (sym counted z)))

pub returns-clause-goes : goal.returns-clause-goes
returns-clause-goes c s =
    let w = c.args.walk.now in
    let emptied = emptied_walk w c.replace-words.new.dest in
    let second = c.packaged_head.new.walk in
    let third = c.body_inside.new.walk in
    let sound : IsSound emptied = record { known = s.known; open_now = s.open_now } in
    let into = c.in_ok-head.ensures.goes sound in
    let advances = c.in_ok-body_inside.ensures.goes (into_open w.symbols second.symbols _ _ into.symbols) in
    record {
      symbols = region_left w.symbols second.symbols third.symbols c.close.new.self into.symbols advances.symbols c.close.ensures.closed;
      continues = λ k b.
          emptied_continues w c.replace-words.new.dest k
          (into.continues k (advances.continues k (record { symbols = c.close.ensures.closed.begins k b.symbols; spans = b.spans })));
    }
