use Rattle.std.proofs.Common.{◌≡◌, Ok, sym, ◌∙◌, subst}
use Rattle.std.proofs.lemmas.Result.{err_from_is_err_and}
use Rattle.ada_rules.specs.Entities.{hidden}
use Rattle.ada_rules.specs.Environment.{given}
use Rattle.ada_rules.specs.Statements.{loop_parameter}
use Rattle.ada_entities.specs.EntityViews.{region_of}
use Rattle.ada_entities.specs.RegionCode.{innermost, declaration}
use Rattle.ada_entities.specs.Answers.{Refuses}
use Rattle.ada_phrases.specs.Answers.{counted}
use Rattle.statement_parts.specs.Turns.{turns_in}
use Rattle.program_walk.proofs.HideLaws.{then_inside}
use Rattle.program_walk.specs.declared.walk.Walk.{Walk}
use Rattle.program_walk.specs.States.{state_of}
use Rattle.program_walk.proofs.GoingLaws.{inside_continues}
use Rattle.statements.specs.Words.{undecided}
use Rattle.statements.proofs.LoopLaws.{redefined_alone, name_refused, range_refused, begun_passes, stands_hidden, opened_changed}
use Rattle.statements.proofs.loops.begin_for.Goals as goal

pub returns-in_err-declare-clause-comes : goal.returns-in_err-declare-clause-comes
returns-in_err-declare-clause-comes c k env h b =
    let e = err_from_is_err_and c.from_residual-in_err-declare.result c.from_residual-in_err-declare.ensures.1 in
    rw (e.1, e.2) (let f = c.in_err-declare.field-0.0 in
    name_refused env (state_of k c.args.walk.now) c.args.pos c.args.name.now c.args.range.now f
    (subst (λ rs. Refuses (declaration (region_of k (innermost rs)) c.args.name.now hidden) f) c.in_ok-open.ensures.regions
    (c.in_err-declare.ensures.refused k)))

pub returns-in_err-turns-clause-comes : goal.returns-in_err-turns-clause-comes
returns-in_err-turns-clause-comes c k env h b =
    let e = err_from_is_err_and c.from_residual-in_err-turns.result c.from_residual-in_err-turns.ensures.1 in
    rw (e.1, e.2) (let w = c.args.walk.now in
    let i = c.args.name.now in
    let s = c.declare.new.self in
    let region = region_of k (innermost s.regions) in
    let stands = stands_hidden c.args.context.now w c.open.new.self s k env h c.in_ok-open.ensures c.in_ok-declare.ensures.inside b.symbols in
    range_refused env (state_of k w) c.args.pos i c.args.range.now region
    (subst (λ rs. declaration (region_of k (innermost rs)) i hidden ≡ Ok region) c.in_ok-open.ensures.regions (c.in_ok-declare.ensures.declared k))
    c.in_err-turns.field-0.0
    (c.in_err-turns.ensures.turned k _ (undecided k w) (c.place.ensures k _ stands.symbols stands.instances stands.generic).site b.spans))

pub returns-clause-comes : goal.returns-clause-comes
returns-clause-comes c k env h b =
    let w = c.args.walk.now in
    let i = c.args.name.now in
    let s = c.declare.new.self in
    let region = region_of k (innermost s.regions) in
    let set = c.in_ok-parameter.ensures in
    let middle : Walk = record w { symbols = s; notes = record w.notes { decisions = c.turned.new.decisions }; spans = c.turned.new.spans } in
    let begins = inside_continues middle c.set_parameter.new.walk set.inside k b in
    let stands = stands_hidden c.args.context.now w c.open.new.self s k env h c.in_ok-open.ensures c.in_ok-declare.ensures.inside begins.symbols in
    let t = given (turns_in k c.in_ok-turns.turns) (counted c.turned.new.decisions (undecided k w)) in
    let known = c.in_ok-declare.ensures.inside.known (c.in_ok-open.ensures.known h.symbols.units.known) in
    begun_passes env (state_of k w) c.args.pos i c.args.range.now region
    (subst (λ rs. declaration (region_of k (innermost rs)) i hidden ≡ Ok region) c.in_ok-open.ensures.regions (c.in_ok-declare.ensures.declared k)) t
    (c.in_ok-turns.ensures.turned k _ (undecided k w) (c.place.ensures k _ stands.symbols stands.instances stands.generic).site begins.spans)
    ∙ (λ z. Ok (given (record { parameter = sym set.number z; turns = t.value }) (sym (set.state known k b.symbols) z)))

pub returns-clause-parameter : goal.returns-clause-parameter
returns-clause-parameter c k =
    let i = c.args.name.now in
    let region = region_of k (innermost c.declare.new.self.regions) in
    c.in_ok-parameter.ensures.region k
    ∙ redefined_alone i (loop_parameter c.in_ok-parameter.parameter (turns_in k c.in_ok-turns.turns)) region
    (subst (λ rs. declaration (region_of k (innermost rs)) i hidden ≡ Ok region) c.in_ok-open.ensures.regions (c.in_ok-declare.ensures.declared k))

pub returns-clause-opened : goal.returns-clause-opened
returns-clause-opened c =
    let w = c.args.walk.now in
    let s = c.declare.new.self in
    let new = c.set_parameter.new.walk.symbols in
    opened_changed w.symbols c.open.new.self new c.in_ok-open.ensures
    (then_inside c.open.new.self s new c.in_ok-declare.ensures.inside c.in_ok-parameter.ensures.inside.symbols)
