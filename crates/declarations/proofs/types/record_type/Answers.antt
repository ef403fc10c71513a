use Rattle.std.proofs.Common.{Ok, ◌<◌, length, sym, ap, ◌∙◌, subst, arith}
use Rattle.std.proofs.lemmas.Result.{err_from_is_err_and}
use Rattle.ada_rules.specs.Types.{of_type, record_type, base}
use Rattle.ada_rules.specs.Environment.{given, opened}
use Rattle.ada_entities.specs.EntityViews.{region_of}
use Rattle.ada_entities.specs.RegionCode.{innermost}
use Rattle.ada_entities.specs.Tables.{fields_of}
use Rattle.ada_entities.specs.Views.{identity_of}
use Rattle.program_walk.specs.Walks.{Begins}
use Rattle.program_walk.specs.States.{state_of}
use Rattle.program_walk.proofs.Following.{opened_inside}
use Rattle.declarations.specs.Components.{fields_in}
use Rattle.program_walk.proofs.GoingLaws.{region_is, inside_continues, refused_behind, stays_behind}
use Rattle.program_walk.proofs.InsideLaws.{region_gone}
use Rattle.program_walk.proofs.HidingLaws.{with_symbols}
use Rattle.declarations.proofs.TypeLaws.{fields_refused, record_passes}
use Rattle.declarations.proofs.types.record_type.Goals as goal

pub returns-in_err-fields-clause-comes : goal.returns-in_err-fields-clause-comes
returns-in_err-fields-clause-comes c p k env h b =
    let e = err_from_is_err_and c.from_residual-in_err-fields.result c.from_residual-in_err-fields.ensures.1 in
    rw (e.1, e.2) (let w = c.args.walk.now in
    let first = with_symbols w c.open.new.self in
    let open_then = subst (λ rs. 0 < length rs) (sym c.in_ok-open.ensures.regions) (omega arith) in
    let f = c.in_err-fields.field-0.0 in
    refused_behind first c.fields.new.walk k f _ (c.in_err-fields.ensures.goes open_then) b (λ begins.
    fields_refused env (state_of k w) p (identity_of c.args.identity) c.args.components.now f
    (c.in_err-fields.ensures.comes p k (opened env)
    (opened_inside c.args.context.now c.inside.result w first c.inside.ensures c.in_ok-open.ensures k env h begins) b)))

pub returns-in_err-fields-clause-keeps : goal.returns-in_err-fields-clause-keeps
returns-in_err-fields-clause-keeps c =
    let e = err_from_is_err_and c.from_residual-in_err-fields.result c.from_residual-in_err-fields.ensures.1 in
    rw (e.1, e.2) (let w = c.args.walk.now in
    let first = with_symbols w c.open.new.self in
    let open_then = subst (λ rs. 0 < length rs) (sym c.in_ok-open.ensures.regions) (omega arith) in
    stays_behind w first c.fields.new.walk c.in_err-fields.field-0.0
    (λ k b. record { symbols = c.in_ok-open.ensures.begins k b.symbols; spans = b.spans }) (c.in_err-fields.ensures.goes open_then))

pub returns-clause-comes : goal.returns-clause-comes
returns-clause-comes c p k env h b =
    let w = c.args.walk.now in
    let first = with_symbols w c.open.new.self in
    let last = c.fields.new.walk in
    let open_then = subst (λ rs. 0 < length rs) (sym c.in_ok-open.ensures.regions) (omega arith) in
    let goes = c.in_ok-fields.ensures.goes open_then in
    let closed = c.close.ensures.closed in
    let grown = c.in_ok-subtype.ensures.grown in
    let begins : Begins last k = record { symbols = closed.begins k (grown.begins k b.symbols); spans = b.spans } in
    let stands = opened_inside c.args.context.now c.inside.result w first c.inside.ensures c.in_ok-open.ensures k env h
    (inside_continues first last goes k begins) in
    let known = closed.known (goes.symbols.known (c.in_ok-open.ensures.known h.symbols.units.known)) in
    let defined = c.in_ok-subtype.ensures.defined known k b.symbols
    ∙ ap (λ cs. of_type (record_type (identity_of c.args.identity) (fields_of k.types cs)) base) c.from.ensures in
    let whole = region_gone w.symbols first.symbols last.symbols c.close.new.self _ c.in_ok-open.ensures goes.symbols closed grown in
    let region = region_is c.args.context.now w k env h ∙ ap (λ rs. region_of k (innermost rs)) (sym whole.regions) in
    record_passes env (state_of k w) p (identity_of c.args.identity) c.args.components.now (given (fields_in k c.in_ok-fields.fields) (state_of k last))
    (c.in_ok-fields.ensures.comes p k (opened env) stands begins)
    ∙ (λ z. Ok (given (record { subtype = sym defined z; region = region z }) (state_of k last)))

pub returns-clause-keeps : goal.returns-clause-keeps
returns-clause-keeps c =
    let w = c.args.walk.now in
    let open_then = subst (λ rs. 0 < length rs) (sym c.in_ok-open.ensures.regions) (omega arith) in
    let goes = c.in_ok-fields.ensures.goes open_then in
    record {
      symbols = region_gone w.symbols c.open.new.self c.fields.new.walk.symbols c.close.new.self _ c.in_ok-open.ensures goes.symbols
          c.close.ensures.closed c.in_ok-subtype.ensures.grown;
      spans = goes.spans;
    }
