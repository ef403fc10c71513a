use Rattle.std.proofs.Common.{Some, Ok, sym, ap, ◌∙◌}
use Rattle.std.proofs.lemmas.Result.{err_from_is_err_and}
use Rattle.ada_rules.specs.Plan.{rule}
use Rattle.ada_rules.specs.Types.{type_in}
use Rattle.ada_rules.specs.Environment.{hide_all}
use Rattle.ada_rules.specs.Declarations as rules
use Rattle.ada_rules.specs.Declarations.{literals}
use Rattle.ada_entities.specs.EntityViews.{region_of}
use Rattle.ada_entities.specs.RegionCode.{innermost}
use Rattle.ada_entities.specs.Views.{identity_of}
use Rattle.ada_phrases.proofs.Parts.{in_part, passes_on}
use Rattle.program_walk.proofs.HideLaws.{then_inside}
use Rattle.program_walk.proofs.InsideLaws.{stays_open}
use Rattle.declarations.proofs.SymbolLaws.{symbols_kept}
use Rattle.declarations.proofs.types.enumerated.Goals as goal

pub returns-in_err-hide_all-clause-comes : goal.returns-in_err-hide_all-clause-comes
returns-in_err-hide_all-clause-comes c k p =
    let e = err_from_is_err_and c.from_residual.result c.from_residual.ensures.1 in
    rw (e.1, e.2) (let r = region_of k (innermost c.args.symbols.now.regions) in
    let is = c.args.names.now in
    in_part p (hide_all p r is).answer (λ x. rule (Some (rules.enumerated (identity_of c.args.identity) x is))) c.in_err-hide_all.field-0.0
    (c.in_err-hide_all.ensures.refused k p))

pub returns-in_err-hide_all-clause-goes : goal.returns-in_err-hide_all-clause-goes
returns-in_err-hide_all-clause-goes c =
    let e = err_from_is_err_and c.from_residual.result c.from_residual.ensures.1 in
    rw (e.1, e.2) (symbols_kept c.args.symbols.now c.hide_all.new.self c.in_err-hide_all.field-0.0 c.hide_all.ensures.continues)

pub returns-clause-comes : goal.returns-clause-comes
returns-clause-comes c k p =
    let r = region_of k (innermost c.args.symbols.now.regions) in
    let x = region_of k (innermost c.hide_all.new.self.regions) in
    let is = c.args.names.now in
    let t = c.in_ok-subtype.ensures k in
    let region = c.in_ok-declare_literals.ensures.literals k ∙ ap (λ y. literals (type_in y) 0 x is) t in
    passes_on p (hide_all p r is).answer (λ x. rule (Some (rules.enumerated (identity_of c.args.identity) x is))) x (c.in_ok-hide_all.ensures.hidden k p)
    ∙ (λ z. Ok (record { subtype = sym t z; region = sym region z }))

pub returns-clause-goes : goal.returns-clause-goes
returns-clause-goes c open_now =
    let g = c.in_ok-hide_all.ensures.inside open_now in
    then_inside _ _ _ g (c.in_ok-declare_literals.ensures.inside (stays_open _ _ g))
