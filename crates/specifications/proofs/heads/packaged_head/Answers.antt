use Rattle.std.proofs.Common.{refl, sym, ap, ◌∙◌, subst}
use Rattle.std.proofs.lemmas.Result.{err_from_is_err_and}
use Rattle.ada_rules.specs.Environment.{given, with_local}
use Rattle.ada_rules.specs.Subprograms.{completed}
use Rattle.ada_entities.specs.Answers.{Refuses}
use Rattle.ada_entities.specs.EntityViews.{region_of}
use Rattle.ada_entities.specs.RegionCode.{innermost, enclosing}
use Rattle.ada_phrases.proofs.Parts.{refused_as}
use Rattle.program_walk.specs.declared.walk.Walk.{Walk}
use Rattle.program_walk.specs.States.{state_of}
use Rattle.program_walk.specs.Walks.{Begins}
use Rattle.program_walk.specs.Going.{region_in}
use Rattle.program_walk.proofs.GoingLaws.{region_is, stays_behind, refused_behind}
use Rattle.program_walk.proofs.HidingLaws.{with_symbols, stays_there, symbols_stay, stands_behind}
use Rattle.program_walk.proofs.InsideLaws.{stays_open}
use Rattle.specifications.specs.Profiles.{profile_of}
use Rattle.program_walk.proofs.HideLaws.{then_inside}
use Rattle.specifications.proofs.AloneLaws.{enters_continues}
use Rattle.specifications.proofs.HeadWalks.{round_is, stands_into}
use Rattle.specifications.proofs.HeadLaws.{specified_alike, name_refused, profile_refused, conformity_refused, opens_inside, round_changes, opens_round}
use Rattle.specifications.proofs.heads.packaged_head.Goals as goal

pub returns-in_err-declaration-clause-comes : goal.returns-in_err-declaration-clause-comes
returns-in_err-declaration-clause-comes c k env h b =
    let e = err_from_is_err_and c.from_residual.result c.from_residual.ensures.1 in
    rw (e.1, e.2) (λ before same.
    let w = c.args.walk.now in
    let x = c.args.body.now in
    let f = c.in_err-declaration.field-0.0 in
    name_refused env before x f
    (subst (λ r. Refuses (completed r x.specification.name).answer f) (sym (region_is c.args.context.now w k env h)) (c.in_err-declaration.ensures.refused k)))

pub returns-in_err-declaration-clause-goes : goal.returns-in_err-declaration-clause-goes
returns-in_err-declaration-clause-goes c sound =
    let e = err_from_is_err_and c.from_residual.result c.from_residual.ensures.1 in
    rw (e.1, e.2) (symbols_stay c.args.walk.now _ c.in_err-declaration.field-0.0 c.complete.ensures.continues refl)

pub returns-in_err-profile-clause-comes : goal.returns-in_err-profile-clause-comes
returns-in_err-profile-clause-comes c k env h b =
    let e = err_from_is_err_and c.from_residual-in_err-profile.result c.from_residual-in_err-profile.ensures.1 in
    rw (e.1, e.2) (λ before same.
    let w = c.args.walk.now in
    let x = c.args.body.now in
    let s = c.complete.new.symbols in
    let first = with_symbols w s in
    let f = c.in_err-profile.field-0.0 in
    let inside = c.in_ok-declaration.ensures.inside h.symbols.inside in
    let region = region_of k (innermost s.regions) in
    let named = ap (λ r. (completed r x.specification.name).answer) (region_is c.args.context.now w k env h) ∙ c.in_ok-declaration.ensures.completed.region k in
    refused_behind first c.specified.new.walk k f _ c.in_err-profile.ensures.enters b (λ middle.
    profile_refused env before x region named f
    (refused_as _ _ f (specified_alike (with_local env region) before (state_of k w) x.specification same)
    (c.in_err-profile.ensures.comes k (with_local env region) (stands_behind c.args.context.now w k env h s inside middle) b))))

pub returns-in_err-profile-clause-goes : goal.returns-in_err-profile-clause-goes
returns-in_err-profile-clause-goes c sound =
    let e = err_from_is_err_and c.from_residual-in_err-profile.result c.from_residual-in_err-profile.ensures.1 in
    rw (e.1, e.2) (let w = c.args.walk.now in
    let first = with_symbols w c.complete.new.symbols in
    stays_behind w first c.specified.new.walk c.in_err-profile.field-0.0
    (λ k b. record { symbols = c.complete.ensures.continues k b.symbols; spans = b.spans }) c.in_err-profile.ensures.enters)

pub returns-in_err-conforming-clause-comes : goal.returns-in_err-conforming-clause-comes
returns-in_err-conforming-clause-comes c k env h b =
    let e = err_from_is_err_and c.from_residual-in_err-conforming.result c.from_residual-in_err-conforming.ensures.1 in
    rw (e.1, e.2) (λ before same.
    let w = c.args.walk.now in
    let x = c.args.body.now in
    let s = c.complete.new.symbols in
    let first = with_symbols w s in
    let second = c.specified.new.walk in
    let f = c.in_err-conforming.field-0.0 in
    let inside = c.in_ok-declaration.ensures.inside h.symbols.inside in
    let enters = c.in_ok-profile.ensures.enters in
    let region = region_of k (innermost s.regions) in
    let named = ap (λ r. (completed r x.specification.name).answer) (region_is c.args.context.now w k env h) ∙ c.in_ok-declaration.ensures.completed.region k in
    let behind : Begins second k = record { symbols = b.symbols; spans = b.spans } in
    let middle = enters_continues first second enters k behind in
    let q = profile_of k (region_in k second) c.in_ok-profile.profile in
    conformity_refused env before x region named (given q (state_of k second))
    (specified_alike (with_local env region) before (state_of k w) x.specification same
    ∙ c.in_ok-profile.ensures.comes k (with_local env region) (stands_behind c.args.context.now w k env h s inside middle) behind) f
    (c.in_err-conforming.ensures (enters.symbols.known (inside.known h.symbols.units.known)) k b.symbols x.specification.name region (region_in k second)
    (c.in_ok-declaration.ensures.completed.declared k)))

pub returns-in_err-conforming-clause-goes : goal.returns-in_err-conforming-clause-goes
returns-in_err-conforming-clause-goes c sound =
    let e = err_from_is_err_and c.from_residual-in_err-conforming.result c.from_residual-in_err-conforming.ensures.1 in
    rw (e.1, e.2) (let w = c.args.walk.now in
    let first = with_symbols w c.complete.new.symbols in
    let second = c.specified.new.walk in
    stays_there w second c.in_err-conforming.field-0.0 (λ k b.
    let middle = enters_continues first second c.in_ok-profile.ensures.enters k b in
    record { symbols = c.complete.ensures.continues k middle.symbols; spans = middle.spans }))

pub returns-clause-comes : goal.returns-clause-comes
returns-clause-comes c k env h b =
    let w = c.args.walk.now in
    let x = c.args.body.now in
    let s = c.complete.new.symbols in
    let first = with_symbols w s in
    let second = c.specified.new.walk in
    let fourth : Walk = record second { symbols = c.enter_body.new.symbols } in
    let inside = c.in_ok-declaration.ensures.inside h.symbols.inside in
    let enters = c.in_ok-profile.ensures.enters in
    let region = region_of k (innermost s.regions) in
    let known = enters.symbols.known (inside.known h.symbols.units.known) in
    let entered = c.in_ok-enter_body.ensures known (opens_inside s second.symbols (stays_open w.symbols s inside) enters.symbols) in
    let round_begins = entered.opened.begins k b.symbols in
    let behind : Begins second k = record { symbols = entered.named.begins k round_begins; spans = b.spans } in
    let middle = enters_continues first second enters k behind in
    let q = profile_of k (region_in k second) c.in_ok-profile.profile in
    let head = c.in_ok-head.ensures known k behind.symbols in
    record {
      region = region;
      profile = q;
      is_completed =
          ap (λ r. (completed r x.specification.name).answer) (region_is c.args.context.now w k env h)
          ∙ c.in_ok-declaration.ensures.completed.region k;
      is_specified = c.in_ok-profile.ensures.comes k (with_local env region) (stands_behind c.args.context.now w k env h s inside middle) behind;
      is_conforming =
          c.in_ok-conforming.ensures known k behind.symbols x.specification.name region (region_in k second)
          (c.in_ok-declaration.ensures.completed.declared k);
      head = head;
      outside =
          ap (λ rs. region_of k (innermost rs)) (ap enclosing entered.opened.regions)
          ∙ (entered.denotes k env (region_in k second) round_begins h.generic h.library h.unit_name
          ∙ round_is k env s second.symbols x.specification.name q enters.symbols);
      stands = λ d is.
          stands_into c.args.context.now d w s second fourth.symbols k env h x.specification.name c.in_ok-profile.profile c.in_ok-head.head entered inside
          enters.symbols b _
          (entered.denotes k env (region_in k second) round_begins h.generic h.library h.unit_name
          ∙ round_is k env s second.symbols x.specification.name q enters.symbols) head is;
    }

pub returns-clause-goes : goal.returns-clause-goes
returns-clause-goes c sound =
    let w = c.args.walk.now in
    let s = c.complete.new.symbols in
    let second = c.specified.new.walk in
    let last = c.enter_body.new.symbols in
    let inside = c.in_ok-declaration.ensures.inside sound.open_now in
    let enters = c.in_ok-profile.ensures.enters in
    let entered = c.in_ok-enter_body.ensures (enters.symbols.known (inside.known sound.known))
    (opens_inside s second.symbols (stays_open w.symbols s inside) enters.symbols) in
    record {
      symbols =
          opens_round w.symbols entered.round last _
          (then_inside w.symbols s entered.round inside (round_changes s second.symbols entered.round enters.symbols entered.named)) entered.opened;
      continues = λ k b.
          let behind : Begins second k = record { symbols = entered.named.begins k (entered.opened.begins k b.symbols); spans = b.spans } in
          let middle = enters_continues (with_symbols w s) second enters k behind in
          record { symbols = c.complete.ensures.continues k middle.symbols; spans = middle.spans };
    }
