use Rattle.std.proofs.Common.{◌<◌, false, unwrap_or, length, sym, ap, ◌∙◌, subst}
use Rattle.ada_entities.specs.EntityViews.{region_of}
use Rattle.ada_entities.specs.RegionCode.{innermost}
use Rattle.ada_rules.specs.Entities.{key, redefined, routine}
use Rattle.ada_rules.specs.Subprograms.{routine_of}
use Rattle.specifications.specs.Profiles.{profile_of}
use Rattle.program_walk.specs.Alike.{IsKnownRegion}
use Rattle.program_walk.specs.Changes.{Reopens}
use Rattle.program_walk.proofs.PlaceLaws.{region_stays}
use Rattle.specifications.proofs.HeadLaws.{innermost_known, closes_and_changes}
use Rattle.specifications.proofs.heads.enter_body.Goals as goal

pub returns : goal.returns
returns c known open_now =
    let old = c.args.symbols.now in
    let closed = c.close-parameters.new.self in
    let round = c.add_routine.new.symbols in
    let closes = c.close-parameters.ensures.closed in
    let changes = c.in_ok-add_routine.ensures.inside (subst (λ rs. 0 < length rs) (sym closes.regions) open_now) in
    let named = closes_and_changes old closed round closes changes in
    record {
      round = round;
      named = named;
      denotes = λ k env region b g lib name.
          c.in_ok-add_routine.ensures.added k env region b g (ap (λ o. unwrap_or o 0) (sym (c.in_ok-found.ensures env lib name)) ∙ sym c.unwrap_or-body.ensures)
          ∙ ap (λ rs. redefined (key c.args.name.now) (routine (routine_of env (key c.args.name.now) false (profile_of k region c.args.profile))) (region_of k (innermost rs))) closes.regions;
      opened = subst (λ r. Reopens round c.reopen.new.self r) c.close-parameters.ensures.region
          (c.in_ok-reopen.ensures (subst (λ r. IsKnownRegion round.extent r) (sym c.close-parameters.ensures.region)
          (region_stays old round _ _ (innermost old.regions) named known (innermost_known old.extent old.regions known.regions))));
    }
