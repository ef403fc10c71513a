use Rattle.std.proofs.Common.{◌≡◌, true, false, not, sym, ap, option_map}
use Rattle.std.specs.List.{list_any}
use Rattle.trace_format.specs.declared.trace.HistoryEntry.{HistoryEntry}
use Rattle.decision_map.specs.declared.fault.FitFault.TheVariants.{HistoryNotFlat}
use Rattle.decision_map.specs.Blocks.{shows_entry}
use Rattle.decision_map.proofs.Steps.{place_passed, place_here}
use Rattle.decision_map.proofs.fit.check_edges_of_history.Goals as goal

pub returns-then-not-is_shown : goal.returns-then-not-is_shown
returns-then-not-is_shown c =
    let fails : list_any (shows_entry c.entry.result) c.args.view.now.blocks ≡ false = sym c.if-not-is_shown.ensures in
    ap (option_map HistoryNotFlat)
    (place_here (λ (h : HistoryEntry). not (list_any (shows_entry h) c.args.view.now.blocks)) c.args.view.now.history c.loop-at.at c.entry.result _ c.entry.ensures
    (ap not fails) c.loop-at.invariant)

pub loop-at-preserved : goal.loop-at-preserved
loop-at-preserved c =
    let passes : list_any (shows_entry c.entry.result) c.args.view.now.blocks ≡ true = sym c.if-not-is_shown.ensures in
    place_passed (λ (h : HistoryEntry). not (list_any (shows_entry h) c.args.view.now.blocks)) c.args.view.now.history c.loop-at.at c.entry.result _ c.entry.ensures
    (ap not passes) c.loop-at.invariant
