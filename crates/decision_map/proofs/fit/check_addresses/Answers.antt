use Rattle.std.proofs.Common.{◌≡◌, true, false, not, option_map, sym, ap, ◌∙◌}
use Rattle.trace_format.specs.declared.trace.HistoryEntry.{HistoryEntry}
use Rattle.decision_map.specs.declared.fault.FitFault.TheVariants.{HistoryAddress}
use Rattle.decision_map.specs.Kinds.{keeps_history, kind_in}
use Rattle.decision_map.proofs.Steps.{place_passed, place_here}
use Rattle.decision_map.proofs.fit.check_addresses.Goals as goal

pub loop-at-preserved : goal.loop-at-preserved
loop-at-preserved c =
    let passes : keeps_history (kind_in c.args.kinds.now c.entry.result.address) ≡ true =
    ap keeps_history (sym c.kind_in.ensures) ∙ sym c.if-not-keeps_history.ensures in
    place_passed (λ (h : HistoryEntry). not (keeps_history (kind_in c.args.kinds.now h.address))) c.args.view.now.history c.loop-at.at c.entry.result _ c.entry.ensures
    (ap not passes) c.loop-at.invariant

pub returns-then-not-keeps_history : goal.returns-then-not-keeps_history
returns-then-not-keeps_history c =
    let fails : keeps_history (kind_in c.args.kinds.now c.entry.result.address) ≡ false =
    ap keeps_history (sym c.kind_in.ensures) ∙ sym c.if-not-keeps_history.ensures in
    ap (option_map HistoryAddress)
    (place_here (λ (h : HistoryEntry). not (keeps_history (kind_in c.args.kinds.now h.address))) c.args.view.now.history c.loop-at.at c.entry.result _ c.entry.ensures
    (ap not fails) c.loop-at.invariant)
