use Rattle.std.proofs.Common.{refl, ap, ◌∙◌}
use Rattle.decision_map.specs.Seen.{shows_in}
use Rattle.decision_map.proofs.SeenLaws.{history_seen}
use Rattle.decision_map.proofs.fit_state.FitState.see_history.Goals as goal

pub returns : goal.returns
returns c = λ o object ending blocks history h few.
    history_seen o c.args.self.now _ object ending blocks history c.args.entry c.needs_history-kept.result c.shows-shown.result h few c.needs_history-kept.ensures.exact
    (c.shows-shown.ensures ∙ ap (λ xs. shows_in xs c.args.entry) c.deref.ensures.value) refl refl refl refl refl refl c.note.ensures c.note-2.ensures c.saturating_add-self.ensures
