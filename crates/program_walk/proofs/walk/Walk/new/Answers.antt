use Rattle.std.proofs.Common.{reverse, ap, ◌∙◌}
use Rattle.ada_rules.specs.Environment.{beginning_state}
use Rattle.ada_phrases.specs.Answers.{counted}
use Rattle.program_walk.specs.declared.place.Notes.{Notes}
use Rattle.program_walk.specs.Places.{with_notes}
use Rattle.program_walk.specs.States.{with_found}
use Rattle.program_walk.proofs.walk.Walk.new.Goals as goal

pub returns : goal.returns
returns c = record {
  symbols = c.in_ok-symbols.ensures;
  spans = c.new-4.ensures;
  state = λ k.
      let notes : Notes = record { decisions = c.new-2.result; statics = c.new-3.result } in
      ap (λ s. with_notes k notes (with_found k c.new-6.result s)) c.new-5.ensures
      ∙ (ap (with_notes k notes) (c.new-6.ensures k)
      ∙ (ap (counted c.new-2.result) (c.new-3.ensures k)
      ∙ (λ i. record beginning_state { decisions = c.new-2.ensures.count i; excesses = reverse (c.new-2.ensures.excesses i) })));
}
