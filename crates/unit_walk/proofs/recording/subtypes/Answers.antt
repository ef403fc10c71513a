use Rattle.std.proofs.Common.{◌++◌, map, sym, ap, ◌∙◌}
use Rattle.program_walk.specs.declared.found.Word.{Word}
use Rattle.unit_walk.proofs.RecordingLaws.{turn_subtypes, all_subtypes}
use Rattle.unit_walk.proofs.recording.subtypes.Goals as goal

pub loop-word-init : goal.loop-word-init
loop-word-init c = ap (λ xs. xs ++ map (λ (w : Word). w.subtype) c.args.words.now) c.new-subtypes.ensures.items

pub loop-word-preserved : goal.loop-word-preserved
loop-word-preserved c =
    turn_subtypes c.args.words.now c.loop-word.word-index _ c.loop-word.subtypes.items _ c.loop-word-test.true c.in_ok-push.ensures.items
    ∙ c.loop-word.invariant

pub returns : goal.returns
returns c =
    sym (all_subtypes c.args.words.now c.loop-word.word-index c.loop-word.subtypes.items c.loop-word-test.false) ∙ c.loop-word.invariant
