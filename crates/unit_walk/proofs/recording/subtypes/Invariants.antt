-- The subtypes so far, with those of the objects that are left, are those of all.
use Rattle.std.proofs.Common.{◌≡◌, ◌++◌, drop, map}
use Rattle.program_walk.specs.declared.found.Word.{Word}
use Rattle.unit_walk.proofs.recording.subtypes.Given as goal

abbrev pub invariant-loop-word : goal.invariant-loop-word
invariant-loop-word l =
    l.subtypes.items ++ map (λ (w : Word). w.subtype) (drop l.word-index l.fn.words) ≡ map (λ (w : Word). w.subtype) l.fn.words
