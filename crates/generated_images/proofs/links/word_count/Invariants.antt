use Rattle.std.proofs.Common.{◌≡◌, ◌+◌, drop}
use Rattle.assembler.specs.Placed.{words_of}
use Rattle.generated_images.proofs.links.word_count.Given as goal

-- the words so far and those to come are all
abbrev pub invariant-loop-item : goal.invariant-loop-item
invariant-loop-item l = l.count + words_of (drop l.item-index l.items) ≡ words_of l.items
