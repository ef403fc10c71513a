-- What the words so far and those of the components to come add up to.
use Rattle.std.proofs.Common.{◌≡◌, ◌+◌, drop}
use Rattle.ada_resolved.specs.Forms.{shapes_of}
use Rattle.ada_resolved.specs.Sizes.{all_words}
use Rattle.ada_resolved.proofs.forms.RecordForm.words_before.Given as goal

abbrev pub invariant-loop-component : goal.invariant-loop-component
invariant-loop-component l =
    let p = l.self.sizes.now.program.now in
    let i = l.self.instance in
    let n = l.self.below in
    l.words + all_words (shapes_of p i n (drop l.component-index l.component-items)) ≡ all_words (shapes_of p i n l.component-items)
