-- What the words so far and the rest come to.
use Rattle.std.proofs.Common.{◌≡◌, drop}
use Rattle.ada_resolved.specs.Table.{sum_behind}
use Rattle.ada_resolved.proofs.sizes.record_size.Given as goal

abbrev pub invariant-loop-component : goal.invariant-loop-component
invariant-loop-component l =
    sum_behind l.program l.rows l.instance l.words (drop l.component-index l.components) ≡ sum_behind l.program l.rows l.instance 0 l.components
