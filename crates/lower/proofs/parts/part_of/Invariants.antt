-- the part so far, with the selectors that are left
use Rattle.std.proofs.Common.{◌≡◌, drop}
use Rattle.ada_tree.specs.View.{parts_of}
use Rattle.statement_code.specs.Values.{part_shape}
use Rattle.lower.specs.Context.{shape_named, text}
use Rattle.lower.proofs.parts.part_of.Given as goal

abbrev pub invariant-loop-selector : goal.invariant-loop-selector
invariant-loop-selector l =
    part_shape (shape_named (text l.context) l.part) (parts_of (drop l.selector-index l.selectors))
    ≡ part_shape (shape_named (text l.fn.context) l.fn.of) (parts_of l.fn.selectors)
