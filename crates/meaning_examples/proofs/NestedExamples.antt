-- Shown by computing.
use Rattle.std.proofs.Common.{refl}
use Rattle.ada_meaning.specs.Execution.{deepest}
use Rattle.meaning_examples.specs.Nested.{InnerAbandoned, Recursive, AsOperand, AsIndex}

pub inner_abandoned : InnerAbandoned
unfolding deepest
inner_abandoned = refl

pub recursive : Recursive
unfolding deepest
recursive = refl

pub as_operand : AsOperand
unfolding deepest
as_operand = refl

pub as_index : AsIndex
unfolding deepest
as_index = (refl, refl, refl, refl)
