-- Shown by computing.
use Rattle.std.proofs.Common.{refl}
use Rattle.ada_meaning.specs.Execution.{deepest}
use Rattle.meaning_examples.specs.Exceptions.{Unhandled, OfOperations, InDeclarations, InHandlers}

pub unhandled : Unhandled
unfolding deepest
unhandled = refl

pub of_operations : OfOperations
unfolding deepest
of_operations = (refl, refl, refl)

pub in_declarations : InDeclarations
unfolding deepest
in_declarations = refl

pub in_handlers : InHandlers
unfolding deepest
in_handlers = refl
