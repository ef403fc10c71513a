-- Shown by computing.
use Rattle.std.proofs.Common.{refl}
use Rattle.expression_parser.specs.Extents.{opens}
use Rattle.rules_examples.specs.Cases.{Hold}
use Rattle.rules_examples.specs.Apart.{Apart, apart}

apart_hold : Hold apart
unfolding opens
apart_hold = record { shown = refl }

pub apart_law : Apart
apart_law = apart_hold
