-- Returns of values.
use Rattle.std.proofs.Common.{◌≡◌, refl}
use Rattle.ada_tree.specs.declared.label.Label.{Label}
use Rattle.ada_tree.specs.View.{label_of}
use Rattle.ada_rules.specs.Statements.{returned_value}
use Rattle.ada_entities.specs.declared.types.Subtype.{Subtype}
use Rattle.ada_entities.specs.EntityViews.{Tables}
use Rattle.ada_judged.specs.declared.judged.Judged.{Judged}
use Rattle.ada_judged.specs.JudgedView.{judged_of}
use Rattle.std.specs.Prelude.{Option, Some, None}
use Rattle.statement_parts.specs.Returns.{returning_of, returned_by}

pub returned_is : (k : Tables) (l : Label) (t : Option Subtype) (x : Judged)
    → returned_by k l t x.kind x.form ≡ returned_value (label_of l) (judged_of k x) (returning_of k.types t)
returned_is k l None x = refl
returned_is k l (Some t) x = refl
