use Rattle.std.proofs.Common.{◌≤◌, length, List}
use Rattle.ada_syntax.specs.declared.unit.PackageItem.{PackageItem}
use Rattle.expression_parser.specs.Reading.{Reading}
use Rattle.expression_parser.specs.Shows.{Reads, More}
use Rattle.ada_parser.specs.UnitReading as read
use Rattle.ada_parser.proofs.ItemCode.{package_turns}
use Rattle.ada_parser.proofs.items.package_items.Given as goal

-- what is read from here is what is read from the beginning
abbrev pub invariant-rest : goal.invariant-rest
invariant-rest l = record {
  reads : (q : Reading (List PackageItem)) → More (package_turns l.parser.extent) l.rest l.items.items q → Reads (read.package_items_by l.parser.extent) l.tokens q;
  shorter : length l.rest ≤ length l.tokens;
}

abbrev pub decreases-rest : goal.decreases-rest
decreases-rest l = length l.rest
