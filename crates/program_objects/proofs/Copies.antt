-- A legal program is within the limits on instances and on nodes, copies counted.
use Rattle.std.proofs.Common.{ℕ, List, arith}
use Rattle.ada_meaning.specs.Program.{Program}
use Rattle.ada_syntax.specs.declared.unit.Unit.{Unit as LibraryUnit}
use Rattle.parsed_texts.specs.legal_counts.specs.TextParts.{AreCounted}
use Rattle.program_objects.proofs.Weighed.{AreThoseOfUnits, HaveTokens, body_small, exceptions_few, few_entries, instances_few}
use Rattle.program_objects.specs.Texts.{AreUnitsOf, HasFewCopies}

pub copies_law : (files : ℕ) (units : List LibraryUnit) (main : List ℕ) (p : Program) (h : AreUnitsOf files units main p)
    → AreThoseOfUnits files units main p h → AreCounted units → HaveTokens files units main p h → HasFewCopies p
copies_law files units main p h instances counted parts =
    let few = few_entries files units main p h in
    record {
      instances = instances_few files units main p h instances;
      bodies = λ m inst s at stands. let small = body_small files units main p h instances counted parts m inst s at stands in omega (arith, few, small);
      exceptions = let all = (exceptions_few files units main p h instances counted parts).0 in omega (arith, few, all);
    }
