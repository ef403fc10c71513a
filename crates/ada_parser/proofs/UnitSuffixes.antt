-- What follows a part of a unit is the end of its tokens.
use Rattle.std.proofs.Common.{length, arith}
use Rattle.ada_syntax.specs.declared.declaration.Declaration.{Declaration}
use Rattle.ada_syntax.specs.declared.unit.Specification.{Specification}
use Rattle.ada_syntax.specs.declared.unit.LibraryItem.{LibraryItem}
use Rattle.expression_parser.specs.declared.symbol.Symbol.TheVariants as symbol
use Rattle.expression_parser.specs.declared.extent.Extent.{Extent}
use Rattle.expression_parser.specs.Reading.{Tokens}
use Rattle.expression_parser.specs.Syntax.{Suffix}
use Rattle.declaration_parser.specs.Specifications.{IsSpecification}
use Rattle.declaration_parser.specs.Declarations.{IsDeclaration}
use Rattle.declaration_parser.specs.DeclarationReading.{specification_by, declaration_by}
use Rattle.declaration_parser.proofs.DeclarationLocal.{specification_local, declaration_local}
use Rattle.declaration_parser.proofs.DeclarationComplete.{specification_complete, declaration_complete}
use Rattle.ada_parser.specs.Words.{Word}
use Rattle.ada_parser.proofs.Complete.{ends_word}
use Rattle.ada_parser.proofs.Suffixes.{suffix_of}
use Rattle.ada_parser.specs.Grammar.{IsItem}
use Rattle.ada_parser.specs.UnitReading as read
use Rattle.ada_parser.proofs.UnitLocal.{item_local}
use Rattle.ada_parser.proofs.UnitComplete.{item_complete}

pub item_suffix : (x : Extent) {l : LibraryItem} {ts rest : Tokens} → IsItem x l ts rest → Suffix rest ts
item_suffix x {ts = ts} d = suffix_of (read.item_by x (length ts)) (item_local x (length ts)) (item_complete x (length ts) d (omega arith))

pub declaration_suffix : (x : Extent) {d : Declaration} {ts rest : Tokens} → IsDeclaration x d ts rest → Suffix rest ts
declaration_suffix x {ts = ts} d = suffix_of (declaration_by x (length ts)) (declaration_local x (length ts)) (declaration_complete x (length ts) d (omega arith))

-- before IS
pub specification_suffix : (x : Extent) {s : Specification} {ts us vs : Tokens} → IsSpecification x s ts us → Word symbol.Is us vs → Suffix us ts
specification_suffix x {ts = ts} d w = suffix_of (specification_by x (length ts)) (specification_local x (length ts)) (specification_complete x (length ts) d (omega arith) (ends_word 0 w (omega arith)))
