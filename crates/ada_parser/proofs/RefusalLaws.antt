-- The place of a refusal.
use Rattle.std.proofs.Common.{◌≡◌, List, [], ◌∷◌, ◌++◌, length, sum_by, Err, refl, subst, arith}
use Rattle.cov_base.specs.declared.position.Pos.{Pos}
use Rattle.ada_lexer.specs.declared.token.Token.{Token}
use Rattle.ada_syntax.specs.declared.unit.Unit.{Unit as LibraryUnit}
use Rattle.cov_base.specs.declared.failure.Failure.{Failure}
use Rattle.expression_parser.specs.declared.extent.Extent.{Extent}
use Rattle.expression_parser.specs.declared.fault.Fault.{Fault as Stop}
use Rattle.expression_parser.specs.declared.fault.Fault.TheVariants.{Syntax, Memory}
use Rattle.ada_parser.specs.declared.refusal.SyntaxFault.{SyntaxFault}
use Rattle.ada_parser.specs.UnitDepth.{ReadsFile}
use Rattle.expression_parser.specs.Reading.{Tokens, Reading, Got, Stuck}
use Rattle.expression_parser.specs.Syntax.{Suffix}
use Rattle.expression_parser.specs.Shows.{Reads}
use Rattle.ada_parser.specs.UnitReading as read
use Rattle.ada_parser.specs.Grammar.{IsFile}
use Rattle.ada_parser.specs.Refusal.{end_place, place_of, failure_of, Place, at_token, at_end, Refused, RefusedBy, IsOnlyFile}
use Rattle.expression_parser.proofs.Agree.{place}
use Rattle.ada_syntax.specs.Nodes.{unit_nodes}
use Rattle.declaration_parser.specs.NodeTokens.{node_tokens}
use Rattle.ada_parser.proofs.UnitNodes.{units_nodes_of}
use Rattle.ada_parser.proofs.UnitLocal.{file_local}
use Rattle.ada_parser.proofs.FileLaws.{file_derives, file_unique, file_refused, file_cut}

pub end_place-push : (ts : Tokens) (t : Token) → end_place (ts ++ t ∷ []) ≡ t.pos
end_place-push [] t = refl
end_place-push (u ∷ []) t = refl
end_place-push (u ∷ (v ∷ vs)) t = end_place-push (v ∷ vs) t

place_at : (x : Extent) (tokens rest : Tokens) → Reads (read.file_by x) tokens (Stuck rest) → Place x tokens (place_of rest tokens)
place_at x tokens [] r = at_end
place_at x tokens (t ∷ us) r =
    at_token (subst (λ (q : Reading (List LibraryUnit)). Suffix (place q) tokens) (r.by (length tokens) (omega arith)) (file_local x (length tokens) tokens).within) (λ tokens' us' g units d. file_cut x r g d)

pub is_file : (x : Extent) (tokens : Tokens) (units : List LibraryUnit) → Reads (read.file_by x) tokens (Got units []) → IsFile x units tokens
is_file x tokens units r = file_derives x r

pub is_only : (x : Extent) (tokens : Tokens) (units : List LibraryUnit) → Reads (read.file_by x) tokens (Got units []) → IsOnlyFile x tokens units
is_only x tokens units r = λ others d. file_unique x d (file_derives x r)

-- the nodes of the units are the tokens that count
pub nodes_are : (x : Extent) (tokens : Tokens) (units : List LibraryUnit) → Reads (read.file_by x) tokens (Got units []) → sum_by unit_nodes units ≡ node_tokens tokens
nodes_are x tokens units r = omega (arith, units_nodes_of x (file_derives x r))

pub is_refused : (x : Extent) (tokens rest : Tokens) (pos : Pos) → Reads (read.file_by x) tokens (Stuck rest) → pos ≡ place_of rest tokens → Refused x tokens pos
is_refused x tokens rest pos r e = record { none = λ units d. file_refused x r d; place = rw e (place_at x tokens rest r) }

-- where reading stops, the file is refused
pub is_failed : (x : Extent) (tokens : Tokens) (fault : Stop) (told : Failure SyntaxFault) → ReadsFile x tokens (Err fault) → told ≡ failure_of fault tokens → RefusedBy x tokens told
is_failed x tokens (Syntax rest) told r e = rw e (is_refused x tokens rest.now (place_of rest.now tokens) r refl)
is_failed x tokens Memory told r e = rw e tt

pub ruleset end_places = (end_place-push)

pub ruleset parses = (is_file, is_only, nodes_are, is_refused)
