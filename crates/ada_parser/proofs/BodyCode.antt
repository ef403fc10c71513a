-- How bodies of subprograms are read, answer by answer.
use Rattle.std.proofs.Common.{◌≡◌, ℕ, ◌<◌, ◌≤◌, List, length, Option, refl, ap, ◌∙◌, arith}
use Rattle.ada_syntax.specs.StatementTree.{Handled}
use Rattle.ada_syntax.specs.declared.name.Identifier.{Identifier}
use Rattle.ada_syntax.specs.declared.declaration.Declaration.{Declaration}
use Rattle.ada_syntax.specs.declared.unit.Specification.{Specification}
use Rattle.ada_syntax.specs.declared.unit.SubprogramBody.{SubprogramBody}
use Rattle.expression_parser.specs.declared.symbol.Symbol.TheVariants as symbol
use Rattle.expression_parser.specs.declared.extent.Extent.{Extent}
use Rattle.expression_parser.specs.Reading.{Tokens, Reading, Reader, Got, Stuck, got, goes_on, ◌>>=◌, expect, skip}
use Rattle.expression_parser.specs.Shows.{Shows, Reads, Skipped}
use Rattle.expression_parser.proofs.Comes.{got_then}
use Rattle.declaration_parser.specs.DeclarationReading.{specification_by, declarations_by}
use Rattle.ada_parser.specs.StatementDepth.{at_handled}
use Rattle.ada_parser.proofs.Steps.{both, first_fails, word_then, no_word}
use Rattle.std.specs.Prelude.{Result, Ok, Err}
use Rattle.std.specs.Borrow.{Bor}
use Rattle.expression_parser.specs.declared.fault.Fault.{Fault}
use Rattle.expression_parser.specs.declared.fault.Fault.TheVariants.{Syntax, Memory}
use Rattle.ada_parser.specs.Grammar.{bodied}
use Rattle.ada_parser.specs.UnitReading as read
use Rattle.ada_parser.specs.UnitDepth as at

module _ (x : Extent) where
  -- stmts [handlers] END [id] ;
  abbrev to_end : ℕ → Handled → Reader (Handled × Option Identifier)
  to_end m h = read.end_by >>= λ n. got (h, n)

  pub to_end_read : (ts us rest : Tokens) (h : Handled) (n : Option Identifier) → Reads (at_handled x) ts (Got h us) → length us < length ts → Reads at.at_end us (Got n rest) → Reads (at.at_statements_to_end x) ts (Got (h, n) rest)
  to_end_read ts us rest h n r l e = both to_end r (omega arith) (record { by = λ m k. got_then (λ n. (h, n)) (e.by m k) })

  pub to_end_fails_first : (ts rest : Tokens) → Reads (at_handled x) ts (Stuck rest) → Reads (at.at_statements_to_end x) ts (Stuck rest)
  to_end_fails_first ts rest r = first_fails to_end r

  pub to_end_fails_second : (ts us rest : Tokens) (h : Handled) → Reads (at_handled x) ts (Got h us) → length us < length ts → Reads at.at_end us (Stuck rest) → Reads (at.at_statements_to_end x) ts (Stuck rest)
  to_end_fails_second ts us rest h r l e = both to_end r (omega arith) (record { by = λ m k. ap (goes_on (λ n. got (h, n))) (e.by m k) })

  module _ (s : Specification) where
    abbrev after_begin : List Declaration → ℕ → Reader SubprogramBody
    after_begin ds m = at_handled x m >>= λ h. read.end_by >>= λ n. got (bodied s ds h n)

    abbrev after_declarations : ℕ → List Declaration → Reader SubprogramBody
    after_declarations m ds = skip symbol.Begin (after_begin ds m)

    -- what is read in two steps is read in one
    abbrev of_parts : List Declaration → Handled × Option Identifier → Reader SubprogramBody
    of_parts ds y = got (bodied s ds y.0 y.1)

    ended : (ds : List Declaration) (h : Handled) (q : Reading (Option Identifier)) → goes_on (λ n. got (bodied s ds h n)) q ≡ goes_on (of_parts ds) (goes_on (λ n. got (h, n)) q)
    ended ds h (Got n us) = refl
    ended ds h (Stuck us) = refl

    in_parts : (ds : List Declaration) (m : ℕ) (q : Reading Handled) → goes_on (λ h. read.end_by >>= λ n. got (bodied s ds h n)) q ≡ goes_on (of_parts ds) (goes_on (to_end m) q)
    in_parts ds m (Got h us) = ended ds h (read.end_by us)
    in_parts ds m (Stuck us) = refl

    pub body_rest_read : (ts us vs rest : Tokens) (ds : List Declaration) (y : Handled × Option Identifier) → Reads (declarations_by x) ts (Got ds us) → length us ≤ length ts → Skipped symbol.Begin us vs
        → Reads (at.at_statements_to_end x) vs (Got y rest) → Reads (at.at_body_rest x s) ts (Got (bodied s ds y.0 y.1) rest)
    body_rest_read ts us vs rest ds y d l w r = both after_declarations d l (word_then (after_begin ds) w (record { by = λ m k. in_parts ds m (at_handled x m vs) ∙ ap (goes_on (of_parts ds)) (r.by m k) }))

    pub body_declarations_fail : (ts rest : Tokens) → Reads (declarations_by x) ts (Stuck rest) → Reads (at.at_body_rest x s) ts (Stuck rest)
    body_declarations_fail ts rest d = first_fails after_declarations d

    pub body_no_begin : (ts us rest : Tokens) (ds : List Declaration) → Reads (declarations_by x) ts (Got ds us) → length us ≤ length ts → expect symbol.Begin us ≡ Stuck rest → Reads (at.at_body_rest x s) ts (Stuck rest)
    body_no_begin ts us rest ds d l e = both after_declarations d l (no_word symbol.Begin (after_begin ds) e)

    pub body_statements_fail : (ts us vs rest : Tokens) (ds : List Declaration) → Reads (declarations_by x) ts (Got ds us) → length us ≤ length ts → Skipped symbol.Begin us vs → Reads (at.at_statements_to_end x) vs (Stuck rest)
        → Reads (at.at_body_rest x s) ts (Stuck rest)
    body_statements_fail ts us vs rest ds d l w r = both after_declarations d l (word_then (after_begin ds) w (record { by = λ m k. in_parts ds m (at_handled x m vs) ∙ ap (goes_on (of_parts ds)) (r.by m k) }))

  abbrev after_specification : ℕ → Specification → Reader SubprogramBody
  after_specification m s = skip symbol.Is (read.body_rest x m s)

  pub body_then : (ts us vs : Tokens) (s : Specification) (q : Reading SubprogramBody) → Reads (specification_by x) ts (Got s us) → length us < length ts → Skipped symbol.Is us vs → Reads (at.at_body_rest x s) vs q → Reads (read.body_by x) ts q
  body_then ts us vs s q p l w f = both after_specification p (omega arith) (word_then (at.at_body_rest x s) w f)

  pub body_shows : (ts us vs : Tokens) (s : Specification) (r : Result (SubprogramBody × Bor Tokens) Fault) → Reads (specification_by x) ts (Got s us) → length us < length ts → Skipped symbol.Is us vs
      → Shows (Reads (at.at_body_rest x s) vs) r → Shows (Reads (read.body_by x) ts) r
  body_shows ts us vs s (Ok y) p l w f = body_then ts us vs s (Got y.0 y.1.now) p l w f
  body_shows ts us vs s (Err (Syntax rest)) p l w f = body_then ts us vs s (Stuck rest.now) p l w f
  body_shows ts us vs s (Err Memory) p l w f = tt

  pub body_fail : (ts rest : Tokens) → Reads (specification_by x) ts (Stuck rest) → Reads (read.body_by x) ts (Stuck rest)
  body_fail ts rest p = first_fails after_specification p

  pub body_no_is : (ts us rest : Tokens) (s : Specification) → Reads (specification_by x) ts (Got s us) → length us < length ts → expect symbol.Is us ≡ Stuck rest → Reads (read.body_by x) ts (Stuck rest)
  body_no_is ts us rest s p l e = both after_specification p (omega arith) (no_word symbol.Is (at.at_body_rest x s) e)
