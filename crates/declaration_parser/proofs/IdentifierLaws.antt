-- Lists of identifiers: reading is local, sound and complete.
use Rattle.std.proofs.Common.{◌≡◌, ℕ, suc, ◌<◌, ◌≤◌, List, [], ◌∷◌, ◌++◌, length, refl, ap, ◌∙◌, arith}
use Rattle.ada_lexer.specs.declared.token.Token.{Token}
use Rattle.ada_syntax.specs.declared.name.Identifier.{Identifier}
use Rattle.expression_parser.specs.declared.symbol.Symbol.{Symbol}
use Rattle.expression_parser.specs.declared.symbol.Symbol.TheVariants as symbol
use Rattle.expression_parser.specs.Symbols.{Is, identifier_of}
use Rattle.expression_parser.specs.Reading.{Tokens, Got, Leave, got, ◌>>=◌, expect, repeat}
use Rattle.expression_parser.proofs.Agree.{Local, LocalTurn, bind_local, expect_local, repeat_local}
use Rattle.expression_parser.proofs.ExpressionLocal.{then_got}
use Rattle.expression_parser.proofs.Yields.{Yields, YieldsTurn, bind_yields, Takes, taken, expect_yields, repeat_yields}
use Rattle.expression_parser.proofs.Comes.{got_bind, got_then, got_expect, Comes, comes_leave, comes_take}
use Rattle.declaration_parser.specs.Identifiers.{AreIdentifiers, one_identifier, more_identifiers, identifiers_turn, identifiers_by}

-- local
turn_local : (found : Symbol) (t : Token) (is : List Identifier) → LocalTurn (identifiers_turn found t is)
turn_local symbol.Comma t is = then_got (expect symbol.Identifier) (λ u. is ++ identifier_of u ∷ []) (expect_local symbol.Identifier)
turn_local _ t is = tt

pub identifiers_local : (m : ℕ) → Local (identifiers_by m)
identifiers_local m = bind_local (expect symbol.Identifier) (λ t. repeat identifiers_turn (suc m) (identifier_of t ∷ [])) (expect_local symbol.Identifier)
    (λ t. repeat_local identifiers_turn turn_local (suc m) (identifier_of t ∷ []))

-- sound
identified : {t : Token} {ts rest : Tokens} → Takes symbol.Identifier t ts rest → AreIdentifiers (identifier_of t ∷ []) ts rest
identified (taken i) = one_identifier i

also_identified : {is : List Identifier} {t u : Token} {ts us rest : Tokens} → AreIdentifiers is ts (t ∷ us) → Is symbol.Comma t → Takes symbol.Identifier u us rest → AreIdentifiers (is ++ identifier_of u ∷ []) ts rest
also_identified d h (taken i) = more_identifiers d h i

identifiers_step : (ts : Tokens) (found : Symbol) (t : Token) (is : List Identifier) (us : Tokens) → Is found t → AreIdentifiers is ts (t ∷ us) → YieldsTurn (λ zs rest. AreIdentifiers zs ts rest) (identifiers_turn found t is) t us
identifiers_step ts symbol.Comma t is us h d = bind_yields (λ u rest. Takes symbol.Identifier u us rest) (λ zs rest. AreIdentifiers zs ts rest) _ (expect symbol.Identifier) us (expect_yields symbol.Identifier us) (λ u rest q. also_identified d h q)
identifiers_step ts _ t is us h d = d

pub identifiers_sound : (m : ℕ) (ts : Tokens) → Yields (λ is rest. AreIdentifiers is ts rest) (identifiers_by m ts)
identifiers_sound m ts = bind_yields (λ t rest. Takes symbol.Identifier t ts rest) (λ is rest. AreIdentifiers is ts rest) _ (expect symbol.Identifier) ts (expect_yields symbol.Identifier ts)
    (λ t mid q. repeat_yields (λ zs rest. AreIdentifiers zs ts rest) identifiers_turn (identifiers_step ts) (suc m) (identifier_of t ∷ []) mid (identified q))

-- lengths
pub identifiers_shorter : {is : List Identifier} {ts rest : Tokens} → AreIdentifiers is ts rest → length rest < length ts
identifiers_shorter (one_identifier i) = omega arith
identifiers_shorter (more_identifiers d i j) = omega (arith, identifiers_shorter d)

-- the first token
pub record IsIdentified (ts : Tokens) : Type 0 where
  pub t : Token
  pub us : Tokens
  pub here : ts ≡ t ∷ us
  pub first : Is symbol.Identifier t

pub identifiers_first : {is : List Identifier} {ts rest : Tokens} → AreIdentifiers is ts rest → IsIdentified ts
identifiers_first (one_identifier {t = t} {rest = rest} i) = record { t = t; us = rest; here = refl; first = i }
identifiers_first (more_identifiers d i j) = identifiers_first d

-- complete
identifiers_come : {is : List Identifier} {ts rest : Tokens} → AreIdentifiers is ts rest → (m : ℕ) → length ts ≤ m → Comes identifiers_turn (identifiers_by m ts) is rest
identifiers_come (one_identifier {t = t} {rest = rest} i) m h = record {
  turns = suc m;
  room = omega arith;
  here = got_bind (λ z. repeat identifiers_turn (suc m) (identifier_of z ∷ [])) (got_expect symbol.Identifier t rest i) refl;
}
identifiers_come (more_identifiers {t = t} {u = u} {is = is} {rest = rest} d i j) m h =
    comes_take identifiers_turn t (u ∷ rest) rest (expect symbol.Identifier >>= λ z. got (is ++ identifier_of z ∷ [])) (identifiers_come d m h)
    (ap (λ z. identifiers_turn z t is) i) (got_then (λ z. is ++ identifier_of z ∷ []) (got_expect symbol.Identifier u rest j)) (omega arith)

-- before a token that is no comma
pub identifiers_complete : {is : List Identifier} {ts us : Tokens} {t : Token} (s : Symbol) → AreIdentifiers is ts (t ∷ us) → Is s t → ((is : List Identifier) → identifiers_turn s t is ≡ Leave is) → (m : ℕ) → length ts ≤ m → identifiers_by m ts ≡ Got is (t ∷ us)
identifiers_complete {is} {ts} {us} {t} s d i l m h = comes_leave identifiers_turn (identifiers_come d m h) (ap (λ z. identifiers_turn z t is) i ∙ l is)
