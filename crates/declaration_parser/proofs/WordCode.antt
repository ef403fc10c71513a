-- Lists of identifiers, and words of a given spelling, as the code reads them.
use Rattle.std.proofs.Common.{◌≡◌, ℕ, suc, true, false, List, [], ◌∷◌, ◌++◌, Some, None, refl, ap, sym, ◌∙◌, subst, arith}
use Rattle.ada_lexer.specs.declared.token.Token.{Token}
use Rattle.ada_syntax.specs.declared.name.Identifier.{Identifier}
use Rattle.expression_parser.specs.declared.symbol.Symbol.{Symbol}
use Rattle.expression_parser.specs.declared.symbol.Symbol.TheVariants as symbol
use Rattle.expression_parser.specs.Symbols.{symbol_of, same, identifier_of}
use Rattle.expression_parser.specs.Reading.{Tokens, Reading, Got, Stuck, Refuse, Leave, got, goes_on, ◌>>=◌, turned, accept, expect, repeat}
use Rattle.expression_parser.specs.Shows.{after, Reads, More, Identified}
use Rattle.declaration_parser.specs.Spelling.{is_spelled}
use Rattle.declaration_parser.specs.Identifiers.{identifiers_turn, identifiers_turns, identifiers_by}
use Rattle.declaration_parser.specs.DeclarationReading.{word_turn}
use Rattle.expression_parser.proofs.Comes.{got_bind, got_then, on_symbol}
use Rattle.expression_parser.proofs.Loops.{more_end, more_leave, more_take, more_take_stuck}
use Rattle.expression_parser.proofs.NameCode.{after_some, after_none}
use Rattle.declaration_parser.specs.DeclarationReading.{spelled_by}
use Rattle.declaration_parser.specs.Answers.{Spelled}

-- id {, id}
pub identifiers_begin : (ts rest : Tokens) (i : Identifier) → Identified ts rest i → (q : Reading (List Identifier)) → More identifiers_turns rest (i ∷ []) q → Reads identifiers_by ts q
identifiers_begin ts rest i k q f = record { by = λ m h. got_bind (λ z. repeat identifiers_turn (suc m) (identifier_of z ∷ [])) k.here (ap (λ z. repeat identifiers_turn (suc m) (z ∷ []) rest) (sym k.same) ∙ f.by m (suc m) (omega (arith, k.shorter)) (omega (arith, k.shorter))) }

pub identifiers_fail : (ts rest : Tokens) → expect symbol.Identifier ts ≡ Stuck rest → Reads identifiers_by ts (Stuck rest)
identifiers_fail ts rest e = record { by = λ m h. ap (goes_on (λ z. repeat identifiers_turn (suc m) (identifier_of z ∷ []))) e }

pub identifiers_step : (ts us rest : Tokens) (is : List Identifier) (i : Identifier) → after symbol.Comma ts ≡ Some us → Identified us rest i → (q : Reading (List Identifier))
    → More identifiers_turns rest (is ++ i ∷ []) q → More identifiers_turns ts is q
identifiers_step ts us rest is i a k q f =
    let n = after_some symbol.Comma ts us a in
    subst (λ z. More identifiers_turns z is q) (sym n.here)
    (more_take identifiers_turns is (is ++ i ∷ []) n.t us rest (λ m. expect symbol.Identifier >>= λ z. got (is ++ identifier_of z ∷ [])) q (λ m. ap (λ z. identifiers_turn z n.t is) n.is)
    (λ m h. got_then (λ z. is ++ identifier_of z ∷ []) k.here ∙ ap (λ z. Got (is ++ z ∷ []) rest) (sym k.same)) (omega (arith, k.shorter)) f)

pub identifiers_step_fail : (ts us rest : Tokens) (is : List Identifier) → after symbol.Comma ts ≡ Some us → expect symbol.Identifier us ≡ Stuck rest
    → More identifiers_turns ts is (Stuck rest)
identifiers_step_fail ts us rest is a e =
    let n = after_some symbol.Comma ts us a in
    subst (λ z. More identifiers_turns z is (Stuck rest)) (sym n.here)
    (more_take_stuck identifiers_turns is n.t us rest (λ m. expect symbol.Identifier >>= λ z. got (is ++ identifier_of z ∷ [])) (λ m. ap (λ z. identifiers_turn z n.t is) n.is) (λ m h. ap (goes_on (λ z. got (is ++ identifier_of z ∷ []))) e))

comma_leaves : (s : Symbol) (t : Token) (is : List Identifier) → same s symbol.Comma ≡ false → identifiers_turn s t is ≡ Leave is
comma_leaves symbol.Comma t is h = cc
comma_leaves _ t is h = refl

pub identifiers_end : (ts : Tokens) (is : List Identifier) → after symbol.Comma ts ≡ None → More identifiers_turns ts is (Got is ts)
identifiers_end [] is a = more_end identifiers_turns is
identifiers_end (t ∷ us) is a = more_leave identifiers_turns is t us (λ m. comma_leaves (symbol_of t.lexeme) t is (after_none symbol.Comma t us a).is_not)

-- words of pragmas
pub spelled_none : (spelling : List ℕ) → spelled_by spelling [] ≡ Stuck []
spelled_none spelling = refl

no_word : (spelling : List ℕ) (s : Symbol) (t : Token) → (s ≡ symbol.Identifier → ⊥) → word_turn spelling s t ≡ Refuse
no_word spelling symbol.Identifier t h = absurd (h refl)
no_word spelling _ t h = refl

pub spelled_other : (spelling : List ℕ) (t : Token) (us : Tokens) → (symbol_of t.lexeme ≡ symbol.Identifier → ⊥) → spelled_by spelling (t ∷ us) ≡ Stuck (t ∷ us)
spelled_other spelling t us h = ap (λ z. turned z t us) (no_word spelling (symbol_of t.lexeme) t h)

pub spelled_taken : (spelling : List ℕ) (t : Token) (us : Tokens) → symbol_of t.lexeme ≡ symbol.Identifier → is_spelled spelling t ≡ true → Spelled spelling (t ∷ us) us
spelled_taken spelling t us i h = record {
  t = t;
  here = on_symbol Refuse (word_turn spelling) symbol.Identifier t us i ∙ ap (λ b. turned (accept b t) t us) h;
  shorter = omega arith;
}

pub spelled_differs : (spelling : List ℕ) (t : Token) (us : Tokens) → symbol_of t.lexeme ≡ symbol.Identifier → is_spelled spelling t ≡ false → spelled_by spelling (t ∷ us) ≡ Stuck (t ∷ us)
spelled_differs spelling t us i h = on_symbol Refuse (word_turn spelling) symbol.Identifier t us i ∙ ap (λ b. turned (accept b t) t us) h

pub ruleset identifiers_rules = (identifiers_begin, identifiers_fail, identifiers_step, identifiers_step_fail, identifiers_end)

pub ruleset spelled_rules = (spelled_none, spelled_other, spelled_taken, spelled_differs)
