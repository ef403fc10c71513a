-- How the items of packages and of their bodies are read, answer by answer.
use Rattle.std.proofs.Common.{◌≡◌, ℕ, suc, ◌<◌, Bool, true, false, cond, List, [], ◌∷◌, ◌++◌, length, Some, None, refl, ap, ◌∙◌, subst, arith}
use Rattle.std.proofs.lemmas.Bool.{false≢true}
use denote.Enum.Bare.{same_true}
use Rattle.ada_lexer.specs.declared.token.Token.{Token}
use Rattle.ada_syntax.specs.declared.declaration.Declaration.{Declaration}
use Rattle.ada_syntax.specs.declared.unit.Specification.{Specification}
use Rattle.ada_syntax.specs.declared.unit.SubprogramBody.{SubprogramBody}
use Rattle.ada_syntax.specs.declared.unit.PackageItem.{PackageItem}
use Rattle.ada_syntax.specs.declared.unit.PackageItem.TheVariants as package_item
use Rattle.ada_syntax.specs.declared.unit.BodyItem.{BodyItem}
use Rattle.ada_syntax.specs.declared.unit.BodyItem.TheVariants as body_item
use Rattle.expression_parser.specs.declared.symbol.Symbol.{Symbol}
use Rattle.expression_parser.specs.declared.symbol.Symbol.TheVariants as symbol
use Rattle.expression_parser.specs.contracts.symbol.Symbol.{the_type}
use Rattle.expression_parser.specs.declared.extent.Extent.{Extent}
use Rattle.expression_parser.specs.Symbols.{symbol_of, same}
use Rattle.expression_parser.specs.Reading.{Tokens, Reading, Reader, Got, Stuck, Turn, Refuse, Leave, Look, accept, got, goes_on, ◌>>=◌, turned, expect, skip}
use Rattle.expression_parser.specs.Shows.{Reads, More, Skipped, after, next_is}
use Rattle.expression_parser.proofs.Comes.{got_then}
use Rattle.expression_parser.proofs.NameCode.{after_some, after_none}
use Rattle.expression_parser.proofs.Loops.{more_end, more_leave, more_look, more_look_stuck}
use Rattle.declaration_parser.specs.DeclarationReading.{specification_by, begins_declaration, declaration_by}
use Rattle.ada_parser.proofs.NamedCode.{apart}
use Rattle.ada_parser.proofs.Steps.{both, first_fails, word_then, no_word, done, takes, looks}
use Rattle.ada_parser.specs.UnitReading as read
use Rattle.ada_parser.specs.UnitDepth as at

pub begins_with_declaration : (ts : Tokens) → next_is begins_declaration ts ≡ true → next_is read.begins_item ts ≡ true
begins_with_declaration [] b = absurd (false≢true b)
begins_with_declaration (t ∷ us) b = ap (λ z. cond z true (read.begins_specification (symbol_of t.lexeme))) b

pub begins_with_specification : (ts : Tokens) → next_is begins_declaration ts ≡ false → next_is read.begins_item ts ≡ next_is read.begins_specification ts
begins_with_specification [] b = refl
begins_with_specification (t ∷ us) b = ap (λ z. cond z true (read.begins_specification (symbol_of t.lexeme))) b

module _ (x : Extent) where
  -- ldecl | spec ;
  abbrev declares : ℕ → Declaration → Reader PackageItem
  declares m d = got (package_item.Declaration d)

  abbrev specifies : ℕ → Specification → Reader PackageItem
  specifies m s = skip symbol.Semicolon (got (package_item.Subprogram s))

  by_declaration : (ts : Tokens) (q : Reading PackageItem) → next_is begins_declaration ts ≡ true → Reads (read.declared_item_by x) ts q → Reads (read.package_item_by x) ts q
  by_declaration [] q b f = absurd (false≢true b)
  by_declaration (t ∷ us) q b f = looks Refuse (read.package_item_turn x) t us (read.declared_item_by x) (λ m. ap (λ z. cond z (Look (read.declared_item_by x m)) (Look (read.subprogram_item_by x m))) b) f

  by_specification : (ts : Tokens) (q : Reading PackageItem) → next_is begins_declaration ts ≡ false → Reads (read.subprogram_item_by x) ts q → Reads (read.package_item_by x) ts q
  by_specification [] q b f = record { by = λ m h. f.by m h }
  by_specification (t ∷ us) q b f = looks Refuse (read.package_item_turn x) t us (read.subprogram_item_by x) (λ m. ap (λ z. cond z (Look (read.declared_item_by x m)) (Look (read.subprogram_item_by x m))) b) f

  pub item_declaration : (ts rest : Tokens) (d : Declaration) → next_is begins_declaration ts ≡ true → Reads (declaration_by x) ts (Got d rest) → length rest < length ts → Reads (read.package_item_by x) ts (Got (package_item.Declaration d) rest)
  item_declaration ts rest d b r l = by_declaration ts _ b (both declares r (omega arith) (done (package_item.Declaration d) rest))

  pub item_declaration_fail : (ts rest : Tokens) → next_is begins_declaration ts ≡ true → Reads (declaration_by x) ts (Stuck rest) → Reads (read.package_item_by x) ts (Stuck rest)
  item_declaration_fail ts rest b r = by_declaration ts _ b (first_fails declares r)

  pub item_specification : (ts us rest : Tokens) (s : Specification) → next_is begins_declaration ts ≡ false → Reads (specification_by x) ts (Got s us) → length us < length ts → Skipped symbol.Semicolon us rest → Reads (read.package_item_by x) ts (Got (package_item.Subprogram s) rest)
  item_specification ts us rest s b r l w = by_specification ts _ b (both specifies r (omega arith) (word_then (λ m. got (package_item.Subprogram s)) w (done (package_item.Subprogram s) rest)))

  pub item_specification_fail : (ts rest : Tokens) → next_is begins_declaration ts ≡ false → Reads (specification_by x) ts (Stuck rest) → Reads (read.package_item_by x) ts (Stuck rest)
  item_specification_fail ts rest b r = by_specification ts _ b (first_fails specifies r)

  pub item_specification_open : (ts us rest : Tokens) (s : Specification) → next_is begins_declaration ts ≡ false → Reads (specification_by x) ts (Got s us) → length us < length ts → expect symbol.Semicolon us ≡ Stuck rest → Reads (read.package_item_by x) ts (Stuck rest)
  item_specification_open ts us rest s b r l e = by_specification ts _ b (both specifies r (omega arith) (no_word symbol.Semicolon (λ m. got (package_item.Subprogram s)) e))

  -- behind a specification in a package body
  module _ (s : Specification) where
    abbrev specified_on : ℕ → Symbol → Token → Turn BodyItem
    specified_on m = read.specified_turn x m s

    abbrev as_body : ℕ → SubprogramBody → Reader BodyItem
    as_body m b = got (body_item.Body b)

    abbrev with_body : ℕ → Reader BodyItem
    with_body m = read.body_rest x m s >>= as_body m

    pub specified_alone : (ts us : Tokens) → after symbol.Semicolon ts ≡ Some us → Reads (at.at_specified x s) ts (Got (body_item.Declared (package_item.Subprogram s)) us)
    specified_alone ts us e =
        let n = after_some symbol.Semicolon ts us e in
        rw n.here (takes Refuse specified_on n.t us (λ m. got (body_item.Declared (package_item.Subprogram s))) (λ m. ap (λ z. specified_on m z n.t) n.is) (done (body_item.Declared (package_item.Subprogram s)) us))

    -- where no semicolon stands, only a body may
    not_specified_at : (m : ℕ) (z : Symbol) (t : Token) → (z ≡ symbol.Semicolon → ⊥) → (z ≡ symbol.Is → ⊥) → specified_on m z t ≡ Refuse
    not_specified_at m symbol.Semicolon t f g = absurd (f refl)
    not_specified_at m symbol.Is t f g = absurd (g refl)
    not_specified_at m _ t f g = refl

    body_at : (b : Bool) (m : ℕ) (t : Token) (us : Tokens) → same (symbol_of t.lexeme) symbol.Semicolon ≡ false → same (symbol_of t.lexeme) symbol.Is ≡ b
        → turned (specified_on m (symbol_of t.lexeme) t) t us ≡ goes_on (λ _. with_body m) (turned (accept b t) t us)
    body_at true m t us h k = ap (λ z. turned (specified_on m z t) t us) (same_true the_type tt (symbol_of t.lexeme) symbol.Is k)
    body_at false m t us h k = ap (λ z. turned z t us) (not_specified_at m (symbol_of t.lexeme) t (apart (symbol_of t.lexeme) symbol.Semicolon h) (apart (symbol_of t.lexeme) symbol.Is k))

    only_body : (m : ℕ) (ts : Tokens) → after symbol.Semicolon ts ≡ None → read.specified_rest x m s ts ≡ skip symbol.Is (with_body m) ts
    only_body m [] e = refl
    only_body m (t ∷ us) e = body_at (same (symbol_of t.lexeme) symbol.Is) m t us (after_none symbol.Semicolon t us e).is_not refl

    behind_is : (ts : Tokens) (q : Reading BodyItem) → after symbol.Semicolon ts ≡ None → Reads (λ m. skip symbol.Is (with_body m)) ts q → Reads (at.at_specified x s) ts q
    behind_is ts q e f = record { by = λ m h. only_body m ts e ∙ f.by m h }

    pub not_specified : (ts rest : Tokens) → after symbol.Semicolon ts ≡ None → expect symbol.Is ts ≡ Stuck rest → Reads (at.at_specified x s) ts (Stuck rest)
    not_specified ts rest e w = behind_is ts _ e (no_word symbol.Is with_body w)

    -- the specification is the one that was taken past the word
    module _ (z : Specification) (taken : z ≡ s) where
      pub specified_body : (ts us rest : Tokens) (b : SubprogramBody) → after symbol.Semicolon ts ≡ None → Skipped symbol.Is ts us → Reads (at.at_body_rest x z) us (Got b rest) → length rest < length us → Reads (at.at_specified x s) ts (Got (body_item.Body b) rest)
      specified_body ts us rest b e w r l = behind_is ts _ e (word_then with_body w (both as_body (subst (λ y. Reads (at.at_body_rest x y) us (Got b rest)) taken r) (omega arith) (done (body_item.Body b) rest)))

      pub specified_body_fail : (ts us rest : Tokens) → after symbol.Semicolon ts ≡ None → Skipped symbol.Is ts us → Reads (at.at_body_rest x z) us (Stuck rest) → Reads (at.at_specified x s) ts (Stuck rest)
      specified_body_fail ts us rest e w r = behind_is ts _ e (word_then with_body w (first_fails as_body (subst (λ y. Reads (at.at_body_rest x y) us (Stuck rest)) taken r)))

  -- decl | body
  abbrev declares_in_body : ℕ → Declaration → Reader BodyItem
  declares_in_body m d = got (body_item.Declared (package_item.Declaration d))

  in_body_by_declaration : (ts : Tokens) (q : Reading BodyItem) → next_is begins_declaration ts ≡ true → Reads (read.declared_in_body_by x) ts q → Reads (read.body_item_by x) ts q
  in_body_by_declaration [] q b f = absurd (false≢true b)
  in_body_by_declaration (t ∷ us) q b f = looks Refuse (read.body_item_turn x) t us (read.declared_in_body_by x) (λ m. ap (λ z. cond z (Look (read.declared_in_body_by x m)) (Look (read.specified_by x m))) b) f

  in_body_by_specification : (ts : Tokens) (q : Reading BodyItem) → next_is begins_declaration ts ≡ false → Reads (read.specified_by x) ts q → Reads (read.body_item_by x) ts q
  in_body_by_specification [] q b f = record { by = λ m h. f.by m h }
  in_body_by_specification (t ∷ us) q b f = looks Refuse (read.body_item_turn x) t us (read.specified_by x) (λ m. ap (λ z. cond z (Look (read.declared_in_body_by x m)) (Look (read.specified_by x m))) b) f

  pub in_body_declaration : (ts rest : Tokens) (d : Declaration) → next_is begins_declaration ts ≡ true → Reads (declaration_by x) ts (Got d rest) → length rest < length ts → Reads (read.body_item_by x) ts (Got (body_item.Declared (package_item.Declaration d)) rest)
  in_body_declaration ts rest d b r l = in_body_by_declaration ts _ b (both declares_in_body r (omega arith) (done _ rest))

  pub in_body_declaration_fail : (ts rest : Tokens) → next_is begins_declaration ts ≡ true → Reads (declaration_by x) ts (Stuck rest) → Reads (read.body_item_by x) ts (Stuck rest)
  in_body_declaration_fail ts rest b r = in_body_by_declaration ts _ b (first_fails declares_in_body r)

  pub in_body_specified : (ts us : Tokens) (s : Specification) (q : Reading BodyItem) → next_is begins_declaration ts ≡ false → Reads (specification_by x) ts (Got s us) → length us < length ts → Reads (at.at_specified x s) us q → Reads (read.body_item_by x) ts q
  in_body_specified ts us s q b r l f = in_body_by_specification ts q b (both (read.specified_rest x) r (omega arith) f)

  pub in_body_specified_fail : (ts rest : Tokens) → next_is begins_declaration ts ≡ false → Reads (specification_by x) ts (Stuck rest) → Reads (read.body_item_by x) ts (Stuck rest)
  in_body_specified_fail ts rest b r = in_body_by_specification ts _ b (first_fails (read.specified_rest x) r)

  -- a list of items
  abbrev pub package_turns : ℕ → Symbol → Token → List PackageItem → Turn (List PackageItem)
  package_turns = read.package_items_turn x

  abbrev package_more : List PackageItem → ℕ → Reader (List PackageItem)
  package_more is m = read.package_item_by x m >>= λ i. got (is ++ i ∷ [])

  pub package_items_begin : (ts : Tokens) (q : Reading (List PackageItem)) → More package_turns ts [] q → Reads (read.package_items_by x) ts q
  package_items_begin ts q f = record { by = λ m h. f.by m (suc m) h (omega arith) }

  pub package_items_step : (ts rest : Tokens) (is : List PackageItem) (i : PackageItem) → next_is read.begins_item ts ≡ true → Reads (read.package_item_by x) ts (Got i rest) → length rest < length ts → (q : Reading (List PackageItem)) → More package_turns rest (is ++ i ∷ []) q → More package_turns ts is q
  package_items_step [] rest is i b r l q f = absurd (false≢true b)
  package_items_step (t ∷ us) rest is i b r l q f = more_look package_turns is (is ++ i ∷ []) t us rest (package_more is) q (λ m. ap (λ z. cond z (Look (package_more is m)) (Leave is)) b) (λ m h. got_then (λ z. is ++ z ∷ []) (r.by m h)) l f

  pub package_items_step_fail : (ts rest : Tokens) (is : List PackageItem) → next_is read.begins_item ts ≡ true → Reads (read.package_item_by x) ts (Stuck rest) → More package_turns ts is (Stuck rest)
  package_items_step_fail [] rest is b r = absurd (false≢true b)
  package_items_step_fail (t ∷ us) rest is b r = more_look_stuck package_turns is t us rest (package_more is) (λ m. ap (λ z. cond z (Look (package_more is m)) (Leave is)) b) (λ m h. ap (goes_on (λ z. got (is ++ z ∷ []))) (r.by m h))

  pub package_items_end : (ts : Tokens) (is : List PackageItem) → next_is read.begins_item ts ≡ false → More package_turns ts is (Got is ts)
  package_items_end [] is b = more_end package_turns is
  package_items_end (t ∷ us) is b = more_leave package_turns is t us (λ m. ap (λ z. cond z (Look (package_more is m)) (Leave is)) b)

  -- a list of items
  abbrev pub body_turns : ℕ → Symbol → Token → List BodyItem → Turn (List BodyItem)
  body_turns = read.body_items_turn x

  abbrev body_more : List BodyItem → ℕ → Reader (List BodyItem)
  body_more is m = read.body_item_by x m >>= λ i. got (is ++ i ∷ [])

  pub body_items_begin : (ts : Tokens) (q : Reading (List BodyItem)) → More body_turns ts [] q → Reads (read.body_items_by x) ts q
  body_items_begin ts q f = record { by = λ m h. f.by m (suc m) h (omega arith) }

  pub body_items_step : (ts rest : Tokens) (is : List BodyItem) (i : BodyItem) → next_is read.begins_item ts ≡ true → Reads (read.body_item_by x) ts (Got i rest) → length rest < length ts → (q : Reading (List BodyItem)) → More body_turns rest (is ++ i ∷ []) q → More body_turns ts is q
  body_items_step [] rest is i b r l q f = absurd (false≢true b)
  body_items_step (t ∷ us) rest is i b r l q f = more_look body_turns is (is ++ i ∷ []) t us rest (body_more is) q (λ m. ap (λ z. cond z (Look (body_more is m)) (Leave is)) b) (λ m h. got_then (λ z. is ++ z ∷ []) (r.by m h)) l f

  pub body_items_step_fail : (ts rest : Tokens) (is : List BodyItem) → next_is read.begins_item ts ≡ true → Reads (read.body_item_by x) ts (Stuck rest) → More body_turns ts is (Stuck rest)
  body_items_step_fail [] rest is b r = absurd (false≢true b)
  body_items_step_fail (t ∷ us) rest is b r = more_look_stuck body_turns is t us rest (body_more is) (λ m. ap (λ z. cond z (Look (body_more is m)) (Leave is)) b) (λ m h. ap (goes_on (λ z. got (is ++ z ∷ []))) (r.by m h))

  pub body_items_end : (ts : Tokens) (is : List BodyItem) → next_is read.begins_item ts ≡ false → More body_turns ts is (Got is ts)
  body_items_end [] is b = more_end body_turns is
  body_items_end (t ∷ us) is b = more_leave body_turns is t us (λ m. ap (λ z. cond z (Look (body_more is m)) (Leave is)) b)

pub ruleset begin_rules = (begins_with_declaration, begins_with_specification)

pub ruleset package_item_rules = (item_declaration, item_declaration_fail, item_specification, item_specification_fail, item_specification_open)

pub ruleset body_item_rules = (in_body_declaration, in_body_declaration_fail, in_body_specified, in_body_specified_fail)

pub ruleset package_items_rules = (package_items_begin, package_items_step, package_items_step_fail, package_items_end)

pub ruleset body_items_rules = (body_items_begin, body_items_step, body_items_step_fail, body_items_end)
