-- What is read of specifications, pragmas and local declarations derives the tokens.
use Rattle.std.proofs.Common.{◌≡◌, ℕ, suc, Bool, true, false, cond, List, [], ◌∷◌, ◌++◌, Option, Some, None, refl}
use Rattle.ada_lexer.specs.declared.token.Token.{Token}
use Rattle.ada_syntax.specs.Tree.{Name}
use Rattle.ada_syntax.specs.declared.name.Identifier.{Identifier}
use Rattle.ada_syntax.specs.declared.declaration.SubtypeIndication.{SubtypeIndication}
use Rattle.ada_syntax.specs.declared.declaration.Initial.{Initial}
use Rattle.ada_syntax.specs.declared.declaration.TypeDefinition.{TypeDefinition}
use Rattle.ada_syntax.specs.declared.declaration.Constancy.{Constancy}
use Rattle.ada_syntax.specs.declared.declaration.Constancy.TheVariants as constancy
use Rattle.ada_syntax.specs.declared.declaration.Declaration.{Declaration}
use Rattle.ada_syntax.specs.declared.declaration.DeclarationKind.{DeclarationKind}
use Rattle.ada_syntax.specs.declared.declaration.DeclarationKind.TheVariants as declares
use Rattle.ada_syntax.specs.declared.declaration.Pragma.{Pragma}
use Rattle.ada_syntax.specs.declared.declaration.Pragma.TheVariants.{ExemptOn, ExemptOff}
use Rattle.ada_syntax.specs.declared.unit.Mode.{Mode}
use Rattle.ada_syntax.specs.declared.unit.Mode.TheVariants as mode
use Rattle.ada_syntax.specs.declared.unit.Parameter.{Parameter}
use Rattle.expression_parser.specs.declared.symbol.Symbol.{Symbol}
use Rattle.expression_parser.specs.declared.symbol.Symbol.TheVariants as symbol
use Rattle.expression_parser.specs.declared.extent.Extent.{Extent}
use Rattle.expression_parser.specs.declared.extent.Extent.TheVariants.{Objects, Types, Subprograms, Exceptions, Whole}
use Rattle.expression_parser.specs.Symbols.{symbol_of, Is, identifier_of}
use Rattle.expression_parser.specs.Extents.{opens}
use Rattle.expression_parser.specs.Reading.{Tokens, Reader, Leave, Look, got, ◌>>=◌, on_token, accept, expect, skip}
use Rattle.expression_parser.specs.Depth.{at_name}
use Rattle.expression_parser.specs.Expressions.{IsName}
use Rattle.declaration_parser.specs.Spelling.{annotate, xcov, exempt_on, exempt_off, is_spelled, IsWord}
use Rattle.declaration_parser.specs.Identifiers.{AreIdentifiers, identifiers_by}
use Rattle.declaration_parser.specs.Subtypes.{IsInitial, IsIndication, IsDefinition}
use Rattle.declaration_parser.specs.SubtypeReading.{initial_by, indication_by, definition_by}
use Rattle.declaration_parser.specs.Specifications.{IsMode, no_mode, mode_in, mode_out, mode_in_out, IsParameter, a_parameter, AreParameters, one_parameter, more_parameters, HasParameters, no_parameters, some_parameters, specified, IsSpecification, a_procedure, a_function}
use Rattle.declaration_parser.specs.Declarations.{IsExemption, an_on, an_off, IsPragma, a_pragma, IsConstancy, a_variable, a_constant, HasInitial, no_initial, an_initial, declared, IsDeclaration, a_type, a_subtype, an_object, an_exception, an_exemption, AreDeclarations, no_declarations, more_declarations}
use Rattle.declaration_parser.specs.DeclarationReading as read
use Rattle.expression_parser.proofs.Yields.{Yields, YieldsTurn, bind_yields, turned_yields, provided_yields, Takes, taken, expect_yields, skip_yields, repeat_yields, weaken}
use Rattle.declaration_parser.proofs.ExpressionParts.{at_name_sound}
use Rattle.declaration_parser.proofs.IdentifierLaws.{identifiers_sound}
use Rattle.declaration_parser.proofs.SubtypeSound.{initial_by_sound, indication_sound, definition_sound}

-- modes
in_step : (ts : Tokens) (t : Token) → Is symbol.In t → (found : Symbol) (u : Token) (us : Tokens) → Is found u → YieldsTurn (λ k rest. IsMode k (t ∷ u ∷ us) rest) (read.in_turn found u) u us
in_step ts t h symbol.Out u us i = mode_in_out h i
in_step ts t h _ u us i = mode_in h

in_rest : (t : Token) (us : Tokens) → Is symbol.In t → Yields (λ k rest. IsMode k (t ∷ us) rest) (on_token (Leave mode.In) read.in_turn us)
in_rest t [] h = mode_in h
in_rest t (u ∷ us) h = turned_yields (λ k rest. IsMode k (t ∷ u ∷ us) rest) (read.in_turn (symbol_of u.lexeme) u) u us (in_step us t h (symbol_of u.lexeme) u us refl)

mode_step : (found : Symbol) (t : Token) (us : Tokens) → Is found t → YieldsTurn (λ k rest. IsMode k (t ∷ us) rest) (read.mode_turn found t) t us
mode_step symbol.In t us h = in_rest t us h
mode_step symbol.Out t us h = mode_out h
mode_step _ t us h = no_mode

mode_sound : (ts : Tokens) → Yields (λ k rest. IsMode k ts rest) (read.mode_by ts)
mode_sound [] = no_mode
mode_sound (t ∷ us) = turned_yields (λ k rest. IsMode k (t ∷ us) rest) (read.mode_turn (symbol_of t.lexeme) t) t us (mode_step (symbol_of t.lexeme) t us refl)

-- words of pragmas
data TakesWord (spelling : List ℕ) : Token → Tokens → Tokens → Type 0 where
  word_taken : {t : Token} {rest : Tokens} → IsWord spelling t → TakesWord spelling t (t ∷ rest) rest

accept_step : (spelling : List ℕ) (b : Bool) (t : Token) (us : Tokens) → Is symbol.Identifier t → is_spelled spelling t ≡ b → YieldsTurn (λ u rest. TakesWord spelling u (t ∷ us) rest) (accept b t) t us
accept_step spelling true t us h e = word_taken (h, e)
accept_step spelling false t us h e = tt

word_step : (spelling : List ℕ) (found : Symbol) (t : Token) (us : Tokens) → Is found t → YieldsTurn (λ u rest. TakesWord spelling u (t ∷ us) rest) (read.word_turn spelling found t) t us
word_step spelling symbol.Identifier t us h = accept_step spelling (is_spelled spelling t) t us h refl
word_step spelling _ t us h = tt

spelled_sound : (spelling : List ℕ) (ts : Tokens) → Yields (λ t rest. TakesWord spelling t ts rest) (read.spelled_by spelling ts)
spelled_sound spelling [] = tt
spelled_sound spelling (t ∷ us) = turned_yields (λ u rest. TakesWord spelling u (t ∷ us) rest) (read.word_turn spelling (symbol_of t.lexeme) t) t us (word_step spelling (symbol_of t.lexeme) t us refl)

skip_word_sound : {A : Type 0} (P : A → Tokens → Type 0) (spelling : List ℕ) (r : Reader A) (ts : Tokens) → ((t : Token) (mid : Tokens) → TakesWord spelling t ts mid → Yields P (r mid)) → Yields P (read.skip_word spelling r ts)
skip_word_sound P spelling r ts h = bind_yields (λ t rest. TakesWord spelling t ts rest) P (λ _. r) (read.spelled_by spelling) ts (spelled_sound spelling ts) h

on_of : {t u v w z : Token} {us vs ws ys rest : Tokens} → IsWord exempt_on t → Takes symbol.Comma u us vs → Takes symbol.Text v vs ws → Takes symbol.RightParenthesis w ws ys → Takes symbol.Semicolon z ys rest → IsExemption (ExemptOn v.text) (t ∷ us) rest
on_of a (taken b) (taken c) (taken d) (taken e) = an_on a b c d e

off_of : {t u v : Token} {us vs rest : Tokens} → IsWord exempt_off t → Takes symbol.RightParenthesis u us vs → Takes symbol.Semicolon v vs rest → IsExemption ExemptOff (t ∷ us) rest
off_of a (taken b) (taken c) = an_off a b c

exemption_word_step : (is_on is_off : Bool) (t : Token) (us : Tokens) → Is symbol.Identifier t → is_spelled exempt_on t ≡ is_on → is_spelled exempt_off t ≡ is_off → YieldsTurn (λ a rest. IsExemption a (t ∷ us) rest) (read.exemption_word_turn is_on is_off) t us
exemption_word_step true is_off t us h e f =
    skip_yields (λ a rest. IsExemption a (t ∷ us) rest) symbol.Comma (expect symbol.Text >>= λ v. skip symbol.RightParenthesis (skip symbol.Semicolon (got (ExemptOn v.text)))) us
    (λ u vs b. bind_yields (λ v rest. Takes symbol.Text v vs rest) (λ a rest. IsExemption a (t ∷ us) rest) _ (expect symbol.Text) vs (expect_yields symbol.Text vs)
    (λ v ws c. skip_yields (λ a rest. IsExemption a (t ∷ us) rest) symbol.RightParenthesis (skip symbol.Semicolon (got (ExemptOn v.text))) ws
    (λ w ys d. skip_yields (λ a rest. IsExemption a (t ∷ us) rest) symbol.Semicolon (got (ExemptOn v.text)) ys (λ z rest g. on_of (h, e) b c d g))))
exemption_word_step false true t us h e f =
    skip_yields (λ a rest. IsExemption a (t ∷ us) rest) symbol.RightParenthesis (skip symbol.Semicolon (got ExemptOff)) us
    (λ u vs b. skip_yields (λ a rest. IsExemption a (t ∷ us) rest) symbol.Semicolon (got ExemptOff) vs (λ v rest c. off_of (h, f) b c))
exemption_word_step false false t us h e f = tt

exemption_step : (found : Symbol) (t : Token) (us : Tokens) → Is found t → YieldsTurn (λ a rest. IsExemption a (t ∷ us) rest) (read.exemption_turn found t) t us
exemption_step symbol.Identifier t us h = exemption_word_step (is_spelled exempt_on t) (is_spelled exempt_off t) t us h refl refl
exemption_step _ t us h = tt

exemption_sound : (ts : Tokens) → Yields (λ a rest. IsExemption a ts rest) (read.exemption_by ts)
exemption_sound [] = tt
exemption_sound (t ∷ us) = turned_yields (λ a rest. IsExemption a (t ∷ us) rest) (read.exemption_turn (symbol_of t.lexeme) t) t us (exemption_step (symbol_of t.lexeme) t us refl)

module _ (x : Extent) where
  parameter_of : {is : List Identifier} {k : Mode} {n : Name} {t : Token} {ts us vs ws rest : Tokens} → AreIdentifiers is ts us → Takes symbol.Colon t us vs → IsMode k vs ws → IsName x n ws rest → IsParameter x (record { names = is; mode = k; mark = n }) ts rest
  parameter_of d (taken i) e f = a_parameter d i e f

  profile_of : {ps : List Parameter} {t u : Token} {us vs rest : Tokens} → opens x Subprograms ≡ true → Is symbol.LeftParenthesis t → AreParameters x ps us vs → Takes symbol.RightParenthesis u vs rest → HasParameters x ps (t ∷ us) rest
  profile_of o h d (taken i) = some_parameters o h d i

  procedure_of : {ps : List Parameter} {t u : Token} {us vs rest : Tokens} → Is symbol.Procedure t → Takes symbol.Identifier u us vs → HasParameters x ps vs rest → IsSpecification x (specified t.pos (identifier_of u) ps None) (t ∷ us) rest
  procedure_of h (taken i) d = a_procedure h i d

  function_of : {ps : List Parameter} {n : Name} {t u v : Token} {us vs ws ys rest : Tokens} → opens x Subprograms ≡ true → Is symbol.Function t → Takes symbol.Identifier u us vs → HasParameters x ps vs ws → Takes symbol.Return v ws ys → IsName x n ys rest
      → IsSpecification x (specified t.pos (identifier_of u) ps (Some n)) (t ∷ us) rest
  function_of o h (taken i) d (taken j) e = a_function o h i d j e

  pragma_of : {a : Pragma} {t u v w z : Token} {us vs ws ys zs rest : Tokens} → opens x Whole ≡ true → Is symbol.Pragma t → TakesWord annotate u us vs → Takes symbol.LeftParenthesis v vs ws → TakesWord xcov w ws ys → Takes symbol.Comma z ys zs → IsExemption a zs rest
      → IsPragma x a (t ∷ us) rest
  pragma_of o h (word_taken b) (taken c) (word_taken d) (taken e) f = a_pragma o h b c d e f

  object_of : {is : List Identifier} {k : Constancy} {s : SubtypeIndication} {i : Option Initial} {t u v : Token} {us vs ws ys zs qs rest : Tokens} → opens x Objects ≡ true → AreIdentifiers is (t ∷ us) vs → Takes symbol.Colon u vs ws → IsConstancy k ws ys → IsIndication x s ys zs
      → HasInitial x i zs qs → Takes symbol.Semicolon v qs rest → IsDeclaration x (declared t.pos (declares.Object is k s i)) (t ∷ us) rest
  object_of o d (taken i) c e f (taken j) = an_object o d i c e f j

  exception_of : {is : List Identifier} {t u v w : Token} {us vs ws rest : Tokens} → opens x Exceptions ≡ true → AreIdentifiers is (t ∷ us) vs → Takes symbol.Colon u vs (v ∷ ws) → Is symbol.Exception v → Takes symbol.Semicolon w ws rest
      → IsDeclaration x (declared t.pos (declares.Exception is)) (t ∷ us) rest
  exception_of o d (taken i) h (taken j) = an_exception o d i h j

  type_of : {d : TypeDefinition} {t u v w : Token} {us vs ws ys rest : Tokens} → opens x Types ≡ true → Is symbol.Type t → Takes symbol.Identifier u us vs → Takes symbol.Is v vs ws → IsDefinition x d ws ys → Takes symbol.Semicolon w ys rest
      → IsDeclaration x (declared t.pos (declares.Type (identifier_of u) d)) (t ∷ us) rest
  type_of o h (taken i) (taken j) e (taken k) = a_type o h i j e k

  subtype_of : {s : SubtypeIndication} {t u v w : Token} {us vs ws ys rest : Tokens} → opens x Types ≡ true → Is symbol.Subtype t → Takes symbol.Identifier u us vs → Takes symbol.Is v vs ws → IsIndication x s ws ys → Takes symbol.Semicolon w ys rest
      → IsDeclaration x (declared t.pos (declares.Subtype (identifier_of u) s)) (t ∷ us) rest
  subtype_of o h (taken i) (taken j) e (taken k) = a_subtype o h i j e k

  module _ (m : ℕ) where
    parameter_sound : (ts : Tokens) → Yields (λ p rest. IsParameter x p ts rest) (read.parameter_by x m ts)
    parameter_sound ts = bind_yields (λ is rest. AreIdentifiers is ts rest) (λ p rest. IsParameter x p ts rest) _ (identifiers_by m) ts (identifiers_sound m ts)
        (λ is us d. skip_yields (λ p rest. IsParameter x p ts rest) symbol.Colon (read.mode_by >>= λ k. at_name x m >>= λ n. got (record { names = is; mode = k; mark = n })) us
        (λ t vs i. bind_yields (λ k rest. IsMode k vs rest) (λ p rest. IsParameter x p ts rest) _ read.mode_by vs (mode_sound vs)
        (λ k ws e. bind_yields (λ n rest. IsName x n ws rest) (λ p rest. IsParameter x p ts rest) _ (at_name x m) ws (at_name_sound x m ws) (λ n rest f. parameter_of d i e f))))

    parameters_step : (ts : Tokens) (found : Symbol) (t : Token) (ps : List Parameter) (us : Tokens) → Is found t → AreParameters x ps ts (t ∷ us) → YieldsTurn (λ zs rest. AreParameters x zs ts rest) (read.parameters_turn x m found t ps) t us
    parameters_step ts symbol.Semicolon t ps us h d = bind_yields (λ p rest. IsParameter x p us rest) (λ zs rest. AreParameters x zs ts rest) _ (read.parameter_by x m) us (parameter_sound us) (λ p rest e. more_parameters d h e)
    parameters_step ts _ t ps us h d = d

    parameters_sound : (ts : Tokens) → Yields (λ ps rest. AreParameters x ps ts rest) (read.parameters_by x m ts)
    parameters_sound ts = bind_yields (λ p rest. IsParameter x p ts rest) (λ zs rest. AreParameters x zs ts rest) _ (read.parameter_by x m) ts (parameter_sound ts)
        (λ p mid e. repeat_yields (λ zs rest. AreParameters x zs ts rest) (read.parameters_turn x m) (parameters_step ts) (suc m) (p ∷ []) mid (one_parameter e))

    profile_step : (found : Symbol) (t : Token) (us : Tokens) → Is found t → YieldsTurn (λ ps rest. HasParameters x ps (t ∷ us) rest) (read.profile_turn x m found t) t us
    profile_step symbol.LeftParenthesis t us h = provided_yields (λ ps rest. HasParameters x ps (t ∷ us) rest) (opens x Subprograms) _ t us
        (λ o. bind_yields (λ ps rest. AreParameters x ps us rest) (λ ps rest. HasParameters x ps (t ∷ us) rest) _ (read.parameters_by x m) us (parameters_sound us)
        (λ ps mid d. skip_yields (λ z rest. HasParameters x z (t ∷ us) rest) symbol.RightParenthesis (got ps) mid (λ u rest q. profile_of o h d q)))
    profile_step _ t us h = no_parameters

    profile_sound : (ts : Tokens) → Yields (λ ps rest. HasParameters x ps ts rest) (read.profile_by x m ts)
    profile_sound [] = no_parameters
    profile_sound (t ∷ us) = turned_yields (λ ps rest. HasParameters x ps (t ∷ us) rest) (read.profile_turn x m (symbol_of t.lexeme) t) t us (profile_step (symbol_of t.lexeme) t us refl)

    specification_step : (found : Symbol) (t : Token) (us : Tokens) → Is found t → YieldsTurn (λ s rest. IsSpecification x s (t ∷ us) rest) (read.specification_turn x m found t) t us
    specification_step symbol.Procedure t us h = bind_yields (λ u rest. Takes symbol.Identifier u us rest) (λ s rest. IsSpecification x s (t ∷ us) rest) _ (expect symbol.Identifier) us (expect_yields symbol.Identifier us)
        (λ u vs i. bind_yields (λ ps rest. HasParameters x ps vs rest) (λ s rest. IsSpecification x s (t ∷ us) rest) _ (read.profile_by x m) vs (profile_sound vs) (λ ps rest d. procedure_of h i d))
    specification_step symbol.Function t us h = provided_yields (λ s rest. IsSpecification x s (t ∷ us) rest) (opens x Subprograms) _ t us
        (λ o. bind_yields (λ u rest. Takes symbol.Identifier u us rest) (λ s rest. IsSpecification x s (t ∷ us) rest) _ (expect symbol.Identifier) us (expect_yields symbol.Identifier us)
        (λ u vs i. bind_yields (λ ps rest. HasParameters x ps vs rest) (λ s rest. IsSpecification x s (t ∷ us) rest) _ (read.profile_by x m) vs (profile_sound vs)
        (λ ps ws d. skip_yields (λ s rest. IsSpecification x s (t ∷ us) rest) symbol.Return (at_name x m >>= λ n. got (specified t.pos (identifier_of u) ps (Some n))) ws
        (λ v ys j. bind_yields (λ n rest. IsName x n ys rest) (λ s rest. IsSpecification x s (t ∷ us) rest) _ (at_name x m) ys (at_name_sound x m ys) (λ n rest e. function_of o h i d j e)))))
    specification_step _ t us h = tt

    pub specification_sound : (ts : Tokens) → Yields (λ s rest. IsSpecification x s ts rest) (read.specification_by x m ts)
    specification_sound [] = tt
    specification_sound (t ∷ us) = turned_yields (λ s rest. IsSpecification x s (t ∷ us) rest) (read.specification_turn x m (symbol_of t.lexeme) t) t us (specification_step (symbol_of t.lexeme) t us refl)

    pragma_step : (found : Symbol) (t : Token) (us : Tokens) → Is found t → YieldsTurn (λ a rest. IsPragma x a (t ∷ us) rest) (read.pragma_turn x m found t) t us
    pragma_step symbol.Pragma t us h = provided_yields (λ a rest. IsPragma x a (t ∷ us) rest) (opens x Whole) _ t us
        (λ o. skip_word_sound (λ a rest. IsPragma x a (t ∷ us) rest) annotate (skip symbol.LeftParenthesis (read.skip_word xcov (skip symbol.Comma read.exemption_by))) us
        (λ u vs b. skip_yields (λ a rest. IsPragma x a (t ∷ us) rest) symbol.LeftParenthesis (read.skip_word xcov (skip symbol.Comma read.exemption_by)) vs
        (λ v ws c. skip_word_sound (λ a rest. IsPragma x a (t ∷ us) rest) xcov (skip symbol.Comma read.exemption_by) ws
        (λ w ys d. skip_yields (λ a rest. IsPragma x a (t ∷ us) rest) symbol.Comma read.exemption_by ys
        (λ z zs e. weaken (λ a rest. IsExemption a zs rest) (λ a rest. IsPragma x a (t ∷ us) rest) (read.exemption_by zs) (exemption_sound zs) (λ a rest f. pragma_of o h b c d e f))))))
    pragma_step _ t us h = tt

    pub pragma_sound : (ts : Tokens) → Yields (λ a rest. IsPragma x a ts rest) (read.pragma_by x m ts)
    pragma_sound [] = tt
    pragma_sound (t ∷ us) = turned_yields (λ a rest. IsPragma x a (t ∷ us) rest) (read.pragma_turn x m (symbol_of t.lexeme) t) t us (pragma_step (symbol_of t.lexeme) t us refl)

    initial_part_step : (found : Symbol) (t : Token) (us : Tokens) → Is found t → YieldsTurn (λ i rest. HasInitial x i (t ∷ us) rest) (read.initial_part_turn x m found t) t us
    initial_part_step symbol.Becomes t us h = bind_yields (λ i rest. IsInitial x i us rest) (λ i rest. HasInitial x i (t ∷ us) rest) _ (initial_by x m) us (initial_by_sound x m us) (λ i rest d. an_initial h d)
    initial_part_step _ t us h = no_initial

    initial_part_sound : (ts : Tokens) → Yields (λ i rest. HasInitial x i ts rest) (read.initial_part_by x m ts)
    initial_part_sound [] = no_initial
    initial_part_sound (t ∷ us) = turned_yields (λ i rest. HasInitial x i (t ∷ us) rest) (read.initial_part_turn x m (symbol_of t.lexeme) t) t us (initial_part_step (symbol_of t.lexeme) t us refl)

    -- declarations of names, the first of which is this token
    module _ (t : Token) (us : Tokens) (o : opens x Objects ≡ true) where
      abbrev IsKind : DeclarationKind → Tokens → Type 0
      IsKind k rest = IsDeclaration x (declared t.pos k) (t ∷ us) rest

      object_sound : (is : List Identifier) (k : Constancy) (u : Token) (vs ws ys : Tokens) → AreIdentifiers is (t ∷ us) vs → Takes symbol.Colon u vs ws → IsConstancy k ws ys → Yields IsKind (read.object_by x m is k ys)
      object_sound is k u vs ws ys d i c = bind_yields (λ s rest. IsIndication x s ys rest) IsKind _ (indication_by x m) ys (indication_sound x m ys)
          (λ s zs e. bind_yields (λ v rest. HasInitial x v zs rest) IsKind _ (read.initial_part_by x m) zs (initial_part_sound zs)
          (λ v qs f. skip_yields IsKind symbol.Semicolon (got (declares.Object is k s v)) qs (λ w rest j. object_of o d i c e f j)))

      named_step : (is : List Identifier) (u : Token) (vs : Tokens) → AreIdentifiers is (t ∷ us) vs → (found : Symbol) (v : Token) (ws : Tokens) → Takes symbol.Colon u vs (v ∷ ws) → Is found v → YieldsTurn IsKind (read.named_turn x m is found v) v ws
      named_step is u vs d symbol.Exception v ws i h = provided_yields IsKind (opens x Exceptions) _ v ws (λ p. skip_yields IsKind symbol.Semicolon (got (declares.Exception is)) ws (λ w rest j. exception_of p d i h j))
      named_step is u vs d symbol.Constant v ws i h = object_sound is constancy.Constant u vs (v ∷ ws) ws d i (a_constant h)
      named_step is u vs d _ v ws i h = object_sound is constancy.Variable u vs (v ∷ ws) (v ∷ ws) d i a_variable

      named_rest_sound : (is : List Identifier) (u : Token) (vs ws : Tokens) → AreIdentifiers is (t ∷ us) vs → Takes symbol.Colon u vs ws → Yields IsKind (read.named_rest x m is ws)
      named_rest_sound is u vs [] d i = tt
      named_rest_sound is u vs (v ∷ ws) d i = turned_yields IsKind (read.named_turn x m is (symbol_of v.lexeme) v) v ws (named_step is u vs d (symbol_of v.lexeme) v ws i refl)

      named_sound : Yields IsKind (read.named_by x m (t ∷ us))
      named_sound = bind_yields (λ is rest. AreIdentifiers is (t ∷ us) rest) IsKind _ (identifiers_by m) (t ∷ us) (identifiers_sound m (t ∷ us))
          (λ is vs d. skip_yields IsKind symbol.Colon (read.named_rest x m is) vs (λ u ws i. named_rest_sound is u vs ws d i))

    kind_step : (found : Symbol) (t : Token) (us : Tokens) → Is found t → YieldsTurn (λ k rest. IsDeclaration x (declared t.pos k) (t ∷ us) rest) (read.kind_turn x m found t) t us
    kind_step symbol.Type t us h = provided_yields (λ k rest. IsDeclaration x (declared t.pos k) (t ∷ us) rest) (opens x Types) _ t us
        (λ o. bind_yields (λ u rest. Takes symbol.Identifier u us rest) (λ k rest. IsDeclaration x (declared t.pos k) (t ∷ us) rest) _ (expect symbol.Identifier) us (expect_yields symbol.Identifier us)
        (λ u vs i. skip_yields (λ k rest. IsDeclaration x (declared t.pos k) (t ∷ us) rest) symbol.Is (definition_by x m >>= λ d. skip symbol.Semicolon (got (declares.Type (identifier_of u) d))) vs
        (λ v ws j. bind_yields (λ d rest. IsDefinition x d ws rest) (λ k rest. IsDeclaration x (declared t.pos k) (t ∷ us) rest) _ (definition_by x m) ws (definition_sound x m ws)
        (λ d ys e. skip_yields (λ k rest. IsDeclaration x (declared t.pos k) (t ∷ us) rest) symbol.Semicolon (got (declares.Type (identifier_of u) d)) ys (λ w rest k. type_of o h i j e k)))))
    kind_step symbol.Subtype t us h = provided_yields (λ k rest. IsDeclaration x (declared t.pos k) (t ∷ us) rest) (opens x Types) _ t us
        (λ o. bind_yields (λ u rest. Takes symbol.Identifier u us rest) (λ k rest. IsDeclaration x (declared t.pos k) (t ∷ us) rest) _ (expect symbol.Identifier) us (expect_yields symbol.Identifier us)
        (λ u vs i. skip_yields (λ k rest. IsDeclaration x (declared t.pos k) (t ∷ us) rest) symbol.Is (indication_by x m >>= λ s. skip symbol.Semicolon (got (declares.Subtype (identifier_of u) s))) vs
        (λ v ws j. bind_yields (λ s rest. IsIndication x s ws rest) (λ k rest. IsDeclaration x (declared t.pos k) (t ∷ us) rest) _ (indication_by x m) ws (indication_sound x m ws)
        (λ s ys e. skip_yields (λ k rest. IsDeclaration x (declared t.pos k) (t ∷ us) rest) symbol.Semicolon (got (declares.Subtype (identifier_of u) s)) ys (λ w rest k. subtype_of o h i j e k)))))
    kind_step symbol.Identifier t us h = provided_yields (λ k rest. IsDeclaration x (declared t.pos k) (t ∷ us) rest) (opens x Objects) _ t us (λ o. named_sound t us o)
    kind_step symbol.Pragma t us h = bind_yields (λ a rest. IsPragma x a (t ∷ us) rest) (λ k rest. IsDeclaration x (declared t.pos k) (t ∷ us) rest) _ (read.pragma_by x m) (t ∷ us) (pragma_sound (t ∷ us)) (λ a rest d. an_exemption d)
    kind_step _ t us h = tt

    pub declaration_sound : (ts : Tokens) → Yields (λ d rest. IsDeclaration x d ts rest) (read.declaration_by x m ts)
    declaration_sound [] = tt
    declaration_sound (t ∷ us) = bind_yields (λ k rest. IsDeclaration x (declared t.pos k) (t ∷ us) rest) (λ d rest. IsDeclaration x d (t ∷ us) rest) (λ k. got (declared t.pos k)) (read.kind_by x m) (t ∷ us)
        (turned_yields (λ k rest. IsDeclaration x (declared t.pos k) (t ∷ us) rest) (read.kind_turn x m (symbol_of t.lexeme) t) t us (kind_step (symbol_of t.lexeme) t us refl)) (λ k rest d. d)

    declarations_step : (ts : Tokens) (b : Bool) (t : Token) (ds : List Declaration) (us : Tokens) → AreDeclarations x ds ts (t ∷ us)
        → YieldsTurn (λ zs rest. AreDeclarations x zs ts rest) (cond b (Look (read.declaration_by x m >>= λ d. got (ds ++ d ∷ []))) (Leave ds)) t us
    declarations_step ts true t ds us l = bind_yields (λ d rest. IsDeclaration x d (t ∷ us) rest) (λ zs rest. AreDeclarations x zs ts rest) _ (read.declaration_by x m) (t ∷ us) (declaration_sound (t ∷ us)) (λ d rest e. more_declarations l e)
    declarations_step ts false t ds us l = l

    pub declarations_sound : (ts : Tokens) → Yields (λ ds rest. AreDeclarations x ds ts rest) (read.declarations_by x m ts)
    declarations_sound ts = repeat_yields (λ zs rest. AreDeclarations x zs ts rest) (read.declarations_turn x m) (λ found t ds us h l. declarations_step ts (read.begins_declaration found) t ds us l) (suc m) [] ts no_declarations
