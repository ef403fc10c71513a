-- What derives a specification, a pragma or a local declaration is read so.
use Rattle.std.proofs.Common.{◌≡◌, ℕ, suc, ◌<◌, ◌≤◌, Bool, true, false, cond, List, [], ◌∷◌, ◌++◌, length, Option, Some, None, refl, ap, sym, ◌∙◌, subst, arith}
use Rattle.std.proofs.lemmas.Slice.Eq.{bytes_eq-Decides}
use Rattle.std.specs.Str.{str_to_ascii_lowercase}
use Rattle.ada_lexer.specs.declared.token.Token.{Token}
use Rattle.ada_syntax.specs.declared.name.Identifier.{Identifier}
use Rattle.ada_syntax.specs.declared.declaration.SubtypeIndication.{SubtypeIndication}
use Rattle.ada_syntax.specs.declared.declaration.Initial.{Initial}
use Rattle.ada_syntax.specs.declared.declaration.Constancy.{Constancy}
use Rattle.ada_syntax.specs.declared.declaration.Constancy.TheVariants as constancy
use Rattle.ada_syntax.specs.declared.declaration.Declaration.{Declaration}
use Rattle.ada_syntax.specs.declared.declaration.DeclarationKind.TheVariants as declares
use Rattle.ada_syntax.specs.declared.declaration.Pragma.{Pragma}
use Rattle.ada_syntax.specs.declared.declaration.Pragma.TheVariants.{ExemptOn, ExemptOff}
use Rattle.ada_syntax.specs.declared.unit.Mode.{Mode}
use Rattle.ada_syntax.specs.declared.unit.Mode.TheVariants as mode
use Rattle.ada_syntax.specs.declared.unit.Parameter.{Parameter}
use Rattle.ada_syntax.specs.declared.unit.Specification.{Specification}
use Rattle.expression_parser.specs.declared.symbol.Symbol.{Symbol}
use Rattle.expression_parser.specs.declared.symbol.Symbol.TheVariants as symbol
use Rattle.expression_parser.specs.declared.extent.Extent.{Extent}
use Rattle.expression_parser.specs.declared.extent.Extent.TheVariants.{Objects}
use Rattle.expression_parser.specs.Symbols.{symbol_of, Is, identifier_of}
use Rattle.expression_parser.specs.Extents.{opens}
use Rattle.expression_parser.specs.Reading.{Tokens, Reading, Reader, Got, Refuse, Leave, Take, Look, got, ◌>>=◌, turned, on_token, provided, accept, expect, skip, repeat}
use Rattle.expression_parser.specs.Shows.{after}
use Rattle.expression_parser.specs.Depth.{at_name}
use Rattle.declaration_parser.specs.Spelling.{annotate, xcov, exempt_on, exempt_off, is_spelled, IsWord}
use Rattle.declaration_parser.specs.Identifiers.{AreIdentifiers}
use Rattle.declaration_parser.specs.Subtypes.{IsIndication, an_indication}
use Rattle.declaration_parser.specs.SubtypeReading.{indication_by, definition_by}
use Rattle.declaration_parser.specs.Specifications.{IsMode, no_mode, mode_in, mode_out, mode_in_out, IsParameter, a_parameter, AreParameters, one_parameter, more_parameters, HasParameters, no_parameters, some_parameters, specified, IsSpecification, a_procedure, a_function}
use Rattle.declaration_parser.specs.Declarations.{IsExemption, an_on, an_off, IsPragma, a_pragma, IsConstancy, a_variable, a_constant, HasInitial, no_initial, an_initial, declared, IsDeclaration, a_type, a_subtype, an_object, an_exception, an_exemption, AreDeclarations, no_declarations, more_declarations}
use Rattle.declaration_parser.specs.DeclarationReading as read
use Rattle.expression_parser.proofs.Comes.{binding, Ends, ends_at, got_bind, got_then, got_expect, got_skip, got_closed, on_symbol, Comes, comes_leave, comes_take, comes_look}
use Rattle.expression_parser.proofs.ExpressionLengths.{name_shorter}
use Rattle.expression_parser.proofs.ExpressionComplete.{name_first}
use Rattle.declaration_parser.proofs.ExpressionParts.{exceptions_open_objects, at_name_complete}
use Rattle.declaration_parser.proofs.IdentifierLaws.{identifiers_shorter, identifiers_first, IsIdentified, identifiers_complete}
use Rattle.declaration_parser.proofs.SubtypeComplete.{not_next, indication_shorter, definition_shorter, initial_shorter, indication_complete, indication_closes, definition_complete, initial_complete}

-- modes
mode_shorter : {k : Mode} {ts rest : Tokens} → IsMode k ts rest → length rest ≤ length ts
mode_shorter no_mode = omega arith
mode_shorter (mode_in i) = omega arith
mode_shorter (mode_out i) = omega arith
mode_shorter (mode_in_out i j) = omega arith

-- before an identifier
pub mode_complete : {k : Mode} {us vs : Tokens} → IsMode k us vs → (t : Token) (ws : Tokens) → vs ≡ t ∷ ws → Is symbol.Identifier t → read.mode_by us ≡ Got k vs
mode_complete no_mode t ws h i = ap read.mode_by h ∙ (on_symbol (Leave mode.Default) read.mode_turn symbol.Identifier t ws i ∙ ap (Got mode.Default) (sym h))
mode_complete (mode_in {t = u} {rest = rest} j) t ws h i = on_symbol (Leave mode.Default) read.mode_turn symbol.In u rest j
    ∙ (ap (on_token (Leave mode.In) read.in_turn) h ∙ (on_symbol (Leave mode.In) read.in_turn symbol.Identifier t ws i ∙ ap (Got mode.In) (sym h)))
mode_complete (mode_out {t = u} {rest = rest} j) t ws h i = on_symbol (Leave mode.Default) read.mode_turn symbol.Out u rest j
mode_complete (mode_in_out {t = u} {u = v} {rest = rest} j l) t ws h i = on_symbol (Leave mode.Default) read.mode_turn symbol.In u (v ∷ rest) j ∙ on_symbol (Leave mode.In) read.in_turn symbol.Out v rest l

-- words of pragmas
got_word : (spelling : List ℕ) (t : Token) (us : Tokens) → IsWord spelling t → read.spelled_by spelling (t ∷ us) ≡ Got t us
got_word spelling t us w = on_symbol Refuse (read.word_turn spelling) symbol.Identifier t us w.0 ∙ ap (λ b. turned (accept b t) t us) w.1

skipped_word : {A : Type 0} {q : Reading A} (spelling : List ℕ) (r : Reader A) (t : Token) (us : Tokens) → IsWord spelling t → r us ≡ q → read.skip_word spelling r (t ∷ us) ≡ q
skipped_word spelling r t us w e = got_bind (λ _. r) (got_word spelling t us w) e

not_both : (t : Token) → is_spelled exempt_on t ≡ true → is_spelled exempt_off t ≡ true → ⊥
not_both t h k =
    let lower = str_to_ascii_lowercase in
    let p = (bytes_eq-Decides (lower exempt_on) (lower t.text)).0 h ∙ sym ((bytes_eq-Decides (lower exempt_off) (lower t.text)).0 k) in
    let e : 9 ≡ 10 = ap length p in absurd (omega (arith, e))

off_is_not_on : (t : Token) (b : Bool) → is_spelled exempt_on t ≡ b → is_spelled exempt_off t ≡ true → b ≡ false
off_is_not_on t true h k = absurd (not_both t h k)
off_is_not_on t false h k = refl

exemption_complete : {a : Pragma} {ts rest : Tokens} → IsExemption a ts rest → read.exemption_by ts ≡ Got a rest
exemption_complete (an_on {t = t} {u = u} {v = v} {w = w} {z = z} {rest = rest} a b c d e) =
    on_symbol Refuse read.exemption_turn symbol.Identifier t (u ∷ v ∷ w ∷ z ∷ rest) a.0
    ∙ (ap (λ y. turned (read.exemption_word_turn y (is_spelled exempt_off t)) t (u ∷ v ∷ w ∷ z ∷ rest)) a.1
    ∙ got_skip symbol.Comma (expect symbol.Text >>= λ y. skip symbol.RightParenthesis (skip symbol.Semicolon (got (ExemptOn y.text)))) u (v ∷ w ∷ z ∷ rest) b
    (got_bind (λ y. skip symbol.RightParenthesis (skip symbol.Semicolon (got (ExemptOn y.text)))) (got_expect symbol.Text v (w ∷ z ∷ rest) c)
    (got_skip symbol.RightParenthesis (skip symbol.Semicolon (got (ExemptOn v.text))) w (z ∷ rest) d (got_skip symbol.Semicolon (got (ExemptOn v.text)) z rest e refl))))
exemption_complete (an_off {t = t} {u = u} {v = v} {rest = rest} a b c) =
    on_symbol Refuse read.exemption_turn symbol.Identifier t (u ∷ v ∷ rest) a.0
    ∙ (ap (λ y. turned (read.exemption_word_turn y (is_spelled exempt_off t)) t (u ∷ v ∷ rest)) (off_is_not_on t (is_spelled exempt_on t) refl a.1)
    ∙ (ap (λ y. turned (read.exemption_word_turn false y) t (u ∷ v ∷ rest)) a.1
    ∙ got_skip symbol.RightParenthesis (skip symbol.Semicolon (got ExemptOff)) u (v ∷ rest) b (got_skip symbol.Semicolon (got ExemptOff) v rest c refl)))

exemption_shorter : {a : Pragma} {ts rest : Tokens} → IsExemption a ts rest → length rest < length ts
exemption_shorter (an_on a b c d e) = omega arith
exemption_shorter (an_off a b c) = omega arith

-- the first token of names
first_at : {t u : Token} {ts us : Tokens} → ◌≡◌ {A = Tokens} (t ∷ ts) (u ∷ us) → Is symbol.Identifier u → Is symbol.Identifier t
first_at {t} {u} {ts} {us} e i = ap (λ z. symbol_of z.lexeme) (head_same t u ts us e) ∙ i
  where
    head_same : (t u : Token) (ts us : Tokens) → ◌≡◌ {A = Tokens} (t ∷ ts) (u ∷ us) → t ≡ u
    head_same t u ts us e = cc

first_of : {is : List Identifier} {t : Token} {ts rest : Tokens} → AreIdentifiers is (t ∷ ts) rest → Is symbol.Identifier t
first_of d = let f = identifiers_first d in first_at f.here f.first

pub pragma_first : {x : Extent} {a : Pragma} {t : Token} {ts rest : Tokens} → IsPragma x a (t ∷ ts) rest → Is symbol.Pragma t
pragma_first (a_pragma o h b c d e f) = h

module _ (x : Extent) where
  -- lengths
  parameter_shorter : {p : Parameter} {ts rest : Tokens} → IsParameter x p ts rest → length rest < length ts
  parameter_shorter (a_parameter d i e f) = omega (arith, identifiers_shorter d, mode_shorter e, name_shorter x f)

  parameters_shorter : {ps : List Parameter} {ts rest : Tokens} → AreParameters x ps ts rest → length rest < length ts
  parameters_shorter (one_parameter d) = parameter_shorter d
  parameters_shorter (more_parameters l i d) = omega (arith, parameters_shorter l, parameter_shorter d)

  profile_shorter : {ps : List Parameter} {ts rest : Tokens} → HasParameters x ps ts rest → length rest ≤ length ts
  profile_shorter no_parameters = omega arith
  profile_shorter (some_parameters o i d j) = omega (arith, parameters_shorter d)

  pub specification_shorter : {s : Specification} {ts rest : Tokens} → IsSpecification x s ts rest → length rest < length ts
  specification_shorter (a_procedure h i d) = omega (arith, profile_shorter d)
  specification_shorter (a_function o h i d j e) = omega (arith, profile_shorter d, name_shorter x e)

  pub pragma_shorter : {a : Pragma} {ts rest : Tokens} → IsPragma x a ts rest → length rest < length ts
  pragma_shorter (a_pragma o h b c d e f) = omega (arith, exemption_shorter f)

  constancy_shorter : {k : Constancy} {ts rest : Tokens} → IsConstancy k ts rest → length rest ≤ length ts
  constancy_shorter a_variable = omega arith
  constancy_shorter (a_constant i) = omega arith

  initial_part_shorter : {i : Option Initial} {ts rest : Tokens} → HasInitial x i ts rest → length rest ≤ length ts
  initial_part_shorter no_initial = omega arith
  initial_part_shorter (an_initial i d) = omega (arith, initial_shorter x d)

  pub declaration_shorter : {d : Declaration} {ts rest : Tokens} → IsDeclaration x d ts rest → length rest < length ts
  declaration_shorter (a_type o h i j d k) = omega (arith, definition_shorter x d)
  declaration_shorter (a_subtype o h i j d k) = omega (arith, indication_shorter x d)
  declaration_shorter (an_object o d i c e f j) = omega (arith, identifiers_shorter d, constancy_shorter c, indication_shorter x e, initial_part_shorter f)
  declaration_shorter (an_exception o d i h j) = omega (arith, identifiers_shorter d)
  declaration_shorter (an_exemption d) = pragma_shorter d

  pub declarations_shorter : {ds : List Declaration} {ts rest : Tokens} → AreDeclarations x ds ts rest → length rest ≤ length ts
  declarations_shorter no_declarations = omega arith
  declarations_shorter (more_declarations l d) = omega (arith, declarations_shorter l, declaration_shorter d)

  -- complete
  module _ (m : ℕ) where
    parameter_complete : {p : Parameter} {ts rest : Tokens} → IsParameter x p ts rest → length ts ≤ m → Ends 0 rest → read.parameter_by x m ts ≡ Got p rest
    parameter_complete (a_parameter {t = t} {is = is} {k = k} {n = n} {us = us} d i e f) h ends =
        let g = name_first x f in
        let marked : List Identifier → Mode → Reader Parameter = λ zs y. at_name x m >>= λ z. got (record { names = zs; mode = y; mark = z }) in
        got_bind (λ zs. skip symbol.Colon (read.mode_by >>= λ y. marked zs y)) (identifiers_complete symbol.Colon d i (λ zs. refl) m h)
        (got_skip symbol.Colon (read.mode_by >>= λ y. marked is y) t us i
        (got_bind (λ y. marked is y) (mode_complete e g.t g.us g.here g.first)
        (got_then (λ z. record { names = is; mode = k; mark = z }) (at_name_complete x m f (omega (arith, identifiers_shorter d, mode_shorter e)) ends))))

    parameters_come : {ps : List Parameter} {ts rest : Tokens} → AreParameters x ps ts rest → length ts ≤ m → Ends 0 rest → Comes (read.parameters_turn x m) (read.parameters_by x m ts) ps rest
    parameters_come (one_parameter d) h ends = record {
      turns = suc m;
      room = omega (arith, parameter_shorter d);
      here = got_bind (λ p. repeat (read.parameters_turn x m) (suc m) (p ∷ [])) (parameter_complete d h ends) refl;
    }
    parameters_come (more_parameters {t = t} {ps = ps} {us = us} {rest = rest} l i d) h ends =
        comes_take (read.parameters_turn x m) t us rest (read.parameter_by x m >>= λ p. got (ps ++ p ∷ [])) (parameters_come l h (ends_at 0 symbol.Semicolon t us i (omega arith)))
        (ap (λ z. read.parameters_turn x m z t ps) i) (got_then (λ p. ps ++ p ∷ []) (parameter_complete d (omega (arith, parameters_shorter l)) ends)) (omega (arith, parameter_shorter d))

    profile_leaves : (s : Symbol) (t : Token) → 0 < binding s → read.profile_turn x m s t ≡ Leave []
    profile_leaves symbol.LeftParenthesis t h = absurd (omega arith)
    profile_leaves _ t h = refl

    without_profile : (ts : Tokens) → Ends 0 ts → read.profile_by x m ts ≡ Got [] ts
    without_profile [] ends = refl
    without_profile (t ∷ us) ends = ap (λ z. turned z t us) (profile_leaves (symbol_of t.lexeme) t ends.by)

    profile_complete : {ps : List Parameter} {ts rest : Tokens} → HasParameters x ps ts rest → length ts ≤ m → Ends 0 rest → read.profile_by x m ts ≡ Got ps rest
    profile_complete (no_parameters {ts = ts}) h ends = without_profile ts ends
    profile_complete (some_parameters {t = t} {u = u} {ps = ps} {ts = ts} {rest = rest} o i d j) h ends =
        on_symbol (Leave []) (read.profile_turn x m) symbol.LeftParenthesis t ts i
        ∙ (ap (λ b. turned (provided b (Take (read.parameters_by x m >>= λ zs. skip symbol.RightParenthesis (got zs)))) t ts) o
        ∙ got_closed (λ zs. zs) symbol.RightParenthesis u
        (comes_leave (read.parameters_turn x m) (parameters_come d (omega arith) (ends_at 0 symbol.RightParenthesis u rest j (omega arith))) (ap (λ z. read.parameters_turn x m z u ps) j)) j)

    pub specification_complete : {s : Specification} {ts rest : Tokens} → IsSpecification x s ts rest → length ts ≤ m → Ends 0 rest → read.specification_by x m ts ≡ Got s rest
    specification_complete (a_procedure {t = t} {u = u} {ps = ps} {ts = ts} h i d) l ends =
        on_symbol Refuse (read.specification_turn x m) symbol.Procedure t (u ∷ ts) h
        ∙ got_bind (λ z. read.profile_by x m >>= λ zs. got (specified t.pos (identifier_of z) zs None)) (got_expect symbol.Identifier u ts i)
        (got_then (λ zs. specified t.pos (identifier_of u) zs None) (profile_complete d (omega arith) ends))
    specification_complete (a_function {t = t} {u = u} {v = v} {ps = ps} {ts = ts} {us = us} o h i d j e) l ends =
        let results : Token → List Parameter → Reader Specification = λ z zs. at_name x m >>= λ n. got (specified t.pos (identifier_of z) zs (Some n)) in
        on_symbol Refuse (read.specification_turn x m) symbol.Function t (u ∷ ts) h
        ∙ (ap (λ b. turned (provided b (Take (read.function_by x m t.pos))) t (u ∷ ts)) o
        ∙ got_bind (λ z. read.profile_by x m >>= λ zs. skip symbol.Return (results z zs)) (got_expect symbol.Identifier u ts i)
        (got_bind (λ zs. skip symbol.Return (results u zs)) (profile_complete d (omega arith) (ends_at 0 symbol.Return v us j (omega arith)))
        (got_skip symbol.Return (results u ps) v us j (got_then (λ n. specified t.pos (identifier_of u) ps (Some n)) (at_name_complete x m e (omega (arith, profile_shorter d)) ends)))))

    pub pragma_complete : {a : Pragma} {ts rest : Tokens} → IsPragma x a ts rest → read.pragma_by x m ts ≡ Got a rest
    pragma_complete (a_pragma {t = t} {u = u} {v = v} {w = w} {z = z} {ts = ts} o h b c d e f) =
        on_symbol Refuse (read.pragma_turn x m) symbol.Pragma t (u ∷ v ∷ w ∷ z ∷ ts) h
        ∙ (ap (λ y. turned (provided y (Take (read.annotation_by x m))) t (u ∷ v ∷ w ∷ z ∷ ts)) o
        ∙ skipped_word annotate (skip symbol.LeftParenthesis (read.skip_word xcov (skip symbol.Comma read.exemption_by))) u (v ∷ w ∷ z ∷ ts) b
        (got_skip symbol.LeftParenthesis (read.skip_word xcov (skip symbol.Comma read.exemption_by)) v (w ∷ z ∷ ts) c
        (skipped_word xcov (skip symbol.Comma read.exemption_by) w (z ∷ ts) d (got_skip symbol.Comma read.exemption_by z ts e (exemption_complete f)))))

    -- before a semicolon
    initial_part_complete : {i : Option Initial} {us ts : Tokens} {t : Token} → HasInitial x i us (t ∷ ts) → Is symbol.Semicolon t → length us ≤ m → read.initial_part_by x m us ≡ Got i (t ∷ ts)
    initial_part_complete (no_initial) j h = on_symbol (Leave None) (read.initial_part_turn x m) symbol.Semicolon _ _ j
    initial_part_complete {ts = ts} {t = t} (an_initial {t = u} {ts = us} k d) j h =
        on_symbol (Leave None) (read.initial_part_turn x m) symbol.Becomes u us k ∙ got_then (λ z. Some z) (initial_complete x d m (omega arith) (ends_at 4 symbol.Semicolon t ts j (omega arith)))

    -- a subtype ends before its initial value
    indication_before : {i : Option Initial} {us ts : Tokens} {t : Token} → HasInitial x i us (t ∷ ts) → Is symbol.Semicolon t → Ends 2 us × (after symbol.Range us ≡ None)
    indication_before {ts = ts} {t = t} no_initial j = (ends_at 2 symbol.Semicolon t ts j (omega arith), not_next symbol.Semicolon symbol.Range t ts j refl)
    indication_before (an_initial {t = u} {ts = us} k d) j = (ends_at 2 symbol.Becomes u us k (omega arith), not_next symbol.Becomes symbol.Range u us k refl)

    object_complete : (is : List Identifier) (k : Constancy) {s : SubtypeIndication} {i : Option Initial} {vs ws rest : Tokens} {v : Token} → IsIndication x s vs ws → HasInitial x i ws (v ∷ rest) → Is symbol.Semicolon v → length vs ≤ m
        → read.object_by x m is k vs ≡ Got (declares.Object is k s i) rest
    object_complete is k {s = s} {v = v} e f j h =
        let b = indication_before f j in
        got_bind (λ z. read.initial_part_by x m >>= λ y. skip symbol.Semicolon (got (declares.Object is k z y))) (indication_complete x m e h b.0 b.1)
        (got_closed (λ y. declares.Object is k s y) symbol.Semicolon v (initial_part_complete f j (omega (arith, indication_shorter x e))) j)

    -- a subtype begins with an identifier
    indication_first : {s : SubtypeIndication} {ts rest : Tokens} → IsIndication x s ts rest → IsIdentified ts
    indication_first (an_indication d e) = let f = name_first x d in record { t = f.t; us = f.us; here = f.here; first = f.first }

    named_complete : (is : List Identifier) {k : Constancy} {s : SubtypeIndication} {i : Option Initial} {us vs ws rest : Tokens} {v : Token} → IsConstancy k us vs → IsIndication x s vs ws → HasInitial x i ws (v ∷ rest) → Is symbol.Semicolon v → length us ≤ m
        → read.named_rest x m is us ≡ Got (declares.Object is k s i) rest
    named_complete is {s = s} {i = i} {us = us} {rest = rest} a_variable e f j h =
        let g = indication_first e in
        subst (λ z. read.named_rest x m is z ≡ Got (declares.Object is constancy.Variable s i) rest) (sym g.here)
        (on_symbol Refuse (read.named_turn x m is) symbol.Identifier g.t g.us g.first
        ∙ subst (λ z. read.object_by x m is constancy.Variable z ≡ Got (declares.Object is constancy.Variable s i) rest) g.here (object_complete is constancy.Variable e f j h))
    named_complete is (a_constant {t = t} {rest = vs} c) e f j h = on_symbol Refuse (read.named_turn x m is) symbol.Constant t vs c ∙ object_complete is constancy.Constant e f j (omega arith)

    named_turns : (t : Token) (ts : Tokens) → Is symbol.Identifier t → opens x Objects ≡ true → read.kind_by x m (t ∷ ts) ≡ read.named_by x m (t ∷ ts)
    named_turns t ts i o = on_symbol Refuse (read.kind_turn x m) symbol.Identifier t ts i ∙ ap (λ b. turned (provided b (Look (read.named_by x m))) t ts) o

    pub declaration_complete : {d : Declaration} {ts rest : Tokens} → IsDeclaration x d ts rest → length ts ≤ m → read.declaration_by x m ts ≡ Got d rest
    declaration_complete (a_type {t = t} {u = u} {v = v} {w = w} {ts = ts} {rest = rest} o h i j d k) l =
        got_then (λ z. declared t.pos z)
        (on_symbol Refuse (read.kind_turn x m) symbol.Type t (u ∷ v ∷ ts) h
        ∙ (ap (λ b. turned (provided b (Take (read.type_by x m))) t (u ∷ v ∷ ts)) o
        ∙ got_bind (λ z. skip symbol.Is (definition_by x m >>= λ y. skip symbol.Semicolon (got (declares.Type (identifier_of z) y)))) (got_expect symbol.Identifier u (v ∷ ts) i)
        (got_skip symbol.Is (definition_by x m >>= λ y. skip symbol.Semicolon (got (declares.Type (identifier_of u) y))) v ts j
        (got_closed (λ y. declares.Type (identifier_of u) y) symbol.Semicolon w
        (definition_complete x m d (omega arith) (ends_at 2 symbol.Semicolon w rest k (omega arith)) (not_next symbol.Semicolon symbol.Range w rest k refl)) k))))
    declaration_complete (a_subtype {t = t} {u = u} {v = v} {w = w} {ts = ts} {rest = rest} o h i j d k) l =
        got_then (λ z. declared t.pos z)
        (on_symbol Refuse (read.kind_turn x m) symbol.Subtype t (u ∷ v ∷ ts) h
        ∙ (ap (λ b. turned (provided b (Take (read.subtype_by x m))) t (u ∷ v ∷ ts)) o
        ∙ got_bind (λ z. skip symbol.Is (indication_by x m >>= λ y. skip symbol.Semicolon (got (declares.Subtype (identifier_of z) y)))) (got_expect symbol.Identifier u (v ∷ ts) i)
        (got_skip symbol.Is (indication_by x m >>= λ y. skip symbol.Semicolon (got (declares.Subtype (identifier_of u) y))) v ts j
        (got_closed (λ y. declares.Subtype (identifier_of u) y) symbol.Semicolon w (indication_closes x m d k (omega arith)) k))))
    declaration_complete (an_object {t = t} {u = u} {is = is} {ts = ts} {us = us} o d i c e f j) l =
        got_then (λ z. declared t.pos z)
        (named_turns t ts (first_of d) o
        ∙ got_bind (λ zs. skip symbol.Colon (read.named_rest x m zs)) (identifiers_complete symbol.Colon d i (λ zs. refl) m l)
        (got_skip symbol.Colon (read.named_rest x m is) u us i (named_complete is c e f j (omega (arith, identifiers_shorter d)))))
    declaration_complete (an_exception {t = t} {u = u} {v = v} {w = w} {is = is} {ts = ts} {rest = rest} o d i h j) l =
        got_then (λ z. declared t.pos z)
        (named_turns t ts (first_of d) (exceptions_open_objects x o)
        ∙ got_bind (λ zs. skip symbol.Colon (read.named_rest x m zs)) (identifiers_complete symbol.Colon d i (λ zs. refl) m l)
        (got_skip symbol.Colon (read.named_rest x m is) u (v ∷ w ∷ rest) i
        (on_symbol Refuse (read.named_turn x m is) symbol.Exception v (w ∷ rest) h
        ∙ (ap (λ b. turned (provided b (Take (skip symbol.Semicolon (got (declares.Exception is))))) v (w ∷ rest)) o ∙ got_skip symbol.Semicolon (got (declares.Exception is)) w rest j refl))))
    declaration_complete (an_exemption {t = t} {a = a} {ts = ts} d) l =
        got_then (λ z. declared t.pos z) (on_symbol Refuse (read.kind_turn x m) symbol.Pragma t ts (pragma_first d) ∙ got_then (λ z. declares.Pragma z) (pragma_complete d))

    -- the first token of a declaration
    pub record Declares (ts : Tokens) : Type 0 where
      pub t : Token
      pub us : Tokens
      pub here : ts ≡ t ∷ us
      pub first : read.begins_declaration (symbol_of t.lexeme) ≡ true

    pub declaration_first : {d : Declaration} {ts rest : Tokens} → IsDeclaration x d ts rest → Declares ts
    declaration_first (a_type {t = t} {u = u} {v = v} {ts = ts} o h i j d k) = record { t = t; us = u ∷ v ∷ ts; here = refl; first = ap read.begins_declaration h }
    declaration_first (a_subtype {t = t} {u = u} {v = v} {ts = ts} o h i j d k) = record { t = t; us = u ∷ v ∷ ts; here = refl; first = ap read.begins_declaration h }
    declaration_first (an_object {t = t} {ts = ts} o d i c e f j) = record { t = t; us = ts; here = refl; first = ap read.begins_declaration (first_of d) }
    declaration_first (an_exception {t = t} {ts = ts} o d i h j) = record { t = t; us = ts; here = refl; first = ap read.begins_declaration (first_of d) }
    declaration_first (an_exemption {t = t} {ts = ts} d) = record { t = t; us = ts; here = refl; first = ap read.begins_declaration (pragma_first d) }

    declarations_come : {ds : List Declaration} {ts rest : Tokens} → AreDeclarations x ds ts rest → length ts ≤ m → Comes (read.declarations_turn x m) (read.declarations_by x m ts) ds rest
    declarations_come (no_declarations {ts = ts}) h = record { turns = suc m; room = omega arith; here = refl }
    declarations_come (more_declarations {d = last} {ds = ds} {ts = ts} {us = us} {rest = rest} l d) h =
        let f = declaration_first d in
        comes_look (read.declarations_turn x m) f.t f.us rest (read.declaration_by x m >>= λ z. got (ds ++ z ∷ []))
        (subst (λ z. Comes (read.declarations_turn x m) (read.declarations_by x m ts) ds z) f.here (declarations_come l h))
        (ap (λ b. cond b (Look (read.declaration_by x m >>= λ z. got (ds ++ z ∷ []))) (Leave ds)) f.first)
        (subst (λ z. (read.declaration_by x m >>= λ y. got (ds ++ y ∷ [])) z ≡ Got (ds ++ last ∷ []) rest) f.here (got_then (λ y. ds ++ y ∷ []) (declaration_complete d (omega (arith, declarations_shorter l)))))
        (subst (λ z. length rest < length z) f.here (declaration_shorter d))

    -- before a token that begins none
    pub declarations_complete : {ds : List Declaration} {ts us : Tokens} {t : Token} → AreDeclarations x ds ts (t ∷ us) → read.begins_declaration (symbol_of t.lexeme) ≡ false → length ts ≤ m → read.declarations_by x m ts ≡ Got ds (t ∷ us)
    declarations_complete {ds = ds} {t = t} d b h = comes_leave (read.declarations_turn x m) (declarations_come d h) (ap (λ z. cond z (Look (read.declaration_by x m >>= λ y. got (ds ++ y ∷ []))) (Leave ds)) b)
