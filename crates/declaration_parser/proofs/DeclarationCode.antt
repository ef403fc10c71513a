-- Local declarations, as the code reads them.
use Rattle.std.proofs.Common.{◌≡◌, ℕ, suc, ◌<◌, Bool, true, false, cond, List, [], ◌∷◌, ◌++◌, length, Option, Some, None, refl, ap, sym, ◌∙◌, arith}
use Rattle.std.proofs.lemmas.Bool.{false≢true}
use Rattle.ada_lexer.specs.declared.token.Token.{Token}
use Rattle.ada_syntax.specs.declared.name.Identifier.{Identifier}
use Rattle.ada_syntax.specs.declared.declaration.SubtypeIndication.{SubtypeIndication}
use Rattle.ada_syntax.specs.declared.declaration.Initial.{Initial}
use Rattle.ada_syntax.specs.declared.declaration.TypeDefinition.{TypeDefinition}
use Rattle.ada_syntax.specs.declared.declaration.Constancy.{Constancy}
use Rattle.ada_syntax.specs.declared.declaration.Constancy.TheVariants as constancy
use Rattle.ada_syntax.specs.declared.declaration.Declaration.{Declaration}
use Rattle.ada_syntax.specs.declared.declaration.DeclarationKind.{DeclarationKind}
use Rattle.ada_syntax.specs.declared.declaration.DeclarationKind.TheVariants as declares
use Rattle.ada_syntax.specs.declared.declaration.Pragma.{Pragma}
use Rattle.expression_parser.specs.declared.symbol.Symbol.{Symbol}
use Rattle.expression_parser.specs.declared.symbol.Symbol.TheVariants as symbol
use Rattle.expression_parser.specs.declared.extent.Extent.{Extent}
use Rattle.expression_parser.specs.declared.extent.Extent.TheVariants.{Objects, Types, Exceptions}
use Rattle.expression_parser.specs.Symbols.{symbol_of, Is, same}
use Rattle.expression_parser.specs.Extents.{opens}
use Rattle.expression_parser.specs.Reading.{Tokens, Reading, Reader, Got, Stuck, Refuse, Leave, Take, Look, got, goes_on, ◌>>=◌, turned, provided, expect, skip}
use Rattle.expression_parser.specs.Shows.{Shows, ShowsAs, TakesIdentifier, after, Reads, More, next_is}
use Rattle.declaration_parser.specs.Identifiers.{identifiers_by}
use Rattle.declaration_parser.specs.SubtypeReading.{initial_by, indication_by, definition_by}
use Rattle.declaration_parser.specs.Declarations.{declared}
use Rattle.declaration_parser.specs.DeclarationReading as read
use Rattle.expression_parser.proofs.Comes.{got_then, on_symbol}
use Rattle.expression_parser.proofs.Loops.{more_end, more_leave, more_look, more_look_stuck}
use Rattle.std.specs.Prelude.{Result}
use Rattle.std.specs.Borrow.{Bor}
use Rattle.expression_parser.specs.declared.fault.Fault.{Fault}
use Rattle.expression_parser.specs.declared.fault.Fault.TheVariants.{Syntax, Memory}
use Rattle.expression_parser.proofs.Faults.{failed}
use Rattle.declaration_parser.specs.Closing.{Closes}
use Rattle.declaration_parser.proofs.Closings.{read_so, Within, Below, within_below, leads, closes, stops, goes, named_leads, read_then, name_then, closed}
use Rattle.declaration_parser.proofs.Steps.{then_stuck, then_got_reads, got_reads, turn_taken, turn_left}

module _ (x : Extent) where
  no_initial_turn : (m : ℕ) (s : Symbol) (t : Token) → same s symbol.Becomes ≡ false → read.initial_part_turn x m s t ≡ Leave None
  no_initial_turn m symbol.Becomes t h = cc
  no_initial_turn m _ t h = refl

  pub initial_part_none : (ts : Tokens) → after symbol.Becomes ts ≡ None → Reads (read.initial_part_by x) ts (Got None ts)
  initial_part_none ts a = turn_left None (read.initial_part_turn x) symbol.Becomes ts a no_initial_turn

  pub initial_part_read : (ts us rest : Tokens) (i : Initial) → after symbol.Becomes ts ≡ Some us → Reads (initial_by x) us (Got i rest)
      → Reads (read.initial_part_by x) ts (Got (Some i) rest)
  initial_part_read ts us rest i a h =
      turn_taken (Leave None) (read.initial_part_turn x) symbol.Becomes ts us (λ m. initial_by x m >>= λ z. got (Some z)) (Got (Some i) rest) a (λ m t. refl)
      (then_got_reads (initial_by x) (λ z. Some z) us rest i h)

  pub initial_part_fails : (ts us rest : Tokens) → after symbol.Becomes ts ≡ Some us → Reads (initial_by x) us (Stuck rest) → Reads (read.initial_part_by x) ts (Stuck rest)
  initial_part_fails ts us rest a h =
      turn_taken (Leave None) (read.initial_part_turn x) symbol.Becomes ts us (λ m. initial_by x m >>= λ z. got (Some z)) (Stuck rest) a (λ m t. refl)
      (then_stuck (initial_by x) (λ m z. got (Some z)) us rest h)

  pub object_type_fails_first : (ts : Tokens) (f : Fault)
      → Shows (Reads (indication_by x) ts) (failed f)
      → Shows (Reads (read.object_type_by x) ts) (failed f)
  object_type_fails_first ts f h1 =
      stops (λ z. z) (read_then (indication_by x)) (λ m z0. (read.initial_part_by x m >>= λ z1. skip symbol.Semicolon (got (z0, z1)))) ts f (leads (SubtypeIndication × Option Initial) (λ z. z) (indication_by x) ts (failed f) h1 tt)

  pub object_type_fails_second : (ts : Tokens) (v0 : SubtypeIndication) (u0 : Bor Tokens) (p1 : Result (Option Initial × Bor Tokens) Fault) (f : Fault)
      → Shows (Reads (indication_by x) ts) (read_so v0 u0) → Below ts (read_so v0 u0) → Shows (Reads (read.initial_part_by x) u0.now) p1 → Within u0.now p1 → Closes symbol.Semicolon p1 (failed f)
      → Shows (Reads (read.object_type_by x) ts) (failed f)
  object_type_fails_second ts v0 u0 p1 f h1 h2 h3 h4 h5 =
      goes (λ z. z) (read_then (indication_by x)) (λ m z0. (read.initial_part_by x m >>= λ z1. skip symbol.Semicolon (got (z0, z1)))) ts v0 u0 (failed f) (leads (SubtypeIndication × Option Initial) (λ z. z) (indication_by x) ts (read_so v0 u0) h1 (within_below ts (read_so v0 u0) h2)) (
      stops (λ z. z) (closed symbol.Semicolon (read_then (read.initial_part_by x))) (λ m z1. got (v0, z1)) u0.now f (closes (λ z. z) (read_then (read.initial_part_by x)) symbol.Semicolon u0.now p1 (failed f) (leads (SubtypeIndication × Option Initial) (λ z. z) (read.initial_part_by x) u0.now p1 h3 h4) h5))

  pub object_type_read : (ts : Tokens) (v0 : SubtypeIndication) (u0 : Bor Tokens) (p1 : Result (Option Initial × Bor Tokens) Fault) (v1 : Option Initial) (u1 : Bor Tokens)
      → Shows (Reads (indication_by x) ts) (read_so v0 u0) → Below ts (read_so v0 u0) → Shows (Reads (read.initial_part_by x) u0.now) p1 → Within u0.now p1 → Closes symbol.Semicolon p1 (read_so v1 u1)
      → Reads (read.object_type_by x) ts (Got (v0, v1) u1.now)
  object_type_read ts v0 u0 p1 v1 u1 h1 h2 h3 h4 h5 =
      goes (λ z. z) (read_then (indication_by x)) (λ m z0. (read.initial_part_by x m >>= λ z1. skip symbol.Semicolon (got (z0, z1)))) ts v0 u0 (read_so (v0, v1) u1) (leads (SubtypeIndication × Option Initial) (λ z. z) (indication_by x) ts (read_so v0 u0) h1 (within_below ts (read_so v0 u0) h2)) (
      goes (λ z. z) (closed symbol.Semicolon (read_then (read.initial_part_by x))) (λ m z1. got (v0, z1)) u0.now v1 u1 (read_so (v0, v1) u1) (closes (λ z. z) (read_then (read.initial_part_by x)) symbol.Semicolon u0.now p1 (read_so v1 u1) (leads (SubtypeIndication × Option Initial) (λ z. z) (read.initial_part_by x) u0.now p1 h3 h4) h5) (
      got_reads (v0, v1) u1.now))

  -- what is read in two steps is read in one
  module _ (is : List Identifier) (k : Constancy) where
    abbrev of_type : (SubtypeIndication × Option Initial) → Reader DeclarationKind
    of_type y = got (declares.Object is k y.0 y.1)

    ended : (s : SubtypeIndication) (i : Option Initial) (q : Reading Token) → goes_on (λ _. got (declares.Object is k s i)) q ≡ goes_on of_type (goes_on (λ _. got (s, i)) q)
    ended s i (Got t us) = refl
    ended s i (Stuck us) = refl

    valued : (s : SubtypeIndication) (q : Reading (Option Initial))
        → goes_on (λ i. skip symbol.Semicolon (got (declares.Object is k s i))) q ≡ goes_on of_type (goes_on (λ i. skip symbol.Semicolon (got (s, i))) q)
    valued s (Got i us) = ended s i (expect symbol.Semicolon us)
    valued s (Stuck us) = refl

    typed : (m : ℕ) (q : Reading SubtypeIndication)
        → goes_on (λ s. read.initial_part_by x m >>= λ i. skip symbol.Semicolon (got (declares.Object is k s i))) q
        ≡ goes_on of_type (goes_on (λ s. read.initial_part_by x m >>= λ i. skip symbol.Semicolon (got (s, i))) q)
    typed m (Got s us) = valued s (read.initial_part_by x m us)
    typed m (Stuck us) = refl

    pub object_read : (ts : Tokens) (s : SubtypeIndication) (i : Option Initial) (us : Tokens) (js : List Identifier) → Reads (read.object_type_by x) ts (Got (s, i) us) → js ≡ is
        → Reads (read.object_at x is k) ts (Got (declares.Object js k s i) us)
    object_read ts s i us js h e = record { by = λ m n. typed m (indication_by x m ts) ∙ (ap (goes_on of_type) (h.by m n) ∙ ap (λ z. Got (declares.Object z k s i) us) (sym e)) }

    object_stuck : (ts rest : Tokens) → Reads (read.object_type_by x) ts (Stuck rest) → Reads (read.object_at x is k) ts (Stuck rest)
    object_stuck ts rest h = record { by = λ m n. typed m (indication_by x m ts) ∙ ap (goes_on of_type) (h.by m n) }

    pub object_fails : (ts : Tokens) (f : Fault) → Shows (Reads (read.object_type_by x) ts) (failed f) → Shows (Reads (read.object_at x is k) ts) (failed f)
    object_fails ts (Syntax rest) h = object_stuck ts rest.now h
    object_fails ts Memory h = tt

  pub named_rest_none : (is : List Identifier) → Reads (read.named_rest_at x is) [] (Stuck [])
  named_rest_none is = record { by = λ m h. refl }

  exception_on : (b : _) (is : List Identifier) (m : ℕ) (t : Token) (us : Tokens) → Is symbol.Exception t → opens x Exceptions ≡ b
      → read.named_rest x m is (t ∷ us) ≡ turned (provided b (Take (skip symbol.Semicolon (got (declares.Exception is))))) t us
  exception_on b is m t us i o = on_symbol Refuse (read.named_turn x m is) symbol.Exception t us i ∙ ap (λ z. turned (provided z (Take (skip symbol.Semicolon (got (declares.Exception is))))) t us) o

  pub exception_closed : (is : List Identifier) (t : Token) (us rest : Tokens) → Is symbol.Exception t → opens x Exceptions ≡ false → rest ≡ t ∷ us
      → Reads (read.named_rest_at x is) (t ∷ us) (Stuck rest)
  exception_closed is t us rest i o e = record { by = λ m h. exception_on false is m t us i o ∙ ap Stuck (sym e) }

  pub exception_read : (is : List Identifier) (t : Token) (us : Tokens) (q : Reading DeclarationKind) → Is symbol.Exception t → opens x Exceptions ≡ true → Reads (λ m. skip symbol.Semicolon (got (declares.Exception is))) us q
      → Reads (read.named_rest_at x is) (t ∷ us) q
  exception_read is t us q i o h = record { by = λ m n. exception_on true is m t us i o ∙ h.by m (omega arith) }

  pub constant_read : (is : List Identifier) (t : Token) (us : Tokens) (q : Reading DeclarationKind) → Is symbol.Constant t → Reads (read.object_at x is constancy.Constant) us q
      → Reads (read.named_rest_at x is) (t ∷ us) q
  constant_read is t us q i h = record { by = λ m n. on_symbol Refuse (read.named_turn x m is) symbol.Constant t us i ∙ h.by m (omega arith) }

  variable_on : (is : List Identifier) (m : ℕ) (s : Symbol) (t : Token) → (s ≡ symbol.Exception → ⊥) → (s ≡ symbol.Constant → ⊥)
      → read.named_turn x m is s t ≡ Look (read.object_by x m is constancy.Variable)
  variable_on is m symbol.Exception t a b = absurd (a refl)
  variable_on is m symbol.Constant t a b = absurd (b refl)
  variable_on is m _ t a b = refl

  pub variable_read : (is : List Identifier) (t : Token) (us : Tokens) (q : Reading DeclarationKind) → (symbol_of t.lexeme ≡ symbol.Exception → ⊥) → (symbol_of t.lexeme ≡ symbol.Constant → ⊥)
      → Reads (read.object_at x is constancy.Variable) (t ∷ us) q
      → Reads (read.named_rest_at x is) (t ∷ us) q
  variable_read is t us q a b h = record { by = λ m n. ap (λ z. turned z t us) (variable_on is m (symbol_of t.lexeme) t a b) ∙ h.by m n }

  pub named_fails_first : (ts : Tokens) {C0 : Type 0} (p0 : Result (C0 × Bor Tokens) Fault) (f : Fault) (view0 : C0 → List Identifier)
      → ShowsAs view0 (Reads identifiers_by ts) p0 → Below ts p0 → Closes symbol.Colon p0 (failed f)
      → Shows (Reads (read.named_by x) ts) (failed f)
  named_fails_first ts p0 f view0 h1 h2 h3 =
      stops view0 (closed symbol.Colon (read_then identifiers_by)) (λ m z0. read.named_rest x m z0) ts f (closes view0 (read_then identifiers_by) symbol.Colon ts p0 (failed f) (leads (DeclarationKind) view0 identifiers_by ts p0 h1 (within_below ts p0 h2)) h3)

  pub named_read : (ts : Tokens) {C0 : Type 0} (p0 : Result (C0 × Bor Tokens) Fault) (v0 : C0) (u0 : Bor Tokens) (view0 : C0 → List Identifier) (q : Result (DeclarationKind × Bor Tokens) Fault)
      → ShowsAs view0 (Reads identifiers_by ts) p0 → Below ts p0 → Closes symbol.Colon p0 (read_so v0 u0) → Shows (Reads (λ m. read.named_rest x m (view0 v0)) u0.now) q
      → Shows (Reads (read.named_by x) ts) q
  named_read ts p0 v0 u0 view0 q h1 h2 h3 h4 =
      goes view0 (closed symbol.Colon (read_then identifiers_by)) (λ m z0. read.named_rest x m z0) ts v0 u0 q (closes view0 (read_then identifiers_by) symbol.Colon ts p0 (read_so v0 u0) (leads (DeclarationKind) view0 identifiers_by ts p0 h1 (within_below ts p0 h2)) h3) (
      h4)

  pub type_fails_first : (ts : Tokens) (p0 : Result (Identifier × Bor Tokens) Fault) (f : Fault)
      → TakesIdentifier ts p0 → Closes symbol.Is p0 (failed f)
      → Shows (Reads (read.type_by x) ts) (failed f)
  type_fails_first ts p0 f h1 h2 =
      stops (λ z. z) (closed symbol.Is name_then) (λ m z0. (definition_by x m >>= λ z1. skip symbol.Semicolon (got (declares.Type z0 z1)))) ts f (closes (λ z. z) name_then symbol.Is ts p0 (failed f) (named_leads (DeclarationKind) ts p0 h1) h2)

  pub type_fails_second : (ts : Tokens) (p0 : Result (Identifier × Bor Tokens) Fault) (v0 : Identifier) (u0 : Bor Tokens) (p1 : Result (TypeDefinition × Bor Tokens) Fault) (f : Fault)
      → TakesIdentifier ts p0 → Closes symbol.Is p0 (read_so v0 u0) → Shows (Reads (definition_by x) u0.now) p1 → Below u0.now p1 → Closes symbol.Semicolon p1 (failed f)
      → Shows (Reads (read.type_by x) ts) (failed f)
  type_fails_second ts p0 v0 u0 p1 f h1 h2 h3 h4 h5 =
      goes (λ z. z) (closed symbol.Is name_then) (λ m z0. (definition_by x m >>= λ z1. skip symbol.Semicolon (got (declares.Type z0 z1)))) ts v0 u0 (failed f) (closes (λ z. z) name_then symbol.Is ts p0 (read_so v0 u0) (named_leads (DeclarationKind) ts p0 h1) h2) (
      stops (λ z. z) (closed symbol.Semicolon (read_then (definition_by x))) (λ m z1. got (declares.Type v0 z1)) u0.now f (closes (λ z. z) (read_then (definition_by x)) symbol.Semicolon u0.now p1 (failed f) (leads (DeclarationKind) (λ z. z) (definition_by x) u0.now p1 h3 (within_below u0.now p1 h4)) h5))

  pub type_read : (ts : Tokens) (p0 : Result (Identifier × Bor Tokens) Fault) (v0 : Identifier) (u0 : Bor Tokens) (p1 : Result (TypeDefinition × Bor Tokens) Fault) (v1 : TypeDefinition) (u1 : Bor Tokens)
      → TakesIdentifier ts p0 → Closes symbol.Is p0 (read_so v0 u0) → Shows (Reads (definition_by x) u0.now) p1 → Below u0.now p1 → Closes symbol.Semicolon p1 (read_so v1 u1)
      → Reads (read.type_by x) ts (Got (declares.Type v0 v1) u1.now)
  type_read ts p0 v0 u0 p1 v1 u1 h1 h2 h3 h4 h5 =
      goes (λ z. z) (closed symbol.Is name_then) (λ m z0. (definition_by x m >>= λ z1. skip symbol.Semicolon (got (declares.Type z0 z1)))) ts v0 u0 (read_so (declares.Type v0 v1) u1) (closes (λ z. z) name_then symbol.Is ts p0 (read_so v0 u0) (named_leads (DeclarationKind) ts p0 h1) h2) (
      goes (λ z. z) (closed symbol.Semicolon (read_then (definition_by x))) (λ m z1. got (declares.Type v0 z1)) u0.now v1 u1 (read_so (declares.Type v0 v1) u1) (closes (λ z. z) (read_then (definition_by x)) symbol.Semicolon u0.now p1 (read_so v1 u1) (leads (DeclarationKind) (λ z. z) (definition_by x) u0.now p1 h3 (within_below u0.now p1 h4)) h5) (
      got_reads (declares.Type v0 v1) u1.now))

  pub subtype_fails_first : (ts : Tokens) (p0 : Result (Identifier × Bor Tokens) Fault) (f : Fault)
      → TakesIdentifier ts p0 → Closes symbol.Is p0 (failed f)
      → Shows (Reads (read.subtype_by x) ts) (failed f)
  subtype_fails_first ts p0 f h1 h2 =
      stops (λ z. z) (closed symbol.Is name_then) (λ m z0. (indication_by x m >>= λ z1. skip symbol.Semicolon (got (declares.Subtype z0 z1)))) ts f (closes (λ z. z) name_then symbol.Is ts p0 (failed f) (named_leads (DeclarationKind) ts p0 h1) h2)

  pub subtype_fails_second : (ts : Tokens) (p0 : Result (Identifier × Bor Tokens) Fault) (v0 : Identifier) (u0 : Bor Tokens) (p1 : Result (SubtypeIndication × Bor Tokens) Fault) (f : Fault)
      → TakesIdentifier ts p0 → Closes symbol.Is p0 (read_so v0 u0) → Shows (Reads (indication_by x) u0.now) p1 → Below u0.now p1 → Closes symbol.Semicolon p1 (failed f)
      → Shows (Reads (read.subtype_by x) ts) (failed f)
  subtype_fails_second ts p0 v0 u0 p1 f h1 h2 h3 h4 h5 =
      goes (λ z. z) (closed symbol.Is name_then) (λ m z0. (indication_by x m >>= λ z1. skip symbol.Semicolon (got (declares.Subtype z0 z1)))) ts v0 u0 (failed f) (closes (λ z. z) name_then symbol.Is ts p0 (read_so v0 u0) (named_leads (DeclarationKind) ts p0 h1) h2) (
      stops (λ z. z) (closed symbol.Semicolon (read_then (indication_by x))) (λ m z1. got (declares.Subtype v0 z1)) u0.now f (closes (λ z. z) (read_then (indication_by x)) symbol.Semicolon u0.now p1 (failed f) (leads (DeclarationKind) (λ z. z) (indication_by x) u0.now p1 h3 (within_below u0.now p1 h4)) h5))

  pub subtype_read : (ts : Tokens) (p0 : Result (Identifier × Bor Tokens) Fault) (v0 : Identifier) (u0 : Bor Tokens) (p1 : Result (SubtypeIndication × Bor Tokens) Fault) (v1 : SubtypeIndication) (u1 : Bor Tokens)
      → TakesIdentifier ts p0 → Closes symbol.Is p0 (read_so v0 u0) → Shows (Reads (indication_by x) u0.now) p1 → Below u0.now p1 → Closes symbol.Semicolon p1 (read_so v1 u1)
      → Reads (read.subtype_by x) ts (Got (declares.Subtype v0 v1) u1.now)
  subtype_read ts p0 v0 u0 p1 v1 u1 h1 h2 h3 h4 h5 =
      goes (λ z. z) (closed symbol.Is name_then) (λ m z0. (indication_by x m >>= λ z1. skip symbol.Semicolon (got (declares.Subtype z0 z1)))) ts v0 u0 (read_so (declares.Subtype v0 v1) u1) (closes (λ z. z) name_then symbol.Is ts p0 (read_so v0 u0) (named_leads (DeclarationKind) ts p0 h1) h2) (
      goes (λ z. z) (closed symbol.Semicolon (read_then (indication_by x))) (λ m z1. got (declares.Subtype v0 z1)) u0.now v1 u1 (read_so (declares.Subtype v0 v1) u1) (closes (λ z. z) (read_then (indication_by x)) symbol.Semicolon u0.now p1 (read_so v1 u1) (leads (DeclarationKind) (λ z. z) (indication_by x) u0.now p1 h3 (within_below u0.now p1 h4)) h5) (
      got_reads (declares.Subtype v0 v1) u1.now))

  pub kind_none : Reads (read.kind_by x) [] (Stuck [])
  kind_none = record { by = λ m h. refl }

  type_on : (b : _) (m : ℕ) (t : Token) (us : Tokens) → Is symbol.Type t → opens x Types ≡ b → read.kind_by x m (t ∷ us) ≡ turned (provided b (Take (read.type_by x m))) t us
  type_on b m t us i o = on_symbol Refuse (read.kind_turn x m) symbol.Type t us i ∙ ap (λ z. turned (provided z (Take (read.type_by x m))) t us) o

  subtype_on : (b : _) (m : ℕ) (t : Token) (us : Tokens) → Is symbol.Subtype t → opens x Types ≡ b → read.kind_by x m (t ∷ us) ≡ turned (provided b (Take (read.subtype_by x m))) t us
  subtype_on b m t us i o = on_symbol Refuse (read.kind_turn x m) symbol.Subtype t us i ∙ ap (λ z. turned (provided z (Take (read.subtype_by x m))) t us) o

  named_on : (b : _) (m : ℕ) (t : Token) (us : Tokens) → Is symbol.Identifier t → opens x Objects ≡ b → read.kind_by x m (t ∷ us) ≡ turned (provided b (Look (read.named_by x m))) t us
  named_on b m t us i o = on_symbol Refuse (read.kind_turn x m) symbol.Identifier t us i ∙ ap (λ z. turned (provided z (Look (read.named_by x m))) t us) o

  pub kind_type_closed : (t : Token) (us rest : Tokens) → Is symbol.Type t → opens x Types ≡ false → rest ≡ t ∷ us → Reads (read.kind_by x) (t ∷ us) (Stuck rest)
  kind_type_closed t us rest i o e = record { by = λ m h. type_on false m t us i o ∙ ap Stuck (sym e) }

  pub kind_type : (t : Token) (us : Tokens) (q : Reading DeclarationKind) → Is symbol.Type t → opens x Types ≡ true → Reads (read.type_by x) us q → Reads (read.kind_by x) (t ∷ us) q
  kind_type t us q i o h = record { by = λ m n. type_on true m t us i o ∙ h.by m (omega arith) }

  pub kind_subtype_closed : (t : Token) (us rest : Tokens) → Is symbol.Subtype t → opens x Types ≡ false → rest ≡ t ∷ us → Reads (read.kind_by x) (t ∷ us) (Stuck rest)
  kind_subtype_closed t us rest i o e = record { by = λ m h. subtype_on false m t us i o ∙ ap Stuck (sym e) }

  pub kind_subtype : (t : Token) (us : Tokens) (q : Reading DeclarationKind) → Is symbol.Subtype t → opens x Types ≡ true → Reads (read.subtype_by x) us q → Reads (read.kind_by x) (t ∷ us) q
  kind_subtype t us q i o h = record { by = λ m n. subtype_on true m t us i o ∙ h.by m (omega arith) }

  pub kind_named_closed : (t : Token) (us rest : Tokens) → Is symbol.Identifier t → opens x Objects ≡ false → rest ≡ t ∷ us → Reads (read.kind_by x) (t ∷ us) (Stuck rest)
  kind_named_closed t us rest i o e = record { by = λ m h. named_on false m t us i o ∙ ap Stuck (sym e) }

  pub kind_named : (t : Token) (us : Tokens) (q : Reading DeclarationKind) → Is symbol.Identifier t → opens x Objects ≡ true → Reads (read.named_by x) (t ∷ us) q
      → Reads (read.kind_by x) (t ∷ us) q
  kind_named t us q i o h = record { by = λ m n. named_on true m t us i o ∙ h.by m n }

  pub kind_pragma : (t : Token) (us rest : Tokens) (a : Pragma) → Is symbol.Pragma t → Reads (read.pragma_by x) (t ∷ us) (Got a rest)
      → Reads (read.kind_by x) (t ∷ us) (Got (declares.Pragma a) rest)
  kind_pragma t us rest a i h = record { by = λ m n. on_symbol Refuse (read.kind_turn x m) symbol.Pragma t us i ∙ got_then (λ z. declares.Pragma z) (h.by m n) }

  pub kind_pragma_fails : (t : Token) (us rest : Tokens) → Is symbol.Pragma t → Reads (read.pragma_by x) (t ∷ us) (Stuck rest) → Reads (read.kind_by x) (t ∷ us) (Stuck rest)
  kind_pragma_fails t us rest i h = record { by = λ m n. on_symbol Refuse (read.kind_turn x m) symbol.Pragma t us i ∙ ap (goes_on (λ z. got (declares.Pragma z))) (h.by m n) }

  other_kind : (m : ℕ) (s : Symbol) (t : Token) → (s ≡ symbol.Type → ⊥) → (s ≡ symbol.Subtype → ⊥) → (s ≡ symbol.Identifier → ⊥) → (s ≡ symbol.Pragma → ⊥) → read.kind_turn x m s t ≡ Refuse
  other_kind m symbol.Type t a b c d = absurd (a refl)
  other_kind m symbol.Subtype t a b c d = absurd (b refl)
  other_kind m symbol.Identifier t a b c d = absurd (c refl)
  other_kind m symbol.Pragma t a b c d = absurd (d refl)
  other_kind m _ t a b c d = refl

  pub kind_other : (t : Token) (us : Tokens) → (symbol_of t.lexeme ≡ symbol.Type → ⊥) → (symbol_of t.lexeme ≡ symbol.Subtype → ⊥) → (symbol_of t.lexeme ≡ symbol.Identifier → ⊥)
      → (symbol_of t.lexeme ≡ symbol.Pragma → ⊥)
      → Reads (read.kind_by x) (t ∷ us) (Stuck (t ∷ us))
  kind_other t us a b c d = record { by = λ m n. ap (λ z. turned z t us) (other_kind m (symbol_of t.lexeme) t a b c d) }

  pub declaration_none : Reads (read.declaration_by x) [] (Stuck [])
  declaration_none = record { by = λ m h. refl }

  pub declaration_read : (t : Token) (us rest : Tokens) (k : DeclarationKind) → Reads (read.kind_by x) (t ∷ us) (Got k rest)
      → Reads (read.declaration_by x) (t ∷ us) (Got (declared t.pos k) rest)
  declaration_read t us rest k h = record { by = λ m n. got_then (λ z. declared t.pos z) (h.by m n) }

  pub declaration_fails : (t : Token) (us rest : Tokens) → Reads (read.kind_by x) (t ∷ us) (Stuck rest) → Reads (read.declaration_by x) (t ∷ us) (Stuck rest)
  declaration_fails t us rest h = record { by = λ m n. ap (goes_on (λ z. got (declared t.pos z))) (h.by m n) }

  abbrev declaration_joins : List Declaration → ℕ → Reader (List Declaration)
  declaration_joins ds m = read.declaration_by x m >>= λ d. got (ds ++ d ∷ [])

  pub declarations_begin : (ts : Tokens) (q : Reading (List Declaration)) → More (read.declarations_turn x) ts [] q → Reads (read.declarations_by x) ts q
  declarations_begin ts q f = record { by = λ m h. f.by m (suc m) h (omega arith) }

  declaration_on : (m : ℕ) (b c : Bool) (ds : List Declaration) → b ≡ c → cond b (Look (declaration_joins ds m)) (Leave ds) ≡ cond c (Look (declaration_joins ds m)) (Leave ds)
  declaration_on m b c ds e = ap (λ z. cond z (Look (declaration_joins ds m)) (Leave ds)) e

  pub declarations_step : (ts rest : Tokens) (ds : List Declaration) (d : Declaration) → next_is read.begins_declaration ts ≡ true → Reads (read.declaration_by x) ts (Got d rest)
      → length rest < length ts → (q : Reading (List Declaration)) → More (read.declarations_turn x) rest (ds ++ d ∷ []) q
      → More (read.declarations_turn x) ts ds q
  declarations_step [] rest ds d b r l q f = absurd (false≢true b)
  declarations_step (t ∷ us) rest ds d b r l q f = more_look (read.declarations_turn x) ds (ds ++ d ∷ []) t us rest (declaration_joins ds) q (λ m. declaration_on m (read.begins_declaration (symbol_of t.lexeme)) true ds b) (λ m h. got_then (λ z. ds ++ z ∷ []) (r.by m h)) l f

  pub declarations_step_fail : (ts rest : Tokens) (ds : List Declaration) → next_is read.begins_declaration ts ≡ true → Reads (read.declaration_by x) ts (Stuck rest)
      → More (read.declarations_turn x) ts ds (Stuck rest)
  declarations_step_fail [] rest ds b r = absurd (false≢true b)
  declarations_step_fail (t ∷ us) rest ds b r = more_look_stuck (read.declarations_turn x) ds t us rest (declaration_joins ds) (λ m. declaration_on m (read.begins_declaration (symbol_of t.lexeme)) true ds b) (λ m h. ap (goes_on (λ z. got (ds ++ z ∷ []))) (r.by m h))

  pub declarations_end : (ts : Tokens) (ds : List Declaration) → next_is read.begins_declaration ts ≡ false → More (read.declarations_turn x) ts ds (Got ds ts)
  declarations_end [] ds b = more_end (read.declarations_turn x) ds
  declarations_end (t ∷ us) ds b = more_leave (read.declarations_turn x) ds t us (λ m. declaration_on m (read.begins_declaration (symbol_of t.lexeme)) false ds b)

pub ruleset initial_part_rules = (initial_part_none, initial_part_read, initial_part_fails)

pub ruleset named_rest_rules = (named_rest_none, exception_closed, exception_read, constant_read, variable_read)

pub ruleset kind_rules = (kind_none, kind_type_closed, kind_type, kind_subtype_closed, kind_subtype, kind_named_closed, kind_named, kind_pragma, kind_pragma_fails, kind_other)

pub ruleset declaration_rules = (declaration_none, declaration_read, declaration_fails)

pub ruleset declarations_rules = (declarations_begin, declarations_step, declarations_step_fail, declarations_end)
