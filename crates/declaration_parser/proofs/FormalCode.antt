-- Formal parameters of generic packages, as the code reads them.
use Rattle.std.proofs.Common.{◌≡◌, ℕ, suc, ◌<◌, ◌≤◌, Bool, true, false, cond, List, [], ◌∷◌, ◌++◌, length, Some, None, refl, ap, sym, ◌∙◌, arith}
use Rattle.std.proofs.lemmas.Bool.{false≢true}
use Rattle.ada_lexer.specs.declared.token.Token.{Token}
use Rattle.ada_syntax.specs.Tree.{Name}
use Rattle.ada_syntax.specs.declared.name.Identifier.{Identifier}
use Rattle.ada_syntax.specs.declared.unit.Mode.{Mode}
use Rattle.ada_syntax.specs.declared.unit.Mode.TheVariants as mode
use Rattle.ada_syntax.specs.declared.unit.Specification.{Specification}
use Rattle.ada_syntax.specs.declared.unit.Formal.{Formal}
use Rattle.ada_syntax.specs.declared.unit.FormalKind.{FormalKind}
use Rattle.ada_syntax.specs.declared.unit.FormalKind.TheVariants as formal
use Rattle.expression_parser.specs.declared.symbol.Symbol.{Symbol}
use Rattle.expression_parser.specs.declared.symbol.Symbol.TheVariants as symbol
use Rattle.expression_parser.specs.declared.extent.Extent.{Extent}
use Rattle.expression_parser.specs.declared.extent.Extent.TheVariants.{Generics}
use Rattle.expression_parser.specs.Symbols.{symbol_of, Is, same}
use Rattle.expression_parser.specs.Extents.{opens}
use Rattle.expression_parser.specs.Reading.{Tokens, Reading, Reader, Got, Stuck, Refuse, Leave, Look, got, goes_on, ◌>>=◌, turned, accept, skip}
use Rattle.expression_parser.specs.Shows.{Shows, TakesIdentifier, after, Reads, More, next_is}
use Rattle.expression_parser.specs.Depth.{at_name}
use Rattle.declaration_parser.specs.Formals.{formed}
use Rattle.declaration_parser.specs.DeclarationReading.{specification_by}
use Rattle.declaration_parser.specs.FormalReading as read
use Rattle.expression_parser.proofs.Comes.{got_then, on_symbol}
use Rattle.expression_parser.proofs.Loops.{more_end, more_leave, more_look, more_look_stuck}
use Rattle.expression_parser.proofs.NameCode.{after_some, after_none}
use Rattle.std.specs.Prelude.{Result}
use Rattle.std.specs.Borrow.{Bor}
use Rattle.expression_parser.specs.declared.fault.Fault.{Fault}
use Rattle.expression_parser.proofs.Faults.{failed}
use Rattle.declaration_parser.specs.Closing.{Closes}
use Rattle.declaration_parser.proofs.Closings.{read_so, Below, within_below, closed_below, Leads, leads, leads_got, closes, stops, goes, named_leads, given_leads, now_goes, read_then, name_then, closed, given, shows_as_well, before_words, words_below}
use Rattle.declaration_parser.proofs.Pairs.{as_well}
use Rattle.declaration_parser.proofs.ExpressionParts.{gated_open, gated_closed}
use Rattle.declaration_parser.proofs.Steps.{got_reads, turn_taken}

-- modes
pub after_shorter : (s : Symbol) (ts us : Tokens) → after s ts ≡ Some us → length us ≤ length ts
after_shorter s ts us a = let n = after_some s ts us a in omega (arith, ap length n.here)

pub formal_in : (ts us : Tokens) → after symbol.In ts ≡ Some us → read.formal_mode_by ts ≡ Got mode.In us
formal_in ts us a = let n = after_some symbol.In ts us a in ap read.formal_mode_by n.here ∙ on_symbol (Leave mode.Default) read.formal_mode_turn symbol.In n.t us n.is

no_mode_turn : (s : Symbol) (t : Token) → same s symbol.In ≡ false → read.formal_mode_turn s t ≡ Leave mode.Default
no_mode_turn symbol.In t h = cc
no_mode_turn _ t h = refl

pub formal_default : (ts : Tokens) → after symbol.In ts ≡ None → read.formal_mode_by ts ≡ Got mode.Default ts
formal_default [] a = refl
formal_default (t ∷ us) a = ap (λ z. turned z t us) (no_mode_turn (symbol_of t.lexeme) t (after_none symbol.In t us a).is_not)

-- types
abbrev integer_end : Identifier → Reader FormalKind
integer_end i = skip symbol.Box (skip symbol.Semicolon (got (formal.IntegerType i)))

abbrev discrete_end : Identifier → Reader FormalKind
discrete_end i = skip symbol.Box (skip symbol.RightParenthesis (skip symbol.Semicolon (got (formal.DiscreteType i))))

in_range : (i : Identifier) (ts us : Tokens) (q : Reading FormalKind) → after symbol.Range ts ≡ Some us → Reads (λ m. integer_end i) us q → Reads (λ m. read.formal_type_rest i) ts q
in_range i ts us q a h = turn_taken Refuse (λ m. read.formal_type_turn i) symbol.Range ts us (λ m. integer_end i) q a (λ m t. refl) h

pub type_range : (i : Identifier) (ts : Tokens) (us : Bor Tokens) (p r : Result (FormalKind × Bor Tokens) Fault) → after symbol.Range ts ≡ Some us.now
    → Closes symbol.Box (read_so (formal.IntegerType i) us) p → Closes symbol.Semicolon p r → Shows (Reads (λ m. read.formal_type_rest i) ts) r
type_range i ts us p r a b c =
    as_well (Reads (λ m. integer_end i) us.now) (Reads (λ m. read.formal_type_rest i) ts) r (before_words (formal.IntegerType i) us symbol.Box symbol.Semicolon p r b c) (λ q f. in_range i ts us.now q a f)

-- where no range stands next, the parenthesis has to
in_parentheses : (i : Identifier) (s : Symbol) (t : Token) (us : Tokens) → same s symbol.Range ≡ false
    → turned (read.formal_type_turn i s t) t us ≡ goes_on (λ _. discrete_end i) (turned (accept (same s symbol.LeftParenthesis) t) t us)
in_parentheses i symbol.Range t us h = absurd (false≢true (sym h))
in_parentheses i symbol.LeftParenthesis t us h = refl
in_parentheses i _ t us h = refl

discrete_next : (i : Identifier) (ts : Tokens) → after symbol.Range ts ≡ None → read.formal_type_rest i ts ≡ skip symbol.LeftParenthesis (discrete_end i) ts
discrete_next i [] a = refl
discrete_next i (t ∷ us) a = in_parentheses i (symbol_of t.lexeme) t us (after_none symbol.Range t us a).is_not

module _ (i : Identifier) (ts : Bor Tokens) (p1 p2 p3 r : Result (FormalKind × Bor Tokens) Fault) where
  abbrev discrete : FormalKind
  discrete = formal.DiscreteType i

  discrete_leads : Closes symbol.LeftParenthesis (read_so discrete ts) p1 → Closes symbol.Box p1 p2 → Closes symbol.RightParenthesis p2 p3 → Closes symbol.Semicolon p3 r
      → Leads {B = FormalKind} (λ z. z) (closed symbol.Semicolon (closed symbol.RightParenthesis (closed symbol.Box (closed symbol.LeftParenthesis (given discrete))))) ts.now r
  discrete_leads a b c d =
      closes (λ z. z) (closed symbol.RightParenthesis (closed symbol.Box (closed symbol.LeftParenthesis (given discrete)))) symbol.Semicolon ts.now p3 r
      (closes (λ z. z) (closed symbol.Box (closed symbol.LeftParenthesis (given discrete))) symbol.RightParenthesis ts.now p2 p3
      (closes (λ z. z) (closed symbol.LeftParenthesis (given discrete)) symbol.Box ts.now p1 p2
      (closes (λ z. z) (given discrete) symbol.LeftParenthesis ts.now (read_so discrete ts) p1 (given_leads FormalKind discrete ts) a) b) c) d

  pub type_discrete : after symbol.Range ts.now ≡ None → Closes symbol.LeftParenthesis (read_so discrete ts) p1 → Closes symbol.Box p1 p2
      → Closes symbol.RightParenthesis p2 p3 → Closes symbol.Semicolon p3 r
      → Shows (Reads (λ m. read.formal_type_rest i) ts.now) r
  type_discrete n a b c d =
      shows_as_well (λ m. skip symbol.LeftParenthesis (discrete_end i)) (λ m. read.formal_type_rest i) ts.now r (λ m. discrete_next i ts.now n)
      (leads_got (λ z. z) (closed symbol.Semicolon (closed symbol.RightParenthesis (closed symbol.Box (closed symbol.LeftParenthesis (given discrete))))) ts.now r (discrete_leads a b c d))

  pub discrete_below : Closes symbol.LeftParenthesis (read_so discrete ts) p1 → Closes symbol.Box p1 p2 → Closes symbol.RightParenthesis p2 p3 → Closes symbol.Semicolon p3 r → Below ts.now r
  discrete_below a b c d =
      closed_below symbol.Semicolon ts.now p3 r (within_below ts.now p3 (closed_below symbol.RightParenthesis ts.now p2 p3 (within_below ts.now p2
      (words_below discrete ts symbol.LeftParenthesis symbol.Box p1 p2 a b)) c)) d

pub type_fails_first : (ts : Tokens) (p0 : Result (Identifier × Bor Tokens) Fault) (f : Fault)
    → TakesIdentifier ts p0 → Closes symbol.Is p0 (failed f)
    → Shows (Reads (read.formal_type_by) ts) (failed f)
type_fails_first ts p0 f h1 h2 =
    stops (λ z. z) (closed symbol.Is name_then) (λ m z0. read.formal_type_rest z0) ts f (closes (λ z. z) name_then symbol.Is ts p0 (failed f) (named_leads (FormalKind) ts p0 h1) h2)

pub type_read : (ts : Tokens) (p0 : Result (Identifier × Bor Tokens) Fault) (v0 : Identifier) (u0 : Bor Tokens) (q : Result (FormalKind × Bor Tokens) Fault)
    → TakesIdentifier ts p0 → Closes symbol.Is p0 (read_so v0 u0) → Shows (Reads (λ m. read.formal_type_rest v0) u0.now) q
    → Shows (Reads (read.formal_type_by) ts) q
type_read ts p0 v0 u0 q h1 h2 h3 =
    goes (λ z. z) (closed symbol.Is name_then) (λ m z0. read.formal_type_rest z0) ts v0 u0 q (closes (λ z. z) name_then symbol.Is ts p0 (read_so v0 u0) (named_leads (FormalKind) ts p0 h1) h2) (
    h3)

module _ (x : Extent) where
  pub object_fails_first : (ts : Tokens) (p0 : Result (Identifier × Bor Tokens) Fault) (f : Fault)
      → TakesIdentifier ts p0 → Closes symbol.Colon p0 (failed f)
      → Shows (Reads (read.formal_object_by x) ts) (failed f)
  object_fails_first ts p0 f h1 h2 =
      stops (λ z. z) (closed symbol.Colon name_then) (λ m z0. (read.formal_mode_by >>= λ z1. (at_name x m >>= λ z2. skip symbol.Semicolon (got (formal.Object z0 z1 z2))))) ts f (closes (λ z. z) name_then symbol.Colon ts p0 (failed f) (named_leads (FormalKind) ts p0 h1) h2)

  pub object_fails_second : (ts : Tokens) (p0 : Result (Identifier × Bor Tokens) Fault) (v0 : Identifier) (u0 : Bor Tokens) (v1 : Mode) (u1 : Tokens) (p2 : Result (Name × Bor Tokens) Fault) (f : Fault)
      → TakesIdentifier ts p0 → Closes symbol.Colon p0 (read_so v0 u0) → read.formal_mode_by u0.now ≡ Got v1 u1 → length u1 ≤ length u0.now → Shows (Reads (at_name x) u1) p2 → Below u1 p2 → Closes symbol.Semicolon p2 (failed f)
      → Shows (Reads (read.formal_object_by x) ts) (failed f)
  object_fails_second ts p0 v0 u0 v1 u1 p2 f h1 h2 h3 h4 h5 h6 h7 =
      goes (λ z. z) (closed symbol.Colon name_then) (λ m z0. (read.formal_mode_by >>= λ z1. (at_name x m >>= λ z2. skip symbol.Semicolon (got (formal.Object z0 z1 z2))))) ts v0 u0 (failed f) (closes (λ z. z) name_then symbol.Colon ts p0 (read_so v0 u0) (named_leads (FormalKind) ts p0 h1) h2) (
      now_goes (read.formal_mode_by) (λ m z1. (at_name x m >>= λ z2. skip symbol.Semicolon (got (formal.Object v0 z1 z2)))) u0.now u1 v1 (failed f) h3 h4 (
      stops (λ z. z) (closed symbol.Semicolon (read_then (at_name x))) (λ m z2. got (formal.Object v0 v1 z2)) u1 f (closes (λ z. z) (read_then (at_name x)) symbol.Semicolon u1 p2 (failed f) (leads (FormalKind) (λ z. z) (at_name x) u1 p2 h5 (within_below u1 p2 h6)) h7)))

  pub object_read : (ts : Tokens) (p0 : Result (Identifier × Bor Tokens) Fault) (v0 : Identifier) (u0 : Bor Tokens) (v1 : Mode) (u1 : Tokens) (p2 : Result (Name × Bor Tokens) Fault) (v2 : Name) (u2 : Bor Tokens)
      → TakesIdentifier ts p0 → Closes symbol.Colon p0 (read_so v0 u0) → read.formal_mode_by u0.now ≡ Got v1 u1 → length u1 ≤ length u0.now → Shows (Reads (at_name x) u1) p2 → Below u1 p2 → Closes symbol.Semicolon p2 (read_so v2 u2)
      → Reads (read.formal_object_by x) ts (Got (formal.Object v0 v1 v2) u2.now)
  object_read ts p0 v0 u0 v1 u1 p2 v2 u2 h1 h2 h3 h4 h5 h6 h7 =
      goes (λ z. z) (closed symbol.Colon name_then) (λ m z0. (read.formal_mode_by >>= λ z1. (at_name x m >>= λ z2. skip symbol.Semicolon (got (formal.Object z0 z1 z2))))) ts v0 u0 (read_so (formal.Object v0 v1 v2) u2) (closes (λ z. z) name_then symbol.Colon ts p0 (read_so v0 u0) (named_leads (FormalKind) ts p0 h1) h2) (
      now_goes (read.formal_mode_by) (λ m z1. (at_name x m >>= λ z2. skip symbol.Semicolon (got (formal.Object v0 z1 z2)))) u0.now u1 v1 (read_so (formal.Object v0 v1 v2) u2) h3 h4 (
      goes (λ z. z) (closed symbol.Semicolon (read_then (at_name x))) (λ m z2. got (formal.Object v0 v1 z2)) u1 v2 u2 (read_so (formal.Object v0 v1 v2) u2) (closes (λ z. z) (read_then (at_name x)) symbol.Semicolon u1 p2 (read_so v2 u2) (leads (FormalKind) (λ z. z) (at_name x) u1 p2 h5 (within_below u1 p2 h6)) h7) (
      got_reads (formal.Object v0 v1 v2) u2.now)))

  pub subprogram_fails_first : (ts : Tokens) (p0 : Result (Specification × Bor Tokens) Fault) (f : Fault)
      → Shows (Reads (specification_by x) ts) p0 → Below ts p0 → Closes symbol.Semicolon p0 (failed f)
      → Shows (Reads (read.formal_subprogram_by x) ts) (failed f)
  subprogram_fails_first ts p0 f h1 h2 h3 =
      stops (λ z. z) (closed symbol.Semicolon (read_then (specification_by x))) (λ m z0. got (formal.Subprogram z0)) ts f (closes (λ z. z) (read_then (specification_by x)) symbol.Semicolon ts p0 (failed f) (leads (FormalKind) (λ z. z) (specification_by x) ts p0 h1 (within_below ts p0 h2)) h3)

  pub subprogram_read : (ts : Tokens) (p0 : Result (Specification × Bor Tokens) Fault) (v0 : Specification) (u0 : Bor Tokens)
      → Shows (Reads (specification_by x) ts) p0 → Below ts p0 → Closes symbol.Semicolon p0 (read_so v0 u0)
      → Reads (read.formal_subprogram_by x) ts (Got (formal.Subprogram v0) u0.now)
  subprogram_read ts p0 v0 u0 h1 h2 h3 =
      goes (λ z. z) (closed symbol.Semicolon (read_then (specification_by x))) (λ m z0. got (formal.Subprogram z0)) ts v0 u0 (read_so (formal.Subprogram v0) u0) (closes (λ z. z) (read_then (specification_by x)) symbol.Semicolon ts p0 (read_so v0 u0) (leads (FormalKind) (λ z. z) (specification_by x) ts p0 h1 (within_below ts p0 h2)) h3) (
      got_reads (formal.Subprogram v0) u0.now)

  pub form_none : Reads (read.formal_form x) [] (Stuck [])
  form_none = record { by = λ m n. refl }

  pub form_type : (t : Token) (us : Tokens) (q : Reading FormalKind) → Is symbol.Type t → Reads read.formal_type_by us q → Reads (read.formal_form x) (t ∷ us) q
  form_type t us q i h = record { by = λ m n. on_symbol Refuse (read.formal_kind_turn x m) symbol.Type t us i ∙ h.by m (omega arith) }

  pub form_object : (t : Token) (us : Tokens) (q : Reading FormalKind) → Is symbol.Identifier t → Reads (read.formal_object_by x) (t ∷ us) q → Reads (read.formal_form x) (t ∷ us) q
  form_object t us q i h = record { by = λ m n. on_symbol Refuse (read.formal_kind_turn x m) symbol.Identifier t us i ∙ h.by m n }

  pub form_subprogram : (t : Token) (us : Tokens) (q : Reading FormalKind) → Is symbol.With t → Reads (read.formal_subprogram_by x) us q → Reads (read.formal_form x) (t ∷ us) q
  form_subprogram t us q i h = record { by = λ m n. on_symbol Refuse (read.formal_kind_turn x m) symbol.With t us i ∙ h.by m (omega arith) }

  other_form : (m : ℕ) (s : Symbol) (t : Token) → (s ≡ symbol.Type → ⊥) → (s ≡ symbol.Identifier → ⊥) → (s ≡ symbol.With → ⊥) → read.formal_kind_turn x m s t ≡ Refuse
  other_form m symbol.Type t a b c = absurd (a refl)
  other_form m symbol.Identifier t a b c = absurd (b refl)
  other_form m symbol.With t a b c = absurd (c refl)
  other_form m _ t a b c = refl

  pub form_other : (t : Token) (us : Tokens) → (symbol_of t.lexeme ≡ symbol.Type → ⊥) → (symbol_of t.lexeme ≡ symbol.Identifier → ⊥) → (symbol_of t.lexeme ≡ symbol.With → ⊥)
      → Reads (read.formal_form x) (t ∷ us) (Stuck (t ∷ us))
  form_other t us a b c = record { by = λ m n. ap (λ z. turned z t us) (other_form m (symbol_of t.lexeme) t a b c) }

  pub kind_closed : (ts rest : Tokens) → opens x Generics ≡ false → rest ≡ ts → Reads (read.formal_kind_by x) ts (Stuck rest)
  kind_closed ts rest o e = record { by = λ m n. gated_closed (opens x Generics) (read.formal_form x m) ts o ∙ ap Stuck (sym e) }

  pub kind_open : (ts : Tokens) (q : Reading FormalKind) → opens x Generics ≡ true → Reads (read.formal_form x) ts q → Reads (read.formal_kind_by x) ts q
  kind_open ts q o h = record { by = λ m n. gated_open (opens x Generics) (read.formal_form x m) ts o ∙ h.by m n }

  pub formal_none : Reads (read.formal_by x) [] (Stuck [])
  formal_none = record { by = λ m h. refl }

  pub formal_read : (t : Token) (us rest : Tokens) (k : FormalKind) → Reads (read.formal_kind_by x) (t ∷ us) (Got k rest) → Reads (read.formal_by x) (t ∷ us) (Got (formed t.pos k) rest)
  formal_read t us rest k h = record { by = λ m n. got_then (λ z. formed t.pos z) (h.by m n) }

  pub formal_fails : (t : Token) (us rest : Tokens) → Reads (read.formal_kind_by x) (t ∷ us) (Stuck rest) → Reads (read.formal_by x) (t ∷ us) (Stuck rest)
  formal_fails t us rest h = record { by = λ m n. ap (goes_on (λ z. got (formed t.pos z))) (h.by m n) }

  abbrev formal_joins : List Formal → ℕ → Reader (List Formal)
  formal_joins fs m = read.formal_by x m >>= λ f. got (fs ++ f ∷ [])

  pub formals_begin : (ts : Tokens) (q : Reading (List Formal)) → More (read.formals_turn x) ts [] q → Reads (read.formals_by x) ts q
  formals_begin ts q f = record { by = λ m h. f.by m (suc m) h (omega arith) }

  formal_on : (m : ℕ) (b c : Bool) (fs : List Formal) → b ≡ c → cond b (Look (formal_joins fs m)) (Leave fs) ≡ cond c (Look (formal_joins fs m)) (Leave fs)
  formal_on m b c fs e = ap (λ z. cond z (Look (formal_joins fs m)) (Leave fs)) e

  pub formals_step : (ts rest : Tokens) (fs : List Formal) (f : Formal) → next_is read.begins_formal ts ≡ true → Reads (read.formal_by x) ts (Got f rest) → length rest < length ts
      → (q : Reading (List Formal)) → More (read.formals_turn x) rest (fs ++ f ∷ []) q
      → More (read.formals_turn x) ts fs q
  formals_step [] rest fs f b r l q g = absurd (false≢true b)
  formals_step (t ∷ us) rest fs f b r l q g = more_look (read.formals_turn x) fs (fs ++ f ∷ []) t us rest (formal_joins fs) q (λ m. formal_on m (read.begins_formal (symbol_of t.lexeme)) true fs b) (λ m h. got_then (λ z. fs ++ z ∷ []) (r.by m h)) l g

  pub formals_step_fail : (ts rest : Tokens) (fs : List Formal) → next_is read.begins_formal ts ≡ true → Reads (read.formal_by x) ts (Stuck rest)
      → More (read.formals_turn x) ts fs (Stuck rest)
  formals_step_fail [] rest fs b r = absurd (false≢true b)
  formals_step_fail (t ∷ us) rest fs b r = more_look_stuck (read.formals_turn x) fs t us rest (formal_joins fs) (λ m. formal_on m (read.begins_formal (symbol_of t.lexeme)) true fs b) (λ m h. ap (goes_on (λ z. got (fs ++ z ∷ []))) (r.by m h))

  pub formals_end : (ts : Tokens) (fs : List Formal) → next_is read.begins_formal ts ≡ false → More (read.formals_turn x) ts fs (Got fs ts)
  formals_end [] fs b = more_end (read.formals_turn x) fs
  formals_end (t ∷ us) fs b = more_leave (read.formals_turn x) fs t us (λ m. formal_on m (read.begins_formal (symbol_of t.lexeme)) false fs b)

pub ruleset mode_rules = (after_shorter, formal_in, formal_default)

pub ruleset form_rules = (form_none, form_type, form_object, form_subprogram, form_other)

pub ruleset kind_rules = (kind_closed, kind_open)

pub ruleset formal_rules = (formal_none, formal_read, formal_fails)

pub ruleset formals_rules = (formals_begin, formals_step, formals_step_fail, formals_end)
