-- Specifications, as the code reads them.
use Rattle.std.proofs.Common.{◌≡◌, ℕ, suc, ◌<◌, ◌≤◌, true, false, List, [], ◌∷◌, ◌++◌, length, Some, None, refl, ap, sym, ◌∙◌, subst, arith}
use Rattle.cov_base.specs.declared.position.Pos.{Pos}
use Rattle.ada_lexer.specs.declared.token.Token.{Token}
use Rattle.ada_syntax.specs.Tree.{Name}
use Rattle.ada_syntax.specs.declared.name.Identifier.{Identifier}
use Rattle.ada_syntax.specs.declared.unit.Mode.{Mode}
use Rattle.ada_syntax.specs.declared.unit.Mode.TheVariants as mode
use Rattle.ada_syntax.specs.declared.unit.Parameter.{Parameter}
use Rattle.ada_syntax.specs.declared.unit.Specification.{Specification}
use Rattle.expression_parser.specs.declared.symbol.Symbol.{Symbol}
use Rattle.expression_parser.specs.declared.symbol.Symbol.TheVariants as symbol
use Rattle.expression_parser.specs.declared.extent.Extent.{Extent}
use Rattle.expression_parser.specs.declared.extent.Extent.TheVariants.{Subprograms}
use Rattle.expression_parser.specs.Symbols.{symbol_of, Is, same}
use Rattle.expression_parser.specs.Extents.{opens}
use Rattle.expression_parser.specs.Reading.{Tokens, Reading, Reader, Got, Stuck, Refuse, Leave, Take, got, goes_on, ◌>>=◌, turned, on_token, provided, expect, skip, repeat}
use Rattle.expression_parser.specs.Shows.{Shows, ShowsAs, TakesIdentifier, after, Reads, More, Identified}
use Rattle.expression_parser.specs.Depth.{at_name}
use Rattle.declaration_parser.specs.Identifiers.{identifiers_by}
use Rattle.declaration_parser.specs.Specifications.{specified}
use Rattle.declaration_parser.specs.DeclarationReading as read
use Rattle.expression_parser.proofs.Comes.{got_bind, got_then, on_symbol}
use Rattle.expression_parser.proofs.Loops.{more_end, more_leave, more_take, more_take_stuck}
use Rattle.expression_parser.proofs.NameCode.{after_some, after_none}
use Rattle.std.specs.Prelude.{Result, Ok, Err}
use Rattle.std.specs.Borrow.{Bor}
use Rattle.expression_parser.specs.declared.fault.Fault.{Fault}
use Rattle.expression_parser.specs.declared.fault.Fault.TheVariants.{Syntax, Memory}
use Rattle.expression_parser.proofs.Faults.{failed}
use Rattle.declaration_parser.specs.Closing.{Closes}
use Rattle.declaration_parser.proofs.Closings.{read_so, Within, Below, within_below, leads, closes, stops, goes, named_leads, leads_got, now_goes, same_got, read_then, name_then, closed}
use Rattle.declaration_parser.proofs.Steps.{then_stuck, then_got_reads, named_reads, named_stuck, turn_taken, turn_refused, turn_left}

-- modes
pub after_shorter : (s : Symbol) (ts us : Tokens) → after s ts ≡ Some us → length us ≤ length ts
after_shorter s ts us a = let n = after_some s ts us a in omega (arith, ap length n.here)

pub mode_out : (ts us : Tokens) → after symbol.Out ts ≡ Some us → read.mode_by ts ≡ Got mode.Out us
mode_out ts us a = let n = after_some symbol.Out ts us a in ap read.mode_by n.here ∙ on_symbol (Leave mode.Default) read.mode_turn symbol.Out n.t us n.is

no_mode_turn : (s : Symbol) (t : Token) → same s symbol.Out ≡ false → same s symbol.In ≡ false → read.mode_turn s t ≡ Leave mode.Default
no_mode_turn symbol.Out t h k = cc
no_mode_turn symbol.In t h k = cc
no_mode_turn _ t h k = refl

pub mode_default : (ts : Tokens) → after symbol.Out ts ≡ None → after symbol.In ts ≡ None → read.mode_by ts ≡ Got mode.Default ts
mode_default [] a b = refl
mode_default (t ∷ us) a b = ap (λ z. turned z t us) (no_mode_turn (symbol_of t.lexeme) t (after_none symbol.Out t us a).is_not (after_none symbol.In t us b).is_not)

behind_in : (ts us : Tokens) → after symbol.In ts ≡ Some us → read.mode_by ts ≡ on_token (Leave mode.In) read.in_turn us
behind_in ts us a = let n = after_some symbol.In ts us a in ap read.mode_by n.here ∙ on_symbol (Leave mode.Default) read.mode_turn symbol.In n.t us n.is

pub mode_in_out : (ts us vs : Tokens) → after symbol.In ts ≡ Some us → after symbol.Out us ≡ Some vs → read.mode_by ts ≡ Got mode.InOut vs
mode_in_out ts us vs a b = let n = after_some symbol.Out us vs b in behind_in ts us a ∙ (ap (on_token (Leave mode.In) read.in_turn) n.here ∙ on_symbol (Leave mode.In) read.in_turn symbol.Out n.t vs n.is)

in_alone : (s : Symbol) (t : Token) → same s symbol.Out ≡ false → read.in_turn s t ≡ Leave mode.In
in_alone symbol.Out t h = cc
in_alone _ t h = refl

in_rest : (us : Tokens) → after symbol.Out us ≡ None → on_token (Leave mode.In) read.in_turn us ≡ Got mode.In us
in_rest [] b = refl
in_rest (t ∷ us) b = ap (λ z. turned z t us) (in_alone (symbol_of t.lexeme) t (after_none symbol.Out t us b).is_not)

pub mode_in : (ts us : Tokens) → after symbol.In ts ≡ Some us → after symbol.Out us ≡ None → read.mode_by ts ≡ Got mode.In us
mode_in ts us a b = behind_in ts us a ∙ in_rest us b

pub two_shorter : (ts us vs : Tokens) → after symbol.In ts ≡ Some us → after symbol.Out us ≡ Some vs → length vs ≤ length ts
two_shorter ts us vs a b = omega (arith, after_shorter symbol.In ts us a, after_shorter symbol.Out us vs b)

module _ (x : Extent) where
  pub parameter_fails_first : (ts : Tokens) {C0 : Type 0} (p0 : Result (C0 × Bor Tokens) Fault) (f : Fault) (view0 : C0 → List Identifier)
      → ShowsAs view0 (Reads identifiers_by ts) p0 → Below ts p0 → Closes symbol.Colon p0 (failed f)
      → Shows (Reads (read.parameter_by x) ts) (failed f)
  parameter_fails_first ts p0 f view0 h1 h2 h3 =
      stops view0 (closed symbol.Colon (read_then identifiers_by)) (λ m z0. (read.mode_by >>= λ z1. (at_name x m >>= λ z2. got (record { names = z0; mode = z1; mark = z2 })))) ts f (closes view0 (read_then identifiers_by) symbol.Colon ts p0 (failed f) (leads (Parameter) view0 identifiers_by ts p0 h1 (within_below ts p0 h2)) h3)

  pub parameter_fails_second : (ts : Tokens) {C0 : Type 0} (p0 : Result (C0 × Bor Tokens) Fault) (v0 : C0) (u0 : Bor Tokens) (view0 : C0 → List Identifier) (v1 : Mode) (u1 : Tokens) (f : Fault)
      → ShowsAs view0 (Reads identifiers_by ts) p0 → Below ts p0 → Closes symbol.Colon p0 (read_so v0 u0) → read.mode_by u0.now ≡ Got v1 u1 → length u1 ≤ length u0.now → Shows (Reads (at_name x) u1) (failed f)
      → Shows (Reads (read.parameter_by x) ts) (failed f)
  parameter_fails_second ts p0 v0 u0 view0 v1 u1 f h1 h2 h3 h4 h5 h6 =
      goes view0 (closed symbol.Colon (read_then identifiers_by)) (λ m z0. (read.mode_by >>= λ z1. (at_name x m >>= λ z2. got (record { names = z0; mode = z1; mark = z2 })))) ts v0 u0 (failed f) (closes view0 (read_then identifiers_by) symbol.Colon ts p0 (read_so v0 u0) (leads (Parameter) view0 identifiers_by ts p0 h1 (within_below ts p0 h2)) h3) (
      now_goes (read.mode_by) (λ m z1. (at_name x m >>= λ z2. got (record { names = (view0 v0); mode = z1; mark = z2 }))) u0.now u1 v1 (failed f) h4 h5 (
      stops (λ z. z) (read_then (at_name x)) (λ m z2. got (record { names = (view0 v0); mode = v1; mark = z2 })) u1 f (leads (Parameter) (λ z. z) (at_name x) u1 (failed f) h6 tt)))

  pub parameter_read : (ts : Tokens) {C0 : Type 0} (p0 : Result (C0 × Bor Tokens) Fault) (v0 : C0) (u0 : Bor Tokens) (view0 : C0 → List Identifier) (v1 : Mode) (u1 : Tokens) (v2 : Name) (u2 : Bor Tokens) (s0 : List Identifier)
      → ShowsAs view0 (Reads identifiers_by ts) p0 → Below ts p0 → Closes symbol.Colon p0 (read_so v0 u0) → read.mode_by u0.now ≡ Got v1 u1 → length u1 ≤ length u0.now → Shows (Reads (at_name x) u1) (read_so v2 u2) → Below u1 (read_so v2 u2) → s0 ≡ (view0 v0)
      → Reads (read.parameter_by x) ts (Got (record { names = s0; mode = v1; mark = v2 }) u2.now)
  parameter_read ts p0 v0 u0 view0 v1 u1 v2 u2 s0 h1 h2 h3 h4 h5 h6 h7 h8 =
      goes view0 (closed symbol.Colon (read_then identifiers_by)) (λ m z0. (read.mode_by >>= λ z1. (at_name x m >>= λ z2. got (record { names = z0; mode = z1; mark = z2 })))) ts v0 u0 (read_so (record { names = s0; mode = v1; mark = v2 }) u2) (closes view0 (read_then identifiers_by) symbol.Colon ts p0 (read_so v0 u0) (leads (Parameter) view0 identifiers_by ts p0 h1 (within_below ts p0 h2)) h3) (
      now_goes (read.mode_by) (λ m z1. (at_name x m >>= λ z2. got (record { names = (view0 v0); mode = z1; mark = z2 }))) u0.now u1 v1 (read_so (record { names = s0; mode = v1; mark = v2 }) u2) h4 h5 (
      goes (λ z. z) (read_then (at_name x)) (λ m z2. got (record { names = (view0 v0); mode = v1; mark = z2 })) u1 v2 u2 (read_so (record { names = s0; mode = v1; mark = v2 }) u2) (leads (Parameter) (λ z. z) (at_name x) u1 (read_so v2 u2) h6 (within_below u1 (read_so v2 u2) h7)) (
      same_got (record { names = (view0 v0); mode = v1; mark = v2 }) (record { names = s0; mode = v1; mark = v2 }) u2.now (ap (λ y. (record { names = y; mode = v1; mark = v2 })) h8))))

  abbrev parameter_joins : List Parameter → ℕ → Reader (List Parameter)
  parameter_joins ps m = read.parameter_by x m >>= λ p. got (ps ++ p ∷ [])

  pub parameters_begin : (ts rest : Tokens) (p : Parameter) → Reads (read.parameter_by x) ts (Got p rest) → length rest < length ts → (q : Reading (List Parameter))
      → More (read.parameters_turn x) rest (p ∷ []) q → Reads (read.parameters_by x) ts q
  parameters_begin ts rest p r l q f = record { by = λ m h. got_bind (λ z. repeat (read.parameters_turn x m) (suc m) (z ∷ [])) (r.by m h) (f.by m (suc m) (omega arith) (omega arith)) }

  pub parameters_fail : (ts rest : Tokens) → Reads (read.parameter_by x) ts (Stuck rest) → Reads (read.parameters_by x) ts (Stuck rest)
  parameters_fail ts rest r = then_stuck (read.parameter_by x) (λ m z. repeat (read.parameters_turn x m) (suc m) (z ∷ [])) ts rest r

  pub parameters_step : (ts us rest : Tokens) (ps : List Parameter) (p : Parameter) → after symbol.Semicolon ts ≡ Some us → Reads (read.parameter_by x) us (Got p rest)
      → length rest < length us → (q : Reading (List Parameter)) → More (read.parameters_turn x) rest (ps ++ p ∷ []) q
      → More (read.parameters_turn x) ts ps q
  parameters_step ts us rest ps p a r l q f =
      let n = after_some symbol.Semicolon ts us a in
      subst (λ z. More (read.parameters_turn x) z ps q) (sym n.here)
      (more_take (read.parameters_turn x) ps (ps ++ p ∷ []) n.t us rest (parameter_joins ps) q (λ m. ap (λ z. read.parameters_turn x m z n.t ps) n.is) (λ m h. got_then (λ z. ps ++ z ∷ []) (r.by m (omega arith))) (omega arith) f)

  pub parameters_step_fail : (ts us rest : Tokens) (ps : List Parameter) → after symbol.Semicolon ts ≡ Some us → Reads (read.parameter_by x) us (Stuck rest)
      → More (read.parameters_turn x) ts ps (Stuck rest)
  parameters_step_fail ts us rest ps a r =
      let n = after_some symbol.Semicolon ts us a in
      subst (λ z. More (read.parameters_turn x) z ps (Stuck rest)) (sym n.here)
      (more_take_stuck (read.parameters_turn x) ps n.t us rest (parameter_joins ps) (λ m. ap (λ z. read.parameters_turn x m z n.t ps) n.is) (λ m h. ap (goes_on (λ z. got (ps ++ z ∷ []))) (r.by m (omega arith))))

  semicolon_leaves : (m : ℕ) (s : Symbol) (t : Token) (ps : List Parameter) → same s symbol.Semicolon ≡ false → read.parameters_turn x m s t ps ≡ Leave ps
  semicolon_leaves m symbol.Semicolon t ps h = cc
  semicolon_leaves m _ t ps h = refl

  pub parameters_end : (ts : Tokens) (ps : List Parameter) → after symbol.Semicolon ts ≡ None → More (read.parameters_turn x) ts ps (Got ps ts)
  parameters_end [] ps a = more_end (read.parameters_turn x) ps
  parameters_end (t ∷ us) ps a = more_leave (read.parameters_turn x) ps t us (λ m. semicolon_leaves m (symbol_of t.lexeme) t ps (after_none symbol.Semicolon t us a).is_not)

  -- parameters in parentheses
  no_profile_turn : (m : ℕ) (s : Symbol) (t : Token) → same s symbol.LeftParenthesis ≡ false → read.profile_turn x m s t ≡ Leave []
  no_profile_turn m symbol.LeftParenthesis t h = cc
  no_profile_turn m _ t h = refl

  pub profile_none : (ts : Tokens) → after symbol.LeftParenthesis ts ≡ None → Reads (read.profile_by x) ts (Got [] ts)
  profile_none ts a = turn_left [] (read.profile_turn x) symbol.LeftParenthesis ts a no_profile_turn

  abbrev closed_list : ℕ → Reader (List Parameter)
  closed_list m = read.parameters_by x m >>= λ ps. skip symbol.RightParenthesis (got ps)

  profile_on : (b : _) (m : ℕ) (t : Token) → opens x Subprograms ≡ b → read.profile_turn x m symbol.LeftParenthesis t ≡ provided b (Take (closed_list m))
  profile_on b m t o = ap (λ z. provided z (Take (closed_list m))) o

  pub profile_closed : (ts us rest : Tokens) → after symbol.LeftParenthesis ts ≡ Some us → opens x Subprograms ≡ false → rest ≡ ts → Reads (read.profile_by x) ts (Stuck rest)
  profile_closed ts us rest a o e = turn_refused (Leave []) (read.profile_turn x) symbol.LeftParenthesis ts us rest a (λ m t. profile_on false m t o) e

  in_profile : (ts us : Tokens) (q : Reading (List Parameter)) → after symbol.LeftParenthesis ts ≡ Some us → opens x Subprograms ≡ true → Reads closed_list us q
      → Reads (read.profile_by x) ts q
  in_profile ts us q a o h = turn_taken (Leave []) (read.profile_turn x) symbol.LeftParenthesis ts us closed_list q a (λ m t. profile_on true m t o) h

  pub profile_shows : (ts us : Tokens) {C : Type 0} (p r : Result (C × Bor Tokens) Fault) (view : C → List Parameter) → after symbol.LeftParenthesis ts ≡ Some us → opens x Subprograms ≡ true
      → ShowsAs view (Reads (read.parameters_by x) us) p → Below us p → Closes symbol.RightParenthesis p r → ShowsAs view (Reads (read.profile_by x) ts) r
  profile_shows ts us p r view a o h l c =
      enclosed ts us r view a o (leads_got view (closed symbol.RightParenthesis (read_then (read.parameters_by x))) us r
      (closes view (read_then (read.parameters_by x)) symbol.RightParenthesis us p r (leads (List Parameter) view (read.parameters_by x) us p h (within_below us p l)) c))
    where
      enclosed : (ts us : Tokens) {C : Type 0} (r : Result (C × Bor Tokens) Fault) (view : C → List Parameter) → after symbol.LeftParenthesis ts ≡ Some us → opens x Subprograms ≡ true
          → ShowsAs view (Reads closed_list us) r → ShowsAs view (Reads (read.profile_by x) ts) r
      enclosed ts us (Ok y) view a o h = in_profile ts us (Got (view y.0) y.1.now) a o h
      enclosed ts us (Err (Syntax rest)) view a o h = in_profile ts us (Stuck rest.now) a o h
      enclosed ts us (Err Memory) view a o h = tt

  pub procedure_read : (p : Pos) (ts us rest : Tokens) (i : Identifier) (ps : List Parameter) → Identified ts us i → Reads (read.profile_by x) us (Got ps rest)
      → Reads (read.procedure_at x p) ts (Got (specified p i ps None) rest)
  procedure_read p ts us rest i ps h1 h2 =
      named_reads (λ m i. read.profile_by x m >>= λ ps. got (specified p i ps None)) ts us i (Got (specified p i ps None) rest) h1
      (then_got_reads (read.profile_by x) (λ ps. specified p i ps None) us rest ps h2)

  pub procedure_fails_first : (p : Pos) (ts rest : Tokens) → expect symbol.Identifier ts ≡ Stuck rest → Reads (read.procedure_at x p) ts (Stuck rest)
  procedure_fails_first p ts rest h1 = named_stuck (λ m i. read.profile_by x m >>= λ ps. got (specified p i ps None)) ts rest h1

  pub procedure_fails_second : (p : Pos) (ts us rest : Tokens) (i : Identifier) → Identified ts us i → Reads (read.profile_by x) us (Stuck rest)
      → Reads (read.procedure_at x p) ts (Stuck rest)
  procedure_fails_second p ts us rest i h1 h2 =
      named_reads (λ m i. read.profile_by x m >>= λ ps. got (specified p i ps None)) ts us i (Stuck rest) h1 (then_stuck (read.profile_by x) (λ m ps. got (specified p i ps None)) us rest h2)

  pub function_fails_first : (p : Pos) (ts : Tokens) (f : Fault)
      → TakesIdentifier ts (failed f)
      → Shows (Reads (read.function_at x p) ts) (failed f)
  function_fails_first p ts f h1 =
      stops (λ z. z) name_then (λ m z0. (read.profile_by x m >>= λ z1. skip symbol.Return (at_name x m >>= λ z2. got (specified p z0 z1 (Some z2))))) ts f (named_leads (Specification) ts (failed f) h1)

  pub function_fails_second : (p : Pos) (ts : Tokens) (v0 : Identifier) (u0 : Bor Tokens) {C1 : Type 0} (p1 : Result (C1 × Bor Tokens) Fault) (f : Fault) (view1 : C1 → List Parameter)
      → TakesIdentifier ts (read_so v0 u0) → ShowsAs view1 (Reads (read.profile_by x) u0.now) p1 → Within u0.now p1 → Closes symbol.Return p1 (failed f)
      → Shows (Reads (read.function_at x p) ts) (failed f)
  function_fails_second p ts v0 u0 p1 f view1 h1 h2 h3 h4 =
      goes (λ z. z) name_then (λ m z0. (read.profile_by x m >>= λ z1. skip symbol.Return (at_name x m >>= λ z2. got (specified p z0 z1 (Some z2))))) ts v0 u0 (failed f) (named_leads (Specification) ts (read_so v0 u0) h1) (
      stops view1 (closed symbol.Return (read_then (read.profile_by x))) (λ m z1. (at_name x m >>= λ z2. got (specified p v0 z1 (Some z2)))) u0.now f (closes view1 (read_then (read.profile_by x)) symbol.Return u0.now p1 (failed f) (leads (Specification) view1 (read.profile_by x) u0.now p1 h2 h3) h4))

  pub function_fails_third : (p : Pos) (ts : Tokens) (v0 : Identifier) (u0 : Bor Tokens) {C1 : Type 0} (p1 : Result (C1 × Bor Tokens) Fault) (v1 : C1) (u1 : Bor Tokens) (view1 : C1 → List Parameter) (f : Fault)
      → TakesIdentifier ts (read_so v0 u0) → ShowsAs view1 (Reads (read.profile_by x) u0.now) p1 → Within u0.now p1 → Closes symbol.Return p1 (read_so v1 u1) → Shows (Reads (at_name x) u1.now) (failed f)
      → Shows (Reads (read.function_at x p) ts) (failed f)
  function_fails_third p ts v0 u0 p1 v1 u1 view1 f h1 h2 h3 h4 h5 =
      goes (λ z. z) name_then (λ m z0. (read.profile_by x m >>= λ z1. skip symbol.Return (at_name x m >>= λ z2. got (specified p z0 z1 (Some z2))))) ts v0 u0 (failed f) (named_leads (Specification) ts (read_so v0 u0) h1) (
      goes view1 (closed symbol.Return (read_then (read.profile_by x))) (λ m z1. (at_name x m >>= λ z2. got (specified p v0 z1 (Some z2)))) u0.now v1 u1 (failed f) (closes view1 (read_then (read.profile_by x)) symbol.Return u0.now p1 (read_so v1 u1) (leads (Specification) view1 (read.profile_by x) u0.now p1 h2 h3) h4) (
      stops (λ z. z) (read_then (at_name x)) (λ m z2. got (specified p v0 (view1 v1) (Some z2))) u1.now f (leads (Specification) (λ z. z) (at_name x) u1.now (failed f) h5 tt)))

  pub function_read : (p : Pos) (ts : Tokens) (v0 : Identifier) (u0 : Bor Tokens) {C1 : Type 0} (p1 : Result (C1 × Bor Tokens) Fault) (v1 : C1) (u1 : Bor Tokens) (view1 : C1 → List Parameter) (v2 : Name) (u2 : Bor Tokens) (s1 : List Parameter)
      → TakesIdentifier ts (read_so v0 u0) → ShowsAs view1 (Reads (read.profile_by x) u0.now) p1 → Within u0.now p1 → Closes symbol.Return p1 (read_so v1 u1) → Shows (Reads (at_name x) u1.now) (read_so v2 u2) → Below u1.now (read_so v2 u2) → s1 ≡ (view1 v1)
      → Reads (read.function_at x p) ts (Got (specified p v0 s1 (Some v2)) u2.now)
  function_read p ts v0 u0 p1 v1 u1 view1 v2 u2 s1 h1 h2 h3 h4 h5 h6 h7 =
      goes (λ z. z) name_then (λ m z0. (read.profile_by x m >>= λ z1. skip symbol.Return (at_name x m >>= λ z2. got (specified p z0 z1 (Some z2))))) ts v0 u0 (read_so (specified p v0 s1 (Some v2)) u2) (named_leads (Specification) ts (read_so v0 u0) h1) (
      goes view1 (closed symbol.Return (read_then (read.profile_by x))) (λ m z1. (at_name x m >>= λ z2. got (specified p v0 z1 (Some z2)))) u0.now v1 u1 (read_so (specified p v0 s1 (Some v2)) u2) (closes view1 (read_then (read.profile_by x)) symbol.Return u0.now p1 (read_so v1 u1) (leads (Specification) view1 (read.profile_by x) u0.now p1 h2 h3) h4) (
      goes (λ z. z) (read_then (at_name x)) (λ m z2. got (specified p v0 (view1 v1) (Some z2))) u1.now v2 u2 (read_so (specified p v0 s1 (Some v2)) u2) (leads (Specification) (λ z. z) (at_name x) u1.now (read_so v2 u2) h5 (within_below u1.now (read_so v2 u2) h6)) (
      same_got (specified p v0 (view1 v1) (Some v2)) (specified p v0 s1 (Some v2)) u2.now (ap (λ y. (specified p v0 y (Some v2))) h7))))

  pub specification_none : Reads (read.specification_by x) [] (Stuck [])
  specification_none = record { by = λ m h. refl }

  pub specification_procedure : (t : Token) (us : Tokens) (q : Reading Specification) → Is symbol.Procedure t → Reads (read.procedure_at x t.pos) us q
      → Reads (read.specification_by x) (t ∷ us) q
  specification_procedure t us q i h = record { by = λ m n. on_symbol Refuse (read.specification_turn x m) symbol.Procedure t us i ∙ h.by m (omega arith) }

  function_on : (b : _) (m : ℕ) (t : Token) (us : Tokens) → Is symbol.Function t → opens x Subprograms ≡ b
      → read.specification_by x m (t ∷ us) ≡ turned (provided b (Take (read.function_by x m t.pos))) t us
  function_on b m t us i o = on_symbol Refuse (read.specification_turn x m) symbol.Function t us i ∙ ap (λ z. turned (provided z (Take (read.function_by x m t.pos))) t us) o

  pub specification_closed : (t : Token) (us rest : Tokens) → Is symbol.Function t → opens x Subprograms ≡ false → rest ≡ t ∷ us → Reads (read.specification_by x) (t ∷ us) (Stuck rest)
  specification_closed t us rest i o e = record { by = λ m n. function_on false m t us i o ∙ ap Stuck (sym e) }

  pub specification_function : (t : Token) (us : Tokens) (q : Reading Specification) → Is symbol.Function t → opens x Subprograms ≡ true → Reads (read.function_at x t.pos) us q
      → Reads (read.specification_by x) (t ∷ us) q
  specification_function t us q i o h = record { by = λ m n. function_on true m t us i o ∙ h.by m (omega arith) }

  other_specification : (m : ℕ) (s : Symbol) (t : Token) → (s ≡ symbol.Procedure → ⊥) → (s ≡ symbol.Function → ⊥) → read.specification_turn x m s t ≡ Refuse
  other_specification m symbol.Procedure t a b = absurd (a refl)
  other_specification m symbol.Function t a b = absurd (b refl)
  other_specification m _ t a b = refl

  pub specification_other : (t : Token) (us : Tokens) → (symbol_of t.lexeme ≡ symbol.Procedure → ⊥) → (symbol_of t.lexeme ≡ symbol.Function → ⊥)
      → Reads (read.specification_by x) (t ∷ us) (Stuck (t ∷ us))
  specification_other t us a b = record { by = λ m n. ap (λ z. turned z t us) (other_specification m (symbol_of t.lexeme) t a b) }

pub ruleset mode_rules = (mode_out, mode_default, mode_in_out, mode_in, after_shorter, two_shorter)

pub ruleset parameters_rules = (parameters_begin, parameters_fail, parameters_step, parameters_step_fail, parameters_end)

pub ruleset procedure_rules = (procedure_read, procedure_fails_first, procedure_fails_second)

pub ruleset specification_rules = (specification_none, specification_procedure, specification_closed, specification_function, specification_other)

pub ruleset profile_rules = (profile_none, profile_closed)
