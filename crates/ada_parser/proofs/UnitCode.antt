-- How library units and files are read, answer by answer.
use Rattle.std.proofs.Common.{◌≡◌, ℕ, suc, ◌<◌, ◌≤◌, true, false, List, [], ◌∷◌, ◌++◌, length, refl, ap, ◌∙◌, arith}
use Rattle.cov_base.specs.declared.position.Pos.{Pos}
use Rattle.ada_lexer.specs.declared.token.Token.{Token}
use Rattle.ada_syntax.specs.declared.unit.SubprogramBody.{SubprogramBody}
use Rattle.ada_syntax.specs.declared.unit.LibraryItem.{LibraryItem}
use Rattle.ada_syntax.specs.declared.unit.LibraryItem.TheVariants as item
use Rattle.ada_syntax.specs.declared.unit.WithClause.{WithClause}
use Rattle.ada_syntax.specs.declared.unit.Unit.{Unit as LibraryUnit}
use Rattle.expression_parser.specs.declared.symbol.Symbol.{Symbol}
use Rattle.expression_parser.specs.declared.symbol.Symbol.TheVariants as symbol
use Rattle.expression_parser.specs.declared.extent.Extent.{Extent}
use Rattle.expression_parser.specs.declared.extent.Extent.TheVariants.{Subprograms, Generics}
use Rattle.expression_parser.specs.Symbols.{symbol_of, Is}
use Rattle.expression_parser.specs.Extents.{opens}
use Rattle.expression_parser.specs.Reading.{Tokens, Reading, Reader, Got, Stuck, Turn, Refuse, Take, Look, got, goes_on, ◌>>=◌, provided, repeat}
use Rattle.expression_parser.specs.Shows.{Reads, More}
use Rattle.expression_parser.proofs.Comes.{got_bind, got_then}
use Rattle.expression_parser.proofs.Loops.{more_end, more_refuse, more_look, more_look_stuck}
use Rattle.ada_parser.proofs.Steps.{both, first_fails, done, takes, looks, refuses}
use Rattle.ada_parser.specs.UnitReading as read
use Rattle.ada_parser.specs.UnitDepth as at

module _ (x : Extent) where
  -- lib
  abbrev item_on : ℕ → Symbol → Token → Turn LibraryItem
  item_on = read.item_turn x

  abbrev as_item : ℕ → SubprogramBody → Reader LibraryItem
  as_item m b = got (item.Subprogram b)

  pub no_item : Reads (read.item_by x) [] (Stuck [])
  no_item = record { by = λ m h. refl }

  pub is_generic : (t : Token) (us : Tokens) (q : Reading LibraryItem) → Is symbol.Generic t → opens x Generics ≡ true → Reads (read.generic_by x) us q → Reads (read.item_by x) (t ∷ us) q
  is_generic t us q i o f = takes Refuse item_on t us (read.generic_by x) (λ m. ap (λ s. item_on m s t) i ∙ ap (λ b. provided b (Take (read.generic_by x m))) o) f

  pub generic_closed : (t : Token) (us : Tokens) → Is symbol.Generic t → opens x Generics ≡ false → Reads (read.item_by x) (t ∷ us) (Stuck (t ∷ us))
  generic_closed t us i o = refuses Refuse item_on t us (λ m. ap (λ s. item_on m s t) i ∙ ap (λ b. provided b (Take (read.generic_by x m))) o)

  pub is_package : (t : Token) (us : Tokens) (q : Reading LibraryItem) → Is symbol.Package t → opens x Subprograms ≡ true → Reads (read.package_by x) us q → Reads (read.item_by x) (t ∷ us) q
  is_package t us q i o f = takes Refuse item_on t us (read.package_by x) (λ m. ap (λ s. item_on m s t) i ∙ ap (λ b. provided b (Take (read.package_by x m))) o) f

  pub package_closed : (t : Token) (us : Tokens) → Is symbol.Package t → opens x Subprograms ≡ false → Reads (read.item_by x) (t ∷ us) (Stuck (t ∷ us))
  package_closed t us i o = refuses Refuse item_on t us (λ m. ap (λ s. item_on m s t) i ∙ ap (λ b. provided b (Take (read.package_by x m))) o)

  subprogram_at : (m : ℕ) (s : Symbol) (t : Token) → (s ≡ symbol.Generic → ⊥) → (s ≡ symbol.Package → ⊥) → item_on m s t ≡ Look (read.subprogram_by x m)
  subprogram_at m symbol.Generic t a b = absurd (a refl)
  subprogram_at m symbol.Package t a b = absurd (b refl)
  subprogram_at m _ t a b = refl

  pub is_subprogram : (t : Token) (us rest : Tokens) (b : SubprogramBody) → (symbol_of t.lexeme ≡ symbol.Generic → ⊥) → (symbol_of t.lexeme ≡ symbol.Package → ⊥) → Reads (read.body_by x) (t ∷ us) (Got b rest) → length rest < length (t ∷ us)
      → Reads (read.item_by x) (t ∷ us) (Got (item.Subprogram b) rest)
  is_subprogram t us rest b a c r l = looks Refuse item_on t us (read.subprogram_by x) (λ m. subprogram_at m (symbol_of t.lexeme) t a c) (both as_item r (omega arith) (done (item.Subprogram b) rest))

  pub subprogram_fail : (t : Token) (us rest : Tokens) → (symbol_of t.lexeme ≡ symbol.Generic → ⊥) → (symbol_of t.lexeme ≡ symbol.Package → ⊥) → Reads (read.body_by x) (t ∷ us) (Stuck rest) → Reads (read.item_by x) (t ∷ us) (Stuck rest)
  subprogram_fail t us rest a c r = looks Refuse item_on t us (read.subprogram_by x) (λ m. subprogram_at m (symbol_of t.lexeme) t a c) (first_fails as_item r)

  -- units
  module _ (p : Pos) (ws : List WithClause) where
    abbrev unit_with : Token → ℕ → LibraryItem → Reader LibraryUnit
    unit_with u m l = got (record { pos = p; withs = ws; item_pos = u.pos; item = l })

    abbrev unit_turn : ℕ → Symbol → Token → Turn LibraryUnit
    unit_turn m found u = Look (read.item_by x m >>= unit_with u m)

    abbrev items_of : Token → ℕ → Reader LibraryUnit
    items_of u m = read.item_by x m >>= unit_with u m

    pub no_unit_item : Reads (at.at_unit_item x p ws) [] (Stuck [])
    no_unit_item = record { by = λ m h. refl }

    pub unit_item_read : (u : Token) (us rest : Tokens) (l : LibraryItem) → Reads (read.item_by x) (u ∷ us) (Got l rest) → length rest < length (u ∷ us) → Reads (at.at_unit_item x p ws) (u ∷ us) (Got (record { pos = p; withs = ws; item_pos = u.pos; item = l }) rest)
    unit_item_read u us rest l r k = looks Refuse unit_turn u us (items_of u) (λ m. refl) (both (unit_with u) r (omega arith) (done (record { pos = p; withs = ws; item_pos = u.pos; item = l }) rest))

    pub unit_item_fail : (u : Token) (us rest : Tokens) → Reads (read.item_by x) (u ∷ us) (Stuck rest) → Reads (at.at_unit_item x p ws) (u ∷ us) (Stuck rest)
    unit_item_fail u us rest r = looks Refuse unit_turn u us (items_of u) (λ m. refl) (first_fails (unit_with u) r)

  abbrev units_at : Pos → ℕ → Reader LibraryUnit
  units_at p m = read.unit_at x m p

  abbrev unit_on : ℕ → Symbol → Token → Turn LibraryUnit
  unit_on m found t = Look (units_at t.pos m)

  pub no_unit : Reads (read.unit_by x) [] (Stuck [])
  no_unit = record { by = λ m h. refl }

  pub unit_then : (t : Token) (ts us : Tokens) (ws : List WithClause) (q : Reading LibraryUnit) → Reads read.withs_by (t ∷ ts) (Got ws us) → length us ≤ length (t ∷ ts) → Reads (at.at_unit_item x t.pos ws) us q → Reads (read.unit_by x) (t ∷ ts) q
  unit_then t ts us ws q w l f = looks Refuse unit_on t ts (units_at t.pos) (λ m. refl) (both (λ m. read.unit_item x m t.pos) w l f)

  pub unit_withs_fail : (t : Token) (ts rest : Tokens) → Reads read.withs_by (t ∷ ts) (Stuck rest) → Reads (read.unit_by x) (t ∷ ts) (Stuck rest)
  unit_withs_fail t ts rest w = looks Refuse unit_on t ts (units_at t.pos) (λ m. refl) (first_fails (λ m. read.unit_item x m t.pos) w)

  -- files
  pub file_begin : (ts rest : Tokens) (u : LibraryUnit) → Reads (read.unit_by x) ts (Got u rest) → length rest < length ts → (q : Reading (List LibraryUnit)) → More (read.units_turn x) rest (u ∷ []) q → Reads (read.file_by x) ts q
  file_begin ts rest u r l q f = record { by = λ m h. got_bind (λ z. repeat (read.units_turn x m) (suc m) (z ∷ [])) (r.by m h) (f.by m (suc m) (omega arith) (omega arith)) }

  pub file_fail : (ts rest : Tokens) → Reads (read.unit_by x) ts (Stuck rest) → Reads (read.file_by x) ts (Stuck rest)
  file_fail ts rest r = record { by = λ m h. ap (goes_on (λ z. repeat (read.units_turn x m) (suc m) (z ∷ []))) (r.by m h) }

  abbrev another : ℕ → List LibraryUnit → Reader (List LibraryUnit)
  another m units = read.unit_by x m >>= λ u. got (units ++ u ∷ [])

  pub file_closed : (ts : Tokens) (units : List LibraryUnit) → 0 < length ts → opens x Subprograms ≡ false → More (read.units_turn x) ts units (Stuck ts)
  file_closed [] units l o = absurd (omega arith)
  file_closed (t ∷ us) units l o = more_refuse (read.units_turn x) units t us (λ m. ap (λ b. provided b (Look (another m units))) o)

  pub file_step : (ts rest : Tokens) (units : List LibraryUnit) (u : LibraryUnit) → opens x Subprograms ≡ true → Reads (read.unit_by x) ts (Got u rest) → length rest < length ts → (q : Reading (List LibraryUnit)) → More (read.units_turn x) rest (units ++ u ∷ []) q
      → More (read.units_turn x) ts units q
  file_step [] rest units u o r l q f = absurd (omega arith)
  file_step (t ∷ us) rest units u o r l q f = more_look (read.units_turn x) units (units ++ u ∷ []) t us rest (λ m. another m units) q (λ m. ap (λ b. provided b (Look (another m units))) o) (λ m h. got_then (λ z. units ++ z ∷ []) (r.by m h)) l f

  pub file_step_fail : (ts rest : Tokens) (units : List LibraryUnit) → 0 < length ts → opens x Subprograms ≡ true → Reads (read.unit_by x) ts (Stuck rest) → More (read.units_turn x) ts units (Stuck rest)
  file_step_fail [] rest units l o r = absurd (omega arith)
  file_step_fail (t ∷ us) rest units l o r = more_look_stuck (read.units_turn x) units t us rest (λ m. another m units) (λ m. ap (λ b. provided b (Look (another m units))) o) (λ m h. ap (goes_on (λ z. got (units ++ z ∷ []))) (r.by m h))

  pub file_end : (units : List LibraryUnit) → More (read.units_turn x) [] units (Got units [])
  file_end units = more_end (read.units_turn x) units

  pub file_end_at : (ts : Tokens) (units : List LibraryUnit) → length ts ≡ 0 → More (read.units_turn x) ts units (Got units [])
  file_end_at [] units e = file_end units
  file_end_at (t ∷ us) units e = absurd (omega (arith, e))

pub ruleset item_rules = (no_item, is_generic, generic_closed, is_package, package_closed, is_subprogram, subprogram_fail)

pub ruleset unit_item_rules = (no_unit_item, unit_item_read, unit_item_fail)

pub ruleset unit_rules = (no_unit, unit_then, unit_withs_fail)

pub ruleset file_rules = (file_begin, file_fail, file_closed, file_step, file_step_fail, file_end)
