-- Calls of Test_IO, and their code.
use Rattle.std.proofs.Common.{◌≡◌, ℕ, ◌+◌, ◌<◌, ◌≤◌, ℤ, pos, inl, Bool, true, false, FitsSigned, List, [], ◌∷◌, Option, None, if◌then◌else◌, refl, ap, ◌∙◌, arith}
use Rattle.std.proofs.lemmas.Int.{ints}
use Rattle.std.specs.Int.{w32}
use Rattle.ada_meaning.specs.Arithmetic.{base_range, is_within}
use Rattle.ada_meaning.specs.Calls.{Calls, of_value, of_variable, check}
use Rattle.ada_meaning.specs.Expressions.{value, place, given, performed}
use Rattle.ada_meaning.specs.Program.{Bounds, Target, get_target, put_target, body_target, Program}
use Rattle.ada_meaning.specs.Resolved.{bounds_in, place_in, parameters_of}
use Rattle.ada_meaning.specs.Shape.{Shape}
use Rattle.ada_meaning.specs.State as state
use Rattle.ada_meaning.specs.State.{Place, World, Outcome, Gives, Raises, OutOfFuel, goes_to, Action, give, raise, done, set_word, taken_from, ◌>>=◌, ◌>>◌}
use Rattle.ada_meaning.specs.Statements.{goes_on}
use Rattle.ada_meaning.specs.Tree as tree
use Rattle.ada_meaning.specs.Types as type
use Rattle.kernel_ir.proofs.Joining.{joined_does}
use Rattle.kernel_ir.proofs.Memories.{with_slot_at, with_slot_other}
use Rattle.kernel_ir.specs.declared.kernel.Kernel.{Kernel}
use Rattle.kernel_ir.specs.declared.simple.Simple.TheVariants as op
use Rattle.kernel_ir.specs.Layouts.{Content}
use Rattle.kernel_ir.specs.Meaning as code
use Rattle.kernel_ir.specs.Sequence.{joined}
use Rattle.kernel_ir.specs.Simple.{if_valid, takes}
use Rattle.kernel_ir.specs.Tree.{simple, Code, and_op}
use Rattle.kernel_ir.specs.World.{Ended, Ends, slot_in, with_slot, paid}
use Rattle.kernel_ir.specs.World as kernel
use Rattle.frame_widths.specs.Ends.{end_of_parts, end_of_call}
use Rattle.statement_code.specs.Names.{names_in}
use Rattle.statement_code.specs.Calls.{MayCall}
use Rattle.statement_code.specs.Cells.{Cells, Within, With}
use Rattle.statement_code.specs.Frames.{rate, Frame, IsFrame, Inside, Failed, Runs}
use Rattle.statement_code.specs.Statements.{keep_on, get_at, get_code, call_code, IsPlainCall}
use Rattle.statement_code.specs.Steps.{Step}
use Rattle.statement_code.specs.Values.{one, within, Home, address_at, part_shape, IsWord, expr_code, parts_code, ArePlainParts, SeesIn, Site}
use Rattle.statement_code.proofs.Assignments.{scalar_does}
use Rattle.statement_code.proofs.Flows.{step_stops, run_step, goes_to_twice}
use Rattle.statement_code.proofs.Frames.{ticked, observed, inside_ticked, inside_paid, inside_less, inside_fewer, worked, AtStops, runs_stop, runs_are, runs_then}
use Rattle.statement_code.proofs.Sets.{SetTo, stores, stands_more}
use Rattle.statement_code.proofs.Operands.{word_cell, word_ends, Held, Located}
use Rattle.statement_code.proofs.Values.{value_does, place_does}
use Rattle.statement_code.proofs.Operands as operands

-- a call of Test_IO
abbrev pub IsTestCall : Target → Type 0
IsTestCall get_target = Unit {0}
IsTestCall put_target = Unit {0}
IsTestCall (body_target j m) = ⊥

-- a value within bounds of the base range is a word
within_fits : (b : Bounds) (x : ℤ) → is_within base_range b.low ≡ true → is_within base_range b.high ≡ true → is_within b x ≡ true → FitsSigned w32 x
within_fits b x low high is = record { sfits = grind (arith, ints, low, high, is) }

-- Get gives no result
drop_none : (o : Outcome (Unit {0})) → goes_to (goes_to o (λ u. give {A = Option ℤ} None)) (λ r. give goes_on) ≡ goes_to o (λ u. give goes_on)
drop_none (Gives u w) = refl
drop_none (Raises x w) = refl
drop_none (OutOfFuel w) = refl

-- the next word of the input is checked, and set
abbrev gets : Bounds → Place → World → Outcome (Unit {0})
gets b q w = goes_to (taken_from 4 w.input w) (λ x. check b x >> set_word q x)

get_is : (calls : Calls) (b : Bounds) (r : Outcome Place)
    → goes_to (goes_to r (λ q. give (of_variable q b ∷ []))) (λ arguments. performed calls get_target arguments >>= λ t. give goes_on)
    ≡ goes_to (goes_to r (λ q. gets b q)) (λ u. give goes_on)
get_is calls b (Gives q w) = drop_none (gets b q w)
get_is calls b (Raises x w) = refl
get_is calls b (OutOfFuel w) = refl

module _ (p : Program) (calls : Calls) (inst : ℕ) (K : Kernel) (kcalls : code.Calls) (fuel : ℕ) (Cell : Cells) (Keep : ℕ → Type 0) (fr : Frame)
    (frame : IsFrame Cell Keep fr) (shape_of : tree.Object → Shape) (home_of : tree.Object → Home) (site : Site) (Bodies : Bool → ℕ → ℕ → Type 0) (Library : Cells)
    (may : MayCall p calls kcalls Library site Bodies Cell Keep fr) (Sees : tree.Object → Type 0) (Set : ℕ → Type 0)
    (see : SeesIn p inst shape_of home_of site Bodies Sees (Within Cell Set) fr.fp fr.depth) where
  abbrev codes : Code → kernel.World → Ended
  codes a v = code.does_code K kcalls fuel fr.width fr.fp fr.calls a v

  abbrev In : ℕ → World → kernel.World → Type 0
  In l w v = Inside Cell Keep fr Set l w v

  abbrev Stop : ℕ → World → kernel.World → Type 0
  Stop = Failed Cell Keep fr Set

  -- the next word of the input is taken into a free slot
  took : (R : Outcome (Unit {0}) → Ended → Type 0) → AtStops Stop R → (f : ℤ → Action (Unit {0})) (rest : Code) (j l : ℕ) (xs ys : List ℤ) (w : World) (v : kernel.World) → ys ≡ xs
      → fr.base ≤ j → j < fr.width → In (l + 1) w v
      → ((x : ℤ) (u : World) (m : kernel.World) → In l u m → slot_in fr.fp j m ≡ x → ((i : ℕ) → i < j → slot_in fr.fp i m ≡ slot_in fr.fp i v) → R (f x u) (codes rest m))
      → R (goes_to (taken_from 4 xs w) f) (kernel.goes_on (takes K.layouts K.exceptions fr.fp j ys v) (codes rest))
  took R stops f rest j l xs ys w v same free room h next = rw same (by_words xs)
    where
      by_words : (zs : List ℤ) → R (goes_to (taken_from 4 zs w) f) (kernel.goes_on (takes K.layouts K.exceptions fr.fp j zs v) (codes rest))
      by_words [] = stops.raises 4 4 w (paid 1 v) refl
          ((omega arith, frame.predefined), inside_paid Cell Keep fr Set 1 0 w v (inside_less Cell Keep fr Set (l + 1) (0 + 1) w v (omega arith) h))
      by_words (x ∷ zs) =
          let m : kernel.World = kernel.with_input zs (paid 1 v) in
          let paid_in = inside_paid Cell Keep fr Set 1 l w v h in
          next x (state.with_input zs w) (with_slot fr.fp j x m)
          (worked Cell Keep fr frame Set l j x (state.with_input zs w) m free room (record {
            depth_is = paid_in.depth_is;
            input = refl;
            agree = paid_in.agree;
            words = paid_in.words;
            kept = paid_in.kept;
            seen = paid_in.seen;
          }))
          (with_slot_at fr.fp j x m)
          (λ i lt. with_slot_other fr.fp j i x m (omega (arith, room, frame.room)) (omega (arith, lt, room, frame.room)) (λ e. omega (arith, e, lt)))

  -- a word is got
  got : (o : tree.Object) (parts : tree.Parts) (r : type.Range) (w : World) (v : kernel.World) → Sees o → ArePlainParts p inst shape_of home_of site Bodies Sees (shape_of o) parts
      → IsWord (part_shape (shape_of o) parts) → is_within base_range (bounds_in p inst r).low ≡ true → is_within base_range (bounds_in p inst r).high ≡ true
      → fr.base + 2 ≤ fr.width → end_of_parts fr.base parts ≤ fr.width → In 5 w v
      → Runs {A = Unit {0}} Stop (λ u. In 0) (goes_to (place p calls inst parts (place_in p inst w.depth o) w) (λ q. gets (bounds_in p inst r) q)) (codes (get_at (names_in p inst) shape_of home_of site fr.base o parts r) v)
  got o parts r w v seen plain is_word low high wide room h =
      let s : Shape = part_shape (shape_of o) parts in
      let b : Bounds = bounds_in p inst r in
      let small : fr.base < fr.width = omega (arith, wide) in
      let setting = and_op (simple (within (fr.base + 1) b)) (one (op.Store fr.base (fr.base + 1))) in
      let behind = and_op (simple (op.Get (fr.base + 1))) setting in
      let single_word = word_ends s is_word in
      rw (
        operands.addressed_is p calls inst K kcalls fuel Cell Keep fr frame Set shape_of home_of site Bodies Library may Sees see (home_of o) fr.base (joined (parts_code (names_in p inst) shape_of home_of site fr.base (shape_of o) parts) behind) v,
        joined_does K kcalls fuel fr.width fr.fp fr.calls (parts_code (names_in p inst) shape_of home_of site fr.base (shape_of o) parts) behind
            (with_slot fr.fp fr.base (pos (address_at fr.fp (home_of o))) (paid 1 v)),
      )
      (runs_then Stop (Located p calls inst K kcalls fuel Cell Keep fr frame Set shape_of home_of site Bodies Library may Sees see s 4 fr.base v) (Runs Stop (λ u. In 0)) (runs_stop Stop (λ u. In 0))
      (λ q. gets b q) (codes behind)
      (λ q u m g. took (Runs Stop (λ t. In 0)) (runs_stop Stop (λ t. In 0)) (λ x. check b x >> set_word q x) setting (fr.base + 1) 3 u.input m.input u m g.inside.input (omega arith) (omega (arith, wide)) g.inside
      (λ x y n i value same. runs_are Stop (λ t. SetTo p calls inst K kcalls fuel Cell Keep fr frame shape_of home_of site Bodies Library may Sees (With Set g.address 1) (3 + 5) fr.base (fr.base + 1) g.address n)
      (Runs Stop (λ t. In 0)) (runs_stop Stop (λ t. In 0))
      (λ t z k e. inside_fewer Cell Keep fr (With Set g.address 1) Set 0 z k (λ c set. inl set) (inside_less Cell Keep fr (With Set g.address 1) (3 + 5) 0 z k (omega arith) e.inside))
      (goes_to (check b x y) (λ t. set_word q x)) (codes setting n)
      (stores p calls inst K kcalls fuel Cell Keep fr frame shape_of home_of site Bodies Library may Sees Set 3 fr.base (fr.base + 1) g.address b x q n y n (omega arith) (omega arith) (omega (arith, wide)) i
      (same fr.base (omega arith) ∙ g.slot) value (within_fits b x low high) (λ j ge lt differ. refl)
      (word_cell Cell s q g.address is_word (stands_more (Within Cell Set) Cell (λ z c t. t.0) s q g.address g.stands).lies) g.stands.low (omega (arith, g.stands.high, single_word)) (omega arith))))
      (place p calls inst parts (place_in p inst w.depth o) w)
      (codes (parts_code (names_in p inst) shape_of home_of site fr.base (shape_of o) parts) (with_slot fr.fp fr.base (pos (address_at fr.fp (home_of o))) (paid 1 v)))
      (place_does p calls inst K kcalls fuel Cell Keep fr frame Set shape_of home_of site Bodies Library may Sees see parts (shape_of o) 4 fr.base v w
      (with_slot fr.fp fr.base (pos (address_at fr.fp (home_of o))) (paid 1 v)) (place_in p inst w.depth o) plain (omega arith) room
      (operands.located_first p calls inst K kcalls fuel Cell Keep fr frame Set shape_of home_of site Bodies Library may Sees see o 4 fr.base w v seen (omega arith) small h)))

  got_whole : (o : tree.Object) (r : type.Range) (w : World) (v : kernel.World) → Sees o → IsWord (shape_of o) → is_within base_range (bounds_in p inst r).low ≡ true
      → is_within base_range (bounds_in p inst r).high ≡ true → fr.base + 2 ≤ fr.width → In 5 w v
      → Runs {A = Unit {0}} Stop (λ u. In 0) (gets (bounds_in p inst r) (place_in p inst w.depth o) w) (codes (get_code (names_in p inst) shape_of home_of site fr.base o tree.whole r) v)
  got_whole o r w v seen is_word low high wide h =
      let b : Bounds = bounds_in p inst r in
      let stands = operands.stands_now p calls inst K kcalls fuel Cell Keep fr frame Set shape_of home_of site Bodies Library may Sees see o 5 w v seen h in
      took (Runs Stop (λ t. In 0)) (runs_stop Stop (λ t. In 0)) (λ x. check b x >> set_word (place_in p inst w.depth o) x)
      (and_op (simple (within fr.base b)) (one (keep_on fr.base (home_of o)))) fr.base 4 w.input v.input w v h.input (omega arith) (omega (arith, wide)) h
      (λ x y n i value same. runs_are Stop (λ t. Inside Cell Keep fr (With Set (address_at fr.fp (home_of o)) 1) (4 + 5)) (Runs Stop (λ t. In 0)) (runs_stop Stop (λ t. In 0))
      (λ t z k e. inside_fewer Cell Keep fr (With Set (address_at fr.fp (home_of o)) 1) Set 0 z k (λ c set. inl set)
      (inside_less Cell Keep fr (With Set (address_at fr.fp (home_of o)) 1) (4 + 5) 0 z k (omega arith) e))
      (goes_to (check b x y) (λ t. set_word (place_in p inst w.depth o) x)) (codes (and_op (simple (within fr.base b)) (one (keep_on fr.base (home_of o)))) n)
      (scalar_does p calls inst K kcalls fuel Cell Keep fr frame shape_of home_of site Bodies Library may Sees Set 4 (home_of o) b x (place_in p inst w.depth o) y n (omega arith) i value (within_fits b x low high)
      (word_cell Cell (shape_of o) (place_in p inst w.depth o) (address_at fr.fp (home_of o)) is_word
      (stands_more (Within Cell Set) Cell (λ z c t. t.0) (shape_of o) (place_in p inst w.depth o) (address_at fr.fp (home_of o)) stands).lies)))

  any_got : (o : tree.Object) (parts : tree.Parts) (r : type.Range) (w : World) (v : kernel.World) → Sees o → ArePlainParts p inst shape_of home_of site Bodies Sees (shape_of o) parts
      → IsWord (part_shape (shape_of o) parts) → is_within base_range (bounds_in p inst r).low ≡ true → is_within base_range (bounds_in p inst r).high ≡ true
      → fr.base + 2 ≤ fr.width → end_of_parts fr.base parts ≤ fr.width → In 5 w v
      → Runs {A = Unit {0}} Stop (λ u. In 0) (goes_to (place p calls inst parts (place_in p inst w.depth o) w) (λ q. gets (bounds_in p inst r) q)) (codes (get_code (names_in p inst) shape_of home_of site fr.base o parts r) v)
  any_got o tree.whole r w v seen plain is_word low high wide room h = got_whole o r w v seen is_word low high wide h
  any_got o (tree.component n parts) r w v seen plain is_word low high wide room h = got o (tree.component n parts) r w v seen plain is_word low high wide room h
  any_got o (tree.element q e parts) r w v seen plain is_word low high wide room h = got o (tree.element q e parts) r w v seen plain is_word low high wide room h

  -- a checked value is put
  put_step : (Back : Option ℤ → World → kernel.World → Type 0) (looping : Bool) (x : ℤ) (w : World) (v : kernel.World) → In 3 w v → slot_in fr.fp fr.base v ≡ x → (b : Bool)
      → Step Back looping Stop (In 0)
      (goes_to (goes_to ((if b then done else raise 1) w) (λ u. give (of_value x ∷ []))) (λ arguments. performed calls put_target arguments >>= λ r. give goes_on))
      (kernel.goes_on (if_valid b (λ u. u) v) (λ u. Ends (kernel.with_output (slot_in fr.fp fr.base u) (paid 1 u))))
  put_step Back looping x w v h value true = observed Cell Keep fr Set 3 0 w v _ _ h
      (record { events = h.seen.events; output = ap (λ z. z ∷ v.seen.output) value ∙ ap (λ os. x ∷ os) h.seen.output; cost = omega (arith, h.seen.cost) })
  put_step Back looping x w v h value false = (
    refl,
    ((omega arith, omega (arith, frame.predefined)), inside_paid Cell Keep fr Set 1 0 w v (inside_less Cell Keep fr Set 3 (0 + 1) w v (omega arith) h)),
  )

  -- a call of Test_IO, behind the start of its statement
  pub called : (layout_of : ℕ → ℕ) (content : ℕ → Content) (Declares : ℕ → Type 0) (top : ℕ) (gives : Bool) (Back : Option ℤ → World → kernel.World → Type 0) (looping : Bool) (t : Target) (actuals : tree.Actuals) (w : World) (v : kernel.World)
      → IsPlainCall p inst shape_of home_of site Bodies layout_of content Declares top gives Sees t actuals → IsTestCall t → end_of_call fr.base actuals ≤ fr.width → In 7 w v
      → Step Back looping Stop (In 0) (goes_to (given p calls inst actuals (parameters_of p t) w) (λ arguments. performed calls t arguments >>= λ r. give goes_on))
      (codes (call_code (names_in p inst) shape_of home_of site fr.base t actuals) v)
  called layout_of content Declares top gives Back looping put_target (tree.by_expression e tree.no_actual) w v plain test fits h =
      let puts = and_op (simple (within fr.base base_range)) (one (op.Put fr.base)) in
      let expr = expr_code (names_in p inst) shape_of home_of site fr.base e in
      rw (
        joined_does K kcalls fuel fr.width fr.fp fr.calls expr puts v,
        goes_to_twice (value p calls inst e (ticked w)) (λ y. check base_range y >> give (of_value y ∷ [])) (λ arguments. performed calls put_target arguments >>= λ r. give goes_on),
      )
      (runs_then Stop (Held p calls inst K kcalls fuel Cell Keep fr frame Set shape_of home_of site Bodies Library may Sees see (7 + 2) fr.base v) (Step Back looping Stop (In 0)) (step_stops Back looping Stop (In 0))
      (λ y u. goes_to ((check base_range y >> give (of_value y ∷ [])) u) (λ arguments. performed calls put_target arguments >>= λ r. give goes_on)) (codes puts)
      (λ y u t g. rw g.slot (put_step Back looping y u t (inside_less Cell Keep fr Set (7 + 2) 3 u t (omega arith) g.inside) g.slot (is_within base_range y)))
      (value p calls inst e (ticked w)) (codes expr v)
      (value_does p calls inst K kcalls fuel Cell Keep fr frame Set shape_of home_of site Bodies Library may Sees see e 7 fr.base (ticked w) v plain (omega arith) (omega (arith, fits))
      (inside_less Cell Keep fr Set (7 + rate) 7 (ticked w) v (omega arith) (inside_ticked Cell Keep fr Set 7 w v h))))
  called layout_of content Declares top gives Back looping get_target (tree.by_variable o parts r tree.no_actual) w v plain test fits h =
      rw (get_is calls (bounds_in p inst r) (place p calls inst parts (place_in p inst w.depth o) (ticked w)))
      (run_step Back looping {A = Unit {0}} Stop (λ u. In 0) (In 0) (λ u y m g. g) (λ u. give goes_on) (λ u y. refl)
      (goes_to (place p calls inst parts (place_in p inst w.depth o) (ticked w)) (λ q. gets (bounds_in p inst r) q)) (codes (get_code (names_in p inst) shape_of home_of site fr.base o parts r) v)
      (any_got o parts r (ticked w) v plain.0 plain.1.0 plain.1.1.0 plain.1.1.1.0 plain.1.1.1.1 (omega (arith, fits)) (omega (arith, fits))
      (inside_less Cell Keep fr Set (7 + rate) 5 (ticked w) v (omega arith) (inside_ticked Cell Keep fr Set 7 w v h))))
  called layout_of content Declares top gives Back looping (body_target j m) actuals w v plain test fits h = absurd test
  called layout_of content Declares top gives Back looping t actuals w v plain test fits h = absurd plain
