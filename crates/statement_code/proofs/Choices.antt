-- Choices of a case alternative and of a handler, and their code.
use Rattle.std.proofs.Common.{◌≡◌, ℕ, ◌+◌, ◌<◌, ◌≤◌, nat_eq, ℤ, pos, int_le, Bool, true, false, ◌&&◌, List, [], ◌∷◌, if◌then◌else◌, refl, sym, ap, subst, ◌∙◌, arith}
use Rattle.std.proofs.lemmas.Bool.Decides.{nat_tests}
use Rattle.std.proofs.lemmas.Int.{ints}
use Rattle.ada_meaning.specs.Arithmetic.{number_of_truth, is_true, holds}
use Rattle.ada_meaning.specs.Calls.{Calls}
use Rattle.ada_meaning.specs.Program.{Program}
use Rattle.ada_meaning.specs.Resolved.{number_in, exception_in}
use Rattle.ada_meaning.specs.Shape.{Shape}
use Rattle.ada_meaning.specs.State.{World, Outcome, Gives, Action, give}
use Rattle.ada_meaning.specs.Statements.{is_chosen, chooses, is_caught, catches}
use Rattle.ada_meaning.specs.Tree as tree
use Rattle.ada_meaning.specs.Types as ada
use Rattle.kernel_ir.proofs.Joining.{joined_does, single_does}
use Rattle.kernel_ir.proofs.Memories.{with_slot_at, with_slot_other}
use Rattle.kernel_ir.specs.declared.kernel.Kernel.{Kernel}
use Rattle.kernel_ir.specs.declared.simple.Relation.{Relation}
use Rattle.kernel_ir.specs.declared.simple.Relation.TheVariants as relation
use Rattle.kernel_ir.specs.declared.simple.Simple.TheVariants as op
use Rattle.kernel_ir.specs.Meaning as code
use Rattle.kernel_ir.specs.Sequence.{joined}
use Rattle.kernel_ir.specs.Simple.{relation_of}
use Rattle.kernel_ir.specs.Tree.{simple, choose, Code, no_op, and_op}
use Rattle.kernel_ir.specs.World.{Ended, Ends, slot_in, with_slot, paid}
use Rattle.kernel_ir.specs.World as kernel
use Rattle.statement_code.specs.Names.{names_in}
use Rattle.statement_code.specs.Calls.{MayCall}
use Rattle.statement_code.specs.Cells.{Cells}
use Rattle.statement_code.specs.Flows.{choice_code, choices_code}
use Rattle.statement_code.specs.Frames.{rate, Frame, IsFrame, Inside, Failed, Runs}
use Rattle.statement_code.specs.Statements.{exception_choice_code, exception_choices_code}
use Rattle.statement_code.specs.Values.{single, one, Home, Site}
use Rattle.statement_code.proofs.Frames.{ticked, inside_ticked, inside_paid, inside_less, worked, runs_are, runs_stop}

same_exception : (x r : ℕ) → holds ada.equal (pos x) (pos r) ≡ nat_eq x r
same_exception x r = grind (arith, ints, nat_tests)

module _ (p : Program) (calls : Calls) (inst : ℕ) (K : Kernel) (kcalls : code.Calls) (fuel : ℕ) (Cell : Cells) (Keep : ℕ → Type 0) (fr : Frame)
    (frame : IsFrame Cell Keep fr) (Set : ℕ → Type 0) (shape_of : tree.Object → Shape) (home_of : tree.Object → Home) (site : Site) (Bodies : Bool → ℕ → ℕ → Type 0) (Library : Cells)
    (may : MayCall p calls kcalls Library site Bodies Cell Keep fr) (room : fr.base + 2 < fr.width) where
  abbrev In : ℕ → World → kernel.World → Type 0
  In l w v = Inside Cell Keep fr Set l w v

  abbrev codes : Code → kernel.World → Ended
  codes a v = code.does_code K kcalls fuel fr.width fr.fp fr.calls a v

  abbrev k : ℕ
  k = fr.base

  -- a number stands in the first free slot, and a truth value in the next one
  pub record Looked (l : ℕ) (x : ℤ) (b : Bool) (w : World) (v : kernel.World) : Type 0 where
    pub inside : In l w v
    pub value : slot_in fr.fp k v ≡ x
    pub found : slot_in fr.fp (k + 1) v ≡ number_of_truth b

  -- the code ends so
  pub record Looks (l : ℕ) (x : ℤ) (b : Bool) (w : World) (e : Ended) : Type 0 where
    pub v : kernel.World
    pub is : e ≡ Ends v
    pub looked : Looked l x b w v

  looked_less : (l m : ℕ) (x : ℤ) (b : Bool) (w : World) (v : kernel.World) → m ≤ l → Looked l x b w v → Looked m x b w v
  looked_less l m x b w v le h = record { inside = inside_less Cell Keep fr Set l m w v le h.inside; value = h.value; found = h.found }

  -- a slot behind the number is set
  set_slot : (l j : ℕ) (x y : ℤ) (w : World) (v : kernel.World) → k < j → j < fr.width → In (l + 1) w v → slot_in fr.fp k v ≡ x
      → In l w (with_slot fr.fp j y (paid 1 v)) × (slot_in fr.fp k (with_slot fr.fp j y (paid 1 v)) ≡ x)
  set_slot l j x y w v above small h value = (
    worked Cell Keep fr frame Set l j y w (paid 1 v) (omega (arith, above)) small (inside_paid Cell Keep fr Set 1 l w v h),
    with_slot_other fr.fp j k y (paid 1 v) (omega (arith, small, frame.room)) (omega (arith, above, small, frame.room)) (λ e. omega (arith, e, above)) ∙ value,
  )

  -- the number is compared with another one
  compared_with : (l : ℕ) (rel : Relation) (x n : ℤ) (b : Bool) (w : World) (v : kernel.World) → In (l + 2) w v → slot_in fr.fp k v ≡ x → holds (relation_of rel) x n ≡ b
      → Looks l x b w (codes (and_op (simple (op.Number (k + 2) n)) (one (op.Compare rel (k + 1) k (k + 2)))) v)
  compared_with l rel x n b w v h value is =
      let first = set_slot (l + 1) (k + 2) x n w v (omega arith) room (inside_less Cell Keep fr Set (l + 2) (l + 1 + 1) w v (omega arith) h) value in
      let u : kernel.World = with_slot fr.fp (k + 2) n (paid 1 v) in
      let y : ℤ = number_of_truth (holds (relation_of rel) (slot_in fr.fp k u) (slot_in fr.fp (k + 2) u)) in
      let second = set_slot l (k + 1) x y w u (omega arith) (omega (arith, room)) first.0 first.1 in
      record {
        v = with_slot fr.fp (k + 1) y (paid 1 u);
        is = refl;
        looked = record {
          inside = second.0;
          value = second.1;
          found = with_slot_at fr.fp (k + 1) y (paid 1 u)
              ∙ ap number_of_truth ((λ t. holds (relation_of rel) (first.1 t) (with_slot_at fr.fp (k + 2) n (paid 1 v) t)) ∙ is);
        };
      }

  known : (l : ℕ) (x : ℤ) (b : Bool) (w : World) (v : kernel.World) → In (l + 1) w v → slot_in fr.fp k v ≡ x
      → Looks l x b w (codes (one (op.Number (k + 1) (number_of_truth b))) v)
  known l x b w v h value =
      let set = set_slot l (k + 1) x (number_of_truth b) w v (omega arith) (omega (arith, room)) h value in
      record {
        v = with_slot fr.fp (k + 1) (number_of_truth b) (paid 1 v);
        is = refl;
        looked = record { inside = set.0; value = set.1; found = with_slot_at fr.fp (k + 1) (number_of_truth b) (paid 1 v) };
      }

  -- what a truth value chooses
  pub chosen_is : (x y : Code) (v : kernel.World) (b : Bool) → slot_in fr.fp (k + 1) v ≡ number_of_truth b
      → codes (single (choose (k + 1) x y)) v ≡ (if b then codes x (paid 1 v) else codes y (paid 1 v))
  chosen_is x y v b is =
      single_does K kcalls fuel fr.width fr.fp fr.calls (choose (k + 1) x y) v
      ∙ (ap (λ z. if is_true z then codes x (paid 1 v) else codes y (paid 1 v)) is ∙ truth b)
    where
      truth : (t : Bool) → (if is_true (number_of_truth t) then codes x (paid 1 v) else codes y (paid 1 v)) ≡ (if t then codes x (paid 1 v) else codes y (paid 1 v))
      truth true = refl
      truth false = refl

  choice_does : (c : tree.Choice) (l : ℕ) (x : ℤ) (w : World) (v : kernel.World) → In (l + 5) w v → slot_in fr.fp k v ≡ x
      → Looks l x (is_chosen p calls fuel inst c x) w (codes (choice_code (names_in p inst) shape_of home_of site k c) v)
  choice_does (tree.value_choice e) l x w v h value =
      compared_with l relation.Equal x (number_in p inst e) (is_chosen p calls fuel inst (tree.value_choice e) x) w v (inside_less Cell Keep fr Set (l + 5) (l + 2) w v (omega arith) h) value refl
  choice_does (tree.range_choice e f) l x w v h value = by_test (int_le (number_in p inst e) x) refl
    where
      low : ℤ
      low = number_in p inst e

      high : ℤ
      high = number_in p inst f

      first : In (l + 4) w (with_slot fr.fp (k + 2) low (paid 1 v)) × (slot_in fr.fp k (with_slot fr.fp (k + 2) low (paid 1 v)) ≡ x)
      first = set_slot (l + 4) (k + 2) x low w v (omega arith) room (inside_less Cell Keep fr Set (l + 5) (l + 4 + 1) w v (omega arith) h) value

      u1 : kernel.World
      u1 = with_slot fr.fp (k + 2) low (paid 1 v)

      y : ℤ
      y = number_of_truth (holds ada.at_most (slot_in fr.fp (k + 2) u1) (slot_in fr.fp k u1))

      u2 : kernel.World
      u2 = with_slot fr.fp (k + 1) y (paid 1 u1)

      second : In (l + 3) w u2 × (slot_in fr.fp k u2 ≡ x)
      second = set_slot (l + 3) (k + 1) x y w u1 (omega arith) (omega (arith, room)) (inside_less Cell Keep fr Set (l + 4) (l + 3 + 1) w u1 (omega arith) first.0) first.1

      found_is : slot_in fr.fp (k + 1) u2 ≡ number_of_truth (int_le low x)
      found_is = with_slot_at fr.fp (k + 1) y (paid 1 u1)
          ∙ ap number_of_truth (λ t. holds ada.at_most (with_slot_at fr.fp (k + 2) low (paid 1 v) t) (first.1 t))

      upper : Code
      upper = and_op (simple (op.Number (k + 2) high)) (one (op.Compare relation.AtMost (k + 1) k (k + 2)))

      paid_in : In (l + 2) w (paid 1 u2)
      paid_in = inside_paid Cell Keep fr Set 1 (l + 2) w u2 (inside_less Cell Keep fr Set (l + 3) (l + 2 + 1) w u2 (omega arith) second.0)

      by_test : (b : Bool) → int_le low x ≡ b → Looks l x (int_le low x && int_le x high) w (codes (choice_code (names_in p inst) shape_of home_of site k (tree.range_choice e f)) v)
      by_test true is =
          rw (chosen_is upper no_op u2 true (found_is ∙ ap number_of_truth is), is)
          (compared_with l relation.AtMost x high (int_le x high) w (paid 1 u2) paid_in second.1 refl)
      by_test false is =
          rw (chosen_is upper no_op u2 false (found_is ∙ ap number_of_truth is), is) (record {
            v = paid 1 u2;
            is = refl;
            looked = record { inside = inside_less Cell Keep fr Set (l + 2) l w (paid 1 u2) (omega arith) paid_in; value = second.1; found = found_is ∙ ap number_of_truth is };
          })
  choice_does tree.other_values l x w v h value = known l x true w v (inside_less Cell Keep fr Set (l + 5) (l + 1) w v (omega arith) h) value

  -- a choice, and those behind it
  behind_choice : (c b : Code) (l : ℕ) (x : ℤ) (t : Bool) (w : World) (v : kernel.World) → Looks (l + 5) x t w (codes c v)
      → (R : Outcome Bool → Ended → Type 0) (r : Outcome Bool)
      → ((u : kernel.World) → Looked (l + 4) x true w u → R (Gives true w) (Ends u)) → ((u : kernel.World) → In (l + 4) w u → slot_in fr.fp k u ≡ x → R r (codes b u))
      → R (if t then Gives true w else r) (codes (joined c (single (choose (k + 1) no_op b))) v)
  behind_choice c b l x t w v h R r found others =
      rw (joined_does K kcalls fuel fr.width fr.fp fr.calls c (single (choose (k + 1) no_op b)) v, h.is, chosen_is no_op b h.v t h.looked.found) (by_test t h.looked)
    where
      less : In (l + 5) w h.v → In (l + 4) w (paid 1 h.v)
      less g = inside_paid Cell Keep fr Set 1 (l + 4) w h.v (inside_less Cell Keep fr Set (l + 5) (l + 4 + 1) w h.v (omega arith) g)

      by_test : (s : Bool) → Looked (l + 5) x s w h.v → R (if s then Gives true w else r) (if s then codes no_op (paid 1 h.v) else codes b (paid 1 h.v))
      by_test true g = found (paid 1 h.v) (record { inside = less g.inside; value = g.value; found = g.found })
      by_test false g = others (paid 1 h.v) (less g.inside) g.value

  abbrev Stop : ℕ → World → kernel.World → Type 0
  Stop = Failed Cell Keep fr Set

  -- what choices in order find
  abbrev Finds : (l : ℕ) → ℤ → Outcome Bool → Ended → Type 0
  Finds l x r e = Runs Stop (Looked l x) r e

  finds_less : (l m : ℕ) (x : ℤ) → m ≤ l → (r : Outcome Bool) (e : Ended) → Finds l x r e → Finds m x r e
  finds_less l m x le =
      runs_are Stop (Looked l x) (Finds m x) (runs_stop Stop (Looked m x)) (λ b w v g. looked_less l m x b w v le g)

  found_in : (l : ℕ) (x : ℤ) (b : Bool) (w : World) (e : Ended) → Looks l x b w e → Finds l x (Gives b w) e
  found_in l x b w e h = subst (Finds l x (Gives b w)) (sym h.is) h.looked

  if_moved : (b : Bool) (g : Action Bool) (w : World) (R : Outcome Bool → Type 0) → R (if b then Gives true w else g w) → R ((if b then give true else g) w)
  if_moved true g w R h = h
  if_moved false g w R h = h

  pub choices_do : (c : tree.Choice) (cs : List tree.Choice) (l : ℕ) (x : ℤ) (w : World) (v : kernel.World) → In l w v → slot_in fr.fp k v ≡ x
      → Finds (l + 3) x (chooses p calls fuel inst (c ∷ cs) x w) (codes (choices_code (names_in p inst) shape_of home_of site k (c ∷ cs)) v)
  choices_do c [] l x w v h value =
      if_moved (is_chosen p calls fuel inst c x) (chooses p calls fuel inst [] x) (ticked w)
      (λ r. Finds (l + 3) x r (codes (choices_code (names_in p inst) shape_of home_of site k (c ∷ [])) v))
      (behind_choice (choice_code (names_in p inst) shape_of home_of site k c) (choices_code (names_in p inst) shape_of home_of site k []) l x (is_chosen p calls fuel inst c x) (ticked w) v
      (choice_does c (l + 5) x (ticked w) v (inside_less Cell Keep fr Set (l + rate) (l + 5 + 5) (ticked w) v (omega arith) (inside_ticked Cell Keep fr Set l w v h)) value)
      (Finds (l + 3) x) (chooses p calls fuel inst [] x (ticked w)) (λ u g. looked_less (l + 4) (l + 3) x true (ticked w) u (omega arith) g)
      (λ u g val. found_in (l + 3) x false (ticked w) (codes (choices_code (names_in p inst) shape_of home_of site k []) u)
      (known (l + 3) x false (ticked w) u (inside_less Cell Keep fr Set (l + 4) (l + 3 + 1) (ticked w) u (omega arith) g) val)))
  choices_do c (d ∷ ds) l x w v h value =
      if_moved (is_chosen p calls fuel inst c x) (chooses p calls fuel inst (d ∷ ds) x) (ticked w)
      (λ r. Finds (l + 3) x r (codes (choices_code (names_in p inst) shape_of home_of site k (c ∷ d ∷ ds)) v))
      (behind_choice (choice_code (names_in p inst) shape_of home_of site k c) (choices_code (names_in p inst) shape_of home_of site k (d ∷ ds)) l x (is_chosen p calls fuel inst c x) (ticked w) v
      (choice_does c (l + 5) x (ticked w) v (inside_less Cell Keep fr Set (l + rate) (l + 5 + 5) (ticked w) v (omega arith) (inside_ticked Cell Keep fr Set l w v h)) value)
      (Finds (l + 3) x) (chooses p calls fuel inst (d ∷ ds) x (ticked w)) (λ u g. looked_less (l + 4) (l + 3) x true (ticked w) u (omega arith) g)
      (λ u g val. finds_less (l + 4 + 3) (l + 3) x (omega arith) (chooses p calls fuel inst (d ∷ ds) x (ticked w)) (codes (choices_code (names_in p inst) shape_of home_of site k (d ∷ ds)) u)
      (choices_do d ds (l + 4) x (ticked w) u g val)))

  -- the choices of a handler
  caught_does : (c : tree.ExceptionChoice) (l e : ℕ) (w : World) (v : kernel.World) → In (l + 5) w v → slot_in fr.fp k v ≡ pos e
      → Looks l (pos e) (is_caught p calls fuel inst c e) w (codes (exception_choice_code (names_in p inst) shape_of home_of site k c) v)
  caught_does (tree.named_exception x) l e w v h value =
      compared_with l relation.Equal (pos e) (pos (exception_in p inst x)) (nat_eq e (exception_in p inst x)) w v
      (inside_less Cell Keep fr Set (l + 5) (l + 2) w v (omega arith) h) value (same_exception e (exception_in p inst x))
  caught_does tree.other_exceptions l e w v h value = known l (pos e) true w v (inside_less Cell Keep fr Set (l + 5) (l + 1) w v (omega arith) h) value

  pub catches_do : (c : tree.ExceptionChoice) (cs : List tree.ExceptionChoice) (l e : ℕ) (w : World) (v : kernel.World) → In l w v → slot_in fr.fp k v ≡ pos e
      → Finds (l + 3) (pos e) (catches p calls fuel inst (c ∷ cs) e w) (codes (exception_choices_code (names_in p inst) shape_of home_of site k (c ∷ cs)) v)
  catches_do c [] l e w v h value =
      if_moved (is_caught p calls fuel inst c e) (catches p calls fuel inst [] e) (ticked w)
      (λ r. Finds (l + 3) (pos e) r (codes (exception_choices_code (names_in p inst) shape_of home_of site k (c ∷ [])) v))
      (behind_choice (exception_choice_code (names_in p inst) shape_of home_of site k c) (exception_choices_code (names_in p inst) shape_of home_of site k []) l (pos e) (is_caught p calls fuel inst c e) (ticked w) v
      (caught_does c (l + 5) e (ticked w) v (inside_less Cell Keep fr Set (l + rate) (l + 5 + 5) (ticked w) v (omega arith) (inside_ticked Cell Keep fr Set l w v h)) value)
      (Finds (l + 3) (pos e)) (catches p calls fuel inst [] e (ticked w)) (λ u g. looked_less (l + 4) (l + 3) (pos e) true (ticked w) u (omega arith) g)
      (λ u g val. found_in (l + 3) (pos e) false (ticked w) (codes (exception_choices_code (names_in p inst) shape_of home_of site k []) u)
      (known (l + 3) (pos e) false (ticked w) u (inside_less Cell Keep fr Set (l + 4) (l + 3 + 1) (ticked w) u (omega arith) g) val)))
  catches_do c (d ∷ ds) l e w v h value =
      if_moved (is_caught p calls fuel inst c e) (catches p calls fuel inst (d ∷ ds) e) (ticked w)
      (λ r. Finds (l + 3) (pos e) r (codes (exception_choices_code (names_in p inst) shape_of home_of site k (c ∷ d ∷ ds)) v))
      (behind_choice (exception_choice_code (names_in p inst) shape_of home_of site k c) (exception_choices_code (names_in p inst) shape_of home_of site k (d ∷ ds)) l (pos e) (is_caught p calls fuel inst c e) (ticked w) v
      (caught_does c (l + 5) e (ticked w) v (inside_less Cell Keep fr Set (l + rate) (l + 5 + 5) (ticked w) v (omega arith) (inside_ticked Cell Keep fr Set l w v h)) value)
      (Finds (l + 3) (pos e)) (catches p calls fuel inst (d ∷ ds) e (ticked w)) (λ u g. looked_less (l + 4) (l + 3) (pos e) true (ticked w) u (omega arith) g)
      (λ u g val. finds_less (l + 4 + 3) (l + 3) (pos e) (omega arith) (catches p calls fuel inst (d ∷ ds) e (ticked w)) (codes (exception_choices_code (names_in p inst) shape_of home_of site k (d ∷ ds)) u)
      (catches_do d ds (l + 4) e (ticked w) u g val)))
