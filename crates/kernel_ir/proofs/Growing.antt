-- What was observed stays, and more fuel goes on: of the parts that code is made of.
use Rattle.std.proofs.Common.{ℕ, zero, suc, ◌≤◌, ℤ, Bool, true, false, [], ◌∷◌, ◌++◌, append_assoc, le_trans, le_refl, if◌then◌else◌, arith, refl, sym, ap, subst, ◌∙◌}
use Rattle.cov_base.specs.declared.event.Event.{Event}
use Rattle.ada_meaning.specs.State.{Seen}
use Rattle.ada_meaning.specs.Refines.{Extends}
use Rattle.kernel_ir.specs.declared.code.Edge.{Edge}
use Rattle.kernel_ir.specs.declared.code.Edge.TheVariants as edge
use Rattle.kernel_ir.specs.World.{World, Ended, Ends, Exits, Returns, Raises, Cut, world_in, goes_on, paid, noted, with_output}
use Rattle.kernel_ir.specs.Meaning.{after_turn, turns, caught, follows, back}
use Rattle.kernel_ir.specs.Laws.{Refines}

pub extends_refl : (s : Seen) → Extends s s
extends_refl s = record { more_events = []; more_output = []; events = refl; output = refl; cost = le_refl s.cost }

pub extends_trans : {r s t : Seen} → Extends r s → Extends s t → Extends r t
extends_trans a b = record {
  more_events = b.more_events ++ a.more_events;
  more_output = b.more_output ++ a.more_output;
  events = b.events ∙ ap (λ x. b.more_events ++ x) a.events ∙ sym (append_assoc b.more_events a.more_events _);
  output = b.output ∙ ap (λ x. b.more_output ++ x) a.output ∙ sym (append_assoc b.more_output a.more_output _);
  cost = le_trans a.cost b.cost;
}

pub extends_paid : (cost : ℕ) (w : World) → Extends w.seen (paid cost w).seen
extends_paid cost w = record { more_events = []; more_output = []; events = refl; output = refl; cost = omega arith }

pub extends_noted : (e : Event) (w : World) → Extends w.seen (noted e w).seen
extends_noted e w = record { more_events = e ∷ []; more_output = []; events = refl; output = refl; cost = le_refl w.seen.cost }

pub extends_output : (x : ℤ) (w : World) → Extends w.seen (with_output x w).seen
extends_output x w = record { more_events = []; more_output = x ∷ []; events = refl; output = refl; cost = le_refl w.seen.cost }

-- what is the same with more fuel
pub steady : (r : Ended) → Refines r r
steady (Ends w) = refl
steady (Exits w) = refl
steady (Returns w) = refl
steady (Raises e w) = refl
steady (Cut w) = extends_refl w.seen

-- with more fuel, g, something goes on as with less, f; and it only adds to what was observed
pub record Improves (f g : World → Ended) : Type 0 where
  pub refines : (w : World) → Refines (f w) (g w)
  pub grows : (w : World) → Extends w.seen (world_in (g w)).seen

goes_on_grows : (s : Seen) (r : Ended) (g : World → Ended) → Extends s (world_in r).seen → ((w : World) → Extends w.seen (world_in (g w)).seen) → Extends s (world_in (goes_on r g)).seen
goes_on_grows s (Ends w) g h i = extends_trans h (i w)
goes_on_grows s (Exits w) g h i = h
goes_on_grows s (Returns w) g h i = h
goes_on_grows s (Raises e w) g h i = h
goes_on_grows s (Cut w) g h i = h

goes_on_refines : (q r : Ended) (f g : World → Ended) → Refines q r → Improves f g → Refines (goes_on q f) (goes_on r g)
goes_on_refines (Ends w) r f g h i = subst (λ s. Refines (f w) (goes_on s g)) (sym h) (i.refines w)
goes_on_refines (Exits w) r f g h i = ap (λ s. goes_on s g) h
goes_on_refines (Returns w) r f g h i = ap (λ s. goes_on s g) h
goes_on_refines (Raises e w) r f g h i = ap (λ s. goes_on s g) h
goes_on_refines (Cut w) r f g h i = goes_on_grows w.seen r g h i.grows

pub goes_on_improves : {a b f g : World → Ended} → Improves a b → Improves f g → Improves (λ w. goes_on (a w) f) (λ w. goes_on (b w) g)
goes_on_improves {a} {b} {f} {g} h i = record {
  refines = λ w. goes_on_refines (a w) (b w) f g (h.refines w) i;
  grows = λ w. goes_on_grows w.seen (b w) g (h.grows w) i.grows;
}

-- after a state with more observed
pub after_improves : {f g : World → Ended} (change : World → World) → ((w : World) → Extends w.seen (change w).seen) → Improves f g → Improves (λ w. f (change w)) (λ w. g (change w))
after_improves change h i = record { refines = λ w. i.refines (change w); grows = λ w. extends_trans (h w) (i.grows (change w)) }

after_turn_grows : (s : Seen) (r : Ended) (g : World → Ended) → Extends s (world_in r).seen → ((w : World) → Extends w.seen (world_in (g w)).seen) → Extends s (world_in (after_turn r g)).seen
after_turn_grows s (Ends w) g h i = extends_trans h (i w)
after_turn_grows s (Exits w) g h i = h
after_turn_grows s (Returns w) g h i = h
after_turn_grows s (Raises e w) g h i = h
after_turn_grows s (Cut w) g h i = h

after_turn_refines : (q r : Ended) (f g : World → Ended) → Refines q r → Improves f g → Refines (after_turn q f) (after_turn r g)
after_turn_refines (Ends w) r f g h i = subst (λ s. Refines (f w) (after_turn s g)) (sym h) (i.refines w)
after_turn_refines (Exits w) r f g h i = ap (λ s. after_turn s g) h
after_turn_refines (Returns w) r f g h i = ap (λ s. after_turn s g) h
after_turn_refines (Raises e w) r f g h i = ap (λ s. after_turn s g) h
after_turn_refines (Cut w) r f g h i = after_turn_grows w.seen r g h i.grows

turns_grow : (n : ℕ) (g : World → Ended) → ((w : World) → Extends w.seen (world_in (g w)).seen) → (w : World) → Extends w.seen (world_in (turns n g w)).seen
turns_grow zero g h w = extends_refl w.seen
turns_grow (suc n) g h w = after_turn_grows w.seen (g (paid 1 w)) (turns n g) (extends_trans (extends_paid 1 w) (h (paid 1 w))) (turns_grow n g h)

pub turns_improve : (n m : ℕ) {f g : World → Ended} → n ≤ m → Improves f g → Improves (turns n f) (turns m g)
turns_improve zero m {f} {g} h i = record { refines = turns_grow m g i.grows; grows = turns_grow m g i.grows }
turns_improve (suc n) zero h i = absurd (omega (arith, h))
turns_improve (suc n) (suc m) {f} {g} h i =
    record {
      refines = λ w. after_turn_refines (f (paid 1 w)) (g (paid 1 w)) (turns n f) (turns m g) (i.refines (paid 1 w)) (turns_improve n m (omega (arith, h)) i);
      grows = turns_grow (suc m) g i.grows;
    }

caught_grows : (s : Seen) (r : Ended) (g : ℕ → World → Ended) → Extends s (world_in r).seen → ((e : ℕ) (w : World) → Extends w.seen (world_in (g e w)).seen) → Extends s (world_in (caught r g)).seen
caught_grows s (Ends w) g h i = h
caught_grows s (Exits w) g h i = h
caught_grows s (Returns w) g h i = h
caught_grows s (Raises e w) g h i = extends_trans h (i e w)
caught_grows s (Cut w) g h i = h

caught_refines : (q r : Ended) (f g : ℕ → World → Ended) → Refines q r → ((e : ℕ) → Improves (f e) (g e)) → Refines (caught q f) (caught r g)
caught_refines (Ends w) r f g h i = ap (λ s. caught s g) h
caught_refines (Exits w) r f g h i = ap (λ s. caught s g) h
caught_refines (Returns w) r f g h i = ap (λ s. caught s g) h
caught_refines (Raises e w) r f g h i = subst (λ s. Refines (f e w) (caught s g)) (sym h) ((i e).refines w)
caught_refines (Cut w) r f g h i = caught_grows w.seen r g h (λ e. (i e).grows)

pub caught_improves : {a b : World → Ended} {f g : ℕ → World → Ended} → Improves a b → ((e : ℕ) → Improves (f e) (g e)) → Improves (λ w. caught (a w) f) (λ w. caught (b w) g)
caught_improves {a} {b} {f} {g} h i = record {
  refines = λ w. caught_refines (a w) (b w) f g (h.refines w) i;
  grows = λ w. caught_grows w.seen (b w) g (h.grows w) (λ e. (i e).grows);
}

back_grows : (s : Seen) (r : Ended) → Extends s (world_in r).seen → Extends s (world_in (back r)).seen
back_grows s (Ends w) h = h
back_grows s (Exits w) h = h
back_grows s (Returns w) h = h
back_grows s (Raises e w) h = h
back_grows s (Cut w) h = h

back_refines : (q r : Ended) → Refines q r → Refines (back q) (back r)
back_refines (Ends w) r h = ap back h
back_refines (Exits w) r h = ap back h
back_refines (Returns w) r h = ap back h
back_refines (Raises e w) r h = ap back h
back_refines (Cut w) r h = back_grows w.seen r h

pub back_improves : {a b : World → Ended} → Improves a b → Improves (λ w. back (a w)) (λ w. back (b w))
back_improves {a} {b} h = record { refines = λ w. back_refines (a w) (b w) (h.refines w); grows = λ w. back_grows w.seen (b w) (h.grows w) }

-- the choice between two by a test of the state
pub chosen_improves : (test : World → Bool) {a b f g : World → Ended} → Improves a b → Improves f g
    → Improves (λ w. if test w then a w else f w) (λ w. if test w then b w else g w)
chosen_improves test {a} {b} {f} {g} h i = record { refines = λ w. refine (test w) w; grows = λ w. grow (test w) w }
  where
    refine : (t : Bool) (w : World) → Refines (if t then a w else f w) (if t then b w else g w)
    refine true w = h.refines w
    refine false w = i.refines w

    grow : (t : Bool) (w : World) → Extends w.seen (world_in (if t then b w else g w)).seen
    grow true w = h.grows w
    grow false w = i.grows w

pub follows_improve : (e : Edge) {a b : Bool → World → Ended} {f g : ℕ → World → Ended} → ((outcome : Bool) → Improves (a outcome) (b outcome))
    → ((n : ℕ) → Improves (f n) (g n)) → (w : World) → Refines (follows e (λ o. a o w) (λ n. f n w)) (follows e (λ o. b o w) (λ n. g n w)) × Extends w.seen (world_in (follows e (λ o. b o w) (λ n. g n w))).seen
follows_improve (edge.Leaf outcome) h i w = ((h outcome).refines w, (h outcome).grows w)
follows_improve (edge.NodeAfter n) h i w = ((i n).refines w, (i n).grows w)
