-- An object is copied from outside of the cells of an activation: by a callee from its caller's, and back.
use Rattle.std.proofs.Common.{◌≡◌, ℕ, zero, suc, ◌+◌, ◌==◌, ◌⊎◌, inl, inr, ℤ, pos, ◌+ℤ◌, FitsSigned, refl, sym, subst, ◌∙◌, eq-eqb}
use Rattle.std.specs.Int.{w32}
use Rattle.ada_meaning.specs.Arithmetic.{count_between}
use Rattle.ada_meaning.specs.Shape.{Shape, word, row, group, Shapes, no_shape, and_shape}
use Rattle.ada_meaning.specs.State.{Place, part_at, same_place, Store}
use Rattle.ada_resolved.specs.Sizes.{words}
use Rattle.kernel_ir.specs.Simple.{copied}
use Rattle.kernel_ir.specs.World.{Memory}
use Rattle.statement_code.specs.Cells.{Cells, Each, Lies, AllLie, AreApart, Agree, Within, With}
use Rattle.statement_code.specs.Objects.{AnyOf, Among, AmongAll}
use Rattle.statement_code.specs.Stores.{copied_store}
use Rattle.statement_code.proofs.Cells.{lies_more}
use Rattle.statement_code.proofs.Objects.{among_apart, lies_among}
use Rattle.statement_code.proofs.Stores.{copy_agrees}
use Rattle.statement_code.proofs.Ways.{places_same}

each_of_any : (Cell : Cells) (n : ℕ) (i : ℤ) (a step : ℕ) (L : ℤ → ℕ → Type 0) (A : ℤ → ℕ → Place → ℕ → Type 0) (q : Place) (c : ℕ)
    → ((j : ℤ) (e : ℕ) → L j e → A j e q c → Cell q c) → Each n i a step L → AnyOf n i a step (λ j e. A j e q c) → Cell q c
each_of_any Cell zero i a step L A q c f h g = absurd g
each_of_any Cell (suc n) i a step L A q c f h (inl g) = f i a h.0 g
each_of_any Cell (suc n) i a step L A q c f h (inr g) = each_of_any Cell n (i +ℤ pos 1) (a + step) step L A q c f h.1 g

module _ (Cell : Cells) where
  mutual
    -- the cells of an object that lies in memory are cells
    pub among_lies : (s : Shape) (p : Place) (a : ℕ) (q : Place) (c : ℕ) → Lies Cell s p a → Among s p a q c → Cell q c
    among_lies (word b) p a q c h g = subst (λ r. Cell r c) (sym g.0) (subst (Cell p) (sym g.1) h)
    among_lies (row b s) p a q c h g =
        each_of_any Cell (count_between b.low b.high) b.low a (words s) (λ i d. Lies Cell s (part_at i p) d) (λ i d r e. Among s (part_at i p) d r e) q c
        (λ i d x y. among_lies s (part_at i p) d q c x y) h g
    among_lies (group ss) p a q c h g = all_among_lie ss (pos 0) p a q c h g

    all_among_lie : (ss : Shapes) (i : ℤ) (p : Place) (a : ℕ) (q : Place) (c : ℕ) → AllLie Cell ss i p a → AmongAll ss i p a q c → Cell q c
    all_among_lie no_shape i p a q c h g = absurd g
    all_among_lie (and_shape s ss) i p a q c h (inl g) = among_lies s (part_at i p) a q c h.0 g
    all_among_lie (and_shape s ss) i p a q c h (inr g) = all_among_lie ss (i +ℤ pos 1) p (a + words s) q c h.1 g

-- a cell from outside is apart from the others, or it is one of them
abbrev pub IsApartFrom : Cells → Place → ℕ → Type 0
IsApartFrom Cell r c = (q : Place) (a : ℕ) → Cell q a → (same_place r q ≡ (a == c)) × (same_place q r ≡ (c == a))

-- what is known of each cell of an object outside: memory holds what the store has, and it is apart
abbrev pub IsReadable : Cells → Store → Memory → Cells
IsReadable Cell store memory r c = ((memory c ≡ store r) × FitsSigned w32 (store r)) × IsApartFrom Cell r c

module _ (Cell : Cells) (apart : AreApart Cell) (Set : ℕ → Type 0) (s : Shape) (p : Place) (from : ℕ) (store : Store) (memory : Memory)
    (readable : Lies (IsReadable Cell store memory) s p from) where
  abbrev Source : Cells
  Source = Among s p from

  abbrev Both : Cells
  Both q c = Cell q c ⊎ Source q c

  source_is : (r : Place) (c : ℕ) → Source r c → IsReadable Cell store memory r c
  source_is r c h = among_lies (IsReadable Cell store memory) s p from r c readable h

  both_apart : AreApart Both
  both_apart q r a b (inl h) (inl g) = apart q r a b h g
  both_apart q r a b (inr h) (inr g) = among_apart s p from q r a b h g
  both_apart q r a b (inl h) (inr g) = ((source_is r b g).1 q a h).1
  both_apart q r a b (inr h) (inl g) = ((source_is q a h).1 r b g).0

  -- the words of the object outside, beside those that were set
  abbrev Known : ℕ → Type 0
  Known c = Set c ⊎ ((q : Place) × Source q c)

  both_agree : Agree (Within Cell Set) store memory → Agree (Within Both Known) store memory
  both_agree agrees q c (inl cell, inl (inl set)) = agrees q c (cell, inl set)
  both_agree agrees q c (inl cell, inr library) = agrees q c (cell, inr library)
  both_agree agrees q c (inl cell, inl (inr there)) =
      let source = source_is there.0 c there.1 in
      let same : same_place there.0 q ≡ (c == c) = (source.1 q c cell).0 in
      subst (λ r. (memory c ≡ store r) × FitsSigned w32 (store r)) (places_same there.0 q (same ∙ eq-eqb c c refl)) source.0
  both_agree agrees q c (inr source, known) = (source_is q c source).0

  -- the object is copied to one of the cells'
  pub copy_across : (q : Place) (to : ℕ) → Lies Cell s q to → Agree (Within Cell Set) store memory
      → Agree (Within Cell (With Set to (words s))) (copied_store s p q store) (copied (words s) from to memory)
  copy_across q to lies agrees r c here =
      copy_agrees Both both_apart s Known p q from to store memory
      (lies_among (Within Both Known) s p from (λ z e g. (inr g, inl (inr (z, g))))) (lies_more Cell Both (λ z e g. inl g) s q to lies) (both_agree agrees) r c
      (inl here.0, more here.1)
    where
      more : With Set to (words s) c ⊎ (r.frame ≡ 0) → With Known to (words s) c ⊎ (r.frame ≡ 0)
      more (inl (inl set)) = inl (inl (inl set))
      more (inl (inr there)) = inl (inr there)
      more (inr library) = inr library
