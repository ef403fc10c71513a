-- The cells of objects that stand in memory.
use Rattle.std.specs.Prelude.{◌≡◌, ℕ, zero, suc, ◌+◌, ◌≤◌, ◌<◌, nat_eq, Bool, false, ◌&&◌, ◌⊎◌, ℤ, pos, ◌+ℤ◌, ◌-ℤ◌, List, [], ◌∷◌}
use Rattle.cov_base.specs.Lists.{Everywhere}
use Rattle.ada_meaning.specs.Arithmetic.{count_between}
use Rattle.ada_meaning.specs.Program.{Bounds}
use Rattle.ada_meaning.specs.Shape.{Shape, word, row, group, Shapes, no_shape, and_shape}
use Rattle.ada_meaning.specs.State.{Place, part_at}
use Rattle.ada_resolved.specs.Sizes.{words}
use Rattle.statement_code.specs.Cells.{Cells}

-- what holds of one of n components from an index on, which stand from an address on, so many words apart
abbrev pub AnyOf : (n : ℕ) → ℤ → (address step : ℕ) → (ℤ → ℕ → Type 0) → Type 0
AnyOf zero i a step P = ⊥
AnyOf (suc n) i a step P = P i a ⊎ AnyOf n (i +ℤ pos 1) (a + step) step P

abbrev mutual
  -- the cells of an object of a shape, which stands at an address
  pub Among : Shape → Place → (address : ℕ) → Cells
  Among (word b) p a q c = (q ≡ p) × (c ≡ a)
  Among (row b s) p a q c = AnyOf (count_between b.low b.high) b.low a (words s) (λ i d. Among s (part_at i p) d q c)
  Among (group ss) p a q c = AmongAll ss (pos 0) p a q c

  -- those of the components of a record from number i on
  pub AmongAll : Shapes → ℤ → Place → (address : ℕ) → Cells
  AmongAll no_shape i p a q c = ⊥
  AmongAll (and_shape s ss) i p a q c = Among s (part_at i p) a q c ⊎ AmongAll ss (i +ℤ pos 1) p (a + words s) q c

-- an object in memory: its place, its shape, and the address of its first word
pub record Standing : Type 0 where
  pub place : Place
  pub shape : Shape
  pub address : ℕ

-- the cells of objects
abbrev pub CellsOf : List Standing → Cells
CellsOf [] q c = ⊥
CellsOf (o ∷ os) q c = Among o.shape o.place o.address q c ⊎ CellsOf os q c

-- whether two places are of one object
abbrev pub same_object : Place → Place → Bool
same_object p q = nat_eq p.frame q.frame && nat_eq p.instance q.instance && nat_eq p.declaration q.declaration

-- two objects, whose words lie apart
abbrev pub StandApart : Standing → Standing → Type 0
StandApart o r =
    (same_object o.place r.place ≡ false)
    × ((o.address + words o.shape ≤ r.address) ⊎ (r.address + words r.shape ≤ o.address))

-- objects of which each two are apart
abbrev pub AllApart : List Standing → Type 0
AllApart [] = Unit {0}
AllApart (o ∷ os) = Everywhere (StandApart o) os × AllApart os

-- the shape of the component with this number, and the words of those before it
abbrev pub component_of : Shapes → ℕ → Shape
component_of no_shape n = group no_shape
component_of (and_shape s ss) zero = s
component_of (and_shape s ss) (suc n) = component_of ss n

abbrev pub words_before : Shapes → ℕ → ℕ
words_before no_shape n = 0
words_before (and_shape s ss) zero = 0
words_before (and_shape s ss) (suc n) = words s + words_before ss n

-- whether a record has a component with this number
abbrev pub HasComponent : Shapes → ℕ → Type 0
HasComponent no_shape n = ⊥
HasComponent (and_shape s ss) zero = Unit {0}
HasComponent (and_shape s ss) (suc n) = HasComponent ss n

-- an index value stands so many places behind the first one of its range
pub record IsPlaced (b : Bounds) (x : ℤ) (k : ℕ) : Type 0 where
  pub less : k < count_between b.low b.high
  pub is : x ≡ b.low +ℤ pos k
  pub behind : x -ℤ b.low ≡ pos k
