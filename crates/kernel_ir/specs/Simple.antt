-- What operations do that hold no others.
use Rattle.std.specs.Prelude.{ℕ, zero, suc, ◌+◌, ℤ, pos, neg_ℤ, ◌+ℤ◌, ◌-ℤ◌, ◌*ℤ◌, nat_abs, int_le, Bool, not, ◌&&◌, List, [], ◌∷◌, length, if◌then◌else◌}
use Rattle.std.specs.Ordering.{int_eq}
use Rattle.std.specs.Int.{w32, int_wrap}
use Rattle.cov_base.specs.declared.event.Event.TheVariants.{Start}
use Rattle.ada_meaning.specs.Types as ada
use Rattle.ada_meaning.specs.Arithmetic.{base_range, is_within, exact, divides, holds, number_of_truth, is_true, natural}
use Rattle.kernel_ir.specs.declared.kernel.Layout.{Layout}
use Rattle.kernel_ir.specs.declared.simple.Simple.{Simple}
use Rattle.kernel_ir.specs.declared.simple.Simple.TheVariants as simple
use Rattle.kernel_ir.specs.declared.simple.Operator.{Operator}
use Rattle.kernel_ir.specs.declared.simple.Operator.TheVariants as operator
use Rattle.kernel_ir.specs.declared.simple.Relation.{Relation}
use Rattle.kernel_ir.specs.declared.simple.Relation.TheVariants as relation
use Rattle.kernel_ir.specs.World.{Memory, World, Ended, Ends, Raises, data_word, in_area, slot_word, with_word, with_memory, with_input, paid, noted, with_output, slot_in, with_slot}
use Rattle.kernel_ir.specs.Layouts.{Content, content_in}

-- the predefined operators and relations
abbrev pub operator_of : Operator → ada.Operator
operator_of operator.Add = ada.addition
operator_of operator.Subtract = ada.subtraction
operator_of operator.Multiply = ada.multiplication
operator_of operator.Divide = ada.division
operator_of operator.Modulo = ada.modulus
operator_of operator.Remainder = ada.remainder

abbrev pub relation_of : Relation → ada.Relation
relation_of relation.Equal = ada.equal
relation_of relation.Unequal = ada.unequal
relation_of relation.Less = ada.less
relation_of relation.AtMost = ada.at_most
relation_of relation.Greater = ada.greater
relation_of relation.AtLeast = ada.at_least

-- a memory after so many words were copied, one after another, rising
abbrev pub copied : (words : ℕ) → (from to : ℕ) → Memory → Memory
copied zero from to memory = memory
copied (suc n) from to memory = copied n (from + 1) (to + 1) (with_word to (memory from) memory)

-- a memory with these words from an address on
abbrev pub filled : List ℤ → (to : ℕ) → Memory → Memory
filled [] to memory = memory
filled (x ∷ xs) to memory = filled xs (to + 1) (with_word to x memory)

-- an exception is raised, at the cost of one
abbrev pub fails : ℕ → World → Ended
fails e w = Raises e (paid 1 w)

-- where a test holds, a state at the cost of one; else Constraint_Error
abbrev pub if_valid : Bool → (World → World) → World → Ended
if_valid valid f w = if valid then Ends (f (paid 1 w)) else fails 1 w

-- where a test holds, a state at a cost; else Program_Error
abbrev pub if_inside : Bool → (cost : ℕ) → (World → World) → World → Ended
if_inside inside cost f w = if inside then Ends (f (paid cost w)) else fails 2 w

-- the number of an exception, from 1 to the greatest one; that of Program_Error for what is none
abbrev pub exception_number : (exceptions : ℕ) → ℤ → ℕ
exception_number exceptions x = if int_le (pos 1) x && int_le x (pos exceptions) then natural x else 2

module _ (layouts : List Layout) (exceptions fp : ℕ) where
  -- sets a slot to a number
  abbrev pub sets : (slot : ℕ) → ℤ → World → Ended
  sets k x w = Ends (with_slot fp k x (paid 1 w))

  -- sets a slot to a number that is a word, and raises Constraint_Error for one that is none
  abbrev pub sets_word : (slot : ℕ) → ℤ → World → Ended
  sets_word k x w = if_valid (is_within base_range x) (with_slot fp k x) w

  -- an operation: a divisor of 0 and a result that is no word raise Constraint_Error
  abbrev pub operates : ada.Operator → (slot : ℕ) → (x y : ℤ) → World → Ended
  operates o k x y w = if divides o && int_eq y (pos 0) then fails 1 w else sets_word k (exact o x y) w

  -- sets the words from an address on to those of a layout
  abbrev pub fills : Content → ℤ → World → Ended
  fills c address w =
      if_inside (in_area address (length c.words)) (1 + c.cost) (λ v. with_memory (filled c.words (natural address) v.memory) v) w

  -- sets a slot to the next word of the input, and raises End_Error at its end
  abbrev pub takes : (slot : ℕ) → List ℤ → World → Ended
  takes k [] w = fails 4 w
  takes k (x ∷ xs) w = Ends (with_slot fp k x (with_input xs (paid 1 w)))

  -- what an operation does
  abbrev pub does_simple : Simple → World → Ended
  does_simple (simple.Number k x) w = sets k x w
  does_simple (simple.Move k j) w = sets k (slot_in fp j w) w
  does_simple (simple.Compare r k i j) w = sets k (number_of_truth (holds (relation_of r) (slot_in fp i w) (slot_in fp j w))) w
  does_simple (simple.Complement k j) w = sets k (number_of_truth (not (is_true (slot_in fp j w)))) w
  does_simple (simple.Negate k j) w = sets_word k (neg_ℤ (slot_in fp j w)) w
  does_simple (simple.Absolute k j) w = sets_word k (pos (nat_abs (slot_in fp j w))) w
  does_simple (simple.Arithmetic o k i j) w = operates (operator_of o) k (slot_in fp i w) (slot_in fp j w) w
  does_simple (simple.Within k low high) w =
      if_valid (is_within (record { low = low; high = high }) (slot_in fp k w)) (λ v. v) w
  does_simple (simple.Index k j low high n) w =
      if_valid (is_within (record { low = low; high = high }) (slot_in fp j w))
      (with_slot fp k (int_wrap w32 ((slot_in fp j w -ℤ low) *ℤ pos n))) w
  does_simple (simple.Offset k i j) w = sets k (int_wrap w32 (slot_in fp i w +ℤ slot_in fp j w)) w
  does_simple (simple.Advance k j x) w = sets k (int_wrap w32 (slot_in fp j w +ℤ x)) w
  does_simple (simple.FrameAddress k j) w = sets k (pos (slot_word fp j)) w
  does_simple (simple.LibraryAddress k n) w = sets k (pos (data_word + n)) w
  does_simple (simple.Load k j) w =
      if_inside (in_area (slot_in fp j w) 1) 1 (with_slot fp k (w.memory (natural (slot_in fp j w)))) w
  does_simple (simple.Store j k) w =
      if_inside (in_area (slot_in fp j w) 1) 1
      (λ v. with_memory (with_word (natural (slot_in fp j w)) (slot_in fp k w) v.memory) v) w
  does_simple (simple.ReadLibrary k n) w = sets k (w.memory (data_word + n)) w
  does_simple (simple.WriteLibrary n k) w =
      Ends (with_memory (with_word (data_word + n) (slot_in fp k w) w.memory) (paid 1 w))
  does_simple (simple.Copy k j n) w =
      if_inside (in_area (slot_in fp k w) n && in_area (slot_in fp j w) n) (n + 1)
      (λ v. with_memory (copied n (natural (slot_in fp j w)) (natural (slot_in fp k w)) v.memory) v) w
  does_simple (simple.Fill k l) w = fills (content_in layouts l) (slot_in fp k w) w
  does_simple (simple.Start s i) w = Ends (noted (Start s i) (paid 1 w))
  does_simple (simple.Get k) w = takes k w.input w
  does_simple (simple.Put k) w = Ends (with_output (slot_in fp k w) (paid 1 w))
  does_simple (simple.Raise e) w = fails e w
  does_simple (simple.RaiseSlot k) w = fails (exception_number exceptions (slot_in fp k w)) w
