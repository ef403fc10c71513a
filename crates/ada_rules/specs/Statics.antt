-- Static expressions (Ada RM 2012, 4.9), and what the rules demand of their values: a demand is met in each instance of
-- the generic in whose text it stands, or, where it stands in none, once.
use Rattle.std.specs.Prelude.{ℕ, zero, suc, nat_eq, ℤ, pos, ◌+ℤ◌, int_lt, int_le, ◌+◌, Bool, false, ◌&&◌, ◌||◌, List, [], ◌∷◌, ◌++◌, Option, Some, None, option_map, slice_get, unwrap_or, if◌then◌else◌}
use Rattle.std.specs.Option.{option_and_then, option_or}
use Rattle.cov_base.specs.declared.position.Pos.{Pos}
use Rattle.ada_meaning.specs.Arithmetic.{is_within}
use Rattle.ada_meaning.specs.Program.{Bounds, GenericConstant}
use Rattle.ada_meaning.specs.Statics.{InstanceValues, in_base, bounds_between, static_value, static_bounds, constant_values, constants_of}
use Rattle.ada_meaning.specs.Tree.{Choice, value_choice, range_choice, other_values}
use Rattle.ada_meaning.specs.Types.{Static, Range}

-- a static value has to lie in a range
pub record Owed : Type 0 where
  pub value : Static
  pub range : Range

-- the values that a case statement names (RM 5.4)
pub data Spans : Type 0 where
  within : Range → Spans
  -- those of the type that an instance has for the formal type with this place
  formal_values : ℕ → Spans
  -- those of the result of the subprogram that an instance has for the formal one with this place
  result_values : ℕ → Spans
  -- those between two bounds where both are static, and else others
  between_static : Static → Static → Spans → Spans

-- what a rule asks of static values
pub data Test : Type 0 where
  lies_in : Owed → Test
  chosen_in : Static → Spans → Test
  in_order : (low high : Static) → Test
  -- each value is named by one choice, or by none where there is an `others`
  covers : Spans → (others : Bool) → List Choice → Test

-- a demand: the first token of the construct that makes it, and the generic in whose text it stands
pub record Demand : Type 0 where
  pub place : Pos
  pub generic : Option ℕ
  pub test : Test

-- demands in the order in which they are made, with the instances where they stand among them
pub data Asked : Type 0 where
  asked : Demand → Asked
  instantiated : (generic instance : ℕ) → Asked

-- an instance that was made
pub record Made : Type 0 where
  pub generic : ℕ
  pub instance : ℕ

abbrev pub stands_in : Option ℕ → Option ℕ → Bool
stands_in (Some g) (Some h) = nat_eq g h
stands_in g h = false

-- the instances of a generic among these, or, for what stands in none, instance 0
abbrev pub made_of : ℕ → List Made → List ℕ
made_of g [] = []
made_of g (m ∷ ms) = if nat_eq m.generic g then m.instance ∷ made_of g ms else made_of g ms

abbrev pub looked_in : List Made → Option ℕ → List ℕ
looked_in made None = 0 ∷ []
looked_in made (Some g) = made_of g made

-- what an instance has for a formal, in numbers: a value, the bounds of a subtype and of its type, or those of a
-- function's result
pub data Fact : Type 0 where
  number_fact : ℤ → Fact
  type_fact : (subtype type : Bounds) → Fact
  result_fact : Bounds → Fact

-- those of an instance, with the number of its generic, and the values of the generic's constants
pub record Facts : Type 0 where
  pub generic : ℕ
  pub formals : List Fact
  pub constants : List (Option ℤ)

abbrev pub number_of_fact : Option Fact → Option ℤ
number_of_fact (Some (number_fact x)) = in_base x
number_of_fact f = None

abbrev pub bounds_of_fact : Option Fact → Option Bounds
bounds_of_fact (Some (type_fact b c)) = Some b
bounds_of_fact f = None

abbrev pub type_bounds_of_fact : Option Fact → Option Bounds
type_bounds_of_fact (Some (type_fact b c)) = Some c
type_bounds_of_fact f = None

abbrev pub result_bounds_of_fact : Option Fact → Option Bounds
result_bounds_of_fact (Some (result_fact b)) = Some b
result_bounds_of_fact f = None

abbrev pub fact_in : List Facts → ℕ → ℕ → Option Fact
fact_in instances zero k = None
fact_in instances (suc n) k = option_and_then (λ i. slice_get i.formals k) (slice_get instances n)

abbrev pub constant_in : List Facts → ℕ → ℕ → Option ℤ
constant_in instances zero k = None
constant_in instances (suc n) k =
    option_and_then (λ i. unwrap_or (slice_get i.constants k) None) (slice_get instances n)

-- what instances have, where these are all
abbrev pub instance_values : List Facts → InstanceValues
instance_values instances = record {
  object = λ n k. number_of_fact (fact_in instances n k);
  type = λ n k. bounds_of_fact (fact_in instances n k);
  constant = constant_in instances;
}

-- with the values of its generic's constants, for the instance with this number, where these are all instances and all
-- constants so far
abbrev pub with_constants : List Facts → List GenericConstant → ℕ → Facts → Facts
with_constants instances cs n f =
    record f { constants = constant_values (instance_values instances) n [] (constants_of f.generic cs) }

-- Values in an instance, where these are all instances (0: in none).
module _ (instances : List Facts) where
  abbrev pub value_in : ℕ → Static → Option ℤ
  value_in inst e = static_value (instance_values instances) inst e

  abbrev pub bounds_in : ℕ → Range → Option Bounds
  bounds_in inst r = static_bounds (instance_values instances) inst r

  abbrev pub is_in : Option ℤ → Option Bounds → Bool
  is_in (Some x) (Some b) = is_within b x
  is_in x b = false

  abbrev pub is_met : ℕ → Owed → Bool
  is_met inst o = is_in (value_in inst o.value) (bounds_in inst o.range)

  abbrev pub bounds_or : Option Bounds → Option Bounds → Option Bounds
  bounds_or None c = c
  bounds_or (Some b) c = Some b

  abbrev pub spans_in : ℕ → Spans → Option Bounds
  spans_in inst (within r) = bounds_in inst r
  spans_in inst (formal_values k) = type_bounds_of_fact (fact_in instances inst k)
  spans_in inst (result_values k) = result_bounds_of_fact (fact_in instances inst k)
  spans_in inst (between_static a b other) =
      bounds_or (bounds_between (value_in inst a) (value_in inst b)) (spans_in inst other)

  abbrev pub is_ordered : Option Bounds → Bool
  is_ordered None = false
  is_ordered (Some b) = int_le b.low b.high

  -- what a choice names
  abbrev pub named_by : ℕ → Choice → List Bounds → List Bounds
  named_by inst (value_choice e) bs =
      unwrap_or (option_map (λ x. record { low = x; high = x } ∷ bs) (value_in inst e)) bs
  named_by inst (range_choice e f) bs =
      unwrap_or (option_map (λ b. b ∷ bs) (bounds_between (value_in inst e) (value_in inst f))) bs
  named_by inst other_values bs = bs

  abbrev pub placed : Bounds → List Bounds → List Bounds
  placed b [] = b ∷ []
  placed b (c ∷ cs) = if int_le b.low c.low then b ∷ c ∷ cs else c ∷ placed b cs

  abbrev pub sorted : List Bounds → List Bounds
  sorted [] = []
  sorted (b ∷ bs) = placed b (sorted bs)

  abbrev pub all_named : ℕ → List Choice → List Bounds
  all_named inst [] = []
  all_named inst (c ∷ cs) = named_by inst c (all_named inst cs)

  -- whether each value from `next` to `last` is named by one of these, in the order of their first values
  abbrev pub named_once : (others : Bool) → (next last : ℤ) → List Bounds → Bool
  named_once others next last [] = others || int_lt last next
  named_once others next last (b ∷ bs) =
      int_le next b.low && int_le b.high last && (others || int_le b.low next) && named_once others (b.high +ℤ pos 1) last bs

  abbrev pub is_covered : ℕ → Bool → List Choice → Option Bounds → Bool
  is_covered inst others cs None = false
  is_covered inst others cs (Some b) = named_once others b.low b.high (sorted (all_named inst cs))

  abbrev pub holds : ℕ → Test → Bool
  holds inst (lies_in o) = is_met inst o
  holds inst (chosen_in e spans) = is_in (value_in inst e) (spans_in inst spans)
  holds inst (in_order e f) = is_ordered (bounds_between (value_in inst e) (value_in inst f))
  holds inst (covers spans others cs) = is_covered inst others cs (spans_in inst spans)

  -- the instances of a generic, numbered from n on
  abbrev pub instances_from : ℕ → ℕ → List Facts → List ℕ
  instances_from n g [] = []
  instances_from n g (i ∷ is) =
      if nat_eq i.generic g then n ∷ instances_from (n + 1) g is else instances_from (n + 1) g is

  -- the instances in which something that stands in this generic is looked at
  abbrev pub places_of : Option ℕ → List ℕ
  places_of None = 0 ∷ []
  places_of (Some g) = instances_from 1 g instances

  -- where a demand is made that fails in one of these instances
  abbrev pub failing : List ℕ → Demand → Option Pos
  failing [] d = None
  failing (i ∷ is) d = if holds i d.test then failing is d else Some d.place

  -- the first of these demands of a generic that fails in an instance
  abbrev pub failing_in : ℕ → ℕ → List Demand → Option Pos
  failing_in g i [] = None
  failing_in g i (d ∷ ds) =
      option_or (if stands_in (Some g) d.generic then failing (i ∷ []) d else None) (failing_in g i ds)

  -- the first demand that is not met, where these demands and these instances came before
  abbrev pub unmet_behind : List Demand → List Made → List Asked → Option Pos
  unmet_behind before made [] = None
  unmet_behind before made (asked d ∷ rest) =
      option_or (failing (looked_in made d.generic) d) (unmet_behind (before ++ d ∷ []) made rest)
  unmet_behind before made (instantiated g i ∷ rest) =
      option_or (failing_in g i before) (unmet_behind before (record { generic = g; instance = i } ∷ made) rest)

-- The first demand that is not met. A demand of a generic's text is asked in each instance after the demands on its
-- actuals.
abbrev pub first_unmet : List Facts → List Asked → Option Pos
first_unmet instances xs = unmet_behind instances [] [] xs
