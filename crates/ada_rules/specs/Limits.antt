-- The counted limits: conditions of a decision, parameters, and words of a type, of a subprogram and of the library
-- level. A limit is passed at the first token of the smallest construct that takes the count past it.
use Rattle.std.specs.Prelude.{ℕ, nat_eq, nat_le, ◌+◌, ◌*◌, Bool, List, [], ◌∷◌, Option, Some, None, if◌then◌else◌}
use Rattle.cov_base.specs.TextOrder.{precedes}
use Rattle.cov_base.specs.declared.position.Pos.{Pos}
use Rattle.ada_syntax.specs.declared.unit.Unit.{Unit as LibraryUnit}
use Rattle.ada_meaning.specs.Arithmetic.{count_between}
use Rattle.ada_meaning.specs.Program.{Bounds}
use Rattle.ada_meaning.specs.Types.{Subtype, scalar, array, fields, subtype_of, Components, no_component, and_component}
use Rattle.ada_rules.specs.Statics.{Facts, bounds_in, places_of}
use Rattle.ada_rules.specs.Environment.{Interface, instance_interface, World, interface_of, Words, Declares, UnitWords, State}

abbrev pub most_words_of_subprogram : ℕ
most_words_of_subprogram = 2048

abbrev pub most_words_of_library : ℕ
most_words_of_library = 262144

abbrev pub most_words_of_type : ℕ
most_words_of_type = 262144

abbrev pub length_of : Option Bounds → ℕ
length_of None = 0
length_of (Some b) = count_between b.low b.high

module _ (instances : List Facts) where
  abbrev mutual
    -- a scalar has one word, an array those of its components, a record those of its components
    pub words_in : ℕ → Subtype → ℕ
    words_in inst (scalar r) = 1
    words_in inst (array r t) = length_of (bounds_in instances inst r) * words_in inst t
    words_in inst (fields cs) = words_in_fields inst cs
    words_in inst (subtype_of i t) = words_in i t

    pub words_in_fields : ℕ → Components → ℕ
    words_in_fields inst no_component = 0
    words_in_fields inst (and_component t cs) = words_in inst t + words_in_fields inst cs

  -- the first of these objects at which the count passes a limit, in an instance
  abbrev pub first_beyond : (most : ℕ) → ℕ → ℕ → List Words → Option Pos
  first_beyond most inst before [] = None
  first_beyond most inst before (w ∷ ws) =
      if nat_le (before + words_in inst w.subtype) most
      then first_beyond most inst (before + words_in inst w.subtype) ws
      else Some w.place

  abbrev pub first_in_some : (most : ℕ) → List ℕ → List Words → Option Pos
  first_in_some most [] ws = None
  first_in_some most (i ∷ is) ws = earlier (first_beyond most i 0 ws) (first_in_some most is ws) where
    earlier : Option Pos → Option Pos → Option Pos
    earlier None b = b
    earlier (Some p) None = Some p
    earlier (Some p) (Some q) = if precedes q p then Some q else Some p

  abbrev pub beyond : (most : ℕ) → Declares → Option Pos
  beyond most d = first_in_some most (places_of instances d.generic) d.words

  abbrev pub sum_in : ℕ → List Subtype → ℕ
  sum_in inst [] = 0
  sum_in inst (t ∷ ts) = words_in inst t + sum_in inst ts

  -- the words of a generic's text in an instance, and of a unit that is in no generic
  abbrev pub is_text_of : ℕ → UnitWords → Bool
  is_text_of g u = nat_eq g u.package_unit

  abbrev pub words_of_generic : ℕ → ℕ → List UnitWords → ℕ
  words_of_generic inst g [] = 0
  words_of_generic inst g (u ∷ us) =
      if is_text_of g u then sum_in inst u.words + words_of_generic inst g us else words_of_generic inst g us

  abbrev pub own_words : Option ℕ → List Subtype → ℕ
  own_words None ts = sum_in 0 ts
  own_words (Some g) ts = 0

  abbrev pub words_of_unit : ℕ → List UnitWords → ℕ
  words_of_unit n [] = 0
  words_of_unit n (u ∷ us) =
      if nat_eq n u.unit then own_words u.generic u.words + words_of_unit n us else words_of_unit n us

  abbrev pub words_by : ℕ → Interface → List UnitWords → ℕ
  words_by n (instance_interface (Some g) inst actuals) us = words_of_generic inst g us
  words_by n i us = words_of_unit n us

abbrev pub earlier_of : Option Pos → Option Pos → Option Pos
earlier_of None b = b
earlier_of (Some p) None = Some p
earlier_of (Some p) (Some q) = if precedes q p then Some q else Some p

abbrev pub first_place : List Pos → Option Pos
first_place [] = None
first_place (p ∷ ps) = earlier_of (Some p) (first_place ps)

abbrev pub first_declared : List Facts → (most : ℕ) → List Declares → Option Pos
first_declared instances most [] = None
first_declared instances most (d ∷ ds) = earlier_of (beyond instances most d) (first_declared instances most ds)

-- the first unit at which the words of the library level pass their limit; a generic counts at its instances
abbrev pub first_unit : World → List UnitWords → ℕ → ℕ → List LibraryUnit → Option Pos
first_unit w us n before [] = None
first_unit w us n before (u ∷ rest) =
    if nat_le (before + words_by w.instances n (interface_of w n) us) most_words_of_library
    then first_unit w us (n + 1) (before + words_by w.instances n (interface_of w n) us) rest
    else Some u.pos

abbrev pub first_excess : World → State → List LibraryUnit → Option Pos
first_excess w s units =
    earlier_of (first_place s.excesses) (earlier_of (first_declared w.instances most_words_of_type s.types_declared)
    (earlier_of (first_declared w.instances most_words_of_subprogram s.subprogram_words) (first_unit w s.unit_words 0 0 units)))
