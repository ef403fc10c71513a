-- What the walk adds to its state: lists grow at their front, and numbers are given in turn.
use Rattle.std.specs.Prelude.{◌≡◌, ◌+◌, ℕ, List, [], ◌∷◌, ◌++◌, map, length}
use Rattle.ada_rules.specs.Environment.{State}

-- a list with others in front of it
pub record IsLonger {X : Type 0} (xs ys : List X) : Type 0 where
  pub more : List X
  pub is : ys ≡ more ++ xs

-- these are the numbers below n, the greatest first
abbrev pub CountsDown : ℕ → List ℕ → Type 0
CountsDown n [] = n ≡ 0
CountsDown n (x ∷ xs) = (n ≡ x + 1) × CountsDown x xs

-- objects of the library level and exceptions are numbered in the order in which they are declared
abbrev pub AreObjectsNumbered : State → Type 0
AreObjectsNumbered s = CountsDown s.library_objects (map (λ o. o.declaration) s.objects_declared)

abbrev pub AreExceptionsNumbered : State → Type 0
AreExceptionsNumbered s = CountsDown s.exceptions (map (λ e. e.declaration) s.exceptions_declared)

-- Declarations and statements add demands, types, objects, constants and exceptions; subprograms, instances and units
-- stay what they are.
pub record Adds (s t : State) : Type 0 where
  pub demands : IsLonger s.demands t.demands
  pub types : IsLonger s.types_declared t.types_declared
  pub objects : IsLonger s.objects_declared t.objects_declared
  pub constants : IsLonger s.constants_declared t.constants_declared
  pub exceptions : IsLonger s.exceptions_declared t.exceptions_declared
  pub objects_numbered : AreObjectsNumbered s → AreObjectsNumbered t
  pub exceptions_numbered : AreExceptionsNumbered s → AreExceptionsNumbered t
  pub subprograms : t.subprograms ≡ s.subprograms
  pub subprogram_words : t.subprogram_words ≡ s.subprogram_words
  pub instances : t.instances_declared ≡ s.instances_declared
  pub unit_words : t.unit_words ≡ s.unit_words

-- Units add subprograms, instances, and what stands in units, too.
pub record Extends (s t : State) : Type 0 where
  pub demands : IsLonger s.demands t.demands
  pub types : IsLonger s.types_declared t.types_declared
  pub objects : IsLonger s.objects_declared t.objects_declared
  pub constants : IsLonger s.constants_declared t.constants_declared
  pub exceptions : IsLonger s.exceptions_declared t.exceptions_declared
  pub objects_numbered : AreObjectsNumbered s → AreObjectsNumbered t
  pub exceptions_numbered : AreExceptionsNumbered s → AreExceptionsNumbered t
  pub subprograms : IsLonger s.subprograms t.subprograms
  pub subprogram_words : IsLonger s.subprogram_words t.subprogram_words
  pub instances : IsLonger s.instances_declared t.instances_declared
  pub unit_words : IsLonger s.unit_words t.unit_words

-- So many bodies were looked at, and each made a subprogram; no instance was made.
pub record AddsBodies (bodies : ℕ) (s t : State) : Type 0 where
  pub extends : Extends s t
  pub subprograms : length t.subprograms ≡ length s.subprograms + bodies
  pub instances : t.instances_declared ≡ s.instances_declared

-- what other units see of units makes no subprogram, and so many instances
pub record AddsInterfaces (made : ℕ) (s t : State) : Type 0 where
  pub extends : Extends s t
  pub subprograms : t.subprograms ≡ s.subprograms
  pub instances : length t.instances_declared ≡ length s.instances_declared + made
