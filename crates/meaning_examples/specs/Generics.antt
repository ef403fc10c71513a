-- A generic with a formal type, a formal object and a formal subprogram: each instance has its own objects and exceptions. And one with
-- constants, which have values of their own in each instance.
use Rattle.std.specs.Prelude.{◌≡◌, ℕ, ℤ, pos, List, [], ◌∷◌, codes, Option, Some, None}
use Rattle.ada_meaning.specs.Types.{Static, Range, addition, between, static_number, static_formal, static_constant, static_operation, static_first, static_last, formal_range, scalar, here, of_instance}
use Rattle.ada_meaning.specs.Tree.{Expr, constant, read, conversion, library_object, whole, subprogram, formal_subprogram, no_actual, by_expression, Stmt, assignment, procedure_call, scalar_value, raise_statement, declared, handler, named_exception, no_handler, case_statement, value_choice, other_values, alternative, no_alternative, block_statement, block, initialized}
use Rattle.ada_meaning.specs.Program.{Bounds, put_target, actual_type, actual_object, actual_subprogram, GenericConstant, LibraryObject, Instance, static_initial, Subprogram, Program}
use Rattle.ada_meaning.specs.Arithmetic.{base_range}
use Rattle.ada_meaning.specs.Bodies.{Body, bodies_of}
use Rattle.ada_meaning.specs.Obligations.{IsResolved}
use Rattle.ada_meaning.specs.Resolved.{constraint_error}
use Rattle.ada_meaning.specs.Execution.{by_return}
use Rattle.meaning_examples.specs.Writing.{place, at, integer, number, plus, minus, exceeds, asks, ◌next◌, ended_here, put, if_only, body, generic_body, declaring, integer_in, on_exception, var, F, T, starts, starts_in, gives_in, Shows}

-- Ranges.Small and Ranges.Large
abbrev pub small : Range
small = between (static_number (pos 1)) (static_number (pos 3))

abbrev pub large : Range
large = between (static_number (pos 10)) (static_number (pos 100))

-- Item, the first formal
abbrev pub item : Range
item = formal_range 0

-- Last, the object of the generic
abbrev pub last : Expr
last = read (library_object here 0) whole

-- Next, seen from outside
abbrev pub next_of : ℕ → ℕ → ℕ → Stmt
next_of n line instance = procedure_call (at n line 4) (subprogram (of_instance instance) 0) no_actual

-- an instance at a line: its name, the bounds of its type, and its step
abbrev pub counter : List ℕ → ℕ → Range → Bounds → ℕ → Instance
counter name line r b step = record {
  name = name;
  place = place line 1;
  generic = 0;
  actuals = actual_type r b base_range ∷ actual_object (static_number (pos step)) (pos step) ∷ actual_subprogram put_target ∷ [];
  constants = [];
}

-- generic
--    type Item is range <>;
--    Step : Item;
--    with procedure Show (X : Integer);
-- package Counter is
--    Bad : exception;
--    Last : Item := Item'First;
--    procedure Next;
-- end Counter;
-- package body Counter is
--    procedure Next is
--    begin
--       if Last > Item'Last - Step then
--          raise Bad;
--       end if;
--       Last := Last + Step;
--       Show (Integer (Last));
--    end Next;
-- end Counter;
-- package Ranges is
--    type Small is range 1 .. 3;
--    type Large is range 10 .. 100;
-- end Ranges;
-- with Counter; with Ranges; with Test_IO;
-- package C1 is new Counter (Ranges.Small, 1, Test_IO.Put);
-- with Counter; with Ranges; with Test_IO;
-- package C2 is new Counter (Ranges.Large, 50, Test_IO.Put);
-- with Test_IO; with C1; with C2;
-- procedure Count is
-- begin
--    C1.Next;
--    C2.Next;
--    C1.Next;
--    C1.Next;
-- exception
--    when C2.Bad => Test_IO.Put (0);
--    when C1.Bad => Test_IO.Put (1);
-- end Count;
abbrev pub next_one : Subprogram
next_one =
    generic_body 0 [] []
    (if_only (at 0 13 7) (at 0 13 10)
    (asks 13 10 (exceeds last (minus (constant (static_last item)) (constant (static_formal 1)))))
    (raise_statement (at 1 14 10) (declared here 0) next ended_here)
    next assignment (at 2 16 7) (library_object here 0) whole (scalar_value item (plus last (constant (static_formal 1))))
    next procedure_call (at 3 17 7) (formal_subprogram 2) (by_expression (conversion integer last) no_actual)
    next ended_here)
    no_handler

abbrev pub counting : Subprogram
counting =
    body [] []
    (next_of 4 31 1 next next_of 5 32 2 next next_of 6 33 1 next next_of 7 34 1 next ended_here)
    (handler (named_exception (declared (of_instance 2) 0) ∷ []) (put (at 8 36 19) (number 0) next ended_here)
    (handler (named_exception (declared (of_instance 1) 0) ∷ []) (put (at 9 37 19) (number 1) next ended_here)
    no_handler))

abbrev pub count : Program
count = record {
  subprograms = next_one ∷ counting ∷ [];
  main = 1;
  objects = record { declaration = 0; generic = Some 0; subtype = scalar item; initial = static_initial (static_first item) } ∷ [];
  constants = [];
  instances =
      counter (codes "c1") 25 small (record { low = pos 1; high = pos 3 }) 1
      ∷ counter (codes "c2") 27 large (record { low = pos 10; high = pos 100 }) 50
      ∷ [];
  declared = record { declaration = 0; place = place 6 4; generic = Some 0; unit = codes "counter"; name = codes "bad" } ∷ [];
  exceptions = record { instance = 1; declaration = 0 } ∷ record { instance = 2; declaration = 0 } ∷ [];
}

-- each instance counts for itself, and a handler of the other instance's exception doesn't take this one's
abbrev pub OwnObjects : Type 0
OwnObjects = Shows count 2 [] by_return (pos 2 ∷ pos 60 ∷ pos 3 ∷ pos 1 ∷ [])
    (starts 4 ∷ starts_in 1 0 ∷ gives_in 1 0 (F ∷ []) ∷ starts_in 1 2 ∷ starts_in 1 3
    ∷ starts 5 ∷ starts_in 2 0 ∷ gives_in 2 0 (F ∷ []) ∷ starts_in 2 2 ∷ starts_in 2 3
    ∷ starts 6 ∷ starts_in 1 0 ∷ gives_in 1 0 (F ∷ []) ∷ starts_in 1 2 ∷ starts_in 1 3
    ∷ starts 7 ∷ starts_in 1 0 ∷ gives_in 1 0 (T ∷ []) ∷ starts_in 1 1
    ∷ starts 9 ∷ [])

-- Small, a subtype of Scales
abbrev pub few : Range
few = between (static_number (pos 0)) (static_number (pos 9))

-- Step + Step, Twice + Twice and Four, which are static
abbrev pub step : Static
step = static_formal 0

abbrev pub twice : Static
twice = static_constant 0

abbrev pub four : Static
four = static_constant 1

abbrev pub constant_of_scale : Static → Range → GenericConstant
constant_of_scale e r = record { generic = 0; value = e; range = r }

abbrev pub object_of_scale : ℕ → Static → LibraryObject
object_of_scale d e =
    record { declaration = d; generic = Some 0; subtype = scalar integer; initial = static_initial e }

-- an instance at a line: its name, its step, and the values of its constants
abbrev pub scaled : List ℕ → ℕ → ℕ → List (Option ℤ) → Instance
scaled name line x constants = record {
  name = name;
  place = place line 1;
  generic = 0;
  actuals = actual_object (static_number (pos x)) (pos x) ∷ [];
  constants = constants;
}

-- Show, seen from outside, with an argument
abbrev pub show_of : ℕ → ℕ → ℕ → Expr → Stmt
show_of n line instance e =
    procedure_call (at n line 4) (subprogram (of_instance instance) 0) (by_expression e no_actual)

-- generic
--    Step : Integer;
-- package Scale is
--    Twice : constant Integer := Step + Step;
--    Four : constant Integer := Twice + Twice;
--    procedure Show (X : Integer);
-- end Scale;
-- with Scales; with Test_IO;
-- package body Scale is
--    procedure Show (X : Integer) is
--    begin
--       case X is
--          when Four =>
--             declare
--                Few : constant Scales.Small := Four;
--             begin
--                Test_IO.Put (Few);
--             end;
--          when others => Test_IO.Put (Twice);
--       end case;
--    end Show;
-- end Scale;
-- package Scales is
--    subtype Small is Integer range 0 .. 9;
-- end Scales;
-- with Scale;
-- package S1 is new Scale (1);
-- with Scale;
-- package S2 is new Scale (100);
-- with S1; with S2; with Test_IO;
-- procedure Show_All is
-- begin
--    S1.Show (4);
--    S2.Show (4);
--    S2.Show (S2.Four);
-- exception
--    when Constraint_Error => Test_IO.Put (0);
-- end Show_All;
abbrev pub show_all : Program
show_all = record {
  subprograms =
      declaring (scalar few ∷ []) (generic_body 0 (integer_in 0 ∷ []) []
      (case_statement (at 0 12 7) (var 0)
      (alternative (value_choice four ∷ [])
      (block_statement (block (initialized (at 1 15 16) 1 (scalar_value few (read (library_object here 1) whole)) ∷ [])
      (put (at 2 17 16) (var 1) next ended_here)
      no_handler)
      next ended_here)
      (alternative (other_values ∷ []) (put (at 3 19 25) (read (library_object here 0) whole) next ended_here) no_alternative))
      next ended_here)
      no_handler)
      ∷ body [] []
      (show_of 4 33 1 (number 4)
      next show_of 5 34 2 (number 4)
      next show_of 6 35 2 (read (library_object (of_instance 2) 1) whole)
      next ended_here)
      (on_exception constraint_error (put (at 7 37 29) (number 0) next ended_here) no_handler)
      ∷ [];
  main = 1;
  objects = object_of_scale 0 (static_operation addition step step) ∷ object_of_scale 1 (static_operation addition twice twice) ∷ [];
  constants =
      constant_of_scale (static_operation addition step step) integer
      ∷ constant_of_scale (static_operation addition twice twice) integer
      ∷ constant_of_scale four few
      ∷ [];
  instances =
      scaled (codes "s1") 27 1 (Some (pos 2) ∷ Some (pos 4) ∷ Some (pos 4) ∷ [])
      ∷ scaled (codes "s2") 29 100 (Some (pos 200) ∷ Some (pos 400) ∷ None ∷ [])
      ∷ [];
  declared = [];
  exceptions = [];
}

abbrev pub body_at : ℕ → ℕ → Body
body_at i m = record { instance = i; subprogram = m }

-- each instance has its own values of a generic's constants; a constant of a subprogram has none where its initial value is not in its
-- subtype
abbrev pub OwnConstants : Type 0
OwnConstants = Shows show_all 2 [] by_return (pos 4 ∷ pos 200 ∷ pos 0 ∷ [])
    (starts 4 ∷ starts_in 1 0 ∷ starts_in 1 1 ∷ starts_in 1 2
    ∷ starts 5 ∷ starts_in 2 0 ∷ starts_in 2 3
    ∷ starts 6 ∷ starts_in 2 0 ∷ starts_in 2 1
    ∷ starts 7 ∷ [])
    × IsResolved show_all
    × (bodies_of show_all ≡ body_at 1 0 ∷ body_at 2 0 ∷ body_at 0 1 ∷ [])
