-- Arrays and records: copies by parts, first values, aggregates, attributes, parameters.
use Rattle.std.specs.Prelude.{ℕ, pos, [], ◌∷◌}
use Rattle.ada_meaning.specs.Types.{Range, between, static_number, static_length, Subtype, scalar, array, fields, no_component, and_component, here}
use Rattle.ada_meaning.specs.Tree.{Expr, read, attribute, Parts, whole, component, element, local_object, subprogram, no_actual, by_composite, assignment, procedure_call, scalar_value, composite_value, others_value, initialized, without_value, block_statement, block, no_handler}
use Rattle.ada_meaning.specs.Program.{Mode, in_mode, out_mode, in_out_mode, Parameter, Program}
use Rattle.ada_meaning.specs.Execution.{by_return}
use Rattle.meaning_examples.specs.Writing.{at, integer, positive, number, plus, minus, ◌next◌, ended_here, put, on_exception, body, plain, starts, Shows}

abbrev pub pair : Subtype
pair = fields (and_component (scalar integer) (and_component (scalar positive) no_component))

abbrev pub one_two : Range
one_two = between (static_number (pos 1)) (static_number (pos 2))

abbrev pub zero_two : Range
zero_two = between (static_number (pos 0)) (static_number (pos 2))

abbrev pub pairs : Subtype
pairs = array one_two pair

abbrev pub tab : Subtype
tab = array zero_two (scalar positive)

-- (N), and (N).A or (N).B
abbrev pub nth : ℕ → Parts → Parts
nth n parts = element one_two (number n) parts

abbrev pub a_of : Parts
a_of = component 0 whole

abbrev pub b_of : Parts
b_of = component 1 whole

abbrev pub tab_part : ℕ → Expr
tab_part n = read (local_object 2) (element zero_two (number n) whole)

-- with Test_IO;
-- procedure Copies is
--    type Pair is record
--       A : Integer;
--       B : Positive;
--    end record;
--    type Pairs is array (1 .. 2) of Pair;
--    type Tab is array (0 .. 2) of Positive;
--    R, S : Pairs;
--    T : Tab := (others => 7);
-- begin
--    S (2).A := 5;
--    R := S;
--    S (2).A := 6;
--    Test_IO.Put (R (2).A);
--    Test_IO.Put (R (1).B);
--    Test_IO.Put (R'Length);
--    begin
--       T := (others => T (0) - 4);
--    exception
--       when Constraint_Error => Test_IO.Put (T (0));
--    end;
--    Test_IO.Put (T (1));
-- end Copies;
abbrev pub copies : Program
copies = plain
    (body [] (without_value 0 pairs ∷ without_value 1 pairs ∷ initialized (at 0 10 4) 2 (others_value zero_two (scalar_value positive (number 7))) ∷ [])
    (assignment (at 1 12 4) (local_object 1) (nth 2 a_of) (scalar_value integer (number 5))
    next assignment (at 2 13 4) (local_object 0) whole (composite_value pairs (local_object 1) whole)
    next assignment (at 3 14 4) (local_object 1) (nth 2 a_of) (scalar_value integer (number 6))
    next put (at 4 15 4) (read (local_object 0) (nth 2 a_of))
    next put (at 5 16 4) (read (local_object 0) (nth 1 b_of))
    next put (at 6 17 4) (attribute (local_object 0) whole (static_length one_two))
    next block_statement (block []
    (assignment (at 7 19 7) (local_object 2) whole (others_value zero_two (scalar_value positive (minus (tab_part 0) (number 4)))) next ended_here)
    (on_exception 1 (put (at 8 21 32) (tab_part 0) next ended_here) no_handler))
    next put (at 9 23 4) (tab_part 1)
    next ended_here)
    no_handler
    ∷ [])
    0

-- T (0) is set to 3 before T (0) - 4 fails its check for T (1)
abbrev pub ByParts : Type 0
ByParts = Shows copies 1 [] by_return (pos 5 ∷ pos 1 ∷ pos 2 ∷ pos 3 ∷ pos 7 ∷ [])
    (starts 0 ∷ starts 1 ∷ starts 2 ∷ starts 3 ∷ starts 4 ∷ starts 5 ∷ starts 6 ∷ starts 7 ∷ starts 8 ∷ starts 9 ∷ [])

abbrev pub tab_by : Mode → ℕ → Parameter
tab_by mode d = record { declaration = d; mode = mode; subtype = tab }

abbrev pub at_index : ℕ → ℕ → Expr
at_index d n = read (local_object d) (element zero_two (number n) whole)

-- package Tabs is
--    type Tab is array (0 .. 2) of Positive;
-- end Tabs;
-- with Test_IO; with Tabs;
-- procedure Add (X : Tabs.Tab; Y : in out Tabs.Tab; Z : out Tabs.Tab) is
-- begin
--    Y (0) := X (0) + Y (0);
--    Test_IO.Put (Z (1));
--    Z (2) := X (2);
-- end Add;
-- with Test_IO; with Tabs; with Add;
-- procedure By_Copy is
--    P : Tabs.Tab := (others => 3);
--    Q : Tabs.Tab := (others => 4);
--    R : Tabs.Tab := (others => 5);
-- begin
--    Add (P, Q, R);
--    Test_IO.Put (Q (0));
--    Test_IO.Put (R (0));
--    Test_IO.Put (R (2));
-- end By_Copy;
abbrev pub by_copy : Program
by_copy = plain
    (body (tab_by in_mode 0 ∷ tab_by in_out_mode 1 ∷ tab_by out_mode 2 ∷ []) []
    (assignment (at 0 7 4) (local_object 1) (element zero_two (number 0) whole) (scalar_value positive (plus (at_index 0 0) (at_index 1 0)))
    next put (at 1 8 4) (at_index 2 1)
    next assignment (at 2 9 4) (local_object 2) (element zero_two (number 2) whole) (scalar_value positive (at_index 0 2))
    next ended_here)
    no_handler
    ∷ body []
    (initialized (at 3 13 4) 3 (others_value zero_two (scalar_value positive (number 3)))
    ∷ initialized (at 4 14 4) 4 (others_value zero_two (scalar_value positive (number 4)))
    ∷ initialized (at 5 15 4) 5 (others_value zero_two (scalar_value positive (number 5))) ∷ [])
    (procedure_call (at 6 17 4) (subprogram here 0)
    (by_composite (local_object 3) whole (by_composite (local_object 4) whole (by_composite (local_object 5) whole no_actual)))
    next put (at 7 18 4) (at_index 4 0)
    next put (at 8 19 4) (at_index 5 0)
    next put (at 9 20 4) (at_index 5 2)
    next ended_here)
    no_handler
    ∷ [])
    1

-- a composite parameter of mode out begins with first values, and all its parts are copied back
abbrev pub CompositeParameters : Type 0
CompositeParameters = Shows by_copy 2 [] by_return (pos 1 ∷ pos 7 ∷ pos 1 ∷ pos 3 ∷ [])
    (starts 3 ∷ starts 4 ∷ starts 5 ∷ starts 6 ∷ starts 0 ∷ starts 1 ∷ starts 2 ∷ starts 7 ∷ starts 8 ∷ starts 9 ∷ [])
