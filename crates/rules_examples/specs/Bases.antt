-- The sources that the worked cases begin with, and how a case changes one.
use Rattle.std.specs.Prelude.{ℕ, List, [], ◌∷◌, codes}
use Rattle.rules_examples.specs.Cases.{Lines, ◌⏎◌, Case, Outcome, case_of, changed}

abbrev pub sum_file : Lines
sum_file =
    "with Test_IO;" ⏎
    "procedure Sum is" ⏎
    "   A : Integer;" ⏎
    "   B : Integer := 5;" ⏎
    "   C : constant Integer := Integer'Last;" ⏎
    "begin" ⏎
    "   Test_IO.Get (A);" ⏎
    "   B := (A + B) * 2 - A / 3;" ⏎
    "   Test_IO.Put (B mod 7);" ⏎
    "   Test_IO.Put (-B rem 4 + abs A);" ⏎
    "   null;" ⏎
    "   return;" ⏎
    "end Sum;" ⏎
    []

abbrev pub sum : List Lines
sum = sum_file ∷ []

abbrev pub of_sum : (file first last : ℕ) → Lines → Outcome → Case
of_sum file first last new o = case_of (codes "sum") (changed file first last new sum) o

abbrev pub swap_file : Lines
swap_file =
    "with Test_IO;" ⏎
    "procedure Swap is" ⏎
    "   Left, Right, Keep : Integer;" ⏎
    "   Limit : constant Integer := 100 - 1;" ⏎
    "begin" ⏎
    "   Test_IO.Get (Left);" ⏎
    "   Test_IO.Get (Right);" ⏎
    "   Keep := Left;" ⏎
    "   Left := Right mod Limit;" ⏎
    "   Right := Keep;" ⏎
    "   Test_IO.Put (Left);" ⏎
    "   Test_IO.Put (Right * Limit / (Left + 1));" ⏎
    "end Swap;" ⏎
    []

abbrev pub swap : List Lines
swap = swap_file ∷ []

abbrev pub of_swap : (file first last : ℕ) → Lines → Outcome → Case
of_swap file first last new o = case_of (codes "swap") (changed file first last new swap) o

abbrev pub plain_file : Lines
plain_file =
    "procedure Plain is" ⏎
    "   X : Integer := 1;" ⏎
    "   Y : Integer := -X + 2 * (X - 3);" ⏎
    "begin" ⏎
    "   X := Y - X;" ⏎
    "   Y := X;" ⏎
    "end Plain;" ⏎
    []

abbrev pub plain : List Lines
plain = plain_file ∷ []

abbrev pub of_plain : (file first last : ℕ) → Lines → Outcome → Case
of_plain file first last new o = case_of (codes "plain") (changed file first last new plain) o

abbrev pub walk_file : Lines
walk_file =
    "with Test_IO;" ⏎
    "procedure Walk is" ⏎
    "   N : Integer;" ⏎
    "   Low : Boolean;" ⏎
    "   Two : constant Integer := 2;" ⏎
    "begin" ⏎
    "   Test_IO.Get (N);" ⏎
    "   Low := N < Two;" ⏎
    "   while not Low loop" ⏎
    "      N := N - 1;" ⏎
    "      exit when N = 3;" ⏎
    "      if N > 10 then" ⏎
    "         Test_IO.Put (N);" ⏎
    "      elsif Low = (N >= 5) then" ⏎
    "         null;" ⏎
    "      else" ⏎
    "         N := N / 2;" ⏎
    "      end if;" ⏎
    "      Low := N <= 0;" ⏎
    "   end loop;" ⏎
    "   declare" ⏎
    "      M : Integer := N;" ⏎
    "   begin" ⏎
    "      loop" ⏎
    "         exit;" ⏎
    "      end loop;" ⏎
    "      Test_IO.Put (M);" ⏎
    "   end;" ⏎
    "end Walk;" ⏎
    []

abbrev pub walk : List Lines
walk = walk_file ∷ []

abbrev pub of_walk : (file first last : ℕ) → Lines → Outcome → Case
of_walk file first last new o = case_of (codes "walk") (changed file first last new walk) o

abbrev pub gate_file : Lines
gate_file =
    "with Test_IO;" ⏎
    "procedure Gate is" ⏎
    "   Open, Shut : Boolean;" ⏎
    "   Turns : Integer := 0;" ⏎
    "begin" ⏎
    "   Open := True;" ⏎
    "   Shut := not Open;" ⏎
    "   loop" ⏎
    "      Turns := Turns + 1;" ⏎
    "      if Open /= Shut then" ⏎
    "         Open := Turns < 5;" ⏎
    "      end if;" ⏎
    "      exit when Open = Shut;" ⏎
    "   end loop;" ⏎
    "   begin" ⏎
    "      Shut := Turns = 5;" ⏎
    "   end;" ⏎
    "   Test_IO.Put (Turns);" ⏎
    "end Gate;" ⏎
    []

abbrev pub gate : List Lines
gate = gate_file ∷ []

abbrev pub of_gate : (file first last : ℕ) → Lines → Outcome → Case
of_gate file first last new o = case_of (codes "gate") (changed file first last new gate) o

abbrev pub short_file : Lines
short_file =
    "with Test_IO;" ⏎
    "procedure Short is" ⏎
    "   A, B, C : Integer;" ⏎
    "   Ok : Boolean;" ⏎
    "begin" ⏎
    "   Test_IO.Get (A);" ⏎
    "   Test_IO.Get (B);" ⏎
    "   Test_IO.Get (C);" ⏎
    "   Ok := A > 1 and then B > 2;" ⏎
    "   if (Ok or else C = 3) and then not (A = B) then" ⏎
    "      Test_IO.Put (1);" ⏎
    "   end if;" ⏎
    "   while (A < B or else B < C) = Ok loop" ⏎
    "      A := A + 1;" ⏎
    "      exit when A > 9 or else (B > 9 and then C > 9);" ⏎
    "   end loop;" ⏎
    "   Ok := Ok = (A = 1 and then B = 1 and then C = 1);" ⏎
    "   Test_IO.Put (A);" ⏎
    "end Short;" ⏎
    []

abbrev pub short : List Lines
short = short_file ∷ []

abbrev pub of_short : (file first last : ℕ) → Lines → Outcome → Case
of_short file first last new o = case_of (codes "short") (changed file first last new short) o

abbrev pub nested_file : Lines
nested_file =
    "procedure Nested is" ⏎
    "   P : Boolean := False;" ⏎
    "   Q : Boolean := P or else not P;" ⏎
    "   R : constant Boolean := (P and then Q) = (Q or else P);" ⏎
    "begin" ⏎
    "   null;" ⏎
    "end Nested;" ⏎
    []

abbrev pub nested : List Lines
nested = nested_file ∷ []

abbrev pub of_nested : (file first last : ℕ) → Lines → Outcome → Case
of_nested file first last new o = case_of (codes "nested") (changed file first last new nested) o

abbrev pub days_file : Lines
days_file =
    "with Test_IO;" ⏎
    "procedure Days is" ⏎
    "   type Day is (Mon, Tue, Wed, Thu);" ⏎
    "   subtype Work is Day range Mon .. Wed;" ⏎
    "   D : Day := Mon;" ⏎
    "   W : Work;" ⏎
    "   N : Natural := 0;" ⏎
    "begin" ⏎
    "   for I in Work loop" ⏎
    "      W := I;" ⏎
    "      D := Day (W);" ⏎
    "      case W is" ⏎
    "         when Mon | Tue => N := N + 1;" ⏎
    "         when Wed => N := N + 2;" ⏎
    "      end case;" ⏎
    "      case D is" ⏎
    "         when Mon .. Tue => null;" ⏎
    "         when others => Test_IO.Put (N);" ⏎
    "      end case;" ⏎
    "   end loop;" ⏎
    "   if D > Tue then" ⏎
    "      Test_IO.Put (5);" ⏎
    "   end if;" ⏎
    "end Days;" ⏎
    []

abbrev pub days : List Lines
days = days_file ∷ []

abbrev pub of_days : (file first last : ℕ) → Lines → Outcome → Case
of_days file first last new o = case_of (codes "days") (changed file first last new days) o

abbrev pub nums_file : Lines
nums_file =
    "with Test_IO;" ⏎
    "procedure Nums is" ⏎
    "   type Small is range 1 .. 10;" ⏎
    "   type Big is range -5 * 20 .. 128;" ⏎
    "   Three : constant Small := 3;" ⏎
    "   subtype Low is Small range Small'First .. Three;" ⏎
    "   S : Small := Three + 1;" ⏎
    "   L : Low := 2;" ⏎
    "   B : Big;" ⏎
    "   P : Positive := 7;" ⏎
    "begin" ⏎
    "   B := Big (S) * 2;" ⏎
    "   P := Integer (B) + Integer (L);" ⏎
    "   for K in reverse 1 .. P loop" ⏎
    "      case K is" ⏎
    "         when 1 .. 3 => S := S - 1;" ⏎
    "         when others => null;" ⏎
    "      end case;" ⏎
    "   end loop;" ⏎
    "   for K in 1 .. 3 loop" ⏎
    "      case K is" ⏎
    "         when 1 | 2 => null;" ⏎
    "         when 3 => P := K;" ⏎
    "      end case;" ⏎
    "   end loop;" ⏎
    "   case S + L is" ⏎
    "      when 5 => Test_IO.Put (P);" ⏎
    "      when others => null;" ⏎
    "   end case;" ⏎
    "end Nums;" ⏎
    []

abbrev pub nums : List Lines
nums = nums_file ∷ []

abbrev pub of_nums : (file first last : ℕ) → Lines → Outcome → Case
of_nums file first last new o = case_of (codes "nums") (changed file first last new nums) o

abbrev pub reach_file : Lines
reach_file =
    "with Test_IO;" ⏎
    "procedure Reach is" ⏎
    "   type Level is range 0 .. 3;" ⏎
    "   L : Level := 0;" ⏎
    "   N : Integer;" ⏎
    "   Low : constant Level := 1;" ⏎
    "begin" ⏎
    "   Test_IO.Get (N);" ⏎
    "   for I in Level loop" ⏎
    "      case I is" ⏎
    "         when Low => N := N - 1;" ⏎
    "         when 0 | Low + 1 .. 3 => L := I;" ⏎
    "      end case;" ⏎
    "   end loop;" ⏎
    "   for I in 2 .. 1 loop" ⏎
    "      case I is" ⏎
    "         when others => N := I;" ⏎
    "      end case;" ⏎
    "   end loop;" ⏎
    "   for I in N .. 3 loop" ⏎
    "      case I mod 2 is" ⏎
    "         when 0 => null;" ⏎
    "         when others => N := N + I;" ⏎
    "      end case;" ⏎
    "   end loop;" ⏎
    "   Test_IO.Put (Integer (L) + N);" ⏎
    "end Reach;" ⏎
    []

abbrev pub reach : List Lines
reach = reach_file ∷ []

abbrev pub of_reach : (file first last : ℕ) → Lines → Outcome → Case
of_reach file first last new o = case_of (codes "reach") (changed file first last new reach) o

abbrev pub table_file : Lines
table_file =
    "with Test_IO;" ⏎
    "procedure Table is" ⏎
    "   type Tab is array (1 .. 4) of Integer;" ⏎
    "   type Flags is array (Boolean) of Boolean;" ⏎
    "   type Pair is record" ⏎
    "      Left, Right : Integer;" ⏎
    "      Marks : Tab;" ⏎
    "   end record;" ⏎
    "   T : Tab := (others => 0);" ⏎
    "   U : Tab;" ⏎
    "   F : Flags;" ⏎
    "   P, Q : Pair;" ⏎
    "   Z : constant Tab := (others => 1);" ⏎
    "begin" ⏎
    "   T (1) := 5;" ⏎
    "   T (T (1)) := T'Length + Z (2);" ⏎
    "   U := T;" ⏎
    "   F := (others => False);" ⏎
    "   F (T (1) = 5) := F (True);" ⏎
    "   P.Left := T'First;" ⏎
    "   P.Marks (2) := P.Left;" ⏎
    "   P.Marks := (others => P.Right);" ⏎
    "   Q := P;" ⏎
    "   Test_IO.Get (P.Marks (3));" ⏎
    "   Test_IO.Put (U (Tab'Last));" ⏎
    "end Table;" ⏎
    []

abbrev pub table : List Lines
table = table_file ∷ []

abbrev pub of_table : (file first last : ℕ) → Lines → Outcome → Case
of_table file first last new o = case_of (codes "table") (changed file first last new table) o

abbrev pub stack_file : Lines
stack_file =
    "package Stack is" ⏎
    "   type Item is range 0 .. 99;" ⏎
    "   Max : constant Integer := 3; Used : Integer := 0;" ⏎
    "   procedure Push (X : Item; Done : out Boolean);" ⏎
    "   procedure Pop (X : in out Item);" ⏎
    "   function Top return Item;" ⏎
    "end Stack;" ⏎
    "package body Stack is" ⏎
    "   type Store is array (1 .. Max) of Item; S : Store := (others => 1 + 1);" ⏎
    "   function Full return Boolean is" ⏎
    "   begin" ⏎
    "      return Used = Max or else Used > Max;" ⏎
    "   end Full;" ⏎
    "   procedure Push (X : Item; Done : out Boolean) is" ⏎
    "   begin" ⏎
    "      Done := not Full;" ⏎
    "      if Done then" ⏎
    "         Used := Used + 1;" ⏎
    "         S (Stack.Used) := X;" ⏎
    "      end if;" ⏎
    "   end Push;" ⏎
    "   procedure Pop (X : in out Item) is" ⏎
    "   begin" ⏎
    "      X := X + Top; Used := Used - 1;" ⏎
    "   end Pop;" ⏎
    "   function Top return Item is" ⏎
    "   begin" ⏎
    "      return S (Used);" ⏎
    "   end Top;" ⏎
    "end Stack;" ⏎
    "with Stack;" ⏎
    "with Test_IO;" ⏎
    "procedure Main is" ⏎
    "   B : Boolean; V : Stack.Item := 4;" ⏎
    "begin" ⏎
    "   Stack.Push (V, B);" ⏎
    "   Stack.Pop (V);" ⏎
    "   Test_IO.Put (Integer (Stack.Top) + Stack.Used);" ⏎
    "end Main;" ⏎
    []

abbrev pub stack : List Lines
stack = stack_file ∷ []

abbrev pub of_stack : (file first last : ℕ) → Lines → Outcome → Case
of_stack file first last new o = case_of (codes "main") (changed file first last new stack) o

abbrev pub funcs_file0 : Lines
funcs_file0 =
    "function Gcd (A, B : Natural) return Natural is" ⏎
    "   R : Natural := A;" ⏎
    "begin" ⏎
    "   if B = 0 then" ⏎
    "      return R;" ⏎
    "   end if;" ⏎
    "   return Gcd (B, A mod B);" ⏎
    "end Gcd;" ⏎
    []

abbrev pub funcs_file1 : Lines
funcs_file1 =
    "procedure Add (X : Integer; Sum : in out Integer; Last : out Integer) is" ⏎
    "begin" ⏎
    "   Last := Sum;" ⏎
    "   Sum := Sum + X;" ⏎
    "end Add;" ⏎
    []

abbrev pub funcs_file2 : Lines
funcs_file2 =
    "with Test_IO, Gcd;" ⏎
    "with Add;" ⏎
    "procedure Main is" ⏎
    "   N : Integer := 0;" ⏎
    "   L : Natural;" ⏎
    "begin" ⏎
    "   Add (Gcd (12, 18), N, L);" ⏎
    "   case Gcd (N, L) is" ⏎
    "      when 0 => null;" ⏎
    "      when 1 .. Natural'Last => Test_IO.Put (N);" ⏎
    "   end case;" ⏎
    "end Main;" ⏎
    []

abbrev pub funcs : List Lines
funcs = funcs_file0 ∷ funcs_file1 ∷ funcs_file2 ∷ []

abbrev pub of_funcs : (file first last : ℕ) → Lines → Outcome → Case
of_funcs file first last new o = case_of (codes "main") (changed file first last new funcs) o

abbrev pub modes_file : Lines
modes_file =
    "package Shape is" ⏎
    "   type Axis is (X, Y);" ⏎
    "   type Point is array (Axis) of Integer;" ⏎
    "   type Line is record" ⏎
    "      From, To : Point;" ⏎
    "      Solid : Boolean;" ⏎
    "   end record;" ⏎
    "   procedure Move (L : in out Line; By : Integer);" ⏎
    "   function Long (L : Line) return Boolean;" ⏎
    "end Shape;" ⏎
    "with Test_IO;" ⏎
    "package body Shape is" ⏎
    "   procedure Move (L : in out Line; By : Integer) is" ⏎
    "      D : Integer := By;" ⏎
    "   begin" ⏎
    "      for A in Axis loop" ⏎
    "         L.From (A) := L.From (A) + D;" ⏎
    "         L.To (A) := L.To (A) + By;" ⏎
    "      end loop;" ⏎
    "   end Move;" ⏎
    "   function Long (L : Line) return Boolean is" ⏎
    "   begin" ⏎
    "      return L.Solid and then L.To (X) - L.From (X) > 9;" ⏎
    "   end Long;" ⏎
    "end Shape;" ⏎
    "with Shape;" ⏎
    "procedure Main is" ⏎
    "   L : Shape.Line;" ⏎
    "begin" ⏎
    "   L.From := (others => 0);" ⏎
    "   L.To (Shape.Y) := 9;" ⏎
    "   Shape.Move (L, 3);" ⏎
    "   if Shape.Long (L) or else L.Solid then" ⏎
    "      L.Solid := False;" ⏎
    "   end if;" ⏎
    "end Main;" ⏎
    []

abbrev pub modes : List Lines
modes = modes_file ∷ []

abbrev pub of_modes : (file first last : ℕ) → Lines → Outcome → Case
of_modes file first last new o = case_of (codes "main") (changed file first last new modes) o

abbrev pub consts_file0 : Lines
consts_file0 =
    "package K is" ⏎
    "   C : constant Integer := 2 * 4;" ⏎
    "   type T is range 1 .. C;" ⏎
    "   V : T := 3;" ⏎
    "   F : Boolean;" ⏎
    "end K;" ⏎
    []

abbrev pub consts_file1 : Lines
consts_file1 =
    "with K;" ⏎
    "with Test_IO;" ⏎
    "procedure Main is" ⏎
    "   X : K.T := K.V;" ⏎
    "begin" ⏎
    "   K.V := X + 1;" ⏎
    "   K.F := X > K.V or else K.F;" ⏎
    "   Test_IO.Put (Integer (K.V) * K.C);" ⏎
    "end Main;" ⏎
    []

abbrev pub consts : List Lines
consts = consts_file0 ∷ consts_file1 ∷ []

abbrev pub of_consts : (file first last : ℕ) → Lines → Outcome → Case
of_consts file first last new o = case_of (codes "main") (changed file first last new consts) o

abbrev pub guard_file : Lines
guard_file =
    "with Test_IO;" ⏎
    "procedure Guard is" ⏎
    "   Bad, Worse : exception;" ⏎
    "   N : Integer;" ⏎
    "   Seen : Boolean := False;" ⏎
    "begin" ⏎
    "   Test_IO.Get (N);" ⏎
    "   begin" ⏎
    "      if N > 5 then" ⏎
    "         raise Bad;" ⏎
    "      elsif N < 0 or else Seen then" ⏎
    "         raise Constraint_Error;" ⏎
    "      end if;" ⏎
    "      Test_IO.Put (100 / N);" ⏎
    "   exception" ⏎
    "      when Bad | Worse =>" ⏎
    "         Test_IO.Put (1);" ⏎
    "      when Constraint_Error =>" ⏎
    "         Seen := True;" ⏎
    "         raise;" ⏎
    "   end;" ⏎
    "   loop" ⏎
    "      exit when N = 1;" ⏎
    "      N := N - 1;" ⏎
    "   end loop;" ⏎
    "exception" ⏎
    "   when Test_IO.End_Error =>" ⏎
    "      null;" ⏎
    "   when others =>" ⏎
    "      Test_IO.Put (2);" ⏎
    "      if Seen then" ⏎
    "         raise Worse;" ⏎
    "      end if;" ⏎
    "end Guard;" ⏎
    []

abbrev pub guard : List Lines
guard = guard_file ∷ []

abbrev pub of_guard : (file first last : ℕ) → Lines → Outcome → Case
of_guard file first last new o = case_of (codes "guard") (changed file first last new guard) o

abbrev pub errors_file : Lines
errors_file =
    "package Errors is" ⏎
    "   Empty : exception;" ⏎
    "   Limit : Integer := 3;" ⏎
    "   function Next (N : Integer) return Integer;" ⏎
    "end Errors;" ⏎
    "package body Errors is" ⏎
    "   Deep : exception;" ⏎
    "   function Next (N : Integer) return Integer is" ⏎
    "      Odd : exception;" ⏎
    "   begin" ⏎
    "      if N > Limit then" ⏎
    "         raise Deep;" ⏎
    "      end if;" ⏎
    "      if N mod 2 = 1 then" ⏎
    "         raise Odd;" ⏎
    "      end if;" ⏎
    "      return N + 1;" ⏎
    "   exception" ⏎
    "      when Odd =>" ⏎
    "         return 0;" ⏎
    "      when Deep =>" ⏎
    "         raise Empty;" ⏎
    "   end Next;" ⏎
    "end Errors;" ⏎
    "with Errors, Test_IO;" ⏎
    "procedure Main is" ⏎
    "   I : Integer := 0;" ⏎
    "begin" ⏎
    "   I := Errors.Next (I);" ⏎
    "   Test_IO.Put (I);" ⏎
    "exception" ⏎
    "   when Errors.Empty =>" ⏎
    "      Test_IO.Put (-1);" ⏎
    "end Main;" ⏎
    []

abbrev pub errors : List Lines
errors = errors_file ∷ []

abbrev pub of_errors : (file first last : ℕ) → Lines → Outcome → Case
of_errors file first last new o = case_of (codes "main") (changed file first last new errors) o

abbrev pub depth_file0 : Lines
depth_file0 =
    "procedure Down (N : Integer; Left : in out Integer) is" ⏎
    "   Stop : exception;" ⏎
    "begin" ⏎
    "   Left := Left - 1;" ⏎
    "   if N > 0 and then Left > 0 then" ⏎
    "      Down (N - 1, Left);" ⏎
    "   end if;" ⏎
    "   raise Stop;" ⏎
    "exception" ⏎
    "   when Storage_Error | Program_Error =>" ⏎
    "      Left := 0;" ⏎
    "   when others =>" ⏎
    "      null;" ⏎
    "end Down;" ⏎
    []

abbrev pub depth_file1 : Lines
depth_file1 =
    "with Down;" ⏎
    "procedure Depth is" ⏎
    "   L : Integer := 9;" ⏎
    "begin" ⏎
    "   Down (3, L);" ⏎
    "   for K in 1 .. L loop" ⏎
    "      begin" ⏎
    "         Down (K, L);" ⏎
    "      exception" ⏎
    "         when others =>" ⏎
    "            exit;" ⏎
    "      end;" ⏎
    "   end loop;" ⏎
    "end Depth;" ⏎
    []

abbrev pub depth : List Lines
depth = depth_file0 ∷ depth_file1 ∷ []

abbrev pub of_depth : (file first last : ℕ) → Lines → Outcome → Case
of_depth file first last new o = case_of (codes "depth") (changed file first last new depth) o

abbrev pub bounds_file : Lines
bounds_file =
    "generic" ⏎
    "   type Kind is (<>);" ⏎
    "   type Num is range <>;" ⏎
    "   Top : Num;" ⏎
    "   with function Good (N : Num) return Boolean;" ⏎
    "package Bounds is" ⏎
    "   type Tab is array (Kind) of Num;" ⏎
    "   Last : Num := Top;" ⏎
    "   procedure Fill (T : in out Tab);" ⏎
    "end Bounds;" ⏎
    "package body Bounds is" ⏎
    "   procedure Fill (T : in out Tab) is" ⏎
    "   begin" ⏎
    "      for K in Kind loop" ⏎
    "         if Good (Last) and then K > Kind'First then" ⏎
    "            T (K) := Top;" ⏎
    "         end if;" ⏎
    "      end loop;" ⏎
    "   end Fill;" ⏎
    "end Bounds;" ⏎
    "package Own is" ⏎
    "   type Colour is (Red, Green); type Small is range 0 .. 9;" ⏎
    "   Six : constant Small := 6; Var : Small := 6;" ⏎
    "   function Even (X : Small) return Boolean;" ⏎
    "end Own;" ⏎
    "package body Own is" ⏎
    "   function Even (X : Small) return Boolean is" ⏎
    "   begin" ⏎
    "      return X mod 2 = 0;" ⏎
    "   end Even;" ⏎
    "end Own;" ⏎
    "with Bounds, Own;" ⏎
    "package Inst is new Bounds (Own.Colour, Own.Small, Own.Six, Own.Even);" ⏎
    "with Inst;" ⏎
    "procedure Main is" ⏎
    "   T : Inst.Tab;" ⏎
    "begin" ⏎
    "   Inst.Fill (T);" ⏎
    "end Main;" ⏎
    []

abbrev pub bounds : List Lines
bounds = bounds_file ∷ []

abbrev pub of_bounds : (file first last : ℕ) → Lines → Outcome → Case
of_bounds file first last new o = case_of (codes "main") (changed file first last new bounds) o

abbrev pub copies_file : Lines
copies_file =
    "generic" ⏎
    "   Limit : Integer;" ⏎
    "package Clip is" ⏎
    "   type Range_Of is range 0 .. Limit;" ⏎
    "   Value : Range_Of := 2;" ⏎
    "   Over : exception;" ⏎
    "   procedure Set (N : Integer);" ⏎
    "end Clip;" ⏎
    "package body Clip is" ⏎
    "   procedure Set (N : Integer) is" ⏎
    "      I : Integer range 0 .. 3 := 1;" ⏎
    "   begin" ⏎
    "      if N > Limit then" ⏎
    "         raise Over;" ⏎
    "      end if;" ⏎
    "      Value := Range_Of (N);" ⏎
    "      case I is" ⏎
    "         when 0 .. Limit - 2 => null;" ⏎
    "         when others => null;" ⏎
    "      end case;" ⏎
    "   end Set;" ⏎
    "end Clip;" ⏎
    "with Clip;" ⏎
    "package C4 is new Clip (4);" ⏎
    "with Clip;" ⏎
    "package C5 is new Clip (2 + 3);" ⏎
    "with C4, C5, Test_IO;" ⏎
    "procedure Main is" ⏎
    "   X : C4.Range_Of;" ⏎
    "begin" ⏎
    "   C4.Set (3);" ⏎
    "   C5.Set (9);" ⏎
    "   X := C4.Value;" ⏎
    "exception" ⏎
    "   when C5.Over =>" ⏎
    "      Test_IO.Put (5);" ⏎
    "end Main;" ⏎
    []

abbrev pub copies : List Lines
copies = copies_file ∷ []

abbrev pub of_copies : (file first last : ℕ) → Lines → Outcome → Case
of_copies file first last new o = case_of (codes "main") (changed file first last new copies) o

abbrev pub sorter_file : Lines
sorter_file =
    "generic" ⏎
    "   type T is (<>);" ⏎
    "   with procedure Show (X : T);" ⏎
    "   with procedure Read (X : out T);" ⏎
    "package Echo is" ⏎
    "   Count : Natural := 0;" ⏎
    "   procedure Once;" ⏎
    "end Echo;" ⏎
    "package body Echo is" ⏎
    "   procedure Once is" ⏎
    "      V : T;" ⏎
    "   begin" ⏎
    "      Read (V);" ⏎
    "      if V /= T'Last then" ⏎
    "         Show (V);" ⏎
    "      end if;" ⏎
    "      Count := Count + 1;" ⏎
    "   end Once;" ⏎
    "end Echo;" ⏎
    "with Echo, Test_IO;" ⏎
    "package Ints is new Echo (Integer, Test_IO.Put, Test_IO.Get);" ⏎
    "with Ints;" ⏎
    "procedure Main is" ⏎
    "begin" ⏎
    "   Ints.Once;" ⏎
    "   if Ints.Count > 0 and then Ints.Count < 3 then" ⏎
    "      Ints.Once;" ⏎
    "   end if;" ⏎
    "end Main;" ⏎
    []

abbrev pub sorter : List Lines
sorter = sorter_file ∷ []

abbrev pub of_sorter : (file first last : ℕ) → Lines → Outcome → Case
of_sorter file first last new o = case_of (codes "main") (changed file first last new sorter) o
