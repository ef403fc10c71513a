-- The obligations of worked sources, entry by entry: of calls that are recursive, of packages, of two instances of one generic, of exceptions and
-- instances over two files, of arrays and records. The objects of each subprogram are numbered from 0 in the order of the text, and it lists the
-- subtype of each.
use Rattle.std.specs.Prelude.{◌≡◌, ℕ, nat_eq, Bool, true, List, [], ◌∷◌, ◌++◌, codes, map, length, Option, Some, None}
use Rattle.std.specs.Cmp.Lexicographic.{pointwise}
use Rattle.std.specs.List.{list_all}
use Rattle.cov_base.specs.declared.obligations.StmtEntry.{StmtEntry}
use Rattle.cov_base.specs.declared.obligations.DecEntry.{DecEntry}
use Rattle.cov_base.specs.declared.obligations.InstanceEntry.{InstanceEntry}
use Rattle.cov_base.specs.declared.obligations.Obligations.{Obligations}
use Rattle.cov_base.specs.declared.obligations.Place.{Place}
use Rattle.ada_syntax.specs.declared.unit.Unit.{Unit as LibraryUnit}
use Rattle.ada_meaning.specs.Objects.{objects_of}
use Rattle.ada_meaning.specs.Obligations.{no_instance, numbers, obligations_of, predefined_names}
use Rattle.ada_rules.specs.Legal as rules
use Rattle.rules_examples.specs.Cases.{◌⏎◌, Lines, units_from}

abbrev pub statement : (file line column : ℕ) → StmtEntry
statement file line column = record { file = file; line = line; column = column }

abbrev pub condition : (line column : ℕ) → Place
condition line column = record { line = line; column = column }

-- a decision: the number of its statement, where it begins, its letter, its postfix bytes and its conditions
abbrev pub decision : (held_by file line column letter : ℕ) → List ℕ → List Place → DecEntry
decision s file line column letter postfix conditions = record {
  statement = record { 0 = s };
  file = file;
  line = line;
  column = column;
  letter = record { 0 = letter };
  expression = record { postfix = postfix };
  conditions = conditions;
}

abbrev pub instance : List ℕ → (file line column : ℕ) → InstanceEntry
instance name file line column = record { name = name; file = file; line = line; column = column }

-- the obligations of a program, where it is legal
abbrev pub obliged_by : rules.Checked → Option Obligations
obliged_by (rules.legal p) = Some (obligations_of p [])
obliged_by refused = None

abbrev pub obliged : (main : List ℕ) → Option (List LibraryUnit) → Option Obligations
obliged main None = None
obliged main (Some units) = obliged_by (rules.checked units main)

-- the numbers of the objects of each subprogram, with how many subtypes it lists; and whether they are those from 0 on, so
-- many
abbrev pub objects_by : rules.Checked → List (List ℕ × ℕ)
objects_by (rules.legal p) = map (λ s. (objects_of s, length s.objects)) p.subprograms
objects_by refused = []

abbrev pub objects_in : (main : List ℕ) → Option (List LibraryUnit) → List (List ℕ × ℕ)
objects_in main None = []
objects_in main (Some units) = objects_by (rules.checked units main)

abbrev pub are_from_0 : List (List ℕ × ℕ) → Bool
are_from_0 objects = list_all (λ x. pointwise nat_eq (numbers 0 x.1) x.0) objects

-- files whose obligations are these
pub record Owe (main : List ℕ) (files : List Lines) (o : Obligations) : Type 0 where
  pub shown : obliged main (units_from 0 files) ≡ Some o
  pub numbered : are_from_0 (objects_in main (units_from 0 files)) ≡ true

-- a function that calls itself in a decision, and handles what its body raises
abbrev pub Recursive : Type 0
Recursive = Owe (codes "p8") (("function F (N, D : Integer) return Boolean is   -- p8.adb" ⏎
    "begin" ⏎
    "   if (N > 0 and then F (N - 1, 0)) or else 10 / D > 1 then" ⏎
    "      return True;" ⏎
    "   end if;" ⏎
    "   return False;" ⏎
    "exception" ⏎
    "   when Constraint_Error =>" ⏎
    "      return False;" ⏎
    "end F;" ⏎
    "with Test_IO;" ⏎
    "with F;" ⏎
    "procedure P8 is" ⏎
    "begin" ⏎
    "   if F (1, 2) then" ⏎
    "      Test_IO.Put (1);" ⏎
    "   end if;" ⏎
    "end P8;" ⏎ []) ∷ []) (record {
      statements =
          statement 0 3 4
          ∷ statement 0 4 7
          ∷ statement 0 6 4
          ∷ statement 0 9 7
          ∷ statement 0 15 4
          ∷ statement 0 16 7
          ∷ [];
      decisions =
          decision 0 0 3 7 73 (0 ∷ 1 ∷ 33 ∷ 2 ∷ 34 ∷ [])
          (condition 3 8 ∷ condition 3 23 ∷ condition 3 45 ∷ [])
          ∷ decision 4 0 15 7 73 (0 ∷ [])
          (condition 15 7 ∷ [])
          ∷ [];
      regions = [];
      instances =
          no_instance
          ∷ [];
      exceptions = predefined_names;
    })

-- a package with objects, exceptions and subprograms: its own objects are no obligations
abbrev pub Packaged : Type 0
Packaged = Owe (codes "main") (("package Counter is" ⏎
    "   Limit : constant Integer := 3;" ⏎
    "   Count : Integer := 0;" ⏎
    "   Full, Idle : exception;" ⏎
    "   procedure Step (By : Integer);" ⏎
    "   function Left return Integer;" ⏎
    "end Counter;" ⏎
    "package body Counter is" ⏎
    "   Ready : Boolean := True;" ⏎
    "   procedure Step (By : Integer) is" ⏎
    "   begin" ⏎
    "      if By = 0 then" ⏎
    "         raise Idle;" ⏎
    "      elsif Count + By > Limit and then Ready then" ⏎
    "         Ready := False;" ⏎
    "         raise Full;" ⏎
    "      end if;" ⏎
    "      Count := Count + By;" ⏎
    "   end Step;" ⏎
    "   function Left return Integer is" ⏎
    "   begin" ⏎
    "      return Limit - Count;" ⏎
    "   end Left;" ⏎
    "end Counter;" ⏎
    "with Counter; with Test_IO;" ⏎
    "procedure Main is" ⏎
    "   Turn : Integer := Counter.Left;" ⏎
    "begin" ⏎
    "   while Turn > 0 or else Counter.Count < Counter.Limit loop" ⏎
    "      Counter.Step (2);" ⏎
    "      Turn := Counter.Left;" ⏎
    "   end loop;" ⏎
    "   Test_IO.Put (Turn);" ⏎
    "exception" ⏎
    "   when Counter.Full | Counter.Idle =>" ⏎
    "      Test_IO.Put (Counter.Count);" ⏎
    "end Main;" ⏎ []) ∷ []) (record {
      statements =
          statement 0 12 7
          ∷ statement 0 13 10
          ∷ statement 0 15 10
          ∷ statement 0 16 10
          ∷ statement 0 18 7
          ∷ statement 0 22 7
          ∷ statement 0 27 4
          ∷ statement 0 29 4
          ∷ statement 0 30 7
          ∷ statement 0 31 7
          ∷ statement 0 33 4
          ∷ statement 0 36 7
          ∷ [];
      decisions =
          decision 0 0 12 10 73 (0 ∷ [])
          (condition 12 10 ∷ [])
          ∷ decision 0 0 14 13 73 (0 ∷ 1 ∷ 33 ∷ [])
          (condition 14 13 ∷ condition 14 41 ∷ [])
          ∷ decision 7 0 29 10 87 (0 ∷ 1 ∷ 34 ∷ [])
          (condition 29 10 ∷ condition 29 27 ∷ [])
          ∷ [];
      regions = [];
      instances =
          no_instance
          ∷ [];
      exceptions = predefined_names ++ codes "counter.full" ∷ codes "counter.idle" ∷ [];
    })

-- two instances of one generic: its text counts once
abbrev pub Twice : Type 0
Twice = Owe (codes "p12") (("generic                            -- p12.adb" ⏎
    "   Limit : Integer;" ⏎
    "package G is" ⏎
    "   function Small (X : Integer) return Boolean;" ⏎
    "end G;" ⏎
    "package body G is" ⏎
    "   function Small (X : Integer) return Boolean is" ⏎
    "   begin" ⏎
    "      if X < Limit then" ⏎
    "         return True;" ⏎
    "      end if;" ⏎
    "      return False;" ⏎
    "   end Small;" ⏎
    "end G;" ⏎
    "with G;" ⏎
    "package G1 is new G (1);" ⏎
    "with G;" ⏎
    "package G2 is new G (9);" ⏎
    "with Test_IO; with G1; with G2;" ⏎
    "procedure P12 is" ⏎
    "begin" ⏎
    "   if G1.Small (5) or else G2.Small (5) then" ⏎
    "      Test_IO.Put (1);" ⏎
    "   end if;" ⏎
    "end P12;" ⏎ []) ∷ []) (record {
      statements =
          statement 0 9 7
          ∷ statement 0 10 10
          ∷ statement 0 12 7
          ∷ statement 0 22 4
          ∷ statement 0 23 7
          ∷ [];
      decisions =
          decision 0 0 9 10 73 (0 ∷ [])
          (condition 9 10 ∷ [])
          ∷ decision 3 0 22 7 73 (0 ∷ 1 ∷ 34 ∷ [])
          (condition 22 7 ∷ condition 22 28 ∷ [])
          ∷ [];
      regions = [];
      instances =
          no_instance
          ∷ instance (codes "g1") 0 16 1
          ∷ instance (codes "g2") 0 18 1
          ∷ [];
      exceptions = predefined_names;
    })

-- Instances stand at their own places, though a later file's is needed first; so do their exceptions, in the order of the generic's text. A
-- generic without an instance counts too, but for its exceptions. Of two decisions that begin at one place the outer one comes first.
abbrev pub Ordered : Type 0
Ordered = Owe (codes "main") (("with B;" ⏎
    "generic" ⏎
    "package Ga is" ⏎
    "   Low, High : exception;" ⏎
    "   procedure Run;" ⏎
    "end Ga;" ⏎
    "package body Ga is" ⏎
    "   procedure Run is" ⏎
    "   begin" ⏎
    "      if not (B.Flag and then B.Flag) then" ⏎
    "         raise High;" ⏎
    "      end if;" ⏎
    "   end Run;" ⏎
    "end Ga;" ⏎
    "package Plain is" ⏎
    "   Bad : exception;" ⏎
    "end Plain;" ⏎
    "with Ga;" ⏎
    "package A is new Ga;" ⏎
    "generic" ⏎
    "package Idle is" ⏎
    "   Never : exception;" ⏎
    "   procedure Rest;" ⏎
    "end Idle;" ⏎
    "package body Idle is" ⏎
    "   procedure Rest is" ⏎
    "   begin" ⏎
    "      null;" ⏎
    "   end Rest;" ⏎
    "end Idle;" ⏎
    "with Ga;" ⏎
    "package A2 is new Ga;" ⏎
    "with A; with A2; with Plain;" ⏎
    "procedure Main is" ⏎
    "   Own : exception;" ⏎
    "   V : Boolean := (False or else True) and then True;" ⏎
    "begin" ⏎
    "   A.Run;" ⏎
    "   A2.Run;" ⏎
    "   raise Own;" ⏎
    "exception" ⏎
    "   when A.High | A2.Low =>" ⏎
    "      null;" ⏎
    "   when Plain.Bad | Own =>" ⏎
    "      V := (V and then V) = V or else V;" ⏎
    "end Main;" ⏎ []) ∷
    ("generic" ⏎
    "package Gb is" ⏎
    "   Flag : Boolean := True;" ⏎
    "end Gb;" ⏎
    "with Gb;" ⏎
    "package B is new Gb;" ⏎ []) ∷ []) (record {
      statements =
          statement 0 10 7
          ∷ statement 0 11 10
          ∷ statement 0 28 7
          ∷ statement 0 36 4
          ∷ statement 0 38 4
          ∷ statement 0 39 4
          ∷ statement 0 40 4
          ∷ statement 0 43 7
          ∷ statement 0 45 7
          ∷ [];
      decisions =
          decision 0 0 10 10 73 (0 ∷ 1 ∷ 33 ∷ 32 ∷ [])
          (condition 10 15 ∷ condition 10 31 ∷ [])
          ∷ decision 3 0 36 19 88 (0 ∷ 1 ∷ 34 ∷ 2 ∷ 33 ∷ [])
          (condition 36 20 ∷ condition 36 34 ∷ condition 36 49 ∷ [])
          ∷ decision 8 0 45 12 88 (0 ∷ 1 ∷ 34 ∷ [])
          (condition 45 12 ∷ condition 45 39 ∷ [])
          ∷ decision 8 0 45 12 88 (0 ∷ 1 ∷ 33 ∷ [])
          (condition 45 13 ∷ condition 45 24 ∷ [])
          ∷ [];
      regions = [];
      instances =
          no_instance
          ∷ instance (codes "a") 0 19 1
          ∷ instance (codes "a2") 0 32 1
          ∷ instance (codes "b") 1 6 1
          ∷ [];
      exceptions = predefined_names ++ codes "plain.bad" ∷ codes "a.low" ∷ codes "a.high" ∷ codes "a2.low" ∷ codes "a2.high" ∷ codes "main.own" ∷ [];
    })

-- arrays and records, a case statement and a for loop
abbrev pub Composite : Type 0
Composite = Owe (codes "grid") (("procedure Grid is" ⏎
    "   type Row is array (1 .. 3) of Boolean;" ⏎
    "   type Board is record" ⏎
    "      Cells : Row;" ⏎
    "      Size : Integer;" ⏎
    "   end record;" ⏎
    "   B : Board;" ⏎
    "   Full : constant Boolean := True;" ⏎
    "begin" ⏎
    "   B.Cells := (others => Full and then not Full);" ⏎
    "   for I in 1 .. 3 loop" ⏎
    "      case I is" ⏎
    "         when 1 =>" ⏎
    "            B.Cells (I) := B.Cells (4 - I) or else Full;" ⏎
    "         when others =>" ⏎
    "            exit when B.Cells (I);" ⏎
    "      end case;" ⏎
    "   end loop;" ⏎
    "end Grid;" ⏎ []) ∷ []) (record {
      statements =
          statement 0 8 4
          ∷ statement 0 10 4
          ∷ statement 0 11 4
          ∷ statement 0 12 7
          ∷ statement 0 14 13
          ∷ statement 0 16 13
          ∷ [];
      decisions =
          decision 1 0 10 26 88 (0 ∷ 1 ∷ 32 ∷ 33 ∷ [])
          (condition 10 26 ∷ condition 10 44 ∷ [])
          ∷ decision 4 0 14 28 88 (0 ∷ 1 ∷ 34 ∷ [])
          (condition 14 28 ∷ condition 14 52 ∷ [])
          ∷ decision 5 0 16 23 69 (0 ∷ [])
          (condition 16 23 ∷ [])
          ∷ [];
      regions = [];
      instances =
          no_instance
          ∷ [];
      exceptions = predefined_names;
    })

abbrev pub Obliged : Type 0
Obliged = Recursive × Packaged × Twice × Ordered × Composite
