-- The obligations of a program, and the numbers by which its trees name them.
use Rattle.std.specs.Prelude.{◌≡◌, ℕ, zero, suc, ◌+◌, nat_eq, Bool, not, ◌&&◌, ◌||◌, List, [], ◌∷◌, ◌++◌, codes, map, length, Option, Some, None, if◌then◌else◌}
use Rattle.cov_base.specs.TextOrder.{precedes}
use Rattle.cov_base.specs.declared.position.Pos.{Pos}
use Rattle.cov_base.specs.declared.obligations.StmtEntry.{StmtEntry}
use Rattle.cov_base.specs.declared.obligations.DecEntry.{DecEntry}
use Rattle.cov_base.specs.declared.obligations.InstanceEntry.{InstanceEntry}
use Rattle.cov_base.specs.declared.obligations.Place.{Place}
use Rattle.cov_base.specs.declared.obligations.Region.{Region}
use Rattle.cov_base.specs.declared.obligations.Obligations.{Obligations}
use Rattle.cov_base.specs.Expr.{postfix_of}
use Rattle.cov_base.specs.Lists.{Everywhere}
use Rattle.ada_meaning.specs.Tree.{Label, shape_of}
use Rattle.ada_meaning.specs.Program.{FormalActual, actual_object, actual_type, actual_subprogram, Instance, ExceptionDeclaration, Raisable, Program}
use Rattle.ada_meaning.specs.Resolved.{number_in, bounds_in}
use Rattle.ada_meaning.specs.Statics.{constants_of, constant_values, values_of}
use Rattle.ada_meaning.specs.Collected.{Standing, after_if, after_while, after_exit, elsewhere, Decision, condition_places, labels_of, decisions_of}

-- an item among items in order: before the first that doesn't come before it
abbrev pub inserted : {X : Type 0} → (X → X → Bool) → X → List X → List X
inserted before x [] = x ∷ []
inserted before x (y ∷ ys) = if before y x then y ∷ inserted before x ys else x ∷ y ∷ ys

-- items in order; of two of which neither comes before the other, the first stays first
abbrev pub in_order : {X : Type 0} → (X → X → Bool) → List X → List X
in_order before [] = []
in_order before (x ∷ xs) = inserted before x (in_order before xs)

-- the statement obligations in order
abbrev pub ordered_labels : Program → List Label
ordered_labels p = in_order (λ a b. precedes a.place b.place) (labels_of p.subprograms)

-- the decisions in order, an outer one before those nested in it that begin at the same place
abbrev pub ordered_decisions : Program → List Decision
ordered_decisions p = in_order (λ a b. precedes a.label.place b.label.place) (decisions_of p.subprograms)

-- the entry of a statement obligation
abbrev pub statement_entry : Label → StmtEntry
statement_entry l = record { file = l.place.file; line = l.place.line; column = l.place.col }

-- the letters of decisions: I, W, E and X
abbrev pub letter_of : Standing → ℕ
letter_of after_if = 73
letter_of after_while = 87
letter_of after_exit = 69
letter_of elsewhere = 88

-- the entry of a condition
abbrev pub condition_entry : Pos → Place
condition_entry at = record { line = at.line; column = at.col }

-- the entry of a decision
abbrev pub decision_entry : Decision → DecEntry
decision_entry h = record {
  statement = record { 0 = h.statement };
  file = h.label.place.file;
  line = h.label.place.line;
  column = h.label.place.col;
  letter = record { 0 = letter_of h.standing };
  expression = record { postfix = postfix_of (shape_of h.test) };
  conditions = map condition_entry (condition_places h.test);
}

-- the entry of an instance
abbrev pub instance_entry : Instance → InstanceEntry
instance_entry i = record { name = i.name; file = i.place.file; line = i.place.line; column = i.place.col }

-- the entry of all that stands in no generic
abbrev pub no_instance : InstanceEntry
no_instance = record { name = []; file = 0; line = 0; column = 0 }

-- the names of the predefined exceptions, in the order of their numbers
abbrev pub predefined_names : List (List ℕ)
predefined_names = codes "constraint_error" ∷ codes "program_error" ∷ codes "storage_error" ∷ codes "test_io.end_error" ∷ []

-- an exception of a program: its number's entry, the place of its instance (of its declaration, in no generic), the place of its
-- declaration, and its name
pub record ListedException : Type 0 where
  pub entry : Raisable
  pub outer : Pos
  pub inner : Pos
  pub name : List ℕ

-- the name of a declared exception: its unit or instance, a point, and the rest
abbrev pub joined : List ℕ → List ℕ → List ℕ
joined unit rest = unit ++ 46 ∷ rest

-- an exception that is declared in no generic
abbrev pub listed_once : ExceptionDeclaration → ListedException
listed_once d =
    record { entry = record { instance = 0; declaration = d.declaration }; outer = d.place; inner = d.place; name = joined d.unit d.name }

-- one that is declared in a generic, for the instance with the number n
abbrev pub listed_in : ExceptionDeclaration → ℕ → Instance → ListedException
listed_in d n i =
    record { entry = record { instance = n; declaration = d.declaration }; outer = i.place; inner = d.place; name = joined i.name d.name }

-- the exceptions of a declaration in the instances of a generic, of instances that are numbered from n on
abbrev pub listed_for : ExceptionDeclaration → ℕ → ℕ → List Instance → List ListedException
listed_for d g n [] = []
listed_for d g n (i ∷ is) = if nat_eq i.generic g then listed_in d n i ∷ listed_for d g (suc n) is else listed_for d g (suc n) is

-- the exceptions of a declaration, by the generic that it stands in
abbrev pub listed_by : Option ℕ → ExceptionDeclaration → List Instance → List ListedException
listed_by None d is = listed_once d ∷ []
listed_by (Some g) d is = listed_for d g 1 is

-- the exceptions of declarations
abbrev pub listed : List ExceptionDeclaration → List Instance → List ListedException
listed [] is = []
listed (d ∷ ds) is = listed_by d.generic d is ++ listed ds is

-- by place, those of an instance at the instance's place in the order of the generic's text
abbrev pub is_listed_before : ListedException → ListedException → Bool
is_listed_before a b = precedes a.outer b.outer || not (precedes b.outer a.outer) && precedes a.inner b.inner

-- the declared exceptions of a program in order, one for each declaration and instance
abbrev pub ordered_exceptions : Program → List ListedException
ordered_exceptions p = in_order is_listed_before (listed p.declared p.instances)

-- the obligations of a program, with the exempt regions of its sources
abbrev pub obligations_of : Program → List Region → Obligations
obligations_of p regions = record {
  statements = map statement_entry (ordered_labels p);
  decisions = map decision_entry (ordered_decisions p);
  regions = regions;
  instances = no_instance ∷ map instance_entry p.instances;
  exceptions = predefined_names ++ map (λ x. x.name) (ordered_exceptions p);
}

-- the numbers from n on, this many
abbrev pub numbers : ℕ → ℕ → List ℕ
numbers n zero = []
numbers n (suc count) = n ∷ numbers (suc n) count

-- the numbers in a program are those of its obligations: statements and decisions are numbered in order from 0, instances stand in order,
-- and the list of exceptions is that of the obligations
pub record IsNumbered (p : Program) : Type 0 where
  pub statements : map (λ l. l.number) (ordered_labels p) ≡ numbers 0 (length (ordered_labels p))
  pub decisions : map (λ h. h.label.number) (ordered_decisions p) ≡ numbers 0 (length (ordered_decisions p))
  pub instances : in_order (λ a b. precedes a.place b.place) p.instances ≡ p.instances
  pub exceptions : p.exceptions ≡ map (λ x. x.entry) (ordered_exceptions p)

-- what an instance has for a formal is the value of the actual, which stands in no generic
abbrev pub IsValueOf : Program → FormalActual → Type 0
IsValueOf p (actual_object e x) = x ≡ number_in p 0 e
IsValueOf p (actual_type r b c) = b ≡ bounds_in p 0 r
IsValueOf p (actual_subprogram t) = Unit {0}

-- an instance with this number has for its formals the values of the actuals, and for the constants of its generic their values
pub record IsInstanceResolved (p : Program) (n : ℕ) (i : Instance) : Type 0 where
  pub formals : Everywhere (IsValueOf p) i.actuals
  pub constants : i.constants ≡ constant_values (values_of p) n [] (constants_of i.generic p.constants)

-- so has each of these, which are numbered from n on
abbrev pub AreResolved : Program → ℕ → List Instance → Type 0
AreResolved p n [] = Unit {0}
AreResolved p n (i ∷ is) = IsInstanceResolved p n i × AreResolved p (n + 1) is

-- each instance of a program has the values of the program's text in it
abbrev pub IsResolved : Program → Type 0
IsResolved p = AreResolved p 1 p.instances
