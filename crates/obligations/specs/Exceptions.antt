-- Declared exceptions by their places and their full names (Ada RM 2012, 11.1, 12.3).
use Rattle.std.specs.Prelude.{ℕ, nat_eq, Bool, not, ◌&&◌, ◌||◌, List, [], ◌∷◌, ◌++◌, Option, Some, None, if◌then◌else◌}
use Rattle.cov_base.specs.TextOrder.{precedes}
use Rattle.ada_tree.specs.declared.program.ExceptionDeclaration.{ExceptionDeclaration}
use Rattle.ada_tree.specs.declared.program.Instance.{Instance}
use Rattle.obligations.specs.declared.exceptions.ExceptionPlace.{ExceptionPlace}
use Rattle.obligations.specs.declared.exceptions.NamedException.{NamedException}

abbrev pub full_name : List ℕ → List ℕ → List ℕ
full_name unit name = unit ++ 46 ∷ name

abbrev pub comes_before : ExceptionPlace → ExceptionPlace → Bool
comes_before a b = precedes a.outer b.outer || not (precedes b.outer a.outer) && precedes a.inner b.inner

abbrev pub is_before : NamedException → NamedException → Bool
is_before a b = comes_before a.place b.place

-- one that is declared in no generic
abbrev pub once : ExceptionDeclaration → List NamedException
once d = record { place = record { outer = d.place; inner = d.place }; name = full_name d.unit d.name } ∷ []

-- one of a generic with this number, in an instance of it
abbrev pub in_instance : ExceptionDeclaration → ℕ → Instance → List NamedException
in_instance d g i =
    if nat_eq i.generic g then record { place = record { outer = i.place; inner = d.place }; name = full_name i.name d.name } ∷ [] else []

abbrev pub in_instances : ExceptionDeclaration → ℕ → List Instance → List NamedException
in_instances d g [] = []
in_instances d g (i ∷ is) = in_instance d g i ++ in_instances d g is

abbrev pub of_declaration : Option ℕ → ExceptionDeclaration → List Instance → List NamedException
of_declaration None d is = once d
of_declaration (Some g) d is = in_instances d g is

abbrev pub of_declarations : List ExceptionDeclaration → List Instance → List NamedException
of_declarations [] is = []
of_declarations (d ∷ ds) is = of_declaration d.generic d is ++ of_declarations ds is
