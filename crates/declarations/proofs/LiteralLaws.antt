-- Literals that are declared one by one.
use Rattle.std.proofs.Common.{◌≡◌, ℕ, ◌+◌, ◌<◌, ◌≤◌, pos, List, length, drop, get_or, sym, ap, ◌∙◌}
use Rattle.std.proofs.lemmas.List.{at_drop_all, at_drop_more}
use Rattle.ada_syntax.specs.declared.name.Identifier.{Identifier}
use Rattle.ada_rules.specs.Types.{AdaType}
use Rattle.ada_rules.specs.Entities.{key, literal, Region, redefined}
use Rattle.ada_rules.specs.Declarations.{literals}

pub turn_literal : (t : AdaType) (n : ℕ) (region new : Region) (is : List Identifier) (j : ℕ) (i : Identifier) → j < length is → i ≡ get_or is j i
    → new ≡ redefined (key i) (literal t (pos n)) region → literals t n region (drop j is) ≡ literals t (n + 1) new (drop (j + 1) is)
turn_literal t n region new is j i less e is_new =
    at_drop_more (literals t n region) is j i less
    ∙ (ap (λ x. literals t (n + 1) (redefined (key x) (literal t (pos n)) region) (drop (j + 1) is)) (sym e)
    ∙ ap (λ r. literals t (n + 1) r (drop (j + 1) is)) (sym is_new))

pub all_literals : (t : AdaType) (n : ℕ) (region : Region) (is : List Identifier) (j : ℕ) → length is ≤ j → literals t n region (drop j is) ≡ region
all_literals t n region is j h = at_drop_all (literals t n region) is j h
