-- Names of units.
use Rattle.std.proofs.Common.{◌≡◌, ℕ, ◌+◌, ◌<◌, Bool, true, false, cond, ◌&&◌, List, [], ◌∷◌, length, drop, get_or, Option, Some, None, Result, Ok, Err, IfOk, OnOk, if◌then◌else◌, refl, sym, ap, subst, ◌∙◌}
use Rattle.std.specs.Cmp.Lexicographic.{bytes_decides}
use Rattle.std.specs.Option.{option_or}
use Rattle.std.specs.Result.{result_and}
use Rattle.std.proofs.lemmas.List.{at_drop_more}
use Rattle.ada_syntax.specs.declared.unit.LibraryItem.{LibraryItem}
use Rattle.ada_syntax.specs.declared.unit.LibraryItem.TheVariants as library
use Rattle.ada_syntax.specs.declared.unit.Unit.{Unit as LibraryUnit}
use Rattle.ada_rules.specs.Entities.{key, same_name}
use Rattle.ada_rules.specs.Library.{item_name, is_package_body, unit_named, bodies_named, first_number}
use Rattle.ada_library.specs.NameTable.{with_body, bodies_from}

pub one_name : (name other : List ℕ) → same_name other name ≡ true → other ≡ name
one_name name other h = (bytes_decides other name).0 h

-- what is left of a list begins with the item that a loop looks at
pub drop_item : {X Y : Type 0} (F : List X → Y) (xs : List X) (i : ℕ) (x : X) → i < length xs → x ≡ get_or xs i x
    → F (drop i xs) ≡ F (x ∷ drop (i + 1) xs)
drop_item F xs i x h e = at_drop_more F xs i x h ∙ ap (λ y. F (y ∷ drop (i + 1) xs)) (sym e)

pub or_nothing : {A : Type 0} (o : Option A) → option_or o None ≡ o
or_nothing None = refl
or_nothing (Some x) = refl

first_by : (b : Bool) (n : ℕ) (o : Option ℕ) (ms : List ℕ) → o ≡ first_number ms → cond b (Some n) o ≡ first_number (if b then n ∷ ms else ms)
first_by true n o ms h = refl
first_by false n o ms h = h

first_in : (i : LibraryItem) (name : List ℕ) (n : ℕ) (rest : List (List ℕ × ℕ)) (ms : List ℕ) → unit_named rest name ≡ first_number ms
    → unit_named (with_body n i rest) name ≡ first_number (if is_package_body i && same_name name (key (item_name i)) then n ∷ ms else ms)
first_in (library.PackageBody b) name n rest ms h = first_by (same_name name (key b.name)) n (unit_named rest name) ms h
first_in (library.Package p) name n rest ms h = h
first_in (library.Instance i) name n rest ms h = h
first_in (library.Subprogram b) name n rest ms h = h

pub bodies_first : (name : List ℕ) (n : ℕ) (us : List LibraryUnit) → unit_named (bodies_from n us) name ≡ first_number (bodies_named name n us)
bodies_first name n [] = refl
bodies_first name n (u ∷ us) =
    first_in u.item name n (bodies_from (n + 1) us) (bodies_named name (n + 1) us) (bodies_first name (n + 1) us)

-- what is handed on where a step passed is what the step left
pub kept : {A N E : Type 0} {Q : Type 0} (P : N → Type 0) (step : Result A E) (left : N) (r : Result N E) → r ≡ result_and step (Ok left)
    → OnOk step Q → (Q → P left) → IfOk r P
kept P (Ok x) left r is holds gives = subst (λ y. IfOk y P) (sym is) (gives holds)
kept P (Err e) left r is holds gives = subst (λ y. IfOk y P) (sym is) tt

-- what a step ensures holds of what it made
pub made : {A E : Type 0} (P : A → Type 0) (step : Result A E) (x : A) → step ≡ Ok x → IfOk step P → P x
made P step x is h = subst (λ y. IfOk y P) is h
