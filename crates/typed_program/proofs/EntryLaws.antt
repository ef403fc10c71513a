-- What the limits ask of units, one behind the other.
use Rattle.std.proofs.Common.{◌≡◌, ℕ, ◌+◌, ◌<◌, ◌≤◌, false, true≢false, List, [], ◌∷◌, ◌++◌, length, drop, get_or, Option, Some, None, refl, sym, ap, ◌∙◌}
use Rattle.std.proofs.lemmas.List.{append_assoc, append-nil, at_drop_all, at_drop_more}
use Rattle.std.specs.Option.{option_and_then}
use Rattle.ada_syntax.specs.Nodes.{capped, unit_nodes}
use Rattle.ada_syntax.specs.declared.unit.LibraryItem.{LibraryItem}
use Rattle.ada_syntax.specs.declared.unit.LibraryItem.TheVariants as item
use Rattle.ada_syntax.specs.declared.unit.PackageBody.{PackageBody}
use Rattle.ada_syntax.specs.declared.unit.Unit.{Unit as LibraryUnit}
use Rattle.ada_tree.specs.declared.program.UnitEntry.{UnitEntry}
use Rattle.ada_tree.specs.declared.program.UnitRole.{UnitRole}
use Rattle.ada_tree.specs.declared.program.UnitRole.TheVariants.{Once}
use Rattle.ada_rules.specs.Entities.{key}
use Rattle.ada_rules.specs.Environment.{World, interface_of}
use Rattle.ada_rules.specs.Library.{Library as RulesLibrary, is_package_body, unit_named}
use Rattle.ada_rules.specs.Units.{is_generic_interface}
use Rattle.ada_entities.specs.declared.units.Interface.{Interface}
use Rattle.ada_entities.specs.EntityViews.{Tables}
use Rattle.ada_library.specs.declared.library.Library.{Library}
use Rattle.ada_library.specs.LibraryView.{IsNamed}
use Rattle.ada_library.specs.Seeing.{Stands}
use Rattle.program_walk.specs.UnitGenerics.{IsGenericOf}
use Rattle.typed_program.specs.Entries.{IsOwnRole, IsBodyRole, IsRoleOf, IsEntryOf, AreEntries}
use Rattle.program_weights.specs.Entries.{text_role, body_role, role_of, entry_of, entries_from}

-- a body of a package, by the name of its unit
abbrev generic_in : World → ℕ → Option ℕ
generic_in w n = is_generic_interface (interface_of w n) n

abbrev role_named : World → Option ℕ → UnitRole
role_named w o = text_role (option_and_then (generic_in w) o)

module _ (x : Library) (units : List Interface) (b : PackageBody) (name : List ℕ) (named : name ≡ key b.name) where
  pub named_role : (n : ℕ) (g : Option ℕ) → IsNamed x name (Some n) → IsGenericOf units n g → IsBodyRole x units b (text_role g)
  named_role n g is generic all k w l s =
      ap text_role (generic k s.actuals w s.interfaces)
      ∙ ap (role_named w) (is all l s.library ∙ ap (unit_named l.names) named)

  pub unnamed_role : IsNamed x name None → IsBodyRole x units b Once
  unnamed_role is all k w l s = ap (role_named w) (is all l s.library ∙ ap (unit_named l.names) named)

-- a unit by what it is
pub role_of_body : (x : Library) (units : List Interface) (n : ℕ) (i : LibraryItem) (b : PackageBody) (r : UnitRole) → i ≡ item.PackageBody b
    → IsBodyRole x units b r → IsRoleOf x units n i r
role_of_body x units n i b r is own all k w l s = own all k w l s ∙ sym (ap (role_of w l n) is)

pub role_of_other : (x : Library) (units : List Interface) (n : ℕ) (i : LibraryItem) (r : UnitRole) → is_package_body i ≡ false
    → IsOwnRole units n r → IsRoleOf x units n i r
role_of_other x units n (item.PackageBody b) r other own all k w l s = absurd (true≢false other)
role_of_other x units n (item.Package p) r other own all k w l s = own k s.actuals w s.interfaces
role_of_other x units n (item.Instance p) r other own all k w l s = own k s.actuals w s.interfaces
role_of_other x units n (item.Subprogram p) r other own all k w l s = own k s.actuals w s.interfaces

pub is_entry : (x : Library) (units : List Interface) (n : ℕ) (u : LibraryUnit) (nodes : ℕ) (r : UnitRole) → nodes ≡ capped (unit_nodes u)
    → IsRoleOf x units n u.item r → IsEntryOf x units n u (record { pos = u.pos; nodes = nodes; role = r })
is_entry x units n u nodes r count role all k w l s = λ z. record { pos = u.pos; nodes = count z; role = role all k w l s z }

-- where a loop over units stands: the entries so far, and those of the units that are left
abbrev pub AreSoFar : Library → List Interface → List LibraryUnit → ℕ → List UnitEntry → Type 0
AreSoFar x units us i es =
    (all : List LibraryUnit) (k : Tables) (w : World) (l : RulesLibrary) → Stands x units all k w l
    → es ++ entries_from w l i (drop i us) ≡ entries_from w l 0 us

pub none_so_far : (x : Library) (units : List Interface) (us : List LibraryUnit) (es : List UnitEntry) → es ≡ [] → AreSoFar x units us 0 es
none_so_far x units us es e all k w l s = ap (λ xs. xs ++ entries_from w l 0 us) e

pub one_more : (x : Library) (units : List Interface) (us : List LibraryUnit) (i : ℕ) (es new : List UnitEntry) (n : ℕ) (u : LibraryUnit) (e : UnitEntry)
    → AreSoFar x units us i es → i < length us → u ≡ get_or us i u → n ≡ i → IsEntryOf x units n u e → new ≡ es ++ e ∷ []
    → AreSoFar x units us (i + 1) new
one_more x units us i es new n u e so less is numbered entry pushed all k w l s =
    ap (λ xs. xs ++ entries_from w l (i + 1) (drop (i + 1) us)) pushed
    ∙ (append_assoc es (e ∷ []) (entries_from w l (i + 1) (drop (i + 1) us))
    ∙ (ap (λ y. es ++ (y ∷ entries_from w l (i + 1) (drop (i + 1) us))) (entry all k w l s ∙ (λ z. entry_of w l (numbered z) (is z)))
    ∙ (sym (at_drop_more (λ ys. es ++ entries_from w l i ys) us i u less) ∙ so all k w l s)))

pub all_entered : (x : Library) (units : List Interface) (us : List LibraryUnit) (i : ℕ) (es : List UnitEntry) → AreSoFar x units us i es
    → length us ≤ i → AreEntries x units us es
all_entered x units us i es so none k w l s =
    sym (append-nil es)
    ∙ (sym (at_drop_all (λ ys. es ++ entries_from w l i ys) us i none)
    ∙ (so us k w l s ∙ ap (entries_from w l 0) (sym s.library.of_units)))
