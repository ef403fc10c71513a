-- The library: the names of its units, what units name in `with`, and the order in which they depend on each other (Ada
-- RM 2012, 10.1).
use Rattle.std.specs.Prelude.{ℕ, zero, suc, nat_eq, ◌+◌, Bool, true, false, not, ◌&&◌, ◌||◌, List, [], ◌∷◌, ◌++◌, codes, map, length, Option, Some, None, option_map, slice_get, unwrap_or, if◌then◌else◌}
use Rattle.std.specs.List.{list_all, list_any}
use Rattle.std.specs.Map.{lookup}
use Rattle.std.specs.Option.{option_and_then}
use Rattle.ada_syntax.specs.declared.name.Identifier.{Identifier}
use Rattle.ada_syntax.specs.declared.unit.BodyItem.{BodyItem}
use Rattle.ada_syntax.specs.declared.unit.BodyItem.TheVariants as item
use Rattle.ada_syntax.specs.declared.unit.LibraryItem.{LibraryItem}
use Rattle.ada_syntax.specs.declared.unit.LibraryItem.TheVariants as library
use Rattle.ada_syntax.specs.declared.unit.PackageItem.{PackageItem}
use Rattle.ada_syntax.specs.declared.unit.PackageItem.TheVariants as part
use Rattle.ada_syntax.specs.declared.unit.Unit.{Unit as LibraryUnit}
use Rattle.ada_syntax.specs.declared.unit.WithClause.{WithClause}
use Rattle.ada_rules.specs.Plan.{Judgement, ◌>>=◌, rule, construct}
use Rattle.ada_rules.specs.Entities.{Standard, key, same_name, Entity, test_io, Region}
use Rattle.ada_rules.specs.Environment.{BodyName, World, entity_of_unit}

abbrev pub item_name : LibraryItem → Identifier
item_name (library.Package p) = p.name
item_name (library.PackageBody b) = b.name
item_name (library.Instance i) = i.name
item_name (library.Subprogram b) = b.specification.name

abbrev pub is_package_body : LibraryItem → Bool
is_package_body (library.PackageBody b) = true
is_package_body i = false

-- the units by name, but for bodies of packages; units are numbered from 0
abbrev pub with_unit : ℕ → LibraryItem → List (List ℕ × ℕ) → List (List ℕ × ℕ)
with_unit n (library.PackageBody b) names = names
with_unit n i names = (key (item_name i), n) ∷ names

abbrev pub names_from : ℕ → List LibraryUnit → List (List ℕ × ℕ)
names_from n [] = []
names_from n (u ∷ us) = with_unit n u.item (names_from (n + 1) us)

abbrev pub unit_named : List (List ℕ × ℕ) → List ℕ → Option ℕ
unit_named names name = lookup (same_name name) names

-- the bodies, in the order of the text
abbrev pub body_names : List ℕ → List BodyItem → List BodyName
body_names package_name [] = []
body_names package_name (item.Body b ∷ rest) =
    record { package_name = package_name; name = key b.specification.name } ∷ body_names package_name rest
body_names package_name (item.Declared i ∷ rest) = body_names package_name rest

abbrev pub bodies_of_item : LibraryItem → List BodyName
bodies_of_item (library.PackageBody b) = body_names (key b.name) b.items
bodies_of_item (library.Subprogram b) =
    record { package_name = key b.specification.name; name = key b.specification.name } ∷ []
bodies_of_item i = []

abbrev pub all_bodies : List LibraryUnit → List BodyName
all_bodies [] = []
all_bodies (u ∷ us) = bodies_of_item u.item ++ all_bodies us

-- instances are numbered from 1 in the order of the text
abbrev pub is_instance : LibraryItem → Bool
is_instance (library.Instance i) = true
is_instance i = false

abbrev pub count_instances : List LibraryUnit → ℕ
count_instances [] = 0
count_instances (u ∷ us) = if is_instance u.item then count_instances us + 1 else count_instances us

abbrev pub instance_number : ℕ → List LibraryUnit → ℕ
instance_number n [] = 1
instance_number zero (u ∷ us) = 1
instance_number (suc n) (u ∷ us) = if is_instance u.item then instance_number n us + 1 else instance_number n us

-- what a unit names in `with`
abbrev pub clause_names : List WithClause → List Identifier
clause_names [] = []
clause_names (w ∷ ws) = w.names ++ clause_names ws

abbrev pub numbers_named : List (List ℕ × ℕ) → List Identifier → List ℕ
numbers_named names [] = []
numbers_named names (i ∷ is) = with_number (unit_named names (key i)) (numbers_named names is) where
  with_number : Option ℕ → List ℕ → List ℕ
  with_number None ns = ns
  with_number (Some n) ns = n ∷ ns

-- for each unit, the numbers of those that it names; a body of a package leads nowhere
abbrev pub edges_of : List (List ℕ × ℕ) → LibraryUnit → List ℕ
edges_of names u = if is_package_body u.item then [] else numbers_named names (clause_names u.withs)

abbrev pub graph_of : List (List ℕ × ℕ) → List LibraryUnit → List (List ℕ)
graph_of names units = map (edges_of names) units

abbrev pub is_among : List ℕ → ℕ → Bool
is_among ns n = list_any (nat_eq n) ns

abbrev pub edges : List (List ℕ) → ℕ → List ℕ
edges graph n = unwrap_or (slice_get graph n) []

-- the first of these units that names only units before it in the order, and the others
pub record Picked : Type 0 where
  pub first : ℕ
  pub others : List ℕ

abbrev pub is_ready : List (List ℕ) → List ℕ → ℕ → Bool
is_ready graph done n = list_all (is_among done) (edges graph n)

abbrev pub put_back : ℕ → Picked → Picked
put_back n p = record { first = p.first; others = n ∷ p.others }

abbrev pub picked_if : ℕ → List ℕ → Bool → (Unit {0} → Option Picked) → Option Picked
picked_if n ns true later = Some (record { first = n; others = ns })
picked_if n ns false later = option_map (put_back n) (later tt)

abbrev pub picked : List (List ℕ) → List ℕ → List ℕ → Option Picked
picked graph done [] = None
picked graph done (n ∷ ns) = picked_if n ns (is_ready graph done n) (λ u. picked graph done ns)

-- units in the order in which they depend on each other; those on a cycle, and those that lead to one, are not in it
abbrev pub ordered_on : List ℕ → Option Picked → (Picked → List ℕ) → List ℕ
ordered_on done None later = done
ordered_on done (Some p) later = later p

abbrev pub ordered_from : List (List ℕ) → ℕ → List ℕ → List ℕ → List ℕ
ordered_from graph zero done rest = done
ordered_from graph (suc fuel) done rest =
    ordered_on done (picked graph done rest) (λ p. ordered_from graph fuel (done ++ p.first ∷ []) p.others)

abbrev pub dependency_order : List (List ℕ) → List ℕ → List ℕ
dependency_order graph units = ordered_from graph (length units) [] units

-- the units that a unit leads to by at most this many steps
abbrev pub joined : List ℕ → List ℕ → List ℕ
joined [] ms = ms
joined (n ∷ ns) ms = if is_among ms n then joined ns ms else joined ns (n ∷ ms)

abbrev pub next_ones : List (List ℕ) → List ℕ → List ℕ
next_ones graph [] = []
next_ones graph (n ∷ ns) = joined (edges graph n) (next_ones graph ns)

abbrev pub reached : List (List ℕ) → ℕ → List ℕ → List ℕ
reached graph zero ns = ns
reached graph (suc fuel) ns = reached graph fuel (joined (next_ones graph ns) ns)

-- whether a unit leads back to another; where all units stand in the order there is no cycle
abbrev pub leads_back : (in_order : Bool) → List (List ℕ) → (from to : ℕ) → Bool
leads_back true graph m n = false
leads_back false graph m n = is_among (reached graph (length graph) (m ∷ [])) n

abbrev pub units_but_bodies : ℕ → List LibraryUnit → List ℕ
units_but_bodies n [] = []
units_but_bodies n (u ∷ us) =
    if is_package_body u.item then units_but_bodies (n + 1) us else n ∷ units_but_bodies (n + 1) us

-- the library as far as names go
pub record Library : Type 0 where
  pub standard : Standard
  pub units : List LibraryUnit
  pub names : List (List ℕ × ℕ)
  pub graph : List (List ℕ)
  pub order : List ℕ
  pub is_ordered : Bool

abbrev pub ordered_library : Standard → List LibraryUnit → List (List ℕ × ℕ) → List (List ℕ) → List ℕ → Library
ordered_library standard units names graph order = record {
  standard = standard;
  units = units;
  names = names;
  graph = graph;
  order = order;
  is_ordered = nat_eq (length order) (length (units_but_bodies 0 units));
}

abbrev pub library_of : Standard → List LibraryUnit → Library
library_of standard units =
    ordered_library standard units (names_from 0 units) (graph_of (names_from 0 units) units)
    (dependency_order (graph_of (names_from 0 units) units) (units_but_bodies 0 units))

-- A name in a `with` clause of a unit denotes a unit of the library; among specifications, instances and library
-- subprograms it does not lead back to the unit (RM 10.1.2, 10.2).
abbrev pub may_name : Library → ℕ → LibraryItem → Option ℕ → Bool
may_name l n i None = false
may_name l n i (Some m) = is_package_body i || not (nat_eq m n || leads_back l.is_ordered l.graph m n)

abbrev pub is_test_io : Identifier → Bool
is_test_io i = same_name (key i) (codes "test_io")

abbrev pub named_in_with : Library → ℕ → LibraryItem → Identifier → Judgement Unit
named_in_with l n item i =
    construct i.pos (rule (if is_test_io i || may_name l n item (unit_named l.names (key i)) then Some tt else None))

abbrev pub all_named_in_with : Library → ℕ → LibraryUnit → List Identifier → Judgement Unit
all_named_in_with l n u [] = construct u.pos (rule (Some tt))
all_named_in_with l n u (i ∷ is) = construct u.pos (do
  x ← named_in_with l n u.item i
  xs ← all_named_in_with l n u is
  rule (Some tt))

-- The name of a unit is new in the library. A package has one body, exactly where it declares subprograms (RM 7.2,
-- 10.1.4).
abbrev pub declares_subprogram : List PackageItem → Bool
declares_subprogram [] = false
declares_subprogram (part.Subprogram x ∷ rest) = true
declares_subprogram (part.Declaration d ∷ rest) = declares_subprogram rest

abbrev pub wants_body : Option LibraryUnit → Bool
wants_body None = false
wants_body (Some u) = item_wants_body u.item where
  item_wants_body : LibraryItem → Bool
  item_wants_body (library.Package p) = declares_subprogram p.items
  item_wants_body i = false

abbrev pub is_first_name : ℕ → Option ℕ → Bool
is_first_name n None = false
is_first_name n (Some m) = nat_eq m n

abbrev pub bodies_named : List ℕ → ℕ → List LibraryUnit → List ℕ
bodies_named name n [] = []
bodies_named name n (u ∷ us) =
    if is_package_body u.item && same_name name (key (item_name u.item))
    then n ∷ bodies_named name (n + 1) us
    else bodies_named name (n + 1) us

abbrev pub first_number : List ℕ → Option ℕ
first_number [] = None
first_number (n ∷ ns) = Some n

abbrev pub is_declared_well : Library → ℕ → LibraryItem → Bool
is_declared_well l n (library.PackageBody b) =
    wants_body (option_and_then (slice_get l.units) (unit_named l.names (key b.name)))
    && is_first_name n (first_number (bodies_named (key b.name) 0 l.units))
is_declared_well l n i = not (is_test_io (item_name i)) && is_first_name n (unit_named l.names (key (item_name i)))

abbrev pub heading : Library → ℕ → LibraryUnit → Judgement Unit
heading l n u = construct u.pos (do
  names ← all_named_in_with l n u (clause_names u.withs)
  rule (if is_declared_well l n u.item then Some tt else None))

-- What a unit sees of the library: itself, and what it names in `with` (RM 10.1.6). What is seen already stays as it is:
-- naming a unit twice is good.
abbrev pub denoted_in_with : World → Library → Identifier → Option Entity
denoted_in_with w l i =
    if is_test_io i then Some test_io else option_map (entity_of_unit w) (unit_named l.names (key i))

abbrev pub seen_too : List ℕ → Entity → Region → Region
seen_too name x [] = (name, x) ∷ []
seen_too name x (e ∷ es) = e ∷ (if same_name name e.0 then es else seen_too name x es)

abbrev pub with_seen : List ℕ → Option Entity → Region → Region
with_seen name None region = region
with_seen name (Some x) region = seen_too name x region

abbrev pub seen_more : World → Library → List Identifier → Region → Region
seen_more w l [] region = region
seen_more w l (i ∷ is) region = seen_more w l is (with_seen (key i) (denoted_in_with w l i) region)
