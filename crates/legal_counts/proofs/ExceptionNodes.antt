-- A legal program declares no more exceptions than its units have tokens that count.
use Rattle.std.proofs.Common.{◌≡◌, ◌≤◌, ◌+◌, ℕ, suc, Bool, true, false, if◌then◌else◌, List, [], ◌∷◌, Option, None, length, reverse, slice_get, refl, sym, ap, ◌∙◌, arith}
use Rattle.std.proofs.lemmas.Bool.{false≢true}
use Rattle.std.specs.List.{sum_by}
use Rattle.std.proofs.lemmas.List.{length-reverse}
use Rattle.std.proofs.lemmas.List.Sums.{sum_by-append, sum_by-cons}
use mathlib.Core.List.{reverse-cons}
use Rattle.ada_syntax.specs.Nodes.{unit_nodes}
use Rattle.ada_syntax.specs.declared.unit.LibraryItem.{LibraryItem}
use Rattle.ada_syntax.specs.declared.unit.LibraryItem.TheVariants as library
use Rattle.ada_syntax.specs.declared.unit.Unit.{Unit as LibraryUnit}
use Rattle.ada_meaning.specs.Program.{Program}
use Rattle.ada_tree.specs.Weights.{stands_in}
use Rattle.ada_rules.specs.Entities.{key}
use Rattle.ada_rules.specs.Environment.{typing, World, beginning_state}
use Rattle.ada_rules.specs.Library.{Library, unit_named, is_package_body, units_but_bodies}
use Rattle.ada_rules.specs.Units.{generic_at, Walked, all_interfaces, all_bodies_judged, world_before}
use Rattle.legal_types.specs.legal_instances.specs.Ordered.{IsWholeOrder}
use Rattle.legal_programs.specs.Walked.{IsLegal}
use Rattle.legal_programs.proofs.Passed.{of_ok}
use Rattle.legal_types.specs.TextGenerics as text
use Rattle.legal_types.specs.TextGenerics.{generic_of_item, shown_in, text_generic, part_in, units_in}
use Rattle.legal_counts.specs.Seen.{shown_of}
use Rattle.legal_counts.proofs.ExceptionNames.{package_items_exceptions, body_items_exceptions, body_exceptions, item_exceptions, units_exceptions, units_few}
use Rattle.legal_counts.proofs.ExceptionDeclarations.{AddsBy, declared_in}
use Rattle.legal_counts.proofs.ExceptionUnits.{shown_at, shown_exceptions_at, inner_exceptions_in, seen_exceptions, seen_exceptions_of, seen_exceptions_at, inner_exceptions, inner_exceptions_of, interfaces_add, all_bodies_add}

-- of a unit, by what others see of it and by its bodies
item_split : (i : LibraryItem) → item_exceptions i ≡ seen_exceptions i + inner_exceptions i
item_split (library.Package x) = let behind : (n : ℕ) → n ≡ n + 0 = λ n. omega arith in behind _
item_split (library.PackageBody b) = let before : (n : ℕ) → n ≡ 0 + n = λ n. omega arith in before _
item_split (library.Instance i) = omega arith
item_split (library.Subprogram b) = let before : (n : ℕ) → n ≡ 0 + n = λ n. omega arith in before _

abbrev seen_exceptions_in : List LibraryUnit → ℕ
seen_exceptions_in [] = 0
seen_exceptions_in (u ∷ us) = seen_exceptions u.item + seen_exceptions_in us

units_split : (us : List LibraryUnit) → units_exceptions us ≡ seen_exceptions_in us + inner_exceptions_of us
units_split [] = omega arith
units_split (u ∷ us) =
    let one = item_split u.item in
    let rest = units_split us in
    omega (arith, one, rest)

-- in whatever order
ordered : (l : Library) (ns : List ℕ) → seen_exceptions_at l ns ≡ sum_by (λ n. seen_exceptions_of (slice_get l.units n)) ns
ordered l [] = refl
ordered l (n ∷ ns) =
    ap (λ m. seen_exceptions_of (slice_get l.units n) + m) (ordered l ns) ∙ sym (sum_by-cons (λ n. seen_exceptions_of (slice_get l.units n)) n ns)

body_shows : (i : LibraryItem) → is_package_body i ≡ true → seen_exceptions i ≡ 0
body_shows (library.PackageBody b) h = refl
body_shows (library.Package x) h = absurd (false≢true h)
body_shows (library.Instance i) h = refl
body_shows (library.Subprogram b) h = refl

module _ (g : ℕ → ℕ) where
  counted : (n : ℕ) (us : List LibraryUnit) → ((i : ℕ) → g (n + i) ≡ seen_exceptions_of (slice_get us i))
      → sum_by g (units_but_bodies n us) ≡ seen_exceptions_in us
  counted n [] h = refl
  counted n (u ∷ us) h =
      by_item (is_package_body u.item) refl
      (counted (n + 1) us (λ i. let next : (n + 1) + i ≡ n + suc i = omega arith in ap g next ∙ h (suc i)))
    where
      by_item : (b : Bool) → is_package_body u.item ≡ b → sum_by g (units_but_bodies (n + 1) us) ≡ seen_exceptions_in us
          → sum_by g (if b then units_but_bodies (n + 1) us else n ∷ units_but_bodies (n + 1) us) ≡ seen_exceptions u.item + seen_exceptions_in us
      by_item true e all = let none = body_shows u.item e in omega (arith, none, all)
      by_item false e all =
          let own : g n ≡ seen_exceptions u.item = (let at : n ≡ n + 0 = omega arith in ap g at ∙ h 0) in
          let sum = sum_by-cons g n (units_but_bodies (n + 1) us) in
          omega (arith, own, sum, all)

-- by the generics
pub turned_sum : {A : Type 0} (f : A → ℕ) (xs : List A) → sum_by f (reverse xs) ≡ sum_by f xs
turned_sum f [] = refl
turned_sum f (x ∷ xs) =
    let first = sum_by-cons f x xs in
    let one = sum_by-cons f x [] in
    let joined = sum_by-append f (reverse xs) (x ∷ []) in
    let rest = turned_sum f xs in
    let turned = ap (sum_by f) (reverse-cons x xs) in
    omega (arith, first, one, joined, rest, turned)

nothing_if : (b : Bool) (n : ℕ) → n ≡ 0 → (if b then n else 0) ≡ n
nothing_if true n e = refl
nothing_if false n e = sym e

nothing_in : (g o : Option ℕ) → part_in g o 0 ≡ 0
nothing_in g o = nothing_if (stands_in g o) 0 refl

item_split_in : (g : Option ℕ) (w : World) (l : Library) (n : ℕ) (i : LibraryItem)
    → part_in g (text_generic w l n i) (item_exceptions i) ≡ part_in g (shown_in n i) (seen_exceptions i) + part_in g (generic_of_item w l i) (inner_exceptions i)
item_split_in g w l n (library.Package x) =
    let none = nothing_in g None in behind (part_in g (generic_at x.formals n) (package_items_exceptions x.items)) (part_in g None 0) none
  where
    behind : (a b : ℕ) → b ≡ 0 → a ≡ a + b
    behind a b e = omega (arith, e)
item_split_in g w l n (library.PackageBody b) =
    let none = nothing_in g None in before (part_in g None 0) (part_in g (text.generic_at w (unit_named l.names (key b.name))) (body_items_exceptions b.items)) none
  where
    before : (a b : ℕ) → a ≡ 0 → b ≡ a + b
    before a b e = omega (arith, e)
item_split_in g w l n (library.Instance i) =
    let none = nothing_in g None in omega (arith, none)
item_split_in g w l n (library.Subprogram b) =
    let none = nothing_in g None in before (part_in g None 0) (part_in g None (body_exceptions b)) none
  where
    before : (a b : ℕ) → a ≡ 0 → b ≡ a + b
    before a b e = omega (arith, e)

abbrev shown_exceptions_in : Option ℕ → ℕ → List LibraryUnit → ℕ
shown_exceptions_in g n [] = 0
shown_exceptions_in g n (u ∷ us) = part_in g (shown_in n u.item) (seen_exceptions u.item) + shown_exceptions_in g (n + 1) us

units_split_in : (g : Option ℕ) (w : World) (l : Library) (n : ℕ) (us : List LibraryUnit)
    → units_in item_exceptions g w l n us ≡ shown_exceptions_in g n us + inner_exceptions_in w l us g
units_split_in g w l n [] = omega arith
units_split_in g w l n (u ∷ us) =
    let one = item_split_in g w l n u.item in
    let rest = units_split_in g w l (n + 1) us in
    omega (arith, one, rest)

ordered_in : (g : Option ℕ) (l : Library) (ns : List ℕ) → shown_exceptions_at l ns g ≡ sum_by (λ n. shown_at g l n) ns
ordered_in g l [] = refl
ordered_in g l (n ∷ ns) = ap (λ m. shown_at g l n + m) (ordered_in g l ns) ∙ sym (sum_by-cons (λ n. shown_at g l n) n ns)

body_shows_in : (g : Option ℕ) (n : ℕ) (i : LibraryItem) → is_package_body i ≡ true → part_in g (shown_in n i) (seen_exceptions i) ≡ 0
body_shows_in g n (library.PackageBody b) h = nothing_in g None
body_shows_in g n (library.Package x) h = absurd (false≢true h)
body_shows_in g n (library.Instance i) h = nothing_in g None
body_shows_in g n (library.Subprogram b) h = nothing_in g None

module _ (g : Option ℕ) (f : ℕ → ℕ) where
  counted_in : (n : ℕ) (us : List LibraryUnit) → ((i : ℕ) → f (n + i) ≡ part_in g (shown_of (n + i) (slice_get us i)) (seen_exceptions_of (slice_get us i)))
      → sum_by f (units_but_bodies n us) ≡ shown_exceptions_in g n us
  counted_in n [] h = refl
  counted_in n (u ∷ us) h =
      by_item (is_package_body u.item) refl
      (counted_in (n + 1) us (λ i. let next : (n + 1) + i ≡ n + suc i = omega arith in
      ap f next ∙ (h (suc i) ∙ ap (λ m. part_in g (shown_of m (slice_get us i)) (seen_exceptions_of (slice_get us i))) (sym next))))
    where
      by_item : (b : Bool) → is_package_body u.item ≡ b → sum_by f (units_but_bodies (n + 1) us) ≡ shown_exceptions_in g (n + 1) us
          → sum_by f (if b then units_but_bodies (n + 1) us else n ∷ units_but_bodies (n + 1) us)
          ≡ part_in g (shown_in n u.item) (seen_exceptions u.item) + shown_exceptions_in g (n + 1) us
      by_item true e all = let none = body_shows_in g n u.item e in omega (arith, none, all)
      by_item false e all =
          let own : f n ≡ part_in g (shown_in n u.item) (seen_exceptions u.item) =
          (let at : n ≡ n + 0 = omega arith in ap f at ∙ (h 0 ∙ ap (λ m. part_in g (shown_in m u.item) (seen_exceptions u.item)) (sym at))) in
          let sum = sum_by-cons f n (units_but_bodies (n + 1) us) in
          omega (arith, own, sum, all)

module _ (l : Library) (main : List ℕ) (p : Program) (is : IsLegal l main p) where
  pub seen_adds : AddsBy (seen_exceptions_at l l.order) (shown_exceptions_at l l.order) beginning_state is.walk.seen.next
  seen_adds =
      of_ok (λ (y : Walked). AddsBy (seen_exceptions_at l l.order) (shown_exceptions_at l l.order) beginning_state y.next)
      (all_interfaces typing l (record { world = world_before l; next = beginning_state }) l.order).answer is.walk.seen is.walk.interfaces
      (interfaces_add typing l (record { world = world_before l; next = beginning_state }) l.order)

  pub bodies_adds : AddsBy (inner_exceptions_of l.units) (inner_exceptions_in is.walk.seen.world l l.units) is.walk.seen.next is.walked.next
  bodies_adds =
      of_ok (AddsBy (inner_exceptions_of l.units) (inner_exceptions_in is.walk.seen.world l l.units) is.walk.seen.next)
      (all_bodies_judged typing l is.walk.seen.world is.walk.seen.next 0 l.units).answer is.walked.next is.walk.bodies
      (all_bodies_add typing l is.walk.seen.world is.walk.seen.next 0 l.units)

module _ (l : Library) (main : List ℕ) (p : Program) (is : IsLegal l main p) (whole : IsWholeOrder l) where
  seen_law : seen_exceptions_at l l.order ≡ seen_exceptions_in l.units
  seen_law =
      ordered l l.order
      ∙ sym (whole.units (λ n. seen_exceptions_of (slice_get l.units n)))
      ∙ counted (λ n. seen_exceptions_of (slice_get l.units n)) 0 l.units (λ i. let same : 0 + i ≡ i = omega arith in ap (λ n. seen_exceptions_of (slice_get l.units n)) same)

  shown_law : (g : Option ℕ) → shown_exceptions_at l l.order g ≡ shown_exceptions_in g 0 l.units
  shown_law g =
      ordered_in g l l.order
      ∙ sym (whole.units (λ n. shown_at g l n))
      ∙ counted_in g (λ n. shown_at g l n) 0 l.units (λ i. let same : 0 + i ≡ i = omega arith in
      ap (λ n. shown_at g l n) same ∙ ap (λ m. part_in g (shown_of m (slice_get l.units i)) (seen_exceptions_of (slice_get l.units i))) (sym same))

  declared_few : length is.walked.next.exceptions_declared ≤ units_exceptions l.units
  declared_few =
      let seen = (seen_adds l main p is).most in
      let bodies = (bodies_adds l main p is).most in
      let same = seen_law in
      let split = units_split l.units in
      omega (arith, seen, bodies, same, split)

  declared_few_in : (g : Option ℕ) → declared_in g is.walked.next.exceptions_declared ≤ units_in item_exceptions g is.walk.seen.world l 0 l.units
  declared_few_in g =
      let seen = (seen_adds l main p is).each g in
      let bodies = (bodies_adds l main p is).each g in
      let same = shown_law g in
      let split = units_split_in g is.walk.seen.world l 0 l.units in
      omega (arith, seen, bodies, same, split)

  pub exceptions_few_in : (g : Option ℕ) → declared_in g p.declared ≤ units_in item_exceptions g is.walk.seen.world l 0 l.units
  exceptions_few_in g =
      let made = ap (λ (q : Program). declared_in g q.declared) is.made in
      let turned = turned_sum (λ d. part_in g d.generic 1) is.walked.next.exceptions_declared in
      let declared = declared_few_in g in
      omega (arith, made, turned, declared)

  pub exceptions_few : length p.declared ≤ sum_by unit_nodes l.units
  exceptions_few =
      let made : length p.declared ≡ length (reverse is.walked.next.exceptions_declared) = ap (λ (q : Program). length q.declared) is.made in
      let turned = length-reverse is.walked.next.exceptions_declared in
      let declared = declared_few in
      let units = units_few l.units in
      omega (arith, made, turned, declared, units)
