-- Each exception and each object of the library level stands in the generic in whose text a unit declares it.
use Rattle.std.proofs.Common.{◌≡◌, ◌≤◌, ◌+◌, ℕ, suc, Bool, true, false, if◌then◌else◌, List, [], ◌∷◌, map, reverse, slice_get, Option, Some, None, refl, sym, ap, ◌∙◌, subst, inl, inr, arith}
use Rattle.std.specs.Prelude.{◌⊎◌}
use Rattle.std.proofs.lemmas.Bool.{eqb-true, eq-eqb, false≢true}
use Rattle.std.proofs.lemmas.List.Sums.{sum_by-cons}
use Rattle.cov_base.specs.Lists.{Everywhere}
use Rattle.ada_syntax.specs.declared.unit.LibraryItem.{LibraryItem}
use Rattle.ada_syntax.specs.declared.unit.LibraryItem.TheVariants as library
use Rattle.ada_syntax.specs.declared.unit.Unit.{Unit as LibraryUnit}
use Rattle.ada_tree.specs.Weights.{stands_in}
use Rattle.ada_meaning.specs.Program.{ExceptionDeclaration, Program}
use Rattle.ada_rules.specs.Environment.{no_interface, World}
use Rattle.ada_rules.specs.Library.{Library, unit_named}
use Rattle.ada_rules.specs.Entities.{key}
use Rattle.ada_rules.specs.Units.{is_generic_interface}
use Rattle.std.specs.Prelude.{unwrap_or}
use Rattle.legal_laws.proofs.KnownBodies.{every_reversed}
use Rattle.legal_programs.specs.Walked.{IsLegal}
use Rattle.legal_programs.proofs.Lists.{map_reversed}
use Rattle.legal_types.specs.TextGenerics.{generic_of_item, generic_at, shown_in, text_generic, part_in}
use Rattle.legal_counts.specs.LibraryWords.{standing, noted_words}
use Rattle.legal_counts.specs.Seen.{shown_of, IsOfText, IsGenericOfText}
use Rattle.legal_counts.proofs.ExceptionDeclarations.{declared_in}
use Rattle.legal_counts.proofs.ExceptionNodes.{seen_adds, bodies_adds}
use Rattle.legal_counts.proofs.ExceptionUnits.{seen_exceptions, seen_exceptions_of, shown_at, shown_exceptions_at, inner_exceptions, inner_exceptions_in}
use Rattle.legal_counts.proofs.NotedUnits.{objects_counted}

-- what stands in the same generic, or in none
same_place : (g o : Option ℕ) → stands_in g o ≡ true → g ≡ o
same_place None None e = refl
same_place None (Some h) e = absurd (false≢true e)
same_place (Some g) None e = absurd (false≢true e)
same_place (Some g) (Some h) e = ap (λ n. Some n) (eqb-true g h e)

itself : (g : Option ℕ) → stands_in g g ≡ true
itself None = refl
itself (Some g) = eq-eqb g g refl

-- one that is declared counts
counts_here : (ds : List ExceptionDeclaration) → Everywhere (λ d. 1 ≤ declared_in d.generic ds) ds
counts_here ds = among ds (λ g. behind (declared_in g ds))
  where
    behind : (n : ℕ) → n ≤ n
    behind n = omega arith

    among : (es : List ExceptionDeclaration) → ((g : Option ℕ) → declared_in g es ≤ declared_in g ds) → Everywhere (λ d. 1 ≤ declared_in d.generic ds) es
    among [] h = tt
    among (e ∷ es) h = (
      first (declared_in e.generic (e ∷ es)) (declared_in e.generic ds) (declared_in e.generic es)
          (sum_by-cons (λ d. part_in e.generic d.generic 1) e es ∙ ap (λ b. (if b then 1 else 0) + declared_in e.generic es) (itself e.generic)) (h e.generic),
      among es (λ g. later (declared_in g (e ∷ es)) (declared_in g ds) (declared_in g es) (part_in g e.generic 1) (sum_by-cons (λ d. part_in g d.generic 1) e es) (h g)),
    )
      where
        first : (a b c : ℕ) → a ≡ 1 + c → a ≤ b → 1 ≤ b
        first a b c i k = omega (arith, i, k)

        later : (a b c d : ℕ) → a ≡ d + c → a ≤ b → c ≤ b
        later a b c d i k = omega (arith, i, k)

module _ (w : World) (l : Library) (g : Option ℕ) where
  abbrev There : Type 0
  There = IsGenericOfText w l g

  nothing : (b : Bool) (rest : ℕ) → 1 ≤ (if b then 0 else 0) + rest → 1 ≤ rest
  nothing true rest h = omega (arith, h)
  nothing false rest h = omega (arith, h)

  -- what counts stands in the text
  here_or_later : (n count rest : ℕ) (u : LibraryUnit) (o : Option ℕ) → slice_get l.units n ≡ Some u → o ≡ text_generic w l n u.item → 1 ≤ part_in g o count + rest
      → There ⊎ (1 ≤ rest)
  here_or_later n count rest u o there e h = by_test (stands_in g o) refl h
    where
      by_test : (b : Bool) → stands_in g o ≡ b → 1 ≤ (if b then count else 0) + rest → There ⊎ (1 ≤ rest)
      by_test true at k = inl (record { place = n; unit = u; there = there; is = same_place g o at ∙ e })
      by_test false at k = inr (omega (arith, k))

  shown_here : (n rest : ℕ) (o : Option LibraryUnit) → slice_get l.units n ≡ o → 1 ≤ part_in g (shown_of n o) (seen_exceptions_of o) + rest → There ⊎ (1 ≤ rest)
  shown_here n rest None there h = inr (nothing (stands_in g None) rest h)
  shown_here n rest (Some u) there h = of_item u.item refl h
    where
      of_item : (i : LibraryItem) → u.item ≡ i → 1 ≤ part_in g (shown_in n i) (seen_exceptions i) + rest → There ⊎ (1 ≤ rest)
      of_item (library.Package x) e k =
          here_or_later n (seen_exceptions (library.Package x)) rest u (shown_in n (library.Package x)) there (sym (ap (text_generic w l n) e)) k
      of_item (library.PackageBody b) e k = inr (nothing (stands_in g None) rest k)
      of_item (library.Instance i) e k = inr (nothing (stands_in g None) rest k)
      of_item (library.Subprogram b) e k = inr (nothing (stands_in g None) rest k)

  shown_there : (ns : List ℕ) (more : ℕ) → 1 ≤ shown_exceptions_at l ns g + more → There ⊎ (1 ≤ more)
  shown_there [] more h = inr (omega (arith, h))
  shown_there (n ∷ ns) more h =
      by_first (shown_here n (shown_exceptions_at l ns g + more) (slice_get l.units n) refl (grouped (shown_at g l n) (shown_exceptions_at l ns g) more h))
      (shown_there ns more)
    where
      grouped : (a b c : ℕ) → 1 ≤ (a + b) + c → 1 ≤ a + (b + c)
      grouped a b c k = omega (arith, k)

      by_first : There ⊎ (1 ≤ shown_exceptions_at l ns g + more) → (1 ≤ shown_exceptions_at l ns g + more → There ⊎ (1 ≤ more)) → There ⊎ (1 ≤ more)
      by_first (inl there) rest = inl there
      by_first (inr later) rest = rest later

  inner_here : (n rest : ℕ) (u : LibraryUnit) (i : LibraryItem) → slice_get l.units n ≡ Some u → u.item ≡ i → 1 ≤ part_in g (generic_of_item w l i) (inner_exceptions i) + rest
      → There ⊎ (1 ≤ rest)
  inner_here n rest u (library.PackageBody b) there e k =
      here_or_later n (inner_exceptions (library.PackageBody b)) rest u (generic_at w (unit_named l.names (key b.name))) there (sym (ap (text_generic w l n) e)) k
  inner_here n rest u (library.Subprogram b) there e k =
      here_or_later n (inner_exceptions (library.Subprogram b)) rest u None there (sym (ap (text_generic w l n) e)) k
  inner_here n rest u (library.Package x) there e k = inr (nothing (stands_in g None) rest k)
  inner_here n rest u (library.Instance i) there e k = inr (nothing (stands_in g None) rest k)

  inner_there : (n : ℕ) (us : List LibraryUnit) → ((j : ℕ) → slice_get l.units (n + j) ≡ slice_get us j) → 1 ≤ inner_exceptions_in w l us g → There
  inner_there n [] from h = absurd (none h)
    where
      none : 1 ≤ 0 → ⊥
      none k = omega (arith, k)
  inner_there n (u ∷ us) from h =
      let at : n ≡ n + 0 = omega arith in
      by_first (inner_here n (inner_exceptions_in w l us g) u u.item (ap (slice_get l.units) at ∙ from 0) refl h)
      (inner_there (n + 1) us (λ j. let next : n + 1 + j ≡ n + suc j = omega arith in ap (slice_get l.units) next ∙ from (suc j)))
    where
      by_first : There ⊎ (1 ≤ inner_exceptions_in w l us g) → (1 ≤ inner_exceptions_in w l us g → There) → There
      by_first (inl there) rest = there
      by_first (inr later) rest = rest later

every_so : {X : Type 0} (P Q : X → Type 0) → ((x : X) → P x → Q x) → (xs : List X) → Everywhere P xs → Everywhere Q xs
every_so P Q f [] h = tt
every_so P Q f (x ∷ xs) h = (f x h.0, every_so P Q f xs h.1)

-- the generics are the same behind all bodies
same_text : (v w : World) (l : Library) (n : ℕ) (i : LibraryItem) → v.interfaces ≡ w.interfaces → text_generic v l n i ≡ text_generic w l n i
same_text v w l n (library.PackageBody b) e = same_at (unit_named l.names (key b.name))
  where
    same_at : (o : Option ℕ) → generic_at v o ≡ generic_at w o
    same_at None = refl
    same_at (Some m) = ap (λ is. is_generic_interface (unwrap_or (slice_get is m) no_interface) m) e
same_text v w l n (library.Package x) e = refl
same_text v w l n (library.Instance i) e = refl
same_text v w l n (library.Subprogram b) e = refl

module _ (l : Library) (main : List ℕ) (p : Program) (is : IsLegal l main p) where
  abbrev seen : World
  seen = is.walk.seen.world

  same_interfaces : seen.interfaces ≡ is.walked.world.interfaces
  same_interfaces = sym (ap (λ (w : World). w.interfaces) is.walk.world)

  behind_all : (g : Option ℕ) → IsGenericOfText seen l g → IsGenericOfText is.walked.world l g
  behind_all g h =
      record { place = h.place; unit = h.unit; there = h.there; is = h.is ∙ same_text seen is.walked.world l h.place h.unit.item same_interfaces }

  declared_there : (d : ExceptionDeclaration) → 1 ≤ declared_in d.generic is.walked.next.exceptions_declared → IsGenericOfText is.walked.world l d.generic
  declared_there d h =
      let g = d.generic in
      let shown = (seen_adds l main p is).each g in
      let inner = (bodies_adds l main p is).each g in
      behind_all g (by_place (shown_there seen l g l.order (inner_exceptions_in seen l l.units g)
      (together (declared_in g is.walked.next.exceptions_declared) (declared_in g is.walk.seen.next.exceptions_declared)
      (shown_exceptions_at l l.order g) (inner_exceptions_in seen l l.units g) h shown inner)))
    where
      together : (a b c d : ℕ) → 1 ≤ a → b ≤ c + 0 → a ≤ d + b → 1 ≤ c + d
      together a b c d i j k = omega (arith, i, j, k)

      by_place : IsGenericOfText seen l d.generic ⊎ (1 ≤ inner_exceptions_in seen l l.units d.generic) → IsGenericOfText seen l d.generic
      by_place (inl there) = there
      by_place (inr inner) = inner_there seen l d.generic 0 l.units (λ j. let none : 0 + j ≡ j = omega arith in ap (slice_get l.units) none) inner

  pub exceptions_in_texts : Everywhere (λ d. IsGenericOfText is.walked.world l d.generic) p.declared
  exceptions_in_texts =
      subst (λ (q : Program). Everywhere (λ d. IsGenericOfText is.walked.world l d.generic) q.declared) (sym is.made)
      (every_reversed (λ d. IsGenericOfText is.walked.world l d.generic) is.walked.next.exceptions_declared
      (every_so (λ (d : ExceptionDeclaration). 1 ≤ declared_in d.generic is.walked.next.exceptions_declared) (λ (d : ExceptionDeclaration). IsGenericOfText is.walked.world l d.generic)
      declared_there is.walked.next.exceptions_declared (counts_here is.walked.next.exceptions_declared)))

  -- the objects of the library level, by the units that noted them
  pub objects_noted : map standing p.objects ≡ reverse (noted_words is.walked.next.unit_words)
  objects_noted =
      ap (λ (q : Program). map standing q.objects) is.made
      ∙ (map_reversed standing is.walked.next.objects_declared ∙ ap reverse (objects_counted l main p is).objects)

  pub words_in_texts : Everywhere (IsOfText is.walked.world l) is.walked.next.unit_words
  words_in_texts =
      every_so (IsOfText seen l) (IsOfText is.walked.world l)
      (λ u h. record {
        unit = h.unit;
        there = h.there;
        home = h.home;
        generic = h.generic ∙ same_text seen is.walked.world l u.unit h.unit.item same_interfaces;
      })
      is.walked.next.unit_words (objects_counted l main p is).words
