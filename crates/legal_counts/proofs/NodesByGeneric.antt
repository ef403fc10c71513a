-- By the generics in whose text they stand, bodies, types and the names of exceptions have tokens apart.
use Rattle.std.proofs.Common.{◌≡◌, ◌≤◌, ◌+◌, ℕ, Bool, true, false, if◌then◌else◌, List, [], ◌∷◌, ◌++◌, map, Option, refl, ap, ◌∙◌, subst, arith}
use Rattle.std.specs.Prelude.{sum_by}
use Rattle.std.proofs.lemmas.List.Sums.{sum_by-cons}
use Rattle.ada_syntax.specs.Nodes.{body_nodes, item_nodes, with_nodes, unit_nodes}
use Rattle.ada_syntax.specs.declared.unit.LibraryItem.{LibraryItem}
use Rattle.ada_syntax.specs.declared.unit.LibraryItem.TheVariants as library
use Rattle.ada_syntax.specs.declared.unit.SubprogramBody.{SubprogramBody}
use Rattle.ada_syntax.specs.declared.unit.Unit.{Unit as LibraryUnit}
use Rattle.ada_tree.specs.Weights.{stands_in}
use Rattle.ada_meaning.specs.Program.{Subprogram, Program}
use Rattle.ada_rules.specs.Environment.{World}
use Rattle.ada_rules.specs.Library.{Library}
use Rattle.legal_programs.specs.Walked.{IsLegal}
use Rattle.legal_programs.specs.WholeWorld.{IsWholeStandard}
use Rattle.statement_code.specs.Sizes.{subprogram_nodes}
use Rattle.legal_types.specs.TextGenerics.{generic_of_item, text_generic, part_in, units_in}
use Rattle.legal_types.specs.TypeTokens.{item_types}
use Rattle.program_weights.specs.BodyTexts.{bodies_of_item, bodies_in}
use Rattle.legal_counts.specs.Choices.{UnitsHaveChoices}
use Rattle.legal_counts.specs.Generics.{generics_of}
use Rattle.legal_counts.specs.TextParts.{nodes_in, text_nodes_in}
use Rattle.legal_counts.proofs.ExceptionNames.{item_exceptions}
use Rattle.legal_counts.proofs.OutsideTypes.{AreOutside}
use Rattle.legal_counts.proofs.NodesOfUnits.{body_apart, one_few, item_few, subprograms_outside}
use Rattle.legal_counts.proofs.GenericsOfBodies.{generics_seen}

module _ (g : Option ℕ) where
  -- a part of a sum is the sum of the parts
  part_of_sum : (o : Option ℕ) (a b n : ℕ) → n ≡ a + b → part_in g o n ≡ part_in g o a + part_in g o b
  part_of_sum o a b n e = by_place (stands_in g o)
    where
      by_place : (at : Bool) → (if at then n else 0) ≡ (if at then a else 0) + (if at then b else 0)
      by_place true = e
      by_place false = nothing 0 refl
        where
          nothing : (m : ℕ) → m ≡ 0 → m ≡ m + m
          nothing m same = omega (arith, same)

  part_less : (o : Option ℕ) (a b c d : ℕ) → a + b ≤ c + d → part_in g o a + part_in g o b ≤ part_in g o c + part_in g o d
  part_less o a b c d h = by_place (stands_in g o)
    where
      by_place : (at : Bool) → (if at then a else 0) + (if at then b else 0) ≤ (if at then c else 0) + (if at then d else 0)
      by_place true = h
      by_place false = nothing 0
        where
          nothing : (m : ℕ) → m + m ≤ m + m
          nothing m = omega (arith)

  -- a count over bodies, each with the generic in whose text it stands
  abbrev among : (SubprogramBody → ℕ) → List (Option ℕ) → List SubprogramBody → ℕ
  among f (o ∷ os) (b ∷ bs) = part_in g o (f b) + among f os bs
  among f os bs = 0

  among_unit : (f : SubprogramBody → ℕ) (o : Option ℕ) (bs : List SubprogramBody) (os : List (Option ℕ)) (cs : List SubprogramBody)
      → among f (map (λ b. o) bs ++ os) (bs ++ cs) ≡ part_in g o (sum_by f bs) + among f os cs
  among_unit f o [] os cs = before (part_in g o (sum_by f [])) (among f os cs) (none (stands_in g o) (sum_by f []) refl)
    where
      none : (at : Bool) (n : ℕ) → n ≡ 0 → (if at then n else 0) ≡ 0
      none true n e = e
      none false n e = refl

      before : (a b : ℕ) → a ≡ 0 → b ≡ a + b
      before a b e = omega (arith, e)
  among_unit f o (b ∷ bs) os cs =
      joined (part_in g o (f b)) (part_in g o (sum_by f bs)) (among f os cs) (among f (map (λ b. o) bs ++ os) (bs ++ cs)) (part_in g o (sum_by f (b ∷ bs)))
      (among_unit f o bs os cs) (part_of_sum o (f b) (sum_by f bs) (sum_by f (b ∷ bs)) (sum_by-cons f b bs))
    where
      joined : (a b c d n : ℕ) → d ≡ b + c → n ≡ a + b → a + d ≡ n + c
      joined a b c d n e h = omega (arith, e, h)

  all_few_in : (ss : List Subprogram) (bs : List SubprogramBody) → AreOutside ss bs
      → nodes_in g ss + among body_apart (map (λ s. s.generic) ss) bs ≤ among body_nodes (map (λ s. s.generic) ss) bs
  all_few_in [] [] h = nothing (nodes_in g []) refl
    where
      nothing : (n : ℕ) → n ≡ 0 → n + 0 ≤ 0
      nothing n e = omega (arith, e)
  all_few_in (s ∷ ss) (b ∷ bs) h =
      joined (part_in g s.generic (subprogram_nodes s)) (nodes_in g ss) (nodes_in g (s ∷ ss)) (part_in g s.generic (body_apart b)) (among body_apart (map (λ s. s.generic) ss) bs)
      (part_in g s.generic (body_nodes b)) (among body_nodes (map (λ s. s.generic) ss) bs)
      (sum_by-cons (λ s. part_in g s.generic (subprogram_nodes s)) s ss) (first (stands_in g s.generic) (one_few s b h.0)) (all_few_in ss bs h.1)
    where
      joined : (a b n c d e f : ℕ) → n ≡ a + b → a + c ≤ e → b + d ≤ f → n + (c + d) ≤ e + f
      joined a b n c d e f same h k = omega (arith, same, h, k)

      first : (at : Bool) → subprogram_nodes s + body_apart b ≤ body_nodes b
          → (if at then subprogram_nodes s else 0) + (if at then body_apart b else 0) ≤ (if at then body_nodes b else 0)
      first true h = h
      first false h = nothing 0 refl
        where
          nothing : (m : ℕ) → m ≡ 0 → m + m ≤ m
          nothing m e = omega (arith, e)
  all_few_in [] (b ∷ bs) h = absurd h
  all_few_in (s ∷ ss) [] h = absurd h

  module _ (w : World) (l : Library) where
    -- the bodies of a unit stand where all its text does
    same_text : (n : ℕ) (i : LibraryItem) → map (λ b. generic_of_item w l i) (bodies_of_item i) ≡ map (λ b. text_generic w l n i) (bodies_of_item i)
    same_text n (library.PackageBody b) = refl
    same_text n (library.Package x) = refl
    same_text n (library.Instance i) = refl
    same_text n (library.Subprogram b) = refl

    among_first : (f : SubprogramBody → ℕ) (n : ℕ) (u : LibraryUnit) (us : List LibraryUnit)
        → among f (generics_of w l (u ∷ us)) (bodies_in (u ∷ us))
        ≡ part_in g (text_generic w l n u.item) (sum_by f (bodies_of_item u.item)) + among f (generics_of w l us) (bodies_in us)
    among_first f n u us =
        ap (λ os. among f (os ++ generics_of w l us) (bodies_in (u ∷ us))) (same_text n u.item)
        ∙ among_unit f (text_generic w l n u.item) (bodies_of_item u.item) (generics_of w l us) (bodies_in us)

    units_few_in : (n : ℕ) (us : List LibraryUnit)
        → among body_nodes (generics_of w l us) (bodies_in us) + (units_in item_types g w l n us + units_in item_exceptions g w l n us)
        ≤ text_nodes_in g w l n us + among body_apart (generics_of w l us) (bodies_in us)
    units_few_in n [] = nothing 0
      where
        nothing : (m : ℕ) → m + (m + m) ≤ m + (m + m)
        nothing m = omega (arith)
    units_few_in n (u ∷ us) =
        let o = text_generic w l n u.item in
        joined (part_in g o (sum_by body_nodes (bodies_of_item u.item))) (part_in g o (item_types u.item)) (part_in g o (item_exceptions u.item))
        (part_in g o (unit_nodes u)) (part_in g o (sum_by body_apart (bodies_of_item u.item)))
        (among body_nodes (generics_of w l us) (bodies_in us)) (units_in item_types g w l (n + 1) us) (units_in item_exceptions g w l (n + 1) us)
        (text_nodes_in g w l (n + 1) us) (among body_apart (generics_of w l us) (bodies_in us))
        (among body_nodes (generics_of w l (u ∷ us)) (bodies_in (u ∷ us))) (among body_apart (generics_of w l (u ∷ us)) (bodies_in (u ∷ us)))
        (part_in g o (item_types u.item + item_exceptions u.item))
        (part_of_sum o (item_types u.item) (item_exceptions u.item) (item_types u.item + item_exceptions u.item) refl)
        (among_first body_nodes n u us) (among_first body_apart n u us)
        (part_less o (sum_by body_nodes (bodies_of_item u.item)) (item_types u.item + item_exceptions u.item) (unit_nodes u) (sum_by body_apart (bodies_of_item u.item))
        (with_more (sum_by body_nodes (bodies_of_item u.item)) (item_types u.item + item_exceptions u.item) (item_nodes u.item) (sum_by body_apart (bodies_of_item u.item))
        (sum_by with_nodes u.withs) (item_few u.item)))
        (units_few_in (n + 1) us)
      where
        with_more : (a b c d e : ℕ) → a + b ≤ c + d → a + b ≤ (e + c) + d
        with_more a b c d e h = omega (arith, h)

        joined : (a b s c d e f t k h x y m : ℕ) → m ≡ b + s → x ≡ a + e → y ≡ d + h → a + m ≤ c + d → e + (f + t) ≤ k + h
            → x + ((b + f) + (s + t)) ≤ (c + k) + y
        joined a b s c d e f t k h x y m i j z p q = omega (arith, i, j, z, p, q)

module _ (l : Library) (main : List ℕ) (p : Program) (is : IsLegal l main p) (standard : IsWholeStandard l.standard) (filled : UnitsHaveChoices l.units) where
  pub few_apart_in : (g : Option ℕ) → nodes_in g p.subprograms
      + (units_in item_types g is.walk.seen.world l 0 l.units + units_in item_exceptions g is.walk.seen.world l 0 l.units)
      ≤ text_nodes_in g is.walk.seen.world l 0 l.units
  few_apart_in g =
      let w = is.walk.seen.world in
      let bodies = subst (λ os. nodes_in g p.subprograms + among g body_apart os (bodies_in l.units) ≤ among g body_nodes os (bodies_in l.units))
      (generics_seen l main p is) (all_few_in g p.subprograms (bodies_in l.units) (subprograms_outside l main p is standard filled)) in
      let units = units_few_in g w l 0 l.units in
      together (nodes_in g p.subprograms) (among g body_apart (generics_of w l l.units) (bodies_in l.units)) (among g body_nodes (generics_of w l l.units) (bodies_in l.units))
      (units_in item_types g w l 0 l.units + units_in item_exceptions g w l 0 l.units) (text_nodes_in g w l 0 l.units) bodies units
    where
      together : (a b c d e : ℕ) → a + b ≤ c → c + d ≤ e + b → a + d ≤ e
      together a b c d e h k = omega (arith, h, k)

  -- what types weigh and what exceptions there are keeps within these
  pub all_parts_few : (types exceptions : ℕ) (g : Option ℕ) → types ≤ units_in item_types g is.walk.seen.world l 0 l.units
      → exceptions ≤ units_in item_exceptions g is.walk.seen.world l 0 l.units
      → nodes_in g p.subprograms + types + exceptions ≤ text_nodes_in g is.walk.seen.world l 0 l.units
  all_parts_few types exceptions g h k = let all = few_apart_in g in omega (arith, h, k, all)
