-- The bodies of each unit were looked at in a state in which as many subprograms were made as there are bodies before it.
use Rattle.std.proofs.Common.{◌≡◌, ◌<◌, ◌+◌, ℕ, suc, nat_eq, Bool, true, false, List, [], length, Some, IfSome, Ok, slice_get, refl, sym, ap, ◌∙◌, subst, arith}
use Rattle.std.proofs.lemmas.Bool.{eqb-true, eq-eqb, false≢true}
use Rattle.ada_syntax.specs.declared.unit.PackageBody.{PackageBody}
use Rattle.ada_syntax.specs.declared.unit.LibraryItem.TheVariants as library
use Rattle.ada_syntax.specs.declared.unit.Unit.{Unit as LibraryUnit}
use Rattle.ada_meaning.specs.Program.{Program}
use Rattle.ada_rules.specs.Entities.{key, Region}
use Rattle.ada_rules.specs.Environment.{typing, World, interface_of, State, Given}
use Rattle.ada_rules.specs.Library.{Library, unit_named, bodies_of_item}
use Rattle.ada_rules.specs.Plan.{◌>>=◌, rule}
use Rattle.ada_rules.specs.Subprograms.{closed_by}
use Rattle.ada_rules.specs.Units.{env_of, body_items, at_unit, behind_unit, region_of, seen_in_body, in_body, package_body, package_body_of, bodies_judged}
use Rattle.legal_programs.specs.Growing.{AddsBodies}
use Rattle.legal_programs.specs.Homes.{HasHome}
use Rattle.legal_programs.specs.Walked.{IsLegal}
use Rattle.legal_programs.proofs.Counted.{states_of}
use Rattle.legal_programs.proofs.DecidedUnits.{every_at}
use Rattle.legal_programs.proofs.Extending.{extends_same}
use Rattle.legal_programs.proofs.ExtendingUnits.{bodies_adds}
use Rattle.legal_programs.proofs.Finals.{none_exceeded}
use Rattle.legal_programs.proofs.Headings.{are_headed, have_homes}
use Rattle.legal_programs.proofs.Passed.{of_ok, passed_part, passed_rule}
use Rattle.legal_texts.proofs.BodyWalk.{IsAtBody, bodies_known}
use Rattle.legal_texts.proofs.InterfaceWalk.{same_some}
use Rattle.legal_texts.proofs.UnitPlaces.{bodies_before, before_next}
use Rattle.legal_texts.proofs.UnitParts.{below_length}

-- the items of the body of a package or a generic
pub record IsPackageWalked (l : Library) (w : World) (m : ℕ) (u : LibraryUnit) (n : ℕ) (b : PackageBody) (region : Region) (before after : State) : Type 0 where
  pub behind : Given Region
  pub is : (body_items (in_body (env_of typing w m (key b.name) (seen_in_body w l n u)) n (interface_of w n) region) (at_unit before) u.item_pos b.items).answer ≡ Ok behind
  pub same : behind_unit (in_body (env_of typing w m (key b.name) (seen_in_body w l n u)) n (interface_of w n) []) n behind.next ≡ after

pub package_walked : (l : Library) (w : World) (m : ℕ) (u : LibraryUnit) (n : ℕ) (b : PackageBody) (region : Region) (before after : State)
    → unit_named l.names (key b.name) ≡ Some n → region_of (interface_of w n) ≡ region
    → (bodies_judged typing l w before m u (library.PackageBody b)).answer ≡ Ok after → IsPackageWalked l w m u n b region before after
package_walked l w m u n b region before after named is h =
    let env = env_of typing w m (key b.name) (seen_in_body w l n u) in
    let one : (package_body env before u.item_pos n b).answer ≡ Ok after = subst (λ o. (package_body_of typing l w before m u b o).answer ≡ Ok after) named h in
    let part = passed_part u.item_pos (body_items (in_body env n (interface_of w n) (region_of (interface_of w n))) (at_unit before) u.item_pos b.items).answer
    (λ r. closed_by u.item_pos b.name b.end_name >>= (λ end. rule (Some (behind_unit (in_body env n (interface_of w n) []) n r.next)))) after one in
    let closing = passed_part u.item_pos (closed_by u.item_pos b.name b.end_name).answer
    (λ end. rule (Some (behind_unit (in_body env n (interface_of w n) []) n part.value.next))) after part.rest in
    record {
      behind = part.value;
      is = subst (λ (r : Region). (body_items (in_body env n (interface_of w n) r) (at_unit before) u.item_pos b.items).answer ≡ Ok part.value) is part.is;
      same = same_some (passed_rule u.item_pos (Some (behind_unit (in_body env n (interface_of w n) []) n part.value.next)) after closing.rest);
    }

module _ (l : Library) (main : List ℕ) (p : Program) (legal : IsLegal l main p) where
  abbrev final : World
  final = legal.walk.seen.world

  abbrev last : State
  last = legal.walked.next

  pub record IsVisited (k : ℕ) (u : LibraryUnit) : Type 0 where
    pub before : State
    pub after : State
    pub at : IsAtBody l final last before k u after
    pub counted : length before.subprograms ≡ bodies_before k l.units

  record AreVisited (n : ℕ) (s : State) : Type 0 where
    counted : length s.subprograms ≡ bodies_before n l.units
    visited : (k : ℕ) (u : LibraryUnit) → slice_get l.units k ≡ Some u → k < n → IsVisited k u

  pub home_of : (n : ℕ) (u : LibraryUnit) → slice_get l.units n ≡ Some u → HasHome l u.item
  home_of n u there =
      subst (λ o. IfSome o (λ v. HasHome l v.item)) there (every_at (λ v. HasHome l v.item) l.units n (have_homes l 0 l.units (are_headed l 0 l.units legal.walk.headings)))

  pub counted_next : (s : State) (n : ℕ) (u : LibraryUnit) (t : State) → IsAtBody l final last s n u t → length s.subprograms ≡ bodies_before n l.units
      → length t.subprograms ≡ bodies_before (n + 1) l.units
  counted_next s n u t at count =
      let adds = of_ok (AddsBodies (length (bodies_of_item u.item)) s) (bodies_judged typing l final s n u u.item).answer t at.judged
      (bodies_adds typing l final s n u u.item (home_of n u at.there)) in
      let more = adds.subprograms in
      let behind = before_next n l.units u at.there in
      let next : n + 1 ≡ suc n = omega (arith) in
      omega (arith, count, more, behind) ∙ ap (λ k. bodies_before k l.units) (sym next)

  visit : (s : State) (n : ℕ) (u : LibraryUnit) (t : State) → IsAtBody l final last s n u t → AreVisited n s → AreVisited (n + 1) t
  visit s n u t at h =
      record {
        counted = counted_next s n u t at h.counted;
        visited = λ k v there less. by_number k v (nat_eq k n) refl there less;
      }
    where
      by_number : (k : ℕ) (v : LibraryUnit) (c : Bool) → nat_eq k n ≡ c → slice_get l.units k ≡ Some v → k < n + 1 → IsVisited k v
      by_number k v true e there less =
          let same = eqb-true k n e in
          let unit_is : u ≡ v = same_some (sym at.there ∙ (ap (slice_get l.units) (sym same) ∙ there)) in
          subst (λ m. IsVisited m v) (sym same) (subst (IsVisited n) unit_is (record { before = s; after = t; at = at; counted = h.counted }))
      by_number k v false e there less =
          let other : k ≡ n → ⊥ = λ same. false≢true (sym e ∙ eq-eqb k n same) in
          h.visited k v there (below k n less other)
        where
          below : (x y : ℕ) → x < y + 1 → (x ≡ y → ⊥) → x < y
          below x y f g = omega (arith, f, g)

  pub all_visited : (k : ℕ) (u : LibraryUnit) → slice_get l.units k ≡ Some u → IsVisited k u
  all_visited k u there =
      let none = (states_of l main p legal).seen.subprograms in
      let excess = (none_exceeded legal.walked.world last l.units legal.limited).places in
      let all = bodies_known l final last AreVisited visit legal.walk.seen.next 0 l.units last legal.walk.bodies
      (λ j. let same : 0 + j ≡ j = omega (arith) in ap (slice_get l.units) same)
      (have_homes l 0 l.units (are_headed l 0 l.units legal.walk.headings)) excess (extends_same last)
      (record { counted = ap length none; visited = λ j v at less. absurd (nothing_below j less) }) in
      let count : length l.units ≡ 0 + length l.units = omega (arith) in
      all.visited k u there (subst (λ m. k < m) count (below_length l.units k u there))
    where
      nothing_below : (j : ℕ) → j < 0 → ⊥
      nothing_below j less = omega (arith, less)
