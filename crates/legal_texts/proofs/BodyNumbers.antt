-- In a legal program each body stands at the number that the rules give it: no other one has its name in its package.
use Rattle.std.proofs.Common.{◌≡◌, ◌+◌, ℕ, zero, suc, Bool, true, false, if◌then◌else◌, List, [], ◌∷◌, ◌++◌, Option, Some, None, IfOk, slice_get, refl, sym, ap, ◌∙◌, subst, arith}
use Rattle.std.specs.Prelude.{◌&&◌, not}
use Rattle.std.specs.Option.{option_and_then}
use Rattle.std.proofs.lemmas.Bool.{eqb-true, false≢true}
use Rattle.cov_base.specs.Lists.{Everywhere}
use Rattle.cov_base.specs.declared.position.Pos.{Pos}
use Rattle.ada_syntax.specs.declared.unit.BodyItem.{BodyItem}
use Rattle.ada_syntax.specs.declared.unit.BodyItem.TheVariants as item
use Rattle.ada_syntax.specs.declared.unit.LibraryItem.{LibraryItem}
use Rattle.ada_syntax.specs.declared.unit.LibraryItem.TheVariants as library
use Rattle.ada_syntax.specs.declared.unit.PackageBody.{PackageBody}
use Rattle.ada_syntax.specs.declared.unit.SubprogramBody.{SubprogramBody}
use Rattle.ada_syntax.specs.declared.unit.Unit.{Unit as LibraryUnit}
use Rattle.ada_meaning.specs.Program.{Program}
use Rattle.ada_rules.specs.Denoted.{nowhere}
use Rattle.ada_rules.specs.Entities.{key, same_name, Region}
use Rattle.ada_rules.specs.Environment.{typing, BodyName, World, interface_of, State, Given, Env}
use Rattle.ada_rules.specs.Library.{Library, item_name, unit_named, body_names, bodies_of_item, all_bodies, wants_body, is_test_io, is_first_name, first_number, bodies_named, is_declared_well}
use Rattle.ada_rules.specs.Plan.{◌>>=◌, rule}
use Rattle.ada_rules.specs.Subprograms.{is_body, place_among, closed_by}
use Rattle.ada_rules.specs.Units.{env_of, body_items, at_unit, behind_unit, region_of, seen_in_body, in_body, package_body, package_body_of, bodies_judged, all_bodies_judged}
use Rattle.legal_laws.proofs.Passing.{answered, part_so, any_answer, both_true, every_both, every_so}
use Rattle.legal_programs.specs.Homes.{IsThere, HasHome, AreHeaded, IsOtherName, AreNamedApart}
use Rattle.legal_programs.specs.Walked.{IsLegal}
use Rattle.legal_programs.proofs.Headings.{are_headed, have_homes}
use Rattle.legal_programs.proofs.MainUnit.{name_is, name_same}
use Rattle.legal_programs.proofs.NamedBodies.{named_apart}
use Rattle.legal_programs.proofs.Passed.{of_ok}
use Rattle.legal_texts.specs.Numbers.{AreNumbered}
use Rattle.legal_texts.proofs.InterfaceWalk.{same_some}

-- none of these is what a later one is named
abbrev AreApart : List BodyName → Type 0
AreApart [] = Unit {0}
AreApart (b ∷ bs) = Everywhere (λ c. is_body c.package_name c.name b ≡ false) bs × AreApart bs

apart_at : (b : BodyName) (bs : List BodyName) (k : ℕ) (c : BodyName) → Everywhere (λ d. is_body d.package_name d.name b ≡ false) bs → slice_get bs k ≡ Some c
    → is_body c.package_name c.name b ≡ false
apart_at b [] zero c all there = absurd (cc there)
apart_at b [] (suc k) c all there = absurd (cc there)
apart_at b (d ∷ bs) zero c all there = subst (λ e. is_body e.package_name e.name b ≡ false) (same_some there) all.0
apart_at b (d ∷ bs) (suc k) c all there = apart_at b bs k c all.1 there

numbered_from : (m : ℕ) (bs : List BodyName) → AreApart bs → (k : ℕ) (b : BodyName) → slice_get bs k ≡ Some b → place_among b.package_name b.name m bs ≡ Some (m + k)
numbered_from m [] apart zero b there = absurd (cc there)
numbered_from m [] apart (suc k) b there = absurd (cc there)
numbered_from m (c ∷ bs) apart zero b there =
    let none : m ≡ m + 0 = omega (arith) in
    ap (λ x. if x then Some m else place_among b.package_name b.name (m + 1) bs)
    (subst (λ d. is_body b.package_name b.name d ≡ true) (sym (same_some there))
    (λ i. name_same b.package_name i && name_same b.name i))
    ∙ ap Some none
numbered_from m (c ∷ bs) apart (suc k) b there =
    let count : (m + 1) + k ≡ m + suc k = omega (arith) in
    ap (λ x. if x then Some m else place_among b.package_name b.name (m + 1) bs) (apart_at c bs k b apart.0 there)
    ∙ (numbered_from (m + 1) bs apart.1 k b there ∙ ap Some count)

-- the bodies of a unit
abbrev IsItemApart : LibraryItem → Type 0
IsItemApart (library.PackageBody b) = AreNamedApart (body_names (key b.name) b.items)
IsItemApart i = Unit {0}

module _ (l : Library) (w : World) where
  package_apart : (env : Env) (s : State) (p : Pos) (n : ℕ) (b : PackageBody) → IfOk (package_body env s p n b).answer (λ t. AreNamedApart (body_names (key b.name) b.items))
  package_apart env s p n b =
      answered (λ (t : State). AreNamedApart (body_names (key b.name) b.items)) p _
      (part_so (λ (g : Given Region). AreNamedApart (body_names (key b.name) b.items)) (λ (t : State). AreNamedApart (body_names (key b.name) b.items))
      (body_items (in_body env n (interface_of env.world n) (region_of (interface_of env.world n))) (at_unit s) p b.items).answer
      (λ region. closed_by p b.name b.end_name >>= (λ end. rule (Some (behind_unit (in_body env n (interface_of env.world n) []) n region.next))))
      (named_apart (key b.name) (in_body env n (interface_of env.world n) (region_of (interface_of env.world n))) (at_unit s) p b.items)
      (λ region h. part_so (λ u. Unit {0}) (λ (t : State). AreNamedApart (body_names (key b.name) b.items)) (closed_by p b.name b.end_name).answer
      (λ end. rule (Some (behind_unit (in_body env n (interface_of env.world n) []) n region.next))) (any_answer (closed_by p b.name b.end_name).answer) (λ end u. h)))

  body_of_apart : (s : State) (m : ℕ) (u : LibraryUnit) (b : PackageBody) (o : Option ℕ) → IsThere o
      → IfOk (package_body_of typing l w s m u b o).answer (λ t. AreNamedApart (body_names (key b.name) b.items))
  body_of_apart s m u b None h = absurd h
  body_of_apart s m u b (Some n) h = package_apart (env_of typing w m (key b.name) (seen_in_body w l n u)) s u.item_pos n b

  item_apart : (s : State) (n : ℕ) (u : LibraryUnit) (i : LibraryItem) → HasHome l i → IfOk (bodies_judged typing l w s n u i).answer (λ t. IsItemApart i)
  item_apart s n u (library.PackageBody b) h = body_of_apart s n u b (unit_named l.names (key b.name)) h
  item_apart s n u (library.Subprogram b) h = any_answer (bodies_judged typing l w s n u (library.Subprogram b)).answer
  item_apart s n u (library.Package x) h = tt
  item_apart s n u (library.Instance x) h = tt

  items_apart : (s : State) (n : ℕ) (us : List LibraryUnit) → Everywhere (λ u. HasHome l u.item) us
      → IfOk (all_bodies_judged typing l w s n us).answer (λ t. Everywhere (λ u. IsItemApart u.item) us)
  items_apart s n [] h = tt
  items_apart s n (u ∷ us) h =
      answered (λ (t : State). Everywhere (λ v. IsItemApart v.item) (u ∷ us)) nowhere _
      (part_so (λ (x : State). IsItemApart u.item) (λ (t : State). Everywhere (λ v. IsItemApart v.item) (u ∷ us)) _
      (λ x. all_bodies_judged typing l w x (n + 1) us >>= (λ rest. rule (Some rest)))
      (answered (λ (x : State). IsItemApart u.item) u.pos _
      (part_so (λ (x : State). IsItemApart u.item) (λ (x : State). IsItemApart u.item) (bodies_judged typing l w s n u u.item).answer (λ y. rule (Some y))
      (item_apart s n u u.item h.0) (λ y k. k)))
      (λ x k. part_so (λ (t : State). Everywhere (λ v. IsItemApart v.item) us) (λ (t : State). Everywhere (λ v. IsItemApart v.item) (u ∷ us))
      (all_bodies_judged typing l w x (n + 1) us).answer (λ rest. rule (Some rest)) (items_apart x (n + 1) us h.1) (λ rest r. (k, r))))

-- bodies of one unit have names of their own, and are of its package
named_of : (name : List ℕ) (items : List BodyItem) → Everywhere (λ b. b.package_name ≡ name) (body_names name items)
named_of name [] = tt
named_of name (item.Body b ∷ items) = (refl, named_of name items)
named_of name (item.Declared i ∷ items) = named_of name items

pub of_unit : (i : LibraryItem) → Everywhere (λ b. b.package_name ≡ key (item_name i)) (bodies_of_item i)
of_unit (library.PackageBody b) = named_of (key b.name) b.items
of_unit (library.Subprogram b) = (refl, tt)
of_unit (library.Package x) = tt
of_unit (library.Instance x) = tt

and_false : (a b : Bool) → b ≡ false → (a && b) ≡ false
and_false true b e = e
and_false false b e = refl

apart_names : (bs : List BodyName) → AreNamedApart bs → AreApart bs
apart_names [] h = tt
apart_names (b ∷ bs) h = (
  every_so (IsOtherName b.name) (λ c. is_body c.package_name c.name b ≡ false) bs (λ c e. and_false (same_name b.package_name c.package_name) _ e) h.0,
  apart_names bs h.1,
)

apart_item : (i : LibraryItem) → IsItemApart i → AreApart (bodies_of_item i)
apart_item (library.PackageBody b) h = apart_names (body_names (key b.name) b.items) h
apart_item (library.Subprogram b) h = (tt, tt)
apart_item (library.Package x) h = tt
apart_item (library.Instance x) h = tt

-- units with bodies have names of their own
first_is : (n : ℕ) (o : Option ℕ) → is_first_name n o ≡ true → o ≡ Some n
first_is n None h = absurd (false≢true h)
first_is n (Some m) h = ap Some (eqb-true m n h)

module _ (l : Library) where
  subprogram_named : (n : ℕ) (b : SubprogramBody) → is_declared_well l n (library.Subprogram b) ≡ true → unit_named l.names (key b.specification.name) ≡ Some n
  subprogram_named n b well =
      first_is n (unit_named l.names (key b.specification.name))
      (both_true (not (is_test_io b.specification.name)) (is_first_name n (unit_named l.names (key b.specification.name))) well).1

  abbrev Wants : List ℕ → Bool
  Wants name = wants_body (option_and_then (slice_get l.units) (unit_named l.names name))

  body_first : (n : ℕ) (b : PackageBody) → is_declared_well l n (library.PackageBody b) ≡ true
      → (Wants (key b.name) ≡ true) × (first_number (bodies_named (key b.name) 0 l.units) ≡ Some n)
  body_first n b well =
      let both = both_true (Wants (key b.name)) (is_first_name n (first_number (bodies_named (key b.name) 0 l.units))) well in
      (both.0, first_is n (first_number (bodies_named (key b.name) 0 l.units)) both.1)

  wants_nothing : (n : ℕ) (u : LibraryUnit) (b : SubprogramBody) (name : List ℕ) → slice_get l.units n ≡ Some u → u.item ≡ library.Subprogram b
      → unit_named l.names name ≡ Some n → Wants name ≡ true → ⊥
  wants_nothing n u b name there item named wants =
      let found : option_and_then (slice_get l.units) (unit_named l.names name) ≡ Some u = ap (option_and_then (slice_get l.units)) named ∙ there in
      let none : wants_body (Some u) ≡ false = ap (λ i. wants_body (Some (record u { item = i }))) item in
      false≢true (sym none ∙ (sym (ap wants_body found) ∙ wants))

  pub record IsUnitAt (n : ℕ) (u : LibraryUnit) (i : LibraryItem) : Type 0 where
    pub there : slice_get l.units n ≡ Some u
    pub item : u.item ≡ i
    pub well : is_declared_well l n i ≡ true

  abbrev pub HasBodies : LibraryItem → Type 0
  HasBodies (library.PackageBody b) = Unit {0}
  HasBodies (library.Subprogram b) = Unit {0}
  HasBodies i = ⊥

  pub other_name : (n m : ℕ) (u v : LibraryUnit) (i j : LibraryItem) → IsUnitAt n u i → IsUnitAt m v j → (n ≡ m → ⊥) → HasBodies i → HasBodies j
      → key (item_name i) ≡ key (item_name j) → ⊥
  other_name n m u v (library.Subprogram b) (library.Subprogram c) h k other x y same =
      other (same_some (sym (subprogram_named n b h.well) ∙ (ap (unit_named l.names) same ∙ subprogram_named m c k.well)))
  other_name n m u v (library.PackageBody b) (library.PackageBody c) h k other x y same =
      other (same_some (sym (body_first n b h.well).1 ∙ (ap (λ name. first_number (bodies_named name 0 l.units)) same ∙ (body_first m c k.well).1)))
  other_name n m u v (library.Subprogram b) (library.PackageBody c) h k other x y same =
      wants_nothing n u b (key b.specification.name) h.there h.item (subprogram_named n b h.well) (ap Wants same ∙ (body_first m c k.well).0)
  other_name n m u v (library.PackageBody b) (library.Subprogram c) h k other x y same =
      wants_nothing m v c (key c.specification.name) k.there k.item (subprogram_named m c k.well) (ap Wants (sym same) ∙ (body_first n b h.well).0)
  other_name n m u v (library.Package b) j h k other x y same = x
  other_name n m u v (library.Instance b) j h k other x y same = x
  other_name n m u v i (library.Package b) h k other x y same = y
  other_name n m u v i (library.Instance b) h k other x y same = y

  -- these are the units of the library from n on
  abbrev AreFrom : ℕ → List LibraryUnit → Type 0
  AreFrom n us = (k : ℕ) → slice_get l.units (n + k) ≡ slice_get us k

  from_next : (n : ℕ) (u : LibraryUnit) (us : List LibraryUnit) → AreFrom n (u ∷ us) → AreFrom (n + 1) us
  from_next n u us h k = let count : (n + 1) + k ≡ n + suc k = omega (arith) in ap (slice_get l.units) count ∙ h (suc k)

  from_here : (n : ℕ) (u : LibraryUnit) (us : List LibraryUnit) → AreFrom n (u ∷ us) → slice_get l.units n ≡ Some u
  from_here n u us h = let none : n ≡ n + 0 = omega (arith) in ap (slice_get l.units) none ∙ h 0

  not_same : (b : Bool) → (b ≡ true → ⊥) → b ≡ false
  not_same true h = absurd (h refl)
  not_same false h = refl

  -- a body is none of another unit
  apart_body : (n m : ℕ) (u v : LibraryUnit) (i j : LibraryItem) → IsUnitAt n u i → IsUnitAt m v j → (n ≡ m → ⊥) → HasBodies i → HasBodies j → (b c : BodyName)
      → b.package_name ≡ key (item_name i) → c.package_name ≡ key (item_name j) → is_body c.package_name c.name b ≡ false
  apart_body n m u v i j h k other x y b c e f =
      not_same (is_body c.package_name c.name b)
      (λ same. other_name n m u v i j h k other x y
      (sym e ∙ (name_is b.package_name c.package_name (both_true (same_name b.package_name c.package_name) (same_name b.name c.name) same).0 ∙ f)))

  of_item : (j : LibraryItem) (P : BodyName → Type 0) → (HasBodies j → Everywhere P (bodies_of_item j)) → Everywhere P (bodies_of_item j)
  of_item (library.PackageBody b) P h = h tt
  of_item (library.Subprogram b) P h = h tt
  of_item (library.Package x) P h = tt
  of_item (library.Instance x) P h = tt

  apart_unit : (n m : ℕ) (u : LibraryUnit) (i : LibraryItem) → IsUnitAt n u i → HasBodies i → (us : List LibraryUnit) → AreFrom m us → AreHeaded l m us
      → ((k : ℕ) → n ≡ m + k → ⊥) → (b : BodyName) → b.package_name ≡ key (item_name i) → Everywhere (λ c. is_body c.package_name c.name b ≡ false) (all_bodies us)
  apart_unit n m u i h x [] from headed later b e = tt
  apart_unit n m u i h x (v ∷ us) from headed later b e =
      let here : IsUnitAt m v v.item = record { there = from_here m v us from; item = refl; well = headed.0.0 } in
      let other : n ≡ m → ⊥ = λ same. later 0 (omega (arith, same)) in
      every_both (λ c. is_body c.package_name c.name b ≡ false) (bodies_of_item v.item) (all_bodies us)
      (of_item v.item (λ c. is_body c.package_name c.name b ≡ false)
      (λ y. every_so (λ c. c.package_name ≡ key (item_name v.item)) (λ c. is_body c.package_name c.name b ≡ false) (bodies_of_item v.item)
      (λ c f. apart_body n m u v i v.item h here other x y b c e f) (of_unit v.item)))
      (apart_unit n (m + 1) u i h x us (from_next m v us from) headed.1 (λ k same. later (suc k) (omega (arith, same))) b e)

  joined_apart : (bs cs : List BodyName) → AreApart bs → AreApart cs → Everywhere (λ b. Everywhere (λ c. is_body c.package_name c.name b ≡ false) cs) bs → AreApart (bs ++ cs)
  joined_apart [] cs h k all = k
  joined_apart (b ∷ bs) cs h k all = (every_both (λ c. is_body c.package_name c.name b ≡ false) bs cs h.0 all.0, joined_apart bs cs h.1 k all.1)

  all_apart : (n : ℕ) (us : List LibraryUnit) → AreFrom n us → AreHeaded l n us → Everywhere (λ u. IsItemApart u.item) us → AreApart (all_bodies us)
  all_apart n [] from headed items = tt
  all_apart n (u ∷ us) from headed items =
      let here : IsUnitAt n u u.item = record { there = from_here n u us from; item = refl; well = headed.0.0 } in
      joined_apart (bodies_of_item u.item) (all_bodies us) (apart_item u.item items.0) (all_apart (n + 1) us (from_next n u us from) headed.1 items.1)
      (of_item u.item (λ b. Everywhere (λ c. is_body c.package_name c.name b ≡ false) (all_bodies us))
      (λ x. every_so (λ b. b.package_name ≡ key (item_name u.item)) (λ b. Everywhere (λ c. is_body c.package_name c.name b ≡ false) (all_bodies us)) (bodies_of_item u.item)
      (λ b e. apart_unit n (n + 1) u u.item here x us (from_next n u us from) headed.1 (never n) b e) (of_unit u.item)))
    where
      never : (x k : ℕ) → x ≡ (x + 1) + k → ⊥
      never x k e = omega (arith, e)

pub bodies_numbered : (l : Library) (main : List ℕ) (p : Program) → IsLegal l main p → AreNumbered (all_bodies l.units)
bodies_numbered l main p is k b there =
    let headed = are_headed l 0 l.units is.walk.headings in
    let apart = of_ok (λ (t : State). Everywhere (λ u. IsItemApart u.item) l.units)
    (all_bodies_judged typing l is.walk.seen.world is.walk.seen.next 0 l.units).answer is.walked.next is.walk.bodies
    (items_apart l is.walk.seen.world is.walk.seen.next 0 l.units (have_homes l 0 l.units headed)) in
    let none : 0 + k ≡ k = omega (arith) in
    numbered_from 0 (all_bodies l.units)
    (all_apart l 0 l.units (λ j. let same : 0 + j ≡ j = omega (arith) in ap (slice_get l.units) same) headed apart) k b there ∙ ap Some none
