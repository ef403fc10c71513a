-- The main unit of a legal program: the one library procedure of its name, whose subprogram stands at the place of its body.
use Rattle.std.proofs.Common.{◌≡◌, ◌+◌, ℕ, zero, suc, nat_eq, Bool, true, false, if◌then◌else◌, List, [], ◌∷◌, ◌++◌, reverse, length, Option, Some, None, IfOk, slice_get, refl, sym, ap, ◌∙◌, subst, arith, inl, inr, ◌⊎◌, length-append}
use Rattle.std.specs.Prelude.{◌&&◌, ◌||◌, not, is_none}
use Rattle.std.specs.Option.{option_and_then}
use Rattle.std.proofs.lemmas.List.{reverse-append}
use mathlib.Core.List.{reverse-cons}
use Rattle.std.proofs.lemmas.Bool.{eqb-true, eq-eqb, false≢true}
use Rattle.cov_base.specs.Lists.{Everywhere}
use Rattle.cov_base.specs.declared.position.Pos.{Pos}
use Rattle.ada_syntax.specs.Tree.{Name}
use Rattle.ada_syntax.specs.declared.unit.BodyItem.{BodyItem}
use Rattle.ada_syntax.specs.declared.unit.BodyItem.TheVariants as item
use Rattle.ada_syntax.specs.declared.unit.LibraryItem.{LibraryItem}
use Rattle.ada_syntax.specs.declared.unit.LibraryItem.TheVariants as library
use Rattle.ada_syntax.specs.declared.unit.Parameter.{Parameter as SourceParameter}
use Rattle.ada_syntax.specs.declared.unit.SubprogramBody.{SubprogramBody}
use Rattle.ada_syntax.specs.declared.unit.Unit.{Unit as LibraryUnit}
use Rattle.ada_meaning.specs.Program.{Subprogram}
use Rattle.ada_meaning.specs.WellFormed.{IsMain}
use Rattle.ada_rules.specs.Denoted.{nowhere}
use Rattle.ada_rules.specs.Entities.{key, same_name}
use Rattle.ada_rules.specs.Environment.{typing, BodyName, World, interface_of, State, Given, Env, opened}
use Rattle.ada_rules.specs.Library.{Library, item_name, unit_named, body_names, bodies_of_item, all_bodies, wants_body, is_test_io, is_first_name, first_number, bodies_named, is_declared_well}
use Rattle.ada_rules.specs.Plan.{◌>>=◌, rule, construct}
use Rattle.ada_rules.specs.Subprograms.{Profile, parameters_judged, result_judged, fresh, specified, is_body, place_among, body_judged, typed_parameters}
use Rattle.ada_rules.specs.Units.{env_of, at_unit, seen_in, library_body, routine_entity, bodies_judged, all_bodies_judged, is_bare, is_main, has_main}
use Rattle.legal_laws.proofs.Passing.{answered, part_so, both_ok, both_true, either_true}
use Rattle.legal_programs.specs.Growing.{IsLonger, AddsBodies}
use Rattle.legal_programs.specs.Homes.{AreHeaded}
use Rattle.legal_programs.specs.Made.{Makes}
use Rattle.legal_programs.proofs.Adding.{adds_both, Add}
use Rattle.legal_programs.proofs.Extending.{specified_adds}
use Rattle.legal_programs.proofs.ExtendingUnits.{adds_at_unit, bodies_adds, all_bodies_add}
use Rattle.legal_programs.proofs.Headings.{has_home, have_homes}
use Rattle.legal_programs.proofs.MadeBodies.{IsNumbered, specified_numbered, judged_makes}

-- names
pub name_is : (a b : List ℕ) → same_name a b ≡ true → a ≡ b
name_is [] [] h = refl
name_is [] (y ∷ ys) h = absurd (false≢true h)
name_is (x ∷ xs) [] h = absurd (false≢true h)
name_is (x ∷ xs) (y ∷ ys) h =
    let both = both_true (nat_eq x y) (same_name xs ys) h in
    (λ i. eqb-true x y both.0 i ∷ name_is xs ys both.1 i)

pub name_same : (a : List ℕ) → same_name a a ≡ true
name_same [] = refl
name_same (x ∷ xs) = (λ i. eq-eqb x x refl i && name_same xs i)

-- lists
within_front : {X : Type 0} (xs ys : List X) (k : ℕ) (x : X) → slice_get xs k ≡ Some x → slice_get (xs ++ ys) k ≡ Some x
within_front [] ys zero x h = absurd (none_is_some h)
  where
    none_is_some : {X : Type 0} {x : X} → None ≡ Some x → ⊥
    none_is_some e = cc
within_front [] ys (suc k) x h = absurd (none_is_some h)
  where
    none_is_some : {X : Type 0} {x : X} → None ≡ Some x → ⊥
    none_is_some e = cc
within_front (y ∷ xs) ys zero x h = h
within_front (y ∷ xs) ys (suc k) x h = within_front xs ys k x h

at_last : {X : Type 0} (xs : List X) (x : X) (k : ℕ) → length xs ≡ k → slice_get (xs ++ x ∷ []) k ≡ Some x
at_last [] x zero h = refl
at_last [] x (suc k) h = absurd (cc h)
at_last (y ∷ xs) x zero h = absurd (cc h)
at_last (y ∷ xs) x (suc k) h = at_last xs x k (let e = h in omega (arith, e))

reversed_length : {X : Type 0} (xs : List X) → length (reverse xs) ≡ length xs
reversed_length [] = refl
reversed_length (x ∷ xs) =
    let rest = reversed_length xs in
    let ends = length-append (reverse xs) (x ∷ []) in
    ap length (reverse-cons x xs) ∙ (ends ∙ omega (arith, rest))

-- what was made first is at its place, whatever was made behind it
pub made_stays : {X : Type 0} (ss ts : List X) (k : ℕ) (x : X) → IsLonger ss ts → slice_get (reverse ss) k ≡ Some x → slice_get (reverse ts) k ≡ Some x
made_stays ss ts k x more h =
    ap (λ us. slice_get (reverse us) k) more.is ∙ (ap (λ us. slice_get us k) (reverse-append more.more ss) ∙ within_front (reverse ss) (reverse more.more) k x h)

pub made_last : {X : Type 0} (x : X) (ss : List X) → slice_get (reverse (x ∷ ss)) (length ss) ≡ Some x
made_last x ss = ap (λ us. slice_get us (length ss)) (reverse-cons x ss) ∙ at_last (reverse ss) x (length ss) (reversed_length ss)

-- a specification without parameters and result
abbrev IsBare : Given Profile → Type 0
IsBare q = (q.value.parameters ≡ []) × (q.value.result ≡ None)

bare_of : (env : Env) (s : State) (p : Pos) (ps : List SourceParameter) (r : Option Name) → ps ≡ [] → r ≡ None
    → IfOk (construct p (parameters_judged env s p ps >>= (λ q. result_judged env q r))).answer IsBare
bare_of env s p [] None e f = (refl, refl)
bare_of env s p [] (Some n) e f = absurd (cc f)
bare_of env s p (q ∷ qs) r e f = absurd (cc e)

none_of : {X : Type 0} (o : Option X) → is_none o ≡ true → o ≡ None
none_of None h = refl
none_of (Some x) h = absurd (false≢true h)

empty_of : {X : Type 0} (xs : List X) → nat_eq (length xs) 0 ≡ true → xs ≡ []
empty_of [] h = refl
empty_of (x ∷ xs) h = absurd (not_empty (eqb-true (length (x ∷ xs)) 0 h))
  where
    not_empty : length (x ∷ xs) ≡ 0 → ⊥
    not_empty e = omega (arith, e)

bare_specified : (env : Env) (s : State) (b : SubprogramBody) → is_bare b ≡ true → IfOk (specified env s b.specification).answer IsBare
bare_specified env s b h =
    let both = both_true (nat_eq (length b.specification.parameters) 0) (is_none b.specification.result_mark) h in
    bare_of (opened env) (fresh s) b.specification.pos b.specification.parameters b.specification.result_mark
    (empty_of b.specification.parameters both.0) (none_of b.specification.result_mark both.1)

-- the subprogram at a place is a main one
pub record HasSub (ss : List Subprogram) (n : ℕ) : Type 0 where
  pub made : Subprogram
  pub is : slice_get (reverse ss) n ≡ Some made
  pub alone : IsMain made

sub_stays : (ss ts : List Subprogram) (n : ℕ) → IsLonger ss ts → HasSub ss n → HasSub ts n
sub_stays ss ts n more h = record { made = h.made; is = made_stays ss ts n h.made more h.is; alone = h.alone }

main_made : (q : Given Profile) (s t : State) → IsBare q → Makes None q.value s t → HasSub t.subprograms (length s.subprograms)
main_made q s t bare h = record {
  made = h.made;
  is = ap (λ us. slice_get (reverse us) (length s.subprograms)) h.is_made ∙ made_last h.made s.subprograms;
  alone = record { procedure = h.procedure bare.1; bare = h.parameters ∙ ap (typed_parameters 0) bare.0; apart = h.stands };
}

pub main_body : (env : Env) (s : State) (b : SubprogramBody) → env.step ≡ typing → env.generic ≡ None → is_bare b ≡ true
    → IfOk (library_body env s b).answer (λ t. HasSub t.subprograms (length s.subprograms))
main_body env s b step apart bare =
    answered Last b.specification.pos _
    (part_so (λ q. IsBare q × (IsNumbered (fresh (at_unit s)) q × Add (at_unit s) q)) Last (specified within (at_unit s) b.specification).answer
    (λ q. body_judged within s b [] [] q >>= (λ next. rule (Some next)))
    (both_ok IsBare (λ q. IsNumbered (fresh (at_unit s)) q × Add (at_unit s) q) (specified within (at_unit s) b.specification).answer
    (bare_specified within (at_unit s) b bare)
    (both_ok (IsNumbered (fresh (at_unit s))) (Add (at_unit s)) (specified within (at_unit s) b.specification).answer
    (specified_numbered within (at_unit s) b.specification) (specified_adds within (at_unit s) b.specification)))
    (λ q h. part_so (Makes env.generic q.value s) Last (body_judged within s b [] [] q).answer (λ next. rule (Some next))
    (judged_makes within step s b [] [] q (record { statements = h.1.0.statements; objects = h.1.0.objects })
    (adds_both s (at_unit s) q.next (adds_at_unit s) h.1.1))
    (λ next k. main_made q s next h.0 (subst (λ g. Makes g q.value s next) apart k))))
  where
    within : Env
    within = record env { is_library = false }

    Last : State → Type 0
    Last t = HasSub t.subprograms (length s.subprograms)

-- what does not match is passed over
place_past : (unit name : List ℕ) (n : ℕ) (xs ys : List BodyName) → Everywhere (λ b. is_body unit name b ≡ false) xs
    → place_among unit name n (xs ++ ys) ≡ place_among unit name (n + length xs) ys
place_past unit name n [] ys h = let none : n ≡ n + 0 = omega (arith) in ap (λ m. place_among unit name m ys) none
place_past unit name n (x ∷ xs) ys h =
    let count : (n + 1) + length xs ≡ n + length (x ∷ xs) = omega (arith) in
    ap (λ b. if b then Some n else place_among unit name (n + 1) (xs ++ ys)) h.0
    ∙ (place_past unit name (n + 1) xs ys h.1 ∙ ap (λ m. place_among unit name m ys) count)

-- the main unit in a library
pub record IsHome (l : Library) (main : List ℕ) : Type 0 where
  pub number : ℕ
  pub named : unit_named l.names main ≡ Some number
  pub home : LibraryUnit
  pub there : slice_get l.units number ≡ Some home
  pub is : is_main main home.item ≡ true

-- these are the units of a library from n on
abbrev AreFrom : Library → ℕ → List LibraryUnit → Type 0
AreFrom l n us = (k : ℕ) → slice_get l.units (n + k) ≡ slice_get us k

from_next : (l : Library) (n : ℕ) (u : LibraryUnit) (us : List LibraryUnit) → AreFrom l n (u ∷ us) → AreFrom l (n + 1) us
from_next l n u us h k = let count : (n + 1) + k ≡ n + suc k = omega (arith) in ap (slice_get l.units) count ∙ h (suc k)

from_here : (l : Library) (n : ℕ) (u : LibraryUnit) (us : List LibraryUnit) → AreFrom l n (u ∷ us) → slice_get l.units n ≡ Some u
from_here l n u us h = let none : n ≡ n + 0 = omega (arith) in ap (slice_get l.units) none ∙ h 0

first_is : (n : ℕ) (o : Option ℕ) → is_first_name n o ≡ true → o ≡ Some n
first_is n None h = absurd (false≢true h)
first_is n (Some m) h = ap Some (eqb-true m n h)

-- a library procedure of this name
main_item : (main : List ℕ) (i : LibraryItem) → is_main main i ≡ true → main ≡ key (item_name i)
main_item main (library.Subprogram b) h = name_is main (key b.specification.name) (both_true (is_bare b) (same_name main (key b.specification.name)) h).1
main_item main (library.Package x) h = absurd (false≢true h)
main_item main (library.PackageBody x) h = absurd (false≢true h)
main_item main (library.Instance x) h = absurd (false≢true h)

named_here : (l : Library) (main : List ℕ) (n : ℕ) (i : LibraryItem) → is_main main i ≡ true → is_declared_well l n i ≡ true → unit_named l.names main ≡ Some n
named_here l main n (library.Subprogram b) h well =
    ap (unit_named l.names) (main_item main (library.Subprogram b) h)
    ∙ first_is n (unit_named l.names (key b.specification.name))
    (both_true (not (is_test_io b.specification.name)) (is_first_name n (unit_named l.names (key b.specification.name))) well).1
named_here l main n (library.Package x) h well = absurd (false≢true h)
named_here l main n (library.PackageBody x) h well = absurd (false≢true h)
named_here l main n (library.Instance x) h well = absurd (false≢true h)

pub home_of : (l : Library) (main : List ℕ) (n : ℕ) (us : List LibraryUnit) → AreFrom l n us → AreHeaded l n us → has_main main us ≡ true → IsHome l main
home_of l main n [] from headed h = absurd (false≢true h)
home_of l main n (u ∷ us) from headed h =
    by_case (either_true (is_main main u.item) (has_main main us) h) (home_of l main (n + 1) us (from_next l n u us from) headed.1)
  where
    by_case : (is_main main u.item ≡ true) ⊎ (has_main main us ≡ true) → (has_main main us ≡ true → IsHome l main) → IsHome l main
    by_case (inl e) rest =
        record { number = n; named = named_here l main n u.item e headed.0.0; home = u; there = from_here l n u us from; is = e }
    by_case (inr e) rest = rest e

-- no other body has its name
or_true : (b : Bool) → (b ≡ true) ⊎ (b ≡ false)
or_true true = inl refl
or_true false = inr refl

abbrev some_or : {X : Type 0} → X → Option X → X
some_or x None = x
some_or x (Some y) = y

module _ (l : Library) (main : List ℕ) (home : IsHome l main) where
  -- a unit of the main unit's name and number is the main unit
  main_here : (n : ℕ) (u : LibraryUnit) → slice_get l.units n ≡ Some u → unit_named l.names main ≡ Some n → is_main main u.item ≡ true
  main_here n u there named =
      let same : home.number ≡ n = ap (some_or 0) (sym home.named ∙ named) in
      let unit_is : home.home ≡ u = ap (some_or u) (sym home.there ∙ (ap (slice_get l.units) same ∙ there)) in
      subst (λ v. is_main main v.item ≡ true) unit_is home.is

  wants_nothing : (u : LibraryUnit) (i : LibraryItem) → is_main main i ≡ true → wants_body (Some (record u { item = i })) ≡ false
  wants_nothing u (library.Subprogram b) h = refl
  wants_nothing u (library.Package x) h = absurd (false≢true h)
  wants_nothing u (library.PackageBody x) h = absurd (false≢true h)
  wants_nothing u (library.Instance x) h = absurd (false≢true h)

  no_package : (n : ℕ) (name : List ℕ) (b : Bool) → (wants_body (option_and_then (slice_get l.units) (unit_named l.names name)) && b) ≡ true → name ≡ main → ⊥
  no_package n name b h e =
      let wants = (both_true (wants_body (option_and_then (slice_get l.units) (unit_named l.names name))) b h).0 in
      let found : option_and_then (slice_get l.units) (unit_named l.names name) ≡ Some home.home =
      ap (λ m. option_and_then (slice_get l.units) (unit_named l.names m)) e ∙ (ap (option_and_then (slice_get l.units)) home.named ∙ home.there) in
      false≢true (sym (wants_nothing home.home home.home.item home.is) ∙ (sym (ap wants_body found) ∙ wants))

  test_fails : (b : Bool) → (b ≡ true → ⊥) → b ≡ false
  test_fails true h = absurd (h refl)
  test_fails false h = refl

  of_package : (n : ℕ) (name : List ℕ) (is : List BodyItem) → (name ≡ main → ⊥) → Everywhere (λ b. is_body main main b ≡ false) (body_names name is)
  of_package n name [] none = tt
  of_package n name (item.Body b ∷ is) none = (
    test_fails (same_name name main && same_name (key b.specification.name) main)
        (λ h. none (name_is name main (both_true (same_name name main) (same_name (key b.specification.name) main) h).0)),
    of_package n name is none,
  )
  of_package n name (item.Declared i ∷ is) none = of_package n name is none

  others_apart : (n : ℕ) (u : LibraryUnit) (i : LibraryItem) → u.item ≡ i → slice_get l.units n ≡ Some u → is_declared_well l n i ≡ true → is_main main i ≡ false
      → Everywhere (λ b. is_body main main b ≡ false) (bodies_of_item i)
  others_apart n u (library.Package x) e there well other = tt
  others_apart n u (library.Instance x) e there well other = tt
  others_apart n u (library.PackageBody b) e there well other =
      of_package n (key b.name) b.items (no_package n (key b.name) (is_first_name n (first_number (bodies_named (key b.name) 0 l.units))) well)
  others_apart n u (library.Subprogram b) e there well other = (
    test_fails (same_name (key b.specification.name) main && same_name (key b.specification.name) main)
        (λ h. let same = name_is (key b.specification.name) main (both_true (same_name (key b.specification.name) main) (same_name (key b.specification.name) main) h).0 in
        let named = ap (unit_named l.names) (sym same) ∙ first_is n (unit_named l.names (key b.specification.name))
        (both_true (not (is_test_io b.specification.name)) (is_first_name n (unit_named l.names (key b.specification.name))) well).1 in
        false≢true (sym other ∙ subst (λ j. is_main main j ≡ true) e (main_here n u there named))),
    tt,
  )

  -- the place of the main unit's body among all
  pub record MainAt (s t : State) (us : List LibraryUnit) : Type 0 where
    pub distance : ℕ
    pub placed : (k : ℕ) → place_among main main k (all_bodies us) ≡ Some (k + distance)
    pub there : HasSub t.subprograms (length s.subprograms + distance)

  here_placed : (i : LibraryItem) (us : List LibraryUnit) → is_main main i ≡ true → (k : ℕ) → place_among main main k (bodies_of_item i ++ all_bodies us) ≡ Some (k + 0)
  here_placed (library.Subprogram b) us h k =
      let same : key b.specification.name ≡ main = sym (main_item main (library.Subprogram b) h) in
      let none : k ≡ k + 0 = omega (arith) in
      ap (λ t. if t then Some k else place_among main main (k + 1) (all_bodies us))
      (λ i. (ap (λ m. same_name m main) same ∙ name_same main) i && (ap (λ m. same_name m main) same ∙ name_same main) i)
      ∙ ap Some none
  here_placed (library.Package x) us h k = absurd (false≢true h)
  here_placed (library.PackageBody x) us h k = absurd (false≢true h)
  here_placed (library.Instance x) us h k = absurd (false≢true h)

  main_judged : (w : World) (s : State) (n : ℕ) (u : LibraryUnit) (i : LibraryItem) → is_main main i ≡ true
      → IfOk (bodies_judged typing l w s n u i).answer (λ t. HasSub t.subprograms (length s.subprograms))
  main_judged w s n u (library.Subprogram b) h =
      main_body (env_of typing w n (key b.specification.name) (seen_in w l u (routine_entity (interface_of w n)))) s b refl refl
      (both_true (is_bare b) (same_name main (key b.specification.name)) h).0
  main_judged w s n u (library.Package x) h = absurd (false≢true h)
  main_judged w s n u (library.PackageBody x) h = absurd (false≢true h)
  main_judged w s n u (library.Instance x) h = absurd (false≢true h)

  here_main : (s x t : State) (u : LibraryUnit) (us : List LibraryUnit) → is_main main u.item ≡ true → HasSub x.subprograms (length s.subprograms)
      → IsLonger x.subprograms t.subprograms → MainAt s t (u ∷ us)
  here_main s x t u us e h more = record {
    distance = 0;
    placed = here_placed u.item us e;
    there = sub_stays x.subprograms t.subprograms (length s.subprograms + 0) more
        (let none : length s.subprograms ≡ length s.subprograms + 0 = omega (arith) in subst (HasSub x.subprograms) none h);
  }

  later_main : (s x t : State) (u : LibraryUnit) (us : List LibraryUnit) → Everywhere (λ b. is_body main main b ≡ false) (bodies_of_item u.item)
      → AddsBodies (length (bodies_of_item u.item)) s x → MainAt x t us → MainAt s t (u ∷ us)
  later_main s x t u us others adds h = record {
    distance = length (bodies_of_item u.item) + h.distance;
    placed = λ k. place_past main main k (bodies_of_item u.item) (all_bodies us) others
        ∙ (h.placed (k + length (bodies_of_item u.item)) ∙ ap Some (omega (arith)));
    there = subst (HasSub t.subprograms) (let count = adds.subprograms in omega (arith, count)) h.there;
  }

  abbrev After : State → LibraryUnit → List LibraryUnit → State → Type 0
  After s u us t = MainAt s t (u ∷ us)

  at_first : (w : World) (s : State) (n : ℕ) (u : LibraryUnit) (us : List LibraryUnit) → AreHeaded l n (u ∷ us) → is_main main u.item ≡ true
      → IfOk (all_bodies_judged typing l w s n (u ∷ us)).answer (After s u us)
  at_first w s n u us headed e =
      answered (After s u us) nowhere _
      (part_so (λ x. HasSub x.subprograms (length s.subprograms)) (After s u us) _ (λ x. all_bodies_judged typing l w x (n + 1) us >>= (λ rest. rule (Some rest)))
      (answered (λ x. HasSub x.subprograms (length s.subprograms)) u.pos _
      (part_so (λ x. HasSub x.subprograms (length s.subprograms)) (λ x. HasSub x.subprograms (length s.subprograms)) (bodies_judged typing l w s n u u.item).answer
      (λ y. rule (Some y)) (main_judged w s n u u.item e) (λ y k. k)))
      (λ x k. part_so (AddsBodies (length (all_bodies us)) x) (After s u us) (all_bodies_judged typing l w x (n + 1) us).answer (λ rest. rule (Some rest))
      (all_bodies_add typing l w x (n + 1) us (have_homes l (n + 1) us headed.1))
      (λ rest r. here_main s x rest u us e k r.extends.subprograms)))

  later_on : (w : World) (s : State) (n : ℕ) (u : LibraryUnit) (us : List LibraryUnit) → AreFrom l n (u ∷ us) → AreHeaded l n (u ∷ us) → is_main main u.item ≡ false
      → ((x : State) → IfOk (all_bodies_judged typing l w x (n + 1) us).answer (λ t. MainAt x t us))
      → IfOk (all_bodies_judged typing l w s n (u ∷ us)).answer (After s u us)
  later_on w s n u us from headed e rests =
      answered (After s u us) nowhere _
      (part_so (AddsBodies (length (bodies_of_item u.item)) s) (After s u us) _ (λ x. all_bodies_judged typing l w x (n + 1) us >>= (λ rest. rule (Some rest)))
      (answered (AddsBodies (length (bodies_of_item u.item)) s) u.pos _
      (part_so (AddsBodies (length (bodies_of_item u.item)) s) (AddsBodies (length (bodies_of_item u.item)) s) (bodies_judged typing l w s n u u.item).answer
      (λ y. rule (Some y)) (bodies_adds typing l w s n u u.item (has_home l n u.item headed.0.0)) (λ y k. k)))
      (λ x k. part_so (λ t. MainAt x t us) (After s u us) (all_bodies_judged typing l w x (n + 1) us).answer (λ rest. rule (Some rest)) (rests x)
      (λ rest r. later_main s x rest u us (others_apart n u u.item refl (from_here l n u us from) headed.0.0 e) k r)))

  one_of_both : (w : World) (s : State) (n : ℕ) (u : LibraryUnit) (us : List LibraryUnit) → AreFrom l n (u ∷ us) → AreHeaded l n (u ∷ us)
      → has_main main (u ∷ us) ≡ true → (has_main main us ≡ true → (x : State) → IfOk (all_bodies_judged typing l w x (n + 1) us).answer (λ t. MainAt x t us))
      → (is_main main u.item ≡ true) ⊎ (is_main main u.item ≡ false) → IfOk (all_bodies_judged typing l w s n (u ∷ us)).answer (After s u us)
  one_of_both w s n u us from headed h rests (inl e) = at_first w s n u us headed e
  one_of_both w s n u us from headed h rests (inr e) =
      later_on w s n u us from headed e (rests (ap (λ b. b || has_main main us) (sym e) ∙ h))

  pub main_at : (w : World) (s : State) (n : ℕ) (us : List LibraryUnit) → AreFrom l n us → AreHeaded l n us → has_main main us ≡ true
      → IfOk (all_bodies_judged typing l w s n us).answer (λ t. MainAt s t us)
  main_at w s n [] from headed h = absurd (false≢true h)
  main_at w s n (u ∷ us) from headed h =
      one_of_both w s n u us from headed h (λ e x. main_at w x (n + 1) us (from_next l n u us from) headed.1 e) (or_true (is_main main u.item))
