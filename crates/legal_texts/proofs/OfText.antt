-- The objects of the library level that the text of a package adds, and the subprograms that its bodies make, stand in the generic in which the
-- text stands.
use Rattle.std.proofs.Common.{◌≡◌, ◌+◌, ℕ, Bool, true, false, if◌then◌else◌, List, [], ◌∷◌, ◌++◌, Option, Some, None, option_map, IfSome, Result, Ok, Err, IfOk, refl, sym, ap, ◌∙◌, subst, append_assoc}
use Rattle.std.proofs.lemmas.Bool.{false≢true}
use Rattle.cov_base.specs.Lists.{Everywhere}
use Rattle.cov_base.specs.declared.position.Pos.{Pos}
use Rattle.ada_syntax.specs.declared.declaration.Constancy.{Constancy}
use Rattle.ada_syntax.specs.declared.declaration.Declaration.{Declaration}
use Rattle.ada_syntax.specs.declared.declaration.DeclarationKind.{DeclarationKind}
use Rattle.ada_syntax.specs.declared.declaration.DeclarationKind.TheVariants as declares
use Rattle.ada_syntax.specs.declared.declaration.Initial.{Initial}
use Rattle.ada_syntax.specs.declared.name.Identifier.{Identifier}
use Rattle.ada_syntax.specs.declared.unit.BodyItem.{BodyItem}
use Rattle.ada_syntax.specs.declared.unit.BodyItem.TheVariants as item
use Rattle.ada_syntax.specs.declared.unit.PackageItem.{PackageItem}
use Rattle.ada_syntax.specs.declared.unit.PackageItem.TheVariants as part
use Rattle.ada_syntax.specs.declared.unit.SubprogramBody.{SubprogramBody}
use Rattle.ada_meaning.specs.Program.{LibraryObject, Subprogram}
use Rattle.ada_meaning.specs.Program as program
use Rattle.ada_meaning.specs.Tree as tree
use Rattle.ada_rules.specs.Plan.{Plan, ◌>>=◌, rule}
use Rattle.ada_rules.specs.Types.{AdaSubtype, subtype_in_tree}
use Rattle.ada_rules.specs.Entities.{key, raisable, Region, redefined}
use Rattle.ada_rules.specs.Environment.{typing, typed_rule, State, Given, given, Env, with_local, owner_of, new_identity, one_type_more, hide, hide_all}
use Rattle.ada_rules.specs.Declarations.{indicated, defined, new_value, LibraryValue, library_value, Declared, may_be_bare, one_name, known_constant, local_bare, local_set, library_objects, library_declared, no_library_value, objects_declared, exception_declared, exceptions_from, type_declared, subtype_declared, kind_declared, declared}
use Rattle.ada_rules.specs.Subprograms.{specified, subprogram_declared, body_judged, with_routine, packaged_body}
use Rattle.ada_rules.specs.Units.{package_item, package_items, body_item, body_items}
use Rattle.legal_laws.proofs.KeptStatics.{Behind, indicated_keeps, library_value_keeps, defined_keeps}
use Rattle.legal_laws.proofs.KnownObjects.{constant_keeps}
use Rattle.legal_laws.proofs.Passing.{IfPassed, answered, part_so, typed_either, any_answer, every_both}
use Rattle.legal_programs.proofs.Adding.{Add, AddsOn, declaration_adds}
use Rattle.legal_programs.proofs.Extending.{specified_adds, subprogram_adds}
use Rattle.legal_programs.proofs.Passed.{of_ok}
use Rattle.legal_texts.proofs.KeptUnits.{KeptBy, subprogram_keeps, packaged_keeps}
use Rattle.legal_texts.proofs.MadeBodies.{IsMade, judged_made}
use Rattle.legal_texts.proofs.PackageParts.{IsPackaged, packaged_there}

-- a list with others in front of it of which this holds
pub record AddsAll {X : Type 0} (P : X → Type 0) (xs ys : List X) : Type 0 where
  pub more : List X
  pub is : ys ≡ more ++ xs
  pub all : Everywhere P more

pub adds_none : {X : Type 0} (P : X → Type 0) (xs ys : List X) → ys ≡ xs → AddsAll P xs ys
adds_none P xs ys e = record { more = []; is = e; all = tt }

pub adds_one : {X : Type 0} (P : X → Type 0) (x : X) (xs ys : List X) → ys ≡ x ∷ xs → P x → AddsAll P xs ys
adds_one P x xs ys e h = record { more = x ∷ []; is = e; all = (h, tt) }

pub adds_all_both : {X : Type 0} (P : X → Type 0) (xs ys zs : List X) → AddsAll P xs ys → AddsAll P ys zs → AddsAll P xs zs
adds_all_both P xs ys zs h k = record {
  more = k.more ++ h.more;
  is = k.is ∙ (ap (λ l. k.more ++ l) h.is ∙ sym (append_assoc k.more h.more xs));
  all = every_both P k.more h.more k.all h.all;
}

abbrev pub ObjectIn : Option ℕ → LibraryObject → Type 0
ObjectIn generic x = x.generic ≡ generic

abbrev pub SubprogramIn : Option ℕ → Subprogram → Type 0
SubprogramIn generic x = x.generic ≡ generic

-- behind a state, in the text of this generic
abbrev pub AddsObjects : Option ℕ → State → State → Type 0
AddsObjects generic s t = AddsAll (ObjectIn generic) s.objects_declared t.objects_declared

abbrev pub AddsSubprograms : Option ℕ → State → State → Type 0
AddsSubprograms generic s t = AddsAll (SubprogramIn generic) s.subprograms t.subprograms

pub record AddsText (generic : Option ℕ) (s t : State) : Type 0 where
  pub objects : AddsObjects generic s t
  pub subprograms : AddsSubprograms generic s t

text_both : (generic : Option ℕ) (s t u : State) → AddsText generic s t → AddsText generic t u → AddsText generic s u
text_both generic s t u h k = record {
  objects = adds_all_both (ObjectIn generic) s.objects_declared t.objects_declared u.objects_declared h.objects k.objects;
  subprograms = adds_all_both (SubprogramIn generic) s.subprograms t.subprograms u.subprograms h.subprograms k.subprograms;
}

text_same : (generic : Option ℕ) (s : State) → AddsText generic s s
text_same generic s = record {
  objects = adds_none (ObjectIn generic) s.objects_declared s.objects_declared refl;
  subprograms = adds_none (SubprogramIn generic) s.subprograms s.subprograms refl;
}

at_library : {B : Type 0} (P : B → Type 0) (b : Bool) (o r : Plan B) → b ≡ true → IfPassed o.outcome P → IfPassed (if b then o else r).outcome P
at_library P true o r e h = h
at_library P false o r e h = absurd (false≢true e)

mapped_any : {A B : Type 0} (P : B → Type 0) (x : Option A) (y : B) → P y → IfSome (option_map (λ u. y) x) P
mapped_any P None y h = tt
mapped_any P (Some u) y h = h

pub ok_so : {A : Type 0} (P : A → Type 0) (r : Result A Pos) → ((x : A) → r ≡ Ok x → P x) → IfOk r P
ok_so P (Ok x) h = h x refl
ok_so P (Err p) h = tt

-- declarations
abbrev Grows : Option ℕ → State → Declared → Type 0
Grows generic s x = AddsObjects generic s x.next

same_objects : (generic : Option ℕ) (s t : State) → t.objects_declared ≡ s.objects_declared → AddsObjects generic s t
same_objects generic s t e = adds_none (ObjectIn generic) s.objects_declared t.objects_declared e

exceptions_same : (env : Env) (s : State) (region : Region) (is : List Identifier) → (exceptions_from env s region is).next.objects_declared ≡ s.objects_declared
exceptions_same env s region [] = refl
exceptions_same env s region (i ∷ is) =
    exceptions_same env (exception_declared env i s) (redefined (key i) (raisable (tree.declared (owner_of env) s.exceptions)) region) is

abbrev object_here : Env → AdaSubtype → program.Initial → ℕ → LibraryObject
object_here env t v n = record { declaration = n; generic = env.generic; subtype = subtype_in_tree t; initial = v }

library_added : (env : Env) (t : AdaSubtype) (v : program.Initial) (n : ℕ) (is : List Identifier) (os : List LibraryObject)
    → AddsAll (ObjectIn env.generic) os (library_objects env t v n is os)
library_added env t v n [] os = adds_none (ObjectIn env.generic) os os refl
library_added env t v n (i ∷ is) os =
    adds_all_both (ObjectIn env.generic) os (object_here env t v n ∷ os) (library_objects env t v (n + 1) is (object_here env t v n ∷ os))
    (adds_one (ObjectIn env.generic) (object_here env t v n) os (object_here env t v n ∷ os) refl refl)
    (library_added env t v (n + 1) is (object_here env t v n ∷ os))

made_added : (env : Env) (c : Constancy) (region : Region) (is : List Identifier) (t : AdaSubtype) (v : LibraryValue) (s u : State)
    → u.objects_declared ≡ s.objects_declared → Grows env.generic s (library_declared env c region is t v u)
made_added env c region is t v s u same =
    let k = known_constant env c t (λ e. Some e) v.known u in
    let kept : k.next.objects_declared ≡ u.objects_declared = ap (λ x. x.objects_declared) (constant_keeps env c t (λ e. Some e) v.known u) in
    subst (λ os. AddsAll (ObjectIn env.generic) os (library_declared env c region is t v u).next.objects_declared) (kept ∙ same)
    (library_added env t v.initial k.next.library_objects is k.next.objects_declared)

module _ (env : Env) (library : env.is_library ≡ true) (s : State) where
  abbrev Growing : Declared → Type 0
  Growing x = Grows env.generic s x

  objects_grow : (q : Pos) (c : Constancy) (region : Region) (is : List Identifier) (t : Given AdaSubtype) (i : Option Initial)
      → t.next.objects_declared ≡ s.objects_declared → IfPassed (objects_declared env q c region is t i).outcome Growing
  objects_grow q c region is t None same =
      let made = made_added env c region is t.value no_library_value s t.next same in
      at_library Growing env.is_library
      (typed_rule env.step (library_declared env c region is t.value no_library_value t.next)
      (option_map (λ u. library_declared env c region is t.value no_library_value t.next) (may_be_bare c)))
      (typed_rule env.step (local_bare c region is t) (option_map (λ u. local_bare c region is t) (may_be_bare c))) library
      (typed_either Growing env.step _ _ made (mapped_any Growing (may_be_bare c) _ made))
  objects_grow q c region is t (Some i) same =
      at_library Growing env.is_library
      (library_value (with_local env region) t.next q t.value i >>= (λ v. typed_rule env.step (library_declared env c region is t.value v.value v.next)
      (option_map (λ u. library_declared env c region is t.value v.value v.next) (one_name is))))
      (new_value (with_local env region) t.next q t.value i >>= (λ v. typed_rule env.step (local_set env q c region is t.value v)
      (option_map (λ u. local_set env q c region is t.value v) (one_name is)))) library
      (part_so (Behind t.next) Growing (library_value (with_local env region) t.next q t.value i).answer
      (λ v. typed_rule env.step (library_declared env c region is t.value v.value v.next)
      (option_map (λ u. library_declared env c region is t.value v.value v.next) (one_name is)))
      (library_value_keeps (with_local env region) t.next q t.value i)
      (λ v only. let made = made_added env c region is t.value v.value s v.next (ap (λ x. x.objects_declared) only ∙ same) in
      typed_either Growing env.step _ _ made (mapped_any Growing (one_name is) _ made)))

  kind_grows : (q : Pos) (d : DeclarationKind) → IfPassed (kind_declared env s q d).outcome Growing
  kind_grows q (declares.Type i d) =
      part_so (λ r. Unit {0}) Growing (hide env.local i).answer
      (λ region. defined (with_local env region) (one_type_more s) q (new_identity env s) d >>= (λ x. rule (Some (type_declared env q i (new_identity env s) x))))
      (any_answer (hide env.local i).answer)
      (λ region u. part_so (Behind (one_type_more s)) Growing (defined (with_local env region) (one_type_more s) q (new_identity env s) d).answer
      (λ x. rule (Some (type_declared env q i (new_identity env s) x))) (defined_keeps (with_local env region) (one_type_more s) q (new_identity env s) d)
      (λ x only. same_objects env.generic s (type_declared env q i (new_identity env s) x).next (ap (λ y. y.objects_declared) only)))
  kind_grows q (declares.Subtype i t) =
      part_so (λ r. Unit {0}) Growing (hide env.local i).answer
      (λ region. indicated (with_local env region) (one_type_more s) t >>= (λ x. rule (Some (subtype_declared i region (new_identity env s) x))))
      (any_answer (hide env.local i).answer)
      (λ region u. part_so (Behind (one_type_more s)) Growing (indicated (with_local env region) (one_type_more s) t).answer
      (λ x. rule (Some (subtype_declared i region (new_identity env s) x))) (indicated_keeps (with_local env region) (one_type_more s) t)
      (λ x only. same_objects env.generic s x.next (ap (λ y. y.objects_declared) only)))
  kind_grows q (declares.Object is c t i) =
      part_so (λ r. Unit {0}) Growing (hide_all q env.local is).answer
      (λ region. indicated (with_local env region) s t >>= (λ x. objects_declared env q c region is x i)) (any_answer (hide_all q env.local is).answer)
      (λ region u. part_so (Behind s) Growing (indicated (with_local env region) s t).answer (λ x. objects_declared env q c region is x i)
      (indicated_keeps (with_local env region) s t) (λ x only. objects_grow q c region is x i (ap (λ y. y.objects_declared) only)))
  kind_grows q (declares.Exception is) =
      part_so (λ r. Unit {0}) Growing (hide_all q env.local is).answer (λ region. rule (Some (exceptions_from env s region is)))
      (any_answer (hide_all q env.local is).answer)
      (λ region u. same_objects env.generic s (exceptions_from env s region is).next (exceptions_same env s region is))
  kind_grows q (declares.Pragma a) = same_objects env.generic s s refl

  pub declaration_grows : (d : Declaration) → IfOk (declared env s d).answer Growing
  declaration_grows d = answered Growing d.pos (kind_declared env s d.pos d.kind).outcome (kind_grows d.pos d.kind)

-- what a body in a package makes
pub packaged_makes : (env : Env) → env.step ≡ typing → (s : State) (b : SubprogramBody) (g : Given Region) (h : IsPackaged env s b g)
    → IsMade env.generic h.profile.value s g.next
packaged_makes env step s b g h =
    let region = with_routine env h.region b.specification.name h.profile.value in
    let name = key b.specification.name in
    subst (λ (r : Given Region). IsMade env.generic h.profile.value s r.next) h.is
    (of_ok (IsMade env.generic h.profile.value s) (body_judged env s b region name h.profile).answer h.next h.judged
    (judged_made env step s b region name h.profile
    (of_ok (Add s) (specified (with_local env h.region) s b.specification).answer h.profile h.specifies (specified_adds (with_local env h.region) s b.specification))))

abbrev pub TextAdded : Option ℕ → State → Given Region → Type 0
TextAdded generic s g = AddsText generic s g.next

-- items of packages
module _ (env : Env) (library : env.is_library ≡ true) (s : State) where
  of_declaration : (d : Declaration) → IfOk (declared env s d).answer (λ x. AddsText env.generic s x.next)
  of_declaration d =
      ok_so (λ x. AddsText env.generic s x.next) (declared env s d).answer
      (λ x e. record {
        objects = of_ok (Grows env.generic s) (declared env s d).answer x e (declaration_grows env library s d);
        subprograms = adds_none (SubprogramIn env.generic) s.subprograms x.next.subprograms
            (of_ok (AddsOn s) (declared env s d).answer x e (declaration_adds env s d)).subprograms;
      })

  pub item_of_text : (i : PackageItem) → IfPassed (package_item env s i).outcome (TextAdded env.generic s)
  item_of_text (part.Declaration d) =
      part_so (λ x. AddsText env.generic s x.next) (TextAdded env.generic s) (declared env s d).answer (λ x. rule (Some (given x.region x.next)))
      (of_declaration d) (λ x h. record { objects = h.objects; subprograms = h.subprograms })
  item_of_text (part.Subprogram x) =
      part_so (TextAdded env.generic s) (TextAdded env.generic s) (subprogram_declared env s x).answer (λ r. rule (Some r))
      (ok_so (TextAdded env.generic s) (subprogram_declared env s x).answer
      (λ g e. let kept = of_ok (KeptBy false s) (subprogram_declared env s x).answer g e (subprogram_keeps env s x) in
      record {
        objects = same_objects env.generic s g.next (kept.objects refl);
        subprograms = adds_none (SubprogramIn env.generic) s.subprograms g.next.subprograms
            (of_ok (Add s) (subprogram_declared env s x).answer g e (subprogram_adds env s x)).subprograms;
      })) (λ r h. h)

  packaged_of_text : env.step ≡ typing → (b : SubprogramBody) → IfOk (packaged_body env s b).answer (TextAdded env.generic s)
  packaged_of_text step b =
      ok_so (TextAdded env.generic s) (packaged_body env s b).answer
      (λ g e. let there = packaged_there env s b g e in
      let m = packaged_makes env step s b g there in
      let kept = of_ok (KeptBy false s) (packaged_body env s b).answer g e (packaged_keeps env s b) in
      record {
        objects = same_objects env.generic s g.next (kept.objects refl);
        subprograms = adds_one (SubprogramIn env.generic) m.made s.subprograms g.next.subprograms m.is_made m.stands;
      })

  body_item_of_text : env.step ≡ typing → (i : BodyItem) → IfPassed (body_item env s i).outcome (TextAdded env.generic s)
  body_item_of_text step (item.Declared i) = item_of_text i
  body_item_of_text step (item.Body b) =
      part_so (TextAdded env.generic s) (TextAdded env.generic s) (packaged_body env s b).answer (λ r. rule (Some r)) (packaged_of_text step b) (λ r h. h)

-- in order
pub objects_of_text : (env : Env) → env.is_library ≡ true → (s : State) (p : Pos) (items : List PackageItem)
    → IfOk (package_items env s p items).answer (TextAdded env.generic s)
objects_of_text env library s p [] = text_same env.generic s
objects_of_text env library s p (i ∷ items) =
    answered (TextAdded env.generic s) p _
    (part_so (TextAdded env.generic s) (TextAdded env.generic s) _ (λ r. package_items (with_local env r.value) r.next p items >>= (λ rest. rule (Some rest)))
    (answered (TextAdded env.generic s) p (package_item env s i).outcome (item_of_text env library s i))
    (λ r h. part_so (TextAdded env.generic r.next) (TextAdded env.generic s) (package_items (with_local env r.value) r.next p items).answer (λ rest. rule (Some rest))
    (objects_of_text (with_local env r.value) library r.next p items) (λ rest k. text_both env.generic s r.next rest.next h k)))

pub bodies_of_text : (env : Env) → env.is_library ≡ true → env.step ≡ typing → (s : State) (p : Pos) (items : List BodyItem)
    → IfOk (body_items env s p items).answer (TextAdded env.generic s)
bodies_of_text env library step s p [] = text_same env.generic s
bodies_of_text env library step s p (i ∷ items) =
    answered (TextAdded env.generic s) p _
    (part_so (TextAdded env.generic s) (TextAdded env.generic s) _ (λ r. body_items (with_local env r.value) r.next p items >>= (λ rest. rule (Some rest)))
    (answered (TextAdded env.generic s) p (body_item env s i).outcome (body_item_of_text env library s step i))
    (λ r h. part_so (TextAdded env.generic r.next) (TextAdded env.generic s) (body_items (with_local env r.value) r.next p items).answer (λ rest. rule (Some rest))
    (bodies_of_text (with_local env r.value) library step r.next p items) (λ rest k. text_both env.generic s r.next rest.next h k)))
