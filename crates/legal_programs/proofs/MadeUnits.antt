-- Units make their subprograms in turn: statement obligations are numbered through all bodies, and nothing else takes a number.
use Rattle.std.proofs.Common.{◌≡◌, ◌+◌, ℕ, Bool, true, false, if◌then◌else◌, List, [], ◌∷◌, ◌++◌, map, reverse, length, Option, Some, None, option_map, IfSome, Result, IfOk, refl, sym, ap, ◌∙◌, subst, arith, append-nil, append_assoc}
use mathlib.Core.List.{reverse-cons}
use Rattle.std.proofs.lemmas.Bool.{false≢true}
use Rattle.cov_base.specs.Lists.{Everywhere}
use Rattle.cov_base.specs.declared.position.Pos.{Pos}
use Rattle.ada_syntax.specs.declared.declaration.Constancy.{Constancy}
use Rattle.ada_syntax.specs.declared.declaration.Declaration.{Declaration}
use Rattle.ada_syntax.specs.declared.declaration.DeclarationKind.{DeclarationKind}
use Rattle.ada_syntax.specs.declared.declaration.DeclarationKind.TheVariants as declares
use Rattle.ada_syntax.specs.declared.declaration.Initial.{Initial}
use Rattle.ada_syntax.specs.declared.name.Identifier.{Identifier}
use Rattle.ada_syntax.specs.declared.unit.BodyItem.{BodyItem}
use Rattle.ada_syntax.specs.declared.unit.BodyItem.TheVariants as item
use Rattle.ada_syntax.specs.declared.unit.LibraryItem.{LibraryItem}
use Rattle.ada_syntax.specs.declared.unit.LibraryItem.TheVariants as library
use Rattle.ada_syntax.specs.declared.unit.PackageBody.{PackageBody}
use Rattle.ada_syntax.specs.declared.unit.PackageItem.{PackageItem}
use Rattle.ada_syntax.specs.declared.unit.PackageItem.TheVariants as part
use Rattle.ada_syntax.specs.declared.unit.Specification.{Specification}
use Rattle.ada_syntax.specs.declared.unit.SubprogramBody.{SubprogramBody}
use Rattle.ada_syntax.specs.declared.unit.Unit.{Unit as LibraryUnit}
use Rattle.ada_meaning.specs.Collected.{block_labels, labels_of}
use Rattle.ada_meaning.specs.Objects.{AreDistinct, objects_of}
use Rattle.ada_meaning.specs.Obligations.{numbers}
use Rattle.ada_meaning.specs.Program.{Subprogram}
use Rattle.ada_meaning.specs.Tree as tree
use Rattle.ada_rules.specs.Plan.{Plan, Outcome, refused_in, broken, passed, ◌>>=◌, rule}
use Rattle.ada_rules.specs.Types.{AdaSubtype}
use Rattle.ada_rules.specs.Entities.{key, routine, raisable, Region, redefined}
use Rattle.ada_rules.specs.Environment.{typing, typed_rule, World, interface_of, State, Given, given, Env, with_local, owner_of, new_identity, one_type_more, hide, hide_all}
use Rattle.ada_rules.specs.Denoted.{nowhere}
use Rattle.ada_rules.specs.Declarations.{LibraryValue, library_value, indicated, defined, new_value, Declared, may_be_bare, one_name, local_bare, local_set, library_declared, no_library_value, objects_declared, exception_declared, exceptions_from, type_declared, subtype_declared, kind_declared, declared}
use Rattle.ada_rules.specs.Subprograms.{fresh, Profile, specified, declared_only, body_number, routine_of, subprogram_declared, completed, conforming, closed_by, body_judged, with_routine, packaged_body}
use Rattle.ada_rules.specs.Library.{Library, unit_named}
use Rattle.ada_rules.specs.Units.{env_of, package_item, package_items, body_item, body_items, at_unit, behind_unit, seen_in, region_of, seen_in_body, in_body, package_body, package_body_of, library_body, routine_entity, bodies_judged, all_bodies_judged}
use Rattle.legal_laws.specs.Kept.{OnlyStatics}
use Rattle.legal_laws.proofs.KeptStatics.{Behind, indicated_keeps, defined_keeps, library_value_keeps}
use Rattle.legal_laws.proofs.KnownObjects.{constant_keeps}
use Rattle.legal_laws.proofs.Passing.{IfPassed, if_map, answered, ruled_so, part_so, weaker_ok, both_ok, typed_either, any_answer}
use Rattle.legal_laws.proofs.NumberedObjects.{numbers_joined}
use Rattle.legal_programs.specs.Made.{Makes, AreMadeInTurn}
use Rattle.legal_programs.proofs.Adding.{adds_both, Add, AddsOn, declaration_adds}
use Rattle.legal_programs.proofs.ExtendingUnits.{adds_at_unit}
use Rattle.legal_programs.proofs.Extending.{specified_adds, subprogram_adds}
use Rattle.legal_programs.proofs.Lists.{map_joined}
use Rattle.legal_programs.proofs.MadeBodies.{IsNumbered, specified_numbered, judged_makes}

-- what takes no label
abbrev Keeps : State → State → Type 0
Keeps s t = t.statements ≡ s.statements

abbrev pub Keep : {A : Type 0} → State → Given A → Type 0
Keep s g = Keeps s g.next

abbrev KeepsOn : State → Declared → Type 0
KeepsOn s x = Keeps s x.next

keeps_statics : (s t : State) → OnlyStatics s t → Keeps s t
keeps_statics s t only = ap (λ x. x.statements) only

pub statics_keep : {A : Type 0} (s : State) (r : Result (Given A) Pos) → IfOk r (λ g. Behind s g) → IfOk r (λ g. Keep s g)
statics_keep s r h = weaker_ok (λ g. Behind s g) (λ g. Keep s g) r h (λ x k. keeps_statics s x.next k)

-- declarations of the library level
at_library : {B : Type 0} (P : B → Type 0) (b : Bool) (o r : Plan B) → b ≡ true → IfPassed o.outcome P → IfPassed (if b then o else r).outcome P
at_library P true o r e h = h
at_library P false o r e h = absurd (false≢true e)

pub mapped_any : {A B : Type 0} (P : B → Type 0) (x : Option A) (y : B) → P y → IfSome (option_map (λ u. y) x) P
mapped_any P None y h = tt
mapped_any P (Some u) y h = h

exceptions_keep : (env : Env) (s : State) (region : Region) (is : List Identifier) → KeepsOn s (exceptions_from env s region is)
exceptions_keep env s region [] = refl
exceptions_keep env s region (i ∷ is) =
    exceptions_keep env (exception_declared env i s) (redefined (key i) (raisable (tree.declared (owner_of env) s.exceptions)) region) is

library_keeps : (env : Env) (c : Constancy) (region : Region) (is : List Identifier) (t : AdaSubtype) (v : LibraryValue) (s u : State) → Keeps s u
    → KeepsOn s (library_declared env c region is t v u)
library_keeps env c region is t v s u h = keeps_statics u _ (constant_keeps env c t (λ e. Some e) v.known u) ∙ h

module _ (env : Env) (library : env.is_library ≡ true) where
  objects_keep : (q : Pos) (c : Constancy) (region : Region) (is : List Identifier) (s : State) (t : Given AdaSubtype) (i : Option Initial) → Keeps s t.next
      → IfPassed (objects_declared env q c region is t i).outcome (KeepsOn s)
  objects_keep q c region is s t None h =
      let all = library_keeps env c region is t.value no_library_value s t.next h in
      at_library (KeepsOn s) env.is_library
      (typed_rule env.step (library_declared env c region is t.value no_library_value t.next)
      (option_map (λ u. library_declared env c region is t.value no_library_value t.next) (may_be_bare c)))
      (typed_rule env.step (local_bare c region is t) (option_map (λ u. local_bare c region is t) (may_be_bare c))) library
      (typed_either (KeepsOn s) env.step _ _ all (mapped_any (KeepsOn s) (may_be_bare c) _ all))
  objects_keep q c region is s t (Some i) h =
      at_library (KeepsOn s) env.is_library
      (library_value (with_local env region) t.next q t.value i >>= (λ v. typed_rule env.step (library_declared env c region is t.value v.value v.next)
      (option_map (λ u. library_declared env c region is t.value v.value v.next) (one_name is))))
      (new_value (with_local env region) t.next q t.value i >>= (λ v. typed_rule env.step (local_set env q c region is t.value v)
      (option_map (λ u. local_set env q c region is t.value v) (one_name is)))) library
      (part_so (Keep t.next) (KeepsOn s) (library_value (with_local env region) t.next q t.value i).answer
      (λ v. typed_rule env.step (library_declared env c region is t.value v.value v.next)
      (option_map (λ u. library_declared env c region is t.value v.value v.next) (one_name is)))
      (statics_keep t.next (library_value (with_local env region) t.next q t.value i).answer (library_value_keeps (with_local env region) t.next q t.value i))
      (λ v k. let all = library_keeps env c region is t.value v.value s v.next (k ∙ h) in
      typed_either (KeepsOn s) env.step _ _ all (mapped_any (KeepsOn s) (one_name is) _ all)))

  kind_keeps : (s : State) (q : Pos) (d : DeclarationKind) → IfPassed (kind_declared env s q d).outcome (KeepsOn s)
  kind_keeps s q (declares.Type i d) =
      part_so (λ x. Unit {0}) (KeepsOn s) (hide env.local i).answer
      (λ region. defined (with_local env region) (one_type_more s) q (new_identity env s) d >>= (λ x. rule (Some (type_declared env q i (new_identity env s) x))))
      (any_answer (hide env.local i).answer)
      (λ region u. part_so (Behind (one_type_more s)) (KeepsOn s) (defined (with_local env region) (one_type_more s) q (new_identity env s) d).answer
      (λ x. rule (Some (type_declared env q i (new_identity env s) x))) (defined_keeps (with_local env region) (one_type_more s) q (new_identity env s) d)
      (λ x h. ap (λ y. y.statements) h))
  kind_keeps s q (declares.Subtype i t) =
      part_so (λ x. Unit {0}) (KeepsOn s) (hide env.local i).answer
      (λ region. indicated (with_local env region) (one_type_more s) t >>= (λ x. rule (Some (subtype_declared i region (new_identity env s) x))))
      (any_answer (hide env.local i).answer)
      (λ region u. part_so (Behind (one_type_more s)) (KeepsOn s) (indicated (with_local env region) (one_type_more s) t).answer
      (λ x. rule (Some (subtype_declared i region (new_identity env s) x))) (indicated_keeps (with_local env region) (one_type_more s) t)
      (λ x h. ap (λ y. y.statements) h))
  kind_keeps s q (declares.Object is c t i) =
      part_so (λ x. Unit {0}) (KeepsOn s) (hide_all q env.local is).answer
      (λ region. indicated (with_local env region) s t >>= (λ x. objects_declared env q c region is x i)) (any_answer (hide_all q env.local is).answer)
      (λ region u. part_so (Keep s) (KeepsOn s) (indicated (with_local env region) s t).answer (λ x. objects_declared env q c region is x i)
      (statics_keep s (indicated (with_local env region) s t).answer (indicated_keeps (with_local env region) s t)) (λ x h. objects_keep q c region is s x i h))
  kind_keeps s q (declares.Exception is) =
      part_so (λ x. Unit {0}) (KeepsOn s) (hide_all q env.local is).answer (λ region. rule (Some (exceptions_from env s region is)))
      (any_answer (hide_all q env.local is).answer) (λ region u. exceptions_keep env s region is)
  kind_keeps s q (declares.Pragma a) = refl

  declared_keeps : (s : State) (d : Declaration) → IfOk (declared env s d).answer (KeepsOn s)
  declared_keeps s d = answered (KeepsOn s) d.pos (kind_declared env s d.pos d.kind).outcome (kind_keeps s d.pos d.kind)

pub specified_keeps : (env : Env) (s : State) (x : Specification) → IfOk (specified env s x).answer (Keep s)
specified_keeps env s x =
    weaker_ok (IsNumbered (fresh s)) (Keep s) (specified env s x).answer (specified_numbered env s x) (λ q h. h.statements)

any_some : (o : Option ℕ) → IfSome o (λ n. Unit {0})
any_some None = tt
any_some (Some n) = tt

subprogram_keeps : (env : Env) (s : State) (x : Specification) → IfOk (subprogram_declared env s x).answer (Keep s)
subprogram_keeps env s x =
    answered (Keep s) x.pos _
    (part_so (λ r. Unit {0}) (Keep s) (hide env.local x.name).answer
    (λ region. specified (with_local env region) s x
    >>= (λ q. rule (option_map (λ n. given (redefined (key x.name) (routine (routine_of env (key x.name) true q.value)) region) (declared_only s q.next))
    (body_number env.world env.unit_name (key x.name)))))
    (any_answer (hide env.local x.name).answer)
    (λ region u. part_so (Keep s) (Keep s) (specified (with_local env region) s x).answer
    (λ q. rule (option_map (λ n. given (redefined (key x.name) (routine (routine_of env (key x.name) true q.value)) region) (declared_only s q.next))
    (body_number env.world env.unit_name (key x.name))))
    (specified_keeps (with_local env region) s x)
    (λ q h. ruled_so (Keep s) _
    (if_map (λ n. Unit {0}) (Keep s) (λ n. given (redefined (key x.name) (routine (routine_of env (key x.name) true q.value)) region) (declared_only s q.next))
    (body_number env.world env.unit_name (key x.name)) (any_some (body_number env.world env.unit_name (key x.name))) (λ n v. h)))))

-- what units make
abbrev pub InTurn : State → State → Type 0
InTurn s t = AreMadeInTurn s → AreMadeInTurn t

in_turn_quiet : (s t : State) → t.statements ≡ s.statements → t.subprograms ≡ s.subprograms → InTurn s t
in_turn_quiet s t e f h = record {
  labels = subst (λ ss. map (λ l. l.number) (labels_of (reverse ss)) ≡ numbers 0 t.statements) (sym f) (h.labels ∙ ap (numbers 0) (sym e));
  distinct = subst (Everywhere (λ m. AreDistinct (objects_of m))) (sym f) h.distinct;
}

labels_of_joined : (ss ts : List Subprogram) → labels_of (ss ++ ts) ≡ (labels_of ss ++ labels_of ts)
labels_of_joined [] ts = refl
labels_of_joined (s ∷ ss) ts =
    ap (λ ls. block_labels s.body ++ ls) (labels_of_joined ss ts) ∙ sym (append_assoc (block_labels s.body) (labels_of ss) (labels_of ts))

pub labels_of_last : (s : Subprogram) (ss : List Subprogram) → labels_of (reverse (s ∷ ss)) ≡ (labels_of (reverse ss) ++ block_labels s.body)
labels_of_last s ss =
    ap labels_of (reverse-cons s ss) ∙ (labels_of_joined (reverse ss) (s ∷ []) ∙ ap (λ ls. labels_of (reverse ss) ++ ls) (append-nil (block_labels s.body)))

numbers_next : (m n k : ℕ) → k ≡ m + n → (numbers 0 m ++ numbers m n) ≡ numbers 0 k
numbers_next m n k e =
    let none : m ≡ 0 + m = omega (arith) in
    ap (λ i. numbers 0 m ++ numbers i n) none ∙ (sym (numbers_joined 0 m n) ∙ ap (numbers 0) (sym e))

in_turn_made : (generic : Option ℕ) (q : Profile) (s t : State) → Makes generic q s t → InTurn s t
in_turn_made generic q s t h before = record {
  labels =
      subst (λ ss. map (λ l. l.number) (labels_of (reverse ss)) ≡ numbers 0 t.statements) (sym h.is_made)
      (ap (map (λ l. l.number)) (labels_of_last h.made s.subprograms)
      ∙ (map_joined (λ l. l.number) (labels_of (reverse s.subprograms)) (block_labels h.made.body)
      ∙ ((λ i. before.labels i ++ h.labels.numbered i)
      ∙ numbers_next s.statements (length (block_labels h.made.body)) t.statements h.labels.next)));
  distinct = subst (Everywhere (λ m. AreDistinct (objects_of m))) (sym h.is_made) (h.distinct, before.distinct);
}

abbrev Turn : {A : Type 0} → State → Given A → Type 0
Turn s g = InTurn s g.next

-- a body in a package
module _ (env : Env) (step : env.step ≡ typing) (s : State) (b : SubprogramBody) where
  abbrev after_conforming : Region → Given Profile → Plan (Given Region)
  after_conforming region q =
      body_judged env s b (with_routine env region b.specification.name q.value) (key b.specification.name) q
      >>= (λ next. rule (Some (given (with_routine env region b.specification.name q.value) next)))

  abbrev after_specified : Region → Given Profile → Plan (Given Region)
  after_specified region q = conforming b.specification.pos region b.specification.name q.value >>= (λ fit. after_conforming region q)

  abbrev after_completed : Region → Plan (Given Region)
  after_completed region = specified (with_local env region) s b.specification >>= after_specified region

  packaged_in_turn : IfOk (packaged_body env s b).answer (Turn s)
  packaged_in_turn =
      answered (Turn s) b.specification.pos _
      (part_so (λ r. Unit {0}) (Turn s) (completed env.local b.specification.name).answer after_completed
      (any_answer (completed env.local b.specification.name).answer)
      (λ region u. part_so (λ q. IsNumbered (fresh s) q × Add s q) (Turn s) (specified (with_local env region) s b.specification).answer (after_specified region)
      (both_ok (IsNumbered (fresh s)) (Add s) (specified (with_local env region) s b.specification).answer
      (specified_numbered (with_local env region) s b.specification) (specified_adds (with_local env region) s b.specification))
      (λ q h. part_so (λ v. Unit {0}) (Turn s) (conforming b.specification.pos region b.specification.name q.value).answer
      (λ fit. after_conforming region q) (any_answer (conforming b.specification.pos region b.specification.name q.value).answer)
      (λ fit v. part_so (Makes env.generic q.value s) (Turn s)
      (body_judged env s b (with_routine env region b.specification.name q.value) (key b.specification.name) q).answer
      (λ next. rule (Some (given (with_routine env region b.specification.name q.value) next)))
      (judged_makes env step s b (with_routine env region b.specification.name q.value) (key b.specification.name) q h.0 h.1)
      (λ next k. in_turn_made env.generic q.value s next k)))))

-- items
abbrev pub Quiet : {A : Type 0} → State → Given A → Type 0
Quiet s g = (g.next.statements ≡ s.statements) × (g.next.subprograms ≡ s.subprograms)

item_quiet : (env : Env) (s : State) (i : PackageItem) → env.is_library ≡ true → IfPassed (package_item env s i).outcome (Quiet s)
item_quiet env s (part.Declaration d) library =
    part_so (λ x. AddsOn s x × KeepsOn s x) (Quiet s) (declared env s d).answer (λ x. rule (Some (given x.region x.next)))
    (both_ok (AddsOn s) (KeepsOn s) (declared env s d).answer (declaration_adds env s d) (declared_keeps env library s d)) (λ x h. (h.1, h.0.subprograms))
item_quiet env s (part.Subprogram x) library =
    part_so (λ r. Add s r × Keep s r) (Quiet s) (subprogram_declared env s x).answer (λ r. rule (Some r))
    (both_ok (Add s) (Keep s) (subprogram_declared env s x).answer (subprogram_adds env s x) (subprogram_keeps env s x)) (λ r h. (h.1, h.0.subprograms))

pub items_quiet : (env : Env) (s : State) (p : Pos) (is : List PackageItem) → env.is_library ≡ true → IfOk (package_items env s p is).answer (Quiet s)
items_quiet env s p [] library = (refl, refl)
items_quiet env s p (i ∷ is) library =
    answered (Quiet s) p _
    (part_so (Quiet s) (Quiet s) _ (λ r. package_items (with_local env r.value) r.next p is >>= (λ rest. rule (Some rest)))
    (answered (Quiet s) p (package_item env s i).outcome (item_quiet env s i library))
    (λ r h. part_so (Quiet r.next) (Quiet s) (package_items (with_local env r.value) r.next p is).answer (λ rest. rule (Some rest))
    (items_quiet (with_local env r.value) r.next p is library) (λ rest k. (k.0 ∙ h.0, k.1 ∙ h.1))))

passed_weaker : {A : Type 0} (P Q : A → Type 0) (o : Outcome A) → IfPassed o P → ((x : A) → P x → Q x) → IfPassed o Q
passed_weaker P Q (refused_in p) h f = tt
passed_weaker P Q broken h f = tt
passed_weaker P Q (passed x) h f = f x h

body_item_in_turn : (env : Env) (s : State) (i : BodyItem) → env.step ≡ typing → env.is_library ≡ true → IfPassed (body_item env s i).outcome (Turn s)
body_item_in_turn env s (item.Declared i) step library =
    passed_weaker (Quiet s) (Turn s) (package_item env s i).outcome (item_quiet env s i library) (λ r h. in_turn_quiet s r.next h.0 h.1)
body_item_in_turn env s (item.Body b) step library =
    part_so (Turn s) (Turn s) (packaged_body env s b).answer (λ r. rule (Some r)) (packaged_in_turn env step s b) (λ r h. h)

body_items_in_turn : (env : Env) (s : State) (p : Pos) (is : List BodyItem) → env.step ≡ typing → env.is_library ≡ true
    → IfOk (body_items env s p is).answer (Turn s)
body_items_in_turn env s p [] step library = λ h. h
body_items_in_turn env s p (i ∷ is) step library =
    answered (Turn s) p _
    (part_so (Turn s) (Turn s) _ (λ r. body_items (with_local env r.value) r.next p is >>= (λ rest. rule (Some rest)))
    (answered (Turn s) p (body_item env s i).outcome (body_item_in_turn env s i step library))
    (λ r h. part_so (Turn r.next) (Turn s) (body_items (with_local env r.value) r.next p is).answer (λ rest. rule (Some rest))
    (body_items_in_turn (with_local env r.value) r.next p is step library) (λ rest k before. k (h before))))

-- units
module _ (l : Library) where
  package_in_turn : (env : Env) (s : State) (p : Pos) (n : ℕ) (b : PackageBody) → env.step ≡ typing → env.is_library ≡ true
      → IfOk (package_body env s p n b).answer (InTurn s)
  package_in_turn env s p n b step library =
      answered (InTurn s) p _
      (part_so (Turn (at_unit s)) (InTurn s)
      (body_items (in_body env n (interface_of env.world n) (region_of (interface_of env.world n))) (at_unit s) p b.items).answer
      (λ region. closed_by p b.name b.end_name >>= (λ end. rule (Some (behind_unit (in_body env n (interface_of env.world n) []) n region.next))))
      (body_items_in_turn (in_body env n (interface_of env.world n) (region_of (interface_of env.world n))) (at_unit s) p b.items step library)
      (λ region h. part_so (λ u. Unit {0}) (InTurn s) (closed_by p b.name b.end_name).answer
      (λ end. rule (Some (behind_unit (in_body env n (interface_of env.world n) []) n region.next)))
      (any_answer (closed_by p b.name b.end_name).answer)
      (λ end u before. in_turn_quiet region.next (behind_unit (in_body env n (interface_of env.world n) []) n region.next) refl refl
      (h (in_turn_quiet s (at_unit s) refl refl before)))))

  body_of_in_turn : (w : World) (s : State) (m : ℕ) (u : LibraryUnit) (b : PackageBody) (o : Option ℕ)
      → IfOk (package_body_of typing l w s m u b o).answer (InTurn s)
  body_of_in_turn w s m u b None = λ h. h
  body_of_in_turn w s m u b (Some n) = package_in_turn (env_of typing w m (key b.name) (seen_in_body w l n u)) s u.item_pos n b refl refl

  library_in_turn : (env : Env) (s : State) (b : SubprogramBody) → env.step ≡ typing → IfOk (library_body env s b).answer (InTurn s)
  library_in_turn env s b step =
      answered (InTurn s) b.specification.pos _
      (part_so (λ q. IsNumbered (fresh (at_unit s)) q × Add (at_unit s) q) (InTurn s) (specified (record env { is_library = false }) (at_unit s) b.specification).answer
      (λ q. body_judged (record env { is_library = false }) s b [] [] q >>= (λ next. rule (Some next)))
      (both_ok (IsNumbered (fresh (at_unit s))) (Add (at_unit s)) (specified (record env { is_library = false }) (at_unit s) b.specification).answer
      (specified_numbered (record env { is_library = false }) (at_unit s) b.specification)
      (specified_adds (record env { is_library = false }) (at_unit s) b.specification))
      (λ q h. part_so (Makes env.generic q.value s) (InTurn s) (body_judged (record env { is_library = false }) s b [] [] q).answer (λ next. rule (Some next))
      (judged_makes (record env { is_library = false }) step s b [] [] q (record { statements = h.0.statements; objects = h.0.objects })
      (adds_both s (at_unit s) q.next (adds_at_unit s) h.1))
      (λ next k. in_turn_made env.generic q.value s next k)))

  bodies_in_turn : (w : World) (s : State) (n : ℕ) (u : LibraryUnit) (i : LibraryItem) → IfOk (bodies_judged typing l w s n u i).answer (InTurn s)
  bodies_in_turn w s n u (library.PackageBody b) = body_of_in_turn w s n u b (unit_named l.names (key b.name))
  bodies_in_turn w s n u (library.Subprogram b) =
      library_in_turn (env_of typing w n (key b.specification.name) (seen_in w l u (routine_entity (interface_of w n)))) s b refl
  bodies_in_turn w s n u (library.Package x) = λ h. h
  bodies_in_turn w s n u (library.Instance i) = λ h. h

  pub all_bodies_in_turn : (w : World) (s : State) (n : ℕ) (us : List LibraryUnit) → IfOk (all_bodies_judged typing l w s n us).answer (InTurn s)
  all_bodies_in_turn w s n [] = λ h. h
  all_bodies_in_turn w s n (u ∷ us) =
      answered (InTurn s) nowhere _
      (part_so (InTurn s) (InTurn s) _ (λ x. all_bodies_judged typing l w x (n + 1) us >>= (λ rest. rule (Some rest)))
      (answered (InTurn s) u.pos _
      (part_so (InTurn s) (InTurn s) (bodies_judged typing l w s n u u.item).answer (λ y. rule (Some y)) (bodies_in_turn w s n u u.item) (λ y k. k)))
      (λ x k. part_so (InTurn x) (InTurn s) (all_bodies_judged typing l w x (n + 1) us).answer (λ rest. rule (Some rest))
      (all_bodies_in_turn w x (n + 1) us) (λ rest r before. r (k before))))
