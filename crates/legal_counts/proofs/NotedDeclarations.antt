-- What declarations note of the objects of the library level: each that is declared has its words noted.
use Rattle.std.proofs.Common.{◌≡◌, ℕ, ◌+◌, Bool, true, false, if◌then◌else◌, List, [], ◌∷◌, ◌++◌, map, Option, Some, None, option_map, IfSome, Result, IfOk, refl, sym, ap, ◌∙◌, subst}
use Rattle.std.proofs.lemmas.Bool.{false≢true}
use Rattle.cov_base.specs.declared.position.Pos.{Pos}
use Rattle.ada_syntax.specs.declared.declaration.Constancy.{Constancy}
use Rattle.ada_syntax.specs.declared.declaration.Declaration.{Declaration}
use Rattle.ada_syntax.specs.declared.declaration.DeclarationKind.{DeclarationKind}
use Rattle.ada_syntax.specs.declared.declaration.DeclarationKind.TheVariants as declares
use Rattle.ada_syntax.specs.declared.declaration.Initial.{Initial}
use Rattle.ada_syntax.specs.declared.name.Identifier.{Identifier}
use Rattle.ada_meaning.specs.Program.{LibraryObject}
use Rattle.ada_meaning.specs.Program as program
use Rattle.ada_meaning.specs.Tree as tree
use Rattle.ada_meaning.specs.Types.{Subtype}
use Rattle.ada_rules.specs.Plan.{Plan, ◌>>=◌, rule}
use Rattle.ada_rules.specs.Types.{AdaSubtype, subtype_in_tree}
use Rattle.ada_rules.specs.Entities.{key, raisable, Region, redefined}
use Rattle.ada_rules.specs.Environment.{typed_rule, UnitWords, State, Given, Env, with_local, owner_of, new_identity, one_type_more, hide, hide_all}
use Rattle.ada_rules.specs.Declarations.{LibraryValue, library_value, indicated, defined, NewValue, new_value, Declared, may_be_bare, one_name, known_constant, lying_in, local_bare, local_set, library_objects, library_words, library_declared, no_library_value, objects_declared, exception_declared, exceptions_from, type_declared, subtype_declared, kind_declared, declared, all_declared}
use Rattle.legal_laws.specs.Kept.{OnlyStatics}
use Rattle.legal_laws.proofs.KeptStatics.{Behind, indicated_keeps, defined_keeps, new_value_keeps, library_value_keeps}
use Rattle.legal_laws.proofs.KnownObjects.{constant_keeps}
use Rattle.legal_laws.proofs.Passing.{IfPassed, answered, part_so, weaker_ok, typed_either, any_answer}
use Rattle.legal_counts.specs.LibraryWords.{Standing, standing, all_standing}

-- The objects that were declared, the latest first: those whose words this unit has, in the text of this generic or in
-- none, and behind them those of the units that came before, of which these words are noted.
pub record AreNoted (g : Option ℕ) (behind : List Standing) (noted : List UnitWords) (os : List LibraryObject) (ws : List Subtype) (us : List UnitWords) : Type 0 where
  pub objects : map standing os ≡ (all_standing g ws ++ behind)
  pub units : us ≡ noted

abbrev pub IsNoted : Option ℕ → List Standing → List UnitWords → State → Type 0
IsNoted g behind noted s = AreNoted g behind noted s.objects_declared s.library_words s.unit_words

-- where declarations stand: in a subprogram, or at the library level, there in the text of a generic or in none
abbrev pub Place : Type 0
Place = Option (Option ℕ)

abbrev pub place_of : Env → Place
place_of env = if env.is_library then Some env.generic else None

abbrev pub Fits : Place → Option ℕ → Type 0
Fits None g = Unit {0}
Fits (Some h) g = h ≡ g

-- Between two states, whatever came before; and what does not stand at the library level leaves the words of the unit as
-- they were.
abbrev pub Notes : Place → State → State → Type 0
Notes place s t =
    ((g : Option ℕ) → Fits place g → (behind : List Standing) (noted : List UnitWords) → IsNoted g behind noted s → IsNoted g behind noted t)
    × (place ≡ None → t.library_words ≡ s.library_words)

abbrev pub Note : {A : Type 0} → Place → State → Given A → Type 0
Note place s g = Notes place s g.next

abbrev pub NotesOn : Place → State → Declared → Type 0
NotesOn place s x = Notes place s x.next

pub notes_same : (place : Place) (s : State) → Notes place s s
notes_same place s = (λ g fits behind noted h. h, λ e. refl)

pub notes_both : (place : Place) (s t u : State) → Notes place s t → Notes place t u → Notes place s u
notes_both place s t u h k = (λ g fits behind noted n. k.0 g fits behind noted (h.0 g fits behind noted n), λ e. k.1 e ∙ h.1 e)

pub notes_inside : (place : Place) (s t : State) → Notes None s t → Notes place s t
notes_inside place s t h = (λ g fits. h.0 g tt, λ e. h.1 refl)

pub notes_statics : (place : Place) (s t : State) → OnlyStatics s t → Notes place s t
notes_statics place s t only = (λ g fits behind noted h. subst (λ u. IsNoted g behind noted u) (sym only) h, λ e. ap (λ x. x.library_words) only)

pub statics_note : {A : Type 0} (place : Place) (s : State) (r : Result (Given A) Pos) → IfOk r (λ g. Behind s g) → IfOk r (λ g. Note place s g)
statics_note place s r h = weaker_ok (λ g. Behind s g) (λ g. Note place s g) r h (λ x k. notes_statics place s x.next k)

-- what is declared at the library level stands in the text of its generic
fits_there : (b : Bool) (h g : Option ℕ) → b ≡ true → Fits (if b then Some h else None) g → h ≡ g
fits_there true h g e fits = fits
fits_there false h g e fits = absurd (false≢true e)

library_place : (b : Bool) (h : Option ℕ) → b ≡ true → (if b then Some h else None) ≡ None → ⊥
library_place true h e f = cc
library_place false h e f = false≢true e

either_place : {B : Type 0} (P : B → Type 0) (b : Bool) (x y : Plan B) → (b ≡ true → IfPassed x.outcome P) → IfPassed y.outcome P → IfPassed (if b then x else y).outcome P
either_place P true x y h k = h refl
either_place P false x y h k = k

mapped_any : {A B : Type 0} (P : B → Type 0) (x : Option A) (y : B) → P y → IfSome (option_map (λ u. y) x) P
mapped_any P None y h = tt
mapped_any P (Some u) y h = h

-- objects of the library level
more_noted : (env : Env) (g : Option ℕ) → env.generic ≡ g → (t : AdaSubtype) (v : program.Initial) (n : ℕ) (is : List Identifier) (os : List LibraryObject)
    (ws : List Subtype) (behind : List Standing) (noted us : List UnitWords) → AreNoted g behind noted os ws us
    → AreNoted g behind noted (library_objects env t v n is os) (library_words t is ws) us
more_noted env g there t v n [] os ws behind noted us h = h
more_noted env g there t v n (i ∷ is) os ws behind noted us h =
    more_noted env g there t v (n + 1) is _ _ behind noted us
    (record { objects = λ k. (there k, subtype_in_tree t) ∷ h.objects k; units = h.units })

library_notes : (env : Env) (c : Constancy) (region : Region) (is : List Identifier) (t : AdaSubtype) (v : LibraryValue) (s : State)
    → env.is_library ≡ true → NotesOn (place_of env) s (library_declared env c region is t v s)
library_notes env c region is t v s library =
    let k = known_constant env c t (λ e. Some e) v.known s in (
      λ g fits behind noted h. more_noted env g (fits_there env.is_library env.generic g library fits) t v.initial k.next.library_objects is k.next.objects_declared
          k.next.library_words behind noted k.next.unit_words
          ((notes_statics (place_of env) s k.next (constant_keeps env c t (λ e. Some e) v.known s)).0 g fits behind noted h),
      λ e. absurd (library_place env.is_library env.generic library e),
    )

set_notes : (env : Env) (q : Pos) (c : Constancy) (region : Region) (is : List Identifier) (t : AdaSubtype) (v : Given NewValue) (s : State)
    → Notes (place_of env) s v.next → NotesOn (place_of env) s (local_set env q c region is t v)
set_notes env q c region is t v s h =
    let k = known_constant env c t (lying_in env t) v.value.known v.next in
    notes_both (place_of env) s v.next k.next h (notes_statics (place_of env) v.next k.next (constant_keeps env c t (lying_in env t) v.value.known v.next))

exceptions_note : (env : Env) (s : State) (region : Region) (is : List Identifier) → NotesOn (place_of env) s (exceptions_from env s region is)
exceptions_note env s region [] = notes_same (place_of env) s
exceptions_note env s region (i ∷ is) =
    exceptions_note env (exception_declared env i s) (redefined (key i) (raisable (tree.declared (owner_of env) s.exceptions)) region) is

module _ (env : Env) where
  objects_note : (q : Pos) (c : Constancy) (region : Region) (is : List Identifier) (s : State) (t : Given AdaSubtype) (i : Option Initial) → Notes (place_of env) s t.next
      → IfPassed (objects_declared env q c region is t i).outcome (NotesOn (place_of env) s)
  objects_note q c region is s t None h =
      either_place (NotesOn (place_of env) s) env.is_library
      (typed_rule env.step (library_declared env c region is t.value no_library_value t.next)
      (option_map (λ u. library_declared env c region is t.value no_library_value t.next) (may_be_bare c)))
      (typed_rule env.step (local_bare c region is t) (option_map (λ u. local_bare c region is t) (may_be_bare c)))
      (λ e. let all = notes_both (place_of env) s t.next (library_declared env c region is t.value no_library_value t.next).next h (library_notes env c region is t.value no_library_value t.next e) in
      typed_either (NotesOn (place_of env) s) env.step _ _ all (mapped_any (NotesOn (place_of env) s) (may_be_bare c) _ all))
      (typed_either (NotesOn (place_of env) s) env.step _ _ h (mapped_any (NotesOn (place_of env) s) (may_be_bare c) _ h))
  objects_note q c region is s t (Some i) h =
      either_place (NotesOn (place_of env) s) env.is_library
      (library_value (with_local env region) t.next q t.value i >>= (λ v. typed_rule env.step (library_declared env c region is t.value v.value v.next)
      (option_map (λ u. library_declared env c region is t.value v.value v.next) (one_name is))))
      (new_value (with_local env region) t.next q t.value i >>= (λ v. typed_rule env.step (local_set env q c region is t.value v)
      (option_map (λ u. local_set env q c region is t.value v) (one_name is))))
      (λ e. part_so (Note (place_of env) t.next) (NotesOn (place_of env) s) (library_value (with_local env region) t.next q t.value i).answer
      (λ v. typed_rule env.step (library_declared env c region is t.value v.value v.next)
      (option_map (λ u. library_declared env c region is t.value v.value v.next) (one_name is)))
      (statics_note (place_of env) t.next (library_value (with_local env region) t.next q t.value i).answer (library_value_keeps (with_local env region) t.next q t.value i))
      (λ v k. let after = (library_declared env c region is t.value v.value v.next).next in
      let all = notes_both (place_of env) s t.next after h (notes_both (place_of env) t.next v.next after k (library_notes env c region is t.value v.value v.next e)) in
      typed_either (NotesOn (place_of env) s) env.step _ _ all (mapped_any (NotesOn (place_of env) s) (one_name is) _ all)))
      (part_so (Note (place_of env) t.next) (NotesOn (place_of env) s) (new_value (with_local env region) t.next q t.value i).answer
      (λ v. typed_rule env.step (local_set env q c region is t.value v) (option_map (λ u. local_set env q c region is t.value v) (one_name is)))
      (statics_note (place_of env) t.next (new_value (with_local env region) t.next q t.value i).answer (new_value_keeps (with_local env region) t.next q t.value i))
      (λ v k. let all = set_notes env q c region is t.value v s (notes_both (place_of env) s t.next v.next h k) in
      typed_either (NotesOn (place_of env) s) env.step _ _ all (mapped_any (NotesOn (place_of env) s) (one_name is) _ all)))

  kind_notes : (s : State) (q : Pos) (d : DeclarationKind) → IfPassed (kind_declared env s q d).outcome (NotesOn (place_of env) s)
  kind_notes s q (declares.Type i d) =
      part_so (λ x. Unit {0}) (NotesOn (place_of env) s) (hide env.local i).answer
      (λ region. defined (with_local env region) (one_type_more s) q (new_identity env s) d >>= (λ x. rule (Some (type_declared env q i (new_identity env s) x))))
      (any_answer (hide env.local i).answer)
      (λ region u. part_so (Behind (one_type_more s)) (NotesOn (place_of env) s) (defined (with_local env region) (one_type_more s) q (new_identity env s) d).answer
      (λ x. rule (Some (type_declared env q i (new_identity env s) x))) (defined_keeps (with_local env region) (one_type_more s) q (new_identity env s) d)
      (λ x h. notes_statics (place_of env) (one_type_more s) x.next h))
  kind_notes s q (declares.Subtype i t) =
      part_so (λ x. Unit {0}) (NotesOn (place_of env) s) (hide env.local i).answer
      (λ region. indicated (with_local env region) (one_type_more s) t >>= (λ x. rule (Some (subtype_declared i region (new_identity env s) x))))
      (any_answer (hide env.local i).answer)
      (λ region u. part_so (Behind (one_type_more s)) (NotesOn (place_of env) s) (indicated (with_local env region) (one_type_more s) t).answer
      (λ x. rule (Some (subtype_declared i region (new_identity env s) x))) (indicated_keeps (with_local env region) (one_type_more s) t)
      (λ x h. notes_statics (place_of env) (one_type_more s) x.next h))
  kind_notes s q (declares.Object is c t i) =
      part_so (λ x. Unit {0}) (NotesOn (place_of env) s) (hide_all q env.local is).answer
      (λ region. indicated (with_local env region) s t >>= (λ x. objects_declared env q c region is x i)) (any_answer (hide_all q env.local is).answer)
      (λ region u. part_so (Note (place_of env) s) (NotesOn (place_of env) s) (indicated (with_local env region) s t).answer (λ x. objects_declared env q c region is x i)
      (statics_note (place_of env) s (indicated (with_local env region) s t).answer (indicated_keeps (with_local env region) s t)) (λ x h. objects_note q c region is s x i h))
  kind_notes s q (declares.Exception is) =
      part_so (λ x. Unit {0}) (NotesOn (place_of env) s) (hide_all q env.local is).answer (λ region. rule (Some (exceptions_from env s region is)))
      (any_answer (hide_all q env.local is).answer) (λ region u. exceptions_note env s region is)
  kind_notes s q (declares.Pragma a) = notes_same (place_of env) s

  pub declaration_notes : (s : State) (d : Declaration) → IfOk (declared env s d).answer (NotesOn (place_of env) s)
  declaration_notes s d = answered (NotesOn (place_of env) s) d.pos (kind_declared env s d.pos d.kind).outcome (kind_notes s d.pos d.kind)

pub declarations_note : (env : Env) (s : State) (q : Pos) (ds : List Declaration) → IfOk (all_declared env s q ds).answer (NotesOn (place_of env) s)
declarations_note env s q [] = notes_same (place_of env) s
declarations_note env s q (d ∷ ds) =
    answered (NotesOn (place_of env) s) q _
    (part_so (NotesOn (place_of env) s) (NotesOn (place_of env) s) (declared env s d).answer
    (λ x. all_declared (with_local env x.region) x.next q ds >>= (λ xs. rule (Some (record { region = xs.region; next = xs.next; made = x.made ++ xs.made }))))
    (declaration_notes env s d)
    (λ x h. part_so (NotesOn (place_of env) x.next) (NotesOn (place_of env) s) (all_declared (with_local env x.region) x.next q ds).answer
    (λ xs. rule (Some (record { region = xs.region; next = xs.next; made = x.made ++ xs.made })))
    (declarations_note (with_local env x.region) x.next q ds)
    (λ xs k. notes_both (place_of env) s x.next xs.next h k)))
