-- Declarations of the library level take no word of a subprogram.
use Rattle.std.proofs.Common.{◌≡◌, Bool, true, false, if◌then◌else◌, List, [], ◌∷◌, Option, Some, None, option_map, IfSome, Result, IfOk, refl, ap, ◌∙◌}
use Rattle.std.proofs.lemmas.Bool.{false≢true}
use Rattle.cov_base.specs.declared.position.Pos.{Pos}
use Rattle.ada_syntax.specs.declared.declaration.Constancy.{Constancy}
use Rattle.ada_syntax.specs.declared.declaration.Declaration.{Declaration}
use Rattle.ada_syntax.specs.declared.declaration.DeclarationKind.{DeclarationKind}
use Rattle.ada_syntax.specs.declared.declaration.DeclarationKind.TheVariants as declares
use Rattle.ada_syntax.specs.declared.declaration.Initial.{Initial}
use Rattle.ada_syntax.specs.declared.name.Identifier.{Identifier}
use Rattle.ada_meaning.specs.Tree as tree
use Rattle.ada_rules.specs.Plan.{Plan, ◌>>=◌, rule}
use Rattle.ada_rules.specs.Types.{AdaSubtype}
use Rattle.ada_rules.specs.Entities.{key, raisable, Region, redefined}
use Rattle.ada_rules.specs.Environment.{typed_rule, State, Given, Env, with_local, owner_of, new_identity, one_type_more, hide, hide_all}
use Rattle.ada_rules.specs.Declarations.{LibraryValue, library_value, indicated, defined, new_value, Declared, may_be_bare, one_name, local_bare, local_set, library_declared, no_library_value, objects_declared, exception_declared, exceptions_from, type_declared, subtype_declared, kind_declared, declared}
use Rattle.legal_laws.specs.Kept.{OnlyStatics}
use Rattle.legal_laws.proofs.KeptStatics.{Behind, indicated_keeps, defined_keeps, library_value_keeps}
use Rattle.legal_laws.proofs.KnownObjects.{constant_keeps}
use Rattle.legal_laws.proofs.Passing.{IfPassed, answered, part_so, weaker_ok, typed_either, any_answer}

-- what takes no word
abbrev pub Keeps : State → State → Type 0
Keeps s t = t.words ≡ s.words

abbrev Keep : {A : Type 0} → State → Given A → Type 0
Keep s g = Keeps s g.next

abbrev pub KeepsOn : State → Declared → Type 0
KeepsOn s x = Keeps s x.next

keeps_statics : (s t : State) → OnlyStatics s t → Keeps s t
keeps_statics s t only = ap (λ x. x.words) only

statics_keep : {A : Type 0} (s : State) (r : Result (Given A) Pos) → IfOk r (λ g. Behind s g) → IfOk r (λ g. Keep s g)
statics_keep s r h = weaker_ok (λ g. Behind s g) (λ g. Keep s g) r h (λ x k. keeps_statics s x.next k)

-- declarations of the library level
at_library : {B : Type 0} (P : B → Type 0) (b : Bool) (o r : Plan B) → b ≡ true → IfPassed o.outcome P → IfPassed (if b then o else r).outcome P
at_library P true o r e h = h
at_library P false o r e h = absurd (false≢true e)

mapped_any : {A B : Type 0} (P : B → Type 0) (x : Option A) (y : B) → P y → IfSome (option_map (λ u. y) x) P
mapped_any P None y h = tt
mapped_any P (Some u) y h = h

exceptions_keep : (env : Env) (s : State) (region : Region) (is : List Identifier) → KeepsOn s (exceptions_from env s region is)
exceptions_keep env s region [] = refl
exceptions_keep env s region (i ∷ is) =
    exceptions_keep env (exception_declared env i s) (redefined (key i) (raisable (tree.declared (owner_of env) s.exceptions)) region) is

library_keeps : (env : Env) (c : Constancy) (region : Region) (is : List Identifier) (t : AdaSubtype) (v : LibraryValue) (s u : State) → Keeps s u
    → KeepsOn s (library_declared env c region is t v u)
library_keeps env c region is t v s u h = keeps_statics u _ (constant_keeps env c t (λ e. Some e) v.known u) ∙ h

module _ (env : Env) (library : env.is_library ≡ true) where
  objects_keep : (q : Pos) (c : Constancy) (region : Region) (is : List Identifier) (s : State) (t : Given AdaSubtype) (i : Option Initial) → Keeps s t.next
      → IfPassed (objects_declared env q c region is t i).outcome (KeepsOn s)
  objects_keep q c region is s t None h =
      let all = library_keeps env c region is t.value no_library_value s t.next h in
      at_library (KeepsOn s) env.is_library
      (typed_rule env.step (library_declared env c region is t.value no_library_value t.next)
      (option_map (λ u. library_declared env c region is t.value no_library_value t.next) (may_be_bare c)))
      (typed_rule env.step (local_bare c region is t) (option_map (λ u. local_bare c region is t) (may_be_bare c))) library
      (typed_either (KeepsOn s) env.step _ _ all (mapped_any (KeepsOn s) (may_be_bare c) _ all))
  objects_keep q c region is s t (Some i) h =
      at_library (KeepsOn s) env.is_library
      (library_value (with_local env region) t.next q t.value i >>= (λ v. typed_rule env.step (library_declared env c region is t.value v.value v.next)
      (option_map (λ u. library_declared env c region is t.value v.value v.next) (one_name is))))
      (new_value (with_local env region) t.next q t.value i >>= (λ v. typed_rule env.step (local_set env q c region is t.value v)
      (option_map (λ u. local_set env q c region is t.value v) (one_name is)))) library
      (part_so (Keep t.next) (KeepsOn s) (library_value (with_local env region) t.next q t.value i).answer
      (λ v. typed_rule env.step (library_declared env c region is t.value v.value v.next)
      (option_map (λ u. library_declared env c region is t.value v.value v.next) (one_name is)))
      (statics_keep t.next (library_value (with_local env region) t.next q t.value i).answer (library_value_keeps (with_local env region) t.next q t.value i))
      (λ v k. let all = library_keeps env c region is t.value v.value s v.next (k ∙ h) in
      typed_either (KeepsOn s) env.step _ _ all (mapped_any (KeepsOn s) (one_name is) _ all)))

  kind_keeps : (s : State) (q : Pos) (d : DeclarationKind) → IfPassed (kind_declared env s q d).outcome (KeepsOn s)
  kind_keeps s q (declares.Type i d) =
      part_so (λ x. Unit {0}) (KeepsOn s) (hide env.local i).answer
      (λ region. defined (with_local env region) (one_type_more s) q (new_identity env s) d >>= (λ x. rule (Some (type_declared env q i (new_identity env s) x))))
      (any_answer (hide env.local i).answer)
      (λ region u. part_so (Behind (one_type_more s)) (KeepsOn s) (defined (with_local env region) (one_type_more s) q (new_identity env s) d).answer
      (λ x. rule (Some (type_declared env q i (new_identity env s) x))) (defined_keeps (with_local env region) (one_type_more s) q (new_identity env s) d)
      (λ x h. ap (λ y. y.words) h))
  kind_keeps s q (declares.Subtype i t) =
      part_so (λ x. Unit {0}) (KeepsOn s) (hide env.local i).answer
      (λ region. indicated (with_local env region) (one_type_more s) t >>= (λ x. rule (Some (subtype_declared i region (new_identity env s) x))))
      (any_answer (hide env.local i).answer)
      (λ region u. part_so (Behind (one_type_more s)) (KeepsOn s) (indicated (with_local env region) (one_type_more s) t).answer
      (λ x. rule (Some (subtype_declared i region (new_identity env s) x))) (indicated_keeps (with_local env region) (one_type_more s) t)
      (λ x h. ap (λ y. y.words) h))
  kind_keeps s q (declares.Object is c t i) =
      part_so (λ x. Unit {0}) (KeepsOn s) (hide_all q env.local is).answer
      (λ region. indicated (with_local env region) s t >>= (λ x. objects_declared env q c region is x i)) (any_answer (hide_all q env.local is).answer)
      (λ region u. part_so (Keep s) (KeepsOn s) (indicated (with_local env region) s t).answer (λ x. objects_declared env q c region is x i)
      (statics_keep s (indicated (with_local env region) s t).answer (indicated_keeps (with_local env region) s t)) (λ x h. objects_keep q c region is s x i h))
  kind_keeps s q (declares.Exception is) =
      part_so (λ x. Unit {0}) (KeepsOn s) (hide_all q env.local is).answer (λ region. rule (Some (exceptions_from env s region is)))
      (any_answer (hide_all q env.local is).answer) (λ region u. exceptions_keep env s region is)
  kind_keeps s q (declares.Pragma a) = refl

  pub declared_keeps : (s : State) (d : Declaration) → IfOk (declared env s d).answer (KeepsOn s)
  declared_keeps s d = answered (KeepsOn s) d.pos (kind_declared env s d.pos d.kind).outcome (kind_keeps s d.pos d.kind)
