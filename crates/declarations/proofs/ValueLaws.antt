-- Objects with and without an initial value, of the rules' definitions.
use Rattle.std.proofs.Common.{◌≡◌, Bool, true, false, if◌then◌else◌, List, Option, None, Some, option_map, Result, Ok, Err, IfOk, OnOk, ap, subst, ◌∙◌}
use Rattle.cov_base.specs.declared.position.Pos.{Pos}
use Rattle.cov_base.specs.declared.failure.Failure.{Failure}
use Rattle.ada_meaning.specs.Types.{Static}
use Rattle.ada_syntax.specs.declared.declaration.Constancy.{Constancy}
use Rattle.ada_syntax.specs.declared.declaration.Initial.{Initial}
use Rattle.ada_syntax.specs.declared.name.Identifier.{Identifier}
use Rattle.ada_rules.specs.Plan.{Plan, answer_at}
use Rattle.ada_rules.specs.Types.{AdaSubtype}
use Rattle.ada_rules.specs.Entities.{Region}
use Rattle.ada_rules.specs.Environment.{Step, typed_rule, State, Given, given, Env, with_local}
use Rattle.ada_rules.specs.Declarations.{NewValue, new_value, LibraryValue, library_value, no_library_value, Declared, may_be_bare, one_name, known_constant, lying_in, local_bare, local_known, local_set, library_known, library_declared, objects_declared}
use Rattle.ada_entities.specs.declared.fault.Refusal.{Refusal}
use Rattle.ada_entities.specs.Answers.{Refuses, Answers}
use Rattle.ada_phrases.proofs.Parts.{passes_on, in_part}
use Rattle.declarations.specs.Setting.{setting_library, setting_locals}

-- a rule on types of a declaration
abbrev pub ruled_as : Step → Pos → Declared → Option Unit → Result Declared Pos
ruled_as st p d o = answer_at p (typed_rule st d (option_map (λ u. d) o)).outcome

abbrev pub at_level : Step → Pos → (library local : Declared) → Option Unit → Bool → Result Declared Pos
at_level st p library local o b =
    answer_at p (if b then typed_rule st library (option_map (λ u. library) o) else typed_rule st local (option_map (λ u. local) o)).outcome

module _ (env : Env) (p : Pos) (c : Constancy) (region : Region) (is : List Identifier) (t : Given AdaSubtype) where
  pub bare_at_library : (st : Step) → env.step ≡ st → env.is_library ≡ true
      → answer_at p (objects_declared env p c region is t None).outcome
      ≡ ruled_as st p (library_declared env c region is t.value no_library_value t.next) (may_be_bare c)
  bare_at_library st h e =
      λ z. at_level (h z) p (library_declared env c region is t.value no_library_value t.next) (local_bare c region is t) (may_be_bare c) (e z)

  pub bare_inside : (st : Step) → env.step ≡ st → env.is_library ≡ false
      → answer_at p (objects_declared env p c region is t None).outcome ≡ ruled_as st p (local_bare c region is t) (may_be_bare c)
  bare_inside st h e =
      λ z. at_level (h z) p (library_declared env c region is t.value no_library_value t.next) (local_bare c region is t) (may_be_bare c) (e z)

  abbrev setting_at : Initial → Bool → Plan Declared
  setting_at i b = if b then setting_library env p c t.value region is i t.next else setting_locals env p c t.value region is i t.next

  pub set_at_library : (i : Initial) → env.is_library ≡ true
      → answer_at p (objects_declared env p c region is t (Some i)).outcome ≡ answer_at p (setting_library env p c t.value region is i t.next).outcome
  set_at_library i e = ap (λ b. answer_at p (setting_at i b).outcome) e

  pub set_inside : (i : Initial) → env.is_library ≡ false
      → answer_at p (objects_declared env p c region is t (Some i)).outcome ≡ answer_at p (setting_locals env p c t.value region is i t.next).outcome
  set_inside i e = ap (λ b. answer_at p (setting_at i b).outcome) e

module _ (env : Env) (p : Pos) (c : Constancy) (t : AdaSubtype) (region : Region) (is : List Identifier) (i : Initial) (s : State) where
  abbrev then_library : Step → Given LibraryValue → Plan Declared
  then_library st v =
      typed_rule st (library_declared env c region is t v.value v.next) (option_map (λ u. library_declared env c region is t v.value v.next) (one_name is))

  pub library_refused : (f : Failure Refusal) → Refuses (library_value (with_local env region) s p t i).answer f
      → Refuses (answer_at p (setting_library env p c t region is i s).outcome) f
  library_refused f h = in_part p (library_value (with_local env region) s p t i).answer (then_library env.step) f h

  pub library_passes : (v : Given LibraryValue) (st : Step) → (library_value (with_local env region) s p t i).answer ≡ Ok v → env.step ≡ st
      → answer_at p (setting_library env p c t region is i s).outcome ≡ ruled_as st p (library_declared env c region is t v.value v.next) (one_name is)
  library_passes v st h e =
      passes_on p (library_value (with_local env region) s p t i).answer (then_library env.step) v h ∙ ap (λ x. answer_at p (then_library x v).outcome) e

  abbrev then_locals : Step → Given NewValue → Plan Declared
  then_locals st v = typed_rule st (local_set env p c region is t v) (option_map (λ u. local_set env p c region is t v) (one_name is))

  pub locals_refused : (f : Failure Refusal) → Refuses (new_value (with_local env region) s p t i).answer f
      → Refuses (answer_at p (setting_locals env p c t region is i s).outcome) f
  locals_refused f h = in_part p (new_value (with_local env region) s p t i).answer (then_locals env.step) f h

  pub locals_pass : (v : Given NewValue) (st : Step) → (new_value (with_local env region) s p t i).answer ≡ Ok v → env.step ≡ st
      → answer_at p (setting_locals env p c t region is i s).outcome ≡ ruled_as st p (local_set env p c region is t v) (one_name is)
  locals_pass v st h e =
      passes_on p (new_value (with_local env region) s p t i).answer (then_locals env.step) v h ∙ ap (λ x. answer_at p (then_locals x v).outcome) e

-- what is known of the objects
pub set_known : (env : Env) (p : Pos) (c : Constancy) (region : Region) (is : List Identifier) (t : AdaSubtype) (v : Given NewValue) (o : Option Static) (n : State)
    → known_constant env c t (lying_in env t) v.value.known v.next ≡ given o n
    → local_set env p c region is t v ≡ local_known p c region is t v.value.value (given o n)
set_known env p c region is t v o n h = ap (local_known p c region is t v.value.value) h

pub declared_known : (env : Env) (c : Constancy) (region : Region) (is : List Identifier) (t : AdaSubtype) (v : LibraryValue) (s : State) (o : Option Static) (n : State)
    → known_constant env c t (λ e. Some e) v.known s ≡ given o n
    → library_declared env c region is t v s ≡ library_known env c region is t v.initial (given o n)
declared_known env c region is t v s o n h = ap (library_known env c region is t v.initial) h

-- where the rule is broken at either level, and where it is met
pub broken_at : (st : Step) (p : Pos) (library local : Declared) (o : Option Unit) (f : Failure Refusal)
    → ((d : Declared) → Refuses (ruled_as st p d o) f) → (b : Bool) → Refuses (at_level st p library local o b) f
broken_at st p library local o f h true = h library
broken_at st p library local o f h false = h local

-- what is ensured of a result that came, and where one came
pub when_ok : {A E : Type 0} (P : A → Type 0) (r : Result A E) (x : A) → r ≡ Ok x → IfOk r P → P x
when_ok P r x is h = subst (λ y. IfOk y P) is h

pub when_passed : {A E P : Type 0} (r : Result A E) (x : A) → r ≡ Ok x → OnOk r P → P
when_passed {A} {E} {P} r x is h = subst (λ y. OnOk y P) is h

-- what a rule comes to that refused, and one that passed
module _ {A B : Type 0} (view : A → B) (x : Result B Pos) (r : Result A (Failure Refusal)) where
  pub rule_refuses : (f : Failure Refusal) → r ≡ Err f → Answers view x r → Refuses x f
  rule_refuses f is h = subst (λ y. Answers view x y) is h

  pub rule_passes : (a : A) → r ≡ Ok a → Answers view x r → x ≡ Ok (view a)
  rule_passes a is h = subst (λ y. Answers view x y) is h
