-- Calls of procedures.
use Rattle.std.proofs.Common.{◌≡◌, nat_eq, true, false, List, [], ◌∷◌, length, map, Option, Some, None, option_map, is_none, if◌then◌else◌, refl, sym, ap, ◌∙◌, arith}
use Rattle.std.proofs.lemmas.Bool.{ne_eqb}
use Rattle.std.proofs.lemmas.List.{length-map}
use Rattle.ada_meaning.specs.Tree as tree
use Rattle.ada_meaning.specs.Types.{Owner, here, of_instance}
use Rattle.ada_rules.specs.Entities as rules
use Rattle.ada_rules.specs.Denoted as names
use Rattle.ada_rules.specs.Denoted.{called_bare}
use Rattle.ada_rules.specs.Statements.{procedure_called, call_of, writable}
use Rattle.ada_entities.specs.declared.routines.Routine.{Routine}
use Rattle.ada_entities.specs.EntityViews.{Tables, no_routine, routine_by}
use Rattle.ada_entities.specs.RoutineViews.{result_of, routine_in}
use Rattle.ada_phrases.specs.Routines.{callee_by}
use Rattle.ada_phrases.specs.declared.names.Denoted.{Denoted}
use Rattle.ada_phrases.specs.declared.names.Denoted.TheVariants as denoted
use Rattle.ada_phrases.specs.DenotedView.{denotes}
use Rattle.ada_tree.specs.declared.label.Label.{Label}
use Rattle.ada_tree.specs.View.{label_of}
use Rattle.statement_parts.specs.Calls.{called_alone}

-- a procedure has no result, however it is seen
has_result : {A B : Type 0} (f : A → B) (o : Option A) → is_none (option_map f o) ≡ is_none o
has_result f None = refl
has_result f (Some x) = refl

seen_result : (k : Tables) (o : Owner) (r : rules.Routine) → is_none (routine_by k o r).result ≡ is_none r.result
seen_result k here r = refl
seen_result k (of_instance n) r = has_result _ r.result

seen_callee : (k : Tables) (o : Owner) (r : rules.Routine) → (routine_by k o r).callee ≡ callee_by o r.callee
seen_callee k here r = refl
seen_callee k (of_instance n) r = refl

pub procedure_is : (k : Tables) (l : tree.Label) (o : Owner) (r : Routine) (c : tree.Callee) (actuals : tree.Actuals) → is_none r.result ≡ true
    → c ≡ callee_by o (routine_in k r).callee → Some (tree.procedure_call l c actuals) ≡ procedure_called l (routine_by k o (routine_in k r)) actuals
procedure_is k l o r c actuals none is =
    ap (λ x. Some (tree.procedure_call l x actuals)) (is ∙ sym (seen_callee k o (routine_in k r)))
    ∙ sym (ap (λ b. if b then Some (tree.procedure_call l (routine_by k o (routine_in k r)).callee actuals) else None)
    (seen_result k o (routine_in k r) ∙ (has_result (result_of k.types) r.result ∙ none)))

pub function_is : (k : Tables) (l : tree.Label) (o : Owner) (r : Routine) (actuals : tree.Actuals) → is_none r.result ≡ false
    → None ≡ procedure_called l (routine_by k o (routine_in k r)) actuals
function_is k l o r actuals some =
    sym (ap (λ b. if b then Some (tree.procedure_call l (routine_by k o (routine_in k r)).callee actuals) else None)
    (seen_result k o (routine_in k r) ∙ (has_result (result_of k.types) r.result ∙ some)))

-- nor has a call without actuals parameters
mapped_length : {A B : Type 0} (f : A → B) (xs : List A) → nat_eq (length (map f xs)) 0 ≡ nat_eq (length xs) 0
mapped_length f xs = ap (λ n. nat_eq n 0) (length-map xs f)

seen_length : (k : Tables) (o : Owner) (r : rules.Routine) → nat_eq (length (routine_by k o r).parameters) 0 ≡ nat_eq (length r.parameters) 0
seen_length k here r = refl
seen_length k (of_instance n) r = mapped_length _ r.parameters

pub bare_is : {A : Type 0} (k : Tables) (o : Owner) (r : Routine) (x : Option A) → r.parameters ≡ [] → x ≡ called_bare (routine_by k o (routine_in k r)) x
bare_is k o r x none =
    sym (ap (λ b. if b then x else None)
    (seen_length k o (routine_in k r) ∙ (mapped_length _ r.parameters ∙ ap (λ qs. nat_eq (length qs) 0) none)))

filled : {A : Type 0} (xs : List A) → (xs ≡ [] → ⊥) → nat_eq (length xs) 0 ≡ false
filled [] h = absurd (h refl)
filled (x ∷ xs) h = ne_eqb (length (x ∷ xs)) 0 (λ e. omega (arith, e))

pub not_bare : {A : Type 0} (k : Tables) (o : Owner) (r : Routine) (x : Option A) → (r.parameters ≡ [] → ⊥) → None ≡ called_bare (routine_by k o (routine_in k r)) x
not_bare k o r x some =
    sym (ap (λ b. if b then x else None) (seen_length k o (routine_in k r) ∙ (mapped_length _ r.parameters ∙ filled r.parameters some)))

-- what names nothing is called as it stands
pub nobody_called : (k : Tables) (l : tree.Label) (o : Owner) (actuals : tree.Actuals)
    → Some (tree.procedure_call l tree.test_put actuals) ≡ procedure_called l (routine_by k o no_routine) actuals
nobody_called k l here actuals = refl
nobody_called k l (of_instance n) actuals = refl

pub nobody_alone : (k : Tables) (l : Label) (o : Owner)
    → Some (tree.procedure_call (label_of l) tree.test_put tree.no_actual) ≡ called_alone l (routine_by k o no_routine)
nobody_alone k l here = refl
nobody_alone k l (of_instance n) = refl

-- the subprogram that a name calls, where it calls one
abbrev pub routine_called : names.Denoted → rules.Routine
routine_called (names.a_routine r) = r
routine_called (names.a_call r actuals) = r
routine_called d = no_routine

-- what is no call
pub other_call : (k : Tables) (l : tree.Label) (d : Denoted) → ((r : _) → d ≡ denoted.Routine r → ⊥) → ((r : _) (actuals : _) → d ≡ denoted.Call r actuals → ⊥)
    → None ≡ call_of l (denotes k d)
other_call k l (denoted.Mark i t) a b = refl
other_call k l (denoted.Value x) a b = refl
other_call k l (denoted.Variable v) a b = refl
other_call k l (denoted.Routine r) a b = absurd (a r refl)
other_call k l (denoted.Call r actuals) a b = absurd (b r actuals refl)
other_call k l (denoted.Exception e) a b = refl
other_call k l (denoted.Unit n) a b = refl
other_call k l denoted.TestIo a b = refl
other_call k l denoted.Thing a b = refl

-- what is no variable
pub other_target : (k : Tables) (d : Denoted) → ((v : _) → d ≡ denoted.Variable v → ⊥) → None ≡ writable (denotes k d)
other_target k (denoted.Mark i t) a = refl
other_target k (denoted.Value x) a = refl
other_target k (denoted.Variable v) a = absurd (a v refl)
other_target k (denoted.Routine r) a = refl
other_target k (denoted.Call r actuals) a = refl
other_target k (denoted.Exception e) a = refl
other_target k (denoted.Unit n) a = refl
other_target k denoted.TestIo a = refl
other_target k denoted.Thing a = refl
