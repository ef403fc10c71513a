-- The generic and the actuals of an instance, and what is made of them.
use Rattle.std.proofs.Common.{◌≡◌, ℕ, List, [], ◌∷◌, map, reverse, set, Option, None, Some, option_map, unwrap_or, Result, Ok, Err, refl, sym, ap, ◌∙◌, subst}
use Rattle.std.proofs.lemmas.List.{reverse-reverse}
use Rattle.std.specs.Borrow.{Bor}
use Rattle.std.specs.Option.{option_copied}
use Rattle.cov_base.specs.declared.position.Pos.{Pos}
use Rattle.cov_base.specs.declared.failure.Failure.{Failure}
use Rattle.ada_syntax.specs.declared.unit.Instance.{Instance}
use Rattle.ada_tree.specs.declared.program.Instance.{Instance as TypedInstance}
use Rattle.ada_tree.specs.Programs.{instance_of, constant_of}
use Rattle.ada_rules.specs.Plan.{Judgement, ◌>>=◌, outcome_after, rule, answer_at}
use Rattle.ada_rules.specs.Statics.{Facts}
use Rattle.ada_rules.specs.Entities.{Actual, Region}
use Rattle.ada_rules.specs.Environment.{Interface, no_interface, package_interface, generic_interface, instance_interface, subprogram_interface, World, interface_of, State, Given, given, Env}
use Rattle.ada_rules.specs.Instances.{generic_named, formals_of_interface, formals_of, actuals_judged, instance_made, facts_made}
use Rattle.ada_rules.specs.Units.{at_unit, facts_set, instance_judged, with_instance}
use Rattle.ada_entities.specs.declared.entity.Entity.{Entity}
use Rattle.ada_entities.specs.declared.fault.Refusal.{Refusal}
use Rattle.ada_entities.specs.Answers.{Refuses}
use Rattle.ada_entities.specs.EntityViews.{Tables, region_of}
use Rattle.ada_phrases.specs.Answers.{counted}
use Rattle.ada_phrases.proofs.Parts.{passes_on, in_part, refused_as}
use Rattle.ada_demands.specs.declared.statics.Statics.{Statics}
use Rattle.ada_demands.specs.StaticsViews.{noted}
use Rattle.program_walk.specs.Generics.{formals_shown}
use Rattle.specifications.specs.Passing.{formals_seen}
use Rattle.program_walk.specs.declared.found.Found.{Found}
use Rattle.program_walk.specs.declared.walk.Walk.{Walk}
use Rattle.program_walk.specs.Finding.{FindsInstance}
use Rattle.program_walk.specs.States.{with_counts, with_found, state_of}
use Rattle.ada_rules.specs.Environment.{beginning_state}
use Rattle.unit_walk.specs.Instantiating.{instance_part, judged_from, with_made, NotesMade, behind_instance}

-- formals, where there may be no generic
seen_or_none : (k : Tables) (o : Option (Bor (List (List ℕ × Entity))))
    → formals_seen k o ≡ unwrap_or (option_map (region_of k) (option_copied o)) []
seen_or_none k None = refl
seen_or_none k (Some r) = refl

shown_or_none : (i : Interface) → unwrap_or (formals_shown i) [] ≡ formals_of_interface i
shown_or_none no_interface = refl
shown_or_none (package_interface r) = refl
shown_or_none (generic_interface formals r) = refl
shown_or_none (instance_interface g n xs) = refl
shown_or_none (subprogram_interface r) = refl

pub formals_are : (k : Tables) (w : World) (n : ℕ) (o : Option (Bor (List (List ℕ × Entity))))
    → option_map (region_of k) (option_copied o) ≡ formals_shown (interface_of w n) → formals_seen k o ≡ formals_of w (Some n)
formals_are k w n o e = seen_or_none k o ∙ (ap (λ (x : Option Region). unwrap_or x []) e ∙ shown_or_none (interface_of w n))

-- the parts of an instance: it passes with them, or is refused with one of them
module _ (env : Env) (s : State) (p : Pos) (n : ℕ) (i : Instance) where
  abbrev with_actuals : Option ℕ → Judgement (Given (List Actual))
  with_actuals g = actuals_judged env s p n [] (formals_of env.world g) i.actuals

  pub generic_refused : (f : Failure Refusal) → Refuses (generic_named env i.generic_name).answer f
      → Refuses (instance_part env s p n i).answer f
  generic_refused f h =
      in_part p (generic_named env i.generic_name).answer (λ g. with_actuals g >>= (λ a. rule (Some (given (g, a.value) a.next)))) f h

  generic_passes : (g : Option ℕ) → (generic_named env i.generic_name).answer ≡ Ok g → (instance_part env s p n i).answer
      ≡ answer_at p (outcome_after (with_actuals g).answer (λ a. rule (Some (given (g, a.value) a.next))))
  generic_passes g h =
      passes_on p (generic_named env i.generic_name).answer (λ g. with_actuals g >>= (λ a. rule (Some (given (g, a.value) a.next)))) g h

  pub actuals_refused : (g : Option ℕ) (r : Region) (f : Failure Refusal) → (generic_named env i.generic_name).answer ≡ Ok g
      → r ≡ formals_of env.world g → Refuses (actuals_judged env s p n [] r i.actuals).answer f
      → Refuses (instance_part env s p n i).answer f
  actuals_refused g r f h e refused =
      refused_as (instance_part env s p n i).answer _ f (generic_passes g h)
      (in_part p (with_actuals g).answer (λ a. rule (Some (given (g, a.value) a.next))) f
      (subst (λ x. Refuses (actuals_judged env s p n [] x i.actuals).answer f) e refused))

  pub instance_passes : (g : Option ℕ) (r : Region) (a : Given (List Actual)) → (generic_named env i.generic_name).answer ≡ Ok g
      → r ≡ formals_of env.world g → (actuals_judged env s p n [] r i.actuals).answer ≡ Ok a
      → (instance_part env s p n i).answer ≡ Ok (given (g, a.value) a.next)
  instance_passes g r a h e passes =
      generic_passes g h
      ∙ passes_on p (with_actuals g).answer (λ a. rule (Some (given (g, a.value) a.next))) a
      (subst (λ x. (actuals_judged env s p n [] x i.actuals).answer ≡ Ok a) e passes)

-- what the rules make of an instance
module _ (w : World) (p : Pos) (n k : ℕ) (i : Instance) where
  behind_actuals : (g : Option ℕ) (r : Result (Given (List Actual)) Pos)
      → answer_at p (outcome_after r (λ a. rule (Some (with_instance w p n k i g a.value a.next))))
      ≡ judged_from w p n k i (answer_at p (outcome_after r (λ a. rule (Some (given (g, a.value) a.next)))))
  behind_actuals g (Ok a) = refl
  behind_actuals g (Err q) = refl

  behind_generic : (r : Result (Option ℕ) Pos) (f : Option ℕ → Judgement (Given (List Actual)))
      → answer_at p (outcome_after r (λ g. f g >>= (λ a. rule (Some (with_instance w p n k i g a.value a.next)))))
      ≡ judged_from w p n k i (answer_at p (outcome_after r (λ g. f g >>= (λ a. rule (Some (given (g, a.value) a.next))))))
  behind_generic (Ok g) f = behind_actuals g (f g).answer
  behind_generic (Err q) f = refl

pub judged : (env : Env) (s : State) (p : Pos) (n k : ℕ) (i : Instance)
    → (instance_judged env s p n k i).answer ≡ judged_from env.world p n k i (instance_part env (at_unit s) p k i).answer
judged env s p n k i =
    behind_generic env.world p n k i (generic_named env i.generic_name).answer
    (λ g. actuals_judged env (at_unit s) p k [] (formals_of env.world g) i.actuals)

-- what is known of an instance, and what the typed program has
module _ (k : Tables) (w : World) (n number : ℕ) (p : Pos) (i : Instance) (g : Option ℕ) (xs : List Actual) (old : Walk) where
  facts_after : (facts : Facts) (before after : List Facts) → w.instances ≡ before → facts ≡ facts_made w g xs
      → after ≡ facts_set before number facts (map constant_of old.notes.statics.constants)
      → facts_set w.instances number (facts_made w g xs) (reverse (state_of k old).constants_declared) ≡ after
  facts_after facts before after same made set_now =
      let cs = map constant_of old.notes.statics.constants in
      ap (λ fs. facts_set fs number (facts_made w g xs) (reverse (reverse cs))) same
      ∙ (ap (λ f. facts_set before number f (reverse (reverse cs))) (sym made)
      ∙ (ap (facts_set before number facts) (reverse-reverse cs) ∙ sym set_now))

  state_after : (found : Found) (statics : Statics) (made : TypedInstance) → instance_of made ≡ instance_made w p i g xs
      → FindsInstance old.found found made → NotesMade old.notes.statics g number statics
      → (with_instance w p n number i g xs (state_of k old)).next
      ≡ state_of k (record old { notes = record old.notes { statics = statics }; found = found })
  state_after found statics made typed finds notes =
      let kept = with_counts old.counts beginning_state in
      let in_state : State → State = λ s. counted old.notes.decisions (with_made g number (noted k old.notes.statics s)) in
      ap (λ m. in_state (record (with_found k old.found kept) { instances_declared = m ∷ (with_found k old.found kept).instances_declared }))
      (sym typed)
      ∙ (ap in_state (sym (finds k kept))
      ∙ ap (counted old.notes.decisions) (sym (notes k (with_found k found kept))))

  pub instance_is_made : (facts : Facts) (before after : List Facts) (found : Found) (statics : Statics) (made : TypedInstance)
      → w.instances ≡ before → facts ≡ facts_made w g xs
      → after ≡ facts_set before number facts (map constant_of old.notes.statics.constants)
      → instance_of made ≡ instance_made w p i g xs → FindsInstance old.found found made → NotesMade old.notes.statics g number statics
      → with_instance w p n number i g xs (state_of k old)
      ≡ behind_instance w n number g xs after (state_of k (record old { notes = record old.notes { statics = statics }; found = found }))
  instance_is_made facts before after found statics made same known set_now typed finds notes = λ z. record {
    world = record w {
      interfaces = set w.interfaces n (instance_interface g number xs);
      instances = facts_after facts before after same known set_now z;
    };
    next = state_after found statics made typed finds notes z;
  }
