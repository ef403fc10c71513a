-- The verdict of the rules, step by step, where the code has what each step comes to.
use Rattle.std.proofs.Common.{◌≡◌, ℕ, List, map, reverse, Option, Some, None, Result, Ok, Err, IfOk, IfErr, refl, sym, ap, ◌∙◌, subst}
use Rattle.std.proofs.lemmas.List.{reverse-reverse}
use Rattle.cov_base.specs.declared.position.Pos.{Pos}
use Rattle.cov_base.specs.declared.failure.Failure.{Failure}
use Rattle.cov_base.specs.declared.failure.Failure.TheVariants.{Fault, WantOfMemory}
use Rattle.ada_syntax.specs.declared.unit.Unit.{Unit as LibraryUnit}
use Rattle.ada_meaning.specs.Program as meaning
use Rattle.ada_tree.specs.declared.program.Program.{Program}
use Rattle.ada_tree.specs.declared.program.UnitEntry.{UnitEntry}
use Rattle.ada_tree.specs.Programs as tree
use Rattle.ada_rules.specs.Entities.{whole_standard}
use Rattle.ada_rules.specs.Environment.{naming, typing, State}
use Rattle.ada_rules.specs.Legal as rules
use Rattle.ada_rules.specs.Legal.{Checked, unnamed, mistyped, too_large, legal, refused_or, after_step, after_counts, after_values, after_names, checked_in}
use Rattle.ada_rules.specs.Library.{Library as RulesLibrary}
use Rattle.ada_rules.specs.Limits.{first_excess}
use Rattle.ada_rules.specs.Statics.{first_unmet}
use Rattle.ada_rules.specs.Units.{Walked, judged_in}
use Rattle.ada_demands.specs.DemandViews.{asked_of}
use Rattle.ada_demands.specs.SpanViews.{listed}
use Rattle.ada_demands.specs.Unmet.{IsFirstUnmet}
use Rattle.ada_entities.specs.Answers as entities
use Rattle.ada_entities.specs.Answers.{refused_at, no_memory}
use Rattle.ada_entities.specs.declared.composite.Types.{Types}
use Rattle.ada_entities.specs.declared.fault.Refusal.{Refusal}
use Rattle.ada_entities.specs.EntityViews.{Tables}
use Rattle.ada_entities.specs.TypeTable.{tables}
use Rattle.ada_library.specs.declared.library.Library.{Library}
use Rattle.ada_library.specs.LibraryView.{IsLibraryOf}
use Rattle.ada_phrases.specs.declared.scope.Step.TheVariants as step
use Rattle.ada_tree.specs.declared.types.TypeDeclaration.{TypeDeclaration}
use Rattle.ada_tree.specs.Programs.{types_of}
use Rattle.ada_entities.specs.Trees.{shapes_in_tree}
use Rattle.typed_program.specs.Assembled.{HasTypes, IsProgramOf}
use Rattle.typed_program.specs.program_walk.specs.States.{state_of}
use Rattle.typed_program.specs.program_walk.specs.Walks.{Begins}
use Rattle.word_limits.specs.Excess.{HasUnits, IsFirstExcess}
use Rattle.walked_program.specs.declared.fault.CheckFault.{CheckFault}
use Rattle.walked_program.specs.declared.fault.CheckFault.TheVariants.{Naming, Typing, Limit}
use Rattle.walked_program.specs.declared.whole_walk.WholeWalk.{WholeWalk}
use Rattle.walked_program.specs.Checking.{IsRefusal, breaks_names, breaks_types, passes_a_limit, memory_is_out, naming_of, typing_of, Passes, IsLegal, VerdictAs, AcceptedAs, IsUnmet, IsExcess, ComesToAccepted}
use Rattle.program_weights.specs.Wholes.{HasEntries, DeclaresTypes, whole_library}
use Rattle.typed_program.specs.Entries.{AreEntries}
use Rattle.program_weights.specs.Entries.{entries_of}
use Rattle.typed_program.specs.TypeTexts.{AreTypeTexts}
use Rattle.program_weights.specs.TypeWeights.{AreDeclared}
use Rattle.walked_program.specs.Judging.{IsWholeLibrary, IsJudged, JudgedAs}
use Rattle.walked_program.proofs.Tables.{tables_there, begins_there}
use Rattle.walked_program.proofs.WeightLaws.{are_declared}

pub ruleset refusals = (memory_is_out)

-- a verdict in other words
pub refused_as : (v w : Checked) (f : Failure CheckFault) → v ≡ w → IsRefusal w f → IsRefusal v f
refused_as v w f e h = subst (λ y. IsRefusal y f) (sym e) h

pub verdict_as : (v w : Checked) (r : Result Program (Failure CheckFault)) → v ≡ w → VerdictAs w r → VerdictAs v r
verdict_as v w r e h = subst (λ y. VerdictAs y r) (sym e) h

-- the rules on names, and those on types
module _ (l : RulesLibrary) (main : List ℕ) where
  pub names_refused : (f : Failure Refusal) → entities.Refuses (judged_in naming l main).answer f → IsRefusal (checked_in l main) (naming_of f)
  names_refused _ (refused_at {p = p} e) = breaks_names (ap (λ r. after_step unnamed r (λ x. after_names l main)) e)
  names_refused _ no_memory = memory_is_out

  pub names_pass : (x : Walked) → (judged_in naming l main).answer ≡ Ok x → Passes (checked_in l main) (after_names l main)
  names_pass x e = record { comes = ap (λ r. after_step unnamed r (λ y. after_names l main)) e }

  pub types_refused : (f : Failure Refusal) → entities.Refuses (judged_in typing l main).answer f → IsRefusal (after_names l main) (typing_of f)
  types_refused _ (refused_at {p = p} e) = breaks_types (ap (λ r. after_step mistyped r (after_values l main)) e)
  types_refused _ no_memory = memory_is_out

  pub types_pass : (x : Walked) → (judged_in typing l main).answer ≡ Ok x → after_names l main ≡ after_values l main x
  types_pass x e = ap (λ r. after_step mistyped r (after_values l main)) e

-- what the walk has asked, and the first of it that is not met
pub unmet_there : (w : WholeWalk) (o : Option Pos) → IsFirstUnmet w.instances (listed w.walk.spans) w.walk.notes.statics.demands.items o
    → IsUnmet w o
unmet_there w o h k b =
    h k b.spans
    ∙ ap (first_unmet w.instances) (sym (reverse-reverse (map (asked_of k) w.walk.notes.statics.demands.items)))

pub excess_there : (w : WholeWalk) (units : List LibraryUnit) (o : Option Pos) (types : Types) (ds : List TypeDeclaration) → types ≡ w.walk.symbols.types
    → types_of ds ≡ shapes_in_tree (tables types) → IsFirstExcess ds w.instances w.walk units o → IsExcess w units o
excess_there w units o types ds same is h k world there has =
    h k world (is ∙ (ap (λ t. shapes_in_tree (tables t)) same ∙ ap shapes_in_tree (sym there))) has

-- the rules on static values and then the limits, behind such a walk
module _ (w : WholeWalk) (units : List LibraryUnit) (x : Library) (l : RulesLibrary) (main : List ℕ) (whole : IsWholeLibrary x units l)
    (k : Tables) (b : Begins w.walk k) (there : k.types ≡ tables w.walk.symbols.types) (j : IsJudged step.Typing x l main w k) where
  has_units : HasUnits w.instances w.walk.symbols.units j.walked.world
  has_units = record {
    k = k;
    actuals = j.stands.units.actuals;
    facts = j.stands.instances;
    interfaces = j.stands.units.interfaces;
  }

  unmet_is : (o : Option Pos) → IsUnmet w o → o ≡ first_unmet j.walked.world.instances (reverse j.walked.next.demands)
  unmet_is o h =
      h k b ∙ (λ z. first_unmet (sym j.stands.instances z) (reverse (sym j.next z).demands))

  excess_is : (o : Option Pos) → IsExcess w units o → o ≡ first_excess j.walked.world j.walked.next l.units
  excess_is o h =
      h k j.walked.world there has_units
      ∙ (λ z. first_excess j.walked.world (sym j.next z) (sym whole.is.of_units z))

  at_values : (o : Option Pos) → IsUnmet w o → after_values l main j.walked ≡ refused_or mistyped o (λ u. after_counts l main j.walked)
  at_values o h = ap (λ y. refused_or mistyped y (λ u. after_counts l main j.walked)) (sym (unmet_is o h))

  abbrev its_program : meaning.Program
  its_program = rules.program_of j.walked.world j.walked.next main

  at_counts : (o : Option Pos) → IsExcess w units o → after_counts l main j.walked ≡ refused_or too_large o (λ u. legal its_program)
  at_counts o h = ap (λ y. refused_or too_large y (λ u. legal its_program)) (sym (excess_is o h))

  pub unmet_refused : (p : Pos) → IsUnmet w (Some p) → IsRefusal (after_values l main j.walked) (Fault (Typing p))
  unmet_refused p h = breaks_types (at_values (Some p) h)

  pub excess_refused : (p : Pos) → IsUnmet w None → IsExcess w units (Some p) → IsRefusal (after_values l main j.walked) (Fault (Limit p))
  excess_refused p met h = passes_a_limit (at_values None met ∙ at_counts (Some p) h)

  pub all_accepted : IsUnmet w None → IsExcess w units None → IsLegal (after_values l main j.walked) its_program
  all_accepted met within = record { comes = at_values None met ∙ at_counts None within }

-- the typed program of such a walk
abbrev passed : Walked → Result Walked Pos
passed x = Ok x

same_walked : {x y : Walked} → passed x ≡ passed y → x ≡ y
same_walked {x} {y} e = ap (walked_or x) e where
  walked_or : Walked → Result Walked Pos → Walked
  walked_or d (Ok z) = z
  walked_or d (Err p) = d

module _ (w : WholeWalk) (units : List LibraryUnit) (x : Library) (l : RulesLibrary) (main : List ℕ) (whole : IsWholeLibrary x units l)
    (judged : JudgedAs step.Typing x l main (Ok w)) where
  abbrev there : Tables
  there = tables_there w.walk

  abbrev judged_there : IsJudged step.Typing x l main w there
  judged_there = judged there (begins_there w.walk)

  pub program_refused : (f : Failure CheckFault) → ComesToAccepted {A = Unit {0}} units w (Err f) → IsRefusal (after_names l main) f
  program_refused f h =
      refused_as _ _ f (types_pass l main judged_there.walked judged_there.comes)
      (h x l main whole there (begins_there w.walk) refl judged_there)

  pub program_legal : (p : Program) → ComesToAccepted {A = Unit {0}} units w (Ok tt) → IsProgramOf x w.instances w.walk main p
      → IsLegal (after_names l main) (tree.program_of p)
  program_legal p h is =
      let a = h x l main whole there (begins_there w.walk) refl judged_there in
      let of_state = is there judged_there.walked.world refl judged_there.stands.library judged_there.stands.instances in
      let same = of_state ∙ ap (λ s. rules.program_of judged_there.walked.world s main) (sym judged_there.next) in
      record { comes = types_pass l main judged_there.walked judged_there.comes ∙ (a.comes ∙ ap legal (sym same)) }

  pub has_entries : (p : Program) (es : List UnitEntry) → AreEntries x w.walk.symbols.units units es → p.units ≡ es → HasEntries l main p
  has_entries p es h same y comes =
      let s = judged_there.stands in
      same
      ∙ (h there judged_there.walked.world l (record { library = whole.is; actuals = s.units.actuals; interfaces = s.units.interfaces })
      ∙ ap (λ (z : Walked). entries_of z.world l) (same_walked (sym judged_there.comes ∙ comes)))

  pub declares_types : (p : Program) (gs : List (Option ℕ)) → AreTypeTexts w.walk gs → HasTypes gs w.walk p → DeclaresTypes l main p
  declares_types p gs texts are y comes =
      subst (λ (z : Walked). AreDeclared p.types z.next.types_declared) (same_walked (sym judged_there.comes ∙ comes))
      (subst (λ (s : State). AreDeclared p.types s.types_declared) (sym judged_there.next)
      (are_declared there w.walk.found.types.items gs p.types texts are.types are.texts))

-- what a verdict is of a program, and of a refusal
pub legal_of : (v : Checked) (r : Result Program (Failure CheckFault)) → VerdictAs v r → IfOk r (λ p. v ≡ legal (tree.program_of p))
legal_of v (Ok p) h = h.comes
legal_of v (Err f) h = tt

pub refusal_of : (v : Checked) (r : Result Program (Failure CheckFault)) → VerdictAs v r → IfErr r (IsRefusal v)
refusal_of v (Ok p) h = tt
refusal_of v (Err f) h = h

-- the library of these units
pub is_whole : (x : Library) (units : List LibraryUnit) → IsLibraryOf units x → IsWholeLibrary x units (whole_library units)
is_whole x units h = record { is = h whole_standard; standard = refl }
