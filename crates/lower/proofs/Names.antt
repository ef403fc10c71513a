-- Names of a text come to what they mean in its instance.
use Rattle.std.proofs.Common.{◌≡◌, ℕ, pos, Bool, List, [], ◌∷◌, length, map, Option, Some, None, option_map, slice_get, refl, sym, ap, subst, ◌∙◌}
use Rattle.std.specs.Prelude.{take, drop, unwrap_or}
use Rattle.std.proofs.lemmas.Option.{slice_get-map}
use Rattle.cov_base.specs.Lists.{Everywhere}
use Rattle.ada_meaning.specs.Bodies.{StandsIn, IsBody}
use Rattle.ada_meaning.specs.Program.{Target, get_target, put_target, body_target}
use Rattle.ada_meaning.specs.Program as meaning
use Rattle.ada_meaning.specs.Resolved.{parameter_in, parameters_of, parameters_of_subprogram}
use Rattle.ada_meaning.specs.Shape.{Shape}
use Rattle.ada_meaning.specs.Tree as tree
use Rattle.ada_meaning.specs.WellFormed.{IsCallable}
use Rattle.ada_tree.specs.declared.program.Parameter.{Parameter}
use Rattle.ada_tree.specs.declared.program.Program.{Program}
use Rattle.ada_tree.specs.declared.program.Subprogram.{Subprogram}
use Rattle.ada_tree.specs.declared.types.Subtype.{Subtype}
use Rattle.ada_tree.specs.Programs.{mode_of, parameter_of, program_of, subprogram_of, types_of}
use Rattle.statement_code.specs.Alike.{AreNamesIn}
use Rattle.statement_code.proofs.Formed.{number_found, range_found}
use Rattle.lower.specs.Context.{Surroundings, names_by, parameter_at, parameters_at, parameters_by}
use Rattle.lower.specs.Standing.{AreTypesNamed, IsSized, IsWithinLimits, size_of}
use Rattle.lower.proofs.Types.{named_shape}

abbrev IsNone : {X : Type 0} → Option X → Type 0
IsNone None = Unit {0}
IsNone (Some x) = ⊥

-- the subprogram of a body, as the typed program has it
pub record Stated (p : Program) (inst m : ℕ) (declared : meaning.Subprogram) : Type 0 where
  pub subprogram : Subprogram
  pub at : slice_get p.subprograms m ≡ Some subprogram
  pub is : declared ≡ subprogram_of (types_of p.types) subprogram
  pub stands : StandsIn (program_of p) subprogram.generic inst

pub stated : (p : Program) (inst m : ℕ) (is : IsBody (program_of p) (record { instance = inst; subprogram = m })) → Stated p inst m is.declared
stated p inst m is = by_case (slice_get p.subprograms m) refl (sym (slice_get-map (subprogram_of (types_of p.types)) p.subprograms m) ∙ is.is_declared)
  where
    by_case : (o : Option Subprogram) → slice_get p.subprograms m ≡ o → option_map (subprogram_of (types_of p.types)) o ≡ Some is.declared → Stated p inst m is.declared
    by_case None at found = absurd (subst IsNone found tt)
    by_case (Some s) at found =
        let same : subprogram_of (types_of p.types) s ≡ is.declared = ap (λ (x : Option meaning.Subprogram). unwrap_or x is.declared) found in
        record { subprogram = s; at = at; is = sym same; stands = subst (λ (d : meaning.Subprogram). StandsIn (program_of p) d.generic inst) (sym same) is.stands }

abbrev first_or : {X : Type 0} → X → List X → X
first_or d [] = d
first_or d (x ∷ xs) = x

abbrev IsFilled : {X : Type 0} → List X → Type 0
IsFilled [] = ⊥
IsFilled (x ∷ xs) = Unit {0}

-- parameters are among the objects, and so have sizes
parameters_sized : (p : Program) (inst : ℕ) (qs : List Parameter) (ts : List Subtype) → map (λ q. q.subtype) qs ≡ take (length qs) ts → Everywhere (λ t. IsSized (size_of p inst t)) ts
    → Everywhere (λ (q : Parameter). IsSized (size_of p inst q.subtype)) qs
parameters_sized p inst [] ts same sized = tt
parameters_sized p inst (q ∷ qs) [] same sized = absurd (subst IsFilled same tt)
parameters_sized p inst (q ∷ qs) (t ∷ ts) same sized =
    let first : q.subtype ≡ t = ap (λ (xs : List Subtype). first_or t xs) same in
    let rest : map (λ q. q.subtype) qs ≡ take (length qs) ts = ap (λ (xs : List Subtype). drop 1 xs) same in
    (subst (λ (u : Subtype). IsSized (size_of p inst u)) (sym first) sized.0, parameters_sized p inst qs ts rest sized.1)

module _ (c : Surroundings) where
  parameters_alike : (inst : ℕ) (qs : List Parameter) → Everywhere (λ (q : Parameter). IsSized (size_of c.program inst q.subtype)) qs
      → map (parameter_at c inst) qs ≡ map (parameter_in (program_of c.program) inst) (map (parameter_of (types_of c.program.types)) qs)
  parameters_alike inst [] sized = refl
  parameters_alike inst (q ∷ qs) sized =
      λ i. record { declaration = q.number; mode = mode_of q.mode; shape = named_shape c.program inst q.subtype sized.0 i } ∷ parameters_alike inst qs sized.1 i

  pub body_parameters : AreTypesNamed c.program → IsWithinLimits c.program → (inst m : ℕ) (declared : meaning.Subprogram) (s : Stated c.program inst m declared)
      → map (parameter_at c inst) s.subprogram.parameters ≡ parameters_of (program_of c.program) (body_target inst m)
  body_parameters named limits inst m declared s =
      let program = c.program in
      parameters_alike inst s.subprogram.parameters
      (parameters_sized program inst s.subprogram.parameters s.subprogram.objects (named.parameters m s.subprogram s.at) (limits.sized m inst s.subprogram s.at s.stands))
      ∙ ap (λ (o : Option meaning.Subprogram). map (parameter_in (program_of program) inst) (parameters_of_subprogram o))
      (sym (slice_get-map (subprogram_of (types_of program.types)) program.subprograms m ∙ ap (option_map (subprogram_of (types_of program.types))) s.at))

  called_parameters : AreTypesNamed c.program → IsWithinLimits c.program → (f : Bool) (t : Target) → IsCallable (program_of c.program) f t
      → parameters_by c t ≡ parameters_of (program_of c.program) t
  called_parameters named limits f get_target is = absurd is
  called_parameters named limits f put_target is = absurd is
  called_parameters named limits f (body_target i n) is =
      let s = stated c.program i n is.0 in
      ap (λ (o : Option Subprogram). map (parameter_at c i) (parameters_at o)) s.at ∙ body_parameters named limits i n is.0.declared s

  pub names_are : AreTypesNamed c.program → IsWithinLimits c.program → (shape : tree.Object → Shape) → AreNamesIn (program_of c.program) c.instance shape (names_by c)
  names_are named limits shape = record {
    instance = refl;
    numbers = λ e is. number_found (program_of c.program) c.instance shape e (pos 0) is;
    bounds = λ r is. range_found (program_of c.program) c.instance shape r (record { low = pos 0; high = pos 0 }) is;
    targets = λ x. refl;
    parameters = called_parameters named limits;
    exceptions = λ x is. refl;
  }
