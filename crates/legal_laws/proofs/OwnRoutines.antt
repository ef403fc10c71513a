-- The subprogram of a body that is one of the program is known by its specification, in the body too.
use Rattle.std.proofs.Common.{◌≡◌, ◌+◌, ℕ, Bool, false, List, [], ◌∷◌, map, Option, Some, None, slice_get, refl, sym, subst}
use Rattle.std.specs.Prelude.{unwrap_or}
use Rattle.std.proofs.lemmas.Bool.{false≢true}
use Rattle.cov_base.specs.Lists.{Everywhere}
use Rattle.ada_meaning.specs.Bodies.{IsBody, StandsIn}
use Rattle.ada_meaning.specs.Declared.{is_function}
use Rattle.ada_meaning.specs.Program.{body_target, Subprogram, Program}
use Rattle.ada_meaning.specs.Resolved.{shape_in, parameter_in, target_in, parameters_of, parameters_of_subprogram}
use Rattle.ada_meaning.specs.WellFormed.{IsComposite}
use Rattle.ada_rules.specs.Types.{AdaType, integer_type, enumeration, formal_type, array_type, record_type, AdaSubtype, of_type, type_in, is_scalar, subtype_in_tree}
use Rattle.ada_rules.specs.Entities.{Parameter}
use Rattle.ada_rules.specs.Environment.{Env}
use Rattle.ada_rules.specs.Subprograms.{Profile, returning_of, typed_parameters, body_number, routine_of}
use Rattle.legal_laws.specs.Known.{AreApart, IsKnownSubtype, AreParameters, IsResult, IsRoutine}
use Rattle.legal_laws.specs.Standing.{ReturnsAs}
use Rattle.legal_laws.proofs.Giving.{returns_value}
use Rattle.legal_laws.proofs.KnownDeclarations.{own_instance}
use Rattle.legal_laws.proofs.KnownTypes.{scalar_shape}

module _ (p : Program) (inst : ℕ) (types : AdaType → Type 0) (apart : AreApart p types) where
  composite_shape : (t : AdaSubtype) → is_scalar (type_in t) ≡ false → IsComposite (shape_in p inst (subtype_in_tree t))
  composite_shape (of_type (integer_type i) r) h = absurd (false≢true (sym h))
  composite_shape (of_type (enumeration i n) r) h = absurd (false≢true (sym h))
  composite_shape (of_type (formal_type i k b) r) h = absurd (false≢true (sym h))
  composite_shape (of_type (array_type i x c) r) h = tt
  composite_shape (of_type (record_type i fs) r) h = tt

  own_parameters : (n : ℕ) (qs : List Parameter) → Everywhere (λ r. IsKnownSubtype p inst types r.subtype) qs
      → AreParameters p inst types (map (parameter_in p inst) (typed_parameters n qs)) qs
  own_parameters n [] all = tt
  own_parameters n (q ∷ qs) all = (
    record {
      mode = refl;
      type = (λ h. scalar_shape p inst types apart q.subtype h, λ h. (composite_shape q.subtype h, refl));
      subtype = all.0;
    },
    own_parameters (n + 1) qs all.1,
  )

  module _ (sub : Subprogram) (n : ℕ) (is : slice_get p.subprograms n ≡ Some sub) (stands : StandsIn p sub.generic inst) where
    abbrev own_body : IsBody p (record { instance = inst; subprogram = n })
    own_body = record { declared = sub; is_declared = is; stands = stands }

    own_result : (o : Option Parameter) → is_function sub ≡ returns_value (returning_of o) → ReturnsAs p inst types (returns_value (returning_of o)) (returning_of o)
        → IsResult p inst types (body_target inst n) o
    own_result None gives returns = (own_body, gives)
    own_result (Some q) gives returns = ((own_body, gives), returns.1.1)

    pub own_known : (env : Env) (name : List ℕ) (awaits : Bool) (q : Profile) → (env.generic ≡ None → inst ≡ 0)
        → unwrap_or (body_number env.world env.unit_name name) 0 ≡ n → is_function sub ≡ returns_value (returning_of q.result)
        → typed_parameters 0 q.parameters ≡ sub.parameters → Everywhere (λ r. IsKnownSubtype p inst types r.subtype) q.parameters
        → ReturnsAs p inst types (returns_value (returning_of q.result)) (returning_of q.result) → IsRoutine p inst types (routine_of env name awaits q)
    own_known env name awaits q alone number gives parameters known returns =
        let target : target_in p inst (routine_of env name awaits q).callee ≡ body_target inst n = λ i. body_target (own_instance inst env.generic alone i) (number i) in
        record {
          parameters = subst (λ t. AreParameters p inst types (parameters_of p t) q.parameters) (sym target)
              (subst (λ o. AreParameters p inst types (map (parameter_in p inst) (parameters_of_subprogram o)) q.parameters) (sym is)
              (subst (λ rs. AreParameters p inst types (map (parameter_in p inst) rs) q.parameters) parameters (own_parameters 0 q.parameters known)));
          result = subst (λ t. IsResult p inst types t q.result) (sym target) (own_result q.result gives returns);
        }
