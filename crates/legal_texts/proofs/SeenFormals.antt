-- The formals of a generic are known in an instance, behind the types of the whole program: what its actuals are is seen through the instance as it is outside.
use Rattle.std.proofs.Common.{◌≡◌, ℕ, zero, suc, true, List, [], ◌∷◌, ◌++◌, length, Some, None, Ok, slice_get, ap, ◌∙◌, subst}
use Rattle.cov_base.specs.Lists.{Everywhere}
use Rattle.cov_base.specs.declared.position.Pos.{Pos}
use Rattle.ada_syntax.specs.declared.unit.Formal.{Formal}
use Rattle.ada_meaning.specs.Program.{Program}
use Rattle.ada_meaning.specs.Shape.{Shape}
use Rattle.ada_meaning.specs.Tree as tree
use Rattle.ada_rules.specs.Entities.{Region, Actual, type_actual, given_type, type_seen}
use Rattle.ada_rules.specs.Environment.{World, State, Given, Env}
use Rattle.ada_rules.specs.Instances.{formals_declared}
use Rattle.ada_rules.specs.Types.{integer, same_identity, AdaType, integer_type, AdaSubtype, identity_of, type_in}
use Rattle.legal_laws.specs.Known.{AreApart, IsOneOf}
use Rattle.legal_laws.specs.Standing.{Stands}
use Rattle.legal_laws.specs.Valued.{AreFactsInBase}
use Rattle.legal_laws.proofs.AlikeTypes.{alike_turned, alike_both}
use Rattle.legal_instances.specs.Resolved.{HaveStaticActuals}
use Rattle.legal_texts.proofs.GivenActuals.{AreGiven, given_types, gives_at}
use Rattle.legal_texts.proofs.InstancePlaces.{IsInstanceOf}
use Rattle.legal_texts.proofs.KnownFormals.{AreSeenAlike, AreGivenAlike, AreFormalsKnown, formals_known}
use Rattle.legal_texts.proofs.OneOf.{one_so}
use Rattle.legal_texts.proofs.SeenTypes.{IsWorldType, seen_identity, alike_seen, given_there}

-- an actual among the first
front_item : {X : Type 0} (before after : List X) (j : ℕ) (x : X) → slice_get before j ≡ Some x → slice_get (before ++ after) j ≡ Some x
front_item [] after zero x h = absurd (none_there h)
  where
    none_there : None ≡ Some x → ⊥
    none_there e = cc
front_item [] after (suc j) x h = absurd (none_there h)
  where
    none_there : None ≡ Some x → ⊥
    none_there e = cc
front_item (y ∷ before) after zero x h = h
front_item (y ∷ before) after (suc j) x h = front_item before after j x h

module _ (p : Program) (k : ℕ) (ds : List AdaType) (all : Everywhere IsWorldType ds) (apart : AreApart p (IsOneOf ds)) (integers : IsOneOf ds (integer_type integer))
    (actuals : List Actual) where
  -- types of the whole program are seen through the instance as types that are alike
  pub seen_alike : AreSeenAlike p k (IsOneOf ds) actuals (IsOneOf ds)
  seen_alike before after is t u h out same =
      let world = one_so IsWorldType ds all t h in
      alike_both p (type_seen k before t) t u (alike_turned p t (type_seen k before t) (alike_seen p k before t world.0))
      (apart t u h out (subst (λ i. same_identity i (identity_of u) ≡ true) (seen_identity k before t world) same))

  -- the type that is given for a formal one is one of them
  pub given_alike : ((j : ℕ) (t : AdaSubtype) → slice_get actuals j ≡ Some (type_actual t) → IsOneOf ds (type_in t)) → AreGivenAlike p k (IsOneOf ds) actuals
  given_alike of_actuals before after is m u out same =
      apart (given_type (slice_get before m)) u
      (given_there p k before ds [] all integers
      (λ j t there. of_actuals j t (ap (λ xs. slice_get xs j) is ∙ front_item before after j (type_actual t) there)) m) out same

  -- so the formals are known, where the actuals of the instance were looked at for them
  module _ (g : ℕ) (w : World) (of_instance : IsInstanceOf p k g w actuals) (have : HaveStaticActuals p) (base : Everywhere AreFactsInBase w.instances)
      (shape_of : tree.Object → Shape) (Sees : tree.Object → Type 0) where
    pub formals_there : (env : Env) (s : State) (q : Pos) (fs : List Formal) (formals : Given Region) → (formals_declared env s q 0 fs).answer ≡ Ok formals
        → AreGiven p (IsOneOf ds) k [] formals.value actuals → 0 ≡ length env.local → Stands p k shape_of (IsOneOf ds) Sees env s
        → AreFormalsKnown p k (IsOneOf ds) actuals shape_of Sees (IsOneOf ds) env s 0 formals
    formals_there env s q fs formals h given at st =
        formals_known p k (IsOneOf ds) actuals shape_of Sees (given_alike (λ j t there. given_types p (IsOneOf ds) k formals.value actuals j t given there))
        (IsOneOf ds) env s q 0 fs formals h seen_alike st at
        (λ m e there. gives_at p (IsOneOf ds) k g w actuals of_instance apart have base formals.value m e given there)
