-- Where a walk over the units begins, and the tables that it ends with.
use Rattle.std.proofs.Common.{◌≡◌, ℕ, zero, suc, List, [], ◌∷◌, ◌++◌, map, replicate, refl, sym, ap, ◌∙◌}
use Rattle.ada_rules.specs.Entities.{Actual, whole_standard}
use Rattle.ada_rules.specs.Environment.{no_interface, World}
use Rattle.ada_rules.specs.Statics.{Spans}
use Rattle.ada_entities.specs.declared.units.Interface.TheVariants as interface
use Rattle.ada_entities.specs.Views.{actuals_of}
use Rattle.ada_entities.specs.TypeTable.{tables}
use Rattle.ada_entities.specs.EntityViews.{Tables}
use Rattle.ada_entities.specs.UnitViews.{interface_of}
use Rattle.program_walk.specs.declared.symbols.Symbols.{Symbols}
use Rattle.program_walk.specs.SymbolViews.{IsFront, Begins}
use Rattle.program_walk.specs.Sites.{HoldsUnits}
use Rattle.program_walk.specs.Changes.{IsFresh}
use Rattle.program_walk.specs.Exact.{exact}
use Rattle.program_walk.proofs.StandingLaws.{own_routines}

nothing_behind : {A : Type 0} (xs : List A) → xs ≡ xs ++ []
nothing_behind [] = refl
nothing_behind (x ∷ xs) = ap (λ ys. x ∷ ys) (nothing_behind xs)

whole_front : {A : Type 0} (xs ys : List A) → ys ≡ xs → IsFront xs ys
whole_front xs ys e = record { behind = []; joined = e ∙ nothing_behind xs }

pub exact_begins : (symbols : Symbols) (spans : List Spans) → Begins symbols (exact symbols spans)
exact_begins symbols spans = record {
  shapes = whole_front _ _ refl;
  instances = λ i h. refl;
  subprograms = whole_front _ _ (own_routines (tables symbols.types) symbols.routines spans);
}

nothing_seen : (k : Tables) (xs : ℕ → List Actual) (n : ℕ) → replicate n no_interface ≡ map (interface_of k xs) (replicate n interface.Unknown)
nothing_seen k xs zero = refl
nothing_seen k xs (suc n) = ap (λ is. no_interface ∷ is) (nothing_seen k xs n)

pub fresh_holds : (count : ℕ) (symbols : Symbols) (k : Tables) (w : World) → IsFresh count symbols → Begins symbols k
    → w.interfaces ≡ replicate count no_interface → w.standard ≡ whole_standard → HoldsUnits symbols k w
fresh_holds count symbols k w f b e s = record {
  known = f.known;
  begins = b;
  actuals = actuals_of k.types;
  given_types = λ n place. refl;
  interfaces = e ∙ (nothing_seen k (actuals_of k.types) count ∙ ap (map (interface_of k (actuals_of k.types))) (sym f.units));
  standard = s;
}
