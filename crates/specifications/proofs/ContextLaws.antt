-- What the declarations and the statements of a body are looked at in.
use Rattle.std.proofs.Common.{◌≡◌, ℕ, false, List, Option, refl, sym, ap, ◌∙◌, subst}
use Rattle.ada_rules.specs.Entities.{Parameter}
use Rattle.ada_rules.specs.Environment.{Env}
use Rattle.ada_rules.specs.Subprograms as rules
use Rattle.ada_entities.specs.EntityViews.{Tables}
use Rattle.program_walk.specs.Sites.{Holds}
use Rattle.program_walk.proofs.PlaceLaws.{holds_alike}
use Rattle.program_walk.specs.declared.context.Context.{Context}
use Rattle.program_walk.specs.declared.context.Level.TheVariants as level
use Rattle.program_walk.specs.declared.context.Returning.{Returning}
use Rattle.program_walk.specs.declared.walk.Walk.{Walk}
use Rattle.program_walk.specs.Walks.{HasLibrary, StandsAt, is_library, returning_of}
use Rattle.specifications.specs.Contexts.{IsBodyContext}

-- the same regions, in the body of a subprogram
abbrev pub in_subprogram : Env → List ℕ → Option Parameter → Env
in_subprogram env name r =
    record env { subprogram_name = name; is_looping = false; is_handling = false; returning = rules.returning_of r }

module _ (c d : Context) (w : Walk) (k : Tables) (env : Env) (name : List ℕ) (given : Returning) (r : Option Parameter) where
  pub stands_in_body : StandsAt (record c { level = level.Inside }) w k env → IsBodyContext c name given d
      → rules.returning_of r ≡ returning_of k given → StandsAt d w k (in_subprogram env name r)
  stands_in_body h is gives = record {
    symbols =
        subst (λ own. Holds d.step own w.symbols k (in_subprogram env name r)) (sym is.own_package)
        (subst (λ now. Holds now c.own_package w.symbols k (in_subprogram env name r)) (sym is.step)
        (holds_alike c.step c.own_package w.symbols k env (in_subprogram env name r) refl refl refl refl refl refl h.symbols));
    spans = h.spans;
    instances = h.instances ∙ sym is.instances;
    generic = h.generic ∙ sym is.generic;
    library = subst (λ x. HasLibrary x env.world) (sym is.library) h.library;
    unit_number = h.unit_number ∙ sym is.unit;
    unit_name = h.unit_name ∙ sym is.unit_name;
    subprogram_name = sym is.subprogram_name;
    level = h.level ∙ ap is_library (sym is.level);
    looping = sym is.looping;
    handling = sym is.handling;
    returning = gives ∙ ap (returning_of k) (sym is.returning);
  }
