-- What was found, put together, is the program of the rules.
use Rattle.std.proofs.Common.{◌≡◌, ℕ, List, [], map, reverse, unwrap_or, sym, ap, ◌∙◌}
use Rattle.std.proofs.lemmas.List.{reverse-reverse}
use Rattle.cov_base.specs.TextOrder.{precedes}
use Rattle.ada_meaning.specs.Obligations.{in_order}
use Rattle.ada_meaning.specs.Types as meaning
use Rattle.ada_tree.specs.declared.program.GenericConstant.{GenericConstant}
use Rattle.ada_tree.specs.Programs.{types_of, subprogram_of, library_object_of, constant_of, instance_of, exception_declaration_of}
use Rattle.ada_rules.specs.Environment.{World}
use Rattle.ada_rules.specs.Legal as rules
use Rattle.ada_rules.specs.Legal.{listed, with_values}
use Rattle.ada_rules.specs.Statics.{Facts}
use Rattle.ada_rules.specs.Subprograms.{body_number}
use Rattle.ada_entities.specs.EntityViews.{Tables}
use Rattle.program_walk.specs.declared.walk.Walk.{Walk}
use Rattle.program_walk.specs.States.{state_of, types_in}
use Rattle.typed_program.specs.declared.program.Outline.{Outline}
use Rattle.typed_program.specs.Assembled.{assembled}

back : {A : Type 0} (xs : List A) → xs ≡ reverse (reverse xs)
back xs = sym (reverse-reverse xs)

pub assembled_is : (o : Outline) (facts : List Facts) (w : Walk) (k : Tables) (world : World) (main : List ℕ) → types_of o.types ≡ types_in k
    → o.main ≡ unwrap_or (body_number world main main) 0 → o.constants.items ≡ w.notes.statics.constants → world.instances ≡ facts
    → assembled o facts w.found ≡ rules.program_of world (state_of k w) main
assembled_is o facts w k world main types number constants instances =
    λ i. listed (record {
      subprograms = (ap (λ (ts : List meaning.Subtype). map (subprogram_of ts) w.found.subprograms.items) types ∙ back (map (subprogram_of (types_in k)) w.found.subprograms.items)) i;
      main = number i;
      objects = (ap (λ (ts : List meaning.Subtype). map (library_object_of ts) w.found.objects.items) types ∙ back (map (library_object_of (types_in k)) w.found.objects.items)) i;
      constants = (ap (λ (cs : List GenericConstant). map constant_of cs) constants ∙ back (map constant_of w.notes.statics.constants)) i;
      instances = with_values (in_order (λ a b. precedes a.place b.place) (back (map instance_of w.found.instances.items) i)) (sym instances i);
      declared = back (map exception_declaration_of w.found.exceptions.items) i;
      exceptions = [];
    })
