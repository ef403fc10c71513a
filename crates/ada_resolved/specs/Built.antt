-- What a type is built of, as a shape.
use Rattle.std.specs.Prelude.{◌≡◌}
use Rattle.ada_meaning.specs.Shape.{Shape, word, row, group}
use Rattle.ada_tree.specs.declared.program.Program.{Program}
use Rattle.ada_tree.specs.Programs.{bounds_of}
use Rattle.ada_resolved.specs.declared.forms.TypeForm.{TypeForm}
use Rattle.ada_resolved.specs.declared.forms.TypeForm.TheVariants as form
use Rattle.ada_resolved.specs.Forms.{shape_of, shapes_of}

abbrev pub shape_of_form : Program → TypeForm → Shape
shape_of_form p (form.Scalar r) = word (bounds_of r)
shape_of_form p (form.Array r t) = row (bounds_of r) (shape_of p t)
shape_of_form p (form.Record r) = group (shapes_of p r.instance r.below r.components.now)

-- a record has the components of this program
abbrev pub IsIn : Program → TypeForm → Type 0
IsIn p (form.Scalar r) = Unit {0}
IsIn p (form.Array r t) = Unit {0}
IsIn p (form.Record r) = r.sizes.now.program.now ≡ p
