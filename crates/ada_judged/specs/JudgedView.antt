-- What the checker's expressions are of the rules' definitions.
use Rattle.std.specs.Prelude.{Bool, true, false, Option, Some, None, option_map, if◌then◌else◌}
use Rattle.cov_base.specs.declared.position.Pos.{Pos}
use Rattle.ada_meaning.specs.Types.{Sign, Operator, Relation}
use Rattle.ada_entities.specs.ada_rules.specs.Types.{is_integral, is_discrete, is_boolean}
use Rattle.ada_entities.specs.ada_rules.specs.Types as types
use Rattle.ada_entities.specs.ada_rules.specs.Statics.{within}
use Rattle.ada_meaning.specs.Tree as tree
use Rattle.ada_tree.specs.View.{object_of, parts_of}
use Rattle.ada_entities.specs.ada_rules.specs.Denoted as rules
use Rattle.ada_entities.specs.ada_rules.specs.Entities as entities
use Rattle.ada_entities.specs.Views.{subtype_of}
use Rattle.ada_entities.specs.EntityViews.{Tables, is_variable, constant_of, values_of}
use Rattle.ada_judged.specs.declared.judged.Indexing.{Indexing}
use Rattle.ada_judged.specs.declared.judged.Indexing.TheVariants as indexing
use Rattle.ada_judged.specs.declared.judged.Variable.{Variable}
use Rattle.ada_judged.specs.declared.judged.Form.{Form}
use Rattle.ada_judged.specs.declared.judged.Form.TheVariants as form
use Rattle.ada_judged.specs.declared.judged.Spelling.{Spelling}
use Rattle.ada_judged.specs.declared.judged.Spelling.TheVariants as spelling
use Rattle.ada_judged.specs.declared.judged.Judged.{Judged}
use Rattle.ada_judged.specs.Views.{kind_of}

abbrev pub is_indexed : Indexing → Bool
is_indexed indexing.Fixed = false
is_indexed indexing.Indexed = true

abbrev pub variable_of : Tables → Variable → entities.Variable
variable_of k v = record {
  object = object_of v.object;
  parts = parts_of v.parts.items;
  subtype = subtype_of k.types v.subtype;
  is_writable = is_variable v.access;
  is_indexed = is_indexed v.indexing;
  known = option_map constant_of v.known;
  values = values_of k v.values;
}

abbrev pub form_of : Form → rules.Form
form_of (form.Plain e) = rules.plain e
form_of (form.Test t) = rules.test_form t
form_of (form.Object v) = rules.plain (tree.read (object_of v.object) (parts_of v.parts.items))

-- the object or part of one that it reads
abbrev pub variable_in : Tables → Form → Option entities.Variable
variable_in k (form.Object v) = Some (variable_of k v)
variable_in k f = None

abbrev pub is_name : Spelling → Bool
is_name spelling.Name = true
is_name spelling.Other = false

abbrev pub judged_of : Tables → Judged → rules.Judged
judged_of k x = record {
  form = form_of x.form;
  at = x.at;
  kind = kind_of k.types x.kind;
  known = x.known;
  values = option_map (values_of k) x.values;
  variable = variable_in k x.form;
  is_name = is_name x.spelling;
}

-- an operator with one operand, by the kind of the operand
abbrev pub signed_integer : Pos → Sign → rules.Judged → Option rules.Judged
signed_integer p s x = if is_integral x.kind then Some (rules.signed p x s) else None

abbrev pub complement_of_boolean : rules.Judged → Option rules.Judged
complement_of_boolean x = if is_boolean x.kind then Some (rules.complement_of x) else None

-- operators with two operands, which fit this kind together
abbrev pub operation_of_integers : Pos → Operator → (x y : rules.Judged) → types.Kind → Option rules.Judged
operation_of_integers p o x y kind = if is_integral kind then Some (rules.operation_of p o x y kind) else None

abbrev pub relation_of_discrete : Pos → Relation → (x y : rules.Judged) → types.Kind → Option rules.Judged
relation_of_discrete p r x y kind = if is_discrete kind then Some (rules.relation_with p r x y) else None

-- a conversion to a scalar subtype
abbrev pub conversion_to : types.AdaSubtype → rules.Judged → Option rules.Judged
conversion_to t x =
    if rules.converts (types.type_in t) x.kind
    then Some (rules.valued (tree.conversion (types.range_in t) (rules.expr_of x)) (types.kind_of (types.type_in t)) None (Some (within (types.range_in t))))
    else None
