-- What leads only to what is there is the same in tables that are alike.
use Rattle.std.proofs.Common.{◌≡◌, nat_lt, true, false, List, [], ◌∷◌, map, Option, Some, None, option_map, slice_get, unwrap_or, refl, ap}
use Rattle.std.proofs.lemmas.Bool.{and_parts, ltb-true}
use Rattle.ada_meaning.specs.Program.{in_mode}
use Rattle.ada_meaning.specs.Tree as tree
use Rattle.ada_meaning.specs.Types.{Owner, here, of_instance}
use Rattle.ada_tree.specs.Programs.{mode_of}
use Rattle.ada_tree.specs.View.{owner_of, static_by, static_value_of, object_of, parts_of, callee_of}
use Rattle.ada_rules.specs.Types.{AdaType, AdaSubtype, integer_subtype, range_in}
use Rattle.ada_rules.specs.Types as types
use Rattle.ada_rules.specs.Statics.{within}
use Rattle.ada_rules.specs.Entities as rules
use Rattle.ada_rules.specs.Entities.{routine_seen}
use Rattle.ada_rules.specs.Denoted as names
use Rattle.ada_entities.specs.declared.types.AdaType.{AdaType as CodeType}
use Rattle.ada_entities.specs.declared.types.Subtype.{Subtype}
use Rattle.ada_entities.specs.declared.entity.Values.{Values}
use Rattle.ada_entities.specs.declared.entity.Values.TheVariants as values
use Rattle.ada_entities.specs.declared.entity.DeclaredObject.{DeclaredObject}
use Rattle.ada_entities.specs.declared.entity.RoutineName.{RoutineName}
use Rattle.ada_entities.specs.declared.entity.Entity.{Entity}
use Rattle.ada_entities.specs.declared.entity.Entity.TheVariants as entity
use Rattle.ada_entities.specs.declared.routines.Parameter.{Parameter}
use Rattle.ada_entities.specs.declared.routines.ResultMark.{ResultMark}
use Rattle.ada_entities.specs.declared.routines.Routine.{Routine}
use Rattle.ada_entities.specs.Views.{identity_of, type_of, subtype_of}
use Rattle.ada_entities.specs.EntityViews.{Tables, constant_of, values_of, is_variable, variable_of, awaits_body, no_routine, routine_by, awaiting, routine_of, entity_of}
use Rattle.ada_entities.specs.RoutineViews.{parameter_of, result_of, routine_in}
use Rattle.ada_entities.proofs.Agreement.{Agree, type_agrees, subtype_agrees}
use Rattle.ada_phrases.specs.ada_judged.specs.declared.judged.Variable.{Variable}
use Rattle.ada_phrases.specs.ada_judged.specs.declared.judged.Form.{Form}
use Rattle.ada_phrases.specs.ada_judged.specs.declared.judged.Form.TheVariants as form
use Rattle.ada_phrases.specs.ada_judged.specs.declared.judged.Judged.{Judged}
use Rattle.ada_phrases.specs.ada_judged.specs.declared.kind.Kind.{Kind}
use Rattle.ada_phrases.specs.ada_judged.specs.declared.kind.Kind.TheVariants as kind
use Rattle.ada_phrases.specs.ada_judged.specs.Views.{kind_of}
use Rattle.ada_phrases.specs.ada_judged.specs.JudgedView as judged
use Rattle.ada_phrases.specs.ada_judged.specs.JudgedView.{is_indexed, form_of, variable_in, is_name, judged_of}
use Rattle.ada_phrases.specs.declared.names.Denoted.{Denoted}
use Rattle.ada_phrases.specs.declared.names.Denoted.TheVariants as denoted
use Rattle.ada_phrases.specs.DenotedView.{denotes}
use Rattle.ada_tree.specs.View as view
use Rattle.program_walk.specs.declared.extent.Extent.{Extent}
use Rattle.program_walk.specs.Known.{knows_instance, knows_type, knows_owner, knows_routine, knows_entity, knows_parameters, knows_result, knows_subprogram, knows_kind, knows_form, knows_judged, knows_denoted}
use Rattle.program_walk.specs.Alike.{AreAlike, AreAllAlike}

module _ {e : Extent} {k l : Tables} (a : AreAlike e k l) where
  pub agreeing : Agree e.types (knows_instance e) k.types l.types
  agreeing = record { shapes = a.shapes; instances = a.instances }

  type_same : (t : CodeType) → knows_type e t ≡ true → type_of k.types t ≡ type_of l.types t
  type_same t h = type_agrees agreeing t h

  subtype_same : (t : Subtype) → knows_type e t.of ≡ true → subtype_of k.types t ≡ subtype_of l.types t
  subtype_same t h = subtype_agrees agreeing t h

  values_same : (v : Values) → values_of k v ≡ values_of l v
  values_same (values.Within r) = refl
  values_same (values.OfFormalType place) = refl
  values_same (values.OfFormalResult place) = refl
  values_same (values.Listed n) = ap (λ spans. unwrap_or (slice_get spans n) (within (range_in integer_subtype))) a.spans

  -- subprograms
  parameter_same : (q : Parameter) → knows_type e q.subtype.of ≡ true → parameter_of k.types q ≡ parameter_of l.types q
  parameter_same q h = λ z. record {
    name = q.name;
    mode = mode_of q.mode;
    mark = option_map identity_of q.mark;
    subtype = subtype_same q.subtype h z;
  }

  parameters_same : (qs : List Parameter) → knows_parameters e qs ≡ true → map (parameter_of k.types) qs ≡ map (parameter_of l.types) qs
  parameters_same [] h = refl
  parameters_same (q ∷ qs) h =
      let p = and_parts (knows_type e q.subtype.of) (knows_parameters e qs) h in
      λ z. parameter_same q p.0 z ∷ parameters_same qs p.1 z

  result_same : (r : Option ResultMark) → knows_result e r ≡ true → option_map (result_of k.types) r ≡ option_map (result_of l.types) r
  result_same None h = refl
  result_same (Some r) h = λ z. Some (record {
    name = [];
    mode = in_mode;
    mark = option_map identity_of r.mark;
    subtype = subtype_same r.subtype h z;
  })

  pub subprogram_same : (r : Routine) → knows_subprogram e r ≡ true → routine_in k r ≡ routine_in l r
  subprogram_same r h =
      let p = and_parts (knows_parameters e r.parameters) (knows_result e r.result) h in
      λ z. record {
        callee = callee_of r.callee;
        parameters = parameters_same r.parameters p.0 z;
        result = result_same r.result p.1 z;
        values = values_same r.values z;
        awaits_body = false;
      }

  -- objects
  declared_same : (o : DeclaredObject) → knows_type e o.subtype.of ≡ true → variable_of k o ≡ variable_of l o
  declared_same o h = λ z. record {
    object = object_of o.object;
    parts = tree.whole;
    subtype = subtype_same o.subtype h z;
    is_writable = is_variable o.access;
    is_indexed = false;
    known = option_map constant_of o.known;
    values = values_same o.values z;
  }

  variable_same : (v : Variable) → knows_type e v.subtype.of ≡ true → judged.variable_of k v ≡ judged.variable_of l v
  variable_same v h = λ z. record {
    object = object_of v.object;
    parts = parts_of v.parts.items;
    subtype = subtype_same v.subtype h z;
    is_writable = is_variable v.access;
    is_indexed = is_indexed v.indexing;
    known = option_map constant_of v.known;
    values = values_same v.values z;
  }

  -- expressions
  kind_same : (x : Kind) → knows_kind e x ≡ true → kind_of k.types x ≡ kind_of l.types x
  kind_same kind.Universal h = refl
  kind_same (kind.Of t) h = ap types.kind_of (type_same t h)

  form_same : (f : Form) → knows_form e f ≡ true → variable_in k f ≡ variable_in l f
  form_same (form.Plain x) h = refl
  form_same (form.Test t) h = refl
  form_same (form.Object v) h = ap (λ x. Some x) (variable_same v h)

  spans_same : (o : Option Values) → option_map (values_of k) o ≡ option_map (values_of l) o
  spans_same None = refl
  spans_same (Some v) = ap (λ x. Some x) (values_same v)

  pub judged_same : (x : Judged) → knows_judged e x ≡ true → judged_of k x ≡ judged_of l x
  judged_same x h =
      let p = and_parts (knows_kind e x.kind) (knows_form e x.form) h in
      λ z. record {
        form = form_of x.form;
        at = x.at;
        kind = kind_same x.kind p.0 z;
        known = x.known;
        values = spans_same x.values z;
        variable = form_same x.form p.1 z;
        is_name = is_name x.spelling;
      }

  -- a subprogram as it is seen
  seen_same : (o : Owner) → knows_owner e o ≡ true → (r s : rules.Routine) → r ≡ s → routine_by k o r ≡ routine_by l o s
  seen_same here h r s same = same
  seen_same (of_instance n) h r s same = λ z. routine_seen n (a.instances n h z) (same z)

module _ {e : Extent} {k l : Tables} (a : AreAllAlike e k l) where
  pub routine_same : (r : RoutineName) → knows_routine e r ≡ true → routine_of k r ≡ routine_of l r
  routine_same r h =
      let p = and_parts (nat_lt r.number e.routines) (knows_owner e (owner_of r.seen)) h in
      ap (awaiting (awaits_body r.completion))
      (seen_same a.typed (owner_of r.seen) p.1 _ _
      (ap (λ o. unwrap_or o no_routine) (a.routines r.number (ltb-true r.number e.routines p.0))))

  pub entity_same : (x : Entity) → knows_entity e x ≡ true → entity_of k x ≡ entity_of l x
  entity_same entity.Hidden h = refl
  entity_same (entity.Mark i t) h = ap (rules.mark (identity_of i)) (subtype_same a.typed t h)
  entity_same (entity.Literal t x) h = ap (λ u. rules.literal u x) (type_same a.typed t h)
  entity_same (entity.Object o) h = ap rules.object (declared_same a.typed o h)
  entity_same (entity.FormalObject t o v) h =
      ap (λ u. rules.formal_object u (static_by o (static_value_of v))) (subtype_same a.typed t h)
  entity_same (entity.Routine r) h = ap rules.routine (routine_same r h)
  entity_same (entity.Exception x) h = refl
  entity_same entity.Component h = refl
  entity_same entity.TestIo h = refl
  entity_same (entity.Unit n) h = refl

  pub denoted_same : (d : Denoted) → knows_denoted e d ≡ true → denotes k d ≡ denotes l d
  denoted_same (denoted.Mark i t) h = ap (names.a_mark (identity_of i)) (subtype_same a.typed t h)
  denoted_same (denoted.Value x) h = ap names.a_value (judged_same a.typed x h)
  denoted_same (denoted.Variable v) h = ap names.a_variable (variable_same a.typed v h)
  denoted_same (denoted.Routine r) h = ap names.a_routine (routine_same r h)
  denoted_same (denoted.Call r actuals) h = ap (λ x. names.a_call x (view.actuals_of actuals.items)) (routine_same r h)
  denoted_same (denoted.Exception x) h = refl
  denoted_same (denoted.Unit n) h = refl
  denoted_same denoted.TestIo h = refl
  denoted_same denoted.Thing h = refl
