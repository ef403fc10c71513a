-- What leads only to what is there, where there are so many types and subprograms, and these instances were made.
use Rattle.std.specs.Prelude.{◌≡◌, ℕ, nat_lt, Bool, true, false, not, ◌&&◌, List, ◌∷◌, replicate, slice_get, unwrap_or, Option, Some, None}
use Rattle.std.specs.List.{list_all}
use Rattle.ada_meaning.specs.Types.{Owner}
use Rattle.ada_tree.specs.View.{owner_of}
use Rattle.ada_entities.specs.declared.types.AdaType.{AdaType}
use Rattle.ada_entities.specs.declared.entity.RoutineName.{RoutineName}
use Rattle.ada_entities.specs.declared.entity.Entity.{Entity}
use Rattle.ada_entities.specs.declared.entity.Entity.TheVariants as entity
use Rattle.ada_entities.specs.declared.composite.Component.{Component}
use Rattle.ada_entities.specs.declared.composite.Definition.{Definition}
use Rattle.ada_entities.specs.declared.routines.Parameter.{Parameter}
use Rattle.ada_entities.specs.declared.routines.ResultMark.{ResultMark}
use Rattle.ada_entities.specs.declared.routines.Routine.{Routine}
use Rattle.ada_entities.specs.declared.units.Interface.{Interface}
use Rattle.ada_entities.specs.declared.units.Interface.TheVariants as interface
use Rattle.ada_entities.specs.Views.{is_known_owner, is_known}
use Rattle.ada_entities.specs.Tables.{are_known, is_earlier}
use Rattle.ada_phrases.specs.ada_judged.specs.declared.kind.Kind.{Kind}
use Rattle.ada_phrases.specs.ada_judged.specs.declared.kind.Kind.TheVariants as kind
use Rattle.ada_phrases.specs.ada_judged.specs.declared.judged.Form.{Form}
use Rattle.ada_phrases.specs.ada_judged.specs.declared.judged.Form.TheVariants as form
use Rattle.ada_phrases.specs.ada_judged.specs.declared.judged.Judged.{Judged}
use Rattle.ada_phrases.specs.declared.names.Denoted.{Denoted}
use Rattle.ada_phrases.specs.declared.names.Denoted.TheVariants as denoted
use Rattle.program_walk.specs.declared.extent.Extent.{Extent}

-- whether an instance was made
abbrev pub knows_instance : Extent → ℕ → Bool
knows_instance e i = unwrap_or (slice_get e.made.items i) false

-- whether it has a place, and was not made
abbrev pub awaits : Extent → ℕ → Bool
awaits e i = not (unwrap_or (slice_get e.made.items i) true)

-- before any unit: instance 0 and the subprograms of Test_IO, and places for so many other instances
pub record IsFreshExtent (others : ℕ) (e : Extent) : Type 0 where
  pub types : e.types ≡ 0
  pub made : e.made.items ≡ true ∷ replicate others false
  pub routines : e.routines ≡ 2

abbrev pub knows_owner : Extent → Owner → Bool
knows_owner e o = is_known_owner (knows_instance e) o

abbrev pub knows_type : Extent → AdaType → Bool
knows_type e t = is_known e.types (knows_instance e) t

abbrev pub knows_routine : Extent → RoutineName → Bool
knows_routine e r = nat_lt r.number e.routines && knows_owner e (owner_of r.seen)

abbrev pub knows_entity : Extent → Entity → Bool
knows_entity e (entity.Mark i t) = knows_type e t.of
knows_entity e (entity.Literal t x) = knows_type e t
knows_entity e (entity.Object o) = knows_type e o.subtype.of
knows_entity e (entity.FormalObject t o v) = knows_type e t.of
knows_entity e (entity.Routine r) = knows_routine e r
knows_entity e x = true

-- the definition of a composite type, and a subprogram
abbrev pub knows_components : Extent → List Component → Bool
knows_components e cs = are_known e.types (knows_instance e) cs

abbrev pub knows_definition : Extent → Definition → Bool
knows_definition e d = is_earlier (knows_instance e) e.types d

abbrev pub knows_parameters : Extent → List Parameter → Bool
knows_parameters e qs = list_all (λ q. knows_type e q.subtype.of) qs

abbrev pub knows_result : Extent → Option ResultMark → Bool
knows_result e None = true
knows_result e (Some r) = knows_type e r.subtype.of

abbrev pub knows_subprogram : Extent → Routine → Bool
knows_subprogram e r = knows_parameters e r.parameters && knows_result e r.result

-- what expressions and names were judged to be
abbrev pub knows_kind : Extent → Kind → Bool
knows_kind e kind.Universal = true
knows_kind e (kind.Of t) = knows_type e t

abbrev pub knows_form : Extent → Form → Bool
knows_form e (form.Object v) = knows_type e v.subtype.of
knows_form e f = true

abbrev pub knows_judged : Extent → Judged → Bool
knows_judged e x = knows_kind e x.kind && knows_form e x.form

abbrev pub knows_denoted : Extent → Denoted → Bool
knows_denoted e (denoted.Mark i t) = knows_type e t.of
knows_denoted e (denoted.Value x) = knows_judged e x
knows_denoted e (denoted.Variable v) = knows_type e v.subtype.of
knows_denoted e (denoted.Routine r) = knows_routine e r
knows_denoted e (denoted.Call r actuals) = knows_routine e r
knows_denoted e d = true

-- what is seen of a unit, but for its regions
abbrev pub knows_interface : Extent → Interface → Bool
knows_interface e (interface.Instance g n) = knows_instance e n
knows_interface e (interface.Subprogram r) = knows_routine e r
knows_interface e i = true
