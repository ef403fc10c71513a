-- The nodes of declarations are those of the tokens that they derive.
use Rattle.std.proofs.Common.{◌≡◌, ◌+◌, List, [], length, Option, sum_by, arith}
use Rattle.std.proofs.lemmas.List.Sums.{sum_by_push, sum_by-cons}
use Rattle.ada_syntax.specs.Nodes.{if_present, bounds_nodes, range_nodes, indication_nodes, initial_nodes, component_nodes, definition_nodes, constancy_nodes, pragma_nodes, declaration_nodes, mode_nodes, parameter_nodes, specification_nodes, formal_nodes}
use Rattle.ada_syntax.specs.declared.name.Identifier.{Identifier}
use Rattle.ada_syntax.specs.declared.declaration.Bounds.{Bounds}
use Rattle.ada_syntax.specs.declared.declaration.DiscreteRange.{DiscreteRange}
use Rattle.ada_syntax.specs.declared.declaration.SubtypeIndication.{SubtypeIndication}
use Rattle.ada_syntax.specs.declared.declaration.Initial.{Initial}
use Rattle.ada_syntax.specs.declared.declaration.TypeDefinition.{TypeDefinition}
use Rattle.ada_syntax.specs.declared.declaration.Component.{Component}
use Rattle.ada_syntax.specs.declared.declaration.Constancy.{Constancy}
use Rattle.ada_syntax.specs.declared.declaration.Declaration.{Declaration}
use Rattle.ada_syntax.specs.declared.declaration.Pragma.{Pragma}
use Rattle.ada_syntax.specs.declared.unit.Mode.{Mode}
use Rattle.ada_syntax.specs.declared.unit.Parameter.{Parameter}
use Rattle.ada_syntax.specs.declared.unit.Specification.{Specification}
use Rattle.ada_syntax.specs.declared.unit.Formal.{Formal}
use Rattle.expression_parser.specs.declared.symbol.Symbol.TheVariants as symbol
use Rattle.expression_parser.specs.declared.extent.Extent.{Extent}
use Rattle.expression_parser.specs.Symbols.{identifier_of}
use Rattle.expression_parser.specs.Reading.{Tokens}
use Rattle.declaration_parser.specs.NodeTokens.{node_tokens}
use Rattle.declaration_parser.specs.Identifiers.{AreIdentifiers, one_identifier, more_identifiers}
use Rattle.declaration_parser.specs.Subtypes.{IsInitial, a_value, an_aggregate, AreBounds, low_and_high, IsRange, a_mark, a_range, IsConstraint, no_constraint, a_constraint, IsIndication, an_indication, IsComponent, a_component, AreComponents, one_component, more_components, IsDefinition, an_integer, an_enumeration, an_array, a_record}
use Rattle.declaration_parser.specs.Specifications.{IsMode, no_mode, mode_in, mode_out, mode_in_out, IsParameter, a_parameter, AreParameters, one_parameter, more_parameters, HasParameters, no_parameters, some_parameters, IsSpecification, a_procedure, a_function}
use Rattle.declaration_parser.specs.Declarations.{IsExemption, an_on, an_off, IsPragma, a_pragma, IsConstancy, a_variable, a_constant, HasInitial, no_initial, an_initial, IsDeclaration, a_type, a_subtype, an_object, an_exception, an_exemption, AreDeclarations, no_declarations, more_declarations}
use Rattle.declaration_parser.specs.Formals.{IsFormalMode, no_formal_mode, formal_in, IsFormal, a_discrete_type, an_integer_type, a_formal_object, a_formal_subprogram, AreFormals, no_formals, more_formals}
use Rattle.declaration_parser.proofs.ExpressionNodes.{at, length-push, expr_nodes_of, name_nodes_of}

pub identifiers_nodes_of : {is : List Identifier} {ts rest : Tokens} → AreIdentifiers is ts rest → node_tokens ts ≡ length is + node_tokens rest
identifiers_nodes_of (one_identifier {t = t} i) = omega (arith, at symbol.Identifier t i)
identifiers_nodes_of (more_identifiers {t = t} {u = u} {is = is} d i j) = omega (arith, identifiers_nodes_of d, at symbol.Comma t i, at symbol.Identifier u j, length-push is (identifier_of u))

mode_nodes_of : {k : Mode} {ts rest : Tokens} → IsMode k ts rest → node_tokens ts ≡ mode_nodes k + node_tokens rest
mode_nodes_of no_mode = omega arith
mode_nodes_of (mode_in {t = t} i) = omega (arith, at symbol.In t i)
mode_nodes_of (mode_out {t = t} i) = omega (arith, at symbol.Out t i)
mode_nodes_of (mode_in_out {t = t} {u = u} i j) = omega (arith, at symbol.In t i, at symbol.Out u j)

formal_mode_nodes_of : {k : Mode} {ts rest : Tokens} → IsFormalMode k ts rest → node_tokens ts ≡ mode_nodes k + node_tokens rest
formal_mode_nodes_of no_formal_mode = omega arith
formal_mode_nodes_of (formal_in {t = t} i) = omega (arith, at symbol.In t i)

exemption_nodes_of : {a : Pragma} {ts rest : Tokens} → IsExemption a ts rest → node_tokens ts + 3 ≡ pragma_nodes a + node_tokens rest
exemption_nodes_of (an_on {t = t} {u = u} {v = v} {w = w} {z = z} a b c d e) = omega (arith, at symbol.Identifier t a.0, at symbol.Comma u b, at symbol.Text v c, at symbol.RightParenthesis w d, at symbol.Semicolon z e)
exemption_nodes_of (an_off {t = t} {u = u} {v = v} a b c) = omega (arith, at symbol.Identifier t a.0, at symbol.RightParenthesis u b, at symbol.Semicolon v c)

constancy_nodes_of : {k : Constancy} {ts rest : Tokens} → IsConstancy k ts rest → node_tokens ts ≡ constancy_nodes k + node_tokens rest
constancy_nodes_of a_variable = omega arith
constancy_nodes_of (a_constant {t = t} i) = omega (arith, at symbol.Constant t i)

module _ (x : Extent) where
  pub initial_nodes_of : {i : Initial} {ts rest : Tokens} → IsInitial x i ts rest → node_tokens ts ≡ initial_nodes i + node_tokens rest
  initial_nodes_of (a_value d) = omega (arith, expr_nodes_of x d)
  initial_nodes_of (an_aggregate {t = t} {u = u} {v = v} {w = w} o i j k d l) = omega (arith, at symbol.LeftParenthesis t i, at symbol.Others u j, at symbol.Arrow v k, initial_nodes_of d, at symbol.RightParenthesis w l)

  pub bounds_nodes_of : {b : Bounds} {ts rest : Tokens} → AreBounds x b ts rest → node_tokens ts ≡ bounds_nodes b + node_tokens rest
  bounds_nodes_of (low_and_high {t = t} d i e) = omega (arith, expr_nodes_of x d, at symbol.DoubleDot t i, expr_nodes_of x e)

  pub range_nodes_of : {r : DiscreteRange} {ts rest : Tokens} → IsRange x r ts rest → node_tokens ts ≡ range_nodes r + node_tokens rest
  range_nodes_of (a_mark o d) = name_nodes_of x d
  range_nodes_of (a_range o d) = bounds_nodes_of d

  constraint_nodes_of : {c : Option Bounds} {ts rest : Tokens} → IsConstraint x c ts rest → node_tokens ts ≡ if_present (λ b. 1 + bounds_nodes b) c + node_tokens rest
  constraint_nodes_of no_constraint = omega arith
  constraint_nodes_of (a_constraint {t = t} o i d) = omega (arith, at symbol.Range t i, bounds_nodes_of d)

  pub indication_nodes_of : {s : SubtypeIndication} {ts rest : Tokens} → IsIndication x s ts rest → node_tokens ts ≡ indication_nodes s + node_tokens rest
  indication_nodes_of (an_indication d e) = omega (arith, name_nodes_of x d, constraint_nodes_of e)

  component_nodes_of : {c : Component} {ts rest : Tokens} → IsComponent x c ts rest → node_tokens ts ≡ component_nodes c + node_tokens rest
  component_nodes_of (a_component {t = t} {u = u} d i e j) = omega (arith, identifiers_nodes_of d, at symbol.Colon t i, indication_nodes_of e, at symbol.Semicolon u j)

  components_nodes_of : {cs : List Component} {ts rest : Tokens} → AreComponents x cs ts rest → node_tokens ts ≡ sum_by component_nodes cs + node_tokens rest
  components_nodes_of (one_component {c = c} d) = omega (arith, component_nodes_of d, sum_by-cons component_nodes c [])
  components_nodes_of (more_components {c = c} {cs = cs} l d) = omega (arith, components_nodes_of l, component_nodes_of d, sum_by_push component_nodes cs c)

  definition_nodes_of : {d : TypeDefinition} {ts rest : Tokens} → IsDefinition x d ts rest → node_tokens ts ≡ definition_nodes d + node_tokens rest
  definition_nodes_of (an_integer {t = t} o i d) = omega (arith, at symbol.Range t i, bounds_nodes_of d)
  definition_nodes_of (an_enumeration {t = t} {u = u} o i d j) = omega (arith, at symbol.LeftParenthesis t i, identifiers_nodes_of d, at symbol.RightParenthesis u j)
  definition_nodes_of (an_array {t = t} {u = u} {v = v} {w = w} o i j d k l e) =
      omega (arith, at symbol.Array t i, at symbol.LeftParenthesis u j, range_nodes_of d, at symbol.RightParenthesis v k, at symbol.Of w l, indication_nodes_of e)
  definition_nodes_of (a_record {t = t} {u = u} {v = v} o i d j k) = omega (arith, at symbol.Record t i, components_nodes_of d, at symbol.End u j, at symbol.Record v k)

  parameter_nodes_of : {p : Parameter} {ts rest : Tokens} → IsParameter x p ts rest → node_tokens ts ≡ parameter_nodes p + node_tokens rest
  parameter_nodes_of (a_parameter {t = t} d i e f) = omega (arith, identifiers_nodes_of d, at symbol.Colon t i, mode_nodes_of e, name_nodes_of x f)

  parameters_nodes_of : {ps : List Parameter} {ts rest : Tokens} → AreParameters x ps ts rest → node_tokens ts ≡ sum_by parameter_nodes ps + node_tokens rest
  parameters_nodes_of (one_parameter {p = p} d) = omega (arith, parameter_nodes_of d, sum_by-cons parameter_nodes p [])
  parameters_nodes_of (more_parameters {t = t} {p = p} {ps = ps} l i d) = omega (arith, parameters_nodes_of l, at symbol.Semicolon t i, parameter_nodes_of d, sum_by_push parameter_nodes ps p)

  profile_nodes_of : {ps : List Parameter} {ts rest : Tokens} → HasParameters x ps ts rest → node_tokens ts ≡ sum_by parameter_nodes ps + node_tokens rest
  profile_nodes_of no_parameters = omega arith
  profile_nodes_of (some_parameters {t = t} {u = u} o i d j) = omega (arith, at symbol.LeftParenthesis t i, parameters_nodes_of d, at symbol.RightParenthesis u j)

  pub specification_nodes_of : {s : Specification} {ts rest : Tokens} → IsSpecification x s ts rest → node_tokens ts ≡ specification_nodes s + node_tokens rest
  specification_nodes_of (a_procedure {t = t} {u = u} h i d) = omega (arith, at symbol.Procedure t h, at symbol.Identifier u i, profile_nodes_of d)
  specification_nodes_of (a_function {t = t} {u = u} {v = v} o h i d j e) = omega (arith, at symbol.Function t h, at symbol.Identifier u i, profile_nodes_of d, at symbol.Return v j, name_nodes_of x e)

  pub pragma_nodes_of : {a : Pragma} {ts rest : Tokens} → IsPragma x a ts rest → node_tokens ts ≡ pragma_nodes a + node_tokens rest
  pragma_nodes_of (a_pragma {t = t} {u = u} {v = v} {w = w} {z = z} o h b c d e f) =
      omega (arith, at symbol.Pragma t h, at symbol.Identifier u b.0, at symbol.LeftParenthesis v c, at symbol.Identifier w d.0, at symbol.Comma z e, exemption_nodes_of f)

  initial_part_nodes_of : {i : Option Initial} {ts rest : Tokens} → HasInitial x i ts rest → node_tokens ts ≡ if_present (λ z. 1 + initial_nodes z) i + node_tokens rest
  initial_part_nodes_of no_initial = omega arith
  initial_part_nodes_of (an_initial {t = t} i d) = omega (arith, at symbol.Becomes t i, initial_nodes_of d)

  pub declaration_nodes_of : {d : Declaration} {ts rest : Tokens} → IsDeclaration x d ts rest → node_tokens ts ≡ declaration_nodes d + node_tokens rest
  declaration_nodes_of (a_type {t = t} {u = u} {v = v} {w = w} o h i j d k) = omega (arith, at symbol.Type t h, at symbol.Identifier u i, at symbol.Is v j, definition_nodes_of d, at symbol.Semicolon w k)
  declaration_nodes_of (a_subtype {t = t} {u = u} {v = v} {w = w} o h i j d k) = omega (arith, at symbol.Subtype t h, at symbol.Identifier u i, at symbol.Is v j, indication_nodes_of d, at symbol.Semicolon w k)
  declaration_nodes_of (an_object {u = u} {v = v} o d i c e f j) = omega (arith, identifiers_nodes_of d, at symbol.Colon u i, constancy_nodes_of c, indication_nodes_of e, initial_part_nodes_of f, at symbol.Semicolon v j)
  declaration_nodes_of (an_exception {u = u} {v = v} {w = w} o d i h j) = omega (arith, identifiers_nodes_of d, at symbol.Colon u i, at symbol.Exception v h, at symbol.Semicolon w j)
  declaration_nodes_of (an_exemption d) = pragma_nodes_of d

  pub declarations_nodes_of : {ds : List Declaration} {ts rest : Tokens} → AreDeclarations x ds ts rest → node_tokens ts ≡ sum_by declaration_nodes ds + node_tokens rest
  declarations_nodes_of no_declarations = omega arith
  declarations_nodes_of (more_declarations {d = d} {ds = ds} l e) = omega (arith, declarations_nodes_of l, declaration_nodes_of e, sum_by_push declaration_nodes ds d)

  formal_nodes_of : {f : Formal} {ts rest : Tokens} → IsFormal x f ts rest → node_tokens ts ≡ formal_nodes f + node_tokens rest
  formal_nodes_of (a_discrete_type {t = t} {u = u} {v = v} {a = a} {b = b} {c = c} {d = d} o h i j k l p q) =
      omega (arith, at symbol.Type t h, at symbol.Identifier u i, at symbol.Is v j, at symbol.LeftParenthesis a k, at symbol.Box b l, at symbol.RightParenthesis c p, at symbol.Semicolon d q)
  formal_nodes_of (an_integer_type {t = t} {u = u} {v = v} {a = a} {b = b} {c = c} o h i j k l p) =
      omega (arith, at symbol.Type t h, at symbol.Identifier u i, at symbol.Is v j, at symbol.Range a k, at symbol.Box b l, at symbol.Semicolon c p)
  formal_nodes_of (a_formal_object {t = t} {u = u} {v = v} o i j d e q) = omega (arith, at symbol.Identifier t i, at symbol.Colon u j, formal_mode_nodes_of d, name_nodes_of x e, at symbol.Semicolon v q)
  formal_nodes_of (a_formal_subprogram {t = t} {u = u} o h d i) = omega (arith, at symbol.With t h, specification_nodes_of d, at symbol.Semicolon u i)

  pub formals_nodes_of : {fs : List Formal} {ts rest : Tokens} → AreFormals x fs ts rest → node_tokens ts ≡ sum_by formal_nodes fs + node_tokens rest
  formals_nodes_of no_formals = omega arith
  formals_nodes_of (more_formals {f = f} {fs = fs} l d) = omega (arith, formals_nodes_of l, formal_nodes_of d, sum_by_push formal_nodes fs f)
