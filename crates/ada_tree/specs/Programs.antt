-- The plain data that a typed program is seen as: its composite types are unfolded from their table.
use Rattle.std.specs.Prelude.{ℕ, zero, suc, List, [], ◌∷◌, ◌++◌, map, option_map, slice_get, unwrap_or}
use Rattle.ada_meaning.specs.Seen.{subtype_seen}
use Rattle.ada_meaning.specs.Types.{Subtype, scalar, array, fields, subtype_of, Components, no_component, and_component}
use Rattle.ada_meaning.specs.Tree as tree
use Rattle.ada_meaning.specs.Program as meaning
use Rattle.ada_tree.specs.View.{static_of, range_of, scalar_range_of, numbered, composite_of}
use Rattle.ada_tree.specs.View as view
use Rattle.ada_tree.specs.declared.types.TypeDeclaration.{TypeDeclaration}
use Rattle.ada_tree.specs.declared.program.Mode.{Mode}
use Rattle.ada_tree.specs.declared.program.Mode.TheVariants as mode
use Rattle.ada_tree.specs.declared.program.Parameter.{Parameter}
use Rattle.ada_tree.specs.declared.program.Subprogram.{Subprogram}
use Rattle.ada_tree.specs.declared.program.Initial.{Initial}
use Rattle.ada_tree.specs.declared.program.Initial.TheVariants as initial
use Rattle.ada_tree.specs.declared.program.LibraryObject.{LibraryObject}
use Rattle.ada_tree.specs.declared.program.GenericConstant.{GenericConstant}
use Rattle.ada_tree.specs.declared.program.Target.{Target}
use Rattle.ada_tree.specs.declared.program.Target.TheVariants as target
use Rattle.ada_tree.specs.declared.program.FormalActual.{FormalActual}
use Rattle.ada_tree.specs.declared.program.FormalActual.TheVariants as given
use Rattle.ada_tree.specs.declared.program.Instance.{Instance}
use Rattle.ada_tree.specs.declared.program.ExceptionDeclaration.{ExceptionDeclaration}
use Rattle.ada_tree.specs.declared.program.Raisable.{Raisable}
use Rattle.ada_tree.specs.declared.program.Program.{Program}
use Rattle.ada_tree.specs.declared.types.Range.{Range}

-- unfolding by a table of types, those that stand so far
module _ (types : List Subtype) where
  abbrev mutual
    -- A type, with those that it names by number; a number without a type stays. One of an instance's text is as it is seen through the
    -- instance.
    pub unfolded : Subtype → Subtype
    unfolded (scalar r) = scalar r
    unfolded (array r t) = array r (unfolded t)
    unfolded (fields cs) = fields (unfolded_components cs)
    unfolded (subtype_of n (fields no_component)) = unwrap_or (slice_get types n) (numbered n)
    unfolded (subtype_of i (subtype_of n (fields no_component))) = unwrap_or (option_map (subtype_seen i) (slice_get types n)) (subtype_of i (numbered n))
    unfolded (subtype_of i t) = subtype_of i (unfolded t)

    pub unfolded_components : Components → Components
    unfolded_components no_component = no_component
    unfolded_components (and_component t cs) = and_component (unfolded t) (unfolded_components cs)

  abbrev pub unfolded_value : tree.NewValue → tree.NewValue
  unfolded_value (tree.scalar_value r e) = tree.scalar_value r e
  unfolded_value (tree.composite_value t o parts) = tree.composite_value (unfolded t) o parts
  unfolded_value (tree.others_value r v) = tree.others_value r (unfolded_value v)

  abbrev pub unfolded_declaration : tree.Declaration → tree.Declaration
  unfolded_declaration (tree.initialized l d v) = tree.initialized l d (unfolded_value v)
  unfolded_declaration (tree.without_value d t) = tree.without_value d (unfolded t)

  abbrev mutual
    pub unfolded_statement : tree.Stmt → tree.Stmt
    unfolded_statement (tree.null_statement l) = tree.null_statement l
    unfolded_statement (tree.assignment l o parts v) = tree.assignment l o parts (unfolded_value v)
    unfolded_statement (tree.procedure_call l c actuals) = tree.procedure_call l c actuals
    unfolded_statement (tree.if_statement l bs) = tree.if_statement l (unfolded_branches bs)
    unfolded_statement (tree.case_statement l e choices) = tree.case_statement l e (unfolded_alternatives choices)
    unfolded_statement (tree.bare_loop l ss) = tree.bare_loop l (unfolded_statements ss)
    unfolded_statement (tree.while_loop l d t ss) = tree.while_loop l d t (unfolded_statements ss)
    unfolded_statement (tree.for_loop l d reversed ts ss) = tree.for_loop l d reversed ts (unfolded_statements ss)
    unfolded_statement (tree.exit_statement l) = tree.exit_statement l
    unfolded_statement (tree.exit_when l d t) = tree.exit_when l d t
    unfolded_statement (tree.return_statement l) = tree.return_statement l
    unfolded_statement (tree.return_value l r e) = tree.return_value l r e
    unfolded_statement (tree.raise_statement l x) = tree.raise_statement l x
    unfolded_statement (tree.raise_again l) = tree.raise_again l
    unfolded_statement (tree.block_statement b) = tree.block_statement (unfolded_block b)

    pub unfolded_statements : tree.Stmts → tree.Stmts
    unfolded_statements tree.no_statement = tree.no_statement
    unfolded_statements (tree.and_statement s ss) = tree.and_statement (unfolded_statement s) (unfolded_statements ss)

    pub unfolded_branches : tree.Branches → tree.Branches
    unfolded_branches (tree.else_part ss) = tree.else_part (unfolded_statements ss)
    unfolded_branches (tree.branch d t ss bs) = tree.branch d t (unfolded_statements ss) (unfolded_branches bs)

    pub unfolded_alternatives : tree.Alternatives → tree.Alternatives
    unfolded_alternatives tree.no_alternative = tree.no_alternative
    unfolded_alternatives (tree.alternative cs ss rest) = tree.alternative cs (unfolded_statements ss) (unfolded_alternatives rest)

    pub unfolded_handlers : tree.Handlers → tree.Handlers
    unfolded_handlers tree.no_handler = tree.no_handler
    unfolded_handlers (tree.handler cs ss hs) = tree.handler cs (unfolded_statements ss) (unfolded_handlers hs)

    pub unfolded_block : tree.Block → tree.Block
    unfolded_block (tree.block ds ss hs) = tree.block (map unfolded_declaration ds) (unfolded_statements ss) (unfolded_handlers hs)

-- the types of a table behind others, each unfolded by those before it
abbrev pub types_behind : List Subtype → List TypeDeclaration → List Subtype
types_behind types [] = types
types_behind types (t ∷ ts) = types_behind (types ++ unfolded types (composite_of t.definition) ∷ []) ts

abbrev pub types_of : List TypeDeclaration → List Subtype
types_of ts = types_behind [] ts

abbrev pub mode_of : Mode → meaning.Mode
mode_of mode.In = meaning.in_mode
mode_of mode.Out = meaning.out_mode
mode_of mode.InOut = meaning.in_out_mode

abbrev pub parameter_of : List Subtype → Parameter → meaning.Parameter
parameter_of types q = record { declaration = q.number; mode = mode_of q.mode; subtype = unfolded types (view.subtype_of q.subtype) }

abbrev pub subprogram_of : List Subtype → Subprogram → meaning.Subprogram
subprogram_of types s = record {
  generic = s.generic;
  parameters = map (parameter_of types) s.parameters;
  objects = map (λ t. unfolded types (view.subtype_of t)) s.objects;
  body = unfolded_block types s.body;
}

-- a value in so many (others => ..)
abbrev pub in_others : ℕ → meaning.Initial → meaning.Initial
in_others zero v = v
in_others (suc n) v = meaning.others_initial (in_others n v)

abbrev pub initial_of : Initial → meaning.Initial
initial_of initial.None = meaning.no_initial
initial_of (initial.Static others e) = in_others others (meaning.static_initial (static_of e))

abbrev pub library_object_of : List Subtype → LibraryObject → meaning.LibraryObject
library_object_of types o = record {
  declaration = o.declaration;
  generic = o.generic;
  subtype = unfolded types (view.subtype_of o.subtype);
  initial = initial_of o.initial;
}

abbrev pub constant_of : GenericConstant → meaning.GenericConstant
constant_of c = record { generic = c.generic; value = static_of c.value; range = scalar_range_of c.range }

abbrev pub target_of : Target → meaning.Target
target_of target.TestGet = meaning.get_target
target_of target.TestPut = meaning.put_target
target_of (target.Body i n) = meaning.body_target i n

abbrev pub bounds_of : Range → meaning.Bounds
bounds_of r = record { low = r.first; high = r.last }

abbrev pub formal_actual_of : FormalActual → meaning.FormalActual
formal_actual_of (given.Object e x) = meaning.actual_object (static_of e) x
formal_actual_of (given.Type r b c) = meaning.actual_type (scalar_range_of r) (bounds_of b) (bounds_of c)
formal_actual_of (given.Subprogram t) = meaning.actual_subprogram (target_of t)

abbrev pub instance_of : Instance → meaning.Instance
instance_of i = record {
  name = i.name;
  place = i.place;
  generic = i.generic;
  actuals = map formal_actual_of i.actuals;
  constants = i.constants;
}

abbrev pub exception_declaration_of : ExceptionDeclaration → meaning.ExceptionDeclaration
exception_declaration_of d = record { declaration = d.declaration; place = d.place; generic = d.generic; unit = d.unit; name = d.name }

abbrev pub raisable_of : Raisable → meaning.Raisable
raisable_of e = record { instance = e.instance; declaration = e.declaration }

abbrev pub program_of : Program → meaning.Program
program_of p = record {
  subprograms = map (subprogram_of (types_of p.types)) p.subprograms;
  main = p.main;
  objects = map (library_object_of (types_of p.types)) p.objects;
  constants = map constant_of p.constants;
  instances = map instance_of p.instances;
  declared = map exception_declaration_of p.declared;
  exceptions = map raisable_of p.exceptions;
}
