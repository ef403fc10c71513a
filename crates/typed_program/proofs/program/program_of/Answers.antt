use Rattle.std.proofs.Common.{unwrap_or, sym, ap, ◌∙◌, subst}
use Rattle.ada_tree.specs.Programs.{types_of}
use Rattle.std.proofs.lemmas.Result.{IfOk-weaker}
use Rattle.ada_rules.specs.Subprograms.{place_among}
use Rattle.ada_entities.specs.TypeTable.{tables}
use Rattle.ada_entities.specs.Trees.{shapes_in_tree, AreIn}
use Rattle.typed_program.specs.declared.program.Outline.{Outline}
use Rattle.typed_program.proofs.Assembling.{assembled_is}
use Rattle.typed_program.proofs.program.program_of.Goals as goal

pub returns-clause-program : goal.returns-clause-program
returns-clause-program c =
    let name = c.args.main.now in
    let o : Outline = record {
      main = c.unwrap_or-main.result;
      types = c.in_ok-type_declarations.field-0;
      constants = c.into_declared.result;
      units = c.args.units;
    } in
    IfOk-weaker c.assembled.result _ _
    (λ p is k world types lib instances. is ∙ assembled_is o c.args.instances.now c.args.walk k world name
    (c.in_ok-type_declarations.ensures.types ∙ ap (λ t. shapes_in_tree (tables t)) c.types.ensures ∙ ap shapes_in_tree (sym types))
    (c.unwrap_or-main.ensures ∙ ap (λ n. unwrap_or n 0) (c.in_ok-body_number.ensures lib.units lib.library lib.is ∙ ap (place_among name name 0) (sym lib.bodies)))
    c.into_declared.ensures instances)
    c.assembled.ensures.program

pub returns-clause-types : goal.returns-clause-types
returns-clause-types c =
    IfOk-weaker c.assembled.result _ _
    (λ p is. record {
      types = ap types_of is ∙ (c.in_ok-type_declarations.ensures.types ∙ ap (λ t. shapes_in_tree (tables t)) c.types.ensures);
      texts = subst (AreIn c.args.generics.now 0) (sym is) c.in_ok-type_declarations.ensures.generics;
    })
    c.assembled.ensures.types
