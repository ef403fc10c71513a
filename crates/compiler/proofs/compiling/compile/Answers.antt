use Rattle.std.proofs.Common.{length, subst, sym}
use Rattle.std.specs.Str.{str_to_ascii_lowercase}
use Rattle.ada_tree.specs.Programs.{program_of}
use Rattle.program_objects.specs.Built.{CanBeNamed}
use Rattle.program_objects.specs.Kernels.{nodes_of}
use Rattle.program_objects.specs.Source.{IsObjectOf, IsCheap}
use Rattle.object_format.specs.Read.{IsObject}
use Rattle.compiler.proofs.compiling.compile.Goals as goal

pub object_of-object-requires-clause-laid : goal.object_of-object-requires-clause-laid
object_of-object-requires-clause-laid c =
    let typed = c.in_ok-legal.ensures.typed in
    c.legal_programs_can_be_laid.ensures (length c.args.files.now) typed.legal.units (str_to_ascii_lowercase c.args.main.now) c.in_ok-legal.legal.program
    typed.legal.program typed.types c.in_ok-legal.ensures.named

pub object_of-object-requires-clause-able : goal.object_of-object-requires-clause-able
object_of-object-requires-clause-able c =
    let legal = c.in_ok-legal.ensures.typed.legal in
    c.legal_units_are_compilable.ensures (length c.args.files.now) legal.units (str_to_ascii_lowercase c.args.main.now) (program_of c.in_ok-legal.legal.program)
    c.requires.many.1 legal.program

pub closed-requires : goal.closed-requires
closed-requires c =
    let can : CanBeNamed c.args.files.now = record { some = c.requires.many.0; few = c.requires.many.1; names = c.requires.names } in
    let t = c.in_ok-legal.legal.program in
    c.built_objects_are_of_their_sources.ensures.written c.args.files.now c.args.main.now (program_of t) (nodes_of t) c.in_ok-object.field-0 can
    c.in_ok-legal.ensures.typed.legal c.in_ok-object.ensures

pub returns-clause-object : goal.returns-clause-object
returns-clause-object c =
    let t = c.in_ok-legal.legal.program in
    let p = program_of t in
    let can : CanBeNamed c.args.files.now = record { some = c.requires.many.0; few = c.requires.many.1; names = c.requires.names } in
    let typed = c.in_ok-legal.ensures.typed in
    let light = c.legal_programs_are_light.ensures (length c.args.files.now) typed.legal.units (str_to_ascii_lowercase c.args.main.now) t typed.legal.program typed.types in
    let is = c.in_ok-closed.ensures.object in
    let made = subst (λ x. IsObjectOf c.args.files.now c.args.main.now p x × IsCheap c.args.files.now c.args.main.now p x) (sym is)
    (c.built_objects_are_of_their_sources.ensures.object c.args.files.now c.args.main.now p (nodes_of t) c.in_ok-object.field-0 can typed.legal light c.in_ok-object.ensures
    (subst (λ x. IsObject x) is c.in_ok-closed.ensures.checked)) in
    (p, made.0, made.1)
