-- Objects that are declared one by one, in the rules' state.
use Rattle.std.specs.Prelude.{◌+◌, ◌∷◌}
use Rattle.ada_syntax.specs.declared.name.Identifier.{Identifier}
use Rattle.ada_meaning.specs.Program as program
use Rattle.ada_rules.specs.Types.{AdaSubtype, subtype_in_tree}
use Rattle.ada_rules.specs.Environment.{State, Env}
use Rattle.ada_rules.specs.Declarations.{word_of}

-- one object more of a subprogram
abbrev pub one_object : AdaSubtype → Identifier → State → State
one_object t i s = record s { objects = s.objects + 1; words = word_of t i ∷ s.words }

-- and one more of the library level
abbrev pub one_library_object : Env → AdaSubtype → program.Initial → State → State
one_library_object env t v s = record s {
  library_objects = s.library_objects + 1;
  objects_declared =
      record { declaration = s.library_objects; generic = env.generic; subtype = subtype_in_tree t; initial = v }
      ∷ s.objects_declared;
  library_words = subtype_in_tree t ∷ s.library_words;
}
