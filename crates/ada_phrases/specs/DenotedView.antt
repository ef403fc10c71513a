-- What the checker's names denote, of the rules' definitions.
use Rattle.std.specs.Prelude.{ℤ, Some, None}
use Rattle.ada_meaning.specs.Tree as tree
use Rattle.ada_meaning.specs.Types.{Static, static_number}
use Rattle.ada_tree.specs.View.{exception_of, actuals_of}
use Rattle.ada_rules.specs.Types.{AdaType, AdaSubtype, type_in, range_in, kind_of}
use Rattle.ada_rules.specs.Statics.{within}
use Rattle.ada_rules.specs.Denoted as rules
use Rattle.ada_rules.specs.Denoted.{valued}
use Rattle.ada_entities.specs.Views.{identity_of, subtype_of}
use Rattle.ada_entities.specs.EntityViews.{Tables, routine_of}
use Rattle.ada_judged.specs.JudgedView.{variable_of, judged_of}
use Rattle.ada_phrases.specs.declared.names.Denoted.{Denoted}
use Rattle.ada_phrases.specs.declared.names.Denoted.TheVariants as denoted

abbrev pub denotes : Tables → Denoted → rules.Denoted
denotes k (denoted.Mark i t) = rules.a_mark (identity_of i) (subtype_of k.types t)
denotes k (denoted.Value x) = rules.a_value (judged_of k x)
denotes k (denoted.Variable v) = rules.a_variable (variable_of k v)
denotes k (denoted.Routine r) = rules.a_routine (routine_of k r)
denotes k (denoted.Call r actuals) = rules.a_call (routine_of k r) (actuals_of actuals.items)
denotes k (denoted.Exception e) = rules.an_exception (exception_of e)
denotes k (denoted.Unit n) = rules.a_unit n
denotes k denoted.TestIo = rules.the_test_io
denotes k denoted.Thing = rules.a_thing

-- the value of an enumeration literal, and that of a formal object
abbrev pub literal_of : AdaType → ℤ → rules.Judged
literal_of t x = valued (tree.literal x) (kind_of t) (Some (static_number x)) None

abbrev pub formal_of : AdaSubtype → Static → rules.Judged
formal_of t e = valued (tree.constant e) (kind_of (type_in t)) (Some e) (Some (within (range_in t)))
