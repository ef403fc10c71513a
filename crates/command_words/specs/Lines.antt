-- The command lines: what clap is told of each command, and what it finds in words. What words mean is said by clap's own definitions.
use Rattle.std.specs.Prelude.{◌^◌, ◌&&◌, ℕ, true, nat_lt, pos, List, [], ◌∷◌, codes, Option, Some, None, if◌then◌else◌}
use Rattle.std.specs.Str.Parse.{digits_value, without_leading_plus}
use Rattle.clap.specs.Words.{App, Kinds, Row, Rule, Text, fault_of, matches_of, new_app, new_rule, with_rule}
use Rattle.clap.specs.ValueTests.{is_numeral}
use Rattle.clap.specs.declared.builder.action.ArgAction.TheVariants.{Append}
use Rattle.clap.specs.declared.builder.value_parser.ValueParser.TheVariants as vp

-- ---- arguments

-- an option '--NAME', which has to be given
abbrev pub required_option : Text → Rule
required_option name = record (new_rule name) { long = Some name; required = true }

-- the option '-o', which has to be given
abbrev pub output_option : Text → Rule
output_option id = record (new_rule id) { short = Some 111; required = true }

-- a name without an option, which has to be given
abbrev pub required_name : Text → Rule
required_name id = record (new_rule id) { required = true }

-- names without an option, one or more
abbrev pub required_names : Text → Rule
required_names id = record (new_rule id) { action = Some Append; required = true }

-- names without an option, none or more
abbrev pub any_names : Text → Rule
any_names id = record (new_rule id) { action = Some Append }

-- '--budget': a number from 1 to 4294967295, by default 100000000
abbrev pub budget_option : Rule
budget_option = record (new_rule (codes "budget")) {
  long = Some (codes "budget");
  defaults = codes "100000000" ∷ [];
  parser = Some (vp.Signed (pos 1) (pos 4294967295));
}

-- ---- commands

-- compile --main=MAIN -o OBJECT SOURCE...
abbrev pub compile_app : App
compile_app =
    with_rule
    (with_rule (with_rule (new_app (codes "compile")) (required_option (codes "main"))) (output_option (codes "object")))
    (required_names (codes "source"))

-- run --input=INPUT [--budget=BUDGET] -o TRACE OBJECT
abbrev pub run_app : App
run_app =
    with_rule (with_rule (with_rule (with_rule (new_app (codes "run")) (required_option (codes "input"))) budget_option) (output_option (codes "trace")))
    (required_name (codes "object"))

-- coverage --level=LEVEL --annotate=ANNOTATE --object=OBJECT [TRACE...]
abbrev pub coverage_app : App
coverage_app =
    with_rule
    (with_rule (with_rule (with_rule (new_app (codes "coverage")) (required_option (codes "level"))) (required_option (codes "annotate")))
    (required_option (codes "object")))
    (any_names (codes "trace"))

-- consolidate --object=OBJECT -o OUT [TRACE...]
abbrev pub consolidate_app : App
consolidate_app =
    with_rule (with_rule (with_rule (new_app (codes "consolidate")) (required_option (codes "object"))) (output_option (codes "out")))
    (any_names (codes "trace"))

-- ---- what is found

-- the rows, where there is no fault
abbrev pub rows_unless : Kinds → List Row → Option (List Row)
rows_unless [] rows = Some rows
rows_unless (fault ∷ faults) rows = None

-- what clap finds in the words, of which the first is the command's name; nothing where they have a fault or ask for help
unfoldable pub given : App → List Text → Option (List Row)
given app words = rows_unless (fault_of app words) (matches_of app words)

-- the number below 2 ^ 32 that a text spells in decimal digits, after a `+` or nothing
abbrev pub number_of : Text → Option ℕ
number_of text =
    let digits = without_leading_plus text in
    if is_numeral digits && nat_lt (digits_value 10 digits) (2 ^ 32) then Some (digits_value 10 digits) else None
