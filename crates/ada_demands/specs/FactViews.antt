-- What the code's facts of instances are of the rules' definitions.
use Rattle.std.specs.Prelude.{ℕ, zero, suc, List, map, Option, None, slice_get}
use Rattle.ada_tree.specs.Programs.{bounds_of}
use Rattle.ada_rules.specs.Statics as rules
use Rattle.ada_demands.specs.declared.facts.Fact.{Fact}
use Rattle.ada_demands.specs.declared.facts.Fact.TheVariants as fact
use Rattle.ada_demands.specs.declared.facts.Facts.{Facts}

abbrev pub fact_of : Fact → rules.Fact
fact_of (fact.Number x) = rules.number_fact x
fact_of (fact.Type b c) = rules.type_fact (bounds_of b) (bounds_of c)
fact_of (fact.Result b) = rules.result_fact (bounds_of b)

abbrev pub facts_of : Facts → rules.Facts
facts_of f = record { generic = f.generic; formals = map fact_of f.formals; constants = f.constants }

-- what the instance with this number has: they are numbered from 1
abbrev pub facts_at : List Facts → ℕ → Option Facts
facts_at instances zero = None
facts_at instances (suc n) = slice_get instances n

abbrev pub facts_in : List rules.Facts → ℕ → Option rules.Facts
facts_in instances zero = None
facts_in instances (suc n) = slice_get instances n
