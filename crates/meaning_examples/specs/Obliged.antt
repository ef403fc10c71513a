-- The obligations of examples.
use Rattle.std.specs.Prelude.{◌≡◌, ℕ, List, [], ◌∷◌, codes}
use Rattle.cov_base.specs.declared.obligations.StmtEntry.{StmtEntry}
use Rattle.cov_base.specs.declared.obligations.DecEntry.{DecEntry}
use Rattle.cov_base.specs.declared.obligations.InstanceEntry.{InstanceEntry}
use Rattle.cov_base.specs.declared.obligations.Place.{Place}
use Rattle.ada_meaning.specs.Obligations.{obligations_of, IsNumbered, IsResolved}
use Rattle.ada_meaning.specs.Objects.{IsDeclaredOnce}
use Rattle.meaning_examples.specs.Nested.{nested}
use Rattle.meaning_examples.specs.Generics.{count}

abbrev pub statement : ℕ → ℕ → StmtEntry
statement line column = record { file = 0; line = line; column = column }

abbrev pub condition : ℕ → ℕ → Place
condition line column = record { line = line; column = column }

-- a decision: its statement, where it begins, its letter, its postfix bytes and its conditions
abbrev pub decision : ℕ → ℕ → ℕ → ℕ → List ℕ → List Place → DecEntry
decision s line column letter postfix conditions = record {
  statement = record { 0 = s };
  file = 0;
  line = line;
  column = column;
  letter = record { 0 = letter };
  expression = record { postfix = postfix };
  conditions = conditions;
}

abbrev pub instance : List ℕ → ℕ → ℕ → InstanceEntry
instance name line column = record { name = name; file = 0; line = line; column = column }

-- the decisions of an if statement, of an operand and of an index; the outer one first of two that begin at one place
abbrev pub OfNested : Type 0
OfNested = (obligations_of nested [] ≡ record {
  statements = statement 4 4 ∷ statement 7 4 ∷ statement 8 4 ∷ statement 9 4 ∷ statement 10 4 ∷ statement 11 7 ∷ statement 13 4 ∷ [];
  decisions =
      decision 3 9 7 88 (0 ∷ 1 ∷ 33 ∷ []) (condition 9 7 ∷ condition 9 22 ∷ [])
      ∷ decision 4 10 7 73 (0 ∷ 1 ∷ 34 ∷ []) (condition 10 7 ∷ condition 10 51 ∷ [])
      ∷ decision 4 10 7 88 (0 ∷ 1 ∷ 34 ∷ []) (condition 10 8 ∷ condition 10 22 ∷ [])
      ∷ [];
  regions = [];
  instances = instance [] 0 0 ∷ [];
  exceptions = codes "constraint_error" ∷ codes "program_error" ∷ codes "storage_error" ∷ codes "test_io.end_error" ∷ [];
}) × IsNumbered nested × IsDeclaredOnce nested

-- a generic's obligations come once, and its exceptions once for each instance
abbrev pub OfCount : Type 0
OfCount = (obligations_of count [] ≡ record {
  statements = statement 13 7 ∷ statement 14 10 ∷ statement 16 7 ∷ statement 17 7
      ∷ statement 31 4 ∷ statement 32 4 ∷ statement 33 4 ∷ statement 34 4 ∷ statement 36 19 ∷ statement 37 19 ∷ [];
  decisions = decision 0 13 10 73 (0 ∷ []) (condition 13 10 ∷ []) ∷ [];
  regions = [];
  instances = instance [] 0 0 ∷ instance (codes "c1") 25 1 ∷ instance (codes "c2") 27 1 ∷ [];
  exceptions = codes "constraint_error" ∷ codes "program_error" ∷ codes "storage_error" ∷ codes "test_io.end_error"
      ∷ codes "c1.bad" ∷ codes "c2.bad" ∷ [];
}) × IsNumbered count × IsResolved count
