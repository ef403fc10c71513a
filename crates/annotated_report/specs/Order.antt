-- The order of the lines of a report.
use Rattle.std.specs.Prelude.{Bool, List, [], ◌∷◌, if◌then◌else◌}
use Rattle.std.specs.declared.cmp.Ordering.{Ordering}
use Rattle.std.specs.declared.cmp.Ordering.TheVariants.{Less, Greater}
use Rattle.std.specs.Ordering.{nat_cmp, ordering_then, is_lt}
use Rattle.cov_base.specs.declared.position.Pos.{Pos}
use Rattle.annotated_report.specs.declared.finding.Key.{Key}
use Rattle.annotated_report.specs.declared.finding.Subject.{Subject}
use Rattle.annotated_report.specs.declared.finding.Subject.TheVariants.{Statement, Decision, Condition}

-- places by file, line and column
abbrev pub pos_cmp : Pos → Pos → Ordering
pos_cmp a b = ordering_then (nat_cmp a.file b.file) (ordering_then (nat_cmp a.line b.line) (nat_cmp a.col b.col))

-- statements, then decisions, then conditions, each by their numbers
abbrev pub subject_cmp : Subject → Subject → Ordering
subject_cmp (Statement m) (Statement n) = nat_cmp m n
subject_cmp (Statement m) _ = Less
subject_cmp (Decision m) (Statement n) = Greater
subject_cmp (Decision m) (Decision n) = nat_cmp m n
subject_cmp (Decision m) (Condition n d) = Less
subject_cmp (Condition m c) (Condition n d) = ordering_then (nat_cmp m n) (nat_cmp c d)
subject_cmp (Condition m c) _ = Greater

-- places first, then what stands there
abbrev pub key_cmp : Key → Key → Ordering
key_cmp a b = ordering_then (pos_cmp a.pos b.pos) (subject_cmp a.subject b.subject)

-- whether a line comes before another
abbrev pub comes_before : Key → Key → Bool
comes_before a b = is_lt (key_cmp a b)

-- an item among items in order, before the first that doesn't come before it
abbrev pub placed : {X : Type 0} → (X → Key) → X → List X → List X
placed key x [] = x ∷ []
placed key x (y ∷ ys) = if comes_before (key y) (key x) then y ∷ placed key x ys else x ∷ y ∷ ys

-- items in the order of their keys; those with one key stay as they stand
abbrev pub in_order : {X : Type 0} → (X → Key) → List X → List X
in_order key [] = []
in_order key (x ∷ xs) = placed key x (in_order key xs)
