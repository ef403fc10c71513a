-- The order of keys is a total one.
use Rattle.std.proofs.Common.{◌≡◌, ℕ, List, refl, sym, ap, subst}
use Rattle.std.specs.declared.cmp.Ordering.{Ordering}
use Rattle.std.specs.declared.cmp.Ordering.TheVariants.{Less, Equal, Greater}
use Rattle.std.specs.Ordering.{nat_cmp, ordering_then}
use Rattle.std.specs.Cmp.{IsTotalOrder}
use Rattle.std.specs.List.Sorted.{IsSortedByKey, IsStableByKey}
use Rattle.annotated_report.proofs.Sorting.{sorted_is}
use Rattle.std.proofs.lemmas.Cmp.{nat_cmp_total, on_total, then_total}
use Rattle.annotated_report.specs.declared.finding.Key.{Key}
use Rattle.annotated_report.specs.declared.finding.Subject.{Subject}
use Rattle.annotated_report.specs.declared.finding.Subject.TheVariants.{Statement, Decision, Condition}
use Rattle.annotated_report.specs.Order.{pos_cmp, subject_cmp, key_cmp, in_order}
use Rattle.annotated_report.specs.contracts.finding.SubjectOrd.TheImpl as TheSubjects
use Rattle.annotated_report.specs.contracts.finding.KeyOrd.TheImpl as TheKeys

-- a subject as three numbers: its kind, its own number, and that of a condition
abbrev kind : Subject → ℕ
kind (Statement n) = 0
kind (Decision n) = 1
kind (Condition n c) = 2

abbrev number : Subject → ℕ
number (Statement n) = n
number (Decision n) = n
number (Condition n c) = n

abbrev place : Subject → ℕ
place (Statement n) = 0
place (Decision n) = 0
place (Condition n c) = c

abbrev by_numbers : Subject → Subject → Ordering
by_numbers a b = ordering_then (nat_cmp (kind a) (kind b)) (ordering_then (nat_cmp (number a) (number b)) (nat_cmp (place a) (place b)))

alone : (r : Ordering) → ordering_then r Equal ≡ r
alone Less = refl
alone Equal = refl
alone Greater = refl

same_cmp : (a b : Subject) → by_numbers a b ≡ subject_cmp a b
same_cmp (Statement m) (Statement n) = alone (nat_cmp m n)
same_cmp (Statement m) (Decision n) = refl
same_cmp (Statement m) (Condition n d) = refl
same_cmp (Decision m) (Statement n) = refl
same_cmp (Decision m) (Decision n) = alone (nat_cmp m n)
same_cmp (Decision m) (Condition n d) = refl
same_cmp (Condition m c) (Statement n) = refl
same_cmp (Condition m c) (Decision n) = refl
same_cmp (Condition m c) (Condition n d) = refl

by_numbers_total : IsTotalOrder by_numbers
by_numbers_total =
    then_total (on_total kind nat_cmp_total) (then_total (on_total number nat_cmp_total) (on_total place nat_cmp_total))

subject_total : IsTotalOrder subject_cmp
subject_total = subst (λ cmp. IsTotalOrder cmp) (λ i a b. same_cmp a b i) by_numbers_total

pos_total : IsTotalOrder pos_cmp
pos_total =
    then_total (on_total (λ p. p.file) nat_cmp_total)
    (then_total (on_total (λ p. p.line) nat_cmp_total) (on_total (λ p. p.col) nat_cmp_total))

pub key_total : IsTotalOrder key_cmp
key_total = then_total (on_total (λ k. k.pos) pos_total) (on_total (λ k. k.subject) subject_total)

-- what `cmp` answers is this order
derived_subject : (a b : Subject) → TheSubjects.ghosts.cmp a b ≡ subject_cmp a b
derived_subject (Statement m) (Statement n) = refl
derived_subject (Statement m) (Decision n) = refl
derived_subject (Statement m) (Condition n d) = refl
derived_subject (Decision m) (Statement n) = refl
derived_subject (Decision m) (Decision n) = refl
derived_subject (Decision m) (Condition n d) = refl
derived_subject (Condition m c) (Statement n) = refl
derived_subject (Condition m c) (Decision n) = refl
derived_subject (Condition m c) (Condition n d) = refl

pub derived_key : (a b : Key) → TheKeys.ghosts.cmp a b ≡ key_cmp a b
derived_key a b = ap (ordering_then (pos_cmp a.pos b.pos)) (derived_subject a.subject b.subject)

-- what a stable sort by keys leaves
pub sorted_keys : {X : Type 0} (key : X → Key) (xs ys : List X) →
    IsSortedByKey key TheKeys.ghosts.cmp ys → IsStableByKey key TheKeys.ghosts.cmp xs ys → ys ≡ in_order key xs
sorted_keys {X} key xs ys =
    subst (λ (cmp : Key → Key → Ordering). IsSortedByKey key cmp ys → IsStableByKey key cmp xs ys → ys ≡ in_order key xs)
    (λ i a b. sym (derived_key a b) i) (sorted_is key key_total xs ys)
