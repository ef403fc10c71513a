-- What contents have of shapes: as many words, and, for those of types, the first values and what setting them costs.
use Rattle.std.proofs.Common.{◌≡◌, ℕ, zero, suc, ◌+◌, ◌*◌, [], ◌∷◌, length, refl, ap, ◌∙◌, arith, length-append}
use Rattle.ada_meaning.specs.Arithmetic.{count_between}
use Rattle.ada_meaning.specs.Program.{Bounds}
use Rattle.ada_meaning.specs.Shape.{Shape, word, row, group, Shapes, no_shape, and_shape}
use Rattle.ada_meaning.specs.WellFormed.{IsType, AreTypes}
use Rattle.ada_resolved.specs.Sizes.{words, all_words}
use Rattle.kernel_ir.specs.Layouts.{Content, no_content, followed_by, repeated, composite}
use Rattle.statement_code.specs.Stores.{first_content, first_contents}

pub record Meets (s : Shape) (c : Content) : Type 0 where
  pub long : length c.words ≡ words s
  pub same : IsType s → c ≡ first_content s

pub record MeetAll (ss : Shapes) (c : Content) : Type 0 where
  pub long : length c.words ≡ all_words ss
  pub same : AreTypes ss → c ≡ first_contents ss

pub word_met : (b : Bounds) → Meets (word b) (record { words = b.low ∷ []; cost = 1 })
word_met b = record { long = refl; same = λ typed. refl }

pub none_met : MeetAll no_shape no_content
none_met = record { long = refl; same = λ typed. refl }

pub more_met : (s : Shape) (ss : Shapes) (c d : Content) → Meets s c → MeetAll ss d → MeetAll (and_shape s ss) (followed_by c d)
more_met s ss c d first more = record {
  long = let a = first.long in let b = more.long in omega (arith, length-append c.words d.words, a, b);
  same = λ typed. (λ i. followed_by (first.same typed.0 i) (more.same typed.1 i));
}

pub group_met : (ss : Shapes) (c : Content) → MeetAll ss c → Meets (group ss) (composite c)
group_met no_shape c all = record { long = all.long; same = λ typed. absurd typed }
group_met (and_shape s ss) c all = record { long = all.long; same = λ typed. ap composite (all.same typed) }

one_more : (n k : ℕ) → k + n * k ≡ suc n * k
one_more n k = grind arith

repeated_long : (n : ℕ) (c : Content) → length (repeated n c).words ≡ n * length c.words
repeated_long zero c = omega arith
repeated_long (suc n) c =
    length-append c.words (repeated n c).words ∙ ap (λ k. length c.words + k) (repeated_long n c) ∙ one_more n (length c.words)

pub row_met : (b : Bounds) (s : Shape) (c : Content) → Meets s c → Meets (row b s) (composite (repeated (count_between b.low b.high) c))
row_met b s c part = record {
  long = repeated_long (count_between b.low b.high) c ∙ ap (λ n. count_between b.low b.high * n) part.long;
  same = λ typed. ap (λ d. composite (repeated (count_between b.low b.high) d)) (part.same typed.1.1);
}
