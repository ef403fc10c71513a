use Rattle.std.proofs.Common.{sym, subst}
use Rattle.std.proofs.Math.Logic.{∥∥₁_elim}
use base.Stored.{Coded-set, coded_ℕ}
use Rattle.ada_tree.specs.Programs.{types_of, unfolded}
use Rattle.ada_tree.specs.View.{subtype_of}
use Rattle.word_limits.specs.Rows.{AreRows}
use Rattle.word_limits.proofs.RowLaws.{taken_at}
use Rattle.word_limits.proofs.words.WordTable.words.Goals as goal

pub returns-in-Some : goal.returns-in-Some
returns-in-Some c =
    let is = c.args.self.now.instances.now in
    let ts = types_of c.args.self.now.types.now in
    ∥∥₁_elim c.args.self.now.exact (Coded-set coded_ℕ _ _)
    (λ are. taken_at is (unfolded ts (subtype_of c.args.subtype)) c.subtype_words.result c.in-Some.words c.args.instance c.in-Some.is
    (c.subtype_words.ensures is ts (subst (AreRows is ts) (sym c.as_slice.ensures.value) are)))
