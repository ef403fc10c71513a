use Rattle.rv_machine.specs.Machine.{word_of}
use Rattle.rv_machine.proofs.Parts.{placed_more}
use Rattle.rv_machine.proofs.words.Words.place.Goals as goal

pub loop-i-preserved : goal.loop-i-preserved
loop-i-preserved c = record {
  placed = placed_more (word_of c.args.self.now) (word_of c.loop-i.self) (word_of c.store.new.self) c.args.first
      c.loop-i.i c.args.words.now c.loop-i.invariant.placed c.store.ensures;
}
