use Rattle.std.proofs.Common.{refl, sym, true, false}
use Rattle.decision_map.proofs.SeenLaws.{behind_fault, block_fault, block_seen, next_is, flags_are, none_is}
use Rattle.decision_map.proofs.fit_state.FitState.see_block.Goals as goal

pub returns-then-is_some : goal.returns-then-is_some
returns-then-is_some c = λ o object ending blocks h. behind_fault o c.args.self.now object ending blocks c.args.block h (sym c.if-is_some.ensures)

pub returns-then-not-is_next_block : goal.returns-then-not-is_next_block
returns-then-not-is_next_block c = λ o object ending blocks h.
    let fine = none_is c.args.self.now.block (sym c.if-is_some.ensures) in
    let fails = next_is o c.args.self.now object ending blocks c.args.block false h fine c.if-not-is_next_block.ensures in
    block_fault o c.args.self.now _ object ending blocks c.args.block h (sym fails) fine refl refl refl refl refl refl

pub returns : goal.returns
returns c = λ o object ending blocks h.
    let fine = none_is c.args.self.now.block (sym c.if-is_some.ensures) in
    let is = next_is o c.args.self.now object ending blocks c.args.block true h fine c.if-not-is_next_block.ensures in
    let passes = flags_are o c.args.self.now object ending blocks c.args.block c.has_its_flags-passes.result h c.has_its_flags-passes.ensures in
    block_seen o c.args.self.now _ object ending blocks c.args.block c.has_its_flags-passes.result h (sym is) fine passes refl
    c.show.ensures refl refl refl refl refl c.note.ensures refl
