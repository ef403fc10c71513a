use Rattle.std.proofs.Common.{◌++◌, ◌∷◌, [], refl, sym, subst, inl, inr}
use Rattle.std.proofs.lemmas.Result.{on_ok_weaker}
use Rattle.trace_format.specs.declared.entry.Entry.{Entry}
use Rattle.trace_format.specs.declared.trace.Block.{Block}
use Rattle.trace_format.specs.declared.trace.HistoryEntry.{HistoryEntry}
use Rattle.coverage_set.specs.Read.{TookAll, IsFew}
use Rattle.coverage_set.proofs.ReadLaws.{took_block, took_history, took_head, took_close}
use Rattle.coverage_set.proofs.reading.Reading.see.Goals as goal

pub returns-in-Block : goal.returns-in-Block
returns-in-Block c =
    let b : Block = record { start = c.in-Block.start; last = c.in-Block.last; flags = c.in-Block.flags } in
    on_ok_weaker c.see_block.result (λ seen given few so_far.
    subst (λ (x : Entry). TookAll c.args.map.now (record { fit = c.see.new.self; found = c.see_block.new.self }) (given ++ x ∷ [])) (sym c.in-Block.is)
    (took_block c.args.map.now c.args.self.now (record { fit = c.see.new.self; found = c.see_block.new.self }) given b
    (λ object ending blocks h. c.see.ensures.block c.args.map.now object ending blocks b h c.in-Block.is) seen so_far)) c.see_block.ensures

pub returns-in-History : goal.returns-in-History
returns-in-History c =
    let h : HistoryEntry = record { address = c.in-History.address; x8 = c.in-History.x8; edge = c.in-History.edge } in
    on_ok_weaker c.see_history.result (λ seen given few so_far.
    subst (λ (x : Entry). TookAll c.args.map.now (record { fit = c.see.new.self; found = c.see_history.new.self }) (given ++ x ∷ [])) (sym c.in-History.is)
    (took_history c.args.map.now c.args.self.now (record { fit = c.see.new.self; found = c.see_history.new.self }) given h
    (λ object ending blocks history so short. c.see.ensures.history c.args.map.now object ending blocks history h so short c.in-History.is) seen
    (subst (λ (x : Entry). IsFew (given ++ x ∷ [])) c.in-History.is few) so_far)) c.see_history.ensures

pub returns-in-Head : goal.returns-in-Head
returns-in-Head c = λ given few so_far.
    elim c.in-Head.is [
      | inl head ↦
          subst (λ (x : Entry). TookAll c.args.map.now (record { fit = c.see.new.self; found = c.args.self.now.found }) (given ++ x ∷ [])) (sym head.2)
          (took_head c.args.map.now c.args.self.now (record { fit = c.see.new.self; found = c.args.self.now.found }) given head.0 head.1
          (λ fresh. c.see.ensures.head c.args.map.now head.0 head.1 fresh head.2) refl so_far)
      | inr close ↦
          subst (λ (x : Entry). TookAll c.args.map.now (record { fit = c.see.new.self; found = c.args.self.now.found }) (given ++ x ∷ [])) (sym close.1)
          (took_close c.args.map.now (record { fit = c.see.new.self; found = c.args.self.now.found }) given close.0)
    ]
