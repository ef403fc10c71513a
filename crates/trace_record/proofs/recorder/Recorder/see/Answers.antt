use Rattle.std.proofs.Common.{◌≡◌, ◌++◌, ◌∷◌, [], subst, sym, ◌∙◌, ap, true, false}
use Rattle.object_facts.specs.Kinds.{ends_piece}
use Rattle.object_facts.specs.Object.{IsTranscript}
use Rattle.decision_map.specs.Roles.{kind_at}
use Rattle.rv_semantics.specs.declared.stepped.Seen.{Seen}
use Rattle.trace_record.specs.Recorded.{Recorded, Records, piece_of}
use Rattle.trace_record.proofs.Seeing.{seen_open, seen_end}
use Rattle.trace_record.proofs.recorder.Recorder.see.Goals as goal

pub returns-then-ends_piece-clause-recorded : goal.returns-then-ends_piece-clause-recorded
returns-then-ends_piece-clause-recorded c ss records transcript =
    let s : Seen = record { pc = c.args.pc; edge = c.args.edge; x8 = c.args.x8 } in
    let kind : ends_piece (kind_at c.self.inside.map c.args.pc) ≡ true =
    ap ends_piece (sym c.kind.ensures) ∙ sym c.ends_piece.ensures ∙ c.if-ends_piece.true in
    seen_end c.self.inside.map s c.self.inside.marks.items c.set_edge.new.marks.items c.set_bit.new.marks.items (piece_of c.self.inside.open_piece)
    c.self.inside.history.items c.keep.new.history.items c.start_of-start.result c.start_of-start.ensures kind
    c.set_edge.ensures.len
    c.set_edge.ensures.each
    c.set_bit.ensures.len
    c.set_bit.ensures.each
    c.in_ok-keep.ensures.kept
    ss
    (subst (λ (r : Recorded). Records r ss) (sym c.self.view_is) records)
    (subst (λ (r : Recorded). IsTranscript r.object (ss ++ s ∷ [])) (sym c.self.view_is) transcript)

pub returns-else-ends_piece-clause-recorded : goal.returns-else-ends_piece-clause-recorded
returns-else-ends_piece-clause-recorded c ss records transcript =
    let s : Seen = record { pc = c.args.pc; edge = c.args.edge; x8 = c.args.x8 } in
    let kind : ends_piece (kind_at c.self.inside.map c.args.pc) ≡ false =
    ap ends_piece (sym c.kind.ensures) ∙ sym c.ends_piece.ensures ∙ c.if-ends_piece.false in
    seen_open c.self.inside.map s c.self.inside.marks.items c.set_edge.new.marks.items (piece_of c.self.inside.open_piece)
    c.self.inside.history.items c.keep.new.history.items c.start_of-start.result c.start_of-start.ensures kind
    c.set_edge.ensures.len
    c.set_edge.ensures.each
    c.in_ok-keep.ensures.kept
    ss
    (subst (λ (r : Recorded). Records r ss) (sym c.self.view_is) records)
    (subst (λ (r : Recorded). IsTranscript r.object (ss ++ s ∷ [])) (sym c.self.view_is) transcript)
