use Rattle.std.proofs.Common.{◌≡◌, ◌<◌, List, length, Ok, subst, sym, ◌∙◌, ap}
use Rattle.std.proofs.lemmas.Result.{IfOk-weaker}
use Rattle.object_format.specs.declared.object.Object.{Object}
use Rattle.rv_semantics.specs.declared.stepped.Seen.{Seen}
use Rattle.trace_format.specs.Checks.{Passes}
use Rattle.trace_format.specs.Formats.{trace_spelling, trace_digest}
use Rattle.trace_format.specs.Trace.{closed_by}
use Rattle.trace_format.specs.declared.trace.Trace.{Trace}
use Rattle.trace_format.specs.declared.trace.Block.{Block}
use Rattle.trace_record.specs.declared.mark.Mark.{Mark}
use Rattle.trace_record.specs.Recorded.{Recorded, Records, piece_of}
use Rattle.trace_record.specs.Written.{blocks_from, traced}
use Rattle.trace_record.proofs.Passing.{passes_traced, made_trace, few_blocks}
use Rattle.trace_record.proofs.recorder.Recorder.trace.Goals as goal

pub write_parts-requires-clause-few_blocks : goal.write_parts-requires-clause-few_blocks
write_parts-requires-clause-few_blocks c =
    let ss : List Seen = c.requires.recorded.0 in
    let r : Recorded = record { object = c.self.inside.map; marks = c.self.inside.marks.items; open_piece = piece_of c.self.inside.open_piece; history = c.self.inside.history.items } in
    let records : Records r ss = subst (λ (x : Recorded). Records x ss) (sym c.self.view_is) c.requires.recorded.1 in
    let blocks : c.as_slice-2.result.now ≡ blocks_from r.object r.marks 65536 r.marks =
    c.as_slice-2.ensures.value ∙ c.in_ok-blocks.ensures ∙ ap (λ (marks : List Mark). blocks_from c.self.inside.map marks 65536 marks) c.as_slice.ensures.value in
    subst (λ (bs : List Block). length bs < 4294967296) (sym blocks) (few_blocks r ss records)

pub write_parts-requires-clause-passes : goal.write_parts-requires-clause-passes
write_parts-requires-clause-passes c =
    let ss : List Seen = c.requires.recorded.0 in
    let r : Recorded = record { object = c.self.inside.map; marks = c.self.inside.marks.items; open_piece = piece_of c.self.inside.open_piece; history = c.self.inside.history.items } in
    let records : Records r ss = subst (λ (x : Recorded). Records x ss) (sym c.self.view_is) c.requires.recorded.1 in
    let blocks : c.as_slice-2.result.now ≡ blocks_from r.object r.marks 65536 r.marks =
    c.as_slice-2.ensures.value ∙ c.in_ok-blocks.ensures ∙ ap (λ (marks : List Mark). blocks_from c.self.inside.map marks 65536 marks) c.as_slice.ensures.value in
    let history : c.as_slice-3.result.now ≡ r.history = c.as_slice-3.ensures.value in
    subst Passes (sym (made_trace r ss records c.args.ending c.object.result.now.closing c.as_slice-2.result.now c.as_slice-3.result.now
    (ap (λ (o : Object). o.closing) c.object.ensures) blocks history))
    (passes_traced r.object ss c.args.ending records.transcript)

pub returns-clause-written : goal.returns-clause-written
returns-clause-written c = IfOk-weaker c.write_parts.result _ _ (λ bytes spelled ss recorded ended.
    let r : Recorded = record { object = c.self.inside.map; marks = c.self.inside.marks.items; open_piece = piece_of c.self.inside.open_piece; history = c.self.inside.history.items } in
    let records : Records r ss = subst (λ (x : Recorded). Records x ss) (sym c.self.view_is) recorded in
    let blocks : c.as_slice-2.result.now ≡ blocks_from r.object r.marks 65536 r.marks =
    c.as_slice-2.ensures.value ∙ c.in_ok-blocks.ensures ∙ ap (λ (marks : List Mark). blocks_from c.self.inside.map marks 65536 marks) c.as_slice.ensures.value in
    let history : c.as_slice-3.result.now ≡ r.history = c.as_slice-3.ensures.value in
    spelled ∙ ap trace_spelling (made_trace r ss records c.args.ending c.object.result.now.closing c.as_slice-2.result.now c.as_slice-3.result.now
    (ap (λ (o : Object). o.closing) c.object.ensures) blocks history
    ∙ ap (λ (x : Recorded). traced x.object ss c.args.ending) c.self.view_is)) c.write_parts.ensures.spelled

pub returns-clause-reads_back : goal.returns-clause-reads_back
returns-clause-reads_back c = IfOk-weaker c.write_parts.result _ _ (λ bytes read ss recorded ended.
    let r : Recorded = record { object = c.self.inside.map; marks = c.self.inside.marks.items; open_piece = piece_of c.self.inside.open_piece; history = c.self.inside.history.items } in
    let records : Records r ss = subst (λ (x : Recorded). Records x ss) (sym c.self.view_is) recorded in
    let blocks : c.as_slice-2.result.now ≡ blocks_from r.object r.marks 65536 r.marks =
    c.as_slice-2.ensures.value ∙ c.in_ok-blocks.ensures ∙ ap (λ (marks : List Mark). blocks_from c.self.inside.map marks 65536 marks) c.as_slice.ensures.value in
    let history : c.as_slice-3.result.now ≡ r.history = c.as_slice-3.ensures.value in
    read ∙ ap (λ (t : Trace). Ok (closed_by t (trace_digest t))) (made_trace r ss records c.args.ending c.object.result.now.closing c.as_slice-2.result.now c.as_slice-3.result.now
    (ap (λ (o : Object). o.closing) c.object.ensures) blocks history
    ∙ ap (λ (x : Recorded). traced x.object ss c.args.ending) c.self.view_is)) c.write_parts.ensures.reads_back
