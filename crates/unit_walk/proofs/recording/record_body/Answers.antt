use Rattle.std.proofs.Common.{map, refl, ap, ◌∙◌}
use Rattle.std.specs.declared.alloc.Global.{Global}
use Rattle.std.specs.declared.vec.Vec.{Vec}
use Rattle.ada_tree.specs.declared.program.Subprogram.{Subprogram}
use Rattle.program_walk.specs.declared.found.Word.{Word}
use Rattle.unit_walk.proofs.RecordingLaws.{body_recorded}
use Rattle.unit_walk.proofs.recording.record_body.Goals as goal

pub returns : goal.returns
returns c =
    let x : Subprogram = record {
      generic = c.args.generic;
      entry = c.args.entry;
      parameters = c.from.result;
      objects = c.from-2.result;
      body = c.args.body;
    } in
    body_recorded c.args.found.now c.add_subprogram_words.new.self c.add_subprogram.new.self c.replace-words.new.dest c.replace-words.result _ x
    c.args.generic c.args.parameters.items c.args.body
    (ap (λ (v : Vec Word Global). v.items) c.replace-words.ensures.after ∙ c.new.ensures.items) c.replace-words.ensures.value refl
    c.in_ok-add_subprogram_words.ensures c.in_ok-add_subprogram.ensures refl c.from.ensures
    (c.from-2.ensures ∙ (c.in_ok-objects.ensures ∙ ap (map (λ (w : Word). w.subtype)) c.as_slice.ensures.value)) refl
