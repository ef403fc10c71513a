use Rattle.std.proofs.Common.{ap, ◌∙◌}
use Rattle.std.specs.declared.vec.Vec.{Vec}
use Rattle.std.specs.declared.alloc.Global.{Global}
use Rattle.ada_tree.specs.declared.types.Subtype.{Subtype}
use Rattle.program_walk.proofs.ChangeLaws.{on_ok}
use Rattle.unit_walk.proofs.EnteringLaws.{words_left}
use Rattle.unit_walk.proofs.entering.note_library_words.Goals as goal

pub returns : goal.returns
returns c =
    on_ok c.add_unit_words.result _ _
    (words_left c.args.found.now c.add_unit_words.new.self c.replace-words.new.dest c.replace-words.result c.args.unit c.args.package_unit c.args.generic
    (ap (λ (v : Vec Subtype Global). v.items) c.replace-words.ensures.after ∙ c.new.ensures.items) c.replace-words.ensures.value)
    c.add_unit_words.ensures
