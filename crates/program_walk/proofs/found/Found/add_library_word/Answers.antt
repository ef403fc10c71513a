use Rattle.std.proofs.Common.{ap, ◌∙◌, map, reverse}
use Rattle.program_walk.specs.States.{subtype_there, with_found}
use Rattle.program_walk.proofs.Latest.{latest_first}
use Rattle.program_walk.proofs.found.Found.add_library_word.Goals as goal

pub returns : goal.returns
returns c k s =
    ap (λ xs. record (with_found k c.args.self.now s) { library_words = xs })
    (ap (λ xs. reverse (map (subtype_there k) xs)) c.in_ok-push.ensures.items ∙ latest_first (subtype_there k) c.args.self.now.library_words.items c.args.subtype)
