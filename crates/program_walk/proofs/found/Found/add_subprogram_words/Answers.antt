use Rattle.std.proofs.Common.{ap, ◌∙◌, map, reverse}
use Rattle.program_walk.specs.States.{subprogram_words_of, with_found}
use Rattle.program_walk.proofs.Latest.{latest_first}
use Rattle.program_walk.proofs.found.Found.add_subprogram_words.Goals as goal

pub returns : goal.returns
returns c k s =
    ap (λ xs. record (with_found k c.args.self.now s) { subprogram_words = xs })
    (ap (λ xs. reverse (map (subprogram_words_of k) xs)) c.in_ok-push.ensures.items ∙ latest_first (subprogram_words_of k) c.args.self.now.subprogram_words.items c.args.words)
