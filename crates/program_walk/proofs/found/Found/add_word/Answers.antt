use Rattle.std.proofs.Common.{ap, ◌∙◌, map, reverse}
use Rattle.program_walk.specs.States.{with_found, word_of}
use Rattle.program_walk.proofs.Latest.{latest_first}
use Rattle.program_walk.proofs.found.Found.add_word.Goals as goal

pub returns : goal.returns
returns c k s =
    ap (λ xs. record (with_found k c.args.self.now s) { words = xs })
    (ap (λ xs. reverse (map (word_of k) xs)) c.in_ok-push.ensures.items ∙ latest_first (word_of k) c.args.self.now.words.items c.args.word)
