use Rattle.std.proofs.Common.{◌≡◌, OnOk, subst}
use Rattle.ada_tree.specs.View.{label_of}
use Rattle.obligations.specs.Entries.{joined, of_entry}
use Rattle.obligations.specs.Spelled.{Spelled, entry_of}
use Rattle.obligations.proofs.Lists.{decision_added}
use Rattle.obligations.proofs.Spelling.{entry_spelled}
use Rattle.obligations.proofs.listing.Listing.add_decision.Goals as goal

pub returns : goal.returns
returns c =
    let l = label_of c.args.label in
    let spelled = c.spelling.view_is in
    subst (λ (s : Spelled). OnOk c.append.result (c.append.new.self ≡ joined c.args.self.now (joined (of_entry (entry_of c.args.letter.0 c.args.statement l s)) s.nested))) spelled
    (decision_added c.append.result _ _ _ _ _ _ _ _ c.self.view_is
    (entry_spelled c.args.letter.0 c.args.statement l _ _ _ _ c.spelling.inside.nested c.from.ensures c.from-2.ensures)
    c.in_ok-push.ensures.items c.append.ensures)
