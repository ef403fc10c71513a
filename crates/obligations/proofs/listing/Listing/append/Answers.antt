use Rattle.obligations.proofs.Lists.{entries_appended}
use Rattle.obligations.proofs.listing.Listing.append.Goals as goal

pub returns : goal.returns
returns c =
    entries_appended _ _ _ _ _ _ _ _ c.self.view_is c.others.view_is c.in_ok-append.ensures.items c.in_ok-append-2.ensures.items
