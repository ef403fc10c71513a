use Rattle.std.proofs.Common.{◌+◌, ◌*◌, length}
use Rattle.lower.proofs.sets.+settings.Given as goal

abbrev pub decreases-put_set : goal.decreases-put_set
decreases-put_set l = 2 * length l.indices.now

abbrev pub decreases-put_others : goal.decreases-put_others
decreases-put_others l = 2 * length l.inner.now + 1
