use Rattle.std.proofs.Common.{◌≡◌}
use Rattle.transcript.proofs.Sets.{set_rises, in_set, to_set, is_set, rise_by_starts}
use Rattle.transcript.proofs.one_rising_list_has_these_members.Goals as goal

pub returns : goal.returns
returns c = record {
  rises = set_rises;
  members = λ ps p. (in_set (λ q. q ≡ p) ps, to_set (λ q. q ≡ p) ps);
  one = is_set;
  by_starts = rise_by_starts;
}
