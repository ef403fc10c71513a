use Rattle.commands.proofs.RegroupingLaws.{same_members, part_first, same_beside, same_back, same_through}
use Rattle.commands.proofs.grouping.files_in_any_grouping_tell_the_same.Goals as goal

pub returns : goal.returns
returns c = record { members = same_members; part = part_first; beside = same_beside; back = same_back; through = same_through }
