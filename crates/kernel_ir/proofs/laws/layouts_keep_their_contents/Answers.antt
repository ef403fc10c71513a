use Rattle.kernel_ir.proofs.LayoutLaws.{content_stays, content_behind}
use Rattle.kernel_ir.proofs.laws.layouts_keep_their_contents.Goals as goal

pub returns : goal.returns
returns c = record { stays = content_stays; last = content_behind }
