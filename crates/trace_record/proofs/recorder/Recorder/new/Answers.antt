use Rattle.decision_map.proofs.Sound.{mappable}
use Rattle.trace_record.proofs.recorder.Recorder.new.Goals as goal

pub of-requires : goal.of-requires
of-requires c = mappable c.args.object.now c.requires.field c.requires.decision c.requires.role
