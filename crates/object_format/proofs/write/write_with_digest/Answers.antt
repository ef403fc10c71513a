use Rattle.std.proofs.lemmas.Result.{IfOk-weaker}
use Rattle.object_format.proofs.WriteLaws.{has_file, closed_is_object}
use Rattle.object_format.proofs.write.write_with_digest.Goals as goal

pub write_parts-requires : goal.write_parts-requires
write_parts-requires c = has_file c.args.value.now c.requires

pub returns-clause-reads_back : goal.returns-clause-reads_back
returns-clause-reads_back c = IfOk-weaker c.write_parts.result _ _ (λ made h. closed_is_object c.args.value.now c.requires.sound h) c.write_parts.ensures.spelled
