use Rattle.statement_code.specs.Bodies.{ending_code}
use Rattle.lower.specs.Context.{signature_for}
use Rattle.lower.specs.Entered.{all_entered_for}
use Rattle.lower.specs.Stated.{frame_for}
use Rattle.lower.proofs.Pieces.{three_then}
use Rattle.lower.proofs.bodies.put_body.Goals as goal

pub returns : goal.returns
returns c =
    three_then c.put_ending.result c.args.code.now c.put_parameters.new.code c.put_frame.new.code c.put_ending.new.code
    (all_entered_for c.args.context.now c.args.slot 0 (signature_for c.args.context.now c.args.signature)) (frame_for c.args.context.now c.args.slot 0 c.args.block.now) (ending_code c.args.gives)
    c.in_ok-put_parameters.ensures c.in_ok-put_frame.ensures c.put_ending.ensures
