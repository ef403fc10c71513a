use Rattle.coverage_set.proofs.reading.Reading.new.Goals as goal

pub returns : goal.returns
returns c = record { fit = c.in_ok-new.ensures; found = c.new-2.ensures c.args.map.now }
