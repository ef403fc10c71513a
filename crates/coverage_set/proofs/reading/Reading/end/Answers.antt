use Rattle.std.proofs.Common.{rules}
use Rattle.std.proofs.Common.{◌∙◌, sym}
use Rattle.coverage_set.proofs.FoundSeen.{found_breaks, found_follows, found_said}
use Rattle.coverage_set.proofs.ReadLaws.{took_possible}
use Rattle.coverage_set.proofs.reading.Reading.end.Goals as goal

pub returns-in-Some-clause-unfit : goal.returns-in-Some-clause-unfit
returns-in-Some-clause-unfit c = λ o t sound read passes.
    let fits = sym (c.in_default.ensures o t read.fit passes) in
    (fits, found_breaks o c.args.self.found t c.in-Some.at read.found fits (sym c.stopped.ensures ∙ c.in-Some.is))

pub returns-clause-whole : goal.returns-clause-whole
returns-clause-whole c = λ o t sound read passes.
    let fits = sym (c.in_default.ensures o t read.fit passes) in
    let going = sym c.stopped.ensures ∙ c.in_default-stopped.is in
    record {
      fits = fits;
      follow = found_follows o c.args.self.found t read.found going;
      said = found_said o sound c.args.self.found t read.found passes.order fits going c.in_ok-into_events.field-0 c.in_ok-into_events.ensures;
    }

pub returns-clause-possible : goal.returns-clause-possible
returns-clause-possible c = λ o sound took. took_possible o sound c.args.self took c.in_ok-into_events.field-0 c.in_ok-into_events.ensures

pub returns-in-Err : goal.returns-in-Err
returns-in-Err c = search rules
