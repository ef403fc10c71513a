use Rattle.std.proofs.Common.{rules, arith}
use Rattle.std.proofs.lemmas.Grind.{common_steps}
use Rattle.std.proofs.Common.{◌≡◌, ◌↔◌, ◌⊎◌, List, ℕ, inr, sym, subst}
use Rattle.std.proofs.lemmas.Result.{err_from_is_err_and}
use Rattle.object_format.specs.declared.object.Object.{Object}
use Rattle.coverage_set.specs.Consolidated.{ArePossible}
use Rattle.coverage_set.specs.Covered.{HasRun}
use Rattle.coverage_set.proofs.Members.{in_either}
use Rattle.coverage_set.proofs.ReadLaws.{passes_of}
use Rattle.coverage_set.proofs.coverage.Coverage.add_read.Goals as goal

pub grow-requires : goal.grow-requires
grow-requires g c =
    subst (λ (o : Object). ArePossible o c.in_ok-found.found) c.requires.object
    (c.in_ok-found.ensures.possible c.args.map.now c.requires.sound c.in_ok-closing.ensures.took)

pub returns-clause-added : goal.returns-clause-added
returns-clause-added g c = λ bytes told.
    let took = c.in_ok-closing.ensures.told bytes told in
    let whole = c.in_ok-found.ensures.whole c.args.map.now took.file c.requires.sound took.read (passes_of bytes took.file took.passed) in
    record {
      file = took.file;
      passed = took.passed;
      fits = whole.fits;
      follow = whole.follow;
      events = λ e. in_either _ _ _ _ (c.in_ok-grow.ensures.events e) (whole.said e);
      runs = λ digest. subst (λ (closing : List ℕ). HasRun c.grow.new.self digest ↔ (HasRun c.args.self.now digest ⊎ (closing ≡ digest)))
          (sym took.closes) (c.in_ok-grow.ensures.runs digest);
    }

pub returns-in_err-found-clause-cause : goal.returns-in_err-found-clause-cause
returns-in_err-found-clause-cause g c = λ bytes told.
    let p = err_from_is_err_and c.from_residual-in_err-found.result c.from_residual-in_err-found.ensures.1 in
    let took = c.in_ok-closing.ensures.told bytes told in
    rw (p.1, p.2) (inr (record {
      file = took.file;
      passed = took.passed;
      unfit = c.in_err-found.ensures.unfit c.args.map.now took.file c.requires.sound took.read (passes_of bytes took.file took.passed);
    }))

pub returns-in_err-reading : goal.returns-in_err-reading
returns-in_err-reading g = search rules

pub returns-in_err-closing : goal.returns-in_err-closing
returns-in_err-closing g = search rules

pub read-requires : goal.read-requires
read-requires g = search rules

pub returns-in_err-grow : goal.returns-in_err-grow
returns-in_err-grow g = search rules

pub returns-clause-failed : goal.returns-clause-failed
returns-clause-failed g = grind (arith, common_steps)

pub returns-clause-object : goal.returns-clause-object
returns-clause-object g = grind (arith, common_steps)

pub returns-clause-same : goal.returns-clause-same
returns-clause-same g = grind (arith, common_steps)

pub returns-in_err-found-clause-writes : goal.returns-in_err-found-clause-writes
returns-in_err-found-clause-writes g = grind (arith, common_steps)

pub returns-clause-writes : goal.returns-clause-writes
returns-clause-writes g = grind (arith, common_steps)

pub returns-clause-stays : goal.returns-clause-stays
returns-clause-stays g = grind (arith, common_steps)

pub returns-in_err-found-clause-later : goal.returns-in_err-found-clause-later
returns-in_err-found-clause-later g = grind (arith, common_steps)

pub returns-in_err-found-clause-same : goal.returns-in_err-found-clause-same
returns-in_err-found-clause-same g = grind (arith, common_steps)

pub returns-in_err-found-clause-stays : goal.returns-in_err-found-clause-stays
returns-in_err-found-clause-stays g = grind (arith, common_steps)
