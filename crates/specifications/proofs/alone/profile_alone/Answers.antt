use Rattle.std.proofs.lemmas.Result.{err_from_is_err_and}
use Rattle.program_walk.specs.States.{state_of}
use Rattle.program_walk.specs.Walks.{Begins}
use Rattle.program_walk.proofs.Following.{grown}
use Rattle.program_walk.specs.Going.{region_in}
use Rattle.program_walk.proofs.GoingLaws.{stays_behind, refused_behind}
use Rattle.program_walk.proofs.InsideLaws.{grows_itself}
use Rattle.specifications.proofs.AloneLaws.{closed_again, emptied_walk, emptied_continues, enters_continues, restored}
use Rattle.specifications.proofs.alone.profile_alone.Goals as goal

pub returns-in_err-profile-clause-comes : goal.returns-in_err-profile-clause-comes
returns-in_err-profile-clause-comes c k env h b =
    let e = err_from_is_err_and c.from_residual.result c.from_residual.ensures.1 in
    rw (e.1, e.2) (let w = c.args.walk.now in
    let emptied = emptied_walk w c.replace-words.new.dest in
    refused_behind emptied c.specified.new.walk k c.in_err-profile.field-0.0 _ c.in_err-profile.ensures.enters b (λ before.
    c.in_err-profile.ensures.comes k env (grown c.args.context.now w emptied (grows_itself w.symbols) k env h before) b))

pub returns-in_err-profile-clause-keeps : goal.returns-in_err-profile-clause-keeps
returns-in_err-profile-clause-keeps c =
    let e = err_from_is_err_and c.from_residual.result c.from_residual.ensures.1 in
    rw (e.1, e.2) (let w = c.args.walk.now in
    stays_behind w (emptied_walk w c.replace-words.new.dest) c.specified.new.walk c.in_err-profile.field-0.0 (emptied_continues w c.replace-words.new.dest) c.in_err-profile.ensures.enters)

pub returns-clause-comes : goal.returns-clause-comes
returns-clause-comes c k env h b =
    let w = c.args.walk.now in
    let emptied = emptied_walk w c.replace-words.new.dest in
    let second = c.specified.new.walk in
    let enters = c.in_ok-profile.ensures.enters in
    let behind : Begins second k = record { symbols = c.close.ensures.closed.begins k b.symbols; spans = b.spans } in
    let before = enters_continues emptied second enters k behind in
    record {
      region = region_in k second;
      next = state_of k second;
      comes = c.in_ok-profile.ensures.comes k env (grown c.args.context.now w emptied (grows_itself w.symbols) k env h before) behind;
      state = restored k w second c.close.new.self c.replace-words.result c.replace-words.ensures.value;
    }

pub returns-clause-keeps : goal.returns-clause-keeps
returns-clause-keeps c = record {
  symbols = closed_again c.args.walk.now.symbols c.specified.new.walk.symbols _ c.in_ok-profile.ensures.enters.symbols c.close.ensures.closed;
  spans = c.in_ok-profile.ensures.enters.spans;
}
