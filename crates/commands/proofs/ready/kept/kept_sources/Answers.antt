use Rattle.std.proofs.Common.{◌≡◌, ◌++◌, ◌∷◌, ◌∙◌, List, [], inl, inr, refl, subst, sym, arith}
use Rattle.std.proofs.lemmas.Result.{err_from_is_err_and}
use Rattle.commands.proofs.KeptLaws.{all_taken, none_kept, one_more_kept, stops_among, tells_one, utf8_at}
use Rattle.commands.specs.Reading.{WereKept}
use Rattle.cov_base.specs.declared.obligations.SourceFile.{SourceFile}
use Rattle.commands.proofs.ready.kept.kept_sources.Goals as goal

pub loop-number-init : goal.loop-number-init
loop-number-init g c = record {
  within = omega arith;
  held = refl;
  reads = refl;
  writes = refl;
  read = subst (λ (ss : List SourceFile). WereKept [] (g.F.Files.held c.args.files.now) ss) (sym c.new-sources.ensures.items)
      (none_kept (g.F.Files.held c.args.files.now));
}

pub kept_source-requires : goal.kept_source-requires
kept_source-requires g c = utf8_at c.args.entries.now c.loop-number.number c.index-entries-number.result c.requires.named c.loop-number-test.true c.index-entries-number.is

pub returns-in_err-source-clause-stopped : goal.returns-in_err-source-clause-stopped
returns-in_err-source-clause-stopped g c =
    let p = err_from_is_err_and c.from_residual.result c.from_residual.ensures.1 in
    rw (p.1, p.2) (inr (stops_among c.args.entries.now c.loop-number.number c.index-entries-number.result _ _ _ _ _ _ c.loop-number.sources.items
    c.loop-number-test.true c.index-entries-number.is c.loop-number.invariant.held c.loop-number.invariant.reads c.loop-number.invariant.read c.in_err-source.ensures.stopped))

pub returns-in_err-source-clause-told : goal.returns-in_err-source-clause-told
returns-in_err-source-clause-told g c =
    let p = err_from_is_err_and c.from_residual.result c.from_residual.ensures.1 in
    rw (p.1, p.2) (tells_one c.args.entries.now c.loop-number.number c.index-entries-number.result c.in_err-source.field-0.0 c.loop-number-test.true c.index-entries-number.is c.in_err-source.ensures.told)

pub loop-number-preserved : goal.loop-number-preserved
loop-number-preserved g c =
    let grown : c.add.new.sources.items ≡ c.loop-number.sources.items ++ (c.in_ok-source.source ∷ []) = c.in_ok-add.ensures in
    record {
      within = omega (arith, c.loop-number-test.true);
      held = c.in_ok-source.ensures.same ∙ c.loop-number.invariant.held;
      reads = c.in_ok-source.ensures.reads ∙ c.loop-number.invariant.reads;
      writes = c.in_ok-source.ensures.writes ∙ c.loop-number.invariant.writes;
      read = one_more_kept c.args.entries.now c.loop-number.number c.index-entries-number.result _ _ c.loop-number.sources.items c.add.new.sources.items c.in_ok-source.source
          c.loop-number-test.true c.index-entries-number.is c.loop-number.invariant.held grown c.loop-number.invariant.read c.in_ok-source.ensures.kept;
    }

pub returns-clause-kept : goal.returns-clause-kept
returns-clause-kept g c =
    all_taken c.args.entries.now c.loop-number.number _ c.loop-number.sources.items (omega (arith, c.loop-number-test.false)) c.loop-number.invariant.read
