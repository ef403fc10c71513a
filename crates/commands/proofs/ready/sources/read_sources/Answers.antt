use Rattle.std.proofs.Common.{◌≡◌, ◌++◌, ◌∷◌, ◌∙◌, List, [], All, Err, length, ap, refl, subst, sym, arith, rules}
use Rattle.std.proofs.lemmas.List.{length-append}
use Rattle.std.proofs.lemmas.List.Elements.{All-nil}
use Rattle.std.proofs.lemmas.Result.{err_from_is_err_and}
use Rattle.commands.proofs.ObjectLaws.{one_more_plain}
use Rattle.commands.proofs.SourceLaws.{all_taken, memory_stops, no_sources, one_more, short_at, stops_reading}
use Rattle.commands.specs.declared.status.Status.TheVariants.{WantOfMemory}
use Rattle.commands.specs.Reading.{WereSources}
use Rattle.program_objects.specs.Built.{HasPlainName}
use Rattle.cov_base.specs.declared.obligations.SourceFile.{SourceFile}
use Rattle.commands.proofs.ready.sources.read_sources.Goals as goal

pub loop-place-init : goal.loop-place-init
loop-place-init g c =
    let none = sym c.new-sources.ensures.items in
    record {
      within = omega arith;
      count = ap (λ (ss : List SourceFile). length ss) c.new-sources.ensures.items;
      held = refl;
      reads = refl;
      writes = refl;
      plain = subst (λ (ss : List SourceFile). All HasPlainName ss) none (All-nil HasPlainName);
      read = subst (λ (ss : List SourceFile). WereSources [] (g.F.Files.held c.args.files.now) ss) none (no_sources (g.F.Files.held c.args.files.now));
    }

pub read_source-requires : goal.read_source-requires
read_source-requires g c = short_at (λ name. name.now) c.args.names.now c.loop-place.place _ c.requires.short c.loop-place-test.true

pub returns-in_err-source-clause-stopped : goal.returns-in_err-source-clause-stopped
returns-in_err-source-clause-stopped g c =
    let p = err_from_is_err_and c.from_residual.result c.from_residual.ensures.1 in
    rw (p.1, p.2) (stops_reading (λ name. name.now) c.args.names.now c.loop-place.place _ _ _ _ _ _ _ c.loop-place.sources.items
    c.loop-place-test.true c.loop-place.invariant.held c.loop-place.invariant.reads c.loop-place.invariant.read c.in_err-source.ensures.unread)

pub returns-in_err-add-clause-stopped : goal.returns-in_err-add-clause-stopped
returns-in_err-add-clause-stopped g c =
    let back : c.from_residual-in_err-add.result ≡ Err WantOfMemory = search rules in
    rw back (memory_stops (λ name. name.now) c.args.names.now _ _ _ c.requires.some)

pub loop-place-preserved : goal.loop-place-preserved
loop-place-preserved g c =
    let grown : c.add.new.sources.items ≡ c.loop-place.sources.items ++ (c.in_ok-source.source ∷ []) = c.in_ok-add.ensures in
    record {
      within = omega (arith, c.loop-place-test.true);
      count = omega (arith, ap (λ (ss : List SourceFile). length ss) grown, length-append c.loop-place.sources.items (c.in_ok-source.source ∷ []), c.loop-place.invariant.count);
      held = c.in_ok-source.ensures.same ∙ c.loop-place.invariant.held;
      reads = c.in_ok-source.ensures.reads ∙ c.loop-place.invariant.reads;
      writes = c.in_ok-source.ensures.writes ∙ c.loop-place.invariant.writes;
      plain = one_more_plain c.loop-place.sources.items c.add.new.sources.items c.in_ok-source.source grown c.loop-place.invariant.plain c.in_ok-source.ensures.plain;
      read = one_more (λ name. name.now) c.args.names.now c.loop-place.place _ _ _ c.loop-place.sources.items c.add.new.sources.items c.in_ok-source.source
          c.loop-place-test.true c.loop-place.invariant.held grown c.loop-place.invariant.read c.in_ok-source.ensures.named c.in_ok-source.ensures.read;
    }

pub returns-clause-read : goal.returns-clause-read
returns-clause-read g c =
    all_taken (λ name. name.now) c.args.names.now c.loop-place.place _ c.loop-place.sources.items (omega (arith, c.loop-place-test.false)) c.loop-place.invariant.read

pub returns-clause-many : goal.returns-clause-many
returns-clause-many g c = (
  omega (arith, c.loop-place.invariant.count, c.loop-place-test.false, c.requires.some),
  omega (arith, c.loop-place.invariant.count, c.loop-place.invariant.within, c.requires.few),
)

pub returns-clause-plain : goal.returns-clause-plain
returns-clause-plain g c = c.loop-place.invariant.plain
