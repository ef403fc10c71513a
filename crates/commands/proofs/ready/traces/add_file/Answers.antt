use Rattle.std.proofs.Common.{◌∙◌, List, ℕ, Option, sym, subst}
use Rattle.std.specs.Prelude.{IfSome}
use Rattle.std.proofs.lemmas.Result.{on_ok_weaker, IfErr-weaker}
use Rattle.cov_io.specs.Outside.{Held, Holds}
use Rattle.commands.specs.Reading.{HasFront, RunWasAdded}
use Rattle.commands.proofs.PieceLaws.{on_ok_both, listed_was_added, listed_stops, trace_was_added, trace_stops, stops_as}
use Rattle.commands.proofs.ready.traces.add_file.Goals as goal

pub returns-then-starts_with-clause-object : goal.returns-then-starts_with-clause-object
returns-then-starts_with-clause-object g c = c.add_consolidated.ensures.object

pub returns-then-starts_with-clause-added : goal.returns-then-starts_with-clause-added
returns-then-starts_with-clause-added g c =
    let held = g.F.Files.held c.args.files.now in
    let front = c.as_slice.result.now in
    let bytes = c.as_slice-then-starts_with.result.now in
    let has = subst (λ (xs : List ℕ). HasFront held c.args.name.now xs) (sym c.as_slice.ensures.value) c.in_ok-front.ensures.front in
    let kind = sym c.starts_with.ensures.value ∙ c.if-starts_with.true in
    let holds = subst (λ (xs : List ℕ). IfSome held (Holds c.args.name.now xs)) (sym c.as_slice-then-starts_with.ensures.value)
    (subst (λ (h : Option Held). IfSome h (Holds c.args.name.now c.in_ok-bytes.bytes.items)) c.in_ok-front.ensures.same c.in_ok-bytes.ensures.read) in
    on_ok_both c.add_consolidated.result
    (λ fits adds. listed_was_added held c.args.decisions.now c.args.name.now front bytes c.args.coverage.now c.add_consolidated.new.coverage has kind holds fits adds)
    c.add_consolidated.ensures.fits c.add_consolidated.ensures.added

pub returns-then-starts_with-clause-stopped : goal.returns-then-starts_with-clause-stopped
returns-then-starts_with-clause-stopped g c =
    let held = g.F.Files.held c.args.files.now in
    let front = c.as_slice.result.now in
    let bytes = c.as_slice-then-starts_with.result.now in
    let has = subst (λ (xs : List ℕ). HasFront held c.args.name.now xs) (sym c.as_slice.ensures.value) c.in_ok-front.ensures.front in
    let kind = sym c.starts_with.ensures.value ∙ c.if-starts_with.true in
    let holds = subst (λ (xs : List ℕ). IfSome held (Holds c.args.name.now xs)) (sym c.as_slice-then-starts_with.ensures.value)
    (subst (λ (h : Option Held). IfSome h (Holds c.args.name.now c.in_ok-bytes.bytes.items)) c.in_ok-front.ensures.same c.in_ok-bytes.ensures.read) in
    IfErr-weaker c.add_consolidated.result _ _
    (λ status refused. listed_stops held c.args.decisions.now c.args.number (g.F.Files.reads_failed c.args.files.now) (g.F.Files.reads_failed c.read_file.new.files)
    c.args.name.now front bytes status has kind holds (c.in_ok-bytes.ensures.reads ∙ c.in_ok-front.ensures.reads) refused)
    c.add_consolidated.ensures.refused

pub returns-clause-added : goal.returns-clause-added
returns-clause-added g c =
    let held = g.F.Files.held c.args.files.now in
    let has = subst (λ (xs : List ℕ). HasFront held c.args.name.now xs) (sym c.as_slice.ensures.value) c.in_ok-front.ensures.front in
    let kind = sym c.starts_with.ensures.value ∙ c.if-starts_with.false in
    on_ok_weaker c.add_trace.result
    (λ added. trace_was_added held c.args.decisions.now c.args.name.now c.as_slice.result.now c.args.coverage.now c.add_trace.new.coverage has kind
    (subst (λ (h : Option Held). RunWasAdded h c.args.decisions.now c.args.name.now c.args.coverage.now c.add_trace.new.coverage) c.in_ok-front.ensures.same added))
    c.add_trace.ensures.added

pub returns-clause-stopped : goal.returns-clause-stopped
returns-clause-stopped g c =
    let held = g.F.Files.held c.args.files.now in
    let has = subst (λ (xs : List ℕ). HasFront held c.args.name.now xs) (sym c.as_slice.ensures.value) c.in_ok-front.ensures.front in
    let kind = sym c.starts_with.ensures.value ∙ c.if-starts_with.false in
    IfErr-weaker c.add_trace.result _ _
    (λ status stop. trace_stops held c.args.decisions.now c.args.number (g.F.Files.reads_failed c.args.files.now) (g.F.Files.reads_failed c.add_trace.new.files)
    c.args.name.now c.as_slice.result.now status has kind
    (stops_as c.args.number c.args.decisions.now c.args.name.now held (g.F.Files.held c.front_of.new.files) (g.F.Files.reads_failed c.args.files.now)
    (g.F.Files.reads_failed c.front_of.new.files) (g.F.Files.reads_failed c.add_trace.new.files) status c.in_ok-front.ensures.same c.in_ok-front.ensures.reads stop))
    c.add_trace.ensures.stopped
