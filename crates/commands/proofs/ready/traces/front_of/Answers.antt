use Rattle.std.proofs.Common.{◌≡◌, ◌++◌, ◌∙◌, List, ℕ, length, ap, sym, arith}
use Rattle.std.specs.Prelude.{vec_len}
use Rattle.std.proofs.lemmas.Bool.{eqb-false}
use Rattle.std.proofs.lemmas.List.{length-append}
use Rattle.commands.proofs.PieceLaws.{front_full, front_more, part_as}
use Rattle.commands.proofs.ready.traces.front_of.Goals as goal

pub returns-then-len-ge-FRONT-clause-front : goal.returns-then-len-ge-FRONT-clause-front
returns-then-len-ge-FRONT-clause-front g c =
    let front = c.loop.front.items in
    let part = c.read_next.new.part.items in
    let grown : c.extend_from_slice.new.self.items ≡ front ++ part =
    c.in_ok-extend_from_slice.ensures.items ∙ ap (λ (xs : List ℕ). front ++ xs) c.as_slice.ensures.value in
    let at : c.len.result ≡ length front = omega (arith, c.len.ensures, c.loop.front.ok.0) in
    let all : length (front ++ part) ≡ 8 =
    omega (arith, length-append front part, c.if-len-ge-FRONT.true, c.len-in-loop.ensures, c.extend_from_slice.new.self.ok.0, ap (λ (xs : List ℕ). length xs) grown, c.in_ok-read_next.ensures.few, at, c.loop.invariant.short) in
    rw grown (front_full (g.F.Files.held c.args.files.now) c.args.name.now front part all c.loop.invariant.front
    (part_as (g.F.Files.held c.loop.files) (g.F.Files.held c.args.files.now) c.args.name.now c.len.result (length front) part c.loop.invariant.held at
    c.in_ok-read_next.ensures.part))

pub loop-preserved : goal.loop-preserved
loop-preserved g c =
    let front = c.loop.front.items in
    let part = c.read_next.new.part.items in
    let grown : c.extend_from_slice.new.self.items ≡ front ++ part =
    c.in_ok-extend_from_slice.ensures.items ∙ ap (λ (xs : List ℕ). front ++ xs) c.as_slice.ensures.value in
    let at : c.len.result ≡ length front = omega (arith, c.len.ensures, c.loop.front.ok.0) in
    let some = eqb-false (vec_len c.read_next.new.part) 0 (sym c.if-is_empty.ensures) in
    record {
      short = omega (arith, c.if-len-ge-FRONT.false, c.len-in-loop.ensures, c.extend_from_slice.new.self.ok.0);
      grown = omega (arith, length-append front part, ap (λ (xs : List ℕ). length xs) grown, c.loop.invariant.grown, some, c.read_next.new.part.ok.0);
      front = rw grown (front_more (g.F.Files.held c.args.files.now) c.args.name.now front part c.loop.invariant.front
          (part_as (g.F.Files.held c.loop.files) (g.F.Files.held c.args.files.now) c.args.name.now c.len.result (length front) part c.loop.invariant.held at
          c.in_ok-read_next.ensures.part));
      held = c.in_ok-read_next.ensures.same ∙ c.loop.invariant.held;
      reads = c.in_ok-read_next.ensures.reads ∙ c.loop.invariant.reads;
      writes = c.in_ok-read_next.ensures.writes ∙ c.loop.invariant.writes;
    }
