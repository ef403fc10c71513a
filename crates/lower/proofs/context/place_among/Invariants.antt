-- The places so far are others.
use Rattle.std.proofs.Common.{◌≡◌, drop}
use Rattle.lower.specs.Context.{place_among}
use Rattle.lower.proofs.context.place_among.Given as goal

abbrev pub invariant-loop-place : goal.invariant-loop-place
invariant-loop-place l = place_among l.declaration (drop l.place-index l.places) ≡ place_among l.declaration l.places
