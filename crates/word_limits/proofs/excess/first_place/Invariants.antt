-- The first of the places so far.
use Rattle.std.proofs.Common.{◌≡◌, take}
use Rattle.std.specs.Prelude.{reverse}
use Rattle.ada_rules.specs.Limits as rules
use Rattle.word_limits.proofs.excess.first_place.Given as goal

abbrev pub invariant-loop-place : goal.invariant-loop-place
invariant-loop-place l = l.first ≡ rules.first_place (reverse (take l.place-index l.places))
