-- Keys, as the program keeps them and as transcripts have them.
use Rattle.std.proofs.Common.{◌≡◌, Bool, true, false, cond, Option, refl}
use Rattle.std.specs.Cmp.{nat_eq_equiv}
use Rattle.transcript.specs.Visit.{Key as Activation, same_key}
use Rattle.std.specs.Option.{option_map}
use Rattle.vector_rebuild.specs.declared.half.Half.{Half}
use Rattle.vector_rebuild.specs.Kept.{same}
use Rattle.vector_rebuild.specs.Rebuilt.{half_as, key_in}

-- two keys are the same either way round, and as transcripts have them
pub same_as : (k l : Activation) → same (key_in k) (key_in l) ≡ same_key l k
same_as k l =
    rw (nat_eq_equiv.symm k.decision.0 l.decision.0, nat_eq_equiv.symm k.instance.0 l.instance.0, nat_eq_equiv.symm k.x8 l.x8) refl

-- a choice of what is kept, as transcripts have it
pub half_as_cond : (b : Bool) (new old : Option Half) → option_map half_as (cond b new old) ≡ cond b (option_map half_as new) (option_map half_as old)
half_as_cond true new old = refl
half_as_cond false new old = refl
