-- What is known while the constants of an instance are computed.
use Rattle.std.specs.Prelude.{ℕ, zero, suc, List, Option, None, slice_get}
use Rattle.ada_meaning.specs.Statics.{InstanceValues, values_of, with_constants}
use Rattle.ada_tree.specs.Programs.{program_of}
use Rattle.ada_tree.specs.declared.program.Instance.{Instance}
use Rattle.ada_resolved.specs.declared.known.Known.{Known}

-- the instance with this number: they are numbered from 1
abbrev pub instance_at : List Instance → ℕ → Option Instance
instance_at is zero = None
instance_at is (suc n) = slice_get is n

-- what the instances of the program have, with the constants so far of one of them
abbrev pub known_values : Known → InstanceValues
known_values k = with_constants k.instance k.constants.now (values_of (program_of k.program.now))
