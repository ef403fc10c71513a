-- What is known while the constants of an instance are computed.
use Rattle.ada_meaning.specs.Statics.{InstanceValues, with_constants}
use Rattle.ada_rules.specs.Statics.{instance_values}
use Rattle.ada_demands.specs.declared.known.Known.{Known}

-- what instances have, with the constants so far of one of them
abbrev pub known_values : Known → InstanceValues
known_values k = with_constants k.instance k.constants.now (instance_values k.instances.now)
