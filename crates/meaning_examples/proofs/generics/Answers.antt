use Rattle.meaning_examples.proofs.GenericExamples.{own_objects, own_constants}
use Rattle.meaning_examples.proofs.FormedExamples.{count_formed}
use Rattle.meaning_examples.proofs.generics.Goals as goal

pub returns : goal.returns
returns c = record { objects = own_objects; constants = own_constants; well_formed = count_formed }
