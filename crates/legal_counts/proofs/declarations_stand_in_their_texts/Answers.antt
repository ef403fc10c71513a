use Rattle.legal_counts.proofs.TextsOfDeclarations.{exceptions_in_texts, objects_noted, words_in_texts}
use Rattle.legal_counts.proofs.declarations_stand_in_their_texts.Goals as goal

pub returns-clause-exceptions : goal.returns-clause-exceptions
returns-clause-exceptions c = exceptions_in_texts

pub returns-clause-objects : goal.returns-clause-objects
returns-clause-objects c = objects_noted

pub returns-clause-words : goal.returns-clause-words
returns-clause-words c = words_in_texts
