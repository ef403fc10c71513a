use Rattle.legal_texts.proofs.ToldDeclarations.{conforming_is, declaration_tells}
use Rattle.legal_texts.proofs.ToldItems.{items_tell, body_items_tell}
use Rattle.legal_texts.proofs.marks_are_told_by_their_identities.Goals as goal

pub returns-clause-declarations : goal.returns-clause-declarations
returns-clause-declarations c = λ table env s d open_here told. declaration_tells table env s open_here d told

pub returns-clause-packages : goal.returns-clause-packages
returns-clause-packages c = λ table env s p items told. items_tell table env s p items told

pub returns-clause-bodies : goal.returns-clause-bodies
returns-clause-bodies c = λ table env s p items told. body_items_tell table env s p items told

pub returns-clause-conforming : goal.returns-clause-conforming
returns-clause-conforming c = λ table r q told parameters result same. conforming_is table r q told parameters result same
