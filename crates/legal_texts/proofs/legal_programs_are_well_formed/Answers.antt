use Rattle.ada_rules.specs.Entities.{whole_standard}
use Rattle.ada_rules.specs.Library.{library_of}
use Rattle.legal_programs.proofs.Passed.{is_legal}
use Rattle.legal_texts.proofs.LegalPrograms.{all_formed, all_bounded}
use Rattle.legal_texts.proofs.legal_programs_are_well_formed.Goals as goal

pub returns-clause-formed : goal.returns-clause-formed
returns-clause-formed c = λ units main p h rise statements decisions texts.
    let is = is_legal (library_of whole_standard units) main p h in
    c.legal_programs_are_well_formed_but_for_their_texts.ensures units main p h rise statements decisions
    (all_formed units main p is rise
    (c.instances_have_their_facts.ensures.facts whole_standard units main p is rise)
    (c.orders_of_legal_programs_are_whole.ensures whole_standard units main p is) texts
    (c.constants_have_their_values.ensures.served units main p is rise)
    (c.actuals_have_their_values.ensures units main p is rise))

pub returns-clause-bounded : goal.returns-clause-bounded
returns-clause-bounded c = λ units main p h rise texts.
    let is = is_legal (library_of whole_standard units) main p h in
    (all_bounded units main p is rise
    (c.instances_have_their_facts.ensures.facts whole_standard units main p is rise)
    (c.orders_of_legal_programs_are_whole.ensures whole_standard units main p is) texts
    (c.constants_have_their_values.ensures.served units main p is rise)
    (c.actuals_have_their_values.ensures units main p is rise)).0

pub returns-clause-texts : goal.returns-clause-texts
returns-clause-texts c = λ units main p h rise texts.
    let is = is_legal (library_of whole_standard units) main p h in
    all_formed units main p is rise
    (c.instances_have_their_facts.ensures.facts whole_standard units main p is rise)
    (c.orders_of_legal_programs_are_whole.ensures whole_standard units main p is) texts
    (c.constants_have_their_values.ensures.served units main p is rise)
    (c.actuals_have_their_values.ensures units main p is rise)

pub returns-clause-library : goal.returns-clause-library
returns-clause-library c = λ units main p h rise texts.
    let is = is_legal (library_of whole_standard units) main p h in
    (all_bounded units main p is rise
    (c.instances_have_their_facts.ensures.facts whole_standard units main p is rise)
    (c.orders_of_legal_programs_are_whole.ensures whole_standard units main p is) texts
    (c.constants_have_their_values.ensures.served units main p is rise)
    (c.actuals_have_their_values.ensures units main p is rise)).1
