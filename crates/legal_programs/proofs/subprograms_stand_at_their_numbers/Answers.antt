use Rattle.legal_programs.proofs.SubprogramPlaces.{at_its_place, one_for_each}
use Rattle.legal_programs.proofs.subprograms_stand_at_their_numbers.Goals as goal

pub returns-clause-count : goal.returns-clause-count
returns-clause-count c = λ l main p is. one_for_each l main p is

pub returns-clause-places : goal.returns-clause-places
returns-clause-places c = λ l main p is generic q before t h more. at_its_place l main p is generic q before t h more
