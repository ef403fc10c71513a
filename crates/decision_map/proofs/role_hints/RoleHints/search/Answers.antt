use Rattle.std.proofs.Common.{rules}
use Rattle.std.proofs.lemmas.List.Sorted.{answers_always}
use Rattle.decision_map.proofs.RoleSearch.{searched}
use Rattle.decision_map.proofs.role_hints.RoleHints.search.Goals as goal

pub returns-in-Ok : goal.returns-in-Ok
returns-in-Ok c =
    let facts = c.binary_search_by_key.ensures in
    let by_key = facts.position (λ role. role.address) (answers_always _ _ _ (λ f a r g called. search rules)) in
    let is = searched c.args.roles.now c.requires.rise c.args.pc (record { address = 0; kind = record { 0 = 0 }; decision = record { 0 = 0 }; condition = record { 0 = 0 }; value = 0; instance = record { 0 = 0 } }) _ facts.bound by_key in
    rw c.in-Ok.is at is

pub returns-in-Err : goal.returns-in-Err
returns-in-Err c =
    let facts = c.binary_search_by_key.ensures in
    let by_key = facts.position (λ role. role.address) (answers_always _ _ _ (λ f a r g called. search rules)) in
    let is = searched c.args.roles.now c.requires.rise c.args.pc (record { address = 0; kind = record { 0 = 0 }; decision = record { 0 = 0 }; condition = record { 0 = 0 }; value = 0; instance = record { 0 = 0 } }) _ facts.bound by_key in
    rw c.in-Err.is at is
