-- What the check of the roles comes to.
use Rattle.std.proofs.Common.{◌≡◌, ◌↔◌, IsTrue, ℕ, Bool, true, cond, ◌&&◌, List, [], ◌∷◌, map, length, nat_eq, nat_lt, nat_le, slice_get, bytes_eq, filter, Result, IfOk, eqb-true, refl, sym, subst, inl, inr, arith}
use Rattle.std.specs.List.{list_all}
use Rattle.std.specs.declared.alloc.AllocError.{AllocError}
use Rattle.std.proofs.lemmas.Bool.{and_parts, and_from, or_cases, cases_Bool, ltb-true}
use Rattle.std.proofs.lemmas.Result.{IfOk-weaker}
use Rattle.std.proofs.lemmas.Slice.Eq.{bytes_eq-Decides}
use Rattle.cov_base.specs.declared.obligations.DecEntry.{DecEntry}
use Rattle.line_table.specs.declared.roles.Role.{Role}
use Rattle.object_format.specs.declared.object.Object.{Object}
use Rattle.object_format.specs.Fields.{is_placed, are_files, are_obliged, is_row, is_role, is_other_role, is_condition_role, condition_count, passes_field}
use Rattle.object_format.specs.RoleCheck.{branches_from, is_condition, condition_of, conditions_of, is_known, AreSingle, AreWhole, PassesRole}

-- the first of five tests
first_of : (a b c d e : Bool) → (a && b && c && d && e) ≡ true → a ≡ true
first_of a b c d e h = (and_parts a b (and_parts (a && b) c (and_parts (a && b && c) d (and_parts (a && b && c && d) e h).0).0).0).0

-- the second of four tests
second_of : (a b c d : Bool) → (a && b && c && d) ≡ true → b ≡ true
second_of a b c d h = (and_parts a b (and_parts (a && b) c (and_parts (a && b && c) d h).0).0).1

-- a role that is a condition is one of its decision
known_role : (decisions : List DecEntry) (instances : ℕ) (role : Role) → is_role decisions instances role ≡ true → is_condition role ≡ true
    → is_known decisions (condition_of role) ≡ true
known_role decisions instances role h is =
    elim (or_cases (is_other_role role) (is_condition_role decisions instances role) h) [
      | inl other ↦
          let low = ltb-true role.kind.0 2
          (first_of (nat_lt role.kind.0 2) (nat_eq role.decision.0 0) (nat_eq role.condition.0 0) (nat_eq role.value 0) (nat_eq role.instance.0 0) other) in
          let two = eqb-true role.kind.0 2 is in
          let bad : ⊥ = omega arith in absurd bad
      | inr condition ↦
          second_of (nat_eq role.kind.0 2) (nat_lt role.condition.0 (condition_count (slice_get decisions role.decision.0))) (nat_le role.value 1)
          (nat_lt role.instance.0 instances) condition
    ]

known_roles : (decisions : List DecEntry) (instances : ℕ) (roles : List Role) → list_all (is_role decisions instances) roles ≡ true
    → list_all (is_known decisions) (conditions_of roles) ≡ true
known_roles decisions instances [] h = refl
known_roles decisions instances (role ∷ roles) h =
    let parts = and_parts (is_role decisions instances role) (list_all (is_role decisions instances) roles) h in
    let others = known_roles decisions instances roles parts.1 in
    elim (cases_Bool (is_condition role)) [
      | inl holds ↦ subst (λ b. list_all (is_known decisions) (map condition_of (cond b (role ∷ filter is_condition roles) (filter is_condition roles))) ≡ true) (sym holds)
          (and_from (is_known decisions (condition_of role)) _ (known_role decisions instances role parts.0 holds) others)
      | inr fails ↦ subst (λ b. list_all (is_known decisions) (map condition_of (cond b (role ∷ filter is_condition roles) (filter is_condition roles))) ≡ true) (sym fails) others
    ]

-- the check `field` looks at each role
roles_of_field : (o : Object) → passes_field o ≡ true → list_all (is_role o.obligations.decisions (length o.obligations.instances)) o.roles ≡ true
roles_of_field o h =
    (and_parts
    (is_placed o && are_files o.files && are_obliged (length o.files) o.obligations
    && list_all (is_row (length o.obligations.statements) (length o.obligations.instances)) o.rows)
    (list_all (is_role o.obligations.decisions (length o.obligations.instances)) o.roles) h).1

-- after the check `field` each condition that has a role is known
pub known_by_field : (o : Object) → passes_field o ≡ true → list_all (is_known o.obligations.decisions) (conditions_of o.roles) ≡ true
known_by_field o h = known_roles o.obligations.decisions (length o.obligations.instances) o.roles (roles_of_field o h)

-- where the roles are those of the branches, only their conditions are left
pub roles_pass : (o : Object) (r : Result Bool AllocError) → bytes_eq (map (λ role. role.address) o.roles) (branches_from 0x10000 o.text) ≡ true
    → IfOk r (λ complete. IsTrue complete ↔ (AreSingle (conditions_of o.roles) × AreWhole o.obligations.decisions (conditions_of o.roles)))
    → IfOk r (λ passes. IsTrue passes ↔ PassesRole o)
roles_pass o r same complete =
    let branches = (bytes_eq-Decides (map (λ role. role.address) o.roles) (branches_from 0x10000 o.text)).0 same in
    IfOk-weaker r _ _ (λ b h. (
      λ yes. let both = h.0 yes in record { branches = branches; single = both.0; whole = both.1 },
      λ p. h.1 (p.single, p.whole),
    )) complete
