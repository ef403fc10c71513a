use Rattle.std.proofs.Common.{[], is_ok, length, true, sym, ap, ◌∙◌, arith, ◌≡◌}
use Rattle.ada_entities.specs.Views.{is_made}
use Rattle.ada_entities.specs.Tables.{is_earlier, instances_of, tables_of}
use Rattle.ada_entities.proofs.TableLaws.{shapes_length, added, earlier_pushed}
use Rattle.ada_entities.proofs.composite.Types.add.Goals as goal

pub invariant_of-self : goal.invariant_of-self
invariant_of-self c =
    let old = c.args.self.now in
    let m = is_made old.instances.items in
    let n = length old.definitions.items in
    let counts : is_earlier (is_made c.as_slice.result.now) (length c.as_slice-types.result.now) c.args.definition ≡ is_earlier m n c.args.definition =
    ap (λ xs. is_earlier (is_made xs) (length c.as_slice-types.result.now) c.args.definition) c.as_slice.ensures.value
    ∙ ap (λ xs. is_earlier m (length xs) c.args.definition) c.as_slice-types.ensures.value in
    let known : is_earlier m n c.args.definition ≡ true = sym counts ∙ (sym c.is_earlier.ensures ∙ c.if-not-is_earlier.false) in
    record {
      earlier = earlier_pushed (is_ok c.push.result) m 0 n old.definitions.items c.push.new.self.items c.args.definition c.push.ensures.items
          (omega arith) old.earlier known;
    }

pub returns-clause-number : goal.returns-clause-number
returns-clause-number c =
    let old = c.args.self.now in
    omega (arith, c.in_ok-number.ensures.number, ap length c.as_slice-types.ensures.value, shapes_length (instances_of old.instances.items) [] old.definitions.items)

pub returns-clause-added : goal.returns-clause-added
returns-clause-added c =
    let old = c.args.self.now in
    ap (λ ds. tables_of old.instances.items ds) c.in_ok-push.ensures.items ∙ added old.instances.items old.definitions.items c.args.definition
