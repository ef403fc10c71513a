use Rattle.std.proofs.Common.{◌≡◌, ◌+◌, ◌-◌, length, sym, ◌∙◌, arith, rules}
use Rattle.std.proofs.lemmas.List.{length-map}
use Rattle.ada_tree.specs.Programs.{instance_of, program_of}
use Rattle.ada_resolved.proofs.Totals.{next_instance}
use Rattle.ada_resolved.proofs.sizes.TypeSizes.program_size.Goals as goal

pub loop-instance-preserved : goal.loop-instance-preserved
loop-instance-preserved c =
    let p = program_of c.args.self.now.program.now in
    let i = c.loop-instance.instance in
    let all : length p.instances ≡ c.args.self.now.last_instance =
    length-map c.args.self.now.program.now.instances instance_of ∙ sym c.args.self.now.instances in
    let inside : length p.instances + 1 - i ≡ length p.instances + 1 - (i + 1) + 1 = omega (arith, all, c.loop-instance-test.true) in
    next_instance p c.loop-instance.words c.in_ok-words.words (length p.instances + 1 - i) (length p.instances + 1 - (i + 1)) i inside
    (search rules)
    ∙ c.loop-instance.invariant
