use Rattle.std.proofs.Common.{Some, sym, ap, ◌∙◌}
use Rattle.ada_rules.specs.Subprograms.{conforms}
use Rattle.ada_entities.specs.Answers.{no_memory}
use Rattle.specifications.specs.Profiles.{profile_of, completing}
use Rattle.specifications.proofs.ConformanceLaws.{conforms_there, refused_there}
use Rattle.specifications.proofs.ProfileLaws.{named_conformity}
use Rattle.specifications.proofs.conformance.conforming.Goals as goal

pub returns-in_default-subprogram : goal.returns-in_default-subprogram
returns-in_default-subprogram c known k b i region parameters h = no_memory

pub returns-then-not-conforms : goal.returns-then-not-conforms
returns-then-not-conforms c known k b i region parameters h =
    let q = profile_of k parameters c.args.profile.now in
    rw c.refused.ensures
    (refused_there c.args.pos region i q (completing k c.args.declaration) h
    (ap (λ d. conforms q (Some (completing k d))) c.in-Some.is
    ∙ named_conformity k c.in-Some.declaration c.in-Some-subprogram.declared.now q (c.in-Some-subprogram.ensures k known b)
    ∙ sym (c.conforms.ensures k parameters) ∙ c.if-not-conforms.true))

pub returns : goal.returns
returns c known k b i region parameters h =
    let q = profile_of k parameters c.args.profile.now in
    conforms_there c.args.pos region i q (completing k c.args.declaration) h
    (ap (λ d. conforms q (Some (completing k d))) c.in-Some.is
    ∙ named_conformity k c.in-Some.declaration c.in-Some-subprogram.declared.now q (c.in-Some-subprogram.ensures k known b)
    ∙ sym (c.conforms.ensures k parameters) ∙ c.if-not-conforms.false)
