use Rattle.std.proofs.Common.{◌≡◌, ◌++◌, map, ap, ◌∙◌}
use Rattle.ada_meaning.specs.Obligations.{in_order}
use Rattle.obligations.specs.declared.exceptions.NamedException.{NamedException}
use Rattle.obligations.specs.Exceptions.{is_before, of_declarations}
use Rattle.obligations.proofs.program.exceptions.Goals as goal

pub returns : goal.returns
returns c =
    let p = c.args.program.now in
    let listed : c.as_slice.result.now ≡ in_order is_before (of_declarations p.declared p.instances) =
    c.as_slice.ensures.value ∙ c.in_ok-sort_exceptions.ensures ∙ ap (in_order is_before)
    (c.in_ok-named.ensures ∙ (λ i. of_declarations (c.as_slice-declarations.ensures i) (c.as_slice-instances.ensures i))) in
    c.in_ok-push_names.ensures ∙ (λ i. c.in_ok-names.ensures i ++ map (λ (x : NamedException). x.name) (listed i))
