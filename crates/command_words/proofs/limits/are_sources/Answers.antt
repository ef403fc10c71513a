use Rattle.std.proofs.Common.{◌∙◌, map, refl, sym}
use Rattle.command_words.proofs.SourceLaws.{are_names, sources_test}
use Rattle.command_words.proofs.limits.are_sources.Goals as goal

pub returns-then-is_count-clause-test : goal.returns-then-is_count-clause-test
returns-then-is_count-clause-test c = sym (sources_test (λ source. source.now) c.args.sources.now ∙ rw (sym c.is_count.ensures ∙ c.if-is_count.true, sym c.are_short.ensures) refl)

pub returns-then-is_count-clause-names : goal.returns-then-is_count-clause-names
returns-then-is_count-clause-names c = λ passed.
    are_names (map (λ source. source.now) c.args.sources.now)
    (sources_test (λ source. source.now) c.args.sources.now ∙ rw (sym c.is_count.ensures ∙ c.if-is_count.true, sym c.are_short.ensures) passed)
