use Rattle.std.proofs.Common.{◌∙◌, refl, string_bytes, sym}
use Rattle.std.proofs.lemmas.List.Folds.{list_all-map}
use Rattle.command_words.specs.Task.{is_short}
use Rattle.command_words.proofs.words.words_of.Goals as goal

pub returns-then-not-are_short-clause-command : goal.returns-then-not-are_short-clause-command
returns-then-not-are_short-clause-command c =
    rw (
      c.in-Some.ensures.cases.0,
      list_all-map is_short string_bytes c.in-Some.words.now,
      sym c.are_short.ensures ∙ c.if-not-are_short.true,
    ) refl

pub returns-clause-command : goal.returns-clause-command
returns-clause-command c =
    rw (
      c.in-Some.ensures.cases.0,
      list_all-map is_short string_bytes c.in-Some.words.now,
      sym c.are_short.ensures ∙ c.if-not-are_short.false,
    ) c.asked.ensures.command
