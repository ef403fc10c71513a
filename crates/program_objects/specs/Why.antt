-- The words for why a source is refused.
use Rattle.std.specs.Prelude.{ℕ, List, codes}
use Rattle.program_objects.specs.declared.fault.Why.{Why}
use Rattle.program_objects.specs.declared.fault.Why.TheVariants.{Limit, Lexical, Syntax, Naming, Typing, Exemption}

abbrev pub why_text : Why → List ℕ
why_text Limit = codes "limit"
why_text Lexical = codes "lexical"
why_text Syntax = codes "syntax"
why_text Naming = codes "naming"
why_text Typing = codes "typing"
why_text Exemption = codes "exemption"
