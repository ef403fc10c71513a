-- Names in lower case, and names behind others, are words in ASCII.
use Rattle.std.proofs.Common.{◌≤◌, ◌+◌, ◌*◌, ℕ, List, [], ◌∷◌, ◌++◌, length, IsAscii, arith, length-append}
use Rattle.std.specs.Prelude.{codes}
use Rattle.std.specs.Char.{to_ascii_lowercase}
use Rattle.std.proofs.lemmas.List.{length-map}
use Rattle.std.proofs.lemmas.Str.{IsAscii-append}
use Rattle.std.proofs.lemmas.Str.Ascii.{IsAscii-nil, IsAscii-cons, IsAscii-map, lowercase_ascii}
use Rattle.ada_syntax.specs.declared.name.Identifier.{Identifier}
use Rattle.ada_rules.specs.Entities.{key}
use Rattle.ada_rules.specs.Environment.{Env}
use Rattle.ada_rules.specs.Declarations.{exception_name}
use Rattle.legal_names.specs.Spelled.{longest_word, IsWord, IsSpelled}

pub no_word : IsWord []
no_word = record { ascii = IsAscii-nil; short = omega arith }

pub key_word : (i : Identifier) → IsSpelled i → IsWord (key i)
key_word i h =
    let short = h.short in
    record {
      ascii = IsAscii-map to_ascii_lowercase i.text lowercase_ascii h.ascii;
      short = omega (arith, length-map i.text to_ascii_lowercase, short);
    }

point : IsAscii (codes ".")
point = IsAscii-cons 46 [] (omega arith) IsAscii-nil

for_name : (cs : List ℕ) (env : Env) (i : Identifier) → IsAscii cs → IsAscii (key i) → IsAscii (exception_name (record env { subprogram_name = cs }) i)
for_name [] env i h k = k
for_name (c ∷ cs) env i h k = IsAscii-append (c ∷ cs) (codes "." ++ key i) h (IsAscii-append (codes ".") (key i) point k)

pub exception_named : (env : Env) (i : Identifier) → IsWord env.subprogram_name → IsSpelled i → IsAscii (exception_name env i)
exception_named env i h k = for_name env.subprogram_name env i h.ascii (key_word i k).ascii

short_name : (cs : List ℕ) (env : Env) (i : Identifier) → length cs ≤ longest_word → length (key i) ≤ longest_word
    → length (exception_name (record env { subprogram_name = cs }) i) ≤ 2 * longest_word + 1
short_name [] env i h k = omega (arith, k)
short_name (c ∷ cs) env i h k = omega (arith, h, k, length-append (c ∷ cs) (46 ∷ key i))

pub exception_short : (env : Env) (i : Identifier) → IsWord env.subprogram_name → IsSpelled i → length (exception_name env i) ≤ 2 * longest_word + 1
exception_short env i h k = short_name env.subprogram_name env i h.short (key_word i k).short
