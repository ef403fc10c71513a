-- Where an object's text stands.
use Rattle.std.specs.Prelude.{◌≡◌, ℕ, ◌+◌, ◌*◌, ◌%◌, ◌<◌, ◌≤◌, Bool, true, ◌&&◌, ◌==◌, List, length, nat_le, nat_lt}
use Rattle.object_format.specs.declared.object.Object.{Object}

-- the address behind the text, which begins at 0x10000
abbrev pub text_end : List ℕ → ℕ
text_end text = 0x10000 + 4 * length text

-- an instruction of the text stands at the address
abbrev pub is_in_text : List ℕ → ℕ → Bool
is_in_text text address = (address % 4 == 0) && nat_le 0x10000 address && nat_lt address (text_end text)

-- text, entry and data of the object have their places in memory
pub record IsLaidOut (o : Object) : Type 0 where
  pub filled : 0 < length o.text
  pub limited : length o.text ≤ 4194304
  pub entry : is_in_text o.text o.entry ≡ true
  pub aligned : o.init_at % 4 ≡ 0
  pub behind : text_end o.text ≤ o.init_at
  pub within : o.init_at + 4 * length o.init ≤ 0x2000000
