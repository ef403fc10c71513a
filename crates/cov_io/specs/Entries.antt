-- What a list of files holds.
use Rattle.std.specs.Prelude.{ℕ, Bool, List, map, string_bytes}
use Rattle.std.specs.Str.{bytes_eq}
use Rattle.std.specs.FinMap as finmap
use Rattle.cov_io.specs.declared.contents.Entry.{Entry}
use Rattle.cov_io.specs.Outside.{Held}

-- the name of an entry, with its bytes
abbrev pub named_bytes : Entry → List ℕ × List ℕ
named_bytes entry = (string_bytes entry.name, entry.bytes.items)

-- what the entries hold: each name the bytes of its first entry
abbrev pub held_of : List Entry → Held
held_of entries = finmap.from_entries (map named_bytes entries)

-- whether the entry has this name
abbrev pub has_name : List ℕ → Entry → Bool
has_name name entry = bytes_eq (string_bytes entry.name) name
