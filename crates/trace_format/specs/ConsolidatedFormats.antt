-- How a consolidated file stands in bytes.
use Rattle.std.specs.Prelude.{ℕ, List, [], ◌∷◌, refl}
use Rattle.spelling.specs.Format.{Format, digest, number, ◌&◌, seen_as, long_list_of}
use Rattle.spelling.specs.Laws.{IsFormat, digest_ok, number_ok, and_ok, seen_as_ok, long_list_of_ok}
use Rattle.spelling.specs.Entries.{IsFixed}
use Rattle.spelling.specs.Fixed.{number_value, both_values, number_fixed, and_fixed, seen_as_fixed}
use Rattle.spelling.specs.Layers.{file, unsealed}
use Rattle.sha2.specs.Sha256.{sha256}
use Rattle.trace_format.specs.declared.consolidated.StartEntry.{StartEntry}
use Rattle.trace_format.specs.declared.consolidated.VectorEntry.{VectorEntry}
use Rattle.trace_format.specs.Consolidated.{Consolidated}

-- two numbers
abbrev pub pair : Format (ℕ × ℕ)
pair = number & number

pub pair_ok : IsFormat pair
pair_ok = and_ok _ _ number_ok number_ok

abbrev pub pair_value : List ℕ → ℕ × ℕ
pair_value = both_values 4 number_value number_value

pub pair_fixed : IsFixed pair 8 pair_value
pair_fixed = and_fixed number number 4 4 number_value number_value number_fixed number_fixed

-- a start: statement, instance
abbrev pub start_of : ℕ × ℕ → StartEntry
start_of p = record { statement = record { 0 = p.0 }; instance = record { 0 = p.1 } }

abbrev pub start_parts : StartEntry → ℕ × ℕ
start_parts s = (s.statement.0, s.instance.0)

abbrev pub start_entry : Format StartEntry
start_entry = seen_as pair start_of start_parts

pub start_entry_ok : IsFormat start_entry
start_entry_ok = seen_as_ok _ _ _ pair_ok (λ _ _. refl) (λ _. refl)

abbrev pub start_value : List ℕ → StartEntry
start_value bytes = start_of (pair_value bytes)

pub start_fixed : IsFixed start_entry 8 start_value
start_fixed = seen_as_fixed pair start_of start_parts 8 pair_value pair_fixed

-- four numbers
abbrev pub quadruple : Format (ℕ × (ℕ × (ℕ × ℕ)))
quadruple = number & (number & pair)

pub quadruple_ok : IsFormat quadruple
quadruple_ok = and_ok _ _ number_ok (and_ok _ _ number_ok pair_ok)

abbrev pub triple_value : List ℕ → ℕ × (ℕ × ℕ)
triple_value = both_values 4 number_value pair_value

abbrev pub quadruple_value : List ℕ → ℕ × (ℕ × (ℕ × ℕ))
quadruple_value = both_values 4 number_value triple_value

pub quadruple_fixed : IsFixed quadruple 16 quadruple_value
quadruple_fixed = and_fixed number (number & pair) 4 12 number_value triple_value number_fixed
    (and_fixed number pair 4 8 number_value pair_value number_fixed pair_fixed)

-- an evaluation: decision, instance, seen, value
abbrev pub vector_of : ℕ × (ℕ × (ℕ × ℕ)) → VectorEntry
vector_of p = record {
  decision = record { 0 = p.0 };
  instance = record { 0 = p.1.0 };
  vector = record { seen = p.1.1.0; value = p.1.1.1 };
}

abbrev pub vector_parts : VectorEntry → ℕ × (ℕ × (ℕ × ℕ))
vector_parts v = (v.decision.0, (v.instance.0, (v.vector.seen, v.vector.value)))

abbrev pub vector_entry : Format VectorEntry
vector_entry = seen_as quadruple vector_of vector_parts

pub vector_entry_ok : IsFormat vector_entry
vector_entry_ok = seen_as_ok _ _ _ quadruple_ok (λ _ _. refl) (λ _. refl)

abbrev pub vector_value : List ℕ → VectorEntry
vector_value bytes = vector_of (quadruple_value bytes)

pub vector_fixed : IsFixed vector_entry 16 vector_value
vector_fixed = seen_as_fixed quadruple vector_of vector_parts 16 quadruple_value quadruple_fixed

-- what stands between version and closing digest: the object's digest, those of the runs, starts, evaluations
abbrev pub consolidated_parts : Format Consolidated
consolidated_parts = seen_as (digest & (long_list_of digest & (long_list_of start_entry & long_list_of vector_entry)))
    (λ p. record { object = p.0; runs = p.1.0; starts = p.1.1.0; vectors = p.1.1.1 })
    (λ c. (c.object, (c.runs, (c.starts, c.vectors))))

pub consolidated_parts_ok : IsFormat consolidated_parts
consolidated_parts_ok =
    seen_as_ok _ _ _ (and_ok _ _ digest_ok (and_ok _ _ (long_list_of_ok _ digest_ok) (and_ok _ _ (long_list_of_ok _ start_entry_ok) (long_list_of_ok _ vector_entry_ok))))
    (λ _ _. refl) (λ _. refl)

-- the letters GCCV, by which a consolidated file begins
abbrev pub consolidated_magic : List ℕ
consolidated_magic = 71 ∷ 67 ∷ 67 ∷ 86 ∷ []

-- the bytes of a consolidated file
abbrev pub consolidated_spelling : Consolidated → List ℕ
consolidated_spelling c = file consolidated_magic 1 consolidated_parts c

-- the digest that closes it
abbrev pub consolidated_digest : Consolidated → List ℕ
consolidated_digest c = sha256 (unsealed consolidated_magic 1 consolidated_parts c)
