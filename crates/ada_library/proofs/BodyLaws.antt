-- The numbers of bodies.
use Rattle.std.proofs.Common.{◌≡◌, ℕ, ◌+◌, Bool, true, ◌&&◌, List, ◌∷◌, map, Option, Some, None, is_some, option_copied, refl, sym, ap, ◌∙◌}
use Rattle.std.specs.Borrow.{Bor}
use Rattle.std.specs.Map.{lookup}
use Rattle.std.specs.Option.{option_or}
use Rattle.std.specs.declared.vec.Vec.{Vec}
use Rattle.std.specs.declared.alloc.Global.{Global}
use Rattle.std.specs.Cmp.Lexicographic.{bytes_decides, nat_list_eq_equiv}
use Rattle.std.proofs.lemmas.Bool.{and_parts}
use Rattle.indexmap.specs.IndexMap.{insert_entry}
use Rattle.ada_rules.specs.Entities.{same_name}
use Rattle.ada_rules.specs.Environment.{BodyName}
use Rattle.ada_rules.specs.Subprograms.{is_body, place_among}
use Rattle.ada_library.specs.BodyView.{name_of, numbered, table_of}
use Rattle.ada_library.specs.BodyNumbering.{number_in}
use Rattle.ada_library.proofs.Tables.{lookup_seen, put_seen, added, there_already}

-- bodies by both of their names
abbrev pub is_named : List ℕ × List ℕ → BodyName → Bool
is_named names b = is_body names.0 names.1 b

pub one_body : (b : BodyName) (names : List ℕ × List ℕ) → is_named names b ≡ true → names ≡ (b.package_name, b.name)
one_body b names h =
    let p = and_parts (same_name b.package_name names.0) (same_name b.name names.1) h in
    λ z. (sym ((bytes_decides b.package_name names.0).0 p.0) z, sym ((bytes_decides b.name names.1).0 p.1) z)

pub names_match : (a b : Vec ℕ Global × Vec ℕ Global)
    → (same_name a.0.items b.0.items && same_name a.1.items b.1.items) ≡ is_named (a.0.items, a.1.items) (name_of b)
names_match a b = λ z. nat_list_eq_equiv.symm a.0.items b.0.items z && nat_list_eq_equiv.symm a.1.items b.1.items z

-- a map by both names, and what it is seen as
abbrev pub same_names : Vec ℕ Global × Vec ℕ Global → Vec ℕ Global × Vec ℕ Global → Bool
same_names a b = same_name a.0.items b.0.items && same_name a.1.items b.1.items

pub copied_some : {A : Type 0} (o : Option (Bor A)) → is_some (option_copied o) ≡ is_some o
copied_some None = refl
copied_some (Some x) = refl

module _ (entries : List ((Vec ℕ Global × Vec ℕ Global) × ℕ)) (names : Vec ℕ Global × Vec ℕ Global) where
  pub found_seen : lookup (same_names names) entries ≡ lookup (is_body names.0.items names.1.items) (map numbered entries)
  found_seen = lookup_seen name_of (same_names names) (is_named (names.0.items, names.1.items)) (names_match names) entries

  module _ (count next : ℕ) (counted : next ≡ count + 1) (behind : List BodyName) (unit name : List ℕ) where
    pub there_before : is_some (lookup (same_names names) entries) ≡ true
        → number_in (table_of entries next) behind unit name ≡ number_in (table_of entries count) (name_of names ∷ behind) unit name
    there_before h =
        let own : List ℕ × List ℕ = (names.0.items, names.1.items) in
        ap (λ n. number_in (table_of entries n) behind unit name) counted
        ∙ there_already is_named own (name_of names) (one_body (name_of names)) (unit, name) count (map numbered entries)
        (place_among unit name (count + 1) behind) (ap is_some (sym found_seen) ∙ h)

    pub put_last : lookup (same_names names) entries ≡ None
        → number_in (table_of (insert_entry same_names entries names count) next) behind unit name
        ≡ number_in (table_of entries count) (name_of names ∷ behind) unit name
    put_last h =
        let own : List ℕ × List ℕ = (names.0.items, names.1.items) in
        (λ z. option_or
        (lookup (is_body unit name) (put_seen name_of same_names (is_named own) names (names_match names) count entries z))
        (place_among unit name (counted z) behind))
        ∙ added is_named own (name_of names) (one_body (name_of names)) (unit, name) count (map numbered entries)
        (place_among unit name (count + 1) behind) (sym found_seen ∙ h)
