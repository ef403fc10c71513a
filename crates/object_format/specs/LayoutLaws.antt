-- Each entry and part of an object is read as it is spelled, and spelled as it is read.
use Rattle.std.proofs.Common.{refl}
use Rattle.spelling.specs.Format.{number, byte, bytes_of, string, ◌&◌, many}
use Rattle.spelling.specs.Laws.{IsFormat, number_ok, byte_ok, bytes_of_ok, string_ok, digest_ok, then_by_ok, and_ok, seen_as_ok, many_ok, list_of_ok}
use Rattle.object_format.specs.Layout.{file_entry, instance_entry, statement_entry, place, conditions, decision_entry, region, row, role, segment, listed, obligations, to_cover, parts}

pub file_entry_ok : IsFormat file_entry
file_entry_ok = seen_as_ok _ _ _ (and_ok _ _ string_ok digest_ok) (λ _ _. refl) (λ _. refl)

pub instance_entry_ok : IsFormat instance_entry
instance_entry_ok = seen_as_ok _ _ _ (and_ok _ _ string_ok (and_ok _ _ number_ok (and_ok _ _ number_ok number_ok))) (λ _ _. refl) (λ _. refl)

pub statement_entry_ok : IsFormat statement_entry
statement_entry_ok = seen_as_ok _ _ _ (and_ok _ _ number_ok (and_ok _ _ number_ok number_ok)) (λ _ _. refl) (λ _. refl)

pub place_ok : IsFormat place
place_ok = seen_as_ok _ _ _ (and_ok _ _ number_ok number_ok) (λ _ _. refl) (λ _. refl)

-- the two counts are those of what follows them
pub conditions_ok : IsFormat conditions
conditions_ok = seen_as_ok _ _ _
    (then_by_ok (byte & byte) (λ n. bytes_of n.1 & many place n.0) (and_ok _ _ byte_ok byte_ok) (λ n. and_ok _ _ (bytes_of_ok n.1) (many_ok place place_ok n.0)))
    (λ p fits. rw (fits.1.0, fits.1.1.0) refl) (λ _. refl)

pub decision_entry_ok : IsFormat decision_entry
decision_entry_ok = seen_as_ok _ _ _
    (and_ok _ _ (and_ok _ _ number_ok (and_ok _ _ number_ok (and_ok _ _ number_ok (and_ok _ _ number_ok byte_ok)))) conditions_ok)
    (λ _ _. refl) (λ _. refl)

pub region_ok : IsFormat region
region_ok = seen_as_ok _ _ _
    (and_ok _ _ number_ok (and_ok _ _ number_ok (and_ok _ _ number_ok (and_ok _ _ number_ok (and_ok _ _ number_ok string_ok)))))
    (λ _ _. refl) (λ _. refl)

pub row_ok : IsFormat row
row_ok = seen_as_ok _ _ _ (and_ok _ _ number_ok (and_ok _ _ number_ok number_ok)) (λ _ _. refl) (λ _. refl)

pub role_ok : IsFormat role
role_ok = seen_as_ok _ _ _
    (and_ok _ _ number_ok (and_ok _ _ byte_ok (and_ok _ _ number_ok (and_ok _ _ byte_ok (and_ok _ _ byte_ok number_ok)))))
    (λ _ _. refl) (λ _. refl)

pub segment_ok : IsFormat segment
unfolding segment
segment_ok = and_ok _ _ number_ok (list_of_ok number number_ok)

pub listed_ok : IsFormat listed
unfolding listed
listed_ok = and_ok _ _ (list_of_ok statement_entry statement_entry_ok) (and_ok _ _ (list_of_ok decision_entry decision_entry_ok) (list_of_ok region region_ok))

pub obligations_ok : IsFormat obligations
unfolding obligations
obligations_ok = seen_as_ok _ _ _
    (and_ok _ _ (list_of_ok instance_entry instance_entry_ok) (and_ok _ _ (list_of_ok string string_ok) listed_ok))
    (λ _ _. refl) (λ _. refl)

pub to_cover_ok : IsFormat to_cover
unfolding to_cover
to_cover_ok = and_ok _ _ obligations_ok (and_ok _ _ (list_of_ok row row_ok) (list_of_ok role role_ok))

pub parts_ok : IsFormat parts
unfolding parts
parts_ok = seen_as_ok _ _ _
    (and_ok _ _ segment_ok (and_ok _ _ segment_ok (and_ok _ _ (list_of_ok file_entry file_entry_ok) to_cover_ok)))
    (λ _ _. refl) (λ _. refl)
