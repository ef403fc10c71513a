-- The exempt regions of sources stand in them as an object has them.
use Rattle.std.proofs.Common.{◌≡◌, ℕ, suc, ◌+◌, ◌*◌, ◌≤◌, ◌<◌, inl, inr, ◌&&◌, ◌||◌, cond, Bool, true, false, nat_lt, nat_eq, List, [], ◌∷◌, ◌++◌, length, Ok, Err, IfOk, AllPairs, refl, sym, subst, ◌∙◌, arith, length-append}
use Rattle.std.specs.List.{list_all, AllByRecursion}
use Rattle.std.specs.Ordering.{is_lt, nat_cmp, ordering_then}
use Rattle.std.specs.declared.cmp.Ordering.{Ordering}
use Rattle.std.specs.Str.{is_utf8}
use Rattle.std.specs.declared.cmp.Ordering.TheVariants.{Less, Equal, Greater}
use Rattle.std.proofs.lemmas.Bool.Decides.{nat_tests}
use Rattle.std.proofs.lemmas.List.Elements.{All-from_recursion, recursion_from_All}
use Rattle.std.proofs.lemmas.Str.{IsUtf8-from_ascii, is_utf8-from_IsUtf8}
use Rattle.ada_lexer.specs.declared.token.Token.{Token}
use Rattle.ada_lexer.specs.Tokens.{AreTokensOf, IsTokenOf, IsBefore}
use Rattle.cov_base.specs.Lists.{Everywhere}
use Rattle.cov_base.specs.TextOrder.{precedes}
use Rattle.cov_base.specs.declared.obligations.Region.{Region}
use Rattle.cov_base.specs.declared.obligations.SourceFile.{SourceFile}
use Rattle.cov_base.specs.declared.position.Pos.{Pos}
use Rattle.exemptions.specs.Regions.{Paired, regions_of, start_of, end_of, IsRegionOf, AreRegionsOf}
use Rattle.exemptions.proofs.Places.{regions_of-placed}
use Rattle.object_format.specs.Counts.{RegionFits}
use Rattle.object_format.specs.Fields.{is_counted, is_region, region_key, is_clear_of}
use Rattle.object_format.specs.Order.{is_below}
use Rattle.parsed_texts.specs.Parsed.{AreTokensOfFiles, no_file_behind, tokens_then}
use Rattle.parsed_texts.proofs.Few.{few_tokens}
use Rattle.parsed_texts.proofs.Files.{everywhere_joined, everywhere_so, Ordered}
use Rattle.parsed_texts.proofs.Places.{earlier_precedes}
use Rattle.spelling.specs.Checks.{rising, rising_after}
use Rattle.program_objects.proofs.Pairing.{pragmas_are}
use Rattle.program_objects.proofs.RegionCounts.{IsShort, regions_few, regions_short}
use Rattle.program_objects.specs.Exemptions.{paired_with, regions_of_lists, regions_in, exempt_regions, most_tokens_of_file, AreRegionsIn}
use Rattle.program_objects.specs.Units.{all_tokens}

both_hold : (a b : Bool) → a ≡ true → b ≡ true → (a && b) ≡ true
both_hold a b p q = rw (p, q) refl

less_holds : (a b : ℕ) → a < b → nat_lt a b ≡ true
less_holds a b less = grind (arith, nat_tests)

-- ---- two regions, one behind the other

-- three numbers decide, by the tests of their pairs: less and equal
first_below : (f g l m c d : Bool) (others : Ordering) → (f || (g && (l || (m && c)))) ≡ true
    → is_lt (ordering_then (cond f Less (cond g Equal Greater)) (ordering_then (cond l Less (cond m Equal Greater)) (ordering_then (cond c Less (cond d Equal Greater)) others))) ≡ true
first_below true g l m c d others before = refl
first_below false true true m c d others before = refl
first_below false true false true true d others before = refl
first_below false true false true false d others before = absurd (let x : ⊥ = cc in x)
first_below false true false false c d others before = absurd (let x : ⊥ = cc in x)
first_below false false l m c d others before = absurd (let x : ⊥ = cc in x)

key_below : (a b : Region) → precedes (start_of a) (start_of b) ≡ true → is_below (region_key a) (region_key b) ≡ true
key_below a b before =
    first_below (nat_lt a.file b.file) (nat_eq a.file b.file) (nat_lt a.from_line b.from_line) (nat_eq a.from_line b.from_line)
    (nat_lt a.from_column b.from_column) (nat_eq a.from_column b.from_column)
    (ordering_then (nat_cmp a.to_line b.to_line) (ordering_then (nat_cmp a.to_column b.to_column) Equal)) before

clear_of : (a b : Region) → precedes (end_of a) (start_of b) ≡ true → is_clear_of a b ≡ true
clear_of a b before =
    first_below (nat_lt a.file b.file) (nat_eq a.file b.file) (nat_lt a.to_line b.from_line) (nat_eq a.to_line b.from_line)
    (nat_lt a.to_column b.from_column) (nat_eq a.to_column b.from_column) Equal before

abbrev are_clear : Region → Region → Bool
are_clear one next = is_below (region_key one) (region_key next) && is_clear_of one next

before_both : (p q r : Pos) → IsBefore p q → IsBefore q r → IsBefore p r
before_both p q r (inl h) (inl k) = inl (omega (arith, h, k))
before_both p q r (inl h) (inr k) = inl (omega (arith, h, k.0))
before_both p q r (inr h) (inl k) = inl (omega (arith, h.0, k))
before_both p q r (inr h) (inr k) = inr (omega (arith, h.0, k.0), omega (arith, h.1, k.1))

-- in one file
in_one_file : (a b : Region) → a.file ≡ b.file → IsBefore (start_of a) (end_of a) → IsBefore (end_of a) (start_of b) → are_clear a b ≡ true
in_one_file a b same own next =
    both_hold (is_below (region_key a) (region_key b)) (is_clear_of a b)
    (key_below a b (earlier_precedes (start_of a) (start_of b) (inr (same, before_both (start_of a) (end_of a) (start_of b) own next))))
    (clear_of a b (earlier_precedes (end_of a) (start_of b) (inr (same, next))))

-- in an earlier one
in_two_files : (a b : Region) → a.file < b.file → are_clear a b ≡ true
in_two_files a b less =
    both_hold (is_below (region_key a) (region_key b)) (is_clear_of a b)
    (key_below a b (earlier_precedes (start_of a) (start_of b) (inl less))) (clear_of a b (earlier_precedes (end_of a) (start_of b) (inl less)))

-- ---- regions of the files from one number on, up to another

abbrev IsIn : (first last : ℕ) → Region → Type 0
IsIn first last r = (first ≤ r.file) × (r.file < last) × IsRegionOf r.file r × RegionFits r

record StandIn (first last : ℕ) (regions : List Region) : Type 0 where
  pub ordered : Ordered are_clear regions
  pub each : Everywhere (IsIn first last) regions

ordered_joined : (mid : ℕ) (xs ys : List Region) → Ordered are_clear xs → Everywhere (λ (r : Region). r.file < mid) xs → Ordered are_clear ys
    → Everywhere (λ (r : Region). mid ≤ r.file) ys → Ordered are_clear (xs ++ ys)
ordered_joined mid [] ys h below k behind = k
ordered_joined mid (x ∷ xs) ys h below k behind = (
  everywhere_joined (λ (y : Region). are_clear x y ≡ true) xs ys h.0
      (everywhere_so (λ (y : Region). mid ≤ y.file) (λ (y : Region). are_clear x y ≡ true) (λ y from. in_two_files x y (omega (arith, below.0, from))) ys behind),
  ordered_joined mid xs ys h.1 below.1 k behind,
)

joined : (first mid last : ℕ) (xs ys : List Region) → first ≤ mid → mid ≤ last → StandIn first mid xs → StandIn mid last ys → StandIn first last (xs ++ ys)
joined first mid last xs ys up on h k = record {
  ordered = ordered_joined mid xs ys h.ordered (everywhere_so (IsIn first mid) (λ (r : Region). r.file < mid) (λ r is. is.1) xs h.each)
      k.ordered (everywhere_so (IsIn mid last) (λ (r : Region). mid ≤ r.file) (λ r is. is.0) ys k.each);
  each = everywhere_joined (IsIn first last) xs ys
      (everywhere_so (IsIn first mid) (IsIn first last) (λ r is. let less = is.1 in (is.0, omega (arith, less, on), is.2, is.3)) xs h.each)
      (everywhere_so (IsIn mid last) (IsIn first last) (λ r is. let from = is.0 in (omega (arith, from, up), is.1, is.2, is.3)) ys k.each);
}

-- ---- those of one file

clear_of_rest : (n : ℕ) (r : Region) (rs : List Region) → IsRegionOf n r → AllByRecursion (IsRegionOf n) rs → AllByRecursion (λ (s : Region). IsBefore (end_of r) (start_of s)) rs
    → Everywhere (λ (s : Region). are_clear r s ≡ true) rs
clear_of_rest n r [] is each behind = tt
clear_of_rest n r (s ∷ rs) is each behind =
    (in_one_file r s (is.in_file ∙ sym each.0.in_file) is.ordered behind.0, clear_of_rest n r rs is each.1 behind.1)

ordered_in : (n : ℕ) (rs : List Region) → AllByRecursion (IsRegionOf n) rs → AllPairs (λ (a b : Region). IsBefore (end_of a) (start_of b)) rs → Ordered are_clear rs
ordered_in n [] each apart = tt
ordered_in n (r ∷ rs) each apart = (
  clear_of_rest n r rs each.0 each.1
      (recursion_from_All (λ (s : Region). IsBefore (end_of r) (start_of s)) rs (λ k d h. apart 0 (suc k) d (omega arith) (omega (arith, h)))),
  ordered_in n rs each.1 (λ i j d less h. apart (suc i) (suc j) d (omega (arith, less)) (omega (arith, h))),
)

each_in : (n most : ℕ) (rs : List Region) → most ≤ 1048576 → AllByRecursion (IsRegionOf n) rs → AllByRecursion (IsShort most) rs → Everywhere (IsIn n (n + 1)) rs
each_in n most [] small each short = tt
each_in n most (r ∷ rs) small each short =
    let same = each.0.in_file in
    let few = short.0 in
    ((omega (arith, same), omega (arith, same), subst (λ m. IsRegionOf m r) (sym same) each.0, omega (arith, few, small)), each_in n most rs small each.1 short.1)

of_file : (n : ℕ) (source : List ℕ) (tokens : List Token) → length source ≤ 1048576 → AreTokensOf n source tokens → IfOk (regions_of tokens) (StandIn n (n + 1))
of_file n source tokens small lexed =
    by (regions_of tokens) refl (regions_short n source tokens (recursion_from_All (IsTokenOf n source) tokens lexed.each))
  where
    by : (p : Paired) → regions_of tokens ≡ p → IfOk p (AllByRecursion (IsShort (length source))) → IfOk p (StandIn n (n + 1))
    by (Ok regions) pairs short =
        let of : AreRegionsOf n regions = regions_of-placed tokens regions pairs n source lexed in
        let each = recursion_from_All (IsRegionOf n) regions of.each in
        record { ordered = ordered_in n regions each of.apart; each = each_in n (length source) regions small each short }
    by (Err unpaired) pairs short = tt

-- ---- those of all files

-- what holds of the regions of a file, and of those behind it, holds of all
of_both : (P Q R : List Region → Type 0) → ((xs ys : List Region) → P xs → Q ys → R (xs ++ ys)) → (p q : Paired) → IfOk p P → IfOk q Q → IfOk (paired_with p q) R
of_both P Q R join (Ok xs) (Ok ys) h k = join xs ys h k
of_both P Q R join (Ok xs) (Err unpaired) h k = tt
of_both P Q R join (Err unpaired) q h k = tt

of_files : {n : ℕ} {files : List SourceFile} {lists : List (List Token)} → AreTokensOfFiles n files lists → IfOk (regions_of_lists lists) (StandIn n (n + length files))
of_files no_file_behind = record { ordered = tt; each = tt }
of_files (tokens_then {n = n} {file = file} {files = files} {tokens = tokens} {more = more} small lexed others) =
    let count : (n + 1) + length files ≡ n + suc (length files) = omega arith in
    of_both (StandIn n (n + 1)) (StandIn (n + 1) ((n + 1) + length files)) (StandIn n (n + suc (length files)))
    (λ xs ys h k. subst (λ last. StandIn n last (xs ++ ys)) count (joined n (n + 1) ((n + 1) + length files) xs ys (omega arith) (omega arith) h k))
    (regions_of tokens) (regions_of_lists more) (of_file n file.bytes tokens small lexed) (of_files others)

few_of_files : {n : ℕ} {files : List SourceFile} {lists : List (List Token)} → AreTokensOfFiles n files lists
    → IfOk (regions_of_lists lists) (λ (regions : List Region). length regions ≤ length files * most_tokens_of_file)
few_of_files no_file_behind = omega arith
few_of_files (tokens_then {n = n} {file = file} {files = files} {tokens = tokens} {more = more} small lexed others) =
    of_both (λ (xs : List Region). length xs ≤ most_tokens_of_file) (λ (ys : List Region). length ys ≤ length files * most_tokens_of_file)
    (λ (zs : List Region). length zs ≤ length (file ∷ files) * most_tokens_of_file)
    (λ xs ys h k. omega (arith, h, k, length-append xs ys))
    (regions_of tokens) (regions_of_lists more) (regions_few tokens most_tokens_of_file (omega (arith, few_tokens n file.bytes tokens lexed, small))) (few_of_files others)

-- ---- as an object has them

region_stands : (files : ℕ) (r : Region) → r.file < files → IsRegionOf r.file r → is_region files r ≡ true
region_stands files r less is =
    both_hold (nat_lt r.file files && is_counted r.from_line r.from_column && is_counted r.to_line r.to_column) (is_utf8 r.why)
    (both_hold (nat_lt r.file files && is_counted r.from_line r.from_column) (is_counted r.to_line r.to_column)
    (both_hold (nat_lt r.file files) (is_counted r.from_line r.from_column) (less_holds r.file files less)
    (both_hold (nat_lt 0 r.from_line) (nat_lt 0 r.from_column) (less_holds 0 r.from_line is.from_line) (less_holds 0 r.from_column is.from_column)))
    (both_hold (nat_lt 0 r.to_line) (nat_lt 0 r.to_column) (less_holds 0 r.to_line is.to_line) (less_holds 0 r.to_column is.to_column)))
    (is_utf8-from_IsUtf8 r.why (IsUtf8-from_ascii r.why is.ascii))

all_stand : (first files : ℕ) (rs : List Region) → Everywhere (IsIn first files) rs → list_all (is_region files) rs ≡ true
all_stand first files [] each = refl
all_stand first files (r ∷ rs) each =
    both_hold (is_region files r) (list_all (is_region files) rs) (region_stands files r each.0.1 each.0.2) (all_stand first files rs each.1)

rise_after : (r : Region) (rs : List Region) → Ordered are_clear (r ∷ rs) → rising_after are_clear r rs ≡ true
rise_after r [] ordered = refl
rise_after r (s ∷ rs) ordered = both_hold (are_clear r s) (rising_after are_clear s rs) ordered.0.0 (rise_after s rs ordered.1)

all_rise : (rs : List Region) → Ordered are_clear rs → rising are_clear rs ≡ true
all_rise [] ordered = refl
all_rise (r ∷ rs) ordered = rise_after r rs ordered

all_fit : (first files : ℕ) (rs : List Region) → Everywhere (IsIn first files) rs → AllByRecursion RegionFits rs
all_fit first files [] each = tt
all_fit first files (r ∷ rs) each = (each.0.3, all_fit first files rs each.1)

regions_stand : (files : List SourceFile) (lists : List (List Token)) → AreTokensOfFiles 0 files lists → AreRegionsIn (length files) (regions_in (regions_of_lists lists))
regions_stand files lists lexed =
    let count : 0 + length files ≡ length files = omega arith in
    by (length files) (regions_of_lists lists) (subst (λ last. IfOk (regions_of_lists lists) (StandIn 0 last)) count (of_files lexed)) (few_of_files lexed)
  where
    by : (last : ℕ) (p : Paired) → IfOk p (StandIn 0 last) → IfOk p (λ (regions : List Region). length regions ≤ last * most_tokens_of_file) → AreRegionsIn last (regions_in p)
    by last (Ok regions) stand few = record {
      placed = both_hold (list_all (is_region last) regions) (rising are_clear regions) (all_stand 0 last regions stand.each) (all_rise regions stand.ordered);
      few = few;
      short = All-from_recursion RegionFits regions (all_fit 0 last regions stand.each);
    }
    by last (Err unpaired) stand few = record { placed = refl; few = omega arith; short = All-from_recursion RegionFits [] tt }

-- those of sources with these tokens
pub sources_stand : (files : List SourceFile) (lists : List (List Token)) → all_tokens 0 files ≡ Ok lists → AreTokensOfFiles 0 files lists
    → AreRegionsIn (length files) (exempt_regions files)
sources_stand files lists have lexed =
    subst (λ (p : Paired). AreRegionsIn (length files) (regions_in p)) (sym (pragmas_are files lists have)) (regions_stand files lists lexed)
