-- What the bodies of a program come to where nothing stands in a generic: each subprogram once, in instance 0.
use Rattle.std.proofs.Common.{◌≡◌, ◌≤◌, ℕ, suc, ◌+◌, List, [], ◌∷◌, ◌++◌, append_assoc, map, sum_by, None, Some, slice_get, option_map, refl, sym, ap, ◌∙◌, arith}
use Rattle.std.specs.Prelude.{unwrap_or}
use Rattle.std.proofs.lemmas.List.{map-append}
use Rattle.std.proofs.lemmas.List.Sums.{sum_by-cons}
use Rattle.ada_meaning.specs.Bodies.{Body, instances_of, bodies_from, bodies_of}
use Rattle.ada_meaning.specs.Collected.{Decision, block_labels, in_block, labels_of, decisions_of}
use Rattle.ada_meaning.specs.Obligations.{numbers}
use Rattle.ada_meaning.specs.Program.{Subprogram, Program}
use Rattle.ada_meaning.specs.Tree as tree
use Rattle.statement_code.specs.Fragments.{row_in, condition_in, conditions_in}
use Rattle.statement_code.specs.Kernels.{AreOutside, text_at, nodes_at, rows_of, conditions_of, expanded_nodes}
use Rattle.statement_code.specs.Sizes.{subprogram_nodes}

both_conditions : (i : ℕ) (hs gs : List Decision) → conditions_in i (hs ++ gs) ≡ conditions_in i hs ++ conditions_in i gs
both_conditions i [] gs = refl
both_conditions i (h ∷ hs) gs =
    ap (λ cs. map (condition_in i h.label.number) (numbers 0 (tree.conditions_of h.test)) ++ cs) (both_conditions i hs gs)
    ∙ sym (append_assoc (map (condition_in i h.label.number) (numbers 0 (tree.conditions_of h.test))) (conditions_in i hs) (conditions_in i gs))

module _ (p : Program) where
  -- the bodies from a number on
  next_body : (m : ℕ) (s : Subprogram) (ss : List Subprogram) → s.generic ≡ None → bodies_from m (s ∷ ss) p.instances ≡ record { instance = 0; subprogram = m } ∷ bodies_from (m + 1) ss p.instances
  next_body m s ss none = ap (λ g. map (λ i. record { instance = i; subprogram = m }) (instances_of g p.instances) ++ bodies_from (m + 1) ss p.instances) none

  abbrev Standing : ℕ → List Subprogram → Type 0
  Standing m ss = (n : ℕ) → slice_get p.subprograms (m + n) ≡ slice_get ss n

  first_text : (m : ℕ) (s : Subprogram) (ss : List Subprogram) → Standing m (s ∷ ss) → slice_get p.subprograms m ≡ Some s
  first_text m s ss stand = ap (slice_get p.subprograms) (no_more m) ∙ stand 0
    where
      no_more : (m : ℕ) → m ≡ m + 0
      no_more m = omega arith

  later_texts : (m : ℕ) (s : Subprogram) (ss : List Subprogram) → Standing m (s ∷ ss) → Standing (m + 1) ss
  later_texts m s ss stand n = ap (slice_get p.subprograms) (one_more m n) ∙ stand (suc n)
    where
      one_more : (m n : ℕ) → m + 1 + n ≡ m + suc n
      one_more m n = omega arith

  rows_from : (m : ℕ) (ss : List Subprogram) → AreOutside ss → Standing m ss → rows_of p (bodies_from m ss p.instances) ≡ map (row_in 0) (labels_of ss)
  rows_from m [] outside stand = refl
  rows_from m (s ∷ ss) outside stand =
      ap (rows_of p) (next_body m s ss outside.0)
      ∙ (λ i. map (row_in 0) (block_labels (text_is i)) ++ rows_from (m + 1) ss outside.1 (later_texts m s ss stand) i)
      ∙ sym (map-append (row_in 0) (block_labels s.body) (labels_of ss))
    where
      text_is : text_at p.subprograms m ≡ s.body
      text_is = ap (λ o. unwrap_or (option_map (λ t. t.body) o) (tree.block [] tree.no_statement tree.no_handler)) (first_text m s ss stand)

  conditions_from : (m : ℕ) (ss : List Subprogram) → AreOutside ss → Standing m ss → conditions_of p (bodies_from m ss p.instances) ≡ conditions_in 0 (decisions_of ss)
  conditions_from m [] outside stand = refl
  conditions_from m (s ∷ ss) outside stand =
      ap (conditions_of p) (next_body m s ss outside.0)
      ∙ (λ i. conditions_in 0 (in_block (text_is i)) ++ conditions_from (m + 1) ss outside.1 (later_texts m s ss stand) i)
      ∙ sym (both_conditions 0 (in_block s.body) (decisions_of ss))
    where
      text_is : text_at p.subprograms m ≡ s.body
      text_is = ap (λ o. unwrap_or (option_map (λ t. t.body) o) (tree.block [] tree.no_statement tree.no_handler)) (first_text m s ss stand)

  nodes_from : (m : ℕ) (ss : List Subprogram) → AreOutside ss → Standing m ss
      → sum_by (λ b. nodes_at p.subprograms b.subprogram) (bodies_from m ss p.instances) ≡ sum_by subprogram_nodes ss
  nodes_from m [] outside stand = refl
  nodes_from m (s ∷ ss) outside stand =
      ap (sum_by (λ b. nodes_at p.subprograms b.subprogram)) (next_body m s ss outside.0)
      ∙ omega (
        arith,
        sum_by-cons (λ (b : Body). nodes_at p.subprograms b.subprogram) (record { instance = 0; subprogram = m }) (bodies_from (m + 1) ss p.instances),
        sum_by-cons subprogram_nodes s ss,
        nodes_are,
        nodes_from (m + 1) ss outside.1 (later_texts m s ss stand),
      )
    where
      nodes_are : nodes_at p.subprograms m ≡ subprogram_nodes s
      nodes_are = ap (λ o. unwrap_or (option_map subprogram_nodes o) 0) (first_text m s ss stand)

  abbrev from_zero : Standing 0 p.subprograms
  from_zero = λ n. ap (slice_get p.subprograms) (let e : 0 + n ≡ n = omega arith in e)

  pub rows_once : AreOutside p.subprograms → rows_of p (bodies_of p) ≡ map (row_in 0) (labels_of p.subprograms)
  rows_once outside = rows_from 0 p.subprograms outside from_zero

  pub conditions_once : AreOutside p.subprograms → conditions_of p (bodies_of p) ≡ conditions_in 0 (decisions_of p.subprograms)
  conditions_once outside = conditions_from 0 p.subprograms outside from_zero

  pub nodes_once : AreOutside p.subprograms → expanded_nodes p ≡ sum_by subprogram_nodes p.subprograms
  nodes_once outside = nodes_from 0 p.subprograms outside from_zero

  -- the nodes of all bodies are no more than these weigh, where each subprogram weighs no less than its nodes
  all_weigh : (weight : ℕ → ℕ) → ((m : ℕ) → nodes_at p.subprograms m ≤ weight m) → (bs : List Body)
      → sum_by (λ b. nodes_at p.subprograms b.subprogram) bs ≤ sum_by (λ b. weight b.subprogram) bs
  all_weigh weight covers [] = omega arith
  all_weigh weight covers (b ∷ bs) =
      omega (
        arith,
        sum_by-cons (λ (c : Body). nodes_at p.subprograms c.subprogram) b bs,
        sum_by-cons (λ (c : Body). weight c.subprogram) b bs,
        covers b.subprogram,
        all_weigh weight covers bs,
      )

  pub nodes_weigh : (weight : ℕ → ℕ) → ((m : ℕ) → nodes_at p.subprograms m ≤ weight m) → expanded_nodes p ≤ sum_by (λ b. weight b.subprogram) (bodies_of p)
  nodes_weigh weight covers = all_weigh weight covers (bodies_of p)
