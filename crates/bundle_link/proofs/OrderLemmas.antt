-- Where a cleared tree uses names that it imports, with the reads around each: where the tree does.
-- Lists and walks over modules that request the same, and where the entry stands.
use Rattle.std.proofs.Common.{◌≡◌, ℕ, ◌+◌, ◌==◌, ◌&&◌, ◌||◌, Bool, true, false, not, cond, is_some, codes, List, [], ◌∷◌, None, Some, filter, map, refl, ap, ◌∙◌, ◌++◌, Contains, subst, arith}
use Rattle.std.specs.Prelude.{if◌then◌else◌}
use Rattle.bundle_syntax.specs.Item.{Item, Head}
use Rattle.bundle_order_graph.specs.Order.{Lists, finished, passed, listed}
use Rattle.bundle_order_graph.specs.Walks.{Reaches, itself, along}
use Rattle.bundle_rules.specs.Places.{Around, Occurrence, occurrences, path_at}
use Rattle.bundle_rules.specs.Scopes.{Es}
use Rattle.bundle_rules.specs.Entries.{import_of}
use Rattle.bundle_rules.specs.Cleared.{cleared_head, cleared}
use Rattle.bundle_rules.proofs.HeadLemmas.{of_head}
use Rattle.bundle_rules.proofs.PathLemmas.{cleared_path, cleared_occurrence, path_at-cleared, occurrences-cleared}
use Rattle.bundle_rules.proofs.DenotesLemmas.{denoted_at-cleared}
use Rattle.bundle_rules.proofs.EntryLemmas.{imports_of-cleared}
use Rattle.bundle_rules.proofs.CallLemmas.{has_free-cleared}
use Rattle.bundle_rules.proofs.ReadLemmas.{read_word-cleared}
use Rattle.bundle_tree_places.specs.Stated.{states_nothing, is_stated_in, is_in_statement}
use Rattle.bundle_link_tables.specs.Used.{words_around, is_bound_at_top, is_use, use_of, uses_of}
use Rattle.bundle_link_tables.specs.TablesOf.{uses_common_js}
use Rattle.bundle_link.proofs.AlikeLemmas.{later}

-- ---- cleared uses
words_around-cleared_path : (tree : List Item) (place : ℕ) (path : List Around) → words_around (cleared tree) place (cleared_path path) ≡ words_around tree place path
words_around-cleared_path tree place [] = refl
words_around-cleared_path tree place (node ∷ outer) = λ i. if node.begins + 1 == place then (elim (read_word-cleared tree node.begins i) [ None ↦ [] | Some x ↦ x ∷ words_around-cleared_path tree node.begins outer i ]) else []

-- the words of the reads around a place
pub words_around-cleared : (tree : List Item) (place : ℕ) → words_around (cleared tree) place (path_at (cleared tree) place) ≡ words_around tree place (path_at tree place)
words_around-cleared tree place = (λ i. words_around (cleared tree) place (path_at-cleared tree place i)) ∙ words_around-cleared_path tree place (path_at tree place)

states_nothing-cleared : (head : Head) → states_nothing (cleared_head head) ≡ states_nothing head
states_nothing-cleared head = of_head states_nothing (λ meta. (refl, refl, refl, λ kind. refl)) head

is_stated_in-cleared : (head : Head) (path : List Around) → is_stated_in (cleared_head head) (cleared_path path) ≡ is_stated_in head path
is_stated_in-cleared head [] = refl
is_stated_in-cleared head (tree ∷ []) = λ i. not (states_nothing-cleared head i)
is_stated_in-cleared head (node ∷ next ∷ outer) = is_stated_in-cleared node.head (next ∷ outer)

is_in_statement-cleared_path : (path : List Around) → is_in_statement (cleared_path path) ≡ is_in_statement path
is_in_statement-cleared_path [] = refl
is_in_statement-cleared_path (node ∷ outer) = is_stated_in-cleared node.head outer

-- whether a place lies in a top item that states something
pub is_in_statement-cleared : (tree : List Item) (place : ℕ) → is_in_statement (path_at (cleared tree) place) ≡ is_in_statement (path_at tree place)
is_in_statement-cleared tree place = ap is_in_statement (path_at-cleared tree place) ∙ is_in_statement-cleared_path (path_at tree place)

is_use-cleared : (tree : List Item) (o : Occurrence) → is_use (cleared tree) (cleared_occurrence o) ≡ is_use tree o
is_use-cleared tree o = λ i. is_bound_at_top (denoted_at-cleared Es tree o.place i) && (is_some (import_of (imports_of-cleared tree i) o.sym) && is_in_statement-cleared tree o.place i)

use_of-cleared : (tree : List Item) (o : Occurrence) → use_of (cleared tree) (cleared_occurrence o) ≡ use_of tree o
use_of-cleared tree o = λ i. record { place = o.place; local = o.sym; words = words_around-cleared tree o.place i }

uses_of_occurrences : (tree : List Item) (os : List Occurrence) → map (use_of (cleared tree)) (filter (is_use (cleared tree)) (map cleared_occurrence os)) ≡ map (use_of tree) (filter (is_use tree) os)
uses_of_occurrences tree [] = refl
uses_of_occurrences tree (o ∷ os) =
    let others : List Occurrence = filter (is_use (cleared tree)) (map cleared_occurrence os) in
    (λ i. map (use_of (cleared tree)) (cond (is_use-cleared tree o i) (cleared_occurrence o ∷ others) others)) ∙ by (uses_of_occurrences tree os) (is_use tree o)
  where
    by : map (use_of (cleared tree)) (filter (is_use (cleared tree)) (map cleared_occurrence os)) ≡ map (use_of tree) (filter (is_use tree) os)
        → (b : Bool) → map (use_of (cleared tree)) (cond b (cleared_occurrence o ∷ filter (is_use (cleared tree)) (map cleared_occurrence os)) (filter (is_use (cleared tree)) (map cleared_occurrence os))) ≡ map (use_of tree) (cond b (o ∷ filter (is_use tree) os) (filter (is_use tree) os))
    by same true = λ i. use_of-cleared tree o i ∷ same i
    by same false = same

-- the uses
pub uses_of-cleared : (tree : List Item) → uses_of (cleared tree) ≡ uses_of tree
uses_of-cleared tree = (λ i. map (use_of (cleared tree)) (filter (is_use (cleared tree)) (occurrences-cleared tree i))) ∙ uses_of_occurrences tree (occurrences tree)

-- whether a name of CommonJS stands where nothing binds it
pub uses_common_js-cleared : (tree : List Item) → uses_common_js (cleared tree) ≡ uses_common_js tree
uses_common_js-cleared tree = λ i. has_free-cleared tree (codes "require") i || (has_free-cleared tree (codes "module") i || has_free-cleared tree (codes "exports") i)

-- ---- order
module _ (f g : ℕ → List ℕ) (S : ℕ → Type 0) (same : (n : ℕ) → S n → f n ≡ g n) (closed : (n m : ℕ) → S n → Contains (f n) m → S m) where
  -- the list is the same where modules of a set request the same, and only modules of it
  pub lists_on : {begun done todo all : List ℕ} → ((n : ℕ) → Contains todo n → S n) → Lists f begun done todo all → Lists g begun done todo all
  lists_on inside finished = finished
  lists_on inside (passed {todo = todo} {n = n} there more) = passed there (lists_on (λ m is. inside m (later n todo m is)) more)
  lists_on inside (listed {begun = begun} {done = done} {before = before} {todo = todo} {n = n} new first more) =
      let here = inside n (0, omega arith, refl) in
      listed new (subst (λ l. Lists g (n ∷ begun) done l before) (same n here) (lists_on (λ m is. closed n m here is) first)) (lists_on (λ m is. inside m (later n todo m is)) more)

  -- and so is what is reached
  pub reaches_on : {a c : ℕ} → S a → Reaches (λ x y. Contains (f x) y) a c → Reaches (λ x y. Contains (g x) y) a c × S c
  reaches_on here itself = (itself, here)
  reaches_on {a = a} here (along {b = b} edge more) =
      let rest = reaches_on (closed a b here edge) more in
      (along (subst (λ l. Contains l b) (same a here) edge) rest.0, rest.1)

-- nothing is left to list
all_done : (f : ℕ → List ℕ) (begun done todo all : List ℕ) → todo ≡ [] → Lists f begun done todo all → all ≡ done
all_done f begun done todo all is finished = refl
all_done f begun done todo all is (passed {todo = rest} {n = n} there more) = let no : n ∷ rest ≡ [] = is in cc
all_done f begun done todo all is (listed {todo = rest} {n = n} new first more) = let no : n ∷ rest ≡ [] = is in cc

-- the entry goes last
pub entry_last : (f : ℕ → List ℕ) (entry : ℕ) (list todo : List ℕ) → todo ≡ entry ∷ [] → Lists f [] [] todo list → (before : List ℕ) × (list ≡ before ++ entry ∷ [])
entry_last f entry list todo is finished = let no : ◌≡◌ {A = List ℕ} [] (entry ∷ []) = is in cc
entry_last f entry list todo is (passed {n = n} there more) = let no : ⊥ = omega (arith, there.1) in absurd no
entry_last f entry list todo is (listed {before = before} {todo = rest} {n = n} new first more) =
    let parts : (n ≡ entry) × (rest ≡ []) = both n entry rest is in
    (before, all_done f [] (before ++ n ∷ []) rest list parts.1 more ∙ ap (λ m. before ++ m ∷ []) parts.0)
  where
    both : (n entry : ℕ) (rest : List ℕ) → n ∷ rest ≡ entry ∷ [] → (n ≡ entry) × (rest ≡ [])
    both n entry rest is = (cc, cc)
