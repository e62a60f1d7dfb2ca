-- The literal calls of `require` in a cleared tree, the free names, and what makes a script: those of the tree.
use Rattle.std.proofs.Common.{◌≡◌, ℕ, zero, suc, Bool, true, false, not, ◌&&◌, ◌||◌, List, [], ◌∷◌, ◌++◌, None, bytes_eq, filter, map, refl, ◌∙◌}
use Rattle.std.specs.Prelude.{if◌then◌else◌}
use Rattle.std.specs.List.{list_any}
use Rattle.bundle_syntax.specs.Item as h
use Rattle.bundle_syntax.specs.Item.{Item, Head}
use Rattle.bundle_rules.specs.Places.{Occurrence, occurrences, path_at}
use Rattle.bundle_rules.specs.Scopes.{Es}
use Rattle.bundle_rules.specs.Deferred.{is_in_function}
use Rattle.bundle_rules.specs.Homes.{is_parameters}
use Rattle.bundle_rules.specs.Nodes.{Text, has_text, each_once, begins_with, is_end}
use Rattle.bundle_rules.specs.Entries.{after, is_call_head, is_call, is_require_name, is_plain_argument_head, is_plain_argument, ends, only_argument, required_at, call_at, require_calls_from, require_calls, Settings, linked_calls, requests_of, is_import_meta, has_import_meta, is_module_declaration, is_script}
use Rattle.bundle_rules.specs.Bound.{top_names, is_global, is_free, has_free}
use Rattle.bundle_rules.specs.Awaits.{awaits, awaits_here, awaits_from, awaits_outside}
use Rattle.bundle_rules.specs.Cleared.{cleared_head, cleared_item, cleared}
use Rattle.bundle_rules.proofs.HeadLemmas.{of_head}
use Rattle.bundle_rules.proofs.PathLemmas.{cleared_occurrence, path_at-cleared, occurrences-cleared}
use Rattle.bundle_rules.proofs.DenotesLemmas.{scopes_around-cleared, denoted_at-cleared, top_declared-cleared}
use Rattle.bundle_rules.proofs.NodeLemmas.{string_of-cleared, begins_with-cleared, has_head-cleared, any_top}
use Rattle.bundle_rules.proofs.EntryLemmas.{declared_requests-cleared}

-- Free names.

-- the names that the top binds
pub top_names-cleared : (tree : List Item) → top_names (cleared tree) ≡ top_names tree
top_names-cleared tree = λ i. map (λ d. d.name.sym) (top_declared-cleared Es tree i)

-- whether nothing binds the name at a place
pub is_free-cleared : (tree : List Item) → is_free (cleared tree) ≡ is_free tree
is_free-cleared tree = λ i place. is_global (denoted_at-cleared Es tree place i)

free_of_occurrences : (free : ℕ → Bool) (x : Text) (os : List Occurrence) → list_any (λ (o : Occurrence). bytes_eq x o.sym && free o.place) (map cleared_occurrence os) ≡ list_any (λ (o : Occurrence). bytes_eq x o.sym && free o.place) os
free_of_occurrences free x [] = refl
free_of_occurrences free x (o ∷ os) = λ i. (bytes_eq x o.sym && free o.place) || free_of_occurrences free x os i

-- whether a name stands somewhere where nothing binds it
pub has_free-cleared : (tree : List Item) (x : Text) → has_free (cleared tree) x ≡ has_free tree x
has_free-cleared tree x =
    (λ i. list_any (λ (o : Occurrence). bytes_eq x o.sym && is_free-cleared tree i o.place) (occurrences-cleared tree i))
    ∙ free_of_occurrences (is_free tree) x (occurrences tree)

-- Literal calls of `require`.

after-cleared : (test : Item → Bool) → ((x : Item) → test (cleared_item x) ≡ test x) → (items : List Item) → after test (cleared items) ≡ cleared (after test items)
after-cleared test same [] = refl
after-cleared test same (x ∷ rest) = (λ i. if same x i then cleared rest else []) ∙ kept (test x)
  where
    kept : (b : Bool) → (if b then cleared rest else []) ≡ cleared (if b then rest else [])
    kept true = refl
    kept false = refl

is_call-cleared : (x : Item) → is_call (cleared_item x) ≡ is_call x
is_call-cleared (h.Open field head) = of_head is_call_head (λ meta. (refl, refl, refl, λ kind. refl)) head
is_call-cleared (h.Ident field sym ctxt role) = refl
is_call-cleared (h.Hole field) = refl
is_call-cleared h.Close = refl

is_require_name-cleared : (x : Item) → is_require_name (cleared_item x) ≡ is_require_name x
is_require_name-cleared (h.Open field head) = refl
is_require_name-cleared (h.Ident field sym ctxt role) = refl
is_require_name-cleared (h.Hole field) = refl
is_require_name-cleared h.Close = refl

is_plain_argument-cleared : (x : Item) → is_plain_argument (cleared_item x) ≡ is_plain_argument x
is_plain_argument-cleared (h.Open field head) = of_head is_plain_argument_head (λ meta. (refl, refl, refl, λ kind. refl)) head
is_plain_argument-cleared (h.Ident field sym ctxt role) = refl
is_plain_argument-cleared (h.Hole field) = refl
is_plain_argument-cleared h.Close = refl

is_end-cleared : (x : Item) → is_end (cleared_item x) ≡ is_end x
is_end-cleared (h.Open field head) = refl
is_end-cleared (h.Ident field sym ctxt role) = refl
is_end-cleared (h.Hole field) = refl
is_end-cleared h.Close = refl

ends-cleared : (n : ℕ) (items : List Item) → ends n (cleared items) ≡ ends n items
ends-cleared zero items = refl
ends-cleared (suc n) [] = refl
ends-cleared (suc n) (x ∷ rest) = λ i. is_end-cleared x i && ends-cleared n rest i

only_argument-cleared : (items : List Item) → only_argument (cleared items) ≡ only_argument items
only_argument-cleared [] = refl
only_argument-cleared (x ∷ rest) = λ i. if ends-cleared 3 rest i then string_of-cleared (x ∷ rest) i else None

required_at-cleared : (items : List Item) → required_at (cleared items) ≡ required_at items
required_at-cleared items =
    (λ i. only_argument (after is_plain_argument (after is_require_name (after-cleared is_call is_call-cleared items i))))
    ∙ (λ i. only_argument (after is_plain_argument (after-cleared is_require_name is_require_name-cleared (after is_call items) i)))
    ∙ (λ i. only_argument (after-cleared is_plain_argument is_plain_argument-cleared (after is_require_name (after is_call items)) i))
    ∙ only_argument-cleared (after is_plain_argument (after is_require_name (after is_call items)))

require_calls_from-cleared : (free : ℕ → Bool) (place : ℕ) (items : List Item) → require_calls_from free place (cleared items) ≡ require_calls_from free place items
require_calls_from-cleared free place [] = refl
require_calls_from-cleared free place (x ∷ rest) = λ i. call_at free place (required_at-cleared (x ∷ rest) i) ++ require_calls_from-cleared free (suc place) rest i

-- the calls
pub require_calls-cleared : (tree : List Item) → require_calls (is_free (cleared tree)) (cleared tree) ≡ require_calls (is_free tree) tree
require_calls-cleared tree = (λ i. require_calls (is_free-cleared tree i) (cleared tree)) ∙ require_calls_from-cleared (is_free tree) 0 tree

-- those that are linked
pub linked_calls-cleared : (settings : Settings) (tree : List Item) → linked_calls settings (is_free (cleared tree)) (cleared tree) ≡ linked_calls settings (is_free tree) tree
linked_calls-cleared settings tree = λ i. if settings.require then filter (λ call. not (has_text call.specifier settings.external)) (require_calls-cleared tree i) else []

-- the requests
pub requests : (settings : Settings) (tree : List Item) → requests_of settings (is_free (cleared tree)) (cleared tree) ≡ requests_of settings (is_free tree) tree
requests settings tree = λ i. each_once (filter (λ s. not (has_text s settings.external)) (declared_requests-cleared tree i) ++ map (λ call. call.specifier) (linked_calls-cleared settings tree i))

-- What makes a script, and where an `await` stands.

-- whether `import.meta` stands in the module
pub has_import_meta-cleared : (tree : List Item) → has_import_meta (cleared tree) ≡ has_import_meta tree
has_import_meta-cleared tree = has_head-cleared is_import_meta (of_head is_import_meta (λ meta. (refl, refl, refl, λ kind. refl))) tree

awaits_here-cleared : (x : Item) → awaits_here (cleared_item x) ≡ awaits_here x
awaits_here-cleared (h.Open field head) = of_head awaits (λ meta. (refl, refl, refl, λ kind. refl)) head
awaits_here-cleared (h.Ident field sym ctxt role) = refl
awaits_here-cleared (h.Hole field) = refl
awaits_here-cleared h.Close = refl

is_in_function-cleared : (tree : List Item) (place : ℕ) → is_in_function (path_at (cleared tree) place) ≡ is_in_function (path_at tree place)
is_in_function-cleared tree place = (λ i. is_in_function (path_at-cleared tree place i)) ∙ (λ i. list_any is_parameters (scopes_around-cleared Es (path_at tree place) i))

awaits_from-cleared : (tree : List Item) (place : ℕ) (items : List Item) → awaits_from (cleared tree) place (cleared items) ≡ awaits_from tree place items
awaits_from-cleared tree place [] = refl
awaits_from-cleared tree place (x ∷ rest) = λ i. (awaits_here-cleared x i && not (is_in_function-cleared tree place i)) || awaits_from-cleared tree (suc place) rest i

-- whether an `await` stands outside functions
pub awaits_outside-cleared : (tree : List Item) → awaits_outside (cleared tree) ≡ awaits_outside tree
awaits_outside-cleared tree = awaits_from-cleared tree 0 tree

is_module_declaration-cleared : (head : Head) → is_module_declaration (cleared_head head) ≡ is_module_declaration head
is_module_declaration-cleared head = of_head is_module_declaration (λ meta. (refl, refl, refl, λ kind. refl)) head

-- whether it is a script
pub is_script-cleared : (tree : List Item) → is_script (cleared tree) ≡ is_script tree
is_script-cleared tree = λ i. not (any_top (begins_with is_module_declaration) (begins_with-cleared is_module_declaration is_module_declaration-cleared) tree i) && not (has_import_meta-cleared tree i)
