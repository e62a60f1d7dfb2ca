-- `use(ns.x);` with `import * as ns from './a'` and a: `export const x = 1;` means `use(l);`, by
-- notes beside it.
use Rattle.std.proofs.Common.{◌≡◌, ℕ, zero, suc, Bool, true, false, List, [], ◌∷◌, ◌++◌, Some, None, refl, sym, ap, ◌∙◌, subst, arith, lit<, true≢false}
use Rattle.std.specs.Prelude.{codes, Contains, slice_get}
use Rattle.std.proofs.lemmas.Option.{none-some, same_Some}
use Rattle.bundle_syntax.specs.declared.operator.AssignOp.TheVariants.{Assign}
use Rattle.bundle_syntax.specs.declared.piece.Role.TheVariants.{Binding, Reference, Word}
use Rattle.bundle_syntax.specs.Item as h
use Rattle.bundle_syntax.specs.Item.{Item}
use Rattle.bundle_rules.specs.Places.{Occurrence, path_at, occurrences_from, spot_before}
use Rattle.bundle_rules.specs.Scopes.{Es, Top}
use Rattle.bundle_rules.specs.Denotes.{Denoted, Bound, Global}
use Rattle.bundle_rules.specs.Nodes.{Text, has_head, side_by_side, begins_in, begins_with}
use Rattle.bundle_rules.specs.Statements.{taken_from}
use Rattle.bundle_rules.specs.Program.{Program, tree_of}
use Rattle.bundle_rules.specs.Linking.{Target, Declared, Namespace, StandsFor, taken_whole, of_module}
use Rattle.bundle_rules.specs.Marks as k
use Rattle.bundle_rules.specs.Meaning.{Replacement, Of, Known, Unbound, plain as plain_name, unbound, is_es, OwnMeaning, own_sense, inner_bindings, own_view, Replaced, static_read, import_meta, require_call, is_meta_at}
use Rattle.bundle_rules.specs.Entries.{is_import_meta}
use Rattle.bundle_syntax.specs.declared.kind.MetaPropKind.TheVariants.{ImportMeta}
use Rattle.bundle_rules.specs.Reads.{read_word}
use Rattle.bundle_rules.proofs.Trees.{module_of, imports_all, calls, uses, member, node}
use Rattle.bundle_rules.proofs.LinkingExamples.{x, plain, es_plain, x_is_linked}
use Rattle.bundle_link.specs.Nested as nested
use Rattle.bundle_tree_places.specs.Edits.{Anywhere}
use Rattle.bundle_merge_theory.specs.noted.Listed as listed
use Rattle.bundle_merge_theory.specs.noted.Marked.{Note, Joined, Name, Inside, OfReads}
use Rattle.bundle_tree_rebuild.specs.declared.rewrite.Whole.TheVariants.{Alone, Reads}
use Rattle.bundle_tree_rebuild.specs.Becomes.{are_reads}
use Rattle.bundle_merge_theory.specs.noted.Agrees.{IsListing, Agrees, AgreeInTurn, ReplacesNotable}
use Rattle.bundle_merge_theory.specs.noted.Stated.{MarkedStated, Itself}
use Rattle.bundle_link_targets.specs.Meant.{done, on, WordsMean}
use Rattle.bundle_merge_theory.proofs.noted.Listing.{is_listing}
use Rattle.bundle_merge_theory.proofs.noted.Replaces.{replaces_notable}
use Rattle.bundle_merge_theory.proofs.noted.Agreements.{is_there}
use Rattle.bundle_merge_theory.proofs.noted.UsesAgree.{use_agrees, inner_alone, top_means}
use Rattle.bundle_merge_theory.proofs.noted.StaticReads.{plain_nodes}

abbrev ns : Text
ns = codes "ns"

abbrev used : Text
used = codes "use"

abbrev statement : List Item
statement = calls used (member 1 (uses 0 ns) x)

abbrev main : List Item
main = imports_all ns (codes "./a") ++ statement

abbrev p : Program
p = plain main

-- its nodes
abbrev read : List Item
read = member 1 (uses 0 ns) x

abbrev in_call : List Item
in_call = uses 0 used ++ node 1 (h.ExprOrSpread false) read

abbrev in_statement : List Item
in_statement = node 0 h.CallExpr in_call

abbrev in_specifier : List Item
in_specifier = h.Ident 0 ns 0 Binding ∷ []

abbrev in_import : List Item
in_import = node 0 h.ImportStarAsSpecifier in_specifier ++ node 1 (h.Str (codes "./a") None) []

abbrev in_read : List Item
in_read = uses 0 ns ++ node 1 (h.IdentName x) []

read_nodes : nested.AreNodes read
read_nodes = nested.node {inside = in_read} {rest = []}
    (nested.name (nested.node {inside = []} {rest = []} nested.nothing refl nested.nothing))
    (record
    { first = uses 0 ns; second = node 1 (h.IdentName x) []; them = refl; in_first = refl; in_second = refl })
    nested.nothing

call_nodes : nested.AreNodes in_call
call_nodes = nested.name (nested.node {inside = read} {rest = []} read_nodes tt nested.nothing)

import_nodes : nested.AreNodes in_import
import_nodes =
    nested.node {inside = in_specifier} {rest = node 1 (h.Str (codes "./a") None) []}
    (nested.name nested.nothing) (record { sym = ns; ctxt = 0; rest = []; is = refl })
    (nested.node {inside = []} {rest = []} nested.nothing tt nested.nothing)

has_specifiers : (part : List Item) → Contains (side_by_side 0 in_import) part →
    begins_in 0 part ≡ true → begins_with nested.is_import_specifier part ≡ true
has_specifiers part (zero, l, e) is = ap (begins_with nested.is_import_specifier) (sym e)
has_specifiers part (suc zero, l, e) is = absurd (true≢false (sym is ∙ ap (begins_in 0) (sym e)))
has_specifiers part (suc (suc i), l, e) is = absurd (omega (arith, l))

main_nodes : nested.AreNodes main
main_nodes = nested.node {inside = in_import} {rest = statement} import_nodes has_specifiers
    (nested.node {inside = in_statement} {rest = []}
    (nested.node {inside = in_call} {rest = []} call_nodes tt nested.nothing) tt
    nested.nothing)

tree_nodes : nested.AreNodes (tree_of p 0)
tree_nodes = nested.node {inside = main} {rest = []} main_nodes tt nested.nothing

-- and what stands in them
tree_listed : listed.AreListed listed.Other (tree_of p 0)
tree_listed =
    listed.node {inside = main} {rest = []} tt
    (listed.node {inside = in_import} {rest = statement} tt
    (listed.node {inside = in_specifier} {rest = node 1 (h.Str (codes "./a") None) []} tt
    (listed.name tt listed.nothing)
    (listed.node {inside = []} {rest = []} tt listed.nothing listed.nothing))
    (listed.node {inside = in_statement} {rest = []} tt
    (listed.node {inside = in_call} {rest = []} tt
    (listed.name refl (listed.node {inside = read} {rest = []} tt
    (listed.node {inside = in_read} {rest = []} tt
    (listed.name refl (listed.node {inside = []} {rest = []} tt listed.nothing listed.nothing))
    listed.nothing)
    listed.nothing))
    listed.nothing)
    listed.nothing))
    listed.nothing

listing : IsListing (tree_of p 0)
listing = is_listing tree_listed

-- its marks, by its notes
abbrev notes : List Note
notes =
    record { meant = Unbound used; whole = Alone } ∷ record
    { meant = Known (Of (Declared 1 x)); whole = Reads 1 } ∷ []

statement_marked : MarkedStated None (Unbound []) notes statement
    (k.Begins 0 h.ExprStmt ∷ k.Begins 0 h.CallExpr ∷ k.Name 0 (Unbound used)
    ∷ k.Begins 1 (h.ExprOrSpread false) ∷ k.Name 1 (Known (Of (Declared 1 x))) ∷ k.Ends
    ∷ k.Ends ∷ k.Ends ∷ [])
    []
statement_marked = Itself 0 h.ExprStmt in_statement refl (Inside 0 h.ExprStmt {inside = in_statement} refl (Inside 0 h.CallExpr {inside = in_call} refl (Joined {first = uses 0 used} {second = node 1 (h.ExprOrSpread false) read}
    (Name Anywhere 0 used 0 Reference refl)
    (Inside 1 (h.ExprOrSpread false) {inside = read} refl (OfReads 1 1 in_read refl)))))

-- ---- what is so at its names
no_word : (y : Text) → None ≡ Some y → ⊥
no_word y e = cc

-- no call of `use` is replaced
no_calls : (begins : ℕ) (by : Replacement) → begins ≡ 9 → Replaced p 0 begins by → ⊥
no_calls begins by here (static_read {x = y} word reads) =
    no_word y (subst (λ b. read_word (tree_of p 0) b ≡ Some y) here word)
no_calls begins by here (import_meta is) =
    true≢false (sym (subst (λ b. is_meta_at (slice_get (tree_of p 0) b) ≡ true) here is))
no_calls begins by here (require_call call (i, l, e) at resolved) = grind arith

no_meta : (xs : List Item) → has_head is_import_meta xs ≡ false → (place field : ℕ) →
    slice_get xs place ≡ Some (h.Open field (h.MetaPropExpr ImportMeta)) → ⊥
no_meta [] none place field e = none-some _ e
no_meta (h.Open f head ∷ xs) none zero field e =
    let same : h.Open f head ≡ h.Open field (h.MetaPropExpr ImportMeta) = same_Some _ _ e in
    let heads : head ≡ h.MetaPropExpr ImportMeta = cc in
    true≢false
    (ap (λ b. elim b [ true ↦ true | false ↦ has_head is_import_meta xs ])
    (sym (ap is_import_meta heads))
    ∙ none)
no_meta (h.Open f head ∷ xs) none (suc place) field e =
    by (is_import_meta head) none (λ none. no_meta xs none place field e)
  where
    by : (b : Bool) → (elim b [ true ↦ true | false ↦ has_head is_import_meta xs ])
        ≡ false → (has_head is_import_meta xs ≡ false → ⊥) → ⊥
    by true none more = true≢false none
    by false none more = more none
no_meta (h.Ident f y c role ∷ xs) none zero field e = cc
no_meta (h.Ident f y c role ∷ xs) none (suc place) field e = no_meta xs none place field e
no_meta (h.Hole f ∷ xs) none zero field e = cc
no_meta (h.Hole f ∷ xs) none (suc place) field e = no_meta xs none place field e
no_meta (h.Close ∷ xs) none zero field e = cc
no_meta (h.Close ∷ xs) none (suc place) field e = no_meta xs none place field e

no_namespace : (d : ℕ) → Declared 1 x ≡ Namespace d → ⊥
no_namespace d e = cc

no_top : (y : Text) → Some (Global used) ≡ Some (Bound Top (plain_name y)) → ⊥
no_top y e = cc

module _
    (one_stands : (y : Text) (t u : Target) → StandsFor p 0 y t → StandsFor p 0 y u → t ≡ u) where
  abbrev inner : List Denoted
  inner = inner_bindings (own_view p 0 Es) 0 (taken_from 8 statement)

  replaces : ReplacesNotable (own_sense p 0 Es) None
  replaces =
      replaces_notable p 0 Es None (λ meant e. absurd (none-some meant e))
      (λ place field e. absurd (no_meta (tree_of p 0) refl place field e)) tree_nodes listing

  ns_stands : StandsFor p 0 ns (Namespace 1)
  ns_stands = taken_whole _ refl (of_module (record { resolved = refl; es = es_plain main 1 }))

  ns_means : WordsMean p 0 ns (x ∷ []) 1 (Declared 1 x)
  ns_means =
      record
      { named = Namespace 1; stands = ns_stands; reads = on (x_is_linked main) (done (λ d y rest u e words linked. no_namespace d e)) }

  abbrev o_use : Occurrence
  o_use =
      record
      { place = 10; sym = used; ctxt = 0; role = Reference; path = path_at (tree_of p 0) 10 }

  abbrev o_ns : Occurrence
  o_ns =
      record { place = 13; sym = ns; ctxt = 0; role = Reference; path = path_at (tree_of p 0) 13 }

  use_agreed : Agrees (own_sense p 0 Es) inner o_use (Unbound used) Alone
  use_agreed =
      inner_alone p 0 tree_nodes one_stands Es inner o_use
      (is_there p 0 tree_nodes 10 o_use refl).1 (λ y e. no_top y e)
      (λ begins by near is. no_calls begins by (omega (arith, near)) is) (Global used)
      (Unbound used) refl unbound

  ns_agreed : Agrees (own_sense p 0 Es) inner o_ns (Known (Of (Declared 1 x))) (Reads 1)
  ns_agreed =
      use_agrees p 0 tree_nodes one_stands Es o_ns (is_there p 0 tree_nodes 13 o_ns refl).1 ns refl
      0 (Declared 1 x) ns_means

  agreed : AgreeInTurn (own_sense p 0 Es) inner
      (occurrences_from (spot_before (tree_of p 0) 8) statement) notes
  agreed = (use_agreed, (ns_agreed, tt))

  -- the statement `use(ns.x);` means `use(l);`
  pub use_means : OwnMeaning p 0 (taken_from 8 statement)
      (k.Begins 0 h.ExprStmt ∷ k.Begins 0 h.CallExpr ∷ k.Name 0 (Unbound used)
      ∷ k.Begins 1 (h.ExprOrSpread false) ∷ k.Name 1 (Known (Of (Declared 1 x))) ∷ k.Ends
      ∷ k.Ends ∷ k.Ends ∷ [])
  use_means =
      top_means p 0 Es (is_es (es_plain main 0)) None (Unbound []) listing replaces 0 main []
      (plain_nodes main_nodes) refl
      (record { start = 8; items = statement }) (1, lit< tt, refl) notes [] _ statement_marked
      (taken_from 8 statement) refl agreed (λ e. absurd (true≢false (sym e)))

-- `ns.x = 1` writes, and reads nothing
written : read_word
    (module_of
    (node 0 h.ExprStmt
    (node 0 (h.AssignExpr Assign) (member 1 (uses 0 ns) x ++ node 2 (h.Number (codes "1")) []))))
    3 ≡ None
written = refl

-- a plain word with a read around it is no static read
word_read : are_reads 1 (h.Ident 0 ns 0 Word ∷ node 1 (h.IdentName x) []) ≡ false
word_read = refl
