-- Theorem of this folder (`joined_keyless`, `joined_ways` and the like): lists that are fit are
-- listings of whole nodes, with plain defaults and keys and with ways; so are a program whose
-- trees are fit, and a module that is put together of items that are fit.
-- Used by folders `added`, `answered`, `finished`, `function`, `labels`, `laid`, `moved`, `own`,
-- `together`, `told` and by the crates `bundle_merge`, `bundler_entry`.
use Rattle.std.proofs.Common.{◌≡◌, ℕ, true, false, List, [], ◌∷◌, ◌++◌, refl, ap, ◌∙◌, not, sym, suc, Some, append_assoc, append-nil, subst, length, ◌+◌}
use Rattle.std.proofs.lemmas.Bool.{false≢true, true≢false, and_from}
use Rattle.std.specs.List.{list_all, AllByRecursion}
use Rattle.bundle_syntax.specs.declared.piece.Role.{Role}
use Rattle.bundle_syntax.specs.Item as h
use Rattle.bundle_syntax.specs.Item.{Item, Head}
use Rattle.bundle_rules.specs.Nodes.{begins_with, parts}
use Rattle.bundle_rules.specs.Forms.{is_export_list}
use Rattle.bundle_rules.specs.Places.{Spot, past, start}
use Rattle.bundle_rules.specs.Shape.{is_specifier}
use Rattle.bundle_rules.specs.Callable.{is_module_head, Every, none, more}
use Rattle.bundle_rules.specs.Statements.{TopItem, placed, top_items}
use Rattle.bundle_rules.specs.Sorting.{flat}
use Rattle.bundle_rules.specs.Program.{Program, tree_of, IsReached}
use Rattle.bundle_tree_places.specs.Edits.{is_occurrence}
use Rattle.bundle_scope_names.specs.fit.Sorts.{NodeSort, ADefault, ADecl, One, slot, takes_head, names_of_sort, slots, NodeSlot, AModule, AnItem}
use Rattle.bundle_scope_names.specs.fit.Fits.{AreFit, over, a_name, a_node, IsFit, name, node, no_more, a_hole, AreEach, ended, next}
use Rattle.bundle_scope_names.specs.fit.Seen.{each_slot, AreSeen}
use Rattle.bundle_scope_names.proofs.fit.Keys.{seen, no_keys}
use Rattle.bundle_scope_names.proofs.fit.Rows.{is_own, own_head, own_at, steps, occurs, last, last_each, in_node, are_plain}
use Rattle.bundle_scope_names.proofs.naming_rule.Rebuilt.{ArePlain}
use Rattle.bundle_scope_names.proofs.naming_rule.Clash.{HasPlainKeys}
use Rattle.bundle_link.proofs.StatedElements.{last-off as last_off}
use Rattle.bundle_merge_theory.specs.walked.Rewrites.{is_own_item, AreOwn}
use Rattle.bundle_merge_theory.specs.noted.Listed.{Other, AreListed}
use Rattle.bundle_merge_theory.specs.noted.Nodes.{AreNodesInTurn}
use Rattle.bundle_merge_theory.specs.noted.Agrees.{IsListing}
use Rattle.bundle_merge_theory.proofs.noted.Listing.{is_listing, listed_nodes}
use Rattle.bundle_merge_theory.specs.grouped.Renaming.{HasWays}
use Rattle.bundle_merge_theory.specs.joined.Joined.{IsWholeItem, open_behind, joined_items}
use Rattle.bundle_merge_theory.proofs.called.LaidOut.{IsListless}
use Rattle.bundle_merge_theory.proofs.fit.Clearing.{declares, has_ways, listed, items_of_module}
use Rattle.bundle_merge_theory.proofs.called.HandedOut.{AreListless}
use Rattle.bundle_merge_theory.specs.fit.Programs.{HasFitTrees}

-- ---- listless
decl_head : (head : Head) → takes_head head ADecl ≡ true → is_export_list head ≡ false
decl_head (h.NamedExport meta) is = absurd (false≢true is)
decl_head _ is = refl

of_default : (head : Head) → takes_head head ADefault ≡ true → is_export_list head ≡ false
of_default (h.NamedExport meta) is = absurd (false≢true is)
of_default _ is = refl

begins_none : (sort : NodeSort) →
    ((head : Head) → takes_head head sort ≡ true → is_export_list head ≡ false) → {items : List Item} →
    AreFit (slot 0 One sort ∷ []) items → begins_with is_export_list items ≡ false
begins_none sort heads (over e fit) = absurd (true≢false e)
begins_none sort heads (a_name it fit) = refl
begins_none sort heads (a_node {head = hd} it in_it fit) = heads hd it

listless : (n : ℕ) (head : Head) (names : Role) {items : List Item} →
    AreFit (slots head names) items → IsListless (h.Open n head ∷ (items ++ h.Close ∷ []))
listless n h.ExportDecl names {items = items} fit =
    ap (begins_with is_export_list) (last_off items h.Close) ∙ begins_none ADecl decl_head fit
listless n h.ExportDefaultDecl names {items = items} fit =
    ap (begins_with is_export_list) (last_off items h.Close) ∙ begins_none ADefault of_default fit
listless n _ names fit = tt

pub is_listless : {sort : NodeSort} {field : ℕ} {items : List Item} → IsFit sort field items →
    IsListless items
is_listless (name it) = tt
is_listless (node {sort = k} {field = n} {head = hd} it in_it) = listless n hd (names_of_sort k) in_it

-- ---- owning
plain : (head : Head) → is_module_head head ≡ false → not (is_specifier head) ≡ true
plain h.ImportNamedSpecifier apart = absurd (false≢true (sym apart))
plain h.ExportNamedSpecifier apart = absurd (false≢true (sym apart))
plain _ apart = refl

from_seen : (s : Spot) (items : List Item) → AreSeen own_at s items → AreOwn items
from_seen s [] them = refl
from_seen s (h.Open field head ∷ rest) them =
    and_from (not (is_specifier head)) (list_all is_own_item rest)
    (plain head (own_head head them.0.0 them.0.1 them.0.2))
    (from_seen (past s (h.Open field head)) rest them.1)
from_seen s (h.Ident field x ctxt role ∷ rest) them =
    and_from (is_occurrence role) (list_all is_own_item rest)
    (occurs role them.0.0 them.0.1 them.0.2)
    (from_seen (past s (h.Ident field x ctxt role)) rest them.1)
from_seen s (h.Hole field ∷ rest) them = from_seen (past s (h.Hole field)) rest them.1
from_seen s (h.Close ∷ rest) them = from_seen (past s h.Close) rest them.1

pub are_own : {list : List NodeSlot} {items : List Item} → AreFit list items →
    each_slot (λ number sort. is_own sort) list ≡ true → AreOwn items
are_own {items = items} fit ok = from_seen start items (seen own_at steps fit start ok)

-- ---- facts

-- Whole nodes.

pub fit_listed : {list : List NodeSlot} {items : List Item} → AreFit list items → AreListed Other items
fit_listed fit = listed fit Other refl

pub fit_listing : {list : List NodeSlot} {items : List Item} → AreFit list items → IsListing items
fit_listing fit = is_listing (fit_listed fit)

pub fit_nodes : {list : List NodeSlot} {items : List Item} → AreFit list items → AreNodesInTurn items
fit_nodes fit = listed_nodes (fit_listed fit)

opens : {list : List NodeSlot} {items : List Item} → AreFit list items →
    (depth : ℕ) (rest : List Item) → open_behind depth (items ++ rest) ≡ open_behind depth rest
opens no_more depth rest = refl
opens (over e fit) depth rest = opens fit depth rest
opens (a_name it fit) depth rest = opens fit depth rest
opens (a_hole fit) depth rest = opens fit depth rest
opens (a_node {inside = ins} {rest = behind} it in_it fit) depth rest =
    ap (open_behind (suc depth)) (append_assoc ins (h.Close ∷ behind) rest)
    ∙ (opens in_it (suc depth) (h.Close ∷ (behind ++ rest)) ∙ opens fit depth rest)

pub fit_is_whole : {list : List NodeSlot} {items : List Item} → AreFit list items → IsWholeItem items
fit_is_whole {items = items} fit =
    subst (λ l. open_behind 0 l ≡ Some 0) (append-nil items) (opens fit 0 [])

-- A node alone.

module _ {sort : NodeSort} {field : ℕ} {items : List Item} (it : IsFit sort field items) where
  pub one_listed : AreListed Other items
  one_listed = fit_listed (last it)

  pub one_listing : IsListing items
  one_listing = fit_listing (last it)

  pub one_plain : ArePlain items
  one_plain = are_plain (last it)

  pub one_keyless : HasPlainKeys items
  one_keyless = no_keys (last it) start refl

  pub one_own : is_own sort ≡ true → AreOwn items
  one_own own = are_own (last it) (and_from (is_own sort) true own refl)

  pub one_ways : declares sort [] ≡ true → HasWays items
  one_ways ok = has_ways (last it) (and_from (declares sort []) true ok refl)

-- The items of a module.

every_listless : (n : ℕ) (list : List (List Item)) → AllByRecursion (IsFit AnItem 0) list →
    Every (λ (top : TopItem). IsListless top.items) (placed n list)
every_listless n [] fits = none
every_listless n (items ∷ others) fits =
    more (is_listless fits.0) (every_listless (n + length items) others fits.1)

pub module_listless : {field : ℕ} (tree : List Item) → IsFit AModule field tree →
    Every (λ (top : TopItem). IsListless top.items) (top_items tree)
module_listless tree it = every_listless 1 (parts tree) (items_of_module it)

-- ---- programs

-- A program.

module _ (p : Program) (its : HasFitTrees p) where
  pub program_listing : (m : ℕ) → IsReached p m → IsListing (tree_of p m)
  program_listing m reached = one_listing (its.each m reached)

  pub program_ways : (m : ℕ) → IsReached p m → HasWays (tree_of p m)
  program_ways m reached = one_ways (its.each m reached) refl

  pub program_listless : AreListless p
  program_listless m reached = module_listless (tree_of p m) (its.each m reached)

-- A module of items.

module _ (items : List (List Item)) (fits : AllByRecursion (IsFit AnItem 0) items) where
  pub joined_fit : IsFit AModule 0 (joined_items items)
  joined_fit = in_node 0 h.Module refl (last_each (each items fits))
    where
      each : (items : List (List Item)) → AllByRecursion (IsFit AnItem 0) items →
          AreEach AnItem 0 (flat items)
      each [] fits = ended
      each (item ∷ rest) fits = next fits.0 (each rest fits.1)

  pub joined_listing : IsListing (joined_items items)
  joined_listing = one_listing joined_fit

  pub joined_plain : ArePlain (joined_items items)
  joined_plain = one_plain joined_fit

  pub joined_keyless : HasPlainKeys (joined_items items)
  joined_keyless = one_keyless joined_fit

  pub joined_ways : HasWays (joined_items items)
  joined_ways = one_ways joined_fit refl
