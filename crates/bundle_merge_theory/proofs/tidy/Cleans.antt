-- What is fit as a statement of a module has no import or export in it, and no plain word that is
-- an identifier, also before contexts and notes were cleared.
use Rattle.std.proofs.Common.{◌≡◌, ℕ, true, false, List, [], ◌∷◌, ◌++◌, refl, sym}
use Rattle.std.proofs.lemmas.Bool.{false≢true}
use Rattle.bundle_syntax.specs.declared.piece.Role.TheVariants as r
use Rattle.bundle_syntax.specs.Item as h
use Rattle.bundle_syntax.specs.Item.{Item, Head}
use Rattle.bundle_rules.specs.Callable.{is_module_head}
use Rattle.bundle_rules.specs.Cleared.{cleared_head, cleared}
use Rattle.bundle_rules.specs.Places.{Spot, past, start}
use Rattle.bundle_rules.specs.Statements.{Element, stated}
use Rattle.bundle_scope_names.specs.fit.Sorts.{AnItem, AStmt, NodeSlot, takes_head, names_of_sort, slots}
use Rattle.bundle_scope_names.specs.fit.Fits.{IsFit, AreFit, name, node}
use Rattle.bundle_scope_names.specs.fit.Seen.{each_slot, AreSeen}
use Rattle.bundle_scope_names.proofs.fit.Rows.{is_own, own_head, own_at, steps, occurs, last}
use Rattle.bundle_scope_names.proofs.fit.Keys.{seen}
use Rattle.bundle_merge_theory.specs.tidy.Tidy.{is_noted_head, AreClean}

pub clean_both : (xs ys : List Item) → AreClean xs → AreClean ys → AreClean (xs ++ ys)
clean_both [] ys one two = two
clean_both (x ∷ xs) ys one two = (one.0, clean_both xs ys one.1 two)

pub clean_parts : (xs ys : List Item) → AreClean (xs ++ ys) → AreClean xs × AreClean ys
clean_parts [] ys are = (tt, are)
clean_parts (x ∷ xs) ys are =
    let parts = clean_parts xs ys are.1 in ((are.0, parts.0), parts.1)

no_module : (head : Head) → is_module_head head ≡ false → is_noted_head head ≡ false
no_module (h.ImportDecl meta) apart = absurd (false≢true (sym apart))
no_module (h.NamedExport meta) apart = absurd (false≢true (sym apart))
no_module (h.ExportAll meta) apart = absurd (false≢true (sym apart))
no_module _ apart = refl

from_seen : (s : Spot) (items : List Item) → AreSeen own_at s items → AreClean items
from_seen s [] them = tt
from_seen s (h.Open field head ∷ rest) them = (
  no_module head (own_head head them.0.0 them.0.1 them.0.2),
  from_seen (past s (h.Open field head)) rest them.1,
)
from_seen s (h.Ident field x ctxt role ∷ rest) them = (
  occurs role them.0.0 them.0.1 them.0.2,
  from_seen (past s (h.Ident field x ctxt role)) rest them.1,
)
from_seen s (h.Hole field ∷ rest) them = (tt, from_seen (past s (h.Hole field)) rest them.1)
from_seen s (h.Close ∷ rest) them = (tt, from_seen (past s h.Close) rest them.1)

pub are_clean : {list : List NodeSlot} {items : List Item} → AreFit list items →
    each_slot (λ number sort. is_own sort) list ≡ true → AreClean items
are_clean {items = items} fit ok = from_seen start items (seen own_at steps fit start ok)

clean_node : (field : ℕ) (head : Head) (inside : List Item) → is_noted_head head ≡ false →
    AreClean inside → AreClean (h.Open field head ∷ (inside ++ h.Close ∷ []))
clean_node field head inside plain are = (plain, clean_both inside (h.Close ∷ []) are (tt, tt))

-- a top item that states something
pub clean_stated : {items : List Item} → IsFit AnItem 0 items →
    (start : ℕ) (statement : List Element) → stated start items ≡ statement ∷ [] → AreClean items
clean_stated (name {role = r.Binding} it) start statement e = absurd (false≢true it)
clean_stated (name {role = r.Reference} it) start statement e = absurd (false≢true it)
clean_stated (name {role = r.Word} it) start statement e = absurd (false≢true it)
clean_stated (node {head = head} {inside = inside} it in_it) start statement e =
    by head it in_it e
  where
    by : (head : Head) → takes_head head AnItem ≡ true → AreFit (slots head (names_of_sort AnItem)) inside →
        stated start (h.Open 0 head ∷ (inside ++ h.Close ∷ [])) ≡ statement ∷ [] →
        AreClean (h.Open 0 head ∷ (inside ++ h.Close ∷ []))
    by (h.ImportDecl meta) it in_it e = cc
    by (h.NamedExport meta) it in_it e = cc
    by (h.ExportAll meta) it in_it e = cc
    by h.ExportDecl it in_it e = clean_node 0 h.ExportDecl inside refl (are_clean in_it refl)
    by h.ExportDefaultDecl it in_it e =
        clean_node 0 h.ExportDefaultDecl inside refl (are_clean in_it refl)
    by h.ExportDefaultExpr it in_it e =
        clean_node 0 h.ExportDefaultExpr inside refl (are_clean in_it refl)
    by head it in_it e =
        are_clean (last (node {sort = AStmt} {field = 0} {head = head} {inside = inside} it in_it))
        refl

-- before clearing
noted_before : (head : Head) → is_noted_head (cleared_head head) ≡ false →
    is_noted_head head ≡ false
noted_before (h.ImportDecl meta) e = e
noted_before (h.NamedExport meta) e = e
noted_before (h.ExportAll meta) e = e
noted_before (h.VarDecl kind meta) e = e
noted_before _ e = e

pub clean_before : (items : List Item) → AreClean (cleared items) → AreClean items
clean_before [] are = tt
clean_before (h.Open field head ∷ items) are =
    (noted_before head are.0, clean_before items are.1)
clean_before (h.Ident field x ctxt role ∷ items) are = (are.0, clean_before items are.1)
clean_before (h.Hole field ∷ items) are = (tt, clean_before items are.1)
clean_before (h.Close ∷ items) are = (tt, clean_before items are.1)
