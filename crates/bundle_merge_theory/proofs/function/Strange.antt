-- The list of a load function, in its two forms; and what a statement without contexts and notes
-- becomes in it.
-- The names in the item of a load function that are none of the module's have other contexts.
use Rattle.std.proofs.Common.{◌≡◌, ℕ, suc, false, List, [], ◌∷◌, ◌++◌, append_assoc, ap, sym, zero}
use Rattle.std.proofs.lemmas.Bool.{false≢true}
use Rattle.bundle_syntax.specs.Item as h
use Rattle.bundle_syntax.specs.Item.{Item, Head}
use Rattle.bundle_rules.specs.Idents.{Ident}
use Rattle.bundle_rules.specs.Cleared.{cleared_head, cleared}
use Rattle.bundle_rules.specs.Callable.{is_module_head}
use Rattle.bundle_rules.specs.Homes.{is_arguments}
use Rattle.bundle_scope_names.proofs.Numbering.{Numbering}
use Rattle.bundle_merge_injected.specs.Listed as l
use Rattle.bundle_merge_theory.specs.loaded.Item.{back_items, front_items, load_item}
use Rattle.bundle_merge_theory.specs.loaded.Turned.{Turned, over, begun, declares, ended, named, word, empty, called, skipped}
use Rattle.bundle_merge_theory.specs.loaded.Loaded.{IsLoadedItem}
use Rattle.bundle_merge_theory.proofs.loaded.Noted.{IsStrange}

-- ---- clearing

-- seven ends, one behind the other
seven : (xs : List Item) →
    ((((((xs ++ h.Close ∷ []) ++ h.Close ∷ []) ++ h.Close ∷ []) ++ h.Close ∷ []) ++ h.Close ∷ [])
    ++ h.Close ∷ []) ++ h.Close ∷ [] ≡ xs ++ back_items
seven xs = simp append_assoc

-- THE SAME LIST
pub load-listed : (load helper m e : Ident) (stmts : List Item) →
    l.load_function load helper m e stmts ≡ load_item load helper m e stmts
load-listed load helper m e stmts =
    ap (λ list. front_items load helper m e ++ list) (seven stmts)

-- contexts and notes are not asked for
open_cleared : {L : Ident → Type 0} {depth field : ℕ} {xs ys : List Item} (head : Head) →
    is_module_head head ≡ false → Turned L (suc depth) xs ys →
    Turned L depth (h.Open field (cleared_head head) ∷ xs) (h.Open field head ∷ ys)
open_cleared (h.VarDecl kind meta) own rest = declares rest
open_cleared (h.ImportDecl meta) own rest = absurd (false≢true (sym own))
open_cleared (h.NamedExport meta) own rest = absurd (false≢true (sym own))
open_cleared (h.ExportAll meta) own rest = absurd (false≢true (sym own))
open_cleared _ own rest = begun own rest

pub turned-cleared : {L : Ident → Type 0} {depth : ℕ} {xs ys : List Item} → Turned L depth xs ys →
    Turned L depth (cleared xs) ys
turned-cleared over = over
turned-cleared (begun {head = head} own rest) = open_cleared head own (turned-cleared rest)
turned-cleared (declares rest) = declares (turned-cleared rest)
turned-cleared (ended rest) = ended (turned-cleared rest)
turned-cleared (named is rest) = named is (turned-cleared rest)
turned-cleared (word rest) = word (turned-cleared rest)
turned-cleared (empty rest) = empty (turned-cleared rest)
turned-cleared (called is rest) = called is (turned-cleared rest)
turned-cleared (skipped rest) = skipped (turned-cleared rest)

-- ---- strange
pub record AreStrange {L : Ident → Type 0} {xs ys : List Item} (w : Turned L zero xs ys)
    (g : Numbering) (load helper m e : Ident) (its : IsLoadedItem g w load m e) : Type 0 where
  pub load_strange : IsStrange w g load helper m e its load.0 load.1
  pub helper_strange : IsStrange w g load helper m e its helper.0 helper.1
  pub helper_other : is_arguments helper.0 ≡ false
  pub called_known : (name : Ident) → L name →
      IsStrange w g load helper m e its name.0 name.1 × (is_arguments name.0 ≡ false)
  pub global_strange : (x : List ℕ) → IsStrange w g load helper m e its x 1
