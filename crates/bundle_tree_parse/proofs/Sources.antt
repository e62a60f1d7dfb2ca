-- Whether an export list has a source is seen from the fields that its names and its source stand in.
use Rattle.std.proofs.Common.{◌≡◌, ℕ, zero, suc, Bool, true, false, List, [], ◌∷◌, ◌++◌, append_assoc, refl, ap, sym, ◌∙◌}
use Rattle.std.proofs.lemmas.Bool.{false≢true}
use Rattle.std.proofs.lemmas.Option.{none-some}
use Rattle.bundle_syntax.specs.declared.piece.Role.TheVariants as r
use Rattle.bundle_syntax.specs.Item as h
use Rattle.bundle_syntax.specs.Item.{Item}
use Rattle.bundle_tree_parse.specs.Sorts.{AnExport, AString, One, Many, Slot, slot}
use Rattle.bundle_tree_parse.specs.Parse.{has_source, export_slots}
use Rattle.bundle_tree_parse.specs.Standing.{AreIn, no_more, over, a_name, a_hole, a_node, an_export_list}

-- no source stands in nodes
no_source : {slots : List Slot} {items : List Item} → AreIn slots items → (depth : ℕ) (rest : List Item) → has_source (suc depth) (items ++ rest) ≡ has_source (suc depth) rest
no_source no_more depth rest = refl
no_source (over needed free them) depth rest = no_source them depth rest
no_source (a_name is them) depth rest = no_source them depth rest
no_source (a_hole them) depth rest = no_source them depth rest
no_source (a_node {inside = inside} {rest = others} is within them) depth rest =
    ap (has_source (suc (suc depth))) (append_assoc inside (h.Close ∷ others) rest) ∙ no_source within (suc depth) (h.Close ∷ (others ++ rest)) ∙ no_source them depth rest
no_source (an_export_list {inside = inside} {rest = others} is source within them) depth rest =
    ap (has_source (suc (suc depth))) (append_assoc inside (h.Close ∷ others) rest) ∙ no_source within (suc depth) (h.Close ∷ (others ++ rest)) ∙ no_source them depth rest

-- nor at the end of a list of names without one
ends_plain : {items : List Item} → AreIn (slot 0 Many (AnExport r.Reference) ∷ []) items → (behind : List Item) → has_source zero (items ++ h.Close ∷ behind) ≡ false
ends_plain (over needed free no_more) behind = refl
ends_plain (a_name is them) behind = absurd (none-some _ is)
ends_plain (a_node {inside = inside} {rest = others} is within them) behind =
    ap (has_source 1) (append_assoc inside (h.Close ∷ others) (h.Close ∷ behind)) ∙ no_source within 0 (h.Close ∷ (others ++ h.Close ∷ behind)) ∙ ends_plain them behind
ends_plain (an_export_list {inside = inside} {rest = others} is source within them) behind =
    ap (has_source 1) (append_assoc inside (h.Close ∷ others) (h.Close ∷ behind)) ∙ no_source within 0 (h.Close ∷ (others ++ h.Close ∷ behind)) ∙ ends_plain them behind

source_begins : {items : List Item} → AreIn (slot 1 One AString ∷ []) items → (behind : List Item) → has_source zero (items ++ h.Close ∷ behind) ≡ true
source_begins (over needed free them) behind = absurd (false≢true (sym needed))
source_begins (a_name is them) behind = absurd (none-some _ is)
source_begins (a_node is within them) behind = refl
source_begins (an_export_list is source within them) behind = refl

ends_in_source : {items : List Item} → AreIn (slot 0 Many (AnExport r.Word) ∷ slot 1 One AString ∷ []) items → (behind : List Item) → has_source zero (items ++ h.Close ∷ behind) ≡ true
ends_in_source (over needed free them) behind = source_begins them behind
ends_in_source (a_name is them) behind = absurd (none-some _ is)
ends_in_source (a_node {inside = inside} {rest = others} is within them) behind =
    ap (has_source 1) (append_assoc inside (h.Close ∷ others) (h.Close ∷ behind)) ∙ no_source within 0 (h.Close ∷ (others ++ h.Close ∷ behind)) ∙ ends_in_source them behind
ends_in_source (an_export_list {inside = inside} {rest = others} is source within them) behind =
    ap (has_source 1) (append_assoc inside (h.Close ∷ others) (h.Close ∷ behind)) ∙ no_source within 0 (h.Close ∷ (others ++ h.Close ∷ behind)) ∙ ends_in_source them behind

-- the fields of an export list say whether it has a source
pub source_is : (source : Bool) {items : List Item} → AreIn (export_slots source) items → (behind : List Item) → has_source zero (items ++ h.Close ∷ behind) ≡ source
source_is true them behind = ends_in_source them behind
source_is false them behind = ends_plain them behind
