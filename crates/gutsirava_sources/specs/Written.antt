-- What is put down in a list that is being made.
use Rattle.std.specs.Prelude.{◌++◌, ℕ, false, min, List, [], ◌∷◌, Option, Some, None, fold, map, option_map, codes}
use Rattle.bundle_syntax.specs.declared.piece.Role.{Role}
use Rattle.bundle_syntax.specs.declared.piece.Role.TheVariants.{Reference}
use Rattle.bundle_syntax.specs.Item as i
use Rattle.gutsirava_sources.specs.declared.made.FormNode.{FormNode}
use Rattle.gutsirava_sources.specs.declared.made.FormNode.TheVariants as f
use Rattle.gutsirava_sources.specs.declared.made.MadeList.{MadeList}
use Rattle.gutsirava_sources.specs.declared.made.FormPart.{FormPart}
use Rattle.gutsirava_sources.specs.declared.made.TheConstants.{NO_ORIGIN}
use Rattle.gutsirava_sources.specs.declared.made.FormPart.TheVariants as t

-- the list so far, how many comments stand in it, where that is asked for the origin of each item,
-- and the origin of the next
pub record Written : Type 0 where
  pub list : List i.Item
  pub told : ℕ
  pub origins : Option (List ℕ)
  pub origin : ℕ

abbrev pub written_of : MadeList → Written
written_of made = record {
  list = map i.item_of made.list.items;
  told = made.told;
  origins = option_map (λ origins. origins.items) made.origins;
  origin = made.origin;
}

-- with one more number, where they are asked for
abbrev pub noted : Option (List ℕ) → ℕ → Option (List ℕ)
noted None origin = None
noted (Some origins) origin = Some (origins ++ origin ∷ [])

-- with one more item
abbrev pub added : Written → i.Item → Written
added done item =
    record done { list = done.list ++ (item ∷ []); origins = noted done.origins done.origin }

-- what is put down next stands at a place of the text's list, or for what stands there
abbrev pub from_place : ℕ → Written → Written
from_place place done = record done { origin = min place NO_ORIGIN }

-- what is put down next stands for nothing in the text
abbrev pub from_nowhere : Written → Written
from_nowhere done = record done { origin = NO_ORIGIN }

-- with more items
abbrev pub added_all : Written → List i.Item → Written
added_all done items = fold added done items

-- the node that is put down
abbrev pub node_head : FormNode → i.Head
node_head (f.Import meta) = i.ImportDecl meta.now
node_head (f.Export meta) = i.NamedExport meta.now
node_head f.ImportSpecifier = i.ImportNamedSpecifier
node_head f.ExportSpecifier = i.ExportNamedSpecifier
node_head f.Statement = i.ExprStmt
node_head f.Call = i.CallExpr
node_head f.Argument = i.ExprOrSpread false
node_head f.ComputedKey = i.ComputedPropName

-- the item that a part is
abbrev pub part_item : FormPart → i.Item
part_item (t.Begin field node) = i.Open field (node_head node)
part_item (t.Name field sym role) = i.Ident field sym.now 0 role
part_item (t.Text field value) = i.Open field (i.Str value.now None)
part_item (t.Comment text) = i.Open 0 (i.Str (0 ∷ codes "comment") (Some text.now))
part_item t.End = i.Close

-- with one more part
abbrev pub added_part : Written → FormPart → Written
added_part done part = added done (part_item part)

abbrev pub name_item : ℕ → List ℕ → Role → i.Item
name_item field sym role = i.Ident field sym 0 role

-- a string
abbrev pub text_items : ℕ → List ℕ → List i.Item
text_items field value = i.Open field (i.Str value None) ∷ i.Close ∷ []

-- a string that is the last part of a node, and the end of that
abbrev pub source_items : ℕ → List ℕ → List i.Item
source_items field value = i.Open field (i.Str value None) ∷ i.Close ∷ i.Close ∷ []

-- the statement that stands for a comment
abbrev pub comment_items : List ℕ → List i.Item
comment_items text =
    i.Open 0 i.ExprStmt ∷ i.Open 0 (i.Str (0 ∷ codes "comment") (Some text)) ∷ i.Close ∷ i.Close
    ∷ []

-- `name()`
abbrev pub call_items : ℕ → List ℕ → List i.Item
call_items field name = i.Open field i.CallExpr ∷ name_item 0 name Reference ∷ i.Close ∷ []

-- `require('key')()`
abbrev pub loader_items : ℕ → List ℕ → List i.Item
loader_items field key =
    i.Open field i.CallExpr ∷ i.Open 0 i.CallExpr ∷ name_item 0 (codes "require") Reference
    ∷ i.Open 1 (i.ExprOrSpread false) ∷ i.Open 1 (i.Str key None)
    ∷ i.Close ∷ i.Close ∷ i.Close ∷ i.Close ∷ []
