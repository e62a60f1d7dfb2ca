-- Elements of trees that are the same once they are cleared.
use Rattle.std.specs.Prelude.{◌≡◌, ℕ, List}
use Rattle.std.specs.List.{AllZip}
use Rattle.bundle_syntax.specs.declared.piece.Role.{Role}
use Rattle.bundle_syntax.specs.Item as h
use Rattle.bundle_syntax.specs.Item.{Head, Item}
use Rattle.bundle_rules.specs.Cleared.{cleared_head}
use Rattle.bundle_rules.specs.Nodes.{Text}
use Rattle.bundle_rules.specs.Statements.{Element, taken, written}

-- two items of trees are the same but for a context or a note
pub data SameItem : Item → Item → Type 0 where
  begins : {field : ℕ} {head other : Head} →
      cleared_head head ≡ cleared_head other →
      SameItem (h.Open field head) (h.Open field other)
  named : {field a b : ℕ} {sym : Text} {role : Role} →
      SameItem (h.Ident field sym a role) (h.Ident field sym b role)
  empty : {field : ℕ} → SameItem (h.Hole field) (h.Hole field)
  ended : SameItem h.Close h.Close

-- the same of two elements of statements, which stand at one place
pub data SameElement : Element → Element → Type 0 where
  of_tree : {place : ℕ} {x y : Item} → SameItem x y → SameElement (taken place x) (taken place y)
  in_addition : {x y : Item} → SameItem x y → SameElement (written x) (written y)

-- the same of lists of elements
abbrev pub SameElements : List Element → List Element → Type 0
SameElements es fs = AllZip SameElement es fs
