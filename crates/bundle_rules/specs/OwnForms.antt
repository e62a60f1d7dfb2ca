-- The form of an own statement in a bundle: its list is that of its source, but for what becomes
-- of names. Where a node is replaced (a static read of a namespace, `import.meta`, a literal call
-- of `require`) a name stands, identifiers are others, and what is short is spelled out where its
-- symbol changes (ECMA-262, 13.2.5 and 14.3.3), and nowhere else.
use Rattle.std.specs.Prelude.{◌≡◌, ℕ, zero, ◌+◌, List, [], ◌∷◌, ◌++◌, Some, length, slice_get}
use Rattle.std.specs.List.{AllZip}
use Rattle.bundle_syntax.specs.declared.piece.Role.TheVariants.{Reference}
use Rattle.bundle_syntax.specs.Item as h
use Rattle.bundle_syntax.specs.Item.{Item, Head}
use Rattle.bundle_rules.specs.Nodes.{side_by_side}
use Rattle.bundle_rules.specs.Statements.{TopItem, Element, taken, own_statements}
use Rattle.bundle_rules.specs.Cleared.{cleared_item, tidied}
use Rattle.bundle_rules.specs.Idents.{Ident, idents}
use Rattle.bundle_rules.specs.Rebuilds.{with_idents}
use Rattle.bundle_rules.specs.Program.{Program, tree_of}
use Rattle.bundle_rules.specs.Injected.{load_front, load_back}
use Rattle.bundle_rules.specs.Meaning.{Replacement, ByName, ByCall, Replaced, item_of, past_end}
use Rattle.bundle_rules.specs.Bundle.{Pairing, StandsFor, Own, Defines}

-- what stands in the place of a node in this field that is replaced: the name, or a call of it
-- without arguments
abbrev pub replacement_items : ℕ → Ident → Replacement → List Item
replacement_items field name (ByName l) = h.Ident field name.0 name.1 Reference ∷ []
replacement_items field name (ByCall l) =
    h.Open field h.CallExpr ∷ h.Ident 0 name.0 name.1 Reference ∷ h.Close ∷ []

-- the element begins no node that is replaced
abbrev pub IsUnreplaced : Program → ℕ → Element → Type 0
IsUnreplaced p m (taken place (h.Open field head)) = (by : Replacement) → Replaced p m place by → ⊥
IsUnreplaced p m _ = Unit {0}

-- `WithNames p m elements items`: the list of these elements of a statement of m, with a name in
-- the place of each node that is replaced; what stands in such a node is passed over, and
-- contexts and notes are left out
pub data WithNames (p : Program) (m : ℕ) : List Element → List Item → Type 0 where
  over : WithNames p m [] []
  replaced : {place field : ℕ} {head : Head} {rest : List Element} {items : List Item}
      (name : Ident) (by : Replacement) →
      Replaced p m place by →
      WithNames p m (past_end zero rest) items →
      WithNames p m (taken place (h.Open field head) ∷ rest)
      (replacement_items field name by ++ items)
  stays : {e : Element} {rest : List Element} {items : List Item} →
      IsUnreplaced p m e →
      WithNames p m rest items →
      WithNames p m (e ∷ rest) (cleared_item (item_of e) ∷ items)

-- the item keeps the form of a statement of m: it is the statement with names in the place of
-- nodes that are replaced, and then with other identifiers, where what is short is spelled out
-- exactly where the symbol changes
pub record KeepsForm (p : Program) (m : ℕ) (statement : List Element) (item : List Item) : Type 0
  where
    pub named : List Item
    pub with_names : WithNames p m statement named
    pub same : tidied item ≡ with_idents named (idents item)

-- the item is the function of a CommonJS module, in which its statements keep their forms
pub record FunctionKeepsForms (p : Program) (c : ℕ) (item : List Item) : Type 0 where
  pub front : List Item
  pub inside : List Item
  pub back : List Item
  pub is : item ≡ front ++ (inside ++ back)
  pub front_length : length front ≡ length (load_front c)
  pub back_length : length back ≡ length load_back
  pub statements : AllZip (KeepsForm p c) (own_statements (tree_of p c)) (side_by_side zero inside)

-- own statements keep their forms: those of ES modules as items, those of a CommonJS module in its
-- function
pub record KeepForms (p : Program) (pairing : Pairing) : Type 0 where
  pub own : (m k : ℕ) (item : TopItem) (statement : List Element) →
      StandsFor pairing (Own m k) item →
      slice_get (own_statements (tree_of p m)) k ≡ Some statement →
      KeepsForm p m statement item.items
  pub common_js : (c : ℕ) (item : TopItem) →
      StandsFor pairing (Defines c) item →
      FunctionKeepsForms p c item.items
