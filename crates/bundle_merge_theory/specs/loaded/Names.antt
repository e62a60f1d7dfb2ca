-- What the names of a bundle's items are told to mean, by their identifiers.
use Rattle.std.specs.Prelude.{◌≡◌, ℕ, true, false, List, Some, Contains, position}
use Rattle.bundle_syntax.specs.Item.{Item}
use Rattle.bundle_rules.specs.Places.{Occurrence}
use Rattle.bundle_rules.specs.Scopes.{Top, Wrapper}
use Rattle.bundle_rules.specs.Denotes.{Denoted, Bound, Global}
use Rattle.bundle_rules.specs.Nodes.{Text}
use Rattle.bundle_rules.specs.Idents.{Ident, ident_of}
use Rattle.bundle_rules.specs.Mentions.{same_denoted}
use Rattle.bundle_rules.specs.Linking.{Declared as IsDeclared}
use Rattle.bundle_rules.specs.Meaning.{Of, Parameter, Label, Meant, Inside, Known, Unbound, plain, is_inside}
use Rattle.bundle_merge_theory.specs.joined.Joined.{own_declared, is_item_top_name, is_global_written}
use Rattle.bundle_merge_theory.specs.joined.Notes.{its_name, own_denoted, is_inner_denoted, is_inner_name}

-- which identifier stands for what
abbrev pub LabelTable : Type 0
LabelTable = List (Ident × Label)

-- an occurrence of an item stands for the label: a name of the top of the whole, or a binding of
-- an inner scope of the item by itself
pub data IsLabelled (items : List (List Item)) (table : LabelTable) (item : List Item)
    (o : Occurrence)
    (l : Label) : Type 0 where
  labelled_top : is_item_top_name items (its_name o) ≡ true →
      is_inner_name (own_declared item) (its_name o) ≡ false → Contains table (ident_of o, l) →
      IsLabelled items table item o l
  labelled_inner : is_inner_denoted (own_denoted item o) ≡ true →
      (is_global_written (own_denoted item o) ≡ false → is_item_top_name items (its_name o) ≡ false)
      →
      Contains table (ident_of o, l) → IsLabelled items table item o l

-- what an occurrence of an item means, in a statement that begins at this place of the item by
-- itself and has these bindings inside
pub data NameNoted (items : List (List Item)) (table : LabelTable) (item : List Item) (begins : ℕ)
    (inner : List Denoted) (o : Occurrence) : Meant → Type 0 where
  is_one_inside : {k : ℕ} → is_inner_denoted (own_denoted item o) ≡ true →
      (is_global_written (own_denoted item o) ≡ false → is_item_top_name items (its_name o) ≡ false)
      →
      is_inside begins (own_denoted item o) ≡ true →
      position (same_denoted (own_denoted item o)) inner ≡ Some k →
      NameNoted items table item begins inner o (Inside k)
  is_known : {l : Label} → is_inside begins (own_denoted item o) ≡ false →
      IsLabelled items table item o l → NameNoted items table item begins inner o (Known l)
  -- a name of the top of the whole, also where the item by itself takes it for the `arguments` of
  -- a function
  is_known_top : {l : Label} → is_item_top_name items (its_name o) ≡ true →
      is_inner_name (own_declared item) (its_name o) ≡ false → Contains table (ident_of o, l) →
      NameNoted items table item begins inner o (Known l)
  is_free : o.ctxt ≡ 1 → is_item_top_name items (its_name o) ≡ false →
      is_inner_name (own_declared item) (its_name o) ≡ false →
      NameNoted items table item begins inner o (Unbound o.sym)

-- what a name of a CommonJS module means that denotes this, where these are the bindings inside
-- its statement
pub data NamedAs (c : ℕ) (inner : List Denoted) : Denoted → Meant → Type 0 where
  one_inside : {d : Denoted} {n : ℕ} → position (same_denoted d) inner ≡ Some n →
      is_inside 0 d ≡ true → NamedAs c inner d (Inside n)
  of_top : {x : Text} → NamedAs c inner (Bound Top (plain x)) (Known (Of (IsDeclared c x)))
  of_wrapper : {x : Text} → NamedAs c inner (Bound Wrapper (plain x)) (Known (Parameter c x))
  unbound : {x : Text} → NamedAs c inner (Global x) (Unbound x)
