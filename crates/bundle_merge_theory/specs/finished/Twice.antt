-- To give a tree other identifiers and then others again is to give it the last ones: what is said
-- of it.
use Rattle.std.specs.Prelude.{◌≡◌, true, false, ◌||◌, List, [], ◌∷◌, bytes_eq, ⊤}
use Rattle.bundle_syntax.specs.Item.{Item}
use Rattle.bundle_rules.specs.Idents.{Ident}
use Rattle.bundle_rules.specs.Rebuilds.{Change}
use Rattle.bundle_tree_places.specs.Edits.{Around, Anywhere, InObject, Edits}

-- the change of an identifier, a change of what that gave, and both at once; where the first spells
-- nothing out, it keeps the symbol
pub record IsBoth (ident : Ident) (one two both : Change) : Type 0 where
  pub is : both.ident ≡ two.ident
  pub spelled : both.is_spelled_out ≡ (one.is_spelled_out || two.is_spelled_out)
  pub keeps : one.is_spelled_out ≡ false → one.ident.0 ≡ ident.0

-- the changes of these identifiers in turn, and those that are left
abbrev pub Along : List Ident → (ones twos boths left later rest : List Change) → Type 0
Along [] ones twos boths left later rest = (ones ≡ left) × (twos ≡ later) × (boths ≡ rest)
Along (name ∷ names) (one ∷ ones) (two ∷ twos) (both ∷ boths) left later rest =
    IsBoth name one two both × Along names ones twos boths left later rest
Along (name ∷ names) _ _ _ left later rest = ⊥

-- where an identifier stands otherwise than alone in a specifier
pub data Free : Around → Type 0 where
  anywhere : Free Anywhere
  in_object : Free InObject

-- what becomes of a part by the first changes, and then by the second ones: that by both at once
pub record Twice
    (around : Around) (before : List Item)
    (ones twos boths left later rest : List Change) : Type 0 where
  pub made : List Item
  pub whole : List Item
  pub first : Edits around ones before made left
  pub second : Edits around twos made whole later
  pub at_once : Edits around boths before whole rest

-- a tree that can be edited: whole nodes, whose specifiers and shorthands are of the forms that
-- there are
pub record IsEditable (tree : List Item) : Type 0 where
  pub changes : List Change
  pub after : List Item
  pub left : List Change
  pub edits : Edits Anywhere changes tree after left

-- no symbol that was changed is changed back
abbrev pub AreNotBack : (olds news last : List Ident) → Type 0
AreNotBack [] [] [] = ⊤
AreNotBack (old ∷ olds) (new ∷ news) (final ∷ last) =
    (bytes_eq old.0 final.0 ≡ true → bytes_eq old.0 new.0 ≡ true) × AreNotBack olds news last
AreNotBack _ _ _ = ⊥
