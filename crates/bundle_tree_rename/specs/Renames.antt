-- What becomes of a part of a tree, by its list, where its identifiers are called otherwise, as a
-- relation over its nodes. What stands around a name and what stands in its place is taken from
-- `Edits`.
use Rattle.std.specs.Prelude.{◌≡◌, ℕ, true, false, List, [], ◌∷◌, ◌++◌, None, drop}
use Rattle.bundle_rules.specs.Nodes.{Text}
use Rattle.bundle_syntax.specs.declared.piece.Role.{Role}
use Rattle.bundle_syntax.specs.Item as h
use Rattle.bundle_syntax.specs.Item.{Item, Head}
use Rattle.bundle_tree_places.specs.Edits.{Around, Anywhere, node, is_occurrence, around_in, is_plain, in_its_place, binding, shorthand_in_its_place}
use Rattle.bundle_tree_rename.specs.Naming.{Naming, next}

-- With these names, what stands here becomes that, and these names are left for what follows.
pub data Renames : Around → List Naming → List Item → List Item → List Naming → Type 0 where
  -- where nothing stands
  Nothing : {around : Around} {names : List Naming} → Renames around names [] [] names
  -- one after the other
  Joined :
      {around : Around} {names between rest : List Naming}
      {first made_first second made_second : List Item} →
      Renames around names first made_first between →
      Renames around between second made_second rest →
      Renames around names (first ++ second) (made_first ++ made_second) rest
  -- an empty place of a list stays
  Hole : {around : Around} {names : List Naming} (field : ℕ) →
      Renames around names (h.Hole field ∷ []) (h.Hole field ∷ []) names
  -- a plain word stays
  Word : {around : Around} {names : List Naming} (field : ℕ) (x : Text) (ctxt : ℕ) (role : Role) →
      is_occurrence role ≡ false →
      Renames around names (h.Ident field x ctxt role ∷ []) (h.Ident field x ctxt role ∷ []) names
  -- an occurrence gets its name
  Name : (around : Around) {names : List Naming} (field : ℕ) (x : Text) (ctxt : ℕ) (role : Role) →
      is_occurrence role ≡ true →
      Renames around names (h.Ident field x ctxt role ∷ [])
      (in_its_place around (next names x ctxt) field x ctxt role) (drop 1 names)
  -- a node stays, and what is in it is renamed
  Inside :
      {around : Around} {names rest : List Naming} (field : ℕ) (head : Head)
      {inside made : List Item} →
      is_plain head inside ≡ true →
      Renames (around_in head inside) names inside made rest →
      Renames around names (node field head inside) (node field head made) rest
  -- a shorthand property of a pattern gets the next name
  Shorthand :
      {around : Around} {names rest : List Naming} (field : ℕ) (x : Text) (ctxt : ℕ) (role : Role)
      {default made : List Item} →
      is_occurrence role ≡ true →
      Renames Anywhere (drop 1 names) default made rest →
      Renames around names (node field h.AssignPatProp (binding None 0 x ctxt role ++ default))
      (shorthand_in_its_place (next names x ctxt) field x ctxt role made) rest
