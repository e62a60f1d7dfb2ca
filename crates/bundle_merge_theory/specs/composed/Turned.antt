-- The items of a bundle and what becomes of them where names change: what is told of them stays.
use Rattle.std.specs.Prelude.{◌≡◌, ◌<◌, ℕ, List, [], ◌∷◌, ◌++◌, length, fold, ⊤}
use Rattle.std.specs.List.{AllZip}
use Rattle.bundle_syntax.specs.Item as h
use Rattle.bundle_syntax.specs.Item.{Item}
use Rattle.bundle_rules.specs.Places.{Around, Spot, past, in_field}
use Rattle.bundle_rules.specs.Scopes.{Es, Scope, Wrapper, Top, Inner, scopes_around}
use Rattle.bundle_rules.specs.Sorting.{flat}
use Rattle.bundle_rules.specs.Meaning.{Label}
use Rattle.bundle_merge_theory.specs.noted.Nodes.{AreNodesInTurn}
use Rattle.bundle_merge_theory.specs.joined.Joined.{AllOf}
use Rattle.bundle_merge_theory.specs.walked.Names.{idents_among}
use Rattle.bundle_merge_theory.specs.walked.Renaming.{ItemMeaning}
use Rattle.bundle_merge_theory.specs.composed.Noted.{NotedItem, AsWhole, AsFunction}

-- a scope of a node that begins before this place
abbrev pub IsScopeBelow : ℕ → Scope → Type 0
IsScopeBelow place (Inner kind begins) = begins < place
IsScopeBelow place Top = ⊤
IsScopeBelow place Wrapper = ⊤

-- two spots whose scopes correspond, whatever the field in which what follows stands
pub record SpotsMatch (s t : Spot) : Type 0 where
  pub same : (field : ℕ) → scopes_around Es (in_field field s.path) ≡ scopes_around Es s.path
  pub its_same : (field : ℕ) → scopes_around Es (in_field field t.path) ≡ scopes_around Es t.path
  pub size : length (scopes_around Es s.path) ≡ length (scopes_around Es t.path)
  pub below : AllOf (IsScopeBelow s.place) (scopes_around Es s.path)
  pub its_below : AllOf (IsScopeBelow t.place) (scopes_around Es t.path)

-- the path in a module
abbrev pub module_path : List Around
module_path = record { head = h.Module; begins = 0; field = 0 } ∷ []

-- whole nodes become whole nodes with as many names
pub record PartTurned (part renamed : List Item) : Type 0 where
  pub nodes : AreNodesInTurn part
  pub its_nodes : AreNodesInTurn renamed
  pub names : length (idents_among part) ≡ length (idents_among renamed)

-- what stands in front of the statements of a CommonJS module becomes this
pub record FrontTurned (front renamed : List Item) : Type 0 where
  pub names : length (idents_among front) ≡ length (idents_among renamed)
  pub spots : (s t : Spot) (field its : ℕ) →
      s.path ≡ in_field field module_path →
      t.path ≡ in_field its module_path →
      SpotsMatch (fold past s front) (fold past t renamed)

-- an item becomes this, of which the same is told
pub data ItemTurned : List Item → NotedItem → List Item → NotedItem → Type 0 where
  whole_turned : {item renamed : List Item} {told : ItemMeaning} →
      PartTurned item renamed →
      ItemTurned item (AsWhole told) renamed (AsWhole told)
  function_turned : {item renamed front its_front : List Item} {names : List Label}
      {insides its : List (List Item)} {tolds : List ItemMeaning} (back its_back : List Item) →
      PartTurned item renamed →
      item ≡ front ++ (flat insides ++ back) →
      renamed ≡ its_front ++ (flat its ++ its_back) →
      FrontTurned front its_front →
      AllZip PartTurned insides its →
      ItemTurned item (AsFunction front names insides tolds) renamed
      (AsFunction its_front names its tolds)

-- all items
abbrev pub ItemsTurned : List (List Item) → List NotedItem → List (List Item) → List NotedItem →
    Type 0
ItemsTurned [] [] [] [] = ⊤
ItemsTurned (item ∷ items) (one ∷ noted) (renamed ∷ others) (other ∷ its) =
    ItemTurned item one renamed other × ItemsTurned items noted others its
ItemsTurned _ _ _ _ = ⊥
