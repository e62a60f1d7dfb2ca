-- What becomes of a part of a tree, by its list, as a relation over its nodes: the way in which a
-- walk over the tree makes it anew. `EditsLemmas` shows that for a whole tree it says what
-- `Rebuilds` does.
use Rattle.std.specs.Prelude.{◌≡◌, ℕ, Bool, true, false, not, List, [], ◌∷◌, ◌++◌, Option, Some, None, drop, if◌then◌else◌}
use Rattle.bundle_syntax.specs.declared.piece.Role.{Role}
use Rattle.bundle_syntax.specs.declared.piece.Role.TheVariants as r
use Rattle.bundle_syntax.specs.Item as h
use Rattle.bundle_syntax.specs.Item.{Item, Head}
use Rattle.bundle_rules.specs.Nodes.{Text}
use Rattle.bundle_rules.specs.Rebuilds.{Change, spells_out, plain_key, key_in_object}

-- a node: its beginning, what stands inside, its end
abbrev pub node : ℕ → Head → List Item → List Item
node field head inside = h.Open field head ∷ (inside ++ h.Close ∷ [])

-- whether an identifier of this role is an occurrence; the others are plain words
abbrev pub is_occurrence : Role → Bool
is_occurrence r.Word = false
is_occurrence _ = true

-- the change of the next occurrence, if one is left
abbrev pub next : List Change → Option Change
next [] = None
next (change ∷ rest) = Some change

-- an occurrence with its change, if there is one
abbrev pub renamed : Option Change → ℕ → Text → ℕ → Role → Item
renamed None field x ctxt role = h.Ident field x ctxt role
renamed (Some change) field x ctxt role = h.Ident field change.ident.0 change.ident.1 role

-- what stands around: an object literal, where an identifier is short for `x: x`; an import or
-- export specifier that has but this one name; or anything else, where an identifier is just a name
pub data Around : Type 0 where
  Anywhere : Around
  InObject : Around
  InSpecifier : Around

-- what is around the children of a node
abbrev pub around_in : Head → List Item → Around
around_in h.ObjectLit inside = InObject
around_in h.ImportNamedSpecifier (name ∷ []) = InSpecifier
around_in h.ExportNamedSpecifier (name ∷ []) = InSpecifier
around_in head inside = Anywhere

-- whether the last of these elements is an occurrence
abbrev pub ends_in_name : List Item → Bool
ends_in_name [] = false
ends_in_name (h.Ident field x ctxt role ∷ []) = is_occurrence role
ends_in_name (h.Open field head ∷ []) = false
ends_in_name (h.Hole field ∷ []) = false
ends_in_name (h.Close ∷ []) = false
ends_in_name (first ∷ second ∷ rest) = ends_in_name (second ∷ rest)

-- whether the second name of a specifier is a plain word or a string, where it has one
abbrev pub is_second_plain : List Item → Bool
is_second_plain (name ∷ []) = true
is_second_plain inside = not (ends_in_name inside)

-- whether a node stays, and just what is in it is edited: no shorthand property of a pattern does
abbrev pub is_plain : Head → List Item → Bool
is_plain h.AssignPatProp inside = false
is_plain h.ImportNamedSpecifier inside = is_second_plain inside
is_plain h.ExportNamedSpecifier inside = is_second_plain inside
is_plain head inside = true

-- what stands in the place of an occurrence of `x`
abbrev pub in_its_place : Around → Option Change → ℕ → Text → ℕ → Role → List Item
in_its_place Anywhere change field x ctxt role = renamed change field x ctxt role ∷ []
in_its_place InObject change field x ctxt role =
    if spells_out change
    then node field h.KeyValueProp (key_in_object x ++ renamed change 1 x ctxt role ∷ [])
    else renamed change field x ctxt role ∷ []
in_its_place InSpecifier change field x ctxt role =
    if spells_out change
    then renamed change field x ctxt role ∷ h.Ident 1 x 0 r.Word ∷ []
    else renamed change field x ctxt role ∷ []

-- a name that is a pattern, with its change
abbrev pub binding : Option Change → ℕ → Text → ℕ → Role → List Item
binding change field x ctxt role = node field h.BindingIdent (renamed change 0 x ctxt role ∷ [])

-- the pattern that a shorthand is spelled out with: `{ x }` is `{ x: y }`, and `{ x = e }` is `{ x:
-- y = e }`
abbrev pub pattern_in_its_place :
    Option Change → Text → ℕ → Role → (default : List Item) → List Item
pattern_in_its_place change x ctxt role [] = binding change 1 x ctxt role
pattern_in_its_place change x ctxt role default =
    node 1 h.AssignPat (binding change 0 x ctxt role ++ default)

-- what stands in the place of a shorthand property of a pattern, with or without a default value
abbrev pub shorthand_in_its_place :
    Option Change → ℕ → Text → ℕ → Role → (default : List Item) → List Item
shorthand_in_its_place change field x ctxt role default =
    if spells_out change
    then node field h.KeyValuePatProp
    (plain_key x ++ pattern_in_its_place change x ctxt role default)
    else node field h.AssignPatProp (binding change 0 x ctxt role ++ default)

-- With these changes, what stands here becomes that, and these changes are left for what follows.
pub data Edits : Around → List Change → List Item → List Item → List Change → Type 0 where
  -- where nothing stands
  Nothing : {around : Around} {changes : List Change} → Edits around changes [] [] changes
  -- one after the other
  Joined :
      {around : Around} {changes between rest : List Change}
      {first made_first second made_second : List Item} →
      Edits around changes first made_first between →
      Edits around between second made_second rest →
      Edits around changes (first ++ second) (made_first ++ made_second) rest
  -- an empty place of a list stays
  Hole : {around : Around} {changes : List Change} (field : ℕ) →
      Edits around changes (h.Hole field ∷ []) (h.Hole field ∷ []) changes
  -- a plain word stays
  Word : {around : Around} {changes : List Change} (field : ℕ) (x : Text) (ctxt : ℕ) (role : Role) →
      is_occurrence role ≡ false →
      Edits around changes (h.Ident field x ctxt role ∷ []) (h.Ident field x ctxt role ∷ []) changes
  -- an occurrence takes the next change
  Name : (around : Around) {changes : List Change} (field : ℕ) (x : Text) (ctxt : ℕ) (role : Role) →
      is_occurrence role ≡ true →
      Edits around changes (h.Ident field x ctxt role ∷ [])
      (in_its_place around (next changes) field x ctxt role) (drop 1 changes)
  -- a node stays, and what is in it is edited
  Inside :
      {around : Around} {changes rest : List Change} (field : ℕ) (head : Head)
      {inside made : List Item} →
      is_plain head inside ≡ true →
      Edits (around_in head inside) changes inside made rest →
      Edits around changes (node field head inside) (node field head made) rest
  -- a shorthand property of a pattern takes the next change for its name
  Shorthand :
      {around : Around} {changes rest : List Change} (field : ℕ) (x : Text) (ctxt : ℕ) (role : Role)
      {default made : List Item} →
      is_occurrence role ≡ true →
      Edits Anywhere (drop 1 changes) default made rest →
      Edits around changes (node field h.AssignPatProp (binding None 0 x ctxt role ++ default))
      (shorthand_in_its_place (next changes) field x ctxt role made) rest

-- the items of a tree with these changes of its occurrences in turn; where no change is left, an
-- occurrence stays
pub record Edited (changes : List Change) (before after : List Item) : Type 0 where
  pub rest : List Change
  pub by : Edits Anywhere changes before after rest
