-- Lists that are whole nodes, one after another, as trees list them.
use Rattle.std.specs.Prelude.{◌≡◌, ℕ, Bool, true, false, List, [], ◌∷◌, ◌++◌, Contains}
use Rattle.bundle_syntax.specs.declared.piece.Role.{Role}
use Rattle.bundle_syntax.specs.declared.piece.Role.TheVariants.{Binding}
use Rattle.bundle_syntax.specs.Item as h
use Rattle.bundle_syntax.specs.Item.{Item, Head}
use Rattle.bundle_rules.specs.Nodes.{begins_in, begins_with, side_by_side}

-- two nodes, one in field 0 and one in field 1
pub record AreTwoNodes (inside : List Item) : Type 0 where
  pub first : List Item
  pub second : List Item
  pub them : side_by_side 0 inside ≡ first ∷ second ∷ []
  pub in_first : begins_in 0 first ≡ true
  pub in_second : begins_in 1 second ≡ true

-- a name that is bound, in field 0, and what follows it
pub record BeginsBound (inside : List Item) : Type 0 where
  pub sym : List ℕ
  pub ctxt : ℕ
  pub rest : List Item
  pub is : inside ≡ h.Ident 0 sym ctxt Binding ∷ rest

-- whether such a node is an import specifier
abbrev pub is_import_specifier : Head → Bool
is_import_specifier h.ImportNamedSpecifier = true
is_import_specifier h.ImportDefaultSpecifier = true
is_import_specifier h.ImportStarAsSpecifier = true
is_import_specifier _ = false

-- each node in field 0 is an import specifier
abbrev pub HasSpecifiers : List Item → Type 0
HasSpecifiers inside =
    (part : List Item) →
    Contains (side_by_side 0 inside) part →
    begins_in 0 part ≡ true →
    begins_with is_import_specifier part ≡ true

-- what stands in a node where others rely on it: nothing in a word and in `import.meta`, an object
-- and a property in a member, the local name in front in an import specifier, and specifiers in an
-- import
abbrev pub HasParts : Head → List Item → Type 0
HasParts (h.IdentName x) inside = inside ≡ []
HasParts (h.MetaPropExpr kind) inside = inside ≡ []
HasParts h.MemberExpr inside = AreTwoNodes inside
HasParts h.ImportNamedSpecifier inside = BeginsBound inside
HasParts h.ImportDefaultSpecifier inside = BeginsBound inside
HasParts h.ImportStarAsSpecifier inside = BeginsBound inside
HasParts (h.ImportDecl meta) inside = HasSpecifiers inside
HasParts _ inside = Unit {0}

-- whole nodes, names and holes, one after another
pub data AreNodes : List Item → Type 0 where
  nothing : AreNodes []
  name : {field ctxt : ℕ} {sym : List ℕ} {role : Role} {rest : List Item} →
      AreNodes rest →
      AreNodes (h.Ident field sym ctxt role ∷ rest)
  hole : {field : ℕ} {rest : List Item} → AreNodes rest → AreNodes (h.Hole field ∷ rest)
  node : {field : ℕ} {head : Head} {inside rest : List Item} →
      AreNodes inside →
      HasParts head inside →
      AreNodes rest →
      AreNodes (h.Open field head ∷ (inside ++ h.Close ∷ rest))
