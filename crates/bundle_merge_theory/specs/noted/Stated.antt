-- The marks of what a top item of a module states, by those of its parts.
use Rattle.std.specs.Prelude.{◌≡◌, ℕ, Bool as Truth, true, false, List, [], ◌∷◌, ◌++◌, Option}
use Rattle.bundle_syntax.specs.declared.kind.VarDeclKind.TheVariants.{Const}
use Rattle.bundle_syntax.specs.declared.piece.Role.{Role}
use Rattle.bundle_syntax.specs.Item as h
use Rattle.bundle_syntax.specs.Item.{Item, Head}
use Rattle.bundle_rules.specs.Nodes.{Text}
use Rattle.bundle_rules.specs.Statements.{no_notes, moved_to, declaration_head}
use Rattle.bundle_rules.specs.Marks as k
use Rattle.bundle_rules.specs.Meaning.{Meant, Mark}
use Rattle.bundle_tree_places.specs.Edits.{Anywhere, node}
use Rattle.bundle_merge_theory.specs.noted.Marked.{Note, node_marks, pattern_marks, Marked}

-- the node, in this field
abbrev pub node_in_field : ℕ → List Item → List Item
node_in_field field [] = []
node_in_field field (first ∷ rest) = moved_to field first ∷ rest

-- whether a top item with this head states just itself
abbrev pub states_itself : Head → Truth
states_itself (h.ImportDecl meta) = false
states_itself (h.NamedExport meta) = false
states_itself (h.ExportAll meta) = false
states_itself h.EmptyStmt = false
states_itself h.ExportDecl = false
states_itself h.ExportDefaultExpr = false
states_itself h.ExportDefaultDecl = false
states_itself head = true

-- whether such a node is a function or a class that a default export declares
abbrev pub is_default_head : Head → Truth
is_default_head h.FnExpr = true
is_default_head h.ClassExpr = true
is_default_head head = false

-- whether a top item declares a default without a name
abbrev pub declares_default : List Item → Truth
declares_default (h.Open field h.ExportDefaultExpr ∷ rest) = true
declares_default (h.Open field h.ExportDefaultDecl ∷ h.Open its head ∷ h.Open own first ∷ rest) =
    true
declares_default items = false

-- `const default = e;`
abbrev pub constant_marks : Meant → (value : List Mark) → List Mark
constant_marks default value =
    node_marks 0 (h.VarDecl Const no_notes)
    (node_marks 1 h.VarDeclarator (pattern_marks 0 default ++ value))

-- `MarkedStated meta default notes item marks rest`: where `default` is what a default without a
-- name means, what this top item states has these marks
pub data MarkedStated (meta : Option Meant) (default : Meant) : List Note → List Item → List Mark →
    List Note → Type 0 where
  -- a statement
  Itself : {notes rest : List Note} {marks : List Mark} (field : ℕ) (head : Head)
      (inside : List Item) → states_itself head ≡ true →
      Marked meta Anywhere notes (node field head inside) marks rest →
      MarkedStated meta default notes (node field head inside) marks rest
  -- an exported declaration
  Declared : {notes rest : List Note} {marks : List Mark} (field : ℕ) (inside : List Item) →
      Marked meta Anywhere notes inside marks rest →
      MarkedStated meta default notes (node field h.ExportDecl inside) marks rest
  -- the value of a default expression
  Value : {notes rest : List Note} {marks : List Mark} (field : ℕ) (value : List Item) →
      Marked meta Anywhere notes (node_in_field 1 value) marks rest →
      MarkedStated meta default notes (node field h.ExportDefaultExpr value)
      (constant_marks default marks) rest
  -- a default function or class with a name
  Named : {notes rest : List Note} {marks : List Mark} (field its : ℕ) (head : Head) (own : ℕ)
      (x : Text) (ctxt : ℕ) (role : Role) (more : List Item) → is_default_head head ≡ true →
      Marked meta Anywhere notes (h.Ident own x ctxt role ∷ more) marks rest →
      MarkedStated meta default notes
      (node field h.ExportDefaultDecl (node its head (h.Ident own x ctxt role ∷ more)))
      (node_marks 0 (declaration_head head) marks) rest
  -- and without one
  Nameless : {notes rest : List Note} {marks : List Mark} (field its : ℕ) (head : Head) (own : ℕ)
      (first : Head) (more : List Item) → is_default_head head ≡ true →
      Marked meta Anywhere notes (h.Open own first ∷ more) marks rest →
      MarkedStated meta default notes
      (node field h.ExportDefaultDecl (node its head (h.Open own first ∷ more)))
      (node_marks 0 (declaration_head head) (k.Name 0 default ∷ marks)) rest
