-- Lists of small trees, for examples. Each function is named after what it makes.
use Rattle.std.specs.Prelude.{ℕ, false, List, [], ◌∷◌, ◌++◌, None}
use Rattle.bundle_syntax.specs.declared.kind.ExportMetadata.{ExportMetadata}
use Rattle.bundle_syntax.specs.declared.kind.VarDeclKind.{VarDeclKind}
use Rattle.bundle_syntax.specs.declared.piece.Role.TheVariants as r
use Rattle.bundle_syntax.specs.Item as h
use Rattle.bundle_syntax.specs.Item.{Item, Head}

abbrev pub plain : ExportMetadata
plain = record { injected = false; export_ctxt = None }

abbrev pub node : ℕ → Head → List Item → List Item
node field head inside = h.Open field head ∷ (inside ++ h.Close ∷ [])

abbrev pub word : ℕ → List ℕ → List Item
word field sym = h.Ident field sym 0 r.Word ∷ []

abbrev pub reference : ℕ → List ℕ → ℕ → List Item
reference field sym ctxt = h.Ident field sym ctxt r.Reference ∷ []

abbrev pub binding : ℕ → List ℕ → ℕ → List Item
binding field sym ctxt = h.Ident field sym ctxt r.Binding ∷ []

abbrev pub pattern_of : ℕ → List ℕ → ℕ → List Item
pattern_of field sym ctxt = node field h.BindingIdent (binding 0 sym ctxt)

-- `sym;`
abbrev pub reads : List ℕ → ℕ → List Item
reads sym ctxt = node 0 h.ExprStmt (reference 0 sym ctxt)

-- `var sym`, `let sym` or `const sym` in a field
abbrev pub declares_in : ℕ → VarDeclKind → List ℕ → ℕ → List Item
declares_in field kind sym ctxt = node field (h.VarDecl kind plain) (node 1 h.VarDeclarator (pattern_of 0 sym ctxt))

-- `{ .. }` in a field
abbrev pub block_of : ℕ → List Item → List Item
block_of field inside = node field h.BlockStmt inside

abbrev pub parameter : List ℕ → ℕ → List Item
parameter sym ctxt = node 0 h.Param (pattern_of 0 sym ctxt)

-- `(..) { .. }` in the second field
abbrev pub function_of : List Item → List Item → List Item
function_of params inside = node 1 (h.Function false false) (params ++ block_of 1 inside)

-- `function sym (..) { .. }`
abbrev pub declares_function : List ℕ → ℕ → List Item → List Item → List Item
declares_function sym ctxt params inside = node 0 h.FnDecl (binding 0 sym ctxt ++ function_of params inside)
