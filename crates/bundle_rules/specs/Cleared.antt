-- A tree without what a linker marks it with: contexts, which are then 0, and notes. A tree that is
-- handed in is kept so.
use Rattle.std.specs.Prelude.{List, [], ◌∷◌}
use Rattle.bundle_syntax.specs.declared.piece.Role.TheVariants.{Word as IsWord}
use Rattle.bundle_syntax.specs.Item as h
use Rattle.bundle_syntax.specs.Item.{Item, Head}
use Rattle.bundle_rules.specs.Statements.{no_notes}

-- a head with nothing noted
abbrev pub cleared_head : Head → Head
cleared_head (h.ImportDecl meta) = h.ImportDecl no_notes
cleared_head (h.NamedExport meta) = h.NamedExport no_notes
cleared_head (h.ExportAll meta) = h.ExportAll no_notes
cleared_head (h.VarDecl kind meta) = h.VarDecl kind no_notes
cleared_head head = head

-- an element with context 0 and nothing noted
abbrev pub cleared_item : Item → Item
cleared_item (h.Open field head) = h.Open field (cleared_head head)
cleared_item (h.Ident field sym ctxt role) = h.Ident field sym 0 role
cleared_item x = x

-- a tree with each context 0 and nothing noted
abbrev pub cleared : List Item → List Item
cleared [] = []
cleared (x ∷ rest) = cleared_item x ∷ cleared rest

-- an element with context 0
abbrev pub without_context : Item → Item
without_context (h.Ident field sym ctxt role) = h.Ident field sym 0 role
without_context x = x

-- an element with nothing noted
abbrev pub without_note : Item → Item
without_note (h.Open field head) = h.Open field (cleared_head head)
without_note x = x

-- the tree with nothing noted
abbrev pub without_notes : List Item → List Item
without_notes [] = []
without_notes (x ∷ rest) = without_note x ∷ without_notes rest

-- an element with nothing noted and, where it is a plain word, with context 0: a word denotes
-- nothing
abbrev pub tidy_item : Item → Item
tidy_item (h.Open field head) = h.Open field (cleared_head head)
tidy_item (h.Ident field sym ctxt IsWord) = h.Ident field sym 0 IsWord
tidy_item x = x

-- the tree with nothing noted, and with no contexts but those of bindings and references
abbrev pub tidied : List Item → List Item
tidied [] = []
tidied (x ∷ rest) = tidy_item x ∷ tidied rest
