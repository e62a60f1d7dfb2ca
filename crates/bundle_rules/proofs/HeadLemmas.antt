-- What is read of a head, where it is the same whatever is noted on it.
use Rattle.std.proofs.Common.{◌≡◌, refl}
use Rattle.bundle_syntax.specs.declared.kind.ExportMetadata.{ExportMetadata}
use Rattle.bundle_syntax.specs.declared.kind.VarDeclKind.{VarDeclKind}
use Rattle.bundle_syntax.specs.Item as h
use Rattle.bundle_syntax.specs.Item.{Head}
use Rattle.bundle_rules.specs.Statements.{no_notes}
use Rattle.bundle_rules.specs.Cleared.{cleared_head}

-- a function of heads does not see what is noted on an import, an export list, `export *` or a declaration of variables
abbrev pub SkipsNotes : {A : Type 0} → (Head → A) → Type 0
SkipsNotes f =
    (meta : ExportMetadata)
    → (f (h.ImportDecl no_notes) ≡ f (h.ImportDecl meta))
    × (f (h.NamedExport no_notes) ≡ f (h.NamedExport meta))
    × (f (h.ExportAll no_notes) ≡ f (h.ExportAll meta))
    × ((kind : VarDeclKind) → f (h.VarDecl kind no_notes) ≡ f (h.VarDecl kind meta))

-- so it is the same of the cleared head
pub of_head : {A : Type 0} (f : Head → A) → SkipsNotes f → (head : Head) → f (cleared_head head) ≡ f head
of_head f skips (h.ImportDecl meta) = (skips meta).0
of_head f skips (h.NamedExport meta) = (skips meta).1
of_head f skips (h.ExportAll meta) = (skips meta).2
of_head f skips (h.VarDecl kind meta) = (skips meta).3 kind
of_head f skips _ = refl
