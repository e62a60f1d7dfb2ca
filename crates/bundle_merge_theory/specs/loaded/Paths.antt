-- The nodes around a place of the module, and around the same place in the body.
use Rattle.std.specs.Prelude.{◌≡◌, ℕ, zero, suc, false, List, [], ◌∷◌}
use Rattle.bundle_syntax.specs.declared.kind.ExportMetadata.{ExportMetadata}
use Rattle.bundle_syntax.specs.declared.kind.VarDeclKind.{VarDeclKind}
use Rattle.bundle_syntax.specs.Item as h
use Rattle.bundle_syntax.specs.Item.{Head}
use Rattle.bundle_rules.specs.Places.{Around}
use Rattle.bundle_rules.specs.Callable.{is_module_head}
use Rattle.bundle_merge_theory.specs.noted.Spots.{around_spot}
use Rattle.bundle_merge_theory.specs.loaded.Item.{body_path}

-- the same node but for notes
pub data SameHead : Head → Head → Type 0 where
  same : {head : Head} → SameHead head head
  noted : {kind : VarDeclKind} {meta its : ExportMetadata} →
      SameHead (h.VarDecl kind meta) (h.VarDecl kind its)

-- `PathBeside R depth old new`, with `depth` nodes of statements
pub data PathBeside (R : ℕ → ℕ → Type 0) : ℕ → List Around → List Around → Type 0 where
  at_top : (field its : ℕ) → PathBeside R zero (around_spot h.Module 0 field ∷ []) (body_path its)
  in_node : {depth field a b : ℕ} {head other : Head} {old new : List Around} →
      is_module_head head ≡ false → SameHead head other → R a b → PathBeside R depth old new →
      PathBeside R (suc depth) (around_spot head a field ∷ old) (around_spot other b field ∷ new)
