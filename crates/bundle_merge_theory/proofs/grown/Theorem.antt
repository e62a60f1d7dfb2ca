-- Theorem of this folder (`statements_called`, `exporting_called`): a module of statements, with
-- or without a list of its own names behind them, can be the call of one function.
-- Used by the crate `bundler_entry`.
use Rattle.std.proofs.Common.{List, [], ◌∷◌, ◌++◌, Some, None, ◌≡◌, append-nil, refl, sym, ap, ◌∙◌, subst, option_map, string_bytes, Option}
use Rattle.std.specs.List.{AllByRecursion, flat_map}
use Rattle.std.specs.declared.vec.Vec.{Vec}
use Rattle.std.specs.declared.alloc.Global.{Global}
use Rattle.bundle_syntax.specs.declared.kind.ExportMetadata.{ExportMetadata}
use Rattle.bundle_syntax.specs.declared.specifier.ExportSpecifier.{ExportSpecifier}
use Rattle.bundle_syntax.specs.declared.specifier.ExportSpecifier.TheVariants as e
use Rattle.bundle_syntax.specs.declared.specifier.ModuleExportName.{ModuleExportName}
use Rattle.bundle_syntax.specs.declared.specifier.ModuleExportName.TheVariants as n
use Rattle.bundle_tree_ast.specs.declared.stmt.Stmt.{Stmt}
use Rattle.bundle_tree_ast.specs.declared.module.ModuleDecl.TheVariants as d
use Rattle.bundle_syntax.specs.declared.piece.Role.TheVariants as r
use Rattle.bundle_syntax.specs.Item as h
use Rattle.bundle_tree_listed.specs.Tree.{option_items, module_export_name_items, export_specifier_items, stmt_items, module_decl_items}
use Rattle.bundle_rules.specs.Declarations.{Reading}
use Rattle.bundle_rules.specs.Callable.{module_with, ExportedName, word, text, Specifier, name_items, specifier_items, IsBack, nothing, exports, CanBeCalled}
use Rattle.bundle_merge_theory.specs.called.Within.{AreIn}
use Rattle.bundle_merge_theory.proofs.called.Seated.{can-be-called}
use Rattle.bundle_scope_names.specs.fit.Sorts.{AStmt}
use Rattle.bundle_scope_names.specs.fit.Fits.{AreEach, ended, next}
use Rattle.bundle_scope_names.proofs.fit.Rows.{last_each}
use Rattle.bundle_merge_theory.proofs.fit.Clearing.{are_in}
use Rattle.bundle_scope_names.proofs.grown.Grown.{stmt_fit}

pub stmts_in_module : (list : List Stmt) → AreIn h.Module (flat_map (stmt_items 0) list)
stmts_in_module list = are_in (last_each (each_stmt list)) h.Module refl refl
  where
    each_stmt : (list : List Stmt) → AreEach AStmt 0 (flat_map (stmt_items 0) list)
    each_stmt [] = ended
    each_stmt (it ∷ rest) = next (stmt_fit 0 it) (each_stmt rest)

-- a list of exports of the module's own names
abbrev pub IsLocal : ExportSpecifier → Type 0
IsLocal (e.ExportNamedSpecifier (n.Ident local) exported) = Unit {0}
IsLocal _ = ⊥

exported_of : Option ModuleExportName → Option ExportedName
exported_of None = None
exported_of (Some (n.Ident it)) = Some (word (string_bytes it.sym) it.ctxt)
exported_of (Some (n.Str it)) = Some (text (string_bytes it.value) (option_map string_bytes it.raw))

exported_items : (it : Option ModuleExportName) →
    option_items (module_export_name_items r.Word 1) it ≡ name_items (exported_of it)
unfolding exported_of
exported_items None = refl
exported_items (Some (n.Ident it)) = refl
exported_items (Some (n.Str it)) = refl

specifiers_of : (list : List ExportSpecifier) → AllByRecursion IsLocal list → List Specifier
specifiers_of [] locals = []
specifiers_of (e.ExportNamedSpecifier (n.Ident local) exported ∷ rest) locals = record { sym = string_bytes local.sym; ctxt = local.ctxt; name = exported_of exported } ∷ specifiers_of rest locals.1
specifiers_of (_ ∷ rest) locals = absurd locals.0

specifiers_same : (list : List ExportSpecifier) (locals : AllByRecursion IsLocal list) →
    flat_map (export_specifier_items r.Reference 0) list ≡
    flat_map specifier_items (specifiers_of list locals)
unfolding specifiers_of
specifiers_same [] locals = refl
specifiers_same (e.ExportNamedSpecifier (n.Ident local) exported ∷ rest) locals =
    ap
    (λ l. (h.Open 0 h.ExportNamedSpecifier ∷ h.Ident 0 (string_bytes local.sym) local.ctxt r.Reference ∷ (l ++ h.Close ∷ [])) ++ flat_map (export_specifier_items r.Reference 0) rest)
    (exported_items exported) ∙ ap
    (λ l. (h.Open 0 h.ExportNamedSpecifier ∷ h.Ident 0 (string_bytes local.sym) local.ctxt r.Reference ∷ (name_items (exported_of exported) ++ h.Close ∷ [])) ++ l)
    (specifiers_same rest locals.1)
specifiers_same (_ ∷ rest) locals = absurd locals.0

pub is_back : (specifiers : Vec ExportSpecifier Global) (meta : ExportMetadata) →
    AllByRecursion IsLocal specifiers.items →
    IsBack (module_decl_items 0 (d.NamedExport specifiers None meta))
is_back specifiers meta locals =
    subst IsBack
    (ap (λ l. h.Open 0 (h.NamedExport meta) ∷ (l ++ h.Close ∷ [])) (sym (specifiers_same specifiers.items locals) ∙ sym (append-nil _)))
    (exports meta (specifiers_of specifiers.items locals))

-- a module of statements, and of statements with a list of its own names behind them, can be called
pub statements_called : (reading : Reading) (list : List Stmt) →
    CanBeCalled reading (module_with (flat_map (stmt_items 0) list) (h.Close ∷ []))
statements_called reading list =
    can-be-called reading (flat_map (stmt_items 0) list) [] (stmts_in_module list) nothing

pub exporting_called : (reading : Reading) (list : List Stmt)
    (specifiers : Vec ExportSpecifier Global) (meta : ExportMetadata) →
    AllByRecursion IsLocal specifiers.items →
    CanBeCalled reading
    (module_with (flat_map (stmt_items 0) list) (module_decl_items 0 (d.NamedExport specifiers None meta) ++ h.Close ∷ []))
exporting_called reading list specifiers meta locals =
    can-be-called reading (flat_map (stmt_items 0) list)
    (module_decl_items 0 (d.NamedExport specifiers None meta)) (stmts_in_module list)
    (is_back specifiers meta locals)
