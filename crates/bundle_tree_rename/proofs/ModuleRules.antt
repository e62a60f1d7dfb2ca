-- What a module imports and exports is renamed in its parts.
use Rattle.std.proofs.Common.{◌≡◌, ℕ, Bool, true, false, List, [], ◌∷◌, ◌++◌, Option, Some, None, sym, subst, refl, ap, ◌∙◌, string_bytes, drop, if◌then◌else◌}
use Rattle.bundle_syntax.specs.declared.ident.Ident as v_ident
use Rattle.bundle_syntax.specs.declared.lit.Str as v_str
use Rattle.bundle_syntax.specs.declared.specifier.ModuleExportName.{ModuleExportName}
use Rattle.bundle_syntax.specs.declared.specifier.ModuleExportName.TheVariants as i_name
use Rattle.bundle_syntax.specs.declared.specifier.ImportSpecifier.TheVariants as i_import
use Rattle.bundle_syntax.specs.declared.specifier.ExportSpecifier.TheVariants as i_export
use Rattle.bundle_tree_ast.specs.declared.module.Module as v_module
use Rattle.bundle_tree_ast.specs.declared.module.ModuleItem.TheVariants as i_item
use Rattle.bundle_tree_ast.specs.declared.module.ModuleDecl.TheVariants as i_decl
use Rattle.bundle_tree_ast.specs.declared.module.DefaultDecl.TheVariants as i_default
use Rattle.bundle_syntax.specs.declared.piece.Role.{Role}
use Rattle.bundle_syntax.specs.declared.piece.Role.TheVariants as r
use Rattle.bundle_syntax.specs.Item as h
use Rattle.bundle_syntax.specs.Item.{Item}
use Rattle.bundle_tree_listed.specs.Tree as k
use Rattle.bundle_rules.specs.Rebuilds.{Change, spells_out}
use Rattle.bundle_tree_places.specs.Edits.{Around, Anywhere, InSpecifier, is_occurrence, is_plain, renamed, in_its_place}
use Rattle.bundle_tree_rename.specs.Renames.{Renames, Nothing, Joined, Word, Name, Inside}
use Rattle.bundle_tree_rename.specs.Naming.{Naming, next}
use Rattle.bundle_tree_rename.specs.Renamed.{Renamed, Takes}
use Rattle.bundle_tree_rename.specs.Parts as p
use Rattle.bundle_tree_rename.proofs.Leaves as leaf
use Rattle.bundle_tree_rename.proofs.Lists.{named}

pub item-ModuleDecl : {a b : List Naming} {it it' : _} → Renamed Anywhere k.module_decl_items a it it' b → Renamed Anywhere k.module_item_items a (i_item.ModuleDecl it) (i_item.ModuleDecl it') b
item-ModuleDecl one = record { in_field = λ field. one.in_field field }

pub item-Stmt : {a b : List Naming} {it it' : _} → Renamed Anywhere k.stmt_items a it it' b → Renamed Anywhere k.module_item_items a (i_item.Stmt it) (i_item.Stmt it') b
item-Stmt one = record { in_field = λ field. one.in_field field }

pub default-ClassExpr : {a b d : List Naming} {ident ident' class class' : _} → Renamed Anywhere p.option_ident_items a ident ident' b → Renamed Anywhere k.class_items b class class' d → Renamed Anywhere k.default_decl_items a (i_default.ClassExpr ident class) (i_default.ClassExpr ident' class') d
default-ClassExpr one two = record { in_field = λ field. Inside field _ refl (Joined (one.in_field 0) (two.in_field 1)) }

pub default-FnExpr : {a b d : List Naming} {ident ident' function function' : _} → Renamed Anywhere p.option_ident_items a ident ident' b → Renamed Anywhere k.function_items b function function' d → Renamed Anywhere k.default_decl_items a (i_default.FnExpr ident function) (i_default.FnExpr ident' function') d
default-FnExpr one two = record { in_field = λ field. Inside field _ refl (Joined (one.in_field 0) (two.in_field 1)) }

pub decl-ImportDecl : {a b : List Naming} {specifiers specifiers' src meta : _} → Renamed Anywhere p.each_import_specifier_items a specifiers specifiers' b → Renamed Anywhere k.module_decl_items a (i_decl.ImportDecl specifiers src meta) (i_decl.ImportDecl specifiers' src meta) b
decl-ImportDecl one = record { in_field = λ field. Inside field _ refl (Joined (one.in_field 0) (Inside 1 _ refl Nothing)) }

pub decl-ExportDecl : {a b : List Naming} {it it' : _} → Renamed Anywhere k.decl_items a it it' b → Renamed Anywhere k.module_decl_items a (i_decl.ExportDecl it) (i_decl.ExportDecl it') b
decl-ExportDecl one = record { in_field = λ field. Inside field _ refl (one.in_field 0) }

-- the names of the list are read by the role that `from` gives them
pub decl-NamedExport : {a b : List Naming} {specifiers specifiers' src meta : _} (role : Role) → role ≡ k.role_of_names src → Renamed Anywhere (p.each_export_specifier_items role) a specifiers specifiers' b → Renamed Anywhere k.module_decl_items a (i_decl.NamedExport specifiers src meta) (i_decl.NamedExport specifiers' src meta) b
decl-NamedExport {a = a} {b = b} {specifiers = specifiers} {specifiers' = specifiers'} {src = src} role is one = record {
  in_field = λ field.
      Inside field _ refl (Joined (subst (λ it. Renames Anywhere a (p.each_export_specifier_items it 0 specifiers) (p.each_export_specifier_items it 0 specifiers') b) is (one.in_field 0)) (leaf.option_str src 1));
}

pub decl-ExportDefaultDecl : {a b : List Naming} {it it' : _} → Renamed Anywhere k.default_decl_items a it it' b → Renamed Anywhere k.module_decl_items a (i_decl.ExportDefaultDecl it) (i_decl.ExportDefaultDecl it') b
decl-ExportDefaultDecl one = record { in_field = λ field. Inside field _ refl (one.in_field 0) }

pub decl-ExportDefaultExpr : {a b : List Naming} {it it' : _} → Renamed Anywhere k.expr_items a it it' b → Renamed Anywhere k.module_decl_items a (i_decl.ExportDefaultExpr it) (i_decl.ExportDefaultExpr it') b
decl-ExportDefaultExpr one = record { in_field = λ field. Inside field _ refl (one.in_field 0) }

pub decl-ExportAll : {a : List Naming} {src meta : _} → Renamed Anywhere k.module_decl_items a (i_decl.ExportAll src meta) (i_decl.ExportAll src meta) a
decl-ExportAll = record { in_field = λ field. Inside field _ refl (Inside 0 _ refl Nothing) }

-- imports of the default and of all
pub import-Default : {a b : List Naming} {local local' : v_ident.Ident} → Takes a local local' b → Renamed Anywhere k.import_specifier_items a (i_import.ImportDefaultSpecifier local) (i_import.ImportDefaultSpecifier local') b
import-Default one = record { in_field = λ field. Inside field _ refl ((named one r.Binding refl).in_field 0) }

pub import-Star : {a b : List Naming} {local local' : v_ident.Ident} → Takes a local local' b → Renamed Anywhere k.import_specifier_items a (i_import.ImportStarAsSpecifier local) (i_import.ImportStarAsSpecifier local') b
import-Star one = record { in_field = λ field. Inside field _ refl ((named one r.Binding refl).in_field 0) }

-- the only name of a specifier, with the second name that it gets or not
both : (s : Bool) (change : Option Change) (role : Role) (local : v_ident.Ident) → (if s then renamed change 0 (string_bytes local.sym) local.ctxt role ∷ h.Ident 1 (string_bytes local.sym) 0 r.Word ∷ [] else renamed change 0 (string_bytes local.sym) local.ctxt role ∷ []) ≡ (renamed change 0 (string_bytes local.sym) local.ctxt role ∷ []) ++ p.second_name_items None s local
both true change role local = refl
both false change role local = refl

alone : {a b : List Naming} {local local' : v_ident.Ident} {made : List Item} (role : Role) → is_occurrence role ≡ true → Takes a local local' b → made ≡ p.second_name_items None (spells_out (next a (string_bytes local.sym) local.ctxt)) local → Renames InSpecifier a (k.ident_items role 0 local) (k.ident_items role 0 local' ++ made) b
alone {a = a} {b = b} {local = local} {local' = local'} {made = made} role occurs taken made_is =
    let name : List Item = renamed (next a (string_bytes local.sym) local.ctxt) 0 (string_bytes local.sym) local.ctxt role ∷ [] in
    let place : in_its_place InSpecifier (next a (string_bytes local.sym) local.ctxt) 0 (string_bytes local.sym) local.ctxt role ≡ name ++ made = both (spells_out (next a (string_bytes local.sym) local.ctxt)) (next a (string_bytes local.sym) local.ctxt) role local ∙ ap (λ list. name ++ list) (sym made_is) in
    let whole : in_its_place InSpecifier (next a (string_bytes local.sym) local.ctxt) 0 (string_bytes local.sym) local.ctxt role ≡ k.ident_items role 0 local' ++ made = place ∙ ap (λ list. list ++ made) (sym (taken.renamed_is 0 role)) in
    subst (λ left. Renames InSpecifier a (k.ident_items role 0 local) (k.ident_items role 0 local' ++ made) left) (sym taken.rest_is)
    (subst (λ list. Renames InSpecifier a (k.ident_items role 0 local) list (drop 1 a)) whole (Name InSpecifier 0 (string_bytes local.sym) local.ctxt role occurs))

-- words stay, wherever they stand
pub words_stay : (around : Around) {a : List Naming} (field : ℕ) (name : ModuleExportName) → Renames around a (p.word_items field name) (p.word_items field name) a
words_stay around field (i_name.Ident it) = Word field (string_bytes it.sym) it.ctxt r.Word refl
words_stay around field (i_name.Str it) = Inside field _ refl Nothing

words_so : (around : Around) {a : List Naming} {made : List Item} (field : ℕ) (name : ModuleExportName) → made ≡ p.word_items field name → Renames around a (p.word_items field name) made a
words_so around {a = a} field name same = subst (λ list. Renames around a (p.word_items field name) list a) (sym same) (words_stay around field name)

-- an import of a name
pub import-Named : {a b : List Naming} {local local' : v_ident.Ident} {made : Option ModuleExportName} (imported : Option ModuleExportName) → Takes a local local' b → p.option_word_items 1 made ≡ p.second_name_items imported (spells_out (next a (string_bytes local.sym) local.ctxt)) local → Renamed Anywhere k.import_specifier_items a (i_import.ImportNamedSpecifier local imported) (i_import.ImportNamedSpecifier local' made) b
import-Named None taken made_is = record { in_field = λ field. Inside field h.ImportNamedSpecifier refl (alone r.Binding refl taken made_is) }
import-Named (Some (i_name.Ident it)) taken made_is = record { in_field = λ field. Inside field h.ImportNamedSpecifier refl (Joined ((named taken r.Binding refl).in_field 0) (words_so Anywhere 1 (i_name.Ident it) made_is)) }
import-Named (Some (i_name.Str it)) taken made_is = record { in_field = λ field. Inside field h.ImportNamedSpecifier refl (Joined ((named taken r.Binding refl).in_field 0) (words_so Anywhere 1 (i_name.Str it) made_is)) }

-- an export of a name of this module
pub export-Occurrence : {a b : List Naming} {local local' : v_ident.Ident} {made : Option ModuleExportName} (exported : Option ModuleExportName) → Takes a local local' b → p.option_word_items 1 made ≡ p.second_name_items exported (spells_out (next a (string_bytes local.sym) local.ctxt)) local → Renamed Anywhere (k.export_specifier_items r.Reference) a (i_export.ExportNamedSpecifier (i_name.Ident local) exported) (i_export.ExportNamedSpecifier (i_name.Ident local') made) b
export-Occurrence None taken made_is = record { in_field = λ field. Inside field h.ExportNamedSpecifier refl (alone r.Reference refl taken made_is) }
export-Occurrence (Some (i_name.Ident it)) taken made_is = record { in_field = λ field. Inside field h.ExportNamedSpecifier refl (Joined ((named taken r.Reference refl).in_field 0) (words_so Anywhere 1 (i_name.Ident it) made_is)) }
export-Occurrence (Some (i_name.Str it)) taken made_is = record { in_field = λ field. Inside field h.ExportNamedSpecifier refl (Joined ((named taken r.Reference refl).in_field 0) (words_so Anywhere 1 (i_name.Str it) made_is)) }

-- an export of a name of another module
word_export : {a : List Naming} (it : v_ident.Ident) (exported : Option ModuleExportName) (field : ℕ) → Renames Anywhere a (k.export_specifier_items r.Word field (i_export.ExportNamedSpecifier (i_name.Ident it) exported)) (k.export_specifier_items r.Word field (i_export.ExportNamedSpecifier (i_name.Ident it) exported)) a
word_export it None field = Inside field h.ExportNamedSpecifier refl (Joined (words_stay InSpecifier 0 (i_name.Ident it)) Nothing)
word_export it (Some (i_name.Ident w)) field = Inside field h.ExportNamedSpecifier refl (Joined (words_stay Anywhere 0 (i_name.Ident it)) (words_stay Anywhere 1 (i_name.Ident w)))
word_export it (Some (i_name.Str w)) field = Inside field h.ExportNamedSpecifier refl (Joined (words_stay Anywhere 0 (i_name.Ident it)) (words_stay Anywhere 1 (i_name.Str w)))

pub export-Word : {a : List Naming} {it : v_ident.Ident} {exported : Option ModuleExportName} → Renamed Anywhere (k.export_specifier_items r.Word) a (i_export.ExportNamedSpecifier (i_name.Ident it) exported) (i_export.ExportNamedSpecifier (i_name.Ident it) exported) a
export-Word {it = it} {exported = exported} = record { in_field = word_export it exported }

-- the other name stays
option_words : {a : List Naming} (choice : Option ModuleExportName) → Renames Anywhere a (p.option_word_items 1 choice) (p.option_word_items 1 choice) a
option_words None = Nothing
option_words (Some it) = words_stay Anywhere 1 it

-- a specifier whose first name is a string ends in no occurrence
str_is_plain : (it : v_str.Str) (exported : Option ModuleExportName) → is_plain h.ExportNamedSpecifier (k.str_items 0 it ++ p.option_word_items 1 exported) ≡ true
str_is_plain it None = refl
str_is_plain it (Some (i_name.Ident w)) = refl
str_is_plain it (Some (i_name.Str w)) = refl

pub export-Str : {a : List Naming} {it : v_str.Str} (role : Role) (exported : Option ModuleExportName) → Renamed Anywhere (k.export_specifier_items role) a (i_export.ExportNamedSpecifier (i_name.Str it) exported) (i_export.ExportNamedSpecifier (i_name.Str it) exported) a
export-Str {it = it} role exported = record { in_field = λ field. Inside field h.ExportNamedSpecifier (str_is_plain it exported) (Joined (Inside 0 _ refl Nothing) (option_words exported)) }

pub export-Namespace : {a : List Naming} (role : Role) (name : ModuleExportName) → Renamed Anywhere (k.export_specifier_items role) a (i_export.ExportNamespaceSpecifier name) (i_export.ExportNamespaceSpecifier name) a
export-Namespace role name = record { in_field = λ field. Inside field h.ExportNamespaceSpecifier refl (words_stay Anywhere 0 name) }

-- a module has its items
pub module_renamed : {names rest : List Naming} {old new : v_module.Module} → Renamed Anywhere p.each_module_item_items names old.body new.body rest → Renamed Anywhere k.module_items names old new rest
module_renamed one = record { in_field = λ field. Inside field h.Module refl (one.in_field 0) }

-- the export of a name, by what its role is
pub in_role : {a b : List Naming} {old new : _} (own : Bool) {role : Role} → p.role_of own ≡ role → Renamed Anywhere (k.export_specifier_items role) a old new b → Renamed Anywhere (k.export_specifier_items (p.role_of own)) a old new b
in_role {a = a} {b = b} {old = old} {new = new} own is one = subst (λ role. Renamed Anywhere (k.export_specifier_items role) a old new b) (sym is) one
