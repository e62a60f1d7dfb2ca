-- A node in which no name stands stays.
use Rattle.std.proofs.Common.{ℕ, List, [], ◌∷◌, Option, Some, None, refl}
use Rattle.std.specs.List.{flat_map}
use Rattle.bundle_syntax.specs.declared.ident.IdentName as v_ident_name
use Rattle.bundle_syntax.specs.declared.lit.Lit.{Lit}
use Rattle.bundle_syntax.specs.declared.lit.Lit.TheVariants as i_lit
use Rattle.bundle_syntax.specs.declared.lit.Str as v_str
use Rattle.bundle_syntax.specs.declared.lit.TplElement as v_tpl_element
use Rattle.bundle_tree_listed.specs.Tree as k
use Rattle.bundle_tree_places.specs.Edits.{Around, Anywhere}
use Rattle.bundle_tree_rename.specs.Naming.{Naming}
use Rattle.bundle_tree_rename.specs.Renames.{Renames, Nothing, Joined, Inside}

pub lit : {names : List Naming} (it : Lit) (field : ℕ) → Renames Anywhere names (k.lit_items field it) (k.lit_items field it) names
lit (i_lit.Str it) field = Inside field _ refl Nothing
lit (i_lit.Bool value) field = Inside field _ refl Nothing
lit i_lit.Null field = Inside field _ refl Nothing
lit (i_lit.Number it) field = Inside field _ refl Nothing
lit (i_lit.BigInt it) field = Inside field _ refl Nothing
lit (i_lit.Regex it) field = Inside field _ refl Nothing

-- the texts of a template
pub tpl_elements : (around : Around) {names : List Naming} (field : ℕ) (list : List v_tpl_element.TplElement) → Renames around names (flat_map (k.tpl_element_items field) list) (flat_map (k.tpl_element_items field) list) names
tpl_elements around field [] = Nothing
tpl_elements around field (it ∷ list) = Joined (Inside field _ refl Nothing) (tpl_elements around field list)

-- a label, where there is one
pub label : {names : List Naming} (it : Option v_ident_name.IdentName) (field : ℕ) → Renames Anywhere names (k.option_items (k.ident_name_items field) it) (k.option_items (k.ident_name_items field) it) names
label None field = Nothing
label (Some it) field = Inside field _ refl Nothing

-- the module from which, where one is given
pub option_str : {names : List Naming} (it : Option v_str.Str) (field : ℕ) → Renames Anywhere names (k.option_items (k.str_items field) it) (k.option_items (k.str_items field) it) names
option_str None field = Nothing
option_str (Some it) field = Inside field _ refl Nothing
