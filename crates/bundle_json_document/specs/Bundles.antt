-- The JSON text of bundles.
use Rattle.std.specs.Prelude.{◌≡◌, ℕ, List, [], ◌++◌, codes, decimal}
use Rattle.std.specs.List.{AllZip}
use Rattle.std.specs.String.{string_bytes}
use Rattle.serde_json.specs.Data.{Data, string, array, object, member, no_members}
use Rattle.serde_json.specs.View.{items_of}
use Rattle.serde_json.specs.Written.{compact_text}
use Rattle.bundle_tree_listed.specs.Tree.{module_items}
use Rattle.bundle_json_form.specs.Form.{Tree, tree_items, written, IsLaidOut}
use Rattle.bundler_call.specs.declared.bundle.Bundle.{Bundle}
use Rattle.bundler_call.specs.declared.bundle.BundleKind.{BundleKind}
use Rattle.bundler_call.specs.declared.bundle.BundleKind.TheVariants.{Named, Dynamic, Lib}

-- the name of a bundle; what a call of `import` loads has none
abbrev pub bundle_name : BundleKind → List ℕ
bundle_name (Named name) = string_bytes name
bundle_name Dynamic = []
bundle_name (Lib name) = string_bytes name

-- the object of a bundle whose module has this form: the decimal digits of its number, its kind,
-- the form and its name
abbrev pub object_of : Bundle → Data → Data
object_of bundle form =
    object (member (codes "id") (string (decimal bundle.id))
    (member (codes "kind") (string (codes "Named"))
    (member (codes "module") form
    (member (codes "name") (string (bundle_name bundle.kind)) no_members))))

-- the module of a bundle is this tree
abbrev pub IsTreeOf : Bundle → Tree → Type 0
IsTreeOf bundle it = (module_items 0 bundle.module ≡ tree_items 0 it) × IsLaidOut it

-- `d` is the object of a bundle, with the form of its module
abbrev pub IsObjectOf : Bundle → Data → Type 0
IsObjectOf bundle d = (it : Tree) × IsTreeOf bundle it × (d ≡ object_of bundle (written it))

-- the text is the compact one of the array with the objects of these bundles, in their order
abbrev pub IsBundlesText : List Bundle → List ℕ → Type 0
IsBundlesText bundles text =
    (objects : List Data) × AllZip IsObjectOf bundles objects
    × (text ≡ compact_text (array (items_of objects)))

-- behind the old text stands that of the object of a bundle
abbrev pub AppendsBundle : Bundle → List ℕ → List ℕ → Type 0
AppendsBundle bundle old new =
    (it : Tree) → IsTreeOf bundle it → new ≡ old ++ compact_text (object_of bundle (written it))
