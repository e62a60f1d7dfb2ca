-- What the text of a bundle is: its list printed, in a frame.
use Rattle.std.specs.Prelude.{◌≡◌, ◌++◌, ◌≤◌, ℕ, Bool, true, false, List, [], ◌∷◌, Option, Some, None, ◌⊎◌, IsTrue, ◌==◌, codes, length, string_bytes, string_len, vec_len}
use Rattle.std.specs.List.{All, list_any}
use Rattle.std.specs.Str.{bytes_eq}
use Rattle.std.specs.declared.alloc.Global.{Global}
use Rattle.std.specs.declared.string.String.{String}
use Rattle.bundle_js_print.specs.declared.print.Printed.{Printed}
use Rattle.bundle_syntax.specs.Item as h
use Rattle.bundle_syntax.specs.Item.{Item}
use Rattle.bundle_tree_ast.specs.declared.module.Module.{Module as Tree}
use Rattle.bundle_tree_listed.specs.Tree.{module_items}
use Rattle.gutsirava_resolve.specs.declared.settings.TargetPlatform.{TargetPlatform}
use Rattle.gutsirava_resolve.specs.declared.settings.TargetPlatform.TheVariants.{Browser}
use Rattle.gutsirava_graph.specs.declared.settings.BundleSettings.{BundleSettings}
use Rattle.gutsirava_graph.specs.declared.settings.OutputFormat.{OutputFormat}
use Rattle.gutsirava_graph.specs.declared.settings.OutputFormat.TheVariants.{Module, Iife}

-- ---- the list that is printed

-- a statement that is an expression begins
abbrev pub IsStatement : Item → Type 0
IsStatement (h.Open field h.ExprStmt) = Unit {0}
IsStatement _ = ⊥

-- a string that stands for a comment begins
abbrev pub IsComment : Item → Type 0
IsComment (h.Open field (h.Str value (Some raw))) = bytes_eq value (0 ∷ codes "comment") ≡ true
IsComment _ = ⊥

-- a list, and the same without some of the statements that stand for comments
pub data LeavesComments : List Item → List Item → Type 0 where
  nothing : LeavesComments [] []
  same : (item : Item) (items left : List Item) → LeavesComments items left →
      LeavesComments (item ∷ items) (item ∷ left)
  comment : (one two three four : Item) (items left : List Item) → IsStatement one →
      IsComment two → LeavesComments items left →
      LeavesComments (one ∷ two ∷ three ∷ four ∷ items) left

-- a comment begins a list, and what stands behind it
pub record BeginsWithComment (items behind : List Item) : Type 0 where
  pub one : Item
  pub two : Item
  pub three : Item
  pub four : Item
  pub whole : items ≡ one ∷ two ∷ three ∷ four ∷ behind
  pub statement : IsStatement one
  pub string : IsComment two

-- the statement `"use strict"`
abbrev pub directive : List Item
directive =
    h.Open 0 h.ExprStmt ∷ h.Open 0 (h.Str (codes "use strict") None) ∷ h.Close ∷ h.Close ∷ []

-- a list, and the same with the statement `"use strict"` at some place
pub record AddsDirective (old new : List Item) : Type 0 where
  pub front : List Item
  pub back : List Item
  pub whole : old ≡ front ++ back
  pub added : new ≡ (front ++ directive) ++ back

-- a print of a list: each item has a place in it
pub record IsPrint (items : List Item) (text : List ℕ) : Type 0 where
  pub printed : Printed
  pub whole : text ≡ string_bytes printed.text
  pub each : vec_len printed.offsets ≡ length items
  pub within : All (λ place. place ≤ string_len printed.text) printed.offsets.items

-- ---- the frame

-- the first line of an entry that names a program, with its end
abbrev pub first_line : Option (List ℕ) → List ℕ
first_line None = []
first_line (Some line) = line ++ 10 ∷ []

-- a text that has grown by one of which something holds
pub record Appends (old new : List ℕ) (P : List ℕ → Type 0) : Type 0 where
  pub more : List ℕ
  pub whole : new ≡ old ++ more
  pub holds : P more

-- a module: the print of its list, and before that what makes Node's words, but not for a browser
pub record IsModuleBody (platform : TargetPlatform) (items : List Item) (body : List ℕ) : Type 0
  where
    pub words : List ℕ
    pub text : List ℕ
    pub whole : body ≡ words ++ text
    pub browser : platform ≡ Browser → words ≡ []
    pub print : IsPrint items text

-- a script that leaves what it gives under a name, `var NAME = CALL;`, where the call is the front
-- of a print. A name with dots has a line for each object that holds the next; of a CommonJS module
-- what it exports is left
pub record IsCall (name : List ℕ) (is_common_js : Bool) (print body : List ℕ) : Type 0 where
  pub owners : List ℕ
  pub call : List ℕ
  pub rest : List ℕ
  pub property : List ℕ
  pub whole : body ≡ ((((owners ++ name) ++ codes " = ") ++ call) ++ property) ++ codes ";\n"
  pub front : print ≡ call ++ rest
  pub declared : IsTrue (list_any (λ byte. byte == 46) name) ⊎ (owners ≡ codes "var ")
  pub plain : is_common_js ≡ false → property ≡ []
  pub exported : is_common_js ≡ true
      → (property ≡ codes ".default") ⊎ (property ≡ codes ".then((exports) => exports.default)")

-- a print as it is, or in the call under a name
abbrev pub IsNamed : Option (String Global) → Bool → List ℕ → List ℕ → Type 0
IsNamed None is_common_js print body = body ≡ print
IsNamed (Some name) is_common_js print body = IsCall (string_bytes name) is_common_js print body

-- a script: the print of its list, which the call under a name may be round
pub record IsScriptBody (name : Option (String Global)) (is_common_js : Bool)
    (items : List Item) (body : List ℕ) : Type 0 where
  pub text : List ℕ
  pub print : IsPrint items text
  pub named : IsNamed name is_common_js text body

-- a script in strict code
pub record IsStrictBody (name : Option (String Global)) (is_common_js : Bool)
    (items : List Item) (body : List ℕ) : Type 0 where
  pub strict : List Item
  pub adds : (strict ≡ items) ⊎ AddsDirective items strict
  pub script : IsScriptBody name is_common_js strict body

abbrev pub IsBodyIn : OutputFormat → BundleSettings → Bool → List Item → List ℕ → Type 0
IsBodyIn Module settings is_common_js items body = IsModuleBody settings.platform items body
IsBodyIn Iife settings is_common_js items body =
    IsStrictBody settings.global_name is_common_js items body

-- all of a bundle's text but the first line
abbrev pub IsBody : BundleSettings → Bool → List Item → List ℕ → Type 0
IsBody settings is_common_js items body = IsBodyIn settings.format settings is_common_js items body

-- ---- the text

-- the text of a bundle of a tree, behind this first line
pub record IsFramed (hashbang : Option (List ℕ)) (is_common_js : Bool)
    (settings : BundleSettings) (tree : Tree) (text : List ℕ) : Type 0 where
  pub items : List Item
  pub left : LeavesComments (module_items 0 tree) items
  pub framed : Appends (first_line hashbang) text (IsBody settings is_common_js items)

-- the text of a bundle of a tree, for some entry
pub record IsBundleText (settings : BundleSettings) (tree : Tree) (text : List ℕ) : Type 0 where
  pub hashbang : Option (List ℕ)
  pub is_common_js : Bool
  pub framed : IsFramed hashbang is_common_js settings tree text
