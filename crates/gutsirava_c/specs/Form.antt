-- What is replied to a text of JavaScript, and to the JSON form of a tree.
use Rattle.std.specs.Prelude.{◌≡◌, ◌≤◌, ◌+◌, ◌⊎◌, ℕ, List, ◌++◌, Some, IsUtf8, codes, decimal, length}
use Rattle.json.specs.Json.{Json, document}
use Rattle.bundle_syntax.specs.Item.{Item}
use Rattle.bundle_json_form.specs.Form.{top, IsForm}
use Rattle.bundle_json_form.specs.Plain.{plain}
use Rattle.bundle_json_document.specs.Document.{no_document_notes}
use Rattle.bundle_tree_names.specs.declared.error.Error.TheVariants.{OutOfMemory}
use Rattle.gutsirava_c.specs.Refusal.{refusal_text}

-- the line that says what is wrong in a text, and at which line and column of it, both from 1 on
pub record IsErrorLine (text answer : List ℕ) : Type 0 where
  pub line : ℕ
  pub column : ℕ
  pub why : List ℕ
  pub is : answer ≡ codes "error " ++ (decimal line ++ (codes ":" ++ (decimal column
      ++ (codes ": " ++ (why ++ codes "\n")))))
  pub counted : (1 ≤ line) × (1 ≤ column)
  pub within : line + column ≤ length text + 2

-- the status 0, and then the source is UTF-8; or 1 and the line of what is wrong, or of want of
-- memory
abbrev pub IsFormReply : List ℕ → ℕ → List ℕ → Type 0
IsFormReply source status answer =
    ((status ≡ 0) × IsUtf8 source)
    ⊎ ((status ≡ 1) × (IsErrorLine source answer ⊎ (answer ≡ refusal_text OutOfMemory)))

-- the text is JSON, and its value is the form of the tree whose list is `items`
pub record IsFormOf (items : List Item) (text : List ℕ) : Type 0 where
  pub utf8 : IsUtf8 text
  pub value : Json
  pub is_read : document text ≡ Some value
  pub is_form : IsForm no_document_notes top (plain value) items

-- the text is the form of a tree
abbrev pub HasList : List ℕ → Type 0
HasList text = (items : List Item) × IsFormOf items text

-- the text is the form of no tree
abbrev pub HasNoList : List ℕ → Type 0
HasNoList text = (items : List Item) → ¬ IsFormOf items text

-- the status 0, and then the form is that of a tree; or 2 and a line, and then it is that of none;
-- or 1 and the line of want of memory
abbrev pub IsTextReply : List ℕ → ℕ → List ℕ → Type 0
IsTextReply form status answer =
    ((status ≡ 0) × HasList form)
    ⊎ ((status ≡ 1) × (answer ≡ refusal_text OutOfMemory))
    ⊎ ((status ≡ 2) × HasNoList form × (answer ≡ codes "error: document\n"))
