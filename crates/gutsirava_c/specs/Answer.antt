-- The answer to an input, and how it is handed over.
use Rattle.std.specs.Prelude.{◌≡◌, ◌<◌, ◌≤◌, ◌⊎◌, ℕ, List, [], ◌++◌, Some, IsUtf8, codes, drop, length}
use Rattle.bundle_tree_names.specs.declared.error.Error.{Error}
use Rattle.bundle_tree_names.specs.declared.error.Error.TheVariants.{OutOfMemory}
use Rattle.bundle_json_document.specs.Document.{IsNoDocumentText}
use Rattle.bundle_json_document.specs.Program.{AnswersInput, RefusesInput}
use Rattle.gutsirava_c.specs.Refusal.{refusal_text}

-- the text of the bundles that the document in the input asks for, with a line feed behind it
pub record IsBundlesAnswer (input answer : List ℕ) : Type 0 where
  pub text : List ℕ
  pub is_right : AnswersInput (Some input) (Some []) text
  pub is_whole : answer ≡ text ++ codes "\n"

-- what is told of a refusal of these bundles that is right, or of want of memory
pub record IsRefusalAnswer (input answer : List ℕ) : Type 0 where
  pub refusal : Error
  pub is_right : (refusal ≡ OutOfMemory) ⊎ RefusesInput (Some input) (Some []) refusal
  pub is_told : answer ≡ refusal_text refusal

-- the line of an input that is no document
pub record IsNoDocumentAnswer (input answer : List ℕ) : Type 0 where
  pub no_document : IsNoDocumentText input
  pub is_line : answer ≡ codes "error: document\n"

-- the status of the answer to this input, and its text
abbrev pub IsAnswer : List ℕ → ℕ → List ℕ → Type 0
IsAnswer input status answer =
    ((status ≡ 0) × IsBundlesAnswer input answer)
    ⊎ ((status ≡ 1) × IsRefusalAnswer input answer)
    ⊎ ((status ≡ 2) × IsNoDocumentAnswer input answer)

-- the answer is UTF-8. Where the room is wide enough it stands at its front, and its status is the
-- result; else the result is 3, and the room is as it was. `written` is the answer's length
pub record IsHandedOver (status : ℕ) (answer : List ℕ) (result written : ℕ)
    (old new : List ℕ) : Type 0 where
  pub utf8 : IsUtf8 answer
  pub counted : written ≡ length answer
  pub status_of : length answer ≤ length old → result ≡ status
  pub stands : length answer ≤ length old → new ≡ answer ++ drop (length answer) old
  pub no_room : length old < length answer → (result ≡ 3) × (new ≡ old)
