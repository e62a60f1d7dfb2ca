-- What is told of a refusal: its line, and where it lies.
use Rattle.std.specs.Prelude.{ℕ, List, ◌++◌, Option, Some, None, codes, string_bytes}
use Rattle.serde_json.specs.Data.{Data, null, string, object, member, no_members}
use Rattle.serde_json.specs.Written.{compact_text}
use Rattle.bundle_tree_names.specs.FileName.{name_of, text_of}
use Rattle.bundle_tree_names.specs.declared.error.Error.{Error}
use Rattle.bundle_tree_names.specs.declared.error.Error.TheVariants.{Load, Resolve, Hook, TooManyModules, ContextsUsedUp, DoubledDeclaration, DoubledExport, UndeclaredExport, MissingExport, AmbiguousExport, ExternalStarOnly, StarOfCommonJs, NamespaceOverExternalStar, With, RequiredEsModule, RequiredEntry, AwaitInCommonJs, DoubledEntry, ExternalUnderIife, ArgumentsUnderIife, OutOfMemory}
use Rattle.bundle_json_document.specs.Answer.{line_of}

-- the path of the file that a refusal means; want of memory means none
abbrev pub file_in : Error → Option (List ℕ)
file_in (Load file) = Some (text_of (name_of file))
file_in (Resolve file specifier) = Some (text_of (name_of file))
file_in (Hook file) = Some (text_of (name_of file))
file_in (TooManyModules file) = Some (text_of (name_of file))
file_in (ContextsUsedUp file) = Some (text_of (name_of file))
file_in (DoubledDeclaration file name) = Some (text_of (name_of file))
file_in (DoubledExport file name) = Some (text_of (name_of file))
file_in (UndeclaredExport file name) = Some (text_of (name_of file))
file_in (MissingExport file name) = Some (text_of (name_of file))
file_in (AmbiguousExport file name) = Some (text_of (name_of file))
file_in (ExternalStarOnly file name) = Some (text_of (name_of file))
file_in (StarOfCommonJs file specifier) = Some (text_of (name_of file))
file_in (NamespaceOverExternalStar file) = Some (text_of (name_of file))
file_in (With file) = Some (text_of (name_of file))
file_in (RequiredEsModule file specifier) = Some (text_of (name_of file))
file_in (RequiredEntry file specifier) = Some (text_of (name_of file))
file_in (AwaitInCommonJs file) = Some (text_of (name_of file))
file_in (DoubledEntry file name) = Some (text_of (name_of file))
file_in (ExternalUnderIife file specifier) = Some (text_of (name_of file))
file_in (ArgumentsUnderIife file) = Some (text_of (name_of file))
file_in OutOfMemory = None

-- the name or the specifier that a refusal means, if it means one
abbrev pub word_in : Error → Option (List ℕ)
word_in (Load file) = None
word_in (Resolve file specifier) = Some (string_bytes specifier)
word_in (Hook file) = None
word_in (TooManyModules file) = None
word_in (ContextsUsedUp file) = None
word_in (DoubledDeclaration file name) = Some (string_bytes name)
word_in (DoubledExport file name) = Some (string_bytes name)
word_in (UndeclaredExport file name) = Some (string_bytes name)
word_in (MissingExport file name) = Some (string_bytes name)
word_in (AmbiguousExport file name) = Some (string_bytes name)
word_in (ExternalStarOnly file name) = Some (string_bytes name)
word_in (StarOfCommonJs file specifier) = Some (string_bytes specifier)
word_in (NamespaceOverExternalStar file) = None
word_in (With file) = None
word_in (RequiredEsModule file specifier) = Some (string_bytes specifier)
word_in (RequiredEntry file specifier) = Some (string_bytes specifier)
word_in (AwaitInCommonJs file) = None
word_in (DoubledEntry file name) = Some (string_bytes name)
word_in (ExternalUnderIife file specifier) = Some (string_bytes specifier)
word_in (ArgumentsUnderIife file) = None
word_in OutOfMemory = None

-- a text, or `null` for none
abbrev pub text_or_null : Option (List ℕ) → Data
text_or_null None = null
text_or_null (Some text) = string text

-- where a refusal lies, as a JSON object
abbrev pub place_of : Error → Data
place_of refusal =
    object (member (codes "file") (text_or_null (file_in refusal))
    (member (codes "name") (text_or_null (word_in refusal)) no_members))

-- the line of a refusal, and a line that says where it lies
abbrev pub refusal_text : Error → List ℕ
refusal_text refusal = line_of refusal ++ compact_text (place_of refusal) ++ codes "\n"
