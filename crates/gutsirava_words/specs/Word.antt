-- What a word is by itself.
use Rattle.std.specs.Prelude.{ℕ, ◌==◌, ◌||◌, ◌+◌, nat_eq, nat_lt, Bool, not, List, length, Option, Some, None, codes, if◌then◌else◌}
use Rattle.std.specs.List.{after_first, before_first, position_or_len, starts_with}
use Rattle.std.specs.Option.{option_map}
use Rattle.std.specs.Str.{bytes_eq}
use Rattle.gutsirava_words.specs.Key.{adds_up, key_named, plain_text}
use Rattle.gutsirava_words.specs.declared.key.Key.{Key}
use Rattle.gutsirava_words.specs.declared.key.Key.TheVariants as keys
use Rattle.gutsirava_words.specs.declared.word.Word.{Word}
use Rattle.gutsirava_words.specs.declared.word.Word.TheVariants as w

-- what is asked for, with the texts that say of what
pub data Meaning : Type 0 where
  Entry : List ℕ → Meaning
  Value : Key → Option (List ℕ) → Meaning
  Help : Meaning
  Version : Meaning
  End : Meaning
  NeedlessValue : List ℕ → Meaning
  Unknown : List ℕ → Meaning

abbrev pub meaning_in : Word → Meaning
meaning_in (w.Entry path) = Entry path.now
meaning_in (w.Value key value) = Value key (option_map (λ it. it.now) value)
meaning_in w.Help = Help
meaning_in w.Version = Version
meaning_in w.End = End
meaning_in (w.NeedlessValue name) = NeedlessValue name.now
meaning_in (w.Unknown name) = Unknown name.now

abbrev pub is_equals : ℕ → Bool
is_equals byte = byte == 61

abbrev pub is_colon : ℕ → Bool
is_colon byte = byte == 58

-- what stands behind the first such byte, if there is one
abbrev pub value_behind : (ℕ → Bool) → List ℕ → Option (List ℕ)
value_behind is_mark text =
    if nat_lt (position_or_len is_mark text) (length text) then Some (after_first is_mark text)
    else None

-- the first of two values that is there
abbrev pub or_else : Option (List ℕ) → Option (List ℕ) → Option (List ℕ)
or_else None other = other
or_else (Some value) other = Some value

-- an option whose uses add up has its value behind a colon too; of any other, the name is unknown
abbrev pub colon_meaning : List ℕ → Option Key → Option (List ℕ) → Meaning
colon_meaning name (Some key) (Some value) =
    if adds_up key then Value key (Some value) else Unknown name
colon_meaning name key None = Unknown name
colon_meaning name None value = Unknown name

-- what a name of an option means, with the value that is joined to it
abbrev pub key_meaning : List ℕ → List ℕ → Option (List ℕ) → Option Key → Meaning
key_meaning text name value (Some key) = Value key (or_else value (plain_text key))
key_meaning text name value None =
    colon_meaning name (key_named (before_first is_colon text)) (value_behind is_colon text)

-- the same, where it may be one that stands for more than itself
abbrev pub name_meaning : List ℕ → List ℕ → Option (List ℕ) → Meaning
name_meaning text name value =
    if bytes_eq name (codes "-o") then Value keys.Outfile value
    else if bytes_eq name (codes "-h") || bytes_eq name (codes "--help")
    then NeedlessValue (codes "--help")
    else if bytes_eq name (codes "--version") then NeedlessValue (codes "--version")
    else key_meaning text name value (key_named name)

-- what an option means: its name stands before the first `=`, and its value behind it
abbrev pub option_meaning : List ℕ → Meaning
option_meaning text =
    name_meaning text (before_first is_equals text) (value_behind is_equals text)

-- whether a word is a file, or the standard input: it begins with no `-`, or is that alone
abbrev pub is_entry : List ℕ → Bool
is_entry text = bytes_eq text (codes "-") || not (starts_with nat_eq text (codes "-"))

-- what a word means
abbrev pub meaning_of : List ℕ → Meaning
meaning_of text =
    if is_entry text then Entry text
    else if bytes_eq text (codes "--") then End
    else if bytes_eq text (codes "-h") || bytes_eq text (codes "--help") then Help
    else if bytes_eq text (codes "--version") then Version
    else option_meaning text
