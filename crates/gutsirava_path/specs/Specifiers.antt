-- What a specifier asks for, by its text.
use Rattle.std.specs.Prelude.{◌+◌, ◌==◌, ◌||◌, ◌&&◌, ℕ, nat_eq, nat_le, nat_lt, Bool, true, false, List, [], ◌∷◌, length, map, drop, take, codes, if◌then◌else◌}
use Rattle.std.specs.Char.{to_ascii_lowercase}
use Rattle.std.specs.List.{after_first, before_first, list_all, list_any, position_or_len, starts_with}
use Rattle.std.specs.Str.{bytes_eq}
use Rattle.gutsirava_path.specs.Normal.{up}
use Rattle.gutsirava_path.specs.Places.{is_slash}
use Rattle.gutsirava_path.specs.declared.specifier.Loader.{Loader}
use Rattle.gutsirava_path.specs.declared.specifier.Loader.TheVariants.{EcmaScript, CommonJs}
use Rattle.gutsirava_path.specs.declared.specifier.Specifier.{Specifier}
use Rattle.gutsirava_path.specs.declared.specifier.Specifier.TheVariants as s
use Rattle.gutsirava_path.specs.declared.specifier.TheConstants.{BUILTINS, PREFIXED_BUILTINS}

-- what is asked for, with the text that says which
pub data Meaning : Type 0 where
  Relative : List ℕ → Meaning
  Absolute : List ℕ → Meaning
  File : List ℕ → Meaning
  Internal : List ℕ → Meaning
  Builtin : List ℕ → Meaning
  UnknownBuiltin : List ℕ → Meaning
  Url : List ℕ → Meaning
  Bare : List ℕ → Meaning
  Remote : List ℕ → Meaning
  Empty : Meaning

abbrev pub meaning_in : Specifier → Meaning
meaning_in (s.Relative text) = Relative text.now
meaning_in (s.Absolute text) = Absolute text.now
meaning_in (s.File text) = File text.now
meaning_in (s.Internal text) = Internal text.now
meaning_in (s.Builtin text) = Builtin text.now
meaning_in (s.UnknownBuiltin text) = UnknownBuiltin text.now
meaning_in (s.Url text) = Url text.now
meaning_in (s.Bare text) = Bare text.now
meaning_in (s.Remote text) = Remote text.now
meaning_in s.Empty = Empty

abbrev pub is_module : Loader → Bool
is_module EcmaScript = true
is_module CommonJs = false

-- whether Node has a module of this name, with `node:` in front or not; with it alone
unfoldable pub is_builtin : List ℕ → Bool
is_builtin name = list_any (λ it. bytes_eq it.now name) BUILTINS

unfoldable pub is_prefixed_builtin : List ℕ → Bool
is_prefixed_builtin name = list_any (λ it. bytes_eq it.now name) PREFIXED_BUILTINS

-- whether the first part of a text, up to a `/`, is `.` or `..`
abbrev pub is_relative : List ℕ → Bool
is_relative text =
    bytes_eq (before_first is_slash text) (codes ".") || bytes_eq (before_first is_slash text) up

abbrev pub is_between : ℕ → ℕ → ℕ → Bool
is_between low high byte = nat_le low byte && nat_le byte high

abbrev pub is_letter : ℕ → Bool
is_letter byte = is_between 97 122 byte || is_between 65 90 byte

-- a letter, a digit, `+`, `-` or `.`
abbrev pub is_scheme_byte : ℕ → Bool
is_scheme_byte byte =
    is_letter byte || is_between 48 57 byte || (byte == 43) || (byte == 45) || (byte == 46)

abbrev pub is_colon : ℕ → Bool
is_colon byte = byte == 58

-- a letter, and bytes of a scheme
abbrev pub is_scheme : List ℕ → Bool
is_scheme [] = false
is_scheme (byte ∷ bytes) = is_letter byte && list_all is_scheme_byte bytes

-- whether a scheme and `:` begin a text
abbrev pub has_scheme : List ℕ → Bool
has_scheme text =
    nat_lt (position_or_len is_colon text) (length text) && is_scheme (before_first is_colon text)

-- what a name behind `node:` means
abbrev pub node_meaning : List ℕ → Meaning
node_meaning name =
    if is_builtin name || is_prefixed_builtin name then Builtin name else UnknownBuiltin name

-- what stands behind the name of this machine
abbrev pub unhosted : List ℕ → List ℕ
unhosted rest = if starts_with nat_eq rest (codes "localhost") then drop 9 rest else rest

-- the path of the address of a file, by what stands behind its scheme
abbrev pub file_path : List ℕ → List ℕ
file_path rest = if starts_with nat_eq rest (codes "//") then unhosted (drop 2 rest) else rest

-- what the address of a file means: where its path does not begin with `/`, it has another host
abbrev pub file_meaning : List ℕ → List ℕ → Meaning
file_meaning text rest =
    if starts_with nat_eq (file_path rest) (codes "/") then File (file_path rest) else Remote text

-- whether the scheme of an address is this word
abbrev pub has_word : List ℕ → List ℕ → Bool
has_word text word =
    bytes_eq (map to_ascii_lowercase (before_first is_colon text)) (map to_ascii_lowercase word)

-- what an address means
abbrev pub address_meaning : List ℕ → Meaning
address_meaning text =
    if has_word text (codes "node") then node_meaning (after_first is_colon text)
    else if has_word text (codes "file") then file_meaning text (after_first is_colon text)
    else Url text

-- what the name of a module, or an address, means
abbrev pub named_meaning : Loader → List ℕ → Meaning
named_meaning loader text =
    if starts_with nat_eq text (codes "node:") then node_meaning (drop 5 text)
    else if is_builtin text then Builtin text
    else if is_module loader && has_scheme text then address_meaning text
    else Bare text

-- what a specifier means
abbrev pub meaning_of : Loader → List ℕ → Meaning
meaning_of loader text =
    if length text == 0 then Empty
    else if is_module loader && starts_with nat_eq text (codes "//") then Remote text
    else if starts_with nat_eq text (codes "/") then Absolute text
    else if is_relative text then Relative text
    else if starts_with nat_eq text (codes "#") then Internal text
    else named_meaning loader text

-- how long the name of a package is in front: up to the first `/`, or with a scope to the second
abbrev pub name_len : List ℕ → ℕ
name_len text =
    if starts_with nat_eq text (codes "@")
    then length (before_first is_slash text) + 1
    + length (before_first is_slash (after_first is_slash text))
    else length (before_first is_slash text)

abbrev pub package_name : List ℕ → List ℕ
package_name text = take (name_len text) text
