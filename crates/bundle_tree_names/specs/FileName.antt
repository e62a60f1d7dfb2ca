-- What a file name says: whether it names a real file or a custom one, and its text.
use Rattle.std.specs.Prelude.{ℕ, List, Bool, false, ◌++◌}
use Rattle.std.specs.Hash as fed
use Rattle.std.specs.Str.{bytes_eq}
use Rattle.std.specs.String.{string_bytes}
use Rattle.bundle_tree_names.specs.declared.file_name.FileName.{FileName}
use Rattle.bundle_tree_names.specs.declared.file_name.FileName.TheVariants.{Real, Custom}

-- a file name as plain data: its kind, and the bytes of its text
pub data Name : Type 0 where
  real : (text : List ℕ) → Name
  custom : (text : List ℕ) → Name

-- what a file name says
abbrev pub name_of : FileName → Name
name_of (Real s) = real (string_bytes s)
name_of (Custom s) = custom (string_bytes s)

-- the text of a name
abbrev pub text_of : Name → List ℕ
text_of (real text) = text
text_of (custom text) = text

-- whether two names have one kind and one text, as a test; `name_eq-Decides` says that it tests
-- whether they are the same
abbrev pub name_eq : Name → Name → Bool
name_eq (real a) (real b) = bytes_eq a b
name_eq (real a) (custom b) = false
name_eq (custom a) (real b) = false
name_eq (custom a) (custom b) = bytes_eq a b

-- what a hasher is given of a name: the kind, and then the text
abbrev pub hash_input_of : Name → fed.HashWrites
hash_input_of (real text) = fed.u8 0 ++ fed.str text
hash_input_of (custom text) = fed.u8 1 ++ fed.str text
