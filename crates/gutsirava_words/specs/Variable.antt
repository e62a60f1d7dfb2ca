-- Variables of JavaScript, and properties of them.
use Rattle.std.specs.Prelude.{ℕ, ◌==◌, ◌||◌, ◌&&◌, Bool, true, false, not, List, [], ◌∷◌, chars, codes}
use Rattle.std.specs.List.{before_first, list_all, list_any, slice_split}
use Rattle.std.specs.Str.{bytes_eq}
use Rattle.unicode_ident.specs.Ident.{is_xid_continue, is_xid_start}

-- the reserved words of ECMA-262 (12.7.2), with those of strict code (12.7.2, 13.1.1)
abbrev pub reserved_words : List (List ℕ)
reserved_words =
    codes "arguments" ∷ codes "await" ∷ codes "break" ∷ codes "case" ∷ codes "catch"
    ∷ codes "class" ∷ codes "const" ∷ codes "continue" ∷ codes "debugger" ∷ codes "default"
    ∷ codes "delete" ∷ codes "do" ∷ codes "else" ∷ codes "enum" ∷ codes "eval" ∷ codes "export"
    ∷ codes "extends" ∷ codes "false" ∷ codes "finally" ∷ codes "for" ∷ codes "function"
    ∷ codes "if" ∷ codes "implements" ∷ codes "import" ∷ codes "in" ∷ codes "instanceof"
    ∷ codes "interface" ∷ codes "let" ∷ codes "new" ∷ codes "null" ∷ codes "package"
    ∷ codes "private" ∷ codes "protected" ∷ codes "public" ∷ codes "return" ∷ codes "static"
    ∷ codes "super" ∷ codes "switch" ∷ codes "this" ∷ codes "throw" ∷ codes "true" ∷ codes "try"
    ∷ codes "typeof" ∷ codes "var" ∷ codes "void" ∷ codes "while" ∷ codes "with" ∷ codes "yield"
    ∷ []

unfoldable pub is_reserved : List ℕ → Bool
is_reserved text = list_any (λ word. bytes_eq word text) reserved_words

-- `$`, `_`, or a letter
abbrev pub begins_name : ℕ → Bool
begins_name c = (c == 36) || (c == 95) || is_xid_start c

-- `$`, a joiner, or a letter, digit or mark
abbrev pub continues_name : ℕ → Bool
continues_name c = (c == 36) || (c == 8204) || (c == 8205) || is_xid_continue c

-- an IdentifierName without escapes (ECMA-262, 12.7), by its characters; what begins one may stand
-- behind its begin, too
abbrev pub is_name : List ℕ → Bool
is_name [] = false
is_name (c ∷ more) = begins_name c && list_all continues_name (c ∷ more)

abbrev pub is_dot : ℕ → Bool
is_dot byte = byte == 46

-- names with dots between them, of which the first is no reserved word
abbrev pub is_variable : List ℕ → Bool
is_variable text =
    list_all (λ name. is_name (chars name)) (slice_split is_dot text)
    && not (is_reserved (before_first is_dot text))
