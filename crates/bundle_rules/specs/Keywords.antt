-- Words that a binding may not keep (ECMA-262, 12.7.2: keywords and reserved words, those of strict
-- code, and the future reserved words of earlier editions), and what a binding with such a symbol
-- is called.
use Rattle.std.specs.Prelude.{◌≡◌, ℕ, Bool as Truth, cond, not, ◌&&◌, ◌==◌, nat_le, IsTrue, List, [], ◌∷◌, ◌++◌, codes, bytes_eq, map}
use Rattle.std.specs.List.{list_any, AllZip}
use Rattle.bundle_syntax.specs.Item.{Item}
use Rattle.bundle_rules.specs.Places.{Occurrence, occurrences}
use Rattle.bundle_rules.specs.Scopes.{Es}
use Rattle.bundle_rules.specs.Declarations.{ByContext, Declared, declared}
use Rattle.bundle_rules.specs.Denotes.{Denoted, Bound, Global, denoted_of, IsResolved, DenoteAlike}

-- keywords and reserved words; `import` is none of them
abbrev pub keywords : List (List ℕ)
keywords =
    codes "await"
    ∷ codes "break"
    ∷ codes "case"
    ∷ codes "catch"
    ∷ codes "class"
    ∷ codes "const"
    ∷ codes "continue"
    ∷ codes "debugger"
    ∷ codes "default"
    ∷ codes "delete"
    ∷ codes "do"
    ∷ codes "else"
    ∷ codes "enum"
    ∷ codes "export"
    ∷ codes "extends"
    ∷ codes "false"
    ∷ codes "finally"
    ∷ codes "for"
    ∷ codes "function"
    ∷ codes "if"
    ∷ codes "in"
    ∷ codes "instanceof"
    ∷ codes "new"
    ∷ codes "null"
    ∷ codes "return"
    ∷ codes "super"
    ∷ codes "switch"
    ∷ codes "this"
    ∷ codes "throw"
    ∷ codes "true"
    ∷ codes "try"
    ∷ codes "typeof"
    ∷ codes "var"
    ∷ codes "void"
    ∷ codes "while"
    ∷ codes "with"
    ∷ codes "yield"
    ∷ []

-- words that strict code reserves
abbrev pub strict_words : List (List ℕ)
strict_words =
    codes "let"
    ∷ codes "static"
    ∷ codes "implements"
    ∷ codes "interface"
    ∷ codes "package"
    ∷ codes "private"
    ∷ codes "protected"
    ∷ codes "public"
    ∷ []

-- words that earlier editions kept for later use
abbrev pub older_words : List (List ℕ)
older_words =
    codes "abstract"
    ∷ codes "boolean"
    ∷ codes "byte"
    ∷ codes "char"
    ∷ codes "double"
    ∷ codes "final"
    ∷ codes "float"
    ∷ codes "goto"
    ∷ codes "int"
    ∷ codes "long"
    ∷ codes "native"
    ∷ codes "short"
    ∷ codes "synchronized"
    ∷ codes "throws"
    ∷ codes "transient"
    ∷ codes "volatile"
    ∷ []

-- whether a binding may not keep this symbol
abbrev pub is_keyword : List ℕ → Truth
is_keyword sym = list_any (bytes_eq sym) (keywords ++ strict_words ++ older_words)

-- the symbol of a binding that had this one
abbrev pub keyword_free : List ℕ → List ℕ
keyword_free sym = cond (is_keyword sym) (codes "__" ++ sym) sym

-- the symbol of an occurrence of this symbol that denotes this: globals keep theirs
abbrev pub keyword_free_of : List ℕ → Denoted → List ℕ
keyword_free_of sym (Bound scope name) = keyword_free sym
keyword_free_of sym (Global symbol) = sym

-- the symbols of a module's occurrences once no binding has a keyword's
abbrev pub keyword_free_symbols : List Item → List (List ℕ)
keyword_free_symbols items =
    let all : List Declared = declared ByContext Es items in
    map (λ o. keyword_free_of o.sym (denoted_of ByContext Es all o)) (occurrences items)

-- whether one of these occurrences has this identifier
abbrev pub has_ident : List Occurrence → List ℕ → ℕ → Truth
has_ident all sym ctxt = list_any (λ o. bytes_eq o.sym sym && o.ctxt == ctxt) all

-- whether a context is one from 2 on that none of these occurrences has
abbrev pub is_unused_context : List Occurrence → ℕ → Truth
is_unused_context all ctxt = nat_le 2 ctxt && not (list_any (λ o. o.ctxt == ctxt) all)

-- whether one of these occurrences may become another: it keeps its context, unless it gets a
-- symbol that some occurrence has with that context; then it gets an unused one
abbrev pub has_right_context : List Occurrence → Occurrence → Occurrence → Truth
has_right_context all old new =
    cond (not (bytes_eq old.sym new.sym) && has_ident all new.sym old.ctxt)
    (is_unused_context all new.ctxt) (new.ctxt == old.ctxt)

-- the tree after has the symbols of the one before, but for a `__` before a keyword's that a
-- binding had; contexts change only where they must; it is resolved, and its names denote what they
-- did
pub record IsKeywordFree (before after : List Item) : Type 0 where
  pub symbols : map (λ o. o.sym) (occurrences after) ≡ keyword_free_symbols before
  pub contexts :
      AllZip (λ old new. IsTrue (has_right_context (occurrences before) old new))
      (occurrences before) (occurrences after)
  pub resolved : IsResolved Es after
  pub alike : DenoteAlike ByContext before ByContext after
