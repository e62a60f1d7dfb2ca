-- Whether a text that was read as an ECMAScript module may be a CommonJS module too.
use Rattle.std.specs.Prelude.{◌+◌, ◌==◌, ◌||◌, ℕ, nat_eq, nat_le, nat_lt, Bool, true, false, if◌then◌else◌, List, drop, length, min, take, codes, unwrap_or}
use Rattle.std.specs.List.{ends_with, find, list_any}
use Rattle.bundle_js_record.specs.declared.kind.Kind.{Kind}
use Rattle.bundle_js_record.specs.declared.kind.Kind.TheVariants as k
use Rattle.bundle_js_record.specs.declared.record.Rec.{Rec}

-- only an ECMAScript module has such a node
unfoldable pub is_declaration : Kind → Bool
is_declaration k.ImportDecl = true
is_declaration k.ExportDecl = true
is_declaration k.NamedExport = true
is_declaration k.ExportDefaultDecl = true
is_declaration k.ExportDefaultExpr = true
is_declaration k.ExportAll = true
is_declaration _ = false

-- `<!` stands before a byte
abbrev pub ends_comment_begin : List ℕ → ℕ → Bool
ends_comment_begin text from =
    ends_with nat_eq (take (min from (length text)) text) (codes "<!")

-- the first byte that is no white space, a slash where there is none
abbrev pub first_visible : List ℕ → ℕ
first_visible text = unwrap_or (find (λ byte. nat_lt 32 byte) text) 47

-- a slash or what is not of ASCII stands next behind the `await` at a byte
abbrev pub may_divide : List ℕ → ℕ → Bool
may_divide text from =
    let byte = first_visible (drop (min (from + 5) (length text)) text) in
    byte == 47 || nat_le 128 byte

-- the token of a node of this kind may be another in a CommonJS module: `--` behind `<!` begins a
-- comment there (ECMA-262, B.1.1), and `await` may be a name, behind which a slash divides
unfoldable pub is_doubtful_kind : Kind → List ℕ → ℕ → Bool
is_doubtful_kind k.UpdateExpr text from = ends_comment_begin text from
is_doubtful_kind k.AwaitExpr text from = may_divide text from
is_doubtful_kind _ text from = false

abbrev pub is_doubtful : List ℕ → Rec → Bool
is_doubtful text rec = is_doubtful_kind rec.kind text rec.from

-- a declaration that only an ECMAScript module has is among the records, and no doubtful token
abbrev pub is_no_common_js : List ℕ → List Rec → Bool
is_no_common_js text records =
    if list_any (λ rec. is_declaration rec.kind) records
    then (if list_any (is_doubtful text) records then false else true) else false
