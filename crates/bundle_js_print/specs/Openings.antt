-- What stands at the begin of a node: the tokens that a list has whole (ECMA-262, 12.7 to 12.9),
-- and the words and operators of expressions (13).
use Rattle.std.specs.Prelude.{◌≡◌, ℕ, Bool, true, false, List, [], ◌∷◌, ◌++◌, Option, Some, None, option_map, codes}
use Rattle.bundle_syntax.specs.Item as h
use Rattle.bundle_syntax.specs.Item.{Head}
use Rattle.bundle_syntax.specs.Text.{unary_text, update_text, meta_prop_text}
use Rattle.bundle_js_print.specs.Literal.{PutsString}
use Rattle.bundle_js_print.specs.declared.punctuation.Opening.{Opening}
use Rattle.bundle_js_print.specs.declared.punctuation.Opening.TheVariants as p
use Rattle.bundle_js_print.specs.declared.text.Charset.{Charset}

-- a name, number or regular expression as it stands in the list, or the word or operator of an
-- expression
abbrev pub head_text : Head → Option (List ℕ)
head_text (h.IdentName sym) = Some sym
head_text (h.PrivateName sym) = Some (35 ∷ sym)
head_text (h.Number raw) = Some raw
head_text (h.BigInt raw) = Some raw
head_text (h.Regex raw) = Some raw
head_text (h.Bool true) = Some (codes "true")
head_text (h.Bool false) = Some (codes "false")
head_text h.Null = Some (codes "null")
head_text h.ThisExpr = Some (codes "this")
head_text h.Super = Some (codes "super")
head_text h.Import = Some (codes "import")
head_text (h.UnaryExpr op) = Some (unary_text op)
head_text (h.UpdateExpr op true) = Some (update_text op)
head_text (h.MetaPropExpr kind) = Some (meta_prop_text kind)
head_text h.ParenExpr = Some (codes "(")
head_text _ = None

-- the text that an opening puts, where it is one by itself
abbrev pub opening_text : Opening → Option (List ℕ)
opening_text (p.Text text) = Some text.now
opening_text (p.Raw text) = Some text.now
opening_text (p.Private name) = Some (35 ∷ name.now)
opening_text (p.Word word) = Some (word.now ++ 32 ∷ [])
opening_text _ = None

-- an opening puts what the node begins with
abbrev pub Opens : Option (List ℕ) → Option (List ℕ) → Type 0
Opens None put = Unit {0}
Opens (Some text) put = put ≡ Some text

-- what an opening puts behind a text: its own, or a string
abbrev pub PutsOpening : Charset → Opening → List ℕ → List ℕ → Type 0
PutsOpening charset (p.Text text) old new = new ≡ old ++ text.now
PutsOpening charset (p.Raw text) old new = new ≡ old ++ text.now
PutsOpening charset (p.Private name) old new = new ≡ old ++ (35 ∷ name.now)
PutsOpening charset (p.Word word) old new = new ≡ old ++ (word.now ++ 32 ∷ [])
PutsOpening charset (p.String value raw) old new =
    PutsString charset old new value.now (option_map (λ it. it.now) raw)
PutsOpening charset _ old new = Unit {0}
