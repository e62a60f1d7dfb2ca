-- Texts put behind each other, as the body of a bundle.
use Rattle.std.proofs.Common.{◌≡◌, ◌⊎◌, ◌++◌, ◌∙◌, ◌≤◌, ℕ, Bool, true, false, List, [], Option, Some, None, IsTrue, ◌==◌, append_assoc, codes, length, map, string_bytes, string_len, vec_len, refl, subst, sym, take, drop, ap}
use Rattle.std.specs.List.{All, list_any}
use Rattle.std.specs.Str.{IsTrimEnd}
use Rattle.std.specs.declared.alloc.Global.{Global}
use Rattle.std.specs.declared.string.String.{String}
use Rattle.std.proofs.lemmas.List.{take-append-drop, length-map}
use Rattle.bundle_js_print.specs.declared.print.Printed.{Printed}
use Rattle.bundle_syntax.specs.Item.{Item, item_of}
use Rattle.bundle_syntax.specs.declared.piece.Piece.{Piece}
use Rattle.gutsirava_resolve.specs.declared.settings.TargetPlatform.{TargetPlatform}
use Rattle.gutsirava_resolve.specs.declared.settings.TargetPlatform.TheVariants.{Browser}
use Rattle.bundle_tree_ast.specs.declared.module.Module.{Module as Tree}
use Rattle.bundle_tree_listed.specs.Tree.{module_items}
use Rattle.gutsirava_graph.specs.declared.settings.BundleSettings.{BundleSettings}
use Rattle.gutsirava_bundle.specs.BundleText.{AddsDirective, Appends, IsBody, IsFramed, IsStrictBody, LeavesComments, first_line, IsCall, IsModuleBody, IsNamed, IsPrint, IsScriptBody}

-- a print of pieces is one of their items
pub print_of : (printed : Printed) (pieces shown : List Piece) (text : List ℕ) → shown ≡ pieces → vec_len printed.offsets ≡ length shown
    → All (λ place. place ≤ string_len printed.text) printed.offsets.items → text ≡ string_bytes printed.text → IsPrint (map item_of pieces) text
print_of printed pieces shown text is each within whole = record {
  printed = printed;
  whole = whole;
  each = each ∙ (ap (λ (those : List Piece). length those) is ∙ sym (length-map pieces item_of));
  within = within;
}

-- a module of its two parts
pub module_of_parts : (platform : TargetPlatform) (items : List Item) (old one two words made text : List ℕ) → words ≡ made → (platform ≡ Browser → made ≡ [])
    → IsPrint items text → one ≡ old ++ words → two ≡ one ++ text → Appends old two (IsModuleBody platform items)
module_of_parts platform items old one two words made text is browser print first second = record {
  more = words ++ text;
  whole = rw (second, first) (append_assoc old words text);
  holds = record {
    words = words;
    text = text;
    whole = refl;
    browser = λ there. is ∙ browser there;
    print = print;
  };
}

-- what is trimmed twice is a front
rest_of_trimmed : (print trimmed call : List ℕ) → IsTrimEnd print trimmed → call ≡ take (length call) trimmed
    → (rest : List ℕ) × (print ≡ call ++ rest)
rest_of_trimmed print trimmed call first second =
    let n = first.0 in
    let m = length call in
    let outer : print ≡ trimmed ++ drop n print =
    sym (take-append-drop n print) ∙ ap (λ (front : List ℕ). front ++ drop n print) (sym first.1) in
    let inner : trimmed ≡ call ++ drop m trimmed =
    sym (take-append-drop m trimmed) ∙ ap (λ (front : List ℕ). front ++ drop m trimmed) (sym second) in (
      drop m trimmed ++ drop n print,
      outer ∙ ap (λ (front : List ℕ). front ++ drop n print) inner ∙ append_assoc call (drop m trimmed) (drop n print),
    )

-- a call of its six parts
pub call_of_parts : (name : List ℕ) (is_common_js : Bool) (print trimmed old one two three four five six owners made call property : List ℕ)
    → owners ≡ made → IsTrimEnd print trimmed → call ≡ take (length call) trimmed
    → one ≡ old ++ owners → two ≡ one ++ name → three ≡ two ++ codes " = " → four ≡ three ++ call → five ≡ four ++ property → six ≡ five ++ codes ";\n"
    → (IsTrue (list_any (λ byte. byte == 46) name) ⊎ (made ≡ codes "var ")) → (is_common_js ≡ false → property ≡ [])
    → (is_common_js ≡ true → (property ≡ codes ".default") ⊎ (property ≡ codes ".then((exports) => exports.default)"))
    → Appends old six (IsCall name is_common_js print)
call_of_parts name is_common_js print trimmed old one two three four five six owners made call property is t1 t2 e1 e2 e3 e4 e5 e6 declared plain exported =
    let cut = rest_of_trimmed print trimmed call t1 t2 in
    record {
      more = ((((owners ++ name) ++ codes " = ") ++ call) ++ property) ++ codes ";\n";
      whole = rw (e6, e5, e4, e3, e2, e1) (simp append_assoc);
      holds = record {
        owners = owners;
        call = call;
        rest = cut.0;
        property = property;
        whole = refl;
        front = cut.1;
        declared = subst (λ (text : List ℕ). IsTrue (list_any (λ byte. byte == 46) name) ⊎ (text ≡ codes "var ")) (sym is) declared;
        plain = plain;
        exported = exported;
      };
    }

-- a script without a name, and one with a name
pub script_of_print : (name : Option (String Global)) (is_common_js : Bool) (items : List Item) (old new text : List ℕ) → name ≡ None → IsPrint items text
    → new ≡ old ++ text → Appends old new (IsScriptBody name is_common_js items)
script_of_print name is_common_js items old new text is print whole = record {
  more = text;
  whole = whole;
  holds = record {
    text = text;
    print = print;
    named = subst (λ (it : Option (String Global)). IsNamed it is_common_js text text) (sym is) refl;
  };
}

pub script_of_call : (name : Option (String Global)) (it : String Global) (word : List ℕ) (is_common_js : Bool) (items : List Item)
    (old new text : List ℕ) → name ≡ Some it → word ≡ string_bytes it → IsPrint items text → Appends old new (IsCall word is_common_js text)
    → Appends old new (IsScriptBody name is_common_js items)
script_of_call name it word is_common_js items old new text is spelled print call = record {
  more = call.more;
  whole = call.whole;
  holds = record {
    text = text;
    print = print;
    named = subst (λ (o : Option (String Global)). IsNamed o is_common_js text call.more) (sym is)
        (subst (λ (letters : List ℕ). IsCall letters is_common_js text call.more) spelled call.holds);
  };
}

-- behind a first line
pub framed_of : (settings : BundleSettings) (tree : Tree) (hashbang : Option (List ℕ)) (is_common_js : Bool) (listed left : List Piece) (begun text : List ℕ)
    → map item_of listed ≡ module_items 0 tree → LeavesComments (map item_of listed) (map item_of left) → begun ≡ first_line hashbang
    → Appends begun text (IsBody settings is_common_js (map item_of left)) → IsFramed hashbang is_common_js settings tree text
framed_of settings tree hashbang is_common_js listed left begun text whole leaves first appends = record {
  items = map item_of left;
  left = subst (λ (all : List Item). LeavesComments all (map item_of left)) whole leaves;
  framed = subst (λ (front : List ℕ). Appends front text (IsBody settings is_common_js (map item_of left))) first appends;
}

-- a script in strict code
pub strict_of_script : (name : Option (String Global)) (is_common_js : Bool) (items strict : List Item) (old new : List ℕ) → (strict ≡ items) ⊎ AddsDirective items strict
    → Appends old new (IsScriptBody name is_common_js strict) → Appends old new (IsStrictBody name is_common_js items)
strict_of_script name is_common_js items strict old new adds script = record {
  more = script.more;
  whole = script.whole;
  holds = record {
    strict = strict;
    adds = adds;
    script = script.holds;
  };
}
