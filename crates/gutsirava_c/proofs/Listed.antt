-- The text of a list of bundles, object by object.
use Rattle.std.proofs.Common.{◌≡◌, ℕ, List, [], ◌∷◌, ◌++◌, Bool, true, false, codes, map, refl, sym, ap, ◌∙◌, append_assoc, string_bytes}
use Rattle.json.specs.Print.{escape_byte, quoted}
use Rattle.serde_json.specs.View.{items_of}
use Rattle.serde_json.specs.Written.{comma_if, compact_text, items_text}
use Rattle.gutsirava_bundle.specs.declared.bundling.BundleText.{BundleText}
use Rattle.gutsirava_c.specs.Sources.{bundle_data, bundles_data}

object_text : (bundle : BundleText) → compact_text (bundle_data bundle)
    ≡ codes "{\"code\":" ++ (quoted (string_bytes bundle.text) ++ (codes ",\"name\":" ++ (quoted (string_bytes bundle.name) ++ codes "}")))
unfolding escape_byte
object_text bundle = refl

-- the parts of an object, put one behind the other
pub object_put : (bundle : BundleText) (old opened code between named new text name : List ℕ)
    → opened ≡ old ++ codes "{\"code\":" → text ≡ string_bytes bundle.text → code ≡ opened ++ quoted text
    → between ≡ code ++ codes ",\"name\":" → name ≡ string_bytes bundle.name → named ≡ between ++ quoted name
    → new ≡ named ++ codes "}" → new ≡ old ++ compact_text (bundle_data bundle)
object_put bundle old opened code between named new text name opens is_text codes_it parts is_name names closes =
    let whole : new ≡ old ++ (codes "{\"code\":" ++ (quoted (string_bytes bundle.text)
    ++ (codes ",\"name\":" ++ (quoted (string_bytes bundle.name) ++ codes "}"))))
    = rw (closes, names, is_name, parts, codes_it, is_text, opens)
    (regroup old (codes "{\"code\":") (quoted (string_bytes bundle.text)) (codes ",\"name\":") (quoted (string_bytes bundle.name)) (codes "}")) in
    whole ∙ ap (λ it. old ++ it) (sym (object_text bundle))
  where
    regroup : (o a b c d e : List ℕ) → ((((o ++ a) ++ b) ++ c) ++ d) ++ e ≡ o ++ (a ++ (b ++ (c ++ (d ++ e))))
    regroup o a b c d e = simp append_assoc

-- what has been put in, and what is still to be put in, is the whole
pub record AreObjects (text : List ℕ) (whole left : List BundleText) (later : Bool) : Type 0 where
  pub so_far : text ++ items_text later (items_of (map bundle_data left)) ≡ compact_text (bundles_data whole)

pub one_object : (text begun new : List ℕ) (whole left more : List BundleText) (later : Bool) (bundle : BundleText)
    → AreObjects text whole left later → left ≡ bundle ∷ more → begun ≡ text ++ comma_if later
    → new ≡ begun ++ compact_text (bundle_data bundle) → AreObjects new whole more true
one_object text begun new whole left more later bundle before next comma puts = record {
  so_far =
      ap (λ it. it ++ items_text true (items_of (map bundle_data more)))
      (puts ∙ ap (λ it. it ++ compact_text (bundle_data bundle)) comma)
      ∙ regroup text (comma_if later) (compact_text (bundle_data bundle)) (items_text true (items_of (map bundle_data more)))
      ∙ ap (λ them. text ++ items_text later (items_of (map bundle_data them))) (sym next)
      ∙ before.so_far;
}
  where
    regroup : (a b c d : List ℕ) → ((a ++ b) ++ c) ++ d ≡ a ++ (b ++ (c ++ d))
    regroup a b c d = simp append_assoc

pub list_begins : (opened : List ℕ) (whole : List BundleText) → opened ≡ 91 ∷ [] → AreObjects opened whole whole false
list_begins opened whole is = record { so_far = ap (λ it. it ++ items_text false (items_of (map bundle_data whole))) is }

pub list_ends : (text new : List ℕ) (whole left : List BundleText) (later : Bool)
    → AreObjects text whole left later → left ≡ [] → new ≡ text ++ 93 ∷ [] → new ≡ compact_text (bundles_data whole)
list_ends text new whole left later are none ends =
    ends ∙ ap (λ them. text ++ items_text later (items_of (map bundle_data them))) (sym none) ∙ are.so_far
