-- What is asked for, and what is replied to it.
use Rattle.std.proofs.Common.{◌≡◌, ◌+◌, ◌<◌, ℕ, List, [], ◌∷◌, ◌++◌, Option, Some, Vec, Bor, Result, Ok, Err, IfOk, IsSomeAnd, IsUtf8, Global, codes, length, take, get_or, map, refl, sym, ap, subst, inl, inr, ◌∙◌}
use Rattle.std.specs.List.{AllZip}
use Rattle.std.proofs.lemmas.List.{take_more, map-append}
use Rattle.std.proofs.lemmas.Slice.Zip.{all_zipped_more}
use Rattle.json.specs.Json.{Json, array, document}
use Rattle.json.specs.Value.{items_view, value_view}
use Rattle.json.specs.declared.value.Value.{Value}
use Rattle.bundle_json_form.specs.declared.error.FormError.{FormError}
use Rattle.gutsirava_bundle.specs.declared.bundling.BundleText.{BundleText}
use Rattle.gutsirava_graph.specs.declared.settings.BundleEntry.{BundleEntry}
use Rattle.gutsirava_graph.specs.declared.settings.BundleSettings.{BundleSettings}
use Rattle.serde_json.specs.Written.{compact_text}
use Rattle.gutsirava_c.specs.Request.{found, AreEntryPairs, Asks, IsEntryPair, TextAsks}
use Rattle.gutsirava_c.specs.Sources.{bundles_data, IsBundledText, IsReplyTo, IsSourcesReply}
use Rattle.gutsirava_c.specs.declared.request.SourcesRequest.{SourcesRequest}

-- one value more
pub values_more : {Y : Type 0} (R : Json → Y → Type 0) (values : List (Value Global)) (ys : List Y) (i : ℕ) (value : Value Global) (y : Y) → i < length values → value ≡ get_or values i value
    → AllZip R (map value_view (take i values)) ys → R (value_view value) y → AllZip R (map value_view (take (i + 1) values)) (ys ++ y ∷ [])
values_more R values ys i value y inside is all here =
    let front : take (i + 1) values ≡ take i values ++ value ∷ [] = take_more values i value inside ∙ ap (λ it. take i values ++ it ∷ []) (sym is) in
    rw (front, map-append value_view (take i values) (value ∷ [])) (all_zipped_more R _ ys (value_view value) y all here)

-- the entries of an array that was found
pub entries_found : (made : Result (Vec BundleEntry Global) FormError) (value : Option (Bor (Value Global))) (it : Bor (Value Global)) (items : List (Value Global))
    → value ≡ Some it → value_view it.now ≡ array (items_view items) → IfOk made (λ entries. AllZip IsEntryPair (map value_view items) entries.items)
    → IfOk made (λ entries. IsSomeAnd (found value) (AreEntryPairs entries.items))
entries_found (Ok entries) value it items is list all =
    subst (λ value. IsSomeAnd (found value) (AreEntryPairs entries.items)) (sym is)
    (record { pairs = map value_view items; is_array = list; each = all })
entries_found (Err e) value it items is list all = all

-- what the value of a text asks for, the text does
pub text_asks : (text : List ℕ) (value : Json) (made : Result SourcesRequest FormError) → IsUtf8 text → document text ≡ Some value
    → IfOk made (λ it. Asks value it.settings it.entries.items) → IfOk made (λ it. TextAsks text it.settings it.entries.items)
text_asks text value (Ok it) utf8 is asks = record { utf8 = utf8; value = value; is_read = is; asks = asks }
text_asks text value (Err e) utf8 is asks = asks

-- the reply to what the input asks for
pub replied : (input text : List ℕ) (settings : BundleSettings) (entries : List BundleEntry) (status : ℕ) (answer : List ℕ)
    → text ≡ input → TextAsks text settings entries → IsReplyTo settings entries status answer → IsSourcesReply input status answer
replied input text settings entries status answer is asks reply = elim reply [
  | inl made ↦ inl (
    made.0,
    record {
      settings = settings;
      entries = entries;
      asked = subst (λ it. TextAsks it settings entries) is asks;
      are_right = made.1;
    },
  )
  | inr none ↦ inr (inl none)
]

-- the parts of a reply, put one behind the other
pub bundled_put : (bundles : List BundleText) (opened list first between messages second whole : List ℕ) → list ≡ compact_text (bundles_data bundles) → opened ≡ codes "{\"bundles\":"
    → first ≡ opened ++ list → between ≡ first ++ codes ",\"messages\":[" → second ≡ between ++ messages → whole ≡ second ++ codes "]}\n" → IsBundledText bundles whole
bundled_put bundles opened list first between messages second whole is opens puts parts tells closes = record {
  messages = messages;
  is = rw (closes, tells, parts, puts, opens, is) refl;
}

pub memory_bundled : IsBundledText [] (codes "{\"bundles\":[],\"messages\":[{\"column\":null,\"file\":null,\"line\":null,\"notes\":[],\"severity\":\"error\",\"text\":\"out of memory\"}]}\n")
memory_bundled = record {
  messages = codes "{\"column\":null,\"file\":null,\"line\":null,\"notes\":[],\"severity\":\"error\",\"text\":\"out of memory\"}";
  is = refl;
}
