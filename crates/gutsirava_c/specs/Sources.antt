-- What is replied to source texts.
use Rattle.std.specs.Prelude.{◌≡◌, ℕ, ◌⊎◌, List, [], ◌++◌, codes, map, string_bytes}
use Rattle.serde_json.specs.Data.{Data, string, array, object, member, no_members}
use Rattle.serde_json.specs.View.{items_of}
use Rattle.serde_json.specs.Written.{compact_text}
use Rattle.gutsirava_bundle.specs.Command.{IsCommandAnswer}
use Rattle.gutsirava_bundle.specs.declared.bundling.BundleText.{BundleText}
use Rattle.gutsirava_graph.specs.declared.settings.BundleEntry.{BundleEntry}
use Rattle.gutsirava_graph.specs.declared.settings.BundleSettings.{BundleSettings}
use Rattle.gutsirava_c.specs.Request.{IsNoRequest, TextAsks}

-- the object of a bundle: its text and its name
abbrev pub bundle_data : BundleText → Data
bundle_data bundle =
    object (member (codes "code") (string (string_bytes bundle.text))
    (member (codes "name") (string (string_bytes bundle.name)) no_members))

-- the list of the objects of bundles
abbrev pub bundles_data : List BundleText → Data
bundles_data bundles = array (items_of (map bundle_data bundles))

-- the text of an object with these bundles, and with messages
pub record IsBundledText (bundles : List BundleText) (answer : List ℕ) : Type 0 where
  pub messages : List ℕ
  pub is : answer ≡ codes "{\"bundles\":" ++ compact_text (bundles_data bundles)
      ++ codes ",\"messages\":[" ++ messages ++ codes "]}\n"

-- the bundles of entries under settings, as the command makes them, and messages
pub record AreBundlesOf (settings : BundleSettings) (entries : List BundleEntry)
    (answer : List ℕ) : Type 0 where
  pub bundles : List BundleText
  pub are_right : IsCommandAnswer settings entries bundles
  pub is_text : IsBundledText bundles answer

-- the bundles that the input asks for
pub record IsBundlesReply (input answer : List ℕ) : Type 0 where
  pub settings : BundleSettings
  pub entries : List BundleEntry
  pub asked : TextAsks input settings entries
  pub are_right : AreBundlesOf settings entries answer

-- the status 0 and the bundles that the input asks for; or 1, and then there is none; or 2 and a
-- line, and then the input asks for nothing
abbrev pub IsSourcesReply : List ℕ → ℕ → List ℕ → Type 0
IsSourcesReply input status answer =
    ((status ≡ 0) × IsBundlesReply input answer)
    ⊎ ((status ≡ 1) × IsBundledText [] answer)
    ⊎ ((status ≡ 2) × IsNoRequest input × (answer ≡ codes "error: document\n"))

-- the status 0 and the bundles of these entries; or 1, and then there is none
abbrev pub IsReplyTo : BundleSettings → List BundleEntry → ℕ → List ℕ → Type 0
IsReplyTo settings entries status answer =
    ((status ≡ 0) × AreBundlesOf settings entries answer)
    ⊎ ((status ≡ 1) × IsBundledText [] answer)
