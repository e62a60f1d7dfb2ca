-- What the program answers to a document.
use Rattle.std.specs.Prelude.{ℕ, Bool, List, ◌++◌, codes, decimal, map}
use Rattle.bundle_tree_names.specs.Error.{number_of, variant_name}
use Rattle.bundle_tree_names.specs.FileName.{Name}
use Rattle.bundle_tree_names.specs.declared.error.Error.{Error}
use Rattle.bundle_tree_ast.specs.declared.expr.Expr.{Expr}
use Rattle.bundle_tree_ast.specs.declared.prop.KeyValueProp.{KeyValueProp}
use Rattle.bundle_rules.specs.Faults.{Parties, fault_of}
use Rattle.bundle_rules.specs.Headline.{Bundles, IsHeadline}
use Rattle.bundle_rules.specs.Kept.{Kept, nothing_kept}
use Rattle.bundler_call.specs.Answer.{bundled_of, refusal_of}
use Rattle.bundler_call.specs.Kept.{entry_of, parties_of, settings_of}
use Rattle.bundler_call.specs.declared.bundle.Bundle.{Bundle}
use Rattle.bundle_json_document.specs.Bundles.{IsBundlesText}
use Rattle.bundle_json_document.specs.Parties.{GivesModule, LacksModule, SpecifierLeads}
use Rattle.bundle_json_document.specs.declared.document.Document.{Document}

-- the line of a refusal: its number and its name
unfoldable pub line_of : Error → List ℕ
line_of refusal =
    codes "error " ++ decimal (number_of refusal) ++ codes ": " ++ variant_name refusal
    ++ codes "\n"

-- what loader and resolver of a document may answer and where they may fail, beside a hook: the
-- loader gives the document's modules, and may fail only for a file that it has no module for; the
-- resolver may fail only where a specifier leads to none
abbrev pub parties_beside : (Name → Bool → List (KeyValueProp Expr) → Type 0) →
    (Name → Bool → Type 0) → Document → Parties
parties_beside may_give may_fail_hook document = parties_of
    (GivesModule document.files)
    (LacksModule document.files)
    (λ base. SpecifierLeads)
    (λ base specifier. (file : Name) → ¬ SpecifierLeads specifier file)
    may_give
    may_fail_hook

-- these are the bundles of a document's entries, as the headline has it of a bundler that kept
-- nothing, where the hook may give this and may fail there
pub record AreBundlesOf
    (may_give : Name → Bool → List (KeyValueProp Expr) → Type 0)
    (may_fail_hook : Name → Bool → Type 0) (document : Document)
    (bundles : List Bundle) : Type 0 where
  pub kept : Kept
  pub headline :
      IsHeadline (parties_beside may_give may_fail_hook document) (settings_of document.config)
      (map entry_of document.entries.items) nothing_kept (Bundles (map bundled_of bundles)) kept

-- the text of the bundles of a document's entries
pub record IsDocumentAnswer (may_give : Name → Bool → List (KeyValueProp Expr) → Type 0)
    (may_fail_hook : Name → Bool → Type 0) (document : Document) (text : List ℕ) : Type 0 where
  pub bundles : List Bundle
  pub made : AreBundlesOf may_give may_fail_hook document bundles
  pub is_text : IsBundlesText bundles text

-- a refusal of a document's bundles that is right, as the headline has it: it tells of the first
-- fault in the order of judging, or of memory or contexts that do not suffice
pub record IsDocumentRefusal (may_give : Name → Bool → List (KeyValueProp Expr) → Type 0)
    (may_fail_hook : Name → Bool → Type 0) (document : Document) (refusal : Error) : Type 0 where
  pub kept : Kept
  pub headline :
      IsHeadline (parties_beside may_give may_fail_hook document) (settings_of document.config)
      (map entry_of document.entries.items) nothing_kept (refusal_of (fault_of refusal)) kept
