-- What is told of the items of bundles, beside them.
use Rattle.std.specs.Prelude.{◌≡◌, ℕ, List, Some, Result, Ok, Err, length, map, slice_get}
use Rattle.std.specs.declared.alloc.Global.{Global}
use Rattle.std.specs.declared.string.String.{String}
use Rattle.std.specs.declared.vec.Vec.{Vec}
use Rattle.bundle_tree_names.specs.declared.error.Error.{Error}
use Rattle.bundle_tree_names.specs.declared.file_name.FileName.{FileName}
use Rattle.bundle_rules.specs.Entries.{Settings}
use Rattle.bundle_rules.specs.Faults.{Parties, fault_of}
use Rattle.bundle_rules.specs.Headline as h
use Rattle.bundle_rules.specs.Judging.{Entry, IsProgramOf}
use Rattle.bundle_rules.specs.Kept.{Kept}
use Rattle.bundle_rules.specs.Program.{Program}
use Rattle.bundle_merge_causes.specs.Standing.{AreCausesTold, IsExplained}
use Rattle.bundle_merge_causes.specs.declared.cause.BundleCauses.{BundleCauses}
use Rattle.bundler_call.specs.Answer.{bundled_of, refusal_of}
use Rattle.bundler_call.specs.Kept.{entry_of}
use Rattle.bundler_call.specs.declared.bundle.Bundle.{Bundle}

-- what is answered beside what is told of items
abbrev pub answer_beside : Result (Vec Bundle Global × Vec BundleCauses Global) Error → h.Answer
answer_beside (Ok made) = h.Bundles (map bundled_of made.0.items)
answer_beside (Err refusal) = refusal_of (fault_of refusal)

-- the causes are those that are due in the program of an entry, over what is kept
abbrev pub AreCausesToldFor : Settings → Kept → String Global × FileName → BundleCauses → Type 0
AreCausesToldFor settings kept entry told =
    (p : Program) → IsProgramOf kept settings (entry_of entry) p → AreCausesTold p told

-- beside the bundle of each entry stands what its items stand for
pub record AreExplained (parties : Parties) (settings : Settings) (kept : Kept)
    (entries : List Entry) (bundles : List Bundle) (causes : List BundleCauses) : Type 0 where
  pub long : length causes ≡ length bundles
  pub each : (i : ℕ) (entry : Entry) (bundle : Bundle) (told : BundleCauses) (p : Program) →
      slice_get entries i ≡ Some entry →
      slice_get bundles i ≡ Some bundle →
      slice_get causes i ≡ Some told →
      IsProgramOf kept settings entry p →
      IsExplained p parties.hooks (bundled_of bundle).tree told
