-- How a call ends, in the order of judging, and what a bundle of an entry is.
use Rattle.std.specs.Prelude.{◌≡◌, ◌⊎◌, ℕ, ◌<◌, slice_get, Option, Some, None, IfSome, List, Result, Ok, Err}
use Rattle.std.specs.declared.alloc.Global.{Global}
use Rattle.std.specs.declared.string.String.{String}
use Rattle.bundle_tree_listed.specs.Tree.{module_items}
use Rattle.bundle_tree_names.specs.FileName.{Name}
use Rattle.bundle_tree_names.specs.declared.file_name.FileName.{FileName}
use Rattle.bundle_tree_names.specs.declared.error.Error.{Error}
use Rattle.bundle_tree.specs.declared.load.ModuleData.{ModuleData}
use Rattle.bundle_rules.specs.Entries.{Settings}
use Rattle.bundle_rules.specs.Kept.{Kept}
use Rattle.bundle_rules.specs.Faults.{Fault, DoubledEntry, Parties, fault_of}
use Rattle.bundle_rules.specs.Headline.{IsBundleOf}
use Rattle.bundle_rules.specs.Judging.{Entry, Outcome, GoesOn, Refused, Stopped, Refuses, Stops, IsDoubledEntry}
use Rattle.bundler_entry.specs.Finished.{IsFinished}
use Rattle.bundler_entry.specs.declared.call.OrderedConfig.{OrderedConfig}
use Rattle.bundler_call.specs.Answer.{bundled_of}
use Rattle.bundler_call.specs.Kept.{entry_of, parties_of, settings_of}
use Rattle.bundler_call.specs.declared.bundle.Bundle.{Bundle}

-- one step of the judging is what the result says: it was made, or is refused by the fault that is
-- told; want of memory tells of none
abbrev pub Tells : {T : Type 0} → Result T Error → (Outcome → Type 0) → Type 0
Tells (Ok x) step = step GoesOn
Tells (Err refusal) step = IfSome (fault_of refusal) (λ fault. step (Refused fault))

-- how a part of the judging is refused: by the fault that is told, or, where none is, since a
-- growth was refused
abbrev pub refused_by : Option Fault → Outcome
refused_by (Some fault) = Refused fault
refused_by None = Stopped

-- a part of the judging ends as the result says: it goes on, is refused by the fault that is told,
-- or stops for want of memory
abbrev pub EndsJudging : {T : Type 0} → Result T Error → (Outcome → Type 0) → Type 0
EndsJudging (Ok x) part = part GoesOn
EndsJudging (Err refusal) part = part (refused_by (fault_of refusal))

-- as far as a part of the judging goes on, what is judged after it is judged of the whole; where it
-- is refused or stops, the whole does
abbrev pub LeadsOn : {T : Type 0} → Result T Error → (whole rest : Outcome → Kept → Type 0) → Kept →
    Type 0
LeadsOn (Ok x) whole rest new = (outcome : Outcome) (last : Kept) → rest outcome last →
    whole outcome last
LeadsOn (Err refusal) whole rest new = whole (refused_by (fault_of refusal)) new

-- what this loader and this resolver may answer, and where they may fail; no hook is asked
abbrev pub parties_asked : {L R : Type 0} → (L → Name → ModuleData → Type 0) → (L → Name → Type 0) →
    (R → Name → List ℕ → Name → Type 0) → (R → Name → List ℕ → Type 0) → L → R → Parties
parties_asked may_load may_fail_load may_resolve may_fail_resolve loader resolver =
    parties_of (may_load loader) (may_fail_load loader) (may_resolve resolver)
    (may_fail_resolve resolver) (λ file is_entry properties. ⊥) (λ file is_entry. ⊥)

-- no two entries have one name or one file
abbrev pub AreEntriesApart : List Entry → Type 0
AreEntriesApart entries = (i j : ℕ) (a b : Entry) → i < j → slice_get entries i ≡ Some a →
    slice_get entries j ≡ Some b → (a.name ≡ b.name) ⊎ (a.file ≡ b.file) → ⊥

-- the fault is that of the first entry that doubles another
abbrev pub IsFaultOfList : List Entry → Fault → Type 0
IsFaultOfList entries fault =
    (later : Entry) × IsDoubledEntry entries later × (fault ≡ DoubledEntry later.file later.name)

-- the fault that is told is the first in the order of judging; where none is, so much is kept as
-- was kept on the way
abbrev pub IsFirstFaultTold : Parties → Settings → List Entry → (old new : Kept) → Option Fault →
    Type 0
IsFirstFaultTold parties settings entries old new (Some fault) =
    Refuses parties settings entries old fault new
IsFirstFaultTold parties settings entries old new None = Stops parties settings entries old new

-- a refusal tells of the first fault in the order of judging, or of want of memory on the way
abbrev pub IsRefusalTold : Parties → Settings → List Entry → (old new : Kept) → Error → Type 0
IsRefusalTold parties settings entries old new refusal =
    IsFirstFaultTold parties settings entries old new (fault_of refusal)

-- a bundle is that of an entry, over what is kept
abbrev pub IsBundledFor : Parties → Settings → Kept → String Global × FileName → Bundle → Type 0
IsBundledFor parties settings kept entry bundle =
    IsBundleOf parties settings kept (bundled_of bundle) (entry_of entry)

-- a bundle is another one, finished
pub record IsFinishedBundle (config : OrderedConfig) (merged made : Bundle) : Type 0 where
  pub kind : made.kind ≡ merged.kind
  pub id : made.id ≡ merged.id
  pub tree : IsFinished config.base (module_items 0 merged.module) (module_items 0 made.module)

-- a bundle, once it is finished, is that of an entry, over what is kept
abbrev pub IsMergedBundle :
    Parties → OrderedConfig → Kept → String Global × FileName → Bundle → Type 0
IsMergedBundle parties config kept entry merged =
    (made : Bundle) → IsFinishedBundle config merged made →
    IsBundledFor parties (settings_of config) kept entry made
