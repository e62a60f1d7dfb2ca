-- What the modules of an entry are as they are merged, and what the hook answered for them.
use Rattle.std.specs.Prelude.{◌≡◌, ◌≤◌, ◌+◌, ◌*◌, ℕ, List, Option, Some, None, length, slice_get, unwrap_or}
use Rattle.bundle_tree_names.specs.declared.file_name.FileName.{FileName}
use Rattle.bundle_rules.specs.Declarations.{BySymbol}
use Rattle.bundle_rules.specs.Kept.{local_context}
use Rattle.bundle_rules.specs.Meaning.{HasKind}
use Rattle.bundle_rules.specs.Program.{Program}
use Rattle.bundle_rules.specs.Scopes.{ModuleKind, Cjs, Es}
use Rattle.bundle_scope_denote.specs.Listed.{IsDenotationTable}
use Rattle.bundle_scope_denote.specs.declared.table.Denotations.{Denotations}
use Rattle.bundle_link.specs.declared.reached.Reached.{Reached}
use Rattle.bundle_merge_names.specs.declared.part.Answered.{Answered}
use Rattle.bundle_merge_names.specs.declared.part.BundleModule.{BundleModule}
use Rattle.bundler_entry.specs.Linked.{IsFileAt, source_in}
use Rattle.bundler_entry.specs.Source.{list_of_source}
use Rattle.bundler_entry.specs.declared.call.EntryCall.{EntryCall}
use Rattle.bundler_entry.specs.declared.meta.ReadMeta.{ReadMeta}
use Rattle.bundler_entry.specs.declared.source.ReadFile.{ReadFile}

-- what stands at a place, if something does
abbrev pub found_at : {A : Type 0} → List (Option A) → ℕ → Option A
found_at list k = unwrap_or (slice_get list k) None

-- a CommonJS module was read as the body of a function, and another was not
abbrev pub IsReadAsBody : ModuleKind → ReadFile → Option Denotations → Type 0
IsReadAsBody Cjs source None = ⊥
IsReadAsBody Cjs source (Some names) =
    IsDenotationTable BySymbol Cjs (list_of_source source) names
IsReadAsBody Es source found = found ≡ None

-- the same of module k of a program
abbrev pub IsBodyAt : Program → EntryCall → Reached → ℕ → Option Denotations → Type 0
IsBodyAt q call reached k found =
    (source : ReadFile) (kind : ModuleKind) → source_in call reached k ≡ Some source →
    HasKind q k kind → IsReadAsBody kind source found

-- the same of the first n modules
pub record AreBodies (q : Program) (call : EntryCall) (reached : Reached) (n : ℕ)
    (bodies : List (Option Denotations)) : Type 0 where
  pub long : length bodies ≡ n
  pub each : (k : ℕ) (found : Option Denotations) → slice_get bodies k ≡ Some found →
      IsBodyAt q call reached k found

-- what the names of a module denote: as in the body of a function, where that was read
abbrev pub names_by : ReadFile → Option Denotations → Denotations
names_by source found = unwrap_or found source.names

-- a part is what was read of module k, with where its requests lead and the context of its file
pub record IsEntryPart (call : EntryCall) (reached : Reached) (bodies : List (Option Denotations))
    (k : ℕ) (part : BundleModule) : Type 0 where
  pub source : ReadFile
  pub there : source_in call reached k ≡ Some source
  pub file : FileName × ℕ
  pub its_file : IsFileAt call reached k file
  pub items : part.items.now ≡ source.tree.now.body.items
  pub denotations : part.denotations.now ≡ names_by source (found_at bodies k)
  pub tables : part.tables.now ≡ source.tables
  pub leads : slice_get reached.leads.items k ≡ Some part.leads.now
  pub local : 2 * file.1 + 2 ≤ 4294967295 → part.local ≡ local_context file.1
  pub written : part.written ≡ None

-- the first n modules are parts of a bundle
pub record AreEntryParts (call : EntryCall) (reached : Reached) (bodies : List (Option Denotations))
    (n : ℕ) (parts : List BundleModule) : Type 0 where
  pub long : length parts ≡ n
  pub each : (k : ℕ) (part : BundleModule) → slice_get parts k ≡ Some part →
      IsEntryPart call reached bodies k part

-- what the hook answered is handed on as it was read
abbrev pub IsAnswerRead : Option ReadMeta → Option Answered → Type 0
IsAnswerRead None answered = answered ≡ None
IsAnswerRead (Some meta) None = ⊥
IsAnswerRead (Some meta) (Some answered) =
    (answered.properties.now ≡ meta.properties.now)
    × (answered.pieces.now ≡ meta.pieces.items)
    × (answered.denotations.now ≡ meta.names)
