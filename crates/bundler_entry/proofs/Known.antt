-- What is known of the program of an entry that is linked, of the same program by the places of its
-- modules, and what is linked and planned of that.
use Rattle.std.proofs.Common.{◌≡◌, ℕ, ◌<◌, Bool, List, Option, Some, length, map, refl, sym, ap, ◌∙◌}
use Rattle.std.specs.Prelude.{option_map, slice_get}
use Rattle.std.specs.Option.{option_and_then}
use Rattle.std.proofs.lemmas.Option.{same_Some, slice_get-map}
use Rattle.bundle_tree_names.specs.declared.file_name.FileName.{FileName}
use Rattle.bundle_order_graph.specs.Modules.{Modules}
use Rattle.bundle_order_sort.specs.Plan.{IsPlanAsked}
use Rattle.bundle_rules.specs.Entries.{has_import_meta}
use Rattle.bundle_rules.specs.Statements.{own_statements}
use Rattle.bundle_rules.specs.Program.{Program, tree_of, IsReached}
use Rattle.bundle_rules.specs.Bundle.{Hooks}
use Rattle.bundle_link.specs.Files.{file_number, numbers_of}
use Rattle.bundle_link.proofs.NumberLemmas.{held}
use Rattle.bundle_link_index.proofs.ProgramLemmas.{got}
use Rattle.bundle_merge_theory.specs.planned.Blocks.{block_of}
use Rattle.bundle_merge_theory.specs.planned.Decided.{Decided}
use Rattle.bundle_merge_theory.specs.made.Given.{HookAnswer, BundleContexts}
use Rattle.bundle_merge_theory.specs.sound.Known.{AreKnown, IsByPlaces}
use Rattle.bundle_merge_theory.specs.sound.Decided.{AreTablesLinked, AreTablesTold, decided_by}
use Rattle.bundle_merge_theory.proofs.moved.Owed.{AreMoved}
use Rattle.bundle_merge_theory.proofs.sound.Decided.{linked-by}
use Rattle.bundle_merge_theory.proofs.sound.Sound.{graph-noted, leads-all}
use Rattle.bundler_entry.specs.Linked.{IsCallOf, IsFileAt, IsLinkedEntry, ids_of, source_in}
use Rattle.bundler_entry.specs.Source.{IsSourceOf}
use Rattle.bundler_entry.specs.declared.call.EntryCall.{EntryCall}
use Rattle.bundler_entry.specs.declared.linked.LinkedEntry.{LinkedEntry}
use Rattle.bundler_entry.specs.declared.source.ReadFile.{ReadFile}
use Rattle.bundler_entry.proofs.LinkedLemmas.{place_of, source_of}

module _ (p : Program) (entry : ℕ) (call : EntryCall) (w : IsCallOf p entry call) (linked : LinkedEntry) (l : IsLinkedEntry p call linked) where
  -- the modules in the order of the list, their requests, and the program by their places
  abbrev pub ids : List ℕ
  ids = linked.reached.list.items

  abbrev pub graph : Modules
  graph = call.program.now.files.graph

  abbrev pub by_place : Program
  by_place = l.links.places

  -- what was read of a reached module
  its-source : (m : ℕ) → IsReached p m → (source : ReadFile) × IsSourceOf p m source
  its-source m reached =
      let k = got ids m ((l.reached.reached m).1 reached) in
      let place = place_of p entry call w linked.reached l.reached k.0 m k.1 in
      let source = source_of p entry call w linked.reached l.reached place.0 m place.2 in
      (source.0, source.2)

  -- something was read of the module at each place of the list, which is that of the second program
  pub source-there : (k m : ℕ) → slice_get ids k ≡ Some m → (source : ReadFile)
      × (source_in call linked.reached k ≡ Some source) × IsSourceOf by_place k source
  source-there k m at =
      let place = place_of p entry call w linked.reached l.reached k m at in
      let source = source_of p entry call w linked.reached l.reached place.0 m place.2 in
      let there : source_in call linked.reached k ≡ Some source.0 =
      ap (option_and_then (slice_get call.program.now.sources.items)) place.1 ∙ source.1 in
      (source.0, there, l.links.by_places.sources k source.0 there)

  -- the file at that place has the module's number
  pub number-there : (k m : ℕ) → slice_get ids k ≡ Some m → (file : FileName × ℕ) →
      IsFileAt call linked.reached k file → file.1 ≡ m
  number-there k m at file its =
      let place = place_of p entry call w linked.reached l.reached k m at in
      let same : its.0 ≡ place.0 = same_Some its.0 place.0 (sym its.1 ∙ place.1) in
      let files = call.program.now.files.files.now in
      same_Some file.1 m
      (sym (slice_get-map file_number files its.0 ∙ ap (option_map file_number) its.2)
      ∙ ap (slice_get (numbers_of files)) same
      ∙ ap (λ (numbers : List ℕ). slice_get numbers place.0) (sym w.program.files.ids)
      ∙ place.2)

  -- which is below the count of the call
  pub below-count : (k m : ℕ) → slice_get ids k ≡ Some m → m < call.program.now.count
  below-count k m at =
      let place = place_of p entry call w linked.reached l.reached k m at in
      w.program.count m (held (ids_of call) m place.0 place.2)

  -- the second program is the first by places
  pub are-places : IsByPlaces p by_place ids graph
  are-places = record {
    is_list = l.reached.is_list;
    alike = l.links.by_places.alike;
    graph = graph-noted p call.program.now.files w.program.files linked.reached l.reached;
  }

  -- no fault is there, each request leads to a module, and trees are fit
  pub are-known : AreKnown p by_place ids
  are-known = record {
    is_list = l.reached.is_list;
    faultless = l.links.faultless;
    trees = λ m reached. (its-source m reached).1.faultless;
    leads = leads-all p call.program.now.files w.program.files linked.reached l.reached;
    fit = record { each = λ m reached. (its-source m reached).1.fit };
    alike = l.links.by_places.alike;
    modules = l.links.modules;
  }

  -- the modules of the second program are those of the first
  pub are-moved : AreMoved p by_place ids
  are-moved = record {
    alike = l.links.by_places.alike;
    modules = l.links.by_places.modules;
  }

  -- they are linked, whatever tells which of them have an `import.meta`, and how many statements of
  -- its own each has
  pub are-linked : (meta : ℕ → Bool) (count : ℕ → ℕ) → AreTablesTold by_place (length ids) meta count →
      AreTablesLinked by_place (length ids) linked.linking meta count
  are-linked meta count told =
      linked-by p by_place ids graph are-places linked.linking meta count l.links.linked
      l.links.handed l.links.modules told

  -- which is so of what their trees say
  pub are-told : AreTablesTold by_place (length ids) (λ k. has_import_meta (tree_of by_place k))
      (λ k. length (own_statements (tree_of by_place k)))
  are-told = record { meta_told = λ k below. refl; counted = λ k below. refl }

  -- the plan is that of the list
  pub is-planned : IsPlanAsked p.settings.in_standard_order graph p.entry ids linked.plan
  is-planned = l.planned

  -- what is made of the modules by their places, as they are linked and planned, is merged right
  module _ (meta : ℕ → Bool) (count : ℕ → ℕ) (told : AreTablesTold by_place (length ids) meta count) (hooks : Hooks) (context : BundleContexts) (answers : ℕ → Option HookAnswer) where
    abbrev pub decided : Decided
    decided =
        decided_by linked.linking meta count (length ids) (map block_of linked.plan.blocks.items)
