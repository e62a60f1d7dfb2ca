-- What is first among stages and listed modules.
-- Of the names that a module asks for the first that is wrong.
use Rattle.std.proofs.Common.{◌≡◌, ◌⊎◌, inl, inr, ℕ, zero, suc, ◌+◌, ◌<◌, ◌≤◌, List, Option, Some, None, length, get_or, refl, sym, ap, ◌∙◌, subst, arith, [], ◌∷◌, Contains, map}
use Rattle.std.specs.Prelude.{slice_get, flat_map}
use Rattle.std.proofs.lemmas.Option.{same_Some, slice_get-get_or}
use Rattle.std.proofs.lemmas.List.Elements.{Contains-append_cases}
use Rattle.bundle_tree_names.specs.FileName.{Name}
use Rattle.bundle_syntax.specs.Item.{Item}
use Rattle.bundle_rules.specs.Program.{Program, tree_of}
use Rattle.bundle_rules.specs.Faults as g
use Rattle.bundle_rules.specs.Faults.{JudgedNotAfter, ProgramFault, earlier_stage, earlier_module, same_module, name, NameFault, asked_by_export, asked_by_import, asked_by_item, asked_names}
use Rattle.bundle_rules.specs.Statements.{top_items}
use Rattle.bundle_rules.specs.Entries.{ImportEntry, ExportEntry, Taken, Named, Whole, Local, Indirect, Star, imports_of, imports_of_item, exports_of, exports_of_item}
use Rattle.bundle_rules.specs.Linking.{exports, imports, IsModule}
use Rattle.bundle_link_tables.specs.TablesOf.{asked_name_of}
use Rattle.bundle_link_tables.specs.declared.table.AskedName.{AskedName}
use Rattle.bundle_link_index.specs.Programs.{AsksFor, by_entry, by_import}
use Rattle.bundle_link_index.proofs.AskedLemmas.{flat_back, flat_on, only_one}
use Rattle.bundle_link_index.proofs.ProgramLemmas.{got_there}
use Rattle.bundle_link_targets.specs.declared.target.LinkFault.{LinkFault}
use Rattle.bundle_link_targets.specs.Judged.{HasNoStageFault, IsFirstFaultIn, IsFoundIn, IsFirst, IsStageJudged, fault_says}
use Rattle.bundle_link_targets.proofs.StageLemmas.{HoldsBelow, holds_all, holds_more, at_map, map_at, not_before}
use Rattle.bundle_link_targets.specs.Stages.{IsNameRight, IsWrongBy}
use Rattle.bundle_link_targets.proofs.AscendingLemmas.{name_there}

-- ---- judged
pub either : (i j : ℕ) → (i < j) ⊎ ((i ≡ j) ⊎ (j < i))
either zero zero = inr (inl refl)
either zero (suc j) = inl (omega arith)
either (suc i) zero = inr (inr (omega arith))
either (suc i) (suc j) = elim (either i j) [
  | inl l ↦ inl (omega arith)
  | inr (inl e) ↦ inr (inl (ap suc e))
  | inr (inr l) ↦ inr (inr (omega arith))
]

module _ (p : Program) (list : List ℕ) where
  -- none of the stages before, so what is judged of the next ones is judged of all
  pub judged_next : (from next below : ℕ) (found : Option LinkFault) → from ≤ next → IsStageJudged p list from next None → IsStageJudged p list next below found → IsStageJudged p list from below found
  judged_next from next below None less none more = λ j n stage place file f begun ended at there. elim (either stage next) [
    | inl early ↦ none j n stage place file f begun early at there
    | inr (inl same) ↦ more j n stage place file f (omega arith) ended at there
    | inr (inr late) ↦ more j n stage place file f (omega arith) ended at there
  ]
  judged_next from next below (Some fault) less none more = record {
    i = more.i;
    listed = more.listed;
    stage = more.stage;
    begun = let a = more.begun in omega arith;
    ended = more.ended;
    place = more.place;
    there = more.there;
    first = λ j n other its file f begun ended at there. elim (either other next) [
      | inl early ↦ absurd (none j n other its file f begun early at there)
      | inr (inl same) ↦ more.first j n other its file f (omega arith) ended at there
      | inr (inr late) ↦ more.first j n other its file f (omega arith) ended at there
    ];
  }

  -- what is first among stages is first among these and later ones
  pub judged_before : (from next below : ℕ) (fault : LinkFault) → next ≤ below → IsFirst p list from next fault → IsFirst p list from below fault
  judged_before from next below fault less first = record {
    i = first.i;
    listed = first.listed;
    stage = first.stage;
    begun = first.begun;
    ended = let a = first.ended in omega arith;
    place = first.place;
    there = first.there;
    first = λ j n other its file f begun ended at there. elim (either other next) [
      | inl early ↦ first.first j n other its file f begun early at there
      | inr (inl same) ↦ let a = first.ended in earlier_stage (omega arith)
      | inr (inr late) ↦ let a = first.ended in earlier_stage (omega arith)
    ];
  }

  -- one stage, module by module
  pub stage_none : (stage i : ℕ) → HoldsBelow (HasNoStageFault p stage) list i → (i < length list → ⊥) → IsStageJudged p list stage (suc stage) None
  stage_none stage i below ended = λ j n other place file f begun under at there.
      let same : other ≡ stage = omega arith in
      holds_all (HasNoStageFault p stage) list i below ended j n at file place f (subst (λ s. ProgramFault p file n s place f) same there)

  stage_first : (stage i m : ℕ) (fault : LinkFault) → HoldsBelow (HasNoStageFault p stage) list i → slice_get list i ≡ Some m → IsFirstFaultIn p stage m fault → IsFirst p list stage (suc stage) fault
  stage_first stage i m fault below stands first = record {
    i = i;
    listed = stands ∙ ap (λ n. Some n) (sym first.here);
    stage = stage;
    begun = omega arith;
    ended = omega arith;
    place = first.place;
    there = λ file. subst (λ n. ProgramFault p file n stage first.place (fault_says file fault)) (sym first.here) (first.there file);
    first = λ j n other its file f begun under at there.
        let same : other ≡ stage = omega arith in
        let here = subst (λ s. ProgramFault p file n s its f) same there in
        subst (λ s. JudgedNotAfter stage i first.place s j its) (sym same) (by j n its file f at here (either i j));
  }
    where
      by : (j n its : ℕ) (file : Name) (f : g.Fault) → slice_get list j ≡ Some n → ProgramFault p file n stage its f → (i < j) ⊎ ((i ≡ j) ⊎ (j < i)) → JudgedNotAfter stage i first.place stage j its
      by j n its file f at there (inl less) = earlier_module less
      by j n its file f at there (inr (inr less)) = absurd (below j n less at file its f there)
      by j n its file f at there (inr (inl same)) =
          let one : m ≡ n = same_Some m n (sym stands ∙ ap (slice_get list) same ∙ at) in
          let least = first.least file its f (subst (λ k. ProgramFault p file k stage its f) (sym one) there) in
          subst (λ k. JudgedNotAfter stage i first.place stage k its) same (same_module least)

  pub stage_some : (stage i d : ℕ) (found : Option LinkFault) (fault : LinkFault) → HoldsBelow (HasNoStageFault p stage) list i → i < length list → found ≡ Some fault → IsFoundIn p stage (get_or list i d) found → IsFirst p list stage (suc stage) fault
  stage_some stage i d found fault below inside is its = stage_first stage i (get_or list i d) fault below (slice_get-get_or list i d inside) (subst (IsFoundIn p stage (get_or list i d)) is its)

  pub stage_more : (stage i d : ℕ) (found : Option LinkFault) → HoldsBelow (HasNoStageFault p stage) list i → found ≡ None → IsFoundIn p stage (get_or list i d) found → HoldsBelow (HasNoStageFault p stage) list (i + 1)
  stage_more stage i d found below is its = holds_more (HasNoStageFault p stage) list i d below (subst (IsFoundIn p stage (get_or list i d)) is its)

  pub judged_some : (from next below : ℕ) (found : Option LinkFault) (fault : LinkFault) → found ≡ Some fault → next ≤ below → IsStageJudged p list from next found → IsStageJudged p list from below (Some fault)
  judged_some from next below found fault is less judged = judged_before from next below fault less (subst (IsStageJudged p list from next) is judged)

  pub judged_none : (from next below : ℕ) (found rest : Option LinkFault) → found ≡ None → from ≤ next → IsStageJudged p list from next found → IsStageJudged p list next below rest → IsStageJudged p list from below rest
  judged_none from next below found rest is less first more = judged_next from next below rest less (subst (IsStageJudged p list from next) is first) more

-- ---- a name that is asked for is asked for by an import or an indirect export
asked_from : (tree : List Item) (asked : g.AskedName) → Contains (asked_names tree) asked → Contains (flat_map asked_by_import (imports_of tree)) asked ⊎ Contains (flat_map asked_by_export (exports_of tree)) asked
asked_from tree asked there =
    let r = flat_back (λ top. asked_by_item (imports_of tree) top.items) (top_items tree) asked there in
    elim (Contains-append_cases (flat_map asked_by_import (imports_of_item r.0.items)) (flat_map asked_by_export (exports_of_item (imports_of tree) r.0.items)) asked r.2) [
      | inl here ↦
          let k = flat_back asked_by_import (imports_of_item r.0.items) asked here in
          inl (flat_on asked_by_import (imports_of tree) k.0 asked (flat_on (λ top. imports_of_item top.items) (top_items tree) r.0 k.0 r.1 k.1) k.2)
      | inr here ↦
          let k = flat_back asked_by_export (exports_of_item (imports_of tree) r.0.items) asked here in
          inr (flat_on asked_by_export (exports_of tree) k.0 asked (flat_on (λ top. exports_of_item (imports_of tree) top.items) (top_items tree) r.0 k.0 r.1 k.1) k.2)
    ]

import_asks : (p : Program) (m : ℕ) (entry : ImportEntry) (asked : g.AskedName) → Contains (imports p m) entry → Contains (asked_by_import entry) asked → AsksFor p m asked.specifier
import_asks p m entry asked stands here = by entry.taken here
  where
    by : (taken : Taken) → Contains (elim taken [ Named x ↦ record { specifier = entry.specifier; name = x } ∷ [] | Whole ↦ [] ]) asked → AsksFor p m asked.specifier
    by (Named x) here = subst (λ (a : g.AskedName). AsksFor p m a.specifier) (only_one (record { specifier = entry.specifier; name = x }) asked here) (by_import entry stands)
    by Whole here = absurd (omega (arith, here.1))

export_asks : (p : Program) (m : ℕ) (entry : ExportEntry) (asked : g.AskedName) → Contains (exports p m) entry → Contains (asked_by_export entry) asked → AsksFor p m asked.specifier
export_asks p m (Local x y) asked stands here = absurd (omega (arith, here.1))
export_asks p m (Indirect x s (Named y)) asked stands here = subst (λ (a : g.AskedName). AsksFor p m a.specifier) (only_one (record { specifier = s; name = y }) asked here) (by_entry stands)
export_asks p m (Indirect x s Whole) asked stands here = absurd (omega (arith, here.1))
export_asks p m (Star s) asked stands here = absurd (omega (arith, here.1))

asks_name : (p : Program) (m : ℕ) (asked : g.AskedName) → Contains (asked_names (tree_of p m)) asked → AsksFor p m asked.specifier
asks_name p m asked there = elim (asked_from (tree_of p m) asked there) [
  | inl here ↦ let k = flat_back asked_by_import (imports p m) asked here in import_asks p m k.0 asked k.1 k.2
  | inr here ↦ let k = flat_back asked_by_export (exports p m) asked here in export_asks p m k.0 asked k.1 k.2
]

-- ---- the names of a table
module _ (p : Program) (m : ℕ) (xs : List AskedName) (are : map asked_name_of xs ≡ asked_names (tree_of p m)) where
  name_at : (i : ℕ) (x : AskedName) → slice_get xs i ≡ Some x → slice_get (asked_names (tree_of p m)) i ≡ Some (asked_name_of x)
  name_at i x at = sym (ap (λ l. slice_get l i) are) ∙ at_map asked_name_of xs i x at

  pub name_asks : (i : ℕ) (d : AskedName) → i < length xs → AsksFor p m (get_or xs i d).specifier.now
  name_asks i d inside =
      let x = get_or xs i d in
      asks_name p m (asked_name_of x) (got_there (asked_names (tree_of p m)) i (asked_name_of x) (name_at i x (slice_get-get_or xs i d inside)))

  -- a name with a fault, behind none
  pub name_some : (i : ℕ) (d : AskedName) (found : Option LinkFault) (fault : LinkFault) → HoldsBelow (IsNameRight p m) xs i → i < length xs → found ≡ Some fault → IsWrongBy p m (get_or xs i d).specifier.now (get_or xs i d).name.now found → IsFoundIn p 5 m (Some fault)
  name_some i d found fault below inside is its =
      let x = get_or xs i d in
      let w : IsWrongBy p m x.specifier.now x.name.now (Some fault) = subst (IsWrongBy p m x.specifier.now x.name.now) is its in
      record {
        here = w.2.here;
        place = i;
        there = λ file. name (asked_name_of x) (name_at i x (slice_get-get_or xs i d inside)) w.1 (w.2.wrong file);
        least = λ file other f there.
            let r = name_there there refl in
            let k = map_at asked_name_of xs other r.0 (ap (λ l. slice_get l other) are ∙ r.2) in
            not_before (IsNameRight p m) xs i other k.0 below k.1
            (λ right. right r.1 (subst (λ (a : g.AskedName). IsModule p m a.specifier r.1) (sym k.2) r.3) file f (subst (λ (a : g.AskedName). NameFault p r.1 a.name file f) (sym k.2) r.4));
      }

  pub name_none : (i : ℕ) → HoldsBelow (IsNameRight p m) xs i → (i < length xs → ⊥) → IsFoundIn p 5 m None
  name_none i below ended = λ file place f there.
      let r = name_there there refl in
      let k = map_at asked_name_of xs place r.0 (ap (λ l. slice_get l place) are ∙ r.2) in
      holds_all (IsNameRight p m) xs i below ended place k.0 k.1 r.1
      (subst (λ (a : g.AskedName). IsModule p m a.specifier r.1) (sym k.2) r.3) file f (subst (λ (a : g.AskedName). NameFault p r.1 a.name file f) (sym k.2) r.4)

  pub name_more : (i : ℕ) (d : AskedName) (found : Option LinkFault) → HoldsBelow (IsNameRight p m) xs i → found ≡ None → IsWrongBy p m (get_or xs i d).specifier.now (get_or xs i d).name.now found → HoldsBelow (IsNameRight p m) xs (i + 1)
  name_more i d found below is its = holds_more (IsNameRight p m) xs i d below (subst (IsWrongBy p m (get_or xs i d).specifier.now (get_or xs i d).name.now) is its)
