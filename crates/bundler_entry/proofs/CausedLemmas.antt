-- What is told of the items of an entry's bundle is just what is due.
use Rattle.std.proofs.Common.{◌≡◌, inl, inr, ℕ, zero, suc, ◌+◌, ◌<◌, Bool, true, false, List, [], ◌∷◌, ◌++◌, Option, Some, None, Contains, length, map, refl, sym, ap, ap₂, ◌∙◌, subst, if◌then◌else◌, length-append, arith}
use Rattle.std.specs.Prelude.{flat_map, slice_get, unwrap_or}
use Rattle.std.specs.List.{AllZip, list_any}
use Rattle.std.specs.Option.{option_and_then}
use Rattle.std.specs.declared.alloc.Global.{Global}
use Rattle.std.specs.declared.vec.Vec.{Vec}
use Rattle.std.proofs.lemmas.Bool.{false≢true}
use Rattle.std.proofs.lemmas.Option.{none-some, same_Some}
use Rattle.bundle_tree_names.specs.declared.file_name.FileName.{FileName}
use Rattle.bundle_syntax.specs.Item as h
use Rattle.bundle_syntax.specs.Item.{Item}
use Rattle.bundle_rules.specs.Bundle.{AsCall, AsModule, Chosen, IsDue, form_of}
use Rattle.bundle_rules.specs.Cleared.{cleared}
use Rattle.bundle_rules.specs.Entries.{has_import_meta}
use Rattle.bundle_rules.specs.Headline.{causes_in_order}
use Rattle.bundle_rules.specs.Program.{Program, tree_of}
use Rattle.bundle_rules.specs.Statements.{Element, TopItem, own_statements, stated, top_items}
use Rattle.bundle_link_index.proofs.ProgramLemmas.{any_there, there_of_any}
use Rattle.bundle_link.proofs.NumbersLemmas.{there_is}
use Rattle.bundle_link.specs.declared.reached.Reached.{Reached}
use Rattle.bundle_link_targets.specs.declared.linking.Linking.{Linking}
use Rattle.bundle_order_sort.specs.declared.plan.Block.{Block}
use Rattle.bundle_scope_names.proofs.Kept.{length-snoc as long_push}
use Rattle.bundle_merge_theory.specs.moved.Renumbered.{cause_at}
use Rattle.bundle_merge_theory.specs.planned.Blocks.{block_of}
use Rattle.bundle_merge_theory.specs.planned.Decided.{AreDecided, DecidedBlock, numbers_from}
use Rattle.bundle_merge_theory.specs.sound.Decided.{AreTablesLinked, AreTablesTold, decided_by}
use Rattle.bundle_merge_theory.proofs.grouped.ClearedLemmas.{cleared_top, top_items-cleared}
use Rattle.bundle_merge_theory.proofs.sound.Decided.{decided}
use Rattle.bundle_merge_causes.specs.Planned.{AreCausesDue, decided_in, form_called}
use Rattle.bundle_merge_causes.specs.Shape.{count_in, meta_in, shape_at}
use Rattle.bundle_merge_causes.specs.Standing.{AreCausesTold, HasFile}
use Rattle.bundle_merge_causes.specs.Told.{causes_told}
use Rattle.bundle_merge_causes.specs.declared.cause.BundleCauses.{BundleCauses}
use Rattle.bundle_merge_causes.specs.declared.cause.ItemCause.{ItemCause}
use Rattle.bundle_merge_causes.specs.declared.shape.ModuleShape.{ModuleShape}
use Rattle.bundle_merge_causes.proofs.Due.{planned-chosen, planned-cyclic, planned-either}
use Rattle.bundler_entry.specs.Caused.{AreFilesOfAll, AreItemsTold, AreShapesOfAll, IsFileOfModule, IsShapeOfModule}
use Rattle.bundler_entry.specs.Linked.{IsCallOf, IsFileAt, IsLinkedEntry, HasPlace, source_in}
use Rattle.bundler_entry.specs.Source.{list_of_source}
use Rattle.bundler_entry.specs.declared.call.EntryCall.{EntryCall}
use Rattle.bundler_entry.specs.declared.linked.LinkedEntry.{LinkedEntry}
use Rattle.bundler_entry.specs.declared.source.ReadFile.{ReadFile}
use Rattle.bundler_entry.proofs.PartsLemmas.{place-file}
use Rattle.bundler_entry.proofs.SourceLemmas.{each_push}
use Rattle.bundler_entry.proofs.Known.{are-linked, are-moved, are-places, are-told, by_place, is-planned, source-there}

-- ---- statements of a tree without contexts and notes
stated-cleared : (start : ℕ) (items : List Item) →
    length (stated start (cleared items)) ≡ length (stated start items)
stated-cleared start [] = refl
stated-cleared start (h.Open field (h.ImportDecl meta) ∷ rest) = refl
stated-cleared start (h.Open field (h.NamedExport meta) ∷ rest) = refl
stated-cleared start (h.Open field (h.ExportAll meta) ∷ rest) = refl
stated-cleared start (h.Open field (h.VarDecl kind meta) ∷ rest) = refl
stated-cleared start (h.Open field h.EmptyStmt ∷ rest) = refl
stated-cleared start (h.Open field h.ExportDecl ∷ rest) = refl
stated-cleared start (h.Open field h.ExportDefaultExpr ∷ rest) = refl
stated-cleared start (h.Open field h.ExportDefaultDecl ∷ rest) = refl
stated-cleared start (h.Open field _ ∷ rest) = refl
stated-cleared start (h.Ident field sym ctxt role ∷ rest) = refl
stated-cleared start (h.Hole field ∷ rest) = refl
stated-cleared start (h.Close ∷ rest) = refl

-- what top items state
abbrev stated_top : TopItem → List (List Element)
stated_top top = stated top.start top.items

tops-cleared : (tops : List TopItem) →
    length (flat_map stated_top (map cleared_top tops)) ≡ length (flat_map stated_top tops)
tops-cleared [] = refl
tops-cleared (top ∷ tops) =
    length-append (stated_top (cleared_top top)) (flat_map stated_top (map cleared_top tops))
    ∙ (ap₂ (λ m n. m + n) (stated-cleared top.start top.items) (tops-cleared tops)
    ∙ sym (length-append (stated_top top) (flat_map stated_top tops)))

own-cleared : (tree : List Item) →
    length (own_statements (cleared tree)) ≡ length (own_statements tree)
own-cleared tree =
    ap (λ tops. length (flat_map stated_top tops)) (top_items-cleared tree)
    ∙ tops-cleared (top_items tree)

-- ---- lists
zip-from : {A B : Type 0} (Q : A → B → Type 0) (xs : List A) (ys : List B) →
    length xs ≡ length ys →
    ((k : ℕ) (x : A) (y : B) → slice_get xs k ≡ Some x → slice_get ys k ≡ Some y → Q x y) →
    AllZip Q xs ys
zip-from Q [] [] long each = tt
zip-from Q [] (y ∷ ys) long each = absurd (omega (arith, long))
zip-from Q (x ∷ xs) [] long each = absurd (omega (arith, long))
zip-from Q (x ∷ xs) (y ∷ ys) long each = (
  each zero x y refl refl,
  zip-from Q xs ys (omega (arith, long)) (λ k a b at there. each (suc k) a b at there),
)

-- no block is sorted
unsorted-of : (blocks : List Block) → list_any (λ (block : Block). block.is_cycle) blocks ≡ false →
    (block : Block) → Contains blocks block → block.is_cycle ≡ false
unsorted-of blocks none block there = by block.is_cycle refl
  where
    by : (t : Bool) → block.is_cycle ≡ t → t ≡ false
    by false e = refl
    by true e =
        absurd
        (false≢true
        (sym none ∙ any_there (λ (block : Block). block.is_cycle) blocks block there e))

-- ---- files and shapes
-- what an option leads to
found-from : {A B : Type 0} (f : A → Option B) (o : Option A) (y : B) →
    option_and_then f o ≡ Some y → (x : A) × (o ≡ Some x) × (f x ≡ Some y)
found-from f None y is = absurd (none-some y is)
found-from f (Some x) y is = (x, refl, is)

-- the file that is found is there
pub file-there : (call : EntryCall) (reached : Reached) (k : ℕ) (o : Option (FileName × ℕ)) (pair : FileName × ℕ) →
    o ≡ option_and_then (slice_get call.program.now.files.files.now) (slice_get reached.places.items k) →
    o ≡ Some pair → IsFileAt call reached k pair
file-there call reached k o pair same is =
    found-from (slice_get call.program.now.files.files.now) (slice_get reached.places.items k) pair
    (sym same ∙ is)

-- one is
pub file-found : (call : EntryCall) (reached : Reached) (k : ℕ) (o : Option (FileName × ℕ)) (pair : FileName × ℕ) →
    o ≡ option_and_then (slice_get call.program.now.files.files.now) (slice_get reached.places.items k) →
    IsFileAt call reached k pair → o ≡ Some pair
file-found call reached k o pair same its =
    same ∙ (ap (option_and_then (slice_get call.program.now.files.files.now)) its.1 ∙ its.2)

-- one more
pub files-more : (call : EntryCall) (reached : Reached) (n : ℕ) (files more : List FileName)
    (file : FileName) → more ≡ files ++ file ∷ [] → IsFileOfModule call reached n file →
    AreFilesOfAll call reached n files → AreFilesOfAll call reached (n + 1) more
files-more call reached n files more file is its are =
    subst (AreFilesOfAll call reached (n + 1)) (sym is) (record {
      long = let long = long_push files file in omega (arith, long, are.long);
      each = each_push (IsFileOfModule call reached) files file n are.long are.each its;
    })

pub shapes-more : (call : EntryCall) (reached : Reached) (n : ℕ) (shapes more : List ModuleShape)
    (shape : ModuleShape) → more ≡ shapes ++ shape ∷ [] → IsShapeOfModule call reached n shape →
    AreShapesOfAll call reached n shapes → AreShapesOfAll call reached (n + 1) more
shapes-more call reached n shapes more shape is its are =
    subst (AreShapesOfAll call reached (n + 1)) (sym is) (record {
      long = let long = long_push shapes shape in omega (arith, long, are.long);
      each = each_push (IsShapeOfModule call reached) shapes shape n are.long are.each its;
    })

-- something was read of a module
pub source-found : (call : EntryCall) (reached : Reached) (k : ℕ) →
    HasPlace call.program.now.sources.items reached k → (o : Option ReadFile) →
    o ≡ source_in call reached k → o ≡ None → ⊥
source-found call reached k its o same none =
    none-some its.source (sym none ∙ (same
    ∙ (ap (option_and_then (slice_get call.program.now.sources.items)) its.its_place ∙ its.its_source)))

-- these causes are due, of whatever these are the shapes and this the linking
abbrev pub AreAllDue : Linking → List ModuleShape → Bool → List ItemCause → Type 0
AreAllDue linking shapes is_call causes = (q : Program) (blocks : List DecidedBlock) →
    AreTablesLinked q (length shapes) linking (meta_in shapes) (count_in shapes) →
    AreDecided q AsModule (decided_in linking shapes blocks) →
    AreCausesDue q (length shapes) is_call causes

-- ---- an entry
module _ (p : Program) (entry : ℕ) (call : EntryCall) (w : IsCallOf p entry call) (linked : LinkedEntry) (l : IsLinkedEntry p call linked) where
  abbrev ids : List ℕ
  ids = linked.reached.list.items

  abbrev q : Program
  q = by_place p entry call w linked l

  -- a block is sorted: modules stand in another order
  pub items-none : list_any (λ (block : Block). block.is_cycle) linked.plan.blocks.items ≡ true →
      AreItemsTold p linked.reached.list.items None
  items-none is =
      let some = there_of_any (λ (block : Block). block.is_cycle) linked.plan.blocks.items is in
      let its =
      planned-cyclic p q ids call.program.now.files.graph (are-places p entry call w linked l)
      (are-moved p entry call w linked l) linked.linking _ _
      (are-linked p entry call w linked l _ _ (are-told p entry call w linked l)) linked.plan
      (is-planned p entry call w linked l) some.0 some.1 some.2 in
      record {
        in_order = λ causes is. absurd (none-some causes is);
        due = λ causes is. absurd (none-some causes is);
        none = λ is either. elim either [
          | inl acyclic ↦ its.1 acyclic
          | inr asked ↦ false≢true (sym its.0 ∙ asked)
        ];
      }

  module _ (shapes : List ModuleShape) (are : AreShapesOfAll call linked.reached (length linked.reached.list.items) shapes) where
    -- what is told of a module at its place
    told-at : (k : ℕ) → k < length linked.reached.list.items →
        (meta_in shapes k ≡ has_import_meta (tree_of q k))
        × (count_in shapes k ≡ length (own_statements (tree_of q k)))
    told-at k below =
        let shape = there_is shapes k (omega (arith, below, are.long)) in
        let at = there_is ids k below in
        let its = are.each k shape.0 shape.1 in
        let read = source-there p entry call w linked l k at.0 at.1 in
        let same : its.source ≡ read.0 = same_Some its.source read.0 (sym its.there ∙ read.1) in
        let here : shape_at shapes k ≡ shape.0 =
        ap (λ o. unwrap_or o (record { has_import_meta = false; statements = 0 })) shape.1 in (
          ap (λ (s : ModuleShape). s.has_import_meta) here ∙ its.its.meta
              ∙ ap (λ (s : ReadFile). s.tables.has_import_meta) same ∙ read.2.meta,
          ap (λ (s : ModuleShape). s.statements) here ∙ its.its.counted
              ∙ ap (λ s. length (own_statements (list_of_source s))) same
              ∙ sym (own-cleared (list_of_source read.0))
              ∙ ap (λ tree. length (own_statements tree)) (sym read.2.list),
        )

    shapes-told : AreTablesTold q (length linked.reached.list.items) (meta_in shapes) (count_in shapes)
    shapes-told = record {
      meta_told = λ k below. (told-at k below).0;
      counted = λ k below. (told-at k below).1;
    }

    -- no block is sorted: what is due is told
    pub items-some : (is_call : Bool) (causes : Vec ItemCause Global) →
        is_call ≡ p.settings.iife →
        list_any (λ (block : Block). block.is_cycle) linked.plan.blocks.items ≡ false →
        AreAllDue linked.linking shapes is_call causes.items →
        AreItemsTold p linked.reached.list.items (Some causes)
    items-some is_call causes form none makes =
        let graph = call.program.now.files.graph in
        let places = are-places p entry call w linked l in
        let moved = are-moved p entry call w linked l in
        let planned = is-planned p entry call w linked l in
        let blocks = map block_of linked.plan.blocks.items in
        let tables =
        are-linked p entry call w linked l (meta_in shapes) (count_in shapes) shapes-told in
        let its =
        decided p q ids graph places linked.linking (meta_in shapes) (count_in shapes) tables linked.plan
        planned in
        let by_place_due =
        subst (λ n. Chosen (IsDue q (form_called is_call)) (causes_in_order q (numbers_from zero n)) (causes_told causes.items)) are.long
        (makes q blocks
        (subst
        (λ n. AreTablesLinked q n linked.linking (meta_in shapes) (count_in shapes)) (sym are.long)
        tables)
        (subst
        (λ n. AreDecided q AsModule
        (decided_by linked.linking (meta_in shapes) (count_in shapes) n blocks)) (sym are.long)
        its)) in
        let unsorted = unsorted-of linked.plan.blocks.items none in
        let due =
        planned-chosen p q ids graph places moved linked.linking (meta_in shapes) (count_in shapes)
        tables linked.plan planned unsorted is_call (causes_told causes.items) by_place_due in
        let told =
        subst (λ f. Chosen (IsDue p f) (causes_in_order p ids) (map (cause_at ids) (causes_told causes.items)))
        (ap (λ b. if b then AsCall else AsModule) form) due in
        record {
          in_order = λ other is.
              planned-either p q ids graph places moved linked.linking (meta_in shapes)
              (count_in shapes) tables linked.plan planned unsorted;
          due = λ other is.
              subst
              (λ (v : Vec ItemCause Global). Chosen (IsDue p (form_of p.settings))
              (causes_in_order p ids) (map (cause_at ids) (causes_told v.items)))
              (same_Some causes other is) told;
          none = λ is. absurd (none-some causes (sym is));
        }

  -- the files are those of the list
  pub files-told : (files : List FileName) →
      AreFilesOfAll call linked.reached (length linked.reached.list.items) files →
      AllZip (HasFile p) linked.reached.list.items files
  files-told files are =
      zip-from (HasFile p) ids files (sym are.long) (λ k m file at there.
      let its = are.each k file there in
      place-file p entry call w linked l k m at its.pair its.there
      ∙ ap (λ name. Some name) (sym its.named))

  -- files and items together
  pub all-told : (told : BundleCauses) →
      AreFilesOfAll call linked.reached (length linked.reached.list.items) told.modules.items →
      AreItemsTold p linked.reached.list.items told.items → AreCausesTold p told
  all-told told files items = record {
    list = ids;
    is_list = (are-places p entry call w linked l).is_list;
    modules = files-told told.modules.items files;
    items = items.in_order;
    due = items.due;
    none = items.none;
  }
