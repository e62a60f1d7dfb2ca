-- Which context each label of a bundle's top has, and that no two of them have one identifier.
-- What is so of a name of an item by itself, as it is noted where the items stand together.
-- The table of a bundle: it has each name that is told to mean a label, and tells labels apart.
use Rattle.std.proofs.Common.{◌≡◌, ◌<◌, ℕ, List, Option, refl, ap, sym, ◌∙◌, subst, true, false, None, arith, ◌⊎◌, inl, inr, suc, [], ◌∷◌, ◌++◌, Some}
use Rattle.std.specs.Prelude.{Contains, codes, find, slice_get, fold}
use Rattle.std.proofs.lemmas.Bool.{false≢true, false_from_ne_true}
use Rattle.std.specs.List.{AllZip}
use Rattle.std.proofs.lemmas.List.Elements.{Contains-append_cases}
use Rattle.bundle_syntax.specs.Item.{Item}
use Rattle.bundle_rules.specs.Idents.{Ident, ident_of}
use Rattle.bundle_rules.specs.Nodes.{Text}
use Rattle.bundle_rules.specs.Program.{Program, IsReached, tree_of}
use Rattle.bundle_rules.specs.Linking.{IsCommonJs, Declared}
use Rattle.bundle_rules.specs.Meaning.{Label, Of, Meant, Known, Parameter}
use Rattle.bundle_rules.specs.Bundle as b
use Rattle.bundle_rules.specs.Bundle.{Cause, Own, Defines, AsModule, Form, IsDue, Hooks}
use Rattle.bundle_rules.specs.Places.{Occurrence, Spot, past, occurrences_from}
use Rattle.bundle_rules.specs.Scopes.{Es, scopes_around}
use Rattle.bundle_rules.specs.Declarations.{ByContext, name_of}
use Rattle.bundle_rules.specs.Homes.{is_function}
use Rattle.bundle_rules.specs.Denotes.{Denoted, Global}
use Rattle.bundle_rules.specs.Sorting.{flat}
use Rattle.bundle_link_index.proofs.ProgramLemmas.{got_there as at-contains}
use Rattle.bundle_merge_theory.specs.joined.Joined.{is_item_top_name}
use Rattle.bundle_merge_theory.specs.joined.Notes.{its_name, own_denoted, is_inner_denoted, IsOccurrenceNoted, inner, top_name, free, IsListedIn}
use Rattle.bundle_merge_theory.specs.loaded.Contexts as in_contexts
use Rattle.bundle_merge_theory.specs.loaded.Contexts.{OwnEntry}
use Rattle.bundle_merge_theory.proofs.joined.Bindings.{Contains-cons, Contains-none}
use Rattle.bundle_merge_theory.proofs.joined.Paths.{occurrences-append, item-occurrences}
use Rattle.bundle_merge_theory.specs.walked.Renaming.{ItemMeaning}
use Rattle.bundle_merge_theory.specs.made.Given.{HookAnswer, BundleContexts, Holder, TopOf, NameOf, ident_of_label, numbers_in}
use Rattle.bundle_merge_theory.specs.made.Alone as a
use Rattle.bundle_merge_theory.specs.made.Alone.{AddsLabel, DeclaresLabel, IsTopLabel, IsHolder, TellApart, OwnsHolder, NameAlone, StatementAlone, StatementsAlone, ItemAlone, IsItemAlone}
use Rattle.bundle_merge_theory.specs.composed.Names.{LabelTable, NameNoted, is_one_inside, is_known, is_known_top, is_free, labelled_inner, IsLabelTable, IsLabelled, labelled_top, StatementNamed, StatementsNamed, ItemNoted}
use Rattle.bundle_merge_theory.specs.together.Together.{AreMergedTogether}
use Rattle.bundle_merge_theory.proofs.together.Statements.{top-there, top-from}
use Rattle.bundle_merge_theory.specs.composed.Noted.{NotedItem, AsWhole, AsFunction, function_ends, IsNotedFor, as_whole, as_function, first_spot}
use Rattle.bundle_merge_theory.specs.together.Table.{known_entries, front_entries, statements_entries, item_entries, table_of, AllAloneAs, HasItemNotes, HasOneEntries}
use Rattle.bundle_merge_theory.proofs.together.End.{Includes, includes-left, includes-right, zip-known, zip-front, ComesFrom, known-from, front-from, from-left, from-right, from-more}

-- ---- holders

-- an own statement that is due is one of a module that is reached and is none of CommonJS
pub due-own : (p : Program) (form : Form) {cause : Cause} {m k : ℕ} → IsDue p form cause →
    cause ≡ Own m k → IsReached p m × (IsCommonJs p m → ⊥)
due-own p form {m = m} (b.own {m = n} reached es there) e =
    let same : n ≡ m = cc in
    subst (λ q. IsReached p q × (IsCommonJs p q → ⊥)) same (reached, es)
due-own p form (b.imports_names used its) e = absurd cc
due-own p form (b.imports_whole used its) e = absurd cc
due-own p form (b.imports_nothing used its whole) e = absurd cc
due-own p form (b.helps reached its) e = absurd cc
due-own p form (b.defines reached its) e = absurd cc
due-own p form (b.loads reached es asks) e = absurd cc
due-own p form (b.holds_meta reached its) e = absurd cc
due-own p form (b.holds_namespace its) e = absurd cc
due-own p form (b.stars its) e = absurd cc
due-own p form (b.exports is its) e = absurd cc
due-own p form (b.returns is) e = absurd cc

-- a function that is due is one of a CommonJS module that is reached
pub due-defines : (p : Program) (form : Form) {cause : Cause} {c : ℕ} → IsDue p form cause →
    cause ≡ Defines c → IsReached p c × IsCommonJs p c
due-defines p form {c = c} (b.defines {c = n} reached its) e =
    let same : n ≡ c = cc in subst (λ q. IsReached p q × IsCommonJs p q) same (reached, its)
due-defines p form (b.own reached es there) e = absurd cc
due-defines p form (b.imports_names used its) e = absurd cc
due-defines p form (b.imports_whole used its) e = absurd cc
due-defines p form (b.imports_nothing used its whole) e = absurd cc
due-defines p form (b.helps reached its) e = absurd cc
due-defines p form (b.loads reached es asks) e = absurd cc
due-defines p form (b.holds_meta reached its) e = absurd cc
due-defines p form (b.holds_namespace its) e = absurd cc
due-defines p form (b.stars its) e = absurd cc
due-defines p form (b.exports is its) e = absurd cc
due-defines p form (b.returns is) e = absurd cc

-- what has the context of a label of the top: the top of its module, or the label
pub data HoldsLabel (p : Program) : Label → Holder → Type 0 where
  by_module : {m : ℕ} {x : Text} →
      IsReached p m →
      (IsCommonJs p m → ⊥) →
      HoldsLabel p (Of (Declared m x)) (TopOf m)
  by_name : {l : Label} (cause : Cause) →
      IsDue p AsModule cause →
      AddsLabel p cause l →
      HoldsLabel p l (NameOf l)

pub holds-of : (p : Program) {cause : Cause} {l : Label} → IsDue p AsModule cause →
    DeclaresLabel p cause l → (h : Holder) × HoldsLabel p l h
holds-of p due (a.own {m = m} {x = x} statement e at there declares) =
    let its = due-own p AsModule due refl in (TopOf m, by_module its.0 its.1)
holds-of p {cause = cause} {l = l} due (a.adds its) = (NameOf l, by_name cause due its)

pub holds : (p : Program) (l : Label) → IsTopLabel p l → (h : Holder) × HoldsLabel p l h
holds p l top = holds-of p top.due top.declares

pub holder-is : (p : Program) (answers : ℕ → Option HookAnswer) {l : Label} {h : Holder} →
    HoldsLabel p l h → IsHolder p answers h
holder-is p answers (by_module reached es) = a.top_of reached
holder-is p answers (by_name cause due its) = a.added cause due its

module _ (p : Program) (list : List ℕ) (context : BundleContexts) where
  added-context : {cause : Cause} {l : Label} → AddsLabel p cause l →
      (ident_of_label p list context l).1 ≡ context (NameOf l)
  added-context (a.imports_name its) = refl
  added-context a.imports_whole = refl
  added-context a.helps = refl
  added-context a.defines = refl
  added-context (a.loads its) = refl
  added-context a.holds_meta = refl
  added-context a.holds_namespace = refl

  -- its context is that of its holder
  pub holder-context : {l : Label} {h : Holder} → HoldsLabel p l h →
      (ident_of_label p list context l).1 ≡ context h
  holder-context (by_module reached es) = refl
  holder-context (by_name cause due its) = added-context its

  -- labels of one holder and one symbol are one
  pub holders-one : {l other : Label} {h k : Holder} → HoldsLabel p l h → HoldsLabel p other k →
      h ≡ k → (ident_of_label p list context l).0 ≡ (ident_of_label p list context other).0 →
      l ≡ other
  holders-one (by_module {m = m} {x = x} reached es) (by_module {m = n} {x = y} its other) same
      symbols =
      let modules : m ≡ n = cc in λ i. Of (Declared (modules i) (symbols i))
  holders-one (by_module reached es) (by_name cause due its) same symbols = absurd cc
  holders-one (by_name cause due its) (by_module reached es) same symbols = absurd cc
  holders-one (by_name {l = l} cause due its) (by_name {l = other} with_cause is also) same
      symbols =
      cc

  module _ (answers : ℕ → Option HookAnswer) (apart : TellApart p answers context) where
    -- no two labels of the top have one identifier
    pub labels-apart : (l other : Label) → IsTopLabel p l → IsTopLabel p other →
        ident_of_label p list context l ≡ ident_of_label p list context other → l ≡ other
    labels-apart l other top its same =
        let one = holds p l top in
        let two = holds p other its in
        let contexts : context one.0 ≡ context two.0 =
        sym (holder-context one.1)
        ∙ ap (λ (i : Ident). i.1) same
        ∙ holder-context two.1 in
        holders-one one.1 two.1
        (apart.apart one.0 two.0 (holder-is p answers one.1) (holder-is p answers two.1) contexts)
        (ap (λ (i : Ident). i.0) same)

    -- its context is above that of globals
    pub label-above : (l : Label) → IsTopLabel p l → 1 < (ident_of_label p list context l).1
    label-above l top =
        let one = holds p l top in
        subst (λ n. 1 < n) (sym (holder-context one.1))
        (apart.own one.0 (holder-is p answers one.1))

-- what stands only in the item of a cause has no label of the top
pub owned-no-label : (p : Program) {cause : Cause} {h : Holder} {l : Label} {k : Holder} →
    OwnsHolder p cause h → ((c : ℕ) → cause ≡ Defines c → h ≡ TopOf c → ⊥) → HoldsLabel p l k →
    h ≡ k → ⊥
owned-no-label p (a.own statement at there) other (by_module reached es) e = cc
owned-no-label p (a.own statement at there) other (by_name cause due its) e = cc
owned-no-label p a.defines_inside other (by_module reached es) e = cc
owned-no-label p a.defines_inside other (by_name cause due its) e = cc
owned-no-label p (a.defines_top {c = c}) other its e = other c refl refl
owned-no-label p a.holds_meta other (by_module reached es) e = cc
owned-no-label p a.holds_meta other (by_name cause due its) e = cc
owned-no-label p a.holds_written other (by_module reached es) e = cc
owned-no-label p a.holds_written other (by_name cause due its) e = cc
owned-no-label p a.helps_parameter other (by_module reached es) e = cc
owned-no-label p a.helps_parameter other (by_name cause due its) e = cc
owned-no-label p a.helps_variable other (by_module reached es) e = cc
owned-no-label p a.helps_variable other (by_name cause due its) e = cc

-- and neither has the top of a CommonJS module
pub function-no-label : (p : Program) {c : ℕ} {l : Label} {k : Holder} → IsCommonJs p c →
    HoldsLabel p l k → TopOf c ≡ k → ⊥
function-no-label p {c = c} its (by_module {m = m} reached es) e =
    let same : c ≡ m = cc in es (subst (IsCommonJs p) same its)
function-no-label p its (by_name cause due adds) e = cc

-- ---- names

-- the context of a name of a CommonJS module that is no binding inside a statement
pub entry-context : (context : BundleContexts) (c : ℕ) (tree : List Item) {i : Ident} {l : Label} →
    OwnEntry c (numbers_in context c) tree i l → i.1 ≡ context (TopOf c)
entry-context context c tree (in_contexts.top_entry i m at) = refl
entry-context context c tree (in_contexts.wrapper_entry i m at) = refl
entry-context context c tree (in_contexts.parameter_entry x which) = refl

-- a name has the context of what stands only in the item of this cause, and of no label
pub record IsOwnName (p : Program) (answers : ℕ → Option HookAnswer) (context : BundleContexts)
    (cause : Cause) (o : Occurrence) : Type 0 where
  pub holder : Holder
  pub owns : OwnsHolder p cause holder
  pub is : IsHolder p answers holder
  pub never : (l : Label) (k : Holder) → HoldsLabel p l k → holder ≡ k → ⊥
  pub its : o.ctxt ≡ context holder

module _ (p : Program) (hooks : Hooks) (list : List ℕ) (context : BundleContexts)
    (answers : ℕ → Option HookAnswer) (plan : List Cause) (items : List (List Item))
    (its : AreMergedTogether p hooks list context answers plan items) where
  -- what has the context of no label is no name of the top
  pub own-not-top : (cause : Cause) (o : Occurrence) → IsOwnName p answers context cause o →
      is_item_top_name items (its_name o) ≡ false
  own-not-top cause o own =
      false_from_ne_true (is_item_top_name items (its_name o)) (λ top.
      let from = top-from p hooks list context answers plan items its o.sym o.ctxt top in
      let held = holds p from.0 from.1 in
      own.never from.0 held.0 held.1
      (its.apart.apart own.holder held.0 own.is (holder-is p answers held.1)
      (sym own.its ∙ ap (λ (i : Ident). i.1) from.2 ∙ holder-context p list context held.1)))

  -- and neither is what has that of globals
  pub one-not-top : (o : Occurrence) → o.ctxt ≡ 1 → is_item_top_name items (its_name o) ≡ false
  one-not-top o one =
      false_from_ne_true (is_item_top_name items (its_name o)) (λ top.
      let from = top-from p hooks list context answers plan items its o.sym o.ctxt top in
      let above = label-above p list context answers its.apart from.0 from.1 in
      let same : 1 ≡ (ident_of_label p list context from.0).1 =
      sym one ∙ ap (λ (i : Ident). i.1) from.2 in
      omega (arith, above, same))

  pub label-top : (o : Occurrence) (l : Label) → IsTopLabel p l →
      ident_of o ≡ ident_of_label p list context l → is_item_top_name items (its_name o) ≡ true
  label-top o l top same =
      ap (λ (i : Ident). is_item_top_name items (name_of ByContext i.0 i.1)) same
      ∙ top-there p hooks list context answers plan items its l top

  -- an item for its cause
  module _ (cause : Cause) (due : IsDue p AsModule cause) (item : List Item) where
    pub inside-own : (o : Occurrence) (holder : Holder) → OwnsHolder p cause holder →
        ((c : ℕ) → cause ≡ Defines c → holder ≡ TopOf c → ⊥) → IsHolder p answers holder →
        o.ctxt ≡ context holder → IsOwnName p answers context cause o
    inside-own o holder owns other is its = record {
      holder = holder;
      owns = owns;
      is = is;
      never = λ l k held same. owned-no-label p owns other held same;
      its = its;
    }

    pub function-own : (o : Occurrence) (c : ℕ) (l : Label) → cause ≡ Defines c →
        OwnEntry c (numbers_in context c) (tree_of p c) (ident_of o) l →
        IsOwnName p answers context cause o
    function-own o c l is entry =
        let both = due-defines p AsModule due is in
        record {
          holder = TopOf c;
          owns = subst (λ k. OwnsHolder p k (TopOf c)) (sym is) a.defines_top;
          is = a.top_of both.0;
          never = λ l k held same. function-no-label p both.1 held same;
          its = entry-context context c (tree_of p c) entry;
        }

    module _ (begins : ℕ) (all : List Denoted) (o : Occurrence) where
      -- NOTED
      pub name-noted : (table : LabelTable) (meant : Meant) →
          NameAlone p list context answers cause item begins all o meant →
          ((l : Label) → meant ≡ Known l → Contains table (ident_of o, l)) →
          NameNoted items table item begins all o meant
      name-noted table meant (a.inside holder is within found owns other holds its) known =
          is_one_inside is
          (λ unwritten. own-not-top cause o (inside-own o holder owns other holds its)) within
          found
      name-noted table meant (a.of_top {l = l} not_inner never top same) known =
          is_known_top (label-top o l top same) not_inner (known l refl)
      name-noted table meant (a.of_function {c = c} {l = l} is out inside declared entry) known =
          is_known out
          (labelled_inner inside
          (λ unwritten. own-not-top cause o (function-own o c l is entry)) (known l refl))
      name-noted table meant (a.free one not_inner arguments) known =
          is_free one (one-not-top o one) not_inner

      pub note-of : (meant : Meant) →
          NameAlone p list context answers cause item begins all o meant → IsOccurrenceNoted items item o
      note-of meant (a.inside holder is within found owns other holds its) =
          inner is (λ unwritten. own-not-top cause o (inside-own o holder owns other holds its))
      note-of meant (a.of_top {l = l} not_inner never top same) =
          top_name (label-top o l top same) not_inner
      note-of meant (a.of_function {c = c} {l = l} is out inside declared entry) =
          inner inside (λ unwritten. own-not-top cause o (function-own o c l is entry))
      note-of meant (a.free one not_inner arguments) =
          free one (one-not-top o one) not_inner

      -- a free `arguments` is in no function
      pub arguments-free : (meant : Meant) →
          NameAlone p list context answers cause item begins all o meant →
          is_item_top_name items (its_name o) ≡ false →
          own_denoted item o ≡ Global (codes "arguments") → o.sym ≡ codes "arguments" →
          find is_function (scopes_around Es o.path) ≡ None
      arguments-free meant (a.inside holder is within found owns other holds its) unseen e x =
          absurd (false≢true (ap is_inner_denoted (sym e) ∙ is))
      arguments-free meant (a.of_top {l = l} not_inner never top same) unseen e x =
          absurd (false≢true (sym unseen ∙ label-top o l top same))
      arguments-free meant (a.of_function is out inside declared entry) unseen e x =
          absurd (false≢true (ap is_inner_denoted (sym e) ∙ inside))
      arguments-free meant (a.free one not_inner arguments) unseen e x = arguments x

-- ---- tables

-- What is told of all items.

pub notes-of : (p : Program) (hooks : Hooks) (list : List ℕ) (context : BundleContexts)
    (answers : ℕ → Option HookAnswer) (plan : List Cause) (items : List (List Item)) →
    AllZip (IsItemAlone p hooks list context answers) plan items →
    HasItemNotes p hooks list context answers plan items
notes-of p hooks list context answers [] [] all = record { noted = []; each = tt }
notes-of p hooks list context answers [] (item ∷ items) all = absurd all
notes-of p hooks list context answers (cause ∷ plan) [] all = absurd all
notes-of p hooks list context answers (cause ∷ plan) (item ∷ items) all =
    let rest = notes-of p hooks list context answers plan items all.1 in
    record {
      noted = all.0.noted ∷ rest.noted;
      each = (record { alone = all.0; its = refl }, rest.each);
    }

-- Names of CommonJS modules.

-- the module of such a label
abbrev label_number : Label → ℕ
label_number (Of (Declared m x)) = m
label_number (Parameter c x) = c
label_number _ = 0

entry-number : (c : ℕ) (context : BundleContexts) (tree : List Item) {i : Ident} {l : Label} →
    OwnEntry c (numbers_in context c) tree i l → label_number l ≡ c
entry-number c context tree (in_contexts.top_entry i m at) = refl
entry-number c context tree (in_contexts.wrapper_entry i m at) = refl
entry-number c context tree (in_contexts.parameter_entry x which) = refl

-- nothing adds such a label
adds-none : (p : Program) {cause : Cause} {l : Label} → AddsLabel p cause l →
    ((m : ℕ) (x : List ℕ) → l ≡ Of (Declared m x) → ⊥) × ((c : ℕ) (x : List ℕ) → l ≡ Parameter c x
    → ⊥)
adds-none p (a.imports_name its) = (λ m x e. cc, λ c x e. cc)
adds-none p a.imports_whole = (λ m x e. cc, λ c x e. cc)
adds-none p a.helps = (λ m x e. cc, λ c x e. cc)
adds-none p a.defines = (λ m x e. cc, λ c x e. cc)
adds-none p (a.loads its) = (λ m x e. cc, λ c x e. cc)
adds-none p a.holds_meta = (λ m x e. cc, λ c x e. cc)
adds-none p a.holds_namespace = (λ m x e. cc, λ c x e. cc)

declared-none : (p : Program) {l : Label} {h : Holder} → HoldsLabel p l h → (c : ℕ) →
    IsCommonJs p c → (x : List ℕ) → l ≡ Of (Declared c x) → ⊥
declared-none p (by_module {m = m} reached es) c is x e =
    let same : c ≡ m = cc in es (subst (IsCommonJs p) same is)
declared-none p (by_name cause due its) c is x e = (adds-none p its).0 c x e

parameter-none : (p : Program) {l : Label} {h : Holder} → HoldsLabel p l h → (c : ℕ) (x : List ℕ) →
    l ≡ Parameter c x → ⊥
parameter-none p (by_module reached es) c x e = cc
parameter-none p (by_name cause due its) c x e = (adds-none p its).1 c x e

-- no name of a CommonJS module is a label of the top
entry-no-label : (p : Program) (context : BundleContexts) (c : ℕ) (tree : List Item) {i : Ident}
    {l : Label} → IsCommonJs p c → OwnEntry c (numbers_in context c) tree i l → IsTopLabel p l → ⊥
entry-no-label p context c tree is (in_contexts.top_entry i m at) top =
    declared-none p (holds p _ top).1 c is m.sym refl
entry-no-label p context c tree is (in_contexts.wrapper_entry i m at) top =
    parameter-none p (holds p _ top).1 c m.sym refl
entry-no-label p context c tree is (in_contexts.parameter_entry x which) top =
    parameter-none p (holds p _ top).1 c x refl

-- an entry is that of a label of the top, or of a name of a CommonJS module
pub data EntryKind (p : Program) (list : List ℕ) (context : BundleContexts) (i : Ident) (l : Label) :
    Type 0 where
  of_label : IsTopLabel p l → i ≡ ident_of_label p list context l → EntryKind p list context i l
  of_own : (c : ℕ) → IsReached p c → IsCommonJs p c →
      OwnEntry c (numbers_in context c) (tree_of p c) i l → EntryKind p list context i l

kind-of : (p : Program) (list : List ℕ) (context : BundleContexts) (answers : ℕ → Option HookAnswer)
    (cause : Cause) → IsDue p AsModule cause → (item : List Item) (begins : ℕ)
    (all : List Denoted) (o : Occurrence) (l : Label) →
    NameAlone p list context answers cause item begins all o (Known l) →
    EntryKind p list context (ident_of o) l
kind-of p list context answers cause due item begins all o l (a.of_top not_inner never top
    same) =
    of_label top same
kind-of p list context answers cause due item begins all o l (a.of_function {c = c} is out inside
    declared entry) =
    let both = due-defines p AsModule due is in of_own c both.0 both.1 entry

-- a name of an item with what it means, in a statement of whatever place and bindings
pub record IsNameOf (p : Program) (list : List ℕ) (context : BundleContexts)
    (answers : ℕ → Option HookAnswer) (cause : Cause) (item : List Item) (o : Occurrence)
    (meant : Meant) : Type 0 where
  pub begins : ℕ
  pub all : List Denoted
  pub alone : NameAlone p list context answers cause item begins all o meant

-- An item.

module _ (p : Program) (list : List ℕ) (context : BundleContexts) (answers : ℕ → Option HookAnswer)
    (cause : Cause) (item : List Item) where
  abbrev Its : Occurrence → Meant → Type 0
  Its o meant = IsNameOf p list context answers cause item o meant

  statement-from : (s : Spot) (part : List Item) (told : ItemMeaning) →
      StatementAlone p list context answers cause item s part told → (e : Ident × Label) →
      Contains (known_entries (occurrences_from s part) told.0) e →
      ComesFrom Its (occurrences_from s part) e
  statement-from s part told alone e c =
      from-more (occurrences_from s part) e
      (λ o meant its. record { begins = s.place; all = _; alone = its })
      (known-from _ (occurrences_from s part) told.0 alone e c)

  statements-from : (s : Spot) (parts : List (List Item)) (tolds : List ItemMeaning) →
      StatementsAlone p list context answers cause item s parts tolds → (e : Ident × Label) →
      Contains (statements_entries s parts tolds) e →
      ComesFrom Its (occurrences_from s (flat parts)) e
  statements-from s [] [] alone e c = absurd (Contains-none e c)
  statements-from s [] (told ∷ tolds) alone e c = absurd alone
  statements-from s (part ∷ parts) [] alone e c = absurd alone
  statements-from s (part ∷ parts) (told ∷ tolds) alone e c =
      subst (λ os. ComesFrom Its os e) (sym (occurrences-append s part (flat parts)))
      (by
      (Contains-append_cases (known_entries (occurrences_from s part) told.0)
      (statements_entries (fold past s part) parts tolds) e c)
      (λ later. statements-from (fold past s part) parts tolds alone.1 e later))
    where
      by : Contains (known_entries (occurrences_from s part) told.0) e
          ⊎ Contains (statements_entries (fold past s part) parts tolds) e →
          (Contains (statements_entries (fold past s part) parts tolds) e →
          ComesFrom Its (occurrences_from (fold past s part) (flat parts)) e) →
          ComesFrom Its
          (occurrences_from s part ++ occurrences_from (fold past s part) (flat parts)) e
      by (inl here) ih =
          from-left (occurrences_from s part) (occurrences_from (fold past s part) (flat parts)) e
          (statement-from s part told alone.0 e here)
      by (inr later) ih =
          from-right (occurrences_from s part) (occurrences_from (fold past s part) (flat parts)) e
          (ih later)

  function-from : (front : List Item) (names : List Label) (insides : List (List Item))
      (tolds : List ItemMeaning) →
      ItemAlone p list context answers cause item (AsFunction front names insides tolds) →
      (e : Ident × Label) →
      Contains (item_entries item (AsFunction front names insides tolds)) e →
      ComesFrom Its (occurrences_from first_spot (front ++ (flat insides ++ function_ends))) e
  function-from front names insides tolds alone e c =
      subst (λ os. ComesFrom Its os e)
      (sym (occurrences-append first_spot front (flat insides ++ function_ends)))
      (by
      (Contains-append_cases (front_entries (occurrences_from first_spot front) names)
      (statements_entries (fold past first_spot front) insides tolds) e c))
    where
      behind : Spot
      behind = fold past first_spot front

      by : Contains (front_entries (occurrences_from first_spot front) names) e
          ⊎ Contains (statements_entries (fold past first_spot front) insides tolds) e →
          ComesFrom Its
          (occurrences_from first_spot front
          ++ occurrences_from (fold past first_spot front) (flat insides ++ function_ends)) e
      by (inl here) =
          from-left (occurrences_from first_spot front)
          (occurrences_from (fold past first_spot front) (flat insides ++ function_ends)) e
          (front-from Its (occurrences_from first_spot front) names
          (zip-front (front_entries (occurrences_from first_spot front) names)
          (λ o l its c. record { begins = 22; all = []; alone = its })
          (occurrences_from first_spot front) names alone.0 (λ d c. c)) e here)
      by (inr later) =
          from-right (occurrences_from first_spot front)
          (occurrences_from (fold past first_spot front) (flat insides ++ function_ends)) e
          (subst (λ os. ComesFrom Its os e)
          (sym (occurrences-append (fold past first_spot front) (flat insides) function_ends))
          (from-left (occurrences_from (fold past first_spot front) (flat insides))
          (occurrences_from (fold past (fold past first_spot front) (flat insides)) function_ends)
          e (statements-from (fold past first_spot front) insides tolds alone.1 e later)))

-- an entry of an item comes from one of its names
item-from : (p : Program) (hooks : Hooks) (list : List ℕ) (context : BundleContexts)
    (answers : ℕ → Option HookAnswer) {cause : Cause} {item : List Item} {noted : NotedItem} →
    IsNotedFor p hooks AsModule item noted cause →
    ItemAlone p list context answers cause item noted → (e : Ident × Label) →
    Contains (item_entries item noted) e →
    ComesFrom (IsNameOf p list context answers cause item) (occurrences_from first_spot item) e
item-from p hooks list context answers {cause = cause} {item = item} (as_whole {told = told}
    marked stand) alone e c =
    statement-from p list context answers cause item first_spot item told alone e c
item-from p hooks list context answers (as_function {c = k} {item = item} {front = front}
    {names = names} {insides = insides} {tolds = tolds} nodes is plain states) alone e c =
    subst
    (λ l. ComesFrom (IsNameOf p list context answers (Defines k) item)
    (occurrences_from first_spot l) e) (sym is)
    (function-from p list context answers (Defines k) item front names insides tolds alone e c)

-- ALL ITEMS

-- an entry of the table, with the name from which it comes
pub record IsEntry (p : Program) (hooks : Hooks) (list : List ℕ) (context : BundleContexts)
    (answers : ℕ → Option HookAnswer) (plan : List Cause) (items : List (List Item))
    (e : Ident × Label) : Type 0 where
  pub m : ℕ
  pub cause : Cause
  pub cause_there : slice_get plan m ≡ Some cause
  pub item : List Item
  pub item_there : slice_get items m ≡ Some item
  pub alone : IsItemAlone p hooks list context answers cause item
  pub from : ComesFrom (IsNameOf p list context answers cause item)
      (occurrences_from first_spot item) e

pub entry-from : (p : Program) (hooks : Hooks) (list : List ℕ) (context : BundleContexts)
    (answers : ℕ → Option HookAnswer) (plan : List Cause) (items : List (List Item))
    (noted : List NotedItem) → AllAloneAs p hooks list context answers plan items noted →
    (e : Ident × Label) → Contains (table_of items noted) e →
    IsEntry p hooks list context answers plan items e
entry-from p hooks list context answers [] [] [] each e c = absurd (Contains-none e c)
entry-from p hooks list context answers [] [] (one ∷ noted) each e c = absurd each
entry-from p hooks list context answers [] (item ∷ items) noted each e c = absurd each
entry-from p hooks list context answers (cause ∷ plan) [] noted each e c = absurd each
entry-from p hooks list context answers (cause ∷ plan) (item ∷ items) [] each e c = absurd each
entry-from p hooks list context answers (cause ∷ plan) (item ∷ items) (one ∷ noted) each e c =
    by (Contains-append_cases (item_entries item one) (table_of items noted) e c)
    (λ later. entry-from p hooks list context answers plan items noted each.1 e later)
  where
    by : Contains (item_entries item one) e ⊎ Contains (table_of items noted) e →
        (Contains (table_of items noted) e →
        IsEntry p hooks list context answers plan items e) →
        IsEntry p hooks list context answers (cause ∷ plan) (item ∷ items) e
    by (inl here) ih = record {
      m = 0;
      cause = cause;
      cause_there = refl;
      item = item;
      item_there = refl;
      alone = each.0.alone;
      from =
          item-from p hooks list context answers each.0.alone.stands each.0.alone.names e
          (subst (λ n. Contains (item_entries item n) e) (sym each.0.its) here);
    }
    by (inr later) ih =
        let its = ih later in
        record {
          m = suc its.m;
          cause = its.cause;
          cause_there = its.cause_there;
          item = its.item;
          item_there = its.item_there;
          alone = its.alone;
          from = its.from;
        }

module _ (p : Program) (hooks : Hooks) (list : List ℕ) (context : BundleContexts)
    (answers : ℕ → Option HookAnswer) (plan : List Cause) (items : List (List Item))
    (its : AreMergedTogether p hooks list context answers plan items) where
  pub entry-due : (e : Ident × Label) (is : IsEntry p hooks list context answers plan items e) →
      IsDue p AsModule is.cause
  entry-due e is = (its.due is.cause).0 (at-contains plan is.m is.cause is.cause_there)

  pub entry-kind : (e : Ident × Label) → IsEntry p hooks list context answers plan items e →
      EntryKind p list context e.0 e.1
  entry-kind e is =
      subst (λ i. EntryKind p list context i e.1) is.from.same
      (kind-of p list context answers is.cause (entry-due e is) is.item is.from.is.begins
      is.from.is.all is.from.o e.1 is.from.is.alone)

  pub entry-listed : (e : Ident × Label) (is : IsEntry p hooks list context answers plan items e) →
      IsListedIn is.item is.from.o
  entry-listed e is = (
    is.from.at,
    ap (λ os. slice_get os is.from.at) (item-occurrences is.item) ∙ is.from.there,
  )

  -- labels apart
  module _ (entries : HasOneEntries p context) where
    two-labels : {i other : Ident} {l k : Label} → EntryKind p list context i l →
        EntryKind p list context other k → i ≡ other → l ≡ k
    two-labels {l = l} {k = k} (of_label top same) (of_label also its_same) e =
        labels-apart p list context answers its.apart l k top also (sym same ∙ e ∙ its_same)
    two-labels {l = l} (of_label top same) (of_own c reached is entry) e =
        let held = holds p l top in
        absurd (function-no-label p is held.1
        (its.apart.apart (TopOf c) held.0 (a.top_of reached) (holder-is p answers held.1)
        (sym (entry-context context c (tree_of p c) entry)
        ∙ ap (λ (x : Ident). x.1) (sym e ∙ same)
        ∙ holder-context p list context held.1)))
    two-labels {k = k} (of_own c reached is entry) (of_label top same) e =
        let held = holds p k top in
        absurd (function-no-label p is held.1
        (its.apart.apart (TopOf c) held.0 (a.top_of reached) (holder-is p answers held.1)
        (sym (entry-context context c (tree_of p c) entry)
        ∙ ap (λ (x : Ident). x.1) (e ∙ same)
        ∙ holder-context p list context held.1)))
    two-labels {i = i} {l = l} {k = k} (of_own c reached is entry) (of_own d its_reached also other)
        e =
        let holders : TopOf c ≡ TopOf d =
        its.apart.apart (TopOf c) (TopOf d) (a.top_of reached) (a.top_of its_reached)
        (sym (entry-context context c (tree_of p c) entry) ∙ ap (λ (x : Ident). x.1) e
        ∙ entry-context context d (tree_of p d) other) in
        let same : d ≡ c = cc in
        entries.one_label c i l k reached is entry
        (subst (λ n. OwnEntry n (numbers_in context n) (tree_of p n) i k) same
        (subst (λ j. OwnEntry d (numbers_in context d) (tree_of p d) j k) (sym e) other))

    two-idents : {i other : Ident} {l k : Label} → EntryKind p list context i l →
        EntryKind p list context other k → l ≡ k → i ≡ other
    two-idents (of_label top same) (of_label also its_same) e =
        same ∙ ap (ident_of_label p list context) e ∙ sym its_same
    two-idents (of_label top same) (of_own c reached is entry) e =
        absurd (entry-no-label p context c (tree_of p c) is entry (subst (IsTopLabel p) e top))
    two-idents (of_own c reached is entry) (of_label top same) e =
        absurd (entry-no-label p context c (tree_of p c) is entry
        (subst (IsTopLabel p) (sym e) top))
    two-idents {i = i} {other = j} {l = l} {k = k} (of_own c reached is entry)
        (of_own d its_reached also other) e =
        let same : d ≡ c =
        sym (entry-number d context (tree_of p d) other)
        ∙ ap label_number (sym e)
        ∙ entry-number c context (tree_of p c) entry in
        entries.one_ident c i j l reached is entry
        (subst (λ n. OwnEntry n (numbers_in context n) (tree_of p n) j l) same
        (subst (λ x. OwnEntry d (numbers_in context d) (tree_of p d) j x) (sym e) other))

    -- TELLS APART
    pub table-one : (noted : List NotedItem) →
        AllAloneAs p hooks list context answers plan items noted →
        IsLabelTable (table_of items noted)
    table-one noted each = record {
      one_label = λ i l other one two.
          two-labels
          (entry-kind (i, l)
          (entry-from p hooks list context answers plan items noted each (i, l) one))
          (entry-kind (i, other)
          (entry-from p hooks list context answers plan items noted each (i, other) two)) refl;
      one_ident = λ i other l one two.
          two-idents
          (entry-kind (i, l)
          (entry-from p hooks list context answers plan items noted each (i, l) one))
          (entry-kind (other, l)
          (entry-from p hooks list context answers plan items noted each (other, l) two)) refl;
    }

  -- NOTED
  module _ (table : LabelTable) where
    label-of : {begins : ℕ} {all : List Denoted} {item : List Item} {o : Occurrence} {l : Label} →
        NameNoted items table item begins all o (Known l) → IsLabelled items table item o l
    label-of (is_known out labelled) = labelled
    label-of (is_known_top top not_inner c) = labelled_top top not_inner c

    module _ (cause : Cause) (due : IsDue p AsModule cause) (item : List Item) where
      statement-noted : (s : Spot) (part : List Item) (told : ItemMeaning) →
          StatementAlone p list context answers cause item s part told →
          Includes table (known_entries (occurrences_from s part) told.0) →
          StatementNamed items table item s part told
      statement-noted s part told alone has =
          zip-known table
          (λ o meant one known. name-noted p hooks list context answers plan items its cause due
          item s.place _ o table meant one known)
          (occurrences_from s part) told.0 alone has

      statements-noted : (s : Spot) (parts : List (List Item)) (tolds : List ItemMeaning) →
          StatementsAlone p list context answers cause item s parts tolds →
          Includes table (statements_entries s parts tolds) →
          StatementsNamed items table item s parts tolds
      statements-noted s [] [] alone has = tt
      statements-noted s [] (told ∷ tolds) alone has = absurd alone
      statements-noted s (part ∷ parts) [] alone has = absurd alone
      statements-noted s (part ∷ parts) (told ∷ tolds) alone has = (
        statement-noted s part told alone.0
            (includes-left table (known_entries (occurrences_from s part) told.0)
            (statements_entries (fold past s part) parts tolds) has),
        statements-noted (fold past s part) parts tolds alone.1
            (includes-right table (known_entries (occurrences_from s part) told.0)
            (statements_entries (fold past s part) parts tolds) has),
      )

      item-noted : (noted : NotedItem) → ItemAlone p list context answers cause item noted →
          Includes table (item_entries item noted) → ItemNoted items table item noted
      item-noted (AsWhole told) alone has = statement-noted first_spot item told alone has
      item-noted (AsFunction front names insides tolds) alone has = (
        zip-front table
            (λ o l one c. label-of
            (name-noted p hooks list context answers plan items its cause due item 22 [] o table
            (Known l) one
            (λ k same. subst (λ k. Contains table (ident_of o, k)) (label-same same) c)))
            (occurrences_from first_spot front) names alone.0
            (includes-left table (front_entries (occurrences_from first_spot front) names)
            (statements_entries (fold past first_spot front) insides tolds) has),
        statements-noted (fold past first_spot front) insides tolds alone.1
            (includes-right table (front_entries (occurrences_from first_spot front) names)
            (statements_entries (fold past first_spot front) insides tolds) has),
      )
        where
          label-same : {l k : Label} → Known l ≡ Known k → l ≡ k
          label-same e = cc

    pub items-noted : (causes : List Cause) (parts : List (List Item)) (noted : List NotedItem) →
        ((cause : Cause) → Contains causes cause → IsDue p AsModule cause) →
        AllAloneAs p hooks list context answers causes parts noted →
        Includes table (table_of parts noted) → AllZip (ItemNoted items table) parts noted
    items-noted [] [] [] due each has = tt
    items-noted [] [] (one ∷ noted) due each has = absurd each
    items-noted [] (item ∷ parts) noted due each has = absurd each
    items-noted (cause ∷ causes) [] noted due each has = absurd each
    items-noted (cause ∷ causes) (item ∷ parts) [] due each has = absurd each
    items-noted (cause ∷ causes) (item ∷ parts) (one ∷ noted) due each has = (
      item-noted cause (due cause ((Contains-cons cause causes cause).1 (inl refl))) item one
          (subst (λ n. ItemAlone p list context answers cause item n) each.0.its
          each.0.alone.names)
          (includes-left table (item_entries item one) (table_of parts noted) has),
      items-noted causes parts noted
          (λ k c. due k ((Contains-cons cause causes k).1 (inr c))) each.1
          (includes-right table (item_entries item one) (table_of parts noted) has),
    )

  -- EACH ITEM is noted by the table of all
  pub all-noted : (noted : List NotedItem) →
      AllAloneAs p hooks list context answers plan items noted →
      AllZip (ItemNoted items (table_of items noted)) items noted
  all-noted noted each =
      items-noted (table_of items noted) plan items noted (λ cause c. (its.due cause).0 c) each
      (λ e c. c)
