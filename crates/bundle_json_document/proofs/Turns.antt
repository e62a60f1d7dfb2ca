-- What is kept of a document and of a module, with one member more.
-- What is refused is no document.
-- Members and items that are read one behind the other.
use Rattle.std.proofs.Common.{◌≡◌, ℕ, List, [], true, false, Option, Some, None, codes, bytes_eq, refl, sym, ◌∙◌, true≢false, zero, suc, ◌<◌, ◌∷◌, ◌++◌, length, get_or, map, IsSomeAnd, inl, inr, flat_map, option_and_then, unwrap_or, ap, subst, arith, ◌≤◌, ◌-◌, option_map}
use Rattle.std.proofs.lemmas.Slice.Eq.{bytes_eq-Decides}
use Rattle.std.specs.BTreeMap.{BTreeMap}
use Rattle.std.specs.declared.alloc.Global.{Global}
use Rattle.std.specs.declared.string.String.{String}
use Rattle.std.specs.declared.vec.Vec.{Vec}
use Rattle.std.specs.List.{AllZip}
use Rattle.std.specs.Prelude.{IsUtf8}
use Rattle.serde_json.specs.Data.{Data, Members, no_members, put, array, object, Items, no_items, item}
use Rattle.serde_json.specs.Find.{as_str, as_array as as_array_refusals, get, get_member}
use Rattle.serde_json.proofs.Views.{get_member-put, get_member-put_other}
use Rattle.json.specs.Lex.{tokens}
use Rattle.json.specs.Token.{Token}
use Rattle.json.specs.declared.value.Value.{Value}
use Rattle.serde_json.specs.Read.{converted, of_json, read, of_items, of_members}
use Rattle.serde_json.specs.View.{items_of, members_of}
use Rattle.json.specs.Json as json
use Rattle.json.specs.Json.{after_end_array, read_key}
use Rattle.json.proofs.Grammar.{after_end_array-shorter, items_end, items_more, members_end, members_more, read_key-shorter, value-begin_array, value-begin_object}
use Rattle.bundle_syntax.specs.Item.{Item}
use Rattle.bundle_tree_ast.specs.declared.expr.Expr.{Expr}
use Rattle.bundle_tree_ast.specs.declared.prop.KeyValueProp.{KeyValueProp}
use Rattle.bundle_json_form.specs.Form.{top, AreForms, IsForm}
use Rattle.bundle_json_form.specs.Plain.{seen}
use Rattle.bundle_json_form.specs.declared.error.FormError.{FormError}
use Rattle.bundle_json_form.specs.declared.error.FormError.TheVariants.{Form as NoForm, OutOfMemory as NoMemory}
use Rattle.bundle_json_form.proofs.Growth.{items_then}
use Rattle.bundle_json_form.specs.Reading as form
use Rattle.bundle_tree_listed.specs.Tree.{key_value_prop_items, module_items}
use Rattle.bundle_tree_parse.specs.Refused.{IsListOfNoModule, IsListOfNoProperties}
use Rattle.bundle_tree_parse.specs.declared.build.BuildError.{BuildError}
use Rattle.bundle_tree_parse.specs.declared.build.BuildError.TheVariants.{Form as NoTree, OutOfMemory as NoRoom}
use Rattle.bundler_entry.specs.declared.call.OrderedConfig.{OrderedConfig}
use Rattle.bundle_json_document.specs.Document.{AreLists, AreSettings, no_document_notes, AreProperties, IsDocument, IsEntryPair, IsArrayOf, IsMap, IsModuleForm, IsNoDocumentText, IsText, IsValueOf, IsDocumentText}
use Rattle.bundle_json_document.specs.Stream.{AreEntriesIn, AreFilesIn, AreItems, AreListsIn, AreModuleParts, AreDocumentParts, AreSettingsIn, IsMemberKept, IsNextValue}
use Rattle.bundle_json_document.specs.declared.stream.ModuleParts.{ModuleParts}
use Rattle.bundle_json_document.specs.declared.stream.DocumentParts.{DocumentParts}
use Rattle.bundle_json_document.proofs.Fronts.{kept_still}
use Rattle.bundle_json_document.specs.Error.{NoneIs, RefusesFor, of_form, of_list}
use Rattle.bundle_json_document.specs.Numbers.{holds_of_read, is_whole, items_are_whole, members_are_whole}
use Rattle.bundle_json_document.specs.Seen.{last_members}
use Rattle.bundle_json_document.specs.declared.document.Document.{Document}
use Rattle.bundle_json_document.proofs.Maps.{Entry, Named}

-- ---- parts
abbrev Lists : Type 0
Lists = BTreeMap (String Global) (Vec (KeyValueProp Expr) Global)

-- texts that a comparison tells apart
other : (a b : List ℕ) → bytes_eq a b ≡ false → a ≡ b → ⊥
other a b apart same = true≢false (sym ((bytes_eq-Decides a b).1 same) ∙ apart)

module _ (d : Data) (ms : Members) (old new : DocumentParts) (are : AreDocumentParts ms old) where
  -- the member under the key is read, and no other part is changed
  pub with_config : new.entries ≡ old.entries → new.files ≡ old.files → new.lists ≡ old.lists → IsMemberKept AreSettingsIn (Some d) new.config → AreDocumentParts (put (codes "config") d ms) new
  with_config e f l here = record {
    config = rw (get_member-put (codes "config") d ms) here;
    entries = rw e (kept_still AreEntriesIn (codes "entries") (codes "config") d ms old.entries (other (codes "entries") (codes "config") refl) are.entries);
    files = rw f (kept_still AreFilesIn (codes "files") (codes "config") d ms old.files (other (codes "files") (codes "config") refl) are.files);
    lists = rw l (kept_still AreListsIn (codes "meta") (codes "config") d ms old.lists (other (codes "meta") (codes "config") refl) are.lists);
  }

  pub with_entries : new.config ≡ old.config → new.files ≡ old.files → new.lists ≡ old.lists → IsMemberKept AreEntriesIn (Some d) new.entries → AreDocumentParts (put (codes "entries") d ms) new
  with_entries c f l here = record {
    config = rw c (kept_still AreSettingsIn (codes "config") (codes "entries") d ms old.config (other (codes "config") (codes "entries") refl) are.config);
    entries = rw (get_member-put (codes "entries") d ms) here;
    files = rw f (kept_still AreFilesIn (codes "files") (codes "entries") d ms old.files (other (codes "files") (codes "entries") refl) are.files);
    lists = rw l (kept_still AreListsIn (codes "meta") (codes "entries") d ms old.lists (other (codes "meta") (codes "entries") refl) are.lists);
  }

  pub with_files : new.config ≡ old.config → new.entries ≡ old.entries → new.lists ≡ old.lists → IsMemberKept AreFilesIn (Some d) new.files → AreDocumentParts (put (codes "files") d ms) new
  with_files c e l here = record {
    config = rw c (kept_still AreSettingsIn (codes "config") (codes "files") d ms old.config (other (codes "config") (codes "files") refl) are.config);
    entries = rw e (kept_still AreEntriesIn (codes "entries") (codes "files") d ms old.entries (other (codes "entries") (codes "files") refl) are.entries);
    files = rw (get_member-put (codes "files") d ms) here;
    lists = rw l (kept_still AreListsIn (codes "meta") (codes "files") d ms old.lists (other (codes "meta") (codes "files") refl) are.lists);
  }

  pub with_lists : new.config ≡ old.config → new.entries ≡ old.entries → new.files ≡ old.files → IsMemberKept AreListsIn (Some d) new.lists → AreDocumentParts (put (codes "meta") d ms) new
  with_lists c e f here = record {
    config = rw c (kept_still AreSettingsIn (codes "config") (codes "meta") d ms old.config (other (codes "config") (codes "meta") refl) are.config);
    entries = rw e (kept_still AreEntriesIn (codes "entries") (codes "meta") d ms old.entries (other (codes "entries") (codes "meta") refl) are.entries);
    files = rw f (kept_still AreFilesIn (codes "files") (codes "meta") d ms old.files (other (codes "files") (codes "meta") refl) are.files);
    lists = rw (get_member-put (codes "meta") d ms) here;
  }

-- a member under another key
pub with_another : (key : List ℕ) (d : Data) (ms : Members) (old : DocumentParts) → AreDocumentParts ms old → (codes "config" ≡ key → ⊥) → (codes "entries" ≡ key → ⊥) → (codes "files" ≡ key → ⊥) → (codes "meta" ≡ key → ⊥) → AreDocumentParts (put key d ms) old
with_another key d ms old are c e f l = record {
  config = kept_still AreSettingsIn (codes "config") key d ms old.config c are.config;
  entries = kept_still AreEntriesIn (codes "entries") key d ms old.entries e are.entries;
  files = kept_still AreFilesIn (codes "files") key d ms old.files f are.files;
  lists = kept_still AreListsIn (codes "meta") key d ms old.lists l are.lists;
}

-- before any member was read
pub no_parts : AreDocumentParts no_members (record { config = None; entries = None; files = None; lists = None })
no_parts = record { config = tt; entries = tt; files = tt; lists = tt }

-- a part that was read stands for its value, and one that was left out for none

pub config_given : (d : Option Data) (config : OrderedConfig) → IsMemberKept AreSettingsIn d (Some config) → AreSettings d config
config_given None config kept = absurd kept
config_given (Some d) config kept = kept

pub config_left_out : (d : Option Data) (config : OrderedConfig) → AreSettings None config → IsMemberKept AreSettingsIn d None → AreSettings d config
config_left_out None config are kept = are
config_left_out (Some d) config are kept = absurd kept

pub lists_given : (d : Option Data) (lists : Lists) → IsMemberKept AreListsIn d (Some lists) → AreLists d lists.entries
lists_given None lists kept = absurd kept
lists_given (Some d) lists kept = kept

pub lists_left_out : (d : Option Data) (lists : Lists) → lists.entries ≡ [] → IsMemberKept AreListsIn d None → AreLists d lists.entries
lists_left_out None lists are kept = are
lists_left_out (Some d) lists are kept = absurd kept

-- The parts of a module.

module _ (d : Data) (ms : Members) (old new : ModuleParts) (are : AreModuleParts ms old) where
  pub with_body : new.is_module ≡ old.is_module → AreItems d new.items.body.items → AreModuleParts (put (codes "body") d ms) new
  with_body same here = record {
    kind = λ is. rw (get_member-put_other (codes "type") (codes "body") d ms (other (codes "type") (codes "body") refl)) (are.kind (rw (← same) is));
    body = rw (get_member-put (codes "body") d ms) here;
  }

  pub with_kind : new.items ≡ old.items → (new.is_module ≡ true → as_str d ≡ Some (codes "Module")) → AreModuleParts (put (codes "type") d ms) new
  with_kind same here = record {
    kind = λ is. rw (get_member-put (codes "type") d ms) (here is);
    body = rw (same, get_member-put_other (codes "body") (codes "type") d ms (other (codes "body") (codes "type") refl)) are.body;
  }

-- a member of a module under another key
pub with_other_key : (key : List ℕ) (d : Data) (ms : Members) (old : ModuleParts) → AreModuleParts ms old → (codes "type" ≡ key → ⊥) → (codes "body" ≡ key → ⊥) → AreModuleParts (put key d ms) old
with_other_key key d ms old are kind body = record {
  kind = λ is. rw (get_member-put_other (codes "type") key d ms kind) (are.kind is);
  body = rw (get_member-put_other (codes "body") key d ms body) are.body;
}

-- ---- refusals
abbrev ListsRefusals : Type 0
ListsRefusals = List (String Global × Vec (KeyValueProp Expr) Global)

-- Values that are read.

-- a value with a number that is not whole
pub not_whole : (depth : ℕ) (ts r rest : List Token) (j : json.Json) (d : Data) → json.value depth ts ≡ Some (j, r)
    → is_whole j ≡ false → ¬ IsNextValue depth ts rest d
not_whole depth ts r rest j d is not next =
    true≢false (sym next.whole ∙ ap (holds_of_read is_whole) is ∙ not)

-- the value of a text is the next one of its tokens, and no token comes behind it
next_at : (o : Option (json.Json × List Token)) (d : Data)
    → option_and_then of_json (option_and_then (λ p. json.if_last p.0 p.1) o) ≡ Some d → converted of_json o ≡ Some (d, [])
next_at None d e = absurd (cc)
next_at (Some (j, [])) d e = rw e refl
next_at (Some (j, t ∷ ts)) d e = absurd (cc)

pub next_of : (text : List ℕ) (d : Data) → IsValueOf text d → IsNextValue 127 (tokens text) [] d
next_of text d value = record {
  read = next_at (json.value 127 (tokens text)) d value.json;
  whole = value.whole;
}

-- the next value is one
pub same_next : (depth : ℕ) (ts r rest : List Token) (d e : Data) → IsNextValue depth ts r d → IsNextValue depth ts rest e → r ≡ rest
same_next depth ts r rest d e one other =
    ap (λ o. (unwrap_or {T = Data × List Token} o (d, r)).1) (sym one.read ∙ other.read)

-- The items of an array, one by one.

same_items : (xs ys : List Data) → items_of xs ≡ items_of ys → xs ≡ ys
same_items [] [] e = refl
same_items [] (y ∷ ys) e = absurd (cc)
same_items (x ∷ xs) [] e = absurd (cc)
same_items (x ∷ xs) (y ∷ ys) e =
    let head : x ≡ y = cc in
    let tail : items_of xs ≡ items_of ys = cc in
    let rest : xs ≡ ys = same_items xs ys tail in cc

module _ {X : Type 0} (R : Data → X → Type 0) where
  each_at : (vs : List (Value Global)) (xs : List X) (i : ℕ) (v : Value Global) → AllZip R (map seen vs) xs
      → i < length vs → v ≡ get_or vs i v → (x : X) × R (seen v) x
  each_at [] xs i v all within is = absurd (omega arith)
  each_at (w ∷ vs) [] i v all within is = absurd all
  each_at (w ∷ vs) (x ∷ xs) zero v all within is = (x, subst (λ u. R (seen u) x) (sym is) all.0)
  each_at (w ∷ vs) (x ∷ xs) (suc i) v all within is = each_at vs xs i v all.1 (omega arith) is

  -- values of which one stands for nothing
  pub none_zipped : (vs : List (Value Global)) (i : ℕ) (v : Value Global) → i < length vs → v ≡ get_or vs i v
      → NoneIs (R (seen v)) → NoneIs (AllZip R (map seen vs))
  none_zipped vs i v within is none = λ xs all. let found = each_at vs xs i v all within is in none found.0 found.1

  -- a list of values is that of its items
  pub each_of : (vs : List (Value Global)) (xs : List X) (d : Data) → d ≡ array (items_of (map seen vs)) → IsArrayOf R xs d
      → AllZip R (map seen vs) xs
  each_of vs xs d is list =
      let same : items_of list.0 ≡ items_of (map seen vs) = let e = list.1 in cc in
      subst (λ ds. AllZip R ds xs) (same_items list.0 (map seen vs) same) list.2

  -- a list with such a value
  pub none_listed : (vs : List (Value Global)) (d : Data) → d ≡ array (items_of (map seen vs))
      → NoneIs (AllZip R (map seen vs)) → NoneIs (λ xs. IsArrayOf R xs d)
  none_listed vs d is none = λ xs list. none xs (each_of vs xs d is list)

-- a value that is no text
pub no_text : (d : Data) → as_str d ≡ None → NoneIs (IsText d)
no_text d none = λ text is. let e = ap as_str is in absurd (cc)

-- an array of other than two values
pub not_pair : (d : Data) (vs : List (Value Global)) → d ≡ array (items_of (map seen vs)) → (length vs ≡ 2 → ⊥)
    → NoneIs (IsEntryPair d)
not_pair d [] is other = λ entry it. let e = it.1 in absurd (cc)
not_pair d (v ∷ []) is other = λ entry it. let e = it.1 in absurd (cc)
not_pair d (v ∷ w ∷ []) is other = λ entry it. other refl
not_pair d (v ∷ w ∷ u ∷ vs) is other = λ entry it. let e = it.1 in absurd (cc)

-- The members of an object, one by one.

module _ {X : Type 0} (R : Data → X → Type 0) where
  entry_at : (done more : List Entry) (e : Entry) (ms : List (String Global × Data)) (xs : List (String Global × X))
      → members_of ms ≡ last_members (done ++ e ∷ more) → AllZip (Named R) ms xs → (x : X) × R (seen e.1.now) x
  entry_at [] more e [] xs same all = absurd (cc)
  entry_at [] more e (m ∷ ms) [] same all = absurd all
  entry_at [] more e (m ∷ ms) (x ∷ xs) same all =
      let it : m.1 ≡ seen e.1.now = cc in (x.1, subst (λ d. R d x.1) it all.0.1)
  entry_at (f ∷ done) more e [] xs same all = absurd (cc)
  entry_at (f ∷ done) more e (m ∷ ms) [] same all = absurd all
  entry_at (f ∷ done) more e (m ∷ ms) (x ∷ xs) same all = entry_at done more e ms xs (cc) all.1

  -- members of which one stands for nothing
  pub none_mapped : (all done left more : List Entry) (e : Entry) → all ≡ done ++ left → left ≡ e ∷ more
      → NoneIs (R (seen e.1.now)) → NoneIs (λ xs. IsMap R xs (object (last_members all)))
  none_mapped all done left more e split first none = λ xs map.
      let parts : members_of map.0 ≡ last_members (done ++ e ∷ more) =
      let s = map.1 in (let same : members_of map.0 ≡ last_members all = cc in same)
      ∙ ap last_members (split ∙ ap (λ them. done ++ them) first) in
      let found = entry_at done more e map.0 xs parts map.2 in
      none found.0 found.1

-- The document.

some_of : (o : Option Data) (P : Data → Type 0) → IsSomeAnd o P → (x : Data) × (o ≡ Some x) × P x
some_of None P there = absurd there
some_of (Some x) P there = (x, refl, there)

-- where the value asks for nothing, the text is that of no document
pub no_document : (text : List ℕ) (d : Data) → IsValueOf text d
    → ((document : Document) (lists : ListsRefusals) → IsDocument d document → AreLists (get (codes "meta") d) lists → ⊥)
    → IsNoDocumentText text
no_document text d value none = λ document lists its.
    let same : its.value ≡ d = ap (λ o. unwrap_or o d) (sym its.is_read.json ∙ value.json) in
    none document lists (subst (λ it. IsDocument it document) same its.is_document)
    (subst (λ it. AreLists (get (codes "meta") it) lists) same its.are_lists)

module _ (text : List ℕ) (d : Data) (value : IsValueOf text d) where
  pub no_entries : (o : Option Data) → o ≡ get (codes "entries") d
      → ((x : Data) → o ≡ Some x → NoneIs (λ entries. IsArrayOf IsEntryPair entries x)) → IsNoDocumentText text
  no_entries o is none = no_document text d value (λ document lists its are.
      let found = some_of (get (codes "entries") d) (IsArrayOf IsEntryPair document.entries.items) its.entries in
      none found.0 (is ∙ found.1) document.entries.items found.2)

  pub no_files : (o : Option Data) → o ≡ get (codes "files") d
      → ((x : Data) → o ≡ Some x → NoneIs (λ files. IsMap IsModuleForm files x)) → IsNoDocumentText text
  no_files o is none = no_document text d value (λ document lists its are.
      let found = some_of (get (codes "files") d) (IsMap IsModuleForm document.files.entries) its.files in
      none found.0 (is ∙ found.1) document.files.entries found.2)

-- Trees.

-- a value that is read as no list
pub no_form : {P Q : Type 0} (refusal : FormError) → (P → Q) → form.RefusesReading P refusal → RefusesFor Q (of_form refusal)
no_form NoForm f (inl memory) is = absurd (cc)
no_form NoForm f (inr reason) is = f reason
no_form NoMemory f why is = absurd (cc)

-- a list of which nothing is built
pub no_tree : {P Q : Type 0} (refusal : BuildError) → (P → Q) → (refusal ≡ NoTree → P) → RefusesFor Q (of_list refusal)
no_tree NoTree f why is = f (why refl)
no_tree NoRoom f why is = absurd (cc)

-- the one list that is read of a value is the list of no module
pub no_module : (d : Data) (list : List Item) → ((other : List Item) → IsForm no_document_notes top d other → other ≡ list)
    → IsListOfNoModule list → NoneIs (IsModuleForm d)
no_module d list only none = λ it is. none it (only (module_items 0 it) is)

pub no_properties : (d : Data) (list : List Item)
    → ((other : List Item) → IsSomeAnd (as_array_refusals d) (λ ds. AreForms no_document_notes top ds other) → other ≡ list)
    → IsListOfNoProperties list → NoneIs (AreProperties d)
no_properties d list only none = λ them are. none them.items (only (flat_map (key_value_prop_items 0) them.items) are)

-- ---- turns

-- the tokens `now` go on with the members of an object that began at `start`; those before them are `found`
pub record ReadsMembers (depth : ℕ) (start now : List Token) (found : Members) : Type 0 where
  pub turns : ℕ
  pub enough : length now ≤ turns
  pub same : converted (λ them. of_members them no_members) (json.members (json.value depth) (length start) start) ≡ converted (λ them. of_members them found) (json.members (json.value depth) turns now)
  pub whole : holds_of_read members_are_whole (json.members (json.value depth) (length start) start) ≡ holds_of_read members_are_whole (json.members (json.value depth) turns now)

pub no_member_read : (depth : ℕ) (start : List Token) → ReadsMembers depth start start no_members
no_member_read depth start = record { turns = length start; enough = omega arith; same = refl; whole = refl }

-- what was read of a value is all that there is
module _ {B : Type 0} (f : json.Json → Option B) where
  the_value : (q : json.Json × List Token) (r : List Token) (x : Option B) (d : B) → option_map {U = B × List Token} (λ y. (y, q.1)) x ≡ Some (d, r) → (q.1 ≡ r) × (x ≡ Some d)
  the_value q r None d e = absurd (cc)
  the_value q r (Some y) d e = let same = ap (λ o. unwrap_or o (y, q.1)) e in (ap (λ it. it.1) same, ap (λ it. Some it.0) same)

with_member : (k : List ℕ) (j : json.Json) (d : Data) (old : Members) → of_json j ≡ Some d → (o : Option (json.Members × List Token))
    → converted (λ them. of_members them old) (json.parse_map (json.member k j) o) ≡ converted (λ them. of_members them (put k d old)) o
with_member k j d old e None = refl
with_member k j d old e (Some q) = rw e

member_read : (p : json.Parse json.Json) (n : ℕ) (k : List ℕ) (ts s r : List Token) (d : Data) (old : Members) (o : Option (json.Json × List Token)) → 0 < n → read_key ts ≡ Some (Some k, s) → p s ≡ o → converted of_json o ≡ Some (d, r)
    → converted (λ them. of_members them old) (json.members p n ts) ≡ converted (λ them. of_members them (put k d old)) (json.members p (n - 1) r)
member_read p n k ts s r d old None some key is e = absurd (cc)
member_read p n k ts s r d old (Some q) some key is e =
    let both = the_value of_json q r (of_json q.0) d e in
    ap (converted (λ them. of_members them old)) (members_more p n k ts s r q.0 some key (is ∙ ap (λ t. Some (q.0, t)) both.0)) ∙ with_member k q.0 d old both.1 _

with_whole_member : (k : List ℕ) (j : json.Json) → is_whole j ≡ true → (o : Option (json.Members × List Token))
    → holds_of_read members_are_whole (json.parse_map (json.member k j) o) ≡ holds_of_read members_are_whole o
with_whole_member k j e None = refl
with_whole_member k j e (Some q) = rw e refl

whole_member : (p : json.Parse json.Json) (n : ℕ) (k : List ℕ) (ts s r : List Token) (d : Data)
    (o : Option (json.Json × List Token)) → 0 < n → read_key ts ≡ Some (Some k, s) → p s ≡ o
    → converted of_json o ≡ Some (d, r) → holds_of_read is_whole o ≡ true
    → holds_of_read members_are_whole (json.members p n ts) ≡ holds_of_read members_are_whole (json.members p (n - 1) r)
whole_member p n k ts s r d None some key is e whole = absurd (cc)
whole_member p n k ts s r d (Some q) some key is e whole =
    let both = the_value of_json q r (of_json q.0) d e in
    ap (holds_of_read members_are_whole) (members_more p n k ts s r q.0 some key (is ∙ ap (λ t. Some (q.0, t)) both.0))
    ∙ with_whole_member k q.0 whole _

-- one member more
pub member_turn : (depth : ℕ) (start ts s r : List Token) (k : List ℕ) (d : Data) (old : Members) → ReadsMembers depth start ts old → read_key ts ≡ Some (Some k, s) → IsNextValue depth s r d → length r < length s
    → ReadsMembers depth start r (put k d old)
member_turn depth start ts s r k d old so_far key next shorter =
    let less = read_key-shorter ts (Some k) s key in
    let enough = so_far.enough in
    record {
      turns = so_far.turns - 1;
      enough = omega (arith, less, enough, shorter);
      same = so_far.same ∙ member_read (json.value depth) so_far.turns k ts s r d old (json.value depth s) (omega (arith, less, enough)) key refl next.read;
      whole =
          so_far.whole
          ∙ whole_member (json.value depth) so_far.turns k ts s r d (json.value depth s) (omega (arith, less, enough)) key
          refl next.read next.whole;
    }

as_object : (o : Option (json.Members × List Token)) (ms : Members) (r : List Token) → converted (λ them. of_members them no_members) o ≡ Some (ms, r) → converted of_json (json.parse_map json.object o) ≡ Some (object ms, r)
as_object None ms r e = absurd (cc)
as_object (Some q) ms r e = of_found (of_members q.0 no_members) e
  where
    of_found : (x : Option Members) → option_map {U = Members × List Token} (λ y. (y, q.1)) x ≡ Some (ms, r) → option_map {U = Data × List Token} (λ y. (y, q.1)) (option_map object x) ≡ Some (object ms, r)
    of_found None e = absurd (cc)
    of_found (Some y) e = ap (option_map (λ it. (object it.0, it.1))) e

whole_object : (o : Option (json.Members × List Token))
    → holds_of_read is_whole (json.parse_map json.object o) ≡ holds_of_read members_are_whole o
whole_object None = refl
whole_object (Some q) = refl

-- the object whose members were read
pub object_read : (depth : ℕ) (whole start ts r : List Token) (ms : Members) → 0 < depth → whole ≡ Token.begin_object ∷ start → ReadsMembers (depth - 1) start ts ms → read_key ts ≡ Some (None, r) → IsNextValue depth whole r (object ms)
object_read depth whole start ts r ms some begins so_far ends =
    let all : converted (λ them. of_members them no_members) (json.members (json.value (depth - 1)) (length start) start) ≡ Some (ms, r) =
    so_far.same ∙ ap (converted (λ them. of_members them ms)) (members_end (json.value (depth - 1)) so_far.turns ts r so_far.enough ends) in
    record {
      read = ap (λ ts. converted of_json (json.value depth ts)) begins ∙ ap (converted of_json) (value-begin_object depth start some) ∙ as_object (json.members (json.value (depth - 1)) (length start) start) ms r all;
      whole =
          ap (λ ts. holds_of_read is_whole (json.value depth ts)) begins
          ∙ ap (holds_of_read is_whole) (value-begin_object depth start some)
          ∙ whole_object (json.members (json.value (depth - 1)) (length start) start)
          ∙ so_far.whole
          ∙ ap (holds_of_read members_are_whole)
          (members_end (json.value (depth - 1)) so_far.turns ts r so_far.enough ends);
    }

-- the tokens of the object are fewer
pub object_shorter : (whole start ts r : List Token) → whole ≡ Token.begin_object ∷ start → length ts ≤ length start → read_key ts ≡ Some (None, r) → length r < length whole
object_shorter whole start ts r begins fewer ends = let less = read_key-shorter ts None r ends in rw begins (omega (arith, less, fewer))

-- Items.

abbrev pub items_after : Items → Items → Items
items_after no_items more = more
items_after (item d ds) more = item d (items_after ds more)

items_after-then : (ds : Items) (d : Data) (more : Items) → items_after (items_then ds d) more ≡ items_after ds (item d more)
unfolding items_then
items_after-then no_items d more = refl
items_after-then (item e ds) d more = ap (item e) (items_after-then ds d more)

items_after-nil : (ds : Items) → items_after ds no_items ≡ ds
items_after-nil no_items = refl
items_after-nil (item d ds) = ap (item d) (items_after-nil ds)

-- the tokens `now` go on with the items of an array that began at `start`; those before them are `found`
pub record ReadsItems (depth : ℕ) (start now : List Token) (found : Items) : Type 0 where
  pub turns : ℕ
  pub enough : length now ≤ turns
  pub same : converted of_items (json.items (json.value depth) (length start) start) ≡ converted (λ them. option_map (items_after found) (of_items them)) (json.items (json.value depth) turns now)
  pub whole : holds_of_read items_are_whole (json.items (json.value depth) (length start) start) ≡ holds_of_read items_are_whole (json.items (json.value depth) turns now)

after_none : (o : Option (json.Items × List Token)) → converted of_items o ≡ converted (λ them. option_map (items_after no_items) (of_items them)) o
after_none None = refl
after_none (Some q) = as_it_is (of_items q.0)
  where
    as_it_is : (x : Option Items) → option_map {U = Items × List Token} (λ y. (y, q.1)) x ≡ option_map {U = Items × List Token} (λ y. (y, q.1)) (option_map (items_after no_items) x)
    as_it_is None = refl
    as_it_is (Some y) = refl

pub no_item_read : (depth : ℕ) (start : List Token) → ReadsItems depth start start no_items
no_item_read depth start = record { turns = length start; enough = omega arith; same = after_none (json.items (json.value depth) (length start) start); whole = refl }

with_item : (j : json.Json) (d : Data) (old : Items) → of_json j ≡ Some d → (o : Option (json.Items × List Token))
    → converted (λ them. option_map (items_after old) (of_items them)) (json.parse_map (json.item j) o) ≡ converted (λ them. option_map (items_after (items_then old d)) (of_items them)) o
with_item j d old e None = refl
with_item j d old e (Some q) = rw e (moved (of_items q.0))
  where
    moved : (x : Option Items) → option_map {U = Items × List Token} (λ y. (y, q.1)) (option_map (items_after old) (option_map (item d) x)) ≡ option_map {U = Items × List Token} (λ y. (y, q.1)) (option_map (items_after (items_then old d)) x)
    moved None = refl
    moved (Some y) = ap (λ it. Some (it, q.1)) (sym (items_after-then old d y))

item_read : (p : json.Parse json.Json) (n : ℕ) (ts r : List Token) (d : Data) (old : Items) (o : Option (json.Json × List Token)) → 0 < n → after_end_array ts ≡ None → p ts ≡ o → converted of_json o ≡ Some (d, r)
    → converted (λ them. option_map (items_after old) (of_items them)) (json.items p n ts) ≡ converted (λ them. option_map (items_after (items_then old d)) (of_items them)) (json.items p (n - 1) r)
item_read p n ts r d old None some goes_on is e = absurd (cc)
item_read p n ts r d old (Some q) some goes_on is e =
    let both = the_value of_json q r (of_json q.0) d e in
    ap (converted (λ them. option_map (items_after old) (of_items them))) (items_more p n ts r q.0 some goes_on (is ∙ ap (λ t. Some (q.0, t)) both.0)) ∙ with_item q.0 d old both.1 _

with_whole_item : (j : json.Json) → is_whole j ≡ true → (o : Option (json.Items × List Token))
    → holds_of_read items_are_whole (json.parse_map (json.item j) o) ≡ holds_of_read items_are_whole o
with_whole_item j e None = refl
with_whole_item j e (Some q) = rw e refl

whole_item : (p : json.Parse json.Json) (n : ℕ) (ts r : List Token) (d : Data) (o : Option (json.Json × List Token))
    → 0 < n → after_end_array ts ≡ None → p ts ≡ o → converted of_json o ≡ Some (d, r) → holds_of_read is_whole o ≡ true
    → holds_of_read items_are_whole (json.items p n ts) ≡ holds_of_read items_are_whole (json.items p (n - 1) r)
whole_item p n ts r d None some goes_on is e whole = absurd (cc)
whole_item p n ts r d (Some q) some goes_on is e whole =
    let both = the_value of_json q r (of_json q.0) d e in
    ap (holds_of_read items_are_whole) (items_more p n ts r q.0 some goes_on (is ∙ ap (λ t. Some (q.0, t)) both.0))
    ∙ with_whole_item q.0 whole _

-- one item more
pub item_turn : (depth : ℕ) (start ts r : List Token) (d : Data) (old : Items) → ReadsItems depth start ts old → after_end_array ts ≡ None → IsNextValue depth ts r d → length r < length ts → ReadsItems depth start r (items_then old d)
item_turn depth start ts r d old so_far goes_on next shorter =
    let enough = so_far.enough in
    record {
      turns = so_far.turns - 1;
      enough = omega (arith, enough, shorter);
      same = so_far.same ∙ item_read (json.value depth) so_far.turns ts r d old (json.value depth ts) (omega (arith, enough, shorter)) goes_on refl next.read;
      whole =
          so_far.whole
          ∙ whole_item (json.value depth) so_far.turns ts r d (json.value depth ts) (omega (arith, enough, shorter)) goes_on
          refl next.read next.whole;
    }

as_array : (o : Option (json.Items × List Token)) (ds : Items) (r : List Token) → converted of_items o ≡ Some (ds, r) → converted of_json (json.parse_map json.array o) ≡ Some (array ds, r)
as_array None ds r e = absurd (cc)
as_array (Some q) ds r e = of_found (of_items q.0) e
  where
    of_found : (x : Option Items) → option_map {U = Items × List Token} (λ y. (y, q.1)) x ≡ Some (ds, r) → option_map {U = Data × List Token} (λ y. (y, q.1)) (option_map array x) ≡ Some (array ds, r)
    of_found None e = absurd (cc)
    of_found (Some y) e = ap (option_map (λ it. (array it.0, it.1))) e

whole_array : (o : Option (json.Items × List Token))
    → holds_of_read is_whole (json.parse_map json.array o) ≡ holds_of_read items_are_whole o
whole_array None = refl
whole_array (Some q) = refl

-- the array whose items were read
pub array_read : (depth : ℕ) (whole start ts r : List Token) (ds : Items) → 0 < depth → whole ≡ Token.begin_array ∷ start → ReadsItems (depth - 1) start ts ds → after_end_array ts ≡ Some r → IsNextValue depth whole r (array ds)
array_read depth whole start ts r ds some begins so_far ends =
    let all : converted of_items (json.items (json.value (depth - 1)) (length start) start) ≡ Some (ds, r) =
    so_far.same ∙ ap (converted (λ them. option_map (items_after ds) (of_items them))) (items_end (json.value (depth - 1)) so_far.turns ts r so_far.enough ends) ∙ ap (λ it. Some (it, r)) (items_after-nil ds) in
    record {
      read = ap (λ ts. converted of_json (json.value depth ts)) begins ∙ ap (converted of_json) (value-begin_array depth start some) ∙ as_array (json.items (json.value (depth - 1)) (length start) start) ds r all;
      whole =
          ap (λ ts. holds_of_read is_whole (json.value depth ts)) begins
          ∙ ap (holds_of_read is_whole) (value-begin_array depth start some)
          ∙ whole_array (json.items (json.value (depth - 1)) (length start) start)
          ∙ so_far.whole
          ∙ ap (holds_of_read items_are_whole)
          (items_end (json.value (depth - 1)) so_far.turns ts r so_far.enough ends);
    }

-- the tokens of the array are fewer
pub array_shorter : (whole start ts r : List Token) → whole ≡ Token.begin_array ∷ start → length ts ≤ length start → after_end_array ts ≡ Some r → length r < length whole
array_shorter whole start ts r begins fewer ends = let less = after_end_array-shorter ts r ends in rw begins (omega (arith, less, fewer))

whole_value : (o : Option (json.Json × List Token)) (d : Data) (r : List Token) → converted of_json o ≡ Some (d, r) → r ≡ [] → option_and_then of_json (option_and_then (λ p. json.if_last p.0 p.1) o) ≡ Some d
whole_value None d r e ends = absurd (cc)
whole_value (Some q) d r e ends =
    let both = the_value of_json q r (of_json q.0) d e in
    ap (λ ts. option_and_then of_json (json.if_last q.0 ts)) (both.0 ∙ ends) ∙ both.1

-- the value of a text, behind which no token comes
pub text_read : (text : List ℕ) (d : Data) (r : List Token) → IsNextValue 127 (tokens text) r d → r ≡ [] → read text ≡ Some d
text_read text d r next ends = whole_value (json.value 127 (tokens text)) d r next.read ends

-- the value that was read of a text
pub value_read : (text : List ℕ) (start r : List Token) (d : Data) → IsUtf8 text → start ≡ tokens text → IsNextValue 127 start r d → r ≡ [] → IsValueOf text d
value_read text start r d utf8 is next ends =
    let from_text : IsNextValue 127 (tokens text) r d = subst (λ ts. IsNextValue 127 ts r d) is next in
    record { utf8 = utf8; json = text_read text d r from_text ends; whole = from_text.whole }

-- the document whose members were read
pub document_read : (text : List ℕ) (start r : List Token) (ms : Members) (document : Document) (lists : List (String Global × Vec (KeyValueProp Expr) Global)) → IsUtf8 text → start ≡ tokens text → IsNextValue 127 start r (object ms) → r ≡ []
    → IsDocument (object ms) document × AreLists (get_member (codes "meta") ms) lists → IsDocumentText text document lists
document_read text start r ms document lists utf8 is next ends are = record {
  value = object ms;
  is_read = value_read text start r (object ms) utf8 is next ends;
  is_document = are.0;
  are_lists = are.1;
}
