-- Whether a default export without a name stands in a list, place by place.
-- Doubled and undeclared names, export by export; and the fault that is told of them.
use Rattle.std.proofs.Common.{◌≡◌, ℕ, ◌+◌, ◌<◌, ◌≤◌, true, false, ◌||◌, List, ◌∷◌, length, map, drop, get_or, ap, sym, ◌∙◌, Bool, not, cond, [], ◌++◌, Option, Some, None, find, bytes_eq, subst}
use Rattle.std.proofs.lemmas.List.{drop_more, drop_all}
use Rattle.std.specs.Prelude.{if◌then◌else◌, option_map, filter, MatchOption}
use Rattle.std.specs.List.{list_any}
use Rattle.std.specs.Borrow.{Bor}
use Rattle.bundle_tree_names.specs.FileName.{Name}
use Rattle.indexmap.specs.IndexSet.{insert_key}
use Rattle.bundle_syntax.specs.declared.piece.Piece.{Piece}
use Rattle.bundle_syntax.specs.Item.{Item, item_of}
use Rattle.bundle_rules.specs.Declarations.{BySymbol}
use Rattle.bundle_rules.specs.Scopes.{Es}
use Rattle.bundle_rules.specs.Nodes.{Text, has_text, has_head}
use Rattle.bundle_rules.specs.Bundle.{is_with}
use Rattle.bundle_rules.specs.Entries.{ExportEntry, exports_of}
use Rattle.bundle_rules.specs.Tables.{is_star}
use Rattle.bundle_rules.specs.Faults as t
use Rattle.bundle_rules.specs.Faults.{Fault, ListedName, entry_name, listed_names, IsFaultless, IsFirstTreeFault}
use Rattle.bundle_scope_denote.specs.declared.table.Denotations.{Denotations}
use Rattle.bundle_scope_denote.specs.Listed.{IsDenotationTable}
use Rattle.bundle_link_tables.specs.Free.{has_nameless_default, names_nothing, told_top_names}
use Rattle.bundle_link_tables.specs.declared.table.Export.{Export}
use Rattle.bundle_link_tables.specs.declared.table.FileFault.{FileFault}
use Rattle.bundle_link_tables.specs.declared.listed.ExportListName.{ExportListName}
use Rattle.bundle_link_tables.specs.Judged.{doubled_entry_name, first_fault, is_top_name, is_undeclared, undeclared_name}
use Rattle.bundle_link_tables.specs.Listed.{export_listed_as}
use Rattle.bundle_link_tables.specs.TablesOf.{export_entry_of, fault_in}
use Rattle.bundle_link_tables.proofs.DoubledLemmas.{doubled_split}
use Rattle.bundle_link_tables.proofs.FaultLemmas.{doubled_filter, judged, undeclared_alike}
use Rattle.bundle_link_tables.proofs.ListedLemmas.{doubled_alike}
use Rattle.bundle_link_tables.proofs.MarkLemmas.{has_key, map_put}
use Rattle.bundle_link_tables.proofs.CallLemmas.{top_told}

-- ---- nameless

-- an element more was passed
nameless_split : (pieces : List Piece) (place : ℕ) (d : Piece) → place < length pieces → has_nameless_default (map item_of (drop place pieces)) ≡ (names_nothing (map item_of (drop place pieces)) || has_nameless_default (map item_of (drop (place + 1) pieces)))
nameless_split pieces place d inside =
    let rest : List Item = map item_of (drop (place + 1) pieces) in
    let split : map item_of (drop place pieces) ≡ item_of (get_or pieces place d) ∷ rest = ap (map item_of) (drop_more pieces place d inside) in
    ap has_nameless_default split ∙ ap (λ l. names_nothing l || has_nameless_default rest) (sym split)

pub nameless_here : (pieces : List Piece) (place : ℕ) (d : Piece) → place < length pieces → names_nothing (map item_of (drop place pieces)) ≡ true → has_nameless_default (map item_of (drop place pieces)) ≡ true
nameless_here pieces place d inside is = nameless_split pieces place d inside ∙ ap (λ b. b || has_nameless_default (map item_of (drop (place + 1) pieces))) is

pub nameless_past : (pieces : List Piece) (place : ℕ) (d : Piece) → place < length pieces → names_nothing (map item_of (drop place pieces)) ≡ false → has_nameless_default (map item_of (drop place pieces)) ≡ has_nameless_default (map item_of (drop (place + 1) pieces))
nameless_past pieces place d inside is = nameless_split pieces place d inside ∙ ap (λ b. b || has_nameless_default (map item_of (drop (place + 1) pieces))) is

pub nameless_end : (pieces : List Piece) (place : ℕ) → length pieces ≤ place → has_nameless_default (map item_of (drop place pieces)) ≡ false
nameless_end pieces place past = ap (λ l. has_nameless_default (map item_of l)) (drop_all place pieces past)

-- ---- told

-- a name that was met is told
pub doubled_here : (keys : List (Bor Text)) (exports : List Export) (i : ℕ) (d : Export) (all : Option Text) → i < length exports → list_any (λ key. bytes_eq (get_or exports i d).name.now key.now) keys ≡ true → all ≡ doubled_entry_name (map (λ key. key.now) keys) (map export_entry_of (drop i exports)) → Some (get_or exports i d).name.now ≡ all
doubled_here keys exports i d all inside is known =
    let met : List Text = map (λ key. key.now) keys in
    let name : Bor Text = (get_or exports i d).name in
    sym (
    known
    ∙ doubled_split met exports i d inside
    ∙ ap (λ b. if b then Some name.now else doubled_entry_name (met ++ name.now ∷ []) (map export_entry_of (drop (i + 1) exports))) (sym (has_key name keys) ∙ is)
    )

-- another one is met now
pub doubled_past : (old new : List (Bor Text)) (exports : List Export) (i : ℕ) (d : Export) (all : Option Text) → i < length exports → list_any (λ key. bytes_eq (get_or exports i d).name.now key.now) old ≡ false → new ≡ insert_key (λ x y. bytes_eq x.now y.now) old (get_or exports i d).name → all ≡ doubled_entry_name (map (λ key. key.now) old) (map export_entry_of (drop i exports)) → all ≡ doubled_entry_name (map (λ key. key.now) new) (map export_entry_of (drop (i + 1) exports))
doubled_past old new exports i d all inside is put known =
    let met : List Text = map (λ key. key.now) old in
    let name : Bor Text = (get_or exports i d).name in
    let rest : List ExportEntry = map export_entry_of (drop (i + 1) exports) in
    known
    ∙ doubled_split met exports i d inside
    ∙ ap (λ b. if b then Some name.now else doubled_entry_name (met ++ name.now ∷ []) rest) (sym (has_key name old) ∙ is)
    ∙ sym (
    ap (λ keys. doubled_entry_name (map (λ key. key.now) keys) rest) put
    ∙ ap (λ l. doubled_entry_name l rest) (map_put (list_any (λ other. bytes_eq name.now other.now) old) name old)
    ∙ ap (λ b. doubled_entry_name (if b then met else met ++ name.now ∷ []) rest) is
    )

-- all were passed
pub doubled_end : (met : List Text) (exports : List Export) (i : ℕ) (all : Option Text) → length exports ≤ i → all ≡ doubled_entry_name met (map export_entry_of (drop i exports)) → None ≡ all
doubled_end met exports i all past known = sym (known ∙ ap (λ l. doubled_entry_name met (map export_entry_of l)) (drop_all i exports past))

-- Undeclared names.

undeclared_split : (declared : Text → Bool) (listed : List ExportListName) (i : ℕ) (d : ExportListName) → i < length listed → undeclared_name declared (map export_listed_as (drop i listed)) ≡ option_map (λ (name : ListedName). name.text) (cond (is_undeclared declared (export_listed_as (get_or listed i d))) (Some (export_listed_as (get_or listed i d))) (find (is_undeclared declared) (map export_listed_as (drop (i + 1) listed))))
undeclared_split declared listed i d inside = ap (λ l. undeclared_name declared (map export_listed_as l)) (drop_more listed i d inside)

pub undeclared_here : (declared : Text → Bool) (listed : List ExportListName) (i : ℕ) (d : ExportListName) (all : Option Text) → i < length listed → is_undeclared declared (export_listed_as (get_or listed i d)) ≡ true → all ≡ undeclared_name declared (map export_listed_as (drop i listed)) → Some (get_or listed i d).name.now ≡ all
undeclared_here declared listed i d all inside is known =
    sym (
    known
    ∙ undeclared_split declared listed i d inside
    ∙ ap (λ b. option_map (λ (name : ListedName). name.text) (cond b (Some (export_listed_as (get_or listed i d))) (find (is_undeclared declared) (map export_listed_as (drop (i + 1) listed))))) is
    )

pub undeclared_past : (declared : Text → Bool) (listed : List ExportListName) (i : ℕ) (d : ExportListName) (all : Option Text) → i < length listed → is_undeclared declared (export_listed_as (get_or listed i d)) ≡ false → all ≡ undeclared_name declared (map export_listed_as (drop i listed)) → all ≡ undeclared_name declared (map export_listed_as (drop (i + 1) listed))
undeclared_past declared listed i d all inside is known =
    known
    ∙ undeclared_split declared listed i d inside
    ∙ ap (λ b. option_map (λ (name : ListedName). name.text) (cond b (Some (export_listed_as (get_or listed i d))) (find (is_undeclared declared) (map export_listed_as (drop (i + 1) listed))))) is

pub undeclared_end : (declared : Text → Bool) (listed : List ExportListName) (i : ℕ) (all : Option Text) → length listed ≤ i → all ≡ undeclared_name declared (map export_listed_as (drop i listed)) → None ≡ all
undeclared_end declared listed i all past known = sym (known ∙ ap (λ l. undeclared_name declared (map export_listed_as l)) (drop_all i listed past))

-- The fault that is told.

pub told_doubled : (file : Name) (doubled undeclared : Option Text) (has_with : Bool) (x : Text) → Some x ≡ doubled → Some (t.DoubledExport file x) ≡ first_fault file doubled undeclared has_with
told_doubled file doubled undeclared has_with x is = ap (λ d. first_fault file d undeclared has_with) is

pub told_undeclared : (file : Name) (doubled undeclared : Option Text) (has_with : Bool) (x : Text) → None ≡ doubled → Some x ≡ undeclared → Some (t.UndeclaredExport file x) ≡ first_fault file doubled undeclared has_with
told_undeclared file doubled undeclared has_with x none is = ap (λ d. first_fault file d (Some x) has_with) none ∙ ap (λ u. first_fault file doubled u has_with) is

pub told_with : (file : Name) (doubled undeclared : Option Text) (has_with : Bool) → None ≡ doubled → None ≡ undeclared → has_with ≡ true → Some (t.WithStatement file) ≡ first_fault file doubled undeclared has_with
told_with file doubled undeclared has_with none declared is =
    ap (λ d. first_fault file d None true) none ∙ ap (λ u. first_fault file doubled u true) declared ∙ ap (first_fault file doubled undeclared) (sym is)

pub told_none : (file : Name) (doubled undeclared : Option Text) (has_with : Bool) → None ≡ doubled → None ≡ undeclared → has_with ≡ false → None ≡ first_fault file doubled undeclared has_with
told_none file doubled undeclared has_with none declared is =
    ap (λ d. first_fault file d None false) none ∙ ap (λ u. first_fault file doubled u false) declared ∙ ap (first_fault file doubled undeclared) (sym is)

-- what is told by the tables is told by the tree
pub told_by_tree : (file : Name) (tree : List Item) (table : Denotations) (exports : List ExportEntry) (listed : List ListedName) (with : Bool) → IsDenotationTable BySymbol Es tree table → map entry_name exports ≡ map entry_name (filter (λ entry. not (is_star entry)) (exports_of tree)) → listed ≡ listed_names tree → with ≡ has_head is_with tree → first_fault file (doubled_entry_name [] exports) (undeclared_name (λ x. has_text x (told_top_names table tree)) listed) with ≡ first_fault file (doubled_entry_name [] (exports_of tree)) (undeclared_name (is_top_name tree) (listed_names tree)) (has_head is_with tree)
told_by_tree file tree table exports listed with is are names same =
    ap (first_fault file (doubled_entry_name [] exports) (undeclared_name (λ x. has_text x (told_top_names table tree)) listed)) same
    ∙ ap (λ d. first_fault file d (undeclared_name (λ x. has_text x (told_top_names table tree)) listed) (has_head is_with tree)) (doubled_alike [] exports (filter (λ entry. not (is_star entry)) (exports_of tree)) are ∙ doubled_filter [] (exports_of tree))
    ∙ ap (λ u. first_fault file (doubled_entry_name [] (exports_of tree)) u (has_head is_with tree)) (undeclared_alike (λ x. has_text x (told_top_names table tree)) (is_top_name tree) (top_told tree table is) listed ∙ ap (undeclared_name (is_top_name tree)) names)

-- the same where no list of exports without `from` stands in the tree
pub told_unlisted : (file : Name) (tree : List Item) (exports : List ExportEntry) → map entry_name exports ≡ map entry_name (filter (λ entry. not (is_star entry)) (exports_of tree)) → listed_names tree ≡ [] → first_fault file (doubled_entry_name [] exports) None (has_head is_with tree) ≡ first_fault file (doubled_entry_name [] (exports_of tree)) (undeclared_name (is_top_name tree) (listed_names tree)) (has_head is_with tree)
told_unlisted file tree exports are none =
    ap (λ d. first_fault file d None (has_head is_with tree)) (doubled_alike [] exports (filter (λ entry. not (is_star entry)) (exports_of tree)) are ∙ doubled_filter [] (exports_of tree))
    ∙ ap (λ l. first_fault file (doubled_entry_name [] (exports_of tree)) (undeclared_name (is_top_name tree) l) (has_head is_with tree)) (sym none)

module _ (file : Name) (tree : List Item) where
  judged_by : (told : Option Fault) → told ≡ first_fault file (doubled_entry_name [] (exports_of tree)) (undeclared_name (is_top_name tree) (listed_names tree)) (has_head is_with tree) → MatchOption told (IsFaultless file tree) (IsFirstTreeFault file tree)
  judged_by told is = let P : Option Fault → Type 0 = λ it. MatchOption it (IsFaultless file tree) (IsFirstTreeFault file tree) in subst P (sym is) (judged file tree)

  -- a fault that was found is the first, and where none was found there is none
  pub found_first : (found : Option FileFault) (fault : FileFault) → found ≡ Some fault → option_map (fault_in file) found ≡ first_fault file (doubled_entry_name [] (exports_of tree)) (undeclared_name (is_top_name tree) (listed_names tree)) (has_head is_with tree) → IsFirstTreeFault file tree (fault_in file fault)
  found_first found fault is told = judged_by (Some (fault_in file fault)) (sym (ap (option_map (fault_in file)) is) ∙ told)

  pub found_none : (found : Option FileFault) → found ≡ None → option_map (fault_in file) found ≡ first_fault file (doubled_entry_name [] (exports_of tree)) (undeclared_name (is_top_name tree) (listed_names tree)) (has_head is_with tree) → IsFaultless file tree
  found_none found is told = judged_by None (sym (ap (option_map (fault_in file)) is) ∙ told)
