-- The names that export lists without `from` list.
-- Under which names a module exports does not hang on what its imports bind, and whether one is doubled hangs on the names alone.
-- Places that are marked, one by one, by what each lies in.
use Rattle.std.proofs.Common.{◌≡◌, ℕ, ◌+◌, Bool, true, false, List, [], ◌∷◌, ◌++◌, Option, Some, None, length, refl, ap, sym, ◌∙◌, map, ◌⊎◌, ◌<◌, set, get_or, slice_get, inl, inr, arith}
use Rattle.std.specs.Prelude.{if◌then◌else◌, filter, not, ◌&&◌, is_some}
use Rattle.std.specs.List.{flat_map}
use Rattle.std.proofs.lemmas.List.{map-append, get_or-set_same, get_or-set_other}
use Rattle.std.proofs.lemmas.Bool.{cases_eq}
use Rattle.bundle_syntax.specs.Item as h
use Rattle.bundle_syntax.specs.Item.{Item, Head}
use Rattle.bundle_rules.specs.Nodes.{Text, begins_with, child, in_field, parts, string_of, has_text}
use Rattle.bundle_rules.specs.Statements.{placed}
use Rattle.bundle_rules.specs.Faults.{is_named_specifier, listed_name, listed_names, names_in_list, names_listed, names_listed_by, entry_name}
use Rattle.bundle_rules.specs.Entries as e
use Rattle.bundle_rules.specs.Entries.{ExportEntry}
use Rattle.bundle_rules.specs.Places.{Around, path_to_option, path_at, spot_before}
use Rattle.bundle_tree_places.specs.Heads.{is_named_export}
use Rattle.bundle_tree_places.specs.Stated.{is_in_statement}
use Rattle.bundle_link_tables.specs.Listed.{kept_listed, lists_names}
use Rattle.bundle_link_tables.specs.Exported.{export_by, exports_named, named_by_head, named_here, named_in_list}
use Rattle.bundle_link_tables.specs.Judged.{doubled_entry_name}
use Rattle.bundle_link_tables.specs.Free.{is_place_marked}

-- ---- listed

-- specifier by specifier
kept_all : (specifiers : List (List Item)) → flat_map listed_name (filter (begins_with is_named_specifier) specifiers) ≡ flat_map kept_listed specifiers
kept_all [] = refl
kept_all (one ∷ more) = step (begins_with is_named_specifier one) (kept_all more)
  where
    step : (b : Bool) → flat_map listed_name (filter (begins_with is_named_specifier) more) ≡ flat_map kept_listed more → flat_map listed_name (if b then one ∷ filter (begins_with is_named_specifier) more else filter (begins_with is_named_specifier) more) ≡ (if b then listed_name one else []) ++ flat_map kept_listed more
    step true same = ap (λ l. listed_name one ++ l) same
    step false same = same

by_source : (source : Option Text) (item : List Item) → names_in_list source item ≡ (if not (is_some source) then flat_map kept_listed (in_field 0 item) else [])
by_source None item = kept_all (in_field 0 item)
by_source (Some text) item = refl

by_head : (head : Head) (item : List Item) → names_listed_by head item ≡ (if (is_named_export head && not (is_some (string_of (child 1 item)))) then flat_map kept_listed (in_field 0 item) else [])
by_head (h.NamedExport meta) item = by_source (string_of (child 1 item)) item
by_head _ item = refl

by_item : (item : List Item) → names_listed item ≡ (if lists_names item then flat_map kept_listed (in_field 0 item) else [])
by_item [] = refl
by_item (h.Open field head ∷ rest) = by_head head (h.Open field head ∷ rest)
by_item (h.Ident field symbol ctxt role ∷ rest) = refl
by_item (h.Hole field ∷ rest) = refl
by_item (h.Close ∷ rest) = refl

pub listed_here : (item : List Item) → lists_names item ≡ true → names_listed item ≡ flat_map kept_listed (in_field 0 item)
listed_here item is = by_item item ∙ ap (λ b. if b then flat_map kept_listed (in_field 0 item) else []) is

pub listed_nowhere : (item : List Item) → lists_names item ≡ false → names_listed item ≡ []
listed_nowhere item is = by_item item ∙ ap (λ b. if b then flat_map kept_listed (in_field 0 item) else []) is

-- those of a module, where these are its top items
names_placed : (start : ℕ) (nodes : List (List Item)) → flat_map (λ top. names_listed top.items) (placed start nodes) ≡ flat_map names_listed nodes
names_placed start [] = refl
names_placed start (node ∷ more) = ap (λ l. names_listed node ++ l) (names_placed (start + length node) more)

pub listed_placed : (tree : List Item) (tops : List (List Item)) → tops ≡ parts tree → flat_map names_listed tops ≡ listed_names tree
listed_placed tree tops are = ap (flat_map names_listed) are ∙ sym (names_placed 1 (parts tree))

-- ---- names

-- an entry of an export list has its name, wherever it comes from
given_name : (name of : Text) (found : Option e.ImportEntry) → entry_name (e.given_on name of found) ≡ Some name
given_name name of None = refl
given_name name of (Some entry) = by (entry.taken)
  where
    by : (taken : e.Taken) → entry_name (elim taken [ e.Named x ↦ e.Indirect name entry.specifier (e.Named x) | e.Whole ↦ e.Local name of ]) ≡ Some name
    by (e.Named x) = refl
    by e.Whole = refl

-- entries that are alike one by one have the same names
flat_alike : (first second : List Item → List ExportEntry) → ((item : List Item) → map entry_name (first item) ≡ map entry_name (second item)) → (items : List (List Item)) → map entry_name (flat_map first items) ≡ map entry_name (flat_map second items)
flat_alike first second same [] = refl
flat_alike first second same (item ∷ more) =
    map-append entry_name (first item) (flat_map first more)
    ∙ ap (λ l. l ++ map entry_name (flat_map first more)) (same item)
    ∙ ap (λ l. map entry_name (second item) ++ l) (flat_alike first second same more)
    ∙ sym (map-append entry_name (second item) (flat_map second more))

module _ (look other : Text → Option e.ImportEntry) where
  here_alike : (specifier : List Item) → map entry_name (named_here look specifier) ≡ map entry_name (named_here other specifier)
  here_alike specifier = by (begins_with is_named_specifier specifier)
    where
      name : Text
      name = e.renamed_text specifier

      of : Text
      of = e.text_in 0 specifier

      by : (b : Bool) → map entry_name (if b then export_by look specifier ∷ [] else []) ≡ map entry_name (if b then export_by other specifier ∷ [] else [])
      by true = ap (λ x. x ∷ []) (given_name name of (look of) ∙ sym (given_name name of (other of)))
      by false = refl

  in_list_alike : (source : Option Text) (item : List Item) → map entry_name (named_in_list look source item) ≡ map entry_name (named_in_list other source item)
  in_list_alike (Some source) item = refl
  in_list_alike None item = flat_alike (named_here look) (named_here other) here_alike (in_field 0 item)

  by_head_alike : (head : Head) (item : List Item) → map entry_name (named_by_head look head item) ≡ map entry_name (named_by_head other head item)
  by_head_alike (h.NamedExport meta) item = in_list_alike (string_of (child 1 item)) item
  by_head_alike _ item = refl

  named_alike : (item : List Item) → map entry_name (exports_named look item) ≡ map entry_name (exports_named other item)
  named_alike [] = refl
  named_alike (h.Open field head ∷ rest) = by_head_alike head (h.Open field head ∷ rest)
  named_alike (h.Ident field symbol ctxt role ∷ rest) = refl
  named_alike (h.Hole field ∷ rest) = refl
  named_alike (h.Close ∷ rest) = refl

  -- top items export under the same names, whatever imports are found
  pub names_alike : (items : List (List Item)) → map entry_name (flat_map (exports_named look) items) ≡ map entry_name (flat_map (exports_named other) items)
  names_alike items = flat_alike (exports_named look) (exports_named other) named_alike items

-- entries with the same names have the same first doubled one
pub doubled_alike : (met : List Text) (first second : List ExportEntry) → map entry_name first ≡ map entry_name second → doubled_entry_name met first ≡ doubled_entry_name met second
doubled_alike met [] [] same = refl
doubled_alike met [] (y ∷ second) same = cc
doubled_alike met (x ∷ first) [] same = cc
doubled_alike met (x ∷ first) (y ∷ second) same =
    let here : entry_name x ≡ entry_name y = cc in
    let more : map entry_name first ≡ map entry_name second = cc in
    ap (λ (name : Option Text). elim name [ None ↦ doubled_entry_name met first | Some n ↦ if has_text n met then Some n else doubled_entry_name (met ++ n ∷ []) first ]) here
    ∙ by (entry_name y) (λ k. doubled_alike k first second more)
  where
    of_met : (n : Text) (b : Bool) → ((k : List Text) → doubled_entry_name k first ≡ doubled_entry_name k second) → (if b then Some n else doubled_entry_name (met ++ n ∷ []) first) ≡ (if b then Some n else doubled_entry_name (met ++ n ∷ []) second)
    of_met n true again = refl
    of_met n false again = again (met ++ n ∷ [])

    by : (name : Option Text) → ((k : List Text) → doubled_entry_name k first ≡ doubled_entry_name k second) → ◌≡◌ {A = Option Text} (elim name [ None ↦ doubled_entry_name met first | Some n ↦ if has_text n met then Some n else doubled_entry_name (met ++ n ∷ []) first ]) (elim name [ None ↦ doubled_entry_name met second | Some n ↦ if has_text n met then Some n else doubled_entry_name (met ++ n ∷ []) second ])
    by None again = again met
    by (Some n) again = of_met n (has_text n met) again

-- ---- within

-- the field in which a place lies does not matter
stated_in_field : (path : List Around) (x : Option Item) → is_in_statement path ≡ is_in_statement (path_to_option path x)
stated_in_field path None = refl
stated_in_field [] (Some (h.Open field head)) = refl
stated_in_field (node ∷ outer) (Some (h.Open field head)) = refl
stated_in_field [] (Some (h.Ident field symbol ctxt role)) = refl
stated_in_field (node ∷ outer) (Some (h.Ident field symbol ctxt role)) = refl
stated_in_field [] (Some (h.Hole field)) = refl
stated_in_field (node ∷ outer) (Some (h.Hole field)) = refl
stated_in_field path (Some h.Close) = refl

-- a place more is marked
pub marked_next : (tree : List Item) (old : List Bool) (n : ℕ) (b : Bool) → n < length old → b ≡ is_in_statement (spot_before tree n).path → ((p : ℕ) → p < n → is_place_marked old p ≡ is_in_statement (path_at tree p)) → (p : ℕ) → p < n + 1 → is_place_marked (set old n b) p ≡ is_in_statement (path_at tree p)
marked_next tree old n b inside here each p l = by (cases_eq p n)
  where
    by : (p ≡ n) ⊎ (p ≡ n → ⊥) → get_or (set old n b) p false ≡ is_in_statement (path_at tree p)
    by (inl same) =
        ap (λ k. get_or (set old n b) k false) same
        ∙ get_or-set_same old n b false inside
        ∙ here
        ∙ stated_in_field (spot_before tree n).path (slice_get tree n)
        ∙ ap (λ k. is_in_statement (path_at tree k)) (sym same)
    by (inr other) = get_or-set_other old n p b false other ∙ each p (omega (arith, l, other))
