-- How many elements, and which names, there are in what is edited.
-- Statements with other identifiers are statements still, and a list of exports is one still.
use Rattle.std.proofs.Common.{◌≡◌, ◌≤◌, ℕ, ◌+◌, Bool, true, false, List, [], ◌∷◌, ◌++◌, Option, Some, None, map, length, refl, ap, sym, ◌∙◌, subst, append_assoc, arith, length-append, not, flat_map}
use Rattle.std.specs.Prelude.{bytes_eq, codes, if◌then◌else◌, drop}
use Rattle.std.specs.List.{list_all, AllZip, AllByRecursion}
use Rattle.std.proofs.lemmas.Bool.{and_parts, and_from}
use Rattle.std.proofs.lemmas.List.Folds.{list_all-append}
use Rattle.bundle_syntax.specs.declared.piece.Role.{Role}
use Rattle.bundle_syntax.specs.Item as h
use Rattle.bundle_syntax.specs.Item.{Item, Head}
use Rattle.bundle_order_graph.proofs.OrderLemmas.{not-true as not_so}
use Rattle.bundle_syntax.specs.declared.piece.Role.TheVariants as r
use Rattle.bundle_rules.specs.Nodes.{Text}
use Rattle.bundle_rules.specs.Idents.{Ident}
use Rattle.bundle_rules.specs.Rebuilds.{Change, spells_out, plain_key, key_in_object}
use Rattle.bundle_rules.specs.Places.{Spot, past, start}
use Rattle.bundle_rules.specs.Injected.{is_ascii_identifier}
use Rattle.bundle_rules.specs.Sorting.{flat}
use Rattle.bundle_rules.specs.Statements.{no_notes}
use Rattle.bundle_rules.specs.Callable.{is_module_head, word, text, Specifier, specifier_items, IsBack, exports}
use Rattle.bundle_tree_places.specs.Edits as c
use Rattle.bundle_tree_places.specs.Edits.{Around, Anywhere, InObject, InSpecifier, Edits, node, is_occurrence, next, in_its_place, binding, pattern_in_its_place, shorthand_in_its_place, renamed}
use Rattle.bundle_tree_places.proofs.EditsLemmas.{rebuilt_so}
use Rattle.bundle_merge_injected.specs.Listed
use Rattle.bundle_scope_names.specs.fit.Sorts.{AStmt}
use Rattle.bundle_scope_names.specs.fit.Fits.{IsFit}
use Rattle.bundle_scope_names.specs.fit.Seen.{AreSeen}
use Rattle.bundle_scope_names.proofs.fit.Rows.{own_head, own_at, steps, last}
use Rattle.bundle_scope_names.proofs.fit.Keys.{seen}
use Rattle.bundle_merge_theory.specs.walked.Names.{idents_among}
use Rattle.bundle_merge_theory.specs.walked.Renaming.{last_is_name, ident_of_change}
use Rattle.bundle_merge_theory.proofs.walked.NameLemmas.{names_of-append, node_names, word_names, name_names, short_names}
use Rattle.bundle_merge_theory.proofs.walked.Renaming.{last-append, last_of_node}
use Rattle.bundle_merge_theory.specs.noted.Nodes as n
use Rattle.bundle_merge_theory.specs.noted.Nodes.{AreNodesInTurn}
use Rattle.bundle_merge_theory.proofs.noted.Shapes.{join, one_node}
use Rattle.bundle_merge_theory.specs.finished.Statements.{is_inner_item, AreStatementNodes}
use Rattle.bundle_merge_theory.proofs.composed.Remade.{IsEdited}
use Rattle.bundle_merge_theory.proofs.fit.Facts.{fit_nodes}

-- ---- sizes

-- Names.

-- what is made of a name has its identifier
pair_names : (computed : Bool) (field : ℕ) (x : Text) (new : Ident) (role : Role) →
    is_occurrence role ≡ true →
    idents_among
    (node field h.KeyValueProp ((if computed then h.Open 0 h.ComputedPropName ∷ h.Open 0 (h.Str x None) ∷ h.Close ∷ h.Close ∷ [] else plain_key x) ++ h.Ident 1 new.0 new.1 role ∷ []))
    ≡
    new ∷ []
pair_names true field x new role occurs = name_names 1 new.0 new.1 role (h.Close ∷ []) occurs
pair_names false field x new role occurs = name_names 1 new.0 new.1 role (h.Close ∷ []) occurs

place_names : (around : Around) (change : Change) (field : ℕ) (x : Text) (ctxt : ℕ) (role : Role) →
    is_occurrence role ≡ true →
    idents_among (in_its_place around (Some change) field x ctxt role) ≡ change.ident ∷ []
place_names Anywhere change field x ctxt role occurs =
    name_names field change.ident.0 change.ident.1 role [] occurs
place_names InObject change field x ctxt role occurs = by_spelled change.is_spelled_out
  where
    by_spelled : (b : Bool) →
        idents_among
        (if b then node field h.KeyValueProp (key_in_object x ++ h.Ident 1 change.ident.0 change.ident.1 role ∷ []) else h.Ident field change.ident.0 change.ident.1 role ∷ [])
        ≡
        change.ident ∷ []
    by_spelled true = pair_names (bytes_eq x (codes "__proto__")) field x change.ident role occurs
    by_spelled false = name_names field change.ident.0 change.ident.1 role [] occurs
place_names InSpecifier change field x ctxt role occurs = by_spelled change.is_spelled_out
  where
    by_spelled : (b : Bool) →
        idents_among
        (if b then h.Ident field change.ident.0 change.ident.1 role ∷ h.Ident 1 x 0 r.Word ∷ [] else h.Ident field change.ident.0 change.ident.1 role ∷ [])
        ≡
        change.ident ∷ []
    by_spelled true =
        name_names field change.ident.0 change.ident.1 role (h.Ident 1 x 0 r.Word ∷ []) occurs
    by_spelled false = name_names field change.ident.0 change.ident.1 role [] occurs

pattern_names : (change : Change) (x : Text) (ctxt : ℕ) (role : Role) (default : List Item) →
    is_occurrence role ≡ true →
    idents_among (pattern_in_its_place (Some change) x ctxt role default) ≡
    change.ident ∷ idents_among default
pattern_names change x ctxt role [] occurs =
    name_names 0 change.ident.0 change.ident.1 role (h.Close ∷ []) occurs
pattern_names change x ctxt role (y ∷ ys) occurs =
    node_names 1 h.AssignPat (binding (Some change) 0 x ctxt role ++ y ∷ ys)
    ∙ name_names 0 change.ident.0 change.ident.1 role (h.Close ∷ y ∷ ys) occurs

short_made_names : (change : Change) (field : ℕ) (x : Text) (ctxt : ℕ) (role : Role)
    (default : List Item) →
    is_occurrence role ≡ true →
    idents_among (shorthand_in_its_place (Some change) field x ctxt role default) ≡
    change.ident ∷ idents_among default
short_made_names change field x ctxt role default occurs = by_spelled change.is_spelled_out
  where
    by_spelled : (b : Bool) →
        idents_among
        (if b then node field h.KeyValuePatProp (plain_key x ++ pattern_in_its_place (Some change) x ctxt role default) else node field h.AssignPatProp (binding (Some change) 0 x ctxt role ++ default))
        ≡
        change.ident ∷ idents_among default
    by_spelled true =
        node_names field h.KeyValuePatProp
        (plain_key x ++ pattern_in_its_place (Some change) x ctxt role default)
        ∙ pattern_names change x ctxt role default occurs
    by_spelled false = short_names field change.ident.0 change.ident.1 role default occurs

-- the names of what is made are those of the changes in turn
pub record NamedSo (before made : List Item) (changes rest : List Change) : Type 0 where
  pub names : map ident_of_change changes ≡ idents_among made ++ map ident_of_change rest
  pub size : length changes ≡ length (idents_among before) + length rest

named_one : (before made : List Item) (x : Ident) (change : Change) (rest : List Change) →
    idents_among before ≡ x ∷ [] → idents_among made ≡ change.ident ∷ [] →
    NamedSo before made (change ∷ rest) rest
named_one before made x change rest one two = record {
  names = ap (λ l. l ++ map ident_of_change rest) (sym two);
  size = let e = ap (λ (l : List Ident). length l) one in omega (arith, e);
}

named_none : (part : List Item) (changes : List Change) → idents_among part ≡ [] →
    NamedSo part part changes changes
named_none part changes none = record { names = ap (λ l. l ++ map ident_of_change changes) (sym none); size = let e = ap (λ (l : List Ident). length l) none in omega (arith, e) }

pub edited_names : {around : Around} {changes rest : List Change} {before made : List Item} →
    Edits around changes before made rest → length (idents_among before) ≤ length changes →
    NamedSo before made changes rest
edited_names c.Nothing enough = record { names = refl; size = omega arith }
edited_names (c.Joined {changes = changes} {between = between} {rest = rest} {first = first} {made_first = made_first} {second = second} {made_second = made_second} d e) enough =
    let all = ap (λ (l : List Ident). length l) (names_of-append first second) ∙ length-append (idents_among first) (idents_among second) in
    let one = edited_names d (omega (arith, all, enough)) in
    let its = one.size in
    let two = edited_names e (omega (arith, all, enough, its)) in
    let more = two.size in
    record {
      names = one.names ∙ ap (λ l. idents_among made_first ++ l) two.names ∙ sym (append_assoc (idents_among made_first) (idents_among made_second) (map ident_of_change rest)) ∙ ap (λ l. l ++ map ident_of_change rest) (sym (names_of-append made_first made_second));
      size = omega (arith, all, its, more);
    }
edited_names (c.Hole {changes = changes} field) enough = named_none (h.Hole field ∷ []) changes refl
edited_names (c.Word {changes = changes} field x ctxt role plain) enough =
    named_none (h.Ident field x ctxt role ∷ []) changes (word_names field x ctxt role plain)
edited_names (c.Name around {changes = []} field x ctxt role occurs) enough = let is = ap (λ (l : List Ident). length l) (name_names field x ctxt role [] occurs) in absurd (omega (arith, enough, is))
edited_names (c.Name around {changes = change ∷ changes} field x ctxt role occurs) enough =
    named_one (h.Ident field x ctxt role ∷ []) (in_its_place around (Some change) field x ctxt role)
    (x, ctxt) change changes (name_names field x ctxt role [] occurs)
    (place_names around change field x ctxt role occurs)
edited_names (c.Inside {changes = changes} {rest = rest} field head {inside = inside} {made = made} plain one) enough =
    let its = edited_names one (subst (λ (l : List Ident). length l ≤ length changes) (node_names field head inside) enough) in
    record { names = its.names ∙ ap (λ l. l ++ map ident_of_change rest) (sym (node_names field head made)); size = let size = its.size in let e = ap (λ (l : List Ident). length l) (node_names field head inside) in omega (arith, size, e) }
edited_names (c.Shorthand {changes = []} field x ctxt role {default = default} occurs one) enough = let is = ap (λ (l : List Ident). length l) (short_names field x ctxt role default occurs) in absurd (omega (arith, enough, is))
edited_names (c.Shorthand {changes = change ∷ changes} {rest = rest} field x ctxt role {default = default} {made = made} occurs one) enough =
    let is = ap (λ (l : List Ident). length l) (short_names field x ctxt role default occurs) in
    let its = edited_names one (omega (arith, enough, is)) in
    let size = its.size in
    record {
      names = ap (λ l. change.ident ∷ l) its.names ∙ ap (λ l. l ++ map ident_of_change rest) (sym (short_made_names change field x ctxt role made occurs));
      size = omega (arith, is, size);
    }

-- Lengths.

longer-place : (around : Around) (change : Option Change) (field : ℕ) (x : Text) (ctxt : ℕ)
    (role : Role) →
    1 ≤ length (in_its_place around change field x ctxt role)
longer-place Anywhere change field x ctxt role = omega arith
longer-place InObject change field x ctxt role = by_spelled (spells_out change)
  where
    by_spelled : (b : Bool) →
        1 ≤ length
        (if b then node field h.KeyValueProp (key_in_object x ++ c.renamed change 1 x ctxt role ∷ []) else c.renamed change field x ctxt role ∷ [])
    by_spelled true = omega arith
    by_spelled false = omega arith
longer-place InSpecifier change field x ctxt role = by_spelled (spells_out change)
  where
    by_spelled : (b : Bool) →
        1 ≤ length
        (if b then c.renamed change field x ctxt role ∷ h.Ident 1 x 0 r.Word ∷ [] else c.renamed change field x ctxt role ∷ [])
    by_spelled true = omega arith
    by_spelled false = omega arith

pub node-length : (field : ℕ) (head : Head) (inside : List Item) →
    length (node field head inside) ≡ length inside + 2
node-length field head inside = let e = length-append inside (h.Close ∷ []) in omega (arith, e)

pattern-length : (change : Option Change) (x : Text) (ctxt : ℕ) (role : Role) (default : List Item)
    →
    3 + length default ≤ length (pattern_in_its_place change x ctxt role default)
pattern-length change x ctxt role [] = omega arith
pattern-length change x ctxt role (y ∷ ys) = let e = length-append ys (h.Close ∷ []) in omega (arith, e)

short-length : (b : Bool) (change : Option Change) (field : ℕ) (x : Text) (ctxt : ℕ) (role : Role)
    (default : List Item) →
    5 + length default ≤ length
    (if b then node field h.KeyValuePatProp (plain_key x ++ pattern_in_its_place change x ctxt role default) else node field h.AssignPatProp (binding change 0 x ctxt role ++ default))
short-length true change field x ctxt role default = let e = node-length field h.KeyValuePatProp (plain_key x ++ pattern_in_its_place change x ctxt role default) in let f = pattern-length change x ctxt role default in omega (arith, e, f)
short-length false change field x ctxt role default = let e = node-length field h.AssignPatProp (binding change 0 x ctxt role ++ default) in omega (arith, e)

pub longer : {around : Around} {changes rest : List Change} {before made : List Item} →
    Edits around changes before made rest → length before ≤ length made
longer c.Nothing = omega arith
longer (c.Joined {first = first} {made_first = made_first} {second = second} {made_second = made_second} d e) =
    let a = longer d in
    let b = longer e in
    let f = length-append first second in
    let g = length-append made_first made_second in
    omega (arith, a, b, f, g)
longer (c.Hole field) = omega arith
longer (c.Word field x ctxt role plain) = omega arith
longer (c.Name around {changes = changes} field x ctxt role occurs) =
    longer-place around (next changes) field x ctxt role
longer (c.Inside field head {inside = inside} {made = made} plain one) =
    let a = longer one in
    let f = node-length field head inside in
    let g = node-length field head made in
    omega (arith, a, f, g)
longer (c.Shorthand {changes = changes} field x ctxt role {default = default} {made = made} occurs one) =
    let a = longer one in
    let f = node-length field h.AssignPatProp (binding None 0 x ctxt role ++ default) in
    let g = short-length (spells_out (next changes)) (next changes) field x ctxt role made in
    omega (arith, a, f, g)

-- of nothing comes nothing
pub none-made : {around : Around} {changes rest : List Change} {before made : List Item} →
    Edits around changes before made rest → length before ≤ 0 → length made ≤ 0
none-made c.Nothing none = omega arith
none-made (c.Joined {first = first} {made_first = made_first} {second = second} {made_second = made_second} d e) none =
    let f = length-append first second in
    let g = length-append made_first made_second in
    let a = none-made d (omega (arith, f, none)) in
    let b = none-made e (omega (arith, f, none)) in
    omega (arith, a, b, g)
none-made (c.Hole field) none = absurd (omega (arith, none))
none-made (c.Word field x ctxt role plain) none = absurd (omega (arith, none))
none-made (c.Name around field x ctxt role occurs) none = absurd (omega (arith, none))
none-made (c.Inside field head {inside = inside} plain one) none = absurd (omega (arith, none))
none-made (c.Shorthand field x ctxt role occurs one) none = absurd (omega (arith, none))

-- What stands last.

-- anywhere
pub data IsAnywhere : Around → Type 0 where
  here : IsAnywhere Anywhere

last-renamed : (change : Option Change) (b : Bool) (field : ℕ) (x : Text) (ctxt : ℕ) (role : Role) →
    last_is_name b (c.renamed change field x ctxt role ∷ []) ≡ is_occurrence role
last-renamed None b field x ctxt role = refl
last-renamed (Some change) b field x ctxt role = refl

last-short : (b s : Bool) (change : Option Change) (field : ℕ) (x : Text) (ctxt : ℕ) (role : Role)
    (default : List Item) →
    last_is_name b
    (if s then node field h.KeyValuePatProp (plain_key x ++ pattern_in_its_place change x ctxt role default) else node field h.AssignPatProp (binding change 0 x ctxt role ++ default))
    ≡
    false
last-short b true change field x ctxt role default =
    last_of_node (plain_key x ++ pattern_in_its_place change x ctxt role default)
last-short b false change field x ctxt role default =
    last_of_node (binding change 0 x ctxt role ++ default)

pub same-last : {around : Around} {changes rest : List Change} {before made : List Item} →
    Edits around changes before made rest → IsAnywhere around → (b : Bool) →
    last_is_name b made ≡ last_is_name b before
same-last c.Nothing any b = refl
same-last (c.Joined {first = first} {made_first = made_first} {second = second} {made_second = made_second} d e) any b =
    last-append b made_first made_second
    ∙ ap (λ k. last_is_name k made_second) (same-last d any b)
    ∙ same-last e any (last_is_name b first)
    ∙ sym (last-append b first second)
same-last (c.Hole field) any b = refl
same-last (c.Word field x ctxt role plain) any b = refl
same-last (c.Name _ {changes = changes} field x ctxt role occurs) here b =
    last-renamed (next changes) b field x ctxt role
same-last (c.Inside field head {inside = inside} {made = made} plain one) any b =
    last_of_node made ∙ sym (last_of_node inside)
same-last (c.Shorthand {changes = changes} field x ctxt role {default = default} {made = made} occurs one) any b =
    last-short b (spells_out (next changes)) (next changes) field x ctxt role made ∙ sym (last_of_node (binding None 0 x ctxt role ++ default))

-- Short lists.

pub data Short : List Item → Type 0 where
  none : Short []
  a_hole : (field : ℕ) → Short (h.Hole field ∷ [])
  a_word : (field : ℕ) (x : Text) (ctxt : ℕ) (role : Role) → is_occurrence role ≡ false →
      Short (h.Ident field x ctxt role ∷ [])
  a_name : (field : ℕ) (x : Text) (ctxt : ℕ) (role : Role) → is_occurrence role ≡ true →
      Short (h.Ident field x ctxt role ∷ [])

both-short : {first second : List Item} → Short first → Short second →
    length (first ++ second) ≤ 1 → Short (first ++ second)
both-short none two less = two
both-short (a_hole field) none less = a_hole field
both-short (a_word field x ctxt role is) none less = a_word field x ctxt role is
both-short (a_name field x ctxt role is) none less = a_name field x ctxt role is
both-short (a_hole field) (a_hole f) less = absurd (omega (arith, less))
both-short (a_hole field) (a_word f y k role is) less = absurd (omega (arith, less))
both-short (a_hole field) (a_name f y k role is) less = absurd (omega (arith, less))
both-short (a_word field x ctxt role is) (a_hole f) less = absurd (omega (arith, less))
both-short (a_word field x ctxt role is) (a_word f y k other its) less =
    absurd (omega (arith, less))
both-short (a_word field x ctxt role is) (a_name f y k other its) less =
    absurd (omega (arith, less))
both-short (a_name field x ctxt role is) (a_hole f) less = absurd (omega (arith, less))
both-short (a_name field x ctxt role is) (a_word f y k other its) less =
    absurd (omega (arith, less))
both-short (a_name field x ctxt role is) (a_name f y k other its) less =
    absurd (omega (arith, less))

pub short : {around : Around} {changes rest : List Change} {before made : List Item} →
    Edits around changes before made rest → length before ≤ 1 → Short before
short c.Nothing less = none
short (c.Joined {first = first} {second = second} d e) less =
    let f = length-append first second in
    both-short (short d (omega (arith, less, f))) (short e (omega (arith, less, f))) less
short (c.Hole field) less = a_hole field
short (c.Word field x ctxt role plain) less = a_word field x ctxt role plain
short (c.Name around field x ctxt role occurs) less = a_name field x ctxt role occurs
short (c.Inside field head {inside = inside} plain one) less = let f = node-length field head inside in absurd (omega (arith, less, f))
short (c.Shorthand field x ctxt role {default = default} occurs one) less = let f = node-length field h.AssignPatProp (binding None 0 x ctxt role ++ default) in absurd (omega (arith, less, f))

-- ---- statements

-- Parts.

inner_both : (xs ys : List Item) → list_all is_inner_item xs ≡ true → list_all is_inner_item ys ≡ true →
    list_all is_inner_item (xs ++ ys) ≡ true
inner_both xs ys one two =
    list_all-append is_inner_item xs ys ∙ and_from (list_all is_inner_item xs) (list_all is_inner_item ys) one two

inner_parts : (xs ys : List Item) → list_all is_inner_item (xs ++ ys) ≡ true →
    (list_all is_inner_item xs ≡ true) × (list_all is_inner_item ys ≡ true)
inner_parts xs ys both =
    and_parts (list_all is_inner_item xs) (list_all is_inner_item ys)
    (sym (list_all-append is_inner_item xs ys) ∙ both)

inner_node : (field : ℕ) (head : Head) (inside : List Item) → is_module_head head ≡ false →
    list_all is_inner_item inside ≡ true → list_all is_inner_item (node field head inside) ≡ true
inner_node field head inside apart its =
    and_from (not (is_module_head head)) (list_all is_inner_item (inside ++ h.Close ∷ []))
    (ap not apart)
    (inner_both inside (h.Close ∷ []) its refl)

inner_within : (field : ℕ) (head : Head) (inside : List Item) →
    list_all is_inner_item (node field head inside) ≡ true →
    (is_module_head head ≡ false) × (list_all is_inner_item inside ≡ true)
inner_within field head inside its =
    let parts =
    and_parts (not (is_module_head head)) (list_all is_inner_item (inside ++ h.Close ∷ [])) its in
    (not_so (is_module_head head) parts.0, (inner_parts inside (h.Close ∷ []) parts.1).0)

-- statements one after another
pub no_statements : AreStatementNodes []
no_statements = record { nodes = n.nothing; inner = refl }

pub both_statements : {xs ys : List Item} → AreStatementNodes xs → AreStatementNodes ys →
    AreStatementNodes (xs ++ ys)
both_statements {xs = xs} {ys = ys} one two =
    record { nodes = join one.nodes two.nodes; inner = inner_both xs ys one.inner two.inner }

-- What is fit as a statement.

seen_inner : (s : Spot) (items : List Item) → AreSeen own_at s items →
    list_all is_inner_item items ≡ true
seen_inner s [] them = refl
seen_inner s (h.Open field head ∷ items) them =
    and_from (not (is_module_head head)) (list_all is_inner_item items)
    (ap not (own_head head them.0.0 them.0.1 them.0.2))
    (seen_inner (past s (h.Open field head)) items them.1)
seen_inner s (h.Ident field x ctxt role ∷ items) them =
    seen_inner (past s (h.Ident field x ctxt role)) items them.1
seen_inner s (h.Hole field ∷ items) them = seen_inner (past s (h.Hole field)) items them.1
seen_inner s (h.Close ∷ items) them = seen_inner (past s h.Close) items them.1

pub stmt_statements : {items : List Item} → IsFit AStmt 0 items → AreStatementNodes items
stmt_statements {items = items} it = record {
  nodes = fit_nodes (last it);
  inner = seen_inner start items (seen own_at steps (last it) start refl);
}

-- With other identifiers.

-- a name, and what is spelled out for it, are whole nodes of which none is of a module
abbrev IsWell : List Item → Type 0
IsWell items = AreNodesInTurn items × (list_all is_inner_item items ≡ true)

well_both : (xs ys : List Item) → IsWell xs → IsWell ys → IsWell (xs ++ ys)
well_both xs ys one two = (join one.0 two.0, inner_both xs ys one.1 two.1)

well_node : (field : ℕ) (head : Head) (inside : List Item) → is_module_head head ≡ false →
    IsWell inside → IsWell (node field head inside)
well_node field head inside apart its =
    (one_node field head its.0, inner_node field head inside apart its.1)

well_name : (change : Option Change) (field : ℕ) (x : Text) (ctxt : ℕ) (role : Role) →
    IsWell (renamed change field x ctxt role ∷ [])
well_name None field x ctxt role = (n.name n.nothing, refl)
well_name (Some change) field x ctxt role = (n.name n.nothing, refl)

well_word : (field : ℕ) (x : Text) (ctxt : ℕ) (role : Role) →
    IsWell (h.Ident field x ctxt role ∷ [])
well_word field x ctxt role = (n.name n.nothing, refl)

well_plain : (x : Text) → IsWell (plain_key x)
well_plain x = well_node 0 (h.IdentName x) [] refl (n.nothing, refl)

well_key : (x : Text) → IsWell (key_in_object x)
well_key x = by (bytes_eq x (codes "__proto__"))
  where
    by : (b : Bool) →
        IsWell
        (if b
        then h.Open 0 h.ComputedPropName ∷ h.Open 0 (h.Str x None) ∷ h.Close ∷ h.Close ∷ []
        else plain_key x)
    by true =
        well_node 0 h.ComputedPropName (node 0 (h.Str x None) []) refl
        (well_node 0 (h.Str x None) [] refl (n.nothing, refl))
    by false = well_plain x

well_binding : (change : Option Change) (field : ℕ) (x : Text) (ctxt : ℕ) (role : Role) →
    IsWell (binding change field x ctxt role)
well_binding change field x ctxt role =
    well_node field h.BindingIdent (renamed change 0 x ctxt role ∷ []) refl
    (well_name change 0 x ctxt role)

well_place : (around : Around) (change : Option Change) (field : ℕ) (x : Text) (ctxt : ℕ)
    (role : Role) → IsWell (in_its_place around change field x ctxt role)
well_place Anywhere change field x ctxt role = well_name change field x ctxt role
well_place InObject change field x ctxt role = by (spells_out change)
  where
    by : (b : Bool) →
        IsWell
        (if b
        then node field h.KeyValueProp (key_in_object x ++ renamed change 1 x ctxt role ∷ [])
        else renamed change field x ctxt role ∷ [])
    by true =
        well_node field h.KeyValueProp (key_in_object x ++ renamed change 1 x ctxt role ∷ []) refl
        (well_both (key_in_object x) (renamed change 1 x ctxt role ∷ []) (well_key x)
        (well_name change 1 x ctxt role))
    by false = well_name change field x ctxt role
well_place InSpecifier change field x ctxt role = by (spells_out change)
  where
    by : (b : Bool) →
        IsWell
        (if b
        then renamed change field x ctxt role ∷ h.Ident 1 x 0 r.Word ∷ []
        else renamed change field x ctxt role ∷ [])
    by true =
        well_both (renamed change field x ctxt role ∷ []) (h.Ident 1 x 0 r.Word ∷ [])
        (well_name change field x ctxt role) (well_word 1 x 0 r.Word)
    by false = well_name change field x ctxt role

well_pattern : (change : Option Change) (x : Text) (ctxt : ℕ) (role : Role)
    (default : List Item) → IsWell default →
    IsWell (pattern_in_its_place change x ctxt role default)
well_pattern change x ctxt role [] its = well_binding change 1 x ctxt role
well_pattern change x ctxt role (y ∷ more) its =
    well_node 1 h.AssignPat (binding change 0 x ctxt role ++ y ∷ more) refl
    (well_both (binding change 0 x ctxt role) (y ∷ more) (well_binding change 0 x ctxt role) its)

well_shorthand : (change : Option Change) (field : ℕ) (x : Text) (ctxt : ℕ) (role : Role)
    (default : List Item) → IsWell default →
    IsWell (shorthand_in_its_place change field x ctxt role default)
well_shorthand change field x ctxt role default its = by (spells_out change)
  where
    by : (b : Bool) →
        IsWell
        (if b
        then node field h.KeyValuePatProp
        (plain_key x ++ pattern_in_its_place change x ctxt role default)
        else node field h.AssignPatProp (binding change 0 x ctxt role ++ default))
    by true =
        well_node field h.KeyValuePatProp
        (plain_key x ++ pattern_in_its_place change x ctxt role default) refl
        (well_both (plain_key x) (pattern_in_its_place change x ctxt role default) (well_plain x)
        (well_pattern change x ctxt role default its))
    by false =
        well_node field h.AssignPatProp (binding change 0 x ctxt role ++ default) refl
        (well_both (binding change 0 x ctxt role) default (well_binding change 0 x ctxt role) its)

edited_well : {around : Around} {its left : List Change} {before made : List Item} →
    Edits around its before made left → list_all is_inner_item before ≡ true → IsWell made
edited_well c.Nothing inner = (n.nothing, refl)
edited_well (c.Joined {first = xs} {made_first = us} {second = ys} {made_second = vs} one two)
    inner =
    let parts = inner_parts xs ys inner in
    well_both us vs (edited_well one parts.0) (edited_well two parts.1)
edited_well (c.Hole field) inner = (n.hole n.nothing, refl)
edited_well (c.Word field x ctxt role plain) inner = well_word field x ctxt role
edited_well (c.Name around {changes = changes} field x ctxt role occurs) inner =
    well_place around (next changes) field x ctxt role
edited_well (c.Inside field head {inside = inside} {made = made} plain one) inner =
    let parts = inner_within field head inside inner in
    well_node field head made parts.0 (edited_well one parts.1)
edited_well (c.Shorthand {changes = changes} field x ctxt role {default = default} {made = made}
    occurs one) inner =
    let parts =
    inner_within field h.AssignPatProp (binding None 0 x ctxt role ++ default) inner in
    well_shorthand (next changes) field x ctxt role made
    (edited_well one (inner_parts (binding None 0 x ctxt role) default parts.1).1)

-- STATEMENTS
pub edited_statements : {item made : List Item} → IsEdited item made → AreStatementNodes item →
    AreStatementNodes made
edited_statements its statements =
    let it = edited_well its.edits statements.inner in record { nodes = it.0; inner = it.1 }

pub all_edited : (items made : List (List Item)) → AllZip IsEdited items made →
    AllByRecursion AreStatementNodes items → AreStatementNodes (flat made)
all_edited [] [] each statements = no_statements
all_edited [] (other ∷ made) each statements = absurd each
all_edited (item ∷ items) [] each statements = absurd each
all_edited (item ∷ items) (other ∷ made) each statements =
    both_statements (edited_statements each.0 statements.0)
    (all_edited items made each.1 statements.1)

-- A list of exports.

-- an identifier with its change
abbrev ident_after : Option Change → Ident → Ident
ident_after None ident = ident
ident_after (Some change) ident = change.ident

-- the specifier of a name
abbrev specifier_of : Text → Bool → Ident → Specifier
specifier_of x plain ident = record {
  sym = ident.0;
  ctxt = ident.1;
  name = Some (if plain then word x 0 else text x None);
}

abbrev one_export : Ident → Text → Bool → List Item
one_export ident x plain =
    node 0 h.ExportNamedSpecifier
    (h.Ident 0 ident.0 ident.1 r.Reference
    ∷ (if plain then h.Ident 1 x 0 r.Word ∷ [] else Listed.string_in 1 x))

one_changed : (change : Option Change) (ident : Ident) →
    renamed change 0 ident.0 ident.1 r.Reference
    ≡ h.Ident 0 (ident_after change ident).0 (ident_after change ident).1 r.Reference
one_changed None ident = refl
one_changed (Some change) ident = refl

one_edit : (its : List Change) (ident : Ident) (x : Text) (plain : Bool) →
    Edits Anywhere its (one_export ident x plain)
    (specifier_items (specifier_of x plain (ident_after (next its) ident))) (drop 1 its)
one_edit its ident x true =
    subst
    (λ y. Edits Anywhere its (one_export ident x true)
    (node 0 h.ExportNamedSpecifier (y ∷ h.Ident 1 x 0 r.Word ∷ [])) (drop 1 its))
    (one_changed (next its) ident)
    (c.Inside 0 h.ExportNamedSpecifier refl
    (c.Joined (c.Name Anywhere 0 ident.0 ident.1 r.Reference refl) (c.Word 1 x 0 r.Word refl)))
one_edit its ident x false =
    subst
    (λ y. Edits Anywhere its (one_export ident x false)
    (node 0 h.ExportNamedSpecifier (y ∷ Listed.string_in 1 x)) (drop 1 its))
    (one_changed (next its) ident)
    (c.Inside 0 h.ExportNamedSpecifier refl
    (c.Joined (c.Name Anywhere 0 ident.0 ident.1 r.Reference refl)
    (c.Inside 1 (h.Str x None) refl c.Nothing)))

record AreExported (pairs : List (Text × Ident)) (its : List Change) : Type 0 where
  specifiers : List Specifier
  left : List Change
  edits : Edits Anywhere its (flat_map Listed.export_specifier pairs)
      (flat_map specifier_items specifiers) left

all_exported : (pairs : List (Text × Ident)) (its : List Change) → AreExported pairs its
all_exported [] its = record { specifiers = []; left = its; edits = c.Nothing }
all_exported (pair ∷ pairs) its =
    let rest = all_exported pairs (drop 1 its) in
    record {
      specifiers =
          specifier_of pair.0 (is_ascii_identifier pair.0) (ident_after (next its) pair.1)
          ∷ rest.specifiers;
      left = rest.left;
      edits =
          c.Joined (one_edit its pair.1 pair.0 (is_ascii_identifier pair.0)) rest.edits;
    }

-- EXPORTS
pub edited_exports : (pairs : List (Text × Ident)) (made : List Item) →
    IsEdited (Listed.export_list pairs) made → IsBack made
edited_exports pairs made its =
    let all = all_exported pairs its.its in
    subst IsBack
    (rebuilt_so
    (record { rest = all.left; by = c.Inside 0 (h.NamedExport no_notes) refl all.edits })
    ∙ sym (rebuilt_so (record { rest = its.left; by = its.edits })))
    (exports no_notes all.specifiers)
