-- What a module asks of others is among its requests, or external.
-- Where texts lead, by places for numbers.
-- Whole nodes one after another are whole nodes; a name or a node alone is one element of a list.
use Rattle.std.proofs.Common.{◌≡◌, inl, inr, ℕ, Bool, true, false, not, List, [], ◌∷◌, Some, None, Contains, refl, ap, subst, if◌then◌else◌, arith, ◌<◌, ◌+◌, length, get_or, take, map, filter_map, ◌++◌, Option, append-nil, sym, ◌∙◌, cond, zero, suc, ◌==◌, tests, append_assoc}
use Rattle.std.specs.Prelude.{bytes_eq, flat_map, slice_get, String, string_bytes}
use Rattle.std.proofs.lemmas.List.Elements.{Contains-append_left, Contains-append_right, Contains-append_cases, filter_map-append}
use Rattle.std.proofs.lemmas.Option.{none-some, get_or_from_slice_get, slice_get_within}
use Rattle.std.specs.Option.{option_or, option_and_then}
use Rattle.std.proofs.lemmas.List.{map-append, take_more}
use Rattle.std.specs.List.{cons_option, flat_map as flat_map_list_nodes}
use Rattle.std.specs.declared.alloc.Global.{Global}
use Rattle.bundle_syntax.specs.Item as item
use Rattle.bundle_syntax.specs.Item.{Item, Head}
use Rattle.bundle_order_graph.specs.Nodes.{added}
use Rattle.bundle_syntax.specs.declared.piece.Role.{Role}
use Rattle.bundle_rules.specs.Nodes.{Text, has_text, numbers_once, put_first, side_by_side, begins_in}
use Rattle.bundle_rules.specs.Statements.{top_items}
use Rattle.bundle_rules.specs.Entries.{Settings, Taken, Named, Whole, ImportEntry, ExportEntry, Local, Indirect, Star, RequireCall, declared_requests, imports_of, imports_of_item, import_of, exports_of, exports_of_item}
use Rattle.bundle_rules.specs.Judging.{requests_in}
use Rattle.bundle_rules.specs.Program.{Program, tree_of, calls_of, resolves, is_external}
use Rattle.bundle_rules.specs.Faults.{AskedName, asked_names, asked_by_import, asked_by_export, asked_by_item}
use Rattle.bundle_link_index.proofs.AskedLemmas.{flat_back, flat_on, only_one, import_asks, entry_asks, found}
use Rattle.bundle_link_index.proofs.ProgramLemmas.{filter_on, map_on, once_on}
use Rattle.bundle_link.proofs.NumberLemmas.{once-push}
use Rattle.bundle_link.specs.Leads.{Deps, told_of_text, last_told, led}
use Rattle.bundle_link.specs.Nested as nested
use Rattle.bundle_link.specs.Nested.{AreNodes, AreTwoNodes, HasParts}

-- ---- requests

-- what a declaration asks for, unless it is external
pub declared_requested : (settings : Settings) (tree : List Item) (s : Text) → Contains (declared_requests tree) s → has_text s settings.external ≡ false → Contains (requests_in settings tree) s
declared_requested settings tree s there inside = once_on _ s (Contains-append_left _ _ s (filter_on (λ s. not (has_text s settings.external)) (declared_requests tree) s there (ap not inside)))

-- the text of a linked call
pub called_requested : (p : Program) (m : ℕ) (call : RequireCall) → Contains (calls_of p m) call → Contains (requests_in p.settings (tree_of p m)) call.specifier
called_requested p m call there = once_on _ call.specifier (Contains-append_right _ _ call.specifier (map_on (λ call. call.specifier) (calls_of p m) call there))

-- what is a module is not external
pub resolved_inside : (p : Program) (m d : ℕ) (s : Text) → resolves p m s ≡ Some d → is_external p s ≡ false
resolved_inside p m d s is = by (is_external p s) refl is
  where
    by : (b : Bool) → is_external p s ≡ b → (if b then None else p.leads m s) ≡ Some d → is_external p s ≡ false
    by true at is = absurd (none-some d is)
    by false at is = at

-- ---- what declarations ask for
-- the specifier of the import that binds a name
pub bound_asks : (tree : List Item) (y : Text) (entry : ImportEntry) → import_of (imports_of tree) y ≡ Some entry → Contains (declared_requests tree) entry.specifier
bound_asks tree y entry is = import_asks tree entry (found (λ it. bytes_eq it.local y) (imports_of tree) entry is)

import_names : (entry : ImportEntry) (asked : AskedName) → Contains (asked_by_import entry) asked → entry.specifier ≡ asked.specifier
import_names entry asked there = kind entry.taken there
  where
    kind : (what : Taken) → Contains (elim what [ Named x ↦ record { specifier = entry.specifier; name = x } ∷ [] | Whole ↦ [] ]) asked → entry.specifier ≡ asked.specifier
    kind (Named x) there = ap (λ (it : AskedName). it.specifier) (only_one _ asked there)
    kind Whole (i, h, e) = absurd (omega arith)

export_names : (tree : List Item) (entry : ExportEntry) (asked : AskedName) → Contains (exports_of tree) entry → Contains (asked_by_export entry) asked → Contains (declared_requests tree) asked.specifier
export_names tree (Indirect x s (Named y)) asked stands there = subst (Contains (declared_requests tree)) (ap (λ (it : AskedName). it.specifier) (only_one _ asked there)) (entry_asks tree x s (Named y) stands)
export_names tree (Indirect x s Whole) asked stands (i, h, e) = absurd (omega arith)
export_names tree (Local x y) asked stands (i, h, e) = absurd (omega arith)
export_names tree (Star s) asked stands (i, h, e) = absurd (omega arith)

-- the specifier of a name that is asked of another module
pub name_asks : (tree : List Item) (j : ℕ) (asked : AskedName) → slice_get (asked_names tree) j ≡ Some asked → Contains (declared_requests tree) asked.specifier
name_asks tree j asked at =
    let r = flat_back (λ top. asked_by_item (imports_of tree) top.items) (top_items tree) asked (j, slice_get_within (asked_names tree) j asked at, get_or_from_slice_get (asked_names tree) j asked asked at) in
    elim (Contains-append_cases (flat_map asked_by_import (imports_of_item r.0.items)) (flat_map asked_by_export (exports_of_item (imports_of tree) r.0.items)) asked r.2) [
      | inl imported ↦
          let k = flat_back asked_by_import (imports_of_item r.0.items) asked imported in
          subst (Contains (declared_requests tree)) (import_names k.0 asked k.2) (import_asks tree k.0 (flat_on (λ top. imports_of_item top.items) (top_items tree) r.0 k.0 r.1 k.1))
      | inr exported ↦
          let k = flat_back asked_by_export (exports_of_item (imports_of tree) r.0.items) asked exported in
          export_names tree k.0 asked (flat_on (λ top. exports_of_item (imports_of tree) top.items) (top_items tree) r.0 k.0 r.1 k.1) k.2
    ]

-- ---- lead
or-none : (o : Option ℕ) → option_or o None ≡ o
or-none None = refl
or-none (Some x) = refl

or-or : (a b c : Option ℕ) → option_or (option_or a b) c ≡ option_or a (option_or b c)
or-or None b c = refl
or-or (Some x) b c = refl

-- one more at the end
pub told-push : (tell : ℕ → Option ℕ) (deps : Deps) (dep : String Global × ℕ) (s : Text) → last_told tell (deps ++ dep ∷ []) s ≡ option_or (told_of_text tell s dep) (last_told tell deps s)
told-push tell [] dep s = sym (or-none (told_of_text tell s dep))
told-push tell (first ∷ rest) dep s = ap (λ o. option_or o (told_of_text tell s first)) (told-push tell rest dep s) ∙ or-or (told_of_text tell s dep) (last_told tell rest s) (told_of_text tell s first)

-- where something is told of each module to which a text leads, it is told of the text
pub told-led : (tell : ℕ → Option ℕ) (deps : Deps) (s : Text) → ((c : ℕ) → led deps s ≡ Some c → (k : ℕ) × (tell c ≡ Some k)) → last_told tell deps s ≡ option_and_then tell (led deps s)
told-led tell [] s each = refl
told-led tell (dep ∷ rest) s each = by (led rest s) refl (λ all. told-led tell rest s all) each
  where
    own : (b : Bool) → cond b (tell dep.1) None ≡ option_and_then tell (cond b (Some dep.1) None)
    own true = refl
    own false = refl

    by : (o : Option ℕ) → led rest s ≡ o → (((c : ℕ) → led rest s ≡ Some c → (k : ℕ) × (tell c ≡ Some k)) → last_told tell rest s ≡ option_and_then tell (led rest s))
        → ((c : ℕ) → option_or (led rest s) (told_of_text (λ n. Some n) s dep) ≡ Some c → (k : ℕ) × (tell c ≡ Some k))
        → option_or (last_told tell rest s) (told_of_text tell s dep) ≡ option_and_then tell (option_or (led rest s) (told_of_text (λ n. Some n) s dep))
    by None is ih each =
        ap (λ o. option_or o (told_of_text tell s dep)) (ih (λ c e. absurd (none-some c (sym is ∙ e))) ∙ ap (option_and_then tell) is)
        ∙ own (bytes_eq (string_bytes dep.0) s)
        ∙ ap (λ o. option_and_then tell (option_or o (told_of_text (λ n. Some n) s dep))) (sym is)
    by (Some c) is ih each =
        let k = each c (ap (λ o. option_or o (told_of_text (λ n. Some n) s dep)) is) in
        ap (λ o. option_or o (told_of_text tell s dep)) (ih (λ d e. each d (ap (λ o. option_or o (told_of_text (λ n. Some n) s dep)) e)) ∙ ap (option_and_then tell) is ∙ k.1)
        ∙ sym k.1
        ∙ ap (λ o. option_and_then tell (option_or o (told_of_text (λ n. Some n) s dep))) (sym is)

-- ---- a step of a loop
told-more : (tell : ℕ → Option ℕ) (deps : Deps) (i : ℕ) (dep : String Global × ℕ) (s : Text) → i < length deps → dep ≡ get_or deps i dep → last_told tell (take (i + 1) deps) s ≡ option_or (told_of_text tell s dep) (last_told tell (take i deps) s)
told-more tell deps i dep s within is = ap (λ l. last_told tell l s) (take_more deps i dep within ∙ ap (λ x. take i deps ++ x ∷ []) (sym is)) ∙ told-push tell (take i deps) dep s

module _ (tell : ℕ → Option ℕ) (deps : Deps) (i : ℕ) (dep : String Global × ℕ) (s : Text) (found : Option ℕ) (within : i < length deps) (is : dep ≡ get_or deps i dep) (so_far : found ≡ last_told tell (take i deps) s) where
  -- nothing is told of this one
  pub told-none : tell dep.1 ≡ None → found ≡ last_told tell (take (i + 1) deps) s
  told-none none = so_far ∙ sym (told-more tell deps i dep s within is ∙ ap (λ o. option_or o (last_told tell (take i deps) s)) (by (bytes_eq (string_bytes dep.0) s)))
    where
      by : (b : Bool) → cond b (tell dep.1) None ≡ None
      by true = none
      by false = refl

  -- it is told of this one, and noted at its text
  pub told-here : (k : ℕ) → tell dep.1 ≡ Some k → cond (bytes_eq (string_bytes dep.0) s) (Some k) found ≡ last_told tell (take (i + 1) deps) s
  told-here k here = by (bytes_eq (string_bytes dep.0) s) ∙ sym (told-more tell deps i dep s within is)
    where
      by : (b : Bool) → cond b (Some k) found ≡ option_or (cond b (tell dep.1) None) (last_told tell (take i deps) s)
      by true = ap (λ o. option_or o (last_told tell (take i deps) s)) (sym here)
      by false = so_far

module _ {A B : Type 0} (f : A → Option B) (xs : List A) (i : ℕ) (x : A) (done : List B) (within : i < length xs) (is : x ≡ get_or xs i x) (so_far : done ≡ filter_map f (take i xs)) where
  some-more : filter_map f (take (i + 1) xs) ≡ done ++ cons_option (f x) []
  some-more = ap (filter_map f) (take_more xs i x within ∙ ap (λ y. take i xs ++ y ∷ []) (sym is)) ∙ filter_map-append f (take i xs) (x ∷ []) ∙ ap (λ l. l ++ cons_option (f x) []) (sym so_far)

  pub some-here : (y : B) → f x ≡ Some y → done ++ y ∷ [] ≡ filter_map f (take (i + 1) xs)
  some-here y here = sym (some-more ∙ ap (λ o. done ++ cons_option o []) here)

  pub some-none : f x ≡ None → done ≡ filter_map f (take (i + 1) xs)
  some-none none = sym (some-more ∙ ap (λ o. done ++ cons_option o []) none ∙ append-nil done)

-- one more number, where each stands once
pub once-more : {A : Type 0} (f : A → ℕ) (xs : List A) (i : ℕ) (x : A) → i < length xs → x ≡ get_or xs i x → numbers_once (map f (take (i + 1) xs)) ≡ added (numbers_once (map f (take i xs))) (f x)
once-more f xs i x within is =
    ap (λ l. numbers_once (map f l)) (take_more xs i x within ∙ ap (λ y. take i xs ++ y ∷ []) (sym is))
    ∙ ap numbers_once (map-append f (take i xs) (x ∷ []))
    ∙ once-push (map f (take i xs)) (f x)

-- ---- list nodes
pub join : {xs ys : List Item} → AreNodes xs → AreNodes ys → AreNodes (xs ++ ys)
join nested.nothing y = y
join (nested.name x) y = nested.name (join x y)
join (nested.hole x) y = nested.hole (join x y)
join {ys} (nested.node {field} {head} {inside} {rest} x parts more) y = subst (λ list. AreNodes (item.Open field head ∷ list)) (sym (append_assoc inside (item.Close ∷ rest) ys)) (nested.node x parts (join more y))

-- one after another
pub each_nodes : {A : Type 0} (items : A → List Item) → ((it : A) → AreNodes (items it)) → (list : List A) → AreNodes (flat_map_list_nodes items list)
each_nodes items each [] = nested.nothing
each_nodes items each (x ∷ xs) = join (each x) (each_nodes items each xs)

-- these elements in front of the first of the lists
abbrev pub put_all : List Item → List (List Item) → List (List Item)
put_all [] nodes = nodes
put_all (x ∷ xs) nodes = put_first x (put_all xs nodes)

pub put_all-append : (xs ys : List Item) (nodes : List (List Item)) → put_all (xs ++ ys) nodes ≡ put_all xs (put_all ys nodes)
put_all-append [] ys nodes = refl
put_all-append (x ∷ xs) ys nodes = ap (put_first x) (put_all-append xs ys nodes)

pub put_all-cons : (xs node : List Item) (more : List (List Item)) → put_all xs (node ∷ more) ≡ (xs ++ node) ∷ more
put_all-cons [] node more = refl
put_all-cons (x ∷ xs) node more = ap (put_first x) (put_all-cons xs node more)

-- in a node that is open, whole nodes stand in front of what follows them
inner : {xs : List Item} → AreNodes xs → (depth : ℕ) (rest : List Item) → side_by_side (suc depth) (xs ++ rest) ≡ put_all xs (side_by_side (suc depth) rest)
inner nested.nothing depth rest = refl
inner (nested.name {field} {ctxt} {sym} {role} x) depth rest = ap (put_first (item.Ident field sym ctxt role)) (inner x depth rest)
inner (nested.hole {field} x) depth rest = ap (put_first (item.Hole field)) (inner x depth rest)
inner (nested.node {field} {head} {inside} {rest = behind} x parts more) depth rest =
    ap (λ list. put_first (item.Open field head) (side_by_side (suc (suc depth)) list)) (append_assoc inside (item.Close ∷ behind) rest)
    ∙ (ap (put_first (item.Open field head)) (inner x (suc depth) (item.Close ∷ (behind ++ rest)))
    ∙ (ap (λ list. put_first (item.Open field head) (put_all inside (put_first item.Close list))) (inner more depth rest)
    ∙ ap (put_first (item.Open field head)) (sym (put_all-append inside (item.Close ∷ behind) (side_by_side (suc depth) rest)))))

-- one name or one node, in this field
pub record IsOne (field : ℕ) (xs : List Item) : Type 0 where
  pub nodes : AreNodes xs
  pub begins : begins_in field xs ≡ true
  pub beside : (rest : List Item) → side_by_side zero (xs ++ rest) ≡ xs ∷ side_by_side zero rest

same : (n : ℕ) → (n == n) ≡ true
same n = Prim.search (arith, tests)

pub one_name : (field : ℕ) (sym : List ℕ) (ctxt : ℕ) (role : Role) → IsOne field (item.Ident field sym ctxt role ∷ [])
one_name field sym ctxt role = record { nodes = nested.name nested.nothing; begins = same field; beside = λ rest. refl }

beside_node : (field : ℕ) (head : Head) {inside : List Item} → AreNodes inside → (rest : List Item) → side_by_side zero (item.Open field head ∷ ((inside ++ item.Close ∷ []) ++ rest)) ≡ (item.Open field head ∷ (inside ++ item.Close ∷ [])) ∷ side_by_side zero rest
beside_node field head {inside} x rest =
    ap (λ list. put_first (item.Open field head) (side_by_side (suc zero) list)) (append_assoc inside (item.Close ∷ []) rest)
    ∙ (ap (put_first (item.Open field head)) (inner x zero (item.Close ∷ rest))
    ∙ ap (put_first (item.Open field head)) (put_all-cons inside (item.Close ∷ []) (side_by_side zero rest)))

pub one_node : (field : ℕ) (head : Head) {inside : List Item} → AreNodes inside → HasParts head inside → IsOne field (item.Open field head ∷ (inside ++ item.Close ∷ []))
one_node field head x parts = record { nodes = nested.node x parts nested.nothing; begins = same field; beside = λ rest. beside_node field head x rest }

-- a node alone
pub in_node : (field : ℕ) (head : Head) {inside : List Item} → AreNodes inside → HasParts head inside → AreNodes (item.Open field head ∷ (inside ++ item.Close ∷ []))
in_node field head x parts = nested.node x parts nested.nothing

are_two : {xs ys : List Item} → IsOne 0 xs → IsOne 1 ys → AreTwoNodes (xs ++ ys)
are_two {xs} {ys} x y = record {
  first = xs;
  second = ys;
  them = x.beside ys ∙ ap (λ nodes. xs ∷ nodes) (subst (λ list. side_by_side zero list ≡ ys ∷ []) (append-nil ys) (y.beside []));
  in_first = x.begins;
  in_second = y.begins;
}

-- a member expression: its object and its property
pub one_member : (field : ℕ) {xs ys : List Item} → IsOne 0 xs → IsOne 1 ys → IsOne field (item.Open field item.MemberExpr ∷ ((xs ++ ys) ++ item.Close ∷ []))
one_member field x y = one_node field item.MemberExpr (join x.nodes y.nodes) (are_two x y)
