-- The nodes of statements side by side, and with their places.
-- Items of a cycle are put in order alike in the function.
-- A node alone is one of the nodes side by side; the body of the function that is called.
use Rattle.std.proofs.Common.{◌≡◌, ℕ, zero, suc, ◌+◌, ◌<◌, false, List, [], ◌∷◌, ◌++◌, append_assoc, length-append, Some, map, length, drop, refl, ap, sym, ◌∙◌, subst, arith, Bool, true, cond, ◌&&◌, Option, option_and_then, filter, bytes_eq, ap₂, codes, append-nil, None}
use Rattle.std.specs.Prelude.{slice_get, flat_map, filter_map, position, if◌then◌else◌}
use Rattle.std.proofs.lemmas.Bool.{false≢true}
use Rattle.std.specs.List.{cons_option}
use Rattle.std.proofs.lemmas.List.{length-drop}
use Rattle.bundle_syntax.specs.Item as h
use Rattle.bundle_syntax.specs.Item.{Item, Head}
use Rattle.bundle_syntax.specs.declared.kind.ExportMetadata.{ExportMetadata}
use Rattle.bundle_syntax.specs.declared.piece.Role.{Role}
use Rattle.bundle_rules.specs.Nodes.{flat, put_first, side_by_side, begins_with, Text, StandsWhole}
use Rattle.bundle_rules.specs.Statements.{TopItem, placed, Element, taken, taken_from}
use Rattle.bundle_rules.specs.Bundle.{elements_of}
use Rattle.bundle_rules.specs.Forms.{is_export_list, returned_key, returned_property, returned_object, exported_pairs, function_body}
use Rattle.bundle_rules.specs.Callable.{Every, none, more, is_module_head, AreStatements, over, begun, ended, named, empty, module_with, ExportedName, word, text, Specifier, name_items, specifier_items, export_items}
use Rattle.bundle_rules.specs.Places.{Spot, past, start, Occurrence, occurrence_of, occurrence_at, occurrences_from, occurrences, is_binding}
use Rattle.bundle_rules.specs.Scopes.{Es, Top, Inner, Parameters, FunctionBody}
use Rattle.bundle_rules.specs.Declarations.{Reading, BySymbol, ByContext, declared}
use Rattle.bundle_rules.specs.Denotes.{Denoted, Bound, Global, denoted_at}
use Rattle.bundle_rules.specs.Deferred.{runs_later}
use Rattle.bundle_rules.specs.Mentions.{same_context, same_denoted, each_denoted_once}
use Rattle.bundle_rules.specs.Order.{Mention, is_assigned, is_in_argument, roots_chain, is_prototype_read, has_no_value, is_global_named, is_of_nothing, is_object_at, denoted_in, is_of_scope, mentioned, mention_of, group_of}
use Rattle.bundle_rules.specs.Idents.{Ident}
use Rattle.bundle_rules.specs.Injected.{is_ascii_identifier}
use Rattle.bundle_rules.specs.Rebuilds.{plain_key}
use Rattle.bundle_link.proofs.NodePaths.{drop-next}
use Rattle.bundle_merge_theory.proofs.walked.NameLemmas.{occurrence_place}
use Rattle.bundle_merge_theory.proofs.joined.Blocks.{assign-same as assigns-same}
use Rattle.bundle_merge_theory.proofs.joined.Paths.{flat-append}
use Rattle.bundle_merge_theory.proofs.grouped.WholeLemmas.{put_all, put_all-cons}
use Rattle.bundle_merge_theory.proofs.called.Means.{IsPlaced, placed_at, moved_element, every-rest, IsFairly, denoted-fairly, occurrence-seated, same_denoted-moved, every-filter, every-once, once-moved, position-map, every-map, position-none, AreMetAt, nothing_met, met, met-twins}
use Rattle.bundle_merge_theory.specs.called.Moved.{called_denoted, IsFair, CorrespondInBody, followed, astray}
use Rattle.bundle_merge_theory.specs.called.Called.{call_with, AreTwins}
use Rattle.bundle_merge_theory.proofs.called.Homes.{same-moved, parameters-differ}
use Rattle.bundle_merge_theory.proofs.called.Lists.{AreAlike, neither, both, consed, shows, occurrences-alike}

-- ---- sides
first-flat : (x : Item) (lists : List (List Item)) → flat (put_first x lists) ≡ x ∷ flat lists
first-flat x [] = refl
first-flat x (xs ∷ lists) = refl

-- nodes side by side are the front of the list
pub sides-front : (depth : ℕ) (xs : List Item) →
    (rest : List Item) × (xs ≡ flat (side_by_side depth xs) ++ rest)
sides-front depth [] = ([], refl)
sides-front depth (h.Open field head ∷ xs) = let r = sides-front (suc depth) xs in (r.0, ap (λ l. h.Open field head ∷ l) r.1 ∙ ap (λ l. l ++ r.0) (sym (first-flat (h.Open field head) (side_by_side (suc depth) xs))))
sides-front zero (h.Ident field x ctxt role ∷ xs) = let r = sides-front zero xs in (r.0, ap (λ l. h.Ident field x ctxt role ∷ l) r.1)
sides-front (suc depth) (h.Ident field x ctxt role ∷ xs) = let r = sides-front (suc depth) xs in (r.0, ap (λ l. h.Ident field x ctxt role ∷ l) r.1 ∙ ap (λ l. l ++ r.0) (sym (first-flat (h.Ident field x ctxt role) (side_by_side (suc depth) xs))))
sides-front zero (h.Hole field ∷ xs) = let r = sides-front zero xs in (r.0, ap (λ l. h.Hole field ∷ l) r.1)
sides-front (suc depth) (h.Hole field ∷ xs) = let r = sides-front (suc depth) xs in (r.0, ap (λ l. h.Hole field ∷ l) r.1 ∙ ap (λ l. l ++ r.0) (sym (first-flat (h.Hole field) (side_by_side (suc depth) xs))))
sides-front zero (h.Close ∷ xs) = (h.Close ∷ xs, refl)
sides-front (suc zero) (h.Close ∷ xs) = let r = sides-front zero xs in (r.0, ap (λ l. h.Close ∷ l) r.1)
sides-front (suc (suc depth)) (h.Close ∷ xs) = let r = sides-front (suc depth) xs in (r.0, ap (λ l. h.Close ∷ l) r.1 ∙ ap (λ l. l ++ r.0) (sym (first-flat h.Close (side_by_side (suc depth) xs))))

-- whole nodes
pub sides-flat : {depth : ℕ} {xs : List Item} → AreStatements depth xs →
    flat (side_by_side depth xs) ≡ xs
sides-flat over = refl
sides-flat (begun {depth} {field} {head} {rest} plain name inner) =
    first-flat (h.Open field head) (side_by_side (suc depth) rest)
    ∙ ap (λ l. h.Open field head ∷ l) (sides-flat inner)
sides-flat (ended {depth = zero} inner) = ap (λ l. h.Close ∷ l) (sides-flat inner)
sides-flat (ended {depth = suc depth} {rest} inner) =
    first-flat h.Close (side_by_side (suc depth) rest) ∙ ap (λ l. h.Close ∷ l) (sides-flat inner)
sides-flat (named {depth = zero} {field} {ctxt} {sym = x} {role} inner) =
    ap (λ l. h.Ident field x ctxt role ∷ l) (sides-flat inner)
sides-flat (named {depth = suc depth} {field} {ctxt} {sym = x} {role} {rest} inner) =
    first-flat (h.Ident field x ctxt role) (side_by_side (suc depth) rest)
    ∙ ap (λ l. h.Ident field x ctxt role ∷ l) (sides-flat inner)
sides-flat (empty {depth = zero} {field} inner) = ap (λ l. h.Hole field ∷ l) (sides-flat inner)
sides-flat (empty {depth = suc depth} {field} {rest} inner) =
    first-flat (h.Hole field) (side_by_side (suc depth) rest)
    ∙ ap (λ l. h.Hole field ∷ l) (sides-flat inner)

-- what nodes side by side look like: no list of exports is among those that begin there
abbrev pub IsNoList : List Item → Type 0
IsNoList node = begins_with is_export_list node ≡ false

record Further (lists : List (List Item)) : Type 0 where
  first : List Item
  rest : List (List Item)
  is : lists ≡ first ∷ rest
  each : Every IsNoList rest

abbrev AreSides : ℕ → List (List Item) → Type 0
AreSides zero lists = Every IsNoList lists
AreSides (suc depth) lists = Further lists

put-further : (x : Item) {lists : List (List Item)} → Further lists → Further (put_first x lists)
put-further x further = record { first = x ∷ further.first; rest = further.rest; is = ap (put_first x) further.is; each = further.each }

no_list : (field : ℕ) (head : Head) → is_module_head head ≡ false → (rest : List Item) →
    IsNoList (h.Open field head ∷ rest)
no_list field (h.NamedExport meta) e rest = absurd (false≢true (sym e))
no_list field _ e rest = refl

put-begins : (field : ℕ) (head : Head) → is_module_head head ≡ false → {lists : List (List Item)} →
    Further lists → Every IsNoList (put_first (h.Open field head) lists)
put-begins field head e further =
    subst (λ l. Every IsNoList (put_first (h.Open field head) l)) (sym further.is)
    (more (no_list field head e further.first) further.each)

sides : {depth : ℕ} {xs : List Item} → AreStatements depth xs →
    AreSides depth (side_by_side depth xs)
sides over = none
sides (begun {depth = zero} {field} {head} plain name inner) =
    put-begins field head plain (sides inner)
sides (begun {depth = suc depth} {field} {head} plain name inner) =
    put-further (h.Open field head) (sides inner)
sides (ended {depth = zero} inner) = record { first = h.Close ∷ []; rest = _; is = refl; each = sides inner }
sides (ended {depth = suc depth} inner) = put-further h.Close (sides inner)
sides (named {depth = zero} inner) = more refl (sides inner)
sides (named {depth = suc depth} {field} {ctxt} {sym = x} {role} inner) =
    put-further (h.Ident field x ctxt role) (sides inner)
sides (empty {depth = zero} inner) = more refl (sides inner)
sides (empty {depth = suc depth} {field} inner) = put-further (h.Hole field) (sides inner)

pub no-lists : {xs : List Item} → AreStatements zero xs → Every IsNoList (side_by_side zero xs)
no-lists statements = sides statements

-- what follows whole nodes
put-append : (x : Item) {lists : List (List Item)} → Further lists → (others : List (List Item)) →
    put_first x (lists ++ others) ≡ put_first x lists ++ others
put-append x further others =
    ap (λ l. put_first x (l ++ others)) further.is
    ∙ sym (ap (λ l. put_first x l ++ others) further.is)

pub sides-append : {depth : ℕ} {xs : List Item} → AreStatements depth xs → (ys : List Item) →
    side_by_side depth (xs ++ ys) ≡ side_by_side depth xs ++ side_by_side zero ys
sides-append over ys = refl
sides-append (begun {depth} {field} {head} {rest} plain name inner) ys =
    ap (put_first (h.Open field head)) (sides-append inner ys)
    ∙ put-append (h.Open field head) (sides inner) (side_by_side zero ys)
sides-append (ended {depth = zero} inner) ys = ap (λ l. (h.Close ∷ []) ∷ l) (sides-append inner ys)
sides-append (ended {depth = suc depth} inner) ys =
    ap (put_first h.Close) (sides-append inner ys)
    ∙ put-append h.Close (sides inner) (side_by_side zero ys)
sides-append (named {depth = zero} {field} {ctxt} {sym = x} {role} inner) ys =
    ap (λ l. (h.Ident field x ctxt role ∷ []) ∷ l) (sides-append inner ys)
sides-append (named {depth = suc depth} {field} {ctxt} {sym = x} {role} inner) ys =
    ap (put_first (h.Ident field x ctxt role)) (sides-append inner ys)
    ∙ put-append (h.Ident field x ctxt role) (sides inner) (side_by_side zero ys)
sides-append (empty {depth = zero} {field} inner) ys =
    ap (λ l. (h.Hole field ∷ []) ∷ l) (sides-append inner ys)
sides-append (empty {depth = suc depth} {field} inner) ys =
    ap (put_first (h.Hole field)) (sides-append inner ys)
    ∙ put-append (h.Hole field) (sides inner) (side_by_side zero ys)

-- Elements in their places.

pub get-there : {A : Type 0} (xs : List A) (b : ℕ) (x : A) (rest : List A) → drop b xs ≡ x ∷ rest →
    slice_get xs b ≡ Some x
get-there [] zero x rest e = absurd cc
get-there [] (suc b) x rest e = absurd cc
get-there (y ∷ xs) zero x rest e = cc
get-there (y ∷ xs) (suc b) x rest e = get-there xs b x rest e

pub placed-elements : (stmts : List Item) (j : ℕ) (xs ys : List Item) → drop j stmts ≡ xs ++ ys →
    Every (IsPlaced stmts) (taken_from (suc j) xs)
placed-elements stmts j [] ys e = none
placed-elements stmts j (x ∷ xs) ys e =
    more (placed_at j x (get-there stmts j x (xs ++ ys) e))
    (placed-elements stmts (suc j) xs ys (drop-next stmts j x (xs ++ ys) e))

pub every-front : {A : Type 0} {P : A → Type 0} (xs ys : List A) → Every P (xs ++ ys) → Every P xs
every-front [] ys each = none
every-front (x ∷ xs) ys (more here later) = more here (every-front xs ys later)

pub taken-append : (start : ℕ) (xs ys : List Item) →
    taken_from start (xs ++ ys) ≡ taken_from start xs ++ taken_from (start + length xs) ys
taken-append start [] ys = let n : start ≡ start + length {A = Item} [] = omega arith in ap (λ k. taken_from k ys) n
taken-append start (x ∷ xs) ys = let n : suc start + length xs ≡ start + length (x ∷ xs) = omega arith in ap (λ l. taken start x ∷ l) (taken-append (suc start) xs ys ∙ ap (λ k. taken_from (suc start) xs ++ taken_from k ys) n)

-- each of these items
pub placed-items : {P : Element → Type 0} (start : ℕ) (lists : List (List Item)) (rest : List Item)
    →
    Every P (taken_from start (flat lists ++ rest)) →
    Every (λ (item : TopItem). Every P (elements_of item)) (placed start lists)
placed-items start [] rest each = none
placed-items {P} start (xs ∷ lists) rest each =
    let whole = subst (Every P) (ap (taken_from start) (append_assoc xs (flat lists) rest) ∙ taken-append start xs (flat lists ++ rest)) each in
    more (every-front (taken_from start xs) (taken_from (start + length xs) (flat lists ++ rest)) whole) (placed-items (start + length xs) lists rest (every-rest (taken_from start xs) (taken_from (start + length xs) (flat lists ++ rest)) whole))

-- an item that begins 6 places later
abbrev pub moved_item : TopItem → TopItem
moved_item item = record { start = item.start + 6; items = item.items }

pub taken-moved : (start : ℕ) (xs : List Item) →
    taken_from (start + 6) xs ≡ map moved_element (taken_from start xs)
taken-moved start [] = refl
taken-moved start (x ∷ xs) = let n : suc (start + 6) ≡ suc start + 6 = omega arith in ap (λ l. taken (start + 6) x ∷ l) (ap (λ k. taken_from k xs) n ∙ taken-moved (suc start) xs)

pub placed-moved : (start : ℕ) (lists : List (List Item)) →
    placed (start + 6) lists ≡ map moved_item (placed start lists)
placed-moved start [] = refl
placed-moved start (xs ∷ lists) = let n : start + 6 + length xs ≡ start + length xs + 6 = omega arith in ap (λ l. record { start = start + 6; items = xs } ∷ l) (ap (λ k. placed k lists) n ∙ placed-moved (start + length xs) lists)

pub placed-append : (start : ℕ) (lists others : List (List Item)) →
    placed start (lists ++ others) ≡
    placed start lists ++ placed (start + length (flat lists)) others
placed-append start [] others = let n : start ≡ start + length {A = Item} [] = omega arith in ap (λ k. placed k others) n
placed-append start (xs ∷ lists) others =
    let n : start + length xs + length (flat lists) ≡ start + length (xs ++ flat lists) = omega (arith, length-append xs (flat lists)) in
    ap (λ l. record { start = start; items = xs } ∷ l) (placed-append (start + length xs) lists others ∙ ap (λ k. placed (start + length xs) lists ++ placed k others) n)

-- an item begins behind the module's own beginning
pub placed-positive : (start : ℕ) → 0 < start → (lists : List (List Item)) →
    Every (λ (item : TopItem). 0 < item.start) (placed start lists)
placed-positive start positive [] = none
placed-positive start positive (xs ∷ lists) =
    more positive (placed-positive (start + length xs) (omega arith) lists)

-- ---- grouped

-- an item that is a part of the statements
pub record IsSegment (stmts : List Item) (item : TopItem) : Type 0 where
  pub at : ℕ
  pub start : item.start ≡ suc at
  pub rest : List Item
  pub is : drop at stmts ≡ item.items ++ rest

-- Places of an item.

occurs-before : (n : ℕ) (spot : Spot) (xs : List Item) → spot.place + length xs ≡ n →
    Every (λ (o : Occurrence). o.place < n) (occurrences_from spot xs)
occurs-before n spot [] e = none
occurs-before n spot (x ∷ xs) e =
    consed (occurrence_of spot x) (occurrences_from (past spot x) xs) (λ o is. let l : o.place ≡ spot.place = occurrence_place spot x o is in omega arith)
    (let next : spot.place + 1 + length xs ≡ n = omega arith in occurs-before n (past spot x) xs next)

pub occurs-within : (xs : List Item) →
    Every (λ (o : Occurrence). o.place < length xs) (occurrences xs)
occurs-within xs = let e : 0 + length xs ≡ length xs = omega arith in occurs-before (length xs) start xs e

segment-length : {stmts : List Item} {item : TopItem} (s : IsSegment stmts item) → (n : ℕ) →
    n < length item.items → s.at + n < length stmts
segment-length {stmts} {item} s n l =
    let e : length (drop s.at stmts) ≡ length item.items + length s.rest = ap length s.is ∙ length-append item.items s.rest in
    omega (arith, length-drop s.at stmts, e)

-- What is denoted at a place of an item.

-- as in the module, and of a scope of it
record Met (old new : Option Denoted) : Type 0 where
  met_at : AreMetAt old new
  fair : (d : Denoted) → old ≡ Some d → IsFairly d

met-item : {reading : Reading} {is_async : Bool} {stmts after its : List Item} →
    AreTwins reading is_async stmts after its → {item : TopItem} → IsSegment stmts item → (n : ℕ) →
    n < length item.items →
    Met (denoted_at reading Es (module_with stmts after) (item.start + n))
    (denoted_at reading Es (call_with is_async stmts its) (item.start + 6 + n))
met-item {reading} {is_async} {stmts} {after} {its} twins {item} s n l =
    let within : s.at + n < length stmts = segment-length s n l in
    let old : suc (s.at + n) ≡ item.start + n = omega (arith, s.start) in
    let new : suc (s.at + n) + 6 ≡ item.start + 6 + n = omega (arith, s.start) in
    subst (λ x. x) (λ i. Met (denoted_at reading Es (module_with stmts after) (old i)) (denoted_at reading Es (call_with is_async stmts its) (new i)))
    (record {
      met_at = met-twins twins (s.at + n) within;
      fair = denoted-fairly reading (declared reading Es (module_with stmts after)) (occurrences-alike (shows is_async twins.statements after its (s.at + n) within)) (occurrence-seated twins (s.at + n) within);
    })

-- all that items mention
data AllMet : List Denoted → List Denoted → Type 0 where
  no_more : AllMet [] []
  one_more : {d other : Denoted} {ds others : List Denoted} → CorrespondInBody d other → IsFairly d →
      AllMet ds others → AllMet (d ∷ ds) (other ∷ others)

met-append : {ds es others eothers : List Denoted} → AllMet ds others → AllMet es eothers →
    AllMet (ds ++ es) (others ++ eothers)
met-append no_more rest = rest
met-append (one_more m f ms) rest = one_more m f (met-append ms rest)

met-cons : {old new : Option Denoted} → Met old new → {ds others : List Denoted} →
    AllMet ds others → AllMet (cons_option old ds) (cons_option new others)
met-cons here rest = by here.met_at here.fair rest
  where
    by : {old new : Option Denoted} → AreMetAt old new →
        ((d : Denoted) → old ≡ Some d → IsFairly d) → {ds others : List Denoted} →
        AllMet ds others → AllMet (cons_option old ds) (cons_option new others)
    by nothing_met fair rest = rest
    by (met {d} m) fair rest = one_more m (fair d refl) rest

met-names : (f g : Occurrence → Option Denoted) {os : List Occurrence} →
    Every (λ o. Met (f o) (g o)) os → AllMet (filter_map f os) (filter_map g os)
met-names f g none = no_more
met-names f g (more here later) = met-cons here (met-names f g later)

each-met : {reading : Reading} {is_async : Bool} {stmts after its : List Item} →
    AreTwins reading is_async stmts after its → {item : TopItem} → IsSegment stmts item →
    Every
    (λ o. Met (denoted_in reading (module_with stmts after) item o) (denoted_in reading (call_with is_async stmts its) (moved_item item) o))
    (occurrences item.items)
each-met twins {item} s =
    every-map (λ (o : Occurrence) l. met-item twins s o.place l) (occurs-within item.items)

all-met : {reading : Reading} {is_async : Bool} {stmts after its : List Item} →
    AreTwins reading is_async stmts after its → {items : List TopItem} →
    Every (IsSegment stmts) items →
    AllMet
    (flat_map (λ item. filter_map (denoted_in reading (module_with stmts after) item) (occurrences item.items)) items)
    (flat_map (λ item. filter_map (denoted_in reading (call_with is_async stmts its) item) (occurrences item.items)) (map moved_item items))
all-met twins none = no_more
all-met {reading} {is_async} {stmts} {after} {its} twins (more {x} here later) =
    met-append
    (met-names (denoted_in reading (module_with stmts after) x) (denoted_in reading (call_with is_async stmts its) (moved_item x)) (each-met twins here))
    (all-met twins later)

-- Top bindings.

of_scope-moved : (d : Denoted) → IsFairly d →
    is_of_scope (Inner FunctionBody 6) (called_denoted d) ≡ is_of_scope Top d
of_scope-moved (Bound scope name) fair = same-moved scope Top fair tt
of_scope-moved (Global x) fair = refl

tops-filtered : {ds others : List Denoted} → AllMet ds others →
    filter (is_of_scope (Inner FunctionBody 6)) others ≡
    map called_denoted (filter (is_of_scope Top) ds)
tops-filtered no_more = refl
tops-filtered (one_more {ds} {others} (followed d) fair ms) =
    ap₂ (λ (t : Bool) (l : List Denoted). cond t (called_denoted d ∷ l) l) (of_scope-moved d fair) (tops-filtered ms)
    ∙ by (is_of_scope Top d)
  where
    by : (t : Bool) →
        cond t (called_denoted d ∷ map called_denoted (filter (is_of_scope Top) ds))
        (map called_denoted (filter (is_of_scope Top) ds)) ≡
        map called_denoted
        (cond t (d ∷ filter (is_of_scope Top) ds) (filter (is_of_scope Top) ds))
    by true = refl
    by false = refl
tops-filtered (one_more (astray name) fair ms) = tops-filtered ms

fair-all : {ds others : List Denoted} → AllMet ds others → Every IsFairly ds
fair-all no_more = none
fair-all (one_more m fair ms) = more fair (fair-all ms)

-- a binding of the top
abbrev IsTopBinding : Denoted → Type 0
IsTopBinding (Bound scope name) = IsFair scope
IsTopBinding (Global x) = ⊥

top-bindings : (ds : List Denoted) → Every IsFairly ds →
    Every IsTopBinding (filter (is_of_scope Top) ds)
top-bindings [] none = none
top-bindings (Global x ∷ ds) (more here later) = top-bindings ds later
top-bindings (Bound scope name ∷ ds) (more here later) =
    by (is_of_scope Top (Bound scope name)) (top-bindings ds later)
  where
    by : (t : Bool) → Every IsTopBinding (filter (is_of_scope Top) ds) →
        Every IsTopBinding
        (cond t (Bound scope name ∷ filter (is_of_scope Top) ds) (filter (is_of_scope Top) ds))
    by true rest = more here rest
    by false rest = rest

pub mentioned-moved : {reading : Reading} {is_async : Bool} {stmts after its : List Item} →
    AreTwins reading is_async stmts after its → {items : List TopItem} →
    Every (IsSegment stmts) items →
    mentioned reading (Inner FunctionBody 6) (call_with is_async stmts its) (map moved_item items) ≡
    map called_denoted (mentioned reading Top (module_with stmts after) items)
mentioned-moved twins each = let all = all-met twins each in ap each_denoted_once (tops-filtered all) ∙ once-moved (every-filter (is_of_scope Top) (fair-all all))

top-binding-fair : (d : Denoted) → IsTopBinding d → IsFairly d
top-binding-fair (Bound scope name) fair = fair
top-binding-fair (Global x) fair = absurd fair

position-met : (tops : List Denoted) → Every IsTopBinding tops → {d other : Denoted} →
    CorrespondInBody d other → IsFairly d →
    position (same_denoted other) (map called_denoted tops) ≡ position (same_denoted d) tops
position-met tops each (followed d) fair =
    position-map (same_denoted (called_denoted d)) (same_denoted d) called_denoted IsFairly
    (λ other its. same_denoted-moved d other fair its) (every-map top-binding-fair each)
position-met tops each (astray name) fair =
    position-none (same_denoted (Bound (Inner Parameters 5) name)) (outside each)
    ∙ sym (position-none (same_denoted (Global (codes "arguments"))) (every-map no-global each))
  where
    no-global : (d : Denoted) → IsTopBinding d → same_denoted (Global (codes "arguments")) d ≡ false
    no-global (Bound scope its) fair = refl
    no-global (Global x) fair = absurd fair

    differs : (d : Denoted) → IsTopBinding d →
        same_denoted (Bound (Inner Parameters 5) name) (called_denoted d) ≡ false
    differs (Bound scope its) fair =
        ap (λ t. t && bytes_eq name.sym its.sym && same_context name.ctxt its.ctxt)
        (parameters-differ scope fair)
    differs (Global x) fair = absurd fair

    outside : {ds : List Denoted} → Every IsTopBinding ds →
        Every (λ d. same_denoted (Bound (Inner Parameters 5) name) d ≡ false) (map called_denoted ds)
    outside none = none
    outside (more {x} here later) = more (differs x here) (outside later)

top-met : (tops : List Denoted) → Every IsTopBinding tops → {old new : Option Denoted} →
    Met old new →
    option_and_then (λ d. position (same_denoted d) (map called_denoted tops)) new ≡
    option_and_then (λ d. position (same_denoted d) tops) old
top-met tops each m = by m.met_at m.fair
  where
    by : {old new : Option Denoted} → AreMetAt old new →
        ((d : Denoted) → old ≡ Some d → IsFairly d) →
        option_and_then (λ d. position (same_denoted d) (map called_denoted tops)) new ≡
        option_and_then (λ d. position (same_denoted d) tops) old
    by nothing_met fair = refl
    by (met {d} both_met) fair = position-met tops each both_met (fair d refl)

-- The global `Object`.

is_global-met : (x : Text) → bytes_eq x (codes "arguments") ≡ false → {old new : Option Denoted} →
    AreMetAt old new → is_global_named x new ≡ is_global_named x old
is_global-met x other nothing_met = refl
is_global-met x other (met (followed (Bound scope name))) = refl
is_global-met x other (met (followed (Global y))) = refl
is_global-met x other (met (astray name)) = sym other

nothing-alike : {is_async : Bool} (reading : Reading) {o its : Option Occurrence} →
    AreAlike is_async o its → is_of_nothing reading its ≡ is_of_nothing reading o
nothing-alike BySymbol alike = refl
nothing-alike ByContext neither = refl
nothing-alike ByContext (both place its x ctxt role at moved) = refl

object-met : {reading : Reading} {is_async : Bool} {stmts after its : List Item} →
    AreTwins reading is_async stmts after its → {item : TopItem} → IsSegment stmts item → (n : ℕ) →
    n < length item.items →
    is_object_at reading (call_with is_async stmts its) (item.start + 6 + n) ≡
    is_object_at reading (module_with stmts after) (item.start + n)
object-met {reading} {is_async} {stmts} {after} {its} twins {item} s n l =
    ap₂ (λ (a : Bool) (b : Bool). a && b) (is_global-met (codes "Object") refl (met-item twins s n l).met_at)
    (subst (λ x. x) (λ i. is_of_nothing reading (occurrence_at (call_with is_async stmts its) (new i)) ≡ is_of_nothing reading (occurrence_at (module_with stmts after) (old i))) (nothing-alike reading (occurrences-alike (shows is_async twins.statements after its (s.at + n) (segment-length s n l)))))
  where
    old : suc (s.at + n) ≡ item.start + n
    old = omega (arith, s.start)

    new : suc (s.at + n) + 6 ≡ item.start + 6 + n
    new = omega (arith, s.start)

-- What is to be put in order.

abbrev mention_with : Reading → List Item → TopItem → Occurrence → Option ℕ → Bool → Mention
mention_with reading tree item o top prototype = record {
  top = top;
  declares = is_binding o.role;
  later = runs_later o.path;
  assigned = is_assigned o.path;
  argument = is_in_argument o.path;
  chain = roots_chain o.path;
  prototype = is_prototype_read item.items o.path && prototype;
  valueless = is_binding o.role && has_no_value item.items o.path;
}

mention-moved : {reading : Reading} {is_async : Bool} {stmts after its : List Item} →
    AreTwins reading is_async stmts after its → (tops : List Denoted) → Every IsTopBinding tops →
    {item : TopItem} → IsSegment stmts item → (o : Occurrence) → o.place < length item.items →
    mention_of reading (call_with is_async stmts its) (map called_denoted tops) (moved_item item) o ≡
    mention_of reading (module_with stmts after) tops item o
mention-moved {reading} {is_async} {stmts} {after} {its} twins tops each {item} s o l =
    ap₂ (mention_with reading (module_with stmts after) item o) (top-met tops each (met-item twins s o.place l))
    (assigns-same (λ place. is_object_at reading (call_with is_async stmts its) (item.start + 6 + place)) (λ place. is_object_at reading (module_with stmts after) (item.start + place)) item.items (λ n within. object-met twins s n within) o.path)

mentions-moved : {reading : Reading} {is_async : Bool} {stmts after its : List Item} →
    AreTwins reading is_async stmts after its → (tops : List Denoted) → Every IsTopBinding tops →
    {item : TopItem} → IsSegment stmts item → {os : List Occurrence} →
    Every (λ (o : Occurrence). o.place < length item.items) os →
    map
    (mention_of reading (call_with is_async stmts its) (map called_denoted tops) (moved_item item))
    os ≡
    map (mention_of reading (module_with stmts after) tops item) os
mentions-moved twins tops each s none = refl
mentions-moved twins tops each s (more {x} here later) =
    ap₂ (λ (m : Mention) (ms : List Mention). m ∷ ms) (mention-moved twins tops each s x here)
    (mentions-moved twins tops each s later)

items-moved : {reading : Reading} {is_async : Bool} {stmts after its : List Item} →
    AreTwins reading is_async stmts after its → (tops : List Denoted) → Every IsTopBinding tops →
    {items : List TopItem} → Every (IsSegment stmts) items →
    map
    (λ item. map (mention_of reading (call_with is_async stmts its) (map called_denoted tops) item) (occurrences item.items))
    (map moved_item items) ≡
    map
    (λ item. map (mention_of reading (module_with stmts after) tops item) (occurrences item.items))
    items
items-moved twins tops each none = refl
items-moved twins tops each (more {x} here later) =
    ap₂ (λ (m : List Mention) (ms : List (List Mention)). m ∷ ms)
    (mentions-moved twins tops each here (occurs-within x.items))
    (items-moved twins tops each later)

-- items of the statements are to be put in order alike
pub group-moved : {reading : Reading} {is_async : Bool} {stmts after its : List Item} →
    AreTwins reading is_async stmts after its → {items : List TopItem} →
    Every (IsSegment stmts) items → (owners : List (Option ℕ)) →
    group_of reading (Inner FunctionBody 6) (call_with is_async stmts its) (map moved_item items)
    owners ≡
    group_of reading Top (module_with stmts after) items owners
group-moved {reading} {is_async} {stmts} {after} {its} twins {items} each owners =
    ap (λ l. record { items = l; owners = owners }) (
    ap (λ tops. map (λ item. map (mention_of reading (call_with is_async stmts its) tops item) (occurrences item.items)) (map moved_item items)) (mentioned-moved twins each)
    ∙ items-moved twins (mentioned reading Top (module_with stmts after) items) (every-once (top-bindings (flat_map (λ item. filter_map (denoted_in reading (module_with stmts after) item) (occurrences item.items)) items) (fair-all (all-met twins each)))) each)

-- ---- nodes

-- whole nodes
data AreWhole : ℕ → List Item → Type 0 where
  w_over : AreWhole zero []
  w_begun : {depth field : ℕ} {head : Head} {rest : List Item} → AreWhole (suc depth) rest →
      AreWhole depth (h.Open field head ∷ rest)
  w_ended : {depth : ℕ} {rest : List Item} → AreWhole depth rest →
      AreWhole (suc depth) (h.Close ∷ rest)
  w_named : {depth field ctxt : ℕ} {x : Text} {role : Role} {rest : List Item} →
      AreWhole depth rest → AreWhole depth (h.Ident field x ctxt role ∷ rest)

whole-join : {depth : ℕ} {xs ys : List Item} → AreWhole depth xs → AreWhole zero ys →
    AreWhole depth (xs ++ ys)
whole-join w_over whole = whole
whole-join (w_begun rest) whole = w_begun (whole-join rest whole)
whole-join (w_ended rest) whole = w_ended (whole-join rest whole)
whole-join (w_named rest) whole = w_named (whole-join rest whole)

whole-each : {A : Type 0} (f : A → List Item) → ((x : A) → AreWhole zero (f x)) → (xs : List A) →
    AreWhole zero (flat_map f xs)
whole-each f each [] = w_over
whole-each f each (x ∷ xs) = whole-join (each x) (whole-each f each xs)

-- so many more nodes are open
abbrev up : ℕ → ℕ → ℕ
up zero n = n
up (suc k) n = suc (up k n)

-- in a node that is open
whole-inner : {depth : ℕ} {xs : List Item} → AreWhole depth xs → (d : ℕ) (rest : List Item) →
    side_by_side (up depth (suc d)) (xs ++ rest) ≡ put_all xs (side_by_side (suc d) rest)
whole-inner w_over d rest = refl
whole-inner (w_begun {field} {head} inner) d rest =
    ap (put_first (h.Open field head)) (whole-inner inner d rest)
whole-inner (w_ended {depth = zero} inner) d rest =
    ap (put_first h.Close) (whole-inner inner d rest)
whole-inner (w_ended {depth = suc depth} inner) d rest =
    ap (put_first h.Close) (whole-inner inner d rest)
whole-inner (w_named {depth = zero} {field} {ctxt} {x} {role} inner) d rest =
    ap (put_first (h.Ident field x ctxt role)) (whole-inner inner d rest)
whole-inner (w_named {depth = suc depth} {field} {ctxt} {x} {role} inner) d rest =
    ap (put_first (h.Ident field x ctxt role)) (whole-inner inner d rest)

-- one node
node-alone : (field : ℕ) (head : Head) {inside : List Item} → AreWhole zero inside →
    (rest : List Item) →
    side_by_side zero (h.Open field head ∷ (inside ++ h.Close ∷ rest)) ≡
    (h.Open field head ∷ (inside ++ h.Close ∷ [])) ∷ side_by_side zero rest
node-alone field head {inside} whole rest =
    ap (put_first (h.Open field head))
    (whole-inner whole zero (h.Close ∷ rest) ∙ put_all-cons inside (h.Close ∷ []) (side_by_side zero rest))

name-whole : (name : Option ExportedName) → AreWhole zero (name_items name)
name-whole None = w_over
name-whole (Some (word x ctxt)) = w_named w_over
name-whole (Some (text x raw)) = w_begun (w_ended w_over)

whole-close : {depth : ℕ} {xs : List Item} → AreWhole depth xs →
    AreWhole (suc depth) (xs ++ h.Close ∷ [])
whole-close w_over = w_ended w_over
whole-close (w_begun rest) = w_begun (whole-close rest)
whole-close (w_ended rest) = w_ended (whole-close rest)
whole-close (w_named rest) = w_named (whole-close rest)

specifiers-whole : (specifiers : List Specifier) →
    AreWhole zero (flat_map specifier_items specifiers)
specifiers-whole specifiers =
    whole-each specifier_items (λ it. w_begun (w_named (whole-close (name-whole it.name))))
    specifiers

key-whole : (x : Text) → AreWhole zero (returned_key x)
key-whole x = by (bytes_eq x (codes "__proto__")) (is_ascii_identifier x)
  where
    by : (t u : Bool) →
        AreWhole zero
        (if t then h.Open 0 h.ComputedPropName ∷ h.Open 0 (h.Str x None) ∷ h.Close ∷ h.Close ∷ [] else (if u then plain_key x else h.Open 0 (h.Str x None) ∷ h.Close ∷ []))
    by true u = w_begun (w_begun (w_ended (w_ended w_over)))
    by false true = w_begun (w_ended w_over)
    by false false = w_begun (w_ended w_over)

properties-whole : (pairs : List (Text × Ident)) → AreWhole zero (flat_map returned_property pairs)
properties-whole pairs =
    whole-each returned_property
    (λ pair. w_begun (subst (AreWhole (suc zero)) (append_assoc (returned_key pair.0) (h.Ident 1 pair.1.0 pair.1.1 _ ∷ []) (h.Close ∷ [])) (whole-close (whole-join (key-whole pair.0) (w_named w_over)))))
    pairs

-- the list of exports
pub list-alone : (meta : ExportMetadata) (specifiers : List Specifier) (rest : List Item) →
    side_by_side zero (export_items meta specifiers ++ rest) ≡
    export_items meta specifiers ∷ side_by_side zero rest
list-alone meta specifiers rest =
    ap (λ l. side_by_side zero (h.Open 0 (h.NamedExport meta) ∷ l))
    (append_assoc (flat_map specifier_items specifiers) (h.Close ∷ []) rest)
    ∙ node-alone 0 (h.NamedExport meta) (specifiers-whole specifiers) rest

-- the object that is returned
object-alone : (pairs : List (Text × Ident)) (rest : List Item) →
    side_by_side zero (returned_object pairs ++ rest) ≡
    returned_object pairs ∷ side_by_side zero rest
object-alone pairs rest =
    ap (λ l. side_by_side zero (h.Open 0 h.ReturnStmt ∷ h.Open 0 h.ObjectLit ∷ l)) (append_assoc properties (h.Close ∷ h.Close ∷ []) rest ∙ sym (append_assoc properties (h.Close ∷ []) (h.Close ∷ rest)))
    ∙ node-alone 0 h.ReturnStmt (w_begun (whole-close (properties-whole pairs))) rest
    ∙ ap (λ l. (h.Open 0 h.ReturnStmt ∷ h.Open 0 h.ObjectLit ∷ l) ∷ side_by_side zero rest) (append_assoc properties (h.Close ∷ []) (h.Close ∷ []))
  where
    properties : List Item
    properties = flat_map returned_property pairs

-- nodes that are no lists stay in the body
body-nodes : {lists : List (List Item)} → Every IsNoList lists → (others : List (List Item)) →
    function_body (lists ++ others) ≡ flat lists ++ function_body others
body-nodes none others = refl
body-nodes (more {x = node} {xs = lists} here later) others =
    ap
    (λ t. if t then returned_object (exported_pairs node) else node ++ function_body (lists ++ others))
    here ∙ ap (λ l. node ++ l) (body-nodes later others)
    ∙ sym (append_assoc node (flat lists) (function_body others))

pub body-plain : {stmts : List Item} → AreStatements zero stmts →
    function_body (side_by_side zero (stmts ++ h.Close ∷ [])) ≡ stmts ++ returned_object []
body-plain {stmts} statements =
    ap function_body (sides-append statements (h.Close ∷ [])) ∙ body-nodes (no-lists statements) [] ∙ ap (λ l. l ++ returned_object []) (sides-flat statements)

pub body-exports : {stmts : List Item} → AreStatements zero stmts →
    (meta : ExportMetadata) (specifiers : List Specifier) →
    function_body (side_by_side zero (stmts ++ (export_items meta specifiers ++ h.Close ∷ []))) ≡
    stmts ++ returned_object (exported_pairs (export_items meta specifiers))
body-exports {stmts} statements meta specifiers =
    ap function_body (sides-append statements (export_items meta specifiers ++ h.Close ∷ []) ∙ ap (λ l. side_by_side zero stmts ++ l) (list-alone meta specifiers (h.Close ∷ [])))
    ∙ body-nodes (no-lists statements) (export_items meta specifiers ∷ [])
    ∙ ap (λ l. l ++ returned_object (exported_pairs (export_items meta specifiers))) (sides-flat statements)

-- the nodes of the body, with what stands behind them
sides-followed : {stmts : List Item} → AreStatements zero stmts →
    (pairs : List (Text × Ident)) (rest : List Item) →
    side_by_side zero (stmts ++ (returned_object pairs ++ rest)) ≡
    side_by_side zero stmts ++ returned_object pairs ∷ side_by_side zero rest
sides-followed {stmts} statements pairs rest =
    sides-append statements (returned_object pairs ++ rest)
    ∙ ap (λ l. side_by_side zero stmts ++ l) (object-alone pairs rest)

-- the nodes of the body
pub body-sides : {stmts : List Item} → AreStatements zero stmts → (pairs : List (Text × Ident)) →
    side_by_side zero (stmts ++ returned_object pairs) ≡
    side_by_side zero stmts ++ returned_object pairs ∷ []
body-sides {stmts} statements pairs =
    ap (λ l. side_by_side zero (stmts ++ l)) (sym (append-nil (returned_object pairs)))
    ∙ sides-followed statements pairs []

-- the body stands whole in the function
pub body-whole : {stmts : List Item} → AreStatements zero stmts → (pairs : List (Text × Ident)) →
    StandsWhole (stmts ++ returned_object pairs)
body-whole {stmts} statements pairs =
    ap flat (ap (side_by_side zero) (append_assoc stmts (returned_object pairs) (h.Close ∷ [])) ∙ sides-followed statements pairs (h.Close ∷ []))
    ∙ flat-append (side_by_side zero stmts) (returned_object pairs ∷ [])
    ∙ ap₂ (λ (xs : List Item) (ys : List Item). xs ++ ys) (sides-flat statements) (append-nil (returned_object pairs))
