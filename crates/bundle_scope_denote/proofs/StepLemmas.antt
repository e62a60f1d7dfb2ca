-- The walk goes on by each kind of element.
use Rattle.std.proofs.Common.{◌≡◌, ℕ, zero, suc, ◌+◌, ◌<◌, ◌⊎◌, inl, inr, Bool, true, false, cond, List, [], ◌∷◌, ◌++◌, Option, Some, None, Result, Ok, Err, OnOk, option_map, map, length, drop, reverse, slice_index_or, refl, ap, sym, ◌∙◌, subst, append-nil}
use Rattle.std.specs.Prelude.{slice_get, option_and_then, is_some}
use Rattle.std.specs.List.{cons_option}
use Rattle.std.specs.Option.{option_to_list}
use Rattle.std.proofs.lemmas.Option.{slice_get-map, slice_get_read}
use Rattle.std.proofs.lemmas.List.{drop-map}
use Rattle.std.proofs.lemmas.Slice.Zip.{AllZip-long}
use Rattle.bundle_syntax.specs.declared.piece.Piece.{Piece}
use Rattle.bundle_syntax.specs.declared.piece.Role.{Role}
use Rattle.bundle_syntax.specs.declared.piece.Role.TheVariants.{Binding, Reference, Word}
use Rattle.bundle_syntax.specs.Item as h
use Rattle.bundle_syntax.specs.Item.{Item, Head, item_of}
use Rattle.bundle_rules.specs.Places as p
use Rattle.bundle_rules.proofs.PlacesLemmas.{spot_before-next}
use Rattle.bundle_rules.specs.Scopes as s
use Rattle.bundle_rules.specs.Declarations as d
use Rattle.bundle_scope_denote.specs.declared.walk.Declaration.{Declaration}
use Rattle.bundle_scope_denote.specs.declared.walk.Open.{Open}
use Rattle.bundle_scope_denote.specs.declared.walk.ScopeWalk.{ScopeWalk}
use Rattle.bundle_scope_denote.specs.Kinds.{kind_as, reading_as, way_named}
use Rattle.bundle_scope_denote.specs.Numbers.{NumberedScope, AreAround, KeepsNumbers}
use Rattle.bundle_scope_denote.specs.Walked.{scope_in, IsInnermost, AreOpenNodes, IsDeclared, IsSeen, IsMetBefore, IsDefault, at_number, begins_nameless, declared_as, occurs_as}
use Rattle.bundle_scope_denote.specs.Steps.{scopes_of, walk_names, nodes_open, one_by_one, repeated, scope_made, IsWalkAt, StaysInWalk, WalksOn, BeginsNode, Occurs, EndsNode}
use Rattle.bundle_scope_denote.proofs.ChainLemmas.{Keeps-append, Keeps-same, slice_get-next, AreAround-keeps}
use Rattle.bundle_scope_denote.proofs.ZipLemmas.{BothOrNone}
use Rattle.bundle_scope_denote.proofs.WalkLemmas.{drop-at, AreOpen-in_field, AreOpen-keeps, innermost-open, innermost-new, behind_option, declared-next, seen-next}

-- what holds where all goes well
pub on_ok : {T E P Q : Type 0} (r : Result T E) → (P → Q) → OnOk r P → OnOk r Q
on_ok (Ok x) f known = f known
on_ok (Err e) f known = known

-- the element at a place
pub item_at : (pieces : List Piece) (place : ℕ) (piece : Piece) → place < length pieces → piece ≡ slice_index_or pieces place piece → slice_get (map item_of pieces) place ≡ Some (item_of piece)
item_at pieces place piece within is = slice_get-map item_of pieces place ∙ ap (option_map item_of) (slice_get_read pieces (length pieces) place piece refl within is)

-- the walk has gone on, if it has in what no step changes
goes_on : (old new : ScopeWalk) (items : List Item) (place : ℕ) → StaysInWalk old new → IsMetBefore (reading_as old.reading) (kind_as old.kind) items (place + 1) (scopes_of new) (walk_names new) new.declarations.items new.occurrences.items (nodes_open new) old.top → WalksOn old new items place
goes_on old new items place stays is = record {
  is_at = subst (λ t. IsMetBefore (reading_as new.reading) (kind_as new.kind) items (place + 1) (scopes_of new) (walk_names new) new.declarations.items new.occurrences.items (nodes_open new) t) (sym stays.top)
      (subst (λ k. IsMetBefore (reading_as new.reading) (kind_as k) items (place + 1) (scopes_of new) (walk_names new) new.declarations.items new.occurrences.items (nodes_open new) old.top) (sym stays.kind)
      (subst (λ r. IsMetBefore (reading_as r) (kind_as old.kind) items (place + 1) (scopes_of new) (walk_names new) new.declarations.items new.occurrences.items (nodes_open new) old.top) (sym stays.reading) is));
  stays = stays;
}

-- the next spot stands at the next place
stands-next : (items : List Item) (place : ℕ) (item : Item) → slice_get items place ≡ Some item → (p.spot_before items place).place ≡ place → (p.spot_before items (place + 1)).place ≡ place + 1
stands-next items place item at stands = ap (λ (x : p.Spot). x.place) (spot_before-next items place item at) ∙ ap (λ n. n + 1) stands

-- the `default` of a nameless export is declared
default-declared : (scopes : List NumberedScope) (names : List d.Name) (kind : s.ModuleKind) (stands place top : ℕ) (is_nameless : Bool) (default : Option Declaration) → stands ≡ place → AreAround scopes (Some top) (s.outermost kind) → IsDefault names place top is_nameless default → BothOrNone (IsDeclared scopes names) default (cond is_nameless (Some (d.nameless_default kind stands)) None)
default-declared scopes names kind stands place top true (Some default) at around known = record { place = known.stands ∙ sym at; name = known.named; by = known.by; around = subst (λ n. AreAround scopes (Some n) (s.outermost kind)) (sym known.around) around }
default-declared scopes names kind stands place top true None at around known = known
default-declared scopes names kind stands place top false (Some default) at around known = known
default-declared scopes names kind stands place top false None at around known = known

-- a node begins
begun : (old new : ScopeWalk) (items : List Item) (place field : ℕ) (head : Head) → IsWalkAt old items place → slice_get items place ≡ Some (h.Open field head) → BeginsNode old new place field head (begins_nameless (drop place items)) → WalksOn old new items place
begun old new items place field head before at b =
    let reading : d.Reading = reading_as old.reading in
    let kind : s.ModuleKind = kind_as old.kind in
    let spot : p.Spot = p.spot_before items place in
    let item : Item = h.Open field head in
    let rest : List Item = drop (place + 1) items in
    let made : Option NumberedScope = scope_made old.inner place field head in
    let grown : KeepsNumbers (scopes_of old) (scopes_of new) = subst (λ l. KeepsNumbers (scopes_of old) l) (sym b.scopes) (Keeps-append (scopes_of old) (option_to_list made)) in
    let inner_known = innermost-open (scopes_of old) kind old.more old.inner (one_by_one (reverse old.outer.items)) spot.path before.nodes in
    let inner_new = innermost-new (scopes_of old) kind old.inner new.inner spot.path place field head inner_known b.way b.variable b.block b.defaults b.heads b.left b.around b.own in
    let outer_known : AreOpenNodes (scopes_of new) kind (nodes_open old) (p.in_field field spot.path) = AreOpen-keeps (scopes_of old) (scopes_of new) grown kind (nodes_open old) (p.in_field field spot.path) (AreOpen-in_field (scopes_of old) kind (nodes_open old) field spot.path before.nodes) in
    let nodes_there : AreOpenNodes (scopes_of new) kind (new.inner ∷ nodes_open old) (record { head = head; begins = place; field = 0 } ∷ p.in_field field spot.path) = (subst (λ l. IsInnermost l kind new.inner (record { head = head; begins = place; field = 0 } ∷ p.in_field field spot.path)) (sym b.scopes) inner_new, outer_known) in
    let nodes_here : AreOpenNodes (scopes_of new) kind (nodes_open new) (p.past spot item).path = subst (λ n. AreOpenNodes (scopes_of new) kind (nodes_open new) (record { head = head; begins = n; field = 0 } ∷ p.in_field field spot.path)) (sym before.stands) (subst (λ l. AreOpenNodes (scopes_of new) kind l (record { head = head; begins = place; field = 0 } ∷ p.in_field field spot.path)) (sym b.nodes) nodes_there) in
    let outermost : AreAround (scopes_of new) (Some old.top) (s.outermost kind) = AreAround-keeps (scopes_of old) (scopes_of new) grown (Some old.top) (s.outermost kind) before.outermost in
    let default : BothOrNone (IsDeclared (scopes_of new) (walk_names new)) b.default (d.declared_at reading kind spot item rest) = default-declared (scopes_of new) (walk_names new) kind spot.place place old.top (d.is_nameless_default item rest) b.default before.stands outermost (subst (λ l. IsDefault (walk_names new) place old.top (begins_nameless l) b.default) (drop-at items place item at) b.is_default) in
    goes_on old new items place b.stays (record {
      stands = stands-next items place item at before.stands;
      nodes = subst (λ (x : p.Spot). AreOpenNodes (scopes_of new) kind (nodes_open new) x.path) (sym (spot_before-next items place item at)) nodes_here;
      outermost = outermost;
      declared = declared-next (scopes_of old) (scopes_of new) (walk_names old) (walk_names new) grown b.keeps reading kind items place item old.declarations.items new.declarations.items b.default at b.declarations default before.declared;
      seen = seen-next (scopes_of old) (scopes_of new) (walk_names old) (walk_names new) grown b.keeps reading kind items place item old.occurrences.items new.occurrences.items None at (b.occurrences ∙ sym (append-nil old.occurrences.items)) tt before.seen;
    })

-- an identifier declares where a way is known
ident-declared : (scopes : List NumberedScope) (names : List d.Name) (stands place number scope : ℕ) (name : d.Name) (around : List s.Scope) (binds : Bool) (way : Option d.Way) → stands ≡ place → slice_get names number ≡ Some name → AreAround scopes (Some scope) around → BothOrNone (IsDeclared scopes names) (option_map (declared_as place number scope) (cond binds (option_map way_named way) None)) (cond binds (d.declared_by stands name around way) None)
ident-declared scopes names stands place number scope name around true (Some way) at named known = record { place = sym at; name = named; by = refl; around = known }
ident-declared scopes names stands place number scope name around true None at named known = tt
ident-declared scopes names stands place number scope name around false way at named known = tt

-- the declaration that is added has the next number
numbered-declaration : (R : Declaration → d.Declared → Type 0) (before more all : List d.Declared) (count : ℕ) (declared : Option Declaration) (found : Option d.Declared) → length before ≡ count → BothOrNone R declared found → (before ++ option_to_list found) ++ more ≡ all → at_number all (option_map (λ _. count) declared) ≡ found
numbered-declaration R before more all count None None counted both e = refl
numbered-declaration R before more all count (Some declared) (Some found) counted both e = ap (λ n. slice_get all n) (sym counted) ∙ ap (λ l. slice_get l (length before)) (sym e) ∙ Keeps-append (before ++ found ∷ []) more (length before) found (slice_get-next before found)
numbered-declaration R before more all count None (Some found) counted both e = absurd both
numbered-declaration R before more all count (Some declared) None counted both e = absurd both

-- what no item changes stays
stay : (walk : ScopeWalk) → StaysInWalk walk walk
stay walk = record { top = refl; reading = refl; kind = refl }

-- an element that opens and closes nothing, and declares nothing
passed : (walk : ScopeWalk) (items : List Item) (place : ℕ) (item : Item) → IsWalkAt walk items place → slice_get items place ≡ Some item → (p.past (p.spot_before items place) item).path ≡ (p.spot_before items place).path → p.occurrence_of (p.spot_before items place) item ≡ None → d.declared_at (reading_as walk.reading) (kind_as walk.kind) (p.spot_before items place) item (drop (place + 1) items) ≡ None → WalksOn walk walk items place
passed walk items place item before at same_path no_occurrence no_declaration =
    let reading : d.Reading = reading_as walk.reading in
    let kind : s.ModuleKind = kind_as walk.kind in
    let keep_scopes : KeepsNumbers (scopes_of walk) (scopes_of walk) = Keeps-same (scopes_of walk) (scopes_of walk) refl in
    let keep_names : KeepsNumbers (walk_names walk) (walk_names walk) = Keeps-same (walk_names walk) (walk_names walk) refl in
    goes_on walk walk items place (stay walk) (record {
      stands = stands-next items place item at before.stands;
      nodes = subst (λ q. AreOpenNodes (scopes_of walk) kind (nodes_open walk) q) (sym (ap (λ (x : p.Spot). x.path) (spot_before-next items place item at) ∙ same_path)) before.nodes;
      outermost = before.outermost;
      declared = declared-next (scopes_of walk) (scopes_of walk) (walk_names walk) (walk_names walk) keep_scopes keep_names reading kind items place item walk.declarations.items walk.declarations.items None at (sym (append-nil walk.declarations.items)) (subst (λ x. BothOrNone (IsDeclared (scopes_of walk) (walk_names walk)) None x) (sym no_declaration) tt) before.declared;
      seen = seen-next (scopes_of walk) (scopes_of walk) (walk_names walk) (walk_names walk) keep_scopes keep_names reading kind items place item walk.occurrences.items walk.occurrences.items None at (sym (append-nil walk.occurrences.items)) (subst (λ x. BothOrNone (IsSeen (scopes_of walk) (walk_names walk) reading kind (d.declared reading kind items)) None x) (sym no_occurrence) tt) before.seen;
    })

-- a plain word, or a place without an element
worded : (walk : ScopeWalk) (items : List Item) (place field ctxt : ℕ) (sym : List ℕ) → IsWalkAt walk items place → slice_get items place ≡ Some (h.Ident field sym ctxt Word) → WalksOn walk walk items place
worded walk items place field ctxt sym before at = passed walk items place (h.Ident field sym ctxt Word) before at refl refl refl

pub holed : (walk : ScopeWalk) (items : List Item) (place field : ℕ) → IsWalkAt walk items place → slice_get items place ≡ Some (h.Hole field) → WalksOn walk walk items place
holed walk items place field before at = passed walk items place (h.Hole field) before at refl refl refl

-- nodes are open in front of others
never_none : (more : ℕ) (node : Open) (rest : List Open) → repeated more node (node ∷ rest) ≡ [] → ⊥
never_none zero node rest none = cc
never_none (suc more) node rest none = cc

-- the path without the innermost node
closed : (scopes : List NumberedScope) (kind : s.ModuleKind) (inner : Open) (nodes next : List Open) (path : List p.Around) → (next ≡ [] → ⊥) → (nodes ≡ inner ∷ next) ⊎ ((nodes ≡ inner ∷ []) × (next ≡ nodes)) → AreOpenNodes scopes kind nodes path → AreOpenNodes scopes kind next (p.outer_path path)
closed scopes kind inner nodes next path some (inl is) known = inside path (subst (λ l. AreOpenNodes scopes kind l path) is known)
  where
    inside : (path : List p.Around) → AreOpenNodes scopes kind (inner ∷ next) path → AreOpenNodes scopes kind next (p.outer_path path)
    inside [] known = absurd (some known.1)
    inside (node ∷ path) known = known.1
closed scopes kind inner nodes next path some (inr last) known =
    subst (λ l. AreOpenNodes scopes kind l (p.outer_path path)) (sym (last.1 ∙ last.0)) (alone path (subst (λ l. AreOpenNodes scopes kind l path) last.0 known))
  where
    alone : (path : List p.Around) → AreOpenNodes scopes kind (inner ∷ []) path → AreOpenNodes scopes kind (inner ∷ []) (p.outer_path path)
    alone [] last = last
    alone (node ∷ path) last = no_nodes path last.1
      where
        no_nodes : (path : List p.Around) → AreOpenNodes scopes kind [] path → AreOpenNodes scopes kind (inner ∷ []) path
        no_nodes [] none = absurd none
        no_nodes (node ∷ path) none = absurd none

-- a node ends
pub ended : (old new : ScopeWalk) (items : List Item) (place : ℕ) → IsWalkAt old items place → slice_get items place ≡ Some h.Close → EndsNode old new → WalksOn old new items place
ended old new items place before at e =
    let reading : d.Reading = reading_as old.reading in
    let kind : s.ModuleKind = kind_as old.kind in
    let spot : p.Spot = p.spot_before items place in
    let keep_scopes : KeepsNumbers (scopes_of old) (scopes_of new) = Keeps-same (scopes_of old) (scopes_of new) e.scopes in
    let keep_names : KeepsNumbers (walk_names old) (walk_names new) = Keeps-same (walk_names old) (walk_names new) e.names in
    let nodes_old : AreOpenNodes (scopes_of old) kind (nodes_open new) (p.outer_path spot.path) = closed (scopes_of old) kind old.inner (nodes_open old) (nodes_open new) spot.path (never_none new.more new.inner (one_by_one (reverse new.outer.items))) e.nodes before.nodes in
    let nodes_new : AreOpenNodes (scopes_of new) kind (nodes_open new) (p.outer_path spot.path) = AreOpen-keeps (scopes_of old) (scopes_of new) keep_scopes kind (nodes_open new) (p.outer_path spot.path) nodes_old in
    goes_on old new items place e.stays (record {
      stands = stands-next items place h.Close at before.stands;
      nodes = subst (λ (x : p.Spot). AreOpenNodes (scopes_of new) kind (nodes_open new) x.path) (sym (spot_before-next items place h.Close at)) nodes_new;
      outermost = AreAround-keeps (scopes_of old) (scopes_of new) keep_scopes (Some old.top) (s.outermost kind) before.outermost;
      declared = declared-next (scopes_of old) (scopes_of new) (walk_names old) (walk_names new) keep_scopes keep_names reading kind items place h.Close old.declarations.items new.declarations.items None at (e.declarations ∙ sym (append-nil old.declarations.items)) tt before.declared;
      seen = seen-next (scopes_of old) (scopes_of new) (walk_names old) (walk_names new) keep_scopes keep_names reading kind items place h.Close old.occurrences.items new.occurrences.items None at (e.occurrences ∙ sym (append-nil old.occurrences.items)) tt before.seen;
    })

-- a declaration gets a number, and nothing gets none
both_declare : (R : Declaration → d.Declared → Type 0) (count : ℕ) (declared : Option Declaration) (found : Option d.Declared) → BothOrNone R declared found → is_some (option_map (λ _. count) declared) ≡ is_some found
both_declare R count None None both = refl
both_declare R count (Some declared) (Some found) both = refl
both_declare R count None (Some found) both = absurd both
both_declare R count (Some declared) None both = absurd both

-- what is declared to the end, with what is declared at a place
whole : (items : List Item) (place : ℕ) (item : Item) (reading : d.Reading) (kind : s.ModuleKind) (before : List d.Declared) (found : Option d.Declared) → slice_get items place ≡ Some item → d.declared_at reading kind (p.spot_before items place) item (drop (place + 1) items) ≡ found → before ++ d.declared_from reading kind (p.spot_before items place) (drop place items) ≡ d.declared reading kind items → (before ++ option_to_list found) ++ d.declared_from reading kind (p.past (p.spot_before items place) item) (drop (place + 1) items) ≡ d.declared reading kind items
whole items place item reading kind before found at is rest =
    let spot : p.Spot = p.spot_before items place in
    behind_option before found (d.declared_from reading kind (p.past spot item) (drop (place + 1) items)) ∙ ap (λ x. before ++ cons_option x (d.declared_from reading kind (p.past spot item) (drop (place + 1) items))) (sym is) ∙ ap (λ l. before ++ d.declared_from reading kind spot l) (sym (drop-at items place item at)) ∙ rest

-- an identifier that binds or refers, with what the definitions make of it
met : (old new : ScopeWalk) (items : List Item) (place field ctxt : ℕ) (symbol : List ℕ) (role : Role) → IsWalkAt old items place → slice_get items place ≡ Some (h.Ident field symbol ctxt role) → p.occurrence_of (p.spot_before items place) (h.Ident field symbol ctxt role) ≡ Some (record { place = (p.spot_before items place).place; sym = symbol; ctxt = ctxt; role = role; path = p.in_field field (p.spot_before items place).path }) → Occurs old new place field symbol ctxt role → WalksOn old new items place
met old new items place field ctxt symbol role before at is_one o =
    let reading : d.Reading = reading_as old.reading in
    let kind : s.ModuleKind = kind_as old.kind in
    let spot : p.Spot = p.spot_before items place in
    let item : Item = h.Ident field symbol ctxt role in
    let rest : List Item = drop (place + 1) items in
    let path : List p.Around = p.in_field field spot.path in
    let found : p.Occurrence = record { place = spot.place; sym = symbol; ctxt = ctxt; role = role; path = path } in
    let scope : ℕ = scope_in old.inner field in
    let all : List d.Declared = d.declared reading kind items in
    let keep_scopes : KeepsNumbers (scopes_of old) (scopes_of new) = Keeps-same (scopes_of old) (scopes_of new) o.scopes in
    let known = innermost-open (scopes_of old) kind old.more old.inner (one_by_one (reverse old.outer.items)) spot.path before.nodes in
    let around : AreAround (scopes_of new) (Some scope) (s.scopes_around kind path) = AreAround-keeps (scopes_of old) (scopes_of new) keep_scopes (Some scope) (s.scopes_around kind path) (known.scope field) in
    let by_way : o.declared ≡ option_map (declared_as place o.number scope) (cond (p.is_binding role) (option_map way_named (d.way_of path)) None) = o.is_declared ∙ ap (λ w. option_map (declared_as place o.number scope) (cond (p.is_binding role) w None)) (known.way field) in
    let declares : BothOrNone (IsDeclared (scopes_of new) (walk_names new)) o.declared (d.declaration_of reading kind found) = subst (λ x. BothOrNone (IsDeclared (scopes_of new) (walk_names new)) x (d.declaration_of reading kind found)) (sym by_way) (ident-declared (scopes_of new) (walk_names new) spot.place place o.number scope (d.name_of reading symbol ctxt) (s.scopes_around kind path) (p.is_binding role) (d.way_of path) before.stands o.named around) in
    let declares_there : BothOrNone (IsDeclared (scopes_of new) (walk_names new)) o.declared (d.declared_at reading kind spot item rest) = subst (λ x. BothOrNone (IsDeclared (scopes_of new) (walk_names new)) o.declared (option_and_then (d.declaration_of reading kind) x)) (sym is_one) declares in
    let declared_there = declared-next (scopes_of old) (scopes_of new) (walk_names old) (walk_names new) keep_scopes o.keeps reading kind items place item old.declarations.items new.declarations.items o.declared at o.declarations declares_there before.declared in
    let numbered : at_number all (option_map (λ _. length old.declarations.items) o.declared) ≡ d.declaration_of reading kind found = numbered-declaration (IsDeclared (scopes_of new) (walk_names new)) before.declared.before (d.declared_from reading kind (p.past spot item) rest) all (length old.declarations.items) o.declared (d.declaration_of reading kind found) (AllZip-long (IsDeclared (scopes_of old) (walk_names old)) old.declarations.items before.declared.before before.declared.each) declares (whole items place item reading kind before.declared.before (d.declaration_of reading kind found) at (ap (option_and_then (d.declaration_of reading kind)) is_one) before.declared.rest) in
    goes_on old new items place o.stays (record {
      stands = stands-next items place item at before.stands;
      nodes = subst (λ (x : p.Spot). AreOpenNodes (scopes_of new) kind (nodes_open new) x.path) (sym (spot_before-next items place item at)) (subst (λ l. AreOpenNodes (scopes_of new) kind l spot.path) (sym o.nodes) (AreOpen-keeps (scopes_of old) (scopes_of new) keep_scopes kind (nodes_open old) spot.path before.nodes));
      outermost = AreAround-keeps (scopes_of old) (scopes_of new) keep_scopes (Some old.top) (s.outermost kind) before.outermost;
      declared = declared_there;
      seen = seen-next (scopes_of old) (scopes_of new) (walk_names old) (walk_names new) keep_scopes o.keeps reading kind items place item old.occurrences.items new.occurrences.items (Some (record { place = place; name = o.number; scope = scope; declaration = option_map (λ _. length old.declarations.items) o.declared })) at o.occurrences (subst (λ x. BothOrNone (IsSeen (scopes_of new) (walk_names new) reading kind all) (Some (record { place = place; name = o.number; scope = scope; declaration = option_map (λ _. length old.declarations.items) o.declared })) x) (sym is_one) (record { place = sym before.stands; name = o.named; around = around; declaration = numbered; declares = both_declare (IsDeclared (scopes_of new) (walk_names new)) (length old.declarations.items) o.declared (d.declaration_of reading kind found) declares })) before.seen;
    })

-- an identifier that is no word
pub occurred : (old new : ScopeWalk) (items : List Item) (place field ctxt : ℕ) (symbol : List ℕ) (role : Role) → IsWalkAt old items place → slice_get items place ≡ Some (h.Ident field symbol ctxt role) → occurs_as role ≡ true → Occurs old new place field symbol ctxt role → WalksOn old new items place
occurred old new items place field ctxt symbol Binding before at occurs o = met old new items place field ctxt symbol Binding before at refl o
occurred old new items place field ctxt symbol Reference before at occurs o = met old new items place field ctxt symbol Reference before at refl o
occurred old new items place field ctxt symbol Word before at occurs o = cc

pub begun_in_pieces : (old new : ScopeWalk) (pieces : List Piece) (place field : ℕ) (head : Head) → IsWalkAt old (map item_of pieces) place → slice_get (map item_of pieces) place ≡ Some (h.Open field head) → BeginsNode old new place field head (begins_nameless (map item_of (drop place pieces))) → WalksOn old new (map item_of pieces) place
begun_in_pieces old new pieces place field head before at b = begun old new (map item_of pieces) place field head before at (subst (λ l. BeginsNode old new place field head (begins_nameless l)) (sym (drop-map item_of place pieces)) b)

-- a plain word, by the role
pub worded_by : (walk : ScopeWalk) (items : List Item) (place field ctxt : ℕ) (symbol : List ℕ) (role : Role) → IsWalkAt walk items place → slice_get items place ≡ Some (h.Ident field symbol ctxt role) → occurs_as role ≡ false → WalksOn walk walk items place
worded_by walk items place field ctxt symbol Word before at occurs = worded walk items place field ctxt symbol before at
worded_by walk items place field ctxt symbol Binding before at occurs = cc
worded_by walk items place field ctxt symbol Reference before at occurs = cc
