-- A default declaration is of a function or a class.
-- What stands in a statement, a declaration or an expression: no import or export, and no plain word that is an identifier.
-- Nodes and lists of nodes one field after another.
use Rattle.std.proofs.Common.{◌≡◌, ℕ, ◌||◌, true, false, List, [], ◌∷◌, ◌++◌, append_assoc, append-nil, refl, sym, subst, ◌&&◌, Bool, not}
use Rattle.std.proofs.lemmas.Bool.{false≢true, true≢false, and_from}
use Rattle.bundle_syntax.specs.declared.piece.Role.{Role}
use Rattle.bundle_syntax.specs.Item as h
use Rattle.bundle_syntax.specs.Item.{Item, Head}
use Rattle.bundle_syntax.specs.declared.piece.Role.TheVariants as r
use Rattle.bundle_rules.specs.Shorthands.{is_shorthand_in_pattern, is_object}
use Rattle.bundle_rules.specs.Places.{Around, Spot, past, start}
use Rattle.bundle_rules.specs.Callable.{is_module_head}
use Rattle.bundle_tree_places.specs.Edits.{is_occurrence}
use Rattle.bundle_scope_names.specs.fit.Sorts.{ADefault, One, NodeSlot, slot, takes_head, names_of_sort, slots, NodeSort, AModule, AnItem, AnImport, AnExport, AnOuter, AnInner, APattern, APatternProperty, ABindingIdent, AnIdent, takes_module, takes_item, takes_import, takes_export, takes_name, takes_outer, ADecl, AStmt, AnInit, ALoopHead, AnExpr, ACallee, AnArrowBody, NodeCount, Optional, Many, Places}
use Rattle.bundle_scope_names.specs.fit.Fits.{AreFit, no_more, over, a_name, a_hole, a_node, fields_after, IsFit, name, node, IsMaybe, none, some, AreEach, ended, next, ArePlaces, closed, empty, held}
use Rattle.bundle_scope_names.proofs.naming_rule.Rebuilt.{spells_default, ArePlain}
use Rattle.bundle_scope_names.specs.fit.Seen.{each_slot, AreSeen, SortSteps}
use Rattle.bundle_scope_names.specs.fit.Words.{HasNoWords}
use Rattle.bundle_scope_names.proofs.fit.Keys.{seen}

-- ---- defaults
default_head : (head : Head) → takes_head head ADefault ≡ true → (is_shorthand_in_pattern head || is_object head) ≡ false
default_head h.AssignPatProp is = absurd (false≢true is)
default_head h.ObjectLit is = absurd (false≢true is)
default_head _ is = refl

default_plain : (n : ℕ) {items : List Item} → AreFit (slot 0 One ADefault ∷ []) items → (more : List Item) → spells_default (h.Open n h.ExportDefaultDecl) (items ++ more) ≡ false
default_plain n (over e fit) more = absurd (true≢false e)
default_plain n (a_name it fit) more = refl
default_plain n (a_node {head = hd} it in_it fit) more = default_head hd it

spells_none : (n : ℕ) (head : Head) (names : Role) {items : List Item} → AreFit (slots head names) items → (more : List Item) → spells_default (h.Open n head) (items ++ more) ≡ false
spells_none n h.ExportDefaultDecl names fit more = default_plain n fit more
spells_none n _ names fit more = refl

plain : {list : List NodeSlot} {items : List Item} → AreFit list items → (rest : List Item) → ArePlain rest → ArePlain (items ++ rest)
plain no_more rest them = them
plain (over e fit) rest them = plain fit rest them
plain (a_name it fit) rest them = (refl, plain fit rest them)
plain (a_hole fit) rest them = (refl, plain fit rest them)
plain (a_node {number = n} {sort = k} {head = hd} {inside = ins} {rest = behind} it in_it fit) rest them =
    subst (λ l. ArePlain (h.Open n hd ∷ l)) (sym (append_assoc ins (h.Close ∷ behind) rest))
    (spells_none n hd (names_of_sort k) in_it (h.Close ∷ (behind ++ rest)), plain in_it (h.Close ∷ (behind ++ rest)) (refl, plain fit rest them))

pub are_plain : {list : List NodeSlot} {items : List Item} → AreFit list items → ArePlain items
are_plain {items = items} fit = subst ArePlain (append-nil items) (plain fit [] tt)

-- ---- owning

-- a sort of statements and what stands in them
abbrev pub is_own : NodeSort → Bool
is_own AModule = false
is_own AnItem = false
is_own AnImport = false
is_own AnExport = false
is_own AnOuter = false
is_own AnInner = false
is_own (APattern names) = is_occurrence names
is_own (APatternProperty names) = is_occurrence names
is_own (ABindingIdent names) = is_occurrence names
is_own (AnIdent names) = is_occurrence names
is_own _ = true

clash : {A : Type 0} (a b : Bool) → not (a && b) ≡ true → a ≡ true → b ≡ true → A
clash true true e is so = absurd (false≢true e)
clash true false e is so = absurd (false≢true so)
clash false b e is so = absurd (false≢true is)

no_module : (sort : NodeSort) → not (takes_module sort && is_own sort) ≡ true
no_module AModule = refl
no_module _ = refl

no_item : (sort : NodeSort) → not (takes_item sort && is_own sort) ≡ true
no_item AModule = refl
no_item _ = refl

no_import : (sort : NodeSort) → not (takes_import sort && is_own sort) ≡ true
no_import AModule = refl
no_import _ = refl

no_export : (sort : NodeSort) → not (takes_export sort && is_own sort) ≡ true
no_export AModule = refl
no_export _ = refl

no_outer : (sort : NodeSort) → not (takes_outer sort && is_own sort) ≡ true
no_outer (AnIdent r.Binding) = refl
no_outer (AnIdent r.Reference) = refl
no_outer (AnIdent r.Word) = refl
no_outer _ = refl

pub own_names : (sort : NodeSort) → is_own sort ≡ true → is_occurrence (names_of_sort sort) ≡ true
own_names (APattern names) own = own
own_names (APatternProperty names) own = own
own_names (ABindingIdent names) own = own
own_names (AnIdent names) own = own
own_names _ own = refl

-- the heads of imports and exports stand in no such sort
pub own_head : (head : Head) (sort : NodeSort) → takes_head head sort ≡ true → is_own sort ≡ true → is_module_head head ≡ false
own_head h.Module sort is own = clash (takes_module sort) (is_own sort) (no_module sort) is own
own_head (h.ImportDecl meta) sort is own = clash (takes_item sort) (is_own sort) (no_item sort) is own
own_head h.ImportNamedSpecifier sort is own = clash (takes_import sort) (is_own sort) (no_import sort) is own
own_head h.ImportDefaultSpecifier sort is own = clash (takes_import sort) (is_own sort) (no_import sort) is own
own_head h.ImportStarAsSpecifier sort is own = clash (takes_import sort) (is_own sort) (no_import sort) is own
own_head h.ExportDecl sort is own = clash (takes_item sort) (is_own sort) (no_item sort) is own
own_head (h.NamedExport meta) sort is own = clash (takes_item sort) (is_own sort) (no_item sort) is own
own_head h.ExportNamespaceSpecifier sort is own = clash (takes_export sort) (is_own sort) (no_export sort) is own
own_head h.ExportNamedSpecifier sort is own = clash (takes_export sort) (is_own sort) (no_export sort) is own
own_head h.ExportDefaultDecl sort is own = clash (takes_item sort) (is_own sort) (no_item sort) is own
own_head h.ExportDefaultExpr sort is own = clash (takes_item sort) (is_own sort) (no_item sort) is own
own_head (h.ExportAll meta) sort is own = clash (takes_item sort) (is_own sort) (no_item sort) is own
own_head _ sort is own = refl

-- what stands in any other node is own, where the names of a pattern occur
own_in : (head : Head) (names : Role) → is_module_head head ≡ false → is_occurrence names ≡ true → each_slot (λ number inner. is_own inner) (slots head names) ≡ true
own_in h.Module names apart occurs = absurd (false≢true (sym apart))
own_in (h.ImportDecl meta) names apart occurs = absurd (false≢true (sym apart))
own_in h.ImportNamedSpecifier names apart occurs = absurd (false≢true (sym apart))
own_in h.ImportDefaultSpecifier names apart occurs = absurd (false≢true (sym apart))
own_in h.ImportStarAsSpecifier names apart occurs = absurd (false≢true (sym apart))
own_in h.ExportDecl names apart occurs = absurd (false≢true (sym apart))
own_in (h.NamedExport meta) names apart occurs = absurd (false≢true (sym apart))
own_in h.ExportNamespaceSpecifier names apart occurs = absurd (false≢true (sym apart))
own_in h.ExportNamedSpecifier names apart occurs = absurd (false≢true (sym apart))
own_in h.ExportDefaultDecl names apart occurs = absurd (false≢true (sym apart))
own_in h.ExportDefaultExpr names apart occurs = absurd (false≢true (sym apart))
own_in (h.ExportAll meta) names apart occurs = absurd (false≢true (sym apart))
own_in h.BindingIdent names apart occurs = and_from _ _ occurs refl
own_in h.ArrayPat names apart occurs = and_from _ _ occurs refl
own_in h.ObjectPat names apart occurs = and_from _ _ occurs refl
own_in h.RestPat names apart occurs = and_from _ _ occurs refl
own_in h.AssignPat names apart occurs = and_from _ _ occurs refl
own_in h.KeyValuePatProp names apart occurs = and_from _ _ occurs refl
own_in h.AssignPatProp names apart occurs = and_from _ _ occurs refl
own_in (h.NewExpr true) names apart occurs = refl
own_in (h.NewExpr false) names apart occurs = refl
own_in _ names apart occurs = refl

pub own_slots : (head : Head) (sort : NodeSort) → takes_head head sort ≡ true → is_own sort ≡ true → each_slot (λ number inner. is_own inner) (slots head (names_of_sort sort)) ≡ true
own_slots head sort is own = own_in head (names_of_sort sort) (own_head head sort is own) (own_names sort own)

abbrev pub own_at : NodeSort → List Around → Bool
own_at sort path = is_own sort

pub steps : SortSteps own_at
steps head begins sort path takes_it own = own_slots head sort takes_it own

pub occurs : (role : Role) (sort : NodeSort) → takes_name role sort ≡ true → is_own sort ≡ true → is_occurrence role ≡ true
occurs r.Word sort is own = clash (takes_outer sort) (is_own sort) (no_outer sort) is own
occurs r.Binding sort is own = refl
occurs r.Reference sort is own = refl

from_seen : (s : Spot) (items : List Item) → AreSeen own_at s items → HasNoWords items
from_seen s [] them = tt
from_seen s (h.Open field head ∷ rest) them = from_seen (past s (h.Open field head)) rest them.1
from_seen s (h.Ident field x ctxt role ∷ rest) them = (occurs role them.0.0 them.0.1 them.0.2, from_seen (past s (h.Ident field x ctxt role)) rest them.1)
from_seen s (h.Hole field ∷ rest) them = from_seen (past s (h.Hole field)) rest them.1
from_seen s (h.Close ∷ rest) them = from_seen (past s h.Close) rest them.1

pub no_words : {list : List NodeSlot} {items : List Item} → AreFit list items → each_slot (λ number sort. is_own sort) list ≡ true → HasNoWords items
no_words {items = items} fit ok = from_seen start items (seen own_at steps fit start ok)

-- ---- rows

-- what stands in a field, and then what stands in those that are left
pub fit : {sort : NodeSort} {field : ℕ} {items : List Item} → IsFit sort field items → (count : NodeCount) (more : List NodeSlot) (rest : List Item) → AreFit (fields_after field count sort more) rest → AreFit (slot field count sort ∷ more) (items ++ rest)
fit (name it) count more rest fits = a_name it fits
fit {sort = s} (node {field = f} {head = hd} {inside = ins} it in_it) count more rest fits = subst (λ l. AreFit (slot f count s ∷ more) (h.Open f hd ∷ l)) (sym (append_assoc ins (h.Close ∷ []) rest)) (a_node it in_it fits)

pub one : {sort : NodeSort} {field : ℕ} {more : List NodeSlot} {items rest : List Item} → IsFit sort field items → AreFit more rest → AreFit (slot field One sort ∷ more) (items ++ rest)
one {more = more} {rest = rest} it fits = fit it One more rest fits

pub last : {sort : NodeSort} {field : ℕ} {items : List Item} → IsFit sort field items → AreFit (slot field One sort ∷ []) items
last {sort = s} {field = f} {items = items} it = subst (AreFit (slot f One s ∷ [])) (append-nil items) (one it no_more)

pub maybe : {sort : NodeSort} {field : ℕ} {more : List NodeSlot} {items rest : List Item} → IsMaybe sort field items → AreFit more rest → AreFit (slot field Optional sort ∷ more) (items ++ rest)
maybe none fits = over refl fits
maybe {more = more} {rest = rest} (some it) fits = fit it Optional more rest fits

pub last_maybe : {sort : NodeSort} {field : ℕ} {items : List Item} → IsMaybe sort field items → AreFit (slot field Optional sort ∷ []) items
last_maybe {sort = s} {field = f} {items = items} it = subst (AreFit (slot f Optional s ∷ [])) (append-nil items) (maybe it no_more)

pub each : {sort : NodeSort} {field : ℕ} {more : List NodeSlot} {items rest : List Item} → AreEach sort field items → AreFit more rest → AreFit (slot field Many sort ∷ more) (items ++ rest)
each ended fits = over refl fits
each {more = more} {rest = rest} (next {sort = s} {field = f} {items = items} {rest = others} it them) fits = subst (AreFit (slot f Many s ∷ more)) (sym (append_assoc items others rest)) (fit it Many more (others ++ rest) (each them fits))

pub last_each : {sort : NodeSort} {field : ℕ} {items : List Item} → AreEach sort field items → AreFit (slot field Many sort ∷ []) items
last_each {sort = s} {field = f} {items = items} them = subst (AreFit (slot f Many s ∷ [])) (append-nil items) (each them no_more)

pub last_places : {sort : NodeSort} {field : ℕ} {items : List Item} → ArePlaces sort field items → AreFit (slot field Places sort ∷ []) items
last_places closed = over refl no_more
last_places (empty them) = a_hole (last_places them)
last_places (held {rest = others} it them) = fit it Places [] others (last_places them)

pub in_node : {sort : NodeSort} {inside : List Item} (field : ℕ) (head : Head) → takes_head head sort ≡ true → AreFit (slots head (names_of_sort sort)) inside → IsFit sort field (h.Open field head ∷ (inside ++ h.Close ∷ []))
in_node field head it in_it = node it in_it

pub alone : {sort : NodeSort} (field : ℕ) (x : List ℕ) (ctxt : ℕ) (role : Role) → takes_name role sort ≡ true → IsFit sort field (h.Ident field x ctxt role ∷ [])
alone field x ctxt role it = name it

-- Wider sorts.

pub so : (a b : Bool) → (not a || b) ≡ true → a ≡ true → b ≡ true
so true b e is = e
so false b e is = absurd (false≢true is)

widen : {sort : NodeSort} {field : ℕ} {items : List Item} (wider : NodeSort) → ((head : Head) → (not (takes_head head sort) || takes_head head wider) ≡ true) → ((role : Role) → (not (takes_name role sort) || takes_name role wider) ≡ true) → ((head : Head) → takes_head head sort ≡ true → slots head (names_of_sort sort) ≡ slots head (names_of_sort wider)) → IsFit sort field items → IsFit wider field items
widen wider heads names same (name {sort = s} {role = role} it) = name (so (takes_name role s) (takes_name role wider) (names role) it)
widen wider heads names same (node {sort = s} {head = hd} {inside = ins} it in_it) = node (so (takes_head hd s) (takes_head hd wider) (heads hd) it) (subst (λ l. AreFit l ins) (same hd it) in_it)

pub as_init : {field : ℕ} {items : List Item} → IsFit AnExpr field items → IsFit AnInit field items
as_init it = widen AnInit heads names (λ head is. refl) it
  where
    heads : (head : Head) → (not (takes_head head AnExpr) || takes_head head AnInit) ≡ true
    heads h.Module = refl
    heads _ = refl

    names : (role : Role) → (not (takes_name role AnExpr) || takes_name role AnInit) ≡ true
    names r.Binding = refl
    names _ = refl

pub as_callee : {field : ℕ} {items : List Item} → IsFit AnExpr field items → IsFit ACallee field items
as_callee it = widen ACallee heads names (λ head is. refl) it
  where
    heads : (head : Head) → (not (takes_head head AnExpr) || takes_head head ACallee) ≡ true
    heads h.Module = refl
    heads _ = refl

    names : (role : Role) → (not (takes_name role AnExpr) || takes_name role ACallee) ≡ true
    names r.Binding = refl
    names _ = refl

pub as_body : {field : ℕ} {items : List Item} → IsFit AnExpr field items → IsFit AnArrowBody field items
as_body it = widen AnArrowBody heads names (λ head is. refl) it
  where
    heads : (head : Head) → (not (takes_head head AnExpr) || takes_head head AnArrowBody) ≡ true
    heads h.Module = refl
    heads _ = refl

    names : (role : Role) → (not (takes_name role AnExpr) || takes_name role AnArrowBody) ≡ true
    names r.Binding = refl
    names _ = refl

pub as_pattern : (role : Role) {field : ℕ} {items : List Item} → IsFit AnExpr field items → IsFit (APattern role) field items
as_pattern role it = widen (APattern role) heads names same it
  where
    heads : (head : Head) → (not (takes_head head AnExpr) || takes_head head (APattern role)) ≡ true
    heads h.Module = refl
    heads _ = refl

    names : (it : Role) → (not (takes_name it AnExpr) || takes_name it (APattern role)) ≡ true
    names r.Binding = refl
    names _ = refl

    same : (head : Head) → takes_head head AnExpr ≡ true → slots head r.Reference ≡ slots head role
    same h.BindingIdent is = absurd (false≢true is)
    same h.ArrayPat is = absurd (false≢true is)
    same h.ObjectPat is = absurd (false≢true is)
    same h.RestPat is = absurd (false≢true is)
    same h.AssignPat is = absurd (false≢true is)
    same h.KeyValuePatProp is = absurd (false≢true is)
    same h.AssignPatProp is = absurd (false≢true is)
    same (h.NewExpr true) is = refl
    same (h.NewExpr false) is = refl
    same _ is = refl

pub as_loop_head : {field : ℕ} {items : List Item} → IsFit (APattern r.Reference) field items → IsFit ALoopHead field items
as_loop_head it = widen ALoopHead heads names (λ head is. refl) it
  where
    heads : (head : Head) → (not (takes_head head (APattern r.Reference)) || takes_head head ALoopHead) ≡ true
    heads h.Module = refl
    heads _ = refl

    names : (role : Role) → (not (takes_name role (APattern r.Reference)) || takes_name role ALoopHead) ≡ true
    names r.Binding = refl
    names _ = refl

pub as_stmt : {field : ℕ} {items : List Item} → IsFit ADecl field items → IsFit AStmt field items
as_stmt it = widen AStmt heads names (λ head is. refl) it
  where
    heads : (head : Head) → (not (takes_head head ADecl) || takes_head head AStmt) ≡ true
    heads h.Module = refl
    heads _ = refl

    names : (role : Role) → (not (takes_name role ADecl) || takes_name role AStmt) ≡ true
    names r.Binding = refl
    names _ = refl

pub as_item : {field : ℕ} {items : List Item} → IsFit AStmt field items → IsFit AnItem field items
as_item it = widen AnItem heads names (λ head is. refl) it
  where
    heads : (head : Head) → (not (takes_head head AStmt) || takes_head head AnItem) ≡ true
    heads h.Module = refl
    heads _ = refl

    names : (role : Role) → (not (takes_name role AStmt) || takes_name role AnItem) ≡ true
    names r.Binding = refl
    names _ = refl
