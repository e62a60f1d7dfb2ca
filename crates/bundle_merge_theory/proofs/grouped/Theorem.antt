-- Theorem of this folder (`tidied-correspond`, `tidied-good_order`): items and the same items
-- without notes, and without contexts of plain words, correspond by symbol and context, so an
-- order that is good for the ones is good for the others.
-- Used by folder `finished` of `bundle_merge_theory`.
use Rattle.std.proofs.Common.{◌≡◌, ◌↔◌, ℕ, zero, suc, ◌+◌, ◌&&◌, Bool, true, false, cond, List, [], ◌∷◌, Option, Some, None, codes, map, length, take, slice_get, option_map, option_and_then, refl, sym, ap, ◌∙◌, subst}
use Rattle.std.specs.Prelude.{fold}
use Rattle.std.specs.List.{AllZip, cons_option}
use Rattle.std.proofs.lemmas.Option.{same_Some, slice_get-map}
use Rattle.bundle_syntax.specs.declared.kind.VarDeclKind.{VarDeclKind}
use Rattle.bundle_syntax.specs.declared.kind.VarDeclKind.TheVariants as v
use Rattle.bundle_syntax.specs.declared.piece.Role.{Role}
use Rattle.bundle_syntax.specs.declared.piece.Role.TheVariants as r
use Rattle.bundle_syntax.specs.Item as h
use Rattle.bundle_syntax.specs.Item.{Item, Head}
use Rattle.bundle_rules.specs.Places.{Around, Spot, past, start, spot_before, in_field, Occurrence, occurrence_of, occurrence_at, occurrences_from, occurrences, is_binding}
use Rattle.bundle_rules.specs.Scopes.{Es, Top}
use Rattle.bundle_rules.specs.Declarations.{ByContext, ByLoop, ByLet, ByConst, ByFunction, ByFunctionName, ByClass, ByClassName, way_of, way_in, way_of_declarator, way_of_variable, way_of_kind, heads_loop, is_loop_head, is_pattern, name_of, Declared, declared_by, declaration_of, is_nameless_default, nameless_default, declared_at, declared_from, declared}
use Rattle.bundle_rules.specs.Denotes.{Denoted, denoted_in, own_or_found, denoted_of, denoted_at}
use Rattle.bundle_rules.specs.Nodes.{node_at, put_first, side_by_side, parts}
use Rattle.bundle_rules.specs.Nodes as n
use Rattle.bundle_rules.specs.Reads.{property_of}
use Rattle.bundle_rules.specs.Statements.{TopItem, placed, top_items}
use Rattle.bundle_rules.specs.Cleared.{cleared_item, cleared, tidy_item, tidied}
use Rattle.bundle_rules.specs.Order as order
use Rattle.bundle_rules.specs.Order.{IsGoodOrder, group_of, is_nothing, is_object_at, is_global_named, is_of_nothing}
use Rattle.bundle_rules.proofs.HeadLemmas.{of_head}
use Rattle.bundle_rules.proofs.PathLemmas.{cleared_path, cleared_spot, past-cleared}
use Rattle.bundle_rules.proofs.DenotesLemmas.{is_default-cleared, scopes_around-cleared}
use Rattle.bundle_order.proofs.RenumberLemmas.{zip-at}
use Rattle.bundle_merge_theory.proofs.walked.Clearing.{twice}
use Rattle.bundle_merge_theory.specs.grouped.Standing.{SameFlags, object_in, ItemsAlike, StandsInItem, Correspond}
use Rattle.bundle_merge_theory.specs.grouped.Renaming.{AtOne}
use Rattle.bundle_merge_theory.proofs.grouped.AlikeLemmas.{owners-refl, good_order-corresponds}
use Rattle.bundle_merge_theory.proofs.grouped.ClearedLemmas.{property_at, nothing_at, flags-noted, zip-same}
use Rattle.bundle_scope_names.proofs.TreeLemmas.{cons_option-map}

-- ---- it is the same when cleared
pub item-twice : (x : Item) → cleared_item (tidy_item x) ≡ cleared_item x
item-twice (h.Open field head) = λ i. h.Open field (twice head i)
item-twice (h.Ident field x ctxt r.Word) = refl
item-twice (h.Ident field x ctxt r.Binding) = refl
item-twice (h.Ident field x ctxt r.Reference) = refl
item-twice (h.Hole field) = refl
item-twice h.Close = refl

pub cleared-tidied : (tree : List Item) → cleared (tidied tree) ≡ cleared tree
cleared-tidied [] = refl
cleared-tidied (x ∷ rest) = λ i. item-twice x i ∷ cleared-tidied rest i

property-tidied : (items : List Item) (place : ℕ) →
    property_of (node_at (tidied items) place) ≡ property_of (node_at items place)
property-tidied items place =
    sym (property_at (tidied items) place)
    ∙ (ap (λ (l : List Item). property_of (node_at l place)) (cleared-tidied items)
    ∙ property_at items place)

nothing-tidied : (items : List Item) (place : ℕ) →
    is_nothing (n.in_field 1 (node_at (tidied items) place))
    ≡ is_nothing (n.in_field 1 (node_at items place))
nothing-tidied items place =
    sym (nothing_at (tidied items) place)
    ∙ (ap (λ (l : List Item). is_nothing (n.in_field 1 (node_at l place))) (cleared-tidied items)
    ∙ nothing_at items place)

-- ---- identifiers
abbrev tidy_occurrence : Occurrence → Occurrence
tidy_occurrence o =
    record {
      place = o.place;
      sym = o.sym;
      ctxt = o.ctxt;
      role = o.role;
      path = cleared_path o.path;
    }

field-cleared : (field : ℕ) (path : List Around) →
    in_field field (cleared_path path) ≡ cleared_path (in_field field path)
field-cleared field [] = refl
field-cleared field (node ∷ outer) = refl

past-tidied : (spot : Spot) (x : Item) →
    past (cleared_spot spot) (tidy_item x) ≡ cleared_spot (past spot x)
past-tidied spot (h.Open field head) = past-cleared spot (h.Open field head)
past-tidied spot (h.Ident field x ctxt r.Word) = refl
past-tidied spot (h.Ident field x ctxt r.Binding) = refl
past-tidied spot (h.Ident field x ctxt r.Reference) = refl
past-tidied spot (h.Hole field) = refl
past-tidied spot h.Close = past-cleared spot h.Close

occurrence-tidied : (spot : Spot) (x : Item) →
    occurrence_of (cleared_spot spot) (tidy_item x)
    ≡ option_map tidy_occurrence (occurrence_of spot x)
occurrence-tidied spot (h.Open field head) = refl
occurrence-tidied spot (h.Ident field x ctxt r.Word) = refl
occurrence-tidied spot (h.Ident field x ctxt r.Binding) =
    λ i. Some (record {
      place = spot.place;
      sym = x;
      ctxt = ctxt;
      role = r.Binding;
      path = field-cleared field spot.path i;
    })
occurrence-tidied spot (h.Ident field x ctxt r.Reference) =
    λ i. Some (record {
      place = spot.place;
      sym = x;
      ctxt = ctxt;
      role = r.Reference;
      path = field-cleared field spot.path i;
    })
occurrence-tidied spot (h.Hole field) = refl
occurrence-tidied spot h.Close = refl

from-tidied : (spot : Spot) (items : List Item) →
    occurrences_from (cleared_spot spot) (tidied items)
    ≡ map tidy_occurrence (occurrences_from spot items)
from-tidied spot [] = refl
from-tidied spot (x ∷ items) =
    (λ i. cons_option (occurrence-tidied spot x i)
    (occurrences_from (past-tidied spot x i) (tidied items)))
    ∙ (ap (cons_option (option_map tidy_occurrence (occurrence_of spot x)))
    (from-tidied (past spot x) items)
    ∙ cons_option-map tidy_occurrence (occurrence_of spot x)
    (occurrences_from (past spot x) items))

occurrences-tidied : (items : List Item) →
    occurrences (tidied items) ≡ map tidy_occurrence (occurrences items)
occurrences-tidied items = from-tidied start items

take-tidied : (k : ℕ) (items : List Item) → take k (tidied items) ≡ tidied (take k items)
take-tidied zero items = refl
take-tidied (suc k) [] = refl
take-tidied (suc k) (x ∷ items) = λ i. tidy_item x ∷ take-tidied k items i

get-tidied : (items : List Item) (place : ℕ) →
    slice_get (tidied items) place ≡ option_map tidy_item (slice_get items place)
get-tidied [] place = refl
get-tidied (x ∷ items) zero = refl
get-tidied (x ∷ items) (suc place) = get-tidied items place

behind-tidied : (spot : Spot) (items : List Item) →
    fold past (cleared_spot spot) (tidied items) ≡ cleared_spot (fold past spot items)
behind-tidied spot [] = refl
behind-tidied spot (x ∷ items) =
    (λ i. fold past (past-tidied spot x i) (tidied items)) ∙ behind-tidied (past spot x) items

option-tidied : (spot : Spot) (x : Option Item) →
    option_and_then (occurrence_of (cleared_spot spot)) (option_map tidy_item x)
    ≡ option_map tidy_occurrence (option_and_then (occurrence_of spot) x)
option-tidied spot None = refl
option-tidied spot (Some x) = occurrence-tidied spot x

at-tidied : (items : List Item) (place : ℕ) →
    occurrence_at (tidied items) place ≡ option_map tidy_occurrence (occurrence_at items place)
at-tidied items place =
    (λ i. option_and_then
    (occurrence_of ((ap (fold past start) (take-tidied place items)
    ∙ behind-tidied start (take place items)) i)) (get-tidied items place i))
    ∙ option-tidied (spot_before items place) (slice_get items place)

-- ---- how they are declared
loop-noted : (path : List Around) → heads_loop (cleared_path path) ≡ heads_loop path
loop-noted [] = refl
loop-noted (node ∷ outer) =
    of_head (λ it. is_loop_head it node.field) (λ meta. (refl, refl, refl, λ kind. refl)) node.head

kind-noted : (kind : VarDeclKind) (outer : List Around) →
    way_of_kind kind (cleared_path outer) ≡ way_of_kind kind outer
kind-noted v.Var outer = refl
kind-noted v.Let outer = λ i. cond (loop-noted outer i) ByLoop ByLet
kind-noted v.Const outer = λ i. cond (loop-noted outer i) ByLoop ByConst

variable-noted : (head : Head) (outer : List Around) →
    way_of_variable head (cleared_path outer) ≡ way_of_variable head outer
variable-noted (h.VarDecl kind meta) outer = λ i. Some (kind-noted kind outer i)
variable-noted _ outer = refl

declarator-noted : (path : List Around) →
    way_of_declarator (cleared_path path) ≡ way_of_declarator path
declarator-noted [] = refl
declarator-noted (node ∷ outer) =
    of_head (λ it. way_of_variable it (cleared_path outer))
    (λ meta. (refl, refl, refl, λ kind. refl)) node.head
    ∙ variable-noted node.head outer

in-noted : (head : Head) (outer : List Around) →
    way_in head (cleared_path outer) ≡ way_in head outer
in-noted h.VarDeclarator outer = declarator-noted outer
in-noted h.FnExpr outer = λ i. Some (cond (is_default-cleared outer i) ByFunction ByFunctionName)
in-noted h.ClassExpr outer = λ i. Some (cond (is_default-cleared outer i) ByClass ByClassName)
in-noted _ outer = refl

way-noted : (path : List Around) → way_of (cleared_path path) ≡ way_of path
way-noted [] = refl
way-noted (node ∷ outer) =
    λ i. cond (of_head is_pattern (λ meta. (refl, refl, refl, λ kind. refl)) node.head i)
    (way-noted outer i)
    ((of_head (λ it. way_in it (cleared_path outer)) (λ meta. (refl, refl, refl, λ kind. refl))
    node.head ∙ in-noted node.head outer) i)

declaration-tidied : (o : Occurrence) →
    declaration_of ByContext Es (tidy_occurrence o) ≡ declaration_of ByContext Es o
declaration-tidied o =
    λ i. cond (is_binding o.role)
    (declared_by o.place (name_of ByContext o.sym o.ctxt) (scopes_around-cleared Es o.path i)
    (way-noted o.path i)) None

option-declares : (o : Option Occurrence) →
    option_and_then (declaration_of ByContext Es) (option_map tidy_occurrence o)
    ≡ option_and_then (declaration_of ByContext Es) o
option-declares None = refl
option-declares (Some o) = declaration-tidied o

-- whether elements begin with a node and a name in it
abbrev starts_named : List Item → Bool
starts_named (h.Open inner head ∷ h.Ident first x ctxt role ∷ rest) = true
starts_named _ = false

abbrev not_named : Bool → Bool
not_named true = false
not_named false = true

nameless-by : (field : ℕ) (rest : List Item) →
    is_nameless_default (h.Open field h.ExportDefaultDecl) rest ≡ not_named (starts_named rest)
nameless-by field [] = refl
nameless-by field (h.Ident a b c d ∷ rest) = refl
nameless-by field (h.Hole a ∷ rest) = refl
nameless-by field (h.Close ∷ rest) = refl
nameless-by field (h.Open a b ∷ []) = refl
nameless-by field (h.Open a b ∷ h.Ident c d e f ∷ rest) = refl
nameless-by field (h.Open a b ∷ h.Open c d ∷ rest) = refl
nameless-by field (h.Open a b ∷ h.Hole c ∷ rest) = refl
nameless-by field (h.Open a b ∷ h.Close ∷ rest) = refl

starts-tidied : (rest : List Item) → starts_named (tidied rest) ≡ starts_named rest
starts-tidied [] = refl
starts-tidied (h.Ident a b c r.Word ∷ rest) = refl
starts-tidied (h.Ident a b c r.Binding ∷ rest) = refl
starts-tidied (h.Ident a b c r.Reference ∷ rest) = refl
starts-tidied (h.Hole a ∷ rest) = refl
starts-tidied (h.Close ∷ rest) = refl
starts-tidied (h.Open a b ∷ []) = refl
starts-tidied (h.Open a b ∷ h.Ident c d e r.Word ∷ rest) = refl
starts-tidied (h.Open a b ∷ h.Ident c d e r.Binding ∷ rest) = refl
starts-tidied (h.Open a b ∷ h.Ident c d e r.Reference ∷ rest) = refl
starts-tidied (h.Open a b ∷ h.Open c d ∷ rest) = refl
starts-tidied (h.Open a b ∷ h.Hole c ∷ rest) = refl
starts-tidied (h.Open a b ∷ h.Close ∷ rest) = refl

nameless-tidied : (x : Item) (rest : List Item) →
    is_nameless_default (tidy_item x) (tidied rest) ≡ is_nameless_default x rest
nameless-tidied (h.Open field h.ExportDefaultDecl) rest =
    nameless-by field (tidied rest)
    ∙ (ap not_named (starts-tidied rest) ∙ sym (nameless-by field rest))
nameless-tidied (h.Open field head) rest = refl
nameless-tidied (h.Ident field x ctxt r.Word) rest = refl
nameless-tidied (h.Ident field x ctxt r.Binding) rest = refl
nameless-tidied (h.Ident field x ctxt r.Reference) rest = refl
nameless-tidied (h.Hole field) rest = refl
nameless-tidied h.Close rest = refl

declared-tidied : (spot : Spot) (items : List Item) →
    declared_from ByContext Es (cleared_spot spot) (tidied items)
    ≡ declared_from ByContext Es spot items
declared-tidied spot [] = refl
declared-tidied spot (x ∷ items) =
    (λ i. cons_option (cond (nameless-tidied x items i) (Some (nameless_default Es spot.place))
    ((ap (option_and_then (declaration_of ByContext Es)) (occurrence-tidied spot x)
    ∙ option-declares (occurrence_of spot x)) i))
    (declared_from ByContext Es (past-tidied spot x i) (tidied items)))
    ∙ ap (cons_option (declared_at ByContext Es spot x items))
    (declared-tidied (past spot x) items)

-- ---- what they denote
denoted_of-tidied : (all : List Declared) (o : Occurrence) →
    denoted_of ByContext Es all (tidy_occurrence o) ≡ denoted_of ByContext Es all o
denoted_of-tidied all o =
    λ i. own_or_found all
    (denoted_in ByContext all (scopes_around-cleared Es o.path i)
    (name_of ByContext o.sym o.ctxt)) (declaration-tidied o i)

option-denotes : (all : List Declared) (o : Option Occurrence) →
    option_map (denoted_of ByContext Es all) (option_map tidy_occurrence o)
    ≡ option_map (denoted_of ByContext Es all) o
option-denotes all None = refl
option-denotes all (Some o) = ap (λ (d : Denoted). Some d) (denoted_of-tidied all o)

pub denoted-tidied : (tree : List Item) (place : ℕ) →
    denoted_at ByContext Es (tidied tree) place ≡ denoted_at ByContext Es tree place
denoted-tidied tree place =
    (λ i. option_map (denoted_of ByContext Es (declared-tidied start tree i))
    (at-tidied tree place i))
    ∙ option-denotes (declared ByContext Es tree) (occurrence_at tree place)

nothing-bound : (o : Option Occurrence) →
    is_of_nothing ByContext (option_map tidy_occurrence o) ≡ is_of_nothing ByContext o
nothing-bound None = refl
nothing-bound (Some o) = refl

object-tidied : (tree : List Item) (place : ℕ) →
    is_object_at ByContext (tidied tree) place ≡ is_object_at ByContext tree place
object-tidied tree place =
    λ i. is_global_named (codes "Object") (denoted-tidied tree place i)
    && (ap (is_of_nothing ByContext) (at-tidied tree place)
    ∙ nothing-bound (occurrence_at tree place)) i

-- ---- items
first-tidied : (x : Item) (nodes : List (List Item)) →
    put_first (tidy_item x) (map tidied nodes) ≡ map tidied (put_first x nodes)
first-tidied x [] = refl
first-tidied x (node ∷ more) = refl

ident-tidied : (field : ℕ) (x : List ℕ) (ctxt : ℕ) (role : Role) →
    (c : ℕ) × (tidy_item (h.Ident field x ctxt role) ≡ h.Ident field x c role)
ident-tidied field x ctxt r.Word = (0, refl)
ident-tidied field x ctxt r.Binding = (ctxt, refl)
ident-tidied field x ctxt r.Reference = (ctxt, refl)

sides-tidied : (depth : ℕ) (items : List Item) →
    side_by_side depth (tidied items) ≡ map tidied (side_by_side depth items)
sides-tidied depth [] = refl
sides-tidied depth (h.Open field head ∷ rest) =
    ap (put_first (tidy_item (h.Open field head))) (sides-tidied (suc depth) rest)
    ∙ first-tidied (h.Open field head) (side_by_side (suc depth) rest)
sides-tidied zero (h.Ident field x ctxt role ∷ rest) =
    let is = ident-tidied field x ctxt role in
    ap (λ (y : Item). side_by_side zero (y ∷ tidied rest)) is.1
    ∙ (ap (λ (l : List (List Item)). (h.Ident field x is.0 role ∷ []) ∷ l) (sides-tidied zero rest)
    ∙ ap (λ (y : Item). (y ∷ []) ∷ map tidied (side_by_side zero rest)) (sym is.1))
sides-tidied (suc depth) (h.Ident field x ctxt role ∷ rest) =
    let is = ident-tidied field x ctxt role in
    ap (λ (y : Item). side_by_side (suc depth) (y ∷ tidied rest)) is.1
    ∙ (ap (put_first (h.Ident field x is.0 role)) (sides-tidied (suc depth) rest)
    ∙ (ap (λ (y : Item). put_first y (map tidied (side_by_side (suc depth) rest))) (sym is.1)
    ∙ first-tidied (h.Ident field x ctxt role) (side_by_side (suc depth) rest)))
sides-tidied zero (h.Hole field ∷ rest) =
    ap (λ (l : List (List Item)). (h.Hole field ∷ []) ∷ l) (sides-tidied zero rest)
sides-tidied (suc depth) (h.Hole field ∷ rest) =
    ap (put_first (h.Hole field)) (sides-tidied (suc depth) rest)
    ∙ first-tidied (h.Hole field) (side_by_side (suc depth) rest)
sides-tidied zero (h.Close ∷ rest) = refl
sides-tidied (suc zero) (h.Close ∷ rest) =
    ap (λ (l : List (List Item)). (h.Close ∷ []) ∷ l) (sides-tidied zero rest)
sides-tidied (suc (suc depth)) (h.Close ∷ rest) =
    ap (put_first h.Close) (sides-tidied (suc depth) rest)
    ∙ first-tidied h.Close (side_by_side (suc depth) rest)

parts-tidied : (node : List Item) → parts (tidied node) ≡ map tidied (parts node)
parts-tidied [] = refl
parts-tidied (first ∷ inside) = sides-tidied zero inside

abbrev tidied_top : TopItem → TopItem
tidied_top item = record { start = item.start; items = tidied item.items }

length-tidied : (items : List Item) → length (tidied items) ≡ length items
length-tidied [] = refl
length-tidied (x ∷ items) = ap (λ k. suc k) (length-tidied items)

placed-tidied : (start : ℕ) (nodes : List (List Item)) →
    placed start (map tidied nodes) ≡ map tidied_top (placed start nodes)
placed-tidied from [] = refl
placed-tidied from (node ∷ more) =
    λ i. record { start = from; items = tidied node }
    ∷ (ap (λ k. placed (from + k) (map tidied more)) (length-tidied node)
    ∙ placed-tidied (from + length node) more) i

at_one-tidied : (tree : List Item) (item its : TopItem) → AtOne tree (tidied tree) item its →
    its ≡ tidied_top item
at_one-tidied tree item its one =
    same_Some its (tidied_top item) (sym one.there
    ∙ (ap (λ l. slice_get l one.at) (ap (placed 1) (parts-tidied tree)
    ∙ placed-tidied 1 (parts tree))
    ∙ (slice_get-map tidied_top (top_items tree) one.at
    ∙ ap (λ (o : Option TopItem). option_map tidied_top o) one.here)))

item-tidied : (tree : List Item) (item : TopItem) →
    ItemsAlike ByContext tree ByContext (tidied tree) item (tidied_top item)
item-tidied tree item =
    let R : Occurrence → Occurrence →
    Type 0 = SameFlags item.items (tidied item.items) (object_in ByContext tree item)
    (object_in ByContext (tidied tree) (tidied_top item)) in
    subst (λ l. AllZip R (occurrences item.items) l) (sym (occurrences-tidied item.items))
    (zip-same R tidy_occurrence
    (λ o. flags-noted item.items (tidied item.items) (property-tidied item.items)
    (nothing-tidied item.items) (object_in ByContext tree item)
    (object_in ByContext (tidied tree) (tidied_top item))
    (λ place. object-tidied tree (item.start + place)) o (tidy_occurrence o) refl refl)
    (occurrences item.items))

items-tidied : (tree : List Item) (items its : List TopItem) →
    AllZip (AtOne tree (tidied tree)) items its →
    AllZip (ItemsAlike ByContext tree ByContext (tidied tree)) items its
items-tidied tree [] [] zip = tt
items-tidied tree [] (y ∷ its) zip = absurd zip
items-tidied tree (x ∷ items) [] zip = absurd zip
items-tidied tree (x ∷ items) (y ∷ its) zip = (
  subst (λ (z : TopItem). ItemsAlike ByContext tree ByContext (tidied tree) x z)
      (sym (at_one-tidied tree x y zip.0)) (item-tidied tree x),
  items-tidied tree items its zip.1,
)

module _ (tree : List Item) (items its : List TopItem)
    (zip : AllZip (AtOne tree (tidied tree)) items its) where
  denoted-same : (s i : ℕ) (x x' : TopItem) (o o' : Occurrence) → StandsInItem items s i x o →
      StandsInItem its s i x' o' →
      order.denoted_in ByContext (tidied tree) x' o' ≡ order.denoted_in ByContext tree x o
  denoted-same s i x x' o o' at at' =
      let found = zip-at (AtOne tree (tidied tree)) items its s x zip at.item_there in
      let is : x' ≡ tidied_top x = same_Some x' found.0 (sym at'.item_there ∙ found.1)
      ∙ at_one-tidied tree x found.0 found.2 in
      let name : o' ≡ tidy_occurrence o = same_Some o' (tidy_occurrence o) (sym at'.there
      ∙ (ap (λ (y : TopItem). slice_get (occurrences y.items) i) is
      ∙ (ap (λ l. slice_get l i) (occurrences-tidied x.items)
      ∙ (slice_get-map tidy_occurrence (occurrences x.items) i
      ∙ ap (λ (q : Option Occurrence). option_map tidy_occurrence q) at.there)))) in
      ap (λ (y : TopItem). denoted_at ByContext Es (tidied tree) (y.start + o'.place)) is
      ∙ (ap (λ (q : Occurrence). denoted_at ByContext Es (tidied tree) (x.start + q.place)) name
      ∙ denoted-tidied tree (x.start + o.place))

  pub tidied-correspond : Correspond ByContext Top tree items ByContext Top (tidied tree) its
  tidied-correspond = record {
    alike = items-tidied tree items its zip;
    tops = λ s i t j x y x' y' o p o' p' at_o at_p at_o' at_p' binds.
        let one = denoted-same s i x x' o o' at_o at_o' in
        let two = denoted-same t j y y' p p' at_p at_p' in (
          λ both. record {
            one = both.one;
            two = both.two;
            first = one ∙ both.first;
            second = two
                ∙ both.second;
            of_top = both.of_top;
            same = both.same;
          },
          λ both. record {
            one = both.one;
            two = both.two;
            first = sym one ∙ both.first;
            second = sym two ∙ both.second;
            of_top = both.of_top;
            same = both.same;
          },
        );
  }

  -- TIDIED: an order is good exactly if it is when notes are taken off
  pub tidied-good_order : (owners : List (Option ℕ)) (order : List ℕ) →
      IsGoodOrder (group_of ByContext Top tree items owners) order
      ↔ IsGoodOrder (group_of ByContext Top (tidied tree) its owners) order
  tidied-good_order owners order =
      good_order-corresponds ByContext Top tree items ByContext Top (tidied tree) its owners owners
      (owners-refl owners) tidied-correspond order
