-- The fields in which nodes stand: which of them a node or a name takes, and which are left behind it.
use Rattle.std.proofs.Common.{◌≡◌, ℕ, Bool, true, false, cond, ◌&&◌, List, [], ◌∷◌, ◌++◌, append_assoc, append-nil, Some, refl, ap, sym, ◌∙◌, subst}
use Rattle.std.proofs.lemmas.Bool.{false≢true}
use Rattle.bundle_syntax.specs.declared.piece.Role.{Role}
use Rattle.bundle_syntax.specs.Item as h
use Rattle.bundle_syntax.specs.Item.{Item, Head}
use Rattle.bundle_tree_places.specs.Edits.{node}
use Rattle.bundle_tree_parse.specs.Sorts.{Sort, Count, One, Many, Places, Slot, slot, Holding, Refused, Fields, Exports, takes, names_in, fields, holds, name_of}
use Rattle.bundle_tree_parse.specs.Parse.{export_slots}
use Rattle.bundle_tree_parse.specs.Standing.{is_needed, after, has_number, AreIn, no_more, over, a_name, a_hole, a_node, an_export_list, IsIn, name, export_list, AreEach, ended, next}
use Rattle.bundle_tree_parse.specs.Standing as g
use Rattle.bundle_tree_parse.proofs.Sources.{source_is}
use Rattle.bundle_tree_rewrite.proofs.grammar.Balance.{AreWhole, same_inside, same_behind, fields_whole}

-- Tests.

pub right_true : (a b : Bool) → (a && b) ≡ true → b ≡ true
right_true true b e = e
right_true false b e = absurd (false≢true e)

pub left_true : (a b : Bool) → (a && b) ≡ true → a ≡ true
left_true true b e = refl
left_true false b e = absurd (false≢true e)

pub both_true : (a b : Bool) → a ≡ true → b ≡ true → (a && b) ≡ true
both_true true b one two = two
both_true false b one two = absurd (false≢true one)

-- What stands in a node.

-- its fields, where of an export list it is known whether it has a source
abbrev pub slots_of : Bool → Holding → List Slot
slots_of source Refused = []
slots_of source (Fields all) = all
slots_of source Exports = export_slots source

abbrev pub is_refused : Holding → Bool
is_refused Refused = true
is_refused _ = false

-- where that sort is a node of such a head may stand, with this in it
pub record MayHold (sort : Sort) (head : Head) (inside : List Item) : Type 0 where
  pub source : Bool
  pub takes_it : takes sort head ≡ true
  pub is_held : is_refused (fields (names_in sort) head) ≡ false
  pub them : AreIn (slots_of source (fields (names_in sort) head)) inside

is_taken : (b : Bool) (kept : Holding) → is_refused (cond b kept Refused) ≡ false → b ≡ true
is_taken true kept e = refl
is_taken false kept e = absurd (false≢true (sym e))

-- what is not refused is what the node's fields are
pub held_fields : (sort : Sort) (head : Head) (kept : Holding) → is_refused kept ≡ false → holds sort head ≡ kept → fields (names_in sort) head ≡ kept
held_fields sort head kept held e = sym (ap (λ b. cond b (fields (names_in sort) head) Refused) (is_taken (takes sort head) (fields (names_in sort) head) (ap is_refused e ∙ held))) ∙ e

pub from_holding : {sort : Sort} {head : Head} {inside : List Item} (source : Bool) (kept : Holding) → is_refused kept ≡ false → holds sort head ≡ kept → AreIn (slots_of source kept) inside → MayHold sort head inside
from_holding {sort = sort} {head = head} {inside = inside} source kept held e them =
    let same : fields (names_in sort) head ≡ kept = held_fields sort head kept held e in
    record {
      source = source;
      takes_it = is_taken (takes sort head) (fields (names_in sort) head) (ap is_refused e ∙ held);
      is_held = ap is_refused same ∙ held;
      them = subst (λ those. AreIn (slots_of source those) inside) (sym same) them;
    }

holds_it : (sort : Sort) (head : Head) → takes sort head ≡ true → holds sort head ≡ fields (names_in sort) head
holds_it sort head taken = ap (λ b. cond b (fields (names_in sort) head) Refused) taken

stands_before : {sort : Sort} {head : Head} {inside rest : List Item} {more : List Slot} (field : ℕ) (count : Count) (source : Bool) (kept : Holding) → is_refused kept ≡ false → holds sort head ≡ kept → AreIn (slots_of source kept) inside → AreIn (after field count sort more) rest → AreIn (slot field count sort ∷ more) (h.Open field head ∷ (inside ++ h.Close ∷ rest))
stands_before field count source Refused held e within them = absurd (false≢true (sym held))
stands_before field count source (Fields all) held e within them = a_node e within them
stands_before field count source Exports held e within them = an_export_list e (source_is source within) within them

-- such a node, and behind it what stands in the fields that are left
pub hold_first : {sort : Sort} {head : Head} {inside : List Item} → MayHold sort head inside → (field : ℕ) (count : Count) (more : List Slot) (rest : List Item) → AreIn (after field count sort more) rest → AreIn (slot field count sort ∷ more) (node field head inside ++ rest)
hold_first {sort = sort} {head = head} {inside = inside} held field count more rest them =
    subst (λ items. AreIn (slot field count sort ∷ more) (h.Open field head ∷ items)) (sym (append_assoc inside (h.Close ∷ []) rest))
    (stands_before field count held.source (fields (names_in sort) head) held.is_held (holds_it sort head held.takes_it) held.them them)

-- such a node alone
pub hold_alone : {sort : Sort} {inside : List Item} (field : ℕ) (head : Head) → MayHold sort head inside → AreIn (slot field One sort ∷ []) (node field head inside)
hold_alone {sort = sort} {inside = inside} field head held = subst (AreIn (slot field One sort ∷ [])) (append-nil (node field head inside)) (hold_first held field One [] [] no_more)

-- Reaching a field.

-- of these fields that one comes next, and none before it has to hold something
pub data Reaches : List Slot → ℕ → Count → Sort → List Slot → Type 0 where
  here : {number : ℕ} {count : Count} {sort : Sort} {more : List Slot} → Reaches (slot number count sort ∷ more) number count sort more
  later : {number at : ℕ} {count other : Count} {sort unused : Sort} {more behind : List Slot} → is_needed other ≡ false → has_number at behind ≡ false → Reaches behind number count sort more → Reaches (slot at other unused ∷ behind) number count sort more

pub reach : {slots more : List Slot} {number : ℕ} {count : Count} {sort : Sort} {items : List Item} → Reaches slots number count sort more → AreIn (slot number count sort ∷ more) items → AreIn slots items
reach here them = them
reach (later needed free further) them = over needed free (reach further them)

-- where a name stands, an empty place, and a node with this in it
pub record NameAt (slots : List Slot) (field : ℕ) (role : Role) (tail : List Item) : Type 0 where
  pub count : Count
  pub sort : Sort
  pub more : List Slot
  pub by : Reaches slots field count sort more
  pub is : name_of sort ≡ Some role
  pub behind : AreIn (after field count sort more) tail

pub record HoleAt (slots : List Slot) (field : ℕ) (tail : List Item) : Type 0 where
  pub sort : Sort
  pub more : List Slot
  pub by : Reaches slots field Places sort more
  pub behind : AreIn (slot field Places sort ∷ more) tail

pub record NodeAt (slots : List Slot) (field : ℕ) (head : Head) (inside tail : List Item) : Type 0 where
  pub count : Count
  pub sort : Sort
  pub more : List Slot
  pub by : Reaches slots field count sort more
  pub held : MayHold sort head inside
  pub behind : AreIn (after field count sort more) tail

pub name_at : {slots : List Slot} {field : ℕ} {x : List ℕ} {ctxt : ℕ} {role : Role} {tail : List Item} → AreIn slots (h.Ident field x ctxt role ∷ tail) → NameAt slots field role tail
name_at (over needed free them) =
    let it = name_at them in
    record { count = it.count; sort = it.sort; more = it.more; by = later needed free it.by; is = it.is; behind = it.behind }
name_at (a_name {count = count} {sort = sort} {more = more} is them) = record { count = count; sort = sort; more = more; by = here; is = is; behind = them }

pub hole_at : {slots : List Slot} {field : ℕ} {tail : List Item} → AreIn slots (h.Hole field ∷ tail) → HoleAt slots field tail
hole_at (over needed free them) =
    let it = hole_at them in
    record { sort = it.sort; more = it.more; by = later needed free it.by; behind = it.behind }
hole_at (a_hole {sort = sort} {more = more} them) = record { sort = sort; more = more; by = here; behind = them }

-- a node that begins here, with what is in it and behind it
data Begun (slots : List Slot) (field : ℕ) (head : Head) : List Item → Type 0 where
  begun : {inside tail : List Item} → NodeAt slots field head inside tail → Begun slots field head (inside ++ h.Close ∷ tail)

begun_later : {at : ℕ} {other : Count} {unused : Sort} {behind : List Slot} {field : ℕ} {head : Head} {rest : List Item} → is_needed other ≡ false → has_number at behind ≡ false → Begun behind field head rest → Begun (slot at other unused ∷ behind) field head rest
begun_later needed free (begun it) = begun (record { count = it.count; sort = it.sort; more = it.more; by = later needed free it.by; held = it.held; behind = it.behind })

begins : {slots : List Slot} {field : ℕ} {head : Head} {rest : List Item} → AreIn slots (h.Open field head ∷ rest) → Begun slots field head rest
begins (over needed free them) = begun_later needed free (begins them)
begins (a_node {count = count} {sort = sort} {more = more} {all = all} is within them) = begun (record { count = count; sort = sort; more = more; by = here; held = from_holding false (Fields all) refl is within; behind = them })
begins (an_export_list {count = count} {sort = sort} {more = more} {source = source} is ends within them) = begun (record { count = count; sort = sort; more = more; by = here; held = from_holding source Exports refl is within; behind = them })

settled : {slots : List Slot} {field : ℕ} {head : Head} {rest inside : List Item} (tail : List Item) → AreWhole inside → Begun slots field head rest → rest ≡ inside ++ h.Close ∷ tail → NodeAt slots field head inside tail
settled {slots = slots} {field = field} {head = head} tail whole (begun {inside = other} {tail = behind} it) e =
    let found : AreWhole other = fields_whole it.held.them in
    subst (λ items. NodeAt slots field head items tail) (same_inside behind tail found whole e)
    (subst (λ items. NodeAt slots field head other items) (same_behind behind tail found whole e) it)

pub node_at : {slots : List Slot} {inside : List Item} (field : ℕ) (head : Head) (tail : List Item) → AreWhole inside → AreIn slots (node field head inside ++ tail) → NodeAt slots field head inside tail
node_at {inside = inside} field head tail whole them = settled tail whole (begins them) (append_assoc inside (h.Close ∷ []) tail)

-- One place.

-- what stands in the only field that has to hold something
pub only : {sort : Sort} {field : ℕ} {items : List Item} → AreIn (slot field One sort ∷ []) items → IsIn sort field items
only (over needed free them) = absurd (false≢true (sym needed))
only (a_name is no_more) = name is
only (a_node is within no_more) = g.node is within
only (an_export_list is source within no_more) = export_list is source within

-- and in the only field that holds each number
pub each_of : {sort : Sort} {field : ℕ} {items : List Item} → AreIn (slot field Many sort ∷ []) items → AreEach sort field items
each_of (over needed free no_more) = ended
each_of (a_name is them) = next (name is) (each_of them)
each_of {sort = sort} {field = field} (a_node {head = head} {inside = inside} {rest = rest} is within them) =
    subst (λ items. AreEach sort field (h.Open field head ∷ items)) (append_assoc inside (h.Close ∷ []) rest) (next (g.node is within) (each_of them))
each_of {sort = sort} {field = field} (an_export_list {head = head} {inside = inside} {rest = rest} is source within them) =
    subst (λ items. AreEach sort field (h.Open field head ∷ items)) (append_assoc inside (h.Close ∷ []) rest) (next (export_list is source within) (each_of them))
