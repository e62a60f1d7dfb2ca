-- The nodes that are open at a place, and what is told of it.
use Rattle.std.proofs.Common.{◌≡◌, ℕ, suc, ◌+◌, ◌-◌, ◌<◌, ◌≤◌, ◌&&◌, ◌||◌, Bool, true, false, not, List, [], ◌∷◌, ◌++◌, Option, Some, None, length, get_or, reverse, slice_get, refl, sym, ap, ◌∙◌, subst, inl, inr, arith}
use Rattle.std.specs.Prelude.{if◌then◌else◌}
use Rattle.std.specs.Option.{option_and_then, option_to_list}
use Rattle.std.proofs.lemmas.Bool.{cases_eq}
use Rattle.std.proofs.lemmas.List.{get_or-reverse, get_or_append_left, length-reverse, nil_from_length, reverse-append}
use Rattle.std.proofs.lemmas.Option.{none-some, same_Some}
use Rattle.std.proofs.Math.Seq.{get_or-append_seam}
use Rattle.bundle_syntax.specs.Item as h
use Rattle.bundle_syntax.specs.Item.{Item, Head, head_of}
use Rattle.bundle_rules.specs.Places.{Around, in_field, outer_path, path_to, path_to_option, spot_before}
use Rattle.bundle_rules.specs.Nodes.{Text, field_of, node_at}
use Rattle.bundle_rules.specs.Reads.{is_optional_base, is_optional_chain, is_written_to, passes_writes, property_of, writes}
use Rattle.bundle_tree_places.specs.Placed.{AreOpen, IsOpen, IsSpot, IsTold, no_told, read_in}
use Rattle.bundle_tree_places.specs.Seconds.{text_of}
use Rattle.bundle_tree_places.specs.Stated.{is_in_statement, is_stated_in, states_nothing}
use Rattle.bundle_tree_places.specs.declared.places.Frame.{Frame}
use Rattle.bundle_tree_places.specs.declared.places.Spot.{Spot}
use Rattle.bundle_tree_places.specs.declared.places.ReadAt.{ReadAt}
use Rattle.bundle_tree_places.proofs.SecondLemmas.{property_is}

-- ---- the innermost of the nodes around a place
pub record Innermost (frame : Frame) (path : List Around) : Type 0 where
  pub node : Around
  pub outer : List Around
  pub is : path ≡ node ∷ outer
  pub opened : IsOpen frame node outer

pub innermost : (frames : List Frame) (frame : Frame) (path : List Around) → 0 < length frames → frame ≡ get_or frames (length frames - 1) frame → AreOpen (reverse frames) path → Innermost frame path
innermost frames frame path some last all = by (reverse frames) path refl all
  where
    by : (l : List Frame) (around : List Around) → reverse frames ≡ l → AreOpen l around → Innermost frame around
    by [] around e a = let len = length-reverse frames in absurd (omega (arith, some, len, ap length e))
    by (f ∷ fs) [] e a = absurd a
    by (f ∷ fs) (node ∷ outer) e a =
        let same : f ≡ frame = sym (ap (λ (l : List Frame). get_or l 0 frame) e) ∙ (get_or-reverse frames 0 frame some ∙ (ap (λ k. get_or frames k frame) (let n : length frames - 1 - 0 ≡ length frames - 1 = omega arith in n) ∙ sym last)) in
        record { node = node; outer = outer; is = refl; opened = subst (λ (x : Frame). IsOpen x node outer) same a.0 }

-- no node is around a place where none is open
outermost : (frames : List Frame) (path : List Around) → length frames ≤ 0 → AreOpen (reverse frames) path → path ≡ []
outermost [] [] none a = refl
outermost [] (node ∷ outer) none a = absurd a
outermost (f ∷ fs) path none a = absurd (omega (arith, none))

-- as many nodes are open as are around
opened_length : (frames : List Frame) (path : List Around) → AreOpen frames path → length path ≡ length frames
opened_length [] [] a = refl
opened_length [] (node ∷ outer) a = absurd a
opened_length (frame ∷ frames) [] a = absurd a
opened_length (frame ∷ frames) (node ∷ outer) a = ap suc (opened_length frames outer a.1)

-- ---- what is known of a place
spot_made : (frame : Frame) (node : Around) (outer : List Around) → IsOpen frame node outer → (field : ℕ) (spot : Spot) → spot.is_written ≡ (writes (head_of frame.node) field || (passes_writes (head_of frame.node) field && frame.is_written)) → spot.is_base ≡ is_optional_chain (head_of frame.node) → spot.is_stated ≡ frame.is_stated → IsSpot spot (in_field field (node ∷ outer))
spot_made frame node outer o field spot written base stated = record {
  written = written ∙ (ap (λ (head : Head). writes head field || (passes_writes head field && frame.is_written)) o.head ∙ ap (λ b. writes node.head field || (passes_writes node.head field && b)) o.written);
  base = base ∙ ap is_optional_chain o.head;
  stated = stated ∙ o.stated;
}

-- in the innermost node
pub spot_inside : (frames : List Frame) (frame : Frame) (path : List Around) → 0 < length frames → frame ≡ get_or frames (length frames - 1) frame → (field : ℕ) (spot : Spot) → spot.is_written ≡ (writes (head_of frame.node) field || (passes_writes (head_of frame.node) field && frame.is_written)) → spot.is_base ≡ is_optional_chain (head_of frame.node) → spot.is_stated ≡ frame.is_stated → AreOpen (reverse frames) path → IsSpot spot (in_field field path)
spot_inside frames frame path some last field spot written base stated all =
    let i = innermost frames frame path some last all in
    subst (λ (p : List Around). IsSpot spot (in_field field p)) (sym i.is) (spot_made frame i.node i.outer i.opened field spot written base stated)

-- and outside all nodes
pub spot_outside : (frames : List Frame) (path : List Around) → length frames ≤ 0 → (field : ℕ) (spot : Spot) → spot.is_written ≡ false → spot.is_base ≡ false → spot.is_stated ≡ false → AreOpen (reverse frames) path → IsSpot spot (in_field field path)
spot_outside frames path none field spot written base stated all =
    subst (λ (p : List Around). IsSpot spot (in_field field p)) (sym (outermost frames path none all)) (record { written = written; base = base; stated = stated })

-- ---- whether what stands in a node is stated
deep_by : (frame : Frame) (head : Head) (node : Around) (outer : List Around) → 0 < length outer → IsOpen frame node outer → frame.is_stated ≡ is_stated_in head (node ∷ outer)
deep_by frame head node [] some o = absurd (omega (arith, some))
deep_by frame head node (next ∷ outer) some o = o.stated

-- in two nodes at least
pub stated_deep : (frames : List Frame) (frame : Frame) (head : Head) (path : List Around) → 1 < length frames → frame ≡ get_or frames (length frames - 1) frame → AreOpen (reverse frames) path → frame.is_stated ≡ is_stated_in head path
stated_deep frames frame head path many last all =
    let i = innermost frames frame path (omega (arith, many)) last all in
    let long : length path ≡ length frames = opened_length (reverse frames) path all ∙ length-reverse frames in
    let one : length path ≡ suc (length i.outer) = ap length i.is in
    subst (λ (p : List Around). frame.is_stated ≡ is_stated_in head p) (sym i.is) (deep_by frame head i.node i.outer (omega (arith, many, long, one)) i.opened)

item_by : (head : Head) (path : List Around) → length path ≡ 1 → not (states_nothing head) ≡ is_stated_in head path
item_by head [] e = absurd (omega (arith, e))
item_by head (tree ∷ []) e = refl
item_by head (tree ∷ node ∷ outer) e = absurd (omega (arith, e))

-- in the module alone
pub stated_item : (frames : List Frame) (head : Head) (path : List Around) → length frames ≤ 1 → 0 < length frames → AreOpen (reverse frames) path → not (states_nothing head) ≡ is_stated_in head path
stated_item frames head path few some all =
    let long : length path ≡ length frames = opened_length (reverse frames) path all ∙ length-reverse frames in
    item_by head path (omega (arith, few, some, long))

-- in none
pub stated_tree : (frames : List Frame) (head : Head) (path : List Around) → length frames ≤ 0 → AreOpen (reverse frames) path → true ≡ is_stated_in head path
stated_tree frames head path none all = sym (ap (is_stated_in head) (outermost frames path none all))

-- the field of the innermost node does not matter
pub stated_in_field : (head : Head) (field : ℕ) (path : List Around) → is_stated_in head path ≡ is_stated_in head (in_field field path)
stated_in_field head field [] = refl
stated_in_field head field (tree ∷ []) = refl
stated_in_field head field (node ∷ next ∷ outer) = refl

-- ---- the open nodes behind an element
pub in_any_field : (field : ℕ) (frames : List Frame) (path : List Around) → AreOpen frames path → AreOpen frames (in_field field path)
in_any_field field [] [] a = a
in_any_field field [] (node ∷ outer) a = absurd a
in_any_field field (frame ∷ frames) [] a = absurd a
in_any_field field (frame ∷ frames) (node ∷ outer) a = (record { head = a.0.head; written = a.0.written; stated = a.0.stated }, a.1)

none_closed : (path : List Around) → AreOpen [] path → AreOpen [] (outer_path path)
none_closed [] a = a
none_closed (node ∷ outer) a = absurd a

some_closed : (frame : Frame) (frames : List Frame) (path : List Around) → AreOpen (frame ∷ frames) path → AreOpen frames (outer_path path)
some_closed frame frames [] a = absurd a
some_closed frame frames (node ∷ outer) a = a.1

pub closed : (old new : List Frame) (r : Option Frame) → old ≡ new ++ option_to_list r → (r ≡ None → length new ≡ 0) → (path : List Around) → AreOpen (reverse old) path → AreOpen (reverse new) (outer_path path)
closed old new None e n path a =
    let empty : new ≡ [] = nil_from_length new (n refl) in
    let old_empty : old ≡ [] = e ∙ ap (λ (l : List Frame). l ++ []) empty in
    subst (λ (l : List Frame). AreOpen (reverse l) (outer_path path)) (sym empty) (none_closed path (subst (λ (l : List Frame). AreOpen (reverse l) path) old_empty a))
closed old new (Some frame) e n path a = some_closed frame (reverse new) path (subst (λ (l : List Frame). AreOpen l path) (ap (λ (l : List Frame). reverse l) e ∙ reverse-append new (frame ∷ [])) a)

-- ---- what is told of an element
pub none_read : (b : Bool) (word : Option Text) → word ≡ None → (if b then None else word) ≡ None
none_read true word e = refl
none_read false word e = e

-- an element in no field is an end, where nothing is read
pub told_end : (tree : List Item) (place : ℕ) (path : List Around) (item : Item) → field_of item ≡ None → slice_get tree place ≡ Some item → None ≡ read_in (path_to path item) (property_of (node_at tree place))
told_end tree place path (h.Open field head) none at = absurd (none-some field (sym none))
told_end tree place path (h.Ident field symbol ctxt role) none at = absurd (none-some field (sym none))
told_end tree place path (h.Hole field) none at = absurd (none-some field (sym none))
told_end tree place path h.Close none at = sym (none_read (is_written_to path || is_optional_base path) (property_of (node_at tree place)) (property_is tree place (Some h.Close) at))

-- an element in a field has the nodes around that field around it
pub told_field : (path : List Around) (item : Item) (field : ℕ) → field_of item ≡ Some field → path_to path item ≡ in_field field path
told_field path (h.Open its head) field is = ap (λ n. in_field n path) (same_Some its field is)
told_field path (h.Ident its symbol ctxt role) field is = ap (λ n. in_field n path) (same_Some its field is)
told_field path (h.Hole its) field is = ap (λ n. in_field n path) (same_Some its field is)
told_field path h.Close field is = absurd (none-some field is)

-- what is told of an element is told of its place
pub is_told : (tree : List Item) (place : ℕ) (item : Item) (told : ReadAt) → slice_get tree place ≡ Some item → text_of told.word ≡ read_in (path_to (spot_before tree place).path item) (property_of (node_at tree place)) → ((field : ℕ) → field_of item ≡ Some field → told.is_stated ≡ is_in_statement (path_to (spot_before tree place).path item)) → IsTold tree place told
is_told tree place item told at word stated = record {
  word = word ∙ ap (λ (x : Option Item). read_in (path_to_option (spot_before tree place).path x) (property_of (node_at tree place))) (sym at);
  stated = λ field e. stated field (ap (λ (x : Option Item). option_and_then field_of x) (sym at) ∙ e) ∙ ap (λ (x : Option Item). is_in_statement (path_to_option (spot_before tree place).path x)) (sym at);
}

-- one place more is told
pub told_push : (tree : List Item) (old : List ReadAt) (n : ℕ) (told : ReadAt) → length old ≡ n → ((p : ℕ) → p < n → IsTold tree p (get_or old p no_told)) → IsTold tree n told → (p : ℕ) → p < n + 1 → IsTold tree p (get_or (old ++ told ∷ []) p no_told)
told_push tree old n told len each one p l = elim (cases_eq p n) [
  | inl e ↦
      let last : get_or (old ++ told ∷ []) p no_told ≡ told = ap (λ k. get_or (old ++ told ∷ []) k no_told) (e ∙ sym len) ∙ get_or-append_seam old told [] no_told in
      subst (λ (x : ReadAt). IsTold tree p x) (sym last) (subst (λ k. IsTold tree k told) (sym e) one)
  | inr ne ↦ subst (λ (x : ReadAt). IsTold tree p x) (sym (get_or_append_left old (told ∷ []) no_told p (omega (arith, l, ne, len)))) (each p (omega (arith, l, ne)))
]
