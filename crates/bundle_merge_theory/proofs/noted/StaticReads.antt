-- Static reads and literal calls of a module, by their nodes.
use Rattle.std.proofs.Common.{◌≡◌, ◌⊎◌, inl, inr, ℕ, zero, suc, ◌+◌, ◌<◌, Bool, true, false, cond, List, [], ◌∷◌, ◌++◌, append_assoc, append-nil, length, filter, drop, Some, None, refl, sym, ap, ◌∙◌, subst, arith}
use Rattle.std.specs.Prelude.{if◌then◌else◌, slice_get}
use Rattle.std.proofs.lemmas.Option.{none-some, same_Some}
use Rattle.std.proofs.lemmas.List.{drop-append-le}
use Rattle.bundle_syntax.specs.declared.piece.Role.{Role}
use Rattle.bundle_syntax.specs.Item as h
use Rattle.bundle_syntax.specs.Item.{Item, Head}
use Rattle.bundle_rules.specs.Nodes.{Text, side_by_side, parts, begins_in, child, first_or_nothing, node_at}
use Rattle.bundle_rules.specs.Reads.{is_member, head_plain_word, plain_word, property_of}
use Rattle.bundle_tree_places.specs.Edits as edits
use Rattle.bundle_merge_theory.specs.noted.Nodes as n
use Rattle.bundle_merge_theory.specs.noted.Nodes.{AreNodesInTurn}
use Rattle.bundle_link.specs.Nested as nested
use Rattle.bundle_link.specs.Nested.{HasParts, AreTwoNodes}
use Rattle.bundle_link.proofs.NodePaths.{get-front, get-behind, split}
use Rattle.bundle_merge_theory.proofs.noted.Names.{beside_node}
use Rattle.bundle_link_targets.proofs.ListLemmas.{member-head as is_member_head}
use Rattle.bundle_link.proofs.NumberLemmas.{not-one as not_second}

-- ---- nodes
pub plain_nodes : {xs : List Item} → nested.AreNodes xs → AreNodesInTurn xs
plain_nodes nested.nothing = n.nothing
plain_nodes (nested.name it) = n.name (plain_nodes it)
plain_nodes (nested.hole it) = n.hole (plain_nodes it)
plain_nodes (nested.node it parts more) = n.node (plain_nodes it) (plain_nodes more)

-- the node that begins at a place
pub record NodeThere (xs : List Item) (place field : ℕ) (head : Head) : Type 0 where
  pub inside : List Item
  pub behind : List Item
  pub there : drop place xs ≡ h.Open field head ∷ (inside ++ h.Close ∷ behind)
  pub nodes : nested.AreNodes inside
  pub parts : HasParts head inside

drop-behind : {A : Type 0} (xs ys : List A) (j k : ℕ) → j ≡ length xs + k →
    drop j (xs ++ ys) ≡ drop k ys
drop-behind [] ys j k e = let n : j ≡ k = omega arith in ap (λ m. drop m ys) n
drop-behind (x ∷ xs) ys zero k e = absurd (omega arith)
drop-behind (x ∷ xs) ys (suc j) k e = drop-behind xs ys j k (omega arith)

no_name : (field f ctxt : ℕ) (x : Text) (role : Role) (head : Head) →
    Some (h.Ident field x ctxt role) ≡ Some (h.Open f head) → ⊥
no_name field f ctxt x role head e = cc

no_hole : (field f : ℕ) (head : Head) → Some (h.Hole field) ≡ Some (h.Open f head) → ⊥
no_hole field f head e = cc

no_end : (f : ℕ) (head : Head) → Some h.Close ≡ Some (h.Open f head) → ⊥
no_end f head e = cc

pub node_there : {xs : List Item} → nested.AreNodes xs → (place field : ℕ) (head : Head) →
    slice_get xs place ≡ Some (h.Open field head) → NodeThere xs place field head
node_there nested.nothing place field head e = absurd (none-some _ e)
node_there (nested.name {field = f} {ctxt = ctxt} {sym = x} {role = role} it) zero field head e =
    absurd (no_name f field ctxt x role head e)
node_there (nested.name it) (suc place) field head e =
    let its = node_there it place field head e in
    record
    { inside = its.inside; behind = its.behind; there = its.there; nodes = its.nodes; parts = its.parts }
node_there (nested.hole {field = f} it) zero field head e = absurd (no_hole f field head e)
node_there (nested.hole it) (suc place) field head e =
    let its = node_there it place field head e in
    record
    { inside = its.inside; behind = its.behind; there = its.there; nodes = its.nodes; parts = its.parts }
node_there (nested.node {field = f} {head = hd} {inside = ins} {rest = rest} it parts more) zero
    field head e =
    let same : h.Open f hd ≡ h.Open field head = same_Some (h.Open f hd) (h.Open field head) e in
    let its_head : hd ≡ head = cc in
    record
    { inside = ins; behind = rest; there = ap (λ x. x ∷ (ins ++ h.Close ∷ rest)) same; nodes = it; parts = subst (λ k. HasParts k ins) its_head parts }
node_there (nested.node {field = f} {head = hd} {inside = ins} {rest = rest} it parts more)
    (suc place) field head e =
    by (split ins place) (node_there it place field head) (λ j. node_there more j field head)
  where
    whole : List Item
    whole = h.Open f hd ∷ (ins ++ h.Close ∷ rest)

    later : (j : ℕ) → place ≡ length ins + j →
        ((j : ℕ) → slice_get rest j ≡ Some (h.Open field head) → NodeThere rest j field head) →
        NodeThere (h.Open f hd ∷ (ins ++ h.Close ∷ rest)) (suc place) field head
    later zero at in_rest =
        absurd (no_end field head (sym (get-behind ins (h.Close ∷ rest) place zero at) ∙ e))
    later (suc j) at in_rest =
        let its = in_rest j (sym (get-behind ins (h.Close ∷ rest) place (suc j) at) ∙ e) in
        record
        { inside = its.inside; behind = its.behind; there = drop-behind ins (h.Close ∷ rest) place (suc j) at ∙ its.there; nodes = its.nodes; parts = its.parts }

    by : (place < length ins) ⊎ ((j : ℕ) × (place ≡ length ins + j)) →
        (slice_get ins place ≡ Some (h.Open field head) → NodeThere ins place field head) →
        ((j : ℕ) → slice_get rest j ≡ Some (h.Open field head) → NodeThere rest j field head) →
        NodeThere (h.Open f hd ∷ (ins ++ h.Close ∷ rest)) (suc place) field head
    by (inl l) in_ins in_rest =
        let its = in_ins (sym (get-front ins (h.Close ∷ rest) place l) ∙ e) in
        record {
          inside = its.inside;
          behind = its.behind ++ h.Close ∷ rest;
          there =
              drop-append-le place ins (h.Close ∷ rest) (omega (arith, l))
              ∙ ap (λ l. l ++ h.Close ∷ rest) its.there
              ∙ ap (λ l. h.Open field head ∷ l)
              (append_assoc its.inside (h.Close ∷ its.behind) (h.Close ∷ rest));
          nodes = its.nodes;
          parts = its.parts;
        }
    by (inr found) in_ins in_rest = later found.0 found.1 in_rest

-- ---- one node
pub data IsOne : List Item → Type 0 where
  a_name : {field ctxt : ℕ} {x : Text} {role : Role} → IsOne (h.Ident field x ctxt role ∷ [])
  a_hole : {field : ℕ} → IsOne (h.Hole field ∷ [])
  a_node : {field : ℕ} {head : Head} {inside : List Item} → nested.AreNodes inside →
      HasParts head inside → IsOne (edits.node field head inside)

pub beside_one : {part : List Item} → IsOne part → (rest : List Item) →
    side_by_side zero (part ++ rest) ≡ part ∷ side_by_side zero rest
beside_one a_name rest = refl
beside_one a_hole rest = refl
beside_one (a_node {field = field} {head = head} {inside = inside} nodes parts) rest =
    ap (λ l. side_by_side zero (h.Open field head ∷ l)) (append_assoc inside (h.Close ∷ []) rest)
    ∙ beside_node field head (plain_nodes nodes) rest

data AreOnes : List Item → List (List Item) → Type 0 where
  none : AreOnes [] []
  one : {part rest : List Item} {more : List (List Item)} → IsOne part → AreOnes rest more →
      AreOnes (part ++ rest) (part ∷ more)

ones_of : {xs : List Item} → nested.AreNodes xs → (behind : List Item) →
    side_by_side zero behind ≡ [] → AreOnes xs (side_by_side zero (xs ++ behind))
ones_of nested.nothing behind end = subst (AreOnes []) (sym end) none
ones_of (nested.name it) behind end = one a_name (ones_of it behind end)
ones_of (nested.hole it) behind end = one a_hole (ones_of it behind end)
ones_of (nested.node {field = field} {head = head} {inside = inside} {rest = rest} it parts more)
    behind end =
    let ahead : side_by_side zero (h.Open field head ∷ (inside ++ h.Close ∷ rest) ++ behind) ≡ edits.node field head inside ∷ side_by_side zero (rest ++ behind) =
    ap (λ l. side_by_side zero (h.Open field head ∷ l))
    (append_assoc inside (h.Close ∷ rest) behind)
    ∙ beside_node field head (plain_nodes it) (rest ++ behind) in
    subst (AreOnes (h.Open field head ∷ (inside ++ h.Close ∷ rest))) (sym ahead)
    (subst (λ l. AreOnes l (edits.node field head inside ∷ side_by_side zero (rest ++ behind))) (ap (λ l. h.Open field head ∷ l) (append_assoc inside (h.Close ∷ []) rest))
    (one (a_node it parts) (ones_of more behind end)))

sides_end : {xs : List Item} → nested.AreNodes xs → (behind : List Item) →
    side_by_side zero (xs ++ h.Close ∷ behind) ≡ side_by_side zero (xs ++ [])
sides_end nested.nothing behind = refl
sides_end (nested.name {field = field} {ctxt = ctxt} {sym = x} {role = role} it) behind =
    ap (λ l. (h.Ident field x ctxt role ∷ []) ∷ l) (sides_end it behind)
sides_end (nested.hole {field = field} it) behind =
    ap (λ l. (h.Hole field ∷ []) ∷ l) (sides_end it behind)
sides_end (nested.node {field = field} {head = head} {inside = inside} {rest = rest} it parts more)
    behind =
    ap (λ l. side_by_side zero (h.Open field head ∷ l))
    (append_assoc inside (h.Close ∷ rest) (h.Close ∷ behind))
    ∙ beside_node field head (plain_nodes it) (rest ++ h.Close ∷ behind)
    ∙ ap (λ l. edits.node field head inside ∷ l) (sides_end more behind)
    ∙ sym
    (ap (λ l. side_by_side zero (h.Open field head ∷ l))
    (append_assoc inside (h.Close ∷ rest) [])
    ∙ beside_node field head (plain_nodes it) (rest ++ []))

-- ---- a read
-- what is in a member expression with this word
pub record IsMemberOf (x : Text) (inside : List Item) : Type 0 where
  pub object : List Item
  pub field : ℕ
  pub one : IsOne object
  pub is : inside ≡ object ++ h.Open field (h.IdentName x) ∷ h.Close ∷ []

word_head : (x : Text) (head : Head) → head_plain_word head ≡ Some x → head ≡ h.IdentName x
word_head x (h.IdentName y) e = ap h.IdentName (same_Some y x e)
word_head x _ e = absurd (none-some x e)

-- the word that stands second
record IsWord (x : Text) (part : List Item) : Type 0 where
  field : ℕ
  is : part ≡ h.Open field (h.IdentName x) ∷ h.Close ∷ []

word_part : (x : Text) {part : List Item} → IsOne part → plain_word part ≡ Some x → IsWord x part
word_part x a_name e = absurd (none-some x e)
word_part x a_hole e = absurd (none-some x e)
word_part x (a_node {field = field} {head = head} {inside = inside} nodes parts) e =
    let same = word_head x head e in
    let empty : inside ≡ [] = subst (λ k. HasParts k inside) same parts in
    record
    { field = field; is = ap (λ k. edits.node field k inside) same ∙ ap (edits.node field (h.IdentName x)) empty }

two_ones : {inside first second : List Item} → AreOnes inside (first ∷ second ∷ []) →
    IsOne first × IsOne second × (inside ≡ first ++ second)
two_ones (one {part = first} a (one {part = second} b none)) =
    (a, b, ap (λ l. first ++ l) (append-nil second))

member_inside : (x : Text) (inside : List Item) → nested.AreNodes inside → AreTwoNodes inside →
    plain_word (child 1 (edits.node 0 h.MemberExpr inside)) ≡ Some x → IsMemberOf x inside
member_inside x inside nodes two e =
    let them : side_by_side zero (inside ++ []) ≡ two.first ∷ two.second ∷ [] =
    ap (side_by_side zero) (append-nil inside) ∙ two.them in
    let ones = two_ones (subst (AreOnes inside) them (ones_of nodes [] refl)) in
    let second : child 1 (edits.node 0 h.MemberExpr inside) ≡ two.second =
    ap (λ l. first_or_nothing (filter (begins_in 1) l)) (sides_end nodes [] ∙ them)
    ∙ ap
    (λ b.
    first_or_nothing
    (cond b (two.first ∷ cond (begins_in 1 two.second) (two.second ∷ []) [])
    (cond (begins_in 1 two.second) (two.second ∷ []) [])))
    (not_second two.first two.in_first)
    ∙ ap (λ b. first_or_nothing (cond b (two.second ∷ []) [])) two.in_second in
    let word = word_part x ones.1 (ap plain_word (sym second) ∙ e) in
    record
    { object = two.first; field = word.field; one = ones.0; is = ones.2 ∙ ap (λ l. two.first ++ l) word.is }

-- a node that has a word is a member expression
pub property_there : (x : Text) (field : ℕ) (head : Head) (inside : List Item) →
    nested.AreNodes inside → HasParts head inside →
    property_of (edits.node field head inside) ≡ Some x →
    (head ≡ h.MemberExpr) × IsMemberOf x inside
property_there x field head inside nodes parts e = by (is_member head) refl e
  where
    by : (b : Bool) → is_member head ≡ b →
        (if b then plain_word (child 1 (edits.node field head inside)) else None) ≡ Some x →
        (head ≡ h.MemberExpr) × IsMemberOf x inside
    by true is e =
        let same = is_member_head head is in
        (same, member_inside x inside nodes (subst (λ k. HasParts k inside) same parts) e)
    by false is e = absurd (none-some x e)

-- what begins with a read
pub record IsReadThere (tree : List Item) (place : ℕ) (x : Text) : Type 0 where
  pub field : ℕ
  pub inside : List Item
  pub behind : List Item
  pub there : drop place tree ≡ h.Open field h.MemberExpr ∷ (inside ++ h.Close ∷ behind)
  pub member : IsMemberOf x inside

pub get-drop : {A : Type 0} (xs : List A) (b : ℕ) → slice_get xs b ≡ slice_get (drop b xs) 0
get-drop [] zero = refl
get-drop (x ∷ xs) zero = refl
get-drop [] (suc b) = refl
get-drop (x ∷ xs) (suc b) = get-drop xs b

pub read_there : {tree : List Item} → nested.AreNodes tree → (place : ℕ) (x : Text) →
    property_of (node_at tree place) ≡ Some x → IsReadThere tree place x
read_there {tree = tree} nodes place x e = by (drop place tree) refl e
  where
    opens : (field : ℕ) (head : Head) (rest : List Item) →
        drop place tree ≡ h.Open field head ∷ rest → NodeThere tree place field head
    opens field head rest at =
        node_there nodes place field head (get-drop tree place ∙ ap (λ l. slice_get l 0) at)

    by : (all : List Item) → drop place tree ≡ all →
        property_of (first_or_nothing (side_by_side zero all)) ≡ Some x → IsReadThere tree place x
    by [] at e = absurd (none-some x e)
    by (h.Ident field y ctxt role ∷ rest) at e = absurd (none-some x e)
    by (h.Hole field ∷ rest) at e = absurd (none-some x e)
    by (h.Close ∷ rest) at e = absurd (none-some x e)
    by (h.Open field head ∷ rest) at e =
        let its = opens field head rest at in
        let here = property_there x field head its.inside its.nodes its.parts
        (sym
        (ap (λ l. property_of (first_or_nothing l))
        (ap (side_by_side zero) (sym at ∙ its.there)
        ∙ beside_node field head (plain_nodes its.nodes) its.behind))
        ∙ e)
        in
        record
        { field = field; inside = its.inside; behind = its.behind; there = its.there ∙ ap (λ k. h.Open field k ∷ (its.inside ++ h.Close ∷ its.behind)) here.0; member = here.1 }
