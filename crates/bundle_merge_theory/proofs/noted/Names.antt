-- The name in static reads and in a literal call: the one occurrence that stands there.
-- Where the nodes of a list stand that lie side by side.
use Rattle.std.proofs.Common.{◌≡◌, ℕ, suc, ◌+◌, true, List, [], ◌∷◌, ◌++◌, append_assoc, append-nil, refl, sym, ap, ◌∙◌, subst, arith, inl, inr, zero, length}
use Rattle.std.proofs.lemmas.Bool.{false≢true}
use Rattle.std.specs.Prelude.{Contains, fold}
use Rattle.bundle_syntax.specs.declared.piece.Role.{Role}
use Rattle.bundle_syntax.specs.Item as h
use Rattle.bundle_syntax.specs.Item.{Item, Head}
use Rattle.bundle_syntax.specs.declared.piece.Role.TheVariants as r
use Rattle.bundle_rules.specs.Places.{Around, Spot, Occurrence, in_field, past, occurrences_from, start}
use Rattle.bundle_rules.specs.Nodes.{Text, put_first, side_by_side}
use Rattle.bundle_rules.specs.Statements.{TopItem, placed, top_items}
use Rattle.bundle_tree_places.specs.Edits as edits
use Rattle.bundle_tree_places.specs.Edits.{is_occurrence}
pub use Rattle.bundle_scope_names.proofs.Kept.{occurrences-append as occurrences_append}
use Rattle.bundle_link.proofs.NodePaths.{spot-in, same-field, fold-place, field-twice}
use Rattle.bundle_link.proofs.LeadLemmas.{put_all, put_all-append, put_all-cons}
use Rattle.bundle_merge_theory.specs.noted.Listed.{is_reference_role}
use Rattle.bundle_merge_theory.specs.noted.Agrees.{IsSpotAt, is_read_or_call, IsListing}
use Rattle.bundle_merge_theory.proofs.noted.Spots.{around_spot, at-past, at-as, at-get, at-path, fold-path, at-first, at-behind}
pub use Rattle.bundle_merge_theory.specs.noted.Spots.{occurrence_here}
use Rattle.bundle_merge_theory.proofs.noted.Shapes.{IsReads, base, read, IsLiteralCall, one_node}
use Rattle.bundle_merge_theory.specs.noted.Nodes as n
use Rattle.bundle_merge_theory.specs.noted.Nodes.{AreNodesInTurn}
use Rattle.bundle_merge_theory.proofs.noted.ListFacts.{there-cases}

-- ---- names
pub name_first : (s : Spot) (field : ℕ) (x : Text) (ctxt : ℕ) (role : Role) (rest : List Item) →
    is_occurrence role ≡ true →
    occurrences_from s (h.Ident field x ctxt role ∷ rest)
    ≡ occurrence_here s field x ctxt role
    ∷ occurrences_from (past s (h.Ident field x ctxt role)) rest
name_first s field x ctxt r.Word rest occurs = absurd (false≢true occurs)
name_first s field x ctxt r.Binding rest occurs = refl
name_first s field x ctxt r.Reference rest occurs = refl

-- those of a node are those in it
pub occurrences_node : (s : Spot) (field : ℕ) (head : Head) (inside : List Item) →
    occurrences_from s (edits.node field head inside)
    ≡ occurrences_from (past s (h.Open field head)) inside
occurrences_node s field head inside =
    occurrences_append (past s (h.Open field head)) inside (h.Close ∷ [])
    ∙ append-nil (occurrences_from (past s (h.Open field head)) inside)

-- ---- nodes
pub node_ahead : (field : ℕ) (head : Head) (inside more : List Item) →
    edits.node field head inside ++ more ≡ h.Open field head ∷ (inside ++ h.Close ∷ more)
node_ahead field head inside more =
    ap (λ l. h.Open field head ∷ l) (append_assoc inside (h.Close ∷ []) more)

pub at_in_node : {tree : List Item} {s : Spot} (field : ℕ) (head : Head)
    (inside more : List Item) → IsSpotAt tree s (edits.node field head inside ++ more) →
    IsSpotAt tree (spot-in s field head) (inside ++ h.Close ∷ more)
at_in_node field head inside more at =
    at-past (h.Open field head) (inside ++ h.Close ∷ more)
    (at-as refl (node_ahead field head inside more) at)

-- ---- the name in reads
-- the one occurrence of these elements, so far behind their beginning, with the nodes around it
pub record HasName (s : Spot) (xs : List Item) (count : ℕ) (path : List Around) : Type 0 where
  pub o : Occurrence
  pub is : occurrences_from s xs ≡ o ∷ []
  pub far : o.place ≡ s.place + count
  pub inner : List Around
  pub field : ℕ
  pub path_is : o.path ≡ inner ++ in_field field path

abbrev word_end : ℕ → Text → List Item
word_end second word = h.Open second (h.IdentName word) ∷ h.Close ∷ h.Close ∷ []

-- one more read around it
read_around : (f second count : ℕ) (word : Text) (object : List Item) (s : Spot)
    (path : List Around) → HasName (spot-in s f h.MemberExpr) object count path →
    HasName s (h.Open f h.MemberExpr ∷ (object ++ word_end second word)) (suc count) path
read_around f second count word object s path its = record {
  o = its.o;
  is =
      occurrences_append (spot-in s f h.MemberExpr) object (word_end second word)
      ∙ append-nil (occurrences_from (spot-in s f h.MemberExpr) object)
      ∙ its.is;
  far = let e = its.far in omega (arith, e);
  inner = its.inner;
  field = its.field;
  path_is = its.path_is;
}

-- of the nodes around a node its own is one
one_in : (s : Spot) (xs : List Item) (count f : ℕ) (head : Head) →
    HasName s xs count (spot-in s f head).path → HasName s xs count s.path
one_in s xs count f head its = record {
  o = its.o;
  is = its.is;
  far = its.far;
  inner = its.inner ++ around_spot head s.place its.field ∷ [];
  field = f;
  path_is =
      its.path_is
      ∙ sym (append_assoc its.inner (around_spot head s.place its.field ∷ []) (in_field f s.path));
}

pub name_in_reads : {count : ℕ} {role : Role} {xs : List Item} → IsReads count role xs →
    is_occurrence role ≡ true → (s : Spot) → HasName s xs count s.path
name_in_reads (base {field = field} {ctxt = ctxt} {x = x} {role = role}) occurs s = record {
  o = occurrence_here s field x ctxt role;
  is = name_first s field x ctxt role [] occurs;
  far = omega arith;
  inner = [];
  field = field;
  path_is = refl;
}
name_in_reads (read {field = f} {count = count} {object = object} second word it) occurs s =
    one_in s _ (suc count) f h.MemberExpr
    (read_around f second count word object s _
    (name_in_reads it occurs (spot-in s f h.MemberExpr)))

-- the name of a member expression that is just so many reads, with that node around it
pub name_in_node : {count : ℕ} {role : Role} {xs : List Item} → IsReads count role xs →
    is_occurrence role ≡ true → (field : ℕ) (inside : List Item) →
    xs ≡ edits.node field h.MemberExpr inside → (s : Spot) →
    HasName s (edits.node field h.MemberExpr inside) count (spot-in s field h.MemberExpr).path
name_in_node base occurs field inside e s = cc
name_in_node (read {field = f} {count = count} {object = object} second word it) occurs field
    inside e s =
    let same : f ≡ field = cc in
    let its = name_in_reads it occurs (spot-in s f h.MemberExpr) in
    subst
    (λ g.
    HasName s (edits.node field h.MemberExpr inside) (suc count)
    (spot-in s g h.MemberExpr).path)
    same
    (subst (λ l. HasName s l (suc count) (spot-in s f h.MemberExpr).path) e
    (read_around f second count word object s _ its))

-- and that of a literal call
pub name_in_call : {role : Role} (field : ℕ) (inside : List Item) → IsLiteralCall role inside →
    is_occurrence role ≡ true → (s : Spot) →
    HasName s (edits.node field h.CallExpr inside) 1 (spot-in s field h.CallExpr).path
name_in_call {role = role} field inside its occurs s = subst (λ l. HasName s (edits.node field h.CallExpr l) 1 (spot-in s field h.CallExpr).path) (sym its.is) (record {
  o = occurrence_here inner its.field its.x its.ctxt role;
  is =
      occurrences_node s field h.CallExpr (h.Ident its.field its.x its.ctxt role ∷ its.arguments)
      ∙ name_first inner its.field its.x its.ctxt role its.arguments occurs
      ∙ ap (λ l. occurrence_here inner its.field its.x its.ctxt role ∷ l)
      (its.no_names (past inner (h.Ident its.field its.x its.ctxt role)));
  far = refl;
  inner = [];
  field = its.field;
  path_is = refl;
})
  where
    inner : Spot
    inner = spot-in s field h.CallExpr

-- ---- it refers, in each listing
refers : (role : Role) → is_reference_role role ≡ true → role ≡ r.Reference
refers r.Reference is = refl
refers _ is = absurd (false≢true is)

module _ {tree : List Item} (listing : IsListing tree) where
  name_under : (s : Spot) (field : ℕ) (x : Text) (ctxt : ℕ) (role : Role) (rest : List Item) →
      IsSpotAt tree s (h.Ident field x ctxt role ∷ rest) →
      (head : Head) (begins f : ℕ) (outer : List Around) → is_read_or_call head ≡ true →
      s.path ≡ around_spot head begins f ∷ outer → role ≡ r.Reference
  name_under s field x ctxt role rest at head begins f outer is path =
      refers role
      (listing.names s.place field ctxt x role (around_spot head begins field) outer
      (at-get at s.place 0 (omega arith)) (at-path at ∙ ap (in_field field) path) is)

  role_in_reads : {count : ℕ} {role : Role} {xs : List Item} → IsReads count role xs →
      (s : Spot) (tail : List Item) → IsSpotAt tree s (xs ++ tail) →
      (begins f : ℕ) (outer : List Around) → s.path ≡ around_spot h.MemberExpr begins f ∷ outer →
      role ≡ r.Reference
  role_in_reads (base {field = field} {ctxt = ctxt} {x = x} {role = role}) s tail at begins f outer
      path =
      name_under s field x ctxt role tail at h.MemberExpr begins f outer refl path
  role_in_reads (read {field = g} {object = object} second word it) s tail at begins f outer path =
      role_in_reads it (spot-in s g h.MemberExpr) (word_end second word ++ tail)
      (at-as refl (append_assoc object (word_end second word) tail)
      (at-past (h.Open g h.MemberExpr) ((object ++ word_end second word) ++ tail) at))
      s.place 0 (in_field g s.path) refl

  pub role_in_node : {count : ℕ} {role : Role} {xs : List Item} → IsReads count role xs →
      (field : ℕ) (inside : List Item) → xs ≡ edits.node field h.MemberExpr inside →
      (s : Spot) (tail : List Item) → IsSpotAt tree s (xs ++ tail) → role ≡ r.Reference
  role_in_node base field inside e s tail at = cc
  role_in_node (read {field = g} {object = object} second word it) field inside e s tail at =
      role_in_reads it (spot-in s g h.MemberExpr) (word_end second word ++ tail)
      (at-as refl (append_assoc object (word_end second word) tail)
      (at-past (h.Open g h.MemberExpr) ((object ++ word_end second word) ++ tail) at))
      s.place 0 (in_field g s.path) refl

  pub role_in_call : {role : Role} (field : ℕ) (inside : List Item) → IsLiteralCall role inside →
      (s : Spot) (tail : List Item) → IsSpotAt tree s (edits.node field h.CallExpr inside ++ tail) →
      role ≡ r.Reference
  role_in_call {role = role} field inside its s tail at =
      name_under (spot-in s field h.CallExpr) its.field its.x its.ctxt role
      ((its.arguments ++ h.Close ∷ []) ++ tail)
      (at-past (h.Open field h.CallExpr) _
      (at-as refl (ap (λ l. edits.node field h.CallExpr l ++ tail) its.is) at))
      h.CallExpr s.place 0 (in_field field s.path) refl refl

-- ---- one after the other

-- in a node that is open, whole nodes stand in front of what follows them
inner : {xs : List Item} → AreNodesInTurn xs → (depth : ℕ) (rest : List Item) →
    side_by_side (suc depth) (xs ++ rest) ≡ put_all xs (side_by_side (suc depth) rest)
inner n.nothing depth rest = refl
inner (n.name {field = field} {ctxt = ctxt} {sym = x} {role = role} it) depth rest =
    ap (put_first (h.Ident field x ctxt role)) (inner it depth rest)
inner (n.hole {field = field} it) depth rest = ap (put_first (h.Hole field)) (inner it depth rest)
inner (n.node {field = field} {head = head} {inside = inside} {rest = behind} it more) depth rest =
    ap (λ list. put_first (h.Open field head) (side_by_side (suc (suc depth)) list))
    (append_assoc inside (h.Close ∷ behind) rest)
    ∙ (ap (put_first (h.Open field head)) (inner it (suc depth) (h.Close ∷ (behind ++ rest)))
    ∙ (ap (λ list. put_first (h.Open field head) (put_all inside (put_first h.Close list))) (inner more depth rest)
    ∙ ap (put_first (h.Open field head)) (sym (put_all-append inside (h.Close ∷ behind) (side_by_side (suc depth) rest)))))

pub beside_node : (field : ℕ) (head : Head) {inside : List Item} → AreNodesInTurn inside →
    (rest : List Item) →
    side_by_side zero (h.Open field head ∷ (inside ++ h.Close ∷ rest))
    ≡ edits.node field head inside ∷ side_by_side zero rest
beside_node field head {inside = inside} it rest =
    ap (put_first (h.Open field head)) (inner it zero (h.Close ∷ rest))
    ∙ ap (put_first (h.Open field head))
    (put_all-cons inside (h.Close ∷ []) (side_by_side zero rest))

-- ---- the nodes of a list
pub data AreParts : List Item → List (List Item) → Type 0 where
  none : AreParts [] []
  one : {part rest : List Item} {more : List (List Item)} → AreNodesInTurn part → AreParts rest more →
      AreParts (part ++ rest) (part ∷ more)

-- whole nodes are those that stand side by side, up to the end of the node around them
pub parts_of : {xs : List Item} → AreNodesInTurn xs → (behind : List Item) →
    side_by_side zero behind ≡ [] → AreParts xs (side_by_side zero (xs ++ behind))
parts_of n.nothing behind end = subst (AreParts []) (sym end) none
parts_of (n.name {field = field} {ctxt = ctxt} {sym = x} {role = role} it) behind end =
    one (n.name n.nothing) (parts_of it behind end)
parts_of (n.hole it) behind end = one (n.hole n.nothing) (parts_of it behind end)
parts_of (n.node {field = field} {head = head} {inside = inside} {rest = rest} it more) behind end =
    let ahead : side_by_side zero (h.Open field head ∷ (inside ++ h.Close ∷ rest) ++ behind) ≡ edits.node field head inside ∷ side_by_side zero (rest ++ behind) =
    ap (λ l. side_by_side zero (h.Open field head ∷ l))
    (append_assoc inside (h.Close ∷ rest) behind)
    ∙ beside_node field head it (rest ++ behind) in
    subst (AreParts (h.Open field head ∷ (inside ++ h.Close ∷ rest))) (sym ahead)
    (subst (λ l. AreParts l (edits.node field head inside ∷ side_by_side zero (rest ++ behind))) (node_ahead field head inside rest)
    (one (one_node field head it) (parts_of more behind end)))

-- ---- where they stand
-- an item stands at a spot with the nodes around that are around it
pub record StandsThere (tree : List Item) (path : List Around) (item : TopItem) : Type 0 where
  pub s : Spot
  pub tail : List Item
  pub at : IsSpotAt tree s (item.items ++ tail)
  pub place : s.place ≡ item.start
  pub field : ℕ
  pub path_is : s.path ≡ in_field field path
  pub nodes : AreNodesInTurn item.items

pub there : {tree xs : List Item} {more : List (List Item)} → AreParts xs more →
    (s : Spot) (behind : List Item) → IsSpotAt tree s (xs ++ behind) → (item : TopItem) →
    Contains (placed s.place more) item → StandsThere tree s.path item
there none s behind at item (k, l, e) = absurd (omega arith)
there {tree = tree} (one {part = part} {rest = rest} {more = more} nodes others) s behind at item c = elim (there-cases (record { start = s.place; items = part }) (placed (s.place + length part) more) item c) [
  | inl e ↦ subst (StandsThere tree s.path) e (record { s = s; tail = rest ++ behind; at = at_part; place = refl; field = same.0; path_is = same.1; nodes = nodes })
  | inr later ↦
      let its =
      there others (fold past s part) behind (at-behind part (rest ++ behind) at_part) item
      (subst (λ p. Contains (placed p more) item) (sym (fold-place s part)) later) in
      record
      { s = its.s; tail = its.tail; at = its.at; place = its.place; field = its.field; path_is = its.path_is ∙ ap (in_field its.field) path.1 ∙ field-twice its.field path.0 s.path; nodes = its.nodes }
]
  where
    at_part : IsSpotAt tree s (part ++ (rest ++ behind))
    at_part = at-as refl (append_assoc part rest behind) at

    same : (f : ℕ) × (s.path ≡ in_field f s.path)
    same = same-field s.path

    path : (f : ℕ) × ((fold past s part).path ≡ in_field f s.path)
    path = fold-path nodes s

-- the top items of a tree
pub top_there : (field : ℕ) (head : Head) {xs : List Item} → AreNodesInTurn xs →
    (behind : List Item) (item : TopItem) →
    Contains (top_items (h.Open field head ∷ (xs ++ h.Close ∷ behind))) item →
    StandsThere (h.Open field head ∷ (xs ++ h.Close ∷ behind)) (around_spot head 0 0 ∷ []) item
top_there field head {xs = xs} nodes behind item c =
    there (parts_of nodes (h.Close ∷ behind) refl) (past start (h.Open field head))
    (h.Close ∷ behind)
    (at-past (h.Open field head) (xs ++ h.Close ∷ behind)
    (at-first (h.Open field head ∷ (xs ++ h.Close ∷ behind))))
    item c
