-- A fit list in which no import or export stands has marks by what its names mean, each of which
-- stands for itself alone.
-- The object of `import.meta` that is written already, by itself: its names have the contexts of a
-- numbering of what the hook answered, and it has the same marks.
use Rattle.std.proofs.Common.{◌≡◌, ◌≤◌, ℕ, ◌+◌, Bool, true, false, List, [], ◌∷◌, ◌++◌, None, length, length-append, refl, ap, sym, ◌∙◌, subst, arith, ◌≢◌, ◌<◌, Option, Some, drop, map, slice_get}
use Rattle.std.proofs.lemmas.Bool.{false≢true, true≢false, and_parts}
use Rattle.std.specs.List.{AllZip}
use Rattle.std.proofs.lemmas.List.{append_cancel_right, length-map}
use Rattle.bundle_syntax.specs.declared.piece.Role.{Role}
use Rattle.bundle_syntax.specs.Item as h
use Rattle.bundle_syntax.specs.Item.{Item, Head}
use Rattle.bundle_syntax.specs.declared.kind.MetaPropKind.TheVariants
use Rattle.bundle_rules.specs.Nodes.{Text}
use Rattle.bundle_rules.specs.Meaning.{Meant, Mark}
use Rattle.bundle_rules.specs.Places.{Occurrence, occurrences, occurrences_from}
use Rattle.bundle_rules.specs.Scopes.{Es, Scope, ScopeKind, Wrapper, Top, Inner, scope_order}
use Rattle.bundle_rules.specs.Declarations.{BySymbol, Name, declared}
use Rattle.bundle_rules.specs.Denotes.{Denoted, Bound, denoted_of, denotations}
use Rattle.bundle_rules.specs.Cleared.{cleared}
use Rattle.bundle_rules.specs.Idents.{ident_of}
use Rattle.bundle_rules.specs.Merged.{IsMetaItem}
use Rattle.bundle_rules.specs.Program.{Program, IsReached}
use Rattle.bundle_rules.specs.Bundle.{HoldsMeta, AsModule, Hooks, IsDue, properties_tree}
use Rattle.bundle_rules.specs.Marks as k
use Rattle.bundle_tree_places.specs.Edits.{Around, Anywhere, node, is_occurrence, around_in, binding, InObject}
use Rattle.bundle_scope_names.proofs.Numbering.{Numbering, IsNumbered}
use Rattle.bundle_scope_names.proofs.TreeLemmas.{its_context, occurrences-are, set_by}
use Rattle.bundle_scope_names.specs.fit.Sorts.{ABindingIdent, AnExpr, AnIdent, One, Optional, NodeSlot, slot, takes_head, takes_name, names_of_sort, slots, AProperty, Many}
use Rattle.bundle_scope_names.specs.fit.Fits.{AreFit, no_more, over, a_name, a_hole, a_node}
use Rattle.bundle_scope_names.specs.fit.Seen.{each_slot}
use Rattle.bundle_scope_names.proofs.fit.Keys.{after_slot}
use Rattle.bundle_scope_names.proofs.fit.Rows.{is_own, own_slots, occurs}
use Rattle.bundle_scope_names.proofs.naming_rule.Theorem.{cleared-twice}
use Rattle.bundle_link.proofs.ClearedNodes.{cleared-append}
use Rattle.bundle_merge_theory.specs.noted.Marked as in_marked
use Rattle.bundle_merge_theory.specs.noted.Marked.{Marked, node_stays, marks_there, node_marks, shorthand_marks}
use Rattle.bundle_merge_theory.specs.noted.Nodes
use Rattle.bundle_merge_theory.specs.noted.Nodes.{AreNodesInTurn}
use Rattle.bundle_merge_theory.specs.walked.Keeps.{notes_alone}
use Rattle.bundle_merge_theory.specs.walked.Names.{idents_among}
use Rattle.bundle_merge_theory.proofs.noted.Names.{node_ahead}
use Rattle.bundle_merge_theory.proofs.noted.Shapes.{same_nodes, tail_same}
use Rattle.bundle_merge_theory.proofs.walked.NameLemmas.{names_of-append, node_names, name_names, short_names, idents_from}
use Rattle.bundle_merge_theory.specs.joined.Alike.{ArePlacesOneToOne}
use Rattle.bundle_merge_theory.proofs.walked.Clearing.{marked-cleared}
use Rattle.bundle_merge_theory.proofs.walked.Renaming.{alone_alone}
use Rattle.bundle_merge_theory.proofs.fit.Facts.{fit_nodes}
use Rattle.bundle_merge_theory.proofs.fit.Clearing.{ends, no_node, no_lone, fit_cleared}
use Rattle.bundle_merge_theory.specs.made.Given.{HookAnswer, Written, BundleContexts, Holder, WrittenIn}
use Rattle.bundle_merge_theory.specs.made.Made.{IsWrittenAs}
use Rattle.bundle_merge_theory.specs.made.Alone.{IsHolder, written_in, TellApart, holds_written}
use Rattle.bundle_merge_theory.proofs.answered.Inward.{IsMadeOf, IsInwardDenoted}
use Rattle.bundle_merge_theory.proofs.answered.Denoting.{zip-all}
use Rattle.bundle_merge_theory.proofs.composed.Among.{all-in as all-of_each}
use Rattle.bundle_merge_theory.proofs.answered.Resolving.{HasWay, resolved-cleared}
use Rattle.bundle_merge_theory.proofs.answered.Marks.{meant_of, its_meants}
use Rattle.bundle_merge_theory.proofs.answered.Rewritten.{tree-ways, denotation-inward, alone_spot, item_spot, occurrences-alone, spots-beside}
use Rattle.bundle_merge_theory.proofs.answered.Properties.{AreProperties, Answering}
use Rattle.bundle_merge_theory.proofs.answered.Standing.{GoesOn, StandsElsewhere, stand}
use Rattle.bundle_merge_theory.proofs.answered.Numbers

-- ---- marking

-- marks of a list by the first of these meanings, and those that are left
record Gets (around : Around) (meants : List Meant) (items : List Item) : Type 0 where
  left : List Meant
  marks : List Mark
  is : Marked None around (notes_alone meants) items marks (notes_alone left)
  count : length meants ≡ length (idents_among items) + length left

-- it has marks wherever it stands, if there are meanings enough
abbrev GetsMarks : List Item → Type 0
GetsMarks items =
    (around : Around) (meants : List Meant) → length (idents_among items) ≤ length meants →
    Gets around meants items

joined-gets : (xs ys : List Item) → GetsMarks xs → GetsMarks ys → GetsMarks (xs ++ ys)
joined-gets xs ys one two around meants enough =
    let sum : length (idents_among (xs ++ ys)) ≡ length (idents_among xs) + length (idents_among ys) =
    ap length (names_of-append xs ys) ∙ length-append (idents_among xs) (idents_among ys) in
    let first = one around meants (omega (arith, enough, sum)) in
    let used = first.count in
    let second = two around first.left (omega (arith, enough, sum, used)) in
    let more = second.count in
    record {
      left = second.left;
      marks = first.marks ++ second.marks;
      is = in_marked.Joined first.is second.is;
      count = omega (arith, sum, used, more);
    }

-- a node that is no shorthand
abbrev is_short : Head → Bool
is_short h.AssignPatProp = true
is_short _ = false

stays-alone : (meants : List Meant) (head : Head) (inside : List Item) → is_short head ≡ false →
    node_stays None (in_marked.next_note (notes_alone meants)) head inside ≡ true
stays-alone meants h.AssignPatProp inside apart = absurd (true≢false apart)
stays-alone [] h.MemberExpr inside apart = refl
stays-alone (meant ∷ meants) h.MemberExpr inside apart = refl
stays-alone [] h.CallExpr inside apart = refl
stays-alone (meant ∷ meants) h.CallExpr inside apart = refl
stays-alone meants (h.MetaPropExpr TheVariants.ImportMeta) inside apart = refl
stays-alone meants (h.MetaPropExpr TheVariants.NewTarget) inside apart = refl
stays-alone meants _ inside apart = refl

node-gets : (field : ℕ) (head : Head) (inside : List Item) → is_short head ≡ false →
    GetsMarks inside → GetsMarks (node field head inside)
node-gets field head inside apart all around meants enough =
    let names = ap length (node_names field head inside) in
    let it = all (around_in head inside) meants (omega (arith, enough, names)) in
    let used = it.count in
    record {
      left = it.left;
      marks = node_marks field head it.marks;
      is = in_marked.Inside field head (stays-alone meants head inside apart) it.is;
      count = omega (arith, names, used);
    }

short-gets : (field : ℕ) (x : Text) (ctxt : ℕ) (role : Role) (default : List Item) →
    is_occurrence role ≡ true → GetsMarks default →
    GetsMarks (node field h.AssignPatProp (binding None 0 x ctxt role ++ default))
short-gets field x ctxt role default occurs all around [] enough =
    let names = ap length (short_names field x ctxt role default occurs) in
    absurd (omega (arith, enough, names))
short-gets field x ctxt role default occurs all around (meant ∷ meants) enough =
    let names = ap length (short_names field x ctxt role default occurs) in
    let it = all Anywhere meants (omega (arith, enough, names)) in
    let used = it.count in
    record {
      left = it.left;
      marks = shorthand_marks field x meant default it.marks;
      is = in_marked.Shorthand field x ctxt role occurs it.is;
      count = omega (arith, names, used);
    }

name-gets : (field : ℕ) (x : Text) (ctxt : ℕ) (role : Role) → is_occurrence role ≡ true →
    GetsMarks (h.Ident field x ctxt role ∷ [])
name-gets field x ctxt role occurs around [] enough =
    let names = ap length (name_names field x ctxt role [] occurs) in
    absurd (omega (arith, enough, names))
name-gets field x ctxt role occurs around (meant ∷ meants) enough =
    let names = ap length (name_names field x ctxt role [] occurs) in
    record {
      left = meants;
      marks = marks_there around field x meant;
      is = in_marked.Name around field x ctxt role occurs;
      count = omega (arith, names);
    }

hole-gets : (field : ℕ) → GetsMarks (h.Hole field ∷ [])
hole-gets field around meants enough = record {
  left = meants;
  marks = k.Empty field ∷ [];
  is = in_marked.Hole field;
  count = omega arith;
}

-- The name of a shorthand property of a pattern.

record OneIdent (names : Role) (items : List Item) : Type 0 where
  x : Text
  ctxt : ℕ
  role : Role
  fits : takes_name role (AnIdent names) ≡ true
  is : items ≡ h.Ident 0 x ctxt role ∷ []

one-ident : (names : Role) {items : List Item} → AreFit (slot 0 One (AnIdent names) ∷ []) items →
    OneIdent names items
one-ident names (over e fit) = absurd (true≢false e)
one-ident names (a_name {x = x} {ctxt = t} {role = role} it fit) = record {
  x = x;
  ctxt = t;
  role = role;
  fits = it;
  is = ap (λ l. h.Ident 0 x t role ∷ l) (ends fit);
}
one-ident names (a_node {head = hd} it in_it fit) = absurd (no_node hd names it)

record Short (names : Role) (items : List Item) : Type 0 where
  x : Text
  ctxt : ℕ
  role : Role
  fits : takes_name role (AnIdent names) ≡ true
  default : List Item
  is : items ≡ binding None 0 x ctxt role ++ default

short-head : (head : Head) (names : Role) → takes_head head (ABindingIdent names) ≡ true →
    {inside : List Item} → AreFit (slots head (names_of_sort (ABindingIdent names))) inside →
    (default : List Item) → Short names (h.Open 0 head ∷ (inside ++ h.Close ∷ default))
short-head h.BindingIdent names is fit default =
    let it = one-ident names fit in
    record {
      x = it.x;
      ctxt = it.ctxt;
      role = it.role;
      fits = it.fits;
      default = default;
      is = ap (λ l. h.Open 0 h.BindingIdent ∷ (l ++ h.Close ∷ default)) it.is;
    }
short-head _ names is fit default = absurd (false≢true is)

short-form : (names : Role) {items : List Item} →
    AreFit (slot 0 One (ABindingIdent names) ∷ slot 1 Optional AnExpr ∷ []) items →
    Short names items
short-form names (over e fit) = absurd (true≢false e)
short-form names (a_name {role = role} it fit) = absurd (no_lone role names it)
short-form names (a_node {head = hd} {rest = rest} it in_it fit) = short-head hd names it in_it rest

-- All of it.

-- a list, and what stands behind the node with which it begins
abbrev GetsBoth : List Item → Type 0
GetsBoth items =
    GetsMarks items
    × ((field : ℕ) (head : Head) (inside rest : List Item) → AreNodesInTurn inside →
    items ≡ h.Open field head ∷ (inside ++ h.Close ∷ rest) → GetsMarks rest)

abbrev AreOwnSlots : List NodeSlot → Type 0
AreOwnSlots list = each_slot (λ number sort. is_own sort) list ≡ true

one-gets : (field : ℕ) (head : Head) (names : Role) {inside : List Item} →
    AreFit (slots head names) inside → AreOwnSlots (slots head names) → GetsBoth inside →
    GetsMarks (node field head inside)
one-gets field h.AssignPatProp names fit own both =
    let it = short-form names fit in
    let named = (and_parts (is_own (ABindingIdent names)) true own).0 in
    subst (λ l. GetsMarks (node field h.AssignPatProp l)) (sym it.is)
    (short-gets field it.x it.ctxt it.role it.default
    (occurs it.role (AnIdent names) it.fits named)
    (both.1 0 h.BindingIdent (h.Ident 0 it.x it.ctxt it.role ∷ []) it.default
    (Nodes.name Nodes.nothing) it.is))
one-gets field head names {inside = inside} fit own both =
    node-gets field head inside refl both.0

gets : {list : List NodeSlot} {items : List Item} → AreFit list items → AreOwnSlots list →
    GetsBoth items
gets no_more own = (
  λ around meants enough. record { left = meants; marks = []; is = in_marked.Nothing; count = omega arith },
  λ field head inside rest nodes e. absurd cc,
)
gets (over {sort = k} {more = more} e fit) own =
    gets fit (and_parts (is_own k) (each_slot (λ number sort. is_own sort) more) own).1
gets (a_name {number = i} {count = c} {sort = k} {more = more} {x = x} {ctxt = t} {role = role}
    {rest = behind} it fit) own =
    let here = (and_parts (is_own k) (each_slot (λ number sort. is_own sort) more) own).0 in
    let later = gets fit (after_slot (λ number sort. is_own sort) i c k more own) in (
      joined-gets (h.Ident i x t role ∷ []) behind (name-gets i x t role (occurs role k it here))
          later.0,
      λ field head inside rest nodes e. absurd cc,
    )
gets (a_hole {number = i} {rest = behind} fit) own = (
  joined-gets (h.Hole i ∷ []) behind (hole-gets i) (gets fit own).0,
  λ field head inside rest nodes e. absurd cc,
)
gets (a_node {number = i} {count = c} {sort = k} {more = more} {head = hd} {inside = ins}
    {rest = behind} it in_it fit) own =
    let here = (and_parts (is_own k) (each_slot (λ number sort. is_own sort) more) own).0 in
    let slots_own = own_slots hd k it here in
    let inner = gets in_it slots_own in
    let later = gets fit (after_slot (λ number sort. is_own sort) i c k more own) in (
      subst GetsMarks (node_ahead i hd ins behind)
          (joined-gets (node i hd ins) behind (one-gets i hd (names_of_sort k) in_it slots_own inner)
          later.0),
      λ field head inside rest nodes e. subst GetsMarks
          (same_nodes (fit_nodes in_it) nodes behind rest (tail_same e)).1 later.0,
    )

-- with a meaning for each name
pub marked-alone : {list : List NodeSlot} {items : List Item} → AreFit list items →
    AreOwnSlots list → (around : Around) (meants : List Meant) →
    length meants ≡ length (idents_among items) →
    (marks : List Mark) × Marked None around (notes_alone meants) items marks []
marked-alone {items = items} fit own around meants long =
    let it = (gets fit own).0 around meants (omega (arith, long)) in
    let used = it.count in
    (it.marks, none it.left (omega (arith, long, used)) it.is)
  where
    none : {marks : List Mark} (left : List Meant) → length left ≡ 0 →
        Marked None around (notes_alone meants) items marks (notes_alone left) →
        Marked None around (notes_alone meants) items marks []
    none [] e is = is
    none (meant ∷ left) e is = absurd (omega (arith, e))

-- ---- written

-- its nodes stand four places on in the object
abbrev R : ℕ → ℕ → Type 0
R = GoesOn 3 4

one-to-one : ArePlacesOneToOne R
one-to-one = record {
  one = λ a b c r q. r.1 ∙ sym q.1;
  other = λ a b c r q. let first = r.1 in let second = q.1 in omega (arith, first, second);
}

-- what is made of names with contexts is made of the names
zip-unmap : {A B C : Type 0} (Q : C → B → Type 0) (f : A → C) (xs : List A) (ys : List B) →
    AllZip Q (map f xs) ys → AllZip (λ x y. Q (f x) y) xs ys
zip-unmap Q f [] [] zip = tt
zip-unmap Q f [] (y ∷ ys) zip = absurd zip
zip-unmap Q f (x ∷ xs) [] zip = absurd zip
zip-unmap Q f (x ∷ xs) (y ∷ ys) zip = (zip.0, zip-unmap Q f xs ys zip.1)

-- one context
ctxt_of : Holder → ℕ
ctxt_of (WrittenIn m ctxt) = ctxt
ctxt_of _ = 0

same-ctxt : {m n c d : ℕ} → WrittenIn m c ≡ WrittenIn n d → c ≡ d
unfolding ctxt_of
same-ctxt e = ap ctxt_of e

module _ {p : Program} {hooks : Hooks} {context : BundleContexts} {m : ℕ} {item : List Item}
    (its : IsMetaItem p hooks m item) (written : IsWrittenAs context m its.ctxt its.properties)
    (answers : ℕ → Option HookAnswer) (reached : IsReached p m)
    (answered : answers m ≡ Some (Written its.ctxt its.meta its.properties))
    (apart : TellApart p answers context) (due : IsDue p AsModule (HoldsMeta m)) where
  abbrev before : List Item
  before = properties_tree its.answered

  abbrev after : List Item
  after = properties_tree its.properties

  abbrev ds : List Denoted
  ds = denotations BySymbol Es before

  -- without contexts it is what the hook answered
  answered-is : cleared its.properties ≡ its.answered
  answered-is =
      append_cancel_right (cleared its.properties) (cleared its.answered)
      (h.Close ∷ h.Close ∷ h.Close ∷ [])
      (sym (cleared-append its.properties (h.Close ∷ h.Close ∷ h.Close ∷ []))
      ∙ ap (drop 3)
      (resolved-cleared Es its.local its.next its.later before after its.resolved)
      ∙ cleared-append its.answered (h.Close ∷ h.Close ∷ h.Close ∷ []))
      ∙ ap cleared its.held.cleared
      ∙ cleared-twice its.held.answer
      ∙ sym its.held.cleared

  fit : AreFit (slot 0 Many AProperty ∷ []) its.answered
  fit = subst (AreFit (slot 0 Many AProperty ∷ [])) answered-is (fit_cleared written.fit)

  -- Contexts.

  abbrev numbers : Numbering
  numbers = Numbers.numbers its.local its.next its.later before after its.resolved

  abbrev holder : ℕ → Text → Holder
  holder begins x = WrittenIn m (numbers (begins + 2) x)

  is-holder : (i : ℕ) (kind : ScopeKind) (begins : ℕ) (name : Name) →
      slice_get ds i ≡ Some (Bound (Inner kind begins) name) →
      IsHolder p answers (holder begins name.sym)
  is-holder i kind begins name at =
      let it =
      Numbers.bound-after its.local its.next its.later before after its.resolved i kind begins name at in
      written_in its.ctxt its.meta its.properties kind begins it.name i it.u reached answered it.at
      it.denotes it.ctxt

  own-number : (i : ℕ) (s : Scope) (name : Name) → slice_get ds i ≡ Some (Bound s name) →
      numbers (scope_order s) name.sym ≢ 1
  own-number i s name at =
      by_scope s (denotation-inward its.answered fit i (Bound s name) at) at
    where
      by_scope : (s : Scope) → IsInwardDenoted (Bound s name) →
          slice_get ds i ≡ Some (Bound s name) → numbers (scope_order s) name.sym ≢ 1
      by_scope Wrapper it there = elim it [ ]
      by_scope Top it there = elim it [ ]
      by_scope (Inner kind begins) it there = λ e.
          let above : 1 < context (holder begins name.sym) =
          apart.own (holder begins name.sym) (is-holder i kind begins name there) in
          let is = written.inside (numbers (begins + 2) name.sym) in
          absurd (omega (arith, above, is, e))

  are-numbered : IsNumbered numbers Es before after
  are-numbered =
      Numbers.is-numbered its.local its.next its.later before after its.resolved own-number

  -- Names.

  abbrev with_context : Occurrence → Occurrence
  with_context o = set_by (its_context numbers Es (declared BySymbol Es before)) o

  occurrences-with : occurrences after ≡ map with_context (occurrences before)
  occurrences-with = occurrences-are numbers Es before after are-numbered

  all-made : AllZip (λ o u. IsMadeOf R (with_context o) u) (occurrences before)
      (occurrences_from (item_spot its.meta) its.properties)
  all-made =
      zip-unmap (IsMadeOf R) with_context (occurrences before)
      (occurrences_from (item_spot its.meta) its.properties)
      (subst
      (λ os. AllZip (IsMadeOf R) os (occurrences_from (item_spot its.meta) its.properties))
      occurrences-with
      (zip-all HasWay (StandsElsewhere R) (IsMadeOf R)
      (λ o u has it. record {
        ident = it.ident;
        role = it.role;
        ways = λ binds. let way = has binds in (way.0, way.1, it.way way.0 way.1);
        scopes = it.scopes;
      })
      (occurrences after) (occurrences_from (item_spot its.meta) its.properties)
      (all-of_each HasWay (occurrences after)
      (λ i o at. (tree-ways its.properties written.fit).way i o at))
      (subst
      (λ os. AllZip (StandsElsewhere R) os
      (occurrences_from (item_spot its.meta) its.properties))
      (sym (occurrences-alone its.properties))
      (stand 3 4 (fit_nodes written.fit) alone_spot (item_spot its.meta)
      (spots-beside R its.meta) (omega arith) refl))))

  -- Marks.

  long : length (its_meants its.answered) ≡ length (idents_among its.properties)
  long =
      length-map ds (meant_of its.answered)
      ∙ length-map (occurrences before) (denoted_of BySymbol Es (declared BySymbol Es before))
      ∙ sym (length-map (occurrences before) with_context)
      ∙ sym (ap length occurrences-with)
      ∙ sym (length-map (occurrences after) ident_of)
      ∙ ap (λ os. length (map ident_of os)) (occurrences-alone its.properties)
      ∙ ap length (idents_from alone_spot its.properties)

  marked : (marks : List Mark)
      × Marked None InObject (notes_alone (its_meants its.answered)) its.properties marks []
  marked = marked-alone written.fit refl InObject (its_meants its.answered) long

  are-properties : AreProperties p hooks m its.meta numbers its.answered its.properties
  are-properties = record {
    held = its.held;
    faultless = its.faultless;
    fit = fit;
    made_fit = written.fit;
    goes = R;
    one = one-to-one;
    from_seven = λ a b r. let low = r.0 in let on = r.1 in omega (arith, low, on);
    names = all-made;
    marks = marked.0;
    source =
        subst
        (λ items. Marked None InObject (notes_alone (its_meants its.answered)) items marked.0 [])
        answered-is (marked-cleared marked.1 (alone_alone (its_meants its.answered)));
    result = marked.1;
  }

  -- THE WRITTEN ANSWER
  pub written-answer : Answering p hooks context answers m its.answered its.properties
  written-answer = record {
    notes = its.meta;
    numbers = numbers;
    its = are-properties;
    apart = apart;
    due = due;
    holder = holder;
    holds = λ i kind begins name at. record {
      is = is-holder i kind begins name at;
      owns = holds_written;
      ctxt = sym (written.inside (numbers (begins + 2) name.sym));
      other = λ e. cc;
    };
    differ = λ i j kind other a b name its_name at there symbols e.
        let orders : a + 2 ≡ b + 2 =
        Numbers.numbered-apart its.local its.next its.later before after its.resolved i j (Inner kind a)
        (Inner other b) name its_name at there symbols (same-ctxt e) in
        omega (arith, orders);
  }

  pub written-notes : written-answer.notes ≡ its.meta
  unfolding written-answer
  written-notes = refl
