-- Items that stand at other places, and items of which identifiers change: order asks the same of
-- their identifiers.
use Rattle.std.proofs.Common.{◌≡◌, ℕ, zero, suc, ◌+◌, ◌&&◌, Bool, true, false, List, [], ◌∷◌, ◌++◌, Option, Some, None, codes, length, drop, slice_get, refl, sym, ap, ◌∙◌, subst, append-nil, arith}
use Rattle.std.specs.Prelude.{if◌then◌else◌}
use Rattle.std.specs.List.{AllZip}
use Rattle.std.specs.Option.{option_map, option_and_then}
use Rattle.std.proofs.lemmas.Bool.{false≢true}
use Rattle.bundle_syntax.specs.declared.piece.Role.{Role}
use Rattle.bundle_syntax.specs.declared.piece.Role.TheVariants as r
use Rattle.bundle_syntax.specs.Item as h
use Rattle.bundle_syntax.specs.Item.{Item, Head}
use Rattle.bundle_rules.specs.Places.{Spot, past, start, spot_before, Occurrence, occurrence_of, occurrence_at, occurrences_from, occurrences}
use Rattle.bundle_rules.specs.Scopes.{Es}
use Rattle.bundle_rules.specs.Declarations.{Reading, declared}
use Rattle.bundle_rules.specs.Denotes.{denoted_of}
use Rattle.bundle_rules.specs.Nodes.{Text}
use Rattle.bundle_rules.specs.Statements.{TopItem}
use Rattle.bundle_rules.specs.Order.{is_object_at, is_global_named, is_of_nothing}
use Rattle.bundle_rules.specs.Rebuilds.{Change, spells_out, plain_key, key_in_object}
use Rattle.bundle_tree_places.specs.Edits.{Around as Surrounding, Anywhere, InObject, InSpecifier, Edits, Edited, Nothing, Joined, Hole, Word, Name, Inside, Shorthand, node, next, renamed, in_its_place, binding, pattern_in_its_place}
use Rattle.bundle_tree_places.proofs.ListLemmas.{slice_get-drop}
use Rattle.bundle_scope_names.proofs.Told.{zip-from}
use Rattle.bundle_scope_denote.proofs.ChainLemmas.{AllZip-weaker}
use Rattle.bundle_merge_theory.specs.grouped.Paths.{is_named_item, OfNames, NameAlike, outside}
use Rattle.bundle_merge_theory.specs.grouped.Standing.{SameFlags, object_in, ItemsAlike}
use Rattle.bundle_merge_theory.specs.grouped.Placed.{IsTopPlaced, ObjectsAlike}
use Rattle.bundle_merge_theory.proofs.grouped.WholeLemmas.{drop-next}
use Rattle.bundle_merge_theory.proofs.grouped.NameLemmas.{names-alike}
use Rattle.bundle_merge_theory.proofs.grouped.FlagLemmas.{flags-alike}

-- ---- elements by their places
drop-get : {X : Type 0} (n : ℕ) (w : List X) (x : X) (rest : List X) → drop n w ≡ x ∷ rest →
    slice_get w n ≡ Some x
drop-get n w x rest e =
    ap (slice_get w) (let same : n ≡ n + 0 = omega arith in same)
    ∙ (sym (slice_get-drop n w 0) ∙ ap (λ l. slice_get l 0) e)

drop-more : {X : Type 0} (n k : ℕ) (w xs rest : List X) (x : X) (more : List X) →
    drop n w ≡ xs ++ rest → drop k xs ≡ x ∷ more → drop (n + k) w ≡ x ∷ (more ++ rest)
drop-more n zero w xs rest x more e f =
    ap (λ m. drop m w) (let same : n + 0 ≡ n = omega arith in same) ∙ (e ∙ ap (λ l. l ++ rest) f)
drop-more n (suc k) w [] rest x more e f = absurd cc
drop-more n (suc k) w (y ∷ xs) rest x more e f =
    ap (λ m. drop m w) (let same : n + suc k ≡ n + 1 + k = omega arith in same)
    ∙ drop-more (n + 1) k w xs rest x more (drop-next n w y (xs ++ rest) e) f

-- ---- the test of `Object` holds of identifiers alone
no_occurrence : (spot : Spot) (x : Item) → is_named_item x ≡ false → occurrence_of spot x ≡ None
no_occurrence spot (h.Open field head) e = refl
no_occurrence spot (h.Ident field x ctxt r.Word) e = refl
no_occurrence spot (h.Ident field x ctxt r.Binding) e = absurd (false≢true (sym e))
no_occurrence spot (h.Ident field x ctxt r.Reference) e = absurd (false≢true (sym e))
no_occurrence spot (h.Hole field) e = refl
no_occurrence spot h.Close e = refl

no_object : (reading : Reading) (tree : List Item) (place : ℕ) → occurrence_at tree place ≡ None →
    is_object_at reading tree place ≡ false
no_object reading tree place e =
    ap (λ (o : Option Occurrence). is_global_named (codes "Object")
    (option_map (denoted_of reading Es (declared reading Es tree)) o)
    && is_of_nothing reading o) e

pub of_names : (reading : Reading) (tree : List Item) (item : TopItem) → IsTopPlaced tree item →
    OfNames item.items (object_in reading tree item)
of_names reading tree item placed = record {
  none = λ place x rest e unnamed.
      let at : slice_get tree (item.start + place) ≡ Some x =
      drop-get (item.start + place) tree x (rest ++ placed.rest)
      (drop-more item.start place tree item.items placed.rest x rest placed.is e) in
      no_object reading tree (item.start + place)
      (ap (option_and_then (occurrence_of (spot_before tree (item.start + place)))) at
      ∙ no_occurrence (spot_before tree (item.start + place)) x unnamed);
}

-- ---- an item of which identifiers change

-- the roles of the identifiers in turn
pub roles : List Item → List Role
roles [] = []
roles (h.Open field head ∷ rest) = roles rest
roles (h.Ident field x ctxt r.Word ∷ rest) = roles rest
roles (h.Ident field x ctxt r.Binding ∷ rest) = r.Binding ∷ roles rest
roles (h.Ident field x ctxt r.Reference ∷ rest) = r.Reference ∷ roles rest
roles (h.Hole field ∷ rest) = roles rest
roles (h.Close ∷ rest) = roles rest

roles-append : (xs ys : List Item) → roles (xs ++ ys) ≡ roles xs ++ roles ys
unfolding roles
roles-append [] ys = refl
roles-append (h.Open field head ∷ xs) ys = roles-append xs ys
roles-append (h.Ident field x ctxt r.Word ∷ xs) ys = roles-append xs ys
roles-append (h.Ident field x ctxt r.Binding ∷ xs) ys =
    ap (λ l. r.Binding ∷ l) (roles-append xs ys)
roles-append (h.Ident field x ctxt r.Reference ∷ xs) ys =
    ap (λ l. r.Reference ∷ l) (roles-append xs ys)
roles-append (h.Hole field ∷ xs) ys = roles-append xs ys
roles-append (h.Close ∷ xs) ys = roles-append xs ys

pub roles-count : (spot : Spot) (xs : List Item) →
    length (occurrences_from spot xs) ≡ length (roles xs)
unfolding roles
roles-count spot [] = refl
roles-count spot (h.Open field head ∷ xs) = roles-count (past spot (h.Open field head)) xs
roles-count spot (h.Ident field x ctxt r.Word ∷ xs) =
    roles-count (past spot (h.Ident field x ctxt r.Word)) xs
roles-count spot (h.Ident field x ctxt r.Binding ∷ xs) =
    ap (λ n. suc n) (roles-count (past spot (h.Ident field x ctxt r.Binding)) xs)
roles-count spot (h.Ident field x ctxt r.Reference ∷ xs) =
    ap (λ n. suc n) (roles-count (past spot (h.Ident field x ctxt r.Reference)) xs)
roles-count spot (h.Hole field ∷ xs) = roles-count (past spot (h.Hole field)) xs
roles-count spot (h.Close ∷ xs) = roles-count (past spot h.Close) xs

roles-node : (field : ℕ) (head : Head) (inside : List Item) →
    roles (node field head inside) ≡ roles inside
unfolding roles
roles-node field head inside = roles-append inside (h.Close ∷ []) ∙ append-nil (roles inside)

roles-renamed : (change : Option Change) (f g : ℕ) (x : Text) (ctxt : ℕ) (role : Role) →
    roles (h.Ident f x ctxt role ∷ []) ≡ roles (renamed change g x ctxt role ∷ [])
unfolding roles
roles-renamed None f g x ctxt r.Word = refl
roles-renamed None f g x ctxt r.Binding = refl
roles-renamed None f g x ctxt r.Reference = refl
roles-renamed (Some change) f g x ctxt r.Word = refl
roles-renamed (Some change) f g x ctxt r.Binding = refl
roles-renamed (Some change) f g x ctxt r.Reference = refl

roles-key : (proto : Bool) (x : Text) (rest : List Item) →
    roles ((if proto then h.Open 0 h.ComputedPropName ∷ h.Open 0 (h.Str x None) ∷ h.Close ∷ h.Close
    ∷ [] else plain_key x) ++ rest) ≡ roles rest
unfolding roles
roles-key true x rest = refl
roles-key false x rest = refl

roles-object : (b : Bool) (change : Option Change) (field : ℕ) (x : Text) (ctxt : ℕ) (role : Role)
    →
    roles (h.Ident field x ctxt role ∷ [])
    ≡ roles (if b then node field h.KeyValueProp
    (key_in_object x ++ renamed change 1 x ctxt role ∷ []) else renamed change field x ctxt
    role ∷ [])
roles-object true change field x ctxt role =
    roles-renamed change field 1 x ctxt role
    ∙ (sym (roles-key _ x (renamed change 1 x ctxt role ∷ []))
    ∙ sym (roles-node field h.KeyValueProp (key_in_object x ++ renamed change 1 x ctxt role
    ∷ [])))
roles-object false change field x ctxt role = roles-renamed change field field x ctxt role

roles-specifier : (b : Bool) (change : Option Change) (field : ℕ) (x : Text) (ctxt : ℕ)
    (role : Role) →
    roles (h.Ident field x ctxt role ∷ [])
    ≡ roles (if b then renamed change field x ctxt role ∷ h.Ident 1 x 0 r.Word
    ∷ [] else renamed change field x ctxt role ∷ [])
unfolding roles
roles-specifier true change field x ctxt role =
    roles-renamed change field field x ctxt role
    ∙ (sym (append-nil (roles (renamed change field x ctxt role ∷ [])))
    ∙ sym (roles-append (renamed change field x ctxt role ∷ []) (h.Ident 1 x 0 r.Word ∷ [])))
roles-specifier false change field x ctxt role = roles-renamed change field field x ctxt role

roles-place : (around : Surrounding) (change : Option Change) (field : ℕ) (x : Text) (ctxt : ℕ)
    (role : Role) →
    roles (h.Ident field x ctxt role ∷ []) ≡ roles (in_its_place around change field x ctxt role)
roles-place Anywhere change field x ctxt role = roles-renamed change field field x ctxt role
roles-place InObject change field x ctxt role =
    roles-object (spells_out change) change field x ctxt role
roles-place InSpecifier change field x ctxt role =
    roles-specifier (spells_out change) change field x ctxt role

-- a name in a pattern before others
roles-binding : (change : Option Change) (f : ℕ) (x : Text) (ctxt : ℕ) (role : Role)
    (d made : List Item) →
    roles d ≡ roles made →
    roles (binding None 0 x ctxt role ++ d) ≡ roles (binding change f x ctxt role ++ made)
roles-binding change f x ctxt role d made e =
    roles-append (binding None 0 x ctxt role) d
    ∙ (ap (λ l. l ++ roles d) (roles-node 0 h.BindingIdent (h.Ident 0 x ctxt role ∷ [])
    ∙ (roles-renamed change 0 0 x ctxt role
    ∙ sym (roles-node f h.BindingIdent (renamed change 0 x ctxt role ∷ []))))
    ∙ (ap (λ l. roles (binding change f x ctxt role) ++ l) e
    ∙ sym (roles-append (binding change f x ctxt role) made)))

roles-pattern : (change : Option Change) (x : Text) (ctxt : ℕ) (role : Role) (d made : List Item) →
    roles d ≡ roles made →
    roles (binding None 0 x ctxt role ++ d) ≡ roles (pattern_in_its_place change x ctxt role made)
roles-pattern change x ctxt role d [] e =
    roles-binding change 1 x ctxt role d [] e
    ∙ ap roles (append-nil (binding change 1 x ctxt role))
roles-pattern change x ctxt role d (one ∷ more) e =
    roles-binding change 0 x ctxt role d (one ∷ more) e
    ∙ sym (roles-node 1 h.AssignPat (binding change 0 x ctxt role ++ one ∷ more))

roles-short : (b : Bool) (change : Option Change) (field : ℕ) (x : Text) (ctxt : ℕ) (role : Role)
    (d made : List Item) →
    roles d ≡ roles made →
    roles (node field h.AssignPatProp (binding None 0 x ctxt role ++ d))
    ≡ roles (if b then node field h.KeyValuePatProp
    (plain_key x ++ pattern_in_its_place change x ctxt role made) else node field
    h.AssignPatProp (binding change 0 x ctxt role ++ made))
roles-short true change field x ctxt role d made e =
    roles-node field h.AssignPatProp (binding None 0 x ctxt role ++ d)
    ∙ (roles-pattern change x ctxt role d made e
    ∙ (sym (roles-key false x (pattern_in_its_place change x ctxt role made))
    ∙ sym (roles-node field h.KeyValuePatProp
    (plain_key x ++ pattern_in_its_place change x ctxt role made))))
roles-short false change field x ctxt role d made e =
    roles-node field h.AssignPatProp (binding None 0 x ctxt role ++ d)
    ∙ (roles-binding change 0 x ctxt role d made e
    ∙ sym (roles-node field h.AssignPatProp (binding change 0 x ctxt role ++ made)))

-- the roles stay
pub roles-edited : {around : Surrounding} {changes rest : List Change} {before after : List Item} →
    Edits around changes before after rest → roles before ≡ roles after
roles-edited Nothing = refl
roles-edited (Joined {first = first} {made_first = made_first} {second = second}
    {made_second = made_second} one two) =
    roles-append first second
    ∙ (ap (λ l. l ++ roles second) (roles-edited one)
    ∙ (ap (λ l. roles made_first ++ l) (roles-edited two)
    ∙ sym (roles-append made_first made_second)))
roles-edited (Hole field) = refl
roles-edited (Word field x ctxt role plain) = refl
roles-edited (Name around {changes = changes} field x ctxt role occurs) =
    roles-place around (next changes) field x ctxt role
roles-edited (Inside field head {inside = inside} {made = made} plain one) =
    roles-node field head inside ∙ (roles-edited one ∙ sym (roles-node field head made))
roles-edited (Shorthand {changes = changes} field x ctxt role {default = d} {made = made} occurs
    one) =
    roles-short (spells_out (next changes)) (next changes) field x ctxt role d made
    (roles-edited one)

-- the identifiers of an edited list correspond
pub names-edited : {changes rest : List Change} {before after : List Item}
    (test_before test_after : ℕ → Bool) →
    OfNames before test_before → OfNames after test_after →
    Edits Anywhere changes before after rest →
    ((i : ℕ) (o p : Occurrence) → slice_get (occurrences before) i ≡ Some o →
    slice_get (occurrences after) i ≡ Some p → test_before o.place ≡ test_after p.place) →
    AllZip (NameAlike before after test_before test_after) (occurrences before) (occurrences after)
names-edited {before = before} {after = after} test_before test_after of_before of_after edits
    tests =
    names-alike before after test_before test_after of_before of_after edits start start [] [] tt
    (record {
      here = sym (append-nil before);
      its = sym (append-nil after);
      tests =
          subst (λ (l : List Item). AllZip (λ (o p : Occurrence). test_before o.place
          ≡ test_after p.place) (occurrences l) (occurrences (after ++ [])))
          (sym (append-nil before))
          (subst (λ (l : List Item). AllZip (λ (o p : Occurrence). test_before o.place
          ≡ test_after p.place) (occurrences before) (occurrences l)) (sym (append-nil after))
          (zip-from (λ (o p : Occurrence). test_before o.place ≡ test_after p.place)
          (occurrences before) (occurrences after) (roles-count start before
          ∙ (ap length (roles-edited edits) ∙ sym (roles-count start after))) tests));
    })
    (λ m. outside)

-- an item of which identifiers change, wherever the two stand
pub edited-alike : (reading : Reading) (tree : List Item) (its_reading : Reading)
    (its_tree : List Item) (item its : TopItem) {changes : List Change} →
    Edited changes item.items its.items → IsTopPlaced tree item → IsTopPlaced its_tree its →
    ObjectsAlike reading tree its_reading its_tree item its →
    ItemsAlike reading tree its_reading its_tree item its
edited-alike reading tree its_reading its_tree item its edited placed its_placed objects =
    AllZip-weaker (NameAlike item.items its.items (object_in reading tree item)
    (object_in its_reading its_tree its))
    (SameFlags item.items its.items (object_in reading tree item)
    (object_in its_reading its_tree its))
    (flags-alike item.items its.items (object_in reading tree item)
    (object_in its_reading its_tree its)) (occurrences item.items) (occurrences its.items)
    (names-edited (object_in reading tree item) (object_in its_reading its_tree its)
    (of_names reading tree item placed) (of_names its_reading its_tree its its_placed)
    edited.by objects)
