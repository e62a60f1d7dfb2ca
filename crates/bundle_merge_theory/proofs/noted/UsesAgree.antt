-- What an item of a bundle means, and what a statement of a module does.
-- What is found of a use of a name, with the reads around it, is the note that agrees with what is
-- replaced.
use Rattle.std.proofs.Common.{◌≡◌, ℕ, true, false, List, [], ◌∷◌, ◌++◌, append-nil, Option, None, refl, sym, ap, ◌∙◌, subst, zero, suc, ◌+◌, ◌<◌, ◌≤◌, ◌==◌, Bool, length, drop, Some, arith}
use Rattle.std.specs.Prelude.{Contains, if◌then◌else◌, take, slice_get, option_map, option_and_then}
use Rattle.std.proofs.lemmas.Bool.{false≢true, eqb-true, eq-eqb}
use Rattle.std.proofs.lemmas.Option.{none-some, same_Some}
use Rattle.std.proofs.lemmas.List.{length-take-le, take-append-drop}
use Rattle.bundle_syntax.specs.Item as h
use Rattle.bundle_syntax.specs.Item.{Item, Head}
use Rattle.bundle_syntax.specs.declared.piece.Role.{Role}
use Rattle.bundle_rules.specs.Places.{Around, Occurrence, start, in_field as field_in, spot_before, occurrences_from, Spot, past, path_to_option, occurrence_of, path_at}
use Rattle.bundle_rules.specs.Scopes.{ModuleKind, Top, Es}
use Rattle.bundle_rules.specs.Denotes.{Denoted, Bound, denoted_of, denoted_at}
use Rattle.bundle_rules.specs.Statements.{Element, taken_from, TopItem, top_items, stated, default_name}
use Rattle.bundle_rules.specs.Program.{Program, tree_of}
use Rattle.bundle_rules.specs.Meaning.{Sense, Replacement, Meant, Mark, plain, inner_bindings, NameMeans, finished, Replaced, HasKind, own_view, own_sense, OwnMeaning, ByName, ByCall, Of, Load, Known, ReadsAs, by_name, by_read, static_read}
use Rattle.bundle_rules.specs.Bundle.{Labelled, sense_of, elements_of, ItemMeans}
use Rattle.bundle_rules.specs.Declarations.{Name, BySymbol, declared}
use Rattle.bundle_rules.specs.Nodes.{Text}
use Rattle.bundle_rules.specs.Reads.{read_word}
use Rattle.bundle_rules.specs.Linking.{Target, Namespace, Linked, StandsFor}
use Rattle.bundle_tree_places.specs.Edits.{Anywhere}
use Rattle.bundle_tree_places.proofs.ListLemmas.{drop_at, slice_get-drop}
use Rattle.bundle_link_tables.specs.Used.{words_around}
use Rattle.bundle_link_targets.specs.Meant.{ReadsOn, done, on, WordsMean}
use Rattle.bundle_link_targets.proofs.ListLemmas.{first-there}
use Rattle.bundle_link.proofs.NodePaths.{fold-place, IsName}
use Rattle.bundle_link.specs.Nested as nested
use Rattle.bundle_merge_theory.specs.noted.Nodes.{AreNodesInTurn}
use Rattle.bundle_merge_theory.specs.noted.Marked.{Note, Marked}
use Rattle.bundle_merge_theory.specs.noted.Agrees.{IsSpotAt, IsClear, Agrees, AgreeInTurn, MeansAlone, EachMeans, IsListing, ReplacesNotable, StandsAlone, StandsForReads}
use Rattle.bundle_merge_theory.specs.noted.Stated.{declares_default, MarkedStated}
use Rattle.bundle_merge_theory.proofs.noted.Spots.{around_spot, at-first, at-spot, at-past, at-path}
use Rattle.bundle_merge_theory.proofs.noted.Replaces.{clear-field, other_unreplaced, word_property}
use Rattle.bundle_merge_theory.proofs.noted.Inner.{is_object_around, HasDefault, object-field, Stands, means_as}
use Rattle.bundle_merge_theory.proofs.noted.Bridge.{bridge}
use Rattle.bundle_merge_theory.proofs.noted.Statements.{is_in_short, stated_bridge}
use Rattle.bundle_merge_theory.proofs.noted.Names.{StandsThere, top_there}
use Rattle.bundle_merge_theory.proofs.noted.ListFacts.{later-there}
use Rattle.bundle_merge_theory.proofs.noted.Shapes.{IsReads}
use Rattle.bundle_merge_theory.proofs.noted.StaticReads.{read_there, get-drop}
use Rattle.bundle_merge_theory.proofs.noted.Agreements.{name_is, member_before, Replaces, by_reads_of, by_call_of, IsThere, agrees_alone as agrees_alone_uses_agree, agrees_reads}

-- ---- items

-- the spot of an item
spot_there : {tree : List Item} {path : List Around} {item : TopItem}
    (its : StandsThere tree path item) → spot_before tree item.start ≡ its.s
spot_there {tree = tree} its = ap (spot_before tree) (sym its.place) ∙ at-spot its.at

not_in_short : (tree : List Item) (path : List Around) (field : ℕ) → is_in_short path ≡ false →
    HasDefault tree (field_in field path)
not_in_short tree [] field short = tt
not_in_short tree (node ∷ outer) field short = λ is. absurd (false≢true (sym short ∙ is))

-- where none around it is an object literal or a shorthand property, nor replaced
pub stands_there : (sense : Sense) {path : List Around} {item : TopItem}
    (its : StandsThere sense.view.tree path item) → is_object_around path ≡ false →
    is_in_short path ≡ false → IsClear sense.replaced path → Stands sense Anywhere its.s
stands_there sense {path = path} its object short clear = record {
  object = ap is_object_around its.path_is ∙ object-field its.field path ∙ object;
  default =
      subst (HasDefault sense.view.tree) (sym its.path_is)
      (not_in_short sense.view.tree path its.field short);
  clear =
      subst (IsClear sense.replaced) (sym its.path_is)
      (clear-field sense.replaced its.field path clear);
}

-- ---- where nothing is replaced
module _ (sense : Sense) (inner : List Denoted)
    (nothing : (place : ℕ) (by : Replacement) → sense.replaced place by → ⊥) where
  pub all_clear : (path : List Around) → IsClear sense.replaced path
  all_clear [] = tt
  all_clear (node ∷ outer) = (nothing node.begins, all_clear outer)

  agrees_alone : (o : Occurrence) (note : Note) → MeansAlone sense inner o note →
      Agrees sense inner o note.meant note.whole
  agrees_alone o note its =
      subst (λ whole. Agrees sense inner o note.meant whole) (sym its.alone)
      (record { d = its.d; denotes = its.denotes; means = its.means; clear = all_clear o.path })

  pub all_agree : (os : List Occurrence) (notes : List Note) → EachMeans sense inner os notes →
      AgreeInTurn sense inner os notes
  all_agree [] notes each = tt
  all_agree (o ∷ os) [] each = each
  all_agree (o ∷ os) (note ∷ notes) each = (agrees_alone o note each.0, all_agree os notes each.1)

  pub none_notable : (meta : Option Meant) → meta ≡ None → ReplacesNotable sense meta
  none_notable meta none = record {
    nodes = λ place field head by there clear is. absurd (nothing place by is);
    metas = λ place field meant there is. absurd (none-some meant (sym none ∙ is));
  }

-- ---- an item of a bundle means the marks that it has with the notes of its names
pub item_means : (b : Labelled) → IsListing b.tree → (item : TopItem) (path : List Around) →
    StandsThere b.tree path item → is_object_around path ≡ false → is_in_short path ≡ false →
    (notes rest : List Note) (marks : List Mark) →
    Marked None Anywhere notes item.items marks rest →
    EachMeans (sense_of b) (inner_bindings (sense_of b).view item.start (elements_of item))
    (occurrences_from (spot_before b.tree item.start) item.items) notes → ItemMeans b item marks
item_means b listing item path its object short notes rest marks marked each =
    let sense : Sense = sense_of b in
    let inner : List Denoted = inner_bindings sense.view item.start (elements_of item) in
    let nothing : (place : ℕ) (by : Replacement) → sense.replaced place by → ⊥ =
    λ place by none. none in
    let agree =
    all_agree sense inner nothing (occurrences_from (its.s) item.items) notes
    (subst (λ t. EachMeans sense inner (occurrences_from t item.items) notes) (spot_there its)
    each) in
    let bridged = bridge sense inner None listing (none_notable sense inner nothing None refl) marked (its.s) its.tail [] its.at (stands_there sense its object short (all_clear sense inner nothing path))
    (subst (λ l. AgreeInTurn sense inner l notes)
    (sym (append-nil (occurrences_from (its.s) item.items))) agree)
    in
    means_as sense inner
    (append-nil (taken_from (its.s).place item.items)
    ∙ ap (λ place. taken_from place item.items) its.place)
    (append-nil marks) (bridged.gives.before [] [] finished)

-- ---- a statement of a module means the marks that it has with right notes
pub own_meaning : (p : Program) (m : ℕ) (kind : ModuleKind) → HasKind p m kind →
    (meta : Option Meant) (default : Meant) → IsListing (tree_of p m) →
    ReplacesNotable (own_sense p m kind) meta → (item : TopItem) (path : List Around) →
    StandsThere (tree_of p m) path item → is_object_around path ≡ false →
    is_in_short path ≡ false → IsClear (Replaced p m) path →
    (notes rest : List Note) (marks : List Mark) →
    MarkedStated meta default notes item.items marks rest → (statement : List Element) →
    stated item.start item.items ≡ statement ∷ [] →
    AgreeInTurn (own_sense p m kind) (inner_bindings (own_view p m kind) 0 statement)
    (occurrences_from (spot_before (tree_of p m) item.start) item.items) notes →
    (declares_default item.items ≡ true →
    NameMeans (own_sense p m kind) (inner_bindings (own_view p m kind) 0 statement)
    (Bound Top (plain default_name)) default) → OwnMeaning p m statement marks
own_meaning p m kind has_kind meta default listing replaces item path its object short clear notes
    rest marks marked statement is agree default_means =
    let sense : Sense = own_sense p m kind in
    let inner : List Denoted = inner_bindings (own_view p m kind) 0 statement in
    let here =
    subst (λ t. AgreeInTurn sense inner (occurrences_from t item.items) notes) (spot_there its)
    agree in
    let bridged = stated_bridge sense inner meta default listing replaces marked (its.s) its.tail [] its.at (stands_there sense its object short clear)
    (subst (λ l. AgreeInTurn sense inner l notes)
    (sym (append-nil (occurrences_from (its.s) item.items))) here)
    default_means in
    record {
      kind = kind;
      has_kind = has_kind;
      means = bridged.means statement (ap (λ place. stated place item.items) its.place ∙ is);
    }

-- the same of the top items of a module's tree
pub top_means : (p : Program) (m : ℕ) (kind : ModuleKind) → HasKind p m kind →
    (meta : Option Meant) (default : Meant) → IsListing (tree_of p m) →
    ReplacesNotable (own_sense p m kind) meta → (field : ℕ) (xs behind : List Item) → AreNodesInTurn xs →
    tree_of p m ≡ h.Open field h.Module ∷ (xs ++ h.Close ∷ behind) → (item : TopItem) →
    Contains (top_items (tree_of p m)) item → (notes rest : List Note) (marks : List Mark) →
    MarkedStated meta default notes item.items marks rest → (statement : List Element) →
    stated item.start item.items ≡ statement ∷ [] →
    AgreeInTurn (own_sense p m kind) (inner_bindings (own_view p m kind) 0 statement)
    (occurrences_from (spot_before (tree_of p m) item.start) item.items) notes →
    (declares_default item.items ≡ true →
    NameMeans (own_sense p m kind) (inner_bindings (own_view p m kind) 0 statement)
    (Bound Top (plain default_name)) default) → OwnMeaning p m statement marks
top_means p m kind has_kind meta default listing replaces field xs behind nodes tree item c notes
    rest marks marked statement is agree default_means =
    own_meaning p m kind has_kind meta default listing replaces item (around_spot h.Module 0 0 ∷ []) its
    refl refl (none, tt) notes rest marks marked statement is agree default_means
  where
    whole : List Item
    whole = h.Open field h.Module ∷ (xs ++ h.Close ∷ behind)

    its : StandsThere (tree_of p m) (around_spot h.Module 0 0 ∷ []) item
    its =
        subst (λ l. StandsThere l (around_spot h.Module 0 0 ∷ []) item) (sym tree)
        (top_there field h.Module nodes behind item
        (subst (λ l. Contains (top_items l) item) tree c))

    none : (by : Replacement) → Replaced p m 0 by → ⊥
    none =
        other_unreplaced (own_sense p m kind) [] listing meta replaces start field h.Module
        (xs ++ h.Close ∷ behind)
        (subst (λ l. IsSpotAt (tree_of p m) start l) tree (at-first (tree_of p m))) tt
        (λ inside by it. elim it [ ])

-- ---- the words around a place, one by one
pub record WordsFrom (tree : List Item) (place : ℕ) (path : List Around) (x : Text)
    (words : List Text) : Type 0 where
  pub node : Around
  pub outer : List Around
  pub path_is : path ≡ node ∷ outer
  pub near : node.begins + 1 ≡ place
  pub word : read_word tree node.begins ≡ Some x
  pub rest : words ≡ words_around tree node.begins outer

words_from : (tree : List Item) (place : ℕ) (path : List Around) (x : Text) (words : List Text) →
    words_around tree place path ≡ x ∷ words → WordsFrom tree place path x words
words_from tree place [] x words e = cc
words_from tree place (node ∷ outer) x words e = by (node.begins + 1 == place) refl e
  where
    found : (o : Option Text) → read_word tree node.begins ≡ o → node.begins + 1
        ≡ place → (elim o [ None ↦ [] | Some y ↦ y ∷ words_around tree node.begins outer ])
        ≡ x ∷ words → WordsFrom tree place (node ∷ outer) x words
    found None is near e = cc
    found (Some y) is near e =
        let same : y ≡ x = cc in
        let more : words_around tree node.begins outer ≡ words = cc in
        record
        { node = node; outer = outer; path_is = refl; near = near; word = is ∙ ap Some same; rest = sym more }

    by : (b : Bool) → (node.begins + 1 == place)
        ≡ b →
        (if b then
        (elim (read_word tree node.begins)
        [ None ↦ [] | Some y ↦ y ∷ words_around tree node.begins outer ])
        else []) ≡ x ∷ words → WordsFrom tree place (node ∷ outer) x words
    by true is e = found (read_word tree node.begins) refl (eqb-true (node.begins + 1) place is) e
    by false is e = cc

-- ---- the path in a node that begins
pub get-within : {A : Type 0} (xs : List A) (b : ℕ) (x : A) → slice_get xs b ≡ Some x → b < length xs
get-within [] b x e = absurd (none-some x e)
get-within (y ∷ xs) zero x e = omega arith
get-within (y ∷ xs) (suc b) x e = let l = get-within xs b x e in omega (arith, l)

inner_field : (node : Around) (outer : List Around) (o : Option Item) →
    (g : ℕ) × (path_to_option (node ∷ outer) o ≡ around_spot node.head node.begins g ∷ outer)
inner_field node outer None = (node.field, refl)
inner_field node outer (Some (h.Open field head)) = (field, refl)
inner_field node outer (Some (h.Ident field x ctxt role)) = (field, refl)
inner_field node outer (Some (h.Hole field)) = (field, refl)
inner_field node outer (Some h.Close) = (node.field, refl)

pub path_next : (tree : List Item) (b f : ℕ) (head : Head) →
    slice_get tree b ≡ Some (h.Open f head) →
    (g : ℕ) × (path_at tree (suc b) ≡ around_spot head b g ∷ path_at tree b)
path_next tree b f head e = (
  field.0,
  ap (path_at tree) next
      ∙ at-path behind
      ∙ field.1
      ∙ ap (λ p. around_spot head p field.0 ∷ field_in f spot.path) place
      ∙ ap (λ o. around_spot head b field.0 ∷ path_to_option spot.path o) (sym e),
)
  where
    spot : Spot
    spot = spot_before tree b

    place : (spot_before tree b).place ≡ b
    place =
        let n = fold-place start (take b tree) in
        let l = get-within tree b (h.Open f head) e in
        let k = length-take-le b tree (omega (arith, l)) in omega (arith, n, k)

    here : IsSpotAt tree (spot_before tree b) (h.Open f head ∷ drop (suc b) tree)
    here =
        record
        { front = take b tree; tree_is = sym (take-append-drop b tree) ∙ ap (λ l. take b tree ++ l) (drop_at tree b (h.Open f head) e); spot_is = refl }

    behind : IsSpotAt tree (past (spot_before tree b) (h.Open f head)) (drop (suc b) tree)
    behind = at-past (h.Open f head) (drop (suc b) tree) here

    next : suc b ≡ (spot_before tree b).place + 1
    next = let p = place in omega (arith, p)

    field : (g : ℕ)
        × (path_to_option
        (around_spot head (spot_before tree b).place 0 ∷ field_in f (spot_before tree b).path)
        (slice_get (drop (suc b) tree) 0)
        ≡ around_spot head (spot_before tree b).place g ∷ field_in f (spot_before tree b).path)
    field =
        inner_field (around_spot head (spot_before tree b).place 0)
        (field_in f (spot_before tree b).path) (slice_get (drop (suc b) tree) 0)

abbrev words_at : List Item → ℕ → List Text
words_at tree place = words_around tree place (path_at tree place)

words_next : (tree : List Item) (b f : ℕ) (head : Head) (x : Text) →
    slice_get tree b ≡ Some (h.Open f head) → read_word tree b ≡ Some x →
    words_at tree (suc b) ≡ x ∷ words_at tree b
words_next tree b f head x e word =
    let its = path_next tree b f head e in
    let near : b + 1 ≡ suc b = omega arith in
    ap (words_around tree (suc b)) its.1
    ∙ ap
    (λ c.
    if c then
    (elim (read_word tree b) [ None ↦ [] | Some y ↦ y ∷ words_around tree b (path_at tree b) ])
    else [])
    (eq-eqb (b + 1) (suc b) near)
    ∙ ap (λ o. elim o [ None ↦ [] | Some y ↦ y ∷ words_around tree b (path_at tree b) ]) word

module _ (pr : Program) (m : ℕ) where
  -- ---- outward
  -- a node around the place is that of so many reads
  pub record IsFar (place : ℕ) (path : List Around) (n : ℕ) (t : Target) : Type 0 where
    pub node : Around
    pub there : Contains path node
    pub far : node.begins + n ≡ place
    pub x : Text
    pub word : read_word (tree_of pr m) node.begins ≡ Some x
    pub reads : ReadsAs pr m node.begins t

  -- no read, or so many
  pub data Outward (place : ℕ) (path : List Around) : ℕ → Target → Target → Type 0 where
    no_read : {t : Target} → Outward place path zero t t
    far_out : {n : ℕ} {s t : Target} → IsFar place path (suc n) t → Outward place path (suc n) s t

  pub outward : {s t : Target} {words : List Text} {n : ℕ} → ReadsOn pr s words n t →
      (place : ℕ) (path : List Around) → words ≡ words_around (tree_of pr m) place path →
      ReadsAs pr m place s → Outward place path n s t
  outward (done is) place path e reads = no_read
  outward (on {d = d} {n = n} {x = x} {words = words} {t = t} {u = u} linked more) place path e
      reads =
      let from = words_from (tree_of pr m) place path x words (sym e) in
      let its_reads =
      by_read from.word (subst (λ p. ReadsAs pr m p (Namespace d)) (next from.near) reads)
      linked in
      step from its_reads (outward more from.node.begins from.outer from.rest its_reads)
    where
      next : {b : ℕ} → b + 1 ≡ place → place ≡ suc b
      next e = omega (arith, e)

      step : (from : WordsFrom (tree_of pr m) place path x words) {k : ℕ} {s v : Target} →
          ReadsAs pr m from.node.begins s → Outward from.node.begins from.outer k s v →
          Outward place path (suc k) (Namespace d) v
      step from reads no_read = far_out (record {
        node = from.node;
        there =
            subst (λ l. Contains l from.node) (sym from.path_is)
            (first-there from.node from.outer);
        far = from.near;
        x = x;
        word = from.word;
        reads = reads;
      })
      step from reads (far_out {n = k} its) = far_out (record {
        node = its.node;
        there =
            subst (λ l. Contains l its.node) (sym from.path_is)
            (later-there from.node from.outer its.node its.there);
        far = let near = from.near in let far = its.far in omega (arith, near, far);
        x = its.x;
        word = its.word;
        reads = its.reads;
      })

  -- ---- no further
  -- a read, one by one
  record IsRead_at (b : ℕ) (v : Target) : Type 0 where
    x : Text
    d : ℕ
    word : read_word (tree_of pr m) b ≡ Some x
    reads : ReadsAs pr m (suc b) (Namespace d)
    linked : Linked pr d x v

  read_at : {b : ℕ} {v : Target} → ReadsAs pr m b v → (f : ℕ) (head : Head) →
      slice_get (tree_of pr m) b ≡ Some (h.Open f head) → IsRead_at b v
  read_at (by_read {d = d} {x = x} word reads linked) f head e =
      record { x = x; d = d; word = word; reads = reads; linked = linked }
  read_at (by_name {place = b} denotes stands) f head e =
      absurd (none-some _ (sym (none) ∙ denotes))
    where
      none : denoted_at BySymbol Es (tree_of pr m) b ≡ None
      none =
          ap
          (λ o.
          option_map (denoted_of BySymbol Es (declared BySymbol Es (tree_of pr m)))
          (option_and_then (occurrence_of (spot_before (tree_of pr m) b)) o))
          e

  -- member expressions one in the other
  abbrev pub AreMembers : ℕ → ℕ → Type 0
  AreMembers begins more =
      (j : ℕ) → j < more →
      (f : ℕ) × (slice_get (tree_of pr m) (begins + j) ≡ Some (h.Open f h.MemberExpr))

  unrolled : (begins more : ℕ) → AreMembers begins more → (u : Target) → ReadsAs pr m begins u →
      (i : ℕ) → i ≤ more → (v : Target) × ReadsAs pr m (begins + i) v
  unrolled begins more members u reads zero l =
      let e : begins ≡ begins + 0 = omega arith in (u, subst (λ b. ReadsAs pr m b u) e reads)
  unrolled begins more members u reads (suc i) l =
      let before = unrolled begins more members u reads i (omega (arith, l)) in
      let member = members i (omega (arith, l)) in
      let its = read_at before.1 member.0 h.MemberExpr member.1 in
      let e : suc (begins + i) ≡ begins + suc i = omega arith in
      (Namespace its.d, subst (λ b. ReadsAs pr m b (Namespace its.d)) e its.reads)

  same_module : (d e : ℕ) → Namespace d ≡ Namespace e → d ≡ e
  same_module d e same = cc

  same_word : (x y : Text) → Some x ≡ Some y → x ≡ y
  same_word x y same = same_Some x y same

  cons_head : (x y : Text) (xs ys : List Text) → x ∷ xs ≡ y ∷ ys → x ≡ y
  cons_head x y xs ys e = cc

  cons_tail : (x y : Text) (xs ys : List Text) → x ∷ xs ≡ y ∷ ys → xs ≡ ys
  cons_tail x y xs ys e = cc

  -- what reads as a target in two ways reads as one
  same_read : {b : ℕ} {v w : Target} {d : ℕ} {x : Text} →
      ((other : Target) → ReadsAs pr m (suc b) other → other ≡ Namespace d) →
      (f : ℕ) (head : Head) → slice_get (tree_of pr m) b ≡ Some (h.Open f head) →
      read_word (tree_of pr m) b ≡ Some x → Linked pr d x v → ReadsAs pr m b w → w ≡ v
  same_read {b = b} {v = v} {w = w} {d = d} {x = x} only f head e word linked reads =
      let its = read_at reads f head e in
      let one : its.d ≡ d = same_module its.d d (only (Namespace its.d) its.reads) in
      let name : its.x ≡ x = same_word its.x x (sym its.word ∙ word) in
      let other : Linked pr d x w =
      subst (λ y. Linked pr d y w) name (subst (λ k. Linked pr k its.x w) one its.linked) in
      (linked.only w other.origin other.given).0

  -- no more reads are replaced than are found
  pub longest : {s t : Target} {words : List Text} {n : ℕ} → ReadsOn pr s words n t → (place : ℕ) →
      words ≡ words_at (tree_of pr m) place →
      ((other : Target) → ReadsAs pr m place other → other ≡ s) → (begins more : ℕ) →
      begins + more ≡ place → AreMembers begins more → (u : Target) → ReadsAs pr m begins u →
      more ≤ n
  longest reads place e only begins zero far members u its = omega arith
  longest (done {t = s} {words = words} is) place e only begins (suc k) far members u its =
      let before = unrolled begins (suc k) members u its k (omega arith) in
      let member = members k (omega arith) in
      let r = read_at before.1 member.0 h.MemberExpr member.1 in
      let next : place ≡ suc (begins + k) = omega (arith, far) in
      let words_are : words ≡ r.x ∷ words_at (tree_of pr m) (begins + k) =
      e
      ∙ ap (words_at (tree_of pr m)) next
      ∙ words_next (tree_of pr m) (begins + k) member.0 h.MemberExpr r.x member.1 r.word in
      let namespace : s ≡ Namespace r.d =
      sym
      (only (Namespace r.d)
      (subst (λ p. ReadsAs pr m p (Namespace r.d)) (sym next) r.reads)) in
      absurd
      (is r.d r.x (words_at (tree_of pr m) (begins + k)) before.0 namespace words_are r.linked)
  longest (on {d = d} {n = n} {x = x} {words = words} {t = t} linked more) place e only begins
      (suc k) far members u its =
      let before = unrolled begins (suc k) members u its k (omega arith) in
      let member = members k (omega arith) in
      let r = read_at before.1 member.0 h.MemberExpr member.1 in
      let next : place ≡ suc (begins + k) = omega (arith, far) in
      let words_are : x ∷ words ≡ r.x ∷ words_at (tree_of pr m) (begins + k) =
      e
      ∙ ap (words_at (tree_of pr m)) next
      ∙ words_next (tree_of pr m) (begins + k) member.0 h.MemberExpr r.x member.1 r.word in
      let name : x ≡ r.x =
      cons_head x r.x words (words_at (tree_of pr m) (begins + k)) words_are in
      let only_next : (other : Target) → ReadsAs pr m (suc (begins + k)) other →
      other ≡ Namespace d =
      subst (λ p. (other : Target) → ReadsAs pr m p other → other ≡ Namespace d) next only in
      let rest = longest more (begins + k) (cons_tail x r.x words (words_at (tree_of pr m) (begins + k)) words_are)
      (λ other reads.
      same_read only_next member.0 h.MemberExpr member.1 (r.word ∙ ap Some (sym name))
      linked reads)
      begins k refl (λ j l. members j (omega (arith, l))) u its in
      omega (arith, rest)

  module _ (nodes : nested.AreNodes (tree_of pr m))
      (one_stands : (x : Text) (t u : Target) → StandsFor pr m x t → StandsFor pr m x u →
      t ≡ u) where
    -- no read begins with a name
    no_read_here : (o : Occurrence) → IsThere pr m nodes o → (x : Text) →
        read_word (tree_of pr m) o.place ≡ Some x → ⊥
    no_read_here o there x word =
        let its = read_there nodes o.place x (word_property (tree_of pr m) o.place word).1 in
        no_open its.field h.MemberExpr
        (subst IsName (get-drop (tree_of pr m) o.place ∙ ap (λ l. slice_get l 0) its.there)
        (name_is there.at))
      where
        no_open : (f : ℕ) (head : Head) → IsName (Some (h.Open f head)) → ⊥
        no_open f head is = let e = is.4 in cc

    same_symbol : (x y : Text) → Some (Bound Top (plain x)) ≡ Some (Bound Top (plain y)) → x ≡ y
    same_symbol x y e = let names : plain x ≡ plain y = cc in ap (λ (name : Name). name.sym) names

    -- a name reads as what it stands for, and as nothing else
    name_only : (o : Occurrence) → IsThere pr m nodes o → (x : Text) →
        denoted_at BySymbol Es (tree_of pr m) o.place ≡ Some (Bound Top (plain x)) → (t : Target) →
        StandsFor pr m x t → (place : ℕ) → place ≡ o.place → (other : Target) →
        ReadsAs pr m place other → other ≡ t
    name_only o there x denotes t stands _ e other (by_name {place = place} {x = y} its also) =
        let name : y ≡ x =
        same_symbol y x (sym its ∙ ap (denoted_at BySymbol Es (tree_of pr m)) e ∙ denotes) in
        one_stands x other t (subst (λ z. StandsFor pr m z other) name also) stands
    name_only o there x denotes t stands _ e other
        (by_read {place = place} {x = y} word reads linked) =
        absurd (no_read_here o there y (sym (ap (read_word (tree_of pr m)) e) ∙ word))

    members_of : (begins more : ℕ) (role : Role) (xs rest : List Item) → IsReads more role xs →
        drop begins (tree_of pr m) ≡ xs ++ rest → AreMembers begins more
    members_of begins more role xs rest reads at j l =
        let its = member_before reads rest j l in
        (its.0, sym (slice_get-drop begins (tree_of pr m) j) ∙ ap (λ l. slice_get l j) at ∙ its.1)

    -- what is found of a use: no more reads around it are replaced
    pub no_further : (o : Occurrence) → IsThere pr m nodes o → (x : Text) →
        denoted_at BySymbol Es (tree_of pr m) o.place ≡ Some (Bound Top (plain x)) →
        {n : ℕ} {t : Target} → WordsMean pr m x (words_at (tree_of pr m) o.place) n t →
        (begins more : ℕ) (u : Target) (role : Role) (xs rest : List Item) → IsReads more role xs →
        drop begins (tree_of pr m) ≡ xs ++ rest → begins + more ≡ o.place →
        Replaced pr m begins (ByName (Of u)) → more ≤ n
    no_further o there x denotes its begins more u role xs rest chain at far
        (static_read word reads) =
        longest its.reads o.place refl
        (λ other r. name_only o there x denotes its.named its.stands o.place refl other r)
        begins more far (members_of begins more role xs rest chain at) u reads

    -- a use that means what one of its reads gives stands for the whole read
    pub use_agrees : (kind : ModuleKind) (o : Occurrence) → IsThere pr m nodes o → (x : Text) →
        denoted_at BySymbol Es (tree_of pr m) o.place ≡ Some (Bound Top (plain x)) →
        (n : ℕ) (t : Target) → WordsMean pr m x (words_at (tree_of pr m) o.place) (suc n) t →
        StandsForReads (own_sense pr m kind) o (Known (Of t)) (suc n)
    use_agrees kind o there x denotes n t its =
        by
        (outward its.reads o.place (path_at (tree_of pr m) o.place) refl
        (by_name denotes its.stands))
      where
        by : {s : Target} → Outward o.place (path_at (tree_of pr m) o.place) (suc n) s t →
            StandsForReads (own_sense pr m kind) o (Known (Of t)) (suc n)
        by (far_out r) =
            agrees_reads pr m nodes kind o there (suc n) t r.node r.there r.far
            (static_read r.word r.reads) (no_further o there x denotes its)

    -- a name that is none of the top stands alone, where no call of it is replaced
    pub inner_alone : (kind : ModuleKind) (inner : List Denoted) (o : Occurrence) →
        IsThere pr m nodes o →
        ((x : Text) → denoted_at BySymbol Es (tree_of pr m) o.place ≡ Some (Bound Top (plain x)) →
        ⊥) →
        ((begins : ℕ) (by : Replacement) → suc begins ≡ o.place → Replaced pr m begins by → ⊥) →
        (d : Denoted) (meant : Meant) → denoted_at BySymbol kind (tree_of pr m) o.place ≡ Some d →
        NameMeans (own_sense pr m kind) inner d meant →
        StandsAlone (own_sense pr m kind) inner o meant
    inner_alone kind inner o there no_top no_call d meant also means =
        agrees_alone_uses_agree pr m nodes kind inner o there none d meant also means
      where
        no_name : (place : ℕ) → place ≡ o.place → (v : Target) → ReadsAs pr m place v → ⊥
        no_name _ e v (by_name {place = place} {x = y} its stands) =
            no_top y (sym (ap (denoted_at BySymbol Es (tree_of pr m)) e) ∙ its)
        no_name _ e v (by_read {place = place} {x = y} word reads linked) =
            no_read_here o there y (sym (ap (read_word (tree_of pr m)) e) ∙ word)

        unread : (begins more : ℕ) (u : Target) → AreMembers begins more →
            begins + more ≡ o.place → Replaced pr m begins (ByName (Of u)) → ⊥
        unread begins more u members far (static_read word reads) =
            let last = unrolled begins more members u reads more (omega arith) in
            no_name (begins + more) far last.0 last.1

        none : (begins : ℕ) (by : Replacement) → Replaces pr m nodes o.place begins by →
            Replaced pr m begins by → ⊥
        none begins _ (by_reads_of {t = u} more role xs rest chain at far) is =
            unread begins more u (members_of begins more role xs rest chain at) far is
        none begins _ (by_call_of {c = c} far) is = no_call begins (ByCall (Load c)) far is
