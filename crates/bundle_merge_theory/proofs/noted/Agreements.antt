-- Which notes agree with what is replaced in a module: of the reads around a name that are
-- replaced, the outermost; the literal call of the name; else the name alone.
use Rattle.std.proofs.Common.{◌≡◌, inl, inr, ℕ, zero, suc, ◌+◌, ◌-◌, ◌<◌, ◌≤◌, true, List, [], ◌∷◌, ◌++◌, append_assoc, append-nil, length, take, drop, Option, Some, None, refl, sym, ap, ◌∙◌, subst, arith}
use Rattle.std.specs.Prelude.{Contains, fold, slice_get, option_and_then}
use Rattle.std.proofs.lemmas.Option.{none-some, same_Some}
use Rattle.std.proofs.lemmas.List.{length-take-le}
use Rattle.bundle_syntax.specs.declared.piece.Role.{Role}
use Rattle.bundle_syntax.specs.declared.piece.Role.TheVariants as r
use Rattle.bundle_syntax.specs.Item as h
use Rattle.bundle_syntax.specs.Item.{Item, Head}
use Rattle.bundle_rules.specs.Places.{Around, Spot, Occurrence, in_field, outer_path, past, path_to_option, start, spot_before, occurrence_of, occurrence_at, path_at}
use Rattle.bundle_rules.specs.Scopes.{ModuleKind}
use Rattle.bundle_rules.specs.Declarations.{BySymbol}
use Rattle.bundle_rules.specs.Denotes.{Denoted, denoted_at}
use Rattle.bundle_rules.specs.Nodes.{Text}
use Rattle.bundle_rules.specs.Reads.{read_word}
use Rattle.bundle_rules.specs.Entries.{RequireCall, required_at}
use Rattle.bundle_rules.specs.Bound.{is_free}
use Rattle.bundle_rules.specs.Program.{Program, tree_of, calls_of}
use Rattle.bundle_rules.specs.Linking.{Target}
use Rattle.bundle_rules.specs.Meaning.{Replacement, ByName, ByCall, Of, Load, Meta, Meant, Known, NameMeans, ReadsAs, is_meta_at, Replaced, static_read, import_meta, require_call, own_sense}
use Rattle.bundle_tree_places.specs.Edits as edits
use Rattle.bundle_link.specs.Nested as nested
use Rattle.bundle_link.specs.Nested.{HasParts}
use Rattle.bundle_merge_theory.specs.noted.Agrees.{IsClear, IsReplacedAround, StandsAlone, StandsForReads, StandsForCall}
use Rattle.bundle_merge_theory.proofs.noted.ListFacts.{none-there, later-there}
use Rattle.bundle_link_targets.proofs.ListLemmas.{first-there}
use Rattle.bundle_link.proofs.NodePaths.{get-front, get-behind, split, fold-place, IsName}
use Rattle.bundle_merge_theory.proofs.noted.Shapes.{IsReads, base, read, nodes_in_reads, IsLiteralCall, literal_call_nodes, same_nodes, tail_same}
use Rattle.bundle_merge_theory.proofs.noted.NodePaths.{NameAt, here, past_name, past_hole, within, behind, name-within, name-at, Holds, Opened, around-name}
use Rattle.bundle_tree_places.proofs.ListLemmas.{slice_get-drop}
use Rattle.bundle_merge_theory.proofs.noted.StaticReads.{plain_nodes, get-drop}
use Rattle.bundle_merge_theory.proofs.noted.Replaces.{chain_of, read_node, required_there, linked_there, meta_head}

-- ---- nodes one in the other begin one behind the other
abbrev pub Below : ℕ → List Around → Type 0
Below place [] = Unit {0}
Below place (node ∷ outer) = (node.begins < place) × Below node.begins outer

below-more : (place further : ℕ) (path : List Around) → place ≤ further → Below place path →
    Below further path
below-more place further [] l below = below
below-more place further (node ∷ outer) l below = (let b = below.0 in omega (arith, l, b), below.1)

below-field : (place field : ℕ) (path : List Around) → Below place path →
    Below place (in_field field path)
below-field place field [] below = below
below-field place field (node ∷ outer) below = below

below-outer : (place : ℕ) (path : List Around) → Below place path → Below place (outer_path path)
below-outer place [] below = below
below-outer place (node ∷ outer) below =
    let b = below.0 in below-more node.begins place outer (omega (arith, b)) below.1

below-past : (s : Spot) (x : Item) → Below s.place s.path → Below (s.place + 1) (past s x).path
below-past s (h.Open field head) below = (omega arith, below-field s.place field s.path below)
below-past s (h.Ident field x ctxt role) below =
    below-more s.place (s.place + 1) s.path (omega arith) below
below-past s (h.Hole field) below = below-more s.place (s.place + 1) s.path (omega arith) below
below-past s h.Close below =
    below-outer (s.place + 1) s.path (below-more s.place (s.place + 1) s.path (omega arith) below)

below-fold : (s : Spot) (xs : List Item) → Below s.place s.path →
    Below (fold past s xs).place (fold past s xs).path
below-fold s [] below = below
below-fold s (x ∷ xs) below = below-fold (past s x) xs (below-past s x below)

spot-place : (s : Spot) (xs : List Item) (n : ℕ) → (fold past s (take n xs)).place ≤ s.place + n
spot-place s xs zero = omega arith
spot-place s [] (suc n) = omega arith
spot-place s (x ∷ xs) (suc n) = let rest = spot-place (past s x) xs n in omega (arith, rest)

below-to : (place : ℕ) (path : List Around) (x : Option Item) → Below place path →
    Below place (path_to_option path x)
below-to place path None below = below
below-to place path (Some (h.Open field head)) below = below-field place field path below
below-to place path (Some (h.Ident field x ctxt role)) below = below-field place field path below
below-to place path (Some (h.Hole field)) below = below-field place field path below
below-to place path (Some h.Close) below = below

pub below-there : (tree : List Item) (place : ℕ) → Below place (path_at tree place)
below-there tree place = let l = spot-place start tree place in
    below-to place (spot_before tree place).path (slice_get tree place)
    (below-more (spot_before tree place).place place (spot_before tree place).path
    (omega (arith, l)) (below-fold start (take place tree) tt))

below-apart : (place : ℕ) (inner : List Around) (node : Around) (outer : List Around) →
    Below place (inner ++ node ∷ outer) → Below node.begins outer
below-apart place [] node outer below = below.1
below-apart place (x ∷ inner) node outer below = below-apart x.begins inner node outer below.1

below-each : (place : ℕ) (path : List Around) (node : Around) → Below place path →
    Contains path node → node.begins < place
below-each place [] node below c = none-there node c
below-each place (x ∷ path) node below (zero, l, e) =
    let b = below.0 in
    let same : x.begins ≡ node.begins = ap (λ (y : Around). y.begins) e in omega (arith, b, same)
below-each place (x ∷ path) node below (suc i, l, e) =
    let b = below.0 in
    let more = below-each x.begins path node below.1 (i, omega (arith, l), e) in
    omega (arith, b, more)

-- ---- names
pub name_is : {xs : List Item} {k : ℕ} → NameAt xs k → IsName (slice_get xs k)
name_is (here {field = f} {ctxt = c} {sym = y} {role = role}) = (f, y, c, role, refl)
name_is (past_name at) = name_is at
name_is (past_hole at) = name_is at
name_is (within {inside = inside} rest {k = k} are parts at) =
    subst IsName (sym (get-front inside (h.Close ∷ rest) k (name-within at))) (name_is at)
name_is (behind {inside = inside} {rest = rest} {j = j} {k = k} are e at) =
    subst IsName (sym (get-behind inside (h.Close ∷ rest) j (suc k) e)) (name_is at)

no_open : (f : ℕ) (head : Head) → IsName (Some (h.Open f head)) → ⊥
no_open f head is = let e = is.4 in cc

no_close : IsName (Some h.Close) → ⊥
no_close is = let e = is.4 in cc

no_none : IsName None → ⊥
no_none is = none-some _ is.4

word_no_name : (second : ℕ) (word : Text) (i : ℕ) →
    IsName (slice_get (h.Open second (h.IdentName word) ∷ h.Close ∷ h.Close ∷ []) i) → ⊥
word_no_name second word zero is = no_open second (h.IdentName word) is
word_no_name second word (suc zero) is = no_close is
word_no_name second word (suc (suc zero)) is = no_close is
word_no_name second word (suc (suc (suc i))) is = no_none is

-- in reads just one name stands
name_at_count : {count : ℕ} {role : Role} {xs : List Item} → IsReads count role xs → (j : ℕ) →
    IsName (slice_get xs j) → j ≡ count
name_at_count base zero is = refl
name_at_count base (suc j) is = absurd (no_none is)
name_at_count (read {field = f} second word it) zero is = absurd (no_open f h.MemberExpr is)
name_at_count (read {object = object} second word it) (suc j) is = elim (split object j) [
  | inl l ↦ ap suc (name_at_count it j (subst IsName (get-front object (h.Open second (h.IdentName word) ∷ h.Close ∷ h.Close ∷ []) j l) is))
  | inr more ↦ absurd (word_no_name second word more.0 (subst IsName (get-behind object (h.Open second (h.IdentName word) ∷ h.Close ∷ h.Close ∷ []) j more.0 more.1) is))
]

-- what stands before it are member expressions
pub member_before : {count : ℕ} {role : Role} {xs : List Item} → IsReads count role xs →
    (rest : List Item) (j : ℕ) → j < count →
    (f : ℕ) × (slice_get (xs ++ rest) j ≡ Some (h.Open f h.MemberExpr))
member_before base rest j l = absurd (omega (arith, l))
member_before (read {field = f} second word it) rest zero l = (f, refl)
member_before (read {object = object} second word it) rest (suc j) l =
    let its =
    member_before it (h.Open second (h.IdentName word) ∷ h.Close ∷ h.Close ∷ rest) j
    (omega (arith, l)) in (
      its.0,
      ap (λ l. slice_get l j)
          (append_assoc object (h.Open second (h.IdentName word) ∷ h.Close ∷ h.Close ∷ []) rest)
          ∙ its.1,
    )

module _ (pr : Program) (m : ℕ) (nodes : nested.AreNodes (tree_of pr m)) where
  abbrev tree : List Item
  tree = tree_of pr m

  -- what replaces a node around a name: a name of so many reads around that name, or a call right
  -- before it
  pub data Replaces (place begins : ℕ) : Replacement → Type 0 where
    by_reads_of : {t : Target} (count : ℕ) (role : Role) (xs behind : List Item) →
        IsReads count role xs → drop begins (tree_of pr m) ≡ xs ++ behind →
        begins + count ≡ place → Replaces place begins (ByName (Of t))
    by_call_of : {c : ℕ} → suc begins ≡ place → Replaces place begins (ByCall (Load c))

  holds_there : (place : ℕ) → NameAt (tree_of pr m) place → (node : Around) →
      Contains (path_at (tree_of pr m) place) node →
      Holds (tree_of pr m) place (path_at (tree_of pr m) place) node
  holds_there place at node c =
      by (around-name (tree_of pr m) at start [] (sym (append-nil (tree_of pr m))) node c)
    where
      zero_place : 0 + place ≡ place
      zero_place = omega arith

      by : Opened (tree_of pr m) [] 0 (0 + place) (path_at (tree_of pr m) place) node →
          Holds (tree_of pr m) place (path_at (tree_of pr m) place) node
      by (inl was) = none-there was.0 was.1
      by (inr its) =
          subst (λ p. Holds (tree_of pr m) p (path_at (tree_of pr m) place) node) zero_place its.1

  module _ (place : ℕ) (at : NameAt (tree_of pr m) place) (node : Around)
      (c : Contains (path_at (tree_of pr m) place) node) where
    holds : Holds (tree_of pr m) place (path_at (tree_of pr m) place) node
    holds = holds_there place at node c

    opens : (its : Holds (tree_of pr m) place (path_at (tree_of pr m) place) node) →
        slice_get (tree_of pr m) node.begins ≡ Some (h.Open its.field node.head)
    opens its = get-at node.begins ∙ ap (λ l. slice_get l 0) its.at
      where
        get-at : (b : ℕ) → slice_get (tree_of pr m) b ≡ slice_get (drop b (tree_of pr m)) 0
        get-at b = get-drop (tree_of pr m) b

    by_static : (t : Target) (x : Text) → read_word (tree_of pr m) node.begins ≡ Some x →
        ReadsAs pr m node.begins t →
        (its : Holds (tree_of pr m) place (path_at (tree_of pr m) place) node) →
        Replaces place node.begins (ByName (Of t))
    by_static t x word reads its =
        let chain = chain_of nodes reads in
        let r =
        read_node (tree_of pr m) node.begins chain.behind chain.reads chain.there its.field
        node.head (opens its) in
        let both : r.inside ++ h.Close ∷ chain.behind ≡ its.inside ++ h.Close ∷ its.rest =
        tail_same
        (ap (λ l. h.Open its.field h.MemberExpr ∷ l)
        (sym (append_assoc r.inside (h.Close ∷ []) chain.behind))
        ∙ ap (λ l. l ++ chain.behind) (sym r.is)
        ∙ sym chain.there
        ∙ its.at)
        in
        let same =
        (same_nodes (nodes_in_reads r.reads its.field r.inside refl) (plain_nodes its.nodes) chain.behind its.rest both).0 in
        let named : IsName (slice_get (edits.node its.field h.MemberExpr its.inside) (suc its.k)) =
        subst IsName (sym (get-front its.inside (h.Close ∷ []) its.k (name-within its.name)))
        (name_is its.name) in
        let count =
        name_at_count r.reads (suc its.k)
        (subst (λ l. IsName (slice_get (edits.node its.field h.MemberExpr l) (suc its.k)))
        (sym same) named) in
        let far = its.far in
        by_reads_of chain.count chain.role chain.xs chain.behind chain.reads chain.there
        (omega (arith, far, count))

    by_literal : (l : ℕ) (call : RequireCall) → Contains (calls_of pr m) call →
        call.place ≡ node.begins →
        (its : Holds (tree_of pr m) place (path_at (tree_of pr m) place) node) →
        Replaces place node.begins (ByCall (Load l))
    by_literal l call listed same_place its =
        let found =
        required_there (drop node.begins (tree_of pr m)) call.specifier
        (ap (λ n. required_at (drop n (tree_of pr m))) (sym same_place)
        ∙ linked_there pr.settings (is_free (tree_of pr m)) (tree_of pr m) call listed) in
        let literal = found.literal in
        let both : found.inside ++ h.Close ∷ found.behind ≡ its.inside ++ h.Close ∷ its.rest =
        tail_same
        (ap (λ l. h.Open found.field h.CallExpr ∷ l)
        (sym (append_assoc found.inside (h.Close ∷ []) found.behind))
        ∙ sym found.is
        ∙ its.at)
        in
        let same =
        (same_nodes (literal_call_nodes literal) (plain_nodes its.nodes) found.behind its.rest both).0 in
        first literal its.k
        (subst (λ l. IsName (slice_get l its.k)) (sym same ∙ literal.is) (name_is its.name))
        its.far
      where
        first : {role : Role} {inside : List Item} (literal : IsLiteralCall role inside) (k : ℕ) →
            IsName
            (slice_get (h.Ident literal.field literal.x literal.ctxt role ∷ literal.arguments) k) →
            place ≡ suc node.begins + k → Replaces place node.begins (ByCall (Load l))
        first literal zero is far = by_call_of (omega (arith, far))
        first literal (suc j) is far = absurd (literal.no_name j is.0 is.2 is.1 is.3 is.4)

    by_meta_never : (x : Replacement) → is_meta_at (slice_get (tree_of pr m) node.begins) ≡ true →
        (its : Holds (tree_of pr m) place (path_at (tree_of pr m) place) node) →
        Replaces place node.begins x
    by_meta_never x is its =
        let head = meta_head node.head (ap is_meta_at (sym (opens its)) ∙ is) in
        let empty : its.inside ≡ [] = subst (λ k. HasParts k its.inside) head its.parts in
        absurd (none_in its.k (subst (λ l. NameAt l its.k) empty its.name))
      where
        none_in : (k : ℕ) → NameAt [] k → ⊥
        none_in k it = elim it [ ]

    -- each node around a name that is replaced is reads around the name, or the literal call of it
    pub replaced_around : (by : Replacement) → Replaced pr m node.begins by →
        Replaces place node.begins by
    replaced_around _ (static_read {x = x} {t = t} word reads) = by_static t x word reads holds
    replaced_around _ (import_meta is) = by_meta_never (ByName (Meta m)) is holds
    replaced_around _ (require_call {c = l} call listed same_place resolved) =
        by_literal l call listed same_place holds

  -- ---- an occurrence by its place
  -- an occurrence stands at its place, with the nodes around that are there
  pub record IsThere (o : Occurrence) : Type 0 where
    pub at : NameAt (tree_of pr m) o.place
    pub path_is : o.path ≡ path_at (tree_of pr m) o.place

  pub is_there : (place : ℕ) (o : Occurrence) → occurrence_at (tree_of pr m) place ≡ Some o →
      (o.place ≡ place) × IsThere o
  is_there place o e = by (slice_get (tree_of pr m) place) refl e
    where
      spot : Spot
      spot = spot_before (tree_of pr m) place

      spot_place : place < length (tree_of pr m) → (spot_before (tree_of pr m) place).place ≡ place
      spot_place l =
          let n = fold-place start (take place (tree_of pr m)) in
          let k = length-take-le place (tree_of pr m) (omega (arith, l)) in omega (arith, n, k)

      named : (f : ℕ) (x : Text) (c : ℕ) (role : Role) →
          slice_get (tree_of pr m) place ≡ Some (h.Ident f x c role) →
          Some
          (record
          { place = (spot_before (tree_of pr m) place).place; sym = x; ctxt = c; role = role; path = in_field f (spot_before (tree_of pr m) place).path })
          ≡ Some o → (o.place ≡ place) × IsThere o
      named f x c role at e =
          let name = name-at nodes place (f, x, c, role, at) in
          let same = same_Some _ o e in
          let its_place : (spot_before (tree_of pr m) place).place ≡ place =
          spot_place (name-within name) in
          let o_place : o.place ≡ place =
          ap (λ (it : Occurrence). it.place) (sym same) ∙ its_place in (
            o_place,
            record {
              at = subst (NameAt (tree_of pr m)) (sym o_place) name;
              path_is =
                  ap (λ (it : Occurrence). it.path) (sym same)
                  ∙ ap (path_to_option (spot_before (tree_of pr m) place).path) (sym at)
                  ∙ ap (path_at (tree_of pr m)) (sym o_place);
            },
          )

      by : (item : Option Item) → slice_get (tree_of pr m) place ≡ item →
          option_and_then (occurrence_of (spot_before (tree_of pr m) place)) item ≡ Some o →
          (o.place ≡ place) × IsThere o
      by None at e = absurd (none-some o e)
      by (Some (h.Open f head)) at e = absurd (none-some o e)
      by (Some (h.Hole f)) at e = absurd (none-some o e)
      by (Some h.Close) at e = absurd (none-some o e)
      by (Some (h.Ident f x c r.Word)) at e = absurd (none-some o e)
      by (Some (h.Ident f x c r.Binding)) at e = named f x c r.Binding at e
      by (Some (h.Ident f x c r.Reference)) at e = named f x c r.Reference at e

  -- a literal call is a call
  pub call_head : {begins l : ℕ} → Replaced pr m begins (ByCall (Load l)) →
      (f : ℕ) × (slice_get (tree_of pr m) begins ≡ Some (h.Open f h.CallExpr))
  call_head {begins = begins} (require_call call listed same_place resolved) =
      let found =
      required_there (drop begins (tree_of pr m)) call.specifier
      (ap (λ n. required_at (drop n (tree_of pr m))) (sym same_place)
      ∙ linked_there pr.settings (is_free (tree_of pr m)) (tree_of pr m) call listed) in
      (found.field, get-drop (tree_of pr m) begins ∙ ap (λ l. slice_get l 0) found.is)

  -- ---- notes
  split_path : (path : List Around) (node : Around) → Contains path node →
      (inner : List Around) × (outer : List Around) × (path ≡ inner ++ node ∷ outer)
  split_path [] node c = none-there node c
  split_path (x ∷ path) node (zero, l, e) = ([], path, ap (λ y. y ∷ path) e)
  split_path (x ∷ path) node (suc i, l, e) =
      let its = split_path path node (i, omega (arith, l), e) in
      (x ∷ its.0, its.1, ap (λ l. x ∷ l) its.2)

  outer_there : (inner : List Around) (node : Around) (outer : List Around) (other : Around) →
      Contains outer other → Contains (inner ++ node ∷ outer) other
  outer_there [] node outer other c = later-there node outer other c
  outer_there (x ∷ inner) node outer other c =
      later-there x (inner ++ node ∷ outer) other (outer_there inner node outer other c)

  clear_if : (path : List Around) →
      ((node : Around) → Contains path node → (by : Replacement) → Replaced pr m node.begins by →
      ⊥) → IsClear (Replaced pr m) path
  clear_if [] none = tt
  clear_if (node ∷ outer) none = (
    λ by is.
        none node (first-there node outer) by is,
    clear_if outer
        (λ other c. none other (later-there node outer other c)),
  )

  -- of the nodes around a name the outermost that is replaced
  outermost_there : (o : Occurrence) → IsThere o → (node : Around) →
      Contains (path_at (tree_of pr m) o.place) node → (by : Replacement) →
      Replaced pr m node.begins by →
      ((other : Around) → Contains (path_at (tree_of pr m) o.place) other →
      other.begins < node.begins → (its : Replacement) → Replaced pr m other.begins its → ⊥) →
      IsReplacedAround (Replaced pr m) o.path node.begins by
  outermost_there o there node c by is none =
      let its = split_path (path_at (tree_of pr m) o.place) node c in
      let below : Below node.begins its.1 =
      below-apart o.place its.0 node its.1
      (subst (Below o.place) its.2 (below-there (tree_of pr m) o.place)) in
      record {
        inner = its.0;
        node = node;
        outer = its.1;
        path_is = there.path_is ∙ its.2;
        here = refl;
        its = is;
        clear =
            clear_if its.1
            (λ other d.
            none other
            (subst (λ l. Contains l other) (sym its.2) (outer_there its.0 node its.1 other d))
            (below-each node.begins its.1 other below d));
      }

  -- a name alone: no reads around it are replaced, and no call of it
  pub agrees_alone : (kind : ModuleKind) (inner : List Denoted) (o : Occurrence) → IsThere o →
      ((begins : ℕ) (by : Replacement) → Replaces o.place begins by → Replaced pr m begins by →
      ⊥) → (d : Denoted) (meant : Meant) →
      denoted_at BySymbol kind (tree_of pr m) o.place ≡ Some d →
      NameMeans (own_sense pr m kind) inner d meant →
      StandsAlone (own_sense pr m kind) inner o meant
  agrees_alone kind inner o there none d meant denotes means = record {
    d = d;
    denotes = denotes;
    means = means;
    clear =
        subst (IsClear (Replaced pr m)) (sym there.path_is)
        (clear_if (path_at (tree_of pr m) o.place)
        (λ node c by is. none node.begins by (replaced_around o.place there.at node c by is) is));
  }

  -- so many reads around it: they are replaced, and no more of them
  pub agrees_reads : (kind : ModuleKind) (o : Occurrence) → IsThere o →
      (count : ℕ) (t : Target) (node : Around) → Contains (path_at (tree_of pr m) o.place) node →
      node.begins + count ≡ o.place → Replaced pr m node.begins (ByName (Of t)) →
      ((begins more : ℕ) (u : Target) (role : Role) (xs rest : List Item) → IsReads more role xs →
      drop begins (tree_of pr m) ≡ xs ++ rest → begins + more ≡ o.place →
      Replaced pr m begins (ByName (Of u)) → more ≤ count) →
      StandsForReads (own_sense pr m kind) o (Known (Of t)) count
  agrees_reads kind o there count t node c far is longest = record {
    begins = node.begins;
    far = far;
    label = Of t;
    meant_is = refl;
    replaced = outermost_there o there node c (ByName (Of t)) is none;
  }
    where
      below : node.begins < o.place
      below =
          below-each o.place (path_at (tree_of pr m) o.place) node
          (below-there (tree_of pr m) o.place) c

      not_further : (other : Around) → other.begins < node.begins → {by : Replacement} →
          Replaces o.place other.begins by → Replaced pr m other.begins by → ⊥
      not_further other l (by_reads_of {t = u} more role xs rest reads at e) is =
          let k = longest other.begins more u role xs rest reads at e is in
          omega (arith, k, e, far, l)
      not_further other l (by_call_of e) is = let b = below in omega (arith, e, b, l)

      none : (other : Around) → Contains (path_at (tree_of pr m) o.place) other →
          other.begins < node.begins → (by : Replacement) → Replaced pr m other.begins by → ⊥
      none other d l by is =
          not_further other l (replaced_around o.place there.at other d by is) is

  -- the literal call of it
  pub agrees_call : (kind : ModuleKind) (o : Occurrence) → IsThere o → (l : ℕ) (node : Around) →
      Contains (path_at (tree_of pr m) o.place) node →
      Replaced pr m node.begins (ByCall (Load l)) →
      StandsForCall (own_sense pr m kind) o (Known (Load l))
  agrees_call kind o there l node c is = record {
    begins = node.begins;
    far = called;
    label = Load l;
    meant_is = refl;
    replaced = outermost_there o there node c (ByCall (Load l)) is none;
  }
    where
      call_far : {begins : ℕ} → Replaces o.place begins (ByCall (Load l)) → suc begins ≡ o.place
      call_far (by_call_of e) = e

      called : suc node.begins ≡ o.place
      called = call_far (replaced_around o.place there.at node c (ByCall (Load l)) is)

      differ : (f g : ℕ) → Some (h.Open f h.MemberExpr) ≡ Some (h.Open g h.CallExpr) → ⊥
      differ f g e = cc

      not_further : (other : Around) → other.begins < node.begins → {by : Replacement} →
          Replaces o.place other.begins by → ⊥
      not_further other less (by_reads_of more role xs rest reads at e) =
          let between : other.begins + (node.begins - other.begins) ≡ node.begins =
          omega (arith, less) in
          let far = called in
          let member =
          member_before reads rest (node.begins - other.begins)
          (omega (arith, less, e, far)) in
          let call = call_head is in
          differ member.0 call.0
          (sym member.1
          ∙ ap (λ l. slice_get l (node.begins - other.begins)) (sym at)
          ∙ slice_get-drop other.begins (tree_of pr m) (node.begins - other.begins)
          ∙ ap (slice_get (tree_of pr m)) between
          ∙ call.1)
      not_further other less (by_call_of e) = let far = called in omega (arith, e, far, less)

      none : (other : Around) → Contains (path_at (tree_of pr m) o.place) other →
          other.begins < node.begins → (by : Replacement) → Replaced pr m other.begins by → ⊥
      none other d less by is =
          not_further other less (replaced_around o.place there.at other d by is)
