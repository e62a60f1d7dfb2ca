-- A node that stays is not replaced, where notes and what is replaced agree.
-- What is replaced in a module is what notes can tell of: static reads around a name, literal
-- calls, `import.meta`.
use Rattle.std.proofs.Common.{◌≡◌, ℕ, suc, true, List, [], ◌∷◌, ◌++◌, Option, Some, None, is_none, refl, sym, ap, ◌∙◌, subst, arith, inl, inr, zero, ◌+◌, Bool, false, not, ◌||◌, ◌&&◌, append_assoc, append-nil, filter, take, drop}
use Rattle.std.specs.Prelude.{if◌then◌else◌, Contains, slice_get, option_map, option_and_then}
use Rattle.std.proofs.lemmas.Bool.{false≢true, true≢false, or_right}
use Rattle.std.proofs.lemmas.Option.{none-some, same_Some}
use Rattle.std.proofs.lemmas.List.{take-append-drop}
use Rattle.std.proofs.lemmas.List.Elements.{Contains-append_cases}
use Rattle.bundle_syntax.specs.Item as h
use Rattle.bundle_syntax.specs.Item.{Item, Head}
use Rattle.bundle_syntax.specs.declared.piece.Role.{Role}
use Rattle.bundle_syntax.specs.declared.piece.Role.TheVariants as r
use Rattle.bundle_syntax.specs.declared.kind.MetaPropKind.TheVariants as p
use Rattle.bundle_rules.specs.Places.{Around, Spot, Occurrence, in_field, occurrences_from, spot_before, occurrence_of, path_at}
use Rattle.bundle_rules.specs.Denotes.{Denoted, denoted_of, denoted_at}
use Rattle.bundle_rules.specs.Meaning.{Sense, Replacement, ByName, ByCall, Label, Meant, Of, Load, Meta, Known, ReadsAs, by_name, by_read, is_meta_at, Replaced, static_read, import_meta, require_call, own_sense}
use Rattle.bundle_rules.specs.Scopes.{ModuleKind, Es}
use Rattle.bundle_rules.specs.Declarations.{BySymbol, declared}
use Rattle.bundle_rules.specs.Nodes.{Text, has_text, string_of, side_by_side, first_or_nothing, node_at}
use Rattle.bundle_rules.specs.Reads.{property_of, writes, passes_writes, is_written_to, is_optional_chain, is_optional_base, read_word}
use Rattle.bundle_rules.specs.Entries.{RequireCall, after, is_call, is_require_name, is_plain_argument, ends, only_argument, required_at, call_at, require_calls_from, is_import_meta_kind, is_import_meta, linked_calls, Settings}
use Rattle.bundle_rules.specs.Bound.{is_free}
use Rattle.bundle_rules.specs.Program.{Program, tree_of}
use Rattle.bundle_rules.specs.Linking.{Target}
use Rattle.bundle_tree_places.proofs.ListLemmas.{drop_at}
use Rattle.bundle_tree_places.specs.Edits as edits
use Rattle.bundle_tree_rebuild.specs.declared.rewrite.Whole.{Whole}
use Rattle.bundle_tree_rebuild.specs.declared.rewrite.Whole.TheVariants.{Alone, Reads, Call}
use Rattle.bundle_tree_rebuild.specs.Becomes.{are_reads, is_literal_call, keeps_first, behind_word, behind_reads, is_end}
use Rattle.bundle_link.proofs.NodePaths.{spot-in, drop-next}
use Rattle.bundle_link.specs.Nested as nested
use Rattle.bundle_link.specs.Nested.{HasParts}
use Rattle.bundle_link.proofs.GraphLemmas.{filter_back}
use Rattle.bundle_merge_theory.specs.noted.Nodes as n
use Rattle.bundle_merge_theory.specs.noted.Nodes.{AreNodesInTurn}
use Rattle.bundle_merge_theory.specs.noted.Marked.{Note, next_note, meant_by_reads, meant_for_member, meant_by_call, meant_for_call, node_stays}
use Rattle.bundle_merge_theory.specs.noted.Agrees.{IsSpotAt, IsClear, IsReplacedAround, IsNotable, by_reads, by_call, by_meta, IsNotedNode, StandsAlone, StandsForReads, StandsForCall, Agrees, AgreeInTurn, IsListing, ReplacesNotable}
use Rattle.bundle_merge_theory.proofs.noted.Spots.{around_spot, at-drop, at-get, at-path}
use Rattle.bundle_merge_theory.proofs.noted.Shapes.{AreReads, reads_inside, nodes_in_reads, IsLiteralCall, literal_call, literal_call_nodes, same_nodes, tail_same, IsReads, base, read, join, one_node, reads_nodes, in_other_field, literal_call_of, call_is_literal}
use Rattle.bundle_merge_theory.proofs.noted.Names.{node_ahead, HasName, name_in_node, name_in_call, role_in_node, role_in_call, beside_node}
use Rattle.bundle_merge_theory.proofs.noted.StaticReads.{NodeThere, node_there, beside_one, IsMemberOf, IsReadThere, read_there, get-drop}

-- ---- noted
abbrev Table : Type 1
Table = ℕ → Replacement → Type 0

-- ---- nodes that are not replaced
pub clear-field : (replaced : Table) (field : ℕ) (path : List Around) → IsClear replaced path →
    IsClear replaced (in_field field path)
clear-field replaced field [] clear = clear
clear-field replaced field (top ∷ outer) clear = clear

pub clear-there : (replaced : Table) (inner : List Around) (node : Around) (outer : List Around) →
    IsClear replaced (inner ++ node ∷ outer) → ((x : Replacement) → replaced node.begins x → ⊥)
clear-there replaced [] node outer clear = clear.0
clear-there replaced (x ∷ inner) node outer clear = clear-there replaced inner node outer clear.1

pub replaced-not : (replaced : Table) {place : ℕ} {by : Replacement} →
    ((x : Replacement) → replaced place x → ⊥) → replaced place by → ⊥
replaced-not replaced {by = by} none some = none by some

-- of nodes one in the other just one is the outermost that is replaced
outermost : (replaced : Table) (inner other : List Around) (node its : Around)
    (outer more : List Around) {by also : Replacement} →
    inner ++ node ∷ outer ≡ other ++ its ∷ more → IsClear replaced outer → IsClear replaced more →
    replaced node.begins by → replaced its.begins also → node ≡ its
outermost replaced [] [] node its outer more e clear also_clear is also = cc
outermost replaced [] (x ∷ other) node its outer more {also = also_by} e clear also_clear is also =
    let tail : outer ≡ other ++ its ∷ more = cc in
    absurd
    (replaced-not replaced
    (clear-there replaced other its more (subst (IsClear replaced) tail clear)) also)
outermost replaced (x ∷ inner) [] node its outer more e clear also_clear is also =
    let tail : more ≡ inner ++ node ∷ outer = cc in
    absurd
    (replaced-not replaced
    (clear-there replaced inner node outer (subst (IsClear replaced) tail also_clear)) is)
outermost replaced (x ∷ inner) (y ∷ other) node its outer more e clear also_clear is also =
    let tail : inner ++ node ∷ outer ≡ other ++ its ∷ more = cc in
    outermost replaced inner other node its outer more tail clear also_clear is also

-- ---- a name with a node around it that is replaced, and none around that: what is noted of the name
module _ (sense : Sense) (inner : List Denoted) (s : Spot) (field : ℕ) (head : Head)
    (xs : List Item) (count : ℕ) (its : HasName s xs count (spot-in s field head).path)
    (clear : IsClear sense.replaced s.path) (by : Replacement)
    (is : sense.replaced s.place by) where
  abbrev own : Around
  own = around_spot head s.place its.field

  outer_clear : IsClear sense.replaced (in_field field s.path)
  outer_clear = clear-field sense.replaced field s.path clear

  pub not_alone : (meant : Meant) → StandsAlone sense inner its.o meant → ⊥
  not_alone meant alone =
      replaced-not sense.replaced
      (clear-there sense.replaced its.inner own (in_field field s.path)
      (subst (IsClear sense.replaced) its.path_is alone.clear))
      is

  same_begins : (begins : ℕ) (other : Replacement) →
      IsReplacedAround sense.replaced its.o.path begins other → begins ≡ s.place
  same_begins begins other there =
      let one : there.node ≡ own =
      outermost sense.replaced there.inner its.inner there.node own there.outer
      (in_field field s.path) (sym there.path_is ∙ its.path_is) there.clear outer_clear
      (subst (λ b. sense.replaced b other) (sym there.here) there.its) is in
      sym there.here ∙ ap (λ (node : Around). node.begins) one

  replaced_here : (begins : ℕ) (other : Replacement) →
      IsReplacedAround sense.replaced its.o.path begins other → sense.replaced s.place other
  replaced_here begins other there =
      subst (λ b. sense.replaced b other) (same_begins begins other there) there.its

  pub as_reads : (meant : Meant) (n : ℕ) → StandsForReads sense its.o meant n →
      (n ≡ count) × (l : Label) × sense.replaced s.place (ByName l)
  as_reads meant n reads =
      let here = same_begins reads.begins (ByName reads.label) reads.replaced in
      let far = reads.far in
      let o_far = its.far in (
        omega (arith, here, far, o_far),
        reads.label,
        replaced_here reads.begins
            (ByName reads.label) reads.replaced,
      )

  pub as_call : (meant : Meant) → StandsForCall sense its.o meant →
      (l : Label) × sense.replaced s.place (ByCall l)
  as_call meant call = (call.label, replaced_here call.begins (ByCall call.label) call.replaced)

-- ---- what the next note says of a node
said_reads : (meant : Meant) (n : ℕ) (inside : List Item) → are_reads n inside ≡ true →
    is_none (meant_by_reads meant (Reads n) inside) ≡ true → ⊥
said_reads meant n inside are none =
    false≢true (ap (λ b. is_none (if b then Some meant else None)) (sym are) ∙ none)

said_call : (meant : Meant) (inside : List Item) → is_literal_call inside ≡ true →
    is_none (meant_by_call meant Call inside) ≡ true → ⊥
said_call meant inside are none =
    false≢true (ap (λ b. is_none (if b then Some meant else None)) (sym are) ∙ none)

no_call_of_member : {meta : Option Meant} {inside : List Item} {l : Label} →
    IsNotable meta h.MemberExpr inside (ByCall l) → ⊥
no_call_of_member it = elim it [ ]

no_name_of_call : {meta : Option Meant} {inside : List Item} {l : Label} →
    IsNotable meta h.CallExpr inside (ByName l) → ⊥
no_name_of_call it = elim it [ ]

module _ (sense : Sense) (inner : List Denoted) (listing : IsListing sense.view.tree)
    (meta : Option Meant) where
  -- a node of which a note can tell, and that is replaced, does not stay
  not_stays : {head : Head} {inside : List Item} {by : Replacement} →
      IsNotable meta head inside by →
      (s : Spot) (field : ℕ) (tail : List Item) (os : List Occurrence) (notes : List Note) →
      IsSpotAt sense.view.tree s (edits.node field head inside ++ tail) →
      IsClear sense.replaced s.path → sense.replaced s.place by →
      AgreeInTurn sense inner (occurrences_from s (edits.node field head inside) ++ os) notes →
      ((other : Replacement) → sense.replaced s.place other →
      (its : List Item) × IsNotable meta head its other) →
      node_stays meta (next_note notes) head inside ≡ true → ⊥
  not_stays {inside = inside} (by_reads {l = l} count are) s field tail os notes at clear is agree
      notable stay =
      on notes (subst (λ l. AgreeInTurn sense inner (l ++ os) notes) its.is agree) stay
    where
      found : AreReads field count inside
      found = reads_inside field count inside are

      its : HasName s (edits.node field h.MemberExpr inside) count
          (spot-in s field h.MemberExpr).path
      its = name_in_node found.reads refl field inside refl s

      by_whole : (meant : Meant) (whole : Whole) → Agrees sense inner its.o meant whole →
          is_none (meant_by_reads meant whole inside) ≡ true → ⊥
      by_whole meant Alone alone none =
          not_alone sense inner s field h.MemberExpr _ count its clear (ByName l) is meant alone
      by_whole meant (Reads n) reads none =
          let same =
          as_reads sense inner s field h.MemberExpr _ count its clear (ByName l) is meant n
          reads in
          said_reads meant n inside (subst (λ k. are_reads k inside ≡ true) (sym same.0) are) none
      by_whole meant Call call none =
          let same =
          as_call sense inner s field h.MemberExpr _ count its clear (ByName l) is meant
          call in
          no_call_of_member (notable (ByCall same.0) same.1).1

      on : (notes : List Note) → AgreeInTurn sense inner (its.o ∷ os) notes →
          is_none (meant_for_member (next_note notes) inside) ≡ true → ⊥
      on [] agree none = agree
      on (note ∷ more) agree none = by_whole note.meant note.whole agree.0 none
  not_stays {inside = inside} (by_call {l = l} are) s field tail os notes at clear is agree notable
      stay =
      on notes (subst (λ l. AgreeInTurn sense inner (l ++ os) notes) its.is agree) stay
    where
      found : IsLiteralCall r.Reference inside
      found = literal_call inside are

      its : HasName s (edits.node field h.CallExpr inside) 1 (spot-in s field h.CallExpr).path
      its = name_in_call field inside found refl s

      by_whole : (meant : Meant) (whole : Whole) → Agrees sense inner its.o meant whole →
          is_none (meant_by_call meant whole inside) ≡ true → ⊥
      by_whole meant Alone alone none =
          not_alone sense inner s field h.CallExpr _ 1 its clear (ByCall l) is meant alone
      by_whole meant (Reads n) reads none =
          let same =
          as_reads sense inner s field h.CallExpr _ 1 its clear (ByCall l) is meant n reads in
          no_name_of_call (notable (ByName same.1) same.2).1
      by_whole meant Call call none = said_call meant inside are none

      on : (notes : List Note) → AgreeInTurn sense inner (its.o ∷ os) notes →
          is_none (meant_for_call (next_note notes) inside) ≡ true → ⊥
      on [] agree none = agree
      on (note ∷ more) agree none = by_whole note.meant note.whole agree.0 none
  not_stays (by_meta {l = l} e) s field tail os notes at clear is agree notable stay =
      false≢true (ap is_none (sym e) ∙ stay)

  -- the node that is replaced is that which stands there
  module _ (replaces : ReplacesNotable sense meta) where
    noted_here : (s : Spot) (field : ℕ) (head : Head) (rest : List Item) (by : Replacement) →
        IsSpotAt sense.view.tree s (h.Open field head ∷ rest) → IsClear sense.replaced s.path →
        sense.replaced s.place by → IsNotedNode sense.view.tree meta s.place field head by
    noted_here s field head rest by at clear is =
        replaces.nodes s.place field head by (at-get at s.place 0 (omega arith))
        (subst (IsClear sense.replaced) (sym (at-path at))
        (clear-field sense.replaced field s.path clear))
        is

    notable_nodes : {head : Head} {inside : List Item} {by : Replacement} →
        IsNotable meta head inside by → AreNodesInTurn inside
    notable_nodes {inside = inside} (by_reads count are) =
        let found = reads_inside 0 count inside are in nodes_in_reads found.reads 0 inside refl
    notable_nodes {inside = inside} (by_call are) = literal_call_nodes (literal_call inside are)
    notable_nodes (by_meta e) = n.nothing

    pub stays_unreplaced : (s : Spot) (field : ℕ) (head : Head) (inside tail : List Item)
        (os : List Occurrence) (notes : List Note) → AreNodesInTurn inside →
        IsSpotAt sense.view.tree s (edits.node field head inside ++ tail) →
        IsClear sense.replaced s.path →
        AgreeInTurn sense inner (occurrences_from s (edits.node field head inside) ++ os) notes →
        node_stays meta (next_note notes) head inside ≡ true →
        ((x : Replacement) → sense.replaced s.place x → ⊥)
    stays_unreplaced s field head inside tail os notes nodes at clear agree stay = never
      where
        never : (by : Replacement) → sense.replaced s.place by → ⊥
        never by is =
            let noted = noted_here s field head _ by at clear is in
            let both =
            tail_same
            (sym (node_ahead field head noted.inside noted.behind)
            ∙ sym noted.there
            ∙ at-drop at
            ∙ node_ahead field head inside tail) in
            let same = same_nodes (notable_nodes noted.notable) nodes noted.behind tail both in
            not_stays (subst (λ l. IsNotable meta head l by) same.0 noted.notable) s field tail os
            notes at clear is agree
            (λ other also.
            let its = noted_here s field head _ other at clear also in
            (its.inside, its.notable))
            stay

    -- a node of which no note can tell
    pub other_unreplaced : (s : Spot) (field : ℕ) (head : Head) (rest : List Item) →
        IsSpotAt sense.view.tree s (h.Open field head ∷ rest) → IsClear sense.replaced s.path →
        ((inside : List Item) (by : Replacement) → IsNotable meta head inside by → ⊥) →
        ((x : Replacement) → sense.replaced s.place x → ⊥)
    other_unreplaced s field head rest at clear other =
        λ by is.
        let noted = noted_here s field head rest by at clear is in
        other noted.inside by noted.notable

    -- a member expression for which no name may stand
    pub kept_unreplaced : (s : Spot) (first : ℕ) (rest : List Item) (head : Head) (begins f : ℕ)
        (outer : List Around) → IsSpotAt sense.view.tree s (h.Open first h.MemberExpr ∷ rest) →
        IsClear sense.replaced s.path → s.path ≡ around_spot head begins f ∷ outer →
        keeps_first head first ≡ true → s.place ≡ suc begins →
        ((x : Replacement) → sense.replaced s.place x → ⊥)
    kept_unreplaced s first rest head begins f outer at clear path keeps place =
        λ by is.
        let noted = noted_here s first h.MemberExpr rest by at clear is in
        noted.unkept (around_spot head begins first) outer refl (at-path at ∙ ap (in_field first) path)
        keeps place

-- ---- reads by their elements
reads_back : {count : ℕ} {xs : List Item} → IsReads count r.Reference xs → (rest : List Item) →
    behind_reads count (xs ++ rest) ≡ Some rest
reads_back base rest = refl
reads_back (read {count = count} {object = object} second word it) rest =
    ap (λ l. behind_word (behind_reads count l))
    (append_assoc object (h.Open second (h.IdentName word) ∷ h.Close ∷ h.Close ∷ []) rest)
    ∙ ap behind_word (reads_back it (h.Open second (h.IdentName word) ∷ h.Close ∷ h.Close ∷ rest))

pub are_reads_back : {count : ℕ} (field : ℕ) (inside : List Item) →
    IsReads count r.Reference (edits.node field h.MemberExpr inside) →
    are_reads count inside ≡ true
are_reads_back {count = count} field inside it =
    ap is_end
    (ap (behind_reads count) (sym (append-nil (edits.node 0 h.MemberExpr inside)))
    ∙ reads_back (in_other_field it field 0 inside refl) [])

reads_one : {count : ℕ} {role : Role} {xs : List Item} → IsReads count role xs →
    (rest : List Item) → side_by_side zero (xs ++ rest) ≡ xs ∷ side_by_side zero rest
reads_one base rest = refl
reads_one (read {field = field} {object = object} second word it) rest =
    let its_word : List Item = h.Open second (h.IdentName word) ∷ h.Close ∷ [] in
    ap (λ l. side_by_side zero (h.Open field h.MemberExpr ∷ l))
    (append_assoc object (h.Open second (h.IdentName word) ∷ h.Close ∷ h.Close ∷ []) rest
    ∙ sym (append_assoc object its_word (h.Close ∷ rest)))
    ∙ beside_node field h.MemberExpr
    (join (reads_nodes it) (one_node second (h.IdentName word) n.nothing)) rest
    ∙ ap (λ l. (h.Open field h.MemberExpr ∷ l) ∷ side_by_side zero rest)
    (append_assoc object its_word (h.Close ∷ []))

-- a read is a node
pub record IsReadNode (count field : ℕ) (role : Role) (head : Head) (xs : List Item) : Type 0 where
  pub inside : List Item
  pub its_head : head ≡ h.MemberExpr
  pub is : xs ≡ edits.node field h.MemberExpr inside
  pub reads : IsReads count role (edits.node field h.MemberExpr inside)

-- ---- what reads as a target
pub record IsChain (tree : List Item) (place : ℕ) : Type 0 where
  pub count : ℕ
  pub role : Role
  pub xs : List Item
  pub behind : List Item
  pub reads : IsReads count role xs
  pub there : drop place tree ≡ xs ++ behind

name_there : (tree : List Item) (place : ℕ) (d : Denoted) →
    denoted_at BySymbol Es tree place ≡ Some d → IsChain tree place
name_there tree place d e = by (slice_get tree place) refl e
  where
    by : (o : Option Item) → slice_get tree place ≡ o →
        option_map (denoted_of BySymbol Es (declared BySymbol Es tree))
        (option_and_then (occurrence_of (spot_before tree place)) o) ≡ Some d → IsChain tree place
    by None at e = absurd (none-some d e)
    by (Some (h.Open field head)) at e = absurd (none-some d e)
    by (Some (h.Hole field)) at e = absurd (none-some d e)
    by (Some h.Close) at e = absurd (none-some d e)
    by (Some (h.Ident field x ctxt role)) at e =
        record
        { count = 0; role = role; xs = h.Ident field x ctxt role ∷ []; behind = drop (suc place) tree; reads = base; there = drop_at tree place (h.Ident field x ctxt role) at }

pub word_property : (tree : List Item) (place : ℕ) {x : Text} → read_word tree place ≡ Some x →
    ((is_written_to (path_at tree place) || is_optional_base (path_at tree place)) ≡ false)
    × (property_of (node_at tree place) ≡ Some x)
word_property tree place {x = x} e =
    by (is_written_to (path_at tree place) || is_optional_base (path_at tree place)) refl e
  where
    by : (b : Bool) →
        (is_written_to (path_at tree place) || is_optional_base (path_at tree place)) ≡ b →
        (if b then None else property_of (node_at tree place)) ≡ Some x →
        ((is_written_to (path_at tree place) || is_optional_base (path_at tree place)) ≡ false)
        × (property_of (node_at tree place) ≡ Some x)
    by true is e = absurd (none-some x e)
    by false is e = (is, e)

-- one read around a chain
chain_around : {tree : List Item} (place : ℕ) {x : Text} → IsReadThere tree place x →
    (its : IsChain tree (suc place)) → (more : IsChain tree place) × (more.count ≡ suc its.count)
chain_around {tree = tree} place {x = x} here its = (
  record {
    count = suc its.count;
    role = its.role;
    xs = h.Open here.field h.MemberExpr ∷ (its.xs ++ word_end);
    behind = here.behind;
    reads = read member.field x its.reads;
    there =
        here.there
        ∙ ap (λ l. h.Open here.field h.MemberExpr ∷ l)
        (inside_is ∙ sym (append_assoc its.xs word_end here.behind));
  },
  refl,
)
  where
    member : IsMemberOf x here.inside
    member = here.member

    word : List Item
    word = h.Open member.field (h.IdentName x) ∷ h.Close ∷ []

    word_end : List Item
    word_end = h.Open member.field (h.IdentName x) ∷ h.Close ∷ h.Close ∷ []

    in_it : drop (suc place) tree
        ≡ member.object
        ++ (h.Open member.field (h.IdentName x) ∷ h.Close ∷ (h.Close ∷ here.behind))
    in_it =
        drop-next tree place (h.Open here.field h.MemberExpr)
        (here.inside ++ h.Close ∷ here.behind) here.there
        ∙ ap (λ l. l ++ h.Close ∷ here.behind) member.is
        ∙ append_assoc member.object (h.Open member.field (h.IdentName x) ∷ h.Close ∷ [])
        (h.Close ∷ here.behind)

    same : its.xs ≡ member.object
    same =
        ap first_or_nothing
        (sym (reads_one its.reads its.behind)
        ∙ ap (side_by_side zero) (sym its.there ∙ in_it)
        ∙ beside_one member.one
        (h.Open member.field (h.IdentName x) ∷ h.Close ∷ (h.Close ∷ here.behind)))

    inside_is : here.inside ++ h.Close ∷ here.behind
        ≡ its.xs ++ (h.Open member.field (h.IdentName x) ∷ h.Close ∷ h.Close ∷ here.behind)
    inside_is =
        ap (λ l. l ++ h.Close ∷ here.behind) member.is
        ∙ append_assoc member.object (h.Open member.field (h.IdentName x) ∷ h.Close ∷ [])
        (h.Close ∷ here.behind)
        ∙ ap (λ l. l ++ (h.Open member.field (h.IdentName x) ∷ h.Close ∷ h.Close ∷ here.behind))
        (sym same)

-- what reads as a target is a name with reads around it
pub chain_of : {pr : Program} {m place : ℕ} {t : Target} → nested.AreNodes (tree_of pr m) →
    ReadsAs pr m place t → IsChain (tree_of pr m) place
chain_of {pr = pr} {m = m} nodes (by_name {place = place} denotes stands) =
    name_there (tree_of pr m) place _ denotes
chain_of {pr = pr} {m = m} nodes (by_read {place = place} {x = x} is reads linked) =
    let word = word_property (tree_of pr m) place is in
    let more = chain_around place (read_there nodes place x word.1) (chain_of nodes reads) in
    more.0

-- a chain that begins with a node
pub read_node : (tree : List Item) (place : ℕ) {count : ℕ} {role : Role} {xs : List Item}
    (behind : List Item) → IsReads count role xs → drop place tree ≡ xs ++ behind →
    (field : ℕ) (head : Head) → slice_get tree place ≡ Some (h.Open field head) →
    IsReadNode count field role head xs
read_node tree place behind (base {field = f} {ctxt = ctxt} {x = x} {role = role}) there field head
    e =
    absurd (no_name (sym (get-drop tree place ∙ ap (λ l. slice_get l 0) there) ∙ e))
  where
    no_name : Some (h.Ident f x ctxt role) ≡ Some (h.Open field head) → ⊥
    no_name e = cc
read_node tree place {count = suc count} {role = role} behind
    (read {field = f} {object = object} second word it) there field head e =
    let first : h.Open f h.MemberExpr ≡ h.Open field head =
    same_Some (h.Open f h.MemberExpr) (h.Open field head)
    (sym (get-drop tree place ∙ ap (λ l. slice_get l 0) there) ∙ e) in
    let its_head : head ≡ h.MemberExpr = cc in
    let its_field : f ≡ field = cc in
    let inside : List Item = object ++ h.Open second (h.IdentName word) ∷ h.Close ∷ [] in
    let is : h.Open f h.MemberExpr ∷ (object ++ h.Open second (h.IdentName word) ∷ h.Close ∷ h.Close ∷ []) ≡ edits.node field h.MemberExpr inside =
    ap
    (λ n.
    h.Open n h.MemberExpr
    ∷ (object ++ h.Open second (h.IdentName word) ∷ h.Close ∷ h.Close ∷ []))
    its_field
    ∙ ap (λ l. h.Open field h.MemberExpr ∷ l)
    (sym
    (append_assoc object (h.Open second (h.IdentName word) ∷ h.Close ∷ []) (h.Close ∷ [])))
    in
    record
    { inside = inside; its_head = its_head; is = is; reads = subst (IsReads (suc count) role) is (read second word it) }

-- where a read may be static, no node keeps it
keeps_no_read : (tree : List Item) (place : ℕ) →
    (is_written_to (path_at tree place) || is_optional_base (path_at tree place)) ≡ false →
    (around_spot : Around) (outer : List Around) → path_at tree place ≡ around_spot ∷ outer →
    keeps_first around_spot.head around_spot.field ≡ true → ⊥
keeps_no_read tree place free around_spot outer path keeps = by around_spot.head refl keeps
  where
    free_here : (is_written_to (around_spot ∷ outer) || is_optional_base (around_spot ∷ outer)) ≡ false
    free_here = subst (λ l. (is_written_to l || is_optional_base l) ≡ false) path free

    by : (k : Head) → around_spot.head ≡ k → keeps_first k around_spot.field ≡ true → ⊥
    by (h.AssignExpr op) is keeps =
        let written : writes around_spot.head around_spot.field ≡ true =
        ap (λ k. writes k around_spot.field) is ∙ keeps in
        true≢false
        (sym
        (ap
        (λ b.
        (b || (passes_writes around_spot.head around_spot.field && is_written_to outer))
        || is_optional_base (around_spot ∷ outer))
        written)
        ∙ free_here)
    by (h.OptChainExpr optional) is keeps =
        let base : is_optional_chain around_spot.head ≡ true = ap is_optional_chain is in
        true≢false
        (sym
        (or_right (is_written_to (around_spot ∷ outer)) (is_optional_base (around_spot ∷ outer)) base)
        ∙ free_here)
    by _ is keeps = false≢true keeps

-- ---- literal calls
after_is : (test : Item → Bool) (items : List Item) (y : Item) (ys : List Item) →
    after test items ≡ y ∷ ys → (x : Item) × (items ≡ x ∷ y ∷ ys) × (test x ≡ true)
after_is test [] y ys e = cc
after_is test (x ∷ rest) y ys e = by (test x) refl e
  where
    by : (b : Bool) → test x ≡ b → (if b then rest else []) ≡ y ∷ ys →
        (z : Item) × (x ∷ rest ≡ z ∷ y ∷ ys) × (test z ≡ true)
    by true is e = (x, ap (λ l. x ∷ l) e, is)
    by false is e = cc

is_call_is : (x : Item) → is_call x ≡ true → (field : ℕ) × (x ≡ h.Open field h.CallExpr)
is_call_is (h.Open field h.CallExpr) e = (field, refl)
is_call_is _ e = absurd (false≢true e)

is_name_is : (x : Item) → is_require_name x ≡ true →
    (field : ℕ) × (y : Text) × (ctxt : ℕ) × (role : Role) × (x ≡ h.Ident field y ctxt role)
is_name_is (h.Ident field y ctxt role) e = (field, y, ctxt, role, refl)
is_name_is _ e = absurd (false≢true e)

is_argument_is : (x : Item) → is_plain_argument x ≡ true →
    (field : ℕ) × (x ≡ h.Open field (h.ExprOrSpread false))
is_argument_is (h.Open field (h.ExprOrSpread false)) e = (field, refl)
is_argument_is _ e = absurd (false≢true e)

is_string_is : (x : Item) (rest : List Item) (text : Text) → string_of (x ∷ rest) ≡ Some text →
    (field : ℕ) × (value : Text) × (raw : Option Text) × (x ≡ h.Open field (h.Str value raw))
is_string_is (h.Open field (h.Str value raw)) rest text e = (field, value, raw, refl)
is_string_is _ rest text e = absurd (none-some text e)

three_ends : (rest : List Item) → ends 3 rest ≡ true →
    (behind : List Item) × (rest ≡ h.Close ∷ h.Close ∷ h.Close ∷ behind)
three_ends (h.Close ∷ h.Close ∷ h.Close ∷ behind) e = (behind, refl)
three_ends _ e = absurd (false≢true e)

pub record IsCallThere (items : List Item) : Type 0 where
  pub field : ℕ
  pub inside : List Item
  pub behind : List Item
  pub is : items ≡ edits.node field h.CallExpr inside ++ behind
  pub role : Role
  pub literal : IsLiteralCall role inside

pub required_there : (items : List Item) (text : Text) → required_at items ≡ Some text →
    IsCallThere items
required_there items text e =
    only (after is_plain_argument (after is_require_name (after is_call items))) refl e
  where
    string : (x : Item) (rest : List Item) →
        after is_plain_argument (after is_require_name (after is_call items)) ≡ x ∷ rest →
        ends 3 rest ≡ true → string_of (x ∷ rest) ≡ Some text → IsCallThere items
    string x rest is closes text_is =
        let third =
        after_is is_plain_argument (after is_require_name (after is_call items)) x rest is in
        let second = after_is is_require_name (after is_call items) third.0 (x ∷ rest) third.1 in
        let first = after_is is_call items second.0 (third.0 ∷ x ∷ rest) second.1 in
        let call = is_call_is first.0 first.2 in
        let name = is_name_is second.0 second.2 in
        let argument = is_argument_is third.0 third.2 in
        let its_string = is_string_is x rest text text_is in
        let its_ends = three_ends rest closes in
        record {
          field = call.0;
          inside =
              h.Ident name.0 name.1 name.2 name.3 ∷ h.Open argument.0 (h.ExprOrSpread false)
              ∷ h.Open its_string.0 (h.Str its_string.1 its_string.2) ∷ h.Close ∷ h.Close ∷ [];
          behind = its_ends.0;
          is =
              first.1
              ∙ ap (λ y. y ∷ second.0 ∷ third.0 ∷ x ∷ rest) call.1
              ∙ ap (λ y. h.Open call.0 h.CallExpr ∷ y ∷ third.0 ∷ x ∷ rest) name.4
              ∙ ap
              (λ y.
              h.Open call.0 h.CallExpr ∷ h.Ident name.0 name.1 name.2 name.3 ∷ y ∷ x ∷ rest)
              argument.1
              ∙ ap
              (λ y.
              h.Open call.0 h.CallExpr ∷ h.Ident name.0 name.1 name.2 name.3
              ∷ h.Open argument.0 (h.ExprOrSpread false) ∷ y ∷ rest)
              its_string.3
              ∙ ap
              (λ l.
              h.Open call.0 h.CallExpr ∷ h.Ident name.0 name.1 name.2 name.3
              ∷ h.Open argument.0 (h.ExprOrSpread false)
              ∷ h.Open its_string.0 (h.Str its_string.1 its_string.2) ∷ l)
              its_ends.1;
          role = name.3;
          literal =
              literal_call_of name.0 name.1 name.2 name.3
              (h.Open argument.0 (h.ExprOrSpread false)
              ∷ h.Open its_string.0 (h.Str its_string.1 its_string.2) ∷ h.Close ∷ h.Close ∷ [])
              refl;
        }

    only : (l : List Item) →
        after is_plain_argument (after is_require_name (after is_call items)) ≡ l →
        only_argument l ≡ Some text → IsCallThere items
    only [] is e = absurd (none-some text e)
    only (x ∷ rest) is e = by (ends 3 rest) refl e
      where
        by : (b : Bool) → ends 3 rest ≡ b →
            (if b then string_of (x ∷ rest) else None) ≡ Some text → IsCallThere items
        by true closes e = string x rest is closes e
        by false closes e = absurd (none-some text e)

-- a call of a list stands where it says
call_there : (free : ℕ → Bool) (place : ℕ) (items : List Item) (call : RequireCall) →
    Contains (require_calls_from free place items) call →
    (k : ℕ) × (call.place ≡ place + k) × (required_at (drop k items) ≡ Some call.specifier)
call_there free place [] call c = let l = c.1 in absurd (omega (arith, l))
call_there free place (x ∷ rest) call c = elim (Contains-append_cases (call_at free place (required_at (x ∷ rest))) (require_calls_from free (suc place) rest) call c) [
  | inl here ↦ first (required_at (x ∷ rest)) refl here
  | inr more ↦ let its = call_there free (suc place) rest call more in let e = its.1 in (suc its.0, omega (arith, e), its.2)
]
  where
    found : (text : Text) → required_at (x ∷ rest) ≡ Some text →
        Contains (record { place = place; specifier = text } ∷ []) call →
        (k : ℕ) × (call.place ≡ place + k)
        × (required_at (drop k (x ∷ rest)) ≡ Some call.specifier)
    found text is (zero, l, e) = (
      0,
      (let p : place ≡ call.place = ap (λ (it : RequireCall). it.place) e in omega (arith, p)),
      is
          ∙ ap (λ (it : RequireCall). Some it.specifier) e,
    )
    found text is (suc i, l, e) = absurd (omega (arith, l))

    first : (o : Option Text) → required_at (x ∷ rest) ≡ o → Contains (call_at free place o) call →
        (k : ℕ) × (call.place ≡ place + k)
        × (required_at (drop k (x ∷ rest)) ≡ Some call.specifier)
    first None is c = let l = c.1 in absurd (omega (arith, l))
    first (Some text) is c = by (free (suc place)) c
      where
        by : (b : Bool) →
            Contains (if b then record { place = place; specifier = text } ∷ [] else []) call →
            (k : ℕ) × (call.place ≡ place + k)
            × (required_at (drop k (x ∷ rest)) ≡ Some call.specifier)
        by true c = found text is c
        by false c = let l = c.1 in absurd (omega (arith, l))

pub linked_there : (settings : Settings) (free : ℕ → Bool) (tree : List Item)
    (call : RequireCall) → Contains (linked_calls settings free tree) call →
    required_at (drop call.place tree) ≡ Some call.specifier
linked_there settings free tree call c = by settings.require c
  where
    there : Contains (require_calls_from free 0 tree) call →
        required_at (drop call.place tree) ≡ Some call.specifier
    there c =
        let its = call_there free 0 tree call c in
        let e = its.1 in
        let same : call.place ≡ its.0 = omega (arith, e) in
        ap (λ k. required_at (drop k tree)) same ∙ its.2

    by : (b : Bool) →
        Contains
        (if b then filter (λ (it : RequireCall). not (has_text it.specifier settings.external))
        (require_calls_from free 0 tree) else [])
        call → required_at (drop call.place tree) ≡ Some call.specifier
    by true c =
        there
        (filter_back (λ (it : RequireCall). not (has_text it.specifier settings.external))
        (require_calls_from free 0 tree) call c)
    by false c = let l = c.1 in absurd (omega (arith, l))

-- ---- `import.meta`
meta_kind : (kind : _) → is_import_meta_kind kind ≡ true →
    h.MetaPropExpr kind ≡ h.MetaPropExpr p.ImportMeta
meta_kind p.ImportMeta e = refl
meta_kind p.NewTarget e = absurd (false≢true e)

pub meta_head : (head : Head) → is_import_meta head ≡ true → head ≡ h.MetaPropExpr p.ImportMeta
meta_head (h.MetaPropExpr kind) e = meta_kind kind e
meta_head _ e = absurd (false≢true e)

-- ---- the whole
at_there : (tree : List Item) (place : ℕ) {rest : List Item} → drop place tree ≡ rest →
    IsSpotAt tree (spot_before tree place) rest
at_there tree place is =
    record
    { front = take place tree; tree_is = sym (take-append-drop place tree) ∙ ap (λ l. take place tree ++ l) is; spot_is = refl }

-- what `import.meta` stands for in a module is known, if it stands there
abbrev pub MetaIs : Program → ℕ → Option Meant → Type 0
MetaIs pr m meta =
    (place field : ℕ) →
    slice_get (tree_of pr m) place ≡ Some (h.Open field (h.MetaPropExpr p.ImportMeta)) →
    meta ≡ Some (Known (Meta m))

same_head : {f g : ℕ} {a b : Head} → h.Open f a ≡ h.Open g b → a ≡ b
same_head e = cc

noted_node : (pr : Program) (m : ℕ) (meta : Option Meant) → nested.AreNodes (tree_of pr m) →
    IsListing (tree_of pr m) → MetaIs pr m meta →
    (place field : ℕ) (head : Head) {by : Replacement} →
    slice_get (tree_of pr m) place ≡ Some (h.Open field head) → Replaced pr m place by →
    IsNotedNode (tree_of pr m) meta place field head by
noted_node pr m meta nodes listing metas place field head there (static_read {x = x} {t = t} word reads) = record {
  inside = its.inside;
  behind = chain.behind;
  there =
      chain.there
      ∙ ap (λ l. l ++ chain.behind)
      (its.is ∙ ap (λ k. edits.node field k its.inside) (sym its.its_head));
  notable =
      subst (λ k. IsNotable meta k its.inside (ByName (Of t))) (sym its.its_head)
      (by_reads chain.count
      (are_reads_back field its.inside
      (subst (λ role. IsReads chain.count role (edits.node field h.MemberExpr its.inside)) refers
      its.reads)));
  unkept =
      λ around_spot outer is path keeps begins.
      keeps_no_read (tree_of pr m) place (word_property (tree_of pr m) place word).0 around_spot outer
      path keeps;
}
  where
    chain : IsChain (tree_of pr m) place
    chain = chain_of nodes reads

    its : IsReadNode chain.count field chain.role head chain.xs
    its = read_node (tree_of pr m) place chain.behind chain.reads chain.there field head there

    refers : chain.role ≡ r.Reference
    refers =
        role_in_node listing its.reads field its.inside refl (spot_before (tree_of pr m) place)
        chain.behind
        (at_there (tree_of pr m) place (chain.there ∙ ap (λ l. l ++ chain.behind) its.is))
noted_node pr m meta nodes listing metas place field head there (import_meta is) = record {
  inside = [];
  behind = node.behind;
  there = node.there ∙ ap (λ l. h.Open field head ∷ (l ++ h.Close ∷ node.behind)) empty;
  notable =
      subst (λ k. IsNotable meta k [] (ByName (Meta m))) (sym same)
      (by_meta (metas place field (there ∙ ap (λ k. Some (h.Open field k)) same)));
  unkept = λ around_spot outer member path keeps begins. not_member (sym same ∙ member);
}
  where
    same : head ≡ h.MetaPropExpr p.ImportMeta
    same = meta_head head (ap is_meta_at (sym there) ∙ is)

    node : NodeThere (tree_of pr m) place field head
    node = node_there nodes place field head there

    empty : node.inside ≡ []
    empty = subst (λ k. HasParts k node.inside) same node.parts

    not_member : h.MetaPropExpr p.ImportMeta ≡ h.MemberExpr → ⊥
    not_member e = cc
noted_node pr m meta nodes listing metas place field head there (require_call {c = c} call listed at resolved) = record {
  inside = its.inside;
  behind = its.behind;
  there = items ∙ ap (λ y. y ∷ ((its.inside ++ h.Close ∷ []) ++ its.behind)) first;
  notable =
      subst (λ k. IsNotable meta k its.inside (ByCall (Load c))) head_is
      (by_call
      (call_is_literal (subst (λ role. IsLiteralCall role its.inside) refers its.literal)));
  unkept = λ around_spot outer member path keeps begins. not_member (head_is ∙ member);
}
  where
    its : IsCallThere (drop place (tree_of pr m))
    its =
        required_there (drop place (tree_of pr m)) call.specifier
        (ap (λ n. required_at (drop n (tree_of pr m))) (sym at)
        ∙ linked_there pr.settings (is_free (tree_of pr m)) (tree_of pr m) call listed)

    items : drop place (tree_of pr m) ≡ edits.node its.field h.CallExpr its.inside ++ its.behind
    items = its.is

    refers : its.role ≡ r.Reference
    refers =
        role_in_call listing its.field its.inside its.literal (spot_before (tree_of pr m) place)
        its.behind (at_there (tree_of pr m) place items)

    first : h.Open its.field h.CallExpr ≡ h.Open field head
    first =
        same_Some (h.Open its.field h.CallExpr) (h.Open field head)
        (sym (get-drop (tree_of pr m) place ∙ ap (λ l. slice_get l 0) items) ∙ there)

    head_is : h.CallExpr ≡ head
    head_is = same_head first

    not_member : h.CallExpr ≡ h.MemberExpr → ⊥
    not_member e = cc

-- what is replaced in a module is what notes can tell of
pub replaces_notable : (pr : Program) (m : ℕ) (kind : ModuleKind) (meta : Option Meant) →
    ((meant : Meant) → meta ≡ Some meant → meant ≡ Known (Meta m)) → MetaIs pr m meta →
    nested.AreNodes (tree_of pr m) → IsListing (tree_of pr m) →
    ReplacesNotable (own_sense pr m kind) meta
replaces_notable pr m kind meta only metas nodes listing = record {
  nodes =
      λ place field head by there clear is.
      noted_node pr m meta nodes listing metas place field head there is;
  metas = λ place field meant there is. (Meta m, only meant is, import_meta (ap is_meta_at there));
}
