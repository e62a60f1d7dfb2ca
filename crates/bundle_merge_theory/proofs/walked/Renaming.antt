-- A tree with other identifiers has the same marks.
use Rattle.std.proofs.Common.{◌≡◌, ℕ, Bool, true, false, not, is_none, ◌&&◌, List, [], ◌∷◌, ◌++◌, Option, Some, None, map, refl, ap, sym, ◌∙◌, subst, append_assoc}
use Rattle.std.specs.List.{AllZip}
use Rattle.std.proofs.lemmas.Bool.{and_parts, not-true}
use Rattle.bundle_syntax.specs.declared.piece.Role.{Role}
use Rattle.bundle_syntax.specs.Item as h
use Rattle.bundle_syntax.specs.Item.{Item, Head}
use Rattle.bundle_rules.specs.Nodes.{Text}
use Rattle.bundle_rules.specs.Idents.{Ident}
use Rattle.bundle_rules.specs.Rebuilds.{Change, spells_out}
use Rattle.bundle_rules.specs.Shape.{is_specifier}
use Rattle.bundle_rules.specs.Meaning.{Meant, Mark}
use Rattle.bundle_tree_places.specs.Edits.{Around, Anywhere, InObject, InSpecifier, Edits, node, is_occurrence, around_in, in_its_place, is_plain, is_second_plain, binding, shorthand_in_its_place, ends_in_name}
use Rattle.bundle_tree_places.specs.Edits as c
use Rattle.bundle_tree_rebuild.specs.declared.rewrite.Whole.{Whole}
use Rattle.bundle_merge_theory.specs.noted.Marked.{Note, Marked, node_stays, marks_there, node_marks, shorthand_marks}
use Rattle.bundle_tree_rebuild.specs.Becomes.{keeps_first}
use Rattle.bundle_merge_theory.specs.noted.Marked as d
use Rattle.bundle_tree_rebuild.specs.declared.rewrite.Whole.TheVariants as w
use Rattle.bundle_merge_theory.specs.walked.Names.{idents_among}
use Rattle.bundle_merge_theory.specs.walked.Keeps.{notes_alone}
use Rattle.bundle_merge_theory.specs.walked.Rewrites.{is_in_no_specifier}
use Rattle.bundle_merge_theory.specs.walked.Renaming.{AreAlone, KeepsText, ends_no_specifier, last_is_name, ident_of_change, RenamedByNotes}
use Rattle.bundle_merge_theory.proofs.walked.NameLemmas.{names_of-append, node_names, word_names, name_names, short_names, kept_names}
use Rattle.bundle_merge_theory.proofs.walked.Keeping.{Both, empty, filled, both_joined, either_filled, place_filled, alike, alike_inside, name_made, name_made_names, short_made, spelled_names, same_default}

-- names that stand for themselves alone leave such names
pub alone_left : {meta : Option Meant} {around : Around} {notes rest : List Note}
    {items : List Item} {marks : List Mark} → Marked meta around notes items marks rest →
    AreAlone notes → AreAlone rest
alone_left d.Nothing notes_alone = notes_alone
alone_left (d.Joined one two) notes_alone = alone_left two (alone_left one notes_alone)
alone_left (d.Hole field) notes_alone = notes_alone
alone_left (d.Word field x ctxt role plain) notes_alone = notes_alone
alone_left (d.Name around field x ctxt role occurs) notes_alone = notes_alone.1
alone_left (d.Inside field head it_stays one) notes_alone = alone_left one notes_alone
alone_left (d.Kept field head first keeps one two) notes_alone = alone_left two (alone_left one notes_alone)
alone_left (d.Shorthand field x ctxt role occurs one) notes_alone = alone_left one notes_alone.1
alone_left (d.OfReads field count inside reads) notes_alone = notes_alone.1
alone_left (d.OfCall field inside calls) notes_alone = notes_alone.1
alone_left (d.OfMeta field meant is) notes_alone = notes_alone

-- and replace nothing
reads_none : (meant : Meant) (whole : Whole) (inside : List Item) → whole ≡ w.Alone →
    is_none (d.meant_by_reads meant whole inside) ≡ true
reads_none meant w.Alone inside is = refl
reads_none meant (w.Reads count) inside is = cc
reads_none meant w.Call inside is = refl

call_none : (meant : Meant) (whole : Whole) (inside : List Item) → whole ≡ w.Alone →
    is_none (d.meant_by_call meant whole inside) ≡ true
call_none meant w.Alone inside is = refl
call_none meant (w.Reads count) inside is = refl
call_none meant w.Call inside is = cc

none_stays : (head : Head) (inside made : List Item) →
    node_stays None None head inside ≡ node_stays None None head made
none_stays h.MemberExpr inside made = refl
none_stays h.CallExpr inside made = refl
none_stays _ inside made = refl

pub alone_stays : (notes : List Note) (head : Head) (inside made : List Item) → AreAlone notes →
    node_stays None (d.next_note notes) head inside ≡ node_stays None (d.next_note notes) head made
alone_stays [] head inside made notes_alone = none_stays head inside made
alone_stays (note ∷ notes) h.MemberExpr inside made notes_alone =
    reads_none note.meant note.whole inside notes_alone.0
    ∙ sym (reads_none note.meant note.whole made notes_alone.0)
alone_stays (note ∷ notes) h.CallExpr inside made notes_alone =
    call_none note.meant note.whole inside notes_alone.0
    ∙ sym (call_none note.meant note.whole made notes_alone.0)
alone_stays (note ∷ notes) _ inside made notes_alone = refl

-- Specifiers.

pub last-append : (is_name : Bool) (xs ys : List Item) →
    last_is_name is_name (xs ++ ys) ≡ last_is_name (last_is_name is_name xs) ys
last-append is_name [] ys = refl
last-append is_name (h.Open field head ∷ xs) ys = last-append false xs ys
last-append is_name (h.Ident field x ctxt role ∷ xs) ys = last-append (is_occurrence role) xs ys
last-append is_name (h.Hole field ∷ xs) ys = last-append false xs ys
last-append is_name (h.Close ∷ xs) ys = last-append false xs ys

-- behind a node no occurrence stands
pub last_of_node : (inside : List Item) → last_is_name false (inside ++ h.Close ∷ []) ≡ false
last_of_node inside = last-append false inside (h.Close ∷ [])

-- a node is passed where what is in it is
node_passed : (field : ℕ) (head : Head) (inside : List Item) (open_nodes : List Bool)
    (is_name : Bool) (post : List Item) →
    (ends_no_specifier (is_specifier head ∷ open_nodes) false (inside ++ h.Close ∷ post) ≡ true →
    ends_no_specifier (is_specifier head ∷ open_nodes) (last_is_name false inside) (h.Close ∷ post)
    ≡ true) → ends_no_specifier open_nodes is_name (node field head inside ++ post) ≡ true →
    (not (is_specifier head && last_is_name false inside) ≡ true)
    × (ends_no_specifier open_nodes false post ≡ true)
node_passed field head inside open_nodes is_name post within ends =
    and_parts (not (is_specifier head && last_is_name false inside))
    (ends_no_specifier open_nodes false post)
    (within
    (subst (λ items. ends_no_specifier (is_specifier head ∷ open_nodes) false items ≡ true)
    (append_assoc inside (h.Close ∷ []) post) ends))

-- behind the first node of another
behind_first : (first : ℕ) (inside more : List Item) (open_nodes : List Bool) (is_name : Bool)
    (post : List Item) →
    (ends_no_specifier (false ∷ open_nodes) false (inside ++ h.Close ∷ (more ++ h.Close ∷ post))
    ≡ true →
    ends_no_specifier (false ∷ open_nodes) (last_is_name false inside)
    (h.Close ∷ (more ++ h.Close ∷ post)) ≡ true) →
    ends_no_specifier open_nodes is_name
    ((node first h.MemberExpr inside ++ more) ++ h.Close ∷ post) ≡ true →
    ends_no_specifier open_nodes false (more ++ h.Close ∷ post) ≡ true
behind_first first inside more open_nodes is_name post within ends =
    (node_passed first h.MemberExpr inside open_nodes is_name (more ++ h.Close ∷ post) within (subst (λ items. ends_no_specifier open_nodes is_name items ≡ true) (append_assoc (node first h.MemberExpr inside) more (h.Close ∷ post)) ends)).1

last_of_kept : (first : ℕ) (inside more : List Item) →
    last_is_name false (node first h.MemberExpr inside ++ more) ≡ last_is_name false more
last_of_kept first inside more =
    last-append false (node first h.MemberExpr inside) more
    ∙ ap (λ b. last_is_name b more) (last_of_node inside)

-- whole nodes are passed
passed : {around : Around} {notes rest : List Note} {before : List Item} {marks : List Mark} →
    Marked None around notes before marks rest → AreAlone notes →
    (open_nodes : List Bool) (is_name : Bool) (post : List Item) →
    ends_no_specifier open_nodes is_name (before ++ post) ≡ true →
    ends_no_specifier open_nodes (last_is_name is_name before) post ≡ true
passed d.Nothing notes_alone open_nodes is_name post ends = ends
passed (d.Joined {first = first} {second = second} one two) notes_alone open_nodes is_name post ends =
    subst (λ b. ends_no_specifier open_nodes b post ≡ true)
    (sym (last-append is_name first second))
    (passed two (alone_left one notes_alone) open_nodes (last_is_name is_name first) post
    (passed one notes_alone open_nodes is_name (second ++ post) (subst (λ items. ends_no_specifier open_nodes is_name items ≡ true) (append_assoc first second post) ends)))
passed (d.Hole field) notes_alone open_nodes is_name post ends = ends
passed (d.Word field x ctxt role plain) notes_alone open_nodes is_name post ends = ends
passed (d.Name around field x ctxt role occurs) notes_alone open_nodes is_name post ends = ends
passed (d.Inside field head {inside = inside} it_stays one) notes_alone open_nodes is_name post ends =
    subst (λ b. ends_no_specifier open_nodes b post ≡ true) (sym (last_of_node inside))
    (node_passed field head inside open_nodes is_name post (passed one notes_alone (is_specifier head ∷ open_nodes) false (h.Close ∷ post)) ends).1
passed (d.Kept field head first {inside = inside} {more = more} keeps one two) notes_alone open_nodes
    is_name post ends =
    subst (λ b. ends_no_specifier open_nodes b post ≡ true)
    (sym (last_of_node (node first h.MemberExpr inside ++ more)))
    (node_passed field head (node first h.MemberExpr inside ++ more) open_nodes is_name post
    (λ ends_inside.
    subst (λ b. ends_no_specifier (is_specifier head ∷ open_nodes) b (h.Close ∷ post) ≡ true)
    (sym (last_of_kept first inside more))
    (passed two (alone_left one notes_alone) (is_specifier head ∷ open_nodes) false (h.Close ∷ post)
    (behind_first first inside more (is_specifier head ∷ open_nodes) false post (passed one notes_alone (false ∷ is_specifier head ∷ open_nodes) false (h.Close ∷ (more ++ h.Close ∷ post))) ends_inside)))
    ends).1
passed (d.Shorthand field x ctxt role {default = default} occurs one) notes_alone open_nodes is_name post
    ends =
    subst (λ b. ends_no_specifier open_nodes b post ≡ true)
    (sym (last_of_node (binding None 0 x ctxt role ++ default)))
    (node_passed field h.AssignPatProp (binding None 0 x ctxt role ++ default) open_nodes is_name post (λ ends_inside. passed one notes_alone.1 (false ∷ open_nodes) false (h.Close ∷ post) ends_inside) ends).1
passed (d.OfReads field count inside reads) notes_alone open_nodes is_name post ends = cc
passed (d.OfCall field inside calls) notes_alone open_nodes is_name post ends = cc
passed (d.OfMeta field meant is) notes_alone open_nodes is_name post ends = cc

-- What is in a specifier.

pub ends_in_name-cons : (x y : Item) (rest : List Item) →
    ends_in_name (x ∷ y ∷ rest) ≡ ends_in_name (y ∷ rest)
ends_in_name-cons (h.Open field head) y rest = refl
ends_in_name-cons (h.Ident field symbol ctxt role) y rest = refl
ends_in_name-cons (h.Hole field) y rest = refl
ends_in_name-cons h.Close y rest = refl

pub ends_last : (is_name : Bool) (x : Item) (xs : List Item) →
    ends_in_name (x ∷ xs) ≡ last_is_name is_name (x ∷ xs)
ends_last is_name (h.Open field head) [] = refl
ends_last is_name (h.Ident field x ctxt role) [] = refl
ends_last is_name (h.Hole field) [] = refl
ends_last is_name h.Close [] = refl
ends_last is_name (h.Open field head) (y ∷ ys) =
    ends_in_name-cons (h.Open field head) y ys ∙ ends_last false y ys
ends_last is_name (h.Ident field x ctxt role) (y ∷ ys) =
    ends_in_name-cons (h.Ident field x ctxt role) y ys ∙ ends_last (is_occurrence role) y ys
ends_last is_name (h.Hole field) (y ∷ ys) =
    ends_in_name-cons (h.Hole field) y ys ∙ ends_last false y ys
ends_last is_name h.Close (y ∷ ys) = ends_in_name-cons h.Close y ys ∙ ends_last false y ys

plain_second : (inside : List Item) → not (last_is_name false inside) ≡ true →
    is_second_plain inside ≡ true
plain_second [] is = refl
plain_second (x ∷ []) is = refl
plain_second (x ∷ y ∷ rest) is = ap not (ends_last false x (y ∷ rest)) ∙ is

plain_inside : (next : Option Note) (head : Head) (inside : List Item) →
    node_stays None next head inside ≡ true →
    not (is_specifier head && last_is_name false inside) ≡ true → is_plain head inside ≡ true
plain_inside next h.AssignPatProp inside it_stays ends = cc
plain_inside next h.ImportNamedSpecifier inside it_stays ends = plain_second inside ends
plain_inside next h.ExportNamedSpecifier inside it_stays ends = plain_second inside ends
plain_inside next _ inside it_stays ends = refl

lone_names : (x : Item) → not (last_is_name false (x ∷ [])) ≡ true → idents_among (x ∷ []) ≡ []
lone_names (h.Open field head) ends = refl
lone_names (h.Ident field x ctxt role) ends =
    word_names field x ctxt role (not-true (is_occurrence role) ends)
lone_names (h.Hole field) ends = refl
lone_names h.Close ends = refl

not_false : {A : Type 0} → true ≡ false → A
not_false is = cc

-- no name stands alone in a specifier
free_inside : (head : Head) (inside : List Item) →
    not (is_specifier head && last_is_name false inside) ≡ true →
    is_in_no_specifier (around_in head inside) ≡ false → idents_among inside ≡ []
free_inside h.ObjectLit inside ends free = cc
free_inside h.ImportNamedSpecifier [] ends free = cc
free_inside h.ImportNamedSpecifier (x ∷ []) ends free = lone_names x ends
free_inside h.ImportNamedSpecifier (x ∷ y ∷ rest) ends free = cc
free_inside h.ExportNamedSpecifier [] ends free = cc
free_inside h.ExportNamedSpecifier (x ∷ []) ends free = lone_names x ends
free_inside h.ExportNamedSpecifier (x ∷ y ∷ rest) ends free = cc
free_inside _ inside ends free = cc

-- Changes of parts.

record Split (its : List Change) (first second : List Ident) : Type 0 where
  front : List Change
  back : List Change
  is : its ≡ front ++ back
  for_first : AllZip KeepsText front first
  for_second : AllZip KeepsText back second

split : (its : List Change) (first second : List Ident) → AllZip KeepsText its (first ++ second) →
    Split its first second
split its [] second cover =
    record { front = []; back = its; is = refl; for_first = tt; for_second = cover }
split [] (x ∷ first) second cover = absurd cover
split (change ∷ its) (x ∷ first) second cover =
    let rest = split its first second cover.1 in
    record
    { front = change ∷ rest.front; back = rest.back; is = ap (λ list. change ∷ list) rest.is; for_first = (cover.0, rest.for_first); for_second = rest.for_second }

no_changes : (its : List Change) (names : List Ident) → names ≡ [] → AllZip KeepsText its names →
    its ≡ []
no_changes [] names none cover = refl
no_changes (change ∷ its) [] none cover = absurd cover
no_changes (change ∷ its) (x ∷ names) none cover = cc

-- the first change
record Taken (its : List Change) (x : Text) (others : List Ident) : Type 0 where
  change : Change
  behind : List Change
  is : its ≡ change ∷ behind
  symbol : change.is_spelled_out ≡ false → change.ident.0 ≡ x
  cover : AllZip KeepsText behind others

taken : (its : List Change) (ident : Ident) (others names : List Ident) → names ≡ ident ∷ others →
    AllZip KeepsText its names → Taken its ident.0 others
taken its ident others names names_are cover =
    go its (subst (λ list. AllZip KeepsText its list) names_are cover)
  where
    go : (list : List Change) → AllZip KeepsText list (ident ∷ others) → Taken list ident.0 others
    go [] all = absurd all
    go (change ∷ behind) all =
        record { change = change; behind = behind; is = refl; symbol = all.0; cover = all.1 }

-- with equal changes
by_changes : {around : Around} {notes rest : List Note} {before : List Item} {marks : List Mark}
    {changes other left : List Change} → changes ≡ other →
    RenamedByNotes around notes rest before marks changes left →
    RenamedByNotes around notes rest before marks other left
by_changes {around = around} {notes = notes} {rest = rest} {before = before} {marks = marks}
    {left = left} is one =
    subst (λ list. RenamedByNotes around notes rest before marks list left) is one

unchanged : {around : Around} {notes : List Note} {before : List Item} {marks : List Mark}
    (its left : List Change) (names : List Ident) → names ≡ [] → AllZip KeepsText its names →
    Edits around left before before left → Marked None around notes before marks notes →
    idents_among before ≡ [] → RenamedByNotes around notes notes before marks (its ++ left) left
unchanged {before = before} its left names none cover edits marked no_names =
    by_changes (ap (λ list. list ++ left) (sym (no_changes its names none cover)))
    (record
    { after = before; edits = edits; marked = marked; names = ap (λ list. list ++ map ident_of_change left) (sym no_names) })

-- a name that is there stands in no specifier
is_free : (around : Around) (ident : Ident) (names others : List Ident) → names ≡ ident ∷ others →
    (is_in_no_specifier around ≡ false → names ≡ []) → is_in_no_specifier around ≡ true
is_free Anywhere ident names others is free = refl
is_free InObject ident names others is free = refl
is_free InSpecifier ident names others is free = let none : names ≡ [] = free refl in cc

no_first : (first second : List Ident) → first ++ second ≡ [] → first ≡ []
no_first [] second is = refl
no_first (x ∷ first) second is = cc

no_second : (first second : List Ident) → first ++ second ≡ [] → second ≡ []
no_second [] second is = is
no_second (x ∷ first) second is = cc

-- identifiers of changes in two parts
both_names : {changes middle : List Ident} (first second left : List Ident) →
    changes ≡ first ++ middle → middle ≡ second ++ left → changes ≡ (first ++ second) ++ left
both_names first second left one two =
    one ∙ (ap (λ list. first ++ list) two ∙ sym (append_assoc first second left))

-- a name
renamed_name : {around : Around} {note : Note} {rest : List Note} (field : ℕ) (x : Text) (ctxt : ℕ)
    (role : Role) (its left : List Change) → is_occurrence role ≡ true →
    is_in_no_specifier around ≡ true → (first : Taken its x []) →
    RenamedByNotes around (note ∷ rest) rest (h.Ident field x ctxt role ∷ [])
    (marks_there around field x note.meant) (its ++ left) left
renamed_name {around = around} {note = note} {rest = rest} field x ctxt role its left occurs free
    first =
    by_changes
    (ap (λ list. list ++ left)
    (sym
    (first.is
    ∙ ap (λ list. first.change ∷ list) (no_changes first.behind [] refl first.cover))))
    (record {
      after = in_its_place around (Some first.change) field x ctxt role;
      edits = c.Name around field x ctxt role occurs;
      marked = name_made around field x ctxt role first.change note rest occurs free first.symbol;
      names =
          ap (λ list. list ++ map ident_of_change left)
          (sym (name_made_names around field x ctxt role first.change occurs free));
    })

-- what stands in a node
renamed_node : {around : Around} {notes rest : List Note} {inside : List Item} {marks : List Mark}
    {changes left : List Change} (field : ℕ) (head : Head) → AreAlone notes →
    node_stays None (d.next_note notes) head inside ≡ true → is_plain head inside ≡ true →
    RenamedByNotes (around_in head inside) notes rest inside marks changes left →
    RenamedByNotes around notes rest (node field head inside) (node_marks field head marks) changes left
renamed_node {notes = notes} {inside = inside} {left = left} field head notes_alone it_stays plain one = record {
  after = node field head one.after;
  edits = c.Inside field head plain one.edits;
  marked =
      d.Inside field head (sym (alone_stays notes head inside one.after notes_alone) ∙ it_stays)
      (alike (alike_inside head inside one.after) one.marked);
  names =
      one.names
      ∙ ap (λ list. list ++ map ident_of_change left) (sym (node_names field head one.after));
}

-- where the first of what is in a node is kept
kept_edits : {around : Around} {changes left : List Change} (field : ℕ) (head : Head) (first : ℕ)
    {inside made : List Item} → keeps_first head first ≡ true →
    Edits Anywhere changes inside made left →
    Edits around changes (node field head inside) (node field head made) left
kept_edits field (h.AssignExpr op) first keeps one = c.Inside field (h.AssignExpr op) refl one
kept_edits field (h.OptChainExpr optional) first keeps one =
    c.Inside field (h.OptChainExpr optional) refl one
kept_edits field _ first keeps one = cc

renamed_kept : {around : Around} {notes between rest : List Note} {inside more : List Item}
    {marks more_marks : List Mark} {changes middle left : List Change} (field : ℕ) (head : Head)
    (first : ℕ) → keeps_first head first ≡ true →
    RenamedByNotes Anywhere notes between inside marks changes middle →
    RenamedByNotes Anywhere between rest more more_marks middle left →
    RenamedByNotes around notes rest (node field head (node first h.MemberExpr inside ++ more))
    (node_marks field head (node_marks first h.MemberExpr marks ++ more_marks)) changes left
renamed_kept {left = left} field head first keeps front back = record {
  after = node field head (node first h.MemberExpr front.after ++ back.after);
  edits =
      kept_edits field head first keeps
      (c.Joined (c.Inside first h.MemberExpr refl front.edits) back.edits);
  marked = d.Kept field head first keeps front.marked back.marked;
  names =
      both_names (idents_among front.after) (idents_among back.after) (map ident_of_change left)
      front.names back.names
      ∙ ap (λ list. list ++ map ident_of_change left)
      (sym (kept_names field head first front.after back.after));
}

-- A shorthand.

both_edits : {around : Around} {changes left : List Change} {before after : List Item} →
    Edits around changes before after left → Both before after
both_edits c.Nothing = empty
both_edits (c.Joined one two) = both_joined (both_edits one) (both_edits two)
both_edits (c.Hole field) = filled _ _ _ _
both_edits (c.Word field x ctxt role plain) = filled _ _ _ _
both_edits (c.Name around {changes = changes} field x ctxt role occurs) =
    place_filled around (c.next changes) field x ctxt role _
both_edits (c.Inside field head plain one) = filled _ _ _ _
both_edits {changes = changes} (c.Shorthand field x ctxt role occurs one) =
    either_filled (spells_out (c.next changes)) _ _ _ _ _ _

nothing_first : (first second : List Item) → first ++ second ≡ [] → first ≡ []
nothing_first [] second is = refl
nothing_first (x ∷ first) second is = cc

nothing_second : (first second : List Item) → first ++ second ≡ [] → second ≡ []
nothing_second [] second is = is
nothing_second (x ∷ first) second is = cc

-- nothing takes no note
marked_nothing : {meta : Option Meant} {around : Around} {notes rest : List Note}
    {items : List Item} {marks : List Mark} → Marked meta around notes items marks rest →
    items ≡ [] → notes ≡ rest
marked_nothing d.Nothing is = refl
marked_nothing (d.Joined {first = first} {second = second} one two) is =
    marked_nothing one (nothing_first first second is)
    ∙ marked_nothing two (nothing_second first second is)
marked_nothing (d.Hole field) is = cc
marked_nothing (d.Word field x ctxt role plain) is = cc
marked_nothing (d.Name around field x ctxt role occurs) is = cc
marked_nothing (d.Inside field head it_stays one) is = cc
marked_nothing (d.Kept field head first keeps one two) is = cc
marked_nothing (d.Shorthand field x ctxt role occurs one) is = cc
marked_nothing (d.OfReads field count inside reads) is = cc
marked_nothing (d.OfCall field inside calls) is = cc
marked_nothing (d.OfMeta field meant it) is = cc

renamed_short : {around : Around} {note : Note} {notes rest : List Note} {default : List Item}
    {marks : List Mark} (field : ℕ) (x : Text) (ctxt : ℕ) (role : Role) (its left : List Change)
    (others : List Ident) → is_occurrence role ≡ true → (first : Taken its x others) →
    RenamedByNotes Anywhere notes rest default marks (first.behind ++ left) left →
    RenamedByNotes around (note ∷ notes) rest
    (node field h.AssignPatProp (binding None 0 x ctxt role ++ default))
    (shorthand_marks field x note.meant default marks) (its ++ left) left
renamed_short {around = around} {note = note} {notes = notes} {rest = rest} {default = default}
    {marks = marks} field x ctxt role its left others occurs first one =
    by_changes (ap (λ list. list ++ left) (sym first.is))
    (record {
      after = shorthand_in_its_place (Some first.change) field x ctxt role one.after;
      edits = c.Shorthand field x ctxt role occurs one.edits;
      marked =
          subst
          (λ list.
          Marked None around (note ∷ notes)
          (shorthand_in_its_place (Some first.change) field x ctxt role one.after) list rest)
          (same_default field x note.meant marks (both_edits one.edits))
          (short_made first.change.is_spelled_out first.change field x ctxt role note one.after
          marks notes rest occurs first.symbol (marked_nothing one.marked) one.marked);
      names =
          ap (λ list. first.change.ident ∷ list) one.names
          ∙ ap (λ list. list ++ map ident_of_change left)
          (sym
          (spelled_names first.change.is_spelled_out first.change field x ctxt role one.after
          occurs));
    })

-- Main

-- with other identifiers a part keeps its marks, by the same notes
pub renamed_marks : {around : Around} {notes rest : List Note} {before : List Item}
    {marks : List Mark} → Marked None around notes before marks rest → AreAlone notes →
    (its left : List Change) → AllZip KeepsText its (idents_among before) →
    (open_nodes : List Bool) (is_name : Bool) (post : List Item) →
    ends_no_specifier open_nodes is_name (before ++ post) ≡ true →
    (is_in_no_specifier around ≡ false → idents_among before ≡ []) →
    RenamedByNotes around notes rest before marks (its ++ left) left
renamed_marks d.Nothing notes_alone its left cover open_nodes is_name post ends free =
    unchanged its left [] refl cover c.Nothing d.Nothing refl
renamed_marks (d.Joined {first = first} {second = second} one two) notes_alone its left cover open_nodes
    is_name post ends free =
    let parts =
    split its (idents_among first) (idents_among second)
    (subst (λ list. AllZip KeepsText its list) (names_of-append first second) cover) in
    let start =
    subst (λ items. ends_no_specifier open_nodes is_name items ≡ true)
    (append_assoc first second post) ends in
    let front =
    renamed_marks one notes_alone parts.front (parts.back ++ left) parts.for_first open_nodes is_name
    (second ++ post) start
    (λ is.
    no_first (idents_among first) (idents_among second)
    (sym (names_of-append first second) ∙ free is)) in
    let back =
    renamed_marks two (alone_left one notes_alone) parts.back left parts.for_second open_nodes
    (last_is_name is_name first) post
    (passed one notes_alone open_nodes is_name (second ++ post) start)
    (λ is.
    no_second (idents_among first) (idents_among second)
    (sym (names_of-append first second) ∙ free is)) in
    by_changes
    (sym (append_assoc parts.front parts.back left) ∙ ap (λ list. list ++ left) (sym parts.is))
    (record
    { after = front.after ++ back.after; edits = c.Joined front.edits back.edits; marked = d.Joined front.marked back.marked; names = both_names (idents_among front.after) (idents_among back.after) (map ident_of_change left) front.names back.names ∙ ap (λ list. list ++ map ident_of_change left) (sym (names_of-append front.after back.after)) })
renamed_marks (d.Hole field) notes_alone its left cover open_nodes is_name post ends free =
    unchanged its left [] refl cover (c.Hole field) (d.Hole field) refl
renamed_marks (d.Word field x ctxt role plain) notes_alone its left cover open_nodes is_name post ends
    free =
    unchanged its left _ (word_names field x ctxt role plain) cover
    (c.Word field x ctxt role plain) (d.Word field x ctxt role plain)
    (word_names field x ctxt role plain)
renamed_marks (d.Name around field x ctxt role occurs) notes_alone its left cover open_nodes is_name post
    ends free =
    renamed_name field x ctxt role its left occurs
    (is_free around (x, ctxt) _ [] (name_names field x ctxt role [] occurs) free)
    (taken its (x, ctxt) [] _ (name_names field x ctxt role [] occurs) cover)
renamed_marks (d.Inside {notes = notes} field head {inside = inside} it_stays one) notes_alone its left
    cover open_nodes is_name post ends free =
    let within =
    subst (λ items. ends_no_specifier (is_specifier head ∷ open_nodes) false items ≡ true)
    (append_assoc inside (h.Close ∷ []) post) ends in
    let no_end =
    (node_passed field head inside open_nodes is_name post (passed one notes_alone (is_specifier head ∷ open_nodes) false (h.Close ∷ post)) ends).0 in
    renamed_node field head notes_alone it_stays
    (plain_inside (d.next_note notes) head inside it_stays no_end)
    (renamed_marks one notes_alone its left
    (subst (λ list. AllZip KeepsText its list) (node_names field head inside) cover)
    (is_specifier head ∷ open_nodes) false (h.Close ∷ post) within
    (free_inside head inside no_end))
renamed_marks (d.Kept field head first {inside = inside} {more = more} keeps one two) notes_alone its
    left cover open_nodes is_name post ends free =
    let parts =
    split its (idents_among inside) (idents_among more)
    (subst (λ list. AllZip KeepsText its list) (kept_names field head first inside more)
    cover) in
    let all =
    subst (λ items. ends_no_specifier (is_specifier head ∷ open_nodes) false items ≡ true)
    (append_assoc (node first h.MemberExpr inside ++ more) (h.Close ∷ []) post) ends in
    let opened =
    subst (λ items. ends_no_specifier (is_specifier head ∷ open_nodes) false items ≡ true)
    (append_assoc (node first h.MemberExpr inside) more (h.Close ∷ post)) all in
    let within =
    subst
    (λ items. ends_no_specifier (false ∷ is_specifier head ∷ open_nodes) false items ≡ true)
    (append_assoc inside (h.Close ∷ []) (more ++ h.Close ∷ post)) opened in
    let front =
    renamed_marks one notes_alone parts.front (parts.back ++ left) parts.for_first
    (false ∷ is_specifier head ∷ open_nodes) false (h.Close ∷ (more ++ h.Close ∷ post)) within
    (λ is. not_false is) in
    let back =
    renamed_marks two (alone_left one notes_alone) parts.back left parts.for_second
    (is_specifier head ∷ open_nodes) false (h.Close ∷ post)
    (behind_first first inside more (is_specifier head ∷ open_nodes) false post
    (passed one notes_alone (false ∷ is_specifier head ∷ open_nodes) false
    (h.Close ∷ (more ++ h.Close ∷ post)))
    all)
    (λ is. not_false is) in
    by_changes
    (sym (append_assoc parts.front parts.back left) ∙ ap (λ list. list ++ left) (sym parts.is))
    (renamed_kept field head first keeps front back)
renamed_marks (d.Shorthand field x ctxt role {default = default} occurs one) notes_alone its left cover
    open_nodes is_name post ends free =
    let first =
    taken its (x, ctxt) (idents_among default) _ (short_names field x ctxt role default occurs)
    cover in
    let within =
    subst (λ items. ends_no_specifier (false ∷ open_nodes) false items ≡ true)
    (append_assoc default (h.Close ∷ []) post) ends in
    renamed_short field x ctxt role its left (idents_among default) occurs first
    (renamed_marks one notes_alone.1 first.behind left first.cover (false ∷ open_nodes) false
    (h.Close ∷ post) within (λ is. not_false is))
renamed_marks (d.OfReads field count inside reads) notes_alone its left cover open_nodes is_name post
    ends free =
    cc
renamed_marks (d.OfCall field inside calls) notes_alone its left cover open_nodes is_name post ends free =
    cc
renamed_marks (d.OfMeta field meant is) notes_alone its left cover open_nodes is_name post ends free = cc

-- All items of a bundle.

pub alone_alone : (meants : List Meant) → AreAlone (notes_alone meants)
alone_alone [] = tt
alone_alone (meant ∷ meants) = (refl, alone_alone meants)
