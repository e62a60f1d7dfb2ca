-- A cleared part has the same marks: contexts and notes are in none.
-- Notes are in no marks: a part has the marks that it has without them.
use Rattle.std.proofs.Common.{◌≡◌, ℕ, true, List, [], ◌∷◌, ◌++◌, None, map, refl, ap, sym, ◌∙◌, subst, Bool, false}
use Rattle.std.specs.List.{AllZip}
use Rattle.bundle_syntax.specs.Item as h
use Rattle.bundle_syntax.specs.Item.{Item, Head}
use Rattle.bundle_syntax.specs.declared.piece.Role.{Role}
use Rattle.bundle_rules.specs.Nodes.{Text}
use Rattle.bundle_rules.specs.Meaning.{Meant, Mark}
use Rattle.bundle_rules.specs.Cleared.{cleared_head, cleared, without_note, without_notes}
use Rattle.bundle_rules.specs.Marks as m
use Rattle.bundle_tree_places.specs.Edits.{Around, node, around_in, binding}
use Rattle.bundle_tree_rebuild.specs.Becomes.{keeps_first}
pub use Rattle.bundle_link.proofs.ClearedNodes.{cleared-append}
use Rattle.bundle_merge_theory.specs.noted.Marked as d
use Rattle.bundle_merge_theory.specs.noted.Marked.{Note, Marked, node_stays, marks_there, node_marks, shorthand_marks}
use Rattle.bundle_merge_theory.specs.walked.Renaming.{AreAlone, ItemMeaning, HasMarks}
use Rattle.bundle_merge_theory.proofs.walked.Keeping.{alike, alike_inside}
use Rattle.bundle_merge_theory.proofs.walked.Renaming.{alone_left, alone_stays, alone_alone}

-- ---- clearing
pub node-cleared : (field : ℕ) (head : Head) (inside : List Item) →
    cleared (node field head inside) ≡ node field (cleared_head head) (cleared inside)
node-cleared field head inside =
    ap (λ list. h.Open field (cleared_head head) ∷ list) (cleared-append inside (h.Close ∷ []))

-- heads
pub twice : (head : Head) → cleared_head (cleared_head head) ≡ cleared_head head
twice (h.ImportDecl meta) = refl
twice (h.NamedExport meta) = refl
twice (h.ExportAll meta) = refl
twice (h.VarDecl kind meta) = refl
twice _ = refl

pub head_stays : (notes : List Note) (head : Head) (inside : List Item) → AreAlone notes →
    node_stays None (d.next_note notes) (cleared_head head) (cleared inside)
    ≡ node_stays None (d.next_note notes) head inside
head_stays notes (h.ImportDecl meta) inside its = refl
head_stays notes (h.NamedExport meta) inside its = refl
head_stays notes (h.ExportAll meta) inside its = refl
head_stays notes (h.VarDecl kind meta) inside its = refl
head_stays notes head inside its = alone_stays notes head (cleared inside) inside its

pub head_alike : (head : Head) (inside : List Item) (field : ℕ) (x : Text) (meant : Meant) →
    marks_there (around_in head inside) field x meant
    ≡ marks_there (around_in (cleared_head head) (cleared inside)) field x meant
head_alike (h.ImportDecl meta) inside field x meant = refl
head_alike (h.NamedExport meta) inside field x meant = refl
head_alike (h.ExportAll meta) inside field x meant = refl
head_alike (h.VarDecl kind meta) inside field x meant = refl
head_alike head inside field x meant = alike_inside head inside (cleared inside) field x meant

pub first_kept : (head : Head) (first : ℕ) → keeps_first head first ≡ true →
    keeps_first (cleared_head head) first ≡ true
first_kept (h.ImportDecl meta) first keeps = keeps
first_kept (h.NamedExport meta) first keeps = keeps
first_kept (h.ExportAll meta) first keeps = keeps
first_kept (h.VarDecl kind meta) first keeps = keeps
first_kept head first keeps = keeps

-- a node
cleared_node : {around : Around} {notes rest : List Note} (field : ℕ) (head : Head)
    (inside : List Item) (marks : List Mark) →
    Marked None around notes (node field (cleared_head head) (cleared inside))
    (node_marks field (cleared_head head) marks) rest →
    Marked None around notes (cleared (node field head inside)) (node_marks field head marks) rest
cleared_node {around = around} {notes = notes} {rest = rest} field head inside marks one =
    subst (λ list. Marked None around notes list (node_marks field head marks) rest)
    (sym (node-cleared field head inside))
    (subst
    (λ its.
    Marked None around notes (node field (cleared_head head) (cleared inside))
    (m.Begins field its ∷ (marks ++ m.Ends ∷ [])) rest)
    (twice head) one)

default-cleared : (field : ℕ) (x : Text) (meant : Meant) (default : List Item)
    (marks : List Mark) →
    shorthand_marks field x meant (cleared default) marks
    ≡ shorthand_marks field x meant default marks
default-cleared field x meant [] marks = refl
default-cleared field x meant (first ∷ more) marks = refl

-- where names stand for themselves alone
pub marked-cleared : {around : Around} {notes rest : List Note} {items : List Item}
    {marks : List Mark} → Marked None around notes items marks rest → AreAlone notes →
    Marked None around notes (cleared items) marks rest
marked-cleared d.Nothing its = d.Nothing
marked-cleared {around = around} {notes = notes} {rest = rest}
    (d.Joined {first = first} {second = second} {marks = marks} {more = more} one two) its =
    subst (λ list. Marked None around notes list (marks ++ more) rest)
    (sym (cleared-append first second))
    (d.Joined (marked-cleared one its) (marked-cleared two (alone_left one its)))
marked-cleared (d.Hole field) its = d.Hole field
marked-cleared (d.Word field x ctxt role plain) its = d.Word field x 0 role plain
marked-cleared (d.Name around field x ctxt role occurs) its = d.Name around field x 0 role occurs
marked-cleared {notes = notes} (d.Inside field head {inside = inside} {marks = marks} it_stays one)
    its =
    cleared_node field head inside marks
    (d.Inside field (cleared_head head) (head_stays notes head inside its ∙ it_stays)
    (alike (head_alike head inside) (marked-cleared one its)))
marked-cleared {around = around} {notes = notes} {rest = rest}
    (d.Kept field head first {inside = inside} {more = more} {marks = marks}
    {more_marks = more_marks} keeps one two)
    its =
    cleared_node field head (node first h.MemberExpr inside ++ more)
    (node_marks first h.MemberExpr marks ++ more_marks)
    (subst (λ list. Marked None around notes (node field (cleared_head head) list) (node_marks field (cleared_head head) (node_marks first h.MemberExpr marks ++ more_marks)) rest)
    (sym
    (cleared-append (node first h.MemberExpr inside) more
    ∙ ap (λ list. list ++ cleared more) (node-cleared first h.MemberExpr inside)))
    (d.Kept field (cleared_head head) first (first_kept head first keeps) (marked-cleared one its) (marked-cleared two (alone_left one its))))
marked-cleared {around = around}
    (d.Shorthand {note = note} {notes = notes} {rest = rest} field x ctxt role {default = default}
    {marks = marks} occurs one)
    its =
    subst
    (λ list.
    Marked None around (note ∷ notes) list (shorthand_marks field x note.meant default marks)
    rest)
    (sym (node-cleared field h.AssignPatProp (binding None 0 x ctxt role ++ default)))
    (subst (λ list. Marked None around (note ∷ notes) (node field h.AssignPatProp (binding None 0 x 0 role ++ cleared default)) list rest) (default-cleared field x note.meant default marks)
    (d.Shorthand field x 0 role occurs (marked-cleared one its.1)))
marked-cleared (d.OfReads field count inside reads) its = cc
marked-cleared (d.OfCall field inside calls) its = cc
marked-cleared (d.OfMeta field meant is) its = cc

-- all items of a module
pub items-cleared : (items : List (List Item)) (tolds : List ItemMeaning) → AllZip HasMarks items tolds →
    AllZip HasMarks (map cleared items) tolds
items-cleared [] [] marked = tt
items-cleared [] (told ∷ tolds) marked = absurd marked
items-cleared (item ∷ items) [] marked = absurd marked
items-cleared (item ∷ items) (told ∷ tolds) marked =
    (marked-cleared marked.0 (alone_alone told.0), items-cleared items tolds marked.1)

-- ---- noting

-- What stands where notes were left out.

-- two parts
record Parts (xs first second : List Item) : Type 0 where
  front : List Item
  back : List Item
  is : xs ≡ front ++ back
  front_is : without_notes front ≡ first
  back_is : without_notes back ≡ second

parts : (xs first second : List Item) → without_notes xs ≡ first ++ second → Parts xs first second
parts xs [] second same =
    record { front = []; back = xs; is = refl; front_is = refl; back_is = same }
parts [] (x ∷ first) second same = cc
parts (y ∷ xs) (x ∷ first) second same =
    let here : without_note y ≡ x = cc in
    let behind : without_notes xs ≡ first ++ second = cc in
    let rest = parts xs first second behind in
    record
    { front = y ∷ rest.front; back = rest.back; is = ap (λ list. y ∷ list) rest.is; front_is = (λ i. here i ∷ rest.front_is i); back_is = rest.back_is }

-- one element
record One (xs : List Item) (x : Item) : Type 0 where
  item : Item
  is : xs ≡ item ∷ []
  same : without_note item ≡ x

one_of : (xs : List Item) (x : Item) → without_notes xs ≡ x ∷ [] → One xs x
one_of [] x same = cc
one_of (y ∷ []) x same = record { item = y; is = refl; same = cc }
one_of (y ∷ z ∷ xs) x same = cc

-- an element that is no beginning
hole_is : (x : Item) (field : ℕ) → without_note x ≡ h.Hole field → x ≡ h.Hole field
hole_is (h.Open its head) field same = cc
hole_is (h.Ident its y ctxt role) field same = cc
hole_is (h.Hole its) field same = same
hole_is h.Close field same = cc

name_is : (x : Item) (field : ℕ) (y : Text) (ctxt : ℕ) (role : Role) →
    without_note x ≡ h.Ident field y ctxt role → x ≡ h.Ident field y ctxt role
name_is (h.Open its head) field y ctxt role same = cc
name_is (h.Ident its z other its_role) field y ctxt role same = same
name_is (h.Hole its) field y ctxt role same = cc
name_is h.Close field y ctxt role same = cc

pub close_is : (x : Item) → without_note x ≡ h.Close → x ≡ h.Close
close_is (h.Open its head) same = cc
close_is (h.Ident its z other its_role) same = cc
close_is (h.Hole its) same = cc
close_is h.Close same = refl

record Begins (x : Item) (field : ℕ) (head : Head) : Type 0 where
  its : Head
  is : x ≡ h.Open field its
  same : cleared_head its ≡ head

begins : (x : Item) (field : ℕ) (head : Head) → without_note x ≡ h.Open field head →
    Begins x field head
begins (h.Open other its) field head same =
    record { its = its; is = (let e : other ≡ field = cc in ap (λ n. h.Open n its) e); same = cc }
begins (h.Ident other z ctxt role) field head same = cc
begins (h.Hole other) field head same = cc
begins h.Close field head same = cc

-- a node
record NodeOf (xs : List Item) (field : ℕ) (head : Head) (inside : List Item) : Type 0 where
  its : Head
  within : List Item
  is : xs ≡ node field its within
  same : cleared_head its ≡ head
  within_is : without_notes within ≡ inside

node_of : (xs : List Item) (field : ℕ) (head : Head) (inside : List Item) →
    without_notes xs ≡ node field head inside → NodeOf xs field head inside
node_of [] field head inside same = cc
node_of (x ∷ xs) field head inside same =
    let here : without_note x ≡ h.Open field head = cc in
    let behind : without_notes xs ≡ inside ++ h.Close ∷ [] = cc in
    let first = begins x field head here in
    let rest = parts xs inside (h.Close ∷ []) behind in
    let last = one_of rest.back h.Close rest.back_is in
    record {
      its = first.its;
      within = rest.front;
      is =
          (λ i.
          first.is i
          ∷ (rest.is
          ∙ (ap (λ list. rest.front ++ list) last.is
          ∙ ap (λ it. rest.front ++ it ∷ []) (close_is last.item last.same)))
          i);
      same = first.same;
      within_is = rest.front_is;
    }

-- a head that has no notes
abbrev is_noted : Head → Bool
is_noted (h.ImportDecl meta) = true
is_noted (h.NamedExport meta) = true
is_noted (h.ExportAll meta) = true
is_noted (h.VarDecl kind meta) = true
is_noted head = false

plain_head : (its head : Head) → is_noted head ≡ false → cleared_head its ≡ head → its ≡ head
plain_head (h.ImportDecl meta) head plain same = let e = ap is_noted same in cc
plain_head (h.NamedExport meta) head plain same = let e = ap is_noted same in cc
plain_head (h.ExportAll meta) head plain same = let e = ap is_noted same in cc
plain_head (h.VarDecl kind meta) head plain same = let e = ap is_noted same in cc
plain_head its head plain same = same

-- The marks.

pub nothing_of : (xs : List Item) → without_notes xs ≡ [] → xs ≡ []
nothing_of [] same = refl
nothing_of (x ∷ xs) same = cc

-- with the list that it is
listed_so : {around : Around} {notes rest : List Note} {xs ys : List Item} {marks : List Mark} →
    xs ≡ ys → Marked None around notes ys marks rest → Marked None around notes xs marks rest
listed_so {around = around} {notes = notes} {rest = rest} {marks = marks} is one =
    subst (λ list. Marked None around notes list marks rest) (sym is) one

noted_node : {around : Around} {notes rest : List Note} (field : ℕ) (its : Head)
    (within inside : List Item) (marks : List Mark) → AreAlone notes →
    node_stays None (d.next_note notes) (cleared_head its) inside ≡ true →
    Marked None (around_in (cleared_head its) inside) notes within marks rest →
    Marked None around notes (node field its within) (node_marks field (cleared_head its) marks)
    rest
noted_node {around = around} {notes = notes} {rest = rest} field its within inside marks are_alone
    it_stays one =
    let still : node_stays None (d.next_note notes) its within ≡ true =
    sym (head_stays notes its within are_alone)
    ∙ (alone_stays notes (cleared_head its) (cleared within) inside are_alone ∙ it_stays) in
    subst
    (λ head.
    Marked None around notes (node field its within)
    (m.Begins field head ∷ (marks ++ m.Ends ∷ [])) rest)
    (sym (twice its))
    (d.Inside field its still
    (alike
    (λ n x meant.
    alike_inside (cleared_head its) inside (cleared within) n x meant
    ∙ sym (head_alike its within n x meant))
    one))

kept_plain : (head : Head) (first : ℕ) → keeps_first head first ≡ true → is_noted head ≡ false
kept_plain (h.ImportDecl meta) first keeps = cc
kept_plain (h.NamedExport meta) first keeps = cc
kept_plain (h.ExportAll meta) first keeps = cc
kept_plain (h.VarDecl kind meta) first keeps = cc
kept_plain _ first keeps = refl

-- what is first in a node, and what follows
record KeptOf (xs : List Item) (field : ℕ) (head : Head) (first : ℕ)
    (inside more : List Item) : Type 0 where
  front : List Item
  back : List Item
  is : xs ≡ node field head (node first h.MemberExpr front ++ back)
  front_is : without_notes front ≡ inside
  back_is : without_notes back ≡ more

kept_of : (xs : List Item) (field : ℕ) (head : Head) (first : ℕ) (inside more : List Item) →
    is_noted head ≡ false →
    without_notes xs ≡ node field head (node first h.MemberExpr inside ++ more) →
    KeptOf xs field head first inside more
kept_of xs field head first inside more plain same =
    let outer = node_of xs field head (node first h.MemberExpr inside ++ more) same in
    let both = parts outer.within (node first h.MemberExpr inside) more outer.within_is in
    let member = node_of both.front first h.MemberExpr inside both.front_is in
    record {
      front = member.within;
      back = both.back;
      is =
          outer.is
          ∙ (λ i.
          node field (plain_head outer.its head plain outer.same i)
          ((both.is
          ∙ ap (λ list. list ++ both.back)
          (member.is
          ∙ ap (λ it. node first it member.within)
          (plain_head member.its h.MemberExpr refl member.same)))
          i));
      front_is = member.within_is;
      back_is = both.back_is;
    }

-- a shorthand property
record ShortOf (xs : List Item) (field : ℕ) (x : Text) (ctxt : ℕ) (role : Role)
    (default : List Item) : Type 0 where
  its : List Item
  is : xs ≡ node field h.AssignPatProp (binding None 0 x ctxt role ++ its)
  its_is : without_notes its ≡ default

short_of : (xs : List Item) (field : ℕ) (x : Text) (ctxt : ℕ) (role : Role) (default : List Item) →
    without_notes xs ≡ node field h.AssignPatProp (binding None 0 x ctxt role ++ default) →
    ShortOf xs field x ctxt role default
short_of xs field x ctxt role default same =
    let outer = node_of xs field h.AssignPatProp (binding None 0 x ctxt role ++ default) same in
    let both = parts outer.within (binding None 0 x ctxt role) default outer.within_is in
    let name = node_of both.front 0 h.BindingIdent (h.Ident 0 x ctxt role ∷ []) both.front_is in
    let one = one_of name.within (h.Ident 0 x ctxt role) name.within_is in
    let inside : name.within ≡ h.Ident 0 x ctxt role ∷ [] =
    one.is ∙ ap (λ it. it ∷ []) (name_is one.item 0 x ctxt role one.same) in
    let front : both.front ≡ binding None 0 x ctxt role =
    name.is ∙ (λ i. node 0 (plain_head name.its h.BindingIdent refl name.same i) (inside i)) in
    record {
      its = both.back;
      is =
          outer.is
          ∙ (λ i.
          node field (plain_head outer.its h.AssignPatProp refl outer.same i)
          ((both.is ∙ ap (λ list. list ++ both.back) front) i));
      its_is = both.back_is;
    }

default_so : (field : ℕ) (x : Text) (meant : Meant) (its default : List Item) (marks : List Mark) →
    without_notes its ≡ default →
    shorthand_marks field x meant its marks ≡ shorthand_marks field x meant default marks
default_so field x meant [] [] marks same = refl
default_so field x meant [] (y ∷ default) marks same = cc
default_so field x meant (y ∷ its) [] marks same = cc
default_so field x meant (y ∷ its) (z ∷ default) marks same = refl

-- where names stand for themselves alone, a part has the marks that it has without notes
pub noted : {around : Around} {notes rest : List Note} {items : List Item} {marks : List Mark} →
    Marked None around notes items marks rest → AreAlone notes → (xs : List Item) →
    without_notes xs ≡ items → Marked None around notes xs marks rest
noted d.Nothing are_alone xs same = listed_so (nothing_of xs same) d.Nothing
noted (d.Joined {first = first} {second = second} one two) are_alone xs same =
    let both = parts xs first second same in
    listed_so both.is
    (d.Joined (noted one are_alone both.front both.front_is)
    (noted two (alone_left one are_alone) both.back both.back_is))
noted (d.Hole field) are_alone xs same =
    let one = one_of xs (h.Hole field) same in
    listed_so (one.is ∙ ap (λ it. it ∷ []) (hole_is one.item field one.same)) (d.Hole field)
noted (d.Word field x ctxt role plain) are_alone xs same =
    let one = one_of xs (h.Ident field x ctxt role) same in
    listed_so (one.is ∙ ap (λ it. it ∷ []) (name_is one.item field x ctxt role one.same))
    (d.Word field x ctxt role plain)
noted (d.Name around field x ctxt role occurs) are_alone xs same =
    let one = one_of xs (h.Ident field x ctxt role) same in
    listed_so (one.is ∙ ap (λ it. it ∷ []) (name_is one.item field x ctxt role one.same))
    (d.Name around field x ctxt role occurs)
noted {around = around} {notes = notes} {rest = rest}
    (d.Inside field head {inside = inside} {marks = marks} it_stays one) are_alone xs same =
    let it = node_of xs field head inside same in
    let within : Marked None (around_in head inside) notes it.within marks rest =
    noted one are_alone it.within it.within_is in
    listed_so it.is
    (subst (λ its. Marked None around notes (node field it.its it.within) (node_marks field its marks) rest) it.same
    (noted_node field it.its it.within inside marks are_alone (subst (λ its. node_stays None (d.next_note notes) its inside ≡ true) (sym it.same) it_stays) (subst (λ its. Marked None (around_in its inside) notes it.within marks rest) (sym it.same) within)))
noted (d.Kept field head first {inside = inside} {more = more} keeps one two) are_alone xs same =
    let it = kept_of xs field head first inside more (kept_plain head first keeps) same in
    listed_so it.is
    (d.Kept field head first keeps (noted one are_alone it.front it.front_is)
    (noted two (alone_left one are_alone) it.back it.back_is))
noted {around = around}
    (d.Shorthand {note = note} {notes = notes} {rest = rest} field x ctxt role {default = default}
    {marks = marks} occurs one)
    are_alone xs same =
    let it = short_of xs field x ctxt role default same in
    listed_so it.is
    (subst (λ list. Marked None around (note ∷ notes) (node field h.AssignPatProp (binding None 0 x ctxt role ++ it.its)) list rest) (default_so field x note.meant it.its default marks it.its_is)
    (d.Shorthand field x ctxt role occurs (noted one are_alone.1 it.its it.its_is)))
noted (d.OfReads field count inside reads) are_alone xs same = cc
noted (d.OfCall field inside calls) are_alone xs same = cc
noted (d.OfMeta field meant is) are_alone xs same = cc
