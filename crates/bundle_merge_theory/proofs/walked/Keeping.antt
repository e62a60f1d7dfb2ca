-- What a walk makes of a part of a tree has the same marks.
use Rattle.std.proofs.Common.{◌≡◌, ℕ, Bool, true, false, is_none, List, [], ◌∷◌, ◌++◌, Option, Some, None, drop, map, refl, ap, sym, ◌∙◌, subst, append_assoc}
use Rattle.std.specs.Prelude.{slice_get, bytes_eq, codes, if◌then◌else◌}
use Rattle.std.specs.List.{AllZip}
use Rattle.bundle_syntax.specs.declared.kind.ExportMetadata.{ExportMetadata}
use Rattle.bundle_syntax.specs.declared.kind.MetaPropKind.{MetaPropKind}
use Rattle.bundle_syntax.specs.declared.kind.MetaPropKind.TheVariants as p
use Rattle.bundle_syntax.specs.declared.kind.VarDeclKind.{VarDeclKind}
use Rattle.bundle_syntax.specs.declared.piece.Role.{Role}
use Rattle.bundle_syntax.specs.declared.piece.Role.TheVariants as r
use Rattle.bundle_syntax.specs.Item as h
use Rattle.bundle_syntax.specs.Item.{Item, Head}
use Rattle.bundle_rules.specs.Nodes.{Text}
use Rattle.bundle_rules.specs.Idents.{Ident}
use Rattle.bundle_rules.specs.Marks as m
use Rattle.bundle_rules.specs.Meaning.{Meant, Mark}
use Rattle.bundle_rules.specs.Rebuilds.{Change, spells_out, plain_key, key_in_object}
use Rattle.bundle_tree_places.specs.Edits.{Around, Anywhere, InObject, InSpecifier, node, is_occurrence, around_in, in_its_place, binding, shorthand_in_its_place, pattern_in_its_place}
use Rattle.bundle_tree_rebuild.specs.Work.{Step, Work, upcoming, after, change_at, is_spelled_out_by}
use Rattle.bundle_tree_rebuild.specs.Becomes.{stays, kept_notes, reference, name_for_member, name_for_call, name_for_meta, name_of_reads, name_of_call, keeps_first, are_reads, is_literal_call}
use Rattle.bundle_tree_rebuild.specs.declared.rewrite.Whole.{Whole}
use Rattle.bundle_merge_theory.specs.noted.Marked.{Note, Marked, meant_by_reads, meant_for_member, meant_by_call, meant_for_call, meant_for_meta, marks_there, node_marks, pattern_marks, shorthand_marks, call_marks}
use Rattle.bundle_merge_theory.specs.noted.Marked as d
use Rattle.bundle_tree_rebuild.specs.declared.rewrite.Whole.TheVariants as w
use Rattle.bundle_merge_theory.specs.walked.Rewrites.{Rewrites, TakesStep, is_in_no_specifier}
use Rattle.bundle_merge_theory.specs.walked.Rewrites as e
use Rattle.bundle_merge_theory.specs.walked.Keeps.{SameWhole, AgreeOnMeta, Agree, MeantIdent, ByStep, ByMeta, meant_ident, meant_in, steps_in, notes_in, AreOfMeta, notes_alone, KeepsMeaning}
use Rattle.bundle_merge_theory.specs.walked.Names.{idents_among}
use Rattle.bundle_merge_theory.proofs.walked.NameLemmas.{word_names, name_names, names_of-append, node_names}

-- The next step and the next note.

-- the note of the occurrence that has this step
pub record First (steps : List Step) (notes : List Note) (step : Step) : Type 0 where
  pub note : Note
  pub behind : List Note
  pub whole : step.whole ≡ note.whole
  pub steps_are : steps ≡ step ∷ drop 1 steps
  pub notes_are : notes ≡ note ∷ behind
  pub rest : Agree (drop 1 steps) behind

pub first_of : (steps : List Step) (notes : List Note) (step : Step) → Agree steps notes →
    slice_get steps 0 ≡ Some step → First steps notes step
first_of [] notes step agree is = cc
first_of (s ∷ steps) [] step agree is = absurd agree
first_of (s ∷ steps) (note ∷ notes) step agree is =
    let same : s ≡ step = cc in
    record
    { note = note; behind = notes; whole = ap (λ it. it.whole) (sym same) ∙ agree.0; steps_are = ap (λ it. it ∷ steps) same; notes_are = refl; rest = agree.1 }

-- without a next step there is no next note
data Upcoming : Option Step → Option Note → Type 0 where
  none : Upcoming None None
  some : (step : Step) (note : Note) → step.whole ≡ note.whole → Upcoming (Some step) (Some note)

upcoming_of : (steps : List Step) (notes : List Note) → AllZip SameWhole steps notes →
    Upcoming (slice_get steps 0) (slice_get notes 0)
upcoming_of [] [] agree = none
upcoming_of [] (note ∷ notes) agree = absurd agree
upcoming_of (step ∷ steps) [] agree = absurd agree
upcoming_of (step ∷ steps) (note ∷ notes) agree = some step note agree.0

-- Lists of entries.

steps_in-append : (xs ys : List MeantIdent) → steps_in (xs ++ ys) ≡ steps_in xs ++ steps_in ys
steps_in-append [] ys = refl
steps_in-append (ByStep step note ∷ xs) ys = ap (λ more. step ∷ more) (steps_in-append xs ys)
steps_in-append (ByMeta ident meant ∷ xs) ys = steps_in-append xs ys

notes_in-append : (xs ys : List MeantIdent) → notes_in (xs ++ ys) ≡ notes_in xs ++ notes_in ys
notes_in-append [] ys = refl
notes_in-append (ByStep step note ∷ xs) ys = ap (λ more. note ∷ more) (notes_in-append xs ys)
notes_in-append (ByMeta ident meant ∷ xs) ys = notes_in-append xs ys

of_meta-append : (meta : Option Ident) (means : Option Meant) (xs ys : List MeantIdent) →
    AreOfMeta meta means xs → AreOfMeta meta means ys → AreOfMeta meta means (xs ++ ys)
of_meta-append meta means [] ys one two = two
of_meta-append meta means (ByStep step note ∷ xs) ys one two =
    of_meta-append meta means xs ys one two
of_meta-append meta means (ByMeta ident meant ∷ xs) ys one two =
    (one.0, one.1, of_meta-append meta means xs ys one.2 two)

-- one list of identifiers or meanings behind the other
joined_map : {B : Type 0} (f : MeantIdent → B) (xs ys : List MeantIdent) (more : List B) →
    map f (xs ++ ys) ++ more ≡ map f xs ++ (map f ys ++ more)
joined_map f [] ys more = refl
joined_map f (x ∷ xs) ys more = ap (λ list. f x ∷ list) (joined_map f xs ys more)

map_both : {B : Type 0} (f : MeantIdent → B) (xs ys : List MeantIdent) →
    map f (xs ++ ys) ≡ map f xs ++ map f ys
map_both f [] ys = refl
map_both f (x ∷ xs) ys = ap (λ list. f x ∷ list) (map_both f xs ys)

joined_steps : (a b c : List Step) (xs ys : List MeantIdent) → a ≡ steps_in xs ++ b →
    b ≡ steps_in ys ++ c → a ≡ steps_in (xs ++ ys) ++ c
joined_steps a b c xs ys one two =
    one
    ∙ (ap (λ list. steps_in xs ++ list) two
    ∙ (sym (append_assoc (steps_in xs) (steps_in ys) c)
    ∙ ap (λ list. list ++ c) (sym (steps_in-append xs ys))))

joined_notes : (a b c : List Note) (xs ys : List MeantIdent) → a ≡ notes_in xs ++ b →
    b ≡ notes_in ys ++ c → a ≡ notes_in (xs ++ ys) ++ c
joined_notes a b c xs ys one two =
    one
    ∙ (ap (λ list. notes_in xs ++ list) two
    ∙ (sym (append_assoc (notes_in xs) (notes_in ys) c)
    ∙ ap (λ list. list ++ c) (sym (notes_in-append xs ys))))

-- one after the other
joined : {around : Around} {work between rest : Work} {meta : Option Meant} {notes : List Note}
    {first made_first second made_second : List Item} →
    (front : KeepsMeaning around work meta notes first made_first between) →
    KeepsMeaning around between meta front.left second made_second rest →
    KeepsMeaning around work meta notes (first ++ second) (made_first ++ made_second) rest
joined {around = around} {work = work} {between = between} {rest = rest} {meta = meta} {notes = notes} {first = first} {made_first = made_first} {second = second} {made_second = made_second} front back = record {
  marks = front.marks ++ back.marks;
  left = back.left;
  entries = front.entries ++ back.entries;
  source = d.Joined front.source back.source;
  result =
      λ more.
      d.Joined
      (subst
      (λ meants.
      Marked None around (notes_alone meants) made_first front.marks
      (notes_alone (map meant_in back.entries ++ more)))
      (sym (joined_map meant_in front.entries back.entries more))
      (front.result (map meant_in back.entries ++ more)))
      (back.result more);
  names =
      names_of-append made_first made_second
      ∙ ((λ i. front.names i ++ back.names i)
      ∙ sym (map_both meant_ident front.entries back.entries));
  steps_are =
      joined_steps work.steps between.steps rest.steps front.entries back.entries front.steps_are
      back.steps_are;
  notes_are =
      joined_notes notes front.left back.left front.entries back.entries front.notes_are
      back.notes_are;
  of_meta =
      of_meta-append work.meta meta front.entries back.entries front.of_meta
      (subst (λ it. AreOfMeta it meta back.entries) front.same_meta back.of_meta);
  agree = back.agree;
  same_meta = back.same_meta ∙ front.same_meta;
}

-- What takes no step.

unchanged : {around : Around} {work : Work} {meta : Option Meant} {notes : List Note}
    (before made : List Item) (marks : List Mark) → Agree work.steps notes →
    ((means : Option Meant) (its : List Note) → Marked means around its before marks its) →
    ((means : Option Meant) (its : List Note) → Marked means around its made marks its) →
    idents_among made ≡ [] → KeepsMeaning around work meta notes before made work
unchanged {meta = meta} {notes = notes} before made marks agree source result no_names = record {
  marks = marks;
  left = notes;
  entries = [];
  source = source meta notes;
  result = λ more. result None (notes_alone more);
  names = no_names;
  steps_are = refl;
  notes_are = refl;
  of_meta = tt;
  agree = agree;
  same_meta = refl;
}

-- What takes the next step.

one_step : {around : Around} {work : Work} {meta : Option Meant} {notes : List Note}
    (before made : List Item) (marks : List Mark) (step : Step) →
    (first : First work.steps notes step) →
    Marked meta around (first.note ∷ first.behind) before marks first.behind →
    ((more : List Meant) →
    Marked None around (notes_alone (first.note.meant ∷ more)) made marks (notes_alone more)) →
    idents_among made ≡ step.ident ∷ [] → KeepsMeaning around work meta notes before made (after work)
one_step {around = around} {work = work} {meta = meta} {notes = notes} before made marks step first source result names = record {
  marks = marks;
  left = first.behind;
  entries = ByStep step first.note ∷ [];
  source =
      subst (λ its. Marked meta around its before marks first.behind) (sym first.notes_are) source;
  result = result;
  names = names;
  steps_are = first.steps_are;
  notes_are = first.notes_are;
  of_meta = tt;
  agree = first.rest;
  same_meta = refl;
}

-- A name.

-- the key that a shorthand of an object literal is spelled out with
key_marked : {around : Around} {its : List Note} (x : Text) (b : Bool) →
    Marked None around its
    (if b then h.Open 0 h.ComputedPropName ∷ h.Open 0 (h.Str x None) ∷ h.Close ∷ h.Close
    ∷ [] else plain_key x)
    (if b then m.computed_key x else m.word_key x) its
key_marked x true = d.Inside 0 h.ComputedPropName refl (d.Inside 0 (h.Str x None) refl d.Nothing)
key_marked x false = d.Inside 0 (h.IdentName x) refl d.Nothing

word_marked : {around : Around} {its : List Note} (x : Text) →
    Marked None around its (plain_key x) (m.word_key x) its
word_marked x = d.Inside 0 (h.IdentName x) refl d.Nothing

-- in an object literal, spelled out or not
object_made : (b : Bool) (field : ℕ) (x : Text) (ident : Ident) (role : Role) (note : Note)
    (rest : List Note) → is_occurrence role ≡ true → (b ≡ false → ident.0 ≡ x) →
    Marked None InObject (note ∷ rest)
    (if b then node field h.KeyValueProp (key_in_object x ++ h.Ident 1 ident.0 ident.1 role ∷ [])
    else h.Ident field ident.0 ident.1 role ∷ [])
    (marks_there InObject field x note.meant) rest
object_made true field x ident role note rest occurs same =
    let made : Marked None InObject (note ∷ rest) (node field h.KeyValueProp (key_in_object x ++ h.Ident 1 ident.0 ident.1 role ∷ [])) (node_marks field h.KeyValueProp (m.object_key x ++ m.Name 1 note.meant ∷ [])) rest =
    d.Inside field h.KeyValueProp refl
    (d.Joined (key_marked x (bytes_eq x (codes "__proto__")))
    (d.Name Anywhere 1 ident.0 ident.1 role occurs))
    in
    subst
    (λ marks.
    Marked None InObject (note ∷ rest)
    (node field h.KeyValueProp (key_in_object x ++ h.Ident 1 ident.0 ident.1 role ∷ []))
    (m.Begins field h.KeyValueProp ∷ marks) rest)
    (append_assoc (m.object_key x) (m.Name 1 note.meant ∷ []) (m.Ends ∷ [])) made
object_made false field x ident role note rest occurs same =
    subst
    (λ y.
    Marked None InObject (note ∷ rest) (h.Ident field ident.0 ident.1 role ∷ [])
    (marks_there InObject field y note.meant) rest)
    (same refl) (d.Name InObject field ident.0 ident.1 role occurs)

-- anywhere but in a specifier
pub name_made : (around : Around) (field : ℕ) (x : Text) (ctxt : ℕ) (role : Role) (change : Change)
    (note : Note) (rest : List Note) → is_occurrence role ≡ true →
    is_in_no_specifier around ≡ true → (change.is_spelled_out ≡ false → change.ident.0 ≡ x) →
    Marked None around (note ∷ rest) (in_its_place around (Some change) field x ctxt role)
    (marks_there around field x note.meant) rest
name_made Anywhere field x ctxt role change note rest occurs free same =
    d.Name Anywhere field change.ident.0 change.ident.1 role occurs
name_made InObject field x ctxt role change note rest occurs free same =
    object_made change.is_spelled_out field x change.ident role note rest occurs same
name_made InSpecifier field x ctxt role change note rest occurs free same = cc

-- the identifiers in what is made
key_names : (x : Text) (b : Bool) →
    idents_among
    (if b then h.Open 0 h.ComputedPropName ∷ h.Open 0 (h.Str x None) ∷ h.Close ∷ h.Close
    ∷ [] else plain_key x) ≡ []
key_names x true = refl
key_names x false = refl

object_names : (b : Bool) (field : ℕ) (x : Text) (ident : Ident) (role : Role) →
    is_occurrence role ≡ true →
    idents_among
    (if b then node field h.KeyValueProp (key_in_object x ++ h.Ident 1 ident.0 ident.1 role ∷ [])
    else h.Ident field ident.0 ident.1 role ∷ []) ≡ ident ∷ []
object_names true field x ident role occurs =
    node_names field h.KeyValueProp (key_in_object x ++ h.Ident 1 ident.0 ident.1 role ∷ [])
    ∙ (names_of-append (key_in_object x) (h.Ident 1 ident.0 ident.1 role ∷ [])
    ∙ ((λ i. key_names x (bytes_eq x (codes "__proto__")) i ++ idents_among (h.Ident 1 ident.0 ident.1 role ∷ []))
    ∙ name_names 1 ident.0 ident.1 role [] occurs))
object_names false field x ident role occurs = name_names field ident.0 ident.1 role [] occurs

pub name_made_names : (around : Around) (field : ℕ) (x : Text) (ctxt : ℕ) (role : Role)
    (change : Change) → is_occurrence role ≡ true → is_in_no_specifier around ≡ true →
    idents_among (in_its_place around (Some change) field x ctxt role) ≡ change.ident ∷ []
name_made_names Anywhere field x ctxt role change occurs free =
    name_names field change.ident.0 change.ident.1 role [] occurs
name_made_names InObject field x ctxt role change occurs free =
    object_names change.is_spelled_out field x change.ident role occurs
name_made_names InSpecifier field x ctxt role change occurs free = cc

named : {around : Around} {work : Work} {meta : Option Meant} {notes : List Note} (field : ℕ)
    (x : Text) (ctxt : ℕ) (role : Role) (step : Step) → is_occurrence role ≡ true →
    is_in_no_specifier around ≡ true → TakesStep work x step → Agree work.steps notes →
    KeepsMeaning around work meta notes (h.Ident field x ctxt role ∷ [])
    (in_its_place around (Some (change_at x step)) field x ctxt role) (after work)
named {around = around} {work = work} {notes = notes} field x ctxt role step occurs free takes
    agree =
    let first = first_of work.steps notes step agree takes.is in
    one_step _ _ (marks_there around field x first.note.meant) step first
    (d.Name around field x ctxt role occurs)
    (λ more.
    name_made around field x ctxt role (change_at x step) _ (notes_alone more) occurs free
    takes.symbol)
    (name_made_names around field x ctxt role (change_at x step) occurs free)

-- A node that stays.

-- where names have the same marks, all has
pub alike : {meta : Option Meant} {a b : Around} {its rest : List Note} {items : List Item}
    {marks : List Mark} →
    ((field : ℕ) (x : Text) (meant : Meant) →
    marks_there a field x meant ≡ marks_there b field x meant) →
    Marked meta a its items marks rest → Marked meta b its items marks rest
alike same d.Nothing = d.Nothing
alike same (d.Joined one two) = d.Joined (alike same one) (alike same two)
alike same (d.Hole field) = d.Hole field
alike same (d.Word field x ctxt role plain) = d.Word field x ctxt role plain
alike {meta = meta} {b = b} same (d.Name a {note = note} {rest = rest} field x ctxt role occurs) =
    subst (λ marks. Marked meta b (note ∷ rest) (h.Ident field x ctxt role ∷ []) marks rest)
    (sym (same field x note.meant)) (d.Name b field x ctxt role occurs)
alike same (d.Inside field head stays one) = d.Inside field head stays one
alike same (d.Kept field head first keeps one two) = d.Kept field head first keeps one two
alike same (d.Shorthand field x ctxt role occurs one) = d.Shorthand field x ctxt role occurs one
alike same (d.OfReads field count inside reads) = d.OfReads field count inside reads
alike same (d.OfCall field inside calls) = d.OfCall field inside calls
alike same (d.OfMeta field meant is) = d.OfMeta field meant is

import_names : (inside : List Item) (field : ℕ) (x : Text) (meant : Meant) →
    marks_there (around_in h.ImportNamedSpecifier inside) field x meant ≡ m.Name field meant ∷ []
import_names [] field x meant = refl
import_names (y ∷ []) field x meant = refl
import_names (y ∷ z ∷ rest) field x meant = refl

export_names : (inside : List Item) (field : ℕ) (x : Text) (meant : Meant) →
    marks_there (around_in h.ExportNamedSpecifier inside) field x meant ≡ m.Name field meant ∷ []
export_names [] field x meant = refl
export_names (y ∷ []) field x meant = refl
export_names (y ∷ z ∷ rest) field x meant = refl

-- only the head tells how names in a node are marked
pub alike_inside : (head : Head) (inside made : List Item) (field : ℕ) (x : Text) (meant : Meant) →
    marks_there (around_in head inside) field x meant
    ≡ marks_there (around_in head made) field x meant
alike_inside h.ObjectLit inside made field x meant = refl
alike_inside h.ImportNamedSpecifier inside made field x meant =
    import_names inside field x meant ∙ sym (import_names made field x meant)
alike_inside h.ExportNamedSpecifier inside made field x meant =
    export_names inside field x meant ∙ sym (export_names made field x meant)
alike_inside _ inside made field x meant = refl

-- nothing stands for a node that stays
same_found : (b : Bool) (name : Ident) (meant : Meant) →
    is_none (if b then Some name else None) ≡ true →
    is_none (if b then Some meant else None) ≡ true
same_found true name meant is = is
same_found false name meant is = refl

reads_stay : (name : Ident) (meant : Meant) (whole : Whole) (inside : List Item) →
    is_none (name_of_reads name whole inside) ≡ true →
    is_none (meant_by_reads meant whole inside) ≡ true
reads_stay name meant w.Alone inside is = refl
reads_stay name meant w.Call inside is = refl
reads_stay name meant (w.Reads count) inside is = same_found (are_reads count inside) name meant is

call_stays : (name : Ident) (meant : Meant) (whole : Whole) (inside : List Item) →
    is_none (name_of_call name whole inside) ≡ true →
    is_none (meant_by_call meant whole inside) ≡ true
call_stays name meant w.Alone inside is = refl
call_stays name meant w.Call inside is = same_found (is_literal_call inside) name meant is
call_stays name meant (w.Reads count) inside is = refl

member_stays : {step : Option Step} {note : Option Note} (inside : List Item) →
    Upcoming step note → is_none (name_for_member step inside) ≡ true →
    is_none (meant_for_member note inside) ≡ true
member_stays inside none is = refl
member_stays inside (some step note same) is =
    ap (λ whole. is_none (meant_by_reads note.meant whole inside)) (sym same)
    ∙ reads_stay step.ident note.meant step.whole inside is

literal_call_stays : {step : Option Step} {note : Option Note} (inside : List Item) →
    Upcoming step note → is_none (name_for_call step inside) ≡ true →
    is_none (meant_for_call note inside) ≡ true
literal_call_stays inside none is = refl
literal_call_stays inside (some step note same) is =
    ap (λ whole. is_none (meant_by_call note.meant whole inside)) (sym same)
    ∙ call_stays step.ident note.meant step.whole inside is

meta_stays : (name : Option Ident) (meta : Option Meant) (kind : MetaPropKind) →
    AgreeOnMeta name meta → is_none (name_for_meta name kind) ≡ true →
    is_none (meant_for_meta meta kind) ≡ true
meta_stays None None p.ImportMeta agree is = refl
meta_stays None (Some meant) p.ImportMeta agree is = absurd agree
meta_stays (Some ident) meta p.ImportMeta agree is = cc
meta_stays name meta p.NewTarget agree is = refl

pub still_stays : (work : Work) (meta : Option Meant) (notes : List Note) → Agree work.steps notes →
    AgreeOnMeta work.meta meta → (head : Head) (inside : List Item) →
    stays work head inside ≡ true → d.node_stays meta (d.next_note notes) head inside ≡ true
still_stays work meta notes agree on_meta h.MemberExpr inside it_stays =
    member_stays inside (upcoming_of work.steps notes agree) it_stays
still_stays work meta notes agree on_meta h.CallExpr inside it_stays =
    literal_call_stays inside (upcoming_of work.steps notes agree) it_stays
still_stays work meta notes agree on_meta (h.MetaPropExpr kind) inside it_stays =
    meta_stays work.meta meta kind on_meta it_stays
still_stays work meta notes agree on_meta h.AssignPatProp inside it_stays = cc
still_stays work meta notes agree on_meta _ inside it_stays = refl

-- names that stand for themselves alone replace nothing
pub alone_stays : (its : List Meant) (head : Head) (inside : List Item) →
    d.node_stays None (d.next_note (notes_alone its)) head inside ≡ d.node_stays None None head inside
alone_stays [] head inside = refl
alone_stays (meant ∷ its) h.MemberExpr inside = refl
alone_stays (meant ∷ its) h.CallExpr inside = refl
alone_stays (meant ∷ its) _ inside = refl

-- so a node that stays stays there too, whatever is made of what is in it
none_stays : (work : Work) (head : Head) (inside made : List Item) →
    stays work head inside ≡ true → d.node_stays None None head made ≡ true
none_stays work (h.MetaPropExpr p.ImportMeta) inside made it_stays = refl
none_stays work (h.MetaPropExpr p.NewTarget) inside made it_stays = refl
none_stays work h.AssignPatProp inside made it_stays = cc
none_stays work _ inside made it_stays = refl

-- what is in a node keeps its marks, and so does the node
in_node : {around inner : Around} {work rest : Work} {meta : Option Meant} {notes : List Note}
    (field : ℕ) (head new shown : Head) {inside made : List Item} →
    ((marks : List Mark) (left : List Note) → Marked meta inner notes inside marks left →
    Marked meta around notes (node field head inside) (node_marks field shown marks) left) →
    ((its left : List Meant) (marks : List Mark) →
    Marked None inner (notes_alone its) made marks (notes_alone left) →
    Marked None around (notes_alone its) (node field new made) (node_marks field shown marks)
    (notes_alone left)) → KeepsMeaning inner work meta notes inside made rest →
    KeepsMeaning around work meta notes (node field head inside) (node field new made) rest
in_node field head new shown {made = made} source result one = record {
  marks = node_marks field shown one.marks;
  left = one.left;
  entries = one.entries;
  source = source one.marks one.left one.source;
  result = λ more. result (map meant_in one.entries ++ more) more one.marks (one.result more);
  names = node_names field new made ∙ one.names;
  steps_are = one.steps_are;
  notes_are = one.notes_are;
  of_meta = one.of_meta;
  agree = one.agree;
  same_meta = one.same_meta;
}

stayed : {around : Around} {work rest : Work} {meta : Option Meant} {notes : List Note} (field : ℕ)
    (head : Head) {inside made : List Item} → d.node_stays meta (d.next_note notes) head inside ≡ true →
    d.node_stays None None head made ≡ true →
    KeepsMeaning (around_in head inside) work meta notes inside made rest →
    KeepsMeaning around work meta notes (node field head inside) (node field head made) rest
stayed field head {inside = inside} {made = made} before_stays made_stays one =
    in_node field head head head
    (λ marks left it. d.Inside field head before_stays it)
    (λ its left marks it.
    d.Inside field head (alone_stays its head made ∙ made_stays)
    (alike (alike_inside head inside made) it))
    one

declared : {around : Around} {work rest : Work} {meta : Option Meant} {notes : List Note}
    (field : ℕ) (kind : VarDeclKind) (old new : ExportMetadata) {inside made : List Item} →
    KeepsMeaning Anywhere work meta notes inside made rest →
    KeepsMeaning around work meta notes (node field (h.VarDecl kind old) inside)
    (node field (h.VarDecl kind new) made) rest
declared field kind old new one =
    in_node field (h.VarDecl kind old) (h.VarDecl kind new) (h.VarDecl kind old)
    (λ marks left it. d.Inside field (h.VarDecl kind old) refl it)
    (λ its left marks it. d.Inside field (h.VarDecl kind new) refl it)
    one

-- what is first in a node stays, whatever stands for it
kept : {around : Around} {work between rest : Work} {meta : Option Meant} {notes : List Note}
    (field : ℕ) (head : Head) (first : ℕ) {inside made more made_more : List Item} →
    keeps_first head first ≡ true → (front : KeepsMeaning Anywhere work meta notes inside made between) →
    KeepsMeaning Anywhere between meta front.left more made_more rest →
    KeepsMeaning around work meta notes (node field head (node first h.MemberExpr inside ++ more))
    (node field head (node first h.MemberExpr made ++ made_more)) rest
unfolding joined
kept field head first {inside = inside} {made = made} {more = more} {made_more = made_more}
    keeps_it front back =
    let both = joined front back in
    record {
      marks = node_marks field head (node_marks first h.MemberExpr front.marks ++ back.marks);
      left = back.left;
      entries = front.entries ++ back.entries;
      source = d.Kept field head first keeps_it front.source back.source;
      result =
          λ its.
          d.Kept field head first keeps_it
          (subst
          (λ meants.
          Marked None Anywhere (notes_alone meants) made front.marks
          (notes_alone (map meant_in back.entries ++ its)))
          (sym (joined_map meant_in front.entries back.entries its))
          (front.result (map meant_in back.entries ++ its)))
          (back.result its);
      names =
          node_names field head (node first h.MemberExpr made ++ made_more)
          ∙ (names_of-append (node first h.MemberExpr made) made_more
          ∙ (ap (λ list. list ++ idents_among made_more) (node_names first h.MemberExpr made)
          ∙ (sym (names_of-append made made_more) ∙ both.names)));
      steps_are = both.steps_are;
      notes_are = both.notes_are;
      of_meta = both.of_meta;
      agree = both.agree;
      same_meta = both.same_meta;
    }

-- A shorthand property of a pattern.

-- nothing becomes nothing, and something becomes something
pub data Both : List Item → List Item → Type 0 where
  empty : Both [] []
  filled : (x : Item) (xs : List Item) (y : Item) (ys : List Item) → Both (x ∷ xs) (y ∷ ys)

pub both_joined : {first made_first second made_second : List Item} → Both first made_first →
    Both second made_second → Both (first ++ second) (made_first ++ made_second)
both_joined empty two = two
both_joined {second = second} {made_second = made_second} (filled x xs y ys) two =
    filled x (xs ++ second) y (ys ++ made_second)

pub either_filled : (b : Bool) (x : Item) (xs : List Item) (y z : Item) (ys zs : List Item) →
    Both (x ∷ xs) (if b then y ∷ ys else z ∷ zs)
either_filled true x xs y z ys zs = filled x xs y ys
either_filled false x xs y z ys zs = filled x xs z zs

pub place_filled : (around : Around) (change : Option Change) (field : ℕ) (x : Text) (ctxt : ℕ)
    (role : Role) (before : Item) →
    Both (before ∷ []) (in_its_place around change field x ctxt role)
place_filled Anywhere change field x ctxt role before = filled before [] _ []
place_filled InObject change field x ctxt role before =
    either_filled (spells_out change) before [] _ _ _ _
place_filled InSpecifier change field x ctxt role before =
    either_filled (spells_out change) before [] _ _ _ _

both_filled : {around : Around} {work rest : Work} {before made : List Item} →
    Rewrites around work before made rest → Both before made
both_filled e.Nothing = empty
both_filled (e.Joined one two) = both_joined (both_filled one) (both_filled two)
both_filled (e.Hole field) = filled _ _ _ _
both_filled (e.Word field x ctxt role plain) = filled _ _ _ _
both_filled (e.Name around field x ctxt role step occurs free takes) =
    place_filled around (Some (change_at x step)) field x ctxt role _
both_filled (e.Inside field head it_stays one) = filled _ _ _ _
both_filled (e.Declaration field kind its one) = filled _ _ _ _
both_filled (e.Kept field head first keeps_it one two) = filled _ _ _ _
both_filled (e.Shorthand field x ctxt role step occurs takes one) =
    either_filled (is_spelled_out_by step.spelling step.ident.0 x) _ _ _ _ _ _
both_filled (e.OfReads field name inside found) = filled _ _ _ _
both_filled (e.OfCall field name inside found) = filled _ _ _ _
both_filled (e.OfMeta field kind name found) = filled _ _ _ _

-- so the marks are told by either default value
pub same_default : {default made : List Item} (field : ℕ) (x : Text) (meant : Meant)
    (marks : List Mark) → Both default made →
    shorthand_marks field x meant made marks ≡ shorthand_marks field x meant default marks
same_default field x meant marks empty = refl
same_default field x meant marks (filled _ _ _ _) = refl

-- without entries no note is taken
no_entries : (entries : List MeantIdent) (more : List Meant) → [] ≡ map meant_ident entries →
    map meant_in entries ++ more ≡ more
no_entries [] more no_names = refl
no_entries (entry ∷ entries) more no_names = cc

-- a name that is a pattern
pub binding_marked : {around : Around} (field : ℕ) (ident : Ident) (role : Role) (note : Note)
    (rest : List Note) → is_occurrence role ≡ true →
    Marked None around (note ∷ rest)
    (node field h.BindingIdent (h.Ident 0 ident.0 ident.1 role ∷ []))
    (pattern_marks field note.meant) rest
binding_marked field ident role note rest occurs =
    d.Inside field h.BindingIdent refl (d.Name Anywhere 0 ident.0 ident.1 role occurs)

-- what stands in the place of a shorthand, spelled out or not
abbrev pub spelled : Bool → Change → ℕ → Text → ℕ → Role → (made : List Item) → List Item
spelled b change field x ctxt role made =
    if b
    then node field h.KeyValuePatProp
    (plain_key x ++ pattern_in_its_place (Some change) x ctxt role made)
    else node field h.AssignPatProp (binding (Some change) 0 x ctxt role ++ made)

spelled_with : {around : Around} (change : Change) (field : ℕ) (x : Text) (ctxt : ℕ) (role : Role)
    (note : Note) (first : Item) (others : List Item) (marks : List Mark) (its rest : List Note) →
    is_occurrence role ≡ true → Marked None Anywhere its (first ∷ others) marks rest →
    Marked None around (note ∷ its) (spelled true change field x ctxt role (first ∷ others))
    (shorthand_marks field x note.meant (first ∷ others) marks) rest
spelled_with {around = around} change field x ctxt role note first others marks its rest occurs one =
    subst
    (λ ends.
    Marked None around (note ∷ its) (spelled true change field x ctxt role (first ∷ others))
    (m.Begins field h.KeyValuePatProp
    ∷ (m.word_key x ++ (m.Begins 1 h.AssignPat ∷ (pattern_marks 0 note.meant ++ ends))))
    rest)
    (append_assoc marks (m.Ends ∷ []) (m.Ends ∷ []))
    (d.Inside field h.KeyValuePatProp refl
    (d.Joined (word_marked x)
    (d.Inside 1 h.AssignPat refl
    (d.Joined (binding_marked 0 change.ident role note its occurs) one))))

pub short_made : {around : Around} (b : Bool) (change : Change) (field : ℕ) (x : Text) (ctxt : ℕ)
    (role : Role) (note : Note) (made : List Item) (marks : List Mark) (its rest : List Note) →
    is_occurrence role ≡ true → (b ≡ false → change.ident.0 ≡ x) → (made ≡ [] → its ≡ rest) →
    Marked None Anywhere its made marks rest →
    Marked None around (note ∷ its) (spelled b change field x ctxt role made)
    (shorthand_marks field x note.meant made marks) rest
short_made {around = around} true change field x ctxt role note [] marks its rest occurs same
    if_none one =
    subst
    (λ left.
    Marked None around (note ∷ its) (spelled true change field x ctxt role [])
    (shorthand_marks field x note.meant [] marks) left)
    (if_none refl)
    (d.Inside field h.KeyValuePatProp refl
    (d.Joined (word_marked x) (binding_marked 1 change.ident role note its occurs)))
short_made true change field x ctxt role note (first ∷ others) marks its rest occurs same if_none
    one =
    spelled_with change field x ctxt role note first others marks its rest occurs one
short_made {around = around} false change field x ctxt role note made marks its rest occurs same
    if_none one =
    subst
    (λ y.
    Marked None around (note ∷ its) (spelled false change field x ctxt role made)
    (shorthand_marks field y note.meant made marks) rest)
    (same refl) (d.Shorthand field change.ident.0 change.ident.1 role occurs one)

-- the identifiers in it
pattern_names : (change : Change) (field : ℕ) (x : Text) (ctxt : ℕ) (role : Role)
    (more : List Item) → is_occurrence role ≡ true →
    idents_among (binding (Some change) field x ctxt role ++ more) ≡ change.ident ∷ idents_among more
pattern_names change field x ctxt r.Word more occurs = cc
pattern_names change field x ctxt r.Binding more occurs = refl
pattern_names change field x ctxt r.Reference more occurs = refl

pub spelled_names : (b : Bool) (change : Change) (field : ℕ) (x : Text) (ctxt : ℕ) (role : Role)
    (made : List Item) → is_occurrence role ≡ true →
    idents_among (spelled b change field x ctxt role made) ≡ change.ident ∷ idents_among made
spelled_names true change field x ctxt role [] occurs =
    pattern_names change 1 x ctxt role (h.Close ∷ []) occurs
spelled_names true change field x ctxt role (first ∷ others) occurs =
    node_names field h.KeyValuePatProp
    (plain_key x ++ node 1 h.AssignPat (binding (Some change) 0 x ctxt role ++ first ∷ others))
    ∙ (node_names 1 h.AssignPat (binding (Some change) 0 x ctxt role ++ first ∷ others)
    ∙ pattern_names change 0 x ctxt role (first ∷ others) occurs)
spelled_names false change field x ctxt role made occurs =
    node_names field h.AssignPatProp (binding (Some change) 0 x ctxt role ++ made)
    ∙ pattern_names change 0 x ctxt role made occurs

short : {around : Around} {work rest : Work} {meta : Option Meant} {notes : List Note} (field : ℕ)
    (x : Text) (ctxt : ℕ) (role : Role) (step : Step) {default made : List Item} →
    is_occurrence role ≡ true → TakesStep work x step → (first : First work.steps notes step) →
    Both default made → KeepsMeaning Anywhere (after work) meta first.behind default made rest →
    KeepsMeaning around work meta notes
    (node field h.AssignPatProp (binding None 0 x ctxt role ++ default))
    (shorthand_in_its_place (Some (change_at x step)) field x ctxt role made) rest
short {around = around} {work = work} {rest = rest} {meta = meta} {notes = notes} field x ctxt role step {default = default} {made = made} occurs takes first both one = record {
  marks = shorthand_marks field x first.note.meant default one.marks;
  left = one.left;
  entries = ByStep step first.note ∷ one.entries;
  source =
      subst
      (λ its.
      Marked meta around its (node field h.AssignPatProp (binding None 0 x ctxt role ++ default))
      (shorthand_marks field x first.note.meant default one.marks) one.left)
      (sym first.notes_are) (d.Shorthand field x ctxt role occurs one.source);
  result = λ more.
      subst
      (λ marks.
      Marked None around (notes_alone (first.note.meant ∷ (map meant_in one.entries ++ more)))
      (shorthand_in_its_place (Some (change_at x step)) field x ctxt role made) marks
      (notes_alone more))
      (same_default field x first.note.meant one.marks both)
      (short_made (is_spelled_out_by step.spelling step.ident.0 x) (change_at x step) field x ctxt
      role _ made one.marks (notes_alone (map meant_in one.entries ++ more)) (notes_alone more) occurs
      takes.symbol
      (λ is. ap notes_alone (no_entries one.entries more (ap idents_among (sym is) ∙ one.names)))
      (one.result more));
  names =
      spelled_names (is_spelled_out_by step.spelling step.ident.0 x) (change_at x step) field x
      ctxt role made occurs
      ∙ ap (λ list. step.ident ∷ list) one.names;
  steps_are = first.steps_are ∙ ap (λ list. step ∷ list) one.steps_are;
  notes_are = first.notes_are ∙ ap (λ list. first.note ∷ list) one.notes_are;
  of_meta = one.of_meta;
  agree = one.agree;
  same_meta = one.same_meta;
}

-- A name that stands for more.

-- a step that stands for static reads
pub record ReadsFound (next : Option Step) (inside : List Item) (name : Ident) : Type 0 where
  pub step : Step
  pub is : next ≡ Some step
  pub named : step.ident ≡ name
  pub count : ℕ
  pub whole : step.whole ≡ w.Reads count
  pub reads : are_reads count inside ≡ true

some_name : (b : Bool) (ident name : Ident) → (if b then Some ident else None) ≡ Some name →
    (b ≡ true) × (ident ≡ name)
some_name true ident name is = (refl, cc)
some_name false ident name is = cc

pub reads_found : (next : Option Step) (inside : List Item) (name : Ident) →
    name_for_member next inside ≡ Some name → ReadsFound next inside name
reads_found None inside name is = cc
reads_found (Some step) inside name is = by_whole step.whole refl is
  where
    by_whole : (whole : Whole) → step.whole ≡ whole →
        name_of_reads step.ident whole inside ≡ Some name → ReadsFound (Some step) inside name
    by_whole w.Alone whole_is found = cc
    by_whole w.Call whole_is found = cc
    by_whole (w.Reads count) whole_is found =
        let both = some_name (are_reads count inside) step.ident name found in
        record
        { step = step; is = refl; named = both.1; count = count; whole = whole_is; reads = both.0 }

-- a step that stands for a call
pub record CallFound (next : Option Step) (inside : List Item) (name : Ident) : Type 0 where
  pub step : Step
  pub is : next ≡ Some step
  pub named : step.ident ≡ name
  pub whole : step.whole ≡ w.Call
  pub calls : is_literal_call inside ≡ true

pub call_found : (next : Option Step) (inside : List Item) (name : Ident) →
    name_for_call next inside ≡ Some name → CallFound next inside name
call_found None inside name is = cc
call_found (Some step) inside name is = by_whole step.whole refl is
  where
    by_whole : (whole : Whole) → step.whole ≡ whole →
        name_of_call step.ident whole inside ≡ Some name → CallFound (Some step) inside name
    by_whole w.Alone whole_is found = cc
    by_whole (w.Reads count) whole_is found = cc
    by_whole w.Call whole_is found =
        let both = some_name (is_literal_call inside) step.ident name found in
        record { step = step; is = refl; named = both.1; whole = whole_is; calls = both.0 }

reads_kept : {work : Work} {meta : Option Meant} {notes : List Note} (field : ℕ) (name : Ident)
    (inside : List Item) (found : ReadsFound (upcoming work) inside name) →
    First work.steps notes found.step →
    KeepsMeaning Anywhere work meta notes (node field h.MemberExpr inside) (reference field name)
    (after work)
reads_kept {work = work} {meta = meta} field name inside found first =
    one_step _ _ (m.Name field first.note.meant ∷ []) found.step first
    (subst
    (λ whole.
    Marked meta Anywhere (record { meant = first.note.meant; whole = whole } ∷ first.behind)
    (node field h.MemberExpr inside) (m.Name field first.note.meant ∷ []) first.behind)
    (sym found.whole ∙ first.whole) (d.OfReads field found.count inside found.reads))
    (λ more. d.Name Anywhere field name.0 name.1 r.Reference refl)
    (ap (λ ident. ident ∷ []) (sym found.named))

call_kept : {around : Around} {work : Work} {meta : Option Meant} {notes : List Note} (field : ℕ)
    (name : Ident) (inside : List Item) (found : CallFound (upcoming work) inside name) →
    First work.steps notes found.step →
    KeepsMeaning around work meta notes (node field h.CallExpr inside)
    (node field h.CallExpr (reference 0 name)) (after work)
call_kept {around = around} {work = work} {meta = meta} field name inside found first =
    one_step _ _ (call_marks field first.note.meant) found.step first
    (subst
    (λ whole.
    Marked meta around (record { meant = first.note.meant; whole = whole } ∷ first.behind)
    (node field h.CallExpr inside) (call_marks field first.note.meant) first.behind)
    (sym found.whole ∙ first.whole) (d.OfCall field inside found.calls))
    (λ more. d.Inside field h.CallExpr refl (d.Name Anywhere 0 name.0 name.1 r.Reference refl))
    (ap (λ ident. ident ∷ []) (sym found.named))

pub no_meta : (own : Option Ident) (kind : MetaPropKind) (name : Ident) → AgreeOnMeta own None →
    name_for_meta own kind ≡ Some name → ⊥
no_meta None p.ImportMeta name on_meta found = cc
no_meta None p.NewTarget name on_meta found = cc
no_meta (Some ident) kind name on_meta found = on_meta

meta_kept : {work : Work} (meta : Option Meant) {notes : List Note} (field : ℕ)
    (kind : MetaPropKind) (name : Ident) → Agree work.steps notes → AgreeOnMeta work.meta meta →
    name_for_meta work.meta kind ≡ Some name →
    KeepsMeaning Anywhere work meta notes (node field (h.MetaPropExpr kind) []) (reference field name)
    work
meta_kept {work = work} None field kind name agree on_meta found =
    absurd (no_meta work.meta kind name on_meta found)
meta_kept (Some meant) {notes = notes} field p.ImportMeta name agree on_meta found = record {
  marks = m.Name field meant ∷ [];
  left = notes;
  entries = ByMeta name meant ∷ [];
  source = d.OfMeta field meant refl;
  result = λ more. d.Name Anywhere field name.0 name.1 r.Reference refl;
  names = refl;
  steps_are = refl;
  notes_are = refl;
  of_meta = (found, refl, tt);
  agree = agree;
  same_meta = refl;
}
meta_kept (Some meant) field p.NewTarget name agree on_meta found = cc

-- Main

pub keeps : {around : Around} {work rest : Work} {before made : List Item} →
    Rewrites around work before made rest → (meta : Option Meant) (notes : List Note) →
    Agree work.steps notes → AgreeOnMeta work.meta meta →
    KeepsMeaning around work meta notes before made rest
keeps e.Nothing meta notes agree on_meta =
    unchanged [] [] [] agree (λ means its. d.Nothing) (λ means its. d.Nothing) refl
keeps (e.Joined one two) meta notes agree on_meta =
    let front = keeps one meta notes agree on_meta in
    joined front
    (keeps two meta front.left front.agree
    (subst (λ it. AgreeOnMeta it meta) (sym front.same_meta) on_meta))
keeps (e.Hole field) meta notes agree on_meta =
    unchanged _ _ (m.Empty field ∷ []) agree (λ means its. d.Hole field)
    (λ means its. d.Hole field) refl
keeps (e.Word field x ctxt role plain) meta notes agree on_meta =
    unchanged _ _ (m.Word field x ∷ []) agree (λ means its. d.Word field x ctxt role plain)
    (λ means its. d.Word field x ctxt role plain) (word_names field x ctxt role plain)
keeps (e.Name around field x ctxt role step occurs free takes) meta notes agree on_meta =
    named field x ctxt role step occurs free takes agree
keeps (e.Inside {work = work} field head {inside = inside} {made = made} it_stays one) meta notes
    agree on_meta =
    stayed field head (still_stays work meta notes agree on_meta head inside it_stays)
    (none_stays work head inside made it_stays) (keeps one meta notes agree on_meta)
keeps (e.Declaration {work = work} field kind its one) meta notes agree on_meta =
    declared field kind its (kept_notes work.clears_notes its) (keeps one meta notes agree on_meta)
keeps (e.Kept field head first keeps_it one two) meta notes agree on_meta =
    let front = keeps one meta notes agree on_meta in
    kept field head first keeps_it front
    (keeps two meta front.left front.agree
    (subst (λ it. AgreeOnMeta it meta) (sym front.same_meta) on_meta))
keeps (e.Shorthand {work = work} field x ctxt role step occurs takes one) meta notes agree on_meta =
    let first = first_of work.steps notes step agree takes.is in
    short field x ctxt role step occurs takes first (both_filled one)
    (keeps one meta first.behind first.rest on_meta)
keeps (e.OfReads {work = work} field name inside found) meta notes agree on_meta =
    let reads = reads_found (upcoming work) inside name found in
    reads_kept field name inside reads (first_of work.steps notes reads.step agree reads.is)
keeps (e.OfCall {work = work} field name inside found) meta notes agree on_meta =
    let calls = call_found (upcoming work) inside name found in
    call_kept field name inside calls (first_of work.steps notes calls.step agree calls.is)
keeps (e.OfMeta field kind name found) meta notes agree on_meta =
    meta_kept meta field kind name agree on_meta found
