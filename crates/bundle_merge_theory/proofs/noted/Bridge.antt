-- A node in another field has the same marks, in that field.
-- Right notes beside a part of a tree give its meaning: what has these marks means them.
use Rattle.std.proofs.Common.{◌≡◌, ℕ, true, List, [], ◌∷◌, ◌++◌, Option, Some, None, refl, sym, ap, ◌∙◌, subst, ◌+◌, false, not, append_assoc, append-nil, arith}
use Rattle.std.proofs.lemmas.Option.{none-some, same_Some}
use Rattle.std.specs.Prelude.{fold, slice_get}
use Rattle.std.proofs.lemmas.Bool.{false≢true}
use Rattle.bundle_syntax.specs.declared.piece.Role.{Role}
use Rattle.bundle_syntax.specs.Item as h
use Rattle.bundle_syntax.specs.Item.{Item, Head}
use Rattle.bundle_syntax.specs.declared.kind.MetaPropKind.TheVariants as p
use Rattle.bundle_syntax.specs.declared.piece.Role.TheVariants as r
use Rattle.bundle_rules.specs.Nodes.{Text, field_of}
use Rattle.bundle_rules.specs.Statements.{moved_to}
use Rattle.bundle_rules.specs.Meaning.{Meant, Mark, Sense, Replacement, ByName, ByCall}
use Rattle.bundle_rules.specs.Places.{Spot, Occurrence, in_field as in_field_bridge, past, occurrences_from}
use Rattle.bundle_rules.specs.Denotes.{Denoted}
use Rattle.bundle_rules.specs.Shorthands.{ends_at, is_shorthand_in_pattern, is_object}
use Rattle.bundle_rules.specs.Marks as k
use Rattle.bundle_tree_places.specs.Edits as edits
use Rattle.bundle_tree_places.specs.Edits.{is_occurrence, around_in}
use Rattle.bundle_tree_rebuild.specs.declared.rewrite.Whole.{Whole}
use Rattle.bundle_tree_rebuild.specs.declared.rewrite.Whole.TheVariants.{Alone, Reads, Call}
use Rattle.bundle_tree_rebuild.specs.Becomes.{keeps_first}
use Rattle.bundle_scope_names.proofs.Kept.{occurrences-append as occurrences_append}
use Rattle.bundle_link.proofs.NodePaths.{fold-place, spot-in}
use Rattle.bundle_merge_theory.specs.noted.Marked.{Note, marks_there, shorthand_marks, Marked, Nothing, Joined, Hole, Word, Name, Inside, Kept, Shorthand, OfReads, OfCall, OfMeta, next_note, node_stays, node_marks, call_marks}
use Rattle.bundle_merge_theory.specs.noted.Stated.{node_in_field}
use Rattle.bundle_merge_theory.specs.noted.Nodes as n
use Rattle.bundle_merge_theory.specs.noted.Nodes.{AreNodesInTurn}
use Rattle.bundle_merge_theory.specs.noted.Agrees.{IsSpotAt, IsClear, IsReplacedAround, IsNotable, by_reads, by_call, by_meta, StandsAlone, StandsForReads, StandsForCall, Agrees, AgreeInTurn, IsListing, ReplacesNotable}
use Rattle.bundle_merge_theory.proofs.noted.Spots.{fold-path, at-past, at-behind, at-as, at-get}
use Rattle.bundle_merge_theory.proofs.noted.Shapes.{reads_inside, nodes_in_reads, literal_call, literal_call_nodes, marked_nodes, join, one_node}
use Rattle.bundle_merge_theory.proofs.noted.Names.{occurrence_here, name_first, occurrences_node, at_in_node, name_in_node, name_in_call}
use Rattle.bundle_merge_theory.proofs.noted.Replaces.{clear-field, clear-there, replaced-not, stays_unreplaced, other_unreplaced, kept_unreplaced}
use Rattle.bundle_merge_theory.proofs.noted.Inner.{is_in_object, Stands, stands_behind, stands_in, Gives, gives_as, gives_nothing, gives_one, gives_joined, gives_node, gives_replaced, steps_empty, steps_word, gives_name, opens_at, closes_at}
use Rattle.bundle_merge_theory.proofs.noted.Properties.{gives_shorthand, by_default}

-- ---- moved

-- the marks of a node, in this field
abbrev pub mark_to : ℕ → Mark → Mark
mark_to field (k.Begins old head) = k.Begins field head
mark_to field k.Ends = k.Ends
mark_to field (k.Empty old) = k.Empty field
mark_to field (k.Name old meant) = k.Name field meant
mark_to field (k.Word old x) = k.Word field x

abbrev pub marks_to : ℕ → List Mark → List Mark
marks_to field [] = []
marks_to field (first ∷ rest) = mark_to field first ∷ rest

abbrev pub field_of_mark : Mark → Option ℕ
field_of_mark (k.Begins field head) = Some field
field_of_mark k.Ends = None
field_of_mark (k.Empty field) = Some field
field_of_mark (k.Name field meant) = Some field
field_of_mark (k.Word field x) = Some field

-- what has marks begins as they do: with nothing, or in the same field
pub data BeginAlike : List Item → List Mark → Type 0 where
  both_empty : BeginAlike [] []
  both_in : {x : Item} {mark : Mark} {items : List Item} {marks : List Mark} (field : ℕ) →
      field_of x ≡ Some field → field_of_mark mark ≡ Some field →
      BeginAlike (x ∷ items) (mark ∷ marks)

alike_joined : {first second : List Item} {marks more : List Mark} → BeginAlike first marks →
    BeginAlike second more → BeginAlike (first ++ second) (marks ++ more)
alike_joined both_empty two = two
alike_joined (both_in field is its) two = both_in field is its

alike_name : (its : edits.Around) (field : ℕ) (x : Text) (ctxt : ℕ) (role : Role) (meant : Meant) →
    BeginAlike (h.Ident field x ctxt role ∷ []) (marks_there its field x meant)
alike_name edits.InObject field x ctxt role meant = both_in field refl refl
alike_name edits.Anywhere field x ctxt role meant = both_in field refl refl
alike_name edits.InSpecifier field x ctxt role meant = both_in field refl refl

alike_property : (field : ℕ) (x : Text) (ctxt : ℕ) (role : Role) (meant : Meant)
    (default : List Item) (marks : List Mark) →
    BeginAlike (edits.node field h.AssignPatProp (edits.binding None 0 x ctxt role ++ default))
    (shorthand_marks field x meant default marks)
alike_property field x ctxt role meant [] marks = both_in field refl refl
alike_property field x ctxt role meant (first ∷ more) marks = both_in field refl refl

pub alike : {meta : Option Meant} {its : edits.Around} {notes rest : List Note} {items : List Item}
    {marks : List Mark} → Marked meta its notes items marks rest → BeginAlike items marks
alike Nothing = both_empty
alike (Joined one two) = alike_joined (alike one) (alike two)
alike (Hole field) = both_in field refl refl
alike (Word field x ctxt role plain) = both_in field refl refl
alike (Name its {note = note} field x ctxt role occurs) =
    alike_name its field x ctxt role note.meant
alike (Inside field head stay one) = both_in field refl refl
alike (Kept field head first keeps one two) = both_in field refl refl
alike (Shorthand {note = note} field x ctxt role {default = default} {marks = marks} occurs one) =
    alike_property field x ctxt role note.meant default marks
alike (OfReads field count inside are) = both_in field refl refl
alike (OfCall field inside are) = both_in field refl refl
alike (OfMeta field meant is) = both_in field refl refl

-- what is nothing takes no note
pub takes_none : {meta : Option Meant} {its : edits.Around} {notes rest : List Note}
    {items : List Item} {marks : List Mark} → Marked meta its notes items marks rest → items ≡ [] →
    notes ≡ rest
takes_none Nothing e = refl
takes_none (Joined {first = first} {second = second} one two) e =
    both first e (takes_none one) (takes_none two)
  where
    both : {A B C : List Note} (first : List Item) → first ++ second ≡ [] → (first ≡ [] → A ≡ B) →
        (second ≡ [] → B ≡ C) → A ≡ C
    both [] e a b = a refl ∙ b e
    both (x ∷ xs) e a b = cc
takes_none (Hole field) e = cc
takes_none (Word field x ctxt role plain) e = cc
takes_none (Name its field x ctxt role occurs) e = cc
takes_none (Inside field head stay one) e = cc
takes_none (Kept field head first keeps one two) e = cc
takes_none (Shorthand field x ctxt role occurs one) e = cc
takes_none (OfReads field count inside are) e = cc
takes_none (OfCall field inside are) e = cc
takes_none (OfMeta field meant is) e = cc

moved_name : (meta : Option Meant) (its : edits.Around) (note : Note) (rest : List Note)
    (field old : ℕ) (x : Text) (ctxt : ℕ) (role : Role) → edits.is_occurrence role ≡ true →
    Marked meta its (note ∷ rest) (h.Ident field x ctxt role ∷ [])
    (marks_to field (marks_there its old x note.meant)) rest
moved_name meta edits.InObject note rest field old x ctxt role occurs =
    Name edits.InObject field x ctxt role occurs
moved_name meta edits.Anywhere note rest field old x ctxt role occurs =
    Name edits.Anywhere field x ctxt role occurs
moved_name meta edits.InSpecifier note rest field old x ctxt role occurs =
    Name edits.InSpecifier field x ctxt role occurs

moved_property : (field old : ℕ) (x : Text) (meant : Meant) (default : List Item)
    (marks : List Mark) →
    shorthand_marks field x meant default marks
    ≡ marks_to field (shorthand_marks old x meant default marks)
moved_property field old x meant [] marks = refl
moved_property field old x meant (first ∷ more) marks = refl

moved_joined : {meta : Option Meant} {its : edits.Around} {notes between rest : List Note}
    {first second : List Item} {marks more : List Mark} → BeginAlike first marks → (field : ℕ) →
    Marked meta its notes first marks between →
    Marked meta its notes (node_in_field field first) (marks_to field marks) between →
    Marked meta its between second more rest →
    Marked meta its between (node_in_field field second) (marks_to field more) rest →
    Marked meta its notes (node_in_field field (first ++ second)) (marks_to field (marks ++ more)) rest
moved_joined {meta = meta} {its = its} {rest = rest} {second = second} {more = more} both_empty
    field one moved_one two moved_two =
    subst (λ l. Marked meta its l (node_in_field field second) (marks_to field more) rest)
    (sym (takes_none one refl)) moved_two
moved_joined (both_in f is its) field one moved_one two moved_two = Joined moved_one two

-- the node in another field
pub moved : {meta : Option Meant} {its : edits.Around} {notes rest : List Note} {items : List Item}
    {marks : List Mark} → Marked meta its notes items marks rest → (field : ℕ) →
    Marked meta its notes (node_in_field field items) (marks_to field marks) rest
moved Nothing field = Nothing
moved (Joined {first = first} {second = second} {marks = marks} {more = more} one two) field =
    moved_joined (alike one) field one (moved one field) two (moved two field)
moved (Hole old) field = Hole field
moved (Word old x ctxt role plain) field = Word field x ctxt role plain
moved {meta = meta} (Name its {note = note} {rest = rest} old x ctxt role occurs) field =
    moved_name meta its note rest field old x ctxt role occurs
moved (Inside old head stay one) field = Inside field head stay one
moved (Kept old head first keeps one two) field = Kept field head first keeps one two
moved {meta = meta} {its = its}
    (Shorthand {note = note} {notes = notes} {rest = rest} old x ctxt role {default = default}
    {marks = marks} occurs one)
    field =
    subst
    (λ l.
    Marked meta its (note ∷ notes)
    (edits.node field h.AssignPatProp (edits.binding None 0 x ctxt role ++ default)) l rest)
    (moved_property field old x note.meant default marks)
    (Shorthand field x ctxt role occurs one)
moved (OfReads old count inside are) field = OfReads field count inside are
moved (OfCall old inside are) field = OfCall field inside are
moved (OfMeta old meant is) field = OfMeta field meant is

-- there and back
pub field_twice : (f g : ℕ) (x : Item) → moved_to f (moved_to g x) ≡ moved_to f x
field_twice f g (h.Open field head) = refl
field_twice f g (h.Ident field x ctxt role) = refl
field_twice f g (h.Hole field) = refl
field_twice f g h.Close = refl

pub field_kept : (f : ℕ) (x : Item) → field_of x ≡ Some f → moved_to f x ≡ x
field_kept f (h.Open field head) e = ap (λ n. h.Open n head) (sym (same_Some field f e))
field_kept f (h.Ident field x ctxt role) e =
    ap (λ n. h.Ident n x ctxt role) (sym (same_Some field f e))
field_kept f (h.Hole field) e = ap (λ n. h.Hole n) (sym (same_Some field f e))
field_kept f h.Close e = refl

pub field_moved : (f : ℕ) (x : Item) (g : ℕ) → field_of x ≡ Some g → field_of (moved_to f x) ≡ Some f
field_moved f (h.Open field head) g e = refl
field_moved f (h.Ident field x ctxt role) g e = refl
field_moved f (h.Hole field) g e = refl
field_moved f h.Close g e = absurd (none-some g e)

mark_twice : (f g : ℕ) (mark : Mark) → mark_to f (mark_to g mark) ≡ mark_to f mark
mark_twice f g (k.Begins field head) = refl
mark_twice f g k.Ends = refl
mark_twice f g (k.Empty field) = refl
mark_twice f g (k.Name field meant) = refl
mark_twice f g (k.Word field x) = refl

mark_kept : (f : ℕ) (mark : Mark) → field_of_mark mark ≡ Some f → mark_to f mark ≡ mark
mark_kept f (k.Begins field head) e = ap (λ n. k.Begins n head) (sym (same_Some field f e))
mark_kept f k.Ends e = refl
mark_kept f (k.Empty field) e = ap (λ n. k.Empty n) (sym (same_Some field f e))
mark_kept f (k.Name field meant) e = ap (λ n. k.Name n meant) (sym (same_Some field f e))
mark_kept f (k.Word field x) e = ap (λ n. k.Word n x) (sym (same_Some field f e))

-- what has marks in another field than that in which the node stands
pub record FromOtherField (meta : Option Meant) (its : edits.Around) (field : ℕ)
    (notes : List Note) (items : List Item) (marks : List Mark) (rest : List Note) : Type 0 where
  -- the marks of the node where it stands
  pub there : List Mark
  pub marked : Marked meta its notes items there rest
  -- they are those in the other field
  pub back : marks_to field there ≡ marks

from_alike : {meta : Option Meant} {its : edits.Around} {notes rest : List Note} (field : ℕ)
    (x : Item) (items : List Item) {marks : List Mark} →
    BeginAlike (node_in_field field (x ∷ items)) marks → (old : ℕ) → field_of x ≡ Some old →
    Marked meta its notes (node_in_field field (x ∷ items)) marks rest →
    FromOtherField meta its field notes (x ∷ items) marks rest
from_alike {meta = meta} {its = its} {notes = notes} {rest = rest} field x items (both_in {mark = mark} {marks = marks} f is its_mark) old e marked = record {
  there = mark_to old mark ∷ marks;
  marked =
      subst (λ y. Marked meta its notes (y ∷ items) (mark_to old mark ∷ marks) rest)
      (field_twice old field x ∙ field_kept old x e) (moved marked old);
  back =
      ap (λ it. it ∷ marks)
      (mark_twice field old mark ∙ mark_kept field mark (its_mark ∙ ap Some same));
}
  where
    same : f ≡ field
    same = same_Some f field (sym is ∙ field_moved field x old e)

pub from_other_field : {meta : Option Meant} {its : edits.Around} {notes rest : List Note}
    (field : ℕ) {items : List Item} {marks : List Mark} → n.AreNodesInTurn items →
    Marked meta its notes (node_in_field field items) marks rest →
    FromOtherField meta its field notes items marks rest
from_other_field field {marks = marks} n.nothing marked =
    record { there = marks; marked = marked; back = none marks (alike marked) }
  where
    none : (marks : List Mark) → BeginAlike [] marks → marks_to field marks ≡ marks
    none [] it = refl
    none (mark ∷ marks) it = elim it [ ]
from_other_field field
    (n.name {field = old} {ctxt = ctxt} {sym = x} {role = role} {rest = items} nodes) marked =
    from_alike field (h.Ident old x ctxt role) items (alike marked) old refl marked
from_other_field field (n.hole {field = old} {rest = items} nodes) marked =
    from_alike field (h.Hole old) items (alike marked) old refl marked
from_other_field field
    (n.node {field = old} {head = head} {inside = inside} {rest = items} nodes more) marked =
    from_alike field (h.Open old head) (inside ++ h.Close ∷ items) (alike marked) old refl marked

-- ---- heads
stays_short : (meta : Option Meant) (next : Option Note) (head : Head) (inside : List Item) →
    node_stays meta next head inside ≡ true → is_shorthand_in_pattern head ≡ false
stays_short meta next h.AssignPatProp inside stay = absurd (false≢true stay)
stays_short meta next _ inside stay = refl

object_in : (head : Head) (inside : List Item) →
    is_object head ≡ is_in_object (around_in head inside)
object_in h.ObjectLit inside = refl
object_in h.ImportNamedSpecifier [] = refl
object_in h.ImportNamedSpecifier (x ∷ []) = refl
object_in h.ImportNamedSpecifier (x ∷ y ∷ rest) = refl
object_in h.ExportNamedSpecifier [] = refl
object_in h.ExportNamedSpecifier (x ∷ []) = refl
object_in h.ExportNamedSpecifier (x ∷ y ∷ rest) = refl
object_in _ inside = refl

keeps_short : (head : Head) (first : ℕ) → keeps_first head first ≡ true →
    is_shorthand_in_pattern head ≡ false
keeps_short (h.AssignExpr op) first keeps = refl
keeps_short (h.OptChainExpr optional) first keeps = refl
keeps_short _ first keeps = absurd (false≢true keeps)

keeps_object : (head : Head) (first : ℕ) → keeps_first head first ≡ true → is_object head ≡ false
keeps_object (h.AssignExpr op) first keeps = refl
keeps_object (h.OptChainExpr optional) first keeps = refl
keeps_object _ first keeps = absurd (false≢true keeps)

pub keeps_notable : {meta : Option Meant} {head : Head} {inside : List Item} {by : Replacement}
    (first : ℕ) → IsNotable meta head inside by → keeps_first head first ≡ true → ⊥
keeps_notable first (by_reads count are) keeps = false≢true keeps
keeps_notable first (by_call are) keeps = false≢true keeps
keeps_notable first (by_meta e) keeps = false≢true keeps

pub property_notable : {meta : Option Meant} {inside : List Item} {by : Replacement} →
    IsNotable meta h.AssignPatProp inside by → ⊥
property_notable it = elim it [ ]

pub pattern_notable : {meta : Option Meant} {inside : List Item} {by : Replacement} →
    IsNotable meta h.BindingIdent inside by → ⊥
pattern_notable it = elim it [ ]

module _ (sense : Sense) (inner : List Denoted) (meta : Option Meant)
    (listing : IsListing sense.view.tree) (replaces : ReplacesNotable sense meta) where
  -- the occurrences of a part and then these agree with notes
  abbrev pub Agree : Spot → List Item → List Occurrence → List Note → Type 0
  Agree s items os notes = AgreeInTurn sense inner (occurrences_from s items ++ os) notes

  -- a name in no node that is replaced stands for itself
  alone_there : (o : Occurrence) (meant : Meant) (whole : Whole) → IsClear sense.replaced o.path →
      Agrees sense inner o meant whole → StandsAlone sense inner o meant
  alone_there o meant Alone clear alone = alone
  alone_there o meant (Reads count) clear reads =
      absurd (not_clear reads.begins (ByName reads.label) reads.replaced)
    where
      not_clear : (begins : ℕ) (by : Replacement) →
          IsReplacedAround sense.replaced o.path begins by → ⊥
      not_clear begins by there =
          replaced-not sense.replaced
          (clear-there sense.replaced there.inner there.node there.outer
          (subst (IsClear sense.replaced) there.path_is clear))
          (subst (λ b. sense.replaced b by) (sym there.here) there.its)
  alone_there o meant Call clear call =
      absurd (not_clear call.begins (ByCall call.label) call.replaced)
    where
      not_clear : (begins : ℕ) (by : Replacement) →
          IsReplacedAround sense.replaced o.path begins by → ⊥
      not_clear begins by there =
          replaced-not sense.replaced
          (clear-there sense.replaced there.inner there.node there.outer
          (subst (IsClear sense.replaced) there.path_is clear))
          (subst (λ b. sense.replaced b by) (sym there.here) there.its)

  -- in a node, and one after the other
  pub agree_in : (s : Spot) (field : ℕ) (head : Head) (inside : List Item) (os : List Occurrence)
      (notes : List Note) → Agree s (edits.node field head inside) os notes →
      Agree (spot-in s field head) inside os notes
  agree_in s field head inside os notes agree =
      subst (λ l. AgreeInTurn sense inner (l ++ os) notes) (occurrences_node s field head inside)
      agree

  pub agree_first : (s : Spot) (first second : List Item) (os : List Occurrence)
      (notes : List Note) → Agree s (first ++ second) os notes →
      Agree s first (occurrences_from (fold past s first) second ++ os) notes
  agree_first s first second os notes agree =
      subst (λ l. AgreeInTurn sense inner l notes)
      (ap (λ l. l ++ os) (occurrences_append s first second)
      ∙ append_assoc (occurrences_from s first) (occurrences_from (fold past s first) second)
      os)
      agree

  -- a node that stays, by what is in it
  node_gives : {its : edits.Around} (s : Spot) (field : ℕ) (head : Head) (inside tail : List Item)
      (marks : List Mark) → IsSpotAt sense.view.tree s (edits.node field head inside ++ tail) →
      Stands sense its s → ((x : Replacement) → sense.replaced s.place x → ⊥) →
      is_shorthand_in_pattern head ≡ false → AreNodesInTurn inside →
      Gives sense inner (spot-in s field head).place inside marks →
      Gives sense inner s.place (edits.node field head inside) (node_marks field head marks)
  node_gives s field head inside tail marks at stands none short nodes gives =
      let behind = at-behind inside (h.Close ∷ tail) (at_in_node field head inside tail at) in
      let path = fold-path nodes (spot-in s field head) in
      gives_node sense inner
      (opens_at sense inner s field head ((inside ++ h.Close ∷ []) ++ tail) at stands refl none
      short)
      (omega arith)
      gives
      (fold-place (spot-in s field head) inside)
      (closes_at sense inner (fold past (spot-in s field head) inside) tail head s.place path.0
      (in_field_bridge field s.path) behind refl path.1 short)

  -- what is so of a part: the notes that are left agree with what follows, and the part means its
  -- marks
  pub record Bridged (s : Spot) (items : List Item) (marks : List Mark) (os : List Occurrence)
      (rest : List Note) : Type 0 where
    pub agrees : AgreeInTurn sense inner os rest
    pub gives : Gives sense inner s.place items marks

  -- a name takes the next note
  name_bridged : (its : edits.Around) (s : Spot) (field : ℕ) (x : Text) (ctxt : ℕ) (role : Role)
      (tail : List Item) (os : List Occurrence) (note : Note) (rest : List Note) →
      is_occurrence role ≡ true → IsSpotAt sense.view.tree s (h.Ident field x ctxt role ∷ tail) →
      Stands sense its s → Agree s (h.Ident field x ctxt role ∷ []) os (note ∷ rest) →
      Bridged s (h.Ident field x ctxt role ∷ []) (marks_there its field x note.meant) os rest
  name_bridged its s field x ctxt role tail os note rest occurs at stands agree =
      let both =
      subst (λ l. AgreeInTurn sense inner (l ++ os) (note ∷ rest))
      (name_first s field x ctxt role [] occurs) agree in
      let alone =
      alone_there (occurrence_here s field x ctxt role) note.meant note.whole
      (clear-field sense.replaced field s.path stands.clear) both.0 in
      record
      { agrees = both.1; gives = gives_name sense inner its s field ctxt x role tail alone.d note.meant at stands.object refl alone.denotes alone.means }

  -- reads, and a call, take it
  reads_bridged : (s : Spot) (field count : ℕ) (inside : List Item) (os : List Occurrence)
      (meant : Meant) (rest : List Note) → AreNodesInTurn inside → (o : Occurrence) →
      o.place ≡ s.place + count → StandsForReads sense o meant count →
      AgreeInTurn sense inner os rest →
      Bridged s (edits.node field h.MemberExpr inside) (k.Name field meant ∷ []) os rest
  reads_bridged s field count inside os meant rest nodes o far reads agree =
      let reads_far = reads.far in
      let here : reads.begins ≡ s.place = omega (arith, far, reads_far) in
      let there = reads.replaced in
      record {
        agrees = agree;
        gives =
            gives_as sense inner refl (ap (λ it. k.Name field it ∷ []) (sym reads.meant_is))
            (gives_replaced sense inner s.place field h.MemberExpr inside (ByName reads.label)
            nodes (subst (λ b. sense.replaced b (ByName reads.label)) here there.its));
      }

  call_bridged : (s : Spot) (field : ℕ) (inside : List Item) (os : List Occurrence) (meant : Meant)
      (rest : List Note) → AreNodesInTurn inside → (o : Occurrence) → o.place ≡ s.place + 1 →
      StandsForCall sense o meant → AgreeInTurn sense inner os rest →
      Bridged s (edits.node field h.CallExpr inside) (call_marks field meant) os rest
  call_bridged s field inside os meant rest nodes o far call agree =
      let call_far = call.far in
      let here : call.begins ≡ s.place = omega (arith, far, call_far) in
      let there = call.replaced in
      record {
        agrees = agree;
        gives =
            gives_as sense inner refl (ap (λ it. call_marks field it) (sym call.meant_is))
            (gives_replaced sense inner s.place field h.CallExpr inside (ByCall call.label) nodes
            (subst (λ b. sense.replaced b (ByCall call.label)) here there.its));
      }

  -- what has these marks means them
  pub bridge : {its : edits.Around} {notes rest : List Note} {items : List Item}
      {marks : List Mark} → Marked meta its notes items marks rest →
      (s : Spot) (tail : List Item) (os : List Occurrence) →
      IsSpotAt sense.view.tree s (items ++ tail) → Stands sense its s → Agree s items os notes →
      Bridged s items marks os rest
  bridge Nothing s tail os at stands agree =
      record { agrees = agree; gives = gives_nothing sense inner s.place }
  bridge (Joined {notes = notes} {first = first} {second = second} one two) s tail os at stands
      agree =
      let at_one : IsSpotAt sense.view.tree s (first ++ (second ++ tail)) =
      at-as refl (append_assoc first second tail) at in
      let its_one =
      bridge one s (second ++ tail) (occurrences_from (fold past s first) second ++ os) at_one
      stands (agree_first s first second os notes agree) in
      let its_two =
      bridge two (fold past s first) tail os (at-behind first (second ++ tail) at_one)
      (stands_behind (marked_nodes one) s stands) its_one.agrees in
      record
      { agrees = its_two.agrees; gives = gives_joined sense inner its_one.gives (fold-place s first) its_two.gives }
  bridge (Hole field) s tail os at stands agree =
      record
      { agrees = agree; gives = gives_one sense inner (steps_empty sense inner s.place field) }
  bridge (Word {notes = notes} field x ctxt role plain) s tail os at stands agree =
      record
      { agrees = by role plain agree; gives = gives_one sense inner (steps_word sense inner s.place field ctxt x role plain) }
    where
      by : (role : Role) → is_occurrence role ≡ false →
          Agree s (h.Ident field x ctxt role ∷ []) os notes → AgreeInTurn sense inner os notes
      by r.Word plain agree = agree
      by r.Binding plain agree = absurd (false≢true (sym plain))
      by r.Reference plain agree = absurd (false≢true (sym plain))
  bridge (Name its {note = note} {rest = rest} field x ctxt role occurs) s tail os at stands agree =
      name_bridged its s field x ctxt role tail os note rest occurs at stands agree
  bridge (Inside {notes = notes} field head {inside = inside} {marks = marks} stay one) s tail os
      at stands agree =
      let nodes = marked_nodes one in
      let none =
      stays_unreplaced sense inner listing meta replaces s field head inside tail os notes
      nodes at stands.clear agree stay in
      let short = stays_short meta (next_note notes) head inside stay in
      let its =
      bridge one (spot-in s field head) (h.Close ∷ tail) os
      (at_in_node field head inside tail at)
      (stands_in s (around_in head inside) field head stands none (object_in head inside)
      short)
      (agree_in s field head inside os notes agree) in
      record
      { agrees = its.agrees; gives = node_gives s field head inside tail marks at stands none short nodes its.gives }
  bridge
      (Kept {notes = notes} field head first {inside = inside} {more = more} {marks = marks}
      {more_marks = more_marks} keeps one two)
      s tail os at stands agree =
      let member : List Item = edits.node first h.MemberExpr inside in
      let behind : List Item = more ++ h.Close ∷ tail in
      let short = keeps_short head first keeps in
      let none =
      other_unreplaced sense inner listing meta replaces s field head
      (((member ++ more) ++ h.Close ∷ []) ++ tail) at stands.clear
      (λ ins by it. keeps_notable first it keeps) in
      let s1 : Spot = spot-in s field head in
      let at1 : IsSpotAt sense.view.tree s1 (member ++ behind) =
      at-as refl (append_assoc member more (h.Close ∷ tail))
      (at_in_node field head (member ++ more) tail at) in
      let stands1 : Stands sense edits.Anywhere s1 =
      stands_in s edits.Anywhere field head stands none (keeps_object head first keeps)
      short in
      let none1 =
      kept_unreplaced sense inner listing meta replaces s1 first
      ((inside ++ h.Close ∷ []) ++ behind) head s.place 0 (in_field_bridge field s.path) at1
      stands1.clear refl keeps (omega arith) in
      let after : List Occurrence = occurrences_from (fold past s1 member) more ++ os in
      let agree1 : Agree s1 member after notes =
      agree_first s1 member more os notes
      (agree_in s field head (member ++ more) os notes agree) in
      let its_one =
      bridge one (spot-in s1 first h.MemberExpr) (h.Close ∷ behind) after
      (at_in_node first h.MemberExpr inside behind at1)
      (stands_in s1 edits.Anywhere first h.MemberExpr stands1 none1 refl refl)
      (agree_in s1 first h.MemberExpr inside after notes agree1) in
      let nodes = marked_nodes one in
      let member_gives =
      node_gives s1 first h.MemberExpr inside behind marks at1 stands1 none1 refl nodes
      its_one.gives in
      let its_two =
      bridge two (fold past s1 member) (h.Close ∷ tail) os (at-behind member behind at1)
      (stands_behind (one_node first h.MemberExpr nodes) s1 stands1) its_one.agrees in
      let all = gives_joined sense inner member_gives (fold-place s1 member) its_two.gives in
      record {
        agrees = its_two.agrees;
        gives =
            node_gives s field head (member ++ more) tail
            (node_marks first h.MemberExpr marks ++ more_marks) at stands none short
            (join (one_node first h.MemberExpr nodes) (marked_nodes two)) all;
      }
  bridge
      (Shorthand {note = note} {notes = notes} {rest = rest} field x ctxt role {default = default}
      {marks = marks} occurs one)
      s tail os at stands agree =
      let apart : (default ++ h.Close ∷ []) ++ tail ≡ default ++ h.Close ∷ tail =
      append_assoc default (h.Close ∷ []) tail in
      let front : List Item → List Item =
      λ l.
      h.Open field h.AssignPatProp ∷ h.Open 0 h.BindingIdent ∷ h.Ident 0 x ctxt role ∷ h.Close
      ∷ l in
      let at0 : IsSpotAt sense.view.tree s (front (default ++ h.Close ∷ tail)) =
      at-as refl (ap front apart) at in
      let none =
      other_unreplaced sense inner listing meta replaces s field h.AssignPatProp
      (h.Open 0 h.BindingIdent ∷ h.Ident 0 x ctxt role ∷ h.Close ∷ (default ++ h.Close ∷ tail))
      at0 stands.clear (λ ins by it. property_notable it) in
      let s1 : Spot = spot-in s field h.AssignPatProp in
      let clear1 : IsClear sense.replaced s1.path =
      (none, clear-field sense.replaced field s.path stands.clear) in
      let at1 =
      at-past (h.Open field h.AssignPatProp)
      (h.Open 0 h.BindingIdent ∷ h.Ident 0 x ctxt role ∷ h.Close ∷ (default ++ h.Close ∷ tail))
      at0 in
      let none1 =
      other_unreplaced sense inner listing meta replaces s1 0 h.BindingIdent
      (h.Ident 0 x ctxt role ∷ h.Close ∷ (default ++ h.Close ∷ tail)) at1 clear1
      (λ ins by it. pattern_notable it) in
      let s2 : Spot = spot-in s1 0 h.BindingIdent in
      let s4 : Spot = past (past s2 (h.Ident 0 x ctxt role)) h.Close in
      let at4 =
      at-past h.Close (default ++ h.Close ∷ tail)
      (at-past (h.Ident 0 x ctxt role) (h.Close ∷ (default ++ h.Close ∷ tail))
      (at-past (h.Open 0 h.BindingIdent)
      (h.Ident 0 x ctxt role ∷ h.Close ∷ (default ++ h.Close ∷ tail)) at1)) in
      let its_name : Occurrence = occurrence_here s2 0 x ctxt role in
      let both =
      subst (λ l. AgreeInTurn sense inner (l ++ os) (note ∷ notes))
      (name_first s2 0 x ctxt role (h.Close ∷ (default ++ h.Close ∷ [])) occurs
      ∙ ap (λ l. its_name ∷ l)
      (occurrences_append s4 default (h.Close ∷ [])
      ∙ append-nil (occurrences_from s4 default)))
      agree in
      let alone =
      alone_there its_name note.meant note.whole
      (none1, (none, clear-field sense.replaced field s.path stands.clear)) both.0 in
      let ih : not (ends_at (slice_get (default ++ h.Close ∷ tail) 0)) ≡ true → Bridged s4 default marks os rest =
      λ has.
      bridge one s4 (h.Close ∷ tail) os at4
      (record
      { object = refl; default = λ is. ap (λ o. not (ends_at o)) (at-get at0 (s.place + 4) 4 refl) ∙ has; clear = clear1 })
      both.1 in
      record {
        agrees =
            by_default (marked_nodes one) tail
            (λ e.
            subst (AgreeInTurn sense inner os) (takes_none one e)
            (subst (λ l. Agree s4 l os notes) e both.1))
            (λ has. let its = ih has in its.agrees);
        gives =
            gives_shorthand sense inner s field x ctxt role (marked_nodes one) tail at0 none none1
            alone.d note.meant alone.denotes alone.means marks
            (λ has. let its = ih has in its.gives);
      }
  bridge (OfReads {meant = meant} {rest = rest} field count inside are) s tail os at stands agree =
      let found = reads_inside field count inside are in
      let its = name_in_node found.reads refl field inside refl s in
      let both =
      subst
      (λ l.
      AgreeInTurn sense inner (l ++ os) (record { meant = meant; whole = Reads count } ∷ rest))
      its.is agree in
      reads_bridged s field count inside os meant rest
      (nodes_in_reads found.reads field inside refl) its.o its.far both.0 both.1
  bridge (OfCall {meant = meant} {rest = rest} field inside are) s tail os at stands agree =
      let found = literal_call inside are in
      let its = name_in_call field inside found refl s in
      let both =
      subst
      (λ l. AgreeInTurn sense inner (l ++ os) (record { meant = meant; whole = Call } ∷ rest))
      its.is agree in
      call_bridged s field inside os meant rest (literal_call_nodes found) its.o its.far both.0
      both.1
  bridge (OfMeta field meant is) s tail os at stands agree =
      let found = replaces.metas s.place field meant (at-get at s.place 0 (omega arith)) is in
      record {
        agrees = agree;
        gives =
            gives_as sense inner refl (ap (λ it. k.Name field it ∷ []) (sym found.1))
            (gives_replaced sense inner s.place field (h.MetaPropExpr p.ImportMeta) []
            (ByName found.0) n.nothing found.2);
      }
