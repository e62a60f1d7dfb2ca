-- The meaning of what a top item states, from notes beside it.
-- What the elements of a statement denote is what its occurrences do.
use Rattle.std.proofs.Common.{◌≡◌, ℕ, suc, ◌+◌, ◌==◌, ◌&&◌, Bool, true, false, List, [], ◌∷◌, ◌++◌, append_assoc, append-nil, length, Option, Some, None, refl, sym, ap, ◌∙◌, arith, cond, map, filter, option_map, ap₂}
use Rattle.std.specs.Prelude.{if◌then◌else◌, fold, slice_get, filter_map, option_and_then}
use Rattle.std.proofs.lemmas.Bool.{false≢true}
use Rattle.std.proofs.lemmas.Option.{none-some}
use Rattle.std.specs.List.{cons_option}
use Rattle.std.proofs.lemmas.List.Elements.{filter_map-append}
use Rattle.bundle_syntax.specs.declared.kind.VarDeclKind.TheVariants.{Const}
use Rattle.bundle_syntax.specs.declared.piece.Role.{Role}
use Rattle.bundle_syntax.specs.Item as h
use Rattle.bundle_syntax.specs.Item.{Item, Head}
use Rattle.bundle_rules.specs.Places.{Around, Spot, Occurrence, in_field as field_in, past, occurrences_from, path_to_option, path_at, occurrence_of, occurrence_at}
use Rattle.bundle_rules.specs.Scopes.{Top}
use Rattle.bundle_rules.specs.Denotes.{Denoted, Bound, denoted_of, denoted_at}
use Rattle.bundle_rules.specs.Nodes.{Text, field_of, without_last, inside}
use Rattle.bundle_rules.specs.Shorthands.{has_default, is_shorthand_in_pattern, is_object}
use Rattle.bundle_rules.specs.Cleared.{cleared_head}
use Rattle.bundle_rules.specs.Marks as k
use Rattle.bundle_rules.specs.Marks.{object_key, begin_marks, name_marks}
use Rattle.bundle_rules.specs.Statements.{Element, taken, written, taken_from, taken_in_field, moved_to, no_notes, default_name, default_binding, default_constant, declaration_head, default_declaration, stated_by, stated}
use Rattle.bundle_rules.specs.Meaning.{Sense, Meant, Mark, Replacement, ByName, ByCall, replacement_marks, plain, NameMeans, Means, finished, replaced, begun, empty, named, word, adds_begin, adds_end, adds_name, View, denoted, is_inside}
use Rattle.bundle_rules.specs.Declarations.{declared}
use Rattle.bundle_tree_places.specs.Edits.{Anywhere, node}
use Rattle.bundle_link.proofs.NodePaths.{spot-in, fold-place}
use Rattle.bundle_link.proofs.StatedElements.{last-off as last_off}
use Rattle.bundle_merge_theory.specs.noted.Nodes as n
use Rattle.bundle_merge_theory.specs.noted.Nodes.{AreNodesInTurn}
use Rattle.bundle_merge_theory.specs.noted.Marked.{Note, node_marks}
use Rattle.bundle_merge_theory.specs.noted.Agrees.{IsSpotAt, IsNotable, AgreeInTurn, IsListing, ReplacesNotable, denoted_here as denotes}
use Rattle.bundle_merge_theory.specs.noted.Stated.{node_in_field, states_itself, is_default_head, declares_default, constant_marks, MarkedStated, Itself, Declared, Value, Named, Nameless}
use Rattle.bundle_merge_theory.proofs.noted.Spots.{fold-path, at-path, at-behind, at-past, at-get, at-spot}
use Rattle.bundle_merge_theory.proofs.noted.Shapes.{marked_nodes}
use Rattle.bundle_merge_theory.proofs.noted.Names.{at_in_node, occurrences_node}
use Rattle.bundle_merge_theory.proofs.noted.Replaces.{other_unreplaced}
use Rattle.bundle_merge_theory.proofs.noted.Inner.{Stands, stands_in, is_moved, begin_plain, means_as, taken_append, Gives, closes_at}
use Rattle.bundle_merge_theory.proofs.noted.Bridge.{agree_in, bridge, marks_to, BeginAlike, both_empty, both_in, from_other_field, alike}

-- ---- the first element in another field
abbrev pub is_in_short : List Around → Bool
is_in_short [] = false
is_in_short (node ∷ outer) = is_shorthand_in_pattern node.head

replaced_to : (field old : ℕ) (by : Replacement) (marks : List Mark) →
    replacement_marks field by ++ marks ≡ marks_to field (replacement_marks old by ++ marks)
replaced_to field old (ByName l) marks = refl
replaced_to field old (ByCall l) marks = refl

begins_to : (tree : List Item) (place field old : ℕ) (path : List Around) (head : Head)
    (marks : List Mark) → is_in_short path ≡ false →
    begin_marks tree place field path head ++ marks
    ≡ marks_to field (begin_marks tree place old path head ++ marks)
begins_to tree place field old path h.AssignPatProp marks moved = refl
begins_to tree place field old [] _ marks moved = refl
begins_to tree place field old (node ∷ outer) head marks moved =
    ap
    (λ b.
    k.Begins
    (if b && (node.field == 0) then (if has_default tree node.begins then 0 else 1) else field)
    (cleared_head head) ∷ marks)
    moved
    ∙ ap
    (λ b.
    marks_to field
    (k.Begins
    (if b && (node.field == 0) then (if has_default tree node.begins then 0 else 1) else old)
    (cleared_head head) ∷ marks))
    (sym moved)

name_to : (field old : ℕ) (path : List Around) (x : Text) (meant : Meant) (marks : List Mark) →
    name_marks field path x meant ++ marks ≡ marks_to field (name_marks old path x meant ++ marks)
name_to field old [] x meant marks = refl
name_to field old (node ∷ outer) x meant marks = by (is_object node.head)
  where
    by : (b : Bool) →
        (if b then k.Begins field h.KeyValueProp
        ∷ (object_key x ++ k.Name 1 meant ∷ k.Ends ∷ []) else k.Name field meant ∷ []) ++ marks
        ≡ marks_to field
        ((if b then k.Begins old h.KeyValueProp
        ∷ (object_key x ++ k.Name 1 meant ∷ k.Ends ∷ []) else k.Name old meant ∷ []) ++ marks)
    by true = refl
    by false = refl

module _ (sense : Sense) (inner : List Denoted) where
  node_to : (place field old : ℕ) (head : Head) (es : List Element) (ms : List Mark) →
      is_in_short (path_at sense.view.tree place) ≡ false →
      Means sense inner (taken place (h.Open old head) ∷ es) ms →
      Means sense inner (taken place (h.Open field head) ∷ es) (marks_to field ms)
  node_to place field old head es ms moved (replaced {marks = marks} by is m) =
      means_as sense inner refl (replaced_to field old by marks) (replaced by is m)
  node_to place field old head es ms moved (begun {marks = marks} none m) =
      means_as sense inner refl
      (begins_to sense.view.tree place field old (path_at sense.view.tree place) head marks moved)
      (begun none m)

  other_to : (place field old ctxt : ℕ) (x : Text) (role : Role) (es : List Element)
      (ms : List Mark) → Means sense inner (taken place (h.Ident old x ctxt role) ∷ es) ms →
      Means sense inner (taken place (h.Ident field x ctxt role) ∷ es) (marks_to field ms)
  other_to place field old ctxt x role es ms (named {marks = marks} d meant denotes means m) =
      means_as sense inner refl (name_to field old (path_at sense.view.tree place) x meant marks)
      (named d meant denotes means m)
  other_to place field old ctxt x role es ms (word m) = word m

  hole_to : (place field old : ℕ) (es : List Element) (ms : List Mark) →
      Means sense inner (taken place (h.Hole old) ∷ es) ms →
      Means sense inner (taken place (h.Hole field) ∷ es) (marks_to field ms)
  hole_to place field old es ms (empty m) = empty m

  first_to : (place field : ℕ) (x : Item) (f : ℕ) → field_of x ≡ Some f →
      (es : List Element) (ms : List Mark) → is_in_short (path_at sense.view.tree place) ≡ false →
      Means sense inner (taken place x ∷ es) ms →
      Means sense inner (taken place (moved_to field x) ∷ es) (marks_to field ms)
  first_to place field (h.Open old head) f e es ms moved m =
      node_to place field old head es ms moved m
  first_to place field (h.Ident old x ctxt role) f e es ms moved m =
      other_to place field old ctxt x role es ms m
  first_to place field (h.Hole old) f e es ms moved m = hole_to place field old es ms m
  first_to place field h.Close f e es ms moved m = absurd (none-some f e)

  -- nodes that mean something mean it in another field too
  nodes_to : (place field : ℕ) {items : List Item} {marks : List Mark} → BeginAlike items marks →
      (es : List Element) (ms : List Mark) → is_in_short (path_at sense.view.tree place) ≡ false →
      Means sense inner (taken_from place items ++ es) (marks ++ ms) →
      Means sense inner (taken_in_field field place items ++ es) (marks_to field marks ++ ms)
  nodes_to place field both_empty es ms moved m = m
  nodes_to place field (both_in {x = x} {mark = mark} {items = items} {marks = marks} f is its) es
      ms moved m =
      first_to place field x f is (taken_from (suc place) items ++ es) (mark ∷ (marks ++ ms)) moved
      m

-- ---- nodes in another field
pub nodes_in : {items : List Item} → AreNodesInTurn items → (field : ℕ) → AreNodesInTurn (node_in_field field items)
nodes_in n.nothing field = n.nothing
nodes_in (n.name it) field = n.name it
nodes_in (n.hole it) field = n.hole it
nodes_in (n.node it more) field = n.node it more

pub nodes_from : (items : List Item) (field : ℕ) → AreNodesInTurn (node_in_field field items) → AreNodesInTurn items
nodes_from [] field nodes = n.nothing
nodes_from (h.Open old head ∷ rest) field nodes = nodes_in nodes old
nodes_from (h.Ident old x ctxt role ∷ rest) field nodes = nodes_in nodes old
nodes_from (h.Hole old ∷ rest) field nodes = nodes_in nodes old
nodes_from (h.Close ∷ rest) field nodes = elim nodes [ ]

-- ---- what a top item states

pub itself_stated : (head : Head) → states_itself head ≡ true → (place : ℕ) (items : List Item) →
    stated_by head place items ≡ taken_from place items ∷ []
itself_stated (h.ImportDecl meta) is place items = absurd (false≢true is)
itself_stated (h.NamedExport meta) is place items = absurd (false≢true is)
itself_stated (h.ExportAll meta) is place items = absurd (false≢true is)
itself_stated h.EmptyStmt is place items = absurd (false≢true is)
itself_stated h.ExportDecl is place items = absurd (false≢true is)
itself_stated h.ExportDefaultExpr is place items = absurd (false≢true is)
itself_stated h.ExportDefaultDecl is place items = absurd (false≢true is)
itself_stated _ is place items = refl

unmoved : (path : List Around) (field : ℕ) → is_in_short path ≡ false →
    is_moved (field_in field path) ≡ false
unmoved [] field e = refl
unmoved (node ∷ outer) field e = ap (λ b. b && (field == 0)) e

-- a function or a class
record IsDefault (head : Head) : Type 0 where
  notable : {meta : Option Meant} (inside : List Item) (by : Replacement) →
      IsNotable meta head inside by → ⊥
  object : is_object head ≡ false
  short : is_shorthand_in_pattern head ≡ false
  declared_short : is_shorthand_in_pattern (declaration_head head) ≡ false

is_default : (head : Head) → is_default_head head ≡ true → IsDefault head
is_default h.FnExpr is =
    record
    { notable = λ inside by it. elim it [ ]; object = refl; short = refl; declared_short = refl }
is_default h.ClassExpr is =
    record
    { notable = λ inside by it. elim it [ ]; object = refl; short = refl; declared_short = refl }
is_default _ is = absurd (false≢true is)

pub one_statement : (one other : List Element) → one ∷ [] ≡ other ∷ [] → one ≡ other
one_statement one other e = cc

module _ (sense : Sense) (inner : List Denoted) (meta : Option Meant) (default : Meant)
    (listing : IsListing sense.view.tree) (replaces : ReplacesNotable sense meta) where
  -- the notes that are left behind it agree, and each statement that it states means its marks
  pub record StatedBridged (s : Spot) (items : List Item) (marks : List Mark)
      (os : List Occurrence) (rest : List Note) : Type 0 where
    pub agrees : AgreeInTurn sense inner os rest
    pub means : (statement : List Element) → stated s.place items ≡ statement ∷ [] →
        Means sense inner statement marks

  -- in a top item
  stands_inside : (s : Spot) (field : ℕ) (head : Head) (rest : List Item) →
      IsSpotAt sense.view.tree s (h.Open field head ∷ rest) → Stands sense Anywhere s →
      ((inside : List Item) (by : Replacement) → IsNotable meta head inside by → ⊥) →
      is_object head ≡ false → is_shorthand_in_pattern head ≡ false →
      Stands sense Anywhere (spot-in s field head)
  stands_inside s field head rest at stands notable object short =
      stands_in s Anywhere field head stands
      (other_unreplaced sense inner listing meta replaces s field head rest at stands.clear
      notable)
      object short

  -- `const default = e;`
  constant_means : (place : ℕ) (value : List Item) (marks : List Mark) →
      NameMeans sense inner (Bound Top (plain default_name)) default →
      Means sense inner (taken_in_field 1 place value ++ (written h.Close ∷ written h.Close ∷ []))
      (marks ++ (k.Ends ∷ k.Ends ∷ [])) →
      Means sense inner (default_constant place value) (constant_marks default marks)
  constant_means place value marks default_means m =
      means_as sense inner refl
      (ap
      (λ l.
      k.Begins 0 (h.VarDecl Const no_notes) ∷ k.Begins 1 h.VarDeclarator
      ∷ k.Begins 0 h.BindingIdent ∷ k.Name 0 default ∷ k.Ends ∷ l)
      (sym (append_assoc marks (k.Ends ∷ []) (k.Ends ∷ []))))
      (adds_begin (adds_begin (adds_begin (adds_name default default_means (adds_end m)))))

  value_means : (s : Spot) (value tail : List Item) (there marks : List Mark) → AreNodesInTurn value →
      IsSpotAt sense.view.tree s (value ++ tail) → is_in_short s.path ≡ false →
      BeginAlike value there → marks_to 1 there ≡ marks → Gives sense inner s.place value there →
      NameMeans sense inner (Bound Top (plain default_name)) default →
      Means sense inner (default_constant s.place value) (constant_marks default marks)
  value_means s value tail there marks nodes at short alike back gives default_means =
      constant_means s.place value marks default_means (means_as sense inner refl (ap (λ l. l ++ (k.Ends ∷ k.Ends ∷ [])) back)
      (nodes_to sense inner s.place 1 alike (written h.Close ∷ written h.Close ∷ []) (k.Ends ∷ k.Ends ∷ []) in_short
      (gives.before (written h.Close ∷ written h.Close ∷ []) (k.Ends ∷ k.Ends ∷ []) (adds_end (adds_end finished)))))
    where
      on : (path : List Around) (x : Option Item) → is_in_short path ≡ false →
          is_in_short (path_to_option path x) ≡ false
      on [] None e = e
      on (node ∷ outer) None e = e
      on [] (Some (h.Open field head)) e = e
      on (node ∷ outer) (Some (h.Open field head)) e = e
      on [] (Some (h.Ident field x ctxt role)) e = e
      on (node ∷ outer) (Some (h.Ident field x ctxt role)) e = e
      on [] (Some (h.Hole field)) e = e
      on (node ∷ outer) (Some (h.Hole field)) e = e
      on [] (Some h.Close) e = e
      on (node ∷ outer) (Some h.Close) e = e

      in_short : is_in_short (path_at sense.view.tree s.place) ≡ false
      in_short = ap is_in_short (at-path at) ∙ on s.path (slice_get (value ++ tail) 0) short

  -- a default function or class: its beginning, what stands in it, its end
  declared_means : (s : Spot) (its : ℕ) (head : Head) (body tail : List Item)
      (between : List Element) (names marks : List Mark) → IsDefault head → AreNodesInTurn body →
      IsSpotAt sense.view.tree s (node its head body ++ tail) → Stands sense Anywhere s →
      is_in_short s.path ≡ false → Gives sense inner (spot-in s its head).place body marks →
      ((es : List Element) (ms : List Mark) → Means sense inner es ms →
      Means sense inner (between ++ es) (names ++ ms)) →
      Means sense inner
      (taken s.place (h.Open 0 (declaration_head head))
      ∷ (between ++ taken_from (suc s.place) (body ++ h.Close ∷ [])))
      (node_marks 0 (declaration_head head) (names ++ marks))
  declared_means s its head body tail between names marks facts nodes at stands short gives adds =
      let in_it : Spot = spot-in s its head in
      let place : s.place + 1 ≡ suc s.place = omega arith in
      let behind = at-behind body (h.Close ∷ tail) (at_in_node its head body tail at) in
      let path = fold-path nodes in_it in
      let far : s.place + 1 + length body ≡ (fold past in_it body).place =
      sym (fold-place in_it body) in
      let closes =
      closes_at sense inner (fold past in_it body) tail head s.place path.0
      (field_in its s.path) behind far path.1 facts.short in
      let body_means =
      gives.before (taken (s.place + 1 + length body) h.Close ∷ []) (k.Ends ∷ [])
      (closes.before [] [] finished) in
      let as_items : taken_from (s.place + 1) body ++ (taken (s.place + 1 + length body) h.Close ∷ []) ≡ taken_from (suc s.place) (body ++ h.Close ∷ []) =
      sym (taken_append (s.place + 1) body (h.Close ∷ []) [])
      ∙ append-nil (taken_from (s.place + 1) (body ++ h.Close ∷ []))
      ∙ ap (λ p. taken_from p (body ++ h.Close ∷ [])) place in
      let inside =
      adds (taken_from (suc s.place) (body ++ h.Close ∷ [])) (marks ++ k.Ends ∷ [])
      (means_as sense inner as_items refl body_means) in
      let none =
      other_unreplaced sense inner listing meta replaces s its head
      ((body ++ h.Close ∷ []) ++ tail) at stands.clear facts.notable in
      let begins : begin_marks {N = Meant} sense.view.tree s.place 0 (path_at sense.view.tree s.place) (declaration_head head) ≡ k.Begins 0 (cleared_head (declaration_head head)) ∷ [] =
      ap (λ p. begin_marks sense.view.tree s.place 0 p (declaration_head head)) (at-path at)
      ∙ begin_plain sense.view.tree s.place 0 (field_in its s.path) (declaration_head head)
      facts.declared_short (unmoved s.path its short) in
      means_as sense inner refl
      (ap (λ l. l ++ (names ++ (marks ++ k.Ends ∷ []))) begins
      ∙ ap (λ l. k.Begins 0 (cleared_head (declaration_head head)) ∷ l)
      (sym (append_assoc names marks (k.Ends ∷ []))))
      (begun {place = s.place} {field = 0} {head = declaration_head head} none inside)

  pub stated_bridge : {notes rest : List Note} {items : List Item} {marks : List Mark} →
      MarkedStated meta default notes items marks rest →
      (s : Spot) (tail : List Item) (os : List Occurrence) →
      IsSpotAt sense.view.tree s (items ++ tail) → Stands sense Anywhere s →
      AgreeInTurn sense inner (occurrences_from s items ++ os) notes →
      (declares_default items ≡ true →
      NameMeans sense inner (Bound Top (plain default_name)) default) →
      StatedBridged s items marks os rest
  stated_bridge (Itself {marks = marks} field head inside is marked) s tail os at stands agree
      default_means =
      let its = bridge sense inner meta listing replaces marked s tail os at stands agree in
      record {
        agrees = its.agrees;
        means = λ statement e.
            let same =
            one_statement (taken_from s.place (node field head inside)) statement
            (sym (itself_stated head is s.place (node field head inside)) ∙ e) in
            means_as sense inner (append-nil (taken_from s.place (node field head inside)) ∙ same)
            (append-nil marks) (its.gives.before [] [] finished);
      }
  stated_bridge (Declared {rest = rest} {marks = marks} field inside marked) s tail os at stands
      agree default_means =
      let s1 : Spot = spot-in s field h.ExportDecl in
      let its =
      bridge sense inner meta listing replaces marked s1 (h.Close ∷ tail) os
      (at_in_node field h.ExportDecl inside tail at)
      (stands_inside s field h.ExportDecl ((inside ++ h.Close ∷ []) ++ tail) at stands
      (λ ins by it. elim it [ ]) refl refl)
      (agree_in sense inner meta listing replaces s field h.ExportDecl inside os _ agree) in
      record {
        agrees = its.agrees;
        means = λ statement e.
            let place : s.place + 1 ≡ suc s.place = omega arith in
            let same =
            one_statement (taken_from (suc s.place) (without_last (inside ++ h.Close ∷ [])))
            statement e in
            means_as sense inner
            (append-nil (taken_from (s.place + 1) inside)
            ∙ ap (λ p. taken_from p inside) place
            ∙ ap (taken_from (suc s.place)) (sym (last_off inside h.Close))
            ∙ same)
            (append-nil marks) (its.gives.before [] [] finished);
      }
  stated_bridge (Value {rest = rest} {marks = marks} field value marked) s tail os at stands agree
      default_means =
      let s1 : Spot = spot-in s field h.ExportDefaultExpr in
      let at1 = at_in_node field h.ExportDefaultExpr value tail at in
      let nodes = nodes_from value 1 (marked_nodes marked) in
      let other = from_other_field 1 nodes marked in
      let its =
      bridge sense inner meta listing replaces other.marked s1 (h.Close ∷ tail) os at1
      (stands_inside s field h.ExportDefaultExpr ((value ++ h.Close ∷ []) ++ tail) at stands
      (λ ins by it. elim it [ ]) refl refl)
      (agree_in sense inner meta listing replaces s field h.ExportDefaultExpr value os _
      agree) in
      let m =
      value_means s1 value (h.Close ∷ tail) other.there marks nodes at1 refl
      (alike other.marked) other.back its.gives (default_means refl) in
      record {
        agrees = its.agrees;
        means = λ statement e.
            let place : s.place + 1 ≡ suc s.place = omega arith in
            let same =
            one_statement
            (default_constant (suc s.place) (without_last (value ++ h.Close ∷ []))) statement
            e in
            means_as sense inner
            (ap (λ p. default_constant p value) place
            ∙ ap (default_constant (suc s.place)) (sym (last_off value h.Close))
            ∙ same)
            refl m;
      }
  stated_bridge
      (Named {notes = notes} {rest = rest} {marks = marks} field its head own x ctxt role more is
      marked)
      s tail os at stands agree default_means =
      let body : List Item = h.Ident own x ctxt role ∷ more in
      let facts = is_default head is in
      let s1 : Spot = spot-in s field h.ExportDefaultDecl in
      let at1 = at_in_node field h.ExportDefaultDecl (node its head body) tail at in
      let stands1 =
      stands_inside s field h.ExportDefaultDecl ((node its head body ++ h.Close ∷ []) ++ tail)
      at stands (λ ins by it. elim it [ ]) refl refl in
      let agree1 =
      agree_in sense inner meta listing replaces s field h.ExportDefaultDecl
      (node its head body) os notes agree in
      let stands2 =
      stands_inside s1 its head ((body ++ h.Close ∷ []) ++ h.Close ∷ tail) at1 stands1
      facts.notable facts.object facts.short in
      let one =
      bridge sense inner meta listing replaces marked (spot-in s1 its head)
      (h.Close ∷ (h.Close ∷ tail)) os (at_in_node its head body (h.Close ∷ tail) at1) stands2
      (agree_in sense inner meta listing replaces s1 its head body os notes agree1) in
      let m =
      declared_means s1 its head body (h.Close ∷ tail) [] [] marks facts (marked_nodes marked)
      at1 stands1 refl one.gives (λ es ms m. m) in
      record {
        agrees = one.agrees;
        means = λ statement e.
            let place : s.place + 1 ≡ suc s.place = omega arith in
            let same =
            one_statement
            (default_declaration (suc s.place)
            (without_last (node its head body ++ h.Close ∷ [])))
            statement e in
            means_as sense inner
            (ap (λ p. default_declaration p (node its head body)) place
            ∙ ap (default_declaration (suc s.place))
            (sym (last_off (node its head body) h.Close))
            ∙ same)
            refl m;
      }
  stated_bridge
      (Nameless {notes = notes} {rest = rest} {marks = marks} field its head own first more is
      marked)
      s tail os at stands agree default_means =
      let body : List Item = h.Open own first ∷ more in
      let facts = is_default head is in
      let s1 : Spot = spot-in s field h.ExportDefaultDecl in
      let at1 = at_in_node field h.ExportDefaultDecl (node its head body) tail at in
      let stands1 =
      stands_inside s field h.ExportDefaultDecl ((node its head body ++ h.Close ∷ []) ++ tail)
      at stands (λ ins by it. elim it [ ]) refl refl in
      let agree1 =
      agree_in sense inner meta listing replaces s field h.ExportDefaultDecl
      (node its head body) os notes agree in
      let stands2 =
      stands_inside s1 its head ((body ++ h.Close ∷ []) ++ h.Close ∷ tail) at1 stands1
      facts.notable facts.object facts.short in
      let one =
      bridge sense inner meta listing replaces marked (spot-in s1 its head)
      (h.Close ∷ (h.Close ∷ tail)) os (at_in_node its head body (h.Close ∷ tail) at1) stands2
      (agree_in sense inner meta listing replaces s1 its head body os notes agree1) in
      let m =
      declared_means s1 its head body (h.Close ∷ tail) (default_binding ∷ [])
      (k.Name 0 default ∷ []) marks facts (marked_nodes marked) at1 stands1 refl one.gives
      (λ es ms m. adds_name default (default_means refl) m) in
      record {
        agrees = one.agrees;
        means = λ statement e.
            let place : s.place + 1 ≡ suc s.place = omega arith in
            let same =
            one_statement
            (default_declaration (suc s.place)
            (without_last (node its head body ++ h.Close ∷ [])))
            statement e in
            means_as sense inner
            (ap (λ p. default_declaration p (node its head body)) place
            ∙ ap (default_declaration (suc s.place))
            (sym (last_off (node its head body) h.Close))
            ∙ same)
            refl m;
      }

-- ---- denoted
pub occurrence_there : {tree : List Item} {s : Spot} {x : Item} {rest : List Item} →
    IsSpotAt tree s (x ∷ rest) → occurrence_at tree s.place ≡ occurrence_of s x
occurrence_there {tree = tree} {s = s} {x = x} at =
    ap (λ t. option_and_then (occurrence_of t) (slice_get tree s.place)) (at-spot at)
    ∙ ap (option_and_then (occurrence_of s)) (at-get at s.place 0 (omega arith))

map-cons : {A B : Type 0} (f : A → B) (o : Option A) (xs : List A) →
    map f (cons_option o xs) ≡ cons_option (option_map f o) (map f xs)
map-cons f None xs = refl
map-cons f (Some x) xs = refl

pub denoted_elements : (view : View) (s : Spot) (items tail : List Item) →
    IsSpotAt view.tree s (items ++ tail) →
    filter_map (denoted view) (taken_from s.place items)
    ≡ map (denotes view) (occurrences_from s items)
denoted_elements view s [] tail at = refl
denoted_elements view s (x ∷ items) tail at =
    let next : suc s.place ≡ s.place + 1 = omega arith in
    ap₂ cons_option
    (ap (option_map (denotes view)) (occurrence_there at))
    (ap (λ p. filter_map (denoted view) (taken_from p items)) next
    ∙ denoted_elements view (past s x) items tail (at-past x (items ++ tail) at))
    ∙ sym (map-cons (denotes view) (occurrence_of s x) (occurrences_from (past s x) items))

-- ---- a statement of a module
field_denotes : (view : View) (field place : ℕ) (items : List Item) →
    filter_map (denoted view) (taken_in_field field place items)
    ≡ filter_map (denoted view) (taken_from place items)
field_denotes view field place [] = refl
field_denotes view field place (x ∷ items) = refl

without_top : (start : ℕ) (o : Option Denoted) (d : Denoted) (ds : List Denoted) →
    is_inside start d ≡ false →
    filter (is_inside start) (cons_option o (d ∷ ds)) ≡ filter (is_inside start) (cons_option o ds)
without_top start None d ds out =
    ap (λ b. cond b (d ∷ filter (is_inside start) ds) (filter (is_inside start) ds)) out
without_top start (Some e) d ds out =
    ap (λ l. cond (is_inside start e) (e ∷ l) l)
    (ap (λ b. cond b (d ∷ filter (is_inside start) ds) (filter (is_inside start) ds)) out)

-- what is denoted inside a statement, by the occurrences of its top item
abbrev pub DenotesInside : View → ℕ → Spot → List Item → List Element → Type 0
DenotesInside view start s items statement =
    filter (is_inside start) (filter_map (denoted view) statement)
    ≡ filter (is_inside start) (map (denotes view) (occurrences_from s items))

pub stated_denotes : {meta : Option Meant} {default : Meant} {notes rest : List Note}
    {items : List Item} {marks : List Mark} → MarkedStated meta default notes items marks rest →
    (view : View) (start : ℕ) (s : Spot) (tail : List Item) → IsSpotAt view.tree s (items ++ tail) →
    (statement : List Element) → stated s.place items ≡ statement ∷ [] →
    DenotesInside view start s items statement
stated_denotes (Itself field head inside is marked) view start s tail at statement e =
    let same =
    one_statement (taken_from s.place (node field head inside)) statement
    (sym (itself_stated head is s.place (node field head inside)) ∙ e) in
    ap (λ l. filter (is_inside start) (filter_map (denoted view) l)) (sym same)
    ∙ ap (filter (is_inside start)) (denoted_elements view s (node field head inside) tail at)
stated_denotes (Declared field inside marked) view start s tail at statement e =
    let place : suc s.place ≡ s.place + 1 = omega arith in
    let same =
    one_statement (taken_from (suc s.place) (without_last (inside ++ h.Close ∷ []))) statement
    e in
    ap (λ l. filter (is_inside start) (filter_map (denoted view) l))
    (sym same
    ∙ ap (taken_from (suc s.place)) (last_off inside h.Close)
    ∙ ap (λ p. taken_from p inside) place)
    ∙ ap (filter (is_inside start))
    (denoted_elements view (spot-in s field h.ExportDecl) inside (h.Close ∷ tail)
    (at_in_node field h.ExportDecl inside tail at))
    ∙ ap (λ l. filter (is_inside start) (map (denotes view) l))
    (sym (occurrences_node s field h.ExportDecl inside))
stated_denotes (Value field value marked) view start s tail at statement e =
    let place : suc s.place ≡ s.place + 1 = omega arith in
    let same =
    one_statement (default_constant (suc s.place) (without_last (value ++ h.Close ∷ [])))
    statement e in
    ap (λ l. filter (is_inside start) (filter_map (denoted view) l))
    (sym same
    ∙ ap (default_constant (suc s.place)) (last_off value h.Close)
    ∙ ap (λ p. default_constant p value) place)
    ∙ ap (filter (is_inside start)) (
    filter_map-append (denoted view) (taken_in_field 1 (s.place + 1) value)
    (written h.Close ∷ written h.Close ∷ [])
    ∙ append-nil (filter_map (denoted view) (taken_in_field 1 (s.place + 1) value))
    ∙ field_denotes view 1 (s.place + 1) value
    ∙ denoted_elements view (spot-in s field h.ExportDefaultExpr) value (h.Close ∷ tail) (at_in_node field h.ExportDefaultExpr value tail at))
    ∙ ap (λ l. filter (is_inside start) (map (denotes view) l))
    (sym (occurrences_node s field h.ExportDefaultExpr value))
stated_denotes (Named field its head own x ctxt role more is marked) view start s tail at statement
    e =
    let declaration : List Item = node its head (h.Ident own x ctxt role ∷ more) in
    let place : suc s.place ≡ s.place + 1 = omega arith in
    let same =
    one_statement
    (default_declaration (suc s.place) (without_last (declaration ++ h.Close ∷ []))) statement
    e in
    ap (λ l. filter (is_inside start) (filter_map (denoted view) l))
    (sym same
    ∙ ap (default_declaration (suc s.place)) (last_off declaration h.Close)
    ∙ ap (λ p. default_declaration p declaration) place)
    ∙ ap (filter (is_inside start))
    (denoted_elements view (spot-in s field h.ExportDefaultDecl) declaration (h.Close ∷ tail)
    (at_in_node field h.ExportDefaultDecl declaration tail at))
    ∙ ap (λ l. filter (is_inside start) (map (denotes view) l))
    (sym (occurrences_node s field h.ExportDefaultDecl declaration))
stated_denotes (Nameless field its head own first more is marked) view start s tail at statement e =
    let declaration : List Item = node its head (h.Open own first ∷ more) in
    let place : suc s.place ≡ s.place + 1 = omega arith in
    let same =
    one_statement
    (default_declaration (suc s.place) (without_last (declaration ++ h.Close ∷ []))) statement
    e in
    ap (λ l. filter (is_inside start) (filter_map (denoted view) l))
    (sym same
    ∙ ap (default_declaration (suc s.place)) (last_off declaration h.Close)
    ∙ ap (λ p. default_declaration p declaration) place)
    ∙ without_top start (denoted_at view.reading view.kind view.tree (s.place + 1))
    (Bound Top (plain default_name))
    (filter_map (denoted view)
    (taken_from (suc (s.place + 1)) ((h.Open own first ∷ more) ++ h.Close ∷ [])))
    refl
    ∙ ap (filter (is_inside start))
    (denoted_elements view (spot-in s field h.ExportDefaultDecl) declaration (h.Close ∷ tail)
    (at_in_node field h.ExportDefaultDecl declaration tail at))
    ∙ ap (λ l. filter (is_inside start) (map (denotes view) l))
    (sym (occurrences_node s field h.ExportDefaultDecl declaration))
