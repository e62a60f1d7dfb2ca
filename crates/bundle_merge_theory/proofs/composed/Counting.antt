-- How many names and how many nodes stand in what is marked, by its notes and by its marks.
-- Lists that are the same but for notes, and for names: their parts, nodes and how many there are.
use Rattle.std.proofs.Common.{◌≡◌, ℕ, zero, suc, ◌+◌, Bool, true, false, List, [], ◌∷◌, ◌++◌, None, append_assoc, append-nil, length, refl, ap, sym, ◌∙◌, subst, arith, map, ap₂}
use Rattle.std.specs.Prelude.{bytes_eq, codes, if◌then◌else◌}
use Rattle.std.proofs.lemmas.Bool.{false≢true, true≢false}
use Rattle.std.proofs.lemmas.Option.{none-some}
use Rattle.std.specs.List.{AllZip}
use Rattle.bundle_syntax.specs.declared.piece.Role.{Role}
use Rattle.bundle_syntax.specs.Item as h
use Rattle.bundle_syntax.specs.Item.{Item, Head}
use Rattle.bundle_syntax.specs.declared.piece.Role.TheVariants as r
use Rattle.bundle_rules.specs.Nodes.{Text}
use Rattle.bundle_rules.specs.Marks
use Rattle.bundle_rules.specs.Marks.{word_key, computed_key, object_key}
use Rattle.bundle_rules.specs.Meaning.{Meant, Mark}
use Rattle.bundle_rules.specs.Cleared.{cleared_head, cleared, without_note, without_notes}
use Rattle.bundle_rules.specs.Sorting.{flat}
use Rattle.bundle_tree_places.specs.Edits.{Around, Anywhere, InObject, InSpecifier, node, is_occurrence, binding}
use Rattle.bundle_link.proofs.ClearedNodes.{cleared-append}
use Rattle.bundle_merge_theory.specs.noted.Nodes as nodes
use Rattle.bundle_merge_theory.specs.noted.Nodes.{AreNodesInTurn}
use Rattle.bundle_merge_theory.specs.noted.Marked as in_marked
use Rattle.bundle_merge_theory.specs.noted.Marked.{Note, Marked, node_marks, marks_there, pattern_marks, shorthand_marks}
use Rattle.bundle_merge_theory.specs.walked.Names.{idents_among}
use Rattle.bundle_merge_theory.specs.walked.Renaming.{AreAlone, ItemMeaning, HasMarks}
use Rattle.bundle_merge_theory.specs.walked.Keeps.{notes_alone}
use Rattle.bundle_merge_theory.proofs.walked.Renaming.{alone_left, alone_alone}
use Rattle.bundle_merge_theory.specs.joined.Joined.{IsWholeItem, joined_items}
use Rattle.bundle_merge_theory.specs.joined.Picked.{IsSingle}
use Rattle.bundle_merge_theory.proofs.joined.Notes.{whole-node}
use Rattle.bundle_merge_theory.proofs.joined.Theorem.{single-name, single-hole, single-node}
use Rattle.bundle_merge_theory.proofs.walked.Clearing.{marked-cleared, items-cleared, noted, close_is, nothing_of as none_is}
use Rattle.bundle_merge_theory.proofs.composed.Among.{names-append}
pub use Rattle.bundle_merge_theory.specs.composed.Single.{nodes_in}
use Rattle.bundle_merge_theory.specs.composed.Noted.{NotedItem, AsWhole, AsFunction, function_ends}
use Rattle.bundle_merge_theory.proofs.composed.Fronts.{blank, blanks, blanks-notes, blanks-cleared}
use Rattle.bundle_merge_theory.proofs.composed.Remade.{Remade, remade_whole, remade_function, AllRemade}

-- ---- counting

-- Names.

name-one : (field : ℕ) (x : Text) (c : ℕ) (role : Role) (rest : List Item) →
    is_occurrence role ≡ true →
    length (idents_among (h.Ident field x c role ∷ rest)) ≡ suc (length (idents_among rest))
name-one field x c r.Word rest is = absurd (false≢true is)
name-one field x c r.Binding rest is = refl
name-one field x c r.Reference rest is = refl

word-none : (field : ℕ) (x : Text) (c : ℕ) (role : Role) → is_occurrence role ≡ false →
    length (idents_among (h.Ident field x c role ∷ [])) ≡ 0
word-none field x c r.Word is = refl
word-none field x c r.Binding is = absurd (true≢false is)
word-none field x c r.Reference is = absurd (true≢false is)

node-names : (field : ℕ) (head : Head) (inside : List Item) →
    length (idents_among (node field head inside)) ≡ length (idents_among inside)
node-names field head inside = let both = names-append inside (h.Close ∷ []) in omega (arith, both)

-- each name of what is marked has a note, where all stand for themselves alone
pub marked-names : {around : Around} {notes rest : List Note} {items : List Item}
    {marks : List Mark} → Marked None around notes items marks rest → AreAlone notes →
    length (idents_among items) + length rest ≡ length notes
marked-names in_marked.Nothing its = omega arith
marked-names (in_marked.Joined {first = first} {second = second} one two) its =
    let a = marked-names one its in
    let b = marked-names two (alone_left one its) in
    let both = names-append first second in
    omega (arith, a, b, both)
marked-names (in_marked.Hole field) its = omega arith
marked-names (in_marked.Word field x c role is) its =
    let none = word-none field x c role is in omega (arith, none)
marked-names (in_marked.Name around field x c role is) its =
    let one = name-one field x c role [] is in omega (arith, one)
marked-names (in_marked.Inside field head {inside = inside} stays one) its =
    let a = marked-names one its in let n = node-names field head inside in omega (arith, a, n)
marked-names (in_marked.Kept field head first {inside = inside} {more = more} keeps one two) its =
    let a = marked-names one its in
    let b = marked-names two (alone_left one its) in
    let whole = node-names field head (node first h.MemberExpr inside ++ more) in
    let both = names-append (node first h.MemberExpr inside) more in
    let n = node-names first h.MemberExpr inside in
    omega (arith, a, b, whole, both, n)
marked-names (in_marked.Shorthand field x c role {default = default} is one) its =
    let a = marked-names one its.1 in
    let whole = node-names field h.AssignPatProp (binding None 0 x c role ++ default) in
    let both = names-append (binding None 0 x c role) default in
    let first = name-one 0 x c role (h.Close ∷ []) is in
    omega (arith, a, whole, both, first)
marked-names (in_marked.OfReads field count inside is) its = let e = its.0 in absurd cc
marked-names (in_marked.OfCall field inside is) its = let e = its.0 in absurd cc
marked-names (in_marked.OfMeta field meant is) its = absurd (none-some meant is)

length-alone : (meants : List Meant) → length (notes_alone meants) ≡ length meants
length-alone [] = refl
length-alone (meant ∷ meants) = ap suc (length-alone meants)

pub told-names : (item : List Item) (told : ItemMeaning) → HasMarks item told →
    length (idents_among item) ≡ length told.0
told-names item told marked =
    let a = marked-names marked (alone_alone told.0) in
    let b = length-alone told.0 in omega (arith, a, b)

-- Nodes.

abbrev pub marks_in : ℕ → List Mark → ℕ
marks_in depth [] = 0
marks_in depth (Marks.Begins field head ∷ rest) = marks_in (suc depth) rest
marks_in zero (Marks.Empty field ∷ rest) = suc (marks_in zero rest)
marks_in (suc depth) (Marks.Empty field ∷ rest) = marks_in (suc depth) rest
marks_in zero (Marks.Name field meant ∷ rest) = suc (marks_in zero rest)
marks_in (suc depth) (Marks.Name field meant ∷ rest) = marks_in (suc depth) rest
marks_in zero (Marks.Word field x ∷ rest) = suc (marks_in zero rest)
marks_in (suc depth) (Marks.Word field x ∷ rest) = marks_in (suc depth) rest
marks_in zero (Marks.Ends ∷ rest) = 0
marks_in (suc zero) (Marks.Ends ∷ rest) = suc (marks_in zero rest)
marks_in (suc (suc depth)) (Marks.Ends ∷ rest) = marks_in (suc depth) rest

-- so many nodes stand there, whatever follows
pub record AreSoMany (n : ℕ) (items : List Item) : Type 0 where
  pub here : (more : List Item) → nodes_in 0 (items ++ more) ≡ n + nodes_in 0 more
  pub within : (depth : ℕ) (more : List Item) →
      nodes_in (suc depth) (items ++ more) ≡ nodes_in (suc depth) more

pub record HaveSoMany (n : ℕ) (marks : List Mark) : Type 0 where
  pub here : (more : List Mark) → marks_in 0 (marks ++ more) ≡ n + marks_in 0 more
  pub within : (depth : ℕ) (more : List Mark) →
      marks_in (suc depth) (marks ++ more) ≡ marks_in (suc depth) more

items-both : {n m : ℕ} (xs ys : List Item) → AreSoMany n xs → AreSoMany m ys →
    AreSoMany (n + m) (xs ++ ys)
items-both xs ys one two = record {
  here =
      λ more. let a = one.here (ys ++ more) in let b = two.here more in let e = ap (nodes_in 0)
      (append_assoc xs ys more) in omega (arith, a, b, e);
  within =
      λ depth more. ap (nodes_in (suc depth)) (append_assoc xs ys more)
      ∙ one.within depth (ys ++ more)
      ∙ two.within depth more;
}

marks-both : {n m : ℕ} (xs ys : List Mark) → HaveSoMany n xs → HaveSoMany m ys →
    HaveSoMany (n + m) (xs ++ ys)
marks-both xs ys one two = record {
  here =
      λ more. let a = one.here (ys ++ more) in let b = two.here more in let e = ap (marks_in 0)
      (append_assoc xs ys more) in omega (arith, a, b, e);
  within =
      λ depth more. ap (marks_in (suc depth)) (append_assoc xs ys more)
      ∙ one.within depth (ys ++ more)
      ∙ two.within depth more;
}

pub item-node : {n : ℕ} (field : ℕ) (head : Head) (inside : List Item) → AreSoMany n inside →
    AreSoMany 1 (node field head inside)
item-node field head inside one = record {
  here =
      λ more. let e = ap (nodes_in 1) (append_assoc inside (h.Close ∷ []) more)
      ∙ one.within 0 (h.Close ∷ more) in omega (arith, e);
  within =
      λ depth more. ap (nodes_in (suc (suc depth))) (append_assoc inside (h.Close ∷ []) more)
      ∙ one.within (suc depth) (h.Close ∷ more);
}

mark-node : {n : ℕ} (field : ℕ) (head : Head) (inside : List Mark) → HaveSoMany n inside →
    HaveSoMany 1 (Marks.Begins field head ∷ (inside ++ Marks.Ends ∷ []))
mark-node field head inside one = record {
  here =
      λ more. let e = ap (marks_in 1) (append_assoc inside (Marks.Ends ∷ []) more)
      ∙ one.within 0 (Marks.Ends ∷ more) in omega (arith, e);
  within =
      λ depth more. ap (marks_in (suc (suc depth))) (append_assoc inside (Marks.Ends ∷ []) more)
      ∙ one.within (suc depth) (Marks.Ends ∷ more);
}

marks-none : HaveSoMany 0 []
marks-none = record { here = λ more. omega arith; within = λ depth more. refl }

items-none : AreSoMany 0 []
items-none = record { here = λ more. omega arith; within = λ depth more. refl }

mark-name : (field : ℕ) (meant : Meant) → HaveSoMany 1 (Marks.Name field meant ∷ [])
mark-name field meant = record { here = λ more. omega arith; within = λ depth more. refl }

item-name : (field : ℕ) (x : Text) (c : ℕ) (role : Role) → AreSoMany 1 (h.Ident field x c role ∷ [])
item-name field x c role = record { here = λ more. omega arith; within = λ depth more. refl }

key-one : (b : Bool) (x : Text) → HaveSoMany 1 (if b then computed_key x else word_key x)
key-one true x = record { here = λ more. omega arith; within = λ depth more. refl }
key-one false x = record { here = λ more. omega arith; within = λ depth more. refl }

word-one : (x : Text) → HaveSoMany 1 (word_key x)
word-one x = record { here = λ more. omega arith; within = λ depth more. refl }

pattern-one : (field : ℕ) (meant : Meant) → HaveSoMany 1 (pattern_marks field meant)
pattern-one field meant = record { here = λ more. omega arith; within = λ depth more. refl }

name-mark : (around : Around) (field : ℕ) (x : Text) (meant : Meant) →
    HaveSoMany 1 (marks_there around field x meant)
name-mark Anywhere field x meant = mark-name field meant
name-mark InSpecifier field x meant = mark-name field meant
name-mark InObject field x meant =
    subst (λ l. HaveSoMany 1 (Marks.Begins field h.KeyValueProp ∷ l))
    (append_assoc (object_key x) (Marks.Name 1 meant ∷ []) (Marks.Ends ∷ []))
    (mark-node field h.KeyValueProp (object_key x ++ Marks.Name 1 meant ∷ [])
    (marks-both (object_key x) (Marks.Name 1 meant ∷ [])
    (key-one (bytes_eq x (codes "__proto__")) x) (mark-name 1 meant)))

short-marks : {n : ℕ} (field : ℕ) (x : Text) (meant : Meant) (default : List Item)
    (marks : List Mark) → HaveSoMany n marks →
    HaveSoMany 1 (shorthand_marks field x meant default marks)
short-marks field x meant [] marks many =
    subst (λ l. HaveSoMany 1 (Marks.Begins field h.KeyValuePatProp ∷ l))
    (append_assoc (word_key x) (pattern_marks 1 meant) (Marks.Ends ∷ []))
    (mark-node field h.KeyValuePatProp (word_key x ++ pattern_marks 1 meant)
    (marks-both (word_key x) (pattern_marks 1 meant) (word-one x) (pattern-one 1 meant)))
short-marks field x meant (first ∷ more) marks many =
    let inner : List Mark =
    Marks.Begins 1 h.AssignPat ∷ ((pattern_marks 0 meant ++ marks) ++ Marks.Ends ∷ []) in
    let inner_is : inner ++ Marks.Ends ∷ [] ≡ Marks.Begins 1 h.AssignPat ∷
    (pattern_marks 0 meant ++ (marks ++ Marks.Ends ∷ Marks.Ends ∷ [])) =
    ap (λ l. Marks.Begins 1 h.AssignPat ∷ l)
    (append_assoc (pattern_marks 0 meant ++ marks) (Marks.Ends ∷ []) (Marks.Ends ∷ [])
    ∙ append_assoc (pattern_marks 0 meant) marks (Marks.Ends ∷ Marks.Ends ∷ [])) in
    subst (λ l. HaveSoMany 1 (Marks.Begins field h.KeyValuePatProp ∷ l))
    (append_assoc (word_key x) inner (Marks.Ends ∷ []) ∙ ap (λ l. word_key x ++ l) inner_is)
    (mark-node field h.KeyValuePatProp (word_key x ++ inner)
    (marks-both (word_key x) inner (word-one x)
    (mark-node 1 h.AssignPat (pattern_marks 0 meant ++ marks)
    (marks-both (pattern_marks 0 meant) marks (pattern-one 0 meant) many))))

-- as many nodes as marks of nodes
pub record Counted (items : List Item) (marks : List Mark) : Type 0 where
  pub n : ℕ
  pub items_are : AreSoMany n items
  pub marks_are : HaveSoMany n marks

pub counted : {around : Around} {notes rest : List Note} {items : List Item} {marks : List Mark} →
    Marked None around notes items marks rest → AreAlone notes → Counted items marks
counted in_marked.Nothing its = record { n = 0; items_are = items-none; marks_are = marks-none }
counted (in_marked.Joined {first = first} {second = second} {marks = marks} {more = more} one two) its =
    let a = counted one its in
    let b = counted two (alone_left one its) in
    record {
      n = a.n + b.n;
      items_are = items-both first second a.items_are b.items_are;
      marks_are = marks-both marks more a.marks_are b.marks_are;
    }
counted (in_marked.Hole field) its = record {
  n = 1;
  items_are = record { here = λ more. omega arith; within = λ depth more. refl };
  marks_are = record { here = λ more. omega arith; within = λ depth more. refl };
}
counted (in_marked.Word field x c role is) its = record {
  n = 1;
  items_are = item-name field x c role;
  marks_are = record { here = λ more. omega arith; within = λ depth more. refl };
}
counted (in_marked.Name around {note = note} field x c role is) its = record {
  n = 1;
  items_are = item-name field x c role;
  marks_are = name-mark around field x note.meant;
}
counted (in_marked.Inside field head {inside = inside} {marks = marks} stays one) its =
    let a = counted one its in
    record {
      n = 1;
      items_are = item-node field head inside a.items_are;
      marks_are = mark-node field _ marks a.marks_are;
    }
counted
    (in_marked.Kept field head first {inside = inside} {more = more} {marks = marks}
    {more_marks = more_marks} keeps one two) its =
    let a = counted one its in
    let b = counted two (alone_left one its) in
    record {
      n = 1;
      items_are =
          item-node field head (node first h.MemberExpr inside ++ more)
          (items-both (node first h.MemberExpr inside) more
          (item-node first h.MemberExpr inside a.items_are) b.items_are);
      marks_are =
          mark-node field _ (node_marks first h.MemberExpr marks ++ more_marks)
          (marks-both (node_marks first h.MemberExpr marks) more_marks
          (mark-node first _ marks a.marks_are) b.marks_are);
    }
counted (in_marked.Shorthand {note = note} field x c role {default = default} {marks = marks} is one) its =
    let a = counted one its.1 in
    record {
      n = 1;
      items_are =
          item-node field h.AssignPatProp (binding None 0 x c role ++ default)
          (items-both (binding None 0 x c role) default
          (item-node 0 h.BindingIdent (h.Ident 0 x c role ∷ []) (item-name 0 x c role))
          a.items_are);
      marks_are = short-marks field x note.meant default marks a.marks_are;
    }
counted (in_marked.OfReads field count inside is) its = let e = its.0 in absurd cc
counted (in_marked.OfCall field inside is) its = let e = its.0 in absurd cc
counted (in_marked.OfMeta field meant is) its = absurd (none-some meant is)

-- what has the same marks has as many nodes
pub same-count : (item renamed : List Item) (told : ItemMeaning) → HasMarks item told →
    HasMarks renamed told → nodes_in 0 item ≡ nodes_in 0 renamed
same-count item renamed told one two =
    let a = counted one (alone_alone told.0) in
    let b = counted two (alone_alone told.0) in
    let item_is = ap (nodes_in 0) (sym (append-nil item)) ∙ a.items_are.here [] in
    let renamed_is = ap (nodes_in 0) (sym (append-nil renamed)) ∙ b.items_are.here [] in
    let first = a.marks_are.here [] in
    let second = b.marks_are.here [] in
    omega (arith, item_is, renamed_is, first, second)

-- One node.

-- whole nodes
pub nodes-whole : {xs : List Item} → AreNodesInTurn xs → IsWholeItem xs
nodes-whole nodes.nothing = refl
nodes-whole (nodes.name more) = nodes-whole more
nodes-whole (nodes.hole more) = nodes-whole more
nodes-whole (nodes.node {field = field} {head = head} {inside = inside} {rest = rest} in_it more) =
    whole-node field head inside rest (nodes-whole in_it) (nodes-whole more)

pub nodes-many : {xs : List Item} → AreNodesInTurn xs → (n : ℕ) × AreSoMany n xs
nodes-many nodes.nothing = (0, items-none)
nodes-many (nodes.name {field = field} {ctxt = c} {sym = x} {role = role} {rest = rest} more) =
    let b = nodes-many more in
    (1 + b.0, items-both (h.Ident field x c role ∷ []) rest (item-name field x c role) b.1)
nodes-many (nodes.hole {field = field} {rest = rest} more) =
    let b = nodes-many more in (
      1 + b.0,
      items-both (h.Hole field ∷ []) rest
          (record { here = λ more. omega arith; within = λ depth more. refl }) b.1,
    )
nodes-many (nodes.node {field = field} {head = head} {inside = inside} {rest = rest} in_it more) =
    let a = nodes-many in_it in
    let b = nodes-many more in (
      1 + b.0,
      subst (AreSoMany (1 + b.0))
          (ap (λ l. h.Open field head ∷ l) (append_assoc inside (h.Close ∷ []) rest))
          (items-both (node field head inside) rest (item-node field head inside a.1) b.1),
    )

none-left : {xs : List Item} → AreNodesInTurn xs → nodes_in 0 xs ≡ 0 → xs ≡ []
none-left nodes.nothing e = refl
none-left (nodes.name more) e = absurd (omega (arith, e))
none-left (nodes.hole more) e = absurd (omega (arith, e))
none-left (nodes.node {inside = inside} {rest = rest} in_it more) e =
    let a = (nodes-many in_it).1.within 0 (h.Close ∷ rest) in absurd (omega (arith, a, e))

-- whole nodes of which there is one
pub one-single : {xs : List Item} → AreNodesInTurn xs → nodes_in 0 xs ≡ 1 → IsSingle xs
one-single nodes.nothing e = absurd (omega (arith, e))
one-single (nodes.name {field = field} {ctxt = c} {sym = x} {role = role} {rest = rest} more) e =
    let none = none-left more (omega (arith, e)) in
    subst (λ l. IsSingle (h.Ident field x c role ∷ l)) (sym none) (single-name field x c role)
one-single (nodes.hole {field = field} {rest = rest} more) e =
    let none = none-left more (omega (arith, e)) in
    subst (λ l. IsSingle (h.Hole field ∷ l)) (sym none) (single-hole field)
one-single (nodes.node {field = field} {head = head} {inside = inside} {rest = rest} in_it more) e =
    let a = (nodes-many in_it).1.within 0 (h.Close ∷ rest) in
    let none = none-left more (omega (arith, a, e)) in
    subst (λ l. IsSingle (h.Open field head ∷ (inside ++ h.Close ∷ l))) (sym none)
    (single-node field head inside (nodes-whole in_it))

-- ---- unnoted

-- Parts.

-- two parts of what has no notes
pub record Unnoted (xs first second : List Item) : Type 0 where
  pub front : List Item
  pub back : List Item
  pub is : xs ≡ front ++ back
  pub one : without_notes front ≡ first
  pub two : without_notes back ≡ second

pub unnoted : (xs first second : List Item) → without_notes xs ≡ first ++ second →
    Unnoted xs first second
unnoted xs [] second e = record { front = []; back = xs; is = refl; one = refl; two = e }
unnoted [] (x ∷ first) second e = absurd cc
unnoted (y ∷ xs) (x ∷ first) second e =
    let here : without_note y ≡ x = cc in
    let behind : without_notes xs ≡ first ++ second = cc in
    let rest = unnoted xs first second behind in
    record {
      front = y ∷ rest.front;
      back = rest.back;
      is = ap (λ l. y ∷ l) rest.is;
      one = (λ i. here i ∷ rest.one i);
      two = rest.two;
    }

-- so many ends
ends_are : (xs rest : List Item) → ((ys : List Item) → without_notes ys ≡ rest → ys ≡ rest) →
    without_notes xs ≡ h.Close ∷ rest → xs ≡ h.Close ∷ rest
ends_are [] rest later e = absurd cc
ends_are (x ∷ xs) rest later e =
    let here : without_note x ≡ h.Close = cc in
    let behind : without_notes xs ≡ rest = cc in
    λ i. close_is x here i ∷ later xs behind i

function-ends : (xs : List Item) → without_notes xs ≡ function_ends → xs ≡ function_ends
function-ends xs e =
    ends_are xs _
    (λ a f. ends_are a _
    (λ b g. ends_are b _
    (λ c k. ends_are c _
    (λ d l. ends_are d _
    (λ x m. ends_are x _ (λ y n. ends_are y _ (λ z o. none_is z o) n) m) l)
    k) g) f) e

-- marked parts
pub record PartsUnnoted (xs : List Item) (tolds : List ItemMeaning) : Type 0 where
  pub parts : List (List Item)
  pub is : xs ≡ flat parts
  pub marked : AllZip HasMarks parts tolds

parts_unnoted : (xs : List Item) (parts : List (List Item)) (tolds : List ItemMeaning) →
    AllZip HasMarks parts tolds → without_notes xs ≡ flat parts → PartsUnnoted xs tolds
parts_unnoted xs [] [] marked e = record { parts = []; is = none_is xs e; marked = tt }
parts_unnoted xs [] (told ∷ tolds) marked e = absurd marked
parts_unnoted xs (part ∷ parts) [] marked e = absurd marked
parts_unnoted xs (part ∷ parts) (told ∷ tolds) marked e =
    let both = unnoted xs part (flat parts) e in
    let rest = parts_unnoted both.back parts tolds marked.1 both.two in
    record {
      parts = both.front ∷ rest.parts;
      is = both.is ∙ ap (λ l. both.front ++ l) rest.is;
      marked = (noted marked.0 (alone_alone told.0) both.front both.one, rest.marked);
    }

cleared-flat : (parts : List (List Item)) → cleared (flat parts) ≡ flat (map cleared parts)
cleared-flat [] = refl
cleared-flat (part ∷ parts) =
    cleared-append part (flat parts) ∙ ap (λ l. cleared part ++ l) (cleared-flat parts)

-- an item that is the same but for notes and contexts is told the same
pub record RemadeAs (one : NotedItem) (xs : List Item) : Type 0 where
  pub other : NotedItem
  pub remade : Remade one xs other

pub remade_unnoted : {one other : NotedItem} {item : List Item} → Remade one item other →
    (xs : List Item) → without_notes xs ≡ cleared item → RemadeAs one xs
remade_unnoted (remade_whole {told = told} marked) xs e = record {
  other = AsWhole told;
  remade =
      remade_whole (noted (marked-cleared marked (alone_alone told.0)) (alone_alone told.0) xs e);
}
remade_unnoted
    (remade_function {item = item} {old = old} {front = front} {names = names} {olds = olds}
    {insides = insides} {tolds = tolds} is blank marked) xs e =
    let whole : without_notes xs ≡ cleared front ++ (flat (map cleared insides) ++ function_ends) =
    e
    ∙ ap cleared is
    ∙ cleared-append front (flat insides ++ function_ends)
    ∙ ap (λ l. cleared front ++ l)
    (cleared-append (flat insides) function_ends
    ∙ ap (λ l. l ++ function_ends) (cleared-flat insides)) in
    let one = unnoted xs (cleared front) (flat (map cleared insides) ++ function_ends) whole in
    let two = unnoted one.back (flat (map cleared insides)) function_ends one.two in
    let its =
    parts_unnoted two.front (map cleared insides) tolds (items-cleared insides tolds marked)
    two.one in
    record {
      other = AsFunction one.front names its.parts tolds;
      remade =
          remade_function
          (one.is
          ∙ ap (λ l. one.front ++ l)
          (two.is ∙ (λ i. its.is i ++ function-ends two.back two.two i)))
          (sym (blanks-notes one.front) ∙ ap blanks one.one ∙ blanks-cleared front ∙ blank)
          its.marked;
    }

pub record AllRemadeAs (noted : List NotedItem) (xs : List Item) : Type 0 where
  pub items : List (List Item)
  pub others : List NotedItem
  pub is : xs ≡ flat items
  pub remade : AllRemade noted items others

pub all_unnoted : (noted : List NotedItem) (items : List (List Item)) (others : List NotedItem) →
    AllRemade noted items others → (xs : List Item) → without_notes xs ≡ flat (map cleared items) →
    AllRemadeAs noted xs
all_unnoted [] [] [] remade xs e = record {
  items = [];
  others = [];
  is = none_is xs e;
  remade = tt;
}
all_unnoted [] [] (other ∷ others) remade xs e = absurd remade
all_unnoted [] (item ∷ items) others remade xs e = absurd remade
all_unnoted (one ∷ noted) [] others remade xs e = absurd remade
all_unnoted (one ∷ noted) (item ∷ items) [] remade xs e = absurd remade
all_unnoted (one ∷ noted) (item ∷ items) (other ∷ others) remade xs e =
    let both = unnoted xs (cleared item) (flat (map cleared items)) e in
    let first = remade_unnoted remade.0 both.front both.one in
    let rest = all_unnoted noted items others remade.1 both.back both.two in
    record {
      items = both.front ∷ rest.items;
      others = first.other ∷ rest.others;
      is = both.is ∙ ap (λ l. both.front ++ l) rest.is;
      remade = (first.remade, rest.remade);
    }

-- a module
module-head : (head : Head) → cleared_head head ≡ h.Module → head ≡ h.Module
module-head (h.ImportDecl meta) e = absurd cc
module-head (h.NamedExport meta) e = absurd cc
module-head (h.ExportAll meta) e = absurd cc
module-head (h.VarDecl kind meta) e = absurd cc
module-head head e = e

module-begins : (x : Item) → without_note x ≡ h.Open 0 h.Module → x ≡ h.Open 0 h.Module
module-begins (h.Open field head) e =
    let fields : field ≡ 0 = cc in
    let heads : cleared_head head ≡ h.Module = cc in
    ap₂ h.Open fields (module-head head heads)
module-begins (h.Ident field x c role) e = absurd cc
module-begins (h.Hole field) e = absurd cc
module-begins h.Close e = absurd cc

-- a module that is the same but for notes and contexts is of such items
pub record ModuleRemade (noted : List NotedItem) (tree : List Item) : Type 0 where
  pub items : List (List Item)
  pub others : List NotedItem
  pub is : tree ≡ joined_items items
  pub remade : AllRemade noted items others

pub module_unnoted : (noted : List NotedItem) (items : List (List Item)) (others : List NotedItem) →
    AllRemade noted items others → (tree : List Item) →
    without_notes tree ≡ cleared (joined_items items) → ModuleRemade noted tree
module_unnoted noted items others remade [] e = absurd cc
module_unnoted noted items others remade (x ∷ xs) e =
    let first : without_note x ≡ h.Open 0 h.Module = cc in
    let later : without_notes xs ≡ cleared (flat items ++ h.Close ∷ []) = cc in
    let both =
    unnoted xs (flat (map cleared items)) (h.Close ∷ [])
    (later
    ∙ cleared-append (flat items) (h.Close ∷ [])
    ∙ ap (λ l. l ++ h.Close ∷ []) (cleared-flat items)) in
    let all = all_unnoted noted items others remade both.front both.one in
    record {
      items = all.items;
      others = all.others;
      is =
          λ i. module-begins x first i ∷
          (both.is ∙ (λ j. all.is j ++ ends_are both.back [] none_is both.two j)) i;
      remade = all.remade;
    }

-- Nodes without names.

-- what is no end and no beginning
blank-open : (x : Item) (field : ℕ) (head : Head) → blank x ≡ h.Open field head →
    (its : Head) × (x ≡ h.Open field its)
blank-open (h.Open f its) field head e =
    let same : f ≡ field = cc in (its, ap (λ n. h.Open n its) same)
blank-open (h.Ident f x c r.Word) field head e = absurd cc
blank-open (h.Ident f x c r.Binding) field head e = absurd cc
blank-open (h.Ident f x c r.Reference) field head e = absurd cc
blank-open (h.Hole f) field head e = absurd cc
blank-open h.Close field head e = absurd cc

blank-close : (x : Item) → blank x ≡ h.Close → x ≡ h.Close
blank-close (h.Open f its) e = absurd cc
blank-close (h.Ident f x c r.Word) e = absurd cc
blank-close (h.Ident f x c r.Binding) e = absurd cc
blank-close (h.Ident f x c r.Reference) e = absurd cc
blank-close (h.Hole f) e = absurd cc
blank-close h.Close e = refl

blank-name : (x : Item) (field : ℕ) (y : Text) (c : ℕ) (role : Role) →
    blank x ≡ blank (h.Ident field y c role) → (rest : List Item) → AreNodesInTurn rest →
    AreNodesInTurn (x ∷ rest)
blank-name (h.Open f its) field y c r.Word e rest more = absurd cc
blank-name (h.Open f its) field y c r.Binding e rest more = absurd cc
blank-name (h.Open f its) field y c r.Reference e rest more = absurd cc
blank-name (h.Ident f x k role) field y c its e rest more = nodes.name more
blank-name (h.Hole f) field y c role e rest more = nodes.hole more
blank-name h.Close field y c r.Word e rest more = absurd cc
blank-name h.Close field y c r.Binding e rest more = absurd cc
blank-name h.Close field y c r.Reference e rest more = absurd cc

blank-hole : (x : Item) (field : ℕ) → blank x ≡ h.Hole field → (rest : List Item) → AreNodesInTurn rest →
    AreNodesInTurn (x ∷ rest)
blank-hole (h.Open f its) field e rest more = absurd cc
blank-hole (h.Ident f x k role) field e rest more = nodes.name more
blank-hole (h.Hole f) field e rest more = nodes.hole more
blank-hole h.Close field e rest more = absurd cc

record Blanked (xs first second : List Item) : Type 0 where
  front : List Item
  back : List Item
  is : xs ≡ front ++ back
  one : first ≡ blanks front
  two : blanks back ≡ second

blanked : (xs first second : List Item) → blanks xs ≡ first ++ second → Blanked xs first second
blanked xs [] second e = record { front = []; back = xs; is = refl; one = refl; two = e }
blanked [] (x ∷ first) second e = absurd cc
blanked (y ∷ xs) (x ∷ first) second e =
    let here : x ≡ blank y = cc in
    let behind : blanks xs ≡ first ++ second = cc in
    let rest = blanked xs first second behind in
    record {
      front = y ∷ rest.front;
      back = rest.back;
      is = ap (λ l. y ∷ l) rest.is;
      one = (λ i. here i ∷ rest.one i);
      two = rest.two;
    }

pub blanks-append : (xs ys : List Item) → blanks (xs ++ ys) ≡ blanks xs ++ blanks ys
blanks-append [] ys = refl
blanks-append (x ∷ xs) ys = ap (λ l. blank x ∷ l) (blanks-append xs ys)

-- whether elements are whole nodes does not depend on names
pub nodes-blank : {xs : List Item} → AreNodesInTurn xs → (ys : List Item) → blanks xs ≡ blanks ys →
    AreNodesInTurn ys
nodes-blank nodes.nothing [] e = nodes.nothing
nodes-blank nodes.nothing (y ∷ ys) e = absurd cc
nodes-blank (nodes.name more) [] e = absurd cc
nodes-blank (nodes.name {field = field} {ctxt = c} {sym = x} {role = role} {rest = rest} more)
    (y ∷ ys) e =
    let first : blank y ≡ blank (h.Ident field x c role) = cc in
    let later : blanks rest ≡ blanks ys = cc in
    blank-name y field x c role first ys (nodes-blank more ys later)
nodes-blank (nodes.hole more) [] e = absurd cc
nodes-blank (nodes.hole {field = field} {rest = rest} more) (y ∷ ys) e =
    let first : blank y ≡ h.Hole field = cc in
    let later : blanks rest ≡ blanks ys = cc in
    blank-hole y field first ys (nodes-blank more ys later)
nodes-blank (nodes.node in_it more) [] e = absurd cc
nodes-blank (nodes.node {field = field} {head = head} {inside = inside} {rest = rest} in_it more)
    (y ∷ ys) e =
    let first : blank y ≡ h.Open field (cleared_head head) = cc in
    let later : blanks ys ≡ blanks (inside ++ h.Close ∷ rest) = cc in
    let begun = blank-open y field (cleared_head head) first in
    let both =
    blanked ys (blanks inside) (h.Close ∷ blanks rest)
    (later ∙ blanks-append inside (h.Close ∷ rest)) in
    behind begun.0 begun.1 both.front both.back both.is both.two
    (nodes-blank in_it both.front both.one) (λ zs same. nodes-blank more zs same)
  where
    behind : (its : Head) → y ≡ h.Open field its → (front back : List Item) → ys ≡ front ++ back →
        blanks back ≡ h.Close ∷ blanks rest → AreNodesInTurn front →
        ((zs : List Item) → blanks rest ≡ blanks zs → AreNodesInTurn zs) → AreNodesInTurn (y ∷ ys)
    behind its begins front [] is e in_front ih = absurd cc
    behind its begins front (z ∷ back) is e in_front ih =
        let close : blank z ≡ h.Close = cc in
        let last : blanks rest ≡ blanks back = cc in
        let all : y ∷ ys ≡ h.Open field its ∷ (front ++ h.Close ∷ back) =
        λ i. begins i ∷ (is ∙ ap (λ l. front ++ l ∷ back) (blank-close z close)) i in
        subst AreNodesInTurn (sym all) (nodes.node in_front (ih back last))

-- how many stand there does not depend on names either
pub nodes_in-blank : (depth : ℕ) (xs : List Item) → nodes_in depth (blanks xs) ≡ nodes_in depth xs
nodes_in-blank depth [] = refl
nodes_in-blank depth (h.Open field head ∷ xs) = nodes_in-blank (suc depth) xs
nodes_in-blank zero (h.Ident field x c r.Word ∷ xs) = ap suc (nodes_in-blank zero xs)
nodes_in-blank zero (h.Ident field x c r.Binding ∷ xs) = ap suc (nodes_in-blank zero xs)
nodes_in-blank zero (h.Ident field x c r.Reference ∷ xs) = ap suc (nodes_in-blank zero xs)
nodes_in-blank (suc depth) (h.Ident field x c r.Word ∷ xs) = nodes_in-blank (suc depth) xs
nodes_in-blank (suc depth) (h.Ident field x c r.Binding ∷ xs) = nodes_in-blank (suc depth) xs
nodes_in-blank (suc depth) (h.Ident field x c r.Reference ∷ xs) = nodes_in-blank (suc depth) xs
nodes_in-blank zero (h.Hole field ∷ xs) = ap suc (nodes_in-blank zero xs)
nodes_in-blank (suc depth) (h.Hole field ∷ xs) = nodes_in-blank (suc depth) xs
nodes_in-blank zero (h.Close ∷ xs) = refl
nodes_in-blank (suc zero) (h.Close ∷ xs) = ap suc (nodes_in-blank zero xs)
nodes_in-blank (suc (suc depth)) (h.Close ∷ xs) = nodes_in-blank (suc depth) xs
