-- Which marks a part of a tree has, where a note tells of each occurrence what it means and how
-- much of what is around it stands for that: a relation over the nodes of its list. Each clause is
-- one of `Becomes` (bundle_tree_rebuild).
use Rattle.std.specs.Prelude.{◌≡◌, ℕ, Bool, true, false, is_none, List, [], ◌∷◌, ◌++◌, Option, Some, None, slice_get, if◌then◌else◌}
use Rattle.bundle_syntax.specs.declared.kind.MetaPropKind.{MetaPropKind}
use Rattle.bundle_syntax.specs.declared.kind.MetaPropKind.TheVariants as p
use Rattle.bundle_syntax.specs.declared.piece.Role.{Role}
use Rattle.bundle_syntax.specs.Item as h
use Rattle.bundle_syntax.specs.Item.{Item, Head}
use Rattle.bundle_rules.specs.Nodes.{Text}
use Rattle.bundle_rules.specs.Cleared.{cleared_head}
use Rattle.bundle_rules.specs.Marks as k
use Rattle.bundle_rules.specs.Marks.{word_key, object_key}
use Rattle.bundle_rules.specs.Meaning.{Meant, Mark}
use Rattle.bundle_tree_rebuild.specs.declared.rewrite.Whole.{Whole}
use Rattle.bundle_tree_rebuild.specs.declared.rewrite.Whole.TheVariants.{Alone, Reads, Call}
use Rattle.bundle_tree_rebuild.specs.Becomes.{are_reads, is_literal_call, keeps_first}
use Rattle.bundle_tree_places.specs.Edits.{Around, Anywhere, InObject, InSpecifier, node, is_occurrence, around_in, binding}

-- what an occurrence means, and how much stands for it
pub record Note : Type 0 where
  pub meant : Meant
  pub whole : Whole

-- the next note, if one is left
abbrev pub next_note : List Note → Option Note
next_note notes = slice_get notes 0

-- Which nodes stand for what a name means (as in `Becomes`).

-- what a member expression stands for by this note, if it does
abbrev pub meant_by_reads : Meant → Whole → (inside : List Item) → Option Meant
meant_by_reads meant (Reads count) inside = if are_reads count inside then Some meant else None
meant_by_reads meant Alone inside = None
meant_by_reads meant Call inside = None

abbrev pub meant_for_member : Option Note → (inside : List Item) → Option Meant
meant_for_member None inside = None
meant_for_member (Some note) inside = meant_by_reads note.meant note.whole inside

-- what is called in the place of a call by this note, if it is
abbrev pub meant_by_call : Meant → Whole → (inside : List Item) → Option Meant
meant_by_call meant Call inside = if is_literal_call inside then Some meant else None
meant_by_call meant Alone inside = None
meant_by_call meant (Reads count) inside = None

abbrev pub meant_for_call : Option Note → (inside : List Item) → Option Meant
meant_for_call None inside = None
meant_for_call (Some note) inside = meant_by_call note.meant note.whole inside

-- what `import.meta` stands for, if it does
abbrev pub meant_for_meta : Option Meant → MetaPropKind → Option Meant
meant_for_meta meta p.ImportMeta = meta
meant_for_meta meta p.NewTarget = None

-- whether a node stays, and just what is in it is marked: where `meta` is what `import.meta`
-- stands for, and this is the next note
abbrev pub node_stays : (meta : Option Meant) → Option Note → Head → (inside : List Item) → Bool
node_stays meta next h.MemberExpr inside = is_none (meant_for_member next inside)
node_stays meta next h.CallExpr inside = is_none (meant_for_call next inside)
node_stays meta next (h.MetaPropExpr kind) inside = is_none (meant_for_meta meta kind)
node_stays meta next h.AssignPatProp inside = false
node_stays meta next head inside = true

-- The marks.

-- a node that stays
abbrev pub node_marks : ℕ → Head → List Mark → List Mark
node_marks field head inside = k.Begins field (cleared_head head) ∷ (inside ++ k.Ends ∷ [])

-- a name: in an object literal it is short for a property
abbrev pub marks_there : Around → ℕ → Text → Meant → List Mark
marks_there InObject field x meant =
    k.Begins field h.KeyValueProp ∷ (object_key x ++ k.Name 1 meant ∷ k.Ends ∷ [])
marks_there Anywhere field x meant = k.Name field meant ∷ []
marks_there InSpecifier field x meant = k.Name field meant ∷ []

-- a name that is a pattern
abbrev pub pattern_marks : ℕ → Meant → List Mark
pattern_marks field meant = k.Begins field h.BindingIdent ∷ k.Name 0 meant ∷ k.Ends ∷ []

-- a shorthand property of a pattern, with or without a default value
abbrev pub shorthand_marks : ℕ → Text → Meant → (default : List Item) → List Mark → List Mark
shorthand_marks field x meant [] marks =
    k.Begins field h.KeyValuePatProp ∷ (word_key x ++ (pattern_marks 1 meant ++ k.Ends ∷ []))
shorthand_marks field x meant (first ∷ more) marks =
    k.Begins field h.KeyValuePatProp
    ∷ (word_key x
    ++ (k.Begins 1 h.AssignPat ∷ (pattern_marks 0 meant ++ (marks ++ k.Ends ∷ k.Ends ∷ []))))

-- a call without arguments
abbrev pub call_marks : ℕ → Meant → List Mark
call_marks field meant = k.Begins field h.CallExpr ∷ k.Name 0 meant ∷ k.Ends ∷ []

-- `Marked meta around notes items marks rest`: with these notes, and where `meta` is what
-- `import.meta` stands for, what stands here has these marks, and these notes are left for what
-- follows.
pub data Marked (meta : Option Meant) : Around → List Note → List Item → List Mark → List Note →
    Type 0 where
  -- where nothing stands
  Nothing : {around : Around} {notes : List Note} → Marked meta around notes [] [] notes
  -- one after the other
  Joined : {around : Around} {notes between rest : List Note} {first second : List Item}
      {marks more : List Mark} → Marked meta around notes first marks between →
      Marked meta around between second more rest →
      Marked meta around notes (first ++ second) (marks ++ more) rest
  -- an empty place of a list
  Hole : {around : Around} {notes : List Note} (field : ℕ) →
      Marked meta around notes (h.Hole field ∷ []) (k.Empty field ∷ []) notes
  -- a plain word
  Word : {around : Around} {notes : List Note} (field : ℕ) (x : Text) (ctxt : ℕ) (role : Role) →
      is_occurrence role ≡ false →
      Marked meta around notes (h.Ident field x ctxt role ∷ []) (k.Word field x ∷ []) notes
  -- an occurrence takes the next note
  Name : (around : Around) {note : Note} {rest : List Note} (field : ℕ) (x : Text) (ctxt : ℕ)
      (role : Role) → is_occurrence role ≡ true →
      Marked meta around (note ∷ rest) (h.Ident field x ctxt role ∷ [])
      (marks_there around field x note.meant) rest
  -- a node stays, and what is in it is marked
  Inside : {around : Around} {notes rest : List Note} (field : ℕ) (head : Head)
      {inside : List Item} {marks : List Mark} →
      node_stays meta (next_note notes) head inside ≡ true →
      Marked meta (around_in head inside) notes inside marks rest →
      Marked meta around notes (node field head inside) (node_marks field head marks) rest
  -- the same where the first of what is in a node is a member expression for which no name may
  -- stand
  Kept : {around : Around} {notes between rest : List Note} (field : ℕ) (head : Head) (first : ℕ)
      {inside more : List Item} {marks more_marks : List Mark} → keeps_first head first ≡ true →
      Marked meta Anywhere notes inside marks between →
      Marked meta Anywhere between more more_marks rest →
      Marked meta around notes (node field head (node first h.MemberExpr inside ++ more))
      (node_marks field head (node_marks first h.MemberExpr marks ++ more_marks)) rest
  -- a shorthand property of a pattern takes the next note for its name
  Shorthand : {around : Around} {note : Note} {notes rest : List Note} (field : ℕ) (x : Text)
      (ctxt : ℕ) (role : Role) {default : List Item} {marks : List Mark} →
      is_occurrence role ≡ true → Marked meta Anywhere notes default marks rest →
      Marked meta around (note ∷ notes)
      (node field h.AssignPatProp (binding None 0 x ctxt role ++ default))
      (shorthand_marks field x note.meant default marks) rest
  -- static reads that stand for what the next note tells
  OfReads : {around : Around} {meant : Meant} {rest : List Note} (field count : ℕ)
      (inside : List Item) → are_reads count inside ≡ true →
      Marked meta around (record { meant = meant; whole = Reads count } ∷ rest)
      (node field h.MemberExpr inside) (k.Name field meant ∷ []) rest
  -- a literal call that stands for a call of what the next note tells
  OfCall : {around : Around} {meant : Meant} {rest : List Note} (field : ℕ) (inside : List Item) →
      is_literal_call inside ≡ true →
      Marked meta around (record { meant = meant; whole = Call } ∷ rest)
      (node field h.CallExpr inside) (call_marks field meant) rest
  -- `import.meta`
  OfMeta : {around : Around} {notes : List Note} (field : ℕ) (meant : Meant) → meta ≡ Some meant →
      Marked meta around notes (node field (h.MetaPropExpr p.ImportMeta) [])
      (k.Name field meant ∷ []) notes
