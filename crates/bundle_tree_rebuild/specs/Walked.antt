-- How a list is made anew, piece by piece: what a piece gives, and what is known behind it of the
-- nodes that are open. `Fits` says of which lists this is what `Becomes` says.
use Rattle.std.specs.Prelude.{ℕ, ◌&&◌, Bool, true, false, List, [], ◌∷◌, ◌++◌, Option, Some, None, is_some, slice_get, if◌then◌else◌}
use Rattle.bundle_syntax.specs.declared.kind.ExportMetadata.{ExportMetadata}
use Rattle.bundle_syntax.specs.declared.kind.MetaPropKind.TheVariants as p
use Rattle.bundle_syntax.specs.declared.piece.Role.{Role}
use Rattle.bundle_syntax.specs.declared.piece.Role.TheVariants as r
use Rattle.bundle_syntax.specs.Item as h
use Rattle.bundle_syntax.specs.Item.{Item, Head}
use Rattle.bundle_rules.specs.Nodes.{Text}
use Rattle.bundle_rules.specs.Idents.{Ident}
use Rattle.bundle_rules.specs.Rebuilds.{Change, plain_key, spells_out}
use Rattle.bundle_tree_places.specs.Edits.{Around, Anywhere, InObject, InSpecifier, node, is_occurrence, in_its_place}
use Rattle.bundle_tree_rebuild.specs.declared.rewrite.Whole.{Whole}
use Rattle.bundle_tree_rebuild.specs.declared.rewrite.Whole.TheVariants as w
use Rattle.bundle_tree_rebuild.specs.declared.kind.NodeKind.{NodeKind}
use Rattle.bundle_tree_rebuild.specs.declared.kind.NodeKind.TheVariants as k
use Rattle.bundle_tree_rebuild.specs.declared.kind.Enclosing.{Enclosing}
use Rattle.bundle_tree_rebuild.specs.declared.kind.Enclosing.TheVariants as s
use Rattle.bundle_tree_rebuild.specs.Work.{Step, Work, upcoming, after, next}
use Rattle.bundle_tree_rebuild.specs.Becomes.{behind_reads, begins_with_member, no_notes, reference}

-- Nodes.

-- what a node is for the walk
abbrev pub kind_of : Head → NodeKind
kind_of h.ObjectLit = k.Object
kind_of h.ImportNamedSpecifier = k.Specifier
kind_of h.ExportNamedSpecifier = k.Specifier
kind_of (h.AssignExpr op) = k.Assignment
kind_of (h.OptChainExpr optional) = k.Assignment
kind_of h.MemberExpr = k.Member
kind_of h.CallExpr = k.Call
kind_of (h.MetaPropExpr p.ImportMeta) = k.ImportMeta
kind_of h.AssignPatProp = k.Shorthand
kind_of _ = k.Ordinary

-- the notes that each declaration gets, if it does not keep its own
abbrev pub new_notes : (clears_notes : Bool) → Option ExportMetadata
new_notes true = Some no_notes
new_notes false = None

-- a node with the notes that it gets
abbrev pub noted : Option ExportMetadata → Head → Head
noted (Some notes) (h.VarDecl kind own) = h.VarDecl kind notes
noted (Some notes) head = head
noted None head = head

-- What comes next in the list.

abbrev pub is_close : Option Item → Bool
is_close (Some h.Close) = true
is_close _ = false

abbrev pub is_name : Option Item → Bool
is_name (Some (h.Ident field x ctxt role)) = true
is_name _ = false

abbrev pub is_reference : Option Item → Bool
is_reference (Some (h.Ident field x ctxt r.Reference)) = true
is_reference _ = false

abbrev pub is_argument : Option Item → Bool
is_argument (Some (h.Open field (h.ExprOrSpread false))) = true
is_argument _ = false

abbrev pub is_string : Option Item → Bool
is_string (Some (h.Open field (h.Str value raw))) = true
is_string _ = false

-- what stands behind the beginning of a member expression, and behind the end of a node
abbrev pub behind_member : List Item → Option (List Item)
behind_member (h.Open field h.MemberExpr ∷ rest) = Some rest
behind_member _ = None

abbrev pub behind_end : List Item → Option (List Item)
behind_end (h.Close ∷ rest) = Some rest
behind_end _ = None

-- the symbol of a name, or none
abbrev pub symbol_at : Option Item → Option Text
symbol_at (Some (h.Ident field x ctxt role)) = Some x
symbol_at _ = None

-- whether a node that just began has but a name in it
abbrev pub is_alone : (ahead : List Item) → Bool
is_alone ahead = is_name (slice_get ahead 0) && is_close (slice_get ahead 1)

-- whether a member expression that just began is so many static reads
abbrev pub are_reads_ahead : ℕ → (ahead : List Item) → Bool
are_reads_ahead count ahead = is_some (behind_reads count (h.Open 0 h.MemberExpr ∷ ahead))

-- whether one string comes as an argument, not spread
abbrev pub is_string_ahead : (ahead : List Item) → Bool
is_string_ahead ahead = is_argument (slice_get ahead 1) && is_string (slice_get ahead 2)

-- whether the string, the argument and the call end behind it
abbrev pub is_argument_end_ahead : (ahead : List Item) → Bool
is_argument_end_ahead ahead = is_close (slice_get ahead 4) && is_close (slice_get ahead 5)

abbrev pub is_end_ahead : (ahead : List Item) → Bool
is_end_ahead ahead = is_close (slice_get ahead 3) && is_argument_end_ahead ahead

-- whether a call that just began is a literal call
abbrev pub is_call_ahead : (ahead : List Item) → Bool
is_call_ahead ahead =
    is_reference (slice_get ahead 0) && is_string_ahead ahead && is_end_ahead ahead

-- whether a shorthand property of a pattern that just began has a default value
abbrev pub has_default_ahead : (ahead : List Item) → Bool
has_default_ahead ahead = if is_close (slice_get ahead 3) then false else true

-- the name that stands for a member expression that just began, if one does
abbrev pub name_of_reads_ahead : Ident → Whole → (ahead : List Item) → Option Ident
name_of_reads_ahead name (w.Reads count) ahead =
    if are_reads_ahead count ahead then Some name else None
name_of_reads_ahead name w.Alone ahead = None
name_of_reads_ahead name w.Call ahead = None

abbrev pub name_for_member_ahead : Option Step → (ahead : List Item) → Option Ident
name_for_member_ahead None ahead = None
name_for_member_ahead (Some step) ahead = name_of_reads_ahead step.ident step.whole ahead

-- the name that is called in the place of a call that just began, if one is
abbrev pub name_of_call_ahead : Ident → Whole → (ahead : List Item) → Option Ident
name_of_call_ahead name w.Call ahead = if is_call_ahead ahead then Some name else None
name_of_call_ahead name w.Alone ahead = None
name_of_call_ahead name (w.Reads count) ahead = None

abbrev pub name_for_call_ahead : Option Step → (ahead : List Item) → Option Ident
name_for_call_ahead None ahead = None
name_for_call_ahead (Some step) ahead = name_of_call_ahead step.ident step.whole ahead

-- whether a shorthand property of a pattern that just began is spelled out
abbrev pub is_spelled_out_ahead : Work → Option Text → Bool
is_spelled_out_ahead work None = false
is_spelled_out_ahead work (Some x) = spells_out (next work x)

-- What is around.

abbrev pub is_gone : Enclosing → Bool
is_gone s.Gone = true
is_gone _ = false

abbrev pub is_target : Enclosing → Bool
is_target s.Target = true
is_target _ = false

-- the field in which a node stands: behind a key in the second
abbrev pub placed : Enclosing → ℕ → ℕ
placed s.Value field = 1
placed enclosing field = field

-- what is around that which follows a node
abbrev pub behind : Enclosing → Enclosing
behind s.Target = s.Plain
behind enclosing = enclosing

-- what is around an occurrence
abbrev pub around_of : Enclosing → Around
around_of s.Object = InObject
around_of s.Specifier = InSpecifier
around_of _ = Anywhere

-- what the end of a node gives
abbrev pub end_of : Enclosing → List Item
end_of s.Default = h.Close ∷ h.Close ∷ []
end_of s.Gone = []
end_of _ = h.Close ∷ []

-- what is around behind the end of a node, and what is around that
abbrev pub innermost : List Enclosing → Enclosing
innermost [] = s.Plain
innermost (enclosing ∷ outer) = enclosing

abbrev pub outwards : List Enclosing → List Enclosing
outwards [] = []
outwards (enclosing ∷ outer) = outer

-- the identifier of an occurrence, which may have changed
abbrev pub ident_instead : Option Change → Ident → Ident
ident_instead None ident = ident
ident_instead (Some change) ident = change.ident

-- The walk.

-- what is asked of what follows; the notes that declarations get; what is around, from the
-- innermost node on; and what was made
pub record Walking : Type 0 where
  pub work : Work
  pub notes : Option ExportMetadata
  pub enclosing : Enclosing
  pub outer : List Enclosing
  pub made : List Item

-- some items are made in this enclosing
abbrev pub with_items : Walking → List Item → Walking
with_items it items =
    record {
      work = it.work;
      notes = it.notes;
      enclosing = it.enclosing;
      outer = it.outer;
      made = it.made ++ items;
    }

-- the same, where the next occurrence is met
abbrev pub met : Walking → List Item → Walking
met it items =
    record {
      work = after it.work;
      notes = it.notes;
      enclosing = it.enclosing;
      outer = it.outer;
      made = it.made ++ items;
    }

-- a node begins, in which there is this enclosing
abbrev pub within : Walking → Enclosing → Walking
within it enclosing =
    record {
      work = it.work;
      notes = it.notes;
      enclosing = enclosing;
      outer = behind it.enclosing ∷ it.outer;
      made = it.made;
    }

-- a node begins that stays
abbrev pub kept : Walking → ℕ → Head → Enclosing → Walking
kept it field head enclosing =
    within (with_items it (h.Open field (noted it.notes head) ∷ [])) enclosing

-- a name stands for a member expression, or the node stays
abbrev pub member : Walking → ℕ → Option Ident → Walking
member it field None = kept it field h.MemberExpr s.Plain
member it field (Some name) = within (met it (reference field name)) s.Gone

-- a name is called for a call, or the node stays
abbrev pub call : Walking → ℕ → Option Ident → Walking
call it field None = kept it field h.CallExpr s.Plain
call it field (Some name) = within (met it (node field h.CallExpr (reference 0 name))) s.Gone

-- a name stands for `import.meta`, or the node stays
abbrev pub meta : Walking → ℕ → Option Ident → Walking
meta it field None = kept it field (h.MetaPropExpr p.ImportMeta) s.Plain
meta it field (Some name) = within (with_items it (reference field name)) s.Gone

-- a shorthand property of a pattern is spelled out
abbrev pub pair : Walking → ℕ → Text → (has_default : Bool) → Walking
pair it field x true =
    within
    (with_items it (h.Open field h.KeyValuePatProp ∷ (plain_key x ++ h.Open 1 h.AssignPat ∷ [])))
    s.Default
pair it field x false =
    within (with_items it (h.Open field h.KeyValuePatProp ∷ plain_key x)) s.Value

-- a shorthand property of a pattern whose name has this symbol
abbrev pub shorthand : Walking → ℕ → Option Text → (has_default : Bool) → Walking
shorthand it field None has_default = kept it field h.AssignPatProp s.Plain
shorthand it field (Some x) has_default =
    if spells_out (next it.work x)
    then pair it field x has_default
    else kept it field h.AssignPatProp s.Plain

-- a node begins that is not gone
abbrev pub begun : NodeKind → Walking → ℕ → Head → (ahead : List Item) → Walking
begun k.Ordinary it field head ahead = kept it field head s.Plain
begun k.Object it field head ahead = kept it field head s.Object
begun k.Specifier it field head ahead =
    kept it field head (if is_alone ahead then s.Specifier else s.Plain)
begun k.Assignment it field head ahead =
    kept it field head (if begins_with_member ahead then s.Target else s.Plain)
begun k.Member it field head ahead =
    member it field
    (if is_target it.enclosing then None else name_for_member_ahead (upcoming it.work) ahead)
begun k.Call it field head ahead = call it field (name_for_call_ahead (upcoming it.work) ahead)
begun k.ImportMeta it field head ahead = meta it field it.work.meta
begun k.Shorthand it field head ahead =
    shorthand it field (symbol_at (slice_get ahead 1)) (has_default_ahead ahead)

abbrev pub opened : Walking → ℕ → Head → (ahead : List Item) → Walking
opened it field head ahead =
    if is_gone it.enclosing
    then within it s.Gone
    else begun (kind_of head) it (placed it.enclosing field) head ahead

-- an identifier
abbrev pub named_here : Walking → ℕ → Text → ℕ → Role → Walking
named_here it field x ctxt role =
    if is_occurrence role
    then met it (in_its_place (around_of it.enclosing) (next it.work x) field x ctxt role)
    else with_items it (h.Ident field x ctxt role ∷ [])

-- the end of a node
abbrev pub ended : Walking → Walking
ended it =
    record {
      work = it.work;
      notes = it.notes;
      enclosing = innermost it.outer;
      outer = outwards it.outer;
      made = it.made ++ end_of it.enclosing;
    }

-- behind a piece, ahead of which these are
abbrev pub turned : Walking → Item → (ahead : List Item) → Walking
turned it (h.Open field head) ahead = opened it field head ahead
turned it (h.Ident field x ctxt role) ahead =
    if is_gone it.enclosing then it else named_here it field x ctxt role
turned it (h.Hole field) ahead =
    if is_gone it.enclosing then it else with_items it (h.Hole field ∷ [])
turned it h.Close ahead = ended it

-- behind these pieces
abbrev pub walked : Walking → List Item → Walking
walked it [] = it
walked it (x ∷ rest) = walked (turned it x rest) rest

-- before the first piece
abbrev pub fresh : Work → Walking
fresh work =
    record {
      work = work;
      notes = new_notes work.clears_notes;
      enclosing = s.Plain;
      outer = [];
      made = [];
    }
