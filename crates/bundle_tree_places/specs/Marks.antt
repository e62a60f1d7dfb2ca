-- What the marks and occurrences of the code stand for.
use Rattle.std.specs.Prelude.{ℕ, List, [], ◌∷◌}
use Rattle.bundle_syntax.specs.declared.piece.Role.TheVariants.{Word}
use Rattle.bundle_syntax.specs.Item as h
use Rattle.bundle_syntax.specs.Item.{Item, head_of}
use Rattle.bundle_rules.specs.Places.{is_binding}
use Rattle.bundle_rules.specs.Idents.{Ident}
use Rattle.bundle_rules.specs.Rebuilds.{TreeMark, Begins, BeginsWord, Ends, Occurs, Listed}
use Rattle.bundle_tree_places.specs.declared.mark.Name.{Name}
use Rattle.bundle_tree_places.specs.declared.mark.OccurrenceRef.{OccurrenceRef}
use Rattle.bundle_tree_places.specs.declared.mark.Node.{Node}
use Rattle.bundle_tree_places.specs.declared.mark.Node.TheVariants as w
use Rattle.bundle_tree_places.specs.declared.mark.MarkRef.{MarkRef}
use Rattle.bundle_tree_places.specs.declared.mark.MarkRef.TheVariants as m

-- the identifier that a `Name` stands for
abbrev pub ident_of : Name → Ident
ident_of name = (name.sym.now, name.ctxt)

-- an occurrence as an identifier, and whether it binds
abbrev pub listed_of : OccurrenceRef → Listed
listed_of o = (ident_of o.id, o.binding)

-- the beginning of a node in a field
abbrev pub begin_of : ℕ → Node → TreeMark
begin_of field (w.Named node) = Begins field (head_of node)
begin_of field (w.Word sym) = BeginsWord field sym.now

-- the mark that a `MarkRef` stands for
abbrev pub mark_of : MarkRef → TreeMark
mark_of (m.Open field node) = begin_of field node
mark_of m.Close = Ends
mark_of (m.Ident o) = Occurs (ident_of o.id) o.binding

-- what an element is listed as: an identifier that is a plain word is not
abbrev pub listed_as : Item → List Listed
listed_as (h.Ident field sym ctxt Word) = []
listed_as (h.Ident field sym ctxt role) = ((sym, ctxt), is_binding role) ∷ []
listed_as (h.Open field head) = []
listed_as (h.Hole field) = []
listed_as h.Close = []

-- a pair of identifiers
abbrev pub pair_of_idents : Name × Name → Ident × Ident
pair_of_idents pair = (ident_of pair.0, ident_of pair.1)
