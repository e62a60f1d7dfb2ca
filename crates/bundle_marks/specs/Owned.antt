-- What the marks and the occurrences stand for.
use Rattle.bundle_rules.specs.Rebuilds.{TreeMark, Ends, Occurs, Listed}
use Rattle.bundle_tree_places.specs.Marks.{begin_of}
use Rattle.bundle_marks.specs.Idents.{ident_named}
use Rattle.bundle_marks.specs.declared.items.Occurrence.{Occurrence}
use Rattle.bundle_marks.specs.declared.items.Mark.{Mark}
use Rattle.bundle_marks.specs.declared.items.Mark.TheVariants as m

-- an occurrence as an identifier, and whether it binds
abbrev pub occurrence_listed : Occurrence → Listed
occurrence_listed o = (ident_named o.id, o.binding)

-- the mark that a `Mark` stands for
abbrev pub tree_mark_of : Mark → TreeMark
tree_mark_of (m.Open field node) = begin_of field node
tree_mark_of m.Close = Ends
tree_mark_of (m.Ident o) = Occurs (ident_named o.id) o.binding
