-- What a top item asks for.
use Rattle.std.specs.Prelude.{◌≡◌, Bool, List, [], ◌∷◌, bytes_eq, flat_map, if◌then◌else◌}
use Rattle.std.specs.Borrow.{Bor}
use Rattle.bundle_syntax.specs.Item as h
use Rattle.bundle_syntax.specs.Item.{Item, Head}
use Rattle.bundle_rules.specs.Nodes.{Text, has_text}
use Rattle.bundle_rules.specs.Entries.{text_in}
use Rattle.bundle_link_tables.specs.declared.table.Source.{Source}
use Rattle.indexmap.specs.IndexSet.{IndexSet, contains_by}

-- a text, and whether it is external
abbrev pub has_external : {S : Type 0} → IndexSet (Bor Text) S → Text → Text × Bool
has_external external x = (x, contains_by (λ k. bytes_eq x k.now) external)

-- a text, and whether it is among those that are external
abbrev pub told_external : List Text → Text → Text × Bool
told_external external x = (x, has_text x external)

-- a set holds just these texts
abbrev pub HasTexts : {S : Type 0} → IndexSet (Bor Text) S → List Text → Type 0
HasTexts set texts = (x : Text) → contains_by (λ k. bytes_eq x k.now) set ≡ has_text x texts

-- what a `Source` asks for, and whether that is external
abbrev pub source_asked : Source → Text × Bool
source_asked source = (source.specifier.now, source.is_external)

-- what is asked for by these and is not external
abbrev pub unexternal_one : Source → List Text
unexternal_one source = if source.is_external then [] else source.specifier.now ∷ []

abbrev pub unexternal : List Source → List Text
unexternal sources = flat_map unexternal_one sources

-- what `export * from` asks for, at a top item with this head
abbrev pub star_by : Head → List Item → List Text
star_by (h.ExportAll meta) item = text_in 0 item ∷ []
star_by _ item = []

-- what `export * from` asks for, at a top item
abbrev pub star_in : List Item → List Text
star_in (h.Open field head ∷ rest) = star_by head (h.Open field head ∷ rest)
star_in _ = []
