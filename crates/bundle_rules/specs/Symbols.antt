-- What the bindings of a bundle are called before names are made apart: as in the source, or as the
-- linker calls what it adds (ECMA-262, 12.7 for what an identifier is).
use Rattle.std.specs.Prelude.{◌≡◌, ℕ, ◌==◌, ◌&&◌, Bool, true, false, List, [], ◌∷◌, Option, Some, None, Contains, codes, bytes_eq, find, flat_map, map, length, slice_get, zero, ◌+◌, option_map, unwrap_or, if◌then◌else◌}
use Rattle.bundle_rules.specs.Denotes.{Denoted, Bound, Global}
use Rattle.bundle_rules.specs.Scopes.{Scope, Es, Cjs}
use Rattle.bundle_rules.specs.Declarations.{Name, BySymbol}
use Rattle.bundle_syntax.specs.Item.{Item}
use Rattle.bundle_rules.specs.Nodes.{Text, side_by_side}
use Rattle.bundle_rules.specs.Statements.{TopItem, Element, taken_from, placed, own_statements}
use Rattle.bundle_rules.specs.Bundle.{Hooks, Labelled, sense_of, elements_of, ItemMeans, IsLoadFunction, MayHold, properties_tree, PropertiesMean, Pairing, StandsFor, Own, Defines, Helps, HoldsMeta}
use Rattle.std.specs.List.{AllZip}
use Rattle.bundle_rules.specs.Entries.{Taken, Named, Whole, ImportEntry, ExportEntry, Local, Indirect, Star}
use Rattle.bundle_rules.specs.Program.{Program, tree_of, resolves, IsList}
use Rattle.bundle_rules.specs.Linking.{Target, Declared, Namespace, External, CommonJs, imports, exports}
use Rattle.bundle_rules.specs.Meaning.{Mark, View, inner_bindings, own_view, Label, Of, Parameter, Load, Meta, Helper}
use Rattle.bundle_rules.specs.Injected.{is_ascii_identifier, meta_object}

-- whether the same is taken
abbrev pub same_taken : Taken → Taken → Bool
same_taken (Named x) (Named y) = bytes_eq x y
same_taken Whole Whole = true
same_taken _ _ = false

-- a name that is no identifier is called `name`
abbrev pub identifier_of : Text → Text
identifier_of x = if is_ascii_identifier x then x else codes "name"

-- the first import that takes this of what passes the test
abbrev pub importing : (Text → Bool) → Taken → List ImportEntry → Option ImportEntry
importing asks taken entries =
    find (λ entry. asks entry.specifier && same_taken entry.taken taken) entries

-- whether an export is `* as n` of what passes the test
abbrev pub exports_whole : (Text → Bool) → ExportEntry → Bool
exports_whole asks (Indirect name specifier Whole) = asks specifier
exports_whole asks _ = false

-- the name of an entry; a star has none
abbrev pub exported_name : ExportEntry → Text
exported_name (Local name of) = name
exported_name (Indirect name specifier taken) = name
exported_name (Star specifier) = []

-- what is taken of another module is called as the first import that takes it does, else by its own
-- name; a whole that no import takes, as the first export of it
abbrev pub name_without_import : (Text → Bool) → Taken → List ExportEntry → Text
name_without_import asks (Named x) entries = identifier_of x
name_without_import asks Whole entries =
    identifier_of (unwrap_or (option_map exported_name (find (exports_whole asks) entries)) [])

-- what is taken of another module is called so
abbrev pub taken_name : (Text → Bool) → Taken → List ImportEntry → List ExportEntry → Text
taken_name asks taken entries others =
    unwrap_or (option_map (λ entry. entry.local) (importing asks taken entries))
    (name_without_import asks taken others)

-- whether a number is there, and is n
abbrev pub is_number : Option ℕ → ℕ → Bool
is_number None n = false
is_number (Some m) n = m == n

-- what a label is called, where the modules stand in this list
abbrev pub symbol_of_target : Program → List ℕ → Target → Text
symbol_of_target p list (Declared m x) = x
symbol_of_target p list (Namespace m) = codes "mod"
symbol_of_target p list (External s taken) =
    taken_name (bytes_eq s) taken (flat_map (imports p) list) (flat_map (exports p) list)
symbol_of_target p list (CommonJs m c taken) =
    taken_name (λ s. is_number (resolves p m s) c) taken (imports p m) (exports p m)

-- what a label is called, where the modules stand in this list
abbrev pub symbol_of_label : Program → List ℕ → Label → Text
symbol_of_label p list (Of t) = symbol_of_target p list t
symbol_of_label p list (Parameter c x) = x
symbol_of_label p list (Load c) = codes "load"
symbol_of_label p list (Meta m) = codes "importMeta"
symbol_of_label p list Helper = codes "__swcpack_require__"

-- the symbol of what is denoted
abbrev pub denoted_symbol : Denoted → Text
denoted_symbol (Bound scope name) = name.sym
denoted_symbol (Global x) = x

-- the symbols of the bindings inside a statement, in the order of first mention
abbrev pub inner_symbols : View → ℕ → List Element → List Text
inner_symbols view start statement = map denoted_symbol (inner_bindings view start statement)

-- the symbols of the bindings inside an item
abbrev pub item_symbols : Labelled → TopItem → List Text
item_symbols b item = inner_symbols (sense_of b).view item.start (elements_of item)

-- the bindings inside an item are called as in the statement that it stands for, each spelled so
abbrev pub CalledAlike : (Text → Text) → Labelled → View → TopItem → List Element → Type 0
CalledAlike spelled b view item statement =
    item_symbols b item ≡ map spelled (inner_symbols view 0 statement)

-- the same of the properties of an `import.meta` object, which are those of an answer of the hook
-- that the object means
pub record CalledAsAnswered
    (spelled : Text → Text) (p : Program) (hooks : Hooks) (b : Labelled) (m : ℕ)
    (item : TopItem) : Type 0 where
  pub properties : List Item
  pub held : MayHold p hooks m properties
  pub marks : List Mark
  pub means : PropertiesMean properties marks
  pub object : ItemMeans b item (meta_object m marks)
  pub alike :
      CalledAlike spelled b
      (record { tree = properties_tree properties; kind = Es; reading = BySymbol }) item
      (taken_from 3 properties)

-- the bindings of a bundle are called right: each labelled one as its label and those inside items
-- as in the source, each spelled so
pub record AreCalled
    (spelled : Text → Text) (p : Program) (hooks : Hooks) (b : Labelled)
    (pairing : Pairing) : Type 0 where
  pub list : List ℕ
  pub is_list : IsList p list
  pub outer : (scope : Scope) (name : Name) (l : Label) →
      Contains pairing.labels (Bound scope name, l) →
      name.sym ≡ spelled (symbol_of_label p list l)
  pub own : (m k : ℕ) (item : TopItem) (statement : List Element) →
      StandsFor pairing (Own m k) item →
      slice_get (own_statements (tree_of p m)) k ≡ Some statement →
      CalledAlike spelled b (own_view p m Es) item statement
  pub common_js : (c : ℕ) (item : TopItem) (f : IsLoadFunction p b c item) →
      StandsFor pairing (Defines c) item →
      AllZip (CalledAlike spelled b (own_view p c Cjs))
      (placed (item.start + length f.front) (side_by_side zero f.inside))
      (own_statements (tree_of p c))
  pub helper : (item : TopItem) →
      StandsFor pairing Helps item →
      item_symbols b item ≡ codes "fn" ∷ codes "module" ∷ []
  pub metas : (m : ℕ) (item : TopItem) →
      StandsFor pairing (HoldsMeta m) item →
      CalledAsAnswered spelled p hooks b m item
