-- The statements of a CommonJS module, one after another, and what is noted of the item of its
-- load function.
use Rattle.std.specs.Prelude.{ℕ, zero, Bool, true, false, cond, List, [], ◌∷◌, filter, fold, map, codes, ⊤}
use Rattle.std.specs.List.{AllZip}
use Rattle.bundle_syntax.specs.Item.{Item}
use Rattle.bundle_rules.specs.Places.{Spot, past, occurrences_from}
use Rattle.bundle_rules.specs.Scopes.{Cjs}
use Rattle.bundle_rules.specs.Declarations.{BySymbol, Declared}
use Rattle.bundle_rules.specs.Denotes.{Denoted, denoted_of}
use Rattle.bundle_rules.specs.Idents.{Ident}
use Rattle.bundle_rules.specs.Mentions.{each_denoted_once}
use Rattle.bundle_rules.specs.Meaning.{Label, Load, Helper, Parameter, Meant, Inside, Known, Unbound, is_inside}
use Rattle.bundle_merge_theory.specs.joined.Notes.{own_denoted}
use Rattle.bundle_merge_theory.specs.loaded.Turned.{Turned}
use Rattle.bundle_merge_theory.specs.loaded.Names.{LabelTable, NameNoted}

-- each statement (with empty ones in front of it) and what becomes of it
pub data Pieced (L : Ident → Type 0) : List (List Item) → List (List Item) → Type 0 where
  no_more : Pieced L [] []
  one_more : {x y : List Item} {xs ys : List (List Item)} → Turned L zero x y → Pieced L xs ys →
      Pieced L (x ∷ xs) (y ∷ ys)

-- the bindings inside a statement of the module that stands at this spot
abbrev pub inner_there : List Declared → Spot → List Item → List Denoted
inner_there ds s x =
    each_denoted_once (filter (is_inside 0)
    (map (denoted_of BySymbol Cjs ds) (occurrences_from s x)))

-- what the names of a part of an item denote by itself, in turn
abbrev pub own_from : List Item → Spot → List Item → List Denoted
own_from item s part = map (own_denoted item) (occurrences_from s part)

-- whether it is told that a name means a binding inside
abbrev pub is_told_inside : Meant → Bool
is_told_inside (Inside n) = true
is_told_inside (Known l) = false
is_told_inside (Unbound x) = false

-- what names denote of which this is told, in turn
abbrev pub told_inside : List Denoted → List Meant → List Denoted
told_inside [] meants = []
told_inside (d ∷ ds) [] = []
told_inside (d ∷ ds) (meant ∷ meants) =
    cond (is_told_inside meant) (d ∷ told_inside ds meants) (told_inside ds meants)

-- a statement in an item is noted
abbrev pub StatementNoted : List (List Item) → LabelTable → List Item → Spot → List Item →
    List Meant →
    Type 0
StatementNoted items table item s part meants =
    AllZip (NameNoted items table item s.place
    (each_denoted_once (told_inside (own_from item s part) meants)))
    (occurrences_from s part) meants

abbrev pub StatementsNoted : List (List Item) → LabelTable → List Item → Spot → List (List Item) →
    List (List Meant) → Type 0
StatementsNoted items table item s [] [] = ⊤
StatementsNoted items table item s (part ∷ parts) (meants ∷ more) =
    StatementNoted items table item s part meants
    × StatementsNoted items table item (fold past s part) parts more
StatementsNoted items table item s _ _ = ⊥

-- what the names in front stand for
abbrev pub function_names : ℕ → List Label
function_names c =
    Load c ∷ Helper ∷ Parameter c (codes "module") ∷ Parameter c (codes "exports") ∷ []
