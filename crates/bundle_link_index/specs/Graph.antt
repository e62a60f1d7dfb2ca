-- Own entries and stars of modules. A name of a module is a pair of numbers: that of the module,
-- and that of the name.
use Rattle.std.specs.Prelude.{◌≡◌, ℕ, ◌==◌, ◌&&◌, Bool, List, [], Option, map, slice_index_or, Some, unwrap_or, if◌then◌else◌}
use Rattle.std.specs.Map.{lookup}
use Rattle.bundle_link_index.specs.declared.links.OwnLink.{OwnLink}
use Rattle.bundle_link_index.specs.declared.links.Links.{Links}

abbrev pub NameSpot : Type 0
NameSpot = ℕ × ℕ

-- whether two are one
abbrev pub same_spot : NameSpot → NameSpot → Bool
same_spot a b = a.0 == b.0 && a.1 == b.1

-- own entries; for each module those that it stars; the name that no star gives
pub record Graph : Type 0 where
  pub entries : List (NameSpot × OwnLink)
  pub lists : List (List ℕ)
  pub default : ℕ

-- what the own entry of a name says, if there is one
abbrev pub own_of : Graph → NameSpot → Option OwnLink
own_of g at = lookup (same_spot at) g.entries

-- the modules that a module stars
abbrev pub stars_of : Graph → ℕ → List ℕ
stars_of g m = slice_index_or g.lists m []

-- as a program keeps it
abbrev pub graph_of : Links → Graph
graph_of links =
    record {
      entries = links.own.entries;
      lists = map (λ v. v.items) links.stars.items;
      default = links.default;
    }

-- the entry stands for the name, unless one did before; all others stay
abbrev pub PutsOwn : Graph → NameSpot → OwnLink → Graph → Type 0
PutsOwn old at own new =
    (other : NameSpot) →
    own_of new other
    ≡ (if same_spot at other then Some (unwrap_or (own_of old at) own) else own_of old other)
