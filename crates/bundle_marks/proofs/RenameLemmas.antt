-- What a map of names says of an identifier.
use Rattle.std.proofs.Common.{◌≡◌, ℕ, List, map, ap, ◌∙◌}
use Rattle.std.specs.Map.{lookup}
use Rattle.std.specs.Option.{option_map}
use Rattle.std.specs.Ordering.{is_eq}
use Rattle.bundle_rules.specs.Nodes.{Text}
use Rattle.bundle_rules.specs.Rebuilds.{ident_eq}
use Rattle.bundle_tree.specs.IdName.{IdName, name_cmp}
use Rattle.bundle_tree.specs.IdNameLaws.{name_cmp-ties}
use Rattle.bundle_tree_places.proofs.RenameLemmas.{lookup-map, lookup-same}
use Rattle.bundle_marks.specs.Idents.{ident_named, pair_named}

-- what is found for an identifier is what the map has for its name
pub lookup-named : (pairs : List (IdName × IdName)) (name : IdName) → lookup (ident_eq (ident_named name)) (map pair_named pairs) ≡ option_map ident_named (lookup (λ key. is_eq (name_cmp name key)) pairs)
lookup-named pairs name =
    lookup-map ident_named ident_named (ident_eq (ident_named name)) pairs
    ∙ ap (option_map ident_named) (lookup-same (λ key. ident_eq (ident_named name) (ident_named key)) (λ key. is_eq (name_cmp name key)) (λ key. name_cmp-ties name key) pairs)

-- the same text and the same context make the same identifier
pub both : {x y : Text} {m n : ℕ} → x ≡ y → m ≡ n → ident_named (record { symbol = x; context = m }) ≡ ident_named (record { symbol = y; context = n })
both texts contexts = λ i. (texts i, contexts i)
