-- Items that are one node, and items with no specifier that ends in a lone name.
use Rattle.std.specs.Prelude.{◌≡◌, ℕ, zero, suc, List, [], ◌∷◌}
use Rattle.bundle_syntax.specs.Item as h
use Rattle.bundle_syntax.specs.Item.{Item}
use Rattle.bundle_merge_theory.specs.joined.Joined.{AllOf}
use Rattle.bundle_merge_theory.specs.walked.Renaming.{HasNoLoneName}
use Rattle.bundle_merge_theory.specs.composed.Noted.{NotedItem, AsWhole, AsFunction}

-- how many nodes, names and holes stand side by side, where so many nodes are open
abbrev pub nodes_in : ℕ → List Item → ℕ
nodes_in depth [] = 0
nodes_in depth (h.Open field head ∷ rest) = nodes_in (suc depth) rest
nodes_in zero (h.Ident field x c role ∷ rest) = suc (nodes_in zero rest)
nodes_in (suc depth) (h.Ident field x c role ∷ rest) = nodes_in (suc depth) rest
nodes_in zero (h.Hole field ∷ rest) = suc (nodes_in zero rest)
nodes_in (suc depth) (h.Hole field ∷ rest) = nodes_in (suc depth) rest
nodes_in zero (h.Close ∷ rest) = 0
nodes_in (suc zero) (h.Close ∷ rest) = suc (nodes_in zero rest)
nodes_in (suc (suc depth)) (h.Close ∷ rest) = nodes_in (suc depth) rest

-- each statement, and each item that is a whole, is one node
abbrev pub OneNode : List Item → NotedItem → Type 0
OneNode item (AsWhole told) = nodes_in 0 item ≡ 1
OneNode item (AsFunction front names insides tolds) = AllOf (λ part. nodes_in 0 part ≡ 1) insides

-- no specifier of an item ends in a lone name; in a function, of none of its statements
abbrev pub NoLone : List Item → NotedItem → Type 0
NoLone item (AsWhole told) = HasNoLoneName item
NoLone item (AsFunction front names insides tolds) = AllOf HasNoLoneName insides
