-- What a resolver answers for a list: contexts for its occurrences in turn, which tell its bindings
-- apart.
use Rattle.std.specs.Prelude.{◌≡◌, ◌≢◌, ℕ, ◌+◌, ◌<◌, List, [], ◌∷◌, Option, Some, None, length}
use Rattle.bundle_syntax.specs.Item.{Item}
use Rattle.bundle_rules.specs.Places.{Occurrence, occurrences}
use Rattle.bundle_rules.specs.Scopes.{ModuleKind}
use Rattle.bundle_rules.specs.Counts.{scope_count, binding_count}
use Rattle.bundle_rules.specs.Idents.{Ident}
use Rattle.bundle_rules.specs.Rebuilds.{with_idents}
use Rattle.bundle_rules.specs.Renamed.{IsResolvedFrom}
use Rattle.bundle_scope_names.specs.declared.contexts.ContextsGiven.{ContextsGiven}

-- the identifiers of these occurrences, with other contexts in turn
abbrev pub with_contexts : List Occurrence → List ℕ → List Ident
with_contexts [] contexts = []
with_contexts (o ∷ os) [] = []
with_contexts (o ∷ os) (c ∷ cs) = (o.sym, c) ∷ with_contexts os cs

-- a tree with these contexts at its occurrences in turn
abbrev pub tree_with : List Item → List ℕ → List Item
tree_with tree contexts = with_idents tree (with_contexts (occurrences tree) contexts)

-- what is lent to a resolver is fit: the context of the top is not that of globals, and the next
-- number is above both
pub record AreContextsFit (local next : ℕ) : Type 0 where
  pub apart : local ≢ 1
  pub above : 1 < next
  pub beyond : local < next

-- the contexts resolve the tree, one for each occurrence; where there is no answer, the numbers
-- from `next` on do not suffice for its scopes and bindings
abbrev pub ResolvesTree : ModuleKind → List Item → (local next : ℕ) → Option ContextsGiven → Type 0
ResolvesTree kind tree local next None =
    4294967295 < next + scope_count kind tree + binding_count kind tree
ResolvesTree kind tree local next (Some resolution) =
    (length resolution.contexts.items ≡ length (occurrences tree))
    × IsResolvedFrom kind local next resolution.next tree (tree_with tree resolution.contexts.items)

-- the same where what is lent is fit
abbrev pub ResolvesFit : ModuleKind → List Item → (local next : ℕ) → Option ContextsGiven → Type 0
ResolvesFit kind tree local next answer = AreContextsFit local next →
    ResolvesTree kind tree local next answer
