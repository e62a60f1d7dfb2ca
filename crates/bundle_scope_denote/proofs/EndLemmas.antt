-- At the end of a list all of it was met.
use Rattle.std.proofs.Common.{◌≡◌, ℕ, List, [], ◌∷◌, ◌++◌, map, length, drop, refl, ap, sym, ◌∙◌, subst, append-nil}
use Rattle.std.specs.List.{AllZip}
use Rattle.bundle_syntax.specs.declared.piece.Piece.{Piece}
use Rattle.bundle_syntax.specs.Item.{Item, item_of}
use Rattle.bundle_rules.specs.Places as p
use Rattle.bundle_rules.specs.Scopes as s
use Rattle.bundle_rules.specs.Declarations as d
use Rattle.bundle_scope_denote.specs.declared.table.ModuleKind.{ModuleKind}
use Rattle.bundle_scope_denote.specs.declared.table.Reading.{Reading}
use Rattle.bundle_scope_denote.specs.declared.walk.ScopeWalk.{ScopeWalk}
use Rattle.bundle_scope_denote.specs.Kinds.{kind_as, reading_as}
use Rattle.bundle_scope_denote.specs.Chains.{top_number}
use Rattle.bundle_scope_denote.specs.Walked.{IsDeclared, IsSeen}
use Rattle.bundle_scope_denote.specs.Steps.{scopes_of, walk_names, IsWalkAt, IsTidyAt, IsWholeWalk}

-- nothing is behind the last place
nothing_behind : (pieces : List Piece) → drop (length pieces) (map item_of pieces) ≡ []
nothing_behind [] = refl
nothing_behind (piece ∷ rest) = nothing_behind rest

all_met : (walk : ScopeWalk) (items : List Item) (place : ℕ) → walk.top ≡ top_number (kind_as walk.kind) → IsWalkAt walk items place → IsTidyAt walk place → drop place items ≡ [] → IsWholeWalk walk (reading_as walk.reading) (kind_as walk.kind) items
all_met walk items place top at tidy behind =
    let reading : d.Reading = reading_as walk.reading in
    let kind : s.ModuleKind = kind_as walk.kind in
    let all_declared : at.declared.before ≡ d.declared reading kind items = sym (append-nil at.declared.before) ∙ ap (λ l. at.declared.before ++ d.declared_from reading kind (p.spot_before items place) l) (sym behind) ∙ at.declared.rest in
    let all_seen : at.seen.before ≡ p.occurrences items = sym (append-nil at.seen.before) ∙ ap (λ l. at.seen.before ++ p.occurrences_from (p.spot_before items place) l) (sym behind) ∙ at.seen.rest in
    record {
      declared = subst (λ l. AllZip (IsDeclared (scopes_of walk) (walk_names walk)) walk.declarations.items l) all_declared at.declared.each;
      seen = subst (λ l. AllZip (IsSeen (scopes_of walk) (walk_names walk) reading kind (d.declared reading kind items)) walk.occurrences.items l) all_seen at.seen.each;
      outermost = at.outermost;
      top = top;
      order = tidy.order;
      once = tidy.once;
    }

pub whole_at_end : (walk : ScopeWalk) (pieces : List Piece) (kind : ModuleKind) (reading : Reading) → IsWalkAt walk (map item_of pieces) (length pieces) → IsTidyAt walk (length pieces) → walk.kind ≡ kind → walk.reading ≡ reading → walk.top ≡ top_number (kind_as kind) → IsWholeWalk walk (reading_as reading) (kind_as kind) (map item_of pieces)
whole_at_end walk pieces kind reading at tidy is_kind is_reading is_top =
    subst (λ k. IsWholeWalk walk (reading_as reading) (kind_as k) (map item_of pieces)) is_kind
    (subst (λ r. IsWholeWalk walk (reading_as r) (kind_as walk.kind) (map item_of pieces)) is_reading
    (all_met walk (map item_of pieces) (length pieces) (is_top ∙ ap (λ k. top_number (kind_as k)) (sym is_kind)) at tidy (nothing_behind pieces)))
