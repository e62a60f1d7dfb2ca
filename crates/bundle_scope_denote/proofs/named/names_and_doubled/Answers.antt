-- One walk over the whole list is searched, and its first doubled declaration is told.
use Rattle.std.proofs.Common.{◌≡◌, map, ap, ◌∙◌, subst, List}
use Rattle.bundle_syntax.specs.Item.{Item, item_of}
use Rattle.bundle_rules.specs.Scopes.{ModuleKind}
use Rattle.bundle_rules.specs.Declarations.{Reading, BySymbol}
use Rattle.bundle_scope_denote.specs.declared.table.ModuleKind.{ModuleKind as Kind}
use Rattle.bundle_scope_denote.specs.declared.table.Reading.TheVariants as r
use Rattle.bundle_scope_denote.specs.declared.walk.ScopeWalk.{ScopeWalk}
use Rattle.bundle_scope_denote.specs.Kinds.{reading_as, kind_as}
use Rattle.bundle_scope_denote.specs.Steps.{IsWholeWalk}
use Rattle.bundle_scope_denote.proofs.StartLemmas.{whole-named, whole-seen}
use Rattle.bundle_scope_denote.proofs.TableLemmas.{whole-made}
use Rattle.bundle_scope_denote.proofs.named.names_and_doubled.Goals as goal

-- a walk by symbol that was begun for a kind is whole for that
whole-begun : (walk begun : ScopeWalk) (kind : Kind) (items : List Item) → begun.reading ≡ r.BySymbol → begun.kind ≡ kind → IsWholeWalk walk (reading_as begun.reading) (kind_as begun.kind) items → IsWholeWalk walk BySymbol (kind_as kind) items
whole-begun walk begun kind items by_symbol of_kind whole = subst (λ (k : ModuleKind). IsWholeWalk walk BySymbol k items) (ap kind_as of_kind) (subst (λ (read : Reading). IsWholeWalk walk read (kind_as begun.kind) items) (ap reading_as by_symbol) whole)

pub first_met-requires : goal.first_met-requires
first_met-requires c = whole-named (reading_as c.new-walk.result.reading) (kind_as c.new-walk.result.kind) (map item_of c.args.pieces.now) c.go_over_with_arguments.new.walk c.in_ok-go_over_with_arguments.ensures.whole

pub searched-requires-clause-named : goal.searched-requires-clause-named
searched-requires-clause-named c = whole-named (reading_as c.new-walk.result.reading) (kind_as c.new-walk.result.kind) (map item_of c.args.pieces.now) c.go_over_with_arguments.new.walk c.in_ok-go_over_with_arguments.ensures.whole

pub searched-requires-clause-seen : goal.searched-requires-clause-seen
searched-requires-clause-seen c = whole-seen (reading_as c.new-walk.result.reading) (kind_as c.new-walk.result.kind) (map item_of c.args.pieces.now) c.go_over_with_arguments.new.walk c.in_ok-go_over_with_arguments.ensures.whole

pub returns-clause-names : goal.returns-clause-names
returns-clause-names c =
    let whole = whole-begun c.go_over_with_arguments.new.walk c.new-walk.result c.args.kind (map item_of c.args.pieces.now) c.new-walk.ensures.reading c.new-walk.ensures.kind c.in_ok-go_over_with_arguments.ensures.whole in
    whole-made BySymbol (kind_as c.args.kind) (map item_of c.args.pieces.now) c.go_over_with_arguments.new.walk c.in_ok-found.found (ap reading_as (c.in_ok-go_over_with_arguments.ensures.stays.reading ∙ c.new-walk.ensures.reading)) whole c.in_ok-go_over_with_arguments.ensures.arguments c.in_ok-found.ensures c.table_of-names.result c.table_of-names.ensures.scopes c.table_of-names.ensures.bindings c.table_of-names.ensures.occurrences

pub returns-clause-doubled : goal.returns-clause-doubled
returns-clause-doubled c =
    c.in_ok-doubled.ensures (kind_as c.args.kind) (map item_of c.args.pieces.now)
    (whole-begun c.go_over_with_arguments.new.walk c.new-walk.result c.args.kind (map item_of c.args.pieces.now) c.new-walk.ensures.reading c.new-walk.ensures.kind c.in_ok-go_over_with_arguments.ensures.whole)
