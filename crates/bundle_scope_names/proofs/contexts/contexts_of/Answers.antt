-- The contexts by the table resolve the list.
use Rattle.std.proofs.Common.{◌≤◌, ℕ, List, map, Option, Some, None, arith}
use Rattle.std.specs.Prelude.{IfOk, IfSome, Result, Ok, Err}
use Rattle.bundle_syntax.specs.Item.{Item, item_of}
use Rattle.bundle_rules.specs.Scopes.{ModuleKind}
use Rattle.bundle_rules.specs.Declarations.{BySymbol}
use Rattle.bundle_scope_denote.specs.declared.table.Denotations.{Denotations}
use Rattle.bundle_scope_denote.specs.Kinds.{kind_as}
use Rattle.bundle_scope_denote.specs.Listed.{IsDenotationTable}
use Rattle.bundle_scope_names.specs.declared.contexts.ContextsGiven.{ContextsGiven}
use Rattle.bundle_scope_names.specs.Numbering.{AnswersNumbers}
use Rattle.bundle_scope_names.specs.Resolution.{ResolvesFit}
use Rattle.bundle_scope_names.proofs.Counting.{table-within, resolves}
use Rattle.bundle_scope_names.proofs.contexts.contexts_of.Goals as goal

resolved : {E : Type 0} (kind : ModuleKind) (items : List Item) (table : Denotations) → IsDenotationTable BySymbol kind items table → (local next : ℕ) (result : Result (Option ContextsGiven) E) → IfOk result (AnswersNumbers table local next) → IfOk result (ResolvesFit kind items local next)
resolved kind items table t local next (Ok answer) numbers = resolves kind items table t local next answer numbers
resolved kind items table t local next (Err e) numbers = tt

pub numbered-requires : goal.numbered-requires
numbered-requires c = table-within (kind_as c.args.kind) (map item_of c.args.pieces.now) c.in_ok-table.table c.in_ok-table.ensures

-- numbers rise
rises : {E : Type 0} (table : Denotations) (local next : ℕ) (result : Result (Option ContextsGiven) E) → IfOk result (AnswersNumbers table local next) → IfOk result (λ answer. IfSome answer (λ resolution. next ≤ resolution.next))
rises table local next (Ok None) numbers = tt
rises table local next (Ok (Some resolution)) numbers = omega (arith, numbers.later)
rises table local next (Err e) numbers = tt

pub returns-clause-resolves : goal.returns-clause-resolves
returns-clause-resolves c = resolved (kind_as c.args.kind) (map item_of c.args.pieces.now) c.in_ok-table.table c.in_ok-table.ensures c.args.local c.args.next c.numbered.result c.numbered.ensures

pub returns-clause-rises : goal.returns-clause-rises
returns-clause-rises c = rises c.in_ok-table.table c.args.local c.args.next c.numbered.result c.numbered.ensures
