-- Which contexts a resolver gives: one for all that the top of a module binds, so that modules can
-- be told apart; 1 for what nothing binds; and numbers of its own for all else (own: contexts are a
-- linker's marks on identifiers).
use Rattle.std.specs.Prelude.{ℕ, ◌+◌, ◌==◌, ◌≤◌, ◌&&◌, ◌||◌, Bool as Truth, nat_le, nat_lt, IsTrue, List}
use Rattle.std.specs.List.{AllZip}
use Rattle.bundle_syntax.specs.Item.{Item}
use Rattle.bundle_rules.specs.Places.{Occurrence, occurrences}
use Rattle.bundle_rules.specs.Scopes.{ModuleKind, Top, Wrapper, Inner}
use Rattle.bundle_rules.specs.Declarations.{BySymbol}
use Rattle.bundle_rules.specs.Denotes.{Denoted, Bound, Global, denotations}
use Rattle.bundle_rules.specs.Counts.{scope_count, binding_count}

-- whether a context is one of the numbers from `next` up to `later`
abbrev pub is_new : (next later : ℕ) → ℕ → Truth
is_new next later ctxt = nat_le next ctxt && nat_lt ctxt later

-- whether an occurrence that denotes this may have the context: a name of the top has the local one
-- and a global 1; a parameter or the `arguments` of a CommonJS module's function has the local one
-- or a new one, and all else a new one
abbrev pub may_have_context : (local next later : ℕ) → Denoted → ℕ → Truth
may_have_context local next later (Global sym) ctxt = ctxt == 1
may_have_context local next later (Bound Top name) ctxt = ctxt == local
may_have_context local next later (Bound Wrapper name) ctxt =
    ctxt == local || is_new next later ctxt
may_have_context local next later (Bound (Inner kind begins) name) ctxt = is_new next later ctxt

-- the contexts that a resolver gives, and how many numbers it takes: at most one for each scope and
-- binding
pub record GivesContexts
    (kind : ModuleKind) (local next later : ℕ) (before after : List Item) : Type 0 where
  pub given :
      AllZip (λ (d : Denoted) (o : Occurrence). IsTrue (may_have_context local next later d o.ctxt))
      (denotations BySymbol kind before) (occurrences after)
  pub enough : later ≤ next + scope_count kind before + binding_count kind before
