-- The table of a walk that was searched whole.
use Rattle.std.proofs.Common.{◌≡◌, ℕ, List, Result, Ok, Err, IfOk, sym, subst}
use Rattle.bundle_syntax.specs.Item.{Item}
use Rattle.bundle_rules.specs.Scopes as s
use Rattle.bundle_rules.specs.Declarations as d
use Rattle.bundle_scope_denote.specs.declared.table.Denotations.{Denotations}
use Rattle.bundle_scope_denote.specs.declared.walk.ScopeWalk.{ScopeWalk}
use Rattle.bundle_scope_denote.specs.declared.homes.Homes.{Homes}
use Rattle.bundle_scope_denote.specs.declared.denote.BindingsFound.{BindingsFound}
use Rattle.bundle_scope_denote.specs.declared.denote.BindingSearch.{BindingSearch}
use Rattle.bundle_scope_denote.specs.Kinds.{reading_as}
use Rattle.bundle_scope_denote.specs.Steps.{walk_names, IsWholeWalk}
use Rattle.bundle_scope_denote.specs.Ready.{HasArguments, AreHomes, HoldsImplied}
use Rattle.bundle_scope_denote.specs.Searched.{keys_of, HaveOwnNumbers, MakesTable, Searches}
use Rattle.bundle_scope_denote.specs.Listed.{IsDenotationTable}
use Rattle.bundle_scope_denote.proofs.StartLemmas.{ready-first, own-numbers}
use Rattle.bundle_scope_denote.proofs.ListedLemmas.{table-whole}

-- from the homes on, the table says what each occurrence denotes
pub table-made : (reading : d.Reading) (kind : s.ModuleKind) (items : List Item) (walk : ScopeWalk) (homes : Homes) (of : List ℕ) (first last : BindingSearch) (table : Denotations) → IsWholeWalk walk reading kind items → HasArguments walk → AreHomes walk walk.declarations.items homes → HoldsImplied reading (walk_names walk) homes.bindings.keys.keys first.implied.keys → keys_of first ≡ homes.bindings.keys.keys → first.bindings.items.items ≡ homes.bindings.items.items → of ≡ homes.of.items → Searches reading walk of first last table.occurrences.items walk.occurrences.items → table.scopes.items ≡ walk.scopes.items → table.bindings.items ≡ last.bindings.items.items → IsDenotationTable reading kind items table
table-made reading kind items walk homes of first last table whole arguments known implied same_keys same_items same_of searched scopes bindings = table-whole reading kind items walk of last table whole (searched (d.declared reading kind items) (ready-first reading kind items walk homes first whole known arguments.0 arguments.1 implied same_keys same_items) own) scopes bindings
  where
    own : HaveOwnNumbers walk (d.declared reading kind items) of (keys_of first)
    own = subst (λ (l : List ℕ). HaveOwnNumbers walk (d.declared reading kind items) l (keys_of first)) (sym same_of) (subst (HaveOwnNumbers walk (d.declared reading kind items) homes.of.items) (sym same_keys) (own-numbers reading kind items walk homes whole known))

-- what holds of each result that is no error
pub if_ok : {T E : Type 0} {P Q : T → Type 0} (r : Result T E) → ((x : T) → P x → Q x) → IfOk r P → IfOk r Q
if_ok (Ok x) f known = f x known
if_ok (Err e) f known = known

-- a walk over a whole list in one reading was searched in it
pub whole-made : (reading : d.Reading) (kind : s.ModuleKind) (items : List Item) (walk : ScopeWalk) (found : BindingsFound) → reading_as walk.reading ≡ reading → IsWholeWalk walk reading kind items → HasArguments walk → ((kind : s.ModuleKind) (items : List Item) → IsWholeWalk walk (reading_as walk.reading) kind items → HasArguments walk → MakesTable (reading_as walk.reading) kind items walk found) → MakesTable reading kind items walk found
whole-made reading kind items walk found is whole arguments made = subst (λ (r : d.Reading). MakesTable r kind items walk found) is (made kind items (subst (λ (r : d.Reading). IsWholeWalk walk r kind items) (sym is) whole) arguments)
