-- The search finds what the definitions find.
use Rattle.std.proofs.Common.{◌≡◌, ℕ, Bool, true, false, cond, List, [], ◌∷◌, ◌++◌, Option, Some, None, find, length, map, option_map, if◌then◌else◌, refl, ap, ap₂, sym, ◌∙◌, subst}
use Rattle.std.specs.Prelude.{slice_get, is_some}
use Rattle.std.specs.List.{list_any}
use Rattle.std.proofs.lemmas.Bool.{false≢true}
use Rattle.std.proofs.lemmas.Option.{none-some, same_Some, slice_get-map}
use Rattle.bundle_rules.specs.Places as p
use Rattle.bundle_rules.specs.Scopes as s
use Rattle.bundle_rules.specs.Declarations as d
use Rattle.bundle_rules.specs.Homes as o
use Rattle.bundle_rules.specs.Denotes as e
use Rattle.bundle_scope_denote.specs.declared.table.Binding.{Binding}
use Rattle.bundle_scope_denote.specs.declared.table.Scope.{Scope}
use Rattle.bundle_scope_denote.specs.declared.walk.NameKey.{NameKey}
use Rattle.bundle_scope_denote.specs.declared.walk.NameOccurrence.{NameOccurrence}
use Rattle.bundle_scope_denote.specs.declared.walk.ScopeWalk.{ScopeWalk}
use Rattle.bundle_scope_denote.specs.declared.denote.BindingSearch.{BindingSearch}
use Rattle.bundle_scope_denote.specs.Numbers.{AreAround, KeepsNumbers, name_as, numbered_scope}
use Rattle.bundle_scope_denote.specs.Chains.{numbered_scope_at, scopes_outwards, nearest_at, IsOnce}
use Rattle.bundle_scope_denote.specs.Bound.{ScopeKey, same_key, put_key, binds_at, reads, adds, is_name_bound, alone, TellsBound, TellsImplied, SaysDenoted, NumberOf}
use Rattle.bundle_scope_denote.specs.Walked.{at_number}
use Rattle.bundle_scope_denote.specs.Steps.{scopes_of, walk_names}
use Rattle.bundle_scope_denote.specs.Ready.{Matches, FindsAlone, binding_name}
use Rattle.bundle_scope_denote.specs.Searched.{keys_of, put_found, Puts, IsSearchReady, Denotes, HaveOwnNumbers, DenotesSeen}
use Rattle.bundle_scope_denote.proofs.ZipLemmas.{BothOrNone}
use Rattle.bundle_scope_denote.proofs.ChainLemmas.{Keeps-same, Keeps-append}
use Rattle.bundle_scope_denote.proofs.OutwardLemmas.{IsScopeAt}
use Rattle.bundle_scope_denote.proofs.InsertLemmas.{once-put}
use Rattle.bundle_scope_denote.proofs.FoundLemmas.{bound-around, says-found, says-implied, tells-put}

-- what is found passes
find-passes : {X : Type 0} (p : X → Bool) (xs : List X) (x : X) → find p xs ≡ Some x → p x ≡ true
find-passes p [] x e = absurd (none-some x e)
find-passes {X = X} p (y ∷ ys) x e = by (find-passes p ys x) (p y) refl e
  where
    by : (find p ys ≡ Some x → p x ≡ true) → (b : Bool) → p y ≡ b → cond b (Some y) (find p ys) ≡ Some x → p x ≡ true
    by later true is found = ap p (sym (same_Some y x found)) ∙ is
    by later false is found = later found

-- a key that is put changes no number
pub put-keeps : (keys : List ScopeKey) (key : ScopeKey) → KeepsNumbers keys (put_key keys key)
put-keeps keys key = by (list_any (same_key key) keys)
  where
    by : (t : Bool) → KeepsNumbers keys (if t then keys else keys ++ key ∷ [])
    by true = Keeps-same keys keys refl
    by false = Keeps-append keys (key ∷ [])

found-keeps : (keys : List ScopeKey) (found : Option ℕ) (number : ℕ) → KeepsNumbers keys (put_found keys found number)
found-keeps keys None number = Keeps-same keys keys refl
found-keeps keys (Some scope) number = put-keeps keys (scope, number)

pub puts-keeps : (old new : BindingSearch) (found : Option ℕ) (name : d.Name) (number : ℕ) (result : Option ℕ) → Puts old new found name number result → KeepsNumbers (keys_of old) (keys_of new)
puts-keeps old new found name number result puts = subst (λ l. KeepsNumbers (keys_of old) l) (sym puts.keys) (found-keeps (keys_of old) found number)

-- the tables tell the same once a name is put that the scope binds
pub puts-ready : (reading : d.Reading) (walk : ScopeWalk) (all : List d.Declared) (old new : BindingSearch) (found : Option ℕ) (name : d.Name) (number : ℕ) (result : Option ℕ) → slice_get (walk_names walk) number ≡ Some name → Puts old new found name number result → ((f : ℕ) (scope : s.Scope) → found ≡ Some f → numbered_scope_at (scopes_of walk) f ≡ Some scope → reads reading name ≡ true → is_name_bound reading all scope name ≡ true) → IsSearchReady reading walk all old → IsSearchReady reading walk all new
puts-ready reading walk all old new found name number result at puts binds ready = record {
  order = ready.order;
  tells = subst (λ l. TellsBound reading (scopes_of walk) (walk_names walk) all l) (sym puts.keys) (tells found refl);
  implied = λ is. subst (λ (l : List ScopeKey). TellsImplied (scopes_of walk) (walk_names walk) all l) (sym puts.implied) (ready.implied is);
  nowhere = ready.nowhere;
  once = subst (λ (l : List ScopeKey). IsOnce l) (sym puts.keys) (once found);
  matches = puts.matches (walk_names walk) at ready.matches;
}
  where
    tells : (f : Option ℕ) → found ≡ f → TellsBound reading (scopes_of walk) (walk_names walk) all (put_found (keys_of old) f number)
    tells None is = ready.tells
    tells (Some f) is = tells-put reading (scopes_of walk) (walk_names walk) all (keys_of old) ready.tells (f, number) (λ scope other at_scope at_other fits. let same : name ≡ other = same_Some name other (sym at ∙ at_other) in subst (λ (x : d.Name). is_name_bound reading all scope x ≡ true) same (binds f scope is at_scope (ap (reads reading) same ∙ fits)))

    once : (f : Option ℕ) → IsOnce (put_found (keys_of old) f number)
    once None = ready.once
    once (Some f) = once-put (keys_of old) (f, number) ready.once

-- a name that was found among the bindings
bound-puts : (reading : d.Reading) (walk : ScopeWalk) (all : List d.Declared) (old new : BindingSearch) (name : d.Name) (number from : ℕ) (result : Option ℕ) → slice_get (walk_names walk) number ≡ Some name → Puts old new (nearest_at (scopes_of walk) (binds_at (scopes_of walk) (keys_of old) (adds reading name) number) from) name number result → IsSearchReady reading walk all old → IsSearchReady reading walk all new
bound-puts reading walk all old new name number from result at puts ready = puts-ready reading walk all old new (nearest_at (scopes_of walk) (binds_at (scopes_of walk) (keys_of old) (adds reading name) number) from) name number result at puts (λ f scope is at_scope fits. sym (ready.tells f number scope name at_scope at fits) ∙ find-passes (binds_at (scopes_of walk) (keys_of old) (adds reading name) number) (scopes_outwards (scopes_of walk) (length (scopes_of walk)) (Some from)) f is) ready

pub symbol-denotes : (walk : ScopeWalk) (old new : BindingSearch) (name : d.Name) (number from : ℕ) (result : Option ℕ) → slice_get (walk_names walk) number ≡ Some name → Puts old new (nearest_at (scopes_of walk) (binds_at (scopes_of walk) (keys_of old) (o.is_arguments name.sym) number) from) name number result → Denotes d.BySymbol walk old new name number from result
symbol-denotes walk old new name number from result at puts = record {
  ready = λ all ready. bound-puts d.BySymbol walk all old new name number from result at puts ready;
  keeps = puts-keeps old new _ name number result puts;
  says = λ all around ready known fits. says-found (scopes_of walk) (walk_names walk) (keys_of new) number name at (nearest_at (scopes_of walk) (binds_at (scopes_of walk) (keys_of old) (o.is_arguments name.sym) number) from) result (find (λ scope. is_name_bound d.BySymbol all scope name) around) (bound-around d.BySymbol (scopes_of walk) (walk_names walk) all (keys_of old) ready.order ready.tells number name at fits from around known) puts.result_number;
}

-- by symbol and context: an identifier declares the name
pub written-denotes : (walk : ScopeWalk) (old new : BindingSearch) (name : d.Name) (number from : ℕ) (result : Option ℕ) → slice_get (walk_names walk) number ≡ Some name → is_some (nearest_at (scopes_of walk) (binds_at (scopes_of walk) (keys_of old) false number) from) ≡ true → Puts old new (nearest_at (scopes_of walk) (binds_at (scopes_of walk) (keys_of old) false number) from) name number result → Denotes d.ByContext walk old new name number from result
written-denotes walk old new name number from result at is puts = record {
  ready = λ all ready. bound-puts d.ByContext walk all old new name number from result at puts ready;
  keeps = puts-keeps old new _ name number result puts;
  says = λ all around ready known fits. by all around (nearest_at (scopes_of walk) (binds_at (scopes_of walk) (keys_of old) false number) from) (find (λ scope. is_name_bound d.ByContext all scope name) around) is (bound-around d.ByContext (scopes_of walk) (walk_names walk) all (keys_of old) ready.order ready.tells number name at fits from around known) puts.result_number;
}
  where
    by : (all : List d.Declared) (around : List s.Scope) (found : Option ℕ) (scope : Option s.Scope) → is_some found ≡ true → BothOrNone (IsScopeAt (scopes_of walk)) found scope → NumberOf (keys_of new) number found result → SaysDenoted (scopes_of walk) (walk_names walk) (keys_of new) result (e.written_or_implied all around name scope)
    by all around None scope is both number_is = absurd (false≢true is)
    by all around (Some f) None is both number_is = absurd both
    by all around (Some f) (Some scope) is both number_is = says-found (scopes_of walk) (walk_names walk) (keys_of new) number name at (Some f) result (Some scope) both number_is

-- nothing declares it
not_written : (walk : ScopeWalk) (all : List d.Declared) (search : BindingSearch) (name : d.Name) (number from : ℕ) (around : List s.Scope) → slice_get (walk_names walk) number ≡ Some name → is_some (nearest_at (scopes_of walk) (binds_at (scopes_of walk) (keys_of search) false number) from) ≡ false → IsSearchReady d.ByContext walk all search → AreAround (scopes_of walk) (Some from) around → reads d.ByContext name ≡ true → find (λ scope. e.is_written_in all scope name) around ≡ None
not_written walk all search name number from around at is ready known fits = by (nearest_at (scopes_of walk) (binds_at (scopes_of walk) (keys_of search) false number) from) (find (λ scope. e.is_written_in all scope name) around) refl is (bound-around d.ByContext (scopes_of walk) (walk_names walk) all (keys_of search) ready.order ready.tells number name at fits from around known)
  where
    by : (found : Option ℕ) (scope : Option s.Scope) → find (λ scope. e.is_written_in all scope name) around ≡ scope → is_some found ≡ false → BothOrNone (IsScopeAt (scopes_of walk)) found scope → find (λ scope. e.is_written_in all scope name) around ≡ None
    by None None there is both = there
    by None (Some scope) there is both = absurd both
    by (Some f) scope there is both = absurd (false≢true (sym is))

unchanged : (walk : ScopeWalk) (old : BindingSearch) (name : d.Name) (number from : ℕ) → ((all : List d.Declared) (around : List s.Scope) → IsSearchReady d.ByContext walk all old → AreAround (scopes_of walk) (Some from) around → reads d.ByContext name ≡ true → SaysDenoted (scopes_of walk) (walk_names walk) (keys_of old) None (e.denoted_in d.ByContext all around name)) → Denotes d.ByContext walk old old name number from None
unchanged walk old name number from says = record { ready = λ all ready. ready; keeps = Keeps-same (keys_of old) (keys_of old) refl; says = says }

-- and it is a global
pub unresolved-denotes : (walk : ScopeWalk) (old : BindingSearch) (name : d.Name) (number from : ℕ) → slice_get (walk_names walk) number ≡ Some name → is_some (nearest_at (scopes_of walk) (binds_at (scopes_of walk) (keys_of old) false number) from) ≡ false → e.is_unresolved name.ctxt ≡ true → Denotes d.ByContext walk old old name number from None
unresolved-denotes walk old name number from at is global = unchanged walk old name number from (λ all around ready known fits. subst (λ x. SaysDenoted (scopes_of walk) (walk_names walk) (keys_of old) None (e.written_or_implied all around name x)) (sym (not_written walk all old name number from around at is ready known fits)) (subst (λ t. SaysDenoted (scopes_of walk) (walk_names walk) (keys_of old) None (cond t (e.Global name.sym) (e.bound_in (e.without_context name) (find (λ scope. e.is_implied_in all scope name) around)))) (sym global) tt))

-- nothing that passes nowhere is found
find-nowhere : {X : Type 0} (p : X → Bool) → ((x : X) → p x ≡ false) → (xs : List X) → find p xs ≡ None
find-nowhere p never [] = refl
find-nowhere p never (x ∷ xs) = ap (λ t. cond t (Some x) (find p xs)) (never x) ∙ find-nowhere p never xs

pub nowhere-denotes : (walk : ScopeWalk) (old : BindingSearch) (name : d.Name) (number from : ℕ) → slice_get (walk_names walk) number ≡ Some name → is_some (nearest_at (scopes_of walk) (binds_at (scopes_of walk) (keys_of old) false number) from) ≡ false → e.is_unresolved name.ctxt ≡ false → FindsAlone (walk_names walk) name.sym None → Denotes d.ByContext walk old old name number from None
nowhere-denotes walk old name number from at is resolved absent = unchanged walk old name number from (λ all around ready known fits. subst (λ x. SaysDenoted (scopes_of walk) (walk_names walk) (keys_of old) None (e.written_or_implied all around name x)) (sym (not_written walk all old name number from around at is ready known fits)) (subst (λ t. SaysDenoted (scopes_of walk) (walk_names walk) (keys_of old) None (cond t (e.Global name.sym) (e.bound_in (e.without_context name) (find (λ scope. e.is_implied_in all scope name) around)))) (sym resolved) (subst (λ x. SaysDenoted (scopes_of walk) (walk_names walk) (keys_of old) None (e.bound_in (e.without_context name) x)) (sym (find-nowhere (λ scope. e.is_implied_in all scope name) (ready.nowhere refl name absent) around)) tt)))

-- or what is implied
pub implied-denotes : (walk : ScopeWalk) (old new : BindingSearch) (name : d.Name) (number without from : ℕ) (result : Option ℕ) → slice_get (walk_names walk) number ≡ Some name → slice_get (walk_names walk) without ≡ Some (alone name.sym) → is_some (nearest_at (scopes_of walk) (binds_at (scopes_of walk) (keys_of old) false number) from) ≡ false → e.is_unresolved name.ctxt ≡ false → Puts old new (nearest_at (scopes_of walk) (binds_at (scopes_of walk) old.implied.keys (o.is_arguments name.sym) without) from) (alone name.sym) without result → Denotes d.ByContext walk old new name number from result
implied-denotes walk old new name number without from result at at_alone is resolved puts = record {
  ready = λ all ready. puts-ready d.ByContext walk all old new _ (alone name.sym) without result at_alone puts (λ f scope there at_scope fits. absurd (false≢true fits)) ready;
  keeps = puts-keeps old new _ (alone name.sym) without result puts;
  says = λ all around ready known fits. subst (λ x. SaysDenoted (scopes_of walk) (walk_names walk) (keys_of new) result (e.written_or_implied all around name x)) (sym (not_written walk all old name number from around at is ready known fits)) (says-implied (scopes_of walk) (walk_names walk) all (keys_of new) old.implied.keys ready.order (ready.implied refl) name without at_alone from around known resolved result puts.result_number);
}

-- a name has the number that it has in the walk
pub named-walk : (walk : ScopeWalk) (number : ℕ) (name : NameKey) → slice_get walk.names.keys number ≡ Some name → slice_get (walk_names walk) number ≡ Some (name_as name)
named-walk walk number name at = slice_get-map name_as walk.names.keys number ∙ ap (option_map name_as) at

-- what was found among the scopes of the walk
pub found-walk : (walk : ScopeWalk) (scopes : List Scope) (keys : List ScopeKey) (adds other : Bool) (number from : ℕ) (found : Option ℕ) → scopes ≡ walk.scopes.items → adds ≡ other → found ≡ nearest_at (map numbered_scope scopes) (binds_at (map numbered_scope scopes) keys adds number) from → found ≡ nearest_at (scopes_of walk) (binds_at (scopes_of walk) keys other number) from
found-walk walk scopes keys adds other number from found same_scopes same is = is ∙ ap₂ (λ (l : List Scope) (t : Bool). nearest_at (map numbered_scope l) (binds_at (map numbered_scope l) keys t number) from) same_scopes same

-- nothing is put where nothing was found
pub puts-none : (search : BindingSearch) (found : Option ℕ) (name : d.Name) (number : ℕ) → found ≡ None → Puts search search found name number None
puts-none search found name number is = record {
  keys = sym (ap (λ f. put_found (keys_of search) f number) is);
  result_number = subst (λ f. NumberOf (keys_of search) number f None) (sym is) tt;
  matches = λ names at known. known;
  implied = refl;
}

-- and else the key
pub puts-some : (old new : BindingSearch) (found : Option ℕ) (scope : ℕ) (name : d.Name) (number result : ℕ) (binding : Binding) → found ≡ Some scope → keys_of new ≡ put_key (keys_of old) (scope, number) → slice_get (keys_of new) result ≡ Some (scope, number) → ((names : List d.Name) → slice_get names number ≡ Some (binding_name binding) → binding.scope ≡ scope → Matches names old.bindings.items.items (keys_of old) → Matches names new.bindings.items.items (keys_of new)) → binding_name binding ≡ name → binding.scope ≡ scope → new.implied.keys ≡ old.implied.keys → Puts old new found name number (Some result)
puts-some old new found scope name number result binding is keys at matches is_name in_scope implied = record {
  keys = keys ∙ sym (ap (λ f. put_found (keys_of old) f number) is);
  result_number = subst (λ f. NumberOf (keys_of new) number f (Some result)) (sym is) at;
  matches = λ names named known. matches names (named ∙ ap (λ x. Some x) (sym is_name)) in_scope known;
  implied = implied;
}

-- a name by its symbol
pub symbol-found : (walk : ScopeWalk) (old new : BindingSearch) (name : NameKey) (number from : ℕ) (found result : Option ℕ) → slice_get walk.names.keys number ≡ Some name → found ≡ nearest_at (scopes_of walk) (binds_at (scopes_of walk) (keys_of old) (o.is_arguments name.sym.now) number) from → Puts old new found (name_as name) number result → Denotes d.BySymbol walk old new (name_as name) number from result
symbol-found walk old new name number from found result at is puts = symbol-denotes walk old new (name_as name) number from result (named-walk walk number name at) (subst (λ (f : Option ℕ). Puts old new f (name_as name) number result) is puts)

-- by symbol and context
pub written-found : (walk : ScopeWalk) (old new : BindingSearch) (name : NameKey) (number from : ℕ) (found result : Option ℕ) → slice_get walk.names.keys number ≡ Some name → found ≡ nearest_at (scopes_of walk) (binds_at (scopes_of walk) (keys_of old) false number) from → is_some found ≡ true → Puts old new found (name_as name) number result → Denotes d.ByContext walk old new (name_as name) number from result
written-found walk old new name number from found result at is some puts = written-denotes walk old new (name_as name) number from result (named-walk walk number name at) (ap is_some (sym is) ∙ some) (subst (λ (f : Option ℕ). Puts old new f (name_as name) number result) is puts)

pub unresolved-found : (walk : ScopeWalk) (old : BindingSearch) (name : NameKey) (number from : ℕ) (found : Option ℕ) → slice_get walk.names.keys number ≡ Some name → found ≡ nearest_at (scopes_of walk) (binds_at (scopes_of walk) (keys_of old) false number) from → is_some found ≡ false → e.is_unresolved name.ctxt ≡ true → Denotes d.ByContext walk old old (name_as name) number from None
unresolved-found walk old name number from found at is none global = unresolved-denotes walk old (name_as name) number from (named-walk walk number name at) (ap is_some (sym is) ∙ none) global

pub nowhere-found : (walk : ScopeWalk) (old : BindingSearch) (name : NameKey) (number from : ℕ) (found without : Option ℕ) → slice_get walk.names.keys number ≡ Some name → found ≡ nearest_at (scopes_of walk) (binds_at (scopes_of walk) (keys_of old) false number) from → is_some found ≡ false → e.is_unresolved name.ctxt ≡ false → without ≡ None → FindsAlone (walk_names walk) name.sym.now without → Denotes d.ByContext walk old old (name_as name) number from None
nowhere-found walk old name number from found without at is none resolved absent finds = nowhere-denotes walk old (name_as name) number from (named-walk walk number name at) (ap is_some (sym is) ∙ none) resolved (subst (λ (x : Option ℕ). FindsAlone (walk_names walk) name.sym.now x) absent finds)

pub implied-found : (walk : ScopeWalk) (old new : BindingSearch) (name : NameKey) (number from : ℕ) (found without : Option ℕ) (alone_number : ℕ) (implied result : Option ℕ) → slice_get walk.names.keys number ≡ Some name → found ≡ nearest_at (scopes_of walk) (binds_at (scopes_of walk) (keys_of old) false number) from → is_some found ≡ false → e.is_unresolved name.ctxt ≡ false → without ≡ Some alone_number → FindsAlone (walk_names walk) name.sym.now without → implied ≡ nearest_at (scopes_of walk) (binds_at (scopes_of walk) old.implied.keys (o.is_arguments name.sym.now) alone_number) from → Puts old new implied (alone name.sym.now) alone_number result → Denotes d.ByContext walk old new (name_as name) number from result
implied-found walk old new name number from found without alone_number implied result at is none resolved there finds is_implied puts = implied-denotes walk old new (name_as name) number alone_number from result (named-walk walk number name at) (subst (λ (x : Option ℕ). FindsAlone (walk_names walk) name.sym.now x) there finds) (ap is_some (sym is) ∙ none) resolved (subst (λ (f : Option ℕ). Puts old new f (alone name.sym.now) alone_number result) is_implied puts)

-- more keys say the same
pub says-keeps : (walk : ScopeWalk) (old new : List ScopeKey) → KeepsNumbers old new → (result : Option ℕ) (denoted : e.Denoted) → SaysDenoted (scopes_of walk) (walk_names walk) old result denoted → SaysDenoted (scopes_of walk) (walk_names walk) new result denoted
says-keeps walk old new keeps None (e.Global sym) says = says
says-keeps walk old new keeps None (e.Bound scope name) says = says
says-keeps walk old new keeps (Some number) (e.Global sym) says = says
says-keeps walk old new keeps (Some number) (e.Bound scope name) says = (says.0, keeps number says.0 says.1, says.2, says.3)

pub own-keeps : (walk : ScopeWalk) (all : List d.Declared) (of : List ℕ) (old new : List ScopeKey) → KeepsNumbers old new → HaveOwnNumbers walk all of old → HaveOwnNumbers walk all of new
own-keeps walk all of old new keeps own i x at = let found = own i x at in (found.0, found.1, says-keeps walk old new keeps (Some found.0) (e.Bound (o.home_of all x) x.name) found.2)

-- what declares denotes its own binding
pub own-seen : (reading : d.Reading) (walk : ScopeWalk) (of : List ℕ) (search : BindingSearch) (seen : NameOccurrence) (declaration : ℕ) → seen.declaration ≡ Some declaration → DenotesSeen reading walk of search search seen (slice_get of declaration)
own-seen reading walk of search seen declaration is = record {
  ready = λ all ready. ready;
  keeps = Keeps-same (keys_of search) (keys_of search) refl;
  says = λ kind all occurrence ready own known. by kind all occurrence own (slice_get all declaration) refl (ap (at_number all) (sym is) ∙ known.declaration) known.declares;
}
  where
    by : (kind : s.ModuleKind) (all : List d.Declared) (occurrence : p.Occurrence) → HaveOwnNumbers walk all of (keys_of search) → (x : Option d.Declared) → slice_get all declaration ≡ x → slice_get all declaration ≡ d.declaration_of reading kind occurrence → is_some seen.declaration ≡ is_some (d.declaration_of reading kind occurrence) → SaysDenoted (scopes_of walk) (walk_names walk) (keys_of search) (slice_get of declaration) (e.denoted_of reading kind all occurrence)
    by kind all occurrence own None at same declares = absurd (false≢true (ap is_some (sym at ∙ same) ∙ sym declares ∙ ap is_some is))
    by kind all occurrence own (Some x) at same declares =
        let found = own declaration x at in
        subst (λ r. SaysDenoted (scopes_of walk) (walk_names walk) (keys_of search) r (e.denoted_of reading kind all occurrence)) (sym found.1)
        (subst (λ y. SaysDenoted (scopes_of walk) (walk_names walk) (keys_of search) (Some found.0) (e.own_or_found all (e.denoted_in reading all (s.scopes_around kind occurrence.path) (d.name_of reading occurrence.sym occurrence.ctxt)) y)) (sym at ∙ same) found.2)

-- and what refers what its name denotes
pub name-seen : (reading : d.Reading) (walk : ScopeWalk) (of : List ℕ) (old new : BindingSearch) (seen : NameOccurrence) (name : d.Name) (result : Option ℕ) → seen.declaration ≡ None → slice_get (walk_names walk) seen.name ≡ Some name → Denotes reading walk old new name seen.name seen.scope result → DenotesSeen reading walk of old new seen result
name-seen reading walk of old new seen name result none at denotes = record {
  ready = denotes.ready;
  keeps = denotes.keeps;
  says = λ kind all occurrence ready own known.
      let same : name ≡ d.name_of reading occurrence.sym occurrence.ctxt = same_Some name (d.name_of reading occurrence.sym occurrence.ctxt) (sym at ∙ known.name) in
      let refers : d.declaration_of reading kind occurrence ≡ None = sym known.declaration ∙ ap (at_number all) none in
      subst (λ y. SaysDenoted (scopes_of walk) (walk_names walk) (keys_of new) result (e.own_or_found all (e.denoted_in reading all (s.scopes_around kind occurrence.path) (d.name_of reading occurrence.sym occurrence.ctxt)) y)) (sym refers)
      (subst (λ (x : d.Name). SaysDenoted (scopes_of walk) (walk_names walk) (keys_of new) result (e.denoted_in reading all (s.scopes_around kind occurrence.path) x)) same (denotes.says all (s.scopes_around kind occurrence.path) ready known.around (ap (reads reading) same ∙ read reading occurrence.sym occurrence.ctxt)));
}
  where
    read : (reading : d.Reading) (symbol : List ℕ) (ctxt : ℕ) → reads reading (d.name_of reading symbol ctxt) ≡ true
    read d.BySymbol symbol ctxt = refl
    read d.ByContext symbol ctxt = refl
