-- The tables of the declarations tell what the definitions say.
use Rattle.std.proofs.Common.{◌≡◌, ◌<◌, ℕ, Bool, true, false, not, ◌&&◌, ◌||◌, List, [], ◌∷◌, Option, Some, None, map, length, codes, refl, ap, ap₂, sym, ◌∙◌, subst}
use Rattle.std.specs.Prelude.{slice_get}
use Rattle.std.specs.List.{AllZip, list_any}
use Rattle.std.proofs.lemmas.Bool.{or_from, false_from_ne_true}
use Rattle.std.proofs.lemmas.Option.{slice_get_within}
use Rattle.std.proofs.lemmas.List.{length-map}
use Rattle.std.proofs.lemmas.Slice.Eq.{bytes_eq-Decides}
use Rattle.bundle_syntax.specs.Item.{Item}
use Rattle.bundle_rules.specs.Places as p
use Rattle.bundle_rules.specs.Scopes as s
use Rattle.bundle_rules.specs.Declarations as d
use Rattle.bundle_rules.specs.Homes as o
use Rattle.bundle_rules.specs.Denotes as e
use Rattle.bundle_scope_denote.specs.declared.table.Binding.{Binding}
use Rattle.bundle_scope_denote.specs.declared.walk.Declaration.{Declaration}
use Rattle.bundle_scope_denote.specs.declared.walk.NameOccurrence.{NameOccurrence}
use Rattle.bundle_scope_denote.specs.declared.walk.ScopeWalk.{ScopeWalk}
use Rattle.bundle_scope_denote.specs.declared.homes.Homes.{Homes}
use Rattle.bundle_scope_denote.specs.declared.denote.BindingSearch.{BindingSearch}
use Rattle.bundle_scope_denote.specs.Kinds.{way_named, takes_by, joins_by}
use Rattle.bundle_scope_denote.specs.Numbers.{NumberedScope, AreAround, KeepsNumbers, name_as}
use Rattle.bundle_scope_denote.specs.Chains.{numbered_scope_at, passes, nearest_at, AreInOrder, IsOnce}
use Rattle.bundle_scope_denote.specs.Bound.{ScopeKey, same_key, IsDeclaredAs, IsHome, IsKeyTaken, home_from, is_parameter_key, is_written_key, alone, adds, TellsBound, TellsImplied}
use Rattle.bundle_scope_denote.specs.Walked.{IsDeclared, IsSeen}
use Rattle.bundle_scope_denote.specs.Steps.{scopes_of, walk_names, IsWholeWalk}
use Rattle.bundle_scope_denote.specs.Ready.{FindsAlone, taken_key, has_parameter, IsHomeKey, IsNumberOf, AreHomes, AreDeclarationsNumbered, Matches, HoldsImplied, is_implied_name}
use Rattle.bundle_scope_denote.specs.Searched.{keys_of, IsSearchReady, HaveOwnNumbers}
use Rattle.bundle_scope_denote.proofs.ZipLemmas.{AllZip-at, AllZip-at_second}
use Rattle.bundle_scope_denote.proofs.ChainLemmas.{AllZip-weaker}
use Rattle.bundle_scope_denote.proofs.HomeLemmas.{passes-at, taker-around, taker-at, home-at}
use Rattle.bundle_scope_denote.proofs.ReadLemmas.{Each, declared-read, AllZip-each}
use Rattle.bundle_scope_denote.proofs.KeyLemmas.{told-by_key, told-split}
use Rattle.bundle_scope_denote.proofs.ParameterLemmas.{is_parameter_exactly, parameter-by_key, no-parameter, parameter-either}
use Rattle.bundle_scope_denote.proofs.ImpliedLemmas.{implied-by_key, implied-nowhere}

pub takes-named : (way : d.Way) (scope : s.Scope) → takes_by (way_named way) scope ≡ o.takes way scope
takes-named d.ByImport scope = refl
takes-named d.ByVar scope = refl
takes-named d.ByLet scope = refl
takes-named d.ByConst scope = refl
takes-named d.ByFunction scope = refl
takes-named d.ByClass scope = refl
takes-named d.ByDefault scope = refl
takes-named d.ByParameter scope = refl
takes-named d.ByCatch scope = refl
takes-named d.ByLoop scope = refl
takes-named d.ByFunctionName scope = refl
takes-named d.ByClassName scope = refl
takes-named d.ByWrapper scope = refl

takes-same : (way : d.Way) → takes_by (way_named way) ≡ o.takes way
takes-same way = λ j scope. takes-named way scope j

joins-named : (way : d.Way) → joins_by (way_named way) ≡ o.joins_parameter way
joins-named d.ByImport = refl
joins-named d.ByVar = refl
joins-named d.ByLet = refl
joins-named d.ByConst = refl
joins-named d.ByFunction = refl
joins-named d.ByClass = refl
joins-named d.ByDefault = refl
joins-named d.ByParameter = refl
joins-named d.ByCatch = refl
joins-named d.ByLoop = refl
joins-named d.ByFunctionName = refl
joins-named d.ByClassName = refl
joins-named d.ByWrapper = refl

-- the scopes from the taker of a declaration on
pub declared-taker : (scopes : List NumberedScope) (names : List d.Name) → AreInOrder scopes → (declaration : Declaration) (x : d.Declared) → IsDeclared scopes names declaration x → AreAround scopes (nearest_at scopes (passes (takes_by declaration.way) scopes) declaration.scope) (o.from_taker x.by x.scopes)
declared-taker scopes names ordered declaration x known =
    subst (λ (t : s.Scope → Bool). AreAround scopes (nearest_at scopes (passes t scopes) declaration.scope) (o.from_taker x.by x.scopes)) (sym (ap takes_by known.by ∙ takes-same x.by)) (taker-around scopes ordered x.by declaration.scope x.scopes known.around)

-- the key of its taker
declared-taken : (scopes : List NumberedScope) (names : List d.Name) (top : ℕ) (kind : s.ModuleKind) → AreInOrder scopes → AreAround scopes (Some top) (s.outermost kind) → (declaration : Declaration) (x : d.Declared) → IsDeclared scopes names declaration x → IsKeyTaken scopes names (taken_key scopes top declaration) x
declared-taken scopes names top kind ordered outermost declaration x known = record {
  scope = taker-at scopes top kind outermost (nearest_at scopes (passes (takes_by declaration.way) scopes) declaration.scope) (o.from_taker x.by x.scopes) (declared-taker scopes names ordered declaration x known);
  name = known.name;
}

pub all-taken : (scopes : List NumberedScope) (names : List d.Name) (top : ℕ) (kind : s.ModuleKind) → AreInOrder scopes → AreAround scopes (Some top) (s.outermost kind) → (declarations : List Declaration) (all : List d.Declared) → AllZip (IsDeclared scopes names) declarations all → AllZip (IsKeyTaken scopes names) (map (taken_key scopes top) declarations) all
all-taken scopes names top kind ordered outermost [] [] known = tt
all-taken scopes names top kind ordered outermost [] (x ∷ xs) known = absurd known
all-taken scopes names top kind ordered outermost (y ∷ ys) [] known = absurd known
all-taken scopes names top kind ordered outermost (y ∷ ys) (x ∷ xs) known = (declared-taken scopes names top kind ordered outermost y x known.0, all-taken scopes names top kind ordered outermost ys xs known.1)

-- the key of its home
home-key : (reading : d.Reading) (scopes : List NumberedScope) (names : List d.Name) (top : ℕ) (kind : s.ModuleKind) → AreInOrder scopes → IsOnce names → AreAround scopes (Some top) (s.outermost kind) → (all : List d.Declared) → Each (IsDeclaredAs reading) all → (taken parameters : List ScopeKey) → AllZip (IsKeyTaken scopes names) taken all → ((key : ScopeKey) → list_any (same_key key) parameters ≡ list_any (is_parameter_key scopes key) taken) → (declaration : Declaration) (x : d.Declared) (key : ScopeKey) → IsDeclared scopes names declaration x → IsDeclaredAs reading x → IsHomeKey scopes names top parameters declaration key → IsHome scopes names all key x
home-key reading scopes names top kind ordered once outermost all each taken parameters takes tells declaration x key known read home = record {
  scope = ap (numbered_scope_at scopes) (home.scope ∙ ap (λ t. home_from scopes top t (has_parameter parameters declaration.name home.number) (nearest_at scopes (passes (takes_by declaration.way) scopes) declaration.scope)) (ap joins_by known.by ∙ joins-named x.by)) ∙ home-at scopes top kind outermost all x (has_parameter parameters declaration.name home.number) (λ joins n scope at_n. at_scope home.number (home.finds x.name known.name) joins n scope at_n) (nearest_at scopes (passes (takes_by declaration.way) scopes) declaration.scope) (declared-taker scopes names ordered declaration x known);
  name = ap (slice_get names) home.name ∙ known.name;
}
  where
    exactly_by : (n : ℕ) (scope : s.Scope) → numbered_scope_at scopes n ≡ Some scope → (number : ℕ) (name : d.Name) → slice_get names number ≡ Some name → list_any (same_key (n, number)) parameters ≡ list_any (is_parameter_exactly scope name) all
    exactly_by n scope at_n number name at = tells (n, number) ∙ parameter-by_key scopes names ordered once n number scope name at_n at taken all takes

    at_scope : (number : Option ℕ) → FindsAlone names x.name.sym number → o.joins_parameter x.by ≡ true → (n : ℕ) (scope : s.Scope) → numbered_scope_at scopes n ≡ Some scope → has_parameter parameters declaration.name number n ≡ list_any (o.is_parameter scope x.name) all
    at_scope None finds joins n scope at_n = ap₂ (λ (a : Bool) (b : Bool). a || b) (exactly_by n scope at_n declaration.name x.name known.name) (sym (no-parameter scope names (e.without_context x.name) finds scopes taken all takes)) ∙ parameter-either reading scope x read joins all each
    at_scope (Some other) finds joins n scope at_n = ap₂ (λ (a : Bool) (b : Bool). a || b) (exactly_by n scope at_n declaration.name x.name known.name) (exactly_by n scope at_n other (e.without_context x.name) finds) ∙ parameter-either reading scope x read joins all each

all-homes : (reading : d.Reading) (scopes : List NumberedScope) (names : List d.Name) (top : ℕ) (kind : s.ModuleKind) → AreInOrder scopes → IsOnce names → AreAround scopes (Some top) (s.outermost kind) → (all : List d.Declared) → Each (IsDeclaredAs reading) all → (taken parameters : List ScopeKey) → AllZip (IsKeyTaken scopes names) taken all → ((key : ScopeKey) → list_any (same_key key) parameters ≡ list_any (is_parameter_key scopes key) taken) → (declarations : List Declaration) (some : List d.Declared) (keys : List ScopeKey) → AllZip (IsDeclared scopes names) declarations some → Each (IsDeclaredAs reading) some → AllZip (IsHomeKey scopes names top parameters) declarations keys → AllZip (IsHome scopes names all) keys some
all-homes reading scopes names top kind ordered once outermost all each taken parameters takes tells [] [] [] known read homes = tt
all-homes reading scopes names top kind ordered once outermost all each taken parameters takes tells [] (x ∷ xs) keys known read homes = absurd known
all-homes reading scopes names top kind ordered once outermost all each taken parameters takes tells [] [] (k ∷ ks) known read homes = absurd homes
all-homes reading scopes names top kind ordered once outermost all each taken parameters takes tells (y ∷ ys) [] keys known read homes = absurd known
all-homes reading scopes names top kind ordered once outermost all each taken parameters takes tells (y ∷ ys) (x ∷ xs) [] known read homes = absurd homes
all-homes reading scopes names top kind ordered once outermost all each taken parameters takes tells (y ∷ ys) (x ∷ xs) (k ∷ ks) known read homes =
    (home-key reading scopes names top kind ordered once outermost all each taken parameters takes tells y x k known.0 read.0 homes.0, all-homes reading scopes names top kind ordered once outermost all each taken parameters takes tells ys xs ks known.1 read.1 homes.1)

-- the keys of the declarations of a whole list
pub whole-homes : (reading : d.Reading) (kind : s.ModuleKind) (items : List Item) (walk : ScopeWalk) (homes : Homes) → IsWholeWalk walk reading kind items → (known : AreHomes walk walk.declarations.items homes) → AllZip (IsHome (scopes_of walk) (walk_names walk) (d.declared reading kind items)) known.own.keys (d.declared reading kind items)
whole-homes reading kind items walk homes whole known =
    let all : List d.Declared = d.declared reading kind items in
    all-homes reading (scopes_of walk) (walk_names walk) walk.top kind whole.order whole.once whole.outermost all (declared-read reading kind items) (map (taken_key (scopes_of walk) walk.top) walk.declarations.items) known.parameters (all-taken (scopes_of walk) (walk_names walk) walk.top kind whole.order whole.outermost walk.declarations.items all whole.declared) known.tells walk.declarations.items all known.own.keys whole.declared (declared-read reading kind items) known.own.each

-- each declaration has the number of its binding
pub own-numbers : (reading : d.Reading) (kind : s.ModuleKind) (items : List Item) (walk : ScopeWalk) (homes : Homes) → IsWholeWalk walk reading kind items → (known : AreHomes walk walk.declarations.items homes) → HaveOwnNumbers walk (d.declared reading kind items) homes.of.items homes.bindings.keys.keys
own-numbers reading kind items walk homes whole known i x at =
    let all : List d.Declared = d.declared reading kind items in
    let key = AllZip-at_second (IsHome (scopes_of walk) (walk_names walk) all) known.own.keys all i x (whole-homes reading kind items walk homes whole known) at in
    let number = AllZip-at (IsNumberOf homes.bindings.keys.keys) known.own.keys homes.of.items i key.0 known.own.numbers key.1 in
    (number.0, number.1, (key.0, number.2, key.2.scope, key.2.name))

-- the keys tell what each scope binds
tells-bound : (reading : d.Reading) (kind : s.ModuleKind) (items : List Item) (walk : ScopeWalk) (homes : Homes) → IsWholeWalk walk reading kind items → AreHomes walk walk.declarations.items homes → TellsBound reading (scopes_of walk) (walk_names walk) (d.declared reading kind items) homes.bindings.keys.keys
tells-bound reading kind items walk homes whole known n number scope name at_n at_number fits =
    let all : List d.Declared = d.declared reading kind items in
    ap₂ (λ (a : Bool) (b : Bool). a || (adds reading name && b)) (known.own.only (same_key (n, number)) ∙ told-by_key reading (scopes_of walk) (walk_names walk) all whole.order whole.once n number scope name at_n at_number fits known.own.keys all (AllZip-each (IsHome (scopes_of walk) (walk_names walk) all) (IsDeclaredAs reading) known.own.keys all (whole-homes reading kind items walk homes whole known) (declared-read reading kind items))) (passes-at o.is_function (scopes_of walk) n scope at_n) ∙ told-split reading all scope name fits

-- and what is implied there
tells-implied : (kind : s.ModuleKind) (items : List Item) (walk : ScopeWalk) (homes : Homes) (implied : List ScopeKey) → IsWholeWalk walk d.ByContext kind items → AreHomes walk walk.declarations.items homes → HoldsImplied d.ByContext (walk_names walk) homes.bindings.keys.keys implied → TellsImplied (scopes_of walk) (walk_names walk) (d.declared d.ByContext kind items) implied
tells-implied kind items walk homes implied whole known holds n number scope name at_n at_number =
    let all : List d.Declared = d.declared d.ByContext kind items in
    let keys : List ScopeKey = homes.bindings.keys.keys in
    ap₂ (λ (a : Bool) (b : Bool). a || (o.is_arguments name.sym && b)) (holds (n, number) ∙ ap (λ x. list_any (same_key (n, number)) keys && is_implied_name (walk_names walk) keys n x) at_number ∙ ap₂ (λ (a : Bool) (b : Bool). a && not b) (known.own.only (same_key (n, number))) (known.own.only (is_written_key (walk_names walk) n name.sym)) ∙ implied-by_key (scopes_of walk) (walk_names walk) all whole.order whole.once n number scope name.sym at_n at_number known.own.keys (whole-homes d.ByContext kind items walk homes whole known)) (passes-at o.is_function (scopes_of walk) n scope at_n)

-- nothing is implied whose name has no number
nothing-implied : (kind : s.ModuleKind) (items : List Item) (walk : ScopeWalk) (homes : Homes) → IsWholeWalk walk d.ByContext kind items → AreHomes walk walk.declarations.items homes → (arguments : ℕ) → slice_get (walk_names walk) arguments ≡ Some (alone (codes "arguments")) → (name : d.Name) → FindsAlone (walk_names walk) name.sym None → (scope : s.Scope) → e.is_implied_in (d.declared d.ByContext kind items) scope name ≡ false
nothing-implied kind items walk homes whole known arguments at name absent scope =
    let all : List d.Declared = d.declared d.ByContext kind items in
    or_from _ (o.is_arguments name.sym && o.is_function scope) (implied-nowhere (scopes_of walk) (walk_names walk) all scope name.sym absent known.own.keys (whole-homes d.ByContext kind items walk homes whole known)) (ap (λ t. t && o.is_function scope) (false_from_ne_true (o.is_arguments name.sym) (λ is. absent arguments (at ∙ ap (λ l. Some (alone l)) (sym ((bytes_eq-Decides name.sym (codes "arguments")).0 is))))))

-- the tables tell what the definitions say, before the first occurrence
pub ready-first : (reading : d.Reading) (kind : s.ModuleKind) (items : List Item) (walk : ScopeWalk) (homes : Homes) (search : BindingSearch) → IsWholeWalk walk reading kind items → AreHomes walk walk.declarations.items homes → (arguments : ℕ) → slice_get (walk_names walk) arguments ≡ Some (alone (codes "arguments")) → HoldsImplied reading (walk_names walk) homes.bindings.keys.keys search.implied.keys → keys_of search ≡ homes.bindings.keys.keys → search.bindings.items.items ≡ homes.bindings.items.items → IsSearchReady reading walk (d.declared reading kind items) search
ready-first d.BySymbol kind items walk homes search whole known arguments at holds same_keys same_items = record {
  order = whole.order;
  tells = subst (λ (l : List ScopeKey). TellsBound d.BySymbol (scopes_of walk) (walk_names walk) (d.declared d.BySymbol kind items) l) (sym same_keys) (tells-bound d.BySymbol kind items walk homes whole known);
  implied = λ is. absurd (apart is);
  nowhere = λ is. absurd (apart is);
  once = subst (λ (l : List ScopeKey). IsOnce l) (sym same_keys) known.own.once;
  matches = subst (λ (l : List ScopeKey). Matches (walk_names walk) search.bindings.items.items l) (sym same_keys) (subst (λ (l : List Binding). Matches (walk_names walk) l homes.bindings.keys.keys) (sym same_items) known.own.matches);
}
  where
    apart : d.BySymbol ≡ d.ByContext → ⊥
    apart is = cc
ready-first d.ByContext kind items walk homes search whole known arguments at holds same_keys same_items = record {
  order = whole.order;
  tells = subst (λ (l : List ScopeKey). TellsBound d.ByContext (scopes_of walk) (walk_names walk) (d.declared d.ByContext kind items) l) (sym same_keys) (tells-bound d.ByContext kind items walk homes whole known);
  implied = λ is. tells-implied kind items walk homes search.implied.keys whole known holds;
  nowhere = λ is. nothing-implied kind items walk homes whole known arguments at;
  once = subst (λ (l : List ScopeKey). IsOnce l) (sym same_keys) known.own.once;
  matches = subst (λ (l : List ScopeKey). Matches (walk_names walk) search.bindings.items.items l) (sym same_keys) (subst (λ (l : List Binding). Matches (walk_names walk) l homes.bindings.keys.keys) (sym same_items) known.own.matches);
}

-- more names change nothing of a whole list
pub whole-keeps : (reading : d.Reading) (kind : s.ModuleKind) (items : List Item) (old new : ScopeWalk) → IsWholeWalk old reading kind items → KeepsNumbers (walk_names old) (walk_names new) → (IsOnce (walk_names old) → IsOnce (walk_names new)) → scopes_of new ≡ scopes_of old → new.top ≡ old.top → new.declarations.items ≡ old.declarations.items → new.occurrences.items ≡ old.occurrences.items → IsWholeWalk new reading kind items
whole-keeps reading kind items old new whole keeps once same_scopes same_top same_declarations same_occurrences =
    let all : List d.Declared = d.declared reading kind items in
    record {
      declared = subst (λ l. AllZip (IsDeclared (scopes_of new) (walk_names new)) l all) (sym same_declarations) (subst (λ (t : List NumberedScope). AllZip (IsDeclared t (walk_names new)) old.declarations.items all) (sym same_scopes) (AllZip-weaker (IsDeclared (scopes_of old) (walk_names old)) (IsDeclared (scopes_of old) (walk_names new)) (λ a b x. record { place = x.place; name = keeps a.name b.name x.name; by = x.by; around = x.around }) old.declarations.items all whole.declared));
      seen = subst (λ l. AllZip (IsSeen (scopes_of new) (walk_names new) reading kind all) l (p.occurrences items)) (sym same_occurrences) (subst (λ (t : List NumberedScope). AllZip (IsSeen t (walk_names new) reading kind all) old.occurrences.items (p.occurrences items)) (sym same_scopes) (AllZip-weaker (IsSeen (scopes_of old) (walk_names old) reading kind all) (IsSeen (scopes_of old) (walk_names new) reading kind all) (λ a b x. record { place = x.place; name = keeps a.name (d.name_of reading b.sym b.ctxt) x.name; around = x.around; declaration = x.declaration; declares = x.declares }) old.occurrences.items (p.occurrences items) whole.seen));
      outermost = subst (λ (t : List NumberedScope). AreAround t (Some new.top) (s.outermost kind)) (sym same_scopes) (subst (λ n. AreAround (scopes_of old) (Some n) (s.outermost kind)) (sym same_top) whole.outermost);
      top = same_top ∙ whole.top;
      order = subst AreInOrder (sym same_scopes) whole.order;
      once = once whole.once;
    }

-- the name of each declaration has a number
pub whole-named : (reading : d.Reading) (kind : s.ModuleKind) (items : List Item) (walk : ScopeWalk) → IsWholeWalk walk reading kind items → AreDeclarationsNumbered walk
whole-named reading kind items walk whole i declaration at =
    let found = AllZip-at (IsDeclared (scopes_of walk) (walk_names walk)) walk.declarations.items (d.declared reading kind items) i declaration whole.declared at in
    subst (λ n. declaration.name < n) (length-map walk.names.keys name_as) (slice_get_within (walk_names walk) declaration.name found.0.name found.2.name)

-- and that of each occurrence
pub whole-seen : (reading : d.Reading) (kind : s.ModuleKind) (items : List Item) (walk : ScopeWalk) → IsWholeWalk walk reading kind items → (i : ℕ) (seen : NameOccurrence) → slice_get walk.occurrences.items i ≡ Some seen → seen.name < length walk.names.keys
whole-seen reading kind items walk whole i seen at =
    let found = AllZip-at (IsSeen (scopes_of walk) (walk_names walk) reading kind (d.declared reading kind items)) walk.occurrences.items (p.occurrences items) i seen whole.seen at in
    subst (λ n. seen.name < n) (length-map walk.names.keys name_as) (slice_get_within (walk_names walk) seen.name (d.name_of reading found.0.sym found.0.ctxt) found.2.name)
