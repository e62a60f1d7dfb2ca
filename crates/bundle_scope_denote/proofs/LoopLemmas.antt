-- Loops from a scope on outwards, and over the declarations that were met.
use Rattle.std.proofs.Common.{◌≡◌, ◌≤◌, ◌+◌, ◌-◌, ℕ, zero, suc, Bool, true, false, cond, ◌&&◌, ◌||◌, List, [], ◌∷◌, ◌++◌, Option, Some, None, option_map, unwrap_or, find, map, take, length, not, if◌then◌else◌, refl, ap, ap₂, sym, ◌∙◌, subst, arith}
use Rattle.std.specs.Prelude.{slice_get, option_and_then}
use Rattle.std.specs.List.{AllZip, list_any}
use Rattle.std.proofs.lemmas.Bool.{false≢true}
use Rattle.std.proofs.lemmas.Option.{none-some, same_Some, slice_get-map}
use Rattle.std.proofs.lemmas.Slice.Zip.{all_zipped_more}
use Rattle.bundle_rules.specs.Scopes as s
use Rattle.bundle_rules.specs.Declarations as d
use Rattle.bundle_scope_denote.specs.declared.table.Binding.{Binding}
use Rattle.bundle_scope_denote.specs.declared.walk.Declaration.{Declaration}
use Rattle.bundle_scope_denote.specs.declared.walk.ScopeWalk.{ScopeWalk}
use Rattle.bundle_scope_denote.specs.declared.homes.Homes.{Homes}
use Rattle.bundle_scope_denote.specs.declared.walk.NameKey.{NameKey}
use Rattle.bundle_scope_denote.specs.declared.table.Scope.{Scope}
use Rattle.bundle_scope_denote.specs.Numbers.{NumberedScope, name_as, numbered_scope}
use Rattle.bundle_scope_denote.specs.Chains.{outer_at, passes, scopes_outwards, nearest_at, IsOnce}
use Rattle.bundle_scope_denote.specs.Bound.{ScopeKey, same_key, put_key, home_from, is_parameter_key}
use Rattle.bundle_scope_denote.specs.Kinds.{takes_by, joins_by}
use Rattle.bundle_scope_denote.specs.Steps.{scopes_of, walk_names}
use Rattle.bundle_scope_denote.specs.Ready.{Matches, IsBindingOf, binding_name, IsHomeKey, IsNumberOf, AddsHome, AreHomesOf, FindsAlone, has_parameter, taken_key}
use Rattle.bundle_scope_denote.proofs.OutwardLemmas.{outwards-none}
use Rattle.bundle_scope_denote.proofs.InsertLemmas.{any-put, once-put, same_key-true}
use Rattle.bundle_scope_denote.proofs.SearchLemmas.{put-keeps}

-- the search begins at a scope
pub loop-first : (scopes : List NumberedScope) (test : ℕ → Bool) (from : ℕ) → find test (scopes_outwards scopes (length scopes - 0) (Some from)) ≡ nearest_at scopes test from
loop-first scopes test from = let e : length scopes - 0 ≡ length scopes = omega arith in ap (λ n. find test (scopes_outwards scopes n (Some from))) e

-- outside all scopes nothing is found
pub loop-outside : (scopes : List NumberedScope) (test : ℕ → Bool) (more : ℕ) (goal : Option ℕ) → find test (scopes_outwards scopes more None) ≡ goal → None ≡ goal
loop-outside scopes test more goal is = sym (ap (find test) (outwards-none scopes more)) ∙ is

-- nor after the last
pub loop-last : (scopes : List NumberedScope) (test : ℕ → Bool) (more : ℕ) (at : Option ℕ) (goal : Option ℕ) → more ≡ 0 → find test (scopes_outwards scopes more at) ≡ goal → None ≡ goal
loop-last scopes test more at goal none is = sym (ap (λ n. find test (scopes_outwards scopes n at)) none) ∙ is

-- a scope passes
pub loop-found : (scopes : List NumberedScope) (test : ℕ → Bool) (more rest number : ℕ) (goal : Option ℕ) → more ≡ suc rest → test number ≡ true → find test (scopes_outwards scopes more (Some number)) ≡ goal → Some number ≡ goal
loop-found scopes test more rest number goal one passes is = sym (ap (λ n. find test (scopes_outwards scopes n (Some number))) one ∙ ap (λ t. cond t (Some number) (find test (scopes_outwards scopes rest (outer_at scopes number)))) passes) ∙ is

-- or the search goes on
pub loop-next : (scopes : List NumberedScope) (test : ℕ → Bool) (more rest number : ℕ) (next goal : Option ℕ) → more ≡ suc rest → test number ≡ false → outer_at scopes number ≡ next → find test (scopes_outwards scopes more (Some number)) ≡ goal → find test (scopes_outwards scopes rest next) ≡ goal
loop-next scopes test more rest number next goal one fails outer is = ap (λ n. find test (scopes_outwards scopes rest n)) (sym outer) ∙ sym (ap (λ n. find test (scopes_outwards scopes n (Some number))) one ∙ ap (λ t. cond t (Some number) (find test (scopes_outwards scopes rest (outer_at scopes number)))) fails) ∙ is

-- a number that is none of a scope's ends it
pub loop-missing : (scopes : List NumberedScope) (test : ℕ → Bool) (more rest number : ℕ) (goal : Option ℕ) → more ≡ suc rest → test number ≡ false → None ≡ slice_get scopes number → find test (scopes_outwards scopes more (Some number)) ≡ goal → None ≡ goal
loop-missing scopes test more rest number goal one fails missing is = loop-outside scopes test rest goal (loop-next scopes test more rest number None goal one fails (ap (option_and_then (λ (x : NumberedScope). x.outer)) (sym missing)) is)

-- a number that is none of a scope's passes no test of scopes
pub passes-missing : (test : s.Scope → Bool) (scopes : List NumberedScope) (number : ℕ) → None ≡ slice_get scopes number → passes test scopes number ≡ false
passes-missing test scopes number missing = ap (λ x. unwrap_or (option_map test (option_map (λ (y : NumberedScope). y.scope) x)) false) (sym missing)

-- and one that is passes if the scope does
pub passes-there : (test : s.Scope → Bool) (scopes : List NumberedScope) (number : ℕ) (x : NumberedScope) → Some x ≡ slice_get scopes number → passes test scopes number ≡ test x.scope
passes-there test scopes number x there = ap (λ y. unwrap_or (option_map test (option_map (λ (z : NumberedScope). z.scope) y)) false) (sym there)

-- the scope around one
pub outer-there : (scopes : List NumberedScope) (number : ℕ) (x : NumberedScope) → Some x ≡ slice_get scopes number → outer_at scopes number ≡ x.outer
outer-there scopes number x there = ap (option_and_then (λ (y : NumberedScope). y.outer)) (sym there)

-- numbers stay
numbers-keep : (old new : List ScopeKey) → ((number : ℕ) (key : ScopeKey) → slice_get old number ≡ Some key → slice_get new number ≡ Some key) → (keys : List ScopeKey) (of : List ℕ) → AllZip (IsNumberOf old) keys of → AllZip (IsNumberOf new) keys of
numbers-keep old new keeps [] [] known = tt
numbers-keep old new keeps [] (n ∷ ns) known = absurd known
numbers-keep old new keeps (k ∷ ks) [] known = absurd known
numbers-keep old new keeps (k ∷ ks) (n ∷ ns) known = (keeps n k known.0, numbers-keep old new keeps ks ns known.1)

any-more : (p : ScopeKey → Bool) (keys : List ScopeKey) (key : ScopeKey) → list_any p (keys ++ key ∷ []) ≡ (list_any p keys || p key)
any-more p [] key = one (p key)
  where
    one : (t : Bool) → (t || false) ≡ t
    one true = refl
    one false = refl
any-more p (k ∷ ks) key = ap (λ t. p k || t) (any-more p ks key) ∙ regroup (p k) (list_any p ks) (p key)
  where
    regroup : (a b c : Bool) → (a || (b || c)) ≡ ((a || b) || c)
    regroup true b c = refl
    regroup false b c = refl

-- one more declaration has its home
pub homes-next : (walk : ScopeWalk) (parameters : List ScopeKey) (before : List Declaration) (declaration : Declaration) (old new : Homes) (key : ScopeKey) (number : ℕ) → IsHomeKey (scopes_of walk) (walk_names walk) walk.top parameters declaration key → new.bindings.keys.keys ≡ put_key old.bindings.keys.keys key → slice_get new.bindings.keys.keys number ≡ Some key → new.of.items ≡ old.of.items ++ number ∷ [] → (Matches (walk_names walk) old.bindings.items.items old.bindings.keys.keys → Matches (walk_names walk) new.bindings.items.items new.bindings.keys.keys) → AreHomesOf walk parameters before old → AreHomesOf walk parameters (before ++ declaration ∷ []) new
homes-next walk parameters before declaration old new key number is_home is_keys is_number is_of matches known = record {
  keys = known.keys ++ key ∷ [];
  each = all_zipped_more (IsHomeKey (scopes_of walk) (walk_names walk) walk.top parameters) before known.keys declaration key known.each is_home;
  numbers = subst (λ l. AllZip (IsNumberOf new.bindings.keys.keys) (known.keys ++ key ∷ []) l) (sym is_of) (all_zipped_more (IsNumberOf new.bindings.keys.keys) known.keys old.of.items key number (numbers-keep old.bindings.keys.keys new.bindings.keys.keys (λ n k at. ap (λ l. slice_get l n) is_keys ∙ put-keeps old.bindings.keys.keys key n k at) known.keys old.of.items known.numbers) is_number);
  only = λ p. ap (list_any p) is_keys ∙ any-put p old.bindings.keys.keys key ∙ ap (λ t. t || p key) (known.only p) ∙ sym (any-more p known.keys key);
  once = subst (λ (l : List ScopeKey). IsOnce l) (sym is_keys) (once-put old.bindings.keys.keys key known.once);
  matches = matches known.matches;
}

-- no declaration was gone over
pub homes-first : (walk : ScopeWalk) (parameters : List ScopeKey) (homes : Homes) → homes.bindings.keys.keys ≡ [] → homes.bindings.items.items ≡ [] → homes.of.items ≡ [] → AreHomesOf walk parameters [] homes
homes-first walk parameters homes no_keys no_items none = record {
  keys = [];
  each = tt;
  numbers = subst (λ l. AllZip (IsNumberOf homes.bindings.keys.keys) [] l) (sym none) tt;
  only = λ p. ap (list_any p) no_keys;
  once = subst (λ (l : List ScopeKey). IsOnce l) (sym no_keys) (λ i j x at_i at_j. absurd (none-some x at_i));
  matches = subst (λ l. Matches (walk_names walk) homes.bindings.items.items l) (sym no_keys) (subst (λ l. Matches (walk_names walk) l []) (sym no_items) tt);
}

-- an element more
pub take-next : {X : Type 0} (xs : List X) (i : ℕ) (x : X) → slice_get xs i ≡ Some x → take (i + 1) xs ≡ take i xs ++ x ∷ []
take-next xs i x at = let n : i + 1 ≡ suc i = omega arith in ap (λ k. take k xs) n ∙ from xs i x at
  where
    from : {X : Type 0} (xs : List X) (i : ℕ) (x : X) → slice_get xs i ≡ Some x → take (suc i) xs ≡ take i xs ++ x ∷ []
    from [] i x at = absurd (none-some x at)
    from (y ∷ ys) zero x at = ap (λ z. z ∷ []) (same_Some y x at)
    from (y ∷ ys) (suc i) x at = ap (λ l. y ∷ l) (from ys i x at)

any-mapped : {X : Type 0} (p : ScopeKey → Bool) (f : X → ScopeKey) (xs : List X) (x : X) → list_any p (map f (xs ++ x ∷ [])) ≡ (list_any p (map f xs) || p (f x))
any-mapped p f [] x = one (p (f x))
  where
    one : (t : Bool) → (t || false) ≡ t
    one true = refl
    one false = refl
any-mapped p f (y ∷ ys) x = ap (λ t. p (f y) || t) (any-mapped p f ys x) ∙ regroup (p (f y)) (list_any p (map f ys)) (p (f x))
  where
    regroup : (a b c : Bool) → (a || (b || c)) ≡ ((a || b) || c)
    regroup true b c = refl
    regroup false b c = refl

-- what passes among the keys of one declaration more
pub any-next : {X : Type 0} (p : ScopeKey → Bool) (f : X → ScopeKey) (xs : List X) (i : ℕ) (x : X) → slice_get xs i ≡ Some x → list_any p (map f (take (i + 1) xs)) ≡ (list_any p (map f (take i xs)) || p (f x))
any-next p f xs i x at = ap (λ l. list_any p (map f l)) (take-next xs i x at) ∙ any-mapped p f (take i xs) x

-- the bindings still have the keys
pub matches-there : (names : List d.Name) (items : List Binding) (keys new_keys : List ScopeKey) (key : ScopeKey) (is_new : Bool) → new_keys ≡ put_key keys key → is_new ≡ not (list_any (same_key key) keys) → is_new ≡ false → Matches names items keys → Matches names items new_keys
matches-there names items keys new_keys key is_new put added old matches = subst (λ l. Matches names items l) (sym (put ∙ by (list_any (same_key key) keys) (sym added ∙ old))) matches
  where
    by : (t : Bool) → not t ≡ false → (if t then keys else keys ++ key ∷ []) ≡ keys
    by true is = refl
    by false is = absurd (false≢true (sym is))

pub matches-added : (names : List d.Name) (items new_items : List Binding) (keys new_keys : List ScopeKey) (key : ScopeKey) (binding : Binding) (is_new : Bool) → new_keys ≡ put_key keys key → is_new ≡ not (list_any (same_key key) keys) → is_new ≡ true → new_items ≡ items ++ binding ∷ [] → slice_get names key.1 ≡ Some (binding_name binding) → binding.scope ≡ key.0 → Matches names items keys → Matches names new_items new_keys
matches-added names items new_items keys new_keys key binding is_new put added new pushed named scope matches =
    subst (λ l. Matches names new_items l) (sym (put ∙ by (list_any (same_key key) keys) (sym added ∙ new))) (subst (λ l. Matches names l (keys ++ key ∷ [])) (sym pushed) (all_zipped_more (IsBindingOf names) items keys binding key matches (record { scope = scope; name = named })))
  where
    by : (t : Bool) → not t ≡ true → (if t then keys else keys ++ key ∷ []) ≡ keys ++ key ∷ []
    by true is = absurd (false≢true is)
    by false is = refl

-- a parameter is put
pub parameter-put : (old new : List ScopeKey) (key other : ScopeKey) → new ≡ put_key old key → list_any (same_key other) new ≡ (list_any (same_key other) old || same_key other key)
parameter-put old new key other is = ap (list_any (same_key other)) is ∙ any-put (same_key other) old key

-- nothing is put where the scope is none of parameters
pub put-or : (there holds same : Bool) → holds ≡ false → there ≡ (there || (holds && same))
put-or true holds same none = refl
put-or false true same none = absurd (false≢true (sym none))
put-or false false same none = refl

-- all elements
pub take-whole : {X : Type 0} (xs : List X) (i : ℕ) → length xs ≤ i → take i xs ≡ xs
take-whole [] zero within = refl
take-whole [] (suc i) within = refl
take-whole (x ∷ xs) zero within = absurd (omega arith)
take-whole (x ∷ xs) (suc i) within = let less : length xs ≤ i = omega arith in ap (λ l. x ∷ l) (take-whole xs i less)

-- what passes among one element more
pub any-step : {X : Type 0} (p : X → Bool) (xs : List X) (i : ℕ) (x : X) → slice_get xs i ≡ Some x → list_any p (take (i + 1) xs) ≡ (list_any p (take i xs) || p x)
any-step {X = X} p xs i x at = ap (list_any p) (take-next xs i x at) ∙ more (take i xs)
  where
    one : (t : Bool) → (t || false) ≡ t
    one true = refl
    one false = refl

    regroup : (a b c : Bool) → (a || (b || c)) ≡ ((a || b) || c)
    regroup true b c = refl
    regroup false b c = refl

    more : (ys : List X) → list_any p (ys ++ x ∷ []) ≡ (list_any p ys || p x)
    more [] = one (p x)
    more (y ∷ ys) = ap (λ t. p y || t) (more ys) ∙ regroup (p y) (list_any p ys) (p x)

-- a key that passes is there and passes
pub implied-all : (p : ScopeKey → Bool) (key : ScopeKey) (keys : List ScopeKey) → list_any (λ (x : ScopeKey). p x && same_key key x) keys ≡ (list_any (same_key key) keys && p key)
implied-all p key [] = refl
implied-all p key (k ∷ ks) = ap (λ t. (p k && same_key key k) || t) (implied-all p key ks) ∙ by (same_key key k) refl (list_any (same_key key) ks)
  where
    shut : (a : Bool) → (a && false) ≡ false
    shut true = refl
    shut false = refl

    kept : (a b : Bool) → ((a && true) || (b && a)) ≡ a
    kept true b = refl
    kept false true = refl
    kept false false = refl

    by : (t : Bool) → same_key key k ≡ t → (rest : Bool) → ((p k && t) || (rest && p key)) ≡ ((t || rest) && p key)
    by true is rest = ap (λ x. (p x && true) || (rest && p key)) (sym (same_key-true key k is)) ∙ kept (p key) rest
    by false is rest = ap (λ t. t || (rest && p key)) (shut (p k))

-- a name is put that passes
pub put-passing : (old new : List ScopeKey) (key other : ScopeKey) (holds : Bool) → new ≡ put_key old key → holds ≡ true → list_any (same_key other) new ≡ (list_any (same_key other) old || (holds && same_key other key))
put-passing old new key other holds put is = parameter-put old new key other put ∙ ap (λ t. list_any (same_key other) old || (t && same_key other key)) (sym is)

-- the parameters among one declaration more
pub parameters-next : (scopes first second : List Scope) (top : ℕ) (declarations : List Declaration) (i : ℕ) (declaration : Declaration) (found : Option ℕ) (taker : ℕ) (old new : List ScopeKey) → slice_get declarations i ≡ Some declaration → first ≡ scopes → second ≡ scopes → found ≡ nearest_at (map numbered_scope first) (passes (takes_by declaration.way) (map numbered_scope first)) declaration.scope → taker ≡ unwrap_or found top → ((other : ScopeKey) → list_any (same_key other) new ≡ (list_any (same_key other) old || is_parameter_key (map numbered_scope second) other (taker, declaration.name))) → ((key : ScopeKey) → list_any (same_key key) old ≡ list_any (is_parameter_key (map numbered_scope scopes) key) (map (taken_key (map numbered_scope scopes) top) (take i declarations))) → (key : ScopeKey) → list_any (same_key key) new ≡ list_any (is_parameter_key (map numbered_scope scopes) key) (map (taken_key (map numbered_scope scopes) top) (take (i + 1) declarations))
parameters-next scopes first second top declarations i declaration found taker old new at is_first is_second is_found is_taker put known key =
    put key ∙ ap (λ (l : List Scope). list_any (same_key key) old || is_parameter_key (map numbered_scope l) key (taker, declaration.name)) is_second ∙ ap₂ (λ (a : Bool) (t : ℕ). a || is_parameter_key (map numbered_scope scopes) key (t, declaration.name)) (known key) (is_taker ∙ ap (λ f. unwrap_or f top) (is_found ∙ ap (λ (l : List Scope). nearest_at (map numbered_scope l) (passes (takes_by declaration.way) (map numbered_scope l)) declaration.scope) is_first)) ∙ sym (any-next (is_parameter_key (map numbered_scope scopes) key) (taken_key (map numbered_scope scopes) top) declarations i declaration at)

-- the home of a declaration that was added
pub adds-home : (walk : ScopeWalk) (parameters : List ScopeKey) (declaration : Declaration) (name : NameKey) (beside : Option ℕ) (scope : ℕ) (binding : Binding) (old new : Homes) (number : ℕ) → slice_get walk.names.keys declaration.name ≡ Some name → FindsAlone (walk_names walk) name.sym.now beside → scope ≡ home_from (scopes_of walk) walk.top (joins_by declaration.way) (has_parameter parameters declaration.name beside) (nearest_at (scopes_of walk) (passes (takes_by declaration.way) (scopes_of walk)) declaration.scope) → binding_name binding ≡ name_as name → binding.scope ≡ scope → new.bindings.keys.keys ≡ put_key old.bindings.keys.keys (scope, declaration.name) → slice_get new.bindings.keys.keys number ≡ Some (scope, declaration.name) → ((names : List d.Name) → slice_get names declaration.name ≡ Some (binding_name binding) → binding.scope ≡ scope → Matches names old.bindings.items.items old.bindings.keys.keys → Matches names new.bindings.items.items new.bindings.keys.keys) → new.of.items ≡ old.of.items ++ number ∷ [] → AddsHome walk parameters declaration old new
adds-home walk parameters declaration name beside scope binding old new number named alone is_scope is_name in_scope keys at matches numbers = record {
  key = (scope, declaration.name);
  is_home = record {
    number = beside;
    finds = λ other there. subst (λ (x : d.Name). FindsAlone (walk_names walk) x.sym beside) (same_Some (name_as name) other (sym known ∙ there)) alone;
    scope = is_scope;
    name = refl;
  };
  keys = keys;
  number = number;
  at = at;
  numbers = numbers;
  matches = matches (walk_names walk) (known ∙ ap (λ x. Some x) (sym is_name)) in_scope;
}
  where
    known : slice_get (walk_names walk) declaration.name ≡ Some (name_as name)
    known = slice_get-map name_as walk.names.keys declaration.name ∙ ap (option_map name_as) named

-- one declaration more has its home
pub homes-step : (walk : ScopeWalk) (parameters : List ScopeKey) (i : ℕ) (declaration : Declaration) (old new : Homes) → slice_get walk.declarations.items i ≡ Some declaration → AddsHome walk parameters declaration old new → AreHomesOf walk parameters (take i walk.declarations.items) old → AreHomesOf walk parameters (take (i + 1) walk.declarations.items) new
homes-step walk parameters i declaration old new at adds known = subst (λ (l : List Declaration). AreHomesOf walk parameters l new) (sym (take-next walk.declarations.items i declaration at)) (homes-next walk parameters (take i walk.declarations.items) declaration old new adds.key adds.number adds.is_home adds.keys adds.at adds.numbers adds.matches known)

-- the keys that are implied among one key more
pub implied-next : (p : ScopeKey → Bool) (keys old new : List ScopeKey) (i : ℕ) (x : ScopeKey) → slice_get keys i ≡ Some x → ((other : ScopeKey) → list_any (same_key other) new ≡ (list_any (same_key other) old || (p x && same_key other x))) → ((key : ScopeKey) → list_any (same_key key) old ≡ list_any (λ (y : ScopeKey). p y && same_key key y) (take i keys)) → (key : ScopeKey) → list_any (same_key key) new ≡ list_any (λ (y : ScopeKey). p y && same_key key y) (take (i + 1) keys)
implied-next p keys old new i x at put known key = put key ∙ ap (λ t. t || (p x && same_key key x)) (known key) ∙ sym (any-step (λ (y : ScopeKey). p y && same_key key y) keys i x at)

-- and among all
pub implied-whole : (p : ScopeKey → Bool) (keys implied : List ScopeKey) (i : ℕ) → length keys ≤ i → ((key : ScopeKey) → list_any (same_key key) implied ≡ list_any (λ (y : ScopeKey). p y && same_key key y) (take i keys)) → (key : ScopeKey) → list_any (same_key key) implied ≡ (list_any (same_key key) keys && p key)
implied-whole p keys implied i past known key = known key ∙ ap (list_any (λ (y : ScopeKey). p y && same_key key y)) (take-whole keys i past) ∙ implied-all p key keys
