-- The first declaration that may not stand beside those before it is the one that the definition names.
use Rattle.std.proofs.Common.{◌≡◌, ◌≤◌, ◌<◌, ◌+◌, ℕ, zero, suc, Bool, true, false, ◌||◌, ◌&&◌, List, [], ◌∷◌, Option, Some, None, option_map, take, length, refl, ap, ap₂, sym, ◌∙◌, subst, arith}
use Rattle.std.specs.Prelude.{slice_get}
use Rattle.std.specs.List.{list_any}
use Rattle.std.proofs.lemmas.Bool.{false≢true}
use Rattle.std.proofs.lemmas.Option.{none-some, same_Some, slice_get_within}
use Rattle.std.proofs.lemmas.List.{length-map}
use Rattle.std.proofs.lemmas.Slice.Zip.{AllZip-long}
use Rattle.bundle_syntax.specs.Item.{Item}
use Rattle.bundle_rules.specs.Scopes as s
use Rattle.bundle_rules.specs.Declarations as d
use Rattle.bundle_rules.specs.Doubled as u
use Rattle.bundle_scope_denote.specs.declared.table.Doubled.{Doubled}
use Rattle.bundle_scope_denote.specs.declared.walk.Declaration.{Declaration}
use Rattle.bundle_scope_denote.specs.declared.walk.ScopeWalk.{ScopeWalk}
use Rattle.bundle_scope_denote.specs.declared.doubled.Met.{Met}
use Rattle.bundle_scope_denote.specs.declared.doubled.Reach.{Reach}
use Rattle.bundle_scope_denote.specs.declared.doubled.Times.{Times}
use Rattle.bundle_scope_denote.specs.Numbers.{name_as}
use Rattle.bundle_scope_denote.specs.Bound.{ScopeKey, same_key, IsDeclaredAs}
use Rattle.bundle_scope_denote.specs.Walked.{IsDeclared}
use Rattle.bundle_scope_denote.specs.Steps.{scopes_of, walk_names, IsWholeWalk}
use Rattle.bundle_scope_denote.specs.Listed.{doubled_told, place_and_symbol}
use Rattle.bundle_scope_denote.specs.Barred.{AreCounted, is_often, ReachesSoFar, has_any, is_key_in, HasMet, HasMetFirst, IsDoubledTold}
use Rattle.bundle_scope_denote.proofs.ZipLemmas.{AllZip-at, AllZip-at_second}
use Rattle.bundle_scope_denote.proofs.ReadLemmas.{Each, declared-read}
use Rattle.bundle_scope_denote.proofs.LoopLemmas.{take-next, take-whole, any-step}
use Rattle.bundle_scope_denote.proofs.OrderLemmas.{collide, doubled-before}
use Rattle.bundle_scope_denote.proofs.MetLemmas.{excluded-met, met-more, met-past, apart-names, met-none, find-first, find-none}

each-at : {X : Type 0} (P : X → Type 0) (xs : List X) (i : ℕ) (x : X) → Each P xs → slice_get xs i ≡ Some x → P x
each-at P [] i x each at = absurd (none-some x at)
each-at P (y ∷ ys) zero x each at = subst P (same_Some y x at) each.0
each-at P (y ∷ ys) (suc i) x each at = each-at P ys i x each.1 at

take-zero : {X : Type 0} (xs : List X) → take 0 xs ≡ []
take-zero [] = refl
take-zero (x ∷ xs) = refl

-- what is taken of a list stands in it
taken-within : {X : Type 0} (xs : List X) (n i : ℕ) (x : X) → slice_get (take n xs) i ≡ Some x → i < n
taken-within [] zero i x there = absurd (none-some x there)
taken-within [] (suc n) i x there = absurd (none-some x there)
taken-within (y ∷ ys) zero i x there = absurd (none-some x there)
taken-within (y ∷ ys) (suc n) zero x there = omega arith
taken-within (y ∷ ys) (suc n) (suc i) x there = let less : i < n = taken-within ys n i x there in omega arith

taken-there : {X : Type 0} (xs : List X) (n i : ℕ) (x : X) → slice_get (take n xs) i ≡ Some x → slice_get xs i ≡ Some x
taken-there [] zero i x there = absurd (none-some x there)
taken-there [] (suc n) i x there = absurd (none-some x there)
taken-there (y ∷ ys) zero i x there = absurd (none-some x there)
taken-there (y ∷ ys) (suc n) zero x there = there
taken-there (y ∷ ys) (suc n) (suc i) x there = taken-there ys n i x there

-- nothing was met
pub meets-none : (walk : ScopeWalk) (often : ℕ → Bool) (all : List d.Declared) (met : Met) → met.taken.keys ≡ [] → met.barred.keys ≡ [] → HasMetFirst walk often all 0 met
meets-none walk often all met none_taken none_barred = record {
  before = subst (λ l. HasMet (scopes_of walk) (walk_names walk) often l met) (sym (take-zero all)) (met-none (scopes_of walk) (walk_names walk) often met none_taken none_barred);
  undoubled = ap (list_any (u.is_doubled all)) (take-zero all);
}

-- whether what a declaration reaches is excluded by what was met
abbrev pub is_excluded : Met → ℕ → Reach → Bool
is_excluded met name reach = list_any (same_key (reach.taker, name)) met.barred.keys || has_any met.taken.keys name reach.barred.items

-- the definition's declaration with this number, of which that is whether it is doubled
pub record Found (walk : ScopeWalk) (kind : s.ModuleKind) (items : List Item) (met : Met) (number : ℕ) (declaration : Declaration) (reach : Reach) : Type 0 where
  pub declared : d.Declared
  pub at : slice_get (d.declared d.BySymbol kind items) number ≡ Some declared
  pub known : IsDeclared (scopes_of walk) (walk_names walk) declaration declared
  pub plain : declared.name.ctxt ≡ None
  pub same : is_excluded met declaration.name reach ≡ u.is_doubled (d.declared d.BySymbol kind items) declared

found-at : (walk : ScopeWalk) (often : ℕ → Bool) (kind : s.ModuleKind) (items : List Item) (met : Met) (number : ℕ) (declaration : Declaration) (reach : Reach) → IsWholeWalk walk d.BySymbol kind items → slice_get walk.declarations.items number ≡ Some declaration → ReachesSoFar walk declaration reach → often declaration.name ≡ true → HasMetFirst walk often (d.declared d.BySymbol kind items) number met → Found walk kind items met number declaration reach
found-at walk often kind items met number declaration reach whole at reaches twice known =
    let all : List d.Declared = d.declared d.BySymbol kind items in
    let there = AllZip-at (IsDeclared (scopes_of walk) (walk_names walk)) walk.declarations.items all number declaration whole.declared at in
    let plain : there.0.name.ctxt ≡ None = each-at (IsDeclaredAs d.BySymbol) all number there.0 (declared-read d.BySymbol kind items) there.1 in
    record {
      declared = there.0;
      at = there.1;
      known = there.2;
      plain = plain;
      same = excluded-met (scopes_of walk) (walk_names walk) often (take number all) met reach there.0 declaration.name twice known.before (reaches d.BySymbol kind items there.0 whole there.2) there.2.name plain ∙ sym (doubled-before d.BySymbol kind items number there.0 there.1);
    }

-- the first that is excluded is the first that is doubled
pub tells-doubled : (walk : ScopeWalk) (often : ℕ → Bool) (kind : s.ModuleKind) (items : List Item) (met : Met) (number : ℕ) (declaration : Declaration) (reach : Reach) (doubled : Doubled) → IsWholeWalk walk d.BySymbol kind items → slice_get walk.declarations.items number ≡ Some declaration → ReachesSoFar walk declaration reach → often declaration.name ≡ true → HasMetFirst walk often (d.declared d.BySymbol kind items) number met → is_excluded met declaration.name reach ≡ true → IsDoubledTold walk declaration doubled → option_map doubled_told (Some doubled) ≡ option_map place_and_symbol (u.first_doubled kind items)
tells-doubled walk often kind items met number declaration reach doubled whole at reaches twice known is told =
    let all : List d.Declared = d.declared d.BySymbol kind items in
    let found = found-at walk often kind items met number declaration reach whole at reaches twice known in
    let symbol : found.declared.name.sym ≡ doubled.name.now = same_Some found.declared.name.sym doubled.name.now (sym (ap (option_map (λ (name : d.Name). name.sym)) found.known.name) ∙ told.symbol) in
    ap₂ (λ (place : ℕ) (name : List ℕ). let both : Option (ℕ × List ℕ) = Some (place, name) in both) (told.place ∙ found.known.place) (sym symbol) ∙ ap (option_map place_and_symbol) (sym (find-first (u.is_doubled all) all number found.declared found.at known.undoubled (sym found.same ∙ is)))

-- one more was met that is not excluded
pub meets-next : (walk : ScopeWalk) (often : ℕ → Bool) (kind : s.ModuleKind) (items : List Item) (old new : Met) (number : ℕ) (declaration : Declaration) (reach : Reach) → IsWholeWalk walk d.BySymbol kind items → slice_get walk.declarations.items number ≡ Some declaration → ReachesSoFar walk declaration reach → often declaration.name ≡ true → is_excluded old declaration.name reach ≡ false → ((key : ScopeKey) → list_any (same_key key) new.taken.keys ≡ (list_any (same_key key) old.taken.keys || same_key key (reach.taker, declaration.name))) → ((key : ScopeKey) → list_any (same_key key) new.barred.keys ≡ (list_any (same_key key) old.barred.keys || is_key_in key declaration.name reach.barred.items)) → HasMetFirst walk often (d.declared d.BySymbol kind items) number old → HasMetFirst walk often (d.declared d.BySymbol kind items) (number + 1) new
meets-next walk often kind items old new number declaration reach whole at reaches twice is takes bars known =
    let all : List d.Declared = d.declared d.BySymbol kind items in
    let found = found-at walk often kind items old number declaration reach whole at reaches twice known in
    record {
      before = subst (λ l. HasMet (scopes_of walk) (walk_names walk) often l new) (sym (take-next all number found.declared found.at)) (met-more (scopes_of walk) (walk_names walk) whole.order whole.once often (take number all) old new reach found.declared declaration.name (reaches d.BySymbol kind items found.declared whole found.known) found.known.name found.plain takes bars known.before);
      undoubled = any-step (u.is_doubled all) all number found.declared found.at ∙ ap₂ (λ (a : Bool) (b : Bool). a || b) known.undoubled (sym found.same ∙ is);
    }

-- one whose name is declared once is passed over, and is not doubled
pub meets-past : (walk : ScopeWalk) (times : List Times) (kind : s.ModuleKind) (items : List Item) (met : Met) (number : ℕ) (declaration : Declaration) → AreCounted walk.declarations.items times → IsWholeWalk walk d.BySymbol kind items → slice_get walk.declarations.items number ≡ Some declaration → is_often times declaration.name ≡ false → HasMetFirst walk (is_often times) (d.declared d.BySymbol kind items) number met → HasMetFirst walk (is_often times) (d.declared d.BySymbol kind items) (number + 1) met
meets-past walk times kind items met number declaration counted whole at rare known = record {
  before = subst (λ l. HasMet (scopes_of walk) (walk_names walk) (is_often times) l met) (sym (take-next all number x x_at)) (met-past (scopes_of walk) (walk_names walk) whole.once (is_often times) (take number all) met x declaration.name rare x_known.name plain known.before);
  undoubled = any-step (u.is_doubled all) all number x x_at ∙ ap₂ (λ (a : Bool) (b : Bool). a || b) known.undoubled (doubled-before d.BySymbol kind items number x x_at ∙ alone);
}
  where
    all : List d.Declared
    all = d.declared d.BySymbol kind items

    x : d.Declared
    x = (AllZip-at (IsDeclared (scopes_of walk) (walk_names walk)) walk.declarations.items all number declaration whole.declared at).0

    x_at : slice_get all number ≡ Some x
    x_at = (AllZip-at (IsDeclared (scopes_of walk) (walk_names walk)) walk.declarations.items all number declaration whole.declared at).1

    x_known : IsDeclared (scopes_of walk) (walk_names walk) declaration x
    x_known = (AllZip-at (IsDeclared (scopes_of walk) (walk_names walk)) walk.declarations.items all number declaration whole.declared at).2

    plain : x.name.ctxt ≡ None
    plain = each-at (IsDeclaredAs d.BySymbol) all number x (declared-read d.BySymbol kind items) x_at

    -- an earlier one has another name
    apart : (i : ℕ) (a : d.Declared) → i < number → slice_get all i ≡ Some a → d.names_agree a.name x.name ≡ false
    apart i a less there =
        let b = AllZip-at_second (IsDeclared (scopes_of walk) (walk_names walk)) walk.declarations.items all i a whole.declared there in
        apart-names (walk_names walk) whole.once b.0.name declaration.name a.name x.name b.2.name x_known.name (each-at (IsDeclaredAs d.BySymbol) all i a (declared-read d.BySymbol kind items) there) plain (λ same. false≢true (sym rare ∙ counted i number b.0 declaration less b.1 at same))

    none : (xs : List d.Declared) → ((i : ℕ) (a : d.Declared) → slice_get xs i ≡ Some a → d.names_agree a.name x.name ≡ false) → list_any (λ a. collide a x) xs ≡ false
    none [] each = refl
    none (a ∷ rest) each = ap₂ (λ (t : Bool) (b : Bool). (t && (u.excludes a x || u.excludes x a)) || b) (each zero a refl) (none rest (λ i b there. each (suc i) b there))

    alone : list_any (λ a. collide a x) (take number all) ≡ false
    alone = none (take number all) (λ i a there. apart i a (taken-within all number i a there) (taken-there all number i a there))

-- where all were met, none is doubled
pub tells-none : (walk : ScopeWalk) (often : ℕ → Bool) (kind : s.ModuleKind) (items : List Item) (met : Met) (number : ℕ) → IsWholeWalk walk d.BySymbol kind items → length walk.declarations.items ≤ number → HasMetFirst walk often (d.declared d.BySymbol kind items) number met → option_map doubled_told None ≡ option_map place_and_symbol (u.first_doubled kind items)
tells-none walk often kind items met number whole past known =
    let all : List d.Declared = d.declared d.BySymbol kind items in
    let long : length all ≡ length walk.declarations.items = AllZip-long (IsDeclared (scopes_of walk) (walk_names walk)) walk.declarations.items all whole.declared in
    let within : length all ≤ number = omega (arith, long) in
    ap (option_map place_and_symbol) (sym (find-none (u.is_doubled all) all (sym (ap (list_any (u.is_doubled all)) (take-whole all number within)) ∙ known.undoubled)))

-- a declaration that was met has a name
pub name-within : (walk : ScopeWalk) (kind : s.ModuleKind) (items : List Item) (number : ℕ) (declaration : Declaration) → IsWholeWalk walk d.BySymbol kind items → slice_get walk.declarations.items number ≡ Some declaration → declaration.name < length walk.names.keys
name-within walk kind items number declaration whole at =
    let there = AllZip-at (IsDeclared (scopes_of walk) (walk_names walk)) walk.declarations.items (d.declared d.BySymbol kind items) number declaration whole.declared at in
    subst (λ n. declaration.name < n) (length-map walk.names.keys name_as) (slice_get_within (walk_names walk) declaration.name there.0.name there.2.name)
