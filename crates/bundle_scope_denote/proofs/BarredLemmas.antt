-- How far a declaration reaches.
use Rattle.std.proofs.Common.{◌≡◌, ℕ, Bool, true, false, cond, List, [], ◌∷◌, Option, Some, unwrap_or, refl, ap, sym, ◌∙◌, subst}
use Rattle.bundle_syntax.specs.Item.{Item}
use Rattle.bundle_rules.specs.Scopes as s
use Rattle.bundle_rules.specs.Declarations as d
use Rattle.bundle_rules.specs.Homes as o
use Rattle.bundle_rules.specs.Doubled as u
use Rattle.bundle_scope_denote.specs.declared.table.Way.{Way}
use Rattle.bundle_scope_denote.specs.declared.walk.Declaration.{Declaration}
use Rattle.bundle_scope_denote.specs.declared.walk.ScopeWalk.{ScopeWalk}
use Rattle.bundle_scope_denote.specs.declared.doubled.Reach.{Reach}
use Rattle.bundle_scope_denote.specs.Kinds.{is_var_by, way_named, takes_by}
use Rattle.bundle_scope_denote.specs.Numbers.{NumberedScope, AreAround}
use Rattle.bundle_scope_denote.specs.Chains.{numbered_scope_at, passes, nearest_at, AreScopesAt}
use Rattle.bundle_scope_denote.specs.Walked.{IsDeclared}
use Rattle.bundle_scope_denote.specs.Steps.{scopes_of, walk_names, IsWholeWalk}
use Rattle.bundle_scope_denote.specs.Barred.{held_in, passed, barred_by, passed_at, HoldsNumbered, ReachesSoFar}
use Rattle.bundle_scope_denote.proofs.HomeLemmas.{taker-at}
use Rattle.bundle_scope_denote.proofs.StartLemmas.{declared-taker, takes-named}
use Rattle.bundle_scope_denote.proofs.PassedLemmas.{passed-around}

-- a name that may stand twice holds no scope
pub holds-none : (scopes : List NumberedScope) (by : d.Way) (around : List s.Scope) (held : List ℕ) → held ≡ [] → u.stands_once by around ≡ false → AreScopesAt scopes held (held_in by around)
holds-none scopes by around held none twice = subst (λ l. AreScopesAt scopes l (held_in by around)) (sym none) (subst (λ t. AreScopesAt scopes [] (cond t (unwrap_or (o.nearest around) s.Top ∷ o.group_of around ∷ []) [])) (sym twice) tt)

-- one that stands once holds its own and the one beside it
pub holds-both : (scopes : List NumberedScope) (top : ℕ) (kind : s.ModuleKind) (by : d.Way) (around : List s.Scope) (taker : Option ℕ) (number group : ℕ) (held : List ℕ) → AreAround scopes (Some top) (s.outermost kind) → AreAround scopes taker around → u.stands_once by around ≡ true → number ≡ unwrap_or taker top → numbered_scope_at scopes group ≡ Some (o.group_of around) → held ≡ number ∷ group ∷ [] → AreScopesAt scopes held (held_in by around)
holds-both scopes top kind by around taker number group held outermost known once is_number is_group both =
    subst (λ l. AreScopesAt scopes l (held_in by around)) (sym both) (subst (λ t. AreScopesAt scopes (number ∷ group ∷ []) (cond t (unwrap_or (o.nearest around) s.Top ∷ o.group_of around ∷ []) [])) (sym once) (ap (numbered_scope_at scopes) is_number ∙ taker-at scopes top kind outermost taker around known, (is_group, tt)))

is_var-named : (way : d.Way) → is_var_by (way_named way) ≡ u.is_var way
is_var-named d.ByImport = refl
is_var-named d.ByVar = refl
is_var-named d.ByLet = refl
is_var-named d.ByConst = refl
is_var-named d.ByFunction = refl
is_var-named d.ByClass = refl
is_var-named d.ByDefault = refl
is_var-named d.ByParameter = refl
is_var-named d.ByCatch = refl
is_var-named d.ByLoop = refl
is_var-named d.ByFunctionName = refl
is_var-named d.ByClassName = refl
is_var-named d.ByWrapper = refl

-- what a declaration bars, if it is known whether it is a `var`
barred-as : (x : d.Declared) (way : Way) (t : Bool) → way ≡ way_named x.by → is_var_by way ≡ t → barred_by x ≡ cond t (passed x) (held_in x.by (o.from_taker x.by x.scopes))
barred-as x way t is_way is_var = ap (λ v. cond v (passed x) (held_in x.by (o.from_taker x.by x.scopes))) (sym (is_var-named x.by) ∙ ap is_var_by (sym is_way) ∙ is_var)

-- the scopes from the taker on
from-found : (walk : ScopeWalk) (declaration : Declaration) (reading : d.Reading) (kind : s.ModuleKind) (items : List Item) (x : d.Declared) (found : Option ℕ) → found ≡ nearest_at (scopes_of walk) (passes (takes_by declaration.way) (scopes_of walk)) declaration.scope → IsWholeWalk walk reading kind items → IsDeclared (scopes_of walk) (walk_names walk) declaration x → AreAround (scopes_of walk) found (o.from_taker x.by x.scopes)
from-found walk declaration reading kind items x found is whole known = subst (λ n. AreAround (scopes_of walk) n (o.from_taker x.by x.scopes)) (sym is) (declared-taker (scopes_of walk) (walk_names walk) whole.order declaration x known)

taker-found : (walk : ScopeWalk) (declaration : Declaration) (reading : d.Reading) (kind : s.ModuleKind) (items : List Item) (x : d.Declared) (found : Option ℕ) (taker : ℕ) → found ≡ nearest_at (scopes_of walk) (passes (takes_by declaration.way) (scopes_of walk)) declaration.scope → taker ≡ unwrap_or found walk.top → IsWholeWalk walk reading kind items → IsDeclared (scopes_of walk) (walk_names walk) declaration x → numbered_scope_at (scopes_of walk) taker ≡ Some (o.taker x)
taker-found walk declaration reading kind items x found taker is is_taker whole known = ap (numbered_scope_at (scopes_of walk)) is_taker ∙ taker-at (scopes_of walk) walk.top kind whole.outermost found (o.from_taker x.by x.scopes) (from-found walk declaration reading kind items x found is whole known)

-- a `var` bars the scopes that it passes
pub reaches-passed : (walk : ScopeWalk) (declaration : Declaration) (reach : Reach) (found : Option ℕ) → found ≡ nearest_at (scopes_of walk) (passes (takes_by declaration.way) (scopes_of walk)) declaration.scope → reach.taker ≡ unwrap_or found walk.top → is_var_by declaration.way ≡ true → reach.barred.items ≡ passed_at (scopes_of walk) declaration.way declaration.scope → ReachesSoFar walk declaration reach
reaches-passed walk declaration reach found is is_taker is_var is_passed reading kind items x whole known = record {
  taker = taker-found walk declaration reading kind items x found reach.taker is is_taker whole known;
  barred = subst (λ l. AreScopesAt (scopes_of walk) reach.barred.items l) (sym (barred-as x declaration.way true known.by is_var)) (subst (λ l. AreScopesAt (scopes_of walk) l (passed x)) (sym is_passed) (passed-around (scopes_of walk) whole.order declaration.way (o.takes x.by) (λ scope. ap (λ w. takes_by w scope) known.by ∙ takes-named x.by scope) declaration.scope x.scopes known.around));
}

-- and any other what it holds
pub reaches-held : (walk : ScopeWalk) (declaration : Declaration) (reach : Reach) (found : Option ℕ) → found ≡ nearest_at (scopes_of walk) (passes (takes_by declaration.way) (scopes_of walk)) declaration.scope → reach.taker ≡ unwrap_or found walk.top → is_var_by declaration.way ≡ false → HoldsNumbered (scopes_of walk) walk.top declaration.way found reach.barred.items → ReachesSoFar walk declaration reach
reaches-held walk declaration reach found is is_taker is_var holds reading kind items x whole known = record {
  taker = taker-found walk declaration reading kind items x found reach.taker is is_taker whole known;
  barred = subst (λ l. AreScopesAt (scopes_of walk) reach.barred.items l) (sym (barred-as x declaration.way false known.by is_var)) (holds kind x.by (o.from_taker x.by x.scopes) whole.outermost known.by (from-found walk declaration reading kind items x found is whole known));
}
