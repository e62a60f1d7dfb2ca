-- The tables stay tidy.
use Rattle.std.proofs.Common.{◌≡◌, ◌<◌, ◌+◌, ℕ, Bool, true, false, cond, ◌==◌, ◌&&◌, List, [], ◌∷◌, ◌++◌, Option, Some, None, option_map, length, reverse, refl, ap, sym, ◌∙◌, subst, arith, ◌⊎◌, inl, inr, append-nil}
use Rattle.std.specs.Prelude.{slice_get}
use Rattle.std.specs.Option.{option_to_list}
use Rattle.std.proofs.lemmas.Option.{none-some, same_Some, slice_get_within}
use Rattle.bundle_syntax.specs.declared.piece.Role.{Role}
use Rattle.bundle_syntax.specs.Item.{Item, Head}
use Rattle.bundle_rules.specs.Places as p
use Rattle.bundle_rules.specs.Scopes as s
use Rattle.bundle_rules.specs.Declarations as d
use Rattle.bundle_scope_denote.specs.declared.table.ScopeKind.{ScopeKind}
use Rattle.bundle_scope_denote.specs.declared.walk.ScopeWalk.{ScopeWalk}
use Rattle.bundle_scope_denote.specs.Kinds.{kind_as, kind_named, kind_made, scope_as, leaves_first_out}
use Rattle.bundle_scope_denote.specs.Numbers.{NumberedScope, in_scope}
use Rattle.bundle_scope_denote.specs.Chains.{AreInOrder, IsOnce}
use Rattle.bundle_scope_denote.specs.Walked.{scope_in, AreTablesTidy}
use Rattle.bundle_scope_denote.specs.Steps.{scopes_of, walk_names, one_by_one, IsWalkAt, IsTidyAt, BeginsNode, Occurs, EndsNode}
use Rattle.bundle_scope_denote.proofs.HeadLemmas.{kind_made-named}
use Rattle.bundle_scope_denote.proofs.WalkLemmas.{innermost-open, named_scope}
use Rattle.bundle_scope_denote.proofs.HomeLemmas.{number-around}
use Rattle.bundle_scope_denote.proofs.InsertLemmas.{at_append}

-- a later place
pub tidy-later : (scopes : List NumberedScope) (names : List d.Name) (place : ℕ) → AreTablesTidy scopes names place → AreTablesTidy scopes names (place + 1)
tidy-later scopes names place tidy = record {
  order = tidy.order;
  before = λ i x at. later i x at (tidy.before i x at);
  once = tidy.once;
}
  where
    later : (i : ℕ) (x : NumberedScope) → slice_get scopes i ≡ Some x → s.scope_order x.scope < place + 2 → s.scope_order x.scope < place + 1 + 2
    later i x at below = omega arith

-- a scope goes last that is behind each other one
order-push : (scopes : List NumberedScope) (y : NumberedScope) → AreInOrder scopes → ((i : ℕ) (x : NumberedScope) → slice_get scopes i ≡ Some x → s.scope_order x.scope < s.scope_order y.scope) → ((o : ℕ) → y.outer ≡ Some o → o < length scopes) → AreInOrder (scopes ++ y ∷ [])
order-push scopes y order below inside = record {
  rising = λ i j x z lt at_i at_j. rising_by i j x z lt (at_append scopes y i x at_i) (at_append scopes y j z at_j);
  behind = λ i o x at. behind_by i o x (at_append scopes y i x at);
}
  where
    rising_by : (i j : ℕ) (x z : NumberedScope) → i < j → (slice_get scopes i ≡ Some x) ⊎ ((i ≡ length scopes) × (y ≡ x)) → (slice_get scopes j ≡ Some z) ⊎ ((j ≡ length scopes) × (y ≡ z)) → s.scope_order x.scope < s.scope_order z.scope
    rising_by i j x z lt (inl a) (inl b) = order.rising i j x z lt a b
    rising_by i j x z lt (inl a) (inr b) = subst (λ (w : NumberedScope). s.scope_order x.scope < s.scope_order w.scope) b.1 (below i x a)
    rising_by i j x z lt (inr a) (inl b) = let there : j < length scopes = slice_get_within scopes j z b in let at : i ≡ length scopes = a.0 in absurd (omega arith)
    rising_by i j x z lt (inr a) (inr b) = let at : i ≡ length scopes = a.0 in let there : j ≡ length scopes = b.0 in absurd (omega arith)

    behind_by : (i o : ℕ) (x : NumberedScope) → (slice_get scopes i ≡ Some x) ⊎ ((i ≡ length scopes) × (y ≡ x)) → x.outer ≡ Some o → o < i
    behind_by i o x (inl at) is = order.behind i o x at is
    behind_by i o x (inr last) is = let less : o < length scopes = inside o (ap (λ (z : NumberedScope). z.outer) last.1 ∙ is) in let at : i ≡ length scopes = last.0 in omega arith

-- and all are before a place that is behind it
before-push : (scopes : List NumberedScope) (y : NumberedScope) (n m : ℕ) → n < m → ((i : ℕ) (x : NumberedScope) → slice_get scopes i ≡ Some x → s.scope_order x.scope < n) → s.scope_order y.scope < m → (i : ℕ) (x : NumberedScope) → slice_get (scopes ++ y ∷ []) i ≡ Some x → s.scope_order x.scope < m
before-push scopes y n m lt each last i x at = by (at_append scopes y i x at)
  where
    by : (slice_get scopes i ≡ Some x) ⊎ ((i ≡ length scopes) × (y ≡ x)) → s.scope_order x.scope < m
    by (inl at) = let below : s.scope_order x.scope < n = each i x at in omega arith
    by (inr there) = subst (λ (z : NumberedScope). s.scope_order z.scope < m) there.1 last

-- a scope that begins at the place goes last
tidy-push : (scopes : List NumberedScope) (names new_names : List d.Name) (place around : ℕ) (y : NumberedScope) → AreTablesTidy scopes names place → IsOnce new_names → s.scope_order y.scope ≡ place + 2 → y.outer ≡ Some around → around < length scopes → AreTablesTidy (scopes ++ y ∷ []) new_names (place + 1)
tidy-push scopes names new_names place around y tidy once is_order is_outer within = record {
  order = order-push scopes y tidy.order (λ i x at. subst (λ n. s.scope_order x.scope < n) (sym is_order) (tidy.before i x at)) (λ o is. subst (λ n. n < length scopes) (same_Some around o (sym is_outer ∙ is)) within);
  before = before-push scopes y (place + 2) (place + 1 + 2) (omega arith) tidy.before (subst (λ n. n < place + 1 + 2) (sym is_order) (omega arith));
  once = once;
}

-- so does the scope that a node makes
tidy-made : (scopes : List NumberedScope) (names new_names : List d.Name) (place around : ℕ) (made : Option ScopeKind) (found : Option s.ScopeKind) → AreTablesTidy scopes names place → IsOnce new_names → option_map kind_named found ≡ made → around < length scopes → AreTablesTidy (scopes ++ option_to_list (option_map (in_scope place around) made)) new_names (place + 1)
tidy-made scopes names new_names place around None found tidy once is within = subst (λ l. AreTablesTidy l new_names (place + 1)) (sym (append-nil scopes)) (tidy-later scopes new_names place (record { order = tidy.order; before = tidy.before; once = once }))
tidy-made scopes names new_names place around (Some kind) None tidy once is within = absurd (none-some kind is)
tidy-made scopes names new_names place around (Some kind) (Some found) tidy once is within = tidy-push scopes names new_names place around (in_scope place around kind) tidy once (ap (λ k. s.scope_order (scope_as k place)) (sym (same_Some (kind_named found) kind is)) ∙ ap s.scope_order (named_scope found place)) refl within

-- a node begins
pub begun-tidy : (old new : ScopeWalk) (items : List Item) (place field : ℕ) (head : Head) (is_nameless : Bool) → IsWalkAt old items place → IsTidyAt old place → BeginsNode old new place field head is_nameless → IsTidyAt new (place + 1)
begun-tidy old new items place field head is_nameless at tidy b =
    let kind : s.ModuleKind = kind_as old.kind in
    let path : List p.Around = (p.spot_before items place).path in
    let known = innermost-open (scopes_of old) kind old.more old.inner (one_by_one (reverse old.outer.items)) path at.nodes in
    let outer : List p.Around = p.in_field field path in
    let made : Option ScopeKind = kind_made head old.inner.block old.inner.is_default in
    let no_first : (t : Bool) → cond (t && false) None made ≡ made = λ (t : Bool). never t made in
    let found : option_map kind_named (s.kind_of_scope head 1 outer) ≡ made = kind_made-named head 1 outer ∙ ap (λ b. cond (leaves_first_out head && 1 == 0) None (kind_made head b (s.is_default outer))) (sym (known.block field)) ∙ ap (λ b. cond (leaves_first_out head && 1 == 0) None (kind_made head old.inner.block b)) (sym (known.defaults field)) ∙ no_first (leaves_first_out head) in
    subst (λ l. AreTablesTidy l (walk_names new) (place + 1)) (sym b.scopes) (tidy-made (scopes_of old) (walk_names old) (walk_names new) place (scope_in old.inner field) made (s.kind_of_scope head 1 outer) tidy (b.once tidy.once) found (number-around (scopes_of old) (scope_in old.inner field) (s.scopes_around kind outer) (known.scope field)))
  where
    never : (t : Bool) (made : Option ScopeKind) → cond (t && false) None made ≡ made
    never true made = refl
    never false made = refl

-- an identifier stands there
pub occurred-tidy : (old new : ScopeWalk) (place field ctxt : ℕ) (symbol : List ℕ) (role : Role) → IsTidyAt old place → Occurs old new place field symbol ctxt role → IsTidyAt new (place + 1)
occurred-tidy old new place field ctxt symbol role tidy o = subst (λ l. AreTablesTidy l (walk_names new) (place + 1)) (sym o.scopes) (tidy-later (scopes_of old) (walk_names new) place (record { order = tidy.order; before = tidy.before; once = o.once tidy.once }))

-- a node ends
pub ended-tidy : (old new : ScopeWalk) (place : ℕ) → IsTidyAt old place → EndsNode old new → IsTidyAt new (place + 1)
ended-tidy old new place tidy e = subst (λ l. AreTablesTidy l (walk_names new) (place + 1)) (sym e.scopes) (subst (λ l. AreTablesTidy (scopes_of old) l (place + 1)) (sym e.names) (tidy-later (scopes_of old) (walk_names old) place tidy))

-- no name is there before the first place
pub once-none : (names : List d.Name) → names ≡ [] → IsOnce names
once-none names is = subst IsOnce (sym is) (λ i j x at_i at_j. absurd (none-some x at_i))

no-order : AreInOrder []
no-order = record {
  rising = λ i j x z lt at_i at_j. absurd (none-some x at_i);
  behind = λ i o x at is. absurd (none-some x at);
}

-- the top alone
pub tidy-module : (scopes : List NumberedScope) (names : List d.Name) → scopes ≡ record { scope = s.Top; outer = None } ∷ [] → IsOnce names → AreTablesTidy scopes names 0
tidy-module scopes names is once = subst (λ l. AreTablesTidy l names 0) (sym is) (record {
  order = order-push [] (record { scope = s.Top; outer = None }) no-order (λ i x at. absurd (none-some x at)) (λ o is. absurd (none-some o is));
  before = before-push [] (record { scope = s.Top; outer = None }) 0 2 (omega arith) (λ i x at. absurd (none-some x at)) (omega arith);
  once = once;
})

-- the top in the wrapper
pub tidy-wrapped : (scopes : List NumberedScope) (names : List d.Name) (wrapper : ℕ) → scopes ≡ (record { scope = s.Wrapper; outer = None } ∷ []) ++ record { scope = s.Top; outer = Some wrapper } ∷ [] → wrapper ≡ 0 → IsOnce names → AreTablesTidy scopes names 0
tidy-wrapped scopes names wrapper is first once = subst (λ l. AreTablesTidy l names 0) (sym is) (record {
  order = order-push (record { scope = s.Wrapper; outer = None } ∷ []) (record { scope = s.Top; outer = Some wrapper }) outside-order (λ i x at. outside-before i x at) (λ o is. let e : wrapper ≡ o = same_Some wrapper o is in omega arith);
  before = before-push (record { scope = s.Wrapper; outer = None } ∷ []) (record { scope = s.Top; outer = Some wrapper }) 1 2 (omega arith) outside-before (omega arith);
  once = once;
})
  where
    outside-order : AreInOrder (record { scope = s.Wrapper; outer = None } ∷ [])
    outside-order = order-push [] (record { scope = s.Wrapper; outer = None }) no-order (λ i x at. absurd (none-some x at)) (λ o is. absurd (none-some o is))

    outside-before : (i : ℕ) (x : NumberedScope) → slice_get (record { scope = s.Wrapper; outer = None } ∷ []) i ≡ Some x → s.scope_order x.scope < 1
    outside-before = before-push [] (record { scope = s.Wrapper; outer = None }) 0 1 (omega arith) (λ i x at. absurd (none-some x at)) (omega arith)
